-- The groups of a lemma that is tested with its witness.
use Rattle.std.specs.Prelude.{ℕ, Bool, true, false, ◌||◌, ◌≡◌, Option, Some, None, List, [], ◌∷◌, map}
use Rattle.sr_base.specs.Literal.{Literal}
use Rattle.sr_model.specs.Assignment.{holds_number}
use Rattle.sr_model.specs.Refutation.{Refutes}
use Rattle.sr_model.specs.Substitution.{Substitution}
use Rattle.sr_model.specs.Chain.{Numbered, clauses, clause_of}
use Rattle.sr_model.specs.Meeting.{Group, Step}
use Rattle.sr_steps.specs.Kept.{Kept}
use Rattle.sr_steps.specs.Adding.{AreOfDistinct}
use Rattle.sr_trimming.specs.Citing.{groups_cite, is_cited}
use Rattle.sr_trimming.specs.Lean.{is_lean, group_start, needs_group}
use Rattle.sr_trimming.specs.CoreFirst.{ready, first_of, AreInOrder, rising}
use Rattle.sr_trimming.specs.From.{Place}
use Rattle.sr_trimming.specs.Evidence.{assumed, moves}
use Rattle.sr_load.specs.Loaded.{LoadedState, all_in}
use Rattle.sr_back.specs.Citing.{with_cited, is_standing}

-- each group is for a clause that needs one, and has a lean chain
abbrev pub AreFound : Numbered → List Literal → Substitution → List Group → Type 0
AreFound live b w [] = Unit {0}
AreFound live b w (g ∷ gs) = ((d : List Literal) × (clause_of live g.0 ≡ Some d) × (needs_group b w d ≡ true) × (is_lean live (group_start b w d) g.1 ≡ true)) × AreFound live b w gs

abbrev pub has_group : List Group → ℕ → Bool
has_group gs n = holds_number n (map (λ g. g.0) gs)

-- these groups were found in this order, and what their chains cite is cited
pub record HasTried (old new : LoadedState) (later : List Step) (p : Place) (gs : List Group) : Type 0 where
  pub same : new ≡ with_cited old new.cited
  pub cited : (n : ℕ) → holds_number n new.cited ≡ (is_cited n later || groups_cite n gs)
  pub order : AreInOrder p.alive later (assumed p) (moves p) [] gs
  pub found : AreFound p.alive (assumed p) (moves p) gs
  pub distinct : AreOfDistinct gs
  pub standing : (n : ℕ) → has_group gs n ≡ true → is_standing new n ≡ true

-- the numbers in a queue are cited and have no group; a cited clause that needs a group has one, or its number is in the queue
pub record IsQueued (st : LoadedState) (p : Place) (gs : List Group) (queue : List ℕ) : Type 0 where
  pub waits : (n : ℕ) → holds_number n queue ≡ true → (is_standing st n ≡ true) × (has_group gs n ≡ false)
  pub rest : (n : ℕ) (c : List Literal) → is_standing st n ≡ true → clause_of (all_in st) n ≡ Some c → needs_group (assumed p) (moves p) c ≡ true → (has_group gs n || holds_number n queue) ≡ true

-- the clause of a number comes next, and isn't refuted
pub record IsStuckAt (later : List Step) (p : Place) (gs : List Group) (against : ℕ) : Type 0 where
  pub clause : List Literal
  pub is_next : first_of (ready p.alive later (assumed p) (moves p) gs) ≡ Some (against, clause)
  pub not_refuted : ¬ Refutes (clauses p.alive) (group_start (assumed p) (moves p) clause)

-- each clause that needs a group has one, and the step is kept; or one has none
abbrev pub GroupsEnd : LoadedState → LoadedState → List Step → Place → ℕ → List Kept → List Kept → Option ℕ → Type 0
GroupsEnd old new later p id was kept None = (gs : List Group) × HasTried old new later p gs × IsQueued new p gs [] × (kept ≡ record { id = id; by_witness = true; prefix = []; groups = rising gs } ∷ was)
GroupsEnd old new later p id was kept (Some against) = (gs : List Group) × HasTried old new later p gs × IsStuckAt later p gs against
