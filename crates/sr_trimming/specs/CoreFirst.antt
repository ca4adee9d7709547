-- Clauses that are cited already come first.
use Rattle.std.specs.Prelude.{ℕ, true, not, nat_le, ◌||◌, ◌&&◌, ◌≡◌, cond, Option, Some, None, List, [], ◌∷◌, ◌++◌, filter, map}
use Rattle.sr_base.specs.Literal.{Literal, compl}
use Rattle.sr_model.specs.Assignment.{holds_number}
use Rattle.sr_model.specs.Refutation.{Refutes}
use Rattle.sr_model.specs.Substitution.{Substitution, Witness, substitution}
use Rattle.sr_model.specs.Chain.{Numbered, clauses}
use Rattle.sr_model.specs.Meeting.{Group, Step}
use Rattle.sr_trimming.specs.Citing.{groups_cite, is_cited, cited_of, need}
use Rattle.sr_trimming.specs.Placing.{numbers}
use Rattle.sr_trimming.specs.Lean.{group_start, needs_group}

-- the clauses that are cited by later steps or by the groups met so far
abbrev pub cited_so_far : Numbered → List Step → List Group → Numbered
cited_so_far live later met = filter (λ p. is_cited p.0 later || groups_cite p.0 met) live

-- those of them that need a group and have none
abbrev pub ready : Numbered → List Step → List Literal → Substitution → List Group → Numbered
ready live later b w met = filter (λ p. needs_group b w p.1 && not (holds_number p.0 (map (λ g. g.0) met))) (cited_so_far live later met)

abbrev pub first_of : Numbered → Option (ℕ × List Literal)
first_of [] = None
first_of (p ∷ ps) = Some p

-- each hint is the number of one of the clauses
abbrev pub AreOf : List ℕ → Numbered → Type 0
AreOf hints live = (n : ℕ) → holds_number n hints ≡ true → holds_number n (numbers live) ≡ true

-- where these clauses refute, the hints are of them
abbrev pub IsCoreFirst : Numbered → List Literal → List ℕ → Type 0
IsCoreFirst m a hints = Refutes (clauses m) a → AreOf hints m

-- the groups were met in this order: each is that of the ready clause of least number
abbrev pub AreInOrder : Numbered → List Step → List Literal → Substitution → List Group → List Group → Type 0
AreInOrder live later b w met [] = Unit {0}
AreInOrder live later b w met (g ∷ gs) =
    ((d : List Literal) × (first_of (ready live later b w met) ≡ Some (g.0, d)) × IsCoreFirst (cited_so_far live later met) (group_start b w d) g.1)
    × AreInOrder live later b w (met ++ g ∷ []) gs

-- the groups in rising order
abbrev pub put_in : Group → List Group → List Group
put_in g [] = g ∷ []
put_in g (k ∷ ks) = cond (nat_le g.0 k.0) (g ∷ k ∷ ks) (k ∷ put_in g ks)

abbrev pub rising : List Group → List Group
rising [] = []
rising (g ∷ gs) = put_in g (rising gs)

-- over the clauses that a step or a later one cites: the hints are of those that a later one cites where these suffice
abbrev pub StepIsCoreFirst : Numbered → List Step → Step → Option Witness → Type 0
StepIsCoreFirst live later s None = IsCoreFirst (cited_of live later) (compl s.clause) s.prefix
StepIsCoreFirst live later s (Some w) = (met : List Group) × (s.groups ≡ rising met) × AreInOrder live later (compl s.clause) (substitution w) [] met

abbrev pub AreCoreFirst : Numbered → List Step → Type 0
AreCoreFirst all [] = Unit {0}
AreCoreFirst all (s ∷ later) = StepIsCoreFirst (need all s later) later s s.witness × AreCoreFirst all later
