-- What linked steps cite: clauses that are known before them.
use Rattle.std.proofs.Common.{◌≡◌, ℕ, ◌<◌, ◌==◌, true, false, not, ◌&&◌, List, [], ◌∷◌, ◌++◌, Option, Some, None, refl, sym, ◌∙◌, ap, subst, arith, length}
use Rattle.std.specs.Prelude.{filter, nat_le}
use Rattle.std.proofs.lemmas.Bool.Decides.{nat_tests}
use Rattle.sr_base.specs.Literal.{Literal, complement, compl, has}
use Rattle.sr_base.specs.declared.names.Cause.TheVariants.{DeadHint}
use Rattle.sr_model.specs.Assignment.{holds_number}
use Rattle.sr_model.specs.Substitution.{Substitution, Witness, has_pair, substitution}
use Rattle.sr_model.specs.Chain.{Numbered, clause_of, HintEnd, closes, adds, misleads, hint, hint_of_clause}
use Rattle.sr_model.specs.Meeting.{Group, Step}
use Rattle.sr_model.specs.Judging.{numbered_from}
use Rattle.sr_trimming.specs.Citing.{cites, groups_cite, is_cited, cited_of, below, need, numbered_steps}
use Rattle.sr_trimming.specs.Placing.{numbers}
use Rattle.sr_trimming.specs.Backward.{AreLinked}
use Rattle.sr_trimming.specs.Lean.{no_more, stands_in, is_lean, group_start, needs_group, AreLeanGroups, IsLeanWith}
use Rattle.sr_trimming.specs.Trimmed.{LeanByNeed}
use Rattle.sr_trimming.specs.Written.{CiteKnown}
use Rattle.sr_trimming.proofs.Placed.{in_numbers, known_after, RiseTo, rise_formula, rise_push, append_one, need_known}
use Rattle.sr_table.proofs.Paging.{by_test}

-- a clause that is found is of the numbers
found_number : (live : Numbered) (h : ℕ) (c : List Literal) → clause_of live h ≡ Some c → holds_number h (numbers live) ≡ true
found_number [] h c e = absurd cc
found_number (p ∷ ps) h c e = by_test (p.0 == h) (λ t. grind arith) (λ f. grind (arith, found_number ps h c (rw f at e)))

hint_number : (live : Numbered) (a : List Literal) (h : ℕ) (o : Option (List Literal)) → clause_of live h ≡ o → (hint_of_clause a h o ≡ misleads (DeadHint h) → ⊥) → holds_number h (numbers live) ≡ true
hint_number live a h None e n = absurd (n refl)
hint_number live a h (Some c) e n = found_number live h c e

-- the hints of a lean chain are of the clauses
rest_lean : (live : Numbered) (a : List Literal) (hs : List ℕ) (r : HintEnd) → elim r [ closes ↦ no_more hs | adds l ↦ not (has l a) && stands_in live (complement l) hs && is_lean live (a ++ l ∷ []) hs | misleads x ↦ false ] ≡ true
    → (n : ℕ) → holds_number n hs ≡ true → (b : List Literal) × (is_lean live b hs ≡ true)
rest_lean live a [] closes g n h = absurd cc
rest_lean live a (k ∷ ks) closes g n h = absurd cc
rest_lean live a hs (adds l) g n h = (a ++ l ∷ [], grind arith)
rest_lean live a hs (misleads x) g n h = absurd cc

pub lean_cites : (live : Numbered) (a : List Literal) (hs : List ℕ) → is_lean live a hs ≡ true → (n : ℕ) → holds_number n hs ≡ true → holds_number n (numbers live) ≡ true
lean_cites live a [] l n h = absurd cc
lean_cites live a (k ∷ ks) l n h = by_test (has_pair a)
    (λ e. let bad : false ≡ true = rw (e, is_lean) at l in absurd cc)
    (λ e. let ends : elim (hint live a k) [ closes ↦ no_more ks | adds m ↦ not (has m a) && stands_in live (complement m) ks && is_lean live (a ++ m ∷ []) ks | misleads x ↦ false ] ≡ true = rw (e, is_lean) at l in
    by_test (k == n)
    (λ t. let is : k ≡ n = grind (arith, nat_tests) in subst (λ x. holds_number x (numbers live) ≡ true) is (hint_number live a k (clause_of live k) refl (λ m. not_dead ends m)))
    (λ f. let rest : holds_number n ks ≡ true = grind arith in let b = rest_lean live a ks (hint live a k) ends n rest in lean_cites live b.0 ks b.1 n rest))
  where
    not_dead : elim (hint live a k) [ closes ↦ no_more ks | adds m ↦ not (has m a) && stands_in live (complement m) ks && is_lean live (a ++ m ∷ []) ks | misleads x ↦ false ] ≡ true
        → hint_of_clause a k (clause_of live k) ≡ misleads (DeadHint k) → ⊥
    not_dead g m = let bad : false ≡ true = rw m at g in absurd cc

-- so are those of lean groups, and the groups' own numbers
pub groups_cite_lean : (live : Numbered) (b : List Literal) (w : Substitution) (ps : Numbered) (gs : List Group) → AreLeanGroups live b w ps gs
    → (n : ℕ) → groups_cite n gs ≡ true → holds_number n (numbers live) ≡ true
groups_cite_lean live b w [] [] g n h = absurd cc
groups_cite_lean live b w [] (k ∷ gs) g n h = absurd g
groups_cite_lean live b w (p ∷ ps) [] g n h = absurd g
groups_cite_lean live b w (p ∷ ps) (k ∷ gs) g n h = by_test (holds_number n k.1)
    (λ t. lean_cites live (group_start b w p.1) k.1 g.1 n t)
    (λ f. groups_cite_lean live b w ps gs g.2 n (grind arith))

pub step_cites_lean : (live : Numbered) (s : Step) (o : Option Witness) → IsLeanWith live s o → (n : ℕ) → cites n s ≡ true → holds_number n (numbers live) ≡ true
step_cites_lean live s None l n h =
    let none : groups_cite n s.groups ≡ false = ap (groups_cite n) l.1 in
    lean_cites live (compl s.clause) s.prefix l.0 n (grind arith)
step_cites_lean live s (Some w) l n h =
    let none : holds_number n s.prefix ≡ false = ap (holds_number n) l.0 in
    groups_cite_lean live (compl s.clause) (substitution w) (filter (λ p. needs_group (compl s.clause) (substitution w) p.1) live) s.groups l.1 n (grind arith)

-- what is needed is below the step
pub need_below : (all : Numbered) (s : Step) (later : List Step) (n : ℕ) → holds_number n (numbers (need all s later)) ≡ true → n < s.id
need_below all s later n h =
    let one : (is_cited n (s ∷ later) && holds_number n (numbers (below s.id all))) ≡ true = sym (in_numbers (λ m. is_cited m (s ∷ later)) n (below s.id all)) ∙ h in
    let two : holds_number n (numbers (below s.id all)) ≡ (not (nat_le s.id n) && holds_number n (numbers all)) = in_numbers (λ m. not (nat_le s.id m)) n all in
    grind (arith, nat_tests)

-- each step cites numbers below its own
abbrev pub CiteBelow : List Step → Type 0
CiteBelow [] = Unit {0}
CiteBelow (s ∷ later) = ((n : ℕ) → cites n s ≡ true → n < s.id) × CiteBelow later

pub lean_cite_below : (all : Numbered) (ss : List Step) → LeanByNeed all ss → CiteBelow ss
lean_cite_below all [] l = tt
lean_cite_below all (s ∷ later) l = ((λ n h. need_below all s later n (step_cites_lean (need all s later) s s.witness l.0 n h)), lean_cite_below all later l.1)

-- each step cites clauses that are known before it
abbrev pub CiteKnownFrom : Numbered → List Step → Type 0
CiteKnownFrom known [] = Unit {0}
CiteKnownFrom known (s ∷ later) = ((n : ℕ) → cites n s ≡ true → holds_number n (numbers known) ≡ true) × CiteKnownFrom (known_after known s) later

first_known : (known : Numbered) (last : ℕ) (s : Step) (later : List Step) → RiseTo 0 known last → AreLinked last (s ∷ later)
    → ((n : ℕ) → is_cited n (s ∷ later) ≡ true → holds_number n (numbers (known ++ numbered_steps (s ∷ later))) ≡ true)
    → ((n : ℕ) → cites n s ≡ true → n < s.id) → (n : ℕ) → cites n s ≡ true → holds_number n (numbers known) ≡ true
first_known known last s later r l k b n h =
    let cited : is_cited n (s ∷ later) ≡ true = grind arith in
    let low : n < s.id = b n h in
    let in_all = k n cited in
    let in_below : holds_number n (numbers (below s.id (known ++ numbered_steps (s ∷ later)))) ≡ true = in_numbers (λ m. not (nat_le s.id m)) n (known ++ numbered_steps (s ∷ later)) ∙ grind (arith, nat_tests) in
    let in_need : holds_number n (numbers (need (known ++ numbered_steps (s ∷ later)) s later)) ≡ true = in_numbers (λ m. is_cited m (s ∷ later)) n (below s.id (known ++ numbered_steps (s ∷ later))) ∙ grind arith in
    let in_known : holds_number n (numbers (cited_of known (s ∷ later))) ≡ true = ap (λ x. holds_number n (numbers x)) (sym (need_known known last s later r l)) ∙ in_need in
    let both : (is_cited n (s ∷ later) && holds_number n (numbers known)) ≡ true = sym (in_numbers (λ m. is_cited m (s ∷ later)) n known) ∙ in_known in
    grind arith

pub cite_known_from : (known : Numbered) (last : ℕ) (ss : List Step) → RiseTo 0 known last → AreLinked last ss
    → ((n : ℕ) → is_cited n ss ≡ true → holds_number n (numbers (known ++ numbered_steps ss)) ≡ true) → CiteBelow ss → CiteKnownFrom known ss
cite_known_from known last [] r l k b = absurd l
cite_known_from known last (s ∷ []) r l k b = (first_known known last s [] r l k b.0, tt)
cite_known_from known last (s ∷ t ∷ later) r l k b = (
  first_known known last s (t ∷ later) r l k b.0,
  cite_known_from (known_after known s) s.id (t ∷ later) (rise_push 0 known last s.id s.clause r l.0) l.3
      (λ n h. subst (λ x. holds_number n (numbers x) ≡ true) (sym (append_one known (numbered_steps (t ∷ later)) (s.id, s.clause))) (k n (grind arith))) b.1,
)

pub formula_known : (f : List (List Literal)) (all : Numbered) (ss : List Step) → AreLinked (length f) ss → CiteKnown f ss → LeanByNeed all ss → CiteKnownFrom (numbered_from 1 f) ss
formula_known f all ss l k lean = cite_known_from (numbered_from 1 f) (length f) ss (rise_formula f) l k (lean_cite_below all ss lean)
