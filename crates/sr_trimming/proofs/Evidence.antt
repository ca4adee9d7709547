-- Where each lemma passes, nothing shows that one fails.
use Rattle.std.proofs.Common.{◌≡◌, inl, inr, ℕ, suc, zero, ◌==◌, Bool, true, not, ◌&&◌, ◌||◌, List, [], ◌∷◌, Some, sym, ◌∙◌, ap, subst, arith}
use Rattle.std.specs.Prelude.{filter, map, nat_le, Contains}
use Rattle.sr_base.specs.Literal.{Literal, compl}
use Rattle.sr_model.specs.Assignment.{holds_number}
use Rattle.sr_model.specs.Refutation.{Refutes}
use Rattle.sr_model.specs.Redundancy.{IsRefutedLeft, AreRefuted}
use Rattle.sr_model.specs.Substitution.{Substitution, Reduction, untouched, satisfied, left, reduction}
use Rattle.sr_model.specs.Chain.{Numbered, clauses}
use Rattle.sr_model.specs.Meeting.{Group, Step, needs_hints}
use Rattle.sr_trimming.specs.Citing.{is_cited, groups_cite}
use Rattle.sr_trimming.specs.Loading.{Done, joined, removed, passed, Standing, at_start, after_done}
use Rattle.sr_trimming.specs.Lean.{left_set, needs_group}
use Rattle.sr_trimming.specs.CoreFirst.{cited_so_far, ready, first_of}
use Rattle.sr_trimming.specs.From.{Place, place_of}
use Rattle.sr_trimming.specs.Passing.{Passes}
use Rattle.sr_trimming.specs.Evidence.{assumed, moves, FailsAt, EachPasses}
use Rattle.sr_trimming.specs.Citing.{below, need, AreRising}
use Rattle.sr_trimming.specs.From.{all_loaded, LemmasHavePivots}
use Rattle.sr_trimming.specs.Backward.{MeetNeed, StepsHavePivots}
use Rattle.sr_trimming.specs.Trimmed.{LeanByNeed}
use Rattle.sr_model.proofs.Soundness.{by_test}
use Rattle.sr_trimming.proofs.Placed.{rise_again}
use Rattle.sr_trimming.proofs.Leanness.{lean_met}
use Rattle.sr_trimming.proofs.Written.{rise_loaded}
use Rattle.sr_trimming.proofs.Origins.{from_pivots}

pub passes_at : (st : Standing) (ds : List Done) (n : ℕ) (p : Place) → EachPasses st ds → place_of st ds n ≡ Some p → Passes (clauses p.alive) (clauses p.alive) p.stated
passes_at st [] n p a e = absurd cc
passes_at st (joined l ∷ ds) n p a e = by_test (st.next == n)
    (λ t. let here : Some (record { alive = st.alive; stated = l }) ≡ Some p = rw t at e in
    let is : record { alive = st.alive; stated = l } ≡ p = cc in subst (λ x. Passes (clauses x.alive) (clauses x.alive) x.stated) is a.0)
    (λ t. passes_at (after_done st (joined l)) ds n p a.1 (rw t at e))
passes_at st (removed k ∷ ds) n p a e = passes_at (after_done st (removed k)) ds n p a e
passes_at st (passed ∷ ds) n p a e = passes_at st ds n p a e

refuted_kept : (t : ℕ × List Literal → Bool) (s : List (List Literal)) (ps : Numbered) (c : List Literal) (w : Substitution) → AreRefuted s (clauses ps) c w → AreRefuted s (clauses (filter t ps)) c w
refuted_kept t s [] c w r = tt
refuted_kept t s (p ∷ ps) c w r = by_test (t p) (λ e. rw e (r.0, refuted_kept t s ps c w r.1)) (λ e. rw e (refuted_kept t s ps c w r.1))

first_refuted : (t : ℕ × List Literal → Bool) (s : List (List Literal)) (ps : Numbered) (c : List Literal) (w : Substitution) (q : ℕ × List Literal) → first_of (filter t ps) ≡ Some q
    → AreRefuted s (clauses ps) c w → (t q ≡ true) × IsRefutedLeft s c (reduction w q.1)
first_refuted t s [] c w q e r = absurd cc
first_refuted t s (p ∷ ps) c w q e r = by_test (t p)
    (λ y. let here : Some p ≡ Some q = rw y at e in let is : p ≡ q = cc in subst (λ x. (t x ≡ true) × IsRefutedLeft s c (reduction w x.1)) is (y, r.0))
    (λ y. first_refuted t s ps c w q (rw y at e) r.1)

needed_refuted : (s : List (List Literal)) (c : List Literal) (r : Reduction) → needs_hints (compl c) r ≡ true → IsRefutedLeft s c r → Refutes s (left_set (compl c) r)
needed_refuted s c untouched n h = absurd cc
needed_refuted s c satisfied n h = absurd cc
needed_refuted s c (left d) n h = h

pub does_not_pass : (f : List (List Literal)) (ds : List Done) (number against : ℕ) (groups : List Group) (tail : List Step) (x : FailsAt f ds number against groups tail)
    → Passes (clauses x.place.alive) (clauses x.place.alive) x.place.stated → ⊥
does_not_pass f ds number against groups tail x (inl r) = x.not_rup r
does_not_pass f ds number against groups tail x (inr r) =
    let s : List (List Literal) = clauses x.place.alive in
    let c : List Literal = x.place.stated.clause in
    let w : Substitution = moves x.place in
    let known = refuted_kept (λ p. is_cited p.0 tail || groups_cite p.0 groups) s x.place.alive c w r.1.1 in
    let found = first_refuted (λ p. needs_group (compl c) w p.1 && not (holds_number p.0 (map (λ g. g.0) groups))) s (cited_so_far x.place.alive tail groups) c w (against, x.clause) x.is_next known in
    x.not_refuted (needed_refuted s c (reduction w x.clause) (grind (arith, found.0)) found.1)

pub never_fails : (f : List (List Literal)) (ds : List Done) → EachPasses (at_start f) ds → (number against : ℕ) (groups : List Group) (tail : List Step) → FailsAt f ds number against groups tail → ⊥
never_fails f ds a number against groups tail x = does_not_pass f ds number against groups tail x (passes_at (at_start f) ds number x.place a x.is_place)

-- an element that a filter keeps was there, and passes
in_kept : (t : ℕ × List Literal → Bool) (ps : Numbered) (q : ℕ × List Literal) → Contains (filter t ps) q → Contains ps q
in_kept t [] q c = c
in_kept t (p ∷ ps) q c = by_test (t p)
    (λ e. at (rw e at c) (λ d. in_kept t ps q d))
    (λ e. more (in_kept t ps q (rw e at c)))
  where
    more : Contains ps q → Contains (p ∷ ps) q
    more d = (suc d.0, omega (arith, d.1), d.2)

    at : Contains (p ∷ filter t ps) q → (Contains (filter t ps) q → Contains ps q) → Contains (p ∷ ps) q
    at (zero, b, e) rest = (0, omega arith, e)
    at (suc k, b, e) rest = more (rest (k, omega arith, e))

first_in : (ps : Numbered) (q : ℕ × List Literal) → first_of ps ≡ Some q → Contains ps q
first_in [] q e = absurd cc
first_in (p ∷ ps) q e = let is : p ≡ q = cc in (0, omega arith, is)

passes_test : (t : ℕ × List Literal → Bool) (ps : Numbered) (q : ℕ × List Literal) → Contains (filter t ps) q → t q ≡ true
passes_test t [] q c = absurd (omega (arith, c.1))
passes_test t (p ∷ ps) q c = by_test (t p)
    (λ e. at e (rw e at c) (λ d. passes_test t ps q d))
    (λ e. passes_test t ps q (rw e at c))
  where
    at : t p ≡ true → Contains (p ∷ filter t ps) q → (Contains (filter t ps) q → t q ≡ true) → t q ≡ true
    at y (zero, b, e) rest = ap t (sym e) ∙ y
    at y (suc k, b, e) rest = rest (k, omega arith, e)

-- the later steps are met
tail_met : (strict : Bool) (all : Numbered) (steps : List Step) → AreRising 0 all → StepsHavePivots steps → LeanByNeed all steps → MeetNeed strict all steps
tail_met strict all [] r g m = tt
tail_met strict all (s ∷ later) r g m = (
  lean_met strict (need all s later) s (rise_again (λ p. is_cited p.0 (s ∷ later)) 0 (below s.id all) (rise_again (λ p. not (nat_le s.id p.0)) 0 all r)) g.0 m.0,
  tail_met strict all later r g.1 m.1,
)

pub is_needed : (f : List (List Literal)) (ds : List Done) (number against : ℕ) (groups : List Group) (tail : List Step) (x : FailsAt f ds number against groups tail)
    → ((is_cited against tail || groups_cite against groups) ≡ true) × Contains x.place.alive (against, x.clause)
    × (LemmasHavePivots ds → (strict : Bool) → MeetNeed strict (all_loaded f ds) tail)
is_needed f ds number against groups tail x =
    let first = first_in (ready x.place.alive tail (assumed x.place) (moves x.place) groups) (against, x.clause) x.is_next in
    let known = in_kept (λ p. needs_group (assumed x.place) (moves x.place) p.1 && not (holds_number p.0 (map (λ g. g.0) groups))) (cited_so_far x.place.alive tail groups) (against, x.clause) first in (
      passes_test (λ p. is_cited p.0 tail || groups_cite p.0 groups) x.place.alive (against, x.clause) known,
      in_kept (λ p. is_cited p.0 tail || groups_cite p.0 groups) x.place.alive (against, x.clause) known,
      λ h strict. tail_met strict (all_loaded f ds) tail (rise_loaded f ds) (from_pivots f ds tail h x.from) x.lean,
    )
