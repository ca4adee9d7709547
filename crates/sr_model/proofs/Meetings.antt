-- A step that is met keeps satisfiability.
use Rattle.std.proofs.Common.{◌≡◌, ◌⊎◌, inl, inr, ℕ, Bool, true, false, cond, List, [], ◌∷◌, ◌++◌, refl, subst, arith, Option, Some, None}
use Rattle.std.specs.Prelude.{map, nat_le}
use Rattle.std.proofs.lemmas.Bool.Decides.{nat_tests}
use Rattle.sr_base.specs.Literal.{Literal, plus, minus, compl}
use Rattle.sr_base.specs.declared.names.Cause.TheVariants.{NotNew, Unclosed}
use Rattle.sr_model.specs.declared.images.Image.TheVariants.{Yes}
use Rattle.sr_model.specs.Assignment.{Unsat}
use Rattle.sr_model.specs.Refutation.{is_empty}
use Rattle.sr_model.specs.Substitution.{Substitution, Witness, made_true, sent, image, Reduction, untouched, satisfied, left, reduction, substitution, substitution_for, IsPivot}
use Rattle.sr_model.specs.Redundancy.{Rup, MakesFirstTrue, IsRefutedLeft, AreRefuted, Sr}
use Rattle.sr_model.specs.Chain.{Numbered, clauses, ChainEnd, closed, unclosed, faulty, chain}
use Rattle.sr_model.specs.Meeting.{Group, Step, Meeting, met, unmet, both, group_of, group_end, left_meets, all_left_meet, groups_fit, witness_meets, prefix_meets, meets_over, meets, HasPivot}
use Rattle.sr_model.proofs.Soundness.{by_test}
use Rattle.sr_model.proofs.Chains.{closed_refutes, unclosed_refutes}
use Rattle.sr_model.proofs.Moved.{rup_sound, sr_sound}

-- two that are met together are met each
pub both_met : (m n : Meeting) → both m n ≡ met → (m ≡ met) × (n ≡ met)
both_met met n e = (refl, e)
both_met (unmet x) n e = absurd cc

pub group_closed : (n : ℕ) (e : ChainEnd) → group_end n e ≡ met → e ≡ closed
group_closed n closed h = refl
group_closed n (unclosed b) h = absurd cc
group_closed n (faulty x) h = absurd cc

-- what is left of a clause is refuted where its group meets
pub left_refuted : (strict : Bool) (live : Numbered) (c b : List Literal) (prefix : List ℕ) (gs : List Group) (n : ℕ) (r : Reduction) → chain strict live (compl c) prefix ≡ unclosed b
    → left_meets strict live b gs n r ≡ met → IsRefutedLeft (clauses live) c r
left_refuted strict live c b prefix gs n untouched e m = tt
left_refuted strict live c b prefix gs n satisfied e m = tt
left_refuted strict live c b prefix gs n (left d) e m =
    unclosed_refutes strict live (compl c) b (compl d) prefix e
    (closed_refutes strict live (b ++ compl d) (group_of gs n) (group_closed n (chain strict live (b ++ compl d) (group_of gs n)) m))

pub all_left_refuted : (strict : Bool) (live : Numbered) (c b : List Literal) (w : Substitution) (prefix : List ℕ) (gs : List Group) (ps : Numbered) → chain strict live (compl c) prefix ≡ unclosed b
    → all_left_meet strict live b w gs ps ≡ met → AreRefuted (clauses live) (clauses ps) c w
all_left_refuted strict live c b w prefix gs [] e m = tt
all_left_refuted strict live c b w prefix gs (p ∷ ps) e m =
    let r = both_met (left_meets strict live b gs p.0 (reduction w p.1)) (all_left_meet strict live b w gs ps) m in
    (left_refuted strict live c b prefix gs p.0 (reduction w p.1) e r.0, all_left_refuted strict live c b w prefix gs ps e r.1)

-- the part of a pivot makes it true
pub pivot_is_true : (l : Literal) (w : Substitution) → image (made_true l ∷ w) l ≡ Yes
pivot_is_true (plus v) w = grind (arith, nat_tests)
pivot_is_true (minus v) w = grind (arith, nat_tests)

pub first_is_true : (c : List Literal) (o : Option Witness) → ((w : Witness) → o ≡ Some w → IsPivot w.pivot c) → is_empty c ≡ false → MakesFirstTrue (substitution_for c o) c
first_is_true [] o p h = absurd cc
first_is_true (l ∷ ls) None p h = pivot_is_true l []
first_is_true (l ∷ ls) (Some w) p h = let is : w.pivot ≡ l = p w refl in subst (λ k. image (substitution w) k ≡ Yes) is (pivot_is_true w.pivot (map made_true w.assigned ++ map sent w.maps))

-- a step that is met has the property of reverse unit propagation, or is substitution redundant by its witness
pub over_tells : (strict : Bool) (live : Numbered) (s : Step) (e : ChainEnd) → chain strict live (compl s.clause) s.prefix ≡ e → HasPivot s → prefix_meets strict live s e ≡ met
    → Rup (clauses live) s.clause ⊎ ((is_empty s.clause ≡ false) × Sr (clauses live) (clauses live) s.clause (substitution_for s.clause s.witness))
over_tells strict live s closed e g m = inl (closed_refutes strict live (compl s.clause) s.prefix e)
over_tells strict live s (faulty x) e g m = absurd cc
over_tells strict live s (unclosed b) e g m = by_test (is_empty s.clause)
    (λ y. let k : unmet Unclosed ≡ met = rw y at m in absurd cc)
    (λ y. let w : Substitution = substitution_for s.clause s.witness in
    let k : witness_meets strict live b w s.groups ≡ met = rw y at m in
    let r = both_met (cond strict (groups_fit live b w [] s.groups) met) (all_left_meet strict live b w s.groups live) k in
    inr (y, (first_is_true s.clause s.witness g y, all_left_refuted strict live s.clause b w s.prefix s.groups live e r.1)))

pub met_over : (strict : Bool) (live : Numbered) (last : ℕ) (s : Step) → meets strict live last s ≡ met → meets_over strict live s ≡ met
met_over strict live last s m = by_test (nat_le s.id last)
    (λ y. let k : unmet NotNew ≡ met = rw y at m in absurd cc)
    (λ y. rw y at m)

pub met_tells : (strict : Bool) (live : Numbered) (last : ℕ) (s : Step) → HasPivot s → meets strict live last s ≡ met
    → Rup (clauses live) s.clause ⊎ ((is_empty s.clause ≡ false) × Sr (clauses live) (clauses live) s.clause (substitution_for s.clause s.witness))
met_tells strict live last s g m = over_tells strict live s (chain strict live (compl s.clause) s.prefix) refl g (met_over strict live last s m)

pub step_sound : (strict : Bool) (live : Numbered) (last : ℕ) (s : Step) → HasPivot s → meets strict live last s ≡ met → Unsat (clauses live ++ s.clause ∷ []) → Unsat (clauses live)
step_sound strict live last s g m u = at (met_tells strict live last s g m)
  where
    at : Rup (clauses live) s.clause ⊎ ((is_empty s.clause ≡ false) × Sr (clauses live) (clauses live) s.clause (substitution_for s.clause s.witness)) → Unsat (clauses live)
    at (inl r) = rup_sound (clauses live) s.clause r u
    at (inr r) = sr_sound (clauses live) s.clause (substitution_for s.clause s.witness) r.1 u

-- the empty clause is met by its prefix alone
pub empty_refuted : (strict : Bool) (live : Numbered) (s : Step) (e : ChainEnd) → chain strict live (compl s.clause) s.prefix ≡ e → prefix_meets strict live s e ≡ met → is_empty s.clause ≡ true → Rup (clauses live) s.clause
empty_refuted strict live s closed e m y = closed_refutes strict live (compl s.clause) s.prefix e
empty_refuted strict live s (faulty x) e m y = absurd cc
empty_refuted strict live s (unclosed b) e m y = let k : unmet Unclosed ≡ met = rw y at m in absurd cc
