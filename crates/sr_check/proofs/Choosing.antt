-- Lemmas on meeting the clauses of a list of numbers in place of all clauses.
use Rattle.std.proofs.Common.{◌≡◌, ◌⊎◌, inl, inr, ℕ, suc, zero, ◌+◌, ◌<◌, ◌≤◌, ◌==◌, Bool, true, false, List, [], ◌∷◌, length, get_or, take, refl, ◌∙◌, subst, arith, Option, Some, None}
use Rattle.std.specs.List.Sorted.{IsNonDecreasing}
use Rattle.std.proofs.lemmas.Bool.Decides.{nat_tests}
use Rattle.std.proofs.lemmas.Bool.{cases_lt}
use Rattle.sr_base.specs.Literal.{Literal}
use Rattle.sr_base.specs.declared.names.Cause.{Cause}
use Rattle.sr_model.specs.Assignment.{holds_number}
use Rattle.sr_model.specs.Substitution.{Substitution, Reduction, untouched, satisfied, left, reduction}
use Rattle.sr_model.specs.Chain.{Numbered, clause_of}
use Rattle.sr_model.specs.Meeting.{Group, Meeting, met, unmet, both, left_meets, all_left_meet}
use Rattle.sr_occurs.specs.Candidates.{is_left, HoldsLeft}
use Rattle.sr_check.specs.Candidates.{RiseFrom, AreRising, number_meets, list_meets}
use Rattle.sr_table.proofs.Paging.{by_test}

-- the numbers of a list are met
abbrev pub AreMet : Bool → Numbered → List Literal → Substitution → List Group → List ℕ → Type 0
AreMet strict live b s gs ns = (n : ℕ) → holds_number n ns ≡ true → number_meets strict live b s gs n ≡ met

-- a number that stands before is held
held_take : (ns : List ℕ) (i j : ℕ) → j < i → j < length ns → holds_number (get_or ns j 0) (take i ns) ≡ true
held_take [] i j h lt = absurd (omega arith)
held_take (k ∷ ks) zero j h lt = absurd (omega arith)
held_take (k ∷ ks) (suc i) zero h lt = let t : (k == k) ≡ true = grind (arith, nat_tests) in rw t refl
held_take (k ∷ ks) (suc i) (suc j) h lt = let r : holds_number (get_or ks j 0) (take i ks) ≡ true = held_take ks i j (omega arith) (omega arith) in grind (arith, r)

-- numbers that are met one after another, and the first one that isn't
met_both : (x y : Meeting) → both x y ≡ met → (x ≡ met) × (y ≡ met)
met_both met y h = (refl, h)
met_both (unmet c) y h = absurd cc

pub met_each : (strict : Bool) (live : Numbered) (b : List Literal) (s : Substitution) (gs : List Group) (ns : List ℕ) → list_meets strict live b s gs ns ≡ met → AreMet strict live b s gs ns
met_each strict live b s gs [] h n m = absurd cc
met_each strict live b s gs (k ∷ ks) h n m =
    let r = met_both (number_meets strict live b s gs k) (list_meets strict live b s gs ks) h in
    by_test (k == n)
    (λ t. let e : k ≡ n = grind (arith, nat_tests) in subst (λ i. number_meets strict live b s gs i ≡ met) e r.0)
    (λ f. met_each strict live b s gs ks r.1 n (grind (arith, m, f)))

-- where the first one stands
record IsFirst (strict : Bool) (live : Numbered) (b : List Literal) (s : Substitution) (gs : List Group) (ns : List ℕ) (x : Cause) : Type 0 where
  place : ℕ
  within : place < length ns
  before : AreMet strict live b s gs (take place ns)
  here : number_meets strict live b s gs (get_or ns place 0) ≡ unmet x

first_unmet : (strict : Bool) (live : Numbered) (b : List Literal) (s : Substitution) (gs : List Group) (ns : List ℕ) (x : Cause) → list_meets strict live b s gs ns ≡ unmet x → IsFirst strict live b s gs ns x
first_unmet strict live b s gs [] x h = absurd cc
first_unmet strict live b s gs (k ∷ ks) x h = at (first_unmet strict live b s gs ks x) (number_meets strict live b s gs k) refl
  where
    at : (list_meets strict live b s gs ks ≡ unmet x → IsFirst strict live b s gs ks x) → (m : Meeting) → number_meets strict live b s gs k ≡ m → IsFirst strict live b s gs (k ∷ ks) x
    at later (unmet y) e = let same : unmet y ≡ unmet x = rw e at h in record { place = 0; within = omega arith; before = λ n i. absurd cc; here = e ∙ same }
    at later met e =
        let r : IsFirst strict live b s gs ks x = later (rw e at h) in
        record {
          place = suc r.place;
          within = omega (arith, r.within);
          before = λ n i. by_test (k == n)
              (λ t. let is : k ≡ n = grind (arith, nat_tests) in subst (λ j. number_meets strict live b s gs j ≡ met) is e)
              (λ f. r.before n (grind (arith, i, f)));
          here = r.here;
        }

-- what is to be met of a clause is met, if something is left of it
nothing_left : (strict : Bool) (live : Numbered) (b : List Literal) (gs : List Group) (n : ℕ) (r : Reduction) → (is_left r ≡ true → left_meets strict live b gs n r ≡ met) → left_meets strict live b gs n r ≡ met
nothing_left strict live b gs n untouched h = refl
nothing_left strict live b gs n satisfied h = refl
nothing_left strict live b gs n (left d) h = h refl

-- the clauses of a part of the live ones are found under their numbers
abbrev IsPart : Numbered → Numbered → Type 0
IsPart live ps = (n : ℕ) (c : List Literal) → clause_of ps n ≡ Some c → clause_of live n ≡ Some c

rise_below : (low n : ℕ) (ps : Numbered) (c : List Literal) → RiseFrom low ps → clause_of ps n ≡ Some c → low ≤ n
rise_below low n [] c r e = absurd cc
rise_below low n (p ∷ ps) c r e = by_test (p.0 == n)
    (λ t. let is : p.0 ≡ n = grind (arith, nat_tests) in omega (arith, r.0))
    (λ f. let later : p.0 + 1 ≤ n = rise_below (p.0 + 1) n ps c r.1 (rw f at e) in omega (arith, r.0))

first_of : (p : ℕ × List Literal) (ps : Numbered) → clause_of (p ∷ ps) p.0 ≡ Some p.1
first_of p ps = let t : (p.0 == p.0) ≡ true = grind (arith, nat_tests) in rw t refl

rest_of : (p : ℕ × List Literal) (ps : Numbered) → RiseFrom (p.0 + 1) ps → IsPart (p ∷ ps) ps
rest_of p ps r n c e =
    let above : p.0 + 1 ≤ n = rise_below (p.0 + 1) n ps c r e in
    let f : (p.0 == n) ≡ false = grind (arith, nat_tests) in
    rw f e

-- one clause is met
one_met : (strict : Bool) (live : Numbered) (b : List Literal) (s : Substitution) (gs : List Group) (p : ℕ × List Literal) → clause_of live p.0 ≡ Some p.1 → (is_left (reduction s p.1) ≡ true → number_meets strict live b s gs p.0 ≡ met) → left_meets strict live b gs p.0 (reduction s p.1) ≡ met
one_met strict live b s gs p e h = nothing_left strict live b gs p.0 (reduction s p.1) (λ l. rw (e, number_meets) at (h l))

-- all numbers are met
met_part : (strict : Bool) (live : Numbered) (b : List Literal) (s : Substitution) (gs : List Group) (ns : List ℕ) (low : ℕ) (ps : Numbered) → RiseFrom low ps → IsPart live ps → HoldsLeft s ns ps → AreMet strict live b s gs ns → all_left_meet strict live b s gs ps ≡ met
met_part strict live b s gs ns low [] r part holds done = refl
met_part strict live b s gs ns low (p ∷ ps) r part holds done =
    let one : left_meets strict live b gs p.0 (reduction s p.1) ≡ met = one_met strict live b s gs p (part p.0 p.1 (first_of p ps)) (λ l. done p.0 (holds.0 l)) in
    let rest : all_left_meet strict live b s gs ps ≡ met = met_part strict live b s gs ns (p.0 + 1) ps r.1 (λ n c e. part n c (rest_of p ps r.1 n c e)) holds.1 done in
    rw (one, rest) refl

pub all_met : (strict : Bool) (live : Numbered) (b : List Literal) (s : Substitution) (gs : List Group) (ns : List ℕ) → AreRising live → HoldsLeft s ns live → AreMet strict live b s gs ns → all_left_meet strict live b s gs live ≡ met
all_met strict live b s gs ns r holds done = met_part strict live b s gs ns 0 live r (λ n c e. e) holds done

-- the numbers below one are met, and that one isn't
unmet_part : (strict : Bool) (live : Numbered) (b : List Literal) (s : Substitution) (gs : List Group) (ns : List ℕ) (n : ℕ) (x : Cause) (low : ℕ) (ps : Numbered) (c : List Literal) → RiseFrom low ps → IsPart live ps → HoldsLeft s ns ps
    → ((m : ℕ) → m < n → holds_number m ns ≡ true → number_meets strict live b s gs m ≡ met) → clause_of ps n ≡ Some c → number_meets strict live b s gs n ≡ unmet x → all_left_meet strict live b s gs ps ≡ unmet x
unmet_part strict live b s gs ns n x low [] c r part holds done e bad = absurd cc
unmet_part strict live b s gs ns n x low (p ∷ ps) c r part holds done e bad = by_test (p.0 == n)
    (λ t. let is : n ≡ p.0 = grind (arith, nat_tests) in
    let one : left_meets strict live b gs p.0 (reduction s p.1) ≡ unmet x = rw (part p.0 p.1 (first_of p ps), number_meets) at (rw is at bad) in
    rw one refl)
    (λ f. let later : clause_of ps n ≡ Some c = rw f at e in
    let above : p.0 + 1 ≤ n = rise_below (p.0 + 1) n ps c r.1 later in
    let one : left_meets strict live b gs p.0 (reduction s p.1) ≡ met = one_met strict live b s gs p (part p.0 p.1 (first_of p ps)) (λ l. done p.0 (omega arith) (holds.0 l)) in
    let rest : all_left_meet strict live b s gs ps ≡ unmet x = unmet_part strict live b s gs ns n x (p.0 + 1) ps c r.1 (λ m d g. part m d (rest_of p ps r.1 m d g)) holds.1 done later bad in
    rw (one, rest) refl)

-- a number of a sorted list that is below another one stands before it
held_at : (m : ℕ) (ns : List ℕ) → holds_number m ns ≡ true → (j : ℕ) × (j < length ns) × (get_or ns j 0 ≡ m)
held_at m [] h = absurd cc
held_at m (k ∷ ks) h = by_test (k == m)
    (λ t. (0, omega arith, grind (arith, nat_tests)))
    (λ f. let r = held_at m ks (grind (arith, h, f)) in (suc r.0, omega (arith, r.1), r.2))

stands_before : (ns : List ℕ) (i n m : ℕ) → IsNonDecreasing ns → i < length ns → n ≡ get_or ns i 0 → m < n → holds_number m ns ≡ true → holds_number m (take i ns) ≡ true
stands_before ns i n m sorted h is lt held =
    let r = held_at m ns held in
    let before : r.0 < i = at r.0 r.1 r.2 (cases_lt r.0 i) in
    subst (λ k. holds_number k (take i ns) ≡ true) r.2 (held_take ns i r.0 before r.1)
  where
    at : (j : ℕ) → j < length ns → get_or ns j 0 ≡ m → (j < i) ⊎ (i ≤ j) → j < i
    at j within e (inl b) = b
    at j within e (inr b) = absurd (omega (arith, sorted i j 0 b within))

pub one_unmet : (strict : Bool) (live : Numbered) (b : List Literal) (s : Substitution) (gs : List Group) (ns : List ℕ) (i n : ℕ) (x : Cause) → AreRising live → HoldsLeft s ns live → IsNonDecreasing ns → i < length ns → n ≡ get_or ns i 0 → AreMet strict live b s gs (take i ns)
    → number_meets strict live b s gs n ≡ unmet x → all_left_meet strict live b s gs live ≡ unmet x
one_unmet strict live b s gs ns i n x r holds sorted h is done bad = at (clause_of live n) refl
  where
    at : (o : Option (List Literal)) → clause_of live n ≡ o → all_left_meet strict live b s gs live ≡ unmet x
    at None e = let c : met ≡ unmet x = rw (e, number_meets) at bad in absurd cc
    at (Some c) e = unmet_part strict live b s gs ns n x 0 live c r (λ m d g. g) holds (λ m lt held. done m (stands_before ns i n m sorted h is lt held)) e bad

-- a sorted list of numbers stands for all clauses
pub all_sorted : (strict : Bool) (live : Numbered) (b : List Literal) (s : Substitution) (gs : List Group) (ns : List ℕ) (m : Meeting) → AreRising live → HoldsLeft s ns live → IsNonDecreasing ns → list_meets strict live b s gs ns ≡ m → all_left_meet strict live b s gs live ≡ m
all_sorted strict live b s gs ns met r holds sorted h = all_met strict live b s gs ns r holds (met_each strict live b s gs ns h)
all_sorted strict live b s gs ns (unmet x) r holds sorted h =
    let f : IsFirst strict live b s gs ns x = first_unmet strict live b s gs ns x h in
    one_unmet strict live b s gs ns f.place (get_or ns f.place 0) x r holds sorted f.within refl f.before f.here
