-- Lemmas on looking at one clause.
use Rattle.std.proofs.Common.{◌≡◌, ◌≢◌, ◌<◌, ℕ, suc, zero, true, false, not, List, [], ◌∷◌, Option, Some, None, option_to_list, refl, sym, ◌∙◌, ap, subst, arith, length, get_or, take}
use Rattle.std.specs.Prelude.{is_some}
use Rattle.sr_base.specs.Literal.{Literal, complement, same, has, NoRepeats}
use Rattle.sr_base.proofs.Literals.{same_tells}
use Rattle.sr_model.specs.Refutation.{IsClosedFor, is_empty}
use Rattle.sr_model.specs.Chain.{open_literals}
use Rattle.sr_model.proofs.Soundness.{by_test, has_kept}
use Rattle.sr_model.proofs.Chains.{open_none, open_one, open_rest}
use Rattle.sr_model.proofs.Saturation.{has_at}
use Rattle.sr_watch.specs.State.{AllFalse}
use Rattle.sr_watch.specs.Scanning.{IsSettled, IsSingle}

-- two literals whose complements aren't in the list
two_open : (ls c : List Literal) (k l : Literal) → has k c ≡ true → has l c ≡ true → k ≢ l → has (complement k) ls ≡ false → has (complement l) ls ≡ false → IsClosedFor ls c
two_open ls c k l hk hl ne ok ol x hx others = by_test (same k x)
    (λ t. let is : k ≡ x = grind (arith, same_tells k x) in let d : l ≢ x = (λ e. ne (is ∙ sym e)) in let o : has (complement l) ls ≡ true = others l hl d in absurd cc)
    (λ f. let d : k ≢ x = grind (arith, same_tells k x) in let o : has (complement k) ls ≡ true = others k hk d in absurd cc)

new_place : (c : List Literal) (i : ℕ) (k l : Literal) → NoRepeats c → i < length c → l ≡ get_or c i l → has k (take i c) ≡ true → k ≢ l
new_place [] i k l n lt e h = absurd (omega arith)
new_place (x ∷ c) zero k l n lt e h = absurd cc
new_place (x ∷ c) (suc i) k l n lt e h = by_test (same x k)
    (λ t. λ q. let is : x ≡ k = grind (arith, same_tells x k) in let there : has l c ≡ true = has_at c i l (omega arith) e in let m : has x c ≡ true = subst (λ j. has j c ≡ true) (sym (is ∙ q)) there in absurd cc)
    (λ f. new_place c i k l n.1 (omega arith) e (grind arith))

pub nonempty : (c : List Literal) (l : Literal) → has l c ≡ true → is_empty c ≡ false
nonempty [] l h = absurd cc
nonempty (x ∷ c) l h = refl

pub in_take : (c : List Literal) (i : ℕ) (k : Literal) → has k (take i c) ≡ true → has k c ≡ true
in_take [] zero k h = absurd cc
in_take [] (suc i) k h = absurd cc
in_take (x ∷ c) zero k h = absurd cc
in_take (x ∷ c) (suc i) k h = by_test (same x k) (λ t. grind arith) (λ f. grind (arith, in_take c i k))

-- a second literal is open
pub second_settles : (ls c : List Literal) (i : ℕ) (l : Literal) (found : Option Literal) → NoRepeats c → i < length c → l ≡ get_or c i l → option_to_list found ≡ open_literals ls (take i c) → is_some found ≡ true → has (complement l) ls ≡ false → IsSettled ls c
second_settles ls c i l None n lt e o s u = absurd cc
second_settles ls c i l (Some k) n lt e o s u =
    let mine : has l c ≡ true = has_at c i l lt e in
    let q : has k (open_literals ls (take i c)) ≡ true = ap (has k) (sym o) ∙ grind (arith, same_tells k k) in
    let r : has k (take i c) ≡ true = grind (arith, has_kept (λ j. not (has (complement j) ls)) k (take i c)) in
    let v : has (complement k) ls ≡ false = grind (arith, has_kept (λ j. not (has (complement j) ls)) k (take i c)) in
    record { closed = two_open ls c k l (in_take c i k r) mine (new_place c i k l n lt e r) v u; some = nonempty c l mine }

pub refuted_is : (ls c : List Literal) → open_literals ls c ≡ [] → AllFalse ls c
refuted_is ls c o k h = open_none ls c o k h

open_here : (ls c : List Literal) (l : Literal) → open_literals ls c ≡ l ∷ [] → has (complement l) ls ≡ false
open_here ls c l o = let n : has l (open_literals ls c) ≡ has l (l ∷ []) = ap (has l) o in grind (arith, has_kept (λ k. not (has (complement k) ls)) l c, same_tells l l)

pub single_is : (ls c : List Literal) (l : Literal) → open_literals ls c ≡ l ∷ [] → has l ls ≡ false → IsSingle ls c l
single_is ls c l o n = record {
  forced = record { of_clause = open_one ls c l o; others = λ k h ne. open_rest ls c l o k h ne };
  open_here = record { not_true = n; not_false = open_here ls c l o };
}

pub true_settles : (ls c : List Literal) (l : Literal) → open_literals ls c ≡ l ∷ [] → has l ls ≡ true → IsSettled ls c
true_settles ls c l o t = record {
  closed = λ x hx others. by_test (same l x)
      (λ e. let is : l ≡ x = grind (arith, same_tells l x) in subst (λ j. has j ls ≡ true) is t)
      (λ f. let d : l ≢ x = grind (arith, same_tells l x) in let g : has (complement l) ls ≡ true = others l (open_one ls c l o) d in let u : has (complement l) ls ≡ false = open_here ls c l o in absurd cc);
  some = nonempty c l (open_one ls c l o);
}
