-- The first pair of assumed literals, and the entries before the first assumed one, when an entry comes or goes.
use Rattle.std.proofs.Common.{◌≡◌, ◌<◌, ◌≤◌, ◌+◌, ◌-◌, ℕ, suc, zero, Bool, true, false, not, cond, ◌==◌, List, [], ◌∷◌, ◌++◌, refl, sym, ◌∙◌, arith, length, take, take_all, min}
use Rattle.std.proofs.lemmas.List.{take-append-le, take-take, take_at, length-append, length-take}
use Rattle.std.proofs.lemmas.Bool.Decides.{nat_tests}
use Rattle.sr_base.specs.Literal.{Literal, complement, has}
use Rattle.sr_base.proofs.Literals.{same_tells, has_append}
use Rattle.sr_model.specs.Substitution.{has_pair}
use Rattle.sr_model.proofs.Chains.{pair_from, pair_tells}
use Rattle.sr_model.proofs.Soundness.{by_test}
use Rattle.sr_watch.specs.State.{assumed_in}
use Rattle.sr_watch.specs.Trail.{IsAssumedPairAt, root_length}
use Rattle.sr_watch.proofs.Answering.{pair_push}
use Rattle.sr_watch.proofs.Entries.{by_eq}
use Rattle.sr_watch.proofs.Growing.{assumed_push, assumed_cut_has}
use Rattle.sr_watch.proofs.Tables.{no_pair_less}

-- an entry more
kept : (ls : List Literal) (rs : List ℕ) (l : Literal) (r n : ℕ) → length rs ≡ length ls → 0 < n → IsAssumedPairAt ls rs n → IsAssumedPairAt (ls ++ l ∷ []) (rs ++ r ∷ []) n
kept ls rs l r n size pos c =
    let w = c.within in
    let one : take n (ls ++ l ∷ []) ≡ take n ls = take-append-le n ls (l ∷ []) w in
    let two : take n (rs ++ r ∷ []) ≡ take n rs = take-append-le n rs (r ∷ []) (omega arith) in
    let three : take (n - 1) (ls ++ l ∷ []) ≡ take (n - 1) ls = take-append-le (n - 1) ls (l ∷ []) (omega arith) in
    let four : take (n - 1) (rs ++ r ∷ []) ≡ take (n - 1) rs = take-append-le (n - 1) rs (r ∷ []) (omega arith) in
    record {
      within = omega (arith, length-append ls (l ∷ []));
      none = λ z. absurd (omega arith);
      some = λ p. rw (one, two) (c.some p);
      none_before = λ p. rw (three, four) (c.none_before p);
    }

made : (ls : List Literal) (rs : List ℕ) (l : Literal) → length rs ≡ length ls → has_pair (assumed_in ls rs) ≡ false → has (complement l) (assumed_in ls rs) ≡ true → IsAssumedPairAt (ls ++ l ∷ []) (rs ++ 0 ∷ []) (length ls + 1)
made ls rs l size p h =
    let back : (length ls + 1) - 1 ≡ length ls = omega arith in
    let one : take (length ls + 1) (ls ++ l ∷ []) ≡ ls ++ l ∷ [] = take_all (length ls + 1) (ls ++ l ∷ []) (omega (arith, length-append ls (l ∷ []))) in
    let two : take (length ls + 1) (rs ++ 0 ∷ []) ≡ rs ++ 0 ∷ [] = take_all (length ls + 1) (rs ++ 0 ∷ []) (omega (arith, size, length-append rs (0 ∷ []))) in
    let three : take (length ls) (ls ++ l ∷ []) ≡ ls = take_at ls (l ∷ []) (length ls) refl in
    let four : take (length ls) (rs ++ 0 ∷ []) ≡ rs = take_at rs (0 ∷ []) (length ls) size in
    let more : assumed_in (ls ++ l ∷ []) (rs ++ 0 ∷ []) ≡ assumed_in ls rs ++ l ∷ [] = assumed_push ls rs l 0 size in
    let mine : has l (assumed_in ls rs ++ l ∷ []) ≡ true = grind (arith, has_append l (assumed_in ls rs) (l ∷ []), same_tells l l) in
    let other : has (complement l) (assumed_in ls rs ++ l ∷ []) ≡ true = grind (arith, has_append (complement l) (assumed_in ls rs) (l ∷ [])) in
    record {
      within = omega (arith, length-append ls (l ∷ []));
      none = λ z. absurd (omega arith);
      some = λ _. rw (one, two, more) (pair_from (assumed_in ls rs ++ l ∷ []) (l, mine, other));
      none_before = λ _. rw (back, three, four) p;
    }

unmade : (ls : List Literal) (rs : List ℕ) (l : Literal) (r : ℕ) → length rs ≡ length ls → has_pair (assumed_in ls rs) ≡ false → (r ≡ 0 → has (complement l) (assumed_in ls rs) ≡ false) → IsAssumedPairAt (ls ++ l ∷ []) (rs ++ r ∷ []) 0
unmade ls rs l r size p h = record {
  within = omega arith;
  none = λ _. rw (assumed_push ls rs l r size) (by_test (r == 0)
      (λ t. let z : r ≡ 0 = grind (arith, nat_tests) in rw t (pair_push (assumed_in ls rs) l p (h z)))
      (λ t. rw t p));
  some = λ pos. absurd (omega arith);
  none_before = λ pos. absurd (omega arith);
}

pub assumed_pair_push : (ls : List Literal) (rs : List ℕ) (l : Literal) (r n : ℕ) (b : Bool) → length rs ≡ length ls → IsAssumedPairAt ls rs n → b ≡ cond (r == 0) (has (complement l) (assumed_in ls rs)) false
    → IsAssumedPairAt (ls ++ l ∷ []) (rs ++ r ∷ []) (cond (n == 0) (cond b (length ls + 1) 0) n)
assumed_pair_push ls rs l r n b size c is = by_eq n 0
    (λ z. let t : (n == 0) ≡ true = grind (arith, nat_tests) in
    let p : has_pair (assumed_in ls rs) ≡ false = c.none z in
    rw t (by_eq r 0
    (λ e. let q : b ≡ has (complement l) (assumed_in ls rs) = rw e at is in
    rw e (by_test b (λ y. rw y (made ls rs l size p (sym q ∙ y))) (λ y. rw y (unmade ls rs l 0 size p (λ _. sym q ∙ y)))))
    (λ ne. let f : (r == 0) ≡ false = grind (arith, nat_tests) in
    let q : b ≡ false = rw f at is in
    rw q (unmade ls rs l r size p (λ e. absurd (ne e))))))
    (λ ne. let t : (n == 0) ≡ false = grind (arith, nat_tests) in rw t (kept ls rs l r n size (omega (arith, ne)) c))

-- the first entries alone
pub assumed_pair_pop : (ls : List Literal) (rs : List ℕ) (m n : ℕ) → m ≤ length ls → IsAssumedPairAt ls rs n → (n ≤ m → IsAssumedPairAt (take m ls) (take m rs) n) × (m < n → IsAssumedPairAt (take m ls) (take m rs) 0)
assumed_pair_pop ls rs m n le c = (
  (λ small.
      let one : take n (take m ls) ≡ take n ls = take-take n m ls small in
      let two : take n (take m rs) ≡ take n rs = take-take n m rs small in
      let three : take (n - 1) (take m ls) ≡ take (n - 1) ls = take-take (n - 1) m ls (omega arith) in
      let four : take (n - 1) (take m rs) ≡ take (n - 1) rs = take-take (n - 1) m rs (omega arith) in
      record {
        within = omega (arith, length-take m ls);
        none = λ z. no_pair_less (assumed_in (take m ls) (take m rs)) (assumed_in ls rs) (assumed_cut_has m ls rs) (c.none z);
        some = λ p. rw (one, two) (c.some p);
        none_before = λ p. rw (three, four) (c.none_before p);
      }),
  (λ big.
      let one : take m (take (n - 1) ls) ≡ take m ls = take-take m (n - 1) ls (omega arith) in
      let two : take m (take (n - 1) rs) ≡ take m rs = take-take m (n - 1) rs (omega arith) in
      record {
        within = omega arith;
        none = λ _. no_pair_less (assumed_in (take m ls) (take m rs)) (assumed_in (take (n - 1) ls) (take (n - 1) rs))
            (rw (← one, ← two) (assumed_cut_has m (take (n - 1) ls) (take (n - 1) rs))) (c.none_before (omega arith));
        some = λ pos. absurd (omega arith);
        none_before = λ pos. absurd (omega arith);
      }),
)

-- a place tells whether there is a pair
pub assumed_pair_tells : (ls : List Literal) (rs : List ℕ) (n : ℕ) → IsAssumedPairAt ls rs n → not (n == 0) ≡ has_pair (assumed_in ls rs)
assumed_pair_tells ls rs n c = by_eq n 0
    (λ z. let t : (n == 0) ≡ true = grind (arith, nat_tests) in rw t (sym (c.none z)))
    (λ ne. let t : (n == 0) ≡ false = grind (arith, nat_tests) in
    let w = pair_tells (assumed_in (take n ls) (take n rs)) (c.some (omega (arith, ne))) in
    rw t (sym (pair_from (assumed_in ls rs) (w.0, assumed_cut_has n ls rs w.0 w.1, assumed_cut_has n ls rs (complement w.0) w.2))))

-- the entries before the first assumed one
pub root_push : (rs : List ℕ) (r : ℕ) → root_length (rs ++ r ∷ []) ≡ cond (r == 0) (root_length rs) (cond (root_length rs + 1 == length rs + 1) (length rs + 1) (root_length rs))
root_push [] r = by_test (r == 0) (λ t. rw t refl) (λ t. rw t refl)
root_push (q ∷ rs) r = by_test (q == 0)
    (λ t. let f : (0 + 1 == suc (length rs) + 1) ≡ false = grind (arith, nat_tests) in rw t (by_test (r == 0) (λ u. rw u refl) (λ u. rw (u, f) refl)))
    (λ t. rw (t, root_push rs r) (by_test (r == 0)
    (λ u. rw u refl)
    (λ u. by_eq (root_length rs) (length rs)
    (λ e. let f : (root_length rs + 1 == length rs + 1) ≡ true = grind (arith, nat_tests) in let g : (suc (root_length rs) + 1 == suc (length rs) + 1) ≡ true = grind (arith, nat_tests) in rw (u, f, g) (omega arith))
    (λ ne. let f : (root_length rs + 1 == length rs + 1) ≡ false = grind (arith, nat_tests) in let g : (suc (root_length rs) + 1 == suc (length rs) + 1) ≡ false = grind (arith, nat_tests) in rw (u, f, g) refl))))

pub root_take : (m : ℕ) (rs : List ℕ) → root_length (take m rs) ≡ min (root_length rs) m
root_take zero rs = omega arith
root_take (suc m) [] = omega arith
root_take (suc m) (r ∷ rs) = by_test (r == 0) (λ t. rw t (omega arith)) (λ t. rw t (omega (arith, root_take m rs)))

pub root_le : (rs : List ℕ) → root_length rs ≤ length rs
root_le [] = omega arith
root_le (r ∷ rs) = by_test (r == 0) (λ t. rw t (omega arith)) (λ t. rw t (omega (arith, root_le rs)))
