-- Where literals become true and false.
use Rattle.std.proofs.lemmas.Bool.Decides.{nat_tests}
use Rattle.std.proofs.Common.{◌≡◌, ◌≢◌, ◌<◌, ◌≤◌, ◌+◌, ℕ, suc, zero, true, false, ◌==◌, List, [], ◌∷◌, refl, subst, arith, length, take, take_all}
use Rattle.sr_base.specs.Literal.{Literal, complement, same, has}
use Rattle.sr_model.proofs.Soundness.{by_test}
use Rattle.sr_watch.specs.Trail.{place_in}
use Rattle.sr_watch.specs.Attaching.{fall_of}

pub place_le : (ls : List Literal) (l : Literal) → place_in ls l ≤ length ls
place_le [] l = omega arith
place_le (k ∷ ls) l = by_test (same k l)
    (λ t. rw t (omega arith))
    (λ f. by_test (place_in ls l == 0) (λ z. rw (f, z) (omega arith)) (λ z. rw (f, z) (omega (arith, place_le ls l))))

-- before its place a literal isn't true
pub place_after : (ls : List Literal) (l : Literal) (n : ℕ) → n < place_in ls l → has l (take n ls) ≡ false
place_after ls l zero lt = refl
place_after [] l (suc n) lt = absurd (omega arith)
place_after (k ∷ ls) l (suc n) lt = by_test (same k l)
    (λ t. let e : suc n < 1 = rw t at lt in absurd (omega arith))
    (λ f. by_test (place_in ls l == 0)
    (λ z. let e : suc n < 0 = rw (f, z) at lt in absurd (omega arith))
    (λ z. let e : suc n < suc (place_in ls l) = rw (f, z) at lt in rw f (place_after ls l n (omega arith))))

-- a literal that has no place isn't true
pub place_none : (ls : List Literal) (l : Literal) (n : ℕ) → place_in ls l ≡ 0 → has l (take n ls) ≡ false
place_none ls l zero e = refl
place_none [] l (suc n) e = refl
place_none (k ∷ ls) l (suc n) e = by_test (same k l)
    (λ t. let z : 1 ≡ 0 = rw t at e in absurd (omega (arith, z)))
    (λ f. by_test (place_in ls l == 0)
    (λ z. rw f (place_none ls l n (grind (arith, nat_tests))))
    (λ z. let u : suc (place_in ls l) ≡ 0 = rw (f, z) at e in absurd (omega (arith, u))))

-- from its place on it is
pub place_true : (ls : List Literal) (l : Literal) (n : ℕ) → 0 < place_in ls l → place_in ls l ≤ n → has l (take n ls) ≡ true
place_true [] l n some le = absurd (omega arith)
place_true (k ∷ ls) l zero some le = absurd (omega arith)
place_true (k ∷ ls) l (suc n) some le = by_test (same k l)
    (λ t. rw t refl)
    (λ f. by_test (place_in ls l == 0)
    (λ z. let u : 0 < 0 = rw (f, z) at some in absurd (omega arith))
    (λ z. let u : suc (place_in ls l) ≤ suc n = rw (f, z) at le in rw f (place_true ls l n (grind (arith, nat_tests)) (omega arith))))

-- how late a literal becomes false
pub fall_none : (ls : List Literal) (l : Literal) → place_in ls (complement l) ≡ 0 → fall_of ls l ≡ length ls + 1
fall_none ls l e = let t : (place_in ls (complement l) == 0) ≡ true = grind (arith, nat_tests) in rw t refl

pub fall_some : (ls : List Literal) (l : Literal) → place_in ls (complement l) ≢ 0 → fall_of ls l ≡ place_in ls (complement l)
fall_some ls l ne = let t : (place_in ls (complement l) == 0) ≡ false = grind (arith, nat_tests) in rw t refl

pub fall_le : (ls : List Literal) (l : Literal) → fall_of ls l ≤ length ls + 1
fall_le ls l = by_test (place_in ls (complement l) == 0) (λ t. rw t (omega arith)) (λ f. rw f (omega (arith, place_le ls (complement l))))

pub place_there : (ls : List Literal) (l : Literal) → 0 < place_in ls l → has l ls ≡ true
place_there ls l some = subst (λ x. has l x ≡ true) (take_all (length ls) ls (omega arith)) (place_true ls l (length ls) some (place_le ls l))

pub fall_within : (ls : List Literal) (l : Literal) → fall_of ls l ≤ length ls → has (complement l) ls ≡ true
fall_within ls l le = by_test (place_in ls (complement l) == 0)
    (λ t. let e : length ls + 1 ≤ length ls = rw t at le in absurd (omega arith))
    (λ f. place_there ls (complement l) (grind (arith, nat_tests)))

pub fall_false : (ls : List Literal) (l : Literal) → has (complement l) ls ≡ true → fall_of ls l ≤ length ls
fall_false ls l h = by_test (place_in ls (complement l) == 0)
    (λ t. let z : has (complement l) (take (length ls) ls) ≡ false = place_none ls (complement l) (length ls) (grind (arith, nat_tests)) in let u : has (complement l) ls ≡ false = subst (λ x. has (complement l) x ≡ false) (take_all (length ls) ls (omega arith)) z in absurd cc)
    (λ f. rw f (place_le ls (complement l)))

pub place_some : (ls : List Literal) (l : Literal) → has l ls ≡ true → 0 < place_in ls l
place_some ls l h = by_test (place_in ls l == 0)
    (λ t. let z : has l (take (length ls) ls) ≡ false = place_none ls l (length ls) (grind (arith, nat_tests)) in let u : has l ls ≡ false = subst (λ x. has l x ≡ false) (take_all (length ls) ls (omega arith)) z in absurd cc)
    (λ f. grind (arith, nat_tests))
