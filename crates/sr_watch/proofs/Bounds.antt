-- No more entries come than twice two a variable.
use Rattle.std.proofs.Common.{◌≡◌, ◌<◌, ◌≤◌, ◌+◌, ◌*◌, ℕ, suc, zero, true, false, ◌==◌, List, [], ◌∷◌, refl, sym, ap, subst, arith, length}
use Rattle.sr_base.specs.Literal.{Literal, plus, minus, variable, same, has, NoRepeats}
use Rattle.sr_base.proofs.Literals.{same_tells}
use Rattle.sr_model.proofs.Soundness.{by_test}
use Rattle.sr_model.proofs.Saturation.{lacking}
use Rattle.sr_watch.specs.State.{AreWithin, assumed_in}
use Rattle.sr_watch.specs.Inside.{derived_in}
use Rattle.sr_watch.proofs.Entries.{by_eq}

-- the literals of the variables up to one
literals_to : ℕ → List Literal
literals_to zero = plus 0 ∷ minus 0 ∷ []
literals_to (suc v) = plus (suc v) ∷ minus (suc v) ∷ literals_to v

length-literals_to : (v : ℕ) → length (literals_to v) ≡ 2 * v + 2
unfolding literals_to
length-literals_to zero = refl
length-literals_to (suc v) = omega (arith, length-literals_to v)

self : (l : Literal) → same l l ≡ true
self l = grind (arith, same_tells l l)

has_all : (v : ℕ) (l : Literal) → variable l ≤ v → has l (literals_to v) ≡ true
unfolding literals_to
has_all zero (plus x) h = let e : x ≡ 0 = omega arith in rw e (grind (arith, self (plus 0)))
has_all zero (minus x) h = let e : x ≡ 0 = omega arith in rw e (grind (arith, self (minus 0)))
has_all (suc v) (plus x) h = by_eq x (suc v) (λ e. rw e (grind (arith, self (plus (suc v))))) (λ n. let r : has (plus x) (literals_to v) ≡ true = has_all v (plus x) (omega arith) in grind arith)
has_all (suc v) (minus x) h = by_eq x (suc v) (λ e. rw e (grind (arith, self (minus (suc v))))) (λ n. let r : has (minus x) (literals_to v) ≡ true = has_all v (minus x) (omega arith) in grind arith)

lacking_le : (b ls : List Literal) (l : Literal) → lacking (l ∷ b) ls ≤ lacking b ls
lacking_le b [] l = omega arith
lacking_le b (k ∷ ls) l = grind (arith, lacking_le b ls l)

lacking_lt : (b ls : List Literal) (l : Literal) → has l ls ≡ true → has l b ≡ false → lacking (l ∷ b) ls < lacking b ls
lacking_lt b [] l h n = absurd cc
lacking_lt b (k ∷ ls) l h n = by_test (same k l)
    (λ e. let is : k ≡ l = grind (arith, same_tells k l) in let o : has k b ≡ false = subst (λ j. has j b ≡ false) (sym is) n in let t : same l k ≡ true = subst (λ j. same l j ≡ true) (sym is) (self l) in grind (arith, lacking_le b ls l))
    (λ e. grind (arith, lacking_lt b ls l, same_tells l k, same_tells k l))

lacking_none : (us : List Literal) → lacking [] us ≡ length us
lacking_none [] = refl
lacking_none (u ∷ us) = ap suc (lacking_none us)

-- distinct literals of a list are no more than it has
fewer : (ls us : List Literal) → NoRepeats ls → ((l : Literal) → has l ls ≡ true → has l us ≡ true) → length ls + lacking ls us ≤ length us
fewer [] us n f = omega (arith, lacking_none us)
fewer (l ∷ ls) us n f =
    let rest : length ls + lacking ls us ≤ length us = fewer ls us n.1 (λ k h. f k (grind arith)) in
    let less : lacking (l ∷ ls) us < lacking ls us = lacking_lt ls us l (f l (grind (arith, self l))) n.0 in
    omega arith

pub distinct_within : (v : ℕ) (ls : List Literal) → NoRepeats ls → AreWithin v ls → length ls ≤ 2 * v + 2
distinct_within v ls n w = let f = fewer ls (literals_to v) n (λ l h. has_all v l (w l h)) in omega (arith, length-literals_to v)

parted : (ls : List Literal) (rs : List ℕ) → length rs ≡ length ls → length ls ≡ length (assumed_in ls rs) + length (derived_in ls rs)
parted [] rs n = refl
parted (l ∷ ls) [] n = absurd (omega arith)
parted (l ∷ ls) (r ∷ rs) n = let e = parted ls rs (omega arith) in by_test (r == 0) (λ t. rw t (omega arith)) (λ t. rw t (omega arith))

pub assumed_among : (ls : List Literal) (rs : List ℕ) (k : Literal) → has k (assumed_in ls rs) ≡ true → has k ls ≡ true
assumed_among [] rs k h = absurd cc
assumed_among (l ∷ ls) [] k h = absurd cc
assumed_among (l ∷ ls) (r ∷ rs) k h = by_test (r == 0)
    (λ z. by_test (same l k) (λ t. grind arith) (λ f. grind (arith, assumed_among ls rs k)))
    (λ z. grind (arith, assumed_among ls rs k))

pub derived_among : (ls : List Literal) (rs : List ℕ) (k : Literal) → has k (derived_in ls rs) ≡ true → has k ls ≡ true
derived_among [] rs k h = absurd cc
derived_among (l ∷ ls) [] k h = absurd cc
derived_among (l ∷ ls) (r ∷ rs) k h = by_test (r == 0)
    (λ z. grind (arith, derived_among ls rs k))
    (λ z. by_test (same l k) (λ t. grind arith) (λ f. grind (arith, derived_among ls rs k)))

pub few_entries : (v : ℕ) (ls : List Literal) (rs : List ℕ) → length rs ≡ length ls → AreWithin v ls → NoRepeats (assumed_in ls rs) → NoRepeats (derived_in ls rs) → length ls ≤ 4 * v + 4
few_entries v ls rs n w a d =
    let x = distinct_within v (assumed_in ls rs) a (λ l h. w l (assumed_among ls rs l h)) in
    let y = distinct_within v (derived_in ls rs) d (λ l h. w l (derived_among ls rs l h)) in
    omega (arith, parted ls rs n)
