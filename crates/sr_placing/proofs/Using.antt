-- Marks of what steps cite.
use Rattle.std.proofs.Common.{◌≡◌, ℕ, suc, zero, ◌+◌, ◌<◌, ◌==◌, Bool, true, false, ◌||◌, cond, List, [], ◌∷◌, ◌++◌, length, get_or, set, take, refl, ◌∙◌, ap, arith}
use Rattle.std.proofs.lemmas.List.{get_or-set_same, get_or-set_other, take_more, length-take-le}
use Rattle.std.proofs.lemmas.Bool.Decides.{nat_tests}
use Rattle.sr_table.proofs.Paging.{by_test, by_eq}
use Rattle.sr_model.specs.Assignment.{holds_number}
use Rattle.sr_model.specs.Meeting.{Group}
use Rattle.sr_trimming.specs.Citing.{groups_cite}
use Rattle.sr_steps.specs.Kept.{Kept}
use Rattle.sr_placing.specs.Uses.{kept_cites, some_cites, last_use}

pub holds_append : (n : ℕ) (xs ys : List ℕ) → holds_number n (xs ++ ys) ≡ (holds_number n xs || holds_number n ys)
holds_append n [] ys = refl
holds_append n (x ∷ xs) ys = grind (arith, holds_append n xs ys)

pub holds_at : (xs : List ℕ) (i : ℕ) → i < length xs → holds_number (get_or xs i 0) xs ≡ true
holds_at [] i h = absurd (omega arith)
holds_at (x ∷ xs) zero h = grind (arith, nat_tests)
holds_at (x ∷ xs) (suc i) h = grind (arith, holds_at xs i (omega arith))

pub holds_more : (n : ℕ) (xs : List ℕ) (i : ℕ) → i < length xs → holds_number n (take (i + 1) xs) ≡ (holds_number n (take i xs) || (get_or xs i 0 == n))
holds_more n xs i h = ap (holds_number n) (take_more xs i 0 h) ∙ holds_append n (take i xs) (get_or xs i 0 ∷ []) ∙ grind arith

pub groups_append : (n : ℕ) (xs ys : List Group) → groups_cite n (xs ++ ys) ≡ (groups_cite n xs || groups_cite n ys)
groups_append n [] ys = refl
groups_append n (x ∷ xs) ys = grind (arith, groups_append n xs ys)

pub groups_more : (n : ℕ) (gs : List Group) (j : ℕ) → j < length gs → groups_cite n (take (j + 1) gs) ≡ (groups_cite n (take j gs) || holds_number n (get_or gs j (0, [])).1)
groups_more n gs j h = ap (groups_cite n) (take_more gs j (0, []) h) ∙ groups_append n (take j gs) (get_or gs j (0, []) ∷ []) ∙ grind arith

pub group_cites : (n : ℕ) (gs : List Group) (j : ℕ) → j < length gs → holds_number n (get_or gs j (0, [])).1 ≡ true → groups_cite n gs ≡ true
group_cites n [] j h is = absurd (omega arith)
group_cites n (g ∷ gs) zero h is = grind arith
group_cites n (g ∷ gs) (suc j) h is = grind (arith, group_cites n gs j (omega arith) is)

-- one more number is marked
pub mark_more : (marks old ids : List ℕ) (i mark : ℕ) → i < length ids → get_or ids i 0 < length marks
    → ((n : ℕ) → get_or marks n 0 ≡ cond (holds_number n (take i ids)) mark (get_or old n 0))
    → (n : ℕ) → get_or (set marks (get_or ids i 0) mark) n 0 ≡ cond (holds_number n (take (i + 1) ids)) mark (get_or old n 0)
mark_more marks old ids i mark h within was n = by_eq n (get_or ids i 0)
    (λ e. let own : (get_or ids i 0 == n) ≡ true = grind (arith, nat_tests) in
    let put : get_or (set marks (get_or ids i 0) mark) n 0 ≡ mark = rw e (get_or-set_same marks (get_or ids i 0) mark 0 within) in
    let now : holds_number n (take (i + 1) ids) ≡ true = holds_more n ids i h ∙ grind arith in
    put ∙ rw now refl)
    (λ ne. let other : (get_or ids i 0 == n) ≡ false = grind (arith, nat_tests) in
    let now : holds_number n (take (i + 1) ids) ≡ holds_number n (take i ids) = holds_more n ids i h ∙ grind arith in
    get_or-set_other marks (get_or ids i 0) n mark 0 ne ∙ was n ∙ rw now refl)

-- marks by one list, and then by another
pub mark_twice : (a b : Bool) (mark x : ℕ) → cond b mark (cond a mark x) ≡ cond (a || b) mark x
mark_twice true true mark x = refl
mark_twice true false mark x = refl
mark_twice false true mark x = refl
mark_twice false false mark x = refl

-- a kept step cites a number
pub some_append : (n : ℕ) (ks : List Kept) (k : Kept) → some_cites n (ks ++ k ∷ []) ≡ (some_cites n ks || kept_cites n k)
some_append n [] k = grind arith
some_append n (x ∷ ks) k = grind (arith, some_append n ks k)

pub some_at : (n : ℕ) (ks : List Kept) (i : ℕ) (d : Kept) → i < length ks → kept_cites n (get_or ks i d) ≡ true → some_cites n ks ≡ true
some_at n [] i d h is = absurd (omega arith)
some_at n (k ∷ ks) zero d h is = grind arith
some_at n (k ∷ ks) (suc i) d h is = grind (arith, some_at n ks i d (omega arith) is)

-- one more step
use_push : (before n : ℕ) (ks : List Kept) (k : Kept) → last_use before n (ks ++ k ∷ []) ≡ cond (kept_cites n k) (before + length ks + 1) (last_use before n ks)
use_push before n [] k = by_test (kept_cites n k) (λ t. rw t (omega arith)) (λ f. rw f refl)
use_push before n (x ∷ ks) k = by_test (kept_cites n k)
    (λ t. let some : some_cites n (ks ++ k ∷ []) ≡ true = some_append n ks k ∙ grind arith in
    let more : last_use (before + 1) n (ks ++ k ∷ []) ≡ before + 1 + length ks + 1 = use_push (before + 1) n ks k ∙ rw t refl in
    rw (some, t, more) (omega arith))
    (λ f. let some : some_cites n (ks ++ k ∷ []) ≡ some_cites n ks = some_append n ks k ∙ grind arith in
    let more : last_use (before + 1) n (ks ++ k ∷ []) ≡ last_use (before + 1) n ks = use_push (before + 1) n ks k ∙ rw f refl in
    rw (some, f, more) refl)

pub use_more : (n : ℕ) (ks : List Kept) (i : ℕ) (d : Kept) → i < length ks → last_use 0 n (take (i + 1) ks) ≡ cond (kept_cites n (get_or ks i d)) (i + 1) (last_use 0 n (take i ks))
use_more n ks i d h =
    ap (last_use 0 n) (take_more ks i d h) ∙ use_push 0 n (take i ks) (get_or ks i d) ∙ ap (λ m. cond (kept_cites n (get_or ks i d)) m (last_use 0 n (take i ks))) (omega (arith, length-take-le i ks (omega arith)))
