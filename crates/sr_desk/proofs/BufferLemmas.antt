-- Facts on the bytes of a buffer: those taken, and those ahead.
use Rattle.std.proofs.Common.{◌≡◌, ◌≢◌, ℕ, zero, suc, ◌+◌, ◌-◌, ◌<◌, ◌≤◌, List, [], ◌∷◌, ◌++◌, length, take, drop, get_or, Option, Some, refl, sym, ◌∙◌, ap, arith, length-drop, length-take}
use Rattle.std.proofs.lemmas.List.{take_more, get_or-take, take-take, drop-take}
use Rattle.std.proofs.Math.Seq.{drop-cons, drop-nil, take-add}
use Rattle.sr_desk.specs.Reader.{last_after}

pub drop-drop : (p c : ℕ) (l : List ℕ) → drop c (drop p l) ≡ drop (p + c) l
drop-drop zero c l = let e : zero + c ≡ c = omega arith in rw e refl
drop-drop (suc p) c [] = drop-nil c ∙ sym (drop-nil (suc p + c))
drop-drop (suc p) c (x ∷ xs) =
    let e : suc p + c ≡ suc (p + c) = omega arith in drop-drop p c xs ∙ rw e refl

-- what is last after some bytes and then others
pub last_after-append : (p : Option ℕ) (xs ys : List ℕ) → last_after p (xs ++ ys) ≡ last_after (last_after p xs) ys
last_after-append p [] ys = refl
last_after-append p (x ∷ xs) ys = last_after-append (Some x) xs ys

-- one more byte is taken
pub last_after-more : (p : Option ℕ) (xs : List ℕ) (i d : ℕ) → i < length xs → last_after p (take (i + 1) xs) ≡ Some (get_or xs i d)
last_after-more p xs i d lt = rw (take_more xs i d lt) (last_after-append p (take i xs) (get_or xs i d ∷ []))

-- some bytes were taken
pub last_after-taken : (p : Option ℕ) (xs : List ℕ) (i d : ℕ) → i ≢ 0 → i ≤ length xs → last_after p (take i xs) ≡ Some (get_or xs (i - 1) d)
last_after-taken p xs i d ne le =
    let e : i ≡ i - 1 + 1 = omega arith in
    ap (λ (k : ℕ). last_after p (take k xs)) e ∙ last_after-more p xs (i - 1) d (omega arith)

-- the bytes ahead, by the first of them
pub ahead-cons : (xs : List ℕ) (i m d : ℕ) → i < m → m ≤ length xs → drop i (take m xs) ≡ get_or xs i d ∷ drop (i + 1) (take m xs)
ahead-cons xs i m d lt le =
    let e : i + 1 ≡ suc i = omega arith in
    let n : i < length (take m xs) = simp length-take (omega arith) in
    rw e (drop-cons (take m xs) i d n ∙ rw (get_or-take m xs i d lt) refl)

pub ahead-none : (xs : List ℕ) (i m : ℕ) → m ≤ i → drop i (take m xs) ≡ []
ahead-none xs i m le = empty (drop i (take m xs)) (simp (length-drop, length-take) (omega arith))
  where
    empty : (xs : List ℕ) → length xs ≡ 0 → xs ≡ []
    empty [] h = refl
    empty (x ∷ xs) h = absurd (omega arith)

-- the bytes ahead end where the buffer's do
pub ahead-ends : (xs : List ℕ) (i m : ℕ) → m ≤ length xs → drop i (take m xs) ≡ [] → m ≤ i
ahead-ends xs i m le e =
    let n : length (drop i (take m xs)) ≡ 0 = rw e refl in
    let l = simp (length-drop, length-take) at n in
    omega arith

-- some bytes ahead are taken at once
pub last_after-skip : (p : Option ℕ) (xs : List ℕ) (i n m : ℕ) → i + n ≤ m
    → last_after p (take (i + n) xs) ≡ last_after (last_after p (take i xs)) (take n (drop i (take m xs)))
last_after-skip p xs i n m le =
    let same : i + (m - i) ≡ m = omega arith in
    let window : drop i (take m xs) ≡ take (m - i) (drop i xs) = rw same at (drop-take i (m - i) xs) in
    let front : take n (drop i (take m xs)) ≡ take n (drop i xs) = ap (take n) window ∙ take-take n (m - i) (drop i xs) (omega arith) in
    rw (front, take-add i n xs) (last_after-append p (take i xs) (take n (drop i xs)))
