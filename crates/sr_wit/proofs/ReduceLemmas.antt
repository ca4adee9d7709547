-- What a substitution makes of a clause, literal by literal, and repeats and pairs among literals.
use Rattle.std.proofs.Common.{◌≡◌, ◌==◌, ◌||◌, ◌&&◌, ◌<◌, ◌+◌, ◌-◌, ◌*◌, ◌%◌, ◌/◌, ℕ, zero, suc, Bool, true, false, not, Option, Some, None, List, [], ◌∷◌, ◌++◌, map, length, get_or, take, drop, refl, sym, ap, ◌∙◌, subst, inl, inr, arith}
use Rattle.std.proofs.lemmas.Bool.{cases_lt, cases_eq}
use Rattle.std.proofs.lemmas.Bool.Decides.{nat_tests}
use Rattle.std.specs.List.{list_any, filter_map, cons_option}
use Rattle.std.specs.Ordering.{nat_cmp, eq_by_cmp}
use Rattle.std.specs.List.Sorted.{IsPermutation, IsStrictlyIncreasing, IsNonDecreasing}
use Rattle.std.proofs.lemmas.List.{take-append-drop}
use Rattle.std.proofs.lemmas.List.Folds.{list_any-append}
use Rattle.std.proofs.lemmas.List.Sorted.{list_any-IsPermutation, IsPermutation-sym}
use Rattle.std.proofs.lemmas.Map.Keys.{IsDistinct-from_sorted, IsDistinct-IsPermutation, sorted_from_strictly_increasing}
use Rattle.sr_base.specs.Literal.{Literal, plus, minus, complement, same, has, NoRepeats, literal_code}
use Rattle.sr_base.proofs.Literals.{same_tells, has_append, has_is_any, complement_twice, same_bool}
use Rattle.sr_model.specs.Assignment.{holds_number}
use Rattle.sr_model.specs.Substitution.{Substitution, image, is_image, is_yes, is_touched, literal_of_image, image_literals, has_complement, has_pair}
use Rattle.sr_model.specs.declared.images.Image.TheVariants.{No, To}
use Rattle.sr_wit.specs.Reductions.{has_code_pair}
use Rattle.sr_wit.proofs.WitnessLemmas.{AllDiffer, differing-distinct}

unlike : (l : Literal) → l ≡ complement l → ⊥
unlike (plus v) h = cc
unlike (minus v) h = cc

complement-differs : (l : Literal) → same l (complement l) ≡ false
complement-differs l = grind (arith, same_tells l (complement l), unlike l)

same-complement : (k l : Literal) → same l (complement k) ≡ same k (complement l)
same-complement k l = grind (arith, same_tells l (complement k), same_tells k (complement l), complement_twice k, complement_twice l)

has_complement_push : (xs b : List Literal) (l : Literal) → has_complement xs (b ++ l ∷ []) ≡ (has_complement xs b || has (complement l) xs)
has_complement_push [] b l = refl
has_complement_push (x ∷ xs) b l = grind (arith, has_complement_push xs b l, has_append (complement x) b (l ∷ []), same-complement x l)

pub has_pair_push : (xs : List Literal) (l : Literal) → has_pair (xs ++ l ∷ []) ≡ (has_pair xs || has (complement l) xs)
has_pair_push xs l =
    grind (
      arith,
      list_any-append (λ k. has (complement k) (xs ++ l ∷ [])) xs (l ∷ []),
      has_complement_push xs xs l,
      has_append (complement l) xs (l ∷ []),
      complement-differs l,
    )

has_complement_more : (xs b c : List Literal) → has_complement xs b ≡ true → has_complement xs (b ++ c) ≡ true
has_complement_more [] b c h = cc
has_complement_more (x ∷ xs) b c h = grind (arith, has_complement_more xs b c, has_append (complement x) b c)

pub has_pair_more : (xs ys : List Literal) → has_pair xs ≡ true → has_pair (xs ++ ys) ≡ true
has_pair_more xs ys h =
    grind (arith, list_any-append (λ k. has (complement k) (xs ++ ys)) xs ys, has_complement_more xs xs ys h)

-- a pair in the first literals is one of all
pub has_pair-take : (ls : List Literal) (n : ℕ) → has_pair (take n ls) ≡ true → has_pair ls ≡ true
has_pair-take ls n h = subst (λ xs. has_pair xs ≡ true) (take-append-drop n ls) (has_pair_more (take n ls) (drop n ls) h)

-- literals by their codes
list_any-map : {X Y : Type 0} (p : Y → Bool) (f : X → Y) (xs : List X) → list_any p (map f xs) ≡ list_any (λ x. p (f x)) xs
list_any-map p f [] = refl
list_any-map p f (x ∷ xs) = ap (λ b. p (f x) || b) (list_any-map p f xs)

has-codes : (l : Literal) (ls : List Literal) → list_any (λ d. d == literal_code l) (map literal_code ls) ≡ has l ls
has-codes l ls = list_any-map (λ d. d == literal_code l) literal_code ls ∙ has_is_any l ls

any_literal : (p : Literal → Bool) (ls : List Literal) → list_any p ls ≡ true → (l : Literal) × (has l ls ≡ true) × (p l ≡ true)
any_literal p [] h = cc
any_literal p (l ∷ ls) h = by (p l) refl (any_literal p ls)
  where
    by : (b : Bool) → p l ≡ b → (list_any p ls ≡ true → (k : Literal) × (has k ls ≡ true) × (p k ≡ true)) → (k : Literal) × (has k (l ∷ ls) ≡ true) × (p k ≡ true)
    by true e rest = (l, grind (arith, same_tells l l), e)
    by false e rest = let k = rest (grind arith) in (k.0, grind (arith, k.1), k.2)

literal_any : (p : Literal → Bool) (ls : List Literal) (l : Literal) → has l ls ≡ true → p l ≡ true → list_any p ls ≡ true
literal_any p [] l h e = cc
literal_any p (k ∷ ls) l h e = grind (arith, literal_any p ls l, same_tells k l)

any_number : (p : ℕ → Bool) (ns : List ℕ) → list_any p ns ≡ true → (i : ℕ) × (i < length ns) × (p (get_or ns i 0) ≡ true)
any_number p [] h = cc
any_number p (n ∷ ns) h = by (p n) refl (any_number p ns)
  where
    by : (b : Bool) → p n ≡ b → (list_any p ns ≡ true → (i : ℕ) × (i < length ns) × (p (get_or ns i 0) ≡ true)) → (i : ℕ) × (i < length (n ∷ ns)) × (p (get_or (n ∷ ns) i 0) ≡ true)
    by true e rest = (0, omega arith, e)
    by false e rest = let i = rest (grind arith) in (suc i.0, omega (arith, i.1), i.2)

number_any : (p : ℕ → Bool) (ns : List ℕ) (i : ℕ) → i < length ns → p (get_or ns i 0) ≡ true → list_any p ns ≡ true
number_any p [] i l e = absurd (omega arith)
number_any p (n ∷ ns) zero l e = grind (arith, e)
number_any p (n ∷ ns) (suc i) l e = grind (arith, number_any p ns i (omega arith) e)

-- whether a number is there
abbrev is_there : ℕ → List ℕ → Bool
is_there c cs = list_any (λ d. d == c) cs

there-codes : (l : Literal) (ls : List Literal) (cs : List ℕ) → IsPermutation (map literal_code ls) cs → is_there (literal_code l) cs ≡ has l ls
there-codes l ls cs moved = sym (list_any-IsPermutation (λ d. d == literal_code l) (map literal_code ls) cs moved) ∙ has-codes l ls

code_pair_from : (cs : List ℕ) (v : ℕ) → is_there (2 * v) cs ≡ true → is_there (2 * v + 1) cs ≡ true → has_code_pair cs ≡ true
code_pair_from cs v low high =
    let at = any_number (λ d. d == 2 * v) cs low in
    let here : get_or cs at.0 0 ≡ 2 * v = grind (arith, nat_tests, at.2) in
    let even : (get_or cs at.0 0 % 2 == 0) ≡ true = grind (arith, nat_tests) in
    let next : is_there (get_or cs at.0 0 + 1) cs ≡ true = rw here high in
    number_any (λ c. c % 2 == 0 && list_any (λ d. d == c + 1) cs) cs at.0 at.1 (grind arith)

pub code_pair_of : (cs : List ℕ) → has_code_pair cs ≡ true → (i : ℕ) × (j : ℕ) × (i < length cs) × (j < length cs) × (get_or cs i 0 % 2 ≡ 0) × (get_or cs j 0 ≡ get_or cs i 0 + 1)
code_pair_of cs h =
    let at = any_number (λ c. c % 2 == 0 && list_any (λ d. d == c + 1) cs) cs h in
    let even : get_or cs at.0 0 % 2 ≡ 0 = grind (arith, nat_tests, at.2) in
    let rest : is_there (get_or cs at.0 0 + 1) cs ≡ true = grind (arith, at.2) in
    let next = any_number (λ d. d == get_or cs at.0 0 + 1) cs rest in
    (at.0, next.0, at.1, next.1, even, grind (arith, nat_tests, next.2))

pair_from : (ls : List Literal) (v : ℕ) → has (plus v) ls ≡ true → has (minus v) ls ≡ true → has_pair ls ≡ true
pair_from ls v p m = literal_any (λ k. has (complement k) ls) ls (plus v) p m

pair_of : (ls : List Literal) → has_pair ls ≡ true → (v : ℕ) × (has (plus v) ls ≡ true) × (has (minus v) ls ≡ true)
pair_of ls h = by (any_literal (λ k. has (complement k) ls) ls h)
  where
    by : ((k : Literal) × (has k ls ≡ true) × (has (complement k) ls ≡ true)) → (v : ℕ) × (has (plus v) ls ≡ true) × (has (minus v) ls ≡ true)
    by (plus v, p, m) = (v, p, m)
    by (minus v, m, p) = (v, p, m)

even_literal : (ls : List Literal) (cs : List ℕ) (c : ℕ) → IsPermutation (map literal_code ls) cs → c % 2 ≡ 0 → is_there c cs ≡ true → is_there (c + 1) cs ≡ true → has_pair ls ≡ true
even_literal ls cs c moved even low high =
    let half : 2 * (c / 2) ≡ c = omega arith in
    pair_from ls (c / 2)
    (sym (there-codes (plus (c / 2)) ls cs moved) ∙ subst (λ n. is_there n cs ≡ true) (sym half) low)
    (sym (there-codes (minus (c / 2)) ls cs moved) ∙ subst (λ n. is_there (n + 1) cs ≡ true) (sym half) high)

-- complements are an even code and the next one
pub pair-codes : (ls : List Literal) (cs : List ℕ) → IsPermutation (map literal_code ls) cs → has_code_pair cs ≡ has_pair ls
pair-codes ls cs moved = same_bool (has_code_pair cs) (has_pair ls)
    (λ h.
    let at = code_pair_of cs h in
    even_literal ls cs (get_or cs at.0 0) moved at.4
    (number_any (λ d. d == get_or cs at.0 0) cs at.0 at.2 (grind (arith, nat_tests)))
    (number_any (λ d. d == get_or cs at.0 0 + 1) cs at.1 at.3 (grind (arith, nat_tests, at.5))))
    (λ h.
    let at = pair_of ls h in
    code_pair_from cs at.0 (there-codes (plus at.0) ls cs moved ∙ at.1) (there-codes (minus at.0) ls cs moved ∙ at.2))

-- codes that rise strictly are those of distinct literals
number-codes : (l : Literal) (ls : List Literal) → holds_number (literal_code l) (map literal_code ls) ≡ has l ls
number-codes l [] = refl
number-codes l (k ∷ ks) = grind (arith, number-codes l ks, has_is_any l (k ∷ ks), has_is_any l ks)

differing_codes : (ls : List Literal) → AllDiffer (map literal_code ls) → NoRepeats ls
differing_codes [] h = tt
differing_codes (l ∷ ls) h = (sym (number-codes l ls) ∙ h.0, differing_codes ls h.1)

pub distinct-codes : (ls : List Literal) (cs : List ℕ) → IsPermutation (map literal_code ls) cs → IsStrictlyIncreasing cs → NoRepeats ls
distinct-codes ls cs moved rises =
    let sorted = IsDistinct-from_sorted nat_cmp cs (sorted_from_strictly_increasing cs rises) in
    differing_codes ls (differing-distinct (map literal_code ls)
    (IsDistinct-IsPermutation (eq_by_cmp nat_cmp) (λ x y. grind (arith, nat_tests)) cs (map literal_code ls) (IsPermutation-sym (map literal_code ls) cs moved) sorted))

-- sorted numbers of which no neighbours are an even number and the next one
abbrev pub NoneAdjacent : List ℕ → Type 0
NoneAdjacent cs = (k : ℕ) → k + 1 < length cs → get_or cs k 0 % 2 ≡ 0 → get_or cs (k + 1) 0 ≡ get_or cs k 0 + 1 → ⊥

walk : (cs : List ℕ) → IsNonDecreasing cs → NoneAdjacent cs → (c i d : ℕ) → c % 2 ≡ 0 → get_or cs i 0 ≡ c → get_or cs (i + suc d) 0 ≡ c + 1 → i + suc d < length cs → ⊥
walk cs sorted none c i zero even low high l =
    let next : i + 1 ≡ i + suc zero = omega arith in
    none i (omega arith) (rw low even) (rw (next, high, low) refl)
walk cs sorted none c i (suc d) even low high l =
    let below = sorted i (i + suc d) 0 (omega arith) (omega arith) in
    let above = sorted (i + suc d) (i + suc (suc d)) 0 (omega arith) (omega arith) in
    let next : i + suc d + 1 ≡ i + suc (suc d) = omega arith in
    elim (cases_eq (get_or cs (i + suc d) 0) c) [
      | inl same ↦ none (i + suc d) (omega arith) (rw same even) (rw (next, high, same) refl)
      | inr other ↦ walk cs sorted none c i d even low (omega arith) (omega arith)
    ]

pub no_code_pair : (cs : List ℕ) → IsNonDecreasing cs → NoneAdjacent cs → has_code_pair cs ≡ false
no_code_pair cs sorted none = by (has_code_pair cs) refl
  where
    by : (b : Bool) → has_code_pair cs ≡ b → has_code_pair cs ≡ false
    by false h = h
    by true h =
        let at = code_pair_of cs h in
        elim (cases_lt at.0 at.1) [
          | inl below ↦
              let far : at.0 + suc (at.1 - at.0 - 1) ≡ at.1 = omega arith in
              absurd (walk cs sorted none (get_or cs at.0 0) at.0 (at.1 - at.0 - 1) at.4 refl (rw far at.5) (omega (arith, at.3)))
          | inr above ↦ let falls = sorted at.1 at.0 0 above at.2 in absurd (omega (arith, at.5))
        ]

-- the images of one more literal
cons_option-append : {X : Type 0} (o : Option X) (xs ys : List X) → cons_option o (xs ++ ys) ≡ cons_option o xs ++ ys
cons_option-append None xs ys = refl
cons_option-append (Some x) xs ys = refl

filter_map_none : {X Y : Type 0} (h : X → Option Y) (xs : List X) (x : X) → h x ≡ None → filter_map h (xs ++ x ∷ []) ≡ filter_map h xs
filter_map_none h [] x e = rw e refl
filter_map_none h (y ∷ ys) x e = ap (cons_option (h y)) (filter_map_none h ys x e)

filter_map_some : {X Y : Type 0} (h : X → Option Y) (xs : List X) (x : X) (k : Y) → h x ≡ Some k → filter_map h (xs ++ x ∷ []) ≡ filter_map h xs ++ k ∷ []
filter_map_some h [] x k e = rw e refl
filter_map_some h (y ∷ ys) x k e = ap (cons_option (h y)) (filter_map_some h ys x k e) ∙ cons_option-append (h y) (filter_map h ys) (k ∷ [])

pub image_literals_false : (s : Substitution) (xs : List Literal) (l : Literal) → image s l ≡ No → image_literals s (xs ++ l ∷ []) ≡ image_literals s xs
image_literals_false s xs l e = filter_map_none (λ k. literal_of_image (image s k)) xs l (ap literal_of_image e)

pub image_literals_push : (s : Substitution) (xs : List Literal) (l k : Literal) → image s l ≡ To k → image_literals s (xs ++ l ∷ []) ≡ image_literals s xs ++ k ∷ []
image_literals_push s xs l k e = filter_map_some (λ k. literal_of_image (image s k)) xs l k (ap literal_of_image e)

pub is_touched_push : (s : Substitution) (xs : List Literal) (l : Literal) → is_touched s (xs ++ l ∷ []) ≡ (is_touched s xs || not (is_image (image s l) l))
is_touched_push s xs l = grind (arith, list_any-append (λ k. not (is_image (image s k) k)) xs (l ∷ []))

pub none_true_push : (s : Substitution) (xs : List Literal) (l : Literal) → list_any (λ k. is_yes (image s k)) xs ≡ false → is_yes (image s l) ≡ false
    → list_any (λ k. is_yes (image s k)) (xs ++ l ∷ []) ≡ false
none_true_push s xs l h e = grind (arith, list_any-append (λ k. is_yes (image s k)) xs (l ∷ []))
