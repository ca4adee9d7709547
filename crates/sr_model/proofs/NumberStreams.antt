-- Tokens that are numbers: how they are read, and which bytes give them.
use Rattle.std.proofs.Common.{◌≡◌, ◌∙◌, ℕ, zero, suc, ◌+◌, ◌-◌, ◌^◌, ◌<◌, ◌≤◌, true, refl, sym, ap, subst, List, [], ◌∷◌, ◌++◌, length, take, map, Option, Some, Ok, ℤ, pos, negsuc, arith, append_assoc, length-append}
use Rattle.std.specs.Prelude.{nat_abs, nat_le, All, flat_map}
use Rattle.std.specs.Fmt.{signed_decimal}
use Rattle.std.proofs.lemmas.Bool.Decides.{nat_tests}
use Rattle.std.proofs.lemmas.List.{append-nil}
use Rattle.sr_base.specs.declared.names.LimitKind.{LimitKind}
use Rattle.sr_base.specs.Contents.{Ending}
use Rattle.sr_model.specs.declared.tokens.Word.TheVariants as word
use Rattle.sr_model.specs.Judging.{dropped}
use Rattle.sr_model.specs.Tokens.{Tokens, next, judged}
use Rattle.sr_model.specs.Words.{is_white}
use Rattle.sr_model.specs.TextTokens.{begins_line, spelled_from}
use Rattle.sr_model.specs.BinaryTokens.{number_said, open_after, binary_from}
use Rattle.sr_model.specs.Reading.{Read, reads}
use Rattle.sr_model.specs.Lsr.{NumbersTo0, by_number, numbers_after, MaybeItem, by_dropped, dropped_after}
use Rattle.sr_model.specs.Writing.{spaced, number_line, number_bytes, number_list}
use Rattle.sr_model.specs.ReadAgain.{IsNumber}
use Rattle.sr_model.proofs.TextTokens.{token_first}
use Rattle.sr_model.proofs.BinaryTokens.{binary_first}
use Rattle.sr_model.proofs.NumberTexts.{decimal_said, signed_is_token, one_byte, number_spells, number_run_said}

-- the tokens begin with these numbers, and this is left
abbrev pub Begins : List ℤ → Tokens → Tokens → Type 0
Begins [] ts rest = ts ≡ rest
Begins (x ∷ xs) ts rest = (place : ℕ) × (mid : Tokens) × (ts ≡ next (record { place = place; word = word.Number x }) mid) × Begins xs mid rest

-- numbers that may stand before a `0`, up to a bound
abbrev pub Entries : ℕ → List ℤ → Type 0
Entries bound [] = Unit {0}
Entries bound (x ∷ xs) = (0 < nat_abs x) × (nat_abs x ≤ bound) × Entries bound xs

-- numbers that fit a token
abbrev pub Narrow : List ℤ → Type 0
Narrow [] = Unit {0}
Narrow (x ∷ xs) = (nat_abs x < 2 ^ 63) × Narrow xs

-- one more number
number_more : (kind : LimitKind) (bound : ℕ) (x : ℤ) (place : ℕ) (these : List ℤ) (rest : Tokens) (more : Read NumbersTo0) → 0 < nat_abs x → nat_abs x ≤ bound → by_number kind bound x place these rest more ≡ more
number_more kind bound (pos zero) place these rest more some le = absurd (omega arith)
number_more kind bound (pos (suc n)) place these rest more some le = let t : nat_le (suc n) bound ≡ true = grind (arith, nat_tests) in rw t refl
number_more kind bound (negsuc n) place these rest more some le = let t : nat_le (suc n) bound ≡ true = grind (arith, nat_tests) in rw t refl

-- numbers up to a `0` are read
pub numbers_read : (kind : LimitKind) (bound : ℕ) (these xs ys : List ℤ) (ts rest : Tokens) → Entries bound xs → Begins (xs ++ pos 0 ∷ ys) ts rest
    → (place : ℕ) × (mid : Tokens) × (numbers_after kind bound these ts ≡ reads (these ++ xs, place) mid) × Begins ys mid rest
unfolding numbers_after
numbers_read kind bound these [] ys ts rest e b =
    (b.0, b.1, ap (numbers_after kind bound these) b.2 ∙ ap (λ l. reads (l, b.0) b.1) (sym (append-nil these)), b.3)
numbers_read kind bound these (x ∷ xs) ys ts rest e b =
    let r = numbers_read kind bound (these ++ x ∷ []) xs ys b.1 rest e.2 b.3 in (
      r.0,
      r.1,
      ap (numbers_after kind bound these) b.2
          ∙ number_more kind bound x b.0 these b.1 (numbers_after kind bound (these ++ x ∷ []) b.1) e.0 e.1
          ∙ r.2
          ∙ ap (λ l. reads (l, r.0) r.1) (append_assoc these (x ∷ []) xs),
      r.3,
    )

dropped_more : (bound id n : ℕ) (place : ℕ) (these : List ℕ) (rest : Tokens) (more : Read MaybeItem) → IsNumber bound n → by_dropped bound id (pos n) place these rest more ≡ more
dropped_more bound id zero place these rest more i = absurd (omega (arith, i.0))
dropped_more bound id (suc n) place these rest more i = let le : suc n ≤ bound = i.1 in let t : nat_le (suc n) bound ≡ true = grind (arith, nat_tests) in rw t refl

-- the numbers of a deletion are read
pub dropped_read : (bound id : ℕ) (these ids : List ℕ) (ts rest : Tokens) → All (IsNumber bound) ids → Begins (map pos ids ++ pos 0 ∷ []) ts rest
    → dropped_after bound id these ts ≡ reads (Some (dropped id (these ++ ids))) rest
unfolding dropped_after
dropped_read bound id these [] ts rest a b =
    ap (dropped_after bound id these) b.2 ∙ ap (λ l. reads (Some (dropped id l)) b.1) (sym (append-nil these)) ∙ ap (reads (Some (dropped id (these ++ [])))) b.3
dropped_read bound id these (n ∷ ids) ts rest a b =
    ap (dropped_after bound id these) b.2
    ∙ dropped_more bound id n b.0 these b.1 (dropped_after bound id (these ++ n ∷ []) b.1) (a 0 n (omega arith))
    ∙ dropped_read bound id (these ++ n ∷ []) ids b.1 rest (λ k d l. a (suc k) d (omega arith)) b.3
    ∙ ap (λ l. reads (Some (dropped id l)) rest) (append_assoc these (n ∷ []) ids)

-- a number of a text that a white byte ends
pub text_number : (x : ℤ) → nat_abs x < 2 ^ 63 → (ending : Ending) (before : Option ℕ) (room place s : ℕ) (more : List ℕ) → is_white s ≡ true → length (signed_decimal x) + 1 ≤ room
    → spelled_from ending before room place (signed_decimal x ++ s ∷ more)
    ≡ next (record { place = place; word = word.Number x }) (spelled_from ending (Some s) (room - (length (signed_decimal x) + 1)) (place + (length (signed_decimal x) + 1)) more)
text_number x h ending before room place s more w le =
    token_first (signed_decimal x) ending before (signed_is_token (begins_line before) x h) room place s more w le
    ∙ ap (λ o. judged place o (spelled_from ending (Some s) (room - (length (signed_decimal x) + 1)) (place + (length (signed_decimal x) + 1)) more)) (decimal_said x h)

-- a line of numbers
pub text_begins : (xs : List ℤ) → Narrow xs → (ending : Ending) (before : Option ℕ) (room place : ℕ) (more : List ℕ) → length (number_line xs) ≤ room
    → Begins (xs ++ pos 0 ∷ []) (spelled_from ending before room place (number_line xs ++ more)) (spelled_from ending (Some 10) (room - length (number_line xs)) (place + length (number_line xs)) more)
text_begins [] n ending before room place more le =
    (place, spelled_from ending (Some 10) (room - 2) (place + 2) more, token_first (48 ∷ []) ending before (one_byte (begins_line before) 48 refl refl) room place 10 more refl le, refl)
text_begins (x ∷ xs) n ending before room place more le =
    let size : length (number_line (x ∷ xs)) ≡ length (signed_decimal x) + 1 + length (number_line xs) =
    ap length (append_assoc (signed_decimal x) (32 ∷ spaced xs) (48 ∷ 10 ∷ [])) ∙ omega (arith, length-append (signed_decimal x) (32 ∷ number_line xs)) in
    let bytes : number_line (x ∷ xs) ++ more ≡ signed_decimal x ++ 32 ∷ (number_line xs ++ more) =
    ap (λ l. l ++ more) (append_assoc (signed_decimal x) (32 ∷ spaced xs) (48 ∷ 10 ∷ [])) ∙ append_assoc (signed_decimal x) (32 ∷ number_line xs) more in
    let room_is : room - (length (signed_decimal x) + 1) - length (number_line xs) ≡ room - length (number_line (x ∷ xs)) = omega arith in
    let place_is : place + (length (signed_decimal x) + 1) + length (number_line xs) ≡ place + length (number_line (x ∷ xs)) = omega arith in (
      place,
      spelled_from ending (Some 32) (room - (length (signed_decimal x) + 1)) (place + (length (signed_decimal x) + 1)) (number_line xs ++ more),
      ap (spelled_from ending before room place) bytes ∙ text_number x n.0 ending before room place 32 (number_line xs ++ more) refl (omega arith),
      subst (λ (p : ℕ). Begins (xs ++ pos 0 ∷ []) (spelled_from ending (Some 32) (room - (length (signed_decimal x) + 1)) (place + (length (signed_decimal x) + 1)) (number_line xs ++ more)) (spelled_from ending (Some 10) (room - length (number_line (x ∷ xs))) p more)) place_is
          (subst (λ (r : ℕ). Begins (xs ++ pos 0 ∷ []) (spelled_from ending (Some 32) (room - (length (signed_decimal x) + 1)) (place + (length (signed_decimal x) + 1)) (number_line xs ++ more)) (spelled_from ending (Some 10) r (place + (length (signed_decimal x) + 1) + length (number_line xs)) more)) room_is
          (text_begins xs n.1 ending (Some 32) (room - (length (signed_decimal x) + 1)) (place + (length (signed_decimal x) + 1)) more (omega arith))),
    )

-- how many of the numbers end a list
abbrev pub zeros : List ℤ → ℕ
zeros [] = 0
zeros (pos zero ∷ xs) = suc (zeros xs)
zeros (pos (suc n) ∷ xs) = zeros xs
zeros (negsuc n ∷ xs) = zeros xs

-- a number of a binary file
pub binary_number : (x : ℤ) → nat_abs x < 2 ^ 63 → (ending : Ending) (lists o room place : ℕ) (more : List ℕ) → length (number_bytes x) ≤ room
    → binary_from ending lists (suc o) room place (number_bytes x ++ more)
    ≡ next (record { place = place; word = word.Number x }) (binary_from ending lists (open_after lists (suc o) (word.Number x)) (room - length (number_bytes x)) (place + length (number_bytes x)) more)
binary_number x h ending lists o room place more le =
    let s = number_spells x h in
    let size : length (number_bytes x) ≡ length s.heads + 1 = ap length s.split ∙ length-append s.heads (s.end ∷ []) in
    let bytes : number_bytes x ++ more ≡ s.heads ++ s.end ∷ more = ap (λ l. l ++ more) s.split ∙ append_assoc s.heads (s.end ∷ []) more in
    let says : number_said (take 10 (s.heads ++ s.end ∷ [])) ≡ Some (Ok (word.Number x)) = ap (λ l. number_said (take 10 l)) (sym s.split) ∙ number_run_said x h in
    ap (binary_from ending lists (suc o) room place) bytes
    ∙ binary_first ending lists (suc o) room place s.heads s.end more (Ok (word.Number x)) s.goes_on s.ends (omega arith) says
    ∙ ap (λ (k : ℕ). next (record { place = place; word = word.Number x }) (binary_from ending lists (open_after lists (suc o) (word.Number x)) (room - k) (place + k) more)) (sym size)

open_zeros : (lists : ℕ) (x : ℤ) (xs : List ℤ) → open_after lists (suc (zeros (x ∷ xs))) (word.Number x) ≡ suc (zeros xs)
open_zeros lists (pos zero) xs = omega arith
open_zeros lists (pos (suc n)) xs = refl
open_zeros lists (negsuc n) xs = refl

binary_zero : (ending : Ending) (lists o room place : ℕ) (more : List ℕ) → 1 ≤ room
    → binary_from ending lists (suc o) room place (0 ∷ more) ≡ next (record { place = place; word = word.Number (pos 0) }) (binary_from ending lists o (room - 1) (place + 1) more)
binary_zero ending lists o room place more le =
    let closed : suc o - 1 ≡ o = omega arith in
    binary_first ending lists (suc o) room place [] 0 more (Ok (word.Number (pos 0))) refl refl le refl
    ∙ ap (λ (k : ℕ). next (record { place = place; word = word.Number (pos 0) }) (binary_from ending lists k (room - 1) (place + 1) more)) closed

-- numbers of a binary file up to the end of the last list
pub binary_begins_numbers : (xs : List ℤ) → Narrow xs → (ending : Ending) (lists room place : ℕ) (more : List ℕ) → length (number_list xs) ≤ room
    → Begins (xs ++ pos 0 ∷ []) (binary_from ending lists (suc (zeros xs)) room place (number_list xs ++ more)) (binary_from ending lists 0 (room - length (number_list xs)) (place + length (number_list xs)) more)
binary_begins_numbers [] n ending lists room place more le = (place, binary_from ending lists 0 (room - 1) (place + 1) more, binary_zero ending lists 0 room place more le, refl)
binary_begins_numbers (x ∷ xs) n ending lists room place more le =
    let size : length (number_list (x ∷ xs)) ≡ length (number_bytes x) + length (number_list xs) =
    ap length (append_assoc (number_bytes x) (flat_map number_bytes xs) (0 ∷ [])) ∙ length-append (number_bytes x) (number_list xs) in
    let bytes : number_list (x ∷ xs) ++ more ≡ number_bytes x ++ (number_list xs ++ more) =
    ap (λ l. l ++ more) (append_assoc (number_bytes x) (flat_map number_bytes xs) (0 ∷ [])) ∙ append_assoc (number_bytes x) (number_list xs) more in
    let room_is : room - length (number_bytes x) - length (number_list xs) ≡ room - length (number_list (x ∷ xs)) = omega arith in
    let place_is : place + length (number_bytes x) + length (number_list xs) ≡ place + length (number_list (x ∷ xs)) = omega arith in
    let here : ℕ → Tokens = λ (k : ℕ). binary_from ending lists k (room - length (number_bytes x)) (place + length (number_bytes x)) (number_list xs ++ more) in (
      place,
      here (suc (zeros xs)),
      ap (binary_from ending lists (suc (zeros (x ∷ xs))) room place) bytes
          ∙ binary_number x n.0 ending lists (zeros (x ∷ xs)) room place (number_list xs ++ more) (omega arith)
          ∙ ap (λ k. next (record { place = place; word = word.Number x }) (here k)) (open_zeros lists x xs),
      subst (λ (p : ℕ). Begins (xs ++ pos 0 ∷ []) (here (suc (zeros xs))) (binary_from ending lists 0 (room - length (number_list (x ∷ xs))) p more)) place_is
          (subst (λ (r : ℕ). Begins (xs ++ pos 0 ∷ []) (here (suc (zeros xs))) (binary_from ending lists 0 r (place + length (number_bytes x) + length (number_list xs)) more)) room_is
          (binary_begins_numbers xs n.1 ending lists (room - length (number_bytes x)) (place + length (number_bytes x)) more (omega arith))),
    )
