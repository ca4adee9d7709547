-- Numbers that are written, in text and in binary.
use Rattle.std.proofs.Common.{◌≡◌, ◌∙◌, ℕ, zero, suc, ◌+◌, ◌-◌, ◌*◌, ◌^◌, ◌/◌, ◌%◌, ◌<◌, ◌≤◌, ◌&&◌, Bool, true, false, refl, sym, ap, subst, List, [], ◌∷◌, ◌++◌, length, take, Some, Ok, ℤ, pos, negsuc, arith}
use Rattle.std.specs.Prelude.{All, nat_abs, nat_lt, ◌==◌, decimal}
use Rattle.std.specs.Fmt.{signed_decimal}
use Rattle.std.specs.Int.{IsInRange}
use Rattle.std.specs.List.{list_any, list_all}
use Rattle.std.proofs.lemmas.Bool.Decides.{nat_tests}
use Rattle.std.proofs.lemmas.Fmt.{decimal_nonempty, digits_decimal, digits_value-decimal, decimal_digit}
use Rattle.std.proofs.lemmas.Str.Parse.{IsDigitsTest, FoldsDigits, IsNumeralModel, numerals_by_fold}
use Rattle.std.proofs.lemmas.List.{take_all}
use Rattle.std.proofs.Math.Nat.{pow-suc}
use Rattle.sr_model.specs.declared.tokens.Word.TheVariants as word
use Rattle.sr_model.specs.Words.{is_white, is_digit, value_after, signed, number_word, number_by, said_by}
use Rattle.sr_model.specs.TextTokens.{is_comment}
use Rattle.sr_model.specs.BinaryTokens.{is_last, low_bits, value_of, value_word, number_said}
use Rattle.sr_model.specs.Writing.{value_for, groups_for, number_bytes}
use Rattle.sr_model.proofs.Soundness.{by_test}
use Rattle.sr_model.proofs.TextTokens.{is_dark, IsToken}
use Rattle.sr_model.proofs.BinaryTokens.{go_on}

-- digits
abbrev AreDigits : List ℕ → Type 0
AreDigits ds = list_all is_digit ds ≡ true

digits_first : (d : ℕ) (ds : List ℕ) → AreDigits (d ∷ ds) → (is_digit d ≡ true) × AreDigits ds
digits_first d ds h = by_test (is_digit d)
    (λ e. (e, rw e at h))
    (λ e. let bad = rw e at h in absurd cc)

digit_range : (d : ℕ) → is_digit d ≡ true → IsInRange 48 57 d
digit_range d h = (grind (arith, nat_tests), grind (arith, nat_tests))

range_digit : (d : ℕ) → IsInRange 48 57 d → is_digit d ≡ true
range_digit d h = grind (arith, nat_tests)

tells_are_digits : IsDigitsTest AreDigits
tells_are_digits = record {
  empty = refl;
  parts = λ c cs h. let f = digits_first c cs h in (digit_range c f.0, f.1);
  more = λ c cs r h. let t : is_digit c ≡ true = range_digit c r in rw t h;
}

folds_value : FoldsDigits value_after
folds_value = record {
  empty = λ n. refl;
  more = λ n c cs r. ap (λ (m : ℕ). value_after m cs) (omega arith);
}

numerals : IsNumeralModel AreDigits (value_after 0)
numerals = numerals_by_fold AreDigits tells_are_digits value_after folds_value

-- what the decimal digits of a number say
decimal_says : (negative : Bool) (n : ℕ) → n < 2 ^ 63 → number_by negative (decimal n) ≡ number_word negative n
decimal_says negative n h = at (decimal n) (decimal_nonempty n (omega arith)) (digits_decimal numerals n (omega arith)) (digits_value-decimal numerals n (omega arith))
  where
    at : (ds : List ℕ) → 0 < length ds → AreDigits ds → value_after 0 ds ≡ n → number_by negative ds ≡ number_word negative n
    at [] some d v = absurd (omega arith)
    at (c ∷ cs) some d v = rw (d, v) refl

digits_said : (ds : List ℕ) → 0 < length ds → AreDigits ds → said_by ds ≡ number_by false ds
digits_said [] some d = absurd (omega arith)
digits_said (c ∷ cs) some d =
    let f = digits_first c cs d in
    let minus : (c == 45) ≡ false = grind (arith, nat_tests) in
    rw (minus, f.0) refl

word_plain : (n : ℕ) → n < 2 ^ 63 → number_word false n ≡ Ok (word.Number (pos n))
word_plain n h = let t : nat_lt n (2 ^ 63) ≡ true = grind (arith, nat_tests) in rw t refl

word_minus : (n : ℕ) → suc n < 2 ^ 63 → number_word true (suc n) ≡ Ok (word.Number (negsuc n))
word_minus n h =
    let t : nat_lt (suc n) (2 ^ 63) ≡ true = grind (arith, nat_tests) in
    let z : (suc n == 0) ≡ false = grind (arith, nat_tests) in
    let e : suc n - 1 ≡ n = omega arith in
    rw (z, t, e) refl

pub decimal_said : (x : ℤ) → nat_abs x < 2 ^ 63 → said_by (signed_decimal x) ≡ Ok (word.Number x)
decimal_said (pos n) h =
    digits_said (decimal n) (decimal_nonempty n (omega arith)) (digits_decimal numerals n (omega arith)) ∙ decimal_says false n h ∙ word_plain n h
decimal_said (negsuc n) h = decimal_says true (suc n) h ∙ word_minus n h

-- digits are dark, and begin no comment
digits_dark : (ds : List ℕ) → AreDigits ds → list_all is_dark ds ≡ true
digits_dark [] d = refl
digits_dark (c ∷ cs) d =
    let f = digits_first c cs d in
    let dark : is_white c ≡ false = grind (arith, nat_tests) in
    rw dark (digits_dark cs f.1)

digits_plain : (ds : List ℕ) → AreDigits ds → is_comment ds ≡ false
digits_plain [] d = refl
digits_plain (c ∷ cs) d =
    let f = digits_first c cs d in
    let dark : is_white c ≡ false = grind (arith, nat_tests) in
    let other : (c == 99) ≡ false = grind (arith, nat_tests) in
    rw (dark, other) refl

plain_token : (begins c : Bool) → c ≡ false → (begins && c) ≡ false
plain_token true c e = e
plain_token false c e = refl

pub decimal_is_token : (begins : Bool) (n : ℕ) → n < 2 ^ 63 → IsToken begins (decimal n)
decimal_is_token begins n h =
    let d = digits_decimal numerals n (omega arith) in
    record { some = decimal_nonempty n (omega arith); dark = digits_dark (decimal n) d; plain = plain_token begins (is_comment (decimal n)) (digits_plain (decimal n) d) }

pub signed_is_token : (begins : Bool) (x : ℤ) → nat_abs x < 2 ^ 63 → IsToken begins (signed_decimal x)
signed_is_token begins (pos n) h = decimal_is_token begins n h
signed_is_token begins (negsuc n) h = record { some = omega arith; dark = digits_dark (decimal (suc n)) (digits_decimal numerals (suc n) (omega arith)); plain = plain_token begins false refl }

-- a token of one byte that begins no comment
pub one_byte : (begins : Bool) (b : ℕ) → is_white b ≡ false → (b == 99) ≡ false → IsToken begins (b ∷ [])
one_byte begins b w c = record { some = omega arith; dark = rw w refl; plain = plain_token begins (is_comment (b ∷ [])) (rw (w, c) refl) }

pub zero_text : decimal 0 ≡ 48 ∷ []
zero_text = decimal_digit 0 (omega arith)

-- the bytes of a value: all but the last have the top bit
pub record IsSpelling (bytes : List ℕ) (v most : ℕ) : Type 0 where
  pub heads : List ℕ
  pub end : ℕ
  pub split : bytes ≡ heads ++ end ∷ []
  pub goes_on : go_on heads
  pub ends : is_last end ≡ true
  pub value : value_of bytes ≡ v
  pub short : length bytes ≤ most

one_group : (most v : ℕ) → nat_lt v 128 ≡ true → IsSpelling (v ∷ []) v (suc most)
one_group most v t =
    let small : v < 128 = grind (arith, nat_tests) in
    let low : low_bits v ≡ v = rw t refl in
    record { heads = []; end = v; split = refl; goes_on = refl; ends = t; value = omega arith; short = omega arith }

more_groups : (most v : ℕ) (rest : List ℕ) → IsSpelling rest (v / 128) most → IsSpelling ((v % 128 + 128) ∷ rest) v (suc most)
more_groups most v rest r = record {
  heads = (v % 128 + 128) ∷ r.heads;
  end = r.end;
  split = ap (λ x. (v % 128 + 128) ∷ x) r.split;
  goes_on = let t : is_last (v % 128 + 128) ≡ false = grind (arith, nat_tests) in rw t r.goes_on;
  ends = r.ends;
  value = let t : is_last (v % 128 + 128) ≡ false = grind (arith, nat_tests) in let low : low_bits (v % 128 + 128) ≡ v % 128 + 128 - 128 = rw t refl in omega (arith, r.value);
  short = omega (arith, r.short);
}

pub groups_spell : (most v : ℕ) → v < 128 ^ suc most → IsSpelling (groups_for (suc most) v) v (suc most)
unfolding groups_for
groups_spell zero v h =
    let e : 128 ^ 1 ≡ 128 = refl in
    let t : nat_lt v 128 ≡ true = grind (arith, nat_tests) in
    rw t (one_group 0 v t)
groups_spell (suc m) v h = by_test (nat_lt v 128)
    (λ t. rw t (one_group (suc m) v t))
    (λ t.
    let e : 128 ^ suc (suc m) ≡ 128 ^ suc m * 128 = pow-suc 128 (suc m) in
    let small : v / 128 < 128 ^ suc m = omega arith in
    rw t (more_groups (suc m) v (groups_for (suc m) (v / 128)) (groups_spell m (v / 128) small)))

value_small : (x : ℤ) → nat_abs x < 2 ^ 63 → value_for x < 128 ^ 10
value_small (pos n) h = omega arith
value_small (negsuc n) h = omega arith

pub number_spells : (x : ℤ) → nat_abs x < 2 ^ 63 → IsSpelling (number_bytes x) (value_for x) 10
number_spells x h = groups_spell 9 (value_for x) (value_small x h)

value_says : (x : ℤ) → nat_abs x < 2 ^ 63 → value_word (value_for x) ≡ Ok (word.Number x)
value_says (pos n) h =
    let sign : (2 * n % 2 == 1) ≡ false = grind (arith, nat_tests) in
    let size : 2 * n / 2 ≡ n = omega arith in
    rw (sign, size) (word_plain n h)
value_says (negsuc n) h =
    let sign : ((2 * (n + 1) + 1) % 2 == 1) ≡ true = grind (arith, nat_tests) in
    let size : (2 * (n + 1) + 1) / 2 ≡ suc n = omega arith in
    rw (sign, size) (word_minus n h)

-- bytes of which the last ends the number have one without the top bit
pub any_last : (hs : List ℕ) (b : ℕ) → is_last b ≡ true → list_any is_last (hs ++ b ∷ []) ≡ true
any_last [] b l = rw l refl
any_last (h ∷ hs) b l = by_test (is_last h) (λ e. rw e refl) (λ e. rw e (any_last hs b l))

pub number_said_again : (x : ℤ) → nat_abs x < 2 ^ 63 → number_said (number_bytes x) ≡ Some (Ok (word.Number x))
number_said_again x h =
    let s = number_spells x h in
    let any : list_any is_last (number_bytes x) ≡ true = ap (list_any is_last) s.split ∙ any_last s.heads s.end s.ends in
    let says : value_word (value_of (number_bytes x)) ≡ Ok (word.Number x) = ap value_word s.value ∙ value_says x h in
    rw (any, says) refl

pub number_run_said : (x : ℤ) → nat_abs x < 2 ^ 63 → number_said (take 10 (number_bytes x)) ≡ Some (Ok (word.Number x))
number_run_said x h = ap number_said (take_all 10 (number_bytes x) (number_spells x h).short) ∙ number_said_again x h

-- as many bytes at least spell a value
some_bytes : (bs : List ℕ) → 0 < value_of bs → 0 < length bs
some_bytes [] h = absurd (omega arith)
some_bytes (c ∷ cs) h = omega arith

low_small : (b : ℕ) → b < 256 → low_bits b < 128
low_small b h = by_test (is_last b) (λ t. rw t (grind (arith, nat_tests))) (λ t. rw t (omega arith))

groups_shortest : (most v : ℕ) (bytes : List ℕ) → All (λ b. b < 256) bytes → 0 < length bytes → value_of bytes ≡ v → length (groups_for most v) ≤ length bytes
unfolding groups_for
groups_shortest zero v bytes a some e = omega arith
groups_shortest (suc most) v [] a some e = absurd (omega arith)
groups_shortest (suc most) v (b ∷ bs) a some e = by_test (nat_lt v 128)
    (λ t. rw t (omega arith))
    (λ t.
    let large : 128 ≤ v = grind (arith, nat_tests) in
    let low : low_bits b < 128 = low_small b (a 0 b (omega arith)) in
    let rest : value_of bs ≡ v / 128 = omega arith in
    rw t (omega (arith, groups_shortest most (v / 128) bs (λ k d h. a (suc k) d (omega arith)) (some_bytes bs (omega arith)) rest)))

-- what says a number has its value
number_sized : (negative : Bool) (size : ℕ) (x : ℤ) → number_word negative size ≡ Ok (word.Number x) → (signed negative size ≡ x) × ((negative && size == 0) ≡ false)
number_sized negative size x h = by_test (negative && size == 0)
    (λ e. let bad = rw e at h in absurd cc)
    (λ e. by_test (nat_lt size (2 ^ 63))
    (λ t. let says = rw (e, t) at h in (cc, e))
    (λ t. let bad = rw (e, t) at h in absurd cc))

says_value : (v : ℕ) (x : ℤ) → value_word v ≡ Ok (word.Number x) → value_for x ≡ v
says_value v x h = by_test (v % 2 == 1) minus plain
  where
    plain : (v % 2 == 1) ≡ false → value_for x ≡ v
    plain t =
        let s = number_sized false (v / 2) x (rw t at h) in
        let even : 2 * (v / 2) ≡ v = grind (arith, nat_tests) in
        subst (λ z. value_for z ≡ v) s.0 even

    minus : (v % 2 == 1) ≡ true → value_for x ≡ v
    minus t =
        let s = number_sized true (v / 2) x (rw t at h) in
        let some : 0 < v / 2 = grind (arith, nat_tests, s.1) in
        let odd : 2 * (v / 2 - 1 + 1) + 1 ≡ v = grind (arith, nat_tests) in
        subst (λ z. value_for z ≡ v) s.0 odd

any_some : (bytes : List ℕ) → list_any is_last bytes ≡ true → 0 < length bytes
any_some [] h = absurd cc
any_some (b ∷ bs) h = omega arith

pub number_shortest : (x : ℤ) (bytes : List ℕ) → All (λ b. b < 256) bytes → number_said bytes ≡ Some (Ok (word.Number x)) → length (number_bytes x) ≤ length bytes
number_shortest x bytes a h = by_test (list_any is_last bytes)
    (λ e. let says = rw e at h in let ok : value_word (value_of bytes) ≡ Ok (word.Number x) = cc in groups_shortest 10 (value_for x) bytes a (any_some bytes e) (sym (says_value (value_of bytes) x ok)))
    (λ e. by_test (length bytes == 10)
    (λ t. let bad = rw (e, t) at h in absurd cc)
    (λ t. let bad = rw (e, t) at h in absurd cc))

pub zero_binary : number_bytes (pos 0) ≡ 0 ∷ []
unfolding groups_for
zero_binary = refl
