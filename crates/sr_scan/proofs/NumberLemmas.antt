-- Digits that are spelled from the last.
use Rattle.std.proofs.Common.{◌≡◌, ◌≢◌, ◌∙◌, ℕ, suc, ◌+◌, ◌-◌, ◌*◌, ◌/◌, ◌%◌, ◌^◌, ◌<◌, ◌≤◌, refl, sym, ap, List, [], ◌∷◌, ◌++◌, length, take, drop, set, zero, true, false, arith, append_assoc}
use Rattle.std.specs.Fmt.{decimal}
use Rattle.std.proofs.lemmas.Fmt.{decimal_digit, decimal_step}
use Rattle.std.proofs.lemmas.List.{drop-set, take_more_set}
use Rattle.std.specs.Prelude.{nat_lt}
use Rattle.std.proofs.lemmas.Bool.Decides.{nat_tests}
use Rattle.sr_model.specs.Writing.{groups_for}
use Rattle.std.proofs.Math.Nat.{pow-suc}

-- a digit is put before those that are spelled
put-before : (text : List ℕ) (at d : ℕ) → 1 ≤ at → at ≤ length text → drop (at - 1) (set text (at - 1) d) ≡ d ∷ drop at text
put-before text at d some le =
    let same : at - 1 + 1 ≡ at = omega arith in
    drop-set text (at - 1) d (omega arith) ∙ ap (λ (n : ℕ). d ∷ drop n text) same

pub record Spells (text : List ℕ) (at left size : ℕ) : Type 0 where
  pub low : 2 ≤ at
  pub high : at ≤ 20
  pub room : left < 10 ^ (at - 1)
  pub digits : decimal size ≡ decimal left ++ drop at text

pub spell_more : (text : List ℕ) (at left size : ℕ) → length text ≡ 20 → 2 ≤ at → at ≤ 20 → left < 10 ^ (at - 1) → 10 ≤ left → left < 2 ^ 64 → decimal size ≡ decimal left ++ drop at text
    → Spells (set text (at - 1) (48 + left % 10)) (at - 1) (left / 10) size
spell_more text at left size len low high room ten small digits =
    let more : at ≢ 2 = λ e. absurd (let bound : left < 10 ^ (2 - 1) = rw e at room in omega arith) in
    let next : at - 1 ≡ suc (at - 1 - 1) = omega arith in
    let power : 10 ^ (at - 1) ≡ 10 ^ (at - 1 - 1) * 10 = ap (λ (n : ℕ). 10 ^ n) next ∙ pow-suc 10 (at - 1 - 1) in
    record {
      low = omega arith;
      high = omega arith;
      room = omega (arith, power, room);
      digits = digits ∙ ap (λ (l : List ℕ). l ++ drop at text) (decimal_step left ten small)
          ∙ append_assoc (decimal (left / 10)) ((48 + left % 10) ∷ []) (drop at text)
          ∙ ap (λ (l : List ℕ). decimal (left / 10) ++ l) (sym (put-before text at (48 + left % 10) (omega arith) (omega arith)));
    }

pub spell_last : (text : List ℕ) (at left size : ℕ) → length text ≡ 20 → 2 ≤ at → at ≤ 20 → left < 10 → decimal size ≡ decimal left ++ drop at text
    → drop (at - 1) (set text (at - 1) (48 + left)) ≡ decimal size
spell_last text at left size len low high small digits =
    put-before text at (48 + left) (omega arith) (omega arith) ∙ ap (λ (l : List ℕ). l ++ drop at text) (sym (decimal_digit left small)) ∙ sym digits

pub groups_for-small : (most v : ℕ) → 0 < most → v < 128 → groups_for most v ≡ v ∷ []
unfolding groups_for
groups_for-small zero v some lt = absurd (omega arith)
groups_for-small (suc k) v some lt = let t : nat_lt v 128 ≡ true = grind (arith, nat_tests) in rw t refl

pub groups_for-large : (most v : ℕ) → 0 < most → 128 ≤ v → groups_for most v ≡ (128 + v % 128) ∷ groups_for (most - 1) (v / 128)
unfolding groups_for
groups_for-large zero v some le = absurd (omega arith)
groups_for-large (suc k) v some le =
    let t : nat_lt v 128 ≡ false = grind (arith, nat_tests) in
    let one : suc k - 1 ≡ k = omega arith in
    let sum : v % 128 + 128 ≡ 128 + v % 128 = omega arith in
    rw (t, one, sum) refl

-- in two bytes, and in three
pub spelled_two : (v : ℕ) → 128 ≤ v → v / 128 < 128 → groups_for 10 v ≡ (128 + v % 128) ∷ v / 128 ∷ []
spelled_two v le lt = groups_for-large 10 v (omega arith) le ∙ ap (λ (ls : List ℕ). (128 + v % 128) ∷ ls) (groups_for-small 9 (v / 128) (omega arith) lt)

pub spelled_three : (v : ℕ) → 128 ≤ v → 128 ≤ v / 128 → v / 128 / 128 < 128 → groups_for 10 v ≡ (128 + v % 128) ∷ (128 + v / 128 % 128) ∷ v / 128 / 128 ∷ []
spelled_three v le more lt =
    groups_for-large 10 v (omega arith) le
    ∙ ap (λ (ls : List ℕ). (128 + v % 128) ∷ ls) (groups_for-large 9 (v / 128) (omega arith) more ∙ ap (λ (ls : List ℕ). (128 + v / 128 % 128) ∷ ls) (groups_for-small 8 (v / 128 / 128) (omega arith) lt))

pub record SpellsBytes (bytes : List ℕ) (len left value : ℕ) : Type 0 where
  pub few : len ≤ 4
  pub room : left < 128 ^ (5 - len)
  pub bytes_are : groups_for 10 value ≡ take len bytes ++ groups_for (10 - len) left

pub bytes_more : (bytes : List ℕ) (len left value : ℕ) → length bytes ≡ 5 → len ≤ 4 → left < 128 ^ (5 - len) → 128 ≤ left → groups_for 10 value ≡ take len bytes ++ groups_for (10 - len) left
    → SpellsBytes (set bytes len (128 + left % 128)) (len + 1) (left / 128) value
bytes_more bytes len left value size few room large are =
    let more : len ≢ 4 = λ e. absurd (let bound : left < 128 ^ (5 - 4) = rw e at room in omega arith) in
    let next : 5 - len ≡ suc (5 - (len + 1)) = omega arith in
    let power : 128 ^ (5 - len) ≡ 128 ^ (5 - (len + 1)) * 128 = ap (λ (n : ℕ). 128 ^ n) next ∙ pow-suc 128 (5 - (len + 1)) in
    let fuel : 10 - len - 1 ≡ 10 - (len + 1) = omega arith in
    record {
      few = omega arith;
      room = omega (arith, power, room);
      bytes_are = are ∙ ap (λ (l : List ℕ). take len bytes ++ l) (groups_for-large (10 - len) left (omega arith) large ∙ rw fuel refl)
          ∙ sym (append_assoc (take len bytes) ((128 + left % 128) ∷ []) (groups_for (10 - (len + 1)) (left / 128)))
          ∙ ap (λ (l : List ℕ). l ++ groups_for (10 - (len + 1)) (left / 128)) (sym (take_more_set bytes len (128 + left % 128) (omega arith)));
    }

pub bytes_last : (bytes : List ℕ) (len left value : ℕ) → length bytes ≡ 5 → len ≤ 4 → left < 128 → groups_for 10 value ≡ take len bytes ++ groups_for (10 - len) left
    → take (len + 1) (set bytes len left) ≡ groups_for 10 value
bytes_last bytes len left value size few small are =
    take_more_set bytes len left (omega arith) ∙ ap (λ (l : List ℕ). take len bytes ++ l) (sym (groups_for-small (10 - len) left (omega arith) small)) ∙ sym are
