-- Digits that are spelled from the last, before what stands behind them.
use Rattle.std.proofs.Common.{◌≡◌, ◌≢◌, ◌∙◌, ℕ, suc, ◌+◌, ◌-◌, ◌*◌, ◌/◌, ◌%◌, ◌^◌, ◌<◌, ◌≤◌, sym, ap, List, [], ◌∷◌, ◌++◌, length, drop, set, arith, append_assoc}
use Rattle.std.specs.Fmt.{decimal}
use Rattle.std.proofs.lemmas.Fmt.{decimal_digit, decimal_step}
use Rattle.std.proofs.lemmas.List.{drop-set}
use Rattle.std.proofs.Math.Nat.{pow-suc}

-- a digit is put before those that are spelled
put_before : (text : List ℕ) (at d : ℕ) → 1 ≤ at → at ≤ length text → drop (at - 1) (set text (at - 1) d) ≡ d ∷ drop at text
put_before text at d some le =
    let same : at - 1 + 1 ≡ at = omega arith in
    drop-set text (at - 1) d (omega arith) ∙ ap (λ (n : ℕ). d ∷ drop n text) same

-- the digits of what is left stand before those that are spelled
pub record Spells (text : List ℕ) (at left : ℕ) (whole : List ℕ) : Type 0 where
  pub low : 2 ≤ at
  pub high : at ≤ 20
  pub room : left < 10 ^ (at - 1)
  pub digits : whole ≡ decimal left ++ drop at text

pub spell_more : (text : List ℕ) (at left : ℕ) (whole : List ℕ) → length text ≡ 21 → 10 ≤ left → left < 2 ^ 64 → Spells text at left whole → Spells (set text (at - 1) (48 + left % 10)) (at - 1) (left / 10) whole
spell_more text at left whole len ten small s =
    let more : at ≢ 2 = λ e. absurd (let bound : left < 10 ^ (2 - 1) = rw e at s.room in omega arith) in
    let next : at - 1 ≡ suc (at - 1 - 1) = omega (arith, s.low) in
    let power : 10 ^ (at - 1) ≡ 10 ^ (at - 1 - 1) * 10 = ap (λ (n : ℕ). 10 ^ n) next ∙ pow-suc 10 (at - 1 - 1) in
    record {
      low = omega (arith, s.low);
      high = omega (arith, s.high);
      room = omega (arith, power, s.room);
      digits = s.digits ∙ ap (λ (l : List ℕ). l ++ drop at text) (decimal_step left ten small)
          ∙ append_assoc (decimal (left / 10)) ((48 + left % 10) ∷ []) (drop at text)
          ∙ ap (λ (l : List ℕ). decimal (left / 10) ++ l) (sym (put_before text at (48 + left % 10) (omega (arith, s.low)) (omega (arith, s.high))));
    }

pub spell_last : (text : List ℕ) (at left : ℕ) (whole : List ℕ) → length text ≡ 21 → left < 10 → Spells text at left whole → drop (at - 1) (set text (at - 1) (48 + left)) ≡ whole
spell_last text at left whole len small s =
    put_before text at (48 + left) (omega (arith, s.low)) (omega (arith, s.high)) ∙ ap (λ (l : List ℕ). l ++ drop at text) (sym (decimal_digit left small)) ∙ sym s.digits
