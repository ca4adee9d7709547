-- Digits of a number of holes, one after another.
use Rattle.std.proofs.Common.{◌≡◌, ◌∙◌, ℕ, ◌+◌, ◌-◌, ◌*◌, ◌<◌, ◌≤◌, true, false, refl, ap, List, [], ◌∷◌, length, drop, get_or, Option, Some, None, arith}
use Rattle.std.specs.Prelude.{nat_le, ◌&&◌, if◌then◌else◌}
use Rattle.std.specs.List.{list_all}
use Rattle.std.proofs.lemmas.Bool.{lt-leb, le-leb, and_right}
use Rattle.std.proofs.lemmas.List.{drop_more}
use Rattle.sr_model.specs.Words.{is_digit, value_after}
use Rattle.sr_holes.specs.declared.literals.TheConstants.{MOST_HOLES}

-- a number by what was read of it and the digits that are left
abbrev pub holes_after : ℕ → List ℕ → Option ℕ
holes_after n digits =
    if list_all is_digit digits && (nat_le 2 (value_after n digits) && nat_le (value_after n digits) MOST_HOLES) then Some (value_after n digits) else None

value_grows : (n : ℕ) (digits : List ℕ) → n ≤ value_after n digits
value_grows n [] = omega arith
value_grows n (d ∷ ds) = omega (arith, value_grows (10 * n + (d - 48)) ds)

-- a number that is too great stays so
pub holes_above : (n : ℕ) (digits : List ℕ) → MOST_HOLES < n → holes_after n digits ≡ None
holes_above n digits above =
    let great : nat_le (value_after n digits) MOST_HOLES ≡ false = lt-leb (value_after n digits) MOST_HOLES (omega (arith, value_grows n digits)) in
    let fails : (list_all is_digit digits && (nat_le 2 (value_after n digits) && nat_le (value_after n digits) MOST_HOLES)) ≡ false =
    and_right (list_all is_digit digits) (nat_le 2 (value_after n digits) && nat_le (value_after n digits) MOST_HOLES) (and_right (nat_le 2 (value_after n digits)) (nat_le (value_after n digits) MOST_HOLES) great) in
    rw fails refl

pub holes_digit : (n d : ℕ) (ds : List ℕ) → is_digit d ≡ true → holes_after n (d ∷ ds) ≡ holes_after (10 * n + (d - 48)) ds
holes_digit n d ds e = rw e refl

pub holes_other : (n d : ℕ) (ds : List ℕ) → is_digit d ≡ false → holes_after n (d ∷ ds) ≡ None
holes_other n d ds e = rw e refl

pub holes_end : (n : ℕ) → 2 ≤ n → n ≤ MOST_HOLES → holes_after n [] ≡ Some n
holes_end n low high = let a = le-leb 2 n low in let b = le-leb n MOST_HOLES high in rw (a, b) refl

pub holes_few : (n : ℕ) → n < 2 → holes_after n [] ≡ None
holes_few n few = let a = lt-leb 2 n few in rw a refl

-- the next digit makes it too great
pub holes_past : (n i : ℕ) (digits : List ℕ) → i < length digits → is_digit (get_or digits i 0) ≡ true → MOST_HOLES < 10 * n + (get_or digits i 0 - 48) → holes_after n (drop i digits) ≡ None
holes_past n i digits low e above =
    ap (holes_after n) (drop_more digits i 0 low) ∙ holes_digit n (get_or digits i 0) (drop (i + 1) digits) e ∙ holes_above (10 * n + (get_or digits i 0 - 48)) (drop (i + 1) digits) above
