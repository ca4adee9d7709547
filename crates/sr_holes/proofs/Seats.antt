-- The variables of the formula.
use Rattle.std.proofs.Common.{◌≡◌, ℕ, ◌+◌, ◌-◌, ◌*◌, ◌≤◌, arith}
use Rattle.std.proofs.lemmas.Nat.{mul-le, same_from_place}
use Rattle.sr_holes.specs.Holes.{seat, pigeonhole_formula}
use Rattle.sr_holes.specs.Laws.{IsPigeon, IsHole}

pub seat_low : (n p h : ℕ) → IsHole n h → 1 ≤ seat n p h
seat_low n p h i = omega (arith, i.0)

pub seat_high : (n p h : ℕ) → IsPigeon n p → IsHole n h → seat n p h ≤ n * (n + 1)
seat_high n p h i j = let row : (p - 1) * n ≤ n * n = mul-le (p - 1) n n n (omega (arith, i.1)) (omega arith) in omega (arith, j.1)

pub same_seat : (n p q h g : ℕ) → IsPigeon n p → IsPigeon n q → IsHole n h → IsHole n g → seat n p h ≡ seat n q g → (p ≡ q) × (h ≡ g)
same_seat n p q h g ip iq ih ig e =
    let same = same_from_place (p - 1) (h - 1) (q - 1) (g - 1) n (omega (arith, ih.0, ih.1)) (omega (arith, ig.0, ig.1)) (omega (arith, ih.0, ig.0)) in
    (omega (arith, same.0, ip.0, iq.0), omega (arith, same.1, ih.0, ig.0))

pub seats_are : (n p q h g : ℕ) → IsPigeon n p → IsPigeon n q → IsHole n h → IsHole n g
    → (1 ≤ seat n p h) × (seat n p h ≤ (pigeonhole_formula n).vars) × (seat n p h ≡ seat n q g → (p ≡ q) × (h ≡ g))
unfolding pigeonhole_formula
seats_are n p q h g ip iq ih ig = (seat_low n p h ih, seat_high n p h ip ih, same_seat n p q h g ip iq ih ig)
