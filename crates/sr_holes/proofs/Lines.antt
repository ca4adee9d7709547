-- The lemma with a swap.
use Rattle.std.proofs.Common.{◌≡◌, ℕ, zero, suc, ◌+◌, ◌-◌, ◌<◌, ◌≤◌, ap, refl, List, [], ◌∷◌, ◌++◌, map, arith}
use Rattle.std.specs.Prelude.{flat_map, Result, OnOk}
use Rattle.std.specs.List.{range_with_len}
use Rattle.sr_base.specs.Literal.{Literal, number}
use Rattle.sr_base.specs.declared.names.Form.TheVariants.{Text}
use Rattle.sr_model.specs.Writing.{flat, maps_written, number_line, written_line}
use Rattle.sr_scan.specs.Written.{written_literals, written_end}
use Rattle.sr_scan.proofs.WriteLemmas.{literals_written_append}
use Rattle.sr_holes.specs.Holes.{not_in_hole, exchange, swap, swap_line}
use Rattle.sr_holes.specs.Places.{taken_over}
use Rattle.sr_holes.proofs.Growing.{grow, line_end}

maps_from : (p : Literal) (n i j len : ℕ) → 0 < len → maps_written p (flat_map (exchange n i j) (range_with_len 1 len)) ≡ p ∷ flat (flat_map (exchange n i j) (range_with_len 1 len))
maps_from p n i j zero some = absurd (omega arith)
maps_from p n i j (suc len) some = refl

-- where there is a hole below, the swap is written behind the pivot
maps_are : (p : Literal) (n i j m : ℕ) → 0 < m → maps_written p (swap n i j m) ≡ p ∷ flat (swap n i j m)
maps_are p n i j m some = maps_from p n i j (m + 1 - 1) (omega arith)

-- the literals of the lemma, as they are written
abbrev swap_literals : ℕ → ℕ → ℕ → List Literal
swap_literals n k i = ((taken_over n k i ++ taken_over n k i) ++ not_in_hole n i k ∷ []) ++ flat (swap n i (k + 1) (k - 1))

swap_line_is : (n k i : ℕ) → 2 ≤ k → written_line Text (swap_line n k i) ≡ number_line (map number (swap_literals n k i))
swap_line_is n k i second = ap (λ ms. number_line (map number (taken_over n k i ++ (taken_over n k i ++ ms)))) (maps_are (not_in_hole n i k) n i (k + 1) (k - 1) (omega arith))

pub swap_line_put : {T E : Type 0} (r : Result T E) (n k i : ℕ) (old first second third maps new : List ℕ) → 2 ≤ k
    → first ≡ old ++ written_literals Text (taken_over n k i) → second ≡ first ++ written_literals Text (taken_over n k i)
    → third ≡ second ++ written_literals Text (not_in_hole n i k ∷ []) → maps ≡ third ++ written_literals Text (flat (swap n i (k + 1) (k - 1)))
    → OnOk r (new ≡ maps ++ written_end Text) → OnOk r (new ≡ old ++ written_line Text (swap_line n k i))
swap_line_put r n k i old first second third maps new above a b c d e =
    let text = written_literals Text in
    let joins = literals_written_append Text in
    let two : second ≡ old ++ text (taken_over n k i ++ taken_over n k i) = grow text joins (taken_over n k i) (taken_over n k i) (taken_over n k i ++ taken_over n k i) old first second refl a b in
    let three = grow text joins (taken_over n k i ++ taken_over n k i) (not_in_hole n i k ∷ []) ((taken_over n k i ++ taken_over n k i) ++ not_in_hole n i k ∷ []) old second third refl two c in
    let all = grow text joins ((taken_over n k i ++ taken_over n k i) ++ not_in_hole n i k ∷ []) (flat (swap n i (k + 1) (k - 1))) (swap_literals n k i) old third maps refl three d in
    rw (swap_line_is n k i above) (line_end r old maps new (swap_literals n k i) all e)
