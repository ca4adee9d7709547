use Rattle.std.proofs.Common.{◌≡◌, ◌-◌, ◌<◌, ◌≤◌, suc, zero, ℕ, List, arith, length, get_or}
use Rattle.std.proofs.lemmas.Grind.{common_steps}
use Rattle.sr_wit.specs.Pieces.{AreEnds}
use Rattle.sr_wit.proofs.PieceLemmas.{piece_within}
use Rattle.sr_placing.proofs.chains.piece.Goals as goal

-- a piece that isn't the first one
later : (ends : List ℕ) (whole i : ℕ) → AreEnds 0 ends whole → i < length ends → 0 < i → (get_or ends (i - 1) 0 ≤ get_or ends i 0) × (get_or ends i 0 ≤ whole)
later ends whole zero h l p = absurd (omega arith)
later ends whole (suc i) h l p = let e : suc i - 1 ≡ i = omega arith in rw e (piece_within 0 ends whole (suc i) h l)

pub slice_bounds-result-end : goal.slice_bounds-result-end
slice_bounds-result-end c =
    let within = piece_within 0 c.args.ends.now (length c.args.numbers.now) c.args.at c.requires.cut c.requires.index in
    let bound : get_or c.args.ends.now c.args.at 0 ≤ length c.args.numbers.now = within.1 in
    grind (arith, common_steps)

pub slice_bounds-result-start : goal.slice_bounds-result-start
slice_bounds-result-start c =
    let within = later c.args.ends.now (length c.args.numbers.now) c.args.at c.requires.cut c.requires.index (omega arith) in
    within.0

pub slice_bounds-result-count : goal.slice_bounds-result-count
slice_bounds-result-count c =
    let within = later c.args.ends.now (length c.args.numbers.now) c.args.at c.requires.cut c.requires.index (omega arith) in
    within.0

pub slice_bounds-result-end-2 : goal.slice_bounds-result-end-2
slice_bounds-result-end-2 c =
    let within = later c.args.ends.now (length c.args.numbers.now) c.args.at c.requires.cut c.requires.index (omega arith) in
    within.1

pub offset_bounds-numbers-start : goal.offset_bounds-numbers-start
offset_bounds-numbers-start c =
    let within = later c.args.ends.now (length c.args.numbers.now) c.args.at c.requires.cut c.requires.index (omega arith) in
    omega (arith, within.0, within.1)
