use Rattle.std.proofs.Common.{◌≡◌, ◌-◌, ◌+◌, ◌<◌, get_or, length, arith, ap}
use Rattle.std.proofs.lemmas.List.{get_or_default}
use Rattle.std.proofs.lemmas.List.Sorted.{all_adjacent_more}
use Rattle.sr_wit.proofs.parts.rises.Goals as goal

pub returns-then-parts-i : goal.returns-then-parts-i
returns-then-parts-i c = (
  λ t. cc,
  λ rising.
      let next : c.loop-i.i - 1 + 1 ≡ c.loop-i.i = omega arith in
      let last : c.loop-i.i - 1 + 1 < length c.args.parts.now = omega arith in
      let above = rising (c.loop-i.i - 1) c.index-parts-i.result last in
      let same = ap (λ p. p.0) (get_or_default c.args.parts.now (c.loop-i.i - 1) c.index-parts-i.result c.index-parts-i-in-loop-i.result (omega arith)) in
      let here : (get_or c.args.parts.now (c.loop-i.i - 1) c.index-parts-i.result).0 < (get_or c.args.parts.now c.loop-i.i c.index-parts-i.result).0 = rw next at above in
      absurd (omega arith),
)

pub loop-i-preserved : goal.loop-i-preserved
loop-i-preserved c = all_adjacent_more c.args.parts.now (λ p q. p.0 < q.0) c.loop-i.i (omega arith) c.loop-i.invariant
    (λ d.
    let low = ap (λ p. p.0) (get_or_default c.args.parts.now (c.loop-i.i - 1) d c.index-parts-i-in-loop-i.result (omega arith)) in
    let high = ap (λ p. p.0) (get_or_default c.args.parts.now c.loop-i.i d c.index-parts-i.result (omega arith)) in
    omega arith)
