use Rattle.std.proofs.Common.{◌≡◌, drop, arith, ap, ◌∙◌}
use Rattle.std.specs.Ordering.{nat_cmp}
use Rattle.std.specs.BTreeMap as tree
use Rattle.sr_wit.specs.Signs.{differs}
use Rattle.sr_wit.proofs.PartLemmas.{summary, twice_of-before, summary-before}
use Rattle.sr_wit.proofs.parts.first_twice.Goals as goal
use Rattle.sr_wit.proofs.parts.first_twice.Goals.{then-clash, else-clash}

pub loop-i-preserved : goal.loop-i-preserved
loop-i-preserved c =
    let later = c.loop-i.invariant.later in
    let clash : c.clashes-clash.result ≡ differs c.index-parts-i.result.1 (summary (drop c.loop-i.i c.args.parts.now) c.index-parts-i.result.0) =
    c.clashes-clash.ensures ∙ ap (differs c.index-parts-i.result.1) (later c.index-parts-i.result.0) in
    record {
      within = omega arith;
      found = twice_of-before c.args.parts.now c.loop-i.i c.index-parts-i.result c.loop-i.found c.if-clash.found c.clashes-clash.result
          (omega arith) c.loop-i.invariant.within c.index-parts-i.is c.loop-i.invariant.found clash
          (λ h. elim c.if-clash.branch [ then-clash w ↦ w.found-is | else-clash w ↦ absurd (grind arith) ])
          (λ h. elim c.if-clash.branch [ then-clash w ↦ absurd (grind arith) | else-clash w ↦ w.found-is ]);
      later = summary-before c.args.parts.now c.loop-i.i c.index-parts-i.result (tree.get nat_cmp c.loop-i.later) (tree.get nat_cmp c.insert.new.self) c.clashes-clash.result
          (omega arith) c.loop-i.invariant.within c.index-parts-i.is later clash c.in-Ok.ensures.updates.0;
    }
