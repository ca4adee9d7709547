use Rattle.std.proofs.Common.{◌<◌, ◌-◌, arith, rules, get_or}
use Rattle.sr_scan.proofs.ValueLemmas.{spelled_last, spelled_more, leads-value}
use Rattle.sr_scan.proofs.value.long_value.Goals as goal

pub loop-at-init : goal.loop-at-init
loop-at-init c =
    let last = c.in_ok-last.ensures.last in
    record {
      within = omega arith;
      small = omega (arith, c.from-value.ensures, last);
      spells = spelled_last c.args.bytes.now c.in_ok-last.last c.from-value.result c.in_ok-last.ensures c.from-value.ensures;
    }

pub loop-at-preserved : goal.loop-at-preserved
loop-at-preserved c =
    let old = c.loop-at.invariant in
    let byte : get_or c.args.bytes.now (c.loop-at.at - 1) 0 < 256 = search (rules, c.type_inv.bytes (c.loop-at.at - 1)) in
    record {
      within = omega (arith, old.within);
      small = omega (arith, c.if-value-ge-ROOM.false, c.from.ensures, byte);
      spells = spelled_more c.args.bytes.now c.in_ok-last.last c.loop-at.at c.loop-at.value c.from.result c.in_ok-last.ensures old.within c.loop-at-test.true c.from.ensures old.spells;
    }

pub returns : goal.returns
returns c = leads-value c.args.bytes.now c.in_ok-last.last c.loop-at.at c.loop-at.value c.in_ok-last.ensures c.loop-at-test.false c.loop-at.invariant.small c.loop-at.invariant.spells
