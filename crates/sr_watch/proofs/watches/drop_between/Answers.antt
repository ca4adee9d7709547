use Rattle.std.proofs.Common.{◌≡◌, ◌<◌, ◌∙◌, arith, length, get_or}
use Rattle.std.proofs.lemmas.List.{get_or_default}
use Rattle.sr_watch.proofs.Rises.{reduced_start, reduced_skip, reduced_kept}
use Rattle.sr_watch.proofs.watches.drop_between.Goals as goal

pub loop-i-init : goal.loop-i-init
loop-i-init c = reduced_start c.args.kept.now.items c.args.low c.args.high c.count_low-first.result c.requires c.count_low-first.ensures.below

pub loop-i-preserved-then-n-high : goal.loop-i-preserved-then-n-high
loop-i-preserved-then-n-high c =
    let lt : c.loop-i.i < length c.args.kept.now.items = omega (arith, c.len-i-end.ensures, c.args.kept.now.ok.0, c.loop-i-test.true) in
    reduced_skip c.args.kept.now.items c.loop-i.kept.items c.args.low c.args.high c.loop-i.left c.loop-i.i c.requires lt c.loop-i.invariant

pub loop-i-preserved : goal.loop-i-preserved
loop-i-preserved c =
    let lt : c.loop-i.i < length c.args.kept.now.items = omega (arith, c.len-i-end.ensures, c.args.kept.now.ok.0, c.loop-i-test.true) in
    let is : c.index-n.result.now ≡ get_or c.loop-i.kept.items c.loop-i.i 0 = c.index-n.ensures ∙ get_or_default c.loop-i.kept.items c.loop-i.i c.index-n.result.now 0 (omega (arith, lt, c.loop-i.invariant.size)) in
    reduced_kept c.args.kept.now.items c.loop-i.kept.items c.args.low c.args.high c.loop-i.left c.loop-i.i c.index-n.result.now c.requires lt is (omega (arith, c.if-n-high.false)) c.loop-i.invariant
