use Rattle.std.proofs.Common.{◌≡◌, ◌∙◌, ap, ◌+◌, ◌++◌, map, arith}
use Rattle.sr_base.specs.declared.names.Form.TheVariants.{Text}
use Rattle.sr_scan.specs.Written.{written_literals}
use Rattle.sr_holes.specs.Holes.{in_hole, in_some_hole}
use Rattle.sr_holes.proofs.Growing.{below, literal_step, line_end}
use Rattle.sr_holes.proofs.formula.put_some_hole.Goals as goal

pub loop-hole-preserved : goal.loop-hole-preserved
loop-hole-preserved c =
    literal_step (in_hole c.args.holes c.args.pigeon) 1 c.loop-hole.hole c.args.out.now c.loop-hole.out c.put_in_hole.new.out (omega arith) c.loop-hole.invariant c.in_ok-put_in_hole.ensures

pub returns : goal.returns
returns c =
    let at : c.loop-hole.hole ≡ c.args.holes + 1 = omega arith in
    let literals = c.loop-hole.invariant ∙ ap (λ h. c.args.out.now ++ written_literals Text (map (in_hole c.args.holes c.args.pigeon) (below 1 h))) at in
    line_end c.put_end.result c.args.out.now c.loop-hole.out c.put_end.new.out (in_some_hole c.args.holes c.args.pigeon) literals c.put_end.ensures.ok
