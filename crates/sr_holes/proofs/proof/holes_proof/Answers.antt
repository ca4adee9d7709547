use Rattle.std.proofs.Common.{◌≡◌, ◌∙◌, ap, arith}
use Rattle.std.specs.Prelude.{flat_map, reverse}
use Rattle.sr_base.specs.declared.names.Form.TheVariants.{Text}
use Rattle.sr_model.specs.Writing.{written_lines}
use Rattle.sr_holes.specs.Holes.{from_to, lines_at, pigeonhole_proof}
use Rattle.sr_holes.proofs.proof.holes_proof.Goals as goal

pub returns : goal.returns
unfolding pigeonhole_proof
returns c =
    let at : c.loop-hole.hole ≡ 2 = omega arith in
    c.loop-hole.invariant.written ∙ ap (λ h. written_lines Text (flat_map (lines_at c.args.holes) (reverse (from_to h c.args.holes)))) at
