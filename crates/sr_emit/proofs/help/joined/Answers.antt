use Rattle.std.proofs.Common.{ℕ, List, [], rules, arith, Bor}
use Rattle.sr_emit.specs.Help.{text_lines}
use Rattle.sr_emit.proofs.Lines.{one_more}
use Rattle.sr_emit.proofs.help.joined.Goals as goal

pub loop-line-init : goal.loop-line-init
unfolding text_lines
loop-line-init c = search rules

pub loop-line-preserved : goal.loop-line-preserved
loop-line-preserved c =
    let more = one_more (λ (s : Bor (List ℕ)). s.now) c.args.lines.now c.loop-line.line-index (record { ref_ptr = (0, 0); now = [] }) (omega arith) in
    cc (more, c.in_ok-push_str.ensures.bytes, c.in_ok-push_str-2.ensures.bytes)
