use Rattle.std.proofs.Common.{◌≡◌, take, map}
use Rattle.std.specs.Prelude.{string_bytes}
use Rattle.sr_emit.specs.Help.{text_lines}
use Rattle.sr_emit.proofs.help.joined.Given as goal

abbrev pub invariant-loop-line : goal.invariant-loop-line
invariant-loop-line l = string_bytes l.text ≡ text_lines (map (λ s. s.now) (take l.line-index l.lines))
