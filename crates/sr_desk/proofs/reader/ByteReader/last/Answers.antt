use Rattle.std.proofs.Common.{◌≤◌, ◌∙◌, ℕ, Some, ap, sym, arith, length}
use Rattle.sr_desk.specs.Reader.{Reader}
use Rattle.sr_desk.proofs.BufferLemmas.{last_after-taken}
use Rattle.sr_desk.proofs.reader.ByteReader.last.Goals as goal

pub returns-else-self-eq0 : goal.returns-else-self-eq0
returns-else-self-eq0 c =
    let within : c.self.inside.at ≤ length c.self.inside.buffer.items = omega (arith, c.self.invariant.at, c.self.invariant.end, c.self.invariant.held) in
    ap (λ (b : ℕ). Some b) c.index.ensures
    ∙ sym (last_after-taken c.self.inside.previous c.self.inside.buffer.items c.self.inside.at c.index.result.now c.if-self-eq0.false within)
    ∙ ap (λ (r : Reader). r.last) c.self.view_is
