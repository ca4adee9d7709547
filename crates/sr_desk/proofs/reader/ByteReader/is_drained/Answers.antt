use Rattle.std.proofs.Common.{◌<◌, arith, ap, ◌∙◌, subst, length, ◌≤◌}
use Rattle.sr_desk.proofs.BufferLemmas.{ahead-ends}
use Rattle.sr_desk.proofs.ReaderLemmas.{ahead-size}
use Rattle.sr_desk.specs.Reader.{Reader}
use Rattle.sr_desk.specs.declared.reader.TheConstants.{CAPACITY}
use Rattle.sr_desk.proofs.reader.ByteReader.is_drained.Goals as goal

pub returns-else-self-clause-drained : goal.returns-else-self-clause-drained
returns-else-self-clause-drained c =
    let lt : c.self.inside.at < c.self.inside.held = omega (arith, c.if-self.false, c.self.invariant.at, c.self.invariant.end) in (
      λ e. absurd (c.if-self.false (search arith)),
      λ p. absurd (let le = ahead-ends c.self.inside.buffer.items c.self.inside.at c.self.inside.held c.self.invariant.held (ap (λ (r : Reader). r.ahead) c.self.view_is ∙ p.0) in omega (arith, lt, le)),
    )

pub returns-else-self-clause-size : goal.returns-else-self-clause-size
returns-else-self-clause-size c = subst (λ (r : Reader). length r.ahead ≤ CAPACITY) c.self.view_is (ahead-size c.self.inside c.self.invariant)
