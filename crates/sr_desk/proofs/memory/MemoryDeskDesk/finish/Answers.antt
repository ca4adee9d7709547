use Rattle.std.proofs.Common.{◌∙◌, refl, sym, ap}
use Rattle.sr_desk.specs.Refusing.{refuses_in}
use Rattle.sr_desk.specs.declared.refusals.CallKind.TheVariants as kind
use Rattle.sr_desk.proofs.RefusingLemmas.{calls-counted}
use Rattle.sr_desk.proofs.memory.MemoryDeskDesk.finish.Goals as goal

pub returns-then-due-clause-fails : goal.returns-then-due-clause-fails
returns-then-due-clause-fails c = sym c.if-due.true ∙ c.due.ensures.due

pub returns-then-due-clause-counts : goal.returns-then-due-clause-counts
returns-then-due-clause-counts c = record {
  calls = λ k. calls-counted c.args.self.now.refusals.calls c.due.new.self.calls kind.Finish k c.due.ensures.calls c.due.ensures.counted;
  most = refl;
  refuses = ap refuses_in c.due.ensures.refused;
}

pub returns-clause-fails : goal.returns-clause-fails
returns-clause-fails c = sym c.if-due.false ∙ c.due.ensures.due

pub returns-clause-counts : goal.returns-clause-counts
returns-clause-counts c = record {
  calls = λ k. calls-counted c.args.self.now.refusals.calls c.due.new.self.calls kind.Finish k c.due.ensures.calls c.due.ensures.counted;
  most = refl;
  refuses = ap refuses_in c.due.ensures.refused;
}
