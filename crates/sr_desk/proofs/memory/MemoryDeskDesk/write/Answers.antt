use Rattle.std.proofs.Common.{◌≡◌, ◌∙◌, ap, refl, take, true, not}
use Rattle.std.specs.Prelude.{is_ok}
use Rattle.sr_desk.specs.MemoryParts.{names_of, texts_of, usage_at, more_texts, more_out}
use Rattle.sr_desk.proofs.DeskLemmas.{writes-ok}
use Rattle.sr_desk.proofs.memory.MemoryDeskDesk.write.Goals as goal

pub returns-clause-only : goal.returns-clause-only
returns-clause-only c =
    let done : is_ok c.append.result ≡ true = c.is_err.ensures.negation ∙ ap not c.if-is_err.false in
    let texts : texts_of c.append.new.versions.items ≡ more_texts (texts_of c.args.self.now.versions.items) (usage_at c.args.self.now.uses c.args.slot.number) (take c.min-count.result c.args.piece.now) =
    rw done at c.append.ensures.texts in
    let out : c.append.new.out.items ≡ more_out c.args.self.now.out.items (usage_at c.args.self.now.uses c.args.slot.number) (take c.min-count.result c.args.piece.now) =
    rw done at c.append.ensures.out in
    rw (c.append.ensures.names, texts, out) (writes-ok (names_of c.args.self.now.versions.items) (texts_of c.args.self.now.versions.items) c.args.self.now.out.items c.args.self.now.begun c.args.self.now.uses
    (record { reads_from = c.args.self.now.reads_from; writes_to = c.args.self.now.writes_to; last = c.args.self.now.last; finished = c.args.self.now.finished; faults = c.args.self.now.faults }) c.args.slot.number (take c.min-count.result c.args.piece.now) (usage_at c.args.self.now.uses c.args.slot.number) refl
    (λ e. ap (usage_at c.args.self.now.uses) e ∙ c.args.self.now.output) c.args.self.now.fit c.args.self.now.apart c.args.self.now.named)
