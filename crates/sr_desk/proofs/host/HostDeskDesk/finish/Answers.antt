use Rattle.std.proofs.Common.{◌<◌, length, rules}
use Rattle.std.proofs.lemmas.List.{get_or_default}
use Rattle.sr_desk.specs.declared.target.Target.TheVariants.{Nothing}
use Rattle.sr_desk.proofs.HostLemmas.{finishes-ok, finishes-err}
use Rattle.sr_desk.proofs.host.HostDeskDesk.finish.Goals as goal

pub returns-then-not-flush-clause-finishes : goal.returns-then-not-flush-clause-finishes
returns-then-not-flush-clause-finishes g c =
    let lt : c.args.slot.number < length c.args.self.now.targets = search rules in
    let target = get_or_default c.args.self.now.targets c.args.slot.number Nothing c.index-self-n.result lt in
    finishes-err g.R.File.Read.remaining g.R.File.Write.contents _ c.args.slot.number c.raise.new.faults c.flush.new.target _ lt c.raise.ensures (rw target c.flush.ensures)

pub returns-clause-finishes : goal.returns-clause-finishes
returns-clause-finishes g c =
    let lt : c.args.slot.number < length c.args.self.now.targets = search rules in
    let lt_finished : c.args.slot.number < length c.args.self.now.finished = search rules in
    let target = get_or_default c.args.self.now.targets c.args.slot.number Nothing c.index-self-n.result lt in
    finishes-ok g.R.File.Read.remaining g.R.File.Write.contents _ c.args.slot.number c.flush.new.target lt lt_finished (rw target c.flush.ensures)
