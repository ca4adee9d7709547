use Rattle.std.proofs.Common.{◌<◌, length, rules, [], refl}
use Rattle.std.proofs.lemmas.List.{get_or_default}
use Rattle.sr_desk.specs.declared.target.Target.TheVariants.{Nothing}
use Rattle.sr_desk.proofs.HostLemmas.{sends-ok, sends-err, only_writes-err}
use Rattle.sr_desk.proofs.host.HostDeskDesk.write.Goals as goal

pub returns-in-Some-clause-bytes : goal.returns-in-Some-clause-bytes
returns-in-Some-clause-bytes g c =
    let lt : c.args.slot.number < length c.args.self.now.sent = search rules in
    let lt_targets : c.args.slot.number < length c.args.self.now.targets = search rules in
    let target = get_or_default c.args.self.now.targets c.args.slot.number Nothing c.index-self-n.result lt_targets in
    let had = get_or_default c.args.self.now.sent c.args.slot.number [] c.index-self-n-in-Some.result lt in
    let d = c.args.self.now in
    record {
      within = c.in-Some.ensures.within;
      some = c.in-Some.ensures.some;
      sends = sends-ok g.R.File.Read.remaining g.R.File.Write.contents (record { begun = d.begun; reads_from = d.reads_from; writes_to = d.writes_to; reads = d.reads; writes = d.writes; finished = d.finished; last = d.last; faults = d.faults; given = d.given; sent = d.sent; sources = d.sources; targets = d.targets }) c.args.slot.number c.add.new.self c.args.piece.now c.in-Some.count c.write_to.new.target lt lt_targets
          (rw target c.in-Some.ensures.told) (rw had c.add.ensures);
    }

pub returns-in-None-clause-only : goal.returns-in-None-clause-only
returns-in-None-clause-only g c =
    let lt : c.args.slot.number < length c.args.self.now.finished = search rules in
    only_writes-err g.R.File.Read.remaining g.R.File.Write.contents _ c.args.slot.number c.raise.new.faults c.write_to.new.target lt c.raise.ensures

pub returns-in-None-clause-bytes : goal.returns-in-None-clause-bytes
returns-in-None-clause-bytes g c =
    let lt : c.args.slot.number < length c.args.self.now.targets = search rules in
    let target = get_or_default c.args.self.now.targets c.args.slot.number Nothing c.index-self-n.result lt in
    let d = c.args.self.now in
    sends-err g.R.File.Read.remaining g.R.File.Write.contents (record { begun = d.begun; reads_from = d.reads_from; writes_to = d.writes_to; reads = d.reads; writes = d.writes; finished = d.finished; last = d.last; faults = d.faults; given = d.given; sent = d.sent; sources = d.sources; targets = d.targets }) c.args.slot.number c.raise.new.faults c.write_to.new.target lt (rw target (c.in-None.ensures.none refl))
