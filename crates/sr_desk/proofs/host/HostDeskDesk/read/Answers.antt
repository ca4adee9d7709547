use Rattle.std.proofs.Common.{◌<◌, length, rules, None, [], refl}
use Rattle.std.proofs.lemmas.List.{get_or_default}
use Rattle.sr_desk.proofs.HostLemmas.{only_reads-ok, hands-ok, only_reads-err, hands_nothing}
use Rattle.sr_desk.proofs.host.HostDeskDesk.read.Goals as goal

pub returns-in-Some-clause-only : goal.returns-in-Some-clause-only
returns-in-Some-clause-only g c =
    let lt : c.args.slot.number < length c.args.self.now.sources = search rules in
    let lt_given : c.args.slot.number < length c.args.self.now.given = search rules in
    let source = get_or_default c.args.self.now.sources c.args.slot.number None c.index-self-n.result lt in
    let lt_last : c.args.slot.number < length c.args.self.now.last = search rules in
    let had = get_or_default c.args.self.now.given c.args.slot.number [] c.index-self-n-in-Some.result lt_given in
    only_reads-ok g.R.File.Read.remaining g.R.File.Write.contents _ c.args.slot.number c.after_read.result c.add.new.self c.read_from.new.buf c.in-Some.count c.read_from.new.file
    lt_given lt lt_last (rw source c.in-Some.ensures.some) (rw had c.add.ensures) c.after_read.ensures

pub returns-in-Some-clause-bytes : goal.returns-in-Some-clause-bytes
returns-in-Some-clause-bytes g c =
    let lt : c.args.slot.number < length c.args.self.now.sources = search rules in
    let lt_given : c.args.slot.number < length c.args.self.now.given = search rules in
    let source = get_or_default c.args.self.now.sources c.args.slot.number None c.index-self-n.result lt in
    let lt_last : c.args.slot.number < length c.args.self.now.last = search rules in
    let had = get_or_default c.args.self.now.given c.args.slot.number [] c.index-self-n-in-Some.result lt_given in
    let d = c.args.self.now in
    hands-ok g.R.File.Read.remaining g.R.File.Write.contents (record { begun = d.begun; reads_from = d.reads_from; writes_to = d.writes_to; reads = d.reads; writes = d.writes; finished = d.finished; last = d.last; faults = d.faults; given = d.given; sent = d.sent; sources = d.sources; targets = d.targets }) c.args.slot.number c.after_read.result c.add.new.self c.read_from.new.buf c.in-Some.count c.read_from.new.file
    lt_given lt lt_last (rw source c.in-Some.ensures.some) (rw had c.add.ensures) c.after_read.ensures

pub returns-in-None-clause-only : goal.returns-in-None-clause-only
returns-in-None-clause-only g c =
    let lt : c.args.slot.number < length c.args.self.now.sources = search rules in
    let source = get_or_default c.args.self.now.sources c.args.slot.number None c.index-self-n.result lt in
    let lt_last : c.args.slot.number < length c.args.self.now.last = search rules in
    only_reads-err g.R.File.Read.remaining g.R.File.Write.contents _ c.args.slot.number c.raise.new.faults c.read_from.new.file lt lt_last (rw source (c.in-None.ensures.none refl)) c.raise.ensures

pub returns-in-None-clause-bytes : goal.returns-in-None-clause-bytes
returns-in-None-clause-bytes g c =
    let lt : c.args.slot.number < length c.args.self.now.sources = search rules in
    let lt_last : c.args.slot.number < length c.args.self.now.last = search rules in
    let source = get_or_default c.args.self.now.sources c.args.slot.number None c.index-self-n.result lt in
    let d = c.args.self.now in
    hands_nothing g.R.File.Read.remaining g.R.File.Write.contents (record { begun = d.begun; reads_from = d.reads_from; writes_to = d.writes_to; reads = d.reads; writes = d.writes; finished = d.finished; last = d.last; faults = d.faults; given = d.given; sent = d.sent; sources = d.sources; targets = d.targets }) c.args.slot.number c.raise.new.faults c.read_from.new.file lt lt_last (rw source (c.in-None.ensures.none refl))
