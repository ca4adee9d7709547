use Rattle.std.proofs.Common.{◌+◌, ◌<◌, length, rules}
use Rattle.std.proofs.lemmas.List.{get_or-set_same}
use Rattle.sr_sure.specs.Sure.{standing_at, unused}
use Rattle.sr_sure.proofs.Reading.{handed}
use Rattle.sr_sure.proofs.sure.SureDeskDesk.read.Goals as goal

pub returns-clause-bytes : goal.returns-clause-bytes
returns-clause-bytes c =
    let self = c.args.self.now in
    let small : c.args.slot.number < length c.args.self.now.slots = search rules in
    let s = standing_at self.slots c.args.slot.number in
    rw (get_or-set_same self.slots c.args.slot.number (record s { place = s.place + c.copy_front-count.result; ended = c.is_end.result }) unused small)
    (handed _ _ self.formula self.proof s c.copy_front-count.result c.is_end.result c.copy_front-count.new.buf c.args.buf.now (search rules)
    (rw c.rest.ensures.bytes at c.copy_front-count.ensures.count) (rw c.rest.ensures.bytes at c.copy_front-count.ensures.front) c.is_end.ensures)
