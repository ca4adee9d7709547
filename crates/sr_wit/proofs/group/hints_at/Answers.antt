use Rattle.std.proofs.Common.{◌+◌, ◌≤◌, ◌<◌, ℕ, List, length, get_or, arith}
use Rattle.sr_wit.specs.declared.group.GroupStart.{GroupStart}
use Rattle.sr_wit.specs.Groups.{AreStarts}
use Rattle.sr_wit.proofs.GroupLemmas.{group_within, end_at}
use Rattle.sr_wit.proofs.group.hints_at.Goals as goal

-- a group starts within the whole, and at most where the next one does
starts_within : (gs : List GroupStart) (whole i : ℕ) → AreStarts gs whole → i < length gs → (get_or gs i (record { id = 0; start = 0 })).start ≤ whole
starts_within gs whole i h l = let within = group_within gs whole i (record { id = 0; start = 0 }) h l in omega (arith, within.0, within.1)

ends_within : (gs : List GroupStart) (whole i : ℕ) → AreStarts gs whole → i + 1 < length gs
    → ((get_or gs i (record { id = 0; start = 0 })).start ≤ (get_or gs (i + 1) (record { id = 0; start = 0 })).start) × ((get_or gs (i + 1) (record { id = 0; start = 0 })).start ≤ whole)
ends_within gs whole i h l =
    let within = group_within gs whole i (record { id = 0; start = 0 }) h (omega arith) in
    let at = end_at gs whole (i + 1) (record { id = 0; start = 0 }) l in
    (omega (arith, within.0, at), omega (arith, within.1, at))

pub slice_bounds-result-count : goal.slice_bounds-result-count
slice_bounds-result-count c = starts_within c.args.starts.now (length c.args.hints.now) c.args.i c.requires.starts c.requires.index

pub slice_bounds-result-start : goal.slice_bounds-result-start
slice_bounds-result-start c = starts_within c.args.starts.now (length c.args.hints.now) c.args.i c.requires.starts c.requires.index

pub slice_bounds-result-count-2 : goal.slice_bounds-result-count-2
slice_bounds-result-count-2 c = (ends_within c.args.starts.now (length c.args.hints.now) c.args.i c.requires.starts (omega arith)).0

pub slice_bounds-result-start-2 : goal.slice_bounds-result-start-2
slice_bounds-result-start-2 c = (ends_within c.args.starts.now (length c.args.hints.now) c.args.i c.requires.starts (omega arith)).0

pub slice_bounds-result-end-2 : goal.slice_bounds-result-end-2
slice_bounds-result-end-2 c = (ends_within c.args.starts.now (length c.args.hints.now) c.args.i c.requires.starts (omega arith)).1

pub offset_bounds-hints-start : goal.offset_bounds-hints-start
offset_bounds-hints-start c = omega (arith, c.type_inv.hints, starts_within c.args.starts.now (length c.args.hints.now) c.args.i c.requires.starts c.requires.index)

pub offset_bounds-hints-start-2 : goal.offset_bounds-hints-start-2
offset_bounds-hints-start-2 c = omega (arith, c.type_inv.hints, starts_within c.args.starts.now (length c.args.hints.now) c.args.i c.requires.starts c.requires.index)
