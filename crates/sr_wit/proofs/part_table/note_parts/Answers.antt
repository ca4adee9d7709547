use Rattle.std.proofs.Common.{◌+◌, ◌<◌, ◌≤◌, arith, refl, length}
use Rattle.sr_wit.specs.Tables.{slot_of}
use Rattle.sr_wit.proofs.SlotLemmas.{free_past, free_noted, known_noted, all_noted}
use Rattle.sr_wit.proofs.part_table.note_parts.Goals as goal
use Rattle.sr_wit.proofs.part_table.note_parts.Goals.{then-slot-len, else-slot-len}

pub loop-i-preserved : goal.loop-i-preserved
loop-i-preserved c = elim c.if-slot-len.branch [
  | then-slot-len w ↦
      let room : slot_of c.index-parts-i.result.0 c.args.shift < length c.loop-i.slots.items = omega (arith, c.slot_of-slot.ensures, w.if-slot-len.true, c.len.ensures, c.loop-i.slots.ok.0) in
      rw (w.slots-is, c.slot_of-slot.ensures) (record {
        known = known_noted c.loop-i.slots.items (slot_of c.index-parts-i.result.0 c.args.shift) (c.loop-i.i + 1) (length c.args.parts.now) (omega arith) c.loop-i.invariant.known;
        free = free_noted c.args.parts.now c.loop-i.slots.items c.args.shift c.loop-i.i (c.loop-i.i + 1) c.index-parts-i.result (omega arith) c.index-parts-i.is room refl c.loop-i.invariant.free;
      })
  | else-slot-len w ↦
      let past : length c.loop-i.slots.items ≤ slot_of c.index-parts-i.result.0 c.args.shift = omega (arith, c.slot_of-slot.ensures, w.if-slot-len.false, c.len.ensures, c.loop-i.slots.ok.0) in
      rw w.slots-is (record {
        known = c.loop-i.invariant.known;
        free = free_past c.args.parts.now c.loop-i.slots.items c.args.shift c.loop-i.i c.index-parts-i.result (omega arith) c.index-parts-i.is past c.loop-i.invariant.free;
      })
]

pub returns : goal.returns
returns c = all_noted c.args.parts.now c.loop-i.slots.items c.args.shift c.loop-i.i (omega arith) c.loop-i.invariant.known c.loop-i.invariant.free
