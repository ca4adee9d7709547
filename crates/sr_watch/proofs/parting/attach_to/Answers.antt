use Rattle.std.proofs.Common.{◌≡◌, true, false, refl, subst, length, Some}
use Rattle.sr_watch.specs.Watching.{on_side}
use Rattle.sr_watch.specs.Parting.{IsParted}
use Rattle.sr_watch.specs.declared.parts.Part.TheVariants.{Core, All}
use Rattle.sr_watch.proofs.Rooms.{room_for_two}
use Rattle.sr_watch.proofs.Attached.{unmarked_off, free_rest, short_key_there, attached_core, attached_rest}
use Rattle.sr_watch.proofs.parting.attach_to.Goals as goal
use Rattle.sr_watch.proofs.parting.attach_to.Goals.{in-Core, in-All}

pub enter-requires-clause-short_key : goal.enter-requires-clause-short_key
enter-requires-clause-short_key c = let y = c.requires.watched.1 in short_key_there c.args.memory.now (length c.requires.watched.0) c.args.at c.args.core.now.lists y.counted y.core_room c.requires.held

pub enter-requires-clause-room : goal.enter-requires-clause-room
enter-requires-clause-room c =
    let y = c.requires.watched.1 in
    room_for_two true c.args.memory.now c.args.core.now.lists (length c.requires.watched.0) c.args.at y.core_rests.stocked y.core_rests.idle.ahead y.counted y.core_room c.requires.held (c.requires.watched.2.0 c.in-Core.is)

pub enter-requires-clause-resting : goal.enter-requires-clause-resting
enter-requires-clause-resting c = record { core = true; resting = c.requires.watched.1.core_rests; off = unmarked_off true c.args.memory.now c.args.at c.requires.loose }

pub enter-requires-in-All-clause-short_key : goal.enter-requires-in-All-clause-short_key
enter-requires-in-All-clause-short_key c = let y = c.requires.watched.1 in short_key_there c.args.memory.now (length c.requires.watched.0) c.args.at c.args.rest.now.lists y.counted y.rest_room c.requires.held

pub enter-requires-in-All-clause-room : goal.enter-requires-in-All-clause-room
enter-requires-in-All-clause-room c =
    let y = c.requires.watched.1 in
    room_for_two false c.args.memory.now c.args.rest.now.lists (length c.requires.watched.0) c.args.at y.rest_rests.stocked y.rest_rests.idle.ahead y.counted y.rest_room c.requires.held
    (free_rest c.args.memory.now c.args.trail.now c.args.rest.now c.args.at (c.requires.watched.2.1 c.in-All.is) c.requires.loose y.rest_rests)

pub enter-requires-in-All-clause-resting : goal.enter-requires-in-All-clause-resting
enter-requires-in-All-clause-resting c = record { core = false; resting = c.requires.watched.1.rest_rests; off = unmarked_off false c.args.memory.now c.args.at c.requires.loose }

pub returns-clause-watched : goal.returns-clause-watched
returns-clause-watched c known y =
    elim c.match-part.branch [
      | in-Core w ↦ rw (w.core-is, w.rest-is) (attached_core c.args.memory.now w.enter.new.memory c.set_part.new.memory known c.args.trail.now c.args.core.now w.enter.new.watches c.args.rest.now c.args.at c.requires.held c.requires.loose (c.requires.watched.2.0 w.in-Core.is) w.enter.ensures.arranged
          (subst (λ m. IsParted m c.set_part.new.memory c.args.at (Some Core)) w.memory-is (subst (λ p. IsParted c.match-part.memory c.set_part.new.memory c.args.at (Some p)) w.in-Core.is c.set_part.ensures.parted)) w.enter.ensures.shape w.enter.ensures.rests y)
      | in-All w ↦ rw (w.core-is, w.rest-is) (attached_rest c.args.memory.now w.enter-in-All.new.memory c.set_part.new.memory known c.args.trail.now c.args.core.now c.args.rest.now w.enter-in-All.new.watches c.args.at c.requires.held c.requires.loose (c.requires.watched.2.1 w.in-All.is) w.enter-in-All.ensures.arranged
          (subst (λ m. IsParted m c.set_part.new.memory c.args.at (Some All)) w.memory-is (subst (λ p. IsParted c.match-part.memory c.set_part.new.memory c.args.at (Some p)) w.in-All.is c.set_part.ensures.parted)) w.enter-in-All.ensures.shape w.enter-in-All.ensures.rests y)
    ]

pub returns-clause-once : goal.returns-clause-once
returns-clause-once c =
    elim c.match-part.branch [
      | in-Core w ↦ rw (w.core-is, w.rest-is) (record {
        on_core = λ o. w.enter.ensures.once (c.requires.watched.2.0 w.in-Core.is);
        on_rest = λ o. let z : on_side false c.set_part.new.memory c.args.at ≡ false = rw (c.set_part.ensures.parted.here, w.in-Core.is) refl in absurd cc;
      })
      | in-All w ↦ rw (w.core-is, w.rest-is) (record {
        on_core = λ o. let z : on_side true c.set_part.new.memory c.args.at ≡ false = rw (c.set_part.ensures.parted.here, w.in-All.is) refl in absurd cc;
        on_rest = λ o. w.enter-in-All.ensures.once (free_rest c.args.memory.now c.args.trail.now c.args.rest.now c.args.at (c.requires.watched.2.1 w.in-All.is) c.requires.loose c.requires.watched.1.rest_rests);
      })
    ]
