use Rattle.std.proofs.Common.{arith, length, ◌≤◌}
use Rattle.sr_lists.proofs.Calls.{keys_are, longer_kept, longer_seen, resized, long_enough}
use Rattle.sr_lists.proofs.stacks.Stacks.grow.Goals as goal

pub returns-then-keys-len-clause-ok : goal.returns-then-keys-len-clause-ok
returns-then-keys-len-clause-ok c =
    long_enough c.args.self.now c.args.keys (omega (arith, c.if-keys-len.true, c.len.ensures, c.self.inside.newest.ok.0, keys_are c.self.inside.newest.items c.self.inside.below.items c.self.inside.cells.items c.self.inside.room c.args.self.now c.self.view_is))

pub returns-in_err-make_room-clause-has_keys : goal.returns-in_err-make_room-clause-has_keys
returns-in_err-make_room-clause-has_keys c = λ le.
    absurd (omega (arith, le, c.if-keys-len.false, c.len.ensures, c.self.inside.newest.ok.0, keys_are c.self.inside.newest.items c.self.inside.below.items c.self.inside.cells.items c.self.inside.room c.args.self.now c.self.view_is))

pub returns-then-is_err-clause-has_keys : goal.returns-then-is_err-clause-has_keys
returns-then-is_err-clause-has_keys c = λ le.
    absurd (omega (arith, le, c.if-keys-len.false, c.len.ensures, c.self.inside.newest.ok.0, keys_are c.self.inside.newest.items c.self.inside.below.items c.self.inside.cells.items c.self.inside.room c.args.self.now c.self.view_is))

pub invariant_of-self-2 : goal.invariant_of-self-2
invariant_of-self-2 c =
    let le : length c.self.inside.newest.items ≤ c.args.keys = omega (arith, c.if-keys-len.false, c.len.ensures, c.self.inside.newest.ok.0) in
    let e = resized c.self.inside.newest.items c.resize.new.self.items _ c.args.keys _ c.resize.ensures.items c.if-is_err.ensures.negation c.self.inside.newest.ok.0 le in
    rw (e, c.in_ok-make_room.ensures.below, c.in_ok-make_room.ensures.cells) (longer_kept c.self.inside.newest.items c.self.inside.below.items c.self.inside.cells.items c.self.inside.free c.self.inside.room _ _ c.args.keys _ _ c.self.invariant le c.in_ok-make_room.ensures.ok)

pub returns-clause-ok : goal.returns-clause-ok
returns-clause-ok c =
    let le : length c.self.inside.newest.items ≤ c.args.keys = omega (arith, c.if-keys-len.false, c.len.ensures, c.self.inside.newest.ok.0) in
    let e = resized c.self.inside.newest.items c.resize.new.self.items _ c.args.keys _ c.resize.ensures.items c.if-is_err.ensures.negation c.self.inside.newest.ok.0 le in
    rw (e, c.in_ok-make_room.ensures.below, c.in_ok-make_room.ensures.cells) (longer_seen c.self.inside.newest.items c.self.inside.below.items c.self.inside.cells.items c.self.inside.free c.self.inside.room _ _ c.args.keys c.self.invariant c.args.self.now c.self.view_is)
