use Rattle.std.proofs.Common.{◌≡◌, ◌∙◌, arith, get_or, set}
use Rattle.std.proofs.lemmas.List.{get_or_default}
use Rattle.sr_lists.proofs.Calls.{keys_are, free_within, top_of, room_for, added, added_changed, added_seen, changed_kept}
use Rattle.sr_lists.proofs.stacks.Stacks.add.Goals as goal

pub index-newest-requires : goal.index-newest-requires
index-newest-requires c =
    omega (arith, c.requires.key, keys_are c.self.inside.newest.items c.self.inside.below.items c.self.inside.cells.items c.self.inside.room c.args.self.now c.self.view_is, c.self.inside.newest.ok.0)

pub index_mut-requires-2 : goal.index_mut-requires-2
index_mut-requires-2 c =
    omega (arith, c.requires.key, keys_are c.self.inside.newest.items c.self.inside.below.items c.self.inside.cells.items c.self.inside.room c.args.self.now c.self.view_is, c.self.inside.newest.ok.0)

pub next_place-above-requires-clause-room : goal.next_place-above-requires-clause-room
next_place-above-requires-clause-room c =
    let top : c.index-newest.result.now ≡ get_or c.self.inside.newest.items c.args.key 0 = c.index-newest.ensures ∙ get_or_default c.self.inside.newest.items c.args.key c.index-newest.result.now 0 (omega (arith, c.requires.key, keys_are c.self.inside.newest.items c.self.inside.below.items c.self.inside.cells.items c.self.inside.room c.args.self.now c.self.view_is)) in
    let t = top_of c.self.inside.newest.items c.self.inside.below.items c.self.inside.cells.items c.self.inside.free c.self.inside.room _ _ c.args.key c.index-newest.result.now c.self.invariant c.args.self.now c.self.view_is c.requires.key c.requires.room top in
    room_for c.self.inside.newest.items c.self.inside.below.items c.self.inside.cells.items c.self.inside.free c.self.inside.room _ _ c.args.key c.index-newest.result.now c.self.invariant t

pub next_place-above-requires-clause-free : goal.next_place-above-requires-clause-free
next_place-above-requires-clause-free c =
    free_within c.self.inside.newest.items c.self.inside.below.items c.self.inside.cells.items c.self.inside.free c.self.inside.room _ _ c.self.invariant

pub index_mut-requires : goal.index_mut-requires
index_mut-requires c =
    let top : c.index-newest.result.now ≡ get_or c.self.inside.newest.items c.args.key 0 = c.index-newest.ensures ∙ get_or_default c.self.inside.newest.items c.args.key c.index-newest.result.now 0 (omega (arith, c.requires.key, keys_are c.self.inside.newest.items c.self.inside.below.items c.self.inside.cells.items c.self.inside.room c.args.self.now c.self.view_is)) in
    let t = top_of c.self.inside.newest.items c.self.inside.below.items c.self.inside.cells.items c.self.inside.free c.self.inside.room _ _ c.args.key c.index-newest.result.now c.self.invariant c.args.self.now c.self.view_is c.requires.key c.requires.room top in
    let y = added c.self.inside.newest.items c.self.inside.below.items c.self.inside.cells.items c.self.inside.free c.self.inside.room _ _ c.args.key c.index-newest.result.now c.self.invariant t c.next_place-above.new.below.items c.next_place-above.new.free c.next_place-above.result c.next_place-above.ensures.inside c.next_place-above.ensures.freed c.next_place-above.ensures.fresh in
    omega (arith, y.within, c.next_place-above.ensures.size, c.next_place-above.new.cells.ok.0)

pub invariant_of-self : goal.invariant_of-self
invariant_of-self c =
    let top : c.index-newest.result.now ≡ get_or c.self.inside.newest.items c.args.key 0 = c.index-newest.ensures ∙ get_or_default c.self.inside.newest.items c.args.key c.index-newest.result.now 0 (omega (arith, c.requires.key, keys_are c.self.inside.newest.items c.self.inside.below.items c.self.inside.cells.items c.self.inside.room c.args.self.now c.self.view_is)) in
    let t = top_of c.self.inside.newest.items c.self.inside.below.items c.self.inside.cells.items c.self.inside.free c.self.inside.room _ _ c.args.key c.index-newest.result.now c.self.invariant c.args.self.now c.self.view_is c.requires.key c.requires.room top in
    let y = added c.self.inside.newest.items c.self.inside.below.items c.self.inside.cells.items c.self.inside.free c.self.inside.room _ _ c.args.key c.index-newest.result.now c.self.invariant t c.next_place-above.new.below.items c.next_place-above.new.free c.next_place-above.result c.next_place-above.ensures.inside c.next_place-above.ensures.freed c.next_place-above.ensures.fresh in
    let z = added_changed c.self.inside.newest.items c.self.inside.below.items c.next_place-above.new.below.items c.self.inside.cells.items c.next_place-above.new.cells.items c.self.inside.free c.next_place-above.new.free c.self.inside.room _ _ c.args.key c.next_place-above.result c.args.watch c.self.invariant y c.next_place-above.ensures.size in
    rw (c.next_place-above.ensures.rooms.0, c.next_place-above.ensures.rooms.1) (changed_kept c.self.inside.newest.items c.self.inside.below.items c.next_place-above.new.below.items c.self.inside.cells.items (set c.next_place-above.new.cells.items c.next_place-above.result c.args.watch) c.self.inside.free c.next_place-above.new.free c.self.inside.room _ _ c.args.key c.next_place-above.result _ c.self.invariant z)

pub returns : goal.returns
returns c =
    let top : c.index-newest.result.now ≡ get_or c.self.inside.newest.items c.args.key 0 = c.index-newest.ensures ∙ get_or_default c.self.inside.newest.items c.args.key c.index-newest.result.now 0 (omega (arith, c.requires.key, keys_are c.self.inside.newest.items c.self.inside.below.items c.self.inside.cells.items c.self.inside.room c.args.self.now c.self.view_is)) in
    let t = top_of c.self.inside.newest.items c.self.inside.below.items c.self.inside.cells.items c.self.inside.free c.self.inside.room _ _ c.args.key c.index-newest.result.now c.self.invariant c.args.self.now c.self.view_is c.requires.key c.requires.room top in
    let y = added c.self.inside.newest.items c.self.inside.below.items c.self.inside.cells.items c.self.inside.free c.self.inside.room _ _ c.args.key c.index-newest.result.now c.self.invariant t c.next_place-above.new.below.items c.next_place-above.new.free c.next_place-above.result c.next_place-above.ensures.inside c.next_place-above.ensures.freed c.next_place-above.ensures.fresh in
    added_seen c.self.inside.newest.items c.self.inside.below.items c.next_place-above.new.below.items c.self.inside.cells.items c.next_place-above.new.cells.items c.self.inside.free c.next_place-above.new.free c.self.inside.room _ _ c.args.key c.next_place-above.result c.args.watch c.self.invariant c.args.self.now c.self.view_is y c.next_place-above.ensures.size c.next_place-above.ensures.longer c.next_place-above.ensures.held
