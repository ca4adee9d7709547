use Rattle.std.proofs.Common.{◌≡◌, ◌-◌, ◌/◌, ◌∙◌, arith, get_or, set}
use Rattle.std.proofs.lemmas.List.{get_or_default}
use Rattle.sr_lists.specs.declared.stacks.TheConstants.{PLACES}
use Rattle.sr_lists.proofs.Calls.{keys_are, opened, removed_within, removed_block, changed_kept, removed_seen}
use Rattle.sr_lists.proofs.stacks.Stacks.remove.Goals as goal

pub index-newest-requires : goal.index-newest-requires
index-newest-requires c =
    omega (arith, c.requires.key, keys_are c.self.inside.newest.items c.self.inside.below.items c.self.inside.cells.items c.self.inside.room c.args.self.now c.self.view_is, c.self.inside.newest.ok.0)

pub index_mut-requires : goal.index_mut-requires
index_mut-requires c =
    omega (arith, c.requires.key, keys_are c.self.inside.newest.items c.self.inside.below.items c.self.inside.cells.items c.self.inside.room c.args.self.now c.self.view_is, c.self.inside.newest.ok.0)

pub index_mut-requires-2 : goal.index_mut-requires-2
index_mut-requires-2 c =
    omega (arith, c.requires.key, keys_are c.self.inside.newest.items c.self.inside.below.items c.self.inside.cells.items c.self.inside.room c.args.self.now c.self.view_is, c.self.inside.newest.ok.0)

pub invariant_of-self : goal.invariant_of-self
invariant_of-self c =
    let top : c.index-newest.result.now ≡ get_or c.self.inside.newest.items c.args.key 0 = c.index-newest.ensures ∙ get_or_default c.self.inside.newest.items c.args.key c.index-newest.result.now 0 (omega (arith, c.requires.key, keys_are c.self.inside.newest.items c.self.inside.below.items c.self.inside.cells.items c.self.inside.room c.args.self.now c.self.view_is)) in
    let o = opened c.self.inside.newest.items c.self.inside.below.items c.self.inside.cells.items c.self.inside.free c.self.inside.room _ _ c.args.key c.index-newest.result.now c.self.invariant c.args.self.now c.self.view_is c.requires.key c.requires.some top in
    let y = removed_within c.self.inside.newest.items c.self.inside.below.items c.self.inside.cells.items c.self.inside.free c.self.inside.room _ _ c.args.key c.index-newest.result.now c.self.invariant o c.if-newest-gt0.true in
    changed_kept c.self.inside.newest.items c.self.inside.below.items c.self.inside.below.items c.self.inside.cells.items c.self.inside.cells.items c.self.inside.free c.self.inside.free c.self.inside.room _ _ c.args.key (c.index-newest.result.now - 1) _ c.self.invariant y

pub returns-then-newest-gt0 : goal.returns-then-newest-gt0
returns-then-newest-gt0 c =
    let top : c.index-newest.result.now ≡ get_or c.self.inside.newest.items c.args.key 0 = c.index-newest.ensures ∙ get_or_default c.self.inside.newest.items c.args.key c.index-newest.result.now 0 (omega (arith, c.requires.key, keys_are c.self.inside.newest.items c.self.inside.below.items c.self.inside.cells.items c.self.inside.room c.args.self.now c.self.view_is)) in
    let o = opened c.self.inside.newest.items c.self.inside.below.items c.self.inside.cells.items c.self.inside.free c.self.inside.room _ _ c.args.key c.index-newest.result.now c.self.invariant c.args.self.now c.self.view_is c.requires.key c.requires.some top in
    let y = removed_within c.self.inside.newest.items c.self.inside.below.items c.self.inside.cells.items c.self.inside.free c.self.inside.room _ _ c.args.key c.index-newest.result.now c.self.invariant o c.if-newest-gt0.true in
    removed_seen c.self.inside.newest.items c.self.inside.below.items c.self.inside.below.items c.self.inside.cells.items c.self.inside.free c.self.inside.free c.self.inside.room _ _ c.args.key (c.index-newest.result.now - 1) c.self.invariant c.args.self.now c.self.view_is y

pub index-requires : goal.index-requires
index-requires c =
    let top : c.index-newest.result.now ≡ get_or c.self.inside.newest.items c.args.key 0 = c.index-newest.ensures ∙ get_or_default c.self.inside.newest.items c.args.key c.index-newest.result.now 0 (omega (arith, c.requires.key, keys_are c.self.inside.newest.items c.self.inside.below.items c.self.inside.cells.items c.self.inside.room c.args.self.now c.self.view_is)) in
    let o = opened c.self.inside.newest.items c.self.inside.below.items c.self.inside.cells.items c.self.inside.free c.self.inside.room _ _ c.args.key c.index-newest.result.now c.self.invariant c.args.self.now c.self.view_is c.requires.key c.requires.some top in
    omega (arith, o.block, c.self.inside.below.ok.0)

pub index_mut-requires-3 : goal.index_mut-requires-3
index_mut-requires-3 c =
    let top : c.index-newest.result.now ≡ get_or c.self.inside.newest.items c.args.key 0 = c.index-newest.ensures ∙ get_or_default c.self.inside.newest.items c.args.key c.index-newest.result.now 0 (omega (arith, c.requires.key, keys_are c.self.inside.newest.items c.self.inside.below.items c.self.inside.cells.items c.self.inside.room c.args.self.now c.self.view_is)) in
    let o = opened c.self.inside.newest.items c.self.inside.below.items c.self.inside.cells.items c.self.inside.free c.self.inside.room _ _ c.args.key c.index-newest.result.now c.self.invariant c.args.self.now c.self.view_is c.requires.key c.requires.some top in
    omega (arith, o.block, c.self.inside.below.ok.0)

pub invariant_of-self-2 : goal.invariant_of-self-2
invariant_of-self-2 c =
    let top : c.index-newest.result.now ≡ get_or c.self.inside.newest.items c.args.key 0 = c.index-newest.ensures ∙ get_or_default c.self.inside.newest.items c.args.key c.index-newest.result.now 0 (omega (arith, c.requires.key, keys_are c.self.inside.newest.items c.self.inside.below.items c.self.inside.cells.items c.self.inside.room c.args.self.now c.self.view_is)) in
    let o = opened c.self.inside.newest.items c.self.inside.below.items c.self.inside.cells.items c.self.inside.free c.self.inside.room _ _ c.args.key c.index-newest.result.now c.self.invariant c.args.self.now c.self.view_is c.requires.key c.requires.some top in
    let p : c.index.result.now ≡ get_or c.self.inside.below.items (c.index-newest.result.now / PLACES) 0 = c.index.ensures ∙ get_or_default c.self.inside.below.items (c.index-newest.result.now / PLACES) c.index.result.now 0 o.block in
    let y = removed_block c.self.inside.newest.items c.self.inside.below.items c.self.inside.cells.items c.self.inside.free c.self.inside.room _ _ c.args.key c.index-newest.result.now c.index.result.now c.self.invariant o (omega (arith, c.if-newest-gt0.false)) p in
    changed_kept c.self.inside.newest.items c.self.inside.below.items (set c.self.inside.below.items (c.index-newest.result.now / PLACES) c.self.inside.free) c.self.inside.cells.items c.self.inside.cells.items c.self.inside.free (c.index-newest.result.now / PLACES) c.self.inside.room _ _ c.args.key c.index.result.now _ c.self.invariant y

pub returns : goal.returns
returns c =
    let top : c.index-newest.result.now ≡ get_or c.self.inside.newest.items c.args.key 0 = c.index-newest.ensures ∙ get_or_default c.self.inside.newest.items c.args.key c.index-newest.result.now 0 (omega (arith, c.requires.key, keys_are c.self.inside.newest.items c.self.inside.below.items c.self.inside.cells.items c.self.inside.room c.args.self.now c.self.view_is)) in
    let o = opened c.self.inside.newest.items c.self.inside.below.items c.self.inside.cells.items c.self.inside.free c.self.inside.room _ _ c.args.key c.index-newest.result.now c.self.invariant c.args.self.now c.self.view_is c.requires.key c.requires.some top in
    let p : c.index.result.now ≡ get_or c.self.inside.below.items (c.index-newest.result.now / PLACES) 0 = c.index.ensures ∙ get_or_default c.self.inside.below.items (c.index-newest.result.now / PLACES) c.index.result.now 0 o.block in
    let y = removed_block c.self.inside.newest.items c.self.inside.below.items c.self.inside.cells.items c.self.inside.free c.self.inside.room _ _ c.args.key c.index-newest.result.now c.index.result.now c.self.invariant o (omega (arith, c.if-newest-gt0.false)) p in
    removed_seen c.self.inside.newest.items c.self.inside.below.items (set c.self.inside.below.items (c.index-newest.result.now / PLACES) c.self.inside.free) c.self.inside.cells.items c.self.inside.free (c.index-newest.result.now / PLACES) c.self.inside.room _ _ c.args.key c.index.result.now c.self.invariant c.args.self.now c.self.view_is y
