use Rattle.std.proofs.Common.{arith, subst}
use Rattle.sr_lists.specs.Family.{Family, IsPushed}
use Rattle.sr_lists.specs.Walk.{seen}
use Rattle.sr_lists.proofs.Walking.{key_is, free_is, open_le, free_place, pushed_walked, pushed_is}
use Rattle.sr_lists.proofs.lists.Lists.push.Goals as goal

pub add-requires-clause-room : goal.add-requires-clause-room
add-requires-clause-room c = free_place c.self.inside.stacks c.self.inside.walked c.self.inside.next c.self.inside.hole c.self.inside.held c.self.inside.room c.self.invariant (free_is c.self.inside.stacks c.self.inside.walked c.self.inside.next c.self.inside.hole c.self.inside.held c.self.inside.room c.args.self.now c.self.invariant c.self.view_is c.requires.room)

pub overflow_add-self : goal.overflow_add-self
overflow_add-self c = omega (arith, c.self.invariant.limit, open_le c.self.inside.hole, free_is c.self.inside.stacks c.self.inside.walked c.self.inside.next c.self.inside.hole c.self.inside.held c.self.inside.room c.args.self.now c.self.invariant c.self.view_is c.requires.room)

pub invariant_of-self : goal.invariant_of-self
invariant_of-self c =
    let key = key_is c.self.inside.stacks c.self.inside.walked c.self.inside.next c.self.inside.hole c.self.inside.room c.args.key c.args.self.now c.self.view_is c.requires.key in
    let free = free_is c.self.inside.stacks c.self.inside.walked c.self.inside.next c.self.inside.hole c.self.inside.held c.self.inside.room c.args.self.now c.self.invariant c.self.view_is c.requires.room in
    pushed_walked c.self.inside.stacks c.add.new.self c.self.inside.walked c.self.inside.next c.self.inside.hole c.self.inside.held c.self.inside.room c.args.key c.args.watch c.self.invariant c.apart.ensures key free c.add.ensures

pub returns : goal.returns
returns c =
    let key = key_is c.self.inside.stacks c.self.inside.walked c.self.inside.next c.self.inside.hole c.self.inside.room c.args.key c.args.self.now c.self.view_is c.requires.key in
    let free = free_is c.self.inside.stacks c.self.inside.walked c.self.inside.next c.self.inside.hole c.self.inside.held c.self.inside.room c.args.self.now c.self.invariant c.self.view_is c.requires.room in
    subst (λ (f : Family). IsPushed f (seen c.add.new.self c.self.inside.walked c.self.inside.next c.self.inside.hole c.self.inside.room) c.args.key c.args.watch) c.self.view_is
    (pushed_is c.self.inside.stacks c.add.new.self c.self.inside.walked c.self.inside.next c.self.inside.hole c.self.inside.held c.self.inside.room c.args.key c.args.watch c.self.invariant c.apart.ensures key free c.add.ensures)
