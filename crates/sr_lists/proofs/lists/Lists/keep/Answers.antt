use Rattle.std.proofs.Common.{arith, subst, sym}
use Rattle.std.specs.Prelude.{IfSome}
use Rattle.sr_lists.specs.Stacks.{Stacked, AreApart}
use Rattle.sr_lists.specs.Family.{Family, IsPushed}
use Rattle.sr_lists.specs.Walk.{seen, IsWalked}
use Rattle.sr_lists.proofs.Walking.{free_is, hole_holds, keep_walked, keep_is}
use Rattle.sr_lists.proofs.lists.Lists.keep.Goals as goal

pub put-requires : goal.put-requires
put-requires c = hole_holds c.self.inside.stacks c.self.inside.walked c.self.inside.next c.self.inside.hole c.self.invariant.apart c.self.invariant.along (omega (arith, c.if-self-eq0.false))

pub invariant_of-self : goal.invariant_of-self
invariant_of-self c =
    let free = free_is c.self.inside.stacks c.self.inside.walked c.self.inside.next c.self.inside.hole c.self.inside.held c.self.inside.room c.args.self.now c.self.invariant c.self.view_is c.requires.room in
    let apart = subst AreApart c.put.ensures c.apart.ensures in
    subst (λ (s : Stacked). IsWalked s c.self.inside.walked c.self.inside.next 0 c.self.inside.held c.self.inside.room) (sym c.put.ensures)
    (keep_walked c.self.inside.stacks c.self.inside.walked c.self.inside.next c.self.inside.hole c.self.inside.held c.self.inside.room c.args.watch c.self.invariant (omega (arith, c.if-self-eq0.false)) free apart)

pub returns : goal.returns
returns c =
    let free = free_is c.self.inside.stacks c.self.inside.walked c.self.inside.next c.self.inside.hole c.self.inside.held c.self.inside.room c.args.self.now c.self.invariant c.self.view_is c.requires.room in
    let apart = subst AreApart c.put.ensures c.apart.ensures in
    subst (λ (f : Family). IfSome f.walked (λ key. IsPushed f (seen c.put.new.self c.self.inside.walked c.self.inside.next 0 c.self.inside.room) key c.args.watch)) c.self.view_is
    (subst (λ (s : Stacked). IfSome c.self.inside.walked (λ key. IsPushed (seen c.self.inside.stacks c.self.inside.walked c.self.inside.next c.self.inside.hole c.self.inside.room) (seen s c.self.inside.walked c.self.inside.next 0 c.self.inside.room) key c.args.watch)) (sym c.put.ensures)
    (keep_is c.self.inside.stacks c.self.inside.walked c.self.inside.next c.self.inside.hole c.self.inside.held c.self.inside.room c.args.watch c.self.invariant (omega (arith, c.if-self-eq0.false)) free apart))
