use Rattle.std.proofs.Common.{◌≡◌, arith, subst, refl, []}
use Rattle.sr_lists.specs.Family.{Family, IsTaken}
use Rattle.sr_lists.specs.Walk.{seen, IsFilled, IsWalked}
use Rattle.sr_lists.proofs.Walking.{ahead_none, open_here, next_holds, hole_held, filled_walked, next_walked, next_is}
use Rattle.sr_lists.proofs.lists.Lists.next.Goals as goal

pub returns-then-place-eq0 : goal.returns-then-place-eq0
returns-then-place-eq0 c = (subst (λ (f : Family). f.ahead ≡ []) c.self.view_is (ahead_none c.self.inside.stacks c.self.inside.walked c.self.inside.next c.self.invariant.apart (omega (arith, c.if-place-eq0.true))), refl)

pub fill-requires-clause-hole : goal.fill-requires-clause-hole
fill-requires-clause-hole c = open_here c.self.inside.stacks c.self.inside.walked c.self.inside.next c.self.inside.hole c.self.invariant.along

pub fill-requires-clause-some : goal.fill-requires-clause-some
fill-requires-clause-some c = hole_held c.self.inside.stacks c.self.inside.walked c.self.inside.next c.self.inside.hole c.self.inside.held c.self.inside.room c.self.invariant

pub watch-watch-requires : goal.watch-watch-requires
watch-watch-requires c =
    let fill : IsFilled c.self.inside.stacks c.fill.new.stacks c.self.inside.walked c.self.inside.next c.self.inside.hole = c.fill.ensures.filled c.self.inside.next c.self.invariant.along in
    next_holds c.fill.new.stacks c.self.inside.walked c.self.inside.next 0 fill.apart fill.along (omega (arith, c.if-place-eq0.false))

pub invariant_of-self : goal.invariant_of-self
invariant_of-self c =
    let fill : IsFilled c.self.inside.stacks c.fill.new.stacks c.self.inside.walked c.self.inside.next c.self.inside.hole = c.fill.ensures.filled c.self.inside.next c.self.invariant.along in
    let mid : IsWalked c.fill.new.stacks c.self.inside.walked c.self.inside.next 0 c.fill.new.held c.self.inside.room = filled_walked c.self.inside.stacks c.fill.new.stacks c.self.inside.walked c.self.inside.next c.self.inside.hole c.self.inside.held c.fill.new.held c.self.inside.room c.self.invariant fill c.fill.ensures.held in
    next_walked c.fill.new.stacks c.self.inside.walked c.self.inside.next c.older-older.result c.fill.new.held c.self.inside.room mid (omega (arith, c.if-place-eq0.false)) c.older-older.ensures

pub returns : goal.returns
returns c =
    let fill : IsFilled c.self.inside.stacks c.fill.new.stacks c.self.inside.walked c.self.inside.next c.self.inside.hole = c.fill.ensures.filled c.self.inside.next c.self.invariant.along in
    subst (λ (f : Family). IsTaken f (seen c.fill.new.stacks c.self.inside.walked c.older-older.result c.self.inside.next c.self.inside.room) c.watch-watch.result) c.self.view_is
    (next_is c.self.inside.stacks c.fill.new.stacks c.self.inside.walked c.self.inside.next c.self.inside.hole c.older-older.result c.self.inside.held c.fill.new.held c.self.inside.room c.watch-watch.result c.self.invariant fill c.fill.ensures.held (omega (arith, c.if-place-eq0.false)) c.older-older.ensures c.watch-watch.ensures)
