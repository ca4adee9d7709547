use Rattle.std.proofs.Common.{subst, None}
use Rattle.std.specs.Prelude.{IfSome}
use Rattle.sr_lists.specs.Family.{Family, IsEnded}
use Rattle.sr_lists.specs.Walk.{seen}
use Rattle.sr_lists.proofs.Walking.{open_here, hole_held, filled_walked, ended_walked, end_is}
use Rattle.sr_lists.proofs.lists.Lists.end.Goals as goal

pub fill-requires-clause-hole : goal.fill-requires-clause-hole
fill-requires-clause-hole c = open_here c.self.inside.stacks c.self.inside.walked c.self.inside.next c.self.inside.hole c.self.invariant.along

pub fill-requires-clause-some : goal.fill-requires-clause-some
fill-requires-clause-some c = hole_held c.self.inside.stacks c.self.inside.walked c.self.inside.next c.self.inside.hole c.self.inside.held c.self.inside.room c.self.invariant

pub invariant_of-self : goal.invariant_of-self
invariant_of-self c =
    ended_walked c.fill.new.stacks c.self.inside.walked c.self.inside.next c.fill.new.held c.self.inside.room
    (filled_walked c.self.inside.stacks c.fill.new.stacks c.self.inside.walked c.self.inside.next c.self.inside.hole c.self.inside.held c.fill.new.held c.self.inside.room c.self.invariant (c.fill.ensures.filled c.self.inside.next c.self.invariant.along) c.fill.ensures.held)

pub returns : goal.returns
returns c =
    subst (λ (f : Family). IfSome f.walked (λ key. IsEnded f (seen c.fill.new.stacks None 0 0 c.self.inside.room) key)) c.self.view_is
    (end_is c.self.inside.stacks c.fill.new.stacks c.self.inside.walked c.self.inside.next c.self.inside.hole c.self.inside.held c.fill.new.held c.self.inside.room c.self.invariant (c.fill.ensures.filled c.self.inside.next c.self.invariant.along) c.fill.ensures.held)
