use Rattle.std.proofs.Common.{subst, sym}
use Rattle.sr_lists.specs.Stacks.{Stacked, AreApart}
use Rattle.sr_lists.specs.Family.{Family, HasKeys}
use Rattle.sr_lists.specs.Walk.{seen}
use Rattle.sr_lists.proofs.Walking.{more_is}
use Rattle.sr_lists.proofs.lists.Lists.grow.Goals as goal

pub returns-clause-ok : goal.returns-clause-ok
returns-clause-ok c =
    subst (λ (f : Family). HasKeys f (seen c.grow.new.self c.self.inside.walked c.self.inside.next c.self.inside.hole c.self.inside.room) c.args.keys) c.self.view_is
    (subst (λ (x : Stacked). HasKeys (seen c.self.inside.stacks c.self.inside.walked c.self.inside.next c.self.inside.hole c.self.inside.room) (seen x c.self.inside.walked c.self.inside.next c.self.inside.hole c.self.inside.room) c.args.keys) (sym c.in_ok-grow.ensures.ok)
    (more_is c.self.inside.stacks c.self.inside.walked c.self.inside.next c.self.inside.hole c.self.inside.held c.self.inside.room c.args.keys c.self.invariant (subst AreApart c.in_ok-grow.ensures.ok c.apart.ensures)))
