use Rattle.std.proofs.Common.{subst, sym}
use Rattle.std.specs.Prelude.{IsNone, Some}
use Rattle.sr_lists.specs.Family.{Family, IsBegun}
use Rattle.sr_lists.specs.Walk.{seen}
use Rattle.sr_lists.proofs.Walking.{key_is, begin_is}
use Rattle.sr_lists.proofs.lists.Lists.begin.Goals as goal

pub returns : goal.returns
returns c =
    let key = key_is c.self.inside.stacks c.self.inside.walked c.self.inside.next c.self.inside.hole c.self.inside.room c.args.key c.args.self.now c.self.view_is c.requires.key in
    let idle = subst (λ (f : Family). IsNone f.walked) (sym c.self.view_is) c.requires.idle in
    subst (λ (f : Family). IsBegun f (seen c.self.inside.stacks (Some c.args.key) c.newest-self-inside.result c.self.inside.hole c.self.inside.room) c.args.key) c.self.view_is
    (begin_is c.self.inside.stacks c.self.inside.walked c.self.inside.next c.self.inside.hole c.self.inside.held c.self.inside.room c.args.key c.newest-self-inside.result idle c.self.invariant key c.newest-self-inside.ensures)
