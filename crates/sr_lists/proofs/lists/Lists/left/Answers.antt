use Rattle.std.proofs.Common.{◌≡◌, ap, arith}
use Rattle.sr_lists.specs.Family.{Family}
use Rattle.sr_lists.proofs.Walking.{count_fits}
use Rattle.sr_lists.proofs.lists.Lists.left.Goals as goal

pub overflow_sub-result : goal.overflow_sub-result
overflow_sub-result c = count_fits c.self.inside.stacks c.self.inside.walked c.self.inside.next c.self.inside.hole c.self.inside.held c.count.result c.self.inside.room c.args.self.now c.self.invariant c.self.view_is c.count.ensures

pub returns : goal.returns
returns c =
    let room : c.self.inside.room ≡ c.args.self.now.room = ap (λ (f : Family). f.room) c.self.view_is in
    omega (arith, room, c.count.ensures, count_fits c.self.inside.stacks c.self.inside.walked c.self.inside.next c.self.inside.hole c.self.inside.held c.count.result c.self.inside.room c.args.self.now c.self.invariant c.self.view_is c.count.ensures)
