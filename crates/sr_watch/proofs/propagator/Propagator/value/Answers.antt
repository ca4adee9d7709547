use Rattle.std.proofs.Common.{◌∙◌, sym, ap}
use Rattle.sr_watch.specs.State.{State, value_in}
use Rattle.sr_watch.specs.Trail.{place_in}
use Rattle.sr_watch.proofs.Clashing.{value_by}
use Rattle.sr_watch.proofs.propagator.Propagator.value.Goals as goal

pub returns : goal.returns
returns c = c.value_of.ensures ∙ sym (value_by c.self.inside.trail.lits c.args.l c.place-is_true.result c.place-is_false.result c.place-is_true.ensures
    (c.place-is_false.ensures ∙ ap (place_in c.self.inside.trail.lits) c.neg.ensures.value)) ∙ ap (λ (s : State). value_in s.lits c.args.l) c.self.view_is
