use Rattle.std.proofs.Common.{◌∙◌, ap}
use Rattle.sr_model.specs.Substitution.{has_pair}
use Rattle.sr_watch.specs.Trail.{Entries, assumed_of}
use Rattle.sr_watch.proofs.Firsts.{assumed_pair_tells}
use Rattle.sr_watch.proofs.trail.Trail.has_assumed_pair.Goals as goal

pub returns : goal.returns
returns c = assumed_pair_tells c.self.inside.lits.items c.self.inside.reasons.items c.self.inside.pair c.self.invariant.5 ∙ ap (λ (e : Entries). has_pair (assumed_of e)) c.self.view_is
