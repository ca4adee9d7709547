use Rattle.std.proofs.Common.{◌∙◌, sym, ap, not, ◌==◌}
use Rattle.sr_watch.proofs.Tables.{place_has}
use Rattle.sr_watch.proofs.trail.Trail.is_true.Goals as goal

pub returns : goal.returns
returns c = ap (λ n. not (n == 0)) c.place.ensures ∙ sym (place_has c.args.self.now.lits c.args.l)
