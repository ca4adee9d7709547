use Rattle.std.proofs.Common.{◌∙◌, inr, List, ℕ, subst}
use Rattle.sr_cli.specs.Run.{Shows}
use Rattle.sr_cli.proofs.report.report.Goals as goal

pub returns-in-Ok : goal.returns-in-Ok
returns-in-Ok g c = record {
  only = c.show.ensures.only;
  reports = inr (subst (λ (b : List ℕ). Shows b (g.D.Desk.outside c.args.desk.now) (g.D.Desk.outside c.show.new.desk) c.args.found c.show.result) (c.as_slice.ensures ∙ c.in-Ok.ensures) c.show.ensures.shows);
}
