use Rattle.std.proofs.Common.{map, string_bytes, subst}
use Rattle.sr_base.specs.Limits.{LimitValues}
use Rattle.sr_cli.specs.Words.{asked}
use Rattle.sr_cli.specs.Run.{IsSound, SaysSo}
use Rattle.sr_cli.proofs.running.run.Goals as goal

pub returns-clause-sound : goal.returns-clause-sound
returns-clause-sound g c = subst (λ (lim : LimitValues). IsSound lim (asked (map string_bytes c.args.words.now)) (g.D.Desk.outside c.run_with.new.desk) c.run_with.result) c.shipped.ensures c.run_with.ensures.sound

pub returns-clause-printed : goal.returns-clause-printed
returns-clause-printed g c = subst (λ (lim : LimitValues). SaysSo lim (asked (map string_bytes c.args.words.now)) (g.D.Desk.outside c.args.desk.now) (g.D.Desk.outside c.run_with.new.desk)) c.shipped.ensures c.run_with.ensures.printed
