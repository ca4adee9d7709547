use Rattle.std.proofs.Common.{refl}
use Rattle.sr_watch.proofs.Falls.{fallen_rests}
use Rattle.sr_watch.proofs.watches.Watches.fall_back.Goals as goal

pub returns-clause-rests : goal.returns-clause-rests
returns-clause-rests c core m e le y = fallen_rests core m e c.args.self.now _ c.args.mark le c.fall_to-kept.ensures.rising c.fall_to-kept.ensures.fewer c.fall_to-kept.ensures.greatest c.fall_to-kept.ensures.low refl c.fall_in-self.ensures.low refl c.fall_in-self.ensures.shape c.fall_in-self.ensures.ahead
    c.fall_in-self.ensures.literals c.fall_in-self.ensures.tallies (c.fall_in-self.ensures.short core m e.lits e.reasons c.args.self.now.top) y
