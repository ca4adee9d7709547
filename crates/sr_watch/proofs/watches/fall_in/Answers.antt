use Rattle.std.proofs.Common.{sym, subst, take, []}
use Rattle.std.proofs.lemmas.List.{take-take}
use Rattle.sr_watch.specs.Resting.{AreShortListed}
use Rattle.sr_watch.proofs.Falls.{short_unseen}
use Rattle.sr_watch.proofs.watches.fall_in.Goals as goal

pub returns-then-shade-mark-clause-short : goal.returns-then-shade-mark-clause-short
returns-then-shade-mark-clause-short c core m s rs top x = subst (λ t. AreShortListed core m c.args.lists.now t rs top) (sym (take-take c.args.shade c.args.mark s c.if-shade-mark.true)) x

pub returns-clause-short : goal.returns-clause-short
returns-clause-short c core m s rs top x = short_unseen core m c.args.lists.now c.unsee.new.lists (take c.args.shade s) [] rs top c.unsee.ensures.unseen c.unsee.ensures.seen x
