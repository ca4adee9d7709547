use Rattle.std.proofs.Common.{sym, subst}
use Rattle.sr_occurs.specs.Occurring.{Occurring, numbers_under, KeepsListed}
use Rattle.sr_occurs.proofs.Entering.{are_more, are_push}
use Rattle.sr_occurs.proofs.occurrences.Occurrences.enter.Goals as goal

pub returns-in_ok-enter_all-clause-listed : goal.returns-in_ok-enter_all-clause-listed
returns-in_ok-enter_all-clause-listed c live k b =
    are_push (numbers_under c.enter_all.new.heads.items c.enter_all.new.lists.items) live c.args.id c.args.lits.now
    (are_more (numbers_under c.self.inside.heads.items c.self.inside.lists.items) (numbers_under c.enter_all.new.heads.items c.enter_all.new.lists.items) live c.in_ok-enter_all.ensures.kept (subst (λ (o : Occurring). KeepsListed o live) (sym c.self.view_is) k b))
    c.in_ok-enter_all.ensures.ok
