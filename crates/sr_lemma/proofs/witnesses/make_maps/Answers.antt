use Rattle.std.proofs.Common.{refl, arith}
use Rattle.std.proofs.lemmas.Bool.Decides.{nat_tests}
use Rattle.sr_lemma.proofs.SplitLemmas.{is_odd-length}
use Rattle.sr_lemma.proofs.witnesses.make_maps.Goals as goal

pub returns-then-lits-eq1 : goal.returns-then-lits-eq1
returns-then-lits-eq1 c = (grind (arith, nat_tests, is_odd-length c.args.lits.now), refl, refl)

pub returns-in-Ok : goal.returns-in-Ok
returns-in-Ok c = (grind (arith, nat_tests, is_odd-length c.args.lits.now), c.in-Ok.ensures)
