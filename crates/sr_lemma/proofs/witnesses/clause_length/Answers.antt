use Rattle.std.proofs.Common.{◌≡◌, ◌+◌, ◌-◌, take, drop, length, subst}
use Rattle.sr_base.specs.Literal.{distinct}
use Rattle.sr_model.specs.Witnesses.{clause_of_literals}
use Rattle.sr_lemma.proofs.SplitLemmas.{first_and_others, clause_first}
use Rattle.sr_lemma.proofs.witnesses.clause_length.Goals as goal

pub returns-in-len1-up-clause-value : goal.returns-in-len1-up-clause-value
returns-in-len1-up-clause-value c =
    subst (λ lits. distinct (take (1 + c.count_before.result) lits) ≡ clause_of_literals lits)
    (first_and_others c.pivot-item.result c.args.lits.now c.in-len1-up.len_at_least c.pivot-item.is)
    (clause_first c.pivot-item.result (take (length c.args.lits.now - 1) (drop 1 c.args.lits.now)) c.count_before.result c.count_before.ensures.value)
