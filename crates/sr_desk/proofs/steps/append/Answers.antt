use Rattle.std.proofs.Common.{refl}
use Rattle.std.proofs.lemmas.Grind.{common_steps}
use Rattle.std.proofs.Common.{arith}
use Rattle.sr_desk.proofs.VersionLemmas.{names-set, texts-set, texts-set_same, writing-within}
use Rattle.sr_desk.proofs.steps.append.Goals as goal

pub returns-then-is_err-clause-names : goal.returns-then-is_err-clause-names
returns-then-is_err-clause-names c = names-set _ _ c.index_mut-text.result.now _ c.index_mut-text.ensures.value refl

pub returns-then-is_err-clause-texts : goal.returns-then-is_err-clause-texts
returns-then-is_err-clause-texts c = texts-set_same _ _ c.index_mut-text.result.now _ c.index_mut-text.ensures.value (grind (arith, common_steps))

pub returns-else-is_err-clause-names : goal.returns-else-is_err-clause-names
returns-else-is_err-clause-names c = names-set _ _ c.index_mut-text.result.now _ c.index_mut-text.ensures.value refl

pub returns-else-is_err-clause-texts : goal.returns-else-is_err-clause-texts
returns-else-is_err-clause-texts c =
    let lt = writing-within c.args.versions.now.items c.in-Writing.version (rw c.in-Writing.is at c.requires) in
    rw c.in-Writing.is (texts-set _ _ c.index_mut-text.result.now _ c.args.piece.now lt c.index_mut-text.ensures.value (grind (arith, common_steps)))
