use Rattle.std.specs.Option.{option_copied}
use Rattle.sr_dsr.proofs.WriteLemmas.{lemma_bytes, deletion_bytes}
use Rattle.sr_dsr.proofs.write.line_bytes.Goals as goal

pub returns-in-Add : goal.returns-in-Add
returns-in-Add c =
    lemma_bytes c.args.form c.args.line.now c.in-Add.lemma c.lits.result.now (option_copied c.as_ref.result) c.parts_bytes.result c.in-Add.is c.lits.ensures.value c.as_ref.ensures.value c.parts_bytes.ensures

pub returns-in-Del : goal.returns-in-Del
returns-in-Del c = deletion_bytes c.args.form c.args.line.now c.in-Del.clause c.lits-in-Del.result.now c.parts_bytes-in-Del.result c.in-Del.is c.lits-in-Del.ensures.value c.parts_bytes-in-Del.ensures
