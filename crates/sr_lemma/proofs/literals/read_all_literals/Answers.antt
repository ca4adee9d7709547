use Rattle.std.proofs.Common.{ℕ, List, subst}
use Rattle.sr_base.specs.Contents.{Contents}
use Rattle.sr_base.specs.Literal.{Literal}
use Rattle.sr_lemma.specs.Reads.{GivesMore, numbers_told}
use Rattle.sr_lemma.proofs.literals.read_all_literals.Goals as goal

pub returns-clause-literals : goal.returns-clause-literals
returns-clause-literals g c = λ (lists o : ℕ) (k : Contents) h.
    subst (λ (ls : List Literal). GivesMore c.args.form lists o c.args.bound ls c.args.reader.now c.read_more_literals.new.reader k (numbers_told c.read_more_literals.new.lits c.read_more_literals.result))
    c.truncate.ensures (c.read_more_literals.ensures.literals lists o k h)
