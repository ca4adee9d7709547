use Rattle.std.proofs.Common.{ℕ, ◌≡◌, ◌∷◌, [], Ok, Some, None, arith}
use Rattle.std.proofs.lemmas.Grind.{common_steps}
use Rattle.sr_base.specs.Contents.{Contents}
use Rattle.sr_lemma.specs.Reads.{SaysLiteral, numbers_told}
use Rattle.sr_lemma.proofs.NumberLemmas.{first_fault, first_end, first_more}
use Rattle.sr_lemma.proofs.literals.read_literals.Goals as goal

pub returns-in-Err-clause-literals : goal.returns-in-Err-clause-literals
returns-in-Err-clause-literals g c = λ (lists o : ℕ) (k : Contents) h.
    first_fault c.args.form c.args.bound c.args.first c.args.reader.now c.args.reader.now k c.in-Err.error lists o c.in-Err.ensures

pub returns-in-Ok-None-clause-literals : goal.returns-in-Ok-None-clause-literals
returns-in-Ok-None-clause-literals g c = λ (lists o : ℕ) (k : Contents) h.
    let says : SaysLiteral c.args.bound c.args.first (Ok None) = rw c.in-Ok-None.field-0-is at c.in-Ok-None.ensures in
    first_end c.args.form c.args.bound c.args.first c.args.reader.now k c.truncate.new.self lists o says c.truncate.ensures

pub returns-clause-literals : goal.returns-clause-literals
returns-clause-literals g c = λ (lists o : ℕ) (k : Contents) h.
    let says : SaysLiteral c.args.bound c.args.first (Ok (Some c.in-Ok-Some.l)) = rw c.in-Ok-Some.field-0-is at c.in-Ok-Some.ensures in
    let one : c.push.new.self ≡ c.in-Ok-Some.l ∷ [] = grind (arith, common_steps) in
    first_more c.args.form c.args.bound c.args.first c.args.reader.now c.read_more_literals.new.reader k c.in-Ok-Some.l c.push.new.self
    (numbers_told c.read_more_literals.new.lits c.read_more_literals.result) lists o says one (c.read_more_literals.ensures.literals lists o k h)
