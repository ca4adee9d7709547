use Rattle.std.proofs.Common.{◌≡◌, ◌++◌, length, take}
use Rattle.sr_model.specs.Writing.{clause_lines}
use Rattle.sr_cnf.specs.Written.{header}
use Rattle.sr_cnf.proofs.WriteLemmas.{chosen}
use Rattle.sr_cnf.proofs.write.write_formula.Given as goal

-- the lines of the numbers so far
abbrev pub invariant-loop-id : goal.invariant-loop-id
invariant-loop-id l = l.out ≡ header l.formula.vars (length l.ids) ++ clause_lines (chosen l.formula (take l.id-index l.ids))
