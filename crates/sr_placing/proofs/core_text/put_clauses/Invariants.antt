use Rattle.std.proofs.Common.{◌++◌, length, take}
use Rattle.sr_model.specs.Writing.{clause_lines}
use Rattle.sr_cnf.specs.Written.{header}
use Rattle.sr_cnf.proofs.WriteLemmas.{chosen}
use Rattle.sr_placing.proofs.core_text.put_clauses.Given as goal

-- the header, and the lines of the numbers so far
abbrev pub invariant-loop-id : goal.invariant-loop-id
invariant-loop-id g l = record {
  can : g.S.Sink.can_put l.sink l.out;
  put : g.S.Sink.puts l.fn.sink l.fn.out l.sink l.out (header l.formula.vars (length l.ids) ++ clause_lines (chosen l.formula (take l.id-index l.ids)));
}
