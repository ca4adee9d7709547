use Rattle.std.proofs.Common.{◌≤◌, ◌-◌, length}
use Rattle.sr_desk.specs.Reader.{skipped}
use Rattle.sr_lemma.specs.Reads.{TakesLiterals}
use Rattle.sr_lemma.proofs.literals.take_literals.Given as goal

-- the literals of the first bytes at hand were taken
abbrev pub invariant-loop-front : goal.invariant-loop-front
invariant-loop-front l = record {
  within : l.at ≤ length l.bytes;
  takes : TakesLiterals l.form l.bound l.fn.reader (skipped l.fn.reader l.at) l.fn.lits l.lits;
}

abbrev pub decreases-loop-front : goal.decreases-loop-front
decreases-loop-front l = length l.bytes - l.at
