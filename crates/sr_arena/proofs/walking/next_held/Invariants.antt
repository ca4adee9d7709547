use Rattle.std.proofs.Common.{◌-◌, length}
use Rattle.sr_arena.proofs.Clauses.{Onward}
use Rattle.sr_arena.proofs.walking.next_held.Given as goal

abbrev pub invariant-loop-read : goal.invariant-loop-read
invariant-loop-read l = Onward l.words l.fn.read l.read

abbrev pub decreases-loop-read : goal.decreases-loop-read
decreases-loop-read l = length l.words - l.read
