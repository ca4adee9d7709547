use Rattle.std.proofs.Common.{◌-◌, length}
use Rattle.sr_arena.proofs.Moving.{Named}
use Rattle.sr_arena.proofs.naming.moves_of.Given as goal

abbrev pub invariant-loop-read : goal.invariant-loop-read
invariant-loop-read l = Named l.words l.moves.items l.place l.read

abbrev pub decreases-loop-read : goal.decreases-loop-read
decreases-loop-read l = length l.words - l.read
