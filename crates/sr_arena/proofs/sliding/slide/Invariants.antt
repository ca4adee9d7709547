use Rattle.std.proofs.Common.{◌-◌, length}
use Rattle.sr_arena.proofs.Moving.{Slid}
use Rattle.sr_arena.proofs.sliding.slide.Given as goal

abbrev pub invariant-loop-read : goal.invariant-loop-read
invariant-loop-read l = Slid l.initial.words.items l.words.items l.place l.read

abbrev pub decreases-loop-read : goal.decreases-loop-read
decreases-loop-read l = length l.initial.words.items - l.read
