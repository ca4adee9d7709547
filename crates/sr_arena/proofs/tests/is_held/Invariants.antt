use Rattle.sr_arena.proofs.Standing.{ahead_of}
use Rattle.sr_arena.specs.Cells.{IsHeldOrNone}
use Rattle.sr_arena.proofs.tests.is_held.Given as goal

abbrev pub invariant-loop-next : goal.invariant-loop-next
invariant-loop-next l = IsHeldOrNone l.mem l.next

abbrev pub decreases-loop-next : goal.decreases-loop-next
decreases-loop-next l = ahead_of l.mem l.next
