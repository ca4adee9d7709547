use Rattle.sr_arena.specs.Cells.{IsHeldOrNone}
use Rattle.sr_arena.proofs.Standing.{ahead_of}
use Rattle.sr_table.specs.Pages.{SameEntries}
use Rattle.sr_check.proofs.Relinking.{Opens}
use Rattle.sr_check.proofs.storage.open_pages.Given as goal

abbrev pub invariant-loop-next : goal.invariant-loop-next
invariant-loop-next l = record {
  held : IsHeldOrNone l.mem l.next;
  same : SameEntries l.fn.table l.table;
  opens : Opens l.mem l.fn.table l.table l.next;
}

abbrev pub decreases-loop-next : goal.decreases-loop-next
decreases-loop-next l = ahead_of l.mem l.next
