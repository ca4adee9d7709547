use Rattle.std.proofs.Common.{◌≢◌, ℕ, Bool, ◌&&◌, not, take}
use Rattle.sr_model.specs.Assignment.{holds_number}
use Rattle.sr_table.specs.Pages.{entry}
use Rattle.sr_check.specs.Storage.{IsMarked, KeepsClauses}
use Rattle.sr_check.proofs.dead.unmark.Given as goal

abbrev pub invariant-loop-id : goal.invariant-loop-id
invariant-loop-id l = record {
  same : KeepsClauses l.fn.mem l.mem;
  marks : (n : ℕ) (b : Bool) → entry l.table n ≢ 0 → IsMarked l.fn.mem l.table n b → IsMarked l.mem l.table n (b && not (holds_number n (take l.id-index l.ids)));
}
