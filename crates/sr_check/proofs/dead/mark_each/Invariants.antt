use Rattle.std.proofs.Common.{◌≡◌, ◌≢◌, ℕ, take, drop}
use Rattle.sr_model.specs.Assignment.{holds_number}
use Rattle.sr_model.specs.Chain.{Numbered, clause_of}
use Rattle.sr_model.specs.Judging.{without, first_dead}
use Rattle.sr_table.specs.Pages.{entry}
use Rattle.sr_check.specs.Storage.{clause_at, IsMarked, KeepsClauses}
use Rattle.sr_check.proofs.dead.mark_each.Given as goal

abbrev pub invariant-loop-i : goal.invariant-loop-i
invariant-loop-i l = record {
  same : KeepsClauses l.fn.mem l.mem;
  marks : (n : ℕ) → entry l.table n ≢ 0 → IsMarked l.mem l.table n (holds_number n (take l.i l.ids));
  dead : (live : Numbered) → ((n : ℕ) → clause_of live n ≡ clause_at l.fn.mem l.table n) → first_dead live l.ids ≡ first_dead (without (take l.i l.ids) live) (drop l.i l.ids);
}
