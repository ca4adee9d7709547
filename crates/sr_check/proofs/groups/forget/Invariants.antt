use Rattle.std.proofs.Common.{◌≡◌, ℕ, drop, false}
use Rattle.sr_model.specs.Assignment.{holds_number}
use Rattle.sr_table.specs.Pages.{entry}
use Rattle.sr_check.specs.Indexing.{numbers}
use Rattle.sr_check.proofs.groups.forget.Given as goal

abbrev pub invariant-loop-i : goal.invariant-loop-i
invariant-loop-i l = (n : ℕ) → holds_number n (numbers (drop l.i l.groups)) ≡ false → entry l.index n ≡ 0
