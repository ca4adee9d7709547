use Rattle.std.proofs.Common.{◌≡◌, ◌==◌, ℕ, not, true, take}
use Rattle.sr_model.specs.Assignment.{holds_number}
use Rattle.sr_table.specs.Pages.{entry}
use Rattle.sr_back.proofs.cited.CitedClauses.find.Given as goal

abbrev pub invariant-loop-id : goal.invariant-loop-id
invariant-loop-id l = record {
  led : (n : ℕ) → holds_number n l.queue ≡ true → not (entry l.fn.self.table n == 0) ≡ true;
  put : (n : ℕ) → holds_number n (take l.id-index l.id-items) ≡ true → not (entry l.fn.self.table n == 0) ≡ true → holds_number n l.queue ≡ true;
}
