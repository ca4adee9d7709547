use Rattle.std.proofs.Common.{◌≡◌, ◌≤◌, ◌<◌, ℕ, false}
use Rattle.sr_load.specs.Loaded.{alive_in}
use Rattle.sr_load.specs.Numbers.{has_clause}
use Rattle.sr_load.proofs.proof.LoadedProof.alive_from.Given as goal

abbrev pub invariant-loop-id : goal.invariant-loop-id
invariant-loop-id l = (n : ℕ) → l.from ≤ n → n < l.id → has_clause (alive_in l.self-inside.timeline) n ≡ false
