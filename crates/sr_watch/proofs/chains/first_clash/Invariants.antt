use Rattle.std.proofs.Common.{ℕ, ◌<◌, ◌≤◌, length}
use Rattle.sr_watch.specs.Running.{IsClash, ClashesWith}
use Rattle.sr_watch.proofs.chains.first_clash.Given as goal

abbrev pub invariant-loop-i : goal.invariant-loop-i
invariant-loop-i l = record {
  within : l.first ≤ length l.trail.lits;
  here : l.first < length l.trail.lits → IsClash l.trail.lits l.trail.reasons l.first;
  before : (j i : ℕ) → i < l.i → ClashesWith l.trail.lits l.trail.reasons j i → l.first ≤ j;
}
