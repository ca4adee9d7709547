use Rattle.std.proofs.Common.{◌≡◌, ◌≤◌, min, length}
use Rattle.sr_watch.proofs.Cuts.{IsFreeing}
use Rattle.sr_watch.proofs.cutting.list_reasons.Given as goal

abbrev pub invariant-loop-place : goal.invariant-loop-place
invariant-loop-place l = record {
  freeing : IsFreeing l.core l.memory l.trail l.fn.watches.lists l.watches.lists l.place (min l.fn.watches.top (length l.trail.reasons));
  low : min l.mark (min l.fn.watches.top (length l.trail.reasons)) ≤ l.place;
  rest : l.watches ≡ record l.fn.watches { lists = l.watches.lists };
}

abbrev pub decreases-loop-place : goal.decreases-loop-place
decreases-loop-place l = l.place
