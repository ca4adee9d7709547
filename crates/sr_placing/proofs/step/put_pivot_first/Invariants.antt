use Rattle.std.proofs.Common.{take}
use Rattle.sr_trimming.specs.Reordered.{put_first}
use Rattle.sr_scan.specs.Written.{written_literals}
use Rattle.sr_placing.proofs.step.put_pivot_first.Given as goal

abbrev pub invariant-loop-l : goal.invariant-loop-l
invariant-loop-l g l = record {
  can : g.S.Sink.can_put l.sink l.out;
  put : g.S.Sink.puts l.fn.sink l.fn.out l.sink l.out (written_literals l.form (put_first l.pivot (take l.l-index l.lits)));
}
