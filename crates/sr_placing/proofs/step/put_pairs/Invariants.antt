use Rattle.std.proofs.Common.{take}
use Rattle.sr_model.specs.Writing.{flat}
use Rattle.sr_scan.specs.Written.{written_literals}
use Rattle.sr_placing.proofs.step.put_pairs.Given as goal

abbrev pub invariant-loop-map : goal.invariant-loop-map
invariant-loop-map g l = record {
  can : g.S.Sink.can_put l.sink l.out;
  put : g.S.Sink.puts l.fn.sink l.fn.out l.sink l.out (written_literals l.form (flat (take l.map-index l.maps)));
}
