use Rattle.std.proofs.Common.{pos, map, take}
use Rattle.sr_scan.specs.Written.{written_numbers}
use Rattle.sr_placing.proofs.step.put_ids.Given as goal

abbrev pub invariant-loop-id : goal.invariant-loop-id
invariant-loop-id g l = record {
  can : g.S.Sink.can_put l.sink l.out;
  put : g.S.Sink.puts l.fn.sink l.fn.out l.sink l.out (written_numbers l.form (map pos (take l.id-index l.ids)));
}
