use Rattle.std.proofs.Common.{take, get_or, false}
use Rattle.sr_model.specs.Writing.{groups_written}
use Rattle.sr_scan.specs.Written.{written_numbers}
use Rattle.sr_steps.specs.Adding.{bare}
use Rattle.sr_placing.proofs.step.put_groups.Given as goal

abbrev pub invariant-loop-j : goal.invariant-loop-j
invariant-loop-j g l = record {
  can : g.S.Sink.can_put l.sink l.out;
  put : g.S.Sink.puts l.fn.sink l.fn.out l.sink l.out (written_numbers l.form (groups_written (take l.j (get_or l.steps l.i (bare 0 false)).groups)));
}
