use Rattle.std.proofs.Common.{List}
use Rattle.sr_model.specs.Meeting.{Step}
use Rattle.sr_model.specs.Writing.{written_items}
use Rattle.sr_placing.specs.Placing.{steps_of}
use Rattle.sr_placing.proofs.Laying.{AreLaid, items_so_far}
use Rattle.sr_placing.proofs.write.put_lsr.Given as goal

abbrev pub invariant-loop-i : goal.invariant-loop-i
invariant-loop-i g l = record {
  can : g.S.Sink.can_put l.sink l.out;
  put : (ts : List Step) × AreLaid (steps_of (g.L.Loaded.state l.loaded) l.steps) l.i ts
      × g.S.Sink.puts l.fn.sink l.fn.out l.sink l.out (written_items l.form (items_so_far (g.L.Loaded.state l.loaded).formula.clauses (steps_of (g.L.Loaded.state l.loaded) l.steps) ts));
}
