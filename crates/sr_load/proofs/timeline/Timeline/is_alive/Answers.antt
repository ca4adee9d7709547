use Rattle.std.proofs.Common.{arith, ap, ◌∙◌}
use Rattle.std.specs.Prelude.{is_some}
use Rattle.sr_watch.specs.State.{slot_at}
use Rattle.sr_load.specs.Loaded.{LoadedState, next_of, alive_in}
use Rattle.sr_load.specs.Numbers.{has_clause}
use Rattle.sr_load.proofs.Keeping.{clause_held, read_at}
use Rattle.sr_load.proofs.Alike.{some_part}
use Rattle.sr_load.proofs.timeline.Timeline.is_alive.Goals as goal

pub part-requires : goal.part-requires
part-requires c =
    let size = c.self.invariant.0.size ∙ ap next_of c.self.view_is in
    clause_held _ _ _ _ _ _ _ c.args.id _ c.self.invariant.0 c.requires.low (omega (arith, size, c.requires.high)) c.index.ensures

pub returns : goal.returns
returns c =
    let size = c.self.invariant.0.size ∙ ap next_of c.self.view_is in
    let here = read_at c.self.inside.refs.items c.args.id c.index.result.now c.requires.low (omega (arith, size, c.requires.high)) c.index.ensures in
    let parts = c.self.invariant.0.tied.parts c.args.id c.requires.low (omega (arith, size, c.requires.high)) in
    c.is_some.ensures ∙ ap is_some (c.part.ensures ∙ ap (λ r. (slot_at c.self.inside.propagator r).part) here ∙ parts) ∙ some_part _ _ ∙ ap (λ (st : LoadedState). has_clause (alive_in st) c.args.id) c.self.view_is
