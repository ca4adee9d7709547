use Rattle.std.proofs.Common.{arith, refl, [], ◌∷◌}
use Rattle.sr_arena.specs.Cells.{gone}
use Rattle.sr_watch.proofs.Derivations.{spares_none}
use Rattle.sr_watch.proofs.Keeping.{kept_new}
use Rattle.sr_watch.proofs.Sides.{watched_new}
use Rattle.sr_watch.proofs.propagator.Propagator.new.Goals as goal

pub invariant_of-result : goal.invariant_of-result
invariant_of-result c = rw (c.new.ensures, c.new-2.ensures.items, c.new-3.ensures, c.new-4.ensures, c.new-6.ensures) (kept_new c.args.limits.now.cells, c.cells.ensures.value, c.cells.ensures.bound, refl, record { room = omega arith; clear = λ l. refl }, watched_new c.args.limits.now.cells c.new-7.result c.new-8.result c.new-7.ensures c.new-8.ensures, spares_none (record { cells = gone ∷ []; used = 0; most = c.args.limits.now.cells; room = 0 }))
