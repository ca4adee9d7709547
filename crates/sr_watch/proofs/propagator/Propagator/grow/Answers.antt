use Rattle.std.proofs.Common.{◌≤◌, ◌<◌, ◌+◌, ◌*◌, ℕ, arith, ◌==◌}
use Rattle.sr_model.proofs.Soundness.{by_test}
use Rattle.sr_watch.specs.Reasons.{AreSpares}
use Rattle.sr_watch.proofs.Derivations.{spares_wider}
use Rattle.sr_watch.proofs.Keeping.{kept_wider, grown_entries}
use Rattle.sr_watch.specs.Inside.{IsKept}
use Rattle.sr_watch.specs.Marks.{AreReady}
use Rattle.sr_watch.specs.Resting.{AreWatched}
use Rattle.sr_watch.specs.Trail.{Entries, table_size}
use Rattle.sr_watch.proofs.Sides.{watched_roomier, watched_wider, no_roomier}
use Rattle.sr_watch.proofs.propagator.Propagator.grow.Goals as goal

table_fits : (v : ℕ) → table_size v ≤ 2 * v + 2
table_fits v = by_test (v == 0) (λ t. rw t (omega arith)) (λ t. rw t (omega arith))

pub invariant_of-self-in_err-grow-2 : goal.invariant_of-self-in_err-grow-2
invariant_of-self-in_err-grow-2 c = (
  c.self.invariant.0,
  c.self.invariant.1,
  c.self.invariant.2,
  c.self.invariant.3,
  record { room = omega (arith, c.self.invariant.4.room, c.grow.ensures.longer); clear = c.grow.ensures.clear },
  c.self.invariant.5,
  spares_wider c.self.inside.memory c.self.inside.trail.vars c.self.inside.trail.vars c.self.inside.spares c.grow-2.new.self (omega (arith, c.self.invariant.6.room, c.grow-2.ensures.longer)) c.grow-2.ensures.same c.self.invariant.6,
)

pub invariant_of-self-in_err-grow-3 : goal.invariant_of-self-in_err-grow-3
invariant_of-self-in_err-grow-3 c = (
  c.self.invariant.0,
  c.self.invariant.1,
  c.self.invariant.2,
  c.self.invariant.3,
  record { room = omega (arith, c.self.invariant.4.room, c.grow.ensures.longer); clear = c.grow.ensures.clear },
  watched_roomier c.self.inside.memory c.self.inside.known.items c.self.inside.trail c.self.inside.core c.grow-3.new.self c.self.inside.rest c.self.inside.rest c.grow-3.ensures.keeps (no_roomier c.self.inside.rest) c.self.invariant.5,
  spares_wider c.self.inside.memory c.self.inside.trail.vars c.self.inside.trail.vars c.self.inside.spares c.grow-2.new.self (omega (arith, c.self.invariant.6.room, c.grow-2.ensures.longer)) c.grow-2.ensures.same c.self.invariant.6,
)

pub invariant_of-self-in_err-grow-4 : goal.invariant_of-self-in_err-grow-4
invariant_of-self-in_err-grow-4 c = (
  c.self.invariant.0,
  c.self.invariant.1,
  c.self.invariant.2,
  c.self.invariant.3,
  record { room = omega (arith, c.self.invariant.4.room, c.grow.ensures.longer); clear = c.grow.ensures.clear },
  watched_roomier c.self.inside.memory c.self.inside.known.items c.self.inside.trail c.self.inside.core c.grow-3.new.self c.self.inside.rest c.grow-4.new.self c.grow-3.ensures.keeps c.grow-4.ensures.keeps c.self.invariant.5,
  spares_wider c.self.inside.memory c.self.inside.trail.vars c.self.inside.trail.vars c.self.inside.spares c.grow-2.new.self (omega (arith, c.self.invariant.6.room, c.grow-2.ensures.longer)) c.grow-2.ensures.same c.self.invariant.6,
)

-- what the fields keep with these entries
abbrev KeptWith : goal.After-grow-5 → Entries → Type 0
KeptWith c e = IsKept e.vars c.self.inside.memory c.self.inside.known.items e.lits e.reasons × AreReady c.grow.new.self e.vars × AreWatched c.self.inside.memory c.self.inside.known.items e c.grow-3.new.self c.grow-4.new.self × AreSpares c.self.inside.memory e.vars c.grow-2.new.self

pub invariant_of-self-2 : goal.invariant_of-self-2
invariant_of-self-2 c =
    let lt : c.self.inside.trail.vars < c.args.var = omega (arith, c.if-var-vars.false, c.vars.ensures) in
    let y : AreWatched c.self.inside.memory c.self.inside.known.items c.self.inside.trail c.grow-3.new.self c.grow-4.new.self = watched_roomier c.self.inside.memory c.self.inside.known.items c.self.inside.trail c.self.inside.core c.grow-3.new.self c.self.inside.rest c.grow-4.new.self c.grow-3.ensures.keeps c.grow-4.ensures.keeps c.self.invariant.5 in
    let a : KeptWith c c.self.inside.trail = (
      c.self.invariant.0,
      record { room = omega (arith, c.self.invariant.4.room, c.grow.ensures.longer); clear = c.grow.ensures.clear },
      y,
      spares_wider c.self.inside.memory c.self.inside.trail.vars c.self.inside.trail.vars c.self.inside.spares c.grow-2.new.self (omega (arith, c.self.invariant.6.room, c.grow-2.ensures.longer)) c.grow-2.ensures.same c.self.invariant.6,
    ) in
    let b : KeptWith c (record c.self.inside.trail { vars = c.args.var }) = (
      kept_wider c.self.inside.trail.vars c.args.var c.self.inside.memory c.self.inside.known.items c.self.inside.trail.lits c.self.inside.trail.reasons (omega (arith, lt)) c.requires c.self.invariant.0,
      record { room = omega (arith, c.in_ok-grow.ensures.ok, table_fits c.args.var); clear = c.grow.ensures.clear },
      watched_wider c.self.inside.memory c.self.inside.known.items c.self.inside.trail c.grow-3.new.self c.grow-4.new.self c.args.var c.in_ok-grow-3.ensures.ok c.in_ok-grow-4.ensures.ok y,
      spares_wider c.self.inside.memory c.self.inside.trail.vars c.args.var c.self.inside.spares c.grow-2.new.self c.in_ok-grow-2.ensures.ok c.grow-2.ensures.same c.self.invariant.6,
    ) in
    let z : KeptWith c c.grow-5.new.self = grown_entries (KeptWith c) c.self.inside.trail c.grow-5.new.self c.grow-5.result c.args.var lt c.grow-5.ensures.ok c.grow-5.ensures.err b a in
    (z.0, c.self.invariant.1, c.self.invariant.2, c.self.invariant.3, z.1, z.2, z.3)
