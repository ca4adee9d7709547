use Rattle.std.proofs.Common.{◌≡◌, ◌≤◌, ◌+◌, ◌∙◌, false, arith, ap, sym, subst, length, Result, Ok, Err, OnOk, is_err, rules}
use Rattle.sr_watch.specs.State.{State, held_cells, held_clause, AreWithin}
use Rattle.sr_watch.specs.Changes.{IsAdded}
use Rattle.sr_arena.specs.Cells.{fresh}
use Rattle.sr_arena.specs.Cells as arena
use Rattle.sr_watch.proofs.Derivations.{spares_added}
use Rattle.sr_watch.specs.Inside.{state_of}
use Rattle.sr_watch.proofs.Keeping.{cells_are, kept_add, state_added}
use Rattle.sr_watch.specs.Resting.{HasRoom}
use Rattle.sr_watch.proofs.Sides.{watched_roomier, watched_added, no_roomier}
use Rattle.sr_watch.proofs.propagator.Propagator.add.Goals as goal

pub returns-then-is_err-clause-refused : goal.returns-then-is_err-clause-refused
returns-then-is_err-clause-refused c =
    let fits : held_cells c.args.self.now + (length c.args.lits.now + 4) ≤ c.args.self.now.most = c.has_cells.ensures.0 (c.if-not-has_cells.false) in
    (λ e. absurd cc, λ lt. absurd (omega arith))

got : {E : Type 0} {P : Type 0} (r : Result Unit E) → is_err r ≡ false → OnOk r P → P
got (Ok u) h p = p
got (Err e) h p = absurd cc

pub invariant_of-self-in-Ok : goal.invariant_of-self-in-Ok
invariant_of-self-in-Ok c =
    let count : c.len-clauses.result ≡ length c.self.inside.known.items = search (rules, arith) in
    rw (c.push_reserved.ensures.items, c.reserve.ensures.items) (
      kept_add c.self.inside.trail.vars c.self.inside.memory c.add.new.self c.self.inside.known.items c.self.inside.trail.lits c.self.inside.trail.reasons c.in-Ok.at c.args.lits.now c.args.number c.self.invariant.0 c.requires.distinct
          (subst (λ (s : State). AreWithin s.vars c.args.lits.now) (sym c.self.view_is) c.requires.room) c.in-Ok.ensures.ok,
      c.self.invariant.1 ∙ sym c.in-Ok.ensures.ok.most,
      c.self.invariant.2,
      c.in-Ok.ensures.ok.used ∙ ap (λ n. n + (length c.args.lits.now + 4)) c.self.invariant.3 ∙ sym c.in-Ok.ensures.held,
      c.self.invariant.4,
      watched_added c.self.inside.memory c.add.new.self c.self.inside.known.items c.self.inside.trail c.reserve-2.new.self c.reserve-3.new.self c.in-Ok.at c.args.lits.now c.args.number c.in-Ok.ensures.ok
          (subst (λ n. HasRoom (n + 1) c.reserve-2.new.self.lists) count (got c.reserve-2.result (sym c.if-is_err-2.ensures.value) c.reserve-2.ensures.ok))
          (subst (λ n. HasRoom (n + 1) c.reserve-3.new.self.lists) count (got c.reserve-3.result (sym c.if-is_err-3.ensures.value) c.reserve-3.ensures.ok))
          (watched_roomier c.self.inside.memory c.self.inside.known.items c.self.inside.trail c.self.inside.core c.reserve-2.new.self c.self.inside.rest c.reserve-3.new.self c.reserve-2.ensures.keeps c.reserve-3.ensures.keeps c.self.invariant.5),
      spares_added c.self.inside.memory c.add.new.self c.self.inside.trail.vars c.in-Ok.at (fresh c.args.lits.now c.args.number) c.self.inside.spares c.in-Ok.ensures.ok c.self.invariant.6,
    )

pub returns-in-Ok-clause-ok : goal.returns-in-Ok-clause-ok
returns-in-Ok-clause-ok c = subst (λ (s : State). IsAdded s (state_of c.self.inside.trail.vars c.add.new.self c.self.inside.trail.lits c.self.inside.trail.reasons) c.in-Ok.at (held_clause c.args.lits.now c.args.number)) c.self.view_is (state_added c.self.inside.trail.vars c.self.inside.memory c.add.new.self c.self.inside.trail.lits c.self.inside.trail.reasons c.in-Ok.at c.args.lits.now c.args.number c.in-Ok.ensures.ok)

pub returns-in-Ok-clause-cells : goal.returns-in-Ok-clause-cells
returns-in-Ok-clause-cells c =
    let old : arena.held_cells c.self.inside.memory ≡ held_cells c.args.self.now = sym (cells_are c.self.inside.trail.vars c.self.inside.memory c.self.inside.trail.lits c.self.inside.trail.reasons) ∙ ap held_cells c.self.view_is in
    cells_are c.self.inside.trail.vars c.add.new.self c.self.inside.trail.lits c.self.inside.trail.reasons ∙ c.in-Ok.ensures.held ∙ ap (λ n. n + (length c.args.lits.now + 4)) old

pub returns-in-Ok-clause-fits : goal.returns-in-Ok-clause-fits
returns-in-Ok-clause-fits c =
    let most : c.self.inside.memory.most ≡ c.args.self.now.most = ap (λ (s : State). s.most) c.self.view_is in
    rw cells_are (subst (λ n. arena.held_cells c.add.new.self ≤ n) most c.in-Ok.ensures.fits)

pub add-requires : goal.add-requires
add-requires c =
    let fits : held_cells c.args.self.now + (length c.args.lits.now + 4) ≤ c.args.self.now.most = c.has_cells.ensures.0 (c.if-not-has_cells.false) in
    let held : arena.held_cells c.self.inside.memory ≡ held_cells c.args.self.now = sym (cells_are c.self.inside.trail.vars c.self.inside.memory c.self.inside.trail.lits c.self.inside.trail.reasons) ∙ ap held_cells c.self.view_is in
    let most : c.self.inside.most ≡ c.args.self.now.most = c.self.invariant.1 ∙ ap (λ (s : State). s.most) c.self.view_is in
    omega (arith, c.self.invariant.2, c.self.invariant.3)

pub invariant_of-self-then-is_err-2 : goal.invariant_of-self-then-is_err-2
invariant_of-self-then-is_err-2 c = rw c.reserve.ensures.items (c.self.invariant.0, c.self.invariant.1, c.self.invariant.2, c.self.invariant.3, c.self.invariant.4, watched_roomier c.self.inside.memory c.self.inside.known.items c.self.inside.trail c.self.inside.core c.reserve-2.new.self c.self.inside.rest c.self.inside.rest c.reserve-2.ensures.keeps (no_roomier c.self.inside.rest) c.self.invariant.5, c.self.invariant.6)

pub invariant_of-self-then-is_err-3 : goal.invariant_of-self-then-is_err-3
invariant_of-self-then-is_err-3 c = rw c.reserve.ensures.items (c.self.invariant.0, c.self.invariant.1, c.self.invariant.2, c.self.invariant.3, c.self.invariant.4, watched_roomier c.self.inside.memory c.self.inside.known.items c.self.inside.trail c.self.inside.core c.reserve-2.new.self c.self.inside.rest c.reserve-3.new.self c.reserve-2.ensures.keeps c.reserve-3.ensures.keeps c.self.invariant.5, c.self.invariant.6)

pub invariant_of-self-in-Err : goal.invariant_of-self-in-Err
invariant_of-self-in-Err c = rw (c.in-Err.ensures.err, c.reserve.ensures.items) (c.self.invariant.0, c.self.invariant.1, c.self.invariant.2, c.self.invariant.3, c.self.invariant.4, watched_roomier c.self.inside.memory c.self.inside.known.items c.self.inside.trail c.self.inside.core c.reserve-2.new.self c.self.inside.rest c.reserve-3.new.self c.reserve-2.ensures.keeps c.reserve-3.ensures.keeps c.self.invariant.5, c.self.invariant.6)
