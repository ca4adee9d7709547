use Rattle.std.proofs.Common.{ap, ◌∙◌, sym, subst, refl, take, length}
use Rattle.sr_watch.specs.State.{State}
use Rattle.sr_load.specs.Copies.{Begins}
use Rattle.sr_load.proofs.Copying.{begins_taken, entries_in, all_reordered_self, all_reordered_twice}
use Rattle.sr_load.proofs.copies.assume_rest.Goals as goal

pub loop-i-init : goal.loop-i-init
loop-i-init c = record {
  first = sym (ap (λ xs. take (length xs) c.args.lits.now) c.as_slice-first.ensures ∙ c.requires.begins);
  entries = c.requires.entries;
  clauses = all_reordered_self c.args.propagator.now.slots c.args.propagator.now.slots refl;
}

pub returns-in_err-make_room-clause-begins : goal.returns-in_err-make_room-clause-begins
returns-in_err-make_room-clause-begins c = subst (λ xs. Begins xs c.args.lits.now) (sym c.loop-i.invariant.first) (begins_taken c.loop-i.i c.args.lits.now)

pub returns-in_err-make_room-clause-entries : goal.returns-in_err-make_room-clause-entries
returns-in_err-make_room-clause-entries c =
    let s : State = c.loop-i.propagator in let g : State = c.make_room.new.propagator in
    entries_in s g c.loop-i.assumed c.loop-i.marks.items (ap (λ (x : State). x.lits) c.in_err-make_room.ensures.same) (ap (λ (x : State). x.reasons) c.in_err-make_room.ensures.same) c.loop-i.invariant.entries

pub returns-in_err-make_room-clause-clauses : goal.returns-in_err-make_room-clause-clauses
returns-in_err-make_room-clause-clauses c =
    let s : State = c.loop-i.propagator in let g : State = c.make_room.new.propagator in
    all_reordered_twice c.args.propagator.now.slots s.slots g.slots c.loop-i.invariant.clauses (all_reordered_self s.slots g.slots (ap (λ (x : State). x.slots) c.in_err-make_room.ensures.same))
