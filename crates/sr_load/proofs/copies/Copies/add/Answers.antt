use Rattle.std.proofs.Common.{◌<◌, ◌-◌, set, arith, ap, ◌∙◌, subst}
use Rattle.sr_watch.specs.State.{State}
use Rattle.sr_load.specs.Numbers.{entry_of}
use Rattle.sr_load.specs.Copies.{Copied, IsCopied}
use Rattle.sr_load.proofs.Copying.{copied_from, led_copied, entries_copied}
use Rattle.sr_load.proofs.copies.Copies.add.Goals as goal

pub invariant_of-self-2 : goal.invariant_of-self-2
invariant_of-self-2 c =
    let s : State = c.self.inside.propagator in let u : State = c.undo_to.new.propagator in let g : State = c.make_room_for.new.propagator in let a : State = c.add.new.self in let t : State = c.attach.new.self in let r : State = c.propagate-found.new.propagator in
    let reached = c.reach.new.refs.items in
    let some = subst (λ n. 0 < n) c.index.ensures.value c.index.ensures.low in
    let copied = copied_from s g a t r c.self.inside.refs.items reached (set reached (c.args.id - 1) c.index.result) c.self.inside.assumed c.undo_to.new.assumed c.args.id c.in-Ok.at c.args.lits.now (ap (λ (x : State). x.slots) c.in_ok-make_room_for.ensures.same ∙ c.undo_to.ensures.clauses)
    c.in-Ok.ensures.ok c.attach.ensures.value c.propagate-found.ensures.derives some c.requires.low c.in_ok-reach.ensures.same (omega (arith, c.in_ok-reach.ensures.long, c.requires.low)) (ap (set reached (c.args.id - 1)) c.index.ensures.value) in
    let fresh = ap (λ (x : Copied). entry_of x.refs c.args.id) c.self.view_is ∙ c.requires.fresh in
    record {
      led = led_copied (record { slots = s.slots; refs = c.self.inside.refs.items; assumed = c.self.inside.assumed }) (record { slots = r.slots; refs = set reached (c.args.id - 1) c.index.result; assumed = c.undo_to.new.assumed }) c.args.id c.args.lits.now c.requires.low fresh
          c.self.invariant.led copied;
      entries = entries_copied u g a t r c.in-Ok.at c.undo_to.new.assumed c.undo_to.new.marks.items c.in_ok-make_room_for.ensures.same c.in-Ok.ensures.ok.rest some c.attach.ensures.value c.propagate-found.ensures.derives c.propagate-found.ensures.sound c.undo_to.ensures.entries;
    }

pub returns-clause-ok : goal.returns-clause-ok
returns-clause-ok c =
    let s : State = c.self.inside.propagator in let g : State = c.make_room_for.new.propagator in let a : State = c.add.new.self in let t : State = c.attach.new.self in let r : State = c.propagate-found.new.propagator in
    let reached = c.reach.new.refs.items in
    let some = subst (λ n. 0 < n) c.index.ensures.value c.index.ensures.low in
    let copied = copied_from s g a t r c.self.inside.refs.items reached (set reached (c.args.id - 1) c.index.result) c.self.inside.assumed c.undo_to.new.assumed c.args.id c.in-Ok.at c.args.lits.now (ap (λ (x : State). x.slots) c.in_ok-make_room_for.ensures.same ∙ c.undo_to.ensures.clauses)
    c.in-Ok.ensures.ok c.attach.ensures.value c.propagate-found.ensures.derives some c.requires.low c.in_ok-reach.ensures.same (omega (arith, c.in_ok-reach.ensures.long, c.requires.low)) (ap (set reached (c.args.id - 1)) c.index.ensures.value) in
    subst (λ (x : Copied). IsCopied x (record { slots = r.slots; refs = set reached (c.args.id - 1) c.index.result; assumed = c.undo_to.new.assumed }) c.args.id c.args.lits.now) c.self.view_is copied
