use Rattle.std.proofs.Common.{subst}
use Rattle.sr_watch.specs.State.{State}
use Rattle.sr_load.specs.Copies.{IsFound}
use Rattle.sr_load.proofs.Alike.{if_ok_map}
use Rattle.sr_load.proofs.Copying.{all_reordered_twice, entries_more, found_now, led_reordered}
use Rattle.sr_load.proofs.copies.Copies.test.Goals as goal

pub invariant_of-self-2 : goal.invariant_of-self-2
invariant_of-self-2 c =
    let s : State = c.self.inside.propagator in let r : State = c.propagate-found.new.propagator in let a : State = c.assume_rest.new.propagator in let t : State = c.test.new.propagator in
    let ordered = all_reordered_twice s.slots r.slots t.slots c.propagate-found.ensures.derives.clauses (all_reordered_twice r.slots a.slots t.slots c.in_ok-assume_rest.ensures.clauses c.test.ensures.derives.clauses) in
    record {
      led = led_reordered s.slots t.slots c.self.inside.refs.items ordered c.self.invariant.led;
      entries = entries_more a t c.assume_rest.new.assumed c.assume_rest.new.marks.items c.test.ensures.derives c.test.ensures.sound c.in_ok-assume_rest.ensures.entries;
    }

pub returns-clause-ok : goal.returns-clause-ok
returns-clause-ok c =
    let t : State = c.test.new.propagator in
    let entries = entries_more c.assume_rest.new.propagator t c.assume_rest.new.assumed c.assume_rest.new.marks.items c.test.ensures.derives c.test.ensures.sound c.in_ok-assume_rest.ensures.entries in
    if_ok_map c.test.result _ _ (λ b h. subst (λ ls. IsFound t.slots ls b c.test.new.numbers) c.in_ok-assume_rest.ensures.ok (found_now t c.assume_rest.new.assumed c.assume_rest.new.marks.items c.test.new.numbers b c.test.ensures.sound entries h)) c.test.ensures.ok
