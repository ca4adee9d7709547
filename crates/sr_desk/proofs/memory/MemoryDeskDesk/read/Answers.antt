use Rattle.std.proofs.Common.{rules, sym, ◌≡◌, ◌<◌, ◌≤◌, ◌+◌, ◌-◌, ℕ, min, length, ◌∙◌, arith, ap, refl, IsTrue, ◌++◌, take, drop, length-take, length-drop, length-append}
use Rattle.sr_desk.specs.MemoryParts.{names_of, texts_of, text_at, usage_at, fits}
use Rattle.sr_desk.specs.declared.held.Usage.TheVariants.{Reading}
use Rattle.sr_desk.proofs.MemoryLemmas.{usage-set_same, AllFit-set, AllApart-set, AllUnused-used, AllNamed-reading, output-set, not_output}
use Rattle.sr_desk.proofs.OwnerLemmas.{owners-set}
use Rattle.sr_desk.proofs.VersionLemmas.{reading-fits, fits-reading, IsReading}
use Rattle.sr_desk.proofs.DeskLemmas.{hands-ok, reads-ok}
use Rattle.sr_desk.proofs.CallLemmas.{none_left}
use Rattle.sr_desk.specs.Refusing.{refuses_in}
use Rattle.sr_desk.specs.declared.refusals.CallKind.TheVariants as kind
use Rattle.sr_desk.proofs.RefusingLemmas.{calls-counted}
use Rattle.sr_desk.proofs.memory.MemoryDeskDesk.read.Goals as goal

pub invariant_of-self-in-Reading : goal.invariant_of-self-in-Reading
invariant_of-self-in-Reading c =
    let was : usage_at c.args.self.now.uses c.args.slot.number ≡ Reading c.in-Reading.version c.in-Reading.place c.in-Reading.end = c.in-Reading.is in
    let nine : length c.args.self.now.uses ≡ 9 = search rules in
    let small : c.args.slot.number ≤ 8 = c.args.slot.small in
    let old : IsReading (texts_of c.args.self.now.versions.items) c.in-Reading.version c.in-Reading.place c.in-Reading.end =
    fits-reading (texts_of c.args.self.now.versions.items) c.in-Reading.version c.in-Reading.place c.in-Reading.end (rw was at (c.args.self.now.fit c.args.slot.number)) in
    let count : c.min-count.result ≤ c.in-Reading.end - c.in-Reading.place = omega (arith, c.min-count.ensures, c.min.ensures) in
    let fit : IsTrue (fits (texts_of c.args.self.now.versions.items) (Reading c.in-Reading.version (c.in-Reading.place + c.min-count.result) c.in-Reading.end)) =
    reading-fits (texts_of c.args.self.now.versions.items) c.in-Reading.version (c.in-Reading.place + c.min-count.result) c.in-Reading.end old.version (omega (arith, count, old.place)) old.end in
    record {
      fit = AllFit-set (texts_of c.args.self.now.versions.items) c.args.self.now.uses c.args.slot.number (Reading c.in-Reading.version (c.in-Reading.place + c.min-count.result) c.in-Reading.end) c.args.self.now.fit fit;
      apart = AllApart-set c.args.self.now.uses c.args.slot.number (Reading c.in-Reading.version (c.in-Reading.place + c.min-count.result) c.in-Reading.end) (omega (arith, nine, small)) c.args.self.now.apart (λ j ne. refl);
      later = AllUnused-used c.args.self.now.uses c.args.self.now.begun c.args.slot.number c.in-Reading.version c.in-Reading.place c.in-Reading.end
          (Reading c.in-Reading.version (c.in-Reading.place + c.min-count.result) c.in-Reading.end) c.args.self.now.later was;
      named = AllNamed-reading (names_of c.args.self.now.versions.items) c.args.self.now.uses c.args.self.now.writes_to c.args.slot.number c.in-Reading.version (c.in-Reading.place + c.min-count.result) c.in-Reading.end c.args.self.now.named;
      output = output-set c.args.self.now.uses c.args.slot.number (Reading c.in-Reading.version (c.in-Reading.place + c.min-count.result) c.in-Reading.end)
          (not_output c.args.self.now.uses c.args.slot.number c.in-Reading.version c.in-Reading.place c.in-Reading.end was c.args.self.now.output) c.args.self.now.output;
      some = c.args.self.now.some;
    }

pub returns-clause-bytes : goal.returns-clause-bytes
returns-clause-bytes c =
    let was : usage_at c.args.self.now.uses c.args.slot.number ≡ Reading c.in-Reading.version c.in-Reading.place c.in-Reading.end = c.in-Reading.is in
    let nine : length c.args.self.now.uses ≡ 9 = search rules in
    let small : c.args.slot.number ≤ 8 = c.args.slot.small in
    let old : IsReading (texts_of c.args.self.now.versions.items) c.in-Reading.version c.in-Reading.place c.in-Reading.end =
    fits-reading (texts_of c.args.self.now.versions.items) c.in-Reading.version c.in-Reading.place c.in-Reading.end (rw was at (c.args.self.now.fit c.args.slot.number)) in
    let count : c.min-count.result ≡ min (min (c.in-Reading.end - c.in-Reading.place) (length c.args.buf.now)) c.args.self.now.most = c.min-count.ensures ∙ ap (λ (k : ℕ). min k c.args.self.now.most) c.min.ensures in
    let some : 0 < c.args.self.now.most = c.args.self.now.some in
    let copied : c.copy_text.new.buf ≡ take c.min-count.result (drop c.in-Reading.place (text_at (texts_of c.args.self.now.versions.items) c.in-Reading.version)) ++ drop c.min-count.result c.args.buf.now =
    rw c.deref.ensures.value at c.copy_text.ensures in
    let lt_last : c.args.slot.number < length c.args.self.now.last = search rules in
    rw copied (hands-ok (names_of c.args.self.now.versions.items) (texts_of c.args.self.now.versions.items) c.args.self.now.out.items c.args.self.now.begun c.args.self.now.uses
    (record { reads_from = c.args.self.now.reads_from; writes_to = c.args.self.now.writes_to; last = c.args.self.now.last; finished = c.args.self.now.finished; faults = c.args.self.now.faults }) c.args.slot.number c.in-Reading.version c.in-Reading.place c.in-Reading.end c.min-count.result c.after_read.result
    (take c.min-count.result (drop c.in-Reading.place (text_at (texts_of c.args.self.now.versions.items) c.in-Reading.version))) c.args.buf.now
    was (omega (arith, nine, small)) lt_last (omega (arith, count, old.place)) (λ h z. omega (arith, count, old.place, h, z, some)) refl
    (simp (length-take, length-drop) (omega (arith, count, old.place, old.end)))
    (simp (length-append, length-take, length-drop) (omega (arith, count, old.place, old.end))) (rw copied at c.after_read.ensures))

pub returns-clause-owners : goal.returns-clause-owners
returns-clause-owners c =
    owners-set (names_of c.args.self.now.versions.items) c.args.self.now.uses c.args.slot.number (Reading c.in-Reading.version (c.in-Reading.place + c.min-count.result) c.in-Reading.end)
    (λ name. rw c.in-Reading.is refl)

pub returns-clause-only : goal.returns-clause-only
returns-clause-only c =
    let was : usage_at c.args.self.now.uses c.args.slot.number ≡ Reading c.in-Reading.version c.in-Reading.place c.in-Reading.end = c.in-Reading.is in
    let lt : c.args.slot.number < length c.args.self.now.uses = search rules in
    let lt_last : c.args.slot.number < length c.args.self.now.last = search rules in
    let hands = returns-clause-bytes c in
    reads-ok (names_of c.args.self.now.versions.items) (texts_of c.args.self.now.versions.items) c.args.self.now.out.items c.args.self.now.begun c.args.self.now.uses
    (record { reads_from = c.args.self.now.reads_from; writes_to = c.args.self.now.writes_to; last = c.args.self.now.last; finished = c.args.self.now.finished; faults = c.args.self.now.faults }) c.args.slot.number c.in-Reading.version c.in-Reading.place c.in-Reading.end (c.in-Reading.place + c.min-count.result) c.after_read.result was lt lt_last
    (λ e. none_left _ _ c.after_read.result c.copy_text.new.buf c.min-count.result c.after_read.ensures hands.left e _
    (rw (usage-set_same c.args.self.now.uses c.args.slot.number (Reading c.in-Reading.version (c.in-Reading.place + c.min-count.result) c.in-Reading.end) lt) refl))

pub returns-then-due-clause-fails : goal.returns-then-due-clause-fails
returns-then-due-clause-fails c = sym c.if-due.true ∙ c.due.ensures.due

pub returns-then-due-clause-counts : goal.returns-then-due-clause-counts
returns-then-due-clause-counts c = record {
  calls = λ k. calls-counted c.args.self.now.refusals.calls c.due.new.self.calls kind.Read k c.due.ensures.calls c.due.ensures.counted;
  most = refl;
  refuses = ap refuses_in c.due.ensures.refused;
}

pub returns-clause-fails : goal.returns-clause-fails
returns-clause-fails c = sym c.if-due.false ∙ c.due.ensures.due

pub returns-clause-counts : goal.returns-clause-counts
returns-clause-counts c = record {
  calls = λ k. calls-counted c.args.self.now.refusals.calls c.due.new.self.calls kind.Read k c.due.ensures.calls c.due.ensures.counted;
  most = refl;
  refuses = ap refuses_in c.due.ensures.refused;
}

pub returns-clause-count : goal.returns-clause-count
returns-clause-count c = λ left known.
    let is : drop c.in-Reading.place (take c.in-Reading.end (text_at (texts_of c.args.self.now.versions.items) c.in-Reading.version)) ≡ left = cc (rw c.in-Reading.is at known) in
    let old : IsReading (texts_of c.args.self.now.versions.items) c.in-Reading.version c.in-Reading.place c.in-Reading.end =
    fits-reading (texts_of c.args.self.now.versions.items) c.in-Reading.version c.in-Reading.place c.in-Reading.end (rw c.in-Reading.is at (c.args.self.now.fit c.args.slot.number)) in
    let size : length left ≡ c.in-Reading.end - c.in-Reading.place = rw (← is) (simp (length-drop, length-take) (omega (arith, old.end))) in
    omega (arith, c.min-count.ensures, c.min.ensures, size)
