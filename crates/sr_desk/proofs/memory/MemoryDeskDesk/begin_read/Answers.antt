use Rattle.std.proofs.Common.{rules, ◌≡◌, ◌<◌, length, Some, sym, arith, refl, IsTrue}
use Rattle.sr_desk.specs.MemoryParts.{names_of, texts_of, text_at, usage_at, latest, fits}
use Rattle.sr_desk.specs.declared.held.Usage.TheVariants.{Unused, Reading}
use Rattle.sr_desk.proofs.MemoryLemmas.{AllFit-set, AllApart-set, AllUnused-set, AllNamed-reading, output-set}
use Rattle.sr_desk.proofs.OwnerLemmas.{owners-set}
use Rattle.sr_desk.proofs.VersionLemmas.{length-texts, reading-fits}
use Rattle.sr_desk.proofs.DeskLemmas.{begins_read-ok}
use Rattle.sr_desk.proofs.memory.MemoryDeskDesk.begin_read.Goals as goal

pub invariant_of-self-in-Some : goal.invariant_of-self-in-Some
invariant_of-self-in-Some c =
    let lt : c.in-Some.version < length c.args.self.now.versions.items = rw c.deref.ensures.value at c.in-Some.ensures.within in
    let size : c.text_len-end.result ≡ length (text_at (texts_of c.args.self.now.versions.items) c.in-Some.version) = rw c.deref-in-Some.ensures.value at c.text_len-end.ensures in
    let fit : IsTrue (fits (texts_of c.args.self.now.versions.items) (Reading c.in-Some.version 0 c.text_len-end.result)) =
    reading-fits (texts_of c.args.self.now.versions.items) c.in-Some.version 0 c.text_len-end.result (omega (arith, lt, length-texts c.args.self.now.versions.items)) (omega arith) (omega (arith, size)) in
    let nine : length c.args.self.now.uses ≡ 9 = search rules in
    let some : c.args.self.now.begun < 8 = c.requires in
    record {
      fit = AllFit-set (texts_of c.args.self.now.versions.items) c.args.self.now.uses c.args.self.now.begun (Reading c.in-Some.version 0 c.text_len-end.result) c.args.self.now.fit fit;
      apart = AllApart-set c.args.self.now.uses c.args.self.now.begun (Reading c.in-Some.version 0 c.text_len-end.result) (omega (arith, nine, some)) c.args.self.now.apart (λ j ne. refl);
      later = AllUnused-set c.args.self.now.uses c.args.self.now.begun (Reading c.in-Some.version 0 c.text_len-end.result) c.args.self.now.later;
      named = AllNamed-reading (names_of c.args.self.now.versions.items) c.args.self.now.uses c.args.self.now.writes_to c.args.self.now.begun c.in-Some.version 0 c.text_len-end.result c.args.self.now.named;
      output = output-set c.args.self.now.uses c.args.self.now.begun (Reading c.in-Some.version 0 c.text_len-end.result) (omega (arith, some)) c.args.self.now.output;
      some = c.args.self.now.some;
    }

pub returns-in-Some-clause-begins : goal.returns-in-Some-clause-begins
returns-in-Some-clause-begins c =
    let nine : length c.args.self.now.uses ≡ 9 = search rules in
    let lt_name : c.args.self.now.begun < length c.args.self.now.reads_from = search rules in
    let lt_last : c.args.self.now.begun < length c.args.self.now.last = search rules in
    let size : c.text_len-end.result ≡ length (text_at (texts_of c.args.self.now.versions.items) c.in-Some.version) = rw c.deref-in-Some.ensures.value at c.text_len-end.ensures in
    let found : latest (names_of c.args.self.now.versions.items) c.args.name.now ≡ Some c.in-Some.version = sym (rw (c.deref.ensures.value, c.as_bytes.ensures.value) at c.in-Some.ensures.latest) in
    rw (size, c.of.ensures) (begins_read-ok (names_of c.args.self.now.versions.items) (texts_of c.args.self.now.versions.items) c.args.self.now.out.items c.args.self.now.begun c.args.self.now.uses
    (record { reads_from = c.args.self.now.reads_from; writes_to = c.args.self.now.writes_to; last = c.args.self.now.last; finished = c.args.self.now.finished; faults = c.args.self.now.faults }) c.args.name.now c.in-Some.version _ refl found c.requires nine lt_name lt_last c.args.self.now.later)

pub returns-in-Some-clause-owners : goal.returns-in-Some-clause-owners
returns-in-Some-clause-owners c =
    let was : usage_at c.args.self.now.uses c.args.self.now.begun ≡ Unused = c.args.self.now.later c.args.self.now.begun (omega arith) c.requires in
    owners-set (names_of c.args.self.now.versions.items) c.args.self.now.uses c.args.self.now.begun (Reading c.in-Some.version 0 c.text_len-end.result) (λ name. rw was refl)
