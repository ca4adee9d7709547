use Rattle.std.proofs.Common.{rules, ◌≡◌, ◌<◌, ◌≢◌, ℕ, length, arith, refl, IsTrue, ◌++◌, ◌∷◌, [], List, Some, None, set}
use Rattle.std.proofs.lemmas.List.{get_or-set_same}
use Rattle.sr_desk.specs.MemoryParts.{names_of, texts_of, text_at, usage_at, fits, apart, AllFit}
use Rattle.sr_desk.specs.declared.held.Usage.TheVariants.{Writing}
use Rattle.sr_desk.proofs.MemoryLemmas.{AllNamed-begun, AllFit-set, AllFit-push, AllApart-set, AllUnused-set, output-set, apart-new, new-fits, usage-set_same, file-push}
use Rattle.sr_desk.proofs.OwnerLemmas.{owner-begun, owner-begun_other}
use Rattle.std.proofs.Math.Seq.{get_or-append_seam}
use Rattle.sr_desk.specs.declared.held.Usage.{Usage}
use Rattle.sr_desk.proofs.VersionLemmas.{same_length}
use Rattle.sr_desk.proofs.DeskLemmas.{begins_write-ok}
use Rattle.sr_desk.proofs.memory.MemoryDeskDesk.begin_write.Goals as goal

pub invariant_of-self-in-Ok : goal.invariant_of-self-in-Ok
invariant_of-self-in-Ok c =
    let nine : length c.args.self.now.uses ≡ 9 = search rules in
    let some : c.args.self.now.begun < 8 = c.requires in
    let place : c.in-Ok.version ≡ length (texts_of c.args.self.now.versions.items) = c.in-Ok.ensures.place in
    let texts : texts_of c.add.new.versions.items ≡ texts_of c.args.self.now.versions.items ++ [] ∷ [] = c.in-Ok.ensures.texts in
    let all : AllFit (texts_of c.add.new.versions.items) c.args.self.now.uses = rw texts (AllFit-push (texts_of c.args.self.now.versions.items) [] c.args.self.now.uses c.args.self.now.fit) in
    let new : IsTrue (fits (texts_of c.add.new.versions.items) (Writing c.in-Ok.version)) = rw (texts, place) (new-fits (texts_of c.args.self.now.versions.items) []) in
    let far : (j : ℕ) → j ≢ c.args.self.now.begun → IsTrue (apart (Writing c.in-Ok.version) (usage_at c.args.self.now.uses j)) =
    λ j ne. rw place (apart-new (texts_of c.args.self.now.versions.items) (usage_at c.args.self.now.uses j) (c.args.self.now.fit j)) in
    let lt_name : c.args.self.now.begun < length c.args.self.now.writes_to = search rules in
    let names : names_of c.add.new.versions.items ≡ names_of c.args.self.now.versions.items ++ c.args.name.now ∷ [] = rw c.as_bytes.ensures.value at c.in-Ok.ensures.names in
    record {
      fit = AllFit-set (texts_of c.add.new.versions.items) c.args.self.now.uses c.args.self.now.begun (Writing c.in-Ok.version) all new;
      apart = AllApart-set c.args.self.now.uses c.args.self.now.begun (Writing c.in-Ok.version) (omega (arith, nine, some)) c.args.self.now.apart far;
      later = AllUnused-set c.args.self.now.uses c.args.self.now.begun (Writing c.in-Ok.version) c.args.self.now.later;
      named = rw (names, place, c.of.ensures) (AllNamed-begun (names_of c.args.self.now.versions.items) (texts_of c.args.self.now.versions.items) c.args.name.now c.args.self.now.uses c.args.self.now.writes_to c.args.self.now.begun
          (same_length c.args.self.now.versions.items) (omega (arith, nine, some)) lt_name c.args.self.now.fit c.args.self.now.named);
      output = output-set c.args.self.now.uses c.args.self.now.begun (Writing c.in-Ok.version) (omega (arith, some)) c.args.self.now.output;
      some = c.args.self.now.some;
    }

pub returns-in-Ok-clause-begins : goal.returns-in-Ok-clause-begins
returns-in-Ok-clause-begins c =
    let nine : length c.args.self.now.uses ≡ 9 = search rules in
    let lt_name : c.args.self.now.begun < length c.args.self.now.writes_to = search rules in
    let lt_finished : c.args.self.now.begun < length c.args.self.now.finished = search rules in
    let names : names_of c.add.new.versions.items ≡ names_of c.args.self.now.versions.items ++ c.args.name.now ∷ [] = rw c.as_bytes.ensures.value at c.in-Ok.ensures.names in
    rw (names, c.in-Ok.ensures.texts, c.in-Ok.ensures.place, c.of.ensures) (begins_write-ok (names_of c.args.self.now.versions.items) (texts_of c.args.self.now.versions.items) c.args.self.now.out.items c.args.self.now.begun c.args.self.now.uses
    (record { reads_from = c.args.self.now.reads_from; writes_to = c.args.self.now.writes_to; last = c.args.self.now.last; finished = c.args.self.now.finished; faults = c.args.self.now.faults }) c.args.name.now _ refl (same_length c.args.self.now.versions.items) c.requires nine lt_name lt_finished c.args.self.now.later c.args.self.now.fit)

pub returns-in-Ok-clause-empties : goal.returns-in-Ok-clause-empties
returns-in-Ok-clause-empties c =
    let N : List (List ℕ) = names_of c.args.self.now.versions.items in
    let T : List (List ℕ) = texts_of c.args.self.now.versions.items in
    let U : List Usage = c.args.self.now.uses in
    let b : ℕ = c.args.self.now.begun in
    let name : List ℕ = c.args.name.now in
    let names : names_of c.add.new.versions.items ≡ N ++ name ∷ [] = rw c.as_bytes.ensures.value at c.in-Ok.ensures.names in
    let nine : length U ≡ 9 = search rules in
    let lt : b < 8 = c.requires in
    let len : length N ≡ length T = same_length c.args.self.now.versions.items in
    let now : usage_at (set U b (Writing (length T))) b ≡ Writing (length T) = usage-set_same U b (Writing (length T)) (omega (arith, nine, lt)) in
    let lt_name : b < length c.args.self.now.writes_to = search rules in
    let text_is : text_at (T ++ [] ∷ []) (length T) ≡ [] = get_or-append_seam T [] [] [] in
    rw (names, c.in-Ok.ensures.texts, c.in-Ok.ensures.place, c.of.ensures) record {
      file = file-push N T name [] len;
      named = get_or-set_same c.args.self.now.writes_to b (Some name) None lt_name;
      written = rw (now, text_is) refl;
      own = λ k. owner-begun N T name U b k len (omega (arith, nine, lt)) c.args.self.now.fit;
      others = λ k other ne. owner-begun_other N T name other U b k len lt nine c.args.self.now.later ne;
    }
