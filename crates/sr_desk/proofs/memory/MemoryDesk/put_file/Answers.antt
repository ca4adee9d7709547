use Rattle.std.proofs.Common.{◌≡◌, refl, ◌++◌, ◌∷◌, [], List, ℕ, length}
use Rattle.sr_desk.specs.declared.held.Usage.{Usage}
use Rattle.sr_desk.specs.MemoryParts.{names_of, texts_of, usage_at}
use Rattle.sr_desk.proofs.VersionLemmas.{same_length}
use Rattle.sr_desk.proofs.MemoryLemmas.{file-push, file-push_other}
use Rattle.sr_desk.proofs.OwnerLemmas.{owner-push, owner-push_other, state-push}
use Rattle.sr_desk.proofs.memory.MemoryDesk.put_file.Goals as goal

pub returns-in-Ok-clause-ok : goal.returns-in-Ok-clause-ok
returns-in-Ok-clause-ok c =
    let N : List (List ℕ) = names_of c.args.self.now.versions.items in
    let T : List (List ℕ) = texts_of c.args.self.now.versions.items in
    let U : List Usage = c.args.self.now.uses in
    let name : List ℕ = c.args.name.now in
    let bytes : List ℕ = c.args.bytes.now in
    let names : names_of c.add.new.versions.items ≡ N ++ name ∷ [] = rw c.as_bytes.ensures.value at c.in-Ok.ensures.names in
    let len : length N ≡ length T = same_length c.args.self.now.versions.items in
    rw (names, c.in-Ok.ensures.texts) record {
      begun = refl;
      slots = λ n. state-push _ _ T c.args.self.now.out.items bytes (usage_at U n) _ _ _ (c.args.self.now.fit n);
      file = file-push N T name bytes len;
      own = λ n. owner-push N T name (usage_at U n) len (c.args.self.now.fit n);
      others = λ other ne. file-push_other N T name bytes other len ne;
      others_own = λ n other ne. owner-push_other N name other (usage_at U n) ne;
    }
