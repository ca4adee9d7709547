-- Which slot writes the file of a name.
use Rattle.std.proofs.Common.{◌≡◌, ◌≢◌, ◌⊎◌, inl, inr, ℕ, ◌<◌, ◌≤◌, ◌==◌, Bool, false, IsTrue, List, [], ◌∷◌, ◌++◌, length, set, Option, Some, None, refl, arith}
use Rattle.std.proofs.Math.Path.{fun_ext}
use Rattle.std.proofs.lemmas.Bool.Decides.{nat_tests}
use Rattle.sr_desk.specs.declared.last_read.LastRead.{LastRead}
use Rattle.sr_desk.specs.declared.held.Usage.{Usage}
use Rattle.sr_desk.specs.declared.held.Usage.TheVariants.{Unused, Reading, Writing, Output}
use Rattle.sr_desk.specs.MemoryParts.{usage_at, latest, fits, is_version, state_by, writes_file_by, AllFit, AllUnused}
use Rattle.sr_desk.proofs.MemoryLemmas.{usage-set, usage-set_same, usage-set_other, last_below-is, latest-push, latest-push_other, given-push, sent-push, left-push, written-push}

same_place : (a b : ℕ) → (a ≡ b) ⊎ (a ≢ b)
same_place a b = grind arith

-- a slot gets a use that writes what its old use wrote
pub owners-set : (N : List (List ℕ)) (U : List Usage) (i : ℕ) (u : Usage) → ((name : List ℕ) → writes_file_by N u name ≡ writes_file_by N (usage_at U i) name)
    → ◌≡◌ {A = ℕ → List ℕ → Bool} (λ n name. writes_file_by N (usage_at (set U i u) n) name) (λ n name. writes_file_by N (usage_at U n) name)
owners-set N U i u same = fun_ext (λ n. fun_ext (λ name. at n name (same_place n i)))
  where
    at : (n : ℕ) (name : List ℕ) → (n ≡ i) ⊎ (n ≢ i) → writes_file_by N (usage_at (set U i u) n) name ≡ writes_file_by N (usage_at U n) name
    at n name (inl e) = rw e (elim (usage-set U i u i) [ inl h ↦ rw h (same name) | inr h ↦ rw h refl ])
    at n name (inr ne) = rw (usage-set_other U i n u ne) refl

-- no slot that there is writes a file that is begun now
pub owner-push : (N T : List (List ℕ)) (name : List ℕ) (u : Usage) → length N ≡ length T → IsTrue (fits T u) → writes_file_by (N ++ name ∷ []) u name ≡ false
owner-push N T name Unused len fit = refl
owner-push N T name (Reading v p q) len fit = refl
owner-push N T name (Writing v) len fit =
    let lt : v < length T = grind (arith, nat_tests) in
    rw (latest-push N name) (grind (arith, nat_tests))
owner-push N T name Output len fit = refl

-- the files of other names are written as they were
pub owner-push_other : (N : List (List ℕ)) (name other : List ℕ) (u : Usage) → other ≢ name → writes_file_by (N ++ name ∷ []) u other ≡ writes_file_by N u other
owner-push_other N name other Unused ne = refl
owner-push_other N name other (Reading v p q) ne = refl
owner-push_other N name other (Writing v) ne = rw (latest-push_other N name other ne) refl
owner-push_other N name other Output ne = refl

-- a version that there isn't is no file
pub no_version : (N : List (List ℕ)) (name : List ℕ) (v : ℕ) → length N ≤ v → is_version (latest N name) v ≡ false
no_version N name v le = go (latest N name) refl
  where
    go : (o : Option ℕ) → latest N name ≡ o → is_version (latest N name) v ≡ false
    go None e = rw e refl
    go (Some w) e =
        let below : w < length N = (last_below-is (length N) N name w e).0 in
        rw e (grind (arith, nat_tests))

-- the slot of a file that is begun now alone writes it
pub owner-begun : (N T : List (List ℕ)) (name : List ℕ) (U : List Usage) (b k : ℕ) → length N ≡ length T → b < length U → AllFit T U
    → writes_file_by (N ++ name ∷ []) (usage_at (set U b (Writing (length T))) k) name ≡ (k == b)
owner-begun N T name U b k len lt fit = go (same_place k b)
  where
    go : (k ≡ b) ⊎ (k ≢ b) → writes_file_by (N ++ name ∷ []) (usage_at (set U b (Writing (length T))) k) name ≡ (k == b)
    go (inl e) =
        let now : usage_at (set U b (Writing (length T))) b ≡ Writing (length T) = usage-set_same U b (Writing (length T)) lt in
        rw (e, now, latest-push N name) (grind (arith, nat_tests))
    go (inr ne) = rw (usage-set_other U b k (Writing (length T)) ne, owner-push N T name (usage_at U k) len (fit k)) (grind (arith, nat_tests))

-- and no slot writes another file than before
pub owner-begun_other : (N T : List (List ℕ)) (name other : List ℕ) (U : List Usage) (b k : ℕ) → length N ≡ length T → b < 8 → length U ≡ 9 → AllUnused b U → other ≢ name
    → writes_file_by (N ++ name ∷ []) (usage_at (set U b (Writing (length T))) k) other ≡ writes_file_by N (usage_at U k) other
owner-begun_other N T name other U b k len lt nine all ne = go (same_place k b)
  where
    go : (k ≡ b) ⊎ (k ≢ b) → writes_file_by (N ++ name ∷ []) (usage_at (set U b (Writing (length T))) k) other ≡ writes_file_by N (usage_at U k) other
    go (inl e) =
        let now : usage_at (set U b (Writing (length T))) b ≡ Writing (length T) = usage-set_same U b (Writing (length T)) (omega arith) in
        let was : usage_at U b ≡ Unused = all b (omega arith) lt in
        rw (e, now, was, latest-push_other N name other ne) (no_version N other (length T) (omega arith))
    go (inr far) = rw (usage-set_other U b k (Writing (length T)) far) (owner-push_other N name other (usage_at U k) ne)

-- a file that is begun or put now leaves the slots as they were
pub state-push : (reads writes : Option (List ℕ)) (T : List (List ℕ)) (O bytes : List ℕ) (u : Usage) (l : LastRead) (finished : Bool) (faults : ℕ) → IsTrue (fits T u)
    → state_by reads writes (T ++ bytes ∷ []) O u l finished faults ≡ state_by reads writes T O u l finished faults
state-push reads writes T O bytes u l finished faults fit =
    rw (given-push T bytes u fit, left-push T bytes u fit, sent-push T O bytes u fit, written-push T O bytes u fit) refl
