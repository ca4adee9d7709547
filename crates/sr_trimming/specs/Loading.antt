-- Proofs as lines, and the clauses that are alive after them.
use Rattle.std.specs.Prelude.{ℕ, ◌+◌, Bool, true, false, ◌&&◌, ◌≡◌, ◌≢◌, ◌⊎◌, cond, Option, Some, None, List, [], ◌∷◌, ◌++◌, length}
use Rattle.std.specs.List.{list_all}
use Rattle.sr_base.specs.Literal.{Literal, complement, has}
use Rattle.sr_model.specs.Refutation.{is_empty, IsClosed, Refutes}
use Rattle.sr_model.specs.Dsr.{Lemma, Line, lemma_line, deletion_line}
use Rattle.sr_model.specs.Chain.{Numbered, clauses}
use Rattle.sr_model.specs.Judging.{numbered_from, without}

-- what a line did
pub data Done : Type 0 where
  joined : Lemma → Done
  removed : ℕ → Done
  passed : Done

-- the number of the next lemma, and the clauses that are alive
pub record Standing : Type 0 where
  pub next : ℕ
  pub alive : Numbered

abbrev pub at_start : List (List Literal) → Standing
at_start f = record { next = length f + 1; alive = numbered_from 1 f }

-- a lemma takes the next number; an empty one doesn't join the clauses
abbrev pub after_done : Standing → Done → Standing
after_done st (joined l) = record { next = st.next + 1; alive = cond (is_empty l.clause) st.alive (st.alive ++ (st.next, l.clause) ∷ []) }
after_done st (removed n) = record { next = st.next; alive = without (n ∷ []) st.alive }
after_done st passed = st

abbrev pub after_all : Standing → List Done → Standing
after_all st [] = st
after_all st (d ∷ ds) = after_all (after_done st d) ds

-- whether two clauses are one as sets
abbrev pub same_clause : List Literal → List Literal → Bool
same_clause c d = list_all (λ l. has l d) c && list_all (λ l. has l c) d

-- the greatest number whose clause is a set
abbrev pub last_of : Numbered → List Literal → Option ℕ
last_of [] c = None
last_of (p ∷ ps) c = elim (last_of ps c) [ Some n ↦ Some n | None ↦ cond (same_clause p.1 c) (Some p.0) None ]

-- every set that is closed under the clauses holds the literal
abbrev pub Forced : List (List Literal) → Literal → Type 0
Forced s l = (b : List Literal) → IsClosed b s → has l b ≡ true

-- one literal of the clause is forced, and so are the complements of its others
pub record IsUnit (s : List (List Literal)) (c : List Literal) : Type 0 where
  pub literal : Literal
  pub of_clause : has literal c ≡ true
  pub forced : Forced s literal
  pub others : (h : Literal) → has h c ≡ true → h ≢ literal → Forced s (complement h)

abbrev pub IsKept : Bool → Numbered → List Literal → Type 0
IsKept keep live c = (keep ≡ true) × IsUnit (clauses live) c

-- a deletion is passed over where no alive clause is the set, and where the flag keeps it; else the last such clause goes
abbrev pub DeletionDid : Bool → Numbered → List Literal → Done → Option ℕ → Type 0
DeletionDid keep live c d None = d ≡ passed
DeletionDid keep live c d (Some n) = (IsKept keep live c × (d ≡ passed)) ⊎ ((¬ IsKept keep live c) × (d ≡ removed n))

abbrev pub Did : Bool → Numbered → Line → Done → Type 0
Did keep live (lemma_line l) d = d ≡ joined l
Did keep live (deletion_line c) d = DeletionDid keep live c d (last_of live c)

-- the lines did this, one after another
abbrev pub AllDid : Bool → Standing → List Line → List Done → Type 0
AllDid keep st [] [] = Unit {0}
AllDid keep st [] (d ∷ ds) = ⊥
AllDid keep st (l ∷ ls) [] = ⊥
AllDid keep st (l ∷ ls) (d ∷ ds) = Did keep st.alive l d × AllDid keep (after_done st d) ls ds

-- where loading stands
pub data Stop : Type 0 where
  at_conflict : Stop
  at_empty_lemma : Stop
  going_on : Stop

abbrev pub InConflict : Numbered → Type 0
InConflict live = Refutes (clauses live) []

abbrev pub is_empty_lemma : Done → Bool
is_empty_lemma (joined l) = is_empty l.clause
is_empty_lemma (removed n) = false
is_empty_lemma passed = false

-- it stops at the first conflict or empty lemma, and not before
abbrev pub StopsAfter : Standing → List Done → Stop → Type 0
StopsAfter st [] at_conflict = InConflict st.alive
StopsAfter st [] at_empty_lemma = ⊥
StopsAfter st [] going_on = ¬ InConflict st.alive
StopsAfter st (d ∷ ds) stop = (¬ InConflict st.alive) × cond (is_empty_lemma d) ((ds ≡ []) × (stop ≡ at_empty_lemma)) (StopsAfter (after_done st d) ds stop)

-- the first lines of a proof are loaded, and loading stops so; all of them where it goes on
pub record Loads (keep : Bool) (f : List (List Literal)) (proof : List Line) (ds : List Done) (stop : Stop) : Type 0 where
  pub taken : List Line
  pub rest : List Line
  pub split : proof ≡ taken ++ rest
  pub did : AllDid keep (at_start f) taken ds
  pub stops : StopsAfter (at_start f) ds stop
  pub all_taken : stop ≡ going_on → rest ≡ []

-- what is loaded of a proof, and where loading stops, is determined by the formula, the lines and the flag
abbrev pub LoadingIsDetermined : Type 0
LoadingIsDetermined = (keep : Bool) (f : List (List Literal)) (proof : List Line) (ds es : List Done) (s t : Stop) → Loads keep f proof ds s → Loads keep f proof es t → (ds ≡ es) × (s ≡ t)
