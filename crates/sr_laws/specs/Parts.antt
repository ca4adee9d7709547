-- A forward test in parts. Each part takes all lines, and tests the lemmas of its own numbers alone.
use Rattle.std.specs.Prelude.{ℕ, zero, suc, ◌+◌, ◌-◌, ◌/◌, ◌%◌, ◌<◌, ◌≤◌, ◌==◌, Bool, true, false, ◌||◌, ◌≡◌, List, [], ◌∷◌, length}
use Rattle.sr_base.specs.Literal.{Literal}
use Rattle.sr_base.specs.Limits.{LimitValues}
use Rattle.sr_base.specs.declared.names.Form.{Form}
use Rattle.sr_model.specs.Assignment.{Unsat}
use Rattle.sr_model.specs.Tokens.{Tokens}
use Rattle.sr_model.specs.Dsr.{Line, SpellLines}
use Rattle.sr_trimming.specs.Loading.{Done, joined, removed, passed, at_start, AllDid, at_conflict, Loads}
use Rattle.sr_laws.specs.Forward.{Answer, conflict, empty_lemma, failed, going, AnswersFrom, ForwardsWhere, each_one, Forwards}

-- which of the proof's lemmas a part tests, by their numbers from 1 on
abbrev pub Part : Type 0
Part = ℕ → Bool

-- whether one of the parts tests a lemma
abbrev pub covers : List Part → ℕ → Bool
covers [] i = false
covers (r ∷ rs) i = r i || covers rs i

-- the i-th lemma has the number of the formula's last clause and i
abbrev pub asked_in : List (List Literal) → Part → ℕ → Bool
asked_in f r n = r (n - length f)

-- the lemmas of a part are asked for
abbrev pub ForwardsIn : Bool → List (List Literal) → List Line → Part → List Done → Answer → Type 0
ForwardsIn keep f proof r ds a = ForwardsWhere (asked_in f r) keep f proof ds a

-- The part of this number among so many: blocks of 64 lemmas go to the parts in turn, so that parts are of like weight and nobody
-- has to know how long the proof is
abbrev pub of_part : ℕ → ℕ → Part
of_part count i n = (((n - 1) / 64) % count + 1) == i

-- the first ones of so many parts
abbrev pub first_parts : ℕ → ℕ → List Part
first_parts count zero = []
first_parts count (suc i) = of_part count (suc i) ∷ first_parts count i

abbrev pub all_parts : ℕ → List Part
all_parts count = first_parts count count

-- how many lemmas were taken
abbrev pub lemmas_of : List Done → ℕ
lemmas_of [] = 0
lemmas_of (joined l ∷ ds) = lemmas_of ds + 1
lemmas_of (removed k ∷ ds) = lemmas_of ds
lemmas_of (passed ∷ ds) = lemmas_of ds

-- the parts hold each number of a lemma
abbrev pub CoverAll : List Part → ℕ → Type 0
CoverAll rs count = (i : ℕ) → 1 ≤ i → i ≤ count → covers rs i ≡ true

-- each part of a proof comes to a conflict
abbrev pub EachConflicts : Bool → List (List Literal) → List Line → List Part → Type 0
EachConflicts keep f proof [] = Unit {0}
EachConflicts keep f proof (r ∷ rs) = ((ds : List Done) × ForwardsIn keep f proof r ds conflict) × EachConflicts keep f proof rs

-- a part that comes to a conflict loads the proof up to there, as each other part does
abbrev pub PartIsLoading : Type 0
PartIsLoading = (keep : Bool) (f : List (List Literal)) (proof : List Line) (r : Part) (ds : List Done) → ForwardsIn keep f proof r ds conflict → Loads keep f proof ds at_conflict

-- where the parts hold all lemmas up to the conflict and each comes to it, so does the whole test
abbrev pub PartsMakeWhole : Type 0
PartsMakeWhole = (keep : Bool) (f : List (List Literal)) (proof : List Line) (ds : List Done) (rs : List Part) → Loads keep f proof ds at_conflict → CoverAll rs (lemmas_of ds)
    → EachConflicts keep f proof rs → Forwards keep f proof ds conflict × Unsat f

-- the second answer isn't the failure of a lemma before that of the first one; where the first is no failure, it is none
abbrev pub NotBefore : Answer → Answer → Type 0
NotBefore a conflict = Unit {0}
NotBefore a (empty_lemma n) = Unit {0}
NotBefore a going = Unit {0}
NotBefore conflict (failed m e) = ⊥
NotBefore (empty_lemma n) (failed m e) = ⊥
NotBefore going (failed m e) = ⊥
NotBefore (failed n d) (failed m e) = n ≤ m

-- each part has an answer that isn't a failure before this one
abbrev pub NoneBefore : Bool → List (List Literal) → List Line → Answer → List Part → Type 0
NoneBefore keep f proof a [] = Unit {0}
NoneBefore keep f proof a (r ∷ rs) = ((es : List Done) × (b : Answer) × ForwardsIn keep f proof r es b × NotBefore a b) × NoneBefore keep f proof a rs

-- The answer of one part, where the parts hold all lemmas that it took and none fails at a lemma before: it is that of the whole test.
-- So the least lemma at which a part fails is that at which the whole test fails, against the same clause; and where none fails, all
-- parts and the whole test have one answer
abbrev pub PartsDecide : Type 0
PartsDecide = (keep : Bool) (f : List (List Literal)) (proof : List Line) (r : Part) (ds : List Done) (a : Answer) (rs : List Part) → ForwardsIn keep f proof r ds a
    → CoverAll (r ∷ rs) (lemmas_of ds) → NoneBefore keep f proof a rs → Forwards keep f proof ds a

-- One run of a part over the tokens of a file: it reads lines up to a conflict. How far it reads is all that it knows of the proof.
pub record RunsPart (form : Form) (lim : LimitValues) (keep : Bool) (f : List (List Literal)) (tokens : Tokens) (asked : ℕ → Bool) (ds : List Done) : Type 0 where
  pub lines : List Line
  pub rest : Tokens
  pub spelled : SpellLines form lim tokens lines rest
  pub did : AllDid keep (at_start f) lines ds
  pub answers : AnswersFrom asked (at_start f) ds conflict

abbrev pub EachRuns : Form → LimitValues → Bool → List (List Literal) → Tokens → List Part → Type 0
EachRuns form lim keep f tokens [] = Unit {0}
EachRuns form lim keep f tokens (r ∷ rs) = ((ds : List Done) × RunsPart form lim keep f tokens (asked_in f r) ds) × EachRuns form lim keep f tokens rs

-- Runs on the same tokens, with the same limits and flag, wherever they were made: any one of them tells how many lemmas there are,
-- and where their parts hold these, each run did what one run of the whole test does, and the formula has no solution
abbrev pub RunsMakeWhole : Type 0
RunsMakeWhole = (form : Form) (lim : LimitValues) (keep : Bool) (f : List (List Literal)) (tokens : Tokens) (r : Part) (ds : List Done) (rs : List Part)
    → RunsPart form lim keep f tokens (asked_in f r) ds → CoverAll (r ∷ rs) (lemmas_of ds) → EachRuns form lim keep f tokens rs
    → RunsPart form lim keep f tokens each_one ds × Unsat f

-- the parts 1 to N hold every lemma
abbrev pub AllPartsCover : Type 0
AllPartsCover = (count lemmas : ℕ) → 0 < count → CoverAll (all_parts count) lemmas
