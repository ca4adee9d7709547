-- What a backward pass has over the lemmas as they were read, of the steps that are written with clauses in another order.
use Rattle.std.specs.Prelude.{ℕ, Bool, true, ◌≡◌, List, length, map, All}
use Rattle.sr_base.specs.Literal.{Literal, NoRepeats}
use Rattle.sr_model.specs.declared.verdict.Verdict.TheVariants.{Verified}
use Rattle.sr_model.specs.Assignment.{holds_number, Unsat}
use Rattle.sr_model.specs.Meeting.{Step}
use Rattle.sr_model.specs.Judging.{first_live, judge}
use Rattle.sr_trimming.specs.Reordered.{AreStepsRewritten}
use Rattle.sr_trimming.specs.Citing.{is_cited, all_of, core}
use Rattle.sr_trimming.specs.Placing.{numbers, placed}
use Rattle.sr_trimming.specs.Loading.{Done}
use Rattle.sr_trimming.specs.From.{all_loaded, AreFrom, LemmasHavePivots, as_read}
use Rattle.sr_trimming.specs.Backward.{AreLinked, MeetNeed, AreMet}
use Rattle.sr_trimming.specs.Trimmed.{LeanByNeed, IsTrimmed}
use Rattle.sr_trimming.specs.CoreFirst.{AreCoreFirst}

-- each number that a step cites is that of a formula clause or of a step
abbrev pub CiteKnown : List (List Literal) → List Step → Type 0
CiteKnown f steps = (n : ℕ) → is_cited n steps ≡ true → holds_number n (numbers (all_of f steps)) ≡ true

-- what is met over the lemmas' clauses is met over the clauses that are written
abbrev pub LoadedToWritten : Type 0
LoadedToWritten = (strict : Bool) (f : List (List Literal)) (ds : List Done) (ss ts : List Step) → All NoRepeats f → AreStepsRewritten ss ts
    → AreLinked (length f) ts → AreFrom f ds ts → CiteKnown f ts → MeetNeed strict (all_loaded f ds) ss → MeetNeed strict (all_of f ts) ts

-- and what is lean over them is lean, and makes a trimmed proof that is verified, strictly too
abbrev pub LeanToWritten : Type 0
LeanToWritten = (f : List (List Literal)) (ds : List Done) (ss ts : List Step) → All NoRepeats f → AreStepsRewritten ss ts
    → AreLinked (length f) ts → AreFrom f ds ts → CiteKnown f ts → LeanByNeed (all_loaded f ds) ss → LeanByNeed (all_of f ts) ts

abbrev pub WrittenIsVerified : Type 0
WrittenIsVerified = (strict : Bool) (f : List (List Literal)) (ds : List Done) (ss ts : List Step) → All NoRepeats f → AreStepsRewritten ss ts
    → AreLinked (length f) ts → LemmasHavePivots ds → AreFrom f ds ts → CiteKnown f ts → LeanByNeed (all_loaded f ds) ss
    → IsTrimmed f (placed f ts) × AreMet strict (first_live f) (placed f ts) × (judge strict f (placed f ts) ≡ Verified) × Unsat (core f ts)

-- and where cited clauses come first among the lemmas, they do in what is written
abbrev pub CoreFirstToWritten : Type 0
CoreFirstToWritten = (f : List (List Literal)) (ds : List Done) (ss ts : List Step) → All NoRepeats f → AreStepsRewritten ss ts
    → AreLinked (length f) ts → AreFrom f ds ts → CiteKnown f ts → AreCoreFirst (all_loaded f ds) ss → AreCoreFirst (all_of f ts) ts

-- the steps that come from lemmas, with the lemmas' clauses as they were read
abbrev pub WrittenIsAsRead : Type 0
WrittenIsAsRead = (f : List (List Literal)) (ds : List Done) (ts : List Step) → AreFrom f ds ts → AreStepsRewritten (map (as_read f ds) ts) ts
