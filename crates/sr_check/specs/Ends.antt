-- What the answers of the code stand for.
use Rattle.std.specs.Prelude.{◌≡◌, ◌≤◌, ℕ, Option, None, List, [], ◌∷◌, take, length}
use Rattle.sr_base.specs.Literal.{Literal}
use Rattle.sr_model.specs.Chain.{Numbered, clause_of, HintEnd, closes, adds, misleads, ChainEnd, closed, unclosed, faulty}
use Rattle.sr_model.specs.Meeting.{Meeting, met, unmet}
use Rattle.sr_check.specs.Trail.{TrailValue}
use Rattle.sr_check.specs.declared.meeting.Meet.{Meet}
use Rattle.sr_check.specs.declared.meeting.Meet.TheVariants.{Met, Unmet}
use Rattle.sr_check.specs.declared.chains.Open.{Open}
use Rattle.sr_check.specs.declared.chains.Open.TheVariants.{Nothing, One, More}
use Rattle.sr_check.specs.declared.chains.Hint.{Hint}
use Rattle.sr_check.specs.declared.chains.Hint.TheVariants.{Closes, Adds, Misleads}
use Rattle.sr_check.specs.declared.chains.End.{End}
use Rattle.sr_check.specs.declared.chains.End.TheVariants.{Closed, Unclosed, Faulty}

-- none, one or more
abbrev pub open_end : List Literal → Open
open_end [] = Nothing
open_end (l ∷ []) = One l
open_end (l ∷ k ∷ ls) = More

-- the clause that the first hint names
abbrev pub first_clause : Numbered → List ℕ → Option (List Literal)
first_clause live [] = None
first_clause live (h ∷ hs) = clause_of live h

abbrev pub hint_end : Hint → HintEnd
hint_end Closes = closes
hint_end (Adds l) = adds l
hint_end (Misleads x) = misleads x

abbrev pub chain_end : End → List Literal → ChainEnd
chain_end Closed b = closed
chain_end Unclosed b = unclosed b
chain_end (Faulty x) b = faulty x

-- the literals that were there still stand in front, and no room was given up
pub record KeepsFront (old new : TrailValue) : Type 0 where
  pub front : take (length old.lits) new.lits ≡ old.lits
  pub longer : length old.lits ≤ length new.lits
  pub room : old.room ≤ new.room

abbrev pub meeting_of : Meet → Meeting
meeting_of Met = met
meeting_of (Unmet x) = unmet x
