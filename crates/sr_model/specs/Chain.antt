-- How the hints of a step are followed (after LRAT).
use Rattle.std.specs.Prelude.{ℕ, Bool, true, false, not, ◌==◌, cond, Option, Some, None, List, [], ◌∷◌, ◌++◌, filter, map}
use Rattle.sr_base.specs.Literal.{Literal, complement, has}
use Rattle.sr_base.specs.declared.names.Cause.{Cause}
use Rattle.sr_base.specs.declared.names.Cause.TheVariants.{DeadHint, NotUnit, HintAfter}
use Rattle.sr_model.specs.Substitution.{has_pair}

-- numbered clauses, in rising order of number
abbrev pub Numbered : Type 0
Numbered = List (ℕ × List Literal)

abbrev pub clauses : Numbered → List (List Literal)
clauses live = map (λ p. p.1) live

-- the clause of a number
abbrev pub clause_of : Numbered → ℕ → Option (List Literal)
clause_of [] h = None
clause_of (p ∷ ps) h = cond (p.0 == h) (Some p.1) (clause_of ps h)

-- the clause's literals whose complements aren't in the list
abbrev pub open_literals : List Literal → List Literal → List Literal
open_literals a c = filter (λ l. not (has (complement l) a)) c

-- what one hint does
pub data HintEnd : Type 0 where
  closes : HintEnd
  adds : Literal → HintEnd
  misleads : Cause → HintEnd

abbrev pub hint_of_open : ℕ → List Literal → HintEnd
hint_of_open h [] = closes
hint_of_open h (l ∷ []) = adds l
hint_of_open h (l ∷ k ∷ ls) = misleads (NotUnit h)

abbrev pub hint_of_clause : List Literal → ℕ → Option (List Literal) → HintEnd
hint_of_clause a h None = misleads (DeadHint h)
hint_of_clause a h (Some c) = hint_of_open h (open_literals a c)

abbrev pub hint : Numbered → List Literal → ℕ → HintEnd
hint live a h = hint_of_clause a h (clause_of live h)

-- how a chain of hints ends
pub data ChainEnd : Type 0 where
  closed : ChainEnd
  unclosed : List Literal → ChainEnd
  faulty : Cause → ChainEnd

-- the chain closes with these hints left: strict checking allows none
abbrev pub closes_before : Bool → List ℕ → ChainEnd
closes_before strict [] = closed
closes_before strict (h ∷ hs) = cond strict (faulty (HintAfter h)) closed

-- the hints are followed, from the literals `a`
abbrev pub chain : Bool → Numbered → List Literal → List ℕ → ChainEnd
chain strict live a [] = elim (has_pair a) [ true ↦ closed | false ↦ unclosed a ]
chain strict live a (h ∷ hs) = elim (has_pair a) [
  | true ↦ closes_before strict (h ∷ hs)
  | false ↦ elim (hint live a h) [ closes ↦ closes_before strict hs | adds l ↦ chain strict live (a ++ l ∷ []) hs | misleads x ↦ faulty x ]
]
