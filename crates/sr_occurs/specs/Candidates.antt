-- The clauses of which a witness may leave something.
use Rattle.std.specs.Prelude.{ℕ, ◌+◌, ◌≤◌, ◌≡◌, Bool, true, false, cond, List, [], ◌∷◌, ◌++◌, Some, None}
use Rattle.sr_base.specs.Literal.{Literal, complement, compl, same, has}
use Rattle.sr_model.specs.Assignment.{holds_number}
use Rattle.sr_model.specs.Substitution.{Substitution, Witness, Reduction, untouched, satisfied, left, reduction}
use Rattle.sr_model.specs.Chain.{Numbered, clause_of}
use Rattle.sr_table.specs.Pages.{Paged}
use Rattle.sr_occurs.specs.Occurring.{Occurring, IsTableFor, AreListed}

-- whether something is left of a clause
abbrev pub is_left : Reduction → Bool
is_left untouched = false
is_left satisfied = false
is_left (left d) = true

-- the numbers of the clauses of which something is left are all in a list
abbrev pub HoldsLeft : Substitution → List ℕ → Numbered → Type 0
HoldsLeft s ns [] = Unit {0}
HoldsLeft s ns (p ∷ ps) = (is_left (reduction s p.1) ≡ true → holds_number p.0 ns ≡ true) × HoldsLeft s ns ps

-- the numbers of the clauses that have a literal are all in a list
abbrev pub HoldsWith : Literal → List ℕ → Numbered → Type 0
HoldsWith l ns [] = Unit {0}
HoldsWith l ns (p ∷ ps) = (has l p.1 ≡ true → holds_number p.0 ns ≡ true) × HoldsWith l ns ps

-- for each of some literals
abbrev pub HoldsEach : List Literal → List ℕ → Numbered → Type 0
HoldsEach [] ns live = Unit {0}
HoldsEach (l ∷ ls) ns live = HoldsWith l ns live × HoldsEach ls ns live

-- whichever clauses the table leads from, if the lists have them: the numbers of those that have one of the literals are all
-- in a list
abbrev pub Gathers : Paged → Occurring → List Literal → List ℕ → Type 0
Gathers table lists ls ns = (live : Numbered) → IsTableFor table live → AreListed lists live → HoldsEach ls ns live

-- and those of which a substitution leaves something
abbrev pub GathersLeft : Paged → Occurring → Substitution → List ℕ → Type 0
GathersLeft table lists s ns = (live : Numbered) → IsTableFor table live → AreListed lists live → HoldsLeft s ns live

-- the literals that are sent elsewhere, both of each variable
abbrev pub sent_literals : List (Literal × Literal) → List Literal
sent_literals [] = []
sent_literals (m ∷ ms) = cond (same m.0 m.1) (sent_literals ms) (m.0 ∷ complement m.0 ∷ sent_literals ms)

-- the literals that a witness makes false or sends elsewhere: of another clause nothing is left
abbrev pub moved_literals : Witness → List Literal
moved_literals w = complement w.pivot ∷ (compl w.assigned ++ sent_literals w.maps)
