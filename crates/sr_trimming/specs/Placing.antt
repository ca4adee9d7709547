-- Where deletions are placed among steps.
use Rattle.std.specs.Prelude.{ℕ, not, ◌&&◌, List, [], ◌∷◌, ◌++◌, filter, map, length}
use Rattle.sr_base.specs.Literal.{Literal}
use Rattle.sr_model.specs.Chain.{Numbered}
use Rattle.sr_model.specs.Judging.{numbered_from}
use Rattle.sr_model.specs.Meeting.{Step}
use Rattle.sr_model.specs.Judging.{Item, stepped, dropped}
use Rattle.sr_trimming.specs.Citing.{cites, is_cited}

abbrev pub numbers : Numbered → List ℕ
numbers ps = map (λ p. p.0) ps

-- a deletion before other items; one of no numbers is left out
abbrev pub deletion : ℕ → List ℕ → List Item → List Item
deletion id [] items = items
deletion id (n ∷ ns) items = dropped id (n ∷ ns) ∷ items

-- of the known clauses those that a step cites and no later one
abbrev pub last_cited : Numbered → Step → List Step → List ℕ
last_cited known s later = numbers (filter (λ p. cites p.0 s && not (is_cited p.0 later)) known)

-- the steps in order; after each but the last the deletion of what it is the last to cite
abbrev pub placed_from : Numbered → List Step → List Item
placed_from known [] = []
placed_from known (s ∷ []) = stepped s ∷ []
placed_from known (s ∷ t ∷ later) = stepped s ∷ deletion s.id (last_cited known s (t ∷ later)) (placed_from (known ++ (s.id, s.clause) ∷ []) (t ∷ later))

-- first the deletion of the formula's clauses that aren't cited
abbrev pub uncited : List (List Literal) → List Step → List ℕ
uncited f steps = numbers (filter (λ p. not (is_cited p.0 steps)) (numbered_from 1 f))

abbrev pub placed : List (List Literal) → List Step → List Item
placed f steps = deletion (length f) (uncited f steps) (placed_from (numbered_from 1 f) steps)
