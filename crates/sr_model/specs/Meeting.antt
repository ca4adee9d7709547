-- When a step meets the hint rules: by the chain of its prefix, or by its witness with a chain for each clause that it
-- touches and doesn't satisfy (Codel, Avigad and Heule 2024).
use Rattle.std.specs.Prelude.{ℕ, Bool, false, not, ◌==◌, ◌≡◌, nat_le, cond, Option, Some, None, List, [], ◌∷◌, ◌++◌}
use Rattle.sr_base.specs.Literal.{Literal, compl}
use Rattle.sr_base.specs.declared.names.Cause.{Cause}
use Rattle.sr_base.specs.declared.names.Cause.TheVariants.{NotNew, Unclosed, GroupUnclosed, GroupSpare, GroupTwice}
use Rattle.sr_model.specs.Assignment.{holds_number}
use Rattle.sr_model.specs.Refutation.{is_empty}
use Rattle.sr_model.specs.Substitution.{Substitution, Witness, has_pair, Reduction, untouched, satisfied, left, reduction, substitution_for, IsPivot}
use Rattle.sr_model.specs.Chain.{Numbered, clause_of, ChainEnd, closed, unclosed, faulty, chain}

-- hints for the clause of a number
abbrev pub Group : Type 0
Group = ℕ × List ℕ

pub record Step : Type 0 where
  pub id : ℕ
  pub clause : List Literal
  pub witness : Option Witness
  pub prefix : List ℕ
  pub groups : List Group

pub data Meeting : Type 0 where
  met : Meeting
  unmet : Cause → Meeting

-- the first one that isn't met decides
abbrev pub both : Meeting → Meeting → Meeting
both met m = m
both (unmet x) m = unmet x

-- the hints of the first group of a number
abbrev pub group_of : List Group → ℕ → List ℕ
group_of [] n = []
group_of (g ∷ gs) n = cond (g.0 == n) g.1 (group_of gs n)

abbrev pub group_end : ℕ → ChainEnd → Meeting
group_end n closed = met
group_end n (unclosed b) = unmet (GroupUnclosed n)
group_end n (faulty x) = unmet x

-- what is left of the clause of number `n` is refuted by the hints of its group, from the literals `b`
abbrev pub left_meets : Bool → Numbered → List Literal → List Group → ℕ → Reduction → Meeting
left_meets strict live b gs n untouched = met
left_meets strict live b gs n satisfied = met
left_meets strict live b gs n (left d) = group_end n (chain strict live (b ++ compl d) (group_of gs n))

-- the clauses are tried in order
abbrev pub all_left_meet : Bool → Numbered → List Literal → Substitution → List Group → Numbered → Meeting
all_left_meet strict live b w gs [] = met
all_left_meet strict live b w gs (p ∷ ps) = both (left_meets strict live b gs p.0 (reduction w p.1)) (all_left_meet strict live b w gs ps)

-- whether a clause needs a group: what is left of it isn't refuted by the literals at hand
abbrev pub needs_hints : List Literal → Reduction → Bool
needs_hints b untouched = false
needs_hints b satisfied = false
needs_hints b (left d) = not (has_pair (b ++ compl d))

abbrev pub clause_needs_hints : List Literal → Substitution → Option (List Literal) → Bool
clause_needs_hints b w None = false
clause_needs_hints b w (Some d) = needs_hints b (reduction w d)

-- under strict checking: each group is the first of its number, and its clause is live and needs it
abbrev pub groups_fit : Numbered → List Literal → Substitution → List ℕ → List Group → Meeting
groups_fit live b w before [] = met
groups_fit live b w before (g ∷ gs) = cond (holds_number g.0 before) (unmet (GroupTwice g.0))
    (cond (clause_needs_hints b w (clause_of live g.0)) (groups_fit live b w (g.0 ∷ before) gs) (unmet (GroupSpare g.0)))

abbrev pub witness_meets : Bool → Numbered → List Literal → Substitution → List Group → Meeting
witness_meets strict live b w gs = both (cond strict (groups_fit live b w [] gs) met) (all_left_meet strict live b w gs live)

-- under strict checking a step that closes by its prefix has no group
abbrev pub no_groups : Bool → List Group → Meeting
no_groups strict [] = met
no_groups strict (g ∷ gs) = cond strict (unmet (GroupSpare g.0)) met

abbrev pub prefix_meets : Bool → Numbered → Step → ChainEnd → Meeting
prefix_meets strict live s closed = no_groups strict s.groups
prefix_meets strict live s (faulty x) = unmet x
prefix_meets strict live s (unclosed b) =
    cond (is_empty s.clause) (unmet Unclosed) (witness_meets strict live b (substitution_for s.clause s.witness) s.groups)

-- how a step is met, its number apart
abbrev pub meets_over : Bool → Numbered → Step → Meeting
meets_over strict live s = prefix_meets strict live s (chain strict live (compl s.clause) s.prefix)

-- the step's number is above the last one, and its hints are in order
abbrev pub meets : Bool → Numbered → ℕ → Step → Meeting
meets strict live last s = cond (nat_le s.id last) (unmet NotNew) (meets_over strict live s)

-- a written witness has the clause's first literal as its pivot
abbrev pub HasPivot : Step → Type 0
HasPivot s = (w : Witness) → s.witness ≡ Some w → IsPivot w.pivot s.clause
