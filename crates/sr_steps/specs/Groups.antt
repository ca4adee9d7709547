-- Where the hints of a group stand among all: a number of 65,535 or more stands before them.
use Rattle.std.specs.Prelude.{ℕ, ◌+◌, ◌*◌, ◌^◌, ◌≤◌, ◌≡◌, Bool, cond, nat_lt, List, length, take, slice_index, slice_range}
use Rattle.sr_model.specs.Meeting.{Group}
use Rattle.sr_steps.specs.declared.place.GroupPlace.{GroupPlace}

abbrev pub start_of : GroupPlace → ℕ
start_of g = g.high * 2 ^ 32 + g.low

abbrev pub has_few : GroupPlace → Bool
has_few g = nat_lt g.count 65535

abbrev pub first_of : GroupPlace → ℕ
first_of g = cond (has_few g) (start_of g) (start_of g + 1)

abbrev pub count_of : List ℕ → GroupPlace → ℕ
count_of all g = cond (has_few g) g.count (slice_index all (start_of g))

abbrev pub hints_of : List ℕ → GroupPlace → List ℕ
hints_of all g = slice_range all (first_of g) (first_of g + count_of all g)

abbrev pub group_of : List ℕ → GroupPlace → Group
group_of all g = (g.id, hints_of all g)

-- the hints of a group lie among all
abbrev pub IsWithin : List ℕ → GroupPlace → Type 0
IsWithin all g = first_of g + count_of all g ≤ length all

-- a list begins with another
abbrev pub Begins : List ℕ → List ℕ → Type 0
Begins old new = take (length old) new ≡ old
