-- How the literals of a lemma or a step are read: the clause goes up to the second occurrence of its first literal, the
-- pivot; the literals that a witness makes true go up to the third one; then follow pairs of a literal and its image.
use Rattle.std.specs.Prelude.{ℕ, ◌==◌, ◌&&◌, ◌||◌, Bool, true, false, not, List, [], ◌∷◌, ◌++◌, map, filter, Option, Some, None, option_map, cond, if◌then◌else◌}
use Rattle.sr_base.specs.Literal.{Literal, plus, minus, complement, same, distinct}
use Rattle.sr_base.specs.declared.names.TextKind.{TextKind}
use Rattle.sr_base.specs.declared.names.TextKind.TheVariants.{OddMap, Twice}
use Rattle.sr_model.specs.declared.images.Image.{Image}
use Rattle.sr_model.specs.declared.images.Image.TheVariants.{Yes, No, To}
use Rattle.sr_model.specs.Substitution.{Witness, made_true, sent}

-- the literals before the first that is p, and those after it
abbrev pub before : Literal → List Literal → List Literal
before p [] = []
before p (x ∷ xs) = if same x p then [] else x ∷ before p xs

abbrev pub after : Literal → List Literal → Option (List Literal)
after p [] = None
after p (x ∷ xs) = if same x p then Some xs else after p xs

-- pairs, and one literal that may be left over
abbrev pub pairs : List Literal → List (Literal × Literal)
pairs [] = []
pairs (x ∷ []) = []
pairs (x ∷ y ∷ zs) = (x, y) ∷ pairs zs

abbrev pub is_odd : List Literal → Bool
is_odd [] = false
is_odd (x ∷ []) = true
is_odd (x ∷ y ∷ zs) = is_odd zs

abbrev pub same_image : Image → Image → Bool
same_image Yes Yes = true
same_image No No = true
same_image (To k) (To l) = same k l
same_image _ _ = false

-- a later part gives the variable another image
abbrev pub clashes : ℕ × Image → List (ℕ × Image) → Bool
clashes p [] = false
clashes p (q ∷ qs) = (p.0 == q.0 && not (same_image p.1 q.1)) || clashes p qs

-- the first variable in the order of the parts that gets two different images
abbrev pub twice_of : List (ℕ × Image) → Option ℕ
twice_of [] = None
twice_of (p ∷ ps) = cond (clashes p ps) (Some p.0) (twice_of ps)

-- the parts as they are written: the pivot and the other literals are true, and each pair is a map
abbrev pub parts_of : Literal → List Literal → List (Literal × Literal) → List (ℕ × Image)
parts_of p trues maps = made_true p ∷ (map made_true trues ++ map sent maps)

-- a map from a variable
abbrev pub from_variable : Literal × Literal → Literal × Literal
from_variable (plus v, w) = (plus v, w)
from_variable (minus v, w) = (plus v, complement w)

-- the first map of each variable
abbrev pub first_maps : List (Literal × Literal) → List (Literal × Literal)
first_maps [] = []
first_maps (m ∷ ms) = m ∷ filter (λ n. not (same m.0 n.0)) (first_maps ms)

-- parts that are repeated are dropped, and maps go from variables
abbrev pub witness_by : Literal → List Literal → List (Literal × Literal) → Witness
witness_by p trues maps = record {
  pivot = p;
  assigned = filter (λ l. not (same p l)) (distinct trues);
  maps = first_maps (map from_variable maps);
}

-- the maps of a written witness, where there is a third pivot
abbrev pub maps_of : Option (List Literal) → List (Literal × Literal)
maps_of None = []
maps_of (Some ms) = pairs ms

abbrev pub clause_of_literals : List Literal → List Literal
clause_of_literals [] = []
clause_of_literals (p ∷ rest) = distinct (p ∷ before p rest)

abbrev pub witness_of_literals : List Literal → Option Witness
witness_of_literals [] = None
witness_of_literals (p ∷ rest) = option_map (λ w. witness_by p (before p w) (maps_of (after p w))) (after p rest)

-- what is wrong with a whole witness: an odd number of literals in the maps comes first
abbrev pub fault_of_maps : Option (List Literal) → List (ℕ × Image) → Option TextKind
fault_of_maps None parts = option_map (λ v. Twice) (twice_of parts)
fault_of_maps (Some ms) parts = if is_odd ms then Some OddMap else option_map (λ v. Twice) (twice_of parts)

abbrev pub fault_of_witness : Literal → Option (List Literal) → Option TextKind
fault_of_witness p None = None
fault_of_witness p (Some w) = fault_of_maps (after p w) (parts_of p (before p w) (maps_of (after p w)))

abbrev pub fault_of_literals : List Literal → Option TextKind
fault_of_literals [] = None
fault_of_literals (p ∷ rest) = fault_of_witness p (after p rest)
