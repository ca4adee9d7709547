-- Substitutions, and what they make of clauses (Buss and Thapen 2019; Codel, Avigad and Heule 2024).
use Rattle.std.specs.Prelude.{ℕ, Bool, true, false, not, ◌||◌, ◌==◌, ◌≡◌, cond, List, [], ◌∷◌, ◌++◌, map, filter_map, Option, Some, None}
use Rattle.std.specs.List.{list_any}
use Rattle.sr_base.specs.Literal.{Literal, plus, minus, complement, same, has, distinct}
use Rattle.sr_model.specs.declared.images.Image.{Image}
use Rattle.sr_model.specs.declared.images.Image.TheVariants.{Yes, No, To}

-- images of variables, the first for each; a variable that isn't listed keeps itself
abbrev pub Substitution : Type 0
Substitution = List (ℕ × Image)

abbrev pub image_of_variable : Substitution → ℕ → Image
image_of_variable [] v = To (plus v)
image_of_variable (p ∷ ps) v = cond (p.0 == v) p.1 (image_of_variable ps v)

abbrev pub opposite : Image → Image
opposite Yes = No
opposite No = Yes
opposite (To l) = To (complement l)

-- the image of a complement is the opposite of the image
abbrev pub image : Substitution → Literal → Image
image s (plus v) = image_of_variable s v
image s (minus v) = opposite (image_of_variable s v)

-- whether a literal is its own image
abbrev pub is_image : Image → Literal → Bool
is_image Yes l = false
is_image No l = false
is_image (To k) l = same k l

abbrev pub is_yes : Image → Bool
is_yes Yes = true
is_yes No = false
is_yes (To k) = false

abbrev pub literal_of_image : Image → Option Literal
literal_of_image Yes = None
literal_of_image No = None
literal_of_image (To k) = Some k

-- the images that are literals
abbrev pub image_literals : Substitution → List Literal → List Literal
image_literals s d = filter_map (λ l. literal_of_image (image s l)) d

-- whether the complement of a literal of the first list is in the second
abbrev pub has_complement : List Literal → List Literal → Bool
has_complement ls b = list_any (λ l. has (complement l) b) ls

-- whether a list holds a literal and its complement
abbrev pub has_pair : List Literal → Bool
has_pair a = has_complement a a

-- what a substitution makes of a clause: nothing else, a clause that is true, or the images that aren't false
pub data Reduction : Type 0 where
  untouched : Reduction
  satisfied : Reduction
  left : List Literal → Reduction

-- the image of one of the literals differs from it
abbrev pub is_touched : Substitution → List Literal → Bool
is_touched s d = list_any (λ l. not (is_image (image s l) l)) d

-- an image is true, or two images are complements
abbrev pub is_satisfied : Substitution → List Literal → Bool
is_satisfied s d = list_any (λ l. is_yes (image s l)) d || has_pair (image_literals s d)

abbrev pub reduction : Substitution → List Literal → Reduction
reduction s d = cond (is_touched s d) (cond (is_satisfied s d) satisfied (left (distinct (image_literals s d)))) untouched

-- A witness as a proof writes it: the pivot and the other literals that become true, and pairs of a literal and its image.
pub record Witness : Type 0 where
  pub pivot : Literal
  pub assigned : List Literal
  pub maps : List (Literal × Literal)

-- the part that makes a literal true
abbrev pub made_true : Literal → ℕ × Image
made_true (plus v) = (v, Yes)
made_true (minus v) = (v, No)

-- the part that sends a literal to another; for a complement, the variable gets the complement of the image
abbrev pub sent : Literal × Literal → ℕ × Image
sent (plus v, w) = (v, To w)
sent (minus v, w) = (v, To (complement w))

abbrev pub substitution : Witness → Substitution
substitution w = made_true w.pivot ∷ (map made_true w.assigned ++ map sent w.maps)

-- the witness of a step that has none: its one effect is to make the clause's first literal true
abbrev pub pivot_true : List Literal → Substitution
pivot_true [] = []
pivot_true (l ∷ ls) = made_true l ∷ []

abbrev pub substitution_for : List Literal → Option Witness → Substitution
substitution_for c None = pivot_true c
substitution_for c (Some w) = substitution w

-- the witness makes the clause's first literal true
abbrev pub IsPivot : Literal → List Literal → Type 0
IsPivot p [] = ⊥
IsPivot p (l ∷ ls) = p ≡ l
