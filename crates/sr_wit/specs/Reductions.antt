-- What the answers on a clause under a substitution stand for.
use Rattle.std.specs.Prelude.{ℕ, ◌≡◌, ◌+◌, ◌%◌, ◌==◌, ◌&&◌, Bool, true, false, List, []}
use Rattle.std.specs.List.{list_any}
use Rattle.std.specs.List.Sorted.{IsStrictlyIncreasing}
use Rattle.sr_base.specs.Literal.{Literal, NoRepeats, distinct}
use Rattle.sr_model.specs.Substitution.{Substitution, Reduction, untouched, satisfied, left, image, is_yes, is_touched, is_satisfied, image_literals, has_pair}
use Rattle.sr_wit.specs.declared.reduce.Reduced.{Reduced}
use Rattle.sr_wit.specs.declared.reduce.Reduced.TheVariants.{Untouched, Satisfied, Left}
use Rattle.sr_wit.specs.declared.reduce.Likeness.{Likeness}
use Rattle.sr_wit.specs.declared.reduce.Likeness.TheVariants.{Apart, Repeated, Paired}

abbrev pub reduced_of : Reduced → List Literal → Reduction
reduced_of Untouched d = untouched
reduced_of Satisfied d = satisfied
reduced_of Left d = left d

-- only a clause that is left has literals beside it
abbrev pub HasNoneBeside : Reduced → List Literal → Type 0
HasNoneBeside Untouched d = d ≡ []
HasNoneBeside Satisfied d = d ≡ []
HasNoneBeside Left d = Unit {0}

-- what the images of the literals tell
abbrev pub HasMet : Substitution → List Literal → Reduced → List Literal → Type 0
HasMet s d Untouched out = is_touched s d ≡ false
HasMet s d Satisfied out = (is_touched s d ≡ true) × (is_satisfied s d ≡ true)
HasMet s d Left out = (is_touched s d ≡ true) × (list_any (λ l. is_yes (image s l)) d ≡ false) × (out ≡ image_literals s d)

-- what is left of images
abbrev pub HasStripped : List Literal → Reduced → List Literal → Type 0
HasStripped images Untouched out = ⊥
HasStripped images Satisfied out = has_pair images ≡ true
HasStripped images Left out = (has_pair images ≡ false) × (out ≡ distinct images)

abbrev pub IsLikeness : Likeness → List Literal → Type 0
IsLikeness Apart ls = (has_pair ls ≡ false) × NoRepeats ls
IsLikeness Repeated ls = has_pair ls ≡ false
IsLikeness Paired ls = has_pair ls ≡ true

-- whether there is an even number and the next one
abbrev pub has_code_pair : List ℕ → Bool
has_code_pair cs = list_any (λ c. c % 2 == 0 && list_any (λ d. d == c + 1) cs) cs

abbrev pub IsLikenessOfCodes : Likeness → List ℕ → Type 0
IsLikenessOfCodes Apart cs = (has_code_pair cs ≡ false) × IsStrictlyIncreasing cs
IsLikenessOfCodes Repeated cs = has_code_pair cs ≡ false
IsLikenessOfCodes Paired cs = has_code_pair cs ≡ true
