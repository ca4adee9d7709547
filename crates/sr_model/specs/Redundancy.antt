-- Clauses that may be added: by reverse unit propagation, and by substitution redundancy (Buss and Thapen 2019).
use Rattle.std.specs.Prelude.{ℕ, Bool, true, false, ◌≡◌, map, List, [], ◌∷◌, ◌++◌, filter}
use Rattle.sr_base.specs.Literal.{Literal, compl}
use Rattle.sr_model.specs.Assignment.{makes_true}
use Rattle.sr_model.specs.Refutation.{Refutes}
use Rattle.sr_model.specs.Substitution.{Substitution, image_of_variable, image, Reduction, untouched, satisfied, left, reduction}
use Rattle.sr_model.specs.declared.images.Image.{Image}
use Rattle.sr_model.specs.declared.images.Image.TheVariants.{Yes, No, To}

-- the clauses refute the complements of the clause's literals
abbrev pub Rup : List (List Literal) → List Literal → Type 0
Rup s c = Refutes s (compl c)

-- the substitution makes the clause's first literal true
abbrev pub MakesFirstTrue : Substitution → List Literal → Type 0
MakesFirstTrue w [] = ⊥
MakesFirstTrue w (l ∷ ls) = image w l ≡ Yes

abbrev pub IsRefutedLeft : List (List Literal) → List Literal → Reduction → Type 0
IsRefutedLeft s c untouched = Unit {0}
IsRefutedLeft s c satisfied = Unit {0}
IsRefutedLeft s c (left d) = Refutes s (compl c ++ compl d)

-- each clause that is touched and not satisfied is refuted, with the complements of what is left of it
abbrev pub AreRefuted : List (List Literal) → List (List Literal) → List Literal → Substitution → Type 0
AreRefuted s [] c w = Unit {0}
AreRefuted s (d ∷ ds) c w = IsRefutedLeft s c (reduction w d) × AreRefuted s ds c w

-- the clause is substitution redundant over the clauses `s`, where those to be refuted are `m`
abbrev pub Sr : List (List Literal) → List (List Literal) → List Literal → Substitution → Type 0
Sr s m c w = MakesFirstTrue w c × AreRefuted s m c w

-- whether an image is true under an assignment
abbrev pub image_true : List ℕ → Image → Bool
image_true t Yes = true
image_true t No = false
image_true t (To l) = makes_true t l

abbrev pub listed : Substitution → List ℕ
listed w = map (λ p. p.0) w

-- the assignment that gives each variable the value of its image
abbrev pub moved : Substitution → List ℕ → List ℕ
moved w t = filter (λ v. image_true t (image_of_variable w v)) (listed w ++ t)
