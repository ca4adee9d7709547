-- Parts of a witness.
use Rattle.std.proofs.Common.{◌≡◌, ◌≢◌, ◌==◌, ◌<◌, ◌≤◌, ◌+◌, ◌-◌, drop, inl, inr, ℕ, Bool, true, false, cond, Option, Some, None, List, [], ◌∷◌, map, length, get_or, refl, sym, ap, ◌∙◌, arith}
use Rattle.std.proofs.lemmas.Bool.Decides.{nat_tests}
use Rattle.std.specs.Prelude.{All, Contains}
use Rattle.std.specs.Ordering.{nat_cmp, ordering_index}
use Rattle.std.specs.declared.cmp.Ordering.TheVariants.{Less, Equal, Greater}
use Rattle.std.specs.BTreeMap.{is_at}
use Rattle.std.specs.List.{HoldsAt}
use Rattle.std.specs.List.Sorted.{IsNonDecreasingBy, IsPartitionPoint}
use Rattle.std.proofs.lemmas.Bool.{cases_lt}
use Rattle.std.proofs.lemmas.Cmp.{ranked}
use Rattle.std.proofs.lemmas.List.{drop_more, get_or_default}
use Rattle.std.proofs.lemmas.List.Elements.{All-cons, All-head, All-tail, All-nil}
use Rattle.sr_base.specs.Literal.{Literal, plus, has}
use Rattle.sr_base.proofs.Literals.{same_tells}
use Rattle.sr_model.specs.Substitution.{image_of_variable}
use Rattle.sr_model.specs.Witnesses.{same_image, clashes, twice_of}
use Rattle.sr_model.specs.declared.images.Image.{Image}
use Rattle.sr_model.specs.declared.images.Image.TheVariants.{Yes, No, To}
use Rattle.sr_wit.specs.Signs.{differs}

-- a set holds the variables of these maps
abbrev pub AreVariablesOf : (ℕ → Bool) → List (Literal × Literal) → Type 0
AreVariablesOf seen maps = (v : ℕ) → seen v ≡ has (plus v) (map (λ m. m.0) maps)

-- of parts, the first image of a variable, and whether they give it another one too
abbrev pub summary : List (ℕ × Image) → ℕ → Option (Image × Bool)
summary [] v = None
summary (p ∷ ps) v = cond (p.0 == v) (Some (p.1, differs p.1 (summary ps v))) (summary ps v)

pub same_image_is : (a b : Image) → same_image a b ≡ true → a ≡ b
same_image_is Yes Yes h = refl
same_image_is Yes No h = cc
same_image_is Yes (To l) h = cc
same_image_is No Yes h = cc
same_image_is No No h = refl
same_image_is No (To l) h = cc
same_image_is (To k) Yes h = cc
same_image_is (To k) No h = cc
same_image_is (To k) (To l) h = grind (arith, same_tells k l)

pub clashes-summary : (v : ℕ) (image : Image) (ps : List (ℕ × Image)) → clashes (v, image) ps ≡ differs image (summary ps v)
clashes-summary v image [] = refl
clashes-summary v image (q ∷ qs) = grind (arith, nat_tests, clashes-summary v image qs, same_image_is image q.1)

-- where no part gives another image, each tells the image of its variable
unclashed : (p : ℕ × Image) (ps : List (ℕ × Image)) → clashes p ps ≡ false → All (λ q. p.0 ≡ q.0 → p.1 ≡ q.1) ps
unclashed p [] h = All-nil (λ q. p.0 ≡ q.0 → p.1 ≡ q.1)
unclashed p (q ∷ qs) h = All-cons (λ q. p.0 ≡ q.0 → p.1 ≡ q.1) q qs
    (λ e. same_image_is p.1 q.1 (grind (arith, nat_tests)))
    (unclashed p qs (grind (arith, nat_tests)))

image_at : (p : ℕ × Image) (ps : List (ℕ × Image)) (q : ℕ × Image) → (p.0 ≡ q.0 → p.1 ≡ q.1) → image_of_variable ps q.0 ≡ q.1 → image_of_variable (p ∷ ps) q.0 ≡ q.1
image_at p ps q h e = grind (arith, nat_tests)

pub parts_tell : (ps : List (ℕ × Image)) → twice_of ps ≡ None → All (λ p. image_of_variable ps p.0 ≡ p.1) ps
parts_tell [] h = All-nil (λ p. image_of_variable [] p.0 ≡ p.1)
parts_tell (p ∷ ps) h =
    let none : clashes p ps ≡ false = grind (arith, nat_tests) in
    let rest : twice_of ps ≡ None = grind (arith, nat_tests) in
    All-cons (λ q. image_of_variable (p ∷ ps) q.0 ≡ q.1) p ps (grind (arith, nat_tests))
    (λ k d l. image_at p ps (get_or ps k d) (unclashed p ps none k d l) (parts_tell ps rest k d l))

pub image-none : (ps : List (ℕ × Image)) (v : ℕ) → All (λ p. p.0 ≢ v) ps → image_of_variable ps v ≡ To (plus v)
image-none [] v h = refl
image-none (p ∷ ps) v h =
    let other = All-head (λ p. p.0 ≢ v) p ps h in
    let rest = image-none ps v (All-tail (λ p. p.0 ≢ v) p ps h) in
    grind (arith, nat_tests)

-- what a search finds among parts in the order of their variables
pub found_part : (table : List (ℕ × Image)) (v i : ℕ) (d : ℕ × Image) → i < length table → HoldsAt (λ p. nat_cmp p.0 v ≡ Equal) table i → Contains table (v, (get_or table i d).1)
found_part table v i d l equal =
    let e : (get_or table i d).0 ≡ v = ranked (get_or table i d).0 v Equal (sym (equal d)) in
    let same : get_or table i (v, (get_or table i d).1) ≡ get_or table i d = get_or_default table i (v, (get_or table i d).1) d l in
    (i, l, same ∙ ap (λ w. (w, (get_or table i d).1)) e)

pub absent_part : (table : List (ℕ × Image)) (v i : ℕ) → IsNonDecreasingBy (λ p. p.0) table
    → (IsNonDecreasingBy (λ p. ordering_index (nat_cmp p.0 v)) table → IsPartitionPoint (λ p. nat_cmp p.0 v ≡ Less) (λ p. nat_cmp p.0 v ≡ Greater) table i)
    → All (λ p. p.0 ≢ v) table
absent_part table v i rises parted k d l =
    let cut = parted (λ a b x le lt. grind (arith, nat_tests, rises a b x le lt)) in
    elim (cases_lt k i) [
      | inl below ↦ λ e. let lower : (get_or table k d).0 < v = ranked (get_or table k d).0 v Less (sym (cut.0 k d (omega arith) below)) in omega arith
      | inr above ↦ λ e. let higher : v < (get_or table k d).0 = ranked (get_or table k d).0 v Greater (sym (cut.1 k d above l)) in omega arith
    ]

drop-before : {X : Type 0} (xs : List X) (i : ℕ) (x : X) → 0 < i → i ≤ length xs → x ≡ get_or xs (i - 1) x → drop (i - 1) xs ≡ x ∷ drop i xs
drop-before xs i x p l e =
    let back : i - 1 + 1 ≡ i = omega arith in
    drop_more xs (i - 1) x (omega arith) ∙ ap (λ y. y ∷ drop (i - 1 + 1) xs) (sym e) ∙ ap (λ n. x ∷ drop n xs) back

-- one more part in front
pub twice_of-before : (parts : List (ℕ × Image)) (i : ℕ) (p : ℕ × Image) (found found' : Option ℕ) (clash : Bool) → 0 < i → i ≤ length parts → p ≡ get_or parts (i - 1) p
    → found ≡ twice_of (drop i parts) → clash ≡ differs p.1 (summary (drop i parts) p.0) → (clash ≡ true → found' ≡ Some p.0) → (clash ≡ false → found' ≡ found)
    → found' ≡ twice_of (drop (i - 1) parts)
twice_of-before parts i p found found' clash pos l e f c found_here kept =
    rw (drop-before parts i p pos l e) (grind (arith, clashes-summary p.0 p.1 (drop i parts)))

pub summary-before : (parts : List (ℕ × Image)) (i : ℕ) (p : ℕ × Image) (later later' : ℕ → Option (Image × Bool)) (clash : Bool) → 0 < i → i ≤ length parts → p ≡ get_or parts (i - 1) p
    → ((v : ℕ) → later v ≡ summary (drop i parts) v) → clash ≡ differs p.1 (summary (drop i parts) p.0)
    → ((q : ℕ) → later' q ≡ cond (is_at (nat_cmp p.0) q) (Some (p.1, clash)) (later q))
    → (v : ℕ) → later' v ≡ summary (drop (i - 1) parts) v
summary-before parts i p later later' clash pos l e told c u v =
    rw (drop-before parts i p pos l e) (grind (arith, nat_tests, u v, told v))
