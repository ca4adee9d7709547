-- Lemmas on groups by the numbers of their clauses.
use Rattle.std.proofs.Common.{◌≡◌, ◌≢◌, ℕ, suc, zero, ◌+◌, ◌<◌, ◌≤◌, ◌==◌, true, false, cond, ◌||◌, List, [], ◌∷◌, ◌++◌, length, get_or, take, refl, sym, ◌∙◌, ap, arith}
use Rattle.std.specs.Prelude.{is_some}
use Rattle.std.proofs.lemmas.List.{take_more, length-take-le, map-append}
use Rattle.std.proofs.lemmas.Bool.Decides.{nat_tests}
use Rattle.sr_model.specs.Assignment.{holds_number}
use Rattle.sr_model.specs.Chain.{Numbered, clause_of}
use Rattle.sr_model.specs.Meeting.{Group, group_of}
use Rattle.sr_table.specs.Pages.{Paged, entry}
use Rattle.sr_check.specs.Indexing.{numbers, place_from, IsWithin, IsIndex, Notes}
use Rattle.sr_table.proofs.Paging.{by_eq}
use Rattle.sr_table.proofs.Paging.{by_test}
use Rattle.sr_table.proofs.Numbering.{holds_push}

pub place_none : (k : ℕ) (gs : List Group) (n : ℕ) → holds_number n (numbers gs) ≡ false → place_from k gs n ≡ 0
place_none k [] n h = refl
place_none k (g ∷ gs) n h = by_test (g.0 == n)
    (λ t. let c : true ≡ false = rw t at h in absurd cc)
    (λ f. rw f (place_none (k + 1) gs n (rw f at h)))

pub place_some : (k : ℕ) (gs : List Group) (n : ℕ) → holds_number n (numbers gs) ≡ true → (k ≤ place_from k gs n) × (place_from k gs n < k + length gs)
place_some k [] n h = absurd cc
place_some k (g ∷ gs) n h = by_test (g.0 == n)
    (λ t. rw t (omega arith, omega arith))
    (λ f. rw f (let r = place_some (k + 1) gs n (rw f at h) in (omega (arith, r.0), omega (arith, r.1))))

pub place_push : (k : ℕ) (gs : List Group) (g : Group) (n : ℕ) → place_from k (gs ++ g ∷ []) n ≡ cond (holds_number n (numbers gs)) (place_from k gs n) (cond (g.0 == n) (k + length gs) 0)
place_push k [] g n = by_test (g.0 == n) (λ t. rw t (omega arith)) (λ f. rw f refl)
place_push k (h ∷ gs) g n = by_test (h.0 == n)
    (λ t. rw t refl)
    (λ f. rw f (place_push (k + 1) gs g n ∙ ap (λ m. cond (holds_number n (numbers gs)) (place_from (k + 1) gs n) (cond (g.0 == n) m 0)) (omega arith)))

-- the first group of a number
pub group_none : (k : ℕ) (gs : List Group) (n : ℕ) → 0 < k → place_from k gs n ≡ 0 → group_of gs n ≡ []
group_none k [] n h e = refl
group_none k (g ∷ gs) n h e = by_test (g.0 == n)
    (λ t. let z : k ≡ 0 = rw t at e in absurd (omega arith))
    (λ f. rw f (group_none (k + 1) gs n (omega arith) (rw f at e)))

pub record IsPlace (k : ℕ) (gs : List Group) (n p : ℕ) : Type 0 where
  pub place : ℕ
  pub is : p ≡ k + place
  pub within : place < length gs
  pub hints : (d : Group) → (get_or gs place d).1 ≡ group_of gs n

pub group_some : (k : ℕ) (gs : List Group) (n p : ℕ) → place_from k gs n ≡ p → p ≢ 0 → IsPlace k gs n p
group_some k [] n p e h = absurd (h (sym e))
group_some k (g ∷ gs) n p e h = by_test (g.0 == n)
    (λ t. let s : k ≡ p = rw t at e in record { place = 0; is = omega arith; within = omega arith; hints = λ d. rw t refl })
    (λ f. let r = group_some (k + 1) gs n p (rw f at e) h in record { place = suc r.place; is = omega (arith, r.is); within = omega (arith, r.within); hints = λ d. rw f (r.hints d) })

-- the groups so far, and one more
pub numbers_more : (gs : List Group) (i : ℕ) (g : Group) → i < length gs → g ≡ get_or gs i g → numbers (take (i + 1) gs) ≡ numbers (take i gs) ++ g.0 ∷ []
numbers_more gs i g h e = ap numbers (take_more gs i g h ∙ ap (λ x. take i gs ++ x ∷ []) (sym e)) ∙ map-append (λ (x : Group). x.0) (take i gs) (g ∷ [])

pub holds_take : (gs : List Group) (i n : ℕ) → holds_number n (numbers gs) ≡ false → holds_number n (numbers (take i gs)) ≡ false
holds_take gs zero n h = refl
holds_take [] (suc i) n h = refl
holds_take (g ∷ gs) (suc i) n h = by_test (g.0 == n)
    (λ t. let c : true ≡ false = rw t at h in absurd cc)
    (λ f. rw f (holds_take gs i n (rw f at h)))

pub within_more : (live : Numbered) (old new : Paged) (gs : List Group) (i place : ℕ) (g : Group) → i < length gs → g ≡ get_or gs i g → Notes live old new g.0 place → IsWithin old (take i gs) → IsWithin new (take (i + 1) gs)
within_more live old new gs i place g h e notes w n out =
    let split : holds_number n (numbers (take (i + 1) gs)) ≡ (holds_number n (numbers (take i gs)) || (g.0 == n)) = ap (holds_number n) (numbers_more gs i g h e) ∙ holds_push n g.0 (numbers (take i gs)) in
    let before : holds_number n (numbers (take i gs)) ≡ false = grind (arith, split, out) in
    let other : (g.0 == n) ≡ false = grind (arith, split, out) in
    notes n ∙ rw other (w n before)

pub index_more : (live : Numbered) (old new : Paged) (gs : List Group) (i place : ℕ) (g : Group) → i < length gs → g ≡ get_or gs i g → place ≡ i + 1 → Notes live old new g.0 place → IsIndex old live (take i gs) → IsIndex new live (take (i + 1) gs)
index_more live old new gs i place g h e p notes ix n l =
    let long : length (take i gs) ≡ i = length-take-le i gs (omega arith) in
    let split : place_from 1 (take (i + 1) gs) n ≡ cond (holds_number n (numbers (take i gs))) (place_from 1 (take i gs) n) (cond (g.0 == n) (1 + length (take i gs)) 0) =
    ap (λ x. place_from 1 x n) (take_more gs i g h ∙ ap (λ x. take i gs ++ x ∷ []) (sym e)) ∙ place_push 1 (take i gs) g n in
    by_eq g.0 n
    (λ same. here same long (split ∙ (let t : (g.0 == n) ≡ true = grind (arith, nat_tests) in rw t refl)))
    (λ other. let f : (g.0 == n) ≡ false = grind (arith, nat_tests) in
    let kept : entry new n ≡ entry old n = notes n ∙ rw f refl in
    let rest : place_from 1 (take (i + 1) gs) n ≡ place_from 1 (take i gs) n = split ∙ rw f (by_test (holds_number n (numbers (take i gs))) (λ t. rw t refl) (λ f. rw f (sym (place_none 1 (take i gs) n f)))) in
    kept ∙ ix n l ∙ sym rest)
  where
    here : g.0 ≡ n → length (take i gs) ≡ i → place_from 1 (take (i + 1) gs) n ≡ cond (holds_number n (numbers (take i gs))) (place_from 1 (take i gs) n) (1 + length (take i gs)) → entry new n ≡ place_from 1 (take (i + 1) gs) n
    here same long split =
        let t : (g.0 == n) ≡ true = grind (arith, nat_tests) in
        let lg : is_some (clause_of live g.0) ≡ true = rw same l in
        let old_is : entry old g.0 ≡ place_from 1 (take i gs) n = ap (entry old) same ∙ ix n l in
        by_test (holds_number n (numbers (take i gs)))
        (λ held. let some : (entry old g.0 == 0) ≡ false = let r = place_some 1 (take i gs) n held in grind (arith, nat_tests, r.0, old_is) in
        let kept : entry new n ≡ entry old n = notes n ∙ rw (t, lg, some) refl in
        let rest : place_from 1 (take (i + 1) gs) n ≡ place_from 1 (take i gs) n = split ∙ rw held refl in
        kept ∙ ix n l ∙ sym rest)
        (λ free. let none : (entry old g.0 == 0) ≡ true = let z = place_none 1 (take i gs) n free in grind (arith, nat_tests, z, old_is) in
        let led : entry new n ≡ place = notes n ∙ rw (t, lg, none) refl in
        let rest : place_from 1 (take (i + 1) gs) n ≡ 1 + length (take i gs) = split ∙ rw free refl in
        omega (arith, led, rest, p))
