-- Marks that come and go.
use Rattle.std.proofs.Common.{◌≡◌, ◌<◌, ◌≤◌, ◌+◌, ℕ, suc, zero, Bool, true, false, cond, ◌||◌, List, [], ◌∷◌, ◌++◌, refl, sym, ◌∙◌, ap, arith, length, get_or, set, take, drop, replicate}
use Rattle.std.proofs.lemmas.List.{take_more}
use Rattle.sr_base.specs.Literal.{Literal, plus, minus, variable, complement, same, has, literal_code}
use Rattle.sr_base.proofs.Literals.{same_tells, has_append, complement_twice}
use Rattle.sr_model.proofs.Soundness.{by_test}
use Rattle.sr_model.proofs.Saturation.{has_at}
use Rattle.sr_watch.specs.State.{State, lits_at, AreWithin}
use Rattle.sr_watch.specs.Lean.{stands_in}
use Rattle.sr_watch.specs.Trail.{table_size}
use Rattle.sr_watch.specs.Marks.{marked, AreClear, AreMarked, AreMarkedAtMost}
use Rattle.sr_arena.specs.Cells.{Memory, cell_at}
use Rattle.sr_arena.specs.Cells as arena
use Rattle.sr_watch.specs.State.{Slot, IsAttached, IsSound}
use Rattle.sr_watch.specs.Trail.{Entries}
use Rattle.sr_watch.specs.Marks.{joined}
use Rattle.sr_watch.proofs.Slots.{slot_is}
use Rattle.sr_watch.proofs.Tables.{code_within, marks_at}
use Rattle.sr_watch.proofs.Leaning.{stands_append, stands_step}

-- the clause's first literals, by their complements
pub record MarksFirst (old new : List Bool) (c : List Literal) (n : ℕ) (b : Bool) : Type 0 where
  pub size : length new ≡ length old
  pub marks : (l : Literal) → marked new l ≡ cond (has (complement l) (take n c)) b (marked old l)

pub variable_complement : (l : Literal) → variable (complement l) ≡ variable l
variable_complement (plus v) = refl
variable_complement (minus v) = refl

pub complement_within : (c : List Literal) (i : ℕ) (k : Literal) (v : ℕ) → i < length c → k ≡ get_or c i k → AreWithin v c → 0 < variable k → literal_code (complement k) < table_size v
complement_within c i k v lt e w pos = code_within (complement k) v (omega (arith, variable_complement k)) (omega (arith, variable_complement k, w k (has_at c i k lt e)))

same_complement : (k l : Literal) → same (complement k) l ≡ same k (complement l)
same_complement k l = grind (arith, same_tells (complement k) l, same_tells k (complement l), complement_twice k, complement_twice l)

pub marks_more : (old t : List Bool) (c : List Literal) (i : ℕ) (k : Literal) (b : Bool) → i < length c → k ≡ get_or c i k → literal_code (complement k) < length t → MarksFirst old t c i b → MarksFirst old (set t (literal_code (complement k)) b) c (i + 1) b
marks_more old t c i k b lt e within m = record {
  size = length_set t (literal_code (complement k)) b ∙ m.size;
  marks = λ l.
      let more : take (i + 1) c ≡ take i c ++ k ∷ [] = take_more c i k lt ∙ ap (λ x. take i c ++ x ∷ []) (sym e) in
      let h : has (complement l) (take (i + 1) c) ≡ (has (complement l) (take i c) || (same k (complement l) || false)) = ap (has (complement l)) more ∙ has_append (complement l) (take i c) (k ∷ []) in
      let g : marked (set t (literal_code (complement k)) b) l ≡ cond (same (complement k) l) b (marked t l) = marks_at t (complement k) l b within in
      g ∙ by_test (same k (complement l))
      (λ s. let s' : same (complement k) l ≡ true = same_complement k l ∙ s in let h' : has (complement l) (take (i + 1) c) ≡ true = h ∙ rw s (by_test (has (complement l) (take i c)) (λ u. rw u refl) (λ u. rw u refl)) in rw (s', h') refl)
      (λ s. let s' : same (complement k) l ≡ false = same_complement k l ∙ s in let h' : has (complement l) (take (i + 1) c) ≡ has (complement l) (take i c) = h ∙ rw s (by_test (has (complement l) (take i c)) (λ u. rw u refl) (λ u. rw u refl)) in rw (s', h') (m.marks l));
}
  where
    length_set : (t : List Bool) (i : ℕ) (x : Bool) → length (set t i x) ≡ length t
    length_set [] i x = refl
    length_set (y ∷ t) zero x = refl
    length_set (y ∷ t) (suc i) x = ap suc (length_set t i x)

-- a clause more stands in the chain
pub marked_push : (s : State) (hs : List ℕ) (r : ℕ) (t u : List Bool) → AreMarked s hs t → ((l : Literal) → marked u l ≡ cond (has (complement l) (lits_at s r)) true (marked t l)) → AreMarked s (hs ++ r ∷ []) u
marked_push s hs r t u m f l =
    f l ∙ sym (stands_append s (complement l) hs (r ∷ []) ∙ by_test (has (complement l) (lits_at s r))
    (λ h. rw h (by_test (stands_in s (complement l) hs) (λ y. rw y refl) (λ y. rw y refl)))
    (λ h. rw h (by_test (stands_in s (complement l) hs) (λ y. rw (m l, y) refl) (λ y. rw (m l, y) refl))))

pub marked_none : (s : State) (t : List Bool) → AreClear t → AreMarked s [] t
marked_none s t c l = c l

pub at_most : (s : State) (hs : List ℕ) (t : List Bool) → AreMarked s hs t → AreMarkedAtMost s hs t
at_most s hs t m l h = sym (m l) ∙ h

-- a clause less
pub unmarked_step : (s : State) (hs : List ℕ) (i h : ℕ) (t u : List Bool) → i < length hs → h ≡ get_or hs i h → AreMarkedAtMost s (drop i hs) t → ((l : Literal) → marked u l ≡ cond (has (complement l) (lits_at s h)) false (marked t l)) → AreMarkedAtMost s (drop (i + 1) hs) u
unmarked_step s hs i h t u lt e m f l y = by_test (has (complement l) (lits_at s h))
    (λ z. let n : marked u l ≡ false = f l ∙ rw z refl in absurd cc)
    (λ z. let o : marked t l ≡ true = (let w : marked u l ≡ marked t l = f l ∙ rw z refl in sym w ∙ y) in
    let g : stands_in s (complement l) (drop i hs) ≡ true = m l o in
    let step = stands_step s (complement l) hs i h lt e in
    let q : stands_in s (complement l) (drop i hs) ≡ stands_in s (complement l) (drop (i + 1) hs) = step ∙ rw z refl in
    sym q ∙ g)

pub cleared : (s : State) (t : List Bool) → AreMarkedAtMost s [] t → AreClear t
cleared s t m l = by_test (marked t l) (λ y. let n : false ≡ true = m l y in absurd cc) (λ y. y)

-- longer tables mark nothing more
pub clear_more : (t : List Bool) (n : ℕ) → AreClear t → AreClear (t ++ replicate n false)
clear_more t n c l = same_at t n (literal_code l) ∙ c l
  where
    same_at : (xs : List Bool) (n i : ℕ) → get_or (xs ++ replicate n false) i false ≡ get_or xs i false
    same_at [] zero i = refl
    same_at [] (suc n) zero = refl
    same_at [] (suc n) (suc i) = same_at [] n i
    same_at (x ∷ xs) n zero = refl
    same_at (x ∷ xs) n (suc i) = same_at xs n i

-- a clause of the memory
pub cell_lits : (e : Entries) (m : Memory) (r : ℕ) → (cell_at m r).lits ≡ lits_at (joined e m) r
cell_lits e m r = sym (ap (λ (c : Slot). c.lits) (slot_is m r))

pub attached_held : (e : Entries) (m : Memory) (r : ℕ) → IsSound (joined e m) → IsAttached (joined e m) r → arena.IsHeld m r
attached_held e m r sound h = sym (ap (λ (c : Slot). c.held) (slot_is m r)) ∙ sound.held r h

pub drop_all : (xs : List ℕ) (n : ℕ) → length xs ≤ n → drop n xs ≡ []
drop_all [] zero le = refl
drop_all [] (suc n) le = refl
drop_all (x ∷ xs) zero le = absurd (omega arith)
drop_all (x ∷ xs) (suc n) le = drop_all xs n (omega arith)
