-- A heap of numbers as a queue.
use Rattle.std.proofs.Common.{◌≡◌, ℕ, ◌-◌, ◌<◌, ◌≤◌, ◌==◌, Bool, true, false, ◌||◌, List, [], ◌∷◌, refl, sym, ◌∙◌, ap, subst, arith}
use Rattle.std.specs.Prelude.{All, Option, Some, None, IfSome, IfNone, slice_index_or}
use Rattle.std.specs.List.{list_any}
use Rattle.std.specs.List.Sorted.{IsPermutation}
use Rattle.std.specs.Ordering.{nat_cmp}
use Rattle.std.specs.BinaryHeap.{IsUpperBound, IsHeap, PopsGreatest}
use Rattle.std.proofs.lemmas.Bool.Decides.{nat_tests}
use Rattle.std.proofs.lemmas.List.Elements.{All-tail}
use Rattle.std.proofs.lemmas.List.Sorted.{list_any-IsPermutation, le_from_greatest}
use Rattle.sr_model.specs.Assignment.{holds_number}
use Rattle.sr_model.proofs.Soundness.{by_test}
use Rattle.sr_back.specs.Queued.{Puts, AreAbove, from_top}

-- whether an item stands for a number
abbrev pub is_for : ℕ → ℕ → Bool
is_for n k = (4294967295 - k) == n

pub holds_as : (n : ℕ) (ks : List ℕ) → holds_number n (from_top ks) ≡ list_any (is_for n) ks
holds_as n [] = refl
holds_as n (k ∷ ks) = ap (λ b. (4294967295 - k) == n || b) (holds_as n ks)

pub put_from : (x id : ℕ) (old new : List ℕ) → 4294967295 - x ≡ id → IsPermutation (x ∷ old) new → Puts (from_top old) (from_top new) id
put_from x id old new e p n =
    holds_as n new ∙ sym (list_any-IsPermutation (is_for n) (x ∷ old) new p) ∙ ap (λ k. (k == n) || list_any (is_for n) old) e ∙ ap (λ b. (id == n) || b) (sym (holds_as n old))

-- what was taken, and then its copies
pub taken_from : (x : ℕ) (old mid new : List ℕ) → IsPermutation old (x ∷ mid) → ((p : ℕ → Bool) → list_any p (x ∷ new) ≡ list_any p (x ∷ mid)) → Puts (from_top new) (from_top old) (4294967295 - x)
taken_from x old mid new p s n =
    holds_as n old ∙ list_any-IsPermutation (is_for n) old (x ∷ mid) p ∙ sym (s (is_for n)) ∙ ap (λ b. ((4294967295 - x) == n) || b) (sym (holds_as n new))

pub above_from : (x : ℕ) (ks : List ℕ) → x ≤ 4294967295 → All (λ k. k < x) ks → AreAbove (4294967295 - x) (from_top ks)
above_from x [] le a m h = absurd cc
above_from x (k ∷ ks) le a m h = by_test ((4294967295 - k) == m)
    (λ e. let is : 4294967295 - k ≡ m = grind (arith, nat_tests) in let lt : k < x = a 0 k (omega arith) in omega arith)
    (λ e. above_from x ks le (All-tail (λ j. j < x) k ks a) m (grind arith))

-- all are below where the greatest is another one
pub all_below : (x y : ℕ) (ks : List ℕ) → y < x → IsUpperBound nat_cmp y ks → All (λ k. k < x) ks
all_below x y ks lt u i k h = omega (arith, le_from_greatest y ks u i k h)

not_empty : (x : ℕ) (new : List ℕ) → IsPermutation [] (x ∷ new) → ⊥
not_empty x new p = let e : false ≡ true = list_any-IsPermutation (λ k. true) [] (x ∷ new) p in absurd cc

-- what is taken is the first item
first_is : (x y : ℕ) (old new : List ℕ) → IsPermutation old (x ∷ new) → x ≡ slice_index_or old 0 x → y ≡ slice_index_or old 0 y → x ≡ y
first_is x y [] new p e g = absurd (not_empty x new p)
first_is x y (k ∷ ks) new p e g = e ∙ sym g

-- one copy less
pub record IsDropped (top : ℕ) (old new : List ℕ) : Type 0 where
  pub most : IsUpperBound nat_cmp top new
  pub stays : (p : ℕ → Bool) → list_any p (top ∷ new) ≡ list_any p (top ∷ old)

pub dropped_some : (top x : ℕ) (old new : List ℕ) → IsPermutation old (x ∷ new) → x ≡ slice_index_or old 0 x → top ≡ slice_index_or old 0 top → IsUpperBound nat_cmp x new → IsDropped top old new
dropped_some top x old new p e g u =
    let is : x ≡ top = first_is x top old new p e g in record {
      most = subst (λ k. IsUpperBound nat_cmp k new) is u;
      stays = λ q. (
          let s : list_any q old ≡ (q top || list_any q new) = list_any-IsPermutation q old (x ∷ new) p ∙ ap (λ k. q k || list_any q new) is in
          grind arith);
    }

pub dropped : (top : ℕ) (o : Option ℕ) (old new : List ℕ) → IfSome o (λ x. IsPermutation old (x ∷ new)) → IfSome o (λ x. x ≡ slice_index_or old 0 x) → top ≡ slice_index_or old 0 top → IfSome o (λ x. IsUpperBound nat_cmp x new)
    → IfNone o (new ≡ old) → IsUpperBound nat_cmp top old → IsDropped top old new
dropped top (Some x) old new p e g u n most = dropped_some top x old new p e g u
dropped top None old new p e g u n most = record { most = subst (IsUpperBound nat_cmp top) (sym n) most; stays = λ q. ap (λ ks. q top || list_any q ks) n }

pub stays_heap : (o : Option ℕ) (old new : List ℕ) → IfSome o (λ x. IsHeap nat_cmp new) → IfNone o (new ≡ old) → IsHeap nat_cmp old → IsHeap nat_cmp new
stays_heap (Some x) old new h n was = h
stays_heap None old new h n was = subst (IsHeap nat_cmp) (sym n) was

pub bound_of : (o : Option ℕ) (old new : List ℕ) → IsHeap nat_cmp old → IfSome o (λ x. IsHeap nat_cmp old → IsUpperBound nat_cmp x new) → IfSome o (λ x. IsUpperBound nat_cmp x new)
bound_of (Some x) old new h f = f h
bound_of None old new h f = tt

pub heap_of : (o : Option ℕ) (old new : List ℕ) → IsHeap nat_cmp old → IfSome o (λ x. PopsGreatest nat_cmp old x new) → IfSome o (λ x. IsHeap nat_cmp new)
heap_of (Some x) old new h f = (f h).0
heap_of None old new h f = tt

pub same_of : (o : Option ℕ) (old new : List ℕ) (L : Type 0) → IfNone o ((new ≡ old) × L) → IfNone o (new ≡ old)
same_of (Some x) old new l f = tt
same_of None old new l f = f.0
