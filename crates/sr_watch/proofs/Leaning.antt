-- A chain is collected from its end; at each place it is lean from each set that has what it stands on.
use Rattle.std.proofs.Common.{◌≡◌, ◌≢◌, ◌<◌, ◌≤◌, ◌+◌, ◌⊎◌, inl, inr, ℕ, suc, zero, Bool, true, false, ◌||◌, ◌&&◌, List, [], ◌∷◌, ◌++◌, refl, sym, ◌∙◌, ap, subst, arith, add-one, length, get_or, take, drop, reverse}
use Rattle.std.proofs.Common.{take_all}
use Rattle.sr_watch.specs.declared.parts.Found.{Found}
use Rattle.sr_watch.specs.declared.parts.Found.TheVariants.{Still, Conflict, Pair}
use Rattle.sr_watch.specs.Meaning.{IsAsked}
use Rattle.sr_watch.specs.Running.{asked_clause}
use Rattle.sr_model.proofs.Chains.{pair_from}
use Rattle.sr_watch.proofs.Entries.{by_eq}
use Rattle.std.proofs.lemmas.List.{reverse-append}
use Rattle.sr_base.specs.Literal.{Literal, complement, same, has, NoRepeats}
use Rattle.sr_base.proofs.Literals.{same_tells, has_append, complement_twice}
use Rattle.sr_model.specs.Substitution.{has_pair}
use Rattle.sr_model.specs.Chain.{open_literals}
use Rattle.sr_model.proofs.Soundness.{by_test}
use Rattle.sr_watch.specs.State.{State, lits_at, lit_at, reason_at, assumed, IsAttached, AllFalse, IsSound}
use Rattle.sr_watch.specs.Lean.{stands_in, is_lean, AreReasonsOr, IsChain}
use Rattle.sr_watch.specs.Collecting.{IsBase, IsLeanAt, IsCollecting}
use Rattle.sr_watch.specs.Running.{NoClash, IsClash, IsEarly, ClosesAt, AreAttached, IsUsed, IsSpare}
use Rattle.sr_watch.proofs.Answering.{entry_assumed, taken_next, pair_push}

open_none_from : (a c : List Literal) → ((k : Literal) → has k c ≡ true → has (complement k) a ≡ true) → open_literals a c ≡ []
open_none_from a [] f = refl
open_none_from a (x ∷ c) f =
    let here : has (complement x) a ≡ true = f x (grind (arith, same_tells x x)) in
    rw here (open_none_from a c (λ k h. f k (grind arith)))

open_one_from : (a c : List Literal) (l : Literal) → NoRepeats c → has l c ≡ true → has (complement l) a ≡ false → ((k : Literal) → has k c ≡ true → k ≢ l → has (complement k) a ≡ true) → open_literals a c ≡ l ∷ []
open_one_from a [] l n h o f = absurd cc
open_one_from a (x ∷ c) l n h o f = by_test (same x l)
    (λ t. let is : x ≡ l = grind (arith, same_tells x l) in
    let here : has (complement x) a ≡ false = subst (λ j. has (complement j) a ≡ false) (sym is) o in
    let rest : open_literals a c ≡ [] = open_none_from a c (λ k m. f k (grind arith) (λ e. let q : has x c ≡ true = subst (λ j. has j c ≡ true) (e ∙ sym is) m in absurd (differ n.0 q))) in
    rw (here, rest) (ap (λ j. j ∷ []) is))
    (λ t. let ne : x ≢ l = grind (arith, same_tells x l) in
    let here : has (complement x) a ≡ true = f x (grind (arith, same_tells x x)) ne in
    rw here (open_one_from a c l n.1 (grind arith) o (λ k m. f k (grind arith))))
  where
    differ : {b : Bool} → b ≡ false → b ≡ true → ⊥
    differ f t = cc

-- the last clause closes
pub lean_last : (s : State) (at n : ℕ) → ClosesAt s at n → IsLeanAt s n (at ∷ [])
lean_last s at n c = record {
  lean = λ a b.
      let none : open_literals a (lits_at s at) ≡ [] = open_none_from a (lits_at s at) (λ k h. b.stands (complement k) (rw (complement_twice k) (grind arith)) (c.all_false k h)) in
      rw (b.no_pair, none) refl;
}

early_more : (s : State) (n : ℕ) (k : Literal) → n < length s.lits → IsEarly s n k → IsEarly s (suc n) k
early_more s n k lt (inl h) = inl h
early_more s n k lt (inr h) = inr (rw (taken_next s n lt) (grind (arith, has_append k (take n s.lits) (lit_at s n ∷ []))))

early_less : (s : State) (n : ℕ) (k : Literal) → n < length s.lits → IsEarly s (suc n) k → same (lit_at s n) k ≡ false → IsEarly s n k
early_less s n k lt (inl h) d = inl h
early_less s n k lt (inr h) d = inr (let g : has k (take n s.lits ++ lit_at s n ∷ []) ≡ true = subst (λ x. has k x ≡ true) (taken_next s n lt) h in grind (arith, has_append k (take n s.lits) (lit_at s n ∷ [])))

both : (a b : Bool) → a ≡ true → b ≡ true → (a && b) ≡ true
both a b h g = rw (h, g) refl

-- a used reason joins in front
pub lean_used : (s : State) (n : ℕ) (hs : List ℕ) (r : ℕ) → IsSound s → n < length s.lits → has (complement (lit_at s n)) (assumed s) ≡ false → IsUsed s n hs r → IsLeanAt s (suc n) hs → IsLeanAt s n (r ∷ hs)
lean_used s n hs r sound lt free u rest = record {
  lean = λ a b.
      let l : Literal = lit_at s n in
      let f = sound.forced n lt u.derived in
      let news = sound.news n lt u.derived in
      let not_early : (k : Literal) → has k (assumed s) ≡ false → has k (take n s.lits) ≡ false → has k a ≡ false = (λ k x y. by_test (has k a) (λ t. absurd (differs k x y (b.early k t))) (λ t. t)) in
      let not_true : has (lit_at s n) a ≡ false = not_early (lit_at s n) u.not_assumed news.not_true in
      let not_false : has (complement (lit_at s n)) a ≡ false = not_early (complement (lit_at s n)) free news.not_false in
      let one : open_literals a (lits_at s (reason_at s n)) ≡ lit_at s n ∷ [] = open_one_from a (lits_at s (reason_at s n)) (lit_at s n) (sound.distinct (reason_at s n)) f.of_clause not_false
      (λ k h ne. b.stands (complement k) (subst (λ j. stands_in s j (r ∷ hs) ≡ true) (sym (complement_twice k)) (stands_head k (subst (λ j. has k (lits_at s j) ≡ true) u.reason h))) (inr (f.others k h ne))) in
      let one' : open_literals a (lits_at s r) ≡ lit_at s n ∷ [] = subst (λ j. open_literals a (lits_at s j) ≡ lit_at s n ∷ []) u.reason one in
      let more : is_lean s (a ++ lit_at s n ∷ []) hs ≡ true = rest.lean (a ++ lit_at s n ∷ []) (base a b not_false) in
      rw (b.no_pair, one', not_true, u.stands) more;
}
  where
    stands_head : (k : Literal) → has k (lits_at s r) ≡ true → stands_in s k (r ∷ hs) ≡ true
    stands_head k h = rw h refl

    differs : (k : Literal) → has k (assumed s) ≡ false → has k (take n s.lits) ≡ false → IsEarly s n k → ⊥
    differs k x y (inl h) = cc
    differs k x y (inr h) = cc

    base : (a : List Literal) → IsBase s n (r ∷ hs) a → has (complement (lit_at s n)) a ≡ false → IsBase s (suc n) hs (a ++ lit_at s n ∷ [])
    base a b nf = record {
      no_pair = pair_push a (lit_at s n) b.no_pair nf;
      early = λ k h. by_test (same (lit_at s n) k)
          (λ t. inr (rw (taken_next s n lt) (grind (arith, has_append k (take n s.lits) (lit_at s n ∷ [])))))
          (λ t. early_more s n k lt (b.early k (grind (arith, has_append k a (lit_at s n ∷ [])))));
      stands = λ k h e. by_test (same (lit_at s n) k)
          (λ t. grind (arith, has_append k a (lit_at s n ∷ [])))
          (λ t. let m : has k a ≡ true = b.stands k (by_test (has (complement k) (lits_at s r)) (λ v. rw v refl) (λ v. rw v h)) (early_less s n k lt e t) in grind (arith, has_append k a (lit_at s n ∷ [])));
    }

-- a spare one doesn't
pub lean_spare : (s : State) (n : ℕ) (hs : List ℕ) → IsSound s → n < length s.lits → IsSpare s n hs → IsLeanAt s (suc n) hs → IsLeanAt s n hs
lean_spare s n hs sound lt spare rest = record {
  lean = λ a b. rest.lean a (record {
    no_pair = b.no_pair;
    early = λ k h. early_more s n k lt (b.early k h);
    stands = λ k h e. by_test (same (lit_at s n) k)
        (λ t. let is : lit_at s n ≡ k = grind (arith, same_tells (lit_at s n) k) in b.stands k h (mine k is h spare))
        (λ t. b.stands k h (early_less s n k lt e t));
  });
}
  where
    mine : (k : Literal) → lit_at s n ≡ k → stands_in s (complement k) hs ≡ true → IsSpare s n hs → IsEarly s n k
    mine k is h (inl z) = inl (subst (λ j. has j (assumed s) ≡ true) is (entry_assumed s.lits s.reasons n lt (sym sound.sizes) z))
    mine k is h (inr (inl a)) = inl (subst (λ j. has j (assumed s) ≡ true) is a)
    mine k is h (inr (inr f)) = let g : stands_in s (complement k) hs ≡ false = subst (λ j. stands_in s (complement j) hs ≡ false) is f in absurd cc

-- at the start the set is what is assumed
pub lean_start : (s : State) (hs : List ℕ) → has_pair (assumed s) ≡ false → IsLeanAt s 0 hs → is_lean s (assumed s) hs ≡ true
lean_start s hs p rest = rest.lean (assumed s) (record { no_pair = p; early = λ k h. inl h; stands = λ k h e. mine k e })
  where
    mine : (k : Literal) → IsEarly s 0 k → has k (assumed s) ≡ true
    mine k (inl h) = h
    mine k (inr h) = absurd cc

-- the order of the clauses doesn't matter to what stands in them
pub stands_append : (s : State) (l : Literal) (xs ys : List ℕ) → stands_in s l (xs ++ ys) ≡ (stands_in s l xs || stands_in s l ys)
stands_append s l [] ys = refl
stands_append s l (x ∷ xs) ys = by_test (has l (lits_at s x)) (λ t. rw t refl) (λ t. rw (t, stands_append s l xs ys) refl)

pub stands_reverse : (s : State) (l : Literal) (xs : List ℕ) → stands_in s l (reverse xs) ≡ stands_in s l xs
stands_reverse s l [] = refl
stands_reverse s l (x ∷ xs) = ap (stands_in s l) (reverse-append (x ∷ []) xs) ∙ stands_append s l (reverse xs) (x ∷ []) ∙ swapped (stands_reverse s l xs)
  where
    swapped : stands_in s l (reverse xs) ≡ stands_in s l xs → (stands_in s l (reverse xs) || (has l (lits_at s x) || false)) ≡ (has l (lits_at s x) || stands_in s l xs)
    swapped e = rw e (by_test (has l (lits_at s x)) (λ t. rw t (by_test (stands_in s l xs) (λ u. rw u refl) (λ u. rw u refl))) (λ t. rw t (by_test (stands_in s l xs) (λ u. rw u refl) (λ u. rw u refl))))

pub reverse_push : (xs : List ℕ) (x : ℕ) → reverse (xs ++ x ∷ []) ≡ x ∷ reverse xs
reverse_push xs x = reverse-append xs (x ∷ [])

pub attached_push : (s : State) (xs : List ℕ) (x : ℕ) → AreAttached s xs → IsAttached s x → AreAttached s (xs ++ x ∷ [])
attached_push s [] x a h = (h, tt)
attached_push s (y ∷ xs) x a h = (a.0, attached_push s xs x a.1 h)

-- what collecting keeps
pub collect_first : (s : State) (at n : ℕ) → ClosesAt s at n → IsCollecting s at n (at ∷ [])
collect_first s at n c = record { attached = (c.attached, tt); lean = lean_last s at n c; of = (inl refl, tt) }

pub collect_used : (s : State) (at n : ℕ) (out : List ℕ) (r : ℕ) → IsSound s → n < length s.lits → has (complement (lit_at s n)) (assumed s) ≡ false → IsUsed s n out r → IsCollecting s at (suc n) out → IsCollecting s at n (out ++ r ∷ [])
collect_used s at n out r sound lt free u c =
    let u' : IsUsed s n (reverse out) r = record { reason = u.reason; derived = u.derived; not_assumed = u.not_assumed; stands = stands_reverse s (complement (lit_at s n)) out ∙ u.stands } in
    record {
      attached = attached_push s out r c.attached (subst (λ j. IsAttached s j) u.reason (sound.attached n lt u.derived));
      lean = subst (λ x. IsLeanAt s n x) (sym (reverse_push out r)) (lean_used s n (reverse out) r sound lt free u' c.lean);
      of = subst (λ x. AreReasonsOr s at x) (sym (reverse_push out r)) (inr (n, lt, u.reason), c.of);
    }

pub collect_spare : (s : State) (at n : ℕ) (out : List ℕ) → IsSound s → n < length s.lits → IsSpare s n out → IsCollecting s at (suc n) out → IsCollecting s at n out
collect_spare s at n out sound lt spare c = record { attached = c.attached; lean = lean_spare s n (reverse out) sound lt (same_spare spare) c.lean; of = c.of }
  where
    same_spare : IsSpare s n out → IsSpare s n (reverse out)
    same_spare (inl z) = inl z
    same_spare (inr (inl a)) = inr (inl a)
    same_spare (inr (inr f)) = inr (inr (stands_reverse s (complement (lit_at s n)) out ∙ f))

-- where a chain closes: at the clause it is asked for, or at the first clash
pub closes_is : (s : State) (at last end : ℕ) → IsSound s → IsAttached s at → AllFalse s.lits (lits_at s at) → has_pair (assumed s) ≡ false → end ≤ length s.lits → NoClash s.lits s.reasons end
    → (end < length s.lits → IsClash s.lits s.reasons end) → (end ≡ length s.lits → last ≡ at) → (end < length s.lits → last ≡ reason_at s end) → ClosesAt s last end
closes_is s at last end sound att all p le clear clash past within = by_eq end (length s.lits)
    (λ e. record {
      attached = rw (past e) att;
      all_false = rw (past e) (λ k h. inr (rw (take_all end s.lits (omega arith)) (all k h)));
      no_pair = p;
      no_clash = clear;
    })
    (λ ne. let lt : end < length s.lits = omega arith in
    let c = clash lt in
    let f = sound.forced end lt c.derived in
    record {
      attached = rw (within lt) (sound.attached end lt c.derived);
      all_false = rw (within lt) (λ k h. by_test (same k (lit_at s end))
          (λ t. let is : k ≡ lit_at s end = grind (arith, same_tells k (lit_at s end)) in inl (subst (λ j. has (complement j) (assumed s) ≡ true) (sym is) c.assumed))
          (λ t. let d : k ≢ lit_at s end = grind (arith, same_tells k (lit_at s end)) in inr (f.others k h d)));
      no_pair = p;
      no_clash = clear;
    })

reasons_or : (s : State) (at last : ℕ) (hs : List ℕ) → (last ≡ at) ⊎ ((i : ℕ) × (i < length s.lits) × (reason_at s i ≡ last)) → AreReasonsOr s last hs → AreReasonsOr s at hs
reasons_or s at last [] w a = tt
reasons_or s at last (h ∷ hs) w a = (one a.0 w, reasons_or s at last hs w a.1)
  where
    one : (h ≡ last) ⊎ ((i : ℕ) × (i < length s.lits) × (reason_at s i ≡ h)) → (last ≡ at) ⊎ ((i : ℕ) × (i < length s.lits) × (reason_at s i ≡ last)) → (h ≡ at) ⊎ ((i : ℕ) × (i < length s.lits) × (reason_at s i ≡ h))
    one (inl e) (inl d) = inl (e ∙ d)
    one (inl e) (inr v) = inr (v.0, v.1, v.2 ∙ sym e)
    one (inr v) d = inr v

pub chain_for : (s : State) (at last end : ℕ) (hs : List ℕ) → end ≤ length s.lits → (end ≡ length s.lits → last ≡ at) → (end < length s.lits → last ≡ reason_at s end) → IsChain s last hs → IsChain s at hs
chain_for s at last end hs le past within c = record {
  lean = c.lean;
  of = reasons_or s at last hs (by_eq end (length s.lits) (λ e. inl (past e)) (λ ne. let lt : end < length s.lits = omega arith in inr (end, lt, sym (within lt)))) c.of;
}

-- a pair needs no clause
pub chain_empty : (s : State) (at : ℕ) → has_pair (assumed s) ≡ true → IsChain s at []
chain_empty s at p = record { lean = p; of = tt }

pub chain_of_pair : (s : State) (f : Found) → IsAsked s f → ((at : ℕ) → f ≡ Conflict at → ⊥) → IsChain s (asked_clause f) []
chain_of_pair s Still a other = absurd a
chain_of_pair s (Conflict at) a other = absurd (other at refl)
chain_of_pair s (Pair l) a other = chain_empty s 0 (pair_from (assumed s) (l, a.0, a.1))

pub collected : (s : State) (at n : ℕ) (out : List ℕ) → n ≡ 0 → has_pair (assumed s) ≡ false → IsCollecting s at n out → IsChain s at (reverse out)
collected s at n out z p c = record { lean = lean_start s (reverse out) p (subst (λ j. IsLeanAt s j (reverse out)) z c.lean); of = c.of }

-- one literal standing or not, clause by clause
pub stands_step : (s : State) (l : Literal) (hs : List ℕ) (i h : ℕ) → i < length hs → h ≡ get_or hs i h → stands_in s l (drop i hs) ≡ (has l (lits_at s h) || stands_in s l (drop (i + 1) hs))
stands_step s l hs i h lt e = rw add-one (go hs i lt e)
  where
    go : (xs : List ℕ) (j : ℕ) → j < length xs → h ≡ get_or xs j h → stands_in s l (drop j xs) ≡ (has l (lits_at s h) || stands_in s l (drop (suc j) xs))
    go [] j q d = absurd (omega arith)
    go (x ∷ xs) zero q d = rw d refl
    go (x ∷ xs) (suc j) q d = go xs j (omega arith) d
