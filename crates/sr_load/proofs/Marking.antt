-- The literals that are assumed, and the marks before them.
use Rattle.std.proofs.Common.{inl, inr, ◌≡◌, ◌≢◌, ◌<◌, ◌≤◌, ℕ, suc, zero, Bool, true, false, cond, ◌==◌, ◌||◌, List, [], ◌∷◌, ◌++◌, refl, sym, ◌∙◌, ap, subst, arith, length, get_or, take}
use Rattle.std.proofs.lemmas.List.{take-append-le, take-take, get_or-take, get_or_append_left, get_or_push, length-take, length_push, take_all, nil_from_length}
use Rattle.sr_base.specs.Literal.{Literal, same, has, SameSet}
use Rattle.sr_base.proofs.Literals.{same_tells, has_append}
use Rattle.sr_model.proofs.Soundness.{by_test}
use Rattle.sr_watch.specs.State.{State, assumed_in, assumed, reason_at}
use Rattle.sr_watch.specs.Changes.{with_assumed, IsTakenOver, IsDetached}
use Rattle.sr_load.specs.Tied.{IsMark, AreAssumed}
use Rattle.sr_load.proofs.Numbering.{by_eq, is_self, is_not}

pub assumed_push : (ls : List Literal) (rs : List ℕ) (l : Literal) → length rs ≡ length ls → assumed_in (ls ++ l ∷ []) (rs ++ 0 ∷ []) ≡ assumed_in ls rs ++ l ∷ []
assumed_push [] [] l n = refl
assumed_push [] (q ∷ rs) l n = absurd (omega arith)
assumed_push (k ∷ ls) [] l n = absurd (omega arith)
assumed_push (k ∷ ls) (q ∷ rs) l n = rw (assumed_push ls rs l (omega arith)) (by_test (q == 0) (λ t. rw t refl) (λ t. rw t refl))

-- only where there is no reason counts
pub assumed_alike : (ls : List Literal) (rs qs : List ℕ) → length rs ≡ length qs → ((i : ℕ) → (get_or rs i 0 == 0) ≡ (get_or qs i 0 == 0)) → assumed_in ls rs ≡ assumed_in ls qs
assumed_alike [] rs qs n f = refl
assumed_alike (l ∷ ls) [] [] n f = refl
assumed_alike (l ∷ ls) [] (q ∷ qs) n f = absurd (omega arith)
assumed_alike (l ∷ ls) (r ∷ rs) [] n f = absurd (omega arith)
assumed_alike (l ∷ ls) (r ∷ rs) (q ∷ qs) n f =
    let rest : assumed_in ls rs ≡ assumed_in ls qs = assumed_alike ls rs qs (omega arith) (λ i. f (suc i)) in
    let first : (r == 0) ≡ (q == 0) = f 0 in
    ap (λ x. cond x (l ∷ assumed_in ls rs) (assumed_in ls rs)) first ∙ ap (λ x. cond (q == 0) (l ∷ x) x) rest

taken_alike : (m : ℕ) (rs qs : List ℕ) → length rs ≡ length qs → ((i : ℕ) → (get_or rs i 0 == 0) ≡ (get_or qs i 0 == 0)) → (i : ℕ) → (get_or (take m rs) i 0 == 0) ≡ (get_or (take m qs) i 0 == 0)
taken_alike zero rs qs n f i = refl
taken_alike (suc m) [] [] n f i = refl
taken_alike (suc m) [] (q ∷ qs) n f i = absurd (omega arith)
taken_alike (suc m) (r ∷ rs) [] n f i = absurd (omega arith)
taken_alike (suc m) (r ∷ rs) (q ∷ qs) n f zero = f 0
taken_alike (suc m) (r ∷ rs) (q ∷ qs) n f (suc i) = taken_alike m rs qs (omega arith) (λ j. f (suc j)) i

pub over_alike : (old new : State) (at : ℕ) → 0 < at → ((i : ℕ) → IsTakenOver old new at i) → (i : ℕ) → (get_or old.reasons i 0 == 0) ≡ (get_or new.reasons i 0 == 0)
over_alike old new at some over i = go (over i)
  where
    go : IsTakenOver old new at i → (reason_at old i == 0) ≡ (reason_at new i == 0)
    go (inl e) = ap (λ n. n == 0) (sym e)
    go (inr w) = is_not (reason_at old i) 0 w.0 ∙ sym (is_not (reason_at new i) 0 (λ z. omega (arith, w.1)))

-- another reason for an entry
pub entries_alike : (ls : List Literal) (rs qs : List ℕ) (given : List Literal) (marks : List ℕ) → length rs ≡ length qs → ((i : ℕ) → (get_or rs i 0 == 0) ≡ (get_or qs i 0 == 0)) → AreAssumed ls rs given marks → AreAssumed ls qs given marks
entries_alike ls rs qs given marks n f a = record {
  sizes = sym n ∙ a.sizes;
  set = λ l. ap (has l) (sym (assumed_alike ls rs qs n f)) ∙ a.set l;
  count = a.count;
  each = λ i lt. let m = a.each i lt in let mark = get_or marks i 0 in record {
    within = m.within;
    set = λ l. ap (has l) (sym (assumed_alike (take mark ls) (take mark rs) (take mark qs) (omega (arith, length-take mark rs, length-take mark qs)) (taken_alike mark rs qs n f))) ∙ m.set l;
  };
  rise = a.rise;
}

-- more entries, with no literal assumed
pub entries_derived : (ls ls' : List Literal) (rs rs' : List ℕ) (given : List Literal) (marks : List ℕ) → take (length ls) ls' ≡ ls → take (length rs) rs' ≡ rs → assumed_in ls' rs' ≡ assumed_in ls rs → length rs' ≡ length ls'
    → AreAssumed ls rs given marks → AreAssumed ls' rs' given marks
entries_derived ls ls' rs rs' given marks tl tr same sizes a = record {
  sizes = sizes;
  set = λ l. ap (has l) same ∙ a.set l;
  count = a.count;
  each = λ i lt. let m = a.each i lt in let mark = get_or marks i 0 in
      let le : length ls ≤ length ls' = omega (arith, ap length tl, length-take (length ls) ls') in
      let one : take mark ls' ≡ take mark ls = sym (take-take mark (length ls) ls' m.within) ∙ ap (take mark) tl in
      let within : mark ≤ length rs = omega (arith, m.within, a.sizes) in
      let two : take mark rs' ≡ take mark rs = sym (take-take mark (length rs) rs' within) ∙ ap (take mark) tr in
      record {
        within = omega (arith, m.within);
        set = λ l. ap (has l) (ap (λ x. assumed_in x (take mark rs')) one ∙ ap (λ x. assumed_in (take mark ls) x) two) ∙ m.set l;
      };
  rise = a.rise;
}

-- one literal more is assumed
old_mark : (ls : List Literal) (rs : List ℕ) (l : Literal) (given : List Literal) (i m : ℕ) → length rs ≡ length ls → i < length given → IsMark ls rs given i m → IsMark (ls ++ l ∷ []) (rs ++ 0 ∷ []) (given ++ l ∷ []) i m
old_mark ls rs l given i m n lt k = record {
  within = omega (arith, k.within, length_push ls l);
  set = λ j. let within : m ≤ length rs = omega (arith, k.within, n) in
      ap (has j) (ap (λ x. assumed_in x (take m (rs ++ 0 ∷ []))) (take-append-le m ls (l ∷ []) k.within) ∙ ap (assumed_in (take m ls)) (take-append-le m rs (0 ∷ []) within))
      ∙ k.set j ∙ ap (has j) (sym (take-append-le i given (l ∷ []) (omega (arith, lt))));
}

same_mark : (ls : List Literal) (rs : List ℕ) (l : Literal) (given : List Literal) (i m : ℕ) → i < length given → IsMark ls rs given i m → IsMark ls rs (given ++ l ∷ []) i m
same_mark ls rs l given i m lt k = record {
  within = k.within;
  set = λ j. k.set j ∙ ap (has j) (sym (take-append-le i given (l ∷ []) (omega (arith, lt))));
}

full_mark : (ls : List Literal) (rs : List ℕ) (given : List Literal) (marks : List ℕ) → AreAssumed ls rs given marks → IsMark ls rs given (length given) (length ls)
full_mark ls rs given marks a = record {
  within = omega arith;
  set = λ j. ap (has j) (ap (λ x. assumed_in x (take (length ls) rs)) (take_all (length ls) ls (omega arith)) ∙ ap (assumed_in ls) (take_all (length ls) rs (omega (arith, a.sizes)))) ∙ a.set j ∙ ap (has j) (sym (take_all (length given) given (omega arith)));
}

push_full : (ls : List Literal) (rs : List ℕ) (l : Literal) (given : List Literal) (i m : ℕ) → length rs ≡ length ls → i ≤ length given → IsMark ls rs given i m → IsMark (ls ++ l ∷ []) (rs ++ 0 ∷ []) (given ++ l ∷ []) i m
push_full ls rs l given i m n lt k = record {
  within = omega (arith, k.within, length_push ls l);
  set = λ j. let within : m ≤ length rs = omega (arith, k.within, n) in
      ap (has j) (ap (λ x. assumed_in x (take m (rs ++ 0 ∷ []))) (take-append-le m ls (l ∷ []) k.within) ∙ ap (assumed_in (take m ls)) (take-append-le m rs (0 ∷ []) within))
      ∙ k.set j ∙ ap (has j) (sym (take-append-le i given (l ∷ []) lt));
}

same_full : (ls : List Literal) (rs : List ℕ) (l : Literal) (given : List Literal) (i m : ℕ) → i ≤ length given → IsMark ls rs given i m → IsMark ls rs (given ++ l ∷ []) i m
same_full ls rs l given i m lt k = record {
  within = k.within;
  set = λ j. k.set j ∙ ap (has j) (sym (take-append-le i given (l ∷ []) lt));
}

mark_at : (ls : List Literal) (rs : List ℕ) (given : List Literal) (marks : List ℕ) (i : ℕ) → AreAssumed ls rs given marks → i ≤ length given → IsMark ls rs given i (get_or (marks ++ length ls ∷ []) i 0)
mark_at ls rs given marks i a le = by_eq i (length given)
    (λ e. subst (λ m. IsMark ls rs given i m) (sym (get_or_push marks (length ls) 0 i (omega (arith, a.count)))) (subst (λ k. IsMark ls rs given k (length ls)) (sym e) (full_mark ls rs given marks a)))
    (λ z. let lt : i < length given = omega arith in subst (λ m. IsMark ls rs given i m) (sym (get_or_append_left marks (length ls ∷ []) 0 i (omega (arith, a.count)))) (a.each i lt))

marks_rise : (ls : List Literal) (rs : List ℕ) (given : List Literal) (marks : List ℕ) (i j : ℕ) → AreAssumed ls rs given marks → i ≤ j → j ≤ length given → get_or (marks ++ length ls ∷ []) i 0 ≤ get_or (marks ++ length ls ∷ []) j 0
marks_rise ls rs given marks i j a le high = by_eq j (length given)
    (λ e. let last : get_or (marks ++ length ls ∷ []) j 0 ≡ length ls = get_or_push marks (length ls) 0 j (omega (arith, a.count)) in
    let m = mark_at ls rs given marks i a (omega arith) in omega (arith, last, m.within))
    (λ z. let one : get_or (marks ++ length ls ∷ []) j 0 ≡ get_or marks j 0 = get_or_append_left marks (length ls ∷ []) 0 j (omega (arith, a.count)) in
    let two : get_or (marks ++ length ls ∷ []) i 0 ≡ get_or marks i 0 = get_or_append_left marks (length ls ∷ []) 0 i (omega (arith, a.count)) in
    omega (arith, one, two, a.rise i j le (omega arith)))

has_push : (j l : Literal) (xs : List Literal) → has j (xs ++ l ∷ []) ≡ (has j xs || same l j)
has_push j l xs = has_append j xs (l ∷ []) ∙ ap (λ b. has j xs || b) (or_false (same l j))
  where
    or_false : (b : Bool) → (b || false) ≡ b
    or_false true = refl
    or_false false = refl

pub entries_assume : (s s' : State) (given : List Literal) (marks : List ℕ) (l : Literal) → s' ≡ with_assumed s l → AreAssumed s.lits s.reasons given marks → AreAssumed s'.lits s'.reasons (given ++ l ∷ []) (marks ++ length s.lits ∷ [])
entries_assume s s' given marks l e a = by_test (has l (assumed s))
    (λ t. let is : s' ≡ s = e ∙ rw t refl in subst (λ (x : State). AreAssumed x.lits x.reasons (given ++ l ∷ []) (marks ++ length s.lits ∷ [])) (sym is) (record {
      sizes = a.sizes;
      set = λ j. a.set j ∙ sym (has_push j l given ∙ absorbed j (sym (a.set l) ∙ t));
      count = omega (arith, length_push marks (length s.lits), length_push given l, a.count);
      each = λ i lt. same_full s.lits s.reasons l given i (get_or (marks ++ length s.lits ∷ []) i 0) (omega (arith, lt, length_push given l)) (mark_at s.lits s.reasons given marks i a (omega (arith, lt, length_push given l)));
      rise = λ i j le lt. marks_rise s.lits s.reasons given marks i j a le (omega (arith, lt, length_push given l));
    }))
    (λ t. let is : s' ≡ record s { lits = s.lits ++ l ∷ []; reasons = s.reasons ++ 0 ∷ [] } = e ∙ rw t refl in subst (λ (x : State). AreAssumed x.lits x.reasons (given ++ l ∷ []) (marks ++ length s.lits ∷ [])) (sym is) (record {
      sizes = omega (arith, length_push s.lits l, length_push s.reasons 0, a.sizes);
      set = λ j. ap (has j) (assumed_push s.lits s.reasons l a.sizes) ∙ has_push j l (assumed s) ∙ ap (λ b. b || same l j) (a.set j) ∙ sym (has_push j l given);
      count = omega (arith, length_push marks (length s.lits), length_push given l, a.count);
      each = λ i lt. push_full s.lits s.reasons l given i (get_or (marks ++ length s.lits ∷ []) i 0) a.sizes (omega (arith, lt, length_push given l)) (mark_at s.lits s.reasons given marks i a (omega (arith, lt, length_push given l)));
      rise = λ i j le lt. marks_rise s.lits s.reasons given marks i j a le (omega (arith, lt, length_push given l));
    }))
  where
    absorbed : (j : Literal) → has l given ≡ true → (has j given || same l j) ≡ has j given
    absorbed j there = by_test (same l j)
        (λ y. let is : l ≡ j = grind (arith, same_tells l j) in let h : has j given ≡ true = subst (λ x. has x given ≡ true) is there in rw (y, h) refl)
        (λ y. rw y (grind arith))

-- the first entries alone
pub entries_undo : (ls : List Literal) (rs : List ℕ) (given : List Literal) (marks : List ℕ) (m : ℕ) → m < length given → AreAssumed ls rs given marks → AreAssumed (take (get_or marks m 0) ls) (take (get_or marks m 0) rs) (take m given) (take m marks)
entries_undo ls rs given marks m lt a = record {
  sizes = omega (arith, length-take at ls, length-take at rs, a.sizes);
  set = mark.set;
  count = omega (arith, length-take m marks, length-take m given, a.count);
  each = λ i low. let under : i < m = omega (arith, low, length-take m given) in
      let same : get_or (take m marks) i 0 ≡ get_or marks i 0 = get_or-take m marks i 0 under in
      let k = a.each i (omega arith) in
      let le : get_or marks i 0 ≤ at = a.rise i m (omega arith) lt in
      subst (λ x. IsMark (take at ls) (take at rs) (take m given) i x) (sym same) (record {
        within = omega (arith, le, mark.within, length-take at ls);
        set = λ l. ap (has l) (ap (λ x. assumed_in x (take (get_or marks i 0) (take at rs))) (take-take (get_or marks i 0) at ls le) ∙ ap (assumed_in (take (get_or marks i 0) ls)) (take-take (get_or marks i 0) at rs le))
            ∙ k.set l ∙ ap (has l) (sym (take-take i m given (omega arith)));
      });
  rise = λ i j le low. let high : j < m = omega (arith, low, length-take m given) in
      let one : get_or (take m marks) i 0 ≡ get_or marks i 0 = get_or-take m marks i 0 (omega arith) in
      let two : get_or (take m marks) j 0 ≡ get_or marks j 0 = get_or-take m marks j 0 high in
      omega (arith, one, two, a.rise i j le (omega arith));
}
  where
    at : ℕ
    at = get_or marks m 0

    mark : IsMark ls rs given m at
    mark = a.each m lt

-- no literal is assumed
pub none_assumed : (ls : List Literal) (rs : List ℕ) (i : ℕ) → length rs ≡ length ls → assumed_in ls rs ≡ [] → i < length ls → get_or rs i 0 ≢ 0
none_assumed [] rs i n e lt = absurd (omega arith)
none_assumed (l ∷ ls) [] i n e lt = absurd (omega arith)
none_assumed (l ∷ ls) (r ∷ rs) zero n e lt = λ z. let bad : l ∷ assumed_in ls rs ≡ [] = rw (is_self r 0 z) at e in absurd cc
none_assumed (l ∷ ls) (r ∷ rs) (suc i) n e lt = by_test (r == 0)
    (λ t. let bad : l ∷ assumed_in ls rs ≡ [] = rw t at e in absurd cc)
    (λ t. none_assumed ls rs i (omega arith) (rw t at e) (omega arith))

pub all_derived : (ls : List Literal) (rs : List ℕ) → length rs ≡ length ls → ((i : ℕ) → i < length ls → get_or rs i 0 ≢ 0) → assumed_in ls rs ≡ []
all_derived [] rs n f = refl
all_derived (l ∷ ls) [] n f = refl
all_derived (l ∷ ls) (r ∷ rs) n f = rw (is_not r 0 (f 0 (omega arith))) (all_derived ls rs (omega arith) (λ i lt. f (suc i) (omega arith)))

pub empty_set : (ls : List Literal) → SameSet ls [] → ls ≡ []
empty_set [] s = refl
empty_set (l ∷ ls) s = let bad : has l (l ∷ ls) ≡ false = s l in absurd (grind (arith, same_tells l l))

-- a clause is detached where no literal is assumed
pub entries_detached : (s s' : State) (at n : ℕ) → IsDetached s s' at n → AreAssumed s.lits s.reasons [] [] → AreAssumed s'.lits s'.reasons [] []
entries_detached s s' at n d a = record {
  sizes = omega (arith, d.size, ap length d.lits, length-take n s.lits, d.within);
  set = λ l. ap (has l) none;
  count = refl;
  each = λ i lt. absurd (omega arith);
  rise = λ i j le lt. absurd (omega arith);
}
  where
    before : assumed s ≡ []
    before = empty_set (assumed s) a.set

    there : (i : ℕ) → i < n → reason_at s' i ≢ 0
    there i lt = by_eq (reason_at s i) at
        (λ e. d.others i lt e)
        (λ z. λ bad. none_assumed s.lits s.reasons i a.sizes before (omega (arith, lt, d.within)) (sym (d.reasons i lt z) ∙ bad))

    none : assumed s' ≡ []
    none = all_derived s'.lits s'.reasons (omega (arith, d.size, ap length d.lits, length-take n s.lits, d.within)) (λ i lt. there i (omega (arith, lt, ap length d.lits, length-take n s.lits)))

-- nothing was assumed, and so there are no marks
pub no_marks : (ls : List Literal) (rs : List ℕ) (given : List Literal) (marks : List ℕ) → given ≡ [] → AreAssumed ls rs given marks → marks ≡ []
no_marks ls rs given marks e a = nil_from_length marks (a.count ∙ ap length e)
