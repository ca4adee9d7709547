-- Lemmas on lists of literals with tables of trail.
use Rattle.std.proofs.Common.{◌≡◌, ◌≢◌, ℕ, suc, zero, ◌+◌, ◌<◌, ◌≤◌, Bool, true, false, not, ◌||◌, List, [], ◌∷◌, ◌++◌, length, get_or, set, take, replicate, refl, sym, ◌∙◌, ap, subst, arith}
use Rattle.std.proofs.lemmas.List.{append_assoc, append-nil, take_more, take_all, get_or-set_same, get_or-set_other}
use Rattle.sr_base.specs.Literal.{Literal, plus, minus, complement, literal_code, same, has}
use Rattle.sr_base.specs.LiteralCode.{same_code}
use Rattle.sr_base.proofs.Literals.{same_tells, has_append, complement_twice}
use Rattle.sr_model.specs.Substitution.{has_complement, has_pair}
use Rattle.sr_table.proofs.Paging.{by_test}
use Rattle.sr_check.specs.declared.trail.Added.{Added}
use Rattle.sr_check.specs.Trail.{Covers, lits_of, table_at, IsTableOf, KeepsTable, AreNew, IsTrail}

-- codes of a covered literal have places
pub code_within : (room : ℕ) (l : Literal) → Covers room l → literal_code l < room
code_within room (plus v) h = omega arith
code_within room (minus v) h = h

pub complement_within : (room : ℕ) (l : Literal) → Covers room l → literal_code (complement l) < room
complement_within room (plus v) h = h
complement_within room (minus v) h = omega arith

-- complements
pub same_complement : (k l : Literal) → same (complement k) l ≡ same k (complement l)
same_complement k l = grind (arith, same_tells (complement k) l, same_tells k (complement l), complement_twice k, complement_twice l)

pub not_itself : (l : Literal) → same l (complement l) ≡ false
not_itself (plus v) = grind (arith, same_tells (plus v) (minus v))
not_itself (minus v) = grind (arith, same_tells (minus v) (plus v))

pub has_complement-append : (xs ys b : List Literal) → has_complement (xs ++ ys) b ≡ (has_complement xs b || has_complement ys b)
has_complement-append [] ys b = refl
has_complement-append (x ∷ xs) ys b = grind (arith, has_complement-append xs ys b)

pub has_complement-push : (xs b : List Literal) (l : Literal) → has_complement xs (b ++ l ∷ []) ≡ (has_complement xs b || has (complement l) xs)
has_complement-push [] b l = refl
has_complement-push (x ∷ xs) b l = grind (arith, has_complement-push xs b l, has_append (complement x) b (l ∷ []), same_complement x l, same_complement l x, same_tells l (complement x), same_tells x (complement l))

-- one more literal makes a pair where its complement was there
pub pair_push : (ls : List Literal) (l : Literal) → has_pair (ls ++ l ∷ []) ≡ (has_pair ls || has (complement l) ls)
pair_push ls l = grind (arith, has_complement-append ls (l ∷ []) (ls ++ l ∷ []), has_complement-push ls ls l, has_append (complement l) ls (l ∷ []), not_itself l, same_tells l (complement l))

-- trail in a table that is written
pub mark_set_same : (table : List Bool) (b : Bool) (k l : Literal) → literal_code l < length table → same l k ≡ true → table_at (set table (literal_code l) b) (literal_code k) ≡ b
mark_set_same table b k l h e = let is : l ≡ k = grind (arith, same_tells l k) in subst (λ j. table_at (set table (literal_code l) b) (literal_code j) ≡ b) is (get_or-set_same table (literal_code l) b false h)

pub mark_set_other : (table : List Bool) (b : Bool) (k l : Literal) → same l k ≡ false → table_at (set table (literal_code l) b) (literal_code k) ≡ table_at table (literal_code k)
mark_set_other table b k l e =
    let ne : literal_code k ≢ literal_code l = λ c. let is : k ≡ l = same_code k l c in grind (arith, same_tells l k) in
    get_or-set_other table (literal_code l) (literal_code k) b false ne

-- a table that is lengthened by unset trail
pub marks_stay : (table : List Bool) (n k : ℕ) → length table ≤ n → KeepsTable table (take n table ++ replicate k false)
marks_stay table n k h m = rw (take_all n table h) (at table k m)
  where
    none : (k m : ℕ) → table_at (replicate k false) m ≡ false
    none zero m = refl
    none (suc k) zero = refl
    none (suc k) (suc m) = none k m

    at : (table : List Bool) (k m : ℕ) → table_at (table ++ replicate k false) m ≡ table_at table m
    at [] k m = none k m
    at (b ∷ bs) k zero = refl
    at (b ∷ bs) k (suc m) = at bs k m

-- a literal is put at the end of the list
pub table_add : (table grown : List Bool) (ls : List Literal) (l : Literal) → IsTableOf table ls → KeepsTable table grown → Covers (length grown) l → IsTableOf (set grown (literal_code (complement l)) true) (ls ++ l ∷ [])
table_add table grown ls l t keeps room k = by_test (same (complement l) k)
    (λ e. mark_set_same grown true k (complement l) (complement_within (length grown) l room) e ∙ sym (grind (arith, has_append (complement k) ls (l ∷ []), same_complement l k, same_tells l (complement k))))
    (λ e. mark_set_other grown true k (complement l) e ∙ keeps (literal_code k) ∙ t k ∙ sym (grind (arith, has_append (complement k) ls (l ∷ []), same_complement l k)))

-- new literals
pub new_push : (ls : List Literal) (ts : List Added) (t : Added) → AreNew ls ts → t.is_new ≡ not (has t.lit (ls ++ lits_of ts)) → AreNew ls (ts ++ t ∷ [])
new_push ls [] t n h = (subst (λ x. t.is_new ≡ not (has t.lit x)) (append-nil ls) h, tt)
new_push ls (u ∷ ts) t n h = (n.0, new_push (ls ++ u.lit ∷ []) ts t n.1 (subst (λ x. t.is_new ≡ not (has t.lit x)) (sym (append_assoc ls (u.lit ∷ []) (lits_of ts))) h))

pub new_take : (ls : List Literal) (ts : List Added) (n : ℕ) → AreNew ls ts → AreNew ls (take n ts)
new_take ls ts zero h = tt
new_take ls [] (suc n) h = tt
new_take ls (t ∷ ts) (suc n) h = (h.0, new_take (ls ++ t.lit ∷ []) ts n h.1)

pub new_at : (ls : List Literal) (ts : List Added) (i : ℕ) (t : Added) → AreNew ls ts → i < length ts → t ≡ get_or ts i t → t.is_new ≡ not (has t.lit (ls ++ lits_of (take i ts)))
new_at ls [] i t h lt e = absurd (omega arith)
new_at ls (u ∷ ts) zero t h lt e = subst (λ (x : Added). x.is_new ≡ not (has x.lit (ls ++ []))) (sym e) (subst (λ x. u.is_new ≡ not (has u.lit x)) (sym (append-nil ls)) h.0)
new_at ls (u ∷ ts) (suc i) t h lt e = subst (λ x. t.is_new ≡ not (has t.lit x)) (append_assoc ls (u.lit ∷ []) (lits_of (take i ts))) (new_at (ls ++ u.lit ∷ []) ts i t h.1 (omega arith) e)

pub lits-append : (ts us : List Added) → lits_of (ts ++ us) ≡ lits_of ts ++ lits_of us
lits-append [] us = refl
lits-append (t ∷ ts) us = ap (λ x. t.lit ∷ x) (lits-append ts us)

pub lits-take : (ts : List Added) (n : ℕ) → lits_of (take n ts) ≡ take n (lits_of ts)
lits-take ts zero = refl
lits-take [] (suc n) = refl
lits-take (t ∷ ts) (suc n) = ap (λ x. t.lit ∷ x) (lits-take ts n)

pub lits-take_more : (ts : List Added) (i : ℕ) (t : Added) → i < length ts → t ≡ get_or ts i t → lits_of (take (i + 1) ts) ≡ lits_of (take i ts) ++ t.lit ∷ []
lits-take_more ts i t lt e = ap lits_of (take_more ts i t lt ∙ ap (λ x. take i ts ++ x ∷ []) (sym e)) ∙ lits-append (take i ts) (t ∷ [])

-- the last literal is undone
pub undo_new : (table : List Bool) (ls : List Literal) (l : Literal) → IsTableOf table (ls ++ l ∷ []) → has l ls ≡ false → literal_code (complement l) < length table → IsTableOf (set table (literal_code (complement l)) false) ls
undo_new table ls l t new room k = by_test (same (complement l) k)
    (λ e. mark_set_same table false k (complement l) room e ∙ sym (grind (arith, same_complement l k, same_tells l (complement k))))
    (λ e. mark_set_other table false k (complement l) e ∙ t k ∙ grind (arith, has_append (complement k) ls (l ∷ []), same_complement l k))

pub undo_old : (table : List Bool) (ls : List Literal) (l : Literal) → IsTableOf table (ls ++ l ∷ []) → has l ls ≡ true → IsTableOf table ls
undo_old table ls l t old k = t k ∙ grind (arith, has_append (complement k) ls (l ∷ []), same_tells l (complement k))

-- a mark that is set lies in the table
pub mark_within : (table : List Bool) (n : ℕ) → table_at table n ≡ true → n < length table
mark_within [] n h = absurd cc
mark_within (b ∷ bs) zero h = omega arith
mark_within (b ∷ bs) (suc n) h = omega (arith, mark_within bs n h)

pub last_within : (table : List Bool) (ls : List Literal) (l : Literal) → IsTableOf table (ls ++ l ∷ []) → literal_code (complement l) < length table
last_within table ls l t = mark_within table (literal_code (complement l)) (t (complement l) ∙ rw (complement_twice l) (grind (arith, has_append l ls (l ∷ []), same_tells l l)))

-- the step of the loop that undoes
pub split_last : (trail : List Added) (left i : ℕ) (t : Added) → left ≡ i + 1 → left ≤ length trail → t ≡ get_or trail i t → lits_of (take left trail) ≡ lits_of (take i trail) ++ t.lit ∷ []
split_last trail left i t e h is = ap (λ n. lits_of (take n trail)) e ∙ lits-take_more trail i t (omega arith) is

pub undone_within : (table : List Bool) (trail : List Added) (left i : ℕ) (t : Added) → left ≡ i + 1 → left ≤ length trail → t ≡ get_or trail i t → IsTableOf table (lits_of (take left trail)) → literal_code (complement t.lit) < length table
undone_within table trail left i t e h is m = last_within table (lits_of (take i trail)) t.lit (subst (IsTableOf table) (split_last trail left i t e h is) m)

pub undone_new : (table : List Bool) (trail : List Added) (left i : ℕ) (t : Added) → left ≡ i + 1 → left ≤ length trail → t ≡ get_or trail i t → IsTableOf table (lits_of (take left trail)) → AreNew [] trail → t.is_new ≡ true
    → IsTableOf (set table (literal_code (complement t.lit)) false) (lits_of (take i trail))
undone_new table trail left i t e h is m news new =
    let absent : has t.lit (lits_of (take i trail)) ≡ false = let n = new_at [] trail i t news (omega arith) is in grind (arith, n) in
    undo_new table (lits_of (take i trail)) t.lit (subst (IsTableOf table) (split_last trail left i t e h is) m) absent (undone_within table trail left i t e h is m)

pub undone_old : (table : List Bool) (trail : List Added) (left i : ℕ) (t : Added) → left ≡ i + 1 → left ≤ length trail → t ≡ get_or trail i t → IsTableOf table (lits_of (take left trail)) → AreNew [] trail → t.is_new ≡ false
    → IsTableOf table (lits_of (take i trail))
undone_old table trail left i t e h is m news old =
    let there : has t.lit (lits_of (take i trail)) ≡ true = let n = new_at [] trail i t news (omega arith) is in grind (arith, n) in
    undo_old table (lits_of (take i trail)) t.lit (subst (IsTableOf table) (split_last trail left i t e h is) m) there

-- a literal is put at the end
pub marked_add : (table grown : List Bool) (trail trail' : List Added) (pair is_new clashes : Bool) (l : Literal) → IsTrail table trail pair → KeepsTable table grown → Covers (length grown) l
    → is_new ≡ not (table_at grown (literal_code (complement l))) → clashes ≡ table_at grown (literal_code l) → trail' ≡ trail ++ record { lit = l; is_new = is_new } ∷ []
    → IsTrail (set grown (literal_code (complement l)) true) trail' (pair || clashes)
marked_add table grown trail trail' pair is_new clashes l m keeps room n h e =
    let lits : lits_of trail' ≡ lits_of trail ++ l ∷ [] = ap lits_of e ∙ lits-append trail (record { lit = l; is_new = is_new } ∷ []) in
    let there : table_at grown (literal_code (complement l)) ≡ has l (lits_of trail) = keeps (literal_code (complement l)) ∙ m.tabled (complement l) ∙ ap (λ x. has x (lits_of trail)) (complement_twice l) in
    record {
      tabled = rw lits (table_add table grown (lits_of trail) l m.tabled keeps room);
      news = rw e (new_push [] trail (record { lit = l; is_new = is_new }) m.news (n ∙ ap not there));
      pair_is = rw lits (sym (pair_push (lits_of trail) l ∙ rw (sym m.pair_is) (ap (λ x. pair || x) (sym (h ∙ keeps (literal_code l) ∙ m.tabled l)))));
    }

-- the list is cut
pub marked_cut : (table table' : List Bool) (trail trail' : List Added) (pair : Bool) (n : ℕ) → IsTrail table trail pair → IsTableOf table' (lits_of (take n trail)) → trail' ≡ take n trail
    → has_pair (take n (lits_of trail)) ≡ false → IsTrail table' trail' false
marked_cut table table' trail trail' pair n m t e none = rw e (record {
  tabled = t;
  news = new_take [] trail n m.news;
  pair_is = sym (ap has_pair (lits-take trail n) ∙ none);
})
