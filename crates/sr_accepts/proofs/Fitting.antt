-- The clauses of a trimmed proof fit where those of the formula and of all lemmas do.
use Rattle.std.proofs.Common.{◌≡◌, ◌∙◌, ℕ, ◌+◌, ◌<◌, ◌≤◌, ◌==◌, false, List, [], ◌∷◌, ◌++◌, Option, Some, None, cond, length, refl, sym, ap, subst, arith}
use Rattle.std.specs.Prelude.{nat_lt}
use Rattle.std.proofs.lemmas.Bool.Decides.{nat_tests}
use Rattle.std.proofs.lemmas.List.Sums.{sum_by-cons}
use Rattle.sr_base.specs.Literal.{Literal}
use Rattle.sr_model.specs.Assignment.{holds_number}
use Rattle.sr_model.specs.Refutation.{is_empty}
use Rattle.sr_model.specs.Chain.{Numbered, clauses}
use Rattle.sr_model.specs.Meeting.{Step}
use Rattle.sr_model.specs.Judging.{Item, stepped, dropped, numbered_from, without, Live, live_with, clause_cells, cells_of}
use Rattle.sr_model.proofs.Soundness.{by_test}
use Rattle.sr_model.proofs.Judged.{clauses_numbered}
use Rattle.sr_model.specs.Dsr.{Lemma}
use Rattle.sr_trimming.specs.Placing.{deletion, last_cited, placed_from, uncited, placed}
use Rattle.sr_trimming.specs.Loading.{Done, joined, removed, passed, Standing, at_start, after_done}
use Rattle.sr_trimming.specs.From.{numbered_lemmas, all_loaded, Place, place_of, AreFrom}
use Rattle.sr_trimming.specs.Backward.{AreLinked}
use Rattle.sr_trimming.proofs.PivotFirst.{order_keeps_limits}
use Rattle.sr_cli.specs.Check.{CellsFit}

-- the cells of the clauses that become live
abbrev pub step_cells : Step → ℕ
step_cells s = cond (is_empty s.clause) 0 (clause_cells s.clause)

abbrev pub steps_cells : List Step → ℕ
steps_cells [] = 0
steps_cells (s ∷ ss) = step_cells s + steps_cells ss

abbrev item_cells : Item → ℕ
item_cells (stepped s) = step_cells s
item_cells (dropped id ids) = 0

abbrev pub items_cells : List Item → ℕ
items_cells [] = 0
items_cells (it ∷ items) = item_cells it + items_cells items

abbrev live_cells : Numbered → ℕ
live_cells live = cells_of (clauses live)

cells-cons : (p : ℕ × List Literal) (ps : Numbered) → live_cells (p ∷ ps) ≡ clause_cells p.1 + live_cells ps
cells-cons p ps = sum_by-cons clause_cells p.1 (clauses ps)

cells_push : (ps : Numbered) (n : ℕ) (c : List Literal) → live_cells (ps ++ (n, c) ∷ []) ≡ live_cells ps + clause_cells c
cells_push [] n c = omega arith
cells_push (p ∷ ps) n c = omega (arith, cells-cons p ps, cells-cons p (ps ++ (n, c) ∷ []), cells_push ps n c)

cells_without : (ids : List ℕ) (ps : Numbered) → live_cells (without ids ps) ≤ live_cells ps
cells_without ids [] = omega arith
cells_without ids (p ∷ ps) = by_test (holds_number p.0 ids)
    (λ e. rw e (omega (arith, cells-cons p ps, cells_without ids ps)))
    (λ e. rw e (omega (arith, cells-cons p ps, cells-cons p (without ids ps), cells_without ids ps)))

-- where the live clauses and those of all items fit, no item passes the limit
pub items_fit : (most : ℕ) (lv : Live) (items : List Item) → cells_of (clauses lv.clauses) + items_cells items ≤ most → CellsFit most lv items
items_fit most lv [] h = tt
items_fit most lv (dropped id ids ∷ items) h = (refl, items_fit most (live_with lv (dropped id ids)) items (omega (arith, cells_without ids lv.clauses)))
items_fit most lv (stepped s ∷ items) h = by_test (is_empty s.clause)
    (λ e. let fits : live_cells lv.clauses + (0 + items_cells items) ≤ most = rw e at h in
    rw e (refl, items_fit most lv items (omega arith)))
    (λ e. let fits : live_cells lv.clauses + (clause_cells s.clause + items_cells items) ≤ most = rw e at h in
    rw e (small fits, items_fit most (record { clauses = lv.clauses ++ (s.id, s.clause) ∷ []; last = s.id }) items (omega (arith, cells_push lv.clauses s.id s.clause))))
  where
    small : live_cells lv.clauses + (clause_cells s.clause + items_cells items) ≤ most → nat_lt most (cells_of (clauses lv.clauses) + clause_cells s.clause) ≡ false
    small fits = grind (arith, nat_tests)

-- deletions add none
deletion_cells : (id : ℕ) (ids : List ℕ) (items : List Item) → items_cells (deletion id ids items) ≡ items_cells items
deletion_cells id [] items = refl
deletion_cells id (n ∷ ns) items = omega arith

placed_from_cells : (known : Numbered) (steps : List Step) → items_cells (placed_from known steps) ≡ steps_cells steps
placed_from_cells known [] = refl
placed_from_cells known (s ∷ []) = refl
placed_from_cells known (s ∷ t ∷ later) =
    omega (arith, deletion_cells s.id (last_cited known s (t ∷ later)) (placed_from (known ++ (s.id, s.clause) ∷ []) (t ∷ later)), placed_from_cells (known ++ (s.id, s.clause) ∷ []) (t ∷ later))

pub placed_cells : (f : List (List Literal)) (steps : List Step) → items_cells (placed f steps) ≡ steps_cells steps
placed_cells f steps = deletion_cells (length f) (uncited f steps) (placed_from (numbered_from 1 f) steps) ∙ placed_from_cells (numbered_from 1 f) steps

-- the cells of the lemmas; an empty one joins no clauses
abbrev pub lemma_cells : List Done → ℕ
lemma_cells [] = 0
lemma_cells (joined l ∷ ds) = cond (is_empty l.clause) 0 (clause_cells l.clause) + lemma_cells ds
lemma_cells (removed k ∷ ds) = lemma_cells ds
lemma_cells (passed ∷ ds) = lemma_cells ds

one_lemma : (c : List Literal) → cond (is_empty c) 0 (clause_cells c) ≤ clause_cells c
one_lemma [] = omega arith
one_lemma (l ∷ c) = omega arith

numbered_cells : (n : ℕ) (ds : List Done) → lemma_cells ds ≤ live_cells (numbered_lemmas n ds)
numbered_cells n [] = omega arith
numbered_cells n (joined l ∷ ds) = omega (arith, cells-cons (n, l.clause) (numbered_lemmas (n + 1) ds), numbered_cells (n + 1) ds, one_lemma l.clause)
numbered_cells n (removed k ∷ ds) = numbered_cells n ds
numbered_cells n (passed ∷ ds) = numbered_cells n ds

cells_append : (ps qs : Numbered) → live_cells (ps ++ qs) ≡ live_cells ps + live_cells qs
cells_append [] qs = omega arith
cells_append (p ∷ ps) qs = omega (arith, cells-cons p ps, cells-cons p (ps ++ qs), cells_append ps qs)

pub loaded_cells : (f : List (List Literal)) (ds : List Done) → cells_of f + lemma_cells ds ≤ cells_of (clauses (all_loaded f ds))
loaded_cells f ds =
    omega (arith, cells_append (numbered_from 1 f) (numbered_lemmas (length f + 1) ds), numbered_cells (length f + 1) ds, ap cells_of (clauses_numbered 1 f))

-- each step but the last has the length of the lemma of its number
abbrev AreAmong : (ℕ → Option Place) → List Step → Type 0
AreAmong find [] = Unit {0}
AreAmong find (s ∷ []) = Unit {0}
AreAmong find (s ∷ t ∷ later) = ((p : Place) × (find s.id ≡ Some p) × (length p.stated.clause ≡ length s.clause)) × AreAmong find (t ∷ later)

are_among : (f : List (List Literal)) (ds : List Done) (steps : List Step) → AreFrom f ds steps → AreAmong (λ n. place_of (at_start f) ds n) steps
are_among f ds [] a = tt
are_among f ds (s ∷ []) a = tt
are_among f ds (s ∷ t ∷ later) a = ((a.0.0, a.0.1, (order_keeps_limits 0 a.0.0.stated.clause s.clause a.0.2.clause.reordered).0), are_among f ds (t ∷ later) a.1)

-- later lemmas have later numbers
pub place_above : (st : Standing) (ds : List Done) (n : ℕ) (p : Place) → place_of st ds n ≡ Some p → st.next ≤ n
place_above st [] n p e = absurd cc
place_above st (joined l ∷ ds) n p e = by_test (st.next == n)
    (λ t. grind (arith, nat_tests))
    (λ t. let later : st.next + 1 ≤ n = place_above (after_done st (joined l)) ds n p (rw t at e) in omega arith)
place_above st (removed k ∷ ds) n p e = place_above (after_done st (removed k)) ds n p e
place_above st (passed ∷ ds) n p e = place_above st ds n p e

-- steps above a lemma's number are among the later ones
skips : (l : ℕ) (find rest : ℕ → Option Place) (steps : List Step) → ((n : ℕ) → l < n → find n ≡ rest n) → AreLinked l steps → AreAmong find steps → AreAmong rest steps
skips l find rest [] r k a = tt
skips l find rest (s ∷ []) r k a = tt
skips l find rest (s ∷ t ∷ later) r k a = (
  (a.0.0, sym (r s.id k.0) ∙ a.0.1, a.0.2),
  skips s.id find rest (t ∷ later) (λ n h. r n (omega (arith, k.0))) k.3 a.1,
)

-- so they have no more cells than the lemmas
past : (st : Standing) (l : Lemma) (ds : List Done) (n : ℕ) → st.next < n → place_of st (joined l ∷ ds) n ≡ place_of (after_done st (joined l)) ds n
past st l ds n h = let t : (st.next == n) ≡ false = grind (arith, nat_tests) in rw t refl

same_emptiness : (c d : List Literal) → length c ≡ length d → is_empty c ≡ is_empty d
same_emptiness [] [] e = refl
same_emptiness [] (l ∷ d) e = absurd (omega arith)
same_emptiness (l ∷ c) [] e = absurd (omega arith)
same_emptiness (l ∷ c) (k ∷ d) e = refl

steps_fit : (st : Standing) (ds : List Done) (last : ℕ) (steps : List Step) → AreLinked last steps → AreAmong (λ n. place_of st ds n) steps → steps_cells steps ≤ lemma_cells ds
steps_fit st ds last [] k a = absurd k
steps_fit st ds last (s ∷ []) k a = let none : step_cells s ≡ 0 = rw k.1 refl in omega arith
steps_fit st [] last (s ∷ t ∷ later) k a = let bad : None ≡ Some a.0.0 = a.0.1 in absurd cc
steps_fit st (removed n ∷ ds) last (s ∷ t ∷ later) k a = steps_fit (after_done st (removed n)) ds last (s ∷ t ∷ later) k a
steps_fit st (passed ∷ ds) last (s ∷ t ∷ later) k a = steps_fit st ds last (s ∷ t ∷ later) k a
steps_fit st (joined l ∷ ds) last (s ∷ t ∷ later) k a = by_test (st.next == s.id)
    (λ e. let is : st.next ≡ s.id = grind (arith, nat_tests) in
    let found : Some (record { alive = st.alive; stated = l }) ≡ Some a.0.0 = rw e at a.0.1 in
    let same : record { alive = st.alive; stated = l } ≡ a.0.0 = cc in
    let long : length l.clause ≡ length s.clause = subst (λ (x : Place). length x.stated.clause ≡ length s.clause) (sym same) a.0.2 in
    let some : is_empty l.clause ≡ false = same_emptiness l.clause s.clause long ∙ k.1 in
    let cells : step_cells s ≤ cond (is_empty l.clause) 0 (clause_cells l.clause) = rw (k.1, some) (omega arith) in
    let rest = steps_fit (after_done st (joined l)) ds s.id (t ∷ later) k.3
    (skips s.id (λ n. place_of st (joined l ∷ ds) n) (λ n. place_of (after_done st (joined l)) ds n) (t ∷ later) (λ n h. past st l ds n (omega arith)) k.3 a.1) in
    omega arith)
    (λ e. let least : st.next ≤ s.id = place_above st (joined l ∷ ds) s.id a.0.0 a.0.1 in
    let above : st.next < s.id = grind (arith, nat_tests) in
    let rest = steps_fit (after_done st (joined l)) ds st.next (s ∷ t ∷ later) (above, k.1, k.2, k.3)
    (skips st.next (λ n. place_of st (joined l ∷ ds) n) (λ n. place_of (after_done st (joined l)) ds n) (s ∷ t ∷ later) (past st l ds) (above, k.1, k.2, k.3) a) in
    omega arith)

pub trimmed_fits : (f : List (List Literal)) (ds : List Done) (steps : List Step) → AreFrom f ds steps → AreLinked (length f) steps → steps_cells steps ≤ lemma_cells ds
trimmed_fits f ds steps a k = steps_fit (at_start f) ds (length f) steps k (are_among f ds steps a)
