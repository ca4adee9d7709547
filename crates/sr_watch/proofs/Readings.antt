-- How often clauses are read, over plain variables.
use Rattle.std.proofs.lemmas.Bool.Decides.{nat_tests}
use Rattle.std.proofs.lemmas.List.{get_or-set_other}
use Rattle.std.proofs.Common.{◌≡◌, ◌≢◌, ◌<◌, ◌≤◌, ◌+◌, ℕ, suc, zero, Bool, true, false, cond, ◌&&◌, ◌==◌, List, [], ◌∷◌, refl, sym, ◌∙◌, ap, subst, arith, length, not, get_or, set, take, take_all, drop}
use Rattle.std.specs.Prelude.{map}
use Rattle.std.specs.List.{sum_by, count_by}
use Rattle.std.proofs.lemmas.List.Sums.{sum_by-cons}
use Rattle.sr_base.specs.Literal.{Literal, plus, complement, same, has, literal_code, NoRepeats}
use Rattle.sr_base.proofs.Literals.{same_tells}
use Rattle.sr_arena.specs.Cells.{Cell, Memory, gone, cell_at}
use Rattle.sr_model.specs.Refutation.{Includes, is_empty}
use Rattle.sr_model.proofs.Soundness.{by_test}
use Rattle.sr_lists.specs.declared.blocks.Watch.{Watch}
use Rattle.sr_lists.specs.Family.{Family, IsBegun, IsTaken}
use Rattle.sr_watch.specs.declared.parts.Part.{Part}
use Rattle.sr_watch.specs.declared.parts.Part.TheVariants.{Core, All}
use Rattle.sr_watch.specs.declared.watches.TheConstants.{UNSEEN}
use Rattle.sr_watch.specs.Parts.{counts, is_core}
use Rattle.sr_watch.specs.State.{IsSound, clauses_in, clauses_of}
use Rattle.sr_watch.specs.Inside.{part_of, slot_of}
use Rattle.sr_watch.specs.Marks.{joined}
use Rattle.sr_watch.specs.Trail.{Entries}
use Rattle.sr_watch.specs.Watching.{SomeTrue, is_watch, is_short, is_on, on_side, clause_on, key_of, is_of, is_stray, listed, left_of, AreStocked, AreLinked}
use Rattle.sr_watch.specs.Walking.{IsTurnedCell}
use Rattle.sr_watch.specs.Reading.{holds_on, holders, is_short_on, shorts, falls, falls_from, most_reads}
use Rattle.sr_watch.proofs.Listing.{count_cons}
use Rattle.sr_watch.proofs.Visits.{clause_here, on_turned, short_turned, distinct_cells}
use Rattle.sr_watch.proofs.OnWalk.{take_kept}
use Rattle.sr_watch.proofs.Falling.{falls_same, falls_split, falls_more, falls_whole}
use Rattle.sr_watch.proofs.Shorts.{blocker_single}
use Rattle.sr_watch.proofs.Holding.{few_of}
use Rattle.sr_watch.proofs.Falsities.{holders_in, falls_paid, falls_both, sum_cells}

-- a watch of a clause of the side
abbrev pub is_live : Bool → Memory → Watch → Bool
is_live core m w = on_side core m w.at

-- clauses in another order
pub holders_turned : (core : Bool) (m n : Memory) (k : Literal) → ((r : ℕ) → IsTurnedCell (cell_at m r) (cell_at n r)) → holders core n k ≡ holders core m k
holders_turned core m n k t = sum_cells (λ c. cond (holds_on core k c) 1 0) refl m.cells n.cells (λ r. same_cell r)
  where
    same_cell : (r : ℕ) → cond {A = ℕ} (holds_on core k (cell_at n r)) 1 0 ≡ cond (holds_on core k (cell_at m r)) 1 0
    same_cell r = let on : is_on core (cell_at n r) ≡ is_on core (cell_at m r) = on_turned core (cell_at m r) (cell_at n r) (t r) in rw (on, (t r).set k) refl

pub shorts_turned : (core : Bool) (m n : Memory) → ((r : ℕ) → IsTurnedCell (cell_at m r) (cell_at n r)) → shorts core n ≡ shorts core m
shorts_turned core m n t = sum_cells (λ c. cond (is_short_on core c) 1 0) refl m.cells n.cells (λ r. same_cell r)
  where
    same_cell : (r : ℕ) → cond {A = ℕ} (is_short_on core (cell_at n r)) 1 0 ≡ cond (is_short_on core (cell_at m r)) 1 0
    same_cell r = let on : is_on core (cell_at n r) ≡ is_on core (cell_at m r) = on_turned core (cell_at m r) (cell_at n r) (t r) in rw (on, short_turned (cell_at m r) (cell_at n r) (t r)) refl

pub live_turned : (core : Bool) (m n : Memory) (ws : List Watch) → ((r : ℕ) → IsTurnedCell (cell_at m r) (cell_at n r)) → count_by (is_live core n) ws ≡ count_by (is_live core m) ws
live_turned core m n [] t = refl
live_turned core m n (w ∷ ws) t =
    let one : cond {A = ℕ} (is_live core n w) 1 0 ≡ cond (is_live core m w) 1 0 = ap (λ b. cond b 1 0) (on_turned core (cell_at m w.at) (cell_at n w.at) (t w.at)) in
    omega (arith, live_turned core m n ws t, one, count_cons (is_live core n) w ws, count_cons (is_live core m) w ws)

-- a watch is taken
pub live_taken : (core : Bool) (m : Memory) (f g : Family) (w : Watch) → IsTaken f g w → count_by (is_live core m) f.ahead ≡ cond (is_live core m w) 1 0 + count_by (is_live core m) g.ahead
live_taken core m f g w t = t.ahead (is_live core m) ∙ count_cons (is_live core m) w g.ahead

pub live_taken_on : (core : Bool) (m : Memory) (f g : Family) (w : Watch) → on_side core m w.at ≡ true → IsTaken f g w → count_by (is_live core m) f.ahead ≡ 1 + count_by (is_live core m) g.ahead
live_taken_on core m f g w o t = let one : cond {A = ℕ} (is_live core m w) 1 0 ≡ 1 = rw o refl in omega (arith, one, live_taken core m f g w t)

-- a walk begins: each clause of the side that is ahead holds the literal, and is there once
watch_has : (c : List Literal) (k : Literal) → is_watch c k ≡ true → has k c ≡ true
watch_has [] k h = absurd cc
watch_has (x ∷ []) k h = absurd cc
watch_has (x ∷ y ∷ c) k h = grind (arith, h)

pub live_begun : (core : Bool) (m : Memory) (f g : Family) (l : Literal) → IsBegun f g (key_of l) → AreLinked core m f → count_by (is_live core m) g.ahead ≤ holders core m l
live_begun core m f g l b li = few_of core (λ c. cond (holds_on core l c) 1 0) m g.ahead few
  where
    few : (r : ℕ) → on_side core m r ≡ true → left_of g.ahead r ≤ cond (holds_on core l (cell_at m r)) 1 0
    few r o =
        let all : left_of g.ahead r ≡ cond (is_watch (cell_at m r).lits l) 1 0 = b.ahead (is_of r) ∙ li r l o ∙ ap (λ c. cond (is_watch c l) 1 0) (clause_here core m r o) in
        by_test (is_watch (cell_at m r).lits l)
        (λ t. let one : left_of g.ahead r ≡ 1 = rw t at all in let h : has l (cell_at m r).lits ≡ true = watch_has (cell_at m r).lits l t in let here : holds_on core l (cell_at m r) ≡ true = rw (o, h) refl in rw here (omega (arith, one)))
        (λ t. let none : left_of g.ahead r ≡ 0 = rw t at all in omega (arith, none))

-- one entry more is walked for
pub reads_more : (core : Bool) (m0 m : Memory) (s t : List Literal) (from at old mid new : ℕ) → ((r : ℕ) → IsTurnedCell (cell_at m0 r) (cell_at m r)) → from ≤ at → at < length s → take (length s) t ≡ s → mid ≤ old + falls_from (holders core m0) (take at s) from
    → new ≤ mid + cond (has (get_or s at (plus 0)) (take at s)) 0 (holders core m (complement (get_or s at (plus 0)))) → new ≤ old + falls_from (holders core m0) (take (at + 1) t) from
reads_more core m0 m s t from at old mid new turned low lt kept before here =
    let front : take (at + 1) t ≡ take (at + 1) s = take_kept s t (at + 1) (omega (arith, lt)) kept in
    let same : holders core m (complement (get_or s at (plus 0))) ≡ holders core m0 (complement (get_or s at (plus 0))) = holders_turned core m0 m (complement (get_or s at (plus 0))) turned in
    let now : new ≤ mid + cond (has (get_or s at (plus 0)) (take at s)) 0 (holders core m0 (complement (get_or s at (plus 0)))) = rw same at here in
    rw front (omega (arith, before, now, falls_more (holders core m0) s from at low lt))

pub reads_stopped : (core : Bool) (m : Memory) (t : List Literal) (from at old new : ℕ) → from ≤ at → at < length t → new ≤ old + falls_from (holders core m) (take (at + 1) t) from → new ≤ old + falls_from (holders core m) t from
reads_stopped core m t from at old new low lt h = omega (arith, h, falls_whole (holders core m) t from (at + 1) (omega (arith, low)) (omega (arith, lt)))

-- what was read over both sides, by how far each was walked
abbrev pub reads_both : Memory → List Literal → ℕ → ℕ → ℕ → ℕ → ℕ
reads_both m t c0 c r0 r = falls_from (holders true m) (take c t) c0 + falls_from (holders false m) (take r t) r0 + shorts true m + shorts false m + 2

-- all entries are walked for on the core
pub both_closed : (m0 m : Memory) (s t : List Literal) (c0 c r0 r old mid new : ℕ) → ((i : ℕ) → IsTurnedCell (cell_at m0 i) (cell_at m i)) → c0 ≤ c → c ≤ length s → r ≤ length s → take (length s) t ≡ s → length s ≤ length t → mid ≤ old + reads_both m0 s c0 c r0 r → new ≤ mid + falls_from (holders true m) t c
    → new ≤ old + reads_both m0 t c0 (length t) r0 r
both_closed m0 m s t c0 c r0 r old mid new turned low c_le r_le kept longer before here =
    let same : falls_from (holders true m) t c ≡ falls_from (holders true m0) t c = falls_same (holders true m) (holders true m0) (take c t) (drop c t) (λ k. holders_turned true m0 m k turned) in
    let cs : take c t ≡ take c s = take_kept s t c c_le kept in
    let rs : take r t ≡ take r s = take_kept s t r r_le kept in
    let whole : take (length t) t ≡ t = take_all (length t) t (omega arith) in
    let a : falls_from (holders true m0) (take c s) c0 ≡ falls_from (holders true m0) (take c t) c0 = ap (λ x. falls_from (holders true m0) x c0) (sym cs) in
    let b : falls_from (holders false m0) (take r s) r0 ≡ falls_from (holders false m0) (take r t) r0 = ap (λ x. falls_from (holders false m0) x r0) (sym rs) in
    let d : falls_from (holders true m0) (take (length t) t) c0 ≡ falls_from (holders true m0) t c0 = ap (λ x. falls_from (holders true m0) x c0) whole in
    omega (arith, before, here, same, a, b, d, falls_split (holders true m0) t c0 c low (omega (arith, c_le, longer)))

-- one entry more is walked for on the rest
pub both_advanced : (m0 m : Memory) (s t : List Literal) (c0 c r0 r old mid new : ℕ) → ((i : ℕ) → IsTurnedCell (cell_at m0 i) (cell_at m i)) → r0 ≤ r → c ≤ length s → r < length s → take (length s) t ≡ s → mid ≤ old + reads_both m0 s c0 c r0 r
    → new ≤ mid + cond (has (get_or s r (plus 0)) (take r s)) 0 (holders false m (complement (get_or s r (plus 0)))) → new ≤ old + reads_both m0 t c0 c r0 (r + 1)
both_advanced m0 m s t c0 c r0 r old mid new turned low c_le lt kept before here =
    let cs : take c t ≡ take c s = take_kept s t c c_le kept in
    let a : falls_from (holders true m0) (take c s) c0 ≡ falls_from (holders true m0) (take c t) c0 = ap (λ x. falls_from (holders true m0) x c0) (sym cs) in
    let others : ℕ = falls_from (holders true m0) (take c s) c0 + shorts true m0 + shorts false m0 + 2 in
    let b : mid ≤ old + others + falls_from (holders false m0) (take r s) r0 = omega (arith, before) in
    omega (arith, a, reads_more false m0 m s t r0 r (old + others) mid new turned low lt kept b here)

pub both_whole : (m : Memory) (t : List Literal) (c0 c r0 r old new : ℕ) → c0 ≤ c → c ≤ length t → r0 ≤ r → r ≤ length t → new ≤ old + reads_both m t c0 c r0 r
    → new ≤ old + falls_from (holders true m) t c0 + falls_from (holders false m) t r0 + shorts true m + shorts false m + 2
both_whole m t c0 c r0 r old new cl ce rl re h = omega (arith, h, falls_whole (holders true m) t c0 c cl ce, falls_whole (holders false m) t r0 r rl re)

-- lists that lie apart
sum_out : (p : Watch → Bool) (ls : List (List Watch)) (i : ℕ) → sum_by (count_by p) ls ≡ count_by p (get_or ls i []) + sum_by (count_by p) (set ls i [])
sum_out p [] i = refl
sum_out p (a ∷ ls) zero = let z : count_by p [] ≡ 0 = refl in omega (arith, z, sum_by-cons (λ (x : List Watch). count_by p x) a ls, sum_by-cons (λ (x : List Watch). count_by p x) [] ls)
sum_out p (a ∷ ls) (suc i) = omega (arith, sum_out p ls i, sum_by-cons (λ (x : List Watch). count_by p x) a ls, sum_by-cons (λ (x : List Watch). count_by p x) a (set ls i []))

three_lists : (p : Watch → Bool) (ls : List (List Watch)) (i j k : ℕ) → j ≢ i → k ≢ i → k ≢ j → count_by p (get_or ls i []) + count_by p (get_or ls j []) + count_by p (get_or ls k []) ≤ sum_by (count_by p) ls
three_lists p ls i j k ji ki kj =
    let ms : List (List Watch) = set ls i [] in
    let ns : List (List Watch) = set ms j [] in
    let b : count_by p (get_or ms j []) ≡ count_by p (get_or ls j []) = ap (count_by p) (get_or-set_other ls i j [] [] ji) in
    let c : count_by p (get_or ns k []) ≡ count_by p (get_or ls k []) = ap (count_by p) (get_or-set_other ms j k [] [] kj ∙ get_or-set_other ls i k [] [] ki) in
    omega (arith, sum_out p ls i, sum_out p ms j, sum_out p ns k, b, c)

keys_apart : (l k : Literal) → same l k ≡ false → key_of k ≢ key_of l
unfolding same
keys_apart l k f e = let is : literal_code l ≡ literal_code k = omega (arith, e) in absurd (grind (arith, nat_tests))

-- a clause of two literals or more isn't looked at as a shorter one
long_unlisted : (core : Bool) (m : Memory) (f : Family) (left : List Watch) (r : ℕ) → AreStocked core m f left → AreLinked core m f → on_side core m r ≡ true → NoRepeats (cell_at m r).lits → is_short (cell_at m r).lits ≡ false → left_of left r ≡ 0
long_unlisted core m f left r st li o n s = go (cell_at m r).lits refl n s
  where
    go : (c : List Literal) → (cell_at m r).lits ≡ c → NoRepeats c → is_short c ≡ false → left_of left r ≡ 0
    go [] is n s = absurd cc
    go (x ∷ []) is n s = absurd cc
    go (x ∷ y ∷ c) is n s =
        let here : clause_on core m r ≡ x ∷ y ∷ c = clause_here core m r o ∙ is in
        let wx : is_watch (x ∷ y ∷ c) x ≡ true = grind (arith, same_tells x x) in
        let wy : is_watch (x ∷ y ∷ c) y ≡ true = grind (arith, same_tells y y) in
        let atx : listed f r x ≡ cond (is_watch (clause_on core m r) x) 1 0 = li r x o in
        let aty : listed f r y ≡ cond (is_watch (clause_on core m r) y) 1 0 = li r y o in
        let one : cond {A = ℕ} (is_watch (clause_on core m r) x) 1 0 ≡ 1 = rw (here, wx) refl in
        let two : cond {A = ℕ} (is_watch (clause_on core m r) y) 1 0 ≡ 1 = rw (here, wy) refl in
        let apart : same y x ≡ false = grind (arith, n.0) in
        omega (arith, atx, aty, one, two, st.few r, three_lists (is_of r) f.lists UNSEEN (key_of x) (key_of y) (λ e. absurd (omega (arith, e))) (λ e. absurd (omega (arith, e))) (λ e. keys_apart y x apart (sym e)))

-- a clause that is looked at as one of at most one literal is one
pub hand_short : (core : Bool) (m : Memory) (e : Entries) (f g : Family) (w : Watch) → IsSound (joined e m) → IsTaken f g w → AreStocked core m f f.ahead → AreLinked core m f → on_side core m w.at ≡ true → is_short (cell_at m w.at).lits ≡ true
hand_short core m e f g w x t st li o = by_test (is_short (cell_at m w.at).lits) (λ s. s)
    (λ s. let none : left_of f.ahead w.at ≡ 0 = long_unlisted core m f f.ahead w.at st li o (distinct_cells m e x w.at) s in
    let self : (w.at == w.at) ≡ true = grind (arith, nat_tests) in
    let one : cond {A = ℕ} (is_of w.at w) 1 0 ≡ 1 = rw self refl in
    absurd (omega (arith, none, t.ahead (is_of w.at), count_cons (is_of w.at) w g.ahead, one)))

-- a clause that isn't empty is listed with a literal of it
pub listed_with : (m : Memory) (w : Watch) → is_stray m w ≡ false → 0 < length (cell_at m w.at).lits → has w.blocker (cell_at m w.at).lits ≡ true
listed_with m w ok some = by_test (has w.blocker (cell_at m w.at).lits) (λ y. y)
    (λ y. let n : is_empty (cell_at m w.at).lits ≡ false = not_empty (cell_at m w.at).lits some in
    let st : is_stray m w ≡ true = rw (y, n) refl in absurd cc)
  where
    not_empty : (c : List Literal) → 0 < length c → is_empty c ≡ false
    not_empty [] p = absurd (omega (arith, p))
    not_empty (l ∷ c) p = refl

-- the first literal of a clause is true
abbrev pub is_first_true : List Literal → List Literal → Bool
is_first_true t [] = false
is_first_true t (l ∷ c) = has l t

-- a clause of a side has at most one literal, and that is true
abbrev pub is_met : Bool → List Literal → Cell → Bool
is_met core t c = is_short_on core c && is_first_true t c.lits

-- how many clauses of a side do so
abbrev pub mets : Bool → Memory → List Literal → ℕ
mets core m t = count_by (is_met core t) m.cells

short_first : (c t : List Literal) → is_short c ≡ true → SomeTrue t c → is_first_true t c ≡ true
short_first [] t s x = let h : has x.literal [] ≡ true = x.of_clause in absurd cc
short_first (l ∷ []) t s x = let h : has x.literal (l ∷ []) ≡ true = x.of_clause in let e : l ≡ x.literal = grind (arith, same_tells l x.literal) in subst (λ k. has k t ≡ true) (sym e) x.is_true
short_first (l ∷ k ∷ c) t s x = absurd cc

fewer : (p q : Cell → Bool) (cs : List Cell) → ((c : Cell) → p c ≡ true → q c ≡ true) → count_by p cs ≤ count_by q cs
fewer p q [] f = omega arith
fewer p q (c ∷ cs) f =
    let one : cond {A = ℕ} (p c) 1 0 ≤ cond (q c) 1 0 = by_test (p c) (λ t. rw (t, f c t) (omega arith)) (λ t. rw t (omega arith)) in
    omega (arith, one, fewer p q cs f, sum_by-cons (λ (x : Cell). cond {A = ℕ} (p x) 1 0) c cs, sum_by-cons (λ (x : Cell). cond {A = ℕ} (q x) 1 0) c cs)

one_fewer : (p q : Cell → Bool) (cs : List Cell) (r : ℕ) → ((c : Cell) → p c ≡ true → q c ≡ true) → q gone ≡ false → p (get_or cs r gone) ≡ false → q (get_or cs r gone) ≡ true → count_by p cs + 1 ≤ count_by q cs
one_fewer p q [] r f z a b = absurd cc
one_fewer p q (c ∷ cs) zero f z a b =
    let one : cond {A = ℕ} (p c) 1 0 ≡ 0 = rw a refl in
    let two : cond {A = ℕ} (q c) 1 0 ≡ 1 = rw b refl in
    omega (arith, one, two, fewer p q cs f, sum_by-cons (λ (x : Cell). cond {A = ℕ} (p x) 1 0) c cs, sum_by-cons (λ (x : Cell). cond {A = ℕ} (q x) 1 0) c cs)
one_fewer p q (c ∷ cs) (suc r) f z a b =
    let one : cond {A = ℕ} (p c) 1 0 ≤ cond (q c) 1 0 = by_test (p c) (λ t. rw (t, f c t) (omega arith)) (λ t. rw t (omega arith)) in
    omega (arith, one, one_fewer p q cs r f z a b, sum_by-cons (λ (x : Cell). cond {A = ℕ} (p x) 1 0) c cs, sum_by-cons (λ (x : Cell). cond {A = ℕ} (q x) 1 0) c cs)

met_short : (core : Bool) (t : List Literal) (c : Cell) → is_met core t c ≡ true → is_short_on core c ≡ true
met_short core t c h = by_test (is_short_on core c) (λ y. y) (λ y. let z : is_met core t c ≡ false = rw y refl in absurd cc)

met_kept : (core : Bool) (t u : List Literal) (c : Cell) → Includes t u → is_met core t c ≡ true → is_met core u c ≡ true
met_kept core t u c inc h =
    let s : is_short_on core c ≡ true = met_short core t c h in
    let f : is_first_true t c.lits ≡ true = rw s at h in
    rw s (go c.lits f)
  where
    go : (ls : List Literal) → is_first_true t ls ≡ true → is_first_true u ls ≡ true
    go [] f = absurd cc
    go (l ∷ ls) f = inc l f

gone_short : (core : Bool) → is_short_on core gone ≡ false
gone_short true = refl
gone_short false = refl

gone_met : (core : Bool) (t : List Literal) → is_met core t gone ≡ false
gone_met true t = refl
gone_met false t = refl

pub mets_few : (core : Bool) (m : Memory) (t : List Literal) → mets core m t ≤ shorts core m
mets_few core m t = fewer (is_met core t) (is_short_on core) m.cells (met_short core t)

pub mets_kept : (core : Bool) (m : Memory) (t u : List Literal) → Includes t u → mets core m t ≤ mets core m u
mets_kept core m t u inc = fewer (is_met core t) (is_met core u) m.cells (λ c. met_kept core t u c inc)

-- a clause that wasn't true is true now
pub mets_more : (core : Bool) (m : Memory) (t u : List Literal) (r : ℕ) → Includes t u → on_side core m r ≡ true → is_short (cell_at m r).lits ≡ true → is_first_true t (cell_at m r).lits ≡ false → SomeTrue u (cell_at m r).lits → mets core m t + 1 ≤ mets core m u
mets_more core m t u r inc o s f x = one_fewer (is_met core t) (is_met core u) m.cells r (λ c. met_kept core t u c inc) (gone_met core u)
    (rw (o, s, f) refl) (rw (o, s) (short_first (cell_at m r).lits u s x))

-- a clause isn't true
pub mets_fewer : (core : Bool) (m : Memory) (t : List Literal) (r : ℕ) → on_side core m r ≡ true → is_short (cell_at m r).lits ≡ true → is_first_true t (cell_at m r).lits ≡ false → mets core m t + 1 ≤ shorts core m
mets_fewer core m t r o s f = one_fewer (is_met core t) (is_short_on core) m.cells r (met_short core t) (gone_short core) (rw (o, s, f) refl) (rw (o, s) refl)

-- what a look at a clause that is listed with its literal reads
pub looked_reads : (core : Bool) (m : Memory) (t u : List Literal) (w : Watch) (old new : ℕ) → is_stray m w ≡ false → Includes t u → on_side core m w.at ≡ true → is_short (cell_at m w.at).lits ≡ true → SomeTrue u (cell_at m w.at).lits
    → new ≤ old + 1 → (0 < length (cell_at m w.at).lits → has w.blocker t ≡ true → new ≡ old) → new + mets core m t ≤ old + mets core m u
looked_reads core m t u w old new ok inc o s x most free = by_test (is_first_true t (cell_at m w.at).lits)
    (λ y. let first = first_some (cell_at m w.at).lits y in
    let b = blocker_single m w t ok s first.1 in
    omega (arith, free first.0 b.1, mets_kept core m t u inc))
    (λ y. omega (arith, most, mets_more core m t u w.at inc o s y x))
  where
    first_some : (c : List Literal) → is_first_true t c ≡ true → (0 < length c) × SomeTrue t c
    first_some [] y = absurd cc
    first_some (l ∷ c) y = (omega arith, record { literal = l; of_clause = grind (arith, same_tells l l); is_true = y })

-- a look at one that is false
pub stopped_reads : (core : Bool) (m : Memory) (t : List Literal) (w : Watch) (start now old new : ℕ) → is_stray m w ≡ false → on_side core m w.at ≡ true → is_short (cell_at m w.at).lits ≡ true
    → new ≤ now + 1 → (0 < length (cell_at m w.at).lits → has w.blocker t ≡ true → ⊥) → now + start ≤ old + mets core m t → new ≤ old + shorts core m
stopped_reads core m t w start now old new ok o s most free h = by_test (is_first_true t (cell_at m w.at).lits)
    (λ y. let first = first_some (cell_at m w.at).lits y in
    let b = blocker_single m w t ok s first.1 in absurd (free first.0 b.1))
    (λ y. omega (arith, most, h, mets_fewer core m t w.at o s y))
  where
    first_some : (c : List Literal) → is_first_true t c ≡ true → (0 < length c) × SomeTrue t c
    first_some [] y = absurd cc
    first_some (l ∷ c) y = (omega arith, record { literal = l; of_clause = grind (arith, same_tells l l); is_true = y })

-- the clauses of the core, and those of both sides
core_first : (q : List Literal → Bool) (a b : Bool) (c : List Literal) (rest : List (List Literal)) → count_by q (cond (counts Core (part_of a b)) (c ∷ rest) rest) ≡ cond ((a && cond true b (not b)) && q c) 1 0 + count_by q rest
core_first q true true c rest = sum_by-cons (λ (x : List Literal). cond (q x) 1 0) c rest
core_first q true false c rest = omega arith
core_first q false b c rest = omega arith

all_first : (q : List Literal → Bool) (a b : Bool) (c : List Literal) (rest : List (List Literal))
    → count_by q (cond (counts All (part_of a b)) (c ∷ rest) rest) ≡ cond ((a && cond true b (not b)) && q c) 1 0 + cond ((a && cond false b (not b)) && q c) 1 0 + count_by q rest
all_first q true true c rest = omega (arith, sum_by-cons (λ (x : List Literal). cond (q x) 1 0) c rest)
all_first q true false c rest = omega (arith, sum_by-cons (λ (x : List Literal). cond (q x) 1 0) c rest)
all_first q false b c rest = omega arith

core_count : (q : List Literal → Bool) (cs : List Cell) → count_by (λ c. is_on true c && q c.lits) cs ≡ count_by q (clauses_in Core (map slot_of cs))
core_count q [] = refl
core_count q (c ∷ cs) = omega (arith, core_count q cs, core_first q c.marked c.flagged c.lits (clauses_in Core (map slot_of cs)), sum_by-cons (λ (x : Cell). cond {A = ℕ} (is_on true x && q x.lits) 1 0) c cs)

all_count : (q : List Literal → Bool) (cs : List Cell) → count_by (λ c. is_on true c && q c.lits) cs + count_by (λ c. is_on false c && q c.lits) cs ≡ count_by q (clauses_in All (map slot_of cs))
all_count q [] = refl
all_count q (c ∷ cs) = omega (arith, all_count q cs, all_first q c.marked c.flagged c.lits (clauses_in All (map slot_of cs)), sum_by-cons (λ (x : Cell). cond {A = ℕ} (is_on true x && q x.lits) 1 0) c cs, sum_by-cons (λ (x : Cell). cond {A = ℕ} (is_on false x && q x.lits) 1 0) c cs)

-- from a place on, less falls
falls_less : (h : Literal → ℕ) (t : List Literal) (from : ℕ) → from ≤ length t → falls_from h t from ≤ falls h [] t
falls_less h t from le = omega (arith, falls_split h t 0 from (omega arith) le)

-- what is read over a part, as callers see it
pub reads_core : (m : Memory) (e : Entries) (from old new : ℕ) → from ≤ length e.lits → new ≤ old + falls_from (holders true m) e.lits from + shorts true m + 1 → new ≤ old + most_reads Core (joined e m)
reads_core m e from old new le h =
    let cs : List (List Literal) = clauses_of (joined e m) Core in
    let a : falls (holders true m) [] e.lits ≡ falls (holders_in cs) [] e.lits = falls_same (holders true m) (holders_in cs) [] e.lits (λ k. core_count (has k) m.cells) in
    let b : shorts true m ≡ count_by is_short cs = core_count is_short m.cells in
    omega (arith, h, falls_less (holders true m) e.lits from le, a, b, falls_paid cs e.lits)

pub reads_all : (m : Memory) (e : Entries) (from more old new : ℕ) → from ≤ length e.lits → more ≤ length e.lits
    → new ≤ old + falls_from (holders true m) e.lits from + falls_from (holders false m) e.lits more + shorts true m + shorts false m + 2 → new ≤ old + most_reads All (joined e m)
reads_all m e from more old new le le' h =
    let cs : List (List Literal) = clauses_of (joined e m) All in
    let a : falls (λ k. holders true m k + holders false m k) [] e.lits ≡ falls (holders_in cs) [] e.lits = falls_same (λ k. holders true m k + holders false m k) (holders_in cs) [] e.lits (λ k. all_count (has k) m.cells) in
    let b : shorts true m + shorts false m ≡ count_by is_short cs = all_count is_short m.cells in
    omega (arith, h, falls_less (holders true m) e.lits from le, falls_less (holders false m) e.lits more le', falls_both (holders true m) (holders false m) [] e.lits, a, b, falls_paid cs e.lits)

-- the same, where the clauses are in another order now
pub core_reads : (p : Part) (m n : Memory) (e : Entries) (from old new : ℕ) → is_core p ≡ true → ((r : ℕ) → IsTurnedCell (cell_at m r) (cell_at n r)) → from ≤ length e.lits → new ≤ old + falls_from (holders true m) e.lits from + shorts true m + 1
    → new ≤ old + most_reads p (joined e n)
core_reads All m n e from old new is t le h = absurd cc
core_reads Core m n e from old new is t le h =
    let a : falls_from (holders true n) e.lits from ≡ falls_from (holders true m) e.lits from = falls_same (holders true n) (holders true m) (take from e.lits) (drop from e.lits) (λ k. holders_turned true m n k t) in
    reads_core n e from old new le (omega (arith, h, a, shorts_turned true m n t))

pub all_reads : (p : Part) (m n : Memory) (e : Entries) (from more old new : ℕ) → is_core p ≡ false → ((r : ℕ) → IsTurnedCell (cell_at m r) (cell_at n r)) → from ≤ length e.lits → more ≤ length e.lits
    → new ≤ old + falls_from (holders true m) e.lits from + falls_from (holders false m) e.lits more + shorts true m + shorts false m + 2 → new ≤ old + most_reads p (joined e n)
all_reads Core m n e from more old new is t le le' h = absurd cc
all_reads All m n e from more old new is t le le' h =
    let a : falls_from (holders true n) e.lits from ≡ falls_from (holders true m) e.lits from = falls_same (holders true n) (holders true m) (take from e.lits) (drop from e.lits) (λ k. holders_turned true m n k t) in
    let b : falls_from (holders false n) e.lits more ≡ falls_from (holders false m) e.lits more = falls_same (holders false n) (holders false m) (take more e.lits) (drop more e.lits) (λ k. holders_turned false m n k t) in
    reads_all n e from more old new le le' (omega (arith, h, a, b, shorts_turned true m n t, shorts_turned false m n t))
