-- Lemmas on what a checker keeps.
use Rattle.std.proofs.Common.{◌≡◌, ℕ, ◌+◌, ◌<◌, ◌≤◌, ◌==◌, true, false, List, [], ◌∷◌, ◌++◌, length, get_or, take, refl, sym, ◌∙◌, ap, subst, arith, None}
use Rattle.std.proofs.lemmas.List.{take_more, length-take-le}
use Rattle.std.proofs.lemmas.List.Sums.{sum_by-cons, sum_by_push, sum_by-take-le}
use Rattle.std.proofs.lemmas.Bool.Decides.{nat_tests}
use Rattle.sr_base.specs.Literal.{Literal}
use Rattle.sr_model.specs.Assignment.{holds_number}
use Rattle.sr_model.specs.Chain.{Numbered, clauses, clause_of}
use Rattle.sr_model.specs.Judging.{without, numbered_from, clause_cells, cells_of}
use Rattle.sr_check.specs.declared.meeting.Scratch.{Scratch}
use Rattle.sr_check.specs.Trail.{Covers, CoversAll, CoversClauses}
use Rattle.sr_check.specs.Ready.{IsReady}
use Rattle.sr_check.specs.Checking.{AreBelow, KeepsChecking}
use Rattle.sr_occurs.specs.Occurring.{under, AreUnder, KeepsListed}
use Rattle.sr_check.specs.Candidates.{RiseFrom}
use Rattle.sr_table.proofs.Paging.{by_test}
use Rattle.sr_check.proofs.Following.{covered_more, clauses_more}

-- one more literal is covered
pub covered_push : (room : ℕ) (ls : List Literal) (l : Literal) → CoversAll room ls → Covers room l → CoversAll room (ls ++ l ∷ [])
covered_push room [] l c h = (h, tt)
covered_push room (k ∷ ls) l c h = (c.0, covered_push room ls l c.1 h)

pub covered_step : (low high : ℕ) (ls : List Literal) (i : ℕ) (l : Literal) → low ≤ high → i < length ls → l ≡ get_or ls i l → CoversAll low (take i ls) → Covers high l → CoversAll high (take (i + 1) ls)
covered_step low high ls i l le h e c more = rw (take_more ls i l h ∙ ap (λ x. take i ls ++ x ∷ []) (sym e)) (covered_push high (take i ls) l (covered_more low high (take i ls) le c) more)

pub clauses_push : (room : ℕ) (cs : List (List Literal)) (c : List Literal) → CoversClauses room cs → CoversAll room c → CoversClauses room (cs ++ c ∷ [])
clauses_push room [] c h k = (k, tt)
clauses_push room (d ∷ cs) c h k = (h.0, clauses_push room cs c h.1 k)

-- the clauses of a list with one more at the end
pub clauses-push : (live : Numbered) (n : ℕ) (c : List Literal) → clauses (live ++ (n, c) ∷ []) ≡ clauses live ++ c ∷ []
clauses-push [] n c = refl
clauses-push (p ∷ live) n c = ap (λ x. p.1 ∷ x) (clauses-push live n c)

pub cells_push : (live : Numbered) (n : ℕ) (c : List Literal) → cells_of (clauses (live ++ (n, c) ∷ [])) ≡ cells_of (clauses live) + clause_cells c
cells_push live n c = ap cells_of (clauses-push live n c) ∙ sum_by_push clause_cells (clauses live) c

-- numbers below a bound
pub below_more : (live : Numbered) (low high : ℕ) → low ≤ high → AreBelow low live → AreBelow high live
below_more [] low high le h = tt
below_more (p ∷ ps) low high le h = (omega (arith, h.0), below_more ps low high le h.1)

pub below_push : (live : Numbered) (n bound : ℕ) (c : List Literal) → AreBelow bound live → n < bound → AreBelow bound (live ++ (n, c) ∷ [])
below_push [] n bound c h lt = (lt, tt)
below_push (p ∷ ps) n bound c h lt = (h.0, below_push ps n bound c h.1 lt)

pub below_absent : (live : Numbered) (n bound : ℕ) → AreBelow bound live → bound ≤ n → clause_of live n ≡ None
below_absent [] n bound h le = refl
below_absent (p ∷ ps) n bound h le = let f : (p.0 == n) ≡ false = let lt = h.0 in grind (arith, nat_tests, lt) in rw f (below_absent ps n bound h.1 le)

-- what is left where numbers are dropped
pub below_without : (bound : ℕ) (ids : List ℕ) (live : Numbered) → AreBelow bound live → AreBelow bound (without ids live)
below_without bound ids [] h = tt
below_without bound ids (p ∷ ps) h = by_test (holds_number p.0 ids)
    (λ t. rw t (below_without bound ids ps h.1))
    (λ f. rw f (h.0, below_without bound ids ps h.1))

pub covered_without : (room : ℕ) (ids : List ℕ) (live : Numbered) → CoversClauses room (clauses live) → CoversClauses room (clauses (without ids live))
covered_without room ids [] h = tt
covered_without room ids (p ∷ ps) h = by_test (holds_number p.0 ids)
    (λ t. rw t (covered_without room ids ps h.1))
    (λ f. rw f (h.0, covered_without room ids ps h.1))

pub cells_without : (ids : List ℕ) (live : Numbered) → cells_of (clauses (without ids live)) ≤ cells_of (clauses live)
cells_without ids [] = omega arith
cells_without ids (p ∷ ps) =
    let all : cells_of (p.1 ∷ clauses ps) ≡ clause_cells p.1 + cells_of (clauses ps) = sum_by-cons clause_cells p.1 (clauses ps) in
    let kept : cells_of (p.1 ∷ clauses (without ids ps)) ≡ clause_cells p.1 + cells_of (clauses (without ids ps)) = sum_by-cons clause_cells p.1 (clauses (without ids ps)) in
    let rest : cells_of (clauses (without ids ps)) ≤ cells_of (clauses ps) = cells_without ids ps in
    by_test (holds_number p.0 ids)
    (λ t. rw t (rw all (omega (arith, rest))))
    (λ f. rw f (rw (all, kept) (omega (arith, rest))))

-- numbers that rise
rise_more : (low high : ℕ) (live : Numbered) → low ≤ high → RiseFrom high live → RiseFrom low live
rise_more low high [] h r = tt
rise_more low high (p ∷ ps) h r = (omega (arith, r.0), r.1)

pub rising_without : (low : ℕ) (ids : List ℕ) (live : Numbered) → RiseFrom low live → RiseFrom low (without ids live)
rising_without low ids [] r = tt
rising_without low ids (p ∷ ps) r = by_test (holds_number p.0 ids)
    (λ t. rw t (rise_more low (p.0 + 1) (without ids ps) (omega (arith, r.0)) (rising_without (p.0 + 1) ids ps r.1)))
    (λ f. rw f (r.0, rising_without (p.0 + 1) ids ps r.1))

pub rising_push : (low : ℕ) (live : Numbered) (n bound : ℕ) (c : List Literal) → RiseFrom low live → AreBelow bound live → low ≤ n → bound ≤ n → RiseFrom low (live ++ (n, c) ∷ [])
rising_push low [] n bound c r b le lt = (le, tt)
rising_push low (p ∷ ps) n bound c r b le lt = (r.0, rising_push (p.0 + 1) ps n bound c r.1 b.1 (omega (arith, b.0)) lt)

numbered_rise : (low n : ℕ) (f : List (List Literal)) → low ≤ n → RiseFrom low (numbered_from n f)
numbered_rise low n [] h = tt
numbered_rise low n (c ∷ f) h = (h, numbered_rise (n + 1) (n + 1) f (omega arith))

-- the lists of what is left
under_without : (lists : Literal → List ℕ) (ids : List ℕ) (live : Numbered) → AreUnder lists live → AreUnder lists (without ids live)
under_without lists ids [] u = tt
under_without lists ids (p ∷ ps) u = by_test (holds_number p.0 ids)
    (λ t. rw t (under_without lists ids ps u.1))
    (λ f. rw f (u.0, under_without lists ids ps u.1))

pub keeps_without : (most : ℕ) (live : Numbered) (last : ℕ) (scratch : Scratch) (ids : List ℕ) → KeepsChecking most live last scratch → KeepsChecking most (without ids live) last scratch
keeps_without most live last scratch ids k = record {
  ready = k.ready;
  below = below_without (last + 1) ids live k.below;
  rising = rising_without 0 ids live k.rising;
  lists = λ b. under_without (under scratch.lists) ids live (k.lists b);
  room = covered_without scratch.trail.room ids live k.room;
  cells = omega (arith, k.cells, cells_without ids live);
  limit = k.limit;
}

-- a clause under a new number
pub keeps_push : (most : ℕ) (live : Numbered) (last id : ℕ) (lits : List Literal) (old new : Scratch) → KeepsChecking most live last old → last < id → IsReady new → old.trail.room ≤ new.trail.room → CoversAll new.trail.room lits
    → KeepsListed new.lists (live ++ (id, lits) ∷ []) → cells_of (clauses live) + clause_cells lits ≤ most → KeepsChecking most (live ++ (id, lits) ∷ []) id new
keeps_push most live last id lits old new k lt ready room covered lists fits = record {
  ready = ready;
  below = below_push live id (id + 1) lits (below_more live (last + 1) (id + 1) (omega arith) k.below) (omega arith);
  rising = rising_push 0 live id (last + 1) lits k.rising k.below (omega arith) (omega arith);
  lists = lists;
  room = rw (clauses-push live id lits) (clauses_push new.trail.room (clauses live) lits (clauses_more old.trail.room new.trail.room (clauses live) room k.room) covered);
  cells = omega (arith, fits, cells_push live id lits);
  limit = k.limit;
}

pub keeps_room : (most : ℕ) (live : Numbered) (last : ℕ) (old new : Scratch) → KeepsChecking most live last old → IsReady new → old.trail.room ≤ new.trail.room → KeepsListed new.lists live → KeepsChecking most live last new
keeps_room most live last old new k ready room lists = record {
  ready = ready;
  below = k.below;
  rising = k.rising;
  lists = lists;
  room = clauses_more old.trail.room new.trail.room (clauses live) room k.room;
  cells = k.cells;
  limit = k.limit;
}

-- the clauses of a formula
pub numbered_push : (n : ℕ) (f : List (List Literal)) (c : List Literal) → numbered_from n (f ++ c ∷ []) ≡ numbered_from n f ++ (n + length f, c) ∷ []
numbered_push n [] c = ap (λ k. (k, c) ∷ []) (omega arith)
numbered_push n (d ∷ f) c = ap (λ x. (n, d) ∷ x) (numbered_push (n + 1) f c ∙ ap (λ k. numbered_from (n + 1) f ++ (k, c) ∷ []) (omega arith))

pub numbered_clauses : (n : ℕ) (f : List (List Literal)) → clauses (numbered_from n f) ≡ f
numbered_clauses n [] = refl
numbered_clauses n (c ∷ f) = ap (λ x. c ∷ x) (numbered_clauses (n + 1) f)

pub numbered_below : (n : ℕ) (f : List (List Literal)) → AreBelow (n + length f) (numbered_from n f)
numbered_below n [] = tt
numbered_below n (c ∷ f) = (omega arith, subst (λ k. AreBelow k (numbered_from (n + 1) f)) (omega arith) (numbered_below (n + 1) f))

pub cells_more : (f : List (List Literal)) (i : ℕ) (c : List Literal) → i < length f → c ≡ get_or f i c → cells_of (take (i + 1) f) ≡ cells_of (take i f) + clause_cells c
cells_more f i c h e = ap cells_of (take_more f i c h ∙ ap (λ x. take i f ++ x ∷ []) (sym e)) ∙ sum_by_push clause_cells (take i f) c

pub cells_take : (f : List (List Literal)) (i : ℕ) (c : List Literal) → i < length f → c ≡ get_or f i c → cells_of (take i f) + clause_cells c ≤ cells_of f
cells_take f i c h e =
    let more : take (i + 1) f ≡ take i f ++ c ∷ [] = take_more f i c h ∙ ap (λ x. take i f ++ x ∷ []) (sym e) in
    let sum : cells_of (take (i + 1) f) ≡ cells_of (take i f) + clause_cells c = ap cells_of more ∙ sum_by_push clause_cells (take i f) c in
    omega (arith, sum, sum_by-take-le clause_cells f (i + 1))

-- one more clause of a formula
pub record IsAdded (f : List (List Literal)) (i : ℕ) (live : Numbered) (room : ℕ) : Type 0 where
  pub live_is : live ≡ numbered_from 1 (take i f)
  pub covered : CoversClauses room (take i f)

pub added_absent : (f : List (List Literal)) (i : ℕ) (live : Numbered) (room : ℕ) → i < length f → IsAdded f i live room → clause_of live (i + 1) ≡ None
added_absent f i live room h a = rw a.live_is (below_absent (numbered_from 1 (take i f)) (i + 1) (1 + length (take i f)) (numbered_below 1 (take i f)) (omega (arith, length-take-le i f (omega arith))))

pub added_small : (f : List (List Literal)) (i : ℕ) (c : List Literal) (live : Numbered) (room : ℕ) → i < length f → c ≡ get_or f i c → IsAdded f i live room → cells_of (clauses live) + clause_cells c ≤ cells_of f
added_small f i c live room h e a = let all : cells_of (clauses live) ≡ cells_of (take i f) = ap (λ x. cells_of (clauses x)) a.live_is ∙ ap cells_of (numbered_clauses 1 (take i f)) in omega (arith, all, cells_take f i c h e)

same_entry : (m k : ℕ) (x : List Literal) → m ≡ k → ◌≡◌ {A = ℕ × List Literal} (m, x) (k, x)
same_entry m k x e = ap (λ (n : ℕ). let p : ℕ × List Literal = (n, x) in p) e

pub added_more : (f : List (List Literal)) (i : ℕ) (c : List Literal) (live live' : Numbered) (room room' : ℕ) → i < length f → c ≡ get_or f i c → IsAdded f i live room → live' ≡ live ++ (i + 1, c) ∷ [] → room ≤ room' → CoversAll room' c
    → IsAdded f (i + 1) live' room'
added_more f i c live live' room room' h e a put le covered =
    let more : take (i + 1) f ≡ take i f ++ c ∷ [] = take_more f i c h ∙ ap (λ x. take i f ++ x ∷ []) (sym e) in
    let long : length (take i f) ≡ i = length-take-le i f (omega arith) in
    record {
      live_is = put ∙ ap (λ x. x ++ (i + 1, c) ∷ []) a.live_is ∙ ap (λ x. numbered_from 1 (take i f) ++ x ∷ []) (same_entry (i + 1) (1 + length (take i f)) c (omega arith)) ∙ sym (numbered_push 1 (take i f) c) ∙ ap (numbered_from 1) (sym more);
      covered = rw more (clauses_push room' (take i f) c (clauses_more room room' (take i f) le a.covered) covered);
    }

-- a new checker
pub keeps_new : (most : ℕ) (f : List (List Literal)) (live : Numbered) (count : ℕ) (scratch : Scratch) → live ≡ numbered_from 1 f → count ≡ length f → IsReady scratch → scratch.lists.built ≡ false → CoversClauses scratch.trail.room (clauses live) → cells_of f ≤ most → most ≤ 268435456
    → KeepsChecking most live count scratch
keeps_new most f live count scratch is n ready bare covered fits limit = record {
  ready = ready;
  below = rw (is, n) (subst (λ k. AreBelow k (numbered_from 1 f)) (omega arith) (numbered_below 1 f));
  rising = rw is (numbered_rise 0 1 f (omega arith));
  lists = λ b. let c : false ≡ true = sym bare ∙ b in absurd cc;
  room = covered;
  cells = let all : cells_of (clauses live) ≡ cells_of f = ap (λ x. cells_of (clauses x)) is ∙ ap cells_of (numbered_clauses 1 f) in omega (arith, all);
  limit = limit;
}
