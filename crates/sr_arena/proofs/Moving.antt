-- Lemmas on compaction: cells that move in order, and clauses that slide down.
use Rattle.std.proofs.Common.{◌≡◌, ◌≢◌, ◌⊎◌, inl, inr, ◌<◌, ◌≤◌, ◌+◌, ◌-◌, ◌==◌, ℕ, suc, zero, Bool, true, false, cond, ltb, List, [], ◌∷◌, ◌++◌, refl, sym, ◌∙◌, ap, subst, arith, length, get_or, take, drop, append_assoc, append-nil}
use Rattle.std.specs.List.{copy_within}
use Rattle.std.proofs.lemmas.List.{length-append, length-drop, length-take-le, take-append-drop, take_at, drop_at, drop-drop, get_or-drop, get_or_past, take_all, length-map}
use Rattle.std.proofs.lemmas.List.Edits.{take-paste, drop-paste, length-paste}
use Rattle.std.proofs.lemmas.Bool.{cases_eq}
use Rattle.std.proofs.lemmas.Bool.Decides.{nat_tests}
use borrow.Author.Tests.{ltb-false}
use Rattle.std.proofs.Math.Seq.{paste}
use Rattle.sr_base.specs.Words.{literal_in}
use Rattle.sr_base.specs.declared.words.Word.{Word}
use Rattle.sr_arena.specs.declared.moves.Move.{Move}
use Rattle.sr_arena.specs.Cells.{Cell, gone, weight, weights, Memory}
use Rattle.sr_arena.specs.Compaction.{moved_to, moves_from, moves_of, words_of, words_in, AreRising, IsMoved, IsCompacted}
use Rattle.sr_arena.specs.Layout.{size_of, is_freed, clause, cells_from, cells_of, IsWalk, gones}
use Rattle.sr_arena.proofs.Weighing.{held_around, held_passed, around, around_here, around_other, weights_around, held_within}
use Rattle.sr_arena.proofs.Clauses.{IsBlock, walk_fits, walk_append, cells_append, cells_length, block, block_walk, block_is}

by_test : {P : Type 0} (b : Bool) → (b ≡ true → P) → (b ≡ false → P) → P
by_test true f g = f refl
by_test false f g = g refl

by_eq : {P : Type 0} (a b : ℕ) → (a ≡ b → P) → (a ≢ b → P) → P
by_eq {P} a b f g = at (cases_eq a b)
  where
    at : (a ≡ b) ⊎ (a ≡ b → ⊥) → P
    at (inl e) = f e
    at (inr n) = g n

-- no move begins at a reference
abbrev NotFrom : ℕ → List Move → Type 0
NotFrom at [] = Unit {0}
NotFrom at (m ∷ ms) = ((m.from == at) ≡ false) × NotFrom at ms

unequal : (a b : ℕ) → a ≢ b → (a == b) ≡ false
unequal a b ne = grind (arith, nat_tests)

equal : (a : ℕ) → (a == a) ≡ true
equal a = grind (arith, nat_tests)

moved_last : (ms : List Move) (n to : ℕ) → NotFrom n ms → moved_to (ms ++ record { from = n; to = to } ∷ []) n ≡ to
moved_last [] n to h = rw (equal n) refl
moved_last (m ∷ ms) n to h = rw h.0 (moved_last ms n to h.1)

moved_others : (ms : List Move) (n to at : ℕ) → at ≢ n → moved_to (ms ++ record { from = n; to = to } ∷ []) at ≡ moved_to ms at
moved_others [] n to at ne = rw (unequal n at (λ e. ne (sym e))) refl
moved_others (m ∷ ms) n to at ne = ap (cond (m.from == at) m.to) (moved_others ms n to at ne)

-- moves begin at references of the cells
moves_below : (f t : ℕ) (cs : List Cell) (at : ℕ) → f + length cs ≤ at → NotFrom at (moves_from f t cs)
moves_below f t [] at h = tt
moves_below f t (c ∷ cs) at h = by_test c.held
    (λ e. rw e (unequal f at (λ g. absurd (omega arith)), moves_below (f + 1) (t + (length c.lits + 2)) cs at (omega arith)))
    (λ e. rw e (moves_below (f + 1) t cs at (omega arith)))

moves_append : (f t : ℕ) (xs ys : List Cell) → moves_from f t (xs ++ ys) ≡ moves_from f t xs ++ moves_from (f + length xs) (t + words_in xs) ys
moves_append f t [] ys = let a : f + 0 ≡ f = omega arith in let b : t + 0 ≡ t = omega arith in rw (a, b) refl
moves_append f t (c ∷ cs) ys =
    let a : f + 1 + length cs ≡ f + suc (length cs) = omega arith in
    let b : t + words_of c + words_in cs ≡ t + (words_of c + words_in cs) = omega arith in
    by_test c.held
    (λ e. let step : moves_from (f + 1) (t + words_of c) (cs ++ ys) ≡ moves_from (f + 1) (t + words_of c) cs ++ moves_from (f + suc (length cs)) (t + (words_of c + words_in cs)) ys =
    moves_append (f + 1) (t + words_of c) cs ys ∙ ap (λ k. moves_from (f + 1) (t + words_of c) cs ++ moves_from k (t + words_of c + words_in cs) ys) a ∙ ap (λ k. moves_from (f + 1) (t + words_of c) cs ++ moves_from (f + suc (length cs)) k ys) b in
    ap (λ t'. cond t' (record { from = f; to = t } ∷ moves_from (f + 1) (t + words_of c) (cs ++ ys)) (moves_from (f + 1) t (cs ++ ys))) e
    ∙ ap (λ ms. record { from = f; to = t } ∷ ms) step
    ∙ sym (ap (λ t'. cond t' (record { from = f; to = t } ∷ moves_from (f + 1) (t + words_of c) cs) (moves_from (f + 1) t cs) ++ moves_from (f + suc (length cs)) (t + (words_of c + words_in cs)) ys) e))
    (λ e. let none : words_of c ≡ 0 = ap (λ t'. cond t' (length c.lits + 2) 0) e in
    let d : t + words_in cs ≡ t + (words_of c + words_in cs) = omega (arith, none) in
    let step : moves_from (f + 1) t (cs ++ ys) ≡ moves_from (f + 1) t cs ++ moves_from (f + suc (length cs)) (t + (words_of c + words_in cs)) ys =
    moves_append (f + 1) t cs ys ∙ ap (λ k. moves_from (f + 1) t cs ++ moves_from k (t + words_in cs) ys) a ∙ ap (λ k. moves_from (f + 1) t cs ++ moves_from (f + suc (length cs)) k ys) d in
    ap (λ t'. cond t' (record { from = f; to = t } ∷ moves_from (f + 1) (t + words_of c) (cs ++ ys)) (moves_from (f + 1) t (cs ++ ys))) e
    ∙ step
    ∙ sym (ap (λ t'. cond t' (record { from = f; to = t } ∷ moves_from (f + 1) (t + words_of c) cs) (moves_from (f + 1) t cs) ++ moves_from (f + suc (length cs)) (t + (words_of c + words_in cs)) ys) e))

moves_gones : (f t n : ℕ) → moves_from f t (gones n) ≡ []
moves_gones f t zero = refl
moves_gones f t (suc n) = moves_gones (f + 1) t n

-- the moves with one more clause
pub moves_passed : (cs : List Cell) (n : ℕ) → moves_of (cs ++ around gone n) ≡ moves_of cs
moves_passed cs n = moves_append 0 2 cs (around gone n) ∙ ap (λ ms. moves_of cs ++ ms) (moves_gones (0 + length cs + 1 + 1) (2 + words_in cs) n) ∙ append-nil (moves_of cs)

pub moves_taken : (cs : List Cell) (c : Cell) (n from to : ℕ) → c.held ≡ true → from ≡ length cs + 1 → to ≡ words_in cs + 2 → moves_of (cs ++ around c n) ≡ moves_of cs ++ record { from = from; to = to } ∷ []
moves_taken cs c n from to h ef et =
    let F : ℕ = 0 + length cs + 1 in
    let T : ℕ = 2 + words_in cs in
    let f : F ≡ from = omega arith in
    let t : T ≡ to = omega arith in
    moves_append 0 2 cs (around c n)
    ∙ ap (λ x. moves_of cs ++ cond x (record { from = F; to = T } ∷ moves_from (F + 1) (T + words_of c) (gones n)) (moves_from (F + 1) T (gones n))) h
    ∙ ap (λ ms. moves_of cs ++ (record { from = F; to = T } ∷ ms)) (moves_gones (F + 1) (T + words_of c) n)
    ∙ ap (λ k. moves_of cs ++ record { from = k; to = T } ∷ []) f
    ∙ ap (λ k. moves_of cs ++ record { from = from; to = k } ∷ []) t

words_gones : (n : ℕ) → words_in (gones n) ≡ 0
words_gones zero = refl
words_gones (suc n) = omega (arith, words_gones n)

words_append : (cs ds : List Cell) → words_in (cs ++ ds) ≡ words_in cs + words_in ds
words_append [] ds = omega arith
words_append (c ∷ cs) ds = omega (arith, words_append cs ds)

pub words_around : (cs : List Cell) (c : Cell) (n : ℕ) → words_in (cs ++ around c n) ≡ words_in cs + words_of c
words_around cs c n = omega (arith, words_append cs (around c n), words_gones n)

-- nothing has moved
pub moved_none : IsMoved (gone ∷ []) (gone ∷ []) []
moved_none = record {
  moves = λ at h. absurd (none at h);
  some = λ at h. absurd (none at h);
  none = λ at h. refl;
  rising = λ a b lt h g. absurd (none a h);
  image = λ k h. absurd (none k h);
  held = refl;
  order = refl;
}
  where
    none : (at : ℕ) → (get_or (gone ∷ []) at gone).held ≡ true → ⊥
    none zero h = cc
    none (suc at) h = cc

-- a clause that isn't held is passed over
pub moved_passes : (old new : List Cell) (ms : List Move) (n : ℕ) → IsMoved old new ms → IsMoved (old ++ around gone n) new ms
moved_passes old new ms n m =
    let same : (at : ℕ) → get_or (old ++ around gone n) at gone ≡ get_or old at gone = (λ at. by_eq at (length old + 1)
    (λ e. around_here old gone n at e ∙ sym (get_or_past old at gone (omega arith)))
    (λ ne. around_other old gone n at ne)) in
    record {
      moves = λ at. rw (same at) (m.moves at);
      some = λ at. rw (same at) (m.some at);
      none = λ at. rw (same at) (m.none at);
      rising = λ a b. rw (same a, same b) (m.rising a b);
      image = λ k h. let r = m.image k h in (r.0, (rw (same r.0) r.1.0, r.1.1));
      held = omega (arith, m.held, weights_around old gone n);
      order = m.order ∙ sym (held_passed old n);
    }

-- a held clause takes the next reference
pub moved_takes : (old new : List Cell) (ms ms' : List Move) (c : Cell) (n : ℕ) → IsMoved old new ms → c.held ≡ true → NotFrom (length old + 1) ms → ms' ≡ ms ++ record { from = length old + 1; to = length new + 1 } ∷ [] → IsMoved (old ++ around c n) (new ++ around c n) ms'
moved_takes old new ms ms' c n m held free is =
    let N : ℕ = length old + 1 in
    let M : ℕ = length new + 1 in
    let named : moved_to ms' N ≡ M = ap (λ x. moved_to x N) is ∙ moved_last ms N M free in
    let other : (at : ℕ) → at ≢ N → moved_to ms' at ≡ moved_to ms at = (λ at ne. ap (λ x. moved_to x at) is ∙ moved_others ms N M at ne) in
    let was : (at : ℕ) → at ≢ N → get_or (old ++ around c n) at gone ≡ get_or old at gone = (λ at ne. around_other old c n at ne) in
    let now : (k : ℕ) → k ≢ M → get_or (new ++ around c n) k gone ≡ get_or new k gone = (λ k ne. around_other new c n k ne) in
    let here : get_or (old ++ around c n) N gone ≡ c = around_here old c n N refl in
    let there : get_or (new ++ around c n) M gone ≡ c = around_here new c n M refl in
    let old_held : (at : ℕ) → at ≢ N → (get_or (old ++ around c n) at gone).held ≡ true → (get_or old at gone).held ≡ true = (λ at ne h. ap (λ (x : Cell). x.held) (sym (was at ne)) ∙ h) in
    let below : (at : ℕ) → (get_or old at gone).held ≡ true → moved_to ms at < length new = (λ at h. held_within new (moved_to ms at) (ap (λ (x : Cell). x.held) (m.moves at h) ∙ h)) in
    record {
      moves = λ at h. by_eq at N
          (λ e. rw (e, named) (there ∙ sym here))
          (λ ne. let g = old_held at ne h in rw (other at ne, was at ne) (now (moved_to ms at) (λ e. absurd (omega (arith, below at g))) ∙ m.moves at g));
      some = λ at h. by_eq at N
          (λ e. rw (e, named) (omega arith))
          (λ ne. rw (other at ne) (m.some at (old_held at ne h)));
      none = λ at h. by_eq at N
          (λ e. let g : c.held ≡ false = ap (λ (x : Cell). x.held) (sym here ∙ ap (λ j. get_or (old ++ around c n) j gone) (sym e)) ∙ h in absurd cc)
          (λ ne. rw (other at ne) (m.none at (ap (λ (x : Cell). x.held) (sym (was at ne)) ∙ h)));
      rising = λ a b lt h g. by_eq a N
          (λ e. let nb : b ≢ N = (λ f. absurd (omega (arith, e, f, lt))) in absurd (omega (arith, held_within old b (old_held b nb g))))
          (λ na. by_eq b N
          (λ f. rw (f, named, other a na) (omega (arith, below a (old_held a na h))))
          (λ nb. rw (other a na, other b nb) (m.rising a b lt (old_held a na h) (old_held b nb g))));
      image = λ k h. by_eq k M
          (λ e. (N, (rw here held, named ∙ sym e)))
          (λ ne.
          let r = m.image k (ap (λ (x : Cell). x.held) (sym (now k ne)) ∙ h) in
          let nr : r.0 ≢ N = (λ e. absurd (omega (arith, e, held_within old r.0 r.1.0))) in
          (r.0, (rw (was r.0 nr) r.1.0, other r.0 nr ∙ r.1.1)));
      held = omega (arith, m.held, weights_around old c n, weights_around new c n);
      order = held_around new c n held ∙ ap (λ x. x ++ c ∷ []) m.order ∙ sym (held_around old c n held);
    }

-- what has moved is compacted
pub compacted : (old new : Memory) (ms : List Move) → IsMoved old.cells new.cells ms → new.used ≡ weights new.cells → new.most ≡ old.most → IsCompacted old new ms
compacted old new ms m used most = record {
  moves = m.moves;
  some = m.some;
  none = m.none;
  rising = m.rising;
  image = m.image;
  held = m.held;
  order = m.order;
  used = used;
  most = most;
}

-- the clause at the head of a walk
pub record Head (ls : List Word) : Type 0 where
  pub number : Word
  pub size : Word
  pub body : List Word
  pub rest : List Word
  pub is : ls ≡ block number size body ++ rest
  pub sized : IsBlock size body
  pub after : IsWalk 0 rest

pub head_of : (ls : List Word) → IsWalk 0 ls → 0 < length ls → Head ls
head_of [] w lt = absurd (omega arith)
head_of (a ∷ []) w lt = absurd w
head_of (a ∷ c ∷ ls) w lt =
    let f = walk_fits (size_of c) ls w in
    record {
      number = a;
      size = c;
      body = take (size_of c) ls;
      rest = drop (size_of c) ls;
      is = ap (λ l. a ∷ c ∷ l) (sym (take-append-drop (size_of c) ls));
      sized = record { sized = sym (length-take-le (size_of c) ls f.long); all = f.all };
      after = f.rest;
    }

-- what is read of the next clause
pub record Next (ls0 : List Word) (read : ℕ) (size : Word) : Type 0 where
  pub head : Head (drop read ls0)
  pub same : size ≡ head.size
  pub is_size : size_of size ≡ length head.body
  pub inside : read + (size_of size + 2) ≤ length ls0
  pub before : take (read + (size_of size + 2)) ls0 ≡ take read ls0 ++ block head.number head.size head.body
  pub behind : drop (read + (size_of size + 2)) ls0 ≡ head.rest
  pub here : take (size_of size + 2) (drop read ls0) ≡ block head.number head.size head.body

pub next_of : (ls0 ls : List Word) (read j : ℕ) (size d : Word) → drop read ls ≡ drop read ls0 → IsWalk 0 (drop read ls0) → read < length ls0 → j ≡ read + 1 → size ≡ get_or ls j d → Next ls0 read size
next_of ls0 ls read j size d left ahead lt ej rs =
    let h = head_of (drop read ls0) ahead (omega (arith, length-drop read ls0)) in
    let second : size ≡ h.size = rs ∙ ap (λ k. get_or ls k d) ej ∙ sym (get_or-drop read ls 1 d) ∙ ap (λ l. get_or l 1 d) (left ∙ h.is) in
    let sized : size_of size ≡ length h.body = ap size_of second ∙ h.sized.sized in
    let b : List Word = block h.number h.size h.body in
    let long : length b ≡ size_of size + 2 = omega (arith, sized) in
    let front : length (take read ls0) ≡ read = length-take-le read ls0 (omega arith) in
    let whole : ls0 ≡ (take read ls0 ++ b) ++ h.rest = sym (take-append-drop read ls0) ∙ ap (λ l. take read ls0 ++ l) h.is ∙ sym (append_assoc (take read ls0) b h.rest) in
    let spot : length (take read ls0 ++ b) ≡ read + (size_of size + 2) = omega (arith, length-append (take read ls0) b, front, long) in
    record {
      head = h;
      same = second;
      is_size = sized;
      inside = omega (arith, spot, ap length whole, length-append (take read ls0 ++ b) h.rest);
      before = ap (take (read + (size_of size + 2))) whole ∙ take_at (take read ls0 ++ b) h.rest (read + (size_of size + 2)) spot;
      behind = ap (drop (read + (size_of size + 2))) whole ∙ drop_at (take read ls0 ++ b) h.rest (read + (size_of size + 2)) spot;
      here = ap (take (size_of size + 2)) h.is ∙ take_at b h.rest (size_of size + 2) long;
    }

-- the walk has come to `read`, and the held clauses before it take so many words
pub record Walked (ls : List Word) (place read : ℕ) : Type 0 where
  pub within : read ≤ length ls
  pub below : place ≤ read
  pub passed : IsWalk 0 (take read ls)
  pub ahead : IsWalk 0 (drop read ls)
  pub spotted : place ≡ words_in (cells_of (take read ls))

pub walked_none : (ls : List Word) → IsWalk 0 ls → Walked ls 0 0
walked_none ls w = record { within = omega arith; below = omega arith; passed = tt; ahead = w; spotted = refl }

-- what is left agrees from further on, too
left_more : (q p : ℕ) (xs ys : List Word) → q ≤ p → drop q xs ≡ drop q ys → drop p xs ≡ drop p ys
left_more q p xs ys h e =
    let n : q + (p - q) ≡ p = omega arith in
    sym (drop-drop (p - q) q xs ∙ ap (λ k. drop k xs) n) ∙ ap (drop (p - q)) e ∙ drop-drop (p - q) q ys ∙ ap (λ k. drop k ys) n

-- the cells of a region with one more clause
cells_more : (front : List Word) (a c : Word) (body : List Word) → IsWalk 0 front → IsBlock c body → cells_of (front ++ block a c body) ≡ cells_of front ++ around (clause a c body) (length body)
cells_more front a c body w e = ap (λ cs. gone ∷ cs) (cells_append 0 front (block a c body) w ∙ ap (λ cs. cells_from 0 front ++ cs) (block_is a c body e))

-- the cells with a freed clause
pub cells_passed : (ls : List Word) (place read : ℕ) (size : Word) → Walked ls place read → (n : Next ls read size) → is_freed size ≡ true → cells_of (take (read + (size_of size + 2)) ls) ≡ cells_of (take read ls) ++ around gone (length n.head.body)
cells_passed ls place read size w n freed =
    let h = n.head in
    let dead : is_freed h.size ≡ true = ap is_freed (sym n.same) ∙ freed in
    ap cells_of n.before ∙ cells_more (take read ls) h.number h.size h.body w.passed h.sized ∙ rw dead refl

-- the cells with a held one
pub cells_taken : (ls : List Word) (place read : ℕ) (size : Word) → Walked ls place read → (n : Next ls read size) → cells_of (take (read + (size_of size + 2)) ls) ≡ cells_of (take read ls) ++ around (clause n.head.number n.head.size n.head.body) (length n.head.body)
cells_taken ls place read size w n = ap cells_of n.before ∙ cells_more (take read ls) n.head.number n.head.size n.head.body w.passed n.head.sized

head_held : (ls : List Word) (read : ℕ) (size : Word) (n : Next ls read size) → is_freed size ≡ false → (clause n.head.number n.head.size n.head.body).held ≡ true
head_held ls read size n kept = let live : is_freed n.head.size ≡ false = ap is_freed (sym n.same) ∙ kept in rw live refl

words_live : (number size : Word) (body : List Word) → is_freed size ≡ false → words_of (clause number size body) ≡ length body + 2
words_live number size body e = rw e (omega (arith, length-map body literal_in))

pub walked_passes : (ls : List Word) (place read : ℕ) (size : Word) → Walked ls place read → Next ls read size → is_freed size ≡ true → Walked ls place (read + (size_of size + 2))
walked_passes ls place read size w n freed =
    let h = n.head in
    record {
      within = n.inside;
      below = omega (arith, w.below);
      passed = rw n.before (walk_append 0 (take read ls) (block h.number h.size h.body) w.passed (block_walk h.number h.size h.body h.sized));
      ahead = rw n.behind h.after;
      spotted = w.spotted ∙ sym (ap words_in (cells_passed ls place read size w n freed) ∙ words_around (cells_of (take read ls)) gone (length h.body) ∙ omega arith);
    }

pub walked_takes : (ls : List Word) (place read : ℕ) (size : Word) → Walked ls place read → Next ls read size → is_freed size ≡ false → Walked ls (place + (size_of size + 2)) (read + (size_of size + 2))
walked_takes ls place read size w n kept =
    let h = n.head in
    let c : Cell = clause h.number h.size h.body in
    let live : is_freed h.size ≡ false = ap is_freed (sym n.same) ∙ kept in
    record {
      within = n.inside;
      below = omega (arith, w.below);
      passed = rw n.before (walk_append 0 (take read ls) (block h.number h.size h.body) w.passed (block_walk h.number h.size h.body h.sized));
      ahead = rw n.behind h.after;
      spotted = omega (arith, w.spotted, ap words_in (cells_taken ls place read size w n), words_around (cells_of (take read ls)) c (length h.body), words_live h.number h.size h.body live, n.is_size);
    }

-- the moves that were found so far
pub record Named (ls : List Word) (ms : List Move) (place read : ℕ) : Type 0 where
  pub walked : Walked ls place read
  pub named : ms ≡ moves_of (cells_of (take read ls))

pub named_none : (ls : List Word) → IsWalk 0 ls → Named ls [] 0 0
named_none ls w = record { walked = walked_none ls w; named = refl }

pub named_passes : (ls : List Word) (ms : List Move) (place read : ℕ) (size : Word) → Named ls ms place read → Next ls read size → is_freed size ≡ true → Named ls ms place (read + (size_of size + 2))
named_passes ls ms place read size s n freed = record {
  walked = walked_passes ls place read size s.walked n freed;
  named = s.named ∙ sym (ap moves_of (cells_passed ls place read size s.walked n freed) ∙ moves_passed (cells_of (take read ls)) (length n.head.body));
}

taken_moves : (ls : List Word) (place read : ℕ) (size : Word) → Walked ls place read → (n : Next ls read size) → is_freed size ≡ false → moves_of (cells_of (take (read + (size_of size + 2)) ls)) ≡ moves_of (cells_of (take read ls)) ++ record { from = read + 2; to = place + 2 } ∷ []
taken_moves ls place read size w n kept =
    ap moves_of (cells_taken ls place read size w n)
    ∙ moves_taken (cells_of (take read ls)) (clause n.head.number n.head.size n.head.body) (length n.head.body) (read + 2) (place + 2) (head_held ls read size n kept)
    (omega (arith, cells_length 0 (take read ls), length-take-le read ls w.within)) (omega (arith, w.spotted))

pub named_takes : (ls : List Word) (ms : List Move) (place read : ℕ) (size : Word) → Named ls ms place read → Next ls read size → is_freed size ≡ false → Named ls (ms ++ record { from = read + 2; to = place + 2 } ∷ []) (place + (size_of size + 2)) (read + (size_of size + 2))
named_takes ls ms place read size s n kept = record {
  walked = walked_takes ls place read size s.walked n kept;
  named = ap (λ x. x ++ record { from = read + 2; to = place + 2 } ∷ []) s.named ∙ sym (taken_moves ls place read size s.walked n kept);
}

pub named_all : (ls : List Word) (ms : List Move) (place read : ℕ) → Named ls ms place read → length ls ≤ read → ms ≡ moves_of (cells_of ls)
named_all ls ms place read s h = s.named ∙ ap (λ l. moves_of (cells_of l)) (take_all read ls h)

-- the clauses before `read` were moved below `place`, and those from there on are as they were
pub record Slid (ls0 : List Word) (ls : List Word) (place read : ℕ) : Type 0 where
  pub walked : Walked ls0 place read
  pub size : length ls ≡ length ls0
  pub left : drop read ls ≡ drop read ls0
  pub walk : IsWalk 0 (take place ls)
  pub moved : IsMoved (cells_of (take read ls0)) (cells_of (take place ls)) (moves_of (cells_of (take read ls0)))
  pub fits : place ≤ weights (cells_of (take place ls))

pub slid_none : (ls : List Word) → IsWalk 0 ls → Slid ls ls 0 0
slid_none ls w = record { walked = walked_none ls w; size = refl; left = refl; walk = tt; moved = moved_none; fits = omega arith }

-- a freed clause is passed over
pub slid_passes : (ls0 ls : List Word) (place read : ℕ) (size : Word) → Slid ls0 ls place read → Next ls0 read size → is_freed size ≡ true → Slid ls0 ls place (read + (size_of size + 2))
slid_passes ls0 ls place read size s n freed =
    let cells = cells_passed ls0 place read size s.walked n freed in
    let C : List Cell = cells_of (take read ls0) in
    let same : moves_of (cells_of (take (read + (size_of size + 2)) ls0)) ≡ moves_of C = ap moves_of cells ∙ moves_passed C (length n.head.body) in
    record {
      walked = walked_passes ls0 place read size s.walked n freed;
      size = s.size;
      left = left_more read (read + (size_of size + 2)) ls ls0 (omega arith) s.left;
      walk = s.walk;
      moved = subst (IsMoved (cells_of (take (read + (size_of size + 2)) ls0)) (cells_of (take place ls))) (sym same) (subst (λ cs. IsMoved cs (cells_of (take place ls)) (moves_of C)) (sym cells) (moved_passes C (cells_of (take place ls)) (moves_of C) (length n.head.body) s.moved));
      fits = s.fits;
    }

-- what a copy within does
record Copied (ls ls' : List Word) (p n place : ℕ) : Type 0 where
  size : length ls' ≡ length ls
  front : take (place + n) ls' ≡ take place ls ++ take n (drop p ls)
  back : drop (place + n) ls' ≡ drop (place + n) ls

copied : (ls ls' : List Word) (p n place : ℕ) → ls' ≡ copy_within ls p (p + n) place → place ≤ p → p + n ≤ length ls → Copied ls ls' p n place
copied ls ls' p n place e down within =
    let count : p + n - p ≡ n = omega arith in
    let pasted : ls' ≡ paste ls place (drop p ls) n = e ∙ ap (paste ls place (drop p ls)) count in
    let enough : n ≤ length (drop p ls) = omega (arith, length-drop p ls) in
    record {
      size = ap length pasted ∙ length-paste ls place (drop p ls) n (omega arith) enough;
      front = ap (take (place + n)) pasted ∙ take-paste ls place (drop p ls) n (omega arith) enough;
      back = ap (drop (place + n)) pasted ∙ drop-paste ls place (drop p ls) n (omega arith) enough;
    }

-- a held clause moves down
pub slid_takes : (ls0 ls ls' : List Word) (place read len : ℕ) (size : Word) → Slid ls0 ls place read → Next ls0 read size → is_freed size ≡ false → len ≡ size_of size + 2 → ls' ≡ copy_within ls read (read + len) place → Slid ls0 ls' (place + len) (read + len)
slid_takes ls0 ls ls' place read len size s n kept el put =
    let h = n.head in
    let b : List Word = block h.number h.size h.body in
    let c : Cell = clause h.number h.size h.body in
    let live : is_freed h.size ≡ false = ap is_freed (sym n.same) ∙ kept in
    let inside : read + len ≤ length ls0 = omega (arith, n.inside) in
    let copy = copied ls ls' read len place put s.walked.below (omega (arith, s.size)) in
    let block_here : take len (drop read ls) ≡ b = ap (take len) s.left ∙ ap (λ k. take k (drop read ls0)) el ∙ n.here in
    let front : take (place + len) ls' ≡ take place ls ++ b = copy.front ∙ ap (λ l. take place ls ++ l) block_here in
    let old : List Cell = cells_of (take read ls0) in
    let new : List Cell = cells_of (take place ls) in
    let cells0 : cells_of (take (read + len) ls0) ≡ old ++ around c (length h.body) = ap (λ k. cells_of (take (read + k) ls0)) el ∙ cells_taken ls0 place read size s.walked n in
    let cells1 : cells_of (take (place + len) ls') ≡ new ++ around c (length h.body) = ap cells_of front ∙ cells_more (take place ls) h.number h.size h.body s.walk h.sized in
    let old_at : length old + 1 ≡ read + 2 = omega (arith, cells_length 0 (take read ls0), length-take-le read ls0 s.walked.within) in
    let new_at : length new + 1 ≡ place + 2 = omega (arith, cells_length 0 (take place ls), length-take-le place ls (omega (arith, s.walked.below, s.walked.within, s.size))) in
    let names : moves_of (cells_of (take (read + len) ls0)) ≡ moves_of old ++ record { from = length old + 1; to = length new + 1 } ∷ [] =
    ap moves_of cells0 ∙ moves_taken old c (length h.body) (length old + 1) (length new + 1) (head_held ls0 read size n kept) refl (omega (arith, new_at, s.walked.spotted)) in
    record {
      walked = subst (λ k. Walked ls0 (place + k) (read + k)) (sym el) (walked_takes ls0 place read size s.walked n kept);
      size = copy.size ∙ s.size;
      left = left_more (place + len) (read + len) ls' ls (omega (arith, s.walked.below)) copy.back ∙ left_more read (read + len) ls ls0 (omega arith) s.left;
      walk = rw front (walk_append 0 (take place ls) b s.walk (block_walk h.number h.size h.body h.sized));
      moved = rw (cells1) (subst (λ cs. IsMoved cs (new ++ around c (length h.body)) (moves_of (cells_of (take (read + len) ls0)))) (sym cells0)
          (moved_takes old new (moves_of old) (moves_of (cells_of (take (read + len) ls0))) c (length h.body) s.moved (head_held ls0 read size n kept) (moves_below 0 2 old (length old + 1) (omega arith)) names));
      fits = subst (λ cs. place + len ≤ weights cs) (sym cells1) (omega (arith, s.fits, weights_around new c (length h.body), weight_live h.number h.size h.body live, n.is_size));
    }
  where
    weight_live : (number size : Word) (body : List Word) → is_freed size ≡ false → weight (clause number size body) ≡ length body + 4
    weight_live number size body e = rw e (omega (arith, length-map body literal_in))

-- all has moved
pub slid_all : (ls0 ls : List Word) (place read : ℕ) → Slid ls0 ls place read → length ls0 ≤ read → IsMoved (cells_of ls0) (cells_of (take place ls)) (moves_of (cells_of ls0))
slid_all ls0 ls place read s h = subst (λ l. IsMoved (cells_of l) (cells_of (take place ls)) (moves_of (cells_of l))) (take_all read ls0 h) s.moved

-- moves rise
low_head : (f t : ℕ) (more : List Move) (k : ℕ) (d : Move) → ((i : ℕ) → i < length more → f + 1 ≤ (get_or more i d).from) → k < length (record { from = f; to = t } ∷ more) → f ≤ (get_or (record { from = f; to = t } ∷ more) k d).from
low_head f t more zero d low h = omega arith
low_head f t more (suc k) d low h = omega (arith, low k (omega arith))

from_low : (f t : ℕ) (cs : List Cell) (k : ℕ) (d : Move) → k < length (moves_from f t cs) → f ≤ (get_or (moves_from f t cs) k d).from
from_low f t [] k d = λ h. absurd (omega arith)
from_low f t (c ∷ cs) k d = by_test c.held
    (λ e. rw e (low_head f t (moves_from (f + 1) (t + (length c.lits + 2)) cs) k d (λ i. from_low (f + 1) (t + (length c.lits + 2)) cs i d)))
    (λ e. rw e (λ h. omega (arith, from_low (f + 1) t cs k d h)))

rising_head : (f t : ℕ) (more : List Move) → ((k : ℕ) (d : Move) → k < length more → f + 1 ≤ (get_or more k d).from) → AreRising more → AreRising (record { from = f; to = t } ∷ more)
rising_head f t more low rise zero zero d le h = omega arith
rising_head f t more low rise zero (suc j) d le h = omega (arith, low j d (omega arith))
rising_head f t more low rise (suc i) zero d le h = absurd (omega arith)
rising_head f t more low rise (suc i) (suc j) d le h = rise i j d (omega arith) (omega arith)

pub moves_rise : (f t : ℕ) (cs : List Cell) → AreRising (moves_from f t cs)
moves_rise f t [] = λ i j d le h. absurd (omega arith)
moves_rise f t (c ∷ cs) = by_test c.held
    (λ e. rw e (rising_head f t (moves_from (f + 1) (t + (length c.lits + 2)) cs) (from_low (f + 1) (t + (length c.lits + 2)) cs) (moves_rise (f + 1) (t + (length c.lits + 2)) cs)))
    (λ e. rw e (moves_rise (f + 1) t cs))

-- a move is found at the first place whose reference isn't below
pub moved_here : (ms : List Move) (i at : ℕ) (d : Move) → ((k : ℕ) → k < i → (get_or ms k d).from < at) → i < length ms → (get_or ms i d).from ≡ at → moved_to ms at ≡ (get_or ms i d).to
moved_here [] i at d low h e = absurd (omega arith)
moved_here (m ∷ ms) zero at d low h e = let t : (m.from == at) ≡ true = ap (λ k. k == at) e ∙ equal at in rw t refl
moved_here (m ∷ ms) (suc i) at d low h e =
    let t : (m.from == at) ≡ false = unequal m.from at (λ g. absurd (omega (arith, low 0 (omega arith)))) in
    rw t (moved_here ms i at d (λ k lt. low (suc k) (omega arith)) (omega arith) e)

pub moved_nowhere : (ms : List Move) (at : ℕ) (d : Move) → ((k : ℕ) → k < length ms → (get_or ms k d).from ≢ at) → moved_to ms at ≡ 0
moved_nowhere [] at d none = refl
moved_nowhere (m ∷ ms) at d none =
    let t : (m.from == at) ≡ false = unequal m.from at (none 0 (omega arith)) in
    rw t (moved_nowhere ms at d (λ k lt. none (suc k) (omega arith)))

below_or : (k i : ℕ) → (k < i) ⊎ (i ≤ k)
below_or k i = by_test (ltb k i)
    (λ t. inl (grind (arith, nat_tests)))
    (λ f. inr (omega (arith, ltb-false)))

-- a reference stands nowhere that isn't that of the first move at or above it
pub moved_past : (ms : List Move) (i at : ℕ) (d : Move) → AreRising ms → ((k : ℕ) → k < i → (get_or ms k d).from < at) → ((k : ℕ) → i ≤ k → k < length ms → at ≤ (get_or ms k d).from) → (i < length ms → (get_or ms i d).from ≢ at) → moved_to ms at ≡ 0
moved_past ms i at d rise low high other = moved_nowhere ms at d (λ k lt e. none k lt e (below_or k i))
  where
    none : (k : ℕ) → k < length ms → (get_or ms k d).from ≡ at → (k < i) ⊎ (i ≤ k) → ⊥
    none k lt e (inl h) = absurd (omega (arith, low k h))
    none k lt e (inr h) = other (omega arith) (omega (arith, rise i k d h lt, high i (omega arith) (omega arith)))

-- what is read within a list doesn't depend on what stands past its end
pub from_any : (ms : List Move) (k : ℕ) (d d' : Move) → k < length ms → (get_or ms k d).from ≡ (get_or ms k d').from
from_any [] k d d' h = absurd (omega arith)
from_any (m ∷ ms) zero d d' h = refl
from_any (m ∷ ms) (suc k) d d' h = from_any ms k d d' (omega arith)
