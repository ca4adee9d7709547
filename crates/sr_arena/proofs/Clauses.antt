-- Lemmas on walking the region by its sizes.
use Rattle.std.proofs.Common.{◌≡◌, ◌<◌, ◌≤◌, ◌+◌, ℕ, suc, zero, true, false, append_assoc, List, [], ◌∷◌, ◌++◌, refl, sym, ◌∙◌, ap, subst, arith, length, get_or, set, take, drop, map}
use Rattle.std.specs.List.{swap}
use Rattle.std.proofs.lemmas.List.{drop_all, drop_at, drop-drop, length-drop, get_or-drop, take_all, take-append-le, set-append_left, get_or_append_left, length-take-le, take-append-drop, length-append, length-set, length-map, map-set}
use Rattle.std.proofs.lemmas.List.Edits.{swap_is}
use Rattle.sr_base.specs.Literal.{Literal}
use Rattle.sr_base.specs.Words.{literal_in, IsLiteral, AllLiterals}
use Rattle.sr_base.specs.declared.words.Word.{Word}
use Rattle.sr_arena.specs.Cells.{Cell, gone, first_held}
use Rattle.sr_arena.specs.Layout.{size_of, is_freed, clause, cells_from, cells_of, IsWalk, gones}

-- no more literals are left than words
pub record Fits (k : ℕ) (ls : List Word) : Type 0 where
  pub long : k ≤ length ls
  pub all : AllLiterals (take k ls)
  pub rest : IsWalk 0 (drop k ls)

pub walk_fits : (k : ℕ) (ls : List Word) → IsWalk k ls → Fits k ls
walk_fits zero ls w = record { long = omega arith; all = tt; rest = w }
walk_fits (suc k) [] w = absurd w
walk_fits (suc k) (x ∷ ls) w = let r = walk_fits k ls w.1 in record { long = omega (arith, r.long); all = (w.0, r.all); rest = r.rest }

pub walk_append : (k : ℕ) (xs ys : List Word) → IsWalk k xs → IsWalk 0 ys → IsWalk k (xs ++ ys)
walk_append zero [] ys w v = v
walk_append (suc k) [] ys w v = absurd w
walk_append (suc k) (x ∷ xs) ys w v = (w.0, walk_append k xs ys w.1 v)
walk_append zero (a ∷ []) ys w v = absurd w
walk_append zero (a ∷ c ∷ xs) ys w v = walk_append (size_of c) xs ys w v

pub cells_append : (k : ℕ) (xs ys : List Word) → IsWalk k xs → cells_from k (xs ++ ys) ≡ cells_from k xs ++ cells_from 0 ys
cells_append zero [] ys w = refl
cells_append (suc k) [] ys w = absurd w
cells_append (suc k) (x ∷ xs) ys w = ap (λ cs. gone ∷ cs) (cells_append k xs ys w.1)
cells_append zero (a ∷ []) ys w = absurd w
cells_append zero (a ∷ c ∷ xs) ys w =
    let same : take (size_of c) (xs ++ ys) ≡ take (size_of c) xs = take-append-le (size_of c) xs ys (walk_fits (size_of c) xs w).long in
    rw (same, cells_append (size_of c) xs ys w) refl

pub cells_length : (k : ℕ) (ls : List Word) → length (cells_from k ls) ≡ length ls
cells_length zero [] = refl
cells_length (suc k) [] = refl
cells_length (suc k) (x ∷ ls) = ap suc (cells_length k ls)
cells_length zero (a ∷ []) = refl
cells_length zero (a ∷ c ∷ ls) = ap (λ n. suc (suc n)) (cells_length (size_of c) ls)

walk_body : (ls : List Word) → AllLiterals ls → IsWalk (length ls) ls
walk_body [] h = tt
walk_body (x ∷ ls) h = (h.0, walk_body ls h.1)

cells_body : (ls : List Word) → cells_from (length ls) ls ≡ gones (length ls)
cells_body [] = refl
cells_body (x ∷ ls) = ap (λ cs. gone ∷ cs) (cells_body ls)

-- a clause with its two words
abbrev pub block : Word → Word → List Word → List Word
block a c body = a ∷ c ∷ body

-- its cells
abbrev pub block_cells : Word → Word → List Word → List Cell
block_cells a c body = gone ∷ clause a c body ∷ gones (length body)

-- the size tells the literals
pub record IsBlock (c : Word) (body : List Word) : Type 0 where
  pub sized : size_of c ≡ length body
  pub all : AllLiterals body

pub block_walk : (a c : Word) (body : List Word) → IsBlock c body → IsWalk 0 (block a c body)
block_walk a c body e = subst (λ n. IsWalk n body) (sym e.sized) (walk_body body e.all)

pub block_is : (a c : Word) (body : List Word) → IsBlock c body → cells_from 0 (block a c body) ≡ block_cells a c body
block_is a c body e =
    let all : take (size_of c) body ≡ body = take_all (size_of c) body (omega (arith, e.sized)) in
    let none : cells_from (size_of c) body ≡ gones (length body) = ap (λ n. cells_from n body) e.sized ∙ cells_body body in
    rw (all, none) refl

-- a clause between others
abbrev pub between : List Word → Word → Word → List Word → List Word → List Word
between front a c body rest = front ++ (a ∷ c ∷ (body ++ rest))

pub between_walk : (front : List Word) (a c : Word) (body rest : List Word) → IsWalk 0 front → IsBlock c body → IsWalk 0 rest → IsWalk 0 (between front a c body rest)
between_walk front a c body rest w e v = walk_append 0 front (block a c body ++ rest) w (walk_append 0 (block a c body) rest (block_walk a c body e) v)

pub between_is : (front : List Word) (a c : Word) (body rest : List Word) → IsWalk 0 front → IsBlock c body
    → cells_from 0 (between front a c body rest) ≡ cells_from 0 front ++ (gone ∷ clause a c body ∷ (gones (length body) ++ cells_from 0 rest))
between_is front a c body rest w e =
    cells_append 0 front (block a c body ++ rest) w
    ∙ ap (λ cs. cells_from 0 front ++ cs) (cells_append 0 (block a c body) rest (block_walk a c body e) ∙ ap (λ cs. cs ++ cells_from 0 rest) (block_is a c body e))

-- the first and the second of a list after another
pub get_first : {X : Type 0} (p : List X) (x d : X) (q : List X) (n : ℕ) → n ≡ length p → get_or (p ++ (x ∷ q)) n d ≡ x
get_first [] x d q n e = rw e refl
get_first (u ∷ p) x d q zero e = absurd (omega arith)
get_first (u ∷ p) x d q (suc n) e = get_first p x d q n (omega arith)

pub get_second : {X : Type 0} (p : List X) (x y d : X) (q : List X) (n : ℕ) → n ≡ length p + 1 → get_or (p ++ (x ∷ y ∷ q)) n d ≡ y
get_second [] x y d q n e = rw e refl
get_second (u ∷ p) x y d q zero e = absurd (omega arith)
get_second (u ∷ p) x y d q (suc n) e = get_second p x y d q n (omega arith)

pub set_first : {X : Type 0} (p : List X) (x z : X) (q : List X) (n : ℕ) → n ≡ length p → set (p ++ (x ∷ q)) n z ≡ p ++ (z ∷ q)
set_first [] x z q n e = rw e refl
set_first (u ∷ p) x z q zero e = absurd (omega arith)
set_first (u ∷ p) x z q (suc n) e = ap (λ l. u ∷ l) (set_first p x z q n (omega arith))

pub set_second : {X : Type 0} (p : List X) (x y z : X) (q : List X) (n : ℕ) → n ≡ length p + 1 → set (p ++ (x ∷ y ∷ q)) n z ≡ p ++ (x ∷ z ∷ q)
set_second [] x y z q n e = rw e refl
set_second (u ∷ p) x y z q zero e = absurd (omega arith)
set_second (u ∷ p) x y z q (suc n) e = ap (λ l. u ∷ l) (set_second p x y z q n (omega arith))

pub drop_second : {X : Type 0} (p : List X) (x y : X) (q : List X) (n : ℕ) → n ≡ length p + 2 → drop n (p ++ (x ∷ y ∷ q)) ≡ q
drop_second [] x y q n e = rw e refl
drop_second (u ∷ p) x y q zero e = absurd (omega arith)
drop_second (u ∷ p) x y q (suc n) e = drop_second p x y q n (omega arith)

-- a held cell belongs to a clause between others
pub record Between (k : ℕ) (ls : List Word) (i : ℕ) : Type 0 where
  pub front : List Word
  pub number : Word
  pub size : Word
  pub body : List Word
  pub rest : List Word
  pub is : ls ≡ between front number size body rest
  pub place : i ≡ length front + 1
  pub before : IsWalk k front
  pub sized : IsBlock size body
  pub after : IsWalk 0 rest

pub parted : (k : ℕ) (ls : List Word) (i : ℕ) → IsWalk k ls → (get_or (cells_from k ls) i gone).held ≡ true → Between k ls i
parted zero [] i w h = absurd cc
parted (suc k) [] i w h = absurd w
parted (suc k) (x ∷ ls) zero w h = absurd cc
parted (suc k) (x ∷ ls) (suc i) w h =
    let r = parted k ls i w.1 h in
    record {
      front = x ∷ r.front;
      number = r.number;
      size = r.size;
      body = r.body;
      rest = r.rest;
      is = ap (λ l. x ∷ l) r.is;
      place = omega (arith, r.place);
      before = (w.0, r.before);
      sized = r.sized;
      after = r.after;
    }
parted zero (a ∷ []) i w h = absurd w
parted zero (a ∷ c ∷ ls) zero w h = absurd cc
parted zero (a ∷ c ∷ ls) (suc zero) w h =
    let f = walk_fits (size_of c) ls w in
    record {
      front = [];
      number = a;
      size = c;
      body = take (size_of c) ls;
      rest = drop (size_of c) ls;
      is = ap (λ l. a ∷ c ∷ l) (sym (take-append-drop (size_of c) ls));
      place = omega arith;
      before = tt;
      sized = record { sized = sym (length-take-le (size_of c) ls f.long); all = f.all };
      after = f.rest;
    }
parted zero (a ∷ c ∷ ls) (suc (suc i)) w h =
    let r = parted (size_of c) ls i w h in
    record {
      front = a ∷ c ∷ r.front;
      number = r.number;
      size = r.size;
      body = r.body;
      rest = r.rest;
      is = ap (λ l. a ∷ c ∷ l) r.is;
      place = omega (arith, r.place);
      before = r.before;
      sized = r.sized;
      after = r.after;
    }

-- a literal of the clause
pub set_body : (front : List Word) (a c : Word) (body rest : List Word) (i n : ℕ) (x : Word) → i < length body → n ≡ length front + 2 + i → set (between front a c body rest) n x ≡ between front a c (set body i x) rest
set_body [] a c body rest i n x lt e = let m : n ≡ suc (suc i) = omega arith in rw m (ap (λ l. a ∷ c ∷ l) (set-append_left body rest i x lt))
set_body (u ∷ front) a c body rest i zero x lt e = absurd (omega arith)
set_body (u ∷ front) a c body rest i (suc n) x lt e = ap (λ l. u ∷ l) (set_body front a c body rest i n x lt (omega arith))

pub get_body : (front : List Word) (a c : Word) (body rest : List Word) (i n : ℕ) (d : Word) → i < length body → n ≡ length front + 2 + i → get_or (between front a c body rest) n d ≡ get_or body i d
get_body [] a c body rest i n d lt e = let m : n ≡ suc (suc i) = omega arith in rw m (get_or_append_left body rest d i lt)
get_body (u ∷ front) a c body rest i zero d lt e = absurd (omega arith)
get_body (u ∷ front) a c body rest i (suc n) d lt e = get_body front a c body rest i n d lt (omega arith)

pub between_length : (front : List Word) (a c : Word) (body rest : List Word) → length (between front a c body rest) ≡ length front + 2 + length body + length rest
between_length front a c body rest = omega (arith, length-append front (a ∷ c ∷ (body ++ rest)), length-append body rest)

-- any word, where a list has none
abbrev pub blank : Word
blank = record { code = 0 }

pub swap_body : (front : List Word) (a c : Word) (body rest : List Word) (i j p q : ℕ) → i < length body → j < length body → p ≡ length front + 2 + i → q ≡ length front + 2 + j
    → swap (between front a c body rest) p q ≡ between front a c (swap body i j) rest
swap_body front a c body rest i j p q hi hj ep eq =
    let all = between_length front a c body rest in
    let ls : List Word = between front a c body rest in
    let d : Word = blank in
    sym (swap_is ls p q d (omega (arith, all)) (omega (arith, all)))
    ∙ ap (λ x. set (set ls p x) q (get_or ls p d)) (get_body front a c body rest j q d hj eq)
    ∙ ap (λ x. set (set ls p (get_or body j d)) q x) (get_body front a c body rest i p d hi ep)
    ∙ ap (λ l. set l q (get_or body i d)) (set_body front a c body rest i p (get_or body j d) hi ep)
    ∙ set_body front a c (set body i (get_or body j d)) rest j q (get_or body i d) (omega (arith, length-set body i (get_or body j d))) eq
    ∙ ap (λ l. between front a c l rest) (swap_is body i j d hi hj)

-- literals stay literals where they change places
all_get : (ws : List Word) (i : ℕ) (d : Word) → AllLiterals ws → i < length ws → IsLiteral (get_or ws i d)
all_get [] i d h lt = absurd (omega arith)
all_get (w ∷ ws) zero d h lt = h.0
all_get (w ∷ ws) (suc i) d h lt = all_get ws i d h.1 (omega arith)

all_set : (ws : List Word) (i : ℕ) (w : Word) → AllLiterals ws → IsLiteral w → AllLiterals (set ws i w)
all_set [] i w h g = tt
all_set (v ∷ ws) zero w h g = (g, h.1)
all_set (v ∷ ws) (suc i) w h g = (h.0, all_set ws i w h.1 g)

pub all_swap : (ws : List Word) (i j : ℕ) → AllLiterals ws → i < length ws → j < length ws → AllLiterals (swap ws i j)
all_swap ws i j h hi hj = subst AllLiterals (swap_is ws i j blank hi hj) (all_set (set ws i (get_or ws j blank)) j (get_or ws i blank) (all_set ws i (get_or ws j blank) h (all_get ws j blank h hj)) (all_get ws i blank h hi))

map_get : (ws : List Word) (i : ℕ) (d : Word) → get_or (map literal_in ws) i (literal_in d) ≡ literal_in (get_or ws i d)
map_get [] i d = refl
map_get (w ∷ ws) zero d = refl
map_get (w ∷ ws) (suc i) d = map_get ws i d

pub map_swap : (ws : List Word) (i j : ℕ) → i < length ws → j < length ws → map literal_in (swap ws i j) ≡ swap (map literal_in ws) i j
map_swap ws i j hi hj =
    let a : Word = get_or ws i blank in
    let b : Word = get_or ws j blank in
    let ls : List Literal = map literal_in ws in
    let long : length ls ≡ length ws = length-map ws literal_in in
    ap (map literal_in) (sym (swap_is ws i j blank hi hj))
    ∙ map-set literal_in (set ws i b) j a
    ∙ ap (λ l. set l j (literal_in a)) (map-set literal_in ws i b)
    ∙ ap (λ x. set (set ls i x) j (literal_in a)) (sym (map_get ws j blank))
    ∙ ap (λ x. set (set ls i (get_or ls j (literal_in blank))) j x) (sym (map_get ws i blank))
    ∙ swap_is ls i j (literal_in blank) (omega (arith, long)) (omega (arith, long))

-- the first held clause from a place on
abbrev pub first_from : List Word → ℕ → ℕ
first_from ls read = first_held (read + 1) (cells_from 0 (drop read ls))

first_gones : (k n : ℕ) (cs : List Cell) → first_held k (gones n ++ cs) ≡ first_held (k + n) cs
first_gones k zero cs = let e : k + 0 ≡ k = omega arith in rw e refl
first_gones k (suc n) cs = let e : k + 1 + n ≡ k + suc n = omega arith in first_gones (k + 1) n cs ∙ ap (λ j. first_held j cs) e

-- the clause that begins at a place, and what comes after it
pub record Here (ls : List Word) (read : ℕ) (size : Word) : Type 0 where
  pub inside : read + (size_of size + 2) ≤ length ls
  pub after : IsWalk 0 (drop (read + (size_of size + 2)) ls)
  pub held : is_freed size ≡ false → first_from ls read ≡ read + 2
  pub freed : is_freed size ≡ true → first_from ls read ≡ first_from ls (read + (size_of size + 2))

here_at : (read : ℕ) (ls : List Word) (number size : Word) (more : List Word) → drop read ls ≡ number ∷ size ∷ more → IsWalk (size_of size) more → read ≤ length ls → Here ls read size
here_at read ls number size more e w lt =
    let k : ℕ = size_of size in
    let f = walk_fits k more w in
    let long : length (drop read ls) ≡ k + 2 + length (drop k more) = ap length e ∙ omega (arith, f.long, length-drop k more) in
    let later : drop (read + (k + 2)) ls ≡ drop k more = sym (drop-drop (k + 2) read ls) ∙ ap (drop (k + 2)) e ∙ dropped k in
    let body : List Word = take k more in
    let sized : length body ≡ k = length-take-le k more f.long in
    let parts : number ∷ size ∷ more ≡ block number size body ++ drop k more = ap (λ l. number ∷ size ∷ l) (sym (take-append-drop k more)) in
    let is_block : IsBlock size body = record { sized = sym sized; all = f.all } in
    let cells : cells_from 0 (drop read ls) ≡ gone ∷ clause number size body ∷ (gones k ++ cells_from 0 (drop k more)) =
    ap (cells_from 0) (e ∙ parts) ∙ cells_append 0 (block number size body) (drop k more) (block_walk number size body is_block)
    ∙ ap (λ cs. cs ++ cells_from 0 (drop k more)) (block_is number size body is_block ∙ ap (λ n. gone ∷ clause number size body ∷ gones n) sized) in
    let two : read + 1 + 1 ≡ read + 2 = omega arith in
    let end : read + 1 + 1 + 1 + k ≡ read + (k + 2) + 1 = omega arith in
    record {
      inside = omega (arith, long, length-drop read ls, lt);
      after = rw later f.rest;
      held = λ h. ap (first_held (read + 1)) cells ∙ rw h two;
      freed = λ h. ap (first_held (read + 1)) cells ∙ rw h (first_gones (read + 1 + 1 + 1) k (cells_from 0 (drop k more)) ∙ ap (λ n. first_held n (cells_from 0 (drop k more))) end ∙ ap (λ l. first_held (read + (k + 2) + 1) (cells_from 0 l)) (sym later));
    }
  where
    dropped : (n : ℕ) → drop (n + 2) (number ∷ size ∷ more) ≡ drop n more
    dropped n = let g : n + 2 ≡ suc (suc n) = omega arith in rw g refl

pub here_of : (ls : List Word) (read : ℕ) (size d : Word) → IsWalk 0 (drop read ls) → read < length ls → size ≡ get_or ls (read + 1) d → Here ls read size
here_of ls read size d w lt is = at (drop read ls) refl w
  where
    at : (ds : List Word) → drop read ls ≡ ds → IsWalk 0 ds → Here ls read size
    at [] e v = absurd (omega (arith, ap length e, length-drop read ls))
    at (a ∷ []) e v = absurd v
    at (a ∷ c ∷ ds) e v =
        let same : size ≡ c = is ∙ sym (get_or-drop read ls 1 d) ∙ ap (λ l. get_or l 1 d) e in
        rw same (here_at read ls a c ds e v (omega arith))

pub here_two : (ls : List Word) (read : ℕ) → IsWalk 0 (drop read ls) → read < length ls → read + 2 ≤ length ls
here_two ls read w lt = let h = here_of ls read (get_or ls (read + 1) blank) blank w lt refl in omega (arith, h.inside)

-- nothing held was passed over
pub record Onward (ls : List Word) (from read : ℕ) : Type 0 where
  pub walk : IsWalk 0 (drop read ls)
  pub within : read ≤ length ls
  pub same : first_from ls from ≡ first_from ls read

pub onward_none : (ls : List Word) (read : ℕ) → IsWalk 0 (drop read ls) → read ≤ length ls → Onward ls read read
onward_none ls read w h = record { walk = w; within = h; same = refl }

pub onward_more : (ls : List Word) (from read : ℕ) (size : Word) → Onward ls from read → Here ls read size → is_freed size ≡ true → Onward ls from (read + (size_of size + 2))
onward_more ls from read size o h freed = record { walk = h.after; within = h.inside; same = o.same ∙ h.freed freed }

pub onward_end : (ls : List Word) (from read : ℕ) → Onward ls from read → length ls ≤ read → first_from ls from ≡ 0
onward_end ls from read o h = o.same ∙ ap (λ l. first_held (read + 1) (cells_from 0 l)) (drop_all read ls h)

-- the first one after a clause
pub first_after : (front : List Word) (number size : Word) (body rest ls : List Word) (at read : ℕ) → IsWalk 0 front → IsBlock size body → ls ≡ between front number size body rest → at ≡ length front + 2 → read ≡ at + length body
    → first_held (at + 1) (drop (at + 1) (cells_of ls)) ≡ first_from ls read
first_after front number size body rest ls at read w e is place end =
    let front_long : length front + 2 ≡ length (cells_from 0 front) + 2 = omega (arith, cells_length 0 front) in
    let cells : cells_from 0 ls ≡ cells_from 0 front ++ (gone ∷ clause number size body ∷ (gones (length body) ++ cells_from 0 rest)) = ap (cells_from 0) is ∙ between_is front number size body rest w e in
    let one : at + 1 ≡ suc at = omega arith in
    let next : drop (at + 1) (cells_of ls) ≡ gones (length body) ++ cells_from 0 rest = ap (λ k. drop k (cells_of ls)) one ∙ ap (drop at) cells ∙ drop_second (cells_from 0 front) gone (clause number size body) (gones (length body) ++ cells_from 0 rest) at (place ∙ front_long) in
    let left : drop read ls ≡ rest = ap (drop read) (is ∙ sym (append_assoc front (block number size body) rest)) ∙ drop_at (front ++ block number size body) rest read (omega (arith, length-append front (block number size body))) in
    let spot : at + 1 + length body ≡ read + 1 = omega arith in
    ap (first_held (at + 1)) next ∙ first_gones (at + 1) (length body) (cells_from 0 rest) ∙ ap (λ k. first_held k (cells_from 0 rest)) spot ∙ ap (λ l. first_held (read + 1) (cells_from 0 l)) (sym left)

pub left_after : (front : List Word) (number size : Word) (body rest ls : List Word) (read : ℕ) → ls ≡ between front number size body rest → read ≡ length front + 2 + length body → drop read ls ≡ rest
left_after front number size body rest ls read is end =
    ap (drop read) (is ∙ sym (append_assoc front (block number size body) rest)) ∙ drop_at (front ++ block number size body) rest read (omega (arith, length-append front (block number size body)))
