-- Lemmas on what is read and written of a clause in the region.
use Rattle.std.proofs.Common.{◌≡◌, ◌<◌, ◌≤◌, ◌+◌, ◌*◌, ◌-◌, ◌/◌, ◌%◌, ℕ, suc, zero, Bool, true, false, ◌==◌, cond, List, [], ◌∷◌, ◌++◌, refl, sym, ◌∙◌, ap, subst, arith, length, get_or, set, take, drop, map}
use Rattle.std.specs.List.{swap}
use Rattle.std.proofs.lemmas.List.{take_at, length-append, length-map}
use Rattle.std.proofs.lemmas.List.Edits.{length-swap}
use mir.Val.{bool_byte}
use Rattle.sr_base.specs.Literal.{Literal}
use Rattle.sr_base.specs.LiteralCode.{at_of_code}
use Rattle.sr_base.specs.Words.{literal_in, word_of, AllLiterals}
use Rattle.sr_base.specs.declared.words.Word.{Word}
use Rattle.sr_arena.specs.Cells.{Cell, gone, held_cell, fresh}
use Rattle.sr_arena.specs.Layout.{size_of, is_marked, is_flagged, is_freed, clause, cells_from, cells_of, IsWalk, Laid, laid_of, laid_at, lay, with_cell, IsLaid, gones}
use Rattle.sr_arena.proofs.Clauses.{between, between_walk, between_is, between_length, set_first, set_second, get_first, get_second, drop_second, IsBlock, parted, swap_body, all_swap, map_swap, walk_append, cells_append, cells_length, block, block_walk, block_is}

pub by_test : {P : Type 0} (b : Bool) → (b ≡ true → P) → (b ≡ false → P) → P
by_test true f g = f refl
by_test false f g = g refl

-- the cell of a held clause
abbrev pub whole : Word → Word → List Word → Cell
whole number size body = held_cell (map literal_in body) number.code (is_marked size) (is_flagged size)

-- a held clause, and where it lies
pub record Found (ls : List Word) (at : ℕ) (c : Cell) : Type 0 where
  pub front : List Word
  pub number : Word
  pub size : Word
  pub body : List Word
  pub rest : List Word
  pub is : ls ≡ between front number size body rest
  pub place : at ≡ length front + 2
  pub before : IsWalk 0 front
  pub sized : IsBlock size body
  pub after : IsWalk 0 rest
  pub kept : is_freed size ≡ false
  pub cell : c ≡ whole number size body
  pub fits : at + length body ≤ length ls

clause_held : (number size : Word) (body : List Word) → (clause number size body).held ≡ true → clause number size body ≡ whole number size body
clause_held number size body h = by_test (is_freed size)
    (λ t. let g : (clause number size body).held ≡ false = rw t refl in absurd cc)
    (λ t. rw t refl)

clause_kept : (number size : Word) (body : List Word) → (clause number size body).held ≡ true → is_freed size ≡ false
clause_kept number size body h = by_test (is_freed size)
    (λ t. let g : (clause number size body).held ≡ false = rw t refl in absurd cc)
    (λ t. t)

pub found : (ls : List Word) (used free at : ℕ) (m : Laid) → IsLaid ls used → laid_of ls used free ≡ m → (laid_at m at).held ≡ true → Found ls at (laid_at m at)
found ls used free zero m l view held =
    let here : (get_or (cells_of ls) 0 gone).held ≡ true = subst (λ (x : Laid). (get_or x.cells 0 gone).held ≡ true) (sym view) held in
    absurd cc
found ls used free (suc i) m l view held =
    let here : (get_or (cells_from 0 ls) i gone).held ≡ true = subst (λ (x : Laid). (get_or x.cells (suc i) gone).held ≡ true) (sym view) held in
    let p = parted 0 ls i l.walk here in
    let cells : cells_from 0 ls ≡ cells_from 0 p.front ++ (gone ∷ clause p.number p.size p.body ∷ (gones (length p.body) ++ cells_from 0 p.rest)) = ap (cells_from 0) p.is ∙ between_is p.front p.number p.size p.body p.rest p.before p.sized in
    let spot : i ≡ length (cells_from 0 p.front) + 1 = omega (arith, p.place, cells_length 0 p.front) in
    let second : get_or (cells_from 0 ls) i gone ≡ clause p.number p.size p.body = ap (λ cs. get_or cs i gone) cells ∙ get_second (cells_from 0 p.front) gone (clause p.number p.size p.body) gone (gones (length p.body) ++ cells_from 0 p.rest) i spot in
    let cell_h : (clause p.number p.size p.body).held ≡ true = ap (λ (c : Cell). c.held) (sym second) ∙ here in
    record {
      front = p.front;
      number = p.number;
      size = p.size;
      body = p.body;
      rest = p.rest;
      is = p.is;
      place = omega (arith, p.place);
      before = p.before;
      sized = p.sized;
      after = p.after;
      kept = clause_kept p.number p.size p.body cell_h;
      cell = ap (λ (x : Laid). get_or x.cells (suc i) gone) (sym view) ∙ second ∙ clause_held p.number p.size p.body cell_h;
      fits = omega (arith, p.place, ap length p.is, between_length p.front p.number p.size p.body p.rest);
    }

-- the two words, as they are read
pub read_number : (ls : List Word) (at n : ℕ) (c : Cell) (w : Word) (f : Found ls at c) → n ≡ at - 2 → w ≡ get_or ls n w → w ≡ f.number
read_number ls at n c w f e r = r ∙ ap (λ l. get_or l n w) f.is ∙ get_first f.front f.number w (f.size ∷ (f.body ++ f.rest)) n (omega (arith, f.place))

pub read_size : (ls : List Word) (at n : ℕ) (c : Cell) (w : Word) (f : Found ls at c) → n ≡ at - 1 → w ≡ get_or ls n w → w ≡ f.size
read_size ls at n c w f e r = r ∙ ap (λ l. get_or l n w) f.is ∙ get_second f.front f.number f.size w (f.body ++ f.rest) n (omega (arith, f.place))

pub read_length : (ls : List Word) (at n : ℕ) (c : Cell) (w : Word) (f : Found ls at c) → n ≡ at - 1 → w ≡ get_or ls n w → size_of w ≡ length f.body
read_length ls at n c w f e r = ap size_of (read_size ls at n c w f e r) ∙ f.sized.sized

-- the words of the literals, as they are read
pub read_body : (ls : List Word) (at n : ℕ) (c : Cell) (f : Found ls at c) → n ≡ length f.body → take n (drop at ls) ≡ f.body
read_body ls at n c f e = ap (λ l. take n (drop at l)) f.is ∙ ap (take n) (drop_second f.front f.number f.size (f.body ++ f.rest) at f.place) ∙ take_at f.body f.rest n (sym e)

-- a clause is changed, and what it leaves
pub record Changed (ls' : List Word) (used free' : ℕ) (m : Laid) (at : ℕ) (c : Cell) : Type 0 where
  pub laid : IsLaid ls' used
  pub view : laid_of ls' used free' ≡ lay m at c

changed : (ls ls' : List Word) (used free free' at : ℕ) (m : Laid) (old : Cell) (number size : Word) (body : List Word) (f : Found ls at old) → IsLaid ls used → laid_of ls used free ≡ m → free' ≡ free → IsBlock size body → length body ≡ length f.body → ls' ≡ between f.front number size body f.rest
    → Changed ls' used free' m at (clause number size body)
changed ls ls' used free free' at m old number size body f l view ef sized n e =
    let long : length ls' ≡ length ls = omega (arith, ap length e, ap length f.is, between_length f.front number size body f.rest, between_length f.front f.number f.size f.body f.rest) in
    let spot : length f.front + 1 ≡ length (cells_from 0 f.front) + 1 = omega (arith, cells_length 0 f.front) in
    let here : at ≡ suc (length f.front + 1) = omega (arith, f.place) in
    let before : cells_from 0 ls ≡ cells_from 0 f.front ++ (gone ∷ clause f.number f.size f.body ∷ (gones (length f.body) ++ cells_from 0 f.rest)) = ap (cells_from 0) f.is ∙ between_is f.front f.number f.size f.body f.rest f.before f.sized in
    let after : cells_from 0 ls' ≡ cells_from 0 f.front ++ (gone ∷ clause number size body ∷ (gones (length f.body) ++ cells_from 0 f.rest)) = ap (cells_from 0) e ∙ between_is f.front number size body f.rest f.before sized ∙ ap (λ k. cells_from 0 f.front ++ (gone ∷ clause number size body ∷ (gones k ++ cells_from 0 f.rest))) n in
    let cells : cells_from 0 ls' ≡ set (cells_from 0 ls) (length f.front + 1) (clause number size body) =
    after ∙ sym (ap (λ cs. set cs (length f.front + 1) (clause number size body)) before ∙ set_second (cells_from 0 f.front) gone (clause f.number f.size f.body) (clause number size body) (gones (length f.body) ++ cells_from 0 f.rest) (length f.front + 1) spot) in
    record {
      laid = record {
        walk = subst (IsWalk 0) (sym e) (between_walk f.front number size body f.rest f.before sized f.after);
        within = omega (arith, l.within);
        room = l.room;
      };
      view = subst (λ x. laid_of ls' used free' ≡ lay x at (clause number size body)) view (rw (here, cells, ef) refl);
    }

-- its second word is written
written : (ls ls' : List Word) (used free free' at n : ℕ) (m : Laid) (old : Cell) (w : Word) (f : Found ls at old) → IsLaid ls used → laid_of ls used free ≡ m → free' ≡ free → size_of w ≡ size_of f.size → n ≡ at - 1 → ls' ≡ set ls n w → Changed ls' used free' m at (clause f.number w f.body)
written ls ls' used free free' at n m old w f l view ef same e put = changed ls ls' used free free' at m old f.number w f.body f l view ef (record { sized = same ∙ f.sized.sized; all = f.sized.all }) refl
    (put ∙ ap (λ x. set x n w) f.is ∙ set_second f.front f.number f.size w (f.body ++ f.rest) n (omega (arith, f.place)))

-- the bits of a second word
low_bits : (h : ℕ) (b f : Bool) → (bool_byte b + 2 * bool_byte f + 8 * h) % 2 ≡ bool_byte b
low_bits h true true = omega arith
low_bits h true false = omega arith
low_bits h false true = omega arith
low_bits h false false = omega arith

mid_bits : (h : ℕ) (b f : Bool) → (bool_byte b + 2 * bool_byte f + 8 * h) / 2 % 2 ≡ bool_byte f
mid_bits h true true = omega arith
mid_bits h true false = omega arith
mid_bits h false true = omega arith
mid_bits h false false = omega arith

top_bits : (h : ℕ) (b f : Bool) → (bool_byte b + 2 * bool_byte f + 8 * h) / 4 % 2 ≡ 0
top_bits h true true = omega arith
top_bits h true false = omega arith
top_bits h false true = omega arith
top_bits h false false = omega arith

high_bits : (h : ℕ) (b f : Bool) → (bool_byte b + 2 * bool_byte f + 8 * h) / 8 ≡ h
high_bits h true true = omega arith
high_bits h true false = omega arith
high_bits h false true = omega arith
high_bits h false false = omega arith

byte_test : (b : Bool) → (bool_byte b == 1) ≡ b
byte_test true = refl
byte_test false = refl

-- the mark and the flag are written
pub bits_written : (ls ls' : List Word) (used free free' at n h : ℕ) (m : Laid) (b g : Bool) (f : Found ls at (laid_at m at)) → IsLaid ls used → laid_of ls used free ≡ m → free' ≡ free → n ≡ at - 1 → h ≡ size_of f.size → ls' ≡ set ls n (record { code = bool_byte b + 2 * bool_byte g + 8 * h })
    → Changed ls' used free' m at (record (laid_at m at) { marked = b; flagged = g })
bits_written ls ls' used free free' at n h m b g f l view ef e eh put =
    let w : Word = record { code = bool_byte b + 2 * bool_byte g + 8 * h } in
    let mark : is_marked w ≡ b = ap (λ x. x == 1) (low_bits h b g) ∙ byte_test b in
    let flag : is_flagged w ≡ g = ap (λ x. x == 1) (mid_bits h b g) ∙ byte_test g in
    let kept : is_freed w ≡ false = ap (λ x. x == 1) (top_bits h b g) in
    let cell : clause f.number w f.body ≡ record (laid_at m at) { marked = b; flagged = g } =
    ap (λ t. cond t gone (whole f.number w f.body)) kept
    ∙ ap (λ x. held_cell (map literal_in f.body) f.number.code x (is_flagged w)) mark
    ∙ ap (λ x. held_cell (map literal_in f.body) f.number.code b x) flag
    ∙ ap (λ (c : Cell). record c { marked = b; flagged = g }) (sym f.cell) in
    subst (Changed ls' used free' m at) cell (written ls ls' used free free' at n m (laid_at m at) w f l view ef (high_bits h b g ∙ eh) e put)

-- a clause is let go
pub freed_written : (ls ls' : List Word) (used free free' at n h : ℕ) (m : Laid) (f : Found ls at (laid_at m at)) → IsLaid ls used → laid_of ls used free ≡ m → free' ≡ free → n ≡ at - 1 → h ≡ size_of f.size → ls' ≡ set ls n (record { code = 4 + 8 * h }) → Changed ls' used free' m at gone
freed_written ls ls' used free free' at n h m f l view ef e eh put =
    let w : Word = record { code = 4 + 8 * h } in
    let bit : (4 + 8 * h) / 4 % 2 ≡ 1 = omega arith in
    let size : (4 + 8 * h) / 8 ≡ h = omega arith in
    let kept : is_freed w ≡ true = ap (λ x. x == 1) bit in
    subst (Changed ls' used free' m at) (ap (λ t. cond t gone (whole f.number w f.body)) kept) (written ls ls' used free free' at n m (laid_at m at) w f l view ef (size ∙ eh) e put)

clause_same : (number size : Word) (body body' : List Word) (c : Cell) → is_freed size ≡ false → c ≡ whole number size body → clause number size body' ≡ record c { lits = map literal_in body' }
clause_same number size body body' c kept e = ap (λ t. cond t gone (whole number size body')) kept ∙ ap (λ (x : Cell). record x { lits = map literal_in body' }) (sym e)

-- two literals are exchanged
pub swapped : (ls ls' : List Word) (used free free' at i j : ℕ) (m : Laid) (f : Found ls at (laid_at m at)) → IsLaid ls used → laid_of ls used free ≡ m → free' ≡ free → i < length (laid_at m at).lits → j < length (laid_at m at).lits → ls' ≡ swap ls (at + i) (at + j)
    → Changed ls' used free' m at (record (laid_at m at) { lits = swap (laid_at m at).lits i j })
swapped ls ls' used free free' at i j m f l view ef hi hj put =
    let lits : (laid_at m at).lits ≡ map literal_in f.body = ap (λ (x : Cell). x.lits) f.cell in
    let i_in : i < length f.body = omega (arith, ap length lits, length-map f.body literal_in) in
    let j_in : j < length f.body = omega (arith, ap length lits, length-map f.body literal_in) in
    let long : length (swap f.body i j) ≡ length f.body = length-swap f.body i j in
    let e : ls' ≡ between f.front f.number f.size (swap f.body i j) f.rest = put ∙ ap (λ x. swap x (at + i) (at + j)) f.is ∙ swap_body f.front f.number f.size f.body f.rest i j (at + i) (at + j) i_in j_in (omega (arith, f.place)) (omega (arith, f.place)) in
    subst (Changed ls' used free' m at) (clause_same f.number f.size f.body (swap f.body i j) (laid_at m at) f.kept f.cell ∙ ap (λ x. record (laid_at m at) { lits = x }) (map_swap f.body i j i_in j_in ∙ ap (λ x. swap x i j) (sym lits)))
    (changed ls ls' used free free' at m (laid_at m at) f.number f.size (swap f.body i j) f l view ef (record { sized = f.sized.sized ∙ sym long; all = all_swap f.body i j f.sized.all i_in j_in }) long e)

pub literals_back : (xs : List Literal) → map literal_in (map word_of xs) ≡ xs
literals_back [] = refl
literals_back (x ∷ xs) = rw (at_of_code x, literals_back xs) refl

-- the number is written
pub number_written : (ls ls' : List Word) (used free free' at n k : ℕ) (m : Laid) (f : Found ls at (laid_at m at)) → IsLaid ls used → laid_of ls used free ≡ m → free' ≡ free → n ≡ at - 2 → ls' ≡ set ls n (record { code = k })
    → Changed ls' used free' m at (record (laid_at m at) { number = k })
number_written ls ls' used free free' at n k m f l view ef e put =
    let w : Word = record { code = k } in
    let cell : clause w f.size f.body ≡ record (laid_at m at) { number = k } =
    ap (λ t. cond t gone (whole w f.size f.body)) f.kept ∙ ap (λ (x : Cell). record x { number = k }) (sym f.cell) in
    subst (Changed ls' used free' m at) cell
    (changed ls ls' used free free' at m (laid_at m at) w f.size f.body f l view ef f.sized refl
    (put ∙ ap (λ x. set x n w) f.is ∙ set_first f.front f.number w (f.size ∷ (f.body ++ f.rest)) n (omega (arith, f.place))))

-- a clause is added
pub record Pushed (ls' : List Word) (used' free' : ℕ) (m : Laid) (c : Cell) : Type 0 where
  pub laid : IsLaid ls' used'
  pub view : laid_of ls' used' free' ≡ with_cell m c free'

pub pushed : (ls : List Word) (xs : List Literal) (used free free' n : ℕ) (m : Laid) → IsLaid ls used → laid_of ls used free ≡ m → AllLiterals (map word_of xs) → used + length xs + 4 < 4294967296
    → Pushed (ls ++ (record { code = n } ∷ record { code = 8 * length xs } ∷ map word_of xs)) (used + (length xs + 4)) free' m (fresh xs n)
pushed ls xs used free free' n m l view all room =
    let a : Word = record { code = n } in
    let c : Word = record { code = 8 * length xs } in
    let body : List Word = map word_of xs in
    let long : length body ≡ length xs = length-map xs word_of in
    let eight : 8 * length xs / 8 ≡ length xs = omega arith in
    let sized : IsBlock c body = record { sized = eight ∙ sym long; all = all } in
    let bit0 : 8 * length xs % 2 ≡ 0 = omega arith in
    let bit1 : 8 * length xs / 2 % 2 ≡ 0 = omega arith in
    let bit2 : 8 * length xs / 4 % 2 ≡ 0 = omega arith in
    let mark : is_marked c ≡ false = ap (λ x. x == 1) bit0 in
    let flag : is_flagged c ≡ false = ap (λ x. x == 1) bit1 in
    let kept : is_freed c ≡ false = ap (λ x. x == 1) bit2 in
    let cell : clause a c body ≡ fresh xs n =
    ap (λ t. cond t gone (whole a c body)) kept
    ∙ ap (λ x. held_cell x n (is_marked c) (is_flagged c)) (literals_back xs)
    ∙ ap (λ x. held_cell xs n x (is_flagged c)) mark
    ∙ ap (λ x. held_cell xs n false x) flag in
    let cells : cells_from 0 (ls ++ block a c body) ≡ cells_from 0 ls ++ (gone ∷ fresh xs n ∷ gones (length xs)) =
    cells_append 0 ls (block a c body) l.walk ∙ ap (λ cs. cells_from 0 ls ++ cs) (block_is a c body sized ∙ ap (λ x. gone ∷ x ∷ gones (length body)) cell ∙ ap (λ k. gone ∷ fresh xs n ∷ gones k) long) in
    record {
      laid = record {
        walk = walk_append 0 ls (block a c body) l.walk (block_walk a c body sized);
        within = omega (arith, length-append ls (block a c body), l.within, long);
        room = omega arith;
      };
      view = subst (λ x. laid_of (ls ++ block a c body) (used + (length xs + 4)) free' ≡ with_cell x (fresh xs n) free') view (rw cells refl);
    }
