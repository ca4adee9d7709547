-- A token that is taken of the bytes at hand.
use Rattle.std.proofs.Common.{◌≡◌, ◌≢◌, ◌∙◌, ℕ, zero, suc, ◌+◌, ◌-◌, ◌<◌, ◌≤◌, Bool, true, false, refl, sym, ap, List, [], ◌∷◌, ◌++◌, length, take, drop, get_or, Option, Some, None, Ok, arith, length-take, length-drop, append_assoc, ◌==◌}
use Rattle.std.proofs.lemmas.Bool.Decides.{nat_tests}
use Rattle.std.specs.List.{list_all}
use Rattle.std.proofs.lemmas.List.{take_more, take_rest, take-take}
use Rattle.std.proofs.Math.Seq.{take-add}
use Rattle.sr_base.specs.Contents.{Ending, Contents}
use Rattle.sr_desk.specs.Reader.{Reader, buffered, skipped, last_after}
use Rattle.sr_desk.specs.Outside.{Outside, Agrees}
use Rattle.sr_desk.specs.Next.{Stands, remaining}
use Rattle.sr_desk.proofs.BufferLemmas.{last_after-append}
use Rattle.sr_model.specs.declared.tokens.Word.{Word}
use Rattle.sr_model.specs.declared.tokens.Word.TheVariants as word
use Rattle.sr_model.specs.Words.{is_white, said_by}
use Rattle.sr_model.specs.declared.tokens.Token.{Token}
use Rattle.sr_model.specs.Tokens.{Tokens, next, judged}
use Rattle.sr_scan.specs.declared.lexeme.Gap.{Gap}
use Rattle.sr_scan.specs.declared.lexeme.Gap.TheVariants.{Line, Words, Comment}
use Rattle.sr_scan.specs.Lexeme.{begun, word_of, gap_at, gap_after}
use Rattle.sr_scan.specs.Machine.{between, within, begins, moved, told, texts, lexeme_after, machine_left, TakesToken}
use Rattle.sr_scan.specs.Front.{is_dark, is_end, Leads}
use Rattle.sr_scan.specs.Left.{Advances, front_word, text_left, GivesToken}
use Rattle.sr_desk.proofs.ReaderLemmas.{remaining-ahead}
use Rattle.sr_scan.proofs.ReadLemmas.{agreed, Reads-skips, skips_remaining}
use Rattle.sr_scan.proofs.TextLemmas.{texts-cons}
use Rattle.sr_scan.proofs.TokenLemmas.{said-lexeme, machine_left_is}
use Rattle.sr_scan.proofs.RunLemmas.{texts-run}

-- between tokens, and in no comment
abbrev pub IsOpen : Gap → Type 0
IsOpen Comment = ⊥
IsOpen g = Unit {0}

pub open-at : (last : Option ℕ) → IsOpen (gap_at last)
open-at None = tt
open-at (Some b) = at (b == 10) refl
  where
    at : (t : Bool) → (b == 10) ≡ t → IsOpen (gap_at (Some b))
    at true t = rw t tt
    at false t = rw t tt

-- white space is passed over
record Passes (e : Ending) (g : Gap) (room place : ℕ) (ws rest : List ℕ) : Type 0 where
  gap : Gap
  is_open : IsOpen gap
  same : texts e (between g) room place (ws ++ rest) ≡ texts e (between gap) (room - length ws) (place + length ws) rest

white-gap : (g : Gap) (b : ℕ) → IsOpen g → is_white b ≡ true → (h : Gap) × (IsOpen h) × (gap_after g b ≡ Some h)
white-gap Comment b o w = absurd o
white-gap Line b o w = (Line, tt, rw w refl)
white-gap Words b o w = (gap_at (Some b), open-at (Some b), rw w refl)

passes : (e : Ending) (g : Gap) (room place : ℕ) (ws rest : List ℕ) → IsOpen g → list_all is_white ws ≡ true → length ws ≤ room → Passes e g room place ws rest
passes e g room place [] rest o all le =
    let a : room - 0 ≡ room = omega arith in
    let b : place + 0 ≡ place = omega arith in
    record { gap = g; is_open = o; same = rw (a, b) refl }
passes e g room place (w ∷ ws) rest o all le = go (is_white w) refl (λ h op more. passes e h (room - 1) (place + 1) ws rest op more (omega arith))
  where
    go : (t : Bool) → is_white w ≡ t → ((h : Gap) → IsOpen h → list_all is_white ws ≡ true → Passes e h (room - 1) (place + 1) ws rest) → Passes e g room place (w ∷ ws) rest
    go false t again = let bad = rw t at all in cc
    go true t again =
        let step = white-gap g w o t in
        let more : list_all is_white ws ≡ true = rw t at all in
        let later = again step.0 step.1 more in
        let a : room - 1 - length ws ≡ room - suc (length ws) = omega arith in
        let b : place + 1 + length ws ≡ place + suc (length ws) = omega arith in
        record {
          gap = later.gap;
          is_open = later.is_open;
          same = texts-cons e (between g) room place w (ws ++ rest) (omega arith)
              ∙ ap (λ o. texts e (begins place w o) (room - 1) (place + 1) (ws ++ rest)) step.2
              ∙ later.same ∙ rw (a, b) refl;
        }

-- a dark byte that begins no comment begins a token
no-gap : (g : Gap) (b : ℕ) → IsOpen g → is_white b ≡ false → b ≢ 99 → gap_after g b ≡ None
no-gap Comment b o w ne = absurd o
no-gap Line b o w ne = let c : (b == 99) ≡ false = grind (arith, nat_tests) in rw (w, c) refl
no-gap Words b o w ne = rw w refl

starts : (e : Ending) (g : Gap) (room place b : ℕ) (rest : List ℕ) → IsOpen g → is_white b ≡ false → b ≢ 99 → 0 < room
    → texts e (between g) room place (b ∷ rest) ≡ texts e (within place (begun b)) (room - 1) (place + 1) rest
starts e g room place b rest o w ne lt =
    texts-cons e (between g) room place b rest lt ∙ ap (λ o. texts e (begins place b o) (room - 1) (place + 1) rest) (no-gap g b o w ne)

-- a white byte ends a token
finishes : (e : Ending) (p : ℕ) (bs : List ℕ) (b room place w : ℕ) (rest : List ℕ) (word : Word) → is_white w ≡ true → 0 < room → said_by (b ∷ bs) ≡ Ok word
    → texts e (within p (lexeme_after (begun b) bs)) room place (w ∷ rest) ≡ next (record { place = p; word = word }) (texts e (between (gap_at (Some w))) (room - 1) (place + 1) rest)
finishes e p bs b room place w rest word white lt says =
    let l = lexeme_after (begun b) bs in
    let step : told (within p l) w (texts e (moved (within p l) w place) (room - 1) (place + 1) rest) ≡ judged p (word_of l) (texts e (between (gap_at (Some w))) (room - 1) (place + 1) rest) = rw white refl in
    texts-cons e (within p l) room place w rest lt ∙ step ∙ ap (λ x. judged p x (texts e (between (gap_at (Some w))) (room - 1) (place + 1) rest)) (said-lexeme b bs ∙ says)

dark_first : (b : ℕ) (bs : List ℕ) → list_all is_dark (b ∷ bs) ≡ true → is_white b ≡ false
dark_first b bs h = go (is_white b) refl
  where
    go : (t : Bool) → is_white b ≡ t → is_white b ≡ false
    go true t = let bad = rw t at h in cc
    go false t = t

dark_rest : (b : ℕ) (bs : List ℕ) → list_all is_dark (b ∷ bs) ≡ true → list_all is_dark bs ≡ true
dark_rest b bs h = rw (dark_first b bs h) at h

-- white space, a token and the byte that ends it give the token
pub front_token : (e : Ending) (g : Gap) (room place : ℕ) (ws : List ℕ) (b : ℕ) (bs : List ℕ) (w : ℕ) (rest : List ℕ) (word : Word) → IsOpen g
    → list_all is_white ws ≡ true → list_all is_dark (b ∷ bs) ≡ true → b ≢ 99 → is_white w ≡ true → said_by (b ∷ bs) ≡ Ok word → length ws + length (b ∷ bs) + 1 ≤ room
    → texts e (between g) room place (ws ++ (b ∷ (bs ++ w ∷ rest)))
    ≡ next (record { place = place + length ws; word = word }) (texts e (between (gap_at (Some w))) (room - (length ws + length (b ∷ bs) + 1)) (place + (length ws + length (b ∷ bs) + 1)) rest)
front_token e g room place ws b bs w rest word o all dark ne white says le =
    let gone = passes e g room place ws (b ∷ (bs ++ w ∷ rest)) o all (omega arith) in
    let p : ℕ = place + length ws in
    let r : ℕ = room - length ws in
    let a : r - 1 - length bs - 1 ≡ room - (length ws + length (b ∷ bs) + 1) = omega arith in
    let c : p + 1 + length bs + 1 ≡ place + (length ws + length (b ∷ bs) + 1) = omega arith in
    gone.same
    ∙ starts e gone.gap r p b (bs ++ w ∷ rest) gone.is_open (dark_first b bs dark) ne (omega arith)
    ∙ texts-run e p (begun b) (r - 1) (p + 1) bs (w ∷ rest) (dark_rest b bs dark) (omega arith)
    ∙ finishes e p bs b (r - 1 - length bs) (p + 1 + length bs) w rest word white (omega arith) says
    ∙ rw (a, c) refl

-- the bytes of white space, of a token and the one that ends it
record Parts (bytes : List ℕ) (start len : ℕ) (word : Word) : Type 0 where
  ws : List ℕ
  b : ℕ
  bs : List ℕ
  w : ℕ
  blank : list_all is_white ws ≡ true
  dark : list_all is_dark (b ∷ bs) ≡ true
  first : b ≢ 99
  white : is_white w ≡ true
  says : said_by (b ∷ bs) ≡ Ok word
  start_is : length ws ≡ start
  len_is : length (b ∷ bs) ≡ len
  bytes_are : take (start + len + 1) bytes ≡ ws ++ (b ∷ (bs ++ w ∷ []))

record FirstPart (bytes : List ℕ) (len : ℕ) (word : Word) : Type 0 where
  b : ℕ
  bs : List ℕ
  first : b ≢ 99
  len_is : length (b ∷ bs) ≡ len
  token : take len bytes ≡ b ∷ bs

first_part : (bytes : List ℕ) (len : ℕ) (word : Word) → Leads bytes len word → FirstPart bytes len word
first_part [] len word l = absurd (let h = l.within in omega arith)
first_part (b ∷ bs) zero word l = absurd (let h = l.some in omega arith)
first_part (b ∷ bs) (suc k) word l =
    let h = l.within in
    record { b = b; bs = take k bs; first = l.first; len_is = simp length-take (omega arith); token = refl }

parts : (bytes : List ℕ) (start len : ℕ) (word : Word) → start ≤ length bytes → list_all is_white (take start bytes) ≡ true → Leads (drop start bytes) len word → Parts bytes start len word
parts bytes start len word le blank l =
    let f = first_part (drop start bytes) len word l in
    let lt : len < length (drop start bytes) = l.within in
    let sum : start + len + 1 ≡ start + (len + 1) = omega arith in
    record {
      ws = take start bytes;
      b = f.b;
      bs = f.bs;
      w = get_or (drop start bytes) len 0;
      blank = blank;
      dark = rw f.token at l.dark;
      first = f.first;
      white = l.white;
      says = rw f.token at l.says;
      start_is = simp length-take (omega arith);
      len_is = f.len_is;
      bytes_are = rw (sum, take-add start (len + 1) bytes, take_more (drop start bytes) len 0 lt, f.token) refl;
    }

pub advances : (old new : Reader) (w : Word) → is_end w ≡ false → new.limit - new.taken < old.limit - old.taken → Advances old new w
advances old new (word.Number n) e h = h
advances old new word.Add e h = h
advances old new word.Del e h = h
advances old new word.Header e h = h
advances old new word.Cnf e h = h
advances old new word.Percent e h = h
advances old new word.Other e h = h
advances old new word.End e h = cc

joined : (ws : List ℕ) (b : ℕ) (bs : List ℕ) (w : ℕ) (rest : List ℕ) → (ws ++ (b ∷ (bs ++ w ∷ []))) ++ rest ≡ ws ++ (b ∷ (bs ++ w ∷ rest))
joined ws b bs w rest = append_assoc ws (b ∷ (bs ++ w ∷ [])) rest ∙ ap (λ l. ws ++ (b ∷ l)) (append_assoc bs (w ∷ []) rest)

last-joined : (l : Option ℕ) (ws : List ℕ) (b : ℕ) (bs : List ℕ) (w : ℕ) → last_after l (ws ++ (b ∷ (bs ++ w ∷ []))) ≡ Some w
last-joined l ws b bs w = last_after-append l ws (b ∷ (bs ++ w ∷ [])) ∙ last_after-append (Some b) bs (w ∷ [])

-- what is left behind the token
behind : (r : Reader) (c : Contents) (start len : ℕ) (word : Word) (more : List ℕ) → Parts (buffered r) start len word → start + len + 1 ≤ length (buffered r) → start + len + 1 ≤ r.limit - r.taken
    → remaining r c ≡ r.ahead ++ more → machine_left r c ≡ next (record { place = r.taken + start; word = word }) (machine_left (skipped r (start + len + 1)) c)
behind r c start len word more p all room is =
    let n : ℕ = start + len + 1 in
    let rest : List ℕ = remaining (skipped r n) c in
    let whole : remaining r c ≡ p.ws ++ (p.b ∷ (p.bs ++ p.w ∷ rest)) =
    skips_remaining r c more n all is ∙ ap (λ (f : List ℕ). f ++ rest) p.bytes_are ∙ joined p.ws p.b p.bs p.w rest in
    let last : (skipped r n).last ≡ Some p.w =
    ap (last_after r.last) (sym (take-take n (r.limit - r.taken) r.ahead room) ∙ p.bytes_are) ∙ last-joined r.last p.ws p.b p.bs p.w in
    let size : length p.ws + length (p.b ∷ p.bs) + 1 ≡ n = omega (arith, p.start_is, p.len_is) in
    let first = front_token c.ending (gap_at r.last) (r.limit - r.taken) r.taken p.ws p.b p.bs p.w rest word (open-at r.last) p.blank p.dark p.first p.white p.says (omega (arith, size, room)) in
    let under : r.limit - r.taken - n ≡ r.limit - (r.taken + n) = omega arith in
    ap (texts c.ending (between (gap_at r.last)) (r.limit - r.taken) r.taken) whole ∙ first ∙ rw (size, p.start_is, under) refl
    ∙ ap (λ (l : Option ℕ). next (record { place = r.taken + start; word = word }) (texts c.ending (between (gap_at l)) (r.limit - (r.taken + n)) (r.taken + n) rest)) (sym last)

-- the token is taken of the bytes at hand
pub takes_token : (r : Reader) (start len : ℕ) (word : Word) → start ≤ length (buffered r) → list_all is_white (take start (buffered r)) ≡ true → Leads (drop start (buffered r)) len word
    → TakesToken r (skipped r (start + len + 1)) (record { place = r.taken + start; word = word })
takes_token r start len word le blank l =
    let p = parts (buffered r) start len word le blank l in
    let n : ℕ = start + len + 1 in
    let fits : n ≤ length (buffered r) = omega (arith, simp length-drop at l.within) in
    let room : n ≤ r.limit - r.taken = omega (arith, simp length-take at fits) in
    record {
      skips = record { count = n; within = fits; same = refl };
      word = l.word;
      advances = advances r (skipped r n) word l.word (omega arith);
      left = λ c more is. behind r c start len word more p fits room is;
    }

-- the same, where the bytes at hand are slices
pub takes_at_hand : (r new : Reader) (bytes : List ℕ) (start len place : ℕ) (word : Word) → bytes ≡ buffered r → start ≤ length bytes → list_all is_white (take start bytes) ≡ true
    → Leads (take (length bytes - start) (drop start bytes)) len word → place ≡ r.taken → new ≡ skipped r (start + len + 1) → TakesToken r new (record { place = place + start; word = word })
takes_at_hand r new bytes start len place word is le blank l at now =
    rw (at, now) (takes_token r start len word (rw is at le) (rw is at blank) (rw is at (rw take_rest at l)))

first-next : (place : ℕ) (w : Word) (rest : Tokens) → is_end w ≡ false → next (record { place = place; word = w }) rest ≡ front_word place w rest
first-next place (word.Number n) rest e = refl
first-next place word.Add rest e = refl
first-next place word.Del rest e = refl
first-next place word.Header rest e = refl
first-next place word.Cnf rest e = refl
first-next place word.Percent rest e = refl
first-next place word.Other rest e = refl
first-next place word.End rest e = cc

no_end : (w : Word) → is_end w ≡ false → w ≡ word.End → ⊥
no_end w e h = let bad : true ≡ false = rw h at e in cc

-- so it is the first of the tokens that are left
pub gives_hand : (old new : Reader) (o : Outside) (c : Contents) (t : Token) → Stands old o → TakesToken old new t → Agrees (o.slot new.slot) c → GivesToken (text_left old c) (text_left new c) (Ok t)
gives_hand old new o c t s takes h =
    let agrees = agreed (Reads-skips old new o s takes.skips) h in (
      sym (machine_left_is old c) ∙ takes.left c agrees.more (remaining-ahead c s agrees) ∙ ap (next t) (machine_left_is new c) ∙ first-next t.place t.word (text_left new c) takes.word,
      λ e. absurd (no_end t.word takes.word e),
    )
