-- The machine that the code follows gives the tokens of the plain definition.
use Rattle.std.proofs.Common.{◌≡◌, ◌∙◌, ℕ, zero, suc, ◌+◌, ◌-◌, ◌<◌, ◌≤◌, ◌&&◌, not, Bool, true, false, cond, refl, sym, ap, List, [], ◌∷◌, ◌++◌, length, Option, Some, None, Ok, arith, append_assoc, length-append}
use Rattle.std.specs.Prelude.{nat_le, nat_lt, ◌==◌}
use Rattle.std.proofs.lemmas.Bool.Decides.{nat_tests}
use Rattle.std.proofs.lemmas.List.{append-nil}
use Rattle.sr_scan.specs.declared.lexeme.Lexeme.{Lexeme}
use Rattle.sr_scan.specs.declared.lexeme.Lexeme.TheVariants as lex
use Rattle.sr_scan.specs.declared.lexeme.Gap.{Gap}
use Rattle.sr_scan.specs.declared.lexeme.Gap.TheVariants.{Line, Words, Comment}
use Rattle.sr_model.specs.declared.tokens.Word.TheVariants as word
use Rattle.sr_model.specs.Words.{is_white, is_digit}
use Rattle.sr_scan.specs.Lexeme.{begun, extended, word_of, gap_at, gap_after}
use Rattle.sr_model.specs.Words.{said_by, number_by}
use Rattle.sr_scan.specs.Machine.{lexeme_after}
use Rattle.sr_base.specs.Contents.{Ending, ended, failed, Contents}
use Rattle.sr_desk.specs.Reader.{Reader}
use Rattle.sr_desk.specs.Next.{remaining}
use Rattle.sr_model.specs.Tokens.{Tokens, finished, over, lost, judged}
use Rattle.sr_scan.specs.Machine.{Mode, between, within, begins, moved, told, texts, machine_left}
use Rattle.sr_scan.specs.Left.{text_left}
use Rattle.sr_model.specs.TextTokens.{Run, first_line, next_lines, run, runs_in, is_comment, tokens_of_line, tokens_of_lines, begins_line, tokens_from, said, kept_below, all_said, spelled_from}
use Rattle.sr_scan.proofs.PlainLemmas.{digits-said, malformed, other}
use Rattle.sr_scan.proofs.TextLemmas.{texts-cons, texts-nil, texts-over}

-- what a token says, by its lexeme
pub said-lexeme : (b : ℕ) (bs : List ℕ) → word_of (lexeme_after (begun b) bs) ≡ said_by (b ∷ bs)
said-lexeme b bs = go (b == 45) refl (is_digit b) refl (b == 100) refl (b == 112) refl (b == 99) refl (b == 37) refl
  where
    signed : (bs : List ℕ) → word_of (lexeme_after lex.Sign bs) ≡ number_by true bs
    signed [] = refl
    signed (d ∷ ds) = digit (is_digit d) refl
      where
        digit : (t : Bool) → is_digit d ≡ t → word_of (lexeme_after lex.Sign (d ∷ ds)) ≡ number_by true (d ∷ ds)
        digit true t =
            let first : extended lex.Sign d ≡ lex.Digits true (d - 48) = rw t refl in
            ap (λ (l : Lexeme). word_of (lexeme_after l ds)) first ∙ digits-said true d ds t
        digit false t = rw (t, malformed ds) refl

    one : (l : Lexeme) (x : ℕ) (xs : List ℕ) → extended l x ≡ lex.Other → word_of (lexeme_after l (x ∷ xs)) ≡ Ok word.Other
    one l x xs e = ap (λ (k : Lexeme). word_of (lexeme_after k xs)) e ∙ ap word_of (other xs)

    del : (bs : List ℕ) → word_of (lexeme_after lex.D bs) ≡ said_by (100 ∷ bs)
    del [] = refl
    del (x ∷ xs) = one lex.D x xs refl

    header : (bs : List ℕ) → word_of (lexeme_after lex.P bs) ≡ said_by (112 ∷ bs)
    header [] = refl
    header (x ∷ xs) = one lex.P x xs refl

    percent : (bs : List ℕ) → word_of (lexeme_after lex.Percent bs) ≡ said_by (37 ∷ bs)
    percent [] = refl
    percent (x ∷ xs) = one lex.Percent x xs refl

    cnf : (bs : List ℕ) → word_of (lexeme_after lex.C bs) ≡ said_by (99 ∷ bs)
    cnf [] = refl
    cnf (x ∷ xs) = second (x == 110) refl
      where
        third : (xs : List ℕ) → word_of (lexeme_after lex.Cn xs) ≡ said_by (99 ∷ 110 ∷ xs)
        third [] = refl
        third (y ∷ ys) = at (y == 102) refl ys
          where
            at : (t : Bool) → (y == 102) ≡ t → (ys : List ℕ) → word_of (lexeme_after lex.Cn (y ∷ ys)) ≡ said_by (99 ∷ 110 ∷ y ∷ ys)
            at true t [] = rw t refl
            at true t (z ∷ zs) = rw t (one lex.Cnf z zs refl)
            at false t ys = rw (t, other ys) refl

        second : (t : Bool) → (x == 110) ≡ t → word_of (lexeme_after lex.C (x ∷ xs)) ≡ said_by (99 ∷ x ∷ xs)
        second true t = let is : x ≡ 110 = grind (arith, nat_tests) in rw is (third xs)
        second false t = rw (t, other xs) refl

    go : (m : Bool) → (b == 45) ≡ m → (d : Bool) → is_digit b ≡ d → (k : Bool) → (b == 100) ≡ k → (p : Bool) → (b == 112) ≡ p → (c : Bool) → (b == 99) ≡ c → (q : Bool) → (b == 37) ≡ q
        → word_of (lexeme_after (begun b) bs) ≡ said_by (b ∷ bs)
    go true m d e k l p o c f q r = let is : b ≡ 45 = grind (arith, nat_tests) in rw is (signed bs)
    go false m true e k l p o c f q r =
        let first : begun b ≡ lex.Digits false (b - 48) = rw e refl in
        let says : said_by (b ∷ bs) ≡ number_by false (b ∷ bs) = rw (m, e) refl in
        ap (λ (l : Lexeme). word_of (lexeme_after l bs)) first ∙ digits-said false b bs e ∙ sym says
    go false m false e true l p o c f q r = let is : b ≡ 100 = grind (arith, nat_tests) in rw is (del bs)
    go false m false e false l true o c f q r = let is : b ≡ 112 = grind (arith, nat_tests) in rw is (header bs)
    go false m false e false l false o true f q r = let is : b ≡ 99 = grind (arith, nat_tests) in rw is (cnf bs)
    go false m false e false l false o false f true r = let is : b ≡ 37 = grind (arith, nat_tests) in rw is (percent bs)
    go false m false e false l false o false f false r = rw (m, e, l, o, f, r, other bs) refl

-- one more byte of a lexeme
lexeme-more : (l : Lexeme) (ws : List ℕ) (b : ℕ) → lexeme_after l (ws ++ b ∷ []) ≡ extended (lexeme_after l ws) b
lexeme-more l [] b = refl
lexeme-more l (w ∷ ws) b = lexeme-more (extended l w) ws b

-- the tokens that are kept, where the whole text may be read or not
abbrev kept : Bool → ℕ → List Run → List Run
kept true limit rs = rs
kept false limit rs = kept_below limit rs

kept-append : (limit : ℕ) (xs ys : List Run) → kept_below limit (xs ++ ys) ≡ kept_below limit xs ++ kept_below limit ys
kept-append limit [] ys = refl
kept-append limit (x ∷ xs) ys = go (nat_lt (x.place + length x.bytes) limit) refl (kept-append limit xs ys)
  where
    go : (t : Bool) → nat_lt (x.place + length x.bytes) limit ≡ t → kept_below limit (xs ++ ys) ≡ kept_below limit xs ++ kept_below limit ys
        → kept_below limit ((x ∷ xs) ++ ys) ≡ kept_below limit (x ∷ xs) ++ kept_below limit ys
    go true t h = rw t (ap (λ l. x ∷ l) h)
    go false t h = rw t h

none-runs : (limit : ℕ) (free : Bool) (place : ℕ) (l : List ℕ) → limit ≤ place → kept_below limit (runs_in free place l) ≡ []
none-runs limit free place [] le = refl
none-runs limit free place (b ∷ bs) le = go (free && not (is_white b)) refl (none-runs limit (is_white b) (place + 1) bs (omega arith))
  where
    go : (t : Bool) → (free && not (is_white b)) ≡ t → kept_below limit (runs_in (is_white b) (place + 1) bs) ≡ [] → kept_below limit (runs_in free place (b ∷ bs)) ≡ []
    go true t h = let past : nat_lt (place + length (run (b ∷ bs))) limit ≡ false = grind (arith, nat_tests) in rw (t, past) h
    go false t h = rw t h

none-line : (limit : ℕ) (place : ℕ) (l : List ℕ) → limit ≤ place → kept_below limit (tokens_of_line place l) ≡ []
none-line limit place l le = go (is_comment l) refl
  where
    go : (t : Bool) → is_comment l ≡ t → kept_below limit (tokens_of_line place l) ≡ []
    go true t = rw t refl
    go false t = rw t (none-runs limit true place l le)

none-lines : (limit : ℕ) (place : ℕ) (ls : List (List ℕ)) → limit ≤ place → kept_below limit (tokens_of_lines place ls) ≡ []
none-lines limit place [] le = refl
none-lines limit place (l ∷ ls) le =
    kept-append limit (tokens_of_line place l) (tokens_of_lines (place + length l + 1) ls)
    ∙ rw (none-line limit place l le, none-lines limit (place + length l + 1) ls (omega arith)) refl

-- the tokens of the lines after this one
abbrev later : ℕ → List ℕ → List Run
later place bs = tokens_of_lines (place + length (first_line bs) + 1) (next_lines bs)

-- the tokens that are left in a gap, and within a token
abbrev left : Gap → ℕ → List ℕ → List Run
left Comment place bs = later place bs
left Words place bs = runs_in true place (first_line bs) ++ later place bs
left Line place bs = tokens_of_line place (first_line bs) ++ later place bs

abbrev left_within : ℕ → List ℕ → ℕ → List ℕ → List Run
left_within p ws place bs = record { place = p; bytes = ws ++ run (first_line bs) } ∷ (runs_in false place (first_line bs) ++ later place bs)

none-left : (limit : ℕ) (g : Gap) (place : ℕ) (bs : List ℕ) → limit ≤ place → kept_below limit (left g place bs) ≡ []
none-left limit Comment place bs le = none-lines limit (place + length (first_line bs) + 1) (next_lines bs) (omega arith)
none-left limit Words place bs le =
    kept-append limit (runs_in true place (first_line bs)) (later place bs)
    ∙ rw (none-runs limit true place (first_line bs) le, none-lines limit (place + length (first_line bs) + 1) (next_lines bs) (omega arith)) refl
none-left limit Line place bs le =
    kept-append limit (tokens_of_line place (first_line bs)) (later place bs)
    ∙ rw (none-line limit place (first_line bs) le, none-lines limit (place + length (first_line bs) + 1) (next_lines bs) (omega arith)) refl

-- a byte that is no line feed lengthens the line
later-other : (place : ℕ) (b : ℕ) (bs : List ℕ) → (b == 10) ≡ false → later place (b ∷ bs) ≡ later (place + 1) bs
later-other place b bs ne =
    let same : place + suc (length (first_line bs)) + 1 ≡ place + 1 + length (first_line bs) + 1 = omega arith in
    rw (ne, same) refl

later-feed : (place : ℕ) (bs : List ℕ) → later place (10 ∷ bs) ≡ left Line (place + 1) bs
later-feed place bs = let same : place + 0 + 1 ≡ place + 1 = omega arith in rw same refl

-- what a byte does to the tokens that are left
step-feed : (g : Gap) (place : ℕ) (bs : List ℕ) → left g place (10 ∷ bs) ≡ left Line (place + 1) bs
step-feed Comment place bs = later-feed place bs
step-feed Words place bs = later-feed place bs
step-feed Line place bs = later-feed place bs

step-space : (g : Gap) (place : ℕ) (b : ℕ) (bs : List ℕ) → (b == 10) ≡ false → is_white b ≡ true → left g place (b ∷ bs) ≡ left g (place + 1) bs
step-space Comment place b bs ne w = later-other place b bs ne
step-space Words place b bs ne w =
    let front : runs_in true place (first_line (b ∷ bs)) ≡ runs_in true (place + 1) (first_line bs) = rw (ne, w) refl in
    ap (λ x. x ++ later place (b ∷ bs)) front ∙ ap (λ y. runs_in true (place + 1) (first_line bs) ++ y) (later-other place b bs ne)
step-space Line place b bs ne w =
    let front : tokens_of_line place (first_line (b ∷ bs)) ≡ tokens_of_line (place + 1) (first_line bs) = rw (ne, w) refl in
    ap (λ x. x ++ later place (b ∷ bs)) front ∙ ap (λ y. tokens_of_line (place + 1) (first_line bs) ++ y) (later-other place b bs ne)

step-comment : (place : ℕ) (b : ℕ) (bs : List ℕ) → (b == 10) ≡ false → is_white b ≡ false → (b == 99) ≡ true → left Line place (b ∷ bs) ≡ left Comment (place + 1) bs
step-comment place b bs ne w c =
    let front : tokens_of_line place (first_line (b ∷ bs)) ≡ [] = rw (ne, w, c) refl in
    ap (λ x. x ++ later place (b ∷ bs)) front ∙ later-other place b bs ne

begins_run : (place : ℕ) (b : ℕ) (bs : List ℕ) → (b == 10) ≡ false → is_white b ≡ false → left Words place (b ∷ bs) ≡ left_within place (b ∷ []) (place + 1) bs
begins_run place b bs ne w =
    let front : runs_in true place (first_line (b ∷ bs)) ≡ record { place = place; bytes = b ∷ run (first_line bs) } ∷ runs_in false (place + 1) (first_line bs) = rw (ne, w) refl in
    ap (λ x. x ++ later place (b ∷ bs)) front
    ∙ ap (λ y. record { place = place; bytes = b ∷ run (first_line bs) } ∷ (runs_in false (place + 1) (first_line bs) ++ y)) (later-other place b bs ne)

step-begin : (g : Gap) (place : ℕ) (b : ℕ) (bs : List ℕ) → (b == 10) ≡ false → is_white b ≡ false → gap_after g b ≡ None → left g place (b ∷ bs) ≡ left_within place (b ∷ []) (place + 1) bs
step-begin Comment place b bs ne w e = cc
step-begin Words place b bs ne w e = begins_run place b bs ne w
step-begin Line place b bs ne w e = go (b == 99) refl
  where
    go : (t : Bool) → (b == 99) ≡ t → left Line place (b ∷ bs) ≡ left_within place (b ∷ []) (place + 1) bs
    go true t = let bad = rw (w, t) at e in cc
    go false t =
        let front : tokens_of_line place (first_line (b ∷ bs)) ≡ runs_in true place (first_line (b ∷ bs)) = rw (ne, w, t) refl in
        ap (λ x. x ++ later place (b ∷ bs)) front ∙ begins_run place b bs ne w

within-dark : (p : ℕ) (ws : List ℕ) (place : ℕ) (b : ℕ) (bs : List ℕ) → (b == 10) ≡ false → is_white b ≡ false
    → left_within p ws place (b ∷ bs) ≡ left_within p (ws ++ b ∷ []) (place + 1) bs
within-dark p ws place b bs ne w =
    let line : first_line (b ∷ bs) ≡ b ∷ first_line bs = rw ne refl in
    let same : run (first_line (b ∷ bs)) ≡ b ∷ run (first_line bs) = ap run line ∙ rw w refl in
    let rest : runs_in false place (first_line (b ∷ bs)) ≡ runs_in false (place + 1) (first_line bs) = ap (runs_in false place) line ∙ rw w refl in
    let word : ws ++ run (first_line (b ∷ bs)) ≡ (ws ++ b ∷ []) ++ run (first_line bs) = ap (λ r. ws ++ r) same ∙ sym (append_assoc ws (b ∷ []) (run (first_line bs))) in
    ap (λ x. record { place = p; bytes = x } ∷ (runs_in false place (first_line (b ∷ bs)) ++ later place (b ∷ bs))) word
    ∙ ap (λ x. record { place = p; bytes = (ws ++ b ∷ []) ++ run (first_line bs) } ∷ (x ++ later place (b ∷ bs))) rest
    ∙ ap (λ x. record { place = p; bytes = (ws ++ b ∷ []) ++ run (first_line bs) } ∷ (runs_in false (place + 1) (first_line bs) ++ x)) (later-other place b bs ne)

within-space : (p : ℕ) (ws : List ℕ) (place : ℕ) (b : ℕ) (bs : List ℕ) → (b == 10) ≡ false → is_white b ≡ true
    → left_within p ws place (b ∷ bs) ≡ record { place = p; bytes = ws } ∷ left Words (place + 1) bs
within-space p ws place b bs ne w =
    let line : first_line (b ∷ bs) ≡ b ∷ first_line bs = rw ne refl in
    let same : run (first_line (b ∷ bs)) ≡ [] = ap run line ∙ rw w refl in
    let rest : runs_in false place (first_line (b ∷ bs)) ≡ runs_in true (place + 1) (first_line bs) = ap (runs_in false place) line ∙ rw w refl in
    ap (λ x. record { place = p; bytes = ws ++ x } ∷ (runs_in false place (first_line (b ∷ bs)) ++ later place (b ∷ bs))) same
    ∙ ap (λ x. record { place = p; bytes = x } ∷ (runs_in false place (first_line (b ∷ bs)) ++ later place (b ∷ bs))) (append-nil ws)
    ∙ ap (λ x. record { place = p; bytes = ws } ∷ (x ++ later place (b ∷ bs))) rest
    ∙ ap (λ x. record { place = p; bytes = ws } ∷ (runs_in true (place + 1) (first_line bs) ++ x)) (later-other place b bs ne)

within-feed : (p : ℕ) (ws : List ℕ) (place : ℕ) (bs : List ℕ)
    → left_within p ws place (10 ∷ bs) ≡ record { place = p; bytes = ws } ∷ left Line (place + 1) bs
within-feed p ws place bs =
    ap (λ x. record { place = p; bytes = x } ∷ later place (10 ∷ bs)) (append-nil ws)
    ∙ ap (λ x. record { place = p; bytes = ws } ∷ x) (later-feed place bs)

within-white : (p : ℕ) (ws : List ℕ) (place : ℕ) (b : ℕ) (bs : List ℕ) → is_white b ≡ true
    → left_within p ws place (b ∷ bs) ≡ record { place = p; bytes = ws } ∷ left (gap_at (Some b)) (place + 1) bs
within-white p ws place b bs w = go (b == 10) refl
  where
    go : (t : Bool) → (b == 10) ≡ t → left_within p ws place (b ∷ bs) ≡ record { place = p; bytes = ws } ∷ left (gap_at (Some b)) (place + 1) bs
    go true t = let is : b ≡ 10 = grind (arith, nat_tests) in rw is (within-feed p ws place bs)
    go false t = within-space p ws place b bs t w ∙ rw t refl

dark-no_feed : (b : ℕ) → is_white b ≡ false → (b == 10) ≡ false
dark-no_feed b w = grind (arith, nat_tests)

-- a gap that goes on
step-gap : (g h : Gap) (place : ℕ) (b : ℕ) (bs : List ℕ) → gap_after g b ≡ Some h → left g place (b ∷ bs) ≡ left h (place + 1) bs
step-gap g h place b bs e = go (b == 10) refl (is_white b) refl (b == 99) refl g e
  where
    feed : b ≡ 10 → (g : Gap) → gap_after g b ≡ Some h → left g place (b ∷ bs) ≡ left h (place + 1) bs
    feed is Comment e = let same : h ≡ Line = cc (rw is at e) in rw (is, same) (step-feed Comment place bs)
    feed is Words e = let same : h ≡ Line = cc (rw is at e) in rw (is, same) (step-feed Words place bs)
    feed is Line e = let same : h ≡ Line = cc (rw is at e) in rw (is, same) (step-feed Line place bs)

    go : (t : Bool) → (b == 10) ≡ t → (w : Bool) → is_white b ≡ w → (c : Bool) → (b == 99) ≡ c → (g : Gap) → gap_after g b ≡ Some h → left g place (b ∷ bs) ≡ left h (place + 1) bs
    go true t w v c k g e = feed (grind (arith, nat_tests)) g e
    go false t w v c k Comment e = let same : h ≡ Comment = cc (rw t at e) in rw same (later-other place b bs t)
    go false t true v c k Words e = let same : h ≡ Words = cc (rw (v, t) at e) in rw same (step-space Words place b bs t v)
    go false t true v c k Line e = let same : h ≡ Line = cc (rw v at e) in rw same (step-space Line place b bs t v)
    go false t false v c k Words e = let bad = rw v at e in cc
    go false t false v true k Line e = let same : h ≡ Comment = cc (rw (v, k) at e) in rw same (step-comment place b bs t v k)
    go false t false v false k Line e = let bad = rw (v, k) at e in cc

-- the tokens of the machine are those of the definition: of the runs all, or those below the limit, and what stands at their end
record Law (e : Ending) (bs : List ℕ) (room place limit : ℕ) (all : Bool) (end : Tokens) : Type 0 where
  gap : (g : Gap) → texts e (between g) room place bs ≡ said (kept all limit (left g place bs)) end
  token : (p b : ℕ) (ws : List ℕ) → p + length (b ∷ ws) ≡ place
      → texts e (within p (lexeme_after (begun b) ws)) room place bs ≡ said (kept all limit (left_within p (b ∷ ws) place bs)) end

-- where the file ends
law-end : (room place limit : ℕ) → Law ended [] room place limit true (finished place)
law-end room place limit = record {
  gap = none;
  token = λ p b ws len.
      let word : (b ∷ ws) ++ [] ≡ b ∷ ws = append-nil (b ∷ ws) in
      texts-nil ended (within p (lexeme_after (begun b) ws)) room place
      ∙ ap (λ w. judged p w (finished place)) (said-lexeme b ws)
      ∙ ap (λ w. judged p (said_by w) (finished place)) (sym word);
}
  where
    none : (g : Gap) → texts ended (between g) room place [] ≡ said (kept true limit (left g place [])) (finished place)
    none Comment = texts-nil ended (between Comment) room place
    none Words = texts-nil ended (between Words) room place
    none Line = texts-nil ended (between Line) room place

-- where nothing more is read
law-stop : (e : Ending) (bs : List ℕ) (room place limit : ℕ) (end : Tokens) → limit ≤ place → ((m : Mode) → texts e m room place bs ≡ end) → Law e bs room place limit false end
law-stop e bs room place limit end le stops = record {
  gap = λ g. stops (between g) ∙ sym (ap (λ l. said l end) (none-left limit g place bs le));
  token = λ p c ws len.
      let past : nat_lt (p + length ((c ∷ ws) ++ run (first_line bs))) limit ≡ false = not_below p (c ∷ ws) (run (first_line bs)) limit (omega arith) in
      let rest : kept_below limit (runs_in false place (first_line bs) ++ later place bs) ≡ [] = none-rest limit place bs le in
      let none : kept_below limit (left_within p (c ∷ ws) place bs) ≡ [] = not_first limit (record { place = p; bytes = (c ∷ ws) ++ run (first_line bs) }) _ past ∙ rest in
      stops (within p (lexeme_after (begun c) ws)) ∙ sym (ap (λ l. said l end) none);
}
  where
    not_below : (p : ℕ) (ws more : List ℕ) (limit : ℕ) → limit ≤ p + length ws → nat_lt (p + length (ws ++ more)) limit ≡ false
    not_below p ws more limit le = let len = length-append ws more in grind (arith, nat_tests)

    not_first : (limit : ℕ) (r : Run) (rs : List Run) → nat_lt (r.place + length r.bytes) limit ≡ false → kept_below limit (r ∷ rs) ≡ kept_below limit rs
    not_first limit r rs e = rw e refl

    none-rest : (limit place : ℕ) (bs : List ℕ) → limit ≤ place → kept_below limit (runs_in false place (first_line bs) ++ later place bs) ≡ []
    none-rest limit place bs le =
        kept-append limit (runs_in false place (first_line bs)) (later place bs)
        ∙ rw (none-runs limit false place (first_line bs) le, none-lines limit (place + length (first_line bs) + 1) (next_lines bs) (omega arith)) refl

kept-first : (all : Bool) (limit : ℕ) (r : Run) (rs : List Run) → r.place + length r.bytes < limit → kept all limit (r ∷ rs) ≡ r ∷ kept all limit rs
kept-first true limit r rs lt = refl
kept-first false limit r rs lt = let t : nat_lt (r.place + length r.bytes) limit ≡ true = grind (arith, nat_tests) in rw t refl

law-cons : (e : Ending) (b : ℕ) (bs : List ℕ) (room place limit : ℕ) (all : Bool) (end : Tokens) → place < limit → Law e bs room (place + 1) limit all end → Law e (b ∷ bs) (suc room) place limit all end
law-cons e b bs room place limit all end lim later = record { gap = λ g. gaps g (gap_after g b) refl; token = λ p c ws len. token p c ws len (is_white b) refl }
  where
    first : (m : Mode) → texts e m (suc room) place (b ∷ bs) ≡ told m b (texts e (moved m b place) room (place + 1) bs)
    first m = let same : suc room - 1 ≡ room = omega arith in
        texts-cons e m (suc room) place b bs (omega arith) ∙ ap (λ r. told m b (texts e (moved m b place) r (place + 1) bs)) same

    gaps : (g : Gap) (o : Option Gap) → gap_after g b ≡ o → texts e (between g) (suc room) place (b ∷ bs) ≡ said (kept all limit (left g place (b ∷ bs))) end
    gaps g (Some h) f =
        first (between g)
        ∙ ap (λ o. texts e (begins place b o) room (place + 1) bs) f
        ∙ later.gap h
        ∙ ap (λ l. said (kept all limit l) end) (sym (step-gap g h place b bs f))
    gaps g None f = starts g f (is_white b) refl
      where
        starts : (g : Gap) → gap_after g b ≡ None → (w : Bool) → is_white b ≡ w → texts e (between g) (suc room) place (b ∷ bs) ≡ said (kept all limit (left g place (b ∷ bs))) end
        starts Comment f w v = cc
        starts Words f true v = let bad = rw v at f in cc
        starts Line f true v = let bad = rw v at f in cc
        starts Words f false v =
            first (between Words)
            ∙ ap (λ o. texts e (begins place b o) room (place + 1) bs) f
            ∙ later.token place b [] refl
            ∙ ap (λ l. said (kept all limit l) end) (sym (step-begin Words place b bs (dark-no_feed b v) v f))
        starts Line f false v =
            first (between Line)
            ∙ ap (λ o. texts e (begins place b o) room (place + 1) bs) f
            ∙ later.token place b [] refl
            ∙ ap (λ l. said (kept all limit l) end) (sym (step-begin Line place b bs (dark-no_feed b v) v f))

    token : (p c : ℕ) (ws : List ℕ) → p + length (c ∷ ws) ≡ place → (w : Bool) → is_white b ≡ w
        → texts e (within p (lexeme_after (begun c) ws)) (suc room) place (b ∷ bs) ≡ said (kept all limit (left_within p (c ∷ ws) place (b ∷ bs))) end
    token p c ws len true v =
        let told_it : told (within p (lexeme_after (begun c) ws)) b (texts e (moved (within p (lexeme_after (begun c) ws)) b place) room (place + 1) bs)
        ≡ judged p (word_of (lexeme_after (begun c) ws)) (texts e (between (gap_at (Some b))) room (place + 1) bs) = rw v refl in
        let these : kept all limit (left_within p (c ∷ ws) place (b ∷ bs)) ≡ record { place = p; bytes = c ∷ ws } ∷ kept all limit (left (gap_at (Some b)) (place + 1) bs) =
        ap (kept all limit) (within-white p (c ∷ ws) place b bs v) ∙ kept-first all limit (record { place = p; bytes = c ∷ ws }) _ (omega arith) in
        first (within p (lexeme_after (begun c) ws)) ∙ told_it
        ∙ ap (λ w. judged p w (texts e (between (gap_at (Some b))) room (place + 1) bs)) (said-lexeme c ws)
        ∙ ap (λ t. judged p (said_by (c ∷ ws)) t) (later.gap (gap_at (Some b)))
        ∙ ap (λ l. said l end) (sym these)
    token p c ws len false v =
        let told_it : told (within p (lexeme_after (begun c) ws)) b (texts e (moved (within p (lexeme_after (begun c) ws)) b place) room (place + 1) bs)
        ≡ texts e (within p (extended (lexeme_after (begun c) ws) b)) room (place + 1) bs = rw v refl in
        first (within p (lexeme_after (begun c) ws)) ∙ told_it
        ∙ ap (λ (l : Lexeme). texts e (within p l) room (place + 1) bs) (sym (lexeme-more (begun c) ws b))
        ∙ later.token p c (ws ++ b ∷ []) (omega (arith, length-append ws (b ∷ [])))
        ∙ ap (λ l. said (kept all limit l) end) (sym (within-dark p (c ∷ ws) place b bs (dark-no_feed b v) v))

-- a file that ends
law-ended : (bs : List ℕ) (room place : ℕ) → length bs ≤ room → Law ended bs room place (place + suc (length bs)) true (finished (place + length bs))
law-ended [] room place fits = let e : place + 0 ≡ place = omega arith in rw e (law-end room place (place + 1))
law-ended (b ∷ bs) zero place fits = absurd (omega arith)
law-ended (b ∷ bs) (suc room) place fits =
    let limit : place + 1 + suc (length bs) ≡ place + suc (suc (length bs)) = omega arith in
    let end : place + 1 + length bs ≡ place + suc (length bs) = omega arith in
    law-cons ended b bs room place (place + suc (suc (length bs))) true (finished (place + suc (length bs))) (omega arith) (rw (limit, end) at (law-ended bs room (place + 1) (omega arith)))

-- a file that is longer than the limit
law-over : (e : Ending) (bs : List ℕ) (room place limit : ℕ) → place + room ≡ limit → room < length bs → Law e bs room place limit false over
law-over e [] room place limit lim past = absurd (omega arith)
law-over e (b ∷ bs) zero place limit lim past = law-stop e (b ∷ bs) zero place limit over (omega arith) (λ m. texts-over e m place (b ∷ bs) (λ h. cc))
law-over e (b ∷ bs) (suc room) place limit lim past = law-cons e b bs room place limit false over (omega arith) (law-over e bs room (place + 1) limit (omega arith) (omega arith))

-- a file of which a read fails
law-failed : (bs : List ℕ) (room place limit : ℕ) → place + length bs ≡ limit → length bs ≤ room → Law failed bs room place limit false lost
law-failed [] room place limit lim fits = law-stop failed [] room place limit lost (omega arith) (λ m. texts-nil failed m room place)
law-failed (b ∷ bs) zero place limit lim fits = absurd (omega arith)
law-failed (b ∷ bs) (suc room) place limit lim fits = law-cons failed b bs room place limit false lost (omega arith) (law-failed bs room (place + 1) limit (omega arith) (omega arith))

-- behind a byte, the machine gives the tokens of what is left
pub machine_from : (e : Ending) (before : Option ℕ) (room place : ℕ) (text : List ℕ) → texts e (between (gap_at before)) room place text ≡ spelled_from e before room place text
unfolding spelled_from
machine_from e before room place text = go e (nat_le (length text) room) refl
  where
    tokens_are : (before : Option ℕ) → left (gap_at before) place text ≡ tokens_from (begins_line before) place text
    tokens_are None = refl
    tokens_are (Some b) = at (b == 10) refl
      where
        at : (t : Bool) → (b == 10) ≡ t → left (gap_at (Some b)) place text ≡ tokens_from (b == 10) place text
        at true t = rw t refl
        at false t = rw t refl

    go : (e : Ending) (fits : Bool) → nat_le (length text) room ≡ fits → texts e (between (gap_at before)) room place text
        ≡ cond (nat_le (length text) room) (all_said e (place + length text) (tokens_from (begins_line before) place text)) (said (kept_below (place + room) (tokens_from (begins_line before) place text)) over)
    go ended true w = let le : length text ≤ room = grind (arith, nat_tests) in (law-ended text room place le).gap (gap_at before) ∙ rw (w, tokens_are before) refl
    go failed true w = let le : length text ≤ room = grind (arith, nat_tests) in (law-failed text room place (place + length text) refl le).gap (gap_at before) ∙ rw (w, tokens_are before) refl
    go e false w = let lt : room < length text = grind (arith, nat_tests) in (law-over e text room place (place + room) refl lt).gap (gap_at before) ∙ rw (w, tokens_are before) refl

pub machine_left_is : (r : Reader) (c : Contents) → machine_left r c ≡ text_left r c
machine_left_is r c = machine_from c.ending r.last (r.limit - r.taken) r.taken (remaining r c)
