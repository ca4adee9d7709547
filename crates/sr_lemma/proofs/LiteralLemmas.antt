-- Literals that stand whole in the reader's buffer.
use Rattle.std.proofs.Common.{◌≡◌, ◌∙◌, ℕ, zero, suc, pos, negsuc, ◌+◌, ◌-◌, ◌*◌, ◌/◌, ◌%◌, ◌^◌, ◌<◌, ◌≤◌, ◌==◌, refl, sym, ap, subst, map, true, false, List, [], ◌∷◌, ◌++◌, length, take, drop, Ok, arith, length-take, length-drop}
use Rattle.std.specs.Prelude.{nat_abs}
use Rattle.std.proofs.lemmas.Bool.Decides.{nat_tests}
use Rattle.std.proofs.lemmas.List.{take_rest}
use Rattle.sr_base.specs.Literal.{Literal, plus, minus, number, literal_of, literal_code}
use Rattle.sr_base.specs.declared.names.Form.{Form}
use Rattle.sr_base.specs.declared.names.Form.TheVariants as form
use Rattle.sr_base.specs.declared.names.LimitKind.TheVariants as limit
use Rattle.sr_base.specs.Contents.{Contents}
use Rattle.sr_desk.specs.Next.{remaining}
use Rattle.sr_desk.specs.Reader.{Reader, buffered, skipped}
use Rattle.sr_model.specs.declared.tokens.Token.{Token}
use Rattle.sr_model.specs.declared.tokens.Word.TheVariants as word
use Rattle.sr_model.specs.Tokens.{next}
use Rattle.sr_model.specs.BinaryTokens.{open_after, value_word}
use Rattle.sr_model.specs.Lsr.{numbers_after}
use Rattle.sr_scan.specs.Left.{tokens_left}
use Rattle.sr_scan.proofs.ReadLemmas.{skipped-none}
use Rattle.sr_scan.proofs.BinaryLemmas.{word-even, word-odd}
use Rattle.sr_lemma.specs.Reads.{SpellsLiteral, LeadsLiteral, TakesLiterals}
use Rattle.sr_lemma.proofs.NumberLemmas.{literal_more, named_more, open_number}
use Rattle.sr_lemma.proofs.RunLemmas.{run_front, text_run_front}

-- the code of a literal is the value that spells it
literal_word : (l : Literal) → 2 ≤ literal_code l → literal_code l < 2 ^ 63 → value_word (literal_code l) ≡ Ok (word.Number (number l))
literal_word (plus v) low small = let half : 2 * v / 2 ≡ v = omega arith in word-even (2 * v) (omega arith) (omega arith) ∙ ap (λ (n : ℕ). Ok (word.Number (pos n))) half
literal_word (minus zero) low small = absurd (omega arith)
literal_word (minus (suc n)) low small =
    let half : (2 * suc n + 1) / 2 - 1 ≡ n = omega arith in word-odd (2 * suc n + 1) (omega arith) (omega arith) (omega arith) ∙ ap (λ (n : ℕ). Ok (word.Number (negsuc n))) half

literal_some : (l : Literal) → 2 ≤ literal_code l → number l ≡ pos 0 → ⊥
literal_some (plus zero) low e = absurd (omega arith)
literal_some (plus (suc n)) low e = cc
literal_some (minus zero) low e = absurd (omega arith)
literal_some (minus (suc n)) low e = cc

literal_within : (l : Literal) (bound : ℕ) → literal_code l ≤ 2 * bound + 1 → nat_abs (number l) ≤ bound
literal_within (plus v) bound high = omega arith
literal_within (minus zero) bound high = omega arith
literal_within (minus (suc n)) bound high = omega arith

literal_named : (l : Literal) → 2 ≤ literal_code l → l ≡ literal_of (number l)
literal_named (plus v) low = refl
literal_named (minus zero) low = absurd (omega arith)
literal_named (minus (suc n)) low = ap minus (omega arith)

-- no literal was taken
pub takes_start : (form : Form) (bound : ℕ) (r : Reader) (lits : List Literal) → TakesLiterals form bound r (skipped r 0) lits lits
takes_start form bound r lits = record {
  named = λ h. h;
  numbers = λ c more lists open_lists ahead some. ap (λ (x : Reader). numbers_after limit.Vars bound (map number lits) (tokens_left form lists open_lists x c)) (sym (skipped-none r));
}

-- a literal leaves the lists open
stays_open : (lists open_lists : ℕ) (l : Literal) → 2 ≤ literal_code l → 0 < open_lists → open_after lists open_lists (word.Number (number l)) ≡ open_lists
stays_open lists zero l low some = absurd (omega arith)
stays_open lists (suc o) l low some = open_number lists o (word.Number (number l)) (number l) refl (literal_some l low)

-- a literal behind those that were taken stands first among the tokens that are left
literal_first : (form : Form) (r : Reader) (at len : ℕ) (l : Literal) (c : Contents) (more : List ℕ) (lists open_lists : ℕ) → SpellsLiteral form (drop at (buffered r)) len l → 2 ≤ literal_code l → at ≤ length (buffered r) → 0 < open_lists
    → remaining r c ≡ r.ahead ++ more
    → (place : ℕ) × (tokens_left form lists open_lists (skipped r at) c ≡ next (record { place = place; word = word.Number (number l) }) (tokens_left form lists open_lists (skipped r (at + len)) c))
literal_first form.Text r at len l c more lists open_lists spells low le some ahead = (r.taken + at + spells.2.start, rw spells.3 (text_run_front r at len spells.0 spells.1 c more spells.2 le ahead))
literal_first form.Binary r at len l c more lists open_lists spells low le some ahead =
    let says = literal_word l low spells.small in
    let stays = stays_open lists open_lists l low some in
    (r.taken + at, rw stays at (run_front r at len (literal_code l) (word.Number (number l)) c more lists open_lists spells says some le ahead))

-- one literal more was taken
takes_more : (form : Form) (bound at len : ℕ) (r : Reader) (before lits lits' : List Literal) (l : Literal) → at ≤ length (buffered r) → LeadsLiteral form (drop at (buffered r)) bound len l → lits' ≡ lits ++ l ∷ []
    → TakesLiterals form bound r (skipped r at) before lits → TakesLiterals form bound r (skipped r (at + len)) before lits'
takes_more form bound at len r before lits lits' l le f pushed t =
    let x = number l in
    record {
      named = λ h. named_more lits lits' x l (t.named h) (literal_named l f.low) refl pushed;
      numbers = λ c more lists open_lists ahead some.
          let first = literal_first form r at len l c more lists open_lists f.spells f.low le some ahead in
          let token : Token = record { place = first.0; word = word.Number x } in
          t.numbers c more lists open_lists ahead some ∙ ap (numbers_after limit.Vars bound (map number lits)) first.1
          ∙ literal_more bound lits lits' token x l (tokens_left form lists open_lists (skipped r (at + len)) c) refl (literal_some l f.low) (literal_within l bound f.high) refl pushed;
    }

-- the same, where the bytes at hand are slices
pub takes_next : (form : Form) (bound at len : ℕ) (r : Reader) (bytes : List ℕ) (before lits lits' : List Literal) (l : Literal) → bytes ≡ buffered r → at ≤ length bytes
    → LeadsLiteral form (take (length bytes - at) (drop at bytes)) bound len l → lits' ≡ lits ++ l ∷ []
    → TakesLiterals form bound r (skipped r at) before lits → TakesLiterals form bound r (skipped r (at + len)) before lits'
takes_next form bound at len r bytes before lits lits' l is le f pushed t =
    takes_more form bound at len r before lits lits' l (rw is at le) (rw is at (rw take_rest at f)) pushed t

pub stays_within : (form : Form) (bound at len : ℕ) (bytes : List ℕ) (l : Literal) → at ≤ length bytes → LeadsLiteral form (take (length bytes - at) (drop at bytes)) bound len l → at + len ≤ length bytes
stays_within form bound at len bytes l le f = omega (arith, simp (length-take, length-drop) at f.len_within)
