-- The line that a token begins.
use Rattle.std.proofs.Common.{◌≡◌, ◌∙◌, ℕ, ℤ, None, sym, ap, refl, []}
use Rattle.sr_base.specs.Limits.{LimitValues}
use Rattle.sr_base.specs.declared.names.Form.{Form}
use Rattle.sr_base.specs.declared.names.Form.TheVariants as form
use Rattle.sr_base.specs.declared.names.TextKind.{TextKind}
use Rattle.sr_base.specs.declared.names.TextKind.TheVariants.{BadWord}
use Rattle.sr_base.specs.declared.names.LimitKind.TheVariants as limit
use Rattle.sr_model.specs.declared.tokens.Token.{Token}
use Rattle.sr_model.specs.declared.tokens.Word.{Word}
use Rattle.sr_model.specs.declared.tokens.Word.TheVariants as word
use Rattle.sr_model.specs.Tokens.{Tokens, finished, stopped, over, lost, next}
use Rattle.sr_model.specs.Lsr.{numbers_after}
use Rattle.sr_model.specs.Reading.{reads, misspells, passes, fails}
use Rattle.sr_model.specs.Dsr.{with_lemma, with_deletion, line_at, binary_line_at, line_in}
use Rattle.sr_base.specs.declared.names.InputError.{InputError}
use Rattle.sr_base.specs.declared.names.InputError.TheVariants.{Text, Limit, Source, NoMemory}
use Rattle.sr_scan.specs.Left.{front_word, RefusesToken, Refuses}

-- a number begins a lemma in text
pub text_number : (lim : LimitValues) (t : Token) (x : ℤ) (all : Tokens) → t.word ≡ word.Number x → line_at lim (front_word t.place t.word all) ≡ with_lemma (numbers_after limit.Vars lim.vars [] (next t all))
unfolding line_at
text_number lim t x all e =
    ap (λ w. line_at lim (front_word t.place w all)) e ∙ ap (λ w. with_lemma (numbers_after limit.Vars lim.vars [] (next (record { place = t.place; word = w }) all))) (sym e)

-- what begins no line in text
pub text_other : (lim : LimitValues) (t : Token) (all : Tokens) → (t.word ≡ word.End → ⊥) → ((x : ℤ) → t.word ≡ word.Number x → ⊥) → (t.word ≡ word.Del → ⊥)
    → line_at lim (front_word t.place t.word all) ≡ misspells BadWord t.place
unfolding line_at
text_other lim t all e n d = at t.word e n d
  where
    at : (w : Word) → (w ≡ word.End → ⊥) → ((x : ℤ) → w ≡ word.Number x → ⊥) → (w ≡ word.Del → ⊥) → line_at lim (front_word t.place w all) ≡ misspells BadWord t.place
    at word.End e n d = absurd (e refl)
    at (word.Number x) e n d = absurd (n x refl)
    at word.Del e n d = absurd (d refl)
    at word.Add e n d = refl
    at word.Header e n d = refl
    at word.Cnf e n d = refl
    at word.Percent e n d = refl
    at word.Other e n d = refl

-- and in binary
pub binary_other : (lim : LimitValues) (t : Token) (all : Tokens) → (t.word ≡ word.End → ⊥) → (t.word ≡ word.Add → ⊥) → (t.word ≡ word.Del → ⊥) → binary_line_at lim (front_word t.place t.word all) ≡ misspells BadWord t.place
unfolding binary_line_at
binary_other lim t all e n d = at t.word e n d
  where
    at : (w : Word) → (w ≡ word.End → ⊥) → (w ≡ word.Add → ⊥) → (w ≡ word.Del → ⊥) → binary_line_at lim (front_word t.place w all) ≡ misspells BadWord t.place
    at word.End e n d = absurd (e refl)
    at word.Add e n d = absurd (n refl)
    at word.Del e n d = absurd (d refl)
    at (word.Number x) e n d = refl
    at word.Header e n d = refl
    at word.Cnf e n d = refl
    at word.Percent e n d = refl
    at word.Other e n d = refl

-- a deletion, and a lemma of a binary file
pub text_deletion : (lim : LimitValues) (t : Token) (all : Tokens) → t.word ≡ word.Del → line_at lim (front_word t.place t.word all) ≡ with_deletion (numbers_after limit.Vars lim.vars [] all)
unfolding line_at
text_deletion lim t all e = ap (λ w. line_at lim (front_word t.place w all)) e

pub binary_deletion : (lim : LimitValues) (t : Token) (all : Tokens) → t.word ≡ word.Del → binary_line_at lim (front_word t.place t.word all) ≡ with_deletion (numbers_after limit.Vars lim.vars [] all)
unfolding binary_line_at
binary_deletion lim t all e = ap (λ w. binary_line_at lim (front_word t.place w all)) e

pub binary_lemma : (lim : LimitValues) (t : Token) (all : Tokens) → t.word ≡ word.Add → binary_line_at lim (front_word t.place t.word all) ≡ with_lemma (numbers_after limit.Vars lim.vars [] all)
unfolding binary_line_at
binary_lemma lim t all e = ap (λ w. binary_line_at lim (front_word t.place w all)) e

-- the end of the file
pub line_none : (f : Form) (lim : LimitValues) (place : ℕ) → line_in f lim (finished place) ≡ reads None (finished place)
unfolding line_at binary_line_at
line_none form.Text lim place = refl
line_none form.Binary lim place = refl

-- no token stands at the front
line_stopped : (f : Form) (lim : LimitValues) (kind : TextKind) (place : ℕ) → line_in f lim (stopped kind place) ≡ misspells kind place
unfolding line_at binary_line_at
line_stopped form.Text lim kind place = refl
line_stopped form.Binary lim kind place = refl

line_over : (f : Form) (lim : LimitValues) → line_in f lim over ≡ passes limit.Bytes
unfolding line_at binary_line_at
line_over form.Text lim = refl
line_over form.Binary lim = refl

line_lost : (f : Form) (lim : LimitValues) → line_in f lim lost ≡ fails
unfolding line_at binary_line_at
line_lost form.Text lim = refl
line_lost form.Binary lim = refl

pub unbegun : (f : Form) (lim : LimitValues) (all : Tokens) (e : InputError) → RefusesToken all e → Refuses (line_in f lim all) e
unbegun f lim all (Text kind place) r = ap (line_in f lim) r ∙ line_stopped f lim kind place
unbegun f lim all (Limit limit.Bytes) r = ap (line_in f lim) r ∙ line_over f lim
unbegun f lim all (Limit limit.Vars) r = absurd r
unbegun f lim all (Limit limit.Ids) r = absurd r
unbegun f lim all (Limit limit.Cells) r = absurd r
unbegun f lim all Source r = ap (line_in f lim) r ∙ line_lost f lim
unbegun f lim all NoMemory r = absurd r
