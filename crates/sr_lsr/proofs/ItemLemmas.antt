-- What the first tokens of an item tell.
use Rattle.std.proofs.Common.{◌≡◌, ◌∙◌, ◌==◌, ℕ, ℤ, pos, negsuc, zero, suc, ◌<◌, ◌≤◌, refl, sym, ap, [], true, false, None, Ok, Err, arith}
use Rattle.std.specs.Prelude.{nat_abs, nat_le}
use Rattle.std.proofs.lemmas.Int.{ints}
use Rattle.std.proofs.lemmas.Bool.Decides.{nat_tests}
use Rattle.sr_base.specs.Limits.{LimitValues}
use Rattle.sr_base.specs.declared.names.LimitKind.TheVariants as limit
use Rattle.sr_base.specs.declared.names.TextKind.TheVariants.{BadNumber, BadWord}
use Rattle.sr_model.specs.declared.tokens.Word.{Word}
use Rattle.sr_model.specs.declared.tokens.Word.TheVariants as word
use Rattle.sr_model.specs.declared.tokens.Token.{Token}
use Rattle.sr_model.specs.Tokens.{Tokens, finished, next}
use Rattle.sr_base.specs.declared.names.Form.{Form}
use Rattle.sr_base.specs.declared.names.Form.TheVariants as form
use Rattle.sr_model.specs.Reading.{reads, misspells, passes}
use Rattle.sr_model.specs.Lsr.{numbers_after, with_literals, dropped_after, kind_at, by_id, item_at}
use Rattle.sr_model.specs.LsrBinary.{by_step_number, binary_step_at, binary_item_at, item_in}
use Rattle.sr_base.specs.declared.names.InputError.{InputError}
use Rattle.sr_base.specs.declared.names.InputError.TheVariants.{Text, Limit, Source, NoMemory}
use Rattle.sr_scan.specs.Left.{front_word, misplaced, Refuses}
use Rattle.sr_lsr.specs.Reads.{GivesSize}
use Rattle.sr_lsr.proofs.BeginLemmas.{refuses_same, HandsOn}

-- what stops the tokens
pub numbered_hands_on : (lim : LimitValues) (id at : ℕ) → HandsOn (kind_at lim id at)
numbered_hands_on lim id at = record { misspelled = λ kind place. refl; past = refl; failed = refl }

pub binary_step_hands_on : (lim : LimitValues) → HandsOn (binary_step_at lim)
binary_step_hands_on lim = record { misspelled = λ kind place. refl; past = refl; failed = refl }

-- a size that isn't 0
pub some_size : (x : ℤ) (n ids place : ℕ) → GivesSize x ids place (Ok n) → (n ≡ 0 → ⊥) → x ≡ pos 0 → ⊥
some_size x n ids place g some z = some (ap nat_abs (sym g.0 ∙ z))

-- behind the number of an item of a text: `d`, another number, and what else stands there
pub kind_deletion : (lim : LimitValues) (ids id at : ℕ) (t : Token) (rest : Tokens) → ids ≡ lim.ids → t.word ≡ word.Del → kind_at lim id at (front_word t.place t.word rest) ≡ dropped_after ids id [] rest
kind_deletion lim ids id at t rest i e = ap (λ w. kind_at lim id at (front_word t.place w rest)) e ∙ ap (λ (n : ℕ). dropped_after n id [] rest) (sym i)

pub kind_step : (lim : LimitValues) (id at : ℕ) (t : Token) (x : ℤ) (rest : Tokens) → t.word ≡ word.Number x → (id ≡ 0 → ⊥)
    → kind_at lim id at (front_word t.place t.word rest) ≡ with_literals lim id (numbers_after limit.Vars lim.vars [] (next t rest))
kind_step lim id at t x rest e some =
    let other : (id == 0) ≡ false = grind (arith, nat_tests) in
    ap (λ w. kind_at lim id at (front_word t.place w rest)) e ∙ rw other refl ∙ ap (λ w. with_literals lim id (numbers_after limit.Vars lim.vars [] (next (record { place = t.place; word = w }) rest))) (sym e)

pub kind_other : (lim : LimitValues) (id at : ℕ) (t : Token) (rest : Tokens) → (t.word ≡ word.Del → ⊥) → ((x : ℤ) → t.word ≡ word.Number x → ⊥)
    → kind_at lim id at (front_word t.place t.word rest) ≡ misspells (misplaced t.word) t.place
kind_other lim id at t rest d n = by t.word d n
  where
    by : (w : Word) → (w ≡ word.Del → ⊥) → ((x : ℤ) → w ≡ word.Number x → ⊥) → kind_at lim id at (front_word t.place w rest) ≡ misspells (misplaced w) t.place
    by (word.Number x) d n = absurd (n x refl)
    by word.Del d n = absurd (d refl)
    by word.End d n = refl
    by word.Add d n = refl
    by word.Header d n = refl
    by word.Cnf d n = refl
    by word.Percent d n = refl
    by word.Other d n = refl

-- the number of an item of a text
text_number : (lim : LimitValues) (t : Token) (x : ℤ) (rest : Tokens) → t.word ≡ word.Number x → item_at lim (front_word t.place t.word rest) ≡ by_id lim (word.Number x) t.place rest
unfolding item_at
text_number lim t x rest e = ap (λ w. item_at lim (front_word t.place w rest)) e

pub text_numbered : (lim : LimitValues) (ids : ℕ) (t : Token) (x : ℤ) (n : ℕ) (rest : Tokens) → ids ≡ lim.ids → t.word ≡ word.Number x → GivesSize x ids t.place (Ok n)
    → item_at lim (front_word t.place t.word rest) ≡ kind_at lim n t.place rest
text_numbered lim ids t x n rest i e g =
    let within : n ≤ lim.ids = omega (arith, g.1, i) in
    let test : nat_le n lim.ids ≡ true = grind (arith, nat_tests) in
    text_number lim t x rest e ∙ ap (λ y. by_id lim (word.Number y) t.place rest) g.0 ∙ rw test refl

pub text_fault : (lim : LimitValues) (ids : ℕ) (t : Token) (x : ℤ) (rest : Tokens) (e : InputError) → ids ≡ lim.ids → t.word ≡ word.Number x → GivesSize x ids t.place (Err e)
    → Refuses (item_at lim (front_word t.place t.word rest)) e
text_fault lim ids t x rest e i is g = refuses_same e (item_at lim (front_word t.place t.word rest)) (by_id lim (word.Number x) t.place rest) (text_number lim t x rest is) (at x e g)
  where
    at : (x : ℤ) (e : InputError) → GivesSize x ids t.place (Err e) → Refuses (by_id lim (word.Number x) t.place rest) e
    at (pos n) (Text kind place) g = absurd (omega (arith, ints, g.0))
    at (negsuc n) (Text kind place) g = ap (λ k. misspells k t.place) (sym g.1) ∙ ap (misspells kind) (sym g.2)
    at (pos n) (Limit kind) g =
        let past : lim.ids < n = omega (arith, g.1, i) in
        let test : nat_le n lim.ids ≡ false = grind (arith, nat_tests) in rw test (ap passes (sym g.2))
    at (negsuc n) (Limit kind) g = let bad = g.0 in cc
    at x Source g = absurd g
    at x NoMemory g = absurd g

pub text_other : (lim : LimitValues) (t : Token) (rest : Tokens) → (t.word ≡ word.End → ⊥) → ((x : ℤ) → t.word ≡ word.Number x → ⊥) → item_at lim (front_word t.place t.word rest) ≡ misspells BadWord t.place
unfolding item_at
text_other lim t rest e n = by t.word e n
  where
    by : (w : Word) → (w ≡ word.End → ⊥) → ((x : ℤ) → w ≡ word.Number x → ⊥) → item_at lim (front_word t.place w rest) ≡ misspells BadWord t.place
    by word.End e n = absurd (e refl)
    by (word.Number x) e n = absurd (n x refl)
    by word.Del e n = refl
    by word.Add e n = refl
    by word.Header e n = refl
    by word.Cnf e n = refl
    by word.Percent e n = refl
    by word.Other e n = refl

-- the number of a step of a binary file
step_number : (lim : LimitValues) (t : Token) (x : ℤ) (rest : Tokens) → t.word ≡ word.Number x → binary_step_at lim (front_word t.place t.word rest) ≡ by_step_number lim (word.Number x) t.place rest
step_number lim t x rest e = ap (λ w. binary_step_at lim (front_word t.place w rest)) e

pub step_zero : (lim : LimitValues) (ids : ℕ) (t : Token) (x : ℤ) (n : ℕ) (rest : Tokens) → t.word ≡ word.Number x → GivesSize x ids t.place (Ok n) → n ≡ 0
    → binary_step_at lim (front_word t.place t.word rest) ≡ misspells BadNumber t.place
step_zero lim ids t x n rest e g z = step_number lim t x rest e ∙ ap (λ y. by_step_number lim (word.Number y) t.place rest) (g.0 ∙ ap pos z)

pub step_numbered : (lim : LimitValues) (ids : ℕ) (t : Token) (x : ℤ) (n : ℕ) (rest : Tokens) → ids ≡ lim.ids → t.word ≡ word.Number x → GivesSize x ids t.place (Ok n) → (n ≡ 0 → ⊥)
    → binary_step_at lim (front_word t.place t.word rest) ≡ with_literals lim n (numbers_after limit.Vars lim.vars [] rest)
step_numbered lim ids t x zero rest i e g some = absurd (some refl)
step_numbered lim ids t x (suc n) rest i e g some =
    let within : suc n ≤ lim.ids = omega (arith, g.1, i) in
    let test : nat_le (suc n) lim.ids ≡ true = grind (arith, nat_tests) in
    step_number lim t x rest e ∙ ap (λ y. by_step_number lim (word.Number y) t.place rest) g.0 ∙ rw test refl

pub step_fault : (lim : LimitValues) (ids : ℕ) (t : Token) (x : ℤ) (rest : Tokens) (e : InputError) → ids ≡ lim.ids → t.word ≡ word.Number x → GivesSize x ids t.place (Err e)
    → Refuses (binary_step_at lim (front_word t.place t.word rest)) e
step_fault lim ids t x rest e i is g = refuses_same e (binary_step_at lim (front_word t.place t.word rest)) (by_step_number lim (word.Number x) t.place rest) (step_number lim t x rest is) (at x e g)
  where
    at : (x : ℤ) (e : InputError) → GivesSize x ids t.place (Err e) → Refuses (by_step_number lim (word.Number x) t.place rest) e
    at (pos n) (Text kind place) g = absurd (omega (arith, ints, g.0))
    at (negsuc n) (Text kind place) g = ap (λ k. misspells k t.place) (sym g.1) ∙ ap (misspells kind) (sym g.2)
    at (pos zero) (Limit kind) g = absurd (omega (arith, g.1))
    at (pos (suc n)) (Limit kind) g =
        let past : lim.ids < suc n = omega (arith, g.1, i) in
        let test : nat_le (suc n) lim.ids ≡ false = grind (arith, nat_tests) in rw test (ap passes (sym g.2))
    at (negsuc n) (Limit kind) g = let bad = g.0 in cc
    at x Source g = absurd g
    at x NoMemory g = absurd g

pub step_other : (lim : LimitValues) (t : Token) (rest : Tokens) → ((x : ℤ) → t.word ≡ word.Number x → ⊥) → binary_step_at lim (front_word t.place t.word rest) ≡ misspells (misplaced t.word) t.place
step_other lim t rest n = by t.word n
  where
    by : (w : Word) → ((x : ℤ) → w ≡ word.Number x → ⊥) → binary_step_at lim (front_word t.place w rest) ≡ misspells (misplaced w) t.place
    by (word.Number x) n = absurd (n x refl)
    by word.End n = refl
    by word.Del n = refl
    by word.Add n = refl
    by word.Header n = refl
    by word.Cnf n = refl
    by word.Percent n = refl
    by word.Other n = refl

-- the byte that begins an item of a binary file
pub binary_step : (lim : LimitValues) (t : Token) (rest : Tokens) → t.word ≡ word.Add → binary_item_at lim (front_word t.place t.word rest) ≡ binary_step_at lim rest
unfolding binary_item_at
binary_step lim t rest e = ap (λ w. binary_item_at lim (front_word t.place w rest)) e

pub binary_deletion : (lim : LimitValues) (ids : ℕ) (t : Token) (rest : Tokens) → ids ≡ lim.ids → t.word ≡ word.Del → binary_item_at lim (front_word t.place t.word rest) ≡ dropped_after ids 0 [] rest
unfolding binary_item_at
binary_deletion lim ids t rest i e = ap (λ w. binary_item_at lim (front_word t.place w rest)) e ∙ ap (λ (n : ℕ). dropped_after n 0 [] rest) (sym i)

pub binary_other : (lim : LimitValues) (t : Token) (rest : Tokens) → (t.word ≡ word.End → ⊥) → (t.word ≡ word.Add → ⊥) → (t.word ≡ word.Del → ⊥)
    → binary_item_at lim (front_word t.place t.word rest) ≡ misspells BadWord t.place
unfolding binary_item_at
binary_other lim t rest e a d = by t.word e a d
  where
    by : (w : Word) → (w ≡ word.End → ⊥) → (w ≡ word.Add → ⊥) → (w ≡ word.Del → ⊥) → binary_item_at lim (front_word t.place w rest) ≡ misspells BadWord t.place
    by word.End e a d = absurd (e refl)
    by word.Add e a d = absurd (a refl)
    by word.Del e a d = absurd (d refl)
    by (word.Number x) e a d = refl
    by word.Header e a d = refl
    by word.Cnf e a d = refl
    by word.Percent e a d = refl
    by word.Other e a d = refl

-- the end of the file, and what stops the first token of an item
pub item_none : (f : Form) (lim : LimitValues) (place : ℕ) → item_in f lim (finished place) ≡ reads None (finished place)
unfolding item_at binary_item_at
item_none form.Text lim place = refl
item_none form.Binary lim place = refl

pub items_hand_on : (f : Form) (lim : LimitValues) → HandsOn (item_in f lim)
unfolding item_at binary_item_at
items_hand_on form.Text lim = record { misspelled = λ kind place. refl; past = refl; failed = refl }
items_hand_on form.Binary lim = record { misspelled = λ kind place. refl; past = refl; failed = refl }
