-- What a token does to the numbers that are read.
use Rattle.std.proofs.Common.{◌≡◌, ◌∙◌, ℕ, ℤ, pos, negsuc, zero, suc, ◌-◌, ◌<◌, ◌≤◌, refl, sym, ap, subst, map, List, [], ◌∷◌, ◌++◌, true, false, Option, Some, None, Ok, Err, arith}
use Rattle.std.specs.Prelude.{nat_abs, nat_le, Result}
use Rattle.std.proofs.lemmas.Bool.Decides.{nat_tests}
use Rattle.std.proofs.lemmas.List.{map_push}
use Rattle.sr_base.specs.Contents.{Contents}
use Rattle.sr_base.specs.Literal.{Literal, number, literal_of}
use Rattle.sr_base.specs.declared.names.Form.{Form}
use Rattle.sr_base.specs.declared.names.LimitKind.{LimitKind}
use Rattle.sr_base.specs.declared.names.LimitKind.TheVariants as limit
use Rattle.sr_base.specs.declared.names.InputError.{InputError}
use Rattle.sr_base.specs.declared.names.InputError.TheVariants.{Text, Limit, Source, NoMemory}
use Rattle.sr_desk.specs.Outside.{Outside, Agrees}
use Rattle.sr_desk.specs.Reader.{Reader}
use Rattle.sr_desk.specs.Next.{Stands}
use Rattle.sr_desk.proofs.ReaderLemmas.{remaining-ahead}
use Rattle.sr_model.specs.declared.tokens.Token.{Token}
use Rattle.sr_model.specs.declared.tokens.Word.{Word}
use Rattle.sr_model.specs.declared.tokens.Word.TheVariants as word
use Rattle.sr_model.specs.Tokens.{Tokens, finished, next}
use Rattle.sr_model.specs.BinaryTokens.{open_after}
use Rattle.sr_model.specs.Reading.{Read, reads, misspells, passes}
use Rattle.sr_model.specs.Lsr.{NumbersTo0, by_number, by_word, numbers_after}
use Rattle.sr_scan.specs.Left.{Advances, misplaced, front_word, tokens_left, GivesToken, RefusesToken, Refuses, Gives}
use Rattle.sr_scan.specs.BinaryLeft.{GivesFront}
use Rattle.sr_scan.specs.Machine.{Skips}
use Rattle.sr_scan.proofs.ReadLemmas.{agreed, Reads-skips}
use Rattle.sr_lemma.specs.Reads.{TakesLiterals, SaysLiteral, GivesLiterals, GivesMore, numbers_told}

-- the numbers by the next token
pub front_numbers : (kind : LimitKind) (bound : ℕ) (these : List ℤ) (t : Token) (rest : Tokens)
    → numbers_after kind bound these (front_word t.place t.word rest) ≡ numbers_after kind bound these (next t rest)
unfolding numbers_after
front_numbers kind bound these t rest = at t.word refl
  where
    at : (w : Word) → t.word ≡ w → numbers_after kind bound these (front_word t.place w rest) ≡ numbers_after kind bound these (next (record { place = t.place; word = w }) rest)
    at word.End e = refl
    at (word.Number x) e = refl
    at word.Add e = refl
    at word.Del e = refl
    at word.Header e = refl
    at word.Cnf e = refl
    at word.Percent e = refl
    at word.Other e = refl

-- where there is no token, the numbers stop
pub refused_numbers : (kind : LimitKind) (bound : ℕ) (these : List ℤ) (all : Tokens) (e : InputError) → RefusesToken all e → Refuses (numbers_after kind bound these all) e
unfolding numbers_after
refused_numbers kind bound these all (Text fault place) r = ap (numbers_after kind bound these) r
refused_numbers kind bound these all (Limit limit.Bytes) r = ap (numbers_after kind bound these) r
refused_numbers kind bound these all (Limit limit.Vars) r = absurd r
refused_numbers kind bound these all (Limit limit.Ids) r = absurd r
refused_numbers kind bound these all (Limit limit.Cells) r = absurd r
refused_numbers kind bound these all Source r = ap (numbers_after kind bound these) r
refused_numbers kind bound these all NoMemory r = absurd r

-- a word that is no number
by_word_default : (kind : LimitKind) (bound : ℕ) (w : Word) (place : ℕ) (these : List ℤ) (rest : Tokens) (more : ℤ → Read NumbersTo0)
    → ((x : ℤ) → w ≡ word.Number x → ⊥) → by_word kind bound w place these rest more ≡ misspells (misplaced w) place
by_word_default kind bound (word.Number x) place these rest more n = absurd (n x refl)
by_word_default kind bound word.End place these rest more n = refl
by_word_default kind bound word.Add place these rest more n = refl
by_word_default kind bound word.Del place these rest more n = refl
by_word_default kind bound word.Header place these rest more n = refl
by_word_default kind bound word.Cnf place these rest more n = refl
by_word_default kind bound word.Percent place these rest more n = refl
by_word_default kind bound word.Other place these rest more n = refl

pub by_number_more : (kind : LimitKind) (bound : ℕ) (x : ℤ) (place : ℕ) (these : List ℤ) (rest : Tokens) (more : Read NumbersTo0) → (x ≡ pos 0 → ⊥) → nat_abs x ≤ bound
    → by_number kind bound x place these rest more ≡ more
by_number_more kind bound (pos zero) place these rest more ne le = absurd (ne refl)
by_number_more kind bound (pos (suc n)) place these rest more ne le = let t : nat_le (suc n) bound ≡ true = grind (arith, nat_tests) in rw t refl
by_number_more kind bound (negsuc n) place these rest more ne le = let t : nat_le (suc n) bound ≡ true = grind (arith, nat_tests) in rw t refl

pub by_number_above : (kind : LimitKind) (bound : ℕ) (x : ℤ) (place : ℕ) (these : List ℤ) (rest : Tokens) (more : Read NumbersTo0) → (x ≡ pos 0 → ⊥) → bound < nat_abs x
    → by_number kind bound x place these rest more ≡ passes kind
by_number_above kind bound (pos zero) place these rest more ne le = absurd (ne refl)
by_number_above kind bound (pos (suc n)) place these rest more ne le = let t : nat_le (suc n) bound ≡ false = grind (arith, nat_tests) in rw t refl
by_number_above kind bound (negsuc n) place these rest more ne le = let t : nat_le (suc n) bound ≡ false = grind (arith, nat_tests) in rw t refl

-- the numbers behind a token
pub at_word : (kind : LimitKind) (bound : ℕ) (these : List ℤ) (t : Token) (rest : Tokens)
    → numbers_after kind bound these (next t rest) ≡ by_word kind bound t.word t.place these rest (λ x. numbers_after kind bound (these ++ x ∷ []) rest)
unfolding numbers_after
at_word kind bound these t rest = refl

pub at_number : (kind : LimitKind) (bound : ℕ) (these : List ℤ) (t : Token) (x : ℤ) (rest : Tokens) → t.word ≡ word.Number x
    → numbers_after kind bound these (next t rest) ≡ by_number kind bound x t.place these rest (numbers_after kind bound (these ++ x ∷ []) rest)
at_number kind bound these t x rest e =
    at_word kind bound these t rest ∙ ap (λ w. by_word kind bound w t.place these rest (λ x. numbers_after kind bound (these ++ x ∷ []) rest)) e

pub at_default : (kind : LimitKind) (bound : ℕ) (these : List ℤ) (t : Token) (rest : Tokens) → ((x : ℤ) → t.word ≡ word.Number x → ⊥)
    → numbers_after kind bound these (next t rest) ≡ misspells (misplaced t.word) t.place
at_default kind bound these t rest n =
    at_word kind bound these t rest ∙ by_word_default kind bound t.word t.place these rest (λ x. numbers_after kind bound (these ++ x ∷ []) rest) n

-- a token that isn't the end takes some of the room
pub takes_token : (old mid : Reader) (w : Word) → Advances old mid w → (w ≡ word.End → ⊥) → mid.limit - mid.taken < old.limit - old.taken
takes_token old mid word.End a some = absurd (some refl)
takes_token old mid (word.Number x) a some = a
takes_token old mid word.Add a some = a
takes_token old mid word.Del a some = a
takes_token old mid word.Header a some = a
takes_token old mid word.Cnf a some = a
takes_token old mid word.Percent a some = a
takes_token old mid word.Other a some = a

-- a number other than 0 leaves the lists open
pub open_number : (lists o : ℕ) (w : Word) (x : ℤ) → w ≡ word.Number x → (x ≡ pos 0 → ⊥) → open_after lists (suc o) w ≡ suc o
open_number lists o w x e ne = ap (open_after lists (suc o)) e ∙ at x ne
  where
    at : (x : ℤ) → (x ≡ pos 0 → ⊥) → open_after lists (suc o) (word.Number x) ≡ suc o
    at (pos zero) ne = absurd (ne refl)
    at (pos (suc n)) ne = refl
    at (negsuc n) ne = refl

pub open_zero : (lists o : ℕ) (w : Word) (x : ℤ) → w ≡ word.Number x → x ≡ pos 0 → open_after lists (suc o) w ≡ o
open_zero lists o w x e z = ap (open_after lists (suc o)) (e ∙ ap word.Number z) ∙ omega arith

-- one literal more
pub literal_more : (bound : ℕ) (lits lits' : List Literal) (t : Token) (x : ℤ) (l : Literal) (rest : Tokens) → t.word ≡ word.Number x → (x ≡ pos 0 → ⊥) → nat_abs x ≤ bound
    → number l ≡ x → lits' ≡ lits ++ l ∷ []
    → numbers_after limit.Vars bound (map number lits) (next t rest) ≡ numbers_after limit.Vars bound (map number lits') rest
literal_more bound lits lits' t x l rest e ne le n p =
    at_number limit.Vars bound (map number lits) t x rest e
    ∙ by_number_more limit.Vars bound x t.place (map number lits) rest (numbers_after limit.Vars bound (map number lits ++ x ∷ []) rest) ne le
    ∙ ap (λ these. numbers_after limit.Vars bound these rest) (ap (λ y. map number lits ++ y ∷ []) (sym n) ∙ sym (map_push number lits l) ∙ ap (map number) (sym p))

-- a token that says a fault, the end or a literal
pub says_fault : (bound : ℕ) (t : Token) (e : InputError) (these : List ℤ) (rest : Tokens) → SaysLiteral bound t (Err e) → Refuses (numbers_after limit.Vars bound these (next t rest)) e
says_fault bound t (Text kind place) these rest s = at_default limit.Vars bound these t rest s.0 ∙ ap (λ k. misspells k t.place) (sym s.1) ∙ ap (misspells kind) (sym s.2)
says_fault bound t (Limit kind) these rest s = at_number limit.Vars bound these t s.0 rest s.1 ∙ by_number_above limit.Vars bound s.0 t.place these rest _ s.2 s.3 ∙ ap passes (sym s.4)
says_fault bound t Source these rest s = absurd s
says_fault bound t NoMemory these rest s = absurd s

pub says_end : (bound : ℕ) (t : Token) (these : List ℤ) (rest : Tokens) → SaysLiteral bound t (Ok None) → numbers_after limit.Vars bound these (next t rest) ≡ reads (these, t.place) rest
says_end bound t these rest s = at_number limit.Vars bound these t (pos 0) rest s

pub says_more : (bound : ℕ) (t : Token) (l : Literal) (lits lits' : List Literal) (rest : Tokens) → SaysLiteral bound t (Ok (Some l)) → lits' ≡ lits ++ l ∷ []
    → numbers_after limit.Vars bound (map number lits) (next t rest) ≡ numbers_after limit.Vars bound (map number lits') rest
says_more bound t l lits lits' rest s p = literal_more bound lits lits' t (number l) l rest s.0 s.1 s.2 refl p

-- the same, of what is left to a reader
pub more_stop : (form : Form) (bound : ℕ) (start lits : List Literal) (old mid new : Reader) (c : Contents) (e : InputError) (lists o : ℕ)
    → numbers_after limit.Vars bound (map number start) (tokens_left form lists (suc o) old c) ≡ numbers_after limit.Vars bound (map number lits) (tokens_left form lists (suc o) mid c)
    → GivesFront form lists (suc o) mid new c (Err e) → GivesMore form lists o bound start old new c (Err e)
more_stop form bound start lits old mid new c e lists o same given =
    subst (λ r. Refuses r e) (sym same) (refused_numbers limit.Vars bound (map number lits) (tokens_left form lists (suc o) mid c) e given)

pub more_front : (form : Form) (bound : ℕ) (start lits : List Literal) (old mid new : Reader) (c : Contents) (t : Token) (lists o : ℕ)
    → numbers_after limit.Vars bound (map number start) (tokens_left form lists (suc o) old c) ≡ numbers_after limit.Vars bound (map number lits) (tokens_left form lists (suc o) mid c)
    → GivesFront form lists (suc o) mid new c (Ok t)
    → numbers_after limit.Vars bound (map number start) (tokens_left form lists (suc o) old c)
    ≡ numbers_after limit.Vars bound (map number lits) (next t (tokens_left form lists (open_after lists (suc o) t.word) new c))
more_front form bound start lits old mid new c t lists o same given =
    same ∙ ap (numbers_after limit.Vars bound (map number lits)) given.0
    ∙ front_numbers limit.Vars bound (map number lits) t (tokens_left form lists (open_after lists (suc o) t.word) new c)

pub more_fault : (form : Form) (bound : ℕ) (start lits : List Literal) (old mid new : Reader) (c : Contents) (t : Token) (e : InputError) (lists o : ℕ)
    → numbers_after limit.Vars bound (map number start) (tokens_left form lists (suc o) old c) ≡ numbers_after limit.Vars bound (map number lits) (tokens_left form lists (suc o) mid c)
    → GivesFront form lists (suc o) mid new c (Ok t) → SaysLiteral bound t (Err e) → GivesMore form lists o bound start old new c (Err e)
more_fault form bound start lits old mid new c t e lists o same given says =
    subst (λ r. Refuses r e) (sym (more_front form bound start lits old mid new c t lists o same given)) (says_fault bound t e (map number lits) _ says)

pub more_end : (form : Form) (bound : ℕ) (start lits : List Literal) (old mid new : Reader) (c : Contents) (t : Token) (lists o : ℕ)
    → numbers_after limit.Vars bound (map number start) (tokens_left form lists (suc o) old c) ≡ numbers_after limit.Vars bound (map number lits) (tokens_left form lists (suc o) mid c)
    → GivesFront form lists (suc o) mid new c (Ok t) → SaysLiteral bound t (Ok None) → GivesMore form lists o bound start old new c (Ok (map number lits, t.place))
more_end form bound start lits old mid new c t lists o same given says =
    more_front form bound start lits old mid new c t lists o same given ∙ says_end bound t (map number lits) _ says
    ∙ ap (λ (k : ℕ). reads (map number lits, t.place) (tokens_left form lists k new c)) (open_zero lists o t.word (pos 0) says refl)

pub holds_more : (form : Form) (bound : ℕ) (start lits lits' : List Literal) (old mid new : Reader) (c : Contents) (t : Token) (l : Literal) (lists o : ℕ)
    → numbers_after limit.Vars bound (map number start) (tokens_left form lists (suc o) old c) ≡ numbers_after limit.Vars bound (map number lits) (tokens_left form lists (suc o) mid c)
    → GivesFront form lists (suc o) mid new c (Ok t) → SaysLiteral bound t (Ok (Some l)) → lits' ≡ lits ++ l ∷ []
    → numbers_after limit.Vars bound (map number start) (tokens_left form lists (suc o) old c) ≡ numbers_after limit.Vars bound (map number lits') (tokens_left form lists (suc o) new c)
holds_more form bound start lits lits' old mid new c t l lists o same given says p =
    more_front form bound start lits old mid new c t lists o same given ∙ says_more bound t l lits lits' _ says p
    ∙ ap (λ (k : ℕ). numbers_after limit.Vars bound (map number lits') (tokens_left form lists k new c)) (open_number lists o t.word (number l) says.0 says.1)

-- the literals by their first token
pub first_fault : (form : Form) (bound : ℕ) (t : Token) (old new : Reader) (c : Contents) (e : InputError) (lists o : ℕ) → SaysLiteral bound t (Err e) → GivesLiterals form lists o bound t old new c (Err e)
first_fault form bound t old new c e lists o says = says_fault bound t e [] _ says

pub first_end : (form : Form) (bound : ℕ) (t : Token) (r : Reader) (c : Contents) (lits : List Literal) (lists o : ℕ) → SaysLiteral bound t (Ok None) → lits ≡ []
    → GivesLiterals form lists o bound t r r c (Ok (map number lits, t.place))
first_end form bound t r c lits lists o says none =
    says_end bound t [] _ says ∙ ap (λ ls. reads (map number ls, t.place) (tokens_left form lists (open_after lists (suc o) t.word) r c)) (sym none)
    ∙ ap (λ (k : ℕ). reads (map number lits, t.place) (tokens_left form lists k r c)) (open_zero lists o t.word (pos 0) says refl)

pub first_more : (form : Form) (bound : ℕ) (t : Token) (old new : Reader) (c : Contents) (l : Literal) (lits : List Literal) (result : Result NumbersTo0 InputError) (lists o : ℕ)
    → SaysLiteral bound t (Ok (Some l)) → lits ≡ l ∷ [] → GivesMore form lists o bound lits old new c result
    → GivesLiterals form lists o bound t old new c result
first_more form bound t old new c l lits result lists o says one given =
    subst (λ r. Gives r (tokens_left form lists o new c) result) (sym (
    ap (λ (k : ℕ). numbers_after limit.Vars bound [] (next t (tokens_left form lists k old c))) (open_number lists o t.word (number l) says.0 says.1)
    ∙ says_more bound t l [] lits (tokens_left form lists (suc o) old c) says one)) given

pub named_more : (lits lits' : List Literal) (x : ℤ) (l : Literal) → map literal_of (map number lits) ≡ lits → l ≡ literal_of x → number l ≡ x → lits' ≡ lits ++ l ∷ []
    → map literal_of (map number lits') ≡ lits'
named_more lits lits' x l named e n p =
    rw (p, map_push number lits l, map_push literal_of (map number lits) (number l), named, n, ← e) refl

-- behind literals at hand
pub more_ahead : (form : Form) (bound : ℕ) (start lits lits' : List Literal) (old now mid : Reader) (out : Outside) (c : Contents) (lists o : ℕ)
    → ((c : Contents) → Agrees (out.slot now.slot) c → (lists o : ℕ)
    → numbers_after limit.Vars bound (map number start) (tokens_left form lists (suc o) old c) ≡ numbers_after limit.Vars bound (map number lits) (tokens_left form lists (suc o) now c))
    → Stands now out → TakesLiterals form bound now mid lits lits' → Skips now mid → Agrees (out.slot mid.slot) c
    → numbers_after limit.Vars bound (map number start) (tokens_left form lists (suc o) old c) ≡ numbers_after limit.Vars bound (map number lits') (tokens_left form lists (suc o) mid c)
more_ahead form bound start lits lits' old now mid out c lists o held stands takes skips h =
    let before = agreed (Reads-skips now mid out stands skips) h in
    held c before lists o ∙ takes.numbers c before.more lists (suc o) (remaining-ahead c stands before) (omega arith)
