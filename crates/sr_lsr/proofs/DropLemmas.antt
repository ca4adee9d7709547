-- What a token does to a deletion.
use Rattle.std.proofs.Common.{◌≡◌, ◌∙◌, ℕ, ℤ, pos, negsuc, zero, suc, ◌<◌, ◌≤◌, refl, sym, ap, subst, List, [], ◌∷◌, ◌++◌, true, false, Option, Some, Ok, Err, arith}
use Rattle.std.specs.Prelude.{nat_abs, nat_le}
use Rattle.std.proofs.lemmas.Int.{ints}
use Rattle.std.proofs.lemmas.Bool.Decides.{nat_tests}
use Rattle.sr_base.specs.declared.names.Form.{Form}
use Rattle.sr_base.specs.declared.names.LimitKind.TheVariants as limit
use Rattle.sr_base.specs.Contents.{Contents}
use Rattle.sr_base.specs.declared.names.InputError.{InputError}
use Rattle.sr_base.specs.declared.names.InputError.TheVariants.{Text, Limit, Source, NoMemory}
use Rattle.sr_desk.specs.Reader.{Reader}
use Rattle.sr_model.specs.declared.tokens.Word.{Word}
use Rattle.sr_model.specs.declared.tokens.Word.TheVariants as word
use Rattle.sr_model.specs.declared.tokens.Token.{Token}
use Rattle.sr_model.specs.Tokens.{Tokens}
use Rattle.sr_model.specs.BinaryTokens.{open_after}
use Rattle.sr_model.specs.Judging.{dropped}
use Rattle.sr_model.specs.Reading.{Read, reads, misspells, passes}
use Rattle.sr_model.specs.Lsr.{MaybeItem, by_dropped, dropped_by_word, dropped_after}
use Rattle.sr_scan.specs.Left.{tokens_left, misplaced, front_word, RefusesToken, Refuses}
use Rattle.sr_scan.specs.BinaryLeft.{GivesFront}
use Rattle.sr_lemma.proofs.NumberLemmas.{open_number, open_zero}
use Rattle.sr_lsr.specs.Reads.{GivesSize}

-- the numbers by the next token
drop_front : (bound id : ℕ) (these : List ℕ) (t : Token) (rest : Tokens)
    → dropped_after bound id these (front_word t.place t.word rest) ≡ dropped_by_word bound id t.word t.place these rest (λ x. dropped_after bound id (these ++ nat_abs x ∷ []) rest)
unfolding dropped_after
drop_front bound id these t rest = at t.word
  where
    at : (w : Word) → dropped_after bound id these (front_word t.place w rest) ≡ dropped_by_word bound id w t.place these rest (λ x. dropped_after bound id (these ++ nat_abs x ∷ []) rest)
    at word.End = refl
    at (word.Number x) = refl
    at word.Add = refl
    at word.Del = refl
    at word.Header = refl
    at word.Cnf = refl
    at word.Percent = refl
    at word.Other = refl

-- where there is no token, the deletion stops
drop_stop : (bound id : ℕ) (these : List ℕ) (all : Tokens) (e : InputError) → RefusesToken all e → Refuses (dropped_after bound id these all) e
unfolding dropped_after
drop_stop bound id these all (Text fault place) r = ap (dropped_after bound id these) r
drop_stop bound id these all (Limit limit.Bytes) r = ap (dropped_after bound id these) r
drop_stop bound id these all (Limit limit.Vars) r = absurd r
drop_stop bound id these all (Limit limit.Ids) r = absurd r
drop_stop bound id these all (Limit limit.Cells) r = absurd r
drop_stop bound id these all Source r = ap (dropped_after bound id these) r
drop_stop bound id these all NoMemory r = absurd r

drop_default : (bound id : ℕ) (w : Word) (place : ℕ) (these : List ℕ) (rest : Tokens) (more : ℤ → Read MaybeItem) → ((x : ℤ) → w ≡ word.Number x → ⊥)
    → dropped_by_word bound id w place these rest more ≡ misspells (misplaced w) place
drop_default bound id (word.Number x) place these rest more n = absurd (n x refl)
drop_default bound id word.End place these rest more n = refl
drop_default bound id word.Add place these rest more n = refl
drop_default bound id word.Del place these rest more n = refl
drop_default bound id word.Header place these rest more n = refl
drop_default bound id word.Cnf place these rest more n = refl
drop_default bound id word.Percent place these rest more n = refl
drop_default bound id word.Other place these rest more n = refl

-- a number: the end, one more, or a fault
drop_end : (bound id : ℕ) (x : ℤ) (place : ℕ) (these : List ℕ) (rest : Tokens) (more : Read MaybeItem) → x ≡ pos 0 → by_dropped bound id x place these rest more ≡ reads (Some (dropped id these)) rest
drop_end bound id x place these rest more e = ap (λ y. by_dropped bound id y place these rest more) e

drop_more : (bound id : ℕ) (x : ℤ) (n place : ℕ) (these : List ℕ) (rest : Tokens) (more : Read MaybeItem) → x ≡ pos n → (n ≡ 0 → ⊥) → n ≤ bound → by_dropped bound id x place these rest more ≡ more
drop_more bound id x zero place these rest more e some within = absurd (some refl)
drop_more bound id x (suc n) place these rest more e some within =
    let t : nat_le (suc n) bound ≡ true = grind (arith, nat_tests) in ap (λ y. by_dropped bound id y place these rest more) e ∙ rw t refl

drop_fault : (bound id : ℕ) (x : ℤ) (place : ℕ) (these : List ℕ) (rest : Tokens) (more : Read MaybeItem) (e : InputError) → GivesSize x bound place (Err e) → Refuses (by_dropped bound id x place these rest more) e
drop_fault bound id (pos n) place these rest more (Text kind at) g = absurd (omega (arith, ints, g.0))
drop_fault bound id (negsuc n) place these rest more (Text kind at) g = ap (λ k. misspells k place) (sym g.1) ∙ ap (misspells kind) (sym g.2)
drop_fault bound id (pos zero) place these rest more (Limit kind) g = absurd (omega (arith, g.1))
drop_fault bound id (pos (suc n)) place these rest more (Limit kind) g =
    let past : bound < suc n = g.1 in
    let t : nat_le (suc n) bound ≡ false = grind (arith, nat_tests) in rw t (ap passes (sym g.2))
drop_fault bound id (negsuc n) place these rest more (Limit kind) g = let bad = g.0 in cc
drop_fault bound id x place these rest more Source g = absurd g
drop_fault bound id x place these rest more NoMemory g = absurd g

-- no further token, and one that is no number
pub dropping_stop : (bound id : ℕ) (all mid : Tokens) (ids : List ℕ) (e : InputError) → dropped_after bound id [] all ≡ dropped_after bound id ids mid → RefusesToken mid e → Refuses (dropped_after bound id [] all) e
dropping_stop bound id all mid ids e same given = subst (λ r. Refuses r e) (sym same) (drop_stop bound id ids mid e given)

-- what a token makes of it
dropping_next : (form : Form) (bound id : ℕ) (all : Tokens) (mid new : Reader) (c : Contents) (ids : List ℕ) (t : Token) → dropped_after bound id [] all ≡ dropped_after bound id ids (tokens_left form 2 1 mid c)
    → GivesFront form 2 1 mid new c (Ok t)
    → dropped_after bound id [] all ≡ dropped_by_word bound id t.word t.place ids (tokens_left form 2 (open_after 2 1 t.word) new c) (λ x. dropped_after bound id (ids ++ nat_abs x ∷ []) (tokens_left form 2 (open_after 2 1 t.word) new c))
dropping_next form bound id all mid new c ids t same given = same ∙ ap (dropped_after bound id ids) given.0 ∙ drop_front bound id ids t (tokens_left form 2 (open_after 2 1 t.word) new c)

pub dropping_default : (form : Form) (bound id : ℕ) (all : Tokens) (mid new : Reader) (c : Contents) (ids : List ℕ) (t : Token) → dropped_after bound id [] all ≡ dropped_after bound id ids (tokens_left form 2 1 mid c)
    → GivesFront form 2 1 mid new c (Ok t) → ((x : ℤ) → t.word ≡ word.Number x → ⊥) → Refuses (dropped_after bound id [] all) (Text (misplaced t.word) t.place)
dropping_default form bound id all mid new c ids t same given n = dropping_next form bound id all mid new c ids t same given ∙ drop_default bound id t.word t.place ids _ _ n

-- a number at the front
dropping_number : (form : Form) (bound id : ℕ) (all : Tokens) (mid new : Reader) (c : Contents) (ids : List ℕ) (t : Token) (x : ℤ) → dropped_after bound id [] all ≡ dropped_after bound id ids (tokens_left form 2 1 mid c)
    → GivesFront form 2 1 mid new c (Ok t) → t.word ≡ word.Number x
    → dropped_after bound id [] all ≡ by_dropped bound id x t.place ids (tokens_left form 2 (open_after 2 1 t.word) new c) (dropped_after bound id (ids ++ nat_abs x ∷ []) (tokens_left form 2 (open_after 2 1 t.word) new c))
dropping_number form bound id all mid new c ids t x same given e =
    dropping_next form bound id all mid new c ids t same given
    ∙ ap (λ w. dropped_by_word bound id w t.place ids (tokens_left form 2 (open_after 2 1 t.word) new c) (λ y. dropped_after bound id (ids ++ nat_abs y ∷ []) (tokens_left form 2 (open_after 2 1 t.word) new c))) e

pub dropping_fault : (form : Form) (bound id : ℕ) (all : Tokens) (mid new : Reader) (c : Contents) (ids : List ℕ) (t : Token) (x : ℤ) (e : InputError)
    → dropped_after bound id [] all ≡ dropped_after bound id ids (tokens_left form 2 1 mid c) → GivesFront form 2 1 mid new c (Ok t) → t.word ≡ word.Number x → GivesSize x bound t.place (Err e)
    → Refuses (dropped_after bound id [] all) e
dropping_fault form bound id all mid new c ids t x e same given is g =
    subst (λ r. Refuses r e) (sym (dropping_number form bound id all mid new c ids t x same given is)) (drop_fault bound id x t.place ids _ _ e g)

pub dropping_end : (form : Form) (bound id : ℕ) (all : Tokens) (mid new : Reader) (c : Contents) (ids : List ℕ) (t : Token) (x : ℤ) (n : ℕ)
    → dropped_after bound id [] all ≡ dropped_after bound id ids (tokens_left form 2 1 mid c) → GivesFront form 2 1 mid new c (Ok t) → t.word ≡ word.Number x → x ≡ pos n → n ≡ 0
    → dropped_after bound id [] all ≡ reads (Some (dropped id ids)) (tokens_left form 2 0 new c)
dropping_end form bound id all mid new c ids t x n same given is e z =
    let nought : x ≡ pos 0 = e ∙ ap pos z in
    dropping_number form bound id all mid new c ids t x same given is ∙ drop_end bound id x t.place ids _ _ nought
    ∙ ap (λ (k : ℕ). reads (Some (dropped id ids)) (tokens_left form 2 k new c)) (open_zero 2 0 t.word x is nought)

pub dropping_more : (form : Form) (bound id : ℕ) (all : Tokens) (mid new : Reader) (c : Contents) (ids ids' : List ℕ) (t : Token) (x : ℤ) (n : ℕ)
    → dropped_after bound id [] all ≡ dropped_after bound id ids (tokens_left form 2 1 mid c) → GivesFront form 2 1 mid new c (Ok t) → t.word ≡ word.Number x → x ≡ pos n → (n ≡ 0 → ⊥) → n ≤ bound → ids' ≡ ids ++ n ∷ []
    → dropped_after bound id [] all ≡ dropped_after bound id ids' (tokens_left form 2 1 new c)
dropping_more form bound id all mid new c ids ids' t x n same given is e some inside p =
    let nonzero : x ≡ pos 0 → ⊥ = λ z. some (ap nat_abs (sym e ∙ z)) in
    let left : Tokens = tokens_left form 2 (open_after 2 1 t.word) new c in
    dropping_number form bound id all mid new c ids t x same given is ∙ drop_more bound id x n t.place ids left (dropped_after bound id (ids ++ nat_abs x ∷ []) left) e some inside
    ∙ ap (λ y. dropped_after bound id (ids ++ nat_abs y ∷ []) left) e ∙ ap (λ these. dropped_after bound id these left) (sym p)
    ∙ ap (λ (k : ℕ). dropped_after bound id ids' (tokens_left form 2 k new c)) (open_number 2 0 t.word x is nonzero)
