-- Reading a binary file token by token gives the tokens of the plain definition.
use Rattle.std.proofs.Common.{◌≡◌, ◌≢◌, ◌∙◌, ℕ, zero, suc, ◌+◌, ◌-◌, ◌^◌, ◌/◌, ◌%◌, ◌<◌, ◌≤◌, ◌==◌, ◌&&◌, Bool, true, false, refl, sym, ap, subst, List, [], ◌∷◌, ◌++◌, length, take, Some, Ok, Err, ℤ, arith, length-append, pos, negsuc}
use Rattle.std.specs.Prelude.{nat_lt, Result}
use Rattle.std.specs.List.{list_any}
use Rattle.std.proofs.lemmas.Bool.Decides.{nat_tests}
use Rattle.std.proofs.lemmas.List.{take_all}
use Rattle.sr_base.specs.declared.names.TextKind.{TextKind}
use Rattle.sr_base.specs.declared.names.TextKind.TheVariants.{BadWord}
use Rattle.sr_model.specs.declared.tokens.Word.{Word}
use Rattle.sr_model.specs.declared.tokens.Token.{Token}
use Rattle.sr_model.specs.declared.tokens.Word.TheVariants as word
use Rattle.sr_model.specs.Tokens.{Tokens, finished, stopped, over, lost, next, ending_at}
use Rattle.sr_model.specs.Words.{signed, number_word}
use Rattle.sr_model.specs.BinaryTokens as model
use Rattle.sr_model.specs.BinaryTokens.{is_last, low_bits, value_of, number_said, open_after, binary_from}
use Rattle.sr_model.proofs.Soundness.{by_test}
use Rattle.sr_model.proofs.BinaryTokens.{go_on, with_run, binary_first, binary_begins, binary_end, binary_over, binary_long, binary_cut, binary_short}
use Rattle.sr_model.proofs.NumberTexts.{any_last}
use Rattle.sr_base.specs.Contents.{Ending, ended, failed, Contents}
use Rattle.sr_base.specs.declared.names.Form.TheVariants.{Text, Binary}
use Rattle.sr_base.specs.declared.names.LimitKind.TheVariants as limit
use Rattle.sr_base.specs.declared.names.InputError.{InputError}
use Rattle.sr_base.specs.declared.names.InputError.TheVariants as error
use Rattle.sr_desk.specs.Reader.{Reader}
use Rattle.sr_desk.specs.Next.{remaining}
use Rattle.sr_scan.specs.Binary.{TokenRead, reads, misspells, passes, fails, ValueRead, value, long, ends, limited, plus, value_at, number_by, number_at, item_at, end_at, cut_at, token_at}
use Rattle.sr_scan.specs.Left.{IsStart, front_word, text_left, GivesToken}
use Rattle.sr_scan.specs.BinaryLeft.{GivesBinary, GivesFront, Counts}

-- so the tokens stand, by the one that is read first
abbrev pub Stand : Ending → ℕ → ℕ → ℕ → ℕ → List ℕ → TokenRead → Type 0
Stand f lists o room place bytes (reads t rest) = (length rest ≤ length bytes)
    × (binary_from f lists o room place bytes ≡ front_word t.place t.word (binary_from f lists (open_after lists o t.word) (room - (length bytes - length rest)) (place + (length bytes - length rest)) rest))
    × (t.word ≡ word.End → (bytes ≡ []) × (rest ≡ []) × (t.place ≡ place) × (f ≡ ended))
Stand f lists o room place bytes (misspells kind at) = binary_from f lists o room place bytes ≡ stopped kind at
Stand f lists o room place bytes passes = binary_from f lists o room place bytes ≡ over
Stand f lists o room place bytes fails = binary_from f lists o room place bytes ≡ lost

-- the bytes of a number that ends among them
record Ends (most room : ℕ) (bs : List ℕ) (v : ℕ) (rest : List ℕ) : Type 0 where
  heads : List ℕ
  last : ℕ
  split : bs ≡ heads ++ last ∷ rest
  goes_on : go_on heads
  ends_it : is_last last ≡ true
  few : length heads < most
  fits : length heads + 1 ≤ room
  value_is : value_of (heads ++ last ∷ []) ≡ v

record GoesOn (most room : ℕ) (bs : List ℕ) : Type 0 where
  heads : List ℕ
  rest : List ℕ
  split : bs ≡ heads ++ rest
  goes_on : go_on heads
  full : length heads ≡ most
  fits : most ≤ room

record IsCut (most room : ℕ) (bs : List ℕ) : Type 0 where
  goes_on : go_on bs
  few : length bs < most
  fits : length bs ≤ room

record Passes (most room : ℕ) (bs : List ℕ) : Type 0 where
  heads : List ℕ
  last : ℕ
  rest : List ℕ
  split : bs ≡ heads ++ last ∷ rest
  goes_on : go_on heads
  few : length heads < most
  full : length heads ≡ room

-- what the value at the front tells of the bytes
abbrev Tells : ℕ → ℕ → List ℕ → ValueRead → Type 0
Tells most room bs (value v rest) = Ends most room bs v rest
Tells most room bs long = GoesOn most room bs
Tells most room bs ends = IsCut most room bs
Tells most room bs limited = Passes most room bs

tells_more : (most room b : ℕ) (bs : List ℕ) (r : ValueRead) → is_last b ≡ false → Tells most room bs r → Tells (suc most) (suc room) (b ∷ bs) (plus (b - 128) 128 r)
tells_more most room b bs (value v rest) l t = record {
  heads = b ∷ t.heads;
  last = t.last;
  split = ap (λ x. b ∷ x) t.split;
  goes_on = rw l t.goes_on;
  ends_it = t.ends_it;
  few = omega (arith, t.few);
  fits = omega (arith, t.fits);
  value_is = let low : low_bits b ≡ b - 128 = rw l refl in omega (arith, t.value_is);
}
tells_more most room b bs long l t = record {
  heads = b ∷ t.heads;
  rest = t.rest;
  split = ap (λ x. b ∷ x) t.split;
  goes_on = rw l t.goes_on;
  full = omega (arith, t.full);
  fits = omega (arith, t.fits);
}
tells_more most room b bs ends l t = record { goes_on = rw l t.goes_on; few = omega (arith, t.few); fits = omega (arith, t.fits) }
tells_more most room b bs limited l t = record {
  heads = b ∷ t.heads;
  last = t.last;
  rest = t.rest;
  split = ap (λ x. b ∷ x) t.split;
  goes_on = rw l t.goes_on;
  few = omega (arith, t.few);
  full = omega (arith, t.full);
}

value_tells : (most room : ℕ) (bs : List ℕ) → Tells most room bs (value_at most room bs)
value_tells zero room bs = record { heads = []; rest = bs; split = refl; goes_on = refl; full = refl; fits = omega arith }
value_tells (suc most) room [] = record { goes_on = refl; few = omega arith; fits = omega arith }
value_tells (suc most) zero (b ∷ bs) = record { heads = []; last = b; rest = bs; split = refl; goes_on = refl; few = omega arith; full = refl }
value_tells (suc most) (suc room) (b ∷ bs) = by_test (nat_lt b 128)
    (λ t. rw t (let low : low_bits b ≡ b = rw t refl in record { heads = []; last = b; split = refl; goes_on = refl; ends_it = t; few = omega arith; fits = omega arith; value_is = omega arith }))
    (λ t. rw t (tells_more most room b bs (value_at most room bs) t (value_tells most room bs)))

-- a word that a number says
number_only : (v : ℕ) (w : Word) → model.value_word v ≡ Ok w → (x : ℤ) × (w ≡ word.Number x)
number_only v w h = at (v % 2 == 1) (v / 2) h
  where
    at : (negative : Bool) (size : ℕ) → number_word negative size ≡ Ok w → (x : ℤ) × (w ≡ word.Number x)
    at negative size e = by_test (negative && size == 0)
        (λ z. let bad = rw z at e in absurd cc)
        (λ z. by_test (nat_lt size (2 ^ 63))
        (λ t. let says = rw (z, t) at e in (signed negative size, cc))
        (λ t. let bad = rw (z, t) at e in absurd cc))

number_front : (place : ℕ) (w : Word) (rest : Tokens) (x : ℤ) → w ≡ word.Number x → next (record { place = place; word = w }) rest ≡ front_word place w rest
number_front place w rest x e = rw e refl

number_no_end : (w : Word) (x : ℤ) → w ≡ word.Number x → w ≡ word.End → ⊥
number_no_end w x e h = absurd cc

-- a whole number
number_stands : (f : Ending) (lists o room place : ℕ) (bs : List ℕ) (v : ℕ) (rest : List ℕ) → Ends 10 room bs v rest → Stand f lists (suc o) room place bs (number_by place rest (model.value_word v))
number_stands f lists o room place bs v rest e = at (model.value_word v) refl
  where
    size : length bs ≡ length e.heads + 1 + length rest
    size = ap length e.split ∙ omega (arith, length-append e.heads (e.last ∷ rest))

    says : number_said (take 10 (e.heads ++ e.last ∷ [])) ≡ Some (model.value_word v)
    says =
        let short : length (e.heads ++ e.last ∷ []) ≤ 10 = omega (arith, e.few, length-append e.heads (e.last ∷ [])) in
        let any : list_any is_last (e.heads ++ e.last ∷ []) ≡ true = any_last e.heads e.last e.ends_it in
        ap number_said (take_all 10 (e.heads ++ e.last ∷ []) short) ∙ rw any (ap (λ (k : ℕ). Some (model.value_word k)) e.value_is)

    stream : binary_from f lists (suc o) room place bs ≡ with_run lists (suc o) place (model.value_word v) (λ k. binary_from f lists k (room - (length e.heads + 1)) (place + (length e.heads + 1)) rest)
    stream = ap (binary_from f lists (suc o) room place) e.split ∙ binary_first f lists (suc o) room place e.heads e.last rest (model.value_word v) e.goes_on e.ends_it e.fits says

    at : (s : Result Word TextKind) → model.value_word v ≡ s → Stand f lists (suc o) room place bs (number_by place rest s)
    at (Err kind) h = stream ∙ ap (λ s. with_run lists (suc o) place s (λ k. binary_from f lists k (room - (length e.heads + 1)) (place + (length e.heads + 1)) rest)) h
    at (Ok w) h =
        let x = number_only v w h in
        let far : length e.heads + 1 ≡ length bs - length rest = omega (arith, size) in (
          omega (arith, size),
          stream
              ∙ ap (λ s. with_run lists (suc o) place s (λ k. binary_from f lists k (room - (length e.heads + 1)) (place + (length e.heads + 1)) rest)) h
              ∙ ap (λ (k : ℕ). next (record { place = place; word = w }) (binary_from f lists (open_after lists (suc o) w) (room - k) (place + k) rest)) far
              ∙ number_front place w _ x.0 x.1,
          λ end. absurd (number_no_end w x.0 x.1 end),
        )

-- a number that is cut off
cut_stands : (f : Ending) (lists o room place : ℕ) (bytes : List ℕ) (end : ℕ) → binary_from f lists o room place bytes ≡ model.cut_at f end → Stand f lists o room place bytes (cut_at f end)
cut_stands ended lists o room place bytes end h = h
cut_stands failed lists o room place bytes end h = h

-- a number, whole or not
number_tells : (f : Ending) (lists o room place b : ℕ) (bs : List ℕ) (r : ValueRead) → Tells 10 room (b ∷ bs) r → Stand f lists (suc o) room place (b ∷ bs) (number_at f place (place + length (b ∷ bs)) r)
number_tells f lists o room place b bs (value v rest) t = number_stands f lists o room place (b ∷ bs) v rest t
number_tells f lists o room place b bs long t =
    ap (binary_from f lists (suc o) room place) t.split ∙ binary_long f lists o room place t.heads t.rest t.goes_on t.full t.fits
number_tells f lists o room place b bs ends t = cut_stands f lists (suc o) room place (b ∷ bs) (place + length (b ∷ bs)) (binary_cut f lists o room place b bs t.goes_on t.few t.fits)
number_tells f lists o room place b bs limited t =
    ap (binary_from f lists (suc o) room place) t.split
    ∙ ap (λ (k : ℕ). binary_from f lists (suc o) k place (t.heads ++ t.last ∷ t.rest)) (sym t.full)
    ∙ binary_short f lists o place t.heads t.last t.rest t.goes_on t.few

-- the end of the file
end_stands : (f : Ending) (lists o room place : ℕ) → Stand f lists o room place [] (end_at f place)
end_stands ended lists o room place = (omega arith, binary_end ended lists o room place, λ e. (refl, refl, refl, refl))
end_stands failed lists o room place = binary_end failed lists o room place

-- where an item begins
item_stands : (f : Ending) (lists room place : ℕ) (bytes : List ℕ) → Stand f lists 0 room place bytes (item_at f room place bytes)
item_stands f lists room place [] = end_stands f lists 0 room place
item_stands f lists zero place (b ∷ bs) = binary_over f lists 0 place b bs
item_stands f lists (suc room) place (b ∷ bs) = by_test (b == 97) add (λ n. by_test (b == 100) (del n) (bad n))
  where
    far : suc (length bs) - length bs ≡ 1
    far = omega arith

    begins : binary_from f lists 0 (suc room) place (b ∷ bs) ≡ with_run lists 0 place (model.begun (b ∷ [])) (λ k. binary_from f lists k (suc room - 1) (place + 1) bs)
    begins = binary_begins f lists (suc room) place b bs (omega arith)

    add : (b == 97) ≡ true → Stand f lists 0 (suc room) place (b ∷ bs) (item_at f (suc room) place (b ∷ bs))
    add t =
        let stream : binary_from f lists 0 (suc room) place (b ∷ bs) ≡ next (record { place = place; word = word.Add }) (binary_from f lists lists (suc room - 1) (place + 1) bs) = begins ∙ rw t refl in
        rw (t, far) (omega arith, stream, λ e. absurd cc)

    del : (b == 97) ≡ false → (b == 100) ≡ true → Stand f lists 0 (suc room) place (b ∷ bs) (item_at f (suc room) place (b ∷ bs))
    del n t =
        let stream : binary_from f lists 0 (suc room) place (b ∷ bs) ≡ next (record { place = place; word = word.Del }) (binary_from f lists 1 (suc room - 1) (place + 1) bs) = begins ∙ rw (n, t) refl in
        rw (n, t, far) (omega arith, stream, λ e. absurd cc)

    bad : (b == 97) ≡ false → (b == 100) ≡ false → Stand f lists 0 (suc room) place (b ∷ bs) (item_at f (suc room) place (b ∷ bs))
    bad n t =
        let stream : binary_from f lists 0 (suc room) place (b ∷ bs) ≡ stopped BadWord place = begins ∙ rw (n, t) refl in
        rw (n, t) stream

inside_stands : (f : Ending) (lists o room place : ℕ) (bytes : List ℕ) → Stand f lists (suc o) room place bytes (token_at f false room place bytes)
inside_stands f lists o room place [] = end_stands f lists (suc o) room place
inside_stands f lists o room place (b ∷ bs) = number_tells f lists o room place b bs (value_at 10 room (b ∷ bs)) (value_tells 10 room (b ∷ bs))

pub tokens_stand : (at_start : Bool) (f : Ending) (lists o room place : ℕ) (bytes : List ℕ) → IsStart at_start o → Stand f lists o room place bytes (token_at f at_start room place bytes)
tokens_stand true f lists o room place bytes s = subst (λ (k : ℕ). Stand f lists k room place bytes (item_at f room place bytes)) (sym s) (item_stands f lists room place bytes)
tokens_stand false f lists zero room place bytes s = absurd (omega arith)
tokens_stand false f lists (suc o) room place bytes s = inside_stands f lists o room place bytes

-- so the answer is the first of the tokens that are left
pub gives_front : (at_start : Bool) (lists o : ℕ) (old new : Reader) (c : Contents) (result : Result Token InputError) → new.limit ≡ old.limit → IsStart at_start o
    → GivesBinary at_start old new c result → GivesFront Binary lists o old new c result
gives_front s lists o old new c (Ok t) limit start gives =
    let room : ℕ = old.limit - old.taken in
    let stand : Stand c.ending lists o room old.taken (remaining old c) (reads t (remaining new c)) =
    subst (λ r. Stand c.ending lists o room old.taken (remaining old c) r) gives.0 (tokens_stand s c.ending lists o room old.taken (remaining old c) start) in
    let less = stand.0 in
    let count = gives.1 in
    let used : ℕ = length (remaining old c) - length (remaining new c) in
    let place : old.taken + used ≡ new.taken = omega (arith, less, count) in
    let left : room - used ≡ new.limit - new.taken = omega (arith, place, limit) in (
      stand.1 ∙ rw (place, left) refl,
      λ e.
          let end = stand.2 e in
          let none : length (remaining old c) ≡ 0 = ap length end.0 in
          let rest : length (remaining new c) ≡ 0 = ap length end.1 in
          let here : new.taken ≡ t.place = omega (arith, count, end.2) in
          ap (binary_from c.ending lists (open_after lists o t.word) (new.limit - new.taken) new.taken) end.1
          ∙ binary_end c.ending lists (open_after lists o t.word) (new.limit - new.taken) new.taken
          ∙ ap (λ (f : Ending). ending_at f new.taken) end.3 ∙ ap finished here,
    )
gives_front s lists o old new c (Err (error.Text kind place)) limit start gives =
    subst (λ r. Stand c.ending lists o (old.limit - old.taken) old.taken (remaining old c) r) gives (tokens_stand s c.ending lists o (old.limit - old.taken) old.taken (remaining old c) start)
gives_front s lists o old new c (Err (error.Limit limit.Bytes)) same start gives =
    subst (λ r. Stand c.ending lists o (old.limit - old.taken) old.taken (remaining old c) r) gives (tokens_stand s c.ending lists o (old.limit - old.taken) old.taken (remaining old c) start)
gives_front s lists o old new c (Err (error.Limit limit.Vars)) same start gives = gives
gives_front s lists o old new c (Err (error.Limit limit.Ids)) same start gives = gives
gives_front s lists o old new c (Err (error.Limit limit.Cells)) same start gives = gives
gives_front s lists o old new c (Err error.Source) limit start gives =
    subst (λ r. Stand c.ending lists o (old.limit - old.taken) old.taken (remaining old c) r) gives (tokens_stand s c.ending lists o (old.limit - old.taken) old.taken (remaining old c) start)
gives_front s lists o old new c (Err error.NoMemory) limit start gives = gives

pub text_front : (lists o : ℕ) (old new : Reader) (c : Contents) (result : Result Token InputError) → GivesToken (text_left old c) (text_left new c) result → GivesFront Text lists o old new c result
text_front lists o old new c (Ok t) h = h
text_front lists o old new c (Err e) h = h
