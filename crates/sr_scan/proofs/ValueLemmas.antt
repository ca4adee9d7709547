-- A value that stands whole in some bytes, from its last byte.
use Rattle.std.proofs.Common.{◌≡◌, ◌∙◌, ℕ, suc, ◌+◌, ◌-◌, ◌*◌, ◌<◌, ◌≤◌, ◌^◌, length-take, refl, sym, ap, subst, List, [], ◌∷◌, ◌++◌, length, take, drop, get_or, arith, ◌/◌, ◌%◌, ◌==◌, Bool, true, false, Ok, length-append}
use Rattle.std.specs.Prelude.{nat_lt, ◌&&◌}
use Rattle.sr_desk.specs.Reader.{Reader, buffered, skipped}
use Rattle.sr_base.specs.Contents.{Ending, Contents}
use Rattle.sr_desk.specs.Next.{remaining}
use Rattle.sr_model.specs.Words.{signed, number_word}
use Rattle.sr_model.specs.BinaryTokens.{value_word}
use Rattle.sr_model.proofs.Soundness.{by_test}
use Rattle.sr_scan.proofs.ReadLemmas.{skips_remaining}
use Rattle.sr_model.specs.declared.tokens.Word.{Word}
use Rattle.sr_model.specs.declared.tokens.Word.TheVariants as word
use Rattle.sr_scan.specs.Front.{is_end}
use Rattle.sr_scan.proofs.HandLemmas.{advances}
use Rattle.std.proofs.Math.Seq.{drop-cons}
use Rattle.sr_scan.specs.Binary.{value, plus, value_at, number_by, number_at, token_at}
use Rattle.sr_scan.specs.BinaryLeft.{EndsAt, LeadsValue, TakesNumber}
use Rattle.sr_scan.proofs.BinaryLemmas.{value_at-small, value_at-large}

-- the bytes from one on, by the first of them
from-on : (bytes : List ℕ) (at n : ℕ) → at < length bytes → take (suc n) (drop at bytes) ≡ get_or bytes at 0 ∷ take n (drop (at + 1) bytes)
from-on bytes at n lt = let e : at + 1 ≡ suc at = omega arith in rw (e, drop-cons bytes at 0 lt) refl

-- the bytes from a place to the last spell a value
abbrev pub Spelled : List ℕ → ℕ → ℕ → ℕ → Type 0
Spelled bytes last at v = (room : ℕ) (rest : List ℕ) → last + 1 - at ≤ room → value_at (10 - at) room (take (last + 1 - at) (drop at bytes) ++ rest) ≡ value v rest

pub spelled_last : (bytes : List ℕ) (last v : ℕ) → EndsAt bytes last → v ≡ get_or bytes last 0 → Spelled bytes last last v
spelled_last bytes last v ends is room rest le =
    let one : last + 1 - last ≡ suc 0 = omega arith in
    let within : last < length bytes = ends.within in
    let few : last < 9 = ends.few in
    let front : take (last + 1 - last) (drop last bytes) ≡ v ∷ [] = rw one (from-on bytes last 0 within ∙ rw (← is) refl) in
    rw front (value_at-small (10 - last) room v rest (omega arith) (omega arith) (rw is ends.last))

pub spelled_more : (bytes : List ℕ) (last at v b : ℕ) → EndsAt bytes last → at ≤ last → 0 < at → b ≡ get_or bytes (at - 1) 0 - 128 → Spelled bytes last at v → Spelled bytes last (at - 1) (128 * v + b)
spelled_more bytes last at v b ends le some is spelled room rest fits =
    let more : last + 1 - (at - 1) ≡ suc (last + 1 - at) = omega arith in
    let next : at - 1 + 1 ≡ at = omega arith in
    let within : last < length bytes = ends.within in
    let few : last < 9 = ends.few in
    let byte : ℕ = get_or bytes (at - 1) 0 in
    let front : take (last + 1 - (at - 1)) (drop (at - 1) bytes) ≡ byte ∷ take (last + 1 - at) (drop at bytes) =
    rw more (from-on bytes (at - 1) (last + 1 - at) (omega arith) ∙ rw next refl) in
    let most : 10 - (at - 1) - 1 ≡ 10 - at = omega arith in
    let large : 128 ≤ byte = ends.more (at - 1) (omega arith) in
    let xs : List ℕ = take (last + 1 - at) (drop at bytes) in
    let step : value_at (10 - (at - 1)) room (byte ∷ (xs ++ rest)) ≡ plus (byte - 128) 128 (value_at (10 - (at - 1) - 1) (room - 1) (xs ++ rest)) =
    value_at-large (10 - (at - 1)) room byte (xs ++ rest) (omega arith) (omega arith) large in
    let later : value_at (10 - (at - 1) - 1) (room - 1) (xs ++ rest) ≡ value v rest = rw most (spelled (room - 1) rest (omega arith)) in
    let whole : byte - 128 + 128 * v ≡ 128 * v + b = omega arith in
    rw front (step ∙ ap (plus (byte - 128) 128) later ∙ ap (λ (n : ℕ). value n rest) whole)

pub leads-value : (bytes : List ℕ) (last at v : ℕ) → EndsAt bytes last → at ≤ 0 → v < 2 ^ 63 → Spelled bytes last at v → LeadsValue bytes (last + 1) v
leads-value bytes last at v ends none small spelled =
    let zero_is : at ≡ 0 = omega arith in
    let whole : Spelled bytes last 0 v = subst (λ (n : ℕ). Spelled bytes last n v) zero_is spelled in
    let within : last < length bytes = ends.within in
    let all : last + 1 - 0 ≡ last + 1 = omega arith in
    record { some = omega arith; within = omega arith; small = small; spells = λ room rest fits. rw all at (whole room rest (omega (arith, simp length-take at fits))) }

pub token-number : (f : Ending) (room place : ℕ) (bytes : List ℕ) → 0 < length bytes → token_at f false room place bytes ≡ number_at f place (place + length bytes) (value_at 10 room bytes)
token-number f room place [] some = absurd (omega arith)
token-number f room place (b ∷ bs) some = refl

pub value-not_end : (v : ℕ) (w : Word) → value_word v ≡ Ok w → is_end w ≡ false
value-not_end v w h = at (v % 2 == 1) (v / 2) h
  where
    at : (negative : Bool) (size : ℕ) → number_word negative size ≡ Ok w → is_end w ≡ false
    at negative size e = by_test (negative && size == 0)
        (λ z. let bad = rw z at e in absurd cc)
        (λ z. by_test (nat_lt size (2 ^ 63))
        (λ t. let says = rw (z, t) at e in let is : word.Number (signed negative size) ≡ w = cc says in rw (← is) refl)
        (λ t. let bad = rw (z, t) at e in absurd cc))

size_of : (xs : List ℕ) (n : ℕ) → n ≤ length xs → length (take n xs) ≡ n
size_of xs n le = simp length-take (omega arith)

-- the number is taken of the bytes at hand
pub takes_number : (r new : Reader) (bytes : List ℕ) (len v place : ℕ) (w : Word) → bytes ≡ buffered r → LeadsValue bytes len v → Ok w ≡ value_word v → place ≡ r.taken → new ≡ skipped r len
    → TakesNumber r new (record { place = place; word = w })
takes_number r new bytes len v place w is leads says at now =
    rw (at, now) (takes (subst (λ (b : List ℕ). LeadsValue b len v) is leads))
  where
    takes : LeadsValue (buffered r) len v → TakesNumber r (skipped r len) (record { place = r.taken; word = w })
    takes l =
        let some : 0 < len = l.some in
        let fits : len ≤ length (buffered r) = l.within in
        let room : len ≤ r.limit - r.taken = omega (arith, simp length-take at fits) in
        let size : length (take len (buffered r)) ≡ len = size_of (buffered r) len fits in
        record {
          skips = record { count = len; within = fits; same = refl };
          advances = advances r (skipped r len) w (value-not_end v w (sym says)) (omega arith);
          gives = λ c more h.
              let rest : List ℕ = remaining (skipped r len) c in
              let split = skips_remaining r c more len fits h in
              let count : length (remaining r c) ≡ len + length rest = ap length split ∙ length-append (take len (buffered r)) rest ∙ ap (λ (n : ℕ). n + length rest) size in
              let here : value_at 10 (r.limit - r.taken) (remaining r c) ≡ value v rest =
              ap (value_at 10 (r.limit - r.taken)) split ∙ l.spells (r.limit - r.taken) rest (omega (arith, size)) in (
                token-number c.ending (r.limit - r.taken) r.taken (remaining r c) (omega arith) ∙ ap (number_at c.ending r.taken (r.taken + length (remaining r c))) here
                    ∙ ap (number_by r.taken rest) (sym says),
                omega arith,
              );
        }
