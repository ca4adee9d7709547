-- Numbers that stand whole in the reader's buffer, one behind the other.
use Rattle.std.proofs.Common.{◌≡◌, ◌∙◌, ℕ, ◌+◌, ◌-◌, ◌<◌, ◌≤◌, Bool, refl, sym, ap, subst, List, ◌++◌, length, take, drop, false, Ok, arith, length-take}
use Rattle.std.proofs.lemmas.List.{drop-take}
use Rattle.std.proofs.Math.Seq.{take-add}
use Rattle.sr_base.specs.Contents.{Contents}
use Rattle.sr_base.specs.declared.names.Form.TheVariants.{Binary}
use Rattle.sr_desk.specs.Reader.{Reader, buffered, skipped, last_after}
use Rattle.sr_desk.specs.Next.{remaining}
use Rattle.sr_desk.proofs.BufferLemmas.{drop-drop, last_after-append}
use Rattle.sr_model.specs.declared.tokens.Word.{Word}
use Rattle.sr_model.specs.declared.tokens.Word.TheVariants.{Number}
use Rattle.sr_model.specs.declared.tokens.Token.{Token}
use Rattle.sr_model.specs.Tokens.{next}
use Rattle.sr_model.specs.Words.{signed}
use Rattle.sr_model.specs.BinaryTokens.{open_after, value_word}
use Rattle.sr_scan.specs.BinaryLeft.{LeadsValue, TakesNumber}
use Rattle.sr_scan.specs.Front.{LeadsNumber}
use Rattle.sr_scan.specs.Machine.{TakesToken}
use Rattle.sr_scan.specs.Left.{text_left, tokens_left, front_word}
use Rattle.sr_scan.proofs.ReadLemmas.{skips_ahead}
use Rattle.sr_scan.proofs.ValueLemmas.{takes_number}
use Rattle.sr_scan.proofs.BinaryStands.{gives_front}
use Rattle.sr_scan.proofs.HandLemmas.{takes_token}
use Rattle.sr_scan.proofs.TokenLemmas.{machine_left_is}

-- what is at hand once some bytes were taken
pub buffered-skipped : (r : Reader) (at : ℕ) → at ≤ length (buffered r) → drop at (buffered r) ≡ buffered (skipped r at)
buffered-skipped r at le =
    let short : at ≤ r.limit - r.taken = omega (arith, simp length-take at le) in
    let sum : at + (r.limit - (r.taken + at)) ≡ r.limit - r.taken = omega arith in
    rw sum at (drop-take at (r.limit - (r.taken + at)) r.ahead)

-- taking some bytes and then others
pub skipped-skipped : (r : Reader) (at len : ℕ) → skipped (skipped r at) len ≡ skipped r (at + len)
skipped-skipped r at len =
    let taken : r.taken + at + len ≡ r.taken + (at + len) = omega arith in
    let last : last_after (last_after r.last (take at r.ahead)) (take len (drop at r.ahead)) ≡ last_after r.last (take (at + len) r.ahead) =
    rw (take-add at len r.ahead) (sym (last_after-append r.last (take at r.ahead) (take len (drop at r.ahead)))) in
    rw (taken, last, drop-drop at len r.ahead) refl

-- a number behind those that were taken is taken too
pub takes_run : (r : Reader) (at len v : ℕ) (w : Word) → LeadsValue (drop at (buffered r)) len v → value_word v ≡ Ok w → at ≤ length (buffered r)
    → TakesNumber (skipped r at) (skipped r (at + len)) (record { place = r.taken + at; word = w })
takes_run r at len v w leads says le =
    takes_number (skipped r at) (skipped r (at + len)) (drop at (buffered r)) len v (r.taken + at) w (buffered-skipped r at le) leads (sym says) refl (sym (skipped-skipped r at len))

-- so it stands first among the tokens that are left
pub run_front : (r : Reader) (at len v : ℕ) (w : Word) (c : Contents) (more : List ℕ) (lists open_lists : ℕ) → LeadsValue (drop at (buffered r)) len v → value_word v ≡ Ok w → 0 < open_lists → at ≤ length (buffered r)
    → remaining r c ≡ r.ahead ++ more
    → tokens_left Binary lists open_lists (skipped r at) c ≡ front_word (r.taken + at) w (tokens_left Binary lists (open_after lists open_lists w) (skipped r (at + len)) c)
run_front r at len v w c more lists open_lists leads says some le ahead =
    let takes = takes_run r at len v w leads says le in
    let t : Token = record { place = r.taken + at; word = w } in
    let gives = gives_front false lists open_lists (skipped r at) (skipped r (at + len)) c (Ok t) refl some (takes.gives c more (skips_ahead r c more at le ahead)) in
    gives.0

-- the same in text
pub text_takes_run : (r : Reader) (at len size : ℕ) (negative : Bool) → (n : LeadsNumber (drop at (buffered r)) len size negative) → at ≤ length (buffered r)
    → TakesToken (skipped r at) (skipped r (at + len)) (record { place = r.taken + at + n.start; word = Number (signed negative size) })
text_takes_run r at len size negative n le =
    let whole : skipped (skipped r at) (n.start + n.digits + 1) ≡ skipped r (at + len) = rw (← n.len_is) (skipped-skipped r at len) in
    let here : drop at (buffered r) ≡ buffered (skipped r at) = buffered-skipped r at le in
    let inside : n.start ≤ length (drop at (buffered r)) = omega (arith, n.len_is, n.within) in
    subst (λ (new : Reader). TakesToken (skipped r at) new (record { place = r.taken + at + n.start; word = Number (signed negative size) })) whole
    (takes_token (skipped r at) n.start n.digits (Number (signed negative size)) (rw here at inside) (rw here at n.blank) (rw here at n.leads))

pub text_run_front : (r : Reader) (at len size : ℕ) (negative : Bool) (c : Contents) (more : List ℕ) → (n : LeadsNumber (drop at (buffered r)) len size negative) → at ≤ length (buffered r) → remaining r c ≡ r.ahead ++ more
    → text_left (skipped r at) c ≡ next (record { place = r.taken + at + n.start; word = Number (signed negative size) }) (text_left (skipped r (at + len)) c)
text_run_front r at len size negative c more n le ahead =
    sym (machine_left_is (skipped r at) c) ∙ (text_takes_run r at len size negative n le).left c more (skips_ahead r c more at le ahead)
    ∙ ap (next (record { place = r.taken + at + n.start; word = Number (signed negative size) })) (machine_left_is (skipped r (at + len)) c)
