-- What a token does to the hints of a step, and what a number does to its prefix and groups.
use Rattle.std.proofs.Common.{◌≡◌, ◌≢◌, ◌∙◌, ℕ, zero, suc, ℤ, pos, negsuc, ◌+◌, ◌-◌, ◌/◌, ◌%◌, ◌^◌, ◌==◌, ◌<◌, ◌≤◌, ltb, Bool, true, false, refl, sym, ap, subst, List, [], ◌∷◌, ◌++◌, length, take, drop, Option, Some, Ok, Err, arith}
use Rattle.std.specs.Prelude.{nat_abs, nat_lt, Result, OnOk, is_err}
use Rattle.std.specs.Int.Signed.{lt_z}
use Rattle.std.specs.List.{All}
use Rattle.std.proofs.lemmas.Bool.Decides.{nat_tests}
use Rattle.std.proofs.lemmas.List.{take_rest}
use Rattle.std.proofs.lemmas.List.Elements.{All-cons, All-head, All-tail, All-push}
use Rattle.sr_base.specs.declared.names.Form.{Form}
use Rattle.sr_base.specs.declared.names.Form.TheVariants as form
use Rattle.sr_base.specs.declared.names.LimitKind.TheVariants as limit
use Rattle.sr_base.specs.Contents.{Contents}
use Rattle.sr_base.specs.declared.names.InputError.{InputError}
use Rattle.sr_base.specs.declared.names.InputError.TheVariants.{Text, Limit}
use Rattle.sr_desk.specs.Outside.{Outside, Agrees}
use Rattle.sr_desk.specs.Reader.{Reader, buffered, skipped}
use Rattle.sr_desk.specs.Next.{Stands, remaining}
use Rattle.sr_desk.proofs.ReaderLemmas.{remaining-ahead}
use Rattle.sr_model.specs.declared.tokens.Word.TheVariants as word
use Rattle.sr_model.specs.declared.tokens.Token.{Token}
use Rattle.sr_model.specs.Tokens.{Tokens, next}
use Rattle.sr_model.specs.BinaryTokens.{open_after, value_word}
use Rattle.sr_model.specs.Meeting.{Group}
use Rattle.sr_model.specs.Words.{signed}
use Rattle.sr_model.specs.Reading.{reads}
use Rattle.sr_model.specs.Lsr.{numbers_after, by_number, prefix_of, groups_of}
use Rattle.sr_scan.specs.Left.{tokens_left, misplaced, GivesToken, RefusesToken, Refuses}
use Rattle.sr_scan.specs.BinaryLeft.{GivesFront}
use Rattle.sr_scan.specs.Machine.{Skips}
use Rattle.sr_scan.proofs.ReadLemmas.{agreed, Reads-skips, skipped-none}
use Rattle.sr_wit.specs.Groups.{with_hint}
use Rattle.sr_lemma.proofs.NumberLemmas.{at_number, at_default, by_number_more, by_number_above, front_numbers, refused_numbers, open_number, open_zero}
use Rattle.sr_lemma.proofs.RunLemmas.{run_front, text_run_front}
use Rattle.sr_lsr.specs.declared.hints.LeadingHint.{LeadingHint}
use Rattle.sr_lsr.specs.declared.hints.Hints.{Hints}
use Rattle.sr_lsr.specs.Written.{IsSmall, IsSmallGroup}
use Rattle.sr_lsr.specs.Told.{hint_number, Spells, SpellsMore, SpellsNumber, LeadsHint, TakesHints}
use Rattle.sr_lsr.specs.Reads.{GivesHints}

-- the hints that were read and what is left spell what stood at the front
abbrev pub Reading : ℕ → Tokens → Tokens → Hints → Type 0
Reading bound all left hints = (these : List ℤ) × (numbers_after limit.Ids bound [] all ≡ numbers_after limit.Ids bound these left) × Spells these hints

pub reading_first : (bound : ℕ) (all : Tokens) (hints : Hints) → hints.prefix ≡ [] → hints.groups ≡ [] → Reading bound all all hints
reading_first bound all hints p q = ([], refl, (sym p, sym q))

-- no further token
pub reading_stop : (bound : ℕ) (all mid left : Tokens) (hints : Hints) (e : InputError) → Reading bound all mid hints → RefusesToken mid e → GivesHints bound all left (Err e)
reading_stop bound all mid left hints e r given = subst (λ x. Refuses x e) (sym r.1) (refused_numbers limit.Ids bound r.0 mid e given)

-- a token
reading_next : (bound : ℕ) (all mid left : Tokens) (hints : Hints) (t : Token) → (r : Reading bound all mid hints) → GivesToken mid left (Ok t)
    → numbers_after limit.Ids bound [] all ≡ numbers_after limit.Ids bound r.0 (next t left)
reading_next bound all mid left hints t r given = r.1 ∙ ap (numbers_after limit.Ids bound r.0) given.0 ∙ front_numbers limit.Ids bound r.0 t left

-- one that is no number, and one above the bound
pub reading_default : (bound : ℕ) (all mid left after : Tokens) (hints : Hints) (t : Token) → Reading bound all mid hints → GivesToken mid left (Ok t) → ((x : ℤ) → t.word ≡ word.Number x → ⊥)
    → GivesHints bound all after (Err (Text (misplaced t.word) t.place))
reading_default bound all mid left after hints t r given n = reading_next bound all mid left hints t r given ∙ at_default limit.Ids bound r.0 t left n

pub reading_above : (bound : ℕ) (all mid left after : Tokens) (hints : Hints) (t : Token) (x : ℤ) → Reading bound all mid hints → GivesToken mid left (Ok t) → t.word ≡ word.Number x → (x ≡ pos 0 → ⊥)
    → bound < nat_abs x → GivesHints bound all after (Err (Limit limit.Ids))
reading_above bound all mid left after hints t x r given e some past =
    reading_next bound all mid left hints t r given ∙ at_number limit.Ids bound r.0 t x left e
    ∙ by_number_above limit.Ids bound x t.place r.0 left (numbers_after limit.Ids bound (r.0 ++ x ∷ []) left) some past

-- the end of the hints
pub reading_end : (form : Form) (bound : ℕ) (all : Tokens) (mid new : Reader) (c : Contents) (hints : Hints) (t : Token) (x : ℤ) → Reading bound all (tokens_left form 2 1 mid c) hints → GivesFront form 2 1 mid new c (Ok t)
    → t.word ≡ word.Number x → x ≡ pos 0 → GivesHints bound all (tokens_left form 2 0 new c) (Ok (hints.prefix, hints.groups))
reading_end form bound all mid new c hints t x r given e z =
    let left : Tokens = tokens_left form 2 (open_after 2 1 t.word) new c in (
      r.0,
      t.place,
      reading_next bound all (tokens_left form 2 1 mid c) left hints t r given ∙ at_number limit.Ids bound r.0 t x left e
          ∙ ap (λ y. by_number limit.Ids bound y t.place r.0 left (numbers_after limit.Ids bound (r.0 ++ y ∷ []) left)) z
          ∙ ap (λ (k : ℕ). reads (r.0, t.place) (tokens_left form 2 k new c)) (open_zero 2 0 t.word x e z),
      r.2.0,
      r.2.1,
    )

-- one number more
pub reading_more : (form : Form) (bound : ℕ) (all : Tokens) (mid new : Reader) (c : Contents) (hints hints' : Hints) (t : Token) (x : ℤ) → Reading bound all (tokens_left form 2 1 mid c) hints
    → GivesFront form 2 1 mid new c (Ok t) → t.word ≡ word.Number x → (x ≡ pos 0 → ⊥) → nat_abs x ≤ bound → SpellsMore hints hints' x → Reading bound all (tokens_left form 2 1 new c) hints'
reading_more form bound all mid new c hints hints' t x r given e some inside more =
    let left : Tokens = tokens_left form 2 (open_after 2 1 t.word) new c in (
      r.0 ++ x ∷ [],
      reading_next bound all (tokens_left form 2 1 mid c) left hints t r given ∙ at_number limit.Ids bound r.0 t x left e
          ∙ by_number_more limit.Ids bound x t.place r.0 left (numbers_after limit.Ids bound (r.0 ++ x ∷ []) left) some inside
          ∙ ap (λ (k : ℕ). numbers_after limit.Ids bound (r.0 ++ x ∷ []) (tokens_left form 2 k new c)) (open_number 2 0 t.word x e some),
      more r.0 r.2,
    )

-- the hints at hand were taken
pub on_ok : {T E : Type 0} (result : Result T E) (P : Type 0) → is_err result ≡ false → OnOk result P → P
on_ok (Ok x) P e h = h
on_ok (Err k) P e h = absurd (cc)

pub reading_ahead : {T E : Type 0} (result : Result T E) (form : Form) (bound : ℕ) (old mid new : Reader) (o : Outside) (c : Contents) (hints hints' : Hints) → is_err result ≡ false
    → OnOk result (TakesHints form bound mid new hints hints') → Stands mid o → Skips mid new → Agrees (o.slot new.slot) c
    → ((c : Contents) → Agrees (o.slot mid.slot) c → Reading bound (tokens_left form 2 1 old c) (tokens_left form 2 1 mid c) hints)
    → Reading bound (tokens_left form 2 1 old c) (tokens_left form 2 1 new c) hints'
reading_ahead result form bound old mid new o c hints hints' went goes stands skips h inv =
    let before = agreed (Reads-skips mid new o stands skips) h in
    let r = inv c before in
    let f = on_ok result _ went goes c before.more 2 1 (remaining-ahead c stands before) (omega arith) r.0 r.2 in
    (f.0, r.1 ∙ f.1, f.2)

-- the number of a size
pub signed-size : (b : Bool) (n : ℕ) → n ≢ 0 → nat_abs (signed b n) ≡ n
signed-size true n some = omega arith
signed-size false n some = refl

pub signed-some : (b : Bool) (n : ℕ) → n ≢ 0 → signed b n ≡ pos 0 → ⊥
signed-some true n some e = cc
signed-some false n some e = some (ap nat_abs e)

pub signed-is : (x : ℤ) (size : ℕ) → (x ≡ pos 0 → ⊥) → size ≡ nat_abs x → signed (lt_z x (pos 0)) size ≡ x
signed-is (pos n) size some e = let up : ltb n 0 ≡ false = grind (arith, nat_tests) in rw up (ap pos e)
signed-is (negsuc n) size some e = let down : size - 1 ≡ n = omega (arith, e) in ap negsuc down

-- what a value of a binary file says
pub value_says : (v size : ℕ) (b : Bool) → v < 2 ^ 63 → size ≡ v / 2 → size ≢ 0 → b ≡ (v % 2 == 1) → value_word v ≡ Ok (word.Number (signed b size))
value_says v size b small half some odd =
    let fits : nat_lt (v / 2) (2 ^ 63) ≡ true = grind (arith, nat_tests) in
    let ne : (v / 2 == 0) ≡ false = grind (arith, nat_tests) in
    go (v % 2 == 1) refl fits ne
  where
    go : (t : Bool) → (v % 2 == 1) ≡ t → nat_lt (v / 2) (2 ^ 63) ≡ true → (v / 2 == 0) ≡ false → value_word v ≡ Ok (word.Number (signed b size))
    go true t fits ne = rw (t, ne, fits, odd, t, half) refl
    go false t fits ne = rw (t, fits, odd, t, half) refl

-- a run of hints at hand
pub run_none : (form : Form) (bound : ℕ) (r : Reader) (hints : Hints) → TakesHints form bound r (skipped r 0) hints hints
run_none form bound r hints c more lists open_lists ahead some these s =
    (these, ap (λ (r : Reader). numbers_after limit.Ids bound these (tokens_left form lists open_lists r c)) (sym (skipped-none r)), s)

pub leads_at : (form : Form) (r : Reader) (bytes : List ℕ) (at bound : ℕ) (front : LeadingHint) → bytes ≡ buffered r → LeadsHint form (take (length bytes - at) (drop at bytes)) bound front
    → LeadsHint form (drop at (buffered r)) bound front
leads_at form r bytes at bound front is leads = rw is at (rw take_rest at leads)

open-stays : (lists open_lists : ℕ) (x : ℤ) → 0 < open_lists → (x ≡ pos 0 → ⊥) → open_after lists open_lists (word.Number x) ≡ open_lists
open-stays lists zero x some ne = absurd (omega arith)
open-stays lists (suc k) x some ne = open_number lists k (word.Number x) x refl ne

-- a number behind those that were taken stands first among the tokens that are left
number_first : (form : Form) (r : Reader) (at len size : ℕ) (negative : Bool) (c : Contents) (more : List ℕ) (lists open_lists : ℕ) → SpellsNumber form (drop at (buffered r)) len size negative → size ≢ 0
    → at ≤ length (buffered r) → 0 < open_lists → remaining r c ≡ r.ahead ++ more
    → (place : ℕ) × (tokens_left form lists open_lists (skipped r at) c ≡ next (record { place = place; word = word.Number (signed negative size) }) (tokens_left form lists open_lists (skipped r (at + len)) c))
number_first form.Text r at len size negative c more lists open_lists spells ne le some ahead = (r.taken + at + spells.start, text_run_front r at len size negative c more spells le ahead)
number_first form.Binary r at len size negative c more lists open_lists spells ne le some ahead =
    let x : ℤ = signed negative size in
    let stays = open-stays lists open_lists x some (signed-some negative size ne) in (
      r.taken + at,
      rw stays at (run_front r at len spells.0 (word.Number x) c more lists open_lists spells.1 spells.2 some le ahead),
    )

pub run_more : (form : Form) (bound : ℕ) (r : Reader) (at : ℕ) (front : LeadingHint) (start hints hints' : Hints) → LeadsHint form (drop at (buffered r)) bound front → at ≤ length (buffered r)
    → SpellsMore hints hints' (hint_number front.hint) → TakesHints form bound r (skipped r at) start hints → TakesHints form bound r (skipped r (at + front.len)) start hints'
run_more form bound r at front start hints hints' leads le longer inv c more lists open_lists ahead some these s =
    let g = inv c more lists open_lists ahead some these s in
    let x : ℤ = hint_number front.hint in
    let ne : x ≡ pos 0 → ⊥ = signed-some front.hint.begins_group front.hint.size leads.some in
    let inside : nat_abs x ≤ bound = rw (signed-size front.hint.begins_group front.hint.size leads.some) leads.within in
    let first = number_first form r at front.len front.hint.size front.hint.begins_group c more lists open_lists leads.spells leads.some le some ahead in
    let t : Token = record { place = first.0; word = word.Number x } in
    let left : Tokens = tokens_left form lists open_lists (skipped r (at + front.len)) c in (
      g.0 ++ x ∷ [],
      g.1 ∙ ap (numbers_after limit.Ids bound g.0) first.1 ∙ at_number limit.Ids bound g.0 t x left refl
          ∙ by_number_more limit.Ids bound x t.place g.0 left (numbers_after limit.Ids bound (g.0 ++ x ∷ []) left) ne inside,
      longer g.0 g.2,
    )

-- a negative number begins a group
prefix_begin : (these : List ℤ) (n : ℕ) → prefix_of (these ++ negsuc n ∷ []) ≡ prefix_of these
prefix_begin [] n = refl
prefix_begin (pos h ∷ hs) n = ap (λ l. h ∷ l) (prefix_begin hs n)
prefix_begin (negsuc h ∷ hs) n = refl

groups_begin : (these : List ℤ) (n : ℕ) → groups_of (these ++ negsuc n ∷ []) ≡ groups_of these ++ (n + 1, []) ∷ []
groups_begin [] n = refl
groups_begin (pos h ∷ hs) n = groups_begin hs n
groups_begin (negsuc h ∷ hs) n = ap (λ l. (h + 1, l) ∷ groups_of (hs ++ negsuc n ∷ [])) (prefix_begin hs n) ∙ ap (λ l. (h + 1, prefix_of hs) ∷ l) (groups_begin hs n)

pub spells_begin : (hints hints' : Hints) (b : Bool) (size : ℕ) → b ≡ true → size ≢ 0 → hints'.prefix ≡ hints.prefix → hints'.groups ≡ hints.groups ++ (size, []) ∷ [] → SpellsMore hints hints' (signed b size)
spells_begin hints hints' false size t some p q these s = absurd (cc)
spells_begin hints hints' true size t some p q these s =
    let counted : size - 1 + 1 ≡ size = omega arith in (
      prefix_begin these (size - 1) ∙ s.0 ∙ sym p,
      groups_begin these (size - 1) ∙ ap (λ gs. gs ++ (size - 1 + 1, []) ∷ []) s.1 ∙ ap (λ (k : ℕ). hints.groups ++ (k, []) ∷ []) counted ∙ sym q,
    )

-- a positive one without a group is a hint of the prefix
prefix_outside : (these : List ℤ) (n : ℕ) → groups_of these ≡ [] → prefix_of (these ++ pos n ∷ []) ≡ prefix_of these ++ n ∷ []
prefix_outside [] n e = refl
prefix_outside (pos h ∷ hs) n e = ap (λ l. h ∷ l) (prefix_outside hs n e)
prefix_outside (negsuc h ∷ hs) n e = absurd (cc)

groups_outside : (these : List ℤ) (n : ℕ) → groups_of these ≡ [] → groups_of (these ++ pos n ∷ []) ≡ []
groups_outside [] n e = refl
groups_outside (pos h ∷ hs) n e = groups_outside hs n e
groups_outside (negsuc h ∷ hs) n e = absurd (cc)

pub spells_outside : (hints hints' : Hints) (b : Bool) (n : ℕ) → b ≡ false → hints.groups ≡ [] → hints'.prefix ≡ hints.prefix ++ n ∷ [] → hints'.groups ≡ hints.groups → SpellsMore hints hints' (signed b n)
spells_outside hints hints' true n t z p q these s = absurd (cc)
spells_outside hints hints' false n t z p q these s = (
  prefix_outside these n (s.1 ∙ z) ∙ ap (λ l. l ++ n ∷ []) s.0 ∙ sym p,
  groups_outside these n (s.1 ∙ z) ∙ sym z ∙ sym q,
)

-- and behind one it is a hint of the last group
prefix_inside : (these : List ℤ) (n : ℕ) → 0 < length (groups_of these) → prefix_of (these ++ pos n ∷ []) ≡ prefix_of these
prefix_inside [] n l = absurd (omega arith)
prefix_inside (pos h ∷ hs) n l = ap (λ l. h ∷ l) (prefix_inside hs n l)
prefix_inside (negsuc h ∷ hs) n l = refl

group_inside : (h n : ℕ) (hs : List ℤ) (gs : List Group) → groups_of hs ≡ gs → (0 < length gs → groups_of (hs ++ pos n ∷ []) ≡ with_hint gs n)
    → (h + 1, prefix_of (hs ++ pos n ∷ [])) ∷ groups_of (hs ++ pos n ∷ []) ≡ with_hint ((h + 1, prefix_of hs) ∷ gs) n
group_inside h n hs [] e more = rw (prefix_outside hs n e, groups_outside hs n e) refl
group_inside h n hs (g ∷ gs) e more =
    ap (λ l. (h + 1, l) ∷ groups_of (hs ++ pos n ∷ [])) (prefix_inside hs n (omega (arith, ap length e))) ∙ ap (λ l. (h + 1, prefix_of hs) ∷ l) (more (omega arith))

groups_inside : (these : List ℤ) (n : ℕ) → 0 < length (groups_of these) → groups_of (these ++ pos n ∷ []) ≡ with_hint (groups_of these) n
groups_inside [] n l = absurd (omega arith)
groups_inside (pos h ∷ hs) n l = groups_inside hs n l
groups_inside (negsuc h ∷ hs) n l = group_inside h n hs (groups_of hs) refl (groups_inside hs n)

pub spells_inside : (hints hints' : Hints) (b : Bool) (n : ℕ) → b ≡ false → 0 < length hints.groups → hints'.prefix ≡ hints.prefix → hints'.groups ≡ with_hint hints.groups n → SpellsMore hints hints' (signed b n)
spells_inside hints hints' true n t some p q these s = absurd (cc)
spells_inside hints hints' false n t some p q these s =
    let there : 0 < length (groups_of these) = omega (arith, ap length s.1) in (
      prefix_inside these n there ∙ s.0 ∙ sym p,
      groups_inside these n there ∙ ap (λ gs. with_hint gs n) s.1 ∙ sym q,
    )

-- numbers stay small
pub with_hint-small : (gs : List Group) (n : ℕ) → IsSmall n → All IsSmallGroup gs → All IsSmallGroup (with_hint gs n)
with_hint-small [] n s all = all
with_hint-small (g ∷ []) n s all =
    let first = All-head IsSmallGroup g [] all in
    All-cons IsSmallGroup (g.0, g.1 ++ n ∷ []) [] (first.0, All-push IsSmall g.1 n first.1 s) (All-tail IsSmallGroup g [] all)
with_hint-small (g ∷ k ∷ gs) n s all =
    All-cons IsSmallGroup g (with_hint (k ∷ gs) n) (All-head IsSmallGroup g (k ∷ gs) all) (with_hint-small (k ∷ gs) n s (All-tail IsSmallGroup g (k ∷ gs) all))
