-- The first token of a binary file.
use Rattle.std.proofs.Common.{◌≡◌, ◌∙◌, ℕ, suc, ◌+◌, ◌-◌, ◌<◌, ◌≤◌, true, false, refl, sym, ap, List, [], ◌∷◌, ◌++◌, length, take, Some, None, Ok, Err, arith, length-append}
use Rattle.std.specs.Prelude.{nat_le, ◌==◌, Result}
use Rattle.std.specs.List.{list_any}
use Rattle.std.proofs.lemmas.Bool.Decides.{nat_tests}
use Rattle.std.proofs.lemmas.List.{append-nil, take_all}
use Rattle.std.proofs.Math.Seq.{take-append-add}
use Rattle.sr_base.specs.declared.names.TextKind.{TextKind}
use Rattle.sr_base.specs.declared.names.TextKind.TheVariants.{BadWord, TooWide}
use Rattle.sr_model.specs.declared.tokens.Word.{Word}
use Rattle.sr_base.specs.Contents.{Ending}
use Rattle.sr_model.specs.Tokens.{Tokens, stopped, over, next, ending_at}
use Rattle.sr_model.specs.TextTokens.{Run}
use Rattle.sr_model.specs.BinaryTokens.{is_last, joined, runs_from, number_said, begun, run_said, open_after, said_in, cut_at, binary_from}
use Rattle.sr_model.proofs.Soundness.{by_test}

-- bytes that all have the top bit
abbrev pub go_on : List ℕ → Type 0
go_on hs = list_any is_last hs ≡ false

go_on_first : (h : ℕ) (hs : List ℕ) → go_on (h ∷ hs) → (is_last h ≡ false) × go_on hs
go_on_first h hs g = by_test (is_last h)
    (λ e. let bad = rw e at g in absurd cc)
    (λ e. (e, rw e at g))

-- a run that ends
runs_whole : (place : ℕ) (hs : List ℕ) (b : ℕ) (more : List ℕ) → go_on hs → is_last b ≡ true
    → runs_from place (hs ++ b ∷ more) ≡ record { place = place; bytes = hs ++ b ∷ [] } ∷ runs_from (place + (length hs + 1)) more
runs_whole place [] b more g l = let e : place + 1 ≡ place + (0 + 1) = omega arith in rw (l, e) refl
runs_whole place (h ∷ hs) b more g l =
    let f = go_on_first h hs g in
    let e : place + 1 + (length hs + 1) ≡ place + (suc (length hs) + 1) = omega arith in
    rw f.0 (ap (joined place h) (runs_whole (place + 1) hs b more f.1 l) ∙ ap (λ (k : ℕ). record { place = place; bytes = h ∷ (hs ++ b ∷ []) } ∷ runs_from k more) e)

-- a run that goes on, maybe to the end
runs_open : (place h : ℕ) (hs more : List ℕ) → go_on (h ∷ hs)
    → (x : List ℕ) × (rs : List Run) × (runs_from place ((h ∷ hs) ++ more) ≡ record { place = place; bytes = (h ∷ hs) ++ x } ∷ rs)
runs_open place h [] more g = let f = go_on_first h [] g in rw f.0 (at (runs_from (place + 1) more))
  where
    at : (rest : List Run) → (x : List ℕ) × (rs : List Run) × (joined place h rest ≡ record { place = place; bytes = h ∷ x } ∷ rs)
    at [] = ([], [], refl)
    at (r ∷ rs) = (r.bytes, rs, refl)
runs_open place h (k ∷ hs) more g =
    let f = go_on_first h (k ∷ hs) g in
    let r = runs_open (place + 1) k hs more f.1 in
    (r.0, r.1, rw f.0 (ap (joined place h) r.2))

runs_cut : (place h : ℕ) (hs : List ℕ) → go_on (h ∷ hs) → runs_from place (h ∷ hs) ≡ record { place = place; bytes = h ∷ hs } ∷ []
runs_cut place h [] g = let f = go_on_first h [] g in rw f.0 refl
runs_cut place h (k ∷ hs) g =
    let f = go_on_first h (k ∷ hs) g in
    rw f.0 (ap (joined place h) (runs_cut (place + 1) k hs f.1))

-- the first run, by what it says
abbrev pub with_run : ℕ → ℕ → ℕ → Result Word TextKind → (ℕ → Tokens) → Tokens
with_run lists o place (Ok w) more = next (record { place = place; word = w }) (more (open_after lists o w))
with_run lists o place (Err kind) more = stopped kind place

said_first : (lists o place : ℕ) (bytes : List ℕ) (rs : List Run) (end cut : Tokens) (s : Result Word TextKind) → run_said o bytes ≡ Some s
    → said_in lists o (record { place = place; bytes = bytes } ∷ rs) end cut ≡ with_run lists o place s (λ k. said_in lists k rs end cut)
said_first lists o place bytes rs end cut (Ok w) e = rw e refl
said_first lists o place bytes rs end cut (Err kind) e = rw e refl

with_same : (lists o place : ℕ) (s : Result Word TextKind) (f g : ℕ → Tokens) → ((k : ℕ) → f k ≡ g k) → with_run lists o place s f ≡ with_run lists o place s g
with_same lists o place (Ok w) f g h = ap (next (record { place = place; word = w })) (h (open_after lists o w))
with_same lists o place (Err kind) f g h = refl

all_room : (ending : Ending) (lists o room place : ℕ) (bytes : List ℕ) → nat_le (length bytes) room ≡ true → binary_from ending lists o room place bytes ≡ said_in lists o (runs_from place bytes) (ending_at ending (place + length bytes)) (cut_at ending (place + length bytes))
unfolding binary_from
all_room ending lists o room place bytes e = rw e refl

not_all_room : (ending : Ending) (lists o room place : ℕ) (bytes : List ℕ) → nat_le (length bytes) room ≡ false → binary_from ending lists o room place bytes ≡ said_in lists o (runs_from place (take room bytes)) over over
unfolding binary_from
not_all_room ending lists o room place bytes e = rw e refl

-- a whole run, and what follows
pub binary_first : (ending : Ending) (lists o room place : ℕ) (hs : List ℕ) (b : ℕ) (more : List ℕ) (s : Result Word TextKind) → go_on hs → is_last b ≡ true → length hs + 1 ≤ room → run_said o (hs ++ b ∷ []) ≡ Some s
    → binary_from ending lists o room place (hs ++ b ∷ more) ≡ with_run lists o place s (λ k. binary_from ending lists k (room - (length hs + 1)) (place + (length hs + 1)) more)
binary_first ending lists o room place hs b more s g l le e = by_test (nat_le (length more) (room - (length hs + 1))) whole cut
  where
    size : length (hs ++ b ∷ more) ≡ length hs + 1 + length more
    size = omega (arith, length-append hs (b ∷ more))

    whole : nat_le (length more) (room - (length hs + 1)) ≡ true
        → binary_from ending lists o room place (hs ++ b ∷ more) ≡ with_run lists o place s (λ k. binary_from ending lists k (room - (length hs + 1)) (place + (length hs + 1)) more)
    whole t =
        let f : nat_le (length (hs ++ b ∷ more)) room ≡ true = grind (arith, nat_tests, size) in
        let p : place + length (hs ++ b ∷ more) ≡ place + (length hs + 1) + length more = omega (arith, size) in
        all_room ending lists o room place (hs ++ b ∷ more) f
        ∙ ap (λ rs. said_in lists o rs (ending_at ending (place + length (hs ++ b ∷ more))) (cut_at ending (place + length (hs ++ b ∷ more)))) (runs_whole place hs b more g l)
        ∙ ap (λ (k : ℕ). said_in lists o (record { place = place; bytes = hs ++ b ∷ [] } ∷ runs_from (place + (length hs + 1)) more) (ending_at ending k) (cut_at ending k)) p
        ∙ said_first lists o place (hs ++ b ∷ []) (runs_from (place + (length hs + 1)) more) (ending_at ending (place + (length hs + 1) + length more)) (cut_at ending (place + (length hs + 1) + length more)) s e
        ∙ with_same lists o place s _ _ (λ k. sym (all_room ending lists k (room - (length hs + 1)) (place + (length hs + 1)) more t))

    cut : nat_le (length more) (room - (length hs + 1)) ≡ false
        → binary_from ending lists o room place (hs ++ b ∷ more) ≡ with_run lists o place s (λ k. binary_from ending lists k (room - (length hs + 1)) (place + (length hs + 1)) more)
    cut t =
        let f : nat_le (length (hs ++ b ∷ more)) room ≡ false = grind (arith, nat_tests, size) in
        let left : ℕ = room - (length hs + 1) in
        let split : room ≡ length hs + suc left = omega arith in
        let front : take room (hs ++ b ∷ more) ≡ hs ++ b ∷ take left more = ap (λ (k : ℕ). take k (hs ++ b ∷ more)) split ∙ take-append-add hs (b ∷ more) (suc left) in
        not_all_room ending lists o room place (hs ++ b ∷ more) f
        ∙ ap (λ bs. said_in lists o (runs_from place bs) over over) front
        ∙ ap (λ rs. said_in lists o rs over over) (runs_whole place hs b (take left more) g l)
        ∙ said_first lists o place (hs ++ b ∷ []) (runs_from (place + (length hs + 1)) (take left more)) over over s e
        ∙ with_same lists o place s _ _ (λ k. sym (not_all_room ending lists k left (place + (length hs + 1)) more t))

-- the end of the file, and of what may be read
pub binary_end : (ending : Ending) (lists o room place : ℕ) → binary_from ending lists o room place [] ≡ ending_at ending place
binary_end ending lists o room place =
    let f : nat_le 0 room ≡ true = grind (arith, nat_tests) in
    let e : place + 0 ≡ place = omega arith in
    all_room ending lists o room place [] f ∙ ap (ending_at ending) e

pub binary_over : (ending : Ending) (lists o place b : ℕ) (bs : List ℕ) → binary_from ending lists o 0 place (b ∷ bs) ≡ over
binary_over ending lists o place b bs = let f : nat_le (suc (length bs)) 0 ≡ false = grind (arith, nat_tests) in not_all_room ending lists o 0 place (b ∷ bs) f

-- fewer than ten bytes with the top bit say nothing yet
says_none : (h : ℕ) (hs : List ℕ) → go_on (h ∷ hs) → suc (length hs) < 10 → number_said (take 10 (h ∷ hs)) ≡ None
says_none h hs g n =
    let first : take 10 (h ∷ hs) ≡ h ∷ hs = take_all 10 (h ∷ hs) (omega arith) in
    let ten : (suc (length hs) == 10) ≡ false = grind (arith, nat_tests) in
    ap number_said first ∙ rw (g, ten) refl

-- the bytes that may be read, where the first of them are there
front_of : (room : ℕ) (hs more : List ℕ) → length hs ≤ room → take room (hs ++ more) ≡ hs ++ take (room - length hs) more
front_of room hs more le =
    let split : room ≡ length hs + (room - length hs) = omega arith in
    ap (λ (k : ℕ). take k (hs ++ more)) split ∙ take-append-add hs more (room - length hs)

-- bytes that all have the top bit, where they say that no word follows
binary_stops : (ending : Ending) (lists o room place h : ℕ) (hs more : List ℕ) (kind : TextKind) → go_on (h ∷ hs) → suc (length hs) ≤ room
    → ((x : List ℕ) → run_said o ((h ∷ hs) ++ x) ≡ Some (Err kind))
    → binary_from ending lists o room place ((h ∷ hs) ++ more) ≡ stopped kind place
binary_stops ending lists o room place h hs more kind g le e = by_test (nat_le (length ((h ∷ hs) ++ more)) room) whole cut
  where
    stops : (bs : List ℕ) (end cut : Tokens) → said_in lists o (runs_from place ((h ∷ hs) ++ bs)) end cut ≡ stopped kind place
    stops bs end cut =
        let r = runs_open place h hs bs g in
        ap (λ rs. said_in lists o rs end cut) r.2 ∙ said_first lists o place ((h ∷ hs) ++ r.0) r.1 end cut (Err kind) (e r.0)

    whole : nat_le (length ((h ∷ hs) ++ more)) room ≡ true → binary_from ending lists o room place ((h ∷ hs) ++ more) ≡ stopped kind place
    whole t = all_room ending lists o room place ((h ∷ hs) ++ more) t ∙ stops more (ending_at ending (place + length ((h ∷ hs) ++ more))) (cut_at ending (place + length ((h ∷ hs) ++ more)))

    cut : nat_le (length ((h ∷ hs) ++ more)) room ≡ false → binary_from ending lists o room place ((h ∷ hs) ++ more) ≡ stopped kind place
    cut t =
        not_all_room ending lists o room place ((h ∷ hs) ++ more) t
        ∙ ap (λ bs. said_in lists o (runs_from place bs) over over) (front_of room (h ∷ hs) more le)
        ∙ stops (take (room - suc (length hs)) more) over over

-- where an item begins, one byte is enough
pub binary_begins : (ending : Ending) (lists room place b : ℕ) (bs : List ℕ) → 0 < room
    → binary_from ending lists 0 room place (b ∷ bs) ≡ with_run lists 0 place (begun (b ∷ [])) (λ k. binary_from ending lists k (room - 1) (place + 1) bs)
binary_begins ending lists room place b bs r = by_test (is_last b) (λ l. binary_first ending lists 0 room place [] b bs (begun (b ∷ [])) refl l (omega arith) refl) bad
  where
    bad : is_last b ≡ false → binary_from ending lists 0 room place (b ∷ bs) ≡ with_run lists 0 place (begun (b ∷ [])) (λ k. binary_from ending lists k (room - 1) (place + 1) bs)
    bad l =
        let large : 128 ≤ b = grind (arith, nat_tests) in
        let add : (b == 97) ≡ false = grind (arith, nat_tests) in
        let del : (b == 100) ≡ false = grind (arith, nat_tests) in
        binary_stops ending lists 0 room place b [] bs BadWord (rw l refl) (omega arith) (λ x. rw (add, del) refl) ∙ rw (add, del) refl

-- in an item, ten bytes with the top bit are no number
pub binary_long : (ending : Ending) (lists o room place : ℕ) (hs more : List ℕ) → go_on hs → length hs ≡ 10 → 10 ≤ room → binary_from ending lists (suc o) room place (hs ++ more) ≡ stopped TooWide place
binary_long ending lists o room place [] more g n r = absurd (omega arith)
binary_long ending lists o room place (h ∷ hs) more g n r = binary_stops ending lists (suc o) room place h hs more TooWide g (omega arith) says
  where
    says : (x : List ℕ) → number_said (take 10 ((h ∷ hs) ++ x)) ≡ Some (Err TooWide)
    says x =
        let len : suc (length hs) ≤ 10 = omega arith in
        let left : 10 - suc (length hs) ≡ 0 = omega arith in
        let first : take 10 ((h ∷ hs) ++ x) ≡ h ∷ hs = front_of 10 (h ∷ hs) x len ∙ ap (λ (k : ℕ). (h ∷ hs) ++ take k x) left ∙ append-nil (h ∷ hs) in
        let ten : (suc (length hs) == 10) ≡ true = grind (arith, nat_tests) in
        ap number_said first ∙ rw (g, ten) refl

-- a number that the file or the limit cuts off
pub binary_cut : (ending : Ending) (lists o room place h : ℕ) (hs : List ℕ) → go_on (h ∷ hs) → suc (length hs) < 10 → suc (length hs) ≤ room → binary_from ending lists (suc o) room place (h ∷ hs) ≡ cut_at ending (place + suc (length hs))
binary_cut ending lists o room place h hs g n r =
    let f : nat_le (length (h ∷ hs)) room ≡ true = grind (arith, nat_tests) in
    all_room ending lists (suc o) room place (h ∷ hs) f
    ∙ ap (λ rs. said_in lists (suc o) rs (ending_at ending (place + suc (length hs))) (cut_at ending (place + suc (length hs)))) (runs_cut place h hs g)
    ∙ rw (says_none h hs g n) refl

pub binary_short : (ending : Ending) (lists o place : ℕ) (hs : List ℕ) (b : ℕ) (more : List ℕ) → go_on hs → length hs < 10 → binary_from ending lists (suc o) (length hs) place (hs ++ b ∷ more) ≡ over
binary_short ending lists o place [] b more g n = binary_over ending lists (suc o) place b more
binary_short ending lists o place (h ∷ hs) b more g n =
    let size : length ((h ∷ hs) ++ b ∷ more) ≡ suc (length hs) + suc (length more) = omega (arith, length-append (h ∷ hs) (b ∷ more)) in
    let f : nat_le (length ((h ∷ hs) ++ b ∷ more)) (suc (length hs)) ≡ false = grind (arith, nat_tests, size) in
    let left : suc (length hs) - suc (length hs) ≡ 0 = omega arith in
    not_all_room ending lists (suc o) (suc (length hs)) place ((h ∷ hs) ++ b ∷ more) f
    ∙ ap (λ bs. said_in lists (suc o) (runs_from place bs) over over) (front_of (suc (length hs)) (h ∷ hs) (b ∷ more) (omega arith) ∙ ap (λ (k : ℕ). (h ∷ hs) ++ take k (b ∷ more)) left ∙ append-nil (h ∷ hs))
    ∙ ap (λ rs. said_in lists (suc o) rs over over) (runs_cut place h hs g)
    ∙ rw (says_none h hs g n) refl
