-- What a byte adds to a value.
use Rattle.std.proofs.Common.{◌≡◌, ◌≢◌, ◌∙◌, ℕ, zero, suc, ◌+◌, ◌-◌, ◌*◌, ◌^◌, ◌/◌, ◌%◌, ◌==◌, ◌<◌, ◌≤◌, Bool, true, false, refl, sym, ap, length, List, [], ◌∷◌, Some, Ok, Err, arith}
use Rattle.std.specs.Prelude.{nat_lt, pos, negsuc, Result}
use Rattle.sr_base.specs.declared.names.TextKind.TheVariants.{BadNumber, TooWide, Unended}
use Rattle.sr_base.specs.declared.names.TextKind.{TextKind}
use Rattle.sr_base.specs.declared.names.LimitKind.TheVariants as limit
use Rattle.sr_base.specs.declared.names.InputError.TheVariants as error
use Rattle.sr_model.specs.declared.tokens.Word.{Word}
use Rattle.sr_model.specs.declared.tokens.Word.TheVariants as word
use Rattle.sr_model.specs.BinaryTokens.{value_word}
use Rattle.std.proofs.Math.Nat.{pow-suc, one-le-pow, pow-le-pow_right}
use Rattle.std.proofs.lemmas.Bool.Decides.{nat_tests}
use Rattle.sr_base.specs.Contents.{Ending, ended, failed, Contents}
use Rattle.sr_desk.specs.Outside.{Outside, Agrees}
use Rattle.sr_desk.specs.Reader.{Reader}
use Rattle.sr_desk.specs.Next.{remaining, TakesByte, MeetsEnd, MeetsLimit, MeetsFault}
use Rattle.sr_scan.specs.declared.binary.ValueError.{ValueError}
use Rattle.sr_scan.specs.declared.binary.ValueError.TheVariants.{Long, Ends, Limit, Fault}
use Rattle.sr_scan.specs.Binary.{ValueRead, value, long, ends, limited, plus, value_at, reads, misspells, fails, number_by, number_at, token_at}
use Rattle.sr_scan.specs.BinaryLeft.{GivesValue, Counts, GivesBinary, answer_of, end_answer}

pub value_at-small : (most : ℕ) (room : ℕ) (b : ℕ) (bs : List ℕ) → most ≢ 0 → 0 < room → b < 128 → value_at most room (b ∷ bs) ≡ value b bs
value_at-small zero room b bs m r lt = absurd (m refl)
value_at-small (suc m) zero b bs n r lt = absurd (omega arith)
value_at-small (suc m) (suc k) b bs n r lt = let t : nat_lt b 128 ≡ true = grind (arith, nat_tests) in rw t refl

pub value_at-large : (most : ℕ) (room : ℕ) (b : ℕ) (bs : List ℕ) → most ≢ 0 → 0 < room → 128 ≤ b
    → value_at most room (b ∷ bs) ≡ plus (b - 128) 128 (value_at (most - 1) (room - 1) bs)
value_at-large zero room b bs m r le = absurd (m refl)
value_at-large (suc m) zero b bs n r le = absurd (omega arith)
value_at-large (suc m) (suc k) b bs n r le =
    let t : nat_lt b 128 ≡ false = grind (arith, nat_tests) in
    let one : suc m - 1 ≡ m = omega arith in
    let two : suc k - 1 ≡ k = omega arith in
    rw (t, one, two) refl

-- one byte was taken, so many bytes were taken
counted : (old new : Reader) (o : Outside) (b : ℕ) (c : Contents) → TakesByte old new o b → Agrees (o.slot new.slot) c → Counts old new c
counted old new o b c t h =
    let taken : new.taken ≡ old.taken + 1 = ap (λ (r : Reader). r.taken) t.same in
    let len : length (remaining old c) ≡ suc (length (remaining new c)) = ap length (t.bytes c h) in
    omega arith

pub value-small : (old new : Reader) (o : Outside) (b most : ℕ) (c : Contents) → TakesByte old new o b → Agrees (o.slot new.slot) c → most ≢ 0 → b < 128
    → GivesValue most old new c (Ok b)
value-small old new o b most c t h m lt = (
  ap (value_at most (old.limit - old.taken)) (t.bytes c h) ∙ value_at-small most (old.limit - old.taken) b (remaining new c) m (omega (arith, t.room)) lt,
  counted old new o b c t h,
)

value-step : (old mid : Reader) (o : Outside) (b most : ℕ) (c : Contents) → TakesByte old mid o b → Agrees (o.slot mid.slot) c → most ≢ 0 → 128 ≤ b
    → value_at most (old.limit - old.taken) (remaining old c) ≡ plus (b - 128) 128 (value_at (most - 1) (mid.limit - mid.taken) (remaining mid c))
value-step old mid o b most c t h m le =
    let limit : mid.limit ≡ old.limit = ap (λ (r : Reader). r.limit) t.same in
    let taken : mid.taken ≡ old.taken + 1 = ap (λ (r : Reader). r.taken) t.same in
    let room : old.limit - old.taken - 1 ≡ mid.limit - mid.taken = omega arith in
    ap (value_at most (old.limit - old.taken)) (t.bytes c h) ∙ value_at-large most (old.limit - old.taken) b (remaining mid c) m (omega (arith, t.room)) le
    ∙ ap (λ (k : ℕ). plus (b - 128) 128 (value_at (most - 1) k (remaining mid c))) room

pub value-ok : (old mid new : Reader) (o : Outside) (b most v : ℕ) (c : Contents) → TakesByte old mid o b → Agrees (o.slot mid.slot) c → most ≢ 0 → 128 ≤ b
    → GivesValue (most - 1) mid new c (Ok v) → GivesValue most old new c (Ok (b - 128 + 128 * v))
value-ok old mid new o b most v c t h m le given =
    (value-step old mid o b most c t h m le ∙ ap (plus (b - 128) 128) given.0, counted old mid o b c t h ∙ given.1)

pub value-err : (old mid new : Reader) (o : Outside) (b most : ℕ) (c : Contents) (stop : ValueError) → TakesByte old mid o b → Agrees (o.slot mid.slot) c → most ≢ 0 → 128 ≤ b
    → GivesValue (most - 1) mid new c (Err stop) → GivesValue most old new c (Err stop)
value-err old mid new o b most c Long t h m le given = value-step old mid o b most c t h m le ∙ ap (plus (b - 128) 128) given
value-err old mid new o b most c Ends t h m le given =
    (value-step old mid o b most c t h m le ∙ ap (plus (b - 128) 128) given.0, given.1, counted old mid o b c t h ∙ given.2, given.3)
value-err old mid new o b most c Limit t h m le given = value-step old mid o b most c t h m le ∙ ap (plus (b - 128) 128) given
value-err old mid new o b most c Fault t h m le given = (value-step old mid o b most c t h m le ∙ ap (plus (b - 128) 128) given.0, given.1)

value_at-nil : (most room : ℕ) → most ≢ 0 → value_at most room [] ≡ ends
value_at-nil zero room m = absurd (m refl)
value_at-nil (suc k) room m = refl

value_at-over : (most : ℕ) (bytes : List ℕ) → most ≢ 0 → bytes ≢ [] → value_at most 0 bytes ≡ limited
value_at-over zero bytes m ne = absurd (m refl)
value_at-over (suc k) [] m ne = absurd (ne refl)
value_at-over (suc k) (b ∷ bs) m ne = refl

pub value-end : (old new : Reader) (o : Outside) (most : ℕ) (c : Contents) → MeetsEnd old new o → Agrees (o.slot new.slot) c → most ≢ 0 → GivesValue most old new c (Err Ends)
value-end old new o most c t h m =
    let b = t.bytes c h in
    let left : remaining new c ≡ remaining old c = rw t.same refl in
    let taken : new.taken ≡ old.taken = ap (λ (r : Reader). r.taken) t.same in
    let same : length (remaining new c) ≡ length (remaining old c) = ap length left in
    (ap (value_at most (old.limit - old.taken)) b.0 ∙ value_at-nil most (old.limit - old.taken) m, left ∙ b.0, omega arith, b.1)

pub value-limit : (old new : Reader) (o : Outside) (most : ℕ) (c : Contents) → MeetsLimit old new o → Agrees (o.slot new.slot) c → most ≢ 0 → GivesValue most old new c (Err Limit)
value-limit old new o most c t h m =
    let room : old.limit - old.taken ≡ 0 = omega (arith, t.taken) in
    ap (λ (k : ℕ). value_at most k (remaining old c)) room ∙ value_at-over most (remaining old c) m (t.bytes c h)

pub value-fault : (old new : Reader) (o : Outside) (most : ℕ) (c : Contents) → MeetsFault old new o → Agrees (o.slot new.slot) c → most ≢ 0 → GivesValue most old new c (Err Fault)
value-fault old new o most c t h m =
    let b = t.bytes c h in (ap (value_at most (old.limit - old.taken)) b.0 ∙ value_at-nil most (old.limit - old.taken) m, b.1)

pub below-first : (most b : ℕ) → most ≢ 0 → b < 128 → b < 128 ^ most
below-first zero b m lt = absurd (m refl)
below-first (suc k) b m lt =
    let e : 128 ^ suc k ≡ 128 ^ k * 128 = pow-suc 128 k in
    let some : 1 ≤ 128 ^ k = one-le-pow k 128 (omega arith) in
    omega arith

pub below-more : (most b v : ℕ) → most ≢ 0 → 128 ≤ b → b < 256 → v < 128 ^ (most - 1) → b - 128 + 128 * v < 128 ^ most
below-more zero b v m le lt h = absurd (m refl)
below-more (suc k) b v m le lt h =
    let one : suc k - 1 ≡ k = omega arith in
    let small : v < 128 ^ k = rw one at h in
    let e : 128 ^ suc k ≡ 128 ^ k * 128 = pow-suc 128 k in
    omega arith

pub ten-wide : (most v : ℕ) → most ≤ 10 → v < 128 ^ most → v < 2 ^ 70
ten-wide most v le lt =
    let most_le : 128 ^ most ≤ 128 ^ 10 = let pos : 0 < 128 = omega arith in pow-le-pow_right pos le in
    omega arith

-- what a value of 64 bits says, by the steps of the code
pub word-one : value_word 1 ≡ Err BadNumber
word-one = refl

pub word-even : (v : ℕ) → v < 2 ^ 64 → v % 2 ≡ 0 → value_word v ≡ Ok (word.Number (pos (v / 2)))
word-even v lt even =
    let t : (v % 2 == 1) ≡ false = grind (arith, nat_tests) in
    let half : nat_lt (v / 2) (2 ^ 63) ≡ true = grind (arith, nat_tests) in
    rw (t, half) refl

pub word-odd : (v : ℕ) → v < 2 ^ 64 → v % 2 ≢ 0 → v ≢ 1 → value_word v ≡ Ok (word.Number (negsuc (v / 2 - 1)))
word-odd v lt odd some =
    let t : (v % 2 == 1) ≡ true = grind (arith, nat_tests) in
    let size : (v / 2 == 0) ≡ false = grind (arith, nat_tests) in
    let half : nat_lt (v / 2) (2 ^ 63) ≡ true = grind (arith, nat_tests) in
    rw (t, size, half) refl

pub word-wide : (v : ℕ) → 2 ^ 64 ≤ v → value_word v ≡ Err TooWide
word-wide v le =
    let size : (v / 2 == 0) ≡ false = grind (arith, nat_tests) in
    let half : nat_lt (v / 2) (2 ^ 63) ≡ false = grind (arith, nat_tests) in
    go (v % 2 == 1) refl size half
  where
    go : (t : Bool) → (v % 2 == 1) ≡ t → (v / 2 == 0) ≡ false → nat_lt (v / 2) (2 ^ 63) ≡ false → value_word v ≡ Err TooWide
    go true t size half = rw (t, size, half) refl
    go false t size half = rw (t, half) refl

-- a number by its value
token_by : (f : Ending) (room place : ℕ) (bytes : List ℕ) (r : ValueRead) → value_at 10 room bytes ≡ r → r ≢ ends → token_at f false room place bytes ≡ number_at f place (place + length bytes) r
token_by f room place [] r is ne = absurd (ne (sym is))
token_by f room place (b ∷ bs) r is ne = ap (number_at f place (place + length (b ∷ bs))) is

pub number-value : (old new : Reader) (c : Contents) (v : ℕ) → GivesValue 10 old new c (Ok v) → GivesBinary false old new c (answer_of old.taken (value_word v))
number-value old new c v gives = by (value_word v) refl
  where
    this : token_at c.ending false (old.limit - old.taken) old.taken (remaining old c) ≡ number_by old.taken (remaining new c) (value_word v)
    this = token_by c.ending (old.limit - old.taken) old.taken (remaining old c) (value v (remaining new c)) gives.0 (λ e. cc)

    by : (w : Result Word TextKind) → value_word v ≡ w → GivesBinary false old new c (answer_of old.taken w)
    by (Ok w) e = (this ∙ ap (number_by old.taken (remaining new c)) e, gives.1)
    by (Err k) e = this ∙ ap (number_by old.taken (remaining new c)) e

pub number-long : (old new : Reader) (c : Contents) → GivesValue 10 old new c (Err Long) → GivesBinary false old new c (Err (error.Text TooWide old.taken))
number-long old new c gives = token_by c.ending (old.limit - old.taken) old.taken (remaining old c) long gives (λ e. cc)

pub number-limit : (old new : Reader) (c : Contents) → GivesValue 10 old new c (Err Limit) → GivesBinary false old new c (Err (error.Limit limit.Bytes))
number-limit old new c gives = token_by c.ending (old.limit - old.taken) old.taken (remaining old c) limited gives (λ e. cc)

pub number-fault : (old new : Reader) (c : Contents) → GivesValue 10 old new c (Err Fault) → GivesBinary false old new c (Err error.Source)
number-fault old new c gives = ap (λ (f : Ending). token_at f false (old.limit - old.taken) old.taken (remaining old c)) gives.1 ∙ at (remaining old c) gives.0
  where
    at : (bytes : List ℕ) → value_at 10 (old.limit - old.taken) bytes ≡ ends → token_at failed false (old.limit - old.taken) old.taken bytes ≡ fails
    at [] e = refl
    at (b ∷ bs) e = ap (number_at failed old.taken (old.taken + length (b ∷ bs))) e

pub number-end : (old new : Reader) (c : Contents) → GivesValue 10 old new c (Err Ends) → GivesBinary false old new c (end_answer old.taken new.taken)
number-end old new c gives = at (remaining old c) refl
  where
    room : ℕ
    room = old.limit - old.taken

    none : length (remaining new c) ≡ 0
    none = ap length gives.1

    at : (bytes : List ℕ) → remaining old c ≡ bytes → GivesBinary false old new c (end_answer old.taken new.taken)
    at [] e =
        let size : length (remaining old c) ≡ 0 = ap length e in
        let same : (old.taken == new.taken) ≡ true = let sum = gives.2 in grind (arith, nat_tests, sum, size, none) in
        rw same (
          ap (λ (f : Ending). token_at f false room old.taken (remaining old c)) gives.3 ∙ ap (token_at ended false room old.taken) e
              ∙ ap (reads (record { place = old.taken; word = word.End })) (sym gives.1),
          gives.2,
        )
    at (b ∷ bs) e =
        let size : length (remaining old c) ≡ suc (length bs) = ap length e in
        let sum : new.taken ≡ old.taken + suc (length bs) = let all = gives.2 in omega (arith, all, size, none) in
        let same : (old.taken == new.taken) ≡ false = grind (arith, nat_tests, sum) in
        let value_is : value_at 10 room (b ∷ bs) ≡ ends = sym (ap (value_at 10 room) e) ∙ gives.0 in
        rw same (
        ap (λ (f : Ending). token_at f false room old.taken (remaining old c)) gives.3 ∙ ap (token_at ended false room old.taken) e
        ∙ ap (number_at ended old.taken (old.taken + length (b ∷ bs))) value_is
        ∙ ap (misspells Unended) (sym sum)
        )
