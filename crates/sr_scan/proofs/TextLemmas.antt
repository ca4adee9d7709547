-- What one call of a reader does to the tokens that are left.
use Rattle.std.proofs.Common.{◌≡◌, ◌≢◌, ℕ, zero, suc, ◌+◌, ◌-◌, ◌<◌, true, false, List, [], ◌∷◌, Option, Some, None, Ok, Err, refl, sym, ◌∙◌, ap, subst, arith}
use Rattle.sr_base.specs.Contents.{Ending, ended, failed, Contents}
use Rattle.sr_base.specs.declared.names.InputError.{InputError}
use Rattle.sr_desk.specs.Outside.{Outside, Agrees}
use Rattle.sr_desk.specs.Reader.{Reader}
use Rattle.sr_desk.specs.Next.{remaining, TakesByte, MeetsEnd, Next, is_read_fault}
use Rattle.sr_desk.specs.declared.reader.ReadError.{ReadError}
use Rattle.sr_desk.specs.declared.reader.ReadError.TheVariants as stop
use Rattle.sr_scan.specs.declared.lexeme.Lexeme.{Lexeme}
use Rattle.sr_scan.specs.declared.lexeme.Gap.{Gap}
use Rattle.sr_scan.specs.Lexeme.{begun, word_of, gap_at, gap_after, extended}
use Rattle.sr_model.specs.Words.{is_white}
use Rattle.sr_model.specs.Tokens.{Tokens, finished, over, lost, judged}
use Rattle.sr_scan.specs.Machine.{Mode, between, within, begins, moved, told, last_told, texts, texts_in, machine_left}
use Rattle.sr_scan.specs.Left.{RefusesToken, error_of, is_source}

pub texts-cons : (e : Ending) (m : Mode) (room : ℕ) (place : ℕ) (b : ℕ) (bs : List ℕ) → 0 < room
    → texts e m room place (b ∷ bs) ≡ told m b (texts e (moved m b place) (room - 1) (place + 1) bs)
unfolding texts
texts-cons e m zero place b bs lt = absurd (omega arith)
texts-cons e m (suc k) place b bs lt = refl

pub texts-nil : (e : Ending) (m : Mode) (room : ℕ) (place : ℕ) → texts e m room place [] ≡ last_told e m place
unfolding texts
texts-nil e m room place = refl

pub texts-over : (e : Ending) (m : Mode) (place : ℕ) (bytes : List ℕ) → bytes ≢ [] → texts e m 0 place bytes ≡ over
unfolding texts
texts-over e m place [] ne = absurd (ne refl)
texts-over e m place (b ∷ bs) ne = refl

-- an error of the reader, and of what reads tokens
pub same_fault : (A : Type 0) (s : ReadError) → is_read_fault {T = A} (Err s) ≡ is_source (error_of s)
same_fault A stop.Fault = refl
same_fault A stop.Limit = refl

-- a byte was taken: the tokens are those that it told, and then those that are left
pub taken_byte : (old new : Reader) (o : Outside) (b : ℕ) (c : Contents) → TakesByte old new o b → Agrees (o.slot new.slot) c
    → (m : Mode) → texts_in m old c ≡ told m b (texts_in (moved m b old.taken) new c)
taken_byte old new o b c t h m =
    let limit : new.limit ≡ old.limit = ap (λ (r : Reader). r.limit) t.same in
    let taken : new.taken ≡ old.taken + 1 = ap (λ (r : Reader). r.taken) t.same in
    let room : old.limit - old.taken - 1 ≡ new.limit - new.taken = omega arith in
    let some : 0 < old.limit - old.taken = omega (arith, t.room) in
    ap (texts c.ending m (old.limit - old.taken) old.taken) (t.bytes c h)
    ∙ texts-cons c.ending m (old.limit - old.taken) old.taken b (remaining new c) some
    ∙ ap (λ (k : ℕ). told m b (texts c.ending (moved m b old.taken) k (old.taken + 1) (remaining new c))) room
    ∙ ap (λ (k : ℕ). told m b (texts c.ending (moved m b old.taken) (new.limit - new.taken) k (remaining new c))) (sym taken)

-- the end was met
pub met_end : (old new : Reader) (o : Outside) (c : Contents) → MeetsEnd old new o → Agrees (o.slot new.slot) c
    → (m : Mode) → texts_in m old c ≡ last_told ended m old.taken
met_end old new o c t h m =
    let b = t.bytes c h in
    ap (texts c.ending m (old.limit - old.taken) old.taken) b.0 ∙ texts-nil c.ending m (old.limit - old.taken) old.taken ∙ ap (λ (e : Ending). last_told e m old.taken) b.1

pub at_end : (old new : Reader) (o : Outside) (c : Contents) → MeetsEnd old new o → Agrees (o.slot new.slot) c
    → (m : Mode) → texts_in m new c ≡ last_told ended m new.taken
at_end old new o c t h m =
    let b = t.bytes c h in
    let left : remaining new c ≡ [] = rw t.same b.0 in
    ap (texts c.ending m (new.limit - new.taken) new.taken) left ∙ texts-nil c.ending m (new.limit - new.taken) new.taken ∙ ap (λ (e : Ending). last_told e m new.taken) b.1

-- the limit was met, or a read failed
pub refused : (old new : Reader) (o : Outside) (c : Contents) (s : ReadError) → Next old new o (Err s) → Agrees (o.slot new.slot) c
    → (m : Mode) → RefusesToken (texts_in m old c) (error_of s)
refused old new o c stop.Limit t h m =
    let room : old.limit - old.taken ≡ 0 = omega (arith, t.taken) in
    ap (λ (k : ℕ). texts c.ending m k old.taken (remaining old c)) room ∙ texts-over c.ending m old.taken (remaining old c) (t.bytes c h)
refused old new o c stop.Fault t h m =
    let b = t.bytes c h in
    ap (texts c.ending m (old.limit - old.taken) old.taken) b.0 ∙ texts-nil c.ending m (old.limit - old.taken) old.taken ∙ ap (λ (e : Ending). last_told e m old.taken) b.1

-- the steps of the loop that passes over a gap
pub gap_goes_on : (old new : Reader) (o : Outside) (b : ℕ) (c : Contents) → TakesByte old new o b → Agrees (o.slot new.slot) c
    → (g h : Gap) → Some h ≡ gap_after g b → texts_in (between g) old c ≡ texts_in (between h) new c
gap_goes_on old new o b c t a g h e =
    let mode : between h ≡ moved (between g) b old.taken = ap (begins old.taken b) e in
    taken_byte old new o b c t a (between g) ∙ ap (λ (m : Mode). texts_in m new c) (sym mode)

pub gap_ends : (old new : Reader) (o : Outside) (b : ℕ) (c : Contents) → TakesByte old new o b → Agrees (o.slot new.slot) c
    → (g : Gap) → None ≡ gap_after g b → texts_in (between g) old c ≡ texts_in (within (new.taken - 1) (begun b)) new c
gap_ends old new o b c t a g e =
    let taken : new.taken ≡ old.taken + 1 = ap (λ (r : Reader). r.taken) t.same in
    let place : old.taken ≡ new.taken - 1 = omega arith in
    let mode : within old.taken (begun b) ≡ moved (between g) b old.taken = ap (begins old.taken b) e in
    taken_byte old new o b c t a (between g) ∙ ap (λ (m : Mode). texts_in m new c) (sym mode)
    ∙ ap (λ (p : ℕ). texts_in (within p (begun b)) new c) place

-- the steps of the loop that reads a token
pub token_goes_on : (old new : Reader) (o : Outside) (b : ℕ) (c : Contents) → TakesByte old new o b → Agrees (o.slot new.slot) c
    → (l : Lexeme) → is_white b ≡ false → (place : ℕ) → texts_in (within place l) old c ≡ texts_in (within place (extended l b)) new c
token_goes_on old new o b c t a l e place = taken_byte old new o b c t a (within place l) ∙ rw e refl

pub token_ends : (old new : Reader) (o : Outside) (b : ℕ) (c : Contents) → TakesByte old new o b → Agrees (o.slot new.slot) c
    → (l : Lexeme) → is_white b ≡ true → (place : ℕ) → texts_in (within place l) old c ≡ judged place (word_of l) (machine_left new c)
token_ends old new o b c t a l e place =
    let last : new.last ≡ Some b = ap (λ (r : Reader). r.last) t.same in
    taken_byte old new o b c t a (within place l) ∙ rw (e, last) refl

-- the same, of what the machine gives for the reader that it began with
pub begins_err : (first old new : Reader) (o : Outside) (c : Contents) (s : ReadError) (m k : Mode) → texts_in k first c ≡ texts_in m old c → Next old new o (Err s) → Agrees (o.slot new.slot) c
    → RefusesToken (texts_in k first c) (error_of s)
begins_err first old new o c s m k same n h = subst (λ (t : Tokens). RefusesToken t (error_of s)) (sym same) (refused old new o c s n h m)

-- the end of the file ends a token
pub end_finishes : (old new : Reader) (o : Outside) (c : Contents) (place : ℕ) (l : Lexeme) → MeetsEnd old new o → Agrees (o.slot new.slot) c
    → texts_in (within place l) old c ≡ judged place (word_of l) (machine_left new c)
end_finishes old new o c place l met h =
    let taken : new.taken ≡ old.taken = ap (λ (r : Reader). r.taken) met.same in
    met_end old new o c met h (within place l) ∙ ap (λ (t : Tokens). judged place (word_of l) t) (ap finished (sym taken) ∙ sym (at_end old new o c met h (between (gap_at new.last))))
