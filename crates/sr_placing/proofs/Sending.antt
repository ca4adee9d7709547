-- What was sent of a file when it ends.
use Rattle.std.proofs.Common.{◌≡◌, ℕ, true, false, List, [], ◌++◌, sym, ◌∙◌, ap, subst, append-nil}
use Rattle.std.specs.Prelude.{Result, Ok, Err, OnOk, OnErr}
use Rattle.sr_desk.specs.Outside.{Outside, OnlyWrites, HasCause}
use Rattle.sr_desk.specs.Calls.{Sends, SendsPrefix}
use Rattle.sr_placing.specs.Sinking.{FileState, FilePuts, SendsAll}
use Rattle.sr_placing.specs.SinkLaws.{file_joined}

file_sent : {E : Type 0} (s : FileState) (a : Outside) (u : FileState) (c : Outside) (x : List ℕ) (r : Result (Unit {0}) E) → FilePuts s a u c x → s.buffered ≡ [] → s.failed ≡ false
    → OnOk r ((u.failed ≡ false) × (u.buffered ≡ [])) → OnErr r (u.failed ≡ true) → SendsAll s.slot a c x r × HasCause s.slot a c r
file_sent s a u c x (Ok v) p none well ok err =
    let sent = p.goes_on well ok.0 in
    let all : x ≡ sent.0 = ap (λ l. l ++ x) (sym none) ∙ sent.2 ∙ ap (λ l. sent.0 ++ l) ok.1 ∙ append-nil sent.0 in
    (subst (λ l. Sends (a.slot s.slot) (c.slot s.slot) l) (sym all) sent.1, tt)
file_sent s a u c x (Err e) p none well ok err =
    let failed = p.fails well err in
    (subst (λ l. SendsPrefix (a.slot s.slot) (c.slot s.slot) (l ++ x)) none failed.0, failed.1)

-- what was put into an empty buffer, and then the rest of it was sent
pub file_ended : {E : Type 0} (n : ℕ) (s : FileState) (a : Outside) (t : FileState) (b : Outside) (u : FileState) (c : Outside) (x : List ℕ) (r : Result (Unit {0}) E) → s ≡ record { slot = n; buffered = []; failed = false }
    → FilePuts s a t b x → FilePuts t b u c [] → OnOk r ((u.failed ≡ false) × (u.buffered ≡ [])) → OnErr r (u.failed ≡ true)
    → SendsAll n a c x r × HasCause n a c r × OnlyWrites n a c
file_ended n s a t b u c x r is p q ok err =
    let both : FilePuts s a u c x = subst (λ l. FilePuts s a u c l) (append-nil x) (file_joined s a t b u c x [] p q) in
    let number : s.slot ≡ n = ap (λ f. f.slot) is in
    let sent = file_sent s a u c x r both (ap (λ f. f.buffered) is) (ap (λ f. f.failed) is) ok err in
    (subst (λ m. SendsAll m a c x r) number sent.0, subst (λ m. HasCause m a c r) number sent.1, subst (λ m. OnlyWrites m a c) number both.only)
