-- One call that reads after another, and bytes at hand that are taken.
use Rattle.std.proofs.Common.{◌≡◌, ◌∙◌, ℕ, ◌+◌, ◌-◌, ◌≤◌, Bool, false, refl, sym, ap, subst, List, ◌++◌, length, take, drop, arith, append_assoc, length-take}
use Rattle.std.proofs.lemmas.List.{take-append-drop, take-take, drop-append-le}
use Rattle.sr_base.specs.Contents.{Contents}
use Rattle.sr_desk.specs.Outside.{Outside, Agrees}
use Rattle.sr_desk.specs.Reader.{Reader, buffered, skipped}
use Rattle.sr_desk.specs.Next.{Stands, Reads, remaining}
use Rattle.sr_desk.proofs.BufferLemmas.{drop-drop}
use Rattle.sr_desk.proofs.ReaderLemmas.{Reads-skipped}
use Rattle.sr_scan.specs.Machine.{Skips}

-- contents that agree after a call agreed before it
pub agreed : {a b : Reader} {o p : Outside} {f : Bool} {c : Contents} → Reads a b o p f → Agrees (p.slot b.slot) c → Agrees (o.slot a.slot) c
agreed {a} {b} {o} {p} {f} {c} x h = x.agrees c (subst (λ (n : ℕ). Agrees (p.slot n) c) x.same.slot h)

-- the same, by what the answer is
pub Reads-as : {a b : Reader} {o p : Outside} {f g : Bool} → f ≡ g → Reads a b o p f → Reads a b o p g
Reads-as {a} {b} {o} {p} e x = subst (λ (t : Bool). Reads a b o p t) e x

-- some bytes at hand are taken
pub Reads-skips : (r new : Reader) (o : Outside) → Stands r o → Skips r new → Reads r new o o false
Reads-skips r new o s k = rw k.same (Reads-skipped k.count k.within s)

drop_front : (xs ys : List ℕ) (n : ℕ) → n ≤ length xs → drop n (xs ++ ys) ≡ drop n xs ++ ys
drop_front xs ys n le = drop-append-le n xs ys le

-- what remains behind bytes at hand
pub skips_ahead : (r : Reader) (c : Contents) (more : List ℕ) (n : ℕ) → n ≤ length (buffered r) → remaining r c ≡ r.ahead ++ more
    → remaining (skipped r n) c ≡ (skipped r n).ahead ++ more
skips_ahead r c more n le is =
    let fits : n ≤ length r.ahead = omega (arith, simp length-take at le) in
    sym (drop-drop r.taken n c.bytes) ∙ ap (drop n) is ∙ drop_front r.ahead more n fits

-- what remains, by the bytes at hand that are taken
pub skips_remaining : (r : Reader) (c : Contents) (more : List ℕ) (n : ℕ) → n ≤ length (buffered r) → remaining r c ≡ r.ahead ++ more
    → remaining r c ≡ take n (buffered r) ++ remaining (skipped r n) c
skips_remaining r c more n le is =
    let short : n ≤ r.limit - r.taken = omega (arith, simp length-take at le) in
    let left : remaining (skipped r n) c ≡ drop n r.ahead ++ more = skips_ahead r c more n le is in
    let split : take n r.ahead ++ drop n r.ahead ≡ r.ahead = take-append-drop n r.ahead in
    let front : take n (buffered r) ≡ take n r.ahead = take-take n (r.limit - r.taken) r.ahead short in
    is ∙ ap (λ (l : List ℕ). l ++ more) (sym split) ∙ append_assoc (take n r.ahead) (drop n r.ahead) more
    ∙ ap (λ (l : List ℕ). l ++ (drop n r.ahead ++ more)) (sym front) ∙ ap (λ (l : List ℕ). take n (buffered r) ++ l) (sym left)

-- no byte is taken
pub skipped-none : (r : Reader) → skipped r 0 ≡ r
skipped-none r = let none : r.taken + 0 ≡ r.taken = omega arith in rw none refl

pub skips_none : (r : Reader) → Skips r r
skips_none r = record { count = 0; within = omega arith; same = sym (skipped-none r) }
