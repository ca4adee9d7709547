-- One call after another.
use Rattle.std.proofs.Math.Seq.{take-length}
use Rattle.std.proofs.Common.{◌≡◌, ℕ, ◌==◌, false, zero, suc, sym, Option, None, ◌-◌, length-drop, List, [], ◌++◌, take, drop, length, IsTrue, Some, refl, ◌∙◌, ap, arith, append_assoc, append-nil, ◌≤◌}
use Rattle.std.proofs.lemmas.Bool.Decides.{nat_tests}
use Rattle.std.proofs.lemmas.List.{take-append-drop}
use Rattle.sr_desk.specs.Outside.{Outside, SlotState, Rose, OnlyReads, OnlyWrites, can_write}
use Rattle.sr_base.specs.Contents as contents
use Rattle.sr_desk.specs.LastReads.{ending_of}
use Rattle.sr_desk.specs.declared.last_read.LastRead.{LastRead}
use Rattle.sr_desk.specs.Calls.{Sends, Moves, ending_after}

pub OnlyReads-refl : (n : ℕ) (o : Outside) → OnlyReads n o o
OnlyReads-refl n o = record { begun = refl; file = refl; elsewhere = λ k ne. refl; later = omega arith; slot = refl; source = λ bytes h. h; ended = λ h. h }

pub OnlyReads-trans : {n : ℕ} {a b c : Outside} → OnlyReads n a b → OnlyReads n b c → OnlyReads n a c
OnlyReads-trans {n} {a} {b} {c} x y = record {
  begun = y.begun ∙ x.begun;
  file = y.file ∙ x.file;
  elsewhere = λ k ne. y.elsewhere k ne ∙ x.elsewhere k ne;
  later = omega (arith, x.later, y.later);
  slot = y.slot ∙ ap (λ (s : SlotState). record s { given = (c.slot n).given; ending = (c.slot n).ending; left = (c.slot n).left; faults = (c.slot n).faults }) x.slot;
  source = λ bytes h. y.source bytes (x.source bytes h);
  ended = λ h. y.ended (x.ended h);
}

pub OnlyWrites-refl : (n : ℕ) (o : Outside) → OnlyWrites n o o
OnlyWrites-refl n o = record { begun = refl; file = record { output = λ e. refl; named = λ own other e ne. refl }; elsewhere = λ k ne. refl; later = omega arith; slot = refl; finished = λ e. e }

pub OnlyWrites-trans : {n : ℕ} {a b c : Outside} → OnlyWrites n a b → OnlyWrites n b c → OnlyWrites n a c
OnlyWrites-trans {n} {a} {b} {c} x y = record {
  begun = y.begun ∙ x.begun;
  file = record {
    output = λ e. y.file.output e ∙ x.file.output e;
    named = λ own other e ne. y.file.named own other (ap (λ (s : SlotState). s.writes_to) x.slot ∙ e) ne ∙ x.file.named own other e ne;
  };
  elsewhere = λ k ne. y.elsewhere k ne ∙ x.elsewhere k ne;
  later = omega (arith, x.later, y.later);
  slot = y.slot ∙ ap (λ (s : SlotState). record s { sent = (c.slot n).sent; written = (c.slot n).written; finished = (c.slot n).finished; faults = (c.slot n).faults }) x.slot;
  finished = λ e. x.finished (y.finished e);
}

pub Sends-none : (a : SlotState) → Sends a a []
Sends-none a = record { sent = simp append-nil; written = λ bytes h. h ∙ simp append-nil }

pub Sends-trans : {a b c : SlotState} {xs ys : List ℕ} → Sends a b xs → Sends b c ys → Sends a c (xs ++ ys)
Sends-trans {a} {b} {c} {xs} {ys} x y = record {
  sent = y.sent ∙ ap (λ (l : List ℕ). l ++ ys) x.sent ∙ append_assoc a.sent xs ys;
  written = λ bytes h. y.written (bytes ++ xs) (x.written bytes h) ∙ ap (λ (l : List ℕ). Some l) (append_assoc bytes xs ys);
}

-- what was sent, and the next piece of the rest
pub sent_more : (all sent rest : List ℕ) (k : ℕ) → all ≡ sent ++ rest → all ≡ sent ++ take k rest ++ take (length rest - k) (drop k rest)
sent_more all sent rest k e =
    let whole : take (length rest - k) (drop k rest) ≡ drop k rest = rw (← length-drop k rest) (take-length (drop k rest)) in
    e ∙ rw (whole, append_assoc, take-append-drop) refl

pub can_write-kept : {n : ℕ} {a b : Outside} → OnlyWrites n a b → IsTrue (can_write a n) → IsTrue (can_write b n)
can_write-kept {n} {a} {b} x h = rw (ap (λ (s : SlotState). s.writes) x.slot) h

-- a slot that was begun for reading stays so
pub reads-kept : {n m : ℕ} {a b : Outside} → OnlyReads n a b → m ≡ n → IsTrue (a.slot n).reads → IsTrue (b.slot m).reads
reads-kept {n} {m} {a} {b} x e h = rw (e, ap (λ (s : SlotState). s.reads) x.slot) h

-- a rise of a count is one of all that came before and comes after
pub Rose-after : (a b c : ℕ) → a ≤ b → Rose b c → Rose a c
Rose-after a b c le r = omega arith

pub Rose-before : (a b c : ℕ) → Rose a b → b ≤ c → Rose a c
Rose-before a b c r le = omega arith

-- where the last read met the end nothing is left
pub none_left : (old new : Option (List ℕ)) (l : LastRead) (piece : List ℕ) (n : ℕ) → ending_of l ≡ ending_after n piece → Moves old new n piece
    → ending_of l ≡ Some contents.ended → (left : List ℕ) → new ≡ Some left → left ≡ []
none_left old new l piece n ends m e left h = go n (length piece) refl refl
  where
    go : (k size : ℕ) → n ≡ k → length piece ≡ size → left ≡ []
    go zero zero is long = let bad : None ≡ Some contents.ended = rw (is, long) at (sym ends ∙ e) in cc
    go zero (suc size) is long = m.none left h (omega arith) is
    go (suc k) size is long =
        let no : (n == 0) ≡ false = grind (arith, nat_tests) in
        let bad : None ≡ Some contents.ended = rw no at (sym ends ∙ e) in cc
