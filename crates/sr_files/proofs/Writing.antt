-- From the calls on a file that is written to what is left.
use Rattle.std.proofs.Common.{◌≡◌, ◌∙◌, inl, inr, ℕ, List, [], ◌++◌, Some, Ok, Err, sym, ap, subst, arith}
use Rattle.std.specs.Prelude.{Result}
use Rattle.std.proofs.lemmas.List.{append-nil}
use Rattle.sr_desk.specs.Outside.{Outside, SlotState, Rose, OnlyWrites}
use Rattle.sr_desk.specs.Calls.{Sends, SendsPrefix, BeginsWrite, Finishes}
use Rattle.sr_desk.specs.declared.slot.Slot.{Slot}
use Rattle.sr_files.specs.Written.{OnlyWritesNext, IsWritten, IsCutOff}
use Rattle.sr_files.proofs.Reading.{later_rose}

-- the file couldn't be begun
pub not_begun : {E : Type 0} (name bytes : List ℕ) (old new : Outside) (e : E) → BeginsWrite {E = E} old new name (Err e) → Rose (old.slot old.begun).faults (new.slot old.begun).faults
    → IsCutOff name bytes old new
not_begun {E} name bytes old new e b rose = record {
  only = record {
    begun = b.begun;
    named = ap (λ (s : SlotState). s.writes_to) b.slot;
    elsewhere = b.elsewhere;
    later = b.later;
    file = b.file;
  };
  cut = inl b.slot;
  rose = rose;
}

module _ {E : Type 0} (name : List ℕ) (s : Slot) (o0 o1 : Outside) (b : BeginsWrite {E = E} o0 o1 name (Ok s)) where
  sent_from : (k : SlotState) (bytes : List ℕ) → Sends (o1.slot o0.begun) k bytes → k.sent ≡ bytes
  sent_from k bytes h = h.sent ∙ ap (λ (x : SlotState). x.sent ++ bytes) b.slot.0

  named : (o1.slot o0.begun).writes_to ≡ Some name
  named = ap (λ (x : SlotState). x.writes_to) b.slot.0

  only_next : (o2 : Outside) → OnlyWrites o0.begun o1 o2 → OnlyWritesNext name o0 o2
  only_next o2 w = record {
    begun = w.begun ∙ b.begun;
    named = ap (λ (x : SlotState). x.writes_to) w.slot ∙ named;
    elsewhere = λ k ne. w.elsewhere k ne ∙ b.elsewhere k ne;
    later = omega (arith, w.later, b.later);
    file = λ other ne. w.file.named name other named ne ∙ b.file other ne;
  }

  here : (P : ℕ → Type 0) → P s.number → P o0.begun
  here P h = subst P b.number h

  -- a write failed
  pub write_failed : (bytes : List ℕ) (o2 : Outside) → OnlyWrites s.number o1 o2 → SendsPrefix (o1.slot s.number) (o2.slot s.number) bytes
      → Rose (o1.slot s.number).faults (o2.slot s.number).faults → IsCutOff name bytes o0 o2
  write_failed bytes o2 only sends rose =
      let w : OnlyWrites o0.begun o1 o2 = here (λ n. OnlyWrites n o1 o2) only in
      let p : SendsPrefix (o1.slot o0.begun) (o2.slot o0.begun) bytes = here (λ n. SendsPrefix (o1.slot n) (o2.slot n) bytes) sends in
      record {
        only = only_next o2 w;
        cut = inr (p.1.0, p.1.1 ∙ ap (λ (f : List ℕ). f ++ p.1.0) (sym (sent_from (o2.slot o0.begun) p.0 p.1.2)));
        rose = later_rose (o0.slot o0.begun).faults (o1.slot o0.begun).faults (o2.slot o0.begun).faults b.later (here (λ n. Rose (o1.slot n).faults (o2.slot n).faults) rose);
      }

  module _ (bytes : List ℕ) (o2 o3 : Outside) (only : OnlyWrites s.number o1 o2) (sends : Sends (o1.slot s.number) (o2.slot s.number) bytes) where
    w : OnlyWrites o0.begun o1 o2
    w = here (λ n. OnlyWrites n o1 o2) only

    sent : (o2.slot o0.begun).sent ≡ bytes
    sent = sent_from (o2.slot o0.begun) bytes (here (λ n. Sends (o1.slot n) (o2.slot n) bytes) sends)

    next_of : {r : Result (Unit {0}) E} → Finishes o0.begun o2 o3 r → OnlyWritesNext name o0 o3
    next_of f = record {
      begun = f.begun ∙ (only_next o2 w).begun;
      named = ap (λ (x : SlotState). x.writes_to) f.slot ∙ (only_next o2 w).named;
      elsewhere = λ k ne. f.elsewhere k ne ∙ (only_next o2 w).elsewhere k ne;
      later = omega (arith, f.later, (only_next o2 w).later);
      file = λ other ne. ap (λ g. g other) f.file ∙ (only_next o2 w).file other ne;
    }

    sent_at_end : {r : Result (Unit {0}) E} → Finishes o0.begun o2 o3 r → (o3.slot o0.begun).sent ≡ bytes
    sent_at_end f = ap (λ (x : SlotState). x.sent) f.slot ∙ sent

    -- all was written
    pub file_written : (u : Unit {0}) → Finishes {E = E} s.number o2 o3 (Ok u) → IsWritten name bytes o0 o3
    file_written u f =
        let at : Finishes {E = E} o0.begun o2 o3 (Ok u) = here (λ n. Finishes {E = E} n o2 o3 (Ok u)) f in
        record { only = next_of at; sent = sent_at_end at; finished = at.finished }

    -- it couldn't be finished
    pub finish_failed : (e : E) → Finishes {E = E} s.number o2 o3 (Err e) → Rose (o2.slot s.number).faults (o3.slot s.number).faults → IsCutOff name bytes o0 o3
    finish_failed e f rose =
        let at : Finishes {E = E} o0.begun o2 o3 (Err e) = here (λ n. Finishes {E = E} n o2 o3 (Err e)) f in
        record {
          only = next_of at;
          cut = inr ([], sym (append-nil bytes) ∙ ap (λ (f : List ℕ). f ++ []) (sym (sent_at_end at)));
          rose = later_rose (o0.slot o0.begun).faults (o2.slot o0.begun).faults (o3.slot o0.begun).faults (only_next o2 w).later (here (λ n. Rose (o2.slot n).faults (o3.slot n).faults) rose);
        }
