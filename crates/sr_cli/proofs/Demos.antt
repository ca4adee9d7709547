-- What `demo` finds over its two texts.
use Rattle.std.proofs.Common.{◌≡◌, ◌∙◌, inl, inr, ℕ, ◌<◌, ◌≤◌, true, false, List, [], ◌∷◌, ◌++◌, Option, Some, None, refl, sym, ap, subst, arith}
use Rattle.std.specs.Prelude.{IfSome, codes}
use Rattle.sr_base.specs.Limits.{LimitValues}
use Rattle.sr_base.specs.Contents.{Ending, Contents, whole}
use Rattle.sr_base.specs.declared.names.Which.TheVariants as which
use Rattle.sr_desk.specs.Outside.{Outside, SlotState, Agrees, Rose}
use Rattle.sr_sure.specs.SureView.{HasTexts, IsFresh, NeverFails}
use Rattle.sr_emit.specs.declared.outcome.Outcome.{Outcome}
use Rattle.sr_emit.specs.declared.outcome.Outcome.TheVariants as outcome
use Rattle.sr_files.specs.Files.{ReadsFiles, GivesFile}
use Rattle.sr_emit.specs.Status.{is_verified}
use Rattle.sr_emit.specs.declared.counts.Counts.{Counts}
use Rattle.sr_trim.specs.Deciding.{Decision, stops, trims, IsDecided}
use Rattle.sr_trim.specs.Outputs.{WritesTwo, Writes, asked_lsr, asked_core}
use Rattle.sr_trim.specs.Finding.{HasDecidedCause, ReadsTexts, FindsBetween}
use Rattle.sr_cli.specs.Demo.{DemoSaid, formula_text, proof_text, trim_of, HasNoFault, made_outputs, outputs, WritesEach, WritesDemo, FindsDemo, FindsTexts}
use Rattle.sr_cli.proofs.Touched.{Begins, begins_none, begins_more, writes_begin}
use Rattle.sr_cli.proofs.Outputs.{output, each_stops, each_goes}
use Rattle.sr_cli.proofs.Stops.{stops_unverified}

-- a slot that gave nothing agrees with all contents
unread_agrees : (s : SlotState) (c : Contents) → s.given ≡ [] → s.ending ≡ None → Agrees s c
unread_agrees s c given ending = record {
  more = c.bytes;
  bytes = ap (λ (g : List ℕ). g ++ c.bytes) (sym given);
  ending = subst (λ (e : Option Ending). IfSome e (λ x. (c.bytes ≡ []) × (c.ending ≡ x))) (sym ending) tt;
}

same_files : (old new : Outside) → ReadsFiles old new → new.file ≡ old.file
same_files old new (inl r) = r.file
same_files old new (inr r) = r.file

module _ (F P : List ℕ) (old new : Outside) (fresh : IsFresh old) (texts : HasTexts F P old) (before : NeverFails old) (sure : NeverFails new) where
  gives : (n : ℕ) (name bytes : List ℕ) → old.file name ≡ Some bytes → GivesFile n name old new → Agrees (new.slot n) (whole bytes)
  gives n name bytes known g = g.agrees bytes (sure.ending n) (g.known bytes (sure.ending n) known)

  writes_none : (n : ℕ) → ReadsFiles old new → (new.slot n).writes ≡ false
  writes_none n (inl r) = (r.only n).writes ∙ fresh.writes n
  writes_none n (inr r) = (r.only n).writes ∙ fresh.writes n

  -- the count of a slot doesn't rise
  no_rise : {A : Type 0} (n : ℕ) → n < 8 → ReadsFiles old new → Rose (old.slot n).faults (new.slot n).faults → A
  no_rise n low reads rose = let a = before.faults n low (fresh.writes n) in let b = sure.faults n low (writes_none n reads) in absurd (omega (arith, a, b, rose))

  no_fault : (d : Decision) → ReadsFiles old new → HasDecidedCause old new d → HasNoFault d
  no_fault (trims f ds steps) reads h = tt
  no_fault (stops outcome.Verified) reads h = tt
  no_fault (stops (outcome.RejectedStep id x)) reads h = tt
  no_fault (stops (outcome.RejectedLemma id x)) reads h = tt
  no_fault (stops outcome.NoEmptyClause) reads h = tt
  no_fault (stops (outcome.Usage k)) reads h = tt
  no_fault (stops (outcome.Text w k p)) reads h = tt
  no_fault (stops (outcome.Limit w k)) reads h = tt
  no_fault (stops (outcome.SourceFault which.Formula)) reads h = no_rise 0 (omega arith) reads h.0
  no_fault (stops (outcome.SourceFault which.Proof)) reads h = no_rise 1 (omega arith) reads h.0
  no_fault (stops (outcome.SourceFault which.Lsr)) reads h = h
  no_fault (stops (outcome.SourceFault which.Core)) reads h = h
  no_fault (stops (outcome.SourceFault which.Report)) reads h = h
  no_fault (stops (outcome.SinkFault w)) reads h = h
  no_fault (stops (outcome.Helped t)) reads h = tt
  no_fault (stops outcome.NoMemory) reads h = tt

  -- the proof's slot agrees with the proof, also where it isn't begun
  proof_agrees : (name : List ℕ) → old.file name ≡ Some P → ReadsFiles old new → (2 ≤ new.begun → GivesFile 1 name old new) → Agrees (new.slot 1) (whole P)
  proof_agrees name known (inl r) g = subst (λ (s : SlotState). Agrees s (whole P)) (sym (r.others 1 (omega arith))) (unread_agrees (old.slot 1) (whole P) (fresh.given 1) (fresh.ending 1))
  proof_agrees name known (inr r) g = gives 1 name P known (g (omega (arith, r.begun)))

-- what is found over a desk of both texts
pub finds_texts : (lim : LimitValues) (s : DemoSaid) (from_old from_new old new : Outside) (o : Outcome) (k : Counts) → IsFresh from_old
    → HasTexts (formula_text s.holes) (proof_text s.holes) from_old → NeverFails from_old → NeverFails from_new → FindsBetween lim (trim_of s) from_old from_new old new o k
    → FindsTexts lim s old new o k
finds_texts lim s from_old from_new old new o k fresh texts before sure (reads, inl h) = inl h
finds_texts lim s from_old from_new old new o k fresh texts before sure (reads, inr h) =
    let F = formula_text s.holes in
    let P = proof_text s.holes in
    let formula : Agrees (from_new.slot 0) (whole (formula_text s.holes)) = gives F P from_old from_new fresh texts before sure 0 (codes "formula") F texts.formula_file reads.formula in
    let proof : Agrees (from_new.slot 1) (whole (proof_text s.holes)) = proof_agrees F P from_old from_new fresh texts before sure (codes "proof") texts.proof_file reads.reads reads.proof in
    inr (record {
      decision = h.decision;
      decided = record { begun = from_new.begun; decided = h.decided (whole F) (whole P) formula proof };
      sure = no_fault F P from_old from_new fresh texts before sure h.decision reads.reads h.cause;
      writes = h.writes;
      counts = h.counts;
    })

-- the texts are as they were
pub texts_stay : (F P : List ℕ) (s : DemoSaid) (old new : Outside) → HasTexts F P old → ReadsTexts (trim_of s) old new → HasTexts F P new
texts_stay F P s old new texts r =
    let e = same_files old new r.reads in
    record {
      formula_file = ap (λ (f : List ℕ → Option (List ℕ)). f (codes "formula")) e ∙ texts.formula_file;
      proof_file = ap (λ (f : List ℕ → Option (List ℕ)). f (codes "proof")) e ∙ texts.proof_file;
    }

-- two files at most are begun before the formula
pub texts_begin : (lim : LimitValues) (s : DemoSaid) (old new : Outside) (o : Outcome) (k : Counts) → FindsTexts lim s old new o k → Begins 2 old new
texts_begin lim s old new o k (inl h) = begins_more 0 2 old new (omega arith) (begins_none old new h.1)
texts_begin lim s old new o k (inr h) = writes_begin (trim_of s) h.decision old new o h.writes

-- where it isn't verified, nothing more is written
module _ (s : DemoSaid) (old new : Outside) (o : Outcome) (v : is_verified o ≡ false) where
  two_stopped : (lsr core : Option (List ℕ)) → WritesTwo s.lsr lsr s.core core old new o → WritesEach (outputs s lsr core) old new o
  two_stopped lsr core (inl h) =
      each_goes which.Lsr s.lsr lsr (output which.Core s.core core ∷ made_outputs s) old new o h.mid outcome.Verified h.lsr_written refl
      (each_stops which.Core s.core core (made_outputs s) h.mid new o h.core_written v)
  two_stopped lsr core (inr h) = each_stops which.Lsr s.lsr lsr (output which.Core s.core core ∷ made_outputs s) old new o h.0 v

  demo_writes_no_more : (d : Decision) → Writes (trim_of s) d old new o → WritesDemo s d old new o
  demo_writes_no_more (stops x) h = h
  demo_writes_no_more (trims f ds steps) h = two_stopped (asked_lsr (trim_of s) f steps) (asked_core (trim_of s) f steps) h

  pub demo_stopped : (lim : LimitValues) (k : Counts) → FindsTexts lim s old new o k → FindsDemo lim s old new o k
  demo_stopped lim k (inl h) = inl h
  demo_stopped lim k (inr h) = inr (record {
    decision = h.decision;
    decided = h.decided;
    sure = h.sure;
    writes = demo_writes_no_more h.decision h.writes;
    counts = h.counts;
  })

-- where it is, the formula and its proof are written
module _ (lim : LimitValues) (s : DemoSaid) (old mid new : Outside) (found o : Outcome) (v : is_verified found ≡ true) (rest : WritesEach (made_outputs s) mid new o) where
  two_written : (lsr core : Option (List ℕ)) → WritesTwo s.lsr lsr s.core core old mid found → WritesEach (outputs s lsr core) old new o
  two_written lsr core (inl h) =
      each_goes which.Lsr s.lsr lsr (output which.Core s.core core ∷ made_outputs s) old new o h.mid outcome.Verified h.lsr_written refl
      (each_goes which.Core s.core core (made_outputs s) h.mid new o mid found h.core_written v rest)
  two_written lsr core (inr h) = let bad : false ≡ true = sym h.1 ∙ v in absurd cc

  demo_writes_on : (d : Decision) (begun : ℕ) → IsDecided lim (trim_of s) (whole (formula_text s.holes)) (whole (proof_text s.holes)) d begun → Writes (trim_of s) d old mid found → WritesDemo s d old new o
  demo_writes_on (stops x) begun by h = let bad : false ≡ true = sym (stops_unverified lim (trim_of s) (whole (formula_text s.holes)) (whole (proof_text s.holes)) x begun by) ∙ sym (ap is_verified h.1) ∙ v in absurd cc
  demo_writes_on (trims f ds steps) begun by h = two_written (asked_lsr (trim_of s) f steps) (asked_core (trim_of s) f steps) h

  pub demo_written : (k : Counts) → FindsTexts lim s old mid found k → FindsDemo lim s old new o k
  demo_written k (inl h) = let bad : false ≡ true = sym (ap is_verified h.0) ∙ v in absurd cc
  demo_written k (inr h) = inr (record {
    decision = h.decision;
    decided = h.decided;
    sure = h.sure;
    writes = demo_writes_on h.decision h.decided.begun h.decided.decided h.writes;
    counts = h.counts;
  })
