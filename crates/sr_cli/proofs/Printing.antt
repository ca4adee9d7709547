-- Printing that stops, and what a run then answers.
use Rattle.std.proofs.Common.{◌≡◌, ◌≢◌, ◌∙◌, ◌⊎◌, inl, inr, ℕ, ◌≤◌, true, false, List, [], ◌++◌, Option, Some, None, Err, refl, sym, ap, subst, arith, lit≤}
use Rattle.std.specs.Prelude.{if◌then◌else◌}
use Rattle.std.proofs.lemmas.List.{append-nil}
use Rattle.sr_base.specs.Limits.{LimitValues}
use Rattle.sr_base.specs.Contents.{Contents}
use Rattle.sr_base.specs.declared.names.Which.TheVariants as which
use Rattle.sr_desk.specs.Outside.{Outside, SlotState, Agrees, OnlyWrites, Rose}
use Rattle.sr_desk.specs.Calls.{Sends, SendsPrefix, Finishes}
use Rattle.sr_emit.specs.Report.{report}
use Rattle.sr_emit.specs.declared.report.Command.TheVariants as command
use Rattle.sr_emit.specs.declared.outcome.Outcome.{Outcome}
use Rattle.sr_emit.specs.declared.outcome.Outcome.TheVariants as outcome
use Rattle.sr_emit.specs.declared.counts.Counts.{Counts}
use Rattle.sr_cli.specs.Words.{Said, ReadOnly, refused, helps, checks}
use Rattle.sr_files.specs.Files.{ReadsFiles, GivesFile, HasReadCause}
use Rattle.sr_trim.proofs.Opened.{gives_still}
use Rattle.sr_cli.specs.Touching.{ReadsNamed, GivesReadOnly, OnlyReadsFiles}
use Rattle.sr_cli.specs.Check.{IsFirst}
use Rattle.sr_cli.specs.Run.{OnlyPrints, IsCutShort, Reports, Finds, RunsReadOnly, names_asked, is_unreported}

-- bytes that were sent stay sent where the slot is then finished
sent_at_end : {E : Type 0} (bytes : List ℕ) (o0 o1 o2 : Outside) (e : E) → Sends (o0.slot 8) (o1.slot 8) bytes → Finishes 8 o1 o2 (Err e) → Sends (o0.slot 8) (o2.slot 8) bytes
sent_at_end bytes o0 o1 o2 e s fin = record {
  sent = ap (λ (x : SlotState). x.sent) fin.slot ∙ s.sent;
  written = λ old h. fin.written (old ++ bytes) (s.written old h);
}

pub cut_at_end : {E : Type 0} (bytes : List ℕ) (o0 o1 o2 : Outside) (e : E) → Sends (o0.slot 8) (o1.slot 8) bytes → OnlyWrites 8 o0 o1
    → Finishes 8 o1 o2 (Err e) → Rose (o1.slot 8).faults (o2.slot 8).faults → IsCutShort bytes o0 o2
cut_at_end bytes o0 o1 o2 e s only fin rose = record {
  sends = (bytes, ([], sym (append-nil bytes), sent_at_end bytes o0 o1 o2 e s fin));
  rose = omega (arith, only.later, rose);
}

-- what stood on standard output before the files were read stands there after
pub reports_from : (bytes : List ℕ) (old mid new : Outside) (found answered : Outcome) → mid.slot 8 ≡ old.slot 8 → Reports bytes mid new found answered → Reports bytes old new found answered
reports_from bytes old mid new found answered e (inl h) = inl (h.0, h.1 ∙ e)
reports_from bytes old mid new found answered e (inr (inl h)) = inr (inl (
  h.0,
  record {
    sends = subst (λ (s : SlotState). Sends s (new.slot 8) bytes) e h.1.sends;
    finished = h.1.finished;
  },
))
reports_from bytes old mid new found answered e (inr (inr h)) = inr (inr (
  h.0,
  record {
    sends = subst (λ (s : SlotState). SendsPrefix s (new.slot 8) bytes) e h.1.sends;
    rose = subst (λ (s : SlotState). Rose s.faults (new.slot 8).faults) e h.1.rose;
  },
))

pub output_same : (old mid : Outside) → ReadsFiles old mid → mid.slot 8 ≡ old.slot 8
output_same old mid (inl r) = r.others 8 (lit≤ tt)
output_same old mid (inr r) = r.others 8 (lit≤ tt)

pub none : Counts
none = record { clauses = 0; core = 0; lemmas = 0; steps = 0; hints = 0; passed = 0 }

none_named : (a : ReadOnly) (o : Outside) → o.begun ≡ 0 → ReadsNamed a o
none_named (refused kind t flaws) o zero = tt
none_named (helps t) o zero = tt
none_named (checks s) o zero = (λ le. absurd (omega (arith, le, zero)), λ le. absurd (omega (arith, le, zero)))

-- where memory runs out nothing is found
pub runs_out : (lim : LimitValues) (a : ReadOnly) (o : Outside) → o.begun ≡ 0 → RunsReadOnly lim a o o outcome.NoMemory
runs_out lim a o zero = record {
  found = outcome.NoMemory;
  counts = none;
  finds = inl refl;
  named = none_named a o zero;
  cause = tt;
  given = command.Help;
  is_given = inl refl;
  reports = inl (refl, refl);
  quiet = λ e. (refl, refl);
}

-- printing changes no slot of a file
cause_on : (old mid new : Outside) (o : Outcome) → OnlyPrints mid new → HasReadCause old mid o → HasReadCause old new o
cause_on old mid new outcome.Verified only h = tt
cause_on old mid new (outcome.RejectedStep id x) only h = tt
cause_on old mid new (outcome.RejectedLemma id x) only h = tt
cause_on old mid new outcome.NoEmptyClause only h = tt
cause_on old mid new (outcome.Usage k) only h = tt
cause_on old mid new (outcome.Text w k p) only h = tt
cause_on old mid new (outcome.Limit w k) only h = tt
cause_on old mid new (outcome.SourceFault which.Formula) only h = (rw (only.elsewhere 0 (λ e. cc)) h.0, only.begun ∙ h.1)
cause_on old mid new (outcome.SourceFault which.Proof) only h = (rw (only.elsewhere 1 (λ e. cc)) h.0, only.begun ∙ h.1)
cause_on old mid new (outcome.SourceFault which.Lsr) only h = absurd h
cause_on old mid new (outcome.SourceFault which.Core) only h = absurd h
cause_on old mid new (outcome.SourceFault which.Report) only h = absurd h
cause_on old mid new (outcome.SinkFault w) only h = absurd h
cause_on old mid new (outcome.Helped t) only h = tt
cause_on old mid new outcome.NoMemory only h = tt

-- printing leaves the slots of files
named_on : (n : ℕ) (name : List ℕ) (old mid new : Outside) → n ≢ 8 → OnlyPrints mid new → GivesFile n name old mid → (new.slot n).reads_from ≡ Some name
named_on n name old mid new ne only g = ap (λ (x : SlotState). x.reads_from) (only.elsewhere n ne) ∙ g.named

pub prints_nothing : (o : Outside) → OnlyPrints o o
prints_nothing o = record { begun = refl; file = refl; elsewhere = λ k ne. refl; later = omega arith }

-- the files that were named
pub check_named : (s : Said) (old mid new : Outside) → OnlyPrints mid new → GivesFile 0 s.formula old mid → (2 ≤ mid.begun → GivesFile 1 s.proof old mid) → ReadsNamed (checks s) new
check_named s old mid new only formula proof =
    (λ le. named_on 0 s.formula old mid new (λ e. cc) only formula, λ le. named_on 1 s.proof old mid new (λ e. cc) only (proof (omega (arith, le, only.begun))))

pub check_gives : (s : Said) (old mid new : Outside) → OnlyPrints mid new → GivesFile 0 s.formula old mid → (2 ≤ mid.begun → GivesFile 1 s.proof old mid) → GivesReadOnly (checks s) old new
check_gives s old mid new only formula proof = (
  λ le. gives_still 0 s.formula old old mid new refl (only.elsewhere 0 (λ e. cc)) formula,
  λ le. gives_still 1 s.proof old old mid new refl (only.elsewhere 1 (λ e. cc)) (proof (omega (arith, le, only.begun))),
)

pub check_only : (s : Said) (old mid new : Outside) → ReadsFiles old mid → OnlyPrints mid new → ReadsNamed (checks s) new → OnlyReadsFiles (checks s) old new
check_only s old mid new (inl r) only named = record {
  begun = omega (arith, only.begun, r.begun);
  named = named;
  file = only.file ∙ r.file;
  unread = λ k le ne. only.elsewhere k ne ∙ r.others k (omega (arith, le, only.begun, r.begun));
  writes = λ k lt. ap (λ (x : SlotState). x.writes) (only.elsewhere k (λ e. omega (arith, e, lt))) ∙ (r.only k).writes;
}
check_only s old mid new (inr r) only named = record {
  begun = omega (arith, only.begun, r.begun);
  named = named;
  file = only.file ∙ r.file;
  unread = λ k le ne. only.elsewhere k ne ∙ r.others k (omega (arith, le, only.begun, r.begun));
  writes = λ k lt. ap (λ (x : SlotState). x.writes) (only.elsewhere k (λ e. omega (arith, e, lt))) ∙ (r.only k).writes;
}

-- files that are checked
pub runs_check : (lim : LimitValues) (s : Said) (old mid new : Outside) (found answered : Outcome) (k : Counts) (shown : Option Counts) → ReadsFiles old mid → ReadsNamed (checks s) new
    → (found ≡ outcome.NoMemory) ⊎ ((formula proof : Contents) → Agrees (mid.slot 0) formula → Agrees (mid.slot 1) proof → IsFirst lim s formula proof found k mid.begun)
    → HasReadCause old mid found → OnlyPrints mid new → shown ≡ (if s.stats then Some k else None) → is_unreported found ≡ false → Reports (report command.Check (names_asked (checks s)) shown found) mid new found answered
    → RunsReadOnly lim (checks s) old new answered
runs_check lim s old mid new found answered k shown slots named finds cause only is told r = record {
  found = found;
  counts = k;
  finds = elim finds [
    | inl e ↦ inl e
    | inr by ↦ inr (λ formula proof f p. subst (λ n. IsFirst lim s formula proof found k n) (sym only.begun)
        (by formula proof (subst (λ (x : SlotState). Agrees x formula) (only.elsewhere 0 (λ e. cc)) f) (subst (λ (x : SlotState). Agrees x proof) (only.elsewhere 1 (λ e. cc)) p)))
  ];
  named = named;
  cause = cause_on old mid new found only cause;
  given = command.Check;
  is_given = inr refl;
  reports = subst (λ c. Reports (report command.Check (names_asked (checks s)) c found) old new found answered) is (reports_from (report command.Check (names_asked (checks s)) shown found) old mid new found answered (output_same old mid slots) r);
  quiet = λ e. let bad : true ≡ false = sym (ap is_unreported e) ∙ told in absurd cc;
}

-- of what is found by reading, only out of memory isn't reported
read_unreported : (old mid : Outside) (found : Outcome) → HasReadCause old mid found → is_unreported found ≡ true → found ≡ outcome.NoMemory
read_unreported old mid outcome.Verified h u = absurd cc
read_unreported old mid (outcome.RejectedStep id x) h u = absurd cc
read_unreported old mid (outcome.RejectedLemma id x) h u = absurd cc
read_unreported old mid outcome.NoEmptyClause h u = absurd cc
read_unreported old mid (outcome.Usage k) h u = absurd cc
read_unreported old mid (outcome.Text w k p) h u = absurd cc
read_unreported old mid (outcome.Limit w k) h u = absurd cc
read_unreported old mid (outcome.SourceFault w) h u = absurd cc
read_unreported old mid (outcome.SinkFault w) h u = absurd h
read_unreported old mid (outcome.Helped t) h u = absurd cc
read_unreported old mid outcome.NoMemory h u = refl

-- files that couldn't be checked, since memory ran out
pub runs_unchecked : (lim : LimitValues) (s : Said) (old mid : Outside) (found : Outcome) (k : Counts) → ReadsFiles old mid → ReadsNamed (checks s) mid → Finds lim (checks s) mid found k
    → HasReadCause old mid found → is_unreported found ≡ true → RunsReadOnly lim (checks s) old mid found
runs_unchecked lim s old mid found k slots named finds cause u =
    let out : found ≡ outcome.NoMemory = read_unreported old mid found cause u in
    record {
      found = found;
      counts = k;
      finds = finds;
      named = named;
      cause = cause;
      given = command.Check;
      is_given = inl out;
      reports = inl (out, output_same old mid slots);
      quiet = λ e. (out, output_same old mid slots);
    }
