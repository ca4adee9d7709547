-- A run of `demo`.
use Rattle.std.proofs.Common.{◌≡◌, ◌≢◌, ◌∙◌, ◌⊎◌, inl, inr, ℕ, ◌+◌, ◌-◌, ◌≤◌, true, false, List, [], ◌++◌, Option, Some, None, refl, sym, ap, subst, arith, length, length-append}
use Rattle.std.specs.Prelude.{option_map}
use Rattle.std.proofs.lemmas.List.{append-nil}
use Rattle.sr_base.specs.declared.names.Form.TheVariants.{Text}
use Rattle.sr_trim.specs.Trimming.{lsr_text, core_text}
use Rattle.sr_base.specs.Limits.{LimitValues}
use Rattle.sr_base.specs.Contents.{whole}
use Rattle.sr_base.specs.declared.names.Which.TheVariants as which
use Rattle.sr_desk.specs.Outside.{Outside, SlotState, Rose}
use Rattle.sr_emit.specs.Status.{is_verified}
use Rattle.sr_emit.specs.Report.{report, verified_line}
use Rattle.sr_emit.specs.declared.report.Command.TheVariants as command
use Rattle.sr_emit.specs.declared.outcome.Outcome.{Outcome}
use Rattle.sr_emit.specs.declared.outcome.Outcome.TheVariants as outcome
use Rattle.sr_emit.specs.declared.counts.Counts.{Counts}
use Rattle.sr_emit.proofs.Verified.{says_so}
use Rattle.sr_trim.specs.Deciding.{Decision, stops, trims}
use Rattle.sr_trim.specs.Reporting.{HasReport}
use Rattle.sr_cli.specs.Demo.{DemoSaid, formula_text, proof_text, trim_of, HasNoFault, outputs, WritesEach, WritesDemo, FindsDemo, demo_report}
use Rattle.sr_cli.specs.Words.{demos}
use Rattle.sr_cli.specs.Run.{IsRefutedIn, IsSound, SaysSo, OnlyPrints, Shows, Reports, RunsDemo, is_unreported, HasRunCause, HasDemoCause, demo_names, counts_shown}
use Rattle.sr_cli.specs.Touching.{WritesOneOf, OnlyDemos, one_if_named, files_named, demo_outputs}
use Rattle.sr_cli.proofs.Refuted.{verified_is, cancel}
use Rattle.sr_cli.proofs.Touched.{Begins, begins_none, begins_more}
use Rattle.sr_cli.proofs.Named.{BeginsNamed, named_none}
use Rattle.sr_cli.proofs.Trimmed.{is_good, decided_refutes, reported, unshown_counts}
use Rattle.sr_cli.proofs.Outputs.{is_file, most_of, each_begins, each_named, each_cause, WriteCause}

none : Counts
none = record { clauses = 0; core = 0; lemmas = 0; steps = 0; hints = 0; passed = 0 }

-- memory runs out before anything is made
pub demo_out : (lim : LimitValues) (s : DemoSaid) (o : Outside) → RunsDemo lim s o o outcome.NoMemory
demo_out lim s o = record { found = outcome.NoMemory; counts = none; mid = o; finds = inl (refl, refl); reports = (refl, refl) }

-- a run that isn't reported, and one that is
pub demo_unreported : (lim : LimitValues) (s : DemoSaid) (old mid : Outside) (o : Outcome) (k : Counts) → FindsDemo lim s old mid o k → is_unreported o ≡ true → RunsDemo lim s old mid o
demo_unreported lim s old mid o k finds u = record { found = o; counts = k; mid = mid; finds = finds; reports = rw u (refl, refl) }

pub demo_shown : (lim : LimitValues) (s : DemoSaid) (old mid new : Outside) (o answered : Outcome) (k : Counts) (bytes : List ℕ) → FindsDemo lim s old mid o k → is_verified o ≡ true
    → HasReport (demo_report s) o k bytes → OnlyPrints mid new → Shows bytes mid new o answered → RunsDemo lim s old new answered
demo_shown lim s old mid new o answered k bytes finds v made only shows =
    let is : o ≡ outcome.Verified = verified_is o v in
    let u : is_unreported o ≡ false = ap is_unreported is in
    let e : bytes ≡ report (command.Demo s.holes s.stats) (demo_names s) (counts_shown true o k) o =
    made is (demo_names s) ∙ ap (λ (x : Outcome). report (command.Demo s.holes s.stats) (demo_names s) (counts_shown true x k) x) (sym is) in
    record { found = o; counts = k; mid = mid; finds = finds; reports = rw u (only, inr (subst (λ b. Shows b mid new o answered) e shows)) }

pub demo_reported : (lim : LimitValues) (s : DemoSaid) (old mid new : Outside) (o answered : Outcome) (k : Counts) → FindsDemo lim s old mid o k → is_verified o ≡ false → is_unreported o ≡ false
    → OnlyPrints mid new → Reports (report (command.Demo s.holes s.stats) (demo_names s) None o) mid new o answered → RunsDemo lim s old new answered
demo_reported lim s old mid new o answered k finds v u only r = record {
  found = o;
  counts = k;
  mid = mid;
  finds = finds;
  reports = rw u (only, subst (λ c. Reports (report (command.Demo s.holes s.stats) (demo_names s) c o) mid new o answered) (unshown_counts true o k v) r);
}

named_few : (name : Option (List ℕ)) → one_if_named name ≤ 1
named_few None = omega arith
named_few (Some name) = omega arith

good_demo : (s : DemoSaid) (d : Decision) (old new : Outside) (o : Outcome) → WritesDemo s d old new o → o ≡ outcome.Verified → is_good d ≡ true
good_demo s (stops x) old new o h v = ap is_verified (sym h.1 ∙ v)
good_demo s (trims f ds steps) old new o h v = refl

-- what is found as verified
pub demo_refutes : (lim : LimitValues) (s : DemoSaid) (old new : Outside) (o : Outcome) (k : Counts) → FindsDemo lim s old new o k → o ≡ outcome.Verified
    → IsRefutedIn lim (whole (formula_text s.holes))
demo_refutes lim s old new o k (inl h) v = let bad : outcome.NoMemory ≡ outcome.Verified = sym h.0 ∙ v in absurd cc
demo_refutes lim s old new o k (inr h) v =
    decided_refutes lim (trim_of s) (whole (formula_text s.holes)) (whole (proof_text s.holes)) h.decision h.decided.begun h.decided.decided (good_demo s h.decision old new o h.writes v)

outputs_begin : (s : DemoSaid) (lsr core : Option (List ℕ)) (old new : Outside) (o : Outcome) → WritesEach (outputs s lsr core) old new o → Begins (files_named s) old new
outputs_begin s lsr core old new o w = begins_more (most_of (outputs s lsr core)) (files_named s) old new (omega arith) (each_begins (outputs s lsr core) old new o w)

outputs_cause : (s : DemoSaid) (lsr core : Option (List ℕ)) (old new : Outside) (o : Outcome) → WritesEach (outputs s lsr core) old new o → WriteCause old new o
outputs_cause s lsr core old new o w = each_cause (outputs s lsr core) 0 old old new o (refl, (refl, (refl, (refl, tt)))) (begins_none old old refl) w

-- the files that are begun
pub demo_begins : (lim : LimitValues) (s : DemoSaid) (old new : Outside) (o : Outcome) (k : Counts) → FindsDemo lim s old new o k → Begins (files_named s) old new
demo_begins lim s old new o k (inl h) = begins_more 0 (files_named s) old new (omega arith) (begins_none old new h.1)
demo_begins lim s old new o k (inr h) = at h.decision h.writes
  where
    at : (d : Decision) → WritesDemo s d old new o → Begins (files_named s) old new
    at (stops x) w = begins_more 0 (files_named s) old new (omega arith) (begins_none old new w.0)
    at (trims f ds steps) w = outputs_begin s (option_map (λ name. lsr_text Text f.clauses steps) s.lsr) (option_map (λ name. core_text f steps) s.core) old new o w

outputs_named : (s : DemoSaid) (lsr core : Option (List ℕ)) (old new : Outside) (o : Outcome) → WritesEach (outputs s lsr core) old new o → BeginsNamed (demo_outputs s) old new
outputs_named s lsr core old new o w =
    each_named (outputs s lsr core) (demo_outputs s) old new o (λ n e. inl e, (λ n e. inr (inl e), (λ n e. inr (inr (inl e)), (λ n e. inr (inr (inr (inl e))), tt)))) w

pub demo_named : (lim : LimitValues) (s : DemoSaid) (old new : Outside) (o : Outcome) (k : Counts) → FindsDemo lim s old new o k → BeginsNamed (demo_outputs s) old new
demo_named lim s old new o k (inl h) = named_none (demo_outputs s) old new h.1
demo_named lim s old new o k (inr h) = at h.decision h.writes
  where
    at : (d : Decision) → WritesDemo s d old new o → BeginsNamed (demo_outputs s) old new
    at (stops x) w = named_none (demo_outputs s) old new w.0
    at (trims f ds steps) w = outputs_named s (option_map (λ name. lsr_text Text f.clauses steps) s.lsr) (option_map (λ name. core_text f steps) s.core) old new o w

-- a fault is one of writing
abbrev pub FoundDemoCause : Outside → Outside → Outcome → Type 0
FoundDemoCause old new (outcome.SinkFault w) = (is_file w ≡ true) × Rose (old.slot (new.begun - 1)).faults (new.slot (new.begun - 1)).faults
FoundDemoCause old new (outcome.SourceFault w) = ⊥
FoundDemoCause old new o = Unit {0}

stop_cause : (old new : Outside) (o : Outcome) → HasNoFault (stops o) → FoundDemoCause old new o
stop_cause old new outcome.Verified h = tt
stop_cause old new (outcome.RejectedStep id x) h = tt
stop_cause old new (outcome.RejectedLemma id x) h = tt
stop_cause old new outcome.NoEmptyClause h = tt
stop_cause old new (outcome.Usage k) h = tt
stop_cause old new (outcome.Text w k p) h = tt
stop_cause old new (outcome.Limit w k) h = tt
stop_cause old new (outcome.SourceFault w) h = h
stop_cause old new (outcome.SinkFault w) h = absurd h
stop_cause old new (outcome.Helped t) h = tt
stop_cause old new outcome.NoMemory h = tt

write_cause : (old new : Outside) (o : Outcome) → WriteCause old new o → FoundDemoCause old new o
write_cause old new outcome.Verified h = tt
write_cause old new (outcome.RejectedStep id x) h = tt
write_cause old new (outcome.RejectedLemma id x) h = tt
write_cause old new outcome.NoEmptyClause h = tt
write_cause old new (outcome.Usage k) h = tt
write_cause old new (outcome.Text w k p) h = tt
write_cause old new (outcome.Limit w k) h = tt
write_cause old new (outcome.SourceFault w) h = h
write_cause old new (outcome.SinkFault w) h = h
write_cause old new (outcome.Helped t) h = tt
write_cause old new outcome.NoMemory h = tt

pub demo_found_cause : (lim : LimitValues) (s : DemoSaid) (old new : Outside) (o : Outcome) (k : Counts) → FindsDemo lim s old new o k → FoundDemoCause old new o
demo_found_cause lim s old new o k (inl h) = subst (λ (x : Outcome). FoundDemoCause old new x) (sym h.0) tt
demo_found_cause lim s old new o k (inr h) = at h.decision h.sure h.writes
  where
    at : (d : Decision) → HasNoFault d → WritesDemo s d old new o → FoundDemoCause old new o
    at (stops x) sure w = subst (λ (y : Outcome). FoundDemoCause old new y) (sym w.1) (stop_cause old new x sure)
    at (trims f ds steps) sure w = write_cause old new o (outputs_cause s (option_map (λ name. lsr_text Text f.clauses steps) s.lsr) (option_map (λ name. core_text f steps) s.core) old new o w)

-- what is found is told by the slots
cause_told : (old new : Outside) (o : Outcome) → FoundDemoCause old new o → HasDemoCause old new o
cause_told old new outcome.Verified h = tt
cause_told old new (outcome.RejectedStep id x) h = tt
cause_told old new (outcome.RejectedLemma id x) h = tt
cause_told old new outcome.NoEmptyClause h = tt
cause_told old new (outcome.Usage k) h = tt
cause_told old new (outcome.Text w k p) h = tt
cause_told old new (outcome.Limit w k) h = tt
cause_told old new (outcome.SourceFault w) h = h
cause_told old new (outcome.SinkFault which.Formula) h = h.1
cause_told old new (outcome.SinkFault which.Proof) h = h.1
cause_told old new (outcome.SinkFault which.Lsr) h = h.1
cause_told old new (outcome.SinkFault which.Core) h = h.1
cause_told old new (outcome.Helped t) h = tt
cause_told old new (outcome.SinkFault which.Report) h = let bad : false ≡ true = h.0 in absurd cc
cause_told old new outcome.NoMemory h = tt

-- what is reported is no fault of writing
reported_cause : (old mid new : Outside) (o : Outcome) → is_unreported o ≡ false → FoundDemoCause old mid o → HasDemoCause old new o
reported_cause old mid new outcome.Verified u h = tt
reported_cause old mid new (outcome.RejectedStep id x) u h = tt
reported_cause old mid new (outcome.RejectedLemma id x) u h = tt
reported_cause old mid new outcome.NoEmptyClause u h = tt
reported_cause old mid new (outcome.Usage k) u h = tt
reported_cause old mid new (outcome.Text w k p) u h = tt
reported_cause old mid new (outcome.Limit w k) u h = tt
reported_cause old mid new (outcome.SourceFault w) u h = absurd h
reported_cause old mid new (outcome.SinkFault w) u h = absurd cc
reported_cause old mid new (outcome.Helped t) u h = tt
reported_cause old mid new outcome.NoMemory u h = tt

-- a run that isn't reported, or is
abbrev EndsBy : DemoSaid → Outside → Outside → Outcome → Outcome → Counts → Type 0
EndsBy s mid new found answered k = ((is_unreported found ≡ true) × (answered ≡ found) × (new ≡ mid))
    ⊎ ((is_unreported found ≡ false) × OnlyPrints mid new × Reports (report (command.Demo s.holes s.stats) (demo_names s) (counts_shown true found k) found) mid new found answered)

module _ (lim : LimitValues) (s : DemoSaid) (old new : Outside) (answered : Outcome) (zero : old.begun ≡ 0) (r : RunsDemo lim s old new answered) where
  ends : EndsBy s r.mid new r.found answered r.counts
  ends = reported (report (command.Demo s.holes s.stats) (demo_names s) (counts_shown true r.found r.counts) r.found) r.mid new r.found answered r.reports

  begins : Begins (files_named s) old r.mid
  begins = demo_begins lim s old r.mid r.found r.counts r.finds

  refutes : r.found ≡ outcome.Verified → IsRefutedIn lim (whole (formula_text s.holes))
  refutes v = demo_refutes lim s old r.mid r.found r.counts r.finds v

  pub demo_sound : IsSound lim (demos s) new answered
  demo_sound v = at ends
    where
      is : answered ≡ outcome.Verified
      is = verified_is answered v

      at : EndsBy s r.mid new r.found answered r.counts → IsRefutedIn lim (whole (formula_text s.holes))
      at (inl h) = refutes (sym h.1 ∙ is)
      at (inr (_, _, inl h)) = let bad : outcome.NoMemory ≡ outcome.Verified = sym h.0 ∙ is in absurd cc
      at (inr (_, _, inr (inl h))) = refutes (sym h.0 ∙ is)
      at (inr (_, _, inr (inr h))) = let bad : outcome.SinkFault which.Report ≡ outcome.Verified = sym h.0 ∙ is in absurd cc

  few : files_named s ≤ 4
  few = omega (arith, named_few s.formula, named_few s.proof, named_few s.lsr, named_few s.core)

  output_same : r.mid.slot 8 ≡ old.slot 8
  output_same = begins.above 8 (omega (arith, begins.few, zero, few))

  pub demo_says_so : SaysSo lim (demos s) old new
  demo_says_so front sent = at ends
    where
      told : (rest : List ℕ) → report (command.Demo s.holes s.stats) (demo_names s) (counts_shown true r.found r.counts) r.found ≡ (front ++ verified_line) ++ rest → IsRefutedIn lim (whole (formula_text s.holes))
      told rest e = refutes (says_so (command.Demo s.holes s.stats) (demo_names s) (counts_shown true r.found r.counts) r.found front rest e)

      sent_mid : (new.slot 8).sent ≡ (r.mid.slot 8).sent ++ (front ++ verified_line)
      sent_mid = sent ∙ ap (λ (x : SlotState). x.sent ++ (front ++ verified_line)) (sym output_same)

      unsent : new.slot 8 ≡ r.mid.slot 8 → IsRefutedIn lim (whole (formula_text s.holes))
      unsent e =
          let same : (r.mid.slot 8).sent ≡ (r.mid.slot 8).sent ++ (front ++ verified_line) = sym (ap (λ (x : SlotState). x.sent) e) ∙ sent_mid in
          let size : length (r.mid.slot 8).sent ≡ length (r.mid.slot 8).sent + (length front + 17) = ap length same ∙ simp length-append in
          absurd (omega arith)

      at : EndsBy s r.mid new r.found answered r.counts → IsRefutedIn lim (whole (formula_text s.holes))
      at (inl h) = unsent (ap (λ (o : Outside). o.slot 8) h.2)
      at (inr (_, _, inl h)) = unsent h.1
      at (inr (_, _, inr (inl h))) = told [] (cancel (r.mid.slot 8).sent _ _ (sym h.1.sends.sent ∙ sent_mid) ∙ sym (append-nil (front ++ verified_line)))
      at (inr (_, _, inr (inr h))) =
          let p = h.1.sends in
          let prefix : p.0 ≡ front ++ verified_line = cancel (r.mid.slot 8).sent _ _ (sym p.1.2.sent ∙ sent_mid) in
          told p.1.0 (p.1.1 ∙ ap (λ (l : List ℕ). l ++ p.1.0) prefix)

  begun_on : new.begun ≡ r.mid.begun
  begun_on = elim ends [
    | inl h ↦ ap (λ (o : Outside). o.begun) h.2
    | inr h ↦ h.1.begun
  ]

  slot_on : (k : ℕ) → k ≢ 8 → new.slot k ≡ r.mid.slot k
  slot_on k ne = elim ends [
    | inl h ↦ ap (λ (o : Outside). o.slot k) h.2
    | inr h ↦ h.1.elsewhere k ne
  ]

  file_on : new.file ≡ r.mid.file
  file_on = elim ends [
    | inl h ↦ ap (λ (o : Outside). o.file) h.2
    | inr h ↦ h.1.file
  ]

  named : BeginsNamed (demo_outputs s) old r.mid
  named = demo_named lim s old r.mid r.found r.counts r.finds

  pub demo_only : OnlyDemos s old new
  demo_only = record {
    begun = omega (arith, begun_on, begins.few, zero);
    slots = λ k lt.
        subst (λ (x : SlotState). WritesOneOf (demo_outputs s) x) (sym (slot_on k (λ e. omega (arith, e, lt, begun_on, begins.few, zero, few))))
        (named.slots k (omega (arith, zero)) (omega (arith, lt, begun_on)));
    file = λ other apart. ap (λ (f : List ℕ → Option (List ℕ)). f other) file_on ∙ named.file other apart;
    unread = λ k le ne. slot_on k ne ∙ begins.above k (omega (arith, le, begun_on));
  }

  found_cause : FoundDemoCause old r.mid r.found
  found_cause = demo_found_cause lim s old r.mid r.found r.counts r.finds

  pub demo_cause : HasRunCause (demos s) old new answered
  demo_cause = at ends
    where
      at : EndsBy s r.mid new r.found answered r.counts → HasDemoCause old new answered
      at (inl h) = subst (λ (x : Outcome). HasDemoCause old new x) (sym h.1) (subst (λ (o : Outside). HasDemoCause old o r.found) (sym h.2) (cause_told old r.mid r.found found_cause))
      at (inr (_, _, inl h)) = subst (λ (x : Outcome). HasDemoCause old new x) (sym h.0) tt
      at (inr (u, only, inr (inl h))) = subst (λ (x : Outcome). HasDemoCause old new x) (sym h.0) (reported_cause old r.mid new r.found u found_cause)
      at (inr (_, _, inr (inr h))) = subst (λ (x : Outcome). HasDemoCause old new x) (sym h.0) (subst (λ (x : SlotState). Rose x.faults (new.slot 8).faults) output_same h.1.rose)
