-- What `trim` answers as verified is refuted.
use Rattle.std.proofs.Common.{◌≡◌, ◌≢◌, ◌∙◌, ◌⊎◌, inl, inr, ◌+◌, ◌≤◌, ℕ, Bool, true, false, List, [], ◌∷◌, ◌++◌, Option, Some, None, refl, sym, ap, subst, arith, length, length-append}
use Rattle.std.specs.Prelude.{nat_lt, filter, ◌&&◌}
use Rattle.std.proofs.lemmas.List.{append-nil}
use Rattle.sr_base.specs.Literal.{Literal}
use Rattle.sr_base.specs.Limits.{LimitValues}
use Rattle.sr_base.specs.Contents.{Contents}
use Rattle.sr_base.specs.declared.names.Which.{Which}
use Rattle.sr_base.specs.declared.names.Which.TheVariants as which
use Rattle.sr_base.specs.declared.names.LimitKind.{LimitKind}
use Rattle.sr_base.specs.declared.names.LimitKind.TheVariants.{Cells}
use Rattle.sr_model.specs.Assignment.{Unsat, satisfies, satisfies_all}
use Rattle.sr_model.specs.Tokens.{Tokens}
use Rattle.sr_model.specs.TextTokens.{spelled}
use Rattle.sr_model.specs.Reading.{Read, reads, misspells, passes, fails}
use Rattle.sr_model.specs.Chain.{clauses}
use Rattle.sr_model.specs.Meeting.{Step}
use Rattle.sr_model.specs.Judging.{numbered_from, cells_of}
use Rattle.sr_model.specs.Dimacs.{Formula, formula_at}
use Rattle.sr_model.specs.Formulas.{SpellsFormula}
use Rattle.sr_model.specs.Dsr.{Line, MaybeLine, line_in, line_tokens}
use Rattle.sr_model.proofs.Soundness.{by_test}
use Rattle.sr_model.proofs.FormulasSpelled.{read_is_spelled}
use Rattle.sr_desk.specs.Outside.{Outside, SlotState, Agrees, Rose}
use Rattle.sr_trimming.specs.Citing.{is_cited, core}
use Rattle.sr_trimming.specs.Loading.{Done}
use Rattle.sr_files.specs.Files.{GivesFile, HasReadCause}
use Rattle.sr_emit.specs.Status.{is_verified}
use Rattle.sr_emit.specs.Report.{report, verified_line}
use Rattle.sr_emit.specs.declared.report.Command.TheVariants as command
use Rattle.sr_emit.specs.declared.outcome.Outcome.{Outcome}
use Rattle.sr_emit.specs.declared.outcome.Outcome.TheVariants as outcome
use Rattle.sr_emit.specs.declared.counts.Counts.{Counts}
use Rattle.sr_emit.proofs.Verified.{says_so}
use Rattle.sr_trim.specs.Said.{TrimSaid}
use Rattle.sr_trim.specs.Deciding.{Decision, stops, trims, ByPass, AtStop, ByLine, limit_of, loading, EndsLoading, ByProof, ByClauses, ByFormula, IsDecided}
use Rattle.sr_trim.specs.Outputs.{WritesOne, Writes}
use Rattle.sr_trim.specs.Finding.{Finds, Trims, HasDecidedCause}
use Rattle.sr_trim.specs.Reporting.{HasReport}
use Rattle.sr_trim.specs.Reporting as reporting
use Rattle.sr_cli.specs.Words as words
use Rattle.sr_cli.specs.Run.{IsRefutedFile, IsSound, SaysSo, OnlyPrints, Shows, Reports, ReportsTrim, RunsTrim, is_unreported, HasFilesCause, HasRunCause, trim_names, counts_shown}
use Rattle.sr_cli.proofs.Refuted.{verified_is, agrees_some, cancel}
use Rattle.sr_cli.specs.Touching.{OnlyTrims}
use Rattle.sr_trim.proofs.Opened.{gives_still}
use Rattle.sr_cli.proofs.Named.{finds_slots, finds_file, slot_still}
use Rattle.sr_cli.proofs.Touched.{Begins, finds_begin, formula_stays, two_cause, reads_begin, SinkCause, FoundCause}

-- where no assignment satisfies the clauses that are cited, none satisfies the formula
kept_false : (p : ℕ → Bool) (t : List ℕ) (n : ℕ) (f : List (List Literal)) → satisfies_all t (clauses (filter (λ x. p x.0) (numbered_from n f))) ≡ false → satisfies_all t f ≡ false
kept_false p t n [] h = h
kept_false p t n (c ∷ cs) h = by_test (p n)
    (λ e. by_test (satisfies t c)
    (λ s. let rest : satisfies_all t (clauses (filter (λ x. p x.0) (numbered_from (n + 1) cs))) ≡ false = rw (e, s) at h in rw (s, kept_false p t (n + 1) cs rest) refl)
    (λ s. rw s refl))
    (λ e. let rest : satisfies_all t (clauses (filter (λ x. p x.0) (numbered_from (n + 1) cs))) ≡ false = rw e at h in rw (kept_false p t (n + 1) cs rest) (and_false (satisfies t c)))
  where
    and_false : (b : Bool) → (b && false) ≡ false
    and_false true = refl
    and_false false = refl

core_refutes : (f : List (List Literal)) (steps : List Step) → Unsat (core f steps) → Unsat f
core_refutes f steps u t = kept_false (λ n. is_cited n steps) t 1 f (u t)

-- a decision that is answered as verified
abbrev pub is_good : Decision → Bool
is_good (stops o) = is_verified o
is_good (trims f ds steps) = true

bad_stop : {A : Type 0} (d : Decision) (o : Outcome) → d ≡ stops o → is_verified o ≡ false → is_good d ≡ true → A
bad_stop d o e v g = let bad : false ≡ true = sym v ∙ sym (ap is_good e) ∙ g in absurd cc

by_pass : (lim : LimitValues) (s : TrimSaid) (f : Formula) (ds : List Done) (d : Decision) → ByPass lim s f ds d → is_good d ≡ true → Unsat f.clauses
by_pass lim s f ds d (inl r) g = bad_stop d (outcome.RejectedLemma r.lemma (Some r.against)) r.is refl g
by_pass lim s f ds d (inr p) g = core_refutes f.clauses p.steps p.trimming.unsat

by_stop : (lim : LimitValues) (s : TrimSaid) (f : Formula) (ds : List Done) (d : Decision) → AtStop lim s f ds d → is_good d ≡ true → Unsat f.clauses
by_stop lim s f ds d (inl h) g = by_pass lim s f ds d h.1 g
by_stop lim s f ds d (inr h) g = bad_stop d _ h.1 refl g

by_line : (lim : LimitValues) (s : TrimSaid) (f : Formula) (ds : List Done) (l : Line) (m : Option LimitKind) (d : Decision) → ByLine lim s f ds l m d → is_good d ≡ true → Unsat f.clauses
by_line lim s f ds l (Some kind) d h g = bad_stop d (outcome.Limit which.Proof kind) h refl g
by_line lim s f ds l None d h g = by_stop lim s f (ds ++ h.0 ∷ []) d h.2 g

by_end : (lim : LimitValues) (s : TrimSaid) (f : Formula) (ds : List Done) (r : Read MaybeLine) (d : Decision) → EndsLoading lim s f ds r d → is_good d ≡ true → Unsat f.clauses
by_end lim s f ds (reads (Some l) rest) d h g = by_line lim s f ds l (limit_of (loading lim s f ds) l) d h g
by_end lim s f ds (reads None rest) d h g = bad_stop d outcome.NoEmptyClause h refl g
by_end lim s f ds (misspells kind place) d h g = bad_stop d (outcome.Text which.Proof kind place) h refl g
by_end lim s f ds (passes kind) d h g = bad_stop d (outcome.Limit which.Proof kind) h refl g
by_end lim s f ds fails d h g = bad_stop d (outcome.SourceFault which.Proof) h refl g

by_proof : (lim : LimitValues) (s : TrimSaid) (f : Formula) (ts : Tokens) (d : Decision) (begun : ℕ) → ByProof lim s f ts d begun → is_good d ≡ true → Unsat f.clauses
by_proof lim s f ts d begun (inl h) g = by_pass lim s f [] d h.1 g
by_proof lim s f ts d begun (inr h) g = by_end lim s f h.1.done (line_in s.proof_form lim h.1.rest) d h.1.ends g

by_clauses : (lim : LimitValues) (s : TrimSaid) (f : Formula) (ts : Tokens) (d : Decision) (begun : ℕ) → ByClauses lim s f ts d begun → is_good d ≡ true → Unsat f.clauses
by_clauses lim s f ts d begun h g = at (nat_lt lim.cells (cells_of f.clauses)) refl
  where
    at : (x : Bool) → nat_lt lim.cells (cells_of f.clauses) ≡ x → Unsat f.clauses
    at true e = let k = rw e at h in bad_stop d (outcome.Limit which.Formula Cells) k.0 refl g
    at false e = let k = rw e at h in by_proof lim s f ts d begun k g

pub decided_refutes : (lim : LimitValues) (s : TrimSaid) (formula proof : Contents) (d : Decision) (begun : ℕ) → IsDecided lim s formula proof d begun → is_good d ≡ true
    → (f : Formula) × ((rest : Tokens) × SpellsFormula lim (spelled lim.bytes formula) f rest × Unsat f.clauses)
decided_refutes lim s formula proof d begun by g = at (formula_at lim (spelled lim.bytes formula)) refl by
  where
    ts : Tokens
    ts = line_tokens s.proof_form lim.bytes proof

    at : (r : Read Formula) → formula_at lim (spelled lim.bytes formula) ≡ r → ByFormula lim s (line_tokens s.proof_form lim.bytes proof) r d begun
        → (f : Formula) × ((rest : Tokens) × SpellsFormula lim (spelled lim.bytes formula) f rest × Unsat f.clauses)
    at (reads f rest) e h = (f, (rest, read_is_spelled lim (spelled lim.bytes formula) f rest e, by_clauses lim s f (line_tokens s.proof_form lim.bytes proof) d begun h g))
    at (misspells kind place) e h = bad_stop d (outcome.Text which.Formula kind place) h.0 refl g
    at (passes kind) e h = bad_stop d (outcome.Limit which.Formula kind) h.0 refl g
    at fails e h = bad_stop d (outcome.SourceFault which.Formula) h.0 refl g

good_of : (s : TrimSaid) (d : Decision) (old new : Outside) (o : Outcome) → Writes s d old new o → o ≡ outcome.Verified → is_good d ≡ true
good_of s (stops x) old new o h v = ap is_verified (sym h.1 ∙ v)
good_of s (trims f ds steps) old new o h v = refl

-- what is found as verified
pub finds_refutes : (lim : LimitValues) (s : TrimSaid) (old new : Outside) (o : Outcome) (k : Counts) → Finds lim s old new o k → o ≡ outcome.Verified → IsRefutedFile lim s.formula new
finds_refutes lim s old new o k (inl h) v = let bad : outcome.NoMemory ≡ outcome.Verified = sym h.is ∙ v in absurd cc
finds_refutes lim s old new o k (inr h) v = record {
  named = ap (λ (x : SlotState). x.reads_from) (formula_stays lim s old new o k h) ∙ h.formula.named;
  refuted = λ c a.
      let some = agrees_some (h.mid.slot 1) in
      let here : Agrees (h.mid.slot 0) c = subst (λ (x : SlotState). Agrees x c) (formula_stays lim s old new o k h) a in
      decided_refutes lim s c some.0 h.decision h.mid.begun (h.decided c some.0 here some.1) (good_of s h.decision h.mid new o h.writes v);
}

-- printing leaves the formula's slot
refuted_on : (lim : LimitValues) (name : List ℕ) (mid new : Outside) → new.slot 0 ≡ mid.slot 0 → IsRefutedFile lim name mid → IsRefutedFile lim name new
refuted_on lim name mid new e h = record { named = ap (λ (x : SlotState). x.reads_from) e ∙ h.named; refuted = λ c a. h.refuted c (subst (λ (x : SlotState). Agrees x c) e a) }

-- a run that isn't reported, or is
pub reported : (bytes : List ℕ) (mid new : Outside) (found answered : Outcome) → ReportsTrim bytes mid new found answered
    → ((is_unreported found ≡ true) × (answered ≡ found) × (new ≡ mid)) ⊎ ((is_unreported found ≡ false) × OnlyPrints mid new × Reports bytes mid new found answered)
reported bytes mid new found answered h = at (is_unreported found) refl
  where
    at : (x : Bool) → is_unreported found ≡ x → ((is_unreported found ≡ true) × (answered ≡ found) × (new ≡ mid)) ⊎ ((is_unreported found ≡ false) × OnlyPrints mid new × Reports bytes mid new found answered)
    at true e = let k = rw e at h in inl (e, k.0, k.1)
    at false e = let k = rw e at h in inr (e, k.0, k.1)

unreported_bad : {A : Type 0} (o : Outcome) → o ≡ outcome.Verified → is_unreported o ≡ true → A
unreported_bad o v u = let bad : false ≡ true = sym (ap is_unreported v) ∙ u in absurd cc

module _ (lim : LimitValues) (s : TrimSaid) (old new : Outside) (answered : Outcome) (zero : old.begun ≡ 0) (r : RunsTrim lim s old new answered) where
  begins : Begins 4 old r.mid
  begins = finds_begin lim s old r.mid r.found r.counts zero r.finds

  formula_on : new.slot 0 ≡ r.mid.slot 0
  formula_on = elim (reported _ r.mid new r.found answered r.reports) [
    | inl h ↦ ap (λ (o : Outside). o.slot 0) h.2
    | inr h ↦ h.1.elsewhere 0 (λ e. cc)
  ]

  refutes : r.found ≡ outcome.Verified → IsRefutedFile lim s.formula new
  refutes v = refuted_on lim s.formula r.mid new formula_on (finds_refutes lim s old r.mid r.found r.counts r.finds v)

  pub trim_sound : IsSound lim (words.trims s) new answered
  trim_sound v = at (reported _ r.mid new r.found answered r.reports)
    where
      is : answered ≡ outcome.Verified
      is = verified_is answered v

      at : ((is_unreported r.found ≡ true) × (answered ≡ r.found) × (new ≡ r.mid))
          ⊎ ((is_unreported r.found ≡ false) × OnlyPrints r.mid new × Reports (report command.Trim (trim_names s) (counts_shown s.stats r.found r.counts) r.found) r.mid new r.found answered) → IsRefutedFile lim s.formula new
      at (inl h) = refutes (sym h.1 ∙ is)
      at (inr (_, _, inl h)) = let bad : outcome.NoMemory ≡ outcome.Verified = sym h.0 ∙ is in absurd cc
      at (inr (_, _, inr (inl h))) = refutes (sym h.0 ∙ is)
      at (inr (_, _, inr (inr h))) = let bad : outcome.SinkFault which.Report ≡ outcome.Verified = sym h.0 ∙ is in absurd cc

  output_same : r.mid.slot 8 ≡ old.slot 8
  output_same = begins.above 8 (omega (arith, begins.few, zero))

  pub trim_says_so : SaysSo lim (words.trims s) old new
  trim_says_so front sent = at (reported _ r.mid new r.found answered r.reports)
    where
      bytes : List ℕ
      bytes = report command.Trim (trim_names s) (counts_shown s.stats r.found r.counts) r.found

      told : (rest : List ℕ) → report command.Trim (trim_names s) (counts_shown s.stats r.found r.counts) r.found ≡ (front ++ verified_line) ++ rest → IsRefutedFile lim s.formula new
      told rest e = refutes (says_so command.Trim (trim_names s) (counts_shown s.stats r.found r.counts) r.found front rest e)

      sent_mid : (new.slot 8).sent ≡ (r.mid.slot 8).sent ++ (front ++ verified_line)
      sent_mid = sent ∙ ap (λ (x : SlotState). x.sent ++ (front ++ verified_line)) (sym output_same)

      unsent : new.slot 8 ≡ r.mid.slot 8 → IsRefutedFile lim s.formula new
      unsent e =
          let same : (r.mid.slot 8).sent ≡ (r.mid.slot 8).sent ++ (front ++ verified_line) = sym (ap (λ (x : SlotState). x.sent) e) ∙ sent_mid in
          let size : length (r.mid.slot 8).sent ≡ length (r.mid.slot 8).sent + (length front + 17) = ap length same ∙ simp length-append in
          absurd (omega arith)

      at : ((is_unreported r.found ≡ true) × (answered ≡ r.found) × (new ≡ r.mid))
          ⊎ ((is_unreported r.found ≡ false) × OnlyPrints r.mid new × Reports (report command.Trim (trim_names s) (counts_shown s.stats r.found r.counts) r.found) r.mid new r.found answered) → IsRefutedFile lim s.formula new
      at (inl h) = unsent (ap (λ (o : Outside). o.slot 8) h.2)
      at (inr (_, _, inl h)) = unsent h.1
      at (inr (_, _, inr (inl h))) = told [] (cancel (r.mid.slot 8).sent _ _ (sym h.1.sends.sent ∙ sent_mid) ∙ sym (append-nil (front ++ verified_line)))
      at (inr (_, _, inr (inr h))) =
          let p = h.1.sends in
          let prefix : p.0 ≡ front ++ verified_line = cancel (r.mid.slot 8).sent _ _ (sym p.1.2.sent ∙ sent_mid) in
          told p.1.0 (p.1.1 ∙ ap (λ (l : List ℕ). l ++ p.1.0) prefix)

  begun_on : new.begun ≡ r.mid.begun
  begun_on = elim (reported _ r.mid new r.found answered r.reports) [
    | inl h ↦ ap (λ (o : Outside). o.begun) h.2
    | inr h ↦ h.1.begun
  ]

  slot_on : (k : ℕ) → k ≢ 8 → new.slot k ≡ r.mid.slot k
  slot_on k ne = elim (reported _ r.mid new r.found answered r.reports) [
    | inl h ↦ ap (λ (o : Outside). o.slot k) h.2
    | inr h ↦ h.1.elsewhere k ne
  ]

  file_on : new.file ≡ r.mid.file
  file_on = elim (reported _ r.mid new r.found answered r.reports) [
    | inl h ↦ ap (λ (o : Outside). o.file) h.2
    | inr h ↦ h.1.file
  ]

  pub trim_only : OnlyTrims s old new
  trim_only = record {
    begun = omega (arith, begun_on, begins.few, zero);
    slots = λ k lt.
        slot_still s old r.mid new k (slot_on k (λ e. omega (arith, e, lt, begun_on, begins.few, zero)))
        (finds_slots lim s old r.mid r.found r.counts zero r.finds k (omega (arith, lt, begun_on)));
    file = λ other apart. ap (λ (f : List ℕ → Option (List ℕ)). f other) file_on ∙ finds_file lim s old r.mid r.found r.counts r.finds other apart;
    unread = λ k le ne. slot_on k ne ∙ begins.above k (omega (arith, le, begun_on));
  }

  gives_on : (o : Outside) → r.mid.slot 0 ≡ o.slot 0 → GivesFile 0 s.formula old o → GivesFile 0 s.formula old new
  gives_on o e h = gives_still 0 s.formula old old o new refl (formula_on ∙ e) h

  pub trim_gives : 1 ≤ new.begun → GivesFile 0 s.formula old new
  trim_gives le = at r.finds
    where
      at : Finds lim s old r.mid r.found r.counts → GivesFile 0 s.formula old new
      at (inl h) = gives_on r.mid refl (h.formula (omega (arith, le, begun_on)))
      at (inr h) = gives_on h.mid (formula_stays lim s old r.mid r.found r.counts h) h.formula

  -- a failed read, and a fault of a file that is written
  found_cause : FoundCause old r.mid r.found
  found_cause = at r.finds
    where
      of_read : (m : Outside) (o : Outcome) → HasReadCause old m o → FoundCause old m o
      of_read m outcome.Verified h = h
      of_read m (outcome.RejectedStep id x) h = h
      of_read m (outcome.RejectedLemma id x) h = h
      of_read m outcome.NoEmptyClause h = h
      of_read m (outcome.Usage k) h = h
      of_read m (outcome.Text w k p) h = h
      of_read m (outcome.Limit w k) h = h
      of_read m (outcome.SourceFault w) h = h
      of_read m (outcome.SinkFault w) h = absurd h
      of_read m (outcome.Helped t) h = h
      of_read m outcome.NoMemory h = h

      of_write : (w : Which) (o : Outcome) → (o ≡ outcome.Verified) ⊎ (o ≡ outcome.SinkFault w) → SinkCause old r.mid o → FoundCause old r.mid o
      of_write w o (inl e) h = subst (λ (x : Outcome). FoundCause old r.mid x) (sym e) tt
      of_write w o (inr e) h = subst (λ (x : Outcome). FoundCause old r.mid x) (sym e) (subst (λ (x : Outcome). SinkCause old r.mid x) e h)

      one : (w : Which) (name bytes : Option (List ℕ)) (a b : Outside) (o : Outcome) → WritesOne w name bytes a b o → (o ≡ outcome.Verified) ⊎ (o ≡ outcome.SinkFault w)
      one w (Some name) (Some bytes) a b o (inl h) = inl h.1
      one w (Some name) (Some bytes) a b o (inr h) = inr h.1
      one w (Some name) None a b o h = inl h.1
      one w None bytes a b o h = inl h.1

      at_write : (h : Trims lim s old r.mid r.found r.counts) (d : Decision) → Writes s d h.mid r.mid r.found → HasDecidedCause old h.mid d → FoundCause old r.mid r.found
      at_write h (stops x) k cause =
          subst (λ (o : Outcome). FoundCause old r.mid o) (sym k.1) (subst (λ (o : Outside). FoundCause old o x) (sym k.0) (of_read h.mid x cause))
      at_write h (trims f ds steps) k cause =
          let sink = two_cause s.lsr _ s.core _ old h.mid r.mid r.found (reads_begin old h.mid zero h.reads) k in
          elim k [
            | inl b ↦ of_write which.Core r.found (one which.Core s.core _ b.mid r.mid r.found b.core_written) sink
            | inr b ↦ of_write which.Lsr r.found (one which.Lsr s.lsr _ h.mid r.mid r.found b.0) sink
          ]

      at : Finds lim s old r.mid r.found r.counts → FoundCause old r.mid r.found
      at (inl h) = subst (λ (x : Outcome). FoundCause old r.mid x) (sym h.is) tt
      at (inr h) = at_write h h.decision h.writes h.cause

  cause_mid : (o : Outcome) → FoundCause old r.mid o → HasFilesCause old r.mid o
  cause_mid outcome.Verified h = h
  cause_mid (outcome.RejectedStep id x) h = h
  cause_mid (outcome.RejectedLemma id x) h = h
  cause_mid outcome.NoEmptyClause h = h
  cause_mid (outcome.Usage k) h = h
  cause_mid (outcome.Text w k p) h = h
  cause_mid (outcome.Limit w k) h = h
  cause_mid (outcome.SourceFault w) h = h
  cause_mid (outcome.SinkFault which.Formula) h = absurd h
  cause_mid (outcome.SinkFault which.Proof) h = absurd h
  cause_mid (outcome.SinkFault which.Lsr) h = h
  cause_mid (outcome.SinkFault which.Core) h = h
  cause_mid (outcome.SinkFault which.Report) h = absurd h
  cause_mid (outcome.Helped t) h = h
  cause_mid outcome.NoMemory h = h

  cause_on : (o : Outcome) → is_unreported o ≡ false → OnlyPrints r.mid new → HasFilesCause old r.mid o → HasFilesCause old new o
  cause_on outcome.Verified u only h = tt
  cause_on (outcome.RejectedStep id x) u only h = tt
  cause_on (outcome.RejectedLemma id x) u only h = tt
  cause_on outcome.NoEmptyClause u only h = tt
  cause_on (outcome.Usage k) u only h = tt
  cause_on (outcome.Text w k p) u only h = tt
  cause_on (outcome.Limit w k) u only h = tt
  cause_on (outcome.SourceFault which.Formula) u only h = (rw (only.elsewhere 0 (λ e. cc)) h.0, only.begun ∙ h.1)
  cause_on (outcome.SourceFault which.Proof) u only h = (rw (only.elsewhere 1 (λ e. cc)) h.0, only.begun ∙ h.1)
  cause_on (outcome.SourceFault which.Lsr) u only h = absurd h
  cause_on (outcome.SourceFault which.Core) u only h = absurd h
  cause_on (outcome.SourceFault which.Report) u only h = absurd h
  cause_on (outcome.SinkFault w) u only h = absurd cc
  cause_on (outcome.Helped t) u only h = tt
  cause_on outcome.NoMemory u only h = tt

  pub trim_cause : HasRunCause (words.trims s) old new answered
  trim_cause = at (reported _ r.mid new r.found answered r.reports)
    where
      at : ((is_unreported r.found ≡ true) × (answered ≡ r.found) × (new ≡ r.mid))
          ⊎ ((is_unreported r.found ≡ false) × OnlyPrints r.mid new × Reports (report command.Trim (trim_names s) (counts_shown s.stats r.found r.counts) r.found) r.mid new r.found answered) → HasFilesCause old new answered
      at (inl h) = subst (λ (x : Outcome). HasFilesCause old new x) (sym h.1) (subst (λ (o : Outside). HasFilesCause old o r.found) (sym h.2) (cause_mid r.found found_cause))
      at (inr (_, _, inl h)) = subst (λ (x : Outcome). HasFilesCause old new x) (sym h.0) tt
      at (inr (u, only, inr (inl h))) = subst (λ (x : Outcome). HasFilesCause old new x) (sym h.0) (cause_on r.found u only (cause_mid r.found found_cause))
      at (inr (_, _, inr (inr h))) = subst (λ (x : Outcome). HasFilesCause old new x) (sym h.0) (subst (λ (x : SlotState). Rose x.faults (new.slot 8).faults) output_same h.1.rose)

-- a run whose outcome isn't reported
pub runs_unreported : (lim : LimitValues) (s : TrimSaid) (old new : Outside) (o : Outcome) (k : Counts) → Finds lim s old new o k → is_unreported o ≡ true → RunsTrim lim s old new o
runs_unreported lim s old new o k h u = record { found = o; counts = k; mid = new; finds = h; reports = rw u (refl, refl) }

-- words that ask for `trim` and aren't read
pub trim_out : (lim : LimitValues) (s : TrimSaid) (o : Outside) → o.begun ≡ 0 → RunsTrim lim s o o outcome.NoMemory
trim_out lim s o zero = record {
  found = outcome.NoMemory;
  counts = record { clauses = 0; core = 0; lemmas = 0; steps = 0; hints = 0; passed = 0 };
  mid = o;
  finds = inl (record { is = refl; reads = inl refl; formula = λ le. absurd (omega (arith, le, zero)); proof = λ le. absurd (omega (arith, le, zero)) });
  reports = (refl, refl);
}

-- the counts that are shown
shown_counts : (b : Bool) (k : Counts) → reporting.reported b k ≡ counts_shown b outcome.Verified k
shown_counts true k = refl
shown_counts false k = refl

pub unshown_counts : (b : Bool) (o : Outcome) (k : Counts) → is_verified o ≡ false → None ≡ counts_shown b o k
unshown_counts true o k v = rw v refl
unshown_counts false o k v = refl

-- a run whose report was made before
pub runs_shown : (lim : LimitValues) (s : TrimSaid) (old mid new : Outside) (found answered : Outcome) (k : Counts) (bytes : List ℕ) → Finds lim s old mid found k
    → is_verified found ≡ true → HasReport (record { command = command.Trim; with_counts = s.stats }) found k bytes → OnlyPrints mid new → Shows bytes mid new found answered
    → RunsTrim lim s old new answered
runs_shown lim s old mid new found answered k bytes h v made only shows =
    let is : found ≡ outcome.Verified = verified_is found v in
    let u : is_unreported found ≡ false = ap is_unreported is in
    let e : bytes ≡ report command.Trim (trim_names s) (counts_shown s.stats found k) found =
    made is (trim_names s) ∙ ap (λ c. report command.Trim (trim_names s) c outcome.Verified) (shown_counts s.stats k)
    ∙ ap (λ (o : Outcome). report command.Trim (trim_names s) (counts_shown s.stats o k) o) (sym is) in
    record {
      found = found;
      counts = k;
      mid = mid;
      finds = h;
      reports = rw u (only, inr (subst (λ b. Shows b mid new found answered) e shows));
    }

-- a run whose outcome is reported
pub runs_reported : (lim : LimitValues) (s : TrimSaid) (old mid new : Outside) (found answered : Outcome) (k : Counts) → Finds lim s old mid found k
    → is_verified found ≡ false → is_unreported found ≡ false → OnlyPrints mid new
    → Reports (report command.Trim (trim_names s) None found) mid new found answered → RunsTrim lim s old new answered
runs_reported lim s old mid new found answered k h v u only r = record {
  found = found;
  counts = k;
  mid = mid;
  finds = h;
  reports = rw u (only, subst (λ c. Reports (report command.Trim (trim_names s) c found) mid new found answered) (unshown_counts s.stats found k v) r);
}
