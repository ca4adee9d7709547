-- Two runs: one trims a proof, and one checks what was written.
use Rattle.std.proofs.Common.{◌≡◌, ◌∙◌, ◌⊎◌, inl, inr, ℕ, ◌-◌, ◌<◌, ◌≤◌, true, false, List, [], ◌++◌, Option, Some, None, cond, refl, sym, ap, subst, arith}
use Rattle.std.specs.Prelude.{is_some, option_map, IfSome}
use Rattle.sr_base.specs.Limits.{LimitValues}
use Rattle.sr_base.specs.Contents.{Ending, ended, Contents, whole}
use Rattle.sr_base.specs.declared.names.Which.TheVariants as which
use Rattle.sr_model.specs.ReadAgain.{AreLimits}
use Rattle.sr_model.proofs.Soundness.{by_test}
use Rattle.sr_desk.specs.Outside.{SlotState, Outside, Agrees}
use Rattle.sr_files.specs.Files.{ReadsFiles}
use Rattle.sr_files.specs.Written.{IsWritten}
use Rattle.sr_emit.specs.declared.counts.Counts.{Counts}
use Rattle.sr_emit.specs.declared.outcome.Outcome.{Outcome}
use Rattle.sr_emit.specs.declared.outcome.Outcome.TheVariants as outcome
use Rattle.sr_trim.specs.Said.{TrimSaid}
use Rattle.sr_trim.specs.Trimming.{lsr_text, core_text}
use Rattle.sr_trim.specs.Deciding.{Decision, stops, trims}
use Rattle.sr_trim.specs.Outputs.{WritesOne, WritesTwo, Writes}
use Rattle.sr_trim.specs.Finding as trim
use Rattle.sr_cli.specs.Words.{Said, checks}
use Rattle.sr_cli.specs.Check.{IsFirst}
use Rattle.sr_cli.specs.Run.{OnlyPrints, Reports, Finds, is_unreported, ReportsTrim}
use Rattle.sr_accepts.specs.Running.{proof_slot, TrimThenCheck}
use Rattle.sr_accepts.proofs.Loads.{IsWithin, decided_within}
use Rattle.sr_accepts.proofs.Accepts.{within_accepted}

-- where reads ended so, no bytes are left, and the contents end alike
abbrev EndsAs : Option Ending → List ℕ → Ending → Type 0
EndsAs o more ending = IfSome o (λ e. (more ≡ []) × (ending ≡ e))

-- some contents agree with what a slot gave
agrees_some : (s : SlotState) → (c : Contents) × Agrees s c
agrees_some s = at s.ending refl
  where
    at : (e : Option Ending) → s.ending ≡ e → (c : Contents) × Agrees s c
    at None h = (whole (s.given ++ []), record { more = []; bytes = refl; ending = subst (λ x. EndsAs x [] ended) (sym h) tt })
    at (Some e) h = (record { bytes = s.given ++ []; ending = e }, record { more = []; bytes = refl; ending = subst (λ x. EndsAs x [] e) (sym h) (refl, refl) })

-- what a verified run of `trim` left before its report
record IsReported (mid new : Outside) (found : Outcome) : Type 0 where
  verified : found ≡ outcome.Verified
  begun : new.begun ≡ mid.begun
  slots : (k : ℕ) → k < 8 → new.slot k ≡ mid.slot k

found_verified : (bytes : List ℕ) (mid new : Outside) (found : Outcome) → Reports bytes mid new found outcome.Verified → found ≡ outcome.Verified
found_verified bytes mid new found (inl x) = let bad : outcome.Verified ≡ outcome.NoMemory = x.0 in absurd cc
found_verified bytes mid new found (inr (inl x)) = sym x.0
found_verified bytes mid new found (inr (inr x)) = let bad : outcome.Verified ≡ outcome.SinkFault which.Report = x.0 in absurd cc

trim_reported : (bytes : List ℕ) (mid new : Outside) (found : Outcome) → ReportsTrim bytes mid new found outcome.Verified → IsReported mid new found
trim_reported bytes mid new found r = by_test (is_unreported found)
    (λ t. let is : (outcome.Verified ≡ found) × (new ≡ mid) = rw t at r in
    record { verified = sym is.0; begun = ap (λ (o : Outside). o.begun) is.1; slots = λ k h. ap (λ (o : Outside). o.slot k) is.1 })
    (λ t. let is : OnlyPrints mid new × Reports bytes mid new found outcome.Verified = rw t at r in
    record { verified = found_verified bytes mid new found is.1; begun = is.0.begun; slots = λ k h. is.0.elsewhere k (λ e. absurd (omega arith)) })

begun_one : (old mid : Outside) → ReadsFiles old mid → (0 < mid.begun) × (mid.begun ≤ 2)
begun_one old mid (inl r) = (omega (arith, r.begun), omega (arith, r.begun))
begun_one old mid (inr r) = (omega (arith, r.begun), omega (arith, r.begun))

-- a file that is asked for is written whole where the outcome is that the proof is verified
written_whole : (name bytes : List ℕ) (old new : Outside) (o : Outcome) → WritesOne which.Lsr (Some name) (Some bytes) old new o → o ≡ outcome.Verified → IsWritten name bytes old new
written_whole name bytes old new o (inl w) e = w.0
written_whole name bytes old new o (inr w) e = let bad : outcome.SinkFault which.Lsr ≡ outcome.Verified = sym w.1 ∙ e in absurd cc

core_whole : (name bytes : List ℕ) (old new : Outside) (o : Outcome) → WritesOne which.Core (Some name) (Some bytes) old new o → o ≡ outcome.Verified → IsWritten name bytes old new
core_whole name bytes old new o (inl w) e = w.0
core_whole name bytes old new o (inr w) e = let bad : outcome.SinkFault which.Core ≡ outcome.Verified = sym w.1 ∙ e in absurd cc

-- the slot that was begun for the proof, and that of the formula
record IsSent (core : Option (List ℕ)) (old new : Outside) (text : List ℕ) : Type 0 where
  sent : (new.slot (cond (is_some core) (new.begun - 2) (new.begun - 1))).sent ≡ text
  small : cond (is_some core) (new.begun - 2) (new.begun - 1) < 8
  formula : new.slot 0 ≡ old.slot 0

core_keeps : (core : Option (List ℕ)) (name text bytes : List ℕ) (old mid new : Outside) → 0 < old.begun → old.begun ≤ 2 → IsWritten name text old mid
    → WritesOne which.Core core (option_map (λ name. bytes) core) mid new outcome.Verified → IsSent core old new text
core_keeps None name text bytes old mid new some few w c =
    let is : new ≡ mid = c.0 in
    let place : mid.begun - 1 ≡ old.begun = omega (arith, w.only.begun) in
    subst (λ x. IsSent None old x text) (sym is) (record {
      sent = subst (λ n. (mid.slot n).sent ≡ text) (sym place) w.sent;
      small = omega arith;
      formula = w.only.elsewhere 0 (λ e. absurd (omega arith));
    })
core_keeps (Some core) name text bytes old mid new some few w c =
    let v = core_whole core bytes mid new outcome.Verified c refl in
    let place : new.begun - 2 ≡ old.begun = omega (arith, w.only.begun, v.only.begun) in
    let kept : new.slot old.begun ≡ mid.slot old.begun = v.only.elsewhere old.begun (λ e. absurd (omega (arith, w.only.begun))) in
    record {
      sent = subst (λ n. (new.slot n).sent ≡ text) (sym place) (ap (λ (x : SlotState). x.sent) kept ∙ w.sent);
      small = omega arith;
      formula = v.only.elsewhere 0 (λ e. absurd (omega (arith, w.only.begun))) ∙ w.only.elsewhere 0 (λ e. absurd (omega arith));
    }

both_written : (lsr core : Option (List ℕ)) (text bytes : List ℕ) (old new : Outside) → is_some lsr ≡ true → 0 < old.begun → old.begun ≤ 2
    → WritesTwo lsr (option_map (λ name. text) lsr) core (option_map (λ name. bytes) core) old new outcome.Verified → IsSent core old new text
both_written None core text bytes old new i some few w = absurd cc
both_written (Some name) core text bytes old new i some few (inl w) =
    core_keeps core name text bytes old w.mid new some few (written_whole name text old w.mid outcome.Verified w.lsr_written refl) w.core_written
both_written (Some name) core text bytes old new i some few (inr w) = let bad : true ≡ false = w.1 in absurd cc

-- what `check` finds, and what it answers
check_answers : (bytes : List ℕ) (old new : Outside) (found o : Outcome) → (found ≡ outcome.NoMemory) ⊎ (found ≡ outcome.Verified) → Reports bytes old new found o
    → (o ≡ outcome.Verified) ⊎ (o ≡ outcome.NoMemory) ⊎ (o ≡ outcome.SinkFault which.Report)
check_answers bytes old new found o f (inl r) = inr (inl r.0)
check_answers bytes old new found o (inl f) (inr (inl r)) = inr (inl (r.0 ∙ f))
check_answers bytes old new found o (inr f) (inr (inl r)) = inl (r.0 ∙ f)
check_answers bytes old new found o f (inr (inr r)) = inr (inr r.0)

-- after the report too the proof's slot was sent its bytes
sent_reported : (s : TrimSaid) (old mid new : Outside) (found : Outcome) (text : List ℕ) → IsReported mid new found → IsSent s.core old mid text → (new.slot (proof_slot s new)).sent ≡ text
sent_reported s old mid new found text rep sent =
    let place : proof_slot s new ≡ proof_slot s mid = ap (λ n. cond (is_some s.core) (n - 2) (n - 1)) rep.begun in
    let same : new.slot (proof_slot s new) ≡ mid.slot (proof_slot s mid) = ap (λ n. new.slot n) place ∙ rep.slots (proof_slot s mid) sent.small in
    ap (λ (x : SlotState). x.sent) same ∙ sent.sent

check_finds : (lim : LimitValues) (s : TrimSaid) (said : Said) (old mid new to : Outside) (found : Outcome) (d : Decision) (o : Outcome) (j : Counts) (formula : Contents)
    → AreLimits lim → is_some s.lsr ≡ true → said.proof_form ≡ s.lsr_form → 0 < old.begun → old.begun ≤ 2
    → IsWithin lim s formula d → Writes s d old mid outcome.Verified → IsReported mid new found → Finds lim (checks said) to o j
    → Agrees (to.slot 0) formula → Agrees (to.slot 1) (whole (new.slot (proof_slot s new)).sent) → (o ≡ outcome.NoMemory) ⊎ (o ≡ outcome.Verified)
check_finds lim s said old mid new to found (stops x) o j formula a i form some few w out rep f p q = absurd (w (sym out.1))
check_finds lim s said old mid new to found (trims f ds steps) o j formula a i form some few w out rep (inl n) p q = inl n
check_finds lim s said old mid new to found (trims f ds steps) o j formula a i form some few w out rep (inr e) p q =
    let text : List ℕ = lsr_text s.lsr_form f.clauses steps in
    let sent = both_written s.lsr s.core text (core_text f steps) old mid i some few out in
    let gives : Agrees (to.slot 1) (whole text) = subst (λ b. Agrees (to.slot 1) (whole b)) (sent_reported s old mid new found text rep sent) q in
    let first : IsFirst lim said formula (whole text) o j to.begun = e formula (whole text) p gives in
    inr (within_accepted lim s formula f ds steps said o j to.begun a w i form first).verified

-- the formula's slot is as it was before anything was written
formula_kept : (s : TrimSaid) (d : Decision) (old mid : Outside) → is_some s.lsr ≡ true → 0 < old.begun → old.begun ≤ 2 → Writes s d old mid outcome.Verified → mid.slot 0 ≡ old.slot 0
formula_kept s (stops x) old mid i some few w = ap (λ (o : Outside). o.slot 0) w.0
formula_kept s (trims f ds steps) old mid i some few w = (both_written s.lsr s.core (lsr_text s.lsr_form f.clauses steps) (core_text f steps) old mid i some few w).formula

trim_finds : (lim : LimitValues) (s : TrimSaid) (said : Said) (old mid new to : Outside) (found o : Outcome) (k j : Counts) (formula : Contents)
    → AreLimits lim → trim.Finds lim s old mid found k → IsReported mid new found → is_some s.lsr ≡ true → said.proof_form ≡ s.lsr_form → Finds lim (checks said) to o j
    → Agrees (new.slot 0) formula → Agrees (to.slot 0) formula → Agrees (to.slot 1) (whole (new.slot (proof_slot s new)).sent) → (o ≡ outcome.NoMemory) ⊎ (o ≡ outcome.Verified)
trim_finds lim s said old mid new to found o k j formula a (inl r) rep i form f p q u = let bad : outcome.NoMemory ≡ outcome.Verified = sym r.is ∙ rep.verified in absurd cc
trim_finds lim s said old mid new to found o k j formula a (inr t) rep i form f p q u =
    let n = begun_one old t.mid t.reads in
    let out : Writes s t.decision t.mid mid outcome.Verified = subst (Writes s t.decision t.mid mid) rep.verified t.writes in
    let same : new.slot 0 ≡ t.mid.slot 0 = rep.slots 0 (omega arith) ∙ formula_kept s t.decision t.mid mid i n.0 n.1 out in
    let proof = agrees_some (t.mid.slot 1) in
    let within = decided_within lim s formula proof.0 t.decision t.mid.begun (t.decided formula proof.0 (subst (λ x. Agrees x formula) same p) proof.1) in
    check_finds lim s said t.mid mid new to found t.decision o j formula a i form n.0 n.1 within out rep f q u

pub trim_then_check : TrimThenCheck
trim_then_check lim s said old new from to o formula a r i c form p q u =
    let rep = trim_reported _ r.mid new r.found r.reports in
    let found = trim_finds lim s said old r.mid new to r.found c.found r.counts c.counts formula a r.finds rep i form c.finds p q u in
    check_answers _ from to c.found o found c.reports
