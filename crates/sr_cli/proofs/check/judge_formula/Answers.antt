use Rattle.std.proofs.Common.{◌≡◌, ◌∙◌, ◌+◌, ℕ, ap, sym, subst, refl, false, true, []}
use Rattle.sr_base.specs.declared.names.Which.TheVariants as which
use Rattle.sr_model.specs.Chain.{clauses}
use Rattle.sr_model.specs.Refutation.{has_empty}
use Rattle.sr_desk.specs.Outside.{OnlyReads, Rose}
use Rattle.sr_desk.specs.Reader.{Reader}
use Rattle.sr_check.specs.Checking.{Checking}
use Rattle.sr_scan.specs.Left.{is_source}
use Rattle.sr_files.specs.Files.{fresh, ReadsSlots, Opened, GivesFile, IsUnread}
use Rattle.sr_cli.specs.Check.{counts_of}
use Rattle.sr_cli.specs.Runs.{HasFileCause, counts_by}
use Rattle.sr_cli.specs.declared.check.Checked.{Checked}
use Rattle.sr_cli.proofs.Judging.{first_clauses, fresh_self, proof_judged}
use Rattle.sr_cli.proofs.Opening.{judged_file, open_failed, refuted_judged}
use Rattle.sr_cli.proofs.check.judge_formula.Goals as goal

pub returns : goal.returns
returns g c =
    let o0 = g.D.Desk.outside c.args.desk.now in
    let o1 = g.D.Desk.outside c.open_file.new.desk in
    let o2 = g.D.Desk.outside c.judge_proof-outcome.new.desk in
    let lim = c.args.limits.now in
    let form = c.args.words.now.proof_form in
    let same : clauses c.in-Ok.checker.state.live.clauses ≡ c.args.formula.clauses = first_clauses c.in-Ok.checker c.args.words.now.strict lim.cells c.args.formula.clauses c.in-Ok.ensures.ok in
    let strict : c.in-Ok.checker.strict ≡ c.args.words.now.strict = ap (λ (k : Checking). k.strict) c.in-Ok.ensures.ok in
    let reader : c.in-Ok-open_file.reader ≡ fresh 1 c.args.limits.now.bytes = c.in-Ok-open_file.ensures.reader ∙ ap (λ (n : ℕ). fresh n c.args.limits.now.bytes) c.requires in
    let slot : c.in-Ok-open_file.reader.slot ≡ 1 = ap (λ (r : Reader). r.slot) reader in
    let reads : ReadsSlots 2 o0 o1 = subst (λ (n : ℕ). ReadsSlots (n + 1) (g.D.Desk.outside c.args.desk.now) (g.D.Desk.outside c.open_file.new.desk)) c.requires c.in-Ok-open_file.ensures.slots in
    let opened : Opened 1 c.args.words.now.proof.now o0 o1 = subst (λ (n : ℕ). Opened n c.args.words.now.proof.now (g.D.Desk.outside c.args.desk.now) (g.D.Desk.outside c.open_file.new.desk)) slot c.in-Ok-open_file.ensures.opened in
    let only : OnlyReads 1 o1 o2 = subst (λ (n : ℕ). OnlyReads n (g.D.Desk.outside c.open_file.new.desk) (g.D.Desk.outside c.judge_proof-outcome.new.desk)) slot c.judge_proof-outcome.ensures.only in
    let cause : HasFileCause which.Proof 1 o1 o2 c.judge_proof-outcome.result =
    subst (λ (n : ℕ). HasFileCause which.Proof n (g.D.Desk.outside c.open_file.new.desk) (g.D.Desk.outside c.judge_proof-outcome.new.desk) c.judge_proof-outcome.result) slot c.judge_proof-outcome.ensures.cause in
    let full : has_empty c.args.formula.clauses ≡ false = sym c.has_empty-is_refuted.ensures ∙ c.if-is_refuted.false in
    proof_judged lim form c.args.words.now.strict c.args.formula.clauses c.args.words.now.proof.now c.with_counts-2.result o0 o1 o2 c.judge_proof-outcome.new.tally c.judge_proof-outcome.result
    c.in-Ok.ensures.fits full c.requires reads only opened (ap (λ (r : Checked). r.outcome) c.with_counts-2.ensures)
    (ap (λ (r : Checked). r.counts) c.with_counts-2.ensures ∙ ap (λ n. record (counts_by c.args.formula.clauses c.judge_proof-outcome.new.tally) { clauses = n }) c.count-clauses.ensures.value)
    (judged_file lim form c.in-Ok.checker.strict c.args.words.now.strict (clauses c.in-Ok.checker.state.live.clauses) c.args.formula.clauses c.in-Ok-open_file.reader o2 c.judge_proof-outcome.result c.judge_proof-outcome.new.tally
    strict same reader c.judge_proof-outcome.ensures.judges) cause

pub returns-then-is_refuted : goal.returns-then-is_refuted
returns-then-is_refuted g c =
    refuted_judged c.args.limits.now c.args.words.now.proof_form c.args.words.now.strict c.args.formula.clauses c.args.words.now.proof.now c.with_counts-then-is_refuted.result (g.D.Desk.outside c.args.desk.now)
    c.in-Ok.ensures.fits (sym c.has_empty-is_refuted.ensures ∙ c.if-is_refuted.true) c.requires (ap (λ (r : Checked). r.outcome) c.with_counts-then-is_refuted.ensures)
    (ap (λ (r : Checked). r.counts) c.with_counts-then-is_refuted.ensures ∙ ap (λ n. record (counts_of c.args.formula.clauses []) { clauses = n }) c.count-clauses.ensures.value)

pub returns-in-Err : goal.returns-in-Err
returns-in-Err g c =
    let o0 = g.D.Desk.outside c.args.desk.now in
    let o1 = g.D.Desk.outside c.open_file.new.desk in
    let reads : ReadsSlots 2 o0 o1 = subst (λ (n : ℕ). ReadsSlots (n + 1) (g.D.Desk.outside c.args.desk.now) (g.D.Desk.outside c.open_file.new.desk)) c.requires c.in-Err.ensures.slots in
    let gives : GivesFile 1 c.args.words.now.proof.now o0 o1 = subst (λ (n : ℕ). GivesFile n c.args.words.now.proof.now (g.D.Desk.outside c.args.desk.now) (g.D.Desk.outside c.open_file.new.desk)) c.requires c.in-Err.ensures.file in
    let unread : is_source c.in-Err.error ≡ true → IsUnread (o1.slot 1) = subst (λ (n : ℕ). is_source c.in-Err.error ≡ true → IsUnread ((g.D.Desk.outside c.open_file.new.desk).slot n)) c.requires c.in-Err.ensures.unread in
    let rose : is_source c.in-Err.error ≡ true → Rose (o0.slot 1).faults (o1.slot 1).faults =
    subst (λ (n : ℕ). is_source c.in-Err.error ≡ true → Rose ((g.D.Desk.outside c.args.desk.now).slot n).faults ((g.D.Desk.outside c.open_file.new.desk).slot n).faults) c.requires c.in-Err.ensures.cause in
    open_failed c.args.limits.now c.args.words.now.proof_form c.args.words.now.strict c.args.formula.clauses c.args.words.now.proof.now c.with_counts-in-Err.result o0 o1 c.in-Err.error
    c.in-Ok.ensures.fits (sym c.has_empty-is_refuted.ensures ∙ c.if-is_refuted.false) reads gives c.in-Err.ensures.kinds unread rose
    (ap (λ (r : Checked). r.outcome) c.with_counts-in-Err.ensures ∙ c.outcome_of.ensures)

pub judge_proof-outcome-requires : goal.judge_proof-outcome-requires
judge_proof-outcome-requires g c κs sub = (
  sub,
  (
    c.in-Ok-open_file.ensures.stands,
    (
      fresh_self c.in-Ok.checker c.args.words.now.strict c.args.limits.now.cells c.args.formula.clauses c.in-Ok.ensures.ok,
      (ap has_empty (first_clauses c.in-Ok.checker c.args.words.now.strict c.args.limits.now.cells c.args.formula.clauses c.in-Ok.ensures.ok) ∙ sym c.has_empty-is_refuted.ensures ∙ c.if-is_refuted.false, refl),
    ),
  ),
)
