use Rattle.std.proofs.Common.{◌≡◌, ◌∙◌, ◌++◌, ℕ, List, cond, None, false, get_or, ap, refl, sym, subst}
use Rattle.sr_model.specs.Meeting.{Step}
use Rattle.sr_model.specs.Judging.{stepped}
use Rattle.sr_model.specs.Writing.{literals_written, written_item}
use Rattle.sr_trimming.specs.From.{witness_of}
use Rattle.sr_scan.specs.Written.{written_numbers}
use Rattle.sr_steps.specs.Kept.{Kept}
use Rattle.sr_steps.specs.Adding.{bare}
use Rattle.sr_load.specs.Loaded.{LoadedState}
use Rattle.sr_placing.specs.Parts.{start_put, hints_put, IsPlaceOf}
use Rattle.sr_placing.proofs.Putting.{step_put}
use Rattle.sr_placing.proofs.step.put_step.Goals as goal

pub returns-clause-put : goal.returns-clause-put
returns-clause-put g c p is =
    let st : LoadedState = g.L.Loaded.state c.args.loaded.now in
    let k : Kept = get_or c.args.steps.now c.args.i (bare 0 false) in
    let put = c.put_lemma.ensures.put p (subst (λ (n : ℕ). IsPlaceOf st n p) (sym c.id-2.ensures) is) in
    let t : Step = record { id = k.id; clause = put.0; witness = cond k.by_witness (witness_of p.stated) None; prefix = k.prefix; groups = k.groups } in
    let bytes : (start_put c.args.form c.id.result ++ written_numbers c.args.form (literals_written put.0 (cond c.is_by_witness.result (witness_of p.stated) None))) ++ hints_put c.args.form k ≡ written_item c.args.form (stepped t) =
    ap (λ (n : ℕ). (start_put c.args.form n ++ written_numbers c.args.form (literals_written put.0 (cond c.is_by_witness.result (witness_of p.stated) None))) ++ hints_put c.args.form k) c.id.ensures
    ∙ ap (λ b. (start_put c.args.form k.id ++ written_numbers c.args.form (literals_written put.0 (cond b (witness_of p.stated) None))) ++ hints_put c.args.form k) c.is_by_witness.ensures
    ∙ step_put c.args.form t k refl refl refl in (
      t,
      record { id = refl; clause = put.1; witness = refl; prefix = refl; groups = refl },
      subst (λ (x : List ℕ). g.S.Sink.puts c.args.sink.now c.args.out.now c.put_hints.new.sink c.put_hints.new.out x) bytes
          (g.met.S.Sink.joined _ _ _ _ _ _ _ _ (g.met.S.Sink.joined _ _ _ _ _ _ _ _ c.put_start.ensures put.2) c.put_hints.ensures),
    )
