use Rattle.std.proofs.Common.{◌≡◌, ◌∙◌, ◌++◌, ℕ, List, None, false, get_or, ap, refl, sym, subst, append-nil}
use Rattle.sr_model.specs.Judging.{stepped}
use Rattle.sr_model.specs.Writing.{written_item}
use Rattle.sr_steps.specs.Kept.{Kept, step_at}
use Rattle.sr_steps.specs.Adding.{bare}
use Rattle.sr_placing.specs.Parts.{start_put, hints_put}
use Rattle.sr_placing.proofs.Putting.{step_put}
use Rattle.sr_placing.proofs.step.put_last.Goals as goal

pub returns : goal.returns
returns g c =
    let k : Kept = get_or c.args.steps.now c.args.i (bare 0 false) in
    let whole : start_put c.args.form c.id.result ++ hints_put c.args.form k ≡ written_item c.args.form (stepped (step_at None k)) =
    ap (λ (n : ℕ). start_put c.args.form n ++ hints_put c.args.form k) c.id.ensures
    ∙ ap (λ x. x ++ hints_put c.args.form k) (sym (append-nil (start_put c.args.form k.id))) ∙ step_put c.args.form (step_at None k) k refl refl refl in
    subst (λ (x : List ℕ). g.S.Sink.puts c.args.sink.now c.args.out.now c.put_hints.new.sink c.put_hints.new.out x) whole (g.met.S.Sink.joined _ _ _ _ _ _ _ _ c.put_start.ensures c.put_hints.ensures)
