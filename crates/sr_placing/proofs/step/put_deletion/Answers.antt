use Rattle.std.proofs.Common.{◌≡◌, ◌≢◌, ℕ, List, [], length, subst, ap, arith}
use Rattle.std.proofs.lemmas.Grind.{common_steps}
use Rattle.sr_placing.proofs.Putting.{deletion_put}
use Rattle.sr_placing.proofs.step.put_deletion.Goals as goal

pub returns : goal.returns
returns g c =
    let some : c.args.ids.now ≢ [] = λ e. let n : length c.args.ids.now ≡ 0 = ap length e in absurd (grind (arith, common_steps)) in
    let both = g.met.S.Sink.joined _ _ _ _ _ _ _ _ c.put_drop_start.ensures c.put_ids.ensures in
    subst (λ (x : List ℕ). g.S.Sink.puts c.args.sink.now c.args.out.now c.put_end.new.sink c.put_end.new.out x) (deletion_put c.args.form c.args.id c.args.ids.now some)
    (g.met.S.Sink.joined _ _ _ _ _ _ _ _ both c.put_end.ensures)
