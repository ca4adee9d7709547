use Rattle.std.proofs.Common.{◌≡◌, ℕ, List, ◌++◌, pos, subst}
use Rattle.std.specs.Prelude.{codes}
use Rattle.sr_scan.specs.Written.{written_number}
use Rattle.sr_lsr.specs.Written.{drop_start}
use Rattle.sr_placing.proofs.Putting.{drop_text}
use Rattle.sr_placing.proofs.step.put_drop_start.Goals as goal

pub returns-in-Text : goal.returns-in-Text
returns-in-Text g c =
    let same : written_number c.args.form (pos c.args.id) ++ codes "d " ≡ drop_start c.args.form c.args.id = rw c.in-Text.is (drop_text c.args.id) in
    subst (λ (x : List ℕ). g.S.Sink.puts c.args.sink.now c.args.out.now c.put.new.self c.put.new.out x) same (g.met.S.Sink.joined _ _ _ _ _ _ _ _ c.put_id.ensures c.put.ensures)
