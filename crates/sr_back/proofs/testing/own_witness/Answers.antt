use Rattle.std.proofs.Common.{sym}
use Rattle.sr_back.proofs.Trials.{has_written, has_pivot_only, written_there, none_there}
use Rattle.sr_back.proofs.testing.own_witness.Goals as goal

pub returns-then-is_some : goal.returns-then-is_some
returns-then-is_some g c =
    let p = c.requires.place in
    let w = written_there c.witness.result p.0.stated (sym c.if-is_some.ensures) (c.witness.ensures p.0 p.1) in
    has_written (g.L.Loaded.state c.args.loaded.now) c.args.lemma p.0 w.0 p.1 w.1

pub returns : goal.returns
returns g c =
    let p = c.requires.place in
    has_pivot_only (g.L.Loaded.state c.args.loaded.now) c.args.lemma p.0 c.pivot.result c.in_ok-pivot_only.field-0 p.1 (none_there c.witness.result p.0.stated (sym c.if-is_some.ensures) (c.witness.ensures p.0 p.1)) (c.pivot.ensures p.0 p.1) c.in_ok-pivot_only.ensures
