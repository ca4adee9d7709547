use Rattle.std.proofs.lemmas.Result.{IfOk-weaker}
use Rattle.sr_back.specs.Testing.{steps_in}
use Rattle.sr_back.specs.Turning.{LemmaEnd}
use Rattle.sr_back.proofs.Lines.{turn_low, turn_high}
use Rattle.sr_back.proofs.Witnessed.{keeps_witnessed}
use Rattle.sr_back.proofs.passing.keep_by_witness.Goals as goal

pub own_witness-requires-clause-low : goal.own_witness-requires-clause-low
own_witness-requires-clause-low g c = turn_low (g.L.Loaded.state c.args.loaded.now) c.args.id (steps_in (g.L.Loaded.state c.args.loaded.now) c.args.steps.now) c.requires.open.turn

pub own_witness-requires-clause-high : goal.own_witness-requires-clause-high
own_witness-requires-clause-high g c = turn_high (g.L.Loaded.state c.args.loaded.now) c.args.id (steps_in (g.L.Loaded.state c.args.loaded.now) c.args.steps.now) c.requires.open.turn

pub find_groups-requires-clause-low : goal.find_groups-requires-clause-low
find_groups-requires-clause-low g c = turn_low (g.L.Loaded.state c.args.loaded.now) c.args.id (steps_in (g.L.Loaded.state c.args.loaded.now) c.args.steps.now) c.requires.open.turn

pub find_groups-requires-clause-high : goal.find_groups-requires-clause-high
find_groups-requires-clause-high g c = turn_high (g.L.Loaded.state c.args.loaded.now) c.args.id (steps_in (g.L.Loaded.state c.args.loaded.now) c.args.steps.now) c.requires.open.turn

pub returns-clause-kept : goal.returns-clause-kept
returns-clause-kept g c =
    let st = g.L.Loaded.state c.args.loaded.now in
    let o = c.requires.open in
    IfOk-weaker c.find_groups.result _ (LemmaEnd (g.L.Loaded.state c.find_groups.new.loaded) c.args.id c.find_groups.new.steps) (λ r h. keeps_witnessed st (g.L.Loaded.state c.find_groups.new.loaded) c.args.id c.args.steps.now c.find_groups.new.steps r o (h o.turn.place o.turn.is_place)) c.find_groups.ensures.groups
