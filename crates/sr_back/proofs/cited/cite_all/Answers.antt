use Rattle.std.proofs.Common.{rules, ◌≡◌, true, take, get_or, subst, sym, arith}
use Rattle.std.proofs.lemmas.List.{take_more}
use Rattle.sr_model.specs.Assignment.{holds_number}
use Rattle.sr_trimming.specs.Placing.{numbers}
use Rattle.sr_load.specs.Loaded.{alive_in}
use Rattle.sr_back.specs.Citing.{CitesAll}
use Rattle.sr_back.proofs.Indexing.{cites_then, hint_there}
use Rattle.sr_back.proofs.cited.cite_all.Goals as goal

pub cite-requires-clause-alive : goal.cite-requires-clause-alive
cite-requires-clause-alive g c =
    subst (λ st. holds_number (get_or c.args.ids.now c.loop-id.id-index 0) (numbers (alive_in st)) ≡ true) (sym c.loop-id.invariant.cites.same)
    (c.requires.alive (get_or c.args.ids.now c.loop-id.id-index 0) (hint_there c.args.ids.now c.loop-id.id-index (omega arith)))

pub loop-id-preserved : goal.loop-id-preserved
loop-id-preserved g c = record {
  cites = subst (CitesAll (g.L.Loaded.state c.args.loaded.now) (g.L.Loaded.state c.cite.new.loaded)) (sym (take_more c.args.ids.now c.loop-id.id-index 0 (omega arith)))
      (cites_then (g.L.Loaded.state c.args.loaded.now) (g.L.Loaded.state c.loop-id.loaded) (g.L.Loaded.state c.cite.new.loaded) (take c.loop-id.id-index c.args.ids.now) (get_or c.args.ids.now c.loop-id.id-index 0) c.loop-id.invariant.cites c.in_ok-cite.ensures.cites);
  index = c.in_ok-cite.ensures.index;
  made = search rules;
}
