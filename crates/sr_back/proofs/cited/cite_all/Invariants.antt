use Rattle.std.proofs.Common.{◌≡◌, take}
use Rattle.sr_back.specs.Citing.{CitesAll, KeepsIndex}
use Rattle.sr_back.proofs.cited.cite_all.Given as goal

abbrev pub invariant-loop-id : goal.invariant-loop-id
invariant-loop-id g l = record {
  cites : CitesAll (g.L.Loaded.state l.fn.loaded) (g.L.Loaded.state l.loaded) (take l.id-index l.ids);
  index : KeepsIndex (g.L.Loaded.state l.loaded) l.index;
  made : l.index.lists.built ≡ l.fn.index.lists.built;
}
