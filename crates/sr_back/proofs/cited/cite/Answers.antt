use Rattle.std.proofs.Common.{◌<◌, subst, sym}
use Rattle.sr_load.specs.Loaded.{next_of}
use Rattle.sr_back.proofs.Indexing.{alive_positive, alive_high, cite_indexed, cites_one}
use Rattle.sr_back.proofs.cited.cite.Goals as goal

pub enter-requires-clause-low : goal.enter-requires-clause-low
enter-requires-clause-low g c = alive_positive (g.L.Loaded.state c.args.loaded.now) c.args.id c.requires.alive

pub enter-requires-clause-high : goal.enter-requires-clause-high
enter-requires-clause-high g c = subst (λ st. c.args.id < next_of st) (sym c.in_ok-cite.ensures.ok) (alive_high (g.L.Loaded.state c.args.loaded.now) c.args.id c.requires.alive)

pub returns-clause-cites : goal.returns-clause-cites
returns-clause-cites g c = cites_one (g.L.Loaded.state c.args.loaded.now) (g.L.Loaded.state c.cite.new.self) c.args.id c.in_ok-cite.ensures.ok

pub returns-clause-index : goal.returns-clause-index
returns-clause-index g c = cite_indexed (g.L.Loaded.state c.args.loaded.now) (g.L.Loaded.state c.cite.new.self) c.args.index.now c.enter.new.self c.args.id c.requires.alive c.in_ok-cite.ensures.ok c.in_ok-enter.ensures c.requires.index
