use Rattle.std.proofs.Common.{inr}
use Rattle.sr_trim.specs.Said.{trim_said}
use Rattle.sr_trim.proofs.Passed.{too_long}
use Rattle.sr_trim.proofs.ready.prepare.Goals as goal

pub returns-in-Some-clause-prepares : goal.returns-in-Some-clause-prepares
returns-in-Some-clause-prepares g c =
    let st = g.L.Loaded.state c.args.loaded.now in
    inr (too_long c.args.limits.now (trim_said c.args.words.now) st c.args.steps c.count-counts.ensures.distinct c.requires.writable c.in-Some.which c.in-Some.ensures)

pub returns-clause-prepares : goal.returns-clause-prepares
returns-clause-prepares g c = record {
  writable = c.requires.writable;
  distinct = c.count-counts.ensures.distinct;
  placed = c.in-Ok.ensures;
  fits = c.in_default-too_long.ensures;
  counts = c.count-counts.ensures.counts;
}
