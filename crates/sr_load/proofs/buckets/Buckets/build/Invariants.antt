use Rattle.sr_load.specs.Loaded.{alive_in}
use Rattle.sr_load.specs.Buckets.{IsIndexed}
use Rattle.sr_load.proofs.buckets.Buckets.build.Given as goal

abbrev pub invariant-loop-id : goal.invariant-loop-id
invariant-loop-id l = IsIndexed (alive_in l.timeline) l.id l.table
