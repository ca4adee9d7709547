use Rattle.std.proofs.Common.{◌≡◌, ◌++◌, length, take}
use Rattle.sr_model.specs.Writing.{flat}
use Rattle.sr_scan.specs.Written.{written_literals}
use Rattle.sr_lemma.proofs.write.put_pairs.Given as goal

abbrev pub invariant-loop-map : goal.invariant-loop-map
invariant-loop-map l = record {
  written : l.out ≡ l.fn.out ++ written_literals l.form (flat (take l.map-index l.maps));
  before : l.before ≡ length l.fn.out;
}
