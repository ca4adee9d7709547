use Rattle.std.proofs.Common.{◌≡◌, ◌+◌, ◌%◌, ◌^◌, length, take}
use Rattle.std.specs.Prelude.{sum_by}
use Rattle.sr_base.specs.Literal.{literal_code}
use Rattle.sr_load.specs.Buckets.{one_of, other_of}
use Rattle.sr_load.proofs.hashing.hash.Given as goal

abbrev pub invariant-loop-l : goal.invariant-loop-l
invariant-loop-l l = record {
  one : l.one ≡ (length l.lits + sum_by (λ k. one_of (literal_code k)) (take l.l-index l.lits)) % 2 ^ 64;
  other : l.other ≡ (length l.lits + sum_by (λ k. other_of (literal_code k)) (take l.l-index l.lits)) % 2 ^ 64;
}
