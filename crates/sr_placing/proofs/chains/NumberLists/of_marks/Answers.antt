use Rattle.std.proofs.Common.{◌==◌, ◌+◌, ◌<◌, ◌≡◌, ℕ, [], length, drop, get_or, arith}
use Rattle.std.proofs.lemmas.Result.{IfOk-weaker}
use Rattle.sr_placing.specs.Marks.{numbers_where, AreChains}
use Rattle.sr_placing.proofs.Chaining.{chains_count, chain_at}
use Rattle.sr_placing.proofs.chains.NumberLists.of_marks.Goals as goal

pub of_chains-requires : goal.of_chains-requires
of_chains-requires c i h = (numbers_where (λ x. x == i + 1) 1 (drop 1 c.args.marks.now), c.chain_up.ensures i (omega arith))

pub returns : goal.returns
returns c = record {
  count = IfOk-weaker c.of_chains.result (AreChains c.chain_up.new.marks c.chain_up.new.heads) (λ lists. length lists ≡ length c.args.heads.now)
      (λ lists all. let n = chains_count c.chain_up.new.marks c.chain_up.new.heads lists all in omega arith) c.of_chains.ensures;
  lists = IfOk-weaker c.of_chains.result (AreChains c.chain_up.new.marks c.chain_up.new.heads)
      (λ lists. (i : ℕ) → i < length c.args.heads.now → get_or lists i [] ≡ numbers_where (λ x. x == i + 1) 1 (drop 1 c.args.marks.now))
      (λ lists all i h. chain_at c.chain_up.new.marks c.chain_up.new.heads lists i (numbers_where (λ x. x == i + 1) 1 (drop 1 c.args.marks.now)) all (omega arith) (c.chain_up.ensures i h)) c.of_chains.ensures;
}
