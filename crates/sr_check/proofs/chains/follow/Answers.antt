use Rattle.std.proofs.Common.{refl, arith, get_or, [], ◌∙◌, ap, ◌+◌}
use Rattle.std.proofs.lemmas.List.{take_rest}
use Rattle.sr_model.specs.Chain.{clauses}
use Rattle.sr_check.specs.Ends.{chain_end}
use Rattle.sr_check.proofs.Following.{clauses_more, covered_ahead, first_at, follow_step, front_add, closed_somehow}
use Rattle.sr_check.proofs.chains.follow.Goals as goal

pub follow_one-requires : goal.follow_one-requires
follow_one-requires c =
    covered_ahead c.loop-i.trail.room c.args.live.now (get_or c.args.hints.now c.loop-i.i 0) c.loop-i.ahead
    (clauses_more c.args.trail.now.room c.loop-i.trail.room (clauses c.args.live.now) c.loop-i.invariant.front.room c.requires)
    (c.loop-i.invariant.ahead ∙ first_at c.args.live.now c.args.hints.now c.loop-i.i (omega arith))

pub loop-i-preserved : goal.loop-i-preserved
loop-i-preserved c = record {
  followed = follow_step c.args.strict c.args.live.now c.args.trail.now.lits c.loop-i.trail.lits c.add.new.self.lits c.args.hints.now c.loop-i.i (get_or c.args.hints.now c.loop-i.i 0) c.in-Adds.l (omega arith) refl c.loop-i.invariant.followed
      (rw (c.loop-i.invariant.ahead ∙ first_at c.args.live.now c.args.hints.now c.loop-i.i (omega arith)) at c.in-Adds.ensures) c.in_ok-add-in-Adds.ensures.ok;
  ahead = rw (take_rest c.args.hints.now (c.loop-i.i + 1)) at c.first_clause-ahead-in-loop-i.ensures;
  front = front_add c.args.trail.now c.loop-i.trail c.add.new.self c.in-Adds.l c.loop-i.invariant.front c.in_ok-add-in-Adds.ensures.ok c.in_ok-add-in-Adds.ensures.room;
}

pub returns-then-has_pair-clause-open : goal.returns-then-has_pair-clause-open
returns-then-has_pair-clause-open c e = absurd (closed_somehow c.args.strict c.args.hints.now [] (c.closed_before.ensures [] ∙ ap (λ x. chain_end x []) e))
