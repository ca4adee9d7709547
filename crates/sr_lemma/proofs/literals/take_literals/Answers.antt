use Rattle.std.proofs.Common.{arith, ◌≡◌, [], ◌∷◌, ◌++◌}
use Rattle.std.proofs.lemmas.Grind.{common_steps}
use Rattle.sr_lemma.proofs.LiteralLemmas.{takes_start, takes_next, stays_within}
use Rattle.sr_lemma.proofs.literals.take_literals.Goals as goal

pub loop-front-init : goal.loop-front-init
loop-front-init c = record { within = omega arith; takes = takes_start c.args.form c.args.bound c.args.reader.now c.args.lits.now }

pub loop-front-preserved : goal.loop-front-preserved
loop-front-preserved c =
    let old = c.loop-front.invariant in
    let front = c.in-Some.front in
    let pushed : c.push.new.self ≡ c.loop-front.lits ++ front.lit ∷ [] = grind (arith, common_steps) in
    record {
      within = stays_within c.args.form c.args.bound c.loop-front.at front.len c.buffered-bytes.result.now front.lit old.within c.in-Some.ensures;
      takes = takes_next c.args.form c.args.bound c.loop-front.at front.len c.args.reader.now c.buffered-bytes.result.now c.args.lits.now c.loop-front.lits c.push.new.self front.lit c.buffered-bytes.ensures old.within
          c.in-Some.ensures pushed old.takes;
    }
