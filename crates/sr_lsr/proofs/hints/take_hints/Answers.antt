use Rattle.std.proofs.Common.{◌≤◌, length, drop, length-drop, arith}
use Rattle.sr_desk.specs.Reader.{buffered}
use Rattle.sr_lsr.proofs.HintLemmas.{leads_at, run_none, run_more}
use Rattle.sr_lsr.proofs.hints.take_hints.Goals as goal

pub hints-init : goal.hints-init
hints-init c = record {
  within = omega arith;
  small = λ s all. all;
  spells = run_none c.args.form c.args.bound c.args.reader.now c.args.hints.now;
}

pub hints-preserved : goal.hints-preserved
hints-preserved c =
    let r = c.args.reader.now in
    let front = c.in-Some.front in
    let leads = leads_at c.args.form r c.buffered-bytes.result.now c.hints.at c.args.bound front c.buffered-bytes.ensures c.in-Some.ensures in
    let inside : c.hints.at ≤ length (buffered r) = rw c.buffered-bytes.ensures at c.hints.invariant.within in
    let within : front.len ≤ length (drop c.hints.at (buffered r)) = leads.len_within in
    record {
      within = rw c.buffered-bytes.ensures (omega (arith, simp length-drop at within));
      small = λ s all. c.in_ok-add.ensures.small (omega (arith, leads.within, s)) (c.hints.invariant.small s all);
      spells = run_more c.args.form c.args.bound r c.hints.at front c.args.hints.now c.hints.hints c.add.new.self leads inside c.in_ok-add.ensures.spells c.hints.invariant.spells;
    }

pub returns-clause-spells : goal.returns-clause-spells
returns-clause-spells c = rw c.skip.ensures c.hints.invariant.spells
