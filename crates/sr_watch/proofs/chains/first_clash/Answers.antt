use Rattle.std.proofs.Common.{◌≡◌, ◌<◌, ◌≤◌, sym, ap, subst, arith, length}
use Rattle.std.specs.Prelude.{nat_le}
use Rattle.std.proofs.lemmas.Bool.Decides.{nat_tests}
use Rattle.sr_model.proofs.Soundness.{by_test}
use Rattle.sr_watch.specs.Running.{IsClash, ClashesWith}
use Rattle.sr_watch.proofs.Clashing.{no_clash, no_early_clash, no_clash_before}
use Rattle.sr_watch.proofs.Entries.{by_eq}
use Rattle.sr_watch.proofs.chains.first_clash.Goals as goal

pub returns-then-pair-eq0-clause-before : goal.returns-then-pair-eq0-clause-before
returns-then-pair-eq0-clause-before c = no_clash c.args.trail.now.lits c.args.trail.now.reasons (length c.lits-count.result.now) (c.clash-pair.ensures.none c.if-pair-eq0.true) (omega (arith, ap length c.lits-count.ensures.value))

pub loop-i-init : goal.loop-i-init
loop-i-init c = record {
  within = omega (arith, ap length c.lits-count.ensures.value);
  here = λ lt. absurd (omega (arith, ap length c.lits-count.ensures.value));
  before = λ j i lt w. absurd (no_early_clash c.args.trail.now.lits c.args.trail.now.reasons c.clash-pair.result i j c.requires c.clash-pair.ensures c.if-pair-eq0.false lt w);
}

pub loop-i-preserved : goal.loop-i-preserved
loop-i-preserved c = record {
  within = omega arith;
  here = by_test (nat_le c.loop-i.first c.clash_with.result)
      (λ t. let e : c.min-first.result ≡ c.loop-i.first = (let le : c.loop-i.first ≤ c.clash_with.result = grind (arith, nat_tests) in omega arith) in subst (λ n. n < length c.args.trail.now.lits → IsClash c.args.trail.now.lits c.args.trail.now.reasons n) (sym e) c.loop-i.invariant.here)
      (λ t. let e : c.min-first.result ≡ c.clash_with.result = (let le : c.clash_with.result < c.loop-i.first = grind (arith, nat_tests) in omega arith) in subst (λ n. n < length c.args.trail.now.lits → IsClash c.args.trail.now.lits c.args.trail.now.reasons n) (sym e) c.clash_with.ensures.here);
  before = λ j i lt w. by_eq i c.loop-i.i
      (λ e. omega (arith, c.clash_with.ensures.only j (subst (ClashesWith c.args.trail.now.lits c.args.trail.now.reasons j) e w)))
      (λ ne. omega (arith, c.loop-i.invariant.before j i (omega (arith, ne)) w));
}

pub returns-clause-before : goal.returns-clause-before
returns-clause-before c = no_clash_before c.args.trail.now.lits c.args.trail.now.reasons c.loop-i.first c.lits-count.ensures.entries.sizes c.loop-i.invariant.within (λ j i lt w. c.loop-i.invariant.before j i (omega (arith, ap length c.lits-count.ensures.value)) w)
