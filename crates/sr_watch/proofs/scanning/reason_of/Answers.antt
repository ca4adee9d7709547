use Rattle.std.proofs.Common.{◌≡◌, arith, sym, ◌∙◌, true, false, ◌==◌, get_or}
use Rattle.std.proofs.lemmas.Bool.Decides.{nat_tests}
use Rattle.sr_base.specs.Literal.{variable}
use Rattle.sr_watch.proofs.Entries.{reason_step}
use Rattle.sr_watch.proofs.scanning.reason_of.Goals as goal
use Rattle.sr_watch.proofs.scanning.reason_of.Goals.{else-var-via-then-var+else-reasons-i-ne0, else-var-via-else-var}

pub loop-i-preserved : goal.loop-i-preserved
loop-i-preserved c =
    let step = reason_step c.args.trail.now c.args.reasons.now c.loop-i.i c.index-trail-i.result c.args.var (omega arith) c.requires c.index-trail-i.is in
    elim c.else-var.branch [
      | else-var-via-then-var+else-reasons-i-ne0 w ↦
          let mine : (variable c.index-trail-i.result == c.args.var) ≡ true = let e : variable c.index-trail-i.result ≡ c.args.var = sym c.var.ensures.value ∙ w.if-var.true in grind (arith, nat_tests) in
          let zero : (get_or c.args.reasons.now c.loop-i.i 0 == 0) ≡ true = let e = w.if-reasons-i-ne0.false in grind (arith, nat_tests) in
          sym (rw (mine, zero) at step) ∙ c.loop-i.invariant
      | else-var-via-else-var w ↦
          let other : (variable c.index-trail-i.result == c.args.var) ≡ false = let e = w.if-var.false in let v = c.var.ensures.value in grind (arith, nat_tests) in
          sym (rw other at step) ∙ c.loop-i.invariant
    ]
