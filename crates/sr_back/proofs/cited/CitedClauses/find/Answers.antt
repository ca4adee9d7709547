use Rattle.std.proofs.Common.{◌≡◌, ◌==◌, true, false, not, get_or, subst, sym, refl, arith}
use Rattle.std.proofs.lemmas.List.{take_all}
use Rattle.std.proofs.lemmas.Bool.Decides.{nat_tests}
use Rattle.sr_model.specs.Assignment.{holds_number}
use Rattle.sr_model.specs.Substitution.{substitution}
use Rattle.sr_table.specs.Pages.{entry}
use Rattle.sr_occurs.specs.Candidates.{GathersLeft}
use Rattle.sr_back.proofs.Indexing.{finds, still_indexed, led_none, led_more, put_more, put_same}
use Rattle.sr_back.proofs.cited.CitedClauses.find.Goals as goal
use Rattle.sr_back.proofs.cited.CitedClauses.find.Goals.{then-get-ne0+in_ok-put, else-get-ne0}

pub loop-id-init : goal.loop-id-init
loop-id-init c = record { led = led_none c.args.self.now.table c.args.queue.now c.requires; put = λ n h. absurd cc }

pub loop-id-preserved : goal.loop-id-preserved
loop-id-preserved c =
    let at = get_or c.as_slice-id-items.result.now c.loop-id.id-index 0 in
    elim c.if-get-ne0.branch [
      | then-get-ne0+in_ok-put w ↦
          let led : not (entry c.args.self.now.table at == 0) ≡ true = grind (arith, nat_tests, c.get.ensures, w.if-get-ne0.true) in
          record {
            led = λ n h. led_more c.args.self.now.table c.loop-id.queue w.put.new.self at w.in_ok-put.ensures.puts led c.loop-id.invariant.led n (subst (λ q. holds_number n q ≡ true) w.queue-is h);
            put = λ n h t. subst (λ q. holds_number n q ≡ true) (sym w.queue-is) (put_more c.args.self.now.table c.as_slice-id-items.result.now c.loop-id.queue w.put.new.self c.loop-id.id-index at c.loop-id-test.true refl w.in_ok-put.ensures.puts c.loop-id.invariant.put n h t);
          }
      | else-get-ne0 w ↦
          let led : not (entry c.args.self.now.table at == 0) ≡ false = grind (arith, nat_tests, c.get.ensures, w.if-get-ne0.false) in
          record {
            led = λ n h. c.loop-id.invariant.led n (subst (λ q. holds_number n q ≡ true) w.queue-is h);
            put = λ n h t. subst (λ q. holds_number n q ≡ true) (sym w.queue-is) (put_same c.args.self.now.table c.as_slice-id-items.result.now c.loop-id.queue c.loop-id.id-index at c.loop-id-test.true refl led c.loop-id.invariant.put n h t);
          }
    ]

pub returns-clause-finds : goal.returns-clause-finds
returns-clause-finds c st a i b =
    finds st c.args.self.now c.args.subst.now c.as_slice-id-items.result.now c.loop-id.queue a i b
    (subst (λ ns. GathersLeft c.args.self.now.table c.args.self.now.lists (substitution c.args.subst.now) ns) (sym c.as_slice-id-items.ensures.value) c.in_ok-gather_candidates.ensures.left)
    c.loop-id.invariant.led
    (λ n h l. c.loop-id.invariant.put n (subst (λ ns. holds_number n ns ≡ true) (sym (take_all c.loop-id.id-index c.as_slice-id-items.result.now (omega arith))) h) l)

pub returns-clause-index : goal.returns-clause-index
returns-clause-index c st a i b = still_indexed st c.args.self.now _ a i b refl c.in_ok-gather_candidates.ensures.listed
