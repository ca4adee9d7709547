use Rattle.std.proofs.Common.{◌≡◌, None, false, refl, sym, ◌∙◌, ap, arith, take}
use Rattle.sr_watch.specs.Resting.{is_pending, AreShortListed}
use Rattle.sr_arena.specs.Cells.{cell_at}
use Rattle.sr_watch.proofs.Walks.{some_more}
use Rattle.sr_watch.proofs.Visits.{turned_start, attached_on}
use Rattle.sr_watch.proofs.OnWalk.{includes_kept, grown_longer, grown_on}
use Rattle.sr_watch.proofs.Shorts.{news_on}
use Rattle.sr_watch.proofs.Units.{settled_rests, pending_later, true_guards, shorts_later}
use Rattle.sr_watch.proofs.settling.settle_all.Goals as goal

pub returns-in-Some-clause-resting : goal.returns-in-Some-clause-resting
returns-in-Some-clause-resting g c = settled_rests c.args.core c.args.memory.now c.args.trail.now c.settle_units.new.trail c.args.watches.now (record { lists = c.settle_units.new.lists; done = c.args.watches.now.done; kept = c.args.watches.now.kept; pending = c.args.watches.now.pending; shade = c.settle_units.new.shade; top = c.settle_units.new.top }) refl refl
    c.settle_units.ensures.grown c.settle_units.ensures.sound c.settle_units.ensures.shape c.settle_units.ensures.ahead c.settle_units.ensures.stocked c.settle_units.ensures.linked c.settle_units.ensures.shaded c.settle_units.ensures.short
    (λ r z. z) (λ r t f b. absurd cc) c.requires.resting

pub settle_pending-requires-clause-held : goal.settle_pending-requires-clause-held
settle_pending-requires-clause-held g c r z = (c.requires.resting.pending r z).held

pub settle_pending-requires-clause-attached : goal.settle_pending-requires-clause-attached
settle_pending-requires-clause-attached g c r z = attached_on c.args.core c.args.memory.now c.settle_units.new.trail r (c.requires.resting.pending r z).on

pub settle_pending-requires-clause-stuck : goal.settle_pending-requires-clause-stuck
settle_pending-requires-clause-stuck g c r z = (pending_later c.args.core c.args.memory.now c.args.trail.now c.settle_units.new.trail r c.settle_units.ensures.grown (c.requires.resting.pending r z)).stuck

pub returns-in-Some-settle_pending-clause-settled : goal.returns-in-Some-settle_pending-clause-settled
returns-in-Some-settle_pending-clause-settled g c = record { on = (c.requires.resting.pending c.in-Some-settle_pending.at c.in-Some-settle_pending.ensures.settled.1).on; all_false = c.in-Some-settle_pending.ensures.settled.2 }

pub returns-in-Some-settle_pending-clause-step : goal.returns-in-Some-settle_pending-clause-step
returns-in-Some-settle_pending-clause-step g c =
    let gr = grown_on c.args.trail.now c.settle_units.new.trail c.settle_pending.new.trail c.settle_units.ensures.grown c.settle_pending.ensures.grown in
    record {
      turned = turned_start c.args.core c.args.memory.now;
      grown = gr;
      reasons = news_on c.args.core c.args.memory.now c.args.memory.now c.args.trail.now c.settle_units.new.trail c.settle_pending.new.trail (λ r. refl) c.settle_pending.ensures.grown c.settle_units.ensures.reasons
          (λ i le some. (c.requires.resting.pending _ (c.settle_pending.ensures.only i le some)).on);
    }

pub returns-in-Some-settle_pending-clause-resting : goal.returns-in-Some-settle_pending-clause-resting
returns-in-Some-settle_pending-clause-resting g c =
    let gr = grown_on c.args.trail.now c.settle_units.new.trail c.settle_pending.new.trail c.settle_units.ensures.grown c.settle_pending.ensures.grown in
    let longer = grown_longer c.settle_units.new.trail c.settle_pending.new.trail c.settle_pending.ensures.grown in
    let sh : AreShortListed c.args.core c.args.memory.now c.settle_units.new.lists (take c.settle_units.new.shade c.settle_pending.new.trail.lits) c.settle_pending.new.trail.reasons c.settle_units.new.top =
    shorts_later c.args.core c.args.memory.now c.settle_units.new.lists c.settle_units.new.trail c.settle_pending.new.trail c.settle_units.new.shade c.settle_units.new.top c.settle_units.ensures.sound.sizes c.in_default.ensures.settled c.settle_units.ensures.shaded c.settle_pending.ensures.grown c.settle_pending.ensures.sound c.settle_units.ensures.short in
    settled_rests c.args.core c.args.memory.now c.args.trail.now c.settle_pending.new.trail c.args.watches.now (record { lists = c.settle_units.new.lists; done = c.args.watches.now.done; kept = c.args.watches.now.kept; pending = c.settle_pending.new.pending; shade = c.settle_units.new.shade; top = c.settle_units.new.top }) refl refl
    gr c.settle_pending.ensures.sound c.settle_units.ensures.shape c.settle_units.ensures.ahead c.settle_units.ensures.stocked c.settle_units.ensures.linked (omega (arith, longer, c.settle_units.ensures.shaded)) sh
    (λ r z. ap (λ p. is_pending p r) (sym c.in-Some-settle_pending.ensures.settled.0) ∙ z) (λ r t f b. let u : is_pending c.args.watches.now.pending r ≡ false = ap (λ p. is_pending p r) (sym c.in-Some-settle_pending.ensures.settled.0) ∙ f in absurd cc) c.requires.resting

pub returns-clause-step : goal.returns-clause-step
returns-clause-step g c =
    let gr = grown_on c.args.trail.now c.settle_units.new.trail c.settle_pending.new.trail c.settle_units.ensures.grown c.settle_pending.ensures.grown in
    record {
      turned = turned_start c.args.core c.args.memory.now;
      grown = gr;
      reasons = news_on c.args.core c.args.memory.now c.args.memory.now c.args.trail.now c.settle_units.new.trail c.settle_pending.new.trail (λ r. refl) c.settle_pending.ensures.grown c.settle_units.ensures.reasons
          (λ i le some. (c.requires.resting.pending _ (c.settle_pending.ensures.only i le some)).on);
    }

pub returns-clause-resting : goal.returns-clause-resting
returns-clause-resting g c =
    let gr = grown_on c.args.trail.now c.settle_units.new.trail c.settle_pending.new.trail c.settle_units.ensures.grown c.settle_pending.ensures.grown in
    let longer = grown_longer c.settle_units.new.trail c.settle_pending.new.trail c.settle_pending.ensures.grown in
    let sh : AreShortListed c.args.core c.args.memory.now c.settle_units.new.lists (take c.settle_units.new.shade c.settle_pending.new.trail.lits) c.settle_pending.new.trail.reasons c.settle_units.new.top =
    shorts_later c.args.core c.args.memory.now c.settle_units.new.lists c.settle_units.new.trail c.settle_pending.new.trail c.settle_units.new.shade c.settle_units.new.top c.settle_units.ensures.sound.sizes c.in_default.ensures.settled c.settle_units.ensures.shaded c.settle_pending.ensures.grown c.settle_pending.ensures.sound c.settle_units.ensures.short in
    let none : c.settle_pending.new.pending ≡ None = c.in_default-settle_pending.ensures.settled.0 in
    settled_rests c.args.core c.args.memory.now c.args.trail.now c.settle_pending.new.trail c.args.watches.now (record { lists = c.settle_units.new.lists; done = c.args.watches.now.done; kept = c.args.watches.now.kept; pending = c.settle_pending.new.pending; shade = c.settle_units.new.shade; top = c.settle_units.new.top }) refl refl
    gr c.settle_pending.ensures.sound c.settle_units.ensures.shape c.settle_units.ensures.ahead c.settle_units.ensures.stocked c.settle_units.ensures.linked (omega (arith, longer, c.settle_units.ensures.shaded)) sh
    (λ r z. let f : is_pending c.settle_pending.new.pending r ≡ false = ap (λ p. is_pending p r) none in absurd cc) (λ r t f b. true_guards c.args.core c.args.memory.now b c.settle_pending.new.trail.lits r (c.in_default-settle_pending.ensures.settled.1 r t)) c.requires.resting

pub returns-clause-settled : goal.returns-clause-settled
returns-clause-settled g c = record {
  pending = c.in_default-settle_pending.ensures.settled.0;
  short = λ r o s. some_more c.settle_units.new.trail.lits c.settle_pending.new.trail.lits (cell_at c.args.memory.now r).lits (includes_kept c.settle_units.new.trail.lits c.settle_pending.new.trail.lits c.settle_pending.ensures.grown.lits) (c.in_default.ensures.settled r o s);
}
