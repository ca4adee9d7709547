use Rattle.std.proofs.Common.{◌≡◌, ◌<◌, ◌+◌, ◌∙◌, sym, ap, subst, arith, length, get_or}
use Rattle.std.proofs.lemmas.List.{get_or_default}
use Rattle.sr_base.specs.Literal.{Literal, plus, NoRepeats}
use Rattle.sr_arena.specs.Cells.{IsHeld, cell_at}
use Rattle.sr_watch.proofs.Tables.{in_list}
use Rattle.sr_watch.proofs.Visits.{swap_here}
use Rattle.sr_watch.proofs.Choosing.{IsRaising, arranged_on, arranged_swap, swap_once, raising_skip, raising_swap}
use Rattle.sr_watch.proofs.attaching.raise.Goals as goal

pub falls_before-requires-clause-first : goal.falls_before-requires-clause-first
falls_before-requires-clause-first g c =
    let li : c.loop-i.i < length (cell_at c.loop-i.memory c.args.at).lits = omega (arith, c.loop-i-test.true, ap (length {A = Literal}) c.lits-len.ensures.value, c.loop-i.invariant.raising.size) in
    let lp : c.args.place < length (cell_at c.loop-i.memory c.args.at).lits = omega (arith, li, c.loop-i.auto.i) in
    let ip : c.index-clause-place.result ≡ get_or (cell_at c.loop-i.memory c.args.at).lits c.args.place c.index-clause-place.result = c.index-clause-place.is ∙ ap (λ x. get_or x c.args.place c.index-clause-place.result) c.lits-clause.ensures.value in
    c.requires.within c.index-clause-place.result (sym ((c.loop-i.invariant.arranged.each c.args.at).set c.index-clause-place.result) ∙ in_list (cell_at c.loop-i.memory c.args.at).lits c.args.place c.index-clause-place.result lp ip)

pub falls_before-requires-clause-second : goal.falls_before-requires-clause-second
falls_before-requires-clause-second g c =
    let li : c.loop-i.i < length (cell_at c.loop-i.memory c.args.at).lits = omega (arith, c.loop-i-test.true, ap (length {A = Literal}) c.lits-len.ensures.value, c.loop-i.invariant.raising.size) in
    let ii : c.index-clause-i.result ≡ get_or (cell_at c.loop-i.memory c.args.at).lits c.loop-i.i c.index-clause-i.result = c.index-clause-i.is ∙ ap (λ x. get_or x c.loop-i.i c.index-clause-i.result) c.lits-clause.ensures.value in
    c.requires.within c.index-clause-i.result (sym ((c.loop-i.invariant.arranged.each c.args.at).set c.index-clause-i.result) ∙ in_list (cell_at c.loop-i.memory c.args.at).lits c.loop-i.i c.index-clause-i.result li ii)

pub loop-i-preserved-then-not-falls_before : goal.loop-i-preserved-then-not-falls_before
loop-i-preserved-then-not-falls_before g c =
    let li : c.loop-i.i < length (cell_at c.loop-i.memory c.args.at).lits = omega (arith, c.loop-i-test.true, ap (length {A = Literal}) c.lits-len.ensures.value, c.loop-i.invariant.raising.size) in
    let lp : c.args.place < length (cell_at c.loop-i.memory c.args.at).lits = omega (arith, li, c.loop-i.auto.i) in
    let ip : c.index-clause-place.result ≡ get_or (cell_at c.loop-i.memory c.args.at).lits c.args.place c.index-clause-place.result = c.index-clause-place.is ∙ ap (λ x. get_or x c.args.place c.index-clause-place.result) c.lits-clause.ensures.value in
    let ii : c.index-clause-i.result ≡ get_or (cell_at c.loop-i.memory c.args.at).lits c.loop-i.i c.index-clause-i.result = c.index-clause-i.is ∙ ap (λ x. get_or x c.loop-i.i c.index-clause-i.result) c.lits-clause.ensures.value in
    let gp : get_or (cell_at c.loop-i.memory c.args.at).lits c.args.place (plus 0) ≡ c.index-clause-place.result = get_or_default (cell_at c.loop-i.memory c.args.at).lits c.args.place (plus 0) c.index-clause-place.result lp ∙ sym ip in
    let gi : get_or (cell_at c.loop-i.memory c.args.at).lits c.loop-i.i (plus 0) ≡ c.index-clause-i.result = get_or_default (cell_at c.loop-i.memory c.args.at).lits c.loop-i.i (plus 0) c.index-clause-i.result li ∙ sym ii in
    record {
      arranged = c.loop-i.invariant.arranged;
      distinct = c.loop-i.invariant.distinct;
      raising = raising_skip c.args.trail.now.lits (cell_at c.args.memory.now c.args.at).lits (cell_at c.loop-i.memory c.args.at).lits c.args.place c.loop-i.i (rw (gi, gp) (c.falls_before.ensures.no c.if-not-falls_before.true)) c.loop-i.invariant.raising;
    }

pub loop-i-preserved : goal.loop-i-preserved
loop-i-preserved g c =
    let li : c.loop-i.i < length (cell_at c.loop-i.memory c.args.at).lits = omega (arith, c.loop-i-test.true, ap (length {A = Literal}) c.lits-len.ensures.value, c.loop-i.invariant.raising.size) in
    let lp : c.args.place < length (cell_at c.loop-i.memory c.args.at).lits = omega (arith, li, c.loop-i.auto.i) in
    let ip : c.index-clause-place.result ≡ get_or (cell_at c.loop-i.memory c.args.at).lits c.args.place c.index-clause-place.result = c.index-clause-place.is ∙ ap (λ x. get_or x c.args.place c.index-clause-place.result) c.lits-clause.ensures.value in
    let ii : c.index-clause-i.result ≡ get_or (cell_at c.loop-i.memory c.args.at).lits c.loop-i.i c.index-clause-i.result = c.index-clause-i.is ∙ ap (λ x. get_or x c.loop-i.i c.index-clause-i.result) c.lits-clause.ensures.value in
    let gp : get_or (cell_at c.loop-i.memory c.args.at).lits c.args.place (plus 0) ≡ c.index-clause-place.result = get_or_default (cell_at c.loop-i.memory c.args.at).lits c.args.place (plus 0) c.index-clause-place.result lp ∙ sym ip in
    let gi : get_or (cell_at c.loop-i.memory c.args.at).lits c.loop-i.i (plus 0) ≡ c.index-clause-i.result = get_or_default (cell_at c.loop-i.memory c.args.at).lits c.loop-i.i (plus 0) c.index-clause-i.result li ∙ sym ii in
    let held : IsHeld c.loop-i.memory c.args.at = (c.loop-i.invariant.arranged.each c.args.at).held ∙ c.requires.held in
    let here = swap_here c.loop-i.memory c.swap.new.self c.args.at c.args.place c.loop-i.i held c.swap.ensures.value in
    record {
      arranged = arranged_on c.args.at c.args.memory.now c.loop-i.memory c.swap.new.self c.loop-i.invariant.arranged (arranged_swap c.args.at c.args.place c.loop-i.i c.loop-i.memory c.swap.new.self held lp li c.swap.ensures.value c.swap.ensures.held);
      distinct = subst NoRepeats (sym here) (swap_once (cell_at c.loop-i.memory c.args.at).lits c.args.place c.loop-i.i lp li c.loop-i.invariant.distinct);
      raising = subst (λ d. IsRaising c.args.trail.now.lits (cell_at c.args.memory.now c.args.at).lits d c.args.place (c.loop-i.i + 1)) (sym here)
          (raising_swap c.args.trail.now.lits (cell_at c.args.memory.now c.args.at).lits (cell_at c.loop-i.memory c.args.at).lits c.args.place c.loop-i.i c.loop-i.auto.i li (rw (gp, gi) (c.falls_before.ensures.yes c.if-not-falls_before.false)) c.loop-i.invariant.raising);
    }
