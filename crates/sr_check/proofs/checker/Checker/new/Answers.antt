use Rattle.std.proofs.Common.{◌≡◌, arith, ap, sym, ◌∙◌}
use Rattle.sr_check.specs.declared.meeting.Scratch.{Scratch}
use Rattle.sr_check.specs.Storage.{Stored}
use Rattle.sr_check.specs.Ready.{IsReady}
use Rattle.sr_check.specs.Trail.{TrailValue}
use Rattle.sr_check.proofs.Checks.{keeps_new}
use Rattle.sr_check.proofs.checker.Checker.new.Goals as goal

pub invariant_of-result : goal.invariant_of-result
invariant_of-result c =
    let scratch : Scratch = record { alloc = c.args.alloc; trail = c.add_clauses.new.trail; index = c.in-Ok-new.index; lists = c.new-4.result; numbers = c.in-Ok-new-2.numbers; left = c.new-5.result } in
    let ready : IsReady scratch = (c.in-Ok-add_clauses.ensures.lits ∙ ap (λ (m : TrailValue). m.lits) c.new-trail.ensures, c.in-Ok-new.ensures.blank) in
    let most : c.add_clauses.new.live.most ≡ c.cells-2.result = ap (λ (s : Stored). s.most) c.in-Ok-add_clauses.ensures.live ∙ ap (λ (s : Stored). s.most) c.in-Ok.ensures ∙ sym c.cells-2.ensures.value in
    keeps_new c.add_clauses.new.live.most c.args.formula.clauses c.add_clauses.new.live.clauses c.add_clauses.new.live.last scratch
    (ap (λ (s : Stored). s.clauses) c.in-Ok-add_clauses.ensures.live) (ap (λ (s : Stored). s.last) c.in-Ok-add_clauses.ensures.live)
    ready c.new-4.ensures.built c.in-Ok-add_clauses.ensures.room (omega (arith, most, c.cells.ensures, c.if-cells.false)) (omega (arith, most, c.cells-2.ensures.bound))
