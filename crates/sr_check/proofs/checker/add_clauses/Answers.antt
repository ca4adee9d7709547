use Rattle.std.proofs.Common.{arith, ◌≡◌, ◌∙◌, ◌+◌, ◌-◌, ap, [], get_or, take, length, ℕ}
use Rattle.std.proofs.lemmas.List.{take_all, get_or_default}
use Rattle.sr_model.specs.Chain.{clauses}
use Rattle.sr_model.specs.Judging.{numbered_from, cells_of}
use Rattle.sr_check.specs.Storage.{Stored}
use Rattle.sr_check.proofs.Storing.{stored_fields}
use Rattle.sr_check.proofs.Checks.{added_small, added_more, cells_more, numbered_clauses}
use Rattle.sr_check.proofs.checker.add_clauses.Goals as goal

place : (i : ℕ) → i + 1 - 1 ≡ i
place i = omega arith

pub add_last-requires-clause-new : goal.add_last-requires-clause-new
add_last-requires-clause-new c = omega (arith, c.loop-i.invariant.last)

pub add_last-requires-clause-fits : goal.add_last-requires-clause-fits
add_last-requires-clause-fits c =
    let is : c.clause-lits.result.now ≡ get_or c.args.formula.now.clauses c.loop-i.i c.clause-lits.result.now =
    c.clause-lits.ensures.value ∙ ap (λ k. get_or c.args.formula.now.clauses k []) (place c.loop-i.i) ∙ get_or_default c.args.formula.now.clauses c.loop-i.i [] c.clause-lits.result.now (omega arith) in
    omega (arith, c.requires.fits, c.loop-i.invariant.most, added_small c.args.formula.now.clauses c.loop-i.i c.clause-lits.result.now c.loop-i.live.clauses c.loop-i.trail.room (omega arith) is c.loop-i.invariant.added)

pub loop-i-preserved : goal.loop-i-preserved
loop-i-preserved c =
    let is : c.clause-lits.result.now ≡ get_or c.args.formula.now.clauses c.loop-i.i c.clause-lits.result.now =
    c.clause-lits.ensures.value ∙ ap (λ k. get_or c.args.formula.now.clauses k []) (place c.loop-i.i) ∙ get_or_default c.args.formula.now.clauses c.loop-i.i [] c.clause-lits.result.now (omega arith) in
    record {
      lits = c.in_ok-cover_all.ensures.lits ∙ c.loop-i.invariant.lits;
      added = added_more c.args.formula.now.clauses c.loop-i.i c.clause-lits.result.now c.loop-i.live.clauses c.add_last.new.self.clauses c.loop-i.trail.room c.cover_all.new.trail.room (omega arith) is c.loop-i.invariant.added
          (ap (λ (s : Stored). s.clauses) c.in_ok-add_last.ensures.ok) c.in_ok-cover_all.ensures.room c.in_ok-cover_all.ensures.ok;
      last = ap (λ (s : Stored). s.last) c.in_ok-add_last.ensures.ok;
      most = ap (λ (s : Stored). s.most) c.in_ok-add_last.ensures.ok ∙ c.loop-i.invariant.most;
      used = omega (arith, ap (λ (s : Stored). s.used) c.in_ok-add_last.ensures.ok, c.loop-i.invariant.used, cells_more c.args.formula.now.clauses c.loop-i.i c.clause-lits.result.now (omega arith) is);
    }

pub returns-clause-live : goal.returns-clause-live
returns-clause-live c =
    let all : take c.loop-i.i c.args.formula.now.clauses ≡ c.args.formula.now.clauses = take_all c.loop-i.i c.args.formula.now.clauses (omega arith) in
    stored_fields c.loop-i.live.clauses (numbered_from 1 c.args.formula.now.clauses) c.loop-i.live.last (length c.args.formula.now.clauses) c.loop-i.live.most c.args.live.now.most c.loop-i.live.used (c.args.live.now.used + cells_of c.args.formula.now.clauses)
    (c.loop-i.invariant.added.live_is ∙ ap (numbered_from 1) all) (omega (arith, c.loop-i.invariant.last, ap length all)) c.loop-i.invariant.most (c.loop-i.invariant.used ∙ ap (λ cs. c.args.live.now.used + cells_of cs) all)

pub returns-clause-room : goal.returns-clause-room
returns-clause-room c =
    let all : take c.loop-i.i c.args.formula.now.clauses ≡ c.args.formula.now.clauses = take_all c.loop-i.i c.args.formula.now.clauses (omega arith) in
    let cs : clauses c.loop-i.live.clauses ≡ take c.loop-i.i c.args.formula.now.clauses = ap clauses c.loop-i.invariant.added.live_is ∙ numbered_clauses 1 (take c.loop-i.i c.args.formula.now.clauses) in
    rw cs c.loop-i.invariant.added.covered
