use Rattle.std.proofs.Common.{rules, ◌≡◌, ◌≤◌, ◌+◌, ◌∙◌, ◌++◌, ◌∷◌, [], arith, ap}
use Rattle.sr_model.specs.Chain.{clauses}
use Rattle.sr_model.specs.Judging.{cells_of, clause_cells}
use Rattle.sr_check.specs.declared.meeting.Scratch.{Scratch}
use Rattle.sr_check.specs.Checking.{Checking}
use Rattle.sr_occurs.specs.Occurring.{KeepsListed}
use Rattle.sr_check.specs.Ready.{IsReady}
use Rattle.sr_check.proofs.Checks.{keeps_push, keeps_room}
use Rattle.sr_occurs.proofs.Entering.{listed_more, listed_push, listed_limit}
use Rattle.sr_check.proofs.checker.Checker.add.Goals as goal

pub add_last-requires-clause-new : goal.add_last-requires-clause-new
add_last-requires-clause-new c =
    let last : c.self.inside.live.last ≡ c.args.self.now.state.live.last = ap (λ (x : Checking). x.state.live.last) c.self.view_is in
    omega (arith, last, c.requires.new)

pub invariant_of-self : goal.invariant_of-self
invariant_of-self c =
    let after : Scratch = record c.self.inside.scratch { trail = c.cover_all.new.trail } in
    let ready : IsReady after = (c.in_err-cover_all.ensures.lits ∙ c.self.invariant.ready.0, c.self.invariant.ready.1) in
    keeps_room c.self.inside.live.most c.self.inside.live.clauses c.self.inside.live.last c.self.inside.scratch after c.self.invariant ready c.in_err-cover_all.ensures.room c.self.invariant.lists

pub invariant_of-self-in_err-enter : goal.invariant_of-self-in_err-enter
invariant_of-self-in_err-enter c =
    let after : Scratch = record c.self.inside.scratch { trail = c.cover_all.new.trail; lists = c.enter.new.self } in
    let ready : IsReady after = (c.in_ok-cover_all.ensures.lits ∙ c.self.invariant.ready.0, c.self.invariant.ready.1) in
    let lists : KeepsListed c.enter.new.self c.self.inside.live.clauses = listed_more c.self.inside.scratch.lists c.enter.new.self c.self.inside.live.clauses c.in_err-enter.ensures.built c.in_err-enter.ensures.kept c.self.invariant.lists in
    keeps_room c.self.inside.live.most c.self.inside.live.clauses c.self.inside.live.last c.self.inside.scratch after c.self.invariant ready c.in_ok-cover_all.ensures.room lists

pub invariant_of-self-in_err-add_last : goal.invariant_of-self-in_err-add_last
invariant_of-self-in_err-add_last c =
    let after : Scratch = record c.self.inside.scratch { trail = c.cover_all.new.trail; lists = c.enter.new.self } in
    let ready : IsReady after = (c.in_ok-cover_all.ensures.lits ∙ c.self.invariant.ready.0, c.self.invariant.ready.1) in
    let lists : KeepsListed c.enter.new.self c.self.inside.live.clauses = listed_more c.self.inside.scratch.lists c.enter.new.self c.self.inside.live.clauses c.in_ok-enter.ensures.built c.in_ok-enter.ensures.kept c.self.invariant.lists in
    rw c.in_err-add_last.ensures.err (keeps_room c.self.inside.live.most c.self.inside.live.clauses c.self.inside.live.last c.self.inside.scratch after c.self.invariant ready c.in_ok-cover_all.ensures.room lists)

pub invariant_of-self-2 : goal.invariant_of-self-2
invariant_of-self-2 c =
    let after : Scratch = record c.self.inside.scratch { trail = c.cover_all.new.trail; lists = c.limit.new.self } in
    let ready : IsReady after = (c.in_ok-cover_all.ensures.lits ∙ c.self.invariant.ready.0, c.self.invariant.ready.1) in
    let last : c.self.inside.live.last ≡ c.args.self.now.state.live.last = ap (λ (x : Checking). x.state.live.last) c.self.view_is in
    let fits : cells_of (clauses c.self.inside.live.clauses) + clause_cells c.args.lits.now ≤ c.self.inside.live.most = search rules in
    let pushed : KeepsListed c.enter.new.self (c.self.inside.live.clauses ++ (c.args.id, c.args.lits.now) ∷ []) =
    listed_push c.self.inside.scratch.lists c.enter.new.self c.self.inside.live.clauses c.args.id c.args.lits.now c.in_ok-enter.ensures.built c.in_ok-enter.ensures.kept c.in_ok-enter.ensures.ok c.self.invariant.lists in
    let lists : KeepsListed c.limit.new.self (c.self.inside.live.clauses ++ (c.args.id, c.args.lits.now) ∷ []) = listed_limit c.enter.new.self c.limit.new.self (c.self.inside.live.clauses ++ (c.args.id, c.args.lits.now) ∷ []) c.limit.ensures.kept pushed in
    rw c.in_ok-add_last.ensures.ok (keeps_push c.self.inside.live.most c.self.inside.live.clauses c.self.inside.live.last c.args.id c.args.lits.now c.self.inside.scratch after c.self.invariant (omega (arith, last, c.requires.new)) ready c.in_ok-cover_all.ensures.room c.in_ok-cover_all.ensures.ok lists fits)
