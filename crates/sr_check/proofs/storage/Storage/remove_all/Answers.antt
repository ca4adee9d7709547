use Rattle.std.proofs.Common.{◌∙◌, ◌+◌, ap, refl, arith, get_or, take, [], ◌∷◌}
use Rattle.sr_model.specs.Judging.{without}
use Rattle.sr_check.specs.Storage.{Stored}
use Rattle.sr_check.proofs.Dropping.{without_none, without_more}
use Rattle.sr_check.proofs.storage.Storage.remove_all.Goals as goal

pub loop-id-init : goal.loop-id-init
loop-id-init c = ap (λ x. let t : Stored = record c.args.self.now { clauses = x } in t) (without_none c.args.self.now.clauses)

pub loop-id-preserved : goal.loop-id-preserved
loop-id-preserved c =
    let n = get_or c.args.ids.now c.loop-id.id-index 0 in
    let more = without_more c.args.ids.now c.loop-id.id-index n c.args.self.now.clauses c.loop-id.self.clauses (without (n ∷ []) c.loop-id.self.clauses) (omega arith) refl (ap (λ (s : Stored). s.clauses) c.loop-id.invariant) refl in
    c.remove.ensures ∙ ap (λ x. let t : Stored = record c.loop-id.self { clauses = x } in t) more
    ∙ ap (λ (s : Stored). let t : Stored = record s { clauses = without (take (c.loop-id.id-index + 1) c.args.ids.now) c.args.self.now.clauses } in t) c.loop-id.invariant
