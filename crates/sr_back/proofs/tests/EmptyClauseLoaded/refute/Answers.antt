use Rattle.std.proofs.Common.{◌≡◌, ◌++◌, ◌∷◌, [], ◌∙◌, ap, sym, subst, length, ◌==◌}
use Rattle.sr_load.specs.Loaded.{IsChain}
use Rattle.sr_back.proofs.EmptyFormula.{one_chain, nil_of}
use Rattle.sr_back.proofs.tests.EmptyClauseLoaded.refute.Goals as goal

pub returns-clause-ok : goal.returns-clause-ok
returns-clause-ok c =
    let none : c.self.inside.assumed ≡ [] = nil_of c.self.inside.assumed (ap (λ x. length x == 0) (sym c.as_slice.ensures) ∙ sym c.if-not-is_empty.ensures) in
    let chain : c.push.new.self ≡ 1 ∷ [] = c.in_ok-push.ensures.ok ∙ ap (λ x. x ++ 1 ∷ []) c.truncate.ensures in
    subst (IsChain c.args.self.now) (sym chain) (subst (λ x. IsChain x (1 ∷ [])) c.self.view_is (one_chain c.self.inside.formula c.self.inside.cited c.self.inside.assumed c.self.invariant none))
