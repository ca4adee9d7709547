use Rattle.std.proofs.Common.{◌≡◌, ◌≤◌, List, [], ◌∷◌, length, get_or, true, sym, ◌∙◌, arith}
use Rattle.sr_base.specs.Literal.{Literal, same}
use Rattle.sr_base.proofs.Literals.{same_tells}
use Rattle.sr_model.specs.Substitution.{IsPivot}
use Rattle.sr_wit.proofs.step.is_first.Goals as goal

-- the first literal is the pivot
first : (p f : Literal) (ls : List Literal) → 1 ≤ length ls → f ≡ get_or ls 0 f → (same f p ≡ true → IsPivot p ls) × (IsPivot p ls → same f p ≡ true)
first p f [] l e = absurd (omega arith)
first p f (k ∷ ls) l e = (λ h. grind (arith, same_tells f p), λ h. grind (arith, same_tells f p))

pub returns-in-len1-up : goal.returns-in-len1-up
returns-in-len1-up c =
    let tells = first c.args.pivot c.first-item.result c.args.clause.now (rw c.lits.ensures.value at c.in-len1-up.len_at_least) (rw c.lits.ensures.value at c.first-item.is) in
    (λ h. tells.0 (sym c.is.ensures ∙ h), λ h. c.is.ensures ∙ tells.1 h)
