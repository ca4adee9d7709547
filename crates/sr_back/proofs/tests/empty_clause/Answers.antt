use Rattle.std.proofs.Common.{rules, ◌≡◌, ◌∷◌, [], subst, sym}
use Rattle.sr_load.specs.Loaded.{IsLoaded}
use Rattle.sr_back.proofs.EmptyFormula.{no_lines, loaded}
use Rattle.sr_back.proofs.tests.empty_clause.Goals as goal

pub returns : goal.returns
returns c =
    let e : c.push.new.self.clauses ≡ [] ∷ [] = search rules in
    subst (λ a. IsLoaded (no_lines c.push.new.self c.new.result a)) (sym c.new-2.ensures) (subst (λ n. IsLoaded (no_lines c.push.new.self n [])) (sym c.new.ensures) (loaded c.push.new.self e))
