use Rattle.std.proofs.Common.{◌≡◌, ◌∙◌, ℕ, List, sym, ap, subst}
use Rattle.std.specs.Prelude.{All}
use Rattle.sr_model.specs.Judging.{numbered_from}
use Rattle.sr_model.specs.Writing.{written_formula, selected}
use Rattle.sr_trimming.specs.Citing.{core, cited_of}
use Rattle.sr_trimming.specs.Placing.{numbers}
use Rattle.sr_cnf.specs.Written.{IsNumberOf}
use Rattle.sr_placing.specs.Placing.{PlacingValue}
use Rattle.sr_placing.proofs.Coring.{core_selected, core_numbers}
use Rattle.sr_placing.proofs.core_text.put_core.Goals as goal

pub put_clauses-requires-clause-numbers : goal.put_clauses-requires-clause-numbers
put_clauses-requires-clause-numbers g c =
    let is : c.core.result.now ≡ numbers (cited_of (numbered_from 1 c.args.formula.now.clauses) c.requires.placed.0) = c.core.ensures ∙ ap (λ (p : PlacingValue). p.core) c.requires.placed.1 in
    subst (All (IsNumberOf c.args.formula.now)) (sym is) (core_numbers c.args.formula.now c.requires.placed.0)

pub returns : goal.returns
returns g c ss placed =
    let is : c.core.result.now ≡ numbers (cited_of (numbered_from 1 c.args.formula.now.clauses) ss) = c.core.ensures ∙ ap (λ (p : PlacingValue). p.core) placed in
    let bytes : written_formula (selected c.args.formula.now c.core.result.now) ≡ written_formula (record { vars = c.args.formula.now.vars; clauses = core c.args.formula.now.clauses ss }) =
    ap written_formula (ap (selected c.args.formula.now) is ∙ core_selected c.args.formula.now ss) in
    subst (λ (x : List ℕ). g.S.Sink.puts c.args.sink.now c.args.out.now c.put_clauses.new.sink c.put_clauses.new.out x) bytes c.put_clauses.ensures
