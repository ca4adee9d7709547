use Rattle.std.proofs.Common.{◌≡◌, ◌∙◌, ◌++◌, ℕ, List, cond, Some, None, ap, sym, subst}
use Rattle.std.specs.Option.{option_copied}
use Rattle.sr_base.specs.Literal.{Literal}
use Rattle.sr_model.specs.Substitution.{IsPivot}
use Rattle.sr_model.specs.Writing.{literals_written, witness_written}
use Rattle.sr_trimming.specs.From.{witness_of}
use Rattle.sr_trimming.specs.Reordered.{IsRewritten, put_first}
use Rattle.sr_scan.specs.Written.{written_numbers, written_literals}
use Rattle.sr_load.specs.Loaded.{LoadedState}
use Rattle.sr_placing.specs.Parts.{witness_or}
use Rattle.sr_placing.proofs.Lemmas.{lemma_rewritten, witness_is}
use Rattle.sr_placing.proofs.Putting.{literals_put, clause_put}
use Rattle.sr_placing.proofs.step.put_lemma.Goals as goal

pub returns-then-by_witness-clause-put : goal.returns-then-by_witness-clause-put
returns-then-by_witness-clause-put g c p is =
    let st : LoadedState = g.L.Loaded.state c.args.loaded.now in
    let own : List Literal = put_first c.pivot-pivot.result c.clause.result.now in
    let rewritten : IsRewritten p.stated.clause own = lemma_rewritten st c.args.id p c.pivot-pivot.result c.clause.result.now c.requires.low is c.pivot-pivot.ensures c.clause.ensures in
    let first : IsPivot c.pivot-pivot.result p.stated.clause = c.pivot-pivot.ensures p is in
    let written : witness_of p.stated ≡ Some (witness_or c.pivot-pivot.result (option_copied c.witness.result)) =
    witness_is p.stated c.pivot-pivot.result first ∙ ap (λ o. Some (witness_or c.pivot-pivot.result o)) (c.witness.ensures p is) in
    let chosen : cond c.args.by_witness (witness_of p.stated) None ≡ Some (witness_or c.pivot-pivot.result (option_copied c.witness.result)) = rw c.if-by_witness.true written in
    let bytes : written_literals c.args.form own ++ written_literals c.args.form (witness_written (Some (witness_or c.pivot-pivot.result (option_copied c.witness.result))))
    ≡ written_numbers c.args.form (literals_written own (cond c.args.by_witness (witness_of p.stated) None)) =
    literals_put c.args.form own (witness_or c.pivot-pivot.result (option_copied c.witness.result)) ∙ ap (λ o. written_numbers c.args.form (literals_written own o)) (sym chosen) in (
      own,
      rewritten,
      subst (λ (x : List ℕ). g.S.Sink.puts c.args.sink.now c.args.out.now c.put_witness.new.sink c.put_witness.new.out x) bytes
          (g.met.S.Sink.joined _ _ _ _ _ _ _ _ c.put_pivot_first.ensures c.put_witness.ensures),
    )

pub returns-else-by_witness-clause-put : goal.returns-else-by_witness-clause-put
returns-else-by_witness-clause-put g c p is =
    let st : LoadedState = g.L.Loaded.state c.args.loaded.now in
    let own : List Literal = put_first c.pivot-pivot.result c.clause.result.now in
    let rewritten : IsRewritten p.stated.clause own = lemma_rewritten st c.args.id p c.pivot-pivot.result c.clause.result.now c.requires.low is c.pivot-pivot.ensures c.clause.ensures in
    let chosen : cond c.args.by_witness (witness_of p.stated) None ≡ None = ap (λ b. cond b (witness_of p.stated) None) c.if-by_witness.false in
    let bytes : written_literals c.args.form own ≡ written_numbers c.args.form (literals_written own (cond c.args.by_witness (witness_of p.stated) None)) =
    clause_put c.args.form own ∙ ap (λ o. written_numbers c.args.form (literals_written own o)) (sym chosen) in
    (own, rewritten, subst (λ (x : List ℕ). g.S.Sink.puts c.args.sink.now c.args.out.now c.put_pivot_first.new.sink c.put_pivot_first.new.out x) bytes c.put_pivot_first.ensures)
