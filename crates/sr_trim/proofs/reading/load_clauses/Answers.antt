use Rattle.std.proofs.Common.{◌≡◌, ap, subst, []}
use Rattle.sr_model.specs.Dimacs.{Formula}
use Rattle.sr_trimming.specs.Loading.{Stop, at_start, StopsAfter}
use Rattle.sr_load.specs.Loading.{LoaderState}
use Rattle.sr_trim.specs.Said.{trim_said}
use Rattle.sr_trim.specs.Lines.{LoadsProof}
use Rattle.sr_trim.proofs.Opened.{proof_loaded, fits_in}
use Rattle.sr_load.specs.declared.progress.LoadError.TheVariants as LoadError
use Rattle.sr_trim.proofs.reading.load_clauses.Goals as goal

pub returns-in-Going-clause-loads : goal.returns-in-Going-clause-loads
returns-in-Going-clause-loads g c =
    let same : c.in-Ok.loader.formula ≡ c.args.formula = ap (λ (x : LoaderState). x.formula) c.in-Ok.ensures.ok in
    proof_loaded c.args.limits.now (trim_said c.args.words.now) c.args.formula (g.D.Desk.outside c.load_proof.new.desk) c.load_proof.result
    (fits_in c.in-Ok.loader LoadError.Cells c.args.limits.now.cells _ c.in-Ok.ensures.cells) (subst (λ (x : Stop). StopsAfter (at_start c.args.formula.clauses) [] x) c.in-Going.ensures.tells c.in-Ok.ensures.stops)
    c.load_proof.ensures.slots.begun
    (subst (λ (f : Formula). LoadsProof c.args.limits.now (trim_said c.args.words.now) f (g.D.Desk.outside c.load_proof.new.desk) c.load_proof.result) same c.load_proof.ensures.loads)
