use Rattle.std.proofs.Common.{subst, sym, ap, ◌∙◌}
use Rattle.sr_load.specs.Loaded.{TookBack, TookAll}
use Rattle.sr_back.specs.Testing.{steps_in}
use Rattle.sr_back.specs.Turning.{IsKept, IsTurn, LemmaEnd}
use Rattle.sr_back.proofs.Indexing.{took_indexed}
use Rattle.sr_back.proofs.Lines.{turn_back, turn_begins, took_proof, took_steps, proof_then, whole_pass, fails_loaded, fails_rightly}
use Rattle.sr_back.specs.declared.passing.Back.TheVariants.{Failed}
use Rattle.sr_back.proofs.passing.backward.Goals as goal

pub keep_lemma-requires-clause-turn : goal.keep_lemma-requires-clause-turn
keep_lemma-requires-clause-turn g c =
    let st = g.L.Loaded.state c.lines.loaded in
    let new = g.L.Loaded.state c.back.new.self in
    let b : TookBack st new c.in-Some.id = c.in-Some.ensures in
    subst (IsTurn new c.in-Some.id) (sym (took_steps st new c.in-Some.id c.lines.steps b)) (turn_begins st new c.in-Some.id (steps_in st c.lines.steps) c.lines.invariant.kept b (sym c.if-not-is_cited.ensures))

pub keep_lemma-requires-clause-index : goal.keep_lemma-requires-clause-index
keep_lemma-requires-clause-index g c =
    let st = g.L.Loaded.state c.lines.loaded in
    let new = g.L.Loaded.state c.back.new.self in
    let b : TookBack st new c.in-Some.id = c.in-Some.ensures in
    took_indexed st new c.in-Some.id c.lines.index c.drop_lemma.new.self b c.drop_lemma.ensures c.lines.invariant.index

pub lines-preserved-then-not-is_cited : goal.lines-preserved-then-not-is_cited
lines-preserved-then-not-is_cited g c =
    let orig = g.L.Loaded.state c.args.loaded.now in
    let st = g.L.Loaded.state c.lines.loaded in
    let new = g.L.Loaded.state c.back.new.self in
    let b : TookBack st new c.in-Some.id = c.in-Some.ensures in
    record {
      proof = proof_then orig st new c.lines.invariant.proof (took_proof st new c.in-Some.id b);
      kept = subst (IsKept new) (sym (took_steps st new c.in-Some.id c.lines.steps b)) (turn_back st new c.in-Some.id (steps_in st c.lines.steps) c.lines.invariant.kept b (sym c.if-not-is_cited.ensures));
      index = took_indexed st new c.in-Some.id c.lines.index c.drop_lemma.new.self b c.drop_lemma.ensures c.lines.invariant.index;
      assumed = ap (λ x. x.assumed) b.same ∙ c.lines.invariant.assumed;
    }

pub lines-preserved : goal.lines-preserved
lines-preserved g c =
    let orig = g.L.Loaded.state c.args.loaded.now in
    let st = g.L.Loaded.state c.lines.loaded in
    let mid = g.L.Loaded.state c.back.new.self in
    let new = g.L.Loaded.state c.keep_lemma.new.loaded in
    let b : TookBack st mid c.in-Some.id = c.in-Some.ensures in
    record {
      proof = proof_then orig mid new (proof_then orig st mid c.lines.invariant.proof (took_proof st mid c.in-Some.id b)) c.in_ok-against.ensures.same;
      kept = subst (LemmaEnd new c.in-Some.id c.keep_lemma.new.steps) c.in_default-2.is c.in_ok-against.ensures.kept;
      index = c.in_ok-against.ensures.index;
      assumed = c.in_ok-against.ensures.assumed;
    }

pub returns-in-Some-2-clause-pass : goal.returns-in-Some-2-clause-pass
returns-in-Some-2-clause-pass g c =
    let orig = g.L.Loaded.state c.args.loaded.now in
    let st = g.L.Loaded.state c.lines.loaded in
    let mid = g.L.Loaded.state c.back.new.self in
    let new = g.L.Loaded.state c.keep_lemma.new.loaded in
    let b : TookBack st mid c.in-Some.id = c.in-Some.ensures in
    fails_loaded orig new c.in-Some.id c.in-Some-2.against c.keep_lemma.new.steps c.requires
    (proof_then orig mid new (proof_then orig st mid c.lines.invariant.proof (took_proof st mid c.in-Some.id b)) c.in_ok-against.ensures.same)
    (subst (LemmaEnd new c.in-Some.id c.keep_lemma.new.steps) c.in-Some-2.is c.in_ok-against.ensures.kept)

pub returns-in-Some-2-clause-fails : goal.returns-in-Some-2-clause-fails
returns-in-Some-2-clause-fails g c = fails_rightly (g.L.Loaded.state c.args.loaded.now) (Failed c.in-Some.id c.in-Some-2.against) (returns-in-Some-2-clause-pass g c)

pub returns-clause-pass : goal.returns-clause-pass
returns-clause-pass g c =
    let orig = g.L.Loaded.state c.args.loaded.now in
    let st = g.L.Loaded.state c.lines.loaded in
    let new = g.L.Loaded.state c.back.new.self in
    let b : TookAll st new = c.in_default.ensures in
    whole_pass orig st new c.lines.steps c.requires c.lines.invariant.proof c.lines.invariant.kept b
