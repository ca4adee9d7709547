use Rattle.std.proofs.Common.{◌≡◌, ◌∷◌, ◌++◌, [], true, false, refl, subst, sym, ap, ◌∙◌, arith}
use Rattle.sr_base.specs.Literal.{compl}
use Rattle.sr_model.specs.Assignment.{holds_number}
use Rattle.sr_model.specs.Refutation.{Refutes}
use Rattle.sr_model.specs.Chain.{clauses}
use Rattle.sr_trimming.specs.Placing.{numbers}
use Rattle.sr_load.specs.Loaded.{alive_in, IsChain, Tests}
use Rattle.sr_back.specs.Citing.{CitesAll}
use Rattle.sr_back.specs.Testing.{assuming_all, with_assumed, steps_in}
use Rattle.sr_back.proofs.Alive.{lean_live}
use Rattle.sr_back.proofs.Lines.{turn_low, turn_high}
use Rattle.sr_back.proofs.Keeping.{plain_kept, keeps_propagated, chain_from, left_open}
use Rattle.sr_back.proofs.passing.keep_by_propagation.Goals as goal

pub clause-requires-clause-low : goal.clause-requires-clause-low
clause-requires-clause-low g c = omega (arith, turn_low (g.L.Loaded.state c.args.loaded.now) c.args.id (steps_in (g.L.Loaded.state c.args.loaded.now) c.args.steps.now) c.requires.turn)

pub clause-requires-clause-high : goal.clause-requires-clause-high
clause-requires-clause-high g c = turn_high (g.L.Loaded.state c.args.loaded.now) c.args.id (steps_in (g.L.Loaded.state c.args.loaded.now) c.args.steps.now) c.requires.turn

pub returns-then-not-branch-clause-kept : goal.returns-then-not-branch-clause-kept
returns-then-not-branch-clause-kept g c =
    let st = g.L.Loaded.state c.args.loaded.now in
    let clause : c.as_slice.result.now ≡ c.clause.result.now = c.as_slice.ensures ∙ c.in_ok-extend.ensures.ok ∙ ap (λ ls. ls ++ c.clause.result.now) c.truncate.ensures in
    let mid : g.L.Loaded.state c.assume_complements.new.loaded ≡ assuming_all st (compl c.clause.result.now) = c.in_ok-assume_complements.ensures.ok ∙ ap (λ ls. assuming_all st (compl ls)) clause in
    let asked : g.L.Loaded.state c.refute.new.self ≡ assuming_all st (compl c.clause.result.now) = c.in_ok-refute.ensures.same ∙ mid in
    let t : Tests (g.L.Loaded.state c.assume_complements.new.loaded) false c.refute.new.chain = subst (λ b. Tests (g.L.Loaded.state c.assume_complements.new.loaded) b c.refute.new.chain) c.if-not-branch.true c.in_ok-refute.ensures.ok in
    left_open st (g.L.Loaded.state c.refute.new.self) c.args.id c.args.steps.now c.args.steps.now c.clause.result.now c.requires.turn c.requires.assumed c.clause.ensures asked
    (subst (λ x. ¬ Refutes (clauses (alive_in x)) x.assumed) (sym c.in_ok-refute.ensures.same) t.0) refl

pub cite_all-requires-clause-alive : goal.cite_all-requires-clause-alive
cite_all-requires-clause-alive g c n h =
    let st = g.L.Loaded.state c.args.loaded.now in
    let clause : c.as_slice.result.now ≡ c.clause.result.now = c.as_slice.ensures ∙ c.in_ok-extend.ensures.ok ∙ ap (λ ls. ls ++ c.clause.result.now) c.truncate.ensures in
    let mid : g.L.Loaded.state c.assume_complements.new.loaded ≡ assuming_all st (compl c.clause.result.now) = c.in_ok-assume_complements.ensures.ok ∙ ap (λ ls. assuming_all st (compl ls)) clause in
    let asked : g.L.Loaded.state c.refute.new.self ≡ assuming_all st (compl c.clause.result.now) = c.in_ok-refute.ensures.same ∙ mid in
    let k : IsChain (assuming_all st (compl c.clause.result.now)) c.refute.new.chain = subst (λ x. IsChain x c.refute.new.chain) mid (subst (λ b. Tests (g.L.Loaded.state c.assume_complements.new.loaded) b c.refute.new.chain) c.if-not-branch.false c.in_ok-refute.ensures.ok) in
    let undone : g.L.Loaded.state c.undo_to.new.self ≡ st = c.undo_to.ensures ∙ ap (λ x. with_assumed x []) asked ∙ ap (with_assumed st) (sym c.requires.assumed) in
    let m : holds_number n c.refute.new.chain ≡ true = subst (λ ns. holds_number n ns ≡ true) c.as_slice-2.ensures h in
    subst (λ x. holds_number n (numbers (alive_in x)) ≡ true) (sym undone) (lean_live (alive_in st) (st.assumed ++ compl c.clause.result.now) c.refute.new.chain n k.lean m)

pub returns-clause-kept : goal.returns-clause-kept
returns-clause-kept g c =
    let st = g.L.Loaded.state c.args.loaded.now in
    let clause : c.as_slice.result.now ≡ c.clause.result.now = c.as_slice.ensures ∙ c.in_ok-extend.ensures.ok ∙ ap (λ ls. ls ++ c.clause.result.now) c.truncate.ensures in
    let mid : g.L.Loaded.state c.assume_complements.new.loaded ≡ assuming_all st (compl c.clause.result.now) = c.in_ok-assume_complements.ensures.ok ∙ ap (λ ls. assuming_all st (compl ls)) clause in
    let asked : g.L.Loaded.state c.refute.new.self ≡ assuming_all st (compl c.clause.result.now) = c.in_ok-refute.ensures.same ∙ mid in
    let k : IsChain (assuming_all st (compl c.clause.result.now)) c.refute.new.chain = subst (λ x. IsChain x c.refute.new.chain) mid (subst (λ b. Tests (g.L.Loaded.state c.assume_complements.new.loaded) b c.refute.new.chain) c.if-not-branch.false c.in_ok-refute.ensures.ok) in
    let undone : g.L.Loaded.state c.undo_to.new.self ≡ st = c.undo_to.ensures ∙ ap (λ x. with_assumed x []) asked ∙ ap (with_assumed st) (sym c.requires.assumed) in
    let new = g.L.Loaded.state c.cite_all.new.loaded in
    let cites : CitesAll st new c.refute.new.chain = subst (CitesAll st new) c.as_slice-2.ensures (subst (λ x. CitesAll x new c.as_slice-2.result.now) undone c.in_ok-cite_all.ensures.cites) in
    let from = chain_from st c.args.id c.requires.turn.place c.clause.result.now c.refute.new.chain c.requires.turn.sound.distinct c.requires.assumed c.requires.turn.is_place c.clause.ensures k in (
      keeps_propagated st new c.args.id c.refute.new.chain c.args.steps.now c.push.new.self c.requires.turn from cites
          (c.in_ok-push.ensures.ok ∙ ap (λ ns. plain_kept c.args.id ns ∷ c.args.steps.now) c.as_slice-3.ensures),
      ap (λ x. x.assumed) cites.same ∙ c.requires.assumed,
    )
