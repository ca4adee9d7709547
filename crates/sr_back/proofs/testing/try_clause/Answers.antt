use Rattle.std.proofs.Common.{◌≡◌, ◌++◌, ◌==◌, true, false, length, sym, ap, subst, ◌∙◌}
use Rattle.sr_base.specs.Literal.{compl}
use Rattle.sr_model.specs.Refutation.{Refutes}
use Rattle.sr_model.specs.Chain.{clauses}
use Rattle.sr_model.specs.Substitution.{substitution, reduction, left}
use Rattle.sr_load.specs.Loaded.{alive_in, IsChain, Tests}
use Rattle.sr_back.specs.Testing.{assuming_all}
use Rattle.sr_back.proofs.Trials.{spare_of, spare_unless, stuck_of, paired_of, met_of, same_witness, left_of}
use Rattle.sr_back.proofs.testing.try_clause.Goals as goal

pub returns-in_default-clause-tells : goal.returns-in_default-clause-tells
returns-in_default-clause-tells g c b d w all s i f =
    let st = g.L.Loaded.state c.args.loaded.now in
    let v : c.witness_of-subst.result.now ≡ w = same_witness st c.args.lemma c.args.own.now c.witness_of-subst.result.now w c.requires.witness c.witness_of-subst.ensures i in
    spare_of st.assumed b (substitution w) d c.clause.result.now s (c.clause.ensures d f)
    (spare_unless (substitution w) c.clause.result.now c.reduce.new.out c.in_ok-reduce.field-0 c.in_default.not-Left (ap (λ x. reduction (substitution x) c.clause.result.now) (sym v) ∙ c.in_ok-reduce.ensures.value))

pub returns-then-not-branch-clause-tells : goal.returns-then-not-branch-clause-tells
returns-then-not-branch-clause-tells g c b d w all s i f =
    let st = g.L.Loaded.state c.args.loaded.now in
    let v : c.witness_of-subst.result.now ≡ w = same_witness st c.args.lemma c.args.own.now c.witness_of-subst.result.now w c.requires.witness c.witness_of-subst.ensures i in
    let e : reduction (substitution w) c.clause.result.now ≡ left c.reduce.new.out = left_of c.witness_of-subst.result.now w c.clause.result.now c.reduce.new.out c.in_ok-reduce.field-0 v c.in-Left.is c.in_ok-reduce.ensures.value in
    let t : Tests (assuming_all st (compl c.as_slice.result.now)) false c.refute_left.new.chain = subst (λ x. Tests (assuming_all st (compl c.as_slice.result.now)) x c.refute_left.new.chain) c.if-not-branch.true c.in_ok-refute_left.ensures.tests in
    let none : ¬ Refutes (clauses (alive_in st)) (st.assumed ++ compl c.reduce.new.out) = subst (λ x. ¬ Refutes (clauses (alive_in st)) (st.assumed ++ compl x)) c.as_slice.ensures t.0 in
    stuck_of st b (substitution w) d c.clause.result.now c.reduce.new.out all s (c.clause.ensures d f) e none

pub returns-then-is_empty-clause-tells : goal.returns-then-is_empty-clause-tells
returns-then-is_empty-clause-tells g c b d w all s i f =
    let st = g.L.Loaded.state c.args.loaded.now in
    let v : c.witness_of-subst.result.now ≡ w = same_witness st c.args.lemma c.args.own.now c.witness_of-subst.result.now w c.requires.witness c.witness_of-subst.ensures i in
    let e : reduction (substitution w) c.clause.result.now ≡ left c.reduce.new.out = left_of c.witness_of-subst.result.now w c.clause.result.now c.reduce.new.out c.in_ok-reduce.field-0 v c.in-Left.is c.in_ok-reduce.ensures.value in
    let t : IsChain (assuming_all st (compl c.as_slice.result.now)) c.refute_left.new.chain = subst (λ x. Tests (assuming_all st (compl c.as_slice.result.now)) x c.refute_left.new.chain) c.if-not-branch.false c.in_ok-refute_left.ensures.tests in
    let k : IsChain (assuming_all st (compl c.reduce.new.out)) c.refute_left.new.chain = subst (λ x. IsChain (assuming_all st (compl x)) c.refute_left.new.chain) c.as_slice.ensures t in
    let empty : (length c.refute_left.new.chain == 0) ≡ true = ap (λ x. length x == 0) (sym c.as_slice-2.ensures) ∙ sym c.if-is_empty.ensures in
    paired_of st b (substitution w) d c.clause.result.now c.reduce.new.out c.refute_left.new.chain s (c.clause.ensures d f) e empty k

pub returns-clause-tells : goal.returns-clause-tells
returns-clause-tells g c b d w all s i f =
    let st = g.L.Loaded.state c.args.loaded.now in
    let v : c.witness_of-subst.result.now ≡ w = same_witness st c.args.lemma c.args.own.now c.witness_of-subst.result.now w c.requires.witness c.witness_of-subst.ensures i in
    let e : reduction (substitution w) c.clause.result.now ≡ left c.reduce.new.out = left_of c.witness_of-subst.result.now w c.clause.result.now c.reduce.new.out c.in_ok-reduce.field-0 v c.in-Left.is c.in_ok-reduce.ensures.value in
    let t : IsChain (assuming_all st (compl c.as_slice.result.now)) c.refute_left.new.chain = subst (λ x. Tests (assuming_all st (compl c.as_slice.result.now)) x c.refute_left.new.chain) c.if-not-branch.false c.in_ok-refute_left.ensures.tests in
    let k : IsChain (assuming_all st (compl c.reduce.new.out)) c.refute_left.new.chain = subst (λ x. IsChain (assuming_all st (compl x)) c.refute_left.new.chain) c.as_slice.ensures t in
    let full : (length c.refute_left.new.chain == 0) ≡ false = ap (λ x. length x == 0) (sym c.as_slice-2.ensures) ∙ sym c.if-is_empty.ensures in
    met_of st b (substitution w) d c.clause.result.now c.reduce.new.out c.refute_left.new.chain all s (c.clause.ensures d f) e full k
