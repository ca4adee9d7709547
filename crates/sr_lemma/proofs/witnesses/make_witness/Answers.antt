use Rattle.std.proofs.Common.{◌≡◌, ◌∙◌, ◌+◌, ◌<◌, ◌-◌, ℕ, List, Err, take, drop, length, sym, ap, subst, arith}
use Rattle.std.proofs.lemmas.Result.{err_from_is_err_and}
use Rattle.std.proofs.lemmas.List.{take_rest}
use Rattle.sr_base.specs.Literal.{Literal}
use Rattle.sr_model.specs.Witnesses.{before}
use Rattle.sr_lemma.specs.Parts.{GivesMaps}
use Rattle.sr_lemma.proofs.SplitLemmas.{before-take, witness_alone, witness_maps, maps_stop}
use Rattle.sr_lemma.proofs.witnesses.make_witness.Goals as goal

pub returns-then-third-lits : goal.returns-then-third-lits
returns-then-third-lits c =
    witness_alone c.args.pivot c.args.lits.now c.args.end c.make_subst.result (sym c.count_before-third.ensures.value ∙ c.if-third-lits.true) c.make_subst.ensures

-- the literals behind the third pivot
behind : (xs : List Literal) (n m : ℕ) → n ≡ m → take (length xs - (n + 1)) (drop (n + 1) xs) ≡ drop (m + 1) xs
behind xs n m e = take_rest xs (n + 1) ∙ ap (λ k. drop (k + 1) xs) e

pub returns-in_err-maps : goal.returns-in_err-maps
returns-in_err-maps c =
    let p = err_from_is_err_and c.from_residual.result c.from_residual.ensures.1 in
    let within : length (before c.args.pivot c.args.lits.now) < length c.args.lits.now =
    omega (arith, c.count_before-third.ensures.value, c.count_before-third.ensures.bound, c.if-third-lits.false) in
    let rest = behind c.args.lits.now c.count_before-third.result (length (before c.args.pivot c.args.lits.now)) c.count_before-third.ensures.value in
    rw (p.1, p.2) (maps_stop c.args.pivot c.args.lits.now c.args.end c.in_err-maps.field-0.0 within
    (subst (λ xs. GivesMaps xs c.args.end (Err c.in_err-maps.field-0.0)) rest c.in_err-maps.ensures))

pub returns : goal.returns
returns c =
    let within : length (before c.args.pivot c.args.lits.now) < length c.args.lits.now =
    omega (arith, c.count_before-third.ensures.value, c.count_before-third.ensures.bound, c.if-third-lits.false) in
    let rest = behind c.args.lits.now c.count_before-third.result (length (before c.args.pivot c.args.lits.now)) c.count_before-third.ensures.value in
    let maps = rw rest at c.in_ok-maps.ensures in
    witness_maps c.args.pivot c.args.lits.now (take c.count_before-third.result c.args.lits.now) c.deref.result.now c.args.end c.make_subst-2.result within
    (ap (λ n. take n c.args.lits.now) c.count_before-third.ensures.value ∙ before-take c.args.pivot c.args.lits.now)
    maps.0 (c.deref.ensures.value ∙ maps.1) c.make_subst-2.ensures
