use Rattle.std.proofs.Common.{◌≡◌, ◌∙◌, ◌+◌, ◌<◌, ◌-◌, ℕ, List, None, Some, Ok, Err, take, drop, length, sym, ap, subst, arith}
use Rattle.std.proofs.lemmas.List.{take_rest}
use Rattle.sr_base.specs.Literal.{Literal}
use Rattle.sr_model.specs.Witnesses.{before}
use Rattle.sr_lemma.specs.Parts.{GivesWitness, FindsWitness}
use Rattle.sr_lemma.proofs.SplitLemmas.{first_and_others, no_witness, a_witness, bad_witness}
use Rattle.sr_lemma.proofs.witnesses.find_witness.Goals as goal

-- the literals behind the second pivot
behind : (xs : List Literal) (n m : ℕ) → n ≡ m → take (length xs - (n + 1)) (drop (n + 1) xs) ≡ drop (m + 1) xs
behind xs n m e = take_rest xs (n + 1) ∙ ap (λ k. drop (k + 1) xs) e

pub returns-then-second-rest : goal.returns-then-second-rest
returns-then-second-rest c =
    subst (λ lits. FindsWitness lits c.args.end (Ok None)) (first_and_others c.pivot-item.result c.args.lits.now c.in-len1-up.len_at_least c.pivot-item.is)
    (no_witness c.pivot-item.result (take (length c.args.lits.now - 1) (drop 1 c.args.lits.now)) c.args.end (sym c.count_before-second.ensures.value ∙ c.if-second-rest.true))

pub returns-in-Ok : goal.returns-in-Ok
returns-in-Ok c =
    let rest : List Literal = take (length c.args.lits.now - 1) (drop 1 c.args.lits.now) in
    let within : length (before c.pivot-item.result rest) < length rest =
    omega (arith, c.count_before-second.ensures.value, c.count_before-second.ensures.bound, c.if-second-rest.false) in
    let part = behind rest c.count_before-second.result (length (before c.pivot-item.result rest)) c.count_before-second.ensures.value in
    subst (λ lits. FindsWitness lits c.args.end (Ok (Some c.in-Ok.witness))) (first_and_others c.pivot-item.result c.args.lits.now c.in-len1-up.len_at_least c.pivot-item.is)
    (a_witness c.pivot-item.result rest c.args.end c.in-Ok.witness within (rw part at c.in-Ok.ensures))

pub returns-in-Err : goal.returns-in-Err
returns-in-Err c =
    let rest : List Literal = take (length c.args.lits.now - 1) (drop 1 c.args.lits.now) in
    let within : length (before c.pivot-item.result rest) < length rest =
    omega (arith, c.count_before-second.ensures.value, c.count_before-second.ensures.bound, c.if-second-rest.false) in
    let part = behind rest c.count_before-second.result (length (before c.pivot-item.result rest)) c.count_before-second.ensures.value in
    subst (λ lits. FindsWitness lits c.args.end (Err c.in-Err.fault)) (first_and_others c.pivot-item.result c.args.lits.now c.in-len1-up.len_at_least c.pivot-item.is)
    (bad_witness c.pivot-item.result rest c.args.end c.in-Err.fault within (subst (λ xs. GivesWitness c.pivot-item.result xs c.args.end (Err c.in-Err.fault)) part c.in-Err.ensures))
