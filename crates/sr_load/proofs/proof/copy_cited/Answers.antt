use Rattle.std.proofs.Common.{◌≡◌, ◌<◌, true, get_or, length, arith, ap, ◌∙◌, sym, subst}
use Rattle.std.proofs.lemmas.List.{get_or_default}
use Rattle.sr_model.specs.Assignment.{holds_number}
use Rattle.sr_load.proofs.Asking.{cited_at, covers_next, covers_kept_up}
use Rattle.sr_load.proofs.proof.copy_cited.Goals as goal

pub copy-requires-clause-number : goal.copy-requires-clause-number
copy-requires-clause-number c =
    let ns = c.cited-cited.result.now in let k = c.citations.copied in
    let there : holds_number (get_or ns k 0) ns ≡ true = cited_at ns k (get_or ns k 0) c.citations-test.true (get_or_default ns k 0 (get_or ns k 0) c.citations-test.true) in
    c.cited-cited.ensures.known (get_or ns k 0) (ap (holds_number (get_or ns k 0)) (sym c.cited-cited.ensures.value) ∙ there)

pub copy-requires-clause-cited : goal.copy-requires-clause-cited
copy-requires-clause-cited c =
    let ns = c.cited-cited.result.now in let k = c.citations.copied in
    ap (holds_number (get_or ns k 0)) (sym c.cited-cited.ensures.value) ∙ cited_at ns k (get_or ns k 0) c.citations-test.true (get_or_default ns k 0 (get_or ns k 0) c.citations-test.true)

pub returns-in_err-copy-clause-covers : goal.returns-in_err-copy-clause-covers
returns-in_err-copy-clause-covers c = covers_kept_up c.args.timeline.now c.citations.copies c.copy.new.copies c.citations.copied (λ n h. (c.cited-cited.ensures.known n h).0) c.in_err-copy.ensures.kept c.citations.invariant.covers

pub citations-preserved : goal.citations-preserved
citations-preserved c =
    let ns = c.cited-cited.result.now in let k = c.citations.copied in let st = c.args.timeline.now in
    let same = c.cited-cited.ensures.value in
    let lt : k < length st.cited = subst (λ x. k < length x) same c.citations-test.true in
    let is = subst (λ x. get_or ns k 0 ≡ get_or x k (get_or ns k 0)) same (get_or_default ns k 0 (get_or ns k 0) c.citations-test.true) in
    record {
      copies = c.in_ok-copy.ensures.copies;
      covers = covers_next st c.citations.copies c.copy.new.copies k (get_or ns k 0) lt is (λ n h. (c.cited-cited.ensures.known n h).0) c.citations.invariant.covers c.in_ok-copy.ensures.kept c.in_ok-copy.ensures.copied;
      within = omega (arith, lt);
      begins = c.in_ok-copy.ensures.begins;
    }
