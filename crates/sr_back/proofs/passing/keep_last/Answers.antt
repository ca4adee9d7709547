use Rattle.std.proofs.Common.{◌≡◌, ◌∷◌, [], ℕ, List, true, false, subst, sym, ap, ◌∙◌}
use Rattle.sr_model.specs.Assignment.{holds_number}
use Rattle.sr_steps.specs.Kept.{Kept}
use Rattle.sr_trimming.specs.Placing.{numbers}
use Rattle.sr_load.specs.Loaded.{alive_in, IsChain, Tests}
use Rattle.sr_back.specs.Citing.{CitesAll}
use Rattle.sr_back.proofs.Alive.{lean_live}
use Rattle.sr_back.proofs.Lines.{first_refuted, first_kept}
use Rattle.sr_back.proofs.passing.keep_last.Goals as goal

pub unreachable-requires : goal.unreachable-requires
unreachable-requires g c = first_refuted (g.L.Loaded.state c.args.loaded.now) c.refute.new.chain c.requires.loaded
    (subst (λ b. Tests (g.L.Loaded.state c.args.loaded.now) b c.refute.new.chain) c.if-not-branch.true c.in_ok-refute.ensures.ok)

pub cite_all-requires-clause-alive : goal.cite_all-requires-clause-alive
cite_all-requires-clause-alive g c n h =
    let st = g.L.Loaded.state c.args.loaded.now in
    let k : IsChain st c.refute.new.chain = subst (λ b. Tests st b c.refute.new.chain) c.if-not-branch.false c.in_ok-refute.ensures.ok in
    let m : holds_number n c.refute.new.chain ≡ true = subst (λ ns. holds_number n ns ≡ true) c.as_slice.ensures h in
    subst (λ x. holds_number n (numbers (alive_in x)) ≡ true) (sym c.refute.ensures.same) (lean_live (alive_in st) st.assumed c.refute.new.chain n k.lean m)

pub returns-clause-kept : goal.returns-clause-kept
returns-clause-kept g c =
    let st = g.L.Loaded.state c.args.loaded.now in
    let new = g.L.Loaded.state c.cite_all.new.loaded in
    let k : IsChain st c.refute.new.chain = subst (λ b. Tests st b c.refute.new.chain) c.if-not-branch.false c.in_ok-refute.ensures.ok in
    let cites : CitesAll st new c.refute.new.chain = subst (CitesAll st new) c.as_slice.ensures (subst (λ x. CitesAll x new c.as_slice.result.now) c.refute.ensures.same c.in_ok-cite_all.ensures.cites) in
    let step : List ℕ → List Kept → List Kept = λ ns ks. record { id = c.next-end.result; by_witness = false; prefix = ns; groups = [] } ∷ ks in
    first_kept st new c.next-end.result c.refute.new.chain c.push.new.self c.requires.loaded c.next-end.ensures k cites
    (c.in_ok-push.ensures.ok ∙ ap (λ ns. step ns c.args.steps.now) c.as_slice-2.ensures ∙ ap (step c.refute.new.chain) c.requires.none)
