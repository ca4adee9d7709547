use Rattle.std.proofs.Common.{refl, ap, ◌∙◌, sym, subst}
use Rattle.std.specs.Prelude.{IfOk}
use Rattle.sr_model.specs.Assignment.{holds_number}
use Rattle.sr_watch.specs.declared.parts.Part.TheVariants.{All}
use Rattle.sr_load.specs.Loaded.{LoadedState, Tests, IsChain}
use Rattle.sr_load.specs.Finding.{PartTests}
use Rattle.sr_load.specs.Copies.{CitedTests}
use Rattle.sr_load.proofs.Alike.{if_ok_map}
use Rattle.sr_load.proofs.Refuting.{uncited_tests, none_core, core_lean, cited_chain, chosen}
use Rattle.sr_load.proofs.proof.LoadedProofLoaded.refute.Goals as goal

pub returns-then-not-branch-clause-ok : goal.returns-then-not-branch-clause-ok
returns-then-not-branch-clause-ok c =
    let st : LoadedState = c.self.inside.timeline in
    let none = none_core st c.in_ok-test.field-0 c.test.new.chain c.if-not-branch.true c.in_ok-test.ensures.ok in
    if_ok_map c.test-then-not-branch.result _ _ (λ b h. subst (λ (x : LoadedState). Tests x b c.test-then-not-branch.new.chain) c.self.view_is
    (uncited_tests st b c.test-then-not-branch.new.chain none (subst (λ (x : LoadedState). PartTests x All b c.test-then-not-branch.new.chain) c.in_ok-test.ensures.same h))) c.test-then-not-branch.ensures.ok

pub returns-then-are_cited-clause-ok : goal.returns-then-are_cited-clause-ok
returns-then-are_cited-clause-ok c =
    let st : LoadedState = c.self.inside.timeline in
    let lean = core_lean st c.in_ok-test.field-0 c.test.new.chain c.if-not-branch.false c.in_ok-test.ensures.ok in
    subst (λ (x : LoadedState). IsChain x c.test.new.chain) c.self.view_is
    (cited_chain st c.test.new.chain lean (λ n h. ap (λ (x : LoadedState). holds_number n x.cited) (sym c.in_ok-test.ensures.same) ∙ c.if-are_cited.ensures refl n (ap (holds_number n) c.as_slice.ensures ∙ h)))

pub returns-clause-ok : goal.returns-clause-ok
returns-clause-ok c =
    let st : LoadedState = c.self.inside.timeline in
    let lean = core_lean st c.in_ok-test.field-0 c.test.new.chain c.if-not-branch.false c.in_ok-test.ensures.ok in
    let asked = if_ok_map c.ask_copies-asked.result _ (λ b. CitedTests st b c.ask_copies-asked.new.chain) (λ b h. subst (λ (x : LoadedState). CitedTests x b c.ask_copies-asked.new.chain) c.in_ok-test.ensures.same h) c.ask_copies-asked.ensures.ok in
    subst (λ (x : LoadedState). IfOk c.choose.result (λ b. Tests x b c.choose.new.chain)) c.self.view_is
    (chosen st c.ask_copies-asked.result c.choose.result c.test.new.chain c.ask_copies-asked.new.chain c.choose.new.chain lean asked c.choose.ensures.first c.choose.ensures.second c.choose.ensures.yes c.choose.ensures.fails)
