use Rattle.std.proofs.Common.{◌≡◌, true, arith, ◌∙◌, sym, subst}
use Rattle.sr_load.specs.Loaded.{LoadedState, alive_in}
use Rattle.sr_load.specs.Numbers.{has_clause}
use Rattle.sr_load.proofs.Numbering.{has_number}
use Rattle.sr_load.proofs.Keeping.{alive_within, alive_attached, keeps_cite}
use Rattle.sr_load.proofs.Alike.{keeps_derived}
use Rattle.sr_load.proofs.timeline.Timeline.cite.Goals as goal

pub overflow_sub-id : goal.overflow_sub-id
overflow_sub-id c =
    let alive = sym (has_number (alive_in c.args.self.now) c.args.id) ∙ c.requires in
    (alive_within _ _ _ _ _ _ _ c.args.id c.self.invariant.0 (subst (λ (st : LoadedState). has_clause (alive_in st) c.args.id ≡ true) (sym c.self.view_is) alive)).0

pub overflow_sub-id-2 : goal.overflow_sub-id-2
overflow_sub-id-2 c =
    let alive = sym (has_number (alive_in c.args.self.now) c.args.id) ∙ c.requires in
    (alive_within _ _ _ _ _ _ _ c.args.id c.self.invariant.0 (subst (λ (st : LoadedState). has_clause (alive_in st) c.args.id ≡ true) (sym c.self.view_is) alive)).0

pub index_mut-requires : goal.index_mut-requires
index_mut-requires c =
    let alive = sym (has_number (alive_in c.args.self.now) c.args.id) ∙ c.requires in
    let r = alive_within _ _ _ _ _ _ _ c.args.id c.self.invariant.0 (subst (λ (st : LoadedState). has_clause (alive_in st) c.args.id ≡ true) (sym c.self.view_is) alive) in
    omega (arith, r.0, r.1, c.self.invariant.0.flags_size)

pub index-at-requires : goal.index-at-requires
index-at-requires c =
    let alive = sym (has_number (alive_in c.args.self.now) c.args.id) ∙ c.requires in
    let r = alive_within _ _ _ _ _ _ _ c.args.id c.self.invariant.0 (subst (λ (st : LoadedState). has_clause (alive_in st) c.args.id ≡ true) (sym c.self.view_is) alive) in
    omega (arith, r.0, r.1)

pub make_core-requires : goal.make_core-requires
make_core-requires c =
    let alive = sym (has_number (alive_in c.args.self.now) c.args.id) ∙ c.requires in
    alive_attached _ _ _ _ _ _ _ c.args.id _ c.self.invariant.0 (subst (λ (st : LoadedState). has_clause (alive_in st) c.args.id ≡ true) (sym c.self.view_is) alive) c.index-at.ensures

pub invariant_of-self-2 : goal.invariant_of-self-2
invariant_of-self-2 c =
    let alive = sym (has_number (alive_in c.args.self.now) c.args.id) ∙ c.requires in
    let cited = keeps_cite _ _ _ _ _ _ _ _ c.args.id _ c.self.invariant.0 (subst (λ (st : LoadedState). has_clause (alive_in st) c.args.id ≡ true) (sym c.self.view_is) alive) c.index-at.ensures c.make_core.ensures.value c.make_core.ensures.cells in
    rw c.in_ok-push.ensures.ok (keeps_derived _ _ _ _ _ _ _ _ cited c.close.ensures.derives c.close.ensures.cells c.close.ensures.sound, c.self.invariant.1)
