use Rattle.std.proofs.Common.{◌≡◌, ◌≢◌, [], arith, ap, sym, subst}
use Rattle.sr_lemma.specs.Lines.{lemma_told}
use Rattle.sr_load.specs.Loaded.{LoadedState}
use Rattle.sr_load.specs.Records.{done_of}
use Rattle.sr_load.proofs.Keeping.{stood_before, undone_before, back_joined, back_removed, alive_attached, clause_held, removed_loose, keeps_joined_back, keeps_removed_back, keeps_passed_back, keeps_undone, took}
use Rattle.sr_load.proofs.timeline.Timeline.take_back.Goals as goal

pub overflow_sub-self-in-Joined : goal.overflow_sub-self-in-Joined
overflow_sub-self-in-Joined c =
    let some = subst (λ (st : LoadedState). st.standing ≢ []) (sym c.self.view_is) c.requires.some in
    let is = ap done_of c.in-Joined.is in
    let stood = stood_before c.self.inside.lines.items c.self.inside.standing c.index.result.now _ some c.self.invariant.1.within c.index.ensures is in
    let undone = undone_before c.self.inside.lines.items c.self.inside.standing c.index.result.now _ some c.self.invariant.1.within c.index.ensures is in
    let b = back_joined _ _ _ _ _ _ _ _ (lemma_told c.in-Joined.field-0.value) c.self.invariant.0 stood in
    b.low

pub overflow_sub-id : goal.overflow_sub-id
overflow_sub-id c =
    let some = subst (λ (st : LoadedState). st.standing ≢ []) (sym c.self.view_is) c.requires.some in
    let is = ap done_of c.in-Joined.is in
    let stood = stood_before c.self.inside.lines.items c.self.inside.standing c.index.result.now _ some c.self.invariant.1.within c.index.ensures is in
    let undone = undone_before c.self.inside.lines.items c.self.inside.standing c.index.result.now _ some c.self.invariant.1.within c.index.ensures is in
    let b = back_joined _ _ _ _ _ _ _ _ (lemma_told c.in-Joined.field-0.value) c.self.invariant.0 stood in
    b.low

pub index-at-requires : goal.index-at-requires
index-at-requires c =
    let some = subst (λ (st : LoadedState). st.standing ≢ []) (sym c.self.view_is) c.requires.some in
    let is = ap done_of c.in-Joined.is in
    let stood = stood_before c.self.inside.lines.items c.self.inside.standing c.index.result.now _ some c.self.invariant.1.within c.index.ensures is in
    let undone = undone_before c.self.inside.lines.items c.self.inside.standing c.index.result.now _ some c.self.invariant.1.within c.index.ensures is in
    let b = back_joined _ _ _ _ _ _ _ _ (lemma_told c.in-Joined.field-0.value) c.self.invariant.0 stood in
    omega (arith, b.low, b.high)

pub detach-requires : goal.detach-requires
detach-requires c =
    let some = subst (λ (st : LoadedState). st.standing ≢ []) (sym c.self.view_is) c.requires.some in
    let is = ap done_of c.in-Joined.is in
    let stood = stood_before c.self.inside.lines.items c.self.inside.standing c.index.result.now _ some c.self.invariant.1.within c.index.ensures is in
    let undone = undone_before c.self.inside.lines.items c.self.inside.standing c.index.result.now _ some c.self.invariant.1.within c.index.ensures is in
    let b = back_joined _ _ _ _ _ _ _ _ (lemma_told c.in-Joined.field-0.value) c.self.invariant.0 stood in
    alive_attached _ _ _ _ _ _ _ c.self.inside.reached _ c.self.invariant.0 b.alive c.index-at.ensures

pub invariant_of-self : goal.invariant_of-self
invariant_of-self c =
    let some = subst (λ (st : LoadedState). st.standing ≢ []) (sym c.self.view_is) c.requires.some in
    let is = ap done_of c.in-Joined.is in
    let stood = stood_before c.self.inside.lines.items c.self.inside.standing c.index.result.now _ some c.self.invariant.1.within c.index.ensures is in
    let undone = undone_before c.self.inside.lines.items c.self.inside.standing c.index.result.now _ some c.self.invariant.1.within c.index.ensures is in
    let b = back_joined _ _ _ _ _ _ _ _ (lemma_told c.in-Joined.field-0.value) c.self.invariant.0 stood in
    let none = subst (λ (st : LoadedState). st.assumed ≡ []) (sym c.self.view_is) c.requires.none in
    (keeps_undone _ _ _ _ _ _ _ _ _ _ _ _ undone (keeps_joined_back _ _ _ _ _ _ _ _ _ _ _ c.detach.ensures.value.0 c.self.invariant.0 stood none c.index-at.ensures c.detach.ensures.value.1 c.detach.ensures.cells), record { within = omega (arith, c.self.invariant.1.within); passes = c.self.invariant.1.passes })

pub returns-in-Joined : goal.returns-in-Joined
returns-in-Joined c =
    let some = subst (λ (st : LoadedState). st.standing ≢ []) (sym c.self.view_is) c.requires.some in
    let is = ap done_of c.in-Joined.is in
    let stood = stood_before c.self.inside.lines.items c.self.inside.standing c.index.result.now _ some c.self.invariant.1.within c.index.ensures is in
    let undone = undone_before c.self.inside.lines.items c.self.inside.standing c.index.result.now _ some c.self.invariant.1.within c.index.ensures is in
    let b = back_joined _ _ _ _ _ _ _ _ (lemma_told c.in-Joined.field-0.value) c.self.invariant.0 stood in
    took _ _ _ _ _ _ _ _ c.self.view_is stood undone b.number

pub overflow_sub-id-in-Removed : goal.overflow_sub-id-in-Removed
overflow_sub-id-in-Removed c =
    let some = subst (λ (st : LoadedState). st.standing ≢ []) (sym c.self.view_is) c.requires.some in
    let is = ap done_of c.in-Removed.is in
    let stood = stood_before c.self.inside.lines.items c.self.inside.standing c.index.result.now _ some c.self.invariant.1.within c.index.ensures is in
    let undone = undone_before c.self.inside.lines.items c.self.inside.standing c.index.result.now _ some c.self.invariant.1.within c.index.ensures is in
    let b = back_removed _ _ _ _ _ _ _ _ c.in-Removed.id c.self.invariant.0 stood in
    b.low

pub index-at-requires-in-Removed : goal.index-at-requires-in-Removed
index-at-requires-in-Removed c =
    let some = subst (λ (st : LoadedState). st.standing ≢ []) (sym c.self.view_is) c.requires.some in
    let is = ap done_of c.in-Removed.is in
    let stood = stood_before c.self.inside.lines.items c.self.inside.standing c.index.result.now _ some c.self.invariant.1.within c.index.ensures is in
    let undone = undone_before c.self.inside.lines.items c.self.inside.standing c.index.result.now _ some c.self.invariant.1.within c.index.ensures is in
    let b = back_removed _ _ _ _ _ _ _ _ c.in-Removed.id c.self.invariant.0 stood in
    omega (arith, b.low, b.high)

pub attach-requires-clause-held : goal.attach-requires-clause-held
attach-requires-clause-held c =
    let some = subst (λ (st : LoadedState). st.standing ≢ []) (sym c.self.view_is) c.requires.some in
    let is = ap done_of c.in-Removed.is in
    let stood = stood_before c.self.inside.lines.items c.self.inside.standing c.index.result.now _ some c.self.invariant.1.within c.index.ensures is in
    let undone = undone_before c.self.inside.lines.items c.self.inside.standing c.index.result.now _ some c.self.invariant.1.within c.index.ensures is in
    let b = back_removed _ _ _ _ _ _ _ _ c.in-Removed.id c.self.invariant.0 stood in
    clause_held _ _ _ _ _ _ _ c.in-Removed.id _ c.self.invariant.0 b.low b.high c.index-at-in-Removed.ensures

pub attach-requires-clause-loose : goal.attach-requires-clause-loose
attach-requires-clause-loose c =
    let some = subst (λ (st : LoadedState). st.standing ≢ []) (sym c.self.view_is) c.requires.some in
    let is = ap done_of c.in-Removed.is in
    let stood = stood_before c.self.inside.lines.items c.self.inside.standing c.index.result.now _ some c.self.invariant.1.within c.index.ensures is in
    let undone = undone_before c.self.inside.lines.items c.self.inside.standing c.index.result.now _ some c.self.invariant.1.within c.index.ensures is in
    let b = back_removed _ _ _ _ _ _ _ _ c.in-Removed.id c.self.invariant.0 stood in
    removed_loose _ _ _ _ _ _ _ c.in-Removed.id _ c.self.invariant.0 b.gone b.low b.high c.index-at-in-Removed.ensures

pub invariant_of-self-in-Removed : goal.invariant_of-self-in-Removed
invariant_of-self-in-Removed c =
    let some = subst (λ (st : LoadedState). st.standing ≢ []) (sym c.self.view_is) c.requires.some in
    let is = ap done_of c.in-Removed.is in
    let stood = stood_before c.self.inside.lines.items c.self.inside.standing c.index.result.now _ some c.self.invariant.1.within c.index.ensures is in
    let undone = undone_before c.self.inside.lines.items c.self.inside.standing c.index.result.now _ some c.self.invariant.1.within c.index.ensures is in
    let b = back_removed _ _ _ _ _ _ _ _ c.in-Removed.id c.self.invariant.0 stood in
    (keeps_undone _ _ _ _ _ _ _ _ _ _ _ _ undone (keeps_removed_back _ _ _ _ _ _ _ _ _ c.in-Removed.id _ c.self.invariant.0 stood c.index-at-in-Removed.ensures c.attach.ensures.value c.attach.ensures.cells), record { within = omega (arith, c.self.invariant.1.within); passes = c.self.invariant.1.passes })

pub returns-in-Removed : goal.returns-in-Removed
returns-in-Removed c =
    let some = subst (λ (st : LoadedState). st.standing ≢ []) (sym c.self.view_is) c.requires.some in
    let is = ap done_of c.in-Removed.is in
    let stood = stood_before c.self.inside.lines.items c.self.inside.standing c.index.result.now _ some c.self.invariant.1.within c.index.ensures is in
    let undone = undone_before c.self.inside.lines.items c.self.inside.standing c.index.result.now _ some c.self.invariant.1.within c.index.ensures is in
    let b = back_removed _ _ _ _ _ _ _ _ c.in-Removed.id c.self.invariant.0 stood in
    took _ _ _ _ _ _ _ _ c.self.view_is stood undone tt

pub invariant_of-self-in-Passed : goal.invariant_of-self-in-Passed
invariant_of-self-in-Passed c =
    let some = subst (λ (st : LoadedState). st.standing ≢ []) (sym c.self.view_is) c.requires.some in
    let is = ap done_of c.in-Passed.is in
    let stood = stood_before c.self.inside.lines.items c.self.inside.standing c.index.result.now _ some c.self.invariant.1.within c.index.ensures is in
    let undone = undone_before c.self.inside.lines.items c.self.inside.standing c.index.result.now _ some c.self.invariant.1.within c.index.ensures is in
    (keeps_undone _ _ _ _ _ _ _ _ _ _ _ _ undone (keeps_passed_back _ _ _ _ _ _ _ _ c.self.invariant.0 stood), record { within = omega (arith, c.self.invariant.1.within); passes = c.self.invariant.1.passes })

pub returns-in-Passed : goal.returns-in-Passed
returns-in-Passed c =
    let some = subst (λ (st : LoadedState). st.standing ≢ []) (sym c.self.view_is) c.requires.some in
    let is = ap done_of c.in-Passed.is in
    let stood = stood_before c.self.inside.lines.items c.self.inside.standing c.index.result.now _ some c.self.invariant.1.within c.index.ensures is in
    let undone = undone_before c.self.inside.lines.items c.self.inside.standing c.index.result.now _ some c.self.invariant.1.within c.index.ensures is in
    took _ _ _ _ _ _ _ _ c.self.view_is stood undone tt
