use Rattle.std.proofs.Common.{◌≡◌, ◌∙◌, ◌++◌, ℕ, ◌-◌, false, List, [], ◌∷◌, None, Some, length, get_or, ap, sym, subst, arith, append-nil}
use Rattle.std.specs.Prelude.{All}
use Rattle.sr_model.specs.Meeting.{Step}
use Rattle.sr_model.specs.Judging.{numbered_from, stepped}
use Rattle.sr_model.specs.Writing.{written_item, written_items}
use Rattle.sr_trimming.specs.Loading.{at_start}
use Rattle.sr_trimming.specs.Placing.{deletion, uncited}
use Rattle.sr_trimming.specs.Reordered.{IsStepRewritten}
use Rattle.sr_lsr.specs.Written.{IsSmall}
use Rattle.sr_steps.specs.Adding.{bare}
use Rattle.sr_steps.specs.Kept.{Kept, step_at, step_of}
use Rattle.sr_load.specs.Loaded.{LoadedState, all_lines}
use Rattle.sr_placing.specs.Placing.{PlacingValue, steps_of, drops_from}
use Rattle.sr_placing.specs.Parts.{IsSmallKept}
use Rattle.sr_placing.proofs.Lemmas.{place_before}
use Rattle.sr_placing.proofs.Placings.{id_is}
use Rattle.sr_placing.proofs.Laying.{AreLaid, items_so_far, none_laid, one_laid, one_more_bytes, last_bytes}
use Rattle.sr_placing.proofs.Ready.{are_ready, step_got, steps_count, bare_rewritten}
use Rattle.sr_placing.proofs.write.put_lsr.Goals as goal

pub put_deletion-requires-clause-ids : goal.put_deletion-requires-clause-ids
put_deletion-requires-clause-ids g c =
    let st : LoadedState = g.L.Loaded.state c.args.loaded.now in
    let ready = are_ready st c.args.steps.now c.requires.linked c.requires.from c.requires.lean c.requires.small in
    let is : c.uncited.result.now ≡ uncited st.formula.clauses (steps_of st c.args.steps.now) = c.uncited.ensures ∙ ap (λ (p : PlacingValue). p.uncited) c.requires.placed in
    subst (All IsSmall) (sym is) ready.small_uncited

pub put_step-requires-clause-small : goal.put_step-requires-clause-small
put_step-requires-clause-small g c =
    let st : LoadedState = g.L.Loaded.state c.args.loaded.now in
    let ready = are_ready st c.args.steps.now c.requires.linked c.requires.from c.requires.lean c.requires.small in
    ready.small_steps c.loop-i.i (bare 0 false) (omega arith)

pub put_step-requires-clause-low : goal.put_step-requires-clause-low
put_step-requires-clause-low g c =
    let st : LoadedState = g.L.Loaded.state c.args.loaded.now in
    let ready = are_ready st c.args.steps.now c.requires.linked c.requires.from c.requires.lean c.requires.small in
    (ready.lemmas c.loop-i.i (bare 0 false) (omega arith)).0

pub put_step-requires-clause-high : goal.put_step-requires-clause-high
put_step-requires-clause-high g c =
    let st : LoadedState = g.L.Loaded.state c.args.loaded.now in
    let ready = are_ready st c.args.steps.now c.requires.linked c.requires.from c.requires.lean c.requires.small in
    let place = (ready.lemmas c.loop-i.i (bare 0 false) (omega arith)).1 in
    place_before (at_start st.formula.clauses) (all_lines st) (get_or c.args.steps.now c.loop-i.i (bare 0 false)).id place.0 place.1

pub drops-requires : goal.drops-requires
drops-requires g c =
    let st : LoadedState = g.L.Loaded.state c.args.loaded.now in
    let ready = are_ready st c.args.steps.now c.requires.linked c.requires.from c.requires.lean c.requires.small in
    let is = ap (λ (p : PlacingValue). length p.drops) c.requires.placed in
    omega (arith, is, ready.drops)

pub put_deletion-requires-in-loop-i-clause-id : goal.put_deletion-requires-in-loop-i-clause-id
put_deletion-requires-in-loop-i-clause-id g c =
    let st : LoadedState = g.L.Loaded.state c.args.loaded.now in
    let ready = are_ready st c.args.steps.now c.requires.linked c.requires.from c.requires.lean c.requires.small in
    let small : IsSmallKept (get_or c.args.steps.now c.loop-i.i (bare 0 false)) = ready.small_steps c.loop-i.i (bare 0 false) (omega arith) in
    omega (arith, small.small_id, c.id.ensures)

pub put_deletion-requires-in-loop-i-clause-ids : goal.put_deletion-requires-in-loop-i-clause-ids
put_deletion-requires-in-loop-i-clause-ids g c =
    let st : LoadedState = g.L.Loaded.state c.args.loaded.now in
    let ready = are_ready st c.args.steps.now c.requires.linked c.requires.from c.requires.lean c.requires.small in
    let is : c.drops.result.now ≡ get_or (drops_from (numbered_from 1 st.formula.clauses) (steps_of st c.args.steps.now)) c.loop-i.i [] =
    c.drops.ensures ∙ ap (λ (p : PlacingValue). get_or p.drops c.loop-i.i []) c.requires.placed in
    subst (All IsSmall) (sym is) (ready.small_drops c.loop-i.i)

pub loop-i-init : goal.loop-i-init
loop-i-init g c =
    let st : LoadedState = g.L.Loaded.state c.args.loaded.now in
    let ss : List Step = steps_of st c.args.steps.now in
    let count : c.count.result ≡ length st.formula.clauses = c.count.ensures.value ∙ ap (λ f. length f.clauses) c.formula.ensures in
    let ids : c.uncited.result.now ≡ uncited st.formula.clauses ss = c.uncited.ensures ∙ ap (λ (p : PlacingValue). p.uncited) c.requires.placed in
    let same : written_items c.args.form (deletion c.count.result c.uncited.result.now []) ≡ written_items c.args.form (items_so_far st.formula.clauses ss []) =
    ap (λ (n : ℕ). written_items c.args.form (deletion n c.uncited.result.now [])) count ∙ ap (λ l. written_items c.args.form (deletion (length st.formula.clauses) l [])) ids
    ∙ ap (written_items c.args.form) (sym (append-nil (deletion (length st.formula.clauses) (uncited st.formula.clauses ss) []))) in
    record {
      can = g.met.S.Sink.stays _ _ _ _ _ c.requires.can c.put_deletion.ensures;
      put = ([], none_laid ss, subst (λ (x : List ℕ). g.S.Sink.puts c.args.sink.now c.args.out.now c.put_deletion.new.sink c.put_deletion.new.out x) same c.put_deletion.ensures);
    }

pub loop-i-preserved : goal.loop-i-preserved
loop-i-preserved g c =
    let st : LoadedState = g.L.Loaded.state c.args.loaded.now in
    let ss : List Step = steps_of st c.args.steps.now in
    let ready = are_ready st c.args.steps.now c.requires.linked c.requires.from c.requires.lean c.requires.small in
    let k : Kept = get_or c.args.steps.now c.loop-i.i (bare 0 false) in
    let s : Step = step_of st.formula.clauses (all_lines st) k in
    let place = (ready.lemmas c.loop-i.i (bare 0 false) (omega arith)).1 in
    let own : step_at (Some place.0) k ≡ s = ap (λ o. step_at o k) (sym place.1) in
    let put = c.put_step.ensures.put place.0 place.1 in
    let rewritten : IsStepRewritten s put.0 = subst (λ (x : Step). IsStepRewritten x put.0) own put.1 in
    let ids : c.drops.result.now ≡ get_or (drops_from (numbered_from 1 st.formula.clauses) ss) c.loop-i.i [] = c.drops.ensures ∙ ap (λ (p : PlacingValue). get_or p.drops c.loop-i.i []) c.requires.placed in
    let number : c.id.result ≡ s.id = c.id.ensures ∙ sym (id_is st.formula.clauses (all_lines st) k) in
    let had = c.loop-i.invariant.put in
    let many = steps_count st c.args.steps.now in
    let bytes : (written_items c.args.form (items_so_far st.formula.clauses ss had.0) ++ written_item c.args.form (stepped put.0)) ++ written_items c.args.form (deletion c.id.result c.drops.result.now [])
    ≡ written_items c.args.form (items_so_far st.formula.clauses ss (had.0 ++ put.0 ∷ [])) =
    ap (λ (n : ℕ). (written_items c.args.form (items_so_far st.formula.clauses ss had.0) ++ written_item c.args.form (stepped put.0)) ++ written_items c.args.form (deletion n c.drops.result.now [])) number
    ∙ ap (λ l. (written_items c.args.form (items_so_far st.formula.clauses ss had.0) ++ written_item c.args.form (stepped put.0)) ++ written_items c.args.form (deletion s.id l [])) ids
    ∙ one_more_bytes c.args.form st.formula.clauses ss had.0 c.loop-i.i s put.0 had.1 (omega (arith, ready.drops)) rewritten in
    record {
      can = g.met.S.Sink.stays _ _ _ _ _ c.put_step.ensures.can c.put_deletion-in-loop-i.ensures;
      put = (
        had.0 ++ put.0 ∷ [],
        one_laid ss had.0 c.loop-i.i s put.0 had.1 (omega arith) (step_got st c.args.steps.now c.loop-i.i (bare 0 false) (omega arith)) rewritten,
        subst (λ (x : List ℕ). g.S.Sink.puts c.args.sink.now c.args.out.now c.put_deletion-in-loop-i.new.sink c.put_deletion-in-loop-i.new.out x) bytes
            (g.met.S.Sink.joined _ _ _ _ _ _ _ _ (g.met.S.Sink.joined _ _ _ _ _ _ _ _ had.2 put.2) c.put_deletion-in-loop-i.ensures),
      );
    }

pub put_last-requires-clause-small : goal.put_last-requires-clause-small
put_last-requires-clause-small g c =
    let st : LoadedState = g.L.Loaded.state c.args.loaded.now in
    let ready = are_ready st c.args.steps.now c.requires.linked c.requires.from c.requires.lean c.requires.small in
    ready.small_steps (c.len-last.result - 1) (bare 0 false) (omega (arith, ready.some))

pub returns : goal.returns
returns g c =
    let st : LoadedState = g.L.Loaded.state c.args.loaded.now in
    let ss : List Step = steps_of st c.args.steps.now in
    let ready = are_ready st c.args.steps.now c.requires.linked c.requires.from c.requires.lean c.requires.small in
    let end : ℕ = c.len-last.result - 1 in
    let k : Kept = get_or c.args.steps.now end (bare 0 false) in
    let many = steps_count st c.args.steps.now in
    let bare_one : step_of st.formula.clauses (all_lines st) k ≡ step_at None k =
    subst (λ (n : ℕ). step_of st.formula.clauses (all_lines st) (get_or c.args.steps.now (n - 1) (bare 0 false)) ≡ step_at None (get_or c.args.steps.now (n - 1) (bare 0 false))) (sym c.len-last.ensures) (ready.last (bare 0 false)) in
    let at_end : c.loop-i.i ≡ end = omega arith in
    let had = c.loop-i.invariant.put in
    let all : AreLaid ss end had.0 = subst (λ (n : ℕ). AreLaid ss n had.0) at_end had.1 in
    let r = last_bytes c.args.form st.formula.clauses ss had.0 end (step_at None k) all (omega (arith, ready.some))
    (λ e. step_got st c.args.steps.now end (bare 0 false) (omega (arith, ready.some)) e ∙ bare_one) (bare_rewritten k) in (
      had.0 ++ step_at None k ∷ [],
      r.0,
      subst (λ (x : List ℕ). g.S.Sink.puts c.args.sink.now c.args.out.now c.put_last.new.sink c.put_last.new.out x) r.1 (g.met.S.Sink.joined _ _ _ _ _ _ _ _ had.2 c.put_last.ensures),
    )
