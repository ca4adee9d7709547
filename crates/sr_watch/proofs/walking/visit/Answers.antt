use Rattle.std.proofs.Common.{◌≡◌, ◌<◌, true, sym, ◌∙◌, ap, subst, arith, length, get_or}
use Rattle.std.proofs.lemmas.List.{get_or_default}
use Rattle.std.specs.Prelude.{IfSome}
use Rattle.sr_base.specs.Literal.{plus, complement, has, NoRepeats}
use Rattle.sr_arena.specs.Cells.{cell_at}
use Rattle.sr_lists.specs.Family.{IsPushed}
use Rattle.sr_watch.specs.State.{IsForcedBy, IsOpen, AreWithin}
use Rattle.sr_watch.specs.Trail.{with_entry}
use Rattle.sr_watch.specs.Watching.{on_side, key_of}
use Rattle.sr_watch.specs.Walking.{IsTrueIn, IsFree}
use Rattle.sr_watch.proofs.Tables.{in_list}
use Rattle.sr_watch.proofs.Marking.{variable_complement}
use Rattle.sr_watch.proofs.Visits.{distinct_cells, within_cells, stocked_dropped}
use Rattle.sr_watch.proofs.Visited.{Visited, key_within, visited_true, visited_forced, visited_free}
use Rattle.sr_watch.proofs.walking.visit.Goals as goal

pub returns-then-not-is_on-clause-stocked : goal.returns-then-not-is_on-clause-stocked
returns-then-not-is_on-clause-stocked g c _ w is x = stocked_dropped c.args.core c.args.memory.now c.args.lists.now w c.args.lists.now.ahead x

pub examine-requires-clause-distinct : goal.examine-requires-clause-distinct
examine-requires-clause-distinct g c = subst NoRepeats (sym c.lits-clause.ensures.value) (distinct_cells c.args.memory.now c.args.trail.now c.requires.sound c.args.at)

pub examine-requires-clause-within : goal.examine-requires-clause-within
examine-requires-clause-within g c = subst (AreWithin c.args.trail.now.vars) (sym c.lits-clause.ensures.value) (within_cells c.args.memory.now c.args.trail.now c.requires.sound c.args.at)

pub returns-in-Satisfied-clause-stocked : goal.returns-in-Satisfied-clause-stocked
returns-in-Satisfied-clause-stocked g c _ =
    let on : on_side c.args.core c.args.memory.now c.args.at ≡ true = sym c.is_on.ensures ∙ c.if-not-is_on.false in
    let lt : key_of c.args.falsified < length c.args.lists.now.lists = key_within c.args.falsified c.args.trail.now.vars (length c.args.lists.now.lists) (omega (arith, variable_complement c.args.falsified, c.requires.sound.within (complement c.args.falsified) c.requires.is_false)) c.requires.keys in
    let p : IsPushed c.args.lists.now c.keep.new.self (key_of c.args.falsified) (record { blocker = c.in-Satisfied.blocker; at = c.args.at }) = subst (λ o. IfSome o (λ key. IsPushed c.args.lists.now c.keep.new.self key (record { blocker = c.in-Satisfied.blocker; at = c.args.at }))) c.requires.walked c.keep.ensures in
    let t : IsTrueIn c.args.trail.now.lits (cell_at c.args.memory.now c.args.at).lits c.in-Satisfied.blocker = subst (λ x. IsTrueIn c.args.trail.now.lits x c.in-Satisfied.blocker) c.lits-clause.ensures.value c.in-Satisfied.ensures in
    (visited_true c.args.core c.args.memory.now c.args.lists.now c.keep.new.self c.args.trail.now c.args.falsified c.in-Satisfied.blocker c.args.at c.requires.sound on lt p t).stocked

pub returns-in-Satisfied-clause-walks : goal.returns-in-Satisfied-clause-walks
returns-in-Satisfied-clause-walks g c _ =
    let on : on_side c.args.core c.args.memory.now c.args.at ≡ true = sym c.is_on.ensures ∙ c.if-not-is_on.false in
    let lt : key_of c.args.falsified < length c.args.lists.now.lists = key_within c.args.falsified c.args.trail.now.vars (length c.args.lists.now.lists) (omega (arith, variable_complement c.args.falsified, c.requires.sound.within (complement c.args.falsified) c.requires.is_false)) c.requires.keys in
    let p : IsPushed c.args.lists.now c.keep.new.self (key_of c.args.falsified) (record { blocker = c.in-Satisfied.blocker; at = c.args.at }) = subst (λ o. IfSome o (λ key. IsPushed c.args.lists.now c.keep.new.self key (record { blocker = c.in-Satisfied.blocker; at = c.args.at }))) c.requires.walked c.keep.ensures in
    let t : IsTrueIn c.args.trail.now.lits (cell_at c.args.memory.now c.args.at).lits c.in-Satisfied.blocker = subst (λ x. IsTrueIn c.args.trail.now.lits x c.in-Satisfied.blocker) c.lits-clause.ensures.value c.in-Satisfied.ensures in
    (visited_true c.args.core c.args.memory.now c.args.lists.now c.keep.new.self c.args.trail.now c.args.falsified c.in-Satisfied.blocker c.args.at c.requires.sound on lt p t).walks

pub returns-in-Free-clause-step : goal.returns-in-Free-clause-step
returns-in-Free-clause-step g c =
    let on : on_side c.args.core c.args.memory.now c.args.at ≡ true = sym c.is_on.ensures ∙ c.if-not-is_on.false in
    let fr : IsFree c.args.trail.now.lits (cell_at c.args.memory.now c.args.at).lits c.args.falsified c.in-Free.side c.in-Free.place c.in-Free.other = subst (λ x. IsFree c.args.trail.now.lits x c.args.falsified c.in-Free.side c.in-Free.place c.in-Free.other) c.lits-clause.ensures.value c.in-Free.ensures in
    let mine : has c.index-clause-place.result (cell_at c.args.memory.now c.args.at).lits ≡ true = subst (λ x. has c.index-clause-place.result x ≡ true) c.lits-clause.ensures.value (in_list c.lits-clause.result.now c.in-Free.place c.index-clause-place.result c.in-Free.ensures.within c.index-clause-place.is) in
    let lt : key_of c.index-clause-place.result < length c.args.lists.now.lists = key_within c.index-clause-place.result c.args.trail.now.vars (length c.args.lists.now.lists) (within_cells c.args.memory.now c.args.trail.now c.requires.sound c.args.at c.index-clause-place.result mine) c.requires.keys in
    let p : IsPushed c.args.lists.now c.push.new.self (key_of c.index-clause-place.result) (record { blocker = c.in-Free.other; at = c.args.at }) = subst (λ k. IsPushed c.args.lists.now c.push.new.self k (record { blocker = c.in-Free.other; at = c.args.at })) c.key.ensures c.push.ensures in
    let ek : get_or (cell_at c.args.memory.now c.args.at).lits c.in-Free.place (plus 0) ≡ c.index-clause-place.result = ap (λ x. get_or x c.in-Free.place (plus 0)) (sym c.lits-clause.ensures.value) ∙ get_or_default c.lits-clause.result.now c.in-Free.place (plus 0) c.index-clause-place.result c.in-Free.ensures.within ∙ sym c.index-clause-place.is in
    (visited_free c.args.core c.args.memory.now c.swap.new.self c.args.lists.now c.push.new.self c.args.trail.now c.args.falsified c.index-clause-place.result c.in-Free.other c.args.at c.in-Free.side c.in-Free.place c.requires.sound c.requires.held on lt c.swap.ensures.value c.swap.ensures.held ek p fr).step

pub returns-in-Free-clause-sound : goal.returns-in-Free-clause-sound
returns-in-Free-clause-sound g c =
    let on : on_side c.args.core c.args.memory.now c.args.at ≡ true = sym c.is_on.ensures ∙ c.if-not-is_on.false in
    let fr : IsFree c.args.trail.now.lits (cell_at c.args.memory.now c.args.at).lits c.args.falsified c.in-Free.side c.in-Free.place c.in-Free.other = subst (λ x. IsFree c.args.trail.now.lits x c.args.falsified c.in-Free.side c.in-Free.place c.in-Free.other) c.lits-clause.ensures.value c.in-Free.ensures in
    let mine : has c.index-clause-place.result (cell_at c.args.memory.now c.args.at).lits ≡ true = subst (λ x. has c.index-clause-place.result x ≡ true) c.lits-clause.ensures.value (in_list c.lits-clause.result.now c.in-Free.place c.index-clause-place.result c.in-Free.ensures.within c.index-clause-place.is) in
    let lt : key_of c.index-clause-place.result < length c.args.lists.now.lists = key_within c.index-clause-place.result c.args.trail.now.vars (length c.args.lists.now.lists) (within_cells c.args.memory.now c.args.trail.now c.requires.sound c.args.at c.index-clause-place.result mine) c.requires.keys in
    let p : IsPushed c.args.lists.now c.push.new.self (key_of c.index-clause-place.result) (record { blocker = c.in-Free.other; at = c.args.at }) = subst (λ k. IsPushed c.args.lists.now c.push.new.self k (record { blocker = c.in-Free.other; at = c.args.at })) c.key.ensures c.push.ensures in
    let ek : get_or (cell_at c.args.memory.now c.args.at).lits c.in-Free.place (plus 0) ≡ c.index-clause-place.result = ap (λ x. get_or x c.in-Free.place (plus 0)) (sym c.lits-clause.ensures.value) ∙ get_or_default c.lits-clause.result.now c.in-Free.place (plus 0) c.index-clause-place.result c.in-Free.ensures.within ∙ sym c.index-clause-place.is in
    (visited_free c.args.core c.args.memory.now c.swap.new.self c.args.lists.now c.push.new.self c.args.trail.now c.args.falsified c.index-clause-place.result c.in-Free.other c.args.at c.in-Free.side c.in-Free.place c.requires.sound c.requires.held on lt c.swap.ensures.value c.swap.ensures.held ek p fr).sound

pub returns-in-Free-clause-keeps : goal.returns-in-Free-clause-keeps
returns-in-Free-clause-keeps g c =
    let on : on_side c.args.core c.args.memory.now c.args.at ≡ true = sym c.is_on.ensures ∙ c.if-not-is_on.false in
    let fr : IsFree c.args.trail.now.lits (cell_at c.args.memory.now c.args.at).lits c.args.falsified c.in-Free.side c.in-Free.place c.in-Free.other = subst (λ x. IsFree c.args.trail.now.lits x c.args.falsified c.in-Free.side c.in-Free.place c.in-Free.other) c.lits-clause.ensures.value c.in-Free.ensures in
    let mine : has c.index-clause-place.result (cell_at c.args.memory.now c.args.at).lits ≡ true = subst (λ x. has c.index-clause-place.result x ≡ true) c.lits-clause.ensures.value (in_list c.lits-clause.result.now c.in-Free.place c.index-clause-place.result c.in-Free.ensures.within c.index-clause-place.is) in
    let lt : key_of c.index-clause-place.result < length c.args.lists.now.lists = key_within c.index-clause-place.result c.args.trail.now.vars (length c.args.lists.now.lists) (within_cells c.args.memory.now c.args.trail.now c.requires.sound c.args.at c.index-clause-place.result mine) c.requires.keys in
    let p : IsPushed c.args.lists.now c.push.new.self (key_of c.index-clause-place.result) (record { blocker = c.in-Free.other; at = c.args.at }) = subst (λ k. IsPushed c.args.lists.now c.push.new.self k (record { blocker = c.in-Free.other; at = c.args.at })) c.key.ensures c.push.ensures in
    let ek : get_or (cell_at c.args.memory.now c.args.at).lits c.in-Free.place (plus 0) ≡ c.index-clause-place.result = ap (λ x. get_or x c.in-Free.place (plus 0)) (sym c.lits-clause.ensures.value) ∙ get_or_default c.lits-clause.result.now c.in-Free.place (plus 0) c.index-clause-place.result c.in-Free.ensures.within ∙ sym c.index-clause-place.is in
    (visited_free c.args.core c.args.memory.now c.swap.new.self c.args.lists.now c.push.new.self c.args.trail.now c.args.falsified c.index-clause-place.result c.in-Free.other c.args.at c.in-Free.side c.in-Free.place c.requires.sound c.requires.held on lt c.swap.ensures.value c.swap.ensures.held ek p fr).keeps

pub returns-in-Free-clause-stocked : goal.returns-in-Free-clause-stocked
returns-in-Free-clause-stocked g c _ =
    let on : on_side c.args.core c.args.memory.now c.args.at ≡ true = sym c.is_on.ensures ∙ c.if-not-is_on.false in
    let fr : IsFree c.args.trail.now.lits (cell_at c.args.memory.now c.args.at).lits c.args.falsified c.in-Free.side c.in-Free.place c.in-Free.other = subst (λ x. IsFree c.args.trail.now.lits x c.args.falsified c.in-Free.side c.in-Free.place c.in-Free.other) c.lits-clause.ensures.value c.in-Free.ensures in
    let mine : has c.index-clause-place.result (cell_at c.args.memory.now c.args.at).lits ≡ true = subst (λ x. has c.index-clause-place.result x ≡ true) c.lits-clause.ensures.value (in_list c.lits-clause.result.now c.in-Free.place c.index-clause-place.result c.in-Free.ensures.within c.index-clause-place.is) in
    let lt : key_of c.index-clause-place.result < length c.args.lists.now.lists = key_within c.index-clause-place.result c.args.trail.now.vars (length c.args.lists.now.lists) (within_cells c.args.memory.now c.args.trail.now c.requires.sound c.args.at c.index-clause-place.result mine) c.requires.keys in
    let p : IsPushed c.args.lists.now c.push.new.self (key_of c.index-clause-place.result) (record { blocker = c.in-Free.other; at = c.args.at }) = subst (λ k. IsPushed c.args.lists.now c.push.new.self k (record { blocker = c.in-Free.other; at = c.args.at })) c.key.ensures c.push.ensures in
    let ek : get_or (cell_at c.args.memory.now c.args.at).lits c.in-Free.place (plus 0) ≡ c.index-clause-place.result = ap (λ x. get_or x c.in-Free.place (plus 0)) (sym c.lits-clause.ensures.value) ∙ get_or_default c.lits-clause.result.now c.in-Free.place (plus 0) c.index-clause-place.result c.in-Free.ensures.within ∙ sym c.index-clause-place.is in
    (visited_free c.args.core c.args.memory.now c.swap.new.self c.args.lists.now c.push.new.self c.args.trail.now c.args.falsified c.index-clause-place.result c.in-Free.other c.args.at c.in-Free.side c.in-Free.place c.requires.sound c.requires.held on lt c.swap.ensures.value c.swap.ensures.held ek p fr).stocked

pub returns-in-Free-clause-walks : goal.returns-in-Free-clause-walks
returns-in-Free-clause-walks g c _ =
    let on : on_side c.args.core c.args.memory.now c.args.at ≡ true = sym c.is_on.ensures ∙ c.if-not-is_on.false in
    let fr : IsFree c.args.trail.now.lits (cell_at c.args.memory.now c.args.at).lits c.args.falsified c.in-Free.side c.in-Free.place c.in-Free.other = subst (λ x. IsFree c.args.trail.now.lits x c.args.falsified c.in-Free.side c.in-Free.place c.in-Free.other) c.lits-clause.ensures.value c.in-Free.ensures in
    let mine : has c.index-clause-place.result (cell_at c.args.memory.now c.args.at).lits ≡ true = subst (λ x. has c.index-clause-place.result x ≡ true) c.lits-clause.ensures.value (in_list c.lits-clause.result.now c.in-Free.place c.index-clause-place.result c.in-Free.ensures.within c.index-clause-place.is) in
    let lt : key_of c.index-clause-place.result < length c.args.lists.now.lists = key_within c.index-clause-place.result c.args.trail.now.vars (length c.args.lists.now.lists) (within_cells c.args.memory.now c.args.trail.now c.requires.sound c.args.at c.index-clause-place.result mine) c.requires.keys in
    let p : IsPushed c.args.lists.now c.push.new.self (key_of c.index-clause-place.result) (record { blocker = c.in-Free.other; at = c.args.at }) = subst (λ k. IsPushed c.args.lists.now c.push.new.self k (record { blocker = c.in-Free.other; at = c.args.at })) c.key.ensures c.push.ensures in
    let ek : get_or (cell_at c.args.memory.now c.args.at).lits c.in-Free.place (plus 0) ≡ c.index-clause-place.result = ap (λ x. get_or x c.in-Free.place (plus 0)) (sym c.lits-clause.ensures.value) ∙ get_or_default c.lits-clause.result.now c.in-Free.place (plus 0) c.index-clause-place.result c.in-Free.ensures.within ∙ sym c.index-clause-place.is in
    (visited_free c.args.core c.args.memory.now c.swap.new.self c.args.lists.now c.push.new.self c.args.trail.now c.args.falsified c.index-clause-place.result c.in-Free.other c.args.at c.in-Free.side c.in-Free.place c.requires.sound c.requires.held on lt c.swap.ensures.value c.swap.ensures.held ek p fr).walks

pub returns-in-Forces-clause-step : goal.returns-in-Forces-clause-step
returns-in-Forces-clause-step g c =
    let on : on_side c.args.core c.args.memory.now c.args.at ≡ true = sym c.is_on.ensures ∙ c.if-not-is_on.false in
    let lt : key_of c.args.falsified < length c.args.lists.now.lists = key_within c.args.falsified c.args.trail.now.vars (length c.args.lists.now.lists) (omega (arith, variable_complement c.args.falsified, c.requires.sound.within (complement c.args.falsified) c.requires.is_false)) c.requires.keys in
    let p : IsPushed c.args.lists.now c.keep-in-Forces.new.self (key_of c.args.falsified) (record { blocker = c.in-Forces.l; at = c.args.at }) = subst (λ o. IfSome o (λ key. IsPushed c.args.lists.now c.keep-in-Forces.new.self key (record { blocker = c.in-Forces.l; at = c.args.at }))) c.requires.walked c.keep-in-Forces.ensures in
    let fo : IsForcedBy (cell_at c.args.memory.now c.args.at).lits c.args.trail.now.lits c.in-Forces.l × IsOpen c.in-Forces.l c.args.trail.now.lits = subst (λ x. IsForcedBy x c.args.trail.now.lits c.in-Forces.l × IsOpen c.in-Forces.l c.args.trail.now.lits) c.lits-clause.ensures.value c.in-Forces.ensures in
    let v : Visited c.args.core c.args.memory.now c.args.memory.now c.args.lists.now c.keep-in-Forces.new.self c.args.trail.now (with_entry c.args.trail.now c.in-Forces.l c.args.at) c.args.falsified c.args.at =
    visited_forced c.args.core c.args.memory.now c.args.lists.now c.keep-in-Forces.new.self c.args.trail.now c.args.falsified c.in-Forces.l c.args.at c.requires.sound on (omega (arith, c.index.ensures.low, c.index.ensures.value)) lt p fo.0 fo.1 in
    let e : c.push-in-Forces.new.self ≡ with_entry c.args.trail.now c.in-Forces.l c.args.at = c.push-in-Forces.ensures.value ∙ ap (with_entry c.args.trail.now c.in-Forces.l) c.index.ensures.value in
    (subst (λ h. Visited c.args.core c.args.memory.now c.args.memory.now c.args.lists.now c.keep-in-Forces.new.self c.args.trail.now h c.args.falsified c.args.at) (sym e) v).step

pub returns-in-Forces-clause-sound : goal.returns-in-Forces-clause-sound
returns-in-Forces-clause-sound g c =
    let on : on_side c.args.core c.args.memory.now c.args.at ≡ true = sym c.is_on.ensures ∙ c.if-not-is_on.false in
    let lt : key_of c.args.falsified < length c.args.lists.now.lists = key_within c.args.falsified c.args.trail.now.vars (length c.args.lists.now.lists) (omega (arith, variable_complement c.args.falsified, c.requires.sound.within (complement c.args.falsified) c.requires.is_false)) c.requires.keys in
    let p : IsPushed c.args.lists.now c.keep-in-Forces.new.self (key_of c.args.falsified) (record { blocker = c.in-Forces.l; at = c.args.at }) = subst (λ o. IfSome o (λ key. IsPushed c.args.lists.now c.keep-in-Forces.new.self key (record { blocker = c.in-Forces.l; at = c.args.at }))) c.requires.walked c.keep-in-Forces.ensures in
    let fo : IsForcedBy (cell_at c.args.memory.now c.args.at).lits c.args.trail.now.lits c.in-Forces.l × IsOpen c.in-Forces.l c.args.trail.now.lits = subst (λ x. IsForcedBy x c.args.trail.now.lits c.in-Forces.l × IsOpen c.in-Forces.l c.args.trail.now.lits) c.lits-clause.ensures.value c.in-Forces.ensures in
    let v : Visited c.args.core c.args.memory.now c.args.memory.now c.args.lists.now c.keep-in-Forces.new.self c.args.trail.now (with_entry c.args.trail.now c.in-Forces.l c.args.at) c.args.falsified c.args.at =
    visited_forced c.args.core c.args.memory.now c.args.lists.now c.keep-in-Forces.new.self c.args.trail.now c.args.falsified c.in-Forces.l c.args.at c.requires.sound on (omega (arith, c.index.ensures.low, c.index.ensures.value)) lt p fo.0 fo.1 in
    let e : c.push-in-Forces.new.self ≡ with_entry c.args.trail.now c.in-Forces.l c.args.at = c.push-in-Forces.ensures.value ∙ ap (with_entry c.args.trail.now c.in-Forces.l) c.index.ensures.value in
    (subst (λ h. Visited c.args.core c.args.memory.now c.args.memory.now c.args.lists.now c.keep-in-Forces.new.self c.args.trail.now h c.args.falsified c.args.at) (sym e) v).sound

pub returns-in-Forces-clause-stocked : goal.returns-in-Forces-clause-stocked
returns-in-Forces-clause-stocked g c _ =
    let on : on_side c.args.core c.args.memory.now c.args.at ≡ true = sym c.is_on.ensures ∙ c.if-not-is_on.false in
    let lt : key_of c.args.falsified < length c.args.lists.now.lists = key_within c.args.falsified c.args.trail.now.vars (length c.args.lists.now.lists) (omega (arith, variable_complement c.args.falsified, c.requires.sound.within (complement c.args.falsified) c.requires.is_false)) c.requires.keys in
    let p : IsPushed c.args.lists.now c.keep-in-Forces.new.self (key_of c.args.falsified) (record { blocker = c.in-Forces.l; at = c.args.at }) = subst (λ o. IfSome o (λ key. IsPushed c.args.lists.now c.keep-in-Forces.new.self key (record { blocker = c.in-Forces.l; at = c.args.at }))) c.requires.walked c.keep-in-Forces.ensures in
    let fo : IsForcedBy (cell_at c.args.memory.now c.args.at).lits c.args.trail.now.lits c.in-Forces.l × IsOpen c.in-Forces.l c.args.trail.now.lits = subst (λ x. IsForcedBy x c.args.trail.now.lits c.in-Forces.l × IsOpen c.in-Forces.l c.args.trail.now.lits) c.lits-clause.ensures.value c.in-Forces.ensures in
    let v : Visited c.args.core c.args.memory.now c.args.memory.now c.args.lists.now c.keep-in-Forces.new.self c.args.trail.now (with_entry c.args.trail.now c.in-Forces.l c.args.at) c.args.falsified c.args.at =
    visited_forced c.args.core c.args.memory.now c.args.lists.now c.keep-in-Forces.new.self c.args.trail.now c.args.falsified c.in-Forces.l c.args.at c.requires.sound on (omega (arith, c.index.ensures.low, c.index.ensures.value)) lt p fo.0 fo.1 in
    let e : c.push-in-Forces.new.self ≡ with_entry c.args.trail.now c.in-Forces.l c.args.at = c.push-in-Forces.ensures.value ∙ ap (with_entry c.args.trail.now c.in-Forces.l) c.index.ensures.value in
    (subst (λ h. Visited c.args.core c.args.memory.now c.args.memory.now c.args.lists.now c.keep-in-Forces.new.self c.args.trail.now h c.args.falsified c.args.at) (sym e) v).stocked

pub returns-in-Forces-clause-walks : goal.returns-in-Forces-clause-walks
returns-in-Forces-clause-walks g c _ =
    let on : on_side c.args.core c.args.memory.now c.args.at ≡ true = sym c.is_on.ensures ∙ c.if-not-is_on.false in
    let lt : key_of c.args.falsified < length c.args.lists.now.lists = key_within c.args.falsified c.args.trail.now.vars (length c.args.lists.now.lists) (omega (arith, variable_complement c.args.falsified, c.requires.sound.within (complement c.args.falsified) c.requires.is_false)) c.requires.keys in
    let p : IsPushed c.args.lists.now c.keep-in-Forces.new.self (key_of c.args.falsified) (record { blocker = c.in-Forces.l; at = c.args.at }) = subst (λ o. IfSome o (λ key. IsPushed c.args.lists.now c.keep-in-Forces.new.self key (record { blocker = c.in-Forces.l; at = c.args.at }))) c.requires.walked c.keep-in-Forces.ensures in
    let fo : IsForcedBy (cell_at c.args.memory.now c.args.at).lits c.args.trail.now.lits c.in-Forces.l × IsOpen c.in-Forces.l c.args.trail.now.lits = subst (λ x. IsForcedBy x c.args.trail.now.lits c.in-Forces.l × IsOpen c.in-Forces.l c.args.trail.now.lits) c.lits-clause.ensures.value c.in-Forces.ensures in
    let v : Visited c.args.core c.args.memory.now c.args.memory.now c.args.lists.now c.keep-in-Forces.new.self c.args.trail.now (with_entry c.args.trail.now c.in-Forces.l c.args.at) c.args.falsified c.args.at =
    visited_forced c.args.core c.args.memory.now c.args.lists.now c.keep-in-Forces.new.self c.args.trail.now c.args.falsified c.in-Forces.l c.args.at c.requires.sound on (omega (arith, c.index.ensures.low, c.index.ensures.value)) lt p fo.0 fo.1 in
    let e : c.push-in-Forces.new.self ≡ with_entry c.args.trail.now c.in-Forces.l c.args.at = c.push-in-Forces.ensures.value ∙ ap (with_entry c.args.trail.now c.in-Forces.l) c.index.ensures.value in
    (subst (λ h. Visited c.args.core c.args.memory.now c.args.memory.now c.args.lists.now c.keep-in-Forces.new.self c.args.trail.now h c.args.falsified c.args.at) (sym e) v).walks

pub push-requires-clause-key : goal.push-requires-clause-key
push-requires-clause-key g c =
    let on : on_side c.args.core c.args.memory.now c.args.at ≡ true = sym c.is_on.ensures ∙ c.if-not-is_on.false in
    let fr : IsFree c.args.trail.now.lits (cell_at c.args.memory.now c.args.at).lits c.args.falsified c.in-Free.side c.in-Free.place c.in-Free.other = subst (λ x. IsFree c.args.trail.now.lits x c.args.falsified c.in-Free.side c.in-Free.place c.in-Free.other) c.lits-clause.ensures.value c.in-Free.ensures in
    let mine : has c.index-clause-place.result (cell_at c.args.memory.now c.args.at).lits ≡ true = subst (λ x. has c.index-clause-place.result x ≡ true) c.lits-clause.ensures.value (in_list c.lits-clause.result.now c.in-Free.place c.index-clause-place.result c.in-Free.ensures.within c.index-clause-place.is) in
    let lt : key_of c.index-clause-place.result < length c.args.lists.now.lists = key_within c.index-clause-place.result c.args.trail.now.vars (length c.args.lists.now.lists) (within_cells c.args.memory.now c.args.trail.now c.requires.sound c.args.at c.index-clause-place.result mine) c.requires.keys in
    omega (arith, c.key.ensures, lt)

pub push-requires-in-Forces : goal.push-requires-in-Forces
push-requires-in-Forces g c =
    let mine : has c.in-Forces.l (cell_at c.args.memory.now c.args.at).lits ≡ true = subst (λ x. has c.in-Forces.l x ≡ true) c.lits-clause.ensures.value c.in-Forces.ensures.0.of_clause in
    record {
      within = within_cells c.args.memory.now c.args.trail.now c.requires.sound c.args.at c.in-Forces.l mine;
      not_assumed = λ z. absurd (omega (arith, z, c.index.ensures.low));
      not_true = λ ne. c.in-Forces.ensures.1.not_true;
    }
