use Rattle.std.proofs.Common.{◌≡◌, ◌∷◌, [], ◌<◌, List, length, refl, sym, subst, Ok, Err, arith}
use Rattle.std.specs.Prelude.{Result, OnOk}
use Rattle.std.specs.List.{All}
use Rattle.sr_model.specs.Meeting.{Group}
use Rattle.sr_lsr.specs.Written.{IsSmallGroup}
use Rattle.sr_lsr.specs.declared.hints.Hints.{Hints}
use Rattle.sr_lsr.proofs.HintLemmas.{spells_begin, spells_outside, spells_inside, with_hint-small}
use Rattle.sr_lsr.proofs.hints.Hints.add.Goals as goal

on_ok : {T E : Type 0} (r : Result T E) (P Q : Type 0) → OnOk r P → (P → Q) → OnOk r Q
on_ok (Ok x) P Q h f = f h
on_ok (Err k) P Q h f = tt

is_none : (gs : List Group) → length gs ≡ 0 → gs ≡ []
is_none [] e = refl
is_none (g ∷ gs) e = absurd (omega arith)

pub returns-then-hint-clause-spells : goal.returns-then-hint-clause-spells
returns-then-hint-clause-spells c =
    let new : Hints = record { prefix = c.args.self.now.prefix; groups = c.begin.new.self } in
    on_ok c.begin.result _ _ c.begin.ensures.ok (λ e. spells_begin c.args.self.now new c.args.hint.begins_group c.args.hint.size c.if-hint.true c.requires refl e)

pub returns-then-len-eq0-clause-spells : goal.returns-then-len-eq0-clause-spells
returns-then-len-eq0-clause-spells c =
    let none : c.args.self.now.groups ≡ [] = is_none c.args.self.now.groups (omega arith) in
    let new : Hints = record { prefix = c.push.new.self; groups = c.args.self.now.groups } in
    on_ok c.push.result _ _ c.push.ensures.ok (λ e. spells_outside c.args.self.now new c.args.hint.begins_group c.args.hint.size c.if-hint.false none e refl)

pub returns-clause-spells : goal.returns-clause-spells
returns-clause-spells c =
    let some : 0 < length c.args.self.now.groups = omega arith in
    let new : Hints = record { prefix = c.args.self.now.prefix; groups = c.add_hint.new.self } in
    on_ok c.add_hint.result _ _ c.add_hint.ensures.ok (λ e. spells_inside c.args.self.now new c.args.hint.begins_group c.args.hint.size c.if-hint.false some refl e)

pub returns-clause-small : goal.returns-clause-small
returns-clause-small c =
    on_ok c.add_hint.result _ _ c.add_hint.ensures.ok
    (λ e small all. (all.0, subst (All IsSmallGroup) (sym e) (with_hint-small c.args.self.now.groups c.args.hint.size small all.1)))
