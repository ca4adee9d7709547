-- The bytes begin empty.
use Rattle.std.proofs.Common.{[], ◌∷◌, refl, lit<, w8}
use types.Kit.{raw, ◌$◌, ◌∵◌, !, qed, keep, join, suffices, done}
use types.Run.{enter, lit, no_more, and_then, returns}
use types.Part.{agg}
use types.ByLocal.{alloc_all, pass_all, free_all, look_at, sets}
use mir.Val.{Val, vint, vstruct, vcons, vnil}
use denote.Shadow.{pure_i}
use denote.Steps.{nothing}
use denote.Triple.Entry.{on_entry}
use denote.Triple.Walked.{says, ends_at}
use Rattle.std.proofs.raw_atomic.Walks.{proved}
use Rattle.sr_desk.specs.contracts.history.History as history
use Rattle.sr_desk.specs.contracts.history.History.new as f
use Rattle.sr_desk.proofs.history.History.new.Statement.{statement}
use Rattle.sr_desk.proofs.history.History.new.Code as code

abbrev made : Val
made = vstruct (vcons (vint w8 0) vnil)

pub new_spec : {M : Type 1} → statement M
new_spec 𝓤 𝓛 𝓜 𝓡 wired =
    let c = f.clauses 𝓛 𝓜.mem 𝓡.returns in
    proved 𝓛 f.ended tt c 𝓜 𝓡 tt
    f.Key.name code.function (code.unfolded 𝓤 𝓛.H 𝓜 𝓡 wired)
    (λ κs. tt) (λ κs. tt) (λ κs qs bounds a g are.
    qed 𝓛 (raw (on_entry 𝓛 f.signature κs qs a tt) ∷ raw ((c κs a).requires g) ∷ []) ∵ keep ! [] $
    enter ! _ _ _ _ _ $ alloc_all ! (λ l. pass_all ! refl tt $
    sets ! (agg ! (and_then ! (lit ! tt) (no_more !))) refl (tt, (record { fits = lit< tt }, tt)) $
    returns ! (look_at ! 0 refl) $ free_all ! refl $
    pure_i ! (history.the_row.own_val [] (made ∷ [])) (λ x. (((λ vss. (tt, ((tt, tt), tt))), tt), tt))
    ((record { unit = 0; bytes = [] }, (refl, tt)), ((((vint w8 0 ∷ [], tt), (refl, ((refl, lit< tt), tt))), tt), tt)) $
    suffices ! _ (ends_at 𝓛 f.ended tt c ((κs, qs, bounds, a, tt), g) made [] tt tt) $ says ! refl $
    nothing ! $ join ! $ nothing ! $ done !))
