use Rattle.std.proofs.Common.{◌≡◌, ◌+◌, ◌++◌, ◌∷◌, [], ℕ, Bool, true, not, cond, map, take, arith, ap, sym, ◌∙◌, subst}
use Rattle.std.proofs.lemmas.Grind.{common_steps}
use Rattle.std.proofs.lemmas.List.{map_more}
use Rattle.std.specs.Ordering.{nat_cmp}
use Rattle.std.specs.BTreeSet.{contains}
use Rattle.std.specs.BTreeMap.{is_at}
use Rattle.sr_base.specs.Literal.{Literal, variable, has}
use Rattle.sr_model.specs.Witnesses.{from_variable}
use Rattle.sr_wit.proofs.WitnessLemmas.{maps-old, maps-new, variables-old, variables-new, first-from_variable}
use Rattle.sr_wit.proofs.parts.first_maps.Goals as goal
use Rattle.sr_wit.proofs.parts.first_maps.Goals.{else-is_new-via-then-is_new+else-is_err, else-is_new-via-else-is_new}

pub loop-from-preserved : goal.loop-from-preserved
loop-from-preserved c =
    let before : ℕ → Bool = contains nat_cmp c.loop-from.seen in
    let after : ℕ → Bool = contains nat_cmp c.insert.new.self in
    let m : Literal × Literal = from_variable c.loop-from-item.result in
    let v : ℕ = variable c.loop-from-item.result.0 in
    let updates : (q : ℕ) → after q ≡ cond (is_at (nat_cmp v) q) true (before q) =
    subst (λ n. (q : ℕ) → after q ≡ cond (is_at (nat_cmp n) q) true (before q)) c.var.ensures.value c.in-Ok.ensures.updates.0 in
    let added : c.in-Ok.is_new ≡ not (before v) = c.in-Ok.ensures.added ∙ ap not (ap before c.var.ensures.value) in
    let here : before v ≡ has m.0 (map (λ n. n.0) c.loop-from.kept.items) =
    c.loop-from.invariant.1 v ∙ ap (λ l. has l (map (λ n. n.0) c.loop-from.kept.items)) (sym (first-from_variable c.loop-from-item.result)) in
    let more : map from_variable (take (c.loop-from.from-index + 1) c.args.maps.now) ≡ map from_variable (take c.loop-from.from-index c.args.maps.now) ++ m ∷ [] =
    map_more from_variable c.args.maps.now c.loop-from.from-index c.loop-from-item.result c.loop-from-test.true
    ∙ ap (λ n. map from_variable (take c.loop-from.from-index c.args.maps.now) ++ from_variable n ∷ []) (sym c.loop-from-item.is) in
    elim c.else-is_new.branch [
      | else-is_new-via-then-is_new+else-is_err w ↦
          let pushed : c.else-is_new.kept.items ≡ c.loop-from.kept.items ++ m ∷ [] = grind (arith, common_steps) in (
            rw more (maps-new (map from_variable (take c.loop-from.from-index c.args.maps.now)) c.loop-from.kept.items c.else-is_new.kept.items m c.loop-from.invariant.0 (grind arith) pushed),
            rw pushed (variables-new before after c.loop-from.kept.items v m c.loop-from.invariant.1 (first-from_variable c.loop-from-item.result) updates),
          )
      | else-is_new-via-else-is_new w ↦
          let same : c.else-is_new.kept.items ≡ c.loop-from.kept.items = ap (λ k. k.items) w.kept-is in (
            rw more (maps-old (map from_variable (take c.loop-from.from-index c.args.maps.now)) c.loop-from.kept.items c.else-is_new.kept.items m c.loop-from.invariant.0 (grind arith) same),
            rw same (variables-old before after c.loop-from.kept.items v c.loop-from.invariant.1 (grind arith) updates),
          )
    ]
