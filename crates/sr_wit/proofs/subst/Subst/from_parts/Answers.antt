use Rattle.std.proofs.Common.{◌≡◌, ◌<◌, Option, None, Some, ℕ, List, map, length, rules, ap, sym, refl, ◌∙◌, subst}
use Rattle.std.specs.List.{AllAdjacentBelow}
use Rattle.std.specs.List.Sorted.{IsPermutation, IsNonDecreasingBy}
use Rattle.std.proofs.lemmas.List.Sorted.{IsNonDecreasingBy-from_sort_by_key}
use Rattle.sr_base.specs.Literal.{Literal}
use Rattle.sr_model.specs.declared.images.Image.{Image}
use Rattle.sr_model.specs.Substitution.{Witness, substitution, image_of_variable}
use Rattle.sr_model.specs.Witnesses.{parts_of, twice_of, witness_by, from_variable}
use Rattle.sr_wit.specs.Kept.{IsKept}
use Rattle.sr_wit.specs.Tables.{HoldsSubst, witness_with}
use Rattle.sr_wit.proofs.KeptLemmas.{kept}
use Rattle.sr_wit.proofs.WitnessLemmas.{AllDiffer, image-witness_by, witness_by-differing, differing-sorted, twice_of-differing, table-of}
use Rattle.sr_wit.proofs.subst.Subst.from_parts.Goals as goal

-- the table of a witness that is made of the parts
table : (pivot : Literal) (trues : List Literal) (maps : List (Literal × Literal)) (xs rest : List (ℕ × Image)) → xs ≡ parts_of pivot trues maps → IsPermutation xs rest
    → IsNonDecreasingBy (λ p. p.0) rest → twice_of (parts_of pivot trues maps) ≡ None → (w : Witness) → w ≡ witness_by pivot trues maps → HoldsSubst w rest
table pivot trues maps xs rest e moved sorted once w is =
    record {
      kept = subst IsKept (sym is) (kept pivot trues maps once);
      images = table-of (substitution w) (parts_of pivot trues maps) rest (subst (λ ps. IsPermutation ps rest) e moved) sorted once
          (λ v. ap (λ u. image_of_variable (substitution u) v) is ∙ image-witness_by pivot trues maps v);
    }

no_variable : (o : Option ℕ) → ((v : ℕ) → o ≡ Some v → ⊥) → o ≡ None
no_variable None h = refl
no_variable (Some v) h = absurd (h v refl)

-- where the variables rise, they differ
differing : (pivot : Literal) (trues : List Literal) (maps : List (Literal × Literal)) (xs rest : List (ℕ × Image)) → xs ≡ parts_of pivot trues maps → IsPermutation xs rest
    → AllAdjacentBelow (λ p q. p.0 < q.0) rest (length rest) → AllDiffer (map (λ q. q.0) (parts_of pivot trues maps))
differing pivot trues maps xs rest e moved rising = subst (λ ps. AllDiffer (map (λ q. q.0) ps)) e (differing-sorted xs rest moved rising)

whole : (pivot : Literal) (trues kept : List Literal) (maps rest : List (Literal × Literal)) → AllDiffer (map (λ q. q.0) (parts_of pivot trues maps)) → kept ≡ trues
    → rest ≡ map from_variable maps → witness_with pivot kept rest ≡ witness_by pivot trues maps
whole pivot trues kept maps rest differ e f = rw (e, f) (sym (witness_by-differing pivot trues maps differ))

pub substitution_of-requires : goal.substitution_of-requires
substitution_of-requires c =
    let sorted = IsNonDecreasingBy-from_sort_by_key (λ p. p.0) c.sort_unstable_by_key.new.self.items c.sort_unstable_by_key.ensures.sorted (λ a r q k. search rules) in
    rw c.in_ok-table-2.ensures (table c.args.pivot c.args.assigned.now c.args.maps.now c.in_ok-table.table.items c.sort_unstable_by_key.new.self.items c.in_ok-table.ensures
    c.sort_unstable_by_key.ensures.permutation sorted (twice_of-differing (parts_of c.args.pivot c.args.assigned.now c.args.maps.now) (differing c.args.pivot c.args.assigned.now c.args.maps.now c.in_ok-table.table.items c.sort_unstable_by_key.new.self.items c.in_ok-table.ensures c.sort_unstable_by_key.ensures.permutation
    (rw c.deref.ensures.value at (c.rises.ensures.0 c.if-rises.true))))
    (witness_with c.args.pivot c.in-Ok.kept.items c.in_ok-maps.maps.items) (whole c.args.pivot c.args.assigned.now c.in-Ok.kept.items c.args.maps.now c.in_ok-maps.maps.items (differing c.args.pivot c.args.assigned.now c.args.maps.now c.in_ok-table.table.items c.sort_unstable_by_key.new.self.items c.in_ok-table.ensures c.sort_unstable_by_key.ensures.permutation
    (rw c.deref.ensures.value at (c.rises.ensures.0 c.if-rises.true))) c.in-Ok.ensures.items c.in_ok-maps.ensures))

pub returns-then-rises-clause-ok : goal.returns-then-rises-clause-ok
returns-then-rises-clause-ok c = rw c.in_ok-substitution_of.ensures (whole c.args.pivot c.args.assigned.now c.in-Ok.kept.items c.args.maps.now c.in_ok-maps.maps.items (differing c.args.pivot c.args.assigned.now c.args.maps.now c.in_ok-table.table.items c.sort_unstable_by_key.new.self.items c.in_ok-table.ensures c.sort_unstable_by_key.ensures.permutation
    (rw c.deref.ensures.value at (c.rises.ensures.0 c.if-rises.true))) c.in-Ok.ensures.items c.in_ok-maps.ensures)

pub returns-then-rises-clause-apart : goal.returns-then-rises-clause-apart
returns-then-rises-clause-apart c = twice_of-differing (parts_of c.args.pivot c.args.assigned.now c.args.maps.now) (differing c.args.pivot c.args.assigned.now c.args.maps.now c.in_ok-table.table.items c.sort_unstable_by_key.new.self.items c.in_ok-table.ensures c.sort_unstable_by_key.ensures.permutation
    (rw c.deref.ensures.value at (c.rises.ensures.0 c.if-rises.true)))

pub substitution_of-requires-2 : goal.substitution_of-requires-2
substitution_of-requires-2 c =
    let sorted = IsNonDecreasingBy-from_sort_by_key (λ p. p.0) c.sort_unstable_by_key.new.self.items c.sort_unstable_by_key.ensures.sorted (λ a r q k. search rules) in
    let once : twice_of (parts_of c.args.pivot c.args.assigned.now c.args.maps.now) ≡ None =
    sym (c.in_ok-var.ensures ∙ ap twice_of (c.deref-2.ensures.value ∙ c.in_ok-parts.ensures)) ∙ no_variable c.in_ok-var.field-0 c.in_default-2.not-Some in
    rw c.in_ok-table-3.ensures (table c.args.pivot c.args.assigned.now c.args.maps.now c.in_ok-table.table.items c.sort_unstable_by_key.new.self.items c.in_ok-table.ensures
    c.sort_unstable_by_key.ensures.permutation sorted once
    (witness_with c.args.pivot c.in_ok-assigned.assigned.items c.in_ok-maps-2.maps.items) (rw (c.in_ok-assigned.ensures, c.in_ok-maps-2.ensures) refl))
