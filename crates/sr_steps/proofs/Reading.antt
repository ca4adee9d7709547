-- What stands at the places of a step.
use Rattle.std.proofs.Common.{◌≡◌, ℕ, zero, suc, ◌+◌, ◌-◌, ◌≤◌, ◌<◌, true, false, List, [], ◌∷◌, length, get_or, drop, map, refl, sym, ap, subst, ◌∙◌, arith, length-drop, length-take-le, get_or-take, get_or-drop}
use Rattle.std.specs.Prelude.{slice_range}
use Rattle.std.proofs.lemmas.List.{get_or-map, get_or-reverse, length-map, length-reverse}
use Rattle.sr_model.specs.Meeting.{Group}
use Rattle.sr_model.proofs.Soundness.{by_test}
use Rattle.sr_steps.specs.declared.place.GroupPlace.{GroupPlace}
use Rattle.sr_steps.specs.declared.table.StepPlace.{StepPlace}
use Rattle.sr_steps.specs.Kept.{Kept}
use Rattle.sr_steps.specs.Groups.{group_of, IsWithin}
use Rattle.sr_steps.specs.Places.{kept_of, steps_in, groups_end, LieFrom, AreLaid}
use Rattle.sr_steps.specs.Adding.{bare}
use Rattle.sr_steps.proofs.Lying.{lie-le}

pub view-length : (hints : List ℕ) (groups : List GroupPlace) (steps : List StepPlace) → length (steps_in hints groups steps) ≡ length steps
view-length hints groups steps = length-reverse (map (kept_of hints (map (group_of hints) groups)) steps) ∙ length-map steps (kept_of hints (map (group_of hints) groups))

-- the step at an index
pub view-at : (hints : List ℕ) (groups : List GroupPlace) (steps : List StepPlace) (i : ℕ) (s : StepPlace) → i < length steps → s ≡ get_or steps (length steps - 1 - i) s
    → get_or (steps_in hints groups steps) i (bare 0 false) ≡ kept_of hints (map (group_of hints) groups) s
view-at hints groups steps i s h e =
    let f : StepPlace → Kept = kept_of hints (map (group_of hints) groups) in
    let n : length (map f steps) ≡ length steps = length-map steps f in
    get_or-reverse (map f steps) i (bare 0 false) (omega arith) ∙ ap (λ m. get_or (map f steps) (m - 1 - i) (bare 0 false)) n ∙ get_or-map f steps (length steps - 1 - i) s (bare 0 false) (omega arith) ∙ ap f (sym e)

-- and where it lies
pub record Lies (hints groups : ℕ) (s : StepPlace) : Type 0 where
  pub order : s.start ≤ s.end
  pub plain : s.by_witness ≡ false → s.end ≤ hints
  pub grouped : s.by_witness ≡ true → s.end ≤ groups

lies-in : (h from : ℕ) (ss : List StepPlace) (end k : ℕ) (d : StepPlace) → LieFrom h from ss end → k < length ss → Lies h end (get_or ss k d)
lies-in h from [] end k d l m = absurd (omega arith)
lies-in h from (s ∷ ss) end (suc k) d l m = lies-in h (groups_end from s) ss end k d l.1 (omega arith)
lies-in h from (s ∷ ss) end zero d l m = by_test s.by_witness
    (λ e.
    let x : (s.start ≡ from) × (from ≤ s.end) = rw e at l.0 in
    let y : s.end ≤ end = rw e at (lie-le h (groups_end from s) ss end l.1) in
    record { order = omega (arith, x.0, x.1); plain = λ f. absurd cc; grouped = λ f. y })
    (λ e.
    let x : (s.start ≤ s.end) × (s.end ≤ h) = rw e at l.0 in
    record { order = x.0; plain = λ f. x.1; grouped = λ f. absurd cc })

pub lies : (hints : List ℕ) (groups : List GroupPlace) (steps : List StepPlace) (i : ℕ) (s : StepPlace) → AreLaid hints groups steps → i < length steps → s ≡ get_or steps (length steps - 1 - i) s → Lies (length hints) (length groups) s
lies hints groups steps i s a h e = subst (Lies (length hints) (length groups)) (sym e) (lies-in (length hints) 0 steps (length groups) (length steps - 1 - i) s a.apart (omega arith))

pub length-range : {X : Type 0} (xs : List X) (a b : ℕ) → b ≤ length xs → length (slice_range xs a b) ≡ b - a
length-range xs a b h = length-take-le (b - a) (drop a xs) (omega (arith, length-drop a xs))

pub range-at : {X : Type 0} (xs : List X) (a b j : ℕ) (d : X) → j < b - a → get_or (slice_range xs a b) j d ≡ get_or xs (a + j) d
range-at xs a b j d h = get_or-take (b - a) (drop a xs) j d h ∙ get_or-drop a xs j d

-- the groups of a step with a witness, and one of them
pub groups-of : (hints : List ℕ) (gs : List Group) (s : StepPlace) → s.by_witness ≡ true → (kept_of hints gs s).groups ≡ slice_range gs s.start s.end
groups-of hints gs s w = rw w refl

pub no-groups : (hints : List ℕ) (gs : List Group) (s : StepPlace) → s.by_witness ≡ false → (kept_of hints gs s).groups ≡ []
no-groups hints gs s w = rw w refl

pub hints-of : (hints : List ℕ) (gs : List Group) (s : StepPlace) → s.by_witness ≡ false → (kept_of hints gs s).prefix ≡ slice_range hints s.start s.end
hints-of hints gs s w = rw w refl

pub no-hints : (hints : List ℕ) (gs : List Group) (s : StepPlace) → s.by_witness ≡ true → (kept_of hints gs s).prefix ≡ []
no-hints hints gs s w = rw w refl

-- the place of a group
pub record IsPlaced (hints : List ℕ) (groups : List GroupPlace) (steps : List StepPlace) (i j : ℕ) (s : StepPlace) : Type 0 where
  pub within : s.start + j < length groups
  pub group : (g : GroupPlace) → g ≡ get_or groups (s.start + j) g → get_or (get_or (steps_in hints groups steps) i (bare 0 false)).groups j (0, []) ≡ group_of hints g
  pub lies : (g : GroupPlace) → g ≡ get_or groups (s.start + j) g → IsWithin hints g

pub group-placed : (hints : List ℕ) (groups : List GroupPlace) (steps : List StepPlace) (i j : ℕ) (s : StepPlace) → AreLaid hints groups steps → i < length steps → s ≡ get_or steps (length steps - 1 - i) s
    → j < length (get_or (steps_in hints groups steps) i (bare 0 false)).groups → IsPlaced hints groups steps i j s
group-placed hints groups steps i j s a h e m =
    let gs : List Group = map (group_of hints) groups in
    let at : get_or (steps_in hints groups steps) i (bare 0 false) ≡ kept_of hints gs s = view-at hints groups steps i s h e in
    let l : Lies (length hints) (length groups) s = lies hints groups steps i s a h e in
    let few : j < length (kept_of hints gs s).groups = subst (λ k. j < length k.groups) at m in
    by_test s.by_witness
    (λ w.
    let is : (kept_of hints gs s).groups ≡ slice_range gs s.start s.end = groups-of hints gs s w in
    let end : s.end ≤ length groups = l.grouped w in
    let long : length (slice_range gs s.start s.end) ≡ s.end - s.start = length-range gs s.start s.end (omega (arith, length-map groups (group_of hints))) in
    let less : j < s.end - s.start = subst (λ n. j < n) (ap length is ∙ long) few in
    record {
      within = omega arith;
      group = λ g f. ap (λ k. get_or k.groups j (0, [])) at ∙ ap (λ zs. get_or zs j (0, [])) is ∙ range-at gs s.start s.end j (0, []) less
          ∙ get_or-map (group_of hints) groups (s.start + j) g (0, []) (omega arith) ∙ ap (group_of hints) (sym f);
      lies = λ g f. subst (IsWithin hints) (sym f) (a.within (s.start + j) g (omega arith));
    })
    (λ w. absurd (let none : length (kept_of hints gs s).groups ≡ 0 = ap length (no-groups hints gs s w) in omega arith))
