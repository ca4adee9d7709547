-- What holds at each step of a backward pass when it is written.
use Rattle.std.proofs.Common.{◌≡◌, ℕ, suc, zero, ◌+◌, ◌-◌, ◌<◌, ◌≤◌, List, [], ◌∷◌, Option, Some, None, refl, sym, ◌∙◌, ap, arith, length, get_or, map}
use Rattle.std.specs.Prelude.{All}
use Rattle.sr_base.specs.Literal.{Literal}
use Rattle.sr_model.specs.Meeting.{Step}
use Rattle.sr_model.specs.Judging.{numbered_from}
use Rattle.sr_trimming.specs.Loading.{Done, at_start, after_all}
use Rattle.sr_trimming.specs.From.{Place, place_of, AreFrom}
use Rattle.sr_trimming.specs.Placing.{uncited}
use Rattle.sr_trimming.specs.Backward.{AreLinked}
use Rattle.sr_trimming.specs.Trimmed.{LeanByNeed}
use Rattle.sr_trimming.specs.Reordered.{IsStepRewritten}
use Rattle.sr_lsr.specs.Written.{IsSmall}
use Rattle.sr_steps.specs.Kept.{Kept, step_at, step_of}
use Rattle.sr_load.specs.Loaded.{LoadedState, all_lines, all_in, next_of}
use Rattle.sr_placing.specs.Parts.{IsSmallKept, IsPlaceOf}
use Rattle.sr_placing.specs.Placing.{steps_of, drops_from}
use Rattle.sr_placing.proofs.Lemmas.{place_before}
use Rattle.sr_placing.proofs.Placings.{id_is, last_id, last_at, linked_end}
use Rattle.sr_placing.proofs.Smallness.{kept_small, uncited_small, drops_small}
use Rattle.sr_placing.proofs.Laying.{drops_count}

pub step_got : (st : LoadedState) (ks : List Kept) (i : ℕ) (d : Kept) → i < length ks → (e : Step) → get_or (steps_of st ks) i e ≡ step_of st.formula.clauses (all_lines st) (get_or ks i d)
step_got st [] i d h e = absurd (omega arith)
step_got st (k ∷ ks) zero d h e = refl
step_got st (k ∷ ks) (suc i) d h e = step_got st ks i d (omega arith) e

pub steps_count : (st : LoadedState) (ks : List Kept) → length (steps_of st ks) ≡ length ks
steps_count st [] = refl
steps_count st (k ∷ ks) = ap suc (steps_count st ks)

-- a step but the last is that of a lemma
place_at : (f : List (List Literal)) (ds : List Done) (last : ℕ) (ks : List Kept) (i : ℕ) (d : Kept) → AreLinked last (map (step_of f ds) ks) → AreFrom f ds (map (step_of f ds) ks) → i + 1 < length ks
    → (last < (get_or ks i d).id) × ((p : Place) × (place_of (at_start f) ds (get_or ks i d).id ≡ Some p))
place_at f ds last [] i d l a h = absurd l
place_at f ds last (k ∷ []) i d l a h = absurd (omega arith)
place_at f ds last (k ∷ j ∷ ks) zero d l a h = let is = id_is f ds k in (omega (arith, l.0), (a.0.0, ap (place_of (at_start f) ds) (sym is) ∙ a.0.1))
place_at f ds last (k ∷ j ∷ ks) (suc i) d l a h =
    let is = id_is f ds k in
    let more = place_at f ds (step_of f ds k).id (j ∷ ks) i d l.3 a.1 (omega arith) in
    (omega (arith, more.0, l.0), more.1)

-- the last one has the number after all lemmas
last_next : (f : List (List Literal)) (ds : List Done) (n : ℕ) (ks : List Kept) → AreFrom f ds (map (step_of f ds) ks) → last_id n ks ≡ (after_all (at_start f) ds).next
last_next f ds n [] a = absurd a
last_next f ds n (k ∷ []) a = sym (id_is f ds k) ∙ a.id
last_next f ds n (k ∷ j ∷ ks) a = last_next f ds k.id (j ∷ ks) a.1

-- so no lemma has it
no_lemma : (f : List (List Literal)) (ds : List Done) (k : Kept) → k.id ≡ (after_all (at_start f) ds).next → step_of f ds k ≡ step_at None k
no_lemma f ds k is = at (place_of (at_start f) ds k.id) refl
  where
    at : (o : Option Place) → place_of (at_start f) ds k.id ≡ o → step_at o k ≡ step_at None k
    at None e = refl
    at (Some p) e = let low = place_before (at_start f) ds k.id p e in absurd (omega arith)

-- what holds of the kept steps of a loaded proof
pub record AreReady (st : LoadedState) (ks : List Kept) : Type 0 where
  pub some : 0 < length ks
  pub small_formula : IsSmall (length st.formula.clauses)
  pub small_uncited : All IsSmall (uncited st.formula.clauses (steps_of st ks))
  pub small_steps : (i : ℕ) (d : Kept) → i < length ks → IsSmallKept (get_or ks i d)
  pub small_drops : (i : ℕ) → All IsSmall (get_or (drops_from (numbered_from 1 st.formula.clauses) (steps_of st ks)) i [])
  pub drops : length (drops_from (numbered_from 1 st.formula.clauses) (steps_of st ks)) ≡ length ks
  pub lemmas : (i : ℕ) (d : Kept) → i + 1 < length ks → (length st.formula.clauses < (get_or ks i d).id) × ((p : Place) × IsPlaceOf st (get_or ks i d).id p)
  pub last : (d : Kept) → step_of st.formula.clauses (all_lines st) (get_or ks (length ks - 1) d) ≡ step_at None (get_or ks (length ks - 1) d)

pub are_ready : (st : LoadedState) (ks : List Kept) → AreLinked (length st.formula.clauses) (steps_of st ks) → AreFrom st.formula.clauses (all_lines st) (steps_of st ks)
    → LeanByNeed (all_in st) (steps_of st ks) → next_of st ≤ 2147483647 → AreReady st ks
are_ready st [] l a lean small = absurd l
are_ready st (k ∷ ks) l a lean small =
    let f : List (List Literal) = st.formula.clauses in
    let end = linked_end f (all_lines st) (length f) (k ∷ ks) l in
    let next : last_id (length f) (k ∷ ks) ≡ next_of st = last_next f (all_lines st) (length f) (k ∷ ks) a in
    record {
      some = omega arith;
      small_formula = omega arith;
      small_uncited = uncited_small f (steps_of st (k ∷ ks)) (omega arith);
      small_steps = λ i d h. kept_small f (all_lines st) (all_in st) (length f) (k ∷ ks) i d l lean (omega arith) h;
      small_drops = λ i. drops_small f (all_lines st) (all_in st) (numbered_from 1 f) (length f) (k ∷ ks) i l lean (omega arith);
      drops = drops_count (numbered_from 1 f) (steps_of st (k ∷ ks)) ∙ steps_count st (k ∷ ks);
      lemmas = λ i d h. place_at f (all_lines st) (length f) (k ∷ ks) i d l a h;
      last = λ d. no_lemma f (all_lines st) (get_or (k ∷ ks) (length (k ∷ ks) - 1) d) (sym (last_at (length f) (k ∷ ks) d (omega arith)) ∙ next);
    }

-- the last step has no other order
pub bare_rewritten : (k : Kept) → IsStepRewritten (step_at None k) (step_at None k)
bare_rewritten k = record { id = refl; clause = record { pivot = tt; reordered = record { same_literals = λ l. refl; none_twice = tt; none_twice_in_other = tt } }; witness = refl; prefix = refl; groups = refl }
