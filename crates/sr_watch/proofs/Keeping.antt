-- What stays true of a propagator's fields.
use Rattle.std.proofs.Common.{max, Result, Ok, Err, OnOk, OnErr, ◌≡◌, ◌≢◌, ◌<◌, ◌≤◌, ℕ, suc, zero, Bool, true, false, ◌==◌, List, [], ◌∷◌, ◌++◌, refl, sym, ◌∙◌, ap, subst, arith, length, get_or, take}
use Rattle.sr_base.specs.Literal.{Literal}
use Rattle.sr_base.specs.declared.literal.TheConstants.{MOST_VARS}
use Rattle.sr_base.specs.declared.lists.NoMemory.{NoMemory}
use Rattle.sr_watch.specs.Trail.{Entries}
use Rattle.sr_arena.specs.Cells.{Memory, Cell, cell_at, gone}
use Rattle.std.proofs.lemmas.List.{length-append, get_or_append_left, get_or_at}
use Rattle.std.proofs.lemmas.Bool.Decides.{nat_tests}
use Rattle.sr_base.specs.Literal.{variable, has, NoRepeats}
use Rattle.sr_arena.specs.Cells as arena
use Rattle.sr_model.specs.Assignment.{holds_number}
use Rattle.sr_model.proofs.Soundness.{by_test}
use Rattle.sr_watch.specs.declared.parts.Part.TheVariants.{All}
use Rattle.sr_watch.specs.Parts.{counts}
use Rattle.sr_watch.specs.State.{Slot, State, IsSound, slot_in, no_clause, held_clause, held_cells, assumed_in, AreWithin, IsAttached, IsHeld}
use Rattle.sr_watch.specs.Changes.{IsAdded}
use Rattle.sr_watch.specs.Inside.{state_of, slot_of, slots_of, AreKnown, IsKept}
use Rattle.sr_watch.specs.Running.{AreAttached}
use Rattle.sr_watch.proofs.Entries.{by_eq}
use Rattle.sr_watch.proofs.Growing.{sound_assume, sound_cut, sound_clauses, derived_once_assume, derived_once_cut}
use Rattle.sr_watch.proofs.Slots.{slot_is, weights_are, knows_push}

none_at : (r : ℕ) → get_or (no_clause ∷ []) r no_clause ≡ no_clause
none_at zero = refl
none_at (suc r) = refl

gone_at : (r : ℕ) → get_or (gone ∷ []) r gone ≡ gone
gone_at zero = refl
gone_at (suc r) = refl

pub kept_new : (most : ℕ) → IsKept 0 (record { cells = gone ∷ []; used = 0; most = most; room = 0 }) [] [] []
kept_new most = record {
  fits = omega arith;
  sound = record {
    sizes = refl;
    within = λ l h. absurd cc;
    clauses_within = λ r. rw (none_at r) (λ l h. absurd cc);
    distinct = λ r. rw (none_at r) tt;
    held = λ r. rw (none_at r) (λ h. absurd cc);
    once = tt;
    attached = λ i lt. absurd (omega arith);
    forced = λ i lt. absurd (omega arith);
    news = λ i lt. absurd (omega arith);
  };
  derived_once = tt;
  listed = record { held = λ i lt. absurd (omega arith); all = λ r. rw (gone_at r) (λ h. absurd cc) };
}

pub kept_assume : (v : ℕ) (m : Memory) (known : List ℕ) (ls : List Literal) (rs : List ℕ) (l : Literal) → IsKept v m known ls rs → variable l ≤ v → has l (assumed_in ls rs) ≡ false → IsKept v m known (ls ++ l ∷ []) (rs ++ 0 ∷ [])
kept_assume v m known ls rs l k h new = record {
  fits = k.fits;
  sound = sound_assume (state_of v m ls rs) l k.sound h new;
  derived_once = derived_once_assume ls rs l k.sound.sizes k.derived_once;
  listed = k.listed;
}

pub kept_cut : (v : ℕ) (m : Memory) (known : List ℕ) (ls : List Literal) (rs : List ℕ) (n : ℕ) → n ≤ length ls → IsKept v m known ls rs → IsKept v m known (take n ls) (take n rs)
kept_cut v m known ls rs n le k = record {
  fits = k.fits;
  sound = sound_cut (state_of v m ls rs) n le k.sound;
  derived_once = derived_once_cut n ls rs k.derived_once;
  listed = k.listed;
}

-- a clause that was added
pub slots_added : (m n : Memory) (at : ℕ) (lits : List Literal) (number : ℕ) → arena.IsAdded m n at (arena.fresh lits number) → (r : ℕ) → r ≢ at → slot_in (slots_of n) r ≡ slot_in (slots_of m) r
slots_added m n at lits number a r ne = slot_is n r ∙ ap slot_of (a.others r ne) ∙ sym (slot_is m r)

pub slot_added : (m n : Memory) (at : ℕ) (lits : List Literal) (number : ℕ) → arena.IsAdded m n at (arena.fresh lits number) → slot_in (slots_of n) at ≡ held_clause lits number
slot_added m n at lits number a = slot_is n at ∙ ap slot_of a.here

pub slot_none : (m n : Memory) (at : ℕ) (lits : List Literal) (number : ℕ) → arena.IsAdded m n at (arena.fresh lits number) → slot_in (slots_of m) at ≡ no_clause
slot_none m n at lits number a = slot_is m at ∙ ap slot_of a.none

pub state_added : (v : ℕ) (m n : Memory) (ls : List Literal) (rs : List ℕ) (at : ℕ) (lits : List Literal) (number : ℕ) → arena.IsAdded m n at (arena.fresh lits number) → IsAdded (state_of v m ls rs) (state_of v n ls rs) at (held_clause lits number)
state_added v m n ls rs at lits number a = record {
  none = slot_none m n at lits number a;
  here = slot_added m n at lits number a;
  others = slots_added m n at lits number a;
  rest = ap (λ x. record { vars = v; most = x; slots = slots_of n; lits = ls; reasons = rs }) a.most;
}

known_here : (at : ℕ) (known : List ℕ) → holds_number at (known ++ at ∷ []) ≡ true
known_here at [] = grind (arith, nat_tests)
known_here at (k ∷ known) = by_test (k == at) (λ t. rw t refl) (λ f. rw f (known_here at known))

known_added : (m n : Memory) (known : List ℕ) (at : ℕ) (lits : List Literal) (number : ℕ) → AreKnown m known → arena.IsAdded m n at (arena.fresh lits number) → AreKnown n (known ++ at ∷ [])
known_added m n known at lits number k a = record {
  held = λ i lt. by_eq i (length known)
      (λ e. rw (get_or_at known at [] 0 i (sym e)) (ap (λ (c : Cell). c.held) a.here))
      (λ ne. let lt' : i < length known = omega (arith, length-append known (at ∷ [])) in
      let old : arena.IsHeld m (get_or known i 0) = k.held i lt' in
      rw (get_or_append_left known (at ∷ []) 0 i lt') (by_eq (get_or known i 0) at
      (λ e. rw e (ap (λ (c : Cell). c.held) a.here))
      (λ d. ap (λ (c : Cell). c.held) (a.others (get_or known i 0) d) ∙ old)));
  all = λ r h. by_eq r at
      (λ e. subst (λ j. holds_number j (known ++ at ∷ []) ≡ true) (sym e) (known_here at known))
      (λ ne. knows_push r at known (k.all r (sym (ap (λ (c : Cell). c.held) (a.others r ne)) ∙ h)));
}

pub kept_add : (v : ℕ) (m n : Memory) (known : List ℕ) (ls : List Literal) (rs : List ℕ) (at : ℕ) (lits : List Literal) (number : ℕ) → IsKept v m known ls rs → NoRepeats lits → AreWithin v lits → arena.IsAdded m n at (arena.fresh lits number) → IsKept v n (known ++ at ∷ []) ls rs
kept_add v m n known ls rs at lits number k distinct within a =
    let s : State = state_of v m ls rs in
    let not_at : (i : ℕ) → i < length ls → get_or rs i 0 ≢ 0 → get_or rs i 0 ≢ at = (λ i lt d e.
    let att : counts All (slot_in (slots_of m) at).part ≡ true = subst (λ j. counts All (slot_in (slots_of m) j).part ≡ true) e (k.sound.attached i lt d) in
    let none : counts All (slot_in (slots_of m) at).part ≡ false = ap (λ (c : Slot). counts All c.part) (slot_none m n at lits number a) in absurd (differ none att)) in
    record {
      fits = k.fits;
      sound = subst IsSound (ap (λ x. record { vars = v; most = x; slots = slots_of n; lits = ls; reasons = rs }) (sym a.most)) (sound_clauses (state_of v m ls rs) (slots_of n) k.sound (record {
        within = λ r. by_eq r at (λ e. rw (e, slot_added m n at lits number a) within) (λ ne. rw (slots_added m n at lits number a r ne) (k.sound.clauses_within r));
        distinct = λ r. by_eq r at (λ e. rw (e, slot_added m n at lits number a) distinct) (λ ne. rw (slots_added m n at lits number a r ne) (k.sound.distinct r));
        held = λ r. by_eq r at (λ e. rw (e, slot_added m n at lits number a) (λ h. refl)) (λ ne. rw (slots_added m n at lits number a r ne) (k.sound.held r));
        reasons = λ i lt d. rw (slots_added m n at lits number a (get_or rs i 0) (not_at i lt d)) (k.sound.attached i lt d);
        lits = λ i lt d. ap (λ (c : Slot). c.lits) (slots_added m n at lits number a (get_or rs i 0) (not_at i lt d));
      }));
      derived_once = k.derived_once;
      listed = known_added m n known at lits number k.listed a;
    }
  where
    differ : {b : Bool} → b ≡ false → b ≡ true → ⊥
    differ f t = cc

-- the cells of held clauses
pub cells_are : (v : ℕ) (m : Memory) (ls : List Literal) (rs : List ℕ) → held_cells (state_of v m ls rs) ≡ arena.held_cells m
cells_are v m ls rs = sym (weights_are m.cells)

-- an attached clause is held in the memory
pub held_in : (v : ℕ) (m : Memory) (known : List ℕ) (ls : List Literal) (rs : List ℕ) (at : ℕ) → IsKept v m known ls rs → IsAttached (state_of v m ls rs) at → arena.IsHeld m at
held_in v m known ls rs at k h = sym (ap (λ (c : Slot). c.held) (slot_is m at)) ∙ k.sound.held at h

-- attached clauses by place
pub attached_at : (s : State) (hs : List ℕ) (i h : ℕ) → i < length hs → h ≡ get_or hs i h → AreAttached s hs → IsAttached s h
attached_at s [] i h lt e a = absurd (omega arith)
attached_at s (x ∷ hs) zero h lt e a = subst (λ j. IsAttached s j) (sym e) a.0
attached_at s (x ∷ hs) (suc i) h lt e a = attached_at s hs i h (omega arith) e a.1

pub held_back : (v : ℕ) (m : Memory) (ls : List Literal) (rs : List ℕ) (at : ℕ) → IsHeld (state_of v m ls rs) at → arena.IsHeld m at
held_back v m ls rs at h = sym (ap (λ (c : Slot). c.held) (slot_is m at)) ∙ h

-- more variables
pub kept_wider : (v w : ℕ) (m : Memory) (known : List ℕ) (ls : List Literal) (rs : List ℕ) → v ≤ w → w ≤ MOST_VARS → IsKept v m known ls rs → IsKept w m known ls rs
kept_wider v w m known ls rs le fits k =
    let x = k.sound in
    record {
      fits = fits;
      sound = record { sizes = x.sizes; within = λ l h. omega (arith, le, x.within l h); clauses_within = λ r l h. omega (arith, le, x.clauses_within r l h); distinct = x.distinct; held = x.held; once = x.once; attached = x.attached; forced = x.forced; news = x.news };
      derived_once = k.derived_once;
      listed = k.listed;
    }

-- entries with room for more variables, or none of it
pub grown_entries : (P : Entries → Type 0) (a b : Entries) (r : Result Unit NoMemory) (v : ℕ) → a.vars < v → OnOk r (b ≡ record a { vars = max a.vars v }) → OnErr r (b ≡ a) → P (record a { vars = v }) → P a → P b
grown_entries P a b (Ok u) v lt ok err wide here = let is : max a.vars v ≡ v = omega (arith, lt) in subst P (sym (ap (λ n. record a { vars = n }) is) ∙ sym ok) wide
grown_entries P a b (Err e) v lt ok err wide here = subst P (sym err) here
