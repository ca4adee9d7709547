-- Entries that are added or cut, and clauses that change.
use Rattle.std.proofs.Common.{◌≡◌, ◌≢◌, ◌<◌, ◌≤◌, ℕ, suc, zero, true, false, cond, ◌==◌, List, [], ◌∷◌, ◌++◌, refl, sym, subst, arith, length, get_or, take}
use Rattle.std.proofs.lemmas.List.{take-append-le, take-take, get_or-take, get_or_append_left, get_or_at, length-append, length-take, take_at}
use Rattle.std.proofs.lemmas.Bool.Decides.{nat_tests}
use Rattle.sr_base.specs.Literal.{Literal, plus, variable, same, has, NoRepeats}
use Rattle.sr_base.proofs.Literals.{same_tells, has_append, no_repeats_push}
use Rattle.sr_model.proofs.Soundness.{by_test}
use Rattle.sr_watch.specs.declared.parts.Part.TheVariants.{All}
use Rattle.sr_watch.specs.Parts.{counts}
use Rattle.sr_watch.specs.State.{Slot, State, slot_in, lits_at, lit_at, reason_at, assumed_in, assumed, AreWithin, IsSound}
use Rattle.sr_watch.specs.Changes.{cut_to}
use Rattle.sr_watch.specs.Inside.{derived_in}
use Rattle.sr_watch.specs.Running.{pushed, IsNext}
use Rattle.sr_watch.proofs.Entries.{by_eq}
use Rattle.sr_watch.proofs.Looking.{in_take}

-- the assumed and the derived literals, with one entry more
pub assumed_push : (ls : List Literal) (rs : List ℕ) (l : Literal) (r : ℕ) → length rs ≡ length ls → assumed_in (ls ++ l ∷ []) (rs ++ r ∷ []) ≡ cond (r == 0) (assumed_in ls rs ++ l ∷ []) (assumed_in ls rs)
assumed_push [] [] l r n = by_test (r == 0) (λ t. rw t refl) (λ t. rw t refl)
assumed_push [] (q ∷ rs) l r n = absurd (omega arith)
assumed_push (k ∷ ls) [] l r n = absurd (omega arith)
assumed_push (k ∷ ls) (q ∷ rs) l r n = rw (assumed_push ls rs l r (omega arith)) (by_test (q == 0) (λ t. rw t (by_test (r == 0) (λ u. rw u refl) (λ u. rw u refl))) (λ t. rw t refl))

derived_push : (ls : List Literal) (rs : List ℕ) (l : Literal) (r : ℕ) → length rs ≡ length ls → derived_in (ls ++ l ∷ []) (rs ++ r ∷ []) ≡ cond (r == 0) (derived_in ls rs) (derived_in ls rs ++ l ∷ [])
derived_push [] [] l r n = by_test (r == 0) (λ t. rw t refl) (λ t. rw t refl)
derived_push [] (q ∷ rs) l r n = absurd (omega arith)
derived_push (k ∷ ls) [] l r n = absurd (omega arith)
derived_push (k ∷ ls) (q ∷ rs) l r n = rw (derived_push ls rs l r (omega arith)) (by_test (q == 0) (λ t. rw t refl) (λ t. rw t (by_test (r == 0) (λ u. rw u refl) (λ u. rw u refl))))

derived_has : (ls : List Literal) (rs : List ℕ) (k : Literal) → has k (derived_in ls rs) ≡ true → has k ls ≡ true
derived_has [] rs k h = absurd cc
derived_has (l ∷ ls) [] k h = absurd cc
derived_has (l ∷ ls) (r ∷ rs) k h = by_test (r == 0)
    (λ z. grind (arith, derived_has ls rs k))
    (λ z. by_test (same l k) (λ t. grind arith) (λ f. grind (arith, derived_has ls rs k)))

not_derived : (ls : List Literal) (rs : List ℕ) (k : Literal) → has k ls ≡ false → has k (derived_in ls rs) ≡ false
not_derived ls rs k h = by_test (has k (derived_in ls rs)) (λ t. let u : has k ls ≡ true = derived_has ls rs k t in absurd cc) (λ f. f)

pub derived_once_push : (ls : List Literal) (rs : List ℕ) (l : Literal) (r : ℕ) → length rs ≡ length ls → has l ls ≡ false → NoRepeats (derived_in ls rs) → NoRepeats (derived_in (ls ++ l ∷ []) (rs ++ r ∷ []))
derived_once_push ls rs l r n h d = rw (derived_push ls rs l r n) (by_test (r == 0) (λ t. rw t d) (λ t. rw t (no_repeats_push l (derived_in ls rs) d (not_derived ls rs l h))))

pub derived_once_assume : (ls : List Literal) (rs : List ℕ) (l : Literal) → length rs ≡ length ls → NoRepeats (derived_in ls rs) → NoRepeats (derived_in (ls ++ l ∷ []) (rs ++ 0 ∷ []))
derived_once_assume ls rs l n d = rw (derived_push ls rs l 0 n) d

-- the same of the first entries
pub assumed_cut_has : (n : ℕ) (ls : List Literal) (rs : List ℕ) (k : Literal) → has k (assumed_in (take n ls) (take n rs)) ≡ true → has k (assumed_in ls rs) ≡ true
assumed_cut_has zero ls rs k h = absurd cc
assumed_cut_has (suc n) [] rs k h = absurd cc
assumed_cut_has (suc n) (l ∷ ls) [] k h = absurd cc
assumed_cut_has (suc n) (l ∷ ls) (r ∷ rs) k h = by_test (r == 0)
    (λ z. by_test (same l k) (λ t. grind arith) (λ f. grind (arith, assumed_cut_has n ls rs k)))
    (λ z. grind (arith, assumed_cut_has n ls rs k))

derived_cut_has : (n : ℕ) (ls : List Literal) (rs : List ℕ) (k : Literal) → has k (derived_in (take n ls) (take n rs)) ≡ true → has k (derived_in ls rs) ≡ true
derived_cut_has zero ls rs k h = absurd cc
derived_cut_has (suc n) [] rs k h = absurd cc
derived_cut_has (suc n) (l ∷ ls) [] k h = absurd cc
derived_cut_has (suc n) (l ∷ ls) (r ∷ rs) k h = by_test (r == 0)
    (λ z. grind (arith, derived_cut_has n ls rs k))
    (λ z. by_test (same l k) (λ t. grind arith) (λ f. grind (arith, derived_cut_has n ls rs k)))

not_among : (a b : List Literal) (k : Literal) → (has k a ≡ true → has k b ≡ true) → has k b ≡ false → has k a ≡ false
not_among a b k f h = by_test (has k a) (λ t. let u : has k b ≡ true = f t in absurd cc) (λ t. t)

pub assumed_once_cut : (n : ℕ) (ls : List Literal) (rs : List ℕ) → NoRepeats (assumed_in ls rs) → NoRepeats (assumed_in (take n ls) (take n rs))
assumed_once_cut zero ls rs d = tt
assumed_once_cut (suc n) [] rs d = tt
assumed_once_cut (suc n) (l ∷ ls) [] d = tt
assumed_once_cut (suc n) (l ∷ ls) (r ∷ rs) d = by_test (r == 0)
    (λ t. let e = rw t at d in rw t (not_among (assumed_in (take n ls) (take n rs)) (assumed_in ls rs) l (assumed_cut_has n ls rs l) e.0, assumed_once_cut n ls rs e.1))
    (λ t. let e = rw t at d in rw t (assumed_once_cut n ls rs e))

pub derived_once_cut : (n : ℕ) (ls : List Literal) (rs : List ℕ) → NoRepeats (derived_in ls rs) → NoRepeats (derived_in (take n ls) (take n rs))
derived_once_cut zero ls rs d = tt
derived_once_cut (suc n) [] rs d = tt
derived_once_cut (suc n) (l ∷ ls) [] d = tt
derived_once_cut (suc n) (l ∷ ls) (r ∷ rs) d = by_test (r == 0)
    (λ t. let e = rw t at d in rw t (derived_once_cut n ls rs e))
    (λ t. let e = rw t at d in rw t (not_among (derived_in (take n ls) (take n rs)) (derived_in ls rs) l (derived_cut_has n ls rs l) e.0, derived_once_cut n ls rs e.1))

-- an entry of a longer list
pub lit_old : (s : State) (l : Literal) (r i : ℕ) → i < length s.lits → lit_at (pushed s l r) i ≡ lit_at s i
lit_old s l r i lt = get_or_append_left s.lits (l ∷ []) (plus 0) i lt

pub reason_old : (s : State) (l : Literal) (r i : ℕ) → length s.reasons ≡ length s.lits → i < length s.lits → reason_at (pushed s l r) i ≡ reason_at s i
reason_old s l r i n lt = get_or_append_left s.reasons (r ∷ []) 0 i (omega arith)

pub within_push : (v : ℕ) (ls : List Literal) (l : Literal) → AreWithin v ls → variable l ≤ v → AreWithin v (ls ++ l ∷ [])
within_push v ls l w h k m = by_test (same l k)
    (λ t. let is : l ≡ k = grind (arith, same_tells l k) in subst (λ j. variable j ≤ v) is h)
    (λ f. w k (grind (arith, has_append k ls (l ∷ []))))

-- a literal that wasn't assumed may be
pub sound_assume : (s : State) (l : Literal) → IsSound s → variable l ≤ s.vars → has l (assumed s) ≡ false → IsSound (pushed s l 0)
sound_assume s l sound h new =
    let last : (i : ℕ) → i ≡ length s.lits → reason_at (pushed s l 0) i ≡ 0 = (λ i e. get_or_at s.reasons 0 [] 0 i (omega (arith, sound.sizes))) in
    let small : (i : ℕ) → i < length (s.lits ++ l ∷ []) → i ≢ length s.lits → i < length s.lits = (λ i lt n. omega (arith, length-append s.lits (l ∷ []))) in
    record {
      sizes = omega (arith, sound.sizes, length-append s.lits (l ∷ []), length-append s.reasons (0 ∷ []));
      within = within_push s.vars s.lits l sound.within h;
      clauses_within = sound.clauses_within;
      distinct = sound.distinct;
      held = sound.held;
      once = rw (assumed_push s.lits s.reasons l 0 sound.sizes) (no_repeats_push l (assumed s) sound.once new);
      attached = λ i lt. by_eq i (length s.lits) (λ e. rw (last i e) (λ ne. absurd (ne refl))) (λ n. rw (reason_old s l 0 i sound.sizes (small i lt n)) (sound.attached i (small i lt n)));
      forced = λ i lt. by_eq i (length s.lits)
          (λ e. rw (last i e) (λ ne. absurd (ne refl)))
          (λ n. let lt' = small i lt n in let before : take i (s.lits ++ l ∷ []) ≡ take i s.lits = take-append-le i s.lits (l ∷ []) (omega arith) in rw (reason_old s l 0 i sound.sizes lt', lit_old s l 0 i lt', before) (sound.forced i lt'));
      news = λ i lt. by_eq i (length s.lits)
          (λ e. rw (last i e) (λ ne. absurd (ne refl)))
          (λ n. let lt' = small i lt n in let before : take i (s.lits ++ l ∷ []) ≡ take i s.lits = take-append-le i s.lits (l ∷ []) (omega arith) in rw (reason_old s l 0 i sound.sizes lt', lit_old s l 0 i lt', before) (sound.news i lt'));
    }

-- a literal that a clause forces may be derived
pub sound_derive : (s : State) (l : Literal) (r : ℕ) → IsSound s → IsNext s l r → IsSound (pushed s l r)
sound_derive s l r sound next =
    let last : (i : ℕ) → i ≡ length s.lits → reason_at (pushed s l r) i ≡ r = (λ i e. get_or_at s.reasons r [] 0 i (omega (arith, sound.sizes))) in
    let lit : (i : ℕ) → i ≡ length s.lits → lit_at (pushed s l r) i ≡ l = (λ i e. get_or_at s.lits l [] (plus 0) i (sym e)) in
    let all : (i : ℕ) → i ≡ length s.lits → take i (s.lits ++ l ∷ []) ≡ s.lits = (λ i e. take_at s.lits (l ∷ []) i (sym e)) in
    let small : (i : ℕ) → i < length (s.lits ++ l ∷ []) → i ≢ length s.lits → i < length s.lits = (λ i lt n. omega (arith, length-append s.lits (l ∷ []))) in
    let some : (r == 0) ≡ false = let z = next.some in grind (arith, nat_tests) in
    record {
      sizes = omega (arith, sound.sizes, length-append s.lits (l ∷ []), length-append s.reasons (r ∷ []));
      within = within_push s.vars s.lits l sound.within (sound.clauses_within r l next.forced.of_clause);
      clauses_within = sound.clauses_within;
      distinct = sound.distinct;
      held = sound.held;
      once = rw (assumed_push s.lits s.reasons l r sound.sizes, some) sound.once;
      attached = λ i lt. by_eq i (length s.lits) (λ e. rw (last i e) (λ ne. next.attached)) (λ n. rw (reason_old s l r i sound.sizes (small i lt n)) (sound.attached i (small i lt n)));
      forced = λ i lt. by_eq i (length s.lits)
          (λ e. rw (last i e, lit i e, all i e) (λ ne. next.forced))
          (λ n. let lt' = small i lt n in let before : take i (s.lits ++ l ∷ []) ≡ take i s.lits = take-append-le i s.lits (l ∷ []) (omega arith) in rw (reason_old s l r i sound.sizes lt', lit_old s l r i lt', before) (sound.forced i lt'));
      news = λ i lt. by_eq i (length s.lits)
          (λ e. rw (last i e, lit i e, all i e) (λ ne. next.open_here))
          (λ n. let lt' = small i lt n in let before : take i (s.lits ++ l ∷ []) ≡ take i s.lits = take-append-le i s.lits (l ∷ []) (omega arith) in rw (reason_old s l r i sound.sizes lt', lit_old s l r i lt', before) (sound.news i lt'));
    }

-- the first entries alone
pub sound_cut : (s : State) (n : ℕ) → n ≤ length s.lits → IsSound s → IsSound (cut_to s n)
sound_cut s n le sound =
    let small : (i : ℕ) → i < length (take n s.lits) → i < n = (λ i h. omega (arith, length-take n s.lits)) in
    let reason : (i : ℕ) → i < n → get_or (take n s.reasons) i 0 ≡ reason_at s i = (λ i h. get_or-take n s.reasons i 0 h) in
    let lit : (i : ℕ) → i < n → get_or (take n s.lits) i (plus 0) ≡ lit_at s i = (λ i h. get_or-take n s.lits i (plus 0) h) in
    let before : (i : ℕ) → i < n → take i (take n s.lits) ≡ take i s.lits = (λ i h. take-take i n s.lits (omega arith)) in
    record {
      sizes = omega (arith, length-take n s.lits, length-take n s.reasons, sound.sizes);
      within = λ l h. sound.within l (in_take s.lits n l h);
      clauses_within = sound.clauses_within;
      distinct = sound.distinct;
      held = sound.held;
      once = assumed_once_cut n s.lits s.reasons sound.once;
      attached = λ i h. rw (reason i (small i h)) (sound.attached i (omega (arith, small i h)));
      forced = λ i h. rw (reason i (small i h), lit i (small i h), before i (small i h)) (sound.forced i (omega (arith, small i h)));
      news = λ i h. rw (reason i (small i h), lit i (small i h), before i (small i h)) (sound.news i (omega (arith, small i h)));
    }

-- what other clauses must keep
pub record StandFor (s : State) (ss : List Slot) : Type 0 where
  pub within : (r : ℕ) → AreWithin s.vars (slot_in ss r).lits
  pub distinct : (r : ℕ) → NoRepeats (slot_in ss r).lits
  pub held : (r : ℕ) → counts All (slot_in ss r).part ≡ true → (slot_in ss r).held ≡ true
  pub reasons : (i : ℕ) → i < length s.lits → reason_at s i ≢ 0 → counts All (slot_in ss (reason_at s i)).part ≡ true
  pub lits : (i : ℕ) → i < length s.lits → reason_at s i ≢ 0 → (slot_in ss (reason_at s i)).lits ≡ lits_at s (reason_at s i)

pub sound_clauses : (s : State) (ss : List Slot) → IsSound s → StandFor s ss → IsSound (record s { slots = ss })
sound_clauses s ss sound f = record {
  sizes = sound.sizes;
  within = sound.within;
  clauses_within = f.within;
  distinct = f.distinct;
  held = f.held;
  once = sound.once;
  attached = f.reasons;
  forced = λ i lt ne. rw (f.lits i lt ne) (sound.forced i lt ne);
  news = sound.news;
}
