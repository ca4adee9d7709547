-- What is written of a trimmed proof is within the limits, where the formula and the lemmas are.
use Rattle.std.proofs.Common.{◌≡◌, ◌∙◌, ◌⊎◌, inl, inr, ℕ, ◌+◌, ◌<◌, ◌≤◌, ◌==◌, Bool, true, not, ◌&&◌, List, [], ◌∷◌, ◌++◌, Option, Some, None, length, refl, sym, subst, arith}
use Rattle.std.specs.Prelude.{filter, All}
use Rattle.std.proofs.lemmas.Bool.Decides.{nat_tests}
use Rattle.std.proofs.lemmas.List.Elements.{All-cons}
use Rattle.sr_base.specs.Literal.{Literal, compl}
use Rattle.sr_base.specs.Limits.{LimitValues}
use Rattle.sr_model.specs.Assignment.{holds_number}
use Rattle.sr_model.specs.Refutation.{is_empty}
use Rattle.sr_model.specs.Substitution.{Substitution, Witness, substitution}
use Rattle.sr_model.specs.Chain.{Numbered}
use Rattle.sr_model.specs.Meeting.{Group, Step}
use Rattle.sr_model.specs.Judging.{Item, stepped, dropped, numbered_from, Live, first_live, live_with}
use Rattle.sr_model.specs.Dsr.{Lemma}
use Rattle.sr_model.specs.ReadAgain.{IsNumber, IsClause, IsWitness, IsStep, IsItem, IsLemma}
use Rattle.sr_model.proofs.Soundness.{by_test}
use Rattle.sr_trimming.specs.Reordered.{SameFirst}
use Rattle.sr_trimming.specs.Citing.{groups_cite, cites, is_cited}
use Rattle.sr_trimming.specs.Placing.{numbers, deletion, last_cited, placed_from, uncited, placed}
use Rattle.sr_trimming.specs.Lean.{AreLeanGroups, needs_group, IsLeanWith}
use Rattle.sr_trimming.specs.Trimmed.{AreLean}
use Rattle.sr_trimming.specs.Loading.{Done, joined, removed, passed, Standing, at_start, after_done, after_all}
use Rattle.sr_trimming.specs.From.{Place, place_of, CitesAlive, witness_of, IsStepOf, IsLast, AreFrom}
use Rattle.sr_trimming.proofs.ProofsRewritten.{pivot_same}
use Rattle.sr_trimming.proofs.PivotFirst.{order_keeps_limits}

-- the clauses have numbers up to the limit
abbrev pub AreNumbered : ℕ → Numbered → Type 0
AreNumbered ids [] = Unit {0}
AreNumbered ids (p ∷ ps) = IsNumber ids p.0 × AreNumbered ids ps

numbered_push : (ids : ℕ) (ps : Numbered) (n : ℕ) (c : List Literal) → AreNumbered ids ps → IsNumber ids n → AreNumbered ids (ps ++ (n, c) ∷ [])
numbered_push ids [] n c a i = (i, tt)
numbered_push ids (p ∷ ps) n c a i = (a.0, numbered_push ids ps n c a.1 i)

numbered_kept : (ids : ℕ) (t : ℕ × List Literal → Bool) (ps : Numbered) → AreNumbered ids ps → AreNumbered ids (filter t ps)
numbered_kept ids t [] a = tt
numbered_kept ids t (p ∷ ps) a = by_test (t p) (λ e. rw e (a.0, numbered_kept ids t ps a.1)) (λ e. rw e (numbered_kept ids t ps a.1))

pub numbered_formula : (ids n : ℕ) (f : List (List Literal)) → 0 < n → n + length f ≤ ids + 1 → AreNumbered ids (numbered_from n f)
numbered_formula ids n [] some most = tt
numbered_formula ids n (c ∷ cs) some most = ((some, omega arith), numbered_formula ids (n + 1) cs (omega arith) (omega arith))

number_of : (ids : ℕ) (ps : Numbered) (k : ℕ) → AreNumbered ids ps → holds_number k (numbers ps) ≡ true → IsNumber ids k
number_of ids [] k a h = absurd cc
number_of ids (p ∷ ps) k a h = by_test (p.0 == k)
    (λ e. let is : p.0 ≡ k = grind (arith, nat_tests) in subst (IsNumber ids) is a.0)
    (λ e. number_of ids ps k a.1 (grind arith))

all_numbers : (ids : ℕ) (ps : Numbered) → AreNumbered ids ps → All (IsNumber ids) (numbers ps)
all_numbers ids [] a = λ i d h. absurd (omega arith)
all_numbers ids (p ∷ ps) a = All-cons (IsNumber ids) p.0 (numbers ps) a.0 (all_numbers ids ps a.1)

all_held : (ids : ℕ) (ns : List ℕ) → ((n : ℕ) → holds_number n ns ≡ true → IsNumber ids n) → All (IsNumber ids) ns
all_held ids [] f = λ i d h. absurd (omega arith)
all_held ids (n ∷ ns) f = All-cons (IsNumber ids) n ns (f n (grind (arith, nat_tests))) (all_held ids ns (λ k h. f k (grind arith)))

-- so have the clauses that are alive before and after the lines of a proof
alive_after : (ids : ℕ) (st : Standing) (l : Lemma) → AreNumbered ids st.alive → IsNumber ids st.next → AreNumbered ids (after_done st (joined l)).alive
alive_after ids st l a i = by_test (is_empty l.clause) (λ e. rw e a) (λ e. rw e (numbered_push ids st.alive st.next l.clause a i))

pub next_rises : (st : Standing) (ds : List Done) → st.next ≤ (after_all st ds).next
next_rises st [] = omega arith
next_rises st (joined l ∷ ds) = let r : st.next + 1 ≤ (after_all (after_done st (joined l)) ds).next = next_rises (after_done st (joined l)) ds in omega arith
next_rises st (removed k ∷ ds) = next_rises (after_done st (removed k)) ds
next_rises st (passed ∷ ds) = next_rises st ds

next_fits : (ids : ℕ) (st : Standing) (l : Lemma) (ds : List Done) → 0 < st.next → (after_all st (joined l ∷ ds)).next ≤ ids → IsNumber ids st.next
next_fits ids st l ds some most = let r : st.next + 1 ≤ (after_all (after_done st (joined l)) ds).next = next_rises (after_done st (joined l)) ds in (some, omega arith)

end_numbered : (ids : ℕ) (st : Standing) (ds : List Done) → 0 < st.next → AreNumbered ids st.alive → (after_all st ds).next ≤ ids → AreNumbered ids (after_all st ds).alive
end_numbered ids st [] some a most = a
end_numbered ids st (joined l ∷ ds) some a most = end_numbered ids (after_done st (joined l)) ds (omega arith) (alive_after ids st l a (next_fits ids st l ds some most)) most
end_numbered ids st (removed k ∷ ds) some a most = end_numbered ids (after_done st (removed k)) ds some (numbered_kept ids (λ p. not (holds_number p.0 (k ∷ []))) st.alive a) most
end_numbered ids st (passed ∷ ds) some a most = end_numbered ids st ds some a most

place_numbered : (ids : ℕ) (st : Standing) (ds : List Done) (n : ℕ) (p : Place) → 0 < st.next → AreNumbered ids st.alive → (after_all st ds).next ≤ ids → place_of st ds n ≡ Some p
    → AreNumbered ids p.alive × IsNumber ids n
place_numbered ids st [] n p some a most e = absurd cc
place_numbered ids st (joined l ∷ ds) n p some a most e =
    let new = next_fits ids st l ds some most in
    by_test (st.next == n)
    (λ t. let here : Some (record { alive = st.alive; stated = l }) ≡ Some p = rw t at e in
    let is : record { alive = st.alive; stated = l } ≡ p = cc in
    let same : st.next ≡ n = grind (arith, nat_tests) in
    (subst (λ (x : Place). AreNumbered ids x.alive) is a, subst (IsNumber ids) same new))
    (λ t. place_numbered ids (after_done st (joined l)) ds n p (omega arith) (alive_after ids st l a new) most (rw t at e))
place_numbered ids st (removed k ∷ ds) n p some a most e =
    place_numbered ids (after_done st (removed k)) ds n p some (numbered_kept ids (λ p. not (holds_number p.0 (k ∷ []))) st.alive a) most e
place_numbered ids st (passed ∷ ds) n p some a most e = place_numbered ids st ds n p some a most e

-- the lemmas are within the limit of variables
abbrev pub AreLemmas : ℕ → List Done → Type 0
AreLemmas vars [] = Unit {0}
AreLemmas vars (joined l ∷ ds) = IsLemma vars l × AreLemmas vars ds
AreLemmas vars (removed k ∷ ds) = AreLemmas vars ds
AreLemmas vars (passed ∷ ds) = AreLemmas vars ds

place_lemma : (vars : ℕ) (st : Standing) (ds : List Done) (n : ℕ) (p : Place) → AreLemmas vars ds → place_of st ds n ≡ Some p → IsLemma vars p.stated
place_lemma vars st [] n p a e = absurd cc
place_lemma vars st (joined l ∷ ds) n p a e = by_test (st.next == n)
    (λ t. let here : Some (record { alive = st.alive; stated = l }) ≡ Some p = rw t at e in
    let is : record { alive = st.alive; stated = l } ≡ p = cc in subst (λ (x : Place). IsLemma vars x.stated) is a.0)
    (λ t. place_lemma vars (after_done st (joined l)) ds n p a.1 (rw t at e))
place_lemma vars st (removed k ∷ ds) n p a e = place_lemma vars (after_done st (removed k)) ds n p a e
place_lemma vars st (passed ∷ ds) n p a e = place_lemma vars st ds n p a e

-- a step all of which is within the limits but for the numbers of its groups
record IsNearly (lim : LimitValues) (s : Step) : Type 0 where
  id : IsNumber lim.ids s.id
  clause : IsClause lim.vars s.clause
  witness : (w : Witness) → s.witness ≡ Some w → IsWitness lim.vars s.clause w
  prefix : All (IsNumber lim.ids) s.prefix
  hints : All (λ g. All (IsNumber lim.ids) g.1) s.groups

group_hints : (ids : ℕ) (gs : List Group) → ((n : ℕ) → groups_cite n gs ≡ true → IsNumber ids n) → All (λ g. All (IsNumber ids) g.1) gs
group_hints ids [] f = λ i d h. absurd (omega arith)
group_hints ids (g ∷ gs) f = All-cons (λ (g : Group). All (IsNumber ids) g.1) g gs (all_held ids g.1 (λ n h. f n (grind arith))) (group_hints ids gs (λ n h. f n (grind arith)))

cited_numbers : (ids : ℕ) (s : Step) (alive : Numbered) → AreNumbered ids alive → CitesAlive alive s → (n : ℕ) → cites n s ≡ true → IsNumber ids n
cited_numbers ids s alive a c n h = number_of ids alive n a (c n h)

-- the witness of a lemma, or the one that is written for it
witness_moved : (vars : ℕ) (c d : List Literal) (w : Witness) → SameFirst c d → IsWitness vars c w → IsWitness vars d w
witness_moved vars c d w f i = record { pivot = pivot_same c d w.pivot f i.pivot; assigned = i.assigned; maps = i.maps; same = i.same; once = i.once }

witness_written : (vars : ℕ) (c : List Literal) (o : Option Witness) (w : Witness) → ((v : Witness) → o ≡ Some v → IsWitness vars c v)
    → elim o [ Some v ↦ Some v | None ↦ elim c [ [] ↦ None | k ∷ ks ↦ Some (record { pivot = k; assigned = []; maps = [] }) ] ] ≡ Some w → IsWitness vars c w
witness_written vars c (Some v) w h e = h w e
witness_written vars [] None w h e = absurd cc
witness_written vars (k ∷ ks) None w h e =
    let is : record { pivot = k; assigned = []; maps = [] } ≡ w = cc in
    subst (IsWitness vars (k ∷ ks)) is (record { pivot = refl; assigned = λ i d h. absurd (omega arith); maps = λ i d h. absurd (omega arith); same = refl; once = refl })

step_nearly : (lim : LimitValues) (s : Step) (p : Place) → IsLemma lim.vars p.stated → AreNumbered lim.ids p.alive → IsNumber lim.ids s.id → IsStepOf s p → IsNearly lim s
step_nearly lim s p l a i o =
    let cited : (n : ℕ) → cites n s ≡ true → IsNumber lim.ids n = cited_numbers lim.ids s p.alive a o.cites_alive in
    record {
      id = i;
      clause = (order_keeps_limits lim.vars p.stated.clause s.clause o.clause.reordered).1 l.clause;
      witness = λ w e. at w e o.by_witness;
      prefix = all_held lim.ids s.prefix (λ n h. cited n (grind arith));
      hints = group_hints lim.ids s.groups (λ n h. cited n (grind arith));
    }
  where
    at : (w : Witness) → s.witness ≡ Some w → (s.witness ≡ None) ⊎ (s.witness ≡ witness_of p.stated) → IsWitness lim.vars s.clause w
    at w e (inl n) = let bad : None ≡ Some w = sym n ∙ e in absurd cc
    at w e (inr j) = witness_moved lim.vars p.stated.clause s.clause w o.clause.pivot (witness_written lim.vars p.stated.clause p.stated.witness w l.witness (sym j ∙ e))

last_nearly : (lim : LimitValues) (s : Step) (st : Standing) → AreNumbered lim.ids st.alive → IsNumber lim.ids st.next → IsLast s st → IsNearly lim s
last_nearly lim s st a i l =
    let cited : (n : ℕ) → cites n s ≡ true → IsNumber lim.ids n = cited_numbers lim.ids s st.alive a l.cites_alive in
    record {
      id = subst (IsNumber lim.ids) (sym l.id) i;
      clause = subst (IsClause lim.vars) (sym l.clause) (record { within = λ i d h. absurd (omega arith); distinct = tt });
      witness = λ w e. let bad : None ≡ Some w = sym l.no_witness ∙ e in absurd cc;
      prefix = all_held lim.ids s.prefix (λ n h. cited n (grind arith));
      hints = group_hints lim.ids s.groups (λ n h. cited n (grind arith));
    }

abbrev AreNearly : LimitValues → List Step → Type 0
AreNearly lim [] = Unit {0}
AreNearly lim (s ∷ ss) = IsNearly lim s × AreNearly lim ss

from_nearly : (lim : LimitValues) (f : List (List Literal)) (ds : List Done) (steps : List Step) → AreLemmas lim.vars ds → AreNumbered lim.ids (numbered_from 1 f) → (after_all (at_start f) ds).next ≤ lim.ids
    → AreFrom f ds steps → AreNearly lim steps
from_nearly lim f ds [] l a most r = absurd r
from_nearly lim f ds (s ∷ []) l a most r =
    let up : length f + 1 ≤ (after_all (at_start f) ds).next = next_rises (at_start f) ds in
    (last_nearly lim s (after_all (at_start f) ds) (end_numbered lim.ids (at_start f) ds (omega arith) a most) (omega arith, most) r, tt)
from_nearly lim f ds (s ∷ t ∷ later) l a most r =
    let p = place_numbered lim.ids (at_start f) ds s.id r.0.0 (omega arith) a most r.0.1 in
    (step_nearly lim s r.0.0 (place_lemma lim.vars (at_start f) ds s.id r.0.0 l r.0.1) p.0 p.1 r.0.2, from_nearly lim f ds (t ∷ later) l a most r.1)

-- placed among deletions
abbrev IsNearlyItem : LimitValues → Item → Type 0
IsNearlyItem lim (stepped s) = IsNearly lim s
IsNearlyItem lim (dropped id ids) = (id ≤ lim.ids) × All (IsNumber lim.ids) ids

abbrev AreNearlyItems : LimitValues → List Item → Type 0
AreNearlyItems lim [] = Unit {0}
AreNearlyItems lim (it ∷ items) = IsNearlyItem lim it × AreNearlyItems lim items

deletion_nearly : (lim : LimitValues) (id : ℕ) (ids : List ℕ) (items : List Item) → id ≤ lim.ids → All (IsNumber lim.ids) ids → AreNearlyItems lim items → AreNearlyItems lim (deletion id ids items)
deletion_nearly lim id [] items i a r = r
deletion_nearly lim id (n ∷ ns) items i a r = ((i, a), r)

placed_from_nearly : (lim : LimitValues) (known : Numbered) (steps : List Step) → AreNumbered lim.ids known → AreNearly lim steps → AreNearlyItems lim (placed_from known steps)
placed_from_nearly lim known [] a r = tt
placed_from_nearly lim known (s ∷ []) a r = (r.0, tt)
placed_from_nearly lim known (s ∷ t ∷ later) a r = (
  r.0,
  deletion_nearly lim s.id (last_cited known s (t ∷ later)) (placed_from (known ++ (s.id, s.clause) ∷ []) (t ∷ later)) r.0.id.1
      (all_numbers lim.ids (filter (λ p. cites p.0 s && not (is_cited p.0 (t ∷ later))) known) (numbered_kept lim.ids (λ p. cites p.0 s && not (is_cited p.0 (t ∷ later))) known a))
      (placed_from_nearly lim (known ++ (s.id, s.clause) ∷ []) (t ∷ later) (numbered_push lim.ids known s.id s.clause a r.0.id) r.1),
)

placed_nearly : (lim : LimitValues) (f : List (List Literal)) (steps : List Step) → length f ≤ lim.ids → AreNumbered lim.ids (numbered_from 1 f) → AreNearly lim steps → AreNearlyItems lim (placed f steps)
placed_nearly lim f steps i a r =
    deletion_nearly lim (length f) (uncited f steps) (placed_from (numbered_from 1 f) steps) i
    (all_numbers lim.ids (filter (λ p. not (is_cited p.0 steps)) (numbered_from 1 f)) (numbered_kept lim.ids (λ p. not (is_cited p.0 steps)) (numbered_from 1 f) a))
    (placed_from_nearly lim (numbered_from 1 f) steps a r)

-- the groups of a lean step are those of live clauses
lean_heads : (ids : ℕ) (live : Numbered) (b : List Literal) (w : Substitution) (ps : Numbered) (gs : List Group) → AreNumbered ids ps → AreLeanGroups live b w ps gs → All (λ g. IsNumber ids g.0) gs
lean_heads ids live b w [] [] a l = λ i d h. absurd (omega arith)
lean_heads ids live b w [] (g ∷ gs) a l = absurd l
lean_heads ids live b w (p ∷ ps) [] a l = absurd l
lean_heads ids live b w (p ∷ ps) (g ∷ gs) a l = All-cons (λ (g : Group). IsNumber ids g.0) g gs (subst (IsNumber ids) (sym l.0) a.0) (lean_heads ids live b w ps gs a.1 l.2)

step_heads : (ids : ℕ) (live : Numbered) (s : Step) (o : Option Witness) → AreNumbered ids live → IsLeanWith live s o → All (λ g. IsNumber ids g.0) s.groups
step_heads ids live s None a l = subst (λ (gs : List Group). All (λ g. IsNumber ids g.0) gs) (sym l.1) (λ i d h. absurd (omega arith))
step_heads ids live s (Some w) a l =
    lean_heads ids live (compl s.clause) (substitution w) (filter (λ p. needs_group (compl s.clause) (substitution w) p.1) live) s.groups
    (numbered_kept ids (λ p. needs_group (compl s.clause) (substitution w) p.1) live a) l.1

live_after_step : (ids : ℕ) (lv : Live) (s : Step) → AreNumbered ids lv.clauses → IsNumber ids s.id → AreNumbered ids (live_with lv (stepped s)).clauses
live_after_step ids lv s a i = by_test (is_empty s.clause) (λ e. rw e a) (λ e. rw e (numbered_push ids lv.clauses s.id s.clause a i))

all_items : (lim : LimitValues) (lv : Live) (items : List Item) → AreNumbered lim.ids lv.clauses → AreLean lv items → AreNearlyItems lim items → All (IsItem lim) items
all_items lim lv [] a l n = λ i d h. absurd (omega arith)
all_items lim lv (stepped s ∷ items) a l n =
    let heads = step_heads lim.ids lv.clauses s s.witness a l.0 in
    let whole_step : IsStep lim s = record { id = n.0.id; clause = n.0.clause; witness = n.0.witness; prefix = n.0.prefix; groups = λ i d h. (heads i d h, n.0.hints i d h) } in
    All-cons (IsItem lim) (stepped s) items whole_step (all_items lim (live_with lv (stepped s)) items (live_after_step lim.ids lv s a n.0.id) l.1 n.1)
all_items lim lv (dropped id ids ∷ items) a l n =
    All-cons (IsItem lim) (dropped id ids) items n.0
    (all_items lim (live_with lv (dropped id ids)) items (numbered_kept lim.ids (λ p. not (holds_number p.0 ids)) lv.clauses a) l.1 n.1)

-- so each item may be written
pub placed_within : (lim : LimitValues) (f : List (List Literal)) (ds : List Done) (steps : List Step) → AreLemmas lim.vars ds → (after_all (at_start f) ds).next ≤ lim.ids
    → AreFrom f ds steps → AreLean (first_live f) (placed f steps) → All (IsItem lim) (placed f steps)
placed_within lim f ds steps l most r lean =
    let up : length f + 1 ≤ (after_all (at_start f) ds).next = next_rises (at_start f) ds in
    let a = numbered_formula lim.ids 1 f (omega arith) (omega arith) in
    all_items lim (first_live f) (placed f steps) a lean (placed_nearly lim f steps (omega arith) a (from_nearly lim f ds steps l a most r))
