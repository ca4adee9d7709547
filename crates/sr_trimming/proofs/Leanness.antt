-- Lean steps are met, strictly too, and also among placed deletions.
use Rattle.std.proofs.Common.{◌≡◌, ℕ, ◌<◌, ◌≤◌, Bool, true, false, not, ◌&&◌, List, [], ◌∷◌, ◌++◌, Option, Some, None, cond, refl, sym, ◌∙◌, ap, subst, arith, length}
use Rattle.std.specs.Prelude.{filter, nat_le}
use Rattle.std.proofs.lemmas.Bool.Decides.{nat_tests}
use Rattle.sr_base.specs.Literal.{Literal, complement, compl, has}
use Rattle.sr_base.proofs.Literals.{has_append}
use Rattle.sr_model.specs.declared.verdict.Verdict.TheVariants.{Verified}
use Rattle.sr_model.specs.Assignment.{holds_number}
use Rattle.sr_model.specs.Refutation.{is_empty}
use Rattle.sr_model.specs.Substitution.{Substitution, Witness, has_pair, Reduction, untouched, satisfied, left, reduction, substitution, substitution_for, IsPivot}
use Rattle.sr_model.specs.Chain.{Numbered, clause_of, HintEnd, closes, adds, misleads, hint, closed, unclosed, faulty, closes_before, chain}
use Rattle.sr_model.specs.Meeting.{Group, Step, Meeting, met, unmet, both, group_of, group_end, left_meets, all_left_meet, needs_hints, clause_needs_hints, groups_fit, witness_meets, no_groups, prefix_meets, meets_over, HasPivot}
use Rattle.sr_model.specs.Judging.{Item, stepped, numbered_from, without, first_live, live_with, HavePivots, judge}
use Rattle.sr_trimming.specs.Citing.{is_cited, cited_of, below, need, numbered_steps, all_of, AreRising}
use Rattle.sr_trimming.specs.Placing.{deletion, last_cited, placed_from, uncited, placed}
use Rattle.sr_trimming.specs.Backward.{AreLinked, StepsHavePivots, MeetNeed}
use Rattle.sr_trimming.specs.Lean.{no_more, stands_in, is_lean, left_set, group_start, needs_group, AreLeanGroups, IsLeanWith, IsLean}
use Rattle.sr_trimming.specs.Trimmed.{AreLean, LeanByNeed, IsTrimmed}
use Rattle.sr_model.proofs.Soundness.{by_test}
use Rattle.sr_model.proofs.Chains.{pair_tells, pair_from}
use Rattle.sr_trimming.proofs.Placed.{next_need, first_need, without_none, known_after, MeetKnown, RiseTo, rise_formula, rise_push, rise_kept, rise_again, rise_all, need_known, append_one, live_of, known_forward}

-- a lean chain closes at its last hint, so strictly too
with_pair : (strict : Bool) (live : Numbered) (a : List Literal) → has_pair a ≡ true → chain strict live a [] ≡ closed
with_pair strict live a h = rw (h, chain) refl

after_hint : (strict : Bool) (live : Numbered) (a : List Literal) (hs : List ℕ) (r : HintEnd)
    → elim r [ closes ↦ no_more hs | adds l ↦ not (has l a) && stands_in live (complement l) hs && is_lean live (a ++ l ∷ []) hs | misleads x ↦ false ] ≡ true
    → ((l : Literal) → is_lean live (a ++ l ∷ []) hs ≡ true → chain strict live (a ++ l ∷ []) hs ≡ closed)
    → elim r [ closes ↦ closes_before strict hs | adds l ↦ chain strict live (a ++ l ∷ []) hs | misleads x ↦ faulty x ] ≡ closed
after_hint strict live a [] closes g rest = refl
after_hint strict live a (h ∷ hs) closes g rest = absurd cc
after_hint strict live a hs (adds l) g rest = rest l (grind arith)
after_hint strict live a hs (misleads x) g rest = absurd cc

pub lean_closes : (strict : Bool) (live : Numbered) (a : List Literal) (hints : List ℕ) → is_lean live a hints ≡ true → chain strict live a hints ≡ closed
lean_closes strict live a [] h = with_pair strict live a h
lean_closes strict live a (k ∷ ks) h = by_test (has_pair a)
    (λ e. let bad : false ≡ true = rw (e, is_lean) at h in absurd cc)
    (λ e. rw (e, chain) (after_hint strict live a ks (hint live a k) (rw (e, is_lean) at h) (λ l. lean_closes strict live (a ++ l ∷ []) ks)))

-- a clause that needs no group
pair_more : (b x : List Literal) → has_pair b ≡ true → has_pair (b ++ x) ≡ true
pair_more b x h = let p = pair_tells b h in pair_from (b ++ x) (p.0, grind (arith, has_append p.0 b x, p.1), grind (arith, has_append (complement p.0) b x, p.2))

no_need : (b : List Literal) (r : Reduction) → has_pair b ≡ true → needs_hints b r ≡ false
no_need b untouched h = refl
no_need b satisfied h = refl
no_need b (left d) h = ap not (pair_more b (compl d) h)

none_need : (b : List Literal) (w : Substitution) (ps : Numbered) → has_pair b ≡ true → filter (λ p. needs_group b w p.1) ps ≡ []
none_need b w [] h = refl
none_need b w (p ∷ ps) h = rw (no_need b (reduction w p.1) h) (none_need b w ps h)

-- the rising clauses from a number on, each under the hints of no group or of its own
pub group_absent : (n : ℕ) (live : Numbered) (b : List Literal) (w : Substitution) (ps : Numbered) (gs : List Group) → AreRising n ps → AreLeanGroups live b w ps gs → (m : ℕ) → m ≤ n → group_of gs m ≡ []
group_absent n live b w [] [] r g m h = refl
group_absent n live b w [] (k ∷ gs) r g m h = absurd g
group_absent n live b w (p ∷ ps) [] r g m h = absurd g
group_absent n live b w (p ∷ ps) (k ∷ gs) r g m h =
    let number : k.0 ≡ p.0 = g.0 in
    let rest : group_of gs m ≡ [] = group_absent p.0 live b w ps gs r.1 g.2 m (omega (arith, r.0)) in
    let up : n < p.0 = r.0 in
    grind (arith, nat_tests)

spare_met : (strict : Bool) (live : Numbered) (b : List Literal) (gs : List Group) (n : ℕ) (r : Reduction) → group_of gs n ≡ [] → needs_hints b r ≡ false → left_meets strict live b gs n r ≡ met
spare_met strict live b gs n untouched e h = refl
spare_met strict live b gs n satisfied e h = refl
spare_met strict live b gs n (left d) e h = ap (group_end n) (ap (chain strict live (b ++ compl d)) e ∙ with_pair strict live (b ++ compl d) (grind arith))

needed_met : (strict : Bool) (live : Numbered) (b : List Literal) (gs : List Group) (n : ℕ) (r : Reduction) → is_lean live (left_set b r) (group_of gs n) ≡ true → left_meets strict live b gs n r ≡ met
needed_met strict live b gs n untouched h = refl
needed_met strict live b gs n satisfied h = refl
needed_met strict live b gs n (left d) h = ap (group_end n) (lean_closes strict live (b ++ compl d) (group_of gs n) h)

go_on : (m rest : Meeting) → m ≡ met → rest ≡ met → both m rest ≡ met
go_on met rest e r = r
go_on (unmet x) rest e r = absurd cc

with_group : (strict : Bool) (live : Numbered) (b : List Literal) (w : Substitution) (all : List Group) (n : ℕ) (p : ℕ × List Literal) (ps : Numbered) (gs : List Group) → n < p.0
    → AreLeanGroups live b w (p ∷ filter (λ p. needs_group b w p.1) ps) gs → ((m : ℕ) → n < m → group_of all m ≡ group_of gs m)
    → ((ks : List Group) → AreLeanGroups live b w (filter (λ p. needs_group b w p.1) ps) ks → ((m : ℕ) → p.0 < m → group_of all m ≡ group_of ks m) → all_left_meet strict live b w all ps ≡ met)
    → all_left_meet strict live b w all (p ∷ ps) ≡ met
with_group strict live b w all n p ps [] r g s rest = absurd g
with_group strict live b w all n p ps (k ∷ ks) r g s rest =
    let number : k.0 ≡ p.0 = g.0 in
    let here : group_of (k ∷ ks) p.0 ≡ k.1 = grind (arith, nat_tests) in
    let first : group_of all p.0 ≡ k.1 = s p.0 r ∙ here in
    let later : (m : ℕ) → p.0 < m → group_of all m ≡ group_of ks m = λ m h. s m (omega arith) ∙ past k ks m (omega arith) in
    go_on (left_meets strict live b all p.0 (reduction w p.1)) (all_left_meet strict live b w all ps)
    (needed_met strict live b all p.0 (reduction w p.1) (ap (is_lean live (group_start b w p.1)) first ∙ g.1))
    (rest ks g.2 later)
  where
    past : (k : Group) (ks : List Group) (m : ℕ) → k.0 < m → group_of (k ∷ ks) m ≡ group_of ks m
    past k ks m h = grind (arith, nat_tests)

-- exact groups with lean chains meet all clauses
groups_met : (strict : Bool) (live : Numbered) (b : List Literal) (w : Substitution) (all gs : List Group) (n : ℕ) (ps : Numbered) → AreRising n ps
    → AreLeanGroups live b w (filter (λ p. needs_group b w p.1) ps) gs → ((m : ℕ) → n < m → group_of all m ≡ group_of gs m) → all_left_meet strict live b w all ps ≡ met
groups_met strict live b w all gs n [] r g s = refl
groups_met strict live b w all gs n (p ∷ ps) r g s = by_test (needs_group b w p.1)
    (λ e. with_group strict live b w all n p ps gs r.0 (rw e at g) s (λ ks. groups_met strict live b w all ks p.0 ps r.1))
    (λ e. let rest : AreLeanGroups live b w (filter (λ p. needs_group b w p.1) ps) gs = rw e at g in
    let absent : group_of all p.0 ≡ [] = s p.0 r.0 ∙ group_absent p.0 live b w (filter (λ p. needs_group b w p.1) ps) gs (rise_again (λ p. needs_group b w p.1) p.0 ps r.1) rest p.0 (omega arith) in
    go_on (left_meets strict live b all p.0 (reduction w p.1)) (all_left_meet strict live b w all ps)
    (spare_met strict live b all p.0 (reduction w p.1) absent e)
    (groups_met strict live b w all gs p.0 ps r.1 rest (λ m h. s m (omega (arith, r.0)))))

-- each of these is the live clause of its number, and needs a group
abbrev AllFound : Numbered → List Literal → Substitution → Numbered → Type 0
AllFound live b w [] = Unit {0}
AllFound live b w (p ∷ ps) = (clause_of live p.0 ≡ Some p.1) × (needs_group b w p.1 ≡ true) × AllFound live b w ps

all_found : (live : Numbered) (b : List Literal) (w : Substitution) (n : ℕ) (ps : Numbered) → AreRising n ps → ((m : ℕ) → n < m → clause_of live m ≡ clause_of ps m)
    → AllFound live b w (filter (λ p. needs_group b w p.1) ps)
all_found live b w n [] r s = tt
all_found live b w n (p ∷ ps) r s =
    let here : clause_of (p ∷ ps) p.0 ≡ Some p.1 = grind (arith, nat_tests) in
    let rest = all_found live b w p.0 ps r.1 (λ m h. s m (omega (arith, r.0)) ∙ past p ps m h) in
    by_test (needs_group b w p.1) (λ e. rw e (s p.0 r.0 ∙ here, e, rest)) (λ e. rw e rest)
  where
    past : (p : ℕ × List Literal) (ps : Numbered) (m : ℕ) → p.0 < m → clause_of (p ∷ ps) m ≡ clause_of ps m
    past p ps m h = grind (arith, nat_tests)

-- so no group is spare
fits : (live : Numbered) (b : List Literal) (w : Substitution) (n : ℕ) (before : List ℕ) (ps : Numbered) (gs : List Group) → AreRising n ps → ((m : ℕ) → n < m → holds_number m before ≡ false)
    → AllFound live b w ps → AreLeanGroups live b w ps gs → groups_fit live b w before gs ≡ met
fits live b w n before [] [] r o f g = refl
fits live b w n before [] (k ∷ gs) r o f g = absurd g
fits live b w n before (p ∷ ps) [] r o f g = absurd g
fits live b w n before (p ∷ ps) (k ∷ gs) r o f g =
    let rest : groups_fit live b w (k.0 ∷ before) gs ≡ met =
    fits live b w p.0 (k.0 ∷ before) ps gs r.1 (λ m h. let old : holds_number m before ≡ false = o m (omega (arith, r.0)) in let number : k.0 ≡ p.0 = g.0 in grind (arith, nat_tests)) f.2 g.2 in
    let new : holds_number k.0 before ≡ false = ap (λ x. holds_number x before) g.0 ∙ o p.0 r.0 in
    let needs : clause_needs_hints b w (clause_of live k.0) ≡ true = ap (λ x. clause_needs_hints b w (clause_of live x)) g.0 ∙ ap (clause_needs_hints b w) f.0 ∙ f.1 in
    rw (new, needs) rest

no_groups_met : (strict : Bool) (gs : List Group) → gs ≡ [] → no_groups strict gs ≡ met
no_groups_met strict gs e = ap (no_groups strict) e

not_empty : (w : Witness) (c : List Literal) → IsPivot w.pivot c → is_empty c ≡ false
not_empty w [] m = absurd m
not_empty w (l ∷ ls) m = refl

no_lean_groups : (live : Numbered) (b : List Literal) (w : Substitution) (ps : Numbered) (gs : List Group) → ps ≡ [] → AreLeanGroups live b w ps gs → gs ≡ []
no_lean_groups live b w [] [] e g = refl
no_lean_groups live b w [] (k ∷ gs) e g = absurd g
no_lean_groups live b w (p ∷ ps) gs e g = absurd cc

pub lean_met : (strict : Bool) (live : Numbered) (s : Step) → AreRising 0 live → HasPivot s → IsLean live s → meets_over strict live s ≡ met
lean_met strict live s r good lean = at s.witness refl lean
  where
    ends : Bool → (w : Witness) → Meeting
    ends b w = witness_meets b live (compl s.clause) (substitution w) s.groups

    fit : (b : Bool) (w : Witness) → AreLeanGroups live (compl s.clause) (substitution w) (filter (λ p. needs_group (compl s.clause) (substitution w) p.1) live) s.groups → ends b w ≡ met
    fit b w l = go_on (cond b (groups_fit live (compl s.clause) (substitution w) [] s.groups) met) (all_left_meet b live (compl s.clause) (substitution w) s.groups live)
        (fit_if b) (groups_met b live (compl s.clause) (substitution w) s.groups s.groups 0 live r l (λ m h. refl))
      where
        fit_if : (b : Bool) → cond b (groups_fit live (compl s.clause) (substitution w) [] s.groups) met ≡ met
        fit_if true = fits live (compl s.clause) (substitution w) 0 [] (filter (λ p. needs_group (compl s.clause) (substitution w) p.1) live) s.groups
            (rise_again (λ p. needs_group (compl s.clause) (substitution w) p.1) 0 live r) (λ m h. refl) (all_found live (compl s.clause) (substitution w) 0 live r (λ m h. refl)) l
        fit_if false = refl

    at : (o : Option Witness) → s.witness ≡ o → IsLeanWith live s o → meets_over strict live s ≡ met
    at None e l = ap (prefix_meets strict live s) (lean_closes strict live (compl s.clause) s.prefix l.0) ∙ no_groups_met strict s.groups l.1
    at (Some w) e l = by_test (has_pair (compl s.clause))
        (λ y. let ends : chain strict live (compl s.clause) s.prefix ≡ closed = ap (chain strict live (compl s.clause)) l.0 ∙ with_pair strict live (compl s.clause) y in
        ap (prefix_meets strict live s) ends ∙ no_groups_met strict s.groups
        (no_lean_groups live (compl s.clause) (substitution w) (filter (λ p. needs_group (compl s.clause) (substitution w) p.1) live) s.groups (none_need (compl s.clause) (substitution w) live y) l.1))
        (λ y.
        let ends : chain strict live (compl s.clause) s.prefix ≡ unclosed (compl s.clause) = ap (chain strict live (compl s.clause)) l.0 ∙ rw (y, chain) refl in
        let full : is_empty s.clause ≡ false = not_empty w s.clause (good w e) in
        let is : substitution_for s.clause s.witness ≡ substitution w = ap (substitution_for s.clause) e in
        ap (prefix_meets strict live s) ends ∙ rw (full, prefix_meets) (rw is (fit strict w l.1)))

pub lean_needs : (strict : Bool) (all : Numbered) (steps : List Step) (last : ℕ) → RiseTo 0 all last → StepsHavePivots steps → LeanByNeed all steps → MeetNeed strict all steps
lean_needs strict all [] last r g m = tt
lean_needs strict all (s ∷ later) last r g m = (lean_met strict (need all s later) s (rise_twice all last s (s ∷ later) r) g.0 m.0, lean_needs strict all later last r g.1 m.1)
  where
    rise_twice : (all : Numbered) (last : ℕ) (s : Step) (steps : List Step) → RiseTo 0 all last → AreRising 0 (cited_of (below s.id all) steps)
    rise_twice all last s steps r = rise_again (λ p. is_cited p.0 steps) 0 (below s.id all) (rise_kept (λ p. not (nat_le s.id p.0)) 0 all last r)

pub lean_forward : (strict : Bool) (f : List (List Literal)) (steps : List Step) → AreLinked (length f) steps → StepsHavePivots steps → LeanByNeed (all_of f steps) steps → MeetNeed strict (all_of f steps) steps
lean_forward strict f steps l g m = let r = rise_all (numbered_from 1 f) (length f) steps (rise_formula f) l in lean_needs strict (all_of f steps) steps r.0 r.1 g m

-- each step is lean over those of the clauses known before it that it or a later one cites
abbrev pub LeanKnown : Numbered → List Step → Type 0
LeanKnown known [] = Unit {0}
LeanKnown known (s ∷ later) = IsLean (cited_of known (s ∷ later)) s × LeanKnown (known_after known s) later

lean_known : (known : Numbered) (last : ℕ) (steps : List Step) → RiseTo 0 known last → AreLinked last steps → LeanByNeed (known ++ numbered_steps steps) steps → LeanKnown known steps
lean_known known last [] r l m = tt
lean_known known last (s ∷ []) r l m = (subst (λ x. IsLean x s) (need_known known last s [] r l) m.0, tt)
lean_known known last (s ∷ t ∷ later) r l m = (
  subst (λ x. IsLean x s) (need_known known last s (t ∷ later) r l) m.0,
  lean_known (known_after known s) s.id (t ∷ later) (rise_push 0 known last s.id s.clause r l.0) l.3 (subst (λ x. LeanByNeed x (t ∷ later)) (sym (append_one known (numbered_steps (t ∷ later)) (s.id, s.clause))) m.1),
)

lean_deletion : (live : Numbered) (last id : ℕ) (ids : List ℕ) (items : List Item) → AreLean (live_of (without ids live) last) items → AreLean (live_of live last) (deletion id ids items)
lean_deletion live last id [] items m = subst (λ x. AreLean (live_of x last) items) (without_none live) m
lean_deletion live last id (n ∷ ns) items m = (tt, m)

pub placed_lean : (known : Numbered) (last : ℕ) (steps : List Step) → AreLinked last steps → LeanKnown known steps → AreLean (live_of (cited_of known steps) last) (placed_from known steps)
placed_lean known last [] l m = tt
placed_lean known last (s ∷ []) l m = (m.0, tt)
placed_lean known last (s ∷ t ∷ later) l m = (
  m.0,
  rw (l.1, live_with) (lean_deletion (cited_of known (s ∷ t ∷ later) ++ (s.id, s.clause) ∷ []) s.id s.id (last_cited known s (t ∷ later)) (placed_from (known_after known s) (t ∷ later))
      (rw (next_need known s (t ∷ later) l.2) (placed_lean (known_after known s) s.id (t ∷ later) l.3 m.1))),
)

pub lean_trimmed : (f : List (List Literal)) (steps : List Step) → AreLinked (length f) steps → LeanByNeed (all_of f steps) steps → IsTrimmed f (placed f steps)
lean_trimmed f steps l m = record {
  steps = steps;
  are_placed = refl;
  linked = l;
  lean = lean_deletion (numbered_from 1 f) (length f) (length f) (uncited f steps) (placed_from (numbered_from 1 f) steps) (rw (first_need f steps) (placed_lean (numbered_from 1 f) (length f) steps l (lean_known (numbered_from 1 f) (length f) steps (rise_formula f) l m)));
}

-- and the other way about: a trimmed proof is verified
undeleted : (live : Numbered) (last id : ℕ) (ids : List ℕ) (items : List Item) → AreLean (live_of live last) (deletion id ids items) → AreLean (live_of (without ids live) last) items
undeleted live last id [] items m = subst (λ x. AreLean (live_of x last) items) (sym (without_none live)) m
undeleted live last id (n ∷ ns) items m = m.1

deletion_pivots : (id : ℕ) (ids : List ℕ) (items : List Item) → HavePivots (deletion id ids items) → HavePivots items
deletion_pivots id [] items h = h
deletion_pivots id (n ∷ ns) items h = h.1

pub meet_placed : (strict : Bool) (known : Numbered) (last : ℕ) (steps : List Step) → RiseTo 0 known last → AreLinked last steps → HavePivots (placed_from known steps)
    → AreLean (live_of (cited_of known steps) last) (placed_from known steps) → MeetKnown strict known steps
meet_placed strict known last [] r l h m = tt
meet_placed strict known last (s ∷ []) r l h m = (lean_met strict (cited_of known (s ∷ [])) s (rise_kept (λ p. is_cited p.0 (s ∷ [])) 0 known last r) h.0 m.0, tt)
meet_placed strict known last (s ∷ t ∷ later) r l h m = (
  lean_met strict (cited_of known (s ∷ t ∷ later)) s (rise_kept (λ p. is_cited p.0 (s ∷ t ∷ later)) 0 known last r) h.0 m.0,
  meet_placed strict (known_after known s) s.id (t ∷ later) (rise_push 0 known last s.id s.clause r l.0) l.3
      (deletion_pivots s.id (last_cited known s (t ∷ later)) (placed_from (known_after known s) (t ∷ later)) h.1)
      (subst (λ x. AreLean (live_of x s.id) (placed_from (known_after known s) (t ∷ later))) (next_need known s (t ∷ later) l.2)
      (undeleted (cited_of known (s ∷ t ∷ later) ++ (s.id, s.clause) ∷ []) s.id s.id (last_cited known s (t ∷ later)) (placed_from (known_after known s) (t ∷ later)) (rest m.1))),
)
  where
    rest : AreLean (live_with (live_of (cited_of known (s ∷ t ∷ later)) last) (stepped s)) (deletion s.id (last_cited known s (t ∷ later)) (placed_from (known_after known s) (t ∷ later)))
        → AreLean (live_of (cited_of known (s ∷ t ∷ later) ++ (s.id, s.clause) ∷ []) s.id) (deletion s.id (last_cited known s (t ∷ later)) (placed_from (known_after known s) (t ∷ later)))
    rest m = rw (l.1, live_with) at m

pub trimmed_verified : (strict : Bool) (f : List (List Literal)) (items : List Item) → HavePivots items → IsTrimmed f items → judge strict f items ≡ Verified
trimmed_verified strict f items h t =
    let steps : List Step = t.steps in
    let hp : HavePivots (placed_from (numbered_from 1 f) steps) = deletion_pivots (length f) (uncited f steps) (placed_from (numbered_from 1 f) steps) (subst (λ x. HavePivots x) t.are_placed h) in
    let ml : AreLean (live_of (cited_of (numbered_from 1 f) steps) (length f)) (placed_from (numbered_from 1 f) steps) =
    subst (λ x. AreLean (live_of x (length f)) (placed_from (numbered_from 1 f) steps)) (first_need f steps)
    (undeleted (numbered_from 1 f) (length f) (length f) (uncited f steps) (placed_from (numbered_from 1 f) steps) (subst (λ x. AreLean (first_live f) x) t.are_placed t.lean)) in
    ap (judge strict f) t.are_placed ∙ (known_forward strict f steps t.linked (meet_placed strict (numbered_from 1 f) (length f) steps (rise_formula f) t.linked hp ml)).1
