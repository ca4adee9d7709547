-- The numbers of linked lean steps are at most that of the last one.
use Rattle.std.proofs.Common.{◌≡◌, ℕ, suc, zero, ◌+◌, ◌<◌, ◌≤◌, ◌==◌, Bool, true, not, ◌&&◌, ◌||◌, List, [], ◌∷◌, sym, ◌∙◌, ap, subst, arith, length, get_or}
use Rattle.std.specs.Prelude.{filter, map, All, Option, Some, None}
use Rattle.std.proofs.lemmas.Bool.Decides.{nat_tests}
use Rattle.std.proofs.lemmas.Grind.{get_or_default_zero}
use Rattle.sr_base.specs.Literal.{Literal, compl}
use Rattle.sr_model.specs.Assignment.{holds_number}
use Rattle.sr_model.specs.Substitution.{Substitution, Witness, substitution}
use Rattle.sr_model.specs.Chain.{Numbered}
use Rattle.sr_model.specs.Meeting.{Group, Step}
use Rattle.sr_model.specs.Judging.{numbered_from}
use Rattle.sr_trimming.specs.Citing.{cites, groups_cite, is_cited, need}
use Rattle.sr_trimming.specs.Placing.{numbers, last_cited, uncited}
use Rattle.sr_trimming.specs.Loading.{Done}
use Rattle.sr_trimming.specs.Backward.{AreLinked}
use Rattle.sr_trimming.specs.Lean.{needs_group, AreLeanGroups, IsLeanWith}
use Rattle.sr_trimming.specs.Trimmed.{LeanByNeed}
use Rattle.sr_trimming.proofs.Placed.{in_numbers, known_after}
use Rattle.sr_table.proofs.Paging.{by_test}
use Rattle.sr_lsr.specs.Written.{IsSmall}
use Rattle.sr_steps.specs.Kept.{Kept, step_of}
use Rattle.sr_placing.specs.Parts.{IsSmallKept}
use Rattle.sr_placing.specs.Placing.{drops_from}
use Rattle.sr_placing.proofs.Using.{holds_at}
use Rattle.sr_placing.proofs.Knowing.{need_below, step_cites_lean}
use Rattle.sr_placing.proofs.Ranging.{up_from, numbered_up}
use Rattle.sr_placing.proofs.Placings.{id_is, hints_are, last_id, linked_end}

pub all_small : (xs : List ℕ) → ((n : ℕ) → holds_number n xs ≡ true → IsSmall n) → All IsSmall xs
all_small xs low i d h = subst IsSmall (sym (get_or_default_zero xs i d h)) (low (get_or xs i 0) (holds_at xs i h))

-- the numbers of lean groups
in_kept : (t : ℕ × List Literal → Bool) (n : ℕ) (ps : Numbered) → holds_number n (numbers (filter t ps)) ≡ true → holds_number n (numbers ps) ≡ true
in_kept t n [] h = absurd cc
in_kept t n (p ∷ ps) h = by_test (t p)
    (λ e. let own : ((p.0 == n) || holds_number n (numbers (filter t ps))) ≡ true = rw e at h in by_test (p.0 == n) (λ f. grind arith) (λ f. grind (arith, in_kept t n ps (grind arith))))
    (λ e. let rest : holds_number n (numbers (filter t ps)) ≡ true = rw e at h in grind (arith, in_kept t n ps rest))

group_of_lean : (live : Numbered) (b : List Literal) (w : Substitution) (ps : Numbered) (gs : List Group) (j : ℕ) (d : Group) → AreLeanGroups live b w ps gs → j < length gs → holds_number (get_or gs j d).0 (numbers ps) ≡ true
group_of_lean live b w [] [] j d g h = absurd (omega arith)
group_of_lean live b w [] (k ∷ gs) j d g h = absurd g
group_of_lean live b w (p ∷ ps) [] j d g h = absurd g
group_of_lean live b w (p ∷ ps) (k ∷ gs) zero d g h = let is = g.0 in grind (arith, nat_tests)
group_of_lean live b w (p ∷ ps) (k ∷ gs) (suc j) d g h = grind (arith, group_of_lean live b w ps gs j d g.2 (omega arith))

step_group_lean : (live : Numbered) (s : Step) (o : Option Witness) (j : ℕ) (d : Group) → IsLeanWith live s o → j < length s.groups → holds_number (get_or s.groups j d).0 (numbers live) ≡ true
step_group_lean live s None j d l h = let none : length s.groups ≡ 0 = ap length l.1 in absurd (omega arith)
step_group_lean live s (Some w) j d l h =
    in_kept (λ p. needs_group (compl s.clause) (substitution w) p.1) (get_or s.groups j d).0 live
    (group_of_lean live (compl s.clause) (substitution w) (filter (λ p. needs_group (compl s.clause) (substitution w) p.1) live) s.groups j d l.1 h)

-- a step whose number is small
one_small : (all : Numbered) (s : Step) (later : List Step) (k : Kept) → s.id ≡ k.id → s.prefix ≡ k.prefix → s.groups ≡ k.groups → IsLeanWith (need all s later) s s.witness → IsSmall k.id → IsSmallKept k
one_small all s later k is p g lean small = record {
  small_id = small;
  small_prefix = all_small k.prefix (λ n h. low n (let in_prefix : holds_number n s.prefix ≡ true = ap (holds_number n) p ∙ h in grind arith));
  small_groups = λ j d h. (id_small j d (subst (λ (x : List Group). j < length x) (sym g) h), all_small (get_or k.groups j d).1 (λ n i. low n (let in_groups : groups_cite n s.groups ≡ true = ap (groups_cite n) g ∙ in_group j d n h i in grind arith)));
}
  where
    low : (n : ℕ) → cites n s ≡ true → IsSmall n
    low n h = omega (arith, need_below all s later n (step_cites_lean (need all s later) s s.witness lean n h))

    in_group : (j : ℕ) (d : Group) (n : ℕ) → j < length k.groups → holds_number n (get_or k.groups j d).1 ≡ true → groups_cite n k.groups ≡ true
    in_group j d n h i = at k.groups j h i
      where
        at : (gs : List Group) (j : ℕ) → j < length gs → holds_number n (get_or gs j d).1 ≡ true → groups_cite n gs ≡ true
        at [] j h i = absurd (omega arith)
        at (x ∷ xs) zero h i = grind arith
        at (x ∷ xs) (suc j) h i = grind (arith, at xs j (omega arith) i)

    id_small : (j : ℕ) (d : Group) → j < length s.groups → IsSmall (get_or k.groups j d).0
    id_small j d h =
        let there = step_group_lean (need all s later) s s.witness j d lean h in
        let under : (get_or s.groups j d).0 < s.id = need_below all s later (get_or s.groups j d).0 there in
        subst (λ (x : List Group). IsSmall (get_or x j d).0) g (omega (arith, under))

pub kept_small : (f : List (List Literal)) (ds : List Done) (all : Numbered) (last : ℕ) (ks : List Kept) (i : ℕ) (d : Kept) → AreLinked last (map (step_of f ds) ks) → LeanByNeed all (map (step_of f ds) ks)
    → IsSmall (last_id last ks) → i < length ks → IsSmallKept (get_or ks i d)
kept_small f ds all last [] i d l lean small h = absurd l
kept_small f ds all last (k ∷ ks) zero d l lean small h =
    let fields = hints_are f ds k in
    let end : k.id ≤ last_id last (k ∷ ks) = first_end ks l in
    one_small all (step_of f ds k) (map (step_of f ds) ks) k (id_is f ds k) fields.0 fields.1 lean.0 (omega arith)
  where
    first_end : (js : List Kept) → AreLinked last (map (step_of f ds) (k ∷ js)) → k.id ≤ last_id last (k ∷ js)
    first_end [] l = omega arith
    first_end (j ∷ js) l = let is = id_is f ds k in let e = linked_end f ds (step_of f ds k).id (j ∷ js) l.3 in omega arith
kept_small f ds all last (k ∷ []) (suc i) d l lean small h = absurd (omega arith)
kept_small f ds all last (k ∷ j ∷ ks) (suc i) d l lean small h = kept_small f ds all (step_of f ds k).id (j ∷ ks) i d l.3 lean.1 small (omega arith)

-- what is deleted is small too
pub uncited_small : (f : List (List Literal)) (ss : List Step) → IsSmall (length f) → All IsSmall (uncited f ss)
uncited_small f ss small = all_small (uncited f ss)
    (λ n h. let both : (not (is_cited n ss) && holds_number n (numbers (numbered_from 1 f))) ≡ true = sym (in_numbers (λ m. not (is_cited m ss)) n (numbered_from 1 f)) ∙ h in
    let up : holds_number n (up_from 1 (length f)) ≡ true = ap (holds_number n) (sym (numbered_up 1 f)) ∙ grind arith in
    omega (arith, under 1 (length f) n up))
  where
    under : (m c n : ℕ) → holds_number n (up_from m c) ≡ true → n < m + c
    under m zero n h = absurd cc
    under m (suc c) n h = by_test (m == n) (λ e. let is : m ≡ n = grind (arith, nat_tests) in omega arith) (λ e. omega (arith, under (m + 1) c n (grind arith)))

pub drops_small : (f : List (List Literal)) (ds : List Done) (all known : Numbered) (last : ℕ) (ks : List Kept) (i : ℕ) → AreLinked last (map (step_of f ds) ks) → LeanByNeed all (map (step_of f ds) ks)
    → IsSmall (last_id last ks) → All IsSmall (get_or (drops_from known (map (step_of f ds) ks)) i [])
drops_small f ds all known last [] i l lean small = absurd l
drops_small f ds all known last (k ∷ ks) zero l lean small = all_small (last_cited known (step_of f ds k) (map (step_of f ds) ks))
    (λ n h. let both : ((cites n (step_of f ds k) && not (is_cited n (map (step_of f ds) ks))) && holds_number n (numbers known)) ≡ true =
    sym (in_numbers (λ m. cites m (step_of f ds k) && not (is_cited m (map (step_of f ds) ks))) n known) ∙ h in
    let under = need_below all (step_of f ds k) (map (step_of f ds) ks) n (step_cites_lean (need all (step_of f ds k) (map (step_of f ds) ks)) (step_of f ds k) (step_of f ds k).witness lean.0 n (grind arith)) in
    omega (arith, under, first_end ks l))
  where
    first_end : (js : List Kept) → AreLinked last (map (step_of f ds) (k ∷ js)) → (step_of f ds k).id ≤ last_id last (k ∷ js)
    first_end [] l = let is = id_is f ds k in omega arith
    first_end (j ∷ js) l = let is = id_is f ds k in let e = linked_end f ds (step_of f ds k).id (j ∷ js) l.3 in omega arith
drops_small f ds all known last (k ∷ []) (suc i) l lean small = λ j d h. absurd (omega arith)
drops_small f ds all known last (k ∷ j ∷ ks) (suc i) l lean small = drops_small f ds all (known_after known (step_of f ds k)) (step_of f ds k).id (j ∷ ks) i l.3 lean.1 small
