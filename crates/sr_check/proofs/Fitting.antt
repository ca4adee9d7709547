-- Lemmas on groups that fit: each is the first for its clause, which is live and needs it.
use Rattle.std.proofs.Common.{◌≡◌, ◌≢◌, ℕ, suc, zero, ◌+◌, ◌<◌, ◌≤◌, ◌==◌, true, false, ◌||◌, List, [], ◌∷◌, length, get_or, take, drop, refl, sym, ◌∙◌, ap, subst, arith}
use Rattle.std.specs.Prelude.{is_some, Some, None}
use Rattle.std.proofs.lemmas.List.{drop_more, drop_all}
use Rattle.std.proofs.lemmas.Bool.Decides.{nat_tests}
use Rattle.sr_base.specs.Literal.{Literal}
use Rattle.sr_base.specs.declared.names.Cause.TheVariants.{GroupSpare, GroupTwice}
use Rattle.sr_model.specs.Assignment.{holds_number}
use Rattle.sr_model.specs.Substitution.{Substitution, reduction}
use Rattle.sr_model.specs.Chain.{Numbered, clause_of}
use Rattle.sr_model.specs.Meeting.{Group, Meeting, unmet, needs_hints, groups_fit}
use Rattle.sr_occurs.specs.Occurring.{IsLive}
use Rattle.sr_check.specs.Indexing.{numbers, place_from}
use Rattle.sr_table.proofs.Paging.{by_test}
use Rattle.sr_table.proofs.Numbering.{holds_push}
use Rattle.sr_check.proofs.Grouping.{numbers_more}

-- the place of a group that is the first, and of one that isn't
pub place_first : (k : ℕ) (gs : List Group) (i : ℕ) (g : Group) → i < length gs → g ≡ get_or gs i g → holds_number g.0 (numbers (take i gs)) ≡ false → place_from k gs g.0 ≡ k + i
place_first k [] i g h e out = absurd (omega arith)
place_first k (f ∷ gs) zero g h e out = let t : (f.0 == g.0) ≡ true = let s : g.0 ≡ f.0 = ap (λ (x : Group). x.0) e in grind (arith, nat_tests) in rw t (omega arith)
place_first k (f ∷ gs) (suc i) g h e out = by_test (f.0 == g.0)
    (λ t. let c : true ≡ false = rw t at out in absurd cc)
    (λ n. rw n (place_first (k + 1) gs i g (omega arith) e (rw n at out) ∙ omega arith))

pub place_before : (k : ℕ) (gs : List Group) (i n : ℕ) → holds_number n (numbers (take i gs)) ≡ true → place_from k gs n < k + i
place_before k gs zero n h = absurd cc
place_before k [] (suc i) n h = absurd cc
place_before k (g ∷ gs) (suc i) n h = by_test (g.0 == n)
    (λ t. rw t (omega arith))
    (λ f. rw f (omega (arith, place_before (k + 1) gs i n (rw f at h))))

-- the groups so far fit
pub record FitSoFar (live : Numbered) (b : List Literal) (w : Substitution) (gs : List Group) (i : ℕ) : Type 0 where
  pub before : List ℕ
  pub rest : groups_fit live b w [] gs ≡ groups_fit live b w before (drop i gs)
  pub same : (n : ℕ) → holds_number n before ≡ holds_number n (numbers (take i gs))
  pub were : (n : ℕ) → holds_number n before ≡ true → IsLive live n

pub fit_none : (live : Numbered) (b : List Literal) (w : Substitution) (gs : List Group) → FitSoFar live b w gs 0
fit_none live b w gs = record { before = []; rest = refl; same = λ n. refl; were = λ n h. absurd cc }

pub fit_split : (live : Numbered) (b : List Literal) (w : Substitution) (gs : List Group) (i : ℕ) (g : Group) (f : FitSoFar live b w gs i) → i < length gs → g ≡ get_or gs i g → groups_fit live b w [] gs ≡ groups_fit live b w f.before (g ∷ drop (i + 1) gs)
fit_split live b w gs i g f h e = f.rest ∙ ap (groups_fit live b w f.before) (drop_more gs i g h ∙ ap (λ x. x ∷ drop (i + 1) gs) (sym e))

pub fit_dead : (live : Numbered) (b : List Literal) (w : Substitution) (gs : List Group) (i : ℕ) (g : Group) → FitSoFar live b w gs i → i < length gs → g ≡ get_or gs i g → clause_of live g.0 ≡ None → groups_fit live b w [] gs ≡ unmet (GroupSpare g.0)
fit_dead live b w gs i g f h e none =
    let out : holds_number g.0 f.before ≡ false = by_test (holds_number g.0 f.before) (λ t. let s : is_some {T = List Literal} None ≡ true = ap is_some (sym none) ∙ f.were g.0 t in absurd cc) (λ n. n) in
    fit_split live b w gs i g f h e ∙ rw (out, none) refl

pub fit_twice : (live : Numbered) (b : List Literal) (w : Substitution) (gs : List Group) (i : ℕ) (g : Group) → FitSoFar live b w gs i → i < length gs → g ≡ get_or gs i g → place_from 1 gs g.0 ≢ i + 1 → groups_fit live b w [] gs ≡ unmet (GroupTwice g.0)
fit_twice live b w gs i g f h e other =
    let held : holds_number g.0 (numbers (take i gs)) ≡ true = by_test (holds_number g.0 (numbers (take i gs))) (λ t. t) (λ n. absurd (other (place_first 1 gs i g h e n ∙ omega arith))) in
    fit_split live b w gs i g f h e ∙ rw (f.same g.0 ∙ held) refl

-- a group that is the first
pub fit_free : (live : Numbered) (b : List Literal) (w : Substitution) (gs : List Group) (i : ℕ) (g : Group) (f : FitSoFar live b w gs i) → place_from 1 gs g.0 ≡ i + 1 → holds_number g.0 f.before ≡ false
fit_free live b w gs i g f p = by_test (holds_number g.0 f.before) (λ t. absurd (omega (arith, place_before 1 gs i g.0 (sym (f.same g.0) ∙ t)))) (λ n. n)

pub fit_unneeded : (live : Numbered) (b : List Literal) (w : Substitution) (gs : List Group) (i : ℕ) (g : Group) (c : List Literal) → FitSoFar live b w gs i → i < length gs → g ≡ get_or gs i g → place_from 1 gs g.0 ≡ i + 1
    → clause_of live g.0 ≡ Some c → needs_hints b (reduction w c) ≡ false → groups_fit live b w [] gs ≡ unmet (GroupSpare g.0)
fit_unneeded live b w gs i g c f h e p some no_need = fit_split live b w gs i g f h e ∙ rw (fit_free live b w gs i g f p, some, no_need) refl

pub fit_more : (live : Numbered) (b : List Literal) (w : Substitution) (gs : List Group) (i : ℕ) (g : Group) (c : List Literal) → FitSoFar live b w gs i → i < length gs → g ≡ get_or gs i g → place_from 1 gs g.0 ≡ i + 1
    → clause_of live g.0 ≡ Some c → needs_hints b (reduction w c) ≡ true → FitSoFar live b w gs (i + 1)
fit_more live b w gs i g c f h e p some need = record {
  before = g.0 ∷ f.before;
  rest = fit_split live b w gs i g f h e ∙ rw (fit_free live b w gs i g f p, some, need) refl;
  same = λ n. let split : holds_number n (numbers (take (i + 1) gs)) ≡ (holds_number n (numbers (take i gs)) || (g.0 == n)) = ap (holds_number n) (numbers_more gs i g h e) ∙ holds_push n g.0 (numbers (take i gs)) in
      let old : holds_number n f.before ≡ holds_number n (numbers (take i gs)) = f.same n in grind (arith, split, old);
  were = λ n. at n (f.were n);
}
  where
    at : (n : ℕ) → (holds_number n f.before ≡ true → IsLive live n) → ((g.0 == n) || holds_number n f.before) ≡ true → IsLive live n
    at n old t = by_test (g.0 == n)
        (λ here. let is : g.0 ≡ n = grind (arith, nat_tests) in subst (IsLive live) is (ap is_some some))
        (λ other. old (rw other at t))

pub fit_all : (live : Numbered) (b : List Literal) (w : Substitution) (gs : List Group) (i : ℕ) → FitSoFar live b w gs i → length gs ≤ i → (m : Meeting) → ((before : List ℕ) → groups_fit live b w before [] ≡ m) → groups_fit live b w [] gs ≡ m
fit_all live b w gs i f h m done = f.rest ∙ ap (groups_fit live b w f.before) (drop_all i gs h) ∙ done f.before
