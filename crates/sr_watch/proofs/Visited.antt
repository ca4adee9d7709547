-- A visit as a whole, for each thing that is seen.
use Rattle.std.proofs.Common.{◌≡◌, ◌≢◌, ◌<◌, ◌≤◌, ◌+◌, ◌*◌, ℕ, Bool, true, false, cond, List, [], ◌∷◌, ◌++◌, sym, ◌∙◌, ap, subst, arith, length, get_or}
use Rattle.std.specs.List.{swap}
use Rattle.sr_base.specs.Literal.{Literal, plus, minus, variable, complement, has, literal_code}
use Rattle.sr_base.proofs.Literals.{same_tells, has_append}
use Rattle.sr_arena.specs.Cells.{Cell, Memory, cell_at, put, held_cells, IsHeld}
use Rattle.sr_model.specs.Refutation.{Includes}
use Rattle.sr_lists.specs.declared.blocks.Watch.{Watch}
use Rattle.sr_lists.specs.Family.{Family, AreSame, IsPushed}
use Rattle.sr_watch.specs.State.{IsForcedBy, IsOpen, IsSound}
use Rattle.sr_watch.specs.Marks.{joined}
use Rattle.sr_watch.specs.Trail.{Entries, with_entry}
use Rattle.sr_watch.specs.Watching.{SomeTrue, is_on, on_side, clause_on, key_of, listed, left_of, AreStocked}
use Rattle.sr_watch.specs.Walking.{IsTrueIn, IsFree, IsNext, IsWalking, KeepsGuards, IsStep}
use Rattle.sr_watch.proofs.Shorts.{no_news, news_push, news_here}
use Rattle.sr_watch.proofs.Swapping.{Swaps}
use Rattle.sr_watch.proofs.Walks.{Takes, kept_on, moved_on, moved_keeps, walking_more}
use Rattle.sr_watch.proofs.Listing.{listed_pushed, takes_first}
use Rattle.sr_watch.proofs.Visits.{clause_here, stocked_pushed, stocked_turned, not_stray, on_turned, swap_turned, swap_here, swap_other, sound_turned, once_swapped, turned_start, grown_start, next_on, grown_push, sound_push, includes_push, swaps_at}

pub record Visited (core : Bool) (m n : Memory) (f g : Family) (e h : Entries) (l : Literal) (at : ℕ) : Type 0 where
  pub step : IsStep core m n e h
  pub sound : IsSound (joined h n)
  pub keeps : KeepsGuards e.lits (clause_on core m) (clause_on core n)
  pub stocked : (w : Watch) → w.at ≡ at → AreStocked core m f (w ∷ f.ahead) → AreStocked core n g g.ahead
  pub walks : (w : Watch) (before after : List Literal) → w.at ≡ at → IsNext before after l → Includes after e.lits
      → IsWalking (on_side core m) (clause_on core m) (listed f) (left_of (w ∷ f.ahead)) e.lits before after l → IsWalking (on_side core n) (clause_on core n) (listed g) (left_of g.ahead) h.lits before after l

code_low : (l : Literal) → literal_code l ≤ 2 * variable l + 1
code_low (plus v) = omega arith
code_low (minus v) = omega arith

pub key_within : (l : Literal) (vars n : ℕ) → variable l ≤ vars → 2 * vars + 4 ≤ n → key_of l < n
key_within l vars n h k = omega (arith, code_low l)

takes_at : (w : Watch) (ws rest : List Watch) (at : ℕ) → w.at ≡ at → AreSame rest ws → Takes (left_of (w ∷ ws)) (left_of rest) at
takes_at w ws rest at e s = subst (Takes (left_of (w ∷ ws)) (left_of rest)) e (takes_first w ws rest s)

-- a clause with a true literal
pub visited_true : (core : Bool) (m : Memory) (f g : Family) (e : Entries) (l b : Literal) (at : ℕ) → IsSound (joined e m) → on_side core m at ≡ true → key_of l < length f.lists → IsPushed f g (key_of l) (record { blocker = b; at = at })
    → IsTrueIn e.lits (cell_at m at).lits b → Visited core m m f g e e l at
visited_true core m f g e l b at x on lt p t = record {
  step = record { turned = turned_start core m; grown = grown_start m e x; reasons = no_news core m e };
  sound = x;
  keeps = λ s u i y. y;
  stocked = λ w is y. stocked_pushed core m f g (key_of l) (record { blocker = b; at = at }) w f.ahead g.ahead lt p.ahead p (sym is) (not_stray m (record { blocker = b; at = at }) t.of_clause) y;
  walks = λ w before after is nx inc y. kept_on (on_side core m) (clause_on core m) (listed f) (listed g) (left_of (w ∷ f.ahead)) (left_of g.ahead) e.lits before after l at
      (listed_pushed f g l (record { blocker = b; at = at }) p) (takes_at w f.ahead g.ahead at is p.ahead)
      (subst (SomeTrue e.lits) (sym (clause_here core m at on)) (record { literal = b; of_clause = t.of_clause; is_true = t.is_true })) y;
}

-- a clause that forces a literal
pub visited_forced : (core : Bool) (m : Memory) (f g : Family) (e : Entries) (l b : Literal) (at : ℕ) → IsSound (joined e m) → on_side core m at ≡ true → 0 < at → key_of l < length f.lists → IsPushed f g (key_of l) (record { blocker = b; at = at })
    → IsForcedBy (cell_at m at).lits e.lits b → IsOpen b e.lits → Visited core m m f g e (with_entry e b at) l at
visited_forced core m f g e l b at x on some lt p fo o =
    let nx = next_on core m e at b on some fo o in
    record {
      step = record { turned = turned_start core m; grown = grown_push m e b at x nx; reasons = news_here core m at e (with_entry e b at) on (news_push at e b) };
      sound = sound_push m e b at x nx;
      keeps = λ s u i y. y;
      stocked = λ w is y. stocked_pushed core m f g (key_of l) (record { blocker = b; at = at }) w f.ahead g.ahead lt p.ahead p (sym is) (not_stray m (record { blocker = b; at = at }) fo.of_clause) y;
      walks = λ w before after is nt inc y. kept_on (on_side core m) (clause_on core m) (listed f) (listed g) (left_of (w ∷ f.ahead)) (left_of g.ahead) (e.lits ++ b ∷ []) before after l at
          (listed_pushed f g l (record { blocker = b; at = at }) p) (takes_at w f.ahead g.ahead at is p.ahead)
          (subst (SomeTrue (e.lits ++ b ∷ [])) (sym (clause_here core m at on)) (record { literal = b; of_clause = fo.of_clause; is_true = grind (arith, has_append b e.lits (b ∷ []), same_tells b b) }))
          (walking_more (on_side core m) (clause_on core m) (listed f) (left_of (w ∷ f.ahead)) e.lits (e.lits ++ b ∷ []) before after l (includes_push e.lits b) y);
    }

-- a clause with a literal that isn't false behind its watches
pub visited_free : (core : Bool) (m n : Memory) (f g : Family) (e : Entries) (l k other : Literal) (at side place : ℕ) → IsSound (joined e m) → IsHeld m at → on_side core m at ≡ true → key_of k < length f.lists
    → n ≡ put m at (record (cell_at m at) { lits = swap (cell_at m at).lits side place }) → held_cells n ≡ held_cells m → get_or (cell_at m at).lits place (plus 0) ≡ k → IsPushed f g (key_of k) (record { blocker = other; at = at })
    → IsFree e.lits (cell_at m at).lits l side place other → Visited core m n f g e e l at
visited_free core m n f g e l k other at side place x held on lt is cells ek p fr =
    let sw : Swaps (cell_at m at).lits (swap (cell_at m at).lits side place) l k = subst (Swaps (cell_at m at).lits (swap (cell_at m at).lits side place) l) ek (swaps_at core m e e.lits l other at side place x fr) in
    let t = swap_turned core m n at side place held on is cells sw.set in
    let on_same : (r : ℕ) → on_side core n r ≡ on_side core m r = (λ r. on_turned core (cell_at m r) (cell_at n r) (t.each r)) in
    let here : clause_on core n at ≡ swap (cell_at m at).lits side place = clause_here core n at (on_same at ∙ on) ∙ swap_here m n at side place held is in
    let there : clause_on core m at ≡ (cell_at m at).lits = clause_here core m at on in
    let others : (r : ℕ) → r ≢ at → clause_on core n r ≡ clause_on core m r = (λ r ne. ap (λ (c : Cell). cond (is_on core c) c.lits []) (swap_other m n at side place r ne is)) in
    let moved = subst (λ d. Swaps (clause_on core m at) d l k) (sym here) (subst (λ d. Swaps d (swap (cell_at m at).lits side place) l k) (sym there) sw) in
    let free : has (complement k) e.lits ≡ false = subst (λ j. has (complement j) e.lits ≡ false) ek fr.not_false in
    record {
      step = record { turned = t; grown = grown_start m e x; reasons = no_news core n e };
      sound = sound_turned m n e t.each (once_swapped m n e at side place x held is sw.distinct) x;
      keeps = moved_keeps (clause_on core m) (clause_on core n) e.lits l k at moved.moved moved.set others free;
      stocked = λ w at_is y. stocked_turned core core m n g g.ahead t.each
          (stocked_pushed core m f g (key_of k) (record { blocker = other; at = at }) w f.ahead g.ahead lt p.ahead p (sym at_is) (not_stray m (record { blocker = other; at = at }) fr.other_of) y);
      walks = λ w before after at_is nt inc y. moved_on (on_side core m) (on_side core n) (clause_on core m) (clause_on core n) (listed f) (listed g) (left_of (w ∷ f.ahead)) (left_of g.ahead) e.lits before after l k at
          nt inc (listed_pushed f g k (record { blocker = other; at = at }) p) (takes_at w f.ahead g.ahead at at_is p.ahead) moved.moved moved.set on_same on others free y;
    }
