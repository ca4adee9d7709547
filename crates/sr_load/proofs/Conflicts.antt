-- What a propagator finds, and what that says of numbered clauses.
use Rattle.std.proofs.Common.{◌≡◌, ◌<◌, ◌≤◌, ◌+◌, ◌⊎◌, inl, inr, ℕ, suc, zero, Bool, true, false, cond, not, ◌==◌, ◌&&◌, ◌||◌, List, [], ◌∷◌, ◌++◌, Some, None, map, refl, sym, ◌∙◌, ap, subst, arith, length, get_or}
use Rattle.sr_base.specs.Literal.{Literal, complement, same, has, SameSet, NoRepeats}
use Rattle.sr_base.proofs.Literals.{same_tells}
use Rattle.sr_model.specs.Refutation.{IsClosedFor, IsClosed, Includes, is_empty, has_empty, Refutes}
use Rattle.sr_model.specs.Substitution.{has_pair}
use Rattle.sr_model.specs.Chain.{Numbered, clauses, clause_of, open_literals, hint_of_open, hint_of_clause, hint, closes, adds, misleads}
use Rattle.sr_model.proofs.Soundness.{by_test}
use Rattle.sr_watch.specs.declared.parts.Part.{Part}
use Rattle.sr_watch.specs.declared.parts.Part.TheVariants.{Core, All}
use Rattle.sr_watch.specs.declared.parts.Found.{Found}
use Rattle.sr_watch.specs.declared.parts.Found.TheVariants.{Still, Conflict, Pair}
use Rattle.sr_watch.specs.Parts.{counts}
use Rattle.sr_watch.specs.State.{Slot, State, slot_in, slot_at, lits_at, reason_at, IsAttached, clauses_in, clauses_of, assumed, IsSound}
use Rattle.sr_watch.specs.Meaning.{Means, IsAsked}
use Rattle.sr_watch.specs.Lean as watch
use Rattle.sr_watch.specs.Running.{asked_clause}
use Rattle.sr_trimming.specs.Reordered.{IsReordered}
use Rattle.sr_trimming.specs.Lean as trimming
use Rattle.sr_trimming.proofs.Reordered.{same_append, pair_same, hint_same}
use Rattle.std.specs.Prelude.{filter}
use Rattle.sr_model.specs.Assignment.{holds_number}
use Rattle.sr_model.specs.Judging.{numbered_from}
use Rattle.sr_trimming.specs.Loading.{Done, joined, removed, passed, Standing, at_start, after_done, after_all}
use Rattle.sr_load.proofs.Numbering.{by_eq, is_self, is_not, none_below, none_above, found_last}
use Rattle.sr_load.specs.Finding.{number_at, AreAllAttached, AreAttachedOrNone, IsNumbered, IsOneOf, AreAlike}

-- one of attached clauses
pub some_attached : (s : State) (hs : List ℕ) (i h : ℕ) → AreAttachedOrNone s hs → i < length hs → h ≡ get_or hs i h → 0 < h → IsAttached s h
some_attached s [] i h a lt e low = absurd (omega arith)
some_attached s (k ∷ hs) zero h a lt e low = subst (IsAttached s) (sym e) (a.0 (subst (λ x. 0 < x) e low))
some_attached s (k ∷ hs) (suc i) h a lt e low = some_attached s hs i h a.1 (omega arith) e low

pub attached_push : (s : State) (hs : List ℕ) (h : ℕ) → AreAllAttached s hs → IsAttached s h → AreAllAttached s (hs ++ h ∷ [])
attached_push s [] h a b = (b, tt)
attached_push s (k ∷ hs) h a b = (a.0, attached_push s hs h a.1 b)

-- a conflict or a pair has a chain
pub asked_of : (p : Part) (s : State) (f : Found) → Means p s f → (f ≡ Still → ⊥) → IsAsked s f
asked_of p s Still m n = absurd (n refl)
asked_of p s (Conflict at) m n = (m.attached, m.all_false)
asked_of p s (Pair l) m n = (m.is_true, m.is_false)

pub still_of : (p : Part) (s : State) (f : Found) → Means p s f → f ≡ Still → ¬ Refutes (clauses_of s p) (assumed s)
still_of p s Still m e = m.consistent
still_of p s (Conflict at) m e = absurd cc
still_of p s (Pair l) m e = absurd cc

chain_attached : (s : State) (at : ℕ) (hs : List ℕ) → IsSound s → (0 < at → IsAttached s at) → watch.AreReasonsOr s at hs → AreAttachedOrNone s hs
chain_attached s at [] sound a r = tt
chain_attached s at (h ∷ hs) sound a r = (go r.0, chain_attached s at hs sound a r.1)
  where
    go : (h ≡ at) ⊎ ((i : ℕ) × (i < length s.lits) × (reason_at s i ≡ h)) → 0 < h → IsAttached s h
    go (inl e) low = subst (IsAttached s) (sym e) (a (subst (λ x. 0 < x) e low))
    go (inr w) low = subst (IsAttached s) w.2 (sound.attached w.0 w.1 (λ z. omega (arith, w.2)))

asked_attached : (s : State) (f : Found) → IsAsked s f → 0 < asked_clause f → IsAttached s (asked_clause f)
asked_attached s Still a low = absurd a
asked_attached s (Conflict at) a low = a.0
asked_attached s (Pair l) a low = absurd (omega arith)

pub asked_chain : (s : State) (f : Found) (hs : List ℕ) → IsSound s → IsAsked s f → watch.AreReasonsOr s (asked_clause f) hs → AreAttachedOrNone s hs
asked_chain s f hs sound a r = chain_attached s (asked_clause f) hs sound (asked_attached s f a) r

-- lists that differ in their order
open_same : (m : ℕ) (a b c d : List Literal) → SameSet a b → IsReordered c d → hint_of_open m (open_literals a c) ≡ hint_of_open m (open_literals b d)
open_same m a b c d s r =
    let e : hint ((m, c) ∷ []) a m ≡ hint ((m, d) ∷ []) b m = hint_same ((m, c) ∷ []) ((m, d) ∷ []) a b m (refl, r, tt) s in
    rw (is_self m m refl) at e

-- each clause of a chain is one of numbered clauses
abbrev pub AreOneOf : State → Numbered → List ℕ → Type 0
AreOneOf s live [] = Unit {0}
AreOneOf s live (h ∷ hs) = IsOneOf live (slot_at s h) × NoRepeats (lits_at s h) × AreOneOf s live hs

stands_same : (s : State) (live : Numbered) (l : Literal) (hs : List ℕ) → AreOneOf s live hs → watch.stands_in s l hs ≡ trimming.stands_in live l (map (number_at s) hs)
stands_same s live l [] o = refl
stands_same s live l (h ∷ hs) o =
    let rest : watch.stands_in s l hs ≡ trimming.stands_in live l (map (number_at s) hs) = stands_same s live l hs o.2 in
    rw (o.0.found, rest) (ap (λ b. b || trimming.stands_in live l (map (number_at s) hs)) (o.0.set l))

both : (a b c : Bool) → (not a && b && c) ≡ true → (a ≡ false) × (b ≡ true) × (c ≡ true)
both false true true h = (refl, refl, refl)
both true b c h = absurd cc
both false false c h = absurd cc
both false true false h = absurd cc

open_lean : (s : State) (live : Numbered) (a b xs : List Literal) (h m : ℕ) (hs : List ℕ) → SameSet a b → AreOneOf s live hs
    → ((l : Literal) → watch.is_lean s (a ++ l ∷ []) hs ≡ true → trimming.is_lean live (b ++ l ∷ []) (map (number_at s) hs) ≡ true)
    → elim (hint_of_open h xs) [ closes ↦ watch.no_more hs | adds l ↦ not (has l a) && watch.stands_in s (complement l) hs && watch.is_lean s (a ++ l ∷ []) hs | misleads x ↦ false ] ≡ true
    → elim (hint_of_open m xs) [
      | closes ↦ trimming.no_more (map (number_at s) hs)
      | adds l ↦ not (has l b) && trimming.stands_in live (complement l) (map (number_at s) hs) && trimming.is_lean live (b ++ l ∷ []) (map (number_at s) hs)
      | misleads x ↦ false
    ] ≡ true
open_lean s live a b [] h m [] same o ih e = refl
open_lean s live a b [] h m (k ∷ hs) same o ih e = absurd cc
open_lean s live a b (l ∷ []) h m hs same o ih e =
    let r = both (has l a) (watch.stands_in s (complement l) hs) (watch.is_lean s (a ++ l ∷ []) hs) e in
    let one : has l b ≡ false = sym (same l) ∙ r.0 in
    let two : trimming.stands_in live (complement l) (map (number_at s) hs) ≡ true = sym (stands_same s live (complement l) hs o) ∙ r.1 in
    let three : trimming.is_lean live (b ++ l ∷ []) (map (number_at s) hs) ≡ true = ih l r.2 in
    rw (one, two, three) refl
open_lean s live a b (l ∷ k ∷ xs) h m hs same o ih e = absurd cc

first_of : (a b : Bool) → (not a && b) ≡ true → (a ≡ false) × (b ≡ true)
first_of false true h = (refl, refl)
first_of true b h = absurd cc
first_of false false h = absurd cc

-- a lean chain of references is a lean chain of numbers
pub lean_numbers : (s : State) (live : Numbered) (a b : List Literal) (hs : List ℕ) → AreOneOf s live hs → SameSet a b → watch.is_lean s a hs ≡ true → trimming.is_lean live b (map (number_at s) hs) ≡ true
lean_numbers s live a b [] o same e = sym (pair_same a b same) ∙ e
lean_numbers s live a b (h ∷ hs) o same e =
    let r = first_of (has_pair a) (elim (hint_of_open h (open_literals a (lits_at s h))) [
      | closes ↦ watch.no_more hs
      | adds l ↦ not (has l a) && watch.stands_in s (complement l) hs && watch.is_lean s (a ++ l ∷ []) hs
      | misleads x ↦ false
    ]) e in
    let pair : has_pair b ≡ false = sym (pair_same a b same) ∙ r.0 in
    let here : hint live b (number_at s h) ≡ hint_of_open (number_at s h) (open_literals a (lits_at s h)) =
    ap (hint_of_clause b (number_at s h)) o.0.found ∙ sym (open_same (number_at s h) a b (lits_at s h) o.0.clause same (record { same_literals = o.0.set; none_twice = o.1; none_twice_in_other = o.0.distinct })) in
    rw (pair, here) (open_lean s live a b (open_literals a (lits_at s h)) h (number_at s h) hs same o.2 (λ l q. lean_numbers s live (a ++ l ∷ []) (b ++ l ∷ []) hs o.2 (same_append a b (l ∷ []) (l ∷ []) same (λ k. refl)) q) r.1)

pub are_one_of : (s : State) (live : Numbered) (hs : List ℕ) → IsSound s → AreAlike All s.slots live → AreAllAttached s hs → AreOneOf s live hs
are_one_of s live [] sound alike a = tt
are_one_of s live (h ∷ hs) sound alike a = (alike.one h a.0, sound.distinct h, are_one_of s live hs sound alike a.1)

pub numbered_lean : (s : State) (live : Numbered) (given : List Literal) (ns : List ℕ) → IsSound s → AreAlike All s.slots live → SameSet (assumed s) given → IsNumbered s ns → trimming.is_lean live given ns ≡ true
numbered_lean s live given ns sound alike same n = ap (trimming.is_lean live given) n.numbers ∙ lean_numbers s live (assumed s) given n.refs (are_one_of s live n.refs sound alike n.attached) same n.lean

-- clauses of a part, as sets
pub closed_all : (p : Part) (ss : List Slot) (b : List Literal) → ((r : ℕ) → counts p (slot_in ss r).part ≡ true → IsClosedFor b (slot_in ss r).lits) → IsClosed b (clauses_in p ss)
closed_all p [] b f = tt
closed_all p (c ∷ ss) b f =
    let rest : IsClosed b (clauses_in p ss) = closed_all p ss b (λ r. f (suc r)) in
    by_test (counts p c.part) (λ t. rw t (f 0 t, rest)) (λ t. rw t rest)

pub closed_one : (p : Part) (ss : List Slot) (r : ℕ) (b : List Literal) → IsClosed b (clauses_in p ss) → counts p (slot_in ss r).part ≡ true → IsClosedFor b (slot_in ss r).lits
closed_one p [] r b cl h = absurd (no_part p h)
  where
    no_part : (p : Part) → counts p None ≡ true → ⊥
    no_part Core e = cc
    no_part All e = cc
closed_one p (c ∷ ss) zero b cl h = (rw h at cl).0
closed_one p (c ∷ ss) (suc r) b cl h = by_test (counts p c.part) (λ t. closed_one p ss r b (rw t at cl).1 h) (λ t. closed_one p ss r b (rw t at cl) h)

none_empty : (p : Part) (ss : List Slot) → ((r : ℕ) → counts p (slot_in ss r).part ≡ true → is_empty (slot_in ss r).lits ≡ false) → has_empty (clauses_in p ss) ≡ false
none_empty p [] f = refl
none_empty p (c ∷ ss) f =
    let rest : has_empty (clauses_in p ss) ≡ false = none_empty p ss (λ r. f (suc r)) in
    by_test (counts p c.part) (λ t. let e : is_empty c.lits ≡ false = f 0 t in rw (t, e) rest) (λ t. rw t rest)

one_empty : (p : Part) (ss : List Slot) (r : ℕ) → counts p (slot_in ss r).part ≡ true → is_empty (slot_in ss r).lits ≡ true → has_empty (clauses_in p ss) ≡ true
one_empty p [] r h e = absurd (no_part p h)
  where
    no_part : (p : Part) → counts p None ≡ true → ⊥
    no_part Core e = cc
    no_part All e = cc
one_empty p (c ∷ ss) zero h e = rw (h, e) refl
one_empty p (c ∷ ss) (suc r) h e =
    let rest : has_empty (clauses_in p ss) ≡ true = one_empty p ss r h e in
    by_test (counts p c.part) (λ t. rw t (by_test (is_empty c.lits) (λ u. rw u refl) (λ u. rw u rest))) (λ t. rw t rest)

-- numbered clauses, each found by its number
abbrev pub AreApart : Numbered → Type 0
AreApart [] = Unit {0}
AreApart (p ∷ ps) = (clause_of ps p.0 ≡ None) × AreApart ps

tail_found : (p : ℕ × List Literal) (ps : Numbered) (n : ℕ) (c : List Literal) → clause_of ps p.0 ≡ None → clause_of ps n ≡ Some c → clause_of (p ∷ ps) n ≡ Some c
tail_found p ps n c none e = by_eq p.0 n
    (λ t. let bad : None ≡ Some c = sym none ∙ ap (clause_of ps) t ∙ e in absurd cc)
    (λ t. rw (is_not p.0 n t) e)

head_found : (p : ℕ × List Literal) (ps : Numbered) → clause_of (p ∷ ps) p.0 ≡ Some p.1
head_found p ps = rw (is_self p.0 p.0 refl) refl

pub closed_live : (live : Numbered) (b : List Literal) → AreApart live → ((n : ℕ) (c : List Literal) → clause_of live n ≡ Some c → IsClosedFor b c) → IsClosed b (clauses live)
closed_live [] b a f = tt
closed_live (p ∷ ps) b a f = (f p.0 p.1 (head_found p ps), closed_live ps b a.1 (λ n c e. f n c (tail_found p ps n c a.0 e)))

pub closed_in : (live : Numbered) (b : List Literal) (n : ℕ) (c : List Literal) → IsClosed b (clauses live) → clause_of live n ≡ Some c → IsClosedFor b c
closed_in [] b n c cl e = absurd cc
closed_in (p ∷ ps) b n c cl e = by_test (p.0 == n)
    (λ t. let here : Some p.1 ≡ Some c = rw t at e in let is : p.1 ≡ c = cc in subst (IsClosedFor b) is cl.0)
    (λ t. closed_in ps b n c cl.1 (rw t at e))

none_empty_live : (live : Numbered) → AreApart live → ((n : ℕ) (c : List Literal) → clause_of live n ≡ Some c → is_empty c ≡ false) → has_empty (clauses live) ≡ false
none_empty_live [] a f = refl
none_empty_live (p ∷ ps) a f = rw (f p.0 p.1 (head_found p ps), none_empty_live ps a.1 (λ n c e. f n c (tail_found p ps n c a.0 e))) refl

one_empty_live : (live : Numbered) (n : ℕ) (c : List Literal) → clause_of live n ≡ Some c → is_empty c ≡ true → has_empty (clauses live) ≡ true
one_empty_live [] n c e h = absurd cc
one_empty_live (p ∷ ps) n c e h = by_test (p.0 == n)
    (λ t. let here : Some p.1 ≡ Some c = rw t at e in let is : p.1 ≡ c = cc in rw (ap is_empty is ∙ h) refl)
    (λ t. rw (one_empty_live ps n c (rw t at e) h) (at (is_empty p.1)))
  where
    at : (b : Bool) → (b || true) ≡ true
    at true = refl
    at false = refl

pub closed_same : (b c d : List Literal) → SameSet c d → IsClosedFor b c → IsClosedFor b d
closed_same b c d s f l h others = f l (s l ∙ h) (λ k m ne. others k (sym (s k) ∙ m) ne)

empty_same : (c d : List Literal) → SameSet c d → is_empty c ≡ is_empty d
empty_same [] [] s = refl
empty_same [] (l ∷ d) s = let bad : false ≡ has l (l ∷ d) = s l in absurd (grind (arith, same_tells l l))
empty_same (l ∷ c) [] s = let bad : has l (l ∷ c) ≡ false = s l in absurd (grind (arith, same_tells l l))
empty_same (l ∷ c) (k ∷ d) s = refl

includes_more : (a b c : List Literal) → Includes a b → Includes b c → Includes a c
includes_more a b c f g l h = g l (f l h)

-- what numbered clauses refute, those of a part do
pub refutes_up : (p : Part) (ss : List Slot) (live : Numbered) (a b : List Literal) → AreApart live → AreAlike p ss live → Includes a b → Refutes (clauses live) a → Refutes (clauses_in p ss) b
refutes_up p ss live a b apart alike inc (inl e) = inl (by_test (has_empty (clauses_in p ss))
    (λ t. t)
    (λ t. let none : has_empty (clauses live) ≡ false = none_empty_live live apart (λ n c h. let w = alike.all n c h in by_test (is_empty c)
    (λ y. let there : has_empty (clauses_in p ss) ≡ true = one_empty p ss w.at w.of_part (empty_same (slot_in ss w.at).lits c w.set ∙ y) in absurd cc)
    (λ y. y)) in absurd cc))
refutes_up p ss live a b apart alike inc (inr f) = inr (λ d includes cl. f d (includes_more a b d inc includes)
    (closed_live live d apart (λ n c h. let w = alike.all n c h in closed_same d (slot_in ss w.at).lits c w.set (closed_one p ss w.at d cl w.of_part))))

-- and the other way round
pub refutes_down : (p : Part) (ss : List Slot) (live : Numbered) (a b : List Literal) → AreAlike p ss live → Includes a b → Refutes (clauses_in p ss) a → Refutes (clauses live) b
refutes_down p ss live a b alike inc (inl e) = inl (by_test (has_empty (clauses live))
    (λ t. t)
    (λ t. let none : has_empty (clauses_in p ss) ≡ false = none_empty p ss (λ r h. let w = alike.one r h in by_test (is_empty (slot_in ss r).lits)
    (λ y. let there : has_empty (clauses live) ≡ true = one_empty_live live (slot_in ss r).number w.clause w.found (sym (empty_same (slot_in ss r).lits w.clause w.set) ∙ y) in absurd cc)
    (λ y. y)) in absurd cc))
refutes_down p ss live a b alike inc (inr f) = inr (λ d includes cl. f d (includes_more a b d inc includes)
    (closed_all p ss d (λ r h. let w = alike.one r h in closed_same d w.clause (slot_in ss r).lits (λ l. sym (w.set l)) (closed_in live d (slot_in ss r).number w.clause cl w.found))))

-- numbers that come once
apart_numbered : (k : ℕ) (cs : List (List Literal)) → AreApart (numbered_from k cs)
apart_numbered k [] = tt
apart_numbered k (c ∷ cs) = (none_below (k + 1) cs k (omega arith), apart_numbered (k + 1) cs)

apart_push : (ps : Numbered) (n : ℕ) (c : List Literal) → AreApart ps → clause_of ps n ≡ None → AreApart (ps ++ (n, c) ∷ [])
apart_push [] n c a e = (refl, tt)
apart_push (p ∷ ps) n c a e = by_eq p.0 n
    (λ t. let bad : Some p.1 ≡ None = rw (is_self p.0 n t) at e in absurd cc)
    (λ t. (found_last ps n p.0 c (λ z. t (sym z)) ∙ a.0, apart_push ps n c a.1 (rw (is_not p.0 n t) at e)))

kept_none : (f : ℕ → Bool) (ps : Numbered) (n : ℕ) → clause_of ps n ≡ None → clause_of (filter (λ p. f p.0) ps) n ≡ None
kept_none f [] n e = refl
kept_none f (p ∷ ps) n e = by_eq p.0 n
    (λ t. let bad : Some p.1 ≡ None = rw (is_self p.0 n t) at e in absurd cc)
    (λ t. let rest : clause_of (filter (λ q. f q.0) ps) n ≡ None = kept_none f ps n (rw (is_not p.0 n t) at e) in by_test (f p.0)
    (λ y. rw (y, is_not p.0 n t) rest) (λ y. rw y rest))

pub apart_kept : (f : ℕ → Bool) (ps : Numbered) → AreApart ps → AreApart (filter (λ p. f p.0) ps)
apart_kept f [] a = tt
apart_kept f (p ∷ ps) a = by_test (f p.0)
    (λ y. rw y (kept_none f ps p.0 a.0, apart_kept f ps a.1))
    (λ y. rw y (apart_kept f ps a.1))

pub kept_found : (f : ℕ → Bool) (ps : Numbered) (n : ℕ) (c : List Literal) → f n ≡ true → clause_of ps n ≡ Some c → clause_of (filter (λ p. f p.0) ps) n ≡ Some c
kept_found f [] n c y e = absurd cc
kept_found f (p ∷ ps) n c y e = by_eq p.0 n
    (λ t. let here : f p.0 ≡ true = ap f t ∙ y in rw (here, is_self p.0 n t) (rw (is_self p.0 n t) at e))
    (λ t. let rest : clause_of (filter (λ q. f q.0) ps) n ≡ Some c = kept_found f ps n c y (rw (is_not p.0 n t) at e) in by_test (f p.0)
    (λ z. rw (z, is_not p.0 n t) rest) (λ z. rw z rest))

pub found_kept : (f : ℕ → Bool) (ps : Numbered) (n : ℕ) (c : List Literal) → clause_of (filter (λ p. f p.0) ps) n ≡ Some c → AreApart ps → (f n ≡ true) × (clause_of ps n ≡ Some c)
found_kept f [] n c e a = absurd cc
found_kept f (p ∷ ps) n c e a = by_test (f p.0)
    (λ y. let e' : clause_of (p ∷ filter (λ q. f q.0) ps) n ≡ Some c = rw y at e in by_eq p.0 n
    (λ t. (ap f (sym t) ∙ y, rw (is_self p.0 n t) (rw (is_self p.0 n t) at e')))
    (λ t. let r = found_kept f ps n c (rw (is_not p.0 n t) at e') a.1 in (r.0, rw (is_not p.0 n t) r.1)))
    (λ y. let r = found_kept f ps n c (rw y at e) a.1 in (r.0, tail_found p ps n c a.0 r.1))

record IsBelow (st : Standing) : Type 0 where
  apart : AreApart st.alive
  below : (n : ℕ) → st.next ≤ n → clause_of st.alive n ≡ None

apart_joined : (st : Standing) (c : List Literal) → IsBelow st → IsBelow (record { next = st.next + 1; alive = cond (is_empty c) st.alive (st.alive ++ (st.next, c) ∷ []) })
apart_joined st c b = by_test (is_empty c)
    (λ t. rw t (record { apart = b.apart; below = λ n h. b.below n (omega arith) }))
    (λ t. rw t (record { apart = apart_push st.alive st.next c b.apart (b.below st.next (omega arith)); below = λ n h. found_last st.alive st.next n c (λ z. omega arith) ∙ b.below n (omega arith) }))

apart_after : (st : Standing) (ds : List Done) → IsBelow st → IsBelow (after_all st ds)
apart_after st [] b = b
apart_after st (joined l ∷ ds) b = apart_after (after_done st (joined l)) ds (apart_joined st l.clause b)
apart_after st (removed k ∷ ds) b = apart_after (after_done st (removed k)) ds (record {
  apart = apart_kept (λ n. not (holds_number n (k ∷ []))) st.alive b.apart;
  below = λ n h. kept_none (λ m. not (holds_number m (k ∷ []))) st.alive n (b.below n h);
})
apart_after st (passed ∷ ds) b = apart_after st ds b

pub alive_apart : (f : List (List Literal)) (ds : List Done) → AreApart (after_all (at_start f) ds).alive
alive_apart f ds = (apart_after (at_start f) ds (record { apart = apart_numbered 1 f; below = λ n h. none_above 1 f n h })).apart
