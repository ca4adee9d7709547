-- Lemmas on following hints.
use Rattle.std.proofs.Common.{◌≡◌, ◌<◌, ◌≤◌, ◌+◌, ◌==◌, ℕ, suc, zero, Bool, true, false, not, List, [], ◌∷◌, ◌++◌, refl, sym, ◌∙◌, ap, subst, arith, length, add-one, get_or, drop-cons, take, drop, Option, Some, None, option_to_list, Bor}
use Rattle.std.specs.Prelude.{is_some, IfSome}
use Rattle.std.specs.Option.{option_copied}
use Rattle.std.proofs.lemmas.List.{take-append-drop, take_all, take-append-le, length-append}
use Rattle.std.proofs.lemmas.List.Elements.{filter-append}
use Rattle.sr_base.specs.Literal.{Literal, complement, has}
use Rattle.sr_model.specs.Substitution.{has_pair}
use Rattle.sr_model.specs.Chain.{Numbered, clauses, clause_of, open_literals, closes, adds, misleads, hint_of_open, hint_of_clause, hint, unclosed, closes_before, chain}
use Rattle.sr_base.specs.declared.names.Cause.TheVariants.{NotUnit}
use Rattle.sr_check.specs.declared.chains.Open.TheVariants.{Nothing, One, More}
use Rattle.sr_check.specs.Ends.{open_end, first_clause, KeepsFront}
use Rattle.sr_check.specs.Trail.{TrailValue, Covers, CoversAll, CoversClauses}
use Rattle.sr_table.proofs.Paging.{by_test}
use Rattle.sr_check.proofs.Trailing.{pair_push}

-- what is covered
pub covered_at : (room : ℕ) (ls : List Literal) (i : ℕ) (l : Literal) → CoversAll room ls → i < length ls → l ≡ get_or ls i l → Covers room l
covered_at room [] i l c h e = absurd (omega arith)
covered_at room (k ∷ ls) zero l c h e = subst (Covers room) (sym e) c.0
covered_at room (k ∷ ls) (suc i) l c h e = covered_at room ls i l c.1 (omega arith) e

pub covered_more : (low high : ℕ) (ls : List Literal) → low ≤ high → CoversAll low ls → CoversAll high ls
covered_more low high [] h c = tt
covered_more low high (l ∷ ls) h c = (omega (arith, c.0), covered_more low high ls h c.1)

pub clauses_more : (low high : ℕ) (cs : List (List Literal)) → low ≤ high → CoversClauses low cs → CoversClauses high cs
clauses_more low high [] h c = tt
clauses_more low high (d ∷ cs) h c = (covered_more low high d h c.0, clauses_more low high cs h c.1)

pub covered_clause : (room : ℕ) (live : Numbered) (n : ℕ) (c : List Literal) → CoversClauses room (clauses live) → clause_of live n ≡ Some c → CoversAll room c
covered_clause room [] n c h e = absurd cc
covered_clause room (p ∷ ps) n c h e = by_test (p.0 == n)
    (λ t. let s : Some p.1 ≡ Some c = rw t at e in let is : p.1 ≡ c = cc in subst (CoversAll room) is h.0)
    (λ f. covered_clause room ps n c h.1 (rw f at e))

-- so is one that was looked up ahead
pub covered_ahead : (room : ℕ) (live : Numbered) (n : ℕ) (ahead : Option (Bor (List Literal))) → CoversClauses room (clauses live) → option_copied ahead ≡ clause_of live n → IfSome ahead (λ c. CoversAll room c.now)
covered_ahead room live n None h e = tt
covered_ahead room live n (Some c) h e = covered_clause room live n c.now h (sym e)

-- the first of the hints that are left
pub first_at : (live : Numbered) (hints : List ℕ) (i : ℕ) → i < length hints → first_clause live (drop i hints) ≡ clause_of live (get_or hints i 0)
first_at live hints i within = ap (first_clause live) (drop-cons hints i 0 within)

-- the front is kept
pub front_same : (m : TrailValue) → KeepsFront m m
front_same m = record { front = take_all (length m.lits) m.lits (omega arith); longer = omega arith; room = omega arith }

pub front_add : (old now next : TrailValue) (l : Literal) → KeepsFront old now → next.lits ≡ now.lits ++ l ∷ [] → now.room ≤ next.room → KeepsFront old next
front_add old now next l k e r =
    let long : length next.lits ≡ length now.lits + 1 = ap length e ∙ length-append now.lits (l ∷ []) in
    record {
      front = ap (take (length old.lits)) e ∙ take-append-le (length old.lits) now.lits (l ∷ []) k.longer ∙ k.front;
      longer = omega (arith, k.longer);
      room = omega (arith, k.room);
    }

pub front_room : (old now next : TrailValue) → KeepsFront old now → next.lits ≡ now.lits → now.room ≤ next.room → KeepsFront old next
front_room old now next k e r = record { front = ap (take (length old.lits)) e ∙ k.front; longer = let long : length next.lits ≡ length now.lits = ap length e in omega (arith, k.longer); room = omega (arith, k.room) }

-- what a hint does
pub nothing_open : (h : ℕ) (ls : List Literal) → Nothing ≡ open_end ls → closes ≡ hint_of_open h ls
nothing_open h [] e = refl
nothing_open h (l ∷ []) e = absurd cc
nothing_open h (l ∷ k ∷ ls) e = absurd cc

pub one_open : (h : ℕ) (l : Literal) (ls : List Literal) → One l ≡ open_end ls → adds l ≡ hint_of_open h ls
one_open h l [] e = absurd cc
one_open h l (k ∷ []) e = let is : l ≡ k = cc in ap adds is
one_open h l (k ∷ m ∷ ls) e = absurd cc

pub more_open : (h : ℕ) (ls : List Literal) → More ≡ open_end ls → misleads (NotUnit h) ≡ hint_of_open h ls
more_open h [] e = absurd cc
more_open h (l ∷ []) e = absurd cc
more_open h (l ∷ k ∷ ls) e = refl

pub hint_dead : (live : Numbered) (a : List Literal) (h : ℕ) → None ≡ clause_of live h → hint live a h ≡ hint_of_clause a h None
hint_dead live a h e = ap (hint_of_clause a h) (sym e)

pub hint_at : (live : Numbered) (a : List Literal) (h : ℕ) (c : List Literal) → Some c ≡ clause_of live h → hint live a h ≡ hint_of_open h (open_literals a c)
hint_at live a h c e = ap (hint_of_clause a h) (sym e)

-- a second open literal
pub second_open : (a lits : List Literal) (i : ℕ) (l : Literal) (found : Option Literal) → i < length lits → l ≡ get_or lits i l → option_to_list found ≡ open_literals a (take i lits) → is_some found ≡ true → has (complement l) a ≡ false → More ≡ open_end (open_literals a lits)
second_open a lits i l found h e o s n =
    let parts : lits ≡ take i lits ++ l ∷ drop (suc i) lits = sym (take-append-drop i lits) ∙ ap (λ x. take i lits ++ x) (drop-cons lits i l h ∙ ap (λ x. x ∷ drop (suc i) lits) (sym e)) in
    let split : open_literals a lits ≡ option_to_list found ++ open_literals a (l ∷ drop (suc i) lits) =
    ap (open_literals a) parts ∙ filter-append (λ k. not (has (complement k) a)) (take i lits) (l ∷ drop (suc i) lits) ∙ ap (λ x. x ++ open_literals a (l ∷ drop (suc i) lits)) (sym o) in
    rw split (at found s)
  where
    at : (f : Option Literal) → is_some f ≡ true → More ≡ open_end (option_to_list f ++ open_literals a (l ∷ drop (suc i) lits))
    at None s = absurd cc
    at (Some k) s = rw n refl

-- a list with a pair is closed at once
pub pair_closes : (strict : Bool) (live : Numbered) (a : List Literal) (hs : List ℕ) → has_pair a ≡ true → chain strict live a hs ≡ closes_before strict hs
pair_closes strict live a [] p = rw (p, chain) refl
pair_closes strict live a (h ∷ hs) p = rw (p, chain) refl

pub chain_adds : (strict : Bool) (live : Numbered) (a : List Literal) (h : ℕ) (hs : List ℕ) (l : Literal) → has_pair a ≡ false → adds l ≡ hint live a h → chain strict live a (h ∷ hs) ≡ chain strict live (a ++ l ∷ []) hs
chain_adds strict live a h hs l p e = rw (p, sym e, chain) refl

-- the literal that is added wasn't false
pub open_first : (a c ls : List Literal) (l : Literal) → open_literals a c ≡ l ∷ ls → has (complement l) a ≡ false
open_first a [] ls l e = absurd cc
open_first a (k ∷ ks) ls l e = by_test (has (complement k) a)
    (λ t. open_first a ks ls l (rw t at e))
    (λ f. let s : k ∷ open_literals a ks ≡ l ∷ ls = rw f at e in let is : k ≡ l = cc in subst (λ x. has (complement x) a ≡ false) is f)

pub added_is_open : (live : Numbered) (a : List Literal) (h : ℕ) (l : Literal) → adds l ≡ hint live a h → has (complement l) a ≡ false
added_is_open live a h l e = at (clause_of live h) e
  where
    one : (c ls : List Literal) → ls ≡ open_literals a c → adds l ≡ hint_of_open h ls → has (complement l) a ≡ false
    one c [] i e = absurd cc
    one c (k ∷ []) i e = let is : l ≡ k = cc in open_first a c [] l (sym i ∙ ap (λ x. x ∷ []) (sym is))
    one c (k ∷ m ∷ ls) i e = absurd cc

    at : (o : Option (List Literal)) → adds l ≡ hint_of_clause a h o → has (complement l) a ≡ false
    at None e = absurd cc
    at (Some c) e = one c (open_literals a c) refl e

-- what `follow` keeps over its loop
pub record IsFollowed (strict : Bool) (live : Numbered) (start a : List Literal) (hints left : List ℕ) : Type 0 where
  pub rest : chain strict live start hints ≡ chain strict live a left
  pub no_pair : has_pair a ≡ false

pub follow_step : (strict : Bool) (live : Numbered) (start a a' : List Literal) (hints : List ℕ) (i h : ℕ) (l : Literal) → i < length hints → h ≡ get_or hints i 0
    → IsFollowed strict live start a hints (drop i hints) → adds l ≡ hint live a h → a' ≡ a ++ l ∷ []
    → IsFollowed strict live start a' hints (drop (i + 1) hints)
follow_step strict live start a a' hints i h l within is inv e s =
    let split : drop i hints ≡ h ∷ drop (suc i) hints = drop-cons hints i 0 within ∙ ap (λ x. x ∷ drop (suc i) hints) (sym is) in
    let none : has_pair (a ++ l ∷ []) ≡ false = let p = pair_push a l in let n = added_is_open live a h l e in grind (arith, inv.no_pair) in
    rw (s, add-one) (record {
      rest = inv.rest ∙ ap (chain strict live a) split ∙ chain_adds strict live a h (drop (suc i) hints) l inv.no_pair e;
      no_pair = none;
    })

-- a chain that closes isn't unclosed
pub closed_somehow : (strict : Bool) (hs : List ℕ) (b : List Literal) → closes_before strict hs ≡ unclosed b → ⊥
closed_somehow strict [] b e = cc
closed_somehow true (h ∷ hs) b e = cc
closed_somehow false (h ∷ hs) b e = cc
