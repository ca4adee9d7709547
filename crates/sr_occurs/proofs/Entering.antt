-- Lemmas on lists of numbers by literal.
use Rattle.std.proofs.Common.{◌≡◌, ◌≢◌, ◌⊎◌, inl, inr, ℕ, suc, zero, ◌+◌, ◌<◌, ◌≤◌, ◌==◌, true, false, cond, List, [], ◌∷◌, ◌++◌, length, get_or, set, refl, sym, ◌∙◌, ap, subst, arith, get_or-set_same, get_or-set_other}
use Rattle.std.proofs.lemmas.List.{length-append, length-set, get_or_append_left}
use Rattle.std.proofs.Math.Seq.{get_or-append_seam}
use Rattle.std.proofs.lemmas.Bool.Decides.{nat_tests}
use Rattle.std.specs.Prelude.{filter, is_some}
use Rattle.sr_base.specs.Literal.{Literal, literal_code, same, has}
use Rattle.sr_base.specs.LiteralCode.{same_code}
use Rattle.sr_base.proofs.Literals.{same_tells}
use Rattle.sr_model.specs.Assignment.{holds_number}
use Rattle.sr_model.specs.Chain.{Numbered, clause_of}
use Rattle.sr_occurs.specs.Occurring.{IsLive}
use Rattle.sr_table.specs.Numbers.{HoldsAll}
use Rattle.sr_occurs.specs.Candidates.{HoldsWith}
use Rattle.sr_occurs.specs.Occurring.{Occurring, head_at, list_at, numbers_under, under, AreLinked, SameNumbers, Enters, KeepsNumbers, IsUnder, AreUnder, KeepsListed}
use Rattle.sr_table.proofs.Paging.{by_eq}
use Rattle.sr_table.proofs.Paging.{by_test}
use Rattle.sr_table.proofs.Numbering.{holds_push}
use Rattle.sr_table.proofs.Numbering.{held_filter, all_held}

-- the lists of places
list_set : (ls : List (List ℕ)) (i p : ℕ) (x : List ℕ) → i < length ls → list_at (set ls i x) p ≡ cond (p == suc i) x (list_at ls p)
list_set ls i zero x h = let f : (0 == suc i) ≡ false = grind (arith, nat_tests) in rw f refl
list_set ls i (suc p) x h = by_eq p i
    (λ e. let t : (suc p == suc i) ≡ true = grind (arith, nat_tests) in rw t (rw e (get_or-set_same ls i x [] h)))
    (λ n. let f : (suc p == suc i) ≡ false = grind (arith, nat_tests) in rw f (get_or-set_other ls i p x [] n))

-- an empty list more
list_push : (ls : List (List ℕ)) (p : ℕ) → p ≤ length ls → list_at (ls ++ [] ∷ []) p ≡ list_at ls p
list_push ls zero h = refl
list_push ls (suc p) h = get_or_append_left ls ([] ∷ []) [] p (omega arith)

length_push : (ls : List (List ℕ)) → length (ls ++ [] ∷ []) ≡ length ls + 1
length_push ls = length-append ls ([] ∷ [])

last_list : (ls : List (List ℕ)) → list_at (ls ++ [] ∷ []) (suc (length ls)) ≡ []
last_list ls = get_or-append_seam ls [] [] []

-- a head gets a list of its own
opened_head : (heads : List ℕ) (ls : List (List ℕ)) (code place i : ℕ) → AreLinked heads ls → code < length heads → place ≡ length ls + 1 → i ≢ code → head_at (set heads code place) i ≡ place → ⊥
opened_head heads ls code place i h room is other e = omega (arith, h.known i, ap (λ (n : ℕ). n) (sym (get_or-set_other heads code i place 0 other) ∙ e))

pub linked_open : (heads : List ℕ) (ls : List (List ℕ)) (code place : ℕ) → AreLinked heads ls → code < length heads → place ≡ length ls + 1 → AreLinked (set heads code place) (ls ++ [] ∷ [])
linked_open heads ls code place h room is = record {
  known = λ i. by_eq i code
      (λ e. rw e (rw (get_or-set_same heads code place 0 room) (omega (arith, length_push ls))))
      (λ n. rw (get_or-set_other heads code i place 0 n) (omega (arith, h.known i, length_push ls)));
  apart = λ i j e. by_eq i code
      (λ ic. by_eq j code
      (λ jc. inr (ic ∙ sym jc))
      (λ jn. absurd (opened_head heads ls code place j h room is jn (sym e ∙ ap (head_at (set heads code place)) ic ∙ get_or-set_same heads code place 0 room))))
      (λ n. by_eq j code
      (λ jc. absurd (opened_head heads ls code place i h room is n (e ∙ ap (head_at (set heads code place)) jc ∙ get_or-set_same heads code place 0 room)))
      (λ jn. both i j n jn e));
}
  where
    both : (i j : ℕ) → i ≢ code → j ≢ code → head_at (set heads code place) i ≡ head_at (set heads code place) j → (head_at (set heads code place) i ≡ 0) ⊎ (i ≡ j)
    both i j n jn e =
        let a : head_at (set heads code place) i ≡ head_at heads i = get_or-set_other heads code i place 0 n in
        let b : head_at (set heads code place) j ≡ head_at heads j = get_or-set_other heads code j place 0 jn in
        rw a (h.apart i j (sym a ∙ e ∙ b))

pub same_open : (heads : List ℕ) (ls : List (List ℕ)) (code place : ℕ) → AreLinked heads ls → code < length heads → head_at heads code ≡ 0 → place ≡ length ls + 1 → SameNumbers (numbers_under heads ls) (numbers_under (set heads code place) (ls ++ [] ∷ []))
same_open heads ls code place h room free is l = by_eq (literal_code l) code
    (λ e. rw e (rw (get_or-set_same heads code place 0 room, free) (let at : place ≡ suc (length ls) = omega arith in rw at (last_list ls))))
    (λ n. rw (get_or-set_other heads code (literal_code l) place 0 n) (list_push ls (head_at heads (literal_code l)) (h.known (literal_code l))))

-- a number is put at the end of the list of a literal
pub linked_set : (heads : List ℕ) (ls : List (List ℕ)) (i : ℕ) (x : List ℕ) → AreLinked heads ls → AreLinked heads (set ls i x)
linked_set heads ls i x h = record { known = λ k. omega (arith, h.known k, length-set ls i x); apart = h.apart }

pub enters : (heads : List ℕ) (ls : List (List ℕ)) (l : Literal) (place n : ℕ) → AreLinked heads ls → head_at heads (literal_code l) ≡ suc place → Enters (numbers_under heads ls) (numbers_under heads (set ls place (get_or ls place [] ++ n ∷ []))) l n
enters heads ls l place n h is k = by_test (same l k) (λ t. rw t (here t)) (λ f. rw f (there f))
  where
    within : place < length ls
    within = omega (arith, h.known (literal_code l))

    set_is : (p : ℕ) → list_at (set ls place (get_or ls place [] ++ n ∷ [])) p ≡ cond (p == suc place) (get_or ls place [] ++ n ∷ []) (list_at ls p)
    set_is p = list_set ls place p (get_or ls place [] ++ n ∷ []) within

    here : same l k ≡ true → numbers_under heads (set ls place (get_or ls place [] ++ n ∷ [])) k ≡ numbers_under heads ls k ++ n ∷ []
    here t =
        let one : l ≡ k = grind (arith, same_tells l k) in
        let q : (suc place == suc place) ≡ true = grind (arith, nat_tests) in
        subst (λ j. numbers_under heads (set ls place (get_or ls place [] ++ n ∷ [])) j ≡ numbers_under heads ls j ++ n ∷ []) one
        (rw is (set_is (suc place) ∙ rw q refl))

    there : same l k ≡ false → numbers_under heads (set ls place (get_or ls place [] ++ n ∷ [])) k ≡ numbers_under heads ls k
    there f =
        let ne : head_at heads (literal_code k) ≢ suc place = λ e. other f (h.apart (literal_code k) (literal_code l) (e ∙ sym is)) (sym e) in
        let q : (head_at heads (literal_code k) == suc place) ≡ false = grind (arith, nat_tests) in
        set_is (head_at heads (literal_code k)) ∙ rw q refl
      where
        other : same l k ≡ false → (head_at heads (literal_code k) ≡ 0) ⊎ (literal_code k ≡ literal_code l) → suc place ≡ head_at heads (literal_code k) → ⊥
        other f (inl z) e = omega (arith, z, e)
        other f (inr c) e = let one : k ≡ l = same_code k l c in let t : same l k ≡ true = grind (arith, same_tells l k) in let w : true ≡ false = sym t ∙ f in cc

-- heads that are put into a longer table
pub same_heads : (heads heads' : List ℕ) (ls : List (List ℕ)) → ((i : ℕ) → head_at heads' i ≡ head_at heads i) → SameNumbers (numbers_under heads ls) (numbers_under heads' ls)
same_heads heads heads' ls same l = ap (list_at ls) (same (literal_code l))

pub linked_heads : (heads heads' : List ℕ) (ls : List (List ℕ)) → ((i : ℕ) → head_at heads' i ≡ head_at heads i) → AreLinked heads ls → AreLinked heads' ls
linked_heads heads heads' ls same h = record {
  known = λ i. rw (same i) (h.known i);
  apart = λ i j e. rw (same i) (h.apart i j (sym (same i) ∙ e ∙ same j));
}

-- numbers that stay
pub keeps_same : (old new : Literal → List ℕ) → ((l : Literal) → new l ≡ old l) → KeepsNumbers old new
keeps_same old new same l n h = rw (same l) h

pub keeps_then : (old now new : Literal → List ℕ) → KeepsNumbers old now → KeepsNumbers now new → KeepsNumbers old new
keeps_then old now new f g l n h = g l n (f l n h)

pub keeps_enters : (old new : Literal → List ℕ) (l : Literal) (n : ℕ) → Enters old new l n → KeepsNumbers old new
keeps_enters old new l n e k m h = by_test (same l k)
    (λ t. let is : new k ≡ old k ++ n ∷ [] = e k ∙ rw t refl in rw is (grind (arith, h, holds_push m n (old k))))
    (λ f. let is : new k ≡ old k = e k ∙ rw f refl in rw is h)

pub under_enters : (old new : Literal → List ℕ) (l : Literal) (n : ℕ) → Enters old new l n → holds_number n (new l) ≡ true
under_enters old new l n e =
    let t : same l l ≡ true = grind (arith, same_tells l l) in
    let is : new l ≡ old l ++ n ∷ [] = e l ∙ rw t refl in
    rw is (grind (arith, nat_tests, holds_push n n (old l)))

pub under_more : (old new : Literal → List ℕ) (n : ℕ) (ls : List Literal) → KeepsNumbers old new → IsUnder old n ls → IsUnder new n ls
under_more old new n [] k h = tt
under_more old new n (l ∷ ls) k h = (k l n h.0, under_more old new n ls k h.1)

pub under_push : (lists : Literal → List ℕ) (n : ℕ) (ls : List Literal) (l : Literal) → IsUnder lists n ls → holds_number n (lists l) ≡ true → IsUnder lists n (ls ++ l ∷ [])
under_push lists n [] l h more = (more, tt)
under_push lists n (k ∷ ls) l h more = (h.0, under_push lists n ls l h.1 more)

pub are_more : (old new : Literal → List ℕ) (live : Numbered) → KeepsNumbers old new → AreUnder old live → AreUnder new live
are_more old new [] k h = tt
are_more old new (p ∷ ps) k h = (under_more old new p.0 p.1 k h.0, are_more old new ps k h.1)

pub are_push : (lists : Literal → List ℕ) (live : Numbered) (n : ℕ) (c : List Literal) → AreUnder lists live → IsUnder lists n c → AreUnder lists (live ++ (n, c) ∷ [])
are_push lists [] n c h more = (more, tt)
are_push lists (p ∷ ps) n c h more = (h.0, are_push lists ps n c h.1 more)

-- lists that have the clauses, if they are built
pub listed_more : (old new : Occurring) (live : Numbered) → new.built ≡ old.built → KeepsNumbers (under old) (under new) → KeepsListed old live → KeepsListed new live
listed_more old new live built kept k b = are_more (under old) (under new) live kept (k (sym built ∙ b))

pub listed_push : (old new : Occurring) (live : Numbered) (n : ℕ) (c : List Literal) → new.built ≡ old.built → KeepsNumbers (under old) (under new) → (old.built ≡ true → IsUnder (under new) n c) → KeepsListed old live → KeepsListed new (live ++ (n, c) ∷ [])
listed_push old new live n c built kept entered k b = are_push (under new) live n c (listed_more old new live built kept k b) (entered (sym built ∙ b))

pub listed_limit : (old new : Occurring) (live : Numbered) → (new.built ≡ true → new ≡ old) → KeepsListed old live → KeepsListed new live
listed_limit old new live same k b = let is : new ≡ old = same b in subst (λ (o : Occurring). AreUnder (under o) live) (sym is) (k (sym (ap (λ (o : Occurring). o.built) is) ∙ b))

-- lists that lose the numbers of clauses that aren't live
abbrev pub live_only : Numbered → List ℕ → List ℕ
live_only live ns = filter (λ n. is_some (clause_of live n)) ns

abbrev pub KeepsLive : Numbered → (Literal → List ℕ) → (Literal → List ℕ) → Type 0
KeepsLive live old new = (l : Literal) (n : ℕ) → IsLive live n → holds_number n (old l) ≡ true → holds_number n (new l) ≡ true

pub live_kept : (heads : List ℕ) (ls : List (List ℕ)) (i : ℕ) (live : Numbered) → i < length ls → KeepsLive live (numbers_under heads ls) (numbers_under heads (set ls i (live_only live (get_or ls i []))))
live_kept heads ls i live h l n lives held = at (head_at heads (literal_code l)) held
  where
    at : (p : ℕ) → holds_number n (list_at ls p) ≡ true → holds_number n (list_at (set ls i (live_only live (get_or ls i []))) p) ≡ true
    at p k = rw (list_set ls i p (live_only live (get_or ls i [])) h) (by_test (p == suc i)
        (λ t. let is : p ≡ suc i = grind (arith, nat_tests) in rw t (held_filter (λ m. is_some (clause_of live m)) n (get_or ls i []) lives (rw is at k)))
        (λ f. rw f k))

-- the clauses of a part of the live ones are live
live_head : (p : ℕ × List Literal) (ps : Numbered) → IsLive (p ∷ ps) p.0
live_head p ps = let t : (p.0 == p.0) ≡ true = grind (arith, nat_tests) in rw t refl

live_tail : (p : ℕ × List Literal) (ps : Numbered) (n : ℕ) → IsLive ps n → IsLive (p ∷ ps) n
live_tail p ps n h = by_test (p.0 == n) (λ t. rw t refl) (λ f. rw f h)

under_live : (old new : Literal → List ℕ) (live : Numbered) (n : ℕ) (ls : List Literal) → KeepsLive live old new → IsLive live n → IsUnder old n ls → IsUnder new n ls
under_live old new live n [] k h u = tt
under_live old new live n (l ∷ ls) k h u = (k l n h u.0, under_live old new live n ls k h u.1)

pub are_live : (old new : Literal → List ℕ) (live ps : Numbered) → ((n : ℕ) → IsLive ps n → IsLive live n) → KeepsLive live old new → AreUnder old ps → AreUnder new ps
are_live old new live [] part k u = tt
are_live old new live (p ∷ ps) part k u = (under_live old new live p.0 p.1 k (part p.0 (live_head p ps)) u.0, are_live old new live ps (λ n h. part n (live_tail p ps n h)) k u.1)

-- the clauses that hold a literal
under_has : (lists : Literal → List ℕ) (n : ℕ) (ls : List Literal) (l : Literal) → IsUnder lists n ls → has l ls ≡ true → holds_number n (lists l) ≡ true
under_has lists n [] l u h = absurd cc
under_has lists n (k ∷ ls) l u h = by_test (same k l)
    (λ t. let is : k ≡ l = grind (arith, same_tells k l) in subst (λ x. holds_number n (lists x) ≡ true) is u.0)
    (λ f. under_has lists n ls l u.1 (grind (arith, h, f)))

pub holds_with : (lists : Literal → List ℕ) (l : Literal) (ns : List ℕ) (live ps : Numbered) → ((n : ℕ) → IsLive ps n → IsLive live n) → ((n : ℕ) → IsLive live n → holds_number n (lists l) ≡ true → holds_number n ns ≡ true) → AreUnder lists ps → HoldsWith l ns ps
holds_with lists l ns live [] part g u = tt
holds_with lists l ns live (p ∷ ps) part g u = (λ h. g p.0 (part p.0 (live_head p ps)) (under_has lists p.0 p.1 l u.0 h), holds_with lists l ns live ps (λ n h. part n (live_tail p ps n h)) g u.1)

pub gathered : (heads : List ℕ) (ls : List (List ℕ)) (l : Literal) (i : ℕ) (ns : List ℕ) (live : Numbered) → head_at heads (literal_code l) ≡ suc i → HoldsAll ns (live_only live (get_or ls i [])) → AreUnder (numbers_under heads ls) live → HoldsWith l ns live
gathered heads ls l i ns live is all u = holds_with (numbers_under heads ls) l ns live live (λ n h. h)
    (λ n h k. all_held ns (live_only live (get_or ls i [])) all n (held_filter (λ m. is_some (clause_of live m)) n (get_or ls i []) h (rw is at k))) u

pub none_gathered : (heads : List ℕ) (ls : List (List ℕ)) (l : Literal) (ns : List ℕ) (live : Numbered) → head_at heads (literal_code l) ≡ 0 → AreUnder (numbers_under heads ls) live → HoldsWith l ns live
none_gathered heads ls l ns live is u = holds_with (numbers_under heads ls) l ns live live (λ n h. h) (λ n h k. let c : false ≡ true = rw is at k in absurd cc) u

pub kept_listed : (heads : List ℕ) (ls : List (List ℕ)) (i : ℕ) (live : Numbered) → i < length ls → AreUnder (numbers_under heads ls) live → AreUnder (numbers_under heads (set ls i (live_only live (get_or ls i [])))) live
kept_listed heads ls i live h u = are_live (numbers_under heads ls) (numbers_under heads (set ls i (live_only live (get_or ls i [])))) live live (λ n k. k) (live_kept heads ls i live h) u
