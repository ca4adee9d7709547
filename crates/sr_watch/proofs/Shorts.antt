-- Clauses of at most one literal: how they are listed, and the entries that they are the reasons of.
use Rattle.std.proofs.Common.{◌≡◌, ◌≢◌, ◌⊎◌, inl, inr, ◌<◌, ◌≤◌, ◌+◌, ◌-◌, ℕ, suc, zero, Bool, true, false, List, [], ◌∷◌, ◌++◌, refl, sym, ◌∙◌, ap, subst, arith, length, get_or, take}
use Rattle.std.proofs.lemmas.List.{get_or-take, get_or_at, length-append}
use Rattle.std.proofs.lemmas.Bool.Decides.{nat_tests}
use Rattle.std.specs.Prelude.{nat_lt}
use Rattle.std.specs.List.{sum_by, count_by}
use Rattle.std.proofs.lemmas.List.Sums.{sum_by-cons}
use Rattle.sr_base.specs.Literal.{Literal, plus, same, has, literal_at}
use Rattle.sr_base.specs.LiteralCode.{code_of_at}
use Rattle.sr_base.proofs.Literals.{same_tells}
use Rattle.sr_arena.specs.Cells.{Cell, Memory, cell_at}
use Rattle.sr_model.specs.Refutation.{Includes}
use Rattle.sr_model.proofs.Soundness.{by_test}
use Rattle.sr_lists.specs.declared.blocks.Watch.{Watch}
use Rattle.sr_lists.specs.Family.{Family, list_at}
use Rattle.sr_watch.specs.declared.watches.TheConstants.{UNSEEN, SEEN}
use Rattle.sr_watch.specs.State.{Slot, lits_at, lit_at, IsSound}
use Rattle.sr_watch.specs.Marks.{joined}
use Rattle.sr_watch.specs.Trail.{Entries, place_in, with_entry}
use Rattle.sr_watch.specs.Watching.{SomeTrue, is_short, is_on, on_side, is_of, is_stray, times, listed, left_of, tally}
use Rattle.sr_watch.specs.Walking.{IsTurnedCell, IsGrown, AreReasonsOnly, AreReasonsOn, KeepsShort}
use Rattle.sr_watch.specs.Resting.{IsSeen, IsReason, AreShortListed, AreShortTrue}
use Rattle.sr_watch.proofs.Slots.{slot_is}
use Rattle.sr_watch.proofs.Walks.{some_more, some_same}
use Rattle.sr_watch.proofs.Visits.{short_turned, on_turned}
use Rattle.sr_watch.proofs.Derivations.{derived_place, has_longer}

-- the reasons of entries, when more come
pub reason_within : (rs : List ℕ) (i : ℕ) → 0 < get_or rs i 0 → i < length rs
reason_within [] i some = absurd (omega arith)
reason_within (r ∷ rs) zero some = omega arith
reason_within (r ∷ rs) (suc i) some = omega (arith, reason_within rs i some)

pub reason_kept : (e h : Entries) (i : ℕ) → IsGrown e h → i < length e.reasons → get_or h.reasons i 0 ≡ get_or e.reasons i 0
reason_kept e h i x lt = sym (get_or-take (length e.reasons) h.reasons i 0 lt) ∙ ap (λ rs. get_or rs i 0) x.reasons

-- an assumed literal has no reason
pub derived_before : (rs : List ℕ) (i r : ℕ) → 0 < r → get_or (rs ++ 0 ∷ []) i 0 ≡ r → get_or rs i 0 ≡ r
derived_before [] zero r some is = is
derived_before [] (suc i) r some is = is
derived_before (q ∷ rs) zero r some is = is
derived_before (q ∷ rs) (suc i) r some is = derived_before rs i r some is

-- a clause of at most one literal that has one
pub short_single : (c : List Literal) (l : Literal) → is_short c ≡ true → has l c ≡ true → c ≡ l ∷ []
short_single [] l s h = absurd cc
short_single (x ∷ []) l s h = let e : x ≡ l = grind (arith, same_tells x l) in ap (λ k. k ∷ []) e
short_single (x ∷ y ∷ c) l s h = absurd cc

-- the literal of the entry that a clause is the reason of
pub reason_lit : (m : Memory) (e : Entries) (r i : ℕ) → IsSound (joined e m) → 0 < r → get_or e.reasons i 0 ≡ r → (i < length e.lits) × (has (get_or e.lits i (plus 0)) (cell_at m r).lits ≡ true)
reason_lit m e r i x some is =
    let lt : i < length e.lits = omega (arith, reason_within e.reasons i (omega (arith, is)), x.sizes) in
    let d : get_or e.reasons i 0 ≢ 0 = (λ z. absurd (omega arith)) in
    let h : has (lit_at (joined e m) i) (lits_at (joined e m) r) ≡ true = subst (λ j. has (lit_at (joined e m) i) (lits_at (joined e m) j) ≡ true) is (x.forced i lt d).of_clause in
    (lt, subst (λ (s : Slot). has (get_or e.lits i (plus 0)) s.lits ≡ true) (slot_is m r) h)

-- it is true
pub reason_true : (m : Memory) (e : Entries) (top r : ℕ) → IsSound (joined e m) → IsReason e.reasons top r → SomeTrue e.lits (cell_at m r).lits
reason_true m e top r x q =
    let w = reason_lit m e r q.place x q.some q.is in
    record { literal = get_or e.lits q.place (plus 0); of_clause = w.1; is_true = there e.lits q.place w.0 }
  where
    there : (ls : List Literal) (i : ℕ) → i < length ls → has (get_or ls i (plus 0)) ls ≡ true
    there [] i lt = absurd (omega arith)
    there (k ∷ ls) zero lt = grind (arith, same_tells k k)
    there (k ∷ ls) (suc i) lt = grind (arith, there ls i (omega arith))

-- how the clauses of a side that are attached in a second memory were in a first one
pub record AreCarried (core : Bool) (m n : Memory) (f g : Family) : Type 0 where
  pub on : (r : ℕ) → on_side core n r ≡ true → on_side core m r ≡ true
  pub short : (r : ℕ) → on_side core n r ≡ true → is_short (cell_at n r).lits ≡ true → is_short (cell_at m r).lits ≡ true
  pub trues : (r : ℕ) → on_side core n r ≡ true → (s : List Literal) → SomeTrue s (cell_at m r).lits → SomeTrue s (cell_at n r).lits
  pub times : (r key : ℕ) → on_side core n r ≡ true → key < 2 → times g r key ≡ times f r key

pub carried_cells : (core : Bool) (m n : Memory) (f : Family) → ((r : ℕ) → on_side core n r ≡ true → cell_at n r ≡ cell_at m r) → AreCarried core m n f f
carried_cells core m n f same = record {
  on = λ r o. subst (λ (c : Cell). is_on core c ≡ true) (same r o) o;
  short = λ r o s. subst (λ (c : Cell). is_short c.lits ≡ true) (same r o) s;
  trues = λ r o s t. subst (λ (c : Cell). SomeTrue s c.lits) (sym (same r o)) t;
  times = λ r key o lt. refl;
}

pub shorts_carried : (core : Bool) (m n : Memory) (f g : Family) (s t : List Literal) (rs qs : List ℕ) (top : ℕ) → AreCarried core m n f g → Includes s t → ((i : ℕ) → 0 < get_or rs i 0 → get_or qs i 0 ≡ get_or rs i 0)
    → ((r i : ℕ) → 0 < r → get_or qs i 0 ≡ r → on_side core n r ≡ true → is_short (cell_at n r).lits ≡ true → get_or rs i 0 ≡ r) → AreShortListed core m f s rs top → AreShortListed core n g t qs top
shorts_carried core m n f g s t rs qs top x inc old new y = record {
  each = λ r o sh. go r o (y.each r (x.on r o) (x.short r o sh));
  light = λ r i some is o sh. omega (arith, y.light r i some (new r i some is o sh) (x.on r o) (x.short r o sh), x.times r UNSEEN o (omega arith), x.times r SEEN o (omega arith));
}
  where
    go : (r : ℕ) → on_side core n r ≡ true → (0 < times f r UNSEEN) ⊎ (IsSeen m f s r ⊎ IsReason rs top r) → (0 < times g r UNSEEN) ⊎ (IsSeen n g t r ⊎ IsReason qs top r)
    go r o (inl a) = inl (omega (arith, a, x.times r UNSEEN o (omega arith)))
    go r o (inr (inl v)) = inr (inl (record { is_listed = omega (arith, v.is_listed, x.times r SEEN o (omega arith)); is_true = some_more s t (cell_at n r).lits inc (x.trues r o s v.is_true) }))
    go r o (inr (inr q)) = inr (inr (record { some = q.some; place = q.place; low = q.low; is = old q.place (let e = q.is in let p = q.some in omega arith) ∙ q.is }))

-- the same reasons
pub shorts_same : (core : Bool) (m n : Memory) (f g : Family) (s t : List Literal) (rs : List ℕ) (top : ℕ) → AreCarried core m n f g → Includes s t → AreShortListed core m f s rs top → AreShortListed core n g t rs top
shorts_same core m n f g s t rs top x inc y = shorts_carried core m n f g s t rs rs top x inc (λ i some. refl) (λ r i some is o sh. is) y

-- no clause of at most one literal of the side is the reason of a new entry
abbrev pub NoShortNews : Bool → Memory → Entries → Entries → Type 0
NoShortNews core m e h = (r i : ℕ) → 0 < r → length e.reasons ≤ i → get_or h.reasons i 0 ≡ r → on_side core m r ≡ true → is_short (cell_at m r).lits ≡ true → ⊥

pub shorts_grown : (core : Bool) (m n : Memory) (f g : Family) (s t : List Literal) (e h : Entries) (top : ℕ) → AreCarried core m n f g → Includes s t → IsGrown e h → NoShortNews core n e h → AreShortListed core m f s e.reasons top → AreShortListed core n g t h.reasons top
shorts_grown core m n f g s t e h top x inc gr none y =
    shorts_carried core m n f g s t e.reasons h.reasons top x inc (λ i some. reason_kept e h i gr (reason_within e.reasons i some))
    (λ r i some is o sh. by_test (nat_lt i (length e.reasons))
    (λ z. sym (reason_kept e h i gr (grind (arith, nat_tests))) ∙ is)
    (λ z. absurd (none r i some (grind (arith, nat_tests)) is o sh)))
    y

-- where all of them are true already, none derives anything
pub none_new : (core : Bool) (m : Memory) (e h : Entries) → length e.reasons ≡ length e.lits → AreShortTrue core m e.lits → IsGrown e h → IsSound (joined h m) → NoShortNews core m e h
none_new core m e h sizes all gr x r i some le is o sh =
    let w = reason_lit m h r i x some is in
    let l : Literal = get_or h.lits i (plus 0) in
    let single : (cell_at m r).lits ≡ l ∷ [] = short_single (cell_at m r).lits l sh w.1 in
    let t : SomeTrue e.lits (l ∷ []) = subst (SomeTrue e.lits) single (all r o sh) in
    let there : has l e.lits ≡ true = only l t in
    let early : has l (take (length e.lits) h.lits) ≡ true = subst (λ ls. has l ls ≡ true) (sym gr.lits) there in
    let before : has l (take i h.lits) ≡ true = has_longer h.lits (length e.lits) i l (omega arith) early in
    let new : has l (take i h.lits) ≡ false = (x.news i w.0 (λ z. absurd (omega arith))).not_true in
    absurd cc
  where
    only : (k : Literal) → SomeTrue e.lits (k ∷ []) → has k e.lits ≡ true
    only k t = by_test (same k t.literal)
        (λ z. let q : k ≡ t.literal = grind (arith, same_tells k t.literal) in subst (λ j. has j e.lits ≡ true) (sym q) t.is_true)
        (λ z. absurd (let h : has t.literal (k ∷ []) ≡ true = t.of_clause in grind arith))

-- all watches of a clause of at most one literal are in the two lists of these
sum_two : (p : Watch → Bool) (ls : List (List Watch)) → ((i : ℕ) → 2 ≤ i → count_by p (get_or ls i []) ≡ 0) → sum_by (count_by p) ls ≡ count_by p (get_or ls 0 []) + count_by p (get_or ls 1 [])
sum_two p [] none = refl
sum_two p (a ∷ []) none = let z : sum_by (count_by p) [] ≡ 0 = refl in let y : count_by p [] ≡ 0 = refl in omega (arith, sum_by-cons (λ (x : List Watch). count_by p x) a [], z, y)
sum_two p (a ∷ b ∷ ls) none = omega (arith, sum_by-cons (λ (x : List Watch). count_by p x) a (b ∷ ls), sum_by-cons (λ (x : List Watch). count_by p x) b ls, zeros ls (λ i. none (suc (suc i)) (omega arith)))
  where
    zeros : (ls : List (List Watch)) → ((i : ℕ) → count_by p (get_or ls i []) ≡ 0) → sum_by (count_by p) ls ≡ 0
    zeros [] none = refl
    zeros (c ∷ ls) none = omega (arith, sum_by-cons (λ (x : List Watch). count_by p x) c ls, none 0, zeros ls (λ i. none (suc i)))

pub short_tally : (f : Family) (r : ℕ) → ((k : Literal) → listed f r k ≡ 0) → tally f [] (is_of r) ≡ times f r UNSEEN + times f r SEEN
short_tally f r none =
    let z : count_by (is_of r) [] ≡ 0 = refl in
    omega (arith, sum_two (is_of r) f.lists (λ i le. let e : i - 2 + 2 ≡ i = omega arith in subst (λ j. count_by (is_of r) (list_at f j) ≡ 0) (ap (λ c. c + 2) (code_of_at (i - 2)) ∙ e) (none (literal_at (i - 2)))), z)

-- at most so many watches are in these lists
pub short_few : (f : Family) (left : List Watch) (r : ℕ) → times f r UNSEEN + left_of left r + times f r SEEN ≤ tally f left (is_of r)
short_few f left r = omega (arith, two (is_of r) f.lists)
  where
    two : (p : Watch → Bool) (ls : List (List Watch)) → count_by p (get_or ls 1 []) + count_by p (get_or ls 0 []) ≤ sum_by (count_by p) ls
    two p [] = let y : count_by p [] ≡ 0 = refl in omega (arith, y)
    two p (a ∷ []) = let y : count_by p [] ≡ 0 = refl in omega (arith, sum_by-cons (λ (x : List Watch). count_by p x) a [], y)
    two p (a ∷ b ∷ ls) = omega (arith, sum_by-cons (λ (x : List Watch). count_by p x) a (b ∷ ls), sum_by-cons (λ (x : List Watch). count_by p x) b ls)

-- the first look of a watch is at the literal
pub blocker_single : (m : Memory) (w : Watch) (s : List Literal) → is_stray m w ≡ false → is_short (cell_at m w.at).lits ≡ true → SomeTrue s (cell_at m w.at).lits → (has w.blocker (cell_at m w.at).lits ≡ true) × (has w.blocker s ≡ true)
blocker_single m w s ok sh t = go (cell_at m w.at).lits refl
  where
    go : (c : List Literal) → (cell_at m w.at).lits ≡ c → (has w.blocker (cell_at m w.at).lits ≡ true) × (has w.blocker s ≡ true)
    go [] is = let h : has t.literal [] ≡ true = subst (λ x. has t.literal x ≡ true) is t.of_clause in absurd cc
    go (x ∷ y ∷ c) is = let z : is_short (x ∷ y ∷ c) ≡ true = subst (λ d. is_short d ≡ true) is sh in absurd cc
    go (x ∷ []) is =
        let h : has w.blocker (cell_at m w.at).lits ≡ true = by_test (has w.blocker (cell_at m w.at).lits) (λ y. y)
        (λ y. let st : is_stray m w ≡ true = rw y (rw is refl) in absurd cc) in
        let a : has w.blocker (x ∷ []) ≡ true = subst (λ c. has w.blocker c ≡ true) is h in
        let b : has t.literal (x ∷ []) ≡ true = subst (λ c. has t.literal c ≡ true) is t.of_clause in
        let ea : x ≡ w.blocker = grind (arith, same_tells x w.blocker) in
        let eb : x ≡ t.literal = grind (arith, same_tells x t.literal) in
        (h, subst (λ k. has k s ≡ true) (sym eb ∙ ea) t.is_true)

-- a true clause of one literal that isn't the reason of the entry of that literal is no entry's reason
pub not_reason : (m : Memory) (e : Entries) (at : ℕ) (l : Literal) → IsSound (joined e m) → 0 < at → is_short (cell_at m at).lits ≡ true → has l (cell_at m at).lits ≡ true → get_or e.reasons (place_in e.lits l - 1) 0 ≢ at → (i : ℕ) → get_or e.reasons i 0 ≢ at
not_reason m e at l x some sh h ne i is =
    let w = reason_lit m e at i x some is in
    let one : (cell_at m at).lits ≡ l ∷ [] = short_single (cell_at m at).lits l sh h in
    let k : Literal = get_or e.lits i (plus 0) in
    let hk : has k (l ∷ []) ≡ true = subst (λ c. has k c ≡ true) one w.1 in
    let q : l ≡ k = grind (arith, same_tells l k) in
    let p : place_in e.lits l ≡ i + 1 = subst (λ j. place_in e.lits j ≡ i + 1) (sym q) (derived_place (joined e m) i x w.0 (λ z. absurd (omega arith))) in
    let back : place_in e.lits l - 1 ≡ i = omega (arith, p) in
    ne (ap (λ j. get_or e.reasons j 0) back ∙ is)

-- reasons of new entries
pub no_news : (core : Bool) (m : Memory) (e : Entries) → AreReasonsOn core m e e
no_news core m e i le some = absurd (omega (arith, reason_within e.reasons i some))

pub news_push : (at : ℕ) (e : Entries) (l : Literal) → AreReasonsOnly at e (with_entry e l at)
news_push at e l i le some =
    let lt : i < length (e.reasons ++ at ∷ []) = reason_within (e.reasons ++ at ∷ []) i some in
    get_or_at e.reasons at [] 0 i (omega (arith, length-append e.reasons (at ∷ [])))

pub news_here : (core : Bool) (m : Memory) (at : ℕ) (e h : Entries) → on_side core m at ≡ true → AreReasonsOnly at e h → AreReasonsOn core m e h
news_here core m at e h on only i le some = subst (λ r. on_side core m r ≡ true) (sym (only i le some)) on

pub news_on : (core : Bool) (m n : Memory) (e g h : Entries) → ((r : ℕ) → on_side core n r ≡ on_side core m r) → IsGrown g h → AreReasonsOn core m e g → AreReasonsOn core n g h → AreReasonsOn core n e h
news_on core m n e g h on gr x y i le some = by_test (nat_lt i (length g.reasons))
    (λ z. let k : get_or h.reasons i 0 ≡ get_or g.reasons i 0 = reason_kept g h i gr (grind (arith, nat_tests)) in
    let o : on_side core m (get_or g.reasons i 0) ≡ true = x i le (omega (arith, k, some)) in
    subst (λ r. on_side core n r ≡ true) (sym k) (on (get_or g.reasons i 0) ∙ o))
    (λ z. y i (grind (arith, nat_tests)) some)

-- clauses in another order
pub carried_turned : (core : Bool) (m n : Memory) (f g : Family) → ((r : ℕ) → IsTurnedCell (cell_at m r) (cell_at n r)) → KeepsShort f g → AreCarried core m n f g
carried_turned core m n f g t same = record {
  on = λ r o. sym (on_turned core (cell_at m r) (cell_at n r) (t r)) ∙ o;
  short = λ r o s. sym (short_turned (cell_at m r) (cell_at n r) (t r)) ∙ s;
  trues = λ r o s x. some_same s (cell_at m r).lits (cell_at n r).lits (t r).set x;
  times = λ r key o lt. same r key lt;
}

pub includes_same : (s t : List Literal) → t ≡ s → Includes s t
includes_same s t e k h = subst (λ x. has k x ≡ true) (sym e) h

-- a clause that has a literal, and not just one
pub long_has : (c : List Literal) (l : Literal) → has l c ≡ true → length c ≢ 1 → is_short c ≡ false
long_has [] l h n = absurd cc
long_has (x ∷ []) l h n = absurd (n refl)
long_has (x ∷ y ∷ c) l h n = refl
