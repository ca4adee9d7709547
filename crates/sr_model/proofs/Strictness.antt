-- What is met under strict checking is met without.
use Rattle.std.proofs.Common.{◌≡◌, ℕ, true, false, List, [], ◌∷◌, ◌++◌, refl, ap}
use Rattle.std.specs.Prelude.{nat_le}
use Rattle.sr_base.specs.Literal.{Literal, compl}
use Rattle.sr_base.specs.declared.names.Cause.TheVariants.{NotNew, Unclosed}
use Rattle.sr_model.specs.declared.verdict.Verdict.{Verdict}
use Rattle.sr_model.specs.declared.verdict.Verdict.TheVariants.{Verified}
use Rattle.sr_model.specs.Refutation.{is_empty, has_empty}
use Rattle.sr_model.specs.Substitution.{Substitution, has_pair, Reduction, untouched, satisfied, left, reduction, substitution_for}
use Rattle.sr_model.specs.Chain.{Numbered, HintEnd, closes, adds, misleads, hint, ChainEnd, closed, unclosed, faulty, closes_before, chain}
use Rattle.sr_model.specs.Meeting.{Group, Step, Meeting, met, unmet, group_of, group_end, left_meets, all_left_meet, groups_fit, witness_meets, no_groups, prefix_meets, meets_over, meets}
use Rattle.sr_model.specs.Judging.{Item, stepped, dropped, Live, first_live, live_with, item_meets, ends_proof, verdict_of, judge_from, judge}
use Rattle.sr_model.proofs.Soundness.{by_test}
use Rattle.sr_model.proofs.Meetings.{both_met, group_closed}

-- a chain that isn't at fault
abbrev pub IsSettled : ChainEnd → Type 0
IsSettled closed = Unit {0}
IsSettled (unclosed b) = Unit {0}
IsSettled (faulty x) = ⊥

loose_closing : (hs : List ℕ) (e : ChainEnd) → IsSettled e → closes_before true hs ≡ e → closes_before false hs ≡ e
loose_closing [] e n c = c
loose_closing (h ∷ hs) closed n c = refl
loose_closing (h ∷ hs) (unclosed b) n c = absurd cc
loose_closing (h ∷ hs) (faulty x) n c = absurd n

pub loose_chain : (live : Numbered) (a : List Literal) (hints : List ℕ) (e : ChainEnd) → IsSettled e → chain true live a hints ≡ e → chain false live a hints ≡ e
loose_chain live a [] e n c = c
loose_chain live a (h ∷ hs) e n c = by_test (has_pair a)
    (λ t. let g : closes_before true (h ∷ hs) ≡ e = rw (t, chain) at c in rw (t, chain) (loose_closing (h ∷ hs) e n g))
    (λ f. rw (f, chain) (at (hint live a h) (rw (f, chain) at c) (λ l. loose_chain live (a ++ l ∷ []) hs e n)))
  where
    at : (r : HintEnd) → elim r [ closes ↦ closes_before true hs | adds l ↦ chain true live (a ++ l ∷ []) hs | misleads x ↦ faulty x ] ≡ e
        → ((l : Literal) → chain true live (a ++ l ∷ []) hs ≡ e → chain false live (a ++ l ∷ []) hs ≡ e)
        → elim r [ closes ↦ closes_before false hs | adds l ↦ chain false live (a ++ l ∷ []) hs | misleads x ↦ faulty x ] ≡ e
    at closes c rest = loose_closing hs e n c
    at (adds l) c rest = rest l c
    at (misleads x) c rest = c

loose_left : (live : Numbered) (b : List Literal) (gs : List Group) (n : ℕ) (r : Reduction) → left_meets true live b gs n r ≡ met → left_meets false live b gs n r ≡ met
loose_left live b gs n untouched m = refl
loose_left live b gs n satisfied m = refl
loose_left live b gs n (left d) m =
    let c : chain true live (b ++ compl d) (group_of gs n) ≡ closed = group_closed n (chain true live (b ++ compl d) (group_of gs n)) m in
    ap (group_end n) (loose_chain live (b ++ compl d) (group_of gs n) closed tt c)

loose_all_left : (live : Numbered) (b : List Literal) (w : Substitution) (gs : List Group) (ps : Numbered) → all_left_meet true live b w gs ps ≡ met → all_left_meet false live b w gs ps ≡ met
loose_all_left live b w gs [] m = refl
loose_all_left live b w gs (p ∷ ps) m =
    let r = both_met (left_meets true live b gs p.0 (reduction w p.1)) (all_left_meet true live b w gs ps) m in
    rw (loose_left live b gs p.0 (reduction w p.1) r.0) (loose_all_left live b w gs ps r.1)

loose_no_groups : (gs : List Group) → no_groups false gs ≡ met
loose_no_groups [] = refl
loose_no_groups (g ∷ gs) = refl

loose_prefix : (live : Numbered) (s : Step) (e : ChainEnd) → chain true live (compl s.clause) s.prefix ≡ e → prefix_meets true live s e ≡ met → meets_over false live s ≡ met
loose_prefix live s closed c m = rw (loose_chain live (compl s.clause) s.prefix closed tt c) (loose_no_groups s.groups)
loose_prefix live s (faulty x) c m = absurd cc
loose_prefix live s (unclosed b) c m = rw (loose_chain live (compl s.clause) s.prefix (unclosed b) tt c) (by_test (is_empty s.clause)
    (λ y. let k : unmet Unclosed ≡ met = rw y at m in absurd cc)
    (λ y. let w : Substitution = substitution_for s.clause s.witness in
    let k : witness_meets true live b w s.groups ≡ met = rw y at m in
    rw y (loose_all_left live b w s.groups live (both_met (groups_fit live b w [] s.groups) (all_left_meet true live b w s.groups live) k).1)))

pub loose_step : (live : Numbered) (last : ℕ) (s : Step) → meets true live last s ≡ met → meets false live last s ≡ met
loose_step live last s m = by_test (nat_le s.id last)
    (λ y. let k : unmet NotNew ≡ met = rw y at m in absurd cc)
    (λ y. rw y (loose_prefix live s (chain true live (compl s.clause) s.prefix) refl (rw y at m)))

pub loose_item : (lv : Live) (item : Item) → item_meets true lv item ≡ met → item_meets false lv item ≡ met
loose_item lv (stepped s) m = loose_step lv.clauses lv.last s m
loose_item lv (dropped n ids) m = refl

loose_verdict : (item : Item) (m n : Meeting) (v w : Verdict) → (m ≡ met → n ≡ met) → (v ≡ Verified → w ≡ Verified) → verdict_of item m v ≡ Verified → verdict_of item n w ≡ Verified
loose_verdict item met n v w f g e = rw (f refl) (by_test (ends_proof item) (λ y. rw y refl) (λ y. rw y (g (rw y at e))))
loose_verdict item (unmet x) n v w f g e = absurd cc

pub loose_from : (lv : Live) (items : List Item) → judge_from true lv items ≡ Verified → judge_from false lv items ≡ Verified
loose_from lv [] e = e
loose_from lv (item ∷ items) e =
    loose_verdict item (item_meets true lv item) (item_meets false lv item) (judge_from true (live_with lv item) items) (judge_from false (live_with lv item) items)
    (loose_item lv item) (loose_from (live_with lv item) items) e

pub strict_verified : (f : List (List Literal)) (items : List Item) → judge true f items ≡ Verified → judge false f items ≡ Verified
strict_verified f items e = by_test (has_empty f)
    (λ h. rw h refl)
    (λ h. rw h (loose_from (first_live f) items (rw h at e)))
