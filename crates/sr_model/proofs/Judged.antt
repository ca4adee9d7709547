-- What is verified has no solution.
use Rattle.std.proofs.Common.{◌≡◌, ℕ, ◌+◌, Bool, true, List, [], ◌∷◌, ◌++◌, refl, sym, ◌∙◌, ap, subst, arith}
use Rattle.sr_base.specs.Literal.{Literal, compl}
use Rattle.sr_model.specs.declared.verdict.Verdict.{Verdict}
use Rattle.sr_model.specs.declared.verdict.Verdict.TheVariants.{Verified}
use Rattle.sr_model.specs.Assignment.{satisfies, satisfies_all, Unsat}
use Rattle.sr_model.specs.Refutation.{is_empty, has_empty}
use Rattle.sr_model.specs.Chain.{Numbered, clauses, chain}
use Rattle.sr_model.specs.Meeting.{Meeting, met, unmet}
use Rattle.sr_model.specs.Judging.{Item, stepped, dropped, numbered_from, without, Live, first_live, live_with, item_meets, ends_proof, verdict_of, judge_from, judge, ItemHasPivot, HavePivots}
use Rattle.sr_model.proofs.Soundness.{by_test, empty_is_false, refuted_holds}
use Rattle.sr_model.proofs.Meetings.{step_sound, met_over, empty_refuted}

pub clauses_numbered : (n : ℕ) (f : List (List Literal)) → clauses (numbered_from n f) ≡ f
clauses_numbered n [] = refl
clauses_numbered n (c ∷ cs) = ap (λ s. c ∷ s) (clauses_numbered (n + 1) cs)

pub clauses_push : (live : Numbered) (n : ℕ) (c : List Literal) → clauses (live ++ (n, c) ∷ []) ≡ clauses live ++ c ∷ []
clauses_push [] n c = refl
clauses_push (p ∷ ps) n c = ap (λ s. p.1 ∷ s) (clauses_push ps n c)

pub satisfies_without : (t : List ℕ) (ids : List ℕ) (live : Numbered) → satisfies_all t (clauses live) ≡ true → satisfies_all t (clauses (without ids live)) ≡ true
satisfies_without t ids [] h = refl
satisfies_without t ids (p ∷ ps) h = grind (arith, satisfies_without t ids ps)

pub empty_clause : (c : List Literal) → is_empty c ≡ true → c ≡ []
empty_clause [] h = refl
empty_clause (l ∷ ls) h = absurd cc

pub item_sound : (strict : Bool) (lv : Live) (item : Item) → ItemHasPivot item → item_meets strict lv item ≡ met → Unsat (clauses (live_with lv item).clauses) → Unsat (clauses lv.clauses)
item_sound strict lv (dropped n ids) g m u t = by_test (satisfies_all t (clauses lv.clauses))
    (λ sat. let f = u t in let y = satisfies_without t ids lv.clauses sat in absurd cc)
    (λ f. f)
item_sound strict lv (stepped s) g m u t = by_test (is_empty s.clause)
    (λ y. let v : Unsat (clauses lv.clauses) = rw y at u in v t)
    (λ y. let v : Unsat (clauses (lv.clauses ++ (s.id, s.clause) ∷ [])) = rw y at u in
    step_sound strict lv.clauses lv.last s g m (subst (λ x. Unsat x) (clauses_push lv.clauses s.id s.clause) v) t)

pub empty_sound : (strict : Bool) (lv : Live) (item : Item) → item_meets strict lv item ≡ met → ends_proof item ≡ true → Unsat (clauses lv.clauses)
empty_sound strict lv (dropped n ids) m e t = absurd cc
empty_sound strict lv (stepped s) m e t = by_test (satisfies_all t (clauses lv.clauses))
    (λ sat. let r = empty_refuted strict lv.clauses s (chain strict lv.clauses (compl s.clause) s.prefix) refl (met_over strict lv.clauses lv.last s m) e in
    let h : satisfies t s.clause ≡ true = refuted_holds (clauses lv.clauses) s.clause r t sat in
    let g : satisfies t [] ≡ true = sym (ap (satisfies t) (empty_clause s.clause e)) ∙ h in absurd cc)
    (λ f. f)

judged_item : (strict : Bool) (lv : Live) (item : Item) (rest : Verdict) (m : Meeting) → item_meets strict lv item ≡ m → ItemHasPivot item → verdict_of item m rest ≡ Verified
    → (rest ≡ Verified → Unsat (clauses (live_with lv item).clauses)) → Unsat (clauses lv.clauses)
judged_item strict lv item rest met e g v u = by_test (ends_proof item)
    (λ y. empty_sound strict lv item e y)
    (λ y. let k : rest ≡ Verified = rw y at v in item_sound strict lv item g e (u k))
judged_item strict lv item rest (unmet x) e g v u = absurd cc

pub judged_unsat : (strict : Bool) (lv : Live) (items : List Item) → HavePivots items → judge_from strict lv items ≡ Verified → Unsat (clauses lv.clauses)
judged_unsat strict lv [] g e = absurd cc
judged_unsat strict lv (item ∷ items) g e =
    judged_item strict lv item (judge_from strict (live_with lv item) items) (item_meets strict lv item) refl g.0 e (judged_unsat strict (live_with lv item) items g.1)

pub verified_unsat : (strict : Bool) (f : List (List Literal)) (items : List Item) → HavePivots items → judge strict f items ≡ Verified → Unsat f
verified_unsat strict f items g e = by_test (has_empty f)
    (λ h t. empty_is_false t f h)
    (λ h. let k : judge_from strict (first_live f) items ≡ Verified = rw h at e in
    subst (λ s. Unsat s) (clauses_numbered 1 f) (judged_unsat strict (first_live f) items g k))
