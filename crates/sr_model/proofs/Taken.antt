-- Items that are taken one after another.
use Rattle.std.proofs.Common.{true, ◌≡◌, ◌≢◌, ℕ, Bool, false, List, [], ◌∷◌, ◌++◌, refl, sym, ◌∙◌, ap}
use Rattle.sr_base.specs.Literal.{Literal}
use Rattle.sr_base.specs.declared.names.Cause.{Cause}
use Rattle.sr_model.specs.declared.verdict.Verdict.{Verdict}
use Rattle.sr_model.specs.declared.verdict.Verdict.TheVariants.{Going, Verified, Rejected}
use Rattle.sr_model.specs.Refutation.{has_empty}
use Rattle.sr_model.specs.Meeting.{Meeting, met, unmet}
use Rattle.sr_model.specs.Judging.{Item, stepped, dropped, Live, first_live, live_with, live_after, item_meets, item_number, ends_proof, verdict_of, judge_from, judge, State, start, after_meeting as meeting_state, after_item, after_items}
use Rattle.sr_model.proofs.Soundness.{by_test}

abbrev pub in_state : Live → Verdict → State
in_state lv v = record { live = lv; verdict = v }

-- a verdict that isn't open stays, and so does what is live
pub stays_verified : (strict : Bool) (lv : Live) (items : List Item) → after_items strict (in_state lv Verified) items ≡ in_state lv Verified
stays_verified strict lv [] = refl
stays_verified strict lv (item ∷ items) = refl

pub stays_rejected : (strict : Bool) (lv : Live) (id : ℕ) (x : Cause) (items : List Item) → after_items strict (in_state lv (Rejected id x)) items ≡ in_state lv (Rejected id x)
stays_rejected strict lv id x [] = refl
stays_rejected strict lv id x (item ∷ items) = refl

pub settled_stays : (strict : Bool) (st : State) (items : List Item) → st.verdict ≢ Going → after_items strict st items ≡ st
settled_stays strict st items n = at st.live st.verdict n
  where
    at : (lv : Live) (v : Verdict) → v ≢ Going → after_items strict (in_state lv v) items ≡ in_state lv v
    at lv Going n = absurd (n refl)
    at lv Verified n = stays_verified strict lv items
    at lv (Rejected id x) n = stays_rejected strict lv id x items

pub after_append : (strict : Bool) (st : State) (xs ys : List Item) → after_items strict st (xs ++ ys) ≡ after_items strict (after_items strict st xs) ys
after_append strict st [] ys = refl
after_append strict st (item ∷ xs) ys = at st.live st.verdict (λ lv. after_append strict (after_item strict (in_state lv Going) item) xs ys)
  where
    at : (lv : Live) (v : Verdict)
        → ((lv : Live) → after_items strict (after_item strict (in_state lv Going) item) (xs ++ ys) ≡ after_items strict (after_items strict (after_item strict (in_state lv Going) item) xs) ys)
        → after_items strict (in_state lv v) ((item ∷ xs) ++ ys) ≡ after_items strict (after_items strict (in_state lv v) (item ∷ xs)) ys
    at lv Going r = r lv
    at lv Verified r = sym (stays_verified strict lv ys)
    at lv (Rejected id x) r = sym (stays_rejected strict lv id x ys)

-- from an open verdict the state ends with what judging says
pub taken_from : (strict : Bool) (lv : Live) (items : List Item) → (after_items strict (in_state lv Going) items).verdict ≡ judge_from strict lv items
taken_from strict lv [] = refl
taken_from strict lv (item ∷ items) = at (item_meets strict lv item) (taken_from strict (live_with lv item) items)
  where
    at : (m : Meeting) → (after_items strict (in_state (live_with lv item) Going) items).verdict ≡ judge_from strict (live_with lv item) items
        → (after_items strict (meeting_state (in_state lv Going) item m) items).verdict ≡ verdict_of item m (judge_from strict (live_with lv item) items)
    at (unmet x) r = ap (λ st. st.verdict) (stays_rejected strict lv (item_number item) x items)
    at met r = by_test (ends_proof item)
        (λ e. rw e (ap (λ st. st.verdict) (stays_verified strict (live_with lv item) items)))
        (λ e. rw e r)

pub taken_judged : (strict : Bool) (f : List (List Literal)) (items : List Item) → (after_items strict (start f) items).verdict ≡ judge strict f items
taken_judged strict f items = by_test (has_empty f)
    (λ e. rw e (ap (λ st. st.verdict) (stays_verified strict (first_live f) items)))
    (λ e. rw e (taken_from strict (first_live f) items))

-- an item after which the verdict is open is met, and doesn't end the proof
pub record IsPassed (strict : Bool) (lv : Live) (item : Item) : Type 0 where
  pub is_met : item_meets strict lv item ≡ met
  pub is_open : ends_proof item ≡ false

pub going_tells : (strict : Bool) (lv : Live) (item : Item) (rest : Verdict) → verdict_of item (item_meets strict lv item) rest ≡ Going → IsPassed strict lv item
going_tells strict lv item rest e = at (item_meets strict lv item) refl e
  where
    at : (m : Meeting) → item_meets strict lv item ≡ m → verdict_of item m rest ≡ Going → IsPassed strict lv item
    at (unmet x) i e = absurd cc
    at met i e = by_test (ends_proof item)
        (λ y. let k : Verified ≡ Going = rw y at e in absurd cc)
        (λ y. record { is_met = i; is_open = y })

pub passed_state : (strict : Bool) (lv : Live) (item : Item) → IsPassed strict lv item → after_item strict (in_state lv Going) item ≡ in_state (live_with lv item) Going
passed_state strict lv item p = rw (p.is_met, p.is_open) refl

pub passed_verdict : (strict : Bool) (lv : Live) (item : Item) (rest : Verdict) → IsPassed strict lv item → verdict_of item (item_meets strict lv item) rest ≡ rest
passed_verdict strict lv item rest p = rw (p.is_met, p.is_open) refl

-- while the verdict is open, the state is that of the live clauses
pub going_state : (strict : Bool) (lv : Live) (items : List Item) → judge_from strict lv items ≡ Going → after_items strict (in_state lv Going) items ≡ in_state (live_after lv items) Going
going_state strict lv [] e = refl
going_state strict lv (item ∷ items) e =
    let p = going_tells strict lv item (judge_from strict (live_with lv item) items) e in
    ap (λ st. after_items strict st items) (passed_state strict lv item p)
    ∙ going_state strict (live_with lv item) items (sym (passed_verdict strict lv item (judge_from strict (live_with lv item) items) p) ∙ e)

pub going_append : (strict : Bool) (lv : Live) (xs ys : List Item) → judge_from strict lv xs ≡ Going → judge_from strict lv (xs ++ ys) ≡ judge_from strict (live_after lv xs) ys
going_append strict lv [] ys e = refl
going_append strict lv (item ∷ xs) ys e =
    let p = going_tells strict lv item (judge_from strict (live_with lv item) xs) e in
    passed_verdict strict lv item (judge_from strict (live_with lv item) (xs ++ ys)) p
    ∙ going_append strict (live_with lv item) xs ys (sym (passed_verdict strict lv item (judge_from strict (live_with lv item) xs) p) ∙ e)

pub going_has_no_empty : (strict : Bool) (f : List (List Literal)) (items : List Item) → judge strict f items ≡ Going → has_empty f ≡ false
going_has_no_empty strict f items e = by_test (has_empty f)
    (λ y. let k : Verified ≡ Going = rw y at e in absurd cc)
    (λ y. y)

pub start_going : (f : List (List Literal)) → has_empty f ≡ false → start f ≡ in_state (first_live f) Going
start_going f e = rw e refl

pub judge_going : (strict : Bool) (f : List (List Literal)) (items : List Item) → has_empty f ≡ false → judge strict f items ≡ judge_from strict (first_live f) items
judge_going strict f items e = rw e refl

pub taking_going : (strict : Bool) (f : List (List Literal)) (items : List Item) → judge strict f items ≡ Going → after_items strict (start f) items ≡ in_state (live_after (first_live f) items) Going
taking_going strict f items e =
    let n = going_has_no_empty strict f items e in
    ap (λ st. after_items strict st items) (start_going f n) ∙ going_state strict (first_live f) items (sym (judge_going strict f items n) ∙ e)

pub taking_live : (strict : Bool) (f : List (List Literal)) (items : List Item) → judge strict f items ≡ Going → (after_items strict (start f) items).live ≡ live_after (first_live f) items
taking_live strict f items e = ap (λ st. st.live) (taking_going strict f items e)

-- an item that is rejected leaves what is live as it was
rejected_state : (lv : Live) (item : Item) (m : Meeting) (id : ℕ) (x : Cause) → verdict_of item m Going ≡ Rejected id x → meeting_state (in_state lv Going) item m ≡ in_state lv (Rejected id x)
rejected_state lv item met id x e = by_test (ends_proof item)
    (λ y. let k : Verified ≡ Rejected id x = rw y at e in absurd cc)
    (λ y. let k : Going ≡ Rejected id x = rw y at e in absurd cc)
rejected_state lv item (unmet y) id x e = ap (in_state lv) e

pub rejection_live : (strict : Bool) (f : List (List Literal)) (before items : List Item) (item : Item) (id : ℕ) (x : Cause)
    → judge strict f before ≡ Going → judge strict f (before ++ item ∷ []) ≡ Rejected id x
    → (after_items strict (start f) (before ++ item ∷ items)).live ≡ live_after (first_live f) before
rejection_live strict f before items item id x e r =
    let n = going_has_no_empty strict f before e in
    let lv : Live = live_after (first_live f) before in
    let g : judge_from strict (first_live f) before ≡ Going = sym (judge_going strict f before n) ∙ e in
    let v : verdict_of item (item_meets strict lv item) Going ≡ Rejected id x =
    sym (going_append strict (first_live f) before (item ∷ []) g) ∙ sym (judge_going strict f (before ++ item ∷ []) n) ∙ r in
    ap (λ st. st.live) (after_append strict (start f) before (item ∷ items)
    ∙ ap (λ st. after_items strict st (item ∷ items)) (taking_going strict f before e)
    ∙ ap (λ st. after_items strict st items) (rejected_state lv item (item_meets strict lv item) id x v)
    ∙ stays_rejected strict lv id x items)

-- and one that verifies the proof, a step with the empty clause, too
verified_state : (lv : Live) (item : Item) (m : Meeting) → verdict_of item m Going ≡ Verified → (meeting_state (in_state lv Going) item m ≡ in_state (live_with lv item) Verified) × (m ≡ met) × (ends_proof item ≡ true)
verified_state lv item met e = by_test (ends_proof item)
    (λ y. (rw y refl, refl, y))
    (λ y. let k : Going ≡ Verified = rw y at e in absurd cc)
verified_state lv item (unmet y) e = absurd cc

ending_keeps : (lv : Live) (item : Item) → ends_proof item ≡ true → live_with lv item ≡ lv
ending_keeps lv (stepped s) e = rw e refl
ending_keeps lv (dropped n ids) e = absurd cc

pub verification_live : (strict : Bool) (f : List (List Literal)) (before items : List Item) (item : Item)
    → judge strict f before ≡ Going → judge strict f (before ++ item ∷ []) ≡ Verified
    → (after_items strict (start f) (before ++ item ∷ items)).live ≡ live_after (first_live f) before
verification_live strict f before items item e r =
    let n = going_has_no_empty strict f before e in
    let lv : Live = live_after (first_live f) before in
    let g : judge_from strict (first_live f) before ≡ Going = sym (judge_going strict f before n) ∙ e in
    let v : verdict_of item (item_meets strict lv item) Going ≡ Verified =
    sym (going_append strict (first_live f) before (item ∷ []) g) ∙ sym (judge_going strict f (before ++ item ∷ []) n) ∙ r in
    let s = verified_state lv item (item_meets strict lv item) v in
    ap (λ st. st.live) (after_append strict (start f) before (item ∷ items)
    ∙ ap (λ st. after_items strict st (item ∷ items)) (taking_going strict f before e)
    ∙ ap (λ st. after_items strict st items) s.0
    ∙ stays_verified strict (live_with lv item) items) ∙ ending_keeps lv item s.2
