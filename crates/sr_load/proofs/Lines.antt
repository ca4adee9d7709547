-- Lines one after another.
use Rattle.std.proofs.Common.{◌≡◌, ◌<◌, ◌≤◌, ◌+◌, ◌-◌, ℕ, suc, true, false, ◌==◌, List, [], ◌∷◌, ◌++◌, Some, refl, sym, ◌∙◌, ap, subst, arith, length, get_or, take, drop}
use Rattle.std.proofs.lemmas.List.{take_more, drop_more, map-append}
use Rattle.std.proofs.lemmas.Bool.Decides.{nat_tests}
use Rattle.sr_base.specs.Literal.{Literal}
use Rattle.sr_model.specs.Refutation.{is_empty}
use Rattle.sr_model.specs.Substitution.{IsPivot}
use Rattle.sr_model.specs.Dsr.{Lemma}
use Rattle.sr_model.proofs.Soundness.{by_test}
use Rattle.sr_trimming.specs.Loading.{Done, joined, removed, passed, Standing, at_start, after_done, after_all}
use Rattle.sr_trimming.specs.From.{Place, place_of, LemmasHavePivots}
use Rattle.sr_load.specs.declared.records.Event.{Event}
use Rattle.sr_load.specs.declared.records.Told.{Told}
use Rattle.sr_load.specs.Numbers.{has_clause}
use Rattle.sr_load.specs.Records.{done_of, done_in, AreTold, RemoveAlive}
use Rattle.sr_load.proofs.Numbering.{lemma_clauses, next_from, after_append}

-- the last of the lines that stand
pub last_stands : (es : List Event) (k : ℕ) (e : Event) → k < length es → e ≡ get_or es k e → done_in (take (k + 1) es) ≡ done_in (take k es) ++ done_of e ∷ []
last_stands es k e lt is = ap done_in (take_more es k e lt ∙ ap (λ x. take k es ++ x ∷ []) (sym is)) ∙ map-append done_of (take k es) (e ∷ [])

pub last_back : (es : List Event) (k : ℕ) (e : Event) → k < length es → e ≡ get_or es k e → done_in (drop k es) ≡ done_of e ∷ done_in (drop (k + 1) es)
last_back es k e lt is = ap done_in (drop_more es k e lt ∙ ap (λ x. x ∷ drop (k + 1) es) (sym is))

-- the next number rises
pub next_rises : (f : List (List Literal)) (ds es : List Done) → (after_all (at_start f) ds).next ≤ (after_all (at_start f) (ds ++ es)).next
next_rises f ds es = omega (arith, ap (λ (x : Standing). x.next) (after_append (at_start f) ds es), next_from (after_all (at_start f) ds) es)

-- what is told of lemmas
pub told_length : (ds : List Done) (ts : List Told) → AreTold ds ts → length ts ≡ length (lemma_clauses ds)
told_length [] [] h = refl
told_length [] (t ∷ ts) h = absurd h
told_length (joined l ∷ ds) [] h = absurd h
told_length (joined l ∷ ds) (t ∷ ts) h = omega (arith, told_length ds ts h.2)
told_length (removed k ∷ ds) ts h = told_length ds ts h
told_length (passed ∷ ds) ts h = told_length ds ts h

pub record IsToldOf (p : Place) (t : Told) : Type 0 where
  pub pivot : IsPivot t.pivot p.stated.clause
  pub witness : p.stated.witness ≡ t.witness

found_low : (st : Standing) (ds : List Done) (n : ℕ) (p : Place) → place_of st ds n ≡ Some p → st.next ≤ n
found_low st [] n p e = absurd cc
found_low st (joined l ∷ ds) n p e = by_test (st.next == n)
    (λ t. grind (arith, nat_tests))
    (λ t. let r : st.next + 1 ≤ n = found_low (after_done st (joined l)) ds n p (rw t at e) in omega (arith, r))
found_low st (removed k ∷ ds) n p e = found_low (after_done st (removed k)) ds n p e
found_low st (passed ∷ ds) n p e = found_low st ds n p e

later_told : (t : Told) (ts : List Told) (x : Told) (n k : ℕ) → k < n → x ≡ get_or (t ∷ ts) (n - k) x → x ≡ get_or ts (n - (k + 1)) x
later_told t ts x n k lt e = let is : n - k ≡ suc (n - (k + 1)) = omega arith in subst (λ i. x ≡ get_or (t ∷ ts) i x) is e

pub told_at : (st : Standing) (ds : List Done) (ts : List Told) (n : ℕ) (p : Place) (t : Told) → AreTold ds ts → place_of st ds n ≡ Some p → t ≡ get_or ts (n - st.next) t → IsToldOf p t
told_at st [] ts n p t h e is = absurd cc
told_at st (joined l ∷ ds) [] n p t h e is = absurd h
told_at st (joined l ∷ ds) (x ∷ ts) n p t h e is = by_test (st.next == n)
    (λ y. let here : Some (record { alive = st.alive; stated = l }) ≡ Some p = rw y at e in
    let place : record { alive = st.alive; stated = l } ≡ p = cc in
    let z : n - st.next ≡ 0 = grind (arith, nat_tests) in
    let first : t ≡ x = subst (λ i. t ≡ get_or (x ∷ ts) i t) z is in
    subst (λ (q : Place). IsToldOf q t) place (subst (λ (u : Told). IsToldOf (record { alive = st.alive; stated = l }) u) (sym first) (record { pivot = h.0; witness = h.1 })))
    (λ y. let later = found_low (after_done st (joined l)) ds n p (rw y at e) in
    told_at (after_done st (joined l)) ds ts n p t h.2 (rw y at e) (later_told x ts t n st.next (omega (arith, later)) is))
told_at st (removed k ∷ ds) ts n p t h e is = told_at (after_done st (removed k)) ds ts n p t h e is
told_at st (passed ∷ ds) ts n p t h e is = told_at st ds ts n p t h e is

-- each lemma has a literal
pub told_nonempty : (ds es : List Done) (l : Lemma) (ts : List Told) → AreTold (ds ++ joined l ∷ es) ts → is_empty l.clause ≡ false
told_nonempty [] es l [] h = absurd h
told_nonempty [] es l (t ∷ ts) h = at l.clause h.0
  where
    at : (c : List Literal) → IsPivot t.pivot c → is_empty c ≡ false
    at [] p = absurd p
    at (k ∷ ks) p = refl
told_nonempty (joined k ∷ ds) es l [] h = absurd h
told_nonempty (joined k ∷ ds) es l (t ∷ ts) h = told_nonempty ds es l ts h.2
told_nonempty (removed k ∷ ds) es l ts h = told_nonempty ds es l ts h
told_nonempty (passed ∷ ds) es l ts h = told_nonempty ds es l ts h

-- what a line removes was alive
abbrev pub RemovesAlive : Standing → Done → Type 0
RemovesAlive st (joined l) = Unit {0}
RemovesAlive st (removed k) = has_clause st.alive k ≡ true
RemovesAlive st passed = Unit {0}

pub remove_split : (st : Standing) (ds : List Done) (d : Done) → RemoveAlive st (ds ++ d ∷ []) → RemoveAlive st ds × RemovesAlive (after_all st ds) d
remove_split st [] (joined l) h = (tt, tt)
remove_split st [] (removed k) h = (tt, h.0)
remove_split st [] passed h = (tt, tt)
remove_split st (joined l ∷ ds) d h = remove_split (after_done st (joined l)) ds d h
remove_split st (removed k ∷ ds) d h = let r = remove_split (after_done st (removed k)) ds d h.1 in ((h.0, r.0), r.1)
remove_split st (passed ∷ ds) d h = remove_split st ds d h

pub remove_join : (st : Standing) (ds : List Done) (d : Done) → RemoveAlive st ds → RemovesAlive (after_all st ds) d → RemoveAlive st (ds ++ d ∷ [])
remove_join st [] (joined l) h r = tt
remove_join st [] (removed k) h r = (r, tt)
remove_join st [] passed h r = tt
remove_join st (joined l ∷ ds) d h r = remove_join (after_done st (joined l)) ds d h r
remove_join st (removed k ∷ ds) d h r = (h.0, remove_join (after_done st (removed k)) ds d h.1 r)
remove_join st (passed ∷ ds) d h r = remove_join st ds d h r

-- one more line
pub told_more : (ds : List Done) (ts : List Told) (l : Lemma) (t : Told) → AreTold ds ts → IsPivot t.pivot l.clause → l.witness ≡ t.witness → AreTold (ds ++ joined l ∷ []) (ts ++ t ∷ [])
told_more [] [] l t h p w = (p, w, tt)
told_more [] (x ∷ ts) l t h p w = absurd h
told_more (joined k ∷ ds) [] l t h p w = absurd h
told_more (joined k ∷ ds) (x ∷ ts) l t h p w = (h.0, h.1, told_more ds ts l t h.2 p w)
told_more (removed k ∷ ds) ts l t h p w = told_more ds ts l t h p w
told_more (passed ∷ ds) ts l t h p w = told_more ds ts l t h p w

pub told_removed : (ds : List Done) (ts : List Told) (n : ℕ) → AreTold ds ts → AreTold (ds ++ removed n ∷ []) ts
told_removed [] [] n h = tt
told_removed [] (x ∷ ts) n h = absurd h
told_removed (joined k ∷ ds) [] n h = absurd h
told_removed (joined k ∷ ds) (x ∷ ts) n h = (h.0, h.1, told_removed ds ts n h.2)
told_removed (removed k ∷ ds) ts n h = told_removed ds ts n h
told_removed (passed ∷ ds) ts n h = told_removed ds ts n h

pub told_passed : (ds : List Done) (ts : List Told) → AreTold ds ts → AreTold (ds ++ passed ∷ []) ts
told_passed [] [] h = tt
told_passed [] (x ∷ ts) h = absurd h
told_passed (joined k ∷ ds) [] h = absurd h
told_passed (joined k ∷ ds) (x ∷ ts) h = (h.0, h.1, told_passed ds ts h.2)
told_passed (removed k ∷ ds) ts h = told_passed ds ts h
told_passed (passed ∷ ds) ts h = told_passed ds ts h

pub pivots_join : (ds es : List Done) → LemmasHavePivots ds → LemmasHavePivots es → LemmasHavePivots (ds ++ es)
pivots_join [] es h p = p
pivots_join (joined k ∷ ds) es h p = (h.0, pivots_join ds es h.1 p)
pivots_join (removed k ∷ ds) es h p = pivots_join ds es h p
pivots_join (passed ∷ ds) es h p = pivots_join ds es h p
