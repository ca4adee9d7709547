-- The lemma of a number, in a loaded proof.
use Rattle.std.proofs.Common.{◌≡◌, ℕ, ◌+◌, ◌<◌, ◌≤◌, ◌==◌, false, List, [], ◌∷◌, Option, Some, None, refl, sym, ◌∙◌, ap, arith, length}
use Rattle.std.proofs.lemmas.Bool.Decides.{nat_tests}
use Rattle.sr_base.specs.Literal.{Literal}
use Rattle.sr_model.specs.Substitution.{Witness, IsPivot}
use Rattle.sr_model.specs.Chain.{clause_of}
use Rattle.sr_model.specs.Dsr.{Lemma}
use Rattle.sr_model.specs.Judging.{numbered_from}
use Rattle.sr_trimming.specs.Loading.{Done, joined, removed, passed, Standing, at_start, after_done, after_all}
use Rattle.sr_trimming.specs.Reordered.{IsRewritten, put_first}
use Rattle.sr_trimming.specs.From.{numbered_lemmas, Place, place_of, witness_of}
use Rattle.sr_trimming.proofs.Written.{absent_append}
use Rattle.sr_trimming.proofs.PivotFirst.{pivot_put_first}
use Rattle.sr_load.specs.Loaded.{LoadedState, all_lines, all_in, HasPivotAt, HasClauseAt}
use Rattle.sr_table.proofs.Paging.{by_test}
use Rattle.sr_placing.specs.Parts.{IsPlaceOf, witness_or}

next_rises : (st : Standing) (ds : List Done) → st.next ≤ (after_all st ds).next
next_rises st [] = omega arith
next_rises st (joined l ∷ ds) = omega (arith, next_rises (after_done st (joined l)) ds)
next_rises st (removed k ∷ ds) = next_rises (after_done st (removed k)) ds
next_rises st (passed ∷ ds) = next_rises st ds

-- a lemma's number is before the next one
pub place_before : (st : Standing) (ds : List Done) (n : ℕ) (p : Place) → place_of st ds n ≡ Some p → n < (after_all st ds).next
place_before st [] n p e = absurd cc
place_before st (joined l ∷ ds) n p e = by_test (st.next == n)
    (λ t. let is : st.next ≡ n = grind (arith, nat_tests) in let up = next_rises (after_done st (joined l)) ds in omega (arith, is))
    (λ t. place_before (after_done st (joined l)) ds n p (rw t at e))
place_before st (removed k ∷ ds) n p e = place_before (after_done st (removed k)) ds n p e
place_before st (passed ∷ ds) n p e = place_before st ds n p e

place_clause : (st : Standing) (ds : List Done) (n : ℕ) (p : Place) → place_of st ds n ≡ Some p → clause_of (numbered_lemmas st.next ds) n ≡ Some p.stated.clause
place_clause st [] n p e = absurd cc
place_clause st (joined l ∷ ds) n p e = by_test (st.next == n)
    (λ t. let is : Some (record { alive = st.alive; stated = l }) ≡ Some p = rw t at e in let same : record { alive = st.alive; stated = l } ≡ p = cc in rw t (ap (λ q. Some q.stated.clause) same))
    (λ t. rw t (place_clause (after_done st (joined l)) ds n p (rw t at e)))
place_clause st (removed k ∷ ds) n p e = place_clause (after_done st (removed k)) ds n p e
place_clause st (passed ∷ ds) n p e = place_clause st ds n p e

none_above : (m : ℕ) (f : List (List Literal)) (n : ℕ) → m + length f ≤ n → clause_of (numbered_from m f) n ≡ None
none_above m [] n h = refl
none_above m (c ∷ cs) n h = let other : (m == n) ≡ false = grind (arith, nat_tests) in rw other (none_above (m + 1) cs n (omega arith))

-- its clause in memory, with the pivot put first, may be written
pub lemma_rewritten : (st : LoadedState) (n : ℕ) (p : Place) (pivot : Literal) (lits : List Literal) → length st.formula.clauses < n → IsPlaceOf st n p → HasPivotAt st n pivot → HasClauseAt st n lits
    → IsRewritten p.stated.clause (put_first pivot lits)
lemma_rewritten st n p pivot lits low is first clause =
    let absent = none_above 1 st.formula.clauses n (omega arith) in
    let own = place_clause (at_start st.formula.clauses) (all_lines st) n p is in
    let found : clause_of (all_in st) n ≡ Some p.stated.clause = absent_append (numbered_from 1 st.formula.clauses) (numbered_lemmas (length st.formula.clauses + 1) (all_lines st)) n absent ∙ own in
    (pivot_put_first pivot p.stated.clause lits (first p is) (clause p.stated.clause found)).0

-- the witness that is written
witness_with : (l : Lemma) (o : Option Witness) (c : List Literal) (p : Literal) → l.witness ≡ o → l.clause ≡ c → IsPivot p c → witness_of l ≡ Some (witness_or p o)
witness_with l (Some w) c p e d is = rw (e, witness_of) refl
witness_with l None [] p e d is = absurd is
witness_with l None (k ∷ ks) p e d is = rw (e, d, witness_of) (ap (λ q. Some (record { pivot = q; assigned = []; maps = [] })) (sym is))

pub witness_is : (l : Lemma) (p : Literal) → IsPivot p l.clause → witness_of l ≡ Some (witness_or p l.witness)
witness_is l p is = witness_with l l.witness l.clause p refl refl is
