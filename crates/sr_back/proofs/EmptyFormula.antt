-- The formula whose one clause is empty, as a loaded proof.
use Rattle.std.proofs.Common.{◌≡◌, inl, inr, ℕ, zero, suc, ◌==◌, ◌||◌, true, List, [], ◌∷◌, None, refl, sym, ap, subst, arith, length}
use Rattle.std.specs.Prelude.{filter, All}
use Rattle.std.specs.List.{list_any}
use Rattle.std.proofs.lemmas.Bool.Decides.{nat_tests}
use Rattle.sr_base.specs.Literal.{Literal, NoRepeats}
use Rattle.sr_model.specs.Assignment.{holds_number}
use Rattle.sr_model.specs.Refutation.{Refutes}
use Rattle.sr_model.specs.Chain.{clauses}
use Rattle.sr_model.specs.Dimacs.{Formula}
use Rattle.sr_model.specs.Judging.{numbered_from}
use Rattle.sr_model.proofs.Soundness.{by_test}
use Rattle.sr_trimming.specs.Lean.{is_lean}
use Rattle.sr_trimming.specs.CoreFirst.{IsCoreFirst}
use Rattle.sr_trimming.specs.Loading.{at_start, at_conflict, StopsAfter}
use Rattle.sr_trimming.specs.From.{all_loaded}
use Rattle.sr_load.specs.Loaded.{LoadedState, IsLoaded, IsChain, TookAll, HasWitnessAt}

-- no line stands or was taken back
abbrev pub no_lines : Formula → List ℕ → List Literal → LoadedState
no_lines f cited assumed = record { formula = f; standing = []; undone = []; cited = cited; assumed = assumed }

pub took_none : (f : Formula) (cited : List ℕ) (assumed : List Literal) → TookAll (no_lines f cited assumed) (no_lines f cited assumed)
took_none f cited assumed = record { standing = refl; undone = refl; no_lemma = refl; same = refl }

pub no_witness : (f : Formula) (cited : List ℕ) (assumed : List Literal) (n : ℕ) → HasWitnessAt (no_lines f cited assumed) n None
no_witness f cited assumed n p e = absurd cc

pub loaded : (f : Formula) → f.clauses ≡ [] ∷ [] → IsLoaded (no_lines f [] [])
loaded f e = record {
  stops = subst (λ cs. StopsAfter (at_start cs) [] at_conflict) (sym e) (inl refl);
  none_undone = refl;
  none_cited = refl;
  none_assumed = refl;
  pivots = tt;
  distinct = subst (λ cs. All NoRepeats (clauses (all_loaded cs []))) (sym e) one;
  small = rw e (omega arith);
}
  where
    one : All NoRepeats ([] ∷ [])
    one zero d h = tt
    one (suc k) d h = absurd (omega arith)

none_refute : Refutes [] [] → ⊥
none_refute (inl e) = absurd cc
none_refute (inr f) = let p = f [] (λ l h. h) tt in absurd (let h = p.1 in cc)

-- its number is a chain
pub one_chain : (f : Formula) (cited : List ℕ) (assumed : List Literal) → f.clauses ≡ [] ∷ [] → assumed ≡ [] → IsChain (no_lines f cited assumed) (1 ∷ [])
one_chain f cited assumed e none = subst (λ a. IsChain (no_lines f cited a) (1 ∷ [])) (sym none) (record {
  lean = subst (λ cs. is_lean (numbered_from 1 cs) [] (1 ∷ []) ≡ true) (sym e) refl;
  core_first = subst (λ cs. IsCoreFirst (filter (λ p. holds_number p.0 cited) (numbered_from 1 cs)) [] (1 ∷ [])) (sym e) (core cited);
})
  where
    core : (cited : List ℕ) → IsCoreFirst (filter (λ p. holds_number p.0 cited) ((1, []) ∷ [])) [] (1 ∷ [])
    core cited = by_test (holds_number 1 cited) (λ y. rw y (λ r n m. m)) (λ y. rw y (λ r. absurd (none_refute r)))

-- a list's own test
pub holds_is_any : (n : ℕ) (ns : List ℕ) → list_any (λ m. m == n) ns ≡ holds_number n ns
holds_is_any n [] = refl
holds_is_any n (m ∷ ns) = ap (λ b. (m == n) || b) (holds_is_any n ns)

pub nil_of : {X : Type 0} (xs : List X) → (length xs == 0) ≡ true → xs ≡ []
nil_of [] h = refl
nil_of (x ∷ xs) h = absurd (grind (arith, nat_tests))
