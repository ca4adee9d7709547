-- What one clause tells of a lemma that is tested with its witness.
use Rattle.std.proofs.Common.{◌≡◌, ◌⊎◌, inl, inr, ℕ, true, false, not, List, [], ◌∷◌, ◌++◌, Option, Some, None, refl, sym, ◌∙◌, ap, subst, arith, length, ◌==◌}
use Rattle.std.specs.Prelude.{All}
use Rattle.std.proofs.lemmas.Bool.Decides.{nat_tests}
use Rattle.sr_base.specs.Literal.{Literal, NoRepeats, SameSet, compl}
use Rattle.sr_model.specs.Refutation.{Refutes}
use Rattle.sr_model.specs.Substitution.{Substitution, has_pair, untouched, satisfied, left, reduction}
use Rattle.sr_model.specs.Chain.{clauses}
use Rattle.sr_model.specs.Meeting.{needs_hints}
use Rattle.sr_model.proofs.Soundness.{by_test}
use Rattle.sr_model.proofs.Chains.{pair_refutes}
use Rattle.sr_trimming.specs.Reordered.{IsReordered}
use Rattle.sr_trimming.specs.Lean.{group_start, needs_group, left_set}
use Rattle.sr_trimming.proofs.Reordered.{reduction_same, same_sym}
use Rattle.sr_trimming.proofs.ProofsRewritten.{group_start_same}
use Rattle.sr_trimming.proofs.Rewritten.{needs_same}
use Rattle.std.specs.Prelude.{is_some}
use Rattle.std.specs.Option.{option_copied}
use denote.Ref.{Bor}
use Rattle.sr_model.specs.Substitution.{Witness, substitution, IsPivot}
use Rattle.sr_model.specs.Witnesses.{witness_by}
use Rattle.sr_model.specs.Dsr.{Lemma}
use Rattle.sr_wit.specs.Reductions.{reduced_of}
use Rattle.sr_wit.specs.declared.reduce.Reduced.{Reduced}
use Rattle.sr_wit.specs.declared.reduce.Reduced.TheVariants.{Untouched, Satisfied, Left}
use Rattle.sr_trimming.specs.From.{Place, witness_of}
use Rattle.sr_back.specs.Testing.{place_in, HasWitness, IsWitnessOf}
use Rattle.sr_load.specs.Loaded.{LoadedState, all_in, alive_in, IsChain}
use Rattle.sr_back.specs.Testing.{assuming_all, IsChainFrom}
use Rattle.sr_back.proofs.Orders.{refutes_sees, chain_sees}

needs_alike : (a b : List Literal) (w : Substitution) (c d : List Literal) → SameSet a b → SameSet c d → needs_group a w c ≡ needs_group b w d
needs_alike a b w c d s e = needs_same a b (reduction w c) (reduction w d) s (reduction_same w c d e)

-- nothing is left of the clause
pub spare_of : (a b : List Literal) (w : Substitution) (c d : List Literal) → SameSet a b → IsReordered c d → (reduction w d ≡ untouched) ⊎ (reduction w d ≡ satisfied) → needs_group b w c ≡ false
spare_of a b w c d s r (inl e) = needs_alike b a w c d (same_sym a b s) r.same_literals ∙ ap (needs_hints a) e
spare_of a b w c d s r (inr e) = needs_alike b a w c d (same_sym a b s) r.same_literals ∙ ap (needs_hints a) e

-- where something is left
pub left_start : (a b : List Literal) (w : Substitution) (c d out : List Literal) → SameSet a b → IsReordered c d → reduction w d ≡ left out → SameSet (a ++ compl out) (group_start b w c)
left_start a b w c d out s r e = subst (λ x. SameSet x (group_start b w c)) (ap (left_set a) e) (group_start_same a b w d c s (same_sym c d r.same_literals))

pub left_needs : (a b : List Literal) (w : Substitution) (c d out : List Literal) → SameSet a b → IsReordered c d → reduction w d ≡ left out → needs_group b w c ≡ not (has_pair (a ++ compl out))
left_needs a b w c d out s r e = needs_alike b a w c d (same_sym a b s) r.same_literals ∙ ap (needs_hints a) e

-- where it isn't refuted, it has no pair
pub stuck_of : (st : LoadedState) (b : List Literal) (w : Substitution) (c d out : List Literal) → All NoRepeats (clauses (all_in st)) → SameSet st.assumed b → IsReordered c d → reduction w d ≡ left out
    → (¬ Refutes (clauses (alive_in st)) (st.assumed ++ compl out)) → (needs_group b w c ≡ true) × (¬ Refutes (clauses (alive_in st)) (group_start b w c))
stuck_of st b w c d out all s r e n = (
  left_needs st.assumed b w c d out s r e ∙ by_test (has_pair (st.assumed ++ compl out)) (λ y. absurd (n (inr (pair_refutes (st.assumed ++ compl out) (clauses (alive_in st)) y)))) (λ y. ap not y),
  λ q. n (refutes_sees st (group_start b w c) (st.assumed ++ compl out) all (same_sym (st.assumed ++ compl out) (group_start b w c) (left_start st.assumed b w c d out s r e)) q),
)

-- an empty chain is lean where there is a pair, and another one where there is none
pub paired_of : (st : LoadedState) (b : List Literal) (w : Substitution) (c d out : List Literal) (hints : List ℕ) → SameSet st.assumed b → IsReordered c d → reduction w d ≡ left out
    → (length hints == 0) ≡ true → IsChain (assuming_all st (compl out)) hints → needs_group b w c ≡ false
paired_of st b w c d out [] s r e z k = left_needs st.assumed b w c d out s r e ∙ ap not k.lean
paired_of st b w c d out (h ∷ hs) s r e z k = absurd (grind (arith, nat_tests))

pub met_of : (st : LoadedState) (b : List Literal) (w : Substitution) (c d out : List Literal) (hints : List ℕ) → All NoRepeats (clauses (all_in st)) → SameSet st.assumed b → IsReordered c d → reduction w d ≡ left out
    → (length hints == 0) ≡ false → IsChain (assuming_all st (compl out)) hints → (needs_group b w c ≡ true) × IsChainFrom st (group_start b w c) hints
met_of st b w c d out [] all s r e z k = absurd cc
met_of st b w c d out (h ∷ hs) all s r e z k = (
  left_needs st.assumed b w c d out s r e ∙ (let no : has_pair (st.assumed ++ compl out) ≡ false = grind (arith, k.lean) in ap not no),
  chain_sees st (st.assumed ++ compl out) (group_start b w c) (h ∷ hs) all (left_start st.assumed b w c d out s r e) (record { lean = k.lean; core_first = k.core_first }),
)

-- a clause of which nothing is left
pub spare_unless : (w : Substitution) (d out : List Literal) (r : Reduced) → (r ≡ Left → ⊥) → reduction w d ≡ reduced_of r out → (reduction w d ≡ untouched) ⊎ (reduction w d ≡ satisfied)
spare_unless w d out Untouched n e = inl e
spare_unless w d out Satisfied n e = inr e
spare_unless w d out Left n e = absurd (n refl)

-- a lemma has one witness
pub same_witness : (st : LoadedState) (id : ℕ) (own : Option Witness) (v w : Witness) → HasWitness st id own → IsWitnessOf st id v → IsWitnessOf st id w → v ≡ w
same_witness st id own v w h x y = let e : Some v ≡ Some w = sym (x h.place h.is_place) ∙ y h.place h.is_place in cc

written_first : (l : Lemma) (w : Witness) → l.witness ≡ Some w → witness_of l ≡ Some w
written_first l w e = rw e refl

pub has_written : (st : LoadedState) (id : ℕ) (p : Place) (w : Witness) → place_in st id ≡ Some p → p.stated.witness ≡ Some w → HasWitness st id None
has_written st id p w at e = record { place = p; is_place = at; witness = w; is_witness = written_first p.stated w e; written = λ _. e; beside = λ v f. absurd cc }

pivot_first : (l : Lemma) (k : Literal) → l.witness ≡ None → IsPivot k l.clause → witness_of l ≡ Some (witness_by k [] [])
pivot_first l k e i = at l.clause l.witness e i
  where
    at : (c : List Literal) (o : Option Witness) → o ≡ None → IsPivot k c
        → elim o [ Some w ↦ Some w | None ↦ elim c [ [] ↦ None | j ∷ ks ↦ Some (record { pivot = j; assigned = []; maps = [] }) ] ] ≡ Some (witness_by k [] [])
    at [] o e i = absurd i
    at (j ∷ ks) None e i = ap (λ x. let v : Witness = record { pivot = x; assigned = []; maps = [] } in Some v) (sym i)
    at (j ∷ ks) (Some w) e i = absurd cc

pub has_pivot_only : (st : LoadedState) (id : ℕ) (p : Place) (k : Literal) (v : Witness) → place_in st id ≡ Some p → p.stated.witness ≡ None → IsPivot k p.stated.clause → v ≡ witness_by k [] [] → HasWitness st id (Some v)
has_pivot_only st id p k v at e i is = record {
  place = p;
  is_place = at;
  witness = v;
  is_witness = pivot_first p.stated k e i ∙ ap Some (sym is);
  written = λ f. absurd cc;
  beside = λ w f. cc;
}

some_of : (o : Option Witness) → is_some o ≡ true → (w : Witness) × (o ≡ Some w)
some_of None h = absurd cc
some_of (Some w) h = (w, refl)

none_of : (o : Option Witness) → is_some o ≡ false → o ≡ None
none_of None h = refl
none_of (Some w) h = absurd cc

copied_some : {X : Type 0} (o : Option (Bor X)) → is_some (option_copied o) ≡ is_some o
copied_some None = refl
copied_some (Some x) = refl

pub written_there : (o : Option (Bor Witness)) (l : Lemma) → is_some o ≡ true → l.witness ≡ option_copied o → (w : Witness) × (l.witness ≡ Some w)
written_there o l h e = let r = some_of (option_copied o) (copied_some o ∙ h) in (r.0, e ∙ r.1)

pub none_there : (o : Option (Bor Witness)) (l : Lemma) → is_some o ≡ false → l.witness ≡ option_copied o → l.witness ≡ None
none_there o l h e = e ∙ none_of (option_copied o) (copied_some o ∙ h)

-- what was left of the clause of a lemma's witness
pub left_of : (v w : Witness) (d out : List Literal) (r : Reduced) → v ≡ w → r ≡ Left → reduction (substitution v) d ≡ reduced_of r out → reduction (substitution w) d ≡ left out
left_of v w d out r e l h = ap (λ x. reduction (substitution x) d) (sym e) ∙ h ∙ ap (λ x. reduced_of x out) l
