-- The order of the assumed literals, and of the literals of a clause, plays no part.
use Rattle.std.proofs.Common.{◌≡◌, ℕ, ◌==◌, true, false, List, [], ◌∷◌, Some, refl, sym, ◌∙◌, subst, arith}
use Rattle.std.specs.Prelude.{All}
use Rattle.std.proofs.lemmas.Bool.Decides.{nat_tests}
use Rattle.sr_base.specs.Literal.{Literal, NoRepeats, SameSet}
use Rattle.sr_model.specs.Assignment.{holds_number}
use Rattle.sr_model.specs.Refutation.{Refutes}
use Rattle.sr_model.specs.Chain.{Numbered, clauses, clause_of}
use Rattle.sr_model.proofs.Soundness.{by_test}
use Rattle.sr_trimming.specs.Reordered.{AreReordered}
use Rattle.sr_trimming.specs.Citing.{AreRising}
use Rattle.sr_trimming.proofs.Reordered.{same_sym}
use Rattle.sr_trimming.proofs.Rewritten.{refutes_same}
use Rattle.sr_trimming.proofs.ProofsRewritten.{apart_first, apart_rest, lean_same}
use Rattle.sr_trimming.proofs.CoreFirst.{clauses_reordered}
use Rattle.sr_load.specs.Loaded.{LoadedState, all_in, alive_in, cited_alive}
use Rattle.sr_back.specs.Testing.{IsChainFrom}
use Rattle.sr_back.proofs.Maps.{picked_test, found_above}
use Rattle.sr_back.proofs.Standing.{alive_rises}
use Rattle.sr_back.proofs.Indexing.{alive_within, cited_rises}

-- a clause of apart ones has no repeats
pub no_repeats_at : (ps : Numbered) (n : ℕ) (c : List Literal) → All NoRepeats (clauses ps) → clause_of ps n ≡ Some c → NoRepeats c
no_repeats_at [] n c a f = absurd cc
no_repeats_at (p ∷ ps) n c a f = by_test (p.0 == n)
    (λ e. let g : Some p.1 ≡ Some c = rw e at f in let is : p.1 ≡ c = cc in subst NoRepeats is (apart_first p.1 (clauses ps) a))
    (λ e. no_repeats_at ps n c (apart_rest p.1 (clauses ps) a) (rw e at f))

self_from : (k : ℕ) (ps : Numbered) → AreRising k ps → ((n : ℕ) (c : List Literal) → clause_of ps n ≡ Some c → NoRepeats c) → AreReordered ps ps
self_from k [] r f = tt
self_from k (p ∷ ps) r f =
    let here : NoRepeats p.1 = f p.0 p.1 (let e : (p.0 == p.0) ≡ true = grind (arith, nat_tests) in rw e refl) in (
      refl,
      record { same_literals = λ l. refl; none_twice = here; none_twice_in_other = here },
      self_from p.0 ps r.1 (λ n c h. f n c (let up = found_above p.0 n ps c r.1 h in let e : (p.0 == n) ≡ false = grind (arith, nat_tests) in rw e h)),
    )

alive_self : (st : LoadedState) → All NoRepeats (clauses (all_in st)) → AreReordered (alive_in st) (alive_in st)
alive_self st a = self_from 0 (alive_in st) (alive_rises st.formula.clauses st.standing) (λ n c f. no_repeats_at (all_in st) n c a (alive_within st n c f))

cited_self : (st : LoadedState) → All NoRepeats (clauses (all_in st)) → AreReordered (cited_alive st) (cited_alive st)
cited_self st a = self_from 0 (cited_alive st) (cited_rises st) (λ n c f. no_repeats_at (all_in st) n c a (alive_within st n c (picked_test (λ m. holds_number m st.cited) n (alive_in st) c f).1))

pub refutes_sees : (st : LoadedState) (a b : List Literal) → All NoRepeats (clauses (all_in st)) → SameSet a b → Refutes (clauses (alive_in st)) a → Refutes (clauses (alive_in st)) b
refutes_sees st a b d s r = refutes_same (clauses (alive_in st)) (clauses (alive_in st)) a b (clauses_reordered (alive_in st) (alive_in st) (alive_self st d)) s r

pub chain_sees : (st : LoadedState) (a b : List Literal) (hints : List ℕ) → All NoRepeats (clauses (all_in st)) → SameSet a b → IsChainFrom st a hints → IsChainFrom st b hints
chain_sees st a b hints d s c = record {
  lean = sym (lean_same (alive_in st) (alive_in st) a b hints (alive_self st d) s) ∙ c.lean;
  core_first = λ r. c.core_first (refutes_same (clauses (cited_alive st)) (clauses (cited_alive st)) b a (clauses_reordered (cited_alive st) (cited_alive st) (cited_self st d)) (same_sym a b s) r);
}
