-- Which chain is given.
use Rattle.std.proofs.Common.{◌≡◌, ◌≢◌, ℕ, Bool, true, false, not, ◌==◌, ◌&&◌, List, [], ◌∷◌, ◌++◌, Option, Some, None, refl, sym, ◌∙◌, subst, arith}
use Rattle.std.specs.Prelude.{Result, Ok, Err, OnOk, OnErr, IfOk, IsErr}
use Rattle.std.proofs.lemmas.Bool.Decides.{nat_tests}
use Rattle.sr_base.specs.Literal.{Literal, complement, has}
use Rattle.sr_model.specs.Assignment.{holds_number}
use Rattle.sr_model.specs.Refutation.{Refutes}
use Rattle.sr_model.specs.Substitution.{has_pair}
use Rattle.sr_model.specs.Chain.{Numbered, clauses, clause_of, HintEnd, closes, adds, misleads, hint, hint_of_clause}
use Rattle.sr_model.proofs.Soundness.{by_test}
use Rattle.sr_watch.specs.declared.parts.Part.TheVariants.{Core, All}
use Rattle.sr_trimming.specs.Placing.{numbers}
use Rattle.sr_trimming.specs.Lean.{stands_in, no_more, is_lean}
use Rattle.sr_trimming.proofs.Placed.{in_numbers}
use Rattle.sr_base.specs.declared.lists.NoMemory.{NoMemory}
use Rattle.sr_load.specs.Loaded.{LoadedState, alive_in, cited_alive, IsChain, Tests}
use Rattle.sr_load.specs.Finding.{PartTests, AreCited}
use Rattle.sr_load.specs.Copies.{CitedTests}

-- each number of a lean chain is that of a clause
found_number : (live : Numbered) (n : ℕ) (o : Option (List Literal)) → clause_of live n ≡ o → (o ≡ None → ⊥) → holds_number n (numbers live) ≡ true
found_number [] n o e some = absurd (some (sym e))
found_number (p ∷ ps) n o e some = by_test (p.0 == n) (λ t. rw t refl) (λ t. rw t (found_number ps n o (rw t at e) some))

lean_step : (live : Numbered) (a : List Literal) (h : ℕ) (hs : List ℕ) (b : Bool) (o : Option (List Literal))
    → (not b && elim (hint_of_clause a h o) [ closes ↦ no_more hs | adds l ↦ not (has l a) && stands_in live (complement l) hs && is_lean live (a ++ l ∷ []) hs | misleads x ↦ false ]) ≡ true → o ≡ None → ⊥
lean_step live a h hs true o e n = cc
lean_step live a h hs false None e n = cc
lean_step live a h hs false (Some c) e n = cc

after_step : (live : Numbered) (a : List Literal) (hs : List ℕ) (b : Bool) (x : HintEnd)
    → (not b && elim x [ closes ↦ no_more hs | adds l ↦ not (has l a) && stands_in live (complement l) hs && is_lean live (a ++ l ∷ []) hs | misleads y ↦ false ]) ≡ true
    → (n : ℕ) → holds_number n hs ≡ true → (l : Literal) × (is_lean live (a ++ l ∷ []) hs ≡ true)
after_step live a hs true x e n h = absurd cc
after_step live a [] false closes e n h = absurd cc
after_step live a (k ∷ hs) false closes e n h = absurd cc
after_step live a hs false (adds l) e n h = (l, third (not (has l a)) (stands_in live (complement l) hs) (is_lean live (a ++ l ∷ []) hs) e)
  where
    third : (x y z : Bool) → (x && y && z) ≡ true → z ≡ true
    third true true z e = e
    third true false z e = absurd cc
    third false y z e = absurd cc
after_step live a hs false (misleads y) e n h = absurd cc

pub lean_found : (live : Numbered) (a : List Literal) (hs : List ℕ) (n : ℕ) → is_lean live a hs ≡ true → holds_number n hs ≡ true → holds_number n (numbers live) ≡ true
lean_found live a [] n e h = absurd cc
lean_found live a (k ∷ hs) n e h = by_test (k == n)
    (λ t. let is : k ≡ n = grind (arith, nat_tests) in subst (λ m. holds_number m (numbers live) ≡ true) is (found_number live k (clause_of live k) refl (lean_step live a k hs (has_pair a) (clause_of live k) e)))
    (λ t. let later : holds_number n hs ≡ true = rw t at h in let r = after_step live a hs (has_pair a) (hint live a k) e n later in lean_found live (a ++ r.0 ∷ []) hs n r.1 later)

-- where the cited clauses don't refute
pub uncited_tests : (st : LoadedState) (b : Bool) (ns : List ℕ) → ¬ Refutes (clauses (cited_alive st)) st.assumed → PartTests st All b ns → Tests st b ns
uncited_tests st false ns none t = t
uncited_tests st true ns none t = record { lean = t; core_first = λ r. absurd (none r) }

pub none_core : (st : LoadedState) (b : Bool) (ns : List ℕ) → b ≡ false → PartTests st Core b ns → ¬ Refutes (clauses (cited_alive st)) st.assumed
none_core st false ns e t = t.0
none_core st true ns e t = absurd cc

pub core_lean : (st : LoadedState) (b : Bool) (ns : List ℕ) → b ≡ true → PartTests st Core b ns → is_lean (alive_in st) st.assumed ns ≡ true
core_lean st true ns e t = t
core_lean st false ns e t = absurd cc

-- where the chain is of cited ones
pub cited_chain : (st : LoadedState) (ns : List ℕ) → is_lean (alive_in st) st.assumed ns ≡ true → AreCited st ns → IsChain st ns
cited_chain st ns lean cited = record {
  lean = lean;
  core_first = λ r n h.
      let one : holds_number n st.cited ≡ true = cited n h in
      let two : holds_number n (numbers (alive_in st)) ≡ true = lean_found (alive_in st) st.assumed ns n lean h in
      in_numbers (λ m. holds_number m st.cited) n (alive_in st) ∙ rw (one, two) refl;
}

-- where it isn't, and the copies were asked
pub chosen : (st : LoadedState) (asked r : Result Bool NoMemory) (first second last : List ℕ) → is_lean (alive_in st) st.assumed first ≡ true → IfOk asked (λ b. CitedTests st b second)
    → (asked ≡ Ok false → (r ≡ Ok true) × (last ≡ first)) → (asked ≡ Ok true → OnOk r (last ≡ second)) → r ≢ Ok false → OnErr asked (IsErr r) → IfOk r (λ b. Tests st b last)
chosen st (Ok false) r first second last lean t one two none fails =
    let x = one refl in
    subst (λ (y : Result Bool NoMemory). IfOk y (λ b. Tests st b last)) (sym x.0) (subst (λ ns. IsChain st ns) (sym x.1) (record { lean = lean; core_first = λ q. absurd (t q) }))
chosen st (Ok true) (Ok false) first second last lean t one two none fails = absurd (none refl)
chosen st (Ok true) (Ok true) first second last lean t one two none fails = subst (λ ns. IsChain st ns) (sym (two refl)) (record { lean = t.0; core_first = λ q. t.1 })
chosen st (Ok true) (Err e) first second last lean t one two none fails = tt
chosen st (Err e) (Ok b) first second last lean t one two none fails = absurd cc
chosen st (Err e) (Err x) first second last lean t one two none fails = tt
