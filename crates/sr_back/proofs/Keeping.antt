-- The step of a lemma that a later step cites.
use Rattle.std.proofs.Common.{◌≡◌, inl, ℕ, true, false, List, [], ◌∷◌, ◌++◌, Some, None, refl, sym, ◌∙◌, ap, subst, arith}
use Rattle.std.specs.Prelude.{All}
use Rattle.sr_base.specs.Literal.{Literal, NoRepeats, SameSet, compl}
use Rattle.sr_model.specs.Assignment.{holds_number}
use Rattle.sr_model.specs.Refutation.{Refutes}
use Rattle.sr_model.specs.Redundancy.{Rup}
use Rattle.sr_model.specs.Chain.{clauses}
use Rattle.sr_model.specs.Meeting.{Step}
use Rattle.sr_model.proofs.Chains.{closed_refutes}
use Rattle.sr_steps.specs.Kept.{Kept, step_at, step_of}
use Rattle.sr_trimming.specs.Reordered.{IsRewritten, SameFirst}
use Rattle.sr_trimming.specs.Citing.{cites, is_cited}
use Rattle.sr_trimming.specs.Lean.{is_lean}
use Rattle.sr_trimming.specs.From.{Place, CitesAlive}
use Rattle.sr_trimming.specs.CoreFirst.{IsCoreFirst}
use Rattle.sr_trimming.specs.Evidence.{assumed}
use Rattle.sr_trimming.proofs.Reordered.{same_compl, same_sym}
use Rattle.sr_trimming.proofs.Leanness.{lean_closes}
use Rattle.sr_load.specs.Loaded.{LoadedState, all_lines, all_in, alive_in, cited_alive, IsChain, HasClauseAt}
use Rattle.sr_back.specs.Citing.{CitesAll}
use Rattle.sr_back.specs.Testing.{place_in, steps_in, assuming_all, with_assumed, IsChainFrom}
use Rattle.sr_back.specs.Turning.{IsKept, IsTurn, IsOpen}
use Rattle.sr_back.proofs.Orders.{no_repeats_at, refutes_sees, chain_sees}
use Rattle.sr_back.proofs.Alive.{lean_live}
use Rattle.sr_back.proofs.Turns.{lean_cited, later_is, IsStepAt, kept_more}
use Rattle.sr_back.proofs.Lines.{place_clause}

-- a clause is as it was read
same_first : (c : List Literal) → SameFirst c c
same_first [] = tt
same_first (l ∷ ls) = refl

pub as_read : (st : LoadedState) (n : ℕ) (p : Place) → All NoRepeats (clauses (all_in st)) → place_in st n ≡ Some p → IsRewritten p.stated.clause p.stated.clause
as_read st n p a e =
    let once : NoRepeats p.stated.clause = no_repeats_at (all_in st) n p.stated.clause a (place_clause st n p e) in
    record { pivot = same_first p.stated.clause; reordered = record { same_literals = λ l. refl; none_twice = once; none_twice_in_other = once } }

-- the assumed literals are those of the lemma, in some order
pub assumed_from : (st : LoadedState) (n : ℕ) (p : Place) (c : List Literal) → place_in st n ≡ Some p → HasClauseAt st n c → SameSet (compl c) (assumed p)
assumed_from st n p c e h = let r = h p.stated.clause (place_clause st n p e) in same_compl c p.stated.clause (same_sym p.stated.clause c r.same_literals)

-- without a witness
abbrev pub propagated : ℕ → List Literal → List ℕ → Step
propagated id c hints = record { id = id; clause = c; witness = None; prefix = hints; groups = [] }

abbrev pub plain_kept : ℕ → List ℕ → Kept
plain_kept id hints = record { id = id; by_witness = false; prefix = hints; groups = [] }

pub step_is : (st : LoadedState) (k : Kept) (p : Place) → place_in st k.id ≡ Some p → step_of st.formula.clauses (all_lines st) k ≡ step_at (Some p) k
step_is st k p e = ap (λ o. step_at o k) e

propagated_at : (st : LoadedState) (id : ℕ) (hints : List ℕ) (steps : List Step) → (t : IsTurn st id steps) → IsChainFrom st (assumed t.place) hints → IsStepAt st id t.place (propagated id t.place.stated.clause hints) steps
propagated_at st id hints steps t k =
    let s : Step = propagated id t.place.stated.clause hints in
    record {
      number = refl;
      full = t.full;
      of = record {
        clause = as_read st id t.place t.sound.distinct t.is_place;
        by_propagation = (λ e. subst (λ ps. Rup (clauses ps) t.place.stated.clause) (sym t.before) (closed_refutes false (alive_in st) (assumed t.place) hints (lean_closes false (alive_in st) (assumed t.place) hints k.lean)), λ r. refl);
        by_witness = inl refl;
        cites_alive = subst (λ ps. CitesAlive ps s) (sym t.before) (λ n h. lean_live (alive_in st) (assumed t.place) hints n k.lean (grind arith));
      };
      lean = (lean_cited (alive_in st) (s ∷ steps) (assumed t.place) hints (λ n h. grind arith) k.lean, refl);
      core_first = subst (λ ps. IsCoreFirst ps (assumed t.place) hints) (sym (later_is st s steps t.cites)) k.core_first;
    }

pub keeps_propagated : (st new : LoadedState) (id : ℕ) (hints : List ℕ) (was kept : List Kept) → (t : IsTurn st id (steps_in st was)) → IsChainFrom st (assumed t.place) hints → CitesAll st new hints → kept ≡ plain_kept id hints ∷ was
    → IsKept new (steps_in new kept)
keeps_propagated st new id hints was kept t k cites e =
    let s : Step = propagated id t.place.stated.clause hints in
    let steps : steps_in st kept ≡ s ∷ steps_in st was = ap (steps_in st) e ∙ ap (λ x. x ∷ steps_in st was) (step_is st (plain_kept id hints) t.place t.is_place) in
    let more : IsKept new (s ∷ steps_in st was) = kept_more st new id s (steps_in st was) t cites.same (λ n. cites.cited n ∙ (let z : holds_number n st.cited ≡ is_cited n (steps_in st was) = t.cites n in grind arith)) (propagated_at st id hints (steps_in st was) t k) in
    subst (IsKept new) (sym (ap (λ x. steps_in x kept) cites.same ∙ steps)) more

-- a chain from the complements of the clause in memory
pub chain_from : (st : LoadedState) (n : ℕ) (p : Place) (c : List Literal) (hints : List ℕ) → All NoRepeats (clauses (all_in st)) → st.assumed ≡ [] → place_in st n ≡ Some p → HasClauseAt st n c → IsChain (assuming_all st (compl c)) hints
    → IsChainFrom st (assumed p) hints
chain_from st n p c hints d none e h k =
    let a : st.assumed ++ compl c ≡ compl c = ap (λ x. x ++ compl c) none in
    chain_sees st (compl c) (assumed p) hints d (assumed_from st n p c e h)
    (record { lean = subst (λ x. is_lean (alive_in st) x hints ≡ true) a k.lean; core_first = subst (λ x. IsCoreFirst (cited_alive st) x hints) a k.core_first })

-- where propagation doesn't show the lemma
pub left_open : (st new : LoadedState) (id : ℕ) (was kept : List Kept) (c : List Literal) → IsTurn st id (steps_in st was) → st.assumed ≡ [] → HasClauseAt st id c → new ≡ assuming_all st (compl c)
    → (¬ Refutes (clauses (alive_in new)) new.assumed) → kept ≡ was → IsOpen new id was kept
left_open st new id was kept c t none h e unrefuted same =
    let all : List Literal = st.assumed ++ compl c in
    let is : all ≡ compl c = ap (λ x. x ++ compl c) none in
    let from : SameSet all (assumed t.place) = subst (λ x. SameSet x (assumed t.place)) (sym is) (assumed_from st id t.place c t.is_place h) in
    let no' : ¬ Refutes (clauses (alive_in st)) all = subst (λ x. ¬ Refutes (clauses (alive_in x)) x.assumed) e unrefuted in
    let o : IsOpen (with_assumed st all) id was kept = record {
      place = t.place;
      tested = record { is_place = t.is_place; alive = t.before; number = t.number; from = from; cites = t.cites; cited_alive = t.alive; distinct = t.sound.distinct };
      not_rup = λ r. no' (refutes_sees st (assumed t.place) all t.sound.distinct (same_sym all (assumed t.place) from) (subst (λ ps. Refutes (clauses ps) (assumed t.place)) t.before r));
      turn = record {
        sound = record { in_conflict = t.sound.in_conflict; distinct = t.sound.distinct };
        place = t.place;
        is_place = t.is_place;
        before = t.before;
        full = t.full;
        number = t.number;
        tail = t.tail;
        cited = t.cited;
        cites = t.cites;
        alive = t.alive;
        known = t.known;
      };
      same = same;
    } in
    subst (λ x. IsOpen x id was kept) (sym e) o
