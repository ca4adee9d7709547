-- From a whole pass to what is written of it.
use Rattle.std.proofs.Common.{◌≡◌, ◌∙◌, ◌⊎◌, ◌↔◌, ◌++◌, inr, ◌+◌, ℕ, Bool, suc, true, false, List, [], ◌∷◌, None, refl, sym, ap, subst, arith, length}
use Rattle.std.specs.Prelude.{◌≤◌, is_some, nat_lt, Some, ◌&&◌, ◌||◌, sum_by, All}
use Rattle.std.proofs.lemmas.Bool.Decides.{nat_tests}
use Rattle.std.proofs.lemmas.List.{map-append, length-map}
use Rattle.std.proofs.lemmas.List.Sums.{sum_by-append}
use Rattle.sr_model.proofs.Soundness.{by_test}
use Rattle.sr_base.specs.Literal.{Literal, NoRepeats}
use Rattle.sr_base.specs.Limits.{LimitValues}
use Rattle.sr_base.specs.declared.names.Which.{Which}
use Rattle.sr_base.specs.declared.names.Which.TheVariants as which
use Rattle.sr_base.specs.declared.names.LimitKind.TheVariants.{Bytes}
use Rattle.sr_model.specs.Assignment.{holds_number}
use Rattle.sr_model.specs.Dimacs.{Formula}
use Rattle.sr_model.specs.Chain.{Numbered, clauses}
use Rattle.sr_model.specs.Meeting.{Step}
use Rattle.sr_model.specs.Judging.{numbered_from}
use Rattle.sr_model.specs.Writing.{written_formula}
use Rattle.sr_trimming.specs.Citing.{groups_cite, cites, is_cited, cited_of, all_of, numbered_steps}
use Rattle.sr_trimming.specs.Placing.{numbers}
use Rattle.sr_trimming.specs.Reordered.{SameFirst, IsRewritten, IsStepRewritten, AreStepsRewritten}
use Rattle.sr_trimming.specs.Loading.{Done, at_start, after_all}
use Rattle.sr_model.specs.Redundancy.{Rup}
use Rattle.sr_trimming.specs.From.{witness_of, Place, place_of, CitesAlive, IsStepOf, AreFrom, LemmasHavePivots}
use Rattle.sr_trimming.specs.Backward.{AreLinked}
use Rattle.sr_trimming.specs.Written.{CiteKnown}
use Rattle.sr_trimming.proofs.ProofsRewritten.{cited_same, core_same, linked_same}
use Rattle.sr_trimming.proofs.Written.{written_verified, core_first_written}
use Rattle.sr_steps.specs.Kept.{Kept, step_of}
use Rattle.sr_back.specs.Pass.{IsWholePass, steps_of}
use Rattle.sr_placing.specs.Placing.{PlacingValue, placing_of}
use Rattle.sr_placing.specs.Counting as kept
use Rattle.sr_placing.proofs.Placings.{hints_are}
use Rattle.sr_load.specs.Loading.{lemmas_in, passed_in}
use Rattle.sr_load.specs.Loaded.{LoadedState, all_lines}
use Rattle.sr_emit.specs.declared.outcome.Outcome.TheVariants as outcome
use Rattle.sr_emit.specs.declared.counts.Counts.{Counts}
use Rattle.sr_trim.specs.Said.{TrimSaid}
use Rattle.sr_trim.specs.Trimming.{IsTrimming, core_text, group_hints, step_hints, counted, trim_counts}
use Rattle.sr_trim.specs.Deciding.{stops, trims, passes_lsr, passes_core, ByPass}
use Rattle.sr_trim.specs.Passing.{kept_steps, IsWritable, PassesLimit}

-- what steps cite
cites_same : (n : ℕ) (s t : Step) → IsStepRewritten s t → cites n t ≡ cites n s
cites_same n s t w = sym (ap (λ hs. holds_number n hs || groups_cite n s.groups) w.prefix ∙ ap (λ gs. holds_number n t.prefix || groups_cite n gs) w.groups)

first_trans : (c d e : List Literal) → SameFirst c d → SameFirst d e → SameFirst c e
first_trans [] [] e f g = g
first_trans [] (k ∷ d) e f g = absurd f
first_trans (l ∷ c) [] e f g = absurd f
first_trans (l ∷ c) (k ∷ d) [] f g = absurd g
first_trans (l ∷ c) (k ∷ d) (j ∷ e) f g = f ∙ g

clause_trans : (c d e : List Literal) → IsRewritten c d → IsRewritten d e → IsRewritten c e
clause_trans c d e x y = record {
  pivot = first_trans c d e x.pivot y.pivot;
  reordered = record {
    same_literals = λ k. x.reordered.same_literals k ∙ y.reordered.same_literals k;
    none_twice = x.reordered.none_twice;
    none_twice_in_other = y.reordered.none_twice_in_other;
  };
}

none_first : (c d : List Literal) → SameFirst c d → c ≡ [] → d ≡ []
none_first [] [] f e = refl
none_first [] (k ∷ d) f e = absurd f
none_first (l ∷ c) d f e = absurd cc

first_refl : (c : List Literal) → SameFirst c c
first_refl [] = tt
first_refl (l ∷ c) = refl

alive_same : (live : Numbered) (s t : Step) → IsStepRewritten s t → CitesAlive live s → CitesAlive live t
alive_same live s t w h n e = h n (sym (cites_same n s t w) ∙ e)

step_of_same : (s t : Step) (p : Place) → IsStepRewritten s t → IsStepOf s p → IsStepOf t p
step_of_same s t p w o = record {
  clause = clause_trans p.stated.clause s.clause t.clause o.clause w.clause;
  by_propagation = subst (λ x. (x ≡ None) ↔ Rup (clauses p.alive) p.stated.clause) w.witness o.by_propagation;
  by_witness = subst (λ x. (x ≡ None) ⊎ (x ≡ witness_of p.stated)) w.witness o.by_witness;
  cites_alive = alive_same p.alive s t w o.cites_alive;
}

-- steps that are written in another order come from the same lemmas
from_same : (f : List (List Literal)) (ds : List Done) (ss ts : List Step) → AreStepsRewritten ss ts → AreFrom f ds ss → AreFrom f ds ts
from_same f ds [] ts w h = absurd h
from_same f ds (s ∷ ss) [] w h = absurd w
from_same f ds (s ∷ []) (t ∷ u ∷ ts) w h = absurd w.1
from_same f ds (s ∷ r ∷ ss) (t ∷ []) w h = absurd w.1
from_same f ds (s ∷ []) (t ∷ []) w h = record {
  id = sym w.0.id ∙ h.id;
  clause = none_first s.clause t.clause w.0.clause.pivot h.clause;
  no_witness = sym w.0.witness ∙ h.no_witness;
  cites_alive = alive_same (after_all (at_start f) ds).alive s t w.0 h.cites_alive;
}
from_same f ds (s ∷ r ∷ ss) (t ∷ u ∷ ts) w h =
    ((h.0.0, ap (place_of (at_start f) ds) (sym w.0.id) ∙ h.0.1, step_of_same s t h.0.0 w.0 h.0.2), from_same f ds (r ∷ ss) (u ∷ ts) w.1 h.1)

-- steps that come from lemmas are written as they are
step_refl : (s : Step) → IsRewritten s.clause s.clause → IsStepRewritten s s
step_refl s c = record { id = refl; clause = c; witness = refl; prefix = refl; groups = refl }

own : (c : List Literal) → NoRepeats c → IsRewritten c c
own c n = record { pivot = first_refl c; reordered = record { same_literals = λ k. refl; none_twice = n; none_twice_in_other = n } }

none_own : (c : List Literal) → c ≡ [] → IsRewritten c c
none_own [] e = own [] tt
none_own (l ∷ c) e = absurd cc

from_refl : (f : List (List Literal)) (ds : List Done) (ss : List Step) → AreFrom f ds ss → AreStepsRewritten ss ss
from_refl f ds [] h = absurd h
from_refl f ds (s ∷ []) h = (step_refl s (none_own s.clause h.clause), tt)
from_refl f ds (s ∷ r ∷ ss) h = (step_refl s (own s.clause h.0.2.clause.reordered.none_twice_in_other), from_refl f ds (r ∷ ss) h.1)

-- they cite known clauses too
numbers_alike : (ss ts : List Step) → AreStepsRewritten ss ts → numbers (numbered_steps ss) ≡ numbers (numbered_steps ts)
numbers_alike [] [] w = refl
numbers_alike [] (t ∷ ts) w = absurd w
numbers_alike (s ∷ ss) [] w = absurd w
numbers_alike (s ∷ ss) (t ∷ ts) w = ap (λ n. n ∷ numbers (numbered_steps ss)) w.0.id ∙ ap (λ ns. t.id ∷ ns) (numbers_alike ss ts w.1)

known_same : (f : List (List Literal)) (ss ts : List Step) → AreStepsRewritten ss ts → CiteKnown f ss → CiteKnown f ts
known_same f ss ts w h n e =
    let all : numbers (all_of f ss) ≡ numbers (all_of f ts) = map-append (λ p. p.0) (numbered_from 1 f) (numbered_steps ss) ∙ ap (λ ns. numbers (numbered_from 1 f) ++ ns) (numbers_alike ss ts w) ∙ sym (map-append (λ p. p.0) (numbered_from 1 f) (numbered_steps ts)) in
    subst (λ ns. holds_number n ns ≡ true) all (h n (cited_same n ss ts w ∙ e))

-- so a whole pass is a trimming, whichever order is written
pub trimming_of : (f : List (List Literal)) (ds : List Done) (ks : List Kept) (ts : List Step) → All NoRepeats f → LemmasHavePivots ds → IsWholePass f ds ks → AreStepsRewritten (steps_of f ds ks) ts
    → IsTrimming f ds ts
trimming_of f ds ks ts n h p w =
    let ss : List Step = steps_of f ds ks in
    let from : AreFrom f ds ts = from_same f ds (steps_of f ds ks) ts w p.from in
    let linked : AreLinked (length f) ts = linked_same (length f) (steps_of f ds ks) ts w p.linked in
    let known : CiteKnown f ts = known_same f (steps_of f ds ks) ts w p.known in
    record {
      from = from;
      linked = linked;
      trimmed = (written_verified true f ds ss ts n w linked h from known p.lean).0;
      met = λ strict. (written_verified strict f ds ss ts n w linked h from known p.lean).1;
      verified = λ strict. (written_verified strict f ds ss ts n w linked h from known p.lean).2;
      unsat = (written_verified true f ds ss ts n w linked h from known p.lean).3;
      core_first = core_first_written f ds ss ts n w linked from known p.core_first;
    }

-- the counts
steps_count : (ss ts : List Step) → AreStepsRewritten ss ts → length ts ≡ length ss
steps_count [] [] w = refl
steps_count [] (t ∷ ts) w = absurd w
steps_count (s ∷ ss) [] w = absurd w
steps_count (s ∷ ss) (t ∷ ts) w = ap suc (steps_count ss ts w.1)

hints_count : (ss ts : List Step) → AreStepsRewritten ss ts → sum_by step_hints ts ≡ sum_by step_hints ss
hints_count [] [] w = refl
hints_count [] (t ∷ ts) w = absurd w
hints_count (s ∷ ss) [] w = absurd w
hints_count (s ∷ ss) (t ∷ ts) w =
    let here : step_hints s ≡ step_hints t = ap (λ hs. length hs + sum_by group_hints s.groups) w.0.prefix ∙ ap (λ gs. length t.prefix + sum_by group_hints gs) w.0.groups in
    let rest : sum_by step_hints ts ≡ sum_by step_hints ss = hints_count ss ts w.1 in
    omega (arith, here, rest, sum_by-append step_hints (s ∷ []) ss, sum_by-append step_hints (t ∷ []) ts)

kept_hints : (f : List (List Literal)) (ds : List Done) (ks : List Kept) → sum_by step_hints (steps_of f ds ks) ≡ sum_by kept.step_hints ks
kept_hints f ds [] = refl
kept_hints f ds (k ∷ ks) =
    let is = hints_are f ds k in
    let here : step_hints (step_of f ds k) ≡ kept.step_hints k = ap (λ hs. length hs + sum_by group_hints (step_of f ds k).groups) is.0 ∙ ap (λ gs. length k.prefix + sum_by group_hints gs) is.1 in
    let rest : sum_by step_hints (steps_of f ds ks) ≡ sum_by kept.step_hints ks = kept_hints f ds ks in
    omega (arith, here, rest, sum_by-append step_hints (step_of f ds k ∷ []) (steps_of f ds ks), sum_by-append kept.step_hints (k ∷ []) ks)

core_count : (f : List (List Literal)) (ss ts : List Step) → AreStepsRewritten ss ts → length (cited_of (numbered_from 1 f) ts) ≡ length (numbers (cited_of (numbered_from 1 f) ss))
core_count f ss ts w = at (numbered_from 1 f)
  where
    at : (ps : Numbered) → length (cited_of ps ts) ≡ length (numbers (cited_of ps ss))
    at [] = refl
    at (p ∷ ps) = let e : is_cited p.0 ss ≡ is_cited p.0 ts = cited_same p.0 ss ts w in let rest : length (cited_of ps ts) ≡ length (numbers (cited_of ps ss)) = at ps in
        by_test (is_cited p.0 ts) (λ t. rw (t, e ∙ t) (ap suc rest)) (λ t. rw (t, e ∙ t) rest)

-- what is counted of what was kept is what is counted of the steps
pub counts_are : (f : List (List Literal)) (ds : List Done) (ks : List Kept) (ts : List Step) (k : Counts) → AreStepsRewritten (steps_of f ds ks) ts
    → k.clauses ≡ length f → k.core ≡ length (placing_of f (steps_of f ds ks)).core → k.lemmas ≡ lemmas_in ds → k.steps ≡ length ks
    → k.hints ≡ kept.counted (sum_by kept.step_hints ks) → k.passed ≡ passed_in ds → k ≡ trim_counts f ds ts
counts_are f ds ks ts k w is_clauses is_core is_lemmas is_steps is_hints is_passed =
    let n : length ts ≡ length ks = steps_count (steps_of f ds ks) ts w ∙ length-map ks (step_of f ds) in
    let h : sum_by step_hints ts ≡ sum_by kept.step_hints ks = hints_count (steps_of f ds ks) ts w ∙ kept_hints f ds ks in
    let c : length (cited_of (numbered_from 1 f) ts) ≡ k.core = core_count f (steps_of f ds ks) ts w ∙ sym is_core in
    rw (n, h, c) (at k is_clauses is_lemmas is_steps is_hints is_passed)
  where
    at : (k : Counts) → k.clauses ≡ length f → k.lemmas ≡ lemmas_in ds → k.steps ≡ length ks → k.hints ≡ kept.counted (sum_by kept.step_hints ks) → k.passed ≡ passed_in ds
        → k ≡ record { clauses = length f; core = k.core; lemmas = lemmas_in ds; steps = length ks; hints = counted (sum_by kept.step_hints ks); passed = passed_in ds }
    at k a b c d e = rw (sym a, sym b, sym c, sym d, sym e) refl

-- a length that is counted up to 64 bits, against a limit that is below
pub count_tells : (b n r : ℕ) → b ≤ 4294967296 → r ≡ kept.counted n → nat_lt b r ≡ nat_lt b n
count_tells b n r few is = grind (arith, nat_tests)

module _ (lim : LimitValues) (s : TrimSaid) (f : Formula) (ds : List Done) (ts : List Step) where
  pub lsr_long : passes_lsr lim s f ts ≡ true → PassesLimit lim s f ds ts (Some which.Lsr)
  lsr_long e = rw e refl

  pub core_long : passes_lsr lim s f ts ≡ false → passes_core lim s f ts ≡ true → PassesLimit lim s f ds ts (Some which.Core)
  core_long a e = rw (a, e) refl

  pub none_long : passes_lsr lim s f ts ≡ false → passes_core lim s f ts ≡ false → PassesLimit lim s f ds ts None
  none_long a e = rw (a, e) refl

-- the order in which clauses are written doesn't change the core
pub core_text_same : (f : Formula) (ss ts : List Step) → AreStepsRewritten ss ts → core_text f ss ≡ core_text f ts
core_text_same f ss ts w = ap (λ cs. written_formula (record { vars = f.vars; clauses = cs })) (core_same f.clauses ss ts w)

pub passes_core_same : (lim : LimitValues) (s : TrimSaid) (f : Formula) (ss ts : List Step) → AreStepsRewritten ss ts → passes_core lim s f ss ≡ passes_core lim s f ts
passes_core_same lim s f ss ts w = ap (λ (x : List ℕ). is_some s.core && nat_lt lim.bytes (length x)) (core_text_same f ss ts w)

-- what is told of the formula as it was read
pub core_told : (lim : LimitValues) (s : TrimSaid) (f g : Formula) (p : PlacingValue) (ss : List Step) (b : Bool) → g ≡ f
    → ((rs : List Step) → p ≡ placing_of g.clauses rs → b ≡ passes_core lim s g rs) → p ≡ placing_of f.clauses ss → b ≡ passes_core lim s f ss
core_told lim s f g p ss b e h is =
    subst (λ (x : Formula). b ≡ passes_core lim s x ss) e (h ss (is ∙ ap (λ (x : Formula). placing_of x.clauses ss) (sym e)))

-- kept steps may be written as they are
pub as_kept : (st : LoadedState) (ks : List Kept) → IsWritable st ks → AreStepsRewritten (kept_steps st ks) (kept_steps st ks)
as_kept st ks h = from_refl st.formula.clauses (all_lines st) (kept_steps st ks) h.whole.from

module _ (lim : LimitValues) (s : TrimSaid) (st : LoadedState) (ks : List Kept) (n : All NoRepeats st.formula.clauses) (h : IsWritable st ks) where
  -- a file passes the limit
  pub too_long : (which : Which) → ((ts : List Step) → AreStepsRewritten (kept_steps st ks) ts → PassesLimit lim s st.formula (all_lines st) ts (Some which))
      → ByPass lim s st.formula (all_lines st) (stops (outcome.Limit which Bytes))
  too_long which long = inr (record {
    steps = kept_steps st ks;
    trimming = trimming_of st.formula.clauses (all_lines st) ks (kept_steps st ks) n h.pivots h.whole (as_kept st ks h);
    is = sym (long (kept_steps st ks) (as_kept st ks h));
  })

  -- the steps are there
  pub passed : (ts : List Step) → AreStepsRewritten (kept_steps st ks) ts → PassesLimit lim s st.formula (all_lines st) ts None
      → ByPass lim s st.formula (all_lines st) (trims st.formula (all_lines st) ts)
  passed ts w fits = inr (record {
    steps = ts;
    trimming = trimming_of st.formula.clauses (all_lines st) ks ts n h.pivots h.whole w;
    is = sym fits;
  })
