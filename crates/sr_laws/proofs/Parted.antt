-- Parts of a forward test make the whole.
use Rattle.std.proofs.Common.{◌≡◌, ◌⊎◌, inl, inr, ℕ, zero, suc, ◌+◌, ◌-◌, ◌/◌, ◌%◌, ◌==◌, ◌<◌, ◌≤◌, Bool, true, List, [], ◌∷◌, ◌++◌, Some, refl, sym, ◌∙◌, ap, subst, arith, length, append-nil}
use Rattle.std.proofs.lemmas.Bool.Decides.{nat_tests}
use Rattle.sr_base.specs.Literal.{Literal}
use Rattle.sr_base.specs.Limits.{LimitValues}
use Rattle.sr_base.specs.declared.names.Form.{Form}
use Rattle.sr_model.specs.Assignment.{Unsat}
use Rattle.sr_model.specs.Tokens.{Tokens}
use Rattle.sr_model.specs.Reading.{Read, reads}
use Rattle.sr_model.specs.Dsr.{Lemma, Line, MaybeLine, line_in, SpellLines}
use Rattle.sr_trimming.specs.Loading.{Done, joined, removed, passed, Standing, at_start, after_done, AllDid, at_conflict, StopsAfter, Loads}
use Rattle.sr_trimming.specs.Evidence.{EachPasses}
use Rattle.sr_laws.specs.Forward.{conflict, PassesOver, each_one, Forwards}
use Rattle.sr_laws.specs.Parts.{Part, covers, asked_in, ForwardsIn, lemmas_of, CoverAll, EachConflicts, RunsPart, EachRuns, of_part, first_parts, all_parts}
use Rattle.sr_model.proofs.Soundness.{by_test}
use Rattle.sr_trimming.proofs.Loaded.{loads_once}
use Rattle.sr_laws.proofs.Forwarding.{EachAsked, to_stops, from_stops, from_each, where_loads, loads_where, loaded_unsat}

-- in each part the lemmas that it asks for pass
abbrev pub AllAsked : List (List Literal) → List Part → Standing → List Done → Type 0
AllAsked f [] st ds = Unit {0}
AllAsked f (r ∷ rs) st ds = EachAsked (asked_in f r) st ds × AllAsked f rs st ds

pub in_part : (m i n : ℕ) (r : Part) → n ≡ m + i → r i ≡ true → r (n - m) ≡ true
in_part m i n r e h = let same : n - m ≡ i = omega arith in rw same h

asked_first : (f : List (List Literal)) (rs : List Part) (st : Standing) (l : Lemma) (ds : List Done) (i : ℕ) → st.next ≡ length f + i → covers rs i ≡ true → AllAsked f rs st (joined l ∷ ds) → PassesOver st.alive l
asked_first f [] st l ds i e c a = absurd cc
asked_first f (r ∷ rs) st l ds i e c a = by_test (r i)
    (λ h. a.0.0 (in_part (length f) i st.next r e h))
    (λ h. asked_first f rs st l ds i e (rw h at c) a.1)

asked_later : (f : List (List Literal)) (rs : List Part) (st : Standing) (l : Lemma) (ds : List Done) → AllAsked f rs st (joined l ∷ ds) → AllAsked f rs (after_done st (joined l)) ds
asked_later f [] st l ds a = tt
asked_later f (r ∷ rs) st l ds a = (a.0.1, asked_later f rs st l ds a.1)

asked_removed : (f : List (List Literal)) (rs : List Part) (st : Standing) (k : ℕ) (ds : List Done) → AllAsked f rs st (removed k ∷ ds) → AllAsked f rs (after_done st (removed k)) ds
asked_removed f [] st k ds a = tt
asked_removed f (r ∷ rs) st k ds a = (a.0, asked_removed f rs st k ds a.1)

asked_passed : (f : List (List Literal)) (rs : List Part) (st : Standing) (ds : List Done) → AllAsked f rs st (passed ∷ ds) → AllAsked f rs st ds
asked_passed f [] st ds a = tt
asked_passed f (r ∷ rs) st ds a = (a.0, asked_passed f rs st ds a.1)

-- the lemmas from the i-th on
all_pass : (f : List (List Literal)) (rs : List Part) (st : Standing) (ds : List Done) (i : ℕ) → st.next ≡ length f + i → ((j : ℕ) → i ≤ j → j < i + lemmas_of ds → covers rs j ≡ true) → AllAsked f rs st ds → EachPasses st ds
all_pass f rs st [] i e c a = tt
all_pass f rs st (joined l ∷ ds) i e c a = (
  asked_first f rs st l ds i e (c i (omega arith) (omega arith)) a,
  all_pass f rs (after_done st (joined l)) ds (i + 1) (omega arith) (λ j h g. c j (omega arith) (omega arith)) (asked_later f rs st l ds a),
)
all_pass f rs st (removed k ∷ ds) i e c a = all_pass f rs (after_done st (removed k)) ds i e c (asked_removed f rs st k ds a)
all_pass f rs st (passed ∷ ds) i e c a = all_pass f rs st ds i e c (asked_passed f rs st ds a)

pub covered_pass : (f : List (List Literal)) (rs : List Part) (ds : List Done) → CoverAll rs (lemmas_of ds) → AllAsked f rs (at_start f) ds → EachPasses (at_start f) ds
covered_pass f rs ds c a = all_pass f rs (at_start f) ds 1 refl (λ j h g. c j h (omega arith)) a

-- each part did the same
each_asked : (keep : Bool) (f : List (List Literal)) (proof : List Line) (ds : List Done) (rs : List Part) → Loads keep f proof ds at_conflict → EachConflicts keep f proof rs → AllAsked f rs (at_start f) ds
each_asked keep f proof ds [] l e = tt
each_asked keep f proof ds (r ∷ rs) l e =
    let own = where_loads (asked_in f r) keep f proof e.0.0 e.0.1 in
    let same = loads_once keep f proof e.0.0 ds at_conflict at_conflict own l in
    (subst (λ x. EachAsked (asked_in f r) (at_start f) x) same.0 (to_stops (asked_in f r) (at_start f) e.0.0 e.0.1.answers).1, each_asked keep f proof ds rs l e.1)

pub part_loads : (keep : Bool) (f : List (List Literal)) (proof : List Line) (r : Part) (ds : List Done) → ForwardsIn keep f proof r ds conflict → Loads keep f proof ds at_conflict
part_loads keep f proof r ds w = where_loads (asked_in f r) keep f proof ds w

pub parts_whole : (keep : Bool) (f : List (List Literal)) (proof : List Line) (ds : List Done) (rs : List Part) → Loads keep f proof ds at_conflict → CoverAll rs (lemmas_of ds)
    → EachConflicts keep f proof rs → Forwards keep f proof ds conflict × Unsat f
parts_whole keep f proof ds rs l c e =
    let p = covered_pass f rs ds c (each_asked keep f proof ds rs l e) in
    (loads_where each_one keep f proof ds l (from_each each_one (at_start f) ds p), loaded_unsat f ds l.stops p)

-- of two lists of lines that the same tokens spell, one begins the other
abbrev Begins : List Line → List Line → Type 0
Begins xs ys = (more : List Line) × (xs ++ more ≡ ys)

same_line : (o : Read MaybeLine) (x y : Line) (r q : Tokens) → o ≡ reads (Some x) r → o ≡ reads (Some y) q → (x ≡ y) × (r ≡ q)
same_line o x y r q e g = let both : reads (Some x) r ≡ reads (Some y) q = sym e ∙ g in (cc, cc)

begins_more : (x y : Line) (xs ys : List Line) → x ≡ y → Begins xs ys ⊎ Begins ys xs → Begins (x ∷ xs) (y ∷ ys) ⊎ Begins (y ∷ ys) (x ∷ xs)
begins_more x y xs ys e (inl b) = inl (b.0, ap (λ z. z ∷ (xs ++ b.0)) e ∙ ap (λ zs. y ∷ zs) b.1)
begins_more x y xs ys e (inr b) = inr (b.0, ap (λ z. z ∷ (ys ++ b.0)) (sym e) ∙ ap (λ zs. x ∷ zs) b.1)

spelled_begin : (form : Form) (lim : LimitValues) (ts : Tokens) (xs ys : List Line) (r q : Tokens) → SpellLines form lim ts xs r → SpellLines form lim ts ys q → Begins xs ys ⊎ Begins ys xs
spelled_begin form lim ts [] ys r q s t = inl (ys, refl)
spelled_begin form lim ts (x ∷ xs) [] r q s t = inr (x ∷ xs, refl)
spelled_begin form lim ts (x ∷ xs) (y ∷ ys) r q s t =
    let same = same_line (line_in form lim ts) x y s.0 t.0 s.1 t.1 in
    begins_more x y xs ys same.0 (spelled_begin form lim s.0 xs ys r q s.2 (subst (λ z. SpellLines form lim z ys q) (sym same.1) t.2))

-- so two that stop at a conflict did the same
loads_of : (keep : Bool) (f : List (List Literal)) (proof taken rest : List Line) (ds : List Done) → taken ++ rest ≡ proof → AllDid keep (at_start f) taken ds → StopsAfter (at_start f) ds at_conflict → Loads keep f proof ds at_conflict
loads_of keep f proof taken rest ds e d s = record { taken = taken; rest = rest; split = sym e; did = d; stops = s; all_taken = λ g. absurd cc }

pub ran_same : (keep : Bool) (f : List (List Literal)) (xs ys : List Line) (ds es : List Done) → Begins xs ys ⊎ Begins ys xs → AllDid keep (at_start f) xs ds → AllDid keep (at_start f) ys es
    → StopsAfter (at_start f) ds at_conflict → StopsAfter (at_start f) es at_conflict → ds ≡ es
ran_same keep f xs ys ds es (inl b) d e s t = (loads_once keep f ys ds es at_conflict at_conflict (loads_of keep f ys xs b.0 ds b.1 d s) (loads_of keep f ys ys [] es (append-nil ys) e t)).0
ran_same keep f xs ys ds es (inr b) d e s t = (loads_once keep f xs ds es at_conflict at_conflict (loads_of keep f xs xs [] ds (append-nil xs) d s) (loads_of keep f xs ys b.0 es b.1 e t)).0

runs_asked : (form : Form) (lim : LimitValues) (keep : Bool) (f : List (List Literal)) (tokens : Tokens) (asked : ℕ → Bool) (ds : List Done) (rs : List Part)
    → RunsPart form lim keep f tokens asked ds → EachRuns form lim keep f tokens rs → AllAsked f rs (at_start f) ds
runs_asked form lim keep f tokens asked ds [] w e = tt
runs_asked form lim keep f tokens asked ds (r ∷ rs) w e =
    let own : RunsPart form lim keep f tokens (asked_in f r) e.0.0 = e.0.1 in
    let end = to_stops (asked_in f r) (at_start f) e.0.0 own.answers in
    let same : e.0.0 ≡ ds = ran_same keep f own.lines w.lines e.0.0 ds (spelled_begin form lim tokens own.lines w.lines own.rest w.rest own.spelled w.spelled) own.did w.did end.0 (to_stops asked (at_start f) ds w.answers).0 in
    (subst (λ x. EachAsked (asked_in f r) (at_start f) x) same end.1, runs_asked form lim keep f tokens asked ds rs w e.1)

pub runs_whole : (form : Form) (lim : LimitValues) (keep : Bool) (f : List (List Literal)) (tokens : Tokens) (r : Part) (ds : List Done) (rs : List Part)
    → RunsPart form lim keep f tokens (asked_in f r) ds → CoverAll (r ∷ rs) (lemmas_of ds) → EachRuns form lim keep f tokens rs
    → RunsPart form lim keep f tokens each_one ds × Unsat f
runs_whole form lim keep f tokens r ds rs w c e =
    let end = to_stops (asked_in f r) (at_start f) ds w.answers in
    let p = covered_pass f (r ∷ rs) ds c (end.1, runs_asked form lim keep f tokens (asked_in f r) ds rs w e) in
    (record { lines = w.lines; rest = w.rest; spelled = w.spelled; did = w.did; answers = from_stops each_one (at_start f) ds end.0 (from_each each_one (at_start f) ds p) }, loaded_unsat f ds end.0 p)

-- blocks go round, so each lemma is of one of the parts
covered_to : (count n i : ℕ) → ((n - 1) / 64) % count + 1 ≤ i → covers (first_parts count i) n ≡ true
covered_to count n zero h = absurd (omega arith)
covered_to count n (suc i) h = by_test (of_part count (suc i) n)
    (λ t. rw t refl)
    (λ e. rw e (covered_to count n i (grind (arith, nat_tests))))

pub blocks_cover : (count lemmas : ℕ) → 0 < count → CoverAll (all_parts count) lemmas
blocks_cover count lemmas h i low high = covered_to count i count (omega arith)
