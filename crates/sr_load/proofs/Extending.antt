-- One line more.
use Rattle.std.proofs.Common.{◌≡◌, ◌≢◌, ◌<◌, ◌≤◌, ◌+◌, ◌-◌, ℕ, suc, zero, Bool, true, false, not, List, [], ◌∷◌, ◌++◌, Some, None, refl, sym, ◌∙◌, ap, subst, arith, length, get_or, take, drop}
use Rattle.std.specs.Prelude.{is_some, All, IsTrue, ◌↔◌}
use Rattle.std.proofs.lemmas.List.{append_assoc, append-nil, take_all, drop_all, length-drop, length_push, length-append, length-map, map-append, get_or_append_left, get_or_push, take_more, length-take-le, take-append-drop}
use Rattle.std.proofs.lemmas.List.Sums.{sum_by-cons}
use Rattle.std.proofs.lemmas.List.Elements.{All-cons}
use Rattle.sr_base.specs.Literal.{Literal, has, NoRepeats}
use Rattle.sr_model.specs.Assignment.{holds_number}
use Rattle.sr_model.specs.Refutation.{is_empty, Refutes}
use Rattle.sr_model.specs.Substitution.{IsPivot}
use Rattle.sr_model.specs.Chain.{Numbered, clauses, clause_of}
use Rattle.sr_model.specs.Judging.{clause_cells, cells_of, numbered_from, without}
use Rattle.sr_model.specs.Dsr.{Lemma, lemma_line, LineHasPivot}
use Rattle.sr_model.specs.Dimacs.{Formula}
use Rattle.sr_watch.specs.declared.parts.Part.TheVariants as part
use Rattle.sr_watch.specs.declared.parts.Found.{Found}
use Rattle.sr_watch.specs.declared.parts.Found.TheVariants.{Still, Conflict, Pair}
use Rattle.sr_watch.specs.State.{State, slot_in, no_clause, held_cells, weights, assumed_in, assumed, clauses_of, IsSound}
use Rattle.sr_watch.specs.Changes.{with_part, IsDetached}
use Rattle.sr_watch.specs.Meaning.{Means}
use Rattle.sr_trimming.specs.Loading.{Done, joined, removed, passed, Standing, at_start, after_done, after_all}
use Rattle.sr_trimming.specs.From.{all_loaded, LemmasHavePivots}
use Rattle.sr_load.specs.declared.records.Event.{Event}
use Rattle.sr_load.specs.declared.records.Told.{Told}
use Rattle.sr_load.specs.Loaded.{LoadedState, all_lines, all_in, standing_in, next_of, alive_in}
use Rattle.sr_load.specs.Loading.{lemmas_in, passed_in}
use Rattle.sr_load.specs.Numbers.{entry_of, flag_of, has_clause}
use Rattle.sr_load.specs.Records.{done_of, done_in, loaded_at, AreTold, RemoveAlive, AreCounted}
use Rattle.sr_load.specs.Tied.{part_of, IsTied, AreAssumed, AreFlagged, Keeps}
use Rattle.sr_load.specs.Holding.{HoldsMore, IsLoading, with_line, before_lines, IsBare, HoldsFirst}
use Rattle.sr_load.proofs.Numbering.{by_eq, is_self, is_not, lemma_clauses, lemma_clauses_append, row_of, all_numbered, numbered_append, next_row, found_within, without_other, without_self, found_between}
use Rattle.sr_load.proofs.Lines.{told_length, told_more, told_removed, told_passed, pivots_join, remove_join}
use Rattle.sr_load.proofs.Tying.{tied_part}
use Rattle.sr_load.proofs.Marking.{entries_alike, entries_detached, no_marks}
use Rattle.sr_load.proofs.Keeping.{total, alive_known, read_at, joined_alive, back_standing}
use Rattle.sr_load.proofs.Conflicts.{refutes_up, refutes_down}
use Rattle.sr_load.proofs.Alike.{Within, within_all, alive_all, keeps_alike, part_apart}
use Rattle.sr_load.proofs.Holds.{tied_more}

-- all lines stand
all_stand : (es : List Event) (k : ℕ) → k ≤ length es → done_in (drop k es) ≡ [] → k ≡ length es
all_stand es k le e = omega (arith, ap length e, length-map (drop k es) done_of, length-drop k es)

pub view_more : (f : Formula) (es : List Event) (k : ℕ) (cited : List ℕ) (given : List Literal) (e : Event) → k ≤ length es → done_in (drop k es) ≡ [] → loaded_at f (es ++ e ∷ []) (k + 1) cited given ≡ with_line (loaded_at f es k cited given) (done_of e)
view_more f es k cited given e le none =
    let whole = all_stand es k le none in
    let long : length (es ++ e ∷ []) ≤ k + 1 = omega (arith, whole, length_push es e) in
    let stood : done_in (take (k + 1) (es ++ e ∷ [])) ≡ done_in (take k es) ++ done_of e ∷ [] =
    ap done_in (take_all (k + 1) (es ++ e ∷ []) long) ∙ map-append done_of es (e ∷ []) ∙ ap (λ x. done_in x ++ done_of e ∷ []) (sym (take_all k es (omega (arith, whole)))) in
    let gone : done_in (drop (k + 1) (es ++ e ∷ [])) ≡ done_in (drop k es) = ap done_in (drop_all (k + 1) (es ++ e ∷ []) long) ∙ sym none in
    ap (λ x. record { formula = f; standing = x; undone = done_in (drop (k + 1) (es ++ e ∷ [])); cited = cited; assumed = given }) stood
    ∙ ap (λ x. record { formula = f; standing = done_in (take k es) ++ done_of e ∷ []; undone = x; cited = cited; assumed = given }) gone

-- what is counted
pub passed_more : (ds : List Done) (d : Done) → passed_in (ds ++ d ∷ []) ≡ passed_in ds + passed_in (d ∷ [])
passed_more [] (joined l) = refl
passed_more [] (removed k) = refl
passed_more [] passed = refl
passed_more (joined l ∷ ds) d = passed_more ds d
passed_more (removed k ∷ ds) d = passed_more ds d
passed_more (passed ∷ ds) d = omega (arith, passed_more ds d)

pub passed_few : (ds : List Done) → passed_in ds ≤ length ds
passed_few [] = omega arith
passed_few (joined l ∷ ds) = omega (arith, passed_few ds)
passed_few (removed k ∷ ds) = omega (arith, passed_few ds)
passed_few (passed ∷ ds) = omega (arith, passed_few ds)

pub counted_more : (es : List Event) (k n : ℕ) (e : Event) → AreCounted es k n → AreCounted (es ++ e ∷ []) (k + 1) (n + passed_in (done_of e ∷ []))
counted_more es k n e c = record {
  within = omega (arith, c.within, length_push es e);
  passes = omega (arith, c.passes, ap passed_in (map-append done_of es (e ∷ [])), passed_more (done_in es) (done_of e));
}

pub count_few : (es : List Event) (k n : ℕ) → AreCounted es k n → n ≤ length es
count_few es k n c = omega (arith, c.passes, passed_few (done_in es), length-map es done_of)

pub lemmas_are : (ds : List Done) → lemmas_in ds ≡ length (lemma_clauses ds)
lemmas_are [] = refl
lemmas_are (joined l ∷ ds) = omega (arith, lemmas_are ds)
lemmas_are (removed k ∷ ds) = lemmas_are ds
lemmas_are (passed ∷ ds) = lemmas_are ds

-- all clauses with one more
pub all_more : (f : List (List Literal)) (ds : List Done) (l : Lemma) → all_loaded f (ds ++ joined l ∷ []) ≡ all_loaded f ds ++ ((after_all (at_start f) ds).next, l.clause) ∷ []
all_more f ds l =
    let row : row_of f (ds ++ joined l ∷ []) ≡ row_of f ds ++ l.clause ∷ [] = ap (λ x. f ++ x) (lemma_clauses_append ds (joined l ∷ [])) ∙ sym (append_assoc f (lemma_clauses ds) (l.clause ∷ [])) in
    all_numbered f (ds ++ joined l ∷ []) ∙ ap (numbered_from 1) row ∙ numbered_append 1 (row_of f ds) (l.clause ∷ [])
    ∙ ap (λ x. x ++ (length (row_of f ds) + 1, l.clause) ∷ []) (sym (all_numbered f ds)) ∙ ap (λ n. all_loaded f ds ++ (n, l.clause) ∷ []) (sym (next_row f ds))

pub all_removed : (f : List (List Literal)) (ds : List Done) (d : Done) → lemma_clauses (d ∷ []) ≡ [] → all_loaded f (ds ++ d ∷ []) ≡ all_loaded f ds
all_removed f ds d e = all_numbered f (ds ++ d ∷ []) ∙ ap (λ x. numbered_from 1 (f ++ x)) (lemma_clauses_append ds (d ∷ []) ∙ ap (λ x. lemma_clauses ds ++ x) e ∙ append-nil (lemma_clauses ds)) ∙ sym (all_numbered f ds)

cells_more : (cs : List (List Literal)) (c : List Literal) → cells_of (cs ++ c ∷ []) ≡ cells_of cs + clause_cells c
cells_more [] c = omega (arith, sum_by-cons clause_cells c [])
cells_more (d ∷ cs) c = omega (arith, sum_by-cons clause_cells d (cs ++ c ∷ []), sum_by-cons clause_cells d cs, cells_more cs c)

pub numbered_cells : (all : Numbered) (n : ℕ) (c : List Literal) → cells_of (clauses (all ++ (n, c) ∷ [])) ≡ cells_of (clauses all) + (length c + 4)
numbered_cells all n c = ap cells_of (map-append (λ p. p.1) all ((n, c) ∷ [])) ∙ cells_more (clauses all) c

-- while lines are loaded all of them stand
loading_lines : (st : LoadedState) → IsLoading st → all_lines st ≡ st.standing
loading_lines st l = ap (λ x. st.standing ++ x) l.none_undone ∙ append-nil st.standing

loading_more : (st : LoadedState) (d : Done) → IsLoading st → all_lines (with_line st d) ≡ st.standing ++ d ∷ []
loading_more st d l = ap (λ x. (st.standing ++ d ∷ []) ++ x) l.none_undone ∙ append-nil (st.standing ++ d ∷ [])

flag_false : (alive : Numbered) (next : ℕ) (flags : List Bool) → AreFlagged alive next [] flags → (n : ℕ) → 0 < n → n ≤ length flags → flag_of flags n ≡ false
flag_false alive next flags f n low high = f.flag n low high

pub flagged_none : (alive : Numbered) (next : ℕ) (flags : List Bool) → ((n : ℕ) → 0 < n → n ≤ length flags → flag_of flags n ≡ false) → AreFlagged alive next [] flags
flagged_none alive next flags f = record { flag = f; known = λ n h. absurd cc; alive_or_back = λ n h lt. absurd cc }

flags_more : (flags : List Bool) → ((n : ℕ) → 0 < n → n ≤ length flags → flag_of flags n ≡ false) → (n : ℕ) → 0 < n → n ≤ length (flags ++ false ∷ []) → flag_of (flags ++ false ∷ []) n ≡ false
flags_more flags f n low high = by_eq (n - 1) (length flags)
    (λ e. get_or_push flags false false (n - 1) (sym e))
    (λ z. let lt : n - 1 < length flags = omega (arith, high, length_push flags false) in get_or_append_left flags (false ∷ []) false (n - 1) lt ∙ f n low (omega arith))

-- a lemma joins
pub keeps_joined : (st : LoadedState) (s t : State) (refs refs' : List ℕ) (told told' : List Told) (flags flags' : List Bool) (marks : List ℕ) (reached : ℕ) (l : Lemma) (x : Told) → Keeps st s refs told flags marks reached → IsLoading st
    → HoldsMore s t refs refs' l.clause → flags' ≡ flags ++ false ∷ [] → told' ≡ told ++ x ∷ [] → IsPivot x.pivot l.clause → l.witness ≡ x.witness → LineHasPivot (lemma_line l) → NoRepeats l.clause → is_empty l.clause ≡ false → next_of st < 2147483647
    → Keeps (with_line st (joined l)) t refs' told' flags' marks (reached + 1)
keeps_joined st s t refs refs' told told' flags flags' marks reached l x k loading h fl tl p w pivots distinct some small =
    let f = st.formula.clauses in let ds = st.standing in let st' = with_line st (joined l) in
    let before : all_lines st ≡ ds = loading_lines st loading in
    let after : all_lines st' ≡ ds ++ joined l ∷ [] = loading_more st (joined l) loading in
    let next : next_of st ≡ (standing_in st).next = ap (λ y. (after_all (at_start f) y).next) before in
    let all : all_in st' ≡ all_in st ++ ((standing_in st).next, l.clause) ∷ [] = ap (all_loaded f) after ∙ all_more f ds l ∙ ap (λ y. all_loaded f y ++ ((standing_in st).next, l.clause) ∷ []) (sym before) in
    let now : standing_in st' ≡ after_done (standing_in st) (joined l) = back_standing f ds (joined l) in
    let alive : alive_in st' ≡ alive_in st ++ ((standing_in st).next, l.clause) ∷ [] = ap (λ (y : Standing). y.alive) now ∙ joined_alive (standing_in st) l some in
    let later : (standing_in st').next ≡ (standing_in st).next + 1 = ap (λ (y : Standing). y.next) now in
    let long : length refs' ≡ length refs + 1 = ap length h.refs_are ∙ length_push refs h.at in
    let none : holds_number (standing_in st).next st.cited ≡ false = ap (holds_number (standing_in st).next) loading.none_cited in
    let tied = tied_more (all_in st) (alive_in st) st.cited s t refs refs' (standing_in st).next l.clause (omega (arith, next, k.size)) distinct (within_all st refs k.size) (total st refs k.size) (alive_all st) none k.tied h in
    let unflagged : AreFlagged (alive_in st) (standing_in st).next [] flags = subst (λ y. AreFlagged (alive_in st) (standing_in st).next y flags) loading.none_cited k.flagged in
    record {
      tied = subst (λ y. IsTied y (alive_in st') st.cited t.slots refs') (sym all) (subst (λ y. IsTied (all_in st ++ ((standing_in st).next, l.clause) ∷ []) y st.cited t.slots refs') (sym alive) tied);
      entries = subst (λ y. AreAssumed y t.reasons st.assumed marks) (sym h.lits) (entries_alike s.lits s.reasons t.reasons st.assumed marks (sym h.size) h.derived k.entries);
      flagged = subst (λ y. AreFlagged (alive_in st') (standing_in st').next y flags') (sym loading.none_cited) (subst (λ y. AreFlagged (alive_in st') (standing_in st').next [] y) (sym fl)
          (flagged_none (alive_in st') (standing_in st').next (flags ++ false ∷ []) (flags_more flags (flag_false (alive_in st) (standing_in st).next flags unflagged))));
      lemmas = subst (λ y. AreTold y told') (sym after) (subst (λ y. AreTold (ds ++ joined l ∷ []) y) (sym tl) (told_more ds told l x (subst (λ y. AreTold y told) before k.lemmas) p w));
      pivots = subst LemmasHavePivots (sym after) (pivots_join ds (joined l ∷ []) (subst LemmasHavePivots before k.pivots) (pivots, tt));
      removed = remove_join (at_start f) ds (joined l) k.removed tt;
      cells = h.cells ∙ ap (λ n. n + (length l.clause + 4)) k.cells ∙ sym (numbered_cells (all_in st) (standing_in st).next l.clause) ∙ ap (λ y. cells_of (clauses y)) (sym all);
      size = omega (arith, k.size, long, next, later, ap (λ y. (after_all (at_start f) y).next) after, ap (λ (y : Standing). y.next) (back_standing f ds (joined l)));
      flags_size = ap length fl ∙ omega (arith, length_push flags false, k.flags_size, long);
      next = omega (arith, k.next, later);
      small = omega (arith, small, k.size, long);
    }

-- a line that states no lemma
keeps_line : (st : LoadedState) (d : Done) (s t : State) (refs : List ℕ) (told : List Told) (flags : List Bool) (marks : List ℕ) (reached : ℕ) → Keeps st s refs told flags marks reached → IsLoading st → lemma_clauses (d ∷ []) ≡ []
    → AreTold (st.standing ++ d ∷ []) told → LemmasHavePivots (d ∷ []) → RemoveAlive (at_start st.formula.clauses) (st.standing ++ d ∷ []) → IsTied (all_in st) (alive_in (with_line st d)) st.cited t.slots refs → AreAssumed t.lits t.reasons st.assumed marks
    → held_cells t ≡ held_cells s → Keeps (with_line st d) t refs told flags marks reached
keeps_line st d s t refs told flags marks reached k loading none lemmas pivots gone tied entries cells =
    let f = st.formula.clauses in let ds = st.standing in let st' = with_line st d in
    let before : all_lines st ≡ ds = loading_lines st loading in
    let after : all_lines st' ≡ ds ++ d ∷ [] = loading_more st d loading in
    let all : all_in st' ≡ all_in st = ap (all_loaded f) after ∙ all_removed f ds d none ∙ ap (all_loaded f) (sym before) in
    let row : row_of f (ds ++ d ∷ []) ≡ row_of f ds = ap (λ x. f ++ x) (lemma_clauses_append ds (d ∷ []) ∙ ap (λ x. lemma_clauses ds ++ x) none ∙ append-nil (lemma_clauses ds)) in
    let same : (standing_in st').next ≡ (standing_in st).next = next_row f (ds ++ d ∷ []) ∙ ap (λ x. length x + 1) row ∙ sym (next_row f ds) in
    let next : next_of st ≡ (standing_in st).next = ap (λ y. (after_all (at_start f) y).next) before in
    let unflagged : AreFlagged (alive_in st) (standing_in st).next [] flags = subst (λ y. AreFlagged (alive_in st) (standing_in st).next y flags) loading.none_cited k.flagged in
    record {
      tied = subst (λ y. IsTied y (alive_in st') st.cited t.slots refs) (sym all) tied;
      entries = entries;
      flagged = subst (λ y. AreFlagged (alive_in st') (standing_in st').next y flags) (sym loading.none_cited) (flagged_none (alive_in st') (standing_in st').next flags (flag_false (alive_in st) (standing_in st).next flags unflagged));
      lemmas = subst (λ y. AreTold y told) (sym after) lemmas;
      pivots = subst LemmasHavePivots (sym after) (pivots_join ds (d ∷ []) (subst LemmasHavePivots before k.pivots) pivots);
      removed = gone;
      cells = cells ∙ k.cells ∙ ap (λ y. cells_of (clauses y)) (sym all);
      size = omega (arith, k.size, next, same, ap (λ y. (after_all (at_start f) y).next) after);
      flags_size = k.flags_size;
      next = omega (arith, k.next, same);
      small = k.small;
    }

pub keeps_passed : (st : LoadedState) (s : State) (refs : List ℕ) (told : List Told) (flags : List Bool) (marks : List ℕ) (reached : ℕ) → Keeps st s refs told flags marks reached → IsLoading st → Keeps (with_line st passed) s refs told flags marks reached
keeps_passed st s refs told flags marks reached k loading =
    let f = st.formula.clauses in let ds = st.standing in
    let now : standing_in (with_line st passed) ≡ standing_in st = back_standing f ds passed in
    keeps_line st passed s s refs told flags marks reached k loading refl
    (told_passed ds told (subst (λ y. AreTold y told) (loading_lines st loading) k.lemmas)) tt (remove_join (at_start f) ds passed k.removed tt)
    (subst (λ (y : Standing). IsTied (all_in st) y.alive st.cited s.slots refs) (sym now) k.tied) k.entries refl

pub keeps_removed : (st : LoadedState) (s t : State) (refs : List ℕ) (told : List Told) (flags : List Bool) (marks : List ℕ) (reached id at n : ℕ) → Keeps st s refs told flags marks reached → IsLoading st → has_clause (alive_in st) id ≡ true
    → at ≡ get_or refs (id - 1) at → IsDetached s t at n → held_cells t ≡ held_cells s → Keeps (with_line st (removed id)) t refs told flags marks reached
keeps_removed st s t refs told flags marks reached id at n k loading h is d cells =
    let f = st.formula.clauses in let ds = st.standing in let st' = with_line st (removed id) in
    let r = alive_known st refs id k.size h in
    let here : at ≡ entry_of refs id = read_at refs id at r.0 r.1 is in
    let now : alive_in st' ≡ without (id ∷ []) (alive_in st) = ap (λ (y : Standing). y.alive) (back_standing f ds (removed id)) in
    let gone : has_clause (alive_in st') id ≡ false = ap (λ y. has_clause y id) now ∙ ap is_some (without_self (alive_in st) id) in
    let none : (b : Bool) → part_of false b ≡ None = λ b. refl in
    let tied = tied_part (all_in st) (alive_in st) (alive_in st') st.cited st.cited s.slots refs id None (total st refs k.size) r.0 r.1
    (λ m z. ap (λ a. part_of a (holds_number m st.cited)) (ap (λ y. has_clause y m) now ∙ ap is_some (without_other (alive_in st) id m (λ w. z (sym w)))))
    (sym (ap (λ a. part_of a (holds_number id st.cited)) gone)) k.tied in
    let marked : marks ≡ [] = no_marks s.lits s.reasons st.assumed marks loading.none_assumed k.entries in
    let entries : AreAssumed s.lits s.reasons [] [] = subst (λ y. AreAssumed s.lits s.reasons y []) loading.none_assumed (subst (λ y. AreAssumed s.lits s.reasons st.assumed y) marked k.entries) in
    keeps_line st (removed id) s t refs told flags marks reached k loading refl
    (told_removed ds told id (subst (λ y. AreTold y told) (loading_lines st loading) k.lemmas)) tt (remove_join (at_start f) ds (removed id) k.removed h)
    (subst (λ y. IsTied (all_in st) (alive_in st') st.cited y refs) (sym (d.slots ∙ ap (λ r. with_part s.slots r None) here)) tied)
    (subst (λ y. AreAssumed t.lits t.reasons y marks) (sym loading.none_assumed) (subst (λ y. AreAssumed t.lits t.reasons [] y) (sym marked) (entries_detached s t at n d entries)))
    cells

-- whether the alive clauses refute
refuted_of : (s : State) (f : Found) → IsSound s → Means part.All s f → (f ≡ Still → ⊥) → Refutes (clauses_of s part.All) (assumed s)
refuted_of s Still sound m n = absurd (n refl)
refuted_of s (Conflict at) sound m n = m.refutes sound.attached
refuted_of s (Pair l) sound m n = m.refutes

still_refutes : (s : State) (f : Found) → Means part.All s f → f ≡ Still → ¬ Refutes (clauses_of s part.All) (assumed s)
still_refutes s Still m e = m.consistent
still_refutes s (Conflict at) m e = absurd cc
still_refutes s (Pair l) m e = absurd cc

pub refuted_tells : (st : LoadedState) (s : State) (refs : List ℕ) (told : List Told) (flags : List Bool) (marks : List ℕ) (reached : ℕ) (f : Found) (b : Bool) → Keeps st s refs told flags marks reached → IsSound s → Means part.All s f → (IsTrue b ↔ (f ≡ Still))
    → IsTrue (not b) ↔ Refutes (clauses (alive_in st)) st.assumed
refuted_tells st s refs told flags marks reached f true k sound m is = (
  λ h. absurd cc,
  λ r. absurd (still_refutes s f m (is.0 refl) (refutes_up part.All s.slots (alive_in st) st.assumed (assumed s) (part_apart st part.All) (keeps_alike st s refs told flags marks reached part.All k sound) (λ l h. k.entries.set l ∙ h) r)),
)
refuted_tells st s refs told flags marks reached f false k sound m is = (
  λ h. refutes_down part.All s.slots (alive_in st) (assumed s) st.assumed (keeps_alike st s refs told flags marks reached part.All k sound) (λ l h. sym (k.entries.set l) ∙ h) (refuted_of s f sound m (λ e. let bad : false ≡ true = is.1 e in absurd cc)),
  λ r. refl,
)

-- the literals of all clauses are distinct
distinct_all : (n : ℕ) (cs : List (List Literal)) → ((m : ℕ) (c : List Literal) → clause_of (numbered_from n cs) m ≡ Some c → NoRepeats c) → All NoRepeats (clauses (numbered_from n cs))
distinct_all n [] f = λ k d lt. absurd (omega arith)
distinct_all n (c ∷ cs) f =
    All-cons NoRepeats c (clauses (numbered_from (n + 1) cs)) (f n c (rw (is_self n n refl) refl))
    (distinct_all (n + 1) cs (λ m d e. f m d (let low = found_between (n + 1) cs m d e in let ne : n ≢ m = λ z. omega (arith, low.0) in rw (is_not n m ne) e)))

pub all_distinct : (st : LoadedState) (s : State) (refs : List ℕ) (told : List Told) (flags : List Bool) (marks : List ℕ) (reached : ℕ) → Keeps st s refs told flags marks reached → All NoRepeats (clauses (all_in st))
all_distinct st s refs told flags marks reached k =
    let e = all_numbered st.formula.clauses (all_lines st) in
    subst (λ x. All NoRepeats (clauses x)) (sym e) (distinct_all 1 (row_of st.formula.clauses (all_lines st)) (λ m c h. (k.tied.linked m c (ap (λ x. clause_of x m) e ∙ h)).distinct))

-- before any line
pub holds_none : (s : State) (cs : List (List Literal)) → IsBare s → HoldsFirst s [] [] cs 0
holds_none s cs b = record {
  tied = record {
    linked = λ n c e. absurd cc;
    led = λ r h. let bad : false ≡ true = sym (bare r) ∙ ap (λ ss. (slot_in ss r).held) (sym b.slots) ∙ h in absurd cc;
    parts = λ n low high. absurd (omega arith);
  };
  entries = record {
    sizes = ap length b.reasons ∙ sym (ap length b.lits);
    set = λ l. ap (λ x. has l (assumed_in x s.reasons)) b.lits;
    count = refl;
    each = λ i lt. absurd (omega arith);
    rise = λ i j le lt. absurd (omega arith);
  };
  cells = ap weights b.slots;
  size = refl;
  flags_size = refl;
  unflagged = λ n. refl;
}
  where
    bare : (r : ℕ) → (slot_in (no_clause ∷ []) r).held ≡ false
    bare zero = refl
    bare (suc r) = refl

first_more : (cs : List (List Literal)) (i : ℕ) (c : List Literal) → i < length cs → c ≡ get_or cs i [] → take (i + 1) cs ≡ take i cs ++ c ∷ []
first_more cs i c lt e = take_more cs i [] lt ∙ ap (λ x. take i cs ++ x ∷ []) (sym e)

pub holds_next : (s t : State) (refs refs' : List ℕ) (flags flags' : List Bool) (cs : List (List Literal)) (i : ℕ) (c : List Literal) → i < length cs → c ≡ get_or cs i [] → NoRepeats c → HoldsFirst s refs flags cs i → HoldsMore s t refs refs' c → flags' ≡ flags ++ false ∷ []
    → HoldsFirst t refs' flags' cs (i + 1)
holds_next s t refs refs' flags flags' cs i c lt e distinct k h fl =
    let more : take (i + 1) cs ≡ take i cs ++ c ∷ [] = first_more cs i c lt e in
    let count : length (take i cs) ≡ i = length-take-le i cs (omega (arith, lt)) in
    let all : numbered_from 1 (take (i + 1) cs) ≡ numbered_from 1 (take i cs) ++ (i + 1, c) ∷ [] = ap (numbered_from 1) more ∙ numbered_append 1 (take i cs) (c ∷ []) ∙ ap (λ n. numbered_from 1 (take i cs) ++ (n, c) ∷ []) (ap (λ n. n + 1) count) in
    let within : Within (numbered_from 1 (take i cs)) refs = λ n d g. let r = found_between 1 (take i cs) n d g in (omega (arith, r.0), omega (arith, r.1, count, k.size)) in
    let tied = tied_more (numbered_from 1 (take i cs)) (numbered_from 1 (take i cs)) [] s t refs refs' (i + 1) c (omega (arith, k.size)) distinct within (λ n low high. found_within 1 (take i cs) n (omega (arith, low)) (omega (arith, high, k.size, count))) (λ n d g. g) refl k.tied h in
    let long : length refs' ≡ length refs + 1 = ap length h.refs_are ∙ length_push refs h.at in
    record {
      tied = subst (λ x. IsTied x x [] t.slots refs') (sym all) tied;
      entries = subst (λ y. AreAssumed y t.reasons [] []) (sym h.lits) (entries_alike s.lits s.reasons t.reasons [] [] (sym h.size) h.derived k.entries);
      cells = h.cells ∙ ap (λ n. n + (length c + 4)) k.cells ∙ sym (ap cells_of more ∙ cells_more (take i cs) c);
      size = omega (arith, long, k.size);
      flags_size = ap length fl ∙ omega (arith, length_push flags false, k.flags_size);
      unflagged = λ n. ap (λ x. flag_of x n) fl ∙ last_false flags (n - 1) (λ m. unflagged m);
    }
  where
    unflagged : (m : ℕ) → get_or flags m false ≡ false
    unflagged m = let same : m + 1 - 1 ≡ m = omega arith in ap (λ j. get_or flags j false) (sym same) ∙ k.unflagged (m + 1)

    last_false : (xs : List Bool) (j : ℕ) → ((m : ℕ) → get_or xs m false ≡ false) → get_or (xs ++ false ∷ []) j false ≡ false
    last_false [] zero f = refl
    last_false [] (suc j) f = refl
    last_false (x ∷ xs) zero f = f 0
    last_false (x ∷ xs) (suc j) f = last_false xs j (λ m. f (suc m))

clauses_numbered : (n : ℕ) (cs : List (List Literal)) → clauses (numbered_from n cs) ≡ cs
clauses_numbered n [] = refl
clauses_numbered n (c ∷ cs) = ap (λ x. c ∷ x) (clauses_numbered (n + 1) cs)

pub keeps_new : (f : Formula) (s : State) (refs : List ℕ) (flags : List Bool) (m : ℕ) → HoldsFirst s refs flags f.clauses (length f.clauses) → m ≡ length f.clauses → m ≤ 2147483646 → Keeps (before_lines f) s refs [] flags [] m
keeps_new f s refs flags m h e few =
    let whole : take (length f.clauses) f.clauses ≡ f.clauses = take_all (length f.clauses) f.clauses (omega arith) in
    let all : all_in (before_lines f) ≡ numbered_from 1 f.clauses = append-nil (numbered_from 1 f.clauses) in
    record {
      tied = subst (λ x. IsTied x (numbered_from 1 f.clauses) [] s.slots refs) (sym all) (subst (λ cs. IsTied (numbered_from 1 cs) (numbered_from 1 cs) [] s.slots refs) whole h.tied);
      entries = h.entries;
      flagged = flagged_none (numbered_from 1 f.clauses) (length f.clauses + 1) flags (λ n low high. h.unflagged n);
      lemmas = tt;
      pivots = tt;
      removed = tt;
      cells = h.cells ∙ ap cells_of whole ∙ sym (ap (λ x. cells_of (clauses x)) all ∙ ap cells_of (clauses_numbered 1 f.clauses));
      size = ap (λ n. n + 1) h.size;
      flags_size = h.flags_size ∙ sym h.size;
      next = ap (λ n. n + 1) e;
      small = omega (arith, few, e, h.size);
    }

-- all lines, standing or taken back
pub lines_are : (es : List Event) (k : ℕ) → done_in (take k es) ++ done_in (drop k es) ≡ done_in es
lines_are es k = sym (map-append done_of (take k es) (drop k es)) ∙ ap done_in (take-append-drop k es)

pub told_lemmas : (st : LoadedState) (s : State) (refs : List ℕ) (told : List Told) (flags : List Bool) (marks : List ℕ) (reached : ℕ) → Keeps st s refs told flags marks reached → length told ≡ lemmas_in (all_lines st)
told_lemmas st s refs told flags marks reached k = told_length (all_lines st) told k.lemmas ∙ sym (lemmas_are (all_lines st))

pub few_lemmas : (st : LoadedState) (s : State) (refs : List ℕ) (told : List Told) (flags : List Bool) (marks : List ℕ) (reached : ℕ) → Keeps st s refs told flags marks reached → length told < 2147483647
few_lemmas st s refs told flags marks reached k =
    omega (arith, told_length (all_lines st) told k.lemmas, k.size, k.small, next_row st.formula.clauses (all_lines st), length-append st.formula.clauses (lemma_clauses (all_lines st)))

-- what is kept where one line more stands
pub keeps_view : (f : Formula) (es es' : List Event) (k : ℕ) (cited : List ℕ) (given : List Literal) (e : Event) (s : State) (refs : List ℕ) (told : List Told) (flags : List Bool) (marks : List ℕ) (reached : ℕ) → es' ≡ es ++ e ∷ [] → k ≤ length es → done_in (drop k es) ≡ []
    → Keeps (with_line (loaded_at f es k cited given) (done_of e)) s refs told flags marks reached → Keeps (loaded_at f es' (k + 1) cited given) s refs told flags marks reached
keeps_view f es es' k cited given e s refs told flags marks reached is le none h =
    subst (λ x. Keeps (loaded_at f x (k + 1) cited given) s refs told flags marks reached) (sym is) (subst (λ (x : LoadedState). Keeps x s refs told flags marks reached) (sym (view_more f es k cited given e le none)) h)

pub counted_kept : (es : List Event) (k n : ℕ) (e : Event) → passed_in (done_of e ∷ []) ≡ 0 → AreCounted es k n → AreCounted (es ++ e ∷ []) (k + 1) n
counted_kept es k n e none c = record {
  within = omega (arith, c.within, length_push es e);
  passes = omega (arith, c.passes, ap passed_in (map-append done_of es (e ∷ [])), passed_more (done_in es) (done_of e), none);
}

pub pivot_first : (c : List Literal) (p : Literal) → is_empty c ≡ false → p ≡ get_or c 0 p → IsPivot p c
pivot_first [] p h e = absurd cc
pivot_first (l ∷ c) p h e = e
