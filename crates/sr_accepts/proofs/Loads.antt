-- What is loaded before a proof is trimmed is within the limits.
use Rattle.std.proofs.Common.{◌≡◌, ◌≢◌, ◌∙◌, inl, inr, ℕ, ◌+◌, ◌≤◌, Bool, true, false, ◌&&◌, List, [], ◌∷◌, ◌++◌, Option, Some, None, cond, length, refl, sym, ap, subst, arith, append_assoc, append-nil}
use Rattle.std.proofs.lemmas.List.{length-map}
use Rattle.std.specs.Prelude.{nat_lt, is_some}
use Rattle.std.proofs.lemmas.Bool.Decides.{nat_tests}
use Rattle.sr_base.specs.Limits.{LimitValues}
use Rattle.sr_base.specs.Contents.{Contents}
use Rattle.sr_base.specs.declared.names.Form.{Form}
use Rattle.sr_base.specs.declared.names.LimitKind.{LimitKind}
use Rattle.sr_base.specs.declared.names.LimitKind.TheVariants.{Ids, Cells}
use Rattle.sr_model.specs.Tokens.{Tokens}
use Rattle.sr_model.specs.Reading.{Read, reads, misspells, passes, fails}
use Rattle.sr_model.specs.TextTokens.{spelled}
use Rattle.sr_model.specs.Refutation.{is_empty}
use Rattle.sr_model.specs.Chain.{Numbered, clauses}
use Rattle.sr_model.specs.Meeting.{Step}
use Rattle.sr_model.specs.Judging.{clause_cells, cells_of}
use Rattle.sr_model.specs.Dimacs.{Formula, formula_at}
use Rattle.sr_model.specs.Formulas.{SpellsFormula}
use Rattle.sr_model.specs.Dsr.{Lemma, Line, lemma_line, deletion_line, MaybeLine, line_in, line_tokens, SpellLines}
use Rattle.sr_model.specs.ReadAgain.{IsLine}
use Rattle.sr_model.proofs.Soundness.{by_test}
use Rattle.sr_model.proofs.FormulasSpelled.{read_is_spelled}
use Rattle.sr_trimming.specs.Loading.{Done, joined, removed, passed, Standing, at_start, after_done, after_all, last_of, DeletionDid, Did, AllDid}
use Rattle.sr_trimming.specs.From.{all_loaded}
use Rattle.sr_load.specs.Loading.{LoaderState, passes_ids, passes_cells, lemmas_in}
use Rattle.sr_emit.specs.declared.outcome.Outcome.{Outcome}
use Rattle.sr_emit.specs.declared.outcome.Outcome.TheVariants as outcome
use Rattle.sr_trim.specs.Said.{TrimSaid}
use Rattle.sr_trim.specs.Trimming.{IsTrimming, lsr_text, core_text}
use Rattle.sr_trim.specs.Deciding.{Decision, stops, trims, by_length, ByPass, loading, limit_of, LinesFit, AtStop, ByLine, EndsLoading, ByLines, ByProof, ByFormula, IsDecided}
use Rattle.sr_accepts.proofs.LinesRead.{read_line_within}
use Rattle.sr_accepts.proofs.Fitting.{lemma_cells, loaded_cells}
use Rattle.sr_accepts.proofs.StepsWithin.{AreLemmas}

-- whether a line was a lemma, or a deletion
abbrev IsDeletion : Done → Type 0
IsDeletion (joined l) = ⊥
IsDeletion (removed n) = Unit {0}
IsDeletion passed = Unit {0}

abbrev DidAs : Line → Done → Type 0
DidAs (lemma_line l) d = d ≡ joined l
DidAs (deletion_line c) d = IsDeletion d

did_as : (keep : Bool) (live : Numbered) (l : Line) (d : Done) → Did keep live l d → DidAs l d
did_as keep live (lemma_line l) d e = e
did_as keep live (deletion_line c) d e = at (last_of live c) e
  where
    at : (o : Option ℕ) → DeletionDid keep live c d o → IsDeletion d
    at None e = subst IsDeletion (sym e) tt
    at (Some n) (inl e) = subst IsDeletion (sym e.1) tt
    at (Some n) (inr e) = subst IsDeletion (sym e.1) tt

-- the lemmas that were read are within the limit of variables
lemmas_push : (vars : ℕ) (ds : List Done) (l : Line) (d : Done) → AreLemmas vars ds → IsLine vars l → DidAs l d → AreLemmas vars (ds ++ d ∷ [])
lemmas_push vars [] (lemma_line l) d a i e = subst (λ x. AreLemmas vars (x ∷ [])) (sym e) (i, tt)
lemmas_push vars [] (deletion_line c) (joined l) a i e = absurd e
lemmas_push vars [] (deletion_line c) (removed n) a i e = tt
lemmas_push vars [] (deletion_line c) passed a i e = tt
lemmas_push vars (joined k ∷ ds) l d a i e = (a.0, lemmas_push vars ds l d a.1 i e)
lemmas_push vars (removed k ∷ ds) l d a i e = lemmas_push vars ds l d a i e
lemmas_push vars (passed ∷ ds) l d a i e = lemmas_push vars ds l d a i e

-- the numbers of the lemmas, and their cells, fit
abbrev Fits : LimitValues → Formula → List Done → Type 0
Fits lim f ds = (length f.clauses + 1 + lemmas_in ds ≤ lim.ids) × (cells_of f.clauses + lemma_cells ds ≤ lim.cells)

next_is : (st : Standing) (ds : List Done) → (after_all st ds).next ≡ st.next + lemmas_in ds
next_is st [] = omega arith
next_is st (joined l ∷ ds) = let r : (after_all (after_done st (joined l)) ds).next ≡ st.next + 1 + lemmas_in ds = next_is (after_done st (joined l)) ds in omega arith
next_is st (removed k ∷ ds) = next_is (after_done st (removed k)) ds
next_is st (passed ∷ ds) = next_is st ds

count_push : (ds : List Done) (l : Lemma) → lemmas_in (ds ++ joined l ∷ []) ≡ lemmas_in ds + 1
count_push [] l = refl
count_push (joined k ∷ ds) l = omega (arith, count_push ds l)
count_push (removed k ∷ ds) l = count_push ds l
count_push (passed ∷ ds) l = count_push ds l

cells_push : (ds : List Done) (l : Lemma) → lemma_cells (ds ++ joined l ∷ []) ≡ lemma_cells ds + cond (is_empty l.clause) 0 (clause_cells l.clause)
cells_push [] l = omega arith
cells_push (joined k ∷ ds) l = omega (arith, cells_push ds l)
cells_push (removed k ∷ ds) l = cells_push ds l
cells_push (passed ∷ ds) l = cells_push ds l

deletion_adds : (lim : LimitValues) (f : Formula) (ds : List Done) (d : Done) → IsDeletion d → Fits lim f ds → Fits lim f (ds ++ d ∷ [])
deletion_adds lim f ds d i h = (omega (arith, count ds d i), omega (arith, cells ds d i))
  where
    count : (ds : List Done) (d : Done) → IsDeletion d → lemmas_in (ds ++ d ∷ []) ≡ lemmas_in ds
    count [] (joined l) i = absurd i
    count [] (removed n) i = refl
    count [] passed i = refl
    count (joined k ∷ ds) d i = omega (arith, count ds d i)
    count (removed k ∷ ds) d i = count ds d i
    count (passed ∷ ds) d i = count ds d i

    cells : (ds : List Done) (d : Done) → IsDeletion d → lemma_cells (ds ++ d ∷ []) ≡ lemma_cells ds
    cells [] (joined l) i = absurd i
    cells [] (removed n) i = refl
    cells [] passed i = refl
    cells (joined k ∷ ds) d i = omega (arith, cells ds d i)
    cells (removed k ∷ ds) d i = cells ds d i
    cells (passed ∷ ds) d i = cells ds d i

-- a line that passes no limit
none_passed : (st : LoaderState) (l : Line) → limit_of st l ≡ None → (passes_ids st l ≡ false) × (passes_cells st l ≡ false)
none_passed st l e = by_test (passes_ids st l)
    (λ t. let bad : Some Ids ≡ None = rw t at e in absurd cc)
    (λ t. by_test (passes_cells st l)
    (λ u. let bad : Some Cells ≡ None = rw (t, u) at e in absurd cc)
    (λ u. (t, u)))

lemma_adds : (lim : LimitValues) (s : TrimSaid) (f : Formula) (ds : List Done) (l : Lemma) → limit_of (loading lim s f ds) (lemma_line l) ≡ None → Fits lim f ds → Fits lim f (ds ++ joined l ∷ [])
lemma_adds lim s f ds l e h =
    let n = none_passed (loading lim s f ds) (lemma_line l) e in
    let number : (after_all (at_start f.clauses) ds).next + 1 ≤ lim.ids = grind (arith, nat_tests, n.0) in (
      omega (arith, count_push ds l, next_is (at_start f.clauses) ds),
      by_test (is_empty l.clause)
          (λ t. let same : lemma_cells (ds ++ joined l ∷ []) ≡ lemma_cells ds + 0 = rw t at (cells_push ds l) in omega (arith, h.1))
          (λ t. let more : lemma_cells (ds ++ joined l ∷ []) ≡ lemma_cells ds + clause_cells l.clause = rw t at (cells_push ds l) in
          let cells : nat_lt lim.cells (cells_of (clauses (all_loaded f.clauses ds)) + clause_cells l.clause) ≡ false = rw t at n.1 in
          let fit : cells_of (clauses (all_loaded f.clauses ds)) + clause_cells l.clause ≤ lim.cells = grind (arith, nat_tests) in
          omega (arith, loaded_cells f.clauses ds)),
    )

line_adds : (lim : LimitValues) (s : TrimSaid) (f : Formula) (ds : List Done) (l : Line) (d : Done) → limit_of (loading lim s f ds) l ≡ None → DidAs l d → Fits lim f ds → Fits lim f (ds ++ d ∷ [])
line_adds lim s f ds (lemma_line l) d e i h = subst (λ x. Fits lim f (ds ++ x ∷ [])) (sym i) (lemma_adds lim s f ds l e h)
line_adds lim s f ds (deletion_line c) d e i h = deletion_adds lim f ds d i h

-- what lines left is within the limits
record AreWithin (lim : LimitValues) (f : Formula) (ds : List Done) : Type 0 where
  lemmas : AreLemmas lim.vars ds
  fits : Fits lim f ds

line_within : (lim : LimitValues) (s : TrimSaid) (f : Formula) (ds : List Done) (l : Line) (d : Done) (keep : Bool) (live : Numbered) → AreWithin lim f ds → IsLine lim.vars l
    → limit_of (loading lim s f ds) l ≡ None → Did keep live l d → AreWithin lim f (ds ++ d ∷ [])
line_within lim s f ds l d keep live w i e did =
    let a = did_as keep live l d did in
    record { lemmas = lemmas_push lim.vars ds l d w.lemmas i a; fits = line_adds lim s f ds l d e a w.fits }

lines_within : (lim : LimitValues) (s : TrimSaid) (f : Formula) (form : Form) (ts rest : Tokens) (keep : Bool) (st : Standing) (before : List Done) (lines : List Line) (ds : List Done)
    → AreWithin lim f before → SpellLines form lim ts lines rest → AllDid keep st lines ds → LinesFit lim s f before lines ds → AreWithin lim f (before ++ ds)
lines_within lim s f form ts rest keep st before [] [] w p a h = subst (AreWithin lim f) (sym (append-nil before)) w
lines_within lim s f form ts rest keep st before [] (d ∷ ds) w p a h = absurd a
lines_within lim s f form ts rest keep st before (l ∷ ls) [] w p a h = absurd a
lines_within lim s f form ts rest keep st before (l ∷ ls) (d ∷ ds) w p a h =
    let one = line_within lim s f before l d keep st.alive w (read_line_within form lim ts p.0 l p.1) h.0 a.0 in
    subst (AreWithin lim f) (append_assoc before (d ∷ []) ds)
    (lines_within lim s f form p.0 rest keep (after_done st d) (before ++ d ∷ []) ls ds one p.2 a.1 h.1)

-- where a proof is trimmed: what was read and loaded, and what is written, is within the limits
pub record IsTrimmedWithin (lim : LimitValues) (s : TrimSaid) (formula : Contents) (f : Formula) (ds : List Done) (steps : List Step) : Type 0 where
  pub rest : Tokens
  pub read : formula_at lim (spelled lim.bytes formula) ≡ reads f rest
  pub formula_fits : nat_lt lim.cells (cells_of f.clauses) ≡ false
  pub trimming : IsTrimming f.clauses ds steps
  pub lemmas : AreLemmas lim.vars ds
  pub numbers : (after_all (at_start f.clauses) ds).next ≤ lim.ids
  pub cells : cells_of f.clauses + lemma_cells ds ≤ lim.cells
  pub text : is_some s.lsr ≡ true → length (lsr_text s.lsr_form f.clauses steps) ≤ lim.bytes

-- so it is where `trim` comes to steps; else it doesn't answer that a proof is verified
abbrev pub IsWithin : LimitValues → TrimSaid → Contents → Decision → Type 0
IsWithin lim s formula (stops o) = o ≢ outcome.Verified
IsWithin lim s formula (trims f ds steps) = IsTrimmedWithin lim s formula f ds steps

stopped_within : (lim : LimitValues) (s : TrimSaid) (formula : Contents) (d : Decision) (o : Outcome) → d ≡ stops o → o ≢ outcome.Verified → IsWithin lim s formula d
stopped_within lim s formula d o e n = subst (IsWithin lim s formula) (sym e) n

-- the formula that was read
record IsRead (lim : LimitValues) (formula : Contents) (f : Formula) : Type 0 where
  rest : Tokens
  read : formula_at lim (spelled lim.bytes formula) ≡ reads f rest
  fits : nat_lt lim.cells (cells_of f.clauses) ≡ false

length_within : (lim : LimitValues) (s : TrimSaid) (formula : Contents) (f : Formula) (ds : List Done) (steps : List Step) → IsRead lim formula f → AreWithin lim f ds → IsTrimming f.clauses ds steps
    → IsWithin lim s formula (by_length lim s f ds steps)
length_within lim s formula f ds steps r w t = by_test (is_some s.lsr && nat_lt lim.bytes (length (lsr_text s.lsr_form f.clauses steps)))
    (λ e. rw e (λ q. cc))
    (λ e. by_test (is_some s.core && nat_lt lim.bytes (length (core_text f steps)))
    (λ u. rw (e, u) (λ q. cc))
    (λ u. rw (e, u) (record {
      rest = r.rest;
      read = r.read;
      formula_fits = r.fits;
      trimming = t;
      lemmas = w.lemmas;
      numbers = omega (arith, next_is (at_start f.clauses) ds, w.fits.0);
      cells = w.fits.1;
      text = λ i. small i e;
    })))
  where
    small : is_some s.lsr ≡ true → (is_some s.lsr && nat_lt lim.bytes (length (lsr_text s.lsr_form f.clauses steps))) ≡ false → length (lsr_text s.lsr_form f.clauses steps) ≤ lim.bytes
    small i e = grind (arith, nat_tests)

pass_within : (lim : LimitValues) (s : TrimSaid) (formula : Contents) (f : Formula) (ds : List Done) (d : Decision) → IsRead lim formula f → AreWithin lim f ds → ByPass lim s f ds d → IsWithin lim s formula d
pass_within lim s formula f ds d r w (inl j) = stopped_within lim s formula d _ j.is (λ q. cc)
pass_within lim s formula f ds d r w (inr p) = subst (IsWithin lim s formula) (sym p.is) (length_within lim s formula f ds p.steps r w p.trimming)

stop_within : (lim : LimitValues) (s : TrimSaid) (formula : Contents) (f : Formula) (ds : List Done) (d : Decision) → IsRead lim formula f → AreWithin lim f ds → AtStop lim s f ds d → IsWithin lim s formula d
stop_within lim s formula f ds d r w (inl p) = pass_within lim s formula f ds d r w p.1
stop_within lim s formula f ds d r w (inr p) = stopped_within lim s formula d _ p.1 (λ q. cc)

last_within : (lim : LimitValues) (s : TrimSaid) (formula : Contents) (f : Formula) (ds : List Done) (d : Decision) (l : Line) (o : Option LimitKind) → IsRead lim formula f → AreWithin lim f ds → IsLine lim.vars l
    → limit_of (loading lim s f ds) l ≡ o → ByLine lim s f ds l o d → IsWithin lim s formula d
last_within lim s formula f ds d l (Some kind) r w i e b = stopped_within lim s formula d _ b (λ q. cc)
last_within lim s formula f ds d l None r w i e b =
    stop_within lim s formula f (ds ++ b.0 ∷ []) d r (line_within lim s f ds l b.0 s.keep (after_all (at_start f.clauses) ds).alive w i e b.1) b.2

ends_within : (lim : LimitValues) (s : TrimSaid) (formula : Contents) (f : Formula) (ds : List Done) (d : Decision) (ts : Tokens) (n : Read MaybeLine) → IsRead lim formula f → AreWithin lim f ds
    → line_in s.proof_form lim ts ≡ n → EndsLoading lim s f ds n d → IsWithin lim s formula d
ends_within lim s formula f ds d ts (reads (Some l) rest) r w e b =
    last_within lim s formula f ds d l (limit_of (loading lim s f ds) l) r w (read_line_within s.proof_form lim ts rest l e) refl b
ends_within lim s formula f ds d ts (reads None rest) r w e b = stopped_within lim s formula d _ b (λ q. cc)
ends_within lim s formula f ds d ts (misspells kind place) r w e b = stopped_within lim s formula d _ b (λ q. cc)
ends_within lim s formula f ds d ts (passes kind) r w e b = stopped_within lim s formula d _ b (λ q. cc)
ends_within lim s formula f ds d ts fails r w e b = stopped_within lim s formula d _ b (λ q. cc)

proof_within : (lim : LimitValues) (s : TrimSaid) (formula : Contents) (f : Formula) (proof : Tokens) (d : Decision) (begun : ℕ) → IsRead lim formula f → AreWithin lim f []
    → ByProof lim s f proof d begun → IsWithin lim s formula d
proof_within lim s formula f proof d begun r w (inl p) = pass_within lim s formula f [] d r w p.1
proof_within lim s formula f proof d begun r w (inr p) =
    let b : ByLines lim s f proof d = p.1 in
    ends_within lim s formula f b.done d b.rest (line_in s.proof_form lim b.rest) r
    (lines_within lim s f s.proof_form proof b.rest s.keep (at_start f.clauses) [] b.lines b.done w b.spelled b.did b.fits) refl b.ends

-- so are a formula's clauses
clauses_within : (lim : LimitValues) (formula : Contents) (f : Formula) → IsRead lim formula f → AreWithin lim f []
clauses_within lim formula f r =
    let p : SpellsFormula lim (spelled lim.bytes formula) f r.rest = read_is_spelled lim (spelled lim.bytes formula) f r.rest r.read in
    let count : length f.clauses ≡ length p.numbers = ap length p.clauses ∙ length-map p.numbers _ in
    let cells : cells_of f.clauses ≤ lim.cells = grind (arith, nat_tests, r.fits) in
    record { lemmas = tt; fits = (omega (arith, p.count), omega arith) }

formula_within : (lim : LimitValues) (s : TrimSaid) (formula : Contents) (proof : Tokens) (d : Decision) (begun : ℕ) (n : Read Formula) → formula_at lim (spelled lim.bytes formula) ≡ n
    → ByFormula lim s proof n d begun → IsWithin lim s formula d
formula_within lim s formula proof d begun (reads f rest) e b = by_test (nat_lt lim.cells (cells_of f.clauses))
    (λ t. let stop : (d ≡ stops _) × (begun ≡ 1) = rw t at b in stopped_within lim s formula d _ stop.0 (λ q. cc))
    (λ t. let read : IsRead lim formula f = record { rest = rest; read = e; fits = t } in
    proof_within lim s formula f proof d begun read (clauses_within lim formula f read) (rw t at b))
formula_within lim s formula proof d begun (misspells kind place) e b = stopped_within lim s formula d _ b.0 (λ q. cc)
formula_within lim s formula proof d begun (passes kind) e b = stopped_within lim s formula d _ b.0 (λ q. cc)
formula_within lim s formula proof d begun fails e b = stopped_within lim s formula d _ b.0 (λ q. cc)

pub decided_within : (lim : LimitValues) (s : TrimSaid) (formula proof : Contents) (d : Decision) (begun : ℕ) → IsDecided lim s formula proof d begun → IsWithin lim s formula d
decided_within lim s formula proof d begun b = formula_within lim s formula (line_tokens s.proof_form lim.bytes proof) d begun (formula_at lim (spelled lim.bytes formula)) refl b
