-- The lines that were read have their pivots, so what a rejection shows stands alone.
use Rattle.std.proofs.Common.{◌≡◌, inl, inr, ℕ, Bool, List, [], ◌∷◌, ◌++◌, Option, Some, None, refl, sym, subst}
use Rattle.std.specs.Prelude.{◌-◌, nat_lt}
use Rattle.sr_base.specs.Literal.{Literal}
use Rattle.sr_base.specs.Limits.{LimitValues}
use Rattle.sr_base.specs.Contents.{Contents}
use Rattle.sr_base.specs.declared.names.Form.{Form}
use Rattle.sr_base.specs.declared.names.Which.TheVariants as which
use Rattle.sr_base.specs.declared.names.LimitKind.{LimitKind}
use Rattle.sr_base.specs.declared.names.LimitKind.TheVariants.{Cells}
use Rattle.sr_model.specs.Tokens.{Tokens}
use Rattle.sr_model.specs.Reading.{Read, reads, misspells, passes, fails}
use Rattle.sr_model.specs.TextTokens.{spelled}
use Rattle.sr_model.specs.Meeting.{Group, Step}
use Rattle.sr_model.specs.Chain.{Numbered}
use Rattle.sr_model.specs.Judging.{cells_of}
use Rattle.sr_model.specs.Dimacs.{Formula, formula_at}
use Rattle.sr_model.specs.Dsr.{Lemma, Line, lemma_line, deletion_line, MaybeLine, LineHasPivot, line_in, line_tokens, SpellLines}
use Rattle.sr_model.proofs.ReadPivots.{read_lines_have_pivots}
use Rattle.sr_model.proofs.Soundness.{by_test}
use Rattle.sr_trimming.specs.Loading.{Done, joined, removed, passed, at_start, after_done, after_all, last_of, Did, DeletionDid, AllDid}
use Rattle.sr_trimming.specs.From.{LemmasHavePivots}
use Rattle.sr_trimming.specs.Evidence.{FailsAt}
use Rattle.sr_trimming.proofs.Evidence.{does_not_pass, is_needed}
use Rattle.sr_emit.specs.declared.outcome.Outcome.TheVariants as outcome
use Rattle.sr_desk.specs.Outside.{Outside}
use Rattle.sr_trim.specs.Said.{TrimSaid}
use Rattle.sr_trim.specs.Outputs.{Writes}
use Rattle.sr_trim.specs.Deciding.{Decision, stops, trims, passes_lsr, passes_core, by_length, ByPass, loading, limit_of, AtStop, ByLine, EndsLoading, ByProof, ByFormula, IsDecided}
use Rattle.sr_completes.specs.Completing.{IsVerifiedOrUnwritten}
use Rattle.sr_completes.specs.Rejecting.{LoadedLinesHavePivots, IsShownToFail, RejectionsStand, FoundRejectionsStand}
use Rattle.sr_completes.proofs.Completing.{did_more, two_files}

-- a deletion joins no lemma
no_lemma : (keep : Bool) (live : Numbered) (c : List Literal) (m : Lemma) (o : Option ℕ) → DeletionDid keep live c (joined m) o → ⊥
no_lemma keep live c m None e = absurd cc
no_lemma keep live c m (Some n) (inl x) = let e : joined m ≡ passed = x.1 in absurd cc
no_lemma keep live c m (Some n) (inr x) = let e : joined m ≡ removed n = x.1 in absurd cc

one_more : (keep : Bool) (live : Numbered) (l : Line) (d : Done) (ds : List Done) → LineHasPivot l → Did keep live l d → LemmasHavePivots ds → LemmasHavePivots (d ∷ ds)
one_more keep live (lemma_line l) (joined m) ds p e h = (subst (λ x. LineHasPivot (lemma_line x)) (let is : joined m ≡ joined l = e in cc) p, h)
one_more keep live (deletion_line c) (joined m) ds p e h = absurd (no_lemma keep live c m (last_of live c) e)
one_more keep live l (removed k) ds p e h = h
one_more keep live l passed ds p e h = h

pub loaded_pivots : LoadedLinesHavePivots
loaded_pivots form lim keep st ts rest [] [] s a = tt
loaded_pivots form lim keep st ts rest [] (d ∷ ds) s a = absurd a
loaded_pivots form lim keep st ts rest (l ∷ ls) [] s a = absurd a
loaded_pivots form lim keep st ts rest (l ∷ ls) (d ∷ ds) s a =
    one_more keep st.alive l d ds (read_lines_have_pivots form lim ts s.0 l s.1) a.0 (loaded_pivots form lim keep (after_done st d) s.0 rest ls ds s.2 a.1)

-- one line more is spelled
spell_more : (form : Form) (lim : LimitValues) (ts : Tokens) (ls : List Line) (l : Line) (mid rest : Tokens) → SpellLines form lim ts ls mid → line_in form lim mid ≡ reads (Some l) rest → SpellLines form lim ts (ls ++ l ∷ []) rest
spell_more form lim ts [] l mid rest s e = (rest, subst (λ t. line_in form lim t ≡ reads (Some l) rest) (sym s) e, refl)
spell_more form lim ts (k ∷ ks) l mid rest s e = (s.0, s.1, spell_more form lim s.0 ks l mid rest s.2 e)

abbrev Rejects : ℕ → ℕ → Decision
Rejects number against = stops (outcome.RejectedLemma number (Some against))

no_limit : (lim : LimitValues) (s : TrimSaid) (f : Formula) (ds : List Done) (steps : List Step) (number against : ℕ) → Rejects number against ≡ by_length lim s f ds steps → ⊥
no_limit lim s f ds steps number against e = by_test (passes_lsr lim s f steps)
    (λ t. let bad : Rejects number against ≡ _ = rw t at e in absurd cc)
    (λ t. by_test (passes_core lim s f steps)
    (λ u. let bad : Rejects number against ≡ _ = rw (t, u) at e in absurd cc)
    (λ u. let bad : Rejects number against ≡ _ = rw (t, u) at e in absurd cc))

-- what was read and loaded, up to the conflict
record Front (lim : LimitValues) (s : TrimSaid) (formula proof : Contents) (f : Formula) (ds : List Done) : Type 0 where
  after : Tokens
  is_formula : formula_at lim (spelled lim.bytes formula) ≡ reads f after
  lines : List Line
  rest : Tokens
  spelled_lines : SpellLines s.proof_form lim (line_tokens s.proof_form lim.bytes proof) lines rest
  did : AllDid s.keep (at_start f.clauses) lines ds

shown : (lim : LimitValues) (s : TrimSaid) (formula proof : Contents) (f : Formula) (ds : List Done) (number against : ℕ) → Front lim s formula proof f ds → (groups : List Group) (tail : List Step)
    → FailsAt f.clauses ds number against groups tail → IsShownToFail lim s formula proof number against
shown lim s formula proof f ds number against x groups tail y =
    let n = is_needed f.clauses ds number against groups tail y in record {
      f = f;
      after = x.after;
      is_formula = x.is_formula;
      lines = x.lines;
      rest = x.rest;
      spelled_lines = x.spelled_lines;
      done = ds;
      did = x.did;
      groups = groups;
      tail = tail;
      fails = y;
      not_passed = does_not_pass f.clauses ds number against groups tail y;
      cited = n.0;
      alive = n.1;
      met = n.2 (loaded_pivots s.proof_form lim s.keep (at_start f.clauses) (line_tokens s.proof_form lim.bytes proof) x.rest x.lines ds x.spelled_lines x.did);
    }

by_pass : (lim : LimitValues) (s : TrimSaid) (formula proof : Contents) (f : Formula) (ds : List Done) (number against : ℕ) → Front lim s formula proof f ds → ByPass lim s f ds (Rejects number against) → IsShownToFail lim s formula proof number against
by_pass lim s formula proof f ds number against x (inr p) = absurd (no_limit lim s f ds p.steps number against p.is)
by_pass lim s formula proof f ds number against x (inl r) =
    let n : r.lemma ≡ number = (let e : Rejects number against ≡ Rejects r.lemma r.against = r.is in cc) in
    let a : r.against ≡ against = (let e : Rejects number against ≡ Rejects r.lemma r.against = r.is in cc) in
    subst (λ k. IsShownToFail lim s formula proof k against) n (subst (IsShownToFail lim s formula proof r.lemma) a (shown lim s formula proof f ds r.lemma r.against x r.groups r.tail r.fails))

at_stop : (lim : LimitValues) (s : TrimSaid) (formula proof : Contents) (f : Formula) (ds : List Done) (number against : ℕ) → Front lim s formula proof f ds → AtStop lim s f ds (Rejects number against) → IsShownToFail lim s formula proof number against
at_stop lim s formula proof f ds number against x (inl y) = by_pass lim s formula proof f ds number against x y.1
at_stop lim s formula proof f ds number against x (inr y) = let e : Rejects number against ≡ stops (outcome.RejectedLemma ((after_all (at_start f.clauses) ds).next - 1) None) = y.1 in absurd cc

-- the lines that follow those at which loading goes on
by_line : (lim : LimitValues) (s : TrimSaid) (formula proof : Contents) (f : Formula) (ds : List Done) (number against : ℕ) (l : Line) (mid : Tokens) (x : Front lim s formula proof f ds) → line_in s.proof_form lim x.rest ≡ reads (Some l) mid
    → (o : Option LimitKind) → ByLine lim s f ds l o (Rejects number against) → IsShownToFail lim s formula proof number against
by_line lim s formula proof f ds number against l mid x e (Some kind) y = let bad : Rejects number against ≡ stops (outcome.Limit which.Proof kind) = y in absurd cc
by_line lim s formula proof f ds number against l mid x e None y = at_stop lim s formula proof f (ds ++ y.0 ∷ []) number against (record {
  after = x.after;
  is_formula = x.is_formula;
  lines = x.lines ++ l ∷ [];
  rest = mid;
  spelled_lines = spell_more s.proof_form lim (line_tokens s.proof_form lim.bytes proof) x.lines l x.rest mid x.spelled_lines e;
  did = did_more s.keep (at_start f.clauses) x.lines ds l y.0 x.did y.1;
}) y.2

by_next : (lim : LimitValues) (s : TrimSaid) (formula proof : Contents) (f : Formula) (ds : List Done) (number against : ℕ) (x : Front lim s formula proof f ds) (r : Read MaybeLine) → line_in s.proof_form lim x.rest ≡ r
    → EndsLoading lim s f ds r (Rejects number against) → IsShownToFail lim s formula proof number against
by_next lim s formula proof f ds number against x (reads (Some l) mid) e y = by_line lim s formula proof f ds number against l mid x e (limit_of (loading lim s f ds) l) y
by_next lim s formula proof f ds number against x (reads None mid) e y = let bad : Rejects number against ≡ stops outcome.NoEmptyClause = y in absurd cc
by_next lim s formula proof f ds number against x (misspells kind place) e y = let bad : Rejects number against ≡ stops (outcome.Text which.Proof kind place) = y in absurd cc
by_next lim s formula proof f ds number against x (passes kind) e y = let bad : Rejects number against ≡ stops (outcome.Limit which.Proof kind) = y in absurd cc
by_next lim s formula proof f ds number against x fails e y = let bad : Rejects number against ≡ stops (outcome.SourceFault which.Proof) = y in absurd cc

by_proof : (lim : LimitValues) (s : TrimSaid) (formula proof : Contents) (f : Formula) (after : Tokens) (number against begun : ℕ) → formula_at lim (spelled lim.bytes formula) ≡ reads f after
    → ByProof lim s f (line_tokens s.proof_form lim.bytes proof) (Rejects number against) begun → IsShownToFail lim s formula proof number against
by_proof lim s formula proof f after number against begun e (inl x) = by_pass lim s formula proof f [] number against (record {
  after = after;
  is_formula = e;
  lines = [];
  rest = line_tokens s.proof_form lim.bytes proof;
  spelled_lines = refl;
  did = tt;
}) x.1
by_proof lim s formula proof f after number against begun e (inr x) =
    let b = x.1 in
    by_next lim s formula proof f b.done number against (record { after = after; is_formula = e; lines = b.lines; rest = b.rest; spelled_lines = b.spelled; did = b.did }) (line_in s.proof_form lim b.rest) refl b.ends

by_formula : (lim : LimitValues) (s : TrimSaid) (formula proof : Contents) (number against begun : ℕ) (r : Read Formula) → formula_at lim (spelled lim.bytes formula) ≡ r
    → ByFormula lim s (line_tokens s.proof_form lim.bytes proof) r (Rejects number against) begun → IsShownToFail lim s formula proof number against
by_formula lim s formula proof number against begun (reads f after) e x = by_test (nat_lt lim.cells (cells_of f.clauses))
    (λ t. let bad : (Rejects number against ≡ stops (outcome.Limit which.Formula Cells)) × (begun ≡ 1) = rw t at x in absurd (let b : Rejects number against ≡ stops (outcome.Limit which.Formula Cells) = bad.0 in cc))
    (λ t. let y : ByProof lim s f (line_tokens s.proof_form lim.bytes proof) (Rejects number against) begun = rw t at x in by_proof lim s formula proof f after number against begun e y)
by_formula lim s formula proof number against begun (misspells kind place) e x = let bad : Rejects number against ≡ stops (outcome.Text which.Formula kind place) = x.0 in absurd cc
by_formula lim s formula proof number against begun (passes kind) e x = let bad : Rejects number against ≡ stops (outcome.Limit which.Formula kind) = x.0 in absurd cc
by_formula lim s formula proof number against begun fails e x = let bad : Rejects number against ≡ stops (outcome.SourceFault which.Formula) = x.0 in absurd cc

pub rejections_stand : RejectionsStand
rejections_stand lim s formula proof number against begun x = by_formula lim s formula proof number against begun (formula_at lim (spelled lim.bytes formula)) refl x

-- where nothing but a rejection is answered, that was decided
decided_so : (s : TrimSaid) (d : Decision) (old new : Outside) (number against : ℕ) → Writes s d old new (outcome.RejectedLemma number (Some against)) → d ≡ Rejects number against
decided_so s (stops o) old new number against w = let e : outcome.RejectedLemma number (Some against) ≡ o = w.1 in cc
decided_so s (trims f ds steps) old new number against w = absurd (unlike (two_files s f steps old new (outcome.RejectedLemma number (Some against)) w))
  where
    unlike : IsVerifiedOrUnwritten (outcome.RejectedLemma number (Some against)) → ⊥
    unlike (inl e) = cc
    unlike (inr (inl e)) = cc
    unlike (inr (inr (inl e))) = cc
    unlike (inr (inr (inr (inl e)))) = cc
    unlike (inr (inr (inr (inr e)))) = cc

pub found_rejections_stand : FoundRejectionsStand
found_rejections_stand lim s old new k number against t formula proof a0 a1 =
    rejections_stand lim s formula proof number against t.mid.begun
    (subst (λ d. IsDecided lim s formula proof d t.mid.begun) (decided_so s t.decision t.mid new number against t.writes) (t.decided formula proof a0 a1))
