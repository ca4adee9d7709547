-- What is decided without steps isn't verified.
use Rattle.std.proofs.Common.{◌≡◌, ◌∙◌, inl, inr, ℕ, Bool, true, false, [], ◌∷◌, ◌++◌, Option, Some, None, refl, ap}
use Rattle.std.specs.Prelude.{List, nat_lt}
use Rattle.sr_base.specs.Limits.{LimitValues}
use Rattle.sr_base.specs.Contents.{Contents}
use Rattle.sr_base.specs.declared.names.Which.TheVariants as which
use Rattle.sr_base.specs.declared.names.LimitKind.{LimitKind}
use Rattle.sr_base.specs.declared.names.LimitKind.TheVariants.{Cells, Bytes}
use Rattle.sr_model.specs.Tokens.{Tokens}
use Rattle.sr_model.specs.TextTokens.{spelled}
use Rattle.sr_model.specs.Reading.{Read, reads, misspells, passes, fails}
use Rattle.sr_model.specs.Judging.{cells_of}
use Rattle.sr_model.specs.Dimacs.{Formula, formula_at}
use Rattle.sr_model.specs.Dsr.{Line, MaybeLine, line_in, line_tokens}
use Rattle.sr_trimming.specs.Loading.{Done}
use Rattle.sr_emit.specs.Status.{is_verified}
use Rattle.sr_emit.specs.declared.outcome.Outcome.{Outcome}
use Rattle.sr_emit.specs.declared.outcome.Outcome.TheVariants as outcome
use Rattle.sr_trim.specs.Said.{TrimSaid}
use Rattle.sr_trim.specs.Deciding.{stops, trims, passes_lsr, passes_core, ByPass, AtStop, ByLine, limit_of, loading, EndsLoading, ByProof, ByClauses, ByFormula, IsDecided}

stop_is : (o x : Outcome) → stops o ≡ stops x → is_verified x ≡ false → is_verified o ≡ false
stop_is o x e v = let same : o ≡ x = cc in ap is_verified same ∙ v

module _ (lim : LimitValues) (s : TrimSaid) (o : Outcome) where
  pass_stops : (f : Formula) (ds : List Done) → ByPass lim s f ds (stops o) → is_verified o ≡ false
  pass_stops f ds (inl r) = stop_is o (outcome.RejectedLemma r.lemma (Some r.against)) r.is refl
  pass_stops f ds (inr p) = at (passes_lsr lim s f p.steps) refl (passes_core lim s f p.steps) refl
    where
      at : (x : Bool) → passes_lsr lim s f p.steps ≡ x → (y : Bool) → passes_core lim s f p.steps ≡ y → is_verified o ≡ false
      at true ex y ey = stop_is o (outcome.Limit which.Lsr Bytes) (p.is ∙ rw ex refl) refl
      at false ex true ey = stop_is o (outcome.Limit which.Core Bytes) (p.is ∙ rw (ex, ey) refl) refl
      at false ex false ey = let e : stops o ≡ trims f ds p.steps = p.is ∙ rw (ex, ey) refl in absurd cc

  line_stops : (f : Formula) (ds : List Done) (l : Line) (m : Option LimitKind) → ByLine lim s f ds l m (stops o) → is_verified o ≡ false
  line_stops f ds l (Some kind) h = stop_is o (outcome.Limit which.Proof kind) h refl
  line_stops f ds l None h = at_stop (ds ++ h.0 ∷ []) h.2
    where
      at_stop : (ds : List Done) → AtStop lim s f ds (stops o) → is_verified o ≡ false
      at_stop ds (inl k) = pass_stops f ds k.1
      at_stop ds (inr k) = stop_is o _ k.1 refl

  end_stops : (f : Formula) (ds : List Done) (r : Read MaybeLine) → EndsLoading lim s f ds r (stops o) → is_verified o ≡ false
  end_stops f ds (reads (Some l) rest) h = line_stops f ds l (limit_of (loading lim s f ds) l) h
  end_stops f ds (reads None rest) h = stop_is o outcome.NoEmptyClause h refl
  end_stops f ds (misspells kind place) h = stop_is o (outcome.Text which.Proof kind place) h refl
  end_stops f ds (passes kind) h = stop_is o (outcome.Limit which.Proof kind) h refl
  end_stops f ds fails h = stop_is o (outcome.SourceFault which.Proof) h refl

  proof_stops : (f : Formula) (ts : Tokens) (begun : ℕ) → ByProof lim s f ts (stops o) begun → is_verified o ≡ false
  proof_stops f ts begun (inl h) = pass_stops f [] h.1
  proof_stops f ts begun (inr h) = end_stops f h.1.done (line_in s.proof_form lim h.1.rest) h.1.ends

  clauses_stop : (f : Formula) (ts : Tokens) (begun : ℕ) → ByClauses lim s f ts (stops o) begun → is_verified o ≡ false
  clauses_stop f ts begun h = at (nat_lt lim.cells (cells_of f.clauses)) refl
    where
      at : (x : Bool) → nat_lt lim.cells (cells_of f.clauses) ≡ x → is_verified o ≡ false
      at true e = let k = rw e at h in stop_is o (outcome.Limit which.Formula Cells) k.0 refl
      at false e = let k = rw e at h in proof_stops f ts begun k

  formula_stops : (ts : Tokens) (r : Read Formula) (begun : ℕ) → ByFormula lim s ts r (stops o) begun → is_verified o ≡ false
  formula_stops ts (reads f rest) begun h = clauses_stop f ts begun h
  formula_stops ts (misspells kind place) begun h = stop_is o (outcome.Text which.Formula kind place) h.0 refl
  formula_stops ts (passes kind) begun h = stop_is o (outcome.Limit which.Formula kind) h.0 refl
  formula_stops ts fails begun h = stop_is o (outcome.SourceFault which.Formula) h.0 refl

pub stops_unverified : (lim : LimitValues) (s : TrimSaid) (formula proof : Contents) (o : Outcome) (begun : ℕ) → IsDecided lim s formula proof (stops o) begun → is_verified o ≡ false
stops_unverified lim s formula proof o begun by = formula_stops lim s o (line_tokens s.proof_form lim.bytes proof) (formula_at lim (spelled lim.bytes formula)) begun by
