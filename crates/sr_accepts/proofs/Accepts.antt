-- What `trim` writes, `check` verifies.
use Rattle.std.proofs.Common.{◌≡◌, ◌∙◌, ℕ, ◌≤◌, Bool, true, false, List, [], cond, map, length, sym, ap, subst, arith, append-nil}
use Rattle.std.specs.Prelude.{All, is_some}
use Rattle.std.proofs.Math.Nat.{min-eq_left}
use Rattle.sr_base.specs.Limits.{LimitValues}
use Rattle.sr_base.specs.Contents.{Contents, ended, whole}
use Rattle.sr_base.specs.declared.names.Form.{Form}
use Rattle.sr_model.specs.Tokens.{Tokens}
use Rattle.sr_model.specs.TextTokens.{spelled}
use Rattle.sr_model.specs.Refutation.{has_empty}
use Rattle.sr_model.specs.Meeting.{Step}
use Rattle.sr_model.specs.Judging.{Item, first_live, cells_of}
use Rattle.sr_model.specs.Dimacs.{Formula, formula_at}
use Rattle.sr_model.specs.LsrBinary.{item_tokens, SpellItemsIn}
use Rattle.sr_model.specs.Writing.{written_items}
use Rattle.sr_model.specs.ReadAgain.{AreLimits, IsItem, read_as}
use Rattle.sr_model.proofs.Soundness.{by_test}
use Rattle.sr_model.proofs.Judged.{clauses_numbered}
use Rattle.sr_model.proofs.FilesAgain.{item_files_again}
use Rattle.sr_trimming.specs.Placing.{placed}
use Rattle.sr_trimming.specs.Loading.{Done}
use Rattle.sr_trim.specs.Said.{TrimSaid}
use Rattle.sr_trim.specs.Deciding.{trims}
use Rattle.sr_trim.specs.Trimming.{lsr_text}
use Rattle.sr_emit.specs.declared.counts.Counts.{Counts}
use Rattle.sr_emit.specs.declared.outcome.Outcome.{Outcome}
use Rattle.sr_emit.specs.declared.outcome.Outcome.TheVariants as outcome
use Rattle.sr_cli.specs.Words.{Said}
use Rattle.sr_cli.specs.Check.{IsFirst, CellsFit, counted, counts_of, ByProof, ByClauses, ByFormula}
use Rattle.sr_accepts.proofs.Replay.{met_as, fit_as, ends_read, placed_ends_last, proof_replays}
use Rattle.sr_accepts.proofs.Fitting.{items_fit, placed_cells, trimmed_fits}
use Rattle.sr_accepts.proofs.Counting.{steps_counted, hints_counted, steps_few}
use Rattle.sr_accepts.proofs.StepsWithin.{placed_within}
use Rattle.sr_accepts.proofs.Loads.{IsTrimmedWithin, decided_within}
use Rattle.sr_accepts.specs.Accepting.{IsAccepted, TrimmedIsAccepted}

-- what is written has as many bytes at most
abbrev IsShort : Form → LimitValues → List Item → Type 0
IsShort form lim items = length (written_items form items) ≤ lim.bytes

-- the file that is written spells the items
spelled_again : (form : Form) (lim : LimitValues) (items : List Item) → AreLimits lim → All (IsItem lim) items → IsShort form lim items
    → (rest : Tokens) × SpellItemsIn form lim (item_tokens form lim.bytes (whole (written_items form items))) (map (read_as form) items) rest
spelled_again form lim items a i h =
    let r = item_files_again form lim items ended [] a i h in
    (r.0, subst (λ bytes. SpellItemsIn form lim (item_tokens form lim.bytes (whole bytes)) (map (read_as form) items) r.0) (append-nil (written_items form items)) r.1)

-- all of them are met, and pass no limit
cells_fit : (lim : LimitValues) (s : TrimSaid) (formula : Contents) (f : Formula) (ds : List Done) (steps : List Step) → IsTrimmedWithin lim s formula f ds steps
    → CellsFit lim.cells (first_live f.clauses) (placed f.clauses steps)
cells_fit lim s formula f ds steps w =
    items_fit lim.cells (first_live f.clauses) (placed f.clauses steps)
    (omega (arith, ap cells_of (clauses_numbered 1 f.clauses), placed_cells f.clauses steps, trimmed_fits f.clauses ds steps w.trimming.from w.trimming.linked, w.cells))

file_verified : (lim : LimitValues) (s : TrimSaid) (formula : Contents) (f : Formula) (ds : List Done) (steps : List Step) (strict : Bool) (o : Outcome) (k : Counts)
    → AreLimits lim → IsTrimmedWithin lim s formula f ds steps → IsShort s.lsr_form lim (placed f.clauses steps)
    → ByProof lim s.lsr_form strict f.clauses (item_tokens s.lsr_form lim.bytes (whole (lsr_text s.lsr_form f.clauses steps))) o k
    → (o ≡ outcome.Verified) × (k ≡ counts_of f.clauses (map (read_as s.lsr_form) (placed f.clauses steps)))
file_verified lim s formula f ds steps strict o k a w h p =
    let form : Form = s.lsr_form in
    let items : List Item = placed f.clauses steps in
    let may : All (IsItem lim) items = placed_within lim f.clauses ds steps w.lemmas w.numbers w.trimming.from w.trimming.trimmed.lean in
    let again = spelled_again form lim items a may h in
    proof_replays form lim strict f.clauses (item_tokens form lim.bytes (whole (lsr_text form f.clauses steps))) again.0 (map (read_as form) items) o k again.1
    (met_as form strict (first_live f.clauses) items (w.trimming.met strict))
    (fit_as form lim.cells (first_live f.clauses) items (cells_fit lim s formula f ds steps w))
    (ends_read form items (placed_ends_last f.clauses steps w.trimming.linked)) p

-- a count that no limit lets pass 64 bits
few_counted : (n most : ℕ) → n ≤ most → most ≤ 2147483647 → counted n ≡ n
few_counted n most a b = min-eq_left (omega arith)

file_accepted : (lim : LimitValues) (s : TrimSaid) (formula : Contents) (f : Formula) (ds : List Done) (steps : List Step) (strict : Bool) (o : Outcome) (k : Counts)
    → AreLimits lim → IsTrimmedWithin lim s formula f ds steps → IsShort s.lsr_form lim (placed f.clauses steps)
    → ByProof lim s.lsr_form strict f.clauses (item_tokens s.lsr_form lim.bytes (whole (lsr_text s.lsr_form f.clauses steps))) o k → IsAccepted f.clauses ds steps o k
file_accepted lim s formula f ds steps strict o k a w h p =
    let r = file_verified lim s formula f ds steps strict o k a w h p in
    let few : length steps ≤ lim.ids = omega (arith, steps_few f.clauses ds (length f.clauses) steps w.trimming.linked w.trimming.from, w.numbers) in
    record {
      verified = r.0;
      same_steps = λ n. ap (λ x. x.steps) r.1 ∙ ap counted (steps_counted s.lsr_form f.clauses steps) ∙ few_counted (length steps) lim.ids few a.2;
      same_hints = λ n. ap (λ x. x.hints) r.1 ∙ ap counted (hints_counted s.lsr_form f.clauses steps);
    }

pub within_accepted : (lim : LimitValues) (s : TrimSaid) (formula : Contents) (f : Formula) (ds : List Done) (steps : List Step) (said : Said) (o : Outcome) (k : Counts) (checked : ℕ)
    → AreLimits lim → IsTrimmedWithin lim s formula f ds steps → is_some s.lsr ≡ true → said.proof_form ≡ s.lsr_form
    → IsFirst lim said formula (whole (lsr_text s.lsr_form f.clauses steps)) o k checked → IsAccepted f.clauses ds steps o k
within_accepted lim s formula f ds steps said o k checked a w some form e =
    let file : Contents = whole (lsr_text s.lsr_form f.clauses steps) in
    let first : ByFormula lim s.lsr_form said.strict file (formula_at lim (spelled lim.bytes formula)) o k checked =
    subst (λ x. ByFormula lim x said.strict file (formula_at lim (spelled lim.bytes formula)) o k checked) form e in
    let by : ByClauses lim s.lsr_form said.strict file f.clauses o k checked = subst (λ n. ByFormula lim s.lsr_form said.strict file n o k checked) w.read first in
    let rest : cond (has_empty f.clauses) ((o ≡ outcome.Verified) × (k ≡ counts_of f.clauses []) × (checked ≡ 1))
    (ByProof lim s.lsr_form said.strict f.clauses (item_tokens s.lsr_form lim.bytes file) o k × (checked ≡ 2)) = rw w.formula_fits at by in
    by_test (has_empty f.clauses)
    (λ t. let at_once : (o ≡ outcome.Verified) × (k ≡ counts_of f.clauses []) × (checked ≡ 1) = rw t at rest in
    record { verified = at_once.0; same_steps = λ n. (let bad : true ≡ false = sym t ∙ n in absurd cc); same_hints = λ n. (let bad : true ≡ false = sym t ∙ n in absurd cc) })
    (λ t. let read : ByProof lim s.lsr_form said.strict f.clauses (item_tokens s.lsr_form lim.bytes file) o k × (checked ≡ 2) = rw t at rest in
    file_accepted lim s formula f ds steps said.strict o k a w (w.text some) read.0)

pub accepted : TrimmedIsAccepted
accepted lim s formula proof f ds steps begun said o k checked a d some form e =
    within_accepted lim s formula f ds steps said o k checked a (decided_within lim s formula proof (trims f ds steps) begun d) some form e
