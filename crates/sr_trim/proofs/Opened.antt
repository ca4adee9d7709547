-- From the lines of a proof to its file, and from the formula to both files.
use Rattle.std.proofs.Common.{◌≡◌, ◌∙◌, ◌↔◌, ◌<◌, ◌≤◌, inl, inr, ◌-◌, ℕ, true, false, List, [], Option, Some, Ok, Err, refl, sym, ap, subst, arith}
use Rattle.std.specs.Prelude.{nat_le, nat_lt, Result}
use Rattle.std.proofs.lemmas.Bool.Decides.{nat_tests}
use Rattle.sr_model.proofs.Soundness.{by_test}
use Rattle.sr_base.specs.Limits.{LimitValues}
use Rattle.sr_base.specs.Contents.{Contents, failed}
use Rattle.sr_base.specs.declared.names.Form.{Form}
use Rattle.sr_base.specs.declared.names.Form.TheVariants as form
use Rattle.sr_base.specs.declared.names.Which.TheVariants as which
use Rattle.sr_base.specs.declared.names.InputError.{InputError}
use Rattle.sr_base.specs.declared.names.InputError.TheVariants as fault
use Rattle.sr_model.specs.Tokens.{Tokens, lost}
use Rattle.sr_model.specs.Reading.{Read, fails}
use Rattle.sr_model.specs.TextTokens.{spelled}
use Rattle.sr_model.specs.BinaryTokens.{spelled_binary, binary_from}
use Rattle.sr_model.specs.Judging.{cells_of}
use Rattle.sr_model.specs.Dimacs.{Formula, formula_at}
use Rattle.sr_model.specs.Dsr.{MaybeLine, line_at, line_in, line_tokens, binary_line_at}
use Rattle.sr_desk.specs.Outside.{Outside, SlotState, source, Agrees}
use Rattle.sr_desk.specs.Reader.{Reader}
use Rattle.sr_desk.specs.Next.{ForContents}
use Rattle.sr_scan.specs.Left.{tokens_left, is_source, Refuses}
use Rattle.sr_trimming.specs.Loading.{at_start, StopsAfter, at_conflict, going_on}
use Rattle.sr_load.specs.Loading.{LoaderState}
use Rattle.sr_emit.specs.declared.outcome.Outcome.{Outcome}
use Rattle.sr_emit.specs.declared.outcome.Outcome.TheVariants as outcome
use Rattle.sr_files.specs.Files.{fresh, ReadsFiles, ReadsFront, GivesFile, IsUnread, IsCallFault, outcome_by}
use Rattle.sr_files.proofs.Reading.{fresh_text, unread_text, unread_agrees}
use Rattle.sr_trim.specs.Said.{TrimSaid}
use Rattle.sr_trim.specs.Deciding.{Decision, stops, loading, EndsLoading, ByPass, ByLines, ByClauses, ByFormula, IsDecided}
use Rattle.sr_trim.specs.Lines.{LoadsTo, LoadsProof, LoadsClauses, LoadsFiles}

fresh_lines : (f : Form) (slot limit : ℕ) (c : Contents) → tokens_left f 1 0 (fresh slot limit) c ≡ line_tokens f limit c
fresh_lines form.Text slot limit c = fresh_text slot limit c
fresh_lines form.Binary slot limit c = let all : limit - 0 ≡ limit = omega arith in rw all refl

no_bytes : (limit : ℕ) → binary_from failed 1 0 limit 0 [] ≡ lost
unfolding binary_from
no_bytes limit = let small : nat_le 0 limit ≡ true = grind (arith, nat_tests) in rw small refl

unread_bytes : (limit : ℕ) (s : SlotState) (c : Contents) → IsUnread s → Agrees s c → spelled_binary 1 limit c ≡ lost
unread_bytes limit s c u a = let is = unread_agrees s c u a in rw (is.0, is.1) (no_bytes limit)

lost_line : (lim : LimitValues) → line_at lim lost ≡ fails
unfolding line_at
lost_line lim = refl

lost_binary_line : (lim : LimitValues) → binary_line_at lim lost ≡ fails
unfolding binary_line_at
lost_binary_line lim = refl

unread_line : (lim : LimitValues) (f : Form) (s : SlotState) (c : Contents) → IsUnread s → Agrees s c → line_in f lim (line_tokens f lim.bytes c) ≡ fails
unread_line lim form.Text s c u a = rw (unread_text lim.bytes s c u a) (lost_line lim)
unread_line lim form.Binary s c u a = rw (unread_bytes lim.bytes s c u a) (lost_binary_line lim)

module _ (lim : LimitValues) (s : TrimSaid) (f : Formula) where
  -- a proof whose file couldn't be begun
  pub proof_unread : (o1 : Outside) (e : InputError) → StopsAfter (at_start f.clauses) [] going_on → IsCallFault e → (is_source e ≡ true → IsUnread (o1.slot 1))
      → LoadsProof lim s f o1 (Err (outcome_by which.Proof e))
  proof_unread o1 (fault.Text kind place) going k u = absurd k
  proof_unread o1 (fault.Limit kind) going k u = absurd k
  proof_unread o1 fault.Source going k u = inr (λ c a. record {
    lines = [];
    rest = line_tokens s.proof_form lim.bytes c;
    done = [];
    spelled = refl;
    did = tt;
    fits = tt;
    going = going;
    ends = subst (λ (r : Read MaybeLine). EndsLoading lim s f [] r (stops (outcome.SourceFault which.Proof))) (sym (unread_line lim s.proof_form (o1.slot 1) c (u refl) a)) refl;
  })
  proof_unread o1 fault.NoMemory going k u = inl refl

  -- what was loaded of a proof from its start is what the whole file loads
  by_file : (dec : Decision) (after : Outside) → ForContents (fresh 1 lim.bytes) after (λ c. ByLines lim s f (tokens_left s.proof_form 1 0 (fresh 1 lim.bytes) c) dec)
      → (proof : Contents) → Agrees (after.slot 1) proof → ByLines lim s f (line_tokens s.proof_form lim.bytes proof) dec
  by_file dec after by c a = subst (λ (ts : Tokens). ByLines lim s f ts dec) (fresh_lines s.proof_form 1 lim.bytes c) (by c a)

  pub loaded_file : (first : Reader) (after : Outside) (r : Result LoaderState Outcome) → first ≡ fresh 1 lim.bytes → LoadsTo lim s f first after r → LoadsProof lim s f after r
  loaded_file first after r is h = at r (subst (λ (x : Reader). LoadsTo lim s f x after r) is h)
    where
      at : (r : Result LoaderState Outcome) → LoadsTo lim s f (fresh 1 lim.bytes) after r → LoadsProof lim s f after r
      at (Ok st) h = (h.0, h.1, λ dec by. by_file dec after (h.2 dec by))
      at (Err o) (inl e) = inl e
      at (Err o) (inr by) = inr (by_file (stops o) after by)

  -- the proof was read
  by_lines : (new : Outside) (ts : Tokens) (dec : Decision) → cells_of f.clauses ≤ lim.cells → StopsAfter (at_start f.clauses) [] going_on → new.begun ≡ 2
      → ByLines lim s f ts dec → ByClauses lim s f ts dec new.begun
  by_lines new ts dec fits going two by =
      let small : nat_lt lim.cells (cells_of f.clauses) ≡ false = grind (arith, nat_tests) in
      rw small (inr (going, by, two))

  pub proof_loaded : (new : Outside) (r : Result LoaderState Outcome) → cells_of f.clauses ≤ lim.cells → StopsAfter (at_start f.clauses) [] going_on → new.begun ≡ 2
      → LoadsProof lim s f new r → LoadsClauses lim s f new r
  proof_loaded new (Ok st) fits going two h = (h.0, λ dec by c a. by_lines new (line_tokens s.proof_form lim.bytes c) dec fits going two (h.2 dec by c a))
  proof_loaded new (Err o) fits going two (inl e) = inl e
  proof_loaded new (Err o) fits going two (inr by) = inr (λ c a. by_lines new (line_tokens s.proof_form lim.bytes c) (stops o) fits going two (by c a))

-- a formula that isn't read
pub formula_unread : (lim : LimitValues) (s : TrimSaid) (new : Outside) (e : InputError) → ((c : Contents) → Agrees (new.slot 0) c → Refuses (formula_at lim (spelled lim.bytes c)) e)
    → new.begun ≡ 1 → LoadsFiles lim s new (Err (outcome_by which.Formula e))
formula_unread lim s new (fault.Text kind place) refuses one = inr (λ c d a b. rw (refuses c a) (refl, one))
formula_unread lim s new (fault.Limit kind) refuses one = inr (λ c d a b. rw (refuses c a) (refl, one))
formula_unread lim s new fault.Source refuses one = inr (λ c d a b. rw (refuses c a) (refl, one))
formula_unread lim s new fault.NoMemory refuses one = inl refl

-- the formula's slot stays as the proof is read
pub first_still : (mid new : Outside) → 0 < mid.begun → ReadsFiles mid new → new.slot 0 ≡ mid.slot 0
first_still mid new one (inl x) = x.before 0 one
first_still mid new one (inr x) = x.before 0 one

-- a formula that is read, and then the proof
pub formula_read : (lim : LimitValues) (s : TrimSaid) (f : Formula) (r : Result LoaderState Outcome) (mid new : Outside) → mid.begun ≡ 1
    → ((c : Contents) → Agrees (mid.slot 0) c → ReadsFront {A = Formula} (formula_at lim (spelled lim.bytes c)) (Ok f)) → ReadsFiles mid new → LoadsClauses lim s f new r
    → LoadsFiles lim s new r
formula_read lim s f r mid new one reads_it slots h = at r h
  where
    same : ReadsFiles mid new → new.slot 0 ≡ mid.slot 0
    same (inl x) = x.before 0 (omega arith)
    same (inr x) = x.before 0 (omega arith)

    decides : (dec : Decision) → ((proof : Contents) → Agrees (new.slot 1) proof → ByClauses lim s f (line_tokens s.proof_form lim.bytes proof) dec new.begun)
        → (formula proof : Contents) → Agrees (new.slot 0) formula → Agrees (new.slot 1) proof → IsDecided lim s formula proof dec new.begun
    decides dec by c d a b =
        let front = reads_it c (subst (λ (x : SlotState). Agrees x c) (same slots) a) in
        subst (λ (x : Read Formula). ByFormula lim s (line_tokens s.proof_form lim.bytes d) x dec new.begun) (sym front.1) (by d b)

    at : (r : Result LoaderState Outcome) → LoadsClauses lim s f new r → LoadsFiles lim s new r
    at (Ok st) h =
        let formula : st.formula ≡ f = ap (λ (x : LoaderState). x.formula) h.0 in (
          h.0 ∙ ap (λ (g : Formula). record (loading lim s g st.done) { stop = at_conflict }) (sym formula),
          λ dec by. decides dec (h.1 dec (subst (λ (g : Formula). ByPass lim s g st.done dec) formula by)),
        )
    at (Err o) (inl e) = inl e
    at (Err o) (inr by) = inr (decides (stops o) by)

-- what a slot gives is the same as long as it is the same, and so are the files
pub gives_still : (n : ℕ) (name : List ℕ) (a b old new : Outside) → b.file ≡ a.file → new.slot n ≡ old.slot n → GivesFile n name b old → GivesFile n name a new
gives_still n name a b old new files slots g = record {
  named = ap (λ (y : SlotState). y.reads_from) slots ∙ g.named;
  known = λ bytes e f. rw slots (g.known bytes (λ x. e (ap (λ (y : SlotState). y.ending) slots ∙ x)) (ap (λ (y : List ℕ → Option (List ℕ)). y name) files ∙ f));
  agrees = λ bytes e f. rw slots (g.agrees bytes (λ x. e (ap (λ (y : SlotState). y.ending) slots ∙ x)) (subst (λ (y : SlotState). source y ≡ Some bytes) slots f));
}

-- clauses that don't pass the limit
pub fits_in : {A B : Type 0} (x : A) (y : B) (limit cells : ℕ) → (Ok x ≡ Err y) ↔ (limit < cells) → cells ≤ limit
fits_in x y limit cells h = by_test (nat_lt limit cells)
    (λ t. let more : limit < cells = grind (arith, nat_tests) in absurd (not_err (h.1 more)))
    (λ t. grind (arith, nat_tests))
  where
    not_err : ¬ (Ok x ≡ Err y)
    not_err e = cc
