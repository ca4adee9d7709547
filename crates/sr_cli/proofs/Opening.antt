-- What a reader gives that begins a file, and what a file gives that couldn't be begun.
use Rattle.std.proofs.Common.{◌≡◌, ◌⊎◌, inl, inr, ◌-◌, ◌≤◌, ℕ, Bool, true, false, List, [], Ok, refl, sym, subst, arith}
use Rattle.std.specs.Prelude.{nat_lt}
use Rattle.std.proofs.lemmas.Bool.Decides.{nat_tests}
use Rattle.sr_base.specs.Literal.{Literal}
use Rattle.sr_base.specs.Limits.{LimitValues}
use Rattle.sr_base.specs.Contents.{Contents}
use Rattle.sr_base.specs.declared.names.Form.{Form}
use Rattle.sr_base.specs.declared.names.Form.TheVariants as form
use Rattle.sr_base.specs.declared.names.Which.TheVariants as which
use Rattle.sr_base.specs.declared.names.InputError.{InputError}
use Rattle.sr_base.specs.declared.names.InputError.TheVariants as fault
use Rattle.sr_model.specs.Tokens.{Tokens, lost}
use Rattle.sr_model.specs.Reading.{Read, fails}
use Rattle.sr_model.specs.TextTokens.{spelled}
use Rattle.sr_model.specs.Refutation.{has_empty}
use Rattle.sr_model.specs.Judging.{cells_of}
use Rattle.sr_model.specs.Dimacs.{Formula, formula_at}
use Rattle.sr_model.specs.Lsr.{MaybeItem, item_at}
use Rattle.sr_model.specs.LsrBinary.{item_in, item_tokens, binary_item_at}
use Rattle.sr_desk.specs.Outside.{Outside, SlotState, Agrees, Rose}
use Rattle.sr_desk.specs.Reader.{Reader}
use Rattle.sr_scan.specs.Left.{tokens_left, Refuses, is_source}
use Rattle.sr_emit.specs.declared.outcome.Outcome.{Outcome}
use Rattle.sr_emit.specs.declared.outcome.Outcome.TheVariants as outcome
use Rattle.sr_emit.specs.declared.counts.Counts.{Counts}
use Rattle.sr_cli.specs.Words.{Said}
use Rattle.sr_files.proofs.Reading.{fresh_text, unread_text, unread_bytes}
use Rattle.sr_files.specs.Files.{fresh, ReadsSlots, ReadsFiles, GivesFile, IsUnread, IsCallFault, ReadsFront, outcome_by}
use Rattle.sr_cli.specs.Check.{ByProof, ByClauses, ByFormula, IsFirst, EndsAt, counts_of}
use Rattle.sr_cli.specs.Runs.{Judges, JudgesFormula, HasProofCause, counts_by}
use Rattle.sr_cli.specs.declared.check.Checked.{Checked}
use Rattle.sr_cli.specs.declared.proof.Tally.{Tally}
use Rattle.sr_cli.proofs.Judging.{formula_judged}

pub fresh_tokens : (f : Form) (slot limit : ℕ) (c : Contents) → tokens_left f 2 0 (fresh slot limit) c ≡ item_tokens f limit c
fresh_tokens form.Text slot limit c = fresh_text slot limit c
fresh_tokens form.Binary slot limit c = let all : limit - 0 ≡ limit = omega arith in rw all refl

lost_item : (lim : LimitValues) → item_at lim lost ≡ fails
unfolding item_at
lost_item lim = refl

lost_binary_item : (lim : LimitValues) → binary_item_at lim lost ≡ fails
unfolding binary_item_at
lost_binary_item lim = refl

unread_item : (lim : LimitValues) (f : Form) (s : SlotState) (c : Contents) → IsUnread s → Agrees s c → item_in f lim (item_tokens f lim.bytes c) ≡ fails
unread_item lim form.Text s c u a = rw (unread_text lim.bytes s c u a) (lost_item lim)
unread_item lim form.Binary s c u a = rw (unread_bytes lim.bytes s c u a) (lost_binary_item lim)

-- a proof whose file couldn't be begun
pub unread_proof : (lim : LimitValues) (f : Form) (strict : Bool) (cs : List (List Literal)) (s : SlotState) (c : Contents) (k : Counts) → has_empty cs ≡ false → IsUnread s → Agrees s c
    → ByProof lim f strict cs (item_tokens f lim.bytes c) (outcome.SourceFault which.Proof) k
unread_proof lim f strict cs s c k full u a = record {
  items = [];
  rest = item_tokens f lim.bytes c;
  spelled = refl;
  going = rw full refl;
  fits = tt;
  ends = subst (λ (r : Read MaybeItem). EndsAt lim strict cs [] r (outcome.SourceFault which.Proof) k) (sym (unread_item lim f s c u a)) refl;
}

-- what was judged of a proof from its start is what the whole file is judged
pub judged_file : (lim : LimitValues) (f : Form) (s strict : Bool) (gs cs : List (List Literal)) (first : Reader) (after : Outside) (o : Outcome) (t : Tally) → s ≡ strict → gs ≡ cs → first ≡ fresh 1 lim.bytes
    → Judges lim f s gs first after o t → (o ≡ outcome.NoMemory) ⊎ ((c : Contents) → Agrees (after.slot 1) c → ByProof lim f strict cs (item_tokens f lim.bytes c) o (counts_by cs t))
judged_file lim f s strict gs cs first after o t e g is h =
    at (subst (λ (r : Reader). Judges lim f strict cs r after o t) is (subst (λ (x : List (List Literal)). Judges lim f strict x first after o t) g (subst (λ (x : Bool). Judges lim f x gs first after o t) e h)))
  where
    at : Judges lim f strict cs (fresh 1 lim.bytes) after o t → (o ≡ outcome.NoMemory) ⊎ ((c : Contents) → Agrees (after.slot 1) c → ByProof lim f strict cs (item_tokens f lim.bytes c) o (counts_by cs t))
    at (inl n) = inl n
    at (inr by) = inr (λ c a. subst (λ (ts : Tokens). ByProof lim f strict cs ts o (counts_by cs t)) (fresh_tokens f 1 lim.bytes c) (by c a))

-- a proof that couldn't be begun
pub open_failed : (lim : LimitValues) (f : Form) (strict : Bool) (cs : List (List Literal)) (name : List ℕ) (r : Checked) (o0 o1 : Outside) (e : InputError) → cells_of cs ≤ lim.cells → has_empty cs ≡ false
    → ReadsSlots 2 o0 o1 → GivesFile 1 name o0 o1 → IsCallFault e → (is_source e ≡ true → IsUnread (o1.slot 1)) → (is_source e ≡ true → Rose (o0.slot 1).faults (o1.slot 1).faults)
    → r.outcome ≡ outcome_by which.Proof e → JudgesFormula lim f strict cs name r o0 o1
open_failed lim f strict cs name r o0 o1 (fault.Text kind place) fits full slots gives k unread rose is = absurd k
open_failed lim f strict cs name r o0 o1 (fault.Limit kind) fits full slots gives k unread rose is = absurd k
open_failed lim f strict cs name r o0 o1 fault.Source fits full slots gives k unread rose is =
    let small : nat_lt lim.cells (cells_of cs) ≡ false = grind (arith, nat_tests) in
    record {
      answer = inr (λ c a. rw (small, full, is) (unread_proof lim f strict cs (o1.slot 1) c r.counts full (unread refl) a, slots.begun));
      slots = inr slots;
      file = λ le. gives;
      cause = subst (λ (o : Outcome). HasProofCause o0 o1 o) (sym is) (rose refl, slots.begun);
    }
open_failed lim f strict cs name r o0 o1 fault.NoMemory fits full slots gives k unread rose is =
    record { answer = inl is; slots = inr slots; file = λ le. gives; cause = subst (λ (o : Outcome). HasProofCause o0 o1 o) (sym is) tt }

-- the formula holds the empty clause
pub refuted_judged : (lim : LimitValues) (f : Form) (strict : Bool) (cs : List (List Literal)) (name : List ℕ) (r : Checked) (o : Outside) → cells_of cs ≤ lim.cells → has_empty cs ≡ true → o.begun ≡ 1
    → r.outcome ≡ outcome.Verified → r.counts ≡ counts_of cs [] → JudgesFormula lim f strict cs name r o o
refuted_judged lim f strict cs name r o fits full one is k =
    let small : nat_lt lim.cells (cells_of cs) ≡ false = grind (arith, nat_tests) in
    formula_judged lim f strict cs name r o one (inr (λ c. rw (small, full) (is, k, refl))) (subst (λ (x : Outcome). HasProofCause o o x) (sym is) tt)

-- a formula that isn't read
pub formula_unread : (lim : LimitValues) (s : Said) (new : Outside) (e : InputError) (k : Counts) (o : Outcome) → ((c : Contents) → Agrees (new.slot 0) c → Refuses (formula_at lim (spelled lim.bytes c)) e)
    → new.begun ≡ 1 → o ≡ outcome_by which.Formula e
    → (o ≡ outcome.NoMemory) ⊎ ((formula proof : Contents) → Agrees (new.slot 0) formula → Agrees (new.slot 1) proof → IsFirst lim s formula proof o k new.begun)
formula_unread lim s new (fault.Text kind place) k o refuses one is = inr (λ c d a b. rw (refuses c a) (is, one))
formula_unread lim s new (fault.Limit kind) k o refuses one is = inr (λ c d a b. rw (refuses c a) (is, one))
formula_unread lim s new fault.Source k o refuses one is = inr (λ c d a b. rw (refuses c a) (is, one))
formula_unread lim s new fault.NoMemory k o refuses one is = inl is

-- a formula that is read, and then the proof
pub formula_read : (lim : LimitValues) (s : Said) (f : Formula) (name : List ℕ) (r : Checked) (mid new : Outside) → mid.begun ≡ 1
    → ((c : Contents) → Agrees (mid.slot 0) c → ReadsFront {A = Formula} (formula_at lim (spelled lim.bytes c)) (Ok f)) → JudgesFormula lim s.proof_form s.strict f.clauses name r mid new
    → (r.outcome ≡ outcome.NoMemory) ⊎ ((formula proof : Contents) → Agrees (new.slot 0) formula → Agrees (new.slot 1) proof → IsFirst lim s formula proof r.outcome r.counts new.begun)
formula_read lim s f name r mid new one reads_it j = at j.answer
  where
    same : ReadsFiles mid new → new.slot 0 ≡ mid.slot 0
    same (inl x) = x.before 0 (omega arith)
    same (inr x) = x.before 0 (omega arith)

    at : (r.outcome ≡ outcome.NoMemory) ⊎ ((proof : Contents) → Agrees (new.slot 1) proof → ByClauses lim s.proof_form s.strict proof f.clauses r.outcome r.counts new.begun)
        → (r.outcome ≡ outcome.NoMemory) ⊎ ((formula proof : Contents) → Agrees (new.slot 0) formula → Agrees (new.slot 1) proof → IsFirst lim s formula proof r.outcome r.counts new.begun)
    at (inl e) = inl e
    at (inr by) = inr (λ c d a b.
        let front = reads_it c (subst (λ (x : SlotState). Agrees x c) (same j.slots) a) in
        subst (λ (x : Read Formula). ByFormula lim s.proof_form s.strict d x r.outcome r.counts new.begun) (sym front.1) (by d b))
