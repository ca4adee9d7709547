-- From the parts of `check` to what it answers.
use Rattle.std.proofs.Common.{◌≡◌, ◌∙◌, ◌⊎◌, inl, inr, ◌≤◌, ℕ, Bool, false, List, refl, sym, ap, subst, arith}
use Rattle.std.specs.Prelude.{nat_lt}
use Rattle.std.proofs.lemmas.Bool.Decides.{nat_tests}
use Rattle.sr_base.specs.Literal.{Literal}
use Rattle.sr_base.specs.Limits.{LimitValues}
use Rattle.sr_base.specs.Contents.{Contents}
use Rattle.sr_base.specs.declared.names.Form.{Form}
use Rattle.sr_base.specs.declared.names.Which.TheVariants as which
use Rattle.sr_model.specs.Refutation.{has_empty}
use Rattle.sr_model.specs.Chain.{clauses}
use Rattle.sr_model.specs.Judging.{cells_of, start}
use Rattle.sr_model.specs.LsrBinary.{item_tokens}
use Rattle.sr_model.proofs.Judged.{clauses_numbered}
use Rattle.sr_desk.specs.Outside.{Outside, Agrees, OnlyReads}
use Rattle.sr_check.specs.Checking.{Checking}
use Rattle.sr_emit.specs.declared.outcome.Outcome.{Outcome}
use Rattle.sr_emit.specs.declared.outcome.Outcome.TheVariants as outcome
use Rattle.sr_files.proofs.Reading.{later_rose, reads_on, opened_on, opened_gives}
use Rattle.sr_files.specs.Files.{ReadsSlots, Opened}
use Rattle.sr_cli.specs.Check.{ByProof, ByClauses}
use Rattle.sr_cli.specs.Runs.{JudgesFormula, HasFileCause, HasProofCause, counts_by}
use Rattle.sr_cli.specs.declared.proof.Tally.{Tally}
use Rattle.sr_cli.specs.declared.check.Checked.{Checked}

-- a new checker holds the clauses of its formula
pub first_clauses : (c : Checking) (strict : Bool) (most : ℕ) (f : List (List Literal)) → c ≡ record { strict = strict; most = most; state = start f; used = cells_of f } → clauses c.state.live.clauses ≡ f
first_clauses c strict most f e = ap (λ (k : Checking). clauses k.state.live.clauses) e ∙ clauses_numbered 1 f

-- the proof's slot is the second one
pub proof_cause : (o0 o1 o2 : Outside) (o : Outcome) → o2.begun ≡ 2 → (o0.slot 1).faults ≤ (o1.slot 1).faults → HasFileCause which.Proof 1 o1 o2 o → HasProofCause o0 o2 o
proof_cause o0 o1 o2 outcome.Verified b l h = tt
proof_cause o0 o1 o2 (outcome.RejectedStep id x) b l h = tt
proof_cause o0 o1 o2 (outcome.RejectedLemma id x) b l h = tt
proof_cause o0 o1 o2 outcome.NoEmptyClause b l h = tt
proof_cause o0 o1 o2 (outcome.Usage k) b l h = tt
proof_cause o0 o1 o2 (outcome.Text w k p) b l h = tt
proof_cause o0 o1 o2 (outcome.Limit w k) b l h = tt
proof_cause o0 o1 o2 (outcome.SourceFault which.Proof) b l h = (later_rose (o0.slot 1).faults (o1.slot 1).faults (o2.slot 1).faults l h.1, b)
proof_cause o0 o1 o2 (outcome.SourceFault which.Formula) b l h = let e = h.0 in absurd cc
proof_cause o0 o1 o2 (outcome.SourceFault which.Lsr) b l h = let e = h.0 in absurd cc
proof_cause o0 o1 o2 (outcome.SourceFault which.Core) b l h = let e = h.0 in absurd cc
proof_cause o0 o1 o2 (outcome.SourceFault which.Report) b l h = let e = h.0 in absurd cc
proof_cause o0 o1 o2 (outcome.SinkFault w) b l h = absurd h
proof_cause o0 o1 o2 (outcome.Helped t) b l h = tt
proof_cause o0 o1 o2 outcome.NoMemory b l h = tt

-- a new checker tells its formula
pub fresh_self : (c : Checking) (strict : Bool) (most : ℕ) (f : List (List Literal)) → c ≡ record { strict = strict; most = most; state = start f; used = cells_of f }
    → c ≡ record { strict = c.strict; most = most; state = start (clauses c.state.live.clauses); used = c.used }
fresh_self c strict most f e =
    e ∙ ap (λ (s : Bool). record { strict = s; most = most; state = start f; used = cells_of f }) (sym (ap (λ (k : Checking). k.strict) e))
    ∙ ap (λ (g : List (List Literal)). record { strict = c.strict; most = most; state = start g; used = cells_of f }) (sym (first_clauses c strict most f e))
    ∙ ap (λ (u : ℕ). record { strict = c.strict; most = most; state = start (clauses c.state.live.clauses); used = u }) (sym (ap (λ (k : Checking). k.used) e))

module _ (lim : LimitValues) (form : Form) (strict : Bool) (f : List (List Literal)) (name : List ℕ) (r : Checked) (o0 o1 o2 : Outside) where
  -- the answer on a formula whose proof was judged
  pub proof_judged : (t : Tally) (o : Outcome) → cells_of f ≤ lim.cells → has_empty f ≡ false → o0.begun ≡ 1 → ReadsSlots 2 o0 o1 → OnlyReads 1 o1 o2 → Opened 1 name o0 o1
      → r.outcome ≡ o → r.counts ≡ counts_by f t
      → (o ≡ outcome.NoMemory) ⊎ ((c : Contents) → Agrees (o2.slot 1) c → ByProof lim form strict f (item_tokens form lim.bytes c) o (counts_by f t))
      → HasFileCause which.Proof 1 o1 o2 o → JudgesFormula lim form strict f name r o0 o2
  proof_judged t o fits full one reads only opened is_o is_k judged cause =
      let slots : ReadsSlots 2 o0 o2 = reads_on 1 2 o0 o1 o2 reads only (omega arith) (omega arith) in
      let small : nat_lt lim.cells (cells_of f) ≡ false = grind (arith, nat_tests) in
      record {
        answer = elim judged [
          | inl e ↦ inl (is_o ∙ e)
          | inr by ↦ inr (λ c a. rw (small, full, is_o, is_k) (by c a, slots.begun))
        ];
        slots = inr slots;
        file = λ le. opened_gives 1 name o0 o2 (opened_on 1 name o0 o1 o2 opened only);
        cause = subst (λ x. HasProofCause o0 o2 x) (sym is_o) (proof_cause o0 o1 o2 o slots.begun (reads.later 1) cause);
      }

reads_none : (o : Outside) → o.begun ≡ 1 → ReadsSlots 1 o o
reads_none o one = record {
  begun = one;
  file = refl;
  others = λ k le. refl;
  before = λ k lt. refl;
  only = λ k. record { writes = refl; sent = refl; written = refl; finished = refl; writes_to = refl };
  later = λ k. omega arith;
}

-- only the formula is read
pub formula_judged : (lim : LimitValues) (form : Form) (strict : Bool) (f : List (List Literal)) (name : List ℕ) (r : Checked) (o : Outside) → o.begun ≡ 1
    → (r.outcome ≡ outcome.NoMemory) ⊎ ((c : Contents) → ByClauses lim form strict c f r.outcome r.counts 1) → HasProofCause o o r.outcome → JudgesFormula lim form strict f name r o o
formula_judged lim form strict f name r o one answer cause = record {
  answer = elim answer [
    | inl e ↦ inl e
    | inr by ↦ inr (λ c a. rw one (by c))
  ];
  slots = inl (reads_none o one);
  file = λ le. absurd (omega arith);
  cause = cause;
}
