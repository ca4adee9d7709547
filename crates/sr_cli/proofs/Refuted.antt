-- What is verified is refuted: no assignment satisfies the formula.
use Rattle.std.proofs.Common.{◌≡◌, ◌∙◌, inl, inr, ℕ, ◌+◌, ◌≤◌, length, arith, length-append, Bool, true, false, cond, List, [], ◌∷◌, ◌++◌, Option, Some, None, refl, sym, ap, subst}
use Rattle.std.specs.Prelude.{nat_lt}
use Rattle.std.proofs.lemmas.List.{append-nil}
use Rattle.sr_base.specs.Literal.{Literal}
use Rattle.sr_base.specs.Limits.{LimitValues}
use Rattle.sr_base.specs.Contents.{Contents, Ending, ended}
use Rattle.sr_base.specs.declared.names.Form.{Form}
use Rattle.sr_base.specs.declared.names.Which.TheVariants as which
use Rattle.sr_base.specs.declared.names.LimitKind.TheVariants.{Cells}
use Rattle.sr_model.specs.Assignment.{Unsat}
use Rattle.sr_model.specs.Tokens.{Tokens}
use Rattle.sr_model.specs.TextTokens.{spelled}
use Rattle.sr_model.specs.Reading.{Read, reads, misspells, passes, fails}
use Rattle.sr_model.specs.Refutation.{has_empty}
use Rattle.sr_model.specs.Meeting.{Meeting, met, unmet}
use Rattle.sr_model.specs.Judging.{Item, Live, first_live, live_after, item_meets, ends_proof, verdict_of, judge, cells_of}
use Rattle.sr_model.specs.Dimacs.{Formula, formula_at}
use Rattle.sr_model.specs.Formulas.{SpellsFormula}
use Rattle.sr_model.specs.Lsr.{MaybeItem}
use Rattle.sr_model.specs.LsrBinary.{item_in, SpellItemsIn}
use Rattle.sr_model.specs.declared.verdict.Verdict.TheVariants.{Going, Verified}
use Rattle.sr_model.proofs.Judged.{verified_unsat}
use Rattle.sr_model.proofs.Soundness.{empty_is_false}
use Rattle.sr_model.proofs.ReadPivots.{spelled_items_have_pivots}
use Rattle.sr_model.proofs.FormulasSpelled.{read_is_spelled}
use Rattle.sr_desk.specs.Outside.{Outside, SlotState, Agrees}
use Rattle.sr_emit.specs.Status.{is_verified}
use Rattle.sr_emit.specs.declared.outcome.Outcome.{Outcome}
use Rattle.sr_emit.specs.declared.outcome.Outcome.TheVariants as outcome
use Rattle.sr_emit.specs.declared.counts.Counts.{Counts}
use Rattle.sr_cli.specs.Words.{ReadOnly, refused, helps, checks, only_reads}
use Rattle.sr_cli.specs.Check.{grows_past, by_item, by_meeting, EndsAt, ByProof, ByClauses, ByFormula}
use Rattle.sr_emit.specs.Report.{report}
use Rattle.sr_emit.proofs.Verified.{says_so}
use Rattle.sr_cli.specs.Run.{IsEvent, Finds, IsRefutedRead, IsSound, SaysSo, RunsReadOnly, Reports, names_asked, counts_asked}
use Rattle.sr_emit.specs.Report.{verified_line}
use Rattle.sr_cli.specs.Touching.{ReadsNamed}
use Rattle.sr_cli.proofs.Standing.{judged_append}

-- an item at which a run is verified verifies the proof
verified_item : (most : ℕ) (strict : Bool) (lv : Live) (it : Item) → by_item most strict lv it ≡ Some outcome.Verified → verdict_of it (item_meets strict lv it) Going ≡ Verified
verified_item most strict lv it e = at (item_meets strict lv it) e
  where
    at : (m : Meeting) → by_meeting most lv it m ≡ Some outcome.Verified → verdict_of it m Going ≡ Verified
    at (unmet x) e = absurd cc
    at met e = go (ends_proof it) refl (grows_past most lv it) refl
      where
        go : (x : Bool) → ends_proof it ≡ x → (y : Bool) → grows_past most lv it ≡ y → cond (ends_proof it) Verified Going ≡ Verified
        go true x y z = rw x refl
        go false x true z = let bad : Some (outcome.Limit which.Proof Cells) ≡ Some outcome.Verified = rw (x, z) at e in absurd cc
        go false x false z = let bad = rw (x, z) at e in absurd cc

spell_one : (form : Form) (lim : LimitValues) (all mid rest : Tokens) (items : List Item) (it : Item) → SpellItemsIn form lim all items mid
    → item_in form lim mid ≡ reads (Some it) rest → SpellItemsIn form lim all (items ++ it ∷ []) rest
spell_one form lim all mid rest [] it s e = (rest, ap (item_in form lim) s ∙ e, refl)
spell_one form lim all mid rest (x ∷ items) it s e = (s.0, s.1, spell_one form lim s.0 mid rest items it s.2 e)

proof_refutes : (lim : LimitValues) (form : Form) (strict : Bool) (f : List (List Literal)) (ts : Tokens) (k : Counts) → ByProof lim form strict f ts outcome.Verified k → Unsat f
proof_refutes lim form strict f ts k by = at (item_in form lim by.rest) refl by.ends
  where
    at : (r : Read MaybeItem) → item_in form lim by.rest ≡ r → EndsAt lim strict f by.items r outcome.Verified k → Unsat f
    at (reads (Some it) rest) e h =
        let judged : judge strict f (by.items ++ it ∷ []) ≡ Verified = judged_append strict f by.items it by.going ∙ verified_item lim.cells strict (live_after (first_live f) by.items) it h.0 in
        verified_unsat strict f (by.items ++ it ∷ []) (spelled_items_have_pivots form lim ts (by.items ++ it ∷ []) rest (spell_one form lim ts by.rest rest by.items it by.spelled e)) judged
    at (reads None rest) e h = absurd cc
    at (misspells kind place) e h = absurd cc
    at (passes kind) e h = absurd cc
    at fails e h = absurd cc

clauses_refute : (lim : LimitValues) (form : Form) (strict : Bool) (proof : Contents) (f : List (List Literal)) (k : Counts) (begun : ℕ) → ByClauses lim form strict proof f outcome.Verified k begun → Unsat f
clauses_refute lim form strict proof f k begun by = at (nat_lt lim.cells (cells_of f)) refl (has_empty f) refl
  where
    at : (x : Bool) → nat_lt lim.cells (cells_of f) ≡ x → (y : Bool) → has_empty f ≡ y → Unsat f
    at true x y z = let h = rw x at by in let bad = h.0 in absurd cc
    at false x true z = λ t. empty_is_false t f z
    at false x false z = let h = rw (x, z) at by in proof_refutes lim form strict f _ k h.0

-- a verified run has begun the formula
clauses_begun : (lim : LimitValues) (form : Form) (strict : Bool) (proof : Contents) (f : List (List Literal)) (k : Counts) (begun : ℕ) → ByClauses lim form strict proof f outcome.Verified k begun → 1 ≤ begun
clauses_begun lim form strict proof f k begun by = at (nat_lt lim.cells (cells_of f)) refl (has_empty f) refl
  where
    at : (x : Bool) → nat_lt lim.cells (cells_of f) ≡ x → (y : Bool) → has_empty f ≡ y → 1 ≤ begun
    at true x y z = let h = rw x at by in let bad = h.0 in absurd cc
    at false x true z = let h = rw (x, z) at by in omega (arith, h.2)
    at false x false z = let h = rw (x, z) at by in omega (arith, h.1)

formula_begun : (lim : LimitValues) (form : Form) (strict : Bool) (proof : Contents) (r : Read Formula) (k : Counts) (begun : ℕ) → ByFormula lim form strict proof r outcome.Verified k begun → 1 ≤ begun
formula_begun lim form strict proof (reads f rest) k begun h = clauses_begun lim form strict proof f.clauses k begun h
formula_begun lim form strict proof (misspells kind place) k begun h = omega (arith, h.1)
formula_begun lim form strict proof (passes kind) k begun h = omega (arith, h.1)
formula_begun lim form strict proof fails k begun h = omega (arith, h.1)

formula_refutes : (lim : LimitValues) (form : Form) (strict : Bool) (proof : Contents) (ts : Tokens) (k : Counts) (begun : ℕ) → ByFormula lim form strict proof (formula_at lim ts) outcome.Verified k begun
    → (f : Formula) × ((rest : Tokens) × SpellsFormula lim ts f rest × Unsat f.clauses)
formula_refutes lim form strict proof ts k begun by = at (formula_at lim ts) refl by
  where
    at : (r : Read Formula) → formula_at lim ts ≡ r → ByFormula lim form strict proof r outcome.Verified k begun → (f : Formula) × ((rest : Tokens) × SpellsFormula lim ts f rest × Unsat f.clauses)
    at (reads f rest) e h = (f, (rest, read_is_spelled lim ts f rest e, clauses_refute lim form strict proof f.clauses k begun h))
    at (misspells kind place) e h = let bad = h.0 in absurd cc
    at (passes kind) e h = let bad = h.0 in absurd cc
    at fails e h = let bad = h.0 in absurd cc

-- some contents agree with a slot
pub agrees_some : (s : SlotState) → (c : Contents) × Agrees s c
agrees_some s = at s.ending refl
  where
    at : (e : Option Ending) → s.ending ≡ e → (c : Contents) × Agrees s c
    at None e = (record { bytes = s.given ++ []; ending = ended }, record { more = []; bytes = refl; ending = rw e tt })
    at (Some x) e = (record { bytes = s.given ++ []; ending = x }, record { more = []; bytes = refl; ending = rw e (refl, refl) })

event_refutes : (lim : LimitValues) (a : ReadOnly) (new : Outside) (k : Counts) → ((formula proof : Contents) → Agrees (new.slot 0) formula → Agrees (new.slot 1) proof → IsEvent lim a formula proof outcome.Verified k new.begun)
    → ReadsNamed a new → IsRefutedRead lim a new
event_refutes lim (refused kind t flaws) new k by named = let some = agrees_some (new.slot 0) in let more = agrees_some (new.slot 1) in let bad = (by some.0 more.0 some.1 more.1).0 in absurd cc
event_refutes lim (helps t) new k by named = let some = agrees_some (new.slot 0) in let more = agrees_some (new.slot 1) in let bad = (by some.0 more.0 some.1 more.1).0 in absurd cc
event_refutes lim (checks s) new k by named =
    let some = agrees_some (new.slot 0) in
    let more = agrees_some (new.slot 1) in
    record {
      named = named.0 (formula_begun lim s.proof_form s.strict more.0 (formula_at lim (spelled lim.bytes some.0)) k new.begun (by some.0 more.0 some.1 more.1));
      refuted = λ c h. formula_refutes lim s.proof_form s.strict more.0 (spelled lim.bytes c) k new.begun (by c more.0 h more.1);
    }

-- what is found as verified
pub found_refutes : (lim : LimitValues) (a : ReadOnly) (new : Outside) (found : Outcome) (k : Counts) → Finds lim a new found k → ReadsNamed a new → found ≡ outcome.Verified → IsRefutedRead lim a new
found_refutes lim a new found k (inl e) named v = let bad : outcome.NoMemory ≡ outcome.Verified = sym e ∙ v in absurd cc
found_refutes lim a new found k (inr by) named v =
    event_refutes lim a new k (λ formula proof f p. subst (λ (o : Outcome). IsEvent lim a formula proof o k new.begun) v (by formula proof f p)) named

pub verified_is : (o : Outcome) → is_verified o ≡ true → o ≡ outcome.Verified
verified_is outcome.Verified v = refl
verified_is (outcome.RejectedStep id x) v = cc
verified_is (outcome.RejectedLemma id x) v = cc
verified_is outcome.NoEmptyClause v = cc
verified_is (outcome.Usage k) v = cc
verified_is (outcome.Text w k p) v = cc
verified_is (outcome.Limit w k) v = cc
verified_is (outcome.SourceFault w) v = cc
verified_is (outcome.SinkFault w) v = cc
verified_is (outcome.Helped t) v = cc
verified_is outcome.NoMemory v = cc

-- what is answered as verified was found
pub runs_sound : (lim : LimitValues) (a : ReadOnly) (old new : Outside) (answered : Outcome) → RunsReadOnly lim a old new answered → IsSound lim (only_reads a) new answered
runs_sound lim a old new answered r v = at r.reports
  where
    is : answered ≡ outcome.Verified
    is = verified_is answered v

    at : Reports (report r.given (names_asked a) (counts_asked a r.counts) r.found) old new r.found answered → IsRefutedRead lim a new
    at (inl h) = let bad : outcome.NoMemory ≡ outcome.Verified = sym h.0 ∙ is in absurd cc
    at (inr (inl h)) = found_refutes lim a new r.found r.counts r.finds r.named (sym h.0 ∙ is)
    at (inr (inr h)) = let bad : outcome.SinkFault which.Report ≡ outcome.Verified = sym h.0 ∙ is in absurd cc

pub cancel : (xs ys zs : List ℕ) → xs ++ ys ≡ xs ++ zs → ys ≡ zs
cancel [] ys zs e = e
cancel (x ∷ xs) ys zs e = cancel xs ys zs (cc)

-- and what is printed as verified
pub runs_say_so : (lim : LimitValues) (a : ReadOnly) (old new : Outside) (answered : Outcome) → RunsReadOnly lim a old new answered → SaysSo lim (only_reads a) old new
runs_say_so lim a old new answered r front sent = at r.reports
  where
    told : (rest : List ℕ) → report r.given (names_asked a) (counts_asked a r.counts) r.found ≡ (front ++ verified_line) ++ rest → IsRefutedRead lim a new
    told rest e = found_refutes lim a new r.found r.counts r.finds r.named (says_so r.given (names_asked a) (counts_asked a r.counts) r.found front rest e)

    at : Reports (report r.given (names_asked a) (counts_asked a r.counts) r.found) old new r.found answered → IsRefutedRead lim a new
    at (inl h) =
        let same : (old.slot 8).sent ≡ (old.slot 8).sent ++ (front ++ verified_line) = sym (ap (λ (s : SlotState). s.sent) h.1) ∙ sent in
        let size : length (old.slot 8).sent ≡ length (old.slot 8).sent + (length front + 17) = ap length same ∙ simp length-append in
        absurd (omega arith)
    at (inr (inl h)) = told [] (cancel (old.slot 8).sent _ _ (sym h.1.sends.sent ∙ sent) ∙ sym (append-nil (front ++ verified_line)))
    at (inr (inr h)) =
        let s = h.1.sends in
        let prefix : s.0 ≡ front ++ verified_line = cancel (old.slot 8).sent _ _ (sym s.1.2.sent ∙ sent) in
        told s.1.0 (s.1.1 ∙ ap (λ (l : List ℕ). l ++ s.1.0) prefix)
