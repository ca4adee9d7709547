-- Loading comes to the one conflict, and the pass back can't reject what passes.
use Rattle.std.proofs.Common.{◌≡◌, ◌∙◌, ◌⊎◌, inl, inr, ℕ, Bool, List, [], ◌∷◌, ◌++◌, Option, Some, None, refl, sym, ap, subst, append_assoc, append-nil}
use Rattle.sr_base.specs.Literal.{Literal}
use Rattle.sr_base.specs.Limits.{LimitValues}
use Rattle.sr_base.specs.Contents.{Contents}
use Rattle.sr_base.specs.declared.names.Form.{Form}
use Rattle.sr_base.specs.declared.names.Which.{Which}
use Rattle.sr_base.specs.declared.names.Which.TheVariants as which
use Rattle.sr_base.specs.declared.names.LimitKind.TheVariants.{Bytes}
use Rattle.sr_model.specs.Tokens.{Tokens}
use Rattle.sr_model.specs.Reading.{reads}
use Rattle.sr_model.specs.Meeting.{Step}
use Rattle.sr_model.specs.Dimacs.{Formula}
use Rattle.sr_model.specs.Dsr.{Line, line_in, line_tokens, SpellLines}
use Rattle.sr_model.proofs.Soundness.{by_test}
use Rattle.sr_trimming.specs.Loading.{Done, Standing, at_start, after_done, after_all, Did, AllDid, Stop, InConflict, is_empty_lemma, StopsAfter, at_conflict, at_empty_lemma, going_on, Loads}
use Rattle.sr_trimming.specs.Evidence.{EachPasses}
use Rattle.sr_trimming.proofs.Loaded.{loads_once}
use Rattle.sr_trimming.proofs.Evidence.{never_fails}
use Rattle.sr_emit.specs.declared.outcome.Outcome.{Outcome}
use Rattle.sr_emit.specs.declared.outcome.Outcome.TheVariants as outcome
use Rattle.sr_trim.specs.Said.{TrimSaid}
use Rattle.sr_trim.specs.Trimming.{IsTrimming}
use Rattle.sr_trim.specs.Deciding.{Decision, passes_lsr, passes_core, by_length, ByPass, loading, limit_of, LinesFit, AtStop, ByLine, EndsLoading, ByLines, ByProof, ByClauses, ByFormula}
use Rattle.sr_desk.specs.Outside.{Outside}
use Rattle.sr_trim.specs.Outputs.{WritesOne, WritesTwo, Writes, asked_lsr, asked_core}
use Rattle.sr_completes.specs.Completing.{ComesToConflict, IsVerifiedOrUnwritten, PassingIsTrimmed, PassingIsVerified}

-- of two runs of lines at the front of the same tokens one begins with the other
data Compared (form : Form) (lim : LimitValues) (ls ms : List Line) (after_ls after_ms : Tokens) : Type 0 where
  further : (more : List Line) → ls ≡ ms ++ more → SpellLines form lim after_ms more after_ls → Compared form lim ls ms after_ls after_ms
  shorter : (l : Line) (more : List Line) → ms ≡ ls ++ l ∷ more → Compared form lim ls ms after_ls after_ms

same_line : (form : Form) (lim : LimitValues) (ts : Tokens) (l m : Line) (after_l after_m : Tokens) → line_in form lim ts ≡ reads (Some l) after_l → line_in form lim ts ≡ reads (Some m) after_m → (l ≡ m) × (after_l ≡ after_m)
same_line form lim ts l m after_l after_m e g = let h : reads (Some l) after_l ≡ reads (Some m) after_m = sym e ∙ g in (cc, cc)

compare : (form : Form) (lim : LimitValues) (ts : Tokens) (ls ms : List Line) (after_ls after_ms : Tokens) → SpellLines form lim ts ls after_ls → SpellLines form lim ts ms after_ms → Compared form lim ls ms after_ls after_ms
compare form lim ts ls [] after_ls after_ms x y = further ls refl (subst (λ t. SpellLines form lim t ls after_ls) y x)
compare form lim ts [] (m ∷ ms) after_ls after_ms x y = shorter m ms refl
compare form lim ts (l ∷ ls) (m ∷ ms) after_ls after_ms x y =
    let same = same_line form lim ts l m x.0 y.0 x.1 y.1 in
    onward same.0 (compare form lim y.0 ls ms after_ls after_ms (subst (λ t. SpellLines form lim t ls after_ls) same.1 x.2) y.2)
  where
    onward : l ≡ m → Compared form lim ls ms after_ls after_ms → Compared form lim (l ∷ ls) (m ∷ ms) after_ls after_ms
    onward e (further more is s) = further more (ap (λ k. k ∷ ls) e ∙ ap (λ k. m ∷ k) is) s
    onward e (shorter k more is) = shorter k more (ap (λ n. n ∷ ms) (sym e) ∙ ap (λ n. l ∷ n) is)

-- what lines did that come one after another
record Parted (keep : Bool) (st : Standing) (ls more : List Line) (ds : List Done) : Type 0 where
  first : List Done
  later : List Done
  is : ds ≡ first ++ later
  did_first : AllDid keep st ls first
  did_later : AllDid keep (after_all st first) more later

part : (keep : Bool) (st : Standing) (ls more : List Line) (ds : List Done) → AllDid keep st (ls ++ more) ds → Parted keep st ls more ds
part keep st [] more ds a = record { first = []; later = ds; is = refl; did_first = tt; did_later = a }
part keep st (l ∷ ls) more [] a = absurd a
part keep st (l ∷ ls) more (d ∷ ds) a =
    let p = part keep (after_done st d) ls more ds a.1 in
    record { first = d ∷ p.first; later = p.later; is = ap (λ x. d ∷ x) p.is; did_first = (a.0, p.did_first); did_later = p.did_later }

-- before a conflict after the last line loading goes on
goes_on : (st : Standing) (first later : List Done) (d : Done) → StopsAfter st (first ++ d ∷ later) at_conflict → StopsAfter st first going_on
goes_on st [] later d s = s.0
goes_on st (x ∷ xs) later d s = (
  s.0,
  by_test (is_empty_lemma x)
      (λ t. let bad : (xs ++ d ∷ later ≡ []) × (at_conflict ≡ at_empty_lemma) = rw t at s.1 in absurd (let b : at_conflict ≡ at_empty_lemma = bad.1 in cc))
      (λ t. let more : StopsAfter (after_done st x) (xs ++ d ∷ later) at_conflict = rw t at s.1 in rw t (goes_on (after_done st x) xs later d more)),
)

-- no line of the front passes a limit, nor does the next one
fits_next : (lim : LimitValues) (s : TrimSaid) (f : Formula) (before : List Done) (ls : List Line) (l : Line) (more : List Line) (first : List Done) (d : Done) (later : List Done)
    → LinesFit lim s f before (ls ++ l ∷ more) (first ++ d ∷ later) → (keep : Bool) (st : Standing) → AllDid keep st ls first → limit_of (loading lim s f (before ++ first)) l ≡ None
fits_next lim s f before [] l more [] d later x keep st a = subst (λ b. limit_of (loading lim s f b) l ≡ None) (sym (append-nil before)) x.0
fits_next lim s f before [] l more (e ∷ first) d later x keep st a = absurd a
fits_next lim s f before (k ∷ ls) l more [] d later x keep st a = absurd a
fits_next lim s f before (k ∷ ls) l more (e ∷ first) d later x keep st a =
    subst (λ b. limit_of (loading lim s f b) l ≡ None) (append_assoc before (e ∷ []) first) (fits_next lim s f (before ++ e ∷ []) ls l more first d later x.1 keep (after_done st e) a.1)

pub did_more : (keep : Bool) (st : Standing) (ls : List Line) (ds : List Done) (l : Line) (x : Done) → AllDid keep st ls ds → Did keep (after_all st ds).alive l x → AllDid keep st (ls ++ l ∷ []) (ds ++ x ∷ [])
did_more keep st [] [] l x a d = (d, tt)
did_more keep st [] (e ∷ ds) l x a d = absurd a
did_more keep st (k ∷ ls) [] l x a d = absurd a
did_more keep st (k ∷ ls) (e ∷ ds) l x a d = (a.0, did_more keep (after_done st e) ls ds l x a.1 d)

abbrev Trimmed : LimitValues → TrimSaid → Formula → List Done → Decision → Type 0
Trimmed lim s f ds d = (steps : List Step) × (IsTrimming f.clauses ds steps × (d ≡ by_length lim s f ds steps))

by_pass : (lim : LimitValues) (s : TrimSaid) (f : Formula) (ds : List Done) (d : Decision) → EachPasses (at_start f.clauses) ds → ByPass lim s f ds d → Trimmed lim s f ds d
by_pass lim s f ds d e (inl r) = absurd (never_fails f.clauses ds e r.lemma r.against r.groups r.tail r.fails)
by_pass lim s f ds d e (inr p) = (p.steps, (p.trimming, p.is))

whole_load : (keep : Bool) (f : List (List Literal)) (ls : List Line) (ds : List Done) (stop : Stop) → AllDid keep (at_start f) ls ds → StopsAfter (at_start f) ds stop → Loads keep f ls ds stop
whole_load keep f ls ds stop a s = record { taken = ls; rest = []; split = sym (append-nil ls); did = a; stops = s; all_taken = λ e. refl }

front_load : (keep : Bool) (f : List (List Literal)) (ls taken rest : List Line) (ds : List Done) (stop : Stop) → ls ≡ taken ++ rest → AllDid keep (at_start f) taken ds → StopsAfter (at_start f) ds stop → ((stop ≡ going_on) → ⊥) → Loads keep f ls ds stop
front_load keep f ls taken rest ds stop is a s stays = record { taken = taken; rest = rest; split = is; did = a; stops = s; all_taken = λ e. absurd (stays e) }

no_conflict_goes_on : (at_conflict ≡ going_on) → ⊥
no_conflict_goes_on e = absurd cc

no_empty_goes_on : (at_empty_lemma ≡ going_on) → ⊥
no_empty_goes_on e = absurd cc

-- after the line that follows, loading stops where ours does
stops_there : (lim : LimitValues) (s : TrimSaid) (f : Formula) (ds es : List Done) (ls taken more : List Line) (d : Decision) → EachPasses (at_start f.clauses) ds → Loads s.keep f.clauses ls ds at_conflict
    → ls ≡ taken ++ more → AllDid s.keep (at_start f.clauses) taken es → AtStop lim s f es d → Trimmed lim s f ds d
stops_there lim s f ds es ls taken more d e ours is a (inl x) =
    let once = loads_once s.keep f.clauses ls ds es at_conflict at_conflict ours (front_load s.keep f.clauses ls taken more es at_conflict is a x.0 no_conflict_goes_on) in
    by_pass lim s f ds d e (subst (λ z. ByPass lim s f z d) (sym once.0) x.1)
stops_there lim s f ds es ls taken more d e ours is a (inr x) =
    let once = loads_once s.keep f.clauses ls ds es at_conflict at_empty_lemma ours (front_load s.keep f.clauses ls taken more es at_empty_lemma is a x.0 no_empty_goes_on) in
    absurd (let bad : at_conflict ≡ at_empty_lemma = once.1 in cc)

-- the lines at which loading goes on are those before our last one
next_line : (lim : LimitValues) (s : TrimSaid) (f : Formula) (ls front : List Line) (l : Line) (more : List Line) (mid : Tokens) (ds done first later : List Done) (d : Decision)
    → EachPasses (at_start f.clauses) ds → Loads s.keep f.clauses ls ds at_conflict → ls ≡ front ++ l ∷ more → LinesFit lim s f [] ls ds
    → AllDid s.keep (at_start f.clauses) front done → StopsAfter (at_start f.clauses) done going_on
    → ds ≡ first ++ later → AllDid s.keep (at_start f.clauses) front first → AllDid s.keep (after_all (at_start f.clauses) first) (l ∷ more) later → StopsAfter (at_start f.clauses) ds at_conflict
    → EndsLoading lim s f done (reads (Some l) mid) d → Trimmed lim s f ds d
next_line lim s f ls front l more mid ds done first [] d e ours is fit a go parts df dl c ends = absurd dl
next_line lim s f ls front l more mid ds done first (x ∷ later) d e ours is fit a go parts df dl c ends =
    let goes : StopsAfter (at_start f.clauses) first going_on = goes_on (at_start f.clauses) first later x (subst (λ z. StopsAfter (at_start f.clauses) z at_conflict) parts c) in
    let same : first ≡ done = (loads_once s.keep f.clauses front first done going_on going_on (whole_load s.keep f.clauses front first going_on df goes) (whole_load s.keep f.clauses front done going_on a go)).0 in
    let none : limit_of (loading lim s f first) l ≡ None = fits_next lim s f [] front l more first x later (subst (λ z. LinesFit lim s f [] z (first ++ x ∷ later)) is (subst (λ z. LinesFit lim s f [] ls z) parts fit)) s.keep (at_start f.clauses) df in
    let none' : limit_of (loading lim s f done) l ≡ None = subst (λ z. limit_of (loading lim s f z) l ≡ None) same none in
    let by : ByLine lim s f done l None d = subst (λ o. ByLine lim s f done l o d) none' ends in
    stops_there lim s f ds (done ++ by.0 ∷ []) ls (front ++ l ∷ []) more d e ours (is ∙ sym (append_assoc front (l ∷ []) more)) (did_more s.keep (at_start f.clauses) front done l by.0 a by.1) by.2

by_lines : (lim : LimitValues) (s : TrimSaid) (formula proof : Contents) (f : Formula) (ds : List Done) (d : Decision) → ComesToConflict lim s formula proof f ds → EachPasses (at_start f.clauses) ds
    → ByLines lim s f (line_tokens s.proof_form lim.bytes proof) d → Trimmed lim s f ds d
by_lines lim s formula proof f ds d c e b = go (compare s.proof_form lim (line_tokens s.proof_form lim.bytes proof) c.lines b.lines c.rest b.rest c.spelled_lines b.spelled)
  where
    theirs : Loads s.keep f.clauses b.lines b.done going_on
    theirs = whole_load s.keep f.clauses b.lines b.done going_on b.did b.going

    unlike : (rest : List Line) → b.lines ≡ c.lines ++ rest → Trimmed lim s f ds d
    unlike rest is =
        let once = loads_once s.keep f.clauses b.lines ds b.done at_conflict going_on (front_load s.keep f.clauses b.lines c.lines rest ds at_conflict is c.did c.conflict no_conflict_goes_on) theirs in
        absurd (no_conflict_goes_on once.1)

    go : Compared s.proof_form lim c.lines b.lines c.rest b.rest → Trimmed lim s f ds d
    go (shorter l more is) = unlike (l ∷ more) is
    go (further [] is sp) = unlike [] (sym (append-nil b.lines) ∙ sym is ∙ sym (append-nil c.lines))
    go (further (l ∷ more) is sp) =
        let p = part s.keep (at_start f.clauses) b.lines (l ∷ more) ds (subst (λ z. AllDid s.keep (at_start f.clauses) z ds) is c.did) in
        next_line lim s f c.lines b.lines l more sp.0 ds b.done p.first p.later d e (whole_load s.keep f.clauses c.lines ds at_conflict c.did c.conflict) is c.fits b.did b.going p.is p.did_first p.did_later c.conflict
        (subst (λ r. EndsLoading lim s f b.done r d) sp.1 b.ends)

no_lines : (st : Standing) (ds : List Done) → StopsAfter st ds at_conflict → InConflict st.alive → ds ≡ []
no_lines st [] s c = refl
no_lines st (d ∷ ds) s c = absurd (s.0 c)

pub passing_trimmed : PassingIsTrimmed
passing_trimmed lim s formula proof f ds d begun c e dec =
    let a : ByClauses lim s f (line_tokens s.proof_form lim.bytes proof) d begun = subst (λ r. ByFormula lim s (line_tokens s.proof_form lim.bytes proof) r d begun) c.is_formula dec in
    let b : ByProof lim s f (line_tokens s.proof_form lim.bytes proof) d begun = rw c.cells at a in
    go b
  where
    go : ByProof lim s f (line_tokens s.proof_form lim.bytes proof) d begun → Trimmed lim s f ds d
    go (inl x) = by_pass lim s f ds d e (subst (λ z. ByPass lim s f z d) (sym (no_lines (at_start f.clauses) ds c.conflict x.0)) x.1)
    go (inr x) = by_lines lim s formula proof f ds d c e x.1

one_file : (w : Which) (name bytes : Option (List ℕ)) (old new : Outside) (o : Outcome) → WritesOne w name bytes old new o → (o ≡ outcome.Verified) ⊎ (o ≡ outcome.SinkFault w)
one_file w (Some n) (Some b) old new o (inl x) = inl x.1
one_file w (Some n) (Some b) old new o (inr x) = inr x.1
one_file w (Some n) None old new o x = inl x.1
one_file w None b old new o x = inl x.1

pub two_files : (s : TrimSaid) (f : Formula) (steps : List Step) (old new : Outside) (o : Outcome) → WritesTwo s.lsr (asked_lsr s f steps) s.core (asked_core s f steps) old new o → IsVerifiedOrUnwritten o
two_files s f steps old new o (inl b) = at (one_file which.Core s.core (asked_core s f steps) b.mid new o b.core_written)
  where
    at : (o ≡ outcome.Verified) ⊎ (o ≡ outcome.SinkFault which.Core) → IsVerifiedOrUnwritten o
    at (inl x) = inl x
    at (inr x) = inr (inr (inl x))
two_files s f steps old new o (inr b) = at (one_file which.Lsr s.lsr (asked_lsr s f steps) old new o b.0)
  where
    at : (o ≡ outcome.Verified) ⊎ (o ≡ outcome.SinkFault which.Lsr) → IsVerifiedOrUnwritten o
    at (inl x) = inl x
    at (inr x) = inr (inl x)

written : (lim : LimitValues) (s : TrimSaid) (f : Formula) (ds : List Done) (steps : List Step) (old new : Outside) (o : Outcome) → Writes s (by_length lim s f ds steps) old new o → IsVerifiedOrUnwritten o
written lim s f ds steps old new o w = by_test (passes_lsr lim s f steps)
    (λ t. let x : (new ≡ old) × (o ≡ outcome.Limit which.Lsr Bytes) = rw t at w in inr (inr (inr (inl x.1))))
    (λ t. by_test (passes_core lim s f steps)
    (λ u. let x : (new ≡ old) × (o ≡ outcome.Limit which.Core Bytes) = rw (t, u) at w in inr (inr (inr (inr x.1))))
    (λ u. let x : WritesTwo s.lsr (asked_lsr s f steps) s.core (asked_core s f steps) old new o = rw (t, u) at w in two_files s f steps old new o x))

pub passing_verified : PassingIsVerified
passing_verified lim s old new o k t formula proof f ds a0 a1 c e =
    let r = passing_trimmed lim s formula proof f ds t.decision t.mid.begun c e (t.decided formula proof a0 a1) in
    written lim s f ds r.0 t.mid new o (subst (λ x. Writes s x t.mid new o) r.1.1 t.writes)
