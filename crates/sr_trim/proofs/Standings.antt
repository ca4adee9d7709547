-- Where loading stands, from line to line.
use Rattle.std.proofs.Common.{◌≡◌, ◌∙◌, inl, inr, ℕ, ◌-◌, Bool, false, List, [], ◌∷◌, ◌++◌, Option, Some, None, Ok, Err, refl, sym, ap, subst}
use Rattle.std.specs.Prelude.{Result}
use Rattle.std.proofs.lemmas.List.{append_assoc, append-nil}
use Rattle.sr_base.specs.Limits.{LimitValues}
use Rattle.sr_base.specs.Contents.{Contents}
use Rattle.sr_base.specs.declared.names.Form.{Form}
use Rattle.sr_base.specs.declared.names.Which.TheVariants as which
use Rattle.sr_base.specs.declared.names.LimitKind.{LimitKind}
use Rattle.sr_base.specs.declared.names.InputError.{InputError}
use Rattle.sr_base.specs.declared.names.InputError.TheVariants as fault
use Rattle.sr_model.specs.Tokens.{Tokens}
use Rattle.sr_model.specs.Reading.{Read, reads}
use Rattle.sr_model.specs.Dimacs.{Formula}
use Rattle.sr_model.specs.Dsr.{Line, MaybeLine, line_in, SpellLines}
use Rattle.sr_desk.specs.Outside.{Outside, Agrees}
use Rattle.sr_desk.specs.Reader.{Reader}
use Rattle.sr_desk.specs.Next.{Reads, ForContents}
use Rattle.sr_scan.specs.Left.{tokens_left, Gives}
use Rattle.sr_lemma.specs.Lines.{line_of}
use Rattle.sr_lemma.specs.declared.lemma.DsrLine.{DsrLine}
use Rattle.sr_dsr.specs.Gives.{line_told}
use Rattle.sr_trimming.specs.Loading.{Done, Standing as Alive, at_start, after_done, after_all, Did, AllDid, StopsAfter, at_conflict, at_empty_lemma, going_on, Stop}
use Rattle.sr_load.specs.Loading.{LoaderState, loaded_in, TakesLine}
use Rattle.sr_emit.specs.declared.outcome.Outcome.{Outcome}
use Rattle.sr_emit.specs.declared.outcome.Outcome.TheVariants as outcome
use Rattle.sr_files.specs.Files.{outcome_by}
use Rattle.sr_trim.specs.Said.{TrimSaid}
use Rattle.sr_trim.specs.Deciding.{Decision, stops, loading, limit_of, LinesFit, ByLines, ByLine, AtStop, EndsLoading}
use Rattle.sr_trim.specs.Lines.{Standing, Takes, LoadsTo}
use Rattle.sr_trim.specs.declared.loading.Taken.TheVariants as taken

did_append : (keep : Bool) (st : Alive) (ls : List Line) (ds : List Done) (l : Line) (d : Done) → AllDid keep st ls ds → Did keep (after_all st ds).alive l d
    → AllDid keep st (ls ++ l ∷ []) (ds ++ d ∷ [])
did_append keep st [] [] l d h did = (did, tt)
did_append keep st [] (x ∷ ds) l d h did = absurd h
did_append keep st (k ∷ ls) [] l d h did = absurd h
did_append keep st (k ∷ ls) (x ∷ ds) l d h did = (h.0, did_append keep (after_done st x) ls ds l d h.1 did)

fits_append : (lim : LimitValues) (s : TrimSaid) (f : Formula) (before : List Done) (ls : List Line) (ds : List Done) (l : Line) (d : Done) → LinesFit lim s f before ls ds
    → limit_of (loading lim s f (before ++ ds)) l ≡ None → LinesFit lim s f before (ls ++ l ∷ []) (ds ++ d ∷ [])
fits_append lim s f before [] [] l d h fits = (subst (λ (x : List Done). limit_of (loading lim s f x) l ≡ None) (append-nil before) fits, tt)
fits_append lim s f before [] (x ∷ ds) l d h fits = absurd h
fits_append lim s f before (k ∷ ls) [] l d h fits = absurd h
fits_append lim s f before (k ∷ ls) (x ∷ ds) l d h fits =
    (h.0, fits_append lim s f (before ++ x ∷ []) ls ds l d h.1 (subst (λ (y : List Done). limit_of (loading lim s f y) l ≡ None) (sym (append_assoc before (x ∷ []) ds)) fits))

spell_append : (form : Form) (lim : LimitValues) (all mid rest : Tokens) (ls : List Line) (l : Line) → SpellLines form lim all ls mid
    → line_in form lim mid ≡ reads (Some l) rest → SpellLines form lim all (ls ++ l ∷ []) rest
spell_append form lim all mid rest [] l s e = (rest, ap (line_in form lim) s ∙ e, refl)
spell_append form lim all mid rest (x ∷ ls) l s e = (s.0, s.1, spell_append form lim s.0 mid rest ls l s.2 e)

-- contents that agree after a call agreed before it
agreed : {a b : Reader} {o p : Outside} {x : Bool} (c : Contents) → Reads a b o p x → Agrees (p.slot b.slot) c → Agrees (o.slot a.slot) c
agreed {a} {b} {o} {p} c r h = r.agrees c (subst (λ (n : ℕ). Agrees (p.slot n) c) r.same.slot h)

-- before the first line
pub standing_first : (lim : LimitValues) (s : TrimSaid) (f : Formula) (first : Reader) (o : Outside) (st : LoaderState) → st ≡ loading lim s f [] → StopsAfter (at_start f.clauses) [] going_on
    → Standing lim s f first first o st
standing_first lim s f first o st fresh going = record {
  lines = [];
  loader = fresh ∙ ap (loading lim s f) (sym (ap (λ (x : LoaderState). x.done) fresh));
  did = subst (λ (ds : List Done). AllDid s.keep (at_start f.clauses) [] ds) (sym (ap (λ (x : LoaderState). x.done) fresh)) tt;
  fits = subst (λ (ds : List Done). LinesFit lim s f [] [] ds) (sym (ap (λ (x : LoaderState). x.done) fresh)) tt;
  going = subst (λ (ds : List Done). StopsAfter (at_start f.clauses) ds going_on) (sym (ap (λ (x : LoaderState). x.done) fresh)) going;
  spelled = λ d a. refl;
}

module _ (lim : LimitValues) (s : TrimSaid) (f : Formula) (first now new : Reader) (o p : Outside) (st : LoaderState) where
  form : Form
  form = s.proof_form

  -- what the next line is, whatever the rest of the file
  abbrev IsNext : Result (Option DsrLine) InputError → Type 0
  IsNext result = ForContents new p (λ d. Gives (line_in s.proof_form lim (tokens_left s.proof_form 1 0 now d)) (tokens_left s.proof_form 1 0 new d) (line_told result))

  -- what a line did, from where loading stood
  done_on : (l : Line) (st' : LoaderState) (x : Standing lim s f first now o st) (t : TakesLine st st' l) → st'.done ≡ st.done ++ t.done ∷ []
  done_on l st' x t = ap (λ (y : LoaderState). y.done) t.taken

  did_on : (l : Line) (st' : LoaderState) (x : Standing lim s f first now o st) (t : TakesLine st st' l) → Did s.keep (after_all (at_start f.clauses) st.done).alive l t.done
  did_on l st' x t = subst (λ (y : LoaderState). Did y.keep (loaded_in y).alive l t.done) x.loader t.did

  formula_on : (l : Line) (st' : LoaderState) (x : Standing lim s f first now o st) (t : TakesLine st st' l) → st'.formula ≡ f
  formula_on l st' x t = ap (λ (y : LoaderState). y.formula) t.taken ∙ ap (λ (y : LoaderState). y.formula) x.loader

  state_on : (l : Line) (st' : LoaderState) (stop : Stop) (x : Standing lim s f first now o st) (t : TakesLine st st' l) → st'.stop ≡ stop → st' ≡ record (loading lim s f st'.done) { stop = stop }
  state_on l st' stop x t e =
      t.taken ∙ ap (λ (y : LoaderState). record y { done = st.done ++ t.done ∷ []; stop = st'.stop }) x.loader
      ∙ ap (λ (ds : List Done). record (loading lim s f ds) { stop = st'.stop }) (sym (done_on l st' x t))
      ∙ ap (λ (y : Stop). record (loading lim s f st'.done) { stop = y }) e

  stops_on : (l : Line) (st' : LoaderState) (stop : Stop) (x : Standing lim s f first now o st) (t : TakesLine st st' l) → st'.stop ≡ stop → StopsAfter (at_start f.clauses) st'.done stop
  stops_on l st' stop x t e = subst (λ (y : Stop). StopsAfter (at_start f.clauses) st'.done y) e (subst (λ (g : Formula). StopsAfter (at_start g.clauses) st'.done st'.stop) (formula_on l st' x t) t.stops)

  limit_on : (l : Line) (m : Option LimitKind) (x : Standing lim s f first now o st) → limit_of st l ≡ m → limit_of (loading lim s f st.done) l ≡ m
  limit_on l m x e = sym (ap (λ (y : LoaderState). limit_of y l) x.loader) ∙ e

  -- after one more line
  pub standing_more : (st' : LoaderState) (x : DsrLine) → Standing lim s f first now o st → Reads now new o p false → IsNext (Ok (Some x))
      → Takes st st' (line_of x) taken.Going → Standing lim s f first new p st'
  standing_more st' x h r gives takes =
      let l : Line = line_of x in
      let t : TakesLine st st' l = takes.1 in
      record {
        lines = h.lines ++ l ∷ [];
        loader = state_on l st' going_on h t takes.2;
        did = subst (λ (ds : List Done). AllDid s.keep (at_start f.clauses) (h.lines ++ l ∷ []) ds) (sym (done_on l st' h t)) (did_append s.keep (at_start f.clauses) h.lines st.done l t.done h.did (did_on l st' h t));
        fits = subst (λ (ds : List Done). LinesFit lim s f [] (h.lines ++ l ∷ []) ds) (sym (done_on l st' h t)) (fits_append lim s f [] h.lines st.done l t.done h.fits (limit_on l None h takes.0));
        going = stops_on l st' going_on h t takes.2;
        spelled = λ d a. spell_append s.proof_form lim (tokens_left s.proof_form 1 0 first d) (tokens_left s.proof_form 1 0 now d) (tokens_left s.proof_form 1 0 new d) h.lines l (h.spelled d (agreed d r a)) (gives d a);
      }

  -- what follows the lines decides
  decided : (result : Result (Option DsrLine) InputError) (q : Outside) (x : Bool) (dec : Decision) (h : Standing lim s f first now o st)
      → Reads first now q o false → Reads now new o p x → IsNext result
      → ((read : Read MaybeLine) (rest : Tokens) → Gives read rest (line_told result) → EndsLoading lim s f st.done read dec)
      → ForContents first p (λ c. ByLines lim s f (tokens_left s.proof_form 1 0 first c) dec)
  decided result q x dec h whole r gives ends d a =
      let same : new.slot ≡ first.slot = r.same.slot ∙ whole.same.slot in
      let after : Agrees (p.slot new.slot) d = subst (λ (n : ℕ). Agrees (p.slot n) d) (sym same) a in
      record {
        lines = h.lines;
        rest = tokens_left s.proof_form 1 0 now d;
        done = st.done;
        spelled = h.spelled d (agreed d r after);
        did = h.did;
        fits = h.fits;
        going = h.going;
        ends = ends (line_in s.proof_form lim (tokens_left s.proof_form 1 0 now d)) (tokens_left s.proof_form 1 0 new d) (gives d after);
      }

  -- at a line with which loading ends
  at_line : (q : Outside) (x : DsrLine) (dec : Decision) → Standing lim s f first now o st → Reads first now q o false → Reads now new o p false → IsNext (Ok (Some x))
      → ByLine lim s f st.done (line_of x) (limit_of (loading lim s f st.done) (line_of x)) dec → ForContents first p (λ c. ByLines lim s f (tokens_left s.proof_form 1 0 first c) dec)
  at_line q x dec h whole r gives by =
      decided (Ok (Some x)) q false dec h whole r gives (λ read rest e. subst (λ (z : Read MaybeLine). EndsLoading lim s f st.done z dec) (sym e) by)

  -- the line stops loading, and these conditions decide
  by_stop : (st' : LoaderState) (l : Line) (dec : Decision) (h : Standing lim s f first now o st) (t : TakesLine st st' l) → limit_of st l ≡ None → AtStop lim s f st'.done dec
      → ByLine lim s f st.done l (limit_of (loading lim s f st.done) l) dec
  by_stop st' l dec h t none stop =
      subst (λ (m : Option LimitKind). ByLine lim s f st.done l m dec) (sym (limit_on l None h none))
      (t.done, did_on l st' h t, subst (λ (ds : List Done). AtStop lim s f ds dec) (done_on l st' h t) stop)

  -- the clauses conflict
  pub standing_conflicts : (q : Outside) (x : DsrLine) (st' : LoaderState) → Standing lim s f first now o st → Reads first now q o false → Reads now new o p false → IsNext (Ok (Some x))
      → Takes st st' (line_of x) taken.Conflict → LoadsTo lim s f first p (Ok st')
  standing_conflicts q x st' h whole r gives takes = (
    state_on (line_of x) st' at_conflict h takes.1 takes.2,
    stops_on (line_of x) st' at_conflict h takes.1 takes.2,
    λ dec by. at_line q x dec h whole r gives (by_stop st' (line_of x) dec h takes.1 takes.0 (inl (stops_on (line_of x) st' at_conflict h takes.1 takes.2, by))),
  )

  -- the line ends loading with an outcome
  pub standing_ends : (q : Outside) (x : DsrLine) (st' : LoaderState) (out : Outcome) → Standing lim s f first now o st → Reads first now q o false → Reads now new o p false → IsNext (Ok (Some x))
      → Takes st st' (line_of x) (taken.Ended out) → LoadsTo lim s f first p (Err out)
  standing_ends q x st' out h whole r gives (inl e) = inl e
  standing_ends q x st' out h whole r gives (inr (inl e)) =
      inr (at_line q x (stops out) h whole r gives (subst (λ (m : Option LimitKind). ByLine lim s f st.done (line_of x) m (stops out)) (sym (limit_on (line_of x) (Some e.0) h e.1)) (ap stops e.2)))
  standing_ends q x st' out h whole r gives (inr (inr e)) =
      let t : TakesLine st st' (line_of x) = e.1 in
      inr (at_line q x (stops out) h whole r gives (by_stop st' (line_of x) (stops out) h t e.0
      (inr (stops_on (line_of x) st' at_empty_lemma h t e.2, ap stops (e.3 ∙ ap (λ (g : Formula). outcome.RejectedLemma ((after_all (at_start g.clauses) st'.done).next - 1) None) (formula_on (line_of x) st' h t))))))

  -- where no line is read
  pub standing_fault : (q : Outside) (x : Bool) (e : InputError) → Standing lim s f first now o st → Reads first now q o false → Reads now new o p x → IsNext (Err e)
      → LoadsTo lim s f first p (Err (outcome_by which.Proof e))
  standing_fault q x (fault.Text kind place) h w r g = inr (decided (Err (fault.Text kind place)) q x _ h w r g (λ read rest e. rw e refl))
  standing_fault q x (fault.Limit kind) h w r g = inr (decided (Err (fault.Limit kind)) q x _ h w r g (λ read rest e. rw e refl))
  standing_fault q x fault.Source h w r g = inr (decided (Err fault.Source) q x _ h w r g (λ read rest e. rw e refl))
  standing_fault q x fault.NoMemory h w r g = inl refl

  -- where the proof ends
  pub standing_none : (q : Outside) → Standing lim s f first now o st → Reads first now q o false → Reads now new o p false → IsNext (Ok None)
      → LoadsTo lim s f first p (Err outcome.NoEmptyClause)
  standing_none q h w r g = inr (decided (Ok None) q false (stops outcome.NoEmptyClause) h w r g (λ read rest e. rw e refl))
