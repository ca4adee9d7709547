-- Where judging stands, from item to item.
use Rattle.std.proofs.Common.{◌≡◌, ◌∙◌, inl, inr, ℕ, ◌+◌, Bool, true, false, List, [], ◌∷◌, ◌++◌, Option, Some, None, Ok, Err, refl, sym, ap, subst, arith}
use Rattle.std.specs.Prelude.{Result}
use Rattle.std.proofs.lemmas.List.Sums.{sum_by-append}
use Rattle.sr_base.specs.Literal.{Literal}
use Rattle.sr_base.specs.Limits.{LimitValues}
use Rattle.sr_base.specs.Contents.{Contents}
use Rattle.sr_base.specs.declared.names.Form.{Form}
use Rattle.sr_base.specs.declared.names.Which.TheVariants as which
use Rattle.sr_base.specs.declared.names.InputError.{InputError}
use Rattle.sr_base.specs.declared.names.InputError.TheVariants as fault
use Rattle.sr_model.specs.Tokens.{Tokens}
use Rattle.sr_model.specs.Reading.{Read, reads}
use Rattle.sr_model.specs.Refutation.{has_empty}
use Rattle.sr_model.specs.Meeting.{Meeting, met, unmet}
use Rattle.sr_model.specs.Judging.{Item, Live, first_live, live_with, live_after, item_meets, ends_proof, verdict_of, judge, start}
use Rattle.sr_model.specs.Lsr.{MaybeItem}
use Rattle.sr_model.specs.LsrBinary.{item_in, SpellItemsIn}
use Rattle.sr_model.specs.declared.verdict.Verdict.TheVariants.{Going}
use Rattle.sr_model.proofs.Taken.{going_append, going_has_no_empty, judge_going}
use Rattle.sr_desk.specs.Outside.{Outside, Agrees}
use Rattle.sr_desk.specs.Reader.{Reader}
use Rattle.sr_desk.specs.Next.{Reads, ForContents}
use Rattle.sr_scan.specs.Left.{tokens_left, Gives}
use Rattle.sr_check.specs.Checking.{Checking}
use Rattle.sr_wit.specs.LsrItems.{item_of}
use Rattle.sr_wit.specs.declared.item.LsrItem.{LsrItem}
use Rattle.sr_lsr.specs.Reads.{item_told}
use Rattle.sr_emit.specs.declared.outcome.Outcome.{Outcome}
use Rattle.sr_emit.specs.declared.outcome.Outcome.TheVariants as outcome
use Rattle.sr_files.specs.Files.{outcome_by}
use Rattle.sr_cli.specs.Check.{grows_past, CellsFit, by_item, by_meeting, counted, item_steps, item_hints, steps_of, hints_of, counts_of, EndsAt, ByProof}
use Rattle.sr_cli.specs.Runs.{Progress, Tallies, Takes, Judges, counts_by}
use Rattle.sr_cli.specs.declared.proof.Tally.{Tally}

-- before the first item
pub progress_first : (lim : LimitValues) (form : Form) (strict : Bool) (f : List (List Literal)) (first : Reader) (o : Outside) (c : Checking) → has_empty f ≡ false
    → c ≡ record { strict = strict; most = lim.cells; state = start f; used = c.used } → Progress lim form strict f first first o c (record { steps = 0; hints = 0 })
progress_first lim form strict f first o c full fresh = record {
  items = [];
  going = rw full refl;
  fits = tt;
  checker = fresh ∙ rw full refl;
  steps = refl;
  hints = refl;
  spelled = λ d a. refl;
}

-- an item at which judging goes on
record GoesOn (most : ℕ) (strict : Bool) (lv : Live) (it : Item) : Type 0 where
  is_met : item_meets strict lv it ≡ met
  is_open : ends_proof it ≡ false
  fits : grows_past most lv it ≡ false

goes_on : (most : ℕ) (strict : Bool) (lv : Live) (it : Item) → by_item most strict lv it ≡ None → GoesOn most strict lv it
goes_on most strict lv it e = at (item_meets strict lv it) refl e
  where
    at : (m : Meeting) → item_meets strict lv it ≡ m → by_meeting most lv it m ≡ None → GoesOn most strict lv it
    at (unmet x) i e = absurd cc
    at met i e = go (ends_proof it) refl (grows_past most lv it) refl
      where
        go : (x : Bool) → ends_proof it ≡ x → (y : Bool) → grows_past most lv it ≡ y → GoesOn most strict lv it
        go true x y z = let bad = rw x at e in absurd cc
        go false x true z = let bad = rw (x, z) at e in absurd cc
        go false x false z = record { is_met = i; is_open = x; fits = z }

live_append : (lv : Live) (items : List Item) (it : Item) → live_after lv (items ++ it ∷ []) ≡ live_with (live_after lv items) it
live_append lv [] it = refl
live_append lv (x ∷ items) it = live_append (live_with lv x) items it

fits_append : (most : ℕ) (lv : Live) (items : List Item) (it : Item) → CellsFit most lv items → grows_past most (live_after lv items) it ≡ false → CellsFit most lv (items ++ it ∷ [])
fits_append most lv [] it h g = (g, tt)
fits_append most lv (x ∷ items) it h g = (h.0, fits_append most (live_with lv x) items it h.1 g)

spell_append : (form : Form) (lim : LimitValues) (all mid rest : Tokens) (items : List Item) (it : Item) → SpellItemsIn form lim all items mid
    → item_in form lim mid ≡ reads (Some it) rest → SpellItemsIn form lim all (items ++ it ∷ []) rest
spell_append form lim all mid rest [] it s e = (rest, ap (item_in form lim) s ∙ e, refl)
spell_append form lim all mid rest (x ∷ items) it s e = (s.0, s.1, spell_append form lim s.0 mid rest items it s.2 e)

pub judged_append : (strict : Bool) (f : List (List Literal)) (items : List Item) (it : Item) → judge strict f items ≡ Going
    → judge strict f (items ++ it ∷ []) ≡ verdict_of it (item_meets strict (live_after (first_live f) items) it) Going
judged_append strict f items it e =
    let n = going_has_no_empty strict f items e in
    judge_going strict f (items ++ it ∷ []) n ∙ going_append strict (first_live f) items (it ∷ []) (sym (judge_going strict f items n) ∙ e)

counted_more : (a b c d n : ℕ) → a ≡ counted b → c ≡ counted (a + d) → n ≡ b + d → c ≡ counted n
counted_more a b c d n x y z = omega arith

more_steps : (items : List Item) (it : Item) → steps_of (items ++ it ∷ []) ≡ steps_of items + item_steps it
more_steps items it = omega (arith, sum_by-append item_steps items (it ∷ []))

more_hints : (items : List Item) (it : Item) → hints_of (items ++ it ∷ []) ≡ hints_of items + item_hints it
more_hints items it = omega (arith, sum_by-append item_hints items (it ∷ []))

-- contents that agree after a call agreed before it
agreed : {a b : Reader} {o p : Outside} {x : Bool} (c : Contents) → Reads a b o p x → Agrees (p.slot b.slot) c → Agrees (o.slot a.slot) c
agreed {a} {b} {o} {p} c r h = r.agrees c (subst (λ (n : ℕ). Agrees (p.slot n) c) r.same.slot h)

-- and those of the first reader's slot are those of the last one's
agrees_on : {a b : Reader} {o p : Outside} {x : Bool} (c : Contents) → Reads a b o p x → Agrees (p.slot a.slot) c → Agrees (p.slot b.slot) c
agrees_on {a} {b} {o} {p} c r h = subst (λ (n : ℕ). Agrees (p.slot n) c) (sym r.same.slot) h

module _ (lim : LimitValues) (form : Form) (strict : Bool) (f : List (List Literal)) (first now new : Reader) (o p : Outside) (c : Checking) (t : Tally) where
  -- what the next item is, whatever the rest of the file
  abbrev IsNext : Result (Option LsrItem) InputError → Type 0
  IsNext result = ForContents new p (λ d. Gives (item_in form lim (tokens_left form 2 0 now d)) (tokens_left form 2 0 new d) (item_told result))

  -- after one more item
  pub progress_more : (c' : Checking) (u : Tally) (x : LsrItem) → Progress lim form strict f first now o c t → Reads now new o p false → IsNext (Ok (Some x))
      → Takes c c' t u (item_of x) None → Progress lim form strict f first new p c' u
  progress_more c' u x s r gives takes =
      let it : Item = item_of x in
      let lv : Live = live_after (first_live f) s.items in
      let none : by_item lim.cells strict lv it ≡ None = subst (λ (k : Checking). by_item k.most k.strict k.state.live it ≡ None) s.checker takes.0 in
      let g : GoesOn lim.cells strict lv it = goes_on lim.cells strict lv it none in
      record {
        items = s.items ++ it ∷ [];
        going = judged_append strict f s.items it s.going ∙ rw (g.is_met, g.is_open) refl;
        fits = fits_append lim.cells (first_live f) s.items it s.fits g.fits;
        checker = takes.1 ∙ ap (λ (k : Checking). record k { state = record { live = live_with k.state.live it; verdict = Going }; used = c'.used }) s.checker
            ∙ ap (λ (l : Live). record { strict = strict; most = lim.cells; state = record { live = l; verdict = Going }; used = c'.used }) (sym (live_append (first_live f) s.items it));
        steps = counted_more t.steps (steps_of s.items) u.steps (item_steps it) _ s.steps takes.2.steps (more_steps s.items it);
        hints = counted_more t.hints (hints_of s.items) u.hints (item_hints it) _ s.hints takes.2.hints (more_hints s.items it);
        spelled = λ d a. spell_append form lim (tokens_left form 2 0 first d) (tokens_left form 2 0 now d) (tokens_left form 2 0 new d) s.items it (s.spelled d (agreed d r a)) (gives d a);
      }

  -- what follows the items decides
  decided : (result : Result (Option LsrItem) InputError) (q : Outside) (x : Bool) (k : Tally) (out : Outcome) (s : Progress lim form strict f first now o c t)
      → Reads first now q o false → Reads now new o p x → IsNext result
      → ((read : Read MaybeItem) (rest : Tokens) → Gives read rest (item_told result) → EndsAt lim strict f s.items read out (counts_by f k)) → Judges lim form strict f first p out k
  decided result q x k out s whole r gives ends = inr judged
    where
      judged : (d : Contents) → Agrees (p.slot first.slot) d → ByProof lim form strict f (tokens_left form 2 0 first d) out (counts_by f k)
      judged d a =
          let same : new.slot ≡ first.slot = r.same.slot ∙ whole.same.slot in
          let after : Agrees (p.slot new.slot) d = subst (λ (n : ℕ). Agrees (p.slot n) d) (sym same) a in
          record {
            items = s.items;
            rest = tokens_left form 2 0 now d;
            spelled = s.spelled d (agreed d r after);
            going = s.going;
            fits = s.fits;
            ends = ends (item_in form lim (tokens_left form 2 0 now d)) (tokens_left form 2 0 new d) (gives d after);
          }

  -- at an item with which judging ends
  ended : (q : Outside) (x : LsrItem) (u : Tally) (out : Outcome) → Progress lim form strict f first now o c t → Reads first now q o false → Reads now new o p false → IsNext (Ok (Some x))
      → by_item c.most c.strict c.state.live (item_of x) ≡ Some out → (out ≡ outcome.Verified → Tallies t (item_of x) u) → Judges lim form strict f first p out u
  ended q x u out s whole r gives by tallied =
      let it : Item = item_of x in
      let lv : Live = live_after (first_live f) s.items in
      let here : by_item lim.cells strict lv it ≡ Some out = subst (λ (k : Checking). by_item k.most k.strict k.state.live it ≡ Some out) s.checker by in
      decided (Ok (Some x)) q false u out s whole r gives (λ read rest e.
      subst (λ (z : Read MaybeItem). EndsAt lim strict f s.items z out (counts_by f u)) (sym e) (here, λ v. counts (tallied v)))
    where
      counts : Tallies t (item_of x) u → counts_by f u ≡ counts_of f (s.items ++ item_of x ∷ [])
      counts k =
          let steps : u.steps ≡ counted (steps_of (s.items ++ item_of x ∷ [])) = counted_more t.steps (steps_of s.items) u.steps (item_steps (item_of x)) _ s.steps k.steps (more_steps s.items (item_of x)) in
          let hints : u.hints ≡ counted (hints_of (s.items ++ item_of x ∷ [])) = counted_more t.hints (hints_of s.items) u.hints (item_hints (item_of x)) _ s.hints k.hints (more_hints s.items (item_of x)) in
          rw (steps, hints) refl

  -- the same, from what `take_item` says; out of memory judges nothing
  pub progress_ends : (q : Outside) (x : LsrItem) (c' : Checking) (u : Tally) (out : Outcome) → Progress lim form strict f first now o c t → Reads first now q o false → Reads now new o p false
      → IsNext (Ok (Some x)) → Takes c c' t u (item_of x) (Some out) → Judges lim form strict f first p out u
  progress_ends q x c' u outcome.Verified s w r g k = ended q x u outcome.Verified s w r g k.0 k.1
  progress_ends q x c' u (outcome.RejectedStep id y) s w r g k = ended q x u (outcome.RejectedStep id y) s w r g k.0 k.1
  progress_ends q x c' u (outcome.RejectedLemma l y) s w r g k = ended q x u (outcome.RejectedLemma l y) s w r g k.0 k.1
  progress_ends q x c' u outcome.NoEmptyClause s w r g k = ended q x u outcome.NoEmptyClause s w r g k.0 k.1
  progress_ends q x c' u (outcome.Usage y) s w r g k = ended q x u (outcome.Usage y) s w r g k.0 k.1
  progress_ends q x c' u (outcome.Text v y z) s w r g k = ended q x u (outcome.Text v y z) s w r g k.0 k.1
  progress_ends q x c' u (outcome.Limit v y) s w r g k = ended q x u (outcome.Limit v y) s w r g k.0 k.1
  progress_ends q x c' u (outcome.SourceFault v) s w r g k = ended q x u (outcome.SourceFault v) s w r g k.0 k.1
  progress_ends q x c' u (outcome.SinkFault v) s w r g k = ended q x u (outcome.SinkFault v) s w r g k.0 k.1
  progress_ends q x c' u (outcome.Helped t) s w r g k = ended q x u (outcome.Helped t) s w r g k.0 k.1
  progress_ends q x c' u outcome.NoMemory s w r g k = inl refl

  -- where no item is read
  pub progress_fault : (q : Outside) (x : Bool) (e : InputError) → Progress lim form strict f first now o c t → Reads first now q o false → Reads now new o p x → IsNext (Err e)
      → Judges lim form strict f first p (outcome_by which.Proof e) t
  progress_fault q x (fault.Text kind place) s w r g = decided (Err (fault.Text kind place)) q x t _ s w r g (λ read rest e. rw e refl)
  progress_fault q x (fault.Limit kind) s w r g = decided (Err (fault.Limit kind)) q x t _ s w r g (λ read rest e. rw e refl)
  progress_fault q x fault.Source s w r g = decided (Err fault.Source) q x t _ s w r g (λ read rest e. rw e refl)
  progress_fault q x fault.NoMemory s w r g = inl refl

  -- where the proof ends
  pub progress_none : (q : Outside) → Progress lim form strict f first now o c t → Reads first now q o false → Reads now new o p false → IsNext (Ok None)
      → Judges lim form strict f first p outcome.NoEmptyClause t
  progress_none q s w r g = decided (Ok None) q false t outcome.NoEmptyClause s w r g (λ read rest e. rw e refl)
