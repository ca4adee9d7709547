-- A proof that is read again is judged item by item as it was written.
use Rattle.std.proofs.Common.{◌≡◌, ℕ, Bool, true, false, List, [], ◌∷◌, ◌++◌, Some, None, map, length, refl, sym, ◌∙◌, ap, subst}
use Rattle.sr_base.specs.Literal.{Literal}
use Rattle.sr_base.specs.Limits.{LimitValues}
use Rattle.sr_base.specs.declared.names.Form.{Form}
use Rattle.sr_base.specs.declared.names.Form.TheVariants.{Text, Binary}
use Rattle.sr_base.specs.declared.names.Which.TheVariants as which
use Rattle.sr_model.specs.declared.verdict.Verdict.TheVariants.{Going}
use Rattle.sr_model.specs.Tokens.{Tokens}
use Rattle.sr_model.specs.Reading.{Read, reads, misspells, passes, fails}
use Rattle.sr_model.specs.Refutation.{has_empty}
use Rattle.sr_model.specs.Chain.{Numbered}
use Rattle.sr_model.specs.Meeting.{Step, met}
use Rattle.sr_model.specs.Judging.{Item, stepped, dropped, numbered_from, Live, first_live, live_with, live_after, item_meets, ends_proof, judge_from}
use Rattle.sr_model.specs.Lsr.{MaybeItem}
use Rattle.sr_model.specs.LsrBinary.{item_in, SpellItemsIn}
use Rattle.sr_model.specs.ReadAgain.{read_as}
use Rattle.sr_model.proofs.Soundness.{by_test}
use Rattle.sr_model.proofs.Taken.{going_tells, passed_verdict, going_has_no_empty, judge_going}
use Rattle.sr_trimming.specs.Placing.{deletion, last_cited, placed_from, uncited, placed}
use Rattle.sr_trimming.specs.Backward.{AreLinked, AreMet}
use Rattle.sr_emit.specs.declared.outcome.Outcome.{Outcome}
use Rattle.sr_emit.specs.declared.outcome.Outcome.TheVariants as outcome
use Rattle.sr_emit.specs.declared.counts.Counts.{Counts}
use Rattle.sr_cli.specs.Check.{CellsFit, grows_past, by_met, by_meeting, by_item, counts_of, EndsAt, ByProof}

-- the number in front of a deletion has no part in judging
live_as : (form : Form) (lv : Live) (it : Item) → live_with lv (read_as form it) ≡ live_with lv it
live_as Text lv it = refl
live_as Binary lv (stepped s) = refl
live_as Binary lv (dropped id ids) = refl

meets_as : (form : Form) (strict : Bool) (lv : Live) (it : Item) → item_meets strict lv (read_as form it) ≡ item_meets strict lv it
meets_as Text strict lv it = refl
meets_as Binary strict lv (stepped s) = refl
meets_as Binary strict lv (dropped id ids) = refl

ends_as : (form : Form) (it : Item) → ends_proof (read_as form it) ≡ ends_proof it
ends_as Text it = refl
ends_as Binary (stepped s) = refl
ends_as Binary (dropped id ids) = refl

grows_as : (form : Form) (most : ℕ) (lv : Live) (it : Item) → grows_past most lv (read_as form it) ≡ grows_past most lv it
grows_as Text most lv it = refl
grows_as Binary most lv (stepped s) = refl
grows_as Binary most lv (dropped id ids) = refl

pub met_as : (form : Form) (strict : Bool) (lv : Live) (items : List Item) → AreMet strict lv items → AreMet strict lv (map (read_as form) items)
met_as form strict lv [] m = tt
met_as form strict lv (it ∷ items) m = (
  meets_as form strict lv it ∙ m.0,
  subst (λ x. AreMet strict x (map (read_as form) items)) (sym (live_as form lv it)) (met_as form strict (live_with lv it) items m.1),
)

pub fit_as : (form : Form) (most : ℕ) (lv : Live) (items : List Item) → CellsFit most lv items → CellsFit most lv (map (read_as form) items)
fit_as form most lv [] m = tt
fit_as form most lv (it ∷ items) m = (
  grows_as form most lv it ∙ m.0,
  subst (λ x. CellsFit most x (map (read_as form) items)) (sym (live_as form lv it)) (fit_as form most (live_with lv it) items m.1),
)

-- the last of the items is the empty clause, and it alone
abbrev pub EndsLast : List Item → Type 0
EndsLast [] = ⊥
EndsLast (it ∷ []) = ends_proof it ≡ true
EndsLast (it ∷ u ∷ items) = (ends_proof it ≡ false) × EndsLast (u ∷ items)

pub ends_read : (form : Form) (items : List Item) → EndsLast items → EndsLast (map (read_as form) items)
ends_read form [] e = e
ends_read form (it ∷ []) e = ends_as form it ∙ e
ends_read form (it ∷ u ∷ items) e = (ends_as form it ∙ e.0, ends_read form (u ∷ items) e.1)

ends_later : (it : Item) (items : List Item) → ends_proof it ≡ false → EndsLast items → EndsLast (it ∷ items)
ends_later it [] h e = absurd e
ends_later it (u ∷ items) h e = (h, e)

ends_deletion : (id : ℕ) (ids : List ℕ) (items : List Item) → EndsLast items → EndsLast (deletion id ids items)
ends_deletion id [] items e = e
ends_deletion id (n ∷ ns) items e = ends_later (dropped id (n ∷ ns)) items refl e

ends_from_known : (known : Numbered) (last : ℕ) (steps : List Step) → AreLinked last steps → EndsLast (placed_from known steps)
ends_from_known known last [] l = l
ends_from_known known last (s ∷ []) l = l.1
ends_from_known known last (s ∷ t ∷ later) l =
    ends_later (stepped s) (deletion s.id (last_cited known s (t ∷ later)) (placed_from (known ++ (s.id, s.clause) ∷ []) (t ∷ later))) l.1
    (ends_deletion s.id (last_cited known s (t ∷ later)) (placed_from (known ++ (s.id, s.clause) ∷ []) (t ∷ later)) (ends_from_known (known ++ (s.id, s.clause) ∷ []) s.id (t ∷ later) l.3))

pub placed_ends_last : (f : List (List Literal)) (steps : List Step) → AreLinked (length f) steps → EndsLast (placed f steps)
placed_ends_last f steps l = ends_deletion (length f) (uncited f steps) (placed_from (numbered_from 1 f) steps) (ends_from_known (numbered_from 1 f) (length f) steps l)

-- what comes of the next item where these clauses are live; where it verifies the proof, more holds of it
abbrev EndsFrom : ℕ → Bool → Live → (Item → Type 0) → Read MaybeItem → Outcome → Type 0
EndsFrom most strict lv M (reads (Some it) rest) o = (by_item most strict lv it ≡ Some o) × (o ≡ outcome.Verified → M it)
EndsFrom most strict lv M (reads None rest) o = o ≡ outcome.NoEmptyClause
EndsFrom most strict lv M (misspells kind place) o = o ≡ outcome.Text which.Proof kind place
EndsFrom most strict lv M (passes kind) o = o ≡ outcome.Limit which.Proof kind
EndsFrom most strict lv M fails o = o ≡ outcome.SourceFault which.Proof

ends_from : (lim : LimitValues) (strict : Bool) (f : List (List Literal)) (items : List Item) (r : Read MaybeItem) (o : Outcome) (k : Counts)
    → EndsAt lim strict f items r o k → EndsFrom lim.cells strict (live_after (first_live f) items) (λ it. k ≡ counts_of f (items ++ it ∷ [])) r o
ends_from lim strict f items (reads (Some it) rest) o k e = e
ends_from lim strict f items (reads None rest) o k e = e
ends_from lim strict f items (misspells kind place) o k e = e
ends_from lim strict f items (passes kind) o k e = e
ends_from lim strict f items fails o k e = e

-- an item that is met and passes no limit ends judging only as the empty clause
met_ends : (most : ℕ) (strict : Bool) (lv : Live) (it : Item) (o : Outcome) → item_meets strict lv it ≡ met → grows_past most lv it ≡ false → by_item most strict lv it ≡ Some o
    → (ends_proof it ≡ true) × (o ≡ outcome.Verified)
met_ends most strict lv it o m g e =
    let here : by_met most lv it ≡ Some o = ap (by_meeting most lv it) (sym m) ∙ e in
    by_test (ends_proof it)
    (λ y. let is : Some outcome.Verified ≡ Some o = rw y at here in let same : o ≡ outcome.Verified = cc in (y, same))
    (λ y. let none : None ≡ Some o = rw (y, g) at here in absurd cc)

-- where items are spelled that are met and pass no limit, the last of them the empty clause, the first event is that this one is met
replays : (form : Form) (lim : LimitValues) (strict : Bool) (lv : Live) (ts rest end : Tokens) (items all : List Item) (o : Outcome) (M : List Item → Type 0)
    → SpellItemsIn form lim ts all end → AreMet strict lv all → CellsFit lim.cells lv all → EndsLast all
    → SpellItemsIn form lim ts items rest → judge_from strict lv items ≡ Going → EndsFrom lim.cells strict (live_after lv items) (λ it. M (items ++ it ∷ [])) (item_in form lim rest) o
    → (o ≡ outcome.Verified) × M all
replays form lim strict lv ts rest end items [] o M s m c v t g e = absurd v
replays form lim strict lv ts rest end [] (it ∷ all) o M s m c v t g e =
    let read : item_in form lim rest ≡ reads (Some it) s.0 = ap (item_in form lim) (sym t) ∙ s.1 in
    let here : EndsFrom lim.cells strict lv (λ u. M (u ∷ [])) (reads (Some it) s.0) o = subst (λ r. EndsFrom lim.cells strict lv (λ u. M (u ∷ [])) r o) read e in
    let last = met_ends lim.cells strict lv it o m.0 c.0 here.0 in
    (last.1, at all v last.0 (here.1 last.1))
  where
    at : (all : List Item) → EndsLast (it ∷ all) → ends_proof it ≡ true → M (it ∷ []) → M (it ∷ all)
    at [] v y h = h
    at (u ∷ us) v y h = let bad : true ≡ false = sym y ∙ v.0 in absurd cc
replays form lim strict lv ts rest end (a ∷ items) (it ∷ all) o M s m c v t g e =
    let both : reads (Some a) t.0 ≡ reads (Some it) s.0 = sym t.1 ∙ s.1 in
    let same : a ≡ it = cc in
    let mid : s.0 ≡ t.0 = cc in
    let p = going_tells strict lv a (judge_from strict (live_with lv a) items) g in
    let going : judge_from strict (live_with lv a) items ≡ Going = sym (passed_verdict strict lv a (judge_from strict (live_with lv a) items) p) ∙ g in
    let later : EndsLast all = at all v (ap ends_proof (sym same) ∙ p.is_open) in
    replays form lim strict (live_with lv it) t.0 rest end items all o (λ xs. M (it ∷ xs))
    (subst (λ x. SpellItemsIn form lim x all end) mid s.2) m.1 c.1 later t.2
    (subst (λ x. judge_from strict (live_with lv x) items ≡ Going) same going)
    (subst (λ x. EndsFrom lim.cells strict (live_after (live_with lv x) items) (λ u. M (x ∷ (items ++ u ∷ []))) (item_in form lim rest) o) same e)
  where
    at : (all : List Item) → EndsLast (it ∷ all) → ends_proof it ≡ false → EndsLast all
    at [] v y = let bad : true ≡ false = sym v ∙ y in absurd cc
    at (u ∷ us) v y = v.1

pub proof_replays : (form : Form) (lim : LimitValues) (strict : Bool) (f : List (List Literal)) (ts end : Tokens) (all : List Item) (o : Outcome) (k : Counts)
    → SpellItemsIn form lim ts all end → AreMet strict (first_live f) all → CellsFit lim.cells (first_live f) all → EndsLast all
    → ByProof lim form strict f ts o k → (o ≡ outcome.Verified) × (k ≡ counts_of f all)
proof_replays form lim strict f ts end all o k s m c v p =
    let some : has_empty f ≡ false = going_has_no_empty strict f p.items p.going in
    replays form lim strict (first_live f) ts p.rest end p.items all o (λ xs. k ≡ counts_of f xs) s m c v p.spelled
    (sym (judge_going strict f p.items some) ∙ p.going)
    (ends_from lim strict f p.items (item_in form lim p.rest) o k p.ends)
