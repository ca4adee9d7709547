-- Copies beside the lines.
use Rattle.std.proofs.Common.{◌≡◌, ◌≢◌, ◌<◌, ◌≤◌, ◌+◌, ℕ, suc, zero, Bool, true, false, ◌==◌, ◌||◌, not, List, [], ◌∷◌, ◌++◌, Option, Some, None, map, refl, sym, ◌∙◌, ap, subst, arith, length, get_or, take}
use Rattle.std.specs.Prelude.{is_some, Result, Ok, Err, OnOk, OnErr}
use Rattle.std.proofs.lemmas.List.{append_assoc, take-append-le, take_all, take_more}
use Rattle.std.proofs.lemmas.Bool.Decides.{nat_tests}
use Rattle.sr_base.specs.Literal.{Literal, has, NoRepeats}
use Rattle.sr_base.proofs.Literals.{same_bool}
use Rattle.sr_model.specs.Assignment.{holds_number}
use Rattle.sr_model.specs.Chain.{Numbered, clause_of}
use Rattle.sr_model.specs.Dimacs.{Formula}
use Rattle.sr_model.proofs.Soundness.{by_test}
use Rattle.sr_watch.specs.declared.parts.Part.TheVariants.{All}
use Rattle.sr_watch.specs.Parts.{counts}
use Rattle.sr_watch.specs.State.{Slot, State, slot_in, assumed}
use Rattle.sr_watch.specs.Changes.{with_part, AreReordered}
use Rattle.sr_trimming.specs.Lean.{is_lean}
use Rattle.sr_trimming.specs.Placing.{numbers}
use Rattle.sr_trimming.specs.Loading.{Done, joined, removed, passed, Standing, at_start, after_all}
use Rattle.sr_trimming.specs.From.{all_loaded}
use Rattle.sr_load.specs.Loaded.{LoadedState, all_lines, all_in, standing_in, alive_in, cited_alive, citing, joins_none, TookBack, TookAll, TakesBack, HasClauseAt}
use Rattle.sr_load.specs.Numbers.{entry_of, has_clause}
use Rattle.sr_load.specs.Tied.{IsClauseIn, part_of}
use Rattle.sr_load.specs.Finding.{number_at, Finds, AreAlike, IsNumber, AliveOrBack}
use Rattle.sr_load.specs.Copies.{Copied, AreLed, IsCopied, AreSameCopies, dropped_copy, IsAttachedCopy, IsFound, AreCopies, CoversFirst, KeepCopies, HasCopy, CitedTests}
use Rattle.sr_load.proofs.Numbering.{by_eq, is_self, is_not, lemma_clauses, next_from, after_append, alive_below, some_clause, in_all, has_number, row_of, all_numbered, found_between}
use Rattle.sr_load.proofs.Tying.{part_here, part_other, same_but, holds_more, holds_old}
use Rattle.sr_load.proofs.Conflicts.{AreOneOf, alive_apart, apart_kept, kept_found, found_kept, are_one_of, lean_numbers, refutes_up}
use Rattle.sr_load.proofs.Alike.{alive_all}
use Rattle.sr_model.specs.Judging.{numbered_from}
use Rattle.sr_load.proofs.Copying.{led_copied, led_same, led_detached, led_reordered}

-- what hangs on the cited numbers and on what is alive alone
pub copies_same : (st st' : LoadedState) (c : Copied) → st'.cited ≡ st.cited → all_in st' ≡ all_in st → alive_in st' ≡ alive_in st → AreCopies st c → AreCopies st' c
copies_same st st' c e f g a = record {
  cited = λ n up some. ap (holds_number n) e ∙ a.cited n up some;
  linked = λ n d some h. a.linked n d some (ap (λ x. clause_of x n) (sym f) ∙ h);
  parts = λ n up some. a.parts n up some ∙ ap (λ x. part_of (has_clause x n) false) (sym g);
  led = a.led;
}

pub covers_same : (st st' : LoadedState) (c : Copied) (k : ℕ) → st'.cited ≡ st.cited → alive_in st' ≡ alive_in st → CoversFirst st c k → CoversFirst st' c k
covers_same st st' c k e g v n h alive = v n (ap (λ x. holds_number n (take k x)) (sym e) ∙ h) (ap (λ x. has_clause x n) (sym g) ∙ alive)

-- one citation more
pub copies_cite : (st : LoadedState) (c : Copied) (id : ℕ) → AreCopies st c → AreCopies (citing st id) c
copies_cite st c id a = record {
  cited = λ n up some. holds_more id n st.cited ∙ left (holds_number n st.cited) (id == n) (a.cited n up some);
  linked = a.linked;
  parts = a.parts;
  led = a.led;
}
  where
    left : (x y : Bool) → x ≡ true → (x || y) ≡ true
    left true y h = refl
    left false y h = absurd cc

pub covers_cite : (st : LoadedState) (c : Copied) (id k : ℕ) → k ≤ length st.cited → CoversFirst st c k → CoversFirst (citing st id) c k
covers_cite st c id k le v n h alive = v n (ap (holds_number n) (sym (take-append-le k st.cited (id ∷ []) le)) ∙ h) alive

-- a call that keeps the state or changes it
pub either : {A E P Q R : Type 0} (r : Result A E) → OnOk r P → OnErr r Q → (P → R) → (Q → R) → R
either (Ok a) p q f g = f p
either (Err e) p q f g = g q

-- lines were taken back
abbrev pub IsBack : LoadedState → LoadedState → Type 0
IsBack old new = (new.cited ≡ old.cited) × (all_in new ≡ all_in old)

pub back_none : (old new : LoadedState) → TookAll old new → IsBack old new
back_none old new t = (
  ap (λ (x : LoadedState). x.cited) t.same,
  ap (λ (x : LoadedState). all_loaded x.formula.clauses (all_lines new)) t.same
      ∙ ap (all_loaded old.formula.clauses) (ap (λ x. x ++ new.undone) t.standing ∙ t.undone),
)

pub back_some : (old new : LoadedState) (id : ℕ) → TookBack old new id → IsBack old new
back_some old new id t = (
  ap (λ (x : LoadedState). x.cited) t.same,
  ap (λ (x : LoadedState). all_loaded x.formula.clauses (all_lines new)) t.same
      ∙ ap (all_loaded old.formula.clauses) (ap (λ x. new.standing ++ x) t.undone ∙ sym (append_assoc new.standing (joined t.stated ∷ t.rest) old.undone) ∙ ap (λ x. x ++ old.undone) (sym t.stood)),
)

none_joined : (ds : List Done) → joins_none ds ≡ true → lemma_clauses ds ≡ []
none_joined [] h = refl
none_joined (joined l ∷ ds) h = absurd cc
none_joined (removed k ∷ ds) h = none_joined ds h
none_joined (passed ∷ ds) h = none_joined ds h

formula_same : (old new : LoadedState) → new ≡ record old { standing = new.standing; undone = new.undone } → new.formula ≡ old.formula
formula_same old new e = ap (λ (x : LoadedState). x.formula) e

pub next_back : (old new : LoadedState) (id : ℕ) → TookBack old new id → ((standing_in new).next ≡ id) × ((standing_in old).next ≡ id + 1)
next_back old new id t =
    let f = old.formula.clauses in
    let same : standing_in new ≡ after_all (at_start f) new.standing = ap (λ x. after_all (at_start x) new.standing) (ap (λ (x : Formula). x.clauses) (formula_same old new t.same)) in
    let now : (after_all (at_start f) new.standing).next ≡ id = ap (λ (x : Standing). x.next) (sym same) ∙ sym t.number in
    let whole : (standing_in old).next ≡ (after_all (after_all (at_start f) new.standing) (joined t.stated ∷ t.rest)).next = ap (λ x. (after_all (at_start f) x).next) t.stood ∙ ap (λ (x : Standing). x.next) (after_append (at_start f) new.standing (joined t.stated ∷ t.rest)) in
    (sym t.number, omega (arith, whole, now, next_from (after_all (at_start f) new.standing) (joined t.stated ∷ t.rest), ap length (none_joined t.rest t.no_lemma)))

pub next_none : (old new : LoadedState) → TookAll old new → (standing_in new).next ≡ (standing_in old).next
next_none old new t =
    let f = old.formula.clauses in
    let one : (standing_in new).next ≡ (after_all (at_start f) new.standing).next = ap (λ x. (after_all (at_start x) new.standing).next) (ap (λ (x : Formula). x.clauses) (formula_same old new t.same)) in
    omega (arith, one, ap (λ x. (after_all (at_start f) x).next) t.standing, next_from (at_start f) old.standing, ap length (none_joined old.standing t.no_lemma))

-- what is cited is alive exactly below the next number
pub cited_below : (st : LoadedState) (n : ℕ) → has_clause (alive_in st) n ≡ true → n < (standing_in st).next
cited_below st n h = let c = some_clause (alive_in st) n h in (alive_below st.formula.clauses st.standing n c.0 c.1).1

pub cited_alike : (old new : LoadedState) (n : ℕ) → AliveOrBack old → AliveOrBack new → new.cited ≡ old.cited → holds_number n old.cited ≡ true → (n < (standing_in new).next → n < (standing_in old).next) → (n < (standing_in old).next → n < (standing_in new).next)
    → has_clause (alive_in new) n ≡ has_clause (alive_in old) n
cited_alike old new n a b e h f g = same_bool (has_clause (alive_in new) n) (has_clause (alive_in old) n)
    (λ t. a n h (f (cited_below new n t)))
    (λ t. b n (ap (holds_number n) e ∙ h) (g (cited_below old n t)))

pub copies_back_none : (old new : LoadedState) (c : Copied) → TookAll old new → AliveOrBack old → AliveOrBack new → AreCopies old c → AreCopies new c
copies_back_none old new c t a b k =
    let s = back_none old new t in let e = next_none old new t in record {
      cited = λ n up some. ap (holds_number n) s.0 ∙ k.cited n up some;
      linked = λ n d some h. k.linked n d some (ap (λ x. clause_of x n) (sym s.1) ∙ h);
      parts = λ n up some. k.parts n up some ∙ ap (λ x. part_of x false) (sym (cited_alike old new n a b s.0 (k.cited n up some) (λ lt. omega (arith, lt, e)) (λ lt. omega (arith, lt, e))));
      led = k.led;
    }

pub covers_back : (old new : LoadedState) (c : Copied) (j : ℕ) → new.cited ≡ old.cited → AliveOrBack old → (standing_in new).next ≤ (standing_in old).next → CoversFirst old c j → CoversFirst new c j
covers_back old new c j e a le v n h alive =
    let before : holds_number n (take j old.cited) ≡ true = ap (λ x. holds_number n (take j x)) (sym e) ∙ h in
    v n before (a n (in_take j old.cited n before) (omega (arith, cited_below new n alive, le)))
  where
    in_take : (j : ℕ) (ns : List ℕ) (n : ℕ) → holds_number n (take j ns) ≡ true → holds_number n ns ≡ true
    in_take zero ns n h = absurd cc
    in_take (suc j) [] n h = absurd cc
    in_take (suc j) (m ∷ ns) n h = by_test (m == n) (λ t. rw t refl) (λ t. rw t (in_take j ns n (rw t at h)))

pub copy_attached : (old new : LoadedState) (c : Copied) (id : ℕ) → 0 < id → TookBack old new id → AliveOrBack old → AreCopies old c → IsAttachedCopy c id
copy_attached old new c id up t a k some =
    let alive : has_clause (alive_in old) id ≡ true = a id (k.cited id up some) (omega (arith, (next_back old new id t).1)) in
    ap (counts All) (k.parts id up some ∙ ap (λ x. part_of x false) alive)

not_alive_next : (st : LoadedState) (n : ℕ) → (standing_in st).next ≡ n → has_clause (alive_in st) n ≡ false
not_alive_next st n e = by_test (has_clause (alive_in st) n) (λ t. let lt = cited_below st n t in absurd (omega arith)) (λ t. t)

copies_of : (old new : LoadedState) (c d : Copied) (id : ℕ) → TookBack old new id → AliveOrBack old → AliveOrBack new → AreCopies old c → d.refs ≡ c.refs
    → ((n : ℕ) (x : List Literal) → entry_of c.refs n ≢ 0 → clause_of (all_in old) n ≡ Some x → IsClauseIn (slot_in d.slots (entry_of c.refs n)) n x)
    → ((n : ℕ) → 0 < n → n ≢ id → entry_of c.refs n ≢ 0 → (slot_in d.slots (entry_of c.refs n)).part ≡ (slot_in c.slots (entry_of c.refs n)).part)
    → (entry_of c.refs id ≢ 0 → (slot_in d.slots (entry_of c.refs id)).part ≡ None) → AreLed d.slots d.refs → AreCopies new d
copies_of old new c d id t a b k e linked others here led =
    let s = back_some old new id t in let x = next_back old new id t in record {
      cited = λ n up some. ap (holds_number n) s.0 ∙ k.cited n up (λ z. some (ap (λ r. entry_of r n) e ∙ z));
      linked = λ n y some h. subst (λ r. IsClauseIn (slot_in d.slots (entry_of r n)) n y) (sym e) (linked n y (λ z. some (ap (λ r. entry_of r n) e ∙ z)) (ap (λ z. clause_of z n) (sym s.1) ∙ h));
      parts = λ n up some. let some' : entry_of c.refs n ≢ 0 = λ z. some (ap (λ r. entry_of r n) e ∙ z) in
          ap (λ r. (slot_in d.slots (entry_of r n)).part) e
          ∙ by_eq n id
          (λ z. subst (λ m. (slot_in d.slots (entry_of c.refs m)).part ≡ part_of (has_clause (alive_in new) m) false) (sym z)
          (here (λ w. some' (ap (entry_of c.refs) z ∙ w)) ∙ ap (λ q. part_of q false) (sym (not_alive_next new id x.0))))
          (λ z. others n up z some' ∙ k.parts n up some' ∙ ap (λ q. part_of q false) (sym (cited_alike old new n a b s.0 (k.cited n up some') (λ lt. omega (arith, lt, x.0, x.1)) (λ lt. omega (arith, lt, x.0, x.1)))));
      led = led;
    }

pub copies_back_some : (old new : LoadedState) (c d : Copied) (id : ℕ) → 0 < id → TookBack old new id → AliveOrBack old → AliveOrBack new → ((n : ℕ) → holds_number n old.cited ≡ true → IsNumber old n) → AreCopies old c → d ≡ dropped_copy c id → AreCopies new d
copies_back_some old new c d id low t a b known k e = by_eq (entry_of c.refs id) 0
    (λ z. let is : d ≡ c = e ∙ rw (is_self (entry_of c.refs id) 0 z) refl in subst (AreCopies new) (sym is)
    (copies_of old new c c id t a b k refl k.linked (λ n up ne some. refl) (λ some. absurd (some z)) k.led))
    (λ z. let is : d ≡ record c { slots = with_part c.slots (entry_of c.refs id) None } = e ∙ rw (is_not (entry_of c.refs id) 0 z) refl in
    let held = k.led.held id low z in
    subst (AreCopies new) (sym is)
    (copies_of old new c (record c { slots = with_part c.slots (entry_of c.refs id) None }) id t a b k refl
    (λ n x some h. let i = k.linked n x some h in let s = same_but c.slots (entry_of c.refs id) (entry_of c.refs n) None held in record { held = s.held ∙ i.held; number = s.number ∙ i.number; set = λ l. ap (has l) s.lits ∙ i.set l; distinct = i.distinct })
    (λ n up ne some. let apart : entry_of c.refs n ≢ entry_of c.refs id = λ w. ne (same_number n id up low some z w) in ap (λ (s : Slot). s.part) (part_other c.slots (entry_of c.refs id) (entry_of c.refs n) None apart))
    (λ some. ap (λ (s : Slot). s.part) (part_here c.slots (entry_of c.refs id) None held))
    (led_detached c.slots c.refs (entry_of c.refs id) None held k.led)))
  where
    clause_for : (n : ℕ) → 0 < n → entry_of c.refs n ≢ 0 → (x : List Literal) × (clause_of (all_in old) n ≡ Some x)
    clause_for n up some = let w = known n (k.cited n up some) in in_all old.formula.clauses (all_lines old) n w.0 w.1

    same_number : (m n : ℕ) → 0 < m → 0 < n → entry_of c.refs m ≢ 0 → entry_of c.refs n ≢ 0 → entry_of c.refs m ≡ entry_of c.refs n → m ≡ n
    same_number m n up vp some some' w =
        let x = clause_for m up some in let y = clause_for n vp some' in
        sym (k.linked m x.0 some x.1).number ∙ ap (λ r. (slot_in c.slots r).number) w ∙ (k.linked n y.0 some' y.1).number

all_low : (st : LoadedState) (n : ℕ) (x : List Literal) → clause_of (all_in st) n ≡ Some x → 0 < n
all_low st n x e =
    let row : clause_of (numbered_from 1 (row_of st.formula.clauses (all_lines st))) n ≡ Some x = ap (λ y. clause_of y n) (sym (all_numbered st.formula.clauses (all_lines st))) ∙ e in
    let r = found_between 1 (row_of st.formula.clauses (all_lines st)) n x row in omega (arith, r.0)

-- the literals of a clause
pub told_distinct : (st : LoadedState) (id : ℕ) (ls : List Literal) → IsNumber st id → HasClauseAt st id ls → NoRepeats ls
told_distinct st id ls n h = let x = in_all st.formula.clauses (all_lines st) id n.0 n.1 in (h x.0 x.1).none_twice_in_other

-- a clause is copied
pub copies_added : (st : LoadedState) (c d : Copied) (id : ℕ) (ls : List Literal) → IsNumber st id → entry_of c.refs id ≡ 0 → holds_number id st.cited ≡ true → has_clause (alive_in st) id ≡ true → HasClauseAt st id ls → IsCopied c d id ls → AreCopies st c → AreCopies st d
copies_added st c d id ls number fresh is_cited alive told i k = record {
  cited = λ n up some. by_eq n id
      (λ z. ap (λ m. holds_number m st.cited) z ∙ is_cited)
      (λ z. k.cited n up (λ w. some (i.entries n up z ∙ w)));
  linked = λ n x some h. by_eq n id
      (λ z. let r = told x (ap (clause_of (all_in st)) (sym z) ∙ h) in
      subst (λ m. IsClauseIn (slot_in d.slots (entry_of d.refs m)) m x) (sym z) (subst (λ r. IsClauseIn (slot_in d.slots r) id x) (sym i.entry) (record {
        held = i.here.held;
        number = i.here.number;
        set = λ l. i.here.set l ∙ sym (r.same_literals l);
        distinct = r.none_twice;
      })))
      (λ z. let up = all_low st n x h in let some' : entry_of c.refs n ≢ 0 = λ w. some (i.entries n up z ∙ w) in
      let o = i.others (entry_of c.refs n) (other n up some') in let was = k.linked n x some' h in
      subst (λ r. IsClauseIn (slot_in d.slots r) n x) (sym (i.entries n up z)) (record { held = o.held ∙ was.held; number = o.number ∙ was.number; set = λ l. o.set l ∙ was.set l; distinct = was.distinct }));
  parts = λ n up some. by_eq n id
      (λ z. subst (λ m. (slot_in d.slots (entry_of d.refs m)).part ≡ part_of (has_clause (alive_in st) m) false) (sym z)
      (ap (λ r. (slot_in d.slots r).part) i.entry ∙ i.here.part ∙ ap (λ a. part_of a false) (sym alive)))
      (λ z. let some' : entry_of c.refs n ≢ 0 = λ w. some (i.entries n up z ∙ w) in
      ap (λ r. (slot_in d.slots r).part) (i.entries n up z) ∙ (i.others (entry_of c.refs n) (other n up some')).part ∙ k.parts n up some');
  led = led_copied c d id ls number.0 fresh k.led i;
}
  where
    other : (n : ℕ) → 0 < n → entry_of c.refs n ≢ 0 → entry_of c.refs n ≢ i.at
    other n up some e = let bad : true ≡ false = sym (k.led.held n up some) ∙ ap (λ x. (slot_in c.slots x).held) e ∙ ap (λ (s : Slot). s.held) i.none in absurd cc

pub keep_added : (c d : Copied) (id : ℕ) (ls : List Literal) → IsCopied c d id ls → KeepCopies c d
keep_added c d id ls i n up some = by_eq n id
    (λ z. λ w. let zero_at : i.at ≡ 0 = sym i.entry ∙ ap (entry_of d.refs) (sym z) ∙ w in let up' = i.some in absurd (omega arith))
    (λ z. λ w. some (sym (i.entries n up z) ∙ w))

pub has_added : (st : LoadedState) (c d : Copied) (id : ℕ) (ls : List Literal) → IsCopied c d id ls → HasCopy st d id
has_added st c d id ls i alive w = let zero_at : i.at ≡ 0 = sym i.entry ∙ w in let up = i.some in absurd (omega arith)

pub copies_kept : (st : LoadedState) (c d : Copied) → AreSameCopies c d → AreCopies st c → AreCopies st d
copies_kept st c d e k = record {
  cited = λ n up some. k.cited n up (λ z. some (e.entries n ∙ z));
  linked = λ n x some h. subst (λ r. IsClauseIn (slot_in d.slots r) n x) (sym (e.entries n)) (subst (λ ss. IsClauseIn (slot_in ss (entry_of c.refs n)) n x) (sym e.slots) (k.linked n x (λ z. some (e.entries n ∙ z)) h));
  parts = λ n up some. ap (λ r. (slot_in d.slots r).part) (e.entries n) ∙ ap (λ ss. (slot_in ss (entry_of c.refs n)).part) e.slots ∙ k.parts n up (λ z. some (e.entries n ∙ z));
  led = led_same c d k.led e;
}

pub keep_same : (c d : Copied) → AreSameCopies c d → KeepCopies c d
keep_same c d e n up some z = some (sym (e.entries n) ∙ z)

pub copies_reordered : (st : LoadedState) (c d : Copied) → d.refs ≡ c.refs → AreReordered c.slots d.slots → AreCopies st c → AreCopies st d
copies_reordered st c d e o k =
    let there : AreCopies st (record { slots = d.slots; refs = c.refs; assumed = d.assumed }) = record {
      cited = k.cited;
      linked = λ n x some h. let i = k.linked n x some h in let r = o.each (entry_of c.refs n) in record { held = r.held ∙ i.held; number = r.number ∙ i.number; set = λ l. r.set l ∙ i.set l; distinct = i.distinct };
      parts = λ n up some. (o.each (entry_of c.refs n)).part ∙ k.parts n up some;
      led = led_reordered c.slots d.slots c.refs o k.led;
    } in
    subst (λ r. AreCopies st (record { slots = d.slots; refs = r; assumed = d.assumed })) (sym e) there

-- one citation more was looked at
pub covers_next : (st : LoadedState) (c d : Copied) (k id : ℕ) → k < length st.cited → id ≡ get_or st.cited k id → ((n : ℕ) → holds_number n st.cited ≡ true → 0 < n) → CoversFirst st c k → KeepCopies c d → HasCopy st d id → CoversFirst st d (k + 1)
covers_next st c d k id lt is low v keep h n there alive =
    let more : take (k + 1) st.cited ≡ take k st.cited ++ id ∷ [] = take_more st.cited k id lt ∙ ap (λ x. take k st.cited ++ x ∷ []) (sym is) in
    by_eq id n
    (λ e. subst (λ m. entry_of d.refs m ≢ 0) e (h (ap (has_clause (alive_in st)) e ∙ alive)))
    (λ z. let before : holds_number n (take k st.cited) ≡ true = sym (holds_old id n (take k st.cited) (λ e. z (sym e))) ∙ ap (holds_number n) (sym more) ∙ there in
    keep n (low n (in_take k st.cited n before)) (v n before alive))
  where
    in_take : (j : ℕ) (ns : List ℕ) (n : ℕ) → holds_number n (take j ns) ≡ true → holds_number n ns ≡ true
    in_take zero ns n h = absurd cc
    in_take (suc j) [] n h = absurd cc
    in_take (suc j) (m ∷ ns) n h = by_test (m == n) (λ t. rw t refl) (λ t. rw t (in_take j ns n (rw t at h)))

pub covers_kept : (st : LoadedState) (c d : Copied) (k : ℕ) → d.refs ≡ c.refs → CoversFirst st c k → CoversFirst st d k
covers_kept st c d k e v n h alive z = v n h alive (ap (λ r. entry_of r n) (sym e) ∙ z)

pub cited_at : (ns : List ℕ) (k id : ℕ) → k < length ns → id ≡ get_or ns k id → holds_number id ns ≡ true
cited_at [] k id lt is = absurd (omega arith)
cited_at (n ∷ ns) zero id lt is = rw (is_self n id (sym is)) refl
cited_at (n ∷ ns) (suc k) id lt is = let r : holds_number id ns ≡ true = cited_at ns k id (omega arith) is in by_test (n == id) (λ t. rw t refl) (λ t. rw t r)

-- the copies are the cited clauses that are alive
part_alive : (a : Bool) → counts All (part_of a false) ≡ true → a ≡ true
part_alive true h = refl
part_alive false h = absurd cc

copies_alike : (st : LoadedState) (c : Copied) → AreCopies st c → CoversFirst st c (length st.cited) → ((r : ℕ) → counts All (slot_in c.slots r).part ≡ true → (slot_in c.slots r).held ≡ true) → AreAlike All c.slots (cited_alive st)
copies_alike st c k v held = record {
  one = λ r h.
      let hr = held r h in let n : ℕ = (slot_in c.slots r).number in
      let leads = k.led.leads r hr in let up = k.led.some r hr in let low = k.led.low r hr in
      let some : entry_of c.refs n ≢ 0 = λ z. let bad : r ≡ 0 = sym leads ∙ z in absurd (omega arith) in
      let alive : has_clause (alive_in st) n ≡ true = part_alive (has_clause (alive_in st) n) (ap (counts All) (sym (k.parts n low some) ∙ ap (λ x. (slot_in c.slots x).part) leads) ∙ h) in
      let x = some_clause (alive_in st) n alive in
      let i = k.linked n x.0 some (alive_all st n x.0 x.1) in
      record {
        clause = x.0;
        found = kept_found (λ m. holds_number m st.cited) (alive_in st) n x.0 (k.cited n low some) x.1;
        set = λ l. ap (λ y. has l (slot_in c.slots y).lits) (sym leads) ∙ i.set l;
        distinct = i.distinct;
      };
  all = λ n x e.
      let f = found_kept (λ m. holds_number m st.cited) (alive_in st) n x e (alive_apart st.formula.clauses st.standing) in
      let up = all_low st n x (alive_all st n x f.1) in
      let some = v n (ap (holds_number n) (take_all (length st.cited) st.cited (omega arith)) ∙ f.0) (ap is_some f.1) in
      let i = k.linked n x some (alive_all st n x f.1) in
      record { at = entry_of c.refs n; of_part = ap (counts All) (k.parts n up some ∙ ap (λ y. part_of y false) (ap is_some f.1)); set = i.set };
}

one_up : (s : State) (st : LoadedState) (hs : List ℕ) → AreOneOf s (cited_alive st) hs → AreOneOf s (alive_in st) hs
one_up s st [] o = tt
one_up s st (h ∷ hs) o =
    let f = found_kept (λ m. holds_number m st.cited) (alive_in st) (number_at s h) o.0.clause o.0.found (alive_apart st.formula.clauses st.standing) in
    (record { clause = o.0.clause; found = f.1; set = o.0.set; distinct = o.0.distinct }, o.1, one_up s st hs o.2)

of_cited : (s : State) (live : Numbered) (hs : List ℕ) (n : ℕ) → AreOneOf s live hs → holds_number n (map (number_at s) hs) ≡ true → holds_number n (numbers live) ≡ true
of_cited s live [] n o h = absurd cc
of_cited s live (k ∷ hs) n o h = by_test (number_at s k == n)
    (λ t. let e : number_at s k ≡ n = grind (arith, nat_tests) in has_number live n ∙ ap (has_clause live) (sym e) ∙ ap is_some o.0.found)
    (λ t. of_cited s live hs n o.2 (rw t at h))

pub cited_tests : (st : LoadedState) (c : Copied) (b : Bool) (ns : List ℕ) → AreCopies st c → CoversFirst st c (length st.cited) → IsFound c.slots st.assumed b ns → CitedTests st b ns
cited_tests st c b ns k v f = go b f.finds
  where
    alike : AreAlike All f.state.slots (cited_alive st)
    alike = subst (λ ss. AreAlike All ss (cited_alive st)) (sym f.slots_are) (copies_alike st c k v (λ r h. ap (λ ss. (slot_in ss r).held) (sym f.slots_are) ∙ f.sound.held r (ap (λ ss. counts All (slot_in ss r).part) f.slots_are ∙ h)))

    go : (b : Bool) → Finds f.state All b ns → CitedTests st b ns
    go false x = λ r. x.0 (refutes_up All f.state.slots (cited_alive st) st.assumed (assumed f.state) (apart_kept (λ n. holds_number n st.cited) (alive_in st) (alive_apart st.formula.clauses st.standing)) alike (λ l h. f.set l ∙ h) r)
    go true x =
        let one = are_one_of f.state (cited_alive st) x.refs f.sound alike x.attached in (
          ap (is_lean (alive_in st) st.assumed) x.numbers ∙ lean_numbers f.state (alive_in st) (assumed f.state) st.assumed x.refs (one_up f.state st x.refs one) f.set x.lean,
          λ n h. of_cited f.state (cited_alive st) x.refs n one (ap (holds_number n) (sym x.numbers) ∙ h),
        )

pub next_some : (st : LoadedState) → 0 < (standing_in st).next
next_some st = omega (arith, next_from (at_start st.formula.clauses) st.standing)

pub took_none : (a b : LoadedState) (o : Option ℕ) → ((n : ℕ) → o ≡ Some n → ⊥) → TakesBack a b o → TookAll a b
took_none a b None n t = t
took_none a b (Some id) n t = absurd (n id refl)

pub no_copy : (b : Bool) (n : ℕ) → b ≡ not (n == 0) → b ≡ false → n ≡ 0
no_copy b n e f = by_eq n 0 (λ z. z) (λ z. let bad : true ≡ false = sym (e ∙ ap not (is_not n 0 z)) ∙ f in absurd cc)

pub dropped_refs : (c : Copied) (n : ℕ) → (dropped_copy c n).refs ≡ c.refs
dropped_refs c n = by_test (entry_of c.refs n == 0) (λ t. rw t refl) (λ t. rw t refl)

pub dropped_assumed : (c : Copied) (n : ℕ) → (dropped_copy c n).assumed ≡ c.assumed
dropped_assumed c n = by_test (entry_of c.refs n == 0) (λ t. rw t refl) (λ t. rw t refl)

-- fewer literals are assumed in the copies
pub copies_undone : (st : LoadedState) (c : Copied) (given : List Literal) → AreCopies st c → AreCopies st (record c { assumed = given })
copies_undone st c given k = copies_kept st c (record c { assumed = given }) (record { slots = refl; entries = λ n. refl }) k

pub covers_kept_up : (st : LoadedState) (c d : Copied) (k : ℕ) → ((n : ℕ) → holds_number n st.cited ≡ true → 0 < n) → KeepCopies c d → CoversFirst st c k → CoversFirst st d k
covers_kept_up st c d k low keep v n h alive = keep n (low n (in_take k st.cited n h)) (v n h alive)
  where
    in_take : (j : ℕ) (ns : List ℕ) (n : ℕ) → holds_number n (take j ns) ≡ true → holds_number n ns ≡ true
    in_take zero ns n h = absurd cc
    in_take (suc j) [] n h = absurd cc
    in_take (suc j) (m ∷ ns) n h = by_test (m == n) (λ t. rw t refl) (λ t. rw t (in_take j ns n (rw t at h)))
