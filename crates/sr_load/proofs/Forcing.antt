-- What is forced, by the entries of a closed list.
use Rattle.std.proofs.Common.{◌≡◌, ◌≢◌, ◌<◌, ◌≤◌, ℕ, Bool, true, false, List, [], ◌∷◌, Option, Some, None, refl, sym, ◌∙◌, ap, subst, arith}
use Rattle.sr_base.specs.Literal.{Literal, plus, minus, variable, complement, same, has, NoRepeats}
use Rattle.sr_base.proofs.Literals.{same_tells}
use Rattle.sr_model.specs.Refutation.{IsClosed, Refutes}
use Rattle.sr_model.specs.Substitution.{has_pair}
use Rattle.sr_model.specs.Chain.{Numbered, clauses}
use Rattle.sr_model.proofs.Chains.{pair_from}
use Rattle.sr_model.proofs.Soundness.{by_test}
use Rattle.sr_watch.specs.declared.parts.Part.TheVariants.{All}
use Rattle.sr_watch.specs.declared.parts.Found.{Found}
use Rattle.sr_watch.specs.declared.parts.Found.TheVariants.{Still, Conflict, Pair}
use Rattle.sr_watch.specs.State.{State, slot_in, clauses_of, assumed, AreWithin, value_in, IsSound}
use Rattle.sr_watch.specs.Meaning.{IsStill, Means, IsLeast}
use Rattle.sr_trimming.specs.Loading.{Forced, IsUnit}
use Rattle.sr_load.specs.declared.records.Told.{Told}
use Rattle.sr_load.specs.Loaded.{LoadedState, alive_in}
use Rattle.sr_load.specs.Tied.{Keeps}
use Rattle.sr_load.specs.Finding.{AreAlike}
use Rattle.sr_load.specs.Units.{unit_with, is_unit_of}
use Rattle.sr_load.proofs.Conflicts.{AreApart, alive_apart, closed_live, closed_in, closed_all, closed_one, closed_same, refutes_down}
use Rattle.sr_load.proofs.Marking.{empty_set}
use Rattle.sr_load.proofs.Alike.{keeps_alike}

variable_same : (l : Literal) → variable (complement l) ≡ variable l
variable_same (plus v) = refl
variable_same (minus v) = refl

-- the value of a literal
pub value_none : (es : List Literal) (l : Literal) (v : ℕ) → AreWithin v es → v < variable l → value_in es l ≡ None
value_none [] l v w lt = refl
value_none (k ∷ es) l v w lt =
    let here : variable k ≤ v = w k (grind (arith, same_tells k k)) in
    let rest : value_in es l ≡ None = value_none es l v (λ j h. w j (grind arith)) lt in
    by_test (same k l)
    (λ t. let e : k ≡ l = grind (arith, same_tells k l) in let bad : variable l ≤ v = subst (λ j. variable j ≤ v) e here in absurd (omega arith))
    (λ t. by_test (same k (complement l))
    (λ u. let e : k ≡ complement l = grind (arith, same_tells k (complement l)) in let bad : variable (complement l) ≤ v = subst (λ j. variable j ≤ v) e here in absurd (omega (arith, variable_same l)))
    (λ u. rw (t, u) rest))

value_true : (es : List Literal) (l : Literal) → value_in es l ≡ Some true → has l es ≡ true
value_true [] l e = absurd cc
value_true (k ∷ es) l e = by_test (same k l)
    (λ t. rw t refl)
    (λ t. by_test (same k (complement l))
    (λ u. let bad : Some false ≡ Some true = rw (t, u) at e in absurd cc)
    (λ u. let r : has l es ≡ true = value_true es l (rw (t, u) at e) in rw t r))

value_false : (es : List Literal) (l : Literal) → value_in es l ≡ Some false → has (complement l) es ≡ true
value_false [] l e = absurd cc
value_false (k ∷ es) l e = by_test (same k l)
    (λ t. let bad : Some true ≡ Some false = rw t at e in absurd cc)
    (λ t. by_test (same k (complement l)) (λ u. rw u refl) (λ u. let r : has (complement l) es ≡ true = value_false es l (rw (t, u) at e) in rw u r))

true_value : (es : List Literal) (l : Literal) → has l es ≡ true → has (complement l) es ≡ false → value_in es l ≡ Some true
true_value [] l h n = absurd cc
true_value (k ∷ es) l h n = by_test (same k l)
    (λ t. rw t refl)
    (λ t. by_test (same k (complement l))
    (λ u. let bad : true ≡ false = rw u at n in absurd cc)
    (λ u. let r : value_in es l ≡ Some true = true_value es l (rw t at h) (rw u at n) in rw (t, u) r))

false_value : (es : List Literal) (l : Literal) → has (complement l) es ≡ true → has l es ≡ false → value_in es l ≡ Some false
false_value [] l h n = absurd cc
false_value (k ∷ es) l h n = by_test (same k l)
    (λ t. let bad : true ≡ false = rw t at n in absurd cc)
    (λ t. by_test (same k (complement l))
    (λ u. rw (t, u) refl)
    (λ u. let r : value_in es l ≡ Some false = false_value es l (rw u at h) (rw t at n) in rw (t, u) r))

-- what the test says
pub record HasUnit (es ls : List Literal) : Type 0 where
  pub literal : Literal
  pub of_clause : has literal ls ≡ true
  pub is_true : has literal es ≡ true
  pub others : (k : Literal) → has k ls ≡ true → k ≢ literal → has (complement k) es ≡ true

head_or : (l k : Literal) (ls : List Literal) → has k (l ∷ ls) ≡ true → same l k ≡ false → has k ls ≡ true
head_or l k ls h t = rw t at h

false_all : (es ls : List Literal) → is_unit_of es true ls ≡ true → (k : Literal) → has k ls ≡ true → has (complement k) es ≡ true
false_all es [] e k h = absurd cc
false_all es (l ∷ ls) e k h = at (value_in es l) refl e (λ x m. false_all es ls x k m)
  where
    at : (o : Option Bool) → value_in es l ≡ o → unit_with true o (λ m. is_unit_of es m ls) ≡ true → (is_unit_of es true ls ≡ true → has k ls ≡ true → has (complement k) es ≡ true) → has (complement k) es ≡ true
    at None v x rest = absurd cc
    at (Some true) v x rest = absurd cc
    at (Some false) v x rest = by_test (same l k)
        (λ t. let is : l ≡ k = grind (arith, same_tells l k) in subst (λ j. has (complement j) es ≡ true) is (value_false es l v))
        (λ t. rest x (head_or l k ls h t))

unit_cons : (es ls : List Literal) (l : Literal) → has (complement l) es ≡ true → HasUnit es ls → HasUnit es (l ∷ ls)
unit_cons es ls l f u = record {
  literal = u.literal;
  of_clause = by_test (same l u.literal) (λ t. rw t refl) (λ t. rw t u.of_clause);
  is_true = u.is_true;
  others = λ k h ne. by_test (same l k)
      (λ t. let is : l ≡ k = grind (arith, same_tells l k) in subst (λ j. has (complement j) es ≡ true) is f)
      (λ t. u.others k (head_or l k ls h t) ne);
}

pub unit_yes : (es ls : List Literal) → is_unit_of es false ls ≡ true → HasUnit es ls
unit_yes es [] e = absurd cc
unit_yes es (l ∷ ls) e = at (value_in es l) refl e (λ x. unit_yes es ls x)
  where
    at : (o : Option Bool) → value_in es l ≡ o → unit_with false o (λ m. is_unit_of es m ls) ≡ true → (is_unit_of es false ls ≡ true → HasUnit es ls) → HasUnit es (l ∷ ls)
    at None v x rest = absurd cc
    at (Some true) v x rest = record {
      literal = l;
      of_clause = grind (arith, same_tells l l);
      is_true = value_true es l v;
      others = λ k h ne. by_test (same l k)
          (λ t. let is : l ≡ k = grind (arith, same_tells l k) in absurd (ne (sym is)))
          (λ t. false_all es ls x k (head_or l k ls h t));
    }
    at (Some false) v x rest = unit_cons es ls l (value_false es l v) (rest x)

no_pair_in : (es : List Literal) (l : Literal) → has_pair es ≡ false → has l es ≡ true → has (complement l) es ≡ true → ⊥
no_pair_in es l n h g = let bad : has_pair es ≡ true = pair_from es (l, h, g) in cc

not_true : (es : List Literal) (k : Literal) → has_pair es ≡ false → has (complement k) es ≡ true → has k es ≡ false
not_true es k n h = by_test (has k es) (λ t. absurd (no_pair_in es k n t h)) (λ t. t)

all_false : (es ls : List Literal) (met : Bool) → has_pair es ≡ false → ((k : Literal) → has k ls ≡ true → has (complement k) es ≡ true) → is_unit_of es met ls ≡ met
all_false es [] met n f = refl
all_false es (l ∷ ls) met n f =
    let h : has (complement l) es ≡ true = f l (grind (arith, same_tells l l)) in
    rw (false_value es l h (not_true es l n h)) (all_false es ls met n (λ k m. f k (by_test (same l k) (λ t. rw t refl) (λ t. rw t m))))

pub unit_only : (es ls : List Literal) → has_pair es ≡ false → NoRepeats ls → HasUnit es ls → is_unit_of es false ls ≡ true
unit_only es [] n d u = let h = u.of_clause in absurd cc
unit_only es (l ∷ ls) n d u = by_test (same l u.literal)
    (λ t. let is : l ≡ u.literal = grind (arith, same_tells l u.literal) in
    let here : has l es ≡ true = subst (λ j. has j es ≡ true) (sym is) u.is_true in
    let open_l : has (complement l) es ≡ false = by_test (has (complement l) es) (λ y. absurd (no_pair_in es l n here y)) (λ y. y) in
    rw (true_value es l here open_l) (all_false es ls true n (λ k h.
    let ne : k ≢ u.literal = λ e. let k_l : k ≡ l = e ∙ sym is in let bad : has l ls ≡ true = subst (λ j. has j ls ≡ true) k_l h in let no : has l ls ≡ false = d.0 in absurd cc in
    u.others k (by_test (same l k) (λ y. rw y refl) (λ y. rw y h)) ne)))
    (λ t. let ne : l ≢ u.literal = grind (arith, same_tells l u.literal) in
    let h : has (complement l) es ≡ true = u.others l (grind (arith, same_tells l l)) ne in
    rw (false_value es l h (not_true es l n h)) (unit_only es ls n d.1 (record {
      literal = u.literal;
      of_clause = head_or l u.literal ls u.of_clause t;
      is_true = u.is_true;
      others = λ k m z. u.others k (by_test (same l k) (λ y. rw y refl) (λ y. rw y m)) z;
    })))

-- an entry is what the alive clauses force
has_forced : (s : State) (live : Numbered) (l : Literal) → AreAlike All s.slots live → IsLeast s → assumed s ≡ [] → has l s.lits ≡ true → Forced (clauses live) l
has_forced s live l alike least none h b cl =
    least b (λ k m. let bad : has k [] ≡ true = subst (λ x. has k x ≡ true) none m in absurd cc)
    (closed_all All s.slots b (λ r c. let w = alike.one r c in closed_same b w.clause (slot_in s.slots r).lits (λ k. sym (w.set k)) (closed_in live b (slot_in s.slots r).number w.clause cl w.found))) l h

forced_has : (s : State) (live : Numbered) (l : Literal) → AreApart live → AreAlike All s.slots live → IsClosed s.lits (clauses_of s All) → Forced (clauses live) l → has l s.lits ≡ true
forced_has s live l apart alike cl f =
    f s.lits (closed_live live s.lits apart (λ n c e. let w = alike.all n c e in closed_same s.lits (slot_in s.slots w.at).lits c w.set (closed_one All s.slots w.at s.lits cl w.of_part)))

still_meant : (s : State) (f : Found) → IsSound s → Means All s f → ¬ Refutes (clauses_of s All) (assumed s) → IsStill All s
still_meant s Still sound m n = m
still_meant s (Conflict at) sound m n = absurd (n (m.refutes sound.attached))
still_meant s (Pair l) sound m n = absurd (n m.refutes)

pub record IsClosedAll (s : State) (live : Numbered) : Type 0 where
  pub still : IsStill All s
  pub none : assumed s ≡ []
  pub alike : AreAlike All s.slots live
  pub apart : AreApart live

pub closed_now : (st : LoadedState) (s : State) (refs : List ℕ) (told : List Told) (flags : List Bool) (marks : List ℕ) (reached : ℕ) (f : Found) → Keeps st s refs told flags marks reached → IsSound s → Means All s f → st.assumed ≡ [] → ¬ Refutes (clauses (alive_in st)) []
    → IsClosedAll s (alive_in st)
closed_now st s refs told flags marks reached f k sound m none open_now =
    let alike = keeps_alike st s refs told flags marks reached All k sound in
    let bare : assumed s ≡ [] = empty_set (assumed s) (λ l. k.entries.set l ∙ ap (has l) none) in
    record {
      still = still_meant s f sound m (λ r. open_now (refutes_down All s.slots (alive_in st) (assumed s) [] alike (λ l h. subst (λ x. has l x ≡ true) bare h) r));
      none = bare;
      alike = alike;
      apart = alive_apart st.formula.clauses st.standing;
    }

pub is_unit_yes : (s : State) (live : Numbered) (ls : List Literal) → IsClosedAll s live → IsLeast s → is_unit_of s.lits false ls ≡ true → IsUnit (clauses live) ls
is_unit_yes s live ls c least h =
    let u = unit_yes s.lits ls h in record {
      literal = u.literal;
      of_clause = u.of_clause;
      forced = has_forced s live u.literal c.alike least c.none u.is_true;
      others = λ k m ne. has_forced s live (complement k) c.alike least c.none (u.others k m ne);
    }

pub is_unit_only : (s : State) (live : Numbered) (ls : List Literal) → IsClosedAll s live → NoRepeats ls → IsUnit (clauses live) ls → is_unit_of s.lits false ls ≡ true
is_unit_only s live ls c d u =
    unit_only s.lits ls c.still.no_pair d (record {
      literal = u.literal;
      of_clause = u.of_clause;
      is_true = forced_has s live u.literal c.apart c.alike c.still.closed u.forced;
      others = λ k m ne. forced_has s live (complement k) c.apart c.alike c.still.closed (u.others k m ne);
    })
