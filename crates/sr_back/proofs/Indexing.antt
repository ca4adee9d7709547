-- The lists of cited clauses by literal, over the states of a loaded proof.
use Rattle.std.proofs.Common.{◌≡◌, ℕ, zero, suc, ◌<◌, ◌≤◌, ◌+◌, ◌==◌, true, false, cond, not, ◌||◌, ◌&&◌, List, [], ◌∷◌, ◌++◌, Option, Some, None, refl, sym, ◌∙◌, ap, subst, arith, length, get_or, take, append_assoc}
use Rattle.std.specs.Prelude.{nat_lt, is_some}
use Rattle.std.proofs.lemmas.Bool.Decides.{nat_tests}
use Rattle.sr_base.specs.Literal.{Literal, same, has}
use Rattle.sr_base.proofs.Literals.{same_tells}
use Rattle.sr_model.specs.Assignment.{holds_number}
use Rattle.sr_model.specs.Substitution.{Witness, Substitution, substitution, reduction}
use Rattle.sr_model.specs.Chain.{Numbered, clause_of}
use Rattle.sr_model.proofs.Soundness.{by_test}
use Rattle.sr_model.proofs.Moved.{holds_append}
use Rattle.sr_table.specs.Pages.{Paged, entry}
use Rattle.sr_occurs.specs.Occurring.{under, IsUnder, AreUnder, AreListed, IsTableFor, KeepsFor}
use Rattle.sr_occurs.specs.Candidates.{is_left, HoldsLeft, GathersLeft}
use Rattle.sr_occurs.proofs.Entering.{under_more}
use Rattle.sr_trimming.specs.Reordered.{IsReordered}
use Rattle.sr_trimming.specs.Citing.{AreRising}
use Rattle.sr_trimming.specs.Placing.{numbers}
use Rattle.sr_trimming.specs.Loading.{at_start, after_done, after_all, joined}
use Rattle.sr_trimming.specs.From.{all_loaded}
use Rattle.sr_trimming.proofs.Placed.{rise_again}
use Rattle.sr_load.specs.Loaded.{LoadedState, all_lines, all_in, alive_in, cited_alive, standing_in, next_of, citing, TookBack}
use Rattle.std.proofs.lemmas.List.{take_more}
use Rattle.sr_back.specs.Queued.{Puts}
use Rattle.sr_back.specs.declared.cited.CitedClauses.{CitedClauses}
use Rattle.sr_back.specs.Citing.{with_cited, CitesAll, is_standing, CitedAreAlive, IsIndexed, KeepsIndex, Entered, Dropped, Finds}
use Rattle.sr_back.proofs.Maps.{Within, picked, picked_test, found_number, number_found, found_above}
use Rattle.sr_back.proofs.Standing.{alive_fits, all_rise, after_append, next_grows, next_kept, alive_rises}

-- the alive clauses are of all clauses, and below the next number
pub alive_within : (st : LoadedState) → Within (alive_in st) (all_in st)
alive_within st = (alive_fits st.formula.clauses st.standing st.undone).0

pub alive_low : (st : LoadedState) (n : ℕ) → holds_number n (numbers (alive_in st)) ≡ true → n < (standing_in st).next
alive_low st n h = let f = found_number n (alive_in st) h in (alive_fits st.formula.clauses st.standing st.undone).1 n f.0 f.1

pub alive_positive : (st : LoadedState) (n : ℕ) → holds_number n (numbers (alive_in st)) ≡ true → 0 < n
alive_positive st n h =
    let f = found_number n (alive_in st) h in found_above 0 n (all_in st) f.0 (all_rise st.formula.clauses (all_lines st)) (alive_within st n f.0 f.1)

pub next_within : (st : LoadedState) → (standing_in st).next ≤ next_of st
next_within st =
    let parts : next_of st ≡ (after_all (standing_in st) st.undone).next = ap (λ x. x.next) (after_append (at_start st.formula.clauses) st.standing st.undone) in
    subst (λ n. (standing_in st).next ≤ n) (sym parts) (next_grows (standing_in st) st.undone)

pub alive_high : (st : LoadedState) (n : ℕ) → holds_number n (numbers (alive_in st)) ≡ true → n < next_of st
alive_high st n h = omega (arith, alive_low st n h, next_within st)

-- a cited number that stands has its clause among the cited alive ones
pub standing_found : (st : LoadedState) (n : ℕ) (c : List Literal) → CitedAreAlive st → is_standing st n ≡ true → clause_of (all_in st) n ≡ Some c → clause_of (cited_alive st) n ≡ Some c
standing_found st n c a s f =
    let g = found_number n (alive_in st) (a n s) in
    let same : Some g.0 ≡ Some c = sym (alive_within st n g.0 g.1) ∙ f in
    picked (λ m. holds_number m st.cited) n (alive_in st) c (grind arith) (g.1 ∙ same)

pub found_standing : (st : LoadedState) (n : ℕ) (c : List Literal) → clause_of (cited_alive st) n ≡ Some c → (is_standing st n ≡ true) × (clause_of (all_in st) n ≡ Some c)
found_standing st n c f =
    let t = picked_test (λ m. holds_number m st.cited) n (alive_in st) c f in
    let low : n < (standing_in st).next = alive_low st n (number_found n (alive_in st) c t.1) in
    let cited : holds_number n st.cited ≡ true = t.0 in
    (grind (arith, nat_tests), alive_within st n c t.1)

table_for : (st : LoadedState) (index : CitedClauses) → CitedAreAlive st → IsIndexed st index → IsTableFor index.table (cited_alive st)
table_for st index a i n = at (clause_of (cited_alive st) n) refl ∙ sym (i.told n)
  where
    at : (o : Option (List Literal)) → clause_of (cited_alive st) n ≡ o → is_some (clause_of (cited_alive st) n) ≡ is_standing st n
    at (Some c) e = ap is_some e ∙ sym (found_standing st n c e).0
    at None e = ap is_some e ∙ by_test (is_standing st n)
        (λ s. absurd (let f = found_number n (alive_in st) (a n s) in let g : clause_of (cited_alive st) n ≡ Some f.0 = standing_found st n f.0 a s (alive_within st n f.0 f.1) in let x : None ≡ Some f.0 = sym e ∙ g in cc))
        (λ s. sym s)

-- what stands under the literals of the clause of each number stands under those of all
under_from : (lists : Literal → List ℕ) (k : ℕ) (ps : Numbered) → AreRising k ps → ((n : ℕ) (c : List Literal) → clause_of ps n ≡ Some c → IsUnder lists n c) → AreUnder lists ps
under_from lists k [] r f = tt
under_from lists k (p ∷ ps) r f = (
  f p.0 p.1 (let e : (p.0 == p.0) ≡ true = grind (arith, nat_tests) in rw e refl),
  under_from lists p.0 ps r.1 (λ n c h. f n c (let up = found_above p.0 n ps c r.1 h in let e : (p.0 == n) ≡ false = grind (arith, nat_tests) in rw e h)),
)

under_at : (lists : Literal → List ℕ) (ps : Numbered) (n : ℕ) (c : List Literal) → AreUnder lists ps → clause_of ps n ≡ Some c → IsUnder lists n c
under_at lists [] n c u f = absurd cc
under_at lists (p ∷ ps) n c u f = by_test (p.0 == n)
    (λ e. let is : p.0 ≡ n = grind (arith, nat_tests) in let g : Some p.1 ≡ Some c = rw e at f in let same : p.1 ≡ c = cc in subst (λ m. IsUnder lists m c) is (subst (IsUnder lists p.0) same u.0))
    (λ e. under_at lists ps n c u.1 (rw e at f))

left_at : (s : Substitution) (ns : List ℕ) (ps : Numbered) (n : ℕ) (c : List Literal) → HoldsLeft s ns ps → clause_of ps n ≡ Some c → is_left (reduction s c) ≡ true → holds_number n ns ≡ true
left_at s ns [] n c h f l = absurd cc
left_at s ns (p ∷ ps) n c h f l = by_test (p.0 == n)
    (λ e. let is : p.0 ≡ n = grind (arith, nat_tests) in let g : Some p.1 ≡ Some c = rw e at f in let same : p.1 ≡ c = cc in subst (λ m. holds_number m ns ≡ true) is (h.0 (subst (λ d. is_left (reduction s d) ≡ true) (sym same) l)))
    (λ e. left_at s ns ps n c h.1 (rw e at f) l)

pub cited_rises : (st : LoadedState) → AreRising 0 (cited_alive st)
cited_rises st = rise_again (λ p. holds_number p.0 st.cited) 0 (alive_in st) (alive_rises st.formula.clauses st.standing)

listed : (st : LoadedState) (index : CitedClauses) → IsIndexed st index → index.lists.built ≡ true → AreListed index.lists (cited_alive st)
listed st index i b = record { built = b; under = under_from (under index.lists) 0 (cited_alive st) (cited_rises st) (λ n c f. let g = found_standing st n c f in i.under n c g.0 g.1) }

-- the order of a clause plays no part
under_has : (lists : Literal → List ℕ) (n : ℕ) (d : List Literal) (l : Literal) → IsUnder lists n d → has l d ≡ true → holds_number n (lists l) ≡ true
under_has lists n [] l u h = absurd cc
under_has lists n (k ∷ ks) l u h = by_test (same k l)
    (λ e. let is : k ≡ l = grind (arith, same_tells k l) in subst (λ j. holds_number n (lists j) ≡ true) is u.0)
    (λ e. under_has lists n ks l u.1 (grind arith))

under_each : (lists : Literal → List ℕ) (n : ℕ) (c : List Literal) → ((l : Literal) → has l c ≡ true → holds_number n (lists l) ≡ true) → IsUnder lists n c
under_each lists n [] f = tt
under_each lists n (l ∷ ls) f = (f l (grind (arith, same_tells l l)), under_each lists n ls (λ k h. f k (grind arith)))

pub under_reordered : (lists : Literal → List ℕ) (n : ℕ) (c d : List Literal) → IsReordered c d → IsUnder lists n d → IsUnder lists n c
under_reordered lists n c d r u = under_each lists n c (λ l h. under_has lists n d l u (sym (r.same_literals l) ∙ h))

pub hint_there : (hints : List ℕ) (i : ℕ) → i < length hints → holds_number (get_or hints i 0) hints ≡ true
hint_there [] i h = absurd (omega arith)
hint_there (k ∷ ks) zero h = grind (arith, nat_tests)
hint_there (k ∷ ks) (suc i) h = grind (arith, hint_there ks i (omega arith))

-- lists that were read are as they were
pub still_indexed : (st : LoadedState) (old new : CitedClauses) → CitedAreAlive st → IsIndexed st old → old.lists.built ≡ true → new.table ≡ old.table → KeepsFor old.table old.lists new.lists
    → IsIndexed st new × (new.lists.built ≡ true)
still_indexed st old new a i b t k =
    let l : AreListed new.lists (cited_alive st) = k (cited_alive st) (table_for st old a i) (listed st old i b) in (
      record {
        told = λ n. ap (λ p. not (entry p n == 0)) t ∙ i.told n;
        under = λ n c s f. under_at (under new.lists) (cited_alive st) n c l.under (standing_found st n c a s f);
      },
      l.built,
    )

-- candidates from which the table leads
pub finds : (st : LoadedState) (index : CitedClauses) (w : Witness) (found queue : List ℕ) → CitedAreAlive st → IsIndexed st index → index.lists.built ≡ true → GathersLeft index.table index.lists (substitution w) found
    → ((n : ℕ) → holds_number n queue ≡ true → not (entry index.table n == 0) ≡ true) → ((n : ℕ) → holds_number n found ≡ true → not (entry index.table n == 0) ≡ true → holds_number n queue ≡ true) → Finds st w queue
finds st index w found queue a i b g q r = record {
  standing = λ n h. sym (i.told n) ∙ q n h;
  left = λ n c s f l. r n (left_at (substitution w) found (cited_alive st) n c (g (cited_alive st) (table_for st index a i) (listed st index i b)) (standing_found st n c a s f) l) (i.told n ∙ s);
}

-- one more number is cited, and its clause entered
pub cite_indexed : (st new : LoadedState) (old index : CitedClauses) (id : ℕ) → holds_number id (numbers (alive_in st)) ≡ true → new ≡ citing st id → Entered new old index id → KeepsIndex st old → KeepsIndex new index
cite_indexed st new old index id a e en k b =
    let built : old.lists.built ≡ true = sym en.built ∙ b in
    let i : IsIndexed st old = k built in
    let low : id < (standing_in st).next = alive_low st id a in
    let told : (n : ℕ) → not (entry index.table n == 0) ≡ is_standing (citing st id) n = λ n.
    let s : entry index.table n ≡ cond (id == n) 1 (entry old.table n) = en.told built n in
    by_test (id == n)
    (λ y. let is : id ≡ n = grind (arith, nat_tests) in let one : entry index.table n ≡ 1 = rw y at s in grind (arith, nat_tests, holds_append n st.cited (id ∷ [])))
    (λ y. let same : entry index.table n ≡ entry old.table n = rw y at s in let was : not (entry old.table n == 0) ≡ is_standing st n = i.told n in grind (arith, nat_tests, holds_append n st.cited (id ∷ []))) in
    let all : all_in new ≡ all_in st = ap all_in e in
    let r : IsIndexed (citing st id) index = record {
      told = told;
      under = λ n c s f. by_test (id == n)
          (λ y. let is : id ≡ n = grind (arith, nat_tests) in subst (λ m. IsUnder (under index.lists) m c) is (en.under built c (ap (λ ps. clause_of ps id) all ∙ ap (clause_of (all_in st)) is ∙ f)))
          (λ y. under_more (under old.lists) (under index.lists) n c (en.kept built) (i.under n c (grind (arith, nat_tests, holds_append n st.cited (id ∷ []))) f));
    } in
    subst (λ x. IsIndexed x index) (sym e) r

pub cites_one : (st new : LoadedState) (id : ℕ) → new ≡ citing st id → CitesAll st new (id ∷ [])
cites_one st new id e = record { same = e ∙ ap (with_cited st) (sym (ap (λ x. x.cited) e)); cited = λ n. ap (λ x. holds_number n x.cited) e ∙ holds_append n st.cited (id ∷ []) }

pub cites_known : (st new : LoadedState) (id : ℕ) → holds_number id st.cited ≡ true → new ≡ st → CitesAll st new (id ∷ [])
cites_known st new id h e = record {
  same = e ∙ ap (with_cited st) (sym (ap (λ x. x.cited) e));
  cited = λ n. ap (λ x. holds_number n x.cited) e ∙ by_test (id == n) (λ y. let is : id ≡ n = grind (arith, nat_tests) in let g : holds_number n st.cited ≡ true = subst (λ m. holds_number m st.cited ≡ true) is h in grind (arith, nat_tests)) (λ y. grind (arith, nat_tests));
}

pub cites_then : (st mid new : LoadedState) (is : List ℕ) (id : ℕ) → CitesAll st mid is → CitesAll mid new (id ∷ []) → CitesAll st new (is ++ id ∷ [])
cites_then st mid new is id a b = record {
  same = b.same ∙ ap (λ x. with_cited x new.cited) a.same;
  cited = λ n. b.cited n ∙ ap (λ x. x || holds_number n (id ∷ [])) (a.cited n) ∙ grind (arith, holds_append n is (id ∷ []));
}

pub cites_none : (st : LoadedState) → CitesAll st st []
cites_none st = record { same = refl; cited = λ n. grind arith }

-- the numbers below one are entered
pub record IndexedBelow (st : LoadedState) (index : CitedClauses) (k : ℕ) : Type 0 where
  pub built : index.lists.built ≡ true
  pub told : (n : ℕ) → not (entry index.table n == 0) ≡ (is_standing st n && nat_lt n k)
  pub under : (n : ℕ) (c : List Literal) → (is_standing st n && nat_lt n k) ≡ true → clause_of (all_in st) n ≡ Some c → IsUnder (under index.lists) n c

pub below_first : (st : LoadedState) (index : CitedClauses) (k : ℕ) → CitedAreAlive st → k ≡ 1 → index.lists.built ≡ true → ((n : ℕ) → entry index.table n ≡ 0) → IndexedBelow st index k
below_first st index k a e b z =
    let none : (n : ℕ) → (is_standing st n && nat_lt n k) ≡ false = λ n. by_test (is_standing st n && nat_lt n k)
    (λ y. let s : is_standing st n ≡ true = grind arith in let up : 0 < n = alive_positive st n (a n s) in absurd (grind (arith, nat_tests)))
    (λ y. y) in
    record {
      built = b;
      told = λ n. ap (λ m. not (m == 0)) (z n) ∙ sym (none n);
      under = λ n c s f. absurd (let g : false ≡ true = sym (none n) ∙ s in cc);
    }

pub below_more : (st : LoadedState) (old index : CitedClauses) (k m : ℕ) → IndexedBelow st old k → holds_number k st.cited ≡ true → k < (standing_in st).next → Entered st old index k → m ≡ k + 1 → IndexedBelow st index m
below_more st old index k m i h low en e = record {
  built = en.built ∙ i.built;
  told = λ n.
      let s : entry index.table n ≡ cond (k == n) 1 (entry old.table n) = en.told i.built n in
      by_test (k == n)
      (λ y. let is : k ≡ n = grind (arith, nat_tests) in let cited : holds_number n st.cited ≡ true = subst (λ j. holds_number j st.cited ≡ true) is h in let one : entry index.table n ≡ 1 = rw y at s in grind (arith, nat_tests))
      (λ y. let same : entry index.table n ≡ entry old.table n = rw y at s in let was : not (entry old.table n == 0) ≡ (is_standing st n && nat_lt n k) = i.told n in grind (arith, nat_tests));
  under = λ n c s f. by_test (k == n)
      (λ y. let is : k ≡ n = grind (arith, nat_tests) in subst (λ j. IsUnder (under index.lists) j c) is (en.under i.built c (ap (clause_of (all_in st)) is ∙ f)))
      (λ y. under_more (under old.lists) (under index.lists) n c (en.kept i.built) (i.under n c (grind (arith, nat_tests)) f));
}

pub below_same : (st : LoadedState) (old : CitedClauses) (k m : ℕ) → IndexedBelow st old k → holds_number k st.cited ≡ false → m ≡ k + 1 → IndexedBelow st old m
below_same st old k m i h e =
    let same : (n : ℕ) → (is_standing st n && nat_lt n m) ≡ (is_standing st n && nat_lt n k) = λ n. by_test (k == n)
    (λ y. let is : k ≡ n = grind (arith, nat_tests) in let out : holds_number n st.cited ≡ false = subst (λ j. holds_number j st.cited ≡ false) is h in grind (arith, nat_tests))
    (λ y. grind (arith, nat_tests)) in
    record { built = i.built; told = λ n. i.told n ∙ sym (same n); under = λ n c s f. i.under n c (sym (same n) ∙ s) f }

pub below_all : (st : LoadedState) (index : CitedClauses) (k : ℕ) → IndexedBelow st index k → k ≡ (standing_in st).next → IsIndexed st index
below_all st index k i e =
    let same : (n : ℕ) → (is_standing st n && nat_lt n k) ≡ is_standing st n = λ n. grind (arith, nat_tests) in
    record { told = λ n. i.told n ∙ same n; under = λ n c s f. i.under n c (same n ∙ s) f }

-- all lines stay
pub took_lines : (old new : LoadedState) (id : ℕ) → TookBack old new id → all_lines new ≡ all_lines old
took_lines old new id b = ap (λ x. new.standing ++ x) b.undone ∙ sym (append_assoc new.standing (joined b.stated ∷ b.rest) old.undone) ∙ ap (λ x. x ++ old.undone) (sym b.stood)

pub took_next : (old new : LoadedState) (id : ℕ) → TookBack old new id → (standing_in old).next ≡ id + 1
took_next old new id b =
    let f : new.formula ≡ old.formula = ap (λ x. x.formula) b.same in
    let parts : standing_in old ≡ after_all (after_done (after_all (at_start old.formula.clauses) new.standing) (joined b.stated)) b.rest =
    ap (after_all (at_start old.formula.clauses)) b.stood ∙ after_append (at_start old.formula.clauses) new.standing (joined b.stated ∷ b.rest) in
    ap (λ x. x.next) parts ∙ next_kept (after_done (after_all (at_start old.formula.clauses) new.standing) (joined b.stated)) b.rest b.no_lemma
    ∙ ap (λ n. n + 1) (ap (λ x. (after_all (at_start x.clauses) new.standing).next) (sym f) ∙ sym b.number)

pub took_standing : (old new : LoadedState) (id : ℕ) → TookBack old new id → (n : ℕ) → is_standing new n ≡ (is_standing old n && not (id == n))
took_standing old new id b n =
    let next : (standing_in old).next ≡ id + 1 = took_next old new id b in
    let cited : holds_number n new.cited ≡ holds_number n old.cited = ap (λ x. holds_number n x.cited) b.same in
    grind (arith, nat_tests, b.number)

pub took_indexed : (old new : LoadedState) (id : ℕ) (was index : CitedClauses) → TookBack old new id → Dropped was index id → KeepsIndex old was → KeepsIndex new index
took_indexed old new id was index b d k e =
    let built : was.lists.built ≡ true = ap (λ o. o.built) (sym d.lists) ∙ e in
    let i : IsIndexed old was = k built in
    let all : all_in new ≡ all_in old = ap (λ f. all_loaded f (all_lines new)) (ap (λ x. x.formula.clauses) b.same) ∙ ap (all_loaded old.formula.clauses) (took_lines old new id b) in
    record {
      told = λ n.
          let s : entry index.table n ≡ cond (id == n) 0 (entry was.table n) = d.told built n in
          by_test (id == n)
          (λ y. let zero' : entry index.table n ≡ 0 = rw y at s in ap (λ m. not (m == 0)) zero' ∙ sym (took_standing old new id b n ∙ grind arith))
          (λ y. let same : entry index.table n ≡ entry was.table n = rw y at s in ap (λ m. not (m == 0)) same ∙ i.told n ∙ sym (took_standing old new id b n ∙ grind arith));
      under = λ n c s f. subst (λ o. IsUnder (under o) n c) (sym d.lists) (i.under n c (let t : (is_standing old n && not (id == n)) ≡ true = sym (took_standing old new id b n) ∙ s in grind arith) (ap (λ ps. clause_of ps n) (sym all) ∙ f));
    }

-- one more candidate was looked at
pub led_more : (table : Paged) (old new : List ℕ) (n : ℕ) → Puts old new n → not (entry table n == 0) ≡ true → ((m : ℕ) → holds_number m old ≡ true → not (entry table m == 0) ≡ true) → (m : ℕ) → holds_number m new ≡ true → not (entry table m == 0) ≡ true
led_more table old new n p e f m h = by_test (n == m)
    (λ y. let is : n ≡ m = grind (arith, nat_tests) in subst (λ j. not (entry table j == 0) ≡ true) is e)
    (λ y. f m (let g : holds_number m new ≡ ((n == m) || holds_number m old) = p m in grind arith))

pub put_more : (table : Paged) (found old new : List ℕ) (i n : ℕ) → i < length found → n ≡ get_or found i 0 → Puts old new n → ((m : ℕ) → holds_number m (take i found) ≡ true → not (entry table m == 0) ≡ true → holds_number m old ≡ true)
    → (m : ℕ) → holds_number m (take (i + 1) found) ≡ true → not (entry table m == 0) ≡ true → holds_number m new ≡ true
put_more table found old new i n l e p f m h t =
    let parts : holds_number m (take (i + 1) found) ≡ (holds_number m (take i found) || holds_number m (n ∷ [])) = ap (holds_number m) (take_more found i 0 l ∙ ap (λ j. take i found ++ j ∷ []) (sym e)) ∙ holds_append m (take i found) (n ∷ []) in
    let g : holds_number m new ≡ ((n == m) || holds_number m old) = p m in
    by_test (n == m) (λ y. grind arith) (λ y. let was : holds_number m old ≡ true = f m (grind arith) t in grind arith)

pub put_same : (table : Paged) (found old : List ℕ) (i n : ℕ) → i < length found → n ≡ get_or found i 0 → not (entry table n == 0) ≡ false → ((m : ℕ) → holds_number m (take i found) ≡ true → not (entry table m == 0) ≡ true → holds_number m old ≡ true)
    → (m : ℕ) → holds_number m (take (i + 1) found) ≡ true → not (entry table m == 0) ≡ true → holds_number m old ≡ true
put_same table found old i n l e z f m h t =
    let parts : holds_number m (take (i + 1) found) ≡ (holds_number m (take i found) || holds_number m (n ∷ [])) = ap (holds_number m) (take_more found i 0 l ∙ ap (λ j. take i found ++ j ∷ []) (sym e)) ∙ holds_append m (take i found) (n ∷ []) in
    by_test (n == m)
    (λ y. let is : n ≡ m = grind (arith, nat_tests) in absurd (let x : not (entry table m == 0) ≡ false = subst (λ j. not (entry table j == 0) ≡ false) is z in cc))
    (λ y. f m (grind arith) t)

pub led_none : (table : Paged) (queue : List ℕ) → queue ≡ [] → (n : ℕ) → holds_number n queue ≡ true → not (entry table n == 0) ≡ true
led_none table queue e n h = absurd (let g : false ≡ true = ap (holds_number n) (sym e) ∙ h in cc)

-- what isn't cited is put into a queue
pub new_more : (ids first old new cited : List ℕ) (i : ℕ) → i < length ids → holds_number (get_or ids i 0) cited ≡ false → Puts old new (get_or ids i 0)
    → ((n : ℕ) → holds_number n old ≡ (holds_number n first || (holds_number n (take i ids) && not (holds_number n cited))))
    → (n : ℕ) → holds_number n new ≡ (holds_number n first || (holds_number n (take (i + 1) ids) && not (holds_number n cited)))
new_more ids first old new cited i l out p f n =
    let parts : holds_number n (take (i + 1) ids) ≡ (holds_number n (take i ids) || holds_number n (get_or ids i 0 ∷ [])) = ap (holds_number n) (take_more ids i 0 l) ∙ holds_append n (take i ids) (get_or ids i 0 ∷ []) in
    by_test (get_or ids i 0 == n)
    (λ y.
    let is : get_or ids i 0 ≡ n = grind (arith, nat_tests) in
    let none : holds_number n cited ≡ false = subst (λ m. holds_number m cited ≡ false) is out in
    let g : holds_number n new ≡ ((get_or ids i 0 == n) || holds_number n old) = p n in
    grind (arith, nat_tests))
    (λ y.
    let g : holds_number n new ≡ ((get_or ids i 0 == n) || holds_number n old) = p n in
    let was : holds_number n old ≡ (holds_number n first || (holds_number n (take i ids) && not (holds_number n cited))) = f n in
    grind (arith, nat_tests))

pub new_same : (ids first old cited : List ℕ) (i : ℕ) → i < length ids → holds_number (get_or ids i 0) cited ≡ true
    → ((n : ℕ) → holds_number n old ≡ (holds_number n first || (holds_number n (take i ids) && not (holds_number n cited))))
    → (n : ℕ) → holds_number n old ≡ (holds_number n first || (holds_number n (take (i + 1) ids) && not (holds_number n cited)))
new_same ids first old cited i l there f n =
    let parts : holds_number n (take (i + 1) ids) ≡ (holds_number n (take i ids) || holds_number n (get_or ids i 0 ∷ [])) = ap (holds_number n) (take_more ids i 0 l) ∙ holds_append n (take i ids) (get_or ids i 0 ∷ []) in
    let was : holds_number n old ≡ (holds_number n first || (holds_number n (take i ids) && not (holds_number n cited))) = f n in
    by_test (get_or ids i 0 == n)
    (λ y.
    let is : get_or ids i 0 ≡ n = grind (arith, nat_tests) in
    let also : holds_number n cited ≡ true = subst (λ m. holds_number m cited ≡ true) is there in
    grind (arith, nat_tests))
    (λ y. grind (arith, nat_tests))
