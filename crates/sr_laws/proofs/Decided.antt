-- The parts of a forward test decide the whole.
use Rattle.std.proofs.Common.{◌≡◌, inl, inr, ℕ, ◌+◌, ◌<◌, ◌≤◌, Bool, true, false, List, [], ◌∷◌, ◌++◌, refl, sym, ◌∙◌, subst, arith, length}
use Rattle.sr_base.specs.Literal.{Literal}
use Rattle.sr_model.specs.Refutation.{is_empty}
use Rattle.sr_model.specs.Dsr.{Lemma, Line}
use Rattle.sr_trimming.specs.Loading.{Done, joined, removed, passed, Standing, at_start, after_done, Did, AllDid, InConflict, is_empty_lemma}
use Rattle.sr_laws.specs.Forward.{Answer, conflict, empty_lemma, failed, going, PassesOver, AnswersFrom, each_one, Forwards}
use Rattle.sr_laws.specs.Parts.{Part, covers, asked_in, ForwardsIn, lemmas_of, CoverAll, NotBefore, NoneBefore}
use Rattle.sr_model.proofs.Soundness.{by_test}
use Rattle.sr_laws.proofs.Forwarding.{Ends, GoesOn, choice_true, choice_false, chosen_true, chosen_false, did_once, same_head, same_tail}
use Rattle.sr_laws.proofs.Parted.{in_part}

-- an answer that is no failure at a number or below
abbrev LaterThan : Answer → ℕ → Type 0
LaterThan conflict k = Unit {0}
LaterThan (empty_lemma n) k = Unit {0}
LaterThan (failed n d) k = k < n
LaterThan going k = Unit {0}

later_than : (a : Answer) (j k : ℕ) → j ≤ k → LaterThan a k → LaterThan a j
later_than conflict j k h l = tt
later_than (empty_lemma n) j k h l = tt
later_than (failed n d) j k h l = omega (arith, l)
later_than going j k h l = tt

failed_later : (a : Answer) (j n d : ℕ) → a ≡ failed n d → j < n → LaterThan a j
failed_later a j n d e h = subst (λ x. LaterThan x j) (sym e) h

ended_later : (a : Answer) (j n : ℕ) → a ≡ empty_lemma n → LaterThan a j
ended_later a j n e = subst (λ x. LaterThan x j) (sym e) tt

-- a test from one number on fails there or later
answers_later : (asked : ℕ → Bool) (st : Standing) (ds : List Done) (a : Answer) (j : ℕ) → j < st.next → AnswersFrom asked st ds a → LaterThan a j
answers_later asked st [] conflict j h x = tt
answers_later asked st [] (empty_lemma n) j h x = tt
answers_later asked st [] (failed n d) j h x = absurd x
answers_later asked st [] going j h x = tt
answers_later asked st (joined l ∷ ds) a j h x = by_test (is_empty l.clause)
    (λ e. let q : Ends st ds a = choice_true (Ends st ds a) (GoesOn asked st l ds a) (is_empty l.clause) e x.1 in ended_later a j st.next q.1)
    (λ e. at (choice_false (Ends st ds a) (GoesOn asked st l ds a) (is_empty l.clause) e x.1) (answers_later asked (after_done st (joined l)) ds a j (omega arith)))
  where
    at : GoesOn asked st l ds a → (AnswersFrom asked (after_done st (joined l)) ds a → LaterThan a j) → LaterThan a j
    at (inl y) more = failed_later a j st.next y.against y.answer h
    at (inr y) more = more y.1
answers_later asked st (removed k ∷ ds) a j h x = answers_later asked (after_done st (removed k)) ds a j h x.1
answers_later asked st (passed ∷ ds) a j h x = answers_later asked st ds a j h x.1

-- a part, from the lines that are left
record PartStands (asked : ℕ → Bool) (keep : Bool) (st : Standing) (lines : List Line) (a : Answer) : Type 0 where
  pub taken : List Line
  pub rest : List Line
  pub es : List Done
  pub answer : Answer
  pub split : lines ≡ taken ++ rest
  pub did : AllDid keep st taken es
  pub answers : AnswersFrom asked st es answer
  pub all_taken : answer ≡ going → rest ≡ []
  pub not_before : NotBefore a answer

not_here : (a b : Answer) (n d : ℕ) → NotBefore a b → b ≡ failed n d → LaterThan a n → ⊥
not_here a b n d x e l = at a (subst (λ y. NotBefore a y) e x) l
  where
    at : (a : Answer) → NotBefore a (failed n d) → LaterThan a n → ⊥
    at conflict x l = x
    at (empty_lemma m) x l = x
    at (failed m c) x l = omega (arith, x, l)
    at going x l = x

-- one line more, at which the part that answers goes on: a lemma that is asked for passes
abbrev PassesAt : (ℕ → Bool) → Standing → Done → Type 0
PassesAt asked st (joined l) = asked st.next ≡ true → PassesOver st.alive l
PassesAt asked st (removed k) = Unit {0}
PassesAt asked st passed = Unit {0}

abbrev LaterAt : Standing → Done → Answer → Type 0
LaterAt st (joined l) a = LaterThan a st.next
LaterAt st (removed k) a = Unit {0}
LaterAt st passed a = Unit {0}

abbrev Next : (ℕ → Bool) → Standing → Done → List Done → Answer → Type 0
Next asked st x es b = PassesAt asked st x × AnswersFrom asked (after_done st x) es b

lemma_next : (asked : ℕ → Bool) (st : Standing) (l : Lemma) (es : List Done) (a b : Answer) → LaterThan a st.next → NotBefore a b → GoesOn asked st l es b → Next asked st (joined l) es b
lemma_next asked st l es a b h n (inl y) = absurd (not_here a b st.next y.against n y.answer h)
lemma_next asked st l es a b h n (inr y) = y

line_next : (asked : ℕ → Bool) (st : Standing) (x : Done) (es : List Done) (a b : Answer) → is_empty_lemma x ≡ false → LaterAt st x a → NotBefore a b → AnswersFrom asked st (x ∷ es) b → Next asked st x es b
line_next asked st (joined l) es a b e h n y = lemma_next asked st l es a b h n (choice_false (Ends st es b) (GoesOn asked st l es b) (is_empty l.clause) e y.1)
line_next asked st (removed k) es a b e h n y = (tt, y.1)
line_next asked st passed es a b e h n y = (tt, y.1)

no_line : (asked : ℕ → Bool) (keep : Bool) (st : Standing) (l : Line) (ls rest : List Line) (es : List Done) (b : Answer) → (¬ InConflict st.alive) → l ∷ ls ≡ rest → AllDid keep st [] es → AnswersFrom asked st es b → (b ≡ going → rest ≡ []) → ⊥
no_line asked keep st l ls rest (x ∷ es) b n s d y all = d
no_line asked keep st l ls rest [] conflict n s d y all = n y
no_line asked keep st l ls rest [] (empty_lemma m) n s d y all = y
no_line asked keep st l ls rest [] (failed m e) n s d y all = y
no_line asked keep st l ls rest [] going n s d y all = let bad : l ∷ ls ≡ [] = s ∙ all refl in cc

abbrev Stands : (ℕ → Bool) → Bool → Standing → Done → List Line → Answer → Type 0
Stands asked keep st x ls a = PassesAt asked st x × PartStands asked keep (after_done st x) ls a

part_next : (asked : ℕ → Bool) (keep : Bool) (st : Standing) (l : Line) (ls : List Line) (x : Done) (a : Answer) → (¬ InConflict st.alive) → Did keep st.alive l x → is_empty_lemma x ≡ false → LaterAt st x a
    → PartStands asked keep st (l ∷ ls) a → Stands asked keep st x ls a
part_next asked keep st l ls x a n d e h p = at p.taken p.es p.split p.did p.answers
  where
    at : (taken : List Line) (es : List Done) → l ∷ ls ≡ taken ++ p.rest → AllDid keep st taken es → AnswersFrom asked st es p.answer → Stands asked keep st x ls a
    at [] es s did y = absurd (no_line asked keep st l ls p.rest es p.answer n s did y p.all_taken)
    at (k ∷ ks) [] s did y = absurd did
    at (k ∷ ks) (z ∷ es) s did y =
        let line : l ≡ k = same_head l k ls (ks ++ p.rest) s in
        let same : z ≡ x = did_once keep st.alive k z x did.0 (subst (λ v. Did keep st.alive v x) line d) in
        let next = line_next asked st x es a p.answer e h p.not_before (subst (λ v. AnswersFrom asked st (v ∷ es) p.answer) same y) in (
          next.0,
          record {
            taken = ks;
            rest = p.rest;
            es = es;
            answer = p.answer;
            split = same_tail l k ls (ks ++ p.rest) s;
            did = subst (λ v. AllDid keep (after_done st v) ks es) same did.1;
            answers = next.1;
            all_taken = p.all_taken;
            not_before = p.not_before;
          },
        )

-- all parts
abbrev EachStands : Bool → List (List Literal) → Standing → List Line → Answer → List Part → Type 0
EachStands keep f st lines a [] = Unit {0}
EachStands keep f st lines a (r ∷ rs) = PartStands (asked_in f r) keep st lines a × EachStands keep f st lines a rs

each_next : (keep : Bool) (f : List (List Literal)) (st : Standing) (l : Line) (ls : List Line) (x : Done) (a : Answer) (rs : List Part) → (¬ InConflict st.alive) → Did keep st.alive l x → is_empty_lemma x ≡ false → LaterAt st x a
    → EachStands keep f st (l ∷ ls) a rs → EachStands keep f (after_done st x) ls a rs
each_next keep f st l ls x a [] n d e h p = tt
each_next keep f st l ls x a (r ∷ rs) n d e h p = ((part_next (asked_in f r) keep st l ls x a n d e h p.0).1, each_next keep f st l ls x a rs n d e h p.1)

one_passes : (keep : Bool) (f : List (List Literal)) (st : Standing) (line : Line) (ls : List Line) (l : Lemma) (a : Answer) (rs : List Part) (i : ℕ) → (¬ InConflict st.alive) → Did keep st.alive line (joined l) → is_empty l.clause ≡ false
    → LaterThan a st.next → st.next ≡ length f + i → covers rs i ≡ true → EachStands keep f st (line ∷ ls) a rs → PassesOver st.alive l
one_passes keep f st line ls l a [] i n d e h k c p = absurd cc
one_passes keep f st line ls l a (r ∷ rs) i n d e h k c p = by_test (r i)
    (λ y. (part_next (asked_in f r) keep st line ls (joined l) a n d e h p.0).0 (in_part (length f) i st.next r k y))
    (λ y. one_passes keep f st line ls l a rs i n d e h k (rw y at c) p.1)

-- the answer of one part, where each lemma before is held by a part
abbrev Cover : List Part → ℕ → ℕ → Type 0
Cover rs i count = (j : ℕ) → i ≤ j → j < i + count → covers rs j ≡ true

decided_lemma : (asked : ℕ → Bool) (st : Standing) (l : Lemma) (ds : List Done) (a : Answer) → AnswersFrom asked st (joined l ∷ ds) a
    → (is_empty l.clause ≡ false → (asked st.next ≡ true → PassesOver st.alive l) → AnswersFrom asked (after_done st (joined l)) ds a → PassesOver st.alive l × AnswersFrom each_one (after_done st (joined l)) ds a)
    → AnswersFrom each_one st (joined l ∷ ds) a
decided_lemma asked st l ds a x more = (
  x.0,
  by_test (is_empty l.clause)
      (λ e. chosen_true (Ends st ds a) (GoesOn each_one st l ds a) (is_empty l.clause) e (choice_true (Ends st ds a) (GoesOn asked st l ds a) (is_empty l.clause) e x.1))
      (λ e. chosen_false (Ends st ds a) (GoesOn each_one st l ds a) (is_empty l.clause) e (at e (choice_false (Ends st ds a) (GoesOn asked st l ds a) (is_empty l.clause) e x.1))),
)
  where
    at : is_empty l.clause ≡ false → GoesOn asked st l ds a → GoesOn each_one st l ds a
    at e (inl y) = inl (record { against = y.against; is_asked = refl; failing = y.failing; last = y.last; answer = y.answer })
    at e (inr y) = let r = more e y.0 y.1 in inr ((λ k. r.0), r.1)

none_left : (asked : ℕ → Bool) (st : Standing) (a : Answer) → AnswersFrom asked st [] a → AnswersFrom each_one st [] a
none_left asked st conflict x = x
none_left asked st (empty_lemma n) x = x
none_left asked st (failed n d) x = x
none_left asked st going x = x

decided : (keep : Bool) (f : List (List Literal)) (st : Standing) (r : Part) (rs : List Part) (taken rest : List Line) (ds : List Done) (a : Answer) (i : ℕ) → st.next ≡ length f + i → AllDid keep st taken ds
    → AnswersFrom (asked_in f r) st ds a → Cover (r ∷ rs) i (lemmas_of ds) → EachStands keep f st (taken ++ rest) a rs → AnswersFrom each_one st ds a
decided keep f st r rs [] rest [] a i k d x c p = none_left (asked_in f r) st a x
decided keep f st r rs [] rest (z ∷ ds) a i k d x c p = absurd d
decided keep f st r rs (l ∷ ls) rest [] a i k d x c p = absurd d
decided keep f st r rs (l ∷ ls) rest (removed n ∷ ds) a i k d x c p =
    (x.0, decided keep f (after_done st (removed n)) r rs ls rest ds a i k d.1 x.1 c (each_next keep f st l (ls ++ rest) (removed n) a rs x.0 d.0 refl tt p))
decided keep f st r rs (l ∷ ls) rest (passed ∷ ds) a i k d x c p =
    (x.0, decided keep f st r rs ls rest ds a i k d.1 x.1 c (each_next keep f st l (ls ++ rest) passed a rs x.0 d.0 refl tt p))
decided keep f st r rs (l ∷ ls) rest (joined lem ∷ ds) a i k d x c p = decided_lemma (asked_in f r) st lem ds a x (λ e own more.
    let later : LaterThan a st.next = answers_later (asked_in f r) (after_done st (joined lem)) ds a st.next (omega arith) more in (
      by_test (r i)
          (λ y. own (in_part (length f) i st.next r k y))
          (λ y. let others : covers rs i ≡ true = rw y at (c i (omega arith) (omega arith)) in
          one_passes keep f st l (ls ++ rest) lem a rs i x.0 d.0 e later k others p),
      decided keep f (after_done st (joined lem)) r rs ls rest ds a (i + 1) (omega arith) d.1 more (λ j h g. c j (omega arith) (omega arith))
          (each_next keep f st l (ls ++ rest) (joined lem) a rs x.0 d.0 e later p),
    ))

each_stands : (keep : Bool) (f : List (List Literal)) (proof : List Line) (a : Answer) (rs : List Part) → NoneBefore keep f proof a rs → EachStands keep f (at_start f) proof a rs
each_stands keep f proof a [] n = tt
each_stands keep f proof a (r ∷ rs) n =
    let w = n.0.2 in
    (record { taken = w.taken; rest = w.rest; es = n.0.0; answer = n.0.1; split = w.split; did = w.did; answers = w.answers; all_taken = w.all_taken; not_before = n.0.3 }, each_stands keep f proof a rs n.1)

pub parts_decided : (keep : Bool) (f : List (List Literal)) (proof : List Line) (r : Part) (ds : List Done) (a : Answer) (rs : List Part) → ForwardsIn keep f proof r ds a
    → CoverAll (r ∷ rs) (lemmas_of ds) → NoneBefore keep f proof a rs → Forwards keep f proof ds a
parts_decided keep f proof r ds a rs w c n = record {
  taken = w.taken;
  rest = w.rest;
  split = w.split;
  did = w.did;
  answers = decided keep f (at_start f) r rs w.taken w.rest ds a 1 refl w.did w.answers (λ j h g. c j h (omega arith))
      (subst (λ x. EachStands keep f (at_start f) x a rs) w.split (each_stands keep f proof a rs n));
  all_taken = w.all_taken;
}
