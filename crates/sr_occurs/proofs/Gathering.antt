-- Lemmas on the clauses of which a witness may leave something.
use Rattle.std.proofs.Common.{◌≡◌, ℕ, ◌==◌, Bool, true, false, not, ◌||◌, ◌&&◌, List, [], ◌∷◌, ◌++◌, map, refl, sym, ◌∙◌, ap, subst, arith}
use Rattle.std.specs.List.{list_any}
use Rattle.std.proofs.lemmas.Bool.Decides.{nat_tests}
use Rattle.sr_base.specs.Literal.{Literal, plus, minus, variable, complement, compl, same, has}
use Rattle.sr_base.proofs.Literals.{same_tells, has_append}
use Rattle.sr_model.specs.declared.images.Image.{Image}
use Rattle.sr_model.specs.declared.images.Image.TheVariants.{To}
use Rattle.sr_model.specs.Assignment.{holds_number}
use Rattle.sr_model.specs.Substitution.{Substitution, Witness, substitution, made_true, sent, image, is_image, is_yes, is_touched, is_satisfied, reduction}
use Rattle.sr_model.specs.Chain.{Numbered}
use Rattle.sr_table.specs.Numbers.{KeepsHeld}
use Rattle.sr_occurs.specs.Candidates.{is_left, HoldsLeft, HoldsWith, HoldsEach, sent_literals, moved_literals}
use Rattle.sr_table.proofs.Paging.{by_test}

-- whether a literal becomes false or another literal
abbrev moves : Image → Literal → Bool
moves i l = not (is_image i l) && not (is_yes i)

some_moves : (s : Substitution) (d : List Literal) → is_touched s d ≡ true → list_any (λ l. is_yes (image s l)) d ≡ false → list_any (λ l. moves (image s l) l) d ≡ true
some_moves s [] t n = absurd cc
some_moves s (l ∷ ls) t n = by_test (is_image (image s l) l)
    (λ i. let rest : is_touched s ls ≡ true = grind (arith, t, i) in
    let none : list_any (λ l. is_yes (image s l)) ls ≡ false = grind (arith, n) in
    let r : list_any (λ l. moves (image s l) l) ls ≡ true = some_moves s ls rest none in
    grind (arith, r))
    (λ i. let no : is_yes (image s l) ≡ false = grind (arith, n) in grind (arith, i, no))

left_moves : (s : Substitution) (d : List Literal) → is_left (reduction s d) ≡ true → list_any (λ l. moves (image s l) l) d ≡ true
left_moves s d h = by_test (is_touched s d)
    (λ t. by_test (is_satisfied s d)
    (λ y. let c : false ≡ true = rw (t, y) at h in absurd cc)
    (λ n. some_moves s d t (grind (arith, n))))
    (λ f. let c : false ≡ true = rw f at h in absurd cc)

-- one part of a witness
same_when : (k l : Literal) → k ≡ l → same k l ≡ true
same_when k l e = grind (arith, same_tells k l)

own_stays : (l : Literal) → moves (To l) l ≡ false
own_stays l = let t : same l l ≡ true = same_when l l refl in rw t refl

made_moves : (k : Literal) (s : Substitution) (l : Literal) → moves (image (made_true k ∷ s) l) l ≡ true → (same (complement k) l || moves (image s l) l) ≡ true
made_moves (plus u) s (plus v) h = by_test (u == v)
    (λ t. let c : false ≡ true = rw t at h in absurd cc)
    (λ f. let r : moves (image s (plus v)) (plus v) ≡ true = rw f at h in grind (arith, r))
made_moves (plus u) s (minus v) h = by_test (u == v)
    (λ t. let is : minus u ≡ minus v = ap minus (grind (arith, nat_tests)) in let r : same (minus u) (minus v) ≡ true = same_when (minus u) (minus v) is in grind (arith, r))
    (λ f. let r : moves (image s (minus v)) (minus v) ≡ true = rw f at h in grind (arith, r))
made_moves (minus u) s (plus v) h = by_test (u == v)
    (λ t. let is : plus u ≡ plus v = ap plus (grind (arith, nat_tests)) in let r : same (plus u) (plus v) ≡ true = same_when (plus u) (plus v) is in grind (arith, r))
    (λ f. let r : moves (image s (plus v)) (plus v) ≡ true = rw f at h in grind (arith, r))
made_moves (minus u) s (minus v) h = by_test (u == v)
    (λ t. let c : false ≡ true = rw t at h in absurd cc)
    (λ f. let r : moves (image s (minus v)) (minus v) ≡ true = rw f at h in grind (arith, r))

-- a map that sends a literal to itself moves none, another one at most that literal and its complement
has_both : (k l : Literal) → variable k ≡ variable l → (same k l || same (complement k) l) ≡ true
has_both (plus u) (plus v) e = let r : same (plus u) (plus v) ≡ true = same_when (plus u) (plus v) (ap plus e) in grind (arith, r)
has_both (plus u) (minus v) e = let r : same (minus u) (minus v) ≡ true = same_when (minus u) (minus v) (ap minus e) in grind (arith, r)
has_both (minus u) (plus v) e = let r : same (plus u) (plus v) ≡ true = same_when (plus u) (plus v) (ap plus e) in grind (arith, r)
has_both (minus u) (minus v) e = let r : same (minus u) (minus v) ≡ true = same_when (minus u) (minus v) (ap minus e) in grind (arith, r)

sent_off : (k w l : Literal) (s : Substitution) → (variable k == variable l) ≡ false → image (sent (k, w) ∷ s) l ≡ image s l
sent_off (plus u) w (plus v) s f = rw f refl
sent_off (plus u) w (minus v) s f = rw f refl
sent_off (minus u) w (plus v) s f = rw f refl
sent_off (minus u) w (minus v) s f = rw f refl

-- a map from a literal to itself
sent_own : (k l : Literal) (s : Substitution) → (variable k == variable l) ≡ true → image (sent (k, k) ∷ s) l ≡ To l
sent_own (plus u) (plus v) s t = rw t (let e : u ≡ v = grind (arith, nat_tests) in ap (λ n. To (plus n)) e)
sent_own (plus u) (minus v) s t = rw t (let e : u ≡ v = grind (arith, nat_tests) in ap (λ n. To (minus n)) e)
sent_own (minus u) (plus v) s t = rw t (let e : u ≡ v = grind (arith, nat_tests) in ap (λ n. To (plus n)) e)
sent_own (minus u) (minus v) s t = rw t (let e : u ≡ v = grind (arith, nat_tests) in ap (λ n. To (minus n)) e)

sent_moves : (k w l : Literal) (s : Substitution) → moves (image (sent (k, w) ∷ s) l) l ≡ true → (has l (sent_literals ((k, w) ∷ [])) || moves (image s l) l) ≡ true
sent_moves k w l s h = by_test (variable k == variable l)
    (λ t. by_test (same k w)
    (λ own. let one : w ≡ k = grind (arith, same_tells k w) in
    let is : image (sent (k, w) ∷ s) l ≡ To l = subst (λ x. image (sent (k, x) ∷ s) l ≡ To l) (sym one) (sent_own k l s t) in
    let c : false ≡ true = sym (own_stays l) ∙ ap (λ i. moves i l) (sym is) ∙ h in absurd cc)
    (λ other. let b : (same k l || same (complement k) l) ≡ true = has_both k l (grind (arith, nat_tests)) in rw other (grind (arith, b))))
    (λ f. let r : moves (image s l) l ≡ true = ap (λ i. moves i l) (sym (sent_off k w l s f)) ∙ h in grind (arith, r))

all_made : (ls : List Literal) (s : Substitution) (l : Literal) → moves (image (map made_true ls ++ s) l) l ≡ true → (has l (compl ls) || moves (image s l) l) ≡ true
all_made [] s l h = grind (arith, h)
all_made (k ∷ ls) s l h =
    let one : (same (complement k) l || moves (image (map made_true ls ++ s) l) l) ≡ true = made_moves k (map made_true ls ++ s) l h in
    by_test (moves (image (map made_true ls ++ s) l) l)
    (λ m. let r : (has l (compl ls) || moves (image s l) l) ≡ true = all_made ls s l m in grind (arith, r))
    (λ n. grind (arith, one, n))

all_sent : (ms : List (Literal × Literal)) (l : Literal) → moves (image (map sent ms) l) l ≡ true → has l (sent_literals ms) ≡ true
all_sent [] (plus v) h = let c : false ≡ true = sym (own_stays (plus v)) ∙ h in absurd cc
all_sent [] (minus v) h = let c : false ≡ true = sym (own_stays (minus v)) ∙ h in absurd cc
all_sent ((k, w) ∷ ms) l h =
    let one : (has l (sent_literals ((k, w) ∷ [])) || moves (image (map sent ms) l) l) ≡ true = sent_moves k w l (map sent ms) h in
    by_test (moves (image (map sent ms) l) l)
    (λ m. let r : has l (sent_literals ms) ≡ true = all_sent ms l m in by_test (same k w) (λ t. rw t r) (λ f. rw f (grind (arith, r))))
    (λ n. by_test (same k w)
    (λ t. let c : false ≡ true = sym n ∙ (rw t at one) in absurd cc)
    (λ f. let r : (has l (k ∷ complement k ∷ []) || moves (image (map sent ms) l) l) ≡ true = rw f at one in rw f (grind (arith, r, n))))

moved_has : (w : Witness) (l : Literal) → moves (image (substitution w) l) l ≡ true → has l (moved_literals w) ≡ true
moved_has w l h =
    let split : has l (compl w.assigned ++ sent_literals w.maps) ≡ (has l (compl w.assigned) || has l (sent_literals w.maps)) = has_append l (compl w.assigned) (sent_literals w.maps) in
    let rest : Substitution = map made_true w.assigned ++ map sent w.maps in
    let one : (same (complement w.pivot) l || moves (image rest l) l) ≡ true = made_moves w.pivot rest l h in
    by_test (moves (image rest l) l)
    (λ m. let two : (has l (compl w.assigned) || moves (image (map sent w.maps) l) l) ≡ true = all_made w.assigned (map sent w.maps) l m in
    by_test (moves (image (map sent w.maps) l) l)
    (λ k. let r : has l (sent_literals w.maps) ≡ true = all_sent w.maps l k in grind (arith, split, r))
    (λ n. grind (arith, split, two, n)))
    (λ n. grind (arith, one, n))

-- the clauses that hold one of the literals
each_head : (ls : List Literal) (l : Literal) (ns : List ℕ) (p : ℕ × List Literal) (ps : Numbered) → HoldsEach ls ns (p ∷ ps) → has l ls ≡ true → has l p.1 ≡ true → holds_number p.0 ns ≡ true
each_head [] l ns p ps h m i = absurd cc
each_head (k ∷ ls) l ns p ps h m i = by_test (same k l)
    (λ t. let is : l ≡ k = grind (arith, same_tells k l) in h.0.0 (subst (λ x. has x p.1 ≡ true) is i))
    (λ f. each_head ls l ns p ps h.1 (grind (arith, m, f)) i)

each_tail : (ls : List Literal) (ns : List ℕ) (p : ℕ × List Literal) (ps : Numbered) → HoldsEach ls ns (p ∷ ps) → HoldsEach ls ns ps
each_tail [] ns p ps h = tt
each_tail (k ∷ ls) ns p ps h = (h.0.1, each_tail ls ns p ps h.1)

clause_held : (w : Witness) (ns : List ℕ) (p : ℕ × List Literal) (ps : Numbered) (d : List Literal) → HoldsEach (moved_literals w) ns (p ∷ ps) → ((l : Literal) → has l d ≡ true → has l p.1 ≡ true) → list_any (λ l. moves (image (substitution w) l) l) d ≡ true → holds_number p.0 ns ≡ true
clause_held w ns p ps [] h part m = absurd cc
clause_held w ns p ps (l ∷ ls) h part m = by_test (moves (image (substitution w) l) l)
    (λ t. each_head (moved_literals w) l ns p ps h (moved_has w l t) (part l (let s : same l l ≡ true = same_when l l refl in rw s refl)))
    (λ f. clause_held w ns p ps ls h (λ k i. part k (grind (arith, i))) (grind (arith, m, f)))

pub holds_left : (w : Witness) (ns : List ℕ) (live : Numbered) → HoldsEach (moved_literals w) ns live → HoldsLeft (substitution w) ns live
holds_left w ns [] h = tt
holds_left w ns (p ∷ ps) h = (λ m. clause_held w ns p ps p.1 h (λ l i. i) (left_moves (substitution w) p.1 m), holds_left w ns ps (each_tail (moved_literals w) ns p ps h))

-- more numbers
pub with_more : (l : Literal) (ns ms : List ℕ) (live : Numbered) → KeepsHeld ns ms → HoldsWith l ns live → HoldsWith l ms live
with_more l ns ms [] k h = tt
with_more l ns ms (p ∷ ps) k h = (λ i. k p.0 (h.0 i), with_more l ns ms ps k h.1)

pub each_more : (ls : List Literal) (ns ms : List ℕ) (live : Numbered) → KeepsHeld ns ms → HoldsEach ls ns live → HoldsEach ls ms live
each_more [] ns ms live k h = tt
each_more (l ∷ ls) ns ms live k h = (with_more l ns ms live k h.0, each_more ls ns ms live k h.1)

pub each_append : (xs ys : List Literal) (ns : List ℕ) (live : Numbered) → HoldsEach xs ns live → HoldsEach ys ns live → HoldsEach (xs ++ ys) ns live
each_append [] ys ns live h k = k
each_append (x ∷ xs) ys ns live h k = (h.0, each_append xs ys ns live h.1 k)

pub left_more : (s : Substitution) (ns ms : List ℕ) (live : Numbered) → KeepsHeld ns ms → HoldsLeft s ns live → HoldsLeft s ms live
left_more s ns ms [] k h = tt
left_more s ns ms (p ∷ ps) k h = (λ i. k p.0 (h.0 i), left_more s ns ms ps k h.1)

-- maps one after another
pub sent_append : (ms ks : List (Literal × Literal)) → sent_literals (ms ++ ks) ≡ sent_literals ms ++ sent_literals ks
sent_append [] ks = refl
sent_append (m ∷ ms) ks = by_test (same m.0 m.1)
    (λ t. rw t (sent_append ms ks))
    (λ f. rw f (ap (λ x. m.0 ∷ complement m.0 ∷ x) (sent_append ms ks)))
