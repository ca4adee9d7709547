-- A chain is collected from one needed entry to the next.
use Rattle.std.proofs.Common.{◌≡◌, ◌<◌, ◌≤◌, ◌+◌, ◌-◌, ◌⊎◌, inl, inr, ℕ, suc, zero, Bool, true, false, cond, ◌||◌, List, [], ◌∷◌, ◌++◌, refl, sym, ◌∙◌, ap, subst, arith, length, get_or, take}
use Rattle.std.proofs.lemmas.List.{take_more}
use Rattle.sr_base.specs.Literal.{Literal, complement, same, has}
use Rattle.sr_base.proofs.Literals.{same_tells, has_append, complement_twice}
use Rattle.sr_model.specs.Assignment.{holds_number}
use Rattle.sr_model.proofs.Soundness.{by_test}
use Rattle.sr_watch.specs.State.{State, lits_at, lit_at, reason_at, assumed, IsAttached, IsSound}
use Rattle.sr_watch.specs.Lean.{stands_in}
use Rattle.sr_watch.specs.Running.{IsUsed, IsSpare}
use Rattle.sr_watch.specs.Trail.{place_in}
use Rattle.sr_watch.specs.Marks.{marked, AreMarked}
use Rattle.sr_watch.specs.Queued.{NoneBelow, IsLastBelow}
use Rattle.sr_watch.specs.Collecting.{IsCollecting, AreQueued, IsListed, IsLeft, Awaits, KeepsPlaces}
use Rattle.sr_watch.proofs.Entries.{by_eq}
use Rattle.sr_watch.proofs.Clashing.{first_place}
use Rattle.sr_watch.proofs.Leaning.{collect_spare, attached_push, stands_append}
use Rattle.sr_watch.proofs.Marking.{marked_push, at_most}

used_or_spare : (s : State) (i : ℕ) (hs : List ℕ) → IsSpare s i hs ⊎ IsUsed s i hs (reason_at s i)
used_or_spare s i hs = by_eq (reason_at s i) 0
    (λ z. inl (inl z))
    (λ ne. by_test (has (lit_at s i) (assumed s))
    (λ t. inl (inr (inl t)))
    (λ f. by_test (stands_in s (complement (lit_at s i)) hs)
    (λ t. inr (record { reason = refl; derived = ne; not_assumed = f; stands = t }))
    (λ u. inl (inr (inr u)))))

-- spare entries are passed over
collect_gap : (s : State) (at m n : ℕ) (out : List ℕ) → IsSound s → m ≤ n → n ≤ length s.lits → ((i : ℕ) → m ≤ i → i < n → IsSpare s i out) → IsCollecting s at n out → IsCollecting s at m out
collect_gap s at m zero out sound le within f c = let z : 0 ≡ m = omega arith in subst (λ j. IsCollecting s at j out) z c
collect_gap s at m (suc n) out sound le within f c = by_eq m (suc n)
    (λ e. subst (λ j. IsCollecting s at j out) (sym e) c)
    (λ ne. let less : m ≤ n = omega (arith, ne) in collect_gap s at m n out sound less (omega arith) (λ i a b. f i a (omega arith)) (collect_spare s at n out sound (omega arith) (f n less (omega arith)) c))

spare_from : (s : State) (m n : ℕ) (out ps : List ℕ) → AreQueued s n out ps → ((i : ℕ) → i < n → holds_number i ps ≡ true → i < m) → (i : ℕ) → m ≤ i → i < n → IsSpare s i out
spare_from s m n out ps q f i a b = no_use (used_or_spare s i out)
  where
    no_use : IsSpare s i out ⊎ IsUsed s i out (reason_at s i) → IsSpare s i out
    no_use (inl x) = x
    no_use (inr u) = absurd (omega (arith, f i b (q i b u)))

pub collect_next : (s : State) (at n next : ℕ) (out old new : List ℕ) → IsSound s → n ≤ length s.lits → AreQueued s n out old → IsLastBelow n old new next → IsCollecting s at n out → IsCollecting s at (suc next) out
collect_next s at n next out old new sound le q p c = collect_gap s at (suc next) n out sound (omega (arith, p.below)) le (spare_from s (suc next) n out old q (λ i b h. omega (arith, p.greatest i b h))) c

pub collect_rest : (s : State) (at n : ℕ) (out ps : List ℕ) → IsSound s → n ≤ length s.lits → AreQueued s n out ps → NoneBelow n ps → IsCollecting s at n out → IsCollecting s at 0 out
collect_rest s at n out ps sound le q none c = collect_gap s at 0 n out sound (omega arith) le (spare_from s 0 n out ps q (λ i b h. absurd (omega (arith, none i h)))) c

pub listed_next : (s : State) (n next : ℕ) (out : List ℕ) (marks : List Bool) (old new : List ℕ) → IsLastBelow n old new next → IsListed s n out marks old → IsListed s next out marks new
listed_next s n next out marks old new p c = record { attached = c.attached; room = c.room; marked = c.marked; queued = λ i lt u. p.stays i lt ∙ c.queued i (omega (arith, p.below)) u }

-- a literal of the clause more
pub awaits_more : (ls : List Literal) (marks : List Bool) (n : ℕ) (c : List Literal) (i : ℕ) (k : Literal) (old new : List ℕ) → i < length c → k ≡ get_or c i k → KeepsPlaces old new
    → ((l : Literal) → has (complement l) (take i c) ≡ true → Awaits ls marks n old l) → Awaits ls marks n new (complement k) → (l : Literal) → has (complement l) (take (i + 1) c) ≡ true → Awaits ls marks n new l
awaits_more ls marks n c i k old new lt e keeps before now l h = by_test (same k (complement l))
    (λ t. let is : complement k ≡ l = ap complement (let q : k ≡ complement l = grind (arith, same_tells k (complement l)) in q) ∙ complement_twice l in subst (λ j. Awaits ls marks n new j) is now)
    (λ t. let more : take (i + 1) c ≡ take i c ++ k ∷ [] = take_more c i k lt ∙ ap (λ x. take i c ++ x ∷ []) (sym e) in
    let g : has (complement l) (take i c ++ k ∷ []) ≡ true = subst (λ x. has (complement l) x ≡ true) more h in
    let there : has (complement l) (take i c) ≡ true = grind (arith, has_append (complement l) (take i c) (k ∷ [])) in
    λ m a b. keeps (place_in ls l - 1) (before l there m a b))

-- a clause more
queued_push : (s : State) (n r : ℕ) (hs : List ℕ) (marks : List Bool) (old new : List ℕ) → IsSound s → n ≤ length s.lits → AreMarked s hs marks → AreQueued s n hs old → KeepsPlaces old new
    → ((l : Literal) → has (complement l) (lits_at s r) ≡ true → Awaits s.lits marks n new l) → AreQueued s n (hs ++ r ∷ []) new
queued_push s n r hs marks old new sound le m q keeps puts i lt u = by_test (stands_in s (complement (lit_at s i)) hs)
    (λ t. keeps i (q i lt (record { reason = refl; derived = u.derived; not_assumed = u.not_assumed; stands = t })))
    (λ t. let place : place_in s.lits (lit_at s i) ≡ suc i = first_place s.lits i (omega arith) (sound.news i (omega arith) u.derived).not_true in
    let stands : (stands_in s (complement (lit_at s i)) hs || stands_in s (complement (lit_at s i)) (r ∷ [])) ≡ true = sym (stands_append s (complement (lit_at s i)) hs (r ∷ [])) ∙ u.stands in
    let mine : has (complement (lit_at s i)) (lits_at s r) ≡ true = by_test (has (complement (lit_at s i)) (lits_at s r)) (λ y. y) (λ y. let z : false ≡ true = rw (t, y) at stands in absurd cc) in
    let free : marked marks (lit_at s i) ≡ false = m (lit_at s i) ∙ t in
    let p : holds_number (place_in s.lits (lit_at s i) - 1) new ≡ true = puts (lit_at s i) mine free (omega (arith, place)) (omega (arith, place)) in
    let is : place_in s.lits (lit_at s i) - 1 ≡ i = omega (arith, place) in
    subst (λ j. holds_number j new ≡ true) is p)

pub listed_push : (s : State) (n r : ℕ) (hs : List ℕ) (marks more : List Bool) (old new : List ℕ) → IsSound s → IsAttached s r → n ≤ length s.lits → IsListed s n hs marks old → length more ≡ length marks
    → ((l : Literal) → marked more l ≡ cond (has (complement l) (lits_at s r)) true (marked marks l)) → KeepsPlaces old new → ((l : Literal) → has (complement l) (lits_at s r) ≡ true → Awaits s.lits marks n new l)
    → IsListed s n (hs ++ r ∷ []) more new
listed_push s n r hs marks more old new sound a le c size m keeps puts = record {
  attached = attached_push s hs r c.attached a;
  room = omega (arith, c.room, size);
  marked = marked_push s hs r marks more c.marked m;
  queued = queued_push s n r hs marks old new sound le c.marked c.queued keeps puts;
}

pub left_of : (s : State) (n : ℕ) (hs : List ℕ) (marks : List Bool) (ps : List ℕ) → IsListed s n hs marks ps → IsLeft s hs marks
left_of s n hs marks ps c = record { attached = c.attached; room = c.room; marked = at_most s hs marks c.marked }

-- where the literals of the last clause aren't marked yet
pub left_push : (s : State) (n r : ℕ) (hs : List ℕ) (marks : List Bool) (ps : List ℕ) → IsAttached s r → IsListed s n hs marks ps → IsLeft s (hs ++ r ∷ []) marks
left_push s n r hs marks ps a c = record {
  attached = attached_push s hs r c.attached a;
  room = c.room;
  marked = λ l y. let t : stands_in s (complement l) hs ≡ true = sym (c.marked l) ∙ y in stands_append s (complement l) hs (r ∷ []) ∙ rw t refl;
}
