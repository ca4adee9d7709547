-- What is before a place, from it on, and without it; and what places hold.
use Rattle.std.proofs.Common.{◌≡◌, ◌≢◌, ◌⊎◌, inl, inr, ℕ, suc, zero, ◌+◌, ◌<◌, ◌≤◌, Bool, cond, eqb, List, [], ◌∷◌, ◌++◌, length, refl, ap, sym, ◌∙◌, arith, append_assoc, take, drop, set, get_or, map}
use Rattle.std.specs.List.{sum_by, count_by}
use Rattle.std.proofs.lemmas.Bool.{cases_eq, eq-eqb, ne_eqb}
use Rattle.std.proofs.lemmas.List.{length-take, length-drop, length-append, drop-set}
use Rattle.std.proofs.lemmas.List.Sums.{sum_by-cons, sum_by-append}
use Rattle.sr_lists.specs.declared.blocks.Watch.{Watch}
use Rattle.sr_lists.specs.Stacks.{count_on, count_on_all, held_at, held_on, first_of}
use Rattle.sr_lists.specs.Walk.{before, since, without}

pub by_eq : {P : Type 0} (a b : ℕ) → (a ≡ b → P) → (a ≢ b → P) → P
by_eq {P} a b f g = at (cases_eq a b)
  where
    at : (a ≡ b) ⊎ (a ≡ b → ⊥) → P
    at (inl e) = f e
    at (inr n) = g n

-- one step of each definition
pub count_same : (p q : ℕ) (ps : List ℕ) → p ≡ q → count_on p (q ∷ ps) ≡ 1 + count_on p ps
count_same p q ps e = sum_by-cons (λ (x : ℕ). cond (eqb p x) 1 0) q ps ∙ ap (λ (b : Bool). cond b 1 0 + count_on p ps) (eq-eqb p q e)

pub count_other : (p q : ℕ) (ps : List ℕ) → p ≢ q → count_on p (q ∷ ps) ≡ count_on p ps
count_other p q ps ne =
    let e : count_on p (q ∷ ps) ≡ 0 + count_on p ps = sum_by-cons (λ (x : ℕ). cond (eqb p x) 1 0) q ps ∙ ap (λ (b : Bool). cond b 1 0 + count_on p ps) (ne_eqb p q ne) in
    omega (arith, e)

pub count_more : (p q : ℕ) (ps : List ℕ) → count_on p ps ≤ count_on p (q ∷ ps)
count_more p q ps = by_eq p q (λ e. omega (arith, count_same p q ps e)) (λ ne. omega (arith, count_other p q ps ne))

pub before_same : (p q : ℕ) (ps : List ℕ) → p ≡ q → before p (q ∷ ps) ≡ []
before_same p q ps e = ap (λ (b : Bool). cond b [] (q ∷ before p ps)) (eq-eqb p q e)

pub before_other : (p q : ℕ) (ps : List ℕ) → p ≢ q → before p (q ∷ ps) ≡ q ∷ before p ps
before_other p q ps ne = ap (λ (b : Bool). cond b [] (q ∷ before p ps)) (ne_eqb p q ne)

pub since_same : (p q : ℕ) (ps : List ℕ) → p ≡ q → since p (q ∷ ps) ≡ q ∷ ps
since_same p q ps e = ap (λ (b : Bool). cond b (q ∷ ps) (since p ps)) (eq-eqb p q e)

pub since_other : (p q : ℕ) (ps : List ℕ) → p ≢ q → since p (q ∷ ps) ≡ since p ps
since_other p q ps ne = ap (λ (b : Bool). cond b (q ∷ ps) (since p ps)) (ne_eqb p q ne)

pub without_same : (p q : ℕ) (ps : List ℕ) → p ≡ q → without p (q ∷ ps) ≡ ps
without_same p q ps e = ap (λ (b : Bool). cond b ps (q ∷ without p ps)) (eq-eqb p q e)

pub without_other : (p q : ℕ) (ps : List ℕ) → p ≢ q → without p (q ∷ ps) ≡ q ∷ without p ps
without_other p q ps ne = ap (λ (b : Bool). cond b ps (q ∷ without p ps)) (ne_eqb p q ne)

-- both parts of a stack
pub before_since : (p : ℕ) (ps : List ℕ) → before p ps ++ since p ps ≡ ps
before_since p [] = refl
before_since p (q ∷ ps) = by_eq p q
    (λ e. rw (before_same p q ps e, since_same p q ps e) refl)
    (λ ne. rw (before_other p q ps ne, since_other p q ps ne) (ap (λ (x : List ℕ). q ∷ x) (before_since p ps)))

pub count_parts : (q p : ℕ) (ps : List ℕ) → count_on q (before p ps) + count_on q (since p ps) ≡ count_on q ps
count_parts q p ps = sym (sum_by-append (λ (x : ℕ). cond (eqb q x) 1 0) (before p ps) (since p ps)) ∙ ap (count_on q) (before_since p ps)

pub length_parts : (p : ℕ) (ps : List ℕ) → length (before p ps) + length (since p ps) ≡ length ps
length_parts p ps = sym (length-append (before p ps) (since p ps)) ∙ ap length (before_since p ps)

-- a place that isn't there
pub before_none : (p : ℕ) (ps : List ℕ) → count_on p ps ≡ 0 → before p ps ≡ ps
before_none p [] z = refl
before_none p (q ∷ ps) z = by_eq p q
    (λ e. absurd (omega (arith, count_same p q ps e)))
    (λ ne. before_other p q ps ne ∙ ap (λ (x : List ℕ). q ∷ x) (before_none p ps (omega (arith, count_other p q ps ne))))

pub since_none : (p : ℕ) (ps : List ℕ) → count_on p ps ≡ 0 → since p ps ≡ []
since_none p [] z = refl
since_none p (q ∷ ps) z = by_eq p q
    (λ e. absurd (omega (arith, count_same p q ps e)))
    (λ ne. since_other p q ps ne ∙ since_none p ps (omega (arith, count_other p q ps ne)))

pub without_none : (p : ℕ) (ps : List ℕ) → count_on p ps ≡ 0 → without p ps ≡ ps
without_none p [] z = refl
without_none p (q ∷ ps) z = by_eq p q
    (λ e. absurd (omega (arith, count_same p q ps e)))
    (λ ne. without_other p q ps ne ∙ ap (λ (x : List ℕ). q ∷ x) (without_none p ps (omega (arith, count_other p q ps ne))))

pub count_before : (p : ℕ) (ps : List ℕ) → count_on p (before p ps) ≡ 0
count_before p [] = refl
count_before p (q ∷ ps) = by_eq p q
    (λ e. ap (count_on p) (before_same p q ps e))
    (λ ne. ap (count_on p) (before_other p q ps ne) ∙ count_other p q (before p ps) ne ∙ count_before p ps)

-- a place that is there
pub since_begins : (p : ℕ) (ps : List ℕ) → 0 < count_on p ps → since p ps ≡ p ∷ drop 1 (since p ps)
since_begins p [] lt = absurd (omega (arith, lt))
since_begins p (q ∷ ps) lt = by_eq p q
    (λ e. rw (since_same p q ps e) (ap (λ (x : ℕ). x ∷ ps) (sym e)))
    (λ ne. rw (since_other p q ps ne) (since_begins p ps (omega (arith, lt, count_other p q ps ne))))

pub split_before : (p : ℕ) (front rest : List ℕ) → count_on p front ≡ 0 → before p (front ++ p ∷ rest) ≡ front
split_before p [] rest z = before_same p p rest refl
split_before p (q ∷ front) rest z = by_eq p q
    (λ e. absurd (omega (arith, count_same p q front e)))
    (λ ne. before_other p q (front ++ p ∷ rest) ne ∙ ap (λ (x : List ℕ). q ∷ x) (split_before p front rest (omega (arith, count_other p q front ne))))

pub split_since : (p : ℕ) (front rest : List ℕ) → count_on p front ≡ 0 → since p (front ++ p ∷ rest) ≡ p ∷ rest
split_since p [] rest z = since_same p p rest refl
split_since p (q ∷ front) rest z = by_eq p q
    (λ e. absurd (omega (arith, count_same p q front e)))
    (λ ne. since_other p q (front ++ p ∷ rest) ne ∙ split_since p front rest (omega (arith, count_other p q front ne)))

pub without_last : (p : ℕ) (front : List ℕ) → count_on p front ≡ 0 → without p (front ++ p ∷ []) ≡ front
without_last p [] z = without_same p p [] refl
without_last p (q ∷ front) z = by_eq p q
    (λ e. absurd (omega (arith, count_same p q front e)))
    (λ ne. without_other p q (front ++ p ∷ []) ne ∙ ap (λ (x : List ℕ). q ∷ x) (without_last p front (omega (arith, count_other p q front ne))))

pub count_without : (p : ℕ) (ps : List ℕ) → 0 < count_on p ps → count_on p (without p ps) + 1 ≡ count_on p ps
count_without p [] lt = absurd (omega (arith, lt))
count_without p (q ∷ ps) lt = by_eq p q
    (λ e. rw (without_same p q ps e) (omega (arith, count_same p q ps e)))
    (λ ne. rw (without_other p q ps ne) (omega (arith, count_other p q ps ne, count_other p q (without p ps) ne, count_without p ps (omega (arith, lt, count_other p q ps ne)))))

pub count_without_le : (r p : ℕ) (ps : List ℕ) → count_on r (without p ps) ≤ count_on r ps
count_without_le r p [] = omega arith
count_without_le r p (q ∷ ps) = by_eq p q
    (λ e. rw (without_same p q ps e) (count_more r q ps))
    (λ ne. rw (without_other p q ps ne) (by_eq r q
    (λ e. omega (arith, count_same r q ps e, count_same r q (without p ps) e, count_without_le r p ps))
    (λ nr. omega (arith, count_other r q ps nr, count_other r q (without p ps) nr, count_without_le r p ps))))

pub length_without : (p : ℕ) (ps : List ℕ) → 0 < count_on p ps → length (without p ps) + 1 ≡ length ps
length_without p [] lt = absurd (omega (arith, lt))
length_without p (q ∷ ps) lt = by_eq p q
    (λ e. rw (without_same p q ps e) (omega arith))
    (λ ne. rw (without_other p q ps ne) (omega (arith, length_without p ps (omega (arith, lt, count_other p q ps ne)))))

-- what places hold
pub count_held : (t : Watch → Bool) (cells : List Watch) (p : ℕ) (ps : List ℕ) → count_by t (held_on cells (p ∷ ps)) ≡ count_by t (held_at cells p) + count_by t (held_on cells ps)
count_held t cells p ps = sum_by-append (λ (x : Watch). cond (t x) 1 0) (held_at cells p) (held_on cells ps)

pub held_append : (cells : List Watch) (ps qs : List ℕ) → held_on cells (ps ++ qs) ≡ held_on cells ps ++ held_on cells qs
held_append cells [] qs = refl
held_append cells (p ∷ ps) qs = ap (λ (x : List Watch). held_at cells p ++ x) (held_append cells ps qs) ∙ sym (append_assoc (held_at cells p) (held_on cells ps) (held_on cells qs))

pub held_without : (t : Watch → Bool) (cells : List Watch) (p : ℕ) (ps : List ℕ) → 0 < count_on p ps → count_by t (held_on cells ps) ≡ count_by t (held_at cells p) + count_by t (held_on cells (without p ps))
held_without t cells p [] lt = absurd (omega (arith, lt))
held_without t cells p (q ∷ ps) lt = by_eq p q
    (λ e. rw (without_same p q ps e, e) (count_held t cells q ps))
    (λ ne. rw (without_other p q ps ne) (omega (arith, count_held t cells q ps, count_held t cells q (without p ps), held_without t cells p ps (omega (arith, lt, count_other p q ps ne)))))

-- places that hold the same
pub held_agree : (old new : List Watch) (ps : List ℕ) → ((q : ℕ) → 0 < count_on q ps → held_at new q ≡ held_at old q) → held_on new ps ≡ held_on old ps
held_agree old new [] h = refl
held_agree old new (p ∷ ps) h =
    ap (λ (x : List Watch). x ++ held_on new ps) (h p (omega (arith, count_same p p ps refl))) ∙ ap (λ (x : List Watch). held_at old p ++ x) (held_agree old new ps (λ q lt. h q (omega (arith, lt, count_more q p ps))))

pub held_set_same : (cells : List Watch) (p : ℕ) (w : Watch) → p < length cells → held_at (set cells p w) p ≡ w ∷ []
held_set_same cells p w lt = ap (take 1) (drop-set cells p w lt)

pub held_set_other : (cells : List Watch) (p q : ℕ) (w : Watch) → q ≢ p → held_at (set cells p w) q ≡ held_at cells q
held_set_other [] p q w ne = refl
held_set_other (c ∷ cells) zero zero w ne = absurd (ne refl)
held_set_other (c ∷ cells) zero (suc q) w ne = refl
held_set_other (c ∷ cells) (suc p) zero w ne = refl
held_set_other (c ∷ cells) (suc p) (suc q) w ne = held_set_other cells p q w (λ e. ne (ap suc e))

pub held_elsewhere : (cells : List Watch) (p : ℕ) (w : Watch) (ps : List ℕ) → count_on p ps ≡ 0 → held_on (set cells p w) ps ≡ held_on cells ps
held_elsewhere cells p w ps z = held_agree cells (set cells p w) ps (λ q lt. held_set_other cells p q w (λ e. let same : count_on q ps ≡ count_on p ps = ap (λ (x : ℕ). count_on x ps) e in absurd (omega (arith, lt, z, same))))

length_held_at : (cells : List Watch) (p : ℕ) → p < length cells → length (held_at cells p) ≡ 1
length_held_at cells p lt = omega (arith, lt, length-take 1 (drop p cells), length-drop p cells)

pub length_held : (cells : List Watch) (ps : List ℕ) → ((q : ℕ) → 0 < count_on q ps → q < length cells) → length (held_on cells ps) ≡ length ps
length_held cells [] h = refl
length_held cells (p ∷ ps) h =
    omega (arith, length-append (held_at cells p) (held_on cells ps), length_held_at cells p (h p (omega (arith, count_same p p ps refl))), length_held cells ps (λ q lt. h q (omega (arith, lt, count_more q p ps))))

-- on one stack no more than on all, and none on two
pub all_cons : (p : ℕ) (ps : List ℕ) (ss : List (List ℕ)) → count_on_all p (ps ∷ ss) ≡ count_on p ps + count_on_all p ss
all_cons p ps ss = sum_by-cons (λ (x : List ℕ). count_on p x) ps ss

pub count_at : (p : ℕ) (ss : List (List ℕ)) (k : ℕ) → count_on p (get_or ss k []) ≤ count_on_all p ss
count_at p [] k = omega arith
count_at p (ps ∷ ss) zero = omega (arith, all_cons p ps ss)
count_at p (ps ∷ ss) (suc k) = omega (arith, all_cons p ps ss, count_at p ss k)

pub count_two : (p : ℕ) (ss : List (List ℕ)) (k j : ℕ) → k ≢ j → count_on p (get_or ss k []) + count_on p (get_or ss j []) ≤ count_on_all p ss
count_two p [] k j ne = omega arith
count_two p (ps ∷ ss) zero zero ne = absurd (ne refl)
count_two p (ps ∷ ss) zero (suc j) ne = omega (arith, all_cons p ps ss, count_at p ss j)
count_two p (ps ∷ ss) (suc k) zero ne = omega (arith, all_cons p ps ss, count_at p ss k)
count_two p (ps ∷ ss) (suc k) (suc j) ne = omega (arith, all_cons p ps ss, count_two p ss k j (λ e. ne (ap suc e)))

pub sum_held : (cells : List Watch) (ss : List (List ℕ)) → ((q : ℕ) → 0 < count_on_all q ss → q < length cells) → sum_by length (map (held_on cells) ss) ≡ sum_by length ss
sum_held cells [] h = refl
sum_held cells (ps ∷ ss) h =
    omega (arith, sum_by-cons (λ (x : List Watch). length x) (held_on cells ps) (map (held_on cells) ss), sum_by-cons (λ (x : List ℕ). length x) ps ss, length_held cells ps (λ q lt. h q (omega (arith, lt, all_cons q ps ss))), sum_held cells ss (λ q lt. h q (omega (arith, lt, all_cons q ps ss))))

-- a watch that moves into a place on the stack, from the newest
pub moved_lists : (cells : List Watch) (ps : List ℕ) (next hole : ℕ) (w : Watch) → 0 < count_on hole (before next ps) → hole < length cells → count_on hole ps ≤ 1 → held_at cells (first_of ps) ≡ w ∷ [] → (t : Watch → Bool) → count_by t (held_on (set cells hole w) (before next (drop 1 ps))) ≡ count_by t (held_on cells (without hole (before next ps)))
moved_lists cells [] next hole w some within once holds t = absurd (omega (arith, some))
moved_lists cells (n ∷ rest) next hole w some within once holds t = by_eq next n
    (λ e. let z : count_on hole (before next (n ∷ rest)) ≡ 0 = ap (count_on hole) (before_same next n rest e) in absurd (omega (arith, some, z)))
    (λ ne. let b : count_on hole (before next (n ∷ rest)) ≡ count_on hole (n ∷ before next rest) = ap (count_on hole) (before_other next n rest ne) in
    let parts : count_on hole (before next rest) + count_on hole (since next rest) ≡ count_on hole rest = count_parts hole next rest in
    rw (before_other next n rest ne) (by_eq hole n
    (λ e. rw (without_same hole n (before next rest) e) (ap (count_by t) (held_elsewhere cells hole w (before next rest) (omega (arith, once, parts, count_same hole n rest e)))))
    (λ nh. rw (without_other hole n (before next rest) nh)
    (let there : 0 < count_on hole (before next rest) = omega (arith, some, b, count_other hole n (before next rest) nh) in
    let first : count_by t (held_at cells n) ≡ count_by t (w ∷ []) = ap (count_by t) holds in
    let here : count_by t (held_at (set cells hole w) hole) ≡ count_by t (w ∷ []) = ap (count_by t) (held_set_same cells hole w within) in
    let rest_same : count_by t (held_on (set cells hole w) (without hole (before next rest))) ≡ count_by t (held_on cells (without hole (before next rest))) =
    ap (count_by t) (held_elsewhere cells hole w (without hole (before next rest)) (omega (arith, once, parts, count_other hole n rest nh, count_without hole (before next rest) there)))
    in
    omega (arith, first, here, rest_same, held_without t (set cells hole w) hole (before next rest) there, count_held t cells n (without hole (before next rest)))))))

pub moved_ahead : (cells : List Watch) (ps : List ℕ) (next hole : ℕ) (w : Watch) → 0 < count_on hole (before next ps) → count_on hole ps ≤ 1 → held_on (set cells hole w) (since next (drop 1 ps)) ≡ held_on cells (since next ps)
moved_ahead cells [] next hole w some once = refl
moved_ahead cells (n ∷ rest) next hole w some once = by_eq next n
    (λ e. let z : count_on hole (before next (n ∷ rest)) ≡ 0 = ap (count_on hole) (before_same next n rest e) in absurd (omega (arith, some, z)))
    (λ ne. let parts : count_on hole (before next (n ∷ rest)) + count_on hole (since next (n ∷ rest)) ≡ count_on hole (n ∷ rest) = count_parts hole next (n ∷ rest) in
    let a : count_on hole (since next (n ∷ rest)) ≡ count_on hole (since next rest) = ap (count_on hole) (since_other next n rest ne) in
    rw (since_other next n rest ne) (held_elsewhere cells hole w (since next rest) (omega (arith, some, once, parts, a))))

pub moved_there : (ps : List ℕ) (next hole : ℕ) → 0 < count_on hole (before next ps) → 0 < count_on next ps → 0 < count_on next (drop 1 ps)
moved_there [] next hole some there = there
moved_there (n ∷ rest) next hole some there = by_eq next n
    (λ e. let z : count_on hole (before next (n ∷ rest)) ≡ 0 = ap (count_on hole) (before_same next n rest e) in absurd (omega (arith, some, z)))
    (λ ne. omega (arith, there, count_other next n rest ne))

-- one step along a stack
pub step_before : (ps : List ℕ) (p : ℕ) → 0 < count_on p ps → count_on 0 ps ≡ 0 → ((q : ℕ) → count_on q ps ≤ 1) → (before (first_of (drop 1 (since p ps))) ps ≡ before p ps ++ p ∷ []) × (since (first_of (drop 1 (since p ps))) ps ≡ drop 1 (since p ps))
step_before ps p there zero_off once = at (drop 1 (since p ps)) (sym (ap (λ (x : List ℕ). before p ps ++ x) (sym (since_begins p ps there)) ∙ before_since p ps))
  where
    at : (rest : List ℕ) → ps ≡ before p ps ++ p ∷ rest → (before (first_of rest) ps ≡ before p ps ++ p ∷ []) × (since (first_of rest) ps ≡ rest)
    at [] e = (before_none 0 ps zero_off ∙ e, since_none 0 ps zero_off)
    at (r ∷ rest) e =
        let f : List ℕ = before p ps ++ p ∷ [] in
        let split : ps ≡ f ++ r ∷ rest = e ∙ sym (append_assoc (before p ps) (p ∷ []) (r ∷ rest)) in
        let c : count_on r ps ≡ count_on r f + count_on r (r ∷ rest) = ap (count_on r) split ∙ sum_by-append (λ (x : ℕ). cond (eqb r x) 1 0) f (r ∷ rest) in
        let off : count_on r f ≡ 0 = omega (arith, c, once r, count_same r r rest refl) in
        (ap (before r) split ∙ split_before r f rest off, ap (since r) split ∙ split_since r f rest off)
