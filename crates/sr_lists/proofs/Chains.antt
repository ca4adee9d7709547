-- What stacks are in numbers, and what a change of one block leaves of the others.
use Rattle.std.proofs.Common.{◌≡◌, ℕ, suc, zero, ◌+◌, ◌-◌, ◌*◌, ◌/◌, ◌%◌, ◌<◌, ◌≤◌, ◌⊎◌, inl, inr, false, cond, List, [], ◌∷◌, ◌++◌, length, drop, map, refl, ap, sym, ◌∙◌, arith, set, get_or, eq-eqb}
use Rattle.std.specs.Prelude.{nat_eq}
use Rattle.std.proofs.lemmas.Bool.{cases_eq}
use Rattle.std.proofs.lemmas.Bool.Decides.{nat_tests}
use Rattle.std.proofs.lemmas.List.{length-map}
use Rattle.std.proofs.lemmas.List.Sums.{sum_by-cons}
use Rattle.sr_lists.specs.declared.stacks.TheConstants.{PLACES}
use Rattle.sr_lists.specs.Stacks.{first_of, count_on, count_on_all}
use Rattle.sr_lists.specs.Chains.{older_in, chain_in, stacks_in, IsBelow, IsStack, AreStacks, AreFree, blocks_of, blocks_on}

pub by_eq : {C : Type 0} → (a b : ℕ) → (a ≡ b → C) → ((a ≡ b → ⊥) → C) → C
by_eq {C} a b f g = at (cases_eq a b)
  where
    at : (a ≡ b) ⊎ (a ≡ b → ⊥) → C
    at (inl e) = f e
    at (inr z) = g z

-- 1 if two numbers are equal, else 0
abbrev pub one : ℕ → ℕ → ℕ
one p q = cond (nat_eq p q) 1 0

pub one_same : (p q : ℕ) → p ≡ q → one p q ≡ 1
one_same p q e = ap (λ b. cond b 1 0) (eq-eqb p q e)

differs : (p q : ℕ) → (p ≡ q → ⊥) → nat_eq p q ≡ false
differs p q z = grind (arith, nat_tests)

pub one_other : (p q : ℕ) → (p ≡ q → ⊥) → one p q ≡ 0
one_other p q z = ap (λ b. cond b 1 0) (differs p q z)

pub one_most : (p q : ℕ) → one p q ≤ 1
one_most p q = by_eq p q (λ e. omega (arith, one_same p q e)) (λ z. omega (arith, one_other p q z))

pub count_cons : (p q : ℕ) (qs : List ℕ) → count_on p (q ∷ qs) ≡ one p q + count_on p qs
count_cons p q qs = sum_by-cons (λ (x : ℕ). cond (nat_eq p x) 1 0) q qs

pub count_all_cons : (p : ℕ) (ps : List ℕ) (ss : List (List ℕ)) → count_on_all p (ps ∷ ss) ≡ count_on p ps + count_on_all p ss
count_all_cons p ps ss = sum_by-cons (λ (x : List ℕ). count_on p x) ps ss

pub older_is : (below : List ℕ) (p q : ℕ) → IsBelow below p q → older_in below p ≡ q
older_is below p q x = by_eq (p % PLACES) 0
    (λ e. ap (λ b. cond b (get_or below (p / PLACES) 0) (p - 1)) (eq-eqb (p % PLACES) 0 e) ∙ sym (x.first e))
    (λ z. ap (λ b. cond b (get_or below (p / PLACES) 0) (p - 1)) (differs (p % PLACES) 0 z) ∙ sym (x.within (omega arith)))

chain_is : (below : List ℕ) (n : ℕ) (ps : List ℕ) → IsStack below ps → length ps ≤ n → chain_in below n (first_of ps) ≡ ps
unfolding chain_in
chain_is below zero [] s le = refl
chain_is below (suc n) [] s le = refl
chain_is below zero (p ∷ ps) s le = absurd (omega arith)
chain_is below (suc n) (p ∷ ps) s le =
    ap (λ b. cond b [] (p ∷ chain_in below n (older_in below p))) (differs p 0 (λ e. omega (arith, s.0.low)))
    ∙ ap (λ q. p ∷ chain_in below n q) (older_is below p (first_of ps) s.0)
    ∙ ap (λ l. p ∷ l) (chain_is below n ps s.1 (omega arith))

chains_are : (below : List ℕ) (n : ℕ) (ss : List (List ℕ)) → AreStacks below ss → PLACES * blocks_on ss ≤ n → map (chain_in below n) (map first_of ss) ≡ ss
chains_are below n [] a le = refl
chains_are below n (ps ∷ ss) a le =
    let b : blocks_on (ps ∷ ss) ≡ blocks_of ps + blocks_on ss = sum_by-cons (λ (x : List ℕ). blocks_of x) ps ss in
    ap (λ l. l ∷ map (chain_in below n) (map first_of ss)) (chain_is below n ps a.0 (omega arith))
    ∙ ap (λ l. ps ∷ l) (chains_are below n ss a.1 (omega arith))

-- the stacks in the fields are those that are linked
pub stacks_are : (newest below : List ℕ) (ss : List (List ℕ)) → newest ≡ map first_of ss → AreStacks below ss → blocks_on ss ≤ length below → stacks_in below newest ≡ ss
unfolding stacks_in
stacks_are newest below ss e a le = ap (map (chain_in below (length below * PLACES))) e ∙ chains_are below (length below * PLACES) ss a (omega arith)

-- stacks stay where their blocks lead on as before
pub stack_stays : (below below' : List ℕ) (ps : List ℕ) → IsStack below ps → ((b : ℕ) → 0 < count_on (PLACES * b) ps → get_or below' b 0 ≡ get_or below b 0) → IsStack below' ps
stack_stays below below' [] s same = tt
stack_stays below below' (p ∷ ps) s same = (
  record {
    low = s.0.low;
    within = s.0.within;
    first = λ e. s.0.first e ∙ sym (same (p / PLACES) (omega (arith, count_cons (PLACES * (p / PLACES)) p ps, one_same (PLACES * (p / PLACES)) p (omega arith))));
    full = s.0.full;
  },
  stack_stays below below' ps s.1 (λ b lt. same b (omega (arith, count_cons (PLACES * b) p ps))),
)

pub stacks_stay : (below below' : List ℕ) (ss : List (List ℕ)) → AreStacks below ss → ((b : ℕ) → 0 < count_on_all (PLACES * b) ss → get_or below' b 0 ≡ get_or below b 0) → AreStacks below' ss
stacks_stay below below' [] a same = tt
stacks_stay below below' (ps ∷ ss) a same = (
  stack_stays below below' ps a.0 (λ b lt. same b (omega (arith, count_all_cons (PLACES * b) ps ss))),
  stacks_stay below below' ss a.1 (λ b lt. same b (omega (arith, count_all_cons (PLACES * b) ps ss))),
)

pub free_stays : (below below' : List ℕ) (bs : List ℕ) → AreFree below bs → ((b : ℕ) → 0 < count_on b bs → get_or below' b 0 ≡ get_or below b 0) → AreFree below' bs
free_stays below below' [] f same = tt
free_stays below below' (b ∷ bs) f same = (
  f.0,
  same b (omega (arith, count_cons b b bs, one_same b b refl)) ∙ f.1,
  free_stays below below' bs f.2 (λ x lt. same x (omega (arith, count_cons x b bs))),
)

-- one stack of all
pub stack_of : (below : List ℕ) (ss : List (List ℕ)) (k : ℕ) → AreStacks below ss → IsStack below (get_or ss k [])
stack_of below [] k a = tt
stack_of below (ps ∷ ss) zero a = a.0
stack_of below (ps ∷ ss) (suc k) a = stack_of below ss k a.1

pub stacks_set : (below : List ℕ) (ss : List (List ℕ)) (k : ℕ) (ps : List ℕ) → AreStacks below ss → IsStack below ps → AreStacks below (set ss k ps)
stacks_set below [] k ps a s = tt
stacks_set below (qs ∷ ss) zero ps a s = (s, a.1)
stacks_set below (qs ∷ ss) (suc k) ps a s = (a.0, stacks_set below ss k ps a.1 s)

-- the places of a block are filled from its first on
pub count_below : (below : List ℕ) (n : ℕ) (ps : List ℕ) → IsStack below ps → 0 < n → 0 < (n + 1) % PLACES → count_on (n + 1) ps + one n (first_of ps) ≤ count_on n ps
count_below below n [] s up in_block = omega (arith, one_other n 0 (λ e. omega arith))
count_below below n (p ∷ ps) s up in_block =
    let a = count_cons (n + 1) p ps in
    let b = count_cons n p ps in
    let h = count_below below n ps s.1 up in_block in
    by_eq (n + 1) p
    (λ e. let q : first_of ps ≡ p - 1 = s.0.within (omega arith) in
    omega (arith, one_same (n + 1) p e, one_same n (first_of ps) (omega arith), one_other n p (λ z. omega arith)))
    (λ z. omega (arith, one_other (n + 1) p z))

count_in_block : (below : List ℕ) (ps : List ℕ) (b j : ℕ) → IsStack below ps → j < PLACES → 0 < b → count_on (PLACES * b + j) ps ≤ count_on (PLACES * b) ps
count_in_block below ps b zero s lt up = let e : PLACES * b + zero ≡ PLACES * b = omega arith in omega (arith, ap (λ x. count_on x ps) e)
count_in_block below ps b (suc j) s lt up =
    let e : PLACES * b + suc j ≡ PLACES * b + j + 1 = omega arith in
    omega (arith, count_in_block below ps b j s (omega arith) up, count_below below (PLACES * b + j) ps s (omega arith) (omega arith), ap (λ x. count_on x ps) e)

-- all places are above the first block
pub count_first : (below : List ℕ) (ps : List ℕ) (p : ℕ) → IsStack below ps → p < PLACES → count_on p ps ≡ 0
count_first below [] p s lt = refl
count_first below (q ∷ qs) p s lt = omega (arith, count_cons p q qs, one_other p q (λ e. omega (arith, s.0.low)), count_first below qs p s.1 lt)

pub count_block : (below : List ℕ) (ss : List (List ℕ)) (p : ℕ) → AreStacks below ss → count_on_all p ss ≤ count_on_all (PLACES * (p / PLACES)) ss
count_block below [] p a = omega arith
count_block below (ps ∷ ss) p a =
    let x = count_all_cons p ps ss in
    let y = count_all_cons (PLACES * (p / PLACES)) ps ss in
    let h = count_block below ss p a.1 in
    by_eq (p / PLACES) 0
    (λ e. omega (arith, count_first below ps p a.0 (omega arith)))
    (λ z. let c = count_in_block below ps (p / PLACES) (p % PLACES) a.0 (omega arith) (omega arith) in
    let e : PLACES * (p / PLACES) + p % PLACES ≡ p = omega arith in
    omega (arith, ap (λ n. count_on n ps) e))

pub count_all_below : (below : List ℕ) (n : ℕ) (ss : List (List ℕ)) (k : ℕ) → AreStacks below ss → 0 < n → 0 < (n + 1) % PLACES → count_on_all (n + 1) ss + one n (first_of (get_or ss k [])) ≤ count_on_all n ss
count_all_below below n [] k a up in_block = omega (arith, one_other n 0 (λ e. omega arith))
count_all_below below n (ps ∷ ss) zero a up in_block =
    omega (arith, count_all_cons n ps ss, count_all_cons (n + 1) ps ss, count_below below n ps a.0 up in_block, count_all_below below n ss (length ss) a.1 up in_block)
count_all_below below n (ps ∷ ss) (suc k) a up in_block =
    omega (arith, count_all_cons n ps ss, count_all_cons (n + 1) ps ss, count_below below n ps a.0 up in_block, count_all_below below n ss k a.1 up in_block)

-- the blocks of a stack but the first are full
pub stack_fills : (below : List ℕ) (ps : List ℕ) → IsStack below ps → 0 < first_of ps → length ps % PLACES ≡ (first_of ps + 1) % PLACES
stack_fills below [] s up = absurd (omega arith)
stack_fills below (p ∷ []) s up =
    by_eq (p % PLACES) 0 (λ e. omega arith) (λ z. absurd (omega (arith, s.0.low, s.0.within (omega arith))))
stack_fills below (p ∷ q ∷ qs) s up =
    let h = stack_fills below (q ∷ qs) s.1 (omega (arith, s.1.0.low)) in
    by_eq (p % PLACES) 0
    (λ e. let f : q % PLACES ≡ PLACES - 1 = s.0.full e (omega (arith, s.1.0.low)) in omega arith)
    (λ z. let w : q ≡ p - 1 = s.0.within (omega arith) in omega (arith, s.0.low))

pub stack_none : (below : List ℕ) (ps : List ℕ) → IsStack below ps → first_of ps ≡ 0 → length ps ≡ 0
stack_none below [] s e = refl
stack_none below (p ∷ ps) s e = absurd (omega (arith, s.0.low))

pub stacks_count : (newest below : List ℕ) → length (stacks_in below newest) ≡ length newest
unfolding stacks_in
stacks_count newest below = length-map newest (chain_in below (length below * PLACES))

-- the first place of one stack of all
pub first_at : (ss : List (List ℕ)) (k : ℕ) → get_or (map first_of ss) k 0 ≡ first_of (get_or ss k [])
first_at [] k = refl
first_at (ps ∷ ss) zero = refl
first_at (ps ∷ ss) (suc k) = first_at ss k

-- a stack by its first place
pub stack_opens : (ps : List ℕ) → 0 < first_of ps → ps ≡ first_of ps ∷ drop 1 ps
stack_opens [] up = absurd (omega arith)
stack_opens (p ∷ ps) up = refl

pub first_up : (below : List ℕ) (ps : List ℕ) → IsStack below ps → 0 < length ps → PLACES ≤ first_of ps
first_up below [] s up = absurd (omega arith)
first_up below (p ∷ ps) s up = s.0.low

-- the place below one in mid-stack
pub below_in : (below : List ℕ) (front : List ℕ) (p : ℕ) (rest : List ℕ) → IsStack below (front ++ p ∷ rest) → IsBelow below p (first_of rest)
below_in below [] p rest s = s.0
below_in below (q ∷ front) p rest s = below_in below front p rest s.1

pub count_low : (below : List ℕ) (ss : List (List ℕ)) (p : ℕ) → AreStacks below ss → p < PLACES → count_on_all p ss ≡ 0
count_low below [] p a lt = refl
count_low below (ps ∷ ss) p a lt = omega (arith, count_all_cons p ps ss, count_first below ps p a.0 lt, count_low below ss p a.1 lt)
