-- What each call does to the blocks of stacks.
use Rattle.std.proofs.Common.{◌≡◌, ℕ, suc, zero, ◌+◌, ◌-◌, ◌*◌, ◌/◌, ◌%◌, ◌<◌, ◌≤◌, List, [], ◌∷◌, ◌++◌, length, map, refl, ap, sym, subst, ◌∙◌, arith, set, get_or, replicate, length-set, get_or-set_same, get_or-set_other}
use Rattle.std.specs.Prelude.{sum_by, min, max}
use Rattle.std.proofs.lemmas.List.{get_or_append_left, get_or_push, length_push}
use Rattle.std.proofs.lemmas.List.Sums.{sum_by-cons, sum_by-set, sum_by-append}
use Rattle.sr_lists.specs.declared.stacks.TheConstants.{PLACES}
use Rattle.sr_lists.specs.Stacks.{first_of, count_on, count_on_all}
use Rattle.sr_lists.specs.Chains.{IsStack, AreStacks, AreBlocks, HaveRoom, HasRoomForBlock, IsLast, grown, blocks_of, blocks_on}
use Rattle.sr_lists.proofs.Chains.{by_eq, one, one_same, one_other, count_cons, stacks_stay, free_stays, stack_of, stacks_set, count_block, count_all_below, stack_fills, stack_none}

-- one stack in the place of another
pub places_set : (ss : List (List ℕ)) (k : ℕ) (ps : List ℕ) → k < length ss → sum_by length (set ss k ps) + length (get_or ss k []) ≡ sum_by length ss + length ps
places_set ss k ps lt = sum_by-set (λ (x : List ℕ). length x) ss k ps [] lt

blocks_set : (ss : List (List ℕ)) (k : ℕ) (ps : List ℕ) → k < length ss → blocks_on (set ss k ps) + blocks_of (get_or ss k []) ≡ blocks_on ss + blocks_of ps
blocks_set ss k ps lt = sum_by-set (λ (x : List ℕ). blocks_of x) ss k ps [] lt

pub count_set : (p : ℕ) (ss : List (List ℕ)) (k : ℕ) (ps : List ℕ) → k < length ss → count_on_all p (set ss k ps) + count_on p (get_or ss k []) ≡ count_on_all p ss + count_on p ps
count_set p ss k ps lt = sum_by-set (λ (x : List ℕ). count_on p x) ss k ps [] lt

-- a place more, and one less
pub count_put : (p q : ℕ) (ss : List (List ℕ)) (k : ℕ) → k < length ss → count_on_all p (set ss k (q ∷ get_or ss k [])) ≡ one p q + count_on_all p ss
count_put p q ss k lt = omega (arith, count_set p ss k (q ∷ get_or ss k []) lt, count_cons p q (get_or ss k []))

count_taken : (p q : ℕ) (qs : List ℕ) (ss : List (List ℕ)) (k : ℕ) → k < length ss → get_or ss k [] ≡ q ∷ qs → count_on_all p (set ss k qs) + one p q ≡ count_on_all p ss
count_taken p q qs ss k lt e = omega (arith, count_set p ss k qs lt, count_cons p q qs, ap (count_on p) e)

blocks_same : (ss : List (List ℕ)) (k q : ℕ) → k < length ss → 0 < length (get_or ss k []) % PLACES → blocks_on (set ss k (q ∷ get_or ss k [])) ≡ blocks_on ss
blocks_same ss k q lt some = omega (arith, blocks_set ss k (q ∷ get_or ss k []) lt)

pub blocks_more : (ss : List (List ℕ)) (k q : ℕ) → k < length ss → length (get_or ss k []) % PLACES ≡ 0 → blocks_on (set ss k (q ∷ get_or ss k [])) ≡ blocks_on ss + 1
blocks_more ss k q lt none = omega (arith, blocks_set ss k (q ∷ get_or ss k []) lt)

-- a place on a stack is on all
pub first_counts : (ss : List (List ℕ)) (k p : ℕ) → k < length ss → 0 < p → p ≡ first_of (get_or ss k []) → 0 < count_on_all p ss
first_counts ss k p lt up e = at (get_or ss k []) refl e
  where
    at : (ps : List ℕ) → get_or ss k [] ≡ ps → p ≡ first_of ps → 0 < count_on_all p ss
    at [] is f = absurd (omega arith)
    at (q ∷ qs) is f = omega (arith, count_taken p q qs ss k lt is, one_same p q f)

-- all of a stack that ends with a full block
pub full_stack : (below : List ℕ) (ss : List (List ℕ)) (k : ℕ) → AreStacks below ss → IsLast (first_of (get_or ss k [])) → length (get_or ss k []) % PLACES ≡ 0
full_stack below ss k a last =
    by_eq (first_of (get_or ss k [])) 0
    (λ e. omega (arith, stack_none below (get_or ss k []) (stack_of below ss k a) e))
    (λ z. let e = last (omega arith) in omega (arith, stack_fills below (get_or ss k []) (stack_of below ss k a) (omega arith), e))

-- the next place in a block
pub unused_next : (below : List ℕ) (ss : List (List ℕ)) (bs : List ℕ) (k n : ℕ) → AreBlocks below ss bs → n ≡ first_of (get_or ss k []) → 0 < n → n % PLACES < PLACES - 1 → count_on_all (n + 1) ss ≡ 0
unused_next below ss bs k n b e up lt =
    omega (arith, count_all_below below n ss k b.stacks up (omega arith), one_same n (first_of (get_or ss k [])) e, count_block below ss n b.stacks, b.once (n / PLACES))

-- a place more in the newest block of a stack
pub blocks_put : (below : List ℕ) (ss : List (List ℕ)) (bs : List ℕ) (k n : ℕ) → AreBlocks below ss bs → k < length ss → n ≡ first_of (get_or ss k []) → 0 < n → n % PLACES < PLACES - 1 → AreBlocks below (set ss k ((n + 1) ∷ get_or ss k [])) bs
blocks_put below ss bs k n b lt e up in_block =
    let s = stack_of below ss k b.stacks in
    let fills = stack_fills below (get_or ss k []) s (omega (arith, e)) in
    let same = blocks_same ss k (n + 1) lt (omega (arith, fills, e)) in
    let low : PLACES ≤ n = low_of (get_or ss k []) s e in
    let counts : (x : ℕ) → count_on_all (PLACES * x) (set ss k ((n + 1) ∷ get_or ss k [])) ≡ count_on_all (PLACES * x) ss = λ x. omega (arith, count_put (PLACES * x) (n + 1) ss k lt, one_other (PLACES * x) (n + 1) (λ z. omega arith)) in
    record {
      stacks = stacks_set below ss k ((n + 1) ∷ get_or ss k []) b.stacks (
        record {
          low = omega arith;
          within = λ h. omega (arith, e);
          first = λ h. absurd (omega arith);
          full = λ h. absurd (omega arith);
        },
        s,
      );
      frees = b.frees;
      once = λ x. omega (arith, counts x, b.once x);
      within = λ x h. b.within x (omega (arith, counts x));
      most = omega (arith, same, b.most);
      least = omega (arith, same, b.least);
    }
  where
    low_of : (ps : List ℕ) → IsStack below ps → n ≡ first_of ps → PLACES ≤ n
    low_of [] s f = absurd (omega arith)
    low_of (p ∷ ps) s f = omega (arith, s.0.low)

-- a free block is put on a stack
pub blocks_begun : (below : List ℕ) (ss : List (List ℕ)) (b : ℕ) (bs : List ℕ) (k n : ℕ) → AreBlocks below ss (b ∷ bs) → k < length ss → n ≡ first_of (get_or ss k []) → IsLast n → AreBlocks (set below b n) (set ss k ((PLACES * b) ∷ get_or ss k [])) bs
blocks_begun below ss b bs k n x lt e last =
    let last' : IsLast (first_of (get_or ss k [])) = subst IsLast e last in
    let more = blocks_more ss k (PLACES * b) lt (full_stack below ss k x.stacks last') in
    let here : count_on b (b ∷ bs) ≡ 1 + count_on b bs = omega (arith, count_cons b b bs, one_same b b refl) in
    let lt_b : b < length below = x.within b (omega arith) in
    let zero_ss : count_on_all (PLACES * b) ss ≡ 0 = omega (arith, x.once b) in
    let zero_bs : count_on b bs ≡ 0 = omega (arith, x.once b) in
    let stays : (y : ℕ) → (y ≡ b → ⊥) → get_or (set below b n) y 0 ≡ get_or below y 0 = λ y z. get_or-set_other below b y n 0 z in
    let all : AreStacks (set below b n) ss = stacks_stay below (set below b n) ss x.stacks (λ y h. stays y (λ z. omega (arith, h, zero_ss, ap (λ i. count_on_all (PLACES * i) ss) z))) in
    let counts : (y : ℕ) → count_on_all (PLACES * y) (set ss k ((PLACES * b) ∷ get_or ss k [])) + count_on y bs ≡ count_on_all (PLACES * y) ss + count_on y (b ∷ bs) =
    λ y. by_eq y b
    (λ z. omega (arith, count_put (PLACES * y) (PLACES * b) ss k lt, one_same (PLACES * y) (PLACES * b) (omega arith), count_cons y b bs, one_same y b z))
    (λ z. omega (arith, count_put (PLACES * y) (PLACES * b) ss k lt, one_other (PLACES * y) (PLACES * b) (λ w. z (omega arith)), count_cons y b bs, one_other y b z)) in
    record {
      stacks = stacks_set (set below b n) ss k ((PLACES * b) ∷ get_or ss k []) all (
        record {
          low = omega (arith, x.frees.0);
          within = λ h. absurd (omega arith);
          first = λ h. sym e ∙ sym (get_or-set_same below b n 0 lt_b) ∙ ap (λ i. get_or (set below b n) i 0) (quotient b);
          full = λ h up. last' up;
        },
        stack_of (set below b n) ss k all,
      );
      frees = free_stays below (set below b n) bs x.frees.2 (λ y h. stays y (λ z. omega (arith, h, zero_bs, ap (λ i. count_on i bs) z)));
      once = λ y. omega (arith, counts y, x.once y);
      within = λ y h. omega (arith, length-set below b n, x.within y (omega (arith, counts y, h)));
      most = omega (arith, length-set below b n, more, x.most);
      least = omega (arith, length-set below b n, more, x.least);
    }
  where
    quotient : (b : ℕ) → b ≡ PLACES * b / PLACES
    quotient b = omega arith

-- a block after the last one is free
pub blocks_fresh : (below : List ℕ) (ss : List (List ℕ)) → 0 < length below → AreBlocks below ss [] → AreBlocks (below ++ 0 ∷ []) ss (length below ∷ [])
blocks_fresh below ss up x =
    let stays : (y : ℕ) → y < length below → get_or (below ++ 0 ∷ []) y 0 ≡ get_or below y 0 = λ y h. get_or_append_left below (0 ∷ []) 0 y h in
    let more : length (below ++ 0 ∷ []) ≡ length below + 1 = length_push below 0 in
    record {
      stacks = stacks_stay below (below ++ 0 ∷ []) ss x.stacks (λ y h. stays y (x.within y (omega (arith, h))));
      frees = (up, get_or_push below 0 0 (length below) refl, tt);
      once = λ y. by_eq y (length below)
          (λ z. omega (arith, no_more y z, count_cons y (length below) [], one_same y (length below) z))
          (λ z. omega (arith, x.once y, count_cons y (length below) [], one_other y (length below) z));
      within = λ y h. by_eq y (length below)
          (λ z. omega arith)
          (λ z. omega (arith, x.within y (omega (arith, h, count_cons y (length below) [], one_other y (length below) z))));
      most = omega (arith, more, x.most);
      least = omega (arith, more, x.least);
    }
  where
    no_more : (y : ℕ) → y ≡ length below → count_on_all (PLACES * y) ss ≡ 0
    no_more y z = by_eq (count_on_all (PLACES * y) ss) 0 (λ e. e) (λ w. absurd (omega (arith, x.within y (omega arith))))

-- the first block, which isn't used
pub blocks_grown : (below : List ℕ) (ss : List (List ℕ)) → AreBlocks below ss [] → AreBlocks (grown below) ss []
blocks_grown [] ss x = record {
  stacks = stacks_stay [] (0 ∷ []) ss x.stacks (λ y h. absurd (omega (arith, x.within y (omega (arith, h)))));
  frees = tt;
  once = x.once;
  within = λ y h. absurd (omega (arith, x.within y h));
  most = omega (arith, x.most);
  least = omega (arith, x.least);
}
blocks_grown (b ∷ bs) ss x = x

pub grown_some : (below : List ℕ) → 0 < length (grown below)
grown_some [] = omega arith
grown_some (b ∷ bs) = omega arith

pub grown_length : (below : List ℕ) → length (grown below) ≡ max (length below) 1
grown_length [] = refl
grown_length (b ∷ bs) = omega arith

-- a place is taken off a stack, and leaves others in its block
pub blocks_taken : (below : List ℕ) (ss : List (List ℕ)) (bs : List ℕ) (k n : ℕ) (ns : List ℕ) → AreBlocks below ss bs → k < length ss → get_or ss k [] ≡ n ∷ ns → 0 < n % PLACES → AreBlocks below (set ss k ns) bs
blocks_taken below ss bs k n ns x lt e in_block =
    let s : IsStack below (n ∷ ns) = subst (IsStack below) e (stack_of below ss k x.stacks) in
    let fills = stack_fills below (n ∷ ns) s (omega (arith, s.0.low)) in
    let same = blocks_set ss k ns lt in
    let was = ap blocks_of e in
    let counts : (y : ℕ) → count_on_all (PLACES * y) (set ss k ns) ≡ count_on_all (PLACES * y) ss = λ y. omega (arith, count_taken (PLACES * y) n ns ss k lt e, one_other (PLACES * y) n (λ z. omega arith)) in
    record {
      stacks = stacks_set below ss k ns x.stacks s.1;
      frees = x.frees;
      once = λ y. omega (arith, counts y, x.once y);
      within = λ y h. x.within y (omega (arith, counts y));
      most = omega (arith, same, was, fills, x.most);
      least = omega (arith, same, was, fills, x.least);
    }

-- a place is taken off a stack, and its block is free
pub blocks_freed : (below : List ℕ) (ss : List (List ℕ)) (bs : List ℕ) (k b n : ℕ) (ns : List ℕ) → AreBlocks below ss bs → k < length ss → get_or ss k [] ≡ n ∷ ns → n ≡ PLACES * b → AreBlocks (set below b (first_of bs)) (set ss k ns) (b ∷ bs)
blocks_freed below ss bs k b n ns x lt e is =
    let s : IsStack below (n ∷ ns) = subst (IsStack below) e (stack_of below ss k x.stacks) in
    let fills = stack_fills below (n ∷ ns) s (omega (arith, s.0.low)) in
    let less = blocks_set ss k ns lt in
    let was = ap blocks_of e in
    let below' : List ℕ = set below b (first_of bs) in
    let here : count_on_all (PLACES * b) (set ss k ns) + 1 ≡ count_on_all (PLACES * b) ss = omega (arith, count_taken (PLACES * b) n ns ss k lt e, one_same (PLACES * b) n (sym is)) in
    let lt_b : b < length below = x.within b (omega arith) in
    let zero_ss : count_on_all (PLACES * b) (set ss k ns) ≡ 0 = omega (arith, x.once b) in
    let zero_bs : count_on b bs ≡ 0 = omega (arith, x.once b) in
    let stays : (y : ℕ) → (y ≡ b → ⊥) → get_or below' y 0 ≡ get_or below y 0 = λ y z. get_or-set_other below b y (first_of bs) 0 z in
    let counts : (y : ℕ) → count_on_all (PLACES * y) (set ss k ns) + count_on y (b ∷ bs) ≡ count_on_all (PLACES * y) ss + count_on y bs =
    λ y. by_eq y b
    (λ z. omega (arith, count_taken (PLACES * y) n ns ss k lt e, one_same (PLACES * y) n (omega arith), count_cons y b bs, one_same y b z))
    (λ z. omega (arith, count_taken (PLACES * y) n ns ss k lt e, one_other (PLACES * y) n (λ w. z (omega arith)), count_cons y b bs, one_other y b z)) in
    record {
      stacks = stacks_stay below below' (set ss k ns) (stacks_set below ss k ns x.stacks s.1) (λ y h. stays y (λ z. omega (arith, h, zero_ss, ap (λ i. count_on_all (PLACES * i) (set ss k ns)) z)));
      frees = (
        omega (arith, s.0.low),
        get_or-set_same below b (first_of bs) 0 lt_b,
        free_stays below below' bs x.frees (λ y h. stays y (λ z. omega (arith, h, zero_bs, ap (λ i. count_on i bs) z))),
      );
      once = λ y. omega (arith, counts y, x.once y);
      within = λ y h. omega (arith, length-set below b (first_of bs), x.within y (omega (arith, counts y, h)));
      most = omega (arith, length-set below b (first_of bs), less, was, fills, x.most);
      least = omega (arith, length-set below b (first_of bs), less, was, fills, x.least);
    }

-- how many stacks aren't empty
abbrev pub nonempty : List (List ℕ) → ℕ
nonempty ss = sum_by (λ s. min (length s) 1) ss

few_blocks : (ss : List (List ℕ)) → PLACES * blocks_on ss ≤ sum_by length ss + (PLACES - 1) * nonempty ss
few_blocks [] = omega arith
few_blocks (ps ∷ ss) = omega (arith, few_blocks ss, sum_by-cons (λ (x : List ℕ). blocks_of x) ps ss, sum_by-cons (λ (x : List ℕ). length x) ps ss, sum_by-cons (λ (x : List ℕ). min (length x) 1) ps ss)

nonempty_places : (ss : List (List ℕ)) → nonempty ss ≤ sum_by length ss
nonempty_places [] = omega arith
nonempty_places (ps ∷ ss) = omega (arith, nonempty_places ss, sum_by-cons (λ (x : List ℕ). length x) ps ss, sum_by-cons (λ (x : List ℕ). min (length x) 1) ps ss)

nonempty_keys : (ss : List (List ℕ)) → nonempty ss ≤ length ss
nonempty_keys [] = omega arith
nonempty_keys (ps ∷ ss) = omega (arith, nonempty_keys ss, sum_by-cons (λ (x : List ℕ). min (length x) 1) ps ss)

-- where there is room for a place, there is for a block
pub room_for_block : (below : List ℕ) (ss : List (List ℕ)) (k room below_room cells_room : ℕ) → AreBlocks below ss [] → HaveRoom room (length ss) below_room cells_room → k < length ss → length (get_or ss k []) % PLACES ≡ 0 → sum_by length ss < room → HasRoomForBlock (length below) below_room cells_room
room_for_block below ss k room below_room cells_room x h lt full less =
    let ts : List (List ℕ) = set ss k (0 ∷ get_or ss k []) in
    let more : blocks_on ts ≡ blocks_on ss + 1 = blocks_more ss k 0 lt full in
    let places : sum_by length ts ≡ sum_by length ss + 1 = omega (arith, places_set ss k (0 ∷ get_or ss k []) lt) in
    let keys : length ts ≡ length ss = length-set ss k (0 ∷ get_or ss k []) in
    let a : PLACES * blocks_on ts ≤ sum_by length ts + (PLACES - 1) * nonempty ts = few_blocks ts in
    let b : nonempty ts ≤ sum_by length ts = nonempty_places ts in
    let c : nonempty ts ≤ length ts = nonempty_keys ts in
    enough (blocks_on ts) (sum_by length ts) (nonempty ts) (omega (arith, a)) (omega (arith, b, c, keys, places)) (omega arith) (omega (arith, more, x.least)) (omega (arith, more))
  where
    enough : (n p m : ℕ) → PLACES * n ≤ p + (PLACES - 1) * m → m ≤ min room (length ss) → p ≤ room → length below ≤ n → 0 < n → HasRoomForBlock (length below) below_room cells_room
    enough n p m a b c d e = record { below = omega (arith, h.below); cells = omega (arith, h.cells); limit = omega (arith, h.limit) }

-- empty stacks more
stacks_more : (below : List ℕ) (ss : List (List ℕ)) (n : ℕ) → AreStacks below ss → AreStacks below (ss ++ replicate n [])
stacks_more below [] zero a = tt
stacks_more below [] (suc n) a = (tt, stacks_more below [] n tt)
stacks_more below (ps ∷ ss) n a = (a.0, stacks_more below ss n a.1)

blank_count : (p n : ℕ) → count_on_all p (replicate n []) ≡ 0
blank_count p zero = refl
blank_count p (suc n) = blank_count p n

blank_blocks : (n : ℕ) → blocks_on (replicate n []) ≡ 0
blank_blocks zero = refl
blank_blocks (suc n) = blank_blocks n

pub blocks_longer : (below : List ℕ) (ss : List (List ℕ)) (bs : List ℕ) (n : ℕ) → AreBlocks below ss bs → AreBlocks below (ss ++ replicate n []) bs
blocks_longer below ss bs n x =
    let counts : (p : ℕ) → count_on_all p (ss ++ replicate n []) ≡ count_on_all p ss = λ p. omega (arith, sum_by-append (λ (s : List ℕ). count_on p s) ss (replicate n []), blank_count p n) in
    let same : blocks_on (ss ++ replicate n []) ≡ blocks_on ss = omega (arith, sum_by-append (λ (s : List ℕ). blocks_of s) ss (replicate n []), blank_blocks n) in
    record {
      stacks = stacks_more below ss n x.stacks;
      frees = x.frees;
      once = λ b. omega (arith, counts (PLACES * b), x.once b);
      within = λ b lt. x.within b (omega (arith, counts (PLACES * b)));
      most = omega (arith, same, x.most);
      least = omega (arith, same, x.least);
    }

pub firsts_longer : (newest : List ℕ) (ss : List (List ℕ)) (n : ℕ) → newest ≡ map first_of ss → newest ++ replicate n 0 ≡ map first_of (ss ++ replicate n [])
firsts_longer newest ss n e = ap (λ l. l ++ replicate n 0) e ∙ at ss n
  where
    at : (ss : List (List ℕ)) (n : ℕ) → map first_of ss ++ replicate n 0 ≡ map first_of (ss ++ replicate n [])
    at [] zero = refl
    at [] (suc n) = ap (λ l. 0 ∷ l) (at [] n)
    at (ps ∷ ss) n = ap (λ l. first_of ps ∷ l) (at ss n)
