-- What calls of stacks do to their fields, and to what is seen of them.
use Rattle.std.proofs.Common.{◌≡◌, ℕ, Bool, true, if◌then◌else◌, take, ◌+◌, ◌-◌, ◌*◌, ◌/◌, ◌%◌, ◌<◌, ◌≤◌, List, [], ◌∷◌, ◌++◌, length, drop, map, refl, ap, sym, subst, ◌∙◌, arith, set, get_or, replicate}
use Rattle.std.specs.Prelude.{sum_by, max}
use Rattle.std.proofs.lemmas.List.{map-set, length-map, length-set, length-append, length-replicate, append-nil, length_push, get_or_push, take_all}
use Rattle.std.proofs.Math.Seq.{set-append_seam}
use Rattle.sr_lists.specs.declared.blocks.Watch.{Watch}
use Rattle.sr_lists.specs.declared.stacks.TheConstants.{PLACES, MOST_BLOCKS}
use Rattle.sr_lists.specs.Stacks.{Stacked, stack_at, places_of, first_of, held_at, count_on, count_on_all, AreApart, IsAdded}
use Rattle.sr_lists.specs.Chains.{stacks_in, IsBelow, IsStack, AreFree, AreBlocks, HaveRoom, HasRoomForBlock, IsLast, IsChained, IsSameBlock, IsFreed, IsFresh, grown}
use Rattle.sr_lists.proofs.Chains.{by_eq, one_same, count_cons, stacks_are, stacks_count, first_at, below_in, stack_of, count_block, count_low, stack_opens, first_up}
use Rattle.sr_lists.proofs.Holding.{held_same, held_other}
use Rattle.sr_lists.proofs.Stacking.{blocks_put, blocks_begun, blocks_fresh, blocks_grown, blocks_taken, blocks_freed, blocks_longer, firsts_longer, room_for_block, unused_next, full_stack, first_counts, grown_some, grown_length}

-- what is seen of the fields
abbrev pub seen : List ℕ → List ℕ → List Watch → ℕ → Stacked
seen newest below cells room = record { stacks = stacks_in below newest; cells = cells; room = room }

pub stacks_of : (newest below : List ℕ) (cells : List Watch) (free room below_room cells_room : ℕ) (x : IsChained newest below cells free room below_room cells_room) → stacks_in below newest ≡ x.stacks
stacks_of newest below cells free room below_room cells_room x = stacks_are newest below x.stacks x.firsts x.blocks.stacks (omega (arith, x.blocks.most))

pub keys_are : (newest below : List ℕ) (cells : List Watch) (room : ℕ) (m : Stacked) → seen newest below cells room ≡ m → length newest ≡ length m.stacks
keys_are newest below cells room m e = sym (stacks_count newest below) ∙ ap (λ (s : Stacked). length s.stacks) e

pub newest_is : (newest below : List ℕ) (cells : List Watch) (free room below_room cells_room : ℕ) → IsChained newest below cells free room below_room cells_room → (k : ℕ) → get_or newest k 0 ≡ first_of (stack_at (seen newest below cells room) k)
newest_is newest below cells free room below_room cells_room x k =
    ap (λ l. get_or l k 0) x.firsts ∙ first_at x.stacks k ∙ ap (λ ss. first_of (get_or ss k [])) (sym (stacks_of newest below cells free room below_room cells_room x))

pub older_of : (newest below : List ℕ) (cells : List Watch) (free room below_room cells_room : ℕ) → IsChained newest below cells free room below_room cells_room → (m : Stacked) → seen newest below cells room ≡ m → (k p : ℕ) (front rest : List ℕ) → stack_at m k ≡ front ++ p ∷ rest → IsBelow below p (first_of rest)
older_of newest below cells free room below_room cells_room x m e k p front rest is =
    let same : get_or x.stacks k [] ≡ front ++ p ∷ rest = ap (λ ss. get_or ss k []) (sym (stacks_of newest below cells free room below_room cells_room x)) ∙ ap (λ (s : Stacked). stack_at s k) e ∙ is in
    below_in below front p rest (subst (IsStack below) same (stack_of below x.stacks k x.blocks.stacks))

pub are_apart : (newest below : List ℕ) (cells : List Watch) (free room below_room cells_room : ℕ) → IsChained newest below cells free room below_room cells_room → AreApart (seen newest below cells room)
are_apart newest below cells free room below_room cells_room x =
    let e = stacks_of newest below cells free room below_room cells_room x in
    let same : (p : ℕ) → count_on_all p (stacks_in below newest) ≡ count_on_all p x.stacks = λ p. ap (count_on_all p) e in
    record {
      once = λ p. omega (arith, same p, count_block below x.stacks p x.blocks.stacks, x.blocks.once (p / PLACES));
      within = λ p up. (
        by_eq p 0 (λ z. absurd (omega (arith, same p, count_low below x.stacks p x.blocks.stacks (omega arith)))) (λ z. omega arith),
        omega (arith, x.size, x.blocks.within (p / PLACES) (omega (arith, same p, count_block below x.stacks p x.blocks.stacks))),
      );
    }

pub blank_kept : (below_room cells_room : ℕ) → IsChained [] [] [] 0 0 below_room cells_room
blank_kept below_room cells_room = record {
  stacks = [];
  frees = [];
  firsts = refl;
  first = refl;
  blocks = record { stacks = tt; frees = tt; once = λ b. omega arith; within = λ b lt. absurd (omega arith); most = omega arith; least = omega arith };
  size = refl;
  limit = omega arith;
  rooms = record { limit = omega arith; below = omega arith; cells = omega arith };
}

pub blank_view : seen [] [] [] 0 ≡ record { stacks = []; cells = []; room = 0 }
blank_view = ap (λ ss. record { stacks = ss; cells = []; room = 0 }) (stacks_are [] [] [] refl tt (omega arith))

seen_is : (ss ts : List (List ℕ)) (ws vs : List Watch) (r s : ℕ) → ss ≡ ts → ws ≡ vs → r ≡ s → (let a : Stacked = record { stacks = ss; cells = ws; room = r } in let b : Stacked = record { stacks = ts; cells = vs; room = s } in a ≡ b)
seen_is ss ts ws vs r s e f g = cc

-- the stacks that are seen, by those of the fields
pub seen_stacks : (newest below : List ℕ) (cells : List Watch) (free room below_room cells_room : ℕ) (x : IsChained newest below cells free room below_room cells_room) (m : Stacked) → seen newest below cells room ≡ m → m.stacks ≡ x.stacks
seen_stacks newest below cells free room below_room cells_room x m e = sym (ap (λ (s : Stacked). s.stacks) e) ∙ stacks_of newest below cells free room below_room cells_room x

firsts_set : (newest : List ℕ) (ss : List (List ℕ)) (k : ℕ) (p : ℕ) (ps : List ℕ) → newest ≡ map first_of ss → p ≡ first_of ps → set newest k p ≡ map first_of (set ss k ps)
firsts_set newest ss k p ps e f = ap (λ l. set l k p) e ∙ ap (λ n. set (map first_of ss) k n) f ∙ sym (map-set first_of ss k ps)

count_same : (newest : List ℕ) (ss : List (List ℕ)) → newest ≡ map first_of ss → length newest ≡ length ss
count_same newest ss e = ap length e ∙ length-map ss first_of

-- what a change of one stack has to keep
pub record IsChanged (below' : List ℕ) (cells : List Watch) (free' k p : ℕ) (ss : List (List ℕ)) (ps : List ℕ) : Type 0 where
  pub frees : List ℕ
  pub blocks : AreBlocks below' (set ss k ps) frees
  pub first : free' ≡ first_of frees
  pub place : p ≡ first_of ps
  pub size : length cells ≡ PLACES * length below'
  pub limit : length below' ≤ MOST_BLOCKS

pub changed_kept : (newest below below' : List ℕ) (cells cells' : List Watch) (free free' room below_room cells_room k p : ℕ) (ps : List ℕ) (x : IsChained newest below cells free room below_room cells_room) → IsChanged below' cells' free' k p x.stacks ps → IsChained (set newest k p) below' cells' free' room below_room cells_room
changed_kept newest below below' cells cells' free free' room below_room cells_room k p ps x y = record {
  stacks = set x.stacks k ps;
  frees = y.frees;
  firsts = firsts_set newest x.stacks k p ps x.firsts y.place;
  first = y.first;
  blocks = y.blocks;
  size = y.size;
  limit = y.limit;
  rooms = subst (λ n. HaveRoom room n below_room cells_room) (sym (length-set newest k p)) x.rooms;
}

pub changed_stacks : (newest below below' : List ℕ) (cells cells' : List Watch) (free free' room below_room cells_room k p : ℕ) (ps : List ℕ) (x : IsChained newest below cells free room below_room cells_room) → IsChanged below' cells' free' k p x.stacks ps → stacks_in below' (set newest k p) ≡ set x.stacks k ps
changed_stacks newest below below' cells cells' free free' room below_room cells_room k p ps x y =
    stacks_are (set newest k p) below' (set x.stacks k ps) (firsts_set newest x.stacks k p ps x.firsts y.place) y.blocks.stacks (omega (arith, y.blocks.most))

-- what is known of a stack that isn't empty
pub record IsOpened (below : List ℕ) (ss : List (List ℕ)) (k n : ℕ) : Type 0 where
  pub key : k < length ss
  pub stack : get_or ss k [] ≡ n ∷ drop 1 (get_or ss k [])
  pub link : IsBelow below n (first_of (drop 1 (get_or ss k [])))
  pub block : n / PLACES < length below

pub opened : (newest below : List ℕ) (cells : List Watch) (free room below_room cells_room k n : ℕ) (x : IsChained newest below cells free room below_room cells_room) (m : Stacked) → seen newest below cells room ≡ m → k < length m.stacks → 0 < length (stack_at m k) → n ≡ get_or newest k 0 → IsOpened below x.stacks k n
opened newest below cells free room below_room cells_room k n x m e lt some is =
    let same = seen_stacks newest below cells free room below_room cells_room x m e in
    let key : k < length x.stacks = omega (arith, lt, ap length same) in
    let ps : List ℕ = get_or x.stacks k [] in
    let s : IsStack below ps = stack_of below x.stacks k x.blocks.stacks in
    let up : PLACES ≤ first_of ps = first_up below ps s (omega (arith, some, ap (λ ss. length (get_or ss k [])) same)) in
    let top : n ≡ first_of ps = is ∙ ap (λ l. get_or l k 0) x.firsts ∙ first_at x.stacks k in
    let opens : ps ≡ n ∷ drop 1 ps = stack_opens ps (omega arith) ∙ ap (λ q. q ∷ drop 1 ps) (sym top) in
    let counts : 0 < count_on_all n x.stacks = first_counts x.stacks k n key (omega arith) top in
    record {
      key = key;
      stack = opens;
      link = below_in below [] n (drop 1 ps) (subst (IsStack below) opens s);
      block = x.blocks.within (n / PLACES) (omega (arith, counts, count_block below x.stacks n x.blocks.stacks));
    }

pub removed_within : (newest below : List ℕ) (cells : List Watch) (free room below_room cells_room k n : ℕ) (x : IsChained newest below cells free room below_room cells_room) → IsOpened below x.stacks k n → 0 < n % PLACES → IsChanged below cells free k (n - 1) x.stacks (drop 1 (get_or x.stacks k []))
removed_within newest below cells free room below_room cells_room k n x o within = record {
  frees = x.frees;
  blocks = blocks_taken below x.stacks x.frees k n (drop 1 (get_or x.stacks k [])) x.blocks o.key o.stack within;
  first = x.first;
  place = sym (o.link.within within);
  size = x.size;
  limit = x.limit;
}

pub removed_block : (newest below : List ℕ) (cells : List Watch) (free room below_room cells_room k n p : ℕ) (x : IsChained newest below cells free room below_room cells_room) → IsOpened below x.stacks k n → n % PLACES ≡ 0 → p ≡ get_or below (n / PLACES) 0 → IsChanged (set below (n / PLACES) free) cells (n / PLACES) k p x.stacks (drop 1 (get_or x.stacks k []))
removed_block newest below cells free room below_room cells_room k n p x o first is =
    let b = blocks_freed below x.stacks x.frees k (n / PLACES) n (drop 1 (get_or x.stacks k [])) x.blocks o.key o.stack (omega arith) in
    record {
      frees = (n / PLACES) ∷ x.frees;
      blocks = subst (λ f. AreBlocks (set below (n / PLACES) f) (set x.stacks k (drop 1 (get_or x.stacks k []))) ((n / PLACES) ∷ x.frees)) (sym x.first) b;
      first = refl;
      place = is ∙ sym (o.link.first first);
      size = omega (arith, x.size, length-set below (n / PLACES) free);
      limit = omega (arith, x.limit, length-set below (n / PLACES) free);
    }

-- what is seen after a place is taken off
pub removed_seen : (newest below below' : List ℕ) (cells : List Watch) (free free' room below_room cells_room k p : ℕ) (x : IsChained newest below cells free room below_room cells_room) (m : Stacked) → seen newest below cells room ≡ m → IsChanged below' cells free' k p x.stacks (drop 1 (get_or x.stacks k [])) → seen (set newest k p) below' cells room ≡ record m { stacks = set m.stacks k (drop 1 (stack_at m k)) }
removed_seen newest below below' cells free free' room below_room cells_room k p x m e y =
    let same = seen_stacks newest below cells free room below_room cells_room x m e in
    seen_is (stacks_in below' (set newest k p)) (set m.stacks k (drop 1 (stack_at m k))) cells m.cells room m.room
    (changed_stacks newest below below' cells cells free free' room below_room cells_room k p (drop 1 (get_or x.stacks k [])) x y ∙ ap (λ ss. set ss k (drop 1 (get_or ss k []))) (sym same))
    (ap (λ (s : Stacked). s.cells) e)
    (ap (λ (s : Stacked). s.room) e)

-- more room
pub roomy_kept : (newest below : List ℕ) (cells : List Watch) (free room below_room cells_room keys below_room' cells_room' : ℕ) → IsChained newest below cells free room below_room cells_room → length newest ≤ keys → HaveRoom room keys below_room' cells_room' → IsChained newest below cells free room below_room' cells_room'
roomy_kept newest below cells free room below_room cells_room keys below_room' cells_room' x le h = record {
  stacks = x.stacks;
  frees = x.frees;
  firsts = x.firsts;
  first = x.first;
  blocks = x.blocks;
  size = x.size;
  limit = x.limit;
  rooms = record { limit = omega (arith, h.limit); below = omega (arith, h.below); cells = omega (arith, h.cells) };
}

-- empty stacks more
pub longer_kept : (newest below : List ℕ) (cells : List Watch) (free room below_room cells_room keys below_room' cells_room' : ℕ) → IsChained newest below cells free room below_room cells_room → length newest ≤ keys → HaveRoom room keys below_room' cells_room'
    → IsChained (newest ++ replicate (keys - length newest) 0) below cells free room below_room' cells_room'
longer_kept newest below cells free room below_room cells_room keys below_room' cells_room' x le h = record {
  stacks = x.stacks ++ replicate (keys - length newest) [];
  frees = x.frees;
  firsts = firsts_longer newest x.stacks (keys - length newest) x.firsts;
  first = x.first;
  blocks = blocks_longer below x.stacks x.frees (keys - length newest) x.blocks;
  size = x.size;
  limit = x.limit;
  rooms = let n : length (newest ++ replicate (keys - length newest) 0) ≡ keys = omega (arith, length-append newest (replicate (keys - length newest) 0), length-replicate (keys - length newest) (let z : ℕ = 0 in z)) in subst (λ n. HaveRoom room n below_room' cells_room') (sym n) h;
}

pub longer_seen : (newest below : List ℕ) (cells : List Watch) (free room below_room cells_room keys : ℕ) → IsChained newest below cells free room below_room cells_room → (m : Stacked) → seen newest below cells room ≡ m
    → seen (newest ++ replicate (keys - length newest) 0) below cells room ≡ record m { stacks = m.stacks ++ replicate (keys - length m.stacks) [] }
longer_seen newest below cells free room below_room cells_room keys x m e =
    let same = seen_stacks newest below cells free room below_room cells_room x m e in
    let n : keys - length newest ≡ keys - length m.stacks = ap (λ i. keys - i) (keys_are newest below cells room m e) in
    let b = blocks_longer below x.stacks x.frees (keys - length newest) x.blocks in
    seen_is (stacks_in below (newest ++ replicate (keys - length newest) 0)) (m.stacks ++ replicate (keys - length m.stacks) []) cells m.cells room m.room
    (stacks_are (newest ++ replicate (keys - length newest) 0) below (x.stacks ++ replicate (keys - length newest) []) (firsts_longer newest x.stacks (keys - length newest) x.firsts) b.stacks (omega (arith, b.most))
    ∙ ap (λ ss. ss ++ replicate (keys - length newest) []) (sym same) ∙ ap (λ i. m.stacks ++ replicate i []) n)
    (ap (λ (s : Stacked). s.cells) e)
    (ap (λ (s : Stacked). s.room) e)

-- as many keys as wanted
pub long_enough : (m : Stacked) (keys : ℕ) → keys ≤ length m.stacks → m ≡ record m { stacks = m.stacks ++ replicate (keys - length m.stacks) [] }
long_enough m keys le =
    let n : keys - length m.stacks ≡ 0 = omega arith in
    seen_is m.stacks (m.stacks ++ replicate (keys - length m.stacks) []) m.cells m.cells m.room m.room (sym (append-nil m.stacks) ∙ ap (λ i. m.stacks ++ replicate i []) (sym n)) refl refl

pub resized : (items items' : List ℕ) (ok : Bool) (keys count : ℕ) → items' ≡ (if ok then take keys items ++ replicate (keys - count) 0 else items) → ok ≡ true → count ≡ length items → length items ≤ keys → items' ≡ items ++ replicate (keys - length items) 0
resized items items' ok keys count e is n le =
    e ∙ ap (λ b. if b then take keys items ++ replicate (keys - count) 0 else items) is ∙ ap (λ l. l ++ replicate (keys - count) 0) (take_all keys items le) ∙ ap (λ i. items ++ replicate (keys - i) 0) n

-- a free block
pub free_within : (newest below : List ℕ) (cells : List Watch) (free room below_room cells_room : ℕ) → IsChained newest below cells free room below_room cells_room → 0 < free → free < length below
free_within newest below cells free room below_room cells_room x up = at x.frees x.first x.blocks
  where
    at : (bs : List ℕ) → free ≡ first_of bs → AreBlocks below x.stacks bs → free < length below
    at [] e b = absurd (omega arith)
    at (f ∷ fs) e b = b.within free (omega (arith, count_cons free f fs, one_same free f e))

none_free : (below bs : List ℕ) → AreFree below bs → first_of bs ≡ 0 → bs ≡ []
none_free below [] f e = refl
none_free below (b ∷ bs) f e = absurd (omega (arith, f.0))

some_free : (bs : List ℕ) → 0 < first_of bs → bs ≡ first_of bs ∷ drop 1 bs
some_free [] up = absurd (omega arith)
some_free (b ∷ bs) up = refl

-- what is known of the stack that a place is added to
pub record IsTop (ss : List (List ℕ)) (room k n : ℕ) : Type 0 where
  pub key : k < length ss
  pub first : n ≡ first_of (get_or ss k [])
  pub less : sum_by length ss < room

pub top_of : (newest below : List ℕ) (cells : List Watch) (free room below_room cells_room k n : ℕ) (x : IsChained newest below cells free room below_room cells_room) (m : Stacked) → seen newest below cells room ≡ m → k < length m.stacks → places_of m < m.room → n ≡ get_or newest k 0 → IsTop x.stacks room k n
top_of newest below cells free room below_room cells_room k n x m e lt less is =
    let same = seen_stacks newest below cells free room below_room cells_room x m e in
    record {
      key = omega (arith, lt, ap length same);
      first = is ∙ ap (λ l. get_or l k 0) x.firsts ∙ first_at x.stacks k;
      less = omega (arith, less, ap (sum_by length) same, ap (λ (s : Stacked). s.room) e);
    }

pub room_for : (newest below : List ℕ) (cells : List Watch) (free room below_room cells_room k n : ℕ) (x : IsChained newest below cells free room below_room cells_room) → IsTop x.stacks room k n → IsLast n → free ≡ 0 → HasRoomForBlock (length below) below_room cells_room
room_for newest below cells free room below_room cells_room k n x t last z =
    let none : x.frees ≡ [] = none_free below x.frees x.blocks.frees (sym x.first ∙ z) in
    room_for_block below x.stacks k room below_room cells_room (subst (AreBlocks below x.stacks) none x.blocks) (subst (λ i. HaveRoom room i below_room cells_room) (count_same newest x.stacks x.firsts) x.rooms) t.key
    (full_stack below x.stacks k x.blocks.stacks (subst IsLast t.first last)) t.less

-- a place that is added
pub record IsNew (below' : List ℕ) (free' : ℕ) (ss : List (List ℕ)) (k p : ℕ) : Type 0 where
  pub frees : List ℕ
  pub blocks : AreBlocks below' (set ss k (p ∷ get_or ss k [])) frees
  pub first : free' ≡ first_of frees
  pub unused : count_on_all p ss ≡ 0
  pub within : p < PLACES * length below'
  pub limit : length below' ≤ MOST_BLOCKS

new_inside : (below : List ℕ) (ss : List (List ℕ)) (bs : List ℕ) (k n p free : ℕ) → AreBlocks below ss bs → free ≡ first_of bs → k < length ss → n ≡ first_of (get_or ss k []) → 0 < n → n % PLACES < PLACES - 1 → length below ≤ MOST_BLOCKS → p ≡ n + 1 → IsNew below free ss k p
new_inside below ss bs k n p free b f lt e up in_block limit is =
    let counts : 0 < count_on_all n ss = first_counts ss k n lt up e in
    record {
      frees = bs;
      blocks = subst (λ q. AreBlocks below (set ss k (q ∷ get_or ss k [])) bs) (sym is) (blocks_put below ss bs k n b lt e up in_block);
      first = f;
      unused = ap (λ q. count_on_all q ss) is ∙ unused_next below ss bs k n b e up in_block;
      within = omega (arith, b.within (n / PLACES) (omega (arith, counts, count_block below ss n b.stacks)));
      limit = limit;
    }

new_freed : (below : List ℕ) (ss : List (List ℕ)) (b : ℕ) (bs : List ℕ) (k n p free' : ℕ) → AreBlocks below ss (b ∷ bs) → k < length ss → n ≡ first_of (get_or ss k []) → IsLast n → length below ≤ MOST_BLOCKS → p ≡ PLACES * b → free' ≡ get_or below b 0 → IsNew (set below b n) free' ss k p
new_freed below ss b bs k n p free' x lt e last limit is next =
    let here : 0 < count_on b (b ∷ bs) = omega (arith, count_cons b b bs, one_same b b refl) in
    let none : count_on_all (PLACES * b) ss ≡ 0 = omega (arith, here, x.once b) in
    record {
      frees = bs;
      blocks = subst (λ q. AreBlocks (set below b n) (set ss k (q ∷ get_or ss k [])) bs) (sym is) (blocks_begun below ss b bs k n x lt e last);
      first = next ∙ x.frees.1;
      unused = ap (λ q. count_on_all q ss) is ∙ none;
      within = omega (arith, x.within b (omega (arith, here)), length-set below b n);
      limit = omega (arith, limit, length-set below b n);
    }

new_fresh : (below : List ℕ) (ss : List (List ℕ)) (k n p free' : ℕ) → AreBlocks below ss [] → k < length ss → n ≡ first_of (get_or ss k []) → IsLast n → max (length below + 1) 2 ≤ MOST_BLOCKS → p ≡ PLACES * length (grown below) → free' ≡ 0 → IsNew (grown below ++ n ∷ []) free' ss k p
new_fresh below ss k n p free' x lt e last limit is next =
    let b : List ℕ = grown below in
    let y = blocks_fresh b ss (grown_some below) (blocks_grown below ss x) in
    let long : length (b ++ 0 ∷ []) ≤ MOST_BLOCKS = omega (arith, length_push b 0, grown_length below, limit) in
    subst (λ l. IsNew l free' ss k p) (set-append_seam b 0 [] n)
    (new_freed (b ++ 0 ∷ []) ss (length b) [] k n p free' y lt e last long is (next ∙ sym (get_or_push b 0 0 (length b) refl)))

pub added : (newest below : List ℕ) (cells : List Watch) (free room below_room cells_room k n : ℕ) (x : IsChained newest below cells free room below_room cells_room) → IsTop x.stacks room k n → (below' : List ℕ) (free' p : ℕ)
    → (0 < n → n % PLACES < PLACES - 1 → IsSameBlock below free n below' free' p) → (IsLast n → 0 < free → IsFreed below free n below' free' p) → (IsLast n → free ≡ 0 → IsFresh below n below' free' p) → IsNew below' free' x.stacks k p
added newest below cells free room below_room cells_room k n x t below' free' p inside freed fresh =
    by_eq n 0 (λ e. ends (λ up. absurd (omega arith)))
    (λ z. by_eq (n % PLACES) (PLACES - 1)
    (λ e. ends (λ up. e))
    (λ w. let s = inside (omega arith) (omega arith) in
    subst (λ l. IsNew l free' x.stacks k p) (sym s.links) (new_inside below x.stacks x.frees k n p free' x.blocks (s.next ∙ x.first) t.key t.first (omega arith) (omega arith) x.limit s.place)))
  where
    ends : IsLast n → IsNew below' free' x.stacks k p
    ends last =
        by_eq free 0
        (λ e. let s = fresh last e in
        let none : x.frees ≡ [] = none_free below x.frees x.blocks.frees (sym x.first ∙ e) in
        let r = room_for newest below cells free room below_room cells_room k n x t last e in
        subst (λ l. IsNew l free' x.stacks k p) (sym s.links) (new_fresh below x.stacks k n p free' (subst (AreBlocks below x.stacks) none x.blocks) t.key t.first last r.limit s.place s.next))
        (λ z. let s = freed last (omega arith) in
        let some : x.frees ≡ free ∷ drop 1 x.frees = some_free x.frees (omega (arith, x.first)) ∙ ap (λ f. f ∷ drop 1 x.frees) (sym x.first) in
        subst (λ l. IsNew l free' x.stacks k p) (sym s.links) (new_freed below x.stacks free (drop 1 x.frees) k n p free' (subst (AreBlocks below x.stacks) some x.blocks) t.key t.first last x.limit s.place s.next))

pub added_changed : (newest below below' : List ℕ) (cells cells' : List Watch) (free free' room below_room cells_room k p : ℕ) (w : Watch) (x : IsChained newest below cells free room below_room cells_room) → IsNew below' free' x.stacks k p → length cells' ≡ PLACES * length below' → IsChanged below' (set cells' p w) free' k p x.stacks (p ∷ get_or x.stacks k [])
added_changed newest below below' cells cells' free free' room below_room cells_room k p w x y size = record {
  frees = y.frees;
  blocks = y.blocks;
  first = y.first;
  place = refl;
  size = length-set cells' p w ∙ size;
  limit = y.limit;
}

pub added_seen : (newest below below' : List ℕ) (cells cells' : List Watch) (free free' room below_room cells_room k p : ℕ) (w : Watch) (x : IsChained newest below cells free room below_room cells_room) (m : Stacked) → seen newest below cells room ≡ m → IsNew below' free' x.stacks k p
    → length cells' ≡ PLACES * length below' → length cells ≤ length cells' → ((q : ℕ) → q < length cells → held_at cells' q ≡ held_at cells q) → IsAdded m (seen (set newest k p) below' (set cells' p w) room) k w
added_seen newest below below' cells cells' free free' room below_room cells_room k p w x m e y size longer held =
    let same = seen_stacks newest below cells free room below_room cells_room x m e in
    let c = added_changed newest below below' cells cells' free free' room below_room cells_room k p w x y size in
    let ws : cells ≡ m.cells = ap (λ (s : Stacked). s.cells) e in
    record {
      place = p;
      unused = ap (count_on_all p) same ∙ y.unused;
      stacks = changed_stacks newest below below' cells (set cells' p w) free free' room below_room cells_room k p (p ∷ get_or x.stacks k []) x c ∙ ap (λ ss. set ss k (p ∷ get_or ss k [])) (sym same);
      holds = held_same cells' p w (omega (arith, y.within, size));
      others = λ q ne lt. held_other cells' p q w ne ∙ subst (λ vs. held_at cells' q ≡ held_at vs q) ws (held q (omega (arith, lt, ap length ws)));
      longer = omega (arith, longer, length-set cells' p w, ap length ws);
      room = ap (λ (s : Stacked). s.room) e;
    }
