-- Chains of numbers, by their marks.
use Rattle.std.proofs.Common.{◌≡◌, ◌≢◌, ℕ, suc, zero, ◌+◌, ◌<◌, ◌≤◌, ◌==◌, ◌-◌, Bool, true, false, cond, List, [], ◌∷◌, ◌++◌, length, get_or, set, take, drop, refl, sym, ◌∙◌, ap, subst, arith, add-one, drop-cons, append_assoc, length-append}
use Rattle.std.proofs.lemmas.List.{length-set, get_or-set_same, get_or-set_other, take_more, append-nil}
use Rattle.std.proofs.lemmas.Bool.Decides.{nat_tests}
use Rattle.sr_table.proofs.Paging.{by_eq}
use Rattle.sr_wit.specs.Pieces.{AreEnds, pieces}
use Rattle.sr_wit.proofs.PieceLemmas.{pieces-push, ends-push}
use Rattle.sr_placing.specs.Marks.{numbers_where, IsChain, AreChains}

-- a chain keeps its numbers where the bound is lowered, and where the link of a lower number is set
pub chain_lower : (links : List ℕ) (low less head : ℕ) (c : List ℕ) → less ≤ low → IsChain links low head c → IsChain links less head c
chain_lower links low less head [] h is = is
chain_lower links low less head (n ∷ ns) h is = (is.0, omega (arith, is.1), is.2, is.3)

pub chain_set : (links : List ℕ) (low head m v : ℕ) (c : List ℕ) → m < low → IsChain links low head c → IsChain (set links m v) low head c
chain_set links low head m v [] h is = is
chain_set links low head m v (n ∷ ns) h is =
    let ne : n ≢ m = omega (arith, is.1) in
    (is.0, is.1, rw (length-set links m v) is.2, rw (get_or-set_other links m n v 0 ne) (chain_set links (n + 1) (get_or links n 0) m v ns (omega (arith, is.1)) is.3))

-- there is one chain at a head
pub chain_once : (links : List ℕ) (low least head : ℕ) (c d : List ℕ) → 1 ≤ low → 1 ≤ least → IsChain links low head c → IsChain links least head d → c ≡ d
chain_once links low least head [] [] p q x y = refl
chain_once links low least head [] (n ∷ ns) p q x y = absurd (omega (arith, x, y.0, y.1))
chain_once links low least head (m ∷ ms) [] p q x y = absurd (omega (arith, y, x.0, x.1))
chain_once links low least head (m ∷ ms) (n ∷ ns) p q x y =
    let same : n ≡ m = sym y.0 ∙ x.0 in
    let rest : IsChain links (n + 1) (get_or links m 0) ns = ap-chain same y.3 in
    let more : ms ≡ ns = chain_once links (m + 1) (n + 1) (get_or links m 0) ms ns (omega arith) (omega arith) x.3 rest in
    cc
  where
    ap-chain : n ≡ m → IsChain links (n + 1) (get_or links n 0) ns → IsChain links (n + 1) (get_or links m 0) ns
    ap-chain e is = subst (λ k. IsChain links (n + 1) (get_or links k 0) ns) e is

pub chains_push : (links heads : List ℕ) (cs : List (List ℕ)) (head : ℕ) (c : List ℕ) → AreChains links heads cs → IsChain links 1 head c → AreChains links (heads ++ head ∷ []) (cs ++ c ∷ [])
chains_push links [] [] head c all is = (is, tt)
chains_push links [] (d ∷ ds) head c all is = absurd all
chains_push links (h ∷ hs) [] head c all is = absurd all
chains_push links (h ∷ hs) (d ∷ ds) head c all is = (all.0, chains_push links hs ds head c all.1 is)

-- the numbers from `n` on are chained by the marks that they had, and the marks of the others are as they were
pub record AreChainedFrom (marks links heads : List ℕ) (n : ℕ) : Type 0 where
  pub low : 1 ≤ n
  pub high : n ≤ length links
  pub long : length links ≡ length marks
  pub rest : (m : ℕ) → m < n → get_or links m 0 ≡ get_or marks m 0
  pub chains : (i : ℕ) → i < length heads → IsChain links n (get_or heads i 0) (numbers_where (λ x. x == i + 1) n (drop n marks))

pub none_chained : (marks heads : List ℕ) → 1 ≤ length marks → ((i : ℕ) → get_or heads i 0 ≡ 0) → AreChainedFrom marks marks heads (length marks)
none_chained marks heads some none = record {
  low = some;
  high = omega arith;
  long = refl;
  rest = λ m h. refl;
  chains = λ i h. let all : drop (length marks) marks ≡ [] = drop_whole marks in rw (all, none i) refl;
}
  where
    drop_whole : (xs : List ℕ) → drop (length xs) xs ≡ []
    drop_whole [] = refl
    drop_whole (x ∷ xs) = drop_whole xs

one_more : (t : ℕ → Bool) (marks : List ℕ) (m : ℕ) → m < length marks
    → numbers_where t m (drop m marks) ≡ cond (t (get_or marks m 0)) (m ∷ numbers_where t (m + 1) (drop (m + 1) marks)) (numbers_where t (m + 1) (drop (m + 1) marks))
one_more t marks m h = ap (numbers_where t m) (drop-cons marks m 0 h ∙ ap (λ k. get_or marks m 0 ∷ drop k marks) (sym (add-one m)))

-- a number without a mark
pub unmarked : (marks links heads : List ℕ) (m : ℕ) → AreChainedFrom marks links heads (m + 1) → 1 ≤ m → get_or links m 0 ≡ 0 → AreChainedFrom marks links heads m
unmarked marks links heads m c low none = record {
  low = low;
  high = omega (arith, c.high);
  long = c.long;
  rest = λ k h. c.rest k (omega arith);
  chains = λ i h.
      let was : get_or marks m 0 ≡ 0 = sym (c.rest m (omega arith)) ∙ none in
      let not_it : (get_or marks m 0 == i + 1) ≡ false = grind (arith, nat_tests, was) in
      let same : numbers_where (λ x. x == i + 1) m (drop m marks) ≡ numbers_where (λ x. x == i + 1) (m + 1) (drop (m + 1) marks) = one_more (λ x. x == i + 1) marks m (omega (arith, c.high, c.long)) ∙ rw not_it refl in
      rw same (chain_lower links (m + 1) m (get_or heads i 0) (numbers_where (λ x. x == i + 1) (m + 1) (drop (m + 1) marks)) (omega arith) (c.chains i h));
}

-- a number with a mark comes first in the chain of that mark
pub marked : (marks links heads : List ℕ) (m j : ℕ) → AreChainedFrom marks links heads (m + 1) → 1 ≤ m → get_or links m 0 ≡ j + 1 → j < length heads
    → AreChainedFrom marks (set links m (get_or heads j 0)) (set heads j m) m
marked marks links heads m j c low is within = record {
  low = low;
  high = rw (length-set links m (get_or heads j 0)) (omega (arith, c.high));
  long = length-set links m (get_or heads j 0) ∙ c.long;
  rest = λ k h. let ne : k ≢ m = omega arith in rw (get_or-set_other links m k (get_or heads j 0) 0 ne) (c.rest k (omega arith));
  chains = λ i h. by_eq i j (λ e. own i e) (λ n. other i n (rw (length-set heads j m) at h));
}
  where
    was : get_or marks m 0 ≡ j + 1
    was = sym (c.rest m (omega arith)) ∙ is

    own : (i : ℕ) → i ≡ j → IsChain (set links m (get_or heads j 0)) m (get_or (set heads j m) i 0) (numbers_where (λ x. x == i + 1) m (drop m marks))
    own i e =
        let it : (get_or marks m 0 == i + 1) ≡ true = grind (arith, nat_tests, was, e) in
        let same : numbers_where (λ x. x == i + 1) m (drop m marks) ≡ m ∷ numbers_where (λ x. x == i + 1) (m + 1) (drop (m + 1) marks) = one_more (λ x. x == i + 1) marks m (omega (arith, c.high, c.long)) ∙ rw it refl in
        let head : get_or (set heads j m) i 0 ≡ m = rw e (get_or-set_same heads j m 0 within) in
        let link : get_or (set links m (get_or heads j 0)) m 0 ≡ get_or heads i 0 = get_or-set_same links m (get_or heads j 0) 0 (omega (arith, c.high)) ∙ ap (λ k. get_or heads k 0) (sym e) in
        let more : IsChain (set links m (get_or heads j 0)) (m + 1) (get_or heads i 0) (numbers_where (λ x. x == i + 1) (m + 1) (drop (m + 1) marks)) =
        chain_set links (m + 1) (get_or heads i 0) m (get_or heads j 0) (numbers_where (λ x. x == i + 1) (m + 1) (drop (m + 1) marks)) (omega arith) (c.chains i (omega arith)) in
        rw same (head, omega arith, rw (length-set links m (get_or heads j 0)) (omega (arith, c.high)), rw link more)

    other : (i : ℕ) → i ≢ j → i < length heads → IsChain (set links m (get_or heads j 0)) m (get_or (set heads j m) i 0) (numbers_where (λ x. x == i + 1) m (drop m marks))
    other i n h =
        let not_it : (get_or marks m 0 == i + 1) ≡ false = grind (arith, nat_tests, was, n) in
        let same : numbers_where (λ x. x == i + 1) m (drop m marks) ≡ numbers_where (λ x. x == i + 1) (m + 1) (drop (m + 1) marks) = one_more (λ x. x == i + 1) marks m (omega (arith, c.high, c.long)) ∙ rw not_it refl in
        let head : get_or (set heads j m) i 0 ≡ get_or heads i 0 = get_or-set_other heads j i m 0 n in
        rw (same, head) (chain_lower (set links m (get_or heads j 0)) (m + 1) m (get_or heads i 0) (numbers_where (λ x. x == i + 1) (m + 1) (drop (m + 1) marks)) (omega arith)
        (chain_set links (m + 1) (get_or heads i 0) m (get_or heads j 0) (numbers_where (λ x. x == i + 1) (m + 1) (drop (m + 1) marks)) (omega arith) (c.chains i h)))

-- a walk along a chain: so many numbers are behind, the others ahead
pub record IsWalking (links : List ℕ) (head n : ℕ) (old numbers : List ℕ) : Type 0 where
  pub behind : List ℕ
  pub ahead : List ℕ
  pub low : ℕ
  pub above : 1 ≤ low
  pub whole : IsChain links 1 head (behind ++ ahead)
  pub rest : IsChain links low n ahead
  pub laid : numbers ≡ old ++ behind

pub walk_begins : (links : List ℕ) (head : ℕ) (old c : List ℕ) → IsChain links 1 head c → IsWalking links head head old old
walk_begins links head old c is = record { behind = []; ahead = c; low = 1; above = omega arith; whole = is; rest = is; laid = sym (append-nil old) }

-- a number that isn't 0 is the first ahead
pub walk_within : (links : List ℕ) (head n : ℕ) (old numbers : List ℕ) → IsWalking links head n old numbers → n ≢ 0 → n < length links
walk_within links head n old numbers w ne = at w.ahead w.rest
  where
    at : (c : List ℕ) → IsChain links w.low n c → n < length links
    at [] is = absurd (ne is)
    at (k ∷ ks) is = omega (arith, is.0, is.2)

-- its link is 0 or leads to a greater number
pub link_rises : (links : List ℕ) (head n : ℕ) (old numbers : List ℕ) → IsWalking links head n old numbers → n ≢ 0
    → cond (get_or links n 0 == 0) 0 (length links - get_or links n 0) < cond (n == 0) 0 (length links - n)
link_rises links head n old numbers w ne = at w.ahead w.rest
  where
    next : (k : ℕ) (c : List ℕ) → n < length links → IsChain links (n + 1) k c → cond (k == 0) 0 (length links - k) < cond (n == 0) 0 (length links - n)
    next k [] within is = grind (arith, nat_tests, is, ne)
    next k (m ∷ ms) within is = let up : n < k = omega (arith, is.0, is.1) in grind (arith, nat_tests, ne)

    at : (c : List ℕ) → IsChain links w.low n c → cond (get_or links n 0 == 0) 0 (length links - get_or links n 0) < cond (n == 0) 0 (length links - n)
    at [] is = absurd (ne is)
    at (k ∷ ks) is =
        let same : k ≡ n = sym is.0 in
        next (get_or links n 0) ks (omega (arith, is.0, is.2)) (subst (λ x. IsChain links (x + 1) (get_or links x 0) ks) same is.3)

pub walk_on : (links : List ℕ) (head n : ℕ) (old numbers more : List ℕ) → IsWalking links head n old numbers → n ≢ 0 → more ≡ numbers ++ n ∷ [] → IsWalking links head (get_or links n 0) old more
walk_on links head n old numbers more w ne pushed = at w.ahead w.rest w.whole
  where
    at : (c : List ℕ) → IsChain links w.low n c → IsChain links 1 head (w.behind ++ c) → IsWalking links head (get_or links n 0) old more
    at [] is whole = absurd (ne is)
    at (k ∷ ks) is whole =
        let same : k ≡ n = sym is.0 in
        record {
          behind = w.behind ++ n ∷ [];
          ahead = ks;
          low = n + 1;
          above = omega arith;
          whole = rw (append_assoc w.behind (n ∷ []) ks) (subst (λ x. IsChain links 1 head (w.behind ++ x ∷ ks)) same whole);
          rest = subst (λ x. IsChain links (x + 1) (get_or links x 0) ks) same is.3;
          laid = pushed ∙ ap (λ x. x ++ n ∷ []) w.laid ∙ append_assoc old w.behind (n ∷ []);
        }

pub walked : (links : List ℕ) (head n : ℕ) (old numbers : List ℕ) → IsWalking links head n old numbers → n ≡ 0 → (c : List ℕ) × IsChain links 1 head c × (numbers ≡ old ++ c)
walked links head n old numbers w e = at w.ahead w.rest w.whole
  where
    at : (c : List ℕ) → IsChain links w.low n c → IsChain links 1 head (w.behind ++ c) → (c : List ℕ) × IsChain links 1 head c × (numbers ≡ old ++ c)
    at [] is whole = (w.behind, subst (λ x. IsChain links 1 head x) (append-nil w.behind) whole, w.laid)
    at (k ∷ ks) is whole = absurd (omega (arith, is.0, is.1, w.above))

-- one more list
pub lists_push : (links heads : List ℕ) (i : ℕ) (ends numbers ends' numbers' : List ℕ) → i < length heads
    → AreEnds 0 ends (length numbers) → AreChains links (take i heads) (pieces 0 ends numbers)
    → ((c : List ℕ) × IsChain links 1 (get_or heads i 0) c × (numbers' ≡ numbers ++ c)) → ends' ≡ ends ++ length numbers' ∷ []
    → AreEnds 0 ends' (length numbers') × AreChains links (take (i + 1) heads) (pieces 0 ends' numbers')
lists_push links heads i ends numbers ends' numbers' within cut chains (c, chain, laid) pushed =
    let long : length numbers' ≡ length numbers + length c = ap length laid ∙ length-append numbers c in
    let ends_are : ends' ≡ ends ++ (length numbers + length c) ∷ [] = pushed ∙ ap (λ n. ends ++ n ∷ []) long in
    let more : take (i + 1) heads ≡ take i heads ++ get_or heads i 0 ∷ [] = take_more heads i 0 within in
    let lists : pieces 0 ends' numbers' ≡ pieces 0 ends numbers ++ c ∷ [] = rw (ends_are, laid) (pieces-push 0 ends numbers c cut) in (
      rw (ends_are, long) (ends-push 0 ends (length numbers) (length numbers + length c) cut (omega arith)),
      rw (more, lists) (chains_push links (take i heads) (pieces 0 ends numbers) (get_or heads i 0) c chains chain),
    )

-- the lists of chains, one by one
pub chains_count : (links heads : List ℕ) (lists : List (List ℕ)) → AreChains links heads lists → length lists ≡ length heads
chains_count links [] [] all = refl
chains_count links [] (c ∷ cs) all = absurd all
chains_count links (h ∷ hs) [] all = absurd all
chains_count links (h ∷ hs) (c ∷ cs) all = ap suc (chains_count links hs cs all.1)

pub chain_at : (links heads : List ℕ) (lists : List (List ℕ)) (i : ℕ) (c : List ℕ) → AreChains links heads lists → i < length heads → IsChain links 1 (get_or heads i 0) c → get_or lists i [] ≡ c
chain_at links [] lists i c all h is = absurd (omega arith)
chain_at links (h ∷ hs) [] i c all l is = absurd all
chain_at links (h ∷ hs) (d ∷ ds) zero c all l is = chain_once links 1 1 h d c (omega arith) (omega arith) all.0 is
chain_at links (h ∷ hs) (d ∷ ds) (suc i) c all l is = chain_at links hs ds i c all.1 (omega arith) is
