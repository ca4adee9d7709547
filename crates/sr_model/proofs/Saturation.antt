-- Lemmas on the plain test.
use Rattle.std.proofs.Common.{◌≡◌, ◌≢◌, ◌<◌, ◌≤◌, ◌+◌, ◌↔◌, inl, inr, ℕ, suc, zero, Bool, true, false, cond, ◌||◌, List, [], ◌∷◌, ◌++◌, refl, sym, ◌∙◌, ap, subst, arith, length, get_or, take, IsTrue}
use Rattle.std.proofs.lemmas.List.{take_more}
use Rattle.sr_base.specs.Literal.{Literal, complement, same, has}
use Rattle.sr_base.proofs.Literals.{same_tells, has_append}
use Rattle.sr_model.specs.Refutation.{IsClosedFor, IsClosed, Includes, has_empty, Refutes}
use Rattle.sr_model.specs.Substitution.{has_pair}
use Rattle.sr_model.specs.Propagation.{is_forced, IsNewIn, IsNewOf}
use Rattle.sr_model.proofs.Soundness.{by_test, all_literals}
use Rattle.sr_model.proofs.Chains.{pair_refutes, pair_from}

-- none of the literals is forced and lacking
pub record NoneNew (b c ls : List Literal) : Type 0 where
  pub none : (l : Literal) → has l ls ≡ true → is_forced b c l ≡ true → has l b ≡ true

pub forced_tells : (b ks : List Literal) (l : Literal) → is_forced b ks l ≡ true → (k : Literal) → has k ks ≡ true → k ≢ l → has (complement k) b ≡ true
forced_tells b [] l f k h ne = absurd cc
forced_tells b (j ∷ ks) l f k h ne = grind (arith, forced_tells b ks l, same_tells j k, same_tells j l, ne)

pub forced_from : (b ks : List Literal) (l : Literal) → ((k : Literal) → has k ks ≡ true → k ≢ l → has (complement k) b ≡ true) → is_forced b ks l ≡ true
forced_from b [] l f = refl
forced_from b (j ∷ ks) l f =
    let rest : is_forced b ks l ≡ true = forced_from b ks l (λ k h ne. f k (grind arith) ne) in
    by_test (same j l) (λ e. grind arith) (λ e. let ne : j ≢ l = grind (arith, same_tells j l) in grind (arith, f j (grind (arith, same_tells j j)) ne))

pub closed_from_none : (b c : List Literal) → NoneNew b c c → IsClosedFor b c
closed_from_none b c n l h others = n.none l h (forced_from b c l others)

pub none_start : (b c : List Literal) → NoneNew b c []
none_start b c = record { none = λ l h f. absurd cc }

pub none_more : (b c : List Literal) (i : ℕ) (l : Literal) → i < length c → l ≡ get_or c i l → NoneNew b c (take i c) → (is_forced b c l ≡ true → has l b ≡ true) → NoneNew b c (take (i + 1) c)
none_more b c i l within is n step = record {
  none = λ k h f.
      let more : take (i + 1) c ≡ take i c ++ l ∷ [] = take_more c i l within ∙ ap (λ x. take i c ++ x ∷ []) (sym is) in
      let g : has k (take i c ++ l ∷ []) ≡ true = sym (ap (has k) more) ∙ h in
      by_test (same l k)
      (λ e. let is_k : l ≡ k = grind (arith, same_tells l k) in subst (λ j. has j b ≡ true) is_k (step (subst (λ j. is_forced b c j ≡ true) (sym is_k) f)))
      (λ e. n.none k (grind (arith, has_append k (take i c) (l ∷ []))) f);
}

pub closed-push : (b : List Literal) (cs : List (List Literal)) (c : List Literal) → IsClosed b cs → IsClosedFor b c → IsClosed b (cs ++ c ∷ [])
closed-push b [] c h f = (f, tt)
closed-push b (d ∷ cs) c h f = (h.0, closed-push b cs c h.1 f)

pub closed_more : (b : List Literal) (cs : List (List Literal)) (i : ℕ) (c : List Literal) → i < length cs → c ≡ get_or cs i c → IsClosed b (take i cs) → IsClosedFor b c → IsClosed b (take (i + 1) cs)
closed_more b cs i c h e cl f = rw (take_more cs i c h, ← e) (closed-push b (take i cs) c cl f)

pub has_at : (ls : List Literal) (i : ℕ) (l : Literal) → i < length ls → l ≡ get_or ls i l → has l ls ≡ true
has_at [] i l h e = absurd (omega arith)
has_at (k ∷ ls) zero l h e = grind (arith, same_tells k l)
has_at (k ∷ ls) (suc i) l h e = grind (arith, has_at ls i l (omega arith) e)

pub new_at : (b : List Literal) (cs : List (List Literal)) (i : ℕ) (c : List Literal) (l : Literal) → i < length cs → c ≡ get_or cs i c → IsNewIn b c l → IsNewOf b cs l
new_at b [] i c l h e n = absurd (omega arith)
new_at b (d ∷ cs) zero c l h e n = inl (subst (λ x. IsNewIn b x l) e n)
new_at b (d ∷ cs) (suc i) c l h e n = inr (new_at b cs i c l (omega arith) e n)

-- how many of the literals a set lacks
abbrev pub lacking : List Literal → List Literal → ℕ
lacking b [] = 0
lacking b (l ∷ ls) = cond (has l b) (lacking b ls) (suc (lacking b ls))

lacking_le : (b ls : List Literal) (l : Literal) → lacking (b ++ l ∷ []) ls ≤ lacking b ls
lacking_le b [] l = omega arith
lacking_le b (k ∷ ls) l = grind (arith, lacking_le b ls l, has_append k b (l ∷ []))

lacking_lt : (b ls : List Literal) (l : Literal) → has l ls ≡ true → has l b ≡ false → lacking (b ++ l ∷ []) ls < lacking b ls
lacking_lt b [] l h n = absurd cc
lacking_lt b (k ∷ ls) l h n = by_test (same k l)
    (λ e. let is : k ≡ l = grind (arith, same_tells k l) in grind (arith, lacking_le b ls l, has_append k b (l ∷ []), same_tells l k))
    (λ e. grind (arith, lacking_lt b ls l, has_append k b (l ∷ []), same_tells l k, same_tells k l))

new_is_literal : (b : List Literal) (cs : List (List Literal)) (l : Literal) → IsNewOf b cs l → (has l (all_literals cs) ≡ true) × (has l b ≡ false)
new_is_literal b [] l f = elim f [ ]
new_is_literal b (c ∷ cs) l (inl n) = (grind (arith, has_append l c (all_literals cs), n.of_clause), n.is_new)
new_is_literal b (c ∷ cs) l (inr n) = let r = new_is_literal b cs l n in (grind (arith, has_append l c (all_literals cs), r.0), r.1)

pub measure_falls : (b : List Literal) (cs : List (List Literal)) (l : Literal) → IsNewOf b cs l → lacking (b ++ l ∷ []) (all_literals cs) < lacking b (all_literals cs)
measure_falls b cs l n = let r = new_is_literal b cs l n in lacking_lt b (all_literals cs) l r.0 r.1

-- a set between the assumed literals and each closed set that has these
pub record IsReached (cs : List (List Literal)) (a set : List Literal) : Type 0 where
  pub has_assumed : Includes a set
  pub is_least : (b : List Literal) → Includes a b → IsClosed b cs → Includes set b

pub reached_start : (cs : List (List Literal)) (a : List Literal) → IsReached cs a a
reached_start cs a = record { has_assumed = λ l h. h; is_least = λ b inc cl. inc }

new_in_closed : (set b : List Literal) (cs : List (List Literal)) (l : Literal) → Includes set b → IsClosed b cs → IsNewOf set cs l → has l b ≡ true
new_in_closed set b [] l inc cl n = elim n [ ]
new_in_closed set b (c ∷ cs) l inc cl (inl n) = cl.0 l n.of_clause (λ k h ne. inc (complement k) (forced_tells set c l n.forced k h ne))
new_in_closed set b (c ∷ cs) l inc cl (inr n) = new_in_closed set b cs l inc cl.1 n

pub reached_more : (cs : List (List Literal)) (a set : List Literal) (l : Literal) → IsReached cs a set → IsNewOf set cs l → IsReached cs a (set ++ l ∷ [])
reached_more cs a set l r n = record {
  has_assumed = λ k h. let g : has k set ≡ true = r.has_assumed k h in grind (arith, has_append k set (l ∷ []));
  is_least = λ b inc cl k h.
      let in_b : Includes set b = r.is_least b inc cl in
      let new : has l b ≡ true = new_in_closed set b cs l in_b cl n in
      grind (arith, has_append k set (l ∷ []), same_tells l k, in_b k);
}

-- the answer at the end
pub answer_is : (cs : List (List Literal)) (a set : List Literal) (answer : Bool) → IsReached cs a set → IsClosed set cs → answer ≡ (has_empty cs || has_pair set) → IsTrue answer ↔ Refutes cs a
answer_is cs a set answer r cl e = (λ t. there (grind arith), λ f. back f)
  where
    there : (has_empty cs || has_pair set) ≡ true → Refutes cs a
    there t = by_test (has_empty cs) (λ h. inl h) (λ h. inr (λ b inc clb. pair_refutes set cs (grind arith) b (r.is_least b inc clb) clb))

    back : Refutes cs a → IsTrue answer
    back (inl h) = grind arith
    back (inr f) = let p = pair_from set (f set r.has_assumed cl) in grind arith
