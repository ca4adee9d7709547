-- What the lines of a proof did is determined by the lines, and so is where loading stops.
use Rattle.std.proofs.Common.{◌≡◌, ◌∙◌, ℕ, Bool, refl, sym, ap, subst, inl, inr, List, [], ◌∷◌, ◌++◌, Option, Some, None}
use Rattle.sr_base.specs.Literal.{Literal}
use Rattle.sr_model.specs.Dsr.{Line, lemma_line, deletion_line}
use Rattle.sr_model.specs.Chain.{Numbered}
use Rattle.sr_model.proofs.Soundness.{by_test}
use Rattle.sr_trimming.specs.Loading.{Done, Standing, after_done, last_of, DeletionDid, Did, AllDid, Stop, at_conflict, at_empty_lemma, going_on, is_empty_lemma, StopsAfter, Loads}

deletion_once : (keep : Bool) (live : Numbered) (c : List Literal) (d e : Done) (o : Option ℕ) → DeletionDid keep live c d o → DeletionDid keep live c e o → d ≡ e
deletion_once keep live c d e None h g = h ∙ sym g
deletion_once keep live c d e (Some n) (inl h) (inl g) = h.1 ∙ sym g.1
deletion_once keep live c d e (Some n) (inl h) (inr g) = absurd (g.0 h.0)
deletion_once keep live c d e (Some n) (inr h) (inl g) = absurd (h.0 g.0)
deletion_once keep live c d e (Some n) (inr h) (inr g) = h.1 ∙ sym g.1

did_once : (keep : Bool) (live : Numbered) (l : Line) (d e : Done) → Did keep live l d → Did keep live l e → d ≡ e
did_once keep live (lemma_line l) d e h g = h ∙ sym g
did_once keep live (deletion_line c) d e h g = deletion_once keep live c d e (last_of live c) h g

-- the first of some lines, and the others
first_of : List Line → Line → Line
first_of [] d = d
first_of (l ∷ ls) d = l

others : List Line → List Line
others [] = []
others (l ∷ ls) = ls

same_first : (l k : Line) (ls ks : List Line) → l ∷ ls ≡ k ∷ ks → l ≡ k
unfolding first_of
same_first l k ls ks e = ap (λ xs. first_of xs l) e

same_others : (l k : Line) (ls ks : List Line) → l ∷ ls ≡ k ∷ ks → ls ≡ ks
unfolding others
same_others l k ls ks e = ap others e

no_first : (l : Line) (ls ks rest : List Line) → (l ∷ ls) ++ ks ≡ [] → ⊥
no_first l ls ks rest e = cc

abbrev Same : List Done → List Done → Stop → Stop → Type 0
Same ds es s t = (ds ≡ es) × (s ≡ t)

-- one more line that did the same
same_more : (d e : Done) (ds es : List Done) (s t : Stop) → d ≡ e → Same ds es s t → Same (d ∷ ds) (e ∷ es) s t
same_more d e ds es s t h g = (ap (λ x. x ∷ ds) h ∙ ap (λ xs. e ∷ xs) g.0, g.1)

-- nothing is left to do where one loading stopped; so it stopped for the other too
none_left : (keep : Bool) (st : Standing) (taken rest : List Line) (ds : List Done) (s t : Stop) → [] ≡ taken ++ rest → AllDid keep st taken ds
    → StopsAfter st [] s → StopsAfter st ds t → Same [] ds s t
none_left keep st [] rest [] at_conflict at_conflict e a h g = (refl, refl)
none_left keep st [] rest [] at_conflict at_empty_lemma e a h g = absurd g
none_left keep st [] rest [] at_conflict going_on e a h g = absurd (g h)
none_left keep st [] rest [] at_empty_lemma t e a h g = absurd h
none_left keep st [] rest [] going_on at_conflict e a h g = absurd (h g)
none_left keep st [] rest [] going_on at_empty_lemma e a h g = absurd g
none_left keep st [] rest [] going_on going_on e a h g = (refl, refl)
none_left keep st [] rest (d ∷ ds) s t e a h g = absurd a
none_left keep st (l ∷ ls) rest ds s t e a h g = absurd cc

-- where one loading took nothing, the other takes nothing
stopped_same : (keep : Bool) (st : Standing) (taken rest rest' : List Line) (ds : List Done) (s t : Stop) → rest' ≡ taken ++ rest → AllDid keep st taken ds
    → StopsAfter st [] s → StopsAfter st ds t → (s ≡ going_on → rest' ≡ []) → Same [] ds s t
stopped_same keep st [] rest rest' [] s t e a h g all = none_left keep st [] [] [] s t refl a h g
stopped_same keep st [] rest rest' (d ∷ ds) s t e a h g all = absurd a
stopped_same keep st (l ∷ ls) rest rest' [] s t e a h g all = absurd a
stopped_same keep st (l ∷ ls) rest rest' (d ∷ ds) at_conflict t e a h g all = absurd (g.0 h)
stopped_same keep st (l ∷ ls) rest rest' (d ∷ ds) at_empty_lemma t e a h g all = absurd h
stopped_same keep st (l ∷ ls) rest rest' (d ∷ ds) going_on t e a h g all = let bad : [] ≡ (l ∷ ls) ++ rest = sym (all refl) ∙ e in absurd cc

loaded_once : (keep : Bool) (st : Standing) (xs bs ys bs' : List Line) (ds es : List Done) (s t : Stop) → xs ++ bs ≡ ys ++ bs' → AllDid keep st xs ds → AllDid keep st ys es
    → StopsAfter st ds s → StopsAfter st es t → (s ≡ going_on → bs ≡ []) → (t ≡ going_on → bs' ≡ []) → Same ds es s t
loaded_once keep st [] bs ys bs' [] es s t e a b h g all all' = stopped_same keep st ys bs' bs es s t e b h g all
loaded_once keep st [] bs ys bs' (d ∷ ds) es s t e a b h g all all' = absurd a
loaded_once keep st (l ∷ ls) bs ys bs' [] es s t e a b h g all all' = absurd a
loaded_once keep st (l ∷ ls) bs [] bs' (d ∷ ds) [] s t e a b h g all all' =
    let r = stopped_same keep st (l ∷ ls) bs bs' (d ∷ ds) t s (sym e) a g h all' in (sym r.0, sym r.1)
loaded_once keep st (l ∷ ls) bs [] bs' (d ∷ ds) (x ∷ es) s t e a b h g all all' = absurd b
loaded_once keep st (l ∷ ls) bs (k ∷ ks) bs' (d ∷ ds) [] s t e a b h g all all' = absurd b
loaded_once keep st (l ∷ ls) bs (k ∷ ks) bs' (d ∷ ds) (x ∷ es) s t e a b h g all all' =
    let line : l ≡ k = same_first l k (ls ++ bs) (ks ++ bs') e in
    let did : d ≡ x = did_once keep st.alive l d x a.0 (subst (λ y. Did keep st.alive y x) (sym line) b.0) in
    let later : AllDid keep (after_done st d) ks es = subst (λ y. AllDid keep (after_done st y) ks es) (sym did) b.1 in
    let stops : StopsAfter st (d ∷ es) t = subst (λ y. StopsAfter st (y ∷ es) t) (sym did) g in
    by_test (is_empty_lemma d)
    (λ f. let p = rw f at h.1 in let q = rw f at stops.1 in same_more d x ds es s t did (p.0 ∙ sym q.0, p.1 ∙ sym q.1))
    (λ f. same_more d x ds es s t did (loaded_once keep (after_done st d) ls bs ks bs' ds es s t (same_others l k (ls ++ bs) (ks ++ bs') e) a.1 later (rw f at h.1) (rw f at stops.1) all all'))

pub loads_once : (keep : Bool) (f : List (List Literal)) (proof : List Line) (ds es : List Done) (s t : Stop) → Loads keep f proof ds s → Loads keep f proof es t → Same ds es s t
loads_once keep f proof ds es s t l m = loaded_once keep _ l.taken l.rest m.taken m.rest ds es s t (sym l.split ∙ m.split) l.did m.did l.stops m.stops l.all_taken m.all_taken
