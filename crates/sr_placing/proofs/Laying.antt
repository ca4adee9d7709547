-- Items are laid one after another.
use Rattle.std.proofs.Common.{◌≡◌, ℕ, suc, ◌+◌, ◌<◌, not, ◌&&◌, ◌||◌, List, [], ◌∷◌, ◌++◌, refl, sym, ◌∙◌, ap, subst, arith, length, get_or, take, append_assoc, append-nil}
use Rattle.std.specs.Prelude.{filter}
use Rattle.std.proofs.lemmas.List.{take_more, take_all, length_push}
use Rattle.sr_base.specs.Literal.{Literal}
use Rattle.sr_base.specs.declared.names.Form.{Form}
use Rattle.sr_model.specs.Assignment.{holds_number}
use Rattle.sr_model.specs.Chain.{Numbered}
use Rattle.sr_model.specs.Meeting.{Step}
use Rattle.sr_model.specs.Judging.{Item, stepped, numbered_from}
use Rattle.sr_model.specs.Writing.{written_item, written_items}
use Rattle.sr_trimming.specs.Citing.{cites, groups_cite, is_cited}
use Rattle.sr_trimming.specs.Placing.{numbers, deletion, last_cited, placed_from, uncited, placed}
use Rattle.sr_trimming.specs.Reordered.{IsStepRewritten, AreStepsRewritten}
use Rattle.sr_trimming.proofs.Placed.{known_after}
use Rattle.sr_placing.specs.Placing.{drops_from}
use Rattle.sr_placing.proofs.Ranging.{filter_same, numbers_filter}

-- the bytes of items one after another
pub items_append : (form : Form) (xs ys : List Item) → written_items form (xs ++ ys) ≡ written_items form xs ++ written_items form ys
items_append form [] ys = refl
items_append form (x ∷ xs) ys = ap (λ l. written_item form x ++ l) (items_append form xs ys) ∙ sym (append_assoc (written_item form x) (written_items form xs) (written_items form ys))

pub deletion_append : (id : ℕ) (ids : List ℕ) (xs ys : List Item) → deletion id ids xs ++ ys ≡ deletion id ids (xs ++ ys)
deletion_append id [] xs ys = refl
deletion_append id (n ∷ ns) xs ys = refl

-- steps, each with the deletion of a list after it
abbrev pub laid : List (List ℕ) → List Step → List Item
laid ds [] = []
laid [] (t ∷ ts) = stepped t ∷ laid [] ts
laid (d ∷ ds) (t ∷ ts) = stepped t ∷ deletion t.id d (laid ds ts)

pub laid_push : (ds : List (List ℕ)) (ts : List Step) (t : Step) → length ts < length ds → laid ds (ts ++ t ∷ []) ≡ laid ds ts ++ stepped t ∷ deletion t.id (get_or ds (length ts) []) []
laid_push [] ts t h = absurd (omega arith)
laid_push (d ∷ ds) [] t h = refl
laid_push (d ∷ ds) (x ∷ ts) t h =
    ap (λ l. stepped x ∷ deletion x.id d l) (laid_push ds ts t (omega arith))
    ∙ ap (λ l. stepped x ∷ l) (sym (deletion_append x.id d (laid ds ts) (stepped t ∷ deletion t.id (get_or ds (length ts) []) [])))

-- rewritten steps cite the same
cites_same : (n : ℕ) (s t : Step) → IsStepRewritten s t → cites n s ≡ cites n t
cites_same n s t r = ap (λ x. holds_number n x || groups_cite n s.groups) r.prefix ∙ ap (λ x. holds_number n t.prefix || groups_cite n x) r.groups

pub cited_same : (n : ℕ) (ss ts : List Step) → AreStepsRewritten ss ts → is_cited n ss ≡ is_cited n ts
cited_same n [] [] r = refl
cited_same n [] (t ∷ ts) r = absurd r
cited_same n (s ∷ ss) [] r = absurd r
cited_same n (s ∷ ss) (t ∷ ts) r = ap (λ b. b || is_cited n ss) (cites_same n s t r.0) ∙ ap (λ b. cites n t || b) (cited_same n ss ts r.1)

pub last_same : (known mem : Numbered) (s t : Step) (ss ts : List Step) → numbers known ≡ numbers mem → IsStepRewritten s t → AreStepsRewritten ss ts → last_cited known s ss ≡ last_cited mem t ts
last_same known mem s t ss ts e r rs =
    numbers_filter (λ n. cites n s && not (is_cited n ss)) known
    ∙ filter_same (λ n. cites n s && not (is_cited n ss)) (λ n. cites n t && not (is_cited n ts)) (numbers known)
    (λ n. ap (λ b. b && not (is_cited n ss)) (cites_same n s t r) ∙ ap (λ b. cites n t && not b) (cited_same n ss ts rs))
    ∙ ap (filter (λ n. cites n t && not (is_cited n ts))) e ∙ sym (numbers_filter (λ n. cites n t && not (is_cited n ts)) mem)

numbers_append : (xs ys : Numbered) → numbers (xs ++ ys) ≡ numbers xs ++ numbers ys
numbers_append [] ys = refl
numbers_append (x ∷ xs) ys = ap (λ l. x.0 ∷ l) (numbers_append xs ys)

pub known_same : (known mem : Numbered) (s t : Step) → numbers known ≡ numbers mem → IsStepRewritten s t → numbers (known_after known s) ≡ numbers (known_after mem t)
known_same known mem s t e r =
    numbers_append known ((s.id, s.clause) ∷ []) ∙ ap (λ l. l ++ s.id ∷ []) e ∙ ap (λ n. numbers mem ++ n ∷ []) r.id ∙ sym (numbers_append mem ((t.id, t.clause) ∷ []))

pub uncited_same : (f : List (List Literal)) (ss ts : List Step) → AreStepsRewritten ss ts → uncited f ss ≡ uncited f ts
uncited_same f ss ts r =
    numbers_filter (λ n. not (is_cited n ss)) (numbered_from 1 f)
    ∙ filter_same (λ n. not (is_cited n ss)) (λ n. not (is_cited n ts)) (numbers (numbered_from 1 f)) (λ n. ap not (cited_same n ss ts r))
    ∙ sym (numbers_filter (λ n. not (is_cited n ts)) (numbered_from 1 f))

placed_more : (known : Numbered) (x t : Step) (ts : List Step) → placed_from known (x ∷ (ts ++ t ∷ [])) ≡ stepped x ∷ deletion x.id (last_cited known x (ts ++ t ∷ [])) (placed_from (known_after known x) (ts ++ t ∷ []))
placed_more known x t [] = refl
placed_more known x t (y ∷ ts) = refl

-- steps with their deletions, and the last one, are placed
pub all_laid : (known mem : Numbered) (ss ts : List Step) (t : Step) → numbers known ≡ numbers mem → AreStepsRewritten ss (ts ++ t ∷ []) → placed_from mem (ts ++ t ∷ []) ≡ laid (drops_from known ss) ts ++ stepped t ∷ []
all_laid known mem [] [] t e r = absurd r
all_laid known mem [] (x ∷ ts) t e r = absurd r
all_laid known mem (s ∷ ss) [] t e r = refl
all_laid known mem (s ∷ ss) (x ∷ ts) t e r =
    let dropped_same : last_cited mem x (ts ++ t ∷ []) ≡ last_cited known s ss = sym (last_same known mem s x ss (ts ++ t ∷ []) e r.0 r.1) in
    let more = all_laid (known_after known s) (known_after mem x) ss ts t (known_same known mem s x e r.0) r.1 in
    placed_more mem x t ts ∙ ap (λ d. stepped x ∷ deletion x.id d (placed_from (known_after mem x) (ts ++ t ∷ []))) dropped_same
    ∙ ap (λ l. stepped x ∷ deletion x.id (last_cited known s ss) l) more
    ∙ ap (λ l. stepped x ∷ l) (sym (deletion_append x.id (last_cited known s ss) (laid (drops_from (known_after known s) ss) ts) (stepped t ∷ [])))

-- the items of the steps so far: the first deletion, and each step with its own
abbrev pub items_so_far : List (List Literal) → List Step → List Step → List Item
items_so_far f ss ts = deletion (length f) (uncited f ss) [] ++ laid (drops_from (numbered_from 1 f) ss) ts

pub record AreLaid (ss : List Step) (i : ℕ) (ts : List Step) : Type 0 where
  pub count : length ts ≡ i
  pub rewritten : AreStepsRewritten (take i ss) ts

pub none_laid : (ss : List Step) → AreLaid ss 0 []
none_laid ss = record { count = refl; rewritten = tt }

rewritten_push : (ss ts : List Step) (s t : Step) → AreStepsRewritten ss ts → IsStepRewritten s t → AreStepsRewritten (ss ++ s ∷ []) (ts ++ t ∷ [])
rewritten_push [] [] s t rs r = (r, tt)
rewritten_push [] (y ∷ ts) s t rs r = absurd rs
rewritten_push (x ∷ ss) [] s t rs r = absurd rs
rewritten_push (x ∷ ss) (y ∷ ts) s t rs r = (rs.0, rewritten_push ss ts s t rs.1 r)

pub one_laid : (ss ts : List Step) (i : ℕ) (s t : Step) → AreLaid ss i ts → i < length ss → ((d : Step) → get_or ss i d ≡ s) → IsStepRewritten s t → AreLaid ss (i + 1) (ts ++ t ∷ [])
one_laid ss ts i s t a h is r = record {
  count = length_push ts t ∙ ap (λ m. m + 1) a.count;
  rewritten = rw (take_more ss i s h, is s) (rewritten_push (take i ss) ts s t a.rewritten r);
}

-- the bytes of one more step with its deletion
pub one_more_bytes : (form : Form) (f : List (List Literal)) (ss ts : List Step) (i : ℕ) (s t : Step) → AreLaid ss i ts → i < length (drops_from (numbered_from 1 f) ss) → IsStepRewritten s t
    → (written_items form (items_so_far f ss ts) ++ written_item form (stepped t)) ++ written_items form (deletion s.id (get_or (drops_from (numbered_from 1 f) ss) i []) [])
    ≡ written_items form (items_so_far f ss (ts ++ t ∷ []))
one_more_bytes form f ss ts i s t a h r =
    let drops : List (List ℕ) = drops_from (numbered_from 1 f) ss in
    let first : List Item = deletion (length f) (uncited f ss) [] in
    let same_drop : deletion s.id (get_or drops i []) [] ≡ deletion t.id (get_or drops (length ts) []) [] =
    ap (λ m. deletion m (get_or drops i []) []) r.id ∙ ap (λ (m : ℕ). deletion t.id (get_or drops m []) []) (sym a.count) in
    let more : first ++ laid drops (ts ++ t ∷ []) ≡ (first ++ laid drops ts) ++ stepped t ∷ deletion t.id (get_or drops (length ts) []) [] =
    ap (λ l. first ++ l) (laid_push drops ts t (omega (arith, a.count))) ∙ sym (append_assoc first (laid drops ts) (stepped t ∷ deletion t.id (get_or drops (length ts) []) [])) in
    append_assoc (written_items form (first ++ laid drops ts)) (written_item form (stepped t)) (written_items form (deletion s.id (get_or drops i []) []))
    ∙ ap (λ l. written_items form (first ++ laid drops ts) ++ (written_item form (stepped t) ++ written_items form l)) same_drop
    ∙ sym (ap (written_items form) more ∙ items_append form (first ++ laid drops ts) (stepped t ∷ deletion t.id (get_or drops (length ts) []) []))

-- the bytes of the last step
pub last_bytes : (form : Form) (f : List (List Literal)) (ss ts : List Step) (i : ℕ) (s : Step) → AreLaid ss i ts → i + 1 ≡ length ss → ((d : Step) → get_or ss i d ≡ s)
    → IsStepRewritten s s → AreStepsRewritten ss (ts ++ s ∷ []) × (written_items form (items_so_far f ss ts) ++ written_item form (stepped s) ≡ written_items form (placed f (ts ++ s ∷ [])))
last_bytes form f ss ts i s a long is same =
    let drops : List (List ℕ) = drops_from (numbered_from 1 f) ss in
    let pushed : AreStepsRewritten (take (i + 1) ss) (ts ++ s ∷ []) = (one_laid ss ts i s s a (omega arith) is same).rewritten in
    let rewritten : AreStepsRewritten ss (ts ++ s ∷ []) = subst (λ l. AreStepsRewritten l (ts ++ s ∷ [])) (take_all (i + 1) ss (omega arith)) pushed in
    let items : placed f (ts ++ s ∷ []) ≡ items_so_far f ss ts ++ stepped s ∷ [] =
    ap (λ u. deletion (length f) u (placed_from (numbered_from 1 f) (ts ++ s ∷ []))) (sym (uncited_same f ss (ts ++ s ∷ []) rewritten))
    ∙ ap (λ l. deletion (length f) (uncited f ss) l) (all_laid (numbered_from 1 f) (numbered_from 1 f) ss ts s refl rewritten)
    ∙ sym (deletion_append (length f) (uncited f ss) [] (laid drops ts ++ stepped s ∷ []))
    ∙ sym (append_assoc (deletion (length f) (uncited f ss) []) (laid drops ts) (stepped s ∷ [])) in (
      rewritten,
      ap (λ l. written_items form (items_so_far f ss ts) ++ l) (sym (append-nil (written_item form (stepped s))))
          ∙ sym (ap (written_items form) items ∙ items_append form (items_so_far f ss ts) (stepped s ∷ [])),
    )

pub drops_count : (known : Numbered) (ss : List Step) → length (drops_from known ss) ≡ length ss
drops_count known [] = refl
drops_count known (s ∷ ss) = ap suc (drops_count (known_after known s) ss)
