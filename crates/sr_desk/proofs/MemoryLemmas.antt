-- What single changes do to the slots of a desk in memory.
use Rattle.std.proofs.Common.{◌≡◌, ◌≢◌, ◌⊎◌, inl, inr, ℕ, zero, suc, ◌+◌, ◌<◌, ◌≤◌, Bool, true, false, IsTrue, List, [], ◌∷◌, ◌++◌, length, set, Option, Some, None, refl, sym, ◌∙◌, ap, arith, length-append, length-set}
use Rattle.std.specs.Str.{bytes_eq}
use Rattle.std.proofs.lemmas.List.{get_or-set_same, get_or-set_other, get_or_append_left, take-append-le}
use Rattle.std.proofs.Math.Seq.{get_or-append_seam}
use Rattle.std.proofs.lemmas.Bool.Decides.{nat_tests}
use Rattle.std.proofs.lemmas.Slice.Eq.{bytes_eq-Decides}
use Rattle.sr_desk.specs.declared.held.Usage.{Usage}
use Rattle.sr_desk.specs.declared.held.Usage.TheVariants.{Unused, Reading, Writing, Output}
use Rattle.sr_desk.specs.MemoryParts.{text_at, usage_at, last_below, latest, file_in, given_by, left_by, sent_by, written_by, reads_by, fits, apart, is_named, name_at, AllFit, AllApart, AllNamed, AllUnused, more_texts}

-- the slot that was changed, and the others
pub usage-set : (uses : List Usage) (i : ℕ) (u : Usage) (n : ℕ) → (usage_at (set uses i u) n ≡ u) ⊎ (usage_at (set uses i u) n ≡ usage_at uses n)
usage-set [] zero u n = inr refl
usage-set [] (suc i) u n = inr refl
usage-set (x ∷ xs) zero u zero = inl refl
usage-set (x ∷ xs) zero u (suc n) = inr refl
usage-set (x ∷ xs) (suc i) u zero = inr refl
usage-set (x ∷ xs) (suc i) u (suc n) = usage-set xs i u n

pub AllFit-set : (texts : List (List ℕ)) (uses : List Usage) (i : ℕ) (u : Usage) → AllFit texts uses → IsTrue (fits texts u) → AllFit texts (set uses i u)
AllFit-set texts uses i u all fit n = elim (usage-set uses i u n) [ inl e ↦ rw e fit | inr e ↦ rw e (all n) ]

apart-sym : (u w : Usage) → IsTrue (apart u w) → IsTrue (apart w u)
apart-sym Unused Unused h = h
apart-sym Unused (Reading _ _ _) h = h
apart-sym Unused (Writing _) h = h
apart-sym Unused Output h = h
apart-sym (Reading _ _ _) Unused h = h
apart-sym (Reading _ _ _) (Reading _ _ _) h = h
apart-sym (Reading _ _ _) (Writing _) h = h
apart-sym (Reading _ _ _) Output h = h
apart-sym (Writing _) Unused h = h
apart-sym (Writing _) (Reading _ _ _) h = h
apart-sym (Writing v) (Writing w) h = grind (arith, nat_tests)
apart-sym (Writing _) Output h = h
apart-sym Output Unused h = h
apart-sym Output (Reading _ _ _) h = h
apart-sym Output (Writing _) h = h
apart-sym Output Output h = h

pub apart-reading : (v p q : ℕ) (w : Usage) → IsTrue (apart (Reading v p q) w)
apart-reading v p q w = refl

-- a text begun now is apart from those there are
pub apart-new : (texts : List (List ℕ)) (w : Usage) → IsTrue (fits texts w) → IsTrue (apart (Writing (length texts)) w)
apart-new texts Unused h = refl
apart-new texts (Reading v p q) h = refl
apart-new texts (Writing v) h = grind (arith, nat_tests)
apart-new texts Output h = refl

pub usage-set_same : (uses : List Usage) (i : ℕ) (u : Usage) → i < length uses → usage_at (set uses i u) i ≡ u
usage-set_same uses i u lt = get_or-set_same uses i u Unused lt

pub usage-set_other : (uses : List Usage) (i j : ℕ) (u : Usage) → j ≢ i → usage_at (set uses i u) j ≡ usage_at uses j
usage-set_other uses i j u ne = get_or-set_other uses i j u Unused ne

set_past : (uses : List Usage) (i : ℕ) (u : Usage) → length uses ≤ i → set uses i u ≡ uses
set_past [] zero u le = refl
set_past [] (suc i) u le = refl
set_past (x ∷ xs) zero u le = absurd (omega arith)
set_past (x ∷ xs) (suc i) u le = ap (λ l. x ∷ l) (set_past xs i u (omega arith))

pub AllApart-set : (uses : List Usage) (i : ℕ) (u : Usage) → i < length uses → AllApart uses → ((j : ℕ) → j ≢ i → IsTrue (apart u (usage_at uses j))) → AllApart (set uses i u)
AllApart-set uses i u lt all new j k ne = go (usage-set_same uses i u lt) (cases j i) (cases k i)
  where
    cases : (a b : ℕ) → (a ≡ b) ⊎ (a ≢ b)
    cases a b = grind arith

    go : usage_at (set uses i u) i ≡ u → (j ≡ i) ⊎ (j ≢ i) → (k ≡ i) ⊎ (k ≢ i) → IsTrue (apart (usage_at (set uses i u) j) (usage_at (set uses i u) k))
    go same (inl a) (inl b) = absurd (ne (a ∙ sym b))
    go same (inl a) (inr b) = rw (a, same, usage-set_other uses i k u b) (new k b)
    go same (inr a) (inl b) = rw (b, same, usage-set_other uses i j u a) (apart-sym u (usage_at uses j) (new j a))
    go same (inr a) (inr b) = rw (usage-set_other uses i j u a, usage-set_other uses i k u b) (all j k ne)

-- one more text
pub fits-push : (texts : List (List ℕ)) (t : List ℕ) (u : Usage) → IsTrue (fits texts u) → IsTrue (fits (texts ++ t ∷ []) u)
fits-push texts t Unused h = h
fits-push texts t (Reading v p q) h =
    let lt : v < length texts = grind (arith, nat_tests) in
    rw (get_or_append_left texts (t ∷ []) [] v lt) (grind (arith, nat_tests, length-append))
fits-push texts t (Writing v) h = grind (arith, nat_tests, length-append)
fits-push texts t Output h = h

pub left-push : (texts : List (List ℕ)) (t : List ℕ) (u : Usage) → IsTrue (fits texts u) → left_by (texts ++ t ∷ []) u ≡ left_by texts u
left-push texts t Unused h = refl
left-push texts t (Reading v p q) h =
    let lt : v < length texts = grind (arith, nat_tests) in rw (get_or_append_left texts (t ∷ []) [] v lt) refl
left-push texts t (Writing v) h = refl
left-push texts t Output h = refl

pub given-push : (texts : List (List ℕ)) (t : List ℕ) (u : Usage) → IsTrue (fits texts u) → given_by (texts ++ t ∷ []) u ≡ given_by texts u
given-push texts t Unused h = refl
given-push texts t (Reading v p q) h =
    let lt : v < length texts = grind (arith, nat_tests) in rw (get_or_append_left texts (t ∷ []) [] v lt) refl
given-push texts t (Writing v) h = refl
given-push texts t Output h = refl

pub sent-push : (texts : List (List ℕ)) (out t : List ℕ) (u : Usage) → IsTrue (fits texts u) → sent_by (texts ++ t ∷ []) out u ≡ sent_by texts out u
sent-push texts out t Unused h = refl
sent-push texts out t (Reading v p q) h = refl
sent-push texts out t (Writing v) h =
    let lt : v < length texts = grind (arith, nat_tests) in rw (get_or_append_left texts (t ∷ []) [] v lt) refl
sent-push texts out t Output h = refl

pub written-push : (texts : List (List ℕ)) (out t : List ℕ) (u : Usage) → IsTrue (fits texts u) → written_by (texts ++ t ∷ []) out u ≡ written_by texts out u
written-push texts out t Unused h = refl
written-push texts out t (Reading v p q) h = refl
written-push texts out t (Writing v) h =
    let lt : v < length texts = grind (arith, nat_tests) in rw (get_or_append_left texts (t ∷ []) [] v lt) refl
written-push texts out t Output h = refl

-- a longer text
at_more : (texts : List (List ℕ)) (w v : ℕ) (piece : List ℕ) → (text_at (set texts w (text_at texts w ++ piece)) v ≡ text_at texts v) ⊎ ((v ≡ w) × (text_at (set texts w (text_at texts w ++ piece)) v ≡ text_at texts v ++ piece))
at_more [] zero v piece = inl refl
at_more [] (suc w) v piece = inl refl
at_more (x ∷ xs) zero zero piece = inr (refl, refl)
at_more (x ∷ xs) zero (suc v) piece = inl refl
at_more (x ∷ xs) (suc w) zero piece = inl refl
at_more (x ∷ xs) (suc w) (suc v) piece = elim (at_more xs w v piece) [ inl e ↦ inl e | inr e ↦ inr (ap suc e.0, e.1) ]

longer : (texts : List (List ℕ)) (w v : ℕ) (piece : List ℕ) → length (text_at texts v) ≤ length (text_at (set texts w (text_at texts w ++ piece)) v)
longer texts w v piece = elim (at_more texts w v piece) [ inl e ↦ rw e (omega arith) | inr e ↦ rw e.1 (omega (arith, length-append {A = ℕ})) ]

pub fits-more : (texts : List (List ℕ)) (w : ℕ) (piece : List ℕ) (u : Usage) → IsTrue (fits texts u) → IsTrue (fits (set texts w (text_at texts w ++ piece)) u)
fits-more texts w piece Unused h = h
fits-more texts w piece (Reading v p q) h =
    let more = longer texts w v piece in
    let len : length (set texts w (text_at texts w ++ piece)) ≡ length texts = length-set texts w _ in
    grind (arith, nat_tests)
fits-more texts w piece (Writing v) h =
    let len : length (set texts w (text_at texts w ++ piece)) ≡ length texts = length-set texts w _ in
    grind (arith, nat_tests)
fits-more texts w piece Output h = h

pub left-more : (texts : List (List ℕ)) (w : ℕ) (piece : List ℕ) (u : Usage) → IsTrue (fits texts u) → left_by (set texts w (text_at texts w ++ piece)) u ≡ left_by texts u
left-more texts w piece Unused h = refl
left-more texts w piece (Reading v p q) h =
    let le : q ≤ length (text_at texts v) = grind (arith, nat_tests) in
    elim (at_more texts w v piece) [
      | inl e ↦ rw e refl
      | inr e ↦ rw (e.1, take-append-le q (text_at texts v) piece le) refl
    ]
left-more texts w piece (Writing v) h = refl
left-more texts w piece Output h = refl

pub given-more : (texts : List (List ℕ)) (w : ℕ) (piece : List ℕ) (u : Usage) → IsTrue (fits texts u) → given_by (set texts w (text_at texts w ++ piece)) u ≡ given_by texts u
given-more texts w piece Unused h = refl
given-more texts w piece (Reading v p q) h =
    let le : q ≤ length (text_at texts v) = grind (arith, nat_tests) in
    elim (at_more texts w v piece) [
      | inl e ↦ rw e refl
      | inr e ↦ rw (e.1, take-append-le q (text_at texts v) piece le) refl
    ]
given-more texts w piece (Writing v) h = refl
given-more texts w piece Output h = refl

pub sent-more : (texts : List (List ℕ)) (out : List ℕ) (w : ℕ) (piece : List ℕ) (u : Usage) → IsTrue (apart (Writing w) u)
    → sent_by (set texts w (text_at texts w ++ piece)) out u ≡ sent_by texts out u
sent-more texts out w piece Unused h = refl
sent-more texts out w piece (Reading v p q) h = refl
sent-more texts out w piece (Writing v) h =
    let ne : v ≢ w = grind (arith, nat_tests) in rw (get_or-set_other texts w v (text_at texts w ++ piece) [] ne) refl
sent-more texts out w piece Output h = refl

pub sent-out : (texts : List (List ℕ)) (out more : List ℕ) (u : Usage) → IsTrue (apart Output u) → sent_by texts (out ++ more) u ≡ sent_by texts out u
sent-out texts out more Unused h = refl
sent-out texts out more (Reading v p q) h = refl
sent-out texts out more (Writing v) h = refl
sent-out texts out more Output h = cc

pub written-more : (texts : List (List ℕ)) (out : List ℕ) (w : ℕ) (piece : List ℕ) (u : Usage) → IsTrue (apart (Writing w) u)
    → written_by (set texts w (text_at texts w ++ piece)) out u ≡ written_by texts out u
written-more texts out w piece Unused h = refl
written-more texts out w piece (Reading v p q) h = refl
written-more texts out w piece (Writing v) h =
    let ne : v ≢ w = grind (arith, nat_tests) in rw (get_or-set_other texts w v (text_at texts w ++ piece) [] ne) refl
written-more texts out w piece Output h = refl

pub written-out : (texts : List (List ℕ)) (out more : List ℕ) (u : Usage) → IsTrue (apart Output u) → written_by texts (out ++ more) u ≡ written_by texts out u
written-out texts out more Unused h = refl
written-out texts out more (Reading v p q) h = refl
written-out texts out more (Writing v) h = refl
written-out texts out more Output h = cc

-- the version that is found has the name
pub last_below-is : (k : ℕ) (names : List (List ℕ)) (name : List ℕ) (v : ℕ) → last_below k names name ≡ Some v → (v < k) × (text_at names v ≡ name)
last_below-is zero names name v h = cc
last_below-is (suc k) names name v h = go (bytes_eq (text_at names k) name) refl (last_below-is k names name v)
  where
    go : (b : Bool) → bytes_eq (text_at names k) name ≡ b → (last_below k names name ≡ Some v → (v < k) × (text_at names v ≡ name)) → (v < suc k) × (text_at names v ≡ name)
    go true t below =
        let is : k ≡ v = cc (rw t at h) in
        (omega arith, ap (text_at names) (sym is) ∙ (bytes_eq-Decides (text_at names k) name).0 t)
    go false t below = let found = below (rw t at h) in (omega (arith, found.0), found.1)

last_below-push : (k : ℕ) (names : List (List ℕ)) (n name : List ℕ) → k ≤ length names → last_below k (names ++ n ∷ []) name ≡ last_below k names name
last_below-push zero names n name le = refl
last_below-push (suc k) names n name le = rw (get_or_append_left names (n ∷ []) [] k (omega arith), last_below-push k names n name (omega arith)) refl

-- a file begun now
pub latest-push : (names : List (List ℕ)) (n : List ℕ) → latest (names ++ n ∷ []) n ≡ Some (length names)
latest-push names n =
    let len : length (names ++ n ∷ []) ≡ suc (length names) = omega (arith, length-append names (n ∷ [])) in
    let same : bytes_eq n n ≡ true = (bytes_eq-Decides n n).1 refl in
    rw (len, get_or-append_seam names n [] [], same) refl

pub latest-push_other : (names : List (List ℕ)) (n name : List ℕ) → name ≢ n → latest (names ++ n ∷ []) name ≡ latest names name
latest-push_other names n name ne =
    let len : length (names ++ n ∷ []) ≡ suc (length names) = omega (arith, length-append names (n ∷ [])) in
    go (bytes_eq n name) refl
  where
    go : (b : Bool) → bytes_eq n name ≡ b → latest (names ++ n ∷ []) name ≡ latest names name
    go true t = absurd (ne (sym ((bytes_eq-Decides n name).0 t)))
    go false t =
        let len : length (names ++ n ∷ []) ≡ suc (length names) = omega (arith, length-append names (n ∷ [])) in
        rw (len, get_or-append_seam names n [] [], t) (last_below-push (length names) names n name (omega arith))

pub file-push_other : (names texts : List (List ℕ)) (n t name : List ℕ) → length names ≡ length texts → name ≢ n
    → file_in (names ++ n ∷ []) (texts ++ t ∷ []) name ≡ file_in names texts name
file-push_other names texts n t name len ne = go (latest names name) refl
  where
    go : (o : Option ℕ) → latest names name ≡ o → file_in (names ++ n ∷ []) (texts ++ t ∷ []) name ≡ file_in names texts name
    go None e = rw (latest-push_other names n name ne, e) refl
    go (Some v) e =
        let is = last_below-is (length names) names name v e in
        rw (latest-push_other names n name ne, e, get_or_append_left texts (t ∷ []) [] v (omega (arith, is.0))) refl

pub file-push : (names texts : List (List ℕ)) (n t : List ℕ) → length names ≡ length texts → file_in (names ++ n ∷ []) (texts ++ t ∷ []) n ≡ Some t
file-push names texts n t len = rw (latest-push names n, len, get_or-append_seam texts t [] []) refl

-- a text that grows is a file of its own name alone
pub file-more_other : (names texts : List (List ℕ)) (w : ℕ) (piece name : List ℕ) → name ≢ text_at names w
    → file_in names (set texts w (text_at texts w ++ piece)) name ≡ file_in names texts name
file-more_other names texts w piece name ne = go (latest names name) refl
  where
    go : (o : Option ℕ) → latest names name ≡ o → file_in names (set texts w (text_at texts w ++ piece)) name ≡ file_in names texts name
    go None e = rw e refl
    go (Some v) e =
        let is = last_below-is (length names) names name v e in
        let other : v ≢ w = λ same. ne (sym is.1 ∙ ap (text_at names) same) in
        rw (e, get_or-set_other texts w v (text_at texts w ++ piece) [] other) refl

-- a slot that isn't begun isn't used
pub AllUnused-set : (uses : List Usage) (b : ℕ) (u : Usage) → AllUnused b uses → AllUnused (b + 1) (set uses b u)
AllUnused-set uses b u all k le lt =
    let ne : k ≢ b = λ e. absurd (omega arith) in rw (usage-set_other uses b k u ne) (all k (omega arith) lt)

pub output-set : (uses : List Usage) (i : ℕ) (u : Usage) → i ≢ 8 → usage_at uses 8 ≡ Output → usage_at (set uses i u) 8 ≡ Output
output-set uses i u ne h = usage-set_other uses i 8 u (λ e. ne (sym e)) ∙ h

pub AllFit-push : (texts : List (List ℕ)) (t : List ℕ) (uses : List Usage) → AllFit texts uses → AllFit (texts ++ t ∷ []) uses
AllFit-push texts t uses all n = fits-push texts t (usage_at uses n) (all n)

pub AllFit-more : (texts : List (List ℕ)) (w : Usage) (piece : List ℕ) (uses : List Usage) → AllFit texts uses → AllFit (more_texts texts w piece) uses
AllFit-more texts Unused piece uses all = all
AllFit-more texts (Reading v p q) piece uses all = all
AllFit-more texts (Writing v) piece uses all = λ n. fits-more texts v piece (usage_at uses n) (all n)
AllFit-more texts Output piece uses all = all

pub new-fits : (texts : List (List ℕ)) (t : List ℕ) → IsTrue (fits (texts ++ t ∷ []) (Writing (length texts)))
new-fits texts t = grind (arith, nat_tests, length-append)

-- a slot that is used was begun, so its new use leaves the others as they were
pub AllUnused-used : (uses : List Usage) (b n : ℕ) (v p q : ℕ) (u : Usage) → AllUnused b uses → usage_at uses n ≡ Reading v p q → AllUnused b (set uses n u)
AllUnused-used uses b n v p q u all is k le lt =
    let ne : k ≢ n = λ e. clash (all k le lt) (ap (usage_at uses) e ∙ is) in
    rw (usage-set_other uses n k u ne) (all k le lt)
  where
    clash : {w : Usage} → w ≡ Unused → w ≡ Reading v p q → ⊥
    clash a b = cc

pub not_output : (uses : List Usage) (n v p q : ℕ) → usage_at uses n ≡ Reading v p q → usage_at uses 8 ≡ Output → n ≢ 8
not_output uses n v p q is out e = clash (sym is ∙ ap (usage_at uses) e ∙ out)
  where
    clash : Reading v p q ≡ Output → ⊥
    clash a = cc

pub not_reading : (u : Usage) → ((v p q : ℕ) → u ≡ Reading v p q → ⊥) → IsTrue (reads_by u) → ⊥
not_reading Unused n h = cc
not_reading (Reading v p q) n h = n v p q refl
not_reading (Writing v) n h = cc
not_reading Output n h = cc

-- the name that a slot which writes was begun with
pub named-writing : (names : List (List ℕ)) (v : ℕ) (told : Option (List ℕ)) → IsTrue (is_named names (Writing v) told) → told ≡ Some (text_at names v)
named-writing names v None h = cc
named-writing names v (Some name) h = ap (λ (n : List ℕ). Some n) ((bytes_eq-Decides name (text_at names v)).0 h)

pub AllNamed-reading : (names : List (List ℕ)) (uses : List Usage) (told : List (Option (List ℕ))) (i v p q : ℕ) → AllNamed names uses told → AllNamed names (set uses i (Reading v p q)) told
AllNamed-reading names uses told i v p q all n = elim (usage-set uses i (Reading v p q) n) [ inl e ↦ rw e refl | inr e ↦ rw e (all n) ]

same_slot : (a b : ℕ) → (a ≡ b) ⊎ (a ≢ b)
same_slot a b = grind arith

-- a slot that wasn't begun before gets a name
pub AllNamed-told : (names : List (List ℕ)) (uses : List Usage) (told : List (Option (List ℕ))) (b : ℕ) (name : Option (List ℕ)) → b < 8 → AllUnused b uses → AllNamed names uses told
    → AllNamed names uses (set told b name)
AllNamed-told names uses told b name lt unused all n = go (same_slot n b)
  where
    go : (n ≡ b) ⊎ (n ≢ b) → IsTrue (is_named names (usage_at uses n) (name_at (set told b name) n))
    go (inl e) = let was : usage_at uses b ≡ Unused = unused b (omega arith) lt in rw (e, was) refl
    go (inr ne) = rw (get_or-set_other told b n name None ne) (all n)

named-push : (names texts : List (List ℕ)) (t : List ℕ) (u : Usage) (told : Option (List ℕ)) → length names ≡ length texts → IsTrue (fits texts u) → IsTrue (is_named names u told)
    → IsTrue (is_named (names ++ t ∷ []) u told)
named-push names texts t Unused told e h is = refl
named-push names texts t (Reading v p q) told e h is = refl
named-push names texts t (Writing v) None e h is = is
named-push names texts t (Writing v) (Some name) e h is =
    let lt : v < length names = grind (arith, nat_tests) in rw (get_or_append_left names (t ∷ []) [] v lt) is
named-push names texts t Output told e h is = refl

-- one more name
pub AllNamed-push : (names texts : List (List ℕ)) (t : List ℕ) (uses : List Usage) (told : List (Option (List ℕ))) → length names ≡ length texts → AllFit texts uses → AllNamed names uses told
    → AllNamed (names ++ t ∷ []) uses told
AllNamed-push names texts t uses told e fit all n = named-push names texts t (usage_at uses n) (name_at told n) e (fit n) (all n)

-- a slot that was begun now writes the file of its name
pub AllNamed-begun : (names texts : List (List ℕ)) (name : List ℕ) (uses : List Usage) (told : List (Option (List ℕ))) (b : ℕ) → length names ≡ length texts → b < length uses → b < length told
    → AllFit texts uses → AllNamed names uses told → AllNamed (names ++ name ∷ []) (set uses b (Writing (length texts))) (set told b (Some name))
AllNamed-begun names texts name uses told b e lt lt_told fit all n = go (same_slot n b)
  where
    go : (n ≡ b) ⊎ (n ≢ b) → IsTrue (is_named (names ++ name ∷ []) (usage_at (set uses b (Writing (length texts))) n) (name_at (set told b (Some name)) n))
    go (inl same) =
        let name_is : text_at (names ++ name ∷ []) (length texts) ≡ name = rw (← e) (get_or-append_seam names name [] []) in
        rw (same, usage-set_same uses b (Writing (length texts)) lt, get_or-set_same told b (Some name) None lt_told, name_is) ((bytes_eq-Decides name name).1 refl)
    go (inr ne) =
        rw (usage-set_other uses b n (Writing (length texts)) ne, get_or-set_other told b n (Some name) None ne)
        (AllNamed-push names texts name uses told e fit all n)
