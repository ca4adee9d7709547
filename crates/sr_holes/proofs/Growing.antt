-- Texts that grow by one item, for the next number of a range.
use Rattle.std.proofs.Common.{◌≡◌, ◌∙◌, ℕ, ◌+◌, ◌-◌, ◌≤◌, sym, ap, refl, List, [], ◌∷◌, ◌++◌, map, append_assoc, arith}
use Rattle.std.specs.Prelude.{flat_map, Result, Ok, Err, OnOk}
use Rattle.std.specs.List.{range_with_len}
use Rattle.std.proofs.lemmas.List.{map-id, map-append, append-nil}
use Rattle.std.proofs.lemmas.List.Concat.{flat_map-append}
use Rattle.std.proofs.lemmas.List.FromFn.{map-range_with_len_more}
use Rattle.sr_base.specs.Literal.{Literal, number}
use Rattle.sr_base.specs.declared.names.Form.TheVariants.{Text}
use Rattle.sr_model.specs.Writing.{flat, number_line}
use Rattle.sr_scan.specs.Written.{written_literals, written_end}
use Rattle.sr_scan.proofs.WriteLemmas.{literals_written_append, spaced_is}

-- the numbers from a on that are below b
abbrev pub below : ℕ → ℕ → List ℕ
below a b = range_with_len a (b - a)

pub below_none : (a : ℕ) → below a a ≡ []
below_none a = let none : a - a ≡ 0 = omega arith in ap (range_with_len a) none

pub below_more : (a b : ℕ) → a ≤ b → below a (b + 1) ≡ below a b ++ b ∷ []
below_more a b within =
    let one : b + 1 - a ≡ (b - a) + 1 = omega arith in
    ap (range_with_len a) one ∙ sym (map-id (range_with_len a (b - a + 1))) ∙ map-range_with_len_more (λ x. x) a (b - a) b (omega arith)
    ∙ ap (λ l. l ++ b ∷ []) (map-id (below a b))

pub map_more : {A : Type 0} (f : ℕ → A) (a b : ℕ) → a ≤ b → map f (below a (b + 1)) ≡ map f (below a b) ++ f b ∷ []
map_more f a b within = ap (map f) (below_more a b within) ∙ map-append f (below a b) (b ∷ [])

pub flat_map_more : {A : Type 0} (f : ℕ → List A) (a b : ℕ) → a ≤ b → flat_map f (below a (b + 1)) ≡ flat_map f (below a b) ++ f b
flat_map_more f a b within = ap (flat_map f) (below_more a b within) ∙ flat_map-append f (below a b) (b ∷ []) ∙ ap (λ l. flat_map f (below a b) ++ l) (append-nil (f b))

-- a text of a list that is made of the texts of its parts
pub grow : {A : Type 0} (text : List A → List ℕ) → ((xs ys : List A) → text (xs ++ ys) ≡ text xs ++ text ys) → (xs ys zs : List A) (old mid new : List ℕ)
    → zs ≡ xs ++ ys → mid ≡ old ++ text xs → new ≡ mid ++ text ys → new ≡ old ++ text zs
grow text joins xs ys zs old mid new all before after =
    after ∙ ap (λ l. l ++ text ys) before ∙ append_assoc old (text xs) (text ys) ∙ ap (λ l. old ++ l) (sym (joins xs ys) ∙ ap text (sym all))

-- the text of one more item
pub map_step : {A : Type 0} (item : A → List ℕ) (f : ℕ → A) (a b : ℕ) (old mid new : List ℕ) → a ≤ b
    → mid ≡ old ++ flat_map item (map f (below a b)) → new ≡ mid ++ item (f b) → new ≡ old ++ flat_map item (map f (below a (b + 1)))
map_step item f a b old mid new within before after =
    grow (flat_map item) (flat_map-append item) (map f (below a b)) (f b ∷ []) (map f (below a (b + 1))) old mid new (map_more f a b within) before
    (after ∙ ap (λ l. mid ++ l) (sym (append-nil (item (f b)))))

-- the text of some more
pub flat_map_step : {A : Type 0} (item : A → List ℕ) (f : ℕ → List A) (a b : ℕ) (old mid new : List ℕ) → a ≤ b
    → mid ≡ old ++ flat_map item (flat_map f (below a b)) → new ≡ mid ++ flat_map item (f b) → new ≡ old ++ flat_map item (flat_map f (below a (b + 1)))
flat_map_step item f a b old mid new within before after =
    grow (flat_map item) (flat_map-append item) (flat_map f (below a b)) (f b) (flat_map f (below a (b + 1))) old mid new (flat_map_more f a b within) before after

-- one literal more
pub literal_step : (f : ℕ → Literal) (a b : ℕ) (old mid new : List ℕ) → a ≤ b
    → mid ≡ old ++ written_literals Text (map f (below a b)) → new ≡ mid ++ written_literals Text (f b ∷ []) → new ≡ old ++ written_literals Text (map f (below a (b + 1)))
literal_step f a b old mid new within before after =
    grow (written_literals Text) (literals_written_append Text) (map f (below a b)) (f b ∷ []) (map f (below a (b + 1))) old mid new (map_more f a b within) before after

pub flat-append : (xs ys : List (Literal × Literal)) → flat (xs ++ ys) ≡ flat xs ++ flat ys
flat-append [] ys = refl
flat-append (m ∷ ms) ys = ap (λ l. m.0 ∷ m.1 ∷ l) (flat-append ms ys)

abbrev pub maps_text : List (Literal × Literal) → List ℕ
maps_text ms = written_literals Text (flat ms)

maps_join : (xs ys : List (Literal × Literal)) → maps_text (xs ++ ys) ≡ maps_text xs ++ maps_text ys
maps_join xs ys = ap (written_literals Text) (flat-append xs ys) ∙ literals_written_append Text (flat xs) (flat ys)

-- the maps of one hole more
pub maps_step : (f : ℕ → List (Literal × Literal)) (a b : ℕ) (old mid new : List ℕ) → a ≤ b
    → mid ≡ old ++ maps_text (flat_map f (below a b)) → new ≡ mid ++ maps_text (f b) → new ≡ old ++ maps_text (flat_map f (below a (b + 1)))
maps_step f a b old mid new within before after =
    grow maps_text maps_join (flat_map f (below a b)) (f b) (flat_map f (below a (b + 1))) old mid new (flat_map_more f a b within) before after

-- the end of a line
pub line_end : {T E : Type 0} (r : Result T E) (old mid new : List ℕ) (ls : List Literal) → mid ≡ old ++ written_literals Text ls → OnOk r (new ≡ mid ++ written_end Text)
    → OnOk r (new ≡ old ++ number_line (map number ls))
line_end (Ok v) old mid new ls m e =
    e ∙ ap (λ l. l ++ written_end Text) m ∙ append_assoc old (written_literals Text ls) (written_end Text)
    ∙ ap (λ l. old ++ (l ++ written_end Text)) (spaced_is (map number ls))
line_end (Err x) old mid new ls m e = tt
