-- The names and texts of versions, and what a change of one does to them.
use Rattle.std.proofs.Common.{◌≡◌, ℕ, ◌<◌, ◌≤◌, IsTrue, List, [], ◌++◌, length, set, get_or, Some, sym, ◌∙◌, ap, arith}
use Rattle.std.proofs.lemmas.List.{map-set, get_or-map, length-map}
use Rattle.std.proofs.Math.Seq.{map-set_same}
use Rattle.std.proofs.lemmas.Bool.Decides.{nat_tests}
use Rattle.sr_desk.specs.declared.held.Version.{Version}
use Rattle.sr_desk.specs.declared.held.Usage.TheVariants.{Reading, Writing}
use Rattle.sr_desk.specs.MemoryParts.{names_of, texts_of, text_at, latest, fits}
use Rattle.sr_desk.proofs.MemoryLemmas.{last_below-is}

pub length-names : (vs : List Version) → length (names_of vs) ≡ length vs
length-names vs = simp length-map

pub length-texts : (vs : List Version) → length (texts_of vs) ≡ length vs
length-texts vs = simp length-map

pub same_length : (vs : List Version) → length (names_of vs) ≡ length (texts_of vs)
same_length vs = length-names vs ∙ sym (length-texts vs)

pub latest-within : (vs : List Version) (name : List ℕ) (v : ℕ) → latest (names_of vs) name ≡ Some v → v < length vs
latest-within vs name v h = omega (arith, (last_below-is (length (names_of vs)) (names_of vs) name v h).0, length-names vs)

pub text-is : (vs : List Version) (v : ℕ) (x : Version) → v < length vs → x ≡ get_or vs v x → text_at (texts_of vs) v ≡ x.bytes.items
text-is vs v x lt e = get_or-map (λ (w : Version). w.bytes.items) vs v x [] lt ∙ ap (λ (w : Version). w.bytes.items) (sym e)

pub names-set : (vs : List Version) (v : ℕ) (x y : Version) → x ≡ get_or vs v x → y.name ≡ x.name → names_of (set vs v y) ≡ names_of vs
names-set vs v x y e same = map-set_same (λ (w : Version). w.name.items) vs v y x (ap (λ n. n.items) same ∙ ap (λ (w : Version). w.name.items) e)

pub texts-set_same : (vs : List Version) (v : ℕ) (x y : Version) → x ≡ get_or vs v x → y.bytes.items ≡ x.bytes.items → texts_of (set vs v y) ≡ texts_of vs
texts-set_same vs v x y e same = map-set_same (λ (w : Version). w.bytes.items) vs v y x (same ∙ ap (λ (w : Version). w.bytes.items) e)

pub texts-set : (vs : List Version) (v : ℕ) (x y : Version) (piece : List ℕ) → v < length vs → x ≡ get_or vs v x → y.bytes.items ≡ x.bytes.items ++ piece
    → texts_of (set vs v y) ≡ set (texts_of vs) v (text_at (texts_of vs) v ++ piece)
texts-set vs v x y piece lt e more =
    map-set (λ (w : Version). w.bytes.items) vs v y ∙ ap (λ t. set (texts_of vs) v t) (more ∙ ap (λ t. t ++ piece) (sym (text-is vs v x lt e)))

pub text_is-any : (vs : List Version) (v : ℕ) (x : Version) → v < length vs → x ≡ get_or vs v x → x.bytes.items ≡ text_at (texts_of vs) v
text_is-any vs v x lt e = sym (text-is vs v x lt e)

pub writing-within : (vs : List Version) (v : ℕ) → IsTrue (fits (texts_of vs) (Writing v)) → v < length vs
writing-within vs v h = let len = length-texts vs in grind (arith, nat_tests)

pub record IsReading (texts : List (List ℕ)) (v p q : ℕ) : Type 0 where
  pub version : v < length texts
  pub place : p ≤ q
  pub end : q ≤ length (text_at texts v)

pub reading-fits : (texts : List (List ℕ)) (v p q : ℕ) → v < length texts → p ≤ q → q ≤ length (text_at texts v) → IsTrue (fits texts (Reading v p q))
reading-fits texts v p q a b c = grind (arith, nat_tests)

pub fits-reading : (texts : List (List ℕ)) (v p q : ℕ) → IsTrue (fits texts (Reading v p q)) → IsReading texts v p q
fits-reading texts v p q h = record { version = grind (arith, nat_tests); place = grind (arith, nat_tests); end = grind (arith, nat_tests) }
