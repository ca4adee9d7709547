-- Lines one after another.
use Rattle.std.proofs.Common.{◌≡◌, ◌+◌, ◌<◌, ℕ, refl, List, [], ◌∷◌, ◌++◌, append_assoc, length, take, get_or, map, add-one}
use Rattle.std.proofs.Math.Seq.{take-suc}
use Rattle.std.proofs.lemmas.List.{map-append}
use Rattle.sr_emit.specs.Help.{text_lines}

lines_end : (xs : List (List ℕ)) (x : List ℕ) → text_lines (xs ++ x ∷ []) ≡ text_lines xs ++ x ++ 10 ∷ []
unfolding text_lines
lines_end [] x = refl
lines_end (y ∷ ys) x = rw (lines_end ys x) (simp append_assoc)

-- the lines up to one, and that one
pub one_more : {A : Type 0} (f : A → List ℕ) (xs : List A) (i : ℕ) (d : A) → i < length xs
    → text_lines (map f (take (i + 1) xs)) ≡ text_lines (map f (take i xs)) ++ f (get_or xs i d) ++ 10 ∷ []
one_more f xs i d h = rw (add-one, take-suc xs i d, map-append) (lines_end (map f (take i xs)) (f (get_or xs i d)))
