-- Lists that are kept in one, each up to its end.
use Rattle.std.specs.Prelude.{ℕ, zero, suc, ◌==◌, ◌≡◌, ◌≤◌, Bool, false, ◌||◌, List, [], ◌∷◌, slice_index, slice_range}

-- the ends of what stands from a place on, with the last one at the end of the whole
abbrev pub AreEnds : ℕ → List ℕ → ℕ → Type 0
AreEnds start [] whole = start ≡ whole
AreEnds start (e ∷ es) whole = (start ≤ e) × AreEnds e es whole

-- the lists between these ends
abbrev pub pieces : {X : Type 0} → ℕ → List ℕ → List X → List (List X)
pieces start [] xs = []
pieces start (e ∷ es) xs = slice_range xs start e ∷ pieces e es xs

-- where the list at an index begins, if the first one begins at this place
abbrev pub start_at : ℕ → List ℕ → ℕ → ℕ
start_at start ends zero = start
start_at start ends (suc i) = slice_index ends i

-- whether one of the lists is empty
abbrev pub repeats_end : ℕ → List ℕ → Bool
repeats_end start [] = false
repeats_end start (e ∷ es) = (e == start) || repeats_end e es
