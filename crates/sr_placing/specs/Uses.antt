-- Which of the steps that were kept cites a number last.
use Rattle.std.specs.Prelude.{ℕ, ◌+◌, Bool, false, ◌||◌, cond, List, [], ◌∷◌}
use Rattle.sr_model.specs.Assignment.{holds_number}
use Rattle.sr_trimming.specs.Citing.{groups_cite}
use Rattle.sr_steps.specs.Kept.{Kept}

-- whether a step cites a number, and whether one of these does
abbrev pub kept_cites : ℕ → Kept → Bool
kept_cites n k = holds_number n k.prefix || groups_cite n k.groups

abbrev pub some_cites : ℕ → List Kept → Bool
some_cites n [] = false
some_cites n (k ∷ ks) = kept_cites n k || some_cites n ks

-- the place of the last one that cites it, counted from 1, if so many steps come before them; 0 where none does
abbrev pub last_use : ℕ → ℕ → List Kept → ℕ
last_use before n [] = 0
last_use before n (k ∷ ks) = cond (some_cites n ks) (last_use (before + 1) n ks) (cond (kept_cites n k) (before + 1) 0)
