-- How much a trimmed proof holds.
use Rattle.std.specs.Prelude.{ℕ, ◌+◌, ◌-◌, ◌^◌, min, length, sum_by}
use Rattle.sr_model.specs.Meeting.{Group}
use Rattle.sr_steps.specs.Kept.{Kept}

-- the hints of a step, in its prefix and in its groups
abbrev pub group_hints : Group → ℕ
group_hints g = length g.1

abbrev pub step_hints : Kept → ℕ
step_hints k = length k.prefix + sum_by group_hints k.groups

-- a count stays at the greatest value of 64 bits
abbrev pub counted : ℕ → ℕ
counted n = min n (2 ^ 64 - 1)
