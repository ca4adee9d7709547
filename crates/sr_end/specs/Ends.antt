-- With which status the process ends.
use Rattle.std.specs.Prelude.{◌≡◌, ℕ, Result, Ok, Err}
use Rattle.sr_desk.specs.Outside.{Outside}
use Rattle.sr_emit.specs.Status.{status_of}
use Rattle.sr_end.specs.Words.{words_of, status_without}
use Rattle.sr_end.specs.Runs.{HasRun}
use Rattle.sr_end.specs.declared.line.CommandLine.{CommandLine}
use Rattle.sr_end.specs.declared.line.NoWords.{NoWords}
use Rattle.sr_end.specs.declared.ran.Ran.{Ran}

-- with the status of the run's outcome, or with that of why there are no words
abbrev pub end_status : {D : Type 0} {g : _} → Result (Ran D g) NoWords → ℕ
end_status (Ok r) = status_of r.outcome
end_status (Err n) = status_without n

-- where there are words, they were run on an outside of which nothing was used
abbrev pub Ends : {D : Type 0} {g : _} → Result (Ran D g) NoWords → Type 0
Ends {g = g} (Ok r) = ∥ HasRun (words_of r.line) (g.outside r.desk) r.outcome ∥₁
Ends (Err n) = Unit {0}

-- these words were run, or there were none
abbrev pub IsEndOf : {D : Type 0} {g : _} → Result CommandLine NoWords → Result (Ran D g) NoWords → Type 0
IsEndOf (Ok c) (Ok r) = r.line ≡ c
IsEndOf (Ok c) (Err n) = ⊥
IsEndOf (Err n) (Ok r) = ⊥
IsEndOf (Err n) (Err m) = m ≡ n
