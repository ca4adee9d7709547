-- How one line is taken back.
use Rattle.std.specs.Prelude.{ℕ, ◌≡◌, Option, Some, None, [], ◌∷◌, ◌++◌}
use Rattle.sr_trimming.specs.Loading.{Done, joined, removed, passed}
use Rattle.sr_load.specs.Loaded.{LoadedState, standing_in}

-- the number is that of the lemma that a line stated; none where it stated none
abbrev pub TellsNumber : Done → ℕ → Option ℕ → Type 0
TellsNumber (joined l) n None = ⊥
TellsNumber (joined l) n (Some id) = id ≡ n
TellsNumber (removed k) n None = Unit {0}
TellsNumber (removed k) n (Some id) = ⊥
TellsNumber passed n None = Unit {0}
TellsNumber passed n (Some id) = ⊥

-- the last line standing was taken back
pub record TookLine (old new : LoadedState) (id : Option ℕ) : Type 0 where
  pub done : Done
  pub stood : old.standing ≡ new.standing ++ done ∷ []
  pub undone : new.undone ≡ done ∷ old.undone
  pub same : new ≡ record old { standing = new.standing; undone = new.undone }
  pub tells : TellsNumber done (standing_in new).next id
