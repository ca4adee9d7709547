-- What contracts see of a loader.
use Rattle.std.specs.Prelude.{ℕ, ◌+◌, Bool, false, nat_lt, not, ◌&&◌, ◌≡◌, List, [], ◌∷◌, ◌++◌}
use Rattle.sr_model.specs.Refutation.{is_empty}
use Rattle.sr_model.specs.Chain.{clauses}
use Rattle.sr_model.specs.Judging.{clause_cells, cells_of}
use Rattle.sr_model.specs.Dimacs.{Formula}
use Rattle.sr_model.specs.Dsr.{Line, lemma_line, deletion_line}
use Rattle.sr_trimming.specs.Loading.{Done, joined, removed, passed, Standing, at_start, after_all, Stop, Did, StopsAfter}
use Rattle.sr_trimming.specs.From.{all_loaded}

-- whether deletions of clauses that have become units are passed over, the limits of numbers and of cells, the formula, what
-- the lines did, and where loading stands
pub record LoaderState : Type 0 where
  pub keep : Bool
  pub ids : ℕ
  pub cells : ℕ
  pub formula : Formula
  pub done : List Done
  pub stop : Stop

abbrev pub loaded_in : LoaderState → Standing
loaded_in st = after_all (at_start st.formula.clauses) st.done

-- the number of a lemma and room for that of the last step pass the limit of numbers
abbrev pub passes_ids : LoaderState → Line → Bool
passes_ids st (lemma_line l) = nat_lt st.ids ((loaded_in st).next + 1)
passes_ids st (deletion_line c) = false

-- the formula and all lemmas, deleted ones too, pass the limit of cells
abbrev pub passes_cells : LoaderState → Line → Bool
passes_cells st (lemma_line l) = not (is_empty l.clause)
    && nat_lt st.cells (cells_of (clauses (all_loaded st.formula.clauses st.done)) + clause_cells l.clause)
passes_cells st (deletion_line c) = false

-- the line did this, and loading stands so
pub record TakesLine (old new : LoaderState) (line : Line) : Type 0 where
  pub done : Done
  pub did : Did old.keep (loaded_in old).alive line done
  pub taken : new ≡ record old { done = old.done ++ done ∷ []; stop = new.stop }
  pub stops : StopsAfter (at_start new.formula.clauses) new.done new.stop

-- how many lemmas there are, and how many deletions were passed over
abbrev pub lemmas_in : List Done → ℕ
lemmas_in [] = 0
lemmas_in (joined l ∷ ds) = lemmas_in ds + 1
lemmas_in (removed k ∷ ds) = lemmas_in ds
lemmas_in (passed ∷ ds) = lemmas_in ds

abbrev pub passed_in : List Done → ℕ
passed_in [] = 0
passed_in (joined l ∷ ds) = passed_in ds
passed_in (removed k ∷ ds) = passed_in ds
passed_in (passed ∷ ds) = passed_in ds + 1
