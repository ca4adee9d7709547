-- A trimmed proof has as many steps and hints as were counted.
use Rattle.std.proofs.Common.{◌≡◌, ◌∙◌, ℕ, ◌+◌, ◌≤◌, List, [], ◌∷◌, ◌++◌, map, length, refl, sym, arith}
use Rattle.std.specs.Prelude.{sum_by}
use Rattle.std.proofs.lemmas.List.Sums.{sum_by-cons}
use Rattle.sr_base.specs.Literal.{Literal}
use Rattle.sr_base.specs.declared.names.Form.{Form}
use Rattle.sr_base.specs.declared.names.Form.TheVariants.{Text, Binary}
use Rattle.sr_model.specs.Chain.{Numbered}
use Rattle.sr_model.specs.Meeting.{Step}
use Rattle.sr_model.specs.Judging.{Item, stepped, dropped, numbered_from}
use Rattle.sr_model.specs.ReadAgain.{read_as}
use Rattle.sr_trimming.specs.Placing.{deletion, last_cited, placed_from, uncited, placed}
use Rattle.sr_trimming.specs.Loading.{Done, at_start, after_all}
use Rattle.sr_trimming.specs.From.{AreFrom}
use Rattle.sr_trimming.specs.Backward.{AreLinked}
use Rattle.sr_trim.specs.Trimming.{step_hints}
use Rattle.sr_cli.specs.Check.{item_steps, item_hints, steps_of, hints_of}

-- a count over items that gives each step so many, and deletions none
record IsCount (of_item : Item → ℕ) (of_step : Step → ℕ) : Type 0 where
  steps : (s : Step) → of_item (stepped s) ≡ of_step s
  deletions : (id : ℕ) (ids : List ℕ) → of_item (dropped id ids) ≡ 0

steps_count : IsCount item_steps (λ s. 1)
steps_count = record { steps = λ s. refl; deletions = λ id ids. refl }

hints_count : IsCount item_hints step_hints
hints_count = record { steps = λ s. refl; deletions = λ id ids. refl }

counted_as : (of_item : Item → ℕ) (of_step : Step → ℕ) → IsCount of_item of_step → (form : Form) (it : Item) → of_item (read_as form it) ≡ of_item it
counted_as of_item of_step c Text it = refl
counted_as of_item of_step c Binary (stepped s) = refl
counted_as of_item of_step c Binary (dropped id ids) = c.deletions 0 ids ∙ sym (c.deletions id ids)

items_counted : (of_item : Item → ℕ) (of_step : Step → ℕ) → IsCount of_item of_step → (form : Form) (items : List Item) → sum_by of_item (map (read_as form) items) ≡ sum_by of_item items
items_counted of_item of_step c form [] = refl
items_counted of_item of_step c form (it ∷ items) =
    omega (
      arith,
      sum_by-cons of_item (read_as form it) (map (read_as form) items),
      sum_by-cons of_item it items,
      counted_as of_item of_step c form it,
      items_counted of_item of_step c form items,
    )

deletion_counted : (of_item : Item → ℕ) (of_step : Step → ℕ) → IsCount of_item of_step → (id : ℕ) (ids : List ℕ) (items : List Item) → sum_by of_item (deletion id ids items) ≡ sum_by of_item items
deletion_counted of_item of_step c id [] items = refl
deletion_counted of_item of_step c id (n ∷ ns) items = omega (arith, sum_by-cons of_item (dropped id (n ∷ ns)) items, c.deletions id (n ∷ ns))

from_counted : (of_item : Item → ℕ) (of_step : Step → ℕ) → IsCount of_item of_step → (known : Numbered) (steps : List Step) → sum_by of_item (placed_from known steps) ≡ sum_by of_step steps
from_counted of_item of_step c known [] = refl
from_counted of_item of_step c known (s ∷ []) = omega (arith, sum_by-cons of_item (stepped s) [], sum_by-cons of_step s [], c.steps s)
from_counted of_item of_step c known (s ∷ t ∷ later) =
    let rest : List Item = placed_from (known ++ (s.id, s.clause) ∷ []) (t ∷ later) in
    omega (
      arith,
      sum_by-cons of_item (stepped s) (deletion s.id (last_cited known s (t ∷ later)) rest),
      sum_by-cons of_step s (t ∷ later),
      c.steps s,
      deletion_counted of_item of_step c s.id (last_cited known s (t ∷ later)) rest,
      from_counted of_item of_step c (known ++ (s.id, s.clause) ∷ []) (t ∷ later),
    )

placed_counted : (of_item : Item → ℕ) (of_step : Step → ℕ) → IsCount of_item of_step → (form : Form) (f : List (List Literal)) (steps : List Step)
    → sum_by of_item (map (read_as form) (placed f steps)) ≡ sum_by of_step steps
placed_counted of_item of_step c form f steps =
    items_counted of_item of_step c form (placed f steps)
    ∙ deletion_counted of_item of_step c (length f) (uncited f steps) (placed_from (numbered_from 1 f) steps)
    ∙ from_counted of_item of_step c (numbered_from 1 f) steps

ones : (steps : List Step) → sum_by (λ (s : Step). 1) steps ≡ length steps
ones [] = refl
ones (s ∷ steps) = omega (arith, sum_by-cons (λ (s : Step). 1) s steps, ones steps)

pub steps_counted : (form : Form) (f : List (List Literal)) (steps : List Step) → steps_of (map (read_as form) (placed f steps)) ≡ length steps
steps_counted form f steps = placed_counted item_steps (λ s. 1) steps_count form f steps ∙ ones steps

pub hints_counted : (form : Form) (f : List (List Literal)) (steps : List Step) → hints_of (map (read_as form) (placed f steps)) ≡ sum_by step_hints steps
hints_counted form f steps = placed_counted item_hints step_hints hints_count form f steps

-- there are no more steps than numbers
pub steps_few : (f : List (List Literal)) (ds : List Done) (last : ℕ) (steps : List Step) → AreLinked last steps → AreFrom f ds steps → last + length steps ≤ (after_all (at_start f) ds).next
steps_few f ds last [] l a = absurd l
steps_few f ds last (s ∷ []) l a = omega (arith, l.0, a.id)
steps_few f ds last (s ∷ t ∷ later) l a = omega (arith, l.0, steps_few f ds s.id (t ∷ later) l.3 a.1)
