-- Items by the parts that are written.
use Rattle.std.proofs.Common.{◌≡◌, ◌∙◌, ℕ, pos, ◌+◌, ◌<◌, refl, sym, ap, List, [], ◌∷◌, ◌++◌, length, take, get_or, map, append_assoc}
use Rattle.std.specs.Prelude.{codes, decimal, neg_ℤ}
use Rattle.std.proofs.lemmas.List.{take_more}
use Rattle.sr_base.specs.declared.names.Form.{Form}
use Rattle.sr_base.specs.declared.names.Form.TheVariants.{Text, Binary}
use Rattle.sr_model.specs.Meeting.{Group, Step}
use Rattle.sr_model.specs.Judging.{stepped, dropped}
use Rattle.sr_model.specs.Writing.{groups_written, step_numbers, written_item}
use Rattle.sr_scan.specs.Written.{written_numbers, written_end}
use Rattle.sr_scan.proofs.WriteLemmas.{numbers_append, spaced_is}
use Rattle.sr_lsr.specs.Written.{step_start, drop_start}

groups_append : (xs ys : List Group) → groups_written (xs ++ ys) ≡ groups_written xs ++ groups_written ys
groups_append [] ys = refl
groups_append (g ∷ xs) ys =
    ap (λ l. neg_ℤ (pos g.0) ∷ (map pos g.1 ++ l)) (groups_append xs ys) ∙ ap (λ l. neg_ℤ (pos g.0) ∷ l) (sym (append_assoc (map pos g.1) (groups_written xs) (groups_written ys)))

-- one group more
pub groups_step : (form : Form) (old out new : List ℕ) (groups : List Group) (i : ℕ) (g : Group) → i < length groups → g ≡ get_or groups i g → out ≡ old ++ written_numbers form (groups_written (take i groups))
    → new ≡ out ++ written_numbers form (groups_written (g ∷ [])) → new ≡ old ++ written_numbers form (groups_written (take (i + 1) groups))
groups_step form old out new groups i g within is before after =
    let more : take (i + 1) groups ≡ take i groups ++ g ∷ [] = take_more groups i g within ∙ ap (λ x. take i groups ++ x ∷ []) (sym is) in
    let numbers : groups_written (take (i + 1) groups) ≡ groups_written (take i groups) ++ groups_written (g ∷ []) = ap groups_written more ∙ groups_append (take i groups) (g ∷ []) in
    after ∙ ap (λ o. o ++ written_numbers form (groups_written (g ∷ []))) before
    ∙ append_assoc old (written_numbers form (groups_written (take i groups))) (written_numbers form (groups_written (g ∷ [])))
    ∙ ap (λ o. old ++ o) (sym (numbers_append form (groups_written (take i groups)) (groups_written (g ∷ []))) ∙ ap (written_numbers form) (sym numbers))

-- an item of its parts
pub step_whole : (f : Form) (s : Step) → (step_start f ++ written_numbers f (pos s.id ∷ step_numbers s)) ++ written_end f ≡ written_item f (stepped s)
step_whole Text s = ap (λ x. x ++ codes "0\n") (spaced_is (pos s.id ∷ step_numbers s))
step_whole Binary s = refl

pub drop_whole : (f : Form) (id : ℕ) (ids : List ℕ) → (drop_start f id ++ written_numbers f (map pos ids)) ++ written_end f ≡ written_item f (dropped id ids)
drop_whole Text id ids =
    append_assoc (decimal id ++ codes " d ") (written_numbers Text (map pos ids)) (codes "0\n") ∙ ap (λ x. (decimal id ++ codes " d ") ++ (x ++ codes "0\n")) (spaced_is (map pos ids))
drop_whole Binary id ids = refl
