-- Steps and deletions by the parts that are put.
use Rattle.std.proofs.Common.{◌≡◌, ◌≢◌, ◌∙◌, ℕ, ℤ, pos, ◌+◌, ◌<◌, refl, sym, ap, List, [], ◌∷◌, ◌++◌, not, Some, None, length, map, take, get_or, append_assoc, append-nil}
use Rattle.std.specs.Prelude.{filter, codes, decimal}
use Rattle.std.proofs.lemmas.List.{take_more}
use Rattle.std.proofs.lemmas.List.Elements.{filter-append}
use Rattle.sr_base.specs.Literal.{Literal, same}
use Rattle.sr_base.specs.declared.names.Form.{Form}
use Rattle.sr_base.specs.declared.names.Form.TheVariants.{Text}
use Rattle.sr_model.specs.Substitution.{Witness}
use Rattle.sr_model.specs.Meeting.{Group, Step}
use Rattle.sr_model.specs.Judging.{stepped, dropped}
use Rattle.sr_model.specs.Writing.{flat, witness_written, literals_written, groups_written, hints_written, step_numbers, written_item, written_items}
use Rattle.sr_trimming.specs.Placing.{deletion}
use Rattle.sr_trimming.specs.Reordered.{put_first}
use Rattle.sr_scan.specs.Written.{written_number, written_numbers, written_literals, written_end}
use Rattle.sr_scan.proofs.WriteLemmas.{numbers_append, literals_written_append}
use Rattle.sr_lemma.proofs.WriteLemmas.{pairs_step}
use Rattle.sr_lsr.specs.Written.{step_start, drop_start}
use Rattle.sr_lsr.proofs.WriteLemmas.{groups_step, step_whole, drop_whole}
use Rattle.sr_steps.specs.Kept.{Kept}
use Rattle.sr_placing.specs.Parts.{start_put, hints_put}

-- a step
step_joined : (a b c d e : List ℕ) → ((a ++ b) ++ c) ++ (d ++ e) ≡ (a ++ (b ++ (c ++ d))) ++ e
step_joined a b c d e = simp append_assoc

pub step_put : (form : Form) (s : Step) (k : Kept) → s.id ≡ k.id → s.prefix ≡ k.prefix → s.groups ≡ k.groups
    → (start_put form k.id ++ written_numbers form (literals_written s.clause s.witness)) ++ hints_put form k ≡ written_item form (stepped s)
step_put form s k i p g =
    let hints : List ℤ = pos 0 ∷ hints_written s in
    let parts : written_numbers form (pos s.id ∷ step_numbers s) ≡ written_numbers form (pos s.id ∷ []) ++ (written_numbers form (literals_written s.clause s.witness) ++ written_numbers form hints) =
    numbers_append form (pos s.id ∷ []) (step_numbers s) ∙ ap (λ x. written_numbers form (pos s.id ∷ []) ++ x) (numbers_append form (literals_written s.clause s.witness) hints) in
    let same_id : start_put form k.id ≡ start_put form s.id = ap (start_put form) (sym i) in
    let same_hints : hints_put form k ≡ written_numbers form hints ++ written_end form =
    ap (λ x. written_numbers form (pos 0 ∷ (map pos x ++ groups_written k.groups)) ++ written_end form) (sym p)
    ∙ ap (λ x. written_numbers form (pos 0 ∷ (map pos s.prefix ++ groups_written x)) ++ written_end form) (sym g) in
    ap (λ x. (x ++ written_numbers form (literals_written s.clause s.witness)) ++ hints_put form k) same_id
    ∙ ap (λ x. (start_put form s.id ++ written_numbers form (literals_written s.clause s.witness)) ++ x) same_hints
    ∙ step_joined (step_start form) (written_numbers form (pos s.id ∷ [])) (written_numbers form (literals_written s.clause s.witness)) (written_numbers form hints) (written_end form)
    ∙ ap (λ x. (step_start form ++ x) ++ written_end form) (sym parts) ∙ step_whole form s

-- the literals of a lemma
pub literals_put : (form : Form) (c : List Literal) (w : Witness) → written_literals form c ++ written_literals form (witness_written (Some w)) ≡ written_numbers form (literals_written c (Some w))
literals_put form c w = sym (literals_written_append form c (witness_written (Some w)))

pub clause_put : (form : Form) (c : List Literal) → written_literals form c ≡ written_numbers form (literals_written c None)
clause_put form c = ap (written_literals form) (sym (append-nil c))

-- a deletion
pub deletion_put : (form : Form) (id : ℕ) (ids : List ℕ) → ids ≢ [] → (drop_start form id ++ written_numbers form (map pos ids)) ++ written_end form ≡ written_items form (deletion id ids [])
deletion_put form id [] h = absurd (h refl)
deletion_put form id (n ∷ ns) h = drop_whole form id (n ∷ ns) ∙ sym (append-nil (written_item form (dropped id (n ∷ ns))))

-- one more pair, one more group, and one more literal after the pivot
pub pair_more : (form : Form) (maps : List (Literal × Literal)) (i : ℕ) (m : Literal × Literal) → i < length maps → m ≡ get_or maps i m
    → (written_literals form (flat (take i maps)) ++ written_literals form (m.0 ∷ [])) ++ written_literals form (m.1 ∷ []) ≡ written_literals form (flat (take (i + 1) maps))
pair_more form maps i m h is =
    append_assoc (written_literals form (flat (take i maps))) (written_literals form (m.0 ∷ [])) (written_literals form (m.1 ∷ []))
    ∙ ap (λ x. written_literals form (flat (take i maps)) ++ x) (sym (literals_written_append form (m.0 ∷ []) (m.1 ∷ [])))
    ∙ pairs_step form [] (written_literals form (flat (take i maps))) (written_literals form (flat (take i maps)) ++ written_literals form (m.0 ∷ m.1 ∷ [])) maps i m h is refl refl

pub group_more : (form : Form) (groups : List Group) (i : ℕ) (g : Group) → i < length groups → g ≡ get_or groups i g
    → written_numbers form (groups_written (take i groups)) ++ written_numbers form (groups_written (g ∷ [])) ≡ written_numbers form (groups_written (take (i + 1) groups))
group_more form groups i g h is = groups_step form [] (written_numbers form (groups_written (take i groups))) (written_numbers form (groups_written (take i groups)) ++ written_numbers form (groups_written (g ∷ []))) groups i g h is refl refl

first_append : (p : Literal) (xs : List Literal) (l : Literal) → put_first p (xs ++ l ∷ []) ≡ put_first p xs ++ filter (λ k. not (same p k)) (l ∷ [])
first_append p xs l = ap (λ x. p ∷ x) (filter-append (λ k. not (same p k)) xs (l ∷ []))

pub other_more : (form : Form) (p : Literal) (lits : List Literal) (i : ℕ) (l : Literal) → i < length lits → l ≡ get_or lits i l
    → written_literals form (put_first p (take i lits)) ++ written_literals form (filter (λ k. not (same p k)) (l ∷ [])) ≡ written_literals form (put_first p (take (i + 1) lits))
other_more form p lits i l h is =
    let more : take (i + 1) lits ≡ take i lits ++ l ∷ [] = take_more lits i l h ∙ ap (λ x. take i lits ++ x ∷ []) (sym is) in
    sym (literals_written_append form (put_first p (take i lits)) (filter (λ k. not (same p k)) (l ∷ []))) ∙ ap (written_literals form) (sym (ap (put_first p) more ∙ first_append p (take i lits) l))

-- a deletion's number in text
pub drop_text : (id : ℕ) → written_number Text (pos id) ++ codes "d " ≡ drop_start Text id
drop_text id = append_assoc (decimal id) (32 ∷ []) (codes "d ")
