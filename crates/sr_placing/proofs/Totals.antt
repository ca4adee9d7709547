-- However a clause's literals are ordered, as many bytes are written.
use Rattle.std.proofs.Common.{◌≡◌, ℕ, ◌+◌, true, false, not, List, [], ◌∷◌, ◌++◌, refl, sym, ◌∙◌, ap, arith, length, length-append}
use Rattle.std.specs.Prelude.{filter, sum_by}
use Rattle.sr_base.specs.Literal.{Literal, number, same, has, NoRepeats, SameSet}
use Rattle.std.proofs.lemmas.List.Sums.{sum_by-cons}
use Rattle.sr_base.proofs.Literals.{same_tells}
use Rattle.sr_base.proofs.Plain.{filter_absent}
use Rattle.sr_base.specs.declared.names.Form.{Form}
use Rattle.sr_model.specs.Chain.{Numbered}
use Rattle.sr_model.specs.Meeting.{Step}
use Rattle.sr_model.specs.Judging.{Item, stepped, numbered_from}
use Rattle.sr_model.specs.Writing.{witness_written, literals_written, written_item, written_items}
use Rattle.sr_trimming.specs.Placing.{numbers, deletion, last_cited, placed_from, uncited, placed}
use Rattle.sr_trimming.specs.Reordered.{IsReordered, IsStepRewritten, AreStepsRewritten}
use Rattle.sr_trimming.proofs.Placed.{known_after}
use Rattle.sr_scan.specs.Written.{written_number, written_numbers, written_literals}
use Rattle.sr_scan.proofs.WriteLemmas.{literals_written_append}
use Rattle.sr_model.proofs.Soundness.{has_kept}
use Rattle.sr_trimming.proofs.Reordered.{no_repeats_kept}
use Rattle.sr_table.proofs.Paging.{by_test}
use Rattle.sr_steps.specs.Kept.{Kept}
use Rattle.sr_placing.specs.Parts.{start_put, hints_put}
use Rattle.sr_placing.proofs.Putting.{step_put}
use Rattle.sr_placing.proofs.Laying.{deletion_append, items_append, last_same, known_same, uncited_same}

-- a literal that is there counts once
without_one : (g : Literal → ℕ) (x : Literal) (d : List Literal) → NoRepeats d → has x d ≡ true → sum_by g d ≡ g x + sum_by g (filter (λ k. not (same x k)) d)
without_one g x [] n h = absurd cc
without_one g x (k ∷ ks) n h = by_test (same x k)
    (λ e. let is : x ≡ k = grind (arith, same_tells x k) in
    let gone : has x ks ≡ false = ap (λ y. has y ks) is ∙ n.0 in
    let all : filter (λ j. not (same x j)) ks ≡ ks = filter_absent x ks gone in
    let first : filter (λ j. not (same x j)) (k ∷ ks) ≡ ks = rw e all in
    sum_by-cons g k ks ∙ ap (λ y. g y + sum_by g ks) (sym is) ∙ ap (λ l. g x + sum_by g l) (sym first))
    (λ e. let rest : has x ks ≡ true = grind (arith, same_tells k x, same_tells x k) in
    let more = without_one g x ks n.1 rest in
    let first : filter (λ j. not (same x j)) (k ∷ ks) ≡ k ∷ filter (λ j. not (same x j)) ks = rw e refl in
    let sum = sum_by-cons g k (filter (λ j. not (same x j)) ks) in
    let total : sum_by g (filter (λ j. not (same x j)) (k ∷ ks)) ≡ g k + sum_by g (filter (λ j. not (same x j)) ks) = ap (sum_by g) first ∙ sum in
    omega (arith, more, total, sum_by-cons g k ks))

pub same_total : (g : Literal → ℕ) (c d : List Literal) → NoRepeats c → NoRepeats d → SameSet c d → sum_by g c ≡ sum_by g d
same_total g [] [] n m s = refl
same_total g [] (k ∷ d) n m s = absurd (grind (arith, s k, same_tells k k))
same_total g (l ∷ c) d n m s =
    let there : has l d ≡ true = sym (s l) ∙ grind (arith, same_tells l l) in
    let rest : sum_by g c ≡ sum_by g (filter (λ k. not (same l k)) d) =
    same_total g c (filter (λ k. not (same l k)) d) n.1 (no_repeats_kept (λ k. not (same l k)) d m) (λ k. grind (arith, has_kept (λ k. not (same l k)) k d, s k, same_tells l k, n.0)) in
    sum_by-cons g l c ∙ ap (λ x. g l + x) rest ∙ sym (without_one g l d m there)

-- the bytes of literals
literals_length : (form : Form) (c : List Literal) → length (written_literals form c) ≡ sum_by (λ l. length (written_number form (number l))) c
literals_length form [] = refl
literals_length form (l ∷ c) =
    length-append (written_number form (number l)) (written_literals form c) ∙ ap (λ n. length (written_number form (number l)) + n) (literals_length form c) ∙ sym (sum_by-cons (λ k. length (written_number form (number k))) l c)

clause_length : (form : Form) (c d : List Literal) → IsReordered c d → length (written_literals form c) ≡ length (written_literals form d)
clause_length form c d r =
    literals_length form c ∙ same_total (λ l. length (written_number form (number l))) c d r.none_twice r.none_twice_in_other r.same_literals ∙ sym (literals_length form d)

-- the bytes of a step
step_length : (form : Form) (s : Step) → length (written_item form (stepped s))
    ≡ length (start_put form s.id) + (length (written_literals form s.clause) + length (written_literals form (witness_written s.witness))) + length (hints_put form (record { id = s.id; by_witness = false; prefix = s.prefix; groups = s.groups }))
step_length form s =
    let k : Kept = record { id = s.id; by_witness = false; prefix = s.prefix; groups = s.groups } in
    let lits : List ℕ = written_numbers form (literals_written s.clause s.witness) in
    let apart : length lits ≡ length (written_literals form s.clause) + length (written_literals form (witness_written s.witness)) =
    ap length (literals_written_append form s.clause (witness_written s.witness)) ∙ length-append (written_literals form s.clause) (written_literals form (witness_written s.witness)) in
    ap length (sym (step_put form s k refl refl refl)) ∙ length-append (start_put form s.id ++ lits) (hints_put form k)
    ∙ ap (λ n. n + length (hints_put form k)) (length-append (start_put form s.id) lits ∙ ap (λ n. length (start_put form s.id) + n) apart)

steps_as_long : (form : Form) (s t : Step) → IsStepRewritten s t → length (written_item form (stepped s)) ≡ length (written_item form (stepped t))
steps_as_long form s t r =
    step_length form s
    ∙ ap (λ n. length (start_put form n) + (length (written_literals form s.clause) + length (written_literals form (witness_written s.witness))) + length (hints_put form (record { id = n; by_witness = false; prefix = s.prefix; groups = s.groups }))) r.id
    ∙ ap (λ n. length (start_put form t.id) + (n + length (written_literals form (witness_written s.witness))) + length (hints_put form (record { id = t.id; by_witness = false; prefix = s.prefix; groups = s.groups }))) (clause_length form s.clause t.clause r.clause.reordered)
    ∙ ap (λ w. length (start_put form t.id) + (length (written_literals form t.clause) + length (written_literals form (witness_written w))) + length (hints_put form (record { id = t.id; by_witness = false; prefix = s.prefix; groups = s.groups }))) r.witness
    ∙ ap (λ x. length (start_put form t.id) + (length (written_literals form t.clause) + length (written_literals form (witness_written t.witness))) + length (hints_put form (record { id = t.id; by_witness = false; prefix = x; groups = s.groups }))) r.prefix
    ∙ ap (λ x. length (start_put form t.id) + (length (written_literals form t.clause) + length (written_literals form (witness_written t.witness))) + length (hints_put form (record { id = t.id; by_witness = false; prefix = t.prefix; groups = x }))) r.groups
    ∙ sym (step_length form t)

-- the bytes of items with a deletion in front
deletion_length : (form : Form) (id : ℕ) (ids : List ℕ) (xs : List Item) → length (written_items form (deletion id ids xs)) ≡ length (written_items form (deletion id ids [])) + length (written_items form xs)
deletion_length form id ids xs =
    ap (λ l. length (written_items form l)) (sym (deletion_append id ids [] xs)) ∙ ap length (items_append form (deletion id ids []) xs) ∙ length-append (written_items form (deletion id ids [])) (written_items form xs)

item_length : (form : Form) (x : Item) (xs : List Item) → length (written_items form (x ∷ xs)) ≡ length (written_item form x) + length (written_items form xs)
item_length form x xs = length-append (written_item form x) (written_items form xs)

from_as_long : (form : Form) (known mem : Numbered) (ss ts : List Step) → numbers known ≡ numbers mem → AreStepsRewritten ss ts → length (written_items form (placed_from known ss)) ≡ length (written_items form (placed_from mem ts))
from_as_long form known mem [] [] e r = refl
from_as_long form known mem [] (t ∷ ts) e r = absurd r
from_as_long form known mem (s ∷ ss) [] e r = absurd r
from_as_long form known mem (s ∷ []) (t ∷ []) e r = item_length form (stepped s) [] ∙ ap (λ n. n + 0) (steps_as_long form s t r.0) ∙ sym (item_length form (stepped t) [])
from_as_long form known mem (s ∷ []) (t ∷ u ∷ ts) e r = absurd r.1
from_as_long form known mem (s ∷ x ∷ ss) (t ∷ []) e r = absurd r.1
from_as_long form known mem (s ∷ x ∷ ss) (t ∷ u ∷ ts) e r =
    let gone : List ℕ = last_cited known s (x ∷ ss) in
    let gone_too : List ℕ = last_cited mem t (u ∷ ts) in
    let same_ids : gone ≡ gone_too = last_same known mem s t (x ∷ ss) (u ∷ ts) e r.0 r.1 in
    let more = from_as_long form (known_after known s) (known_after mem t) (x ∷ ss) (u ∷ ts) (known_same known mem s t e r.0) r.1 in
    let first = steps_as_long form s t r.0 in
    let drop : length (written_items form (deletion s.id gone [])) ≡ length (written_items form (deletion t.id gone_too [])) =
    ap (λ n. length (written_items form (deletion n gone []))) r.0.id ∙ ap (λ l. length (written_items form (deletion t.id l []))) same_ids in
    let left = item_length form (stepped s) (deletion s.id gone (placed_from (known_after known s) (x ∷ ss))) in
    let right = item_length form (stepped t) (deletion t.id gone_too (placed_from (known_after mem t) (u ∷ ts))) in
    let left_more = deletion_length form s.id gone (placed_from (known_after known s) (x ∷ ss)) in
    let right_more = deletion_length form t.id gone_too (placed_from (known_after mem t) (u ∷ ts)) in
    omega (arith, more, first, drop, left, right, left_more, right_more)

pub as_long : (form : Form) (f : List (List Literal)) (ss ts : List Step) → AreStepsRewritten ss ts → length (written_items form (placed f ss)) ≡ length (written_items form (placed f ts))
as_long form f ss ts r =
    let same_ids = uncited_same f ss ts r in
    let more = from_as_long form (numbered_from 1 f) (numbered_from 1 f) ss ts refl r in
    deletion_length form (length f) (uncited f ss) (placed_from (numbered_from 1 f) ss)
    ∙ ap (λ n. length (written_items form (deletion (length f) (uncited f ss) [])) + n) more
    ∙ ap (λ l. length (written_items form (deletion (length f) l [])) + length (written_items form (placed_from (numbered_from 1 f) ts))) same_ids
    ∙ sym (deletion_length form (length f) (uncited f ts) (placed_from (numbered_from 1 f) ts))
