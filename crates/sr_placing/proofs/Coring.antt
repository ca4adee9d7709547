-- The clauses of the core, by their numbers.
use Rattle.std.proofs.Common.{◌≡◌, ℕ, suc, zero, ◌+◌, ◌-◌, ◌<◌, ◌≤◌, Bool, List, [], ◌∷◌, ◌++◌, refl, sym, ◌∙◌, ap, subst, arith, length, get_or, take, append_assoc, append-nil}
use Rattle.std.specs.Prelude.{filter, map, All, slice_index_or, codes, decimal}
use Rattle.std.proofs.lemmas.List.{length_push, take_more}
use Rattle.sr_base.specs.Literal.{Literal, number}
use Rattle.sr_base.specs.declared.names.Form.TheVariants.{Text}
use Rattle.sr_model.specs.Chain.{clauses}
use Rattle.sr_model.specs.Meeting.{Step}
use Rattle.sr_model.specs.Judging.{numbered_from}
use Rattle.sr_model.specs.Dimacs.{Formula}
use Rattle.sr_model.specs.Writing.{selected, number_line, clause_lines}
use Rattle.sr_scan.specs.Written.{written_literals, written_end}
use Rattle.sr_scan.proofs.WriteLemmas.{spaced_is}
use Rattle.sr_trimming.specs.Citing.{is_cited, cited_of, core}
use Rattle.sr_trimming.specs.Placing.{numbers}
use Rattle.sr_cnf.specs.Written.{IsNumberOf, header}
use Rattle.sr_cnf.proofs.WriteLemmas.{chosen}
use Rattle.sr_table.proofs.Paging.{by_test}

-- the clauses of picked numbers are the picked clauses
picked : (t : ℕ × List Literal → Bool) (all before rest : List (List Literal)) → all ≡ before ++ rest
    → map (λ n. slice_index_or all (n - 1) []) (numbers (filter t (numbered_from (length before + 1) rest))) ≡ clauses (filter t (numbered_from (length before + 1) rest))
picked t all before [] e = refl
picked t all before (c ∷ cs) e =
    let more : map (λ n. slice_index_or all (n - 1) []) (numbers (filter t (numbered_from (length before + 1 + 1) cs))) ≡ clauses (filter t (numbered_from (length before + 1 + 1) cs)) =
    subst (λ n. map (λ m. slice_index_or all (m - 1) []) (numbers (filter t (numbered_from (n + 1) cs))) ≡ clauses (filter t (numbered_from (n + 1) cs))) (length_push before c)
    (picked t all (before ++ c ∷ []) cs (e ∙ sym (append_assoc before (c ∷ []) cs))) in
    let at : length before + 1 - 1 ≡ length before = omega arith in
    let own : slice_index_or all (length before + 1 - 1) [] ≡ c = ap (λ n. get_or all n []) at ∙ ap (λ l. get_or l (length before) []) e ∙ first before in
    by_test (t (length before + 1, c)) (λ p. rw (p, own, more) refl) (λ p. rw p more)
  where
    first : (xs : List (List Literal)) → get_or (xs ++ c ∷ cs) (length xs) [] ≡ c
    first [] = refl
    first (x ∷ xs) = first xs

pub core_selected : (f : Formula) (ss : List Step) → selected f (numbers (cited_of (numbered_from 1 f.clauses) ss)) ≡ record { vars = f.vars; clauses = core f.clauses ss }
core_selected f ss = ap (λ cs. record { vars = f.vars; clauses = cs }) (picked (λ p. is_cited p.0 ss) f.clauses [] f.clauses refl)

-- they are numbers of the formula's clauses
of_formula : (f : Formula) (t : ℕ × List Literal → Bool) (n : ℕ) (cs : List (List Literal)) → 1 ≤ n → n + length cs ≤ length f.clauses + 1 → All (IsNumberOf f) (numbers (filter t (numbered_from n cs)))
of_formula f t n [] low high = λ i d h. absurd (omega arith)
of_formula f t n (c ∷ cs) low high =
    let more = of_formula f t (n + 1) cs (omega arith) (omega arith) in
    by_test (t (n, c)) (λ p. rw p (λ i d h. with_first n (numbers (filter t (numbered_from (n + 1) cs))) (low, omega arith) more i d h)) (λ p. rw p more)
  where
    with_first : (m : ℕ) (ms : List ℕ) → IsNumberOf f m → All (IsNumberOf f) ms → All (IsNumberOf f) (m ∷ ms)
    with_first m ms one all zero d h = one
    with_first m ms one all (suc i) d h = all i d (omega arith)

pub core_numbers : (f : Formula) (ss : List Step) → All (IsNumberOf f) (numbers (cited_of (numbered_from 1 f.clauses) ss))
core_numbers f ss = of_formula f (λ p. is_cited p.0 ss) 1 f.clauses (omega arith) (omega arith)

-- the text, line after line
pub header_put : (vars count : ℕ) → (((codes "p cnf " ++ decimal vars) ++ codes " ") ++ decimal count) ++ codes "\n" ≡ header vars count
header_put vars count = ap (λ x. x ++ codes "\n") (append_assoc (codes "p cnf " ++ decimal vars) (32 ∷ []) (decimal count))

pub line_put : (c : List Literal) → written_literals Text c ++ written_end Text ≡ number_line (map number c)
line_put c = ap (λ x. x ++ written_end Text) (spaced_is (map number c))

lines_push : (cs : List (List Literal)) (c : List Literal) → clause_lines (cs ++ c ∷ []) ≡ clause_lines cs ++ number_line (map number c)
lines_push [] c = append-nil (number_line (map number c))
lines_push (d ∷ ds) c = ap (λ x. number_line (map number d) ++ x) (lines_push ds c) ∙ sym (append_assoc (number_line (map number d)) (clause_lines ds) (number_line (map number c)))

chosen_push : (f : Formula) (ids : List ℕ) (n : ℕ) → chosen f (ids ++ n ∷ []) ≡ chosen f ids ++ slice_index_or f.clauses (n - 1) [] ∷ []
chosen_push f [] n = refl
chosen_push f (m ∷ ids) n = ap (λ x. slice_index_or f.clauses (m - 1) [] ∷ x) (chosen_push f ids n)

pub lines_more : (first : List ℕ) (f : Formula) (ids : List ℕ) (i : ℕ) (c : List Literal) → i < length ids → c ≡ slice_index_or f.clauses (get_or ids i 0 - 1) []
    → (first ++ clause_lines (chosen f (take i ids))) ++ number_line (map number c) ≡ first ++ clause_lines (chosen f (take (i + 1) ids))
lines_more first f ids i c h is =
    let more : chosen f (take (i + 1) ids) ≡ chosen f (take i ids) ++ c ∷ [] =
    ap (chosen f) (take_more ids i 0 h) ∙ chosen_push f (take i ids) (get_or ids i 0) ∙ ap (λ x. chosen f (take i ids) ++ x ∷ []) (sym is) in
    append_assoc first (clause_lines (chosen f (take i ids))) (number_line (map number c)) ∙ ap (λ x. first ++ x) (sym (ap clause_lines more ∙ lines_push (chosen f (take i ids)) c))
