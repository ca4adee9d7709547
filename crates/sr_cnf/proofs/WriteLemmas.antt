-- The text of a formula, line after line.
use Rattle.std.proofs.Common.{◌≡◌, ◌∙◌, ℕ, ℤ, ◌-◌, sym, ap, refl, List, [], ◌∷◌, ◌++◌, map, None, append_assoc}
use Rattle.std.specs.Prelude.{codes, Result, Ok, Err, OnOk, slice_index_or}
use Rattle.std.specs.Fmt.{signed_decimal}
use Rattle.std.proofs.lemmas.List.{append-nil}
use Rattle.sr_base.specs.Literal.{Literal, number}
use Rattle.sr_base.specs.declared.names.Form.TheVariants.{Text}
use Rattle.sr_model.specs.Dimacs.{Formula}
use Rattle.sr_model.specs.Writing.{number_line}
use Rattle.sr_scan.specs.Written.{written_literals, written_end}
use Rattle.sr_scan.proofs.WriteLemmas.{spaced_is}

-- a clause and the end of its line
pub line_put : {T E : Type 0} (old mid new : List ℕ) (c : List Literal) (r : Result T E) → mid ≡ old ++ written_literals Text c → OnOk r (new ≡ mid ++ written_end Text)
    → OnOk r (new ≡ old ++ number_line (map number c))
line_put old mid new c (Ok v) m e =
    e ∙ ap (λ l. l ++ written_end Text) m ∙ append_assoc old (written_literals Text c) (written_end Text)
    ∙ ap (λ l. old ++ (l ++ written_end Text)) (spaced_is (map number c))
line_put old mid new c (Err x) m e = tt

-- the clauses of some numbers
abbrev pub chosen : Formula → List ℕ → List (List Literal)
chosen f ids = map (λ n. slice_index_or f.clauses (n - 1) []) ids
