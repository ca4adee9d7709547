-- Lines of a proof by lemmas that are written are read again.
use Rattle.std.proofs.Common.{◌≡◌, ◌∙◌, ℕ, suc, ◌+◌, ◌-◌, ◌≤◌, sym, ap, List, [], ◌∷◌, ◌++◌, length, map, Option, Some, ℤ, pos, arith}
use Rattle.sr_base.specs.Literal.{Literal, number, literal_of, distinct}
use Rattle.sr_base.specs.Limits.{LimitValues}
use Rattle.sr_base.specs.Contents.{Ending}
use Rattle.sr_base.specs.declared.names.LimitKind.TheVariants as limit
use Rattle.sr_model.specs.declared.tokens.Word.TheVariants as word
use Rattle.sr_model.specs.Tokens.{Tokens, next}
use Rattle.sr_model.specs.TextTokens.{spelled_from}
use Rattle.sr_model.specs.BinaryTokens.{binary_from}
use Rattle.sr_model.specs.Witnesses.{fault_of_literals}
use Rattle.sr_model.specs.Reading.{reads}
use Rattle.sr_model.specs.Lsr.{numbers_after}
use Rattle.sr_model.specs.Dsr.{Lemma, Line, lemma_line, deletion_line, lemma_of, judged_lemma, with_lemma, with_deletion, line_at, binary_line_at}
use Rattle.sr_model.specs.Writing.{number_list, witness_written, literals_written, line_text, line_binary}
use Rattle.sr_model.specs.ReadAgain.{AreLimits, IsClause, IsLemma, IsLine}
use Rattle.sr_model.proofs.BinaryTokens.{binary_begins}
use Rattle.sr_model.proofs.NumberStreams.{Begins, Entries, Narrow, numbers_read, text_begins, zeros}
use Rattle.sr_model.proofs.PartsWritten.{AreLiterals, all_literals, literals_back, literal_entries, clause_literals, distinct_same, parts_read}
use Rattle.sr_model.proofs.ItemsAgain.{narrow_entries, zeros_none, deletion_text, binary_item_begins, HasNumber, number_first}

lemma_literals : (vars : ℕ) (l : Lemma) → IsLemma vars l → AreLiterals vars (l.clause ++ witness_written l.witness)
lemma_literals vars l i = clause_literals vars l.clause l.witness i.clause i.witness

lemma_entries : (vars : ℕ) (l : Lemma) → IsLemma vars l → Entries vars (literals_written l.clause l.witness)
lemma_entries vars l i = literal_entries vars (l.clause ++ witness_written l.witness) (lemma_literals vars l i)

clause_entries : (vars : ℕ) (c : List Literal) → IsClause vars c → Entries vars (map number c)
clause_entries vars c i = literal_entries vars c (all_literals vars c i.within)

-- the numbers of a lemma
lemma_read : (vars : ℕ) (l : Lemma) → IsLemma vars l → (ts rest : Tokens) → Begins (literals_written l.clause l.witness ++ pos 0 ∷ []) ts rest
    → with_lemma (numbers_after limit.Vars vars [] ts) ≡ reads (Some (lemma_line l)) rest
lemma_read vars l i ts rest b =
    let all : List Literal = l.clause ++ witness_written l.witness in
    let r = numbers_read limit.Vars vars [] (literals_written l.clause l.witness) [] ts rest (lemma_entries vars l i) b in
    let back : map literal_of (literals_written l.clause l.witness) ≡ all = literals_back vars all (lemma_literals vars l i) in
    let parts = parts_read vars l.clause l.witness i.clause i.witness in
    let made : lemma_of all ≡ l =
    ap (λ c. record { clause = c; witness = (lemma_of all).witness }) parts.clause ∙ ap (λ w. record { clause = l.clause; witness = w }) parts.witness in
    ap with_lemma r.2
    ∙ ap (λ ls. judged_lemma (fault_of_literals ls) r.0 (lemma_of ls) r.1) back
    ∙ ap (λ o. judged_lemma o r.0 (lemma_of all) r.1) parts.faultless
    ∙ ap (λ (m : Lemma). reads (Some (lemma_line m)) r.1) made
    ∙ ap (reads (Some (lemma_line l))) r.3

-- and those of a deletion
deletion_read : (vars : ℕ) (c : List Literal) → IsClause vars c → (ts rest : Tokens) → Begins (map number c ++ pos 0 ∷ []) ts rest
    → with_deletion (numbers_after limit.Vars vars [] ts) ≡ reads (Some (deletion_line c)) rest
deletion_read vars c i ts rest b =
    let r = numbers_read limit.Vars vars [] (map number c) [] ts rest (clause_entries vars c i) b in
    ap with_deletion r.2
    ∙ ap (λ ls. reads (Some (deletion_line (distinct ls))) r.1) (literals_back vars c (all_literals vars c i.within))
    ∙ ap (λ ls. reads (Some (deletion_line ls)) r.1) (distinct_same c i.distinct)
    ∙ ap (reads (Some (deletion_line c))) r.3

lemma_text_read : (lim : LimitValues) (ts : Tokens) → HasNumber ts → line_at lim ts ≡ with_lemma (numbers_after limit.Vars lim.vars [] ts)
unfolding line_at
lemma_text_read lim ts n = ap (line_at lim) n.3 ∙ ap (λ t. with_lemma (numbers_after limit.Vars lim.vars [] t)) (sym n.3)

deletion_text_read : (lim : LimitValues) (place : ℕ) (ts mid : Tokens) → ts ≡ next (record { place = place; word = word.Del }) mid → line_at lim ts ≡ with_deletion (numbers_after limit.Vars lim.vars [] mid)
unfolding line_at
deletion_text_read lim place ts mid e = ap (line_at lim) e

pub lines_again : (lim : LimitValues) (l : Line) (ending : Ending) (before : Option ℕ) (room place : ℕ) (more : List ℕ) → AreLimits lim → IsLine lim.vars l → length (line_text l) ≤ room
    → line_at lim (spelled_from ending before room place (line_text l ++ more))
    ≡ reads (Some l) (spelled_from ending (Some 10) (room - length (line_text l)) (place + length (line_text l)) more)
lines_again lim (lemma_line l) ending before room place more a i fits =
    let xs : List ℤ = literals_written l.clause l.witness in
    let narrow : Narrow xs = narrow_entries lim.vars xs (omega (arith, a.0)) (lemma_entries lim.vars l i) in
    let b = text_begins xs narrow ending before room place more fits in
    lemma_text_read lim _ (number_first xs [] _ _ b) ∙ lemma_read lim.vars l i _ _ b
lines_again lim (deletion_line c) ending before room place more a i fits =
    let narrow : Narrow (map number c) = narrow_entries lim.vars (map number c) (omega (arith, a.0)) (clause_entries lim.vars c i) in
    let d = deletion_text (map number c) narrow ending before room place more fits in
    deletion_text_read lim place _ d.0 d.1 ∙ deletion_read lim.vars c i d.0 _ d.2

pub binary_lines_again : (lim : LimitValues) (l : Line) (ending : Ending) (room place : ℕ) (more : List ℕ) → AreLimits lim → IsLine lim.vars l → length (line_binary l) ≤ room
    → binary_line_at lim (binary_from ending 1 0 room place (line_binary l ++ more))
    ≡ reads (Some l) (binary_from ending 1 0 (room - length (line_binary l)) (place + length (line_binary l)) more)
unfolding binary_line_at
binary_lines_again lim (lemma_line l) ending room place more a i fits =
    let xs : List ℤ = literals_written l.clause l.witness in
    let entries : Entries lim.vars xs = lemma_entries lim.vars l i in
    let closed : 1 ≡ suc (zeros xs) = omega (arith, zeros_none lim.vars xs entries) in
    let first = binary_begins ending 1 room place 97 (number_list xs ++ more) (omega arith) in
    let b = binary_item_begins ending 1 room place 97 xs more (narrow_entries lim.vars xs (omega (arith, a.0)) entries) fits word.Add 1 first closed in
    ap (binary_line_at lim) b.1 ∙ lemma_read lim.vars l i b.0 _ b.2
binary_lines_again lim (deletion_line c) ending room place more a i fits =
    let xs : List ℤ = map number c in
    let entries : Entries lim.vars xs = clause_entries lim.vars c i in
    let closed : 1 ≡ suc (zeros xs) = omega (arith, zeros_none lim.vars xs entries) in
    let first = binary_begins ending 1 room place 100 (number_list xs ++ more) (omega arith) in
    let b = binary_item_begins ending 1 room place 100 xs more (narrow_entries lim.vars xs (omega (arith, a.0)) entries) fits word.Del 1 first closed in
    ap (binary_line_at lim) b.1 ∙ deletion_read lim.vars c i b.0 _ b.2
