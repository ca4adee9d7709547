-- Formulas that are written are read again.
use Rattle.std.proofs.Common.{◌≡◌, ◌∙◌, ℕ, zero, suc, ◌+◌, ◌-◌, ◌^◌, ◌<◌, ◌≤◌, Bool, true, false, refl, sym, ap, List, [], ◌∷◌, ◌++◌, length, map, get_or, Option, Some, None, ℤ, pos, negsuc, arith, append_assoc, length-append}
use Rattle.std.specs.Prelude.{nat_abs, nat_le, nat_lt, All, codes, decimal}
use Rattle.std.proofs.lemmas.Bool.Decides.{nat_tests}
use Rattle.std.proofs.lemmas.List.{append-nil, length-map}
use Rattle.sr_base.specs.Literal.{Literal, variable, number, literal_of, distinct}
use Rattle.sr_base.specs.Limits.{LimitValues}
use Rattle.sr_model.specs.declared.tokens.Word.TheVariants as word
use Rattle.sr_base.specs.Contents.{Ending, ended, failed, whole}
use Rattle.sr_model.specs.Tokens.{Tokens, finished, next, ending_at}
use Rattle.sr_model.specs.Reading.{Read, reads}
use Rattle.sr_model.specs.TextTokens.{begins_line, tokens_from, all_said, spelled_from, spelled}
use Rattle.sr_model.specs.Dimacs.{Formula, by_number, clauses_from, clauses_at, sizes_at, format_at, formula_at}
use Rattle.sr_model.specs.Writing.{number_line, clause_lines, written_formula, selected}
use Rattle.sr_model.specs.ReadAgain.{AreLimits, IsLiteral, IsNumber, IsClause, IsFormula}
use Rattle.sr_model.proofs.TextTokens.{IsToken, token_first}
use Rattle.sr_model.proofs.NumberTexts.{one_byte}
use Rattle.sr_model.proofs.NumberStreams.{Begins, Narrow, text_number, text_begins}
use Rattle.sr_model.proofs.PartsWritten.{AreLiterals, all_literals, literal_back, size_of, literal_entries, distinct_same}
use Rattle.sr_model.proofs.ItemsAgain.{narrow_entries}

-- one more literal of a clause
literal_more : (v : ℕ) (done : List (List Literal)) (lits : List Literal) (l : Literal) (place : ℕ) (more : List (List Literal) → Option (List Literal) → Read Formula) → IsLiteral v l
    → by_number v done lits (number l) place more ≡ more done (Some (lits ++ l ∷ []))
literal_more v done lits l place more i = at (number l) (size_of l) ∙ ap (λ k. more done (Some (lits ++ k ∷ []))) (literal_back l i.0)
  where
    at : (x : ℤ) → nat_abs x ≡ variable l → by_number v done lits x place more ≡ more done (Some (lits ++ literal_of x ∷ []))
    at (pos zero) e = absurd (omega (arith, i.0))
    at (pos (suc n)) e = let le : suc n ≤ v = omega (arith, i.1) in let t : nat_le (suc n) v ≡ true = grind (arith, nat_tests) in rw t refl
    at (negsuc n) e = let le : suc n ≤ v = omega (arith, i.1) in let t : nat_le (suc n) v ≡ true = grind (arith, nat_tests) in rw t refl

-- the literals of a clause that go on
literals_read : (v c : ℕ) (done : List (List Literal)) (lits ls : List Literal) (ts rest : Tokens) → AreLiterals v ls → Begins (map number ls ++ pos 0 ∷ []) ts rest
    → clauses_from v c done (Some lits) ts ≡ clauses_from v c (done ++ distinct (lits ++ ls) ∷ []) None rest
unfolding clauses_from
literals_read v c done lits [] ts rest a b =
    ap (clauses_from v c done (Some lits)) b.2
    ∙ ap (λ ks. clauses_from v c (done ++ distinct ks ∷ []) None b.1) (sym (append-nil lits))
    ∙ ap (clauses_from v c (done ++ distinct (lits ++ []) ∷ []) None) b.3
literals_read v c done lits (l ∷ ls) ts rest a b =
    ap (clauses_from v c done (Some lits)) b.2
    ∙ literal_more v done lits l b.0 (λ d o. clauses_from v c d o b.1) a.0
    ∙ literals_read v c done (lits ++ l ∷ []) ls b.1 rest a.1 b.3
    ∙ ap (λ ks. clauses_from v c (done ++ distinct ks ∷ []) None rest) (append_assoc lits (l ∷ []) ls)

-- where a clause begins
clause_begins : (v c : ℕ) (done : List (List Literal)) (x : ℤ) (place : ℕ) (rest : Tokens) → length done < c
    → clauses_from v c done None (next (record { place = place; word = word.Number x }) rest) ≡ clauses_from v c done (Some []) (next (record { place = place; word = word.Number x }) rest)
unfolding clauses_from
clause_begins v c done x place rest lt = let t : nat_lt (length done) c ≡ true = grind (arith, nat_tests) in rw t refl

clause_read : (v c : ℕ) (done : List (List Literal)) (k : List Literal) (ts rest : Tokens) → length done < c → IsClause v k → Begins (map number k ++ pos 0 ∷ []) ts rest
    → clauses_from v c done None ts ≡ clauses_from v c (done ++ k ∷ []) None rest
clause_read v c done k ts rest lt i b =
    begins k b ∙ literals_read v c done [] k ts rest (all_literals v k i.within) b ∙ ap (λ ks. clauses_from v c (done ++ ks ∷ []) None rest) (distinct_same k i.distinct)
  where
    begins : (k : List Literal) → Begins (map number k ++ pos 0 ∷ []) ts rest → clauses_from v c done None ts ≡ clauses_from v c done (Some []) ts
    begins [] b = ap (clauses_from v c done None) b.2 ∙ clause_begins v c done (pos 0) b.0 b.1 lt ∙ ap (clauses_from v c done (Some [])) (sym b.2)
    begins (l ∷ ls) b = ap (clauses_from v c done None) b.2 ∙ clause_begins v c done (number l) b.0 b.1 lt ∙ ap (clauses_from v c done (Some [])) (sym b.2)

no_tokens : (begins : Bool) (place : ℕ) → tokens_from begins place [] ≡ []
no_tokens true place = refl
no_tokens false place = refl

pub text_end : (ending : Ending) (before : Option ℕ) (room place : ℕ) → spelled_from ending before room place [] ≡ ending_at ending place
unfolding spelled_from
text_end ending before room place =
    let f : nat_le 0 room ≡ true = grind (arith, nat_tests) in
    let p : place + 0 ≡ place = omega arith in
    rw f (ap (all_said ending (place + 0)) (no_tokens (begins_line before) place) ∙ at ending ∙ ap (ending_at ending) p)
  where
    at : (e : Ending) → all_said e (place + 0) [] ≡ ending_at e (place + 0)
    at ended = refl
    at failed = refl

formula_ends : (v c : ℕ) (done : List (List Literal)) (place : ℕ) → length done ≡ c → clauses_from v c done None (finished place) ≡ reads (record { vars = v; clauses = done }) (finished place)
unfolding clauses_from
formula_ends v c done place n = let t : nat_lt (length done) c ≡ false = grind (arith, nat_tests) in rw t refl

-- the clauses of a formula, and its end
clauses_read : (v c : ℕ) (done cs : List (List Literal)) → length done + length cs ≡ c → v < 2 ^ 63 → All (IsClause v) cs → (before : Option ℕ) (room place : ℕ) → length (clause_lines cs) ≤ room
    → clauses_from v c done None (spelled_from ended before room place (clause_lines cs)) ≡ reads (record { vars = v; clauses = done ++ cs }) (finished (place + length (clause_lines cs)))
clauses_read v c done [] n small a before room place fits =
    let p : place ≡ place + 0 = omega arith in
    ap (clauses_from v c done None) (text_end ended before room place)
    ∙ formula_ends v c done place (omega arith)
    ∙ ap (λ l. reads (record { vars = v; clauses = l }) (finished place)) (sym (append-nil done))
    ∙ ap (λ (k : ℕ). reads (record { vars = v; clauses = done ++ [] }) (finished k)) p
clauses_read v c done (k ∷ cs) n small a before room place fits =
    let first : IsClause v k = a 0 k (omega arith) in
    let narrow : Narrow (map number k) = narrow_entries v (map number k) small (literal_entries v k (all_literals v k first.within)) in
    let size : length (clause_lines (k ∷ cs)) ≡ length (number_line (map number k)) + length (clause_lines cs) = length-append (number_line (map number k)) (clause_lines cs) in
    let b = text_begins (map number k) narrow ended before room place (clause_lines cs) (omega arith) in
    let p : place + length (number_line (map number k)) + length (clause_lines cs) ≡ place + length (clause_lines (k ∷ cs)) = omega arith in
    clause_read v c done k _ _ (omega arith) first b
    ∙ clauses_read v c (done ++ k ∷ []) cs (omega (arith, length-append done (k ∷ []))) small (λ i d h. a (suc i) d (omega arith)) (Some 10) (room - length (number_line (map number k))) (place + length (number_line (map number k))) (omega arith)
    ∙ ap (λ l. reads (record { vars = v; clauses = l }) (finished (place + length (number_line (map number k)) + length (clause_lines cs)))) (append_assoc done (k ∷ []) cs)
    ∙ ap (λ (n : ℕ). reads (record { vars = v; clauses = done ++ k ∷ cs }) (finished n)) p

-- the numbers of the header
vars_pass : (lim : LimitValues) (v place : ℕ) (rest : Tokens) → v ≤ lim.vars → sizes_at lim (next (record { place = place; word = word.Number (pos v) }) rest) ≡ clauses_at lim v rest
vars_pass lim v place rest le = let t : nat_le v lim.vars ≡ true = grind (arith, nat_tests) in rw t refl

count_passes : (lim : LimitValues) (v c place : ℕ) (rest : Tokens) → c < lim.ids → clauses_at lim v (next (record { place = place; word = word.Number (pos c) }) rest) ≡ clauses_from v c [] None rest
count_passes lim v c place rest lt = let t : nat_lt c lim.ids ≡ true = grind (arith, nat_tests) in rw t refl

pub formulas_again : (lim : LimitValues) (f : Formula) → AreLimits lim → IsFormula lim f → length (written_formula f) ≤ lim.bytes → formula_at lim (spelled lim.bytes (whole (written_formula f))) ≡ reads f (finished (length (written_formula f)))
formulas_again lim f a i fits =
    let v : ℕ = f.vars in
    let c : ℕ = length f.clauses in
    let rest : List ℕ = decimal c ++ 10 ∷ clause_lines f.clauses in
    let bytes : written_formula f ≡ 112 ∷ 32 ∷ 99 ∷ 110 ∷ 102 ∷ 32 ∷ (decimal v ++ 32 ∷ rest) =
    append_assoc (codes "p cnf " ++ decimal v) (32 ∷ decimal c) (10 ∷ clause_lines f.clauses) ∙ append_assoc (codes "p cnf ") (decimal v) (32 ∷ rest) in
    let rest_size : length rest ≡ length (decimal c) + 1 + length (clause_lines f.clauses) = omega (arith, length-append (decimal c) (10 ∷ clause_lines f.clauses)) in
    let size : length (written_formula f) ≡ 6 + length (decimal v) + 1 + length rest = ap length bytes ∙ omega (arith, length-append (decimal v) (32 ∷ rest)) in
    let v_small : v < 2 ^ 63 = omega (arith, a.0, i.vars) in
    let c_small : c < 2 ^ 63 = omega (arith, a.2, i.count) in
    let cnf : IsToken false (codes "cnf") = record { some = omega arith; dark = refl; plain = refl } in
    ap (λ bs. formula_at lim (spelled_from ended None lim.bytes 0 bs)) bytes
    ∙ ap (formula_at lim) (token_first (codes "p") ended None (one_byte true 112 refl refl) lim.bytes 0 32 (99 ∷ 110 ∷ 102 ∷ 32 ∷ (decimal v ++ 32 ∷ rest)) refl (omega arith))
    ∙ ap (format_at lim) (token_first (codes "cnf") ended (Some 32) cnf (lim.bytes - 2) 2 32 (decimal v ++ 32 ∷ rest) refl (omega arith))
    ∙ ap (sizes_at lim) (text_number (pos v) v_small ended (Some 32) (lim.bytes - 2 - 4) 6 32 rest refl (omega arith))
    ∙ vars_pass lim v 6 _ i.vars
    ∙ ap (clauses_at lim v) (text_number (pos c) c_small ended (Some 32) (lim.bytes - 2 - 4 - (length (decimal v) + 1)) (6 + (length (decimal v) + 1)) 10 (clause_lines f.clauses) refl (omega arith))
    ∙ count_passes lim v c (6 + (length (decimal v) + 1)) _ i.count
    ∙ clauses_read v c [] f.clauses (omega arith) v_small i.clauses (Some 10) (lim.bytes - 2 - 4 - (length (decimal v) + 1) - (length (decimal c) + 1)) (6 + (length (decimal v) + 1) + (length (decimal c) + 1)) (omega arith)
    ∙ ap (λ (k : ℕ). reads f (finished k)) (omega arith)

-- some clauses of a formula
chosen_at : (v : ℕ) (cs : List (List Literal)) (n : ℕ) → All (IsClause v) cs → IsNumber (length cs) n → IsClause v (get_or cs (n - 1) [])
chosen_at v cs n a i = a (n - 1) [] (omega (arith, i.0, i.1))

chosen : (v : ℕ) (cs : List (List Literal)) (ids : List ℕ) → All (IsClause v) cs → All (IsNumber (length cs)) ids → All (IsClause v) (map (λ n. get_or cs (n - 1) []) ids)
chosen v cs [] a i k d h = absurd (omega arith)
chosen v cs (n ∷ ids) a i zero d h = chosen_at v cs n a (i 0 n (omega arith))
chosen v cs (n ∷ ids) a i (suc k) d h = chosen v cs ids a (λ j e l. i (suc j) e (omega arith)) k d (omega arith)

pub selections_again : (lim : LimitValues) (f : Formula) (ids : List ℕ) → AreLimits lim → IsFormula lim f → All (IsNumber (length f.clauses)) ids → length ids < lim.ids
    → length (written_formula (selected f ids)) ≤ lim.bytes → formula_at lim (spelled lim.bytes (whole (written_formula (selected f ids)))) ≡ reads (selected f ids) (finished (length (written_formula (selected f ids))))
selections_again lim f ids a i numbers few fits =
    formulas_again lim (selected f ids) a
    (record { vars = i.vars; count = omega (arith, length-map ids (λ n. get_or f.clauses (n - 1) [])); clauses = chosen f.vars f.clauses ids i.clauses numbers })
    fits
