-- Formulas in the DIMACS CNF format: a header `p cnf V C`, then C clauses of numbers that `0` ends, then the end or `%`.
use Rattle.std.specs.Prelude.{ℕ, zero, nat_le, nat_lt, nat_abs, ℤ, pos, negsuc, List, [], ◌∷◌, ◌++◌, length, Option, Some, None, if◌then◌else◌}
use Rattle.sr_base.specs.Literal.{Literal, literal_of, distinct}
use Rattle.sr_base.specs.Limits.{LimitValues}
use Rattle.sr_base.specs.declared.names.TextKind.{TextKind}
use Rattle.sr_base.specs.declared.names.TextKind.TheVariants.{BadNumber, BadWord, Unended, NoHeader, AboveHeader, WrongCount}
use Rattle.sr_base.specs.declared.names.LimitKind.TheVariants as limit
use Rattle.sr_model.specs.declared.tokens.Word.{Word}
use Rattle.sr_model.specs.declared.tokens.Word.TheVariants as word
use Rattle.sr_model.specs.Tokens.{Tokens, finished, stopped, over, lost, next}
use Rattle.sr_model.specs.Reading.{Read, reads, misspells, passes, fails}

-- a formula: the greatest variable that it may use, and its clauses, which have the numbers from 1 on
pub record Formula : Type 0 where
  pub vars : ℕ
  pub clauses : List (List Literal)

-- where a number stands in a clause: `0` ends it, and other numbers name variables of the header
abbrev pub by_number : ℕ → List (List Literal) → List Literal → ℤ → ℕ → (List (List Literal) → Option (List Literal) → Read Formula) → Read Formula
by_number v done lits (pos zero) place more = more (done ++ distinct lits ∷ []) None
by_number v done lits x place more = if nat_le (nat_abs x) v then more done (Some (lits ++ literal_of x ∷ [])) else misspells AboveHeader place

abbrev pub in_clause : ℕ → List (List Literal) → List Literal → Word → ℕ → (List (List Literal) → Option (List Literal) → Read Formula) → Read Formula
in_clause v done lits (word.Number x) place more = by_number v done lits x place more
in_clause v done lits w place more = misspells BadWord place

-- where a clause would begin and some are missing
abbrev pub at_clause : ℕ → List (List Literal) → Word → ℕ → (List (List Literal) → Option (List Literal) → Read Formula) → Read Formula
at_clause v done (word.Number x) place more = by_number v done [] x place more
at_clause v done word.Percent place more = misspells WrongCount place
at_clause v done w place more = misspells BadWord place

-- where all clauses stand
abbrev pub at_end : ℕ → List (List Literal) → Word → ℕ → Tokens → Read Formula
at_end v done word.Percent place rest = reads (record { vars = v; clauses = done }) rest
at_end v done w place rest = misspells WrongCount place

abbrev pub by_token : ℕ → ℕ → List (List Literal) → Option (List Literal) → Word → ℕ → Tokens → (List (List Literal) → Option (List Literal) → Read Formula) → Read Formula
by_token v c done (Some lits) w place rest more = in_clause v done lits w place more
by_token v c done None w place rest more = if nat_lt (length done) c then at_clause v done w place more else at_end v done w place rest

-- where the file ends, and where a token is no word
abbrev pub by_end : ℕ → ℕ → List (List Literal) → Option (List Literal) → ℕ → Read Formula
by_end v c done (Some lits) place = misspells Unended place
by_end v c done None place = if nat_lt (length done) c then misspells WrongCount place else reads (record { vars = v; clauses = done }) (finished place)

abbrev pub by_stop : ℕ → List (List Literal) → Option (List Literal) → TextKind → ℕ → Read Formula
by_stop c done (Some lits) kind place = misspells kind place
by_stop c done None kind place = if nat_lt (length done) c then misspells kind place else misspells WrongCount place

-- the clauses that follow, where these stand, and these literals of a further one
unfoldable pub clauses_from : ℕ → ℕ → List (List Literal) → Option (List Literal) → Tokens → Read Formula
clauses_from v c done open_one (next t rest) = by_token v c done open_one t.word t.place rest (λ d o. clauses_from v c d o rest)
clauses_from v c done open_one (finished place) = by_end v c done open_one place
clauses_from v c done open_one (stopped kind place) = by_stop c done open_one kind place
clauses_from v c done open_one over = passes limit.Bytes
clauses_from v c done open_one lost = fails

-- a number that isn't negative
abbrev pub by_count : Word → ℕ → (ℕ → Read Formula) → Read Formula
by_count (word.Number (pos n)) place more = more n
by_count (word.Number (negsuc n)) place more = misspells BadNumber place
by_count w place more = misspells BadWord place

abbrev pub count_at : Tokens → (ℕ → Tokens → Read Formula) → Read Formula
count_at (next t rest) more = by_count t.word t.place (λ n. more n rest)
count_at (finished place) more = misspells Unended place
count_at (stopped kind place) more = misspells kind place
count_at over more = passes limit.Bytes
count_at lost more = fails

abbrev pub clauses_at : LimitValues → ℕ → Tokens → Read Formula
clauses_at lim v ts = count_at ts (λ c rest. if nat_lt c lim.ids then clauses_from v c [] None rest else passes limit.Ids)

abbrev pub sizes_at : LimitValues → Tokens → Read Formula
sizes_at lim ts = count_at ts (λ v rest. if nat_le v lim.vars then clauses_at lim v rest else passes limit.Vars)

abbrev pub by_format : LimitValues → Word → ℕ → Tokens → Read Formula
by_format lim word.Cnf place rest = sizes_at lim rest
by_format lim w place rest = misspells NoHeader place

abbrev pub format_at : LimitValues → Tokens → Read Formula
format_at lim (next t rest) = by_format lim t.word t.place rest
format_at lim (finished place) = misspells Unended place
format_at lim (stopped kind place) = misspells NoHeader place
format_at lim over = passes limit.Bytes
format_at lim lost = fails

abbrev pub by_header : LimitValues → Word → ℕ → Tokens → Read Formula
by_header lim word.Header place rest = format_at lim rest
by_header lim w place rest = misspells NoHeader place

-- the formula that the tokens spell, and the tokens after it; or the first fault or limit in the order of the bytes
abbrev pub formula_at : LimitValues → Tokens → Read Formula
formula_at lim (next t rest) = by_header lim t.word t.place rest
formula_at lim (finished place) = misspells NoHeader place
formula_at lim (stopped kind place) = misspells NoHeader place
formula_at lim over = passes limit.Bytes
formula_at lim lost = fails
