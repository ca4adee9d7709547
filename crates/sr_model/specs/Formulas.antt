-- What it means that the tokens of a file spell a formula in the DIMACS CNF format.
use Rattle.std.specs.Prelude.{ℕ, ◌≡◌, ◌≢◌, ◌<◌, ◌≤◌, nat_abs, ℤ, pos, List, [], ◌∷◌, ◌++◌, map, flat_map, length, All, ◌⊎◌, ◌↔◌}
use Rattle.sr_base.specs.Literal.{literal_of, distinct}
use Rattle.sr_base.specs.Limits.{LimitValues}
use Rattle.sr_model.specs.declared.tokens.Word.{Word}
use Rattle.sr_model.specs.declared.tokens.Word.TheVariants.{Number, Header, Cnf, Percent}
use Rattle.sr_model.specs.Tokens.{Tokens, finished, next}
use Rattle.sr_model.specs.Reading.{reads}
use Rattle.sr_model.specs.Dimacs.{Formula, formula_at}

-- the tokens begin with these words, and then come the others
abbrev pub BeginWith : List Word → Tokens → Tokens → Type 0
BeginWith [] tokens rest = tokens ≡ rest
BeginWith (w ∷ ws) tokens rest = (place : ℕ) × (mid : Tokens) × (tokens ≡ next (record { place = place; word = w }) mid) × BeginWith ws mid rest

-- a number that names a variable up to the greatest one, or its complement
abbrev pub NamesLiteral : ℕ → ℤ → Type 0
NamesLiteral most x = (x ≢ pos 0) × (nat_abs x ≤ most)

-- a clause is written as the numbers of its literals, and then `0`
abbrev pub clause_words : List ℤ → List Word
clause_words xs = map Number xs ++ Number (pos 0) ∷ []

-- the clauses end with the file, or with the word `%`, after which these tokens follow
abbrev pub EndsWith : Tokens → Tokens → Type 0
EndsWith tokens rest = ((place : ℕ) × (tokens ≡ finished place) × (rest ≡ tokens)) ⊎ BeginWith (Percent ∷ []) tokens rest

-- `p cnf V C`, then C lists of numbers for literals of variables up to V, each ended by `0`, and then the end. The formula
-- has these clauses, each literal where it comes first. V and C are within the limits
pub record SpellsFormula (lim : LimitValues) (tokens : Tokens) (f : Formula) (rest : Tokens) : Type 0 where
  pub numbers : List (List ℤ)
  pub end : Tokens
  pub begins : BeginWith (Header ∷ Cnf ∷ Number (pos f.vars) ∷ Number (pos (length numbers)) ∷ flat_map clause_words numbers) tokens end
  pub ends : EndsWith end rest
  pub literals : All (All (NamesLiteral f.vars)) numbers
  pub clauses : f.clauses ≡ map (λ xs. distinct (map literal_of xs)) numbers
  pub vars : f.vars ≤ lim.vars
  pub count : length numbers < lim.ids

-- the machine reads a formula exactly where the tokens spell it
abbrev pub FormulasAreSpelled : Type 0
FormulasAreSpelled = (lim : LimitValues) (tokens : Tokens) (f : Formula) (rest : Tokens) → (formula_at lim tokens ≡ reads f rest) ↔ SpellsFormula lim tokens f rest
