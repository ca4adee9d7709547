-- What is known of a formula while it is read.
use Rattle.std.specs.Prelude.{◌≡◌, ◌≢◌, ◌⊎◌, ◌||◌, nat_lt, ℕ, ◌≤◌, ◌<◌, Bool, true, false, List, [], ◌∷◌, ◌++◌, length, if◌then◌else◌, Option, Some, None, Result, Ok, Err}
use Rattle.sr_base.specs.Literal.{Literal, variable, distinct}
use Rattle.sr_base.specs.Limits.{LimitValues}
use Rattle.sr_base.specs.declared.names.TextKind.{TextKind}
use Rattle.sr_base.specs.declared.names.TextKind.TheVariants.{AboveHeader, NoHeader, WrongCount}
use Rattle.sr_model.specs.declared.tokens.Token.{Token}
use Rattle.sr_model.specs.declared.tokens.Word.{Word}
use Rattle.sr_model.specs.declared.tokens.Word.TheVariants.{End}
use Rattle.sr_model.specs.Tokens.{Tokens, finished}
use Rattle.sr_model.specs.Reading.{Read, reads, misspells, passes}
use Rattle.sr_model.specs.Dimacs.{Formula, at_clause, in_clause, count_at, clauses_from, clauses_at, sizes_at, format_at, formula_at}
use Rattle.sr_wit.specs.Formulas.{UsesUpTo}
use Rattle.sr_base.specs.declared.names.InputError.{InputError}
use Rattle.sr_base.specs.declared.names.InputError.TheVariants.{Text, Limit, Source, NoMemory}
use Rattle.sr_scan.specs.Left.{front_word}
use Rattle.sr_cnf.specs.declared.reading.Stage.{Stage}
use Rattle.sr_cnf.specs.declared.reading.Stage.TheVariants.{Header, Format, Vars, Count, Clauses}
use Rattle.sr_cnf.specs.declared.reading.Reading.{Reading}

-- the literals of a clause that has begun
abbrev pub open_of : Bool → List Literal → Option (List Literal)
open_of false lits = None
open_of true lits = Some lits

abbrev pub left_at : Stage → LimitValues → Formula → Bool → List Literal → Tokens → Read Formula
left_at Header lim f inside lits ts = formula_at lim ts
left_at Format lim f inside lits ts = format_at lim ts
left_at Vars lim f inside lits ts = sizes_at lim ts
left_at Count lim f inside lits ts = clauses_at lim f.vars ts
left_at (Clauses c) lim f inside lits ts = clauses_from f.vars c f.clauses (open_of inside lits) ts

-- what the whole text spells, by what is left of it
abbrev pub left_of : Reading → Tokens → Read Formula
left_of r ts = left_at r.stage r.limits r.formula r.inside r.lits ts

-- a clause begins only where some are missing
abbrev pub HasRoom : Stage → ℕ → Bool → Type 0
HasRoom (Clauses c) n inside = (c ≤ 2147483646) × (inside ≡ true → n < c)
HasRoom s n inside = (inside ≡ false) × (n ≡ 0)

-- a clause may begin or go on
abbrev pub MayBegin : Stage → ℕ → Type 0
MayBegin (Clauses c) n = n < c
MayBegin s n = ⊥

pub record IsReading (r : Reading) : Type 0 where
  pub bound : r.formula.vars ≤ 16777215
  pub room : HasRoom r.stage (length r.formula.clauses) r.inside
  pub within : UsesUpTo r.formula.vars r.lits
  pub none : r.inside ≡ false → r.lits ≡ []

-- a token is refused, and no read failed
abbrev pub RefusesHere : Read Formula → InputError → Type 0
RefusesHere read (Text kind place) = read ≡ misspells kind place
RefusesHere read (Limit kind) = read ≡ passes kind
RefusesHere read Source = ⊥
RefusesHere read NoMemory = Unit {0}

-- a token was taken: others are to follow, or the formula is whole, or it is refused
abbrev pub Takes : Reading → Reading → Token → Result Bool InputError → Type 0
Takes old new t (Ok false) = (t.word ≢ End) × ((rest : Tokens) → left_of old (front_word t.place t.word rest) ≡ left_of new rest)
Takes old new t (Ok true) = (rest : Tokens) → (t.word ≡ End → rest ≡ finished t.place) → left_of old (front_word t.place t.word rest) ≡ reads new.formula rest
Takes old new t (Err e) = (rest : Tokens) → RefusesHere (left_of old (front_word t.place t.word rest)) e

-- the fault is what is spelled, whatever follows
abbrev pub IsFaultHere : ((List (List Literal) → Option (List Literal) → Read Formula) → Read Formula) → InputError → Type 0
IsFaultHere spelled e = (more : List (List Literal) → Option (List Literal) → Read Formula) → RefusesHere (spelled more) e

-- what a word spells in a clause that has begun, or where one would begin
abbrev pub by_word : ℕ → List (List Literal) → Option (List Literal) → Word → ℕ → (List (List Literal) → Option (List Literal) → Read Formula) → Read Formula
by_word v done (Some lits) w place more = in_clause v done lits w place more
by_word v done None w place more = at_clause v done w place more

-- a clause has begun or is missing
abbrev pub is_open : Bool → ℕ → ℕ → Bool
is_open inside n c = inside || nat_lt n c

-- what is wrong where a token is no word: it is no header, or no number, or further than the last clause
abbrev pub kind_at : Stage → Bool → ℕ → TextKind → TextKind
kind_at Header inside n kind = NoHeader
kind_at Format inside n kind = NoHeader
kind_at Vars inside n kind = kind
kind_at Count inside n kind = kind
kind_at (Clauses c) inside n kind = if is_open inside n c then kind else WrongCount

-- the formula ends here and this is left, or there is a fault
abbrev pub Decides : Read Formula → Formula → Tokens → Result Bool InputError → Type 0
Decides r f rest (Ok true) = r ≡ reads f rest
Decides r f rest (Ok false) = ⊥
Decides r f rest (Err NoMemory) = ⊥
Decides r f rest (Err e) = RefusesHere r e

-- a word was taken by the clause that is read, or there is a fault
abbrev pub TakesWord : Reading → Reading → ((List (List Literal) → Option (List Literal) → Read Formula) → Read Formula) → Result (Unit {0}) InputError → Type 0
TakesWord old new spelled (Ok u) = (new.stage ≡ old.stage) × (new.formula.vars ≡ old.formula.vars)
    × ((more : List (List Literal) → Option (List Literal) → Read Formula) → spelled more ≡ more new.formula.clauses (open_of new.inside new.lits))
TakesWord old new spelled (Err e) = IsFaultHere spelled e

-- a number that isn't negative stands there, or there is a fault
abbrev pub Counts : Token → Result ℕ InputError → Type 0
Counts t (Ok n) = (t.word ≢ End) × ((rest : Tokens) (more : ℕ → Tokens → Read Formula) → count_at (front_word t.place t.word rest) more ≡ more n rest)
Counts t (Err e) = (rest : Tokens) (more : ℕ → Tokens → Read Formula) → RefusesHere (count_at (front_word t.place t.word rest) more) e

abbrev pub EndsClause : Reading → Reading → Result (Unit {0}) InputError → Type 0
EndsClause old new (Ok u) = (new.stage ≡ old.stage) × (new.formula ≡ record old.formula { clauses = old.formula.clauses ++ distinct old.lits ∷ [] }) × (new.inside ≡ false) × (new.lits ≡ [])
EndsClause old new (Err e) = e ≡ NoMemory

-- a literal joins the clause where the header has its variable
abbrev pub TakesLiteral : Reading → Reading → ℕ → Literal → Result (Unit {0}) InputError → Type 0
TakesLiteral old new place l (Ok u) = (variable l ≤ old.formula.vars) × (new.stage ≡ old.stage) × (new.formula ≡ old.formula) × (new.inside ≡ true) × (new.lits ≡ old.lits ++ l ∷ [])
TakesLiteral old new place l (Err e) = (e ≡ NoMemory) ⊎ ((old.formula.vars < variable l) × (e ≡ Text AboveHeader place))
