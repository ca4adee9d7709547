-- What a token does to a formula that is read.
use Rattle.std.proofs.Common.{◌≡◌, ◌≢◌, ◌∙◌, ℕ, ℤ, Bool, true, false, List, [], Option, Ok, Err, length, refl, sym, ap, subst}
use Rattle.std.specs.Prelude.{Result, nat_lt}
use Rattle.sr_base.specs.Literal.{Literal}
use Rattle.sr_base.specs.Limits.{LimitValues}
use Rattle.sr_model.proofs.Soundness.{by_test}
use Rattle.sr_model.specs.declared.tokens.Token.{Token}
use Rattle.sr_model.specs.declared.tokens.Word.{Word}
use Rattle.sr_model.specs.declared.tokens.Word.TheVariants as word
use Rattle.sr_model.specs.Tokens.{Tokens, finished, stopped, over, lost, next}
use Rattle.sr_model.specs.Dimacs.{Formula, by_number, by_token, by_end, by_stop, at_end, clauses_from}
use Rattle.sr_base.specs.declared.names.TextKind.{TextKind}
use Rattle.sr_base.specs.declared.names.LimitKind.TheVariants as limit
use Rattle.sr_model.specs.Reading.{Read, reads, misspells, passes, fails}
use Rattle.sr_base.specs.declared.names.InputError.{InputError}
use Rattle.sr_base.specs.declared.names.InputError.TheVariants.{Text, Limit, Source, NoMemory}
use Rattle.sr_scan.specs.Left.{front_word, RefusesToken, Refuses}
use Rattle.sr_cnf.specs.Reading.{open_of, left_at, left_of, Takes, Decides, is_open, kind_at, by_word, IsFaultHere, RefusesHere, TakesWord}
use Rattle.sr_cnf.specs.declared.reading.Stage.{Stage}
use Rattle.sr_cnf.specs.declared.reading.Stage.TheVariants.{Header, Format, Vars, Count, Clauses}
use Rattle.sr_cnf.specs.declared.reading.Reading.{Reading}

-- while clauses are read, what is left goes on with them
pub left_clauses : (r : Reading) (c : ℕ) → r.stage ≡ Clauses c → (ts : Tokens) → left_of r ts ≡ clauses_from r.formula.vars c r.formula.clauses (open_of r.inside r.lits) ts
left_clauses r c e ts = ap (λ (s : Stage). left_at s r.limits r.formula r.inside r.lits ts) e

-- a word that isn't the end stands before what follows
pub front_goes : (place : ℕ) (w : Word) → w ≢ word.End → (rest : Tokens) → front_word place w rest ≡ next (record { place = place; word = w }) rest
front_goes place word.End ne rest = absurd (ne refl)
front_goes place (word.Number x) ne rest = refl
front_goes place word.Add ne rest = refl
front_goes place word.Del ne rest = refl
front_goes place word.Header ne rest = refl
front_goes place word.Cnf ne rest = refl
front_goes place word.Percent ne rest = refl
front_goes place word.Other ne rest = refl

pub clauses-next : (v c : ℕ) (done : List (List Literal)) (o : Option (List Literal)) (t : Token) (rest : Tokens)
    → clauses_from v c done o (next t rest) ≡ by_token v c done o t.word t.place rest (λ d p. clauses_from v c d p rest)
unfolding clauses_from
clauses-next v c done o t rest = refl

pub clauses-finished : (v c : ℕ) (done : List (List Literal)) (o : Option (List Literal)) (place : ℕ) → clauses_from v c done o (finished place) ≡ by_end v c done o place
unfolding clauses_from
clauses-finished v c done o place = refl

pub clauses-stopped : (v c : ℕ) (done : List (List Literal)) (o : Option (List Literal)) (kind : TextKind) (place : ℕ) → clauses_from v c done o (stopped kind place) ≡ by_stop c done o kind place
unfolding clauses_from
clauses-stopped v c done o kind place = refl

-- the answer is that of the whole
pub decided_end : (old : Reading) (f : Formula) (t : Token) (r : Read Formula) (b : Result Bool InputError) (new : Reading) → t.word ≡ word.End → new.formula ≡ f
    → ((rest : Tokens) → left_of old (front_word t.place t.word rest) ≡ r) → Decides r f (finished t.place) b → Takes old new t b
decided_end old f t r (Ok true) new end e same d = λ rest left. same rest ∙ d ∙ ap (λ (g : Formula). reads g (finished t.place)) (sym e) ∙ ap (reads new.formula) (sym (left end))
decided_end old f t r (Ok false) new end e same d = absurd d
decided_end old f t r (Err (Text kind place)) new end e same d = λ rest. same rest ∙ d
decided_end old f t r (Err (Limit kind)) new end e same d = λ rest. same rest ∙ d
decided_end old f t r (Err Source) new end e same d = absurd d
decided_end old f t r (Err NoMemory) new end e same d = absurd d

pub decided_last : (old : Reading) (f : Formula) (t : Token) (r : Tokens → Read Formula) (b : Result Bool InputError) (new : Reading) → new.formula ≡ f
    → ((rest : Tokens) → left_of old (front_word t.place t.word rest) ≡ r rest) → ((rest : Tokens) → Decides (r rest) f rest b) → Takes old new t b
decided_last old f t r (Ok true) new e same d = λ rest left. same rest ∙ d rest ∙ ap (λ (g : Formula). reads g rest) (sym e)
decided_last old f t r (Ok false) new e same d = absurd (d lost)
decided_last old f t r (Err (Text kind place)) new e same d = λ rest. same rest ∙ d rest
decided_last old f t r (Err (Limit kind)) new e same d = λ rest. same rest ∙ d rest
decided_last old f t r (Err Source) new e same d = absurd (d lost)
decided_last old f t r (Err NoMemory) new e same d = absurd (d lost)

-- an open clause, or one that is missing, takes the word
pub token-open : (v c : ℕ) (done : List (List Literal)) (inside : Bool) (lits : List Literal) (w : Word) (place : ℕ) (rest : Tokens) (more : List (List Literal) → Option (List Literal) → Read Formula)
    → is_open inside (length done) c ≡ true → by_token v c done (open_of inside lits) w place rest more ≡ by_word v done (open_of inside lits) w place more
token-open v c done true lits w place rest more o = refl
token-open v c done false lits w place rest more o = rw o refl

pub token-closed : (v c : ℕ) (done : List (List Literal)) (inside : Bool) (lits : List Literal) (w : Word) (place : ℕ) (rest : Tokens) (more : List (List Literal) → Option (List Literal) → Read Formula)
    → is_open inside (length done) c ≡ false → by_token v c done (open_of inside lits) w place rest more ≡ at_end v done w place rest
token-closed v c done true lits w place rest more o = absurd cc
token-closed v c done false lits w place rest more o = rw o refl

-- what a word makes of what is left
pub left-word : (old : Reading) (c place : ℕ) (w : Word) → old.stage ≡ Clauses c → w ≢ word.End → (rest : Tokens)
    → left_of old (front_word place w rest) ≡ by_token old.formula.vars c old.formula.clauses (open_of old.inside old.lits) w place rest (λ d p. clauses_from old.formula.vars c d p rest)
left-word old c place w e ne rest = ap (left_of old) (front_goes place w ne rest) ∙ left_clauses old c e (next (record { place = place; word = w }) rest)
    ∙ clauses-next old.formula.vars c old.formula.clauses (open_of old.inside old.lits) (record { place = place; word = w }) rest

pub word_taken : (old new : Reading) (c : ℕ) (t : Token) (u : Unit {0}) → old.stage ≡ Clauses c → t.word ≢ word.End → is_open old.inside (length old.formula.clauses) c ≡ true
    → TakesWord old new (by_word old.formula.vars old.formula.clauses (open_of old.inside old.lits) t.word t.place) (Ok u) → Takes old new t (Ok false)
word_taken old new c t u e ne o h = (
  ne,
  λ rest.
      left-word old c t.place t.word e ne rest ∙ token-open old.formula.vars c old.formula.clauses old.inside old.lits t.word t.place rest (λ d p. clauses_from old.formula.vars c d p rest) o
      ∙ h.2 (λ d p. clauses_from old.formula.vars c d p rest)
      ∙ ap (λ v. clauses_from v c new.formula.clauses (open_of new.inside new.lits) rest) (sym h.1)
      ∙ sym (left_clauses new c (h.0 ∙ e) rest),
)

pub word_refused : (old new : Reading) (c : ℕ) (t : Token) (f : InputError) → old.stage ≡ Clauses c → t.word ≢ word.End → is_open old.inside (length old.formula.clauses) c ≡ true
    → IsFaultHere (by_word old.formula.vars old.formula.clauses (open_of old.inside old.lits) t.word t.place) f → Takes old new t (Err f)
word_refused old new c t f e ne o h = λ rest.
    let same : left_of old (front_word t.place t.word rest) ≡ by_word old.formula.vars old.formula.clauses (open_of old.inside old.lits) t.word t.place (λ d p. clauses_from old.formula.vars c d p rest) =
    left-word old c t.place t.word e ne rest ∙ token-open old.formula.vars c old.formula.clauses old.inside old.lits t.word t.place rest (λ d p. clauses_from old.formula.vars c d p rest) o in
    subst (λ r. RefusesHere r f) (sym same) (h (λ d p. clauses_from old.formula.vars c d p rest))

pub left-end : (old : Reading) (c : ℕ) (t : Token) → old.stage ≡ Clauses c → t.word ≡ word.End → (rest : Tokens)
    → left_of old (front_word t.place t.word rest) ≡ by_end old.formula.vars c old.formula.clauses (open_of old.inside old.lits) t.place
left-end old c t e is rest = ap (λ w. left_of old (front_word t.place w rest)) is ∙ left_clauses old c e (finished t.place)
    ∙ clauses-finished old.formula.vars c old.formula.clauses (open_of old.inside old.lits) t.place

pub left-last : (old : Reading) (c : ℕ) (t : Token) → old.stage ≡ Clauses c → t.word ≢ word.End → is_open old.inside (length old.formula.clauses) c ≡ false → (rest : Tokens)
    → left_of old (front_word t.place t.word rest) ≡ at_end old.formula.vars old.formula.clauses t.word t.place rest
left-last old c t e ne o rest = left-word old c t.place t.word e ne rest ∙ token-closed old.formula.vars c old.formula.clauses old.inside old.lits t.word t.place rest (λ d p. clauses_from old.formula.vars c d p rest) o

-- where no word stands, by the stage
over_at : (s : Stage) (lim : LimitValues) (f : Formula) (inside : Bool) (lits : List Literal) → left_at s lim f inside lits over ≡ passes limit.Bytes
unfolding clauses_from
over_at Header lim f inside lits = refl
over_at Format lim f inside lits = refl
over_at Vars lim f inside lits = refl
over_at Count lim f inside lits = refl
over_at (Clauses c) lim f inside lits = refl

lost_at : (s : Stage) (lim : LimitValues) (f : Formula) (inside : Bool) (lits : List Literal) → left_at s lim f inside lits lost ≡ fails
unfolding clauses_from
lost_at Header lim f inside lits = refl
lost_at Format lim f inside lits = refl
lost_at Vars lim f inside lits = refl
lost_at Count lim f inside lits = refl
lost_at (Clauses c) lim f inside lits = refl

stopped_at : (s : Stage) (lim : LimitValues) (f : Formula) (inside : Bool) (lits : List Literal) (kind : TextKind) (place : ℕ)
    → left_at s lim f inside lits (stopped kind place) ≡ misspells (kind_at s inside (length f.clauses) kind) place
unfolding clauses_from
stopped_at Header lim f inside lits kind place = refl
stopped_at Format lim f inside lits kind place = refl
stopped_at Vars lim f inside lits kind place = refl
stopped_at Count lim f inside lits kind place = refl
stopped_at (Clauses c) lim f true lits kind place = refl
stopped_at (Clauses c) lim f false lits kind place = by_test (nat_lt (length f.clauses) c) (λ t. rw t refl) (λ t. rw t refl)

pub text_refused : (r : Reading) (all : Tokens) (kind : TextKind) (place : ℕ) → RefusesToken all (Text kind place)
    → Refuses (left_of r all) (Text (kind_at r.stage r.inside (length r.formula.clauses) kind) place)
text_refused r all kind place h = ap (left_of r) h ∙ stopped_at r.stage r.limits r.formula r.inside r.lits kind place

pub other_refused : (r : Reading) (all : Tokens) (e : InputError) → ((kind : TextKind) (place : ℕ) → e ≡ Text kind place → ⊥) → RefusesToken all e → Refuses (left_of r all) e
other_refused r all (Text kind place) n h = absurd (n kind place refl)
other_refused r all (Limit limit.Bytes) n h = ap (left_of r) h ∙ over_at r.stage r.limits r.formula r.inside r.lits
other_refused r all (Limit limit.Vars) n h = absurd h
other_refused r all (Limit limit.Ids) n h = absurd h
other_refused r all (Limit limit.Cells) n h = absurd h
other_refused r all Source n h = ap (left_of r) h ∙ lost_at r.stage r.limits r.formula r.inside r.lits
other_refused r all NoMemory n h = absurd h

-- a number where a clause has begun or would begin
takes_as : (old new : Reading) (f g : (List (List Literal) → Option (List Literal) → Read Formula) → Read Formula) (result : Result (Unit {0}) InputError)
    → ((more : List (List Literal) → Option (List Literal) → Read Formula) → f more ≡ g more) → TakesWord old new g result → TakesWord old new f result
takes_as old new f g (Ok u) same h = (h.0, h.1, λ more. same more ∙ h.2 more)
takes_as old new f g (Err e) same h = λ more. subst (λ r. RefusesHere r e) (sym (same more)) (h more)

pub number_taken : (old new : Reading) (x : ℤ) (place : ℕ) (result : Result (Unit {0}) InputError) → (old.inside ≡ false → old.lits ≡ [])
    → TakesWord old new (by_number old.formula.vars old.formula.clauses old.lits x place) result
    → TakesWord old new (by_word old.formula.vars old.formula.clauses (open_of old.inside old.lits) (word.Number x) place) result
number_taken old new x place result none h = takes_as old new _ (by_number old.formula.vars old.formula.clauses old.lits x place) result (λ more. at old.inside none more) h
  where
    at : (inside : Bool) → (inside ≡ false → old.lits ≡ []) → (more : List (List Literal) → Option (List Literal) → Read Formula)
        → by_word old.formula.vars old.formula.clauses (open_of inside old.lits) (word.Number x) place more ≡ by_number old.formula.vars old.formula.clauses old.lits x place more
    at true none more = refl
    at false none more = ap (λ lits. by_number old.formula.vars old.formula.clauses lits x place more) (sym (none refl))

-- what is left, by the stage
pub at_stage : (r : Reading) (s : Stage) (ts : Tokens) → r.stage ≡ s → left_of r ts ≡ left_at s r.limits r.formula r.inside r.lits ts
at_stage r s ts e = ap (λ (s : Stage). left_at s r.limits r.formula r.inside r.lits ts) e
