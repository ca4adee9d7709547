-- What is read of a proof by lemmas is within the limits.
use Rattle.std.proofs.Common.{◌≡◌, ◌∙◌, ℕ, zero, suc, ◌<◌, ◌≤◌, Bool, false, not, List, [], ◌∷◌, ◌++◌, map, Option, Some, None, refl, subst, arith}
use Rattle.std.specs.Prelude.{ℤ, pos, negsuc, nat_le, nat_abs, filter, All, option_map}
use Rattle.std.proofs.lemmas.Bool.Decides.{nat_tests}
use Rattle.std.proofs.lemmas.List.Elements.{All-cons}
use Rattle.sr_base.specs.Literal.{Literal, plus, minus, complement, literal_of, same, has, distinct, NoRepeats}
use Rattle.sr_base.specs.Limits.{LimitValues}
use Rattle.sr_base.specs.declared.names.Form.{Form}
use Rattle.sr_base.specs.declared.names.Form.TheVariants.{Text, Binary}
use Rattle.sr_base.specs.declared.names.TextKind.{TextKind}
use Rattle.sr_base.specs.declared.names.LimitKind.{LimitKind}
use Rattle.sr_base.specs.declared.names.LimitKind.TheVariants as limit
use Rattle.sr_model.specs.declared.images.Image.{Image}
use Rattle.sr_model.specs.declared.tokens.Word.{Word}
use Rattle.sr_model.specs.declared.tokens.Word.TheVariants as word
use Rattle.sr_model.specs.Substitution.{Witness}
use Rattle.sr_model.specs.Tokens.{Tokens, finished, stopped, over, lost, next}
use Rattle.sr_model.specs.Reading.{Read, reads, misspells, passes, fails}
use Rattle.sr_model.specs.Witnesses.{before, after, pairs, is_odd, twice_of, parts_of, from_variable, first_maps, witness_by, maps_of, clause_of_literals, fault_of_maps, fault_of_witness, fault_of_literals}
use Rattle.sr_model.specs.Lsr.{NumbersTo0, by_number, by_word, numbers_after}
use Rattle.sr_model.specs.Dsr as dsr
use Rattle.sr_model.specs.Dsr.{Line, lemma_line, MaybeLine, lemma_of, judged_lemma, with_lemma, with_deletion, by_first, line_at, binary_line_at, line_in, SpellLines}
use Rattle.sr_model.specs.ReadAgain.{IsLiteral, IsMap, IsClause, IsWitness, IsLemma, IsLine}
use Rattle.sr_base.proofs.Literals.{same_tells}
use Rattle.sr_model.proofs.Soundness.{by_test, has_kept}
use Rattle.sr_model.proofs.NumberStreams.{Entries}
use Rattle.sr_model.proofs.PartsWritten.{AreLiterals}
use Rattle.sr_trimming.proofs.Reordered.{no_repeats_kept}
use Rattle.sr_wit.specs.Kept.{IsKept}
use Rattle.sr_wit.proofs.KeptLemmas.{kept}

-- numbers that were read
abbrev NumbersWithin : ℕ → Read NumbersTo0 → Type 0
NumbersWithin bound (reads xs rest) = Entries bound xs.0
NumbersWithin bound (misspells kind place) = Unit {0}
NumbersWithin bound (passes kind) = Unit {0}
NumbersWithin bound fails = Unit {0}

entries_push : (bound : ℕ) (xs : List ℤ) (x : ℤ) → Entries bound xs → 0 < nat_abs x → nat_abs x ≤ bound → Entries bound (xs ++ x ∷ [])
entries_push bound [] x e some most = (some, most, tt)
entries_push bound (y ∷ xs) x e some most = (e.0, e.1, entries_push bound xs x e.2 some most)

number_within : (kind : LimitKind) (bound : ℕ) (x : ℤ) (place : ℕ) (these : List ℤ) (rest : Tokens) (more : Read NumbersTo0) → Entries bound these
    → (0 < nat_abs x → nat_abs x ≤ bound → NumbersWithin bound more) → NumbersWithin bound (by_number kind bound x place these rest more)
number_within kind bound (pos zero) place these rest more e m = e
number_within kind bound (pos (suc n)) place these rest more e m = by_test (nat_le (suc n) bound) (λ t. rw t (m (omega arith) (grind (arith, nat_tests)))) (λ t. rw t tt)
number_within kind bound (negsuc n) place these rest more e m = by_test (nat_le (suc n) bound) (λ t. rw t (m (omega arith) (grind (arith, nat_tests)))) (λ t. rw t tt)

word_within : (kind : LimitKind) (bound : ℕ) (w : Word) (place : ℕ) (these : List ℤ) (rest : Tokens) (more : ℤ → Read NumbersTo0) → Entries bound these
    → ((x : ℤ) → 0 < nat_abs x → nat_abs x ≤ bound → NumbersWithin bound (more x)) → NumbersWithin bound (by_word kind bound w place these rest more)
word_within kind bound (word.Number x) place these rest more e m = number_within kind bound x place these rest (more x) e (m x)
word_within kind bound word.End place these rest more e m = tt
word_within kind bound _ place these rest more e m = tt

numbers_within : (kind : LimitKind) (bound : ℕ) (these : List ℤ) (ts : Tokens) → Entries bound these → NumbersWithin bound (numbers_after kind bound these ts)
unfolding numbers_after
numbers_within kind bound these (next t rest) e =
    word_within kind bound t.word t.place these rest (λ x. numbers_after kind bound (these ++ x ∷ []) rest) e
    (λ x some most. numbers_within kind bound (these ++ x ∷ []) rest (entries_push bound these x e some most))
numbers_within kind bound these (finished place) e = tt
numbers_within kind bound these (stopped fault place) e = tt
numbers_within kind bound these over e = tt
numbers_within kind bound these lost e = tt

-- so their literals are within the limit of variables
literals_within : (vars : ℕ) (xs : List ℤ) → Entries vars xs → AreLiterals vars (map literal_of xs)
literals_within vars [] e = tt
literals_within vars (x ∷ xs) e = (one x e.0 e.1, literals_within vars xs e.2)
  where
    one : (x : ℤ) → 0 < nat_abs x → nat_abs x ≤ vars → IsLiteral vars (literal_of x)
    one (pos n) some most = (some, most)
    one (negsuc n) some most = (omega arith, omega arith)

all_within : (vars : ℕ) (ls : List Literal) → AreLiterals vars ls → All (IsLiteral vars) ls
all_within vars [] a = λ i d h. absurd (omega arith)
all_within vars (l ∷ ls) a = All-cons (IsLiteral vars) l ls a.0 (all_within vars ls a.1)

within_kept : (vars : ℕ) (p : Literal → Bool) (ls : List Literal) → AreLiterals vars ls → AreLiterals vars (filter p ls)
within_kept vars p [] a = tt
within_kept vars p (l ∷ ls) a = by_test (p l) (λ e. rw e (a.0, within_kept vars p ls a.1)) (λ e. rw e (within_kept vars p ls a.1))

within_distinct : (vars : ℕ) (ls : List Literal) → AreLiterals vars ls → AreLiterals vars (distinct ls)
within_distinct vars [] a = tt
within_distinct vars (l ∷ ls) a = (a.0, within_kept vars (λ k. not (same l k)) (distinct ls) (within_distinct vars ls a.1))

within_before : (vars : ℕ) (p : Literal) (ls : List Literal) → AreLiterals vars ls → AreLiterals vars (before p ls)
within_before vars p [] a = tt
within_before vars p (l ∷ ls) a = by_test (same l p) (λ e. rw e tt) (λ e. rw e (a.0, within_before vars p ls a.1))

-- literals that may be there
abbrev MaybeWithin : ℕ → Option (List Literal) → Type 0
MaybeWithin vars None = Unit {0}
MaybeWithin vars (Some ls) = AreLiterals vars ls

within_after : (vars : ℕ) (p : Literal) (ls : List Literal) → AreLiterals vars ls → MaybeWithin vars (after p ls)
within_after vars p [] a = tt
within_after vars p (l ∷ ls) a = by_test (same l p) (λ e. rw e a.1) (λ e. rw e (within_after vars p ls a.1))

-- and so are maps
abbrev AreMaps : ℕ → List (Literal × Literal) → Type 0
AreMaps vars [] = Unit {0}
AreMaps vars (m ∷ ms) = IsMap vars m × AreMaps vars ms

all_maps : (vars : ℕ) (ms : List (Literal × Literal)) → AreMaps vars ms → All (IsMap vars) ms
all_maps vars [] a = λ i d h. absurd (omega arith)
all_maps vars (m ∷ ms) a = All-cons (IsMap vars) m ms a.0 (all_maps vars ms a.1)

maps_within : (vars : ℕ) (ls : List Literal) → AreLiterals vars ls → AreMaps vars (pairs ls)
maps_within vars [] a = tt
maps_within vars (x ∷ []) a = tt
maps_within vars (x ∷ y ∷ ls) a = ((a.0, a.1.0), maps_within vars ls a.1.1)

maps_read : (vars : ℕ) (o : Option (List Literal)) → MaybeWithin vars o → AreMaps vars (maps_of o)
maps_read vars None a = tt
maps_read vars (Some ls) a = maps_within vars ls a

complement_within : (vars : ℕ) (l : Literal) → IsLiteral vars l → IsLiteral vars (complement l)
complement_within vars (plus v) i = i
complement_within vars (minus v) i = i

maps_turned : (vars : ℕ) (ms : List (Literal × Literal)) → AreMaps vars ms → AreMaps vars (map from_variable ms)
maps_turned vars [] a = tt
maps_turned vars (m ∷ ms) a = (one m.0 m.1 a.0, maps_turned vars ms a.1)
  where
    one : (k l : Literal) → IsMap vars (k, l) → IsMap vars (from_variable (k, l))
    one (plus v) l i = i
    one (minus v) l i = (i.0, complement_within vars l i.1)

maps_kept : (vars : ℕ) (p : Literal × Literal → Bool) (ms : List (Literal × Literal)) → AreMaps vars ms → AreMaps vars (filter p ms)
maps_kept vars p [] a = tt
maps_kept vars p (m ∷ ms) a = by_test (p m) (λ e. rw e (a.0, maps_kept vars p ms a.1)) (λ e. rw e (maps_kept vars p ms a.1))

maps_first : (vars : ℕ) (ms : List (Literal × Literal)) → AreMaps vars ms → AreMaps vars (first_maps ms)
maps_first vars [] a = tt
maps_first vars (m ∷ ms) a = (a.0, maps_kept vars (λ n. not (same m.0 n.0)) (first_maps ms) (maps_first vars ms a.1))

-- no literal comes twice
lacks_other : (l : Literal) (ls : List Literal) → has l (filter (λ k. not (same l k)) ls) ≡ false
lacks_other l ls = has_kept (λ k. not (same l k)) l ls ∙ grind (arith, same_tells l l)

distinct_once : (ls : List Literal) → NoRepeats (distinct ls)
distinct_once [] = tt
distinct_once (l ∷ ls) = (lacks_other l (distinct ls), no_repeats_kept (λ k. not (same l k)) (distinct ls) (distinct_once ls))

distinct_clause : (vars : ℕ) (ls : List Literal) → AreLiterals vars ls → IsClause vars (distinct ls)
distinct_clause vars ls a = record { within = all_within vars (distinct ls) (within_distinct vars ls a); distinct = distinct_once ls }

clause_read : (vars : ℕ) (ls : List Literal) → AreLiterals vars ls → IsClause vars (clause_of_literals ls)
clause_read vars [] a = record { within = λ i d h. absurd (omega arith); distinct = tt }
clause_read vars (p ∷ ls) a = distinct_clause vars (p ∷ before p ls) (a.0, within_before vars p ls a.1)

-- a witness without a fault gives no variable two images
no_second : (o : Option ℕ) (k : TextKind) → option_map (λ v. k) o ≡ None → o ≡ None
no_second None k e = refl
no_second (Some v) k e = absurd cc

faultless_once : (o : Option (List Literal)) (parts : List (ℕ × Image)) → fault_of_maps o parts ≡ None → twice_of parts ≡ None
faultless_once None parts e = no_second (twice_of parts) _ e
faultless_once (Some ms) parts e = by_test (is_odd ms)
    (λ t. let bad : _ ≡ None = rw t at e in absurd cc)
    (λ t. no_second (twice_of parts) _ (rw t at e))

witness_read : (vars : ℕ) (p : Literal) (c : List Literal) (o : Option (List Literal)) (w : Witness) → IsLiteral vars p → MaybeWithin vars o → fault_of_witness p o ≡ None
    → option_map (λ t. witness_by p (before p t) (maps_of (after p t))) o ≡ Some w → IsWitness vars (p ∷ c) w
witness_read vars p c None w i a f e = absurd cc
witness_read vars p c (Some t) w i a f e =
    let trues : List Literal = before p t in
    let maps : List (Literal × Literal) = maps_of (after p t) in
    let is : witness_by p trues maps ≡ w = cc in
    let k : IsKept (witness_by p trues maps) = kept p trues maps (faultless_once (after p t) (parts_of p trues maps) f) in
    subst (IsWitness vars (p ∷ c)) is (record {
      pivot = refl;
      assigned = all_within vars (witness_by p trues maps).assigned (within_kept vars (λ l. not (same p l)) (distinct trues) (within_distinct vars trues (within_before vars p t a)));
      maps = all_maps vars (witness_by p trues maps).maps (maps_first vars (map from_variable maps) (maps_turned vars maps (maps_read vars (after p t) (within_after vars p t a))));
      same = k.same;
      once = k.once;
    })

lemma_read : (vars : ℕ) (ls : List Literal) → AreLiterals vars ls → fault_of_literals ls ≡ None → IsLemma vars (lemma_of ls)
lemma_read vars [] a f = record { clause = clause_read vars [] a; witness = λ w e. absurd cc }
lemma_read vars (p ∷ ls) a f = record {
  clause = clause_read vars (p ∷ ls) a;
  witness = λ w e. witness_read vars p (filter (λ k. not (same p k)) (distinct (before p ls))) (after p ls) w a.0 (within_after vars p ls a.1) f e;
}

-- a line that was read
abbrev LineWithin : ℕ → Read MaybeLine → Type 0
LineWithin vars (reads (Some l) rest) = IsLine vars l
LineWithin vars (reads None rest) = Unit {0}
LineWithin vars (misspells kind place) = Unit {0}
LineWithin vars (passes kind) = Unit {0}
LineWithin vars fails = Unit {0}

lemma_within : (vars : ℕ) (n : Read NumbersTo0) → NumbersWithin vars n → LineWithin vars (with_lemma n)
lemma_within vars (reads xs rest) e = at (fault_of_literals (map literal_of xs.0)) refl
  where
    at : (o : Option TextKind) → fault_of_literals (map literal_of xs.0) ≡ o → LineWithin vars (judged_lemma o xs.1 (lemma_of (map literal_of xs.0)) rest)
    at None f = lemma_read vars (map literal_of xs.0) (literals_within vars xs.0 e) f
    at (Some k) f = tt
lemma_within vars (misspells kind place) e = tt
lemma_within vars (passes kind) e = tt
lemma_within vars fails e = tt

deletion_within : (vars : ℕ) (n : Read NumbersTo0) → NumbersWithin vars n → LineWithin vars (with_deletion n)
deletion_within vars (reads xs rest) e = distinct_clause vars (map literal_of xs.0) (literals_within vars xs.0 e)
deletion_within vars (misspells kind place) e = tt
deletion_within vars (passes kind) e = tt
deletion_within vars fails e = tt

first_within : (lim : LimitValues) (w : Word) (place : ℕ) (rest all : Tokens) → LineWithin lim.vars (by_first lim w place rest all)
first_within lim (word.Number x) place rest all = lemma_within lim.vars (numbers_after limit.Vars lim.vars [] all) (numbers_within limit.Vars lim.vars [] all tt)
first_within lim word.Del place rest all = deletion_within lim.vars (numbers_after limit.Vars lim.vars [] rest) (numbers_within limit.Vars lim.vars [] rest tt)
first_within lim _ place rest all = tt

text_line_within : (lim : LimitValues) (ts : Tokens) → LineWithin lim.vars (line_at lim ts)
unfolding line_at
text_line_within lim (next t rest) = first_within lim t.word t.place rest (next t rest)
text_line_within lim (finished place) = tt
text_line_within lim (stopped kind place) = tt
text_line_within lim over = tt
text_line_within lim lost = tt

byte_within : (lim : LimitValues) (w : Word) (place : ℕ) (rest : Tokens) → LineWithin lim.vars (dsr.by_byte lim w place rest)
byte_within lim word.Add place rest = lemma_within lim.vars (numbers_after limit.Vars lim.vars [] rest) (numbers_within limit.Vars lim.vars [] rest tt)
byte_within lim word.Del place rest = deletion_within lim.vars (numbers_after limit.Vars lim.vars [] rest) (numbers_within limit.Vars lim.vars [] rest tt)
byte_within lim _ place rest = tt

binary_line_within : (lim : LimitValues) (ts : Tokens) → LineWithin lim.vars (binary_line_at lim ts)
unfolding binary_line_at
binary_line_within lim (next t rest) = byte_within lim t.word t.place rest
binary_line_within lim (finished place) = tt
binary_line_within lim (stopped kind place) = tt
binary_line_within lim over = tt
binary_line_within lim lost = tt

pub read_line_within : (form : Form) (lim : LimitValues) (ts rest : Tokens) (l : Line) → line_in form lim ts ≡ reads (Some l) rest → IsLine lim.vars l
read_line_within Text lim ts rest l e = subst (LineWithin lim.vars) e (text_line_within lim ts)
read_line_within Binary lim ts rest l e = subst (LineWithin lim.vars) e (binary_line_within lim ts)
