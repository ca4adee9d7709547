-- The machine that reads formulas gives a formula exactly where the tokens spell one.
use Rattle.std.proofs.Common.{◌≡◌, ◌∙◌, ℕ, zero, suc, ◌+◌, ◌<◌, ◌≤◌, true, false, refl, sym, ap, subst, inl, inr, List, [], ◌∷◌, ◌++◌, length, map, Option, Some, None, ℤ, pos, negsuc, arith, append_assoc, length-append}
use Rattle.std.specs.Prelude.{nat_le, nat_lt, All, flat_map, ◌≢◌}
use Rattle.std.proofs.lemmas.Bool.Decides.{nat_tests}
use Rattle.std.proofs.lemmas.List.{append-nil}
use Rattle.std.proofs.lemmas.List.Elements.{All-cons, All-nil}
use Rattle.sr_base.specs.Literal.{Literal, literal_of, distinct}
use Rattle.sr_base.specs.Limits.{LimitValues}
use Rattle.sr_model.specs.declared.tokens.Word.{Word}
use Rattle.sr_model.specs.declared.tokens.Word.TheVariants as word
use Rattle.sr_model.specs.Tokens.{Tokens, finished, stopped, over, lost, next}
use Rattle.sr_model.specs.Reading.{Read, reads}
use Rattle.sr_model.specs.Dimacs.{Formula, by_number, by_token, clauses_from, clauses_at, sizes_at, format_at, formula_at}
use Rattle.sr_model.specs.Formulas.{BeginWith, NamesLiteral, clause_words, EndsWith, SpellsFormula}
use Rattle.sr_model.proofs.Soundness.{by_test}

-- what was read, and what is left
got : Read Formula → Formula → Formula
got (reads f rest) d = f
got _ d = d

left : Read Formula → Tokens → Tokens
left (reads f rest) d = rest
left _ d = d

same_formula : (f g : Formula) (r s : Tokens) → reads f r ≡ reads g s → f ≡ g
unfolding got
same_formula f g r s e = ap (λ (x : Read Formula). got x f) e

same_left : (f g : Formula) (r s : Tokens) → reads f r ≡ reads g s → r ≡ s
unfolding left
same_left f g r s e = ap (λ (x : Read Formula). left x r) e

abbrev clause_of : List ℤ → List Literal
clause_of xs = distinct (map literal_of xs)

-- the clauses that follow those that were read, with the end of the formula
record After (v c : ℕ) (done : List (List Literal)) (ts : Tokens) (f : Formula) (rest : Tokens) : Type 0 where
  pub numbers : List (List ℤ)
  pub end : Tokens
  pub begins : BeginWith (flat_map clause_words numbers) ts end
  pub ends : EndsWith end rest
  pub literals : All (All (NamesLiteral v)) numbers
  pub formula : f ≡ record { vars = v; clauses = done ++ map clause_of numbers }
  pub count : length done + length numbers ≡ c

-- the same where some literals of a clause were read
record Within (v c : ℕ) (done : List (List Literal)) (lits : List Literal) (ts : Tokens) (f : Formula) (rest : Tokens) : Type 0 where
  pub first : List ℤ
  pub numbers : List (List ℤ)
  pub end : Tokens
  pub begins : BeginWith (clause_words first ++ flat_map clause_words numbers) ts end
  pub ends : EndsWith end rest
  pub named : All (NamesLiteral v) first
  pub literals : All (All (NamesLiteral v)) numbers
  pub formula : f ≡ record { vars = v; clauses = done ++ (distinct (lits ++ map literal_of first) ∷ map clause_of numbers) }
  pub count : length done + suc (length numbers) ≡ c

abbrev Spelled : ℕ → ℕ → List (List Literal) → Option (List Literal) → Tokens → Formula → Tokens → Type 0
Spelled v c done None ts f rest = length done ≤ c → After v c done ts f rest
Spelled v c done (Some lits) ts f rest = length done < c → Within v c done lits ts f rest

-- what is known of the tokens after the first
abbrev Rest : ℕ → ℕ → Tokens → Formula → Tokens → Type 0
Rest v c ts f rest = (done : List (List Literal)) (o : Option (List Literal)) → clauses_from v c done o ts ≡ reads f rest → Spelled v c done o ts f rest

-- a number that doesn't end a clause names a literal, where one was read
named : (v : ℕ) (done : List (List Literal)) (lits : List Literal) (x : ℤ) (place : ℕ) (f : Formula) (rest : Tokens) (more : List (List Literal) → Option (List Literal) → Read Formula)
    → x ≢ pos 0 → by_number v done lits x place more ≡ reads f rest → NamesLiteral v x × (more done (Some (lits ++ literal_of x ∷ [])) ≡ reads f rest)
named v done lits (pos zero) place f rest more some e = absurd (some refl)
named v done lits (pos (suc n)) place f rest more some e = by_test (nat_le (suc n) v)
    (λ t. ((some, grind (arith, nat_tests)), rw t at e))
    (λ t. let bad = rw t at e in absurd cc)
named v done lits (negsuc n) place f rest more some e = by_test (nat_le (suc n) v)
    (λ t. ((some, grind (arith, nat_tests)), rw t at e))
    (λ t. let bad = rw t at e in absurd cc)

-- a number of a clause
within_more : (v c : ℕ) (done : List (List Literal)) (lits : List Literal) (x : ℤ) (place : ℕ) (ts : Tokens) (f : Formula) (rest : Tokens) → NamesLiteral v x
    → Within v c done (lits ++ literal_of x ∷ []) ts f rest → Within v c done lits (next (record { place = place; word = word.Number x }) ts) f rest
within_more v c done lits x place ts f rest n w = record {
  first = x ∷ w.first;
  numbers = w.numbers;
  end = w.end;
  begins = (place, ts, refl, w.begins);
  ends = w.ends;
  named = All-cons (NamesLiteral v) x w.first n w.named;
  literals = w.literals;
  formula = w.formula ∙ ap (λ ls. record { vars = v; clauses = done ++ (distinct ls ∷ map clause_of w.numbers) }) (append_assoc lits (literal_of x ∷ []) (map literal_of w.first));
  count = w.count;
}

-- the end of a clause
within_end : (v c : ℕ) (done : List (List Literal)) (lits : List Literal) (place : ℕ) (ts : Tokens) (f : Formula) (rest : Tokens)
    → After v c (done ++ distinct lits ∷ []) ts f rest → Within v c done lits (next (record { place = place; word = word.Number (pos 0) }) ts) f rest
within_end v c done lits place ts f rest a = record {
  first = [];
  numbers = a.numbers;
  end = a.end;
  begins = (place, ts, refl, a.begins);
  ends = a.ends;
  named = All-nil (NamesLiteral v);
  literals = a.literals;
  formula = a.formula
      ∙ ap (λ cs. record { vars = v; clauses = cs }) (append_assoc done (distinct lits ∷ []) (map clause_of a.numbers))
      ∙ ap (λ ls. record { vars = v; clauses = done ++ (distinct ls ∷ map clause_of a.numbers) }) (sym (append-nil lits));
  count = omega (arith, a.count, length-append done (distinct lits ∷ []));
}

-- a clause that begins
within_first : (v c : ℕ) (done : List (List Literal)) (ts : Tokens) (f : Formula) (rest : Tokens) → Within v c done [] ts f rest → After v c done ts f rest
within_first v c done ts f rest w = record {
  numbers = w.first ∷ w.numbers;
  end = w.end;
  begins = w.begins;
  ends = w.ends;
  literals = All-cons (All (NamesLiteral v)) w.first w.numbers w.named w.literals;
  formula = w.formula;
  count = w.count;
}

-- a number where a clause has begun
within_number : (v c : ℕ) (done : List (List Literal)) (lits : List Literal) (x : ℤ) (place : ℕ) (ts : Tokens) (f : Formula) (rest : Tokens) → Rest v c ts f rest → length done < c
    → by_number v done lits x place (λ d o. clauses_from v c d o ts) ≡ reads f rest → Within v c done lits (next (record { place = place; word = word.Number x }) ts) f rest
within_number v c done lits (pos zero) place ts f rest ih lt e =
    within_end v c done lits place ts f rest (ih (done ++ distinct lits ∷ []) None e (omega (arith, length-append done (distinct lits ∷ []))))
within_number v c done lits (pos (suc n)) place ts f rest ih lt e =
    let r = named v done lits (pos (suc n)) place f rest (λ d o. clauses_from v c d o ts) (λ h. absurd cc) e in
    within_more v c done lits (pos (suc n)) place ts f rest r.0 (ih done (Some (lits ++ literal_of (pos (suc n)) ∷ [])) r.1 lt)
within_number v c done lits (negsuc n) place ts f rest ih lt e =
    let r = named v done lits (negsuc n) place f rest (λ d o. clauses_from v c d o ts) (λ h. absurd cc) e in
    within_more v c done lits (negsuc n) place ts f rest r.0 (ih done (Some (lits ++ literal_of (negsuc n) ∷ [])) r.1 lt)

-- the end of the clauses
ends_here : (v c : ℕ) (done : List (List Literal)) (ts left : Tokens) (f : Formula) (rest : Tokens) → nat_lt (length done) c ≡ false → length done ≤ c
    → reads (record { vars = v; clauses = done }) left ≡ reads f rest → EndsWith ts left → After v c done ts f rest
ends_here v c done ts left f rest t le e ends = record {
  numbers = [];
  end = ts;
  begins = refl;
  ends = subst (EndsWith ts) (same_left (record { vars = v; clauses = done }) f left rest e) ends;
  literals = All-nil (All (NamesLiteral v));
  formula = sym (same_formula (record { vars = v; clauses = done }) f left rest e) ∙ ap (λ cs. record { vars = v; clauses = cs }) (sym (append-nil done));
  count = grind (arith, nat_tests);
}

-- a token
by_word_spelled : (v c : ℕ) (done : List (List Literal)) (o : Option (List Literal)) (w : Word) (place : ℕ) (ts : Tokens) (f : Formula) (rest : Tokens) → Rest v c ts f rest
    → by_token v c done o w place ts (λ d k. clauses_from v c d k ts) ≡ reads f rest → Spelled v c done o (next (record { place = place; word = w }) ts) f rest
by_word_spelled v c done (Some lits) (word.Number x) place ts f rest ih e = λ lt. within_number v c done lits x place ts f rest ih lt e
by_word_spelled v c done (Some lits) word.Add place ts f rest ih e = λ lt. absurd cc
by_word_spelled v c done (Some lits) word.Del place ts f rest ih e = λ lt. absurd cc
by_word_spelled v c done (Some lits) word.Header place ts f rest ih e = λ lt. absurd cc
by_word_spelled v c done (Some lits) word.Cnf place ts f rest ih e = λ lt. absurd cc
by_word_spelled v c done (Some lits) word.Percent place ts f rest ih e = λ lt. absurd cc
by_word_spelled v c done (Some lits) word.Other place ts f rest ih e = λ lt. absurd cc
by_word_spelled v c done (Some lits) word.End place ts f rest ih e = λ lt. absurd cc
by_word_spelled v c done None (word.Number x) place ts f rest ih e = λ le. by_test (nat_lt (length done) c)
    (λ t. within_first v c done _ f rest (within_number v c done [] x place ts f rest ih (grind (arith, nat_tests)) (rw t at e)))
    (λ t. let bad = rw t at e in absurd cc)
by_word_spelled v c done None word.Percent place ts f rest ih e = λ le. by_test (nat_lt (length done) c)
    (λ t. let bad = rw t at e in absurd cc)
    (λ t. ends_here v c done _ ts f rest t le (rw t at e) (inr (place, ts, refl, refl)))
by_word_spelled v c done None word.Add place ts f rest ih e = λ le. by_test (nat_lt (length done) c) (λ t. let bad = rw t at e in absurd cc) (λ t. let bad = rw t at e in absurd cc)
by_word_spelled v c done None word.Del place ts f rest ih e = λ le. by_test (nat_lt (length done) c) (λ t. let bad = rw t at e in absurd cc) (λ t. let bad = rw t at e in absurd cc)
by_word_spelled v c done None word.Header place ts f rest ih e = λ le. by_test (nat_lt (length done) c) (λ t. let bad = rw t at e in absurd cc) (λ t. let bad = rw t at e in absurd cc)
by_word_spelled v c done None word.Cnf place ts f rest ih e = λ le. by_test (nat_lt (length done) c) (λ t. let bad = rw t at e in absurd cc) (λ t. let bad = rw t at e in absurd cc)
by_word_spelled v c done None word.Other place ts f rest ih e = λ le. by_test (nat_lt (length done) c) (λ t. let bad = rw t at e in absurd cc) (λ t. let bad = rw t at e in absurd cc)
by_word_spelled v c done None word.End place ts f rest ih e = λ le. by_test (nat_lt (length done) c) (λ t. let bad = rw t at e in absurd cc) (λ t. let bad = rw t at e in absurd cc)

clauses_spelled : (v c : ℕ) (ts : Tokens) (f : Formula) (rest : Tokens) (done : List (List Literal)) (o : Option (List Literal)) → clauses_from v c done o ts ≡ reads f rest → Spelled v c done o ts f rest
unfolding clauses_from
clauses_spelled v c (next t ts) f rest done o e = by_word_spelled v c done o t.word t.place ts f rest (clauses_spelled v c ts f rest) e
clauses_spelled v c (finished place) f rest done None e = λ le. by_test (nat_lt (length done) c)
    (λ t. let bad = rw t at e in absurd cc)
    (λ t. ends_here v c done (finished place) (finished place) f rest t le (rw t at e) (inl (place, refl, refl)))
clauses_spelled v c (finished place) f rest done (Some lits) e = λ lt. absurd cc
clauses_spelled v c (stopped kind place) f rest done None e = λ le. by_test (nat_lt (length done) c) (λ t. let bad = rw t at e in absurd cc) (λ t. let bad = rw t at e in absurd cc)
clauses_spelled v c (stopped kind place) f rest done (Some lits) e = λ lt. absurd cc
clauses_spelled v c over f rest done None e = λ le. absurd cc
clauses_spelled v c over f rest done (Some lits) e = λ lt. absurd cc
clauses_spelled v c lost f rest done None e = λ le. absurd cc
clauses_spelled v c lost f rest done (Some lits) e = λ lt. absurd cc

-- the words of the header
count_word : (lim : LimitValues) (v place : ℕ) (w : Word) (ts : Tokens) (f : Formula) (rest : Tokens) → clauses_at lim v (next (record { place = place; word = w }) ts) ≡ reads f rest
    → (c : ℕ) × (w ≡ word.Number (pos c)) × (c < lim.ids) × (clauses_from v c [] None ts ≡ reads f rest)
count_word lim v place (word.Number (pos c)) ts f rest e = by_test (nat_lt c lim.ids)
    (λ t. (c, refl, grind (arith, nat_tests), rw t at e))
    (λ t. let bad = rw t at e in absurd cc)
count_word lim v place (word.Number (negsuc n)) ts f rest e = absurd cc
count_word lim v place word.Add ts f rest e = absurd cc
count_word lim v place word.Del ts f rest e = absurd cc
count_word lim v place word.Header ts f rest e = absurd cc
count_word lim v place word.Cnf ts f rest e = absurd cc
count_word lim v place word.Percent ts f rest e = absurd cc
count_word lim v place word.Other ts f rest e = absurd cc
count_word lim v place word.End ts f rest e = absurd cc

vars_word : (lim : LimitValues) (place : ℕ) (w : Word) (ts : Tokens) (f : Formula) (rest : Tokens) → sizes_at lim (next (record { place = place; word = w }) ts) ≡ reads f rest
    → (v : ℕ) × (w ≡ word.Number (pos v)) × (v ≤ lim.vars) × (clauses_at lim v ts ≡ reads f rest)
vars_word lim place (word.Number (pos v)) ts f rest e = by_test (nat_le v lim.vars)
    (λ t. (v, refl, grind (arith, nat_tests), rw t at e))
    (λ t. let bad = rw t at e in absurd cc)
vars_word lim place (word.Number (negsuc n)) ts f rest e = absurd cc
vars_word lim place word.Add ts f rest e = absurd cc
vars_word lim place word.Del ts f rest e = absurd cc
vars_word lim place word.Header ts f rest e = absurd cc
vars_word lim place word.Cnf ts f rest e = absurd cc
vars_word lim place word.Percent ts f rest e = absurd cc
vars_word lim place word.Other ts f rest e = absurd cc
vars_word lim place word.End ts f rest e = absurd cc

format_word : (lim : LimitValues) (place : ℕ) (w : Word) (ts : Tokens) (f : Formula) (rest : Tokens) → format_at lim (next (record { place = place; word = w }) ts) ≡ reads f rest
    → (w ≡ word.Cnf) × (sizes_at lim ts ≡ reads f rest)
format_word lim place word.Cnf ts f rest e = (refl, e)
format_word lim place (word.Number x) ts f rest e = absurd cc
format_word lim place word.Add ts f rest e = absurd cc
format_word lim place word.Del ts f rest e = absurd cc
format_word lim place word.Header ts f rest e = absurd cc
format_word lim place word.Percent ts f rest e = absurd cc
format_word lim place word.Other ts f rest e = absurd cc
format_word lim place word.End ts f rest e = absurd cc

header_word : (lim : LimitValues) (place : ℕ) (w : Word) (ts : Tokens) (f : Formula) (rest : Tokens) → formula_at lim (next (record { place = place; word = w }) ts) ≡ reads f rest
    → (w ≡ word.Header) × (format_at lim ts ≡ reads f rest)
header_word lim place word.Header ts f rest e = (refl, e)
header_word lim place (word.Number x) ts f rest e = absurd cc
header_word lim place word.Add ts f rest e = absurd cc
header_word lim place word.Del ts f rest e = absurd cc
header_word lim place word.Cnf ts f rest e = absurd cc
header_word lim place word.Percent ts f rest e = absurd cc
header_word lim place word.Other ts f rest e = absurd cc
header_word lim place word.End ts f rest e = absurd cc

-- a token stands first
abbrev First : Tokens → (ℕ → Word → Tokens → Type 0) → Type 0
First ts P = (place : ℕ) × (w : Word) × (rest : Tokens) × (ts ≡ next (record { place = place; word = w }) rest) × P place w rest

count_first : (lim : LimitValues) (v : ℕ) (ts : Tokens) (f : Formula) (rest : Tokens) → clauses_at lim v ts ≡ reads f rest → First ts (λ place w mid. clauses_at lim v (next (record { place = place; word = w }) mid) ≡ reads f rest)
count_first lim v (next t ts) f rest e = (t.place, t.word, ts, refl, e)
count_first lim v (finished place) f rest e = absurd cc
count_first lim v (stopped kind place) f rest e = absurd cc
count_first lim v over f rest e = absurd cc
count_first lim v lost f rest e = absurd cc

vars_first : (lim : LimitValues) (ts : Tokens) (f : Formula) (rest : Tokens) → sizes_at lim ts ≡ reads f rest → First ts (λ place w mid. sizes_at lim (next (record { place = place; word = w }) mid) ≡ reads f rest)
vars_first lim (next t ts) f rest e = (t.place, t.word, ts, refl, e)
vars_first lim (finished place) f rest e = absurd cc
vars_first lim (stopped kind place) f rest e = absurd cc
vars_first lim over f rest e = absurd cc
vars_first lim lost f rest e = absurd cc

format_first : (lim : LimitValues) (ts : Tokens) (f : Formula) (rest : Tokens) → format_at lim ts ≡ reads f rest → First ts (λ place w mid. format_at lim (next (record { place = place; word = w }) mid) ≡ reads f rest)
format_first lim (next t ts) f rest e = (t.place, t.word, ts, refl, e)
format_first lim (finished place) f rest e = absurd cc
format_first lim (stopped kind place) f rest e = absurd cc
format_first lim over f rest e = absurd cc
format_first lim lost f rest e = absurd cc

header_first : (lim : LimitValues) (ts : Tokens) (f : Formula) (rest : Tokens) → formula_at lim ts ≡ reads f rest → First ts (λ place w mid. formula_at lim (next (record { place = place; word = w }) mid) ≡ reads f rest)
header_first lim (next t ts) f rest e = (t.place, t.word, ts, refl, e)
header_first lim (finished place) f rest e = absurd cc
header_first lim (stopped kind place) f rest e = absurd cc
header_first lim over f rest e = absurd cc
header_first lim lost f rest e = absurd cc

abbrev token : ℕ → Word → Tokens → Tokens
token place w ts = next (record { place = place; word = w }) ts

pub read_is_spelled : (lim : LimitValues) (ts : Tokens) (f : Formula) (rest : Tokens) → formula_at lim ts ≡ reads f rest → SpellsFormula lim ts f rest
read_is_spelled lim ts f rest e =
    let h = header_first lim ts f rest e in
    let h' = header_word lim h.0 h.1 h.2 f rest h.4 in
    let m = format_first lim h.2 f rest h'.1 in
    let m' = format_word lim m.0 m.1 m.2 f rest m.4 in
    let s = vars_first lim m.2 f rest m'.1 in
    let s' = vars_word lim s.0 s.1 s.2 f rest s.4 in
    let k = count_first lim s'.0 s.2 f rest s'.3 in
    let k' = count_word lim s'.0 k.0 k.1 k.2 f rest k.4 in
    let a = clauses_spelled s'.0 k'.0 k.2 f rest [] None k'.3 (omega arith) in
    let vars : f.vars ≡ s'.0 = ap (λ (g : Formula). g.vars) a.formula in
    let count : length a.numbers ≡ k'.0 = omega (arith, a.count) in record {
      numbers = a.numbers;
      end = a.end;
      begins = (
        h.0,
        h.2,
        h.3 ∙ ap (λ w. token h.0 w h.2) h'.0,
        (
          m.0,
          m.2,
          m.3 ∙ ap (λ w. token m.0 w m.2) m'.0,
          (
            s.0,
            s.2,
            s.3 ∙ ap (λ w. token s.0 w s.2) s'.1 ∙ ap (λ (n : ℕ). token s.0 (word.Number (pos n)) s.2) (sym vars),
            (k.0, k.2, k.3 ∙ ap (λ w. token k.0 w k.2) k'.1 ∙ ap (λ (n : ℕ). token k.0 (word.Number (pos n)) k.2) (sym count), a.begins),
          ),
        ),
      );
      ends = a.ends;
      literals = subst (λ (n : ℕ). All (All (NamesLiteral n)) a.numbers) (sym vars) a.literals;
      clauses = ap (λ (g : Formula). g.clauses) a.formula;
      vars = subst (λ (n : ℕ). n ≤ lim.vars) (sym vars) s'.2;
      count = subst (λ (n : ℕ). n < lim.ids) (sym count) k'.2;
    }

-- the other way round: a number that names a literal is read as one
number_named : (v : ℕ) (done : List (List Literal)) (lits : List Literal) (x : ℤ) (place : ℕ) (more : List (List Literal) → Option (List Literal) → Read Formula) → NamesLiteral v x
    → by_number v done lits x place more ≡ more done (Some (lits ++ literal_of x ∷ []))
number_named v done lits (pos zero) place more n = absurd (n.0 refl)
number_named v done lits (pos (suc k)) place more n = let le : suc k ≤ v = n.1 in let t : nat_le (suc k) v ≡ true = grind (arith, nat_tests) in rw t refl
number_named v done lits (negsuc k) place more n = let le : suc k ≤ v = n.1 in let t : nat_le (suc k) v ≡ true = grind (arith, nat_tests) in rw t refl

abbrev Clause : ℕ → List ℤ → Type 0
Clause v xs = All (NamesLiteral v) xs

-- the rest of a clause
clause_read : (v c : ℕ) (done : List (List Literal)) (lits : List Literal) (xs : List ℤ) (ws : List Word) (ts end : Tokens) → Clause v xs → BeginWith (clause_words xs ++ ws) ts end
    → (mid : Tokens) × (clauses_from v c done (Some lits) ts ≡ clauses_from v c (done ++ distinct (lits ++ map literal_of xs) ∷ []) None mid) × BeginWith ws mid end
unfolding clauses_from
clause_read v c done lits [] ws ts end n b =
    (b.1, ap (clauses_from v c done (Some lits)) b.2 ∙ ap (λ ks. clauses_from v c (done ++ distinct ks ∷ []) None b.1) (sym (append-nil lits)), b.3)
clause_read v c done lits (x ∷ xs) ws ts end n b =
    let r = clause_read v c done (lits ++ literal_of x ∷ []) xs ws b.1 end (λ k d h. n (suc k) d (omega arith)) b.3 in (
      r.0,
      ap (clauses_from v c done (Some lits)) b.2
          ∙ number_named v done lits x b.0 (λ d o. clauses_from v c d o b.1) (n 0 x (omega arith))
          ∙ r.1
          ∙ ap (λ ks. clauses_from v c (done ++ distinct ks ∷ []) None r.0) (append_assoc lits (literal_of x ∷ []) (map literal_of xs)),
      r.2,
    )

-- where some clauses are missing, a number begins one
clause_begins : (v c : ℕ) (done : List (List Literal)) (xs : List ℤ) (ws : List Word) (ts end : Tokens) → length done < c → BeginWith (clause_words xs ++ ws) ts end
    → clauses_from v c done None ts ≡ clauses_from v c done (Some []) ts
unfolding clauses_from
clause_begins v c done [] ws ts end lt b =
    let t : nat_lt (length done) c ≡ true = grind (arith, nat_tests) in
    ap (clauses_from v c done None) b.2 ∙ rw t refl ∙ ap (clauses_from v c done (Some [])) (sym b.2)
clause_begins v c done (x ∷ xs) ws ts end lt b =
    let t : nat_lt (length done) c ≡ true = grind (arith, nat_tests) in
    ap (clauses_from v c done None) b.2 ∙ rw t refl ∙ ap (clauses_from v c done (Some [])) (sym b.2)

clauses_end : (v c : ℕ) (done : List (List Literal)) (ts rest : Tokens) → length done ≡ c → EndsWith ts rest → clauses_from v c done None ts ≡ reads (record { vars = v; clauses = done }) rest
unfolding clauses_from
clauses_end v c done ts rest n (inl e) =
    let t : nat_lt (length done) c ≡ false = grind (arith, nat_tests) in
    ap (clauses_from v c done None) e.1 ∙ rw t refl ∙ ap (reads (record { vars = v; clauses = done })) (sym (e.2 ∙ e.1))
clauses_end v c done ts rest n (inr e) =
    let t : nat_lt (length done) c ≡ false = grind (arith, nat_tests) in
    ap (clauses_from v c done None) e.2 ∙ rw t refl ∙ ap (reads (record { vars = v; clauses = done })) e.3

clauses_read : (v c : ℕ) (done : List (List Literal)) (numbers : List (List ℤ)) (ts end rest : Tokens) → length done + length numbers ≡ c → All (Clause v) numbers
    → BeginWith (flat_map clause_words numbers) ts end → EndsWith end rest → clauses_from v c done None ts ≡ reads (record { vars = v; clauses = done ++ map clause_of numbers }) rest
clauses_read v c done [] ts end rest n a b e =
    ap (clauses_from v c done None) b ∙ clauses_end v c done end rest (omega arith) e ∙ ap (λ cs. reads (record { vars = v; clauses = cs }) rest) (sym (append-nil done))
clauses_read v c done (xs ∷ numbers) ts end rest n a b e =
    let r = clause_read v c done [] xs (flat_map clause_words numbers) ts end (a 0 xs (omega arith)) b in
    clause_begins v c done xs (flat_map clause_words numbers) ts end (omega arith) b
    ∙ r.1
    ∙ clauses_read v c (done ++ clause_of xs ∷ []) numbers r.0 end rest (omega (arith, length-append done (clause_of xs ∷ []))) (λ k d h. a (suc k) d (omega arith)) r.2 e
    ∙ ap (λ cs. reads (record { vars = v; clauses = cs }) rest) (append_assoc done (clause_of xs ∷ []) (map clause_of numbers))

pub spelled_is_read : (lim : LimitValues) (ts : Tokens) (f : Formula) (rest : Tokens) → SpellsFormula lim ts f rest → formula_at lim ts ≡ reads f rest
spelled_is_read lim ts f rest s =
    let c : ℕ = length s.numbers in
    let header = s.begins in
    let format = header.3 in
    let vars = format.3 in
    let count = vars.3 in
    let vars_fit : nat_le f.vars lim.vars ≡ true = let le : f.vars ≤ lim.vars = s.vars in grind (arith, nat_tests) in
    let count_fits : nat_lt c lim.ids ≡ true = let lt : length s.numbers < lim.ids = s.count in grind (arith, nat_tests) in
    ap (formula_at lim) header.2
    ∙ ap (format_at lim) format.2
    ∙ ap (sizes_at lim) vars.2
    ∙ rw vars_fit (ap (clauses_at lim f.vars) count.2 ∙ rw count_fits (clauses_read f.vars c [] s.numbers count.1 s.end rest (omega arith) s.literals count.3 s.ends))
    ∙ ap (λ cs. reads (record { vars = f.vars; clauses = cs }) rest) (sym s.clauses)
