-- The parts of a step or a lemma, from the numbers that are written.
use Rattle.std.proofs.Common.{◌≡◌, ◌∙◌, ℕ, zero, suc, ◌<◌, not, true, false, refl, sym, ap, subst, List, [], ◌∷◌, ◌++◌, map, Option, Some, None, ℤ, pos, arith}
use Rattle.std.specs.Prelude.{nat_abs, neg_ℤ, filter, All, option_map}
use Rattle.std.proofs.lemmas.List.{append-nil}
use Rattle.sr_base.specs.Literal.{Literal, plus, minus, variable, number, literal_of, same, has, distinct, NoRepeats}
use Rattle.sr_base.specs.Limits.{LimitValues}
use Rattle.sr_base.specs.declared.names.TextKind.TheVariants.{Twice}
use Rattle.sr_base.proofs.Literals.{same_tells}
use Rattle.sr_model.specs.declared.images.Image.{Image}
use Rattle.sr_model.specs.Substitution.{Witness}
use Rattle.sr_model.specs.Meeting.{Group, Step}
use Rattle.sr_model.specs.Witnesses.{before, after, pairs, is_odd, twice_of, parts_of, witness_by, maps_of, clause_of_literals, witness_of_literals, fault_of_maps, fault_of_witness, fault_of_literals}
use Rattle.sr_model.specs.Lsr.{prefix_of, groups_of, step_of}
use Rattle.sr_model.specs.Writing.{flat, maps_written, witness_written, groups_written, hints_written}
use Rattle.sr_model.specs.ReadAgain.{IsLiteral, IsMap, IsNumber, IsClause, IsWitness, IsGroup, IsStep}
use Rattle.sr_model.proofs.Soundness.{has_kept}
use Rattle.sr_model.proofs.NumberStreams.{Entries}

-- literals, and what they are written as
abbrev pub AreLiterals : ℕ → List Literal → Type 0
AreLiterals vars [] = Unit {0}
AreLiterals vars (l ∷ ls) = IsLiteral vars l × AreLiterals vars ls

pub all_literals : (vars : ℕ) (ls : List Literal) → All (IsLiteral vars) ls → AreLiterals vars ls
all_literals vars [] a = tt
all_literals vars (l ∷ ls) a = (a 0 l (omega arith), all_literals vars ls (λ k d h. a (suc k) d (omega arith)))

pub literals_append : (vars : ℕ) (xs ys : List Literal) → AreLiterals vars xs → AreLiterals vars ys → AreLiterals vars (xs ++ ys)
literals_append vars [] ys a b = b
literals_append vars (x ∷ xs) ys a b = (a.0, literals_append vars xs ys a.1 b)

pub literal_back : (l : Literal) → 0 < variable l → literal_of (number l) ≡ l
literal_back (plus v) h = refl
literal_back (minus zero) h = absurd (omega arith)
literal_back (minus (suc v)) h = ap minus (omega arith)

pub literals_back : (vars : ℕ) (ls : List Literal) → AreLiterals vars ls → map literal_of (map number ls) ≡ ls
literals_back vars [] a = refl
literals_back vars (l ∷ ls) a =
    ap (λ k. k ∷ map literal_of (map number ls)) (literal_back l a.0.0) ∙ ap (λ ks. l ∷ ks) (literals_back vars ls a.1)

pub size_of : (l : Literal) → nat_abs (number l) ≡ variable l
size_of (plus v) = refl
size_of (minus zero) = refl
size_of (minus (suc v)) = refl

pub literal_entries : (vars : ℕ) (ls : List Literal) → AreLiterals vars ls → Entries vars (map number ls)
literal_entries vars [] a = tt
literal_entries vars (l ∷ ls) a = (omega (arith, size_of l, a.0), omega (arith, size_of l, a.0), literal_entries vars ls a.1)

-- a witness is written of literals
flat_literals : (vars : ℕ) (ms : List (Literal × Literal)) → All (IsMap vars) ms → AreLiterals vars (flat ms)
flat_literals vars [] a = tt
flat_literals vars (m ∷ ms) a = let f = a 0 m (omega arith) in (f.0, (f.1, flat_literals vars ms (λ k d h. a (suc k) d (omega arith))))

pub clause_literals : (vars : ℕ) (c : List Literal) (w : Option Witness) → IsClause vars c → ((v : Witness) → w ≡ Some v → IsWitness vars c v) → AreLiterals vars (c ++ witness_written w)
clause_literals vars c None i f = literals_append vars c [] (all_literals vars c i.within) tt
clause_literals vars [] (Some w) i f = elim (f w refl).pivot [ ]
clause_literals vars (p ∷ c) (Some w) i f =
    let g = f w refl in
    let a = all_literals vars (p ∷ c) i.within in
    let pivot : IsLiteral vars w.pivot = subst (IsLiteral vars) (sym g.pivot) a.0 in
    literals_append vars (p ∷ c) (w.pivot ∷ (w.assigned ++ maps_written w.pivot w.maps)) a
    (pivot, literals_append vars w.assigned (maps_written w.pivot w.maps) (all_literals vars w.assigned g.assigned) (maps w.pivot pivot w.maps g.maps))
  where
    maps : (p : Literal) → IsLiteral vars p → (ms : List (Literal × Literal)) → All (IsMap vars) ms → AreLiterals vars (maps_written p ms)
    maps p i [] a = tt
    maps p i (m ∷ ms) a = (i, flat_literals vars (m ∷ ms) a)

-- up to the pivot, and behind it
other_first : (p x : Literal) (xs : List Literal) → has p (x ∷ xs) ≡ false → (same x p ≡ false) × (has p xs ≡ false)
other_first p x xs h = (grind (arith, same_tells p x, same_tells x p), grind arith)

same_itself : (p : Literal) → same p p ≡ true
same_itself p = grind (arith, same_tells p p)

before_pivot : (p : Literal) (xs ys : List Literal) → has p xs ≡ false → before p (xs ++ p ∷ ys) ≡ xs
before_pivot p [] ys h = rw (same_itself p) refl
before_pivot p (x ∷ xs) ys h = let f = other_first p x xs h in rw f.0 (ap (λ l. x ∷ l) (before_pivot p xs ys f.1))

after_pivot : (p : Literal) (xs ys : List Literal) → has p xs ≡ false → after p (xs ++ p ∷ ys) ≡ Some ys
after_pivot p [] ys h = rw (same_itself p) refl
after_pivot p (x ∷ xs) ys h = let f = other_first p x xs h in rw f.0 (after_pivot p xs ys f.1)

before_none : (p : Literal) (xs : List Literal) → has p xs ≡ false → before p xs ≡ xs
before_none p [] h = refl
before_none p (x ∷ xs) h = let f = other_first p x xs h in rw f.0 (ap (λ l. x ∷ l) (before_none p xs f.1))

after_none : (p : Literal) (xs : List Literal) → has p xs ≡ false → after p xs ≡ None
after_none p [] h = refl
after_none p (x ∷ xs) h = let f = other_first p x xs h in rw f.0 (after_none p xs f.1)

pairs_flat : (ms : List (Literal × Literal)) → pairs (flat ms) ≡ ms
pairs_flat [] = refl
pairs_flat (m ∷ ms) = ap (λ l. m ∷ l) (pairs_flat ms)

even_flat : (ms : List (Literal × Literal)) → is_odd (flat ms) ≡ false
even_flat [] = refl
even_flat (m ∷ ms) = even_flat ms

kept_all : (l : Literal) (ks : List Literal) → has l ks ≡ false → filter (λ k. not (same l k)) ks ≡ ks
kept_all l [] h = refl
kept_all l (k ∷ ks) h =
    let first : same l k ≡ false = grind (arith, same_tells l k, same_tells k l) in
    let rest : has l ks ≡ false = grind arith in
    rw first (ap (λ x. k ∷ x) (kept_all l ks rest))

pub distinct_same : (c : List Literal) → NoRepeats c → distinct c ≡ c
distinct_same [] n = refl
distinct_same (l ∷ ls) n = ap (λ ks. l ∷ filter (λ k. not (same l k)) ks) (distinct_same ls n.1) ∙ ap (λ ks. l ∷ ks) (kept_all l ls n.0)

-- what stands behind the second pivot
record ReadTail (p : Literal) (assigned : List Literal) (maps : List (Literal × Literal)) (tail : List Literal) : Type 0 where
  trues : before p tail ≡ assigned
  images : maps_of (after p tail) ≡ maps
  even : (parts : List (ℕ × Image)) → twice_of parts ≡ None → fault_of_maps (after p tail) parts ≡ None

tail_read : (p : Literal) (assigned : List Literal) (maps : List (Literal × Literal)) → has p assigned ≡ false → ReadTail p assigned maps (assigned ++ maps_written p maps)
tail_read p assigned [] h = record {
  trues = ap (before p) (append-nil assigned) ∙ before_none p assigned h;
  images = ap (λ l. maps_of (after p l)) (append-nil assigned) ∙ ap maps_of (after_none p assigned h);
  even = λ parts t. ap (λ l. fault_of_maps (after p l) parts) (append-nil assigned) ∙ ap (λ o. fault_of_maps o parts) (after_none p assigned h) ∙ ap (option_map (λ v. Twice)) t;
}
tail_read p assigned (m ∷ ms) h = record {
  trues = before_pivot p assigned (flat (m ∷ ms)) h;
  images = ap maps_of (after_pivot p assigned (flat (m ∷ ms)) h) ∙ pairs_flat (m ∷ ms);
  even = λ parts t. ap (λ o. fault_of_maps o parts) (after_pivot p assigned (flat (m ∷ ms)) h) ∙ rw (even_flat ms) (ap (option_map (λ v. Twice)) t);
}

-- what the literals of a step or a lemma are read as
pub record ReadParts (lits c : List Literal) (w : Option Witness) : Type 0 where
  pub clause : clause_of_literals lits ≡ c
  pub witness : witness_of_literals lits ≡ w
  pub faultless : fault_of_literals lits ≡ None

plain_parts : (p : Literal) (c : List Literal) → NoRepeats (p ∷ c) → ReadParts ((p ∷ c) ++ []) (p ∷ c) None
plain_parts p c n =
    let same_lits : (p ∷ c) ++ [] ≡ p ∷ c = append-nil (p ∷ c) in
    subst (λ l. ReadParts l (p ∷ c) None) (sym same_lits) (record {
      clause = ap (λ l. distinct (p ∷ l)) (before_none p c n.0) ∙ distinct_same (p ∷ c) n;
      witness = ap (option_map (λ w. witness_by p (before p w) (maps_of (after p w)))) (after_none p c n.0);
      faultless = ap (fault_of_witness p) (after_none p c n.0);
    })

witness_parts : (p : Literal) (c assigned : List Literal) (maps : List (Literal × Literal)) (w : Witness) → NoRepeats (p ∷ c) → has p assigned ≡ false → witness_by p assigned maps ≡ w → twice_of (parts_of p assigned maps) ≡ None
    → ReadParts ((p ∷ c) ++ p ∷ (assigned ++ maps_written p maps)) (p ∷ c) (Some w)
witness_parts p c assigned maps w n lacks made once =
    let tail : List Literal = assigned ++ maps_written p maps in
    let t = tail_read p assigned maps lacks in
    let second : after p (c ++ p ∷ tail) ≡ Some tail = after_pivot p c tail n.0 in
    record {
      clause = ap (λ l. distinct (p ∷ l)) (before_pivot p c tail n.0) ∙ distinct_same (p ∷ c) n;
      witness = ap (option_map (λ w. witness_by p (before p w) (maps_of (after p w)))) second
          ∙ ap (λ l. Some (witness_by p l (maps_of (after p tail)))) t.trues
          ∙ ap (λ l. Some (witness_by p assigned l)) t.images
          ∙ ap Some made;
      faultless = ap (fault_of_witness p) second
          ∙ t.even (parts_of p (before p tail) (maps_of (after p tail)))
          (ap (λ l. twice_of (parts_of p l (maps_of (after p tail)))) t.trues ∙ ap (λ l. twice_of (parts_of p assigned l)) t.images ∙ once);
    }

lacks_pivot : (w : Witness) → witness_by w.pivot w.assigned w.maps ≡ w → has w.pivot w.assigned ≡ false
lacks_pivot w e =
    let is : filter (λ l. not (same w.pivot l)) (distinct w.assigned) ≡ w.assigned = ap (λ v. v.assigned) e in
    let none : has w.pivot (filter (λ l. not (same w.pivot l)) (distinct w.assigned)) ≡ false =
    has_kept (λ l. not (same w.pivot l)) w.pivot (distinct w.assigned) ∙ rw (same_itself w.pivot) refl in
    sym (ap (has w.pivot) is) ∙ none

pub parts_read : (vars : ℕ) (c : List Literal) (w : Option Witness) → IsClause vars c → ((v : Witness) → w ≡ Some v → IsWitness vars c v) → ReadParts (c ++ witness_written w) c w
parts_read vars [] None i f = record { clause = refl; witness = refl; faultless = refl }
parts_read vars [] (Some w) i f = elim (f w refl).pivot [ ]
parts_read vars (p ∷ c) None i f = plain_parts p c i.distinct
parts_read vars (p ∷ c) (Some w) i f =
    let g = f w refl in
    let pivot : w.pivot ≡ p = g.pivot in
    subst (λ q. ReadParts ((p ∷ c) ++ q ∷ (w.assigned ++ maps_written q w.maps)) (p ∷ c) (Some w)) (sym pivot)
    (witness_parts p c w.assigned w.maps w i.distinct
    (subst (λ q. has q w.assigned ≡ false) pivot (lacks_pivot w g.same))
    (subst (λ q. witness_by q w.assigned w.maps ≡ w) pivot g.same)
    (subst (λ q. twice_of (parts_of q w.assigned w.maps) ≡ None) pivot g.once))

-- the numbers of hints
pub number_entries : (ids : ℕ) (ns : List ℕ) (rest : List ℤ) → All (IsNumber ids) ns → Entries ids rest → Entries ids (map pos ns ++ rest)
number_entries ids [] rest a e = e
number_entries ids (n ∷ ns) rest a e = let f = a 0 n (omega arith) in (f.0, f.1, number_entries ids ns rest (λ k d h. a (suc k) d (omega arith)) e)

pub group_entries : (ids : ℕ) (gs : List Group) → All (IsGroup ids) gs → Entries ids (groups_written gs)
group_entries ids [] a = tt
group_entries ids (g ∷ gs) a =
    let f = a 0 g (omega arith) in
    let size : nat_abs (neg_ℤ (pos g.0)) ≡ g.0 = size_of (minus g.0) in
    (omega (arith, f.0), omega (arith, f.0), number_entries ids g.1 (groups_written gs) f.1 (group_entries ids gs (λ k d h. a (suc k) d (omega arith))))

-- hints are read again
prefix_stops : (n : ℕ) (rest : List ℤ) → 0 < n → prefix_of (neg_ℤ (pos n) ∷ rest) ≡ []
prefix_stops zero rest h = absurd (omega arith)
prefix_stops (suc n) rest h = refl

group_begins : (n : ℕ) (rest : List ℤ) → 0 < n → groups_of (neg_ℤ (pos n) ∷ rest) ≡ (n, prefix_of rest) ∷ groups_of rest
group_begins zero rest h = absurd (omega arith)
group_begins (suc n) rest h = ap (λ (k : ℕ). (k, prefix_of rest) ∷ groups_of rest) (omega arith)

prefix_read : (ids : ℕ) (ns : List ℕ) (gs : List Group) → All (IsGroup ids) gs → prefix_of (map pos ns ++ groups_written gs) ≡ ns
prefix_read ids [] [] a = refl
prefix_read ids [] (g ∷ gs) a = prefix_stops g.0 (map pos g.1 ++ groups_written gs) (a 0 g (omega arith)).0.0
prefix_read ids (n ∷ ns) gs a = ap (λ l. n ∷ l) (prefix_read ids ns gs a)

groups_skip : (ns : List ℕ) (rest : List ℤ) → groups_of (map pos ns ++ rest) ≡ groups_of rest
groups_skip [] rest = refl
groups_skip (n ∷ ns) rest = groups_skip ns rest

groups_read : (ids : ℕ) (gs : List Group) → All (IsGroup ids) gs → groups_of (groups_written gs) ≡ gs
groups_read ids [] a = refl
groups_read ids (g ∷ gs) a =
    let more : All (IsGroup ids) gs = λ k d h. a (suc k) d (omega arith) in
    group_begins g.0 (map pos g.1 ++ groups_written gs) (a 0 g (omega arith)).0.0
    ∙ ap (λ l. (g.0, l) ∷ groups_of (map pos g.1 ++ groups_written gs)) (prefix_read ids g.1 gs more)
    ∙ ap (λ l. g ∷ l) (groups_skip g.1 (groups_written gs) ∙ groups_read ids gs more)

-- a step is read again from its numbers
pub step_read : (lim : LimitValues) (s : Step) → IsStep lim s → step_of s.id (s.clause ++ witness_written s.witness) (hints_written s) ≡ s
step_read lim s i =
    let p = parts_read lim.vars s.clause s.witness i.clause i.witness in
    let prefix : prefix_of (hints_written s) ≡ s.prefix = prefix_read lim.ids s.prefix s.groups i.groups in
    let groups : groups_of (hints_written s) ≡ s.groups = groups_skip s.prefix (groups_written s.groups) ∙ groups_read lim.ids s.groups i.groups in
    ap (λ c. record { id = s.id; clause = c; witness = witness_of_literals (s.clause ++ witness_written s.witness); prefix = prefix_of (hints_written s); groups = groups_of (hints_written s) }) p.clause
    ∙ ap (λ w. record { id = s.id; clause = s.clause; witness = w; prefix = prefix_of (hints_written s); groups = groups_of (hints_written s) }) p.witness
    ∙ ap (λ l. record { id = s.id; clause = s.clause; witness = s.witness; prefix = l; groups = groups_of (hints_written s) }) prefix
    ∙ ap (λ l. record { id = s.id; clause = s.clause; witness = s.witness; prefix = s.prefix; groups = l }) groups
