-- Items of a proof by hints that are written are read again.
use Rattle.std.proofs.Common.{◌≡◌, ◌∙◌, ℕ, zero, suc, ◌+◌, ◌-◌, ◌^◌, ◌<◌, ◌≤◌, true, false, refl, sym, ap, subst, List, [], ◌∷◌, ◌++◌, length, map, Option, Some, ℤ, pos, negsuc, arith, append_assoc, length-append}
use Rattle.std.specs.Prelude.{nat_abs, nat_le, ◌==◌, All, codes, decimal}
use Rattle.std.proofs.lemmas.Bool.Decides.{nat_tests}
use Rattle.std.proofs.lemmas.List.{append-nil}
use Rattle.sr_base.specs.Literal.{literal_of}
use Rattle.sr_base.specs.Limits.{LimitValues}
use Rattle.sr_base.specs.Contents.{Ending}
use Rattle.sr_base.specs.declared.names.LimitKind.TheVariants as limit
use Rattle.sr_model.specs.declared.tokens.Word.{Word}
use Rattle.sr_model.specs.declared.tokens.Word.TheVariants as word
use Rattle.sr_model.specs.Meeting.{Step}
use Rattle.sr_model.specs.Judging.{Item, stepped, dropped}
use Rattle.sr_model.specs.Tokens.{Tokens, next}
use Rattle.sr_model.specs.TextTokens.{begins_line, spelled_from}
use Rattle.sr_model.specs.BinaryTokens.{binary_from}
use Rattle.sr_model.specs.Witnesses.{fault_of_literals}
use Rattle.sr_model.specs.Reading.{reads}
use Rattle.sr_model.specs.Lsr.{numbers_after, step_of, judged_step, with_hints, with_literals, kind_at, item_at}
use Rattle.sr_model.specs.LsrBinary.{by_step_number, binary_step_at, binary_item_at}
use Rattle.sr_model.specs.Writing.{number_line, number_list, witness_written, literals_written, hints_written, step_numbers, item_text, item_binary}
use Rattle.sr_model.specs.ReadAgain.{AreLimits, IsNumber, IsStep, IsItem, unnumbered}
use Rattle.sr_model.proofs.TextTokens.{token_first}
use Rattle.sr_model.proofs.BinaryTokens.{binary_begins}
use Rattle.sr_model.proofs.NumberTexts.{one_byte}
use Rattle.sr_model.proofs.NumberStreams.{Begins, Entries, Narrow, numbers_read, dropped_read, text_number, text_begins, zeros, binary_begins_numbers}
use Rattle.sr_model.proofs.PartsWritten.{AreLiterals, literals_back, literal_entries, clause_literals, parts_read, number_entries, group_entries, step_read}

-- numbers within a bound fit a token, and end no list
pub narrow_entries : (bound : ℕ) (xs : List ℤ) → bound < 2 ^ 63 → Entries bound xs → Narrow xs
narrow_entries bound [] h e = tt
narrow_entries bound (x ∷ xs) h e = (omega (arith, e.1), narrow_entries bound xs h e.2)

pub narrow_append : (xs ys : List ℤ) → Narrow xs → Narrow ys → Narrow (xs ++ ys)
narrow_append [] ys a b = b
narrow_append (x ∷ xs) ys a b = (a.0, narrow_append xs ys a.1 b)

pub zeros_skip : (bound : ℕ) (xs ys : List ℤ) → Entries bound xs → zeros (xs ++ ys) ≡ zeros ys
zeros_skip bound [] ys e = refl
zeros_skip bound (pos zero ∷ xs) ys e = absurd (omega (arith, e.0))
zeros_skip bound (pos (suc n) ∷ xs) ys e = zeros_skip bound xs ys e.2
zeros_skip bound (negsuc n ∷ xs) ys e = zeros_skip bound xs ys e.2

pub zeros_none : (bound : ℕ) (xs : List ℤ) → Entries bound xs → zeros xs ≡ 0
zeros_none bound xs e = sym (ap zeros (append-nil xs)) ∙ zeros_skip bound xs [] e

pub number_list_entries : (ids : ℕ) (ns : List ℕ) → All (IsNumber ids) ns → Entries ids (map pos ns)
number_list_entries ids ns a = subst (Entries ids) (append-nil (map pos ns)) (number_entries ids ns [] a tt)

-- the numbers of a step
step_literals : (lim : LimitValues) (s : Step) → IsStep lim s → AreLiterals lim.vars (s.clause ++ witness_written s.witness)
step_literals lim s i = clause_literals lim.vars s.clause s.witness i.clause i.witness

step_literal_entries : (lim : LimitValues) (s : Step) → IsStep lim s → Entries lim.vars (literals_written s.clause s.witness)
step_literal_entries lim s i = literal_entries lim.vars (s.clause ++ witness_written s.witness) (step_literals lim s i)

step_hint_entries : (lim : LimitValues) (s : Step) → IsStep lim s → Entries lim.ids (hints_written s)
step_hint_entries lim s i = number_entries lim.ids s.prefix _ i.prefix (group_entries lim.ids s.groups i.groups)

step_narrow : (lim : LimitValues) (s : Step) → AreLimits lim → IsStep lim s → Narrow (pos s.id ∷ step_numbers s)
step_narrow lim s a i =
    let vars : lim.vars < 2 ^ 63 = omega (arith, a.0) in
    let ids : lim.ids < 2 ^ 63 = omega (arith, a.2) in (
      omega (arith, i.id.1),
      narrow_append (literals_written s.clause s.witness) (pos 0 ∷ hints_written s)
          (narrow_entries lim.vars (literals_written s.clause s.witness) vars (step_literal_entries lim s i))
          (omega arith, narrow_entries lim.ids (hints_written s) ids (step_hint_entries lim s i)),
    )

step_zeros : (lim : LimitValues) (s : Step) → IsStep lim s → zeros (pos s.id ∷ step_numbers s) ≡ 1
step_zeros lim s i =
    zeros_skip lim.ids (pos s.id ∷ []) (step_numbers s) (i.id.0, i.id.1, tt)
    ∙ zeros_skip lim.vars (literals_written s.clause s.witness) (pos 0 ∷ hints_written s) (step_literal_entries lim s i)
    ∙ ap suc (zeros_none lim.ids (hints_written s) (step_hint_entries lim s i))

-- what stands behind the number of a step is read
body_read : (lim : LimitValues) (s : Step) → IsStep lim s → (ts rest : Tokens) → Begins (step_numbers s ++ pos 0 ∷ []) ts rest
    → with_literals lim s.id (numbers_after limit.Vars lim.vars [] ts) ≡ reads (Some (stepped s)) rest
body_read lim s i ts rest b =
    let lits : List ℤ = literals_written s.clause s.witness in
    let split : Begins (lits ++ pos 0 ∷ (hints_written s ++ pos 0 ∷ [])) ts rest = subst (λ l. Begins l ts rest) (append_assoc lits (pos 0 ∷ hints_written s) (pos 0 ∷ [])) b in
    let first = numbers_read limit.Vars lim.vars [] lits (hints_written s ++ pos 0 ∷ []) ts rest (step_literal_entries lim s i) split in
    let second = numbers_read limit.Ids lim.ids [] (hints_written s) [] first.1 rest (step_hint_entries lim s i) first.3 in
    let back : map literal_of lits ≡ s.clause ++ witness_written s.witness = literals_back lim.vars (s.clause ++ witness_written s.witness) (step_literals lim s i) in
    let parts = parts_read lim.vars s.clause s.witness i.clause i.witness in
    ap (with_literals lim s.id) first.2
    ∙ ap (with_hints s.id (map literal_of lits) first.0) second.2
    ∙ ap (λ ls. judged_step (fault_of_literals ls) first.0 (stepped (step_of s.id ls (hints_written s))) second.1) back
    ∙ ap (λ o. judged_step o first.0 (stepped (step_of s.id (s.clause ++ witness_written s.witness) (hints_written s))) second.1) parts.faultless
    ∙ ap (λ (t : Step). reads (Some (stepped t)) second.1) (step_read lim s i)
    ∙ ap (reads (Some (stepped s))) second.3

-- a number stands first behind the number of a step
abbrev pub HasNumber : Tokens → Type 0
HasNumber ts = (place : ℕ) × (x : ℤ) × (rest : Tokens) × (ts ≡ next (record { place = place; word = word.Number x }) rest)

pub number_first : (xs ys : List ℤ) (ts rest : Tokens) → Begins (xs ++ pos 0 ∷ ys) ts rest → HasNumber ts
number_first [] ys ts rest b = (b.0, pos 0, b.1, b.2)
number_first (x ∷ xs) ys ts rest b = (b.0, x, b.1, b.2)

-- a step in text
step_text_read : (lim : LimitValues) (s : Step) → IsStep lim s → (ts rest : Tokens) → Begins ((pos s.id ∷ step_numbers s) ++ pos 0 ∷ []) ts rest → item_at lim ts ≡ reads (Some (stepped s)) rest
unfolding item_at
step_text_read lim s i ts rest b =
    let id_fits : nat_le s.id lim.ids ≡ true = let le : s.id ≤ lim.ids = i.id.1 in grind (arith, nat_tests) in
    let some : (s.id == 0) ≡ false = let lt : 0 < s.id = i.id.0 in grind (arith, nat_tests) in
    let n = number_first (step_numbers s) [] b.1 rest b.3 in
    let kind : kind_at lim s.id b.0 b.1 ≡ with_literals lim s.id (numbers_after limit.Vars lim.vars [] b.1) =
    ap (kind_at lim s.id b.0) n.3 ∙ rw some refl ∙ ap (λ t. with_literals lim s.id (numbers_after limit.Vars lim.vars [] t)) (sym n.3) in
    ap (item_at lim) b.2 ∙ rw id_fits kind ∙ body_read lim s i b.1 rest b.3

-- a step in binary
step_binary_read : (lim : LimitValues) (s : Step) → IsStep lim s → (ts rest : Tokens) → Begins ((pos s.id ∷ step_numbers s) ++ pos 0 ∷ []) ts rest → binary_step_at lim ts ≡ reads (Some (stepped s)) rest
step_binary_read lim s i ts rest b = ap (binary_step_at lim) b.2 ∙ at s.id i.id ∙ body_read lim s i b.1 rest b.3
  where
    at : (n : ℕ) → IsNumber lim.ids n → by_step_number lim (word.Number (pos n)) b.0 b.1 ≡ with_literals lim n (numbers_after limit.Vars lim.vars [] b.1)
    at zero h = absurd (omega (arith, h.0))
    at (suc n) h = let le : suc n ≤ lim.ids = h.1 in let t : nat_le (suc n) lim.ids ≡ true = grind (arith, nat_tests) in rw t refl

-- what is left, by how far it is read
text_left : (ending : Ending) (more : List ℕ) (r q p k : ℕ) → r ≡ q → p ≡ k → spelled_from ending (Some 10) r p more ≡ spelled_from ending (Some 10) q k more
text_left ending more r q p k a b = ap (λ (x : ℕ). spelled_from ending (Some 10) x p more) a ∙ ap (λ (x : ℕ). spelled_from ending (Some 10) q x more) b

pub binary_left : (ending : Ending) (lists : ℕ) (more : List ℕ) (r q p k : ℕ) → r ≡ q → p ≡ k → binary_from ending lists 0 r p more ≡ binary_from ending lists 0 q k more
binary_left ending lists more r q p k a b = ap (λ (x : ℕ). binary_from ending lists 0 x p more) a ∙ ap (λ (x : ℕ). binary_from ending lists 0 q x more) b

-- `d` in text, with the space behind it, and a line of numbers
pub deletion_text : (xs : List ℤ) → Narrow xs → (ending : Ending) (before : Option ℕ) (room place : ℕ) (more : List ℕ) → length (codes "d " ++ number_line xs) ≤ room
    → (mid : Tokens) × (spelled_from ending before room place ((codes "d " ++ number_line xs) ++ more) ≡ next (record { place = place; word = word.Del }) mid)
    × Begins (xs ++ pos 0 ∷ []) mid (spelled_from ending (Some 10) (room - length (codes "d " ++ number_line xs)) (place + length (codes "d " ++ number_line xs)) more)
deletion_text xs n ending before room place more le = (
  spelled_from ending (Some 32) (room - 2) (place + 2) (number_line xs ++ more),
  token_first (100 ∷ []) ending before (one_byte (begins_line before) 100 refl refl) room place 32 (number_line xs ++ more) refl (omega arith),
  subst (Begins (xs ++ pos 0 ∷ []) (spelled_from ending (Some 32) (room - 2) (place + 2) (number_line xs ++ more)))
      (text_left ending more _ _ _ _ (omega arith) (omega arith))
      (text_begins xs n ending (Some 32) (room - 2) (place + 2) more (omega arith)),
)

-- a deletion, behind its number
deletion_text_read : (lim : LimitValues) (id : ℕ) (ids : List ℕ) → AreLimits lim → All (IsNumber lim.ids) ids → (ending : Ending) (before : Option ℕ) (at room place : ℕ) (more : List ℕ) → length (codes "d " ++ number_line (map pos ids)) ≤ room
    → kind_at lim id at (spelled_from ending before room place ((codes "d " ++ number_line (map pos ids)) ++ more))
    ≡ reads (Some (dropped id ids)) (spelled_from ending (Some 10) (room - length (codes "d " ++ number_line (map pos ids))) (place + length (codes "d " ++ number_line (map pos ids))) more)
deletion_text_read lim id ids a all ending before at room place more fits =
    let narrow : Narrow (map pos ids) = narrow_entries lim.ids (map pos ids) (omega (arith, a.2)) (number_list_entries lim.ids ids all) in
    let d = deletion_text (map pos ids) narrow ending before room place more fits in
    ap (kind_at lim id at) d.1 ∙ dropped_read lim.ids id [] ids d.0 _ all d.2

id_read : (lim : LimitValues) (id place : ℕ) (rest : Tokens) → id ≤ lim.ids → item_at lim (next (record { place = place; word = word.Number (pos id) }) rest) ≡ kind_at lim id place rest
unfolding item_at
id_read lim id place rest le = let t : nat_le id lim.ids ≡ true = grind (arith, nat_tests) in rw t refl

dropped_text_read : (lim : LimitValues) (id : ℕ) (ids : List ℕ) → AreLimits lim → id ≤ lim.ids → All (IsNumber lim.ids) ids → (ending : Ending) (before : Option ℕ) (room place : ℕ) (more : List ℕ) → length (item_text (dropped id ids)) ≤ room
    → item_at lim (spelled_from ending before room place (item_text (dropped id ids) ++ more))
    ≡ reads (Some (dropped id ids)) (spelled_from ending (Some 10) (room - length (item_text (dropped id ids))) (place + length (item_text (dropped id ids))) more)
dropped_text_read lim id ids a le all ending before room place more fits = at (codes "d " ++ number_line (map pos ids)) whole (deletion_text_read lim id ids a all ending (Some 32) place)
  where
    whole : item_text (dropped id ids) ≡ decimal id ++ 32 ∷ (codes "d " ++ number_line (map pos ids))
    whole = append_assoc (decimal id) (codes " d ") (number_line (map pos ids))

    at : (line : List ℕ) → item_text (dropped id ids) ≡ decimal id ++ 32 ∷ line
        → ((r p : ℕ) (more : List ℕ) → length line ≤ r → kind_at lim id place (spelled_from ending (Some 32) r p (line ++ more)) ≡ reads (Some (dropped id ids)) (spelled_from ending (Some 10) (r - length line) (p + length line) more))
        → item_at lim (spelled_from ending before room place (item_text (dropped id ids) ++ more))
        ≡ reads (Some (dropped id ids)) (spelled_from ending (Some 10) (room - length (item_text (dropped id ids))) (place + length (item_text (dropped id ids))) more)
    at line e read =
        let narrow : nat_abs (pos id) < 2 ^ 63 = omega (arith, a.2) in
        let size : length (item_text (dropped id ids)) ≡ length (decimal id) + 1 + length line = ap length e ∙ omega (arith, length-append (decimal id) (32 ∷ line)) in
        ap (λ bs. item_at lim (spelled_from ending before room place bs)) (ap (λ l. l ++ more) e ∙ append_assoc (decimal id) (32 ∷ line) more)
        ∙ ap (item_at lim) (text_number (pos id) narrow ending before room place 32 (line ++ more) refl (omega arith))
        ∙ id_read lim id place _ le
        ∙ read (room - (length (decimal id) + 1)) (place + (length (decimal id) + 1)) more (omega arith)
        ∙ ap (reads (Some (dropped id ids))) (text_left ending more _ _ _ _ (omega arith) (omega arith))

pub items_again : (lim : LimitValues) (it : Item) (ending : Ending) (before : Option ℕ) (room place : ℕ) (more : List ℕ) → AreLimits lim → IsItem lim it → length (item_text it) ≤ room
    → item_at lim (spelled_from ending before room place (item_text it ++ more))
    ≡ reads (Some it) (spelled_from ending (Some 10) (room - length (item_text it)) (place + length (item_text it)) more)
items_again lim (stepped s) ending before room place more a i fits = step_text_read lim s i _ _ (text_begins (pos s.id ∷ step_numbers s) (step_narrow lim s a i) ending before room place more fits)
items_again lim (dropped id ids) ending before room place more a i fits = dropped_text_read lim id ids a i.0 i.1 ending before room place more fits

-- a byte of a binary file that begins an item, and its numbers
pub binary_item_begins : (ending : Ending) (lists room place b : ℕ) (xs : List ℤ) (more : List ℕ) → Narrow xs → suc (length (number_list xs)) ≤ room → (w : Word) (o : ℕ)
    → binary_from ending lists 0 room place (b ∷ (number_list xs ++ more)) ≡ next (record { place = place; word = w }) (binary_from ending lists o (room - 1) (place + 1) (number_list xs ++ more))
    → o ≡ suc (zeros xs)
    → (mid : Tokens) × (binary_from ending lists 0 room place (b ∷ (number_list xs ++ more)) ≡ next (record { place = place; word = w }) mid)
    × Begins (xs ++ pos 0 ∷ []) mid (binary_from ending lists 0 (room - suc (length (number_list xs))) (place + suc (length (number_list xs))) more)
binary_item_begins ending lists room place b xs more n fits w o first closed = (
  binary_from ending lists (suc (zeros xs)) (room - 1) (place + 1) (number_list xs ++ more),
  first ∙ ap (λ (k : ℕ). next (record { place = place; word = w }) (binary_from ending lists k (room - 1) (place + 1) (number_list xs ++ more))) closed,
  subst (Begins (xs ++ pos 0 ∷ []) (binary_from ending lists (suc (zeros xs)) (room - 1) (place + 1) (number_list xs ++ more)))
      (binary_left ending lists more _ _ _ _ (omega arith) (omega arith))
      (binary_begins_numbers xs n ending lists (room - 1) (place + 1) more (omega arith)),
)

pub binary_items_again : (lim : LimitValues) (it : Item) (ending : Ending) (room place : ℕ) (more : List ℕ) → AreLimits lim → IsItem lim it → length (item_binary it) ≤ room
    → binary_item_at lim (binary_from ending 2 0 room place (item_binary it ++ more))
    ≡ reads (Some (unnumbered it)) (binary_from ending 2 0 (room - length (item_binary it)) (place + length (item_binary it)) more)
unfolding binary_item_at
binary_items_again lim (stepped s) ending room place more a i fits =
    let xs : List ℤ = pos s.id ∷ step_numbers s in
    let closed : 2 ≡ suc (zeros xs) = omega (arith, step_zeros lim s i) in
    let first = binary_begins ending 2 room place 97 (number_list xs ++ more) (omega arith) in
    let b = binary_item_begins ending 2 room place 97 xs more (step_narrow lim s a i) fits word.Add 2 first closed in
    ap (binary_item_at lim) b.1 ∙ step_binary_read lim s i b.0 _ b.2
binary_items_again lim (dropped id ids) ending room place more a i fits =
    let entries : Entries lim.ids (map pos ids) = number_list_entries lim.ids ids i.1 in
    let narrow : Narrow (map pos ids) = narrow_entries lim.ids (map pos ids) (omega (arith, a.2)) entries in
    let closed : 1 ≡ suc (zeros (map pos ids)) = omega (arith, zeros_none lim.ids (map pos ids) entries) in
    let first = binary_begins ending 2 room place 100 (number_list (map pos ids) ++ more) (omega arith) in
    let b = binary_item_begins ending 2 room place 100 (map pos ids) more narrow fits word.Del 1 first closed in
    ap (binary_item_at lim) b.1 ∙ dropped_read lim.ids 0 [] ids b.0 _ i.1 b.2
