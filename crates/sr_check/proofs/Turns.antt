-- Lemmas on numbers that are dropped one after another.
use Rattle.std.proofs.Common.{◌≡◌, ◌≢◌, ◌⊎◌, inl, inr, ℕ, ◌+◌, ◌<◌, ◌≤◌, ◌==◌, Bool, true, false, not, ◌||◌, ◌&&◌, cond, List, [], ◌∷◌, ◌++◌, Some, None, length, get_or, take, drop, refl, sym, ◌∙◌, ap, arith}
use Rattle.std.specs.Prelude.{slice_get}
use Rattle.std.proofs.lemmas.List.{take_more, drop_more, drop_all}
use Rattle.std.proofs.lemmas.Option.{slice_get-get_or, slice_get_past}
use Rattle.sr_model.specs.Assignment.{holds_number}
use Rattle.sr_model.specs.Chain.{Numbered, clause_of}
use Rattle.sr_model.specs.Judging.{without, first_dead}
use Rattle.sr_arena.specs.Cells.{Cell, Memory, cell_at, put}
use Rattle.sr_table.specs.Pages.{Paged, entry}
use Rattle.sr_check.specs.Storage.{clause_at, IsLinked, IsMarked}
use Rattle.sr_table.proofs.Paging.{by_eq}
use Rattle.sr_table.proofs.Paging.{by_test}
use Rattle.sr_table.proofs.Numbering.{holds_push}
use Rattle.sr_check.proofs.Dropping.{without_push, without_none}
use Rattle.sr_check.proofs.Finding.{is_not, is_same, is_self}
use Rattle.sr_check.proofs.Storing.{alone, clause_some, cell_here, cell_other}

-- what is found where numbers were dropped
pub clause_without : (ns : List ℕ) (live : Numbered) (n : ℕ) → clause_of (without ns live) n ≡ cond (holds_number n ns) None (clause_of live n)
clause_without ns [] n = by_test (holds_number n ns) (λ t. rw t refl) (λ t. rw t refl)
clause_without ns (p ∷ ps) n =
    let rest : clause_of (without ns ps) n ≡ cond (holds_number n ns) None (clause_of ps n) = clause_without ns ps n in
    by_test (p.0 == n)
    (λ t. by_test (holds_number n ns)
    (λ h. let here : holds_number p.0 ns ≡ true = ap (λ k. holds_number k ns) (is_same p.0 n t) ∙ h in rw (here, h) (rest ∙ rw h refl))
    (λ h. let here : holds_number p.0 ns ≡ false = ap (λ k. holds_number k ns) (is_same p.0 n t) ∙ h in rw (here, h, t) refl))
    (λ t. by_test (holds_number p.0 ns)
    (λ h. rw (h, t) rest)
    (λ h. rw (h, t) rest))

-- one more number
pub holds_more : (ns : List ℕ) (i k n : ℕ) → i < length ns → k ≡ get_or ns i 0 → holds_number n (take (i + 1) ns) ≡ (holds_number n (take i ns) || (k == n))
holds_more ns i k n h is = ap (holds_number n) (take_more ns i 0 h ∙ ap (λ x. take i ns ++ x ∷ []) (sym is)) ∙ holds_push n k (take i ns)

-- the numbers up to here are live in turn
abbrev pub AreLiveTo : Memory → Paged → List ℕ → ℕ → Type 0
AreLiveTo mem table ns i = (live : Numbered) → ((n : ℕ) → clause_of live n ≡ clause_at mem table n) → first_dead live ns ≡ first_dead (without (take i ns) live) (drop i ns)

pub live_none : (mem : Memory) (table : Paged) (ns : List ℕ) → AreLiveTo mem table ns 0
live_none mem table ns live agrees = ap (λ x. first_dead x ns) (without_none live)

pub live_more : (mem : Memory) (table : Paged) (ns : List ℕ) (i n : ℕ) → i < length ns → n ≡ get_or ns i 0 → entry table n ≢ 0 → holds_number n (take i ns) ≡ false → AreLiveTo mem table ns i → AreLiveTo mem table ns (i + 1)
live_more mem table ns i n h is leads out so_far live agrees =
    let split : drop i ns ≡ n ∷ drop (i + 1) ns = drop_more ns i 0 h ∙ ap (λ x. x ∷ drop (i + 1) ns) (sym is) in
    let more : take (i + 1) ns ≡ take i ns ++ n ∷ [] = take_more ns i 0 h ∙ ap (λ x. take i ns ++ x ∷ []) (sym is) in
    let here : clause_of (without (take i ns) live) n ≡ Some (cell_at mem (entry table n)).lits = clause_without (take i ns) live n ∙ rw out (agrees n ∙ clause_some mem table n leads) in
    so_far live agrees ∙ ap (first_dead (without (take i ns) live)) split ∙ rw (here, first_dead) (ap (λ x. first_dead x (drop (i + 1) ns)) (sym (without_push (take i ns) n live) ∙ ap (λ x. without x live) (sym more)))

pub live_stops : (mem : Memory) (table : Paged) (ns : List ℕ) (i n : ℕ) → i < length ns → n ≡ get_or ns i 0 → AreLiveTo mem table ns i → (clause_at mem table n ≡ None) ⊎ (holds_number n (take i ns) ≡ true)
    → (live : Numbered) → ((m : ℕ) → clause_of live m ≡ clause_at mem table m) → first_dead live ns ≡ slice_get ns i
live_stops mem table ns i n h is so_far why live agrees =
    let split : drop i ns ≡ n ∷ drop (i + 1) ns = drop_more ns i 0 h ∙ ap (λ x. x ∷ drop (i + 1) ns) (sym is) in
    so_far live agrees ∙ ap (first_dead (without (take i ns) live)) split ∙ rw (gone why, first_dead) (ap Some is ∙ sym (slice_get-get_or ns i 0 h))
  where
    gone : (clause_at mem table n ≡ None) ⊎ (holds_number n (take i ns) ≡ true) → clause_of (without (take i ns) live) n ≡ None
    gone (inl e) = clause_without (take i ns) live n ∙ by_test (holds_number n (take i ns)) (λ t. rw t refl) (λ t. rw t (agrees n ∙ e))
    gone (inr e) = clause_without (take i ns) live n ∙ rw e refl

pub live_all : (mem : Memory) (table : Paged) (ns : List ℕ) (i : ℕ) → length ns ≤ i → AreLiveTo mem table ns i → (live : Numbered) → ((m : ℕ) → clause_of live m ≡ clause_at mem table m) → first_dead live ns ≡ slice_get ns (length ns)
live_all mem table ns i h so_far live agrees = so_far live agrees ∙ ap (first_dead (without (take i ns) live)) (drop_all i ns h) ∙ sym (slice_get_past ns (length ns) (omega arith))

-- the clause of a number is marked, or its mark is taken away
pub marked_put : (mem mem' : Memory) (table : Paged) (k n : ℕ) (b : Bool) → IsLinked mem table → entry table k ≢ 0 → entry table n ≢ 0 → mem' ≡ put mem (entry table k) (record (cell_at mem (entry table k)) { marked = b })
    → IsMarked mem' table n (cond (k == n) b (cell_at mem (entry table n)).marked)
marked_put mem mem' table k n b s leads some e = ap (λ m. (cell_at m (entry table n)).marked) e ∙ by_eq k n
    (λ q. rw (is_self k n q) (ap (λ (x : Cell). x.marked) (cell_here mem (entry table k) (entry table n) c (s.leads k leads) (ap (entry table) (sym q)))))
    (λ q. rw (is_not k n q) (ap (λ (x : Cell). x.marked) (cell_other mem (entry table k) (entry table n) c (λ z. q (alone mem table k n s leads (sym z))))))
  where
    c : Cell
    c = record (cell_at mem (entry table k)) { marked = b }

-- marks of the numbers up to here
pub marks_more : (mem mem' : Memory) (table : Paged) (ns : List ℕ) (i k n : ℕ) → i < length ns → k ≡ get_or ns i 0 → IsLinked mem table → entry table k ≢ 0 → entry table n ≢ 0 → mem' ≡ put mem (entry table k) (record (cell_at mem (entry table k)) { marked = true })
    → IsMarked mem table n (holds_number n (take i ns)) → IsMarked mem' table n (holds_number n (take (i + 1) ns))
marks_more mem mem' table ns i k n h is s leads some e m =
    marked_put mem mem' table k n true s leads some e
    ∙ by_test (k == n)
    (λ t. rw t (sym (holds_more ns i k n h is ∙ grind (arith, t))))
    (λ t. rw t (m ∙ sym (holds_more ns i k n h is ∙ grind (arith, t))))

-- marks that are taken away
pub unmarked_more : (mem mem' : Memory) (table : Paged) (ns : List ℕ) (i k n : ℕ) (b : Bool) → i < length ns → k ≡ get_or ns i 0 → IsLinked mem table → entry table k ≢ 0 → entry table n ≢ 0 → mem' ≡ put mem (entry table k) (record (cell_at mem (entry table k)) { marked = false })
    → IsMarked mem table n (b && not (holds_number n (take i ns))) → IsMarked mem' table n (b && not (holds_number n (take (i + 1) ns)))
unmarked_more mem mem' table ns i k n b h is s leads some e m =
    let more : holds_number n (take (i + 1) ns) ≡ (holds_number n (take i ns) || (k == n)) = holds_more ns i k n h is in
    marked_put mem mem' table k n false s leads some e
    ∙ by_test (k == n)
    (λ t. rw t (sym (grind (arith, t, more))))
    (λ t. rw t (m ∙ grind (arith, t, more)))

pub unmarked_passed : (mem : Memory) (table : Paged) (ns : List ℕ) (i k n : ℕ) (b : Bool) → i < length ns → k ≡ get_or ns i 0 → entry table k ≡ 0 → entry table n ≢ 0
    → IsMarked mem table n (b && not (holds_number n (take i ns))) → IsMarked mem table n (b && not (holds_number n (take (i + 1) ns)))
unmarked_passed mem table ns i k n b h is none some m =
    let more : holds_number n (take (i + 1) ns) ≡ (holds_number n (take i ns) || (k == n)) = holds_more ns i k n h is in
    let other : (k == n) ≡ false = is_not k n (λ q. some (ap (entry table) (sym q) ∙ none)) in
    m ∙ grind (arith, other, more)
