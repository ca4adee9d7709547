-- Lemmas on tables in pages.
use Rattle.std.proofs.Common.{◌≡◌, ◌≢◌, ◌⊎◌, inl, inr, ℕ, suc, zero, ◌+◌, ◌-◌, ◌*◌, ◌/◌, ◌%◌, ◌<◌, ◌≤◌, ◌==◌, Bool, true, false, List, [], ◌++◌, length, get_or, set, replicate, refl, sym, ◌∙◌, ap, subst, arith, get_or-set_same, get_or-set_other}
use Rattle.std.proofs.lemmas.List.{length-replicate, length-append, length-set, get_or_append_left, get_or-append_right, get_or-set_same, get_or-set_other}
use Rattle.std.proofs.lemmas.Bool.Decides.{nat_tests}
use Rattle.std.proofs.lemmas.Bool.{cases_eq}
use Rattle.sr_table.specs.Pages.{paged, SameEntries, Sets, IsPaged}

pub by_test : {P : Type 0} (b : Bool) → (b ≡ true → P) → (b ≡ false → P) → P
by_test true f g = f refl
by_test false f g = g refl

pub by_eq : {P : Type 0} (a b : ℕ) → (a ≡ b → P) → (a ≢ b → P) → P
by_eq {P} a b f g = at (cases_eq a b)
  where
    at : (a ≡ b) ⊎ (a ≡ b → ⊥) → P
    at (inl e) = f e
    at (inr n) = g n

-- where the entry of a number lies
abbrev pub index : List ℕ → ℕ → ℕ
index pages n = get_or pages (n / 4096) 0 * 4096 + n % 4096

pub index_within : (pages entries : List ℕ) (n : ℕ) → IsPaged pages entries → index pages n < length entries
index_within pages entries n h = omega (arith, h.room (n / 4096))

-- zeros are all zero
pub zeros_are_zero : (n r : ℕ) → let zeros : List ℕ = replicate n 0 in get_or zeros r 0 ≡ 0
zeros_are_zero zero r = refl
zeros_are_zero (suc n) zero = refl
zeros_are_zero (suc n) (suc r) = zeros_are_zero n r

-- a table with no pages
pub paged_none : IsPaged [] (replicate 4096 0)
paged_none = let n : length (replicate {A = ℕ} 4096 0) ≡ 4096 = length-replicate {A = ℕ} 4096 0 in record {
  whole = omega arith;
  first = λ r h. zeros_are_zero 4096 r;
  room = λ p. omega arith;
  apart = λ p q e. inl refl;
}

-- the list of pages is lengthened by zeros
pub paged_reach : (pages pages' entries : List ℕ) → IsPaged pages entries → ((p : ℕ) → get_or pages' p 0 ≡ get_or pages p 0) → IsPaged pages' entries
paged_reach pages pages' entries h same = record {
  whole = h.whole;
  first = h.first;
  room = λ p. rw (same p) (h.room p);
  apart = λ p q e. rw (same p) (h.apart p q (sym (same p) ∙ e ∙ same q));
}

pub entry_reach : (pages pages' entries : List ℕ) → ((p : ℕ) → get_or pages' p 0 ≡ get_or pages p 0) → SameEntries (paged pages entries) (paged pages' entries)
entry_reach pages pages' entries same n = ap (λ k. get_or entries (k * 4096 + n % 4096) 0) (same (n / 4096))

-- a page is made at the end
pub entries_stay : (pages entries more : List ℕ) (n : ℕ) → IsPaged pages entries → get_or (entries ++ more) (index pages n) 0 ≡ get_or entries (index pages n) 0
entries_stay pages entries more n h = get_or_append_left entries more 0 (index pages n) (index_within pages entries n h)

pub get_page : (pages : List ℕ) (page made p : ℕ) → page < length pages → ((p ≡ page) × (get_or (set pages page made) p 0 ≡ made)) ⊎ ((p ≢ page) × (get_or (set pages page made) p 0 ≡ get_or pages p 0))
get_page pages page made p h = by_eq p page
    (λ e. inl (e, rw e (get_or-set_same pages page made 0 h)))
    (λ n. inr (n, get_or-set_other pages page p made 0 n))

pub below_made : (pages entries : List ℕ) (p : ℕ) → IsPaged pages entries → get_or pages p 0 < length entries / 4096
below_made pages entries p h = omega (arith, h.room p, h.whole)

pub paged_make : (pages entries : List ℕ) (page made : ℕ) → page < length pages → made ≡ length entries / 4096 → IsPaged pages entries → IsPaged (set pages page made) (entries ++ replicate 4096 0)
paged_make pages entries page made lt is h =
    let long : length (entries ++ replicate 4096 0) ≡ length entries + 4096 = length-append entries (replicate 4096 0) ∙ ap (λ k. length entries + k) (length-replicate {A = ℕ} 4096 0) in
    record {
      whole = omega (arith, h.whole);
      first = λ r small. get_or_append_left entries (replicate 4096 0) 0 r (omega (arith, h.room 0)) ∙ h.first r small;
      room = λ p. room p (get_page pages page made p lt) long;
      apart = λ p q. apart p q (get_page pages page made p lt) (get_page pages page made q lt);
    }
  where
    room : (p : ℕ) → ((p ≡ page) × (get_or (set pages page made) p 0 ≡ made)) ⊎ ((p ≢ page) × (get_or (set pages page made) p 0 ≡ get_or pages p 0))
        → length (entries ++ replicate 4096 0) ≡ length entries + 4096 → get_or (set pages page made) p 0 * 4096 + 4096 ≤ length (entries ++ replicate 4096 0)
    room p (inl x) long = omega (arith, x.1, h.whole)
    room p (inr x) long = omega (arith, x.1, h.room p)

    apart : (p q : ℕ) → ((p ≡ page) × (get_or (set pages page made) p 0 ≡ made)) ⊎ ((p ≢ page) × (get_or (set pages page made) p 0 ≡ get_or pages p 0))
        → ((q ≡ page) × (get_or (set pages page made) q 0 ≡ made)) ⊎ ((q ≢ page) × (get_or (set pages page made) q 0 ≡ get_or pages q 0))
        → get_or (set pages page made) p 0 ≡ get_or (set pages page made) q 0 → (get_or (set pages page made) p 0 ≡ 0) ⊎ (p ≡ q)
    apart p q (inl x) (inl y) e = inr (x.0 ∙ sym y.0)
    apart p q (inl x) (inr y) e = absurd (omega (arith, x.1, y.1, e, below_made pages entries q h))
    apart p q (inr x) (inl y) e = absurd (omega (arith, x.1, y.1, e, below_made pages entries p h))
    apart p q (inr x) (inr y) e = rw x.1 (h.apart p q (sym x.1 ∙ e ∙ y.1))

pub entry_make : (pages entries : List ℕ) (page made : ℕ) → page < length pages → made ≡ length entries / 4096 → get_or pages page 0 ≡ 0 → IsPaged pages entries → SameEntries (paged pages entries) (paged (set pages page made) (entries ++ replicate 4096 0))
entry_make pages entries page made lt is none h n = at (get_page pages page made (n / 4096) lt)
  where
    at : ((n / 4096 ≡ page) × (get_or (set pages page made) (n / 4096) 0 ≡ made)) ⊎ ((n / 4096 ≢ page) × (get_or (set pages page made) (n / 4096) 0 ≡ get_or pages (n / 4096) 0))
        → get_or (entries ++ replicate 4096 0) (index (set pages page made) n) 0 ≡ get_or entries (index pages n) 0
    at (inl x) =
        let past : get_or (entries ++ replicate 4096 0) (made * 4096 + n % 4096) 0 ≡ get_or (replicate 4096 0) (made * 4096 + n % 4096 - length entries) 0 = get_or-append_right entries (replicate 4096 0) (length entries) (made * 4096 + n % 4096) 0 refl (omega (arith, h.whole)) in
        let zero_page : get_or pages (n / 4096) 0 ≡ 0 = ap (λ p. get_or pages p 0) x.0 ∙ none in
        ap (λ k. get_or (entries ++ replicate 4096 0) (k * 4096 + n % 4096) 0) x.1 ∙ past ∙ zeros_are_zero 4096 (made * 4096 + n % 4096 - length entries)
        ∙ sym (ap (λ k. get_or entries (k * 4096 + n % 4096) 0) zero_page ∙ ap (λ k. get_or entries k 0) (omega arith) ∙ h.first (n % 4096) (omega arith))
    at (inr x) = ap (λ k. get_or (entries ++ replicate 4096 0) (k * 4096 + n % 4096) 0) x.1 ∙ entries_stay pages entries (replicate 4096 0) n h

-- an entry is set in a page that isn't the one of zeros
pub paged_set : (pages entries : List ℕ) (n v : ℕ) → get_or pages (n / 4096) 0 ≢ 0 → IsPaged pages entries → IsPaged pages (set entries (index pages n) v)
paged_set pages entries n v some h =
    let long : length (set entries (index pages n) v) ≡ length entries = length-set entries (index pages n) v in
    record {
      whole = omega (arith, h.whole);
      first = λ r small. get_or-set_other entries (index pages n) r v 0 (λ e. omega arith) ∙ h.first r small;
      room = λ p. omega (arith, h.room p);
      apart = h.apart;
    }

pub other_index : (pages entries : List ℕ) (n m : ℕ) → get_or pages (n / 4096) 0 ≢ 0 → n ≢ m → IsPaged pages entries → index pages m ≢ index pages n
other_index pages entries n m some ne h e =
    let pages_same : get_or pages (n / 4096) 0 ≡ get_or pages (m / 4096) 0 = omega arith in
    at pages_same (h.apart (n / 4096) (m / 4096) pages_same)
  where
    at : get_or pages (n / 4096) 0 ≡ get_or pages (m / 4096) 0 → (get_or pages (n / 4096) 0 ≡ 0) ⊎ (n / 4096 ≡ m / 4096) → ⊥
    at s (inl z) = some z
    at s (inr p) = ne (omega arith)

pub entry_set : (pages entries : List ℕ) (n v : ℕ) → get_or pages (n / 4096) 0 ≢ 0 → IsPaged pages entries
    → Sets (paged pages entries) (paged pages (set entries (index pages n) v)) n v
entry_set pages entries n v some h m = by_eq n m
    (λ e. let t : (n == m) ≡ true = grind (arith, nat_tests) in rw t (subst (λ k. get_or (set entries (index pages n) v) (index pages k) 0 ≡ v) e (get_or-set_same entries (index pages n) v 0 (index_within pages entries n h))))
    (λ ne. let f : (n == m) ≡ false = grind (arith, nat_tests) in rw f (get_or-set_other entries (index pages n) (index pages m) v 0 (other_index pages entries n m some ne h)))

-- what is set lies in a page of its own
pub set_open : (pages entries : List ℕ) (n : ℕ) → IsPaged pages entries → (get_or entries (index pages n) 0 ≡ 0 → ⊥) → get_or pages (n / 4096) 0 ≡ 0 → ⊥
set_open pages entries n h some z =
    some (ap (λ k. get_or entries (k * 4096 + n % 4096) 0) z ∙ ap (λ k. get_or entries k 0) (omega arith) ∙ h.first (n % 4096) (omega arith))
