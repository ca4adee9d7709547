-- Facts on tokens that stand whole in some bytes.
use Rattle.std.proofs.Common.{◌≡◌, ◌∙◌, ℕ, ◌+◌, ◌-◌, ◌*◌, ◌<◌, ◌≤◌, ◌≢◌, ◌^◌, zero, suc, Ok, Bool, true, false, refl, sym, ap, subst, List, [], ◌∷◌, ◌++◌, length, length-take, take, drop, length-drop, get_or, ◌==◌, arith}
use Rattle.std.specs.List.{list_all}
use Rattle.std.proofs.lemmas.List.{take_more, take_rest}
use Rattle.std.proofs.Math.Nat.{pow-suc, pow-le-pow_right}
use Rattle.std.proofs.Math.Seq.{take-length, take-add}
use Rattle.std.proofs.lemmas.List.Folds.{list_all_more, list_all-append}
use Rattle.std.proofs.lemmas.Bool.Decides.{nat_tests}
use Rattle.sr_desk.proofs.BufferLemmas.{drop-drop}
use Rattle.sr_model.specs.Words.{is_white, is_digit, value_after, signed, number_word, number_by, said_by}
use Rattle.sr_model.specs.declared.tokens.Word.TheVariants as word
use Rattle.sr_scan.specs.Front.{is_dark, ends_at, Leads, LeadsNumber}

pub value-push : (n : ℕ) (xs : List ℕ) (b : ℕ) → value_after n (xs ++ b ∷ []) ≡ 10 * value_after n xs + (b - 48)
value-push n [] b = refl
value-push n (x ∷ xs) b = value-push (10 * n + (x - 48)) xs b

-- one more digit
pub value-more : (xs : List ℕ) (i d : ℕ) → i < length xs → value_after 0 (take (i + 1) xs) ≡ 10 * value_after 0 (take i xs) + (get_or xs i d - 48)
value-more xs i d lt = rw (take_more xs i d lt) (value-push 0 (take i xs) (get_or xs i d))

-- one more digit of a run
pub digits_more : (bytes : List ℕ) (i d : ℕ) → i < length bytes → list_all is_digit (take i bytes) ≡ true → is_digit (get_or bytes i d) ≡ true → list_all is_digit (take (i + 1) bytes) ≡ true
digits_more bytes i d lt h e = list_all_more is_digit bytes i d lt ∙ rw (h, e) refl

digit-dark : (b : ℕ) → is_digit b ≡ true → is_dark b ≡ true
digit-dark b h = grind (arith, nat_tests)

pub digits-dark : (ds : List ℕ) → list_all is_digit ds ≡ true → list_all is_dark ds ≡ true
digits-dark [] h = refl
digits-dark (d ∷ ds) h = go (is_digit d) refl (digits-dark ds)
  where
    go : (t : Bool) → is_digit d ≡ t → (list_all is_digit ds ≡ true → list_all is_dark ds ≡ true) → list_all is_dark (d ∷ ds) ≡ true
    go true t again = let rest : list_all is_digit ds ≡ true = rw t at h in rw (digit-dark d t) (again rest)
    go false t again = let bad = rw t at h in cc

-- a value of digits that fits is a number
pub number-fits : (negative : Bool) (ds : List ℕ) (size : ℕ) → 0 < length ds → list_all is_digit ds ≡ true → size ≡ value_after 0 ds → size < 2 ^ 63 → (negative ≡ true → 0 < size)
    → number_by negative ds ≡ Ok (word.Number (signed negative size))
number-fits negative [] size some h e lt pos = absurd (omega arith)
number-fits negative (d ∷ ds) size some h e lt pos = rw h (rw (← e) (fits negative pos))
  where
    fits : (negative : Bool) → (negative ≡ true → 0 < size) → number_word negative size ≡ Ok (word.Number (signed negative size))
    fits true p = let some : 0 < size = p refl in grind (arith, nat_tests)
    fits false p = grind (arith, nat_tests)

record Ends (bytes : List ℕ) (at : ℕ) : Type 0 where
  within : at < length bytes
  white : is_white (get_or bytes at 0) ≡ true

ends : (bytes : List ℕ) (at : ℕ) → ends_at bytes at ≡ true → Ends bytes at
ends bytes at h = record { within = grind (arith, nat_tests); white = grind (arith, nat_tests) }

-- digits that a white byte ends
pub leads_positive : (bytes : List ℕ) (len size : ℕ) → len ≢ 0 → len ≤ length bytes → list_all is_digit (take len bytes) ≡ true → size ≡ value_after 0 (take len bytes) → size < 2 ^ 63
    → ends_at bytes len ≡ true → Leads bytes len (word.Number (signed false size))
leads_positive [] zero size some le h e lt end = absurd (some refl)
leads_positive [] (suc k) size some le h e lt end = absurd (omega arith)
leads_positive (b ∷ bs) zero size some le h e lt end = absurd (some refl)
leads_positive (b ∷ bs) (suc k) size some le h e lt end =
    let ended = ends (b ∷ bs) (suc k) end in
    let digit : is_digit b ≡ true = first (is_digit b) refl in
    let no_sign : (b == 45) ≡ false = grind (arith, nat_tests) in
    let says : said_by (b ∷ take k bs) ≡ number_by false (b ∷ take k bs) = rw (no_sign, digit) refl in
    record {
      some = omega arith;
      within = ended.within;
      dark = digits-dark (b ∷ take k bs) h;
      white = ended.white;
      first = λ c. grind (arith, nat_tests);
      word = refl;
      says = says ∙ number-fits false (b ∷ take k bs) size (omega arith) h e lt (λ x. cc);
    }
  where
    first : (t : Bool) → is_digit b ≡ t → is_digit b ≡ true
    first true t = t
    first false t = let bad = rw t at h in cc

-- a sign, and digits that a white byte ends
pub leads_negative : (bs : List ℕ) (len size : ℕ) → len ≤ length bs → list_all is_digit (take len bs) ≡ true → size ≡ value_after 0 (take len bs) → size < 2 ^ 63 → 0 < size
    → ends_at (45 ∷ bs) (len + 1) ≡ true → Leads (45 ∷ bs) (len + 1) (word.Number (signed true size))
leads_negative bs len size le h e lt some end =
    let ended = ends (45 ∷ bs) (len + 1) end in
    let next : len + 1 ≡ suc len = omega arith in
    let front : take (len + 1) (45 ∷ bs) ≡ 45 ∷ take len bs = rw next refl in
    record {
      some = omega arith;
      within = ended.within;
      dark = rw front (digits-dark (take len bs) h);
      white = ended.white;
      first = λ c. absurd (omega arith);
      word = refl;
      says = rw front (number-fits true (take len bs) size (filled len refl) h e lt (λ x. some));
    }
  where
    filled : (k : ℕ) → len ≡ k → 0 < length (take len bs)
    filled zero z = absurd (let none : size ≡ 0 = e ∙ rw z refl in omega arith)
    filled (suc k) z = simp length-take (omega arith)

-- so many digits stay below a power of ten
pub ten_times : (len size d : ℕ) → size < 10 ^ len → d ≤ 9 → 10 * size + d < 10 ^ (len + 1)
ten_times len size d small low =
    let next : len + 1 ≡ suc len = omega arith in
    let power : 10 ^ (len + 1) ≡ 10 ^ len * 10 = ap (λ (n : ℕ). 10 ^ n) next ∙ pow-suc 10 len in
    omega (arith, power, small, low)

pub below_wide : (len size : ℕ) → len ≤ 10 → size < 10 ^ len → size < 2 ^ 63
below_wide len size few small =
    let most : 10 ^ len ≤ 10 ^ 10 = let some : 0 < 10 = omega arith in pow-le-pow_right some few in
    omega (arith, most, small)

pub digit-below : (b : ℕ) → is_digit b ≡ true → b ≤ 57
digit-below b h = grind (arith, nat_tests)

-- some bytes, by the first of them
first-rest : (bytes : List ℕ) (b : ℕ) → 0 < length bytes → get_or bytes 0 0 ≡ b → bytes ≡ b ∷ take (length bytes - 1) (drop 1 bytes)
first-rest [] b some e = absurd (omega arith)
first-rest (x ∷ xs) b some e = let same : suc (length xs) - 1 ≡ length xs = omega arith in rw (e, same, take-length xs) refl

-- the same, where the bytes behind the sign are a slice
pub leads_signed : (bytes : List ℕ) (len size : ℕ) → 0 < length bytes → get_or bytes 0 0 ≡ 45
    → (let bs = take (length bytes - 1) (drop 1 bytes) in len ≤ length bs) → (let bs = take (length bytes - 1) (drop 1 bytes) in list_all is_digit (take len bs) ≡ true)
    → (let bs = take (length bytes - 1) (drop 1 bytes) in size ≡ value_after 0 (take len bs)) → size < 2 ^ 63 → size ≢ 0
    → ends_at bytes (len + 1) ≡ true → Leads bytes (len + 1) (word.Number (signed true size))
leads_signed bytes len size some sign le h e lt ne end =
    let bs : List ℕ = take (length bytes - 1) (drop 1 bytes) in
    let split : bytes ≡ 45 ∷ bs = first-rest bytes 45 some sign in
    subst (λ (b : List ℕ). ends_at b (len + 1) ≡ true → Leads b (len + 1) (word.Number (signed true size))) (sym split) (leads_negative bs len size le h e lt (omega (arith, ne))) end

-- a number at the front, with no white space before it
pub leads_number : (bytes : List ℕ) (digits len size : ℕ) (negative : Bool) → Leads bytes digits (word.Number (signed negative size)) → len ≡ digits + 1 → size < 2 ^ 63 → LeadsNumber bytes len size negative
leads_number bytes digits len size negative leads len_is small =
    let inside : digits < length bytes = leads.within in
    record {
      start = 0;
      digits = digits;
      blank = refl;
      leads = leads;
      len_is = omega (arith, len_is);
      within = omega (arith, len_is, inside);
      small = small;
    }

-- and behind some
pub leads_behind : (bytes : List ℕ) (start len size : ℕ) (negative : Bool) → start ≤ length bytes → list_all is_white (take start bytes) ≡ true
    → LeadsNumber (take (length bytes - start) (drop start bytes)) len size negative → LeadsNumber bytes (start + len) size negative
leads_behind bytes start len size negative le blank number = behind (rw take_rest at number)
  where
    behind : LeadsNumber (drop start bytes) len size negative → LeadsNumber bytes (start + len) size negative
    behind n = record {
      start = start + n.start;
      digits = n.digits;
      blank = rw (take-add start n.start bytes, list_all-append is_white (take start bytes) (take n.start (drop start bytes)), blank, n.blank) refl;
      leads = rw (drop-drop start n.start bytes) at n.leads;
      len_is = omega (arith, n.len_is);
      within = omega (arith, simp length-drop at n.within);
      small = n.small;
    }
