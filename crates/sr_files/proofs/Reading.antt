-- What a reader gives that begins a file, and what a file gives that couldn't be begun.
use Rattle.std.proofs.Common.{◌≡◌, ◌≢◌, ◌∙◌, ◌⊎◌, inl, inr, ◌-◌, ◌≤◌, ◌<◌, ℕ, true, List, [], ◌++◌, Option, Some, None, Ok, Err, refl, sym, ap, subst, arith}
use Rattle.std.specs.Prelude.{nat_le, Result}
use Rattle.std.proofs.lemmas.Bool.Decides.{nat_tests}
use Rattle.sr_base.specs.Limits.{LimitValues}
use Rattle.sr_base.specs.Contents as contents
use Rattle.sr_base.specs.Contents.{Contents, Ending, failed, whole}
use Rattle.sr_base.specs.declared.names.InputError.{InputError}
use Rattle.sr_base.specs.declared.names.InputError.TheVariants as fault
use Rattle.sr_model.specs.Tokens.{Tokens, lost}
use Rattle.sr_model.specs.Reading.{Read}
use Rattle.sr_model.specs.TextTokens.{spelled, spelled_from}
use Rattle.sr_model.specs.BinaryTokens.{spelled_binary, binary_from}
use Rattle.sr_model.specs.Dimacs.{formula_at}
use Rattle.sr_desk.specs.Outside.{Outside, SlotState, Agrees, Rose, OnlyReads, source}
use Rattle.sr_desk.specs.Reader.{Reader}
use Rattle.sr_scan.specs.Left.{text_left, Gives, Refuses, is_source}
use Rattle.sr_files.specs.Files.{fresh, IsOnlyRead, ReadsSlots, Opened, GivesFile, IsUnread, IsCallFault, ReadsFront}

pub later_rose : (a b c : ℕ) → a ≤ b → Rose b c → Rose a c
later_rose a b c le r = omega arith

pub same_or_not : (k n : ℕ) → (k ≡ n) ⊎ (k ≢ n)
same_or_not k n = grind (arith, nat_tests)

-- a slot that is read on
pub only_read_on : {a b c : SlotState} → IsOnlyRead a b → c ≡ record b { given = c.given; ending = c.ending; left = c.left; faults = c.faults } → IsOnlyRead a c
only_read_on {a} {b} {c} r e = record {
  writes = ap (λ (s : SlotState). s.writes) e ∙ r.writes;
  sent = ap (λ (s : SlotState). s.sent) e ∙ r.sent;
  written = ap (λ (s : SlotState). s.written) e ∙ r.written;
  finished = ap (λ (s : SlotState). s.finished) e ∙ r.finished;
  writes_to = ap (λ (s : SlotState). s.writes_to) e ∙ r.writes_to;
}

-- what was begun is then only read
pub reads_on : (n m : ℕ) (o0 o1 o2 : Outside) → ReadsSlots m o0 o1 → OnlyReads n o1 o2 → o0.begun ≤ n → n < m → ReadsSlots m o0 o2
reads_on n m o0 o1 o2 r only low high = record {
  begun = only.begun ∙ r.begun;
  file = only.file ∙ r.file;
  others = λ k le. only.elsewhere k (λ e. omega arith) ∙ r.others k le;
  before = λ k lt. only.elsewhere k (λ e. omega arith) ∙ r.before k lt;
  only = λ k. at k (same_or_not k n);
  later = λ k. after k (same_or_not k n);
}
  where
    at : (k : ℕ) → (k ≡ n) ⊎ (k ≢ n) → IsOnlyRead (o0.slot k) (o2.slot k)
    at k (inl e) = rw e (only_read_on (r.only n) only.slot)
    at k (inr ne) = subst (λ s. IsOnlyRead (o0.slot k) s) (sym (only.elsewhere k ne)) (r.only k)

    after : (k : ℕ) → (k ≡ n) ⊎ (k ≢ n) → (o0.slot k).faults ≤ (o2.slot k).faults
    after k (inl e) = rw e (omega (arith, only.later, r.later n))
    after k (inr ne) = rw (only.elsewhere k ne) (r.later k)

pub opened_on : (n : ℕ) (name : List ℕ) (o0 o1 o2 : Outside) → Opened n name o0 o1 → OnlyReads n o1 o2 → Opened n name o0 o2
opened_on n name o0 o1 o2 h only = record { named = ap (λ (s : SlotState). s.reads_from) only.slot ∙ h.named; known = λ bytes e. only.source bytes (h.known bytes e); ended = only.ended h.ended }

-- what is known of a slot is what it gives
pub opened_gives : (n : ℕ) (name : List ℕ) (o0 o1 : Outside) → Opened n name o0 o1 → GivesFile n name o0 o1
opened_gives n name o0 o1 h = record {
  named = h.named;
  known = λ bytes ne e. h.known bytes e;
  agrees = λ bytes ne e. at bytes (o1.slot n).left refl (o1.slot n).ending refl ne e;
}
  where
    at : (bytes : List ℕ) (left : Option (List ℕ)) → (o1.slot n).left ≡ left → (ending : Option Ending) → (o1.slot n).ending ≡ ending
        → (o1.slot n).ending ≢ Some contents.failed → source (o1.slot n) ≡ Some bytes → Agrees (o1.slot n) (whole bytes)
    at bytes None l ending s ne e = let bad : None ≡ Some bytes = rw l at e in cc
    at bytes (Some left) l None s ne e = let now : Some ((o1.slot n).given ++ left) ≡ Some bytes = rw l at e in record { more = left; bytes = sym (cc now); ending = rw s tt }
    at bytes (Some left) l (Some contents.ended) s ne e =
        let now : Some ((o1.slot n).given ++ left) ≡ Some bytes = rw l at e in record { more = left; bytes = sym (cc now); ending = rw s (h.ended s left l, refl) }
    at bytes (Some left) l (Some contents.failed) s ne e = absurd (ne s)

-- of a slot that couldn't be begun nothing but its name is said
pub unread_gives : (n : ℕ) (name : List ℕ) (o0 o1 : Outside) → (o1.slot n).reads_from ≡ Some name → (o1.slot n).ending ≡ Some contents.failed → GivesFile n name o0 o1
unread_gives n name o0 o1 named s = record { named = named; known = λ bytes ne e. absurd (ne s); agrees = λ bytes ne e. absurd (ne s) }

-- contents that agree with a slot that couldn't be begun
pub unread_agrees : (s : SlotState) (c : Contents) → IsUnread s → Agrees s c → (c.bytes ≡ []) × (c.ending ≡ contents.failed)
unread_agrees s c u a =
    let end = rw u.1 at a.ending in
    let bytes : c.bytes ≡ s.given ++ a.more = a.bytes in
    (bytes ∙ rw (u.0, end.0) refl, end.1)

pub fresh_text : (slot limit : ℕ) (c : Contents) → text_left (fresh slot limit) c ≡ spelled limit c
fresh_text slot limit c = let all : limit - 0 ≡ limit = omega arith in rw all refl

-- what is read from the start of a file is what the file spells
pub reads_front : {A : Type 0} (read : Tokens → Read A) (r : Reader) (slot limit : ℕ) (c : Contents) (left : Tokens) (result : Result A InputError) → r ≡ fresh slot limit
    → Gives (read (text_left r c)) left result → ReadsFront (read (spelled limit c)) result
reads_front {A} read r slot limit c left result is h = at result (subst (λ (ts : Tokens). Gives (read ts) left result) (ap (λ (x : Reader). text_left x c) is ∙ fresh_text slot limit c) h)
  where
    at : (x : Result A InputError) → Gives (read (spelled limit c)) left x → ReadsFront (read (spelled limit c)) x
    at (Ok x) g = (left, g)
    at (Err e) g = g

no_text : (limit : ℕ) → spelled_from failed None limit 0 [] ≡ lost
unfolding spelled_from
no_text limit = let small : nat_le 0 limit ≡ true = grind (arith, nat_tests) in rw small refl

no_bytes : (limit : ℕ) → binary_from failed 2 0 limit 0 [] ≡ lost
unfolding binary_from
no_bytes limit = let small : nat_le 0 limit ≡ true = grind (arith, nat_tests) in rw small refl

pub unread_text : (limit : ℕ) (s : SlotState) (c : Contents) → IsUnread s → Agrees s c → spelled limit c ≡ lost
unread_text limit s c u a = let is = unread_agrees s c u a in rw (is.0, is.1) (no_text limit)

pub unread_bytes : (limit : ℕ) (s : SlotState) (c : Contents) → IsUnread s → Agrees s c → spelled_binary 2 limit c ≡ lost
unread_bytes limit s c u a = let is = unread_agrees s c u a in rw (is.0, is.1) (no_bytes limit)

-- a formula whose file couldn't be begun
pub unread_formula : (lim : LimitValues) (s : SlotState) (c : Contents) (e : InputError) → IsCallFault e → (is_source e ≡ true → IsUnread s) → Agrees s c
    → Refuses (formula_at lim (spelled lim.bytes c)) e
unread_formula lim s c (fault.Text kind place) k u a = absurd k
unread_formula lim s c (fault.Limit kind) k u a = absurd k
unread_formula lim s c fault.Source k u a = rw (unread_text lim.bytes s c (u refl) a) refl
unread_formula lim s c fault.NoMemory k u a = tt
