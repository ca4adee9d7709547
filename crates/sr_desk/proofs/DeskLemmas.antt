-- What the calls of a desk in memory do to the outside.
use Rattle.std.proofs.Common.{◌≡◌, ℕ, zero, suc, ◌+◌, ◌-◌, ◌<◌, ◌≤◌, ◌==◌, ◌||◌, Bool, true, false, IsTrue, List, [], ◌∷◌, ◌++◌, length, take, drop, set, get_or, Option, Some, None, Ok, Err, refl, sym, ◌∙◌, ap, arith, length-drop, length-take, zero-add}
use Rattle.std.proofs.lemmas.List.{get_or-set_same, get_or-set_other, take-append-drop, drop-take}
use Rattle.std.proofs.Math.Seq.{get_or-append_seam, take-length, take-append_seam, take-add}
use Rattle.std.proofs.lemmas.Bool.Decides.{nat_tests}
use Rattle.sr_desk.specs.declared.desk.CallError.{CallError}
use Rattle.sr_desk.specs.declared.slot.Slot.{Slot}
use Rattle.sr_desk.specs.declared.held.Usage.{Usage}
use Rattle.sr_desk.specs.declared.held.Usage.TheVariants.{Unused, Reading, Writing, Output}
use Rattle.sr_base.specs.Contents as contents
use Rattle.sr_desk.specs.LastReads.{ending_of}
use Rattle.sr_desk.specs.declared.last_read.LastRead.{LastRead}
use Rattle.sr_desk.specs.declared.last_read.LastRead.TheVariants.{Fine, Failed}
use Rattle.sr_desk.specs.Outside.{OnlyReads, OnlyWrites}
use Rattle.sr_desk.specs.Calls.{BeginsRead, BeginsWrite, Finishes, Moves, Hands, HandsNothing, Sends, Grows, ending_after}
use Rattle.sr_desk.specs.MemoryParts.{text_at, usage_at, latest, memory_outside, Marks, state_by, name_at, left_by, sent_by, written_by, writes_by, fits, AllFit, AllApart, AllNamed, AllUnused, Raises, more_texts, more_out}
use Rattle.sr_desk.proofs.MemoryLemmas.{usage-set_same, usage-set_other, given-push, given-more, sent-push, sent-more, sent-out, left-push, written-push, named-writing, left-more, written-more, written-out, file-push_other, file-more_other}

pub cleared : (E : List Bool) (n : ℕ) → get_or (set E n false) n false ≡ false
cleared [] zero = refl
cleared [] (suc n) = refl
cleared (x ∷ E) zero = refl
cleared (x ∷ E) (suc n) = cleared E n

whole : (bytes : List ℕ) → drop 0 (take (length bytes) bytes) ≡ bytes
whole bytes = rw (take-length bytes) refl

module _ (N T : List (List ℕ)) (O : List ℕ) (b : ℕ) (U : List Usage) (m : Marks) where
  pub begins_read-err : (G : List ℕ) (name : List ℕ) (e : CallError) → Raises b m.faults G → b < 8 → b < length m.reads_from → b < length m.last → AllUnused b U
      → BeginsRead {E = CallError} (memory_outside N T O b U m)
      (memory_outside N T O (b + 1) U (record m { reads_from = set m.reads_from b (Some name); last = set m.last b Failed; faults = G })) name (Err e)
  begins_read-err G name e r lt lt_name lt_last all =
      let was : usage_at U b ≡ Unused = all b (omega arith) lt in
      record {
        begun = refl;
        file = refl;
        elsewhere = λ k ne. rw (r.elsewhere k ne, get_or-set_other m.reads_from b k (Some name) None ne, get_or-set_other m.last b k Failed Fine ne) refl;
        later = r.later;
        number = tt;
        slot = rw (was, get_or-set_same m.reads_from b (Some name) None lt_name, get_or-set_same m.last b Failed Fine lt_last) refl;
      }

  pub begins_write-err : (G : List ℕ) (name : List ℕ) (e : CallError) → Raises b m.faults G → b < length m.writes_to
      → BeginsWrite {E = CallError} (memory_outside N T O b U m) (memory_outside N T O (b + 1) U (record m { writes_to = set m.writes_to b (Some name); faults = G })) name (Err e)
  begins_write-err G name e r lt_name = record {
    begun = refl;
    file = λ o ne. refl;
    elsewhere = λ k ne. rw (r.elsewhere k ne, get_or-set_other m.writes_to b k (Some name) None ne) refl;
    later = r.later;
    number = tt;
    slot = rw (get_or-set_same m.writes_to b (Some name) None lt_name) refl;
  }

  pub reads-err : (G : List ℕ) (n : ℕ) → n < length m.last → Raises n m.faults G
      → OnlyReads n (memory_outside N T O b U m) (memory_outside N T O b U (record m { last = set m.last n Failed; faults = G }))
  reads-err G n lt r = record {
    begun = refl;
    file = refl;
    elsewhere = λ k ne. rw (r.elsewhere k ne, get_or-set_other m.last n k Failed Fine ne) refl;
    later = r.later;
    slot = refl;
    source = λ bytes h. h;
    ended = rw (get_or-set_same m.last n Failed Fine lt) (λ h e. cc);
  }

  pub hands_nothing : (G : List ℕ) (n : ℕ) → n < length m.last
      → HandsNothing ((memory_outside N T O b U m).slot n) ((memory_outside N T O b U (record m { last = set m.last n Failed; faults = G })).slot n)
  hands_nothing G n lt = record { given = refl; ending = rw (get_or-set_same m.last n Failed Fine lt) refl; left = λ bytes h. h }

  not_finished : (n : ℕ) (P : Type 0) → get_or (set m.finished n false) n false ≡ true → P
  not_finished n P e = let f = cleared m.finished n in cc

  pub writes-err : (G : List ℕ) (n : ℕ) → Raises n m.faults G
      → OnlyWrites n (memory_outside N T O b U m) (memory_outside N T O b U (record m { finished = set m.finished n false; faults = G }))
  writes-err G n r = record {
    begun = refl;
    file = record { output = λ e. refl; named = λ own other e ne. refl };
    elsewhere = λ k ne. rw (r.elsewhere k ne, get_or-set_other m.finished n k false false ne) refl;
    later = r.later;
    slot = refl;
    finished = λ e. not_finished n _ e;
  }

  pub finishes-err : (G : List ℕ) (n : ℕ) (e : CallError) → Raises n m.faults G
      → Finishes {E = CallError} n (memory_outside N T O b U m) (memory_outside N T O b U (record m { faults = G })) (Err e)
  finishes-err G n e r = record {
    begun = refl;
    file = refl;
    elsewhere = λ k ne. rw (r.elsewhere k ne) refl;
    later = r.later;
    slot = refl;
    written = λ bytes h. h;
    finished = tt;
    failed = refl;
  }

  pub finishes-ok : (n : ℕ) → n < length m.finished
      → Finishes {E = CallError} n (memory_outside N T O b U m) (memory_outside N T O b U (record m { finished = set m.finished n true })) (Ok tt)
  finishes-ok n lt = record {
    begun = refl;
    file = refl;
    elsewhere = λ k ne. rw (get_or-set_other m.finished n k true false ne) refl;
    later = omega arith;
    slot = refl;
    written = λ bytes h. h;
    finished = get_or-set_same m.finished n true false lt;
    failed = tt;
  }

  pub begins_read-ok : (name : List ℕ) (v : ℕ) (s : Slot) → s.number ≡ b → latest N name ≡ Some v → b < 8 → length U ≡ 9 → b < length m.reads_from → b < length m.last → AllUnused b U
      → BeginsRead {E = CallError} (memory_outside N T O b U m)
      (memory_outside N T O (b + 1) (set U b (Reading v 0 (length (text_at T v)))) (record m { reads_from = set m.reads_from b (Some name); last = set m.last b Fine })) name (Ok s)
  begins_read-ok name v s is found lt len lt_name lt_last all =
      let now : usage_at (set U b (Reading v 0 (length (text_at T v)))) b ≡ Reading v 0 (length (text_at T v)) = usage-set_same U b _ (omega arith) in
      let was : usage_at U b ≡ Unused = all b (omega arith) lt in
      record {
        begun = refl;
        file = refl;
        elsewhere = λ k ne. rw (usage-set_other U b k (Reading v 0 (length (text_at T v))) ne, get_or-set_other m.reads_from b k (Some name) None ne, get_or-set_other m.last b k Fine Fine ne) refl;
        later = omega arith;
        number = is;
        slot = (rw (now, was, get_or-set_same m.reads_from b (Some name) None lt_name, get_or-set_same m.last b Fine Fine lt_last) refl, rw (now, found, whole (text_at T v)) (λ bytes h. h));
      }

  pub begins_write-ok : (name : List ℕ) (s : Slot) → s.number ≡ b → length N ≡ length T → b < 8 → length U ≡ 9 → b < length m.writes_to → b < length m.finished → AllUnused b U → AllFit T U
      → BeginsWrite {E = CallError} (memory_outside N T O b U m)
      (memory_outside (N ++ name ∷ []) (T ++ [] ∷ []) O (b + 1) (set U b (Writing (length T))) (record m { writes_to = set m.writes_to b (Some name); finished = set m.finished b false })) name (Ok s)
  begins_write-ok name s is same lt len lt_name lt_finished all fit =
      let now : usage_at (set U b (Writing (length T))) b ≡ Writing (length T) = usage-set_same U b _ (omega arith) in
      let was : usage_at U b ≡ Unused = all b (omega arith) lt in
      let finished : get_or (set m.finished b false) b false ≡ false = get_or-set_same m.finished b false false lt_finished in
      let text_is : text_at (T ++ [] ∷ []) (length T) ≡ [] = get_or-append_seam T [] [] [] in
      record {
        begun = refl;
        file = λ o ne. file-push_other N T name [] o same ne;
        elsewhere = λ k ne. rw (
          usage-set_other U b k (Writing (length T)) ne,
          get_or-set_other m.finished b k false false ne,
          get_or-set_other m.writes_to b k (Some name) None ne,
          given-push T [] (usage_at U k) (fit k),
          left-push T [] (usage_at U k) (fit k),
          sent-push T O [] (usage_at U k) (fit k),
          written-push T O [] (usage_at U k) (fit k),
        ) refl;
        later = omega arith;
        number = is;
        slot = (rw (now, was, finished, get_or-set_same m.writes_to b (Some name) None lt_name, text_is) refl, rw now text_is);
      }

  pub reads-ok : (n v p q r : ℕ) (l : LastRead) → usage_at U n ≡ Reading v p q → n < length U → n < length m.last
      → (ending_of l ≡ Some contents.ended → drop r (take q (text_at T v)) ≡ [])
      → OnlyReads n (memory_outside N T O b U m) (memory_outside N T O b (set U n (Reading v r q)) (record m { last = set m.last n l }))
  reads-ok n v p q r l was lt lt_last none =
      let now : usage_at (set U n (Reading v r q)) n ≡ Reading v r q = usage-set_same U n _ lt in
      let same : take r (take q (text_at T v)) ++ drop r (take q (text_at T v)) ≡ take p (take q (text_at T v)) ++ drop p (take q (text_at T v)) =
      take-append-drop r (take q (text_at T v)) ∙ sym (take-append-drop p (take q (text_at T v))) in
      record {
        begun = refl;
        file = refl;
        elsewhere = λ k ne. rw (usage-set_other U n k (Reading v r q) ne, get_or-set_other m.last n k l Fine ne) refl;
        later = omega arith;
        slot = rw (now, was) refl;
        source = rw (now, was, same) (λ bytes h. h);
        ended = rw (now, get_or-set_same m.last n l Fine lt_last) (λ h e left some. let end : drop r (take q (text_at T v)) ≡ [] = none e in cc);
      }

  pub writes-ok : (n : ℕ) (piece : List ℕ) (u : Usage) → usage_at U n ≡ u → (n ≡ 8 → u ≡ Output) → AllFit T U → AllApart U → AllNamed N U m.writes_to
      → OnlyWrites n (memory_outside N T O b U m) (memory_outside N (more_texts T u piece) (more_out O u piece) b U (record m { finished = set m.finished n false }))
  writes-ok n piece Unused is out fit far told = record {
    begun = refl;
    file = record { output = λ e. refl; named = λ own other e ne. refl };
    elsewhere = λ k ne. rw (get_or-set_other m.finished n k false false ne) refl;
    later = omega arith;
    slot = refl;
    finished = λ e. not_finished n _ e;
  }
  writes-ok n piece (Reading v p q) is out fit far told = record {
    begun = refl;
    file = record { output = λ e. refl; named = λ own other e ne. refl };
    elsewhere = λ k ne. rw (get_or-set_other m.finished n k false false ne) refl;
    later = omega arith;
    slot = refl;
    finished = λ e. not_finished n _ e;
  }
  writes-ok n piece (Writing v) is out fit far told = record {
    begun = refl;
    file = record {
      output = λ e. absurd (cc (out e));
      named = λ own other e ne. let named : name_at m.writes_to n ≡ Some (text_at N v) = named-writing N v (name_at m.writes_to n) (rw is at (told n)) in
          let own_is : text_at N v ≡ own = cc (sym named ∙ e) in file-more_other N T v piece other (λ same. ne (same ∙ own_is));
    };
    elsewhere = λ k ne. rw (
      get_or-set_other m.finished n k false false ne,
      given-more T v piece (usage_at U k) (fit k),
      left-more T v piece (usage_at U k) (fit k),
      sent-more T O v piece (usage_at U k) (rw is at (far n k (λ e. ne (sym e)))),
      written-more T O v piece (usage_at U k) (rw is at (far n k (λ e. ne (sym e)))),
    ) refl;
    later = omega arith;
    slot = rw is refl;
    finished = λ e. not_finished n _ e;
  }
  writes-ok n piece Output is out fit far told = record {
    begun = refl;
    file = record { output = λ e. refl; named = λ own other e ne. refl };
    elsewhere = λ k ne. rw (
      get_or-set_other m.finished n k false false ne,
      sent-out T O piece (usage_at U k) (rw is at (far n k (λ e. ne (sym e)))),
      written-out T O piece (usage_at U k) (rw is at (far n k (λ e. ne (sym e)))),
    ) refl;
    later = omega arith;
    slot = refl;
    finished = λ e. not_finished n _ e;
  }

pub grows-ok : (T : List (List ℕ)) (O : List ℕ) (u : Usage) (piece : List ℕ) → IsTrue (fits T u)
    → Grows (written_by T O u) (written_by (more_texts T u piece) (more_out O u piece) u) piece
grows-ok T O Unused piece fit bytes e = cc
grows-ok T O (Reading v p q) piece fit bytes e = cc
grows-ok T O (Writing v) piece fit bytes e =
    let lt : v < length T = grind (arith, nat_tests) in
    let is : text_at T v ≡ bytes = cc in
    rw (get_or-set_same T v (text_at T v ++ piece) [] lt, is) refl
grows-ok T O Output piece fit bytes e = cc

can_write-sent : (T : List (List ℕ)) (O : List ℕ) (u : Usage) (n : ℕ) (piece : List ℕ) → IsTrue (n == 8 || writes_by u) → (n ≡ 8 → u ≡ Output) → IsTrue (fits T u)
    → sent_by (more_texts T u piece) (more_out O u piece) u ≡ sent_by T O u ++ piece
can_write-sent T O Unused n piece can out fit = absurd (clash (out (grind (arith, nat_tests))))
  where
    clash : Unused ≡ Output → ⊥
    clash e = cc
can_write-sent T O (Reading v p q) n piece can out fit = absurd (clash (out (grind (arith, nat_tests))))
  where
    clash : Reading v p q ≡ Output → ⊥
    clash e = cc
can_write-sent T O (Writing v) n piece can out fit =
    let lt : v < length T = grind (arith, nat_tests) in get_or-set_same T v (text_at T v ++ piece) [] lt
can_write-sent T O Output n piece can out fit = refl

-- a slot that can be written was sent the piece
pub sends-ok : (T : List (List ℕ)) (O : List ℕ) (u : Usage) (reads writes : Option (List ℕ)) (l k : LastRead) (e f : Bool) (i j n : ℕ) (piece : List ℕ)
    → IsTrue (n == 8 || writes_by u) → (n ≡ 8 → u ≡ Output) → IsTrue (fits T u)
    → Sends (state_by reads writes T O u l e i) (state_by reads writes (more_texts T u piece) (more_out O u piece) u k f j) piece
sends-ok T O u reads writes l k e f i j n piece can out fit = record { sent = can_write-sent T O u n piece can out fit; written = grows-ok T O u piece fit }

drop-nil : (n : ℕ) → drop {A = ℕ} n [] ≡ []
drop-nil zero = refl
drop-nil (suc n) = refl

drop-more : (p c : ℕ) (l : List ℕ) → drop c (drop p l) ≡ drop (p + c) l
drop-more zero c l = ap (λ n. drop n l) (sym (zero-add c))
drop-more (suc p) c [] = drop-nil c ∙ sym (drop-nil (suc p + c))
drop-more (suc p) c (x ∷ xs) =
    let e : suc p + c ≡ suc (p + c) = omega arith in drop-more p c xs ∙ rw e refl

take-less : (c m : ℕ) (l : List ℕ) → c ≤ m → take c (take m l) ≡ take c l
take-less zero m l le = refl
take-less (suc c) zero l le = absurd (omega arith)
take-less (suc c) (suc m) [] le = refl
take-less (suc c) (suc m) (x ∷ xs) le = ap (λ t. x ∷ t) (take-less c m xs (omega arith))

-- the bytes that are moved, and those that are left then
moved : (p c q : ℕ) (t : List ℕ) → p + c ≤ q → drop p (take q t) ≡ take c (drop p t) ++ drop (p + c) (take q t)
moved p c q t le =
    let split : take c (drop p (take q t)) ++ drop c (drop p (take q t)) ≡ drop p (take q t) = take-append-drop c (drop p (take q t)) in
    let same : p + (q - p) ≡ q = omega arith in
    let window : drop p (take q t) ≡ take (q - p) (drop p t) = rw same at (drop-take p (q - p) t) in
    let front : take c (drop p (take q t)) ≡ take c (drop p t) = ap (take c) window ∙ take-less c (q - p) (drop p t) (omega arith) in
    sym split ∙ rw (front, drop-more p c (take q t)) refl

past : (p q : ℕ) (t : List ℕ) → p ≡ q → drop p (take q t) ≡ []
past p q t e = none (drop p (take q t)) (simp (length-drop, length-take) (omega arith))
  where
    none : (xs : List ℕ) → length xs ≡ 0 → xs ≡ []
    none [] h = refl
    none (x ∷ xs) h = absurd (omega arith)

pub moves-ok : (T : List (List ℕ)) (U : List Usage) (n v p q c : ℕ) (piece buf : List ℕ)
    → usage_at U n ≡ Reading v p q → n < length U → p + c ≤ q → (0 < length buf → c ≡ 0 → p ≡ q)
    → piece ≡ take c (drop p (text_at T v)) → length piece ≡ c → length buf ≡ length (piece ++ drop c buf)
    → Moves (left_by T (usage_at U n)) (left_by T (usage_at (set U n (Reading v (p + c) q)) n)) c (piece ++ drop c buf)
moves-ok T U n v p q c piece buf was lt le none is len same = record {
  moved = λ left h.
      let bytes : drop p (take q (text_at T v)) ≡ left = cc (rw was at h) in (
        drop (p + c) (take q (text_at T v)),
        sym bytes ∙ moved p c q (text_at T v) le ∙ ap (λ f. f ++ drop (p + c) (take q (text_at T v))) (sym is ∙ sym (front piece c len)),
        rw (usage-set_same U n (Reading v (p + c) q) lt) refl,
      );
  none = λ left h some zero.
      let bytes : drop (p + c) (take q (text_at T v)) ≡ left = cc (rw (usage-set_same U n (Reading v (p + c) q) lt) at h) in
      sym bytes ∙ past (p + c) q (text_at T v) (end (none (omega arith) zero) zero);
}
  where
    end : p ≡ q → c ≡ 0 → p + c ≡ q
    end e z = omega arith

    front : (piece : List ℕ) (c : ℕ) → length piece ≡ c → take c (piece ++ drop c buf) ≡ piece
    front piece c len = rw (← len) (take-append_seam piece (drop (length piece) buf))

pub hands-ok : (N T : List (List ℕ)) (O : List ℕ) (b : ℕ) (U : List Usage) (m : Marks) (n v p q c : ℕ) (l : LastRead) (piece buf : List ℕ)
    → usage_at U n ≡ Reading v p q → n < length U → n < length m.last → p + c ≤ q → (0 < length buf → c ≡ 0 → p ≡ q)
    → piece ≡ take c (drop p (text_at T v)) → length piece ≡ c → length buf ≡ length (piece ++ drop c buf)
    → ending_of l ≡ ending_after c (piece ++ drop c buf)
    → Hands ((memory_outside N T O b U m).slot n) ((memory_outside N T O b (set U n (Reading v (p + c) q)) (record m { last = set m.last n l })).slot n) c (piece ++ drop c buf)
hands-ok N T O b U m n v p q c l piece buf was lt lt_last le none is len same ends = record {
  given = rw (usage-set_same U n (Reading v (p + c) q) lt, was, take-add p c (take q (text_at T v)), front) refl;
  ending = rw (get_or-set_same m.last n l Fine lt_last) ends;
  left = moves-ok T U n v p q c piece buf was lt le none is len same;
}
  where
    front : take c (drop p (take q (text_at T v))) ≡ take c (piece ++ drop c buf)
    front =
        let first : take c (piece ++ drop c buf) ≡ piece = rw (← len) (take-append_seam piece (drop (length piece) buf)) in
        let same : p + (q - p) ≡ q = omega arith in
        let window : drop p (take q (text_at T v)) ≡ take (q - p) (drop p (text_at T v)) = rw same at (drop-take p (q - p) (text_at T v)) in
        ap (take c) window ∙ take-less c (q - p) (drop p (text_at T v)) (omega arith) ∙ sym is ∙ sym first
