-- Facts on a reader's buffer, and on what remains of the files that it may read.
use Rattle.std.proofs.Common.{◌-◌, ◌≡◌, ◌≢◌, ℕ, suc, ◌+◌, ◌<◌, ◌≤◌, Bool, true, false, IsTrue, List, [], ◌∷◌, ◌++◌, length, take, drop, get_or, Option, Some, None, Ok, Err, refl, sym, ◌∙◌, ap, subst, arith, length-drop, length-take, append_assoc}
use Rattle.std.proofs.lemmas.List.{take-append-drop, take-take, drop-append-le}
use Rattle.std.specs.Prelude.{Result, IfSome}
use Rattle.sr_base.specs.Contents as contents
use Rattle.sr_base.specs.Contents.{Contents}
use Rattle.sr_desk.specs.Outside.{Outside, Agrees, OnlyReads, Rose}
use Rattle.sr_desk.specs.Reader.{Reader, last_after, reader_of, skipped, buffered, IsReader, Takes}
use Rattle.sr_desk.specs.Next.{Next, Stands, Reads, IsSameReader, remaining, is_read_fault}
use Rattle.sr_desk.specs.declared.reader.ByteReader.TheInside.{Inside}
use Rattle.sr_desk.specs.declared.reader.TheConstants.{CAPACITY}
use Rattle.sr_desk.specs.declared.reader.ReadError.{ReadError}
use Rattle.sr_desk.specs.declared.reader.ReadError.TheVariants.{Fault, Limit}
use Rattle.sr_desk.proofs.BufferLemmas.{drop-drop, last_after-more, last_after-skip, ahead-cons, ahead-ends}
use Rattle.sr_desk.proofs.CallLemmas.{OnlyReads-refl, OnlyReads-trans}

-- what remains of a file begins with what is ahead
pub remaining-ahead : {r : Reader} {o : Outside} (c : Contents) → Stands r o → (a : Agrees (o.slot r.slot) c) → remaining r c ≡ r.ahead ++ a.more
remaining-ahead {r} {o} c s a =
    rw a.bytes (drop-append-le r.taken (o.slot r.slot).given a.more s.taken ∙ ap (λ (l : List ℕ). l ++ a.more) s.ahead)

-- where nothing is read
pub Reads-still : {old new : Reader} {o : Outside} → IsSameReader old new → Stands new o → Reads old new o o false
Reads-still {old} {new} {o} same s = record {
  same = same;
  only = OnlyReads-refl old.slot o;
  agrees = λ c a. a;
  stands = λ f. s;
  ending = λ f. cc;
  cause = λ f. cc;
}

same-refl : (r : Reader) → IsSameReader r r
same-refl r = record { slot = refl; limit = refl; later = omega arith }

pub Reads-refl : {r : Reader} {o : Outside} → Stands r o → Reads r r o o false
Reads-refl {r} {o} s = Reads-still (same-refl r) s

-- a call that reads, after one that didn't fail
pub Reads-trans : {r s t : Reader} {a b c : Outside} {f : Bool} → Reads r s a b false → Reads s t b c f → Reads r t a c f
Reads-trans {r} {s} {t} {a} {b} {c} {f} x y =
    let slot : s.slot ≡ r.slot = x.same.slot in
    let only : OnlyReads r.slot b c = subst (λ (n : ℕ). OnlyReads n b c) slot y.only in
    record {
      same = record { slot = y.same.slot ∙ x.same.slot; limit = y.same.limit ∙ x.same.limit; later = omega (arith, x.same.later, y.same.later) };
      only = OnlyReads-trans x.only only;
      agrees = λ d g. x.agrees d (subst (λ (n : ℕ). Agrees (b.slot n) d) slot (y.agrees d (subst (λ (n : ℕ). Agrees (c.slot n) d) (sym slot) g)));
      stands = y.stands;
      ending = λ e. subst (λ (n : ℕ). (c.slot n).ending ≡ Some contents.failed) slot (y.ending e);
      cause = λ e.
          let rose : Rose (b.slot r.slot).faults (c.slot r.slot).faults = subst (λ (n : ℕ). Rose (b.slot n).faults (c.slot n).faults) slot (y.cause e) in
          let later : (a.slot r.slot).faults ≤ (b.slot r.slot).faults = x.only.later in
          omega arith;
    }

-- the buffer was filled before
pub Next-filled : (old mid new : Reader) (after : Outside) (result : Result (Option ℕ) ReadError)
    → mid ≡ record old { ended = mid.ended; ahead = mid.ahead } → Next mid new after result → Next old new after result
Next-filled old mid new after result same h = go mid.ended mid.ahead result (subst (λ (m : Reader). Next m new after result) same h)
  where
    go : (e : Bool) (ahead : List ℕ) (result : Result (Option ℕ) ReadError) → Next (record old { ended = e; ahead = ahead }) new after result → Next old new after result
    go e ahead (Ok (Some b)) h = record { room = h.room; same = h.same; bytes = h.bytes }
    go e ahead (Ok None) h = record { same = h.same; bytes = h.bytes }
    go e ahead (Err Limit) h = record { taken = h.taken; same = h.same; bytes = h.bytes }
    go e ahead (Err Fault) h = record { taken = h.taken; bytes = h.bytes }

not_false : (b : Bool) → (b ≡ false → ⊥) → b ≡ true
not_false true h = refl
not_false false h = absurd (h refl)

-- one byte of those ahead is taken
Stands-taken : {old : Reader} {o : Outside} (b : ℕ) (ahead : List ℕ) → Stands old o → old.ahead ≡ b ∷ ahead
    → Stands (record old { taken = old.taken + 1; last = Some b; ahead = ahead }) o
Stands-taken {old} {o} b ahead s first =
    let given : List ℕ = (o.slot old.slot).given in
    let now : drop old.taken given ≡ b ∷ ahead = s.ahead ∙ first in
    let size : length given - old.taken ≡ suc (length ahead) = sym (length-drop old.taken given) ∙ ap length now in
    record {
      reads = s.reads;
      ending = s.ending;
      taken = omega (arith, size);
      ahead = sym (drop-drop old.taken 1 given) ∙ ap (drop 1) now;
    }

same_end : (r : Reader) → r.ended ≡ true → r.ahead ≡ [] → r ≡ record r { ended = true; ahead = [] }
same_end r e a = ap (λ (x : Bool). record r { ended = x; ahead = r.ahead }) e ∙ ap (λ (l : List ℕ). record r { ended = true; ahead = l }) a

met_end : {r : Reader} {o : Outside} (c : Contents) → Stands r o → r.ended ≡ true → r.ahead ≡ [] → Agrees (o.slot r.slot) c
    → (remaining r c ≡ []) × (c.ending ≡ contents.ended)
met_end {r} {o} c s e n a =
    let ending : (o.slot r.slot).ending ≡ Some contents.ended = s.ending ∙ rw e refl in
    let found = rw ending at a.ending in
    let is : remaining r c ≡ r.ahead ++ a.more = remaining-ahead c s a in
    (is ∙ rw (n, found.0) refl, found.1)

-- what the buffer gives is what comes next
pub Next-taken : (old new : Reader) (o : Outside) (result : Result (Option ℕ) ReadError)
    → Stands old o → (old.ended ≡ false → old.ahead ≢ []) → Takes old new result → Next old new o result × Stands new o
Next-taken old new o (Ok (Some b)) s ready t =
    let ended : new.ended ≡ old.ended = ap (λ (r : Reader). r.ended) t.2 in
    let stands : Stands new o = rw t.2 (Stands-taken b new.ahead s t.1) in
    let slot : new.slot ≡ old.slot = ap (λ (r : Reader). r.slot) t.2 in (
      record {
        room = t.0;
        same = t.2 ∙ rw (sym ended) refl;
        bytes = λ c a.
            let before : Agrees (o.slot old.slot) c = record {
              more = a.more;
              bytes = subst (λ (n : ℕ). c.bytes ≡ (o.slot n).given ++ a.more) slot a.bytes;
              ending = subst (λ (n : ℕ). IfSome (o.slot n).ending (λ e. (a.more ≡ []) × (c.ending ≡ e))) slot a.ending;
            } in
            let now : remaining new c ≡ new.ahead ++ a.more = remaining-ahead c stands a in
            let was : remaining old c ≡ old.ahead ++ before.more = remaining-ahead c s before in
            was ∙ rw (t.1, now) refl;
      },
      stands,
    )
Next-taken old new o (Ok None) s ready t =
    let ended : old.ended ≡ true = not_false old.ended (λ e. ready e t.0) in
    let at_end : Next old old o (Ok None) × Stands old o = (record { same = same_end old ended t.0; bytes = λ c a. met_end c s ended t.0 a }, s) in
    subst (λ (r : Reader). Next old r o (Ok None) × Stands r o) (sym t.1) at_end
Next-taken old new o (Err Limit) s ready t =
    let at_limit : Next old old o (Err Limit) × Stands old o = (
      record {
        taken = t.1;
        same = refl;
        bytes = λ c a n.
            let is : remaining old c ≡ old.ahead ++ a.more = remaining-ahead c s a in
            t.0 (front_nil old.ahead a.more (sym is ∙ n));
      },
      s,
    ) in
    subst (λ (r : Reader). Next old r o (Err Limit) × Stands r o) (sym t.2) at_limit
  where
    front_nil : (xs ys : List ℕ) → xs ++ ys ≡ [] → xs ≡ []
    front_nil [] ys e = refl
    front_nil (x ∷ xs) ys e = cc
Next-taken old new o (Err Fault) s ready t = absurd t

pub same-taken : {old new : Reader} {b : ℕ} → Takes old new (Ok (Some b)) → IsSameReader old new
same-taken {old} {new} {b} t = record {
  slot = ap (λ (r : Reader). r.slot) t.2;
  limit = ap (λ (r : Reader). r.limit) t.2;
  later = let taken : new.taken ≡ old.taken + 1 = ap (λ (r : Reader). r.taken) t.2 in omega arith;
}

-- where the buffer gives a byte, nothing is read
pub Reads-taken : (old new : Reader) (o : Outside) (result : Result (Option ℕ) ReadError) → IsSameReader old new → Stands new o → Takes old new result
    → Reads old new o o (is_read_fault result)
Reads-taken old new o (Ok (Some b)) same s t = Reads-still same s
Reads-taken old new o (Ok None) same s t = Reads-still same s
Reads-taken old new o (Err Limit) same s t = Reads-still same s
Reads-taken old new o (Err Fault) same s t = absurd t

-- a byte of the buffer is taken
pub takes_byte : (r : Inside) (old : Reader) (b : ℕ) → reader_of r ≡ old → IsReader r → r.at < r.end → b ≡ get_or r.buffer.items r.at b
    → Takes old (reader_of (record r { at = r.at + 1 })) (Ok (Some b))
takes_byte r old b view is lt byte = subst (λ (o : Reader). Takes o (reader_of (record r { at = r.at + 1 })) (Ok (Some b))) view (takes is.limit is.end is.held)
  where
    takes : r.before + r.end ≤ r.limit → r.end ≤ r.held → r.held ≤ length r.buffer.items → Takes (reader_of r) (reader_of (record r { at = r.at + 1 })) (Ok (Some b))
    takes limit end held =
        let last : last_after r.previous (take (r.at + 1) r.buffer.items) ≡ Some b = last_after-more r.previous r.buffer.items r.at b (omega arith) ∙ ap (λ (x : ℕ). Some x) (sym byte) in
        let first : drop r.at (take r.held r.buffer.items) ≡ b ∷ drop (r.at + 1) (take r.held r.buffer.items) =
        ahead-cons r.buffer.items r.at r.held b (omega arith) held ∙ ap (λ (x : ℕ). x ∷ drop (r.at + 1) (take r.held r.buffer.items)) (sym byte) in
        let sum : r.before + (r.at + 1) ≡ r.before + r.at + 1 = omega arith in
        (omega arith, first, rw (last, sum) refl)

-- the limit's bytes were taken, and there is another
pub takes_limit : (r : Inside) (old : Reader) → reader_of r ≡ old → IsReader r → r.end ≤ r.at → r.end < r.held → Takes old old (Err Limit)
takes_limit r old view is le lt = subst (λ (o : Reader). Takes o o (Err Limit)) view (past r is le lt)
  where
    past : (r : Inside) → IsReader r → r.end ≤ r.at → r.end < r.held → Takes (reader_of r) (reader_of r) (Err Limit)
    past r is le lt =
        let at : r.at ≤ r.end = is.at in
        let past : r.before + r.end ≡ r.limit = is.past lt in (
          λ e. let h : r.held ≤ r.at = ahead-ends r.buffer.items r.at r.held is.held e in absurd (omega arith),
          omega arith,
          refl,
        )

-- some bytes of the buffer are taken
pub skips : (r : Inside) (n : ℕ) → IsReader r → n ≤ length (buffered (reader_of r)) → reader_of (record r { at = r.at + n }) ≡ skipped (reader_of r) n
skips r n is le =
    let at : r.at ≤ r.end = is.at in
    let end : r.end ≤ r.held = is.end in
    let h = simp (length-drop, length-take) at le in
    let sum : r.before + (r.at + n) ≡ r.before + r.at + n = omega arith in
    rw (last_after-skip r.previous r.buffer.items r.at n r.held (omega arith), sum, ← drop-drop r.at n (take r.held r.buffer.items)) refl

-- the reader stands where it did after it took bytes at hand
pub Stands-skipped : {r : Reader} {o : Outside} (n : ℕ) → n ≤ length (buffered r) → Stands r o → Stands (skipped r n) o
Stands-skipped {r} {o} n le s =
    let given : List ℕ = (o.slot r.slot).given in
    let short : n ≤ length r.ahead = omega (arith, simp length-take at le) in
    let size : length given - r.taken ≡ length r.ahead = sym (length-drop r.taken given) ∙ ap length s.ahead in
    let before : r.taken ≤ length given = s.taken in
    record {
      reads = s.reads;
      ending = s.ending;
      taken = omega (arith, size);
      ahead = sym (drop-drop r.taken n given) ∙ ap (drop n) s.ahead;
    }

-- they are the first that remained
pub skipped-remaining : {r : Reader} {o : Outside} (n : ℕ) (c : Contents) → n ≤ length (buffered r) → Stands r o → Agrees (o.slot r.slot) c
    → remaining r c ≡ take n (buffered r) ++ remaining (skipped r n) c
skipped-remaining {r} {o} n c le s a =
    let short : n ≤ r.limit - r.taken = omega (arith, simp length-take at le) in
    let split : take n r.ahead ++ drop n r.ahead ≡ r.ahead = take-append-drop n r.ahead in
    let was : remaining r c ≡ r.ahead ++ a.more = remaining-ahead c s a in
    let now : remaining (skipped r n) c ≡ drop n r.ahead ++ a.more = remaining-ahead c (Stands-skipped n le s) a in
    let front : take n (buffered r) ≡ take n r.ahead = take-take n (r.limit - r.taken) r.ahead short in
    let whole : r.ahead ++ a.more ≡ (take n r.ahead ++ drop n r.ahead) ++ a.more = ap (λ (l : List ℕ). l ++ a.more) (sym split) in
    was ∙ whole ∙ rw (front, now) (append_assoc (take n r.ahead) (drop n r.ahead) a.more)

pub Reads-skipped : {r : Reader} {o : Outside} (n : ℕ) → n ≤ length (buffered r) → Stands r o → Reads r (skipped r n) o o false
Reads-skipped {r} {o} n le s = Reads-still (record { slot = refl; limit = refl; later = omega arith }) (Stands-skipped n le s)

-- no more is ahead than the buffer holds
pub ahead-size : (r : Inside) → IsReader r → length (reader_of r).ahead ≤ CAPACITY
ahead-size r is =
    let held : r.held ≤ length r.buffer.items = is.held in
    let size : length r.buffer.items ≡ CAPACITY = is.size in
    simp (length-drop, length-take) (omega arith)

-- a reader that took nothing, of a slot that gave nothing
pub Stands-new : {r : Reader} {o : Outside} → IsTrue (o.slot r.slot).reads → (o.slot r.slot).given ≡ [] → (o.slot r.slot).ending ≡ None
    → r.ended ≡ false → r.taken ≡ 0 → r.ahead ≡ [] → Stands r o
Stands-new {r} {o} reads given ending going taken ahead = record {
  reads = reads;
  ending = ending ∙ rw going refl;
  taken = omega (arith, taken);
  ahead = rw (given, taken, ahead) refl;
}
