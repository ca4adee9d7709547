-- What the calls of the real outside do to a slot.
use Rattle.std.proofs.Common.{◌≡◌, ℕ, zero, suc, ◌-◌, ◌<◌, true, false, List, [], ◌∷◌, ◌++◌, length, take, drop, set, get_or, Option, Some, None, Ok, Err, refl, sym, ◌∙◌, ap, arith, length-append, append_assoc}
use Rattle.std.specs.Prelude.{option_map}
use Rattle.std.proofs.lemmas.List.{get_or-set_same, get_or-set_other, drop-append-le, append-nil}
use Rattle.sr_desk.specs.Outside.{OnlyReads, OnlyWrites, StaysKnown}
use Rattle.sr_desk.specs.Calls.{ending_after, Moves, Hands, HandsNothing, Grows, Sends, Finishes}
use Rattle.sr_desk.specs.LastReads.{ending_of}
use Rattle.sr_desk.proofs.CallLemmas.{none_left}
use Rattle.sr_desk.specs.Host.{HostParts, host_state, host_outside, left_in, held_in, last_sent, no_targets, IsIdle}
use Rattle.sr_desk.specs.Names.{no_names}
use Rattle.sr_desk.specs.MemoryParts.{Raises}
use Rattle.sr_desk.specs.declared.desk.CallError.{CallError}
use Rattle.sr_desk.specs.declared.last_read.LastRead.{LastRead}
use Rattle.sr_desk.specs.declared.last_read.LastRead.TheVariants.{Failed, Fine}
use Rattle.sr_desk.specs.declared.target.Target.{Target}
use Rattle.sr_desk.specs.declared.target.Target.TheVariants.{Nothing}

-- the bytes that a slot had stay known where a read moves the first of those that are left
source-moves : (old new : Option (List ℕ)) (given piece : List ℕ) (n : ℕ) → Moves old new n piece
    → StaysKnown (option_map (λ l. given ++ l) old) (option_map (λ l. (given ++ take n piece) ++ l) new)
source-moves None new given piece n m bytes h = cc
source-moves (Some left) new given piece n m bytes h =
    let found = m.moved left refl in
    let is : given ++ left ≡ bytes = cc in
    rw found.2 (ap (λ (l : List ℕ). Some l) (append_assoc given (take n piece) found.0 ∙ rw (← found.1) is))

source-stays : (old new : Option (List ℕ)) (given : List ℕ) → StaysKnown old new → StaysKnown (option_map (λ l. given ++ l) old) (option_map (λ l. given ++ l) new)
source-stays None new given k bytes h = cc
source-stays (Some left) new given k bytes h = rw (k left refl) h

-- the last bytes that a file holds, as many as were sent to it
pub last_sent-grows : (old new : Option (List ℕ)) (sent piece : List ℕ) → Grows old new piece → Grows (last_sent sent old) (last_sent (sent ++ piece) new) piece
last_sent-grows None new sent piece g bytes h = cc
last_sent-grows (Some held) new sent piece g bytes h =
    let now : new ≡ Some (held ++ piece) = g held refl in
    let was : drop (length held - length sent) held ≡ bytes = cc in
    let place : length (held ++ piece) - length (sent ++ piece) ≡ length held - length sent = simp length-append (omega arith) in
    rw (now, place, drop-append-le (length held - length sent) held piece (omega arith), was) refl

pub last_sent-stays : (old new : Option (List ℕ)) (sent : List ℕ) → StaysKnown old new → StaysKnown (last_sent sent old) (last_sent sent new)
last_sent-stays None new sent k bytes h = cc
last_sent-stays (Some held) new sent k bytes h = rw (k held refl) h

module _ {F : Type 0} (remaining contents : F → Option (List ℕ)) (d : HostParts F) (n : ℕ) where
  pub only_reads-ok : (l : LastRead) (given piece : List ℕ) (count : ℕ) (f : Option F) → n < length d.given → n < length d.sources → n < length d.last
      → Moves (left_in remaining (get_or d.sources n None)) (left_in remaining f) count piece
      → given ≡ get_or d.given n [] ++ take count piece → ending_of l ≡ ending_after count piece
      → OnlyReads n (host_outside remaining contents d) (host_outside remaining contents (record d { last = set d.last n l; given = set d.given n given; sources = set d.sources n f }))
  only_reads-ok l given piece count f lt_given lt_sources lt_last moves more ends = record {
    begun = refl;
    file = refl;
    elsewhere = λ k ne. rw (get_or-set_other d.last n k l Fine ne, get_or-set_other d.given n k given [] ne, get_or-set_other d.sources n k f None ne) refl;
    later = omega arith;
    slot = refl;
    source = rw (get_or-set_same d.given n given [] lt_given, get_or-set_same d.sources n f None lt_sources, more) (source-moves _ _ (get_or d.given n []) piece count moves);
    ended = rw (get_or-set_same d.sources n f None lt_sources, get_or-set_same d.last n l Fine lt_last) (λ h. none_left (left_in remaining (get_or d.sources n None)) (left_in remaining f) l piece count ends moves);
  }

  pub hands-ok : (l : LastRead) (given piece : List ℕ) (count : ℕ) (f : Option F) → n < length d.given → n < length d.sources → n < length d.last
      → Moves (left_in remaining (get_or d.sources n None)) (left_in remaining f) count piece
      → given ≡ get_or d.given n [] ++ take count piece → ending_of l ≡ ending_after count piece
      → Hands (host_state remaining contents d n) (host_state remaining contents (record d { last = set d.last n l; given = set d.given n given; sources = set d.sources n f }) n) count piece
  hands-ok l given piece count f lt_given lt_sources lt_last moves more ends = record {
    given = rw (get_or-set_same d.given n given [] lt_given) more;
    ending = rw (get_or-set_same d.last n l Fine lt_last) ends;
    left = rw (get_or-set_same d.sources n f None lt_sources) moves;
  }

  pub only_reads-err : (faults : List ℕ) (f : Option F) → n < length d.sources → n < length d.last
      → StaysKnown (left_in remaining (get_or d.sources n None)) (left_in remaining f) → Raises n d.faults faults
      → OnlyReads n (host_outside remaining contents d) (host_outside remaining contents (record d { last = set d.last n Failed; faults = faults; sources = set d.sources n f }))
  only_reads-err faults f lt lt_last stays r = record {
    begun = refl;
    file = refl;
    elsewhere = λ k ne. rw (get_or-set_other d.last n k Failed Fine ne, get_or-set_other d.sources n k f None ne, r.elsewhere k ne) refl;
    later = r.later;
    slot = refl;
    source = rw (get_or-set_same d.sources n f None lt) (source-stays _ _ (get_or d.given n []) stays);
    ended = rw (get_or-set_same d.last n Failed Fine lt_last) (λ h e. cc);
  }

  pub hands_nothing : (faults : List ℕ) (f : Option F) → n < length d.sources → n < length d.last
      → StaysKnown (left_in remaining (get_or d.sources n None)) (left_in remaining f)
      → HandsNothing (host_state remaining contents d n) (host_state remaining contents (record d { last = set d.last n Failed; faults = faults; sources = set d.sources n f }) n)
  hands_nothing faults f lt lt_last stays = record {
    given = refl;
    ending = rw (get_or-set_same d.last n Failed Fine lt_last) refl;
    left = rw (get_or-set_same d.sources n f None lt) stays;
  }

  pub sends-ok : (sent piece : List ℕ) (count : ℕ) (t : Target F) → n < length d.sent → n < length d.targets
      → Grows (held_in contents (get_or d.targets n Nothing)) (held_in contents t) (take count piece)
      → sent ≡ get_or d.sent n [] ++ take count piece
      → Sends (host_state remaining contents d n) (host_state remaining contents (record d { finished = set d.finished n false; sent = set d.sent n sent; targets = set d.targets n t }) n) (take count piece)
  sends-ok sent piece count t lt lt_targets grows more = record {
    sent = rw (get_or-set_same d.sent n sent [] lt) more;
    written = rw (get_or-set_same d.sent n sent [] lt, get_or-set_same d.targets n t Nothing lt_targets, more) (last_sent-grows _ _ (get_or d.sent n []) (take count piece) grows);
  }

  pub sends-err : (faults : List ℕ) (t : Target F) → n < length d.targets
      → StaysKnown (held_in contents (get_or d.targets n Nothing)) (held_in contents t)
      → Sends (host_state remaining contents d n) (host_state remaining contents (record d { finished = set d.finished n false; faults = faults; targets = set d.targets n t }) n) []
  sends-err faults t lt stays = record {
    sent = sym (append-nil (get_or d.sent n []));
    written = λ bytes h. rw (get_or-set_same d.targets n t Nothing lt, append-nil bytes) (last_sent-stays _ _ (get_or d.sent n []) stays bytes h);
  }

  not_finished : (k : ℕ) (P : Type 0) → k < length d.finished → get_or (set d.finished k false) k false ≡ true → P
  not_finished k P lt e = let f = get_or-set_same d.finished k false false lt in cc

  pub only_writes-err : (faults : List ℕ) (t : Target F) → n < length d.finished → Raises n d.faults faults
      → OnlyWrites n (host_outside remaining contents d) (host_outside remaining contents (record d { finished = set d.finished n false; faults = faults; targets = set d.targets n t }))
  only_writes-err faults t lt r = record {
    begun = refl;
    file = record { output = λ e. refl; named = λ own other e ne. refl };
    elsewhere = λ k ne. rw (get_or-set_other d.finished n k false false ne, get_or-set_other d.targets n k t Nothing ne, r.elsewhere k ne) refl;
    later = r.later;
    slot = refl;
    finished = λ e. not_finished n _ lt e;
  }

  pub finishes-err : (faults : List ℕ) (t : Target F) (e : CallError) → n < length d.targets → Raises n d.faults faults
      → StaysKnown (held_in contents (get_or d.targets n Nothing)) (held_in contents t)
      → Finishes {E = CallError} n (host_outside remaining contents d) (host_outside remaining contents (record d { faults = faults; targets = set d.targets n t })) (Err e)
  finishes-err faults t e lt r stays = record {
    begun = refl;
    file = refl;
    elsewhere = λ k ne. rw (get_or-set_other d.targets n k t Nothing ne, r.elsewhere k ne) refl;
    later = r.later;
    slot = refl;
    written = rw (get_or-set_same d.targets n t Nothing lt) (last_sent-stays _ _ (get_or d.sent n []) stays);
    finished = tt;
    failed = refl;
  }

  pub finishes-ok : (t : Target F) → n < length d.targets → n < length d.finished
      → StaysKnown (held_in contents (get_or d.targets n Nothing)) (held_in contents t)
      → Finishes {E = CallError} n (host_outside remaining contents d) (host_outside remaining contents (record d { finished = set d.finished n true; targets = set d.targets n t })) (Ok tt)
  finishes-ok t lt lt_finished stays = record {
    begun = refl;
    file = refl;
    elsewhere = λ k ne. rw (get_or-set_other d.finished n k true false ne, get_or-set_other d.targets n k t Nothing ne) refl;
    later = omega arith;
    slot = refl;
    written = rw (get_or-set_same d.targets n t Nothing lt) (last_sent-stays _ _ (get_or d.sent n []) stays);
    finished = get_or-set_same d.finished n true false lt_finished;
    failed = tt;
  }

-- a desk where no slot was begun
abbrev fresh : (F : Type 0) → HostParts F
fresh F = record {
  begun = 0;
  reads_from = no_names;
  writes_to = no_names;
  reads = false ∷ false ∷ false ∷ false ∷ false ∷ false ∷ false ∷ false ∷ false ∷ [];
  writes = false ∷ false ∷ false ∷ false ∷ false ∷ false ∷ false ∷ false ∷ false ∷ [];
  finished = false ∷ false ∷ false ∷ false ∷ false ∷ false ∷ false ∷ false ∷ false ∷ [];
  last = Fine ∷ Fine ∷ Fine ∷ Fine ∷ Fine ∷ Fine ∷ Fine ∷ Fine ∷ Fine ∷ [];
  faults = 0 ∷ 0 ∷ 0 ∷ 0 ∷ 0 ∷ 0 ∷ 0 ∷ 0 ∷ 0 ∷ [];
  given = [] ∷ [] ∷ [] ∷ [] ∷ [] ∷ [] ∷ [] ∷ [] ∷ [] ∷ [];
  sent = [] ∷ [] ∷ [] ∷ [] ∷ [] ∷ [] ∷ [] ∷ [] ∷ [] ∷ [];
  sources = None ∷ None ∷ None ∷ None ∷ None ∷ None ∷ None ∷ None ∷ None ∷ [];
  targets = no_targets;
}

pub idle : {F : Type 0} (remaining contents : F → Option (List ℕ)) (n : ℕ) → IsIdle (host_state remaining contents (fresh F) n)
idle remaining contents zero = record { given = refl; ending = refl; left = refl; sent = refl; written = refl; reads_from = refl; writes_to = refl; reads = refl; writes = refl; finished = refl; faults = refl }
idle remaining contents (suc zero) = record { given = refl; ending = refl; left = refl; sent = refl; written = refl; reads_from = refl; writes_to = refl; reads = refl; writes = refl; finished = refl; faults = refl }
idle remaining contents (suc (suc zero)) = record { given = refl; ending = refl; left = refl; sent = refl; written = refl; reads_from = refl; writes_to = refl; reads = refl; writes = refl; finished = refl; faults = refl }
idle remaining contents (suc (suc (suc zero))) = record { given = refl; ending = refl; left = refl; sent = refl; written = refl; reads_from = refl; writes_to = refl; reads = refl; writes = refl; finished = refl; faults = refl }
idle remaining contents (suc (suc (suc (suc zero)))) = record { given = refl; ending = refl; left = refl; sent = refl; written = refl; reads_from = refl; writes_to = refl; reads = refl; writes = refl; finished = refl; faults = refl }
idle remaining contents (suc (suc (suc (suc (suc zero))))) = record { given = refl; ending = refl; left = refl; sent = refl; written = refl; reads_from = refl; writes_to = refl; reads = refl; writes = refl; finished = refl; faults = refl }
idle remaining contents (suc (suc (suc (suc (suc (suc zero)))))) = record { given = refl; ending = refl; left = refl; sent = refl; written = refl; reads_from = refl; writes_to = refl; reads = refl; writes = refl; finished = refl; faults = refl }
idle remaining contents (suc (suc (suc (suc (suc (suc (suc zero))))))) = record { given = refl; ending = refl; left = refl; sent = refl; written = refl; reads_from = refl; writes_to = refl; reads = refl; writes = refl; finished = refl; faults = refl }
idle remaining contents (suc (suc (suc (suc (suc (suc (suc (suc zero)))))))) = record { given = refl; ending = refl; left = refl; sent = refl; written = refl; reads_from = refl; writes_to = refl; reads = refl; writes = refl; finished = refl; faults = refl }
idle remaining contents (suc (suc (suc (suc (suc (suc (suc (suc (suc n))))))))) = record { given = refl; ending = refl; left = refl; sent = refl; written = refl; reads_from = refl; writes_to = refl; reads = refl; writes = refl; finished = refl; faults = refl }
