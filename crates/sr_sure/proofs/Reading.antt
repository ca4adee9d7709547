-- What a read gives.
use Rattle.std.proofs.Common.{◌≡◌, ◌∙◌, ℕ, ◌+◌, ◌<◌, ◌≤◌, min, Bool, true, List, [], ◌++◌, length, take, drop, Option, Some, None, refl, sym, ap, arith, length-drop, length-take, length-append}
use Rattle.std.specs.Prelude.{if◌then◌else◌}
use Rattle.std.proofs.lemmas.List.{take-append-drop, drop-drop, take_at, nil_from_length}
use Rattle.std.proofs.Math.Seq.{take-add}
use Rattle.sr_base.specs.Contents.{ended}
use Rattle.sr_desk.specs.Calls.{Hands, Moves, ending_after}
use Rattle.sr_sure.specs.Sure.{text_by, reads_by, state_by}
use Rattle.sr_sure.specs.declared.standing.Standing.{Standing}

-- the front of the buffer is what is given
given_front : (text buf old : List ℕ) (place n : ℕ) → n ≤ length (drop place text) → buf ≡ take n (drop place text) ++ drop n old → take n buf ≡ take n (drop place text)
given_front text buf old place n within front =
    ap (take n) front ∙ take_at (take n (drop place text)) (drop n old) n (omega (arith, length-take n (drop place text)))

given_more : (text : List ℕ) (place n : ℕ) → take (place + n) text ≡ take place text ++ take n (drop place text)
given_more text place n = take-add place n text

pub moves : (text buf old : List ℕ) (place n : ℕ) → n ≡ min (length (drop place text)) (length old) → buf ≡ take n (drop place text) ++ drop n old
    → Moves (Some (drop place text)) (Some (drop (place + n) text)) n buf
moves text buf old place n count front = record { moved = moved; none = none }
  where
    within : n ≤ length (drop place text)
    within = omega arith

    moved : (left : List ℕ) → Some (drop place text) ≡ Some left → (rest : List ℕ) × (left ≡ take n buf ++ rest) × (Some (drop (place + n) text) ≡ Some rest)
    moved left e =
        let is : drop place text ≡ left = cc in (
          drop (place + n) text,
          sym is ∙ sym (take-append-drop n (drop place text)) ∙ ap (λ l. take n (drop place text) ++ l) (drop-drop n place text) ∙ ap (λ l. l ++ drop (place + n) text) (sym (given_front text buf old place n within front)),
          refl,
        )

    none : (left : List ℕ) → Some (drop (place + n) text) ≡ Some left → 0 < length buf → n ≡ 0 → left ≡ []
    none left e some zero =
        let is : drop (place + n) text ≡ left = cc in
        let size : length buf ≡ length (take n (drop place text)) + length (drop n old) = ap length front ∙ length-append (take n (drop place text)) (drop n old) in
        sym is ∙ nil_from_length (drop (place + n) text) (omega (arith, length-drop (place + n) text, length-drop place text, length-take n (drop place text), length-drop n old))

pub handed : (from to : Option (List ℕ)) (F P : List ℕ) (s : Standing) (n : ℕ) (e : Bool) (buf old : List ℕ) → reads_by s.usage ≡ true → n ≡ min (length (drop s.place (text_by F P s.usage))) (length old)
    → buf ≡ take n (drop s.place (text_by F P s.usage)) ++ drop n old → (if e then Some ended else None) ≡ ending_after n buf
    → Hands (state_by from to F P s) (state_by from to F P (record s { place = s.place + n; ended = e })) n buf
handed from to F P s n e buf old reads count front end = record {
  given = given_more (text_by F P s.usage) s.place n ∙ ap (λ l. take s.place (text_by F P s.usage) ++ l) (sym (given_front (text_by F P s.usage) buf old s.place n (omega arith) front));
  ending = end;
  left = rw reads (moves (text_by F P s.usage) buf old s.place n count front);
}
