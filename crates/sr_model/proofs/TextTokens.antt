-- The first token of a text.
use Rattle.std.proofs.Common.{◌≡◌, ◌∙◌, ℕ, suc, ◌+◌, ◌-◌, ◌<◌, ◌≤◌, ◌&&◌, not, Bool, true, false, refl, sym, ap, List, [], ◌∷◌, ◌++◌, length, Option, Some, arith, length-append}
use Rattle.std.specs.Prelude.{nat_le, nat_lt, ◌==◌}
use Rattle.std.specs.List.{list_all}
use Rattle.std.proofs.lemmas.Bool.Decides.{nat_tests}
use Rattle.std.proofs.lemmas.List.{append-nil}
use Rattle.sr_model.specs.Words.{is_white, said_by}
use Rattle.sr_base.specs.Contents.{Ending, ended, failed}
use Rattle.sr_model.specs.Tokens.{over, judged}
use Rattle.sr_model.specs.TextTokens.{first_line, next_lines, run, runs_in, is_comment, tokens_of_lines, tokens_of_first, tokens_from, begins_line, said, kept_below, all_said, spelled_from, Run}
use Rattle.sr_model.proofs.Soundness.{by_test}

abbrev pub is_dark : ℕ → Bool
is_dark b = not (is_white b)

-- bytes that make a token; at the front of a line they begin no comment
pub record IsToken (begins : Bool) (t : List ℕ) : Type 0 where
  pub some : 0 < length t
  pub dark : list_all is_dark t ≡ true
  pub plain : (begins && is_comment t) ≡ false

dark_first : (b : ℕ) (bs : List ℕ) → list_all is_dark (b ∷ bs) ≡ true → (is_white b ≡ false) × (list_all is_dark bs ≡ true)
dark_first b bs h = by_test (is_white b)
    (λ e. let bad = rw e at h in absurd cc)
    (λ e. (e, rw e at h))

no_feed : (b : ℕ) → is_white b ≡ false → (b == 10) ≡ false
no_feed b w = grind (arith, nat_tests)

run_front : (ws tail : List ℕ) → list_all is_dark ws ≡ true → run tail ≡ [] → run (ws ++ tail) ≡ ws
run_front [] tail d e = e
run_front (b ∷ bs) tail d e =
    let f = dark_first b bs d in
    rw f.0 (ap (λ x. b ∷ x) (run_front bs tail f.1 e))

runs_within : (place : ℕ) (ws tail : List ℕ) → list_all is_dark ws ≡ true → runs_in false place (ws ++ tail) ≡ runs_in false (place + length ws) tail
runs_within place [] tail d = let e : place + 0 ≡ place = omega arith in rw e refl
runs_within place (b ∷ bs) tail d =
    let f = dark_first b bs d in
    let e : place + 1 + length bs ≡ place + suc (length bs) = omega arith in
    rw f.0 (runs_within (place + 1) bs tail f.1 ∙ ap (λ (k : ℕ). runs_in false k tail) e)

-- a line that a token ends, and one that goes on
line_ended : (ws more : List ℕ) → list_all is_dark ws ≡ true → (first_line (ws ++ 10 ∷ more) ≡ ws) × (next_lines (ws ++ 10 ∷ more) ≡ first_line more ∷ next_lines more)
line_ended [] more d = (refl, refl)
line_ended (b ∷ bs) more d =
    let f = dark_first b bs d in
    let n : (b == 10) ≡ false = no_feed b f.0 in
    let r = line_ended bs more f.1 in
    (rw n (ap (λ x. b ∷ x) r.0), rw n r.1)

line_goes_on : (ws : List ℕ) (s : ℕ) (more : List ℕ) → list_all is_dark ws ≡ true → (s == 10) ≡ false
    → (first_line (ws ++ s ∷ more) ≡ ws ++ s ∷ first_line more) × (next_lines (ws ++ s ∷ more) ≡ next_lines more)
line_goes_on [] s more d n = (rw n refl, rw n refl)
line_goes_on (b ∷ bs) s more d n =
    let f = dark_first b bs d in
    let k : (b == 10) ≡ false = no_feed b f.0 in
    let r = line_goes_on bs s more f.1 n in
    (rw k (ap (λ x. b ∷ x) r.0), rw k r.1)

-- the runs of a line that begins with a token
line_begins : (begins : Bool) (place b : ℕ) (bs tail : List ℕ) → IsToken begins (b ∷ bs) → run tail ≡ []
    → tokens_of_first begins place ((b ∷ bs) ++ tail) ≡ record { place = place; bytes = b ∷ bs } ∷ runs_in false (place + suc (length bs)) tail
line_begins begins place b bs tail t e = at begins t.plain
  where
    parts : (is_white b ≡ false) × (list_all is_dark bs ≡ true)
    parts = dark_first b bs t.dark

    bytes : run ((b ∷ bs) ++ tail) ≡ b ∷ bs
    bytes = run_front (b ∷ bs) tail t.dark e

    place_is : place + 1 + length bs ≡ place + suc (length bs)
    place_is = omega arith

    runs : runs_in true place ((b ∷ bs) ++ tail) ≡ record { place = place; bytes = b ∷ bs } ∷ runs_in false (place + suc (length bs)) tail
    runs =
        let step : runs_in true place ((b ∷ bs) ++ tail) ≡ record { place = place; bytes = run ((b ∷ bs) ++ tail) } ∷ runs_in false (place + 1) (bs ++ tail) = rw parts.0 refl in
        step
        ∙ ap (λ x. record { place = place; bytes = x } ∷ runs_in false (place + 1) (bs ++ tail)) bytes
        ∙ ap (λ x. record { place = place; bytes = b ∷ bs } ∷ x) (runs_within (place + 1) bs tail parts.1 ∙ ap (λ (k : ℕ). runs_in false k tail) place_is)

    at : (begins : Bool) → (begins && is_comment (b ∷ bs)) ≡ false → tokens_of_first begins place ((b ∷ bs) ++ tail) ≡ record { place = place; bytes = b ∷ bs } ∷ runs_in false (place + suc (length bs)) tail
    at false c = runs
    at true c =
        let first : (b == 99) ≡ false = rw parts.0 at c in
        let plain : is_comment ((b ∷ bs) ++ tail) ≡ false = rw (parts.0, first) refl in
        rw plain runs

-- the tokens of a text that begins with one
tokens_first : (begins : Bool) (place b : ℕ) (bs : List ℕ) (s : ℕ) (more : List ℕ) → IsToken begins (b ∷ bs) → is_white s ≡ true
    → tokens_from begins place ((b ∷ bs) ++ s ∷ more) ≡ record { place = place; bytes = b ∷ bs } ∷ tokens_from (s == 10) (place + (suc (length bs) + 1)) more
tokens_first begins place b bs s more t w = by_test (s == 10) (λ e. let is : s ≡ 10 = grind (arith, nat_tests) in rw is ended) goes_on
  where
    ended : tokens_from begins place ((b ∷ bs) ++ 10 ∷ more) ≡ record { place = place; bytes = b ∷ bs } ∷ tokens_from true (place + (suc (length bs) + 1)) more
    ended =
        let r = line_ended (b ∷ bs) more t.dark in
        let p : place + suc (length bs) + 1 ≡ place + (suc (length bs) + 1) = omega arith in
        let front : tokens_of_first begins place (b ∷ bs) ≡ record { place = place; bytes = b ∷ bs } ∷ [] =
        ap (tokens_of_first begins place) (sym (append-nil (b ∷ bs))) ∙ line_begins begins place b bs [] t refl in
        ap (λ l. tokens_of_first begins place l ++ tokens_of_lines (place + length l + 1) (next_lines ((b ∷ bs) ++ 10 ∷ more))) r.0
        ∙ ap (λ ls. tokens_of_first begins place (b ∷ bs) ++ tokens_of_lines (place + suc (length bs) + 1) ls) r.1
        ∙ ap (λ x. x ++ tokens_of_lines (place + suc (length bs) + 1) (first_line more ∷ next_lines more)) front
        ∙ ap (λ (k : ℕ). record { place = place; bytes = b ∷ bs } ∷ tokens_of_lines k (first_line more ∷ next_lines more)) p

    goes_on : (s == 10) ≡ false → tokens_from begins place ((b ∷ bs) ++ s ∷ more) ≡ record { place = place; bytes = b ∷ bs } ∷ tokens_from (s == 10) (place + (suc (length bs) + 1)) more
    goes_on e =
        let r = line_goes_on (b ∷ bs) s more t.dark e in
        let none : run (s ∷ first_line more) ≡ [] = rw w refl in
        let p : place + suc (length bs) + 1 ≡ place + (suc (length bs) + 1) = omega arith in
        let n : place + length ((b ∷ bs) ++ s ∷ first_line more) + 1 ≡ place + (suc (length bs) + 1) + length (first_line more) + 1 = omega (arith, length-append (b ∷ bs) (s ∷ first_line more)) in
        let tail : runs_in false (place + suc (length bs)) (s ∷ first_line more) ≡ runs_in true (place + suc (length bs) + 1) (first_line more) = rw w refl in
        ap (λ l. tokens_of_first begins place l ++ tokens_of_lines (place + length l + 1) (next_lines ((b ∷ bs) ++ s ∷ more))) r.0
        ∙ ap (λ ls. tokens_of_first begins place ((b ∷ bs) ++ s ∷ first_line more) ++ tokens_of_lines (place + length ((b ∷ bs) ++ s ∷ first_line more) + 1) ls) r.1
        ∙ ap (λ x. x ++ tokens_of_lines (place + length ((b ∷ bs) ++ s ∷ first_line more) + 1) (next_lines more)) (line_begins begins place b bs (s ∷ first_line more) t none)
        ∙ ap (λ (k : ℕ). (record { place = place; bytes = b ∷ bs } ∷ runs_in false (place + suc (length bs)) (s ∷ first_line more)) ++ tokens_of_lines k (next_lines more)) n
        ∙ ap (λ x. (record { place = place; bytes = b ∷ bs } ∷ x) ++ tokens_of_lines (place + (suc (length bs) + 1) + length (first_line more) + 1) (next_lines more)) (tail ∙ ap (λ (k : ℕ). runs_in true k (first_line more)) p)
        ∙ rw e refl

-- a token that a byte follows is said first, however the bytes end
first_said : (ending : Ending) (place len : ℕ) (bytes : List ℕ) (more : ℕ) (rs : List Run) → length bytes ≡ len
    → all_said ending (place + (len + 1) + more) (record { place = place; bytes = bytes } ∷ rs) ≡ judged place (said_by bytes) (all_said ending (place + (len + 1) + more) rs)
first_said ended place len bytes more rs e = refl
first_said failed place len bytes more rs e = let below : nat_lt (place + length bytes) (place + (len + 1) + more) ≡ true = grind (arith, nat_tests) in rw below refl

-- a token that a white byte ends, and the text after that
pub token_first : (t : List ℕ) (ending : Ending) (before : Option ℕ) → IsToken (begins_line before) t → (room place s : ℕ) (more : List ℕ) → is_white s ≡ true → length t + 1 ≤ room
    → spelled_from ending before room place (t ++ s ∷ more) ≡ judged place (said_by t) (spelled_from ending (Some s) (room - (length t + 1)) (place + (length t + 1)) more)
unfolding spelled_from
token_first [] ending before t room place s more w le = absurd (omega (arith, t.some))
token_first (b ∷ bs) ending before t room place s more w le = by_test (nat_le (length more) (room - (suc (length bs) + 1))) whole cut
  where
    tokens : tokens_from (begins_line before) place ((b ∷ bs) ++ s ∷ more) ≡ record { place = place; bytes = b ∷ bs } ∷ tokens_from (s == 10) (place + (suc (length bs) + 1)) more
    tokens = tokens_first (begins_line before) place b bs s more t w

    size : length ((b ∷ bs) ++ s ∷ more) ≡ suc (length bs) + 1 + length more
    size = omega (arith, length-append (b ∷ bs) (s ∷ more))

    whole : nat_le (length more) (room - (suc (length bs) + 1)) ≡ true
        → spelled_from ending before room place ((b ∷ bs) ++ s ∷ more) ≡ judged place (said_by (b ∷ bs)) (spelled_from ending (Some s) (room - (suc (length bs) + 1)) (place + (suc (length bs) + 1)) more)
    whole e =
        let f : nat_le (length ((b ∷ bs) ++ s ∷ more)) room ≡ true = grind (arith, nat_tests, size) in
        let p : place + length ((b ∷ bs) ++ s ∷ more) ≡ place + (suc (length bs) + 1) + length more = omega (arith, size) in
        let here : spelled_from ending before room place ((b ∷ bs) ++ s ∷ more) ≡ all_said ending (place + length ((b ∷ bs) ++ s ∷ more)) (tokens_from (begins_line before) place ((b ∷ bs) ++ s ∷ more)) = rw f refl in
        let there : spelled_from ending (Some s) (room - (suc (length bs) + 1)) (place + (suc (length bs) + 1)) more ≡ all_said ending (place + (suc (length bs) + 1) + length more) (tokens_from (s == 10) (place + (suc (length bs) + 1)) more) = rw e refl in
        here
        ∙ ap (λ (k : ℕ). all_said ending k (tokens_from (begins_line before) place ((b ∷ bs) ++ s ∷ more))) p
        ∙ ap (all_said ending (place + (suc (length bs) + 1) + length more)) tokens
        ∙ first_said ending place (suc (length bs)) (b ∷ bs) (length more) (tokens_from (s == 10) (place + (suc (length bs) + 1)) more) refl
        ∙ ap (judged place (said_by (b ∷ bs))) (sym there)

    cut : nat_le (length more) (room - (suc (length bs) + 1)) ≡ false
        → spelled_from ending before room place ((b ∷ bs) ++ s ∷ more) ≡ judged place (said_by (b ∷ bs)) (spelled_from ending (Some s) (room - (suc (length bs) + 1)) (place + (suc (length bs) + 1)) more)
    cut e =
        let f : nat_le (length ((b ∷ bs) ++ s ∷ more)) room ≡ false = grind (arith, nat_tests, size) in
        let below : nat_lt (place + suc (length bs)) (place + room) ≡ true = grind (arith, nat_tests) in
        let limit : place + (suc (length bs) + 1) + (room - (suc (length bs) + 1)) ≡ place + room = omega arith in
        let here : spelled_from ending before room place ((b ∷ bs) ++ s ∷ more) ≡ said (kept_below (place + room) (tokens_from (begins_line before) place ((b ∷ bs) ++ s ∷ more))) over = rw f refl in
        let there : spelled_from ending (Some s) (room - (suc (length bs) + 1)) (place + (suc (length bs) + 1)) more
        ≡ said (kept_below (place + (suc (length bs) + 1) + (room - (suc (length bs) + 1))) (tokens_from (s == 10) (place + (suc (length bs) + 1)) more)) over = rw e refl in
        let kept : kept_below (place + room) (record { place = place; bytes = b ∷ bs } ∷ tokens_from (s == 10) (place + (suc (length bs) + 1)) more)
        ≡ record { place = place; bytes = b ∷ bs } ∷ kept_below (place + room) (tokens_from (s == 10) (place + (suc (length bs) + 1)) more) = rw below refl in
        here
        ∙ ap (λ ts. said (kept_below (place + room) ts) over) tokens
        ∙ ap (λ ts. said ts over) kept
        ∙ ap (λ (k : ℕ). judged place (said_by (b ∷ bs)) (said (kept_below k (tokens_from (s == 10) (place + (suc (length bs) + 1)) more)) over)) (sym limit)
        ∙ ap (judged place (said_by (b ∷ bs))) (sym there)
