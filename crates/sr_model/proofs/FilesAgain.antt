-- Files of items and of lines that are written are read again.
use Rattle.std.proofs.Common.{◌≡◌, ◌∙◌, ℕ, suc, ◌+◌, ◌-◌, ◌≤◌, refl, ap, List, [], ◌∷◌, ◌++◌, length, map, Option, Some, None, arith, append_assoc, length-append}
use Rattle.std.specs.Prelude.{All}
use Rattle.sr_base.specs.Limits.{LimitValues}
use Rattle.sr_base.specs.Contents.{Ending}
use Rattle.sr_base.specs.declared.names.Form.{Form}
use Rattle.sr_base.specs.declared.names.Form.TheVariants.{Text, Binary}
use Rattle.sr_model.specs.Judging.{Item}
use Rattle.sr_model.specs.Tokens.{Tokens, ending_at}
use Rattle.sr_model.specs.TextTokens.{spelled_from}
use Rattle.sr_model.specs.BinaryTokens.{binary_from}
use Rattle.sr_model.specs.Reading.{reads}
use Rattle.sr_model.specs.LsrBinary.{item_in, item_tokens, SpellItemsIn}
use Rattle.sr_model.specs.Dsr.{Line, line_in, line_tokens, SpellLines}
use Rattle.sr_model.specs.Writing.{written_item, written_items, written_line, written_lines}
use Rattle.sr_model.specs.ReadAgain.{AreLimits, IsItem, IsLine, read_as}
use Rattle.sr_model.proofs.BinaryTokens.{binary_end}
use Rattle.sr_model.proofs.ItemsAgain.{items_again, binary_items_again}
use Rattle.sr_model.proofs.LinesAgain.{lines_again, binary_lines_again}
use Rattle.sr_model.proofs.FormulasAgain.{text_end}

-- the tokens of what is left of a file, where an item begins
abbrev left : ℕ → Form → Ending → Option ℕ → ℕ → ℕ → List ℕ → Tokens
left lists Text ending before room place bytes = spelled_from ending before room place bytes
left lists Binary ending before room place bytes = binary_from ending lists 0 room place bytes

left_end : (lists : ℕ) (form : Form) (ending : Ending) (before : Option ℕ) (room place : ℕ) → left lists form ending before room place [] ≡ ending_at ending place
left_end lists Text ending before room place = text_end ending before room place
left_end lists Binary ending before room place = binary_end ending lists 0 room place

item_again : (form : Form) (lim : LimitValues) (it : Item) (ending : Ending) (before : Option ℕ) (room place : ℕ) (more : List ℕ) → AreLimits lim → IsItem lim it → length (written_item form it) ≤ room
    → item_in form lim (left 2 form ending before room place (written_item form it ++ more))
    ≡ reads (Some (read_as form it)) (left 2 form ending (Some 10) (room - length (written_item form it)) (place + length (written_item form it)) more)
item_again Text lim it ending before room place more a i fits = items_again lim it ending before room place more a i fits
item_again Binary lim it ending before room place more a i fits = binary_items_again lim it ending room place more a i fits

items_spelled : (form : Form) (lim : LimitValues) (items : List Item) (ending : Ending) (before : Option ℕ) (room place : ℕ) (more : List ℕ) → AreLimits lim → All (IsItem lim) items → length (written_items form items) ≤ room
    → (rest : Tokens) × SpellItemsIn form lim (left 2 form ending before room place (written_items form items ++ more)) (map (read_as form) items) rest × (more ≡ [] → rest ≡ ending_at ending (place + length (written_items form items)))
items_spelled form lim [] ending before room place more a i fits = (
  left 2 form ending before room place more,
  refl,
  λ e. ap (left 2 form ending before room place) e ∙ left_end 2 form ending before room place ∙ ap (ending_at ending) (omega arith),
)
items_spelled form lim (it ∷ items) ending before room place more a i fits =
    let first : List ℕ = written_item form it in
    let size : length (written_items form (it ∷ items)) ≡ length first + length (written_items form items) = length-append first (written_items form items) in
    let bytes : written_items form (it ∷ items) ++ more ≡ first ++ (written_items form items ++ more) = append_assoc first (written_items form items) more in
    let r = items_spelled form lim items ending (Some 10) (room - length first) (place + length first) more a (λ k d h. i (suc k) d (omega arith)) (omega arith) in
    let here = item_again form lim it ending before room place (written_items form items ++ more) a (i 0 it (omega arith)) (omega arith) in (
      r.0,
      (
        left 2 form ending (Some 10) (room - length first) (place + length first) (written_items form items ++ more),
        ap (λ bs. item_in form lim (left 2 form ending before room place bs)) bytes ∙ here,
        r.1,
      ),
      λ e. r.2 e ∙ ap (ending_at ending) (omega arith),
    )

pub item_files_again : (form : Form) (lim : LimitValues) (items : List Item) (ending : Ending) (more : List ℕ) → AreLimits lim → All (IsItem lim) items → length (written_items form items) ≤ lim.bytes
    → (rest : Tokens) × SpellItemsIn form lim (item_tokens form lim.bytes (record { bytes = written_items form items ++ more; ending = ending })) (map (read_as form) items) rest × (more ≡ [] → rest ≡ ending_at ending (length (written_items form items)))
item_files_again Text lim items ending more a i fits =
    let r = items_spelled Text lim items ending None lim.bytes 0 more a i fits in (r.0, r.1, λ e. r.2 e ∙ ap (ending_at ending) (omega arith))
item_files_again Binary lim items ending more a i fits =
    let r = items_spelled Binary lim items ending None lim.bytes 0 more a i fits in (r.0, r.1, λ e. r.2 e ∙ ap (ending_at ending) (omega arith))

line_again : (form : Form) (lim : LimitValues) (l : Line) (ending : Ending) (before : Option ℕ) (room place : ℕ) (more : List ℕ) → AreLimits lim → IsLine lim.vars l → length (written_line form l) ≤ room
    → line_in form lim (left 1 form ending before room place (written_line form l ++ more))
    ≡ reads (Some l) (left 1 form ending (Some 10) (room - length (written_line form l)) (place + length (written_line form l)) more)
line_again Text lim l ending before room place more a i fits = lines_again lim l ending before room place more a i fits
line_again Binary lim l ending before room place more a i fits = binary_lines_again lim l ending room place more a i fits

lines_spelled : (form : Form) (lim : LimitValues) (lines : List Line) (ending : Ending) (before : Option ℕ) (room place : ℕ) (more : List ℕ) → AreLimits lim → All (IsLine lim.vars) lines → length (written_lines form lines) ≤ room
    → (rest : Tokens) × SpellLines form lim (left 1 form ending before room place (written_lines form lines ++ more)) lines rest × (more ≡ [] → rest ≡ ending_at ending (place + length (written_lines form lines)))
lines_spelled form lim [] ending before room place more a i fits = (
  left 1 form ending before room place more,
  refl,
  λ e. ap (left 1 form ending before room place) e ∙ left_end 1 form ending before room place ∙ ap (ending_at ending) (omega arith),
)
lines_spelled form lim (l ∷ lines) ending before room place more a i fits =
    let first : List ℕ = written_line form l in
    let size : length (written_lines form (l ∷ lines)) ≡ length first + length (written_lines form lines) = length-append first (written_lines form lines) in
    let bytes : written_lines form (l ∷ lines) ++ more ≡ first ++ (written_lines form lines ++ more) = append_assoc first (written_lines form lines) more in
    let r = lines_spelled form lim lines ending (Some 10) (room - length first) (place + length first) more a (λ k d h. i (suc k) d (omega arith)) (omega arith) in
    let here = line_again form lim l ending before room place (written_lines form lines ++ more) a (i 0 l (omega arith)) (omega arith) in (
      r.0,
      (
        left 1 form ending (Some 10) (room - length first) (place + length first) (written_lines form lines ++ more),
        ap (λ bs. line_in form lim (left 1 form ending before room place bs)) bytes ∙ here,
        r.1,
      ),
      λ e. r.2 e ∙ ap (ending_at ending) (omega arith),
    )

pub line_files_again : (form : Form) (lim : LimitValues) (lines : List Line) (ending : Ending) (more : List ℕ) → AreLimits lim → All (IsLine lim.vars) lines → length (written_lines form lines) ≤ lim.bytes
    → (rest : Tokens) × SpellLines form lim (line_tokens form lim.bytes (record { bytes = written_lines form lines ++ more; ending = ending })) lines rest × (more ≡ [] → rest ≡ ending_at ending (length (written_lines form lines)))
line_files_again Text lim lines ending more a i fits =
    let r = lines_spelled Text lim lines ending None lim.bytes 0 more a i fits in (r.0, r.1, λ e. r.2 e ∙ ap (ending_at ending) (omega arith))
line_files_again Binary lim lines ending more a i fits =
    let r = lines_spelled Binary lim lines ending None lim.bytes 0 more a i fits in (r.0, r.1, λ e. r.2 e ∙ ap (ending_at ending) (omega arith))
