-- The words of text: what a token says, byte for byte.
use Rattle.std.specs.Prelude.{ℕ, ◌+◌, ◌-◌, ◌*◌, ◌^◌, ◌==◌, min, true, false, Option, Some, None, Result, Ok, Err, if◌then◌else◌}
use Rattle.sr_scan.specs.declared.lexeme.Lexeme.{Lexeme}
use Rattle.sr_scan.specs.declared.lexeme.Lexeme.TheVariants as lex
use Rattle.sr_scan.specs.declared.lexeme.Gap.{Gap}
use Rattle.sr_scan.specs.declared.lexeme.Gap.TheVariants.{Line, Words, Comment}
use Rattle.sr_model.specs.declared.tokens.Word.{Word}
use Rattle.sr_model.specs.declared.tokens.Word.TheVariants as word
use Rattle.sr_model.specs.Words.{is_white, is_digit, number_word}
use Rattle.sr_base.specs.declared.names.TextKind.{TextKind}
use Rattle.sr_base.specs.declared.names.TextKind.TheVariants.{BadNumber}

-- ten times the size and a digit, up to the first size that is too wide
abbrev pub grown : ℕ → ℕ → ℕ
grown size b = min (10 * size + (b - 48)) (2 ^ 63)

-- the lexeme of a token's first byte
abbrev pub begun : ℕ → Lexeme
begun b =
    if is_digit b then lex.Digits false (b - 48)
    else (if b == 45 then lex.Sign
    else (if b == 100 then lex.D
    else (if b == 112 then lex.P
    else (if b == 99 then lex.C
    else (if b == 37 then lex.Percent
    else lex.Other)))))

-- the lexeme with one more byte
abbrev pub extended : Lexeme → ℕ → Lexeme
extended lex.Sign b = if is_digit b then lex.Digits true (b - 48) else lex.Malformed
extended (lex.Digits negative size) b = if is_digit b then lex.Digits negative (grown size b) else lex.Malformed
extended lex.Malformed b = lex.Malformed
extended lex.C b = if b == 110 then lex.Cn else lex.Other
extended lex.Cn b = if b == 102 then lex.Cnf else lex.Other
extended _ b = lex.Other

-- what a whole token says
abbrev pub word_of : Lexeme → Result Word TextKind
word_of lex.Sign = Err BadNumber
word_of (lex.Digits negative size) = number_word negative size
word_of lex.Malformed = Err BadNumber
word_of lex.D = Ok word.Del
word_of lex.P = Ok word.Header
word_of lex.C = Ok word.Other
word_of lex.Cn = Ok word.Other
word_of lex.Cnf = Ok word.Cnf
word_of lex.Percent = Ok word.Percent
word_of lex.Other = Ok word.Other

-- where a byte stands between tokens: no token of its line came yet, some came, or in a comment
abbrev pub gap_at : Option ℕ → Gap
gap_at None = Line
gap_at (Some b) = if b == 10 then Line else Words

-- the gap after one more byte, or none where the byte begins a token
abbrev pub gap_after : Gap → ℕ → Option Gap
gap_after Comment b = Some (if b == 10 then Line else Comment)
gap_after Line b = if is_white b then Some Line else (if b == 99 then Some Comment else None)
gap_after Words b = if is_white b then Some (if b == 10 then Line else Words) else None
