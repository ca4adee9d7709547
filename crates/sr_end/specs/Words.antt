-- The words of a command line, and what is made of what the system hands out.
use Rattle.std.specs.Prelude.{◌≡◌, ◌↔◌, ℕ, true, cond, List, map, drop, string_bytes, Result, Ok, Err}
use Rattle.std.specs.IoError.{error_kind}
use Rattle.std.specs.Vec.Iter.{into_iter_items}
use Rattle.std.specs.declared.io.Error.{Error}
use Rattle.std.specs.declared.io.ErrorKind.TheVariants.{OutOfMemory}
use Rattle.std.specs.declared.vec.IntoIter.{IntoIter}
use Rattle.std.specs.declared.string.String.{String}
use Rattle.std.specs.Global.{Global}
use Rattle.sr_end.specs.declared.line.CommandLine.{CommandLine}
use Rattle.sr_end.specs.declared.line.NoWords.{NoWords}

-- the first argument is the program's name
abbrev pub words_of : CommandLine → List (List ℕ)
words_of c = drop 1 (map string_bytes c.args.items)

-- the status where there are no words
abbrev pub status_without : NoWords → ℕ
status_without n = cond n.is_memory 7 9

-- all arguments are kept; there are no words where memory ran out, or where none were handed out
abbrev pub Takes : Result (IntoIter (String Global) Global) Error → Result CommandLine NoWords → Type 0
Takes (Ok args) (Ok c) = c.args.items ≡ into_iter_items args
Takes (Ok args) (Err n) = n.is_memory ≡ true
Takes (Err e) (Ok c) = ⊥
Takes (Err e) (Err n) = (n.is_memory ≡ true) ↔ (error_kind e ≡ OutOfMemory)
