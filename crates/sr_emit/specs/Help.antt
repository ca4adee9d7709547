-- The texts of help.
use Rattle.std.specs.Prelude.{ℕ, List, [], ◌∷◌, ◌++◌, codes}
use Rattle.sr_emit.specs.declared.topic.Topic.{Topic}
use Rattle.sr_emit.specs.declared.topic.Topic.TheVariants as topic

-- the words that a command takes
unfoldable pub synopsis : Topic → List ℕ
synopsis topic.General = codes "sr check|trim|demo|help ..."
synopsis topic.Check = codes "sr check FORMULA PROOF [--strict] [--stats] [--proof-form text|binary]"
synopsis topic.Trim = codes "sr trim FORMULA PROOF [--lsr FILE] [--core FILE] [--keep-units] [--stats] [--proof-form text|binary] [--lsr-form text|binary]"
synopsis topic.Demo = codes "sr demo N [--formula FILE] [--proof FILE] [--lsr FILE] [--core FILE] [--stats]"
synopsis topic.Version = codes "sr --version"

-- lines, each of which is ended by a line feed
unfoldable pub text_lines : List (List ℕ) → List ℕ
text_lines [] = []
text_lines (line ∷ lines) = line ++ 10 ∷ text_lines lines

unfoldable pub help_lines : Topic → List (List ℕ)
help_lines topic.General =
    codes "sr checks proofs that SAT solvers write. Where it says \"s VERIFIED UNSAT\", no" ∷
    codes "assignment satisfies the formula. trim checks a proof by lemmas, as solvers" ∷
    codes "write it (DRAT, DPR or DSR), and writes what is needed of it as a proof with" ∷
    codes "hints. check judges a proof with hints (LRAT or LSR). demo makes an example." ∷
    codes "" ∷
    synopsis topic.Check ∷
    synopsis topic.Trim ∷
    synopsis topic.Demo ∷
    codes "sr help COMMAND" ∷
    codes "    says what a command does, and what its options mean" ∷
    codes "sr --version" ∷
    codes "    says which version of sr this is" ∷
    codes "" ∷
    codes "The status, and the last line of the report:" ∷
    codes "  0  s VERIFIED UNSAT: no assignment satisfies the formula. Or help is shown" ∷
    codes "  1  s REJECTED ..., s NO EMPTY CLAUSE: the proof is rejected" ∷
    codes "  2  e usage ...: the words of the command line are refused" ∷
    codes "  3  e text ...: a file isn't spelled as its format asks" ∷
    codes "  4  e limit ...: a limit is passed" ∷
    codes "  5  e source ...: a file can't be read" ∷
    codes "  6  none, or cut short: a file or standard output can't be written" ∷
    codes "  7  none: memory ran out" ∷
    codes "  9  none: the words of the command line can't be had from the system" ∷
    codes "Lines before the last one begin with c, and say what was counted, or why." ∷
    []
help_lines topic.Check =
    synopsis topic.Check ∷
    codes "" ∷
    codes "Judges a proof with hints, in LSR or LRAT, against a formula in DIMACS. It reads" ∷
    codes "the proof up to the first step with the empty clause. FORMULA or PROOF may be a" ∷
    codes "pipe, such as /dev/stdin." ∷
    codes "" ∷
    codes "--strict             also refuses hints after the conflict, groups that no" ∷
    codes "                     clause needs, groups that come twice, and deletions of" ∷
    codes "                     clauses that aren't live" ∷
    codes "--stats              where the proof is verified, prints counts first: of the" ∷
    codes "                     formula's clauses, and of the steps and hints that were" ∷
    codes "                     judged" ∷
    codes "--proof-form binary  the proof is in binary; else it is in text" ∷
    codes "" ∷
    codes "The status is 0 where the proof is verified: no assignment satisfies the" ∷
    codes "formula. It is 1 where the proof is rejected, and more where nothing is known" ∷
    codes "of it. sr help has the rest." ∷
    []
help_lines topic.Trim =
    synopsis topic.Trim ∷
    codes "" ∷
    codes "Checks a proof by lemmas, in DRAT, DPR or DSR, against a formula in DIMACS, from" ∷
    codes "the conflict back to the first line. It skips lemmas that nothing needs. FORMULA" ∷
    codes "or PROOF may be a pipe, such as /dev/stdin." ∷
    codes "" ∷
    codes "--lsr FILE           writes the trimmed proof there, with hints, in LSR" ∷
    codes "--core FILE          writes the needed clauses of the formula there, in DIMACS" ∷
    codes "--keep-units         passes over the deletion of a clause that has become a" ∷
    codes "                     unit, as many DRAT checkers do" ∷
    codes "--stats              where the proof is verified, prints counts first: of the" ∷
    codes "                     formula's clauses, those of the core, the lemmas that were" ∷
    codes "                     loaded, the steps and hints that are written, and the" ∷
    codes "                     deletions that were passed over" ∷
    codes "--proof-form binary  the proof is in binary; else it is in text" ∷
    codes "--lsr-form binary    the trimmed proof is written in binary; else in text" ∷
    codes "" ∷
    codes "The status is 0 where the proof is verified: no assignment satisfies the" ∷
    codes "formula. It is 1 where the proof is rejected, and more where nothing is known" ∷
    codes "of it, or where a file can't be written. sr help has the rest." ∷
    []
help_lines topic.Demo =
    synopsis topic.Demo ∷
    codes "" ∷
    codes "Makes the formula of the pigeonhole principle for N holes and its short proof by" ∷
    codes "swaps of pigeons, and trims that proof. N is a number from 2 to 60." ∷
    codes "" ∷
    codes "--formula FILE  writes the formula there, in DIMACS" ∷
    codes "--proof FILE    writes the proof that is trimmed there, in DSR" ∷
    codes "--lsr FILE      writes the trimmed proof there, with hints, in LSR" ∷
    codes "--core FILE     writes the needed clauses of the formula there, in DIMACS" ∷
    codes "--stats         prints all that trim counts; without it demo prints the holes," ∷
    codes "                the clauses and the lemmas" ∷
    codes "" ∷
    codes "The status is 0 where the proof is verified: no assignment satisfies the" ∷
    codes "formula. sr help has the rest." ∷
    []
help_lines topic.Version =
    codes "sr 0.3.0" ∷
    []

unfoldable pub help_text : Topic → List ℕ
help_text t = text_lines (help_lines t)
