-- What the program printed before files had owners and parties (document 02, §8), for one theorem alone: a file of old prints what it
-- printed (proofs/Before.antt: printed_as_before). It says what the definitions said then, with the trailer's places counted from its start.
use Rattle.std.specs.Prelude.{ℕ, ◌+◌, ◌-◌, cond, not, ◌||◌, List, ◌∷◌, ◌++◌, length, ◌==◌, nat_lt}
use Rattle.model.specs.Answers.{Row, answers}
use Rattle.model.specs.Refusals.{Check, refuse, verdict}
use Rattle.model.specs.Checks.{tree_checks, query_checks}
use Rattle.model.specs.declared.Reply.{Reply}
use Rattle.job.specs.JobFile.{number_at, numbers, pointer_at, magic_of, span_of, part_checks}
use Rattle.lines.specs.Lines.{end_line, refused_line}
use Rattle.output.specs.Output.{lines_of}

-- the byte at which the trailer began: the last 12 bytes
abbrev pub start_before : List ℕ → ℕ
start_before file = length file - 12

-- the numbers of the part that the trailer told at a byte
abbrev pub part_before : List ℕ → ℕ → List ℕ
part_before file at = numbers file (span_of (length file) (pointer_at file at)).start (pointer_at file at).count

-- the tree table, of two numbers a node
abbrev pub tree_before : List ℕ → List ℕ
tree_before file = part_before file (start_before file)

-- the query table
abbrev pub query_before : List ℕ → List ℕ
query_before file = part_before file (start_before file + 4)

-- the number of variables (document 01: the column count)
abbrev pub columns_before : List ℕ → ℕ
columns_before file = number_at file (start_before file + 8)

-- 1 to 4
unfoldable pub file_checks_before : List ℕ → List Check
file_checks_before file =
    refuse 1 (nat_lt (length file) 12 || nat_lt 4096 (length file))
    ∷ refuse 2 (not (magic_of file == 20564))
    ∷ part_checks (length file) (start_before file) (pointer_at file (start_before file)) (pointer_at file (start_before file + 4))

-- 1 to 15
abbrev pub verdict_before : List ℕ → Reply
verdict_before file =
    verdict (file_checks_before file ++ (tree_checks (tree_before file) ++ query_checks (query_before file) 1 (columns_before file)))

-- the answers (document 01: the pick list)
abbrev pub answers_before : List ℕ → List Row
answers_before file = answers (tree_before file) (query_before file) (columns_before file)

-- every byte that the program printed
unfoldable pub output_before : List ℕ → List ℕ
output_before file =
    cond ((verdict_before file).number == 0)
    (lines_of (answers_before file) ++ end_line (length (answers_before file)))
    (refused_line (verdict_before file).number (verdict_before file).place)
