-- What the program prints for a job file, every byte of it (document 01: 'The job file').
use Rattle.std.specs.Prelude.{ℕ, Bool, cond, List, ◌++◌, map, length, ◌==◌}
use Rattle.model.specs.Answers.{Row, answers}
use Rattle.model.specs.Pages.{flat}
use Rattle.model.specs.Refusals.{Check, verdict}
use Rattle.model.specs.Checks.{query_checks}
use Rattle.model.specs.Parties.{shared_checks, party_checks, seen_table}
use Rattle.model.specs.declared.Reply.{Reply}
use Rattle.job.specs.declared.Span.{Span}
use Rattle.job.specs.JobFile.{numbers, file_checks, job_of, widened}
use Rattle.lines.specs.Lines.{row_line, end_line, refused_line}

-- the shared table of a file's tree part: without owners it has two numbers a node, and all nodes are common
unfoldable pub shared_of : List ℕ → Span → Bool → List ℕ
shared_of file tree owners =
    cond owners (numbers file tree.start tree.count) (widened (numbers file tree.start tree.count))

-- the shared table that a file holds; no numbers where the file is refused
unfoldable pub shared_in : List ℕ → List ℕ
shared_in file = shared_of file (job_of file).tree (job_of file).owners

-- the party that it is for
unfoldable pub party_in : List ℕ → ℕ
party_in file = (job_of file).party

-- the tree that this party sees of it
unfoldable pub tree_in : List ℕ → List ℕ
tree_in file = seen_table (shared_in file) (party_in file)

-- the query table that it holds
unfoldable pub query_in : List ℕ → List ℕ
query_in file = numbers file (job_of file).query.start (job_of file).query.count

-- the query's number of variables (document 01: the column count)
unfoldable pub columns_in : List ℕ → ℕ
columns_in file = (job_of file).columns

-- the checks of a file: 1 to 4 of the file itself, 5 to 7 and 30 of its shared table, 31 of its party, and 8 to 15 of its query, for which
-- answers are to be listed
unfoldable pub job_checks : List ℕ → List Check
job_checks file =
    file_checks file ++ ((shared_checks (shared_in file) ++ party_checks (party_in file)) ++ query_checks (query_in file) 1 (columns_in file))

-- the verdict on a file
unfoldable pub job_verdict : List ℕ → Reply
job_verdict file = verdict (job_checks file)

-- the answers of the query that a file holds (document 01: its pick list)
unfoldable pub answers_in : List ℕ → List Row
answers_in file = answers (tree_in file) (query_in file) (columns_in file)

-- rows, a line each
abbrev pub lines_of : List Row → List ℕ
lines_of rows = flat (map row_line rows)

-- every byte that the program prints for a file: its answers a line each and the line after them, or the one line of a refusal
unfoldable pub output_of : List ℕ → List ℕ
output_of file =
    cond ((job_verdict file).number == 0)
    (lines_of (answers_in file) ++ end_line (length (answers_in file)))
    (refused_line (job_verdict file).number (job_verdict file).place)
