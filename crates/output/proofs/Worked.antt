-- For the reader: what the program prints for the teaching job of document 01, for a party's job and for no bytes at all, by computation.
use Rattle.std.proofs.Common.{◌≡◌, [], ◌∷◌, refl}
use Rattle.model.specs.Sets.{any}
use Rattle.model.specs.Axes.{climbs, child, right, following_sibling, descendant, following, preceding, descendant_or_self, ancestor_or_self, axis, passes, steps}
use Rattle.model.specs.Meaning.{pairs_over, holds_over}
use Rattle.model.specs.QueryTable.{parse, parse_over, grow, parsed, parsed_at}
use Rattle.model.specs.Results.{assigned, related}
use Rattle.model.specs.Answers.{satisfied, answers}
use Rattle.model.specs.Refusals.{lowest, verdict}
use Rattle.model.specs.Kinds.{is_path, left_path, left_expr, right_path, right_expr, names_variable}
use Rattle.model.specs.Checks.{bad_parent, tree_checks_at, bad_entry, uses, query_checks}
use Rattle.model.specs.Parties.{shared_checks, party_checks, sees, rank, rows_of, seen_table}
use Rattle.model.specs.Warehouse.{warehouse, bay_and_pallet}
use Rattle.job.specs.JobFile.{number_at, numbers, trailer_size, party_of, bad_length, bad_magic, outside, overlap, part_checks, file_checks, job_of, widened}
use Rattle.job.proofs.Worked.{bytes, teaching, shared_warehouse, for_party}
use Rattle.lines.specs.Lines.{digits, decimal, field, row_line, end_line, refused_line}
use Rattle.output.specs.Output.{shared_of, shared_in, party_in, tree_in, query_in, columns_in, job_checks, job_verdict, answers_in, output_of}

-- the teaching job: 1 2, 1 3, 4 5, end 3, a line each
pub teaching_output : output_of teaching
    ≡ 49 ∷ 32 ∷ 50 ∷ 10 ∷ 49 ∷ 32 ∷ 51 ∷ 10 ∷ 52 ∷ 32 ∷ 53 ∷ 10 ∷ 101 ∷ 110 ∷ 100 ∷ 32 ∷ 51 ∷ 10 ∷ []
unfolding output_of job_verdict job_checks answers_in tree_in shared_in shared_of party_in query_in columns_in widened seen_table sees rank rows_of shared_checks party_checks teaching bytes warehouse bay_and_pallet job_of file_checks bad_length bad_magic trailer_size party_of part_checks outside overlap numbers number_at tree_checks_at query_checks bad_parent bad_entry uses is_path left_path left_expr right_path right_expr names_variable lowest verdict answers satisfied related assigned parsed_at parsed grow parse_over parse pairs_over holds_over steps passes axis child right following_sibling descendant following preceding descendant_or_self ancestor_or_self climbs any row_line end_line refused_line field decimal digits
teaching_output = refl

-- the same query over the warehouse with owners: party 1 sees neither the second bay nor the first one's second pallet, and gets 1 2,
-- end 1
pub party_output : output_of (for_party 1) ≡ 49 ∷ 32 ∷ 50 ∷ 10 ∷ 101 ∷ 110 ∷ 100 ∷ 32 ∷ 49 ∷ 10 ∷ []
unfolding output_of job_verdict job_checks answers_in tree_in shared_in shared_of party_in query_in columns_in widened seen_table sees rank rows_of shared_checks party_checks for_party shared_warehouse bytes bay_and_pallet job_of file_checks bad_length bad_magic trailer_size party_of part_checks outside overlap numbers number_at tree_checks_at query_checks bad_parent bad_entry uses is_path left_path left_expr right_path right_expr names_variable lowest verdict answers satisfied related assigned parsed_at parsed grow parse_over parse pairs_over holds_over steps passes axis child right following_sibling descendant following preceding descendant_or_self ancestor_or_self climbs any row_line end_line refused_line field decimal digits
party_output = refl

-- no bytes: refused 1 0
pub empty_output : output_of [] ≡ 114 ∷ 101 ∷ 102 ∷ 117 ∷ 115 ∷ 101 ∷ 100 ∷ 32 ∷ 49 ∷ 32 ∷ 48 ∷ 10 ∷ []
unfolding output_of job_verdict job_checks file_checks bad_length trailer_size number_at verdict refused_line field decimal digits
empty_output = refl
