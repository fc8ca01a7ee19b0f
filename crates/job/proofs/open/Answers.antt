-- An accepted file has its parts in it.
use Rattle.job.proofs.Files.{refused_is, accepted_is, accepted_length, accepted_tree, accepted_query}
use Rattle.std.proofs.lemmas.Result.{err_from_is_err_and}
use borrow.Author.Rules.{rules}
use Rattle.job.proofs.open.Goals as goal

pub returns-in_err-check : goal.returns-in_err-check
returns-in_err-check c =
    let p = err_from_is_err_and c.from_residual.result c.from_residual.ensures.1 in
    rw (p.1, p.2) (refused_is _ _ c.in_err-check.ensures)

pub trailer_of-t-requires : goal.trailer_of-t-requires
trailer_of-t-requires c = search (accepted_length, rules)

pub span_of-requires : goal.span_of-requires
span_of-requires c = search (accepted_tree, rules)

pub span_of-requires-2 : goal.span_of-requires-2
span_of-requires-2 c = search (accepted_query, rules)

pub returns : goal.returns
returns c = search (accepted_is, rules)
