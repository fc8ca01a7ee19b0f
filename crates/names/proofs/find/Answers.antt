-- A name is found in the first of two lists of names, or past it in the second.
use Rattle.names.proofs.Requests.{in_first, in_second}
use borrow.Author.Rules.{rules}
use Rattle.names.proofs.find.Goals as goal

pub returns-in-Ok : goal.returns-in-Ok
returns-in-Ok c = search (in_first, rules)

pub returns-in-Err : goal.returns-in-Err
returns-in-Err c = search (in_second, rules)
