use borrow.Author.Rules.{rules}
use Rattle.model.proofs.Counts.{ones_bytes}
use Rattle.engines.proofs.Entries.{did_image}
use Rattle.engines.proofs.path_in.Goals as goal

pub returns : goal.returns
returns c = (search (did_image, rules), search (ones_bytes, rules))
