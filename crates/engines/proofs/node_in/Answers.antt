use borrow.Author.Rules.{rules}
use Rattle.model.proofs.Counts.{ones_bytes}
use Rattle.engines.proofs.Entries.{did_node}
use Rattle.engines.proofs.node_in.Goals as goal

pub returns : goal.returns
returns c = (search (did_node, rules), search (ones_bytes, rules))
