use Rattle.output.proofs.Page.{after_is}
use Rattle.std.proofs.Common.{rules}
use Rattle.output.proofs.after_page.Goals as goal

pub returns : goal.returns
returns c = search (after_is, rules)
