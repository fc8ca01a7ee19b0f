use Rattle.tree.specs.Links.{links}
use Rattle.moves.proofs.Passes.{link_min}
use Rattle.moves.proofs.pass.link_of.Goals as goal

pub returns : goal.returns
returns c = link_min (links c.args.link.now) _ _ _ c.from.ensures c.min.ensures
