use Rattle.narrowing.proofs.Calls.{suits_zeros, always_passed}
use Rattle.narrowing.proofs.Search.node.Goals as goal

pub node-requires : goal.node-requires
node-requires c = suits_zeros c.requires

pub returns : goal.returns
returns c = always_passed _ _ c.node.ensures.0 c.requires
