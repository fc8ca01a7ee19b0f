use Rattle.reversal.specs.Service.{reversed_query}
use Rattle.reversal.proofs.Building.{makes}
use Rattle.reversal.proofs.reverse_into.Goals as goal

pub returns : goal.returns
unfolding reversed_query
returns c = makes _ _ _ c.args.b.now.sound c.requires.2 c.reverse_path.ensures
