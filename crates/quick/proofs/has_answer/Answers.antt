use Rattle.answers.proofs.Opened.{long}
use Rattle.quick.proofs.Search.{nodes_below, zero_nodes}
use mathlib.Core.Path.{refl}
use mathlib.Core.List.{[], ◌∷◌}
use Rattle.model.specs.Tree.{size_of}
use Rattle.quick.proofs.has_answer.Goals as goal

pub goes_on-requires : goal.goes_on-requires
goes_on-requires c = let s = c.args.search.now in (c.requires.listed, nodes_below (size_of s.tree.now) s.k (0 ∷ 0 ∷ 0 ∷ []) (long c.requires.listed (0 ∷ 0 ∷ 0 ∷ []) refl) (zero_nodes c.requires))
