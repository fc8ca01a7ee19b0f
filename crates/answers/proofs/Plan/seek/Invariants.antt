use Rattle.model.specs.Answers.{keep, all_rows, satisfied}
use mathlib.Core.Path.{◌≡◌}
use lib.ListN.{length}
use Rattle.model.specs.Tree.{size_of}
use Rattle.answers.specs.Search.{ahead, Stands}
use Rattle.answers.proofs.Plan.seek.Given as goal

abbrev pub invariant-loop-at : goal.invariant-loop-at
invariant-loop-at l =
    let s = l.self.search in
    Stands (size_of s.tree.now) s.k l.at
    × (keep (satisfied s.tree.now s.query.now) (ahead s.k (all_rows (size_of s.tree.now) s.k) l.at)
    ≡ keep (satisfied s.tree.now s.query.now) (ahead s.k (all_rows (size_of s.tree.now) s.k) l.initial.at))

abbrev pub decreases-loop-at : goal.decreases-loop-at
decreases-loop-at l = let s = l.self.search in length (ahead s.k (all_rows (size_of s.tree.now) s.k) l.at)
