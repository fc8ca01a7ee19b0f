use Rattle.narrowing.specs.Narrowing.{CoreOf, entry_of}
use Rattle.narrowing.proofs.Descent.innermost.Given as goal

abbrev pub invariant-loop-at : goal.invariant-loop-at
invariant-loop-at l = CoreOf l.self.search.tree.now l.self.search.query.now l.self.search.k l.at

abbrev pub decreases-loop-at : goal.decreases-loop-at
decreases-loop-at l = entry_of l.self.search.query.now l.at.entry
