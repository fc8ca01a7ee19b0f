-- The loop keeps that the search from word k on finds what the whole search finds.
use Prim.Native.Nat.{◌-◌}
use mathlib.Core.Path.{◌≡◌}
use lib.ListN.{drop}
use Rattle.words.specs.Words.{scan_from}
use Rattle.words.proofs.seek.Given as goal

abbrev pub invariant-loop-k : goal.invariant-loop-k
invariant-loop-k l =
    scan_from l.words l.may (drop l.at l.text) l.k (l.hi - l.k) l.best ≡ scan_from l.words l.may (drop l.at l.text) l.lo (l.hi - l.lo) 0
