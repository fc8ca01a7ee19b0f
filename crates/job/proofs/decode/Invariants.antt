-- The loop keeps that the first i numbers are written over the front.
use Rattle.job.specs.JobFile.{numbers}
use lib.ListN.{drop}
use mathlib.Core.List.{◌++◌}
use mathlib.Core.Path.{◌≡◌}
use Rattle.job.proofs.decode.Given as goal

abbrev pub invariant-loop-i : goal.invariant-loop-i
invariant-loop-i l = l.out ≡ numbers l.file l.start l.i ++ drop l.i l.initial.out
