use Rattle.tables.proofs.Words.{merge_or, merge_and, merge_not}
use Rattle.tables.proofs.word.merge.Goals as goal

pub returns-in-Union : goal.returns-in-Union
returns-in-Union c = rw c.in-Union.is (merge_or _ _ c.ranges.a.fits c.ranges.b.fits)

pub returns-in-Intersection : goal.returns-in-Intersection
returns-in-Intersection c = rw c.in-Intersection.is (merge_and _ _ c.ranges.a.fits c.ranges.b.fits)

pub returns-in-Difference : goal.returns-in-Difference
returns-in-Difference c = rw c.in-Difference.is (merge_not _ _ c.ranges.a.fits c.ranges.b.fits)
