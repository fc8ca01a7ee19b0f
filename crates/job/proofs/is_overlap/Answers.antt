-- The law on two parts that share a byte.
use Rattle.job.proofs.Files.{overlap_is}
use Rattle.job.proofs.is_overlap.Goals as goal

pub returns : goal.returns
returns c = let a = c.requires in overlap_is _ _ _ a.0 a.1
