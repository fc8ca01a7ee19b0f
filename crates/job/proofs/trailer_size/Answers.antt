use borrow.Author.Rules.{rules}
use Rattle.job.proofs.Files.{size_new, size_old}
use native.Mathlib.Omega.{arith}
use Rattle.job.proofs.trailer_size.Goals as goal

pub returns-then-magic-eq-OWNED : goal.returns-then-magic-eq-OWNED
returns-then-magic-eq-OWNED c = (search (size_new, rules), (omega arith, omega arith))

pub returns-else-magic-eq-OWNED : goal.returns-else-magic-eq-OWNED
returns-else-magic-eq-OWNED c = (search (size_old, rules), (omega arith, omega arith))
