use native.Mathlib.Omega.{arith}
use Rattle.answers.proofs.Opened.{named_few}
use Rattle.answers.proofs.prepare_page.Goals as goal

pub bound-bound-requires : goal.bound-bound-requires
bound-bound-requires c = let l = c.requires.0 in (l.shaped.formed, (omega (arith, l.shaped.few), (named_few l, omega (arith, l.searchable.path.within))))

pub narrow-left-requires : goal.narrow-left-requires
narrow-left-requires c = let l = c.requires.0 in (l.searchable, named_few l)
