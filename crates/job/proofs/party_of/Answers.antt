use Rattle.job.proofs.Files.{party_fits, party_new, party_old}
use native.Mathlib.Omega.{arith}
use borrow.Author.Rules.{rules}
use Rattle.job.proofs.party_of.Goals as goal

pub number_at-requires : goal.number_at-requires
number_at-requires c = omega (arith, party_fits _ _ _ c.requires c.if-magic-eq-OWNED.true)

pub returns-then-magic-eq-OWNED : goal.returns-then-magic-eq-OWNED
returns-then-magic-eq-OWNED c = search (party_new, rules)

pub returns-else-magic-eq-OWNED : goal.returns-else-magic-eq-OWNED
returns-else-magic-eq-OWNED c = search (party_old, rules)
