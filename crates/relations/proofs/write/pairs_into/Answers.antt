use native.Mathlib.Omega.{arith}
use Rattle.relations.proofs.Services.{tables_five, last_counted, did_pairs}
use Rattle.relations.proofs.write.pairs_into.Goals as goal

pub room-requires : goal.room-requires
room-requires c = let p = c.requires in (omega (arith, p.0.last, p.0.shaped.few), omega (arith, last_counted _ _ _ _ c.counts.ensures p.0, tables_five _ _ _ p.0))

pub returns : goal.returns
returns c = did_pairs _ _ _ _ _ c.table.ensures c.requires.1 (λ i. (c.type_inv.to i).fits)
