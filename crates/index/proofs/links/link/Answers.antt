use Prim.Native.Nat.{◌≤◌}
use native.Mathlib.Omega.{arith}
use lib.ListN.{get_or}
use borrow.Author.Rules.{rules}
use mathlib.Core.Path.{refl}
use Rattle.index.proofs.Linking.{linking_next, linking_rising, linking_holds, linking_count_small, linking_whole, linking_firsts, linking_counted}
use Rattle.index.proofs.links.link.Goals as goal

pub place_of-k-requires : goal.place_of-k-requires
place_of-k-requires c = (search (linking_rising, rules), search (linking_holds, rules))

pub overflow_add-counts : goal.overflow_add-counts
overflow_add-counts c = let low : get_or c.loop-x.counts c.place_of-k.result 0 ≤ 256 = search (linking_count_small, rules) in omega arith

pub loop-x-preserved : goal.loop-x-preserved
loop-x-preserved c = linking_next _ _ _ _ _ _ _ _ _ c.loop-x.invariant _ _ _ c.loop-x-test.true refl c.place_of-k.ensures.0 c.place_of-k.ensures.1 c.tag.ensures

pub returns : goal.returns
returns c = (search (linking_whole, rules), (search (linking_firsts, rules), search (linking_counted, rules)))
