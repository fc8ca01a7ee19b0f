use mathlib.Core.Path.{◌≡◌}
use native.Mathlib.Omega.{arith}
use borrow.Author.Rules.{rules}
use Rattle.model.specs.Sets.{bit, memb}
use Rattle.sets.specs.NodeSets.{shifted}
use Rattle.bits.proofs.Words.{word_more}
use Rattle.packing.proofs.Rows.{pack_start, pack_done}
use Rattle.packing.proofs.convert.pack_word.Goals as goal

pub loop-k-init : goal.loop-k-init
loop-k-init c = search (pack_start, rules)

pub loop-k-preserved : goal.loop-k-preserved
unfolding memb
loop-k-preserved c =
    let b : c.from.result ≡ bit (shifted c.args.at c.args.bytes.now c.loop-k.k) = search rules in
    word_more _ _ _ _ c.loop-k.invariant b (omega arith)

pub returns : goal.returns
returns c = search (pack_done, rules)
