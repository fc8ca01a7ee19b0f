use Rattle.output.proofs.Page.{table_owned, table_widened}
use Rattle.std.proofs.Common.{sym, ◌∙◌, arith, length-take-le, rules}
use Rattle.output.proofs.shared_table.Goals as goal

pub returns-then-owners : goal.returns-then-owners
returns-then-owners c = table_owned _ _ _ _ _ c.decode.ensures (c.decode.auto.out ∙ c.requires.1.1) (search rules)

pub slice_bounds-widen-end : goal.slice_bounds-widen-end
slice_bounds-widen-end c = sym (length-take-le _ _ (search rules))

pub widen-requires : goal.widen-requires
widen-requires c = let e = length-take-le c.args.tree.count c.decode-2.new.out (search rules) in (omega (arith, e, c.requires.1.0), search rules)

pub returns : goal.returns
returns c = search (table_widened, rules)
