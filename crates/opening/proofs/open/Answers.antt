use borrow.Author.Rules.{rules}
use Rattle.opening.proofs.Entries.{opened_narrow}
use Rattle.opening.proofs.Filling.{opens_next}
use Rattle.opening.proofs.open.Goals as goal

pub put-requires : goal.put-requires
put-requires c =
    let f = c.entry_at-f.ensures in
    (search rules, (search rules, opened_narrow c.args.query.now _ c.loop-e.e _ _ c.opened_entry-g.ensures f.0 c.requires (search rules) f.1.0 f.1.1 (c.type_inv.query _).fits))

pub loop-e-preserved : goal.loop-e-preserved
loop-e-preserved c = search (opens_next, rules)
