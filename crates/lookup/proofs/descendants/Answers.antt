use Rattle.std.proofs.lemmas.Result.{err_from_is_err_and}
use Rattle.lookup.proofs.Results.{lookup_accepted, nodes_over, nodes_counted, none_over, none_counted}
use Rattle.lookup.proofs.descendants.Goals as goal

pub returns-in_err-nodes : goal.returns-in_err-nodes
returns-in_err-nodes c =
    let p = err_from_is_err_and c.from_residual.result c.from_residual.ensures.1 in
    rw (p.1, p.2) (none_counted _ _ _ _ _ _ c.from.ensures _ c.in_err-nodes.ensures, none_over _ _ _ _ _ _ c.from.ensures _ c.in_err-nodes.ensures)

pub put-requires : goal.put-requires
put-requires c = lookup_accepted _ _ _ _ _ c.in_ok-nodes.ensures.0

pub returns : goal.returns
returns c =
    let j = c.in_ok-nodes.ensures in
    (nodes_counted _ _ _ _ _ _ c.from.ensures _ j.0 j.1 _ c.count_of.ensures, nodes_over _ _ _ _ _ _ c.from.ensures _ j.0 j.1 _ c.put.ensures)
