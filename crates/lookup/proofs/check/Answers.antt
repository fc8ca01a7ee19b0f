use Rattle.std.proofs.lemmas.Result.{err_from_is_err_and}
use Rattle.lookup.proofs.Verdicts.{tree_accepted, chain_refused, room_judged}
use borrow.Author.Rules.{rules}
use Rattle.lookup.proofs.check.Goals as goal

pub check_chain-requires : goal.check_chain-requires
check_chain-requires c = search (tree_accepted, rules)

pub returns-in_err-nodes : goal.returns-in_err-nodes
returns-in_err-nodes c =
    let p = err_from_is_err_and c.from_residual.result c.from_residual.ensures.1 in
    rw (p.1, p.2) (chain_refused _ _ _ _ _ c.requires _ c.in_err-nodes.ensures)

pub returns-in_err-check_room : goal.returns-in_err-check_room
returns-in_err-check_room c =
    let p = err_from_is_err_and c.from_residual-in_err-check_room.result c.from_residual-in_err-check_room.ensures.1 in
    rw (p.1, p.2) (room_judged _ _ _ _ _ c.requires _ c.in_err-check_room.ensures c.in_ok-nodes.ensures.0)

pub returns : goal.returns
returns c = (room_judged _ _ _ _ _ c.requires _ c.in_ok-check_room.ensures c.in_ok-nodes.ensures.0, c.in_ok-nodes.ensures.1)
