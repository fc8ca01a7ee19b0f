use Rattle.view.proofs.Filling.{seen_refused, seen_short, seen_room, seen_made}
use Rattle.std.proofs.lemmas.Result.{err_from_is_err_and}
use borrow.Author.Rules.{rules}
use Rattle.view.proofs.seen.Goals as goal

pub returns-in_err-count : goal.returns-in_err-count
returns-in_err-count c = let p = err_from_is_err_and c.from_residual.result c.from_residual.ensures.1 in rw (p.1, p.2) (seen_refused _ _ _ _ _ c.in_err-count.ensures)

pub returns-in_err-check_room : goal.returns-in_err-check_room
returns-in_err-check_room c =
    let p = err_from_is_err_and c.from_residual-in_err-check_room.result c.from_residual-in_err-check_room.ensures.1 in
    rw (p.1, p.2) (seen_short _ _ _ _ _ c.in_ok-count.ensures _ c.in_err-check_room.ensures)

pub copy-requires : goal.copy-requires
copy-requires c = (c.in_ok-count.ensures.seen.within, seen_room _ _ _ _ _ c.in_ok-count.ensures c.in_ok-check_room.ensures)

pub returns : goal.returns
returns c = seen_made _ _ _ _ _ c.in_ok-count.ensures c.in_ok-check_room.ensures _ (search rules)
