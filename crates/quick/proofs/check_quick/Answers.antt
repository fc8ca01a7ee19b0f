use mathlib.Core.Path.{refl}
use borrow.Author.Rules.{rules}
use Rattle.std.proofs.lemmas.Result.{err_from_is_err_and}
use Rattle.checks.proofs.Verdicts.{listing_few}
use Rattle.model.proofs.Refusals.{refused_some}
use Rattle.quick.proofs.Accepted.{listing_stop, listing_shaped, sharing_stop, sharing_pass}
use Rattle.quick.proofs.check_quick.Goals as goal

pub returns-in_err-check_listing : goal.returns-in_err-check_listing
returns-in_err-check_listing c = search (listing_stop, refused_some, rules)

pub check_sharing-requires : goal.check_sharing-requires
check_sharing-requires c = listing_shaped _ _ _ c.args.cursor c.args.room _ c.in_ok-check_listing.ensures refl

pub returns-in_err-check_sharing : goal.returns-in_err-check_sharing
returns-in_err-check_sharing c = let p = err_from_is_err_and c.from_residual-in_err-check_sharing.result c.from_residual-in_err-check_sharing.ensures.1 in rw (p.1, p.2) (sharing_stop _ _ _ _ _ _ c.in_ok-check_listing.ensures refl _ c.in_err-check_sharing.ensures (refused_some _))

pub check_paging-requires : goal.check_paging-requires
check_paging-requires c = listing_few _ _ _ _ c.in_ok-check_listing.ensures refl

pub returns : goal.returns
returns c = sharing_pass _ _ _ _ _ _ c.in_ok-check_listing.ensures refl _ c.in_ok-check_sharing.ensures _ c.check_paging.ensures refl
