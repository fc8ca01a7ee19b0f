use mathlib.Core.Path.{refl}
use borrow.Author.Rules.{rules}
use Rattle.model.specs.Checks.{page_checks}
use Rattle.model.proofs.Refusals.{refused_some}
use Rattle.checks.proofs.Verdicts.{listing_numbered, listing_few, stop_both, pass_both}
use Rattle.checks.proofs.check_page.Goals as goal

pub returns-in_err-check_listing : goal.returns-in_err-check_listing
unfolding page_checks
returns-in_err-check_listing c = search (stop_both, refused_some, rules)

pub check_paging-requires : goal.check_paging-requires
check_paging-requires c = listing_few _ _ _ _ c.in_ok-check_listing.ensures refl

pub returns : goal.returns
unfolding page_checks
returns c = search (pass_both, listing_numbered, rules)
