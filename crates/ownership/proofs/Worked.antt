-- For the reader: every call of the list gets its reply, by computation.
use mathlib.Core.Path.{◌≡◌, refl}
use mathlib.Core.List.{map}
use Rattle.model.specs.Sets.{any}
use Rattle.model.specs.Axes.{climbs, descendant, descendant_or_self}
use Rattle.model.specs.Refusals.{lowest, verdict}
use Rattle.model.specs.Checks.{bad_parent, tree_checks_at}
use Rattle.model.specs.Parties.{shared_checks, party_checks}
use Rattle.model.specs.Replies.{given, due}
use Rattle.ownership.specs.Worked.{hall, calls}

-- every call gets the reply that is due
pub shared_replies : map given calls ≡ map due calls
unfolding given due calls hall shared_checks party_checks verdict tree_checks_at bad_parent lowest descendant descendant_or_self climbs any
shared_replies = refl
