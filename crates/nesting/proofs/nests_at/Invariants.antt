use Rattle.nesting.specs.Nesting.{depth_at}
use Rattle.nesting.proofs.nests_at.Given as goal

abbrev pub ghost-number_entries : goal.ghost-number_entries
ghost-number_entries a = depth_at a.query.now
