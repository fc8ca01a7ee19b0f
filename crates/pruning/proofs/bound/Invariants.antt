use Rattle.pruning.specs.Pruning.{bound_at}
use Rattle.pruning.proofs.bound.Given as goal

abbrev pub ghost-number_entries : goal.ghost-number_entries
ghost-number_entries a = bound_at a.query.now
