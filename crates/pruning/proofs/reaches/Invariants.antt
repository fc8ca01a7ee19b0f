use Rattle.pruning.specs.Pruning.{reach_at}
use Rattle.pruning.proofs.reaches.Given as goal

abbrev pub ghost-number_entries : goal.ghost-number_entries
ghost-number_entries a = reach_at a.query.now
