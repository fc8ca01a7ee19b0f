use Rattle.aside.specs.Aside.{aside_at}
use Rattle.aside.proofs.counts.Given as goal

abbrev pub ghost-number_entries : goal.ghost-number_entries
ghost-number_entries a = aside_at a.query.now
