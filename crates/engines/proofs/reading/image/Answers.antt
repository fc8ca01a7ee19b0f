use borrow.Author.Rules.{rules}
use Rattle.engines.proofs.Images.{read_forwards, read_backwards}
use Rattle.engines.proofs.reading.image.Goals as goal

pub returns-then-back : goal.returns-then-back
returns-then-back c = search (read_backwards, rules)

pub returns : goal.returns
returns c = search (read_forwards, rules)
