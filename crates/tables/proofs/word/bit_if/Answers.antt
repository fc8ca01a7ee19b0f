use mathlib.Core.Path.{◌≡◌}
use borrow.Author.Rules.{rules}
use Rattle.model.specs.Sets.{bit}
use Rattle.tables.proofs.Words.{only_word}
use Rattle.tables.proofs.word.bit_if.Goals as goal

pub returns : goal.returns
returns c = let e : c.from.result ≡ bit c.args.b = search rules in rw e (only_word c.args.b _ c.requires)
