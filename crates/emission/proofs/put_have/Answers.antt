use borrow.Author.Rules.{rules}
use Rattle.emission.proofs.Writing.{have_closing}
use Rattle.emission.proofs.put_have.Goals as goal

pub returns-in_default : goal.returns-in_default
returns-in_default c = have_closing _ _ _ _ _ _ _ _ (search rules) c.put_pending-in_default.ensures c.put_closing.ensures
