use Rattle.tables.proofs.Words.{full_all, full_some}
use Rattle.tables.proofs.word.full_from.Goals as goal

pub returns-then-m-ge64 : goal.returns-then-m-ge64
returns-then-m-ge64 c = full_all _ _ _ c.saturating_sub-m.ensures c.if-m-ge64.true

pub returns : goal.returns
returns c = full_some _ _ _ c.saturating_sub-m.ensures c.if-m-ge64.false
