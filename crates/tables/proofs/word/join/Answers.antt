use Rattle.tables.proofs.word.join.Goals as goal

pub returns-then-turned : goal.returns-then-turned
returns-then-turned c = rw c.if-turned.true c.merge.ensures

pub returns : goal.returns
returns c = rw c.if-turned.false c.merge-2.ensures
