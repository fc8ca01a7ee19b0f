use Rattle.model.specs.Tree.{size_of}
use lib.ListN.{take}
use Rattle.answers.proofs.Search.{stands_next, answer_next}
use Rattle.answers.proofs.Plan.answer_after.Goals as goal

pub seek-requires : goal.seek-requires
seek-requires c = let s = c.args.self.now.search in (c.requires.0, stands_next (size_of s.tree.now) s.k c.beyond.result (take s.k c.args.row) c.beyond.ensures)

pub returns : goal.returns
returns c = let s = c.args.self.now.search in answer_next s.tree.now s.query.now s.k c.beyond.result c.seek.result (take s.k c.args.row) c.seek.ensures c.beyond.ensures
