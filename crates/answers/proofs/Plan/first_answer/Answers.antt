use Rattle.model.specs.Tree.{size_of}
use Rattle.answers.proofs.Search.{stands_first, answer_first}
use Rattle.answers.proofs.Plan.first_answer.Goals as goal

pub seek-requires : goal.seek-requires
seek-requires c = let s = c.args.self.now.search in (c.requires.0, stands_first (size_of s.tree.now) s.k c.start.result c.args.cursor c.start.ensures)

pub returns : goal.returns
returns c = let s = c.args.self.now.search in answer_first s.tree.now s.query.now s.k c.start.result c.seek.result c.args.cursor c.seek.ensures c.start.ensures
