use Rattle.index.proofs.Verdicts.{tree_tagged, buffers_decide, leaves_by, list_most, list_many, list_front}
use borrow.Author.Rules.{rules}
use Rattle.index.proofs.build.Goals as goal

pub list_tags-count-requires : goal.list_tags-count-requires
list_tags-count-requires c = search (tree_tagged, rules)

pub slice_bounds-list-end : goal.slice_bounds-list-end
slice_bounds-list-end c = search (list_most, tree_tagged, rules)

pub slice_bounds-fill-end : goal.slice_bounds-fill-end
slice_bounds-fill-end c = search (list_many, tree_tagged, rules)

pub fill-requires : goal.fill-requires
fill-requires c = (search (tree_tagged, rules), search (list_front, rules))

pub returns : goal.returns
returns c = leaves_by _ _ _ _ _ _ _ _ (buffers_decide _ _ _ (search rules)) (search rules)
