use Rattle.index.proofs.Putting.{tags_put}
use Rattle.index.proofs.Verdicts.{listed_most, firsts_start, counts_start}
use borrow.Author.Rules.{rules}
use Rattle.index.proofs.write.Goals as goal

pub link-requires : goal.link-requires
link-requires c = search (firsts_start, counts_start, rules)

pub put_tags-requires : goal.put_tags-requires
put_tags-requires c = search (listed_most, rules)

pub returns : goal.returns
returns c = search (tags_put, rules)
