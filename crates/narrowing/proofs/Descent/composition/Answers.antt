use Rattle.narrowing.proofs.Turns.{left_asked, right_asked, left_decided, right_decided, turn_left, turn_right}
use Rattle.narrowing.proofs.Descent.composition.Goals as goal

pub is_fixed-requires : goal.is_fixed-requires
is_fixed-requires c = left_asked c.requires.0 c.entry_at-f.ensures.0 c.requires.1

pub image-start-requires : goal.image-start-requires
image-start-requires c = left_decided c.requires.0 c.entry_at-f.ensures.0 c.requires.1 c.is_fixed.ensures c.if-is_fixed.true

pub returns-then-is_fixed : goal.returns-then-is_fixed
returns-then-is_fixed c = turn_left c.requires.0 c.entry_at-f.ensures.0 c.requires.1 _ c.image-start.ensures

pub is_fixed-requires-2 : goal.is_fixed-requires-2
is_fixed-requires-2 c = right_asked c.requires.0 c.entry_at-f.ensures.0 c.requires.1

pub image-end-requires : goal.image-end-requires
image-end-requires c = right_decided c.requires.0 c.entry_at-f.ensures.0 c.requires.1 c.is_fixed-2.ensures c.if-is_fixed-2.true

pub returns-then-is_fixed-2 : goal.returns-then-is_fixed-2
returns-then-is_fixed-2 c = turn_right c.requires.0 c.entry_at-f.ensures.0 c.requires.1 _ c.image-end.ensures
