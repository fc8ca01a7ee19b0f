-- The numbers of the kinds (Kinds) and of the axes (Axes) that have names in the code.
use Rattle.std.specs.Prelude.{ℕ}
use Rattle.model.specs.declared.kind.Kind.{Kind}
use Rattle.model.specs.declared.kind.Kind.TheVariants.{Step, Compose, Union, Intersect, Except, Filter, Variable, Root, Exists, Not, And, Or, Is, Star, Same}
use Rattle.model.specs.declared.kind.Axis.{Axis}
use Rattle.model.specs.declared.kind.Axis.TheVariants.{Itself, Child, Parent, Right, Left, Descendant, Ancestor, Following, Preceding, FollowingSibling, PrecedingSibling, DescendantOrSelf, AncestorOrSelf}

-- the number of a kind
abbrev pub kind_number : Kind → ℕ
kind_number Step = 0
kind_number Compose = 1
kind_number Union = 2
kind_number Intersect = 3
kind_number Except = 4
kind_number Filter = 5
kind_number Variable = 6
kind_number Root = 7
kind_number Exists = 8
kind_number Not = 9
kind_number And = 10
kind_number Or = 11
kind_number Is = 12
kind_number Star = 13
kind_number Same = 14

-- the number of an axis
abbrev pub axis_number : Axis → ℕ
axis_number Itself = 0
axis_number Child = 1
axis_number Parent = 2
axis_number Right = 3
axis_number Left = 4
axis_number Descendant = 5
axis_number Ancestor = 6
axis_number Following = 7
axis_number Preceding = 8
axis_number FollowingSibling = 9
axis_number PrecedingSibling = 10
axis_number DescendantOrSelf = 11
axis_number AncestorOrSelf = 12
