-- The part is read off the case; a name lies in its table, so the slice of it can be taken.
use mathlib.Core.Path.{refl}
use native.Mathlib.Omega.{arith}
use Rattle.names.specs.Names.{nothing}
use Rattle.names.specs.declared.Table.TheVariants.{House, Site}
use Rattle.names.proofs.Requests.{is_name, ends_in, ends_below, no_name, is_part}
use borrow.Author.Rules.{rules}
use Rattle.names.proofs.name.Goals as goal

pub returns-in_default : goal.returns-in_default
returns-in_default c = is_part _ _ _ House nothing _ (search (no_name, rules)) refl refl (omega arith) refl

pub overflow_add-end : goal.overflow_add-end
overflow_add-end c = search (ends_below, rules)

pub slice_bounds-result-end-in-House : goal.slice_bounds-result-end-in-House
slice_bounds-result-end-in-House c = ends_in _ _ _ _ _ House c.look_up.ensures c.in-Ok.is c.in-House.is

pub slice_bounds-result-end-in-Site : goal.slice_bounds-result-end-in-Site
slice_bounds-result-end-in-Site c = ends_in _ _ _ _ _ Site c.look_up.ensures c.in-Ok.is c.in-Site.is

pub returns-in-House : goal.returns-in-House
returns-in-House c = is_part _ _ _ House c.in-Ok.p _ (is_name _ _ _ _ _ c.look_up.ensures c.in-Ok.is) c.in-House.is refl (omega arith) refl

pub returns-in-Site : goal.returns-in-Site
returns-in-Site c = is_part _ _ _ Site c.in-Ok.p _ (is_name _ _ _ _ _ c.look_up.ensures c.in-Ok.is) c.in-Site.is refl (omega arith) refl
