-- In which entries of a query table a variable stands, and from that which entries break the rule.
use Rattle.std.specs.Prelude.{ℕ, Bool, ◌&&◌, ◌||◌, cond, List, [], ◌∷◌, eqb}
use Rattle.model.specs.declared.Entry.{Entry}
use Rattle.model.specs.Sets.{tab, upto}
use Rattle.model.specs.QueryTable.{kind, entries_of, path_at, expr_at}
use Rattle.model.specs.Kinds.{is_path, names_variable, has_left, has_right}
use Rattle.model.specs.Sharing.{in_path, in_expr}

-- variable v stands in entry e
unfoldable pub occurs : List ℕ → ℕ → ℕ → Bool
occurs q v e = cond (is_path (kind q e)) (in_path (path_at q e) v) (in_expr (expr_at q e) v)

-- the entries in which it stands, as bytes
unfoldable pub occurrences : List ℕ → ℕ → List ℕ
occurrences q v = tab 64 (upto (entries_of q) (occurs q v))

-- those of each of the three variables
abbrev pub all_occurrences : List ℕ → List (List ℕ)
all_occurrences q = occurrences q 0 ∷ occurrences q 1 ∷ occurrences q 2 ∷ []

-- variable v stands in an entry: the entry names it, or it stands in the left operand, a, or the right one, b
abbrev pub standing : Entry → ℕ → Bool → Bool → Bool
standing f v a b = (names_variable f.kind && eqb f.left v) || ((has_left f.kind && a) || (has_right f.kind && b))

-- the kinds whose operands share no variable: compose, filter, `and`
abbrev pub keeps_apart : ℕ → Bool
keeps_apart k = eqb k 1 || (eqb k 5 || eqb k 10)

-- the kinds in which no variable stands: intersect, except, `not`, star, `same`
abbrev pub keeps_out : ℕ → Bool
keeps_out k = eqb k 3 || (eqb k 4 || (eqb k 9 || (eqb k 13 || eqb k 14)))

-- an entry of kind k breaks the rule by a variable, where a, b and c say whether that stands in its left operand, its right one, and in it
abbrev pub breaking : ℕ → Bool → Bool → Bool → Bool
breaking k a b c = (keeps_apart k && (a && b)) || (keeps_out k && c)
