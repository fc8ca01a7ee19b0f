-- Worked lines: reversed queries as tables, by computation. An entry's four numbers are kind, left, right and tag; 65534 is node(). The
-- kinds: 0 step, 1 compose, 4 except, 5 filter, 6 variable, 7 from the root, 8 some, 9 not, 12 is, 13 star.
use mathlib.Core.Path.{◌≡◌, refl}
use mathlib.Core.List.{◌++◌}
use Rattle.model.specs.Syntax.Path.{step, compose, except, filter, variable, from_root, closure}
use Rattle.model.specs.Syntax.NodeExpr.{exists}
use Rattle.model.specs.QueryTable.{parse, parse_over, grow, parsed, parsed_at}
use Rattle.model.specs.Encoding.{path_term, expr_term, size, entry4, encode, table_of}
use Rattle.reversal.specs.Reversed.{converse, reversed}
use Rattle.reversal.specs.Service.{reversed_query, reversed_table}

-- child::3 becomes self::3/parent::node()
pub worked_step : table_of (reversed (step 1 3)) ≡ entry4 0 0 0 3 ++ (entry4 0 2 0 65534 ++ entry4 1 0 1 0)
unfolding reversed converse encode path_term size
worked_step = refl

-- child::2/right::3 becomes (self::3/left::node())/(self::2/parent::node())
pub worked_compose : table_of (reversed (compose (step 1 2) (step 3 3)))
    ≡ entry4 0 0 0 3
    ++ (entry4 0 4 0 65534
    ++ (entry4 1 0 1 0
    ++ (entry4 0 0 0 2
    ++ (entry4 0 2 0 65534
    ++ (entry4 1 3 4 0
    ++ entry4 1 2 5 0)))))
unfolding reversed converse encode path_term size
worked_compose = refl

-- child::2[child::3] becomes self::node()[child::3]/(self::2/parent::node()): the node expression is copied, not reversed
pub worked_filter : table_of (reversed (filter (step 1 2) (exists (step 1 3))))
    ≡ entry4 0 0 0 65534
    ++ (entry4 0 1 0 3
    ++ (entry4 8 1 0 0
    ++ (entry4 5 0 2 0
    ++ (entry4 0 0 0 2
    ++ (entry4 0 2 0 65534
    ++ (entry4 1 4 5 0
    ++ entry4 1 3 6 0))))))
unfolding reversed converse encode path_term expr_term size
worked_filter = refl

-- $2 becomes self::node()[. is $2]/ancestor-or-self::node()/descendant-or-self::node(), grouped leftwards
pub worked_variable : table_of (reversed (variable 2))
    ≡ entry4 0 0 0 65534
    ++ (entry4 12 2 0 0
    ++ (entry4 5 0 1 0
    ++ (entry4 0 12 0 65534
    ++ (entry4 1 2 3 0
    ++ (entry4 0 11 0 65534
    ++ entry4 1 4 5 0)))))
unfolding reversed encode path_term expr_term size
worked_variable = refl

-- /child::2 becomes (self::2/parent::node())/self::node()[not(parent::node())]/descendant-or-self::node(), grouped leftwards
pub worked_root : table_of (reversed (from_root (step 1 2)))
    ≡ entry4 0 0 0 2
    ++ (entry4 0 2 0 65534
    ++ (entry4 1 0 1 0
    ++ (entry4 0 0 0 65534
    ++ (entry4 0 2 0 65534
    ++ (entry4 8 4 0 0
    ++ (entry4 9 5 0 0
    ++ (entry4 5 3 6 0
    ++ (entry4 1 2 7 0
    ++ (entry4 0 11 0 65534
    ++ entry4 1 8 9 0)))))))))
unfolding reversed converse encode path_term expr_term size
worked_root = refl

-- (child::2)* becomes (self::2/parent::node())*
pub worked_star : table_of (reversed (closure (step 1 2)))
    ≡ entry4 0 0 0 2 ++ (entry4 0 2 0 65534 ++ (entry4 1 0 1 0 ++ entry4 13 2 0 0))
unfolding reversed converse encode path_term size
worked_star = refl

-- descendant::node() except following::* becomes (self::node()/ancestor::node()) except (self::*/preceding::node())
pub worked_except : table_of (reversed (except (step 5 65534) (step 7 65535)))
    ≡ entry4 0 0 0 65534
    ++ (entry4 0 6 0 65534
    ++ (entry4 1 0 1 0
    ++ (entry4 0 0 0 65535
    ++ (entry4 0 8 0 65534
    ++ (entry4 1 3 4 0
    ++ entry4 4 2 5 0)))))
unfolding reversed converse encode path_term size
worked_except = refl

-- from table to table: $0/child::1 becomes (self::1/parent::node())/(self::node()[. is $0]/ancestor-or-self::node()/
-- descendant-or-self::node())
pub worked_table : reversed_table (entry4 6 0 0 0 ++ (entry4 0 1 0 1 ++ entry4 1 0 1 0))
    ≡ entry4 0 0 0 1
    ++ (entry4 0 2 0 65534
    ++ (entry4 1 0 1 0
    ++ (entry4 0 0 0 65534
    ++ (entry4 12 0 0 0
    ++ (entry4 5 3 4 0
    ++ (entry4 0 12 0 65534
    ++ (entry4 1 5 6 0
    ++ (entry4 0 11 0 65534
    ++ (entry4 1 7 8 0
    ++ entry4 1 2 9 0)))))))))
unfolding reversed_query reversed converse encode path_term expr_term size parse parse_over grow parsed parsed_at
worked_table = refl
