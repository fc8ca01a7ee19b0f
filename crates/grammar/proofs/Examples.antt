-- Worked examples, by computation: texts, their readings and what they stand for; and places of refusal 24.
use Prim.Native.Nat.{ℕ}
use mathlib.Core.Path.{◌≡◌, refl}
use mathlib.Core.Bool.{Bool, true, false}
use mathlib.Core.List.{List, [], ◌∷◌, map}
use lib.ListN.{length}
use Rattle.model.specs.Syntax.{Path, NodeExpr}
use Rattle.model.specs.Syntax.Path.{step, compose, from_root}
use Rattle.model.specs.Syntax.NodeExpr.{exists, either, both}
use Rattle.model.specs.Lists.{equal}
use Rattle.grammar.specs.Grammar.{Expr, ascii, elem, axes, axis_word, variables, name_bytes, all_name, is_name, print, fits}
use Rattle.grammar.specs.Grammar.Slash.{one, two}
use Rattle.grammar.specs.Grammar.Wildcard.{star, node}
use Rattle.grammar.specs.Grammar.Op.{or, and, same, union, intersect, except, slash}
use Rattle.grammar.specs.Grammar.Expr.{wildcard, named, dot, dots, variable, bracket, closure, negate, is, filter, rooted, join}
use Rattle.grammar.specs.Online.{reach, feed, taken, settle, advance}
use Rattle.grammar.specs.Automaton.{next, each, may_join, joined, opened, closed, is_path, stops_at}
use Rattle.grammar.specs.Typed.{below_by, expr_by, path_by, path_of}

-- a text, its reading, and what that stands for where the tag of a name is its length
pub record Example : Type 0 where
  pub text : List ℕ
  pub reading : Expr
  pub path : Path

-- grouping, precedence, brackets, what '//' stands for, 'node()' beside the name 'node', stars behind brackets, and 'same'
pub examples : List Example
examples =
    -- a leading slash takes the whole run, and '//' has a step between its slashes
    record {
      text = ascii "//child::a/..//$2";
      reading = rooted two (join (slash two) (join (slash one) (named 1 (ascii "a")) dots) (variable 2));
      path = from_root (compose (compose (compose (compose (step 11 65534) (step 1 1)) (step 2 65534)) (step 11 65534)) (Path.variable 2));
    }
    -- equals group leftwards, slashes bind tighter than operators for sets
    ∷ record {
      text = ascii "self::* except . intersect child::ab//.. union $0";
      reading = join union (join intersect (join except (wildcard 0 star) dot) (join (slash two) (named 1 (ascii "ab")) dots)) (variable 0);
      path = Path.union (Path.intersect (Path.except (step 0 65535) (step 0 65534)) (compose (compose (step 1 2) (step 11 65534)) (step 2 65534))) (Path.variable 0);
    }
    -- 'and' binds tighter than 'or', also behind it
    ∷ record {
      text = ascii "right::*[. is $0 or not(..) and .][$1]";
      reading = filter (filter (wildcard 3 star) (join or (is 0) (join and (negate dots) dot))) (variable 1);
      path = Path.filter (Path.filter (step 3 65535) (either (NodeExpr.is 0) (both (NodeExpr.negate (exists (step 2 65534))) (exists (step 0 65534))))) (exists (Path.variable 1));
    }
    -- a bracket that holds a path is a path, also in a test; another one is a test
    ∷ record {
      text = ascii ".[(. union ..)/$0 and (. or /.)]";
      reading = filter dot (join and (join (slash one) (bracket (join union dot dots)) (variable 0)) (bracket (join or dot (rooted one dot))));
      path = Path.filter (step 0 65534) (both (exists (compose (Path.union (step 0 65534) (step 2 65534)) (Path.variable 0))) (either (exists (step 0 65534)) (exists (from_root (step 0 65534)))));
    }
    -- 'node()' is a test, 'node' a name, and a longer name may begin so
    ∷ record { text = ascii "child::node()"; reading = wildcard 1 node; path = step 1 65534 }
    ∷ record { text = ascii "child::node"; reading = named 1 (ascii "node"); path = step 1 4 }
    ∷ record {
      text = ascii "child::node()/child::nodes";
      reading = join (slash one) (wildcard 1 node) (named 1 (ascii "nodes"));
      path = compose (step 1 65534) (step 1 5);
    }
    -- a star behind a bracket, also within one, before a filter and behind '//'
    ∷ record { text = ascii "(child::a)*"; reading = closure (named 1 (ascii "a")); path = Path.closure (step 1 1) }
    ∷ record {
      text = ascii "//((child::a)*/..)*[.]";
      reading = rooted two (filter (closure (join (slash one) (closure (named 1 (ascii "a"))) dots)) dot);
      path = from_root (compose (step 11 65534) (Path.filter (Path.closure (compose (Path.closure (step 1 1)) (step 2 65534))) (exists (step 0 65534))));
    }
    -- 'same' binds looser than 'union' and tighter than 'and'
    ∷ record {
      text = ascii ".[child::a same child::bc]";
      reading = filter dot (join same (named 1 (ascii "a")) (named 1 (ascii "bc")));
      path = Path.filter (step 0 65534) (NodeExpr.same (step 1 1) (step 1 2));
    }
    ∷ record {
      text = ascii ".[. and $0 union .. same . union $1]";
      reading = filter dot (join and dot (join same (join union (variable 0) dots) (join union dot (variable 1))));
      path = Path.filter (step 0 65534) (both (exists (step 0 65534)) (NodeExpr.same (Path.union (Path.variable 0) (step 2 65534)) (Path.union (step 0 65534) (Path.variable 1))));
    }
    ∷ []

-- each reading is the grammar's, looks as the text does, and stands for the path
pub examples_hold :
    map {B = Bool × List ℕ × Path} (λ (x : Example). (fits 0 false x.reading, print x.reading, path_of x.reading length)) examples
    ≡ map {B = Bool × List ℕ × Path} (λ (x : Example). (true, x.text, x.path)) examples
unfolding examples fits elem axes axis_word variables is_name name_bytes all_name print path_by below_by expr_by
examples_hold = refl

-- a text, and the place of its refusal
pub record Refusal : Type 0 where
  pub text : List ℕ
  pub place : ℕ

-- within a word, behind a test, behind two slashes, at the end, beside 'node()', and at stars and 'same'
pub refusals : List Refusal
refusals =
    -- of the words, only 'descendant-or-self' goes on from 'descendant-'
    record { text = ascii "descendant-on"; place = 12 }
    -- no operator for sets behind a test
    ∷ record { text = ascii ".[(. and .) union .]"; place = 12 }
    -- no slash behind two
    ∷ record { text = ascii ".///."; place = 3 }
    -- it is not finished
    ∷ record { text = ascii "child::*[not(.)"; place = 15 }
    -- '()' behind the name 'node' alone, and with nothing between
    ∷ record { text = ascii "child::nodes()"; place = 12 }
    ∷ record { text = ascii "child::node("; place = 12 }
    ∷ record { text = ascii "child::node(x"; place = 12 }
    -- no star behind a bracket that holds a test, nor behind a star
    ∷ record { text = ascii ".[(child::a or .)*]"; place = 17 }
    ∷ record { text = ascii "(.)**"; place = 4 }
    -- no chain of 'same', and none where no test may stand
    ∷ record { text = ascii ".[. same .. same .]"; place = 12 }
    ∷ record { text = ascii "(. same .)"; place = 3 }
    ∷ []

-- each place is where the reading stops
pub refusals_hold : map (λ (x : Refusal). stops_at x.text) refusals ≡ map (λ (x : Refusal). x.place) refusals
unfolding refusals stops_at reach feed taken settle advance next each axes axis_word variables name_bytes may_join joined opened closed is_path equal
refusals_hold = refl
