-- Isolation, once for every service.
use Prim.Native.Nat.{ℕ}
use mathlib.Core.Path.{◌≡◌}
use mathlib.Core.Bool.{Bool}
use mathlib.Core.List.{List}
use Rattle.model.specs.declared.Reply.{Reply}
use Rattle.model.specs.declared.Cursor.{Cursor}
use Rattle.model.specs.Refusals.{verdict}
use Rattle.model.specs.Parties.{shared_checks, seen_table, over_seen}
use Rattle.model.specs.Services.{seen_image, seen_pairs, seen_page, seen_quick}
use Rattle.model.proofs.Parties.{isolation}
use Rattle.view.specs.View.{seen_tree}
use Rattle.parties.specs.Services.{seen_bits, seen_effort, seen_index, seen_lookup, outcomes_for}

module _ (party : ℕ) (t u : List ℕ) (a : (verdict (shared_checks t)).number ≡ 0) (b : (verdict (shared_checks u)).number ≡ 0) (e : seen_table t party ≡ seen_table u party) where
  same : {A : Type 0} (refused : Reply → A) (f : List ℕ → A) → over_seen t party refused f ≡ over_seen u party refused f
  same refused f = isolation party refused f t u a b e

  tree : (table : List ℕ) → seen_tree t party table ≡ seen_tree u party table
  unfolding seen_tree
  tree table = same _ _

  image : (q : List ℕ) (columns : ℕ) (nodes : List ℕ) (back : Bool) (from to : List ℕ) → seen_image t party q columns nodes back from to ≡ seen_image u party q columns nodes back from to
  unfolding seen_image
  image q columns nodes back from to = same _ _

  pairs : (q : List ℕ) (columns : ℕ) (nodes table : List ℕ) → seen_pairs t party q columns nodes table ≡ seen_pairs u party q columns nodes table
  unfolding seen_pairs
  pairs q columns nodes table = same _ _

  bits : (q : List ℕ) (columns : ℕ) (nodes to : List ℕ) → seen_bits t party q columns nodes to ≡ seen_bits u party q columns nodes to
  unfolding seen_bits
  bits q columns nodes to = same _ _

  page : (q : List ℕ) (columns : ℕ) (c : Cursor) (buffer : List ℕ) → seen_page t party q columns c buffer ≡ seen_page u party q columns c buffer
  unfolding seen_page
  page q columns c buffer = same _ _

  quick : (q : List ℕ) (columns : ℕ) (c : Cursor) (buffer : List ℕ) → seen_quick t party q columns c buffer ≡ seen_quick u party q columns c buffer
  unfolding seen_quick
  quick q columns c buffer = same _ _

  effort : (q : List ℕ) (columns : ℕ) (c : Cursor) (buffer : List ℕ) → seen_effort t party q columns c buffer ≡ seen_effort u party q columns c buffer
  unfolding seen_effort
  effort q columns c buffer = same _ _

  index : (next tags : List ℕ) → seen_index t party next tags ≡ seen_index u party next tags
  unfolding seen_index
  index next tags = same _ _

  lookup : (next : List ℕ) (start tag : ℕ) (to : List ℕ) → seen_lookup t party next start tag to ≡ seen_lookup u party next start tag to
  unfolding seen_lookup
  lookup next start tag to = same _ _

  -- Two shared tables that are not refused themselves (5, 6, 7, 30), and of which the party sees the same tree, give the party the same
  -- reply, bytes and cursor from every service, all else lent alike; of a quick page the same number of evaluations too.
  pub isolated : outcomes_for t party ≡ outcomes_for u party
  isolated = λ i.
      record {
        tree = λ table. tree table i;
        image = λ q columns nodes back from to. image q columns nodes back from to i;
        pairs = λ q columns nodes table. pairs q columns nodes table i;
        bits = λ q columns nodes to. bits q columns nodes to i;
        page = λ q columns c buffer. page q columns c buffer i;
        quick = λ q columns c buffer. quick q columns c buffer i;
        effort = λ q columns c buffer. effort q columns c buffer i;
        index = λ next tags. index next tags i;
        lookup = λ next start tag to. lookup next start tag to i;
      }
