-- The services that are lent a shared table and a party (document 02, §8) as total functions: each is `over_seen` of the service over the
-- tree that the party sees. Those of images, pairs and pages are in the model (Services.antt), and that of the tree itself in `view`.
use Rattle.std.specs.Prelude.{ℕ, ◌+◌, ◌*◌, ◌≤◌, ◌≡◌, Bool, List}
use Rattle.model.specs.declared.Reply.{Reply}
use Rattle.model.specs.declared.ImageReply.{ImageReply}
use Rattle.model.specs.declared.MadeReply.{MadeReply}
use Rattle.model.specs.declared.QuickReply.{QuickReply}
use Rattle.model.specs.declared.Cursor.{Cursor}
use Rattle.model.specs.Tree.{size_of}
use Rattle.model.specs.Pages.{Outcome}
use Rattle.model.specs.Refusals.{counting}
use Rattle.model.specs.Parties.{seen_table, over_seen}
use Rattle.model.specs.Services.{PageLeaves, seen_image, seen_pairs, seen_page, seen_quick}
use Rattle.view.specs.View.{seen_tree}
use Rattle.quick.specs.Service.{plain_reply, quick_effort}
use Rattle.relations.specs.Services.{bit_pairs_reply, bit_pairs_buffer}
use Rattle.index.specs.declared.IndexReply.{IndexReply}
use Rattle.index.specs.Index.{telling, index_reply, next_buffer, tags_buffer}
use Rattle.lookup.specs.Chain.{lookup_reply, lookup_buffer}

-- pairs in bits
unfoldable pub seen_bits : List ℕ → ℕ → List ℕ → ℕ → List ℕ → List ℕ → Reply × List ℕ
seen_bits t party q columns nodes to =
    over_seen t party (λ v. (v, to)) (λ u. (bit_pairs_reply u q columns nodes to, bit_pairs_buffer u q columns nodes to))

-- the evaluations of a quick page
unfoldable pub seen_effort : List ℕ → ℕ → List ℕ → ℕ → Cursor → List ℕ → ℕ
seen_effort t party q columns c buffer = over_seen t party (λ v. 0) (λ u. quick_effort u q columns c buffer)

-- a quick page call replies r and leaves the cursor and the buffer so: the outcome is that of the model; the evaluations are those of
-- the search in the tree that the party sees; and they are at most 6 × n for each row written and as many for the flag, n being the
-- number of nodes that it sees
abbrev pub SeenQuickLeaves : List ℕ → ℕ → List ℕ → ℕ → Cursor → List ℕ → QuickReply → Cursor → List ℕ → Type 0
SeenQuickLeaves t party q columns c buffer r cursor rows =
    PageLeaves (seen_quick t party q columns c buffer) (plain_reply r) cursor rows
    × ((r.evaluations ≡ seen_effort t party q columns c buffer)
    × (r.evaluations ≤ 6 * size_of (seen_table t party) * (r.count + 1)))

-- the index, and the list of the tags
unfoldable pub seen_index : List ℕ → ℕ → List ℕ → List ℕ → IndexReply × List ℕ × List ℕ
seen_index t party next tags =
    over_seen t party (λ v. (telling v 0 0, next, tags))
    (λ u. (index_reply u next tags, next_buffer u next tags, tags_buffer u next tags))

-- a reply, and two buffers as they were left, are these
abbrev pub BothLeave : IndexReply × List ℕ × List ℕ → IndexReply → List ℕ → List ℕ → Type 0
BothLeave o r next tags = (r ≡ o.0) × (next ≡ o.1) × (tags ≡ o.2)

-- the descendants with a tag, by an index
unfoldable pub seen_lookup : List ℕ → ℕ → List ℕ → ℕ → ℕ → List ℕ → ImageReply × List ℕ
seen_lookup t party next start tag to =
    over_seen t party (λ v. (counting v 0, to)) (λ u. (lookup_reply u next start tag to, lookup_buffer u next start tag to))

-- Every service that is lent a shared table and a party: what it gives, for all else that it is lent.
pub record Outcomes : Type 0 where
  -- the tree that the party sees: the buffer
  pub tree : List ℕ → MadeReply × List ℕ
  -- forwards and backwards: the query, the number of variables, their nodes, the direction, the set and the buffer
  pub image : List ℕ → ℕ → List ℕ → Bool → List ℕ → List ℕ → ImageReply × List ℕ
  -- pairs, and pairs in bits: the query, the number of variables, their nodes and the buffer
  pub pairs : List ℕ → ℕ → List ℕ → List ℕ → Reply × List ℕ
  pub bits : List ℕ → ℕ → List ℕ → List ℕ → Reply × List ℕ
  -- a page, a quick page and its evaluations: the query, the number of variables, the cursor and the buffer
  pub page : List ℕ → ℕ → Cursor → List ℕ → Outcome
  pub quick : List ℕ → ℕ → Cursor → List ℕ → Outcome
  pub effort : List ℕ → ℕ → Cursor → List ℕ → ℕ
  -- the index: its two buffers
  pub index : List ℕ → List ℕ → IndexReply × List ℕ × List ℕ
  -- descendants by an index: the index, the start, the tag and the buffer
  pub lookup : List ℕ → ℕ → ℕ → List ℕ → ImageReply × List ℕ

-- over a shared table, for a party
abbrev pub outcomes_for : List ℕ → ℕ → Outcomes
outcomes_for t party =
    record {
      tree = seen_tree t party;
      image = seen_image t party;
      pairs = seen_pairs t party;
      bits = seen_bits t party;
      page = seen_page t party;
      quick = seen_quick t party;
      effort = seen_effort t party;
      index = seen_index t party;
      lookup = seen_lookup t party;
    }
