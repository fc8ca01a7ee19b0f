-- A look at a shared table, and the service that makes the tree that a party sees (document 02, §8).
use Rattle.std.specs.Prelude.{ℕ, ◌*◌, ◌≤◌, ◌≡◌, List, length, take, Result, Ok, Err, IfOk}
use Rattle.model.specs.declared.Reply.{Reply}
use Rattle.model.specs.declared.MadeReply.{MadeReply}
use Rattle.model.specs.declared.refusal.Refusal.{Refusal}
use Rattle.model.specs.Refusals.{making, reply, refused, verdict}
use Rattle.model.specs.Checks.{room_checks}
use Rattle.model.specs.Services.{leaving}
use Rattle.model.specs.Parties.{shared_checks, shared_verdict, seen_table, over_seen}
use Rattle.model.specs.Accepted.{AcceptedTree}

-- a shared table that its checks accept
abbrev pub AcceptedTable : List ℕ → Type 0
AcceptedTable t = (verdict (shared_checks t)).number ≡ 0

-- the tree that a party sees of an accepted table stands at the front of a table of 512 numbers, and has so many nodes
pub record Filled (t : List ℕ) (party nodes : ℕ) (table : List ℕ) : Type 0 where
  pub few : nodes ≤ 256
  pub size : length table ≡ 512
  pub long : 2 * nodes ≡ length (seen_table t party)
  pub front : take (2 * nodes) table ≡ seen_table t party

-- the verdict of a look
abbrev pub told_look : Result ℕ Refusal → Reply
told_look (Ok count) = reply 0 0
told_look (Err e) = refused e

-- a look at an accepted table and party: at the front of a table the tree that the party sees, of so many numbers, which the checks of a
-- tree table accept
pub record SeenAtFront (t : List ℕ) (party : ℕ) (table : List ℕ) (count : ℕ) : Type 0 where
  pub within : count ≤ length table
  pub front : take count table ≡ seen_table t party
  pub long : count ≡ length (seen_table t party)
  pub accepted : AcceptedTree (take count table)

-- what a look at a shared table leaves: the verdict and, where that is 0, the tree that the party sees
pub record Looked (t : List ℕ) (party : ℕ) (r : Result ℕ Refusal) (table : List ℕ) : Type 0 where
  pub reply : told_look r ≡ shared_verdict t party
  pub seen : IfOk r (SeenAtFront t party table)

-- 20: the buffer has room for less than the tree
abbrev pub room_for : List ℕ → List ℕ → Reply
room_for u table = verdict (room_checks (length table) (length u))

-- what the service leaves: the verdict on table, party and room, how many numbers the tree has, 0 at a refusal, and the tree at the
-- front of the buffer
unfoldable pub seen_tree : List ℕ → ℕ → List ℕ → MadeReply × List ℕ
seen_tree t party table = over_seen t party (λ v. (making v 0, table)) (λ u. leaving (room_for u table) u table)
