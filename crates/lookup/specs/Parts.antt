-- What the inner functions give: definitions that their contracts cite.
use Rattle.std.specs.Prelude.{ℕ, ◌≡◌, List, Result, Ok, Err, set, replicate}
use Rattle.model.specs.Refusals.{Check, reply, refused, verdict}
use Rattle.model.specs.declared.Reply.{Reply}
use Rattle.model.specs.declared.refusal.Refusal.{Refusal}
use Rattle.lookup.specs.Chain.{Chain, stops, breaks, meets}

-- how a chain was walked: the verdict, and a 1 for each node that it met
pub record Walk : Type 0 where
  pub verdict : Reply
  pub nodes : List ℕ

-- the walk along a chain: its verdict, and the bytes s with a 1 stored for each node met
unfoldable pub along : Chain → List ℕ → Walk
along stops s = record { verdict = reply 0 0; nodes = s }
along (breaks y) s = record { verdict = reply 27 y; nodes = s }
along (meets y c) s = along c (set s y 1)

-- the walk from its start, with no node met
unfoldable pub walk_of : Chain → Walk
walk_of c = along c (replicate 256 0)

-- what a walk comes to, its nodes or a refusal, is that of the chain
abbrev pub Follows : Chain → Result (List ℕ) Refusal → Type 0
Follows c (Ok s) = (reply 0 0 ≡ (walk_of c).verdict) × (s ≡ (walk_of c).nodes)
Follows c (Err e) = refused e ≡ (walk_of c).verdict

-- a walk under some checks: its verdict is theirs, and if that accepts, its nodes are those of the chain
abbrev pub Judged : List Check → Chain → Result (List ℕ) Refusal → Type 0
Judged cs c (Ok s) = (reply 0 0 ≡ verdict cs) × (s ≡ (walk_of c).nodes)
Judged cs c (Err e) = refused e ≡ verdict cs
