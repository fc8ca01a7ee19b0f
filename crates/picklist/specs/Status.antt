-- The status of a run, as the byte that the program tells it by.
use Rattle.std.specs.Prelude.{ℕ, ◌≡◌, ◌⊎◌, cond, ◌==◌}
use Rattle.model.specs.declared.Reply.{Reply}

-- '0' for a list, '1' for a refused job
abbrev pub status_of : Reply → ℕ
status_of verdict = cond (verdict.number == 0) 48 49

-- a status tells a verdict, or is '2' for a write that failed
abbrev pub Tells : Reply → ℕ → Type 0
Tells verdict status = (status ≡ status_of verdict) ⊎ (status ≡ 50)
