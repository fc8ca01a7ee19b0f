-- Whatever the test tells, none of the numbers passed has it.
use Rattle.std.proofs.Common.{◌≡◌, ℕ, ◌<◌, Bool, false}
use Rattle.model.specs.Sets.{any}
use Rattle.model.proofs.search.lowest.Given as goal

abbrev pub invariant-loop-x : goal.invariant-loop-x
invariant-loop-x g l =
    (f : ℕ → Bool) → ((x : ℕ) (b : Bool) → x < l.n → goal.F-post g l.test x b → b ≡ f x) → any l.x f ≡ false
