use Prim.Native.Nat.{ℕ}
use native.Mathlib.Omega.{arith}
use mathlib.Core.Path.{ap, ◌∙◌}
use Rattle.entries.specs.Postfix.{entered}
use Rattle.entries.specs.Builder.{made_of}
use Rattle.entries.proofs.Drafts.{entered_is}
use Rattle.entries.proofs.Builder.enter.Goals as goal

pub returns : goal.returns
returns c =
    let a = c.args in
    entered_is a.self.now.draft a.self.now.table a.self.now.operands c.number_of.result a.l a.r a.g a.at (omega (arith, a.self.now.sound.room))
    ∙ ap (λ (k : ℕ). entered k a.l a.r a.g a.at (made_of a.self.now)) c.number_of.ensures
