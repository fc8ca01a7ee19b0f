use Prim.Native.Nat.{ℕ, ◌+◌, ◌*◌, ◌%◌}
use borrow.Author.Rules.{rules}
use native.Mathlib.Omega.{arith}
use mathlib.Core.Path.{refl, ap}
use Rattle.words.proofs.Scanning.{same_slices, word_found, word_missed, words_end}
use Rattle.words.proofs.seek.Goals as goal

pub returns-then-live-n : goal.returns-then-live-n
returns-then-live-n c =
    word_found _ _ _ _ _ _ _ _ _ _ (record {
      room = omega arith;
      below = omega arith;
      kept = c.loop-k.invariant;
      flag = refl;
      size = ap (λ (j : ℕ). j % 21) c.from-len.ensures;
      same = same_slices c.args.words.now c.args.text.now c.args.at (21 * c.loop-k.k + 1) (c.from-len.result % 21) c.alike-n.result (omega arith) c.alike-n.ensures;
    }) c.if-live-n.true

pub loop-k-preserved : goal.loop-k-preserved
loop-k-preserved c =
    word_missed _ _ _ _ _ _ _ _ _ _ _ c.raised-best.ensures (record {
      room = omega arith;
      below = omega arith;
      kept = c.loop-k.invariant;
      flag = refl;
      size = ap (λ (j : ℕ). j % 21) c.from-len.ensures;
      same = same_slices c.args.words.now c.args.text.now c.args.at (21 * c.loop-k.k + 1) (c.from-len.result % 21) c.alike-n.result (omega arith) c.alike-n.ensures;
    }) c.if-live-n.false

pub returns : goal.returns
returns c = search (words_end, rules)
