-- The loop that writes the table.
use Prim.Native.Nat.{ℕ, ◌+◌, ◌<◌}
use native.Mathlib.Omega.{arith}
use mathlib.Core.Path.{◌≡◌, ◌∙◌}
use mathlib.Core.List.{List}
use lib.ListN.{length}
use Rattle.model.specs.declared.Entry.{Entry}
use Rattle.model.specs.QueryTable.{entry}
use Rattle.opening.specs.Opening.{node_step, opened_entry, Stored, Front, OpensTo}

pub front_made : (l a b : List ℕ) (f g : Entry) → Stored 1 g a b → g ≡ node_step 11 → Stored 0 f l a → f ≡ node_step 0 → length l ≡ 264 → Front b
front_made l a b f g second pg first pf long = record {
  size = second.size ∙ first.size ∙ long;
  first = second.other 0 (omega arith) ∙ first.here ∙ pf;
  second = second.here ∙ pg;
}

-- one entry more
pub opens_next : (q : List ℕ) (i e : ℕ) (a b : List ℕ) (f g : Entry) → OpensTo q i e a → Stored (2 + e) g a b → g ≡ opened_entry i f → f ≡ entry q e → OpensTo q i (e + 1) b
opens_next q i e a b f g o s pg pf = record {
  front = record {
    size = s.size ∙ o.front.size;
    first = s.other 0 (omega arith) ∙ o.front.first;
    second = s.other 1 (omega arith) ∙ o.front.second;
  };
  at = λ x l. here x l (native.Mathlib.Decide.ℕ_discrete x e);
}
  where
    here : (x : ℕ) → x < e + 1 → Dec (x ≡ e) → entry b (2 + x) ≡ opened_entry i (entry q x)
    here x l (yes h) = rw h (s.here ∙ pg ∙ rw pf)
    here x l (no h) = s.other (2 + x) (omega arith) ∙ o.at x (omega arith)
