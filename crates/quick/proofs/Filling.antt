-- The loop that fills a row with the lowest numbers that go on, with the evaluations that it makes.
use Prim.Native.Nat.{ℕ, ◌+◌, ◌-◌, ◌*◌, ◌<◌, ◌≤◌}
use native.Mathlib.Omega.{arith}
use mathlib.Core.Path.{◌≡◌, refl, sym, ◌∙◌, subst}
use mathlib.Core.Logic.{⊎_elim}
use mathlib.Core.List.{List}
use lib.ListN.{length, take, drop, get_or, set, length-set}
use lib.Seq.{get_or-take, ext_get_or}
use Rattle.model.specs.Tree.{size_of}
use Rattle.model.specs.Answers.{Row}
use Rattle.std.specs.Prelude.{Some}
use Rattle.quick.specs.Effort.{descended}
use Rattle.quick.specs.Search.{Ready, Answer, Nodes, Same, Before, goes_on, Lowest, Tries, Begins, First, FirstFrom}
use Rattle.quick.proofs.Rows.{before_step}
use Rattle.answers.proofs.Opened.{long}
use Rattle.quick.proofs.Opened.{few}
use Rattle.quick.proofs.Search.{set_at, set_off, set_nodes, lowest_least, lowest_begins, levels_more, levels_few}
use Rattle.quick.proofs.Effort.{descended_none, filled_more, filled_done}

-- the first j numbers stand in `at`, those below i as in the row, each of the others the lowest with which an answer goes on
pub record Filling (t q : List ℕ) (k i : ℕ) (row at : List ℕ) (j : ℕ) : Type 0 where
  pub nodes : Nodes (size_of t) k at
  pub within : j ≤ k
  pub long : length at ≡ 3
  pub low : i ≤ j
  pub same : Same i at row
  pub begins : Begins t q k j at
  pub first : (x : Row) → Answer t q k x → Same i x row → Before j x at → ⊥

module _ {t prev q : List ℕ} {k : ℕ} (ok : Ready t prev q k) (i : ℕ) (row : List ℕ) where
  pub filling_start : length row ≡ 3 → Nodes (size_of t) k row → i ≤ k → Begins t q k i row → Filling t q k i row row i
  filling_start e p m b =
      record {
        nodes = p;
        within = m;
        long = e;
        low = omega arith;
        same = λ j l. refl;
        begins = b;
        first = λ x a s (c, l, u, g). absurd (omega (arith, s c l));
      }

  module _ (at : List ℕ) (j : ℕ) (f : Filling t q k i row at j) (l : j < k) (v : ℕ) (w : Lowest (goes_on t q k at j) 0 (size_of t) v) where
    -- the number that is tried is there
    pub filling_node : v < size_of t
    filling_node =
        let b = f.begins in
        omega (arith, lowest_least ok at f.long j l 0 v w b.one b.answer b.same (omega arith), b.answer.1 j (omega (arith, b.answer.0)))

    pub filling_on : Filling t q k i row (set at j v) (j + 1)
    filling_on =
        record {
          nodes = set_nodes (size_of t) k at j v (few ok) f.long l f.nodes filling_node;
          within = omega arith;
          long = length-set at j v ∙ f.long;
          low = omega (arith, f.low);
          same = λ c h. set_off at j v c (λ e. omega (arith, f.low)) ∙ f.same c h;
          begins = lowest_begins ok at f.long j l 0 v w f.nodes filling_node;
          first = λ x a s b. ⊎_elim (λ d. f.first x a s (narrow x d)) (λ d. late x a d.0 d.1) (before_step j x (set at j v) b);
        }
      where
        keeps : (c : ℕ) → c < j → get_or (set at j v) c 0 ≡ get_or at c 0
        keeps c h = set_off at j v c (λ e. omega arith)

        narrow : (x : Row) → Before j x (set at j v) → Before j x at
        narrow x (c, h, u, g) = (c, h, λ d m. u d m ∙ keeps d (omega arith), (rw (keeps c h) at g))

        late : (x : Row) → Answer t q k x → Same j x (set at j v) → get_or x j 0 < get_or (set at j v) j 0 → ⊥
        late x a s g =
            let h : v ≤ get_or x j 0 = lowest_least ok at f.long j l 0 v w x a (λ c m. s c m ∙ keeps c m) (omega arith) in
            let e : get_or (set at j v) j 0 ≡ v = set_at at j v j f.long (omega (arith, few ok)) refl in
            omega arith

  pub filling_done : (at : List ℕ) (j : ℕ) → Filling t q k i row at j → k ≤ j → First t q k i row at
  filling_done at j f h =
      (record {
        answer = subst (λ (r : Row). Answer t q k r) whole f.begins.answer;
        same = f.same;
        first = λ x a u b. f.first x a u (subst (λ (m : ℕ). Before m x at) (let d : k ≡ j = omega (arith, f.within) in d) b);
      })
    where
      whole : f.begins.one ≡ take k at
      whole =
          ext_get_or 0 f.begins.one (take k at) (f.begins.answer.0 ∙ sym (long ok.listed at f.long))
          (λ m l. f.begins.same m (omega (arith, f.begins.answer.0)) ∙ sym (get_or-take k at m 0 (omega (arith, f.begins.answer.0))))

-- The same with the evaluations: e after so many numbers, spent of them before the loop.

pub record Filled (t q : List ℕ) (k i : ℕ) (row at : List ℕ) (j spent e : ℕ) : Type 0 where
  pub filling : Filling t q k i row at j
  pub most : e ≤ spent + (j - i) * size_of t
  pub exact : e ≡ spent + descended (drop i (take j at))

module _ {t prev q : List ℕ} {k : ℕ} (ok : Ready t prev q k) (i spent : ℕ) (row : List ℕ) where
  pub filled_start : length row ≡ 3 → Nodes (size_of t) k row → i ≤ k → Begins t q k i row → Filled t q k i row row i spent spent
  filled_start l n m b = record { filling = filling_start ok i row l n m b; most = omega arith; exact = omega (arith, descended_none i row) }

  module _ (at : List ℕ) (j e : ℕ) (f : Filled t q k i row at j spent e) where
    few_more : (j - i) * size_of t ≤ 3 * size_of t
    few_more = levels_few i j (size_of t) (omega (arith, f.filling.within, few ok))

    pub filled_few : e ≤ spent + 3 * size_of t
    filled_few = omega (arith, f.most, few_more)

    pub filled_on : j < k → (v e₁ : ℕ) → Lowest (goes_on t q k at j) 0 (size_of t) v → e₁ ≤ e + size_of t → Tries 0 (size_of t) v e e₁ → Filled t q k i row (set at j v) (j + 1) spent e₁
    filled_on l v e₁ w most tried =
        record {
          filling = filling_on ok i row at j f.filling l v w;
          most = omega (arith, f.most, levels_more i j (size_of t) f.filling.low);
          exact = filled_more i j e spent at f.exact v e₁ f.filling.low (omega (arith, f.filling.long, few ok)) (tried.0 (filling_node ok i row at j f.filling l v w));
        }

    pub filled_whole : k ≤ j → FirstFrom t q k i row spent (record { spot = Some at; evaluations = e })
    filled_whole l = (filling_done ok i row at j f.filling l, (filled_few, filled_done i j e spent at f.exact k f.filling.within l))
