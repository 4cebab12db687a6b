-- The nearest centre, by the distances that are kept, as a loop finds it. Assumes nothing.
use Prim.Native.Nat.{◌*◌, ◌+◌, ◌-◌, ◌<◌, ◌≤◌, min, suc, ℕ}
use Rattle.frontier.specs.Waiting.{least_kept}
use Rattle.frontier.specs.Workspace.{kept}
use Rattle.words.specs.Words.{first#, n#}
use lib.ListN.{get_or}
use mathlib.Core.List.{List}
use mathlib.Core.Path.{◌∙◌, ◌≡◌, ap, ap₂, subst}
use native.Mathlib.Omega.{arith}

-- y is the least of those of the nodes a up to j, j being next
pub record LeastTo (w work : List ℕ) (a e j y : ℕ) : Type 0 where
  pub least : y ≡ least_kept w work a (j - (a + 1))
  pub low : a + 1 ≤ j
  pub high : j ≤ e

module _ (w work : List ℕ) (n a e : ℕ) (rows : n ≡ n# w) where
  -- the first of node a is looked at
  pub least_start : (r y : ℕ) → a < e → r ≡ first# w a → y ≡ get_or work (2 * n + r) 0 → LeastTo w work a e (a + 1) y
  least_start r y h f ey =
      let z : 0 ≡ a + 1 - (a + 1) = omega arith in
      let here : a ≡ a + 0 = omega arith in
      record {
        least = ey ∙ ap₂ (λ (n r : ℕ). kept work n r) rows (f ∙ ap (first# w) here) ∙ ap (least_kept w work a) z;
        low = omega arith;
        high = omega arith;
      }

  -- the first of node j is looked at
  pub least_step : (j y r z : ℕ) → LeastTo w work a e j y → j < e → r ≡ first# w j → z ≡ min y (get_or work (2 * n + r) 0)
      → LeastTo w work a e (j + 1) z
  least_step j y r z T h f ez =
      let here : j ≡ a + suc (j - (a + 1)) = omega (arith, T.low) in
      let next : suc (j - (a + 1)) ≡ j + 1 - (a + 1) = omega (arith, T.low) in
      record {
        least = ez ∙ ap₂ (λ (u v : ℕ). min u v) T.least (ap₂ (λ (n r : ℕ). kept work n r) rows (f ∙ ap (first# w) here))
            ∙ ap (least_kept w work a) next;
        low = omega (arith, T.low);
        high = omega arith;
      }

  -- all are looked at
  pub least-done : (j y : ℕ) → e ≤ j → LeastTo w work a e j y → y ≡ least_kept w work a (e - (a + 1))
  least-done j y h T =
      let z : j ≡ e = omega (arith, T.high) in
      subst (λ (j : ℕ). y ≡ least_kept w work a (j - (a + 1))) z T.least
