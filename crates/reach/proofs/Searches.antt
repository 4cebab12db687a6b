-- Searches of nodes' runs: of one run, and of one node's run more. Assumes nothing.
use Prim.Native.Nat.{◌+◌, ◌<◌, ◌≤◌, min, ℕ}
use Rattle.reach.proofs.Pairing.{no_more, not_yet}
use Rattle.laws.proofs.First.{any-more, first_found, first-lost, first_or, first-same, search-stop}
use Rattle.laws.specs.First.{First}
use Rattle.laws.specs.Lists.{any, range}
use Rattle.tree.specs.Check.{in_run}
use Rattle.words.specs.Words.{count#, start#}
use mathlib.Core.Bool.{Bool, ◌||◌, false, true}
use mathlib.Core.List.{List}
use mathlib.Core.Path.{◌≡◌, sym}
use native.Mathlib.Omega.{arith}

-- ---- a test f that fails outside node j's run: the search of the run up to p met none that passes
module _ (w : List ℕ) (j : ℕ) (f : ℕ → Bool) (outside : (q : ℕ) → in_run w q j ≡ false → f q ≡ false) (p : ℕ) (F : First f (start# w j) p p) where
  -- it passes at p: p is the first of all positions that passes
  pub run-stop : (lo hi : ℕ) → lo ≤ start# w j → start# w j + count# w j ≤ hi → p < start# w j + count# w j → f p ≡ true → First f lo hi p
  run-stop lo hi low high inside e =
      first_found f lo (start# w j) (start# w j + count# w j) hi (λ q l. outside q (not_yet w q j l)) p low high inside
      (search-stop f (start# w j) (start# w j + count# w j) p F inside e)

  -- the run is over: no position passes
  pub run_end : (lo hi : ℕ) → lo ≤ hi → p ≡ start# w j + count# w j → First f lo hi hi
  run_end lo hi h e =
      first-lost f lo (start# w j) p hi (λ q l. outside q (not_yet w q j l)) h (λ q l. outside q (no_more w q j (omega arith))) F

-- ---- many tests, one for each number from a on
-- THE LEAST OF THE FIRSTS: where x is the first that passes one of k tests, and y the first that passes the next, their lesser is that of k + 1
pub least_more : (f : ℕ → ℕ → Bool) (a k lo hi x y : ℕ) → First (λ p. any (λ j. f j p) (range a k)) lo hi x → First (f (a + k)) lo hi y
    → First (λ p. any (λ j. f j p) (range a (k + 1))) lo hi (min x y)
least_more f a k lo hi x y F G =
    first-same (λ p. any (λ j. f j p) (range a k) || f (a + k) p) (λ p. any (λ j. f j p) (range a (k + 1))) lo hi (min x y)
    (λ p. sym (any-more (λ j. f j p) a k)) (first_or (λ p. any (λ j. f j p) (range a k)) (f (a + k)) lo hi x y F G)
