-- A list copied into a part of another, one item a turn. Assumes nothing.
use Prim.Native.Nat.{◌+◌, ◌<◌, ◌≤◌, ℕ}
use lib.ListN.{get_or, length, set}
use lib.Seq.{length-paste, paste, paste-suc, paste-zero}
use mathlib.Core.List.{List}
use mathlib.Core.Path.{◌∙◌, ◌≡◌, ap}
use native.Mathlib.Numerals.{add-one}
use native.Mathlib.Omega.{arith}

-- of the first n items i are copied to the place `at` of the room, and there is room for all
pub record Copied (items room₀ : List ℕ) (at n : ℕ) (room : List ℕ) (i : ℕ) : Type 0 where
  pub bound : i ≤ n
  pub fits : at + n ≤ length room₀
  pub there : n ≤ length items
  pub content : room ≡ paste room₀ at items i

module _ (items room₀ : List ℕ) (at n : ℕ) where
  -- before the first turn
  pub copied_start : at + n ≤ length room₀ → n ≤ length items → Copied items room₀ at n room₀ 0
  copied_start h l = record { bound = omega arith; fits = h; there = l; content = paste-zero room₀ at items }

  module _ (room : List ℕ) (i : ℕ) (h : Copied items room₀ at n room i) where
    -- the room is as long as it was
    pub copied-long : length room ≡ length room₀
    copied-long = ap length h.content ∙ length-paste room₀ at items i (omega arith) (omega arith)

    -- one turn more
    pub copied_next : i < n → Copied items room₀ at n (set room (at + i) (get_or items i 0)) (i + 1)
    copied_next l =
        record {
          bound = omega arith;
          fits = h.fits;
          there = h.there;
          content = rw (h.content, add-one) (paste-suc room₀ at items i 0 (omega arith) (omega arith));
        }

    -- behind the last turn all n are copied
    pub copied_all : n ≤ i → room ≡ paste room₀ at items n
    copied_all l = let k : i ≡ n = omega arith in h.content ∙ ap (paste room₀ at items) k
