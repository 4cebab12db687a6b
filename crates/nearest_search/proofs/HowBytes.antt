-- How-bytes: wiped before a search, and as many as there are rows. Assumes nothing.
use Prim.Native.Nat.{◌+◌, ◌≤◌, suc, zero, ℕ}
use Rattle.buffers.specs.Wiped.{wiped}
use Rattle.laws.proofs.Ranges.{range_length}
use Rattle.laws.specs.Lists.{has, look, range}
use Rattle.tree.specs.Grove.{Grove}
use Rattle.tree.specs.Homes.{homes}
use Rattle.tree.specs.Nearest.{answers, near_how, passes}
use Rattle.words.specs.Words.{n#}
use lib.Dec.{ltb}
use lib.ListN.{drop, get_or, length, length-drop, length-map}
use lib.Seq.{ext_get_or, get_or-drop}
use mathlib.Core.Bool.{Bool, cond}
use mathlib.Core.List.{List, map}
use mathlib.Core.Path.{◌∙◌, ◌≡◌, refl, subst, sym}
use native.Mathlib.Omega.{arith}

-- two lists that agree from k on
pub drop-same : (a b : List ℕ) (k : ℕ) → length a ≡ length b → ((i : ℕ) → k ≤ i → get_or a i 0 ≡ get_or b i 0) → drop k a ≡ drop k b
drop-same a b k e h =
    ext_get_or 0 (drop k a) (drop k b) (simp length-drop (omega arith)) (λ i l. get_or-drop k a i 0 ∙ h (k + i) (omega arith) ∙ sym (get_or-drop k b i 0))

-- the same for the number of rows as the code holds it
pub wiped_as : (w how how₁ : List ℕ) (n : ℕ) → n ≡ n# w → how₁ ≡ wiped n how → how₁ ≡ wiped (n# w) how
wiped_as w how how₁ n en e = subst (λ (n : ℕ). how₁ ≡ wiped n how) en e

-- a bit is told by the test whether it is set
pub bit_is : (v : ℕ) → v ≤ 1 → v ≡ cond (ltb 0 v) 1 0
bit_is zero h = refl
bit_is (suc zero) h = refl
bit_is (suc (suc v)) h = absurd (omega arith)

-- there are n how-bytes
pub near_length : (x : ℕ → ℕ) (gone : ℕ → Bool) (n : ℕ) (g : Grove) (wanted : ℕ) → length (near_how x gone n g wanted) ≡ n
unfolding near_how
near_length x gone n g wanted =
    length-map (range 0 n) (λ i. cond (has i (map (λ a. a.0) (answers x gone n wanted))) 3 (cond (passes x gone n wanted (look i (homes x g))) 1 0))
    ∙ range_length 0 n
