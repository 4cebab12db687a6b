-- Numbers laid into a table, one behind the other. Assumes nothing.
use Prim.Native.Nat.{◌+◌, ◌≤◌, ℕ}
use lib.ListN.{drop, length, length-append, length-drop, take, take-append-drop}
use lib.Seq.{drop_at, drop-drop, length-take-le, take_at}
use mathlib.Core.List.{List, [], ◌++◌, append_assoc, append-nil}
use mathlib.Core.Path.{◌∙◌, ◌≡◌, ap}
use native.Mathlib.Nat.{add-zero}
use native.Mathlib.Omega.{arith}

-- the numbers xs from place p on, with the rest as it was
abbrev pub laid : List ℕ → ℕ → List ℕ → List ℕ
laid table p xs = take p table ++ xs ++ drop (p + length xs) table

-- none
pub laid_none : (table : List ℕ) (p : ℕ) → table ≡ laid table p []
laid_none table p = rw (add-zero, append-nil, take-append-drop)

module _ (table a : List ℕ) (p : ℕ) (h : p + length a ≤ length table) where
  -- what stands in front of the rest is p and a
  front : length (take p table ++ a) ≡ p + length a
  front = length-append (take p table) a ∙ ap (λ (k : ℕ). k + length a) (length-take-le p table (omega arith))

  -- the table is as long as it was
  pub laid-long : length (laid table p a) ≡ length table
  laid-long = length-append (take p table ++ a) (drop (p + length a) table) ∙ omega (arith, front, length-drop (p + length a) table)

  -- its front is what stood before p, and a
  laid-front : take (p + length a) (laid table p a) ≡ take p table ++ a
  laid-front = take_at (take p table ++ a) (drop (p + length a) table) (p + length a) front

  -- the rest is as it was
  laid-rest : (k : ℕ) → drop (p + length a + k) (laid table p a) ≡ drop (p + length a + k) table
  laid-rest k =
      rw (← drop-drop k (p + length a) (laid table p a), ← drop-drop k (p + length a) table)
      (ap (drop k) (drop_at (take p table ++ a) (drop (p + length a) table) (p + length a) front))

  -- one behind the other
  pub laid_more : (b : List ℕ) → laid (laid table p a) (p + length a) b ≡ laid table p (a ++ b)
  laid_more b =
      let e : p + length (a ++ b) ≡ p + length a + length b = simp length-append (omega arith) in
      rw (laid-front, laid-rest (length b), ← e) (ap (λ (x : List ℕ). x ++ drop (p + length (a ++ b)) table) (append_assoc (take p table) a b))
