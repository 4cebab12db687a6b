-- Entries of rows that have one centre: how many words, what they say, and the rows read back; runs that follow each other. Assumes nothing.
use Prim.Native.Nat.{◌*◌, ◌≤◌, max, suc, ℕ}
use Rattle.groups.specs.Groups.{distances, size, widest}
use Rattle.laws.proofs.Joins.{each_append}
use Rattle.laws.proofs.Lists.{tally_length}
use Rattle.laws.specs.Every.{Every}
use Rattle.laws.specs.Lists.{each, greatest, head, joined}
use Rattle.rounds.specs.Entries.{Entries}
use Rattle.split.specs.Runs.{laid, rows}
use Rattle.tree.proofs.Grow.{split-tally}
use Rattle.tree.specs.Build.{Run, split}
use lib.ListN.{length, length-append}
use mathlib.Core.Bool.{true}
use mathlib.Core.List.{List, [], ◌++◌, ◌∷◌, map}
use mathlib.Core.Path.{◌∙◌, ◌≡◌, ap, refl, sym}
use native.Mathlib.Omega.{arith}

-- the entries of the rows xs at the distances f, all of centre a
abbrev pub under : (ℕ → ℕ) → ℕ → List ℕ → List ℕ
under f a xs = each (λ i. i ∷ f i ∷ a ∷ []) xs

-- as many as rows
pub under_size : (f : ℕ → ℕ) (a : ℕ) (xs : List ℕ) → size (under f a xs) ≡ length xs
unfolding size
under_size f a [] = refl
under_size f a (x ∷ xs) = ap suc (under_size f a xs)

-- the greatest of their distances
pub under_widest : (f : ℕ → ℕ) (a : ℕ) (xs : List ℕ) → widest (under f a xs) ≡ greatest (map f xs)
unfolding widest
under_widest f a [] = refl
under_widest f a (x ∷ xs) = ap (max (f x)) (under_widest f a xs)

-- their distances
pub under_distances : (f : ℕ → ℕ) (a : ℕ) (xs : List ℕ) → distances (under f a xs) ≡ map f xs
unfolding distances
under_distances f a [] = refl
under_distances f a (x ∷ xs) = ap (λ (ds : List ℕ). f x ∷ ds) (under_distances f a xs)

-- three words each
pub under_long : (f : ℕ → ℕ) (a : ℕ) (xs : List ℕ) → length (under f a xs) ≡ 3 * length xs
under_long f a [] = refl
under_long f a (x ∷ xs) = omega (arith, under_long f a xs)

-- what holds of each row holds of each entry
pub under_entries : (P : ℕ → Type 0) (Q : ℕ → Type 0) → ((i : ℕ) → P i → Q i) → (f : ℕ → ℕ) (a : ℕ) (xs : List ℕ) → Every P xs
    → Entries Q (under f a xs)
unfolding Entries
under_entries P Q g f a [] h = tt
under_entries P Q g f a (x ∷ xs) h = (g x h.0, under_entries P Q g f a xs h.1)

-- the rows are read back
pub under_rows : (f : ℕ → ℕ) (a : ℕ) (xs : List ℕ) → rows (under f a xs) ≡ xs
unfolding rows
under_rows f a [] = refl
under_rows f a (x ∷ xs) = ap (λ (ys : List ℕ). x ∷ ys) (under_rows f a xs)

-- the entries of two lists of rows
pub under_append : (f : ℕ → ℕ) (a : ℕ) (xs ys : List ℕ) → under f a (xs ++ ys) ≡ under f a xs ++ under f a ys
under_append f a xs ys = each_append (λ i. i ∷ f i ∷ a ∷ []) xs ys

module _ (d : ℕ → ℕ → ℕ) where
  -- a run's entries have three words a row
  pub laid-long : (run : List ℕ) → length (laid d run) ≡ 3 * length run
  laid-long run = under_long (d (head run)) (head run) run

  -- and so have those of runs that follow each other
  pub runs-long : (rs : List (List ℕ)) → length (each (laid d) rs) ≡ 3 * length (joined rs)
  runs-long [] = refl
  runs-long (r ∷ rs) = omega (arith, length-append (laid d r) (each (laid d) rs), length-append r (joined rs), laid-long r, runs-long rs)

  -- a split run's children have its rows, no more and no fewer
  pub split-joined : (m : ℕ) (run : List ℕ) → 1 ≤ m → m ≤ length run → Run run → length (joined (split d m run)) ≡ length run
  split-joined m run h l r =
      sym (tally_length (joined (split d m run))) ∙ split-tally d m m h (omega arith) (λ i. true) run r l ∙ tally_length run
