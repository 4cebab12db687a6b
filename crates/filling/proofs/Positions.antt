-- The positions of the tree that is grown: its leaves' members, one leaf after the other. Assumes nothing.
use Prim.Native.Nat.{suc, zero, ℕ}
use Rattle.growing.specs.Levels.{leaves}
use Rattle.laws.proofs.Joins.{each_append}
use Rattle.laws.specs.Lists.{each, head}
use Rattle.rounds.specs.Entries.{pairs_in}
use Rattle.split.specs.Runs.{laid}
use Rattle.tree.specs.Build.{grow, leaf_of, reach, split}
use Rattle.tree.specs.Encode.{pair_words}
use Rattle.tree.specs.Grove.{Grove, bare, entries, fork}
use lib.Dec.{leb}
use lib.ListN.{length}
use mathlib.Core.Bool.{Bool, cond, false, true}
use mathlib.Core.List.{List, [], ◌++◌, ◌∷◌, append-nil, foldr, map}
use mathlib.Core.Path.{◌∙◌, ◌≡◌, ap, refl, sym}

-- the pairs in the entries of the rows xs, before other entries
pairs_under : (f : ℕ → ℕ) (a : ℕ) (xs ys : List ℕ)
    → pairs_in (each (λ i. i ∷ f i ∷ a ∷ []) xs ++ ys) ≡ each pair_words (map (λ i. (i, f i)) xs) ++ pairs_in ys
unfolding pairs_in
pairs_under f a [] ys = refl
pairs_under f a (x ∷ xs) ys = ap (λ (l : List ℕ). x ∷ f x ∷ l) (pairs_under f a xs ys)

module _ (d : ℕ → ℕ → ℕ) where
  -- a leaf's members, each with its distance from the first
  abbrev pub pairs_of : List ℕ → List (ℕ × ℕ)
  pairs_of run = map (λ i. (i, d (head run) i)) run

  -- the pairs in the entries of runs that follow each other
  pub pairs-laid : (rs : List (List ℕ)) → pairs_in (each (laid d) rs) ≡ each pair_words (each pairs_of rs)
  unfolding pairs_in
  pairs-laid [] = refl
  pairs-laid (r ∷ rs) =
      pairs_under (d (head r)) (head r) r (each (laid d) rs) ∙ ap (λ (x : List ℕ). each pair_words (pairs_of r) ++ x) (pairs-laid rs)
      ∙ sym (each_append pair_words (pairs_of r) (each pairs_of rs))

module _ (d : ℕ → ℕ → ℕ) (m l : ℕ) where
  -- nodes side by side have the members of each one's leaves, where each node does
  entries-forest : (deep : ℕ) → ((run : List ℕ) (g : Grove) → entries (grow d m l deep run g) ≡ each (pairs_of d) (leaves d m l deep run) ++ entries g)
      → (rs : List (List ℕ)) → entries (foldr (grow d m l deep) bare rs) ≡ each (pairs_of d) (each (leaves d m l deep) rs)
  entries-forest deep one [] = refl
  entries-forest deep one (r ∷ rs) =
      one r (foldr (grow d m l deep) bare rs) ∙ ap (λ (es : List (ℕ × ℕ)). each (pairs_of d) (leaves d m l deep r) ++ es) (entries-forest deep one rs)
      ∙ sym (each_append (pairs_of d) (leaves d m l deep r) (each (leaves d m l deep) rs))

  -- THE POSITIONS OF A GROWN NODE: its leaves' members
  pub entries-leaves : (deep : ℕ) (run : List ℕ) (g : Grove) → entries (grow d m l deep run g) ≡ each (pairs_of d) (leaves d m l deep run) ++ entries g
  unfolding grow leaves
  entries-leaves zero run g = ap (λ (es : List (ℕ × ℕ)). es ++ entries g) (sym (append-nil (pairs_of d run)))
  entries-leaves (suc deep) run g = go (leb (length run) l) (entries-forest deep (λ r k. entries-leaves deep r k) (split d m run))
    where
      go : (b : Bool) → entries (foldr (grow d m l deep) bare (split d m run)) ≡ each (pairs_of d) (each (leaves d m l deep) (split d m run))
          → entries (cond b (leaf_of d run g) (fork (reach d run) (foldr (grow d m l deep) bare (split d m run)) g))
          ≡ each (pairs_of d) (cond b (run ∷ []) (each (leaves d m l deep) (split d m run))) ++ entries g
      go true h = ap (λ (es : List (ℕ × ℕ)). es ++ entries g) (sym (append-nil (pairs_of d run)))
      go false h = ap (λ (es : List (ℕ × ℕ)). es ++ entries g) h
