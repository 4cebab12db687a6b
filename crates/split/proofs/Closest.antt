-- A row's closest centre and its distance, as centres are added: what an entry of a row that waits holds. Assumes nothing.
use Prim.Native.Nat.{◌≤◌, min, ℕ}
use Rattle.laws.specs.Lists.{each, least}
use Rattle.rounds.specs.Entries.{near_all, near_one}
use Rattle.tree.proofs.Centres.{closest-least}
use Rattle.tree.specs.Build.{closer, closest, nearness}
use borrow.Author.Tests.{le-ltb, leb-false, leb-true, lt-leb, lt-ltb, ltb-false, ltb-true}
use lib.Dec.{leb, ltb}
use lib.ListN.{length}
use mathlib.Core.Bool.{Bool, cond, false, true}
use mathlib.Core.List.{List, [], ◌++◌, ◌∷◌, map}
use mathlib.Core.Path.{◌∙◌, ◌≡◌, ap, ap₂, refl}
use native.Mathlib.Omega.{arith}

-- "at most" and "less, the other way round" choose alike
choose_alike : (x y a b : ℕ) → cond (leb x y) a b ≡ cond (ltb y x) b a
choose_alike x y a b = go (leb x y) refl
  where
    go : (s : Bool) → leb x y ≡ s → cond s a b ≡ cond (ltb y x) b a
    go true e = rw (le-ltb y x (leb-true x y e))
    go false e = rw (lt-ltb y x (leb-false x y e))

module _ (d : ℕ → ℕ → ℕ) where
  -- ---- the least distance is the closest centre's
  -- of x and the distances of the centres, the least is x or the closest centre's
  least-closest : (a : ℕ) (cs : List ℕ) (i x : ℕ) → least x (map (λ k. d k i) (a ∷ cs)) ≡ min x (d (closest d (a ∷ cs) i) i)
  least-closest a [] i x = omega arith
  least-closest a (b ∷ cs) i x = go (leb (d a i) (d k i)) refl (least-closest b cs i x)
    where
      k : ℕ
      k = closest d (b ∷ cs) i

      go : (s : Bool) → leb (d a i) (d k i) ≡ s → least x (map (λ k. d k i) (b ∷ cs)) ≡ min x (d k i)
          → min (d a i) (least x (map (λ k. d k i) (b ∷ cs))) ≡ min x (d (cond s a k) i)
      go true e h = omega (arith, leb-true (d a i) (d k i) e)
      go false e h = omega (arith, leb-false (d a i) (d k i) e)

  -- a row's least distance from the centres is that of its closest
  pub nearness-closest : (cs : List ℕ) (i : ℕ) → 1 ≤ length cs → nearness d cs i ≡ d (closest d cs i) i
  nearness-closest [] i h = absurd (omega arith)
  nearness-closest (a ∷ cs) i h = least-closest a cs i (d a i) ∙ omega (arith, (closest-least d (a ∷ cs) i).0)

  -- ---- one centre more
  -- the closest is the new centre where that is strictly closer, else the one before: a tie goes to the earlier
  closest-more : (a : ℕ) (cs : List ℕ) (j i : ℕ)
      → closest d (a ∷ cs ++ j ∷ []) i ≡ cond (ltb (d j i) (d (closest d (a ∷ cs) i) i)) j (closest d (a ∷ cs) i)
  closest-more a [] j i = choose_alike (d a i) (d j i) a j
  closest-more a (b ∷ cs) j i = ap (closer d i a) (closest-more b cs j i) ∙ go (ltb (d j i) (d k i)) (leb (d a i) (d k i)) refl refl
    where
      k : ℕ
      k = closest d (b ∷ cs) i

      go : (s t : Bool) → ltb (d j i) (d k i) ≡ s → leb (d a i) (d k i) ≡ t
          → closer d i a (cond s j k) ≡ cond (ltb (d j i) (d (cond t a k) i)) j (cond t a k)
      go true true e f = choose_alike (d a i) (d j i) a j
      go true false e f = rw (e, lt-leb (d a i) (d j i) (omega (arith, ltb-true (d j i) (d k i) e, leb-false (d a i) (d k i) f)))
      go false true e f = rw (f, le-ltb (d j i) (d a i) (omega (arith, ltb-false (d j i) (d k i) e, leb-true (d a i) (d k i) f)))
      go false false e f = rw (f, e)

  -- ---- entries
  -- the entry of a row that waits while cs are the centres
  abbrev pub held : List ℕ → ℕ → List ℕ
  held cs i = i ∷ nearness d cs i ∷ closest d cs i ∷ []

  -- it learns of one centre more
  near-one : (a : ℕ) (cs : List ℕ) (j i : ℕ) → near_one d j i (nearness d (a ∷ cs) i) (closest d (a ∷ cs) i) ≡ held (a ∷ cs ++ j ∷ []) i
  near-one a cs j i =
      rw (nearness-closest (a ∷ cs) i (omega arith), nearness-closest (a ∷ cs ++ j ∷ []) i (omega arith), closest-more a cs j i)
      (go (ltb (d j i) (d k i)))
    where
      k : ℕ
      k = closest d (a ∷ cs) i

      go : (s : Bool) → i ∷ cond s (d j i) (d k i) ∷ cond s j k ∷ [] ≡ i ∷ d (cond s j k) i ∷ cond s j k ∷ []
      go true = refl
      go false = refl

  -- all entries learn of it
  pub near-held : (a : ℕ) (cs : List ℕ) (j : ℕ) (is : List ℕ) → near_all d j (each (held (a ∷ cs)) is) ≡ each (held (a ∷ cs ++ j ∷ [])) is
  unfolding near_all
  near-held a cs j [] = refl
  near-held a cs j (i ∷ is) = ap₂ (λ x y. x ++ y) (near-one a cs j i) (near-held a cs j is)
