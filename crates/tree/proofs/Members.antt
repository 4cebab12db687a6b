-- The tree of an index in shape, node by node: its members, its firsts, and that nothing in it is empty. Assumes nothing.
use Prim.Native.Nat.{◌+◌, ◌-◌, ◌<◌, ◌≤◌, suc, zero, ℕ}
use Rattle.laws.proofs.Lists.{map-append}
use Rattle.laws.proofs.Ranges.{range_append, range_length}
use Rattle.laws.specs.Lists.{head, range}
use Rattle.tree.proofs.Full.{Full}
use Rattle.tree.specs.Grove.{Grove, bare, entries, firsts, fork, leaf, members#, reach#, tree_at}
use Rattle.words.proofs.Tiles.{tile-first, tile-head, tile-le, tile-none, tile-tail}
use Rattle.words.specs.InShape.{InShape}
use Rattle.words.specs.Shape.{inner, tile}
use Rattle.words.specs.Words.{nodes#, child#, count#, dist#, first#, m#, row#, start#}
use lib.Dec.{T}
use lib.ListN.{length, length-map}
use mathlib.Core.Bool.{Bool, cond, false, true}
use mathlib.Core.List.{List, ◌++◌, ◌∷◌, foldr, map}
use mathlib.Core.Path.{◌∙◌, ◌≡◌, ap, ap₂, refl, subst, sym}
use native.Mathlib.Nat.{not-suc-le-zero}
use native.Mathlib.Omega.{arith}

-- what n positions from s on hold: each a row number with its stored distance
abbrev pub held : List ℕ → ℕ → ℕ → List (ℕ × ℕ)
held w s n = map (λ p. (row# w p, dist# w p)) (range s n)

-- a + b positions: the first a, and b more
held_append : (w : List ℕ) (s a b : ℕ) → held w s (a + b) ≡ held w s a ++ held w (s + a) b
held_append w s a b =
    ap (map (λ p. (row# w p, dist# w p))) (range_append s a b) ∙ map-append (λ p. (row# w p, dist# w p)) (range s a) (range (s + a) b)

module _ (w : List ℕ) (S : InShape w) where
  -- an inner node has children
  some-kids : 1 ≤ m# w
  some-kids = omega (arith, S.whole.fan.0)

  -- the members of nodes that tile s .. s + c are the positions from s
  pub kids-entries : (t : ℕ → Grove → Grove) → ((k : ℕ) (g : Grove) → k < nodes# w → entries (t k g) ≡ members# w k ++ entries g)
      → (j k s c : ℕ) → j + k ≤ nodes# w → T (tile w j k s (s + c)) → entries (foldr t bare (range j k)) ≡ held w s c
  kids-entries t f j zero s c h u =
      let q : 0 ≡ c = omega (arith, tile-none w j s (s + c) u) in
      ap (held w s) q
  kids-entries t f j (suc k) s c h u =
      let v = tile-tail w j k s (s + c) u in
      let e = tile-head w j k s (s + c) u in
      let le = tile-le w (suc j) k (s + count# w j) (s + c) v in
      let c' : ℕ = c - count# w j in
      let q : c ≡ count# w j + c' = omega arith in
      f j (foldr t bare (range (suc j) k)) (omega arith)
      ∙ ap₂ {C = List (ℕ × ℕ)} (λ a b. a ++ b) (ap (λ i. held w i (count# w j)) e)
      (kids-entries t f (suc j) k (s + count# w j) c' (omega arith) (subst (λ i. T (tile w (suc j) k (s + count# w j) i)) (omega arith) v))
      ∙ sym (held_append w s (count# w j) c') ∙ ap (held w s) (sym q)

  -- THE MEMBERS OF A NODE ARE ITS RUN
  pub entries_at : (deep k : ℕ) (g : Grove) → k < nodes# w → entries (tree_at w deep k g) ≡ members# w k ++ entries g
  unfolding tree_at
  entries_at zero k g h = refl
  entries_at (suc deep) k g h = go (λ j f q. entries_at deep j f q) (inner w k) refl
    where
      go : ((k : ℕ) (g : Grove) → k < nodes# w → entries (tree_at w deep k g) ≡ members# w k ++ entries g)
          → (b : Bool) → inner w k ≡ b
          → entries (cond b (fork (reach# w k) (foldr (tree_at w deep) bare (range (child# w k) (m# w))) g) (leaf (reach# w k) (members# w k) g))
          ≡ members# w k ++ entries g
      go ih true e =
          ap (λ es. es ++ entries g)
          (kids-entries (tree_at w deep) ih (child# w k) (m# w) (start# w k) (count# w k) ((S.node k h).kids e).inside ((S.node k h).kids e).tiled)
      go ih false e = refl

  -- the first of a run that is not empty
  pub run-first : (s n : ℕ) → 1 ≤ n → head (map (λ e. e.0) (held w s n)) ≡ row# w s
  run-first s zero h = absurd (not-suc-le-zero h)
  run-first s (suc n) h = refl

  -- THE FIRST OF A NODE STANDS AT ITS START
  pub firsts_at : (deep k : ℕ) (g : Grove) → k < nodes# w → firsts (tree_at w deep k g) ≡ first# w k ∷ firsts g
  unfolding tree_at
  firsts_at zero k g h = ap (λ i. i ∷ firsts g) (run-first (start# w k) (count# w k) (S.node k h).some)
  firsts_at (suc deep) k g h = go (λ j f q. firsts_at deep j f q) (inner w k) refl
    where
      kid : ((k : ℕ) (g : Grove) → k < nodes# w → firsts (tree_at w deep k g) ≡ first# w k ∷ firsts g)
          → (m : ℕ) → 1 ≤ m → child# w k < nodes# w → head (firsts (foldr (tree_at w deep) bare (range (child# w k) m))) ≡ first# w (child# w k)
      kid ih zero q p = absurd (not-suc-le-zero q)
      kid ih (suc m) q p = ap head (ih (child# w k) (foldr (tree_at w deep) bare (range (suc (child# w k)) m)) p)

      go : ((k : ℕ) (g : Grove) → k < nodes# w → firsts (tree_at w deep k g) ≡ first# w k ∷ firsts g)
          → (b : Bool) → inner w k ≡ b
          → firsts (cond b (fork (reach# w k) (foldr (tree_at w deep) bare (range (child# w k) (m# w))) g) (leaf (reach# w k) (members# w k) g))
          ≡ first# w k ∷ firsts g
      go ih true e =
          let q : child# w k < nodes# w = omega (arith, ((S.node k h).kids e).inside, some-kids) in
          ap (λ i. i ∷ firsts g) (kid ih (m# w) some-kids q
          ∙ ap (row# w) (tile-first w (child# w k) (m# w) (start# w k) (start# w k + count# w k) some-kids ((S.node k h).kids e).tiled))
      go ih false e = ap (λ i. i ∷ firsts g) (run-first (start# w k) (count# w k) (S.node k h).some)

  -- the firsts of k nodes from j
  pub kids-firsts : (deep j k : ℕ) → j + k ≤ nodes# w → firsts (foldr (tree_at w deep) bare (range j k)) ≡ map (first# w) (range j k)
  kids-firsts deep j zero h = refl
  kids-firsts deep j (suc k) h =
      firsts_at deep j (foldr (tree_at w deep) bare (range (suc j) k)) (omega arith)
      ∙ ap (λ l. first# w j ∷ l) (kids-firsts deep (suc j) k (omega arith))

  -- NO LEAF IS EMPTY AND NO INNER NODE IS CHILDLESS
  pub full_at : (deep k : ℕ) (g : Grove) → k < nodes# w → Full g → Full (tree_at w deep k g)
  unfolding tree_at
  full_at zero k g h f = (simp (length-map, range_length) (S.node k h).some, f)
  full_at (suc deep) k g h f = go (λ j f q u. full_at deep j f q u) (inner w k) refl
    where
      kids : ((k : ℕ) (g : Grove) → k < nodes# w → Full g → Full (tree_at w deep k g))
          → (j m : ℕ) → j + m ≤ nodes# w → Full (foldr (tree_at w deep) bare (range j m))
      kids ih j zero q = tt
      kids ih j (suc m) q = ih j (foldr (tree_at w deep) bare (range (suc j) m)) (omega arith) (kids ih (suc j) m (omega arith))

      go : ((k : ℕ) (g : Grove) → k < nodes# w → Full g → Full (tree_at w deep k g)) → (b : Bool) → inner w k ≡ b
          → Full (cond b (fork (reach# w k) (foldr (tree_at w deep) bare (range (child# w k) (m# w))) g) (leaf (reach# w k) (members# w k) g))
      go ih true e = (
        subst (λ l. 1 ≤ length l) (sym (kids-firsts deep (child# w k) (m# w) ((S.node k h).kids e).inside))
            (simp (length-map, range_length) some-kids),
        kids ih (child# w k) (m# w) ((S.node k h).kids e).inside,
        f,
      )
      go ih false e = (simp (length-map, range_length) (S.node k h).some, f)
