-- An index that the full check accepts has a tree that fits its table. Assumes nothing.
use Prim.Native.Nat.{◌+◌, ◌-◌, ◌<◌, ◌≤◌, suc, zero, ℕ}
use Rattle.laws.proofs.Every.{every_map}
use Rattle.laws.proofs.Ranges.{range-every}
use Rattle.laws.proofs.Times.{lefts}
use Rattle.laws.specs.Every.{Every}
use Rattle.laws.specs.Lists.{range, rest}
use Rattle.tree.proofs.Forks.{kids-first, kids-rows}
use Rattle.tree.proofs.Members.{held, kids-firsts, run-first}
use Rattle.tree.proofs.Sound.{Close, Reaches, Sound}
use Rattle.tree.specs.Grove.{Grove, bare, fork, leaf, members#, reach#, rows_in, tree_at}
use Rattle.words.specs.InShape.{InShape, Left}
use Rattle.words.specs.Shape.{inner}
use Rattle.words.specs.Words.{nodes#, child#, count#, dist#, first#, inner#, m#, n#, radius#, row#, start#}
use mathlib.Core.Bool.{Bool, cond, false, true}
use mathlib.Core.List.{List, foldr, map}
use mathlib.Core.Path.{◌≡◌, refl, subst, sym}
use native.Mathlib.Nat.{add-suc, add-zero, suc-add}
use native.Mathlib.Omega.{arith}

-- what the full check says, node by node and position by position
pub record Fits (d : ℕ → ℕ → ℕ) (w : List ℕ) : Type 0 where
  pub dists : (k i : ℕ) → k < nodes# w → inner w k ≡ false → i < count# w k → start# w k + i < n# w
      → d (first# w k) (row# w (start# w k + i)) ≡ dist# w (start# w k + i)
  pub radii : (k i : ℕ) → k < nodes# w → i < count# w k → d (first# w k) (row# w (start# w k + i)) ≤ radius# w k
  pub inners : (k i : ℕ) → k < nodes# w → suc i < count# w k → inner# w k ≤ d (first# w k) (row# w (start# w k + suc i))
  pub near : (k a b i : ℕ) → k < nodes# w → inner w k ≡ true → a < m# w → b < m# w → i < count# w (child# w k + a)
      → start# w k ≤ start# w (child# w k + a) + i → start# w (child# w k + a) + i < start# w k + count# w k
      → d (first# w (child# w k + a)) (row# w (start# w (child# w k + a) + i)) ≤ d (first# w (child# w k + b)) (row# w (start# w (child# w k + a) + i))

module _ (d : ℕ → ℕ → ℕ) (w : List ℕ) (S : InShape w) (F : Fits d w) where
  -- a fact of n positions from s on is one of every pair that they hold
  held_every : (P : ℕ × ℕ → Type 0) (s n : ℕ) → ((i : ℕ) → i < n → P (row# w (s + i), dist# w (s + i))) → Every P (held w s n)
  held_every P s n f = every_map P (λ p. (row# w p, dist# w p)) (range s n) (range-every (λ p. P (row# w p, dist# w p)) s n f)

  -- and of every row
  rows_every : (P : ℕ → Type 0) (s n : ℕ) → ((i : ℕ) → i < n → P (row# w (s + i))) → Every P (lefts (held w s n))
  rows_every P s n f = every_map P (λ e. e.0) (held w s n) (held_every (λ e. P e.0) s n f)

  -- a row of the run of node k is as close to its first as to any of the centres cs
  abbrev AsClose : List ℕ → ℕ → Type 0
  AsClose cs k = Every (λ i. Every (λ c. d (first# w k) i ≤ d c i) cs) (lefts (members# w k))

  -- the rows of node k's tree are so
  close_at : (cs : List ℕ) (deep k : ℕ) (g : Grove) → k < nodes# w → AsClose cs k → Close d cs g → Close d cs (tree_at w deep k g)
  unfolding tree_at
  close_at cs zero k g h a c = (
    subst (λ f. Every (λ i. Every (λ c. d f i ≤ d c i) cs) (lefts (members# w k)))
        (sym (run-first w S (start# w k) (count# w k) (S.node k h).some)) a,
    c,
  )
  close_at cs (suc deep) k g h a c = go (inner w k) refl
    where
      go : (b : Bool) → inner w k ≡ b
          → Close d cs (cond b (fork (reach# w k) (foldr (tree_at w deep) bare (range (child# w k) (m# w))) g) (leaf (reach# w k) (members# w k) g))
      go true e = (
        subst (λ f. Every (λ i. Every (λ c. d f i ≤ d c i) cs) (rows_in (foldr (tree_at w deep) bare (range (child# w k) (m# w)))))
            (sym (kids-first w S deep k h e))
            (subst (λ l. Every (λ i. Every (λ c. d (first# w k) i ≤ d c i) cs) l) (sym (kids-rows w S deep k h e)) a),
        c,
      )
      go false e = (
        subst (λ f. Every (λ i. Every (λ c. d f i ≤ d c i) cs) (lefts (members# w k)))
            (sym (run-first w S (start# w k) (count# w k) (S.node k h).some)) a,
        c,
      )

  -- the children j, j + 1, .. of an inner node, tiling s .. e
  close_kids : (cs : List ℕ) (deep j m : ℕ) → j + m ≤ nodes# w → ((a : ℕ) → a < m → AsClose cs (j + a))
      → Close d cs (foldr (tree_at w deep) bare (range j m))
  close_kids cs deep j zero h f = tt
  close_kids cs deep j (suc m) h f =
      close_at cs deep j (foldr (tree_at w deep) bare (range (suc j) m)) (omega arith) (subst (AsClose cs) (omega arith) (f 0 (omega arith)))
      (close_kids cs deep (suc j) m (omega arith) (λ a q. subst (AsClose cs) (omega arith) (f (suc a) (omega arith))))

  -- a fact of the rows of n positions from s on but the first
  rest_every : (P : ℕ → Type 0) (s n : ℕ) → ((i : ℕ) → suc i < n → P (row# w (s + suc i))) → Every P (rest (lefts (held w s n)))
  rest_every P s zero f = tt
  rest_every P s (suc n) f = rows_every P (suc s) n (λ i u. rw (suc-add s i, ← add-suc s i) (f i (omega arith)))

  -- node k's run is within its reach
  reaches : (k : ℕ) → k < nodes# w → Reaches d (reach# w k) (first# w k) (lefts (members# w k))
  reaches k h = record {
    up = rows_every (λ i. d (first# w k) i ≤ radius# w k) (start# w k) (count# w k) (λ i u. F.radii k i h u);
    low = rest_every (λ i. inner# w k ≤ d (first# w k) i) (start# w k) (count# w k) (λ i u. F.inners k i h u);
  }

  -- a leaf
  leaf_sound : (k : ℕ) (g : Grove) → k < nodes# w → inner w k ≡ false → Sound d g
      → Sound d (leaf (reach# w k) (members# w k) g)
  leaf_sound k g h e s =
      let r = sym (run-first w S (start# w k) (count# w k) (S.node k h).some) in (
        subst (λ f. Every (λ e. d f e.0 ≡ e.1) (members# w k)) r
            (held_every (λ e. d (first# w k) e.0 ≡ e.1) (start# w k) (count# w k) (λ i u. F.dists k i h e u (omega (arith, (S.node k h).run)))),
        subst (λ f. Reaches d (reach# w k) f (lefts (members# w k))) r (reaches k h),
        s,
      )

  -- the children of an inner node: each row is with its closest centre
  near_kids : (k : ℕ) → k < nodes# w → inner w k ≡ true → (a : ℕ) → a < m# w → AsClose (map (first# w) (range (child# w k) (m# w))) (child# w k + a)
  near_kids k h e a q =
      let j : ℕ = child# w k + a in
      let t = ((S.node k h).kids e).part a q in
      rows_every (λ i. Every (λ c. d (first# w j) i ≤ d c i) (map (first# w) (range (child# w k) (m# w)))) (start# w j) (count# w j)
      (λ i u. every_map (λ c. d (first# w j) (row# w (start# w j + i)) ≤ d c (row# w (start# w j + i))) (first# w) (range (child# w k) (m# w))
      (range-every (λ b. d (first# w j) (row# w (start# w j + i)) ≤ d (first# w b) (row# w (start# w j + i))) (child# w k) (m# w)
      (λ b v. F.near k a b i h e q v u (omega arith) (omega arith))))

  -- THE TREE FITS ITS TABLE, from node k on with `deep` levels below it
  pub sound_at : (deep k : ℕ) (g : Grove) → Left w deep k → k < nodes# w → Sound d g → Sound d (tree_at w deep k g)
  unfolding tree_at
  sound_at zero k g l h s = leaf_sound k g h ((S.node k h).bottom l) s
  sound_at (suc deep) k g l h s = go (λ j g l h s. sound_at deep j g l h s) (inner w k) refl
    where
      kid-sound : ((j : ℕ) (g : Grove) → Left w deep j → j < nodes# w → Sound d g → Sound d (tree_at w deep j g))
          → (j m : ℕ) → j + m ≤ nodes# w → ((a : ℕ) → a < m → Left w deep (j + a)) → Sound d (foldr (tree_at w deep) bare (range j m))
      kid-sound ih j zero h f = tt
      kid-sound ih j (suc m) h f =
          ih j (foldr (tree_at w deep) bare (range (suc j) m)) (rw (add-zero j) at (f 0 (omega arith))) (omega arith)
          (kid-sound ih (suc j) m (omega arith) (λ a p. rw (add-suc j a, ← suc-add j a) at (f (suc a) (omega arith))))

      go : ((j : ℕ) (g : Grove) → Left w deep j → j < nodes# w → Sound d g → Sound d (tree_at w deep j g)) → (b : Bool) → inner w k ≡ b
          → Sound d (cond b (fork (reach# w k) (foldr (tree_at w deep) bare (range (child# w k) (m# w))) g) (leaf (reach# w k) (members# w k) g))
      go ih true e =
          let K = (S.node k h).kids e in
          let ks : Grove = foldr (tree_at w deep) bare (range (child# w k) (m# w)) in
          let one : suc deep - 1 ≡ deep = omega arith in (
            subst (λ cs. Close d cs ks) (sym (kids-firsts w S deep (child# w k) (m# w) K.inside))
                (close_kids (map (first# w) (range (child# w k) (m# w))) deep (child# w k) (m# w) K.inside (near_kids k h e)),
            subst (λ f. Reaches d (reach# w k) f (rows_in ks)) (sym (kids-first w S deep k h e))
                (subst (Reaches d (reach# w k) (first# w k)) (sym (kids-rows w S deep k h e)) (reaches k h)),
            kid-sound ih (child# w k) (m# w) K.inside (λ a p. subst (λ n. Left w n (child# w k + a)) one (K.down (suc deep) a l)),
            s,
          )
      go ih false e = leaf_sound k g h e s
