-- The nodes that one pass makes, level by level, are the numbering of the tree that takes all rows at once. Assumes nothing.
use Prim.Native.Nat.{◌+◌, ◌-◌, ◌<◌, ◌≤◌, min, suc, zero, ℕ}
use Rattle.appending.proofs.Lowest.{once_each}
use Rattle.appending.specs.Append.{lowest_at, twice}
use Rattle.laws.proofs.Every.{every_append}
use Rattle.laws.proofs.Lists.{map-append}
use Rattle.laws.proofs.Times.{lefts}
use Rattle.laws.specs.Every.{Every}
use Rattle.laws.specs.Lists.{head, keep, range}
use Rattle.levels.proofs.Singles.{numbered-items, singles-length}
use Rattle.levels.specs.Singles.{Single, kids_of, level_of, levels_of, lower, singles, words_at}
use Rattle.limits.specs.Limits.{max_depth}
use Rattle.swelling.proofs.Counted.{kids-counted, kids-long, members_long}
use Rattle.swelling.proofs.Parting.{parts-runs}
use Rattle.swelling.proofs.Routed.{keep-zero}
use Rattle.swelling.proofs.Swelling.{forest, kids-count}
use Rattle.swelling.specs.Pieces.{Piece, grown, grown_from, kid_for, kids_from, lastly, leaf_piece, level_from, levels_from, old, open_all, opens, piece_of, settled, start_of, waiting}
use Rattle.swelling.specs.Swell.{flat, lodges, parts, reach_taking, swell, swollen, swollen_tree, towards}
use Rattle.tree.proofs.Forks.{as-fork, as-leaf}
use Rattle.tree.proofs.Members.{firsts_at, kids-firsts}
use Rattle.tree.specs.Build.{Run, reach}
use Rattle.tree.specs.Encode.{Node, numbered, span}
use Rattle.tree.specs.Grove.{Grove, Reach, bare, entries, first, firsts, fork, leaf, members#, reach#, tree_at, tree_of}
use Rattle.words.proofs.InShape.{left_root}
use Rattle.words.specs.InShape.{InShape, Left}
use Rattle.words.specs.Shape.{inner}
use Rattle.words.specs.Words.{nodes#, child#, count#, first#, l#, m#, n#}
use borrow.Author.Tests.{leb-false}
use lib.Dec.{T, eqb, leb}
use lib.ListN.{length, length-append, length-map}
use mathlib.Core.Bool.{Bool, cond, false, true}
use mathlib.Core.List.{List, [], ◌++◌, ◌∷◌, foldr, map}
use mathlib.Core.Path.{◌∙◌, ◌≡◌, ap, ap₂, refl, subst, sym}
use native.Mathlib.Nat.{add-zero}
use native.Mathlib.Omega.{arith}

module _ (d : ℕ → ℕ → ℕ) (w : List ℕ) (S : InShape w) where
  -- the index's m
  abbrev pub m : ℕ
  m = m# w

  -- and l
  abbrev pub l : ℕ
  l = l# w

  -- two centres or more
  m2 : 2 ≤ m# w
  m2 = S.whole.fan.0

  -- and no more than a leaf has rows
  ml : m# w ≤ l# w
  ml = S.whole.leaf.0

  -- j old nodes from number o on
  abbrev pub trees : ℕ → ℕ → ℕ → Grove
  trees deep o j = foldr (tree_at w deep) bare (range o j)

  -- the children of old node o
  abbrev pub kids : ℕ → ℕ → Grove
  kids deep o = trees deep (child# w o) (m# w)

  -- ---- a piece's node with at most `deep` levels below it, before the nodes g
  unfoldable pub node_of : ℕ → Piece → Grove → Grove
  node_of deep (settled s R es) g = leaf R es g
  node_of deep (grown s R run) g = swell d (m# w) (l# w) deep R run g
  node_of zero (old s o zs) g = leaf (reach# w o) (members# w o) g
  node_of (suc deep) (old s o zs) g =
      fork (reach_taking (length (entries (kids deep o))) (reach# w o) (map (d (first (kids deep o))) zs))
      (swollen d (m# w) (l# w) deep (towards d (kids deep o)) 0 zs (kids deep o)) g

  -- by itself, where it stands
  abbrev pub one : ℕ → Piece → Single
  one deep q = (start_of q, node_of deep q bare)

  -- pieces that can stand with `deep` levels below
  abbrev pub Stands : ℕ → Piece → Type 0
  Stands deep (settled s R es) = Unit {0}
  Stands deep (grown s R run) = Run run
  Stands zero (old s o zs) = ⊥
  Stands (suc deep) (old s o zs) = (o < nodes# w) × (inner w o ≡ true) × Left w (suc deep) o

  -- ---- nodes side by side, as single ones
  -- a run's
  swell-single : (deep s : ℕ) (R : Reach) (run : List ℕ) (g : Grove) → Run run
      → singles s (swell d m l deep R run g) ≡ (s, swell d m l deep R run bare) ∷ singles (s + length run) g
  unfolding singles swell
  swell-single zero s R run g r = rw length-map refl
  swell-single (suc deep) s R run g r = go (leb (length run) l) refl
    where
      go : (b : Bool) → leb (length run) l ≡ b
          → singles s (cond b (flat d R run g) (fork R (forest d m l deep (parts d m l run)) g))
          ≡ (s, cond b (flat d R run bare) (fork R (forest d m l deep (parts d m l run)) bare)) ∷ singles (s + length run) g
      go true e = rw length-map refl
      go false e = rw (kids-count d m l m2 ml deep run r (leb-false (length run) l e)) refl

  -- those of runs
  pub forest-singles : (deep s : ℕ) (gs : List (List ℕ)) → Every Run gs → singles s (forest d m l deep gs) ≡ map (one deep) (grown_from d s gs)
  unfolding singles node_of
  forest-singles deep s [] h = refl
  forest-singles deep s (q ∷ gs) h =
      swell-single deep s (reach d q) q (forest d m l deep gs) h.0
      ∙ ap (λ (x : List Single). (s, swell d m l deep (reach d q) q bare) ∷ x) (forest-singles deep (s + length q) gs h.1)

  -- a leaf's
  lodges-single : (deep s o : ℕ) (zs : List ℕ) (g : Grove)
      → singles s (lodges d m l deep (reach# w o) (members# w o) zs g) ≡ one deep (leaf_piece d w s o zs) ∷ singles (s + (count# w o + length zs)) g
  unfolding singles lodges node_of
  lodges-single deep s o [] g =
      ap (λ (k : ℕ). (s, leaf (reach# w o) (members# w o) bare) ∷ singles (s + k) g) (members_long d w S o ∙ sym (add-zero (count# w o)))
  lodges-single deep s o (z ∷ zs) g =
      go (twice run) refl own ∙ ap (λ (k : ℕ). one deep (leaf_piece d w s o (z ∷ zs)) ∷ singles (s + k) g) long
    where
      run : List ℕ
      run = lefts (members# w o) ++ z ∷ zs

      own : Reach
      own = reach_taking (length (members# w o)) (reach# w o) (map (d (head run)) (z ∷ zs))

      long : length run ≡ count# w o + length (z ∷ zs)
      long = omega (arith, length-append (lefts (members# w o)) (z ∷ zs), length-map (members# w o) (λ e. e.0), members_long d w S o)

      go : (b : Bool) → twice run ≡ b → (R : Reach)
          → singles s (cond b (flat d R run g) (swell d m l deep R run g))
          ≡ one deep (cond b (settled s R (map (λ i. (i, d (head run) i)) run)) (grown s R run)) ∷ singles (s + length run) g
      go true e R = rw length-map refl
      go false e R = swell-single deep s R run g (omega (arith, length-append (lefts (members# w o)) (z ∷ zs)), once_each run e)

  -- m is not 0
  m1 : 1 ≤ m# w
  m1 = omega (arith, m2)

  -- an old node's
  node-single : (deep : ℕ) (place : ℕ → ℕ) (zs : List ℕ) (s o k : ℕ) (g : Grove) → o < nodes# w → Left w deep o
      → singles s (swollen d m l deep place k zs (tree_at w deep o g))
      ≡ one deep (piece_of d w s o (keep (λ z. eqb (place z) k) zs))
      ∷ singles (s + (count# w o + length (keep (λ z. eqb (place z) k) zs))) (swollen d m l deep place (suc k) zs g)
  unfolding swollen singles node_of
  node-single deep place zs s o k g h left = go deep left (inner w o) refl
    where
      here : List ℕ
      here = keep (λ z. eqb (place z) k) zs

      leafy : (deep : ℕ) → inner w o ≡ false → singles s (swollen d m l deep place k zs (tree_at w deep o g))
          ≡ one deep (piece_of d w s o here) ∷ singles (s + (count# w o + length here)) (swollen d m l deep place (suc k) zs g)
      leafy deep e =
          let t : Grove = swollen d m l deep place (suc k) zs g in
          ap (λ (x : Grove). singles s (swollen d m l deep place k zs x)) (as-leaf w deep o g e) ∙ lodges-single deep s o here t
          ∙ ap (λ (b : Bool). one deep (cond b (old s o here) (leaf_piece d w s o here)) ∷ singles (s + (count# w o + length here)) t) (sym e)

      go : (deep : ℕ) → Left w deep o → (b : Bool) → inner w o ≡ b → singles s (swollen d m l deep place k zs (tree_at w deep o g))
          ≡ one deep (piece_of d w s o here) ∷ singles (s + (count# w o + length here)) (swollen d m l deep place (suc k) zs g)
      go deep left false e = leafy deep e
      go zero left true e = leafy zero ((S.node o h).bottom left)
      go (suc deep) left true e =
          let t : Grove = swollen d m l (suc deep) place (suc k) zs g in
          ap (λ (x : Grove). singles s (swollen d m l (suc deep) place k zs x)) (as-fork w deep o g e)
          ∙ ap (λ (n : ℕ). one (suc deep) (old s o here) ∷ singles (s + n) t) (kids-counted d w S deep o h e here)
          ∙ ap (λ (b : Bool). one (suc deep) (cond b (old s o here) (leaf_piece d w s o here)) ∷ singles (s + (count# w o + length here)) t) (sym e)

  -- so many levels below each of some nodes
  abbrev Lefts : ℕ → ℕ → ℕ → Type 0
  Lefts deep o j = (i : ℕ) → i < j → Left w deep (o + i)

  -- the first of them
  lefts-head : (deep o j : ℕ) → Lefts deep o (suc j) → Left w deep o
  lefts-head deep o j f = subst (Left w deep) (add-zero o) (f 0 (omega arith))

  -- the others
  lefts-rest : (deep o j : ℕ) → Lefts deep o (suc j) → Lefts deep (suc o) j
  lefts-rest deep o j f i h =
      let same : o + suc i ≡ suc o + i = omega arith in
      subst (Left w deep) same (f (suc i) (omega arith))

  -- OLD NODES SIDE BY SIDE THAT TAKE ROWS
  trees-singles : (deep : ℕ) (place : ℕ → ℕ) (zs : List ℕ) (s o k j : ℕ) → o + j ≤ nodes# w → Lefts deep o j
      → singles s (swollen d m l deep place k zs (trees deep o j)) ≡ map (one deep) (kids_from d w place zs s o k j)
  unfolding swollen singles
  trees-singles deep place zs s o k zero h f = refl
  trees-singles deep place zs s o k (suc j) h f =
      let here : List ℕ = keep (λ z. eqb (place z) k) zs in
      node-single deep place zs s o k (trees deep (suc o) j) (omega arith) (lefts-head deep o j f)
      ∙ ap (λ (x : List Single). one deep (piece_of d w s o here) ∷ x)
      (trees-singles deep place zs (s + (count# w o + length here)) (suc o) (suc k) j (omega arith) (lefts-rest deep o j f))

  -- ---- a piece that is opened
  -- the children of an old node have a level less
  kids-left : (deep o : ℕ) → o < nodes# w → inner w o ≡ true → Left w (suc deep) o → Lefts deep (child# w o) (m# w)
  kids-left deep o h e left i u =
      let less : suc deep - 1 ≡ deep = omega arith in
      subst (λ (k : ℕ). Left w k (child# w o + i)) less (((S.node o h).kids e).down (suc deep) i left)

  -- its node's children are the pieces
  pub kids-are : (deep : ℕ) (q : Piece) → Stands (suc deep) q → kids_of (start_of q) (node_of (suc deep) q bare) ≡ map (one deep) (opens d w q)
  unfolding node_of swell
  kids-are deep (settled s R es) h = refl
  kids-are deep (grown s R run) r = go (leb (length run) (l# w)) refl
    where
      go : (b : Bool) → leb (length run) (l# w) ≡ b
          → kids_of s (cond b (flat d R run bare) (fork R (forest d (m# w) (l# w) deep (parts d (m# w) (l# w) run)) bare))
          ≡ map (one deep) (cond b [] (grown_from d s (parts d (m# w) (l# w) run)))
      go true e = refl
      go false e =
          forest-singles deep s (parts d (m# w) (l# w) run) (parts-runs d (m# w) (l# w) m1 ml run r (leb-false (length run) (l# w) e))
  kids-are deep (old s o zs) h =
      let inside = ((S.node o h.0).kids h.1).inside in
      trees-singles deep (towards d (kids deep o)) zs s (child# w o) 0 (m# w) inside (kids-left deep o h.0 h.1 h.2)
      ∙ ap (λ (fs : List ℕ). map (one deep) (kids_from d w (λ z. lowest_at (map (λ f. d f z) fs)) zs s (child# w o) 0 (m# w)))
      (kids-firsts w S deep (child# w o) (m# w) inside)

  -- a node's words
  abbrev words : ℕ → ℕ → ℕ → Reach → Node
  words s count child R = (s, count, child, R)

  -- the first of an inner node's children is its own
  kids-first : (deep o : ℕ) → o < nodes# w → inner w o ≡ true → first (kids deep o) ≡ first# w o
  kids-first deep o h e =
      sym (ap (λ (t : Grove). head (firsts t)) (as-fork w deep o bare e)) ∙ ap head (firsts_at w S (suc deep) o bare h)

  -- its node's words
  words_are : (deep next : ℕ) (q : Piece) → Stands (suc deep) q → words_at next (start_of q) (node_of (suc deep) q bare) ≡ waiting d w q next
  unfolding node_of swell
  words_are deep next (settled s R es) h = refl
  words_are deep next (grown s R run) r = go (leb (length run) (l# w)) refl
    where
      go : (b : Bool) → leb (length run) (l# w) ≡ b
          → words_at next s (cond b (flat d R run bare) (fork R (forest d (m# w) (l# w) deep (parts d (m# w) (l# w) run)) bare))
          ≡ words s (length run) (cond b 0 next) R
      go true e = rw length-map refl
      go false e = rw (kids-count d (m# w) (l# w) m2 ml deep run r (leb-false (length run) (l# w) e)) refl
  words_are deep next (old s o zs) h =
      ap₂ (λ (n : ℕ) (R : Reach). words s n next R) (kids-counted d w S deep o h.0 h.1 zs)
      (ap₂ (λ (n f : ℕ). reach_taking n (reach# w o) (map (d f) zs)) (kids-long d w S deep o h.0 h.1) (kids-first deep o h.0 h.1))

  -- on the last level
  last-words : (next : ℕ) (q : Piece) → Stands zero q → words_at next (start_of q) (node_of zero q bare) ≡ lastly d w q
  unfolding node_of swell
  last-words next (settled s R es) h = refl
  last-words next (grown s R run) h = rw length-map refl
  last-words next (old s o zs) h = absurd h

  -- where there are no children
  last-kids : (q : Piece) → Stands zero q → kids_of (start_of q) (node_of zero q bare) ≡ []
  unfolding node_of swell
  last-kids (settled s R es) h = refl
  last-kids (grown s R run) h = refl
  last-kids (old s o zs) h = absurd h

  -- ---- the pieces can stand
  -- runs
  pub grown-stand : (deep s : ℕ) (gs : List (List ℕ)) → Every Run gs → Every (Stands deep) (grown_from d s gs)
  grown-stand deep s [] h = tt
  grown-stand deep s (q ∷ gs) h = (h.0, grown-stand deep (s + length q) gs h.1)

  -- a leaf
  leaf-stand : (deep s o : ℕ) (zs : List ℕ) → Stands deep (leaf_piece d w s o zs)
  leaf-stand deep s o [] = tt
  leaf-stand deep s o (z ∷ zs) =
      go (twice (lefts (members# w o) ++ z ∷ zs)) refl
      (reach_taking (length (members# w o)) (reach# w o) (map (d (head (lefts (members# w o) ++ z ∷ zs))) (z ∷ zs)))
    where
      go : (b : Bool) → twice (lefts (members# w o) ++ z ∷ zs) ≡ b → (R : Reach)
          → Stands deep (cond b (settled s R (map (λ i. (i, d (head (lefts (members# w o) ++ z ∷ zs)) i)) (lefts (members# w o) ++ z ∷ zs)))
          (grown s R (lefts (members# w o) ++ z ∷ zs)))
      go true e R = tt
      go false e R = (omega (arith, length-append (lefts (members# w o)) (z ∷ zs)), once_each (lefts (members# w o) ++ z ∷ zs) e)

  -- an old node
  pub piece-stand : (deep s o : ℕ) (zs : List ℕ) → o < nodes# w → Left w deep o → Stands deep (piece_of d w s o zs)
  piece-stand deep s o zs h left = go deep left (inner w o) refl
    where
      go : (deep : ℕ) → Left w deep o → (b : Bool) → inner w o ≡ b → Stands deep (cond b (old s o zs) (leaf_piece d w s o zs))
      go deep left false e = leaf-stand deep s o zs
      go zero left true e = absurd (subst T (sym e ∙ (S.node o h).bottom left) tt)
      go (suc deep) left true e = (h, e, left)

  -- old nodes side by side
  trees-stand : (deep : ℕ) (place : ℕ → ℕ) (zs : List ℕ) (s o k j : ℕ) → o + j ≤ nodes# w → Lefts deep o j
      → Every (Stands deep) (kids_from d w place zs s o k j)
  trees-stand deep place zs s o k zero h f = tt
  trees-stand deep place zs s o k (suc j) h f =
      let here : List ℕ = keep (λ z. eqb (place z) k) zs in (
        piece-stand deep s o here (omega arith) (lefts-head deep o j f),
        trees-stand deep place zs (s + (count# w o + length here)) (suc o) (suc k) j (omega arith) (lefts-rest deep o j f),
      )

  -- what a piece is opened into
  pub opens-stand : (deep : ℕ) (q : Piece) → Stands (suc deep) q → Every (Stands deep) (opens d w q)
  opens-stand deep (settled s R es) h = tt
  opens-stand deep (grown s R run) r = go (leb (length run) (l# w)) refl
    where
      go : (b : Bool) → leb (length run) (l# w) ≡ b → Every (Stands deep) (cond b [] (grown_from d s (parts d (m# w) (l# w) run)))
      go true e = tt
      go false e =
          grown-stand deep s (parts d (m# w) (l# w) run) (parts-runs d (m# w) (l# w) m1 ml run r (leb-false (length run) (l# w) e))
  opens-stand deep (old s o zs) h =
      trees-stand deep (kid_for d w o) zs s (child# w o) 0 (m# w) ((S.node o h.0).kids h.1).inside (kids-left deep o h.0 h.1 h.2)

  -- ---- levels
  -- the nodes of one
  level-is : (deep next : ℕ) (qs : List Piece) → Every (Stands (suc deep)) qs → level_of next (map (one (suc deep)) qs) ≡ level_from d w next qs
  unfolding level_of level_from
  level-is deep next [] h = refl
  level-is deep next (q ∷ qs) h =
      let many : length (kids_of (start_of q) (node_of (suc deep) q bare)) ≡ length (opens d w q) =
      ap length (kids-are deep q h.0) ∙ length-map (opens d w q) (one deep) in
      ap₂ (λ (x : Node) (ns : List Node). x ∷ ns) (words_are deep next q h.0)
      (ap (λ (k : ℕ). level_of (next + k) (map (one (suc deep)) qs)) many ∙ level-is deep (next + length (opens d w q)) qs h.1)

  -- of the last one
  last-is : (next : ℕ) (qs : List Piece) → Every (Stands zero) qs → level_of next (map (one zero) qs) ≡ map (lastly d w) qs
  unfolding level_of
  last-is next [] h = refl
  last-is next (q ∷ qs) h =
      ap₂ (λ (x : Node) (ns : List Node). x ∷ ns) (last-words next q h.0)
      (ap (λ (ks : List Single). level_of (next + length ks) (map (one zero) qs)) (last-kids q h.0) ∙ last-is (next + 0) qs h.1)

  -- the level below
  lower-is : (deep : ℕ) (qs : List Piece) → Every (Stands (suc deep)) qs → lower (map (one (suc deep)) qs) ≡ map (one deep) (open_all d w qs)
  lower-is deep [] h = refl
  lower-is deep (q ∷ qs) h =
      ap₂ (λ (a b : List Single). a ++ b) (kids-are deep q h.0) (lower-is deep qs h.1)
      ∙ sym (map-append (one deep) (opens d w q) (open_all d w qs))

  -- which can stand
  lower-stand : (deep : ℕ) (qs : List Piece) → Every (Stands (suc deep)) qs → Every (Stands deep) (open_all d w qs)
  lower-stand deep [] h = tt
  lower-stand deep (q ∷ qs) h = every_append (Stands deep) (opens d w q) (open_all d w qs) (opens-stand deep q h.0) (lower-stand deep qs h.1)

  -- all of them
  levels-are : (deep next : ℕ) (qs : List Piece) → Every (Stands deep) qs → levels_of deep next (map (one deep) qs) ≡ levels_from d w deep next qs
  unfolding levels_of levels_from
  levels-are zero next qs h = last-is next qs h
  levels-are (suc deep) next qs h =
      ap₂ (λ (x y : List Node). x ++ y) (level-is deep next qs h)
      (ap (λ (x : List Single). levels_of deep (next + length x) x) (lower-is deep qs h)
      ∙ ap (λ (k : ℕ). levels_of deep (next + k) (map (one deep) (open_all d w qs))) (length-map (open_all d w qs) (one deep))
      ∙ levels-are deep (next + length (open_all d w qs)) (open_all d w qs) (lower-stand deep qs h))

  -- THE ROOT ALONE
  pub root-alone : (zs : List ℕ) → 1 ≤ n# w
      → singles 0 (swollen_tree d (m# w) (l# w) zs (tree_of w)) ≡ map (one max_depth) (piece_of d w 0 0 zs ∷ [])
  unfolding tree_of
  root-alone zs h =
      let there : 1 ≤ nodes# w = S.whole.rooted h in
      let root : min (nodes# w) 1 ≡ 1 = omega arith in
      ap (λ (j : ℕ). singles 0 (swollen_tree d (m# w) (l# w) zs (trees max_depth 0 j))) root
      ∙ trees-singles max_depth (λ z. 0) zs 0 0 0 1 there (λ i u. root-left i u)
      ∙ ap (λ (ys : List ℕ). map (one max_depth) (piece_of d w 0 0 ys ∷ [])) (keep-zero zs)
    where
      root-left : (i : ℕ) → i < 1 → Left w max_depth (0 + i)
      root-left zero u = left_root w
      root-left (suc i) u = absurd (omega arith)

  -- it can stand
  pub root_stands : (zs : List ℕ) → 1 ≤ n# w → Stands max_depth (piece_of d w 0 0 zs)
  root_stands zs h = piece-stand max_depth 0 0 zs (omega (arith, S.whole.rooted h)) (left_root w)

  -- THE TREE THAT TAKES ALL ROWS AT ONCE IS NUMBERED AS ONE PASS OVER THE LEVELS MAKES ITS NODES
  pub rows-numbered : (zs : List ℕ) → 1 ≤ n# w
      → numbered (swollen_tree d (m# w) (l# w) zs (tree_of w)) ≡ levels_from d w max_depth 1 (piece_of d w 0 0 zs ∷ [])
  rows-numbered zs h =
      let t : Grove = swollen_tree d (m# w) (l# w) zs (tree_of w) in
      let many : span t ≡ 1 = sym (singles-length 0 t) ∙ ap length (root-alone zs h) in
      numbered-items t ∙ ap₂ (λ (k : ℕ) (x : List Single). levels_of max_depth k x) many (root-alone zs h)
      ∙ levels-are max_depth 1 (piece_of d w 0 0 zs ∷ []) (root_stands zs h, tt)
