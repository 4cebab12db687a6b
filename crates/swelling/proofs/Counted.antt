-- How many members the nodes of an index have that take rows. Assumes nothing.
use Prim.Native.Nat.{◌+◌, ◌<◌, ◌≤◌, suc, zero, ℕ}
use Rattle.appending.proofs.Lowest.{lowest_there}
use Rattle.laws.proofs.Ranges.{range_length}
use Rattle.laws.specs.Lists.{keep, range}
use Rattle.swelling.proofs.Routed.{routed, routed_all}
use Rattle.swelling.proofs.Swollen.{lodges-count}
use Rattle.swelling.specs.Swell.{lodges, swollen, towards}
use Rattle.tree.proofs.Members.{entries_at, kids-entries, kids-firsts}
use Rattle.tree.specs.Grove.{Grove, bare, entries, firsts, fork, leaf, members#, reach#, tree_at}
use Rattle.words.specs.InShape.{InShape}
use Rattle.words.specs.Shape.{inner}
use Rattle.words.specs.Words.{nodes#, child#, count#, first#, l#, m#, start#}
use lib.Dec.{eqb}
use lib.ListN.{length, length-append, length-map}
use mathlib.Core.Bool.{Bool, cond, false, true}
use mathlib.Core.List.{List, foldr, map}
use mathlib.Core.Path.{◌∙◌, ◌≡◌, ap, refl}
use native.Mathlib.Omega.{arith}

module _ (d : ℕ → ℕ → ℕ) (w : List ℕ) (S : InShape w) where
  -- the index's m
  abbrev pub m : ℕ
  m = m# w

  -- and l
  abbrev pub l : ℕ
  l = l# w

  -- two centres or more
  m2 : 2 ≤ m# w
  m2 = S.whole.fan.0

  -- and no more than a leaf has rows
  ml : m# w ≤ l# w
  ml = S.whole.leaf.0

  -- j old nodes from number o on
  abbrev pub trees : ℕ → ℕ → ℕ → Grove
  trees deep o j = foldr (tree_at w deep) bare (range o j)

  -- the children of old node o
  abbrev pub kids : ℕ → ℕ → Grove
  kids deep o = trees deep (child# w o) (m# w)

  -- how many members it has
  pub members_long : (o : ℕ) → length (members# w o) ≡ count# w o
  members_long o = simp (length-map, range_length)

  -- ---- how many members nodes have that take rows
  -- those of a node, and of the nodes behind it
  abbrev Total : ℕ → Type 0
  Total deep = (o : ℕ) → o < nodes# w → (place : ℕ → ℕ) (k : ℕ) (zs : List ℕ) (g : Grove)
      → length (entries (swollen d m l deep place k zs (tree_at w deep o g)))
      ≡ count# w o + length (keep (λ z. eqb (place z) k) zs) + length (entries (swollen d m l deep place (suc k) zs g))

  -- of nodes side by side
  trees-total : (deep : ℕ) → Total deep → (o j : ℕ) → o + j ≤ nodes# w → (place : ℕ → ℕ) (k : ℕ) (zs : List ℕ)
      → length (entries (swollen d m l deep place k zs (trees deep o j))) ≡ length (entries (trees deep o j)) + routed place zs k j
  unfolding swollen
  trees-total deep ih o zero h place k zs = refl
  trees-total deep ih o (suc j) h place k zs =
      omega (
        arith,
        ih o (omega arith) place k zs (trees deep (suc o) j),
        trees-total deep ih (suc o) j (omega arith) place (suc k) zs,
        ap length (entries_at w S deep o (trees deep (suc o) j) (omega arith)),
        length-append (members# w o) (entries (trees deep (suc o) j)),
        members_long o,
      )

  -- of the children of an inner node
  pub kids-long : (deep o : ℕ) → o < nodes# w → inner w o ≡ true → length (entries (kids deep o)) ≡ count# w o
  kids-long deep o h e =
      let K = (S.node o h).kids e in
      ap length (kids-entries w S (tree_at w deep) (entries_at w S deep) (child# w o) (m# w) (start# w o) (count# w o) K.inside K.tiled)
      ∙ members_long o

  -- each row has a child to go to
  towards-one : (deep o : ℕ) → o < nodes# w → inner w o ≡ true → (z : ℕ) → towards d (kids deep o) z < m# w
  towards-one deep o h e z =
      let xs : List ℕ = map (λ f. d f z) (firsts (kids deep o)) in
      let n : length xs ≡ m# w =
      length-map (firsts (kids deep o)) (λ f. d f z) ∙ ap length (kids-firsts w S deep (child# w o) (m# w) ((S.node o h).kids e).inside)
      ∙ length-map (range (child# w o) (m# w)) (first# w) ∙ range_length (child# w o) (m# w) in
      omega (arith, lowest_there xs (omega (arith, m2)))

  -- that take rows
  kids-total : (deep : ℕ) → Total deep → (o : ℕ) → o < nodes# w → inner w o ≡ true → (zs : List ℕ)
      → length (entries (swollen d m l deep (towards d (kids deep o)) 0 zs (kids deep o))) ≡ count# w o + length zs
  kids-total deep ih o h e zs =
      omega (
        arith,
        trees-total deep ih (child# w o) (m# w) ((S.node o h).kids e).inside (towards d (kids deep o)) 0 zs,
        kids-long deep o h e,
        routed_all (towards d (kids deep o)) zs (m# w) (towards-one deep o h e),
      )

  -- of a leaf
  leaf-total : (deep o : ℕ) (zs : List ℕ) (g : Grove)
      → length (entries (lodges d m l deep (reach# w o) (members# w o) zs g)) ≡ count# w o + length zs + length (entries g)
  leaf-total deep o zs g = omega (arith, lodges-count d m l m2 ml deep (reach# w o) (members# w o) zs g, members_long o)

  -- OF ANY
  total : (deep : ℕ) → Total deep
  unfolding swollen tree_at
  total zero o h place k zs g = leaf-total 0 o (keep (λ z. eqb (place z) k) zs) (swollen d m l 0 place (suc k) zs g)
  total (suc deep) o h place k zs g = go (total deep) (inner w o) refl
    where
      go : Total deep → (b : Bool) → inner w o ≡ b
          → length (entries (swollen d m l (suc deep) place k zs (cond b (fork (reach# w o) (kids deep o) g) (leaf (reach# w o) (members# w o) g))))
          ≡ count# w o + length (keep (λ z. eqb (place z) k) zs) + length (entries (swollen d m l (suc deep) place (suc k) zs g))
      go ih false e = leaf-total (suc deep) o (keep (λ z. eqb (place z) k) zs) (swollen d m l (suc deep) place (suc k) zs g)
      go ih true e =
          let here : List ℕ = keep (λ z. eqb (place z) k) zs in
          let ks : Grove = swollen d m l deep (towards d (kids deep o)) 0 here (kids deep o) in
          omega (
            arith,
            length-append (entries ks) (entries (swollen d m l (suc deep) place (suc k) zs g)),
            kids-total deep ih o h e here,
          )

  -- OF THE CHILDREN OF AN INNER NODE THAT TAKES ROWS
  pub kids-counted : (deep o : ℕ) → o < nodes# w → inner w o ≡ true → (zs : List ℕ)
      → length (entries (swollen d m l deep (towards d (kids deep o)) 0 zs (kids deep o))) ≡ count# w o + length zs
  kids-counted deep = kids-total deep (total deep)
