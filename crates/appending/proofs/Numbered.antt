-- The nodes of an index in shape, numbered as its tree numbers them. Assumes nothing.
use Prim.Native.Nat.{◌+◌, ◌-◌, ◌<◌, ◌≤◌, suc, zero, ℕ}
use Rattle.appending.proofs.Read.{forest}
use Rattle.laws.proofs.Lists.{map-append}
use Rattle.laws.proofs.Ranges.{range_append, range_length}
use Rattle.laws.specs.Lists.{all, each, range}
use Rattle.limits.specs.Limits.{max_depth}
use Rattle.tree.proofs.Encode.{spans_append}
use Rattle.tree.proofs.Forks.{as-fork, as-leaf, kids_at}
use Rattle.tree.proofs.Members.{entries_at, kids-entries, kids-firsts}
use Rattle.tree.proofs.Rows.{by_root}
use Rattle.tree.specs.Encode.{Node, below, broods, family, level_nodes, nodes, numbered, span, spans}
use Rattle.tree.specs.Grove.{Grove, Reach, bare, entries, members#, reach#, tree_at, tree_of}
use Rattle.words.proofs.Levels.{born-inner, born-le, born-leaf}
use Rattle.words.proofs.Nodes.{closed, node_at, not-orphan}
use Rattle.words.proofs.Tiles.{tile-head, tile-tail}
use Rattle.words.specs.InShape.{InShape, Left}
use Rattle.words.specs.Shape.{born, inner, level, tile, tree_fits_lem}
use Rattle.words.specs.Words.{nodes#, at, child#, count#, m#, start#}
use borrow.Author.Tests.{eqb-true, not-false}
use lib.Dec.{T, eqb, eqb_refl}
use lib.ListN.{length, length-map}
use mathlib.Core.Bool.{Bool, false, true}
use mathlib.Core.List.{List, [], ◌++◌, ◌∷◌, map}
use mathlib.Core.Logic.{by_cases}
use mathlib.Core.Path.{◌∙◌, ◌≡◌, ap, ap₂, refl, subst, sym}
use native.Mathlib.Decide.{dec_lt}
use native.Mathlib.Nat.{add_assoc, add-suc, add-zero, suc-add}
use native.Mathlib.Omega.{arith}

-- node k's words
abbrev pub node# : List ℕ → ℕ → Node
node# w k = (start# w k, count# w k, child# w k, reach# w k)

-- a node by its numbers and its reach
same_node : (s c h s' c' h' : ℕ) (R : Reach) → s ≡ s' → c ≡ c' → h ≡ h' → ◌≡◌ {A = Node} (s, c, h, R) (s', c', h', R)
same_node s c h s' c' h' R p q u = cc

module _ (w : List ℕ) (S : InShape w) (t : T (tree_fits_lem w)) where
  -- ---- one node
  -- a node that is not inner has no first child
  leaf-child : (k : ℕ) → inner w k ≡ false → child# w k ≡ 0
  leaf-child k e = eqb-true (child# w k) 0 (not-false (eqb (child# w k) 0) e)

  -- how many members node k has
  members-length : (k : ℕ) → length (members# w k) ≡ count# w k
  members-length k = simp (length-map, range_length)

  -- how many its children have
  kids-length : (deep k : ℕ) → k < nodes# w → inner w k ≡ true → length (entries (kids_at w deep k)) ≡ count# w k
  kids-length deep k h e =
      ap length (kids-entries w S (tree_at w deep) (entries_at w S deep) (child# w k) (m# w) (start# w k)
      (count# w k) ((S.node k h).kids e).inside ((S.node k h).kids e).tiled)
      ∙ members-length k

  -- k nodes side by side are k
  span-forest : (deep a k : ℕ) → a + k ≤ nodes# w → span (forest w deep a k) ≡ k
  span-forest deep a k h = ap length (kids-firsts w S deep a k h) ∙ simp (length-map, range_length)

  -- a leaf, before the nodes g
  leaf-node : (deep a s nx : ℕ) (g : Grove) (vs : List Node) → start# w a ≡ s → inner w a ≡ false → family nx (s + count# w a) g ≡ vs
      → family nx s (tree_at w deep a g) ≡ node# w a ∷ vs
  unfolding family
  leaf-node deep a s nx g vs p e q =
      ap (family nx s) (as-leaf w deep a g e)
      ∙ ap₂ (λ (v : Node) (l : List Node). v ∷ l)
      (same_node s (length (members# w a)) 0 (start# w a) (count# w a) (child# w a) (reach# w a) (sym p) (members-length a) (sym (leaf-child a e)))
      (ap (λ (c : ℕ). family nx (s + c) g) (members-length a) ∙ q)

  -- an inner node, before the nodes g
  fork-node : (deep a s nx : ℕ) (g : Grove) (vs : List Node) → a < nodes# w → start# w a ≡ s → inner w a ≡ true → born w a ≡ nx
      → family (nx + m# w) (s + count# w a) g ≡ vs → family nx s (tree_at w (suc deep) a g) ≡ node# w a ∷ vs
  unfolding family
  fork-node deep a s nx g vs h p e b q =
      let ks : Grove = kids_at w deep a in
      let sp : span ks ≡ m# w = span-forest deep (child# w a) (m# w) ((S.node a h).kids e).inside in
      let len = kids-length deep a h e in
      ap (family nx s) (as-fork w deep a g e)
      ∙ ap₂ (λ (v : Node) (l : List Node). v ∷ l)
      (same_node s (length (entries ks)) nx (start# w a) (count# w a) (child# w a) (reach# w a) (sym p) len (sym ((node_at w t a h).next e ∙ b)))
      (ap₂ (λ (i c : ℕ). family (nx + i) (s + c) g) sp len ∙ q)

  -- a leaf has no children
  leaf-broods : (deep a s : ℕ) (g : Grove) → inner w a ≡ false → broods s (tree_at w deep a g) ≡ broods (s + count# w a) g
  unfolding broods
  leaf-broods deep a s g e = ap (broods s) (as-leaf w deep a g e) ∙ ap (λ (c : ℕ). broods (s + c) g) (members-length a)

  -- an inner node has its own, before those of the nodes behind it
  fork-broods : (deep a s : ℕ) (g : Grove) → a < nodes# w → inner w a ≡ true
      → broods s (tree_at w (suc deep) a g) ≡ (s, kids_at w deep a) ∷ broods (s + count# w a) g
  unfolding broods
  fork-broods deep a s g h e =
      ap (broods s) (as-fork w deep a g e)
      ∙ ap (λ (c : ℕ). (s, kids_at w deep a) ∷ broods (s + c) g) (kids-length deep a h e)

  -- with no level left no node is inner
  not-inner : (a : ℕ) → a < nodes# w → Left w 0 a → inner w a ≡ true → ⊥
  not-inner a h l e = omega (arith, ((S.node a h).kids e).deeper 0 l)

  -- a later node has no more levels below it
  left-later : (deep a : ℕ) → Left w deep a → Left w deep (suc a)
  left-later deep a l = (l.0, omega (arith, l.1))

  -- ---- k nodes side by side
  -- their words are those of the index
  family-is : (deep k a s e nx : ℕ) → a + k ≤ nodes# w → T (tile w a k s e) → born w a ≡ nx → Left w deep a
      → family nx s (forest w deep a k) ≡ map (node# w) (range a k)
  unfolding family
  family-is deep zero a s e nx h u b l = refl
  family-is zero (suc k) a s e nx h u b l = go (inner w a) refl (family-is zero k (suc a) (s + count# w a) e)
    where
      go : (x : Bool) → inner w a ≡ x
          → ((nx : ℕ) → suc a + k ≤ nodes# w → T (tile w (suc a) k (s + count# w a) e) → born w (suc a) ≡ nx → Left w 0 (suc a)
          → family nx (s + count# w a) (forest w 0 (suc a) k) ≡ map (node# w) (range (suc a) k))
          → family nx s (forest w 0 a (suc k)) ≡ map (node# w) (range a (suc k))
      go true q ih = absurd (not-inner a (omega arith) l q)
      go false q ih =
          leaf-node 0 a s nx (forest w 0 (suc a) k) (map (node# w) (range (suc a) k)) (tile-head w a k s e u) q
          (ih nx (omega arith) (tile-tail w a k s e u) (born-leaf w a (leaf-child a q) ∙ b) (left-later 0 a l))
  family-is (suc deep) (suc k) a s e nx h u b l = go (inner w a) refl (family-is (suc deep) k (suc a) (s + count# w a) e)
    where
      go : (x : Bool) → inner w a ≡ x
          → ((nx : ℕ) → suc a + k ≤ nodes# w → T (tile w (suc a) k (s + count# w a) e) → born w (suc a) ≡ nx → Left w (suc deep) (suc a)
          → family nx (s + count# w a) (forest w (suc deep) (suc a) k) ≡ map (node# w) (range (suc a) k))
          → family nx s (forest w (suc deep) a (suc k)) ≡ map (node# w) (range a (suc k))
      go true q ih =
          fork-node deep a s nx (forest w (suc deep) (suc a) k) (map (node# w) (range (suc a) k)) (omega arith) (tile-head w a k s e u) q b
          (ih (nx + m# w) (omega arith) (tile-tail w a k s e u) (omega (arith, born-inner w a q)) (left-later (suc deep) a l))
      go false q ih =
          leaf-node (suc deep) a s nx (forest w (suc deep) (suc a) k) (map (node# w) (range (suc a) k)) (tile-head w a k s e u) q
          (ih nx (omega arith) (tile-tail w a k s e u) (born-leaf w a (leaf-child a q) ∙ b) (left-later (suc deep) a l))

  -- with no level left they have no children
  family-none : (k a s : ℕ) → a + k ≤ nodes# w → Left w 0 a → broods s (forest w 0 a k) ≡ []
  unfolding broods
  family-none zero a s h l = refl
  family-none (suc k) a s h l =
      leaf-broods 0 a s (forest w 0 (suc a) k) ((S.node a (omega arith)).bottom l) ∙ family-none k (suc a) (s + count# w a) (omega arith)
      (left-later 0 a l)

  -- the families from number a on: each is the nodes from its number on, and its runs tile
  abbrev Cover : ℕ → ℕ → List (ℕ × Grove) → Type 0
  Cover deep a [] = Unit {0}
  Cover deep a (f ∷ fs) =
      (f.1 ≡ forest w deep a (span f.1)) × ((e : ℕ) × T (tile w a (span f.1) f.0 e)) × (a + span f.1 ≤ nodes# w)
      × Cover deep (a + span f.1) fs

  -- one family more in front
  cover_one : (deep a k s e : ℕ) (g : Grove) (fs : List (ℕ × Grove)) → g ≡ forest w deep a k → T (tile w a k s e) → a + k ≤ nodes# w
      → Cover deep (a + k) fs → Cover deep a ((s, g) ∷ fs)
  cover_one deep a k s e g fs q u h c =
      let sp : k ≡ span g = sym (ap span q ∙ span-forest deep a k h) in (
        q ∙ ap (forest w deep a) sp,
        (e, subst (λ (i : ℕ). T (tile w a i s e)) sp u),
        subst (λ (i : ℕ). a + i ≤ nodes# w) sp h,
        subst (λ (i : ℕ). Cover deep (a + i) fs) sp c,
      )

  -- two lists of families, one after the other
  cover-append : (deep a : ℕ) (fs hs : List (ℕ × Grove)) → Cover deep a fs → Cover deep (a + spans fs) hs → Cover deep a (fs ++ hs)
  cover-append deep a [] hs c d = rw (add-zero a) at d
  cover-append deep a (f ∷ fs) hs c d =
      (c.0, c.1, c.2, cover-append deep (a + span f.1) fs hs c.3 (rw (← add_assoc a (span f.1) (spans fs)) at d))

  -- the children of k nodes side by side: their numbers follow those born before
  kids-cover : (deep k a s e nx : ℕ) → a + k ≤ nodes# w → T (tile w a k s e) → born w a ≡ nx → Left w (suc deep) a
      → Cover deep nx (broods s (forest w (suc deep) a k)) × (nx + spans (broods s (forest w (suc deep) a k)) ≡ born w (a + k))
  unfolding broods
  kids-cover deep zero a s e nx h u b l = (tt, add-zero nx ∙ sym b ∙ ap (born w) (sym (add-zero a)))
  kids-cover deep (suc k) a s e nx h u b l = go (inner w a) refl (kids-cover deep k (suc a) (s + count# w a) e)
    where
      G : Grove
      G = forest w (suc deep) (suc a) k

      next : suc a + k ≡ a + suc k
      next = suc-add a k ∙ sym (add-suc a k)

      go : (x : Bool) → inner w a ≡ x
          → ((nx : ℕ) → suc a + k ≤ nodes# w → T (tile w (suc a) k (s + count# w a) e) → born w (suc a) ≡ nx → Left w (suc deep) (suc a)
          → Cover deep nx (broods (s + count# w a) (forest w (suc deep) (suc a) k))
          × (nx + spans (broods (s + count# w a) (forest w (suc deep) (suc a) k)) ≡ born w (suc a + k)))
          → Cover deep nx (broods s (forest w (suc deep) a (suc k))) × (nx + spans (broods s (forest w (suc deep) a (suc k))) ≡ born w (a + suc k))
      go false q ih =
          let r = ih nx (omega arith) (tile-tail w a k s e u) (born-leaf w a (leaf-child a q) ∙ b) (left-later (suc deep) a l) in
          let z = leaf-broods (suc deep) a s G q in (
            subst (Cover deep nx) (sym z) r.0,
            ap (λ (fs : List (ℕ × Grove)). nx + spans fs) z ∙ r.1 ∙ ap (born w) next,
          )
      go true q ih =
          let K = (S.node a (omega arith)).kids q in
          let ch : child# w a ≡ nx = (node_at w t a (omega arith)).next q ∙ b in
          let r = ih (nx + m# w) (omega arith) (tile-tail w a k s e u) (omega (arith, born-inner w a q)) (left-later (suc deep) a l) in
          let z = fork-broods deep a s G (omega arith) q in
          let bs : List (ℕ × Grove) = broods (s + count# w a) G in
          let sp : span (kids_at w deep a) ≡ m# w = span-forest deep (child# w a) (m# w) K.inside in
          let tl : T (tile w nx (m# w) s (start# w a + count# w a)) =
          subst (λ (i : ℕ). T (tile w nx (m# w) i (start# w a + count# w a))) (tile-head w a k s e u)
          (subst (λ (i : ℕ). T (tile w i (m# w) (start# w a) (start# w a + count# w a))) ch K.tiled) in (
            subst (Cover deep nx) (sym z)
                (cover_one deep nx (m# w) s (start# w a + count# w a) (kids_at w deep a) bs (ap (λ (i : ℕ). forest w deep i (m# w)) ch) tl
                (omega (arith, K.inside)) r.0),
            ap (λ (fs : List (ℕ × Grove)). nx + spans fs) z ∙ ap (λ (i : ℕ). nx + (i + spans bs)) sp
                ∙ sym (add_assoc nx (m# w) (spans bs)) ∙ r.1 ∙ ap (born w) next,
          )

  -- ---- a level
  -- its nodes' words are those of the index, where the children's numbers come right
  level-is : (deep a nx : ℕ) (fs : List (ℕ × Grove)) → Cover deep a fs → Left w deep a → born w a ≡ nx
      → ((i k s : ℕ) → a ≤ i → i + k ≤ nodes# w → (e : ℕ) → T (tile w i k s e) → born w i + spans (broods s (forest w deep i k)) ≡ born w (i + k))
      → (level_nodes nx fs ≡ map (node# w) (range a (spans fs))) × (nx + spans (below fs) ≡ born w (a + spans fs))
  unfolding level_nodes
  level-is deep a nx [] c l b f = (refl, add-zero nx ∙ sym b ∙ ap (born w) (sym (add-zero a)))
  level-is deep a nx (f ∷ fs) c l b grows =
      let k : ℕ = span f.1 in
      let s : ℕ = f.0 in
      let bs : List (ℕ × Grove) = broods s f.1 in
      let one : family nx s f.1 ≡ map (node# w) (range a k) =
      ap (family nx s) c.0 ∙ family-is deep k a s c.1.0 nx c.2 c.1.1 b l in
      let e : nx + spans bs ≡ born w (a + k) =
      ap₂ (λ (i : ℕ) (g : Grove). i + spans (broods s g)) (sym b) c.0 ∙ grows a k s (omega arith) c.2 c.1.0 c.1.1 in
      let r = level-is deep (a + k) (nx + spans bs) fs c.3 (l.0, omega (arith, l.1)) (sym e)
      (λ i k s h p e u. grows i k s (omega arith) p e u) in (
        ap₂ (λ (x y : List Node). x ++ y) one r.0 ∙ sym (map-append (node# w) (range a k) (range (a + k) (spans fs)))
            ∙ ap (map (node# w)) (sym (range_append a k (spans fs))),
        ap (λ (i : ℕ). nx + i) (spans_append bs (below fs)) ∙ sym (add_assoc nx (spans bs) (spans (below fs))) ∙ r.1
            ∙ ap (born w) (add_assoc a k (spans fs)),
      )

  -- the next level
  below-cover : (deep a nx : ℕ) (fs : List (ℕ × Grove)) → Cover (suc deep) a fs → Left w (suc deep) a → born w a ≡ nx → Cover deep nx (below fs)
  below-cover deep a nx [] c l b = tt
  below-cover deep a nx (f ∷ fs) c l b =
      let k : ℕ = span f.1 in
      let s : ℕ = f.0 in
      let q = kids-cover deep k a s c.1.0 nx c.2 c.1.1 b l in
      let z : forest w (suc deep) a k ≡ f.1 = sym c.0 in
      let e : nx + spans (broods s f.1) ≡ born w (a + k) = subst (λ (g : Grove). nx + spans (broods s g) ≡ born w (a + k)) z q.1 in
      cover-append deep nx (broods s f.1) (below fs) (subst (λ (g : Grove). Cover deep nx (broods s g)) z q.0)
      (below-cover deep (a + k) (nx + spans (broods s f.1)) fs c.3 (l.0, omega (arith, l.1)) (sym e))

  -- ---- all levels
  -- the node after which none is born is the last
  last-node : (k : ℕ) → k ≤ nodes# w → born w k ≡ k → k ≡ nodes# w
  last-node k h e = by_cases (dec_lt k (nodes# w)) (λ q. absurd (omega (arith, not-orphan w t k q))) (λ q. omega arith)

  -- the levels from number a on have all nodes from there
  nodes_are : (deep dep a nx : ℕ) (fs : List (ℕ × Grove)) → Cover deep a fs → nx ≡ a + spans fs → born w a ≡ nx → level w dep ≤ a
      → dep + deep ≡ max_depth → a ≤ nodes# w → 1 ≤ nodes# w → nodes deep nx fs ≡ map (node# w) (range a (nodes# w - a))
  unfolding nodes level
  nodes_are zero dep a nx fs c e b p q h some =
      let z : max_depth - 0 ≡ dep = omega arith in
      let l : Left w 0 a = (omega arith, subst (λ (i : ℕ). level w i ≤ a) (sym z) p) in
      let r = level-is 0 a nx fs c l b
      (λ i k s g u e v. ap (λ (fs : List (ℕ × Grove)). born w i + spans fs) (family-none k i s u (omega arith, omega (arith, l.1)))
      ∙ add-zero (born w i) ∙ none k i u (l.0, omega (arith, l.1))) in
      let less = born-le w a (nodes# w) h in
      let end = closed w t some in
      let stop : below fs ≡ [] = no-below fs a c l in
      let fin : nx ≡ nodes# w =
      last-node nx (omega arith) (ap (born w) e ∙ sym r.1 ∙ ap (λ (hs : List (ℕ × Grove)). nx + spans hs) stop ∙ add-zero nx) in
      let sum : spans fs ≡ nodes# w - a = omega arith in
      r.0 ∙ ap (λ (k : ℕ). map (node# w) (range a k)) sum
    where
      none : (k i : ℕ) → i + k ≤ nodes# w → Left w 0 i → born w i ≡ born w (i + k)
      none zero i u l = ap (born w) (sym (add-zero i))
      none (suc k) i u l =
          sym (born-leaf w i (leaf-child i ((S.node i (omega arith)).bottom l)))
          ∙ none k (suc i) (omega arith) (left-later 0 i l) ∙ ap (born w) (suc-add i k ∙ sym (add-suc i k))

      no-below : (fs : List (ℕ × Grove)) (a : ℕ) → Cover 0 a fs → Left w 0 a → below fs ≡ []
      no-below [] a c l = refl
      no-below (f ∷ fs) a c l =
          ap₂ (λ (x y : List (ℕ × Grove)). x ++ y)
          (ap (broods f.0) c.0 ∙ family-none (span f.1) a f.0 c.2 l)
          (no-below fs (a + span f.1) c.3 (l.0, omega (arith, l.1)))
  nodes_are (suc deep) dep a nx fs c e b p q h some =
      let z : max_depth - suc deep ≡ dep = omega arith in
      let l : Left w (suc deep) a = (omega arith, subst (λ (i : ℕ). level w i ≤ a) (sym z) p) in
      let r = level-is (suc deep) a nx fs c l b
      (λ i k s g u e v. (kids-cover deep k i s e (born w i) u v refl (l.0, omega (arith, l.1))).1) in
      let less = born-le w a (nodes# w) h in
      let end = closed w t some in
      let lower = born-le w (level w dep) a p in
      let ih = nodes_are deep (suc dep) nx (nx + spans (below fs)) (below fs) (below-cover deep a nx fs c l b) refl
      (ap (born w) e ∙ sym r.1) (omega arith) (omega arith) (omega arith) some in
      let sum : nodes# w - a ≡ spans fs + (nodes# w - nx) = omega arith in
      ap₂ (λ (x y : List Node). x ++ y) r.0 (ih ∙ ap (λ (i : ℕ). map (node# w) (range i (nodes# w - nx))) e)
      ∙ sym (map-append (node# w) (range a (spans fs)) (range (a + spans fs) (nodes# w - nx)))
      ∙ ap (map (node# w)) (sym (range_append a (spans fs) (nodes# w - nx))) ∙ ap (λ (k : ℕ). map (node# w) (range a k)) (sym sum)

  -- those of the root's tree, numbered, are the index's
  root-numbered : 1 ≤ nodes# w → numbered (tree_at w max_depth 0 bare) ≡ map (node# w) (range 0 (nodes# w))
  unfolding numbered born level tile
  root-numbered some =
      let g : Grove = tree_at w max_depth 0 bare in
      let r = S.root (omega (arith, S.whole.nodes)) in
      let one : span g ≡ 1 = span-forest max_depth 0 1 (omega arith) in
      let tl : T (tile w 0 1 0 (0 + count# w 0)) = rw r.start (eqb_refl (0 + count# w 0)) in
      let all : nodes# w - 0 ≡ nodes# w = omega arith in
      nodes_are max_depth 0 0 (span g) ((0, g) ∷ []) (cover_one max_depth 0 1 0 (0 + count# w 0) g [] refl tl (omega arith) tt)
      (omega arith) (sym one) (omega arith) (omega arith) (omega arith) some
      ∙ ap (λ (k : ℕ). map (node# w) (range 0 k)) all

  -- THE NODES OF THE TREE, NUMBERED, ARE THE INDEX'S
  pub numbered_is : numbered (tree_of w) ≡ map (node# w) (range 0 (nodes# w))
  unfolding numbered nodes level_nodes family broods
  numbered_is =
      by_root (λ g. numbered g ≡ map (node# w) (range 0 (nodes# w))) w root-numbered (λ e. ap (λ (k : ℕ). map (node# w) (range 0 k)) (sym e))
