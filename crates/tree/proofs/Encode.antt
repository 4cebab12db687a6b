-- The nodes of a numbered tree as the words hold them: families, levels, and the numbers that children get. Assumes nothing.
use Prim.Native.Nat.{◌+◌, ◌≤◌, suc, zero, ℕ}
use Rattle.laws.proofs.Every.{every_append}
use Rattle.laws.specs.Every.{Every}
use Rattle.tree.specs.Encode.{Node, below, broods, family, level_nodes, nodes, span, spans}
use Rattle.tree.specs.Grove.{Grove, Reach, bare, entries, fork, leaf}
use Rattle.words.proofs.Levels.{born-inner, born-leaf, inner-is}
use Rattle.words.specs.Shape.{born, inner, tile}
use Rattle.words.specs.Words.{child#, count#, edition#, inner#, kept, m#, radius#, start#}
use borrow.Author.Tests.{eq-eqb}
use lib.Dec.{T, eqb, eqb_refl}
use lib.ListN.{length, length-append}
use mathlib.Core.Bool.{true}
use mathlib.Core.List.{List, [], ◌++◌, ◌∷◌}
use mathlib.Core.Path.{◌∙◌, ◌≡◌, ap, refl, subst, sym}
use native.Mathlib.Nat.{add_assoc, add-suc, add-zero, suc-add}
use native.Mathlib.Omega.{arith}

-- node j's reach is what the edition keeps of this one
abbrev pub Reached : List ℕ → ℕ → Reach → Type 0
Reached w j R = (radius# w j ≡ R.outer) × (inner# w j ≡ kept (edition# w) R.inner)

-- the node words from number j on are these
abbrev pub Holds : List ℕ → ℕ → List Node → Type 0
Holds w j [] = Unit {0}
Holds w j (v ∷ vs) = (start# w j ≡ v.0) × (count# w j ≡ v.1) × (child# w j ≡ v.2) × Reached w j v.3 × Holds w (suc j) vs

-- words that hold two lists of nodes hold the first
pub holds_left : (w : List ℕ) (j : ℕ) (us vs : List Node) → Holds w j (us ++ vs) → Holds w j us
holds_left w j [] vs h = tt
holds_left w j (u ∷ us) vs h = (h.0, h.1, h.2, h.3, holds_left w (suc j) us vs h.4)

-- and behind it the second
holds-right : (w : List ℕ) (j : ℕ) (us vs : List Node) → Holds w j (us ++ vs) → Holds w (j + length us) vs
holds-right w j [] vs h = rw (add-zero j) h
holds-right w j (u ∷ us) vs h = rw (add-suc j (length us), ← suc-add j (length us)) (holds-right w (suc j) us vs h.4)

-- m children below each inner node of this level and of all below
abbrev pub Even : ℕ → Grove → Type 0
Even m bare = Unit {0}
Even m (leaf R es g) = Even m g
Even m (fork R ks g) = (span ks ≡ m) × Even m ks × Even m g

-- a family has as many nodes as stand side by side
family-length : (nx s : ℕ) (g : Grove) → length (family nx s g) ≡ span g
unfolding family
family-length nx s bare = refl
family-length nx s (leaf R es g) = ap suc (family-length nx (s + length es) g)
family-length nx s (fork R ks g) = ap suc (family-length (nx + span ks) (s + length (entries ks)) g)

-- one more tile in front
tile_cons : (w : List ℕ) (j s c k e : ℕ) → start# w j ≡ s → count# w j ≡ c → T (tile w (suc j) k (s + c) e) → T (tile w j (suc k) s e)
unfolding tile
tile_cons w j s c k e p q t = rw (eq-eqb (start# w j) s p, q) t

-- a family's runs tile its part of the positions
pub family-tile : (w : List ℕ) (j nx s : ℕ) (g : Grove) → Holds w j (family nx s g) → T (tile w j (span g) s (s + length (entries g)))
unfolding family tile
family-tile w j nx s bare h = subst (λ i. T (eqb s i)) (sym (add-zero s)) (eqb_refl s)
family-tile w j nx s (leaf R es g) h =
    let q : s + length es + length (entries g) ≡ s + length (es ++ entries g) = omega (arith, length-append es (entries g)) in
    tile_cons w j s (length es) (span g) (s + length (es ++ entries g)) h.0 h.1
    (subst (λ e. T (tile w (suc j) (span g) (s + length es) e)) q (family-tile w (suc j) nx (s + length es) g h.4))
family-tile w j nx s (fork R ks g) h =
    let n : ℕ = length (entries ks) in
    let q : s + n + length (entries g) ≡ s + length (entries ks ++ entries g) = omega (arith, length-append (entries ks) (entries g)) in
    tile_cons w j s n (span g) (s + length (entries ks ++ entries g)) h.0 h.1
    (subst (λ e. T (tile w (suc j) (span g) (s + n) e)) q (family-tile w (suc j) (nx + span ks) (s + n) g h.4))

-- ---- the numbers that children get
-- a node with a first child is inner
pub fork_inner : (w : List ℕ) (j nx : ℕ) → child# w j ≡ nx → 1 ≤ nx → inner w j ≡ true
fork_inner w j nx e h = inner-is w j (λ q. omega arith)

-- after a family, the next number is behind its children's
pub family-born : (w : List ℕ) (j nx s : ℕ) (g : Grove) → Holds w j (family nx s g) → Even (m# w) g → 1 ≤ nx → born w j ≡ nx
    → born w (j + span g) ≡ nx + spans (broods s g)
unfolding family broods
family-born w j nx s bare h ev n b = rw (add-zero j) (omega arith)
family-born w j nx s (leaf R es g) h ev n b =
    rw (add-suc j (span g), ← suc-add j (span g)) (family-born w (suc j) nx (s + length es) g h.4 ev n (born-leaf w j h.2 ∙ b))
family-born w j nx s (fork R ks g) h ev n b =
    rw (add-suc j (span g), ← suc-add j (span g))
    (family-born w (suc j) (nx + span ks) (s + length (entries ks)) g h.4 ev.2 (omega arith)
    (omega (arith, born-inner w j (fork_inner w j nx h.2 n), ev.0))
    ∙ add_assoc nx (span ks) (spans (broods (s + length (entries ks)) g)))

-- ---- a level
-- how many nodes two lists of families have
pub spans_append : (xs ys : List (ℕ × Grove)) → spans (xs ++ ys) ≡ spans xs + spans ys
spans_append [] ys = omega arith
spans_append (x ∷ xs) ys = omega (arith, spans_append xs ys)

-- a level has as many nodes as its families
pub level-length : (nx : ℕ) (fs : List (ℕ × Grove)) → length (level_nodes nx fs) ≡ spans fs
unfolding level_nodes
level-length nx [] = refl
level-length nx (f ∷ fs) =
    omega (
      arith,
      length-append (family nx f.0 f.1) (level_nodes (nx + spans (broods f.0 f.1)) fs),
      family-length nx f.0 f.1,
      level-length (nx + spans (broods f.0 f.1)) fs,
    )

-- the first family and the others
pub level-first : (w : List ℕ) (j nx : ℕ) (f : ℕ × Grove) (fs : List (ℕ × Grove)) → Holds w j (level_nodes nx (f ∷ fs))
    → Holds w j (family nx f.0 f.1)
unfolding level_nodes
level-first w j nx f fs h = holds_left w j (family nx f.0 f.1) (level_nodes (nx + spans (broods f.0 f.1)) fs) h

-- and the others behind it
pub level-others : (w : List ℕ) (j nx : ℕ) (f : ℕ × Grove) (fs : List (ℕ × Grove)) → Holds w j (level_nodes nx (f ∷ fs))
    → Holds w (j + span f.1) (level_nodes (nx + spans (broods f.0 f.1)) fs)
unfolding level_nodes
level-others w j nx f fs h =
    subst (λ k. Holds w (j + k) (level_nodes (nx + spans (broods f.0 f.1)) fs)) (family-length nx f.0 f.1)
    (holds-right w j (family nx f.0 f.1) (level_nodes (nx + spans (broods f.0 f.1)) fs) h)

-- after a level, the next number is behind all its children's
pub level-born : (w : List ℕ) (j nx : ℕ) (fs : List (ℕ × Grove)) → Holds w j (level_nodes nx fs) → Every (λ f. Even (m# w) f.1) fs → 1 ≤ nx
    → born w j ≡ nx
    → born w (j + spans fs) ≡ nx + spans (below fs)
level-born w j nx [] h ev n b = rw (add-zero j) (omega arith)
level-born w j nx (f ∷ fs) h ev n b =
    let k : ℕ = spans (broods f.0 f.1) in
    let b' = family-born w j nx f.0 f.1 (level-first w j nx f fs h) ev.0 n b in
    ap (born w) (sym (add_assoc j (span f.1) (spans fs)))
    ∙ level-born w (j + span f.1) (nx + k) fs (level-others w j nx f fs h) ev.1 (omega arith) b'
    ∙ add_assoc nx k (spans (below fs)) ∙ ap (λ i. nx + i) (sym (spans_append (broods f.0 f.1) (below fs)))

-- families that stand from number j on, each tiling its part
abbrev pub Fams : List ℕ → ℕ → List (ℕ × Grove) → Type 0
Fams w j [] = Unit {0}
Fams w j (f ∷ fs) = T (tile w j (span f.1) f.0 (f.0 + length (entries f.1))) × Fams w (j + span f.1) fs

-- a level's families each tile their part
pub level_fams : (w : List ℕ) (j nx : ℕ) (fs : List (ℕ × Grove)) → Holds w j (level_nodes nx fs) → Fams w j fs
level_fams w j nx [] h = tt
level_fams w j nx (f ∷ fs) h = (
  family-tile w j nx f.0 f.1 (level-first w j nx f fs h),
  level_fams w (j + span f.1) (nx + spans (broods f.0 f.1)) fs (level-others w j nx f fs h),
)

-- of two lists of families the first
pub fams_left : (w : List ℕ) (j : ℕ) (fs hs : List (ℕ × Grove)) → Fams w j (fs ++ hs) → Fams w j fs
fams_left w j [] hs u = tt
fams_left w j (f ∷ fs) hs u = (u.0, fams_left w (j + span f.1) fs hs u.1)

-- and behind it the second
pub fams_right : (w : List ℕ) (j : ℕ) (fs hs : List (ℕ × Grove)) → Fams w j (fs ++ hs) → Fams w (j + spans fs) hs
fams_right w j [] hs u = rw (add-zero j) u
fams_right w j (f ∷ fs) hs u = rw (← add_assoc j (span f.1) (spans fs)) (fams_right w (j + span f.1) fs hs u.1)

-- ---- the next level
-- its families have m children below each inner node too
broods_even : (m s : ℕ) (g : Grove) → Even m g → Every (λ f. Even m f.1) (broods s g)
unfolding broods
broods_even m s bare h = tt
broods_even m s (leaf R es g) h = broods_even m (s + length es) g h
broods_even m s (fork R ks g) h = (h.1, broods_even m (s + length (entries ks)) g h.2)

-- so has a level's next one
pub below_even : (m : ℕ) (fs : List (ℕ × Grove)) → Every (λ f. Even m f.1) fs → Every (λ f. Even m f.1) (below fs)
below_even m [] h = tt
below_even m (f ∷ fs) h =
    every_append (λ f. Even m f.1) (broods f.0 f.1) (below fs) (broods_even m f.0 f.1 h.0) (below_even m fs h.1)

-- ---- all levels
-- the first level's nodes stand first
pub nodes-head : (w : List ℕ) (deep j nx : ℕ) (fs : List (ℕ × Grove)) → Holds w j (nodes deep nx fs) → Holds w j (level_nodes nx fs)
unfolding nodes
nodes-head w zero j nx fs h = h
nodes-head w (suc deep) j nx fs h = holds_left w j (level_nodes nx fs) (nodes deep (nx + spans (below fs)) (below fs)) h

-- and the others behind them
pub nodes_rest : (w : List ℕ) (deep j nx : ℕ) (fs : List (ℕ × Grove)) → Holds w j (nodes (suc deep) nx fs)
    → Holds w (j + spans fs) (nodes deep (nx + spans (below fs)) (below fs))
unfolding nodes
nodes_rest w deep j nx fs h =
    subst (λ k. Holds w (j + k) (nodes deep (nx + spans (below fs)) (below fs))) (level-length nx fs)
    (holds-right w j (level_nodes nx fs) (nodes deep (nx + spans (below fs)) (below fs)) h)

-- how many nodes a level and those below it have
pub nodes-length : (deep nx : ℕ) (fs : List (ℕ × Grove))
    → length (nodes (suc deep) nx fs) ≡ spans fs + length (nodes deep (nx + spans (below fs)) (below fs))
unfolding nodes
nodes-length deep nx fs = omega (arith, length-append (level_nodes nx fs) (nodes deep (nx + spans (below fs)) (below fs)), level-length nx fs)
