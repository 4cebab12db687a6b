-- A well-made tree, numbered and written, is in shape: each node passes its test, and each but the root is a child. Assumes nothing.
use Prim.Native.Nat.{◌+◌, ◌<◌, ◌≤◌, suc, zero, ℕ}
use Rattle.laws.proofs.Every.{every_append, every-left, every-right}
use Rattle.laws.proofs.Ranges.{every-range-append, range_append, range-every}
use Rattle.laws.specs.Every.{Every}
use Rattle.laws.specs.Lists.{range}
use Rattle.limits.specs.Limits.{max_depth, max_distance}
use Rattle.tree.proofs.Encode.{Even, Fams, Holds, Reached, below_even, family-born, fams_left, fams_right, fork_inner, level-born, level_fams, level-first, level-length, level-others, nodes-head, nodes-length, nodes_rest}
use Rattle.tree.specs.Encode.{Node, below, broods, family, level_nodes, nodes, span, spans}
use Rattle.tree.specs.Grove.{Grove, Reach, bare, entries, fork, leaf}
use Rattle.words.proofs.Levels.{born-inner, born-leaf}
use Rattle.words.specs.Shape.{born, level, node_ok_lem, tile}
use Rattle.words.specs.Words.{child#, count#, edition#, inner#, kept, l#, m#, radius#, start#}
use borrow.Author.Tests.{eq-eqb, le-leb, lt-leb, ne_eqb}
use lib.Dec.{T, eqb, leb}
use lib.ListN.{length}
use mathlib.Core.Bool.{Bool, ◌&&◌, ◌||◌, cond, false, true}
use mathlib.Core.List.{List, [], ◌++◌, ◌∷◌}
use mathlib.Core.Path.{◌∙◌, ◌≡◌, ap, ap₂, refl, subst, sym}
use native.Mathlib.Nat.{add-suc, add-zero, suc-add}
use native.Mathlib.Omega.{arith}

-- ---- one node
-- a reach in range
abbrev pub Small : Reach → Type 0
Small R = (R.outer ≤ max_distance) × (R.inner ≤ max_distance)

-- leaves by the rule of count and depth, reaches in range; `deep` levels are left below
abbrev pub Fine : ℕ → ℕ → Grove → Type 0
Fine l deep bare = Unit {0}
Fine l deep (leaf R es g) = (1 ≤ length es) × Small R × T (leb (length es) l || eqb deep 0) × Fine l deep g
Fine l zero (fork R ks g) = ⊥
Fine l (suc deep) (fork R ks g) = (l < length (entries ks)) × Small R × Fine l deep ks × Fine l (suc deep) g

-- what is kept is no more
pub kept_le : (e i : ℕ) → kept e i ≤ i
kept_le e i = go (eqb e 2)
  where
    go : (b : Bool) → cond b i 0 ≤ i
    go true = omega arith
    go false = omega arith

-- words that hold a reach in range are in range
small_words : (w : List ℕ) (j : ℕ) (R : Reach) → Reached w j R → Small R → (radius# w j ≤ max_distance) × (inner# w j ≤ max_distance)
small_words w j R r s = (omega (arith, r.0, s.0), omega (arith, r.1, s.1, kept_le (edition# w) R.inner))

-- a leaf passes its test
leaf_ok : (w : List ℕ) (j c deep : ℕ) (R : Reach) → count# w j ≡ c → child# w j ≡ 0 → Reached w j R → 1 ≤ c → Small R
    → leb (level w max_depth) j ≡ eqb deep 0 → T (leb c (l# w) || eqb deep 0) → T (node_ok_lem w j)
unfolding node_ok_lem
leaf_ok w j c deep R ec eh er hc hR hd ht =
    let s = small_words w j R er hR in
    rw (ec, eh, hd, le-leb 1 c hc, le-leb (radius# w j) max_distance s.0, le-leb (inner# w j) max_distance s.1) (go (leb c (l# w) || eqb deep 0) ht)
  where
    go : (b : Bool) → T b → T (cond b true (eqb 0 (born w j) && tile w 0 (m# w) (start# w j) (start# w j + c)))
    go true t = tt
    go false t = absurd t

-- so does an inner node
fork_ok : (w : List ℕ) (j c : ℕ) (R : Reach) → count# w j ≡ c → child# w j ≡ born w j → Reached w j R → l# w < c → Small R
    → leb (level w max_depth) j ≡ false → T (tile w (child# w j) (m# w) (start# w j) (start# w j + c)) → T (node_ok_lem w j)
unfolding node_ok_lem
fork_ok w j c R ec eh er hc hR hd ht =
    let s = small_words w j R er hR in
    rw (ec, hd, le-leb 1 c (omega arith), le-leb (radius# w j) max_distance s.0, le-leb (inner# w j) max_distance s.1, lt-leb c (l# w) hc, eq-eqb (child# w j) (born w j) eh) ht

-- ---- the nodes of a family, of a level, of all levels
-- every node from number j on, k of them, is as it should be
abbrev pub Ok : List ℕ → ℕ → ℕ → Type 0
Ok w j k = Every (λ i. T (node_ok_lem w i)) (range j k)

-- at each of them, depth 24 is reached exactly if no level is left
abbrev Depth : List ℕ → ℕ → ℕ → ℕ → Type 0
Depth w deep j k = Every (λ i. leb (level w max_depth) i ≡ eqb deep 0) (range j k)

-- the nodes of a family pass
family_ok : (w : List ℕ) (deep j nx s : ℕ) (g : Grove) → Holds w j (family nx s g) → Even (m# w) g → Fine (l# w) deep g → 1 ≤ nx → born w j ≡ nx
    → Fams w nx (broods s g) → Depth w deep j (span g) → Ok w j (span g)
unfolding family broods
family_ok w deep j nx s bare h ev fi n b u d = tt
family_ok w deep j nx s (leaf R es g) h ev fi n b u d = (
  leaf_ok w j (length es) deep R h.1 h.2 h.3 fi.0 fi.1 d.0 fi.2,
  family_ok w deep (suc j) nx (s + length es) g h.4 ev fi.3 n (born-leaf w j h.2 ∙ b) u d.1,
)
family_ok w zero j nx s (fork R ks g) h ev fi n b u d = absurd fi
family_ok w (suc deep) j nx s (fork R ks g) h ev fi n b u d =
    let not_end : leb (level w max_depth) j ≡ false = d.0 ∙ ne_eqb (suc deep) 0 (λ q. omega arith) in (
      fork_ok w j (length (entries ks)) R h.1 (h.2 ∙ sym b) h.3 fi.0 fi.1 not_end (rw (h.2, ← ev.0, h.0) u.0),
      family_ok w (suc deep) (suc j) (nx + span ks) (s + length (entries ks)) g h.4 ev.2 fi.3 (omega arith)
          (omega (arith, born-inner w j (fork_inner w j nx h.2 n), ev.0)) u.1 d.1,
    )

-- the nodes of a level pass
level_ok : (w : List ℕ) (deep j nx : ℕ) (fs : List (ℕ × Grove)) → Holds w j (level_nodes nx fs) → Every (λ f. Even (m# w) f.1) fs
    → Every (λ f. Fine (l# w) deep f.1) fs → 1 ≤ nx → born w j ≡ nx → Fams w nx (below fs) → Depth w deep j (spans fs) → Ok w j (spans fs)
level_ok w deep j nx [] h ev fi n b u d = tt
level_ok w deep j nx (f ∷ fs) h ev fi n b u d =
    let P : ℕ → Type 0 = λ i. leb (level w max_depth) i ≡ eqb deep 0 in
    let k : ℕ = span f.1 in
    let d' : Every P (range j k ++ range (j + k) (spans fs)) = rw (range_append j k (spans fs)) at d in
    let bs = broods f.0 f.1 in
    every-range-append (λ i. T (node_ok_lem w i)) j k (spans fs)
    (family_ok w deep j nx f.0 f.1 (level-first w j nx f fs h) ev.0 fi.0 n b (fams_left w nx bs (below fs) u)
    (every-left P (range j k) (range (j + k) (spans fs)) d'))
    (level_ok w deep (j + k) (nx + spans bs) fs (level-others w j nx f fs h) ev.1 fi.1 (omega arith)
    (family-born w j nx f.0 f.1 (level-first w j nx f fs h) ev.0 n b) (fams_right w nx bs (below fs) u)
    (every-right P (range j k) (range (j + k) (spans fs)) d'))

-- ---- the next level
-- the families of the children have one level less below them, and keep the rule
broods_fine : (l deep s : ℕ) (g : Grove) → Fine l (suc deep) g → Every (λ f. Fine l deep f.1) (broods s g)
unfolding broods
broods_fine l deep s bare h = tt
broods_fine l deep s (leaf R es g) h = broods_fine l deep (s + length es) g h.3
broods_fine l deep s (fork R ks g) h = (h.2, broods_fine l deep (s + length (entries ks)) g h.3)

-- so do all families of the next level
pub below_fine : (l deep : ℕ) (fs : List (ℕ × Grove)) → Every (λ f. Fine l (suc deep) f.1) fs → Every (λ f. Fine l deep f.1) (below fs)
below_fine l deep [] h = tt
below_fine l deep (f ∷ fs) h =
    every_append (λ f. Fine l deep f.1) (broods f.0 f.1) (below fs) (broods_fine l deep f.0 f.1 h.0) (below_fine l deep fs h.1)

-- with no level left there are no children
broods-none : (l s : ℕ) (g : Grove) → Fine l 0 g → broods s g ≡ []
unfolding broods
broods-none l s bare h = refl
broods-none l s (leaf R es g) h = broods-none l (s + length es) g h.3
broods-none l s (fork R ks g) h = absurd h

-- so that the next level is empty
pub below_none : (l : ℕ) (fs : List (ℕ × Grove)) → Every (λ f. Fine l 0 f.1) fs → below fs ≡ []
below_none l [] h = refl
below_none l (f ∷ fs) h = ap₂ {C = List (ℕ × Grove)} (λ a b. a ++ b) (broods-none l f.0 f.1 h.0) (below_none l fs h.1)

-- ---- all levels
-- where the next level starts
level-next : (w : List ℕ) (dep a nx : ℕ) → level w dep ≡ a → born w a ≡ nx → level w (suc dep) ≡ nx
unfolding level
level-next w dep a nx p q = ap (born w) p ∙ q

-- the level that starts at number a, at depth dep, is not below depth 24
nodes_deep : (w : List ℕ) (deep dep a nx : ℕ) (fs : List (ℕ × Grove)) → Holds w a (nodes deep nx fs) → Every (λ f. Even (m# w) f.1) fs
    → nx ≡ a + spans fs → 1 ≤ nx → level w dep ≡ a → born w a ≡ nx → dep + deep ≡ max_depth → a ≤ level w max_depth
nodes_deep w zero dep a nx fs h ev e n p b q = let r : level w max_depth ≡ a = ap (level w) (sym q ∙ add-zero dep) ∙ p in omega arith
nodes_deep w (suc deep) dep a nx fs h ev e n p b q =
    let k : ℕ = nx + spans (below fs) in
    let b' : born w nx ≡ k = ap (born w) e ∙ level-born w a nx fs (nodes-head w (suc deep) a nx fs h) ev n b in
    let r = nodes_deep w deep (suc dep) nx k (below fs)
    (subst (λ i. Holds w i (nodes deep k (below fs))) (sym e) (nodes_rest w deep a nx fs h)) (below_even (m# w) fs ev) refl (omega arith)
    (level-next w dep a nx p b) b' (suc-add dep deep ∙ sym (add-suc dep deep) ∙ q) in
    omega arith

-- ALL NODES ARE AS THEY SHOULD BE, AND EACH BUT THOSE OF THE FIRST LEVEL IS A CHILD
pub nodes-ok : (w : List ℕ) (deep dep a nx : ℕ) (fs : List (ℕ × Grove)) → Holds w a (nodes deep nx fs) → Every (λ f. Even (m# w) f.1) fs
    → Every (λ f. Fine (l# w) deep f.1) fs → nx ≡ a + spans fs → 1 ≤ nx → level w dep ≡ a → born w a ≡ nx → dep + deep ≡ max_depth
    → Ok w a (length (nodes deep nx fs)) × (born w (a + length (nodes deep nx fs)) ≡ a + length (nodes deep nx fs))
unfolding nodes
nodes-ok w zero dep a nx fs h ev fi e n p b q =
    let r : level w max_depth ≡ a = ap (level w) (sym q ∙ add-zero dep) ∙ p in
    let no_kids : below fs ≡ [] = below_none (l# w) fs fi in
    let len = level-length nx fs in
    let done : born w (a + spans fs) ≡ a + spans fs =
    level-born w a nx fs h ev n b ∙ ap (λ l. nx + spans l) no_kids ∙ add-zero nx ∙ e in (
      subst (Ok w a) (sym len)
          (level_ok w 0 a nx fs h ev fi n b (subst (Fams w nx) (sym no_kids) tt)
          (range-every (λ i. leb (level w max_depth) i ≡ eqb 0 0) a (spans fs) (λ i k. le-leb (level w max_depth) (a + i) (omega arith)))),
      subst (λ k. born w (a + k) ≡ a + k) (sym len) done,
    )
nodes-ok w (suc deep) dep a nx fs h ev fi e n p b q =
    let k : ℕ = nx + spans (below fs) in
    let L : List Node = nodes deep k (below fs) in
    let hd = nodes-head w (suc deep) a nx fs h in
    let rs : Holds w nx L = subst (λ i. Holds w i L) (sym e) (nodes_rest w deep a nx fs h) in
    let b' : born w nx ≡ k = ap (born w) e ∙ level-born w a nx fs hd ev n b in
    let p' = level-next w dep a nx p b in
    let q' = suc-add dep deep ∙ sym (add-suc dep deep) ∙ q in
    let top = nodes_deep w deep (suc dep) nx k (below fs) rs (below_even (m# w) fs ev) refl (omega arith) p' b' q' in
    let ih = nodes-ok w deep (suc dep) nx k (below fs) rs (below_even (m# w) fs ev) (below_fine (l# w) deep fs fi) refl (omega arith) p' b' q' in
    let here = level_ok w (suc deep) a nx fs hd ev fi n b (level_fams w nx k (below fs) (nodes-head w deep nx k (below fs) rs))
    (range-every (λ i. leb (level w max_depth) i ≡ eqb (suc deep) 0) a (spans fs)
    (λ i u. lt-leb (level w max_depth) (a + i) (omega arith) ∙ sym (ne_eqb (suc deep) 0 (λ z. omega arith)))) in
    let len = nodes-length deep nx fs in
    let sum : nx + length L ≡ a + (spans fs + length L) = omega arith in (
      subst (Ok w a) (sym len) (every-range-append (λ i. T (node_ok_lem w i)) a (spans fs) (length L) here (subst (λ i. Ok w i (length L)) e ih.0)),
      subst (λ z. born w (a + z) ≡ a + z) (sym len) (ap (born w) (sym sum) ∙ ih.1 ∙ sum),
    )
