-- A tree that is numbered and written in edition 2 is read back: the tree of what encode writes is the tree. Assumes nothing.
use Prim.Native.Nat.{◌+◌, ◌≤◌, min, suc, zero, ℕ}
use Rattle.laws.proofs.Every.{every_append}
use Rattle.laws.specs.Every.{Every}
use Rattle.laws.specs.Lists.{each, range}
use Rattle.limits.specs.Limits.{max_depth}
use Rattle.tree.proofs.Encode.{Even, Holds, Reached, below_even, fork_inner, level-first, level-length, level-others, nodes-head, nodes-length, nodes_rest}
use Rattle.tree.proofs.Forks.{as-fork, as-leaf}
use Rattle.tree.proofs.Good.{pairs-length}
use Rattle.tree.proofs.Held.{At, at_left, at_right}
use Rattle.tree.proofs.Members.{held}
use Rattle.tree.proofs.Shaped.{Fine, below_fine}
use Rattle.tree.proofs.WidenedBuild.{encode-nodes, encode-pairs, pairs_back}
use Rattle.tree.proofs.Written.{Edition, each_words}
use Rattle.tree.specs.Encode.{Node, below, broods, encode, family, level_nodes, node_words, nodes, numbered, pair_words, span, spans}
use Rattle.tree.specs.Grove.{Grove, Reach, bare, entries, fork, leaf, members#, reach#, reaching, tree_at, tree_of}
use Rattle.words.specs.Shape.{inner}
use Rattle.words.specs.Words.{child#, count#, edition#, kept, m#, start#, words_of_lem}
use lib.Dec.{eqb}
use lib.ListN.{length, length-append}
use mathlib.Core.Bool.{false, not}
use mathlib.Core.List.{List, [], ◌++◌, ◌∷◌, foldr}
use mathlib.Core.Path.{◌∙◌, ◌≡◌, ap, ap₂, refl, subst, sym}
use native.Mathlib.Nat.{add_assoc, add-zero}
use native.Mathlib.Omega.{arith}

-- k nodes from number j on, each with at most `deep` levels below it
abbrev pub forest : List ℕ → ℕ → ℕ → ℕ → Grove
forest w deep j k = foldr (tree_at w deep) bare (range j k)

module _ (w : List ℕ) (two : edition# w ≡ 2) where
  -- a reach read back
  reach-back : (j : ℕ) (R : Reach) → Reached w j R → reach# w j ≡ R
  reach-back j R r = ap₂ (λ (o i : ℕ). reaching o i) r.0 (r.1 ∙ ap (λ (e : ℕ). kept e R.inner) two)

  -- a leaf read back
  read-leaf : (deep j s : ℕ) (R : Reach) (es : List (ℕ × ℕ)) (g g' : Grove) → start# w j ≡ s → count# w j ≡ length es → child# w j ≡ 0 → Reached w j R
      → At w s es → g' ≡ g → tree_at w deep j g' ≡ leaf R es g
  read-leaf deep j s R es g g' a b c r h e =
      let out : inner w j ≡ false = ap (λ (k : ℕ). not (eqb k 0)) c in
      let ms : members# w j ≡ es = ap₂ (λ (i k : ℕ). held w i k) a b ∙ pairs_back w s es h in
      as-leaf w deep j g' out ∙ ap (λ (k : Reach). leaf k (members# w j) g') (reach-back j R r) ∙ ap (λ (l : List (ℕ × ℕ)). leaf R l g') ms
      ∙ ap (leaf R es) e

  -- an inner node read back, where its children are
  read-fork : (deep j nx : ℕ) (R : Reach) (ks g g' : Grove) → child# w j ≡ nx → 1 ≤ nx → Reached w j R → span ks ≡ m# w
      → forest w deep nx (span ks) ≡ ks → g' ≡ g → tree_at w (suc deep) j g' ≡ fork R ks g
  read-fork deep j nx R ks g g' c n r m q e =
      let kids : forest w deep (child# w j) (m# w) ≡ ks = ap₂ (λ (i k : ℕ). forest w deep i k) c (sym m) ∙ q in
      as-fork w deep j g' (fork_inner w j nx c n) ∙ ap (λ (k : Reach). fork k (forest w deep (child# w j) (m# w)) g') (reach-back j R r)
      ∙ ap (λ (k : Grove). fork R k g') kids ∙ ap (fork R ks) e

  -- the families that stand from number j on are read back
  abbrev Read : ℕ → ℕ → List (ℕ × Grove) → Type 0
  Read deep j [] = Unit {0}
  Read deep j (f ∷ fs) = (forest w deep j (span f.1) ≡ f.1) × Read deep (j + span f.1) fs

  -- of two lists of families the first
  read_left : (deep j : ℕ) (fs hs : List (ℕ × Grove)) → Read deep j (fs ++ hs) → Read deep j fs
  read_left deep j [] hs u = tt
  read_left deep j (f ∷ fs) hs u = (u.0, read_left deep (j + span f.1) fs hs u.1)

  -- and behind it the second
  read_right : (deep j : ℕ) (fs hs : List (ℕ × Grove)) → Read deep j (fs ++ hs) → Read deep (j + spans fs) hs
  read_right deep j [] hs u = rw (add-zero j) u
  read_right deep j (f ∷ fs) hs u = rw (← add_assoc j (span f.1) (spans fs)) (read_right deep (j + span f.1) fs hs u.1)

  -- a family with no level below it is read back
  family-flat : (l j nx s : ℕ) (g : Grove) → Holds w j (family nx s g) → At w s (entries g) → Fine l 0 g → forest w 0 j (span g) ≡ g
  unfolding family
  family-flat l j nx s bare h a fi = refl
  family-flat l j nx s (leaf R es g) h a fi =
      read-leaf 0 j s R es g (forest w 0 (suc j) (span g)) h.0 h.1 h.2 h.3 (at_left w s es (entries g) a)
      (family-flat l (suc j) nx (s + length es) g h.4 (at_right w s es (entries g) a) fi.3)
  family-flat l j nx s (fork R ks g) h a fi = absurd fi

  -- a family is read back, where its children's families are
  family-read : (l deep j nx s : ℕ) (g : Grove) → Holds w j (family nx s g) → At w s (entries g) → Even (m# w) g → Fine l (suc deep) g → 1 ≤ nx
      → Read deep nx (broods s g) → forest w (suc deep) j (span g) ≡ g
  unfolding family broods
  family-read l deep j nx s bare h a ev fi n u = refl
  family-read l deep j nx s (leaf R es g) h a ev fi n u =
      read-leaf (suc deep) j s R es g (forest w (suc deep) (suc j) (span g)) h.0 h.1 h.2 h.3 (at_left w s es (entries g) a)
      (family-read l deep (suc j) nx (s + length es) g h.4 (at_right w s es (entries g) a) ev fi.3 n u)
  family-read l deep j nx s (fork R ks g) h a ev fi n u =
      read-fork deep j nx R ks g (forest w (suc deep) (suc j) (span g)) h.2 n h.3 ev.0 u.0
      (family-read l deep (suc j) (nx + span ks) (s + length (entries ks)) g h.4 (at_right w s (entries ks) (entries g) a) ev.2 fi.3
      (omega arith) u.1)

  -- the pairs of each family stand where it says
  abbrev Stand : List (ℕ × Grove) → Type 0
  Stand fs = Every (λ f. At w f.0 (entries f.1)) fs

  -- so do those of its children's families
  broods-stand : (s : ℕ) (g : Grove) → At w s (entries g) → Stand (broods s g)
  unfolding broods
  broods-stand s bare a = tt
  broods-stand s (leaf R es g) a = broods-stand (s + length es) g (at_right w s es (entries g) a)
  broods-stand s (fork R ks g) a =
      (at_left w s (entries ks) (entries g) a, broods-stand (s + length (entries ks)) g (at_right w s (entries ks) (entries g) a))

  -- and those of the next level
  below-stand : (fs : List (ℕ × Grove)) → Stand fs → Stand (below fs)
  below-stand [] h = tt
  below-stand (f ∷ fs) h =
      every_append (λ f. At w f.0 (entries f.1)) (broods f.0 f.1) (below fs) (broods-stand f.0 f.1 h.0) (below-stand fs h.1)

  -- the families of a level with none below it
  level-flat : (l j nx : ℕ) (fs : List (ℕ × Grove)) → Holds w j (level_nodes nx fs) → Stand fs → Every (λ f. Fine l 0 f.1) fs → Read 0 j fs
  level-flat l j nx [] h a fi = tt
  level-flat l j nx (f ∷ fs) h a fi = (
    family-flat l j nx f.0 f.1 (level-first w j nx f fs h) a.0 fi.0,
    level-flat l (j + span f.1) (nx + spans (broods f.0 f.1)) fs (level-others w j nx f fs h) a.1 fi.1,
  )

  -- the families of a level
  level-read : (l deep j nx : ℕ) (fs : List (ℕ × Grove)) → Holds w j (level_nodes nx fs) → Stand fs → Every (λ f. Even (m# w) f.1) fs
      → Every (λ f. Fine l (suc deep) f.1) fs → 1 ≤ nx → Read deep nx (below fs) → Read (suc deep) j fs
  level-read l deep j nx [] h a ev fi n u = tt
  level-read l deep j nx (f ∷ fs) h a ev fi n u =
      let bs = broods f.0 f.1 in (
        family-read l deep j nx f.0 f.1 (level-first w j nx f fs h) a.0 ev.0 fi.0 n (read_left deep nx bs (below fs) u),
        level-read l deep (j + span f.1) (nx + spans bs) fs (level-others w j nx f fs h) a.1 ev.1 fi.1 (omega arith)
            (read_right deep nx bs (below fs) u),
      )

  -- ALL FAMILIES ARE READ BACK
  nodes-read : (l deep a nx : ℕ) (fs : List (ℕ × Grove)) → Holds w a (nodes deep nx fs) → Stand fs → Every (λ f. Even (m# w) f.1) fs
      → Every (λ f. Fine l deep f.1) fs → nx ≡ a + spans fs → 1 ≤ nx → Read deep a fs
  nodes-read l zero a nx fs h st ev fi e n = level-flat l a nx fs (nodes-head w 0 a nx fs h) st fi
  nodes-read l (suc deep) a nx fs h st ev fi e n =
      let k : ℕ = nx + spans (below fs) in
      let L : List Node = nodes deep k (below fs) in
      let rs : Holds w nx L = subst (λ (i : ℕ). Holds w i L) (sym e) (nodes_rest w deep a nx fs h) in
      level-read l deep a nx fs (nodes-head w (suc deep) a nx fs h) st ev fi n
      (nodes-read l deep nx k (below fs) rs (below-stand fs st) (below_even (m# w) fs ev) (below_fine l deep fs fi) refl (omega arith))

-- a level's nodes are among all
nodes-some : (deep nx : ℕ) (fs : List (ℕ × Grove)) → spans fs ≤ length (nodes deep nx fs)
unfolding nodes
nodes-some zero nx fs = omega (arith, level-length nx fs)
nodes-some (suc deep) nx fs = omega (arith, nodes-length deep nx fs)

-- THE TREE OF WHAT ENCODE WRITES IN EDITION 2 IS THE TREE (edition 1 does not keep the inner reaches)
pub encode_tree : (c o m l : ℕ) (t : Grove) → span t ≡ 1 → Even m t → Fine l max_depth t → tree_of (encode 2 c o m l t) ≡ t
unfolding tree_of encode numbered
encode_tree c o m l t one ev fi =
    let ed : Edition 2 = (omega arith, omega arith) in
    let r = nodes-read (encode 2 c o m l t) refl l max_depth 0 (span t) ((0, t) ∷ []) (encode-nodes 2 c o m l ed t) (encode-pairs 2 c o m l ed t, tt)
    (ev, tt) (fi, tt) (omega arith) (omega arith) in
    let q : min (length (numbered t)) 1 ≡ span t = omega (arith, nodes-some max_depth (span t) ((0, t) ∷ [])) in
    ap (λ (k : ℕ). forest (encode 2 c o m l t) max_depth 0 k) q ∙ r.0

-- WHAT ENCODE WRITES HAS AS MANY WORDS AS ITS HEADER ASKS FOR
pub encode-length : (e c o m l : ℕ) (t : Grove) → Edition e → length (encode e c o m l t) ≡ words_of_lem (encode e c o m l t)
unfolding encode
encode-length e c o m l t ed =
    let B : List ℕ = each (node_words e) (numbered t) in
    let Z : List ℕ = each pair_words (entries t) in
    omega (arith, length-append B Z, each_words e (numbered t) ed, pairs-length (entries t))
