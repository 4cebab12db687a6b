-- Depths and numbers of nodes in 01's words, and `born` and `level`, which the shape's test computes. Assumes nothing.
use Prim.Native.Nat.{◌+◌, ◌-◌, ◌<◌, ◌≤◌, suc, zero, ℕ}
use Rattle.tree.proofs.Alike.{born-some}
use Rattle.meaning.specs.Conditions.{Depth, Numbered, child, inner, leaf, root, start}
use Rattle.words.proofs.Levels.{born-inner, born-le, born-leaf, inner-is}
use Rattle.words.proofs.Nodes.{node_at, not-orphan}
use Rattle.words.specs.Shape.{born, level, tree_fits_lem}
use Rattle.words.specs.Words.{nodes#, child#, m#}
use lib.Dec.{T}
use mathlib.Core.List.{List}
use mathlib.Core.Logic.{by_cases}
use mathlib.Core.Path.{◌∙◌, ◌≡◌, ap, refl, subst, sym}
use native.Mathlib.Decide.{dec_lt}
use native.Mathlib.Nat.{not-suc-le-zero}
use native.Mathlib.Omega.{arith}

module _ (w : List ℕ) where
  -- the first child of each inner node before k has the number that `born` says
  abbrev pub Born : ℕ → Type 0
  Born k = (j : ℕ) → j < k → 1 ≤ child# w j → child# w j ≡ born w j

  -- an inner node's children take the next m numbers
  born-next : (k : ℕ) → 1 ≤ child# w k → born w (suc k) ≡ born w k + m# w
  born-next k s = born-inner w k (inner-is w k (λ z. omega (arith, s, z)))

  -- ---- numbers
  -- the next child's number is what `born` says
  pub numbered-born : {k b : ℕ} → Numbered w k b → b ≡ born w k
  unfolding born
  numbered-born start = refl
  numbered-born (leaf k b u e) = numbered-born u ∙ sym (born-leaf w k e)
  numbered-born (inner k b u e) =
      let q = numbered-born u in
      ap (λ (i : ℕ). i + m# w) q ∙ sym (born-next k (omega (arith, born-some w k, e, q)))

  -- and so is each first child's
  pub numbered-child : {k b : ℕ} → Numbered w k b → Born k
  numbered-child start j h s = absurd (not-suc-le-zero h)
  numbered-child (leaf k b u e) j h s =
      by_cases (dec_lt j k) (λ l. numbered-child u j l s)
      (λ l.
      let z : k ≡ j = omega arith in
      absurd (omega (arith, s, subst (λ (i : ℕ). child# w i ≡ 0) z e)))
  numbered-child (inner k b u e) j h s =
      by_cases (dec_lt j k) (λ l. numbered-child u j l s)
      (λ l.
      let z : k ≡ j = omega arith in
      subst (λ (i : ℕ). child# w i ≡ born w i) z (e ∙ numbered-born u))

  -- and the other way
  pub born-numbered : (k : ℕ) → Born k → Numbered w k (born w k)
  unfolding born
  born-numbered zero f = start
  born-numbered (suc k) f =
      let u = born-numbered k (λ j h s. f j (omega arith) s) in
      by_cases (dec_lt 0 (child# w k))
      (λ s. subst (Numbered w (suc k)) (sym (born-next k s)) (inner k (born w k) u (f k (omega arith) s)))
      (λ s.
      let z : child# w k ≡ 0 = omega arith in
      subst (Numbered w (suc k)) (sym (born-leaf w k z)) (leaf k (born w k) u z))

  -- ---- depths
  -- a node at depth e has a number between the level's ends
  pub depth-level : Born (nodes# w) → {k e : ℕ} → Depth w k e → (level w e ≤ k) × (k < level w (suc e))
  unfolding level born
  depth-level f root = (omega arith, omega arith)
  depth-level f (child k e j u h s q) =
      let D = depth-level f u in
      let c = f k h s in (
        omega (arith, c, born-le w (level w e) k D.0),
        omega (arith, c, born-next k s, born-le w (suc k) (born w (level w e)) D.1),
      )

  -- a node at some depth
  pub record Stood (k : ℕ) : Type 0 where
    pub depth : ℕ
    pub stands : Depth w k depth

  -- the node whose child has the number k
  record Above (k q : ℕ) : Type 0 where
    parent : ℕ
    before : parent < q
    from : born w parent ≤ k
    to : k < born w (suc parent)

  -- one before node q has, where k is born by then
  above : (k q : ℕ) → 1 ≤ k → k < born w q → Above k q
  unfolding born
  above k zero s h = absurd (omega arith)
  above k (suc q) s h =
      by_cases (dec_lt k (born w q))
      (λ l. let A = above k q s l in record { parent = A.parent; before = omega (arith, A.before); from = A.from; to = A.to })
      (λ l. record { parent = q; before = omega arith; from = omega arith; to = h })

  -- a child of a node that stands somewhere stands one deeper
  stood-child : T (tree_fits_lem w) → (k p : ℕ) → p < nodes# w → born w p ≤ k → k < born w (suc p) → Stood p → Stood k
  stood-child t k p h from to S =
      by_cases (dec_lt 0 (child# w p))
      (λ s.
      let c : child# w p ≡ born w p = (node_at w t p h).next (inner-is w p (λ z. omega (arith, s, z))) in
      let z : child# w p + (k - child# w p) ≡ k = omega (arith, c, from) in
      subst Stood z (record {
        depth = suc S.depth;
        stands = child p S.depth (k - child# w p) S.stands h s (omega (arith, c, from, to, born-next p s));
      }))
      (λ s.
      let z : child# w p ≡ 0 = omega arith in
      absurd (omega (arith, from, to, born-leaf w p z)))

  -- so does each node below b
  stood-to : T (tree_fits_lem w) → (b k : ℕ) → k < b → k < nodes# w → Stood k
  stood-to t zero k l h = absurd (not-suc-le-zero l)
  stood-to t (suc b) k l h =
      by_cases (dec_lt 0 k)
      (λ s.
      let A = above k k s (not-orphan w t k h) in
      stood-child t k A.parent (omega (arith, A.before)) A.from A.to
      (stood-to t b A.parent (omega (arith, A.before)) (omega (arith, A.before))))
      (λ s.
      let z : 0 ≡ k = omega arith in
      subst Stood z (record { depth = 0; stands = root }))

  -- EACH NODE OF AN INDEX IN SHAPE STANDS AT SOME DEPTH
  pub stood : T (tree_fits_lem w) → (k : ℕ) → k < nodes# w → Stood k
  stood t k h = stood-to t (nodes# w) k h h
