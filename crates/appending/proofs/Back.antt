-- An index in shape is its tree, numbered and written in its edition. Assumes nothing.
use Prim.Native.Nat.{◌*◌, ◌+◌, ◌-◌, ◌≤◌, suc, zero, ℕ}
use Rattle.appending.proofs.Numbered.{node#, numbered_is}
use Rattle.laws.proofs.Lists.{map-append}
use Rattle.laws.proofs.Ranges.{range_append, range_length}
use Rattle.laws.proofs.Tests.{and_l, and_r, holds, is_true}
use Rattle.laws.specs.Lists.{all, each, range}
use Rattle.limits.specs.Limits.{circles_ok_lem, columns_ok_lem, edition_ok_lem, max_depth, max_rows, share_ok_lem}
use Rattle.tree.proofs.Members.{entries_at, held}
use Rattle.tree.proofs.Rows.{by_root}
use Rattle.tree.proofs.Written.{Edition}
use Rattle.tree.specs.Encode.{encode, node_words, nodes, numbered, pair_words}
use Rattle.tree.specs.Grove.{Grove, bare, entries, members#, tree_of}
use Rattle.words.proofs.InShape.{in_shape}
use Rattle.words.specs.InShape.{InShape}
use Rattle.words.specs.Shape.{position_ok, shape_ok_lem, tree_fits_lem}
use Rattle.words.specs.Words.{nodes#, at, c#, edition#, card_ok_lem, circles#, kept, kind#, l#, m#, n#, node_at_lem, nodes_ok_lem, pair_at, width, words_of_lem, whole_ok}
use borrow.Author.Tests.{eqb-false, eqb-true}
use lib.Dec.{T, eqb, eqb→eq, leb}
use lib.ListN.{drop, length, length-map, take}
use lib.Seq.{drop-cons}
use mathlib.Core.Bool.{Bool, ◌&&◌, cond, false, true}
use mathlib.Core.List.{List, [], ◌++◌, ◌∷◌, append-nil, map}
use mathlib.Core.Path.{◌∙◌, ◌≡◌, ap, ap₂, refl, sym}
use native.Mathlib.Nat.{mul-suc, mul-zero}
use native.Mathlib.Omega.{arith}

-- ---- the words
module _ (w : List ℕ) where
  -- k words from word a on
  abbrev words_from : ℕ → ℕ → List ℕ
  words_from a k = map (at w) (range a k)

  -- they are a part of the list
  part-words : (a k : ℕ) → a + k ≤ length w → take k (drop a w) ≡ words_from a k
  part-words a zero h = refl
  part-words a (suc k) h =
      ap (take (suc k)) (drop-cons w a 0 (omega arith)) ∙ ap (λ (l : List ℕ). at w a ∷ l) (part-words (suc a) k (omega arith))

  -- a + b words: a, and b more
  words_append : (s a b : ℕ) → words_from s (a + b) ≡ words_from s a ++ words_from (s + a) b
  words_append s a b = ap (map (at w)) (range_append s a b) ∙ map-append (at w) (range s a) (range (s + a) b)

  -- two words
  two-words : (a : ℕ) → at w a ∷ at w (a + 1) ∷ [] ≡ words_from a 2
  two-words a =
      let p : a + 1 ≡ suc a = omega arith in
      ap (λ (i : ℕ). at w a ∷ at w i ∷ []) p

  -- four words, or five
  some_words : (a e : ℕ) → Edition e
      → at w a ∷ at w (a + 1) ∷ at w (a + 2) ∷ at w (a + 3) ∷ cond (eqb e 2) (kept e (at w (a + 4)) ∷ []) [] ≡ words_from a (width e)
  some_words a e ed = go (eqb e 2) refl
    where
      go : (b : Bool) → eqb e 2 ≡ b
          → at w a ∷ at w (a + 1) ∷ at w (a + 2) ∷ at w (a + 3) ∷ cond b (cond b (at w (a + 4)) 0 ∷ []) [] ≡ words_from a (width e)
      go true q =
          let p1 : a + 1 ≡ suc a = omega arith in
          let p2 : a + 2 ≡ suc (suc a) = omega arith in
          let p3 : a + 3 ≡ suc (suc (suc a)) = omega arith in
          let p4 : a + 4 ≡ suc (suc (suc (suc a))) = omega arith in
          let five : at w a ∷ at w (a + 1) ∷ at w (a + 2) ∷ at w (a + 3) ∷ at w (a + 4) ∷ [] ≡ words_from a 5 = cc in
          five ∙ ap (λ (e : ℕ). words_from a (width e)) (sym (eqb-true e 2 q))
      go false q =
          let p1 : a + 1 ≡ suc a = omega arith in
          let p2 : a + 2 ≡ suc (suc a) = omega arith in
          let p3 : a + 3 ≡ suc (suc (suc a)) = omega arith in
          let four : at w a ∷ at w (a + 1) ∷ at w (a + 2) ∷ at w (a + 3) ∷ [] ≡ words_from a 4 = cc in
          let one : 1 ≡ e = omega (arith, ed.0, ed.1, eqb-false e 2 q) in
          four ∙ ap (λ (e : ℕ). words_from a (width e)) one

  -- the words of n nodes from number k on
  node_words_lem : (k n : ℕ) → Edition (edition# w)
      → each (node_words (edition# w)) (map (node# w) (range k n)) ≡ words_from (node_at_lem w k) (width (edition# w) * n)
  node_words_lem k zero ed = ap (words_from (node_at_lem w k)) (sym (mul-zero (width (edition# w))))
  node_words_lem k (suc n) ed =
      let b : ℕ = width (edition# w) in
      let p : b * suc n ≡ b + b * n = omega (arith, mul-suc b n) in
      let q : node_at_lem w (suc k) ≡ node_at_lem w k + b = omega (arith, mul-suc b k) in
      ap₂ (λ (x y : List ℕ). x ++ y) (some_words (node_at_lem w k) (edition# w) ed) (node_words_lem (suc k) n ed ∙ ap (λ (i : ℕ). words_from i (b * n)) q)
      ∙ sym (words_append (node_at_lem w k) b (b * n)) ∙ ap (words_from (node_at_lem w k)) (sym p)

  -- the words of n positions from p on
  pair-words : (p n : ℕ) → each pair_words (held w p n) ≡ words_from (pair_at w p) (2 * n)
  pair-words p zero = refl
  pair-words p (suc n) =
      let e : 2 * suc n ≡ 2 + 2 * n = omega arith in
      let q : pair_at w (suc p) ≡ pair_at w p + 2 = omega arith in
      ap₂ (λ (x y : List ℕ). x ++ y) (two-words (pair_at w p)) (pair-words (suc p) n ∙ ap (λ (i : ℕ). words_from i (2 * n)) q)
      ∙ sym (words_append (pair_at w p) 2 (2 * n)) ∙ ap (words_from (pair_at w p)) (sym e)

-- what a possible header says of its last two words: the distance kind is 1, and the circles are columns
pub header_last : (w : List ℕ) → whole_ok w ≡ true → (kind# w ≡ 1) × (circles_ok_lem (c# w) (circles# w) ≡ true)
unfolding whole_ok card_ok_lem
header_last w e =
    let a = edition_ok_lem (edition# w) in
    let b = leb (n# w) max_rows in
    let d = columns_ok_lem (c# w) in
    let s = share_ok_lem (m# w) (l# w) in
    let k = nodes_ok_lem (n# w) (nodes# w) in
    let x = eqb (kind# w) 1 in
    let y = circles_ok_lem (c# w) (circles# w) in
    let h = a && b && d && s && k && x && y in
    let g : T h = and_r (leb 8 (length w)) h (and_l (leb 8 (length w) && h) (leb (words_of_lem w) (length w))
    (holds (leb 8 (length w) && h && leb (words_of_lem w) (length w)) e)) in
    let g1 = and_l (a && b && d && s && k && x) y g in (
      eqb→eq (kind# w) 1 (and_r (a && b && d && s && k) x g1),
      is_true y (and_r (a && b && d && s && k && x) y g),
    )

-- the nodes' part of the shape
pub tree-fits : (w : List ℕ) → shape_ok_lem w ≡ true → T (tree_fits_lem w)
unfolding shape_ok_lem
tree-fits w s = let b = all (position_ok w) (range 0 (n# w)) in and_l (tree_fits_lem w) b (holds (tree_fits_lem w && b) s)

-- THE MEMBERS OF THE TREE ARE WHAT THE POSITIONS HOLD
pub entries_tree : (w : List ℕ) → InShape w → entries (tree_of w) ≡ held w 0 (n# w)
entries_tree w S =
    by_root (λ g. entries g ≡ held w 0 (n# w)) w
    (λ h.
    let r = S.root (omega (arith, S.whole.nodes)) in
    entries_at w S max_depth 0 bare h ∙ append-nil (members# w 0) ∙ ap₂ (λ (s c : ℕ). held w s c) r.start r.count)
    (λ e. ap (held w 0) (empty (n# w) (λ h. omega (arith, (S.root h).there))))
  where
    empty : (n : ℕ) → (1 ≤ n → ⊥) → 0 ≡ n
    empty zero f = refl
    empty (suc n) f = absurd (f (omega arith))

-- AN INDEX IN SHAPE IS ITS TREE, NUMBERED AND WRITTEN IN ITS EDITION
pub tree_encode : (w : List ℕ) → whole_ok w ≡ true → shape_ok_lem w ≡ true → encode (edition# w) (c# w) (circles# w) (m# w) (l# w) (tree_of w)
    ≡ take (words_of_lem w) w
unfolding encode
tree_encode w ok sh =
    let S = in_shape w ok sh in
    let f = header_last w ok in
    let N : ℕ = nodes# w in
    let n : ℕ = n# w in
    let ns = numbered_is w S (tree-fits w sh) in
    let es = entries_tree w S in
    let ln : length (numbered (tree_of w)) ≡ N = ap length ns ∙ simp (length-map, range_length) in
    let le : length (entries (tree_of w)) ≡ n = ap length es ∙ simp (length-map, range_length) in
    let e : ℕ = edition# w in
    let b : ℕ = width e * N in
    let H : List ℕ = e ∷ length (entries (tree_of w)) ∷ c# w ∷ m# w ∷ l# w ∷ length (numbered (tree_of w)) ∷ 1 ∷ circles# w ∷ [] in
    let head : H ≡ words_from w 0 8 = cc in
    let base : node_at_lem w 0 ≡ 8 = omega (arith, mul-zero (width e)) in
    let one : each (node_words e) (numbered (tree_of w)) ≡ words_from w 8 b =
    ap (each (node_words e)) ns ∙ node_words_lem w 0 N S.whole.edition ∙ ap (λ (k : ℕ). words_from w k b) base in
    let start : pair_at w 0 ≡ 8 + b = omega arith in
    let two : each pair_words (entries (tree_of w)) ≡ words_from w (8 + b) (2 * n) =
    ap (each pair_words) es ∙ pair-words w 0 n ∙ ap (λ (k : ℕ). words_from w k (2 * n)) start in
    let sum : 8 + (b + 2 * n) ≡ words_of_lem w = omega arith in
    ap₂ (λ (x y : List ℕ). x ++ y) head (ap₂ (λ (x y : List ℕ). x ++ y) one two ∙ sym (words_append w 8 b (2 * n)))
    ∙ sym (words_append w 0 8 (b + 2 * n)) ∙ sym (part-words w 0 (8 + (b + 2 * n)) (omega (arith, S.whole.words)))
    ∙ ap (λ (k : ℕ). take k w) sum

-- TWO INDEXES IN SHAPE OF ONE EDITION WITH THE SAME COLUMNS, CIRCLES, m AND l AND THE SAME TREE HAVE THE SAME WORDS
pub tree_only : (w v : List ℕ) → whole_ok w ≡ true → shape_ok_lem w ≡ true → whole_ok v ≡ true → shape_ok_lem v ≡ true → edition# w ≡ edition# v → c# w ≡ c# v
    → circles# w ≡ circles# v → m# w ≡ m# v → l# w ≡ l# v → tree_of w ≡ tree_of v → take (words_of_lem w) w ≡ take (words_of_lem v) v
tree_only w v a b a' b' o p u q r e =
    sym (tree_encode w a b) ∙ ap₂ (λ (e : ℕ) (g : Grove). encode e (c# w) (circles# w) (m# w) (l# w) g) o e
    ∙ ap₂ (λ (c k : ℕ). encode (edition# v) c k (m# w) (l# w) (tree_of v)) p u
    ∙ ap₂ (λ (m l : ℕ). encode (edition# v) (c# v) (circles# v) m l (tree_of v)) q r ∙ tree_encode v a' b'
