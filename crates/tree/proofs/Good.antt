-- A well-made tree, numbered and written, is accepted by the full check. Assumes nothing.
use Prim.Native.Nat.{◌*◌, ◌+◌, ◌-◌, ◌<◌, ◌≤◌, suc, zero, ℕ}
use Rattle.laws.proofs.Every.{every-both, every-unmap}
use Rattle.laws.proofs.Tests.{and_of, holds, is_true}
use Rattle.laws.specs.Every.{Every}
use Rattle.laws.specs.Lists.{each, range, times}
use Rattle.limits.proofs.Ranges.{shared, within_both}
use Rattle.limits.specs.Limits.{circles_ok_lem, columns_ok_lem, edition_ok_lem, max_depth, max_distance, max_rows, share_ok_lem}
use Rattle.tree.proofs.Encode.{Even, level-length, nodes-length}
use Rattle.tree.proofs.Faultless.{no-fault}
use Rattle.tree.proofs.Full.{Full}
use Rattle.tree.proofs.Grown.{Tight}
use Rattle.tree.proofs.Held.{At, at_rows, read_at}
use Rattle.tree.proofs.Right.{Made, nodes-right}
use Rattle.tree.proofs.Shaped.{Fine, below_fine, below_none}
use Rattle.tree.proofs.Sound.{Sound}
use Rattle.tree.proofs.Written.{Edition, each_words, encode-shape, read-nodes}
use Rattle.tree.specs.Check.{Accepted, faults}
use Rattle.tree.specs.Encode.{below, broods, encode, family, level_nodes, node_words, nodes, numbered, pair_words, span, spans}
use Rattle.tree.specs.Grove.{Grove, bare, entries, fork, leaf, rows_in}
use Rattle.words.specs.Shape.{shape_ok_lem}
use Rattle.words.specs.Words.{card_ok_lem, nodes_ok_lem, row#, width, words_of_lem, whole_ok}
use lib.Dec.{T, leb, le→leb}
use lib.ListN.{length, length-append}
use mathlib.Core.Bool.{◌&&◌, true}
use mathlib.Core.List.{List, [], ◌++◌, ◌∷◌, append_assoc, map}
use mathlib.Core.Path.{◌≡◌, ap, refl, subst, sym}
use native.Mathlib.Nat.{mul-zero}
use native.Mathlib.Omega.{arith}

-- ---- how many nodes: at most 2n - 1
-- how many nodes a tree has, all levels together
abbrev pub size : Grove → ℕ
size bare = 0
size (leaf R es g) = 1 + size g
size (fork R ks g) = 1 + size ks + size g

-- how many some families have
abbrev sizes : List (ℕ × Grove) → ℕ
sizes [] = 0
sizes (f ∷ fs) = size f.1 + sizes fs

-- of two lists of families
sizes_append : (xs ys : List (ℕ × Grove)) → sizes (xs ++ ys) ≡ sizes xs + sizes ys
sizes_append [] ys = omega arith
sizes_append (x ∷ xs) ys = omega (arith, sizes_append xs ys)

-- the nodes side by side, and those below them
broods-sizes : (s : ℕ) (g : Grove) → size g ≡ span g + sizes (broods s g)
unfolding broods
broods-sizes s bare = refl
broods-sizes s (leaf R es g) = omega (arith, broods-sizes (s + length es) g)
broods-sizes s (fork R ks g) = omega (arith, broods-sizes (s + length (entries ks)) g)

-- a level's nodes, and those below it
below-sizes : (fs : List (ℕ × Grove)) → sizes fs ≡ spans fs + sizes (below fs)
below-sizes [] = refl
below-sizes (f ∷ fs) = omega (arith, below-sizes fs, broods-sizes f.0 f.1, sizes_append (broods f.0 f.1) (below fs))

-- the numbering has every node once
pub nodes-size : (l deep nx : ℕ) (fs : List (ℕ × Grove)) → Every (λ f. Fine l deep f.1) fs → length (nodes deep nx fs) ≡ sizes fs
unfolding nodes
nodes-size l zero nx fs h = let e = ap sizes (below_none l fs h) in omega (arith, level-length nx fs, below-sizes fs, e)
nodes-size l (suc deep) nx fs h =
    omega (arith, nodes-length deep nx fs, nodes-size l deep (nx + spans (below fs)) (below fs) (below_fine l deep fs h), below-sizes fs)

-- with two children or more below each inner node there are fewer nodes than twice the rows
size_bound : (m : ℕ) (g : Grove) → 2 ≤ m → Full g → Even m g → size g + span g ≤ 2 * length (entries g)
size_bound m bare h f e = omega arith
size_bound m (leaf R es g) h f e = omega (arith, size_bound m g h f.1 e, length-append es (entries g))
size_bound m (fork R ks g) h f e =
    omega (arith, size_bound m ks h f.1 e.1, size_bound m g h f.2 e.2, length-append (entries ks) (entries g))

-- ---- a tree that is well made
pub record Good (d : ℕ → ℕ → ℕ) (m l : ℕ) (t : Grove) : Type 0 where
  pub one : span t ≡ 1
  pub full : Full t
  pub even : Even m t
  pub fine : Fine l max_depth t
  pub sound : Sound d t
  pub tight : Tight d t
  pub rows : Every (λ i. i < length (entries t)) (rows_in t)
  pub once : (i : ℕ) → times i (rows_in t) ≤ 1
  pub dists : Every (λ e. e.1 ≤ max_distance) (entries t)

-- ---- the header and the words
-- a node count that the header's test takes
nodes_test : (n N : ℕ) → 1 ≤ N → N + 1 ≤ 2 * n → T (nodes_ok_lem n N)
nodes_test zero N a b = absurd (omega arith)
nodes_test (suc n) N a b = and_of (leb 1 N) (leb N (2 * suc n - 1)) (le→leb 1 N a) (le→leb N (2 * suc n - 1) (omega arith))

-- the header that is written is possible
header_ok : (e n c o m l N : ℕ) → T (edition_ok_lem e) → n ≤ max_rows → T (columns_ok_lem c) → T (circles_ok_lem c o) → T (share_ok_lem m l) → 1 ≤ N → N + 1 ≤ 2 * n
    → T (edition_ok_lem e && leb n max_rows && columns_ok_lem c && share_ok_lem m l && nodes_ok_lem n N && true && circles_ok_lem c o)
header_ok e n c o m l N he hn hc ho hs a b =
    let q0 = edition_ok_lem e && leb n max_rows in
    let q1 = q0 && columns_ok_lem c in
    let q2 = q1 && share_ok_lem m l in
    let q3 = q2 && nodes_ok_lem n N in
    and_of (q3 && true) (circles_ok_lem c o) (and_of q3 true
    (and_of q2 (nodes_ok_lem n N) (and_of q1 (share_ok_lem m l) (and_of q0 (columns_ok_lem c) (and_of (edition_ok_lem e) (leb n max_rows) he (le→leb n max_rows hn)) hc) hs)
    (nodes_test n N a b)) tt) ho

-- two words for each position
pub pairs-length : (es : List (ℕ × ℕ)) → length (each pair_words es) ≡ 2 * length es
pairs-length [] = refl
pairs-length (e ∷ es) = omega (arith, pairs-length es)

-- the words that the header asks for are there
encode-words : (e c o m l : ℕ) (t : Grove) → Edition e → T (card_ok_lem (encode e c o m l t)) → whole_ok (encode e c o m l t) ≡ true
unfolding encode whole_ok
encode-words e c o m l t ed h =
    let w : List ℕ = encode e c o m l t in
    let B : List ℕ = each (node_words e) (numbered t) in
    let Z : List ℕ = each pair_words (entries t) in
    let len : length w ≡ words_of_lem w = omega (arith, length-append B Z, each_words e (numbered t) ed, pairs-length (entries t)) in
    is_true (leb 8 (length w) && card_ok_lem w && leb (words_of_lem w) (length w))
    (and_of (leb 8 (length w) && card_ok_lem w) (leb (words_of_lem w) (length w))
    (and_of (leb 8 (length w)) (card_ok_lem w) (le→leb 8 (length w) (omega arith)) h) (le→leb (words_of_lem w) (length w) (omega arith)))

-- A WELL-MADE TREE, NUMBERED AND WRITTEN, IS ACCEPTED
pub encode-accepted : (d : ℕ → ℕ → ℕ) (e c o m l : ℕ) (t : Grove) → edition_ok_lem e ≡ true → columns_ok_lem c ≡ true → circles_ok_lem c o ≡ true → share_ok_lem m l ≡ true → length (entries t) ≤ max_rows
    → Good d m l t → Accepted d (encode e c o m l t)
unfolding encode numbered card_ok_lem
encode-accepted d e c o m l t he hc ho hs hn G =
    let ed : Edition e = within_both 1 2 e he in
    let w : List ℕ = encode e c o m l t in
    let n : ℕ = length (entries t) in
    let H : List ℕ = e ∷ n ∷ c ∷ m ∷ l ∷ length (numbered t) ∷ 1 ∷ o ∷ [] in
    let B : List ℕ = each (node_words e) (numbered t) in
    let Z : List ℕ = each pair_words (entries t) in
    let m2 = (shared m l hs).two in
    let N : length (numbered t) ≡ size t + 0 = nodes-size l max_depth (span t) ((0, t) ∷ []) (G.fine, tt) in
    let sz = size_bound m t m2 G.full G.even in
    let held : At w 0 (entries t) =
    read_at (entries t) (H ++ B) w 0 (append_assoc H B Z) (omega (arith, length-append H B, each_words e (numbered t) ed)) in
    let made : Made d w 0 t = record { full = G.full; held = held; sound = G.sound; tight = G.tight; even = G.even } in
    let rows : map (row# w) (range 0 n) ≡ rows_in t = at_rows w 0 (entries t) held in
    record {
      words =
          encode-words e c o m l t ed (header_ok e n c o m l (length (numbered t)) (holds (edition_ok_lem e) he) hn (holds (columns_ok_lem c) hc) (holds (circles_ok_lem c o) ho) (holds (share_ok_lem m l) hs)
          (omega (arith, broods-sizes 0 t, G.one)) (omega (arith, G.one)));
      shape = is_true (shape_ok_lem w) (encode-shape e m l ed t G.one G.even G.fine c o
          (every-both (λ e. e.0 < n) (λ e. e.1 ≤ max_distance) (λ e. (e.0 < n) × (e.1 ≤ max_distance)) (λ e a b. (a, b)) (entries t)
          (every-unmap (λ i. i < n) (λ e. e.0) (entries t) G.rows) G.dists));
      sound = no-fault d w (λ i. subst (λ is. times i is ≤ 1) (sym rows) (G.once i))
          (nodes-right d w l max_depth 0 (span t) ((0, t) ∷ []) (read-nodes e ed (numbered t) H Z w 0 refl refl (omega (arith, mul-zero (width e)))) (made, tt) (G.fine, tt) (omega arith)
          (omega (arith, G.one)));
    }

-- the tree of no rows
pub empty_accepted : (d : ℕ → ℕ → ℕ) (e c o m l : ℕ) → edition_ok_lem e ≡ true → columns_ok_lem c ≡ true → circles_ok_lem c o ≡ true → share_ok_lem m l ≡ true → Accepted d (encode e c o m l bare)
unfolding encode numbered nodes level_nodes family broods card_ok_lem shape_ok_lem faults
empty_accepted d e c o m l he hc ho hs =
    let E = edition_ok_lem e && true in
    let C = columns_ok_lem c in
    let s = share_ok_lem m l in
    record {
      words = encode-words e c o m l bare (within_both 1 2 e he)
          (and_of (E && C && s && true && true) (circles_ok_lem c o) (and_of (E && C && s && true) true
          (and_of (E && C && s) true (and_of (E && C) s (and_of E C (and_of (edition_ok_lem e) true (holds (edition_ok_lem e) he) tt) (holds C hc)) (holds s hs))
          tt) tt) (holds (circles_ok_lem c o) ho));
      shape = refl;
      sound = refl;
    }
