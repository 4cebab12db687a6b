-- The tree that the searches see is the index, nothing more: an accepted index is its tree, numbered and written, and the tree of what a build wrote is
-- the build's. Assumes nothing.
use Prim.Native.Nat.{◌≤◌, suc, zero, ℕ}
use Rattle.appending.proofs.Back.{tree_encode}
use Rattle.appending.proofs.Read.{encode_tree}
use Rattle.audit.specs.Calls.{Checks}
use Rattle.bourascul.proofs.Numbers.{passed}
use Rattle.build_refusals.proofs.Refusals.{clear, clear_round}
use Rattle.build.specs.Calls.{Builds}
use Rattle.laws.specs.Every.{Every}
use Rattle.limits.proofs.Ranges.{shared}
use Rattle.limits.specs.Limits.{max_columns, share_ok_lem}
use Rattle.meaning.proofs.Ascents.{planted-ordered}
use Rattle.meaning.specs.Ascending.{InOrder}
use Rattle.measure.proofs.Metric.{between-most, metric}
use Rattle.measure.specs.Table.{Rounded, between, rows_of}
use Rattle.tree.proofs.Built.{planted}
use Rattle.tree.specs.Build.{build, plant}
use Rattle.tree.specs.Encode.{broods, encode, family, level_nodes, nodes, numbered}
use Rattle.tree.specs.Grove.{bare, tree_of}
use Rattle.words.specs.Words.{c#, circles#, l#, m#, words_of_lem}
use lib.ListN.{drop, length, take}
use lib.Seq.{take_at}
use mathlib.Core.Bool.{true}
use mathlib.Core.List.{List}
use mathlib.Core.Path.{◌∙◌, ◌≡◌, ap, ap₂, refl, subst, sym}
use native.Mathlib.Omega.{arith}

-- AN ACCEPTED INDEX IS ITS TREE, NUMBERED AND WRITTEN
pub index_tree : {t : List ℕ} {c : ℕ} {w work work' : List ℕ} {place second : ℕ} → Checks t c w work work' 0 place second
    → encode 2 c (circles# w) (m# w) (l# w) (tree_of w) ≡ take (words_of_lem w) w
index_tree {w = w} ok =
    let P = passed ok in
    sym (ap₂ (λ (e c : ℕ). encode e c (circles# w) (m# w) (l# w) (tree_of w)) P.edition P.same_columns) ∙ tree_encode w P.accepted.words P.accepted.shape

-- no rows have no tree
empty_tree : (c o m l : ℕ) → tree_of (encode 2 c o m l bare) ≡ bare
unfolding tree_of encode numbered nodes level_nodes family broods
empty_tree c o m l = refl

-- the tree of the words that the definition writes is the one that it grows
words_tree : (t : List ℕ) (c o m l : ℕ) → c ≤ max_columns → share_ok_lem m l ≡ true → Every (λ v. v ≤ 65535) t → Rounded t c o
    → tree_of (build t c o 2 m l) ≡ plant (between t c o) m l (rows_of t c)
unfolding build
words_tree t c o m l few share small round = go (rows_of t c)
  where
    go : (n : ℕ) → tree_of (encode 2 c o m l (plant (between t c o) m l n)) ≡ plant (between t c o) m l n
    go zero = empty_tree c o m l
    go (suc n) =
        let s = shared m l share in
        let G = (planted (between t c o) (metric t c o round) (between-most t c o few small) m l (omega (arith, s.two)) s.leafy n).1 in
        encode_tree c o m l (plant (between t c o) m l (suc n)) G.one G.even G.fine

-- WHAT A BUILD WROTE HAS THE TREE THAT 01 GROWS, over a table of 16-bit numbers
pub build_tree : {t : List ℕ} {c o e m l : ℕ} {room work room' work' : List ℕ} {words nodes : ℕ} → Builds t c o e m l room work room' work' 0 words nodes
    → Every (λ v. v ≤ 65535) t → tree_of (take words room') ≡ plant (between t c o) m l (rows_of t c)
build_tree {t} {c} {o} {e} {m} {l} {room} {work} {room'} {words = words} b small =
    let C = clear t c o e m l (length room) (length work) (sym b.said) in
    let B : List ℕ = build t c o 2 m l in
    let there : take words room' ≡ B = ap₂ take b.counted.0 b.index ∙ take_at B (drop (length B) room) (length B) refl in
    ap tree_of there ∙ words_tree t c o m l C.table.few C.share small (clear_round t c o e m l (length room) (length work) C)

-- AND IN EACH LEAF OF IT THE REST FOLLOW THE FIRST BY ASCENDING ROW NUMBER
pub build-ordered : {t : List ℕ} {c o e m l : ℕ} {room work room' work' : List ℕ} {words nodes : ℕ} → Builds t c o e m l room work room' work' 0 words nodes
    → Every (λ v. v ≤ 65535) t → InOrder (tree_of (take words room'))
build-ordered {t} {c} {o} {m = m} {l} b small = subst InOrder (sym (build_tree b small)) (planted-ordered (between t c o) m l (rows_of t c))
