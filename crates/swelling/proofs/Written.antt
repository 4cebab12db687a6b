-- The words of an index with several rows more, as one pass over the levels can write them. Assumes nothing.
use Prim.Native.Nat.{◌+◌, ◌-◌, ◌≤◌, suc, zero, ℕ}
use Rattle.appending.proofs.Back.{tree-fits}
use Rattle.laws.specs.Every.{Every}
use Rattle.laws.specs.Lists.{each, head, range}
use Rattle.levels.specs.Singles.{Single, singles}
use Rattle.limits.specs.Limits.{max_depth}
use Rattle.measure.specs.Table.{between, rows_of}
use Rattle.swelling.proofs.Levelled.{Stands, forest-singles, grown-stand, kids, kids-are, node_of, one, opens-stand, root-alone, root_stands, rows-numbered}
use Rattle.swelling.proofs.Parting.{parts-runs}
use Rattle.swelling.proofs.Swelled.{shape_at_once}
use Rattle.swelling.proofs.Swelling.{forest}
use Rattle.swelling.specs.Pieces.{Piece, by_levels, grown, grown_from, members_from, old, opens, piece_of, settled, written}
use Rattle.swelling.specs.Rows.{appended_rows}
use Rattle.swelling.specs.Swell.{flat, parts, swell, swollen, swollen_tree, towards}
use Rattle.tree.specs.Build.{Run}
use Rattle.tree.specs.Encode.{Node, encode}
use Rattle.tree.specs.Grove.{Grove, bare, entries, fork, leaf, tree_of}
use Rattle.words.proofs.InShape.{in_shape}
use Rattle.words.specs.InShape.{InShape}
use Rattle.words.specs.Shape.{shape_ok_lem, tree_fits_lem}
use Rattle.words.specs.Words.{circles#, l#, m#, n#, whole_ok}
use borrow.Author.Tests.{leb-false}
use lib.Dec.{leb}
use lib.Dec as dec
use lib.ListN.{length}
use mathlib.Core.Bool.{Bool, cond, false, true}
use mathlib.Core.List.{List, [], ◌++◌, ◌∷◌, append-nil, map}
use mathlib.Core.Path.{◌∙◌, ◌≡◌, ap, ap₂, refl, sym}
use native.Mathlib.Omega.{arith}

-- the members of some nodes
abbrev members_of : List Single → List (ℕ × ℕ)
members_of qs = each (λ q. entries q.1) qs

-- those of nodes side by side are those of each
singles-members : (s : ℕ) (g : Grove) → entries g ≡ members_of (singles s g)
unfolding singles
singles-members s bare = refl
singles-members s (leaf R es g) =
    ap₂ (λ (a b : List (ℕ × ℕ)). a ++ b) (sym (append-nil es)) (singles-members (s + length es) g)
singles-members s (fork R ks g) =
    ap₂ (λ (a b : List (ℕ × ℕ)). a ++ b) (sym (append-nil (entries ks))) (singles-members (s + length (entries ks)) g)

module _ (d : ℕ → ℕ → ℕ) (w : List ℕ) (S : InShape w) where
  -- those of pieces' nodes, where each piece has its own
  pieces-members : (deep : ℕ) → ((q : Piece) → Stands d w S deep q → entries (node_of d w S deep q bare) ≡ members_from d w deep q) → (qs : List Piece)
      → Every (Stands d w S deep) qs → members_of (map (one d w S deep) qs) ≡ each (members_from d w deep) qs
  pieces-members deep ih [] h = refl
  pieces-members deep ih (q ∷ qs) h = ap₂ (λ (a b : List (ℕ × ℕ)). a ++ b) (ih q h.0) (pieces-members deep ih qs h.1)

  -- A PIECE'S MEMBERS ARE THOSE OF ITS NODE
  piece-members : (deep : ℕ) (q : Piece) → Stands d w S deep q → entries (node_of d w S deep q bare) ≡ members_from d w deep q
  unfolding node_of members_from swell
  piece-members zero (settled s R es) h = append-nil es
  piece-members zero (grown s R run) h = append-nil (map (λ i. (i, d (head run) i)) run)
  piece-members zero (old s o zs) h = absurd h
  piece-members (suc deep) (settled s R es) h = append-nil es
  piece-members (suc deep) (old s o zs) h =
      let ks : Grove = swollen d (m# w) (l# w) deep (towards d (kids d w S deep o)) 0 zs (kids d w S deep o) in
      append-nil (entries ks) ∙ singles-members s ks ∙ ap members_of (kids-are d w S deep (old s o zs) h)
      ∙ pieces-members deep (λ p k. piece-members deep p k) (opens d w (old s o zs)) (opens-stand d w S deep (old s o zs) h)
  piece-members (suc deep) (grown s R run) r = go (λ p k. piece-members deep p k) (leb (length run) (l# w)) refl
    where
      gs : List (List ℕ)
      gs = parts d (m# w) (l# w) run

      go : ((q : Piece) → Stands d w S deep q → entries (node_of d w S deep q bare) ≡ members_from d w deep q) → (b : Bool)
          → leb (length run) (l# w) ≡ b
          → entries (cond b (flat d R run bare) (fork R (forest d (m# w) (l# w) deep gs) bare))
          ≡ cond b (map (λ i. (i, d (head run) i)) run) (each (λ q. members_from d w deep q) (grown_from d s gs))
      go ih true e = append-nil (map (λ i. (i, d (head run) i)) run)
      go ih false e =
          let two : 2 ≤ m# w = S.whole.fan.0 in
          let runs : Every Run gs = parts-runs d (m# w) (l# w) (omega arith) S.whole.leaf.0 run r (leb-false (length run) (l# w) e) in
          let fs : Grove = forest d (m# w) (l# w) deep gs in
          append-nil (entries fs) ∙ singles-members s fs ∙ ap members_of (forest-singles d w S deep s gs runs)
          ∙ pieces-members deep ih (grown_from d s gs) (grown-stand d w S deep s gs runs)

  -- THE MEMBERS OF THE TREE THAT TAKES ALL ROWS AT ONCE
  pub rows-members : (zs : List ℕ) → 1 ≤ n# w
      → entries (swollen_tree d (m# w) (l# w) zs (tree_of w)) ≡ members_from d w max_depth (piece_of d w 0 0 zs)
  rows-members zs h =
      let p : Piece = piece_of d w 0 0 zs in
      singles-members 0 (swollen_tree d (m# w) (l# w) zs (tree_of w)) ∙ ap members_of (root-alone d w S zs h)
      ∙ append-nil (entries (node_of d w S max_depth p bare)) ∙ piece-members max_depth p (root_stands d w S zs h)

-- the same where the shape is read node by node
pub shape_written : (T : List ℕ) (c : ℕ) (w : List ℕ) (S : InShape w) → dec.T (tree_fits_lem w) → 1 ≤ n# w → appended_rows T c w ≡ by_levels T c w
unfolding encode
shape_written T c w S fits h =
    let zs : List ℕ = range (n# w) (rows_of T c - n# w) in
    shape_at_once T c w S fits h
    ∙ ap₂ (λ (ns : List Node) (ms : List (ℕ × ℕ)). written c (circles# w) (m# w) (l# w) ns ms) (rows-numbered (between T c (circles# w)) w S zs h)
    (rows-members (between T c (circles# w)) w S zs h)

-- THE WORDS OF ALL ROWS, WHERE THE INDEX HAS A ROW, ARE THOSE THAT ONE PASS OVER THE LEVELS MAKES
pub rows_written : (T : List ℕ) (c : ℕ) (w : List ℕ) → whole_ok w ≡ true → shape_ok_lem w ≡ true → 1 ≤ n# w
    → appended_rows T c w ≡ by_levels T c w
rows_written T c w whole shape h = shape_written T c w (in_shape w whole shape) (tree-fits w shape) h
