-- From the levels to the index with all rows in it: header and positions are written. Assumes nothing.
use Prim.Native.Nat.{◌*◌, ◌+◌, ◌-◌, ◌≤◌, ℕ}
use Rattle.filling.proofs.Framed.{framed}
use Rattle.header_words.specs.Header.{header_of}
use Rattle.deepening.specs.Stages.{Layered, Leveled, Planted}
use Rattle.laws.specs.Lists.{each, range}
use Rattle.limits.specs.Limits.{max_columns, max_depth, max_rows}
use Rattle.measure.specs.Table.{between, rows_of}
use Rattle.opening.specs.Sound.{Task}
use Rattle.refilling.specs.Joining.{RowsJoin, RowsJoinable}
use Rattle.refilling.specs.Rooted.{RootAsk, Rooted, root_piece}
use Rattle.rounds.proofs.Parts.{mid_end}
use Rattle.rounds.specs.Entries.{pairs_in}
use Rattle.rounds.specs.Stretch.{stretch}
use Rattle.split.specs.Places.{node_at_lem}
use Rattle.swelling.proofs.Written.{shape_written}
use Rattle.swelling.specs.Pieces.{levels_from, members_from, piece_of, written}
use Rattle.swelling.specs.Rows.{appended_rows}
use Rattle.tree.proofs.Good.{pairs-length}
use Rattle.tree.proofs.Written.{each_words}
use Rattle.tree.specs.Encode.{Node, node_words, pair_words}
use Rattle.words.specs.Words.{nodes#, c#, circles#, l#, m#, n#}
use borrow.Rule.Slice.PartMut.{mid_of, put_mid}
use lib.ListN.{drop, length, length-append, length-drop, replicate, take}
use mathlib.Core.List.{List, [], ◌++◌, ◌∷◌}
use mathlib.Core.Path.{◌∙◌, ◌≡◌, ap, ap₂, refl, subst, sym}
use native.Mathlib.Omega.{arith}

module _ {t : List ℕ} {c : ℕ} {w room work : List ℕ} (J : RowsJoinable t c w room work) {n : ℕ} (rows : n ≡ rows_of t c) where
  -- the table has all rows
  pub task-is : Task t w n
  task-is =
      record {
        shape = J.shape;
        tree = J.tree;
        edition = J.edition;
        more = omega (arith, J.more);
        few = omega (arith, J.few);
        table = subst (λ (i : ℕ). i * n ≤ length t) (sym J.columns) (subst (λ (i : ℕ). c * i ≤ length t) (sym rows) J.table);
      }

  -- the root can be laid
  pub root-ask : RootAsk t w n room work
  root-ask = record { task = task-is; some = J.some; space = omega (arith, J.space); halves = J.halves ∙ ap (λ (i : ℕ). 6 * i) (sym rows) }

  -- it stands
  module _ {room₁ work₁ : List ℕ} (root : Rooted t w n room room₁ work₁) where
    unfoldable pub planted : Planted t w n room₁ work₁
    planted = record { root = root_piece t w n; origin = room; rooted = root }

    -- every level stands
    module _ {room₂ work₂ : List ℕ} {made : ℕ} (levels : Leveled t w n room₁ work₁ room₂ work₂ made) where
      layered : Layered t w n (root_piece t w n) room room₂ work₂ made
      unfolding planted
      layered = levels planted

      -- few nodes
      pub few-nodes : (made ≤ 2 * n) × (n ≤ 1048576) × (node_at_lem made + 2 * n ≤ length room)
      few-nodes = (layered.few, omega (arith, J.few), omega (arith, layered.few, J.space))

      -- the header can be written
      pub header-ready : {m l k : ℕ} → m ≡ m# w → l ≡ l# w → length room₂ ≡ length room → k ≡ made
          → (8 ≤ length room₂) × (n ≤ max_rows) × (c ≤ max_columns) × (m ≤ 64) × (l ≤ 1024) × (k ≤ 2097152)
      header-ready em el same ek =
          let W = J.shape.whole in (
            omega (arith, same, J.space),
            omega (arith, J.few),
            omega (arith, W.columns, J.columns),
            omega (arith, W.fan),
            omega (arith, W.leaf),
            omega (arith, few-nodes),
          )

      -- and the positions
      pub positions-ready : (room₃ : List ℕ) → length room₃ ≡ length room → length work₂ ≡ length work
          → (2 * n ≤ length (mid_of (node_at_lem made) (length room₃ - node_at_lem made) room₃)) × (3 * n ≤ length work₂)
      positions-ready room₃ same half = (
        omega (arith, ap length (mid_end (node_at_lem made) room₃), length-drop (node_at_lem made) room₃, same, few-nodes),
        omega (arith, half, J.halves),
      )

      -- the nodes and the members, over columns i and rows j
      abbrev nodes_of : ℕ → ℕ → List Node
      nodes_of i j =
          levels_from (between t i (circles# w)) w max_depth 1 (piece_of (between t i (circles# w)) w 0 0 (range (n# w) (j - n# w)) ∷ [])

      abbrev members_of : ℕ → ℕ → List (ℕ × ℕ)
      members_of i j = members_from (between t i (circles# w)) w max_depth (piece_of (between t i (circles# w)) w 0 0 (range (n# w) (j - n# w)))

      -- header, nodes and pairs are the words of the index
      words_are : header_of n c (circles# w) (m# w) (l# w) made ++ (each (node_words 2) (nodes_of (c# w) n) ++ each pair_words (members_of (c# w) n))
          ≡ appended_rows t c w
      words_are =
          ap₂ (λ (i k : ℕ).
          header_of i c (circles# w) (m# w) (l# w) k ++ (each (node_words 2) (nodes_of (c# w) n) ++ each pair_words (members_of (c# w) n)))
          (sym layered.many) layered.count
          ∙ ap₂ (λ (i j : ℕ). written c (circles# w) (m# w) (l# w) (nodes_of i j) (members_of i j)) J.columns rows
          ∙ sym (shape_written t c w J.shape J.tree J.some)

      -- how many words
      words_long : length (appended_rows t c w) ≡ 8 + 5 * made + 2 * n
      words_long =
          ap length (sym words_are)
          ∙ omega (
            arith,
            length-append (each (node_words 2) (nodes_of (c# w) n)) (each pair_words (members_of (c# w) n)),
            each_words 2 (nodes_of (c# w) n) (omega arith, omega arith),
            pairs-length (members_of (c# w) n),
            layered.count,
            layered.many,
          )

      -- ALL ROWS HAVE JOINED
      pub rows-joined : {o m l k at : ℕ} {room₃ ys work' : List ℕ} → o ≡ circles# w → m ≡ m# w → l ≡ l# w → k ≡ made → length room₃ ≡ length room
          → room₃ ≡ header_of n c o m l k ++ drop 8 room₂ → at ≡ node_at_lem made
          → ys ≡ pairs_in (stretch work₂ 0 (3 * n)) ++ drop (2 * n) (mid_of at (length room₃ - at) room₃)
          → length work₂ ≡ length work → work' ≡ replicate (length work₂) 0
          → RowsJoin t c w room work (put_mid at (length room₃ - at) room₃ ys) work' made
      rows-joined {o} {m} {l} {k} {at} {room₃} {ys} eo em el ek same head place f half cleared =
          let z : 3 * n - 0 ≡ 3 * n = omega arith in
          let ns : List Node = nodes_of (c# w) n in
          let ps : List ℕ = each pair_words (members_of (c# w) n) in
          let pairs : pairs_in (stretch work₂ 0 (3 * n)) ≡ ps = ap (λ (k : ℕ). pairs_in (take k work₂)) z ∙ layered.pairs in
          let header : header_of n c o m l k ≡ header_of n c (circles# w) (m# w) (l# w) made = rw (eo, em, el, ek) refl in
          let long : node_at_lem made + 2 * n ≡ length (appended_rows t c w) = omega (arith, words_long) in
          record {
            index =
                framed room ns made layered.nodes layered.count (header_of n c (circles# w) (m# w) (l# w) made) refl ps (2 * n) few-nodes.2
                same (head ∙ ap (λ (x : List ℕ). x ++ drop 8 room₂) header) place
                (f ∙ ap (λ (x : List ℕ). x ++ drop (2 * n) (mid_of at (length room₃ - at) room₃)) pairs)
                ∙ ap₂ (λ (x : List ℕ) (k : ℕ). x ++ drop k room) words_are long;
            count = ap nodes# words_are;
            few = omega (arith, layered.few);
            long = words_long ∙ ap (λ (i : ℕ). 8 + 5 * made + 2 * i) rows;
            cleared = cleared ∙ ap (λ (i : ℕ). replicate i 0) half;
          }
