-- The tree that the levels make, and the words of the whole index. Assumes nothing.
use Prim.Native.Nat.{◌*◌, ◌+◌, ◌-◌, ◌≤◌, suc, zero, ℕ}
use Rattle.filling.proofs.Framed.{framed}
use Rattle.filling.proofs.Numbering.{numbered-levels}
use Rattle.filling.proofs.Positions.{entries-leaves, pairs-laid, pairs_of}
use Rattle.filling.specs.Filled.{Filled, Grown}
use Rattle.growing.proofs.Rooting.{root_run}
use Rattle.growing.specs.Levels.{all_nodes, leaves}
use Rattle.growing.specs.Rooted.{Layered, Room, root_item}
use Rattle.growing.specs.Stages.{Fit, with_nodes}
use Rattle.header_words.specs.Header.{header_of}
use Rattle.laws.proofs.Lists.{tally_length}
use Rattle.laws.proofs.Ranges.{range_length}
use Rattle.laws.specs.Lists.{each, range}
use Rattle.limits.specs.Limits.{max_depth}
use Rattle.measure.specs.Table.{between}
use Rattle.rounds.specs.Entries.{pairs_in}
use Rattle.rounds.specs.Stretch.{stretch}
use Rattle.split.specs.Places.{node_at_lem}
use Rattle.split.specs.Runs.{laid}
use Rattle.tree.proofs.Good.{pairs-length}
use Rattle.tree.proofs.Grow.{grown-tally}
use Rattle.tree.proofs.Written.{each_words}
use Rattle.tree.specs.Build.{plant}
use Rattle.tree.specs.Encode.{Node, broods, encode, family, level_nodes, node_words, nodes, numbered, pair_words}
use Rattle.tree.specs.Grove.{Grove, bare, entries, rows_in}
use borrow.Rule.Slice.PartMut.{mid_of, put_mid}
use lib.ListN.{drop, length, length-append, length-map, replicate, take, take-append-drop}
use mathlib.Core.Bool.{true}
use mathlib.Core.List.{List, [], ◌++◌, ◌∷◌, append-nil}
use mathlib.Core.Path.{◌∙◌, ◌≡◌, ap, ap₂, refl, sym}
use native.Mathlib.Nat.{add-zero}
use native.Mathlib.Omega.{arith}

-- 8 + 5N + 2n words, whatever the tree
pub encode-words : (c o m l : ℕ) (g : Grove) → length (encode 2 c o m l g) ≡ node_at_lem (length (numbered g)) + 2 * length (entries g)
unfolding encode
encode-words c o m l g =
    omega (
      arith,
      length-append (each (node_words 2) (numbered g)) (each pair_words (entries g)),
      each_words 2 (numbered g) (omega arith, omega arith),
      pairs-length (entries g),
    )

-- ---- how much room there is
-- for the positions behind at most 2n nodes
pub positions_fit : {t : List ℕ} {c m l n : ℕ} {room work : List ℕ} → Room t c m l n room work → (made : ℕ) → made ≤ 2 * n
    → node_at_lem made + 2 * n ≤ length room
positions_fit asked made few = omega (arith, asked.space)

-- ---- the tree of n rows
module _ (d : ℕ → ℕ → ℕ) (m l : ℕ) (m1 : 1 ≤ m) (ml : m ≤ l) where
  -- as many positions as rows
  pub positions : (n : ℕ) → length (entries (plant d m l n)) ≡ n
  positions zero = refl
  positions (suc n) =
      let t : Grove = plant d m l (suc n) in
      sym (length-map (entries t) (λ e. e.0)) ∙ sym (tally_length (rows_in t))
      ∙ grown-tally d m l m1 ml max_depth (λ i. true) (range 0 (suc n)) bare (root_run (suc n) (omega arith)) ∙ add-zero _
      ∙ tally_length (range 0 (suc n)) ∙ range_length 0 (suc n)

  -- its nodes are those of all levels
  plant-nodes : (n : ℕ) → 1 ≤ n → all_nodes d m l max_depth 1 (root_item n ∷ []) ≡ numbered (plant d m l n)
  plant-nodes zero h = absurd (omega arith)
  plant-nodes (suc n) h = sym (numbered-levels d m l m1 ml (range 0 (suc n)) (root_run (suc n) h))

  -- its positions are those of all leaves
  plant-pairs : (n : ℕ) → 1 ≤ n → pairs_in (each (laid d) (leaves d m l max_depth (range 0 n))) ≡ each pair_words (entries (plant d m l n))
  plant-pairs zero h = absurd (omega arith)
  plant-pairs (suc n) h =
      let ls : List (List ℕ) = leaves d m l max_depth (range 0 (suc n)) in
      pairs-laid d ls ∙ ap (each pair_words) (sym (entries-leaves d m l max_depth (range 0 (suc n)) bare ∙ append-nil (each (pairs_of d) ls)))

module _ {t : List ℕ} {c m l n : ℕ} (fit : Fit t c m l n) where
  -- there are centres
  one : 1 ≤ m
  one = omega (arith, fit.two)

  -- its index has 8 + 5N + 2n words
  pub encode-long : (o : ℕ) {made : ℕ} → made ≡ length (numbered (plant (between t c o) m l n))
      → length (encode 2 c o m l (plant (between t c o) m l n)) ≡ node_at_lem made + 2 * n
  encode-long o k =
      encode-words c o m l (plant (between t c o) m l n)
      ∙ ap₂ (λ (i j : ℕ). node_at_lem i + 2 * j) (sym k) (positions (between t c o) m l one fit.leafy n)

  -- THE LEVELS ARE THE TREE OF 01
  pub grown-levels : {o : ℕ} {origin room work : List ℕ} {made : ℕ} → 1 ≤ n → Layered (between t c o) m l n origin room work made
      → Grown t c o m l n origin room work made
  grown-levels {o} {origin} some s =
      let e = plant-nodes (between t c o) m l one fit.leafy n some in
      record {
        nodes = s.nodes ∙ ap (with_nodes origin) e;
        count = s.count ∙ ap length e;
        few = s.few;
        pairs = ap pairs_in s.tiles ∙ plant-pairs (between t c o) m l one fit.leafy n some;
      }

-- a table of no rows has no nodes
pub grown-none : {t : List ℕ} {c o m l n : ℕ} {origin work : List ℕ} → n ≡ 0 → Grown t c o m l n origin origin work 0
unfolding numbered nodes level_nodes family broods pairs_in
grown-none {origin = origin} e = rw e record { nodes = sym (take-append-drop 8 origin); count = refl; few = omega arith; pairs = refl }

-- ---- the header before the nodes, the positions behind them
module _ {t : List ℕ} {c o m l n : ℕ} {origin work₀ : List ℕ} (asked : Room t c m l n origin work₀) {room work : List ℕ} {made : ℕ}
    (grown : Grown t c o m l n origin room work made) where
  -- the numbers fit
  fit : Fit t c m l n
  fit = asked.fit

  -- the tree of 01
  abbrev tree : Grove
  tree = plant (between t c o) m l n

  -- its nodes, in number order
  abbrev ns : List Node
  ns = numbered tree

  -- header, nodes and positions are the words of 01
  words_are : header_of n c o m l made ++ (each (node_words 2) ns ++ each pair_words (entries tree)) ≡ encode 2 c o m l tree
  unfolding encode
  words_are =
      ap₂ (λ (i j : ℕ). header_of i c o m l j ++ (each (node_words 2) ns ++ each pair_words (entries tree)))
      (sym (positions (between t c o) m l (one fit) fit.leafy n)) grown.count

  -- THE WHOLE INDEX STANDS IN THE ROOM
  pub filled : {room₂ ys work' : List ℕ} {at : ℕ} → length room₂ ≡ length origin → room₂ ≡ header_of n c o m l made ++ drop 8 room → at ≡ node_at_lem made
      → ys ≡ pairs_in (stretch work 0 (3 * n)) ++ drop (2 * n) (mid_of at (length room₂ - at) room₂)
      → length work ≡ 6 * n → work' ≡ replicate (length work) 0
      → Filled t c o m l n origin (put_mid at (length room₂ - at) room₂ ys) work' made
  filled {room₂} {ys} {at = at} same q place f half cleared =
      let z : 3 * n - 0 ≡ 3 * n = omega arith in
      let pairs : pairs_in (stretch work 0 (3 * n)) ≡ each pair_words (entries tree) = ap (λ (k : ℕ). pairs_in (take k work)) z ∙ grown.pairs in
      record {
        index =
            framed origin ns made grown.nodes grown.count (header_of n c o m l made) refl (each pair_words (entries tree)) (2 * n)
            (positions_fit asked made grown.few) same q place
            (f ∙ ap (λ (x : List ℕ). x ++ drop (2 * n) (mid_of at (length room₂ - at) room₂)) pairs)
            ∙ ap₂ (λ (x : List ℕ) (k : ℕ). x ++ drop k origin) words_are (sym (encode-long fit o grown.count));
        count = grown.count;
        few = grown.few;
        cleared = cleared ∙ ap (λ (k : ℕ). replicate k 0) half;
      }
