-- What the split of one tile's run asks, and what it leaves in room and workspace. Assumes nothing.
use Prim.Native.Nat.{◌*◌, ◌+◌, ◌<◌, ◌≤◌, ℕ}
use Rattle.growing.proofs.Rooms.{run-nodes}
use Rattle.growing.proofs.Tiles.{kids-few, kids-tiled, tile-inside, tile-read, tile-rows, tile-run, tile-words}
use Rattle.growing.specs.Levels.{leaf_node, placed}
use Rattle.growing.specs.Stages.{Fit, Openable, Opened, Tiled}
use Rattle.laws.specs.Lists.{each, joined}
use Rattle.measure.specs.Table.{between}
use Rattle.split.proofs.SplitRun.{split_all}
use Rattle.split.specs.Runs.{SplitAmong, Splittable, Splitted, laid, run_at, run_nodes}
use Rattle.tree.specs.Build.{split}
use Rattle.tree.specs.Encode.{node_words}
use Rattle.split.specs.Places.{count#, node_at_lem, start#}
use lib.ListN.{drop, length, length-append, length-set, set, take}
use mathlib.Core.List.{List, ◌++◌, ◌∷◌, map}
use mathlib.Core.Path.{◌∙◌, ◌≡◌, ap, ap₂, refl, sym}
use native.Mathlib.Omega.{arith}

-- there are centres, and a run of more than l rows has rows enough for them
centred : {t : List ℕ} {c m l n : ℕ} → Fit t c m l n → (run : List ℕ) → l < length run → (1 ≤ m) × (m ≤ length run)
centred fit run large = (omega (arith, fit.two), omega (arith, fit.leafy))

-- ---- a tile of more than l rows
module _ {t : List ℕ} {c o m l n : ℕ} (fit : Fit t c m l n) {work : List ℕ} (front : List (List ℕ)) (run : List ℕ) (back : List (List ℕ))
    (tiled : Tiled (between t c o) n work (front ++ run ∷ back)) (large : l < length run) where
  -- its run can be split, and there is room for its children's nodes
  pub tile-ready : {room : List ℕ} {made : ℕ} → 10 * n + 8 ≤ length room → made + 1 ≤ 2 * length (front ++ run ∷ back)
      → Splittable t c o m n room work (length (joined front)) (length run) made
  tile-ready space few =
      let read : run_at work (length (joined front)) (length run) ≡ run = tile-read front run back tiled in
      let rows = centred fit run large in
      record {
        columns = fit.columns;
        few = fit.rows;
        table = fit.table;
        share = rows.0;
        centred = rows.1;
        inside = tile-inside front run back tiled;
        halves = tiled.halves;
        nodes = omega (arith, kids-few front run back tiled m rows.0 rows.1, length-append front (run ∷ back), fit.two);
        known = tile-words front run back tiled ∙ ap (laid (between t c o)) (sym read);
        rows = rw read (tile-rows front run back tiled);
        once = rw read (tile-run front run back tiled).1;
      }

  -- ---- it is split
  module _ {room room' work' : List ℕ} {s count made : ℕ} (start : s ≡ length (joined front)) (size : count ≡ length run)
      (got : Splitted t c o m n room work s count made room' work') where
    -- the run that is read is the tile
    read : run_at work s count ≡ run
    read = rw (start, size) (tile-read front run back tiled)

    -- its children's runs take its place
    pub tiles-after : length work' ≡ length work → Tiled (between t c o) n work' (front ++ (split (between t c o) m run ++ back))
    tiles-after same =
        let rows = centred fit run large in
        kids-tiled front run back tiled m rows.0 rows.1 same (got.words ∙ rw (read, start, size))

    -- their nodes are in the room, no children yet
    pub nodes-after : {at : ℕ} → s ≡ at
        → room' ≡ take (node_at_lem made) room
        ++ (each (node_words 2) (map (leaf_node (between t c o) m l) (placed at (split (between t c o) m run))) ++ drop (node_at_lem (made + m)) room)
    nodes-after {at} here =
        let kids : List (List ℕ) = split (between t c o) m run in
        let around : List ℕ → List ℕ = λ x. take (node_at_lem made) room ++ (x ++ drop (node_at_lem (made + m)) room) in
        got.nodes ∙ ap₂ (λ (j : ℕ) (r : List ℕ). around (run_nodes (between t c o) j (split (between t c o) m r))) here read
        ∙ ap around (run-nodes (between t c o) m l at kids)

-- ---- a node of more than l rows is opened
module _ {t : List ℕ} {c o m l n : ℕ} {room work : List ℕ} {k made : ℕ} (asked : Openable t c o m l n room work k made)
    {s count : ℕ} (start : s ≡ start# room k) (size : count ≡ count# room k) (large : l < count) where
  -- once its first child's number is written, its run can be split as before
  pub open-ready : Splittable t c o m n (set room (node_at_lem k + 2) made) work s count made
  open-ready =
      let h = asked.ready (omega arith) in
      rw (start, size)
      record {
        columns = h.columns;
        few = h.few;
        table = h.table;
        share = h.share;
        centred = h.centred;
        inside = h.inside;
        halves = h.halves;
        nodes = rw length-set h.nodes;
        known = h.known;
        rows = h.rows;
        once = h.once;
      }

  -- its children are the nodes from `made` on
  pub open_done : {room' work' : List ℕ} → SplitAmong t c o m count n (set room (node_at_lem k + 2) made) work s count made room' work'
      → Opened t c o m l n room work k made room' work' (made + m)
  open_done got = record { stays = λ h. absurd (omega arith); splits = λ h. (refl, rw (start, size) at (split_all open-ready got)) }
