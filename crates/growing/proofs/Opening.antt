-- The next node of a level is opened: it stays a leaf, or its run is split and its children stand behind the last node. Assumes nothing.
use Prim.Native.Nat.{◌*◌, ◌+◌, ◌<◌, ◌≤◌, ℕ}
use Rattle.growing.proofs.Halfway.{Half, Levelling, all-long, count-is, fore, fore-long, fore-more, half-small, header-fits, items_long, long, made-few, one, rear, start_is}
use Rattle.growing.proofs.Items.{next-large, out-large, placed_long}
use Rattle.growing.proofs.Rooms.{child-set, nodes-added}
use Rattle.growing.proofs.Splits.{nodes-after, tile-ready, tiles-after}
use Rattle.growing.proofs.Tiles.{joined_append, tile-run}
use Rattle.growing.proofs.Waiting.{Next, next-waiting, small-opened}
use Rattle.growing.specs.Levels.{Item, leaf_node, level_out_lem, next_level, opened, placed, waits}
use Rattle.growing.specs.Stages.{Level, Openable, Opened, Tiled, with_nodes}
use Rattle.laws.proofs.Joins.{each_append}
use Rattle.laws.proofs.Lists.{map-append}
use Rattle.laws.specs.Lists.{each, joined, keep}
use Rattle.measure.specs.Table.{between}
use Rattle.split.proofs.Laid.{split-joined}
use Rattle.split.specs.Runs.{Splittable, Splitted}
use Rattle.tree.proofs.Grow.{split-length}
use Rattle.tree.specs.Build.{reach, split}
use Rattle.tree.specs.Encode.{Node}
use Rattle.split.specs.Places.{count#, node_at_lem, start#}
use borrow.Author.Tests.{leb-false, leb-true, lt-leb}
use lib.Dec.{leb}
use lib.ListN.{length, length-append, length-map, set}
use mathlib.Core.Bool.{Bool, cond, false, not, true}
use mathlib.Core.List.{List, [], ◌++◌, ◌∷◌, append_assoc, append-nil, map}
use mathlib.Core.Path.{◌∙◌, ◌≡◌, ap, ap₂, refl, subst, sym}
use native.Mathlib.Omega.{arith}

module _ {t : List ℕ} {c o m l n : ℕ} {room₀ work₀ : List ℕ} {lo hi : ℕ} (g : Level t c o m l n room₀ work₀ lo hi)
    {done : List Item} {q : Item} {rest : List Item} {past ahead : List (List ℕ)} {room work : List ℕ} {made k : ℕ}
    (half : Half g done (q ∷ rest) past ahead room work made k) where
  -- how far two rows are apart
  abbrev d : ℕ → ℕ → ℕ
  d = between t c o

  -- ---- it has more than l rows
  module _ (large : leb (length q.1) l ≡ false) where
    -- more than l rows, as numbers
    large_is : l < length q.1
    large_is = leb-false (length q.1) l large

    -- the tiles that the items before it left
    gone : List (List ℕ)
    gone = each (opened d m l) past

    -- it is the next tile that waits
    next : Next l (length (joined gone)) ahead q (keep (waits l) rest)
    unfolding gone
    next =
        next-waiting l (length (joined gone)) ahead q (keep (waits l) rest)
        (sym (ap (λ (b : Bool). cond (not b) (q ∷ keep (waits l) rest) (keep (waits l) rest)) large) ∙ half.wait)

    -- the tiles before its run
    front : List (List ℕ)
    front = gone ++ next.front

    -- the tiles, cut before its run and behind it
    tiles-cut : gone ++ ahead ≡ front ++ q.1 ∷ next.back
    unfolding front
    tiles-cut = ap (λ (x : List (List ℕ)). gone ++ x) next.cut ∙ sym (append_assoc gone next.front (q.1 ∷ next.back))

    -- so cut they tile the workspace
    tiled-cut : Tiled d n work (front ++ q.1 ∷ next.back)
    unfolding gone
    tiled-cut = subst (Tiled d n work) tiles-cut half.tiled

    -- and there are few nodes to them
    few-cut : made + 1 ≤ 2 * length (front ++ q.1 ∷ next.back)
    unfolding gone
    few-cut = subst (λ (x : List (List ℕ)). made + 1 ≤ 2 * length x) tiles-cut half.few

    -- its run starts behind them
    start-at : start# room k ≡ length (joined front)
    unfolding front
    start-at = start_is g half ∙ next.place ∙ sym (joined_append gone next.front)

    -- it can be split
    half-ready : Splittable t c o m n room work (start# room k) (count# room k) made
    half-ready =
        rw (start-at, count-is g half)
        (tile-ready g.fit front q.1 next.back tiled-cut large_is (omega (arith, long g half, g.stage.space)) few-cut)

    -- ---- its run is split
    module _ {room' work' : List ℕ} (same : length work' ≡ length work)
        (got : Splitted t c o m n (set room (node_at_lem k + 2) made) work (start# room k) (count# room k) made room' work') where
      -- its children's runs
      kids : List (List ℕ)
      kids = split d m q.1

      -- m of them
      kids_many : length kids ≡ m
      unfolding kids
      kids_many = split-length d m l (one g) g.fit.leafy q.1

      -- the tiles that gave way by now
      past' : List (List ℕ)
      past' = past ++ (next.front ++ q.1 ∷ [])

      -- and those that did not
      past-cut : g.tiles ≡ past' ++ next.back
      unfolding past'
      past-cut =
          half.runs ∙ ap (λ (x : List (List ℕ)). past ++ x) (next.cut ∙ sym (append_assoc next.front (q.1 ∷ []) next.back))
          ∙ sym (append_assoc past (next.front ++ q.1 ∷ []) next.back)

      -- they gave way to its children's runs, behind the tiles that were there
      opened-is : each (opened d m l) past' ≡ front ++ kids
      unfolding past' front gone kids
      opened-is =
          each_append (opened d m l) past (next.front ++ q.1 ∷ [])
          ∙ ap (λ (x : List (List ℕ)). gone ++ x) (each_append (opened d m l) next.front (q.1 ∷ [])
          ∙ ap₂ (λ (x y : List (List ℕ)). x ++ y) (small-opened d m l next.front next.small)
          (append-nil (opened d m l q.1) ∙ ap (λ (b : Bool). cond b (q.1 ∷ []) (split d m q.1)) large))
          ∙ sym (append_assoc gone next.front kids)

      -- the tiles then
      tiles-is : each (opened d m l) past' ++ next.back ≡ front ++ (kids ++ next.back)
      tiles-is = ap (λ (x : List (List ℕ)). x ++ next.back) opened-is ∙ append_assoc front kids next.back

      -- they tile the workspace
      tiled' : Tiled d n work' (front ++ (kids ++ next.back))
      unfolding kids
      tiled' = tiles-after g.fit front q.1 next.back tiled-cut large_is start-at (count-is g half) got same

      -- there are m - 1 more
      tiles-long : length (front ++ (kids ++ next.back)) ≡ length front + m + length next.back
      tiles-long = length-append front (kids ++ next.back) ∙ omega (arith, length-append kids next.back, kids_many)

      -- the next item stands behind the rows of its run
      next-at : length (joined gone) + length (joined next.front) + length q.1 ≡ length (joined (each (opened d m l) past'))
      unfolding front kids
      next-at =
          let run = tile-run front q.1 next.back tiled-cut in
          let rows : length (joined kids) ≡ length q.1 = split-joined d m q.1 (one g) (omega (arith, g.fit.leafy, large_is)) run in
          sym (ap (λ (x : List (List ℕ)). length (joined x)) opened-is ∙ joined_append front kids ∙ ap₂ ◌+◌ (joined_append gone next.front) rows)

      -- ---- its node has its first child's number
      node : Node
      node = (q.0, length q.1, made, reach d q.1)

      -- the nodes then
      abbrev nodes : List Node
      nodes = fore g done ++ node ∷ rear g done rest

      -- that number is written
      set_is : set room (node_at_lem k + 2) made ≡ with_nodes g.origin nodes
      unfolding node
      set_is =
          ap₂ (λ (x : List ℕ) (j : ℕ). set x (node_at_lem j + 2) made) half.nodes (sym (fore-long g half))
          ∙ child-set g.origin (header-fits g half) (fore g done) q.0 (length q.1) 0 (reach d q.1) (rear g done rest) made

      -- ---- its children
      -- their items
      abbrev items : List Item
      items = placed q.0 (split d m q.1)

      -- m of them
      items-many : length items ≡ m
      unfolding kids
      items-many = placed_long q.0 (split d m q.1) ∙ kids_many

      -- their nodes
      abbrev new : List Node
      new = map (leaf_node d m l) items

      -- the nodes are written behind the last
      room_is : room' ≡ with_nodes g.origin (nodes ++ new)
      room_is =
          nodes-added g.origin (header-fits g half) nodes new made m (all-long g half node) (length-map items (leaf_node d m l) ∙ items-many) set_is
          (nodes-after g.fit front q.1 next.back tiled-cut large_is start-at (count-is g half) got (start_is g half))

      -- its children's items stand last on the level below
      next-is : next_level d m l (done ++ q ∷ []) ≡ next_level d m l done ++ items
      next-is = next-large d m l done q large

      -- m more than there were
      next-many : length (next_level d m l (done ++ q ∷ [])) ≡ length (next_level d m l done) + m
      next-many = ap length next-is ∙ length-append (next_level d m l done) items ∙ ap (λ (j : ℕ). length (next_level d m l done) + j) items-many

      -- and its node last among those that are opened
      out-is : level_out_lem d m l hi (done ++ q ∷ []) ≡ level_out_lem d m l hi done ++ node ∷ []
      unfolding node
      out-is =
          out-large d m l (one g) g.fit.leafy hi done q large
          ∙ ap (λ (j : ℕ). level_out_lem d m l hi done ++ (q.0, length q.1, j, reach d q.1) ∷ []) (sym half.count)

      -- so that the nodes are those of the level with one item more opened
      nodes_are : nodes ++ new ≡ fore g (done ++ q ∷ []) ++ rear g (done ++ q ∷ []) rest
      nodes_are =
          let R : List Node = map (leaf_node d m l) rest in
          let M : List Node = map (leaf_node d m l) (next_level d m l done) in
          let more : M ++ new ≡ map (leaf_node d m l) (next_level d m l (done ++ q ∷ [])) =
          sym (map-append (leaf_node d m l) (next_level d m l done) items) ∙ ap (map (leaf_node d m l)) (sym next-is) in
          append_assoc (fore g done) (node ∷ rear g done rest) new ∙ fore-more g done q node (rear g done rest ++ new) out-is
          ∙ ap (λ (x : List Node). fore g (done ++ q ∷ []) ++ x) (append_assoc R M new ∙ ap (λ (x : List Node). R ++ x) more)

      -- it is opened
      half-large : {r : ℕ} → r ≡ made + m → Half g (done ++ q ∷ []) rest past' next.back room' work' r (k + 1)
      half-large {r} e =
          record {
            all = half.all ∙ sym (append_assoc done (q ∷ []) rest);
            runs = past-cut;
            nodes = room_is ∙ ap (with_nodes g.origin) nodes_are;
            count = omega (arith, e, half.count, next-many);
            here = omega (arith, half.here, length-append done (q ∷ []));
            tiled = subst (Tiled d n work') (sym tiles-is) tiled';
            wait = next.later ∙ ap (λ (j : ℕ). keep (waits l) (placed j next.back)) next-at;
            few = subst (λ (x : List (List ℕ)). r + 1 ≤ 2 * length x) (sym tiles-is)
                (omega (arith, tiles-long, few-cut, length-append front (q.1 ∷ next.back), g.fit.two));
          }

  -- ---- either way
  -- what opening it asks
  pub half-open : Openable t c o m l n room work k made
  half-open =
      record {
        old = omega (arith, half.count, half.here, items_long g half, g.stage.last);
        small = omega (arith, made-few g half, g.fit.rows);
        centres = g.fit.most;
        there = omega (arith, made-few g half, long g half, g.stage.space);
        ready = λ h. half-ready (lt-leb (length q.1) l (omega (arith, count-is g half)));
      }

  -- what it leaves
  pub half_step : {room' work' : List ℕ} {r : ℕ} → length work' ≡ length work → Opened t c o m l n room work k made room' work' r
      → Levelling g room' work' r (k + 1)
  half_step {room'} {work'} {r} same got = go (leb (length q.1) l) refl
    where
      go : (b : Bool) → leb (length q.1) l ≡ b → Levelling g room' work' r (k + 1)
      go true e =
          let s = got.stays (omega (arith, count-is g half, leb-true (length q.1) l e)) in
          rw (s.0, s.1, s.2) record { done = done ++ q ∷ []; todo = rest; past = past; ahead = ahead; half = half-small g half e }
      go false e =
          let s = got.splits (omega (arith, count-is g half, leb-false (length q.1) l e)) in
          record { done = done ++ q ∷ []; todo = rest; past = past' e same s.1; ahead = (next e).back; half = half-large e same s.1 s.0 }
