-- A level while its nodes are opened, one after the other: what stands in room and workspace, and one node among the others. Assumes nothing.
use Prim.Native.Nat.{◌*◌, ◌+◌, ◌≤◌, ℕ}
use Rattle.growing.proofs.Items.{next_small, out_long, out-small}
use Rattle.growing.proofs.Rooms.{read_count, read-start, room-long}
use Rattle.growing.proofs.Tiles.{runs_few}
use Rattle.growing.specs.Levels.{Item, leaf_node, level_out_lem, next_level, opened, placed, waits}
use Rattle.growing.specs.Stages.{Level, Tiled, with_nodes}
use Rattle.laws.specs.Lists.{each, joined, keep}
use Rattle.measure.specs.Table.{between}
use Rattle.tree.specs.Build.{reach}
use Rattle.tree.specs.Encode.{Node}
use Rattle.split.specs.Places.{count#, node_at_lem, start#}
use lib.Dec.{leb}
use lib.ListN.{length, length-append, length-map}
use mathlib.Core.Bool.{Bool, cond, not, true}
use mathlib.Core.List.{List, [], ◌++◌, ◌∷◌, append_assoc, map}
use mathlib.Core.Path.{◌∙◌, ◌≡◌, ap, ap₂, sym}
use native.Mathlib.Omega.{arith}

module _ {t : List ℕ} {c o m l n : ℕ} {room₀ work₀ : List ℕ} {lo hi : ℕ} (g : Level t c o m l n room₀ work₀ lo hi) where
  -- the nodes of the levels above and of the items that are opened
  abbrev pub fore : List Item → List Node
  fore done = g.before ++ level_out_lem (between t c o) m l hi done

  -- the nodes of the items that are not, and of the children there are
  abbrev pub rear : List Item → List Item → List Node
  rear done todo = map (leaf_node (between t c o) m l) todo ++ map (leaf_node (between t c o) m l) (next_level (between t c o) m l done)

  -- `done` are opened and `todo` are not; the tiles `past` gave way to their children's, `ahead` did not
  pub record Half (done todo : List Item) (past ahead : List (List ℕ)) (room work : List ℕ) (made k : ℕ) : Type 0 where
    pub all : g.items ≡ done ++ todo
    pub runs : g.tiles ≡ past ++ ahead
    pub nodes : room ≡ with_nodes g.origin (fore done ++ rear done todo)
    pub count : made ≡ hi + length (next_level (between t c o) m l done)
    pub here : k ≡ length g.before + length done
    pub tiled : Tiled (between t c o) n work (each (opened (between t c o) m l) past ++ ahead)
    pub wait : keep (waits l) todo ≡ keep (waits l) (placed (length (joined (each (opened (between t c o) m l) past))) ahead)
    pub few : made + 1 ≤ 2 * length (each (opened (between t c o) m l) past ++ ahead)

  -- the nodes before k are opened
  pub record Levelling (room work : List ℕ) (made k : ℕ) : Type 0 where
    pub done : List Item
    pub todo : List Item
    pub past : List (List ℕ)
    pub ahead : List (List ℕ)
    pub half : Half done todo past ahead room work made k

  -- a node that is split has a child
  pub one : 1 ≤ m
  one = omega (arith, g.fit.two)

  -- ---- one node more is opened, and its words are x
  pub fore-more : (done : List Item) (q : Item) (x : Node) (ns : List Node)
      → level_out_lem (between t c o) m l hi (done ++ q ∷ []) ≡ level_out_lem (between t c o) m l hi done ++ x ∷ []
      → fore done ++ x ∷ ns ≡ fore (done ++ q ∷ []) ++ ns
  fore-more done q x ns e =
      sym (append_assoc (fore done) (x ∷ []) ns)
      ∙ ap (λ (y : List Node). y ++ ns)
      (append_assoc g.before (level_out_lem (between t c o) m l hi done) (x ∷ []) ∙ ap (λ (y : List Node). g.before ++ y) (sym e))

  -- ---- the node of item q, which is the next
  module _ {done : List Item} {q : Item} {rest : List Item} {past ahead : List (List ℕ)} {room work : List ℕ} {made k : ℕ}
      (half : Half done (q ∷ rest) past ahead room work made k) where
    -- how far two rows are apart
    abbrev d : ℕ → ℕ → ℕ
    d = between t c o

    -- k nodes stand before it
    pub fore-long : length (fore done) ≡ k
    fore-long = length-append g.before (level_out_lem d m l hi done) ∙ omega (arith, out_long d m l hi done, half.here)

    -- and as many behind it as items wait and as children there are
    rear-long : length (rear done rest) ≡ length rest + length (next_level d m l done)
    rear-long =
        length-append (map (leaf_node d m l) rest) (map (leaf_node d m l) (next_level d m l done))
        ∙ ap₂ ◌+◌ (length-map rest (leaf_node d m l)) (length-map (next_level d m l done) (leaf_node d m l))

    -- the level's items: those done, this one, and the rest
    pub items_long : length g.items ≡ length done + (1 + length rest)
    items_long = ap length half.all ∙ length-append done (q ∷ rest) ∙ omega arith

    -- `made` nodes in all, whatever its words are
    pub all-long : (x : Node) → length (fore done ++ x ∷ rear done rest) ≡ made
    all-long x =
        length-append (fore done) (x ∷ rear done rest) ∙ omega (arith, fore-long, rear-long, items_long, half.count, half.here, g.stage.last)

    -- fewer than 2n
    pub made-few : made + 1 ≤ 2 * n
    made-few = omega (arith, half.few, runs_few (each (opened d m l) past ++ ahead) half.tiled.runs, half.tiled.full)

    -- there is room for a header
    pub header-fits : 8 ≤ length g.origin
    header-fits = omega (arith, g.stage.space)

    -- the room is as long as it was
    pub long : length room ≡ length g.origin
    long =
        let ns : List Node = fore done ++ rear done (q ∷ rest) in
        let fits : node_at_lem (length ns) ≤ length g.origin = omega (arith, all-long (leaf_node d m l q), made-few, g.stage.space) in
        ap length half.nodes ∙ room-long g.origin header-fits ns fits

    -- its start is read
    pub start_is : start# room k ≡ q.0
    start_is =
        ap₂ start# half.nodes (sym fore-long)
        ∙ read-start g.origin header-fits (fore done) q.0 (length q.1) 0 (reach d q.1) (rear done rest)

    -- and its count
    pub count-is : count# room k ≡ length q.1
    count-is =
        ap₂ count# half.nodes (sym fore-long)
        ∙ read_count g.origin header-fits (fore done) q.0 (length q.1) 0 (reach d q.1) (rear done rest)

    -- ---- it has at most l rows, and stays a leaf
    pub half-small : leb (length q.1) l ≡ true → Half (done ++ q ∷ []) rest past ahead room work made (k + 1)
    half-small e =
        let next = next_small d m l done q e in
        record {
          all = half.all ∙ sym (append_assoc done (q ∷ []) rest);
          runs = half.runs;
          nodes =
              half.nodes
              ∙ ap (with_nodes g.origin) (fore-more done q (leaf_node d m l q) (rear done rest) (out-small d m l one g.fit.leafy hi done q e)
              ∙ ap (λ (y : List Item). fore (done ++ q ∷ []) ++ (map (leaf_node d m l) rest ++ map (leaf_node d m l) y)) (sym next));
          count = half.count ∙ ap (λ (x : List Item). hi + length x) (sym next);
          here = omega (arith, half.here, length-append done (q ∷ []));
          tiled = half.tiled;
          wait = sym (ap (λ (b : Bool). cond (not b) (q ∷ keep (waits l) rest) (keep (waits l) rest)) e) ∙ half.wait;
          few = half.few;
        }
