-- A piece that waits: its node is read in the room, its words in the workspace, and what is left where it stays or is opened. Assumes nothing.
use Prim.Native.Nat.{◌*◌, ◌+◌, ◌-◌, ◌≤◌, ℕ}
use Rattle.appending.specs.Append.{orderly}
use Rattle.dealing.proofs.Children.{stand_last}
use Rattle.dealing.specs.Pending.{StandAll, pend_of, reach_of, size_of}
use Rattle.growing.proofs.Rooms.{child-set, nodes-added, read-child, read_count, read-start, room-long}
use Rattle.growing.specs.Stages.{with_nodes}
use Rattle.laws.proofs.Joins.{part-one, part-three, part-two}
use Rattle.lodging.specs.Standing.{Stands, mark_of}
use Rattle.measure.specs.Table.{between}
use Rattle.opening.specs.Opened.{PieceOpened, Replaced, Waiting}
use Rattle.opening.specs.Sound.{waits}
use Rattle.rounds.specs.Stretch.{stretch}
use Rattle.split.specs.Places.{child#, count#, node_at_lem, start#}
use Rattle.split.specs.Runs.{laid}
use Rattle.swelling.specs.Pieces.{Piece, grown, grown_from, old, opens, settled, start_of, waiting}
use Rattle.swelling.specs.Swell.{parts}
use Rattle.tree.specs.Encode.{Node}
use Rattle.words.specs.Words.{c#, circles#, l#, m#}
use lib.Dec.{T, leb}
use lib.ListN.{drop, length, length-append, length-map, length-set, set, take}
use lib.Seq.{length-take-le}
use mathlib.Core.Bool.{Bool, ◌||◌, cond, false, not, true}
use mathlib.Core.List.{List, [], ◌++◌, ◌∷◌, append_assoc, append-nil, map}
use mathlib.Core.Path.{◌∙◌, ◌≡◌, ap, ap₂, refl, subst, sym}
use native.Mathlib.Omega.{arith}

-- ---- a leaf
-- it is opened into nothing
pub leaf_opens : (d : ℕ → ℕ → ℕ) (w : List ℕ) (q : Piece) → waits w q ≡ false → opens d w q ≡ []
leaf_opens d w (old s o zs) e = absurd (subst T e tt)
leaf_opens d w (settled s R es) e = refl
leaf_opens d w (grown s R run) e = go (leb (length run) (l# w)) e
  where
    go : (b : Bool) → not b ≡ false → cond b [] (grown_from d s (parts d (m# w) (l# w) run)) ≡ []
    go true e = refl
    go false e = absurd (subst T e tt)

-- it stands alike on any level
pub leaf_stands : (t w : List ℕ) (a b : Bool) (q : Piece) (ws : List ℕ) → waits w q ≡ false → Stands t (c# w) w a q ws → Stands t (c# w) w b q ws
leaf_stands t w a b (old s o zs) ws e h = absurd (subst T e tt)
leaf_stands t w a b (settled s R es) ws e h = h
leaf_stands t w a b (grown s R run) ws e h = h ∙ ap (laid (between t (c# w) (circles# w))) (go (leb (length run) (l# w)) e a b)
  where
    go : (z : Bool) → not z ≡ false → (a b : Bool) → cond (a || z) run (orderly run) ≡ cond (b || z) run (orderly run)
    go false e a b = absurd (subst T e tt)
    go true e true true = refl
    go true e true false = refl
    go true e false true = refl
    go true e false false = refl

module _ {t w : List ℕ} {n deep : ℕ} {q : Piece} {origin : List ℕ} {fore rear : List Node} {lead ws tail room work : List ℕ} {k made : ℕ}
    (g : Waiting t w n deep q origin fore rear lead ws tail room work k made) where
  -- how far two rows are apart
  abbrev d : ℕ → ℕ → ℕ
  d = between t (c# w) (circles# w)

  -- ---- its node
  -- there is room for a header
  eight : 8 ≤ length origin
  eight = omega (arith, g.there)

  -- all nodes are so many, whatever its own is
  all-long : (x : Node) → length (fore ++ x ∷ rear) ≡ made
  all-long x = length-append fore (x ∷ rear) ∙ omega (arith, g.all)

  -- the room is as long as it was
  pub room-wide : length room ≡ length origin
  room-wide =
      ap length g.nodes
      ∙ room-long origin eight (fore ++ pend_of t w false q ∷ rear) (omega (arith, all-long (pend_of t w false q), g.there))

  -- its words are there
  pub node-fits : node_at_lem k + 5 ≤ length room
  node-fits = omega (arith, room-wide, g.there, g.all, g.here)

  -- its start is read
  pub start_is : start# room k ≡ start_of q
  start_is =
      ap₂ start# g.nodes g.here ∙ read-start origin eight fore (start_of q) (size_of w q) (mark_of t (c# w) w false q) (reach_of t w q) rear

  -- its count
  pub count-is : count# room k ≡ size_of w q
  count-is =
      ap₂ count# g.nodes g.here ∙ read_count origin eight fore (start_of q) (size_of w q) (mark_of t (c# w) w false q) (reach_of t w q) rear

  -- its mark
  pub mark-is : child# room k ≡ mark_of t (c# w) w false q
  mark-is =
      ap₂ child# g.nodes g.here ∙ read-child origin eight fore (start_of q) (size_of w q) (mark_of t (c# w) w false q) (reach_of t w q) rear

  -- its first child's number is written
  pub child-is : (y : ℕ) → set room (node_at_lem k + 2) y ≡ with_nodes origin (fore ++ (start_of q, size_of w q, y, reach_of t w q) ∷ rear)
  child-is y =
      ap₂ (λ (x : List ℕ) (j : ℕ). set x (node_at_lem j + 2) y) g.nodes g.here
      ∙ child-set origin eight fore (start_of q) (size_of w q) (mark_of t (c# w) w false q) (reach_of t w q) rear y

  -- ---- its words
  -- the words before it, its own and those behind it are 3n
  whole : 3 * start_of q + (3 * size_of w q + length tail) ≡ 3 * n
  whole =
      omega (
        arith,
        ap length g.words,
        length-append lead (ws ++ tail),
        length-append ws tail,
        g.place,
        g.size,
        length-take-le (3 * n) work (omega (arith, g.halves)),
      )

  -- it ends among the n positions
  pub inside_is : start_of q + size_of w q ≤ n
  inside_is = omega (arith, whole)

  -- what stands before it
  lead_is : take (3 * start_of q) work ≡ lead
  lead_is = part-one work lead ws tail (3 * n) (3 * start_of q) (3 * size_of w q) g.words g.place g.size

  -- its own words
  pub own_is : stretch work (3 * start_of q) (3 * start_of q + 3 * size_of w q) ≡ ws
  own_is =
      let k : 3 * start_of q + 3 * size_of w q - 3 * start_of q ≡ 3 * size_of w q = omega arith in
      ap (λ (i : ℕ). take i (drop (3 * start_of q) work)) k
      ∙ part-two work lead ws tail (3 * n) (3 * start_of q) (3 * size_of w q) g.words g.place g.size

  -- what stands behind it
  tail-is : stretch work (3 * start_of q + 3 * size_of w q) (3 * n) ≡ tail
  tail-is =
      let k : 3 * n - (3 * start_of q + 3 * size_of w q) ≡ length tail = omega (arith, whole) in
      ap (λ (i : ℕ). take i (drop (3 * start_of q + 3 * size_of w q) work)) k
      ∙ part-three work lead ws tail (3 * n) (3 * start_of q) (3 * size_of w q) g.words g.place g.size (length tail) refl

  -- ---- it stays a leaf
  pub stays-done : waits w q ≡ false → (last : Bool) {room' : List ℕ}
      → room' ≡ with_nodes origin (fore ++ waiting (between t (c# w) (circles# w)) w q made ∷ rear)
      → PieceOpened t w n last q origin fore rear lead tail made room' work made
  stays-done e last r =
      let none : opens d w q ≡ [] = leaf_opens d w q e in
      let z : made ≡ made + 0 = omega arith in
      record {
        count = z ∙ ap (λ (x : List Piece). made + length x) (sym none);
        nodes =
            r
            ∙ ap (λ (x : List Node). with_nodes origin (fore ++ waiting d w q made ∷ x))
            (sym (ap (λ (x : List Piece). rear ++ map (pend_of t w last) x) none ∙ append-nil rear));
        part = ws;
        stand =
            subst (λ (b : Bool). StandAll t w last (cond b (opens d w q) (q ∷ [])) ws) (sym e)
            (stand_last t w last [] q [] ws refl g.size (leaf_stands t w false last q ws e g.stands));
        words = g.words;
      }

  -- ---- it is opened
  -- once its first child's number is written, there is as much room
  pub space-is : waits w q ≡ true → (y : ℕ) → node_at_lem (made + m# w) ≤ length (set room (node_at_lem k + 2) y)
  space-is e y = omega (arith, length-set room (node_at_lem k + 2) y, room-wide, g.space e)

  pub opens-done : waits w q ≡ true → waiting (between t (c# w) (circles# w)) w q made ≡ (start_of q, size_of w q, made, reach_of t w q)
      → length (opens (between t (c# w) (circles# w)) w q) ≡ m# w → {last : Bool} {room' work' : List ℕ}
      → Replaced t w n last (opens (between t (c# w) (circles# w)) w q) (set room (node_at_lem k + 2) made) work (start_of q) (size_of w q) made room' work'
      → PieceOpened t w n last q origin fore rear lead tail made room' work' (made + m# w)
  opens-done e same many {last} got =
      let x : Node = (start_of q, size_of w q, made, reach_of t w q) in
      let new : List Node = map (pend_of t w last) (opens d w q) in
      record {
        count = ap (λ (i : ℕ). made + i) (sym many);
        nodes =
            nodes-added origin eight (fore ++ x ∷ rear) new made (m# w) (all-long x) (length-map (opens d w q) (pend_of t w last) ∙ many)
            (child-is made)
            got.nodes
            ∙ ap (with_nodes origin) (append_assoc fore (x ∷ rear) new ∙ ap (λ (y : Node). fore ++ y ∷ (rear ++ new)) (sym same));
        part = got.part;
        stand = subst (λ (b : Bool). StandAll t w last (cond b (opens d w q) (q ∷ [])) got.part) (sym e) got.stand;
        words = got.words ∙ ap₂ (λ (a b : List ℕ). a ++ (got.part ++ b)) lead_is tail-is;
      }
