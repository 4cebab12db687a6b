-- Level after level: the nodes and members that are still to come make up the whole with those that are there. Assumes nothing.
use Prim.Native.Nat.{◌*◌, ◌+◌, ◌-◌, ◌<◌, ◌≤◌, suc, zero, ℕ}
use Rattle.dealing.specs.Pending.{StandAll, pend_of, size_of, sizes}
use Rattle.deepening.proofs.Sounding.{sound-some}
use Rattle.deepening.proofs.Standing.{few_sizes, stand-long}
use Rattle.deepening.proofs.Tiling.{below-current, fresh-pieces, pieces_append}
use Rattle.deepening.specs.Stages.{Layered, Level, Planted, Stage, Staged}
use Rattle.deepening.specs.Tiles.{Leafy, Tile, below, below_all, current, fresh, pieces}
use Rattle.growing.specs.Stages.{with_nodes}
use Rattle.laws.proofs.Every.{every_of}
use Rattle.laws.proofs.Joins.{each_append}
use Rattle.laws.specs.Every.{Every}
use Rattle.laws.specs.Lists.{each, head}
use Rattle.limits.specs.Limits.{max_depth}
use Rattle.lodging.proofs.Lodging.{pairs_under}
use Rattle.lodging.specs.Standing.{Stands}
use Rattle.measure.specs.Table.{between}
use Rattle.opening.specs.Sound.{Sound, Task, waits}
use Rattle.rounds.specs.Entries.{pairs_in}
use Rattle.swelling.specs.Pieces.{Piece, grown, grown_from, lastly, level_from, levels_from, members_from, old, open_all, opens, own_members, settled}
use Rattle.swelling.specs.Swell.{parts}
use Rattle.tree.specs.Encode.{Node, pair_words}
use Rattle.words.specs.Words.{c#, circles#, l#, m#}
use borrow.Author.Tests.{eq-eqb, eqb-false, eqb-true, ne_eqb}
use lib.Dec.{T, eqb, leb}
use lib.ListN.{drop, length, length-append, length-map, take, take-append-drop}
use lib.Seq.{length-take-le}
use mathlib.Core.Bool.{Bool, ◌&&◌, cond, false, not, true}
use mathlib.Core.List.{List, [], ◌++◌, ◌∷◌, append_assoc, append-nil, map}
use mathlib.Core.Path.{◌∙◌, ◌≡◌, ap, ap₂, refl, subst, sym}
use native.Mathlib.Omega.{arith}

-- ---- the pairs of entries
-- those of whole entries, and of what stands behind them
pairs_append : (k : ℕ) (xs ys : List ℕ) → length xs ≡ 3 * k → pairs_in (xs ++ ys) ≡ pairs_in xs ++ pairs_in ys
unfolding pairs_in
pairs_append k [] ys h = refl
pairs_append k (i ∷ []) ys h = absurd (omega arith)
pairs_append k (i ∷ x ∷ []) ys h = absurd (omega arith)
pairs_append zero (i ∷ x ∷ a ∷ xs) ys h = absurd (omega arith)
pairs_append (suc k) (i ∷ x ∷ a ∷ xs) ys h = ap (λ (l : List ℕ). i ∷ x ∷ l) (pairs_append k xs ys (omega arith))

-- what holds of all pieces holds of those on the level
current_every : (P : Piece → Type 0) (ts : List Tile) → Every P (pieces ts) → Every P (current ts)
current_every P [] h = tt
current_every P (x ∷ ts) h = go x.0 (current_every P ts h.1)
  where
    go : (b : Bool) → Every P (current ts) → Every P (cond b (x.1 ∷ current ts) (current ts))
    go true k = (h.0, k)
    go false k = k

module _ (t w : List ℕ) where
  -- how far two rows are apart
  abbrev d : ℕ → ℕ → ℕ
  d = between t (c# w) (circles# w)

  -- ---- the members, one level down
  -- of a leaf
  leaf-members : (deep : ℕ) (q : Piece) → waits w q ≡ false → members_from d w (suc deep) q ≡ members_from d w deep q
  unfolding members_from
  leaf-members deep (old s o zs) e = absurd (subst T e tt)
  leaf-members zero (settled s R es) e = refl
  leaf-members (suc deep) (settled s R es) e = refl
  leaf-members zero (grown s R run) e = go (leb (length run) (l# w)) e
    where
      go : (b : Bool) → not b ≡ false
          → cond b (own_members d w (grown s R run)) (each (λ q. members_from d w zero q) (grown_from d s (parts d (m# w) (l# w) run)))
          ≡ own_members d w (grown s R run)
      go true e = refl
      go false e = absurd (subst T e tt)
  leaf-members (suc deep) (grown s R run) e = go (leb (length run) (l# w)) e
    where
      go : (b : Bool) → not b ≡ false
          → cond b (own_members d w (grown s R run)) (each (λ q. members_from d w (suc deep) q) (grown_from d s (parts d (m# w) (l# w) run)))
          ≡ cond b (own_members d w (grown s R run)) (each (λ q. members_from d w deep q) (grown_from d s (parts d (m# w) (l# w) run)))
      go true e = refl
      go false e = absurd (subst T e tt)

  -- of a piece that waits
  opens-members : (deep : ℕ) (q : Piece) → waits w q ≡ true → members_from d w (suc deep) q ≡ each (λ p. members_from d w deep p) (opens d w q)
  unfolding members_from
  opens-members deep (settled s R es) e = absurd (subst T (sym e) tt)
  opens-members deep (old s o zs) e = refl
  opens-members deep (grown s R run) e = go (leb (length run) (l# w)) e
    where
      go : (b : Bool) → not b ≡ true
          → cond b (own_members d w (grown s R run)) (each (λ q. members_from d w deep q) (grown_from d s (parts d (m# w) (l# w) run)))
          ≡ each (λ q. members_from d w deep q) (cond b [] (grown_from d s (parts d (m# w) (l# w) run)))
      go true e = absurd (subst T (sym e) tt)
      go false e = refl

  -- of a tile
  tile-members : (deep : ℕ) (x : Tile) → Leafy w x → members_from d w (suc deep) x.1 ≡ each (λ p. members_from d w deep p) (pieces (below t w x))
  tile-members deep x l = go x.0 (waits w x.1) refl refl
    where
      one : waits w x.1 ≡ false → members_from d w (suc deep) x.1 ≡ members_from d w deep x.1 ++ []
      one e = leaf-members deep x.1 e ∙ sym (append-nil (members_from d w deep x.1))

      go : (b v : Bool) → x.0 ≡ b → waits w x.1 ≡ v
          → members_from d w (suc deep) x.1
          ≡ each (λ p. members_from d w deep p) (pieces (cond (b && v) (fresh (opens d w x.1)) ((false, x.1) ∷ [])))
      go true true e f =
          opens-members deep x.1 f ∙ ap (each (λ p. members_from d w deep p)) (sym (fresh-pieces (opens d w x.1)))
      go true false e f = one f
      go false true e f = one (l e)
      go false false e f = one f

  -- of all
  members-down : (deep : ℕ) (ts : List Tile) → Every (Leafy w) ts
      → each (λ p. members_from d w (suc deep) p) (pieces ts) ≡ each (λ p. members_from d w deep p) (pieces (below_all t w ts))
  members-down deep [] l = refl
  members-down deep (x ∷ ts) l =
      ap₂ (λ (a b : List (ℕ × ℕ)). a ++ b) (tile-members deep x l.0) (members-down deep ts l.1)
      ∙ sym (each_append (λ p. members_from d w deep p) (pieces (below t w x)) (pieces (below_all t w ts)))
      ∙ ap (each (λ p. members_from d w deep p)) (sym (pieces_append (below t w x) (below_all t w ts)))

  -- ---- the nodes, one level down
  nodes_down : (deep hi made : ℕ) (before : List Node) (ts : List Tile) → made ≡ hi + length (open_all d w (current ts))
      → before ++ levels_from d w (suc deep) hi (current ts)
      ≡ (before ++ level_from d w hi (current ts)) ++ levels_from d w deep made (current (below_all t w ts))
  unfolding levels_from
  nodes_down deep hi made before ts e =
      ap (λ (i : ℕ). before ++ (level_from d w hi (current ts) ++ levels_from d w deep i (open_all d w (current ts)))) (sym e)
      ∙ ap (λ (x : List Piece). before ++ (level_from d w hi (current ts) ++ levels_from d w deep made x)) (sym (below-current t w ts))
      ∙ sym (append_assoc before (level_from d w hi (current ts)) (levels_from d w deep made (current (below_all t w ts))))

  -- ---- on the last level
  module _ {n : ℕ} (task : Task t w n) where
    -- an old node has a level below it
    last_none : (s o : ℕ) (zs : List ℕ) → Sound t w n 0 (old s o zs) → ⊥
    last_none s o zs h = subst T (sym h.1 ∙ (task.shape.node o h.0).bottom h.2) tt

    -- the nodes are as they wait
    last-nodes : (qs : List Piece) → Every (Sound t w n 0) qs → map (pend_of t w true) qs ≡ map (lastly d w) qs
    last-nodes [] h = refl
    last-nodes (old s o zs ∷ qs) h = absurd (last_none s o zs h.0)
    last-nodes (grown s R run ∷ qs) h = ap (λ (x : List Node). (s, length run, 0, R) ∷ x) (last-nodes qs h.1)
    last-nodes (settled s R es ∷ qs) h = ap (λ (x : List Node). (s, length es, 0, R) ∷ x) (last-nodes qs h.1)

    -- the pairs of a piece are its members
    piece-pairs : (q : Piece) (ws : List ℕ) → Sound t w n 0 q → Stands t (c# w) w true q ws → pairs_in ws ≡ each pair_words (own_members d w q)
    piece-pairs (old s o zs) ws h k = absurd (last_none s o zs h)
    piece-pairs (grown s R run) ws h k = ap pairs_in k ∙ pairs_under (d (head run)) (head run) run
    piece-pairs (settled s R es) ws h k = k.1

    last-pairs : (qs : List Piece) (ws : List ℕ) → Every (Sound t w n 0) qs → StandAll t w true qs ws
        → pairs_in ws ≡ each pair_words (each (λ p. members_from d w 0 p) qs)
    unfolding pairs_in members_from
    last-pairs [] ws h k = ap pairs_in k
    last-pairs (q ∷ qs) ws h k =
        let i : ℕ = 3 * size_of w q in
        ap pairs_in (sym (take-append-drop i ws))
        ∙ pairs_append (size_of w q) (take i ws) (drop i ws) (length-take-le i ws k.0)
        ∙ ap₂ (λ (a b : List ℕ). a ++ b) (piece-pairs q (take i ws) h.0 k.1) (last-pairs qs (drop i ws) h.1 k.2)
        ∙ sym (each_append pair_words (own_members d w q) (each (λ p. members_from d w 0 p) qs))

    -- as many members as rows
    piece-many : (q : Piece) → Sound t w n 0 q → length (own_members d w q) ≡ size_of w q
    piece-many (old s o zs) h = absurd (last_none s o zs h)
    piece-many (grown s R run) h = length-map run (λ i. (i, d (head run) i))
    piece-many (settled s R es) h = refl

    last-many : (qs : List Piece) → Every (Sound t w n 0) qs → length (each (λ p. members_from d w 0 p) qs) ≡ sizes w qs
    unfolding members_from
    last-many [] h = refl
    last-many (q ∷ qs) h =
        length-append (own_members d w q) (each (λ p. members_from d w 0 p) qs)
        ∙ ap₂ (λ (a b : ℕ). a + b) (piece-many q h.0) (last-many qs h.1)

-- `depth` levels are opened: with what is to come below, nodes and members are those of the whole
pub record Going (t w : List ℕ) (n : ℕ) (root : Piece) (origin room work : List ℕ) (lo hi depth : ℕ) : Type 0 where
  pub before : List Node
  pub tiles : List Tile
  pub stage : Stage t w n (max_depth - depth) origin before tiles room work lo hi
  pub nodes : before ++ levels_from (between t (c# w) (circles# w)) w (max_depth - depth) hi (current tiles)
      ≡ levels_from (between t (c# w) (circles# w)) w max_depth 1 (root ∷ [])
  pub members : each (λ p. members_from (between t (c# w) (circles# w)) w (max_depth - depth) p) (pieces tiles)
      ≡ members_from (between t (c# w) (circles# w)) w max_depth root

-- it is so, whatever the root
abbrev pub Goes : List ℕ → List ℕ → ℕ → List ℕ → List ℕ → List ℕ → List ℕ → ℕ → ℕ → ℕ → Type 0
Goes t w n room₀ work₀ room work lo hi depth = (g : Planted t w n room₀ work₀) → Going t w n g.root g.origin room work lo hi depth

-- the root stands alone
pub goes_start : {t w : List ℕ} {n : ℕ} {room work : List ℕ} (g : Planted t w n room work) → Going t w n g.root g.origin room work 0 1 0
goes_start {t} {w} g =
    record {
      before = [];
      tiles = (true, g.root) ∷ [];
      stage = g.rooted;
      nodes = refl;
      members = append-nil (members_from (between t (c# w) (circles# w)) w max_depth g.root);
    }

module _ {t w : List ℕ} {n : ℕ} {root : Piece} {origin room work : List ℕ} {lo hi depth : ℕ}
    (inv : Going t w n root origin room work lo hi depth) where
  -- how far two rows are apart
  abbrev D : ℕ → ℕ → ℕ
  D = between t (c# w) (circles# w)

  -- one level less below
  pub less : depth < max_depth → max_depth - depth ≡ suc (max_depth - (depth + 1))
  less h = omega arith

  -- the next level is there
  unfoldable pub goes-level : depth < max_depth → {last : Bool} → last ≡ eqb (depth + 1) max_depth → Level t w n last room work lo hi
  goes-level h e =
      record {
        deep = max_depth - (depth + 1);
        shallow = e ∙ go (eqb (depth + 1) max_depth) refl;
        origin = origin;
        before = inv.before;
        tiles = inv.tiles;
        stage = subst (λ (i : ℕ). Stage t w n i origin inv.before inv.tiles room work lo hi) (less h) inv.stage;
      }
    where
      go : (b : Bool) → eqb (depth + 1) max_depth ≡ b → b ≡ eqb (max_depth - (depth + 1)) 0
      go true q = sym (eq-eqb (max_depth - (depth + 1)) 0 (omega (arith, eqb-true (depth + 1) max_depth q)))
      go false q = sym (ne_eqb (max_depth - (depth + 1)) 0 (λ z. omega (arith, eqb-false (depth + 1) max_depth q)))

  -- it is opened
  pub goes_step : {last : Bool} {room' work' : List ℕ} {made : ℕ} → depth < max_depth → last ≡ eqb (depth + 1) max_depth
      → Staged t w n last room work lo hi room' work' made → {from : ℕ} → from ≡ hi → Going t w n root origin room' work' from made (depth + 1)
  unfolding goes-level
  goes_step {room' = room'} {work'} {made} h e staged {from} ef =
      let s = staged (goes-level h e) in
      let many : made ≡ hi + length (open_all D w (current inv.tiles)) =
      omega (arith, s.first, s.last, ap length (below-current t w inv.tiles)) in
      record {
        before = inv.before ++ level_from D w hi (current inv.tiles);
        tiles = below_all t w inv.tiles;
        stage = subst (λ (i : ℕ). Stage t w n (max_depth - (depth + 1)) origin (inv.before ++ level_from D w hi (current inv.tiles))
            (below_all t w inv.tiles) room' work' i made) (sym ef) s;
        nodes =
            sym (nodes_down t w (max_depth - (depth + 1)) hi made inv.before inv.tiles many)
            ∙ ap (λ (i : ℕ). inv.before ++ levels_from D w i hi (current inv.tiles)) (sym (less h)) ∙ inv.nodes;
        members =
            sym (members-down t w (max_depth - (depth + 1)) inv.tiles inv.stage.leafy)
            ∙ ap (λ (i : ℕ). each (λ p. members_from D w i p) (pieces inv.tiles)) (sym (less h)) ∙ inv.members;
      }

  -- all are opened
  pub goes-done : max_depth ≤ depth → Layered t w n root origin room work hi
  unfolding levels_from
  goes-done h =
      let z : max_depth - depth ≡ 0 = omega arith in
      let s : Stage t w n 0 origin inv.before inv.tiles room work lo hi =
      subst (λ (i : ℕ). Stage t w n i origin inv.before inv.tiles room work lo hi) z inv.stage in
      let ns : inv.before ++ map (pend_of t w true) (current inv.tiles) ≡ levels_from D w max_depth 1 (root ∷ []) =
      ap (λ (x : List Node). inv.before ++ x)
      (last-nodes t w s.task (current inv.tiles) (current_every (Sound t w n 0) inv.tiles s.sound))
      ∙ ap (λ (i : ℕ). inv.before ++ levels_from D w i hi (current inv.tiles)) (sym z) ∙ inv.nodes in
      let ps : List Piece = pieces inv.tiles in
      let members : each (λ p. members_from D w 0 p) ps ≡ members_from D w max_depth root =
      ap (λ (i : ℕ). each (λ p. members_from D w i p) ps) (sym z) ∙ inv.members in
      let some : Every (λ q. 1 ≤ size_of w q) ps = every_of (Sound t w n 0) (λ q. 1 ≤ size_of w q) (λ q k. sound-some s.task 0 q k) ps s.sound in
      record {
        nodes = s.nodes ∙ ap (with_nodes origin) ns;
        count = s.last
            ∙ sym (ap length (sym ns) ∙ length-append inv.before (map (pend_of t w true) (current inv.tiles))
            ∙ ap (λ (i : ℕ). length inv.before + i) (length-map (current inv.tiles) (pend_of t w true)));
        few =
            omega (
              arith,
              s.few,
              few_sizes w ps some,
              length-map inv.tiles (λ x. x.1),
              stand-long t w true ps (take (3 * n) work) s.stand,
              length-take-le (3 * n) work (omega (arith, s.halves)),
            );
        pairs =
            last-pairs t w s.task ps (take (3 * n) work) s.sound s.stand
            ∙ ap (each pair_words) members;
        many =
            ap length (sym members) ∙ last-many t w s.task ps s.sound
            ∙ omega (
              arith,
              stand-long t w true ps (take (3 * n) work) s.stand,
              length-take-le (3 * n) work (omega (arith, s.halves)),
            );
      }
