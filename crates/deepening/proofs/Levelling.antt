-- One level, piece after piece, from its first to behind its last. Assumes nothing.
use Prim.Native.Nat.{◌*◌, ◌+◌, ◌<◌, ◌≤◌, suc, ℕ}
use Rattle.dealing.specs.Pending.{StandAll, pend_of}
use Rattle.deepening.proofs.Halfway.{Half, Levelling, current-count, fore, half-ask, level_long, rear, words-cut}
use Rattle.deepening.proofs.Sounding.{opens-many}
use Rattle.deepening.proofs.Standing.{leaves_stand, stand-append}
use Rattle.deepening.proofs.Tiling.{Next, above_leaves, above-none, above-stay, below-current, below-follow, below-leafy, below-opened, below-sound}
use Rattle.deepening.proofs.Tiling.{current_append, next_of, none_left, pieces_append}
use Rattle.deepening.specs.Stages.{Level, Stage}
use Rattle.deepening.specs.Tiles.{Leafy, Tile, below, below_all, current, fresh, pieces}
use Rattle.growing.specs.Stages.{with_nodes}
use Rattle.laws.proofs.Every.{every-left, every-right}
use Rattle.laws.proofs.Joins.{each_append}
use Rattle.laws.proofs.Lists.{map-append}
use Rattle.laws.specs.Every.{Every}
use Rattle.measure.specs.Table.{between}
use Rattle.opening.proofs.Waited.{leaf_opens}
use Rattle.opening.specs.Opened.{PieceAsk, PieceOpened, PieceOpens}
use Rattle.opening.specs.Sound.{opened, waits}
use Rattle.swelling.specs.Pieces.{Piece, level_from, open_all, opens, waiting}
use Rattle.tree.specs.Encode.{Node}
use Rattle.words.specs.Words.{c#, circles#, m#}
use borrow.Author.Tests.{ne_eqb}
use lib.Dec.{eqb}
use lib.ListN.{length, length-append, length-map, take}
use mathlib.Core.Bool.{Bool, cond, false, true}
use mathlib.Core.List.{List, [], ◌++◌, ◌∷◌, append_assoc, append-nil, map}
use mathlib.Core.Path.{◌∙◌, ◌≡◌, ap, ap₂, refl, subst, sym}
use native.Mathlib.Nat.{add-zero}
use native.Mathlib.Omega.{arith}

-- the nodes of a level with one piece more
level_more : (d : ℕ → ℕ → ℕ) (w : List ℕ) (next : ℕ) (qs : List Piece) (q : Piece)
    → level_from d w next (qs ++ q ∷ []) ≡ level_from d w next qs ++ waiting d w q (next + length (open_all d w qs)) ∷ []
unfolding level_from
level_more d w next [] q = ap (λ (i : ℕ). waiting d w q i ∷ []) (sym (add-zero next))
level_more d w next (p ∷ qs) q =
    let k : ℕ = length (opens d w p) in
    let e : next + k + length (open_all d w qs) ≡ next + length (open_all d w (p ∷ qs)) =
    omega (arith, length-append (opens d w p) (open_all d w qs)) in
    ap (λ (x : List Node). waiting d w p next ∷ x) (level_more d w (next + k) qs q)
    ∙ ap (λ (i : ℕ). waiting d w p next ∷ (level_from d w (next + k) qs ++ waiting d w q i ∷ [])) e

-- the nodes before k are opened, whatever tiles the level has
abbrev pub Turn : List ℕ → List ℕ → ℕ → Bool → List ℕ → List ℕ → ℕ → ℕ → List ℕ → List ℕ → ℕ → ℕ → Type 0
Turn t w n last room₀ work₀ lo hi room work made k = (g : Level t w n last room₀ work₀ lo hi) → Levelling g room work made k

module _ {t w : List ℕ} {n : ℕ} {last : Bool} {room₀ work₀ : List ℕ} {lo hi : ℕ} (g : Level t w n last room₀ work₀ lo hi) where
  -- how far two rows are apart
  abbrev d : ℕ → ℕ → ℕ
  d = between t (c# w) (circles# w)

  -- there is a level below
  deeper : eqb (suc g.deep) 0 ≡ false
  deeper = ne_eqb (suc g.deep) 0 (λ e. omega arith)

  -- no node is opened yet
  pub levelling-start : Levelling g room₀ work₀ hi lo
  unfolding level_from
  levelling-start =
      let z : length g.before + 0 ≡ length g.before = omega arith in
      let y : hi + 0 ≡ hi = omega arith in
      let qs : List Node = map (pend_of t w false) (current g.tiles) in
      record {
        past = [];
        ahead = g.tiles;
        lead = [];
        tail = take (3 * n) work₀;
        half =
            record {
              all = refl;
              nodes =
                  g.stage.nodes
                  ∙ ap (λ (b : Bool). with_nodes g.origin (g.before ++ map (pend_of t w b) (current g.tiles))) deeper
                  ∙ ap₂ (λ (x y : List Node). with_nodes g.origin (x ++ y)) (sym (append-nil g.before)) (sym (append-nil qs));
              count = sym y;
              here = g.stage.first ∙ sym z;
              few = g.stage.few;
              halves = g.stage.halves;
              words = refl;
              done = refl;
              todo = subst (λ (b : Bool). StandAll t w b (pieces g.tiles) (take (3 * n) work₀)) deeper g.stage.stand;
            };
      }

  -- ---- one more is opened
  module _ {past ahead : List Tile} {lead tail room work : List ℕ} {made k : ℕ} (half : Half g past ahead lead tail room work made k)
      (next : Next t w ahead) where
    -- the tiles that gave way by now
    past' : List Tile
    past' = past ++ (next.front ++ (true, next.q) ∷ [])

    -- the level's pieces among them
    past-current : current past' ≡ current past ++ next.q ∷ []
    unfolding past'
    past-current =
        current_append past (next.front ++ (true, next.q) ∷ [])
        ∙ ap (λ (x : List Piece). current past ++ x)
        (current_append next.front ((true, next.q) ∷ [])
        ∙ ap (λ (x : List Piece). x ++ next.q ∷ []) (above-none t w next.front next.above))

    -- what they are opened into
    past-opens : open_all d w (current past') ≡ open_all d w (current past) ++ opens d w next.q
    past-opens =
        ap (open_all d w) past-current ∙ each_append (opens d w) (current past) (next.q ∷ [])
        ∙ ap (λ (x : List Piece). open_all d w (current past) ++ x) (append-nil (opens d w next.q))

    -- what they leave
    past-below : below_all t w past' ≡ (below_all t w past ++ next.front) ++ below t w (true, next.q)
    unfolding past'
    past-below =
        each_append (below t w) past (next.front ++ (true, next.q) ∷ [])
        ∙ ap (λ (x : List Tile). below_all t w past ++ x)
        (each_append (below t w) next.front ((true, next.q) ∷ [])
        ∙ ap₂ (λ (x y : List Tile). x ++ y) (above-stay t w next.front next.above) (append-nil (below t w (true, next.q))))
        ∙ sym (append_assoc (below_all t w past) next.front (below t w (true, next.q)))

    -- their pieces
    past-pieces : pieces (below_all t w past') ≡ (pieces (below_all t w past) ++ pieces next.front) ++ opened t w next.q
    past-pieces =
        ap pieces past-below ∙ pieces_append (below_all t w past ++ next.front) (below t w (true, next.q))
        ∙ ap₂ (λ (x y : List Piece). x ++ y) (pieces_append (below_all t w past) next.front) (below-opened t w next.q)

    -- the tiles before the piece are leaves
    front-leaves : Every (λ q. waits w q ≡ false) (pieces next.front)
    front-leaves =
        above_leaves w next.front next.above
        (every-left (Leafy w) next.front ((true, next.q) ∷ next.back)
        (subst (Every (Leafy w)) next.cut (every-right (Leafy w) past ahead (subst (Every (Leafy w)) half.all g.stage.leafy))))

    -- two centres or more
    two : 2 ≤ m# w
    two = g.stage.task.shape.whole.fan.0

    -- nodes and tiles, where it waits and where it does not
    few-more : (T : ℕ) → made + 1 ≤ 2 * (T + 1) → made + length (opens d w next.q) + 1 ≤ 2 * (T + length (below t w (true, next.q)))
    few-more T h = go (waits w next.q) refl
      where
        go : (v : Bool) → waits w next.q ≡ v
            → made + length (opens d w next.q) + 1 ≤ 2 * (T + length (cond v (fresh (opens d w next.q)) ((false, next.q) ∷ [])))
        go true e =
            omega (
              arith,
              opens-many g.stage.task next.q e,
              length-map {B = Tile} (opens d w next.q) (λ q. (true, q)),
              two,
            )
        go false e = omega (arith, ap length (leaf_opens d w next.q e))

    -- IT IS OPENED
    half_step : {room' work' : List ℕ} {r : ℕ} → length work' ≡ length work
        → PieceOpened t w n last next.q g.origin (fore g past) (rear g past next.back) (lead ++ (words-cut g half next).lead)
        (words-cut g half next).tail made room' work' r
        → Levelling g room' work' r (k + 1)
    unfolding past'
    half_step {room'} {work'} {r} same got =
        let C = words-cut g half next in
        let a : List Node = map (pend_of t w false) (current next.back) in
        let b : List Node = map (pend_of t w last) (open_all d w (current past)) in
        let c : List Node = map (pend_of t w last) (opens d w next.q) in
        let x : Node = waiting d w next.q made in
        let front-nodes : fore g past ++ x ∷ [] ≡ fore g past' =
        append_assoc g.before (level_from d w hi (current past)) (x ∷ [])
        ∙ ap (λ (y : List Node). g.before ++ y)
        (ap (λ (i : ℕ). level_from d w hi (current past) ++ waiting d w next.q i ∷ []) half.count
        ∙ sym (level_more d w hi (current past) next.q) ∙ ap (level_from d w hi) (sym past-current)) in
        let rear-nodes : rear g past next.back ++ c ≡ rear g past' next.back =
        append_assoc a b c
        ∙ ap (λ (y : List Node). a ++ y) (sym (map-append (pend_of t w last) (open_all d w (current past)) (opens d w next.q))
        ∙ ap (map (pend_of t w last)) (sym past-opens)) in
        let T : ℕ = length (below_all t w past) + length next.front + length next.back in
        let few-now : made + 1 ≤ 2 * (T + 1) =
        omega (
          arith,
          half.few,
          length-append (below_all t w past) ahead,
          ap length next.cut,
          length-append next.front ((true, next.q) ∷ next.back),
        ) in
        let few-then : r + 1 ≤ 2 * length (below_all t w past' ++ next.back) =
        omega (
          arith,
          few-more T few-now,
          got.count,
          length-append (below_all t w past') next.back,
          ap length past-below,
          length-append (below_all t w past ++ next.front) (below t w (true, next.q)),
          length-append (below_all t w past) next.front,
        ) in
        record {
          past = past';
          ahead = next.back;
          lead = (lead ++ C.lead) ++ got.part;
          tail = C.tail;
          half =
              record {
                all =
                    half.all
                    ∙ ap (λ (y : List Tile). past ++ y) (next.cut ∙ sym (append_assoc next.front ((true, next.q) ∷ []) next.back))
                    ∙ sym (append_assoc past (next.front ++ (true, next.q) ∷ []) next.back);
                nodes =
                    got.nodes
                    ∙ ap (with_nodes g.origin) (sym (append_assoc (fore g past) (x ∷ []) (rear g past next.back ++ c))
                    ∙ ap₂ (λ (y z : List Node). y ++ z) front-nodes rear-nodes);
                count =
                    got.count
                    ∙ omega (
                      arith,
                      half.count,
                      ap length past-opens,
                      length-append (open_all d w (current past)) (opens d w next.q),
                    );
                here = omega (arith, half.here, ap length past-current, length-append (current past) (next.q ∷ []));
                few = few-then;
                halves = omega (arith, half.halves, same);
                words = got.words ∙ sym (append_assoc (lead ++ C.lead) got.part C.tail);
                done =
                    subst (λ (y : List Piece). StandAll t w last y ((lead ++ C.lead) ++ got.part)) (sym past-pieces)
                    (stand-append t w last (pieces (below_all t w past) ++ pieces next.front) (opened t w next.q) (lead ++ C.lead) got.part
                    (stand-append t w last (pieces (below_all t w past)) (pieces next.front) lead C.lead half.done
                    (leaves_stand t w false last (pieces next.front) C.lead front-leaves C.front)) got.stand);
                todo = C.back;
              };
        }

    -- as the callee tells it
    half-opened : {room' work' : List ℕ} {r : ℕ} → length work' ≡ length work → PieceOpens t w n last room work k made room' work' r
        → Levelling g room' work' r (k + 1)
    unfolding half-ask
    half-opened same got = half_step same (got (half-ask g half next))

  module _ {room work : List ℕ} {made k : ℕ} (inv : Levelling g room work made k) where
    -- how many of the level are ahead
    left : length g.before + length (current g.tiles) ≡ k + length (current inv.ahead)
    left = omega (arith, inv.half.here, current-count g inv.half)

    -- the next of them
    next : k < hi → Next t w inv.ahead
    next h = next_of t w inv.ahead (omega (arith, left, g.stage.last))

    -- what opening it asks
    pub levelling-open : k < hi → PieceAsk t w n room work k made
    levelling-open h = half-ask g inv.half (next h)

    -- it is opened
    pub levelling-step : {room' work' : List ℕ} {r : ℕ} → k < hi → length work' ≡ length work
        → PieceOpens t w n last room work k made room' work' r → Levelling g room' work' r (k + 1)
    levelling-step h same got = half-opened inv.half (next h) same got

    -- ---- behind the last: the stage one level down
    pub levelling-done : hi ≤ k
        → Stage t w n g.deep g.origin (g.before ++ level_from (between t (c# w) (circles# w)) w hi (current g.tiles))
        (below_all t w g.tiles) room work hi made
    levelling-done h =
        let f = inv.half in
        let past : List Tile = inv.past in
        let ahead : List Tile = inv.ahead in
        let none : Every (λ x. x.0 ≡ false) ahead = none_left ahead (omega (arith, left, g.stage.last)) in
        let same : current g.tiles ≡ current past =
        ap current f.all ∙ current_append past ahead
        ∙ ap (λ (x : List Piece). current past ++ x) (above-none t w ahead none) ∙ append-nil (current past) in
        let ts : below_all t w g.tiles ≡ below_all t w past ++ ahead =
        ap (below_all t w) f.all ∙ each_append (below t w) past ahead
        ∙ ap (λ (x : List Tile). below_all t w past ++ x) (above-stay t w ahead none) in
        let down : current (below_all t w g.tiles) ≡ open_all d w (current past) = below-current t w g.tiles ∙ ap (open_all d w) same in
        let out : length (g.before ++ level_from d w hi (current g.tiles)) ≡ length g.before + length (current g.tiles) =
        length-append g.before (level_from d w hi (current g.tiles))
        ∙ ap (λ (i : ℕ). length g.before + i) (level_long d w hi (current g.tiles)) in
        let leaves : Every (λ q. waits w q ≡ false) (pieces ahead) =
        above_leaves w ahead none (every-right (Leafy w) past ahead (subst (Every (Leafy w)) f.all g.stage.leafy)) in
        record {
          task = g.stage.task;
          nodes =
              f.nodes
              ∙ ap₂ (λ (x y : List Piece).
              with_nodes g.origin ((g.before ++ level_from d w hi x) ++ (map (pend_of t w false) y ++ map (pend_of t w last)
              (open_all d w (current past))))) (sym same) (above-none t w ahead none)
              ∙ ap₂ (λ (b : Bool) (x : List Piece). with_nodes g.origin ((g.before ++ level_from d w hi (current g.tiles)) ++ map (pend_of t w b)
              x)) g.shallow (sym down);
          space = g.stage.space;
          first = omega (arith, out, g.stage.last);
          last = omega (arith, out, f.count, ap length down, g.stage.last);
          few = subst (λ (x : List Tile). made + 1 ≤ 2 * length x) (sym ts) f.few;
          sound = below-sound g.stage.task g.deep g.tiles g.stage.leafy g.stage.sound;
          leafy = below-leafy g.stage.task g.deep g.tiles g.stage.leafy;
          halves = f.halves;
          stand =
              subst (λ (b : Bool). StandAll t w b (pieces (below_all t w g.tiles)) (take (3 * n) work)) g.shallow
              (subst (StandAll t w last (pieces (below_all t w g.tiles))) (sym f.words)
              (subst (λ (x : List Piece). StandAll t w last x (inv.lead ++ inv.tail)) (sym (ap pieces ts ∙ pieces_append (below_all t w past) ahead))
              (stand-append t w last (pieces (below_all t w past)) (pieces ahead) inv.lead inv.tail f.done
              (leaves_stand t w false last (pieces ahead) inv.tail leaves f.todo))));
          follow = below-follow g.stage.task g.deep 0 g.tiles g.stage.sound g.stage.follow;
        }
