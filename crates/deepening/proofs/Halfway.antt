-- A level while its pieces are opened, one after the other: what stands in room and workspace, and what opening the next one asks. Assumes nothing.
use Prim.Native.Nat.{◌*◌, ◌+◌, ◌≤◌, suc, ℕ}
use Rattle.dealing.proofs.Children.{sizes_append}
use Rattle.dealing.specs.Pending.{StandAll, pend_of, size_of, sizes}
use Rattle.deepening.proofs.Sounding.{opens-many, opens-sizes, opens-sound, sound-some}
use Rattle.deepening.proofs.Standing.{Cut, few_sizes, follow_at, stand-cut, stand-long}
use Rattle.deepening.proofs.Tiling.{Next, above-none, below-sizes, below-sound, current_append, pieces_append}
use Rattle.deepening.specs.Stages.{Level}
use Rattle.deepening.specs.Tiles.{Follow, Leafy, Tile, below_all, current, pieces}
use Rattle.growing.specs.Stages.{with_nodes}
use Rattle.laws.proofs.Every.{every-left, every_of, every-right}
use Rattle.laws.specs.Every.{Every}
use Rattle.measure.specs.Table.{between}
use Rattle.opening.specs.Opened.{PieceAsk}
use Rattle.opening.specs.Sound.{Sound, waits}
use Rattle.swelling.specs.Pieces.{Piece, level_from, open_all, opens, start_of}
use Rattle.tree.specs.Encode.{Node}
use Rattle.words.specs.Words.{c#, circles#, m#}
use lib.ListN.{length, length-append, length-map, take}
use lib.Seq.{length-take-le}
use mathlib.Core.Bool.{Bool, false, true}
use mathlib.Core.List.{List, [], ◌++◌, ◌∷◌, append_assoc, map}
use mathlib.Core.Path.{◌∙◌, ◌≡◌, ap, ap₂, refl, subst, sym}
use native.Mathlib.Omega.{arith}

-- a level has a node for each of its pieces
pub level_long : (d : ℕ → ℕ → ℕ) (w : List ℕ) (next : ℕ) (qs : List Piece) → length (level_from d w next qs) ≡ length qs
unfolding level_from
level_long d w next [] = refl
level_long d w next (q ∷ qs) = ap suc (level_long d w (next + length (opens d w q)) qs)

module _ {t w : List ℕ} {n : ℕ} {last : Bool} {room₀ work₀ : List ℕ} {lo hi : ℕ} (g : Level t w n last room₀ work₀ lo hi) where
  -- how far two rows are apart
  abbrev d : ℕ → ℕ → ℕ
  d = between t (c# w) (circles# w)

  -- the nodes of the levels above and of the pieces that are opened
  abbrev pub fore : List Tile → List Node
  fore past = g.before ++ level_from (between t (c# w) (circles# w)) w hi (current past)

  -- the nodes of the pieces that are not, and of the children there are
  abbrev pub rear : List Tile → List Tile → List Node
  rear past ahead =
      map (pend_of t w false) (current ahead) ++ map (pend_of t w last) (open_all (between t (c# w) (circles# w)) w (current past))

  -- the tiles `past` gave way to those one level down, which end with `lead`; `ahead` did not
  pub record Half (past ahead : List Tile) (lead tail room work : List ℕ) (made k : ℕ) : Type 0 where
    pub all : g.tiles ≡ past ++ ahead
    pub nodes : room ≡ with_nodes g.origin (fore past ++ rear past ahead)
    pub count : made ≡ hi + length (open_all (between t (c# w) (circles# w)) w (current past))
    pub here : k ≡ length g.before + length (current past)
    pub few : made + 1 ≤ 2 * length (below_all t w past ++ ahead)
    pub halves : 6 * n ≤ length work
    pub words : take (3 * n) work ≡ lead ++ tail
    pub done : StandAll t w last (pieces (below_all t w past)) lead
    pub todo : StandAll t w false (pieces ahead) tail

  -- the nodes before k are opened
  pub record Levelling (room work : List ℕ) (made k : ℕ) : Type 0 where
    pub past : List Tile
    pub ahead : List Tile
    pub lead : List ℕ
    pub tail : List ℕ
    pub half : Half past ahead lead tail room work made k

  module _ {past ahead : List Tile} {lead tail room work : List ℕ} {made k : ℕ} (half : Half past ahead lead tail room work made k) where
    -- ---- the tiles
    -- all can be opened
    all_sound : Every (Sound t w n (suc g.deep)) (pieces past ++ pieces ahead)
    all_sound =
        subst (Every (Sound t w n (suc g.deep))) (ap pieces half.all ∙ pieces_append past ahead) g.stage.sound

    pub past-sound : Every (Sound t w n (suc g.deep)) (pieces past)
    past-sound = every-left (Sound t w n (suc g.deep)) (pieces past) (pieces ahead) all_sound

    pub ahead-sound : Every (Sound t w n (suc g.deep)) (pieces ahead)
    ahead-sound = every-right (Sound t w n (suc g.deep)) (pieces past) (pieces ahead) all_sound

    -- so many are on the level
    pub current-count : length (current g.tiles) ≡ length (current past) + length (current ahead)
    current-count =
        ap (λ (x : List Tile). length (current x)) half.all ∙ ap length (current_append past ahead)
        ∙ length-append (current past) (current ahead)

    -- the rows of those opened
    pub lead-long : length lead ≡ 3 * sizes w (pieces past)
    lead-long =
        stand-long t w last (pieces (below_all t w past)) lead half.done
        ∙ ap (λ (i : ℕ). 3 * i) (below-sizes g.stage.task g.deep past past-sound)

    -- all rows
    full : sizes w (pieces past) + sizes w (pieces ahead) ≡ n
    full =
        omega (
          arith,
          ap length half.words,
          length-append lead tail,
          lead-long,
          stand-long t w false (pieces ahead) tail half.todo,
          length-take-le (3 * n) work (omega (arith, half.halves)),
        )

    -- none is empty
    past-few : length (below_all t w past) ≤ sizes w (pieces past)
    past-few =
        let ps : List Piece = pieces (below_all t w past) in
        let ok : Every (Sound t w n g.deep) ps =
        below-sound g.stage.task g.deep past past-leafy past-sound in
        omega (
          arith,
          few_sizes w ps (every_of (Sound t w n g.deep) (λ q. 1 ≤ size_of w q) (λ q h. sound-some g.stage.task g.deep q h) ps ok),
          length-map (below_all t w past) (λ x. x.1),
          below-sizes g.stage.task g.deep past past-sound,
        )
      where
        past-leafy : Every (Leafy w) past
        past-leafy = every-left (Leafy w) past ahead (subst (Every (Leafy w)) half.all g.stage.leafy)

    some-rows : (ts : List Tile) → Every (Sound t w n (suc g.deep)) (pieces ts) → length ts ≤ sizes w (pieces ts)
    some-rows ts ok =
        omega (
          arith,
          few_sizes w (pieces ts)
              (every_of (Sound t w n (suc g.deep)) (λ q. 1 ≤ size_of w q) (λ q h. sound-some g.stage.task (suc g.deep) q h) (pieces ts) ok),
          length-map ts (λ x. x.1),
        )

    -- so that there are few nodes
    pub made-few : made + 1 ≤ 2 * n
    made-few =
        omega (arith, half.few, length-append (below_all t w past) ahead, past-few, some-rows ahead ahead-sound, full)

    -- ---- the next piece
    module _ (next : Next t w ahead) where
      -- the tiles, cut there
      ahead-pieces : pieces ahead ≡ pieces next.front ++ next.q ∷ pieces next.back
      ahead-pieces = ap pieces next.cut ∙ pieces_append next.front ((true, next.q) ∷ next.back)

      -- it is the first on the level
      pub ahead-current : current ahead ≡ next.q ∷ current next.back
      ahead-current =
          ap current next.cut ∙ current_append next.front ((true, next.q) ∷ next.back)
          ∙ ap (λ (x : List Piece). x ++ next.q ∷ current next.back) (above-none t w next.front next.above)

      -- it can be opened
      cut-sound : Every (Sound t w n (suc g.deep)) (pieces next.front ++ next.q ∷ pieces next.back)
      cut-sound = subst (Every (Sound t w n (suc g.deep))) ahead-pieces ahead-sound

      front-sound : Every (Sound t w n (suc g.deep)) (pieces next.front)
      front-sound = every-left (Sound t w n (suc g.deep)) (pieces next.front) (next.q ∷ pieces next.back) cut-sound

      pub rest-sound : Every (Sound t w n (suc g.deep)) (next.q ∷ pieces next.back)
      rest-sound = every-right (Sound t w n (suc g.deep)) (pieces next.front) (next.q ∷ pieces next.back) cut-sound

      -- the words, cut there
      pub words-cut : Cut t w false (pieces next.front) next.q (pieces next.back) tail
      words-cut =
          stand-cut t w false (pieces next.front) next.q (pieces next.back) tail
          (subst (λ (x : List Piece). StandAll t w false x tail) ahead-pieces half.todo)

      -- where it starts
      pub start-at : start_of next.q ≡ sizes w (pieces past) + sizes w (pieces next.front)
      start-at =
          let ps : List Piece = pieces past ++ pieces next.front in
          let e : pieces g.tiles ≡ ps ++ next.q ∷ pieces next.back =
          ap pieces half.all ∙ pieces_append past ahead ∙ ap (λ (x : List Piece). pieces past ++ x) ahead-pieces
          ∙ sym (append_assoc (pieces past) (pieces next.front) (next.q ∷ pieces next.back)) in
          follow_at w 0 ps next.q (pieces next.back) (subst (Follow w 0) e g.stage.follow)
          ∙ omega (arith, sizes_append w (pieces past) (pieces next.front))

      -- the sizes of those ahead
      ahead-sizes : sizes w (pieces ahead) ≡ sizes w (pieces next.front) + (size_of w next.q + sizes w (pieces next.back))
      ahead-sizes = ap (sizes w) ahead-pieces ∙ sizes_append w (pieces next.front) (next.q ∷ pieces next.back)

      -- how many tiles
      ahead-count : length ahead ≡ length next.front + (1 + length next.back)
      ahead-count = ap length next.cut ∙ length-append next.front ((true, next.q) ∷ next.back) ∙ omega arith

      -- where it waits, there is room for its children
      pub space-for : waits w next.q ≡ true → made + m# w + 1 ≤ 2 * n
      space-for e =
          let qs : List Piece = opens d w next.q in
          let ok : Every (Sound t w n g.deep) qs = opens-sound g.stage.task g.deep next.q rest-sound.0 in
          let two : 2 ≤ m# w = g.stage.task.shape.whole.fan.0 in
          let kids : m# w ≤ size_of w next.q =
          omega (
            arith,
            few_sizes w qs (every_of (Sound t w n g.deep) (λ q. 1 ≤ size_of w q) (λ q h. sound-some g.stage.task g.deep q h) qs ok),
            opens-many g.stage.task next.q e,
            opens-sizes g.stage.task g.deep next.q rest-sound.0 e,
          ) in
          let few-front = some-rows next.front front-sound in
          let few-back = some-rows next.back rest-sound.1 in
          omega (
            arith,
            half.few,
            length-append (below_all t w past) ahead,
            past-few,
            few-front,
            few-back,
            ahead-count,
            ahead-sizes,
            full,
            kids,
            two,
          )

      -- k nodes stand before it
      pub fore-long : length (fore past) ≡ k
      fore-long =
          length-append g.before (level_from d w hi (current past)) ∙ omega (arith, level_long d w hi (current past), half.here)

      -- and as many behind it as pieces wait and as children there are
      pub rear-long : length (rear past next.back) ≡ length (current next.back) + length (open_all d w (current past))
      rear-long =
          length-append (map (pend_of t w false) (current next.back)) (map (pend_of t w last) (open_all d w (current past)))
          ∙ ap₂ ◌+◌ (length-map (current next.back) (pend_of t w false)) (length-map (open_all d w (current past)) (pend_of t w last))

      -- `made` nodes in all
      pub all-long : made ≡ length (fore past) + (1 + length (rear past next.back))
      all-long =
          omega (arith, fore-long, rear-long, current-count, ap length ahead-current, half.count, half.here, g.stage.last)

      -- WHAT OPENING IT ASKS
      unfoldable pub half-ask : PieceAsk t w n room work k made
      half-ask =
          record {
            deep = g.deep;
            q = next.q;
            origin = g.origin;
            fore = fore past;
            rear = rear past next.back;
            lead = lead ++ words-cut.lead;
            ws = words-cut.own;
            tail = words-cut.tail;
            there =
                record {
                  task = g.stage.task;
                  sound = rest-sound.0;
                  nodes =
                      half.nodes
                      ∙ ap (λ (x : List Piece). with_nodes g.origin (fore past ++ (map (pend_of t w false) x ++ map (pend_of t w last)
                      (open_all d w (current past))))) ahead-current;
                  here = sym fore-long;
                  all = all-long;
                  there = omega (arith, made-few, g.stage.space);
                  small = omega (arith, made-few, g.stage.task.few);
                  space = λ e. (omega (arith, space-for e, g.stage.space), omega (arith, space-for e, g.stage.task.few));
                  halves = half.halves;
                  words =
                      half.words ∙ ap (λ (x : List ℕ). lead ++ x) words-cut.whole
                      ∙ sym (append_assoc lead words-cut.lead (words-cut.own ++ words-cut.tail));
                  place =
                      length-append lead words-cut.lead
                      ∙ omega (
                        arith,
                        lead-long,
                        stand-long t w false (pieces next.front) words-cut.lead words-cut.front,
                        start-at,
                      );
                  size = words-cut.size;
                  stands = words-cut.stands;
                };
          }
