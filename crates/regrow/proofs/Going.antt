-- Level after level: the nodes and leaves that are still to come make up the whole with those that are there. Assumes nothing.
use Prim.Native.Nat.{◌+◌, ◌-◌, ◌<◌, ◌≤◌, suc, ℕ}
use Rattle.growing.proofs.Growing.{leaves-down, leaves_none}
use Rattle.growing.proofs.Waiting.{next-waits}
use Rattle.growing.specs.Levels.{leaves, opened, placed, waits}
use Rattle.growing.specs.Stages.{with_nodes}
use Rattle.laws.specs.Every.{Every}
use Rattle.laws.specs.Lists.{each, keep}
use Rattle.limits.specs.Limits.{max_depth}
use Rattle.measure.specs.Table.{between}
use Rattle.regrow.proofs.Dues.{Due, Reached, calm-down, due-bottom, due-down, due-one, kept_due}
use Rattle.regrow.specs.Pieces.{Job, Piece, Sound, all_nodes, due, job_of, level_out_lem, next_level, pending, piece, runs_of}
use Rattle.regrow.specs.Stages.{Layered, Level, Paved, Planted, Stage, Staged}
use Rattle.split.specs.Runs.{laid}
use Rattle.tree.specs.Encode.{Node}
use Rattle.words.specs.Words.{nodes#, c#, circles#, m#, n#}
use lib.ListN.{length, length-append, length-map}
use mathlib.Core.List.{List, [], ◌++◌, ◌∷◌, append_assoc, append-nil, cons≢nil, map}
use mathlib.Core.Logic.{◌⊎◌, inl, inr}
use mathlib.Core.Path.{◌∙◌, ◌≡◌, ap, refl, subst, sym}
use native.Mathlib.Omega.{arith}

-- the nodes of a level, and then those of the levels below it
nodes_down : (j : Job) (deep hi made : ℕ) (before : List Node) (items : List Piece) → made ≡ hi + length (next_level j items)
    → before ++ all_nodes j (suc deep) hi items ≡ (before ++ level_out_lem j hi items) ++ all_nodes j deep made (next_level j items)
unfolding all_nodes
nodes_down j deep hi made before items e =
    ap (λ (k : ℕ). before ++ (level_out_lem j hi items ++ all_nodes j deep k (next_level j items))) (sym e)
    ∙ sym (append_assoc before (level_out_lem j hi items) (all_nodes j deep made (next_level j items)))

-- where no level is left, each piece is a leaf
nodes-none : (j : Job) (hi : ℕ) (items : List Piece) → all_nodes j 0 hi items ≡ map (pending j) items
unfolding all_nodes
nodes-none j hi items = refl

module _ {t w : List ℕ} {v added limit : ℕ} {room₀ work₀ : List ℕ} (g : Planted t w v added limit room₀ work₀) where
  -- the work at hand
  abbrev job : Job
  job = job_of t w v added limit g.run

  -- how far two rows are apart
  abbrev d : ℕ → ℕ → ℕ
  d = between t (c# w) (circles# w)

  -- the run that is due
  abbrev due1 : Due
  due1 = (g.left, (g.base, g.run))

  -- these tiles pave the workspace
  abbrev Tiles : List ℕ → List (List ℕ) → Type 0
  Tiles work tiles = Paved d limit (n# w + added) g.base g.fore g.rear work tiles

  -- the run is not among the pieces yet: `deep` levels are left
  pub record Ahead (items : List Piece) (work : List ℕ) (deep : ℕ) : Type 0 where
    pub none : runs_of items ≡ []
    pub later : each (λ q. due job deep q) items ≡ due1 ∷ []
    pub paved : Tiles work (g.run ∷ [])

  -- it is, or was
  pub record There (items : List Piece) (work : List ℕ) (deep : ℕ) : Type 0 where
    pub tiles : List (List ℕ)
    pub calm : each (kept_due job deep) items ≡ []
    pub paved : Tiles work tiles
    pub wait : keep (waits limit) (runs_of items) ≡ keep (waits limit) (placed g.base tiles)
    pub below : each (leaves d (m# w) limit deep) tiles ≡ leaves d (m# w) limit g.left g.run

  -- either, by what is due
  reach : {items : List Piece} {work : List ℕ} (deep : ℕ) → each (λ q. due job deep q) items ≡ due1 ∷ [] → Tiles work (g.run ∷ [])
      → Ahead items work deep ⊎ There items work deep
  reach {items} {work} deep e paved = go (due-one job deep due1 items e)
    where
      go : (runs_of items ≡ []) ⊎ Reached job deep due1 items → Ahead items work deep ⊎ There items work deep
      go (inl h) = inl (record { none = h; later = e; paved = paved })
      go (inr r) =
          inr
          (
          record {
            tiles = g.run ∷ [];
            calm = r.calm;
            paved = paved;
            wait = ap (keep (waits limit)) r.runs;
            below = append-nil (leaves d (m# w) limit deep g.run) ∙ ap (λ (k : ℕ). leaves d (m# w) limit k g.run) (sym r.level);
          }
          )

  -- `deep` levels are left: with what is to come below, the nodes and the leaves are those of the whole tree
  pub record Going (room work : List ℕ) (lo hi deep : ℕ) : Type 0 where
    pub before : List Node
    pub items : List Piece
    pub stands : room ≡ with_nodes g.origin (before ++ map (pending job) items)
    pub first : lo ≡ length before
    pub last : hi ≡ length before + length items
    pub whole : before ++ all_nodes job deep hi items ≡ all_nodes job max_depth 1 (piece job 0 ∷ [])
    pub sound : Every (λ p. Sound job (nodes# w) deep p) items
    pub runs : Ahead items work deep ⊎ There items work deep

  -- the root stands alone
  going_start : Going room₀ work₀ 0 1 max_depth
  going_start =
      record {
        before = [];
        items = piece job 0 ∷ [];
        stands = g.rooted.nodes;
        first = refl;
        last = refl;
        whole = refl;
        sound = (g.rooted.sound, tt);
        runs = reach max_depth (append-nil (due job max_depth (piece job 0)) ∙ g.rooted.below) g.rooted.paved;
      }

  module _ {room work : List ℕ} {lo hi deep : ℕ} (inv : Going room work lo hi (suc deep)) where
    -- ---- the next level has its pieces and tiles
    few : length inv.before + length (all_nodes job (suc deep) hi inv.items) ≤ g.most
    few =
        let ns : List Node = all_nodes job (suc deep) hi inv.items in
        omega (arith, length-append inv.before ns, ap length inv.whole, g.rooted.few)

    -- before the run is among them, no tile is looked at
    abbrev level-ahead : Ahead inv.items work (suc deep) → Level t w v added limit room work lo hi
    level-ahead a =
        record {
          change = g.change;
          run = g.run;
          own = g.own;
          deep = deep;
          base = g.base;
          most = g.most;
          fore = g.fore;
          rear = each (laid d) (g.run ∷ []) ++ g.rear;
          origin = g.origin;
          before = inv.before;
          items = inv.items;
          tiles = [];
          stage =
              record {
                nodes = inv.stands;
                space = g.rooted.space;
                small = g.rooted.small;
                first = inv.first;
                last = inv.last;
                few = few;
                sound = inv.sound;
                paved = record { halves = a.paved.halves; words = a.paved.words; lead = a.paved.lead; runs = tt; rows = tt };
              };
          wait = ap (keep (waits limit)) a.none;
        }

    abbrev level-there : There inv.items work (suc deep) → Level t w v added limit room work lo hi
    level-there a =
        record {
          change = g.change;
          run = g.run;
          own = g.own;
          deep = deep;
          base = g.base;
          most = g.most;
          fore = g.fore;
          rear = g.rear;
          origin = g.origin;
          before = inv.before;
          items = inv.items;
          tiles = a.tiles;
          stage =
              record {
                nodes = inv.stands;
                space = g.rooted.space;
                small = g.rooted.small;
                first = inv.first;
                last = inv.last;
                few = few;
                sound = inv.sound;
                paved = a.paved;
              };
          wait = a.wait;
        }

    going-level : Level t w v added limit room work lo hi
    going-level = go inv.runs
      where
        go : Ahead inv.items work (suc deep) ⊎ There inv.items work (suc deep) → Level t w v added limit room work lo hi
        go (inl a) = level-ahead a
        go (inr a) = level-there a

    -- ---- it is opened
    module _ {room' work' : List ℕ} {made : ℕ} (staged : Staged t w v added limit room work lo hi room' work' made) where
      -- the pieces then
      abbrev items' : List Piece
      items' = next_level job inv.items

      -- the nodes before them
      abbrev before' : List Node
      before' = inv.before ++ level_out_lem job hi inv.items

      -- whatever the tiles are
      next : {fore rear : List ℕ} {tiles : List (List ℕ)}
          → Stage job (nodes# w) (n# w + added) deep g.base g.most fore rear g.origin before' items' tiles room' work' hi made
          → Ahead items' work' deep ⊎ There items' work' deep → Going room' work' hi made deep
      next s runs =
          record {
            before = before';
            items = items';
            stands = s.nodes;
            first = s.first;
            last = s.last;
            whole = sym (nodes_down job deep hi made inv.before inv.items (omega (arith, s.first, s.last))) ∙ inv.whole;
            sound = s.sound;
            runs = runs;
          }

      going_step : Going room' work' hi made deep
      going_step = go inv.runs
        where
          go : Ahead inv.items work (suc deep) ⊎ There inv.items work (suc deep) → Going room' work' hi made deep
          go (inl a) =
              let s = staged (level-ahead a) in
              next s
              (reach deep (sym (due-down job deep inv.items a.none) ∙ a.later)
              (record { halves = s.paved.halves; words = s.paved.words; lead = s.paved.lead; runs = a.paved.runs; rows = a.paved.rows }))
          go (inr a) =
              let s = staged (level-there a) in
              let h = calm-down job deep inv.items a.calm in
              let W = g.change.shape.whole in
              next s
              (inr
              (
              record {
                tiles = each (opened d (m# w) limit) a.tiles;
                calm = h.0;
                paved = s.paved;
                wait = ap (keep (waits limit)) h.1
                    ∙ next-waits d (m# w) limit (omega (arith, W.fan.0)) (omega (arith, W.leaf.0, g.change.leafy)) g.base
                    (runs_of inv.items) a.tiles a.paved.runs
                    a.wait;
                below = sym (leaves-down d (m# w) limit deep a.tiles) ∙ a.below;
              }
              ))

  -- ---- all levels are opened
  going_done : {room work : List ℕ} {lo hi : ℕ} → Going room work lo hi 0
      → Layered job (n# w + added) g.left g.base g.fore g.rear g.origin room work hi
  going_done {room} {work} {lo} {hi} inv = go inv.runs
    where
      ns : inv.before ++ map (pending job) inv.items ≡ all_nodes job max_depth 1 (piece job 0 ∷ [])
      ns = ap (λ (x : List Node). inv.before ++ x) (sym (nodes-none job hi inv.items)) ∙ inv.whole

      go : Ahead inv.items work 0 ⊎ There inv.items work 0
          → Layered job (n# w + added) g.left g.base g.fore g.rear g.origin room work hi
      go (inl a) = absurd (cons≢nil (sym a.later ∙ due-bottom job inv.items a.none))
      go (inr a) =
          record {
            nodes = inv.stands ∙ ap (with_nodes g.origin) ns;
            count = inv.last ∙ sym (ap length (sym ns) ∙ length-append inv.before (map (pending job) inv.items)
                ∙ ap (λ (k : ℕ). length inv.before + k) (length-map inv.items (pending job)));
            tiles = a.paved.words ∙ ap (λ (x : List (List ℕ)). g.fore ++ (each (laid d) x ++ g.rear))
                (sym (leaves_none d (m# w) limit a.tiles) ∙ a.below);
          }

-- ---- as the loop counts: `depth` levels are opened
abbrev pub Goes : List ℕ → List ℕ → ℕ → ℕ → ℕ → List ℕ → List ℕ → List ℕ → List ℕ → ℕ → ℕ → ℕ → Type 0
Goes t w v added limit room₀ work₀ room work lo hi depth = (g : Planted t w v added limit room₀ work₀) → Going g room work lo hi (max_depth - depth)

module _ {t w : List ℕ} {v added limit : ℕ} {room₀ work₀ : List ℕ} (g : Planted t w v added limit room₀ work₀) where
  pub goes_start : Going g room₀ work₀ 0 1 (max_depth - 0)
  goes_start = going_start g

  module _ {room work : List ℕ} {lo hi depth : ℕ} (inv : Going g room work lo hi (max_depth - depth)) where
    -- one level less than before
    less : depth < max_depth → max_depth - depth ≡ suc (max_depth - (depth + 1))
    less h = omega arith

    -- the next level has its pieces and tiles
    pub goes-level : depth < max_depth → Level t w v added limit room work lo hi
    goes-level h = going-level g (subst (Going g room work lo hi) (less h) inv)

    -- it is opened
    pub goes_step : {room' work' : List ℕ} {made : ℕ} → depth < max_depth → Staged t w v added limit room work lo hi room' work' made
        → Going g room' work' hi made (max_depth - (depth + 1))
    goes_step h staged = going_step g (subst (Going g room work lo hi) (less h) inv) staged

    -- all levels are
    pub goes-done : max_depth ≤ depth
        → Layered (job_of t w v added limit g.run) (n# w + added) g.left g.base g.fore g.rear g.origin room work hi
    goes-done h =
        let z : max_depth - depth ≡ 0 = omega arith in
        going_done g (subst (Going g room work lo hi) z inv)
