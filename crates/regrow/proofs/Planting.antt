-- An index in shape and a run in the workspace are all that growing anew needs; and what it leaves. Assumes nothing.
use Prim.Native.Nat.{◌*◌, ◌+◌, ◌-◌, ◌≤◌, ℕ}
use Rattle.copies.specs.Copies.{with_copies}
use Rattle.growing.specs.Levels.{Able}
use Rattle.growing.specs.Stages.{with_nodes}
use Rattle.limits.specs.Limits.{max_depth}
use Rattle.measure.specs.Table.{between}
use Rattle.regrow.proofs.Around.{own-start, own-words, root-count, root-fits, root-start}
use Rattle.regrow.proofs.Changes.{changed-pieces}
use Rattle.regrow.proofs.Few.{root-few}
use Rattle.regrow.proofs.Found.{Comes, root-due}
use Rattle.regrow.proofs.Rows.{piece-node}
use Rattle.regrow.proofs.Trees.{fits-sound, numbered-pieces}
use Rattle.regrow.specs.Calls.{Regrowable, Regrown, regrown_of}
use Rattle.regrow.specs.Pieces.{Fitting, Job, all_nodes, due, job_of, piece}
use Rattle.regrow.specs.Stages.{Leveled, Own, Planted}
use Rattle.rounds.specs.Stretch.{stretch}
use Rattle.split.specs.Runs.{laid}
use Rattle.tree.specs.Encode.{Node, numbered}
use Rattle.tree.specs.Grove.{bare, members#}
use Rattle.words.specs.Words.{nodes#, c#, circles#, count#, m#, n#, start#}
use lib.ListN.{drop, length, take}
use lib.Seq.{drop-drop, length-take-le, take-add}
use mathlib.Core.List.{List, [], ◌++◌, ◌∷◌, append-nil}
use mathlib.Core.Path.{◌∙◌, ◌≡◌, ap, ap₂, sym}
use native.Mathlib.Omega.{arith}

-- a list's first words in three parts
three_parts : (w : List ℕ) (a b N : ℕ) → a + b ≤ N → take N w ≡ take a w ++ (stretch w a (a + b) ++ stretch w (a + b) N)
three_parts w a b N h =
    let z : N ≡ a + (b + (N - (a + b))) = omega arith in
    let y : b ≡ a + b - a = omega arith in
    ap (λ (k : ℕ). take k w) z ∙ take-add a (b + (N - (a + b))) w
    ∙ ap (λ (x : List ℕ). take a w ++ x) (take-add b (N - (a + b)) (drop a w)
    ∙ ap₂ (λ (x y : List ℕ). x ++ y) (ap (λ (k : ℕ). take k (drop a w)) y) (ap (take (N - (a + b))) (drop-drop b a w)))

module _ {t w : List ℕ} {v added limit : ℕ} {room work : List ℕ} (g : Regrowable t w v added limit room work) where
  -- the work at hand
  abbrev J : Job
  J = job_of t w v added limit g.run

  -- how many rows
  abbrev n : ℕ
  n = n# w + added

  -- the words before the run, and those behind it
  abbrev fore : List ℕ
  fore = take (3 * start# w v) work

  abbrev rear : List ℕ
  rear = stretch work (3 * start# w v + 3 * length g.run) (3 * n)

  -- there is a root
  rooted : (start# w 0 ≡ 0) × (count# w 0 ≡ n# w)
  rooted =
      let r = g.change.shape.root (omega (arith, g.change.there, g.change.shape.whole.nodes)) in
      (r.start, r.count)

  -- the run can be opened
  able : Able limit g.run
  able = (omega (arith, g.count, (g.change.shape.node v g.change.there).some), g.once)

  -- the run is due once
  found : Comes t w v added limit g.run g.tree g.change.there (due J max_depth (piece J 0))
  found = root-due t w v added limit g.run g.tree g.change.there

  -- its node's words while it waits
  own : Own J
  own = own-words t w v added limit g.run g.tree g.change.there g.change.shape g.count able g.change.leafy

  -- the old nodes fit
  fitting : Fitting J (members# w) (nodes# w) max_depth (piece J 0)
  fitting = root-fits t w v added limit g.run g.tree g.change.there g.change.shape g.count able g.change.leafy _ found.once

  -- where it stands
  at : (J.copy v).0 ≡ start# w v
  at = own-start t w v added limit g.run g.tree g.change.there g.change.shape g.count able g.change.leafy

  two : 2 ≤ m# w
  two = g.change.shape.whole.fan.0

  leafy : m# w ≤ limit
  leafy = omega (arith, g.change.shape.whole.leaf.0, g.change.leafy)

  -- fewer nodes than twice the rows
  few : length (all_nodes J max_depth 1 (piece J 0 ∷ [])) + 1 ≤ 2 * n
  few =
      omega (
        arith,
        root-few J (members# w) (nodes# w) two leafy max_depth 1 (piece J 0) fitting,
        root-count t w v added limit g.run g.tree g.change.there g.change.shape g.count able g.change.leafy _ found.once,
        rooted.1,
      )

  -- the run ends among the positions
  inside : start# w v + length g.run ≤ n
  inside = omega (arith, g.count, (g.change.shape.node v g.change.there).run)

  -- ---- the root's node is copied
  pub planted : {room₁ : List ℕ} → room₁ ≡ with_copies J.copy 0 1 room 0 → Planted t w v added limit room₁ work
  planted {room₁} e =
      record {
        change = g.change;
        run = g.run;
        own = own;
        left = found.left;
        base = (J.copy v).0;
        most = 2 * n;
        fore = fore;
        rear = rear;
        origin = room;
        rooted =
            record {
              nodes = e ∙ ap (λ (x : Node). with_nodes room (x ∷ [])) (sym (piece-node J own 0));
              space = omega (arith, g.space);
              small = omega (arith, g.change.rows);
              few = omega (arith, few);
              sound = fits-sound J (members# w) (nodes# w) (omega (arith, two)) leafy max_depth (piece J 0) fitting;
              below = found.once;
              paved =
                  record {
                    halves = g.halves;
                    words = three_parts work (3 * start# w v) (3 * length g.run) (3 * n) (omega (arith, inside))
                        ∙ ap (λ (x : List ℕ). fore ++ (x ++ rear)) (g.stands ∙ sym (append-nil (laid (between t (c# w) (circles# w)) g.run)));
                    lead = length-take-le (3 * start# w v) work (omega (arith, inside, g.halves)) ∙ omega (arith, at);
                    runs = (able, tt);
                    rows = (g.rows, tt);
                  };
            };
      }

  -- ---- all levels stand
  pub regrown-all : {room₁ room' work' : List ℕ} {made : ℕ} → room₁ ≡ with_copies J.copy 0 1 room 0
      → Leveled t w v added limit room₁ work room' work' made → Regrown t w v added limit g.run room work room' work' made
  unfolding regrown_of planted
  regrown-all {room₁} e got =
      let s = got (planted e) in
      let same : numbered (regrown_of t w v added limit g.run) ≡ all_nodes J max_depth 1 (piece J 0 ∷ []) =
      ap numbered (changed-pieces t w v added limit g.run g.tree g.change.there max_depth 0 bare)
      ∙ numbered-pieces J (members# w) (nodes# w) (omega (arith, two)) leafy fitting
      (root-start t w v added limit g.run g.tree g.change.there g.change.shape g.count able g.change.leafy rooted.0) in
      record {
        nodes = s.nodes ∙ ap (with_nodes room) (sym same);
        count = s.count ∙ ap length (sym same);
        few = omega (arith, s.count, few);
        left = found.left;
        level = found.once ∙ ap (λ (i : ℕ). (found.left, (i, g.run)) ∷ []) at;
        entries = s.tiles;
      }
