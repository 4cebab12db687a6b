-- One level, node after node, from its first to behind its last. Assumes nothing.
use Prim.Native.Nat.{◌*◌, ◌+◌, ◌<◌, ◌≤◌, ℕ}
use Rattle.growing.proofs.Halfway.{Half, Levelling, fore, one}
use Rattle.growing.proofs.Items.{out_long}
use Rattle.growing.proofs.Opening.{half-open, half_step}
use Rattle.growing.proofs.Waiting.{next-waits, none-waiting, runs_able, small-opened}
use Rattle.growing.specs.Levels.{Item, leaf_node, level_out_lem, next_level, opened}
use Rattle.growing.specs.Stages.{Level, Openable, Opened, Stage, Tiled, with_nodes}
use Rattle.laws.proofs.Joins.{each_append}
use Rattle.laws.specs.Lists.{each, joined}
use Rattle.measure.specs.Table.{between}
use Rattle.tree.specs.Encode.{Node}
use lib.ListN.{length, length-append}
use mathlib.Core.List.{List, [], ◌++◌, ◌∷◌, append-nil, map}
use mathlib.Core.Path.{◌∙◌, ◌≡◌, ap, ap₂, refl, subst, sym}
use native.Mathlib.Omega.{arith}

-- the nodes before k are opened, whatever items and tiles the level has
abbrev pub Turn : List ℕ → ℕ → ℕ → ℕ → ℕ → ℕ → List ℕ → List ℕ → ℕ → ℕ → List ℕ → List ℕ → ℕ → ℕ → Type 0
Turn t c o m l n room₀ work₀ lo hi room work made k = (g : Level t c o m l n room₀ work₀ lo hi) → Levelling g room work made k

module _ {t : List ℕ} {c o m l n : ℕ} {room₀ work₀ : List ℕ} {lo hi : ℕ} (g : Level t c o m l n room₀ work₀ lo hi) where
  -- how far two rows are apart
  abbrev d : ℕ → ℕ → ℕ
  d = between t c o

  -- no node is opened yet
  pub levelling-start : Levelling g room₀ work₀ hi lo
  unfolding level_out_lem
  levelling-start =
      let z : length g.before + 0 ≡ length g.before = omega arith in
      let y : hi + 0 ≡ hi = omega arith in
      record {
        done = [];
        todo = g.items;
        past = [];
        ahead = g.tiles;
        half =
            record {
              all = refl;
              runs = refl;
              nodes =
                  g.stage.nodes
                  ∙ ap₂ (λ (x y : List Node). with_nodes g.origin (x ++ y)) (sym (append-nil g.before))
                  (sym (append-nil (map (leaf_node d m l) g.items)));
              count = sym y;
              here = g.stage.first ∙ sym z;
              tiled = g.stage.tiled;
              wait = g.stage.wait;
              few = g.stage.few;
            };
      }

  module _ {room work : List ℕ} {made k : ℕ} (inv : Levelling g room work made k) where
    -- ---- node k, while there is one
    -- what opening it asks
    pub levelling-open : k < hi → Openable t c o m l n room work k made
    levelling-open h = go inv.todo inv.half
      where
        go : (todo : List Item) → Half g inv.done todo inv.past inv.ahead room work made k → Openable t c o m l n room work k made
        go [] f = absurd (omega (arith, f.here, ap length f.all, length-append inv.done [], g.stage.last))
        go (q ∷ rest) f = half-open g f

    -- it is opened
    pub levelling-step : {room' work' : List ℕ} {r : ℕ} → k < hi → length work' ≡ length work → Opened t c o m l n room work k made room' work' r
        → Levelling g room' work' r (k + 1)
    levelling-step {room'} {work'} {r} h same got = go inv.todo inv.half
      where
        go : (todo : List Item) → Half g inv.done todo inv.past inv.ahead room work made k → Levelling g room' work' r (k + 1)
        go [] f = absurd (omega (arith, f.here, ap length f.all, length-append inv.done [], g.stage.last))
        go (q ∷ rest) f = half_step g f same got

    -- ---- behind the last: the stage one level down
    pub levelling-done : hi ≤ k
        → Stage (between t c o) m l n g.origin (g.before ++ level_out_lem (between t c o) m l hi g.items) (next_level (between t c o) m l g.items)
        (each (opened (between t c o) m l) g.tiles) room work hi made
    levelling-done h = go inv.todo inv.half
      where
        go : (todo : List Item) → Half g inv.done todo inv.past inv.ahead room work made k
            → Stage d m l n g.origin (g.before ++ level_out_lem d m l hi g.items) (next_level d m l g.items)
            (each (opened d m l) g.tiles) room work hi made
        go (q ∷ rest) f = absurd (omega (arith, f.here, ap length f.all, length-append inv.done (q ∷ rest), g.stage.last))
        go [] f =
            let e : g.items ≡ inv.done = f.all ∙ append-nil inv.done in
            let small = none-waiting l (length (joined (each (opened d m l) inv.past))) inv.ahead f.wait in
            let ts : each (opened d m l) inv.past ++ inv.ahead ≡ each (opened d m l) g.tiles =
            sym (ap (each (opened d m l)) f.runs ∙ each_append (opened d m l) inv.past inv.ahead
            ∙ ap (λ (x : List (List ℕ)). each (opened d m l) inv.past ++ x) (small-opened d m l inv.ahead small)) in
            let out : length (fore g g.items) ≡ length g.before + length g.items =
            length-append g.before (level_out_lem d m l hi g.items) ∙ ap (λ (k : ℕ). length g.before + k) (out_long d m l hi g.items) in
            record {
              nodes =
                  f.nodes ∙ ap (λ (x : List Item). with_nodes g.origin (fore g x ++ map (leaf_node d m l) (next_level d m l x))) (sym e);
              space = g.stage.space;
              first = omega (arith, out, g.stage.last);
              last = omega (arith, out, f.count, ap (λ (x : List Item). length (next_level d m l x)) e, g.stage.last);
              few = subst (λ (x : List (List ℕ)). made + 1 ≤ 2 * length x) ts f.few;
              tiled = subst (Tiled d n work) ts f.tiled;
              wait = next-waits d m l (one g) g.fit.leafy 0 g.items g.tiles (runs_able l g.tiles g.stage.tiled.runs)
                  g.stage.wait;
            }
