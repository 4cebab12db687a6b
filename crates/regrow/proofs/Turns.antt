-- One level, node after node, from its first to behind its last. Assumes nothing.
use Prim.Native.Nat.{◌+◌, ◌<◌, ◌≤◌, suc, zero, ℕ}
use Rattle.growing.proofs.Waiting.{none-waiting, small-opened}
use Rattle.growing.specs.Levels.{opened, placed, waits}
use Rattle.growing.specs.Stages.{with_nodes}
use Rattle.laws.proofs.Every.{every_append}
use Rattle.laws.proofs.Joins.{each_append}
use Rattle.laws.specs.Every.{Every}
use Rattle.laws.specs.Lists.{joined, keep, range}
use Rattle.measure.specs.Table.{between}
use Rattle.regrow.proofs.Halves.{Half, Levelling, front, gone, job}
use Rattle.regrow.proofs.Rows.{all_more, out_long}
use Rattle.regrow.proofs.Steps.{half-open, half_step}
use Rattle.regrow.specs.Pieces.{Job, Piece, Sound, fresh, fresh_of, kept, level_out_lem, next_level, parts, pending, piece}
use Rattle.regrow.specs.Stages.{Level, Openable', Opened', Paved, Stage}
use Rattle.tree.specs.Build.{split}
use Rattle.tree.specs.Encode.{Node}
use Rattle.words.specs.Words.{nodes#, c#, circles#, m#, n#}
use borrow.Author.Tests.{eqb-false}
use lib.Dec.{eqb, leb}
use lib.ListN.{length, length-append}
use mathlib.Core.Bool.{Bool, cond, false, true}
use mathlib.Core.List.{List, [], ◌++◌, ◌∷◌, append-nil, map}
use mathlib.Core.Path.{◌∙◌, ◌≡◌, ap, ap₂, refl, subst, sym}
use native.Mathlib.Omega.{arith}

-- ---- the level below can stay where this one can
-- a run can
one_sound : (j : Job) (many deep : ℕ) (q : ℕ × List ℕ) → Sound j many deep (fresh_of j.d q)
unfolding Sound
one_sound j many zero q = tt
one_sound j many (suc deep) q = tt

-- so for runs
fresh_sound : (j : Job) (many deep : ℕ) (qs : List (ℕ × List ℕ)) → Every (λ p. Sound j many deep p) (map (fresh_of j.d) qs)
fresh_sound j many deep [] = tt
fresh_sound j many deep (q ∷ qs) = (one_sound j many deep q, fresh_sound j many deep qs)

-- a piece's parts can
parts_sound : (j : Job) (many deep : ℕ) (q : Piece) → Sound j many (suc deep) q → Every (λ p. Sound j many deep p) (parts j q)
unfolding Sound
parts_sound j many deep (kept o) h = go (eqb (j.copy o).2 0) refl
  where
    go : (b : Bool) → eqb (j.copy o).2 0 ≡ b
        → Every (λ p. Sound j many deep p) (cond b [] (map (piece j) (range (j.copy o).2 j.m)))
    go true e = tt
    go false e = (h.1 (eqb-false (j.copy o).2 0 e)).1
parts_sound j many deep (fresh s R r) h = go (leb (length r) j.limit)
  where
    go : (b : Bool) → Every (λ p. Sound j many deep p) (cond b [] (map (fresh_of j.d) (placed s (split j.d j.m r))))
    go true = tt
    go false = fresh_sound j many deep (placed s (split j.d j.m r))

-- so for a level
next_sound : (j : Job) (many deep : ℕ) (qs : List Piece) → Every (λ p. Sound j many (suc deep) p) qs
    → Every (λ p. Sound j many deep p) (next_level j qs)
next_sound j many deep [] h = tt
next_sound j many deep (q ∷ qs) h =
    every_append (λ p. Sound j many deep p) (parts j q) (next_level j qs) (parts_sound j many deep q h.0) (next_sound j many deep qs h.1)

-- the nodes before k are opened, whatever pieces and tiles the level has
abbrev pub Turn : List ℕ → List ℕ → ℕ → ℕ → ℕ → List ℕ → List ℕ → ℕ → ℕ → List ℕ → List ℕ → ℕ → ℕ → Type 0
Turn t w v added limit room₀ work₀ lo hi room work made k = (g : Level t w v added limit room₀ work₀ lo hi) → Levelling g room work made k

module _ {t w : List ℕ} {v added limit : ℕ} {room₀ work₀ : List ℕ} {lo hi : ℕ} (g : Level t w v added limit room₀ work₀ lo hi) where
  -- no node is opened yet
  pub levelling-start : Levelling g room₀ work₀ hi lo
  unfolding level_out_lem
  levelling-start =
      let z : length g.before + 0 ≡ length g.before = omega arith in
      let y : hi + 0 ≡ hi = omega arith in
      let x : g.base + 0 ≡ g.base = omega arith in
      record {
        done = [];
        todo = g.items;
        past = [];
        ahead = g.tiles;
        half =
            record {
              all = refl;
              runs = refl;
              nodes =
                  g.stage.nodes
                  ∙ ap₂ (λ (x y : List Node). with_nodes g.origin (x ++ y)) (sym (append-nil g.before))
                  (sym (append-nil (map (pending (job g)) g.items)));
              count = sym y;
              here = g.stage.first ∙ sym z;
              paved = g.stage.paved;
              wait = g.wait ∙ ap (λ (i : ℕ). keep (waits limit) (placed i g.tiles)) (sym x);
            };
      }

  module _ {room work : List ℕ} {made k : ℕ} (inv : Levelling g room work made k) where
    -- ---- node k, while there is one
    -- what opening it asks
    pub levelling-open : k < hi → Openable' t w v added limit room work k made
    levelling-open h = go inv.todo inv.half
      where
        go : (todo : List Piece) → Half g inv.done todo inv.past inv.ahead room work made k → Openable' t w v added limit room work k made
        go [] f = absurd (omega (arith, f.here, ap length f.all, length-append inv.done [], g.stage.last))
        go (q ∷ rest) f = half-open g q f

    -- it is opened
    pub levelling-step : {room' work' : List ℕ} {r : ℕ} → k < hi → length work' ≡ length work
        → Opened' t w v added limit room work k made room' work' r
        → Levelling g room' work' r (k + 1)
    levelling-step {room'} {work'} {r} h same got = go inv.todo inv.half
      where
        go : (todo : List Piece) → Half g inv.done todo inv.past inv.ahead room work made k → Levelling g room' work' r (k + 1)
        go [] f = absurd (omega (arith, f.here, ap length f.all, length-append inv.done [], g.stage.last))
        go (q ∷ rest) f = half_step g q f same got

    -- ---- behind the last: the stage one level down
    pub levelling-done : hi ≤ k
        → Stage (job g) (nodes# w) (n# w + added) g.deep g.base g.most g.fore g.rear g.origin
        (g.before ++ level_out_lem (job g) hi g.items) (next_level (job g) g.items) (gone g g.tiles) room work hi made
    levelling-done h = go inv.todo inv.half
      where
        go : (todo : List Piece) → Half g inv.done todo inv.past inv.ahead room work made k
            → Stage (job g) (nodes# w) (n# w + added) g.deep g.base g.most g.fore g.rear g.origin
            (g.before ++ level_out_lem (job g) hi g.items) (next_level (job g) g.items) (gone g g.tiles) room work hi made
        go (q ∷ rest) f = absurd (omega (arith, f.here, ap length f.all, length-append inv.done (q ∷ rest), g.stage.last))
        go [] f =
            let e : g.items ≡ inv.done = f.all ∙ append-nil inv.done in
            let small = none-waiting limit (g.base + length (joined (gone g inv.past))) inv.ahead f.wait in
            let ts : gone g inv.past ++ inv.ahead ≡ gone g g.tiles =
            sym (ap (gone g) f.runs ∙ each_append (opened (between t (c# w) (circles# w)) (m# w) limit) inv.past inv.ahead
            ∙ ap (λ (x : List (List ℕ)). gone g inv.past ++ x) (small-opened (between t (c# w) (circles# w)) (m# w) limit inv.ahead small)) in
            let out : length (front g g.items) ≡ length g.before + length g.items =
            length-append g.before (level_out_lem (job g) hi g.items) ∙ ap (λ (i : ℕ). length g.before + i) (out_long (job g) hi g.items) in
            let many : made ≡ hi + length (next_level (job g) g.items) =
            f.count ∙ ap (λ (x : List Piece). hi + length (next_level (job g) x)) (sym e) in
            record {
              nodes =
                  f.nodes ∙ ap (λ (x : List Piece). with_nodes g.origin (front g x ++ map (pending (job g)) (next_level (job g) x))) (sym e);
              space = g.stage.space;
              small = g.stage.small;
              first = omega (arith, out, g.stage.last);
              last = omega (arith, out, many, g.stage.last);
              few = rw many (omega (arith, out, g.stage.few, all_more (job g) g.deep hi g.items));
              sound = next_sound (job g) (nodes# w) g.deep g.items g.stage.sound;
              paved = subst (Paved (between t (c# w) (circles# w)) limit (n# w + added) g.base g.fore g.rear work) ts f.paved;
            }
