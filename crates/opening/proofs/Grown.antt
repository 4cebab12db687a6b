-- A run that has grown beyond the leaf size is opened: it can be split, and its parts stand in its place. Assumes nothing.
use Prim.Native.Nat.{◌*◌, ◌+◌, ◌<◌, ◌≤◌, suc, ℕ}
use Rattle.appending.proofs.Lowest.{orderly_tally}
use Rattle.appending.specs.Append.{Ascends, orderly}
use Rattle.dealing.specs.Pending.{StandAll, pend_of}
use Rattle.laws.proofs.Every.{every-both}
use Rattle.laws.proofs.Times.{every_same}
use Rattle.laws.specs.Every.{Every}
use Rattle.laws.specs.Lists as lists
use Rattle.laws.specs.Lists.{each, rest}
use Rattle.lodging.proofs.Above.{orderly-same}
use Rattle.measure.specs.Table.{between}
use Rattle.opening.proofs.Late.{late-parts, parts-ascend}
use Rattle.opening.specs.Opened.{Replaced}
use Rattle.opening.specs.Sound.{Late, Task}
use Rattle.rounds.specs.Stretch.{stretch}
use Rattle.split.proofs.Laid.{laid-long, under_rows}
use Rattle.split.specs.Places.{node_at_lem}
use Rattle.split.specs.Runs.{SplitAmong, Splittable, laid, rows, run_at, run_nodes, split_among}
use Rattle.swelling.proofs.Parting.{parts-runs}
use Rattle.swelling.specs.Pieces.{grown_from}
use Rattle.swelling.specs.Swell.{parts}
use Rattle.tree.specs.Build.{Run, inner_reach, radius}
use Rattle.tree.specs.Encode.{node_words}
use Rattle.words.specs.Words.{c#, circles#, l#, m#}
use lib.Dec.{eqb, leb}
use lib.ListN.{drop, length, length-append, take}
use lib.Seq.{drop_at, take_at}
use mathlib.Core.Bool.{Bool, ◌||◌, cond, false, true}
use mathlib.Core.List.{List, [], ◌++◌, ◌∷◌, map}
use mathlib.Core.Path.{◌∙◌, ◌≡◌, ap, ap₂, refl, subst, sym}
use native.Mathlib.Omega.{arith}

module _ (t w : List ℕ) (last : Bool) where
  -- how far two rows are apart
  abbrev d : ℕ → ℕ → ℕ
  d = between t (c# w) (circles# w)

  -- the nodes of runs side by side are those of their pieces
  pub grown-nodes : (s : ℕ) (gs : List (List ℕ))
      → run_nodes (between t (c# w) (circles# w)) s gs ≡ each (node_words 2) (map (pend_of t w last) (grown_from (between t (c# w) (circles# w)) s gs))
  unfolding run_nodes
  grown-nodes s [] = refl
  grown-nodes s (q ∷ gs) = ap (λ (x : List ℕ). s ∷ length q ∷ 0 ∷ radius d q ∷ inner_reach d q ∷ x) (grown-nodes (s + length q) gs)

  -- runs that are in order stand as they are laid
  pub grown-stand : (s : ℕ) (gs : List (List ℕ)) → Every (λ q. orderly q ≡ q) gs
      → StandAll t w last (grown_from (between t (c# w) (circles# w)) s gs) (each (laid (between t (c# w) (circles# w))) gs)
  grown-stand s [] h = refl
  grown-stand s (q ∷ gs) h =
      let more : List ℕ = each (laid d) gs in (
        omega (arith, length-append (laid d q) more, laid-long d q),
        take_at (laid d q) more (3 * length q) (laid-long d q) ∙ ap (laid d) (sym (either (last || leb (length q) (l# w)) h.0)),
        subst (StandAll t w last (grown_from d (s + length q) gs)) (sym (drop_at (laid d q) more (3 * length q) (laid-long d q)))
            (grown-stand (s + length q) gs h.1),
      )
    where
      either : (b : Bool) → orderly q ≡ q → cond b q (orderly q) ≡ q
      either true e = refl
      either false e = e

-- ---- a run of more than l rows, which stands in order at position s
pub record Ready (t w : List ℕ) (n : ℕ) (run room work : List ℕ) (s made : ℕ) : Type 0 where
  pub task : Task t w n
  pub good : Run run
  pub low : Every (λ i. i < n) run
  pub large : l# w < length run
  pub late : Late (l# w) run
  pub inside : s + length run ≤ n
  pub halves : 6 * n ≤ length work
  pub nodes : node_at_lem (made + m# w) ≤ length room
  pub stands : stretch work (3 * s) (3 * s + 3 * length run) ≡ laid (between t (c# w) (circles# w)) (orderly run)

module _ {t w : List ℕ} {n : ℕ} {run room work : List ℕ} {s made : ℕ} (g : Ready t w n run room work s made) where
  -- how far two rows are apart
  abbrev D : ℕ → ℕ → ℕ
  D = between t (c# w) (circles# w)

  -- the centres are two or more, and no more than a leaf has rows
  two : 2 ≤ m# w
  two = g.task.shape.whole.fan.0

  fan : m# w ≤ l# w
  fan = g.task.shape.whole.leaf.0

  -- its rows are read in order
  read : run_at work s (length run) ≡ orderly run
  read = ap rows g.stands ∙ under_rows (D (lists.head (orderly run))) (lists.head (orderly run)) (orderly run)

  -- it can be split
  pub run-ready : Splittable t (c# w) (circles# w) (m# w) n room work s (length run) made
  run-ready =
      record {
        columns = g.task.shape.whole.columns.1;
        few = g.task.few;
        table = g.task.table;
        share = omega (arith, two);
        centred = omega (arith, fan, g.large);
        inside = g.inside;
        halves = g.halves;
        nodes = g.nodes;
        known = g.stands ∙ ap (laid D) (sym read);
        rows = rw read (every_same (λ i. i < n) run (orderly run) (λ i. orderly_tally (eqb i) run g.good.0) g.low);
        once = rw read (λ i. omega (arith, orderly_tally (eqb i) run g.good.0, g.good.1 i));
      }

  -- its parts are in order
  parts_order : Every (λ q. orderly q ≡ q) (parts (between t (c# w) (circles# w)) (m# w) (l# w) run)
  parts_order =
      every-both Run (λ q. Ascends (rest q)) (λ q. orderly q ≡ q) (λ q r a. orderly-same q r.0 a) (parts D (m# w) (l# w) run)
      (parts-runs D (m# w) (l# w) (omega (arith, two)) fan run g.good g.large) (parts-ascend D (m# w) (l# w) run g.large g.late)

  -- IT IS
  pub run-done : {room' work' : List ℕ} (last : Bool)
      → SplitAmong t (c# w) (circles# w) (m# w) (l# w + 1) n room work s (length run) made room' work'
      → Replaced t w n last (grown_from (between t (c# w) (circles# w)) s (parts (between t (c# w) (circles# w)) (m# w) (l# w) run)) room work s
      (length run) made room' work'
  run-done last got =
      let up : l# w + 1 ≡ suc (l# w) = omega arith in
      let gs : List (List ℕ) = parts D (m# w) (l# w) run in
      let same : split_among D (m# w) (l# w + 1) (run_at work s (length run)) ≡ gs =
      ap₂ (λ (i : ℕ) (x : List ℕ). split_among D (m# w) i x) up read ∙ sym (late-parts D (m# w) (l# w) run g.large g.late) in
      record {
        nodes =
            got.nodes
            ∙ ap (λ (x : List (List ℕ)). take (node_at_lem made) room ++ (run_nodes D s x ++ drop (node_at_lem (made + m# w)) room)) same
            ∙ ap (λ (x : List ℕ). take (node_at_lem made) room ++ (x ++ drop (node_at_lem (made + m# w)) room)) (grown-nodes t w last s gs);
        part = each (laid D) gs;
        stand = grown-stand t w last s gs parts_order;
        words =
            got.words
            ∙ ap (λ (x : List (List ℕ)). take (3 * s) work ++ (each (laid D) x ++ stretch work (3 * s + 3 * length run) (3 * n))) same;
      }
