-- How much a build gives back at most: 01, The tree, Index words, for the most rows that there can be; and its number. Assumes nothing.
use Prim.Native.Nat.{◌%◌, ◌*◌, ◌+◌, ◌≤◌, suc, zero, ℕ}
use Rattle.build_refusals.specs.Numbers.{said_build, short_of}
use Rattle.build.proofs.Outcomes.{Passed, built_fit}
use Rattle.build.specs.Calls.{Builds}
use Rattle.filling.proofs.Numbering.{numbered-levels}
use Rattle.filling.proofs.Whole.{encode-long}
use Rattle.growing.proofs.Items.{out_long, placed_long}
use Rattle.growing.proofs.Rooting.{root_run}
use Rattle.growing.specs.Levels.{Item, all_nodes, leaf_node, level_out_lem, next_level, placed}
use Rattle.growing.specs.Stages.{Fit}
use Rattle.laws.proofs.Every.{every_append}
use Rattle.laws.proofs.Ranges.{range_length}
use Rattle.laws.specs.Every.{Every}
use Rattle.laws.specs.Lists.{joined, range}
use Rattle.limits.specs.Chosen.{choice_ok}
use Rattle.limits.specs.Limits.{columns_ok_lem, max_depth, max_rows}
use Rattle.limits.specs.Said.{fault, number_faults, said}
use Rattle.limits.specs.declared.Params.{Params}
use Rattle.measure.proofs.OnCircle.{empty_on}
use Rattle.measure.specs.Table.{between, off_circle_lem, rows_of}
use Rattle.refusals.specs.Refused.{circle_faults}
use Rattle.split.proofs.Laid.{split-joined}
use Rattle.tree.proofs.Grow.{split-length, split_runs}
use Rattle.tree.specs.Build.{Run, build, plant, split}
use Rattle.tree.specs.Encode.{broods, encode, family, level_nodes, nodes, numbered}
use Rattle.words.specs.Words.{nodes#}
use borrow.Author.Tests.{eqb-true, leb-false}
use lib.Dec.{eqb, leb, ltb}
use lib.ListN.{length, length-append, length-map}
use mathlib.Core.Bool.{Bool, ◌||◌, cond, false, not, true}
use mathlib.Core.List.{List, [], ◌++◌, ◌∷◌}
use mathlib.Core.Logic.{◌⊎◌, inl, inr}
use mathlib.Core.Path.{◌∙◌, ◌≡◌, ap, refl, subst, sym}
use native.Mathlib.Omega.{arith}

-- how many rows some items have
rows : List Item → ℕ
rows [] = 0
rows (q ∷ qs) = length q.1 + rows qs

-- their runs are not empty, and no row is in one twice
Runs : List Item → Type 0
Runs qs = Every (λ q. Run q.1) qs

-- counted one stretch after the other
rows_append : (ps qs : List Item) → rows (ps ++ qs) ≡ rows ps + rows qs
unfolding rows
rows_append [] qs = omega arith
rows_append (p ∷ ps) qs = omega (arith, rows_append ps qs)

-- items of runs that follow each other have the rows of the runs
rows-placed : (s : ℕ) (rs : List (List ℕ)) → rows (placed s rs) ≡ length (joined rs)
unfolding rows
rows-placed s [] = refl
rows-placed s (r ∷ rs) = omega (arith, rows-placed (s + length r) rs, length-append r (joined rs))

-- and runs that are so
runs-placed : (s : ℕ) (rs : List (List ℕ)) → Every Run rs → Runs (placed s rs)
unfolding Runs
runs-placed s [] h = tt
runs-placed s (r ∷ rs) h = (h.0, runs-placed (s + length r) rs h.1)

module _ (d : ℕ → ℕ → ℕ) (m l : ℕ) (m2 : 2 ≤ m) (ml : m ≤ l) where
  -- a node that is split has a child
  m1 : 1 ≤ m
  m1 = omega arith

  -- the level below has such runs
  next-runs : (qs : List Item) → Runs qs → Runs (next_level d m l qs)
  unfolding Runs
  next-runs [] h = tt
  next-runs (q ∷ qs) h = go (leb (length q.1) l) refl (next-runs qs h.1)
    where
      go : (b : Bool) → leb (length q.1) l ≡ b → Every (λ q. Run q.1) (next_level d m l qs)
          → Every (λ q. Run q.1) (cond b [] (placed q.0 (split d m q.1)) ++ next_level d m l qs)
      go true e ih = ih
      go false e ih =
          every_append (λ q. Run q.1) (placed q.0 (split d m q.1)) (next_level d m l qs)
          (runs-placed q.0 (split d m q.1) (split_runs d m l m1 ml q.1 h.0 (omega (arith, leb-false (length q.1) l e)))) ih

  -- an item that stays has a row; one that is split has two children or more, and they have its rows
  next-few : (qs : List Item) → Runs qs → 2 * length qs + 2 * rows (next_level d m l qs) ≤ length (next_level d m l qs) + 2 * rows qs
  unfolding Runs rows
  next-few [] h = omega arith
  next-few (q ∷ qs) h = go (leb (length q.1) l) refl (next-few qs h.1)
    where
      go : (b : Bool) → leb (length q.1) l ≡ b → 2 * length qs + 2 * rows (next_level d m l qs) ≤ length (next_level d m l qs) + 2 * rows qs
          → 2 * suc (length qs) + 2 * rows (cond b [] (placed q.0 (split d m q.1)) ++ next_level d m l qs)
          ≤ length (cond b [] (placed q.0 (split d m q.1)) ++ next_level d m l qs) + 2 * (length q.1 + rows qs)
      go true e ih = omega (arith, h.0.0)
      go false e ih =
          let kids : List Item = placed q.0 (split d m q.1) in
          omega (
            arith,
            rows_append kids (next_level d m l qs),
            rows-placed q.0 (split d m q.1),
            split-joined d m q.1 m1 (omega (arith, leb-false (length q.1) l e)) h.0,
            length-append kids (next_level d m l qs),
            placed_long q.0 (split d m q.1),
            split-length d m l m1 ml q.1,
          )

  -- no more items than rows
  last-few : (qs : List Item) → Runs qs → length qs ≤ rows qs
  unfolding Runs rows
  last-few [] h = omega arith
  last-few (q ∷ qs) h = omega (arith, last-few qs h.1, h.0.0)

  -- the nodes of a level and of those below it: fewer than twice the rows
  all-few : (deep next : ℕ) (qs : List Item) → Runs qs → length (all_nodes d m l deep next qs) + length qs ≤ 2 * rows qs
  unfolding all_nodes
  all-few zero next qs h = omega (arith, length-map qs (leaf_node d m l), last-few qs h)
  all-few (suc deep) next qs h =
      let under : List Item = next_level d m l qs in
      omega (
        arith,
        all-few deep (next + length under) under (next-runs qs h),
        length-append (level_out_lem d m l next qs) (all_nodes d m l deep (next + length under) under),
        out_long d m l next qs,
        next-few qs h,
      )

  -- n rows have at most 2n nodes, whatever the distances
  nodes-few : (n : ℕ) → length (numbered (plant d m l n)) ≤ 2 * n
  unfolding numbered nodes level_nodes family broods rows Runs
  nodes-few zero = omega arith
  nodes-few (suc n) =
      let run = root_run (suc n) (omega arith) in
      omega (
        arith,
        ap length (numbered-levels d m l m1 ml (range 0 (suc n)) run),
        all-few max_depth 1 ((0, range 0 (suc n)) ∷ []) (run, tt),
        range_length 0 (suc n),
      )

module _ (T : List ℕ) (c o e m l : ℕ) (room work : List ℕ) where
  -- number 0: the numbers are in range
  fit : (said_build T c o e m l (length room) (length work)).0 ≡ 0 → Fit T c m l (rows_of T c)
  fit z =
      let p : Params = record { centres = m; leaf = l; circles = o } in
      let passed : Passed T c o e m l room work p = record { none = z; m_is = refl; l_is = refl; o_is = refl } in
      built_fit passed

  -- the index of any table that is not refused
  built-small : (said_build T c o e m l (length room) (length work)).0 ≡ 0
      → (length (build T c o 2 m l) ≤ 12 * max_rows + 8) × (nodes# (build T c o 2 m l) ≤ 2 * max_rows)
  unfolding build encode
  built-small z =
      let f = fit z in
      let few = nodes-few (between T c o) m l f.two f.leafy (rows_of T c) in
      (omega (arith, few, f.rows, encode-long f o refl), omega (arith, few, f.rows))

-- THE COUNTS ARE SMALL: at most 12n + 8 words and 2n nodes for the most rows, so that 32 bits hold them
pub build_small : {T : List ℕ} {c o e m l : ℕ} {room work room' work' : List ℕ} {number words nodes : ℕ}
    → Builds T c o e m l room work room' work' number words nodes
    → (words ≤ 12 * max_rows + 8) × (nodes ≤ 2 * max_rows)
build_small {T} {c} {o} {e} {m} {l} {room} {work} {number = number} {words} {nodes} b = go (eqb number 0) refl b.counted.0 b.counted.1
  where
    go : (t : Bool) → eqb number 0 ≡ t → words ≡ cond t (length (build T c o 2 m l)) 0 → nodes ≡ cond t (nodes# (build T c o 2 m l)) 0
        → (words ≤ 12 * max_rows + 8) × (nodes ≤ 2 * max_rows)
    go true q w k =
        let s = built-small T c o e m l room work (sym b.said ∙ eqb-true number 0 q) in
        (omega (arith, s.0), omega (arith, s.1))
    go false q w k = (omega arith, omega arith)

-- ---- the number
-- THE NUMBER IS AT MOST 5, OR IT IS 19 AND A CIRCULAR COLUMN HOLDS 3,600 OR MORE
pub build_low : {T : List ℕ} {c o e m l : ℕ} {room work room' work' : List ℕ} {number words nodes : ℕ}
    → Builds T c o e m l room work room' work' number words nodes → (number ≤ 5) ⊎ ((number ≡ 19) × (off_circle_lem c o T ≡ true))
unfolding said_build number_faults circle_faults
build_low {T} {c} {o} {e} {m} {l} {room} {work} b =
    subst (λ (k : ℕ). (k ≤ 5) ⊎ ((k ≡ 19) × (off_circle_lem c o T ≡ true))) (sym b.said)
    (rw (empty_on c o)
    (six_low (not (columns_ok_lem c)) (not (choice_ok c m l o e)) (not (eqb (length T % c) 0)) (ltb max_rows (rows_of T c))
    (short_of (rows_of T c) (length room) (length work)) (off_circle_lem c o T)))
  where
    -- the first of the five refusals that numbers decide, or 19, or 0
    six_low : (a b c d e f : Bool)
        → ((said ((fault 1 a ++ (fault 2 b ++ (fault 3 c ++ (fault 4 d ++ (fault 5 e ++ []))))) ++ fault 19 (f || false))).0 ≤ 5)
        ⊎ (((said ((fault 1 a ++ (fault 2 b ++ (fault 3 c ++ (fault 4 d ++ (fault 5 e ++ []))))) ++ fault 19 (f || false))).0 ≡ 19) × (f ≡ true))
    six_low true b c d e f = inl (omega arith)
    six_low false true c d e f = inl (omega arith)
    six_low false false true d e f = inl (omega arith)
    six_low false false false true e f = inl (omega arith)
    six_low false false false false true f = inl (omega arith)
    six_low false false false false false true = inr (refl, refl)
    six_low false false false false false false = inl (omega arith)
