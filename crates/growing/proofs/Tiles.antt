-- The runs that tile the workspace: one of them where it stands, and its place taken by its children's runs. Assumes nothing.
use Prim.Native.Nat.{◌*◌, ◌+◌, ◌-◌, ◌<◌, ◌≤◌, ℕ}
use Rattle.growing.specs.Stages.{Tiled}
use Rattle.laws.proofs.Every.{every_append, every-left, every-right}
use Rattle.laws.proofs.Joins.{each_append, part-one, part-three, part-two}
use Rattle.laws.proofs.Times.{every_same}
use Rattle.laws.specs.Every.{Every}
use Rattle.laws.specs.Lists.{each, head, joined}
use Rattle.split.proofs.Laid.{laid-long, runs-long, split-joined, under_rows}
use Rattle.rounds.specs.Stretch.{stretch}
use Rattle.split.specs.Runs.{laid, rows, run_at}
use Rattle.tree.proofs.Grow.{split-length, split_runs, split-tally}
use Rattle.tree.specs.Build.{Run, split}
use lib.Dec.{eqb}
use lib.ListN.{drop, length, length-append, take}
use mathlib.Core.List.{List, [], ◌++◌, ◌∷◌}
use mathlib.Core.Path.{◌∙◌, ◌≡◌, ap, ap₂, sym}
use native.Mathlib.Omega.{arith}

-- the rows of runs that follow each other are counted run by run
pub joined_append : (xs ys : List (List ℕ)) → length (joined (xs ++ ys)) ≡ length (joined xs) + length (joined ys)
joined_append xs ys = ap length (each_append (λ r. r) xs ys) ∙ length-append (joined xs) (joined ys)

-- no run is empty, so that there are at most as many as rows
pub runs_few : (ts : List (List ℕ)) → Every Run ts → length ts ≤ length (joined ts)
runs_few [] h = omega arith
runs_few (r ∷ ts) h = omega (arith, runs_few ts h.1, h.0.0, length-append r (joined ts))

-- what holds of every row holds of every row of every run
pub every_joined : (P : ℕ → Type 0) (rs : List (List ℕ)) → Every P (joined rs) → Every (Every P) rs
every_joined P [] h = tt
every_joined P (r ∷ rs) h = (every-left P r (joined rs) h, every_joined P rs (every-right P r (joined rs) h))

-- what holds of a run's rows holds of its children's
pub split_rows : (d : ℕ → ℕ → ℕ) (m : ℕ) (run : List ℕ) → 1 ≤ m → m ≤ length run → Run run → (P : ℕ → Type 0) → Every P run
    → Every (Every P) (split d m run)
split_rows d m run m1 centred r P h =
    every_joined P (split d m run) (every_same P run (joined (split d m run)) (λ i. split-tally d m m m1 (omega arith) (eqb i) run r centred) h)

-- ---- one tile among the others
module _ {d : ℕ → ℕ → ℕ} {n : ℕ} {work : List ℕ} (front : List (List ℕ)) (run : List ℕ) (back : List (List ℕ))
    (tiled : Tiled d n work (front ++ run ∷ back)) where
  -- where it starts
  abbrev place : ℕ
  place = length (joined front)

  -- the words before it
  abbrev fore : List ℕ
  fore = each (laid d) front

  -- and those behind it
  abbrev rear : List ℕ
  rear = each (laid d) back

  -- the rows before it, its own and those behind it are n
  whole : place + length run + length (joined back) ≡ n
  whole = omega (arith, joined_append front (run ∷ back), length-append run (joined back), tiled.full)

  -- the first half of the workspace, cut before it and behind it
  cut : take (3 * n) work ≡ fore ++ (laid d run ++ rear)
  cut = tiled.words ∙ each_append (laid d) front (run ∷ back)

  -- it ends among the n positions
  pub tile-inside : length (joined front) + length run ≤ n
  tile-inside = omega (arith, whole)

  -- it is not empty and has no row twice
  pub tile-run : Run run
  tile-run = (every-right Run front (run ∷ back) tiled.runs).0

  -- its rows are below n
  pub tile-rows : Every (λ i. i < n) run
  tile-rows = (every-right (Every (λ i. i < n)) front (run ∷ back) tiled.rows).0

  -- its words are its entries
  pub tile-words : stretch work (3 * length (joined front)) (3 * length (joined front) + 3 * length run) ≡ laid d run
  tile-words =
      let k : 3 * place + 3 * length run - 3 * place ≡ 3 * length run = omega arith in
      ap (λ (j : ℕ). take j (drop (3 * place) work)) k
      ∙ part-two work fore (laid d run) rear (3 * n) (3 * place) (3 * length run) cut (runs-long d front) (laid-long d run)

  -- so that its rows are read there
  pub tile-read : run_at work (length (joined front)) (length run) ≡ run
  tile-read = ap rows tile-words ∙ under_rows (d (head run)) (head run) run

  -- ---- its children's runs take its place
  module _ (m : ℕ) (m1 : 1 ≤ m) (centred : m ≤ length run) where
    -- its children's runs
    abbrev kids : List (List ℕ)
    kids = split d m run

    -- the tiles have n rows still
    kids-full : length (joined (front ++ (kids ++ back))) ≡ n
    kids-full = omega (arith, joined_append front (kids ++ back), joined_append kids back, split-joined d m run m1 centred tile-run, whole)

    -- they are runs
    kids-runs : Every Run (front ++ (kids ++ back))
    kids-runs =
        every_append Run front (kids ++ back) (every-left Run front (run ∷ back) tiled.runs)
        (every_append Run kids back (split_runs d m m m1 (omega arith) run tile-run centred) (every-right Run front (run ∷ back) tiled.runs).1)

    -- there are m - 1 more tiles, and still at most n
    pub kids-few : length front + length back + m ≤ n
    kids-few =
        omega (
          arith,
          runs_few (front ++ (kids ++ back)) kids-runs,
          kids-full,
          length-append front (kids ++ back),
          length-append kids back,
          split-length d m m m1 (omega arith) run,
        )

    -- the workspace is tiled by them
    pub kids-tiled : {work' : List ℕ} → length work' ≡ length work
        → take (3 * n) work' ≡ take (3 * length (joined front)) work
        ++ (each (laid d) (split d m run) ++ stretch work (3 * length (joined front) + 3 * length run) (3 * n))
        → Tiled d n work' (front ++ (split d m run ++ back))
    kids-tiled same e =
        let P : ℕ → Type 0 = λ i. i < n in
        let k : 3 * n - (3 * place + 3 * length run) ≡ 3 * length (joined back) = omega (arith, whole) in
        let before =
        part-one work fore (laid d run) rear (3 * n) (3 * place) (3 * length run) cut (runs-long d front) (laid-long d run) in
        let behind = ap (λ (j : ℕ). take j (drop (3 * place + 3 * length run) work)) k
        ∙ part-three work fore (laid d run) rear (3 * n) (3 * place) (3 * length run) cut (runs-long d front) (laid-long d run)
        (3 * length (joined back)) (runs-long d back) in
        record {
          halves = omega (arith, tiled.halves);
          words =
              e ∙ ap₂ (λ (x y : List ℕ). x ++ (each (laid d) kids ++ y)) before behind
              ∙ sym (each_append (laid d) front (kids ++ back) ∙ ap (λ (x : List ℕ). fore ++ x) (each_append (laid d) kids back));
          runs = kids-runs;
          rows = every_append (Every P) front (kids ++ back) (every-left (Every P) front (run ∷ back) tiled.rows)
              (every_append (Every P) kids back (split_rows d m run m1 centred tile-run P tile-rows)
              (every-right (Every P) front (run ∷ back) tiled.rows).1);
          full = kids-full;
        }
