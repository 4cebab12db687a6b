-- The runs that pave a part of the workspace: one of them where it stands, and its place taken by its children's runs. Assumes nothing.
use Prim.Native.Nat.{◌*◌, ◌+◌, ◌-◌, ◌<◌, ◌≤◌, ℕ}
use Rattle.growing.proofs.Tiles.{split_rows}
use Rattle.growing.proofs.Waiting.{able_run, runs_able}
use Rattle.growing.specs.Levels.{Able}
use Rattle.laws.proofs.Every.{every_append, every-left, every-right}
use Rattle.laws.proofs.Joins.{each_append, part-one, part-three, part-two}
use Rattle.laws.specs.Every.{Every}
use Rattle.laws.specs.Lists.{each, head, joined}
use Rattle.regrow.specs.Stages.{Paved}
use Rattle.rounds.specs.Stretch.{stretch}
use Rattle.split.proofs.Laid.{laid-long, runs-long, under_rows}
use Rattle.split.specs.Runs.{laid, rows, run_at}
use Rattle.tree.proofs.Grow.{split_runs}
use Rattle.tree.specs.Build.{Run, split}
use lib.Dec.{leb}
use lib.ListN.{drop, length, length-append, take}
use lib.Seq.{length-take-le}
use mathlib.Core.Bool.{false}
use mathlib.Core.List.{List, [], ◌++◌, ◌∷◌, append_assoc, append-nil}
use mathlib.Core.Path.{◌∙◌, ◌≡◌, ap, ap₂, refl, sym}
use native.Mathlib.Omega.{arith}

-- ---- one tile among the others
module _ {d : ℕ → ℕ → ℕ} {limit n base : ℕ} {fore rear work : List ℕ} (front : List (List ℕ)) (run : List ℕ) (back : List (List ℕ))
    (paved : Paved d limit n base fore rear work (front ++ run ∷ back)) where
  -- where it starts
  abbrev place : ℕ
  place = base + length (joined front)

  -- the words before it
  abbrev X : List ℕ
  X = fore ++ each (laid d) front

  -- and those behind it
  abbrev Z : List ℕ
  Z = each (laid d) back ++ rear

  -- the words of tiles that stand between others
  around : (mid : List (List ℕ)) → fore ++ (each (laid d) (front ++ (mid ++ back)) ++ rear) ≡ X ++ (each (laid d) mid ++ Z)
  around mid =
      ap (λ (x : List ℕ). fore ++ (x ++ rear)) (each_append (laid d) front (mid ++ back))
      ∙ ap (λ (x : List ℕ). fore ++ x) (append_assoc (each (laid d) front) (each (laid d) (mid ++ back)) rear)
      ∙ sym (append_assoc fore (each (laid d) front) (each (laid d) (mid ++ back) ++ rear))
      ∙ ap (λ (x : List ℕ). X ++ x) (ap (λ (x : List ℕ). x ++ rear) (each_append (laid d) mid back)
      ∙ append_assoc (each (laid d) mid) (each (laid d) back) rear)

  -- the first half of the workspace, cut before it and behind it
  cut : take (3 * n) work ≡ X ++ (laid d run ++ Z)
  cut =
      paved.words ∙ around (run ∷ [])
      ∙ ap (λ (x : List ℕ). X ++ (x ++ Z)) (append-nil (laid d run))

  -- as far as it starts
  lead-long : length X ≡ 3 * place
  lead-long = length-append fore (each (laid d) front) ∙ omega (arith, paved.lead, runs-long d front)

  -- the words before it, its own and those behind it are 3n
  whole : 3 * place + 3 * length run + length Z ≡ 3 * n
  whole =
      omega (
        arith,
        ap length cut,
        length-append X (laid d run ++ Z),
        length-append (laid d run) Z,
        lead-long,
        laid-long d run,
        length-take-le (3 * n) work (omega (arith, paved.halves)),
      )

  -- it ends among the n positions
  pub paved-inside : base + length (joined front) + length run ≤ n
  paved-inside = omega (arith, whole)

  -- where it has more rows than the limit, none stands in it twice
  pub paved-run : leb (length run) limit ≡ false → Run run
  paved-run large = able_run limit run (every-right (Able limit) front (run ∷ back) paved.runs).0 large

  -- its rows are below n
  pub paved-rows : Every (λ i. i < n) run
  paved-rows = (every-right (Every (λ i. i < n)) front (run ∷ back) paved.rows).0

  -- its words are its entries
  pub paved-words : stretch work (3 * (base + length (joined front))) (3 * (base + length (joined front)) + 3 * length run) ≡ laid d run
  paved-words =
      let k : 3 * place + 3 * length run - 3 * place ≡ 3 * length run = omega arith in
      ap (λ (i : ℕ). take i (drop (3 * place) work)) k
      ∙ part-two work X (laid d run) Z (3 * n) (3 * place) (3 * length run) cut lead-long (laid-long d run)

  -- so that its rows are read there
  pub paved-read : run_at work (base + length (joined front)) (length run) ≡ run
  paved-read = ap rows paved-words ∙ under_rows (d (head run)) (head run) run

  -- ---- its children's runs take its place
  module _ (large : leb (length run) limit ≡ false) (m : ℕ) (m1 : 1 ≤ m) (centred : m ≤ length run) where
    -- its children's runs
    abbrev kids : List (List ℕ)
    kids = split d m run

    pub kids-paved : {work' : List ℕ} → length work' ≡ length work
        → take (3 * n) work' ≡ take (3 * (base + length (joined front))) work
        ++ (each (laid d) (split d m run) ++ stretch work (3 * (base + length (joined front)) + 3 * length run) (3 * n))
        → Paved d limit n base fore rear work' (front ++ (split d m run ++ back))
    kids-paved same e =
        let P : ℕ → Type 0 = λ i. i < n in
        let A : List ℕ → Type 0 = Able limit in
        let k : 3 * n - (3 * place + 3 * length run) ≡ length Z = omega (arith, whole) in
        let before = part-one work X (laid d run) Z (3 * n) (3 * place) (3 * length run) cut lead-long (laid-long d run) in
        let behind = ap (λ (i : ℕ). take i (drop (3 * place + 3 * length run) work)) k
        ∙ part-three work X (laid d run) Z (3 * n) (3 * place) (3 * length run) cut lead-long (laid-long d run) (length Z) refl in
        record {
          halves = omega (arith, paved.halves);
          words = e ∙ ap₂ (λ (x y : List ℕ). x ++ (each (laid d) kids ++ y)) before behind ∙ sym (around kids);
          lead = paved.lead;
          runs = every_append A front (kids ++ back) (every-left A front (run ∷ back) paved.runs)
              (every_append A kids back (runs_able limit kids (split_runs d m m m1 (omega arith) run (paved-run large) centred))
              (every-right A front (run ∷ back) paved.runs).1);
          rows = every_append (Every P) front (kids ++ back) (every-left (Every P) front (run ∷ back) paved.rows)
              (every_append (Every P) kids back (split_rows d m run m1 centred (paved-run large) P paved-rows)
              (every-right (Every P) front (run ∷ back) paved.rows).1);
        }
