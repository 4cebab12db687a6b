-- Why the call is refused: one law for each return of the code, and what holds where nothing is refused. Assumes nothing.
use Prim.Native.Nat.{◌<◌, ◌≤◌, ℕ}
use Rattle.append_refusals.proofs.Faults.{Free, circles-last, free, index_says, none-says, numbers-say}
use Rattle.append_refusals.specs.Numbers.{grow_faults}
use Rattle.append_rows_refusals.specs.Numbers.{said_append_rows}
use Rattle.build_refusals.specs.Numbers.{writer_asks}
use Rattle.limits.specs.Refusal.{said_by}
use Rattle.limits.specs.declared.refusal.Refusal.TheVariants.{OtherTable}
use Rattle.limits.specs.declared.refusal.Refusal.{Refusal}
use Rattle.limits.specs.Said.{Said, number_faults, said}
use Rattle.measure.specs.Table.{rows_of}
use Rattle.refusals.specs.Refused.{circle_faults}
use Rattle.words.proofs.Headers.{few_words}
use Rattle.index_test.proofs.Says.{says-words}
use Rattle.words.specs.Index.{index_faults}
use Rattle.words.specs.Words.{circles#, n#, words_ok_lem}
use borrow.Author.Tests.{le-leb, lt-leb}
use lib.Dec.{leb}
use lib.ListN.{length}
use mathlib.Core.Bool.{Bool, false, true}
use mathlib.Core.List.{List, []}
use mathlib.Core.Path.{◌≡◌, refl, sym}
use native.Mathlib.Omega.{arith}

module _ (T : List ℕ) (c : ℕ) (w : List ℕ) (room work : ℕ) where
  -- how many rows there are
  abbrev n : ℕ
  n = rows_of T c

  -- no row is new
  abbrev none : Bool
  none = leb n (n# w)

  -- what numbers refuse is what the call says
  pub numbers-refuse : (r : Refusal) → said_by r ≡ said (number_faults (writer_asks (length T) c false room work))
      → said_by r ≡ said_append_rows T c w room work
  unfolding said_append_rows
  numbers-refuse = numbers-say T c w room work none (n# w)

  module _ (z : (0, 0, 0) ≡ said (number_faults (writer_asks (length T) c false room work))) where
    -- there is no header: 8, whether or not a row is new by what stands there
    without-header : length w < 8 → (8, 0, 0) ≡ said (grow_faults T c w room work none (n# w))
    without-header h = go none refl
      where
        go : (b : Bool) → none ≡ b → (8, 0, 0) ≡ said (grow_faults T c w room work none (n# w))
        go true q = none-says T c w room work none (n# w) z q
        go false q = index_says T c w room work none (n# w) z q refl OtherTable (says-words (words_ok_lem w) w (n# w) c (sym (few_words w h)))

    -- so it is
    pub no_header : length w < 8 → (8, 0, 0) ≡ said_append_rows T c w room work
    unfolding said_append_rows
    no_header = without-header

    -- no row is new
    pub no_row : {j k : ℕ} → j ≡ n → k ≡ n# w → j ≤ k → (8, 0, 0) ≡ said_append_rows T c w room work
    unfolding said_append_rows
    no_row p q h = none-says T c w room work none (n# w) z (le-leb n (n# w) (omega arith))

    module _ {j k : ℕ} (p : j ≡ n) (q : k ≡ n# w) (h : k < j) where
      -- one is
      some : none ≡ false
      some = lt-leb n (n# w) (omega arith)

      -- what the index refuses
      pub index-refuses : (r : Refusal) → said_by r ≡ said (index_faults w k c) → said_by r ≡ said_append_rows T c w room work
      unfolding said_append_rows
      index-refuses = index_says T c w room work none (n# w) z some q

      -- what the circles say
      pub circles-decide : (0, 0, 0) ≡ said (index_faults w k c) → {o : ℕ} {s : Said} → o ≡ circles# w → s ≡ said (circle_faults c o T [])
          → s ≡ said_append_rows T c w room work
      unfolding said_append_rows
      circles-decide y = circles-last T c w room work none (n# w) z some q y

  -- WITH 0 NOTHING IS WRONG
  pub clear : (said_append_rows T c w room work).0 ≡ 0 → Free T c w room work none (n# w)
  unfolding said_append_rows
  clear = free T c w room work none (n# w)
