-- Why an append is refused: one law for each return of the code, and what holds where nothing is refused. Assumes nothing.
use Rattle.limits.specs.Limits.{max_columns}
use Prim.Native.Nat.{ℕ, ◌*◌, ◌+◌, ◌-◌, ◌≤◌}
use Rattle.append_refusals.proofs.Faults.{Free, circles-last, few-columns, free, free_none, index_says, none-new, none-says, numbers-say, of-circles, of-index, of_numbers, there}
use Rattle.append_refusals.specs.Numbers.{said_append}
use Rattle.build_refusals.specs.Numbers.{room_of, writer_asks}
use Rattle.limits.proofs.Numbers.{Sized}
use Rattle.limits.specs.Refusal.{said_by}
use Rattle.limits.specs.declared.refusal.Refusal.{Refusal}
use Rattle.limits.specs.Said.{Said, number_faults, said}
use Rattle.measure.specs.Table.{off_circle_lem, rows_of}
use Rattle.refusals.specs.Refused.{circle_faults}
use Rattle.words.specs.Index.{index_faults}
use Rattle.words.specs.Shape.{shape_ok_lem}
use Rattle.words.specs.Words.{c#, circles#, n#, words_ok_lem}
use borrow.Author.Tests.{eq-eqb, eqb-false, ne_eqb}
use lib.Dec.{eqb}
use lib.ListN.{length}
use mathlib.Core.Bool.{Bool, false, true}
use mathlib.Core.List.{List, []}
use mathlib.Core.Path.{ap, ◌∙◌, ◌≡◌}
use native.Mathlib.Omega.{arith}

-- WITH 0 NOTHING IS WRONG: the index has one row less than the table
pub record Clear (T : List ℕ) (c : ℕ) (w : List ℕ) (room work : ℕ) : Type 0 where
  pub table : Sized (length T) c
  pub space : room_of (rows_of T c) ≤ room
  pub words : 6 * rows_of T c ≤ work
  pub rows : n# w + 1 ≡ rows_of T c
  pub columns : c# w ≡ c
  pub whole : words_ok_lem w ≡ true
  pub shape : shape_ok_lem w ≡ true
  pub on : off_circle_lem c (circles# w) T ≡ false

module _ (T : List ℕ) (c : ℕ) (w : List ℕ) (room work : ℕ) where
  -- how many rows there are
  abbrev n : ℕ
  n = rows_of T c

  -- what refuses it but for the rows that are new
  abbrev none : Bool
  none = eqb n 0

  -- what numbers refuse is what the call says
  pub numbers-refuse : (r : Refusal) → said_by r ≡ said (number_faults (writer_asks (length T) c false room work)) → said_by r ≡ said_append T c w room work
  unfolding said_append
  numbers-refuse = numbers-say T c w room work none (n - 1)

  module _ (z : (0, 0, 0) ≡ said (number_faults (writer_asks (length T) c false room work))) where
    -- there is no row
    pub no_row : n ≡ 0 → (8, 0, 0) ≡ said_append T c w room work
    unfolding said_append
    no_row q = none-says T c w room work none (n - 1) z (eq-eqb n 0 q)

    module _ {k : ℕ} (q : k ≡ n) (h : k ≡ 0 → ⊥) where
      -- there is one
      some : none ≡ false
      some = ne_eqb n 0 (λ z. h (q ∙ z))

      -- what the index refuses
      pub index-refuses : (r : Refusal) → said_by r ≡ said (index_faults w (k - 1) c) → said_by r ≡ said_append T c w room work
      unfolding said_append
      index-refuses = index_says T c w room work none (n - 1) z some (ap (λ (k : ℕ). k - 1) q)

      module _ (y : (0, 0, 0) ≡ said (index_faults w (k - 1) c)) where
        -- what the circles say
        pub circles-decide : {o : ℕ} {s : Said} → o ≡ circles# w → s ≡ said (circle_faults c o T []) → s ≡ said_append T c w room work
        unfolding said_append
        circles-decide = circles-last T c w room work none (n - 1) z some (ap (λ (k : ℕ). k - 1) q) y

  -- ---- the same of the number alone
  -- what numbers say
  abbrev first : ℕ
  first = (said (number_faults (writer_asks (length T) c false room work))).0

  -- numbers refuse the call
  pub by-numbers : {v : ℕ} → v ≡ first → (v ≡ 0 → ⊥) → v ≡ (said_append T c w room work).0
  unfolding said_append
  by-numbers = of_numbers T c w room work (eqb n 0) (n - 1)

  module _ {v : ℕ} (e : v ≡ first) (z : v ≡ 0) where
    -- the columns are few
    pub columns-few : c ≤ max_columns
    columns-few = few-columns T c w room work (eqb n 0) (n - 1) e z

    -- there is no row
    pub eight : n ≡ 0 → 8 ≡ (said_append T c w room work).0
    unfolding said_append
    eight q = none-new T c w room work (eqb n 0) (n - 1) e z (eq-eqb n 0 q)

    module _ {i k : ℕ} (q : k ≡ n) (h : k ≡ 0 → ⊥) (f : i ≡ (said (index_faults w (k - 1) c)).0) where
      -- there is one
      there-is : eqb n 0 ≡ false
      there-is = ne_eqb n 0 (λ z. h (q ∙ z))

      -- the index refuses the call
      pub by_index : (i ≡ 0 → ⊥) → i ≡ (said_append T c w room work).0
      unfolding said_append
      by_index = of-index T c w room work (eqb n 0) (n - 1) e z there-is (ap (λ (k : ℕ). k - 1) q) f

      module _ (y : i ≡ 0) where
        -- it does not: its header is there
        pub index-there : 8 ≤ length w
        index-there = there T c w room work (eqb n 0) (n - 1) e z there-is (ap (λ (k : ℕ). k - 1) q) f y

        -- and the circles decide
        pub by-circles : {o r : ℕ} → o ≡ circles# w → r ≡ (said (circle_faults c o T [])).0 → r ≡ (said_append T c w room work).0
        unfolding said_append
        by-circles = of-circles T c w room work (eqb n 0) (n - 1) e z there-is (ap (λ (k : ℕ). k - 1) q) f y

  -- none
  pub freed : (said_append T c w room work).0 ≡ 0 → Free T c w room work none (n - 1)
  unfolding said_append
  freed = free T c w room work none (n - 1)

  -- the index has one row less then
  pub clear : (said_append T c w room work).0 ≡ 0 → Clear T c w room work
  clear z =
      let F = freed z in
      let some : n ≡ 0 → ⊥ = eqb-false n 0 F.some in
      record {
        table = F.table;
        space = F.space;
        words = F.words;
        rows = omega (arith, F.rows, some);
        columns = F.columns;
        whole = F.whole;
        shape = F.shape;
        on = F.on;
      }

  -- and where nothing is wrong 0 is said
  pub clear_none : Clear T c w room work → 0 ≡ (said_append T c w room work).0
  unfolding said_append
  clear_none C =
      free_none T c w room work none (n - 1) (
      record {
        table = C.table;
        space = C.space;
        words = C.words;
        some = ne_eqb n 0 (λ q. omega (arith, C.rows));
        rows = omega (arith, C.rows);
        columns = C.columns;
        whole = C.whole;
        shape = C.shape;
        on = C.on;
      }
      )
