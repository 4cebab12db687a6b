-- What it says that no circular column holds 3,600 or more: every row stands on the circle. Assumes nothing.
use Prim.Native.Nat.{◌*◌, ◌+◌, ◌/◌, ◌<◌, ◌≤◌, ℕ}
use Rattle.laws.proofs.Empty.{any_false, any_none}
use Rattle.laws.proofs.First.{any-more}
use Rattle.laws.proofs.Ranges.{at_every, every-at}
use Rattle.laws.proofs.Tests.{and_second}
use Rattle.laws.specs.Lists.{any, range}
use Rattle.measure.proofs.Rows.{no_circle, row_ends}
use Rattle.measure.specs.Distance.{circle, is_circle_lem}
use Rattle.measure.specs.Table.{Round, Rounded, column_off_lem, off_circle_lem, row, rows_of}
use borrow.Author.Tests.{leb-false}
use lib.Dec.{leb}
use lib.ListN.{get_or-eq_default, drop, get_or, length, length-drop, length-take, take}
use lib.Seq.{get_or-drop, get_or-take}
use mathlib.Core.Bool.{Bool, ◌&&◌, ◌||◌, and-false, false, true}
use mathlib.Core.List.{List, []}
use mathlib.Core.Path.{◌∙◌, ◌≡◌, ap, refl, subst, sym}
use native.Mathlib.Decide.{dec_lt}
use native.Mathlib.Nat.{div_self, mul-le-mul_left, mul-zero, zero-add, zero-div}
use native.Mathlib.Omega.{arith}

-- ---- what the code finds, row by row and column by column
-- one more that was looked at
pub off_next : (f : ℕ → Bool) (j : ℕ) (off found : Bool) → off ≡ any f (range 0 j) → found ≡ f j → (off || found) ≡ any f (range 0 (j + 1))
off_next f j off found h e =
    ap (λ (b : Bool). b || found) h ∙ ap (λ (b : Bool). any f (range 0 j) || b) (e ∙ ap f (sym (zero-add j))) ∙ sym (any-more f 0 j)

-- one row more
pub column_next : (T : List ℕ) (c j i at : ℕ) (off : Bool) → off ≡ column_off_lem T c i j → at ≡ c * i + j
    → (off || leb circle (get_or T at 0)) ≡ column_off_lem T c (i + 1) j
column_next T c j i at off h e =
    off_next (λ i. leb circle (get_or T (c * i + j) 0)) i off (leb circle (get_or T at 0)) h (ap (λ (k : ℕ). leb circle (get_or T k 0)) e)

-- where no bit is on there is no circle
pub plain_on : (T : List ℕ) (c : ℕ) → off_circle_lem c 0 T ≡ false
unfolding off_circle_lem
plain_on T c =
    any_none (λ j. is_circle_lem 0 j && column_off_lem T c (rows_of T c) j) (range 0 c)
    (at_every (λ j. (is_circle_lem 0 j && column_off_lem T c (rows_of T c) j) ≡ false) c (λ j h. rw (no_circle j) refl))

-- ---- what it says of a row
-- column j of row i stands at c times i plus j
cell : (T : List ℕ) (c i j : ℕ) → j < c → get_or (row T c i) j 0 ≡ get_or T (c * i + j) 0
cell T c i j h = get_or-take c (drop (c * i) T) j 0 h ∙ get_or-drop (c * i) T j 0

-- a cell of a circular column of one of the rows is below 3,600
cell_round : (T : List ℕ) (c o i j : ℕ) → off_circle_lem c o T ≡ false → i < rows_of T c → j < c → is_circle_lem o j ≡ true → get_or T (c * i + j) 0 < circle
unfolding off_circle_lem
cell_round T c o i j e hi hj r =
    let col : ℕ → Bool = column_off_lem T c (rows_of T c) in
    let a = every-at (λ j. (is_circle_lem o j && col j) ≡ false) c j (any_false (λ j. is_circle_lem o j && col j) (range 0 c) e) hj in
    let b = and_second (is_circle_lem o j) (col j) a r in
    leb-false circle (get_or T (c * i + j) 0)
    (every-at (λ i. leb circle (get_or T (c * i + j) 0) ≡ false) (rows_of T c) i
    (any_false (λ i. leb circle (get_or T (c * i + j) 0)) (range 0 (rows_of T c)) b) hi)

-- a row beyond the table holds nothing
beyond : (T : List ℕ) (c i j : ℕ) → length T ≤ c * i → get_or (row T c i) j 0 ≡ 0
beyond T c i j h = get_or-eq_default (row T c i) 0 {n = j} (simp (length-take, length-drop) (omega arith))

-- WHERE NO CIRCULAR COLUMN HOLDS 3,600 OR MORE EVERY ROW STANDS ON THE CIRCLE
pub round_rows : (T : List ℕ) (c o : ℕ) → length T ≡ c * rows_of T c → off_circle_lem c o T ≡ false → Rounded T c o
round_rows T c o whole e i j hj r = go (dec_lt i (rows_of T c))
  where
    go : Dec (i < rows_of T c) → get_or (row T c i) j 0 < circle
    go (yes h) = rw (cell T c i j hj) (cell_round T c o i j e h hj r)
    go (no h) = rw (beyond T c i j (rw whole (mul-le-mul_left c (omega arith)))) (omega arith)

-- and so does a query
pub round_query : (q : List ℕ) (c o : ℕ) → length q ≡ c → off_circle_lem c o q ≡ false → Round c o q
round_query q c o whole e j hj r =
    let one : rows_of q c ≡ 1 = ap (λ (n : ℕ). n / c) whole ∙ div_self (omega arith) in
    let at : c * 0 + j ≡ j = omega (arith, mul-zero c) in
    subst (λ (k : ℕ). get_or q k 0 < circle) at (cell_round q c o 0 j e (omega (arith, one)) hj r)

-- no query is on the circle too
pub empty_on : (c o : ℕ) → off_circle_lem c o [] ≡ false
unfolding off_circle_lem
empty_on c o =
    let none : rows_of [] c ≡ 0 = zero-div c in
    any_none (λ j. is_circle_lem o j && column_off_lem [] c (rows_of [] c) j) (range 0 c)
    (at_every (λ j. (is_circle_lem o j && column_off_lem [] c (rows_of [] c) j) ≡ false) c (λ j h. rw none (and-false (is_circle_lem o j))))
