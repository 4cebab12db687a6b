-- The distance of two rows is a metric, and no two rows are farther apart than the index kind allows. Assumes nothing.
use Prim.Native.Nat.{◌*◌, ◌+◌, ◌-◌, ◌<◌, ◌≤◌, min, suc, zero, ℕ}
use Rattle.laws.proofs.Every.{every_drop, every_take}
use Rattle.laws.specs.Every.{Every}
use Rattle.laws.proofs.Sums.{sum_add, sum_below_le, sum_below-same, sum_below-zero, sum_most}
use Rattle.laws.specs.Lists.{gap}
use Rattle.limits.specs.Limits.{max_columns, max_distance}
use Rattle.measure.specs.Distance.{apart, around, circle, is_circle_lem, l1}
use Rattle.measure.specs.Space.{Point, Space}
use Rattle.measure.specs.Table.{Round, Rounded, between, from, row}
use lib.ListN.{drop, get_or}
use mathlib.Core.Bool.{Bool, false, true}
use mathlib.Core.List.{List, [], ◌∷◌}
use mathlib.Core.Path.{◌≡◌, refl}
use native.Mathlib.Nat.{mul-le-mul_left}
use native.Mathlib.Omega.{arith}

-- ---- one column
-- two numbers are no farther apart than by way of a third
gap_triangle : (x y z : ℕ) → gap x z ≤ gap x y + gap y z
gap_triangle x y z = omega arith

-- as far there as back
gap_swap : (x y : ℕ) → gap x y ≡ gap y x
gap_swap x y = omega arith

-- three numbers of a circle: the three ways between them go round once at most
gap-around : (x y z : ℕ) → x < circle → y < circle → z < circle → gap x y + gap y z + gap x z < 2 * circle
gap-around x y z hx hy hz = omega arith

-- two numbers of a circle differ by less than it
gap_less : (x y m : ℕ) → x ≤ m → y ≤ m → gap x y ≤ m
gap_less x y m hx hy = omega arith

-- the shorter ways, from the three differences p, q and r of three numbers
shorter : (p q r : ℕ) → p ≤ circle → q ≤ circle → r ≤ p + q → q ≤ p + r → p ≤ q + r → p + q + r ≤ 2 * circle
    → min r (circle - r) ≤ min p (circle - p) + min q (circle - q)
shorter p q r hp hq h1 h2 h3 h4 = omega arith

-- on a circle no way is shorter by way of a third
around_triangle : (x y z : ℕ) → x < circle → y < circle → z < circle → around x z ≤ around x y + around y z
around_triangle x y z hx hy hz =
    shorter (gap x y) (gap y z) (gap x z) (gap_less x y circle (omega arith) (omega arith)) (gap_less y z circle (omega arith) (omega arith))
    (gap_triangle x y z) (omega (arith, gap_swap x y, gap_triangle y x z)) (omega (arith, gap_swap y z, gap_triangle x z y))
    (omega (arith, gap-around x y z hx hy hz))

-- a number is at 0 from itself
apart_self : (b : Bool) (x : ℕ) → apart b x x ≡ 0
apart_self true x = omega arith
apart_self false x = omega arith

-- as far there as back
apart_swap : (b : Bool) (x y : ℕ) → apart b x y ≡ apart b y x
apart_swap true x y = omega arith
apart_swap false x y = omega arith

-- and no farther than by way of a third, on a circle where all three are numbers of it
apart_triangle : (b : Bool) (x y z : ℕ) → (b ≡ true → x < circle) → (b ≡ true → y < circle) → (b ≡ true → z < circle)
    → apart b x z ≤ apart b x y + apart b y z
apart_triangle true x y z hx hy hz = around_triangle x y z (hx refl) (hy refl) (hz refl)
apart_triangle false x y z hx hy hz = gap_triangle x y z

-- no farther than the greatest of the numbers
pub apart-most : (b : Bool) (x y m : ℕ) → x ≤ m → y ≤ m → apart b x y ≤ m
apart-most true x y m hx hy = omega (arith, gap_less x y m hx hy)
apart-most false x y m hx hy = gap_less x y m hx hy

-- ---- a row
module _ (c o : ℕ) where
  -- a row is at 0 from itself
  l1-self : (a : List ℕ) → l1 c o a a ≡ 0
  unfolding l1
  l1-self a = sum_below-zero (λ j. apart (is_circle_lem o j) (get_or a j 0) (get_or a j 0)) c (λ j h. apart_self (is_circle_lem o j) (get_or a j 0))

  -- two rows are as far apart either way
  l1-swap : (a b : List ℕ) → l1 c o a b ≡ l1 c o b a
  unfolding l1
  l1-swap a b =
      sum_below-same (λ j. apart (is_circle_lem o j) (get_or a j 0) (get_or b j 0)) (λ j. apart (is_circle_lem o j) (get_or b j 0) (get_or a j 0)) c
      (λ j h. apart_swap (is_circle_lem o j) (get_or a j 0) (get_or b j 0))

  -- and no farther apart than by way of a third
  l1-triangle : (a b e : List ℕ) → Round c o a → Round c o b → Round c o e → l1 c o a e ≤ l1 c o a b + l1 c o b e
  unfolding l1
  l1-triangle a b e ha hb he =
      let f : ℕ → ℕ = λ j. apart (is_circle_lem o j) (get_or a j 0) (get_or b j 0) in
      let g : ℕ → ℕ = λ j. apart (is_circle_lem o j) (get_or b j 0) (get_or e j 0) in
      omega (
        arith,
        sum_below_le (λ j. apart (is_circle_lem o j) (get_or a j 0) (get_or e j 0)) (λ j. f j + g j) c
            (λ j h. apart_triangle (is_circle_lem o j) (get_or a j 0) (get_or b j 0) (get_or e j 0) (ha j h) (hb j h) (he j h)),
        sum_add f g c,
      )

-- a row of a table is at 0 from itself, on the circle or off it
pub row_self : (T : List ℕ) (c o i : ℕ) → between T c o i i ≡ 0
unfolding between
row_self T c o i = l1-self c o (row T c i)

-- THE ROWS OF A TABLE ARE A SPACE, where its circular columns hold numbers of the circle
pub metric : (T : List ℕ) (c o : ℕ) → Rounded T c o → Space (between T c o)
unfolding between
metric T c o r =
    record {
      self = row_self T c o;
      swap = λ i j. l1-swap c o (row T c i) (row T c j);
      triangle = λ i j k. l1-triangle c o (row T c i) (row T c j) (row T c k) (r i) (r j) (r k);
    }

-- AND ANY QUERY LIKE IT IS A POINT OF IT
pub query_point : (T : List ℕ) (c o : ℕ) (q : List ℕ) → Rounded T c o → Round c o q → Point (between T c o) (from T c o q)
unfolding between from
query_point T c o q r rq =
    record {
      up = λ f i. l1-triangle c o q (row T c f) (row T c i) rq (r f) (r i);
      down = λ f i. omega (arith, l1-triangle c o q (row T c i) (row T c f) rq (r i) (r f), l1-swap c o (row T c i) (row T c f));
      across = λ f i. omega (arith, l1-triangle c o (row T c f) q (row T c i) (r f) rq (r i), l1-swap c o (row T c f) q);
    }

-- ---- how far apart two rows can be
-- a column of 16 bits, and one that is not there
get_d_small : (m : ℕ) (a : List ℕ) (j : ℕ) → Every (λ v. v ≤ m) a → get_or a j 0 ≤ m
get_d_small m [] j h = omega arith
get_d_small m (v ∷ a) zero h = h.0
get_d_small m (v ∷ a) (suc j) h = get_d_small m a j h.1

-- two rows of 16-bit numbers are at most 1,048,560 apart
l1-most : (c o : ℕ) (a b : List ℕ) → c ≤ max_columns → Every (λ v. v ≤ 65535) a → Every (λ v. v ≤ 65535) b → l1 c o a b ≤ max_distance
unfolding l1
l1-most c o a b h ha hb =
    omega (
      arith,
      sum_most (λ j. apart (is_circle_lem o j) (get_or a j 0) (get_or b j 0)) 65535
          (λ j. apart-most (is_circle_lem o j) (get_or a j 0) (get_or b j 0) 65535 (get_d_small 65535 a j ha) (get_d_small 65535 b j hb)) c,
      mul-le-mul_left 65535 h,
    )

-- NO TWO ROWS OF A TABLE ARE FARTHER APART THAN THAT
pub between-most : (T : List ℕ) (c o : ℕ) → c ≤ max_columns → Every (λ v. v ≤ 65535) T → (i j : ℕ) → between T c o i j ≤ max_distance
unfolding between
between-most T c o h s i j = l1-most c o (row T c i) (row T c j) h (small i) (small j)
  where
    small : (i : ℕ) → Every (λ v. v ≤ 65535) (row T c i)
    small i = every_take (λ v. v ≤ 65535) c (drop (c * i) T) (every_drop (λ v. v ≤ 65535) (c * i) T s)
