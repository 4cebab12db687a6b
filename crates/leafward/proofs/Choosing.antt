-- The child whose centre is closest to a row, found in one pass over the children. Assumes nothing.
use Prim.Native.Nat.{◌*◌, ◌+◌, ◌<◌, ◌≤◌, ℕ}
use Rattle.appending.proofs.Lowest.{lowest-first, lowest-least, lowest_there}
use Rattle.appending.specs.Append.{lowest_at}
use Rattle.laws.proofs.Every.{every-unmap}
use Rattle.laws.proofs.Ranges.{every-at, get_d_range, range_length}
use Rattle.laws.specs.Lists.{range}
use Rattle.leafward.specs.Way.{NewRow, closest_kid, to_kid}
use Rattle.limits.specs.Limits.{max_columns}
use Rattle.measure.proofs.Rows.{row_ends}
use Rattle.measure.specs.Table.{between}
use Rattle.words.specs.Shape.{inner}
use Rattle.words.specs.Words.{nodes#, child#, circles#, first#, m#, n#}
use lib.ListN.{get_or, length, length-map}
use mathlib.Core.Bool.{true}
use mathlib.Core.List.{List, map}
use mathlib.Core.Logic.{by_cases}
use mathlib.Core.Path.{◌∙◌, ◌≡◌, ap, ap₂}
use native.Mathlib.Decide.{dec_lt}
use native.Mathlib.Nat.{zero-add}
use native.Mathlib.Omega.{arith}

-- ---- the lowest of f 0, f 1, ..
-- of the first i of them the one at the place `at` is `least`: none is below it, and all before it are above
pub record Least (f : ℕ → ℕ) (i at least : ℕ) : Type 0 where
  pub inside : at < i
  pub here : least ≡ f at
  pub low : (j : ℕ) → j < i → f at ≤ f j
  pub ties : (j : ℕ) → j < at → f at < f j

module _ (f : ℕ → ℕ) where
  -- of one
  least_start : {x : ℕ} → x ≡ f 0 → Least f 1 0 x
  least_start e = record {
    inside = omega arith;
    here = e;
    low = λ j h. let z : j ≡ 0 = omega arith in omega (arith, ap f z);
    ties = λ j h. absurd (omega arith);
  }

  -- one more, which is not below it
  least_stays : {i at least x : ℕ} → Least f i at least → x ≡ f i → least ≤ x → Least f (i + 1) at least
  least_stays {i} {at} L e h = record {
    inside = omega (arith, L.inside);
    here = L.here;
    low = λ j q. by_cases (dec_lt j i) (λ l. L.low j l) (λ l. let z : j ≡ i = omega arith in omega (arith, ap f z, L.here));
    ties = L.ties;
  }

  -- one more, which is below it
  least_moves : {i at least x : ℕ} → Least f i at least → x ≡ f i → x < least → Least f (i + 1) i x
  least_moves {i} {at} L e h = record {
    inside = omega arith;
    here = e;
    low = λ j q. by_cases (dec_lt j i) (λ l. omega (arith, L.low j l, L.here)) (λ l. let z : j ≡ i = omega arith in omega (arith, ap f z));
    ties = λ j q. omega (arith, L.low j q, L.here);
  }

  -- THE PLACE IS THAT OF THE LOWEST, ties to the earliest
  least-done : {m at least : ℕ} → Least f m at least → at ≡ lowest_at (map f (range 0 m))
  least-done {m} {at} L =
      let xs : List ℕ = map f (range 0 m) in
      let n : length xs ≡ m = length-map (range 0 m) f ∙ range_length 0 m in
      let r : ℕ = lowest_at xs in
      let k : r < length xs = lowest_there xs (omega (arith, L.inside)) in
      let val : (j : ℕ) → j < m → get_or xs j 0 ≡ f j = λ j h. get_d_range f 0 m j h ∙ ap f (zero-add j) in
      let v : get_or xs r 0 ≡ f r = val r (omega arith) in
      let a : get_or xs at 0 ≡ f at = val at L.inside in
      let under : get_or xs r 0 ≤ f at =
      every-at (λ j. get_or xs r 0 ≤ f j) m at (every-unmap (λ b. get_or xs r 0 ≤ b) f (range 0 m) (lowest-least xs)) L.inside in
      by_cases (dec_lt at r) (λ h. absurd (omega (arith, lowest-first xs at h, L.low r (omega arith))))
      (λ h. by_cases (dec_lt r at) (λ q. absurd (omega (arith, L.ties r q))) (λ q. omega arith))

-- ---- the children of node k
-- of the first j children of node k the one at the place `at` is the closest to row z
pub record Choosing (t : List ℕ) (c : ℕ) (w : List ℕ) (k z child m o at least j : ℕ) : Type 0 where
  pub lent : NewRow t c w z
  pub inside : child + m ≤ nodes# w
  pub first : child ≡ child# w k
  pub all : m ≡ m# w
  pub set : o ≡ circles# w
  pub upto : j ≤ m
  pub low : Least (to_kid (between t c (circles# w)) w z k) j at least

module _ {t : List ℕ} {c : ℕ} {w : List ℕ} {z : ℕ} (L : NewRow t c w z) where
  -- two rows can be measured, one of the index and the new one
  pub measurable : {i : ℕ} → i < n# w → (c ≤ max_columns) × (c * i + c ≤ length t) × (c * z + c ≤ length t)
  measurable {i} h = (omega (arith, L.columns, L.shape.whole.columns.1), omega (arith, row_ends c (n# w) i h, L.table), L.new)

  -- an inner node has two children or more, and they are nodes
  pub kids_there : {k child m : ℕ} → k < nodes# w → inner w k ≡ true → child ≡ child# w k → m ≡ m# w → (child + m ≤ nodes# w) × (2 ≤ m)
  kids_there {k} h e ec em = (omega (arith, ((L.shape.node k h).kids e).inside), omega (arith, L.shape.whole.fan.0))

  -- the first child
  pub choosing_start : {k child m o f x : ℕ} → k < nodes# w → inner w k ≡ true → child ≡ child# w k → m ≡ m# w → o ≡ circles# w → f ≡ first# w child
      → x ≡ between t c o f z → Choosing t c w k z child m o 0 x 1
  choosing_start {k} {child} {m} {o} {f} {x} h e ec em eo ef ex =
      let K = kids_there h e ec em in
      let at : child ≡ child# w k + 0 = omega arith in
      record {
        lent = L;
        inside = K.0;
        first = ec;
        all = em;
        set = eo;
        upto = omega (arith, K.1);
        low = least_start (to_kid (between t c (circles# w)) w z k) (ex ∙ ap₂ (λ (o i : ℕ). between t c o i z) eo (ef ∙ ap (first# w) at));
      }

module _ {t : List ℕ} {c : ℕ} {w : List ℕ} {k z child m o at least j : ℕ} (C : Choosing t c w k z child m o at least j) where
  -- how far the next child's centre is
  next-is : {f x : ℕ} → f ≡ first# w (child + j) → x ≡ between t c o f z → x ≡ to_kid (between t c (circles# w)) w z k j
  next-is ef ex = ex ∙ ap₂ (λ (o i : ℕ). between t c o i z) C.set (ef ∙ ap (λ (i : ℕ). first# w (i + j)) C.first)

  -- it is not closer
  pub choosing_stays : {f x : ℕ} → j < m → f ≡ first# w (child + j) → x ≡ between t c o f z → least ≤ x
      → Choosing t c w k z child m o at least (j + 1)
  choosing_stays h ef ex q = record {
    lent = C.lent;
    inside = C.inside;
    first = C.first;
    all = C.all;
    set = C.set;
    upto = omega arith;
    low = least_stays (to_kid (between t c (circles# w)) w z k) C.low (next-is ef ex) q;
  }

  -- it is
  pub choosing_moves : {f x : ℕ} → j < m → f ≡ first# w (child + j) → x ≡ between t c o f z → x < least
      → Choosing t c w k z child m o j x (j + 1)
  choosing_moves h ef ex q = record {
    lent = C.lent;
    inside = C.inside;
    first = C.first;
    all = C.all;
    set = C.set;
    upto = omega arith;
    low = least_moves (to_kid (between t c (circles# w)) w z k) C.low (next-is ef ex) q;
  }

  -- all children are seen
  pub choosing_done : m ≤ j → (at ≡ closest_kid (between t c (circles# w)) w z k) × (at < m# w)
  unfolding closest_kid
  choosing_done h =
      let e : j ≡ m# w = omega (arith, C.upto, C.all) in
      let f : ℕ → ℕ = to_kid (between t c (circles# w)) w z k in
      (least-done f C.low ∙ ap (λ (i : ℕ). lowest_at (map f (range 0 i))) e, omega (arith, C.low.inside))
