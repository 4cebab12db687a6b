-- One search more: the marks, the counts and the how-bytes behind it. Assumes nothing.
use Prim.Native.Nat.{◌*◌, ◌+◌, ◌/◌, ◌<◌, ◌≤◌, suc, zero, ℕ}
use Rattle.buffers.specs.Wiped.{wiped}
use Rattle.joined_marks.proofs.Firsts.{first-at, first-behind, first_long, first-same, first_zeros}
use Rattle.joined_marks.specs.Joins.{fresh, merged, sum_fresh, united}
use Rattle.laws.proofs.Lists.{tally_take}
use Rattle.laws.proofs.Sums.{sum_add, sum_below-same, sum_below-zero, sum_next, sum_none}
use Rattle.limits.specs.Limits.{max_rows}
use Rattle.marking.specs.Lent.{Lent}
use Rattle.marking.specs.Written.{write}
use Rattle.measure.proofs.Rows.{row_ends}
use Rattle.measure.specs.Table.{from, row, rows_of}
use Rattle.radius.proofs.How.{written_is, written-length}
use Rattle.rowset.specs.Sets.{is_in_lem}
use Rattle.several_queries.specs.Searched.{Asked, Fit, how_after, how_of, mark_of, measured_by, some_to}
use Rattle.tree.specs.Grove.{tree_of}
use Rattle.tree.specs.Nearest.{is_measured, measured}
use Rattle.tree.specs.Radius.{marks as marksOf, veiled}
use Rattle.words.specs.InShape.{InShape}
use Rattle.words.specs.Words.{circles#, n#}
use lib.Dec.{eqb, leb}
use lib.ListN.{get_or-append, drop, get_or, length, length-append, length-drop, replicate, take}
use lib.Seq.{drop_at, take_at}
use mathlib.Core.Bool.{Bool, ◌||◌, cond, false, true}
use mathlib.Core.List.{List, ◌++◌}
use mathlib.Core.Path.{◌∙◌, ◌≡◌, ap, ap₂, refl, subst, sym}
use native.Mathlib.Nat.{mul-div-le}
use native.Mathlib.Numerals.{add-one}
use native.Mathlib.Omega.{arith}

-- ---- marks as tests
-- a mark made of a test, with a how-byte: the test or the how-byte
merged_or : (a b : Bool) → cond {A = ℕ} (a || b) 1 0 ≡ cond b 1 (cond a 1 0)
merged_or true true = refl
merged_or true false = refl
merged_or false true = refl
merged_or false false = refl

-- it is more by one where it is new
fresh_or : (a b : Bool) → cond {A = ℕ} (a || b) 1 0 ≡ cond a 1 0 + cond b (cond (eqb (cond a 1 0) 0) 1 0) 0
fresh_or true true = refl
fresh_or true false = refl
fresh_or false true = refl
fresh_or false false = refl

module _ (t : List ℕ) (c : ℕ) (w qs : List ℕ) (r : ℕ) (s : List ℕ) where
  -- ---- how-bytes
  -- those of a search are n
  pub how-long : (k : ℕ) → length (how_of t c w qs r s k) ≡ n# w
  unfolding how_of
  how-long k = written-length (veiled (is_in_lem s) (marksOf (from t c (circles# w) (row qs c k)) r (tree_of w))) (n# w)

  -- beyond n they stay
  how-behind : (k : ℕ) (how : List ℕ) → drop (n# w) (how_after t c w qs r s k how) ≡ drop (n# w) how
  unfolding how_after
  how-behind zero how = refl
  how-behind (suc k) how = drop_at (how_of t c w qs r s k) (drop (n# w) how) (n# w) (how-long k)

  -- and there are as many as there were
  pub after-long : (k : ℕ) (how : List ℕ) → n# w ≤ length how → length (how_after t c w qs r s k how) ≡ length how
  unfolding how_after
  after-long zero how h = refl
  after-long (suc k) how h =
      length-append (how_of t c w qs r s k) (drop (n# w) how) ∙ omega (arith, how-long k, length-drop (n# w) how)

  -- behind k + 1 searches they are those of search k
  after_next : (k : ℕ) (how : List ℕ) → how_after t c w qs r s (k + 1) how ≡ how_of t c w qs r s k ++ drop (n# w) how
  unfolding how_after
  after_next k how = rw add-one refl

  -- one search more, of a query known by an equation
  pub how-next : InShape w → {q how₁ how₂ : List ℕ} (how : List ℕ) (k : ℕ) → q ≡ row qs c k → how₁ ≡ how_after t c w qs r s k how
      → how₂ ≡ write (veiled (is_in_lem s) (marksOf (from t c (circles# w) q) r (tree_of w))) (wiped (n# w) how₁) → how₂ ≡ how_after t c w qs r s (k + 1) how
  unfolding how_of
  how-next S {q} {how₁} how k eq e f =
      f ∙ written_is (from t c (circles# w) q) r (is_in_lem s) w S how₁
      ∙ ap₂ (λ (x y : List ℕ). write (veiled (is_in_lem s) (marksOf (from t c (circles# w) x) r (tree_of w))) (replicate (n# w) 0) ++ y) eq (ap (drop (n# w)) e ∙ how-behind k how)
      ∙ sym (after_next k how)

  -- ---- the marks
  -- no search, no mark
  mark-none : (i : ℕ) → mark_of t c w qs r s 0 i ≡ 0
  unfolding mark_of some_to
  mark-none i = refl

  -- one search more
  mark-next : (k i : ℕ) → mark_of t c w qs r s (k + 1) i ≡ merged (mark_of t c w qs r s k i) (get_or (how_of t c w qs r s k) i 0)
  unfolding mark_of some_to merged
  mark-next k i =
      rw add-one
      (merged_or (some_to (λ (j : ℕ). leb 2 (get_or (how_of t c w qs r s j) i 0)) k) (leb 2 (get_or (how_of t c w qs r s k) i 0)))

  -- adds those that are new
  count_next : (k i : ℕ) → mark_of t c w qs r s (k + 1) i ≡ mark_of t c w qs r s k i + fresh (mark_of t c w qs r s k i) (get_or (how_of t c w qs r s k) i 0)
  unfolding mark_of some_to fresh
  count_next k i =
      rw add-one
      (fresh_or (some_to (λ (j : ℕ). leb 2 (get_or (how_of t c w qs r s j) i 0)) k) (leb 2 (get_or (how_of t c w qs r s k) i 0)))

  -- a search's how-bytes by row
  how_at : (k i : ℕ) (how how₂ : List ℕ) → how₂ ≡ how_after t c w qs r s (k + 1) how → i < n# w → get_or how₂ i 0 ≡ get_or (how_of t c w qs r s k) i 0
  how_at k i how how₂ e h =
      ap (λ (x : List ℕ). get_or x i 0) (e ∙ after_next k how)
      ∙ get_or-append (how_of t c w qs r s k) (drop (n# w) how) 0 i (omega (arith, how-long k))

  -- how many a search measured
  pub measured-at : (k : ℕ) (how how₂ : List ℕ) → how₂ ≡ how_after t c w qs r s (k + 1) how
      → measured (take (n# w) how₂) ≡ measured_by t c w qs r s k
  unfolding measured_by
  measured-at k how how₂ e =
      ap (λ (x : List ℕ). measured (take (n# w) x)) (e ∙ after_next k how)
      ∙ ap measured (take_at (how_of t c w qs r s k) (drop (n# w) how) (n# w) (how-long k))

  -- ---- k searches
  module _ (how marks : List ℕ) where
    -- none
    pub asked-none : marks ≡ wiped (n# w) marks → Asked t c w qs r s 0 how how marks marks 0 0
    unfolding how_after
    asked-none z =
        record {
          bytes = refl;
          marked = z ∙ ap (λ (x : List ℕ). x ++ drop (n# w) marks) (sym (first_zeros (mark_of t c w qs r s 0) (n# w) mark-none));
          inside = sym (sum_below-zero (mark_of t c w qs r s 0) (n# w) (λ i l. mark-none i));
          measures = sym (sum_none (measured_by t c w qs r s));
        }

    module _ {k : ℕ} {how₁ marks₁ : List ℕ} {in# met : ℕ} (a : Asked t c w qs r s k how how₁ marks marks₁ in# met) where
      -- the buffers are as long as they were
      pub asked-long : n# w ≤ length how → n# w ≤ length marks → (length how₁ ≡ length how) × (length marks₁ ≡ length marks)
      asked-long h m =
          (ap length a.bytes ∙ after-long k how h, first_long (mark_of t c w qs r s k) (n# w) marks₁ marks m a.marked)

      -- one more
      pub asked-next : InShape w → {q how₂ marks₂ : List ℕ} {new more : ℕ} → q ≡ row qs c k
          → how₂ ≡ write (veiled (is_in_lem s) (marksOf (from t c (circles# w) q) r (tree_of w))) (wiped (n# w) how₁) → more ≡ measured (take (n# w) how₂)
          → marks₂ ≡ united how₂ marks₁ (n# w) → new ≡ sum_fresh how₂ marks₁ (n# w)
          → Asked t c w qs r s (k + 1) how how₂ marks marks₂ (in# + new) (met + more)
      unfolding united sum_fresh
      asked-next S {q} {how₂} {marks₂} {new} {more} eq e m u f =
          let bytes = how-next S how k eq a.bytes e in
          let old : (i : ℕ) → i < n# w → get_or marks₁ i 0 ≡ mark_of t c w qs r s k i
          = λ i l. ap (λ (x : List ℕ). get_or x i 0) a.marked ∙ first-at (mark_of t c w qs r s k) (n# w) i (drop (n# w) marks) l in
          record {
            bytes = bytes;
            marked = u
                ∙ ap₂ ◌++◌
                (first-same (λ i. merged (get_or marks₁ i 0) (get_or how₂ i 0)) (mark_of t c w qs r s (k + 1)) (n# w)
                (λ i l. ap₂ merged (old i l) (how_at k i how how₂ bytes l) ∙ sym (mark-next k i)))
                (ap (drop (n# w)) a.marked ∙ first-behind (mark_of t c w qs r s k) (n# w) (drop (n# w) marks));
            inside = ap₂ ◌+◌ a.inside
                (f
                ∙ sum_below-same (λ i. fresh (get_or marks₁ i 0) (get_or how₂ i 0)) (λ i. fresh (mark_of t c w qs r s k i) (get_or (how_of t c w qs r s k) i 0)) (n# w)
                (λ i l. ap₂ fresh (old i l) (how_at k i how how₂ bytes l)))
                ∙ sym (sum_add (mark_of t c w qs r s k) (λ i. fresh (mark_of t c w qs r s k i) (get_or (how_of t c w qs r s k) i 0)) (n# w))
                ∙ sym (sum_below-same (mark_of t c w qs r s (k + 1)) (λ i. mark_of t c w qs r s k i + fresh (mark_of t c w qs r s k i) (get_or (how_of t c w qs r s k) i 0)) (n# w) (λ i l. count_next k i));
            measures = ap₂ ◌+◌ a.measures (m ∙ measured-at k how how₂ bytes) ∙ sym (sum_next (measured_by t c w qs r s) k);
          }

-- ---- what one search measures and finds
-- no more than n rows
pub measured_few : (n more : ℕ) (how : List ℕ) → more ≡ measured (take n how) → more ≤ n
measured_few n more how e = omega (arith, tally_take is_measured n how)

-- the searches' sum stays small
pub few_next : (met more n k : ℕ) → met ≤ max_rows * k → more ≤ n → n ≤ max_rows → met + more ≤ max_rows * (k + 1)
few_next met more n k a b c = omega arith

-- ---- the code's loop
-- query k stands in the queries
pub query_there : (long c k : ℕ) → 1 ≤ c → k < long / c → c * k + c ≤ long
query_there long c k s h = omega (arith, row_ends c (long / c) k h, mul-div-le long c)

-- what a search is lent
pub fit_lent : {w t : List ℕ} {c : ℕ} {qs how marks : List ℕ} → Fit w t c qs how marks → {q how₁ : List ℕ} → length q ≡ c → length how₁ ≡ length how
    → Lent w t c q how₁
fit_lent F e l =
    record { tested = F.tested; query = e; how = λ some. omega (arith, F.bytes) }

-- k of the queries are searched for
pub record Going (w t : List ℕ) (c : ℕ) (qs : List ℕ) (r : ℕ) (s how₀ marks₀ : List ℕ) (n asked : ℕ) (how marks : List ℕ) (in# met k : ℕ) : Type 0 where
  pub fit : Fit w t c qs how₀ marks₀
  pub rows : n ≡ n# w
  pub all : asked ≡ rows_of qs c
  pub bound : k ≤ asked
  pub done : Asked t c w qs r s k how₀ how marks₀ marks in# met
  pub bytes : length how ≡ length how₀
  pub room : length marks ≡ length marks₀
  pub few : (in# ≤ max_rows * k) × (met ≤ max_rows * k)

module _ {w t : List ℕ} {c : ℕ} {qs : List ℕ} {r : ℕ} {s how₀ marks₀ : List ℕ} {n asked : ℕ} where
  -- none
  pub going_start : Fit w t c qs how₀ marks₀ → n ≡ n# w → asked ≡ rows_of qs c → Going w t c qs r s how₀ marks₀ n asked how₀ marks₀ 0 0 0
  going_start F e f =
      record {
        fit = F;
        rows = e;
        all = f;
        bound = omega arith;
        done = asked-none t c w qs r s how₀ marks₀ F.zeros;
        bytes = refl;
        room = refl;
        few = (omega arith, omega arith);
      }

  module _ {how marks : List ℕ} {in# met k : ℕ} (G : Going w t c qs r s how₀ marks₀ n asked how marks in# met k) where
    -- n is no more than an index has rows
    pub going-few : (n ≤ max_rows) × (asked ≤ max_rows)
    going-few =
        (subst (λ (x : ℕ). x ≤ max_rows) (sym G.rows) G.fit.tested.shape.whole.rows, subst (λ (x : ℕ). x ≤ max_rows) (sym G.all) G.fit.queries)

    -- one more
    pub going_next : {q how₂ marks₂ : List ℕ} {new more : ℕ} → k < asked → q ≡ row qs c k
        → how₂ ≡ write (veiled (is_in_lem s) (marksOf (from t c (circles# w) q) r (tree_of w))) (wiped (n# w) how) → more ≡ measured (take n how₂) → marks₂ ≡ united how₂ marks n
        → new ≡ sum_fresh how₂ marks n → new ≤ n → Going w t c qs r s how₀ marks₀ n asked how₂ marks₂ (in# + new) (met + more) (k + 1)
    going_next {q} {how₂} {marks₂} {new} {more} l eq e m u f small =
        let one = asked-next t c w qs r s how₀ marks₀ G.done G.fit.tested.shape eq e (m ∙ ap (λ (x : ℕ). measured (take x how₂)) G.rows)
        (u ∙ ap (united how₂ marks) G.rows) (f ∙ ap (sum_fresh how₂ marks) G.rows) in
        let long = asked-long t c w qs r s how₀ marks₀ one G.fit.bytes G.fit.room in
        let top = going-few in
        record {
          fit = G.fit;
          rows = G.rows;
          all = G.all;
          bound = omega arith;
          done = one;
          bytes = long.0;
          room = long.1;
          few = (
            few_next in# new n k G.few.0 small top.0,
            few_next met more n k G.few.1 (measured_few n more how₂ m) top.0,
          );
        }

    -- all
    pub going_done : asked ≤ k → Asked t c w qs r s (rows_of qs c) how₀ how marks₀ marks in# met
    going_done l =
        let e : k ≡ rows_of qs c = omega (arith, G.bound, G.all) in
        subst (λ (x : ℕ). Asked t c w qs r s x how₀ how marks₀ marks in# met) e G.done
