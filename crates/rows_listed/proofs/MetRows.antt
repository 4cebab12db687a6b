-- Laws of the list of rows measured: a row is marked and listed, and what is marked is unmarked by the list. Assumes nothing.
use Prim.Native.Nat.{◌*◌, ◌+◌, ◌-◌, ◌<◌, ◌≤◌, suc, zero, ℕ}
use Rattle.buffers.specs.Wiped.{wiped}
use Rattle.laws.proofs.Ones.{is-not, is_self, sum_each_none}
use Rattle.laws.proofs.Outside.{outside-same, outside_set}
use Rattle.laws.proofs.Sums.{sum_below_le, sum_below-same, sum_below-zero, sum_change, sum_next, sum_none, sum_ones, sum_part}
use Rattle.laws.specs.Bags.{is}
use Rattle.laws.specs.Lists.{tally}
use Rattle.laws.specs.Outside.{Outside}
use Rattle.laws.specs.Upto.{sum_to}
use Rattle.limits.specs.Limits.{max_rows}
use Rattle.rows_listed.proofs.Wiped.{wiped-length, wiped-past, wiped-zero}
use Rattle.rows_listed.specs.Listed.{Blank, Listed, ListedTo, Marked, if_marked}
use Rattle.tallies.proofs.Tallies.{bit_most, tally_next}
use Rattle.tree.specs.Nearest.{is_measured, measured}
use Rattle.words.specs.Words.{at, n#}
use borrow.Author.Tests.{lt-ltb}
use lib.Dec.{ltb}
use lib.ListN.{get_or, length, length-set, set, take}
use lib.Seq.{ext_get_or, get_or-set_other, get_or-set_same}
use mathlib.Core.Bool.{Bool, cond, false, true}
use mathlib.Core.List.{List}
use mathlib.Core.Logic.{◌≢◌}
use mathlib.Core.Path.{◌∙◌, ◌≡◌, ap, ap₂, refl, subst, sym}
use native.Mathlib.Decide.{dec_lt, ℕ_discrete}
use native.Mathlib.Numerals.{add-one}
use native.Mathlib.Omega.{arith}

-- ---- a row that is marked, and one that is not
-- one that is not counts nothing
off : (how : List ℕ) (f : ℕ → ℕ) (r : ℕ) → at how r ≡ 0 → if_marked how f r ≡ 0
off how f r z = ap (λ (v : ℕ). cond (ltb 0 v) (f r) 0) z

-- one that is counts itself
on : (how : List ℕ) (f : ℕ → ℕ) (r : ℕ) → 0 < at how r → if_marked how f r ≡ f r
on how f r h = ap (λ (b : Bool). cond b (f r) 0) (lt-ltb 0 (at how r) h)

-- what counts nothing counts nothing
none_on : (how : List ℕ) (f : ℕ → ℕ) (r : ℕ) → f r ≡ 0 → if_marked how f r ≡ 0
none_on how f r z = go (ltb 0 (at how r))
  where
    go : (b : Bool) → cond b (f r) 0 ≡ 0
    go true = z
    go false = refl

-- ---- the list begins
-- where no row is marked, none is listed
pub listed_blank : (n : ℕ) (how work : List ℕ) → n ≤ length how → 6 * n ≤ length work → n ≤ max_rows → Blank n how → Listed n how work 0
listed_blank n how work hb wb small blank = record {
  rows = λ f. sum_none (λ (i : ℕ). f (get_or work (5 * n + i) 0)) ∙ sym (sum_below-zero (if_marked how f) n (λ r l. off how f r (blank r l)));
  bytes = hb;
  words = wb;
  small = small;
}

-- the same, by the word behind the list
pub blank_next : (n : ℕ) (how work : List ℕ) (next : ℕ) → next ≡ 5 * n → Listed n how work 0 → ListedTo n how work next
blank_next n how work next e L =
    let z : 0 ≡ next - 5 * n = omega arith in
    record { start = omega arith; listed = subst (Listed n how work) z L }

-- and for the number of rows as the code holds it
pub listed-at : (w : List ℕ) {n : ℕ} {how work : List ℕ} {next : ℕ} → n ≡ n# w → ListedTo n how work next → ListedTo (n# w) how work next
listed-at w {n} {how} {work} {next} en L = subst (λ (n : ℕ). ListedTo n how work next) en L

-- ---- the list as it stands
module _ (n : ℕ) (how work : List ℕ) (met : ℕ) (L : Listed n how work met) where
  -- the row at place i of the list
  abbrev listed_at : ℕ → ℕ
  listed_at i = get_or work (5 * n + i) 0

  -- as many are listed as are marked
  pub listed-count : met ≡ sum_to (if_marked how (λ (r : ℕ). 1)) n
  listed-count = sym (sum_ones met) ∙ L.rows (λ (r : ℕ). 1)

  -- no more than there are
  pub listed-most : met ≤ n
  listed-most = omega (arith, listed-count, sum_below_le (if_marked how (λ (r : ℕ). 1)) (λ (r : ℕ). 1) n (λ r l. bit_most (ltb 0 (at how r))), sum_ones n)

  -- all of them rows
  pub listed-row : (i : ℕ) → i < met → listed_at i < n
  listed-row i l =
      let none : sum_to (λ (i : ℕ). suc (listed_at i) - n) met ≡ 0 =
      L.rows (λ (r : ℕ). suc r - n) ∙ sum_below-zero (if_marked how (λ (r : ℕ). suc r - n)) n (λ r h. none_on how (λ (r : ℕ). suc r - n) r (omega arith)) in
      omega (arith, sum_each_none (λ (i : ℕ). suc (listed_at i) - n) met none i l)

  -- the list stays where its words stay
  pub listed-stays : (work' : List ℕ) → ((i : ℕ) → 5 * n ≤ i → get_or work' i 0 ≡ get_or work i 0) → length work' ≡ length work → Listed n how work' met
  listed-stays work' same long = record {
    rows = λ f.
        sum_below-same (λ (i : ℕ). f (get_or work' (5 * n + i) 0)) (λ (i : ℕ). f (listed_at i)) met (λ i l. ap f (same (5 * n + i) (omega arith)))
        ∙ L.rows f;
    bytes = L.bytes;
    words = omega (arith, L.words);
    small = L.small;
  }

  -- and where the same rows are marked, in whatever way
  pub listed-as : (how' : List ℕ) → length how' ≡ length how → ((r : ℕ) → r < n → ltb 0 (at how' r) ≡ ltb 0 (at how r)) → Listed n how' work met
  listed-as how' long same = record {
    rows = λ f. L.rows f ∙ sym (sum_below-same (if_marked how' f) (if_marked how f) n (λ r l. ap (λ (b : Bool). cond b (f r) 0) (same r l)));
    bytes = omega (arith, L.bytes);
    words = L.words;
    small = L.small;
  }

  -- AS MANY ARE LISTED AS HOW-BYTES SAY MEASURED, where these alone are marked
  pub listed-measured : ((r : ℕ) → r < n → is_measured (at how r) ≡ ltb 0 (at how r)) → met ≡ measured (take n how)
  listed-measured same =
      listed-count
      ∙ sum_below-same (if_marked how (λ (r : ℕ). 1)) (λ (r : ℕ). cond (is_measured (at how r)) 1 0) n
      (λ r l. ap (λ (b : Bool). cond {A = ℕ} b 1 0) (sym (same r l)))
      ∙ sum-tally n L.bytes
    where
      sum-tally : (k : ℕ) → k ≤ length how → sum_to (λ (r : ℕ). cond (is_measured (at how r)) 1 0) k ≡ tally is_measured (take k how)
      sum-tally zero h = sum_none (λ (r : ℕ). cond (is_measured (at how r)) 1 0)
      sum-tally (suc k) h =
          ap (sum_to (λ (r : ℕ). cond (is_measured (at how r)) 1 0)) (sym (add-one k)) ∙ sum_next (λ (r : ℕ). cond (is_measured (at how r)) 1 0) k
          ∙ tally_next is_measured how k (omega arith) (sum-tally k (omega arith)) refl ∙ ap (λ (k : ℕ). tally is_measured (take k how)) (add-one k)

  -- ---- row r is marked
  module _ (r : ℕ) (row : r < n) where
    -- where it was not
    module _ (new : at how r ≡ 0) where
      -- the sum over the rows marked grows by it
      more : (f : ℕ → ℕ) → sum_to (if_marked (set how r 1) f) n ≡ sum_to (if_marked how f) n + f r
      more f =
          let byte : at (set how r 1) r ≡ 1 = get_or-set_same how r 1 0 (omega (arith, L.bytes)) in
          omega (
            arith,
            sum_change (if_marked how f) (if_marked (set how r 1) f) n r row
                (λ s l ne. ap (λ (v : ℕ). cond (ltb 0 v) (f s) 0) (get_or-set_other how r s 1 0 ne)),
            off how f r new,
            on (set how r 1) f r (omega arith),
          )

      -- THERE IS ROOM: fewer are listed than there are
      pub listed-room : met < n
      listed-room =
          omega (
            arith,
            listed-count,
            more (λ (r : ℕ). 1),
            sum_below_le (if_marked (set how r 1) (λ (r : ℕ). 1)) (λ (r : ℕ). 1) n (λ s l. bit_most (ltb 0 (at (set how r 1) s))),
            sum_ones n,
          )

      -- IT IS LISTED BEHIND THE OTHERS
      listed-one : (k v : ℕ) → k ≡ 5 * n + met → v ≡ r → Listed n (set how r 1) (set work k v) (met + 1)
      listed-one k v ek ev = record {
        rows = λ f.
            sum_next (λ (i : ℕ). f (get_or (set work k v) (5 * n + i) 0)) met
            ∙ ap₂ (λ (a b : ℕ). a + b)
            (sum_below-same (λ (i : ℕ). f (get_or (set work k v) (5 * n + i) 0)) (λ (i : ℕ). f (listed_at i)) met
            (λ i l. ap f (get_or-set_other work k (5 * n + i) v 0 (omega arith))) ∙ L.rows f)
            (ap f here) ∙ sym (more f);
        bytes = omega (arith, length-set how r 1, L.bytes);
        words = omega (arith, length-set work k v, L.words);
        small = L.small;
      }
        where
          here : get_or (set work k v) (5 * n + met) 0 ≡ r
          here =
              ap (λ (i : ℕ). get_or (set work k v) i 0) (sym ek) ∙ get_or-set_same work k v 0 (omega (arith, L.words, listed-room)) ∙ ev

    -- where it was, its how-byte stays
    byte-again : at how r ≤ 1 → at how r ≢ 0 → how ≡ set how r 1
    byte-again bit old = ext_get_or 0 how (set how r 1) (sym (length-set how r 1)) (λ s l. same s (ℕ_discrete s r))
      where
        same : (s : ℕ) → Dec (s ≡ r) → at how s ≡ at (set how r 1) s
        same s (yes e) =
            subst (λ (s : ℕ). at how s ≡ at (set how r 1) s) (sym e) (omega (arith, get_or-set_same how r 1 0 (omega (arith, L.bytes))))
        same s (no e) = sym (get_or-set_other how r s 1 0 e)

-- ---- the list, by the word behind it
module _ (n : ℕ) (how work : List ℕ) (next : ℕ) (L : ListedTo n how work next) where
  -- how many are listed
  abbrev met : ℕ
  met = next - 5 * n

  -- the list stays where what stands before it is written
  pub listed-front : (work' : List ℕ) (lo hi : ℕ) → hi ≤ 5 * n → Outside work work' lo hi → ListedTo n how work' next
  listed-front work' lo hi h O =
      record { start = L.start; listed = listed-stays n how work met L.listed work' (λ i l. O.over i (omega arith)) O.same }

  -- row r is marked
  module _ (r : ℕ) (row : r < n) where
    -- where it was not: the word behind the list is one of the workspace
    pub next-room : at how r ≡ 0 → next < 6 * n
    next-room new = omega (arith, listed-room n how work met L.listed r row new, L.start)

    -- and the row is listed there
    pub marked-new : at how r ≡ 0 → (v next' : ℕ) → v ≡ r → next' ≡ next + 1 → Marked n r how (set how r 1) work (set work next v) next'
    marked-new new v next' ev en =
        let count : met + 1 ≡ next' - 5 * n = omega (arith, L.start) in
        record {
          byte = refl;
          outside = outside_set work (5 * n) (6 * n) next v L.start (next-room new);
          listed = record {
            start = omega (arith, L.start);
            listed = subst (Listed n (set how r 1) (set work next v)) count
                (listed-one n how work met L.listed r row new next v (omega (arith, L.start)) ev);
          };
        }

    -- where it was, all stays
    pub marked-again : at how r ≤ 1 → at how r ≢ 0 → Marked n r how how work work next
    marked-again bit old = record {
      byte = byte-again n how work met L.listed r row bit old;
      outside = outside-same work (5 * n) (6 * n);
      listed = L;
    }

-- ---- the rows listed are unmarked, one after the other
-- the first i are: a row has its how-byte unless it is one of them
pub record UnmarkedTo (n : ℕ) (how₀ how work : List ℕ) (met i : ℕ) : Type 0 where
  pub byte : (r : ℕ) → at how r ≡ cond (ltb 0 (sum_to (λ (j : ℕ). is r (get_or work (5 * n + j) 0)) i)) 0 (at how₀ r)
  pub bytes : length how ≡ length how₀
  pub low : i ≤ met

module _ (n : ℕ) (how₀ work : List ℕ) (met : ℕ) (L : Listed n how₀ work met) where
  -- how often row r is one of the first i
  abbrev times : ℕ → ℕ → ℕ
  times r i = sum_to (λ (j : ℕ). is r (get_or work (5 * n + j) 0)) i

  -- none is at first
  pub unmark_start : (i : ℕ) → i ≡ 0 → UnmarkedTo n how₀ how₀ work met i
  unmark_start i z = record {
    byte = λ r. sym (ap (λ (v : ℕ). cond (ltb 0 v) 0 (at how₀ r)) (ap (times r) z ∙ sum_none (λ (j : ℕ). is r (get_or work (5 * n + j) 0))));
    bytes = refl;
    low = omega arith;
  }

  -- one more
  pub unmark_step : (how : List ℕ) (i v : ℕ) → UnmarkedTo n how₀ how work met i → i < met → v ≡ get_or work (5 * n + i) 0
      → UnmarkedTo n how₀ (set how v 0) work met (i + 1)
  unmark_step how i v U l ev = record {
    byte = λ r. one r (ℕ_discrete r v);
    bytes = length-set how v 0 ∙ U.bytes;
    low = omega arith;
  }
    where
      next : (r : ℕ) → times r (i + 1) ≡ times r i + is r v
      next r = sum_next (λ (j : ℕ). is r (get_or work (5 * n + j) 0)) i ∙ ap (λ (v : ℕ). times r i + is r v) (sym ev)

      row : v < length how
      row = omega (arith, listed-row n how₀ work met L i l, L.bytes, U.bytes)

      one : (r : ℕ) → Dec (r ≡ v) → at (set how v 0) r ≡ cond (ltb 0 (times r (i + 1))) 0 (at how₀ r)
      one r (yes e) =
          ap (at (set how v 0)) e ∙ get_or-set_same how v 0 0 row
          ∙ sym (ap (λ (b : Bool). cond b 0 (at how₀ r)) (lt-ltb 0 (times r (i + 1)) (omega (arith, next r, is_self v, ap (λ (r : ℕ). is r v) e))))
      one r (no e) =
          let same : times r i ≡ times r (i + 1) = omega (arith, next r, is-not r v e) in
          get_or-set_other how v r 0 0 e ∙ U.byte r ∙ ap (λ (k : ℕ). cond (ltb 0 k) 0 (at how₀ r)) same

  -- ALL ARE: the first n how-bytes are 0, and the others stay
  pub unmark_done : (how : List ℕ) (i : ℕ) → UnmarkedTo n how₀ how work met i → met ≤ i → how ≡ wiped n how₀
  unmark_done how i U h =
      ext_get_or 0 how (wiped n how₀) (U.bytes ∙ sym (wiped-length how₀ (wiped n how₀) n L.bytes refl)) (λ r l. at_row r (dec_lt r n))
    where
      end : i ≡ met
      end = omega (arith, U.low)

      -- a row that was marked is listed
      clear : (r : ℕ) → r < n → Dec (0 < at how₀ r) → at how r ≡ 0
      clear r l (yes p) =
          let some : 0 < times r i =
          omega (
            arith,
            ap (times r) end,
            L.rows (is r),
            sum_part (if_marked how₀ (is r)) n r l,
            on how₀ (is r) r p,
            is_self r,
          ) in
          U.byte r ∙ ap (λ (b : Bool). cond b 0 (at how₀ r)) (lt-ltb 0 (times r i) some)
      clear r l (no p) = U.byte r ∙ zero-all (ltb 0 (times r i)) (omega arith)
        where
          zero-all : (b : Bool) → at how₀ r ≡ 0 → cond b 0 (at how₀ r) ≡ 0
          zero-all true z = refl
          zero-all false z = z

      -- one from n on is not
      past : (r : ℕ) → n ≤ r → times r i ≡ 0
      past r l =
          ap (times r) end
          ∙ sum_below-zero (λ (j : ℕ). is r (get_or work (5 * n + j) 0)) met
          (λ j q. is-not r (get_or work (5 * n + j) 0) (λ e. omega (arith, listed-row n how₀ work met L j q)))

      at_row : (r : ℕ) → Dec (r < n) → at how r ≡ at (wiped n how₀) r
      at_row r (yes l) = clear r l (dec_lt 0 (at how₀ r)) ∙ sym (wiped-zero how₀ (wiped n how₀) n L.bytes refl r l)
      at_row r (no l) =
          U.byte r ∙ ap (λ (v : ℕ). cond (ltb 0 v) 0 (at how₀ r)) (past r (omega arith))
          ∙ sym (wiped-past how₀ (wiped n how₀) n L.bytes refl r (omega arith))
