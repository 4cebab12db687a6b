-- The chosen rows laid one after the other into the table that they are taken from. Assumes nothing.
use Prim.Native.Nat.{◌*◌, ◌+◌, ◌-◌, ◌<◌, ◌≤◌, suc, zero, ℕ}
use Rattle.column_products.proofs.Items.{items-length, items_stored}
use Rattle.column_products.specs.Chosen.{Choice, Small, SmallRows, chosen_row_lem, chosen_table, items_of, rows_by, times_factor}
use Rattle.measure.proofs.Rows.{row_ends}
use Rattle.measure.specs.Table.{row}
use lib.ListN.{drop, length, length-append, length-set, set, take}
use lib.Seq.{drop_at, drop-drop, length-paste, paste, take_at}
use mathlib.Core.List.{List, ◌++◌}
use mathlib.Core.Path.{◌∙◌, ◌≡◌, ap, ap₂, refl, subst, sym}
use native.Mathlib.Nat.{mul-le-mul_right, mul-suc}
use native.Mathlib.Numerals.{add-one, unary_clauses}
use native.Mathlib.Omega.{arith}

-- ---- one row
-- j of its chosen columns are taken
pub record Taken (r chosen factors : List ℕ) (k : ℕ) (out₀ out : List ℕ) (j : ℕ) : Type 0 where
  pub bound : j ≤ k
  pub choice : Choice (length r) chosen k
  pub small : Small r chosen factors k
  pub long : length out ≡ 16
  pub slots : length out₀ ≡ 16
  pub content : out ≡ items_of (times_factor r chosen factors) j ++ drop j out₀

module _ {r chosen factors : List ℕ} {k : ℕ} where
  -- none
  pub taken_start : (out₀ : List ℕ) → length out₀ ≡ 16 → Choice (length r) chosen k → Small r chosen factors k → Taken r chosen factors k out₀ out₀ 0
  unfolding items_of
  taken_start out₀ e C s = record { bound = omega arith; choice = C; small = s; long = e; slots = e; content = refl }

  module _ {out₀ out : List ℕ} {j : ℕ} (T : Taken r chosen factors k out₀ out j) where
    -- one more
    pub taken_next : {v : ℕ} → j < k → v ≡ times_factor r chosen factors j → Taken r chosen factors k out₀ (set out j v) (j + 1)
    taken_next {v} l e =
        record {
          bound = omega arith;
          choice = T.choice;
          small = T.small;
          long = simp length-set T.long;
          slots = T.slots;
          content = items_stored (times_factor r chosen factors) j v out out₀ (omega (arith, T.choice.few, T.slots)) T.content e;
        }

    -- all k
    pub taken-all : k ≤ j → (length out ≡ 16) × (take k out ≡ chosen_row_lem r chosen factors k)
    unfolding chosen_row_lem
    taken-all h =
        let e : j ≡ k = omega (arith, T.bound) in (
          T.long,
          ap (take k) (T.content ∙ ap (λ (x : ℕ). items_of (times_factor r chosen factors) x ++ drop x out₀) e)
              ∙ take_at (items_of (times_factor r chosen factors) k) (drop k out₀) k (items-length (times_factor r chosen factors) k),
        )

-- ---- rows one after the other
-- one more
pub rows_next : (f : ℕ → List ℕ) (n : ℕ) → rows_by f (n + 1) ≡ rows_by f n ++ f n
unfolding rows_by
rows_next f n = rw add-one

-- n rows of k numbers
pub rows-length : (f : ℕ → List ℕ) (k : ℕ) → ((i : ℕ) → length (f i) ≡ k) → (n : ℕ) → length (rows_by f n) ≡ k * n
unfolding rows_by
rows-length f k h zero = omega arith
rows-length f k h (suc n) = length-append (rows_by f n) (f n) ∙ rw mul-suc (omega (arith, rows-length f k h n, h n))

module _ (t : List ℕ) (c : ℕ) (chosen factors : List ℕ) (k : ℕ) where
  -- a chosen row has k numbers
  pub chosen-length : (r : List ℕ) → length (chosen_row_lem r chosen factors k) ≡ k
  unfolding chosen_row_lem
  chosen-length r = items-length (times_factor r chosen factors) k

  -- so n of them are k * n
  pub table-length : (n : ℕ) → length (chosen_table t c chosen factors k n) ≡ k * n
  unfolding chosen_table
  table-length n = rows-length (λ (i : ℕ). chosen_row_lem (row t c i) chosen factors k) k (λ i. chosen-length (row t c i)) n

  -- one row more
  pub table-next : (i : ℕ) → chosen_table t c chosen factors k (i + 1) ≡ chosen_table t c chosen factors k i ++ chosen_row_lem (row t c i) chosen factors k
  unfolding chosen_table
  table-next i = rows_next (λ (i : ℕ). chosen_row_lem (row t c i) chosen factors k) i

-- i of n rows are laid
pub record Laid (t : List ℕ) (c n : ℕ) (chosen factors : List ℕ) (k : ℕ) (u : List ℕ) (at i : ℕ) : Type 0 where
  pub bound : i ≤ n
  pub choice : Choice c chosen k
  pub narrow : k ≤ c
  pub room : c * n ≤ length t
  pub small : SmallRows t c chosen factors k n
  pub place : at ≡ k * i
  pub long : length u ≡ length t
  pub content : u ≡ chosen_table t c chosen factors k i ++ drop (k * i) t

module _ {t : List ℕ} {c n : ℕ} {chosen factors : List ℕ} {k : ℕ} where
  -- none
  pub laid_start : Choice c chosen k → k ≤ c → c * n ≤ length t → SmallRows t c chosen factors k n → Laid t c n chosen factors k t 0 0
  unfolding chosen_table rows_by
  laid_start C h l s =
      record { bound = omega arith; choice = C; narrow = h; room = l; small = s; place = omega arith; long = refl; content = simp unary_clauses refl }

  module _ {u : List ℕ} {at i : ℕ} (L : Laid t c n chosen factors k u at i) (l : i < n) where
    -- the place of row i is not behind its chosen columns
    front : k * i ≤ c * i
    front = mul-le-mul_right i L.narrow

    -- row i stands in the table
    pub laid-there : c * i + c ≤ length u
    laid-there = omega (arith, row_ends c n i l, L.room, L.long)

    -- as it was
    pub laid-row : row u c i ≡ row t c i
    laid-row =
        ap (take c)
        (ap (drop (c * i)) L.content ∙ go (c * i - k * i) (omega (arith, front)))
      where
        go : (d : ℕ) → c * i ≡ k * i + d → drop (c * i) (chosen_table t c chosen factors k i ++ drop (k * i) t) ≡ drop (c * i) t
        go d e =
            ap (λ (x : ℕ). drop x (chosen_table t c chosen factors k i ++ drop (k * i) t)) e
            ∙ sym (drop-drop d (k * i) (chosen_table t c chosen factors k i ++ drop (k * i) t))
            ∙ ap (drop d) (drop_at (chosen_table t c chosen factors k i) (drop (k * i) t) (k * i) (table-length t c chosen factors k i))
            ∙ drop-drop d (k * i) t
            ∙ ap (λ (x : ℕ). drop x t) (sym e)

    -- and the products of what is read there are small
    pub laid-small : {r : List ℕ} → r ≡ row u c i → Small r chosen factors k
    laid-small {r} e = subst (λ (x : List ℕ). Small x chosen factors k) (sym (e ∙ laid-row)) (L.small i l)

    -- whose chosen columns are the row's
    pub laid-chosen : {r xs : List ℕ} → xs ≡ chosen_row_lem r chosen factors k → r ≡ row u c i → xs ≡ chosen_row_lem (row t c i) chosen factors k
    laid-chosen {r} p e = p ∙ ap (λ (x : List ℕ). chosen_row_lem x chosen factors k) (e ∙ laid-row)

    -- there is room for it
    pub laid-fits : at + k ≤ length u
    laid-fits = omega (arith, L.place, L.long, front, L.narrow, row_ends c n i l, L.room)

    -- one more
    pub laid_next : (out : List ℕ) {u₂ : List ℕ} → take k out ≡ chosen_row_lem (row t c i) chosen factors k → k ≤ length out → u₂ ≡ paste u at out k
        → Laid t c n chosen factors k u₂ (at + k) (i + 1)
    laid_next out {u₂} e s p =
        record {
          bound = omega arith;
          choice = L.choice;
          narrow = L.narrow;
          room = L.room;
          small = L.small;
          place = omega (arith, L.place, mul-suc k i, ap (λ (x : ℕ). k * x) (add-one i));
          long = ap length p ∙ length-paste u at out k laid-fits s ∙ L.long;
          content = p ∙ ap (λ (x : ℕ). paste u x out k) L.place ∙ ap₂ ◌++◌ (ap₂ ◌++◌ before e) behind ∙ ap (λ (x : List ℕ). x ++ drop (k * (i + 1)) t) (sym (table-next t c chosen factors k i));
        }
      where
        before : take (k * i) u ≡ chosen_table t c chosen factors k i
        before = ap (take (k * i)) L.content ∙ take_at (chosen_table t c chosen factors k i) (drop (k * i) t) (k * i) (table-length t c chosen factors k i)

        step : k * (i + 1) ≡ k * i + k
        step = ap (λ (x : ℕ). k * x) (add-one i) ∙ mul-suc k i

        behind : drop (k * i + k) u ≡ drop (k * (i + 1)) t
        behind =
            ap (drop (k * i + k)) L.content
            ∙ sym (drop-drop k (k * i) (chosen_table t c chosen factors k i ++ drop (k * i) t))
            ∙ ap (drop k) (drop_at (chosen_table t c chosen factors k i) (drop (k * i) t) (k * i) (table-length t c chosen factors k i))
            ∙ drop-drop k (k * i) t
            ∙ ap (λ (x : ℕ). drop x t) (sym step)

  -- all n
  pub laid_all : {u : List ℕ} {at i : ℕ} → Laid t c n chosen factors k u at i → n ≤ i → u ≡ chosen_table t c chosen factors k n ++ drop (k * n) t
  laid_all {u} {at} {i} L h =
      let e : i ≡ n = omega (arith, L.bound) in
      L.content ∙ ap (λ (x : ℕ). chosen_table t c chosen factors k x ++ drop (k * x) t) e
