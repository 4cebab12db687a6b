-- The marks of n rows joined by one search's how-bytes, row after row. Assumes nothing.
use Prim.Native.Nat.{◌+◌, ◌<◌, ◌≤◌, ℕ}
use Rattle.joined_marks.proofs.Firsts.{first-kept, first_stored}
use Rattle.joined_marks.specs.Firsts.{first_of}
use Rattle.joined_marks.specs.Joins.{fresh, merged, sum_fresh, united}
use Rattle.laws.proofs.Sums.{sum_next}
use Rattle.laws.specs.Upto.{sum_to}
use borrow.Author.Tests.{eq-eqb, le-leb, lt-leb, ne_eqb}
use lib.ListN.{get_or, length, length-set, set}
use mathlib.Core.List.{List}
use mathlib.Core.Path.{◌∙◌, ◌≡◌, ap, ap₂, refl, sym}
use native.Mathlib.Omega.{arith}

-- ---- one row
-- a row that is not in is not new
pub fresh_out : (mark how : ℕ) → how < 2 → 0 ≡ fresh mark how
unfolding fresh
fresh_out mark how h = rw (lt-leb 2 how h) refl

-- one that is in and has no mark is
pub fresh_new : (mark how : ℕ) → 2 ≤ how → mark ≡ 0 → 1 ≡ fresh mark how
unfolding fresh
fresh_new mark how h e = rw (le-leb 2 how h, eq-eqb mark 0 e) refl

-- one that has a mark is not
pub fresh-marked : (mark how : ℕ) → 2 ≤ how → (mark ≡ 0 → ⊥) → 0 ≡ fresh mark how
unfolding fresh
fresh-marked mark how h e = rw (le-leb 2 how h, ne_eqb mark 0 e) refl

-- ---- row after row
-- i of n rows are joined
pub record Joined (how marks₀ : List ℕ) (n : ℕ) (marks : List ℕ) (new i : ℕ) : Type 0 where
  pub bound : i ≤ n
  pub bytes : n ≤ length how
  pub room : n ≤ length marks₀
  pub long : length marks ≡ length marks₀
  pub content : marks ≡ united how marks₀ i
  pub count : new ≡ sum_fresh how marks₀ i
  pub few : new ≤ i

module _ (how marks₀ : List ℕ) (n : ℕ) where
  -- before the first
  pub join_start : n ≤ length how → n ≤ length marks₀ → Joined how marks₀ n marks₀ 0 0
  unfolding united sum_fresh first_of sum_to
  join_start h m = record { bound = omega arith; bytes = h; room = m; long = refl; content = refl; count = refl; few = omega arith }

  module _ {marks : List ℕ} {new i : ℕ} (J : Joined how marks₀ n marks new i) where
    -- one row more
    pub join-next : {v one : ℕ} → i < n → v ≡ merged (get_or marks i 0) (get_or how i 0) → one ≡ fresh (get_or marks i 0) (get_or how i 0) → one ≤ 1
        → Joined how marks₀ n (set marks i v) (new + one) (i + 1)
    unfolding united sum_fresh
    join-next {v} {one} l e f s =
        let kept : get_or marks i 0 ≡ get_or marks₀ i 0
        = first-kept (λ j. merged (get_or marks₀ j 0) (get_or how j 0)) i marks marks₀ (omega (arith, J.room)) J.content in
        record {
          bound = omega arith;
          bytes = J.bytes;
          room = J.room;
          long = simp length-set J.long;
          content = first_stored (λ j. merged (get_or marks₀ j 0) (get_or how j 0)) i v marks marks₀ (omega (arith, J.room)) J.content
              (e ∙ ap (λ (x : ℕ). merged x (get_or how i 0)) kept);
          count = ap₂ ◌+◌ J.count (f ∙ ap (λ (x : ℕ). fresh x (get_or how i 0)) kept)
              ∙ sym (sum_next (λ j. fresh (get_or marks₀ j 0) (get_or how j 0)) i);
          few = omega (arith, J.few);
        }

    -- behind the last
    pub join-done : n ≤ i → (marks ≡ united how marks₀ n) × (new ≡ sum_fresh how marks₀ n) × (new ≤ n)
    join-done l =
        let e : i ≡ n = omega (arith, J.bound) in
        (J.content ∙ ap (united how marks₀) e, J.count ∙ ap (sum_fresh how marks₀) e, omega (arith, J.few))
