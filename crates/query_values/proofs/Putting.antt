-- Values put one after the other, up to the first item with which something is wrong. Assumes nothing.
use Prim.Native.Nat.{◌*◌, ◌+◌, ◌<◌, ◌≤◌, ℕ}
use Rattle.asking.specs.Pieces.{Stands, cut, end_at, has_piece, piece_of}
use Rattle.asking.specs.declared.pieces.Piece.{Piece}
use Rattle.asking.specs.Worth.{worth}
use Rattle.column_products.proofs.Firsts.{first-here, first-none, first_on}
use Rattle.column_products.proofs.Items.{items_stored}
use Rattle.column_products.specs.Chosen.{items_of, most}
use Rattle.query_values.specs.Values.{PutsValues, beyond, first_wrong, item_says, item_trouble_lem, times_of, value_of}
use borrow.Author.Tests.{le-ltb, lt-ltb, ne_eqb}
use lib.Dec.{eqb, ltb}
use lib.ListN.{drop, get_or, length, set}
use mathlib.Core.Bool.{cond, false}
use mathlib.Core.List.{List, ◌++◌}
use mathlib.Core.Path.{◌∙◌, ◌≡◌, ap, ap₂, refl, subst, sym}
use native.Mathlib.Omega.{arith}

-- ---- a number times its factor
module _ (value factor : ℕ) where
  -- the number is too great
  pub times-number : 65535 < value → 65536 ≡ times_of value factor
  unfolding times_of beyond
  times-number h = rw (lt-ltb 65_535 value h) refl

  module _ (v : value ≤ 65535) where
    -- the factor is
    pub times-factor : 65535 < factor → 65536 ≡ times_of value factor
    unfolding times_of beyond
    times-factor h = rw (le-ltb 65_535 value v, lt-ltb 65_535 factor h) refl

    module _ (f : factor ≤ 65535) where
      -- the product is
      pub times-product : 65535 < value * factor → 65536 ≡ times_of value factor
      unfolding times_of beyond
      times-product h = rw (le-ltb 65_535 value v, le-ltb 65_535 factor f, lt-ltb 65_535 (value * factor) h) refl

      -- nothing is
      pub times-small : value * factor ≤ 65535 → value * factor ≡ times_of value factor
      unfolding times_of beyond
      times-small h = rw (le-ltb 65_535 value v, le-ltb 65_535 factor f, le-ltb 65_535 (value * factor) h) refl

-- ---- one item
-- it is missing
item-none : (list : List ℕ) (i o : ℕ) (factors : List ℕ) → has_piece 44 list i ≡ false → item_trouble_lem list o factors i ≡ 25
unfolding item_trouble_lem
item-none list i o factors e = rw e refl

module _ {list : List ℕ} {i : ℕ} where
  module _ {p : Piece} (f : Stands 44 list i p) (factors : List ℕ) (value : ℕ) (v : value ≡ times_of (worth (cut list p.start p.end)) (get_or factors i 0)) where
    -- its bytes
    item-cut : cut list p.start p.end ≡ piece_of 44 list i
    unfolding piece_of
    item-cut = ap₂ (λ (a b : ℕ). cut list a b) f.starts (f.ends ∙ ap (λ (a : ℕ). end_at 44 list a) f.starts)

    -- its value
    pub item-value : value ≡ value_of list factors i
    unfolding value_of item_says
    item-value = v ∙ ap (λ (x : List ℕ). times_of (worth x) (get_or factors i 0)) item-cut

    -- more than a table holds
    pub item-great : (o : ℕ) → 65535 < value → item_trouble_lem list o factors i ≡ 24
    unfolding item_trouble_lem
    item-great o h = rw (f.has, lt-ltb 65_535 (value_of list factors i) (omega (arith, item-value))) refl

    module _ (o m : ℕ) (h : value ≤ 65535) (q : m ≡ most o i) where
      -- more than a circle has
      pub item-off : m < value → item_trouble_lem list o factors i ≡ 28
      unfolding item_trouble_lem
      item-off g =
          rw (f.has, le-ltb 65_535 (value_of list factors i) (omega (arith, item-value)), ← q, lt-ltb m (value_of list factors i) (omega (arith, item-value)))
          refl

      -- nothing is wrong
      pub item-sound : value ≤ m → item_trouble_lem list o factors i ≡ 0
      unfolding item_trouble_lem
      item-sound g =
          rw (f.has, le-ltb 65_535 (value_of list factors i) (omega (arith, item-value)), ← q, le-ltb m (value_of list factors i) (omega (arith, item-value)))
          refl

-- ---- the items so far
-- nothing is wrong with the first i items, and they are put
pub record Putting (list : List ℕ) (o : ℕ) (factors : List ℕ) (k : ℕ) (queries₀ queries : List ℕ) (i : ℕ) : Type 0 where
  pub bound : i ≤ k
  pub few : k ≤ 16
  pub slots : length queries₀ ≡ 1024
  pub sound : first_wrong list o factors i ≡ i
  pub content : queries ≡ items_of (value_of list factors) i ++ drop i queries₀

-- none
pub putting_start : {list : List ℕ} {o : ℕ} {factors : List ℕ} {k : ℕ} {queries₀ : List ℕ} → k ≤ 16 → length queries₀ ≡ 1024
    → Putting list o factors k queries₀ queries₀ 0
unfolding first_wrong items_of
putting_start {list} {o} {factors} a b =
    record { bound = omega arith; few = a; slots = b; sound = first-none (λ (i : ℕ). ltb 0 (item_trouble_lem list o factors i)); content = refl }

module _ {list : List ℕ} {o : ℕ} {factors : List ℕ} {k : ℕ} {queries₀ queries : List ℕ} {i : ℕ} (P : Putting list o factors k queries₀ queries i) where
  -- one more
  pub putting-next : (value : ℕ) → i < k → value ≡ value_of list factors i → item_trouble_lem list o factors i ≡ 0
      → Putting list o factors k queries₀ (set queries i value) (i + 1)
  unfolding first_wrong
  putting-next value l v t =
      record {
        bound = omega arith;
        few = P.few;
        slots = P.slots;
        sound = first_on (λ (j : ℕ). ltb 0 (item_trouble_lem list o factors j)) P.sound (le-ltb 0 (item_trouble_lem list o factors i) (omega (arith, t)));
        content = items_stored (value_of list factors) i value queries queries₀ (omega (arith, P.few, P.slots)) P.content v;
      }

  -- the outcome, told by where the first wrong item is
  puts : (s : ℕ) → first_wrong list o factors k ≡ s → i ≡ s → (wrong more count : ℕ)
      → wrong ≡ cond (ltb s k) (item_trouble_lem list o factors s) (cond (has_piece 44 list s) 25 0)
      → more ≡ cond (has_piece 44 list s) (s + 1) (cond (ltb s k) s 0) → count ≡ cond (eqb wrong 0) 1 0
      → PutsValues list o factors k queries₀ queries wrong more count
  puts s e q wrong more count a b d =
      record {
        said = subst (λ (x : ℕ). wrong ≡ cond (ltb x k) (item_trouble_lem list o factors x) (cond (has_piece 44 list x) 25 0)) (sym e) a;
        which = subst (λ (x : ℕ). more ≡ cond (has_piece 44 list x) (x + 1) (cond (ltb x k) x 0)) (sym e) b;
        one = d;
        content = P.content ∙ ap (λ (x : ℕ). items_of (value_of list factors) x ++ drop x queries₀) (q ∙ sym e);
      }

  module _ (l : i < k) where
    -- something is wrong with the next
    stopped : (wrong more count : ℕ) → 0 < wrong → item_trouble_lem list o factors i ≡ wrong → more ≡ cond (has_piece 44 list i) (i + 1) i → count ≡ 0
        → PutsValues list o factors k queries₀ queries wrong more count
    unfolding first_wrong
    stopped wrong more count h t m z =
        puts i
        (first-here (λ (j : ℕ). ltb 0 (item_trouble_lem list o factors j)) k P.sound (lt-ltb 0 (item_trouble_lem list o factors i) (omega (arith, t))) l)
        refl
        wrong
        more
        count
        (rw (lt-ltb i k l) (sym t))
        (rw (lt-ltb i k l) m)
        (rw (ne_eqb wrong 0 (λ (q : wrong ≡ 0). omega arith)) z)

    -- it is missing
    pub puts_none : has_piece 44 list i ≡ false → PutsValues list o factors k queries₀ queries 25 i 0
    puts_none e = stopped 25 i 0 (omega arith) (item-none list i o factors e) (rw e refl) refl

    -- it is there, and too great
    pub puts-wrong : {p : Piece} → Stands 44 list i p → (t : ℕ) → 0 < t → item_trouble_lem list o factors i ≡ t
        → PutsValues list o factors k queries₀ queries t (i + 1) 0
    puts-wrong f t h q = stopped t (i + 1) 0 h q (rw f.has refl) refl
