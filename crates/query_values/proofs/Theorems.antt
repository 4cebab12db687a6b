-- What the contract on values says. Assumes nothing.
use Prim.Native.Nat.{◌*◌, ◌<◌, ◌≤◌, ℕ}
use Rattle.asking.specs.Pieces.{has_piece}
use Rattle.column_products.proofs.Firsts.{first_below, first_passes}
use Rattle.column_products.proofs.Items.{items_at}
use Rattle.column_products.specs.Chosen.{most}
use Rattle.query_values.specs.Values.{PutsValues, beyond, first_wrong, item_says, item_trouble_lem, times_of, value_of}
use borrow.Author.Tests.{ltb-false, ltb-true}
use lib.Dec.{eqb, ltb}
use lib.ListN.{drop, get_or}
use mathlib.Core.Bool.{Bool, cond, false, true}
use mathlib.Core.List.{List}
use mathlib.Core.Path.{◌∙◌, ◌≡◌, ap, refl, sym}
use native.Mathlib.Omega.{arith}

-- TWO OUTCOMES THAT BOTH MEET THE CONTRACT ARE EQUAL
pub values_only : {list : List ℕ} {o : ℕ} {factors : List ℕ} {k : ℕ} {queries q₁ q₂ : List ℕ} {w₁ m₁ n₁ w₂ m₂ n₂ : ℕ}
    → PutsValues list o factors k queries q₁ w₁ m₁ n₁ → PutsValues list o factors k queries q₂ w₂ m₂ n₂ → (w₁ ≡ w₂) × (m₁ ≡ m₂) × (n₁ ≡ n₂) × (q₁ ≡ q₂)
values_only a b =
    let e = a.said ∙ sym b.said in
    (e, a.which ∙ sym b.which, a.one ∙ ap (λ (x : ℕ). cond {A = ℕ} (eqb x 0) 1 0) e ∙ sym b.one, a.content ∙ sym b.content)

-- an item with which nothing is wrong is not more than a table holds
sound_small : (p g h : Bool) → cond {A = ℕ} p (cond g 24 (cond h 28 0)) 25 ≡ 0 → g ≡ false
sound_small true false h e = refl
sound_small true true h e = absurd (omega (arith, e))
sound_small false g h e = absurd (omega (arith, e))

-- a product that is not more than that is told as it is
exact : (b : Bool) (x : ℕ) → cond b 65_536 x ≤ 65535 → cond b 65_536 x ≡ x
exact true x h = absurd (omega (arith, h))
exact false x h = refl

module _ (list : List ℕ) (o : ℕ) (factors : List ℕ) where
  -- so its value is what it says times the factor
  sound-value : (i : ℕ) → item_trouble_lem list o factors i ≡ 0 → value_of list factors i ≡ item_says list i * get_or factors i 0
  unfolding item_trouble_lem value_of times_of
  sound-value i e =
      exact (beyond (item_says list i) (get_or factors i 0)) (item_says list i * get_or factors i 0)
      (ltb-false 65_535 (value_of list factors i)
      (sound_small (has_piece 44 list i) (ltb 65_535 (value_of list factors i)) (ltb (most o i) (value_of list factors i)) e))

  -- where nothing is wrong, nothing is wrong with any of the k items
  all_sound : (k : ℕ) → 0 ≡ cond (ltb (first_wrong list o factors k) k) (item_trouble_lem list o factors (first_wrong list o factors k))
      (cond (has_piece 44 list (first_wrong list o factors k)) 25 0) → k ≤ first_wrong list o factors k
  unfolding first_wrong
  all_sound k e = go (ltb (first_wrong list o factors k) k) refl e
    where
      go : (b : Bool) → ltb (first_wrong list o factors k) k ≡ b
          → 0 ≡ cond b (item_trouble_lem list o factors (first_wrong list o factors k)) (cond (has_piece 44 list (first_wrong list o factors k)) 25 0)
          → k ≤ first_wrong list o factors k
      go true p h =
          let l = ltb-true (first_wrong list o factors k) k p in
          let t = ltb-true 0 (item_trouble_lem list o factors (first_wrong list o factors k)) (first_passes (λ (i : ℕ). ltb 0 (item_trouble_lem list o factors i)) k l) in
          absurd (omega (arith, h, t))
      go false p h = ltb-false (first_wrong list o factors k) k p

  -- WHERE NOTHING IS WRONG, EACH OF THE k NUMBERS OF THE QUERY IS WHAT ITS ITEM SAYS TIMES ITS FACTOR
  pub values-said : (k : ℕ) (queries queries' : List ℕ) (more count : ℕ) → PutsValues list o factors k queries queries' 0 more count → (i : ℕ) → i < k
      → get_or queries' i 0 ≡ item_says list i * get_or factors i 0
  unfolding first_wrong
  values-said k queries queries' more count P i l =
      let s = all_sound k P.said in
      let t = ltb-false 0 (item_trouble_lem list o factors i) (first_below (λ (j : ℕ). ltb 0 (item_trouble_lem list o factors j)) k i (omega (arith, s, l))) in
      ap (λ (x : List ℕ). get_or x i 0) P.content
      ∙ items_at (value_of list factors) (first_wrong list o factors k) i (drop (first_wrong list o factors k) queries) (omega (arith, s, l))
      ∙ sound-value i (omega (arith, t))
