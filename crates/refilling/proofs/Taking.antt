-- The new rows, one after the other, behind the root's own entries, and how far the root reaches with those so far. Assumes nothing.
use Prim.Native.Nat.{◌*◌, ◌+◌, ◌-◌, ◌<◌, ◌≤◌, max, min, ℕ}
use Rattle.appending.specs.Append.{reach_with}
use Rattle.laws.proofs.Joins.{each_append}
use Rattle.laws.proofs.Lists.{map-append}
use Rattle.laws.proofs.Parts.{put_more}
use Rattle.laws.proofs.Ranges.{range_append, range_length}
use Rattle.laws.specs.Lists.{each, lower, range}
use Rattle.limits.specs.Limits.{max_columns}
use Rattle.measure.proofs.Rows.{row_ends}
use Rattle.measure.specs.Table.{between}
use Rattle.opening.specs.Sound.{Task}
use Rattle.refilling.specs.Rooted.{TakenIn, new_entry, new_ones}
use Rattle.rounds.proofs.Parts.{mid_end}
use Rattle.split.proofs.Laid.{under_long}
use Rattle.swelling.proofs.Swollen.{taking_snoc}
use Rattle.swelling.specs.Swell.{reach_taking}
use Rattle.tree.specs.Grove.{Reach, reach#}
use Rattle.words.specs.Words.{c#, circles#, first#, n#}
use borrow.Author.Tests.{eqb-false, eqb-true, le-leb, lt-leb}
use borrow.Rule.Slice.PartMut.{mid_of, put_mid}
use lib.Dec.{eqb, leb}
use lib.ListN.{drop, length, length-append, length-drop, length-map, take, take-append-drop}
use lib.Seq.{length-take-le}
use mathlib.Core.Bool.{Bool, cond, false, true}
use mathlib.Core.List.{List, [], ◌++◌, ◌∷◌, append_assoc, append-nil, map}
use mathlib.Core.Path.{◌∙◌, ◌≡◌, ap, ap₂, refl, sym}
use native.Mathlib.Omega.{arith}

-- the least of k, where there is one before
lower-is : (k low v : ℕ) → 1 ≤ k → lower k low v ≡ cond (eqb k 1) v (min low v)
lower-is k low v h = go (eqb k 1) refl
  where
    go : (b : Bool) → eqb k 1 ≡ b → cond (leb k 1) v (min low v) ≡ cond b v (min low v)
    go true e = ap (λ (b : Bool). cond b v (min low v)) (le-leb k 1 (omega (arith, eqb-true k 1 e)))
    go false e = ap (λ (b : Bool). cond b v (min low v)) (lt-leb k 1 (omega (arith, eqb-false k 1 e)))

module _ (t w : List ℕ) (n : ℕ) (work₀ : List ℕ) where
  -- how far a row is from the root's first
  abbrev far : ℕ → ℕ
  far z = between t (c# w) (circles# w) (first# w 0) z

  -- the new rows before row z
  abbrev upto : ℕ → List ℕ
  upto z = range (n# w) (z - n# w)

  -- how far the root reaches with them
  abbrev reach_to : ℕ → Reach
  reach_to z = reach_taking (n# w) (reach# w 0) (map far (upto z))

  -- they are laid
  pub record Taking (work : List ℕ) (radius inner z : ℕ) : Type 0 where
    pub some : n# w ≤ z
    pub most : z ≤ n
    pub long : length work ≡ length work₀
    pub wrote : work ≡ (take (3 * n# w) work₀ ++ each (new_entry t w) (upto z)) ++ drop (3 * z) work₀
    pub wide : radius ≡ (reach_to z).outer
    pub near : inner ≡ (reach_to z).inner

  -- none is
  pub taking_start : {radius inner z : ℕ} → n# w ≤ n → z ≡ n# w → radius ≡ (reach# w 0).outer → inner ≡ (reach# w 0).inner
      → Taking work₀ radius inner z
  taking_start {z = z} h e r i =
      let none : z - n# w ≡ 0 = omega arith in
      record {
        some = omega arith;
        most = omega arith;
        long = refl;
        wrote =
            sym (ap₂ (λ (a b : ℕ). (take (3 * n# w) work₀ ++ each (new_entry t w) (range (n# w) a)) ++ drop (3 * b) work₀) none e
            ∙ ap (λ (x : List ℕ). x ++ drop (3 * n# w) work₀) (append-nil (take (3 * n# w) work₀)) ∙ take-append-drop (3 * n# w) work₀);
        wide = r ∙ ap (λ (a : ℕ). (reach_taking (n# w) (reach# w 0) (map far (range (n# w) a))).outer) (sym none);
        near = i ∙ ap (λ (a : ℕ). (reach_taking (n# w) (reach# w 0) (map far (range (n# w) a))).inner) (sym none);
      }

  -- one row more
  upto-more : (z : ℕ) → n# w ≤ z → upto (z + 1) ≡ upto z ++ z ∷ []
  upto-more z h =
      let up : z + 1 - n# w ≡ z - n# w + 1 = omega arith in
      let at : n# w + (z - n# w) ≡ z = omega arith in
      ap (range (n# w)) up ∙ range_append (n# w) (z - n# w) 1 ∙ ap (λ (i : ℕ). upto z ++ i ∷ []) at

  reach-more : (z : ℕ) → n# w ≤ z → reach_to (z + 1) ≡ reach_with z (reach_to z) (far z)
  reach-more z h =
      let many : n# w + length (map far (upto z)) ≡ z = omega (arith, length-map (upto z) far, range_length (n# w) (z - n# w)) in
      ap (λ (x : List ℕ). reach_taking (n# w) (reach# w 0) (map far x)) (upto-more z h)
      ∙ ap (reach_taking (n# w) (reach# w 0)) (map-append far (upto z) (z ∷ []))
      ∙ taking_snoc (n# w) (reach# w 0) (map far (upto z)) (far z)
      ∙ ap (λ (i : ℕ). reach_with i (reach_to z) (far z)) many

  module _ {work : List ℕ} {radius inner z : ℕ} (inv : Taking work radius inner z) where
    -- the words before row z's
    fore-long : 3 * n ≤ length work₀ → length (take (3 * n# w) work₀ ++ each (new_entry t w) (upto z)) ≡ 3 * z
    fore-long fits =
        length-append (take (3 * n# w) work₀) (each (new_entry t w) (upto z))
        ∙ omega (
          arith,
          length-take-le (3 * n# w) work₀ (omega (arith, inv.some, inv.most)),
          under_long far 0 (upto z),
          range_length (n# w) (z - n# w),
          inv.some,
        )

    -- there is room for an entry
    pub taking-room : z < n → 3 * n ≤ length work₀ → 3 ≤ length (mid_of (3 * z) (length work - 3 * z) work)
    taking-room h fits = omega (arith, ap length (mid_end (3 * z) work), length-drop (3 * z) work, inv.long)

    -- row z is laid
    pub taking_step : {ys : List ℕ} {x r s : ℕ} → 1 ≤ n# w → z < n → 3 * n ≤ length work₀
        → x ≡ between t (c# w) (circles# w) (first# w 0) z → r ≡ max radius x → s ≡ lower z inner x
        → ys ≡ z ∷ x ∷ 0 ∷ drop 3 (mid_of (3 * z) (length work - 3 * z) work)
        → length (put_mid (3 * z) (length work - 3 * z) work ys) ≡ length work
        → Taking (put_mid (3 * z) (length work - 3 * z) work ys) r s (z + 1)
    taking_step {ys} {x} one h fits q g b e same =
        let up : 3 * z + 3 ≡ 3 * (z + 1) = omega arith in
        let F : List ℕ = take (3 * n# w) work₀ in
        let E : List ℕ = each (new_entry t w) (upto z) in
        record {
          some = omega (arith, inv.some);
          most = omega arith;
          long = same ∙ inv.long;
          wrote =
              put_more (F ++ E) (z ∷ x ∷ 0 ∷ []) work₀ work ys (3 * z) 3 (fore-long fits) (omega (arith, inv.long)) inv.wrote e
              ∙ ap₂ (λ (y : ℕ) (k : ℕ). ((F ++ E) ++ z ∷ y ∷ 0 ∷ []) ++ drop k work₀) q up
              ∙ ap (λ (y : List ℕ). y ++ drop (3 * (z + 1)) work₀)
              (append_assoc F E (new_entry t w z)
              ∙ ap (λ (y : List ℕ). F ++ y)
              (sym (ap (each (new_entry t w)) (upto-more z inv.some) ∙ each_append (new_entry t w) (upto z) (z ∷ []))));
          wide =
              g ∙ ap₂ max inv.wide q ∙ sym (ap (λ (R : Reach). R.outer) (reach-more z inv.some));
          near =
              b ∙ ap₂ (lower z) inv.near q ∙ lower-is z (reach_to z).inner (far z) (omega (arith, inv.some))
              ∙ sym (ap (λ (R : Reach). R.inner) (reach-more z inv.some));
        }

    -- all are
    pub taking-done : n ≤ z → TakenIn t w n work₀ work radius inner
    taking-done h =
        let k : z ≡ n = omega (arith, inv.most) in
        record {
          words =
              inv.wrote
              ∙ ap (λ (i : ℕ). (take (3 * n# w) work₀ ++ each (new_entry t w) (upto i)) ++ drop (3 * i) work₀) k
              ∙ append_assoc (take (3 * n# w) work₀) (each (new_entry t w) (new_ones w n)) (drop (3 * n) work₀);
          far = inv.wide ∙ ap (λ (i : ℕ). (reach_to i).outer) k;
          near = inv.near ∙ ap (λ (i : ℕ). (reach_to i).inner) k;
        }

-- ---- as the code names the columns, the circles and the root's first
module _ {t w : List ℕ} {n : ℕ} (task : Task t w n) where
  -- a row can be measured from it
  pub new-measured : {c f z : ℕ} → c ≡ c# w → f < n# w → z < n → (c ≤ max_columns) × (c * f + c ≤ length t) × (c * z + c ≤ length t)
  new-measured {c} {f} {z} e h k =
      rw e (
        task.shape.whole.columns.1,
        omega (arith, row_ends (c# w) n f (omega (arith, task.more)), task.table),
        omega (arith, row_ends (c# w) n z k, task.table),
      )

  -- its distance
  pub new-distance : {c o f x : ℕ} (z j : ℕ) → j ≡ z → c ≡ c# w → o ≡ circles# w → f ≡ first# w 0 → x ≡ between t c o f j
      → x ≡ between t (c# w) (circles# w) (first# w 0) z
  new-distance z j i a b e q = q ∙ rw (i, a, b, e) refl
