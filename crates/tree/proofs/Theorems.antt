-- The theorems on an index that the full check accepts, over any distance and any query. Assumes nothing.
use Prim.Native.Nat.{◌<◌, ◌≤◌, ℕ}
use Rattle.laws.proofs.Every.{every-keep, every_map}
use Rattle.laws.proofs.Ranges.{at_every}
use Rattle.laws.proofs.Times.{lefts, look_every, look-fact, times_every}
use Rattle.laws.specs.Every.{Every}
use Rattle.laws.specs.Lists.{has, keep, look, range, times}
use Rattle.measure.specs.Distance.{l1}
use Rattle.measure.specs.Space.{Point}
use Rattle.measure.specs.Table.{from, row}
use Rattle.tree.proofs.Accepted.{each-once, once-of, shape_of, sound-tree}
use Rattle.tree.proofs.Answers.{answers_length, answers_same, near-at, passes-all, passes-near}
use Rattle.tree.proofs.Exact.{Exact, marks-exact, shown-exact}
use Rattle.tree.proofs.Homes.{homes-rows}
use Rattle.tree.proofs.Marks.{how_at, marks-rows}
use Rattle.tree.proofs.Rows.{full-tree, rows-low, rows-once}
use Rattle.tree.proofs.Sorted.{best_of}
use Rattle.tree.proofs.Sound.{homes-below}
use Rattle.tree.proofs.TwoNearest.{AgreeUpTo, in_up_to, same-best, same-homes, same-own}
use Rattle.tree.proofs.TwoRadius.{Agree, same-marks}
use Rattle.tree.proofs.Veiled.{shown-measured}
use Rattle.tree.specs.Check.{Accepted}
use Rattle.tree.specs.Grove.{Grove, rows_in, tree_of}
use Rattle.tree.specs.Homes.{homes}
use Rattle.tree.specs.Nearest.{Own, answers, best, candidates, is_measured, last_distance, near_how, passes, remaining, rows_up_to, sort}
use Rattle.tree.specs.Radius.{marks, radius_how, veiled}
use Rattle.words.specs.Words.{n#}
use lib.Dec.{T}
use lib.ListN.{get_or, length, take}
use mathlib.Core.Bool.{Bool, cond, false, not, true}
use mathlib.Core.List.{List, map}
use mathlib.Core.Logic.{◌↔◌}
use mathlib.Core.Path.{◌∙◌, ◌≡◌, ap, subst, sym}
use native.Mathlib.Omega.{arith}

module _ (d : ℕ → ℕ → ℕ) (w : List ℕ) (A : Accepted d w) where
  -- EACH ROW HAS EXACTLY ONE HOME
  pub one-home : (x : ℕ → ℕ) (i : ℕ) → i < n# w → times i (lefts (homes x (tree_of w))) ≡ 1
  one-home x i h = homes-rows x i (tree_of w) (full-tree w (shape_of d w A)) ∙ each-once d w A i h

  -- no row is marked twice, and only rows of the table are
  marks-once : (x : ℕ → ℕ) (r i : ℕ) → times i (lefts (marks x r (tree_of w))) ≤ 1
  marks-once x r i = omega (arith, marks-rows x r i (tree_of w) (full-tree w (shape_of d w A)), rows-once w (shape_of d w A) (once-of d w A) i)

  -- no row has two homes
  homes-once : (x : ℕ → ℕ) (i : ℕ) → times i (lefts (homes x (tree_of w))) ≤ 1
  homes-once x i = omega (arith, homes-rows x i (tree_of w) (full-tree w (shape_of d w A)), rows-once w (shape_of d w A) (once-of d w A) i)

  -- a row of the tree is one of the table
  row_low : (i : ℕ) → 1 ≤ times i (rows_in (tree_of w)) → i < n# w
  row_low i k = times_every (λ i. i < n# w) (rows_in (tree_of w)) (rows-low w (shape_of d w A)) i k

  -- ---- with a query at the distances x
  module _ (x : ℕ → ℕ) (P : Point d x) where
    -- NO ROW IS CLOSER THAN ITS HOME BOUND
    pub home_below : (i : ℕ) → i < n# w → look i (homes x (tree_of w)) ≤ x i
    home_below i h =
        look-fact (λ h. h.1 ≤ x h.0) i (homes x (tree_of w)) (homes-below d x P (tree_of w) (full-tree w (shape_of d w A)) (sound-tree d w A))
        (omega (arith, one-home x i h))

    -- A RADIUS SEARCH MARKS A ROW IN EXACTLY IF IT IS NOT GONE AND ITS DISTANCE IS AT MOST r
    pub radius-exact : (r : ℕ) (gone : ℕ → Bool) (i : ℕ) → i < n# w
        → (2 ≤ get_or (radius_how x r gone (n# w) (tree_of w)) i 0) ↔ ((gone i ≡ false) × (x i ≤ r))
    radius-exact r gone i h =
        let F = full-tree w (shape_of d w A) in
        rw (how_at x r gone (n# w) (tree_of w) i h)
        (shown-exact x r gone (i, look i (marks x r (tree_of w)))
        (look-fact (Exact x r) i (marks x r (tree_of w)) (marks-exact d x r P (tree_of w) F (sound-tree d w A))
        (omega (arith, marks-rows x r i (tree_of w) F, each-once d w A i h))))

    -- THE FIRST k OF THE REMAINING ROWS WITH HOME BOUND AT MOST D ARE THE FIRST k OF ALL THAT REMAIN, D the distance of the last of these
    pub nearest-own : (gone : ℕ → Bool) (k : ℕ)
        → best x gone (n# w) (tree_of w) k (last_distance (answers x gone (n# w) k)) ≡ answers x gone (n# w) k
    unfolding best answers
    nearest-own gone k =
        let l : List (ℕ × ℕ) = candidates x gone (n# w) in
        let D : ℕ = last_distance (take k (sort l)) in
        let p : ℕ × ℕ → Bool = λ a. has a.0 (rows_up_to x (tree_of w) D) in
        best_of p k l
        (every_map (λ a. a.1 ≤ D → p a ≡ true) (λ i. (i, x i)) (keep (λ i. not (gone i)) (range 0 (n# w)))
        (every-keep (λ i. x i ≤ D → p (i, x i) ≡ true) (λ i. not (gone i)) (range 0 (n# w))
        (at_every (λ i. x i ≤ D → p (i, x i) ≡ true) (n# w)
        (λ i v u. in_up_to i D (homes x (tree_of w)) (omega (arith, one-home x i v)) (omega (arith, home_below i v))))))

  -- ---- the statement on two tables: y are the distances in another table, which need not fit the index
  module _ (x y : ℕ → ℕ) where
    -- RADIUS: WHERE THE TABLES AGREE IN EVERY MEASURED ROW, ALL HOW-BYTES ARE THE SAME, the same rows being gone
    pub radius-two-tables : (r : ℕ) (gone : ℕ → Bool)
        → ((i : ℕ) → i < n# w → T (is_measured (get_or (radius_how x r gone (n# w) (tree_of w)) i 0)) → x i ≡ y i)
        → radius_how x r gone (n# w) (tree_of w) ≡ radius_how y r gone (n# w) (tree_of w)
    unfolding radius_how
    radius-two-tables r gone agree =
        ap (λ ms. map (λ i. look i (veiled gone ms)) (range 0 (n# w)))
        (same-marks x y r (tree_of w)
        (look_every (Agree x y r) (marks x r (tree_of w)) (marks-once x r)
        (λ i k m.
        let h = row_low i (omega (arith, marks-rows x r i (tree_of w) (full-tree w (shape_of d w A)))) in
        agree i h
        (subst (λ v. T (is_measured v)) (sym (how_at x r gone (n# w) (tree_of w) i h)) (shown-measured gone i (look i (marks x r (tree_of w))) m)))))

    -- a row that passes is measured
    near-measured : (gone : ℕ → Bool) (k i : ℕ) → i < n# w → passes x gone (n# w) k (look i (homes x (tree_of w))) ≡ true
        → T (is_measured (get_or (near_how x gone (n# w) (tree_of w) k) i 0))
    near-measured gone k i h e = subst (λ v. T (is_measured v)) (sym (near-at x gone (n# w) (tree_of w) k i h))
        (go (has i (lefts (answers x gone (n# w) k))))
      where
        go : (a : Bool) → T (is_measured (cond a 3 (cond (passes x gone (n# w) k (look i (homes x (tree_of w)))) 1 0)))
        go true = tt
        go false = rw e tt

    -- NEAREST: WHERE THE TABLES AGREE IN EVERY MEASURED ROW, THE OTHER ONE'S FIRST k OF THE SAME ROWS ARE THE ANSWERS, AND D IS ITS OWN
    pub nearest-two-tables : Point d x → (gone : ℕ → Bool) (k : ℕ) → k ≤ remaining gone (n# w)
        → ((i : ℕ) → i < n# w → T (is_measured (get_or (near_how x gone (n# w) (tree_of w) k) i 0)) → x i ≡ y i)
        → (rows_up_to y (tree_of w) (last_distance (answers x gone (n# w) k)) ≡ rows_up_to x (tree_of w) (last_distance (answers x gone (n# w) k)))
        × (best y gone (n# w) (tree_of w) k (last_distance (answers x gone (n# w) k)) ≡ answers x gone (n# w) k)
        × Own y gone (n# w) (tree_of w) k (last_distance (answers x gone (n# w) k))
    nearest-two-tables P gone k h agree =
        let t : Grove = tree_of w in
        let D : ℕ = last_distance (answers x gone (n# w) k) in
        let own : best x gone (n# w) t k D ≡ answers x gone (n# w) k = nearest-own x P gone k in
        let same : Every (AgreeUpTo x y D) (homes x t) =
        look_every (AgreeUpTo x y D) (homes x t) (homes-once x)
        (λ i c b.
        let low = row_low i (omega (arith, homes-rows x i t (full-tree w (shape_of d w A)))) in
        agree i low (near-measured gone k i low (passes-near x gone (n# w) k (look i (homes x t)) b))) in (
          ap lefts (sym (same-homes x y D t same)),
          sym (same-best x y D gone (n# w) t k same) ∙ own,
          same-own x y D gone (n# w) t k same (record {
            enough = ap length own ∙ answers_length x gone (n# w) k
                ∙ omega arith;
            reached = ap last_distance own;
          }),
        )

    -- with more wanted than rows remain every row is measured, and so the tables are one
    pub nearest-two-tables-all : (gone : ℕ → Bool) (k : ℕ) → remaining gone (n# w) < k
        → ((i : ℕ) → i < n# w → T (is_measured (get_or (near_how x gone (n# w) (tree_of w) k) i 0)) → x i ≡ y i)
        → answers x gone (n# w) k ≡ answers y gone (n# w) k
    nearest-two-tables-all gone k h agree =
        answers_same x y gone (n# w) k (at_every (λ i. x i ≡ y i) (n# w)
        (λ i low. agree i low (near-measured gone k i low (passes-all x gone (n# w) k (look i (homes x (tree_of w))) h))))

-- ---- in words of tables
-- rows that are equal are equally far from a query
pub same_row : (T T' : List ℕ) (c o : ℕ) (q : List ℕ) (i : ℕ) → row T c i ≡ row T' c i → from T c o q i ≡ from T' c o q i
unfolding from
same_row T T' c o q i e = ap (l1 c o q) e
