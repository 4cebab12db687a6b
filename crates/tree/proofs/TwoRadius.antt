-- The statement on two tables, for the radius search: where the distances agree in every row that is measured, the marks are the same.
-- Nothing is asked of the tree. Assumes nothing.
use Prim.Native.Nat.{◌+◌, ℕ}
use Rattle.laws.proofs.Every.{every-left, every_of, every-right}
use Rattle.laws.proofs.Maps.{map_same}
use Rattle.laws.specs.Every.{Every}
use Rattle.laws.specs.Lists.{gap, head, least, rest}
use Rattle.tree.specs.Grove.{Grove, Reach, bare, first, firsts, fork, leaf, rows_in}
use Rattle.tree.specs.Homes.{child_bound_lem, nearest_of}
use Rattle.tree.specs.Nearest.{is_measured}
use Rattle.tree.specs.Radius.{by_distance, in_leaf_lem, marks, marks_in, visit}
use lib.Dec.{T, leb, ltb}
use mathlib.Core.Bool.{Bool, cond, false, true}
use mathlib.Core.List.{List, [], ◌++◌, ◌∷◌, map}
use mathlib.Core.Path.{◌∙◌, ◌≡◌, ap, ap₂, refl}

module _ (x y : ℕ → ℕ) where
  -- all firsts agree, if the first one does and the rest do
  pub all_firsts : (cs : List ℕ) → x (head cs) ≡ y (head cs) → Every (λ i. x i ≡ y i) (rest cs) → Every (λ i. x i ≡ y i) cs
  all_firsts [] p h = tt
  all_firsts (c ∷ cs) p h = (p, h)

module _ (x y : ℕ → ℕ) (r : ℕ) where
  -- the two agree in the row, if its mark says that it was measured
  abbrev pub Agree : ℕ × ℕ → Type 0
  Agree m = T (is_measured m.1) → x m.0 ≡ y m.0

  -- a measured row agrees
  by-distance : (i : ℕ) → Agree (i, by_distance x r i) → x i ≡ y i
  by-distance i = go (leb (x i) r)
    where
      go : (b : Bool) → (T (is_measured (cond b 3 1)) → x i ≡ y i) → x i ≡ y i
      go true h = h tt
      go false h = h tt

  -- a row of an opened leaf whose first agrees has the same mark
  in_leaf : (f : ℕ) (e : ℕ × ℕ) → x f ≡ y f → Agree (e.0, in_leaf_lem x r f e) → in_leaf_lem x r f e ≡ in_leaf_lem y r f e
  in_leaf f e p h =
      go (ltb r (gap (x f) e.1)) (leb (x f + e.1) r) h
      ∙ ap (λ k. cond (ltb r (gap k e.1)) 0 (cond (leb (k + e.1) r) 2 (by_distance y r e.0))) p
    where
      go : (s t : Bool) → Agree (e.0, cond s 0 (cond t 2 (by_distance x r e.0)))
          → cond s 0 (cond t 2 (by_distance x r e.0)) ≡ cond s 0 (cond t 2 (by_distance y r e.0))
      go true t h = refl
      go false true h = refl
      go false false h = ap (λ k. cond (leb k r) 3 1) (by-distance e.0 h)

  -- so have all of them
  leaf-rows : (f : ℕ) → x f ≡ y f → (es : List (ℕ × ℕ)) → Every Agree (map (λ e. (e.0, in_leaf_lem x r f e)) es)
      → map {B = ℕ × ℕ} (λ e. (e.0, in_leaf_lem x r f e)) es ≡ map (λ e. (e.0, in_leaf_lem y r f e)) es
  leaf-rows f p [] h = refl
  leaf-rows f p (e ∷ es) h = ap₂ {C = List (ℕ × ℕ)} (λ k ks. (e.0, k) ∷ ks) (in_leaf f e p h.0) (leaf-rows f p es h.1)

  -- measured centres agree
  centre-rows : (cs : List ℕ) → Every Agree (map (λ i. (i, by_distance x r i)) cs)
      → Every (λ i. x i ≡ y i) cs
  centre-rows [] h = tt
  centre-rows (c ∷ cs) h = (by-distance c h.0, centre-rows cs h.1)

  -- rows that agree have the same marks, measured
  same-centres : (cs : List ℕ) → Every (λ i. x i ≡ y i) cs → map {B = ℕ × ℕ} (λ i. (i, by_distance x r i)) cs ≡ map (λ i. (i, by_distance y r i)) cs
  same-centres cs h =
      map_same (λ i. (i, by_distance x r i)) (λ i. (i, by_distance y r i)) cs
      (every_of (λ i. x i ≡ y i) (λ i. ◌≡◌ {A = ℕ × ℕ} (i, by_distance x r i) (i, by_distance y r i)) (λ i e. ap (λ k. (i, cond (leb k r) 3 1)) e) cs h)

  -- swept, closed or opened alike
  same-visit : (xf : ℕ) (R : Reach) (b : ℕ) (others : List ℕ) (o o' : List (ℕ × ℕ)) → (Every Agree o → o ≡ o') → Every Agree (visit x r xf R b others o)
      → visit x r xf R b others o ≡ visit y r xf R b others o'
  same-visit xf R b others o o' k = go (leb (xf + R.outer) r) (ltb r b)
    where
      go : (s t : Bool) → Every Agree (cond s (map (λ i. (i, 2)) others) (cond t (map (λ i. (i, 0)) others) o))
          → cond {A = List (ℕ × ℕ)} s (map (λ i. (i, 2)) others) (cond t (map (λ i. (i, 0)) others) o)
          ≡ cond s (map (λ i. (i, 2)) others) (cond t (map (λ i. (i, 0)) others) o')
      go true t h = refl
      go false true h = refl
      go false false h = k h

  -- below the nodes of a grove whose firsts agree, the marks are the same
  same-marksIn : (β : ℕ → Reach → ℕ) (g : Grove) → Every (λ i. x i ≡ y i) (firsts g) → Every Agree (marks_in x r β g)
      → marks_in x r β g ≡ marks_in y r β g
  unfolding marks_in
  same-marksIn β bare p h = refl
  same-marksIn β (leaf R es g) p h =
      let f : ℕ = head (map (λ e. e.0) es) in
      let o : List (ℕ × ℕ) = map (λ e. (e.0, in_leaf_lem x r f e)) (rest es) in
      let o' : List (ℕ × ℕ) = map (λ e. (e.0, in_leaf_lem y r f e)) (rest es) in
      let others : List ℕ = rest (map (λ e. e.0) es) in
      let v : List (ℕ × ℕ) = visit x r (x f) R (β (x f) R) others o in
      ap₂ {C = List (ℕ × ℕ)} (λ a b. a ++ b)
      (same-visit (x f) R (β (x f) R) others o o' (leaf-rows f p.0 (rest es)) (every-left Agree v (marks_in x r β g) h)
      ∙ ap (λ k. visit y r k R (β k R) others o') p.0)
      (same-marksIn β g p.1 (every-right Agree v (marks_in x r β g) h))
  same-marksIn β (fork R ks g) p h =
      let f : ℕ = first ks in
      let b : ℕ = β (x f) R in
      let c : List (ℕ × ℕ) = map (λ i. (i, by_distance x r i)) (rest (firsts ks)) in
      let u : List (ℕ × ℕ) = marks_in x r (child_bound_lem b (nearest_of x ks)) ks in
      let u' : ℕ → ℕ → List (ℕ × ℕ) = λ k l. marks_in y r (child_bound_lem (β k R) l) ks in
      let c' : List (ℕ × ℕ) = map (λ i. (i, by_distance y r i)) (rest (firsts ks)) in
      let others : List ℕ = rest (rows_in ks) in
      let v : List (ℕ × ℕ) = visit x r (x f) R b others (c ++ u) in
      let opens : Every Agree (c ++ u) → c ++ u ≡ c' ++ u' (x f) (nearest_of y ks) =
      λ k. let q = centre-rows (rest (firsts ks)) (every-left Agree c u k) in
      let qs = all_firsts x y (firsts ks) p.0 q in
      ap₂ {C = List (ℕ × ℕ)} (λ a b. a ++ b) (same-centres (rest (firsts ks)) q)
      (same-marksIn (child_bound_lem b (nearest_of x ks)) ks qs (every-right Agree c u k)
      ∙ ap (λ l. u' (x f) l) (ap₂ least p.0 (map_same x y (firsts ks) qs))) in
      ap₂ {C = List (ℕ × ℕ)} (λ a b. a ++ b)
      (same-visit (x f) R b others (c ++ u) (c' ++ u' (x f) (nearest_of y ks)) opens (every-left Agree v (marks_in x r β g) h)
      ∙ ap (λ k. visit y r k R (β k R) others (c' ++ u' k (nearest_of y ks))) p.0)
      (same-marksIn β g p.1 (every-right Agree v (marks_in x r β g) h))

  -- THE MARKS FOLLOW FROM THE MEASURED ROWS ALONE
  pub same-marks : (t : Grove) → Every Agree (marks x r t) → marks x r t ≡ marks y r t
  unfolding marks
  same-marks t h =
      let c : List (ℕ × ℕ) = map (λ i. (i, by_distance x r i)) (firsts t) in
      let q = centre-rows (firsts t) (every-left Agree c (marks_in x r (λ x R. 0) t) h) in
      ap₂ {C = List (ℕ × ℕ)} (λ a b. a ++ b) (same-centres (firsts t) q)
      (same-marksIn (λ x R. 0) t q (every-right Agree c (marks_in x r (λ x R. 0) t) h))
