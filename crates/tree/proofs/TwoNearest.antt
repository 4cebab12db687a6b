-- The statement on two tables, for the nearest search: the rows whose home bound is at most D, with their bounds, follow from the
-- distances of those rows alone. Nothing is asked of the tree. Assumes nothing.
use Prim.Native.Nat.{◌+◌, ◌<◌, ◌≤◌, max, ℕ}
use Rattle.laws.proofs.Empty.{keep-none}
use Rattle.laws.proofs.Every.{every-all, every_append, every-left, every_map, every_of, every-right, has_every}
use Rattle.laws.proofs.Joins.{keep_append}
use Rattle.laws.proofs.Maps.{map_same}
use Rattle.laws.specs.Every.{Every}
use Rattle.laws.specs.Lists.{gap, has, head, keep, least, look, range, rest, times}
use Rattle.tree.proofs.TwoRadius.{all_firsts}
use Rattle.tree.specs.Grove.{Grove, Reach, bare, first, firsts, fork, leaf}
use Rattle.tree.specs.Homes.{child_bound_lem, homes, homes_in, nearest_of, row_bound}
use Rattle.tree.specs.Nearest.{Own, best, candidates, last_distance, rows_up_to, sort, up_to}
use borrow.Author.Tests.{leb-false, leb-true, lt-leb}
use lib.Dec.{eqb, leb}
use lib.ListN.{length, take}
use mathlib.Core.Bool.{Bool, ◌||◌, cond, false, not, true}
use mathlib.Core.List.{List, [], ◌++◌, ◌∷◌, map}
use mathlib.Core.Path.{◌∙◌, ◌≡◌, ap, ap₂, refl, sym}
use native.Mathlib.Nat.{not-suc-le-zero}
use native.Mathlib.Omega.{arith}

-- the homes up to D of two lists, one after the other
up_append : (D : ℕ) (hs bs : List (ℕ × ℕ)) → up_to D (hs ++ bs) ≡ up_to D hs ++ up_to D bs
up_append D hs bs = keep_append (λ h. leb h.1 D) hs bs

-- there are none where every bound is above D
up_none : (D : ℕ) (hs : List (ℕ × ℕ)) → Every (λ h. D < h.1) hs → up_to D hs ≡ []
up_none D hs k = keep-none (λ h. leb h.1 D) hs (every_of (λ h. D < h.1) (λ h. leb h.1 D ≡ false) (λ h q. lt-leb h.1 D q) hs k)

-- no bound below a node is less than the node's
bounds_up : (x : ℕ → ℕ) (b : ℕ) (β : ℕ → Reach → ℕ) (g : Grove) → ((u : ℕ) (R : Reach) → b ≤ β u R) → Every (λ h. b ≤ h.1) (homes_in x β g)
unfolding homes_in
bounds_up x b β bare k = tt
bounds_up x b β (leaf R es g) k =
    let f : ℕ = head (map (λ e. e.0) es) in
    every_append (λ h. b ≤ h.1) (map (λ e. (e.0, row_bound x (β (x f) R) f e)) (rest es)) (homes_in x β g)
    (every_map (λ h. b ≤ h.1) (λ e. (e.0, row_bound x (β (x f) R) f e)) (rest es)
    (every-all (λ e. b ≤ row_bound x (β (x f) R) f e) (λ e. omega (arith, k (x f) R)) (rest es)))
    (bounds_up x b β g k)
bounds_up x b β (fork R ks g) k =
    let c : ℕ = β (x (first ks)) R in
    let y : ℕ = nearest_of x ks in
    every_append (λ h. b ≤ h.1) (map (λ f. (f, c)) (rest (firsts ks)) ++ homes_in x (child_bound_lem c y) ks) (homes_in x β g)
    (every_append (λ h. b ≤ h.1) (map (λ f. (f, c)) (rest (firsts ks))) (homes_in x (child_bound_lem c y) ks)
    (every_map (λ h. b ≤ h.1) (λ f. (f, c)) (rest (firsts ks)) (every-all (λ f. b ≤ c) (λ f. k (x (first ks)) R) (rest (firsts ks))))
    (bounds_up x b (child_bound_lem c y) ks (λ u R'. omega (arith, k (x (first ks)) R))))
    (bounds_up x b β g k)

module _ (x y : ℕ → ℕ) (D : ℕ) where
  -- the two agree in the row, if its home bound is at most D
  abbrev pub AgreeUpTo : ℕ × ℕ → Type 0
  AgreeUpTo h = h.1 ≤ D → x h.0 ≡ y h.0

  -- centres whose bound is at most D agree
  known : (b : ℕ) (cs : List ℕ) → b ≤ D → Every AgreeUpTo (map (λ f. (f, b)) cs) → Every (λ i. x i ≡ y i) cs
  known b [] h k = tt
  known b (c ∷ cs) h k = (k.0 h, known b cs h k.1)

  -- below a node with bound b: opened, its centres are known; else nothing below it is up to D
  under_same : (b : ℕ) (ks : Grove) → x (first ks) ≡ y (first ks) → Every AgreeUpTo (map (λ f. (f, b)) (rest (firsts ks)))
      → (Every (λ i. x i ≡ y i) (firsts ks) → up_to D (homes_in x (child_bound_lem b (nearest_of x ks)) ks) ≡ up_to D (homes_in y (child_bound_lem b (nearest_of x ks)) ks))
      → up_to D (homes_in x (child_bound_lem b (nearest_of x ks)) ks) ≡ up_to D (homes_in y (child_bound_lem b (nearest_of y ks)) ks)
  under_same b ks p h ih = go (leb b D) refl
    where
      none : (z : ℕ → ℕ) (l : ℕ) → D < b → up_to D (homes_in z (child_bound_lem b l) ks) ≡ []
      none z l q =
          up_none D (homes_in z (child_bound_lem b l) ks)
          (every_of (λ h. b ≤ h.1) (λ h. D < h.1) (λ h k. omega arith) (homes_in z (child_bound_lem b l) ks)
          (bounds_up z b (child_bound_lem b l) ks (λ u R. omega arith)))

      go : (s : Bool) → leb b D ≡ s → up_to D (homes_in x (child_bound_lem b (nearest_of x ks)) ks) ≡ up_to D (homes_in y (child_bound_lem b (nearest_of y ks)) ks)
      go true e =
          let q = all_firsts x y (firsts ks) p (known b (rest (firsts ks)) (leb-true b D e) h) in
          ih q ∙ ap (λ l. up_to D (homes_in y (child_bound_lem b l) ks)) (ap₂ least p (map_same x y (firsts ks) q))
      go false e = none x (nearest_of x ks) (leb-false b D e) ∙ sym (none y (nearest_of y ks) (leb-false b D e))

  -- below the nodes of a grove whose firsts agree, the homes up to D are the same
  same-homesIn : (β : ℕ → Reach → ℕ) (g : Grove) → Every (λ i. x i ≡ y i) (firsts g) → Every AgreeUpTo (homes_in x β g)
      → up_to D (homes_in x β g) ≡ up_to D (homes_in y β g)
  unfolding homes_in
  same-homesIn β bare p h = refl
  same-homesIn β (leaf R es g) p h =
      let f : ℕ = head (map (λ e. e.0) es) in
      let row : ℕ → List (ℕ × ℕ) = λ k. map (λ e. (e.0, max (β k R) (gap k e.1))) (rest es) in
      up_append D (row (x f)) (homes_in x β g)
      ∙ ap₂ {C = List (ℕ × ℕ)} (λ a b. a ++ b) (ap (λ k. up_to D (row k)) p.0)
      (same-homesIn β g p.1 (every-right AgreeUpTo (row (x f)) (homes_in x β g) h))
      ∙ sym (up_append D (row (y f)) (homes_in y β g))
  same-homesIn β (fork R ks g) p h =
      let f : ℕ = first ks in
      let b : ℕ = β (x f) R in
      let top : ℕ → List (ℕ × ℕ) = λ k. map (λ f. (f, β k R)) (rest (firsts ks)) in
      let u : List (ℕ × ℕ) = homes_in x (child_bound_lem b (nearest_of x ks)) ks in
      let u' : ℕ → List (ℕ × ℕ) = λ k. homes_in y (child_bound_lem (β k R) (nearest_of y ks)) ks in
      let v : List (ℕ × ℕ) = homes_in x β g in
      let v' : List (ℕ × ℕ) = homes_in y β g in
      let k = every-left AgreeUpTo (top (x f) ++ u) v h in
      let e : up_to D u ≡ up_to D (u' (x f)) =
      under_same b ks p.0 (every-left AgreeUpTo (top (x f)) u k)
      (λ q. same-homesIn (child_bound_lem b (nearest_of x ks)) ks q (every-right AgreeUpTo (top (x f)) u k)) in
      up_append D (top (x f) ++ u) v ∙ ap (λ l. l ++ up_to D v) (up_append D (top (x f)) u)
      ∙ ap₂ {C = List (ℕ × ℕ)} (λ a b. up_to D (top (x f)) ++ a ++ b) e (same-homesIn β g p.1 (every-right AgreeUpTo (top (x f) ++ u) v h))
      ∙ sym (ap (λ l. l ++ up_to D v') (up_append D (top (x f)) (u' (x f)))) ∙ sym (up_append D (top (x f) ++ u' (x f)) v')
      ∙ ap (λ k. up_to D (top k ++ u' k ++ v')) p.0

  -- THE ROWS TO MEASURE FOR D, AND THEIR BOUNDS, FOLLOW FROM THOSE ROWS ALONE
  pub same-homes : (t : Grove) → Every AgreeUpTo (homes x t) → up_to D (homes x t) ≡ up_to D (homes y t)
  unfolding homes
  same-homes t h =
      let c : List (ℕ × ℕ) = map (λ f. (f, 0)) (firsts t) in
      let q = known 0 (firsts t) (omega arith) (every-left AgreeUpTo c (homes_in x (λ x R. 0) t) h) in
      up_append D c (homes_in x (λ x R. 0) t)
      ∙ ap (λ l. up_to D c ++ l) (same-homesIn (λ x R. 0) t q (every-right AgreeUpTo c (homes_in x (λ x R. 0) t) h))
      ∙ sym (up_append D c (homes_in y (λ x R. 0) t))

-- ---- the first w of these rows, and their D
module _ (x y : ℕ → ℕ) (D : ℕ) where
  -- the two agree in every row up to D
  rows_agree : (hs : List (ℕ × ℕ)) → Every (AgreeUpTo x y D) hs → Every (λ i. x i ≡ y i) (map (λ h. h.0) (up_to D hs))
  rows_agree [] k = tt
  rows_agree (h ∷ hs) k = go (leb h.1 D) refl (rows_agree hs k.1)
    where
      go : (b : Bool) → leb h.1 D ≡ b → Every (λ i. x i ≡ y i) (map (λ h. h.0) (up_to D hs))
          → Every (λ i. x i ≡ y i) (map (λ h. h.0) (cond b (h ∷ up_to D hs) (up_to D hs)))
      go true e q = (k.0 (leb-true h.1 D e), q)
      go false e q = q

  -- so they keep the same of these rows
  same_kept : (R is : List ℕ) → Every (λ i. x i ≡ y i) R
      → keep (λ (a : ℕ × ℕ). has a.0 R) (map (λ i. (i, x i)) is) ≡ keep (λ a. has a.0 R) (map (λ i. (i, y i)) is)
  same_kept R [] k = refl
  same_kept R (i ∷ is) k = go (has i R) refl (same_kept R is k)
    where
      go : (b : Bool) → has i R ≡ b → keep (λ (a : ℕ × ℕ). has a.0 R) (map (λ i. (i, x i)) is) ≡ keep (λ a. has a.0 R) (map (λ i. (i, y i)) is)
          → cond {A = List (ℕ × ℕ)} b ((i, x i) ∷ keep (λ a. has a.0 R) (map (λ i. (i, x i)) is)) (keep (λ a. has a.0 R) (map (λ i. (i, x i)) is))
          ≡ cond b ((i, y i) ∷ keep (λ a. has a.0 R) (map (λ i. (i, y i)) is)) (keep (λ a. has a.0 R) (map (λ i. (i, y i)) is))
      go true e q = ap₂ {C = List (ℕ × ℕ)} (λ v l. (i, v) ∷ l) (has_every (λ i. x i ≡ y i) i R k e) q
      go false e q = q

  -- TWO TABLES, nearest: the same rows are to be measured, the same are the best, and D is the second's own if it is the first's
  pub same-best : (gone : ℕ → Bool) (n : ℕ) (t : Grove) (w : ℕ) → Every (AgreeUpTo x y D) (homes x t) → best x gone n t w D ≡ best y gone n t w D
  unfolding best
  same-best gone n t w h =
      ap (λ l. take w (sort l)) (same_kept (rows_up_to x t D) (keep (λ i. not (gone i)) (range 0 n)) (rows_agree (homes x t) h)
      ∙ ap (λ hs. keep (λ (a : ℕ × ℕ). has a.0 (map (λ h. h.0) hs)) (candidates y gone n)) (same-homes x y D t h))

  -- and D is its own for the second, if it is for the first
  pub same-own : (gone : ℕ → Bool) (n : ℕ) (t : Grove) (w : ℕ) → Every (AgreeUpTo x y D) (homes x t) → Own x gone n t w D → Own y gone n t w D
  same-own gone n t w h O =
      record {
        enough = ap length (sym (same-best gone n t w h)) ∙ O.enough;
        reached = ap (λ l. last_distance l) (sym (same-best gone n t w h))
            ∙ O.reached;
      }

-- a row whose home bound is at most D is among the rows up to D
pub in_up_to : (i D : ℕ) (hs : List (ℕ × ℕ)) → 1 ≤ times i (map (λ h. h.0) hs) → look i hs ≤ D → has i (map (λ h. h.0) (up_to D hs)) ≡ true
in_up_to i D [] k h = absurd (not-suc-le-zero k)
in_up_to i D (p ∷ hs) k h = go (λ a b. in_up_to i D hs a b) (eqb i p.0) (leb p.1 D) refl refl k h
  where
    go : (1 ≤ times i (map (λ h. h.0) hs) → look i hs ≤ D → has i (map (λ h. h.0) (up_to D hs)) ≡ true)
        → (u v : Bool) → eqb i p.0 ≡ u → leb p.1 D ≡ v → 1 ≤ cond u 1 0 + times i (map (λ h. h.0) hs) → cond u p.1 (look i hs) ≤ D
        → has i (map (λ h. h.0) (cond v (p ∷ up_to D hs) (up_to D hs))) ≡ true
    go f true true eu ev k h = ap (λ b. b || has i (map (λ h. h.0) (up_to D hs))) eu
    go f true false eu ev k h = absurd (omega (arith, leb-false p.1 D ev))
    go f false true eu ev k h = ap (λ b. b || has i (map (λ h. h.0) (up_to D hs))) eu ∙ f (omega arith) h
    go f false false eu ev k h = f (omega arith) h
