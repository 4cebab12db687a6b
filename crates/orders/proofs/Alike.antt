-- Lists of orders that decide the same of every row: 02, R-12. Assumes nothing.
use Prim.Native.Nat.{ℕ}
use Rattle.laws.proofs.Every.{every_of}
use Rattle.laws.specs.Every.{Every}
use Rattle.laws.specs.Lists.{has, keep}
use Rattle.orders.specs.Orders.{Agree, Agreed, Alike, Mixed, Order, first, names, over, row_of, second, standing, striking, wants}
use borrow.Author.Tests.{eqb-true}
use lib.Dec.{eqb}
use mathlib.Core.Bool.{Bool, ◌||◌, cond, false, or-true, true}
use mathlib.Core.List.{List, [], ◌++◌, ◌∷◌, map}
use mathlib.Core.Path.{◌∙◌, ◌≡◌, ap, refl, sym}

-- AN ORDER GIVEN TWICE IS THE ORDER GIVEN ONCE
pub alike_twice : (o : Order) → Alike (o ∷ o ∷ []) (o ∷ [])
alike_twice o i b = go (names i o)
  where
    go : (t : Bool) → cond t (wants o) (cond t (wants o) b) ≡ cond t (wants o) b
    go true = refl
    go false = refl

-- TWO ORDERS MAY CHANGE PLACES, unless they want different things of one row
pub alike_swap : (o p : Order) → Agree o p → Alike (o ∷ p ∷ []) (p ∷ o ∷ [])
alike_swap o p agree i b = go (names i o) (names i p) refl refl
  where
    go : (t u : Bool) → names i o ≡ t → names i p ≡ u → cond u (wants p) (cond t (wants o) b) ≡ cond t (wants o) (cond u (wants p) b)
    go true true e f = sym (agree (sym (eqb-true i (row_of o) e) ∙ eqb-true i (row_of p) f))
    go true false e f = refl
    go false true e f = refl
    go false false e f = refl

-- after strikes a row is withdrawn where one of them names it, or where it was so before
standing_strikes : (i : ℕ) (rs : List ℕ) (b : Bool) → standing i (map striking rs) b ≡ (has i rs || b)
standing_strikes i [] b = refl
standing_strikes i (r ∷ rs) b = standing_strikes i rs (cond (eqb i r) true b) ∙ go (eqb i r)
  where
    go : (t : Bool) → (has i rs || cond t true b) ≡ ((t || has i rs) || b)
    go true = or-true (has i rs)
    go false = refl

-- STRIKES OF THE SAME ROWS, in any order and each as often as one likes
pub alike_strikes : (rs qs : List ℕ) → ((i : ℕ) → has i rs ≡ has i qs) → Alike (map striking rs) (map striking qs)
alike_strikes rs qs h i b = standing_strikes i rs b ∙ ap (λ (t : Bool). t || b) (h i) ∙ sym (standing_strikes i qs b)

-- of a row the orders that name it decide
standing-own : (i : ℕ) (os : List Order) (b : Bool) → standing i (keep (names i) os) b ≡ standing i os b
standing-own i [] b = refl
standing-own i (o ∷ os) b = go (standing-own i os) (names i o) refl
  where
    go : ((c : Bool) → standing i (keep (names i) os) c ≡ standing i os c) → (t : Bool) → names i o ≡ t
        → standing i (cond t (o ∷ keep (names i) os) (keep (names i) os)) b ≡ standing i os (cond (names i o) (wants o) b)
    go rest true e = rest (cond (names i o) (wants o) b)
    go rest false e = rest b ∙ ap (λ (t : Bool). standing i os (cond t (wants o) b)) (sym e)

-- MIXED ORDERS IN WHICH EACH ROW'S OWN ONES KEEP THEIR SEQUENCE
pub alike_mixed : (os ps : List Order) → ((i : ℕ) → keep (names i) os ≡ keep (names i) ps) → Alike os ps
alike_mixed os ps h i b = sym (standing-own i os b) ∙ ap (λ (l : List Order). standing i l b) (h i) ∙ standing-own i ps b

-- ---- two offices
-- an order that agrees with those before it may come before them
moved : (i : ℕ) (xs ys : List Order) (p : Order) (b : Bool) → Every (λ o. Agree o p) xs → standing i (xs ++ p ∷ ys) b ≡ standing i (p ∷ (xs ++ ys)) b
moved i [] ys p b h = refl
moved i (o ∷ xs) ys p b h =
    moved i xs ys p (cond (names i o) (wants o) b) h.1 ∙ ap (standing i (xs ++ ys)) (alike_swap o p h.0 i b)

-- mixed orders decide as those of the first office and then those of the second
unmixed : {xs ys os : List Order} (i : ℕ) (b : Bool) → Agreed xs ys → Mixed xs ys os → standing i os b ≡ standing i (xs ++ ys) b
unmixed i b h over = refl
unmixed {xs = o ∷ xs} {ys = ys} i b h (first m) = unmixed i (cond (names i o) (wants o) b) (fewer ys h) m
  where
    fewer : (ps : List Order) → Agreed (o ∷ xs) ps → Agreed xs ps
    fewer ps k = every_of (λ p. Every (λ q. Agree q p) (o ∷ xs)) (λ p. Every (λ q. Agree q p) xs) (λ p e. e.1) ps k
unmixed {xs = xs} {ys = p ∷ ys} i b h (second m) = unmixed i (cond (names i p) (wants p) b) h.1 m ∙ sym (moved i xs ys p b h.0)

-- ORDERS OF TWO OFFICES THAT AGREE, however they are mixed
pub alike_offices : {xs ys os ps : List Order} → Agreed xs ys → Mixed xs ys os → Mixed xs ys ps → Alike os ps
alike_offices h m k i b = unmixed i b h m ∙ sym (unmixed i b h k)
