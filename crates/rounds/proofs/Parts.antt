-- A list that is written by parts: the part that is lent, what stands before it, and a stretch of words. Assumes nothing.
use Prim.Native.Nat.{◌+◌, ◌-◌, ◌<◌, ◌≤◌, suc, ℕ}
use Rattle.rounds.specs.Stretch.{stretch}
use borrow.Rule.Slice.PartMut.{mid_of, post_of, put_mid}
use lib.ListN.{get_or-append, drop, drop_of_length-le, get_or, length, length-drop, take, take-append-drop}
use lib.Seq.{drop-append-le, drop-cons, get_or-take, length-take-le, take_all, take-append-le}
use mathlib.Core.List.{List, [], ◌++◌, ◌∷◌, append-nil}
use mathlib.Core.Logic.{by_cases}
use mathlib.Core.Path.{◌∙◌, ◌≡◌, ap, ap₂, sym}
use native.Mathlib.Decide.{dec_le}
use native.Mathlib.Numerals.{add-one}
use native.Mathlib.Omega.{arith}

-- ---- the part from n to the end
-- it is lent
pub mid_end : (n : ℕ) (p : List ℕ) → mid_of n (length p - n) p ≡ drop n p
mid_end n p = take_all (length p - n) (drop n p) (omega (arith, length-drop n p))

-- it comes back as `new`
pub put_end : (n : ℕ) (p new : List ℕ) → put_mid n (length p - n) p new ≡ take n p ++ new
put_end n p new =
    let none : post_of n (length p - n) p ≡ [] = drop_of_length-le (drop n p) {i = length p - n} (omega (arith, length-drop n p)) in
    ap (λ (l : List ℕ). take n p ++ (new ++ l)) none ∙ ap (λ (l : List ℕ). take n p ++ l) (append-nil new)

-- ---- what stands before the part that is written
-- a word there is as it was
pub read_front : (w w₀ more : List ℕ) (to k : ℕ) → to ≤ length w₀ → w ≡ take to w₀ ++ more → k < to → get_or w k 0 ≡ get_or w₀ k 0
read_front w w₀ more to k h e l =
    ap (λ (x : List ℕ). get_or x k 0) e ∙ get_or-append (take to w₀) more 0 k (omega (arith, length-take-le to w₀ h)) ∙ get_or-take to w₀ k 0 l

-- a stretch there is as it was
pub stretch_front : (w w₀ more : List ℕ) (lo hi to : ℕ) → hi ≤ to → to ≤ length w₀ → w ≡ take to w₀ ++ more → stretch w lo hi ≡ stretch w₀ lo hi
stretch_front w w₀ more lo hi to h l e =
    by_cases (dec_le lo hi)
    (λ q. ap (λ (x : List ℕ). stretch x lo hi) e ∙ same more q ∙ sym (same (drop to w₀) q)
    ∙ ap (λ (x : List ℕ). stretch x lo hi) (take-append-drop to w₀))
    (λ q.
    let z : hi - lo ≡ 0 = omega arith in
    rw z)
  where
    same : (more : List ℕ) → lo ≤ hi → stretch (take to w₀ ++ more) lo hi ≡ take (hi - lo) (drop lo (take to w₀))
    same more q =
        let lt : length (take to w₀) ≡ to = length-take-le to w₀ l in
        ap (take (hi - lo)) (drop-append-le lo (take to w₀) more (omega arith))
        ∙ take-append-le (hi - lo) (drop lo (take to w₀)) more (omega (arith, length-drop lo (take to w₀)))

-- ---- a stretch, by its first three words
pub stretch_three : (w : List ℕ) (p hi : ℕ) → p + 3 ≤ hi → hi ≤ length w
    → stretch w p hi ≡ get_or w p 0 ∷ get_or w (p + 1) 0 ∷ get_or w (p + 2) 0 ∷ stretch w (p + 3) hi
stretch_three w p hi h l =
    let less : hi - p ≡ suc (suc (suc (hi - (p + 3)))) = omega arith in
    let one : p + 1 ≡ suc p = add-one p in
    let two : p + 2 ≡ suc (suc p) = omega arith in
    let three : p + 3 ≡ suc (suc (suc p)) = omega arith in
    let d : drop p w ≡ get_or w p 0 ∷ get_or w (suc p) 0 ∷ get_or w (suc (suc p)) 0 ∷ drop (suc (suc (suc p))) w =
    drop-cons w p 0 (omega arith)
    ∙ ap (λ (t : List ℕ). get_or w p 0 ∷ t)
    (drop-cons w (suc p) 0 (omega arith) ∙ ap (λ (t : List ℕ). get_or w (suc p) 0 ∷ t) (drop-cons w (suc (suc p)) 0 (omega arith))) in
    ap₂ (λ (k : ℕ) (t : List ℕ). take k t) less d ∙ rw (one, two, three)
