-- A list written from the front, entry by entry or by parts that are lent: one step of an append. Assumes nothing.
use Prim.Native.Nat.{◌+◌, ◌-◌, ◌<◌, ◌≤◌, ℕ}
use borrow.Rule.Slice.PartMut.{mid_of, Post-is, post_of, put_mid}
use lib.ListN.{drop, drop_of_length-le, get_or, length, length-drop, set, take}
use lib.Seq.{drop_at, drop-cons, drop-drop, set_at, take_all, take_at}
use mathlib.Core.List.{List, [], ◌++◌, ◌∷◌, append_assoc, append-nil}
use mathlib.Core.Path.{◌∙◌, ◌≡◌, ap, refl, sym}
use native.Mathlib.Numerals.{add-one}
use native.Mathlib.Omega.{arith}

-- the part from n up to e is lent, and comes back as `new`
pub put_part : (front new p₀ p : List ℕ) (n e : ℕ) → length front ≡ n → n ≤ e → p ≡ front ++ drop n p₀
    → put_mid n (e - n) p new ≡ (front ++ new) ++ drop e p₀
put_part front new p₀ p n e lf le eq =
    let d : drop n p ≡ drop n p₀ = ap (drop n) eq ∙ drop_at front (drop n p₀) n lf in
    let t : take n p ≡ front = ap (take n) eq ∙ take_at front (drop n p₀) n lf in
    let o : post_of n (e - n) p ≡ drop e p₀ = ap (drop (e - n)) d ∙ Post-is n e p₀ le in
    cc (append_assoc front new (drop e p₀))

-- the part from n to the end is lent, and comes back with `new` in place of its first k entries
pub put_more : (front new p₀ p ys : List ℕ) (n k : ℕ) → length front ≡ n → n ≤ length p → p ≡ front ++ drop n p₀
    → ys ≡ new ++ drop k (mid_of n (length p - n) p) → put_mid n (length p - n) p ys ≡ (front ++ new) ++ drop (n + k) p₀
put_more front new p₀ p ys n k lf fits e f =
    let d : drop n p ≡ drop n p₀ = ap (drop n) e ∙ drop_at front (drop n p₀) n lf in
    let t : take n p ≡ front = ap (take n) e ∙ take_at front (drop n p₀) n lf in
    let m : mid_of n (length p - n) p ≡ drop n p₀ = take_all (length p - n) (drop n p) (omega (arith, length-drop n p)) ∙ d in
    let o : post_of n (length p - n) p ≡ [] = drop_of_length-le (drop n p) {i = length p - n} (omega (arith, length-drop n p)) in
    let y : ys ≡ new ++ drop (n + k) p₀ = f ∙ ap (λ (l : List ℕ). new ++ drop k l) m ∙ ap (λ (l : List ℕ). new ++ l) (drop-drop k n p₀) in
    cc (append-nil (new ++ drop (n + k) p₀), append_assoc front new (drop (n + k) p₀))

-- entry j, the first after the front, is stored
pub store_more : (front r₀ r : List ℕ) (j v : ℕ) → length front ≡ j → j < length r₀ → r ≡ front ++ drop j r₀
    → set r j v ≡ (front ++ (v ∷ [])) ++ drop (j + 1) r₀
store_more front r₀ r j v l h e =
    ap (λ (x : List ℕ). set x j v)
    (e ∙ ap (λ (x : List ℕ). front ++ x) (drop-cons r₀ j 0 h ∙ ap (λ (n : ℕ). get_or r₀ j 0 ∷ drop n r₀) (sym (add-one j))))
    ∙ set_at front (get_or r₀ j 0) (drop (j + 1) r₀) v j l ∙ sym (append_assoc front (v ∷ []) (drop (j + 1) r₀))

-- four stores at the front
pub four_sets : (l : List ℕ) (a b c d : ℕ) → 4 ≤ length l → set (set (set (set l 0 a) 1 b) 2 c) 3 d ≡ a ∷ b ∷ c ∷ d ∷ drop 4 l
four_sets [] a b c d h = absurd (omega arith)
four_sets (x ∷ []) a b c d h = absurd (omega arith)
four_sets (x ∷ y ∷ []) a b c d h = absurd (omega arith)
four_sets (x ∷ y ∷ z ∷ []) a b c d h = absurd (omega arith)
four_sets (x ∷ y ∷ z ∷ v ∷ l) a b c d h = refl

-- five stores at the front
pub five_sets : (l : List ℕ) (a b c d e : ℕ) → 5 ≤ length l → set (set (set (set (set l 0 a) 1 b) 2 c) 3 d) 4 e ≡ a ∷ b ∷ c ∷ d ∷ e ∷ drop 5 l
five_sets [] a b c d e h = absurd (omega arith)
five_sets (x ∷ []) a b c d e h = absurd (omega arith)
five_sets (x ∷ y ∷ []) a b c d e h = absurd (omega arith)
five_sets (x ∷ y ∷ z ∷ []) a b c d e h = absurd (omega arith)
five_sets (x ∷ y ∷ z ∷ v ∷ []) a b c d e h = absurd (omega arith)
five_sets (x ∷ y ∷ z ∷ v ∷ u ∷ l) a b c d e h = refl

-- eight stores at the front
pub eight_sets : (w : List ℕ) (a b c d e f g h : ℕ) → 8 ≤ length w
    → set (set (set (set (set (set (set (set w 0 a) 1 b) 2 c) 3 d) 4 e) 5 f) 6 g) 7 h ≡ a ∷ b ∷ c ∷ d ∷ e ∷ f ∷ g ∷ h ∷ drop 8 w
eight_sets [] a b c d e f g h l = absurd (omega arith)
eight_sets (x ∷ []) a b c d e f g h l = absurd (omega arith)
eight_sets (x ∷ y ∷ []) a b c d e f g h l = absurd (omega arith)
eight_sets (x ∷ y ∷ z ∷ []) a b c d e f g h l = absurd (omega arith)
eight_sets (x ∷ y ∷ z ∷ u ∷ []) a b c d e f g h l = absurd (omega arith)
eight_sets (x ∷ y ∷ z ∷ u ∷ v ∷ []) a b c d e f g h l = absurd (omega arith)
eight_sets (x ∷ y ∷ z ∷ u ∷ v ∷ p ∷ []) a b c d e f g h l = absurd (omega arith)
eight_sets (x ∷ y ∷ z ∷ u ∷ v ∷ p ∷ q ∷ []) a b c d e f g h l = absurd (omega arith)
eight_sets (x ∷ y ∷ z ∷ u ∷ v ∷ p ∷ q ∷ r ∷ w) a b c d e f g h l = refl
