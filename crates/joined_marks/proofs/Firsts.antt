-- The first items of a list, by a function. Assumes nothing.
use Prim.Native.Nat.{◌+◌, ◌<◌, ◌≤◌, suc, zero, ℕ}
use Rattle.joined_marks.specs.Firsts.{first_of}
use Rattle.laws.proofs.Parts.{store_more}
use lib.ListN.{drop, get_or, length, length-append, length-drop, replicate, replicate-append-replicate, set}
use lib.Seq.{drop_at, drop-cons, get_or_at}
use mathlib.Core.List.{List, [], ◌++◌, ◌∷◌, append_assoc}
use mathlib.Core.Logic.{by_cases}
use mathlib.Core.Path.{◌∙◌, ◌≡◌, ap, ap₂, refl, sym}
use native.Mathlib.Decide.{dec_lt}
use native.Mathlib.Numerals.{add-one}
use native.Mathlib.Omega.{arith}

-- none
pub first-none : (f : ℕ → ℕ) → first_of f 0 ≡ []
unfolding first_of
first-none f = refl

-- one more
pub first_next : (f : ℕ → ℕ) (n : ℕ) → first_of f (n + 1) ≡ first_of f n ++ (f n ∷ [])
unfolding first_of
first_next f n = rw add-one

-- there are n
pub first-length : (f : ℕ → ℕ) (n : ℕ) → length (first_of f n) ≡ n
unfolding first_of
first-length f zero = refl
first-length f (suc n) = length-append (first_of f n) (f n ∷ []) ∙ (omega (arith, first-length f n))

-- equal items
pub first-same : (f g : ℕ → ℕ) (n : ℕ) → ((i : ℕ) → i < n → f i ≡ g i) → first_of f n ≡ first_of g n
unfolding first_of
first-same f g zero h = refl
first-same f g (suc n) h =
    ap₂ (λ (l : List ℕ) (x : ℕ). l ++ (x ∷ [])) (first-same f g n (λ i l. h i (omega arith))) (h n (omega arith))

-- n zeros
pub first_zeros : (f : ℕ → ℕ) (n : ℕ) → ((i : ℕ) → f i ≡ 0) → first_of f n ≡ replicate n 0
unfolding first_of
first_zeros f zero h = refl
first_zeros f (suc n) h =
    ap₂ (λ (l : List ℕ) (x : ℕ). l ++ (x ∷ [])) (first_zeros f n h) (h n)
    ∙ replicate-append-replicate n 1 0
    ∙ ap (λ (k : ℕ). replicate k 0) (add-one n)

-- item i, whatever is behind them
pub first-at : (f : ℕ → ℕ) (n i : ℕ) (z : List ℕ) → i < n → get_or (first_of f n ++ z) i 0 ≡ f i
unfolding first_of
first-at f zero i z h = absurd (omega arith)
first-at f (suc n) i z h =
    by_cases (dec_lt i n) (λ l. ap (λ (x : List ℕ). get_or x i 0) (append_assoc (first_of f n) (f n ∷ []) z) ∙ first-at f n i ((f n ∷ []) ++ z) l)
    (λ l.
    let e : n ≡ i = omega arith in
    ap (λ (x : List ℕ). get_or x i 0) (append_assoc (first_of f n) (f n ∷ []) z)
    ∙ get_or_at (first_of f n) (f n) z 0 i (first-length f n ∙ e)
    ∙ ap f e)

-- what is behind them
pub first-behind : (f : ℕ → ℕ) (n : ℕ) (z : List ℕ) → drop n (first_of f n ++ z) ≡ z
first-behind f n z = drop_at (first_of f n) z n (first-length f n)

-- item i of a list whose first i are others is its own
pub first-kept : (f : ℕ → ℕ) (i : ℕ) (xs xs₀ : List ℕ) → i < length xs₀ → xs ≡ first_of f i ++ drop i xs₀ → get_or xs i 0 ≡ get_or xs₀ i 0
first-kept f i xs xs₀ h e =
    ap (λ (x : List ℕ). get_or x i 0) (e ∙ ap (λ (x : List ℕ). first_of f i ++ x) (drop-cons xs₀ i 0 h))
    ∙ get_or_at (first_of f i) (get_or xs₀ i 0) _ 0 i (first-length f i)

-- item i is stored behind the first i
pub first_stored : (f : ℕ → ℕ) (i v : ℕ) (xs xs₀ : List ℕ) → i < length xs₀ → xs ≡ first_of f i ++ drop i xs₀ → v ≡ f i
    → set xs i v ≡ first_of f (i + 1) ++ drop (i + 1) xs₀
first_stored f i v xs xs₀ h e q =
    store_more (first_of f i) xs₀ xs i v (first-length f i) h e
    ∙ ap (λ (x : List ℕ). x ++ drop (i + 1) xs₀) (ap (λ (y : ℕ). first_of f i ++ (y ∷ [])) q ∙ sym (first_next f i))

-- the list is as long as it was
pub first_long : (f : ℕ → ℕ) (i : ℕ) (xs xs₀ : List ℕ) → i ≤ length xs₀ → xs ≡ first_of f i ++ drop i xs₀ → length xs ≡ length xs₀
first_long f i xs xs₀ h e =
    ap length e ∙ length-append (first_of f i) (drop i xs₀) ∙ omega (arith, first-length f i, length-drop i xs₀)
