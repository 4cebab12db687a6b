-- The first items of a list, by a function. Assumes nothing.
use Prim.Native.Nat.{◌+◌, ◌<◌, ◌≤◌, suc, zero, ℕ}
use Rattle.column_products.specs.Chosen.{items_of}
use Rattle.laws.proofs.Parts.{store_more}
use lib.ListN.{drop, get_or, length, length-append, length-drop, set}
use lib.Seq.{drop_at, drop-cons, get_or_at}
use mathlib.Core.List.{List, [], ◌++◌, ◌∷◌, append_assoc}
use mathlib.Core.Logic.{by_cases}
use mathlib.Core.Path.{◌∙◌, ◌≡◌, ap, ap₂, refl, sym}
use native.Mathlib.Decide.{dec_lt}
use native.Mathlib.Numerals.{add-one}
use native.Mathlib.Omega.{arith}

-- none
pub items-none : (f : ℕ → ℕ) → items_of f 0 ≡ []
unfolding items_of
items-none f = refl

-- one more
pub items-next : (f : ℕ → ℕ) (n : ℕ) → items_of f (n + 1) ≡ items_of f n ++ (f n ∷ [])
unfolding items_of
items-next f n = rw add-one

-- there are n
pub items-length : (f : ℕ → ℕ) (n : ℕ) → length (items_of f n) ≡ n
unfolding items_of
items-length f zero = refl
items-length f (suc n) = length-append (items_of f n) (f n ∷ []) ∙ (omega (arith, items-length f n))

-- equal items
pub items-same : (f g : ℕ → ℕ) (n : ℕ) → ((i : ℕ) → i < n → f i ≡ g i) → items_of f n ≡ items_of g n
unfolding items_of
items-same f g zero h = refl
items-same f g (suc n) h =
    ap₂ (λ (l : List ℕ) (x : ℕ). l ++ (x ∷ [])) (items-same f g n (λ i l. h i (omega arith))) (h n (omega arith))

-- item i, whatever is behind them
pub items_at : (f : ℕ → ℕ) (n i : ℕ) (z : List ℕ) → i < n → get_or (items_of f n ++ z) i 0 ≡ f i
unfolding items_of
items_at f zero i z h = absurd (omega arith)
items_at f (suc n) i z h =
    by_cases (dec_lt i n) (λ l. ap (λ (x : List ℕ). get_or x i 0) (append_assoc (items_of f n) (f n ∷ []) z) ∙ items_at f n i ((f n ∷ []) ++ z) l)
    (λ l.
    let e : n ≡ i = omega arith in
    ap (λ (x : List ℕ). get_or x i 0) (append_assoc (items_of f n) (f n ∷ []) z)
    ∙ get_or_at (items_of f n) (f n) z 0 i (items-length f n ∙ e)
    ∙ ap f e)

-- what is behind them
pub items-behind : (f : ℕ → ℕ) (n : ℕ) (z : List ℕ) → drop n (items_of f n ++ z) ≡ z
items-behind f n z = drop_at (items_of f n) z n (items-length f n)

-- item i of a list whose first i are others is its own
pub items_kept : (f : ℕ → ℕ) (i : ℕ) (xs xs₀ : List ℕ) → i < length xs₀ → xs ≡ items_of f i ++ drop i xs₀ → get_or xs i 0 ≡ get_or xs₀ i 0
items_kept f i xs xs₀ h e =
    ap (λ (x : List ℕ). get_or x i 0) (e ∙ ap (λ (x : List ℕ). items_of f i ++ x) (drop-cons xs₀ i 0 h))
    ∙ get_or_at (items_of f i) (get_or xs₀ i 0) _ 0 i (items-length f i)

-- item i is stored behind the first i
pub items_stored : (f : ℕ → ℕ) (i v : ℕ) (xs xs₀ : List ℕ) → i < length xs₀ → xs ≡ items_of f i ++ drop i xs₀ → v ≡ f i
    → set xs i v ≡ items_of f (i + 1) ++ drop (i + 1) xs₀
items_stored f i v xs xs₀ h e q =
    store_more (items_of f i) xs₀ xs i v (items-length f i) h e
    ∙ ap (λ (x : List ℕ). x ++ drop (i + 1) xs₀) (ap (λ (y : ℕ). items_of f i ++ (y ∷ [])) q ∙ sym (items-next f i))

-- the list is as long as it was
pub items_long : (f : ℕ → ℕ) (i : ℕ) (xs xs₀ : List ℕ) → i ≤ length xs₀ → xs ≡ items_of f i ++ drop i xs₀ → length xs ≡ length xs₀
items_long f i xs xs₀ h e =
    ap length e ∙ length-append (items_of f i) (drop i xs₀) ∙ omega (arith, items-length f i, length-drop i xs₀)
