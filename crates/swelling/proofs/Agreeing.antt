-- Two distances that agree on the rows below n put a row below n into a tree of such rows alike. Assumes nothing.
use Prim.Native.Nat.{◌-◌, ◌<◌, ◌≤◌, suc, zero, ℕ}
use Rattle.appending.proofs.Agree.{Agree}
use Rattle.appending.proofs.Lowest.{orderly-length, orderly_tally}
use Rattle.appending.specs.Append.{join, keep_own, lodge, lowest_at, orderly, reach_with, twice}
use Rattle.laws.proofs.Every.{every_append, every_head, every-keep, every_map, every_of, every_rest}
use Rattle.laws.proofs.Maps.{map_agree, map_same}
use Rattle.laws.proofs.Times.{every_same, lefts}
use Rattle.laws.specs.Every.{Every}
use Rattle.laws.specs.Lists.{greatest, head, keep, least, lowest, rest, without}
use Rattle.tree.proofs.Full.{Full, firsts_rows, rows_left, rows_right}
use Rattle.tree.specs.Build.{choose, closer, closest, farther, farthest, grow, leaf_of, nearness, reach, split}
use Rattle.tree.specs.Grove.{Grove, Reach, bare, entries, first, firsts, fork, leaf, reaching, rows_in}
use lib.Dec.{eqb, leb, ltb}
use lib.ListN.{length, length-append}
use mathlib.Core.Bool.{Bool, ◌&&◌, ◌||◌, cond, false, true}
use mathlib.Core.List.{List, [], ◌++◌, ◌∷◌, foldr, map}
use mathlib.Core.Path.{◌∙◌, ◌≡◌, ap, ap₂, refl}
use native.Mathlib.Omega.{arith}

-- tests that agree on each keep the same
keep_agree : (f g : ℕ → Bool) (is : List ℕ) → Every (λ i. f i ≡ g i) is → keep f is ≡ keep g is
keep_agree f g [] h = refl
keep_agree f g (i ∷ is) h = ap₂ (λ (s : Bool) (ks : List ℕ). cond s (i ∷ ks) ks) h.0 (keep_agree f g is h.1)

-- what holds of all holds without one
pub every_without : (P : ℕ → Type 0) (j : ℕ) (is : List ℕ) → Every P is → Every P (without j is)
every_without P j [] h = tt
every_without P j (i ∷ is) h = go (eqb j i) (every_without P j is h.1)
  where
    go : (s : Bool) → Every P (without j is) → Every P (cond s is (i ∷ without j is))
    go true k = h.1
    go false k = (h.0, k)

-- two numbers as a pair
abbrev beside : ℕ → ℕ → ℕ × ℕ
beside i v = (i, v)

-- a row of a run with its distance from the first
abbrev paired : (ℕ → ℕ → ℕ) → List ℕ → ℕ → ℕ × ℕ
paired d run i = (i, d (head run) i)

module _ (n : ℕ) (some : 1 ≤ n) where
  -- all rows are below n
  abbrev Low : List ℕ → Type 0
  Low is = Every (λ i. i < n) is

  -- one of two
  either : (s : Bool) (i j : ℕ) → i < n → j < n → cond s i j < n
  either true i j h k = h
  either false i j h k = k

  -- ---- what is chosen of rows below n is below n
  module _ (d : ℕ → ℕ → ℕ) where
    -- the farthest
    farthest-low : (cs is : List ℕ) → Low is → farthest d cs is < n
    farthest-low cs [] h = some
    farthest-low cs (i ∷ []) h = h.0
    farthest-low cs (i ∷ j ∷ is) h =
        let k : ℕ = farthest d cs (j ∷ is) in
        either (ltb (nearness d cs k) (nearness d cs i) || (eqb (nearness d cs k) (nearness d cs i) && ltb i k)) i k h.0 (farthest-low cs (j ∷ is) h.1)

    -- the centres and the rows left
    choose-low : (k : ℕ) (cs is : List ℕ) → Low cs → Low is → Low (choose d k cs is).0 × Low (choose d k cs is).1
    unfolding choose
    choose-low zero cs is a b = (a, b)
    choose-low (suc k) cs is a b =
        let j : ℕ = farthest d cs is in
        choose-low k (cs ++ j ∷ []) (without j is) (every_append (λ i. i < n) cs (j ∷ []) a (farthest-low cs is b, tt)) (every_without (λ i. i < n) j is b)

    -- the closest
    closest-low : (cs : List ℕ) (i : ℕ) → Low cs → closest d cs i < n
    closest-low [] i h = some
    closest-low (a ∷ []) i h = h.0
    closest-low (a ∷ b ∷ cs) i h =
        let k : ℕ = closest d (b ∷ cs) i in either (leb (d a i) (d k i)) a k h.0 (closest-low (b ∷ cs) i h.1)

    -- the parts of a run
    split-low : (m : ℕ) (run : List ℕ) → 1 ≤ length run → Low run → Every (λ q. (1 ≤ length q) × Low q) (split d m run)
    unfolding split
    split-low m run h low =
        let p : List ℕ × List ℕ = choose d (m - 1) (head run ∷ []) (rest run) in
        let c = choose-low (m - 1) (head run ∷ []) (rest run) (every_head (λ i. i < n) run h low, tt) (every_rest (λ i. i < n) run low) in
        every_map (λ q. (1 ≤ length q) × Low q) (λ a. a ∷ keep (λ i. eqb (closest d p.0 i) a) p.1) p.0
        (every_of (λ a. a < n) (λ a. (1 ≤ length (a ∷ keep (λ i. eqb (closest d p.0 i) a) p.1)) × Low (a ∷ keep (λ i. eqb (closest d p.0 i) a) p.1))
        (λ a u. (omega arith, (u, every-keep (λ i. i < n) (λ i. eqb (closest d p.0 i) a) p.1 c.1))) p.0 c.0)

  module _ (d d' : ℕ → ℕ → ℕ) (A : Agree n d d') where
    -- ---- the centres
    -- how far some are from a row
    to-agree : (i : ℕ) (cs : List ℕ) → i < n → Low cs → map (λ k. d k i) cs ≡ map (λ k. d' k i) cs
    to-agree i cs h low = map_same (λ k. d k i) (λ k. d' k i) cs (every_of (λ k. k < n) (λ k. d k i ≡ d' k i) (λ k q. A k i q h) cs low)

    -- and from one of them
    from-agree : (f : ℕ) (is : List ℕ) → f < n → Low is → map (d f) is ≡ map (d' f) is
    from-agree f is h low = map_same (d f) (d' f) is (every_of (λ i. i < n) (λ i. d f i ≡ d' f i) (λ i q. A f i h q) is low)

    -- the least distance from the centres so far
    nearness-agree : (cs : List ℕ) (i : ℕ) → 1 ≤ length cs → Low cs → i < n → nearness d cs i ≡ nearness d' cs i
    nearness-agree cs i s low h =
        ap₂ (λ (x : ℕ) (xs : List ℕ). least x xs) (A (head cs) i (every_head (λ i. i < n) cs s low) h) (to-agree i cs h low)

    -- the farthest
    farthest-agree : (cs is : List ℕ) → 1 ≤ length cs → Low cs → Low is → farthest d cs is ≡ farthest d' cs is
    farthest-agree cs [] s low h = refl
    farthest-agree cs (i ∷ []) s low h = refl
    farthest-agree cs (i ∷ j ∷ is) s low h =
        let k : ℕ = farthest d' cs (j ∷ is) in
        ap (farther d cs i) (farthest-agree cs (j ∷ is) s low h.1)
        ∙ ap₂ (λ (a b : ℕ). cond (ltb b a || (eqb b a && ltb i k)) i k) (nearness-agree cs i s low h.0)
        (nearness-agree cs k s low (farthest-low d' cs (j ∷ is) h.1))

    -- the centres and the rows left
    choose-agree : (k : ℕ) (cs is : List ℕ) → 1 ≤ length cs → Low cs → Low is → choose d k cs is ≡ choose d' k cs is
    unfolding choose
    choose-agree zero cs is s a b = refl
    choose-agree (suc k) cs is s a b =
        let j : ℕ = farthest d cs is in
        choose-agree k (cs ++ j ∷ []) (without j is) (omega (arith, length-append cs (j ∷ [])))
        (every_append (λ i. i < n) cs (j ∷ []) a (farthest-low d cs is b, tt)) (every_without (λ i. i < n) j is b)
        ∙ ap (λ (j : ℕ). choose d' k (cs ++ j ∷ []) (without j is)) (farthest-agree cs is s a b)

    -- the closest centre
    closest-agree : (cs : List ℕ) (i : ℕ) → Low cs → i < n → closest d cs i ≡ closest d' cs i
    closest-agree [] i low h = refl
    closest-agree (a ∷ []) i low h = refl
    closest-agree (a ∷ b ∷ cs) i low h =
        let k : ℕ = closest d' (b ∷ cs) i in
        ap (closer d i a) (closest-agree (b ∷ cs) i low.1 h)
        ∙ ap₂ (λ (x y : ℕ). cond (leb x y) a k) (A a i low.0 h) (A k i (closest-low d' (b ∷ cs) i low.1) h)

    -- the parts of a run
    split-agree : (m : ℕ) (run : List ℕ) → 1 ≤ length run → Low run → split d m run ≡ split d' m run
    unfolding split
    split-agree m run s low =
        let p : List ℕ × List ℕ = choose d (m - 1) (head run ∷ []) (rest run) in
        let hd = every_head (λ i. i < n) run s low in
        let c = choose-low d (m - 1) (head run ∷ []) (rest run) (hd, tt) (every_rest (λ i. i < n) run low) in
        map_agree (λ a. a ∷ keep (λ i. eqb (closest d p.0 i) a) p.1) (λ a. a ∷ keep (λ i. eqb (closest d' p.0 i) a) p.1)
        (λ a. ap (λ (k : List ℕ). a ∷ k) (keep_agree (λ i. eqb (closest d p.0 i) a) (λ i. eqb (closest d' p.0 i) a) p.1
        (every_of (λ i. i < n) (λ i. eqb (closest d p.0 i) a ≡ eqb (closest d' p.0 i) a)
        (λ i u. ap (λ (k : ℕ). eqb k a) (closest-agree p.0 i c.0 u)) p.1 c.1))) p.0
        ∙ ap (λ (q : List ℕ × List ℕ). map (λ a. a ∷ keep (λ i. eqb (closest d' q.0 i) a) q.1) q.0)
        (choose-agree (m - 1) (head run ∷ []) (rest run) (omega arith) (hd, tt) (every_rest (λ i. i < n) run low))

    -- ---- the nodes
    -- a run's pairs
    pairs-agree : (run : List ℕ) → 1 ≤ length run → Low run → map (paired d run) run ≡ map (paired d' run) run
    pairs-agree run s low =
        let hd = every_head (λ i. i < n) run s low in
        map_same (paired d run) (paired d' run) run
        (every_of (λ i. i < n) (λ i. paired d run i ≡ paired d' run i) (λ i u. ap (beside i) (A (head run) i hd u)) run low)

    -- its reach
    reach-same : (run : List ℕ) → 1 ≤ length run → Low run → reach d run ≡ reach d' run
    reach-same run s low =
        let hd = every_head (λ i. i < n) run s low in
        ap₂ (λ (o i : ℕ). reaching o i) (ap greatest (from-agree (head run) run hd low))
        (ap lowest (from-agree (head run) (rest run) hd (every_rest (λ i. i < n) run low)))

    -- its leaf
    leaf-same : (run : List ℕ) (g : Grove) → 1 ≤ length run → Low run → leaf_of d run g ≡ leaf_of d' run g
    leaf-same run g s low = ap₂ (λ (R : Reach) (es : List (ℕ × ℕ)). leaf R es g) (reach-same run s low) (pairs-agree run s low)

    -- nodes side by side
    forest-agree : (m l deep : ℕ) → ((run : List ℕ) (g : Grove) → 1 ≤ length run → Low run → grow d m l deep run g ≡ grow d' m l deep run g)
        → (gs : List (List ℕ)) → Every (λ q. (1 ≤ length q) × Low q) gs → foldr (grow d m l deep) bare gs ≡ foldr (grow d' m l deep) bare gs
    forest-agree m l deep ih [] h = refl
    forest-agree m l deep ih (q ∷ gs) h =
        ap (grow d m l deep q) (forest-agree m l deep ih gs h.1) ∙ ih q (foldr (grow d' m l deep) bare gs) h.0.0 h.0.1

    -- the node of a run
    pub grow-agree : (m l deep : ℕ) (run : List ℕ) (g : Grove) → 1 ≤ length run → Low run → grow d m l deep run g ≡ grow d' m l deep run g
    unfolding grow
    grow-agree m l zero run g s low = leaf-same run g s low
    grow-agree m l (suc deep) run g s low =
        let kids : foldr (grow d m l deep) bare (split d m run) ≡ foldr (grow d' m l deep) bare (split d' m run) =
        forest-agree m l deep (λ q h u v. grow-agree m l deep q h u v) (split d m run) (split-low d m run s low)
        ∙ ap (foldr (grow d' m l deep) bare) (split-agree m run s low) in
        ap₂ (λ (a b : Grove). cond (leb (length run) l) a b) (leaf-same run g s low)
        (ap₂ (λ (R : Reach) (ks : Grove). fork R ks g) (reach-same run s low) kids)

    -- ---- a row that is put in
    module _ (m l z : ℕ) (new : z < n) where
      -- a leaf
      lodge-agree : (deep : ℕ) (R : Reach) (es : List (ℕ × ℕ)) (g : Grove) → Low (lefts es) → lodge d m l z deep R es g ≡ lodge d' m l z deep R es g
      unfolding lodge
      lodge-agree deep R es g low =
          let run : List ℕ = lefts es ++ z ∷ [] in
          let s : 1 ≤ length run = omega (arith, length-append (lefts es) (z ∷ [])) in
          let all : Low run = every_append (λ i. i < n) (lefts es) (z ∷ []) low (new, tt) in
          let hd = every_head (λ i. i < n) run s all in
          let own : reach_with (length es) R (d (head run) z) ≡ reach_with (length es) R (d' (head run) z) =
          ap (reach_with (length es) R) (A (head run) z hd new) in
          let grown : grow d m l deep (orderly run) g ≡ grow d' m l deep (orderly run) g =
          grow-agree m l deep (orderly run) g (omega (arith, orderly-length run s))
          (every_same (λ i. i < n) run (orderly run) (λ i. orderly_tally (eqb i) run s) all) in
          ap₂ (λ (a b : Grove). cond (leb (length run) l || eqb deep 0 || twice run) a b)
          (ap₂ (λ (R : Reach) (es : List (ℕ × ℕ)). leaf R es g) own (pairs-agree run s all)) (ap₂ keep_own own grown)

      -- NODES SIDE BY SIDE, OF WHICH ONE TAKES IT
      pub join-agree : (deep k : ℕ) (g : Grove) → Full g → Low (rows_in g) → join d m l z deep k g ≡ join d' m l z deep k g
      unfolding join
      join-agree deep k bare f low = refl
      join-agree deep zero (leaf R es g) f low = lodge-agree deep R es g (rows_left (λ i. i < n) es (entries g) low)
      join-agree deep (suc k) (leaf R es g) f low = ap (leaf R es) (join-agree deep k g f.1 (rows_right (λ i. i < n) es (entries g) low))
      join-agree zero zero (fork R ks g) f low = refl
      join-agree (suc deep) zero (fork R ks g) f low =
          let a = rows_left (λ i. i < n) (entries ks) (entries g) low in
          let fs = firsts_rows (λ i. i < n) ks f.1 a in
          let at : lowest_at (map (λ c. d c z) (firsts ks)) ≡ lowest_at (map (λ c. d' c z) (firsts ks)) = ap lowest_at (to-agree z (firsts ks) new fs) in
          ap₂ (λ (R : Reach) (t : Grove). fork R t g)
          (ap (reach_with (length (entries ks)) R) (A (first ks) z (every_head (λ i. i < n) (firsts ks) f.0 fs) new))
          (join-agree deep (lowest_at (map (λ c. d c z) (firsts ks))) ks f.1 a ∙ ap (λ (k : ℕ). join d' m l z deep k ks) at)
      join-agree zero (suc k) (fork R ks g) f low = ap (fork R ks) (join-agree zero k g f.2 (rows_right (λ i. i < n) (entries ks) (entries g) low))
      join-agree (suc deep) (suc k) (fork R ks g) f low =
          ap (fork R ks) (join-agree (suc deep) k g f.2 (rows_right (λ i. i < n) (entries ks) (entries g) low))
