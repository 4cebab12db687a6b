-- A leaf that takes one row more is the node that the build grows over its rows. Assumes nothing.
use Prim.Native.Nat.{◌+◌, ◌≤◌, suc, zero, ℕ}
use Rattle.appending.proofs.Further.{reach-more}
use Rattle.appending.proofs.Lowest.{head_more, not-twice, orderly-length, orderly_tally, times_more}
use Rattle.appending.proofs.Nodes.{Made, Once}
use Rattle.appending.specs.Append.{keep_own, lodge, orderly, reach_with, twice}
use Rattle.laws.proofs.Lists.{map-append, tally_append}
use Rattle.laws.proofs.Shares.{bit}
use Rattle.laws.proofs.Times.{lefts, tally_lefts}
use Rattle.laws.specs.Every.{Every}
use Rattle.laws.specs.Lists.{head, tally}
use Rattle.tree.specs.Build.{grow, leaf_of, reach, split}
use Rattle.tree.specs.Grove.{Grove, Reach, bare, entries, fork, leaf}
use borrow.Author.Tests.{ne_eqb}
use lib.Dec.{T, eqb, leb}
use lib.ListN.{length, length-append, length-map}
use mathlib.Core.Bool.{Bool, ◌||◌, cond, false, or-false, or-true, true}
use mathlib.Core.List.{List, [], ◌++◌, ◌∷◌, foldr, map}
use mathlib.Core.Path.{◌∙◌, ◌≡◌, ap, ap₂, refl, subst, sym}
use native.Mathlib.Omega.{arith}

-- a leaf's pairs are its rows with their distances, where these are right
rows_back : (x : ℕ → ℕ) (es : List (ℕ × ℕ)) → Every (λ e. x e.0 ≡ e.1) es → map (λ i. (i, x i)) (lefts es) ≡ es
rows_back x [] h = refl
rows_back x (e ∷ es) h = ap₂ (λ (a : ℕ) (l : List (ℕ × ℕ)). (e.0, a) ∷ l) h.0 (rows_back x es h.1)

-- the rows of a leaf, and the new one
abbrev pub longer : ℕ → List (ℕ × ℕ) → List ℕ
longer z es = lefts es ++ z ∷ []

-- how many there are
pub longer_length : (z : ℕ) (es : List (ℕ × ℕ)) → length (longer z es) ≡ length es + 1
longer_length z es = omega (arith, length-append (lefts es) (z ∷ []), length-map es (λ e. e.0))

-- the run by which a leaf that takes a row too many is split
abbrev pub ordered : ℕ → List (ℕ × ℕ) → List ℕ
ordered z es = orderly (longer z es)

-- its rows are those of the leaf and the new one
pub ordered_tally : (z : ℕ) (f : ℕ → Bool) (es : List (ℕ × ℕ)) → tally f (ordered z es) ≡ tally f (lefts es) + bit (f z)
ordered_tally z f es =
    let n : 1 ≤ length (longer z es) = omega (arith, longer_length z es) in
    orderly_tally f (longer z es) n ∙ omega (arith, tally_append f (lefts es) (z ∷ []))

-- there is one more
pub ordered-length : (z : ℕ) (es : List (ℕ × ℕ)) → length (ordered z es) ≡ length es + 1
ordered-length z es = orderly-length (longer z es) (omega (arith, longer_length z es)) ∙ longer_length z es

-- of a grown node the own reach is its run's
own-keep : (d : ℕ → ℕ → ℕ) (m l deep : ℕ) (run : List ℕ) (g : Grove) → keep_own (reach d run) (grow d m l deep run g) ≡ grow d m l deep run g
unfolding grow
own-keep d m l zero run g = refl
own-keep d m l (suc deep) run g = go (leb (length run) l)
  where
    go : (b : Bool) → keep_own (reach d run) (cond b (leaf_of d run g) (fork (reach d run) (foldr (grow d m l deep) bare (split d m run)) g))
        ≡ cond b (leaf_of d run g) (fork (reach d run) (foldr (grow d m l deep) bare (split d m run)) g)
    go true = refl
    go false = refl

module _ (d : ℕ → ℕ → ℕ) (m l z : ℕ) where
  -- a run that has at most l rows, or no level below it, grows to its leaf
  pub grow-leaf : (deep : ℕ) (run : List ℕ) (g : Grove) → (leb (length run) l || eqb deep 0) ≡ true → leaf_of d run g ≡ grow d m l deep run g
  unfolding grow
  grow-leaf zero run g e = refl
  grow-leaf (suc deep) run g e =
      go (leb (length run) l) (ap (λ (b : Bool). leb (length run) l || b) (sym (ne_eqb (suc deep) 0 (λ q. omega arith))) ∙ e)
    where
      go : (b : Bool) → (b || false) ≡ true
          → leaf_of d run g ≡ cond b (leaf_of d run g) (fork (reach d run) (foldr (grow d m l deep) bare (split d m run)) g)
      go true e = refl
      go false e = absurd (subst T (sym e) tt)

  -- ---- any leaf
  -- it keeps its order by the rule of count and depth
  abbrev pub stays : ℕ → List (ℕ × ℕ) → Bool
  stays deep es = leb (length (longer z es)) l || eqb deep 0

  -- its rows and the new one as they are laid: the new one last, or all in order where the leaf is split
  abbrev pub laid : ℕ → List (ℕ × ℕ) → List ℕ
  laid deep es = cond (stays deep es) (longer z es) (ordered z es)

  -- its reach with the new row
  abbrev pub own : Reach → List (ℕ × ℕ) → Reach
  own R es = reach_with (length es) R (d (head (longer z es)) z)

  -- the leaf of all its rows in their order
  abbrev pub unsplit : Reach → List (ℕ × ℕ) → Grove → Grove
  unsplit R es g = leaf (own R es) (map (λ i. (i, d (head (longer z es)) i)) (longer z es)) g

  -- the node over them put in order
  abbrev parted : ℕ → Reach → List (ℕ × ℕ) → Grove → Grove
  parted deep R es g = keep_own (own R es) (grow d m l deep (ordered z es) g)

  -- A LEAF WITH A ROW TWICE STAYS ONE: it is no leaf of an accepted index, and no table fits it
  pub lodge-twice : (deep : ℕ) (R : Reach) (es : List (ℕ × ℕ)) (g : Grove) → twice (longer z es) ≡ true → lodge d m l z deep R es g ≡ unsplit R es g
  unfolding lodge
  lodge-twice deep R es g e =
      ap (λ (b : Bool). cond b (unsplit R es g) (parted deep R es g)) (ap (λ (b : Bool). stays deep es || b) e ∙ or-true (stays deep es))

  -- ANY OTHER BECOMES WHAT THE BUILD GROWS OVER ITS ROWS AS THEY ARE LAID, WITH ITS OWN REACH
  pub lodge-laid : (deep : ℕ) (R : Reach) (es : List (ℕ × ℕ)) (g : Grove) → twice (longer z es) ≡ false
      → lodge d m l z deep R es g ≡ keep_own (own R es) (grow d m l deep (laid deep es) g)
  unfolding lodge
  lodge-laid deep R es g e =
      ap (λ (b : Bool). cond b (unsplit R es g) (parted deep R es g)) (ap (λ (b : Bool). stays deep es || b) e ∙ or-false (stays deep es))
      ∙ go (stays deep es) refl
    where
      go : (b : Bool) → stays deep es ≡ b
          → cond b (unsplit R es g) (parted deep R es g) ≡ keep_own (own R es) (grow d m l deep (cond b (longer z es) (ordered z es)) g)
      go true e = ap (keep_own (own R es)) (grow-leaf deep (longer z es) g e)
      go false e = refl

  -- a fact of both ways to lay them
  laid-has : (P : List ℕ → Type 0) (deep : ℕ) (es : List (ℕ × ℕ)) → P (longer z es) → P (ordered z es) → P (laid deep es)
  laid-has P deep es p q = go (stays deep es)
    where
      go : (b : Bool) → P (cond b (longer z es) (ordered z es))
      go true = p
      go false = q

  -- the first stays
  pub laid-head : (deep : ℕ) (es : List (ℕ × ℕ)) → 1 ≤ length (lefts es) → head (laid deep es) ≡ head (lefts es)
  laid-head deep es h = laid-has (λ is. head is ≡ head (lefts es)) deep es (head_more (lefts es) z h) (head_more (lefts es) z h)

  -- the rows are those of the leaf and the new one
  pub laid-tally : (deep : ℕ) (es : List (ℕ × ℕ)) (f : ℕ → Bool) → tally f (laid deep es) ≡ tally f (lefts es) + bit (f z)
  laid-tally deep es f =
      laid-has (λ is. tally f is ≡ tally f (lefts es) + bit (f z)) deep es (omega (arith, tally_append f (lefts es) (z ∷ []))) (ordered_tally z f es)

  -- there are rows
  laid-some : (deep : ℕ) (es : List (ℕ × ℕ)) → 1 ≤ length (laid deep es)
  laid-some deep es = laid-has (λ is. 1 ≤ length is) deep es (omega (arith, longer_length z es)) (omega (arith, ordered-length z es))

  -- ---- a leaf of a tree that fits
  -- the leaf with the new row last, its other pairs as they were
  abbrev pub with_last : Reach → List (ℕ × ℕ) → Grove → Grove
  with_last R es g = leaf (reach_with (length es) R (d (head (lefts es)) z)) (es ++ (z, d (head (lefts es)) z) ∷ []) g

  module _ {deep : ℕ} {R : Reach} {es : List (ℕ × ℕ)} {g : Grove} (M : Made d m l deep (leaf R es g)) (o : Once z (leaf R es g)) where
    -- it has rows
    some : 1 ≤ length (lefts es)
    some = omega (arith, length-map es (λ e. e.0), M.full.0)

    -- none of them twice
    no-twice : twice (longer z es) ≡ false
    no-twice = not-twice (longer z es) (λ i. omega (arith, o i, times_more i z (lefts es), tally_lefts (eqb i) es (entries g)))

    -- its own reach with the new row is that of its rows, however they are laid
    own_is : own R es ≡ reach d (laid deep es)
    own_is =
        ap₂ (λ (k i : ℕ). reach_with k R (d i z)) (sym (length-map es (λ e. e.0))) (head_more (lefts es) z some)
        ∙ reach-more d R z (lefts es) (laid deep es) some (laid-some deep es) (laid-head deep es some)
        (λ i. laid-tally deep es (eqb i) ∙ sym (times_more i z (lefts es))) M.tight.0

    -- IT BECOMES WHAT THE BUILD GROWS
    pub lodge-is : lodge d m l z deep R es g ≡ grow d m l deep (laid deep es) g
    lodge-is =
        lodge-laid deep R es g no-twice ∙ ap (λ (k : Reach). keep_own k (grow d m l deep (laid deep es) g)) own_is
        ∙ own-keep d m l deep (laid deep es) g

    -- its pairs with the new one are those of its rows
    pairs-more : map (λ i. (i, d (head (longer z es)) i)) (longer z es) ≡ es ++ (z, d (head (lefts es)) z) ∷ []
    pairs-more =
        let f : ℕ = head (lefts es) in
        ap (λ (i : ℕ). map (λ j. (j, d i j)) (longer z es)) (head_more (lefts es) z some)
        ∙ map-append (λ i. (i, d f i)) (lefts es) (z ∷ []) ∙ ap (λ (x : List (ℕ × ℕ)). x ++ (z, d f z) ∷ []) (rows_back (d f) es M.sound.0)

    -- OR, TOLD BY ITS PAIRS: THE LEAF KEEPS THEM AND HAS THE NEW ROW LAST, OR THE BUILD GROWS IT OVER ITS ROWS PUT IN ORDER
    pub lodge-plain : lodge d m l z deep R es g ≡ cond (stays deep es) (with_last R es g) (grow d m l deep (ordered z es) g)
    lodge-plain = go (stays deep es) refl lodge-is (lodge-laid deep R es g no-twice)
      where
        go : (b : Bool) → stays deep es ≡ b → lodge d m l z deep R es g ≡ grow d m l deep (cond b (longer z es) (ordered z es)) g
            → lodge d m l z deep R es g ≡ keep_own (own R es) (grow d m l deep (cond b (longer z es) (ordered z es)) g)
            → lodge d m l z deep R es g ≡ cond b (with_last R es g) (grow d m l deep (ordered z es) g)
        go false e p q = p
        go true e p q =
            q ∙ ap (keep_own (own R es)) (sym (grow-leaf deep (longer z es) g e))
            ∙ ap₂ (λ (k : Reach) (x : List (ℕ × ℕ)). leaf k x g) (ap (λ (i : ℕ). reach_with (length es) R (d i z)) (head_more (lefts es) z some))
            pairs-more
