-- Positions that are wrong, gathered one after the other. Assumes nothing.
use Prim.Native.Nat.{◌*◌, ◌+◌, ℕ}
use Rattle.laws.proofs.First.{any-more}
use Rattle.laws.specs.Lists.{all, any, range}
use Rattle.limits.specs.Limits.{max_distance}
use Rattle.words.proofs.Positions.{dist-word, row_word}
use Rattle.words.specs.Shape.{position_ok}
use Rattle.words.specs.Words.{at, dist#, n#, pair_at, row#}
use borrow.Author.Tests.{le-ltb, leb-false, leb-true, lt-ltb}
use lib.Dec.{leb, ltb}
use mathlib.Core.Bool.{Bool, ◌&&◌, ◌||◌, false, not, or_assoc, true}
use mathlib.Core.List.{List, [], ◌∷◌}
use mathlib.Core.Path.{◌∙◌, ◌≡◌, ap, ap₂, refl, sym}
use native.Mathlib.Omega.{arith}

-- not above is below
not-leb : (a b : ℕ) → not (leb a b) ≡ ltb b a
not-leb a b = go (leb a b) refl
  where
    go : (t : Bool) → leb a b ≡ t → not t ≡ ltb b a
    go true e = sym (le-ltb b a (leb-true a b e))
    go false e = sym (lt-ltb b a (leb-false a b e))

-- not below is above
not-ltb : (a b : ℕ) → not (ltb a b) ≡ leb b a
not-ltb a b = ap not (sym (not-leb b a)) ∙ twice (leb b a)
  where
    twice : (t : Bool) → not (not t) ≡ t
    twice true = refl
    twice false = refl

-- not one of two is neither
not_or : (a b : Bool) → not (a || b) ≡ (not a && not b)
not_or true b = refl
not_or false b = refl

-- what is right, where not right is wrong
none_all : (f g : ℕ → Bool) → ((i : ℕ) → not (f i) ≡ g i) → (is : List ℕ) → not (any f is) ≡ all g is
none_all f g e [] = refl
none_all f g e (i ∷ is) = not_or (f i) (any f is) ∙ ap₂ ◌&&◌ (e i) (none_all f g e is)

module _ (w : List ℕ) where
  -- position p has a row number that is not below n, or a distance out of range
  abbrev pub wrong_at : ℕ → Bool
  wrong_at p = leb (n# w) (row# w p) || ltb max_distance (dist# w p)

  -- one more is looked at
  pub wrong-next : (wrong : Bool) (over base p : ℕ) → wrong ≡ any wrong_at (range 0 p) → over ≡ n# w → base ≡ pair_at w 0
      → ((wrong || leb over (at w (base + 2 * p))) || ltb max_distance (at w (base + 2 * p + 1))) ≡ any wrong_at (range 0 (p + 1))
  wrong-next wrong over base p e o b =
      let here : p ≡ 0 + p = omega arith in
      or_assoc wrong (leb over (at w (base + 2 * p))) (ltb max_distance (at w (base + 2 * p + 1)))
      ∙ ap₂ ◌||◌ e (ap₂ ◌||◌ (ap₂ leb o (row_word w base p b)) (ap (ltb max_distance) (dist-word w base p b)))
      ∙ ap (λ (i : ℕ). any wrong_at (range 0 p) || wrong_at i) here ∙ sym (any-more wrong_at 0 p)

  -- none is wrong just where all are right
  pub wrong-none : not (any wrong_at (range 0 (n# w))) ≡ all (position_ok w) (range 0 (n# w))
  wrong-none =
      none_all wrong_at (position_ok w)
      (λ p. not_or (leb (n# w) (row# w p)) (ltb max_distance (dist# w p))
      ∙ ap₂ ◌&&◌ (not-leb (n# w) (row# w p)) (not-ltb max_distance (dist# w p))) (range 0 (n# w))
