-- The full check: 01, The tree, and Numbers given back, 10 to 13. Over the distance d between rows. Assumes nothing.
use Rattle.std.specs.Prelude.{◌+◌, ℕ, eqb, leb, ltb, Bool, ◌&&◌, ◌||◌, cond, not, true, List, [], ◌++◌, map, ◌≡◌}
use Rattle.laws.specs.Lists.{any, each, greatest, has, keep, lowest, range, rest}
use Rattle.limits.specs.Said.{Said}
use Rattle.words.specs.Shape.{inner, shape_ok_lem}
use Rattle.words.specs.Words.{nodes#, child#, count#, dist#, edition#, first#, inner#, m#, n#, radius#, row#, run#, start#, whole_ok}

-- position p lies in node k's run
abbrev pub in_run : List ℕ → ℕ → ℕ → Bool
in_run w p k = leb (start# w k) p && ltb p (start# w k + count# w k)

-- the numbers of node k's children
abbrev pub kids : List ℕ → ℕ → List ℕ
kids w k = cond (inner w k) (range (child# w k) (m# w)) []

-- 10: position p holds a row number that stands before it
unfoldable pub again : List ℕ → ℕ → Bool
again w p = has (row# w p) (map (row# w) (range 0 p))

module _ (d : ℕ → ℕ → ℕ) where
  -- 11: the stored distance at position p is not that from the first of its leaf
  unfoldable pub wrong_dist : List ℕ → ℕ → Bool
  wrong_dist w p = any (λ k. not (inner w k) && in_run w p k && not (eqb (dist# w p) (d (first# w k) (row# w p)))) (range 0 (nodes# w))

  -- 12: node k's radius is not the greatest distance of a member from its first
  unfoldable pub wrong_radius : List ℕ → ℕ → Bool
  wrong_radius w k = not (eqb (radius# w k) (greatest (map (λ p. d (first# w k) (row# w p)) (run# w k))))

  -- the least distance of a member other than the first from node k's first, 0 where there is none
  abbrev pub nearest# : List ℕ → ℕ → ℕ
  nearest# w k = lowest (map (λ p. d (first# w k) (row# w p)) (rest (run# w k)))

  -- 12, in edition 2: its inner reach is not that
  unfoldable pub wrong_inner : List ℕ → ℕ → Bool
  wrong_inner w k = eqb (edition# w) 2 && not (eqb (inner# w k) (nearest# w k))

  -- 12: one of the two
  abbrev pub wrong_reach_lem : List ℕ → ℕ → Bool
  wrong_reach_lem w k = wrong_radius w k || wrong_inner w k

  -- 13: the member at position p of node k's child j is closer to the centre of another child
  unfoldable pub strays : List ℕ → ℕ → ℕ → Bool
  strays w k p = any (λ j. in_run w p j && any (λ i. ltb (d (first# w i) (row# w p)) (d (first# w j) (row# w p))) (kids w k)) (kids w k)

  -- every fault with its two places, the lowest number first, then the lowest place
  unfoldable pub faults : List ℕ → List Said
  faults w =
      map (λ p. (10, p, 0)) (keep (again w) (range 0 (n# w))) ++ map (λ p. (11, p, 0)) (keep (wrong_dist w) (range 0 (n# w)))
      ++ map (λ k. (12, k, 0)) (keep (wrong_reach_lem w) (range 0 (nodes# w)))
      ++ each (λ k. map (λ p. (13, k, p)) (keep (strays w k) (run# w k))) (range 0 (nodes# w))

  -- the full check accepts: words and header, shape, and no fault
  pub record Accepted (w : List ℕ) : Type 0 where
    pub words : whole_ok w ≡ true
    pub shape : shape_ok_lem w ≡ true
    pub sound : faults w ≡ []
