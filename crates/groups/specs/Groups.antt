-- One centre's group, picked from a run's entries: 01, The tree, groups. A working notion, on which no promise rests. Assumes nothing.
use Rattle.std.specs.Prelude.{◌%◌, ◌*◌, ◌+◌, ◌-◌, ◌≤◌, max, suc, ℕ, eqb, drop, length, take, cond, List, [], ◌++◌, ◌∷◌, ◌≡◌}
use Rattle.laws.specs.Lists.{lowest}
use Rattle.rounds.specs.Entries.{own}
use Rattle.rounds.specs.Stretch.{stretch}

-- the entries whose closest centre is a
unfoldable pub picked : ℕ → List ℕ → List ℕ
picked a [] = []
picked a (i ∷ []) = []
picked a (i ∷ x ∷ []) = []
picked a (i ∷ x ∷ b ∷ es) = cond (eqb b a) (i ∷ x ∷ a ∷ picked a es) (picked a es)

-- a centre's group, the centre first
abbrev pub group : ℕ → List ℕ → List ℕ
group a es = own a ++ picked a es

-- how many entries
unfoldable pub size : List ℕ → ℕ
size [] = 0
size (i ∷ []) = 0
size (i ∷ x ∷ []) = 0
size (i ∷ x ∷ a ∷ es) = suc (size es)

-- the greatest of their distances
unfoldable pub widest : List ℕ → ℕ
widest [] = 0
widest (i ∷ []) = 0
widest (i ∷ x ∷ []) = 0
widest (i ∷ x ∷ a ∷ es) = max x (widest es)

-- their distances
unfoldable pub distances : List ℕ → List ℕ
distances [] = []
distances (i ∷ []) = []
distances (i ∷ x ∷ []) = []
distances (i ∷ x ∷ a ∷ es) = x ∷ distances es

-- the least of their distances, 0 where there is none
abbrev pub narrowest : List ℕ → ℕ
narrowest es = lowest (distances es)

-- the words from lo to hi are whole entries before `to`, and from there on is room for those of centre a
pub record Picking (w : List ℕ) (lo hi a to : ℕ) : Type 0 where
  pub order : lo ≤ hi
  pub before : hi ≤ to
  pub thirds : (hi - lo) % 3 ≡ 0
  pub room : to + 3 * size (picked a (stretch w lo hi)) ≤ length w

-- they stand there, counted, with the greatest and the least of their distances
pub record Picked (w : List ℕ) (lo hi a to : ℕ) (w' : List ℕ) (count radius inner : ℕ) : Type 0 where
  pub words : w' ≡ take to w ++ (picked a (stretch w lo hi) ++ drop (to + 3 * size (picked a (stretch w lo hi))) w)
  pub members : count ≡ size (picked a (stretch w lo hi))
  pub far : radius ≡ widest (picked a (stretch w lo hi))
  pub near : inner ≡ narrowest (picked a (stretch w lo hi))

-- the same for the whole group, its centre in front
pub record Gatherable (w : List ℕ) (lo hi a to : ℕ) : Type 0 where
  pub order : lo ≤ hi
  pub before : hi ≤ to
  pub thirds : (hi - lo) % 3 ≡ 0
  pub room : to + 3 * size (group a (stretch w lo hi)) ≤ length w

-- it stands there, counted, with the greatest of its distances, and the least of those that were picked
pub record Gathered (w : List ℕ) (lo hi a to : ℕ) (w' : List ℕ) (count radius inner : ℕ) : Type 0 where
  pub words : w' ≡ take to w ++ (group a (stretch w lo hi) ++ drop (to + 3 * size (group a (stretch w lo hi))) w)
  pub members : count ≡ size (group a (stretch w lo hi))
  pub far : radius ≡ widest (group a (stretch w lo hi))
  pub near : inner ≡ narrowest (picked a (stretch w lo hi))
