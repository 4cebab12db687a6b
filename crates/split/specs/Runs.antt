-- Runs in the workspace, and the split of one of them where it stands: 01, The tree. A working notion, on which no promise rests. Assumes nothing.
use Rattle.std.specs.Prelude.{◌*◌, ◌+◌, ◌-◌, ◌<◌, ◌≤◌, ℕ, eqb, drop, length, take, List, [], ◌++◌, ◌∷◌, map, ◌≡◌}
use Rattle.laws.specs.Every.{Every}
use Rattle.laws.specs.Lists.{each, head, keep, rest, times}
use Rattle.limits.specs.Limits.{max_columns, max_rows}
use Rattle.measure.specs.Table.{between}
use Rattle.rounds.specs.Stretch.{stretch}
use Rattle.split.specs.Places.{node_at_lem}
use Rattle.tree.specs.Build.{choose, closest, inner_reach, radius, split}

-- a run's entries: each member with its distance from the run's first, which is its centre
abbrev pub laid : (ℕ → ℕ → ℕ) → List ℕ → List ℕ
laid d run = each (λ i. i ∷ d (head run) i ∷ head run ∷ []) run

-- the words of the nodes of runs that follow each other from position `at` on, no children yet
unfoldable pub run_nodes : (ℕ → ℕ → ℕ) → ℕ → List (List ℕ) → List ℕ
run_nodes d at [] = []
run_nodes d at (r ∷ rs) = at ∷ length r ∷ 0 ∷ radius d r ∷ inner_reach d r ∷ run_nodes d (at + length r) rs

-- the rows of some entries
unfoldable pub rows : List ℕ → List ℕ
rows [] = []
rows (i ∷ []) = []
rows (i ∷ x ∷ []) = []
rows (i ∷ x ∷ a ∷ es) = i ∷ rows es

-- the rows of the run of `count` positions from s on
abbrev pub run_at : List ℕ → ℕ → ℕ → List ℕ
run_at w s count = rows (stretch w (3 * s) (3 * s + 3 * count))

-- the run's entries are laid, its rows are below n and none is there twice; there is room for m nodes more
pub record Splittable (t : List ℕ) (c o m n : ℕ) (room work : List ℕ) (s count made : ℕ) : Type 0 where
  pub columns : c ≤ max_columns
  pub few : n ≤ max_rows
  pub table : c * n ≤ length t
  pub share : 1 ≤ m
  pub centred : m ≤ count
  pub inside : s + count ≤ n
  pub halves : 6 * n ≤ length work
  pub nodes : node_at_lem (made + m) ≤ length room
  pub known : stretch work (3 * s) (3 * s + 3 * count) ≡ laid (between t c o) (run_at work s count)
  pub rows : Every (λ i. i < n) (run_at work s count)
  pub once : (i : ℕ) → times i (run_at work s count) ≤ 1

-- the children's runs where the centres are among the first `early` rows: every other row is in the group of its closest centre, in the order of the
-- run
unfoldable pub split_among : (ℕ → ℕ → ℕ) → ℕ → ℕ → List ℕ → List (List ℕ)
split_among d m early run =
    let p = choose d (m - 1) (head (take early run) ∷ []) (rest (take early run)) in
    map (λ a. a ∷ keep (λ i. eqb (closest d p.0 i) a) (p.1 ++ drop early run)) p.0

-- the run's words are now those of its children's runs, whose nodes stand from `made` on; the rest of the first half is as it was
pub record SplitAmong (t : List ℕ) (c o m early n : ℕ) (room work : List ℕ) (s count made : ℕ) (room' work' : List ℕ) : Type 0 where
  pub words : take (3 * n) work'
      ≡ take (3 * s) work
      ++ (each (laid (between t c o)) (split_among (between t c o) m early (run_at work s count)) ++ stretch work (3 * s + 3 * count) (3 * n))
  pub nodes : room'
      ≡ take (node_at_lem made) room
      ++ (run_nodes (between t c o) s (split_among (between t c o) m early (run_at work s count)) ++ drop (node_at_lem (made + m)) room)

-- where they may be any of its rows: its words are now those of its children's runs, whose nodes stand from `made` on; the rest of the first half is
-- as it was
pub record Splitted (t : List ℕ) (c o m n : ℕ) (room work : List ℕ) (s count made : ℕ) (room' work' : List ℕ) : Type 0 where
  pub words : take (3 * n) work'
      ≡ take (3 * s) work ++ (each (laid (between t c o)) (split (between t c o) m (run_at work s count)) ++ stretch work (3 * s + 3 * count) (3 * n))
  pub nodes : room'
      ≡ take (node_at_lem made) room ++ (run_nodes (between t c o) s (split (between t c o) m (run_at work s count)) ++ drop (node_at_lem (made + m)) room)
