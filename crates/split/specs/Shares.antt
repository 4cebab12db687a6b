-- A run's entries shared out among its centres: 01, The tree, groups and the children's runs. A working notion, on which no promise rests. Assumes
-- nothing.
use Rattle.std.specs.Prelude.{◌*◌, ◌+◌, ◌≤◌, suc, zero, ℕ, drop, get_or, length, take, List, [], ◌++◌, ◌∷◌, ◌≡◌}
use Rattle.groups.specs.Groups.{group, narrowest, picked, size, widest}
use Rattle.laws.specs.Lists.{each}
use Rattle.limits.specs.Limits.{max_rows}
use Rattle.rounds.specs.Stretch.{stretch}
use Rattle.split.specs.Places.{node_at_lem}

-- the groups of the centres, one after the other
abbrev pub shared : List ℕ → List ℕ → List ℕ
shared es cs = each (λ a. group a es) cs

-- the words of these groups' nodes, from position `at` on, no children yet; a centre does not count for the inner reach of its group
unfoldable pub shared_nodes : ℕ → List ℕ → List ℕ → List ℕ
shared_nodes at es [] = []
shared_nodes at es (a ∷ cs) =
    at ∷ size (group a es) ∷ 0 ∷ widest (group a es) ∷ narrowest (picked a es) ∷ shared_nodes (at + size (group a es)) es cs

-- the rows of k entries from word p on
unfoldable pub centres : List ℕ → ℕ → ℕ → List ℕ
centres w p zero = []
centres w p (suc k) = get_or w p 0 ∷ centres w (p + 3) k

-- ---- all groups of the run of `count` positions from s on, whose m centres stand at its front
-- the entries behind the centres
abbrev pub waiting : List ℕ → ℕ → ℕ → ℕ → List ℕ
waiting w m s count = stretch w (3 * (s + m)) (3 * (s + count))

-- the words of all groups
abbrev pub group_words : List ℕ → ℕ → ℕ → ℕ → List ℕ
group_words w m s count = shared (waiting w m s count) (centres w (3 * s) m)

-- the words of all their nodes
abbrev pub group_nodes : List ℕ → ℕ → ℕ → ℕ → List ℕ
group_nodes w m s count = shared_nodes s (waiting w m s count) (centres w (3 * s) m)

-- the groups take as many positions as the run, and there is room for them and for their nodes
pub record Sharable (room work : List ℕ) (n m s count made : ℕ) : Type 0 where
  pub few : n ≤ max_rows
  pub centred : m ≤ count
  pub inside : s + count ≤ n
  pub halves : 6 * n ≤ length work
  pub tile : length (group_words work m s count) ≡ 3 * count
  pub nodes : node_at_lem (made + m) ≤ length room

-- the groups stand in the second half, and the nodes from `made` on
pub record Shared (room work : List ℕ) (n m s count made : ℕ) (room' work' : List ℕ) : Type 0 where
  pub words : work' ≡ take (3 * (n + s)) work ++ (group_words work m s count ++ drop (3 * (n + s) + 3 * count) work)
  pub nodes : room' ≡ take (node_at_lem made) room ++ (group_nodes work m s count ++ drop (node_at_lem (made + m)) room)
