-- The root, and the levels below it. A working notion, on which no promise rests. Assumes nothing.
use Rattle.std.specs.Prelude.{◌*◌, ◌+◌, ◌≤◌, ℕ, drop, length, take, List, [], ◌++◌, ◌∷◌, map, ◌≡◌}
use Rattle.growing.specs.Levels.{Item, all_nodes, leaves}
use Rattle.growing.specs.Stages.{Fit, Stage, with_nodes}
use Rattle.laws.specs.Lists.{each, lowest, range, rest}
use Rattle.laws.specs.Upto.{most_to}
use Rattle.limits.specs.Limits.{max_depth}
use Rattle.split.specs.Runs.{laid}
use Rattle.words.specs.Words.{header_words}

-- the numbers fit, and room and workspace are long enough
pub record Room (t : List ℕ) (c m l n : ℕ) (room work : List ℕ) : Type 0 where
  pub fit : Fit t c m l n
  pub space : 12 * n + header_words ≤ length room
  pub halves : length work ≡ 6 * n

-- row i's entry in the root's run, whose first is row 0
abbrev pub entry_of0 : (ℕ → ℕ → ℕ) → ℕ → List ℕ
entry_of0 d i = i ∷ d 0 i ∷ 0 ∷ []

-- the root's entries are laid, and its radius and its inner reach are told
pub record RootLaid (d : ℕ → ℕ → ℕ) (n : ℕ) (work work' : List ℕ) (radius inner : ℕ) : Type 0 where
  pub far : radius ≡ most_to (d 0) n
  pub near : inner ≡ lowest (map (d 0) (rest (range 0 n)))
  pub words : work' ≡ each (entry_of0 d) (range 0 n) ++ drop (3 * n) work

-- the root's item
abbrev pub root_item : ℕ → Item
root_item n = (0, range 0 n)

-- the root stands alone
abbrev pub Rooted : (ℕ → ℕ → ℕ) → ℕ → ℕ → ℕ → List ℕ → List ℕ → List ℕ → Type 0
Rooted d m l n origin room work = Stage d m l n origin [] (root_item n ∷ []) (range 0 n ∷ []) room work 0 1

-- it does so in a room that was some other before
pub record Planted (d : ℕ → ℕ → ℕ) (m l n : ℕ) (room work : List ℕ) : Type 0 where
  pub origin : List ℕ
  pub rooted : Rooted d m l n origin room work

-- every level stands
pub record Layered (d : ℕ → ℕ → ℕ) (m l n : ℕ) (origin room work : List ℕ) (made : ℕ) : Type 0 where
  pub nodes : room ≡ with_nodes origin (all_nodes d m l max_depth 1 (root_item n ∷ []))
  pub count : made ≡ length (all_nodes d m l max_depth 1 (root_item n ∷ []))
  pub few : made ≤ 2 * n
  pub tiles : take (3 * n) work ≡ each (laid d) (leaves d m l max_depth (range 0 n))

-- it does so, whatever the room was before the root
abbrev pub Leveled : (ℕ → ℕ → ℕ) → ℕ → ℕ → ℕ → List ℕ → List ℕ → List ℕ → List ℕ → ℕ → Type 0
Leveled d m l n room work room' work' made = (g : Planted d m l n room work) → Layered d m l n g.origin room' work' made
