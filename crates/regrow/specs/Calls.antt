-- The whole of it: the tree of an index with one node grown anew from a run of the workspace. A working notion, on which no promise rests. Assumes
-- nothing.
use Rattle.std.specs.Prelude.{◌*◌, ◌+◌, ◌<◌, ◌≤◌, ℕ, T, length, take, List, [], ◌++◌, ◌∷◌, ◌≡◌}
use Rattle.appending.specs.Append.{keep_own}
use Rattle.copies.specs.Copies.{Change, new_reach}
use Rattle.growing.specs.Levels.{leaves}
use Rattle.growing.specs.Stages.{with_nodes}
use Rattle.laws.specs.Every.{Every}
use Rattle.laws.specs.Lists.{each, times}
use Rattle.leafward.specs.Changed.{changed_at}
use Rattle.limits.specs.Limits.{max_depth}
use Rattle.measure.specs.Table.{between}
use Rattle.regrow.specs.Pieces.{due, job_of, piece}
use Rattle.rounds.specs.Stretch.{stretch}
use Rattle.split.specs.Runs.{laid}
use Rattle.tree.specs.Build.{grow}
use Rattle.build_refusals.specs.Numbers.{room_of}
use Rattle.tree.specs.Encode.{numbered}
use Rattle.tree.specs.Grove.{Grove, Reach, bare}
use Rattle.words.specs.Shape.{tree_fits_lem}
use Rattle.words.specs.Words.{c#, circles#, count#, m#, n#, start#}

-- the tree: as the index has it, but node v is grown from a run, and the nodes whose run holds its reach to the row that has come
unfoldable pub regrown_of : List ℕ → List ℕ → ℕ → ℕ → ℕ → List ℕ → Grove
regrown_of t w v added limit run =
    let R : ℕ → Reach = new_reach (between t (c# w) (circles# w)) w v added in
    changed_at w R v (λ deep g. keep_own (R v) (grow (between t (c# w) (circles# w)) (m# w) limit deep run g)) max_depth 0 bare

-- A run stands in the workspace where node v's run is to stand: `added` rows more than node v has, and no row twice if it is to be split. Room and
-- workspace are a build's
pub record Regrowable (t w : List ℕ) (v added limit : ℕ) (room work : List ℕ) : Type 0 where
  pub change : Change t w v added limit
  pub tree : T (tree_fits_lem w)
  pub run : List ℕ
  pub count : length run ≡ count# w v + added
  pub once : limit < length run → (i : ℕ) → times i run ≤ 1
  pub rows : Every (λ i. i < n# w + added) run
  pub stands : stretch work (3 * start# w v) (3 * start# w v + 3 * length run) ≡ laid (between t (c# w) (circles# w)) run
  pub halves : 6 * (n# w + added) ≤ length work
  pub space : room_of (n# w + added) ≤ length room

-- The tree's nodes stand in the room. Where the run stood, its leaves do; `left` levels are below node v
pub record Regrown (t w : List ℕ) (v added limit : ℕ) (run room work room' work' : List ℕ) (made : ℕ) : Type 0 where
  pub nodes : room' ≡ with_nodes room (numbered (regrown_of t w v added limit run))
  pub count : made ≡ length (numbered (regrown_of t w v added limit run))
  pub few : made + 1 ≤ 2 * (n# w + added)
  pub left : ℕ
  pub level : due (job_of t w v added limit run) max_depth (piece (job_of t w v added limit run) 0) ≡ (left, (start# w v, run)) ∷ []
  pub entries : take (3 * (n# w + added)) work' ≡ take (3 * start# w v) work
      ++ (each (laid (between t (c# w) (circles# w))) (leaves (between t (c# w) (circles# w)) (m# w) limit left run)
      ++ stretch work (3 * start# w v + 3 * length run) (3 * (n# w + added)))

-- they do, whatever the run
abbrev pub Regrows : List ℕ → List ℕ → ℕ → ℕ → ℕ → List ℕ → List ℕ → List ℕ → List ℕ → ℕ → Type 0
Regrows t w v added limit room work room' work' made =
    (g : Regrowable t w v added limit room work) → Regrown t w v added limit g.run room work room' work' made
