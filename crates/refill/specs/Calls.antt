-- The index whose tree is grown anew below one node, written into the room. A working notion, on which no promise rests. Assumes nothing.
use Rattle.moved_runs.specs.Runs.{end#}
use Rattle.std.specs.Prelude.{◌*◌, ◌+◌, ◌-◌, ◌<◌, ◌≤◌, ℕ, drop, length, take, List, ◌++◌, ◌≡◌}
use Rattle.limits.specs.Limits.{max_rows}
use Rattle.regrow.specs.Calls.{Regrowable, regrown_of}
use Rattle.rounds.specs.Entries.{pairs_in}
use Rattle.rounds.specs.Stretch.{stretch}
use Rattle.tree.specs.Encode.{encode, numbered}
use Rattle.words.specs.Words.{nodes#, c#, circles#, count#, l#, m#, n#, pair_at, start#}

-- node v's run lies in the index, and there is room for the positions
pub record Pairing (w : List ℕ) (v added : ℕ) (part work : List ℕ) : Type 0 where
  pub there : v < nodes# w
  pub rows : n# w + added ≤ max_rows
  pub space : 2 * (n# w + added) ≤ length part
  pub entries : 3 * (n# w + added) ≤ length work

-- the positions' words: the old ones before node v's run, those of the workspace where it stands, and the old ones behind it
unfoldable pub pairs_then : List ℕ → ℕ → ℕ → List ℕ → List ℕ
pairs_then w v added work =
    take (2 * start# w v) (drop (pair_at w 0) w)
    ++ (pairs_in (stretch work (3 * start# w v) (3 * start# w v + 3 * (count# w v + added)))
    ++ take (2 * (n# w - end# w v)) (drop (pair_at w (end# w v)) w))

-- the words of the tree that is grown anew, in edition 2
abbrev pub regrown_words : List ℕ → List ℕ → ℕ → ℕ → ℕ → List ℕ → List ℕ
regrown_words t w v added limit run = encode 2 (c# w) (circles# w) (m# w) (l# w) (regrown_of t w v added limit run)

-- The index stands in the room, as the room was beyond it; the workspace is as long as it was
pub record Refilled (t w : List ℕ) (v added limit : ℕ) (run room work room' work' : List ℕ) (made : ℕ) : Type 0 where
  pub index : room' ≡ regrown_words t w v added limit run ++ drop (length (regrown_words t w v added limit run)) room
  pub count : made ≡ length (numbered (regrown_of t w v added limit run))
  pub few : made + 1 ≤ 2 * (n# w + added)
  pub words : length (regrown_words t w v added limit run) ≡ 8 + 5 * made + 2 * (n# w + added)
  pub long : length work' ≡ length work

-- it does, whatever the run
abbrev pub Refills : List ℕ → List ℕ → ℕ → ℕ → ℕ → List ℕ → List ℕ → List ℕ → List ℕ → ℕ → Type 0
Refills t w v added limit room work room' work' made =
    (g : Regrowable t w v added limit room work) → Refilled t w v added limit g.run room work room' work' made
