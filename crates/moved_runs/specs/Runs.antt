-- The run of an old node, and its first child, when rows have come to the end of another node's run. A working notion, on which no promise rests.
-- Assumes nothing.
use Rattle.std.specs.Prelude.{◌+◌, ℕ, eqb, leb, Bool, ◌&&◌, cond, List}
use Rattle.words.specs.Words.{child#, count#, start#}

-- ---- an old node where it stands when `added` rows have come to the end of node v's run
-- where a node's run ends
abbrev pub end# : List ℕ → ℕ → ℕ
end# w k = start# w k + count# w k

-- node k's run holds node v's
unfoldable pub holds : List ℕ → ℕ → ℕ → Bool
holds w v k = leb (start# w k) (start# w v) && leb (end# w v) (end# w k)

-- its start: a run behind node v's has moved
unfoldable pub new_start : List ℕ → ℕ → ℕ → ℕ → ℕ
new_start w v added k = cond (leb (end# w v) (start# w k)) (start# w k + added) (start# w k)

-- its count
unfoldable pub new_count : List ℕ → ℕ → ℕ → ℕ → ℕ
new_count w v added k = cond (holds w v k) (count# w k + added) (count# w k)

-- its first child's number in the old index; node v has no child yet
unfoldable pub new_child : List ℕ → ℕ → ℕ → ℕ
new_child w v k = cond (eqb k v) 0 (child# w k)
