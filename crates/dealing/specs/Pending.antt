-- Pieces of an index that takes rows, while they wait: their nodes in the room, and their words in the workspace. A working notion, on which no
-- promise rests. Assumes nothing.
use Rattle.std.specs.Prelude.{◌*◌, ◌+◌, ◌≤◌, ℕ, drop, length, take, Bool, List, [], ◌∷◌, map, ◌≡◌}
use Rattle.lodging.specs.Standing.{Stands, mark_of, new_rows}
use Rattle.measure.specs.Table.{between}
use Rattle.swelling.specs.Pieces.{Piece, grown, old, piece_of, settled, start_of}
use Rattle.swelling.specs.Swell.{reach_taking}
use Rattle.tree.specs.Encode.{Node}
use Rattle.tree.specs.Grove.{Reach, reach#}
use Rattle.words.specs.Words.{c#, circles#, count#, first#}

-- how many rows it has
abbrev pub size_of : List ℕ → Piece → ℕ
size_of w (old s o zs) = count# w o + length zs
size_of w (grown s R run) = length run
size_of w (settled s R es) = length es

-- how many they have together
abbrev pub sizes : List ℕ → List Piece → ℕ
sizes w [] = 0
sizes w (q ∷ qs) = size_of w q + sizes w qs

module _ (t w : List ℕ) where
  -- how far it reaches
  abbrev pub reach_of : Piece → Reach
  reach_of (old s o zs) = reach_taking (count# w o) (reach# w o) (map (between t (c# w) (circles# w) (first# w o)) zs)
  reach_of (grown s R run) = R
  reach_of (settled s R es) = R

  module _ (last : Bool) where
    -- its node while it waits; `last` says that there is no level below it
    abbrev pub pend_of : Piece → Node
    pend_of q = (start_of q, size_of w q, mark_of t (c# w) w last q, reach_of q)

    -- pieces that stand one behind the other
    abbrev pub StandAll : List Piece → List ℕ → Type 0
    StandAll [] ws = ws ≡ []
    StandAll (q ∷ qs) ws =
        (3 * size_of w q ≤ length ws) × Stands t (c# w) w last q (take (3 * size_of w q) ws) × StandAll qs (drop (3 * size_of w q) ws)

-- WHAT A NODE IS LAID AS: its piece, wherever it starts
pub record Settles (t w : List ℕ) (o : ℕ) (last : Bool) (part part' : List ℕ) (mark : ℕ) : Type 0 where
  pub stands : (s : ℕ) → Stands t (c# w) w last (piece_of (between t (c# w) (circles# w)) w s o (new_rows w o part)) part'
  pub marked : (s : ℕ) → mark ≡ mark_of t (c# w) w last (piece_of (between t (c# w) (circles# w)) w s o (new_rows w o part))
  pub long : length part' ≡ length part
