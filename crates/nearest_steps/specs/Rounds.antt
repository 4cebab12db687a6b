-- The rounds of a search: what taking an item does, what is known between two rounds, and at the end. A working notion, on
-- which no promise rests. Assumes nothing.
use Rattle.std.specs.Prelude.{◌+◌, ◌-◌, ◌<◌, ◌≤◌, min, suc, ℕ, length, Bool, List, ◌++◌, ◌≡◌}
use Rattle.answers_held.specs.Answers.{BestHeld, last_of}
use Rattle.frontier.specs.Waiting.{FrontierRoom, at_most, items}
use Rattle.frontier.specs.Workspace.{answers_at, kept}
use Rattle.index_space.specs.Fits.{IndexFits}
use Rattle.index_space.specs.Items.{IndexItem, bound_of, greatest_word, left_of, measured_by, measures_at, node, opened_by, place, waits_of, weight}
use Rattle.index_space.specs.Run.{RunSoFar, RunToEnd}
use Rattle.laws.specs.Bags.{SameBag, total}
use Rattle.laws.specs.Lists.{gap}
use Rattle.laws.specs.Upto.{sum_to}
use Rattle.nearest_steps.specs.Asked.{NearestAsked, away, gone, positions_left, rows_in}
use Rattle.nearest_steps.specs.Standing.{Grew, Ready, Since, Stands, met_of}
use Rattle.queue.specs.Queue.{Queue, entries}
use Rattle.tree.specs.Tested.{Tested}
use Rattle.words.specs.Words.{nodes#, at, child#, circles#, first#, n#}

-- ---- taking an item
-- 0 where it is an item of the index, and the distance of a node's first is kept
abbrev pub amiss : List ℕ → (ℕ → ℕ) → List ℕ → IndexItem → ℕ
amiss w x work (node k b u) = (suc k - nodes# w) + gap (kept work (n# w) (first# w k)) (x (first# w k))
amiss w x work (place p b) = suc p - n# w

-- how often it measures row r as a centre, whose distance is kept: an inner node its centres but the first, a position none
abbrev pub centres_by : List ℕ → IndexItem → ℕ → ℕ
centres_by w (node k b u) r = measures_at w (child# w k) r
centres_by w (place p b) r = 0

-- it can be taken: with it gone len entries wait, and there is room for all that it stands for
pub record CanTake (a : NearestAsked) (how work : List ℕ) (len held : ℕ) (i : IndexItem) : Type 0 where
  pub ready : Ready a.table a.columns (circles# a.index) a.query (gone a) (rows_in a) a.wanted how work held
  pub room : FrontierRoom a.index work (rows_in a) len (weight a.index i)
  pub sound : amiss a.index (away a) work i ≡ 0

-- it is taken: what it measures is measured, and what it opens, all under bounds of 32 bits, waits with the others, but for what lies beyond the last
-- distance by then
pub record Taken (w : List ℕ) (x : ℕ → ℕ) (gone : ℕ → Bool) (wanted : ℕ) (how how' work work' : List ℕ) (len len' held held' : ℕ)
    (i : IndexItem) : Type 0 where
  pub grew : Grew x gone (n# w) wanted how how' work work' held held' (measured_by w i)
  pub seen : (r : ℕ) → r < n# w → 0 < centres_by w i r → kept work' (n# w) r ≡ x r
  pub queue : Queue work' 0 len'
  pub small : total (λ (j : IndexItem). bound_of j - greatest_word) (opened_by w x i) ≡ 0
  pub queued : SameBag (items w x work' len') (at_most bound_of (last_of work' (answers_at (n# w)) wanted held') (opened_by w x i) ++ items w x work len)

-- ---- the whole search
-- how often rows that remain are still to be measured under an item
abbrev pub still : List ℕ → (ℕ → Bool) → IndexItem → ℕ
still w gone i = sum_to (left_of gone (waits_of w i)) (n# w)

-- Between two rounds. No more are held or wait than positions hold a row that remains; where fewer are held than are wanted, nothing was left out:
-- all of these are held or wait. The last promise is for lent rows that are, where it counts, those of a table that the index fits.
pub record SearchState (a : NearestAsked) (how work : List ℕ) (len held : ℕ) : Type 0 where
  pub ready : Ready a.table a.columns (circles# a.index) a.query (gone a) (rows_in a) a.wanted how work held
  pub queue : Queue work 0 len
  pub sound : total (amiss a.index (away a) work) (items a.index (away a) work len) ≡ 0
  pub room : total (weight a.index) (items a.index (away a) work len) ≤ rows_in a
  pub most : held + total (still a.index (gone a)) (items a.index (away a) work len) ≤ positions_left a
  pub short : held < a.wanted → positions_left a ≤ held + total (still a.index (gone a)) (items a.index (away a) work len)
  pub run : (x' : ℕ → ℕ) → IndexFits a.index (gone a) a.wanted (away a) x'
      → BestHeld (away a) (met_of (gone a) how) (rows_in a) work (answers_at (rows_in a)) a.wanted held
      × RunSoFar a.index (gone a) a.wanted (away a) (items a.index (away a) work len) (at how)

-- Before it begins: the index is tested, and not empty, and no row is marked.
pub record SearchStart (a : NearestAsked) (how work : List ℕ) : Type 0 where
  pub tested : Tested a.index a.table a.columns
  pub query : length a.query ≡ a.columns
  pub stands : Stands (away a) (gone a) (rows_in a) a.wanted how work 0
  pub filled : 1 ≤ rows_in a
  pub blank : (r : ℕ) → r < rows_in a → at how r ≡ 0

-- At its end, on every index in shape: as many are held as are wanted, or as positions hold a row that remains.
pub record SearchEnd (a : NearestAsked) (how how' work work' : List ℕ) (held : ℕ) : Type 0 where
  pub stands : Stands (away a) (gone a) (rows_in a) a.wanted how' work' held
  pub full : held ≡ min a.wanted (positions_left a)
  pub since : Since (rows_in a) how how' work work'
  pub ran : (x' : ℕ → ℕ) → IndexFits a.index (gone a) a.wanted (away a) x'
      → BestHeld (away a) (met_of (gone a) how') (rows_in a) work' (answers_at (rows_in a)) a.wanted held
      × RunToEnd a.index (gone a) a.wanted (away a) (at how')
