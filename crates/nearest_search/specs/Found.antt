-- What a search asks of an index that is known to be in shape, and of what is lent for it; and what it promises. Assumes nothing.
use Rattle.std.specs.Prelude.{◌*◌, ◌<◌, ◌≤◌, min, ℕ, T, drop, length, replicate, take, Bool, false, List, ◌++◌, map, ◌↔◌, ◌≡◌}
use Rattle.frontier.specs.Workspace.{work_words}
use Rattle.index_space.specs.Fits.{IndexFits}
use Rattle.laws.specs.Lists.{has}
use Rattle.nearest_steps.specs.Asked.{NearestAsked, NearestLent, away, gone, positions_left, rows_in}
use Rattle.rows_listed.specs.Listed.{Listed}
use Rattle.tree.specs.Grove.{tree_of}
use Rattle.tree.specs.Nearest.{answers, measured, near_how, remaining}
use Rattle.tree.specs.Tested.{Tested}
use Rattle.words.specs.Words.{at, n#}

-- the index is tested, with its table; the query, the number wanted and what is lent fit it
pub record Searchable (a : NearestAsked) (b : NearestLent) : Type 0 where
  pub tested : Tested a.index a.table a.columns
  pub query : length a.query ≡ a.columns
  pub few : (a.wanted ≤ rows_in a) × (1 ≤ rows_in a → 1 ≤ a.wanted)
  pub rows : a.wanted ≤ length b.rows
  pub distances : a.wanted ≤ length b.distances
  pub bytes : rows_in a ≤ length b.how
  pub words : work_words (rows_in a) ≤ length b.work

-- the answers for rows at x, of those that are not withdrawn, with their how-bytes, before what stood beyond
pub record Settled (x : ℕ → ℕ) (gone : ℕ → Bool) (w : List ℕ) (wanted : ℕ) (b b' : NearestLent) (given : ℕ) : Type 0 where
  pub count : given ≡ min wanted (remaining gone (n# w))
  pub rows : b'.rows ≡ map (λ a. a.0) (answers x gone (n# w) wanted) ++ drop given b.rows
  pub distances : b'.distances ≡ map (λ a. a.1) (answers x gone (n# w) wanted) ++ drop given b.distances
  pub bytes : b'.how ≡ near_how x gone (n# w) (tree_of w) wanted ++ drop (n# w) b.how

-- the answers on every index in shape, whether or not it fits a table: the lent rows are n, at x, and `left` positions hold one that remains
pub record SoundAnswers (x : ℕ → ℕ) (gone : ℕ → Bool) (n left wanted : ℕ) (b' : NearestLent) (given : ℕ) : Type 0 where
  -- as many are given as are wanted, or as positions hold a row that remains
  pub count : given ≡ min wanted left
  -- each is a row, with its distance
  pub own : (j : ℕ) → j < given → (at b'.rows j < n) × (at b'.distances j ≡ x (at b'.rows j))
  -- none is withdrawn
  pub remain : (j : ℕ) → j < given → gone (at b'.rows j) ≡ false
  -- the nearer comes first, of equals the lower row
  pub order : (i j : ℕ) → i < j → j < given
      → (at b'.distances i ≤ at b'.distances j) × (at b'.distances i ≡ at b'.distances j → at b'.rows i ≤ at b'.rows j)
  -- a how-byte is 3 exactly where its row is an answer, and else 0 or 1
  pub marks : (i : ℕ) → i < n → ((at b'.how i ≡ 3) ↔ T (has i (take given b'.rows))) × ((at b'.how i ≡ 3 → ⊥) → at b'.how i ≤ 1)

-- what such a search leaves but for the workspace, and gives: how many answers there are, and how many rows it measured
pub record FoundAnswers (a : NearestAsked) (b b' : NearestLent) (given met : ℕ) : Type 0 where
  -- what lies beyond stays
  pub beyond : (drop given b'.rows ≡ drop given b.rows) × (drop given b'.distances ≡ drop given b.distances)
      × (drop (rows_in a) b'.how ≡ drop (rows_in a) b.how)
  pub bytes : length b'.how ≡ length b.how
  pub sound : SoundAnswers (away a) (gone a) (rows_in a) (positions_left a) a.wanted b' given
  -- the rows measured are those of the how-bytes 1 and 3
  pub counted : met ≡ measured (take (rows_in a) b'.how)
  -- for rows that the index fits, with which the lent ones agree where it counts, the answers and how-bytes are those of the definition
  pub found : (x' : ℕ → ℕ) → IndexFits a.index (gone a) a.wanted (away a) x' → Settled x' (gone a) a.index a.wanted b b' given

-- and the workspace is cleared
pub record FoundNearest (a : NearestAsked) (b b' : NearestLent) (given met : ℕ) : Type 0 where
  pub gave : FoundAnswers a b b' given met
  pub cleared : b'.work ≡ replicate (6 * rows_in a) 0 ++ drop (6 * rows_in a) b.work

-- or it is left as the search used it, and the rows measured are listed there: these alone are marked
pub record FoundListed (a : NearestAsked) (b b' : NearestLent) (given met : ℕ) : Type 0 where
  pub gave : FoundAnswers a b b' given met
  pub listed : Listed (rows_in a) b'.how b'.work met
  pub words : length b'.work ≡ length b.work
  pub past : drop (6 * rows_in a) b'.work ≡ drop (6 * rows_in a) b.work
