-- The listing of a node. Assumes nothing.
use Rattle.std.specs.Prelude.{◌*◌, ◌+◌, ◌<◌, ◌≤◌, ℕ, ltb, drop, length, take, Bool, ◌&&◌, cond, false, List, [], ◌≡◌, Option, Some, None}
use Rattle.listing.specs.declared.Part.{Part}
use Rattle.words.specs.Shape.{shape_ok_lem}
use Rattle.words.specs.Words.{nodes#, count#, header_ok_lem, pair_at, start#, words_of_lem, words_ok_lem}

-- the part of the index words with the pairs of node k's run
abbrev pub pairs : List ℕ → ℕ → List ℕ
pairs w k = take (2 * count# w k) (drop (pair_at w (start# w k)) w)

-- words, header and shape are right, and k is a node's number
unfoldable pub lists : List ℕ → ℕ → Bool
lists w k = words_ok_lem w && shape_ok_lem w && ltb k (nodes# w)

-- the part that is listed: a node's pairs, or nothing
unfoldable pub listed : List ℕ → ℕ → List ℕ
listed w k = cond (lists w k) (pairs w k) []

-- where a part starts, and how many words it has; 0 and 0 where there is none
abbrev pub start_of : Option Part → ℕ
start_of (Some p) = p.start
start_of None = 0

abbrev pub long_of : Option Part → ℕ
long_of (Some p) = p.length
long_of None = 0

-- the listing told as numbers, for every w and k: where in the index words the part starts, and how many words it has
pub record Lists (w : List ℕ) (k start long : ℕ) : Type 0 where
  -- the part is what is listed
  pub part : take long (drop start w) ≡ listed w k
  pub inside : start + long ≤ length w
  -- none of it is missing, and where nothing is listed both numbers are 0
  pub whole : long ≡ length (listed w k)
  pub starts : start ≡ cond (lists w k) (pair_at w (start# w k)) 0

-- the four cases in which nothing is listed. (Fewer than 8 words are fewer than any header asks for.)
pub data Unlisted (w : List ℕ) (k : ℕ) : Type 0 where
  missing : length w < words_of_lem w → Unlisted w k
  impossible : header_ok_lem w ≡ false → Unlisted w k
  wrong : shape_ok_lem w ≡ false → Unlisted w k
  beyond : nodes# w ≤ k → Unlisted w k
