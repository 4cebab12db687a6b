-- The cases of 01, The five-row table, as one table: those marked P, and ours where P would let a wrong reading pass. Assumes nothing.
use Rattle.std.specs.Prelude.{ℕ, eqb, set, take, Bool, ◌&&◌, true, List, [], ◌++◌, ◌∷◌, map}
use Rattle.audit_refusals.specs.Numbers.{said_check}
use Rattle.build_refusals.specs.Numbers.{said_build}
use Rattle.blocks.specs.Blocks.{check_from, check_word, rotate, step, window}
use Rattle.laws.specs.Upto.{sum_to}
use Rattle.limits.specs.Said.{number_faults}
use Rattle.measure.specs.Distance.{l1}
use Rattle.measure.specs.Table.{between, off_circle_lem}
use Rattle.nearest_refusals.specs.Numbers.{said_nearest}
use Rattle.radius_refusals.specs.Numbers.{said_radius}
use Rattle.tree.specs.Cases.{Case, checked, five, five_words, found, grown, near, nearest, old, old_words, order, radius, right, round, seam, sought, swept}
use Rattle.tree.specs.Cases.{withdrawn, without, words}
use Rattle.tree.specs.Check.{again, faults, strays, wrong_dist, wrong_inner, wrong_radius}
use Rattle.refusals.specs.Refused.{call_faults, circle_faults}
use Rattle.rowset.specs.Sets.{bit_of, set_bad_lem}
use Rattle.words.specs.Index.{fit_faults}
use Rattle.words.specs.Shape.{born, level, node_ok_lem, shape_ok_lem, tile}
use Rattle.words.specs.Words.{card_ok_lem, header_ok_lem, whole_ok, words_ok_lem}

-- the five-row index with a sixth node, a leaf of the first position that is nobody's child
abbrev pub orphan_words : List ℕ
orphan_words =
    2 ∷ 5 ∷ 1 ∷ 2 ∷ 2 ∷ 6 ∷ 1 ∷ 0
    ∷ 0 ∷ 5 ∷ 1 ∷ 20 ∷ 1
    ∷ 0 ∷ 3 ∷ 3 ∷ 10 ∷ 1
    ∷ 3 ∷ 2 ∷ 0 ∷ 9 ∷ 9
    ∷ 0 ∷ 2 ∷ 0 ∷ 1 ∷ 1
    ∷ 2 ∷ 1 ∷ 0 ∷ 0 ∷ 0
    ∷ 0 ∷ 1 ∷ 0 ∷ 0 ∷ 0
    ∷ 0 ∷ 0 ∷ 1 ∷ 1 ∷ 2 ∷ 0 ∷ 4 ∷ 0 ∷ 3 ∷ 9 ∷ []

-- a set of five rows of which none is withdrawn
abbrev pub zero : List ℕ
zero = 0 ∷ []

-- five rows of which the last does not stand on the circle
abbrev pub off : List ℕ
off = 0 ∷ 1 ∷ 10 ∷ 11 ∷ 3_600 ∷ []

-- the index of the five rows where their column is a circle: none is far enough for the way round to be the shorter
abbrev pub round_words : List ℕ
round_words = set five_words 7 1

-- an entry of the table. Every one has one column, m = 2 and l = 2
pub data Entry : Type 0 where
  -- the definitions give what the case says, and so does a full check of its words
  means : Case → Entry
  -- a block with this number, these words and zeros has this check word
  block : ℕ → List ℕ → ℕ → Entry
  -- the check of these words for the five-row table gives a number and two places
  check : List ℕ → ℕ → ℕ → ℕ → Entry
  -- for a table: the number of a build with c, circles, edition, m, l, room and workspace
  build_says : List ℕ → ℕ → ℕ → ℕ → ℕ → ℕ → ℕ → ℕ → ℕ → Entry
  -- of a check with these words and 30 words of workspace
  check_says : List ℕ → List ℕ → ℕ → Entry
  -- of a radius search with these words, query and withdrawn rows, by the how-bytes that it is lent
  radius_says : List ℕ → List ℕ → List ℕ → List ℕ → ℕ → ℕ → Entry
  -- and of a nearest search that wants so many, by what it is lent
  nearest_says : List ℕ → List ℕ → List ℕ → ℕ → List ℕ → ℕ → ℕ → ℕ → ℕ → Entry

-- what a check of these words for this table gives
unfoldable pub checks : List ℕ → List ℕ → ℕ → ℕ → ℕ → Bool
checks T w k p p' = let s = said_check T 1 w 30 in eqb s.0 k && eqb s.1 p && eqb s.2 p'

-- the full check says so of a case's words
unfoldable pub said : Case → Bool
said (words T w) = checks T w 0 0 0
said (order T is N) = true
said (radius T q r how i k) = true
said (nearest T q w as' k) = true
said (near T q w how) = true
said (without T out q w as' how) = true
said (round T q r how w as') = true
said (old T v w) = checks T w 0 0 0
said (found w k p p') = checks five w k p p'

-- an entry comes out as it says
unfoldable pub holds : Entry → Bool
unfolding sum_to number_faults l1 between card_ok_lem header_ok_lem whole_ok words_ok_lem born level tile node_ok_lem shape_ok_lem fit_faults off_circle_lem circle_faults
    call_faults bit_of set_bad_lem again wrong_dist wrong_radius wrong_inner strays faults rotate step check_from check_word window
    said_build said_check said_radius said_nearest right checks said
holds (means k) = right k && said k
holds (block b ws s) = eqb (check_word b (window ws 0 127)) s
holds (check w k p p') = checks five w k p p'
holds (build_says T c o e m l room work k) = eqb (said_build T c o e m l room work).0 k
holds (check_says T w k) = eqb (said_check T 1 w 30).0 k
holds (radius_says T w q s how k) = eqb (said_radius T 1 w q s how).0 k
holds (nearest_says T w q wanted s room how work k) = eqb (said_nearest T 1 w q wanted s room how work).0 k

-- the cases that 01 marks P
abbrev pub marked : List Entry
marked =
    means (words five five_words)
    ∷ means (radius five 9 1 (1 ∷ 0 ∷ 3 ∷ 0 ∷ 1 ∷ []) 1 3)
    ∷ means (radius five 0 20 (3 ∷ 2 ∷ 2 ∷ 2 ∷ 2 ∷ []) 5 1)
    ∷ means (radius five 10 5 (1 ∷ 0 ∷ 3 ∷ 3 ∷ 1 ∷ []) 2 4)
    ∷ means (nearest five 9 1 ((2, 1) ∷ []) 3)
    ∷ means (nearest five 9 2 ((2, 1) ∷ (3, 2) ∷ []) 4)
    ∷ means (nearest five 5 2 ((1, 4) ∷ (0, 5) ∷ []) 4)
    ∷ means (nearest five 9 9 ((2, 1) ∷ (3, 2) ∷ (1, 8) ∷ (0, 9) ∷ (4, 11) ∷ []) 5)
    ∷ means (order (7 ∷ 7 ∷ 7 ∷ 7 ∷ []) (0 ∷ 3 ∷ 2 ∷ 1 ∷ []) 5)
    ∷ block 0 [] 2_147_483_648
    ∷ block 1 [] 1
    ∷ means (words [] (2 ∷ 0 ∷ 1 ∷ 2 ∷ 2 ∷ 0 ∷ 1 ∷ 0 ∷ []))
    ∷ block 0 (2 ∷ 0 ∷ 1 ∷ 2 ∷ 2 ∷ 0 ∷ 1 ∷ 0 ∷ []) 687_865_857
    ∷ []

-- ours: what pins the definitions (tree/specs/Cases), and the refusals of each call
abbrev pub ours : List Entry
ours =
    map means (grown ++ swept ++ sought ++ seam ++ withdrawn ++ checked)
    ++ (check (set five_words 0 3) 8 0 0
    ∷ check old_words 8 0 0
    ∷ check (set five_words 1 4) 8 0 0
    ∷ check (set five_words 5 4) 9 0 0
    ∷ check (set five_words 8 1) 9 0 0
    ∷ check (set five_words 10 0) 9 0 0
    ∷ check (set five_words 12 1_048_561) 9 0 0
    ∷ check (set five_words 14 2) 9 0 0
    ∷ check (set five_words 33 5) 9 0 0
    ∷ check orphan_words 9 0 0
    ∷ build_says five 17 0 2 2 1 0 0 1
    ∷ build_says five 1 0 2 2 1 0 0 2
    ∷ build_says five 1 0 3 2 2 99 30 2
    ∷ build_says five 1 0 1 2 2 99 30 2
    ∷ build_says five 1 0 0 2 2 99 30 2
    ∷ build_says five 2 0 2 2 2 0 0 3
    ∷ build_says five 1 0 2 2 2 67 30 5
    ∷ build_says five 1 0 2 2 2 68 29 5
    ∷ build_says five 1 0 2 2 2 68 30 0
    ∷ radius_says five five_words (9 ∷ []) zero 4 5
    ∷ radius_says five five_words [] zero 5 6
    ∷ radius_says five (take 42 five_words) (9 ∷ []) zero 5 8
    ∷ radius_says five old_words (9 ∷ []) zero 5 8
    ∷ radius_says five (set five_words 9 4) (9 ∷ []) zero 5 9
    ∷ radius_says five five_words (9 ∷ []) zero 5 0
    -- 02, R-5: 20 for too few words, for too many, and for the bit of row 5, after 9
    ∷ radius_says five five_words (9 ∷ []) [] 5 20
    ∷ radius_says five five_words (9 ∷ []) (0 ∷ 0 ∷ []) 5 20
    ∷ radius_says five five_words (9 ∷ []) (32 ∷ []) 5 20
    ∷ radius_says five (set five_words 9 4) (9 ∷ []) (32 ∷ []) 5 9
    ∷ nearest_says five five_words (9 ∷ []) 2 zero 1 5 30 5
    ∷ nearest_says five five_words [] 0 zero 0 5 30 6
    ∷ nearest_says five five_words (9 ∷ []) 0 zero 0 5 30 7
    ∷ nearest_says five five_words (9 ∷ []) 9 zero 5 5 30 0
    ∷ nearest_says five five_words (9 ∷ []) 9 (32 ∷ []) 5 5 30 20
    -- 02, R-1: bits at or above the columns; 3,600 in table or query, in a build after 5, else after 9 and before 10 and 20
    ∷ build_says five 1 2 2 2 2 68 30 2
    ∷ build_says off 1 1 2 2 2 68 29 5
    ∷ build_says off 1 1 2 2 2 68 30 19
    ∷ build_says off 1 0 2 2 2 68 30 0
    ∷ check_says five (set five_words 7 2) 8
    ∷ check_says off round_words 19
    ∷ check_says off (set round_words 35 0) 19
    ∷ check_says off (set round_words 8 1) 9
    ∷ check_says five (set round_words 35 0) 10
    ∷ radius_says five round_words (9 ∷ []) zero 5 0
    ∷ radius_says five round_words (3_600 ∷ []) zero 5 19
    ∷ radius_says off round_words (9 ∷ []) (32 ∷ []) 5 19
    ∷ nearest_says five round_words (3_600 ∷ []) 9 zero 5 5 30 19
    ∷ nearest_says off round_words (9 ∷ []) 9 zero 5 5 30 19
    ∷ [])
