-- One row more in the tree: 02, R-2. Over the distance d between rows; z is the new row. Assumes nothing.
use Rattle.std.specs.Prelude.{◌≤◌, max, min, suc, zero, ℕ, eqb, leb, ltb, length, Bool, ◌||◌, cond, false}
use Rattle.laws.specs.Every.{Every}
use Rattle.laws.specs.Lists.{all, has, head, rest}
use Rattle.limits.specs.Limits.{max_depth}
use Rattle.measure.specs.Table.{between}
use Rattle.tree.specs.Build.{build, grow}
use Rattle.tree.specs.Encode.{encode}
use Rattle.tree.specs.Grove.{Grove, Reach, bare, entries, first, firsts, fork, leaf, reaching, tree_of}
use Rattle.words.specs.Words.{circles#, l#, m#, n#}
use mathlib.Core.List.{List, [], ◌++◌, ◌∷◌, foldr, map}

-- the place of the first of the numbers that no other is below
unfoldable pub lowest_at : List ℕ → ℕ
lowest_at [] = 0
lowest_at (a ∷ xs) = cond (all (leb a) xs) 0 (suc (lowest_at xs))

-- one row more among ascending ones
abbrev pub enter : ℕ → List ℕ → List ℕ
enter i [] = i ∷ []
enter i (j ∷ js) = cond (ltb j i) (j ∷ enter i js) (i ∷ j ∷ js)

-- a run as the build has it: its first, and behind it the others ascending
abbrev pub orderly : List ℕ → List ℕ
orderly run = head run ∷ foldr enter [] (rest run)

-- no row is above one behind it
abbrev pub Ascends : List ℕ → Type 0
Ascends [] = Unit {0}
Ascends (x ∷ xs) = Every (λ y. x ≤ y) xs × Ascends xs

-- a row stands twice in the run
abbrev pub twice : List ℕ → Bool
twice [] = false
twice (i ∷ is) = has i is || twice is

-- how far a node of k rows reaches that takes a row at the distance v from its first: the radius grows where needed, the inner reach shrinks; in a
-- node of one row the new one is the nearest
abbrev pub reach_with : ℕ → Reach → ℕ → Reach
reach_with k R v = reaching (max R.outer v) (cond (eqb k 1) v (min R.inner v))

-- the first of nodes side by side with the reach R for its own
abbrev pub keep_own : Reach → Grove → Grove
keep_own R bare = bare
keep_own R (leaf S es g) = leaf R es g
keep_own R (fork S ks g) = fork R ks g

module _ (d : ℕ → ℕ → ℕ) (m l z : ℕ) where
  -- The leaf that takes the new row, before the nodes g: the row stands last. Where there are then more than l rows, a level is left below and
  -- no row stands twice, the leaf is split by the build's own rule, its rows put in order before. Its distances are measured; its reach is the
  -- old one with the new row.
  unfoldable pub lodge : ℕ → Reach → List (ℕ × ℕ) → Grove → Grove
  lodge deep R es g =
      let run : List ℕ = map (λ e. e.0) es ++ z ∷ [] in
      let own : Reach = reach_with (length es) R (d (head run) z) in
      let stays : Grove = leaf own (map (λ i. (i, d (head run) i)) run) g in
      let splits : Grove = keep_own own (grow d m l deep (orderly run) g) in
      cond (leb (length run) l || eqb deep 0 || twice run) stays splits

  -- of nodes side by side with `deep` levels below them, the one at the place `at` takes the new row: it goes on to the closest centre, ties to the
  -- earliest, and the reaches on the way take it in
  unfoldable pub join : ℕ → ℕ → Grove → Grove
  join deep at bare = bare
  join deep zero (leaf R es g) = lodge deep R es g
  join deep (suc at) (leaf R es g) = leaf R es (join deep at g)
  join zero zero (fork R ks g) = fork R ks g
  join (suc deep) zero (fork R ks g) =
      let own : Reach = reach_with (length (entries ks)) R (d (first ks) z) in
      fork own (join deep (lowest_at (map (λ f. d f z) (firsts ks))) ks) g
  join zero (suc at) (fork R ks g) = fork R ks (join zero at g)
  join (suc deep) (suc at) (fork R ks g) = fork R ks (join (suc deep) at g)

-- the words, in edition 2, of the edition 2 index w with the table's last row in it; on an empty table those of the build with its m, l and circles
unfoldable pub appended : List ℕ → ℕ → List ℕ → List ℕ
appended T c w =
    let t : Grove = join (between T c (circles# w)) (m# w) (l# w) (n# w) max_depth 0 (tree_of w) in
    cond (eqb (n# w) 0) (build T c (circles# w) 2 (m# w) (l# w)) (encode 2 c (circles# w) (m# w) (l# w) t)
