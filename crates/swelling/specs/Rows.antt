-- Several rows more in the tree, one after the other: 02, R-2. This is the definition; that they can be put in at once (Swell) is proved, so that a
-- reader believes no second rule. Assumes nothing.
use Rattle.std.specs.Prelude.{◌*◌, ◌+◌, ◌-◌, max, suc, zero, ℕ, eqb, take, cond, List, [], ◌∷◌}
use Rattle.appending.specs.Append.{appended, join}
use Rattle.laws.specs.Lists.{range}
use Rattle.limits.specs.Limits.{max_depth}
use Rattle.measure.specs.Table.{between, rows_of}
use Rattle.tree.specs.Build.{plant}
use Rattle.tree.specs.Encode.{encode}
use Rattle.tree.specs.Grove.{Grove, tree_of}
use Rattle.words.specs.Words.{circles#, l#, m#, n#}

-- the tree with the rows zs in it, one joined after the other; over the distance d between rows
unfoldable pub joins : (ℕ → ℕ → ℕ) → ℕ → ℕ → List ℕ → Grove → Grove
joins d m l [] t = t
joins d m l (z ∷ zs) t = joins d m l zs (join d m l z max_depth 0 t)

-- the words, in edition 2, of the edition 2 index w with all of the table's rows in it that it has not: on an empty index the first row's tree is
-- that of the build
unfoldable pub appended_rows : List ℕ → ℕ → List ℕ → List ℕ
appended_rows T c w =
    let had : ℕ = max (n# w) 1 in
    let old : Grove = cond (eqb (n# w) 0) (plant (between T c (circles# w)) (m# w) (l# w) 1) (tree_of w) in
    encode 2 c (circles# w) (m# w) (l# w) (joins (between T c (circles# w)) (m# w) (l# w) (range had (rows_of T c - had)) old)

-- the table's first k rows
abbrev pub first_rows_lem : List ℕ → ℕ → ℕ → List ℕ
first_rows_lem T c k = take (c * k) T

-- the words after k appends, one after the other, each with the table's rows as far as the one that it puts in
unfoldable pub in_turn : List ℕ → ℕ → ℕ → List ℕ → List ℕ
in_turn T c zero w = w
in_turn T c (suc k) w = in_turn T c k (appended (first_rows_lem T c (n# w + 1)) c w)
