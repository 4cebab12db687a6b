-- A tree with several rows more, made in one pass. A working notion, on which no promise rests. Over the distance d between rows. Assumes nothing.
use Rattle.std.specs.Prelude.{◌-◌, suc, zero, ℕ, eqb, leb, drop, length, take, cond}
use Rattle.appending.specs.Append.{lowest_at, orderly, reach_with, twice}
use Rattle.laws.specs.Lists.{head, keep, rest}
use Rattle.limits.specs.Limits.{max_depth}
use Rattle.tree.specs.Build.{choose, closest, reach}
use Rattle.tree.specs.Grove.{Grove, Reach, bare, entries, first, firsts, fork, leaf}
use mathlib.Core.List.{List, [], ◌++◌, ◌∷◌, foldr, map}

-- how far a node of k rows reaches that takes rows at these distances from its first, one after the other
abbrev pub reach_taking : ℕ → Reach → List ℕ → Reach
reach_taking k R [] = R
reach_taking k R (v ∷ vs) = reach_taking (suc k) (reach_with k R v) vs

module _ (d : ℕ → ℕ → ℕ) where
  -- the leaf of a run that reaches R, before the nodes g
  abbrev pub flat : Reach → List ℕ → Grove → Grove
  flat R run g = leaf R (map (λ i. (i, d (head run) i)) run) g

  -- which of the centres is the closest to row z
  abbrev pub towards : Grove → ℕ → ℕ
  towards ks z = lowest_at (map (λ f. d f z) (firsts ks))

module _ (d : ℕ → ℕ → ℕ) (m l : ℕ) where
  -- the children's runs of a run that has grown row by row: it was split when it had l + 1 rows, so that its centres are among these; every other
  -- row is in the group of its closest centre, those that came later behind
  unfoldable pub parts : List ℕ → List (List ℕ)
  parts run =
      let early = orderly (take (suc l) run) in
      let p = choose d (m - 1) (head early ∷ []) (rest early) in
      map (λ a. a ∷ keep (λ i. eqb (closest d p.0 i) a) (p.1 ++ drop (suc l) run)) p.0

  -- the node of a run that has grown row by row, with at most `deep` levels below it, before the nodes g; R is its own reach
  unfoldable pub swell : ℕ → Reach → List ℕ → Grove → Grove
  swell zero R run g = flat d R run g
  swell (suc deep) R run g =
      let branch = fork R (foldr (λ q h. swell deep (reach d q) q h) bare (parts run)) g in
      cond (leb (length run) l) (flat d R run g) branch

  -- the leaf that takes the rows zs, before the nodes g; one in which a row stands twice is not split
  unfoldable pub lodges : ℕ → Reach → List (ℕ × ℕ) → List ℕ → Grove → Grove
  lodges deep R es [] g = leaf R es g
  lodges deep R es (z ∷ zs) g =
      let run : List ℕ = map (λ e. e.0) es ++ z ∷ zs in
      let own : Reach = reach_taking (length es) R (map (d (head run)) (z ∷ zs)) in
      let splits : Grove = swell deep own run g in
      cond (twice run) (flat d own run g) splits

  -- nodes side by side from the place k on: each takes those rows z of zs for which `place z` is its own
  unfoldable pub swollen : ℕ → (ℕ → ℕ) → ℕ → List ℕ → Grove → Grove
  swollen deep place k zs bare = bare
  swollen deep place k zs (leaf R es g) = lodges deep R es (keep (λ z. eqb (place z) k) zs) (swollen deep place (suc k) zs g)
  swollen zero place k zs (fork R ks g) = fork R ks (swollen zero place (suc k) zs g)
  swollen (suc deep) place k zs (fork R ks g) =
      let here : List ℕ = keep (λ z. eqb (place z) k) zs in
      let own : Reach = reach_taking (length (entries ks)) R (map (d (first ks)) here) in
      fork own (swollen deep (towards d ks) 0 here ks) (swollen (suc deep) place (suc k) zs g)

  -- the whole tree: every row is the root's
  abbrev pub swollen_tree : List ℕ → Grove → Grove
  swollen_tree zs t = swollen max_depth (λ z. 0) 0 zs t
