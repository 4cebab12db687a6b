-- The nodes of all levels are the numbering of 01: what the code makes is `numbered` of the tree that is grown anew. Assumes nothing.
use Prim.Native.Nat.{◌+◌, ◌≤◌, suc, zero, ℕ}
use Rattle.appending.specs.Append.{keep_own}
use Rattle.growing.proofs.Items.{placed_long}
use Rattle.filling.proofs.Numbering.{forest, forest-singles, inner-long, single}
use Rattle.growing.proofs.Waiting.{able_run}
use Rattle.growing.specs.Levels.{Able, Item, placed}
use Rattle.laws.proofs.Every.{every_append}
use Rattle.laws.proofs.Lists.{map-append, tally_length}
use Rattle.laws.proofs.Ranges.{range_length}
use Rattle.laws.specs.Every.{Every}
use Rattle.laws.specs.Lists.{head, range}
use Rattle.levels.proofs.Singles.{numbered-items, singles-length}
use Rattle.levels.specs.Singles.{Single, kids_of, level_of, levels_of, lower, singles, words_at}
use Rattle.limits.specs.Limits.{max_depth}
use Rattle.regrow.proofs.Rows.{kids-some}
use Rattle.regrow.specs.Pieces.{Fitting, Follow, Job, Piece, Sound, all_nodes, fresh, fresh_of, kept, level_out_lem, next_level, parts, pending, piece, with_kids}
use Rattle.tree.proofs.Grow.{grown-tally, split-length, split_runs}
use Rattle.tree.specs.Build.{Run, grow, leaf_of, reach, split}
use Rattle.tree.specs.Encode.{Node, numbered}
use Rattle.tree.specs.Grove.{Grove, Reach, bare, entries, fork, leaf, rows_in}
use borrow.Author.Tests.{eqb-false, eqb-true, leb-false}
use lib.Dec.{eqb, leb}
use lib.ListN.{length, length-append, length-map}
use mathlib.Core.Bool.{Bool, cond, false, true}
use mathlib.Core.List.{List, [], ◌++◌, ◌∷◌, foldr, map}
use mathlib.Core.Path.{◌∙◌, ◌≡◌, ap, ap₂, refl, sym}
use native.Mathlib.Omega.{arith}

-- a node's members don't depend on how far it reaches
pub keep-entries : (R : Reach) (g : Grove) → entries (keep_own R g) ≡ entries g
keep-entries R bare = refl
keep-entries R (leaf S es g) = refl
keep-entries R (fork S ks g) = refl

-- a run of no more rows than the limit is a leaf at any depth
pub small_grown : (d : ℕ → ℕ → ℕ) (m l deep : ℕ) (r : List ℕ) (g : Grove) → leb (length r) l ≡ true → grow d m l deep r g ≡ leaf_of d r g
unfolding grow
small_grown d m l zero r g e = refl
small_grown d m l (suc deep) r g e =
    ap (λ (b : Bool). cond b (leaf_of d r g) (fork (reach d r) (foldr (grow d m l deep) bare (split d m r)) g)) e

-- of the runs that are split, each reaches as far as its own rows
own-keep : (d : ℕ → ℕ → ℕ) (m l deep : ℕ) (r : List ℕ) (g : Grove) → keep_own (reach d r) (grow d m l deep r g) ≡ grow d m l deep r g
unfolding grow
own-keep d m l zero r g = refl
own-keep d m l (suc deep) r g = go (leb (length r) l)
  where
    go : (b : Bool) → keep_own (reach d r) (cond b (leaf_of d r g) (fork (reach d r) (foldr (grow d m l deep) bare (split d m r)) g))
        ≡ cond b (leaf_of d r g) (fork (reach d r) (foldr (grow d m l deep) bare (split d m r)) g)
    go true = refl
    go false = refl

module _ (j : Job) (es : ℕ → List (ℕ × ℕ)) where
  -- a piece's node with at most `deep` levels below it, before the nodes g
  unfoldable pub grown : ℕ → Piece → Grove → Grove
  grown zero (kept o) g = leaf (j.copy o).3 (es o) g
  grown zero (fresh s R r) g = keep_own R (grow j.d j.m j.limit 0 r g)
  grown (suc deep) (kept o) g =
      let branch : Grove = fork (j.copy o).3 (foldr (λ q h. grown deep q h) bare (map (piece j) (range (j.copy o).2 j.m))) g in
      cond (eqb (j.copy o).2 0) (leaf (j.copy o).3 (es o) g) branch
  grown (suc deep) (fresh s R r) g = keep_own R (grow j.d j.m j.limit (suc deep) r g)

  -- nodes side by side
  abbrev pub grove : ℕ → List Piece → Grove
  grove deep qs = foldr (λ q h. grown deep q h) bare qs

  module _ (many : ℕ) (m1 : 1 ≤ j.m) (ml : j.m ≤ j.limit) where
    -- a piece that fits
    abbrev Fits : ℕ → Piece → Type 0
    Fits deep q = Fitting j es many deep q

    -- its node by itself
    abbrev one : ℕ → Piece → Single
    one deep q = ((pending j q).0, grown deep q bare)

    -- ---- how many members
    -- a run's node has its rows
    grow-long : (deep : ℕ) (r : List ℕ) (g : Grove) → Able j.limit r
        → length (entries (grow j.d j.m j.limit deep r g)) ≡ length r + length (entries g)
    grow-long deep r g h = go (leb (length r) j.limit) refl
      where
        go : (b : Bool) → leb (length r) j.limit ≡ b → length (entries (grow j.d j.m j.limit deep r g)) ≡ length r + length (entries g)
        go true e =
            let pair : ℕ → ℕ × ℕ = λ i. (i, j.d (head r) i) in
            ap (λ (x : Grove). length (entries x)) (small_grown j.d j.m j.limit deep r g e)
            ∙ length-append (map pair r) (entries g) ∙ ap (λ (k : ℕ). k + length (entries g)) (length-map r pair)
        go false e =
            let t : Grove = grow j.d j.m j.limit deep r g in
            omega (
              arith,
              length-map (entries t) (λ e. e.0),
              tally_length (rows_in t),
              grown-tally j.d j.m j.limit m1 ml deep (λ i. true) r g (able_run j.limit r h e),
              tally_length r,
              tally_length (rows_in g),
              length-map (entries g) (λ e. e.0),
            )

    -- nodes side by side have the rows of each, where each has its own
    grove-long : (deep : ℕ) → ((q : Piece) (g : Grove) → Fits deep q → length (entries (grown deep q g)) ≡ (pending j q).1 + length (entries g))
        → (s e : ℕ) (qs : List Piece) → Follow j s qs e → Every (Fits deep) qs → s + length (entries (grove deep qs)) ≡ e
    grove-long deep ih s e [] f h = omega (arith, f)
    grove-long deep ih s e (q ∷ qs) f h =
        omega (arith, ih q (grove deep qs) h.0, grove-long deep ih (s + (pending j q).1) e qs f.1 h.1)

    -- a piece's node has as many as it counts
    grown-long : (deep : ℕ) (q : Piece) (g : Grove) → Fits deep q → length (entries (grown deep q g)) ≡ (pending j q).1 + length (entries g)
    unfolding grown Fitting
    grown-long zero (kept o) g h = omega (arith, length-append (es o) (entries g), h.2)
    grown-long zero (fresh s R r) g h = ap length (keep-entries R (grow j.d j.m j.limit 0 r g)) ∙ grow-long 0 r g h
    grown-long (suc deep) (fresh s R r) g h =
        ap length (keep-entries R (grow j.d j.m j.limit (suc deep) r g)) ∙ grow-long (suc deep) r g h
    grown-long (suc deep) (kept o) g h = go (eqb (j.copy o).2 0) refl (λ q k f. grown-long deep q k f)
      where
        go : (b : Bool) → eqb (j.copy o).2 0 ≡ b
            → ((q : Piece) (g : Grove) → Fits deep q → length (entries (grown deep q g)) ≡ (pending j q).1 + length (entries g))
            → length (entries (cond b (leaf (j.copy o).3 (es o) g)
            (fork (j.copy o).3 (grove deep (map (piece j) (range (j.copy o).2 j.m))) g)))
            ≡ (j.copy o).1 + length (entries g)
        go true e ih = omega (arith, length-append (es o) (entries g), (h.1 (eqb-true (j.copy o).2 0 e)).1)
        go false e ih =
            let k = h.2 (eqb-false (j.copy o).2 0 e) in
            let qs : List Piece = map (piece j) (range (j.copy o).2 j.m) in
            omega (
              arith,
              length-append (entries (grove deep qs)) (entries g),
              grove-long deep ih (j.copy o).0 ((j.copy o).0 + (j.copy o).1) qs k.1 k.2,
            )

    -- ---- nodes side by side, as single ones
    -- the first of them
    grown-single : (deep s : ℕ) (q : Piece) (g : Grove) → Fits deep q
        → singles s (grown deep q g) ≡ (s, grown deep q bare) ∷ singles (s + (pending j q).1) g
    unfolding singles grown grow Fitting
    grown-single zero s (kept o) g h = rw h.2 refl
    grown-single zero s (fresh a R r) g h = rw length-map refl
    grown-single (suc deep) s (kept o) g h = go (eqb (j.copy o).2 0) refl
      where
        go : (b : Bool) → eqb (j.copy o).2 0 ≡ b
            → singles s (cond b (leaf (j.copy o).3 (es o) g) (fork (j.copy o).3 (grove deep (map (piece j) (range (j.copy o).2 j.m))) g))
            ≡ (s, cond b (leaf (j.copy o).3 (es o) bare) (fork (j.copy o).3 (grove deep (map (piece j) (range (j.copy o).2 j.m))) bare))
            ∷ singles (s + (j.copy o).1) g
        go true e = rw (h.1 (eqb-true (j.copy o).2 0 e)).1 refl
        go false e =
            let k = h.2 (eqb-false (j.copy o).2 0 e) in
            let qs : List Piece = map (piece j) (range (j.copy o).2 j.m) in
            let f = grove-long deep (λ q g f. grown-long deep q g f) (j.copy o).0 ((j.copy o).0 + (j.copy o).1) qs k.1 k.2 in
            let n : length (entries (grove deep qs)) ≡ (j.copy o).1 = omega arith in
            rw n refl
    grown-single (suc deep) s (fresh a R r) g h = go (leb (length r) j.limit) refl
      where
        go : (b : Bool) → leb (length r) j.limit ≡ b
            → singles s (keep_own R (cond b (leaf_of j.d r g)
            (fork (reach j.d r) (forest j.d j.m j.limit m1 ml deep (split j.d j.m r)) g)))
            ≡ (
              s,
              keep_own R (cond b (leaf_of j.d r bare)
                  (fork (reach j.d r) (forest j.d j.m j.limit m1 ml deep (split j.d j.m r)) bare)),
            )
            ∷ singles (s + length r) g
        go true e = rw length-map refl
        go false e = rw (inner-long j.d j.m j.limit m1 ml deep r (able_run j.limit r h e) e) refl

    -- all of them
    grove-singles : (deep s e : ℕ) (qs : List Piece) → Follow j s qs e → Every (Fits deep) qs → singles s (grove deep qs) ≡ map (one deep) qs
    unfolding singles
    grove-singles deep s e [] f h = refl
    grove-singles deep s e (q ∷ qs) f h =
        grown-single deep s q (grove deep qs) h.0
        ∙ ap₂ (λ (i : ℕ) (x : List Single). (i, grown deep q bare) ∷ x) (sym f.0) (grove-singles deep (s + (pending j q).1) e qs f.1 h.1)

    -- those of runs
    fresh-singles : (deep : ℕ) (qs : List Item) → map (single j.d j.m j.limit m1 ml deep) qs ≡ map (one deep) (map (fresh_of j.d) qs)
    unfolding grown
    fresh-singles deep [] = refl
    fresh-singles deep (q ∷ qs) =
        ap₂ (λ (a : Grove) (x : List Single). (q.0, a) ∷ x) (sym (same deep)) (fresh-singles deep qs)
      where
        same : (deep : ℕ) → grown deep (fresh_of j.d q) bare ≡ grow j.d j.m j.limit deep q.1 bare
        same zero = own-keep j.d j.m j.limit 0 q.1 bare
        same (suc deep) = own-keep j.d j.m j.limit (suc deep) q.1 bare

    -- ---- the level below
    -- the children of a piece's node are its parts
    piece-kids : (deep : ℕ) (q : Piece) → Fits (suc deep) q → kids_of (pending j q).0 (grown (suc deep) q bare) ≡ map (one deep) (parts j q)
    unfolding grown grow Fitting
    piece-kids deep (kept o) h = go (eqb (j.copy o).2 0) refl
      where
        go : (b : Bool) → eqb (j.copy o).2 0 ≡ b
            → kids_of (j.copy o).0 (cond b (leaf (j.copy o).3 (es o) bare)
            (fork (j.copy o).3 (grove deep (map (piece j) (range (j.copy o).2 j.m))) bare))
            ≡ map (one deep) (cond b [] (map (piece j) (range (j.copy o).2 j.m)))
        go true e = refl
        go false e =
            let k = h.2 (eqb-false (j.copy o).2 0 e) in
            grove-singles deep (j.copy o).0 ((j.copy o).0 + (j.copy o).1) (map (piece j) (range (j.copy o).2 j.m)) k.1 k.2
    piece-kids deep (fresh s R r) h = go (leb (length r) j.limit) refl
      where
        go : (b : Bool) → leb (length r) j.limit ≡ b
            → kids_of s (keep_own R (cond b (leaf_of j.d r bare)
            (fork (reach j.d r) (forest j.d j.m j.limit m1 ml deep (split j.d j.m r)) bare)))
            ≡ map (one deep) (cond b [] (map (fresh_of j.d) (placed s (split j.d j.m r))))
        go true e = refl
        go false e =
            forest-singles j.d j.m j.limit m1 ml deep s (split j.d j.m r)
            (split_runs j.d j.m j.limit m1 ml r (able_run j.limit r h e) (omega (arith, leb-false (length r) j.limit e)))
            ∙ fresh-singles deep (placed s (split j.d j.m r))

    -- they fit
    fresh-fits : (deep s : ℕ) (rs : List (List ℕ)) → Every Run rs → Every (Fits deep) (map (fresh_of j.d) (placed s rs))
    unfolding Fitting
    fresh-fits deep s [] h = tt
    fresh-fits deep s (r ∷ rs) h = (fits deep, fresh-fits deep (s + length r) rs h.1)
      where
        able : Able j.limit r
        able = (h.0.0, λ k. h.0.1)

        fits : (k : ℕ) → Fits k (fresh s (reach j.d r) r)
        fits zero = able
        fits (suc k) = able

    piece-fits : (deep : ℕ) (q : Piece) → Fits (suc deep) q → Every (Fits deep) (parts j q)
    unfolding Fitting
    piece-fits deep (kept o) h = go (eqb (j.copy o).2 0) refl
      where
        go : (b : Bool) → eqb (j.copy o).2 0 ≡ b → Every (Fits deep) (cond b [] (map (piece j) (range (j.copy o).2 j.m)))
        go true e = tt
        go false e = (h.2 (eqb-false (j.copy o).2 0 e)).2
    piece-fits deep (fresh s R r) h = go (leb (length r) j.limit) refl
      where
        go : (b : Bool) → leb (length r) j.limit ≡ b → Every (Fits deep) (cond b [] (map (fresh_of j.d) (placed s (split j.d j.m r))))
        go true e = tt
        go false e =
            fresh-fits deep s (split j.d j.m r)
            (split_runs j.d j.m j.limit m1 ml r (able_run j.limit r h e) (omega (arith, leb-false (length r) j.limit e)))

    -- so for a level
    lower-singles : (deep : ℕ) (qs : List Piece) → Every (Fits (suc deep)) qs → lower (map (one (suc deep)) qs) ≡ map (one deep) (next_level j qs)
    lower-singles deep [] h = refl
    lower-singles deep (q ∷ qs) h =
        ap₂ (λ (a b : List Single). a ++ b) (piece-kids deep q h.0) (lower-singles deep qs h.1)
        ∙ sym (map-append (one deep) (parts j q) (next_level j qs))

    pub next_fits : (deep : ℕ) (qs : List Piece) → Every (Fits (suc deep)) qs → Every (Fits deep) (next_level j qs)
    next_fits deep [] h = tt
    next_fits deep (q ∷ qs) h = every_append (Fits deep) (parts j q) (next_level j qs) (piece-fits deep q h.0) (next_fits deep qs h.1)

    -- ---- a node's words
    -- while a level is below it
    piece-words : (deep next : ℕ) (q : Piece) → Fits (suc deep) q
        → words_at next (pending j q).0 (grown (suc deep) q bare) ≡ with_kids next (pending j q) (parts j q)
    unfolding grown grow Fitting
    piece-words deep next (kept o) h = go (eqb (j.copy o).2 0) refl
      where
        go : (b : Bool) → eqb (j.copy o).2 0 ≡ b
            → words_at next (j.copy o).0 (cond b (leaf (j.copy o).3 (es o) bare)
            (fork (j.copy o).3 (grove deep (map (piece j) (range (j.copy o).2 j.m))) bare))
            ≡ with_kids next (j.copy o) (cond b [] (map (piece j) (range (j.copy o).2 j.m)))
        go true e =
            let z : (j.copy o).2 ≡ 0 = eqb-true (j.copy o).2 0 e in
            ap₂ (λ (a b : ℕ). ((j.copy o).0, a, b, (j.copy o).3)) (h.1 z).1 (sym z)
        go false e =
            let k = h.2 (eqb-false (j.copy o).2 0 e) in
            let qs : List Piece = map (piece j) (range (j.copy o).2 j.m) in
            let f = grove-long deep (λ q g f. grown-long deep q g f) (j.copy o).0 ((j.copy o).0 + (j.copy o).1) qs k.1 k.2 in
            let n : length (entries (grove deep qs)) ≡ (j.copy o).1 = omega arith in
            let some : 1 ≤ length qs = omega (arith, length-map (range (j.copy o).2 j.m) (piece j), range_length (j.copy o).2 j.m) in
            ap (λ (a : ℕ). ((j.copy o).0, a, next, (j.copy o).3)) n ∙ sym (kids-some next (j.copy o) qs some)
    piece-words deep next (fresh s R r) h = go (leb (length r) j.limit) refl
      where
        go : (b : Bool) → leb (length r) j.limit ≡ b
            → words_at next s (keep_own R (cond b (leaf_of j.d r bare)
            (fork (reach j.d r) (forest j.d j.m j.limit m1 ml deep (split j.d j.m r)) bare)))
            ≡ with_kids next (s, length r, 0, R) (cond b [] (map (fresh_of j.d) (placed s (split j.d j.m r))))
        go true e = rw length-map refl
        go false e =
            let qs : List Piece = map (fresh_of j.d) (placed s (split j.d j.m r)) in
            let some : 1 ≤ length qs =
            omega (
              arith,
              length-map (placed s (split j.d j.m r)) (fresh_of j.d),
              placed_long s (split j.d j.m r),
              split-length j.d j.m j.limit m1 ml r,
            ) in
            ap (λ (a : ℕ). (s, a, next, R)) (inner-long j.d j.m j.limit m1 ml deep r (able_run j.limit r h e) e)
            ∙ sym (kids-some next (s, length r, 0, R) qs some)

    -- where no level is left
    last-words : (next : ℕ) (q : Piece) → Fits zero q
        → (words_at next (pending j q).0 (grown zero q bare) ≡ pending j q) × (kids_of (pending j q).0 (grown zero q bare) ≡ [])
    unfolding grown grow Fitting
    last-words next (kept o) h = (ap₂ (λ (a b : ℕ). ((j.copy o).0, a, b, (j.copy o).3)) h.2 (sym h.0), refl)
    last-words next (fresh s R r) h = (rw length-map refl, refl)

    -- ---- a level's nodes
    out-singles : (deep next : ℕ) (qs : List Piece) → Every (Fits (suc deep)) qs → level_of next (map (one (suc deep)) qs) ≡ level_out_lem j next qs
    unfolding level_of level_out_lem
    out-singles deep next [] h = refl
    out-singles deep next (q ∷ qs) h =
        let k : length (kids_of (pending j q).0 (grown (suc deep) q bare)) ≡ length (parts j q) =
        ap length (piece-kids deep q h.0) ∙ length-map (parts j q) (one deep) in
        ap₂ (λ (x : Node) (i : ℕ). x ∷ level_of (next + i) (map (one (suc deep)) qs)) (piece-words deep next q h.0) k
        ∙ ap (λ (x : List Node). with_kids next (pending j q) (parts j q) ∷ x) (out-singles deep (next + length (parts j q)) qs h.1)

    out-leaves : (next : ℕ) (qs : List Piece) → Every (Fits zero) qs → level_of next (map (one zero) qs) ≡ map (pending j) qs
    unfolding level_of
    out-leaves next [] h = refl
    out-leaves next (q ∷ qs) h =
        let e = last-words next q h.0 in
        ap₂ (λ (x : Node) (k : List Single). x ∷ level_of (next + length k) (map (one zero) qs)) e.0 e.1
        ∙ ap (λ (x : List Node). pending j q ∷ x) (out-leaves (next + 0) qs h.1)

    -- ---- all levels
    levels-singles : (deep next : ℕ) (qs : List Piece) → Every (Fits deep) qs → levels_of deep next (map (one deep) qs) ≡ all_nodes j deep next qs
    unfolding levels_of all_nodes
    levels-singles zero next qs h = out-leaves next qs h
    levels-singles (suc deep) next qs h =
        let b = lower-singles deep qs h in
        ap₂ (λ (x y : List Node). x ++ y) (out-singles deep next qs h)
        (ap (λ (x : List Single). levels_of deep (next + length x) x) b
        ∙ ap (λ (k : ℕ). levels_of deep (next + k) (map (one deep) (next_level j qs))) (length-map (next_level j qs) (one deep))
        ∙ levels-singles deep (next + length (next_level j qs)) (next_level j qs) (next_fits deep qs h))

    -- THE NODES OF THE TREE THAT IS GROWN ANEW, level by level
    pub numbered-pieces : Fitting j es many max_depth (piece j 0) → (pending j (piece j 0)).0 ≡ 0
        → numbered (grown max_depth (piece j 0) bare) ≡ all_nodes j max_depth 1 (piece j 0 ∷ [])
    unfolding singles
    numbered-pieces h z =
        let t : Grove = grown max_depth (piece j 0) bare in
        let alone : singles 0 t ≡ one max_depth (piece j 0) ∷ [] =
        grown-single max_depth 0 (piece j 0) bare h ∙ ap (λ (i : ℕ). (i, t) ∷ []) (sym z) in
        numbered-items t
        ∙ ap₂ (λ (k : ℕ) (x : List Single). levels_of max_depth k x) (sym (singles-length 0 t) ∙ ap length alone) alone
        ∙ levels-singles max_depth 1 (piece j 0 ∷ []) (h, tt)

    -- ---- what fits can stay
    pub fits-sound : (deep : ℕ) (q : Piece) → Fits deep q → Sound j many deep q
    unfolding Fitting Sound
    fits-sound zero (kept o) h = h.0
    fits-sound zero (fresh s R r) h = tt
    fits-sound (suc deep) (fresh s R r) h = tt
    fits-sound (suc deep) (kept o) h =
        (λ e. (h.1 e).0, λ n. ((h.2 n).0, all (λ q f. fits-sound deep q f) (map (piece j) (range (j.copy o).2 j.m)) (h.2 n).2))
      where
        all : ((q : Piece) → Fits deep q → Sound j many deep q) → (qs : List Piece) → Every (Fits deep) qs → Every (λ q. Sound j many deep q) qs
        all ih [] h = tt
        all ih (q ∷ qs) h = (ih q h.0, all ih qs h.1)
