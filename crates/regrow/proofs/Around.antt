-- The old nodes' words when rows have come to the end of node v's run: each run holds node v's or stands apart from it, so that runs follow each
-- other as before. Assumes nothing.
use Prim.Native.Nat.{◌+◌, ◌-◌, ◌<◌, ◌≤◌, suc, zero, ℕ}
use Rattle.copies.specs.Copies.{copied}
use Rattle.moved_runs.specs.Runs.{end#, new_child, new_count, new_start}
use Rattle.growing.specs.Levels.{Able, Item}
use Rattle.laws.proofs.Every.{every_map}
use Rattle.laws.proofs.Ranges.{every-range, range-every, range_length}
use Rattle.laws.proofs.Tests.{holds}
use Rattle.laws.specs.Every.{Every}
use Rattle.laws.specs.Lists.{range}
use Rattle.leafward.specs.Changed.{Holds}
use Rattle.limits.specs.Limits.{max_depth}
use Rattle.regrow.proofs.Dues.{both-none}
use Rattle.regrow.proofs.Found.{child-same, dues, dues-down, j, kids, leaf_few, own-piece, stays-kept}
use Rattle.regrow.proofs.Rows.{piece-node}
use Rattle.moved_runs.specs.Runs as runs
use Rattle.regrow.specs.Pieces as pieces
use Rattle.regrow.specs.Pieces.{Fitting, Follow, due, pending, piece}
use Rattle.regrow.specs.Stages.{Own}
use Rattle.tree.specs.Encode.{Node}
use Rattle.tree.specs.Grove.{members#}
use Rattle.words.proofs.Levels.{born-inner, born-le, inner-is, level-le}
use Rattle.words.proofs.Nodes.{node_at}
use Rattle.words.proofs.Tiles.{tile-head, tile-none, tile-part, tile-tail}
use Rattle.words.specs.InShape.{InShape, Left}
use Rattle.words.specs.Shape.{born, inner, level, tile, tree_fits_lem}
use Rattle.words.specs.Words.{nodes#, child#, count#, dist#, l#, m#, row#, run#, start#}
use borrow.Author.Tests.{eq-eqb, eqb-false, eqb-true, le-leb, lt-leb, ne_eqb, not-false}
use lib.Dec.{T, eqb, leb}
use lib.ListN.{length, length-map}
use mathlib.Core.Bool.{Bool, ◌&&◌, cond, false, true}
use mathlib.Core.List.{List, [], ◌++◌, ◌∷◌, append-nil, cons≢nil, map}
use mathlib.Core.Logic.{◌⊎◌, inl, inr}
use mathlib.Core.Path.{◌∙◌, ◌≡◌, ap, ap₂, refl, subst, sym}
use native.Mathlib.Omega.{arith}

module _ (t w : List ℕ) (v added limit : ℕ) (run : List ℕ) (fits : T (tree_fits_lem w)) (there : v < nodes# w) (S : InShape w)
    (long : length run ≡ count# w v + added) (good : Able limit run) (leafy : l# w ≤ limit) where
  -- the work at hand
  abbrev pub J : pieces.Job
  J = j t w v added limit run fits there

  -- what is due of some nodes
  abbrev pub D : ℕ → List ℕ → List (ℕ × Item)
  D deep ks = dues t w v added limit run fits there deep ks

  -- the children of a node
  abbrev pub K : ℕ → List ℕ
  K k = kids t w v added limit run fits there k

  -- node v's run is not empty
  pub some : start# w v < end# w v
  some = omega (arith, (S.node v there).some)

  -- ---- a run that holds node v's, and one that stands apart from it
  abbrev pub Apart : ℕ → Type 0
  Apart k = (end# w k ≤ start# w v) ⊎ (end# w v ≤ start# w k)

  -- where position p stands then
  moved : ℕ → ℕ
  moved p = cond (leb (end# w v) p) (p + added) p

  moved-start : (k : ℕ) → (J.copy k).0 ≡ moved (start# w k)
  unfolding moved copied new_start
  moved-start k = refl

  -- the count of a run that holds node v's
  count-holds : (k : ℕ) → Holds w v k → (J.copy k).1 ≡ count# w k + added
  unfolding copied new_count runs.holds
  count-holds k h = rw (le-leb (start# w k) (start# w v) h.0, le-leb (end# w v) (end# w k) h.1) refl

  -- and of one that stands apart
  count-apart : (k : ℕ) → 1 ≤ count# w k → Apart k → (J.copy k).1 ≡ count# w k
  unfolding copied new_count runs.holds
  count-apart k c (inl h) = go (leb (start# w k) (start# w v)) (lt-leb (end# w v) (end# w k) (omega (arith, some)))
    where
      go : (b : Bool) → leb (end# w v) (end# w k) ≡ false → cond (b && leb (end# w v) (end# w k)) (count# w k + added) (count# w k) ≡ count# w k
      go true e = rw e refl
      go false e = refl
  count-apart k c (inr h) = rw (lt-leb (start# w k) (start# w v) (omega (arith, some))) refl

  -- a run that does either ends where its end has moved
  moved-end : (k : ℕ) → 1 ≤ count# w k → Holds w v k ⊎ Apart k → (J.copy k).0 + (J.copy k).1 ≡ moved (end# w k)
  unfolding moved
  moved-end k c (inl h) =
      let s : moved (start# w k) ≡ start# w k = rw (lt-leb (end# w v) (start# w k) (omega (arith, some))) refl in
      let e : moved (end# w k) ≡ end# w k + added = rw (le-leb (end# w v) (end# w k) h.1) refl in
      omega (arith, moved-start k, s, e, count-holds k h)
  moved-end k c (inr (inl h)) =
      let s : moved (start# w k) ≡ start# w k = rw (lt-leb (end# w v) (start# w k) (omega (arith, some))) refl in
      let e : moved (end# w k) ≡ end# w k = rw (lt-leb (end# w v) (end# w k) (omega (arith, some))) refl in
      omega (arith, moved-start k, s, e, count-apart k c (inl h))
  moved-end k c (inr (inr h)) =
      let s : moved (start# w k) ≡ start# w k + added = rw (le-leb (end# w v) (start# w k) h) refl in
      let e : moved (end# w k) ≡ end# w k + added = rw (le-leb (end# w v) (end# w k) (omega arith)) refl in
      omega (arith, moved-start k, s, e, count-apart k c (inr h))

  -- node v's words while it waits are those of its run
  pub own-words : Own J
  unfolding copied new_child
  own-words =
      let c : (J.copy v).1 ≡ length run = count-holds v (omega arith, omega arith) ∙ sym long in
      let x : (J.copy v).2 ≡ 0 = rw (eq-eqb v v refl) refl in
      ap₂ (λ (a b : ℕ). ((J.copy v).0, a, b, (J.copy v).3)) c x

  -- ---- what is due below a node says where its run stands
  module _ (x : ℕ × Item) where
    -- node k has it below it, or not
    abbrev Near : ℕ → ℕ → Type 0
    Near deep k = ((due J deep (piece J k) ≡ x ∷ []) × Holds w v k) ⊎ ((due J deep (piece J k) ≡ []) × Apart k)

    -- some of the nodes from a on has it
    pub record Which (deep a n : ℕ) : Type 0 where
      pub i : ℕ
      pub below : i < n
      pub is : due J deep (piece J (a + i)) ≡ x ∷ []

    pub which : (deep a n : ℕ) → D deep (range a n) ≡ x ∷ [] → Which deep a n
    which deep a zero e = absurd (cons≢nil (sym e))
    which deep a (suc n) e = go (due J deep (piece J a)) refl (λ h. which deep (suc a) n h)
      where
        go : (ds : List (ℕ × Item)) → due J deep (piece J a) ≡ ds
            → (D deep (range (suc a) n) ≡ x ∷ [] → Which deep (suc a) n) → Which deep a (suc n)
        go [] d ih =
            let r = ih (sym (ap (λ (y : List (ℕ × Item)). y ++ D deep (range (suc a) n)) d) ∙ e) in
            let z : suc a + r.i ≡ a + suc r.i = omega arith in
            record { i = suc r.i; below = omega (arith, r.below); is = ap (λ (o : ℕ). due J deep (piece J o)) (sym z) ∙ r.is }
        go (y ∷ ys) d ih =
            let rs : List (ℕ × Item) = D deep (range (suc a) n) in
            let h : y ∷ (ys ++ rs) ≡ x ∷ [] = sym (ap (λ (y : List (ℕ × Item)). y ++ rs) d) ∙ e in
            let first : y ≡ x = cc in
            let none : ys ++ rs ≡ [] = cc in
            let z : a + 0 ≡ a = omega arith in
            record {
              i = 0;
              below = omega arith;
              is = ap (λ (o : ℕ). due J deep (piece J o)) z ∙ d ∙ ap₂ (λ (p : ℕ × Item) (q : List (ℕ × Item)). p ∷ q) first (both-none ys rs none).0;
            }

    -- an inner node other than v
    pub kept-due : (deep k : ℕ) → (k ≡ v → ⊥) → due J (suc deep) (piece J k) ≡ D deep (K k)
    kept-due deep k h =
        sym (append-nil (due J (suc deep) (piece J k))) ∙ dues-down t w v added limit run fits there deep (k ∷ []) (h, tt)
        ∙ ap (D deep) (append-nil (K k))

    -- with no level below
    pub kept-last : (k : ℕ) → (k ≡ v → ⊥) → due J 0 (piece J k) ≡ []
    unfolding due
    kept-last k h = ap (due J 0) (stays-kept t w v added limit run fits there k h)

    -- an inner node's children
    pub inner-kids : (k : ℕ) → (child# w k ≡ 0 → ⊥) → K k ≡ range (child# w k) (m# w)
    inner-kids k h = ap (λ (b : Bool). cond b [] (range (child# w k) (m# w))) (ne_eqb (child# w k) 0 h)

    -- where it is below a node, the node's run holds node v's
    pub due-holds : (deep k : ℕ) → k < nodes# w → due J deep (piece J k) ≡ x ∷ [] → Holds w v k
    due-holds zero k h e = go (eqb k v) refl
      where
        go : (b : Bool) → eqb k v ≡ b → Holds w v k
        go true q =
            let z : k ≡ v = eqb-true k v q in
            rw z (omega arith, omega arith)
        go false q = absurd (cons≢nil (sym e ∙ kept-last k (eqb-false k v q)))
    due-holds (suc deep) k h e = go (eqb k v) refl (λ i n d. due-holds deep i n d)
      where
        go : (b : Bool) → eqb k v ≡ b → ((i : ℕ) → i < nodes# w → due J deep (piece J i) ≡ x ∷ [] → Holds w v i) → Holds w v k
        go true q ih =
            let z : k ≡ v = eqb-true k v q in
            rw z (omega arith, omega arith)
        go false q ih = leaf (eqb (child# w k) 0) refl
          where
            down : D deep (K k) ≡ x ∷ []
            down = sym (kept-due deep k (eqb-false k v q)) ∙ e

            leaf : (b : Bool) → eqb (child# w k) 0 ≡ b → Holds w v k
            leaf true z = absurd (cons≢nil (sym (sym (ap (λ (b : Bool). D deep (cond b [] (range (child# w k) (m# w)))) z) ∙ down)))
            leaf false z =
                let n : child# w k ≡ 0 → ⊥ = eqb-false (child# w k) 0 z in
                let r = which deep (child# w k) (m# w) (sym (ap (D deep) (inner-kids k n)) ∙ down) in
                let kid = (S.node k h).kids (inner-is w k n) in
                let p = kid.part r.i r.below in
                let o = ih (child# w k + r.i) (omega (arith, kid.inside, r.below)) r.is in
                (omega (arith, p.0, o.0), omega (arith, p.1, o.1))

    -- ---- nodes whose runs tile a part
    -- behind node v's run all stand apart
    near-behind : (deep i n s e : ℕ) → T (tile w i n s e) → end# w v ≤ s → D deep (range i n) ≡ [] → Every (Near deep) (range i n)
    near-behind deep i zero s e f h d = tt
    near-behind deep i (suc n) s e f h d =
        let first : start# w i ≡ s = tile-head w i n s e f in
        let b = both-none (due J deep (piece J i)) (D deep (range (suc i) n)) d in (
          inr (b.0, inr (omega arith)),
          near-behind deep (suc i) n (s + count# w i) e (tile-tail w i n s e f) (omega arith) b.1,
        )

    -- of nodes of which one has it below it, that one holds node v's run, and the others stand apart
    near-tile : (deep i n s e : ℕ) → i + n ≤ nodes# w → T (tile w i n s e) → D deep (range i n) ≡ x ∷ [] → Every (Near deep) (range i n)
    near-tile deep i zero s e m f d = tt
    near-tile deep i (suc n) s e m f d =
        go (due J deep (piece J i)) refl
        (λ h. near-tile deep (suc i) n (s + count# w i) e (omega arith) (tile-tail w i n s e f) h)
      where
        first : start# w i ≡ s
        first = tile-head w i n s e f

        later : T (tile w (suc i) n (s + count# w i) e)
        later = tile-tail w i n s e f

        go : (ds : List (ℕ × Item)) → due J deep (piece J i) ≡ ds → (D deep (range (suc i) n) ≡ x ∷ [] → Every (Near deep) (range (suc i) n))
            → Near deep i × Every (Near deep) (range (suc i) n)
        go [] q ih =
            let h : D deep (range (suc i) n) ≡ x ∷ [] = sym (ap (λ (y : List (ℕ × Item)). y ++ D deep (range (suc i) n)) q) ∙ d in
            let r = which deep (suc i) n h in
            let p = tile-part w (suc i) n (s + count# w i) e r.i r.below later in
            let o = due-holds deep (suc i + r.i) (omega (arith, r.below)) r.is in
            (inr (q, inl (omega (arith, first, p.0, o.0))), ih h)
        go (y ∷ ys) q ih =
            let rs : List (ℕ × Item) = D deep (range (suc i) n) in
            let h : y ∷ (ys ++ rs) ≡ x ∷ [] = sym (ap (λ (y : List (ℕ × Item)). y ++ rs) q) ∙ d in
            let front : y ≡ x = cc in
            let none : ys ++ rs ≡ [] = cc in
            let b = both-none ys rs none in
            let is : due J deep (piece J i) ≡ x ∷ [] = q ∙ ap₂ (λ (p : ℕ × Item) (q : List (ℕ × Item)). p ∷ q) front b.0 in
            let o = due-holds deep i (omega arith) is in
            (inl (is, o), near-behind deep (suc i) n (s + count# w i) e later (omega (arith, first, o.1)) b.1)

    -- the runs of such nodes follow each other then
    near-follow : (deep i n s e : ℕ) → i + n ≤ nodes# w → T (tile w i n s e) → Every (Near deep) (range i n)
        → Follow J (moved s) (map (piece J) (range i n)) (moved e)
    near-follow deep i zero s e m f h = ap moved (tile-none w i s e f)
    near-follow deep i (suc n) s e m f h =
        let first : start# w i ≡ s = tile-head w i n s e f in
        let words : pending J (piece J i) ≡ J.copy i = piece-node J own-words i in
        let at : (pending J (piece J i)).0 ≡ moved s = ap (λ (y : Node). y.0) words ∙ moved-start i ∙ ap moved first in
        let to : moved s + (pending J (piece J i)).1 ≡ moved (s + count# w i) =
        ap₂ ◌+◌ (sym (ap moved first) ∙ sym (moved-start i)) (ap (λ (y : Node). y.1) words)
        ∙ moved-end i (S.node i (omega arith)).some (side h.0) ∙ ap (λ (y : ℕ). moved (y + count# w i)) first in (
          at,
          subst (λ (y : ℕ). Follow J y (map (piece J) (range (suc i) n)) (moved e)) (sym to)
              (near-follow deep (suc i) n (s + count# w i) e (omega arith) (tile-tail w i n s e f) h.1),
        )
      where
        side : Near deep i → Holds w v i ⊎ Apart i
        side (inl a) = inl a.1
        side (inr a) = inr a.1

    -- ---- a node of the old index that stays
    -- a leaf has the members that it counts
    members_long : (k : ℕ) → length (members# w k) ≡ count# w k
    members_long k = length-map (run# w k) (λ p. (row# w p, dist# w p)) ∙ range_length (start# w k) (count# w k)

    -- node v's piece is its run
    anew : (deep k : ℕ) → k ≡ v → Fitting J (members# w) (nodes# w) deep (piece J k)
    unfolding Fitting
    anew zero k e = subst (Fitting J (members# w) (nodes# w) 0) (sym (ap (piece J) e ∙ own-piece t w v added limit run fits there)) good
    anew (suc deep) k e = subst (Fitting J (members# w) (nodes# w) (suc deep)) (sym (ap (piece J) e ∙ own-piece t w v added limit run fits there)) good

    -- a leaf where no level is left
    last_fits : (k : ℕ) → (k ≡ v → ⊥) → (J.copy k).2 ≡ 0 → 1 ≤ count# w k → (J.copy k).1 ≡ count# w k
        → Fitting J (members# w) (nodes# w) 0 (piece J k)
    unfolding Fitting
    last_fits k n z c e =
        subst (Fitting J (members# w) (nodes# w) 0) (sym (stays-kept t w v added limit run fits there k n)) (z, omega arith, members_long k ∙ sym e)

    -- nodes of which nothing is due and that stand apart
    near_none : (deep i n : ℕ) → D deep (range i n) ≡ [] → ((q : ℕ) → q < n → Apart (i + q)) → Every (Near deep) (range i n)
    near_none deep i zero d f = tt
    near_none deep i (suc n) d f =
        let b = both-none (due J deep (piece J i)) (D deep (range (suc i) n)) d in
        let z : i + 0 ≡ i = omega arith in (
          inr (b.0, subst Apart z (f 0 (omega arith))),
          near_none deep (suc i) n b.1
              (λ q h.
              let y : i + suc q ≡ suc i + q = omega arith in
              subst Apart y (f (suc q) (omega arith))),
        )

    -- where nothing is due of a leaf, it stands apart
    leaf_apart : (deep k : ℕ) → (k ≡ v → ⊥) → child# w k ≡ 0 → Near (suc deep) k → Apart k
    leaf_apart deep k n z (inl a) =
        absurd (cons≢nil (sym a.0 ∙ kept-due deep k n ∙ ap (λ (c : ℕ). D deep (cond (eqb c 0) [] (range c (m# w)))) z))
    leaf_apart deep k n z (inr a) = a.1

    -- an inner node's children hold node v's run or stand apart
    kids-near : (deep k : ℕ) → k < nodes# w → (k ≡ v → ⊥) → (child# w k ≡ 0 → ⊥) → Near (suc deep) k → Every (Near deep) (range (child# w k) (m# w))
    kids-near deep k h n c (inl a) =
        let kid = (S.node k h).kids (inner-is w k c) in
        near-tile deep (child# w k) (m# w) (start# w k) (end# w k) kid.inside kid.tiled
        (sym (kept-due deep k n ∙ ap (D deep) (inner-kids k c)) ∙ a.0)
    kids-near deep k h n c (inr a) =
        let kid = (S.node k h).kids (inner-is w k c) in
        near_none deep (child# w k) (m# w) (sym (kept-due deep k n ∙ ap (D deep) (inner-kids k c)) ∙ a.0)
        (λ q f. apart (child# w k + q) a.1 (kid.part q f))
      where
        apart : (o : ℕ) → Apart k → (start# w k ≤ start# w o) × (end# w o ≤ end# w k) → Apart o
        apart o (inl b) p = inl (omega (arith, p.1))
        apart o (inr b) p = inr (omega (arith, p.0))

    -- its count is not 0
    count-some : (deep k : ℕ) → 1 ≤ count# w k → Near deep k → 1 ≤ (J.copy k).1
    count-some deep k c (inl a) = omega (arith, count-holds k a.1)
    count-some deep k c (inr a) = omega (arith, count-apart k c a.1)

    -- it ends where its end has moved
    near-end : (deep k : ℕ) → 1 ≤ count# w k → Near deep k → (J.copy k).0 + (J.copy k).1 ≡ moved (end# w k)
    near-end deep k c (inl a) = moved-end k c (inl a.1)
    near-end deep k c (inr a) = moved-end k c (inr a.1)

    -- a node other than v
    stays : (deep k : ℕ) → k < nodes# w → Left w (suc deep) k → k < level w (suc max_depth - suc deep) → Near (suc deep) k → (k ≡ v → ⊥)
        → ((o : ℕ) → o < nodes# w → Left w deep o → o < level w (suc max_depth - deep) → Near deep o → Fitting J (members# w) (nodes# w) deep (piece J o))
        → Fitting J (members# w) (nodes# w) (suc deep) (piece J k)
    unfolding Fitting level
    stays deep k h l u near n ih =
        let same : (J.copy k).2 ≡ child# w k = child-same t w v added limit run fits there k n in
        let c : 1 ≤ count# w k = (S.node k h).some in
        subst (Fitting J (members# w) (nodes# w) (suc deep)) (sym (stays-kept t w v added limit run fits there k n)) (
          count-some (suc deep) k c near,
          λ z.
              let e : (J.copy k).1 ≡ count# w k = count-apart k c (leaf_apart deep k n (sym same ∙ z) near) in
              let up : level w (suc max_depth - suc deep) ≤ level w max_depth = level-le w (suc max_depth - suc deep) max_depth (omega arith) in
              (omega (arith, e, leafy, leaf_few w fits k h (omega (arith, up)) (sym same ∙ z)), members_long k ∙ sym e),
          λ y.
              let x : child# w k ≡ 0 → ⊥ = λ z. y (same ∙ z) in
              let i : inner w k ≡ true = inner-is w k x in
              let kid = (S.node k h).kids i in
              let nears = kids-near deep k h n x near in
              let first : child# w k ≡ born w k = (node_at w fits k h).next i in
              let p : ℕ = suc max_depth - suc deep in
              let up : born w (suc k) ≤ born w (level w p) = born-le w (suc k) (level w p) (omega arith) in
              let deeper = kid.deeper (suc deep) l in
              let next : suc max_depth - deep ≡ suc p = omega (arith, l.0) in
              let lower : suc deep - 1 ≡ deep = omega arith in
              let f : Follow J (moved (start# w k)) (map (piece J) (range (child# w k) (m# w))) (moved (end# w k)) =
              near-follow deep (child# w k) (m# w) (start# w k) (end# w k) kid.inside kid.tiled nears in (
                omega (arith, same, kid.inside),
                subst (λ (o : ℕ). Follow J (J.copy k).0 (map (piece J) (range o (m# w))) ((J.copy k).0 + (J.copy k).1)) (sym same)
                    (subst (λ (e : ℕ). Follow J (J.copy k).0 (map (piece J) (range (child# w k) (m# w))) e) (sym (near-end (suc deep) k c near))
                    (subst (λ (a : ℕ). Follow J a (map (piece J) (range (child# w k) (m# w))) (moved (end# w k))) (sym (moved-start k)) f)),
                subst (λ (o : ℕ). Every (λ q. Fitting J (members# w) (nodes# w) deep q) (map (piece J) (range o (m# w)))) (sym same)
                    (every_map (λ q. Fitting J (members# w) (nodes# w) deep q) (piece J) (range (child# w k) (m# w))
                    (range-every (λ o. Fitting J (members# w) (nodes# w) deep (piece J o)) (child# w k) (m# w)
                    (λ q r.
                    ih (child# w k + q) (omega (arith, kid.inside)) (subst (λ (a : ℕ). Left w a (child# w k + q)) lower (kid.down (suc deep) q l))
                    (subst (λ (a : ℕ). child# w k + q < level w a) (sym next) (omega (arith, first, up, born-inner w k i)))
                    (every-range (Near deep) (child# w k) (m# w) q nears r)))),
              ),
        )

    -- node k, with at most `deep` levels below it, fits
    fit : (deep k : ℕ) → k < nodes# w → Left w deep k → k < level w (suc max_depth - deep) → Near deep k
        → Fitting J (members# w) (nodes# w) deep (piece J k)
    fit zero k h l u near = go (eqb k v) refl
      where
        apart : (k ≡ v → ⊥) → Near 0 k → Apart k
        apart n (inl a) = absurd (cons≢nil (sym a.0 ∙ kept-last k n))
        apart n (inr a) = a.1

        go : (b : Bool) → eqb k v ≡ b → Fitting J (members# w) (nodes# w) 0 (piece J k)
        go true e = anew 0 k (eqb-true k v e)
        go false e =
            let n : k ≡ v → ⊥ = eqb-false k v e in
            let z : child# w k ≡ 0 = eqb-true (child# w k) 0 (not-false (eqb (child# w k) 0) ((S.node k h).bottom l)) in
            last_fits k n (child-same t w v added limit run fits there k n ∙ z) (S.node k h).some (count-apart k (S.node k h).some (apart n near))
    fit (suc deep) k h l u near = go (eqb k v) refl (λ o a b c f. fit deep o a b c f)
      where
        go : (b : Bool) → eqb k v ≡ b
            → ((o : ℕ) → o < nodes# w → Left w deep o → o < level w (suc max_depth - deep) → Near deep o → Fitting J (members# w) (nodes# w) deep (piece J o))
            → Fitting J (members# w) (nodes# w) (suc deep) (piece J k)
        go true e ih = anew (suc deep) k (eqb-true k v e)
        go false e ih = stays deep k h l u near (eqb-false k v e) ih

  -- ---- THE OLD INDEX IN SHAPE FITS
  pub root-fits : (x : ℕ × Item) → due J max_depth (piece J 0) ≡ x ∷ [] → Fitting J (members# w) (nodes# w) max_depth (piece J 0)
  unfolding level born
  root-fits x e =
      fit x max_depth 0 (omega (arith, there)) (omega arith, omega arith) (omega arith)
      (inl (e, due-holds x max_depth 0 (omega (arith, there)) e))

  -- the root starts at 0
  pub root-start : start# w 0 ≡ 0 → (pending J (piece J 0)).0 ≡ 0
  unfolding moved
  root-start z =
      ap (λ (y : Node). y.0) (piece-node J own-words 0) ∙ moved-start 0
      ∙ ap (λ (p : ℕ). cond (leb (end# w v) p) (p + added) p) z ∙ rw (lt-leb (end# w v) 0 (omega (arith, some))) refl

  -- node v's run stands where it stood
  pub own-start : (J.copy v).0 ≡ start# w v
  unfolding moved
  own-start = moved-start v ∙ rw (lt-leb (end# w v) (start# w v) some) refl

  -- the root has all rows
  pub root-count : (x : ℕ × Item) → due J max_depth (piece J 0) ≡ x ∷ [] → (pending J (piece J 0)).1 ≡ count# w 0 + added
  root-count x e =
      ap (λ (y : Node). y.1) (piece-node J own-words 0) ∙ count-holds 0 (due-holds x max_depth 0 (omega (arith, there)) e)
