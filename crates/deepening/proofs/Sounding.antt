-- What a piece is opened into can be opened in turn, has its rows, and starts where it starts. Assumes nothing.
use Prim.Native.Nat.{◌+◌, ◌-◌, ◌<◌, ◌≤◌, suc, zero, ℕ}
use Rattle.appending.proofs.Lowest.{once_each}
use Rattle.appending.specs.Append.{Ascends, twice}
use Rattle.dealing.proofs.Children.{dealt_sizes}
use Rattle.dealing.proofs.Kids.{new_keep}
use Rattle.dealing.proofs.Settling.{piece-size, piece-start}
use Rattle.dealing.specs.Pending.{size_of, sizes}
use Rattle.deepening.specs.Tiles.{Follow}
use Rattle.growing.proofs.Tiles.{every_joined}
use Rattle.laws.proofs.Every.{every_append, every-keep, every_map, every_of}
use Rattle.laws.proofs.Lists.{paired, tally_length}
use Rattle.laws.proofs.Ranges.{range-every}
use Rattle.laws.proofs.Times.{every_same}
use Rattle.laws.specs.Every.{Every}
use Rattle.laws.specs.Lists.{head, joined, keep, rest}
use Rattle.limits.specs.Limits.{max_depth}
use Rattle.lodging.specs.Standing.{New}
use Rattle.measure.specs.Table.{between}
use Rattle.opening.proofs.Late.{above_late, ascends_late, parts-ascend}
use Rattle.opening.proofs.Paths.{kids_many, parts_many}
use Rattle.opening.specs.Sound.{Late, Sound, Task, waits}
use Rattle.regrow.proofs.Found.{leaf_few}
use Rattle.swelling.proofs.Counted.{members_long}
use Rattle.swelling.proofs.Parting.{parts-runs, parts-tally}
use Rattle.swelling.specs.Pieces.{Piece, grown, grown_from, kid_for, kids_from, leaf_piece, old, opens, piece_of, settled, start_of}
use Rattle.swelling.specs.Swell.{parts, reach_taking}
use Rattle.tree.specs.Build.{Run}
use Rattle.tree.specs.Grove.{Reach, members#, reach#}
use Rattle.words.proofs.Levels.{born-inner, born-le, level-le}
use Rattle.words.proofs.Nodes.{node_at}
use Rattle.words.specs.InShape.{Left}
use Rattle.words.specs.Shape.{born, inner, level}
use Rattle.words.specs.Words.{nodes#, c#, child#, circles#, count#, dist#, l#, m#, n#, row#, run#, start#}
use borrow.Author.Tests.{eqb-true, leb-false, leb-true, not-false}
use lib.Dec.{T, eqb, leb}
use lib.ListN.{length, length-append, length-map}
use mathlib.Core.Bool.{Bool, cond, false, not, true}
use mathlib.Core.List.{List, [], ◌++◌, ◌∷◌, map}
use mathlib.Core.Path.{◌∙◌, ◌≡◌, ap, refl, subst, sym}
use native.Mathlib.Nat.{add-zero}
use native.Mathlib.Omega.{arith}

-- runs side by side have the rows of all
grown-sizes : (w : List ℕ) (d : ℕ → ℕ → ℕ) (s : ℕ) (gs : List (List ℕ)) → sizes w (grown_from d s gs) ≡ length (joined gs)
grown-sizes w d s [] = refl
grown-sizes w d s (q ∷ gs) = omega (arith, grown-sizes w d (s + length q) gs, length-append q (joined gs))

-- they follow each other
grown_follow : (w : List ℕ) (d : ℕ → ℕ → ℕ) (s : ℕ) (gs : List (List ℕ)) → Follow w s (grown_from d s gs)
grown_follow w d s [] = tt
grown_follow w d s (q ∷ gs) = (refl, grown_follow w d (s + length q) gs)

module _ {t w : List ℕ} {n : ℕ} (task : Task t w n) where
  -- how far two rows are apart
  abbrev d : ℕ → ℕ → ℕ
  d = between t (c# w) (circles# w)

  -- ---- a leaf stays as it is on any level
  pub leaf_sound : (a b : ℕ) (q : Piece) → waits w q ≡ false → Sound t w n a q → Sound t w n b q
  leaf_sound a b (old s o zs) e h = absurd (subst T e tt)
  leaf_sound a b (settled s R es) e h = h
  leaf_sound a b (grown s R run) e h =
      let few : length run ≤ l# w = leb-true (length run) (l# w) (not-false (leb (length run) (l# w)) e) in
      (h.0, h.1, λ u v. absurd (omega arith))

  -- none is empty
  pub sound-some : (deep : ℕ) (q : Piece) → Sound t w n deep q → 1 ≤ size_of w q
  sound-some deep (old s o zs) h = omega (arith, (task.shape.node o h.0).some)
  sound-some deep (grown s R run) h = h.0.0
  sound-some deep (settled s R es) h = h

  -- ---- old nodes
  -- a leaf's rows
  abbrev own : ℕ → List ℕ
  own o = map (λ e. e.0) (members# w o)

  own_long : (o : ℕ) → length (own o) ≡ count# w o
  own_long o =
      length-map (members# w o) (λ e. e.0) ∙ members_long d w task.shape o

  -- are the index's
  own_low : (o : ℕ) → o < nodes# w → Every (λ x. x < n# w) (own o)
  own_low o h =
      subst (Every (λ x. x < n# w)) (sym (paired (row# w) (dist# w) (run# w o)))
      (every_map (λ x. x < n# w) (row# w) (run# w o)
      (range-every (λ p. row# w p < n# w) (start# w o) (count# w o)
      (λ i u. (task.shape.place (start# w o + i) (omega (arith, (task.shape.node o h).run))).row)))

  module _ (deep s o : ℕ) (there : o < nodes# w) (left : Left w deep o) (shallow : o < level w (suc (max_depth - deep))) where
    -- a leaf with a level below it has at most l rows
    own-few : inner w o ≡ false → 1 ≤ deep → count# w o ≤ l# w
    own-few e u =
        let none : child# w o ≡ 0 = eqb-true (child# w o) 0 (not-false (eqb (child# w o) 0) e) in
        let up : level w (suc (max_depth - deep)) ≤ level w max_depth = level-le w (suc (max_depth - deep)) max_depth (omega (arith, left.0)) in
        leaf_few w task.tree o there (omega (arith, shallow)) none

    -- a leaf that takes rows
    leaf-sounds : (zs : List ℕ) → New t (c# w) w zs → Every (λ z. z < n) zs → inner w o ≡ false → Sound t w n deep (leaf_piece d w s o zs)
    leaf-sounds [] new low e =
        omega (arith, members_long d w task.shape o, (task.shape.node o there).some)
    leaf-sounds (z ∷ zs) new low e =
        go (twice run) refl (reach_taking (length (members# w o)) (reach# w o) (map (d (head run)) (z ∷ zs)))
      where
        run : List ℕ
        run = own o ++ z ∷ zs

        some : 1 ≤ length run
        some = omega (arith, length-append (own o) (z ∷ zs))

        low-all : Every (λ i. i < n) run
        low-all =
            every_append (λ i. i < n) (own o) (z ∷ zs)
            (every_of (λ i. i < n# w) (λ i. i < n) (λ i u. omega (arith, task.more)) (own o) (own_low o there)) low

        late : 1 ≤ deep → Late (l# w) run
        late u =
            above_late (l# w) (n# w) (own o) (z ∷ zs) (omega (arith, own_long o, (task.shape.node o there).some))
            (omega (arith, own_long o, own-few e u)) (own_low o there) new.ascend new.above

        go : (b : Bool) → twice run ≡ b → (R : Reach)
            → Sound t w n deep (cond b (settled s R (map (λ i. (i, d (head run) i)) run)) (grown s R run))
        go true q R = omega (arith, length-map {B = ℕ × ℕ} run (λ i. (i, d (head run) i)), some)
        go false q R = ((some, once_each run q), low-all, λ u v. late u)

    -- any
    node-sounds : (zs : List ℕ) → New t (c# w) w zs → Every (λ z. z < n) zs → Sound t w n deep (piece_of d w s o zs)
    node-sounds zs new low = go (inner w o) refl
      where
        go : (b : Bool) → inner w o ≡ b → Sound t w n deep (cond b (old s o zs) (leaf_piece d w s o zs))
        go true e = (there, e, left, new, low, shallow)
        go false e = leaf-sounds zs new low e

  -- THE ROOT
  pub root-sounds : 1 ≤ nodes# w → Left w max_depth 0 → (zs : List ℕ) → New t (c# w) w zs → Every (λ z. z < n) zs
      → Sound t w n max_depth (piece_of (between t (c# w) (circles# w)) w 0 0 zs)
  unfolding level born
  root-sounds there left zs new low = node-sounds max_depth 0 0 there left (omega arith) zs new low

  -- nodes side by side, with so many levels below each
  abbrev Depth : ℕ → ℕ → Type 0
  Depth deep o = Left w deep o × (o < level w (suc (max_depth - deep)))

  kids-sound : (deep : ℕ) (place : ℕ → ℕ) (zs : List ℕ) → New t (c# w) w zs → Every (λ z. z < n) zs → (s o k j : ℕ) → o + j ≤ nodes# w
      → ((i : ℕ) → i < j → Depth deep (o + i)) → Every (Sound t w n deep) (kids_from d w place zs s o k j)
  kids-sound deep place zs new low s o k zero h f = tt
  kids-sound deep place zs new low s o k (suc j) h f =
      let here : List ℕ = keep (λ z. eqb (place z) k) zs in
      let first : Depth deep o = subst (Depth deep) (add-zero o) (f 0 (omega arith)) in (
        node-sounds deep s o (omega arith) first.0 first.1 here (new_keep (λ z. eqb (place z) k) new)
            (every-keep (λ z. z < n) (λ z. eqb (place z) k) zs low),
        kids-sound deep place zs new low (s + (count# w o + length here)) (suc o) (suc k) j (omega arith)
            (λ i u.
            let same : o + suc i ≡ suc o + i = omega arith in
            subst (Depth deep) same (f (suc i) (omega arith))),
      )

  -- an inner node's children have a level less
  kids-depth : (deep o : ℕ) → o < nodes# w → inner w o ≡ true → Left w (suc deep) o → o < level w (suc (max_depth - suc deep)) → (i : ℕ) → i < m# w
      → Depth deep (child# w o + i)
  unfolding level
  kids-depth deep o h e left shallow i u =
      let less : suc deep - 1 ≡ deep = omega arith in
      let up : suc (max_depth - suc deep) ≡ max_depth - deep = omega (arith, left.0) in
      let below : born w (suc o) ≤ level w (suc (max_depth - deep)) =
      born-le w (suc o) (level w (max_depth - deep)) (omega (arith, ap (level w) up, shallow)) in (
        subst (λ (k : ℕ). Left w k (child# w o + i)) less (((task.shape.node o h).kids e).down (suc deep) i left),
        omega (arith, (node_at w task.tree o h).next e, born-inner w o e, below),
      )

  -- they follow each other
  kids-follow : (place : ℕ → ℕ) (zs : List ℕ) (s o k j : ℕ) → Follow w s (kids_from d w place zs s o k j)
  kids-follow place zs s o k zero = tt
  kids-follow place zs s o k (suc j) =
      let here : List ℕ = keep (λ z. eqb (place z) k) zs in (
        piece-start t w s o here,
        subst (λ (i : ℕ). Follow w (s + i) (kids_from d w place zs (s + (count# w o + length here)) (suc o) (suc k) j)) (sym (piece-size t w s o here))
            (kids-follow place zs (s + (count# w o + length here)) (suc o) (suc k) j),
      )

  -- ---- runs
  grown-sound : (deep s : ℕ) (gs : List (List ℕ)) → Every (λ q. Run q × Every (λ i. i < n) q × Ascends (rest q)) gs
      → Every (Sound t w n deep) (grown_from d s gs)
  grown-sound deep s [] h = tt
  grown-sound deep s (q ∷ gs) h =
      ((h.0.0, h.0.1, λ u v. ascends_late (l# w) q h.0.0.0 h.0.2), grown-sound deep (s + length q) gs h.1)

  -- ---- WHAT A PIECE IS OPENED INTO
  -- can be opened
  pub opens-sound : (deep : ℕ) (q : Piece) → Sound t w n (suc deep) q → Every (Sound t w n deep) (opens (between t (c# w) (circles# w)) w q)
  opens-sound deep (settled s R es) h = tt
  opens-sound deep (old s o zs) h =
      kids-sound deep (kid_for d w o) zs h.3 h.4 s (child# w o) 0 (m# w) ((task.shape.node o h.0).kids h.1).inside
      (kids-depth deep o h.0 h.1 h.2 h.5)
  opens-sound deep (grown s R run) h = go (leb (length run) (l# w)) refl
    where
      go : (b : Bool) → leb (length run) (l# w) ≡ b → Every (Sound t w n deep) (cond b [] (grown_from d s (parts d (m# w) (l# w) run)))
      go true e = tt
      go false e =
          let two : 2 ≤ m# w = task.shape.whole.fan.0 in
          let large : l# w < length run = leb-false (length run) (l# w) e in
          let gs : List (List ℕ) = parts d (m# w) (l# w) run in
          let ml : m# w ≤ l# w = task.shape.whole.leaf.0 in
          let low : Every (Every (λ i. i < n)) gs =
          every_joined (λ i. i < n) gs
          (every_same (λ i. i < n) run (joined gs) (λ i. parts-tally d (m# w) (l# w) (omega arith) ml run h.0 large (eqb i)) h.1) in
          grown-sound deep s gs
          (three gs (parts-runs d (m# w) (l# w) (omega arith) ml run h.0 large) low
          (parts-ascend d (m# w) (l# w) run large (h.2 (omega arith) large)))
        where
          three : (gs : List (List ℕ)) → Every Run gs → Every (Every (λ i. i < n)) gs → Every (λ q. Ascends (rest q)) gs
              → Every (λ q. Run q × Every (λ i. i < n) q × Ascends (rest q)) gs
          three [] a b c = tt
          three (g ∷ gs) a b c = ((a.0, b.0, c.0), three gs a.1 b.1 c.1)

  -- starts where it starts
  pub opens-follow : (q : Piece) → Follow w (start_of q) (opens (between t (c# w) (circles# w)) w q)
  opens-follow (settled s R es) = tt
  opens-follow (old s o zs) = kids-follow (kid_for d w o) zs s (child# w o) 0 (m# w)
  opens-follow (grown s R run) = go (leb (length run) (l# w))
    where
      go : (b : Bool) → Follow w s (cond b [] (grown_from d s (parts d (m# w) (l# w) run)))
      go true = tt
      go false = grown_follow w d s (parts d (m# w) (l# w) run)

  -- has its rows
  pub opens-sizes : (deep : ℕ) (q : Piece) → Sound t w n (suc deep) q → waits w q ≡ true
      → sizes w (opens (between t (c# w) (circles# w)) w q) ≡ size_of w q
  opens-sizes deep (settled s R es) h e = absurd (subst T (sym e) tt)
  opens-sizes deep (old s o zs) h e = dealt_sizes t w task.shape o h.0 h.1 zs s
  opens-sizes deep (grown s R run) h e = go (leb (length run) (l# w)) refl e
    where
      go : (b : Bool) → leb (length run) (l# w) ≡ b → not b ≡ true
          → sizes w (cond b [] (grown_from d s (parts d (m# w) (l# w) run))) ≡ length run
      go true q e = absurd (subst T (sym e) tt)
      go false q e =
          let two : 2 ≤ m# w = task.shape.whole.fan.0 in
          let gs : List (List ℕ) = parts d (m# w) (l# w) run in
          grown-sizes w d s gs ∙ sym (tally_length (joined gs))
          ∙ parts-tally d (m# w) (l# w) (omega arith) task.shape.whole.leaf.0 run h.0 (leb-false (length run) (l# w) q) (λ i. true)
          ∙ tally_length run

  -- is m pieces
  pub opens-many : (q : Piece) → waits w q ≡ true → length (opens (between t (c# w) (circles# w)) w q) ≡ m# w
  opens-many (settled s R es) e = absurd (subst T (sym e) tt)
  opens-many (old s o zs) e = kids_many d w (kid_for d w o) zs s (child# w o) 0 (m# w)
  opens-many (grown s R run) e = go (leb (length run) (l# w)) e
    where
      go : (b : Bool) → not b ≡ true → length (cond b [] (grown_from d s (parts d (m# w) (l# w) run))) ≡ m# w
      go true e = absurd (subst T (sym e) tt)
      go false e =
          let two : 2 ≤ m# w = task.shape.whole.fan.0 in
          parts_many d (m# w) (l# w) s run (omega arith)
