-- All children, one after the other. Assumes nothing.
use Prim.Native.Nat.{◌*◌, ◌+◌, ◌-◌, ◌<◌, ◌≤◌, suc, zero, ℕ}
use Rattle.appending.proofs.Lowest.{lowest_there}
use Rattle.dealing.proofs.Settling.{piece-size}
use Rattle.dealing.specs.Dealt.{ChildAsk, ChildDeals, ChildDealt, Deals, KidsAsk, KidsDealt, kid_piece, kid_pieces, kid_rows}
use Rattle.dealing.specs.Pending.{StandAll, pend_of, size_of, sizes}
use Rattle.laws.proofs.Joins.{each_append}
use Rattle.laws.proofs.Lists.{map-append}
use Rattle.laws.proofs.Ranges.{range_length}
use Rattle.laws.specs.Lists.{each, keep, range}
use Rattle.limits.specs.Limits.{max_rows}
use Rattle.lodging.specs.Standing.{Stands}
use Rattle.measure.specs.Table.{between}
use Rattle.rounds.proofs.Parts.{stretch_front}
use Rattle.rounds.specs.Stretch.{stretch}
use Rattle.split.specs.Places.{node_at_lem}
use Rattle.swelling.proofs.Routed.{routed, routed_all}
use Rattle.swelling.specs.Pieces.{Piece, kid_for, kids_from}
use Rattle.tree.specs.Encode.{Node, node_words}
use Rattle.words.proofs.Tiles.{tile-none, tile-tail}
use Rattle.words.specs.InShape.{InShape}
use Rattle.words.specs.Shape.{inner, tile}
use Rattle.words.specs.Words.{nodes#, c#, child#, circles#, count#, first#, m#, start#}
use lib.Dec.{T, eqb}
use lib.ListN.{drop, drop_of_length-le, length, length-append, length-drop, length-map, take, take-append-drop}
use lib.Seq.{drop-append-le, drop_at, drop-drop, length-take-le, take-add, take-append-le, take_at, take-length, take-take}
use mathlib.Core.Bool.{Bool, true}
use mathlib.Core.List.{List, [], ◌++◌, ◌∷◌, append_assoc, append-nil, map}
use mathlib.Core.Path.{◌∙◌, ◌≡◌, ap, ap₂, refl, subst, sym}
use native.Mathlib.Omega.{arith}

-- the sizes of two stretches of pieces
pub sizes_append : (w : List ℕ) (ps qs : List Piece) → sizes w (ps ++ qs) ≡ sizes w ps + sizes w qs
sizes_append w [] qs = omega arith
sizes_append w (p ∷ ps) qs = omega (arith, sizes_append w ps qs)

-- one piece more stands behind the others
pub stand_last : (t w : List ℕ) (last : Bool) (qs : List Piece) (q : Piece) (xs ys : List ℕ) → StandAll t w last qs xs → length ys ≡ 3 * size_of w q
    → Stands t (c# w) w last q ys → StandAll t w last (qs ++ q ∷ []) (xs ++ ys)
stand_last t w last [] q xs ys a l s =
    let k : ℕ = 3 * size_of w q in
    rw a (
      omega arith,
      subst (Stands t (c# w) w last q) (sym (ap (λ (i : ℕ). take i ys) (sym l) ∙ take-length ys)) s,
      drop_of_length-le ys {i = k} (omega arith),
    )
stand_last t w last (p ∷ qs) q xs ys a l s =
    let k : ℕ = 3 * size_of w p in (
      omega (arith, a.0, length-append xs ys),
      subst (Stands t (c# w) w last p) (sym (take-append-le k xs ys a.0)) a.1,
      subst (StandAll t w last (qs ++ q ∷ [])) (sym (drop-append-le k xs ys a.0)) (stand_last t w last qs q (drop k xs) ys a.2 l s),
    )

-- the sizes of old nodes side by side that take rows
kids-sizes : (t w : List ℕ) (place : ℕ → ℕ) (zs : List ℕ) (s o k j a e : ℕ) → T (tile w o j a e)
    → sizes w (kids_from (between t (c# w) (circles# w)) w place zs s o k j) + a ≡ e + routed place zs k j
kids-sizes t w place zs s o k zero a e h = omega (arith, tile-none w o a e h)
kids-sizes t w place zs s o k (suc j) a e h =
    let here : List ℕ = keep (λ z. eqb (place z) k) zs in
    omega (
      arith,
      kids-sizes t w place zs (s + (count# w o + length here)) (suc o) (suc k) j (a + count# w o) e (tile-tail w o j a e h),
      piece-size t w s o here,
    )

-- THE CHILDREN OF AN INNER NODE HAVE ITS ROWS AND THE NEW ONES
pub dealt_sizes : (t w : List ℕ) → InShape w → (o : ℕ) → o < nodes# w → inner w o ≡ true → (zs : List ℕ) (s : ℕ)
    → sizes w (kid_pieces t w o zs s) ≡ count# w o + length zs
dealt_sizes t w S o there is zs s =
    let d : ℕ → ℕ → ℕ = between t (c# w) (circles# w) in
    let K = (S.node o there).kids is in
    let one : (z : ℕ) → kid_for d w o z < m# w =
    λ z.
    let xs : List ℕ = map (λ f. d f z) (map (first# w) (range (child# w o) (m# w))) in
    let long : length xs ≡ m# w =
    length-map (map (first# w) (range (child# w o) (m# w))) (λ f. d f z) ∙ length-map (range (child# w o) (m# w)) (first# w)
    ∙ range_length (child# w o) (m# w) in
    omega (arith, lowest_there xs (omega (arith, S.whole.fan.0))) in
    omega (
      arith,
      kids-sizes t w (kid_for d w o) zs s (child# w o) 0 (m# w) (start# w o) (start# w o + count# w o) K.tiled,
      routed_all (kid_for d w o) zs (m# w) one,
    )

module _ {t w : List ℕ} {o n lo hi : ℕ} {room₀ work₀ : List ℕ} {s made : ℕ} (g : KidsAsk t w o n lo hi room₀ work₀ s made) where
  -- how far two rows are apart
  abbrev d : ℕ → ℕ → ℕ
  d = between t (c# w) (circles# w)

  -- which child takes a row
  abbrev place : ℕ → ℕ
  place = kid_for d w o

  -- all children's pieces
  abbrev all : List Piece
  all = kid_pieces t w o g.zs s

  -- have all rows
  all-sizes : sizes w all ≡ count# w o + length g.zs
  all-sizes = dealt_sizes t w g.deals.shape o g.deals.there g.deals.inner g.zs s

  module _ (last : Bool) where
    -- the first k children are dealt out, as far as position `at`
    pub record Turn (m : ℕ) (room work : List ℕ) (at k : ℕ) : Type 0 where
      pub fan : m ≡ m# w
      pub done : List Piece
      pub some : k ≤ m# w
      pub many : length done ≡ k
      pub upto : at ≡ s + sizes w done
      pub split : kid_pieces t w o g.zs s ≡ done ++ kids_from (between t (c# w) (circles# w)) w (kid_for (between t (c# w) (circles# w)) w o)
          g.zs at (child# w o + k) k (m# w - k)
      pub nodes : room ≡ take (node_at_lem made) room₀ ++ (each (node_words 2) (map (pend_of t w last) done) ++ drop (node_at_lem (made + k)) room₀)
      pub before : take (3 * n) work ≡ take (3 * n) work₀
      pub long : length work ≡ length work₀
      pub wide : length room ≡ length room₀
      pub stand : StandAll t w last done (stretch work (3 * (n + s)) (3 * (n + at)))

    -- none is
    pub turn-start : {m : ℕ} → m ≡ m# w → Turn m room₀ work₀ s 0
    turn-start em =
        let z : child# w o + 0 ≡ child# w o = omega arith in
        let y : m# w - 0 ≡ m# w = omega arith in
        let x : made + 0 ≡ made = omega arith in
        let v : 3 * (n + s) - 3 * (n + s) ≡ 0 = omega arith in
        record {
          fan = em;
          done = [];
          some = omega arith;
          many = refl;
          upto = omega arith;
          split = rw (z, y);
          nodes = rw x (sym (take-append-drop (node_at_lem made) room₀));
          before = refl;
          long = refl;
          wide = refl;
          stand = rw v refl;
        }

    module _ {m : ℕ} {room work : List ℕ} {at k : ℕ} (inv : Turn m room work at k) where
      -- the next child's piece
      abbrev q : Piece
      q = kid_piece t w o g.zs k at

      -- its rows
      abbrev size : ℕ
      size = count# w (child# w o + k) + length (kid_rows t w o g.zs k)

      -- the pieces that are left
      abbrev rest : List Piece
      rest = kids_from d w place g.zs (at + size) (suc (child# w o + k)) (suc k) (m# w - (k + 1))

      -- they are these
      next : k < m → kid_pieces t w o g.zs s ≡ inv.done ++ q ∷ rest
      next h =
          let less : m# w - k ≡ suc (m# w - (k + 1)) = omega (arith, inv.fan) in
          inv.split ∙ ap (λ (j : ℕ). inv.done ++ kids_from d w place g.zs at (child# w o + k) k j) less

      -- there is room for it
      pub turn-fits : k < m → at + (count# w (child# w o + k) + length (kid_rows t w o g.zs k)) ≤ s + (count# w o + length g.zs)
      turn-fits h =
          omega (
            arith,
            ap (sizes w) (next h),
            sizes_append w inv.done (q ∷ rest),
            all-sizes,
            inv.upto,
            piece-size t w at (child# w o + k) (kid_rows t w o g.zs k),
          )

      -- the rows stand as they did
      pub still : Deals t w o n lo hi g.zs work
      still =
          let D = g.deals in
          let halfs : 3 * n ≤ length work₀ = omega (arith, D.halves) in
          record {
            shape = D.shape;
            edition = D.edition;
            there = D.there;
            inner = D.inner;
            table = D.table;
            new = D.new;
            order = D.order;
            half = D.half;
            halves = omega (arith, inv.long, D.halves);
            few = D.few;
            entries =
                stretch_front work work₀ (drop (3 * n) work) lo hi (3 * n) D.half halfs
                (sym (take-append-drop (3 * n) work) ∙ ap (λ (x : List ℕ). x ++ drop (3 * n) work) inv.before)
                ∙ D.entries;
          }

      -- so it can be dealt out
      unfoldable pub turn-ask : k < m → ChildAsk t w o n lo hi room work k at made
      turn-ask h =
          record {
            zs = g.zs;
            deals = still;
            child = omega (arith, inv.fan);
            fits = omega (arith, turn-fits h, g.fits);
            nodes = omega (arith, inv.wide, g.nodes, inv.fan);
            small = omega (arith, inv.fan, g.small);
          }

      -- as it is asked for
      turn-dealt : {room' work' : List ℕ} {r : ℕ} → k < m → ChildDeals t w o n lo hi last room work k at made room' work' r
          → ChildDealt t w o n last g.zs room work k at made room' work' r
      unfolding turn-ask
      turn-dealt h deal = deal (turn-ask h)

      -- its position is a number of the table's
      pub turn_small : {room' work' : List ℕ} {r : ℕ} → k < m → ChildDeals t w o n lo hi last room work k at made room' work' r → at + r ≤ max_rows
      turn_small h deal = omega (arith, turn-fits h, (turn-dealt h deal).count, g.fits, g.deals.few)

      -- it is
      pub turn_step : {room' work' : List ℕ} {r : ℕ} → k < m → length room' ≡ length room
          → ChildDeals t w o n lo hi last room work k at made room' work' r → Turn m room' work' (at + r) (k + 1)
      turn_step {room'} {work'} {r} h wide deal =
          let got : ChildDealt t w o n last g.zs room work k at made room' work' r = turn-dealt h deal in
          let Dn : List Piece = inv.done in
          let a : ℕ = 3 * (n + s) in
          let b : ℕ = 3 * (n + at) in
          let c : ℕ = 3 * (n + (at + r)) in
          let low : s ≤ at = omega (arith, inv.upto) in
          let fit : c ≤ length work' = omega (arith, turn-fits h, g.fits, got.count, got.long, inv.long, g.deals.halves) in
          let size_is : size_of w q ≡ r = piece-size t w at (child# w o + k) (kid_rows t w o g.zs k) ∙ sym got.count in
          let one : child# w o + (k + 1) ≡ suc (child# w o + k) = omega arith in
          let up : k + 1 ≡ suc k = omega arith in
          let more : at + r ≡ at + size = ap (λ (i : ℕ). at + i) got.count in
          let old : stretch work' a b ≡ stretch work a b =
          stretch_front work' work (drop b work') a b b (omega arith) (omega (arith, inv.long, g.deals.halves, turn-fits h, g.fits))
          (sym (take-append-drop b work') ∙ ap (λ (x : List ℕ). x ++ drop b work') got.before) in
          let cut : stretch work' a c ≡ stretch work a b ++ stretch work' b (b + 3 * r) =
          let p : c - a ≡ (b - a) + 3 * r = omega arith in
          let e : b + 3 * r - b ≡ 3 * r = omega arith in
          let f : a + (b - a) ≡ b = omega arith in
          ap (λ (i : ℕ). take i (drop a work')) p ∙ take-add (b - a) (3 * r) (drop a work')
          ∙ ap₂ (λ (x y : List ℕ). x ++ y) old
          (ap (take (3 * r)) (drop-drop (b - a) a work' ∙ ap (λ (i : ℕ). drop i work') f) ∙ ap (λ (i : ℕ). take i (drop b work')) (sym e)) in
          let len : length (stretch work' b (b + 3 * r)) ≡ 3 * size_of w q =
          length-take-le (b + 3 * r - b) (drop b work') (omega (arith, length-drop b work')) ∙ omega (arith, size_is) in
          let nodes' : List Node = map (pend_of t w last) Dn in
          let room_cut : room' ≡ take (node_at_lem made) room₀ ++ (each (node_words 2) (map (pend_of t w last) (Dn ++ q ∷ [])) ++ drop (node_at_lem (made +
          (k + 1))) room₀) =
          nodes-more room' got.nodes in
          record {
            fan = inv.fan;
            done = Dn ++ q ∷ [];
            some = omega (arith, inv.fan);
            many = length-append Dn (q ∷ []) ∙ omega (arith, inv.many);
            upto = omega (arith, sizes_append w Dn (q ∷ []), inv.upto, size_is);
            split =
                next h ∙ sym (append_assoc Dn (q ∷ []) rest)
                ∙ ap (λ (x : List Piece). (Dn ++ q ∷ []) ++ x)
                (sym (ap₂ (λ (i j : ℕ). kids_from d w place g.zs i (child# w o + (k + 1)) j (m# w - (k + 1))) more up
                ∙ ap (λ (i : ℕ). kids_from d w place g.zs (at + size) i (suc k) (m# w - (k + 1))) one));
            nodes = room_cut;
            before =
                sym (take-take (3 * n) b work' (omega arith)) ∙ ap (take (3 * n)) got.before ∙ take-take (3 * n) b work (omega arith)
                ∙ inv.before;
            long = got.long ∙ inv.long;
            wide = wide ∙ inv.wide;
            stand = rw cut (stand_last t w last Dn q (stretch work a b) (stretch work' b (b + 3 * r)) inv.stand len got.stands);
          }
        where
          words_long : (ns : List Node) → length (each (node_words 2) ns) ≡ 5 * length ns
          words_long [] = refl
          words_long (x ∷ ns) = omega (arith, words_long ns)

          nodes-more : (room' : List ℕ)
              → room' ≡ take (node_at_lem (made + k)) room ++ (node_words 2 (pend_of t w last q) ++ drop (node_at_lem (made + k + 1)) room)
              → room' ≡ take (node_at_lem made) room₀
              ++ (each (node_words 2) (map (pend_of t w last) (inv.done ++ q ∷ [])) ++ drop (node_at_lem (made + (k + 1))) room₀)
          nodes-more room' e =
              let F : List ℕ = take (node_at_lem made) room₀ in
              let N : List ℕ = each (node_words 2) (map (pend_of t w last) inv.done) in
              let x : List ℕ = node_words 2 (pend_of t w last q) in
              let Z : List ℕ = drop (node_at_lem (made + k)) room₀ in
              let cut : room ≡ (F ++ N) ++ Z = inv.nodes ∙ sym (append_assoc F N Z) in
              let fl : length F ≡ node_at_lem made = length-take-le (node_at_lem made) room₀ (omega (arith, g.nodes)) in
              let nl : length N ≡ 5 * k =
              words_long (map (pend_of t w last) inv.done) ∙ ap (λ (i : ℕ). 5 * i) (length-map inv.done (pend_of t w last) ∙ inv.many) in
              let size' : length (F ++ N) ≡ node_at_lem (made + k) = length-append F N ∙ omega (arith, fl, nl) in
              let j : made + k + 1 ≡ made + (k + 1) = omega arith in
              let five : node_at_lem (made + k + 1) ≡ node_at_lem (made + k) + 5 = omega arith in
              let back : drop (node_at_lem (made + k + 1)) room ≡ drop (node_at_lem (made + (k + 1))) room₀ =
              ap (λ (i : ℕ). drop i room) five ∙ sym (drop-drop 5 (node_at_lem (made + k)) room)
              ∙ ap (drop 5) (ap (drop (node_at_lem (made + k))) cut ∙ drop_at (F ++ N) Z (node_at_lem (made + k)) size')
              ∙ drop-drop 5 (node_at_lem (made + k)) room₀ ∙ ap (λ (i : ℕ). drop i room₀) (sym five ∙ ap (λ (i : ℕ). node_at_lem i) j) in
              let all_words : N ++ x ≡ each (node_words 2) (map (pend_of t w last) (inv.done ++ q ∷ [])) =
              sym (ap (each (node_words 2)) (map-append (pend_of t w last) inv.done (q ∷ []))
              ∙ each_append (node_words 2) (map (pend_of t w last) inv.done) (pend_of t w last q ∷ [])) in
              e ∙ ap₂ (λ (y z : List ℕ). y ++ (x ++ z)) (ap (take (node_at_lem (made + k))) cut ∙ take_at (F ++ N) Z (node_at_lem (made + k)) size') back
              ∙ append_assoc F N (x ++ drop (node_at_lem (made + (k + 1))) room₀)
              ∙ ap (λ (y : List ℕ). F ++ y) (sym (append_assoc N x (drop (node_at_lem (made + (k + 1))) room₀)))
              ∙ ap (λ (y : List ℕ). F ++ (y ++ drop (node_at_lem (made + (k + 1))) room₀)) all_words

      -- all are
      pub turn-done : m ≤ k → KidsDealt t w o n last g.zs room₀ work₀ s made room work
      turn-done h =
          let same : k ≡ m# w = omega (arith, inv.fan, inv.some) in
          let none : m# w - k ≡ 0 = omega (arith, inv.fan) in
          let whole : kid_pieces t w o g.zs s ≡ inv.done =
          inv.split ∙ ap (λ (j : ℕ). inv.done ++ kids_from d w place g.zs at (child# w o + k) k j) none ∙ append-nil inv.done in
          let end : 3 * (n + at) ≡ 3 * (n + s) + 3 * (count# w o + length g.zs) = omega (arith, inv.upto, ap (sizes w) whole, all-sizes) in
          record {
            nodes =
                inv.nodes
                ∙ ap₂ (λ (x : List Piece) (i : ℕ). take (node_at_lem made) room₀ ++ (each (node_words 2) (map (pend_of t w last) x) ++ drop (node_at_lem
                (made + i)) room₀)) (sym whole) same;
            before = inv.before;
            long = inv.long;
            stand = rw (whole, ← end) inv.stand;
          }
