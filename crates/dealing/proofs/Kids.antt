-- One child: its rows are picked behind room for its own, it is laid, and its node is written. Assumes nothing.
use Prim.Native.Nat.{◌*◌, ◌+◌, ◌-◌, ◌<◌, ◌≤◌, ℕ}
use Rattle.appending.specs.Append.{Ascends}
use Rattle.dealing.proofs.Marking.{marked_long}
use Rattle.dealing.proofs.Settling.{piece-reach, piece-size, piece-start}
use Rattle.dealing.specs.Dealt.{ChildAsk, ChildDealt, kid_piece, kid_rows}
use Rattle.dealing.specs.Marked.{Reaching, marked}
use Rattle.dealing.specs.Pending.{Settles, pend_of, reach_of, size_of}
use Rattle.groups.specs.Groups.{Picked, Picking, distances, picked, size, widest}
use Rattle.laws.proofs.Every.{every-keep}
use Rattle.laws.proofs.Parts.{put_more}
use Rattle.laws.specs.Lists.{keep, lowest}
use Rattle.limits.specs.Limits.{max_rows}
use Rattle.lodging.specs.Standing.{New, Stands, Takes, mark_of, new_rows}
use Rattle.measure.specs.Table.{between}
use Rattle.rounds.proofs.Parts.{mid_end}
use Rattle.rounds.specs.Entries.{InTable}
use Rattle.rounds.specs.Stretch.{stretch}
use Rattle.split.proofs.Laid.{under, under_distances, under_long, under_rows, under_size, under_widest}
use Rattle.split.proofs.Parted.{part-lent, part-put}
use Rattle.split.specs.Places.{node_at_lem}
use Rattle.split.specs.Runs.{rows}
use Rattle.swelling.specs.Pieces.{Piece, kid_for, piece_of}
use Rattle.swelling.specs.Swell.{reach_taking}
use Rattle.tree.specs.Encode.{node_words}
use Rattle.tree.specs.Grove.{Reach, reach#}
use Rattle.words.specs.Words.{nodes#, c#, child#, circles#, count#, first#, n#}
use borrow.Author.Tests.{eqb-true}
use borrow.Rule.Slice.PartMut.{mid_len, mid_of, put_mid}
use lib.Dec.{eqb}
use lib.ListN.{drop, length, length-append, length-drop, length-map, take, take-append-drop}
use lib.Seq.{drop_at, length-take-le, take-add, take_at}
use mathlib.Core.Bool.{Bool, cond, false, true}
use mathlib.Core.List.{List, [], ◌++◌, ◌∷◌, append_assoc, map}
use mathlib.Core.Path.{◌∙◌, ◌≡◌, ap, ap₂, refl, subst, sym}
use native.Mathlib.Omega.{arith}

-- what is picked for the child at place k is its rows, each with its distance from the child's first
pub picked-marked : (d : ℕ → ℕ → ℕ) (w : List ℕ) (o k : ℕ) (zs : List ℕ)
    → picked k (marked d w o zs) ≡ under (d (first# w (child# w o + k))) k (keep (λ z. eqb (kid_for d w o z) k) zs)
unfolding picked marked
picked-marked d w o k [] = refl
picked-marked d w o k (z ∷ zs) = go (eqb (kid_for d w o z) k) refl (picked-marked d w o k zs)
  where
    here : List ℕ
    here = keep (λ z. eqb (kid_for d w o z) k) zs

    go : (s : Bool) → eqb (kid_for d w o z) k ≡ s
        → picked k (marked d w o zs) ≡ under (d (first# w (child# w o + k))) k (keep (λ z. eqb (kid_for d w o z) k) zs)
        → cond s (z ∷ d (first# w (child# w o + kid_for d w o z)) z ∷ k ∷ picked k (marked d w o zs)) (picked k (marked d w o zs))
        ≡ under (d (first# w (child# w o + k))) k
        (cond s (z ∷ keep (λ z. eqb (kid_for d w o z) k) zs) (keep (λ z. eqb (kid_for d w o z) k) zs))
    go true e h =
        ap₂ (λ (i : ℕ) (l : List ℕ). z ∷ d (first# w (child# w o + i)) z ∷ k ∷ l) (eqb-true (kid_for d w o z) k e) h
    go false e h = h

-- the words that are lent from a node on
pub node_room : (room : List ℕ) (k : ℕ) → length (mid_of (node_at_lem k) (length room - node_at_lem k) room) ≡ length room - node_at_lem k
node_room room k = ap length (mid_end (node_at_lem k) room) ∙ length-drop (node_at_lem k) room

-- some of ascending rows ascend
pub ascends_keep : (f : ℕ → Bool) (zs : List ℕ) → Ascends zs → Ascends (keep f zs)
ascends_keep f [] h = tt
ascends_keep f (z ∷ zs) h = go (f z) (ascends_keep f zs h.1)
  where
    go : (b : Bool) → Ascends (keep f zs) → Ascends (cond b (z ∷ keep f zs) (keep f zs))
    go true k = (every-keep (λ y. z ≤ y) f zs h.0, k)
    go false k = k

-- some of new rows are new
pub new_keep : {t : List ℕ} {c : ℕ} {w zs : List ℕ} (f : ℕ → Bool) → New t c w zs → New t c w (keep f zs)
new_keep {t} {c} {w} {zs} f N =
    record {
      ascend = ascends_keep f zs N.ascend;
      above = every-keep (λ z. n# w ≤ z) f zs N.above;
      there = every-keep (λ z. InTable t c z) f zs N.there;
      few = every-keep (λ z. z < max_rows) f zs N.few;
    }

module _ {t w : List ℕ} {o n lo hi : ℕ} {room work : List ℕ} {k at made : ℕ} (g : ChildAsk t w o n lo hi room work k at made) where
  -- how far two rows are apart
  abbrev d : ℕ → ℕ → ℕ
  d = between t (c# w) (circles# w)

  -- the child
  abbrev kid : ℕ
  kid = child# w o + k

  -- its rows
  abbrev here : List ℕ
  here = kid_rows t w o g.zs k

  -- where it goes
  abbrev to : ℕ
  to = 3 * (n + at)

  -- it is a node
  pub kid-there : {child : ℕ} → child ≡ child# w o → (child + k < nodes# w) × (child + k ≤ 2097152)
  kid-there e =
      let S = g.deals.shape in
      let K = (S.node o g.deals.there).kids g.deals.inner in
      (omega (arith, K.inside, g.child), omega (arith, K.inside, g.child, S.whole.nodes, S.whole.rows))

  -- the words between which the rows stand
  rows_long : hi - lo ≡ 3 * length g.zs
  rows_long =
      sym (mid_len lo hi work (omega (arith, g.deals.half, g.deals.halves))) ∙ ap length g.deals.entries ∙ marked_long d w o g.zs

  -- what is picked
  picks : picked k (stretch work lo hi) ≡ under (d (first# w kid)) k here
  picks = ap (picked k) g.deals.entries ∙ picked-marked d w o k g.zs

  -- so many
  picks-size : size (picked k (stretch work lo hi)) ≡ length here
  picks-size = ap size picks ∙ under_size (d (first# w kid)) k here

  module _ {own : ℕ} (counts : own ≡ count# w (child# w o + k)) where
    -- they can be picked
    pub pick-ready : Picking work lo hi k (3 * (n + at) + 3 * own)
    pick-ready =
        record {
          order = g.deals.order;
          before = omega (arith, g.deals.half);
          thirds = omega (arith, rows_long);
          room = omega (arith, picks-size, g.fits, g.deals.halves);
        }

    module _ {work₁ : List ℕ} {more far near : ℕ} (got : Picked work lo hi k (3 * (n + at) + 3 * own) work₁ more far near) where
      -- how many
      pub more-is : more ≡ length (kid_rows t w o g.zs k)
      more-is = got.members ∙ picks-size

      -- it ends in the workspace
      pub end_fits : (3 * (n + at) + 3 * (own + more) ≤ length work) × (at + (own + more) ≤ max_rows)
      end_fits = (omega (arith, more-is, g.fits, g.deals.halves), omega (arith, more-is, g.fits, g.deals.few))

      -- its rows' words
      abbrev P : List ℕ
      P = under (d (first# w kid)) k here

      -- the words where its own entries go
      abbrev J : List ℕ
      J = take (3 * own) (drop to work)

      -- what stands behind it
      abbrev B : List ℕ
      B = drop (to + 3 * own + 3 * length here) work

      -- the workspace is cut before it and behind it
      cut : work₁ ≡ take to work ++ ((J ++ P) ++ B)
      cut =
          got.words
          ∙ ap₂ (λ (x : List ℕ) (i : ℕ). take (to + 3 * own) work ++ (x ++ drop (to + 3 * own + 3 * i) work)) picks picks-size
          ∙ ap (λ (x : List ℕ). x ++ (P ++ B)) (take-add to (3 * own) work)
          ∙ append_assoc (take to work) J (P ++ B) ∙ ap (λ (x : List ℕ). take to work ++ x) (sym (append_assoc J P B))

      -- the lengths of the parts
      fore : length (take to work) ≡ to
      fore = length-take-le to work (omega (arith, end_fits))

      own-words : length J ≡ 3 * own
      own-words = length-take-le (3 * own) (drop to work) (omega (arith, length-drop to work, end_fits))

      both_words : length (J ++ P) ≡ 3 * (own + more)
      both_words = length-append J P ∙ omega (arith, own-words, under_long (d (first# w kid)) k here, more-is)

      -- it is lent
      part-is : mid_of (3 * (n + at)) (3 * (n + at) + 3 * (own + more) - 3 * (n + at)) work₁ ≡ J ++ P
      part-is = part-lent (take to work) (J ++ P) B work₁ to (to + 3 * (own + more)) cut fore (omega (arith, both_words))

      -- its rows stand behind its own
      rows_are : new_rows w (child# w o + k) (mid_of (3 * (n + at)) (3 * (n + at) + 3 * (own + more) - 3 * (n + at)) work₁) ≡ here
      unfolding new_rows
      rows_are =
          ap (λ (l : List ℕ). rows (drop (3 * count# w kid) l)) part-is
          ∙ ap rows (drop_at J P (3 * count# w kid) (own-words ∙ ap (λ (i : ℕ). 3 * i) counts)) ∙ under_rows (d (first# w kid)) k here

      -- it can be laid
      laid-ready : Takes t (c# w) w (child# w o + k) (mid_of (3 * (n + at)) (3 * (n + at) + 3 * (own + more) - 3 * (n + at)) work₁)
      laid-ready =
          let long : length (mid_of (3 * (n + at)) (3 * (n + at) + 3 * (own + more) - 3 * (n + at)) work₁) ≡ 3 * (own + more) =
          ap length part-is ∙ both_words in
          record {
            shape = g.deals.shape;
            columns = refl;
            there = (kid-there refl).0;
            table = g.deals.table;
            whole = omega (arith, long);
            own = omega (arith, long, counts);
            few = omega (arith, long, end_fits);
            new = subst (New t (c# w) w) (sym rows_are) (new_keep (λ z. eqb (kid_for d w o z) k) g.deals.new);
          }

      -- as the code names it
      pub settle-ready : {child : ℕ} → child ≡ child# w o
          → Takes t (c# w) w (child + k) (mid_of (3 * (n + at)) (3 * (n + at) + 3 * (own + more) - 3 * (n + at)) work₁)
      settle-ready e =
          let part : List ℕ = mid_of (3 * (n + at)) (3 * (n + at) + 3 * (own + more) - 3 * (n + at)) work₁ in
          subst (λ (i : ℕ). Takes t (c# w) w (i + k) part) (sym e) laid-ready

      -- ---- it is laid
      module _ {last : Bool} {part' : List ℕ} {mark : ℕ}
          (laid : Settles t w (child# w o + k) last (mid_of (3 * (n + at)) (3 * (n + at) + 3 * (own + more) - 3 * (n + at)) work₁) part' mark) where
        -- the workspace then
        abbrev work₂ : List ℕ
        work₂ = put_mid (3 * (n + at)) (3 * (n + at) + 3 * (own + more) - 3 * (n + at)) work₁ part'

        -- as many words
        part-size : length part' ≡ 3 * (own + more)
        part-size = laid.long ∙ ap length part-is ∙ both_words

        -- cut
        after : work₂ ≡ take to work ++ (part' ++ B)
        after = part-put (take to work) (J ++ P) B work₁ to (to + 3 * (own + more)) cut fore (omega (arith, both_words)) part'

        -- as long as it was
        after-long : length work₂ ≡ length work
        after-long =
            ap length after
            ∙ omega (
              arith,
              length-append (take to work) (part' ++ B),
              length-append part' B,
              fore,
              part-size,
              length-drop (to + 3 * own + 3 * length here) work,
              more-is,
              end_fits,
            )

        -- its piece stands there
        piece-stands : Stands t (c# w) w last (kid_piece t w o g.zs k at) (stretch work₂ (3 * (n + at)) (3 * (n + at) + 3 * (own + more)))
        piece-stands =
            let e : stretch work₂ to (to + 3 * (own + more)) ≡ part' =
            ap (take (to + 3 * (own + more) - to)) (ap (drop to) after ∙ drop_at (take to work) (part' ++ B) to fore)
            ∙ take_at part' B (to + 3 * (own + more) - to) (omega (arith, part-size)) in
            subst (Stands t (c# w) w last (kid_piece t w o g.zs k at)) (sym e)
            (subst (λ (l : List ℕ). Stands t (c# w) w last (piece_of d w at (child# w o + k) l) part') rows_are (laid.stands at))

        -- ---- and its node is written
        module _ {radius inner : ℕ} (reaches : Reaching w (child# w o + k) more far near radius inner) {put : List ℕ}
            (wrote : put ≡ at ∷ (own + more) ∷ mark ∷ radius ∷ inner ∷ drop 5 (mid_of (node_at_lem (made + k)) (length room - node_at_lem
            (made + k)) room)) where
          -- its piece
          abbrev q : Piece
          q = kid_piece t w o g.zs k at

          -- its five words
          words_are : at ∷ (own + more) ∷ mark ∷ radius ∷ inner ∷ [] ≡ node_words 2 (pend_of t w last q)
          words_are =
              let vs : List ℕ = map (d (first# w kid)) here in
              let r =
              reaches vs (more-is ∙ sym (length-map here (d (first# w kid)))) (got.far ∙ ap widest picks ∙ under_widest (d (first# w kid)) k here)
              (got.near ∙ ap (λ (l : List ℕ). lowest (distances l)) picks ∙ ap lowest (under_distances (d (first# w kid)) k here)) in
              let R : Reach = reach_taking (count# w kid) (reach# w kid) vs in
              let some : 1 ≤ count# w kid = (g.deals.shape.node kid (kid-there refl).0).some in
              let eR : reach_of t w q ≡ R = piece-reach t w at kid here some in
              let es : size_of w q ≡ own + more = piece-size t w at kid here ∙ ap₂ (λ (a b : ℕ). a + b) (sym counts) (sym more-is) in
              let em : mark ≡ mark_of t (c# w) w last q =
              laid.marked at ∙ ap (λ (l : List ℕ). mark_of t (c# w) w last (piece_of d w at (child# w o + k) l)) rows_are in
              ap₂ (λ (a b : ℕ). at ∷ (own + more) ∷ mark ∷ a ∷ b ∷ []) (r.0 ∙ ap (λ (x : Reach). x.outer) (sym eR)) (r.1
              ∙ ap (λ (x : Reach). x.inner) (sym eR))
              ∙ ap₂ (λ (a b : ℕ). at ∷ a ∷ b ∷ (reach_of t w q).outer ∷ (reach_of t w q).inner ∷ []) (sym es) em
              ∙ ap (λ (a : ℕ). a ∷ size_of w q ∷ mark_of t (c# w) w last q ∷ (reach_of t w q).outer ∷ (reach_of t w q).inner ∷ []) (sym
              (piece-start t w at kid here))

          -- THE CHILD IS DEALT OUT
          child-done : ChildDealt t w o n last g.zs room work k at made
              (put_mid (node_at_lem (made + k)) (length room - node_at_lem (made + k)) room put)
              (put_mid (3 * (n + at)) (3 * (n + at) + 3 * (own + more) - 3 * (n + at)) work₁ part') (own + more)
          child-done =
              let a : ℕ = node_at_lem (made + k) in
              let fits : a ≤ length room = omega (arith, g.nodes) in
              let up : a + 5 ≡ node_at_lem (made + k + 1) = omega arith in
              record {
                count = ap₂ (λ (x y : ℕ). x + y) counts more-is;
                nodes =
                    put_more (take a room) (at ∷ (own + more) ∷ mark ∷ radius ∷ inner ∷ []) room room put a 5 (length-take-le a room fits) fits
                    (sym (take-append-drop a room)) wrote
                    ∙ ap₂ (λ (x : List ℕ) (i : ℕ). (take a room ++ x) ++ drop i room) words_are up
                    ∙ append_assoc (take a room) (node_words 2 (pend_of t w last q)) (drop (node_at_lem (made + k + 1)) room);
                before = ap (take to) after ∙ take_at (take to work) (part' ++ B) to fore;
                long = after-long;
                stands = piece-stands;
              }

      -- the same, as the code names the child
      pub child-dealt : {child : ℕ} → child ≡ child# w o → {last : Bool} {part' : List ℕ} {mark : ℕ}
          → Settles t w (child + k) last (mid_of (3 * (n + at)) (3 * (n + at) + 3 * (own + more) - 3 * (n + at)) work₁) part' mark
          → {radius inner : ℕ} → Reaching w (child + k) more far near radius inner → {put : List ℕ}
          → put ≡ at ∷ (own + more) ∷ mark ∷ radius ∷ inner ∷ drop 5 (mid_of (node_at_lem (made + k)) (length room - node_at_lem (made + k)) room)
          → ChildDealt t w o n last g.zs room work k at made
          (put_mid (node_at_lem (made + k)) (length room - node_at_lem (made + k)) room put)
          (put_mid (3 * (n + at)) (3 * (n + at) + 3 * (own + more) - 3 * (n + at)) work₁ part') (own + more)
      child-dealt e {last} {part'} {mark} laid {radius} {inner} reaches wrote =
          let part : List ℕ = mid_of (3 * (n + at)) (3 * (n + at) + 3 * (own + more) - 3 * (n + at)) work₁ in
          child-done (subst (λ (i : ℕ). Settles t w (i + k) last part part' mark) e laid)
          (subst (λ (i : ℕ). Reaching w (i + k) more far near radius inner) e reaches) wrote
