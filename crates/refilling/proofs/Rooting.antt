-- The root of an index that takes all new rows: they are laid behind its own, it is settled, and its node is written. Assumes nothing.
use Prim.Native.Nat.{◌*◌, ◌+◌, ◌-◌, ◌<◌, ◌≤◌, suc, zero, ℕ}
use Rattle.appending.specs.Append.{Ascends}
use Rattle.dealing.proofs.Children.{stand_last}
use Rattle.dealing.proofs.Settling.{piece-reach, piece-size, piece-start}
use Rattle.dealing.specs.Pending.{Settles, StandAll, pend_of, reach_of, size_of}
use Rattle.deepening.proofs.Sounding.{root-sounds}
use Rattle.laws.proofs.Parts.{put_more}
use Rattle.laws.proofs.Ranges.{range-every, range_length}
use Rattle.laws.specs.Every.{Every}
use Rattle.laws.specs.Lists.{each, range}
use Rattle.limits.specs.Limits.{max_rows}
use Rattle.lodging.specs.Standing.{New, Stands, Takes, mark_of, new_rows}
use Rattle.measure.proofs.Rows.{row_ends}
use Rattle.measure.specs.Table.{between}
use Rattle.refilling.specs.Rooted.{RootAsk, Rooted, TakenIn, new_entry, new_ones, root_piece}
use Rattle.rounds.specs.Entries.{InTable}
use Rattle.split.proofs.Laid.{under_long, under_rows}
use Rattle.split.specs.Runs.{rows}
use Rattle.swelling.specs.Pieces.{Piece, piece_of}
use Rattle.swelling.specs.Swell.{reach_taking}
use Rattle.tree.specs.Encode.{node_words}
use Rattle.tree.specs.Grove.{Reach, reach#}
use Rattle.words.proofs.InShape.{left_root}
use Rattle.words.specs.Words.{nodes#, c#, circles#, count#, first#, n#}
use borrow.Rule.Slice.PartMut.{mid_of, put_mid}
use lib.Dec.{T}
use lib.ListN.{drop, length, length-append, length-drop, take, take-append-drop}
use lib.Seq.{drop_at, length-take-le, take_at}
use mathlib.Core.Bool.{false}
use mathlib.Core.List.{List, [], ◌++◌, ◌∷◌, append_assoc, map}
use mathlib.Core.Path.{◌∙◌, ◌≡◌, ap, ap₂, refl, subst, sym}
use native.Mathlib.Nat.{mul-le-mul_left}
use native.Mathlib.Omega.{arith}

-- a range ascends
range_ascends : (a k : ℕ) → Ascends (range a k)
range_ascends a zero = tt
range_ascends a (suc k) = (range-every (λ y. a ≤ y) (suc a) k (λ i h. omega arith), range_ascends (suc a) k)

module _ {t w : List ℕ} {n : ℕ} {room work : List ℕ} (g : RootAsk t w n room work) where
  -- how far two rows are apart
  abbrev d : ℕ → ℕ → ℕ
  d = between t (c# w) (circles# w)

  -- the new rows
  abbrev zs : List ℕ
  zs = new_ones w n

  zs-long : length zs ≡ n - n# w
  zs-long = range_length (n# w) (n - n# w)

  -- there is a root
  pub rooted-there : 0 < nodes# w
  rooted-there = (g.task.shape.root g.some).there

  root-count : count# w 0 ≡ n# w
  root-count = (g.task.shape.root g.some).count

  -- they are the table's
  low : Every (λ z. z < n) zs
  low = range-every (λ z. z < n) (n# w) (n - n# w) (λ i h. omega (arith, g.task.more))

  new : New t (c# w) w zs
  new =
      record {
        ascend = range_ascends (n# w) (n - n# w);
        above = range-every (λ z. n# w ≤ z) (n# w) (n - n# w) (λ i h. omega arith);
        there = range-every (λ z. InTable t (c# w) z) (n# w) (n - n# w)
            (λ i h. omega (arith, row_ends (c# w) n (n# w + i) (omega (arith, g.task.more)), g.task.table));
        few = range-every (λ z. z < max_rows) (n# w) (n - n# w) (λ i h. omega (arith, g.task.more, g.task.few));
      }

  -- ---- they are laid
  module _ {work₁ : List ℕ} {radius inner : ℕ} (taken : TakenIn t w n work work₁ radius inner) where
    -- the root's own entries and the new ones
    abbrev F : List ℕ
    F = take (3 * n# w) work

    abbrev E : List ℕ
    E = each (new_entry t w) (new_ones w n)

    F-long : length F ≡ 3 * n# w
    F-long = length-take-le (3 * n# w) work (omega (arith, g.halves, g.task.more))

    both_long : length (F ++ E) ≡ 3 * n
    both_long =
        length-append F E ∙ omega (arith, F-long, under_long (d (first# w 0)) 0 zs, zs-long, g.task.more)

    -- the first half
    pub part-is : take (3 * n) work₁ ≡ take (3 * n# w) work ++ each (new_entry t w) (new_ones w n)
    part-is =
        ap (take (3 * n)) (taken.words ∙ sym (append_assoc F E (drop (3 * n) work))) ∙ take_at (F ++ E) (drop (3 * n) work) (3 * n) both_long

    -- so long
    part_long : length (take (3 * n) work₁) ≡ 3 * n
    part_long = ap length part-is ∙ both_long

    -- the workspace is as long as it was
    pub first_long : length work₁ ≡ length work
    first_long =
        ap length (taken.words ∙ sym (append_assoc F E (drop (3 * n) work)))
        ∙ omega (arith, length-append (F ++ E) (drop (3 * n) work), both_long, length-drop (3 * n) work, g.halves)

    -- its new rows are these
    rows_are : new_rows w 0 (take (3 * n) work₁) ≡ zs
    unfolding new_rows
    rows_are =
        ap₂ (λ (i : ℕ) (x : List ℕ). rows (drop (3 * i) x)) root-count part-is ∙ ap rows (drop_at F E (3 * n# w) F-long)
        ∙ under_rows (d (first# w 0)) 0 zs

    -- it can be settled
    pub root-takes : Takes t (c# w) w 0 (take (3 * n) work₁)
    root-takes =
        record {
          shape = g.task.shape;
          columns = refl;
          there = rooted-there;
          table = omega (arith, g.task.table, mul-le-mul_left (c# w) g.task.more);
          whole = omega (arith, part_long);
          own = omega (arith, part_long, root-count, g.task.more);
          few = omega (arith, part_long, g.task.few);
          new = subst (New t (c# w) w) (sym rows_are) new;
        }

    -- ---- settled, and its node is written
    module _ {part' : List ℕ} {mark : ℕ} (laid : Settles t w 0 false (take (3 * n) work₁) part' mark) {ys : List ℕ}
        (wrote : ys ≡ 0 ∷ n ∷ mark ∷ radius ∷ inner ∷ drop 5 (mid_of 8 (length room - 8) room)) where
      -- its piece
      abbrev q : Piece
      q = root_piece t w n

      -- three words a row
      part-size : length part' ≡ 3 * n
      part-size = laid.long ∙ part_long

      size_is : size_of w q ≡ n
      size_is = piece-size t w 0 0 zs ∙ omega (arith, root-count, zs-long, g.task.more)

      -- its words in the first half
      half_is : take (3 * n) (part' ++ drop (3 * n) work₁) ≡ part'
      half_is = take_at part' (drop (3 * n) work₁) (3 * n) part-size

      stands-there : Stands t (c# w) w false q part'
      stands-there = subst (λ (x : List ℕ). Stands t (c# w) w false (piece_of d w 0 0 x) part') rows_are (laid.stands 0)

      -- its node's words
      words_are : 0 ∷ n ∷ mark ∷ radius ∷ inner ∷ [] ≡ node_words 2 (pend_of t w false q)
      words_are =
          let R : Reach = reach_taking (n# w) (reach# w 0) (map (d (first# w 0)) zs) in
          let eR : reach_of t w q ≡ R =
          piece-reach t w 0 0 zs (omega (arith, root-count, g.some))
          ∙ ap (λ (i : ℕ). reach_taking i (reach# w 0) (map (d (first# w 0)) zs)) root-count in
          let em : mark ≡ mark_of t (c# w) w false q =
          laid.marked 0 ∙ ap (λ (x : List ℕ). mark_of t (c# w) w false (piece_of d w 0 0 x)) rows_are in
          ap₂ (λ (a b : ℕ). 0 ∷ n ∷ mark ∷ a ∷ b ∷ []) (taken.far ∙ ap (λ (x : Reach). x.outer) (sym eR)) (taken.near
          ∙ ap (λ (x : Reach). x.inner) (sym eR))
          ∙ ap₂ (λ (a b : ℕ). 0 ∷ a ∷ b ∷ (reach_of t w q).outer ∷ (reach_of t w q).inner ∷ []) (sym size_is) em
          ∙ ap (λ (a : ℕ). a ∷ size_of w q ∷ mark_of t (c# w) w false q ∷ (reach_of t w q).outer ∷ (reach_of t w q).inner ∷ []) (sym
          (piece-start t w 0 0 zs))

      -- THE ROOT STANDS
      pub root_stands : Rooted t w n room (put_mid 8 (length room - 8) room ys) (part' ++ drop (3 * n) work₁)
      root_stands =
          let fits : 8 ≤ length room = omega (arith, g.space) in
          record {
            task = g.task;
            nodes =
                put_more (take 8 room) (0 ∷ n ∷ mark ∷ radius ∷ inner ∷ []) room room ys 8 5 (length-take-le 8 room fits) fits
                (sym (take-append-drop 8 room)) wrote
                ∙ append_assoc (take 8 room) (0 ∷ n ∷ mark ∷ radius ∷ inner ∷ []) (drop 13 room)
                ∙ ap (λ (x : List ℕ). take 8 room ++ (x ++ drop 13 room)) words_are;
            space = omega (arith, g.space);
            first = refl;
            last = refl;
            few = omega arith;
            sound = (root-sounds g.task rooted-there (left_root w) zs new low, tt);
            leafy = (λ e. absurd (subst T e tt), tt);
            halves =
                omega (
                  arith,
                  length-append part' (drop (3 * n) work₁),
                  length-drop (3 * n) work₁,
                  part-size,
                  first_long,
                  g.halves,
                );
            stand =
                subst (StandAll t w false (q ∷ [])) (sym half_is)
                (stand_last t w false [] q [] part' refl (part-size ∙ ap (λ (i : ℕ). 3 * i) (sym size_is)) stands-there);
            follow = (piece-start t w 0 0 zs, tt);
          }
