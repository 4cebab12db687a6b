-- One centre's group: the centre, and behind it those that were picked. Assumes nothing.
use Prim.Native.Nat.{◌*◌, ◌+◌, ◌-◌, ◌≤◌, ℕ}
use Rattle.groups.proofs.Picks.{picked-size, picked_in}
use Rattle.groups.specs.Groups.{Gatherable, Gathered, Picked, Picking, group, narrowest, picked, size, widest}
use Rattle.laws.proofs.Parts.{put_more}
use Rattle.rounds.proofs.Parts.{stretch_front}
use Rattle.rounds.specs.Entries.{own}
use Rattle.rounds.specs.Stretch.{stretch}
use borrow.Rule.Slice.PartMut.{mid_of, put_mid}
use lib.ListN.{drop, length, length-append, length-drop, take, take-append-drop}
use lib.Seq.{drop-append-add, drop-drop, length-take-le, take_at}
use mathlib.Core.List.{List, ◌++◌, append_assoc}
use mathlib.Core.Path.{◌∙◌, ◌≡◌, ap, ap₂, sym}
use native.Mathlib.Omega.{arith}

-- three words a member
pub group-size : (a : ℕ) (es : List ℕ) → length (group a es) ≡ 3 * size (group a es)
unfolding size
group-size a es = omega (arith, picked-size a es)

-- the centre's entry fits, and there are no more members than words
pub gather_fits : {w : List ℕ} {lo hi a to : ℕ} → Gatherable w lo hi a to → (to + 3 ≤ length w) × (size (group a (stretch w lo hi)) ≤ length w)
unfolding size
gather_fits asked = (omega (arith, asked.room), omega (arith, asked.room))

-- ---- the centre's entry is put at `to`
module _ {w : List ℕ} {lo hi a to : ℕ} (asked : Gatherable w lo hi a to) {ys : List ℕ} (put : ys ≡ own a ++ drop 3 (mid_of to (length w - to) w)) where
  -- the words then
  abbrev w₁ : List ℕ
  w₁ = put_mid to (length w - to) w ys

  -- those that are to be picked
  abbrev P : List ℕ
  P = picked_in w lo hi a

  -- a group has one member more
  group-more : to + 3 + 3 * size P ≡ to + 3 * size (group a (stretch w lo hi))
  unfolding size
  group-more = omega arith

  -- the entry stands there
  fronted : w₁ ≡ (take to w ++ own a) ++ drop (to + 3) w
  fronted =
      let r : to + 3 * size (group a (stretch w lo hi)) ≤ length w = asked.room in
      put_more (take to w) (own a) w w ys to 3 (length-take-le to w (omega arith)) (omega arith) (sym (take-append-drop to w)) put

  -- as far as three words behind `to`
  fore-long : length (take to w ++ own a) ≡ to + 3
  fore-long = omega (arith, length-append (take to w) (own a), length-take-le to w (omega (arith, asked.room)))

  -- the workspace is as long as it was
  fronted-long : length w₁ ≡ length w
  fronted-long =
      ap length fronted
      ∙ omega (arith, length-append (take to w ++ own a) (drop (to + 3) w), fore-long, length-drop (to + 3) w, asked.room, group-more)

  -- the entries that are picked from are as they were
  source-kept : stretch w₁ lo hi ≡ stretch w lo hi
  source-kept =
      stretch_front w₁ w (own a ++ drop (to + 3) w) lo hi to asked.before (omega (arith, asked.room))
      (fronted ∙ append_assoc (take to w) (own a) (drop (to + 3) w))

  -- there is room for those that are picked
  pub gather-picking : Picking (put_mid to (length w - to) w ys) lo hi a (to + 3)
  gather-picking =
      let b : hi ≤ to = asked.before in
      record {
        order = asked.order;
        before = omega arith;
        thirds = asked.thirds;
        room = rw (source-kept, fronted-long, group-more) asked.room;
      }

  -- they stand behind the centre: the group is gathered
  pub gather-done : {w' : List ℕ} {count radius inner : ℕ} → Picked (put_mid to (length w - to) w ys) lo hi a (to + 3) w' count radius inner
      → Gathered w lo hi a to w' (count + 1) radius inner
  unfolding size widest
  gather-done {w'} {count} got =
      let F : List ℕ = take to w ++ own a in
      let n : count ≡ size P = got.members ∙ ap (λ (l : List ℕ). size (picked a l)) source-kept in
      let back : drop (to + 3 + 3 * size P) w₁ ≡ drop (to + 3 + 3 * size P) w =
      ap₂ (λ (l : List ℕ) (k : ℕ). drop (k + 3 * size P) l) fronted (sym fore-long) ∙ drop-append-add F (drop (to + 3) w) (3 * size P)
      ∙ drop-drop (3 * size P) (to + 3) w in
      let fore : take (to + 3) w₁ ≡ F = ap (take (to + 3)) fronted ∙ take_at F (drop (to + 3) w) (to + 3) fore-long in
      record {
        words =
            got.words
            ∙ rw (source-kept, fore, back, group-more) (append_assoc (take to w) (own a) (P ++ drop (to + 3 * size (group a (stretch w lo hi))) w));
        members = omega arith;
        far = got.far ∙ ap (λ (l : List ℕ). widest (picked a l)) source-kept ∙ omega arith;
        near = got.near ∙ ap (λ (l : List ℕ). narrowest (picked a l)) source-kept;
      }
