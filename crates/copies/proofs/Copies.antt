-- How far an old node reaches when rows have come to the end of node v's run: what each test of the code says of it; and the room with copies of old
-- nodes behind those that are there. Assumes nothing.
use Prim.Native.Nat.{◌*◌, ◌+◌, ◌-◌, ◌<◌, ◌≤◌, max, min, ℕ}
use Rattle.copies.specs.Copies.{Change, Numbers, copied, new_reach, with_copies}
use Rattle.laws.proofs.Joins.{each_append}
use Rattle.laws.proofs.Lists.{map-append}
use Rattle.laws.proofs.Parts.{put_more}
use Rattle.laws.proofs.Ranges.{range_append, range_length}
use Rattle.laws.specs.Lists.{each, lower, range}
use Rattle.limits.specs.Limits.{max_columns}
use Rattle.measure.proofs.Rows.{row_ends}
use Rattle.measure.specs.Table.{between}
use Rattle.moved_runs.specs.Runs.{holds, new_child, new_count, new_start}
use Rattle.split.specs.Places.{node_at_lem}
use Rattle.tree.proofs.Written.{each_words}
use Rattle.tree.specs.Encode.{Node, node_words}
use Rattle.words.specs.Words.{c#, circles#, count#, first#, inner#, n#, radius#}
use borrow.Author.Tests.{eqb-false, eqb-true, le-leb, lt-leb, lt-ltb}
use borrow.Rule.Slice.PartMut.{mid_of, put_mid}
use lib.Dec.{eqb, leb}
use lib.ListN.{drop, length, length-append, length-map, take, take-append-drop}
use lib.Seq.{drop-append-add, drop-drop, length-take-le, take_at}
use mathlib.Core.Bool.{Bool, cond, false, true}
use mathlib.Core.List.{List, [], ◌++◌, ◌∷◌, append_assoc, map}
use mathlib.Core.Path.{◌∙◌, ◌≡◌, ap, ap₂, refl, sym}
use native.Mathlib.Nat.{add-zero}
use native.Mathlib.Omega.{arith}

module _ (w : List ℕ) (v k added : ℕ) where
  -- ---- how far it reaches
  module _ (d : ℕ → ℕ → ℕ) where
    -- as far as it did: its run stands apart
    pub reach-apart : {x y : ℕ} {b : Bool} → x ≡ radius# w k → y ≡ inner# w k → b ≡ holds w v k → b ≡ false → Numbers (new_reach d w v added k) x y
    unfolding new_reach
    reach-apart ex ey eb h = rw (sym eb ∙ h) (ex, ey)

    -- or no row has come
    pub reach_none : {x y : ℕ} {b : Bool} → x ≡ radius# w k → y ≡ inner# w k → b ≡ holds w v k → b ≡ true → added ≡ 0
        → Numbers (new_reach d w v added k) x y
    unfolding new_reach
    reach_none ex ey eb h z = rw (sym eb ∙ h, z) (ex, ey)

  -- to the row that has come too
  pub reach-more : (t : List ℕ) {c o x y f n e a r i : ℕ} {b : Bool} → x ≡ radius# w k → y ≡ inner# w k → b ≡ holds w v k → b ≡ true
      → (added ≡ 0 → ⊥)
      → f ≡ first# w k → n ≡ n# w → c ≡ c# w → o ≡ circles# w → e ≡ between t c o f n → a ≡ count# w k → 1 ≤ count# w k → r ≡ max x e → i
      ≡ lower a y e
      → Numbers (new_reach (between t (c# w) (circles# w)) w v added k) r i
  unfolding new_reach
  reach-more t {x = x} {y = y} {e = e} ex ey eb h z ef en ec eo ee ea some er ei =
      let far : e ≡ between t (c# w) (circles# w) (first# w k) (n# w) = ee ∙ rw (ef, en, ec, eo) refl in
      let one : leb (count# w k) 1 ≡ eqb (count# w k) 1 = go (eqb (count# w k) 1) refl in
      rw (sym eb ∙ h, lt-ltb 0 added (omega arith)) (
        er ∙ ap₂ max ex far,
        ei ∙ ap (λ (k : ℕ). lower k y e) ea ∙ ap (λ (q : Bool). cond q e (min y e)) one
            ∙ ap₂ (λ (p q : ℕ). cond (eqb (count# w k) 1) q (min p q)) ey far,
      )
    where
      go : (q : Bool) → eqb (count# w k) 1 ≡ q → leb (count# w k) 1 ≡ q
      go true q = le-leb (count# w k) 1 (omega (arith, eqb-true (count# w k) 1 q))
      go false q = lt-leb (count# w k) 1 (omega (arith, eqb-false (count# w k) 1 q, some))

-- ---- what is measured
-- a row of the old index and the first that has come stand in the table
pub measurable : {t w : List ℕ} {v added limit c i n : ℕ} → Change t w v added limit → c ≡ c# w → n ≡ n# w → i < n# w → (added ≡ 0 → ⊥)
    → (c ≤ max_columns) × (c * i + c ≤ length t) × (c * n + c ≤ length t)
measurable {w = w} {added = added} {i = i} g ec en hi some =
    let N : ℕ = n# w + added in
    rw (ec, en) (
      g.shape.whole.columns.1,
      omega (arith, row_ends (c# w) N i (omega arith), g.table),
      omega (arith, row_ends (c# w) N (n# w) (omega arith), g.table),
    )

-- ---- copies behind the nodes that are there
-- old node o is written
pub copied_one : (d : ℕ → ℕ → ℕ) (w : List ℕ) (v added o made : ℕ) {a b x r i : ℕ} (room : List ℕ) {ys : List ℕ} → node_at_lem (made + 1) ≤ length room
    → a ≡ new_start w v added o → b ≡ new_count w v added o → x ≡ new_child w v o → Numbers (new_reach d w v added o) r i
    → ys ≡ a ∷ b ∷ x ∷ r ∷ i ∷ drop 5 (mid_of (node_at_lem made) (length room - node_at_lem made) room)
    → put_mid (node_at_lem made) (length room - node_at_lem made) room ys ≡ with_copies (copied d w v added) o 1 room made
unfolding copied
copied_one d w v added o made {a} {b} {x} {r} {i} room {ys} fits ea eb ex er e =
    let front : List ℕ = take (node_at_lem made) room in
    let new : List ℕ = a ∷ b ∷ x ∷ r ∷ i ∷ [] in
    let k : node_at_lem made + 5 ≡ node_at_lem (made + 1) = omega arith in
    put_more front new room room ys (node_at_lem made) 5 (length-take-le (node_at_lem made) room (omega arith)) (omega arith)
    (sym (take-append-drop (node_at_lem made) room)) e
    ∙ ap (λ (i : ℕ). (front ++ new) ++ drop i room) k ∙ append_assoc front new (drop (node_at_lem (made + 1)) room) ∙ rw (ea, eb, ex, er.0, er.1) refl

module _ (copy : ℕ → Node) (o : ℕ) (room₀ : List ℕ) (made : ℕ) where
  -- none is
  pub copies-start : room₀ ≡ with_copies copy o 0 room₀ made
  copies-start = rw (add-zero made) (sym (take-append-drop (node_at_lem made) room₀))

  -- one more is
  pub copies-step : {room room' : List ℕ} (i : ℕ) → node_at_lem (made + i) ≤ length room₀ → room ≡ with_copies copy o i room₀ made
      → room' ≡ with_copies copy (o + i) 1 room (made + i) → room' ≡ with_copies copy o (i + 1) room₀ made
  copies-step {room} {room'} i fits e e' =
      let X : List ℕ = take (node_at_lem made) room₀ in
      let Y : List ℕ = each (node_words 2) (map copy (range o i)) in
      let N : List ℕ = each (node_words 2) (map copy (range (o + i) 1)) in
      let Z : List ℕ = drop (node_at_lem (made + i)) room₀ in
      let long : length (X ++ Y) ≡ node_at_lem (made + i) =
      length-append X Y
      ∙ omega (
        arith,
        length-take-le (node_at_lem made) room₀ (omega arith),
        each_words 2 (map copy (range o i)) (omega arith, omega arith),
        length-map (range o i) copy,
        range_length o i,
      ) in
      let whole : room ≡ (X ++ Y) ++ Z = e ∙ sym (append_assoc X Y Z) in
      let front : take (node_at_lem (made + i)) room ≡ X ++ Y = ap (take (node_at_lem (made + i))) whole ∙ take_at (X ++ Y) Z (node_at_lem (made + i)) long in
      let at : node_at_lem (made + i + 1) ≡ length (X ++ Y) + 5 = omega arith in
      let to : node_at_lem (made + i) + 5 ≡ node_at_lem (made + (i + 1)) = omega arith in
      let rear : drop (node_at_lem (made + i + 1)) room ≡ drop (node_at_lem (made + (i + 1))) room₀ =
      ap₂ drop at whole ∙ drop-append-add (X ++ Y) Z 5 ∙ drop-drop 5 (node_at_lem (made + i)) room₀ ∙ ap (λ (k : ℕ). drop k room₀) to in
      let more : Y ++ N ≡ each (node_words 2) (map copy (range o (i + 1))) =
      sym (ap (λ (x : List ℕ). each (node_words 2) (map copy x)) (range_append o i 1)
      ∙ ap (each (node_words 2)) (map-append copy (range o i) (range (o + i) 1))
      ∙ each_append (node_words 2) (map copy (range o i)) (map copy (range (o + i) 1))) in
      e' ∙ ap₂ (λ (a b : List ℕ). a ++ (N ++ b)) front rear
      ∙ append_assoc X Y (N ++ drop (node_at_lem (made + (i + 1))) room₀)
      ∙ ap (λ (x : List ℕ). X ++ x) (sym (append_assoc Y N (drop (node_at_lem (made + (i + 1))) room₀))
      ∙ ap (λ (x : List ℕ). x ++ drop (node_at_lem (made + (i + 1))) room₀) more)

  -- all are
  pub copies-done : {room : List ℕ} (i k : ℕ) → i ≡ k → room ≡ with_copies copy o i room₀ made → room ≡ with_copies copy o k room₀ made
  copies-done {room} i k e h = h ∙ ap (λ (n : ℕ). with_copies copy o n room₀ made) e
