-- The index with one row more: the full check accepts it, and all groups but one keep their order. Assumes nothing.
use Prim.Native.Nat.{◌*◌, ◌+◌, ◌/◌, ◌<◌, ◌≤◌, suc, zero, ℕ}
use Rattle.appending.proofs.Agree.{Agree, good_agree}
use Rattle.appending.proofs.Back.{entries_tree, header_last, tree-fits}
use Rattle.appending.proofs.Joined.{Appended, fresh_in, join_good}
use Rattle.appending.proofs.Nodes.{Made, Once, good_made}
use Rattle.appending.proofs.Numbered.{numbered_is}
use Rattle.appending.proofs.Onesplit.{join-size, numbered-size}
use Rattle.appending.proofs.Order.{Order, groups-entries, join-order, together}
use Rattle.appending.proofs.Read.{encode-length, encode_tree}
use Rattle.appending.proofs.Wellmade.{accepted_good}
use Rattle.appending.specs.Append.{appended, join}
use Rattle.laws.proofs.Joins.{each_append}
use Rattle.laws.proofs.Ranges.{range_length}
use Rattle.laws.proofs.Shares.{bit}
use Rattle.laws.proofs.Times.{lefts, tally_lefts}
use Rattle.laws.specs.Every.{Every}
use Rattle.laws.specs.Lists.{tally}
use Rattle.limits.proofs.Ranges.{both-within}
use Rattle.limits.specs.Limits.{circles_ok_lem, columns_ok_lem, max_columns, max_depth, max_rows, share_ok_lem}
use Rattle.measure.proofs.Metric.{between-most, metric}
use Rattle.measure.proofs.Rows.{row_ends}
use Rattle.measure.specs.Distance.{l1}
use Rattle.measure.specs.Table.{Rounded, between, row, rows_of}
use Rattle.tree.proofs.Accepted.{shape_of}
use Rattle.tree.proofs.Built.{build-accepted, planted}
use Rattle.tree.proofs.Good.{Good, encode-accepted, size}
use Rattle.tree.specs.Build.{build, plant}
use Rattle.tree.specs.Check.{Accepted}
use Rattle.tree.specs.Encode.{encode}
use Rattle.tree.specs.Grove.{Grove, entries, rows_in, tree_of}
use Rattle.words.proofs.Strides.{words-few}
use Rattle.words.specs.InShape.{InShape}
use Rattle.words.specs.Words.{nodes#, c#, circles#, edition#, l#, m#, n#, words_of_lem}
use borrow.Author.Tests.{eq-eqb, ne_eqb}
use lib.ListN.{drop, length, length-append, length-drop, length-map, take}
use lib.Seq.{drop-append-le, take-append-le}
use mathlib.Core.Bool.{Bool, cond, true}
use mathlib.Core.List.{List, ◌++◌, ◌∷◌}
use mathlib.Core.Path.{◌∙◌, ◌≡◌, ap, ap₂, refl, subst, sym}
use native.Mathlib.Nat.{div_self, mul-add-div}
use native.Mathlib.Omega.{arith}

-- the header's c is one that a table may have
columns-ok : (w : List ℕ) → InShape w → columns_ok_lem (c# w) ≡ true
columns-ok w S = both-within 1 max_columns (c# w) S.whole.columns.0 S.whole.columns.1

-- so are its m and l
pub share-ok : (w : List ℕ) → InShape w → share_ok_lem (m# w) (l# w) ≡ true
share-ok w S =
    rw (both-within 2 64 (m# w) S.whole.fan.0 S.whole.fan.1, both-within (m# w) 1_024 (l# w) S.whole.leaf.0 S.whole.leaf.1)

-- on an empty table the outcome is the build of one row
pub append_one : (T : List ℕ) (c : ℕ) (w : List ℕ) → n# w ≡ 0 → appended T c w ≡ build T c (circles# w) 2 (m# w) (l# w)
unfolding appended
append_one T c w e = ap (λ (b : Bool). cond b (build T c (circles# w) 2 (m# w) (l# w))
    (encode 2 c (circles# w) (m# w) (l# w) (join (between T c (circles# w)) (m# w) (l# w) (n# w) max_depth 0 (tree_of w)))) (eq-eqb (n# w) 0 e)

-- else it is the tree with the row in it, numbered and written
pub append_some : (T : List ℕ) (c : ℕ) (w : List ℕ) → 1 ≤ n# w
    → appended T c w ≡ encode 2 c (circles# w) (m# w) (l# w) (join (between T c (circles# w)) (m# w) (l# w) (n# w) max_depth 0 (tree_of w))
unfolding appended
append_some T c w h = ap (λ (b : Bool). cond b (build T c (circles# w) 2 (m# w) (l# w))
    (encode 2 c (circles# w) (m# w) (l# w) (join (between T c (circles# w)) (m# w) (l# w) (n# w) max_depth 0 (tree_of w))))
    (ne_eqb (n# w) 0 (λ q. omega arith))

-- a table whose rows are those that an accepted edition 2 index is over, and one more
pub record Longer (d : ℕ → ℕ → ℕ) (T : List ℕ) (c : ℕ) (w : List ℕ) : Type 0 where
  pub accepted : Accepted d w
  pub edition : edition# w ≡ 2
  pub columns : c# w ≡ c
  pub rows : rows_of T c ≡ n# w + 1
  pub few : n# w + 1 ≤ max_rows
  pub small : Every (λ v. v ≤ 65535) T
  pub round : Rounded T c (circles# w)
  pub same : Agree (n# w) d (between T c (circles# w))

module _ {d : ℕ → ℕ → ℕ} {T : List ℕ} {c : ℕ} {w : List ℕ} (L : Longer d T c w) where
  -- the tree with the row in it
  abbrev pub new_tree : Grove
  new_tree = join (between T c (circles# w)) (m# w) (l# w) (n# w) max_depth 0 (tree_of w)

  -- the old index is in shape
  old_shape : InShape w
  old_shape = shape_of d w L.accepted

  -- how many members the old tree has
  old_count : length (entries (tree_of w)) ≡ n# w
  old_count = ap length (entries_tree w old_shape) ∙ simp (length-map, range_length)

  -- c is right
  new_columns : columns_ok_lem c ≡ true
  new_columns = subst (λ (k : ℕ). columns_ok_lem k ≡ true) L.columns (columns-ok w old_shape)

  -- so are the circles
  new_circles : circles_ok_lem c (circles# w) ≡ true
  new_circles = subst (λ (k : ℕ). circles_ok_lem k (circles# w) ≡ true) L.columns (header_last w L.accepted.words).1

  -- the old tree is well made by the new table's distance
  old_good : 1 ≤ n# w → Good (between T c (circles# w)) (m# w) (l# w) (tree_of w)
  old_good h =
      good_agree d (between T c (circles# w)) (m# w) (l# w) (tree_of w)
      (subst (λ (n : ℕ). Agree n d (between T c (circles# w))) (sym old_count) L.same)
      (accepted_good d w L.accepted L.edition h)

  -- the new one is, and has all rows
  pub new_good : 1 ≤ n# w → Appended (between T c (circles# w)) (m# w) (l# w) (tree_of w) new_tree
  new_good h =
      subst (λ (z : ℕ). Appended (between T c (circles# w)) (m# w) (l# w) (tree_of w)
      (join (between T c (circles# w)) (m# w) (l# w) z max_depth 0 (tree_of w))) old_count
      (join_good (between T c (circles# w)) (metric T c (circles# w) L.round)
      (between-most T c (circles# w) (omega (arith, old_shape.whole.columns.1, L.columns)) L.small) (m# w) (l# w)
      (omega (arith, old_shape.whole.fan.0)) old_shape.whole.leaf.0 (tree_of w) (old_good h))

  -- THE FULL CHECK ACCEPTS THE INDEX WITH ONE ROW MORE
  pub append_accepted : Accepted (between T c (circles# w)) (appended T c w)
  append_accepted = go (n# w) refl
    where
      go : (n : ℕ) → n# w ≡ n → Accepted (between T c (circles# w)) (appended T c w)
      go zero e =
          subst (Accepted (between T c (circles# w))) (sym (append_one T c w e))
          (build-accepted T c (circles# w) 2 (m# w) (l# w) refl new_columns new_circles (share-ok w old_shape) (omega (arith, L.rows, L.few))
          L.small L.round)
      go (suc n) e =
          let N = new_good (omega arith) in
          subst (Accepted (between T c (circles# w))) (sym (append_some T c w (omega arith)))
          (encode-accepted (between T c (circles# w)) 2 c (circles# w) (m# w) (l# w) new_tree refl new_columns new_circles (share-ok w old_shape)
          (omega (arith, N.count, old_count, L.few)) N.good)

  -- ITS TREE IS THE OLD TREE WITH THE ROW IN IT
  pub append_tree : 1 ≤ n# w → tree_of (appended T c w) ≡ new_tree
  append_tree h =
      let G = (new_good h).good in
      ap tree_of (append_some T c w h) ∙ encode_tree c (circles# w) (m# w) (l# w) new_tree G.one G.even G.fine

  -- the old tree, as nodes side by side
  old_made : 1 ≤ n# w → Made (between T c (circles# w)) (m# w) (l# w) max_depth (tree_of w)
  old_made h = good_made (old_good h)

  -- no row of the old tree stands twice, the new one counted
  old_once : 1 ≤ n# w → Once (n# w) (tree_of w)
  old_once h =
      let G = old_good h in
      fresh_in (n# w) (rows_in (tree_of w)) (subst (λ (n : ℕ). Every (λ i. i < n) (rows_in (tree_of w))) old_count G.rows) G.once

  -- ALL GROUPS BUT ONE KEEP THEIR MEMBERS AND THEIR ORDER
  pub append_order : 1 ≤ n# w → Order (between T c (circles# w)) (m# w) (l# w) (n# w) 0 (tree_of w) (tree_of (appended T c w))
  append_order h =
      subst (Order (between T c (circles# w)) (m# w) (l# w) (n# w) 0 (tree_of w)) (sym (append_tree h))
      (join-order (between T c (circles# w)) (m# w) (l# w) (n# w) old_shape.whole.fan.0 old_shape.whole.leaf.0 0 max_depth 0 (tree_of w)
      (omega arith) (old_made h) (old_once h) (omega (arith, (old_good h).one)))

  -- THE OTHER GROUP'S ROWS AND THE NEW ONE ARE THE ROWS OF WHAT STANDS IN ITS PLACE
  pub append_rows : (h : 1 ≤ n# w) (f : ℕ → Bool)
      → tally f (lefts (together (append_order h).new)) ≡ tally f (lefts (append_order h).old) + bit (f (n# w))
  append_rows h f =
      let O = append_order h in
      let bs : List (ℕ × ℕ) = together O.before in
      let fs : List (ℕ × ℕ) = together O.behind in
      let ns : List (ℕ × ℕ) = together O.new in
      let old : entries (tree_of w) ≡ bs ++ (O.old ++ fs) =
      sym (groups-entries 0 (tree_of w)) ∙ ap together O.was ∙ each_append (λ q. q.1) O.before ((O.depth, O.old) ∷ O.behind) in
      let new : entries (tree_of (appended T c w)) ≡ bs ++ (ns ++ fs) =
      sym (groups-entries 0 (tree_of (appended T c w))) ∙ ap together O.is ∙ each_append (λ q. q.1) O.before (O.new ++ O.behind)
      ∙ ap (λ (x : List (ℕ × ℕ)). bs ++ x) (each_append (λ q. q.1) O.new O.behind) in
      let t : tally f (rows_in (tree_of (appended T c w))) ≡ tally f (rows_in (tree_of w)) + bit (f (n# w)) =
      ap (λ (g : Grove). tally f (rows_in g)) (append_tree h) ∙ (new_good h).rows f
      ∙ ap (λ (z : ℕ). tally f (rows_in (tree_of w)) + bit (f z)) old_count in
      omega (
        arith,
        ap (λ (es : List (ℕ × ℕ)). tally f (lefts es)) old,
        ap (λ (es : List (ℕ × ℕ)). tally f (lefts es)) new,
        tally_lefts f bs (O.old ++ fs),
        tally_lefts f O.old fs,
        tally_lefts f bs (ns ++ fs),
        tally_lefts f ns fs,
      )

  -- THE HEADER: edition 2, one row more, the same columns, m, l and circles
  pub append_header : (edition# (appended T c w) ≡ 2) × (n# (appended T c w) ≡ n# w + 1) × (c# (appended T c w) ≡ c) × (m# (appended T c w) ≡ m# w)
      × (l# (appended T c w) ≡ l# w) × (circles# (appended T c w) ≡ circles# w)
  unfolding encode build
  append_header = go (n# w) refl
    where
      Fits : List ℕ → Type 0
      Fits v = (edition# v ≡ 2) × (n# v ≡ n# w + 1) × (c# v ≡ c) × (m# v ≡ m# w) × (l# v ≡ l# w) × (circles# v ≡ circles# w)

      go : (n : ℕ) → n# w ≡ n → Fits (appended T c w)
      go zero e =
          let one : rows_of T c ≡ 1 = omega (arith, L.rows) in
          let p = planted (between T c (circles# w)) (metric T c (circles# w) L.round)
          (between-most T c (circles# w) (omega (arith, old_shape.whole.columns.1, L.columns)) L.small)
          (m# w) (l# w) (omega (arith, old_shape.whole.fan.0)) old_shape.whole.leaf.0 0 in
          let n : length (entries (plant (between T c (circles# w)) (m# w) (l# w) (rows_of T c))) ≡ n# w + 1 =
          ap (λ (k : ℕ). length (entries (plant (between T c (circles# w)) (m# w) (l# w) k))) one ∙ p.0 ∙ omega arith in
          subst Fits (sym (append_one T c w e)) (refl, n, refl, refl, refl, refl)
      go (suc n) e =
          let some : 1 ≤ n# w = omega arith in
          subst Fits (sym (append_some T c w some)) (refl, (new_good some).count ∙ ap (λ (n : ℕ). n + 1) old_count, refl, refl, refl, refl)

  -- IT HAS AS MANY WORDS AS ITS HEADER ASKS FOR
  pub append_length : length (appended T c w) ≡ words_of_lem (appended T c w)
  unfolding build
  append_length = go (n# w) refl
    where
      go : (n : ℕ) → n# w ≡ n → length (appended T c w) ≡ words_of_lem (appended T c w)
      go zero e =
          subst (λ (v : List ℕ). length v ≡ words_of_lem v) (sym (append_one T c w e))
          (encode-length 2 c (circles# w) (m# w) (l# w) (plant (between T c (circles# w)) (m# w) (l# w) (rows_of T c)) (omega arith, omega arith))
      go (suc n) e =
          subst (λ (v : List ℕ). length v ≡ words_of_lem v) (sym (append_some T c w (omega arith)))
          (encode-length 2 c (circles# w) (m# w) (l# w) new_tree (omega arith, omega arith))

  -- AND FITS THE ROOM OF A BUILD OF ONE ROW MORE
  pub append_room : length (appended T c w) ≤ 12 * (n# w + 1) + 8
  append_room =
      let S = shape_of (between T c (circles# w)) (appended T c w) append_accepted in
      omega (arith, append_length, append_header.1, words-few (appended T c w) S.whole)

  -- m NODES MORE, WHERE A LEAF IS SPLIT, OR NONE
  pub append_nodes : 1 ≤ n# w → (b : Bool) × (nodes# (appended T c w) ≡ nodes# w + cond b (m# w) 0)
  unfolding encode
  append_nodes h =
      let G = old_good h in
      let N = (new_good h).good in
      let p = join-size (between T c (circles# w)) (m# w) (l# w) old_shape.whole.fan.0 old_shape.whole.leaf.0 (n# w) max_depth 0 (tree_of w)
      (old_made h)
      (old_once h) (omega (arith, G.one)) in
      let was : nodes# w ≡ size (tree_of w) =
      sym (ap length (numbered_is w old_shape (tree-fits w L.accepted.shape)) ∙ simp (length-map, range_length))
      ∙ numbered-size (l# w) (tree_of w) G.fine in (
        p.0,
        ap (λ (v : List ℕ). nodes# v) (append_some T c w h) ∙ numbered-size (l# w) new_tree N.fine ∙ p.1
            ∙ ap (λ (n : ℕ). n + cond p.0 (m# w) 0) (sym was),
      )

-- ---- a row appended to a table
-- the rows of the table stay
pub row_front : (U r : List ℕ) (c n i : ℕ) → length U ≡ c * n → i < n → row (U ++ r) c i ≡ row U c i
row_front U r c n i e h =
    let q = row_ends c n i h in
    ap (take c) (drop-append-le (c * i) U r (omega arith)) ∙ take-append-le c (drop (c * i) U) r (simp length-drop (omega arith))

-- an index accepted with a table, and that table with a row appended
pub longer_of : (U r : List ℕ) (c : ℕ) (w : List ℕ) → Accepted (between U c (circles# w)) w → edition# w ≡ 2 → c# w ≡ c → length U ≡ c * n# w
    → length r ≡ c → n# w + 1 ≤ max_rows → Every (λ v. v ≤ 65535) (U ++ r) → Rounded (U ++ r) c (circles# w)
    → Longer (between U c (circles# w)) (U ++ r) c w
unfolding between
longer_of U r c w A two hc hU hr few small round =
    let S = shape_of (between U c (circles# w)) w A in
    let some : 0 < c = omega (arith, S.whole.columns.0) in
    let len : length (U ++ r) ≡ c * n# w + c = omega (arith, length-append U r) in
    record {
      accepted = A;
      edition = two;
      columns = hc;
      rows = ap (λ (k : ℕ). k / c) len ∙ mul-add-div some (n# w) c ∙ ap (λ (k : ℕ). n# w + k) (div_self some);
      few = few;
      small = small;
      round = round;
      same = λ i j p q. ap₂ (λ (x y : List ℕ). l1 c (circles# w) x y) (sym (row_front U r c (n# w) i hU p)) (sym (row_front U r c (n# w) j hU q));
    }

-- IF THE OLD INDEX PASSED THE FULL CHECK WITH THE OLD TABLE, SO DOES THE NEW WITH THE TABLE THAT HAS ONE ROW MORE
pub append_row : (U r : List ℕ) (c : ℕ) (w : List ℕ) → Accepted (between U c (circles# w)) w → edition# w ≡ 2 → c# w ≡ c → length U ≡ c * n# w
    → length r ≡ c → n# w + 1 ≤ max_rows → Every (λ v. v ≤ 65535) (U ++ r) → Rounded (U ++ r) c (circles# w)
    → Accepted (between (U ++ r) c (circles# w)) (appended (U ++ r) c w)
append_row U r c w A two hc hU hr few small round = append_accepted (longer_of U r c w A two hc hU hr few small round)
