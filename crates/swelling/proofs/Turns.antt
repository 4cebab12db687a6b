-- The words of all rows at once are those of one append after the other, for an index that the full check accepts. Assumes nothing.
use Prim.Native.Nat.{◌*◌, ◌+◌, ◌-◌, ◌/◌, ◌<◌, ◌≤◌, max, suc, zero, ℕ}
use Rattle.appending.proofs.Agree.{Agree}
use Rattle.appending.proofs.Appending.{Longer, append_accepted, append_header, append_one, append_some, append_tree, new_tree, row_front}
use Rattle.appending.proofs.Back.{entries_tree}
use Rattle.appending.proofs.Read.{encode_tree}
use Rattle.appending.proofs.Wellmade.{accepted_good}
use Rattle.appending.specs.Append.{appended, join}
use Rattle.laws.proofs.Every.{every_of, every_take}
use Rattle.laws.proofs.Ranges.{range_length}
use Rattle.laws.specs.Every.{Every}
use Rattle.laws.specs.Lists.{range}
use Rattle.limits.specs.Limits.{max_depth, max_distance, max_rows}
use Rattle.measure.proofs.Metric.{between-most, metric}
use Rattle.measure.specs.Distance.{circle, l1}
use Rattle.measure.specs.Table.{Rounded, between, row, rows_of}
use Rattle.swelling.proofs.Agreeing.{grow-agree, join-agree}
use Rattle.swelling.specs.Rows.{appended_rows, first_rows_lem, in_turn, joins}
use Rattle.tree.proofs.Accepted.{shape_of}
use Rattle.tree.proofs.Built.{planted}
use Rattle.tree.proofs.Good.{Good}
use Rattle.tree.specs.Build.{build, plant}
use Rattle.tree.specs.Check.{Accepted}
use Rattle.tree.specs.Encode.{encode}
use Rattle.tree.specs.Grove.{Grove, bare, entries, rows_in, tree_of}
use Rattle.words.specs.InShape.{InShape}
use Rattle.words.specs.Words.{c#, circles#, edition#, l#, m#, n#}
use borrow.Author.Tests.{eq-eqb, ne_eqb}
use lib.ListN.{get_or-eq_default, drop, get_or, length, length-drop, length-map, length-take, take, take-append-drop}
use lib.Seq.{length-take-le, take_all}
use mathlib.Core.Bool.{Bool, cond}
use mathlib.Core.List.{List}
use mathlib.Core.Path.{◌∙◌, ◌≡◌, ap, ap₂, refl, subst, sym}
use native.Mathlib.Decide.{dec_lt}
use native.Mathlib.Nat.{div_self, le_trans, mul-add-div, mul-div-le, mul-le-mul_left, mul-suc}
use native.Mathlib.Numerals.{add-one}
use native.Mathlib.Omega.{arith}

module _ (T : List ℕ) (c : ℕ) (some : 0 < c) where
  -- the table's first k rows are there
  pub rows-there : (k : ℕ) → k ≤ rows_of T c → c * k ≤ length T
  rows-there k h = le_trans (mul-le-mul_left c h) (mul-div-le (length T) c)

  -- so many words
  pub rows-length : (k : ℕ) → k ≤ rows_of T c → length (first_rows_lem T c k) ≡ c * k
  rows-length k h = length-take-le (c * k) T (rows-there k h)

  -- so many rows
  rows_count : (k : ℕ) → suc k ≤ rows_of T c → rows_of (first_rows_lem T c (suc k)) c ≡ suc k
  rows_count k h =
      ap (λ (n : ℕ). n / c) (rows-length (suc k) h ∙ mul-suc c k) ∙ mul-add-div some k c ∙ ap (λ (n : ℕ). k + n) (div_self some) ∙ omega arith

  -- they are the table's own
  rows-own : (k i : ℕ) → k ≤ rows_of T c → i < k → row T c i ≡ row (first_rows_lem T c k) c i
  rows-own k i h q =
      ap (λ (U : List ℕ). row U c i) (sym (take-append-drop (c * k) T)) ∙ row_front (take (c * k) T) (drop (c * k) T) c k i (rows-length k h) q

  -- AND AS FAR APART
  rows_agree : (o k : ℕ) → k ≤ rows_of T c → Agree k (between (first_rows_lem T c k) c o) (between T c o)
  unfolding between
  rows_agree o k h i j p q = ap₂ (λ (x y : List ℕ). l1 c o x y) (sym (rows-own k i h p)) (sym (rows-own k j h q))

  -- and on the circle where the table is
  rows-round : (o k : ℕ) → k ≤ rows_of T c → Rounded T c o → Rounded (first_rows_lem T c k) c o
  rows-round o k h round i j q r = go (dec_lt i k)
    where
      go : Dec (i < k) → get_or (row (first_rows_lem T c k) c i) j 0 < circle
      go (yes u) = subst (λ (a : List ℕ). get_or a j 0 < circle) (rows-own k i h u) (round i j q r)
      go (no u) =
          let beyond : c * k ≤ c * i = mul-le-mul_left c (omega arith) in
          let none : get_or (row (first_rows_lem T c k) c i) j 0 ≡ 0 =
          get_or-eq_default (row (first_rows_lem T c k) c i) 0 {n = j} (simp (length-take, length-drop) (omega arith)) in
          rw none (omega arith)

-- an edition 2 index that the full check accepts with the table's first rows; the table has more
pub record Part (T : List ℕ) (c : ℕ) (w : List ℕ) : Type 0 where
  pub accepted : Accepted (between (first_rows_lem T c (n# w)) c (circles# w)) w
  pub edition : edition# w ≡ 2
  pub columns : c# w ≡ c
  pub more : n# w < rows_of T c
  pub few : rows_of T c ≤ max_rows
  pub small : Every (λ v. v ≤ 65535) T
  pub round : Rounded T c (circles# w)

module _ {T : List ℕ} {c : ℕ} {w : List ℕ} (P : Part T c w) where
  -- it is in shape
  shaped : InShape w
  shaped = shape_of (between (first_rows_lem T c (n# w)) c (circles# w)) w P.accepted

  -- there are columns
  wide : 0 < c
  wide = omega (arith, shaped.whole.columns.0, P.columns)

  -- how many members its tree has
  count : length (entries (tree_of w)) ≡ n# w
  count = ap length (entries_tree w shaped) ∙ simp (length-map, range_length)

  -- the table as far as the next row
  abbrev pub next : List ℕ
  next = first_rows_lem T c (n# w + 1)

  -- for that row the index is one to append to
  pub step : Longer (between (first_rows_lem T c (n# w)) c (circles# w)) next c w
  step =
      let one : n# w + 1 ≤ rows_of T c = omega (arith, P.more) in
      let less : n# w ≤ rows_of T c = omega (arith, P.more) in
      record {
        accepted = P.accepted;
        edition = P.edition;
        columns = P.columns;
        rows = ap (λ (k : ℕ). rows_of (first_rows_lem T c k) c) (add-one (n# w)) ∙ rows_count T c wide (n# w) (omega (arith, P.more)) ∙ sym (add-one (n# w));
        few = omega (arith, P.more, P.few);
        small = every_take (λ v. v ≤ 65535) (c * (n# w + 1)) T P.small;
        round = rows-round T c wide (circles# w) (n# w + 1) one P.round;
        same = λ i j p q. rows_agree T c wide (circles# w) (n# w) less i j p q
            ∙ sym (rows_agree T c wide (circles# w) (n# w + 1) one i j (omega arith) (omega arith));
      }

  -- the index after it
  abbrev pub then' : List ℕ
  then' = appended next c w

  -- it is one with the next rows, where there are more
  pub onward : n# w + 1 < rows_of T c → Part T c then'
  onward h =
      let H = append_header step in
      record {
        accepted = subst (λ (k : ℕ). Accepted (between (first_rows_lem T c k) c (circles# then')) then') (sym H.1)
            (subst (λ (o : ℕ). Accepted (between next c o) then') (sym H.5) (append_accepted step));
        edition = H.0;
        columns = H.2;
        more = omega (arith, H.1);
        few = P.few;
        small = P.small;
        round = subst (Rounded T c) (sym H.5) P.round;
      }

  -- the row joined by the whole table's distance
  abbrev joined_tree : Grove
  joined_tree = join (between T c (circles# w)) (m# w) (l# w) (n# w) max_depth 0 (tree_of w)

  -- is that by the part's
  same_tree : 1 ≤ n# w → new_tree step ≡ joined_tree
  same_tree h =
      let G = accepted_good (between (first_rows_lem T c (n# w)) c (circles# w)) w P.accepted P.edition h in
      join-agree (n# w + 1) (omega arith) (between next c (circles# w)) (between T c (circles# w))
      (rows_agree T c wide (circles# w) (n# w + 1) (omega (arith, P.more))) (m# w) (l# w) (n# w)
      (omega arith) max_depth 0 (tree_of w) G.full
      (every_of (λ i. i < length (entries (tree_of w))) (λ i. i < n# w + 1) (λ i u. omega (arith, count)) (rows_in (tree_of w)) G.rows)

  -- the first row's tree, by the whole table's distance
  same-plant : plant (between (first_rows_lem T c 1) c (circles# w)) (m# w) (l# w) 1 ≡ plant (between T c (circles# w)) (m# w) (l# w) 1
  same-plant =
      grow-agree 1 (omega arith) (between (first_rows_lem T c 1) c (circles# w)) (between T c (circles# w))
      (rows_agree T c wide (circles# w) 1 (omega (arith, P.more))) (m# w) (l# w) max_depth
      (range 0 1) bare (omega arith) (omega arith, tt)

  -- the distances are in range
  near : (i j : ℕ) → between T c (circles# w) i j ≤ max_distance
  near = between-most T c (circles# w) (omega (arith, shaped.whole.columns.1, P.columns)) P.small

  -- the first row's tree is well made
  first_good : Good (between T c (circles# w)) (m# w) (l# w) (plant (between T c (circles# w)) (m# w) (l# w) 1)
  first_good =
      (planted (between T c (circles# w)) (metric T c (circles# w) P.round) near (m# w) (l# w) (omega (arith, shaped.whole.fan.0))
      shaped.whole.leaf.0 0).1

  -- on an empty index the first append writes it
  first-words : n# w ≡ 0 → then' ≡ encode 2 c (circles# w) (m# w) (l# w) (plant (between T c (circles# w)) (m# w) (l# w) 1)
  unfolding build
  first-words e =
      let one : n# w + 1 ≡ 1 = omega arith in
      append_one next c w e
      ∙ ap₂ (λ (k n : ℕ). encode 2 c (circles# w) (m# w) (l# w) (plant (between (first_rows_lem T c k) c (circles# w)) (m# w) (l# w) n)) one
      (step.rows ∙ one)
      ∙ ap (encode 2 c (circles# w) (m# w) (l# w)) same-plant

  -- and so it is read back
  first_tree : n# w ≡ 0 → tree_of then' ≡ plant (between T c (circles# w)) (m# w) (l# w) 1
  first_tree e =
      ap tree_of (first-words e)
      ∙ encode_tree c (circles# w) (m# w) (l# w) (plant (between T c (circles# w)) (m# w) (l# w) 1) first_good.one first_good.even
      first_good.fine

module _ (T : List ℕ) (c : ℕ) where
  -- the words of k + 1 rows from n on, put into the tree t
  abbrev written : ℕ → ℕ → ℕ → ℕ → ℕ → Grove → List ℕ
  written o m l n k t = encode 2 c o m l (joins (between T c o) m l (range n k) t)

  -- where there is a row, k + 1 appends write the tree with k + 1 rows joined
  turns-some : (k : ℕ) (w : List ℕ) (P : Part T c w) → 1 ≤ n# w → n# w + suc k ≤ rows_of T c
      → in_turn T c (suc k) w ≡ written (circles# w) (m# w) (l# w) (n# w) (suc k) (tree_of w)
  unfolding in_turn joins
  turns-some zero w P h q = append_some (next P) c w h ∙ ap (encode 2 c (circles# w) (m# w) (l# w)) (same_tree P h)
  turns-some (suc k) w P h q =
      let H = append_header (step P) in
      let w' : List ℕ = then' P in
      turns-some k w' (onward P (omega arith)) (omega (arith, H.1)) (omega (arith, H.1))
      ∙ ap (λ (o : ℕ). written o (m# w') (l# w') (n# w') (suc k) (tree_of w')) H.5
      ∙ ap₂ (λ (m l : ℕ). written (circles# w) m l (n# w') (suc k) (tree_of w')) H.3 H.4
      ∙ ap₂ (λ (n : ℕ) (t : Grove). written (circles# w) (m# w) (l# w) n (suc k) t) (H.1 ∙ add-one (n# w)) (append_tree (step P) h ∙ same_tree P h)

  -- where there is none, the first writes its own tree
  turns-none : (k : ℕ) (w : List ℕ) (P : Part T c w) → n# w ≡ 0 → suc k ≤ rows_of T c
      → in_turn T c (suc k) w ≡ written (circles# w) (m# w) (l# w) 1 k (plant (between T c (circles# w)) (m# w) (l# w) 1)
  unfolding in_turn joins
  turns-none zero w P e q = first-words P e
  turns-none (suc k) w P e q =
      let H = append_header (step P) in
      let w' : List ℕ = then' P in
      turns-some k w' (onward P (omega arith)) (omega (arith, H.1)) (omega (arith, H.1))
      ∙ ap (λ (o : ℕ). written o (m# w') (l# w') (n# w') (suc k) (tree_of w')) H.5
      ∙ ap₂ (λ (m l : ℕ). written (circles# w) m l (n# w') (suc k) (tree_of w')) H.3 H.4
      ∙ ap₂ (λ (n : ℕ) (t : Grove). written (circles# w) (m# w) (l# w) n (suc k) t) (H.1 ∙ omega arith) (first_tree P e)

  -- each of them is accepted
  turns-accepted : (k : ℕ) (w : List ℕ) (P : Part T c w) → n# w + suc k ≤ rows_of T c
      → Accepted (between (first_rows_lem T c (n# w + suc k)) c (circles# w)) (in_turn T c (suc k) w)
  unfolding in_turn
  turns-accepted zero w P q = append_accepted (step P)
  turns-accepted (suc k) w P q =
      let H = append_header (step P) in
      let w' : List ℕ = then' P in
      let same : n# w' + suc k ≡ n# w + suc (suc k) = omega (arith, H.1) in
      subst (λ (n : ℕ). Accepted (between (first_rows_lem T c n) c (circles# w)) (in_turn T c (suc k) w')) same
      (subst (λ (o : ℕ). Accepted (between (first_rows_lem T c (n# w' + suc k)) c o) (in_turn T c (suc k) w')) H.5
      (turns-accepted k w' (onward P (omega arith)) (omega (arith, H.1))))

-- on an index with a row
pub rows-some : (T : List ℕ) (c : ℕ) (w : List ℕ) → 1 ≤ n# w
    → appended_rows T c w
    ≡ encode 2 c (circles# w) (m# w) (l# w) (joins (between T c (circles# w)) (m# w) (l# w) (range (n# w) (rows_of T c - n# w)) (tree_of w))
unfolding appended_rows
rows-some T c w h =
    let had : max (n# w) 1 ≡ n# w = omega arith in
    ap₂ (λ (s : Bool) (n : ℕ). encode 2 c (circles# w) (m# w) (l# w) (joins (between T c (circles# w)) (m# w) (l# w) (range n (rows_of T c - n))
    (cond s (plant (between T c (circles# w)) (m# w) (l# w) 1) (tree_of w)))) (ne_eqb (n# w) 0 (λ q. omega arith)) had

-- on an empty one
pub rows_none : (T : List ℕ) (c : ℕ) (w : List ℕ) → n# w ≡ 0
    → appended_rows T c w
    ≡ encode 2 c (circles# w) (m# w) (l# w) (joins (between T c (circles# w)) (m# w) (l# w) (range 1 (rows_of T c - 1))
    (plant (between T c (circles# w)) (m# w) (l# w) 1))
unfolding appended_rows
rows_none T c w e =
    let had : max (n# w) 1 ≡ 1 = omega arith in
    ap₂ (λ (s : Bool) (n : ℕ). encode 2 c (circles# w) (m# w) (l# w) (joins (between T c (circles# w)) (m# w) (l# w) (range n (rows_of T c - n))
    (cond s (plant (between T c (circles# w)) (m# w) (l# w) 1) (tree_of w)))) (eq-eqb (n# w) 0 e) had

module _ {T : List ℕ} {c : ℕ} {w : List ℕ} (P : Part T c w) where
  -- ALL ROWS AT ONCE GIVE THE WORDS OF ONE APPEND AFTER THE OTHER
  pub rows-in-turn : in_turn T c (rows_of T c - n# w) w ≡ appended_rows T c w
  rows-in-turn = go (n# w) refl
    where
      left : ℕ
      left = rows_of T c - n# w - 1

      all : rows_of T c - n# w ≡ suc left
      all = omega (arith, P.more)

      go : (n : ℕ) → n# w ≡ n → in_turn T c (rows_of T c - n# w) w ≡ appended_rows T c w
      go zero e =
          let k : left ≡ rows_of T c - 1 = omega arith in
          ap (λ (k : ℕ). in_turn T c k w) all ∙ turns-none T c left w P e (omega (arith, P.more))
          ∙ ap (λ (k : ℕ). written T c (circles# w) (m# w) (l# w) 1 k (plant (between T c (circles# w)) (m# w) (l# w) 1)) k ∙ sym (rows_none T c w e)
      go (suc n) e =
          ap (λ (k : ℕ). in_turn T c k w) all ∙ turns-some T c left w P (omega arith) (omega (arith, P.more))
          ∙ ap (λ (k : ℕ). written T c (circles# w) (m# w) (l# w) (n# w) k (tree_of w)) (sym all) ∙ sym (rows-some T c w (omega arith))

  -- AND THE FULL CHECK ACCEPTS THEM WITH THE WHOLE TABLE
  pub rows-accepted : length T ≡ c * rows_of T c → Accepted (between T c (circles# w)) (appended_rows T c w)
  rows-accepted e =
      let k : ℕ = rows_of T c - n# w - 1 in
      let all : n# w + suc k ≡ rows_of T c = omega (arith, P.more) in
      let turns : suc k ≡ rows_of T c - n# w = omega (arith, P.more) in
      let whole : first_rows_lem T c (n# w + suc k) ≡ T = ap (first_rows_lem T c) all ∙ take_all (c * rows_of T c) T (omega arith) in
      subst (λ (v : List ℕ). Accepted (between T c (circles# w)) v) (ap (λ (k : ℕ). in_turn T c k w) turns ∙ rows-in-turn)
      (subst (λ (U : List ℕ). Accepted (between U c (circles# w)) (in_turn T c (suc k) w)) whole (turns-accepted T c k w P (omega (arith, all))))
