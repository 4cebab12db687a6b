-- New rows marked with the child that takes them, one after the other. Assumes nothing.
use Prim.Native.Nat.{◌*◌, ◌+◌, ◌-◌, ◌<◌, ◌≤◌, suc, zero, ℕ}
use Rattle.appending.specs.Append.{lowest_at}
use Rattle.dealing.specs.Marked.{Marks, mark_entry, marked}
use Rattle.laws.proofs.Joins.{each_append}
use Rattle.laws.proofs.Lists.{map-map}
use Rattle.laws.proofs.Maps.{map_shift}
use Rattle.laws.proofs.Parts.{put_more}
use Rattle.laws.specs.Lists.{each, range}
use Rattle.laying.proofs.Ordering.{every_place}
use Rattle.leafward.specs.Way.{NewRow, closest_kid}
use Rattle.limits.specs.Limits.{max_columns, max_rows}
use Rattle.lodging.proofs.Entries.{rows_count, rows-read}
use Rattle.measure.proofs.Rows.{row_ends}
use Rattle.measure.specs.Table.{between}
use Rattle.rounds.proofs.Parts.{mid_end}
use Rattle.rounds.specs.Entries.{InTable}
use Rattle.split.specs.Runs.{rows}
use Rattle.swelling.specs.Pieces.{kid_for}
use Rattle.words.specs.Words.{nodes#, at, child#, circles#, first#, m#, n#}
use borrow.Rule.Slice.PartMut.{mid_of, put_mid}
use lib.ListN.{drop, drop_of_length-le, get_or, length, length-append, length-drop, take}
use lib.Seq.{drop_at, get_or-drop, length-take-le, take_all, take-suc}
use mathlib.Core.List.{List, [], ◌++◌, ◌∷◌, append-nil, map}
use mathlib.Core.Path.{◌∙◌, ◌≡◌, ap, ap₂, refl, subst, sym}
use native.Mathlib.Nat.{add-zero}
use native.Mathlib.Omega.{arith}

-- the closest child is the one whose place the row has
pub kid_place : (d : ℕ → ℕ → ℕ) (w : List ℕ) (o z : ℕ) → closest_kid d w z o ≡ kid_for d w o z
unfolding closest_kid
kid_place d w o z =
    ap lowest_at
    (map_shift (λ i. d (first# w i) z) (child# w o) 0 (m# w)
    ∙ ap (λ (a : ℕ). map (λ i. d (first# w i) z) (range a (m# w))) (add-zero (child# w o))
    ∙ map-map (λ f. d f z) (first# w) (range (child# w o) (m# w)))

-- three words a row
pub marked_long : (d : ℕ → ℕ → ℕ) (w : List ℕ) (o : ℕ) (zs : List ℕ) → length (marked d w o zs) ≡ 3 * length zs
unfolding marked
marked_long d w o [] = refl
marked_long d w o (z ∷ zs) = omega (arith, marked_long d w o zs)

module _ {t : List ℕ} {c : ℕ} {w : List ℕ} {o : ℕ} {part₀ : List ℕ} (T : Marks t c w o part₀) where
  -- the rows
  abbrev rs : List ℕ
  rs = rows part₀

  -- an entry each
  all-count : 3 * length rs ≡ length part₀
  all-count = rows_count part₀ T.whole

  -- those before word p are marked
  pub record Marking (part : List ℕ) (p : ℕ) : Type 0 where
    pub i : ℕ
    pub place : p ≡ 3 * i
    pub upto : p ≤ length part₀
    pub words : part ≡ marked (between t c (circles# w)) w o (take i (rows part₀)) ++ drop (3 * i) part₀

  -- none is
  pub marking-start : Marking part₀ 0
  unfolding marked
  marking-start = record { i = 0; place = refl; upto = omega arith; words = refl }

  module _ {part : List ℕ} {p : ℕ} (inv : Marking part p) where
    -- their words
    front-size : length (marked (between t c (circles# w)) w o (take inv.i rs)) ≡ p
    front-size =
        marked_long (between t c (circles# w)) w o (take inv.i rs)
        ∙ omega (arith, length-take-le inv.i rs (omega (arith, inv.place, inv.upto, all-count)), inv.place)

    -- as long as it was
    pub marking-long : length part ≡ length part₀
    marking-long =
        ap length inv.words
        ∙ omega (
          arith,
          length-append (marked (between t c (circles# w)) w o (take inv.i rs)) (drop (3 * inv.i) part₀),
          front-size,
          length-drop (3 * inv.i) part₀,
          inv.place,
          inv.upto,
        )

    -- the next entry is whole
    pub marking-fits : p < length part → (p + 3 ≤ length part) × (length part ≤ 3145728)
    marking-fits h = (omega (arith, marking-long, inv.place, T.whole), omega (arith, marking-long, T.short))

    -- its row is the next
    row_is : {z : ℕ} → p < length part → z ≡ at part p → z ≡ get_or rs inv.i 0
    row_is {z} h e =
        let q : ℕ = 3 * inv.i in
        let y : q + 0 ≡ q = omega arith in
        let back : drop q part ≡ drop q part₀ =
        ap (drop q) inv.words ∙ drop_at (marked (between t c (circles# w)) w o (take inv.i rs)) (drop q part₀) q (front-size ∙ inv.place) in
        e ∙ ap (λ (k : ℕ). get_or part k 0) (inv.place ∙ sym y) ∙ sym (get_or-drop q part 0 0) ∙ ap (λ (l : List ℕ). get_or l 0 0) back
        ∙ get_or-drop q part₀ 0 0 ∙ ap (λ (k : ℕ). get_or part₀ k 0) y
        ∙ sym (rows-read part₀ inv.i T.whole (omega (arith, inv.place, marking-long)))

    -- it is in the table
    row-there : {z : ℕ} → p < length part → z ≡ at part p → InTable t c z × (z < max_rows)
    row-there {z} h e =
        let inside : inv.i < length rs = omega (arith, all-count, inv.place, marking-long) in
        let same : z ≡ get_or rs inv.i 0 = row_is h e in (
          subst (InTable t c) (sym same) (every_place (InTable t c) rs inv.i T.known inside),
          subst (λ (k : ℕ). k < max_rows) (sym same) (every_place (λ k. k < max_rows) rs inv.i T.few inside),
        )

    -- what is asked to find its child
    pub marking-lent : {z : ℕ} → p < length part → z ≡ at part p → NewRow t c w z × (z < max_rows)
    marking-lent h e =
        let r = row-there h e in
        (record { shape = T.shape; columns = T.columns; table = T.table; new = r.0 }, r.1)

    -- the child is a node
    pub marking-kid : {k child : ℕ} → k < m# w → child ≡ child# w o → (child + k < nodes# w) × (child + k ≤ 2097152)
    marking-kid h e =
        let K = (T.shape.node o T.there).kids T.inner in
        (omega (arith, K.inside), omega (arith, K.inside, T.shape.whole.nodes, T.shape.whole.rows))

    -- its first and the row can be measured
    pub marking-measured : {z f : ℕ} → p < length part → z ≡ at part p → f < n# w → (c ≤ max_columns) × (c * f + c ≤ length t) × (c * z + c ≤ length t)
    marking-measured {z} {f} h e low =
        (omega (arith, T.columns, T.shape.whole.columns.1), omega (arith, row_ends c (n# w) f low, T.table), (row-there h e).0)

    -- there is room for its entry
    pub marking-room : p < length part → 3 ≤ length (mid_of p (length part - p) part)
    marking-room h = omega (arith, ap length (mid_end p part), length-drop p part, marking-fits h)

    -- it is marked
    pub marking_step : (new : List ℕ) {z k x f child set : ℕ} → p < length part → z ≡ at part p → k ≡ closest_kid (between t c (circles# w)) w z o
        → child ≡ child# w o
        → f ≡ first# w (child + k) → set ≡ circles# w → x ≡ between t c set f z → new ≡ z ∷ x ∷ k ∷ drop 3 (mid_of p (length part - p) part)
        → Marking (put_mid p (length part - p) part new) (p + 3)
    unfolding marked
    marking_step new {z} {k} {x} {f} {child} h ez ek ec ef es ex e =
        let d : ℕ → ℕ → ℕ = between t c (circles# w) in
        let i : ℕ = inv.i in
        let kid : k ≡ kid_for d w o z = ek ∙ kid_place d w o z in
        let dist : x ≡ d (first# w (child# w o + kid_for d w o z)) z =
        ex ∙ ap (λ (a : ℕ). between t c a f z) es ∙ ap (λ (a : ℕ). d a z) (ef ∙ ap₂ (λ (a b : ℕ). first# w (a + b)) ec kid) in
        let entry : z ∷ x ∷ k ∷ [] ≡ mark_entry d w o (get_or rs i 0) =
        ap₂ (λ (a b : ℕ). z ∷ a ∷ b ∷ []) dist kid ∙ ap (mark_entry d w o) (row_is h ez) in
        let more : marked d w o (take i rs) ++ (z ∷ x ∷ k ∷ []) ≡ marked d w o (take (suc i) rs) =
        ap (λ (l : List ℕ). marked d w o (take i rs) ++ l) entry
        ∙ sym (ap (each (mark_entry d w o)) (take-suc rs i 0 (omega (arith, all-count, inv.place, marking-long)))
        ∙ each_append (mark_entry d w o) (take i rs) (get_or rs i 0 ∷ [])) in
        let up : p + 3 ≡ 3 * suc i = omega (arith, inv.place) in
        record {
          i = suc i;
          place = up;
          upto = omega (arith, marking-fits h, marking-long);
          words =
              put_more (marked d w o (take i rs)) (z ∷ x ∷ k ∷ []) part₀ part new p 3 front-size (omega arith)
              (inv.words ∙ ap (λ (q : ℕ). marked d w o (take i rs) ++ drop q part₀) (sym inv.place)) e
              ∙ ap₂ (λ (l : List ℕ) (q : ℕ). l ++ drop q part₀) more up;
        }

    -- all are
    pub marking-done : length part ≤ p → part ≡ marked (between t c (circles# w)) w o (rows part₀)
    marking-done h =
        inv.words
        ∙ ap₂ (λ (x y : List ℕ). marked (between t c (circles# w)) w o x ++ y)
        (take_all inv.i rs (omega (arith, all-count, inv.place, marking-long)))
        (drop_of_length-le part₀ {i = 3 * inv.i} (omega (arith, inv.place, marking-long)))
        ∙ append-nil (marked (between t c (circles# w)) w o rs)
