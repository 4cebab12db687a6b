-- A leaf's entries laid one by one: as they are stored, and measured with the rows that it takes. Assumes nothing.
use Prim.Native.Nat.{◌%◌, ◌*◌, ◌+◌, ◌-◌, ◌/◌, ◌<◌, ◌≤◌, suc, zero, ℕ}
use Rattle.laws.proofs.Joins.{each_append}
use Rattle.laws.proofs.Parts.{put_more}
use Rattle.laws.proofs.Ranges.{get_d_range, range_append, range_length}
use Rattle.laws.specs.Lists.{each, head, range}
use Rattle.laying.proofs.Ordering.{every_place}
use Rattle.limits.specs.Limits.{max_columns, max_rows}
use Rattle.lodging.proofs.Entries.{rows_count, rows-read}
use Rattle.lodging.specs.Standing.{Takes, kept_words, leaf_run, new_rows, row_of}
use Rattle.measure.proofs.Rows.{row_ends}
use Rattle.measure.specs.Table.{between}
use Rattle.rounds.proofs.Parts.{mid_end}
use Rattle.rounds.specs.Entries.{InTable}
use Rattle.split.proofs.Laid.{under, under_append, under_long}
use Rattle.split.specs.Runs.{laid}
use Rattle.words.specs.InShape.{InShape}
use Rattle.words.specs.Words.{nodes#, at, circles#, count#, dist#, first#, n#, pair_at, row#, run#, start#}
use borrow.Author.Tests.{le-ltb, lt-ltb, ltb-false, ltb-true}
use borrow.Rule.Slice.PartMut.{mid_of, put_mid}
use lib.Dec.{ltb}
use lib.ListN.{get_or-append, drop, drop_of_length-le, get_or, length, length-append, length-drop, length-map, take}
use lib.Seq.{drop_at, get_or-append-add, get_or-drop, length-take-le, take_all, take-suc}
use mathlib.Core.Bool.{Bool, cond, false, true}
use mathlib.Core.List.{List, [], ◌++◌, ◌∷◌, append-nil, map}
use mathlib.Core.Path.{◌∙◌, ◌≡◌, ap, ap₂, refl, subst, sym}
use native.Mathlib.Omega.{arith}

-- position p can be read
pub place_there : {w : List ℕ} → InShape w → (p : ℕ) → p < n# w → pair_at w p + 1 < length w
place_there S p h = omega (arith, S.whole.words)

-- ---- as they are stored
-- a position's entry
abbrev pub kept : List ℕ → ℕ → List ℕ
kept w p = row# w p ∷ dist# w p ∷ 0 ∷ []

-- three words a position
kept_long : (w : List ℕ) (ps : List ℕ) → length (each (kept w) ps) ≡ 3 * length ps
kept_long w [] = refl
kept_long w (p ∷ ps) = omega (arith, kept_long w ps)

-- i entries are laid
pub record Keeping (w : List ℕ) (o : ℕ) (part₀ : List ℕ) (s count : ℕ) (part : List ℕ) (i : ℕ) : Type 0 where
  pub shape : InShape w
  pub there : o < nodes# w
  pub starts : s ≡ start# w o
  pub counts : count ≡ count# w o
  pub fits : length part₀ ≡ 3 * count
  pub upto : i ≤ count
  pub words : part ≡ each (kept w) (range s i) ++ drop (3 * i) part₀

-- none is
pub keeping_start : {w : List ℕ} {o : ℕ} {part : List ℕ} {s count : ℕ} → InShape w → o < nodes# w → s ≡ start# w o → count ≡ count# w o
    → length part ≡ 3 * count# w o → Keeping w o part s count part 0
keeping_start S h es ec l = record { shape = S; there = h; starts = es; counts = ec; fits = omega arith; upto = omega arith; words = refl }

module _ {w : List ℕ} {o : ℕ} {part₀ : List ℕ} {s count : ℕ} {part : List ℕ} {i : ℕ} (inv : Keeping w o part₀ s count part i) where
  -- they take so many words
  front_long : length (each (kept w) (range s i)) ≡ 3 * i
  front_long = kept_long w (range s i) ∙ ap (λ (k : ℕ). 3 * k) (range_length s i)

  -- as long as it was
  pub keeping-long : length part ≡ length part₀
  keeping-long =
      ap length inv.words
      ∙ omega (arith, length-append (each (kept w) (range s i)) (drop (3 * i) part₀), front_long, length-drop (3 * i) part₀, inv.fits, inv.upto)

  -- the next position is there, and there is room for its entry
  pub keeping-next : i < count → (s + i < n# w) × (3 * i + 3 ≤ length part) × (s + count ≤ max_rows)
  keeping-next h =
      let N = inv.shape.node o inv.there in (
        omega (arith, N.run, inv.starts, inv.counts),
        omega (arith, keeping-long, inv.fits),
        omega
            (arith, N.run, inv.starts, inv.counts, inv.shape.whole.rows),
      )

  -- it can be read
  pub keeping-there : i < count → pair_at w (s + i) + 1 < length w
  keeping-there h = place_there inv.shape (s + i) (keeping-next h).0

  -- one more is laid
  pub keeping_step : (new : List ℕ) {row stored : ℕ} → i < count → row ≡ row# w (s + i) → stored ≡ dist# w (s + i)
      → new ≡ row ∷ stored ∷ 0 ∷ drop 3 (mid_of (3 * i) (length part - 3 * i) part)
      → Keeping w o part₀ s count (put_mid (3 * i) (length part - 3 * i) part new) (i + 1)
  keeping_step new h er ed e =
      let up : 3 * (i + 1) ≡ 3 * i + 3 = omega arith in
      let more : each (kept w) (range s i) ++ kept w (s + i) ≡ each (kept w) (range s (i + 1)) =
      sym (ap (each (kept w)) (range_append s i 1) ∙ each_append (kept w) (range s i) (range (s + i) 1)) in
      record {
        shape = inv.shape;
        there = inv.there;
        starts = inv.starts;
        counts = inv.counts;
        fits = inv.fits;
        upto = omega arith;
        words =
            put_more (each (kept w) (range s i)) (kept w (s + i)) part₀ part new (3 * i) 3 front_long (omega (arith, keeping-next h)) inv.words
            (e ∙ ap₂ (λ (x y : ℕ). x ∷ y ∷ 0 ∷ drop 3 (mid_of (3 * i) (length part - 3 * i) part)) er ed)
            ∙ ap₂ (λ (x : List ℕ) (k : ℕ). x ++ drop k part₀) more (sym up);
      }

  -- all are
  pub keeping-done : count ≤ i → part ≡ kept_words w o
  unfolding kept_words
  keeping-done h =
      let z : i ≡ count = omega (arith, inv.upto) in
      inv.words ∙ ap₂ (λ (x y : List ℕ). each (kept w) x ++ y) (ap₂ range inv.starts (z ∙ inv.counts))
      (drop_of_length-le part₀ {i = 3 * i} (omega (arith, inv.fits)))
      ∙ append-nil (each (kept w) (run# w o))

-- ---- one row of the leaf and those that it takes
-- one of its own
pub row-own : (w : List ℕ) (o : ℕ) (part : List ℕ) (i : ℕ) {s : ℕ} → s ≡ start# w o → i < count# w o → row# w (s + i) ≡ row_of w o part i
unfolding row_of
row-own w o part i e h =
    ap (λ (k : ℕ). row# w (k + i)) e ∙ sym (ap (λ (s : Bool). cond s (row# w (start# w o + i)) (at part (3 * i))) (lt-ltb i (count# w o) h))

-- one of the others
pub row_new : (w : List ℕ) (o : ℕ) (part : List ℕ) (i : ℕ) → count# w o ≤ i → at part (3 * i) ≡ row_of w o part i
unfolding row_of
row_new w o part i h = sym (ap (λ (s : Bool). cond s (row# w (start# w o + i)) (at part (3 * i))) (le-ltb i (count# w o) h))

-- ---- all of them, measured
module _ {t : List ℕ} {c : ℕ} {w : List ℕ} {o : ℕ} {part₀ : List ℕ} (T : Takes t c w o part₀) where
  -- the rows
  abbrev pub run : List ℕ
  run = leaf_run w o (new_rows w o part₀)

  -- its own are so many
  own-count : length (map (row# w) (run# w o)) ≡ count# w o
  own-count = length-map (run# w o) (row# w) ∙ range_length (start# w o) (count# w o)

  -- the others so many
  pub new-count : 3 * length (new_rows w o part₀) + 3 * count# w o ≡ length part₀
  unfolding new_rows
  new-count =
      let n : length (drop (3 * count# w o) part₀) ≡ length part₀ - 3 * count# w o = length-drop (3 * count# w o) part₀ in
      omega (arith, rows_count (drop (3 * count# w o) part₀) (omega (arith, T.whole, T.own)), T.own)

  -- an entry each
  pub run_count : 3 * length run ≡ length part₀
  run_count = omega (arith, length-append (map (row# w) (run# w o)) (new_rows w o part₀), own-count, new-count)

  -- the i-th is read
  read-row : (part : List ℕ) (i : ℕ) → i < length run → drop (3 * i) part ≡ drop (3 * i) part₀ → row_of w o part i ≡ get_or run i 0
  unfolding row_of new_rows
  read-row part i h e = go (ltb i (count# w o)) refl
    where
      z : 3 * i + 0 ≡ 3 * i
      z = omega arith

      same : at part (3 * i) ≡ at part₀ (3 * i)
      same =
          ap (λ (k : ℕ). get_or part k 0) (sym z) ∙ sym (get_or-drop (3 * i) part 0 0) ∙ ap (λ (l : List ℕ). get_or l 0 0) e
          ∙ get_or-drop (3 * i) part₀ 0 0 ∙ ap (λ (k : ℕ). get_or part₀ k 0) z

      go : (b : Bool) → ltb i (count# w o) ≡ b → cond b (row# w (start# w o + i)) (at part (3 * i)) ≡ get_or run i 0
      go true q =
          sym (get_or-append (map (row# w) (run# w o)) (new_rows w o part₀) 0 i (omega (arith, own-count, ltb-true i (count# w o) q))
          ∙ get_d_range (row# w) (start# w o) (count# w o) i (ltb-true i (count# w o) q))
      go false q =
          let k : ℕ = count# w o in
          let j : ℕ = i - k in
          let high : k ≤ i = ltb-false i k q in
          let es : List ℕ = drop (3 * k) part₀ in
          let up : i ≡ length (map (row# w) (run# w o)) + j = omega (arith, own-count) in
          let there : 3 * j < length es = omega (arith, length-drop (3 * k) part₀, run_count) in
          let whole : length es % 3 ≡ 0 = omega (arith, length-drop (3 * k) part₀, T.whole, T.own) in
          let back : 3 * k + 3 * j ≡ 3 * i = omega arith in
          same ∙ sym (ap (λ (n : ℕ). get_or run n 0) up ∙ get_or-append-add (map (row# w) (run# w o)) (new_rows w o part₀) j 0
          ∙ rows-read es j whole there ∙ get_or-drop (3 * k) part₀ (3 * j) 0 ∙ ap (λ (n : ℕ). get_or part₀ n 0) back)

  -- its first
  pub run-head : head run ≡ first# w o
  run-head = go (count# w o) (T.shape.node o T.there).some
    where
      go : (k : ℕ) → 1 ≤ k → head (map (row# w) (range (start# w o) k) ++ new_rows w o part₀) ≡ first# w o
      go zero h = absurd (omega arith)
      go (suc k) h = refl

  -- a row of the index is in the table
  old-there : {i : ℕ} → i < n# w → InTable t c i
  old-there {i} h = omega (arith, row_ends c (n# w) i h, T.table)

  -- its first is
  pub first-there : (first# w o < n# w) × InTable t c (first# w o)
  first-there =
      let N = T.shape.node o T.there in
      let h : first# w o < n# w = (T.shape.place (start# w o) (omega (arith, N.some, N.run))).row in
      (h, old-there h)

  -- the i-th of all rows is
  run-there : (i : ℕ) → i < length run → InTable t c (get_or run i 0) × (get_or run i 0 < max_rows)
  run-there i h = go (ltb i (count# w o)) refl
    where
      go : (b : Bool) → ltb i (count# w o) ≡ b → InTable t c (get_or run i 0) × (get_or run i 0 < max_rows)
      go true q =
          let low : i < count# w o = ltb-true i (count# w o) q in
          let N = T.shape.node o T.there in
          let e : get_or run i 0 ≡ row# w (start# w o + i) =
          get_or-append (map (row# w) (run# w o)) (new_rows w o part₀) 0 i (omega (arith, own-count))
          ∙ get_d_range (row# w) (start# w o) (count# w o) i low in
          let r : row# w (start# w o + i) < n# w = (T.shape.place (start# w o + i) (omega (arith, N.run))).row in
          (subst (InTable t c) (sym e) (old-there r), omega (arith, T.shape.whole.rows))
      go false q =
          let k : ℕ = length (map (row# w) (run# w o)) in
          let high : count# w o ≤ i = ltb-false i (count# w o) q in
          let up : i ≡ k + (i - k) = omega (arith, own-count) in
          let j : ℕ = i - k in
          let inside : j < length (new_rows w o part₀) = omega (arith, length-append (map (row# w) (run# w o)) (new_rows w o part₀)) in
          let e : get_or run i 0 ≡ get_or (new_rows w o part₀) j 0 =
          ap (λ (n : ℕ). get_or run n 0) up ∙ get_or-append-add (map (row# w) (run# w o)) (new_rows w o part₀) j 0 in (
            subst (InTable t c) (sym e) (every_place (InTable t c) (new_rows w o part₀) j T.new.there inside),
            subst (λ (n : ℕ). n < max_rows) (sym e) (every_place (λ n. n < max_rows) (new_rows w o part₀) j T.new.few inside),
          )

  -- i rows are laid
  pub record Measuring (first count : ℕ) (part : List ℕ) (i : ℕ) : Type 0 where
    pub firsts : first ≡ first# w o
    pub counts : count ≡ length run
    pub upto : i ≤ count
    pub words : part ≡ under (between t c (circles# w) first) first (take i run) ++ drop (3 * i) part₀

  -- none is
  pub measuring-start : {first : ℕ} → first ≡ first# w o → Measuring first (length part₀ / 3) part₀ 0
  measuring-start e = record { firsts = e; counts = omega (arith, run_count); upto = omega arith; words = refl }

  module _ {first count : ℕ} {part : List ℕ} {i : ℕ} (inv : Measuring first count part i) where
    -- their words
    front-size : length (under (between t c (circles# w) first) first (take i run)) ≡ 3 * i
    front-size =
        under_long (between t c (circles# w) first) first (take i run)
        ∙ ap (λ (k : ℕ). 3 * k) (length-take-le i run (omega (arith, inv.upto, inv.counts)))

    -- as long as it was
    pub measuring-long : length part ≡ length part₀
    measuring-long =
        ap length inv.words
        ∙ omega (
          arith,
          length-append (under (between t c (circles# w) first) first (take i run)) (drop (3 * i) part₀),
          front-size,
          length-drop (3 * i) part₀,
          run_count,
          inv.counts,
          inv.upto,
        )

    -- there is room for one more
    pub measuring-fits : i < count → (3 * i + 3 ≤ length part) × (length part ≤ 3145728)
    measuring-fits h = (omega (arith, measuring-long, run_count, inv.counts), omega (arith, measuring-long, T.few))

    -- the next row
    pub measuring-row : {row : ℕ} → i < count → row ≡ row_of w o part i → row ≡ get_or run i 0
    measuring-row h e =
        e ∙ read-row part i (omega (arith, inv.counts))
        (ap (drop (3 * i)) inv.words ∙ drop_at (under (between t c (circles# w) first) first (take i run)) (drop (3 * i) part₀) (3 * i) front-size)

    -- it and the first are in the table
    pub measuring-ready : {row : ℕ} → i < count → row ≡ row_of w o part i
        → ((c ≤ max_columns) × InTable t c first × InTable t c row)
        × ((first < 4294967296) × (row < 4294967296) × (3 ≤ length (mid_of (3 * i) (length part - 3 * i) part)))
    measuring-ready {row} h e =
        let r = run-there i (omega (arith, inv.counts)) in
        let same : row ≡ get_or run i 0 = measuring-row h e in (
          (
            omega (arith, T.columns, T.shape.whole.columns.1),
            subst (InTable t c) (sym inv.firsts) first-there.1,
            subst (InTable t c) (sym same) r.0,
          ),
          (
            omega (arith, inv.firsts, first-there.0, T.shape.whole.rows),
            omega (arith, same, r.1),
            omega (arith, ap length (mid_end (3 * i) part), length-drop (3 * i) part, (measuring-fits h).0),
          ),
        )

    -- it is laid
    pub measuring-step : (new : List ℕ) {row set : ℕ} → i < count → row ≡ row_of w o part i → set ≡ circles# w
        → new ≡ row ∷ between t c set first row ∷ first ∷ drop 3 (mid_of (3 * i) (length part - 3 * i) part)
        → Measuring first count (put_mid (3 * i) (length part - 3 * i) part new) (i + 1)
    measuring-step new {row} h er es e =
        let f : ℕ → ℕ = between t c (circles# w) first in
        let up : 3 * (i + 1) ≡ 3 * i + 3 = omega arith in
        let one : i + 1 ≡ suc i = omega arith in
        let more : under f first (take i run) ++ (row ∷ f row ∷ first ∷ []) ≡ under f first (take (i + 1) run) =
        ap (λ (x : ℕ). under f first (take i run) ++ under f first (x ∷ [])) (measuring-row h er)
        ∙ sym (ap (λ (k : ℕ). under f first (take k run)) one ∙ ap (under f first) (take-suc run i 0 (omega (arith, inv.counts)))
        ∙ under_append f first (take i run) (get_or run i 0 ∷ [])) in
        record {
          firsts = inv.firsts;
          counts = inv.counts;
          upto = omega arith;
          words =
              put_more (under f first (take i run)) (row ∷ f row ∷ first ∷ []) part₀ part new (3 * i) 3 front-size
              (omega (arith, (measuring-fits h).0)) inv.words
              (e ∙ ap (λ (x : ℕ). row ∷ between t c x first row ∷ first ∷ drop 3 (mid_of (3 * i) (length part - 3 * i) part)) es)
              ∙ ap₂ (λ (x : List ℕ) (k : ℕ). x ++ drop k part₀) more (sym up);
        }

    -- all are
    pub measuring-done : count ≤ i → part ≡ laid (between t c (circles# w)) (leaf_run w o (new_rows w o part₀))
    measuring-done h =
        let z : i ≡ length run = omega (arith, inv.upto, inv.counts) in
        let a : first ≡ head run = inv.firsts ∙ sym run-head in
        inv.words
        ∙ ap₂ (λ (x y : List ℕ). under (between t c (circles# w) first) first x ++ y) (take_all i run (omega arith))
        (drop_of_length-le part₀ {i = 3 * i} (omega (arith, run_count)))
        ∙ append-nil (under (between t c (circles# w) first) first run)
        ∙ ap (λ (x : ℕ). under (between t c (circles# w) x) x run) a
