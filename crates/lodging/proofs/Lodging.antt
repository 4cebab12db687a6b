-- A leaf is laid as its piece says: as it is stored, measured, or in order where it is to be split. Assumes nothing.
use Prim.Native.Nat.{◌%◌, ◌*◌, ◌+◌, ◌-◌, ◌/◌, ◌<◌, ◌≤◌, ℕ}
use Rattle.appending.proofs.Lowest.{orderly_ascends, orderly-length, orderly_tally, twice_same}
use Rattle.appending.specs.Append.{Ascends, orderly, twice}
use Rattle.laws.proofs.Every.{every_map}
use Rattle.laws.proofs.Lists.{paired}
use Rattle.laws.proofs.Ranges.{range-every, range_length}
use Rattle.laws.specs.Every.{Every}
use Rattle.laws.specs.Lists.{each, head, range, rest}
use Rattle.laying.specs.Lay.{Ordered}
use Rattle.lodging.proofs.Above.{orderly_above}
use Rattle.lodging.proofs.Entries.{under_drop}
use Rattle.lodging.proofs.Laying.{kept, new-count, run, run_count}
use Rattle.lodging.specs.Sorts.{Sorts}
use Rattle.lodging.specs.Standing.{Lodges, New, Stands, Takes, kept_words, leaf_run, mark_of, new_rows}
use Rattle.measure.specs.Table.{between}
use Rattle.rounds.proofs.Parts.{mid_end, put_end}
use Rattle.rounds.specs.Entries.{pairs_in}
use Rattle.split.proofs.Laid.{laid-long, under, under_rows}
use Rattle.split.specs.Runs.{laid, rows}
use Rattle.swelling.specs.Pieces.{Piece, grown, leaf_piece, settled}
use Rattle.swelling.specs.Swell.{reach_taking}
use Rattle.tree.specs.Encode.{pair_words}
use Rattle.tree.specs.Grove.{Reach, members#, reach#}
use Rattle.words.specs.Words.{circles#, count#, dist#, l#, n#, row#, run#, start#}
use borrow.Rule.Slice.PartMut.{mid_of, put_mid}
use lib.Dec.{eqb, leb}
use lib.ListN.{drop, length, length-append, length-drop, length-map, take}
use lib.Seq.{drop_at}
use mathlib.Core.Bool.{Bool, ◌||◌, cond, false, true}
use mathlib.Core.List.{List, [], ◌++◌, ◌∷◌, map}
use mathlib.Core.Path.{◌∙◌, ◌≡◌, ap, ap₂, refl, subst, sym}
use native.Mathlib.Omega.{arith}

-- ---- the pairs of entries
-- as they are stored
pairs-kept : (w : List ℕ) (ps : List ℕ) → pairs_in (each (kept w) ps) ≡ each pair_words (map {B = ℕ × ℕ} (λ p. (row# w p, dist# w p)) ps)
unfolding pairs_in
pairs-kept w [] = refl
pairs-kept w (p ∷ ps) = ap (λ (l : List ℕ). row# w p ∷ dist# w p ∷ l) (pairs-kept w ps)

-- measured
pub pairs_under : (f : ℕ → ℕ) (a : ℕ) (xs : List ℕ) → pairs_in (under f a xs) ≡ each pair_words (map {B = ℕ × ℕ} (λ i. (i, f i)) xs)
unfolding pairs_in
pairs_under f a [] = refl
pairs_under f a (x ∷ xs) = ap (λ (l : List ℕ). x ∷ f x ∷ l) (pairs_under f a xs)

-- three words each
kept-size : (w : List ℕ) (ps : List ℕ) → length (each (kept w) ps) ≡ 3 * length ps
kept-size w [] = refl
kept-size w (p ∷ ps) = omega (arith, kept-size w ps)

module _ {t : List ℕ} {c : ℕ} {w : List ℕ} {o : ℕ} {part₀ : List ℕ} (T : Takes t c w o part₀) where
  -- how far two rows are apart
  abbrev d : ℕ → ℕ → ℕ
  d = between t c (circles# w)

  -- the rows that it takes
  abbrev zs : List ℕ
  zs = new_rows w o part₀

  -- its own
  abbrev own : List ℕ
  own = map (row# w) (run# w o)

  -- they are so many
  own_long : length own ≡ count# w o
  own_long = length-map (run# w o) (row# w) ∙ range_length (start# w o) (count# w o)

  -- all of them
  abbrev all : List ℕ
  all = leaf_run w o (new_rows w o part₀)

  -- so many
  all-long : length all ≡ length part₀ / 3
  all-long = omega (arith, run_count T)

  -- ---- it takes none
  module _ (same : length part₀ / 3 ≡ count# w o) where
    -- there is none
    none : new_rows w o part₀ ≡ []
    none = empty (new_rows w o part₀) (omega (arith, new-count T, T.own, T.whole))
      where
        empty : (xs : List ℕ) → length xs ≡ 0 → xs ≡ []
        empty [] h = refl
        empty (x ∷ xs) h = absurd (omega arith)

    -- a leaf's part is as long as its entries
    pub lodge-exact : length part₀ ≡ 3 * count# w o
    lodge-exact = omega (arith, T.whole)

    -- it is laid as it is stored
    pub lodge-kept : (last : Bool) {part' : List ℕ} → part' ≡ kept_words w o → {k : ℕ} → k ≡ l# w → (b : Bool)
        → (last || leb (length part₀ / 3) k) ≡ b → Lodges t c w o last part₀ part' (cond b 0 4294967295)
    unfolding kept_words
    lodge-kept last {part'} e {k} ek b eb =
        let size : length (members# w o) ≡ length part₀ / 3 =
        length-map (run# w o) (λ p. (row# w p, dist# w p)) ∙ range_length (start# w o) (count# w o) ∙ sym same in
        record {
          stands = λ s. subst (λ (l : List ℕ). Stands t c w last (leaf_piece d w s o l) part') (sym none) (
            ap length e ∙ kept-size w (run# w o) ∙ sym (ap (λ (i : ℕ). 3 * i) (length-map (run# w o) (λ p. (row# w p, dist# w p)))),
            ap pairs_in e ∙ pairs-kept w (run# w o),
          );
          marked = λ s. subst (λ (l : List ℕ). cond b 0 4294967295 ≡ mark_of t c w last (leaf_piece d w s o l)) (sym none)
              (ap (λ (x : Bool). cond x 0 4294967295) (sym eb ∙ ap₂ (λ (i j : ℕ). last || leb i j) (sym size) ek));
        }

  -- ---- it takes some
  -- its piece by whether a row stands twice
  piece_is : (s : ℕ) → (length part₀ / 3 ≡ count# w o → ⊥)
      → leaf_piece d w s o zs
      ≡ cond (twice all) (settled s (reach_taking (length (members# w o)) (reach# w o) (map (d (head all)) zs)) (map {B = ℕ × ℕ} (λ i. (
        i,
        d
            (head all) i,
      )) all))
      (grown s (reach_taking (length (members# w o)) (reach# w o) (map (d (head all)) zs)) all)
  piece_is s some = go zs refl
    where
      go : (ys : List ℕ) → zs ≡ ys
          → leaf_piece d w s o ys
          ≡ cond (twice (own ++ ys)) (settled s (reach_taking (length (members# w o)) (reach# w o) (map (d (head (own ++ ys))) ys)) (map {B = ℕ × ℕ}
          (λ i. (i, d (head (own ++ ys)) i)) (own ++ ys)))
          (grown s (reach_taking (length (members# w o)) (reach# w o) (map (d (head (own ++ ys))) ys)) (own ++ ys))
      go [] e = absurd (some (omega (arith, new-count T, ap length e)))
      go (z ∷ ys) e =
          ap (λ (l : List ℕ).
          cond (twice (l ++ z ∷ ys)) (settled s (reach_taking (length (members# w o)) (reach# w o) (map (d (head (l ++ z ∷ ys))) (z ∷ ys)))
          (map {B = ℕ × ℕ} (λ i. (i, d (head (l ++ z ∷ ys)) i)) (l ++ z ∷ ys)))
          (grown s (reach_taking (length (members# w o)) (reach# w o) (map (d (head (l ++ z ∷ ys))) (z ∷ ys))) (l ++ z ∷ ys)))
          (paired (row# w) (dist# w) (run# w o))

  -- a leaf's members, measured
  members-stand : (last : Bool) {part' : List ℕ} → part' ≡ laid d all → (s : ℕ) (R : Reach)
      → Stands t c w last (settled s R (map {B = ℕ × ℕ} (λ i. (i, d (head all) i)) all)) part'
  members-stand last e s R = (
    ap length e ∙ laid-long d all ∙ sym (ap (λ (i : ℕ). 3 * i) (length-map all (λ i. (i, d (head all) i)))),
    ap pairs_in e ∙ pairs_under (d (head all)) (head all) all,
  )

  -- as many members as rows
  members-size : (last : Bool) (k : ℕ) → k ≡ l# w
      → (last || leb (length part₀ / 3) k) ≡ (last || leb (length (map {B = ℕ × ℕ} (λ i. (i, d (head all) i)) all)) (l# w))
  members-size last k ek = ap₂ (λ (i j : ℕ). last || leb i j) (sym (length-map all (λ i. (i, d (head all) i)) ∙ all-long)) ek

  module _ (last : Bool) (some : length part₀ / 3 ≡ count# w o → ⊥) {part' : List ℕ} {mark : ℕ} where
    -- what is to be shown, by that
    by-piece : ((s : ℕ) (R : Reach)
        → Stands t c w last (cond (twice all) (settled s R (map {B = ℕ × ℕ} (λ i. (i, d (head all) i)) all)) (grown s R all)) part')
        → ((s : ℕ) (R : Reach) → mark ≡ mark_of t c w last (cond (twice all) (settled s R (map {B = ℕ × ℕ} (λ i. (i, d (head all) i)) all))
        (grown s R all)))
        → Lodges t c w o last part₀ part' mark
    by-piece f g =
        record {
          stands =
              λ s. subst (λ (q : Piece). Stands t c w last q part') (sym (piece_is s some)) (f s (reach_taking (length (members# w o)) (reach# w o)
              (map (d (head all)) zs)));
          marked =
              λ s. subst (λ (q : Piece). mark ≡ mark_of t c w last q) (sym (piece_is s some)) (g s (reach_taking (length (members# w o)) (reach# w o)
              (map (d (head all)) zs)));
        }

    -- it is not to be split, however that may be
    pub lodge-measured : part' ≡ laid (between t c (circles# w)) (leaf_run w o (new_rows w o part₀)) → {k : ℕ} → k ≡ l# w
        → (last || leb (length part₀ / 3) k) ≡ true
        → mark ≡ 0 → Lodges t c w o last part₀ part' mark
    lodge-measured e {k} ek st em = by-piece (λ s R. stand s R (twice all)) (λ s R. marks s R (twice all))
      where
        few : (last || leb (length all) (l# w)) ≡ true
        few = ap₂ (λ (i j : ℕ). last || leb i j) all-long (sym ek) ∙ st

        stand : (s : ℕ) (R : Reach) (b : Bool)
            → Stands t c w last (cond b (settled s R (map {B = ℕ × ℕ} (λ i. (i, d (head all) i)) all)) (grown s R all)) part'
        stand s R true = members-stand last e s R
        stand s R false = e ∙ ap (λ (b : Bool). laid d (cond b all (orderly all))) (sym few)

        marks : (s : ℕ) (R : Reach) (b : Bool)
            → mark ≡ mark_of t c w last (cond b (settled s R (map {B = ℕ × ℕ} (λ i. (i, d (head all) i)) all)) (grown s R all))
        marks s R true = em ∙ ap (λ (b : Bool). cond b 0 4294967295) (sym (sym (members-size last k ek) ∙ st))
        marks s R false = em

    -- a row stands twice
    pub lodge-twice : part' ≡ laid (between t c (circles# w)) (leaf_run w o (new_rows w o part₀)) → {k : ℕ} → k ≡ l# w
        → (last || leb (length part₀ / 3) k) ≡ false
        → twice (leaf_run w o (new_rows w o part₀)) ≡ true → mark ≡ 4294967295 → Lodges t c w o last part₀ part' mark
    lodge-twice e {k} ek st tw em =
        by-piece (λ s R. rw tw (members-stand last e s R))
        (λ s R. rw tw (em ∙ ap (λ (b : Bool). cond b 0 4294967295) (sym (sym (members-size last k ek) ∙ st))))

    -- none does, and its rows are in order
    pub lodge-ordered : part' ≡ laid (between t c (circles# w)) (orderly (leaf_run w o (new_rows w o part₀))) → {k : ℕ} → k ≡ l# w
        → (last || leb (length part₀ / 3) k) ≡ false → twice (leaf_run w o (new_rows w o part₀)) ≡ false → mark ≡ 0
        → Lodges t c w o last part₀ part' mark
    lodge-ordered e {k} ek st tw em =
        let many : (last || leb (length all) (l# w)) ≡ false = ap₂ (λ (i j : ℕ). last || leb i j) all-long (sym ek) ∙ st in
        by-piece (λ s R. rw tw (e ∙ ap (λ (b : Bool). laid d (cond b all (orderly all))) (sym many))) (λ s R. rw tw em)

  -- ---- put in order
  -- there are rows
  all-some : 1 ≤ length all
  all-some = omega (arith, length-append own zs, own_long, (T.shape.node o T.there).some)

  module _ {part₁ : List ℕ} (measured : part₁ ≡ laid (between t c (circles# w)) (leaf_run w o (new_rows w o part₀))) where
    -- its words are whole entries
    measured-long : length part₁ ≡ 3 * length all
    measured-long = ap length measured ∙ laid-long d all

    -- behind the first they are whole too
    pub sort-ready : (3 ≤ length part₁) × (length (mid_of 3 (length part₁ - 3) part₁) % 3 ≡ 0)
    sort-ready =
        (omega (arith, measured-long, all-some), omega (arith, ap length (mid_end 3 part₁), length-drop 3 part₁, measured-long, all-some))

    module _ {new : List ℕ} (sorts : Sorts (mid_of 3 (length part₁ - 3) part₁) new) where
      -- they are those of the run in order
      pub sort-done : put_mid 3 (length part₁ - 3) part₁ new ≡ laid (between t c (circles# w)) (orderly (leaf_run w o (new_rows w o part₀)))
      sort-done = put_end 3 part₁ new ∙ ap (λ (l : List ℕ). take 3 l ++ new) measured ∙ go all all-some measured
        where
          go : (xs : List ℕ) → 1 ≤ length xs → part₁ ≡ laid d xs → take 3 (laid d xs) ++ new ≡ laid d (orderly xs)
          go [] h e = absurd (omega arith)
          go (x ∷ xs) h e =
              ap (λ (l : List ℕ). x ∷ d x x ∷ x ∷ l)
              (sorts (d x) x xs (mid_end 3 part₁ ∙ ap (drop 3) e))

  module _ {part₂ : List ℕ} (sorted : part₂ ≡ laid (between t c (circles# w)) (orderly (leaf_run w o (new_rows w o part₀)))) where
    -- its rows
    ordered-rows : rows part₂ ≡ orderly all
    ordered-rows = ap rows sorted ∙ under_rows (d (head (orderly all))) (head (orderly all)) (orderly all)

    -- as many words
    ordered-long : length part₂ ≡ length part₀
    ordered-long = ap length sorted ∙ laid-long d (orderly all) ∙ ap (λ (i : ℕ). 3 * i) (orderly-length all all-some) ∙ run_count T

    -- it can be looked through
    pub twice-ready : Ordered part₂
    twice-ready =
        record {
          some = omega (arith, ordered-long, run_count T, all-some);
          whole = ap (λ (i : ℕ). i % 3) ordered-long ∙ T.whole;
          ascends = subst (λ (l : List ℕ). Ascends (rest l)) (sym ordered-rows) (orderly_ascends all);
        }

    -- a row stands twice in it where one does in the run
    pub twice-is : twice (rows part₂) ≡ twice (leaf_run w o (new_rows w o part₀))
    twice-is = ap twice ordered-rows ∙ twice_same (orderly all) all (λ i. orderly_tally (eqb i) all all-some)

    -- the rows that it takes stand where they stood
    pub rows_stay : new_rows w o part₂ ≡ new_rows w o part₀
    unfolding new_rows
    rows_stay =
        let k : ℕ = count# w o in
        let a : ℕ = head (orderly all) in
        let low : Every (λ x. x < n# w) own =
        every_map (λ x. x < n# w) (row# w) (run# w o)
        (range-every (λ p. row# w p < n# w) (start# w o) (count# w o)
        (λ i h. (T.shape.place (start# w o + i) (omega (arith, (T.shape.node o T.there).run))).row)) in
        let cut : orderly all ≡ orderly own ++ zs =
        orderly_above (n# w) own zs (omega (arith, own_long, (T.shape.node o T.there).some)) low T.new.ascend T.new.above in
        ap (λ (l : List ℕ). rows (drop (3 * k) l)) sorted ∙ ap rows (under_drop (d a) a k (orderly all)) ∙ under_rows (d a) a (drop k (orderly all))
        ∙ ap (drop k) cut
        ∙ drop_at (orderly own) zs k (orderly-length own (omega (arith, own_long, (T.shape.node o T.there).some)) ∙ own_long)

    -- measured again it is as it was
    pub again-is : {part₃ : List ℕ} → part₃ ≡ laid (between t c (circles# w)) (leaf_run w o (new_rows w o part₂))
        → part₃ ≡ laid (between t c (circles# w)) (leaf_run w o (new_rows w o part₀))
    again-is e = e ∙ ap (λ (l : List ℕ). laid (between t c (circles# w)) (leaf_run w o l)) rows_stay

    -- so it can be measured again
    pub takes-again : Takes t c w o part₂
    takes-again =
        record {
          shape = T.shape;
          columns = T.columns;
          there = T.there;
          table = T.table;
          whole = ap (λ (i : ℕ). i % 3) ordered-long ∙ T.whole;
          own = omega (arith, ordered-long, T.own);
          few = omega (arith, ordered-long, T.few);
          new = subst (New t c w) (sym rows_stay) T.new;
        }
