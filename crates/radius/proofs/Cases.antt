-- The radius cases of 01, The five-row table, and of 02, R-1 and R-5, proved of the call's contract. Assumes nothing.
use Prim.Native.Nat.{◌≤◌, ℕ}
use Rattle.laws.proofs.Every.{all-every, every_of}
use Rattle.laws.proofs.Ranges.{every-at}
use Rattle.laws.proofs.Tests.{and_l, and_r, is_true}
use Rattle.laws.specs.Lists.{all, range, same}
use Rattle.laws.specs.Upto.{sum_to}
use Rattle.limits.proofs.Faults.{early_numbered, none-listed, number_of}
use Rattle.limits.specs.Said.{number_faults, said}
use Rattle.limits.specs.declared.Asked.{Asked}
use Rattle.measure.specs.Distance.{l1}
use Rattle.measure.specs.Table.{between, from, off_circle_lem, rows_of}
use Rattle.radius.proofs.Promises.{first-bytes, radius-call-marks}
use Rattle.radius_refusals.proofs.Refusals.{right_call, set-says}
use Rattle.radius.specs.Cases.{Gives, Refuses}
use Rattle.radius_refusals.specs.Numbers.{radius_asks}
use Rattle.radius.specs.Once.{Once}
use Rattle.refusals.proofs.Refusals.{call_early, clear}
use Rattle.refusals.specs.Refused.{call_faults, circle_faults}
use Rattle.rowset.specs.Sets.{bit_of, is_in_lem, set_bad_lem}
use Rattle.tree.specs.Build.{build, choose, grow, split}
use Rattle.tree.specs.Cases.{five}
use Rattle.tree.specs.Check.{again}
use Rattle.tree.specs.Encode.{broods, encode, family, level_nodes, nodes, numbered}
use Rattle.tree.specs.Grove.{tree_at, tree_of}
use Rattle.tree.specs.Nearest.{measured}
use Rattle.tree.specs.Radius.{inside, marks, marks_in, radius_how}
use Rattle.words.specs.Index.{fit_faults}
use Rattle.words.specs.Shape.{born, level, node_ok_lem, shape_ok_lem, tile}
use Rattle.words.specs.Words.{card_ok_lem, circles#, header_ok_lem, n#, whole_ok, words_ok_lem}
use borrow.Author.Tests.{not-true}
use lib.Dec.{T, eqb, eqb→eq}
use lib.ListN.{drop, length}
use mathlib.Core.Bool.{Bool, ◌&&◌, false, not, true}
use mathlib.Core.List.{List, [], ◌++◌, ◌∷◌}
use mathlib.Core.Path.{◌∙◌, ◌≡◌, ap, ap₂, refl, sym}
use native.Mathlib.Omega.{arith}

-- lists that the test finds equal are equal
same-is : (a b : List ℕ) → T (same a b) → a ≡ b
same-is [] [] h = refl
same-is [] (y ∷ b) h = absurd h
same-is (x ∷ a) [] h = absurd h
same-is (x ∷ a) (y ∷ b) h = ap₂ (λ z l. z ∷ l) (eqb→eq x y (and_l (eqb x y) (same a b) h)) (same-is a b (and_r (eqb x y) (same a b) h))

-- the table of a case and the index built over it are not refused, nor is a call for the query q, and each row stands once
unfoldable fit : List ℕ → ℕ → ℕ → Bool
unfolding sum_to number_faults l1 between card_ok_lem header_ok_lem whole_ok words_ok_lem born level tile node_ok_lem shape_ok_lem fit_faults call_faults circle_faults off_circle_lem again family broods level_nodes nodes numbered encode choose split grow build
fit t o q =
    let w = build t 1 o 2 2 2 in
    eqb (rows_of t 1) (length t) && eqb (n# w) (length t) && eqb (circles# w) o && eqb (said (call_faults (radius_asks t 1 (q ∷ []) (length t)) t w (q ∷ []))).0 0
    && all (λ p. not (again w p)) (range 0 (n# w))

-- the definitions give these how-bytes and counts for the query q and r, the rows of the set s being withdrawn, and s is a set of the table's rows
unfoldable shows : List ℕ → ℕ → ℕ → ℕ → List ℕ → List ℕ → ℕ → ℕ → Bool
unfolding l1 between from tree_at tree_of family broods level_nodes nodes numbered encode choose split grow build marks_in marks radius_how bit_of set_bad_lem
shows t o q r s how i k =
    let h = radius_how (from t 1 o (q ∷ [])) r (is_in_lem s) (length t) (tree_of (build t 1 o 2 2 2)) in
    same h how && eqb (inside h) i && eqb (measured h) k && not (set_bad_lem s (length t))

module _ (t : List ℕ) (o q : ℕ) (f : T (fit t o q)) where
  -- the index built over the table
  abbrev w : List ℕ
  w = build t 1 o 2 2 2

  -- what the call asks of numbers, with just as many how-bytes as rows
  abbrev asks : Asked
  asks = radius_asks t 1 (q ∷ []) (length t)

  -- the five tests, each true
  tests : (rows_of t 1 ≡ length t) × (n# w ≡ length t) × (circles# w ≡ o) × ((said (call_faults asks t w (q ∷ []))).0 ≡ 0) × Once w
  unfolding fit
  tests =
      let a = eqb (rows_of t 1) (length t) in
      let b = eqb (n# w) (length t) in
      let e = eqb (circles# w) o in
      let d = eqb (said (call_faults asks t w (q ∷ []))).0 0 in
      let g = all (λ p. not (again w p)) (range 0 (n# w)) in
      let f4 = and_l (a && b && e && d) g f in
      let f3 = and_l (a && b && e) d f4 in
      let f2 = and_l (a && b) e f3 in (
        eqb→eq (rows_of t 1) (length t) (and_l a b f2),
        eqb→eq (n# w) (length t) (and_r a b f2),
        eqb→eq (circles# w) o (and_r (a && b) e f3),
        eqb→eq (said (call_faults asks t w (q ∷ []))).0 0 (and_r (a && b && e) d f4),
        λ p h. every-at (λ p. again w p ≡ false) (n# w) p
            (every_of (λ p. T (not (again w p))) (λ p. again w p ≡ false) (λ p k. not-true (again w p) (is_true (not (again w p)) k)) (range 0 (n# w)) (all-every (λ p. not (again w p)) (range 0 (n# w)) (and_r (a && b && e && d) g f))) h,
      )

  -- nothing but the set may refuse a call with how-bytes enough
  taken : (how : ℕ) → length t ≤ how → (0, 0, 0) ≡ said (call_faults (radius_asks t 1 (q ∷ []) how) t w (q ∷ []))
  taken how room =
      let a = radius_asks t 1 (q ∷ []) how in
      ap said
      (sym (none-listed (call_faults a t w (q ∷ [])) (early_numbered (call_faults a t w (q ∷ [])) (call_early a t w (q ∷ [])))
      (sym (right_call t 1 w (q ∷ []) (length t) how (clear asks t w (q ∷ []) tests.3) (omega (arith, tests.0))))))

  -- a set that is not one of the rows refuses the call
  refuses : (s : List ℕ) → set_bad_lem s (length t) ≡ true → Refuses t o q s 20
  refuses s bad r before after number in# met room c =
      let z : number ≡ 20 = c.said ∙ sym (ap number_of (set-says t 1 w (q ∷ []) s (length before) (taken (length before) room) (sym tests.0) bad)) in
      let none = c.refused (λ n. absurd (omega arith)) in
      (z, none.0, none.1, none.2)

  module _ (r : ℕ) (s how : List ℕ) (i k : ℕ) where
    -- each row's distance from the query
    abbrev x : ℕ → ℕ
    x = from t 1 o (q ∷ [])

    -- the how-bytes of the definition
    abbrev bytes : List ℕ
    bytes = radius_how x r (is_in_lem s) (length t) (tree_of w)

    -- a case that is right is what the call gives
    gives : T (shows t o q r s how i k) → Gives t o q r s how i k
    unfolding shows
    gives ok before after number in# met room c =
        let ts = tests in
        let once = ts.4 in
        let a = same bytes how in
        let b = eqb (inside bytes) i in
        let d = eqb (measured bytes) k in
        let set = not (set_bad_lem s (length t)) in
        let f = and_l (a && b && d) set ok in
        let ab = and_l (a && b) d f in
        let fine : set_bad_lem s (length t) ≡ false = not-true (set_bad_lem s (length t)) (is_true set (and_r (a && b && d) set ok)) in
        let z : number ≡ 0 = c.said ∙ sym (ap number_of (set-says t 1 w (q ∷ []) s (length before) (taken (length before) room) (sym ts.0) fine)) in
        let same_bytes : radius_how (from t 1 (circles# w) (q ∷ [])) r (is_in_lem s) (n# w) (tree_of w) ≡ bytes =
        ap₂ (λ (o n : ℕ). radius_how (from t 1 o (q ∷ [])) r (is_in_lem s) n (tree_of w)) ts.2 ts.1 in
        let first = first-bytes c z once ∙ same_bytes in (
          z,
          radius-call-marks c z once ∙ ap₂ (λ l n. l ++ drop n before) (same_bytes ∙ same-is bytes how (and_l a b ab)) ts.1,
          (c.counts z).0 ∙ ap inside first ∙ eqb→eq (inside bytes) i (and_r a b ab),
          (c.counts z).1 ∙ ap measured first ∙ eqb→eq (measured bytes) k (and_r (a && b) d f),
        )

-- no row of the five is withdrawn
abbrev none : List ℕ
none = 0 ∷ []

-- THE CALL GIVES WHAT 01 SAYS: its three radius cases, one that (x - y)/2 rounded down would fail, and one with a lesser r that measures more (R-13)
pub radius_call_cases : Gives five 0 9 1 none (1 ∷ 0 ∷ 3 ∷ 0 ∷ 1 ∷ []) 1 3
    × Gives five 0 0 20 none (3 ∷ 2 ∷ 2 ∷ 2 ∷ 2 ∷ []) 5 1
    × Gives five 0 10 5 none (1 ∷ 0 ∷ 3 ∷ 3 ∷ 1 ∷ []) 2 4
    × Gives (4 ∷ 2 ∷ 2 ∷ 6 ∷ 7 ∷ []) 0 6 0 none (1 ∷ 0 ∷ 0 ∷ 3 ∷ 1 ∷ []) 1 3
    × Gives five 0 0 19 none (3 ∷ 2 ∷ 2 ∷ 3 ∷ 1 ∷ []) 4 3
unfolding fit shows
radius_call_cases = (
  gives five 0 9 tt 1 none (1 ∷ 0 ∷ 3 ∷ 0 ∷ 1 ∷ []) 1 3 tt,
  gives five 0 0 tt 20 none (3 ∷ 2 ∷ 2 ∷ 2 ∷ 2 ∷ []) 5 1 tt,
  gives five 0 10 tt 5 none (1 ∷ 0 ∷ 3 ∷ 3 ∷ 1 ∷ []) 2 4 tt,
  gives (4 ∷ 2 ∷ 2 ∷ 6 ∷ 7 ∷ []) 0 6 tt 0 none (1 ∷ 0 ∷ 0 ∷ 3 ∷ 1 ∷ []) 1 3 tt,
  gives five 0 0 tt 19 none (3 ∷ 2 ∷ 2 ∷ 3 ∷ 1 ∷ []) 4 3 tt,
)

-- WHAT R-1 SAYS: headings of 359.5 and 0.5 degrees are one degree apart
pub radius_call_circles : Gives (3595 ∷ 5 ∷ []) 1 3599 4 none (3 ∷ 0 ∷ []) 1 1
    × Gives (3595 ∷ 5 ∷ []) 1 1 6 none (3 ∷ 3 ∷ []) 2 2
    × Gives (3595 ∷ 5 ∷ []) 0 1 6 none (1 ∷ 3 ∷ []) 1 2
unfolding fit shows
radius_call_circles = (
  gives (3595 ∷ 5 ∷ []) 1 3599 tt 4 none (3 ∷ 0 ∷ []) 1 1 tt,
  gives (3595 ∷ 5 ∷ []) 1 1 tt 6 none (3 ∷ 3 ∷ []) 2 2 tt,
  gives (3595 ∷ 5 ∷ []) 0 1 tt 6 none (1 ∷ 3 ∷ []) 1 2 tt,
)

-- AND WHAT R-5 SAYS: row 2 is withdrawn, which was in measured, and in a swept node; a set with no word, with one too many, and with the bit of row 5
pub radius_call_withdrawn : Gives five 0 9 1 (4 ∷ []) (1 ∷ 0 ∷ 1 ∷ 0 ∷ 1 ∷ []) 0 3
    × Gives five 0 0 20 (4 ∷ []) (3 ∷ 2 ∷ 0 ∷ 2 ∷ 2 ∷ []) 4 1
    × Refuses five 0 9 [] 20
    × Refuses five 0 9 (0 ∷ 0 ∷ []) 20
    × Refuses five 0 9 (32 ∷ []) 20
unfolding fit shows set_bad_lem bit_of
radius_call_withdrawn = (
  gives five 0 9 tt 1 (4 ∷ []) (1 ∷ 0 ∷ 1 ∷ 0 ∷ 1 ∷ []) 0 3 tt,
  gives five 0 0 tt 20 (4 ∷ []) (3 ∷ 2 ∷ 0 ∷ 2 ∷ 2 ∷ []) 4 1 tt,
  refuses five 0 9 tt [] refl,
  refuses five 0 9 tt (0 ∷ 0 ∷ []) refl,
  refuses five 0 9 tt (32 ∷ []) refl,
)
