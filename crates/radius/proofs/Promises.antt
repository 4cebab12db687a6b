-- What the contract of the radius call says, in 01's words: it is exact on an accepted index, withdrawn rows never come back, it rests on the rows
-- that it measures, and no second outcome fits. Assumes nothing.
use Prim.Native.Nat.{◌<◌, ◌≤◌, ℕ}
use Rattle.laws.proofs.Lists.{tally_take}
use Rattle.limits.specs.Limits.{max_rows}
use Rattle.measure.specs.Table.{between, from, row}
use Rattle.radius.proofs.How.{bytes-are, gone_never, how_length, written-length}
use Rattle.radius_refusals.proofs.Refusals.{fits, point, set-fits}
use Rattle.radius.specs.Calls.{Searched}
use Rattle.radius.specs.Once.{Once}
use Rattle.marking.specs.Written.{write}
use Rattle.rowset.proofs.Refused.{right-above}
use Rattle.rowset.specs.Sets.{is_in_lem, set_bad_lem}
use Rattle.tree.proofs.Accepted.{once-of}
use Rattle.tree.proofs.Theorems.{radius-exact, radius-two-tables, same_row}
use Rattle.tree.proofs.Veiled.{veiled-none}
use Rattle.tree.specs.Check.{Accepted}
use Rattle.tree.specs.Grove.{tree_of}
use Rattle.tree.specs.Nearest.{is_measured, measured}
use Rattle.tree.specs.Radius.{inside, marks, radius_how, veiled}
use Rattle.words.specs.Words.{circles#, n#}
use lib.Dec.{T, leb}
use lib.ListN.{get_or-append, drop, get_or, length, replicate, take}
use lib.Seq.{drop_at, take_at}
use mathlib.Core.Bool.{false, true, true≢false}
use mathlib.Core.List.{List, ◌++◌}
use mathlib.Core.Logic.{◌↔◌, by_cases}
use mathlib.Core.Path.{◌∙◌, ◌≡◌, ap, subst, sym}
use native.Mathlib.Decide.{dec_lt, ℕ_discrete}
use native.Mathlib.Omega.{arith}

-- only rows below n are in a set that is one of n rows
set_low : (set : List ℕ) (n : ℕ) → set_bad_lem set n ≡ false → (i : ℕ) → is_in_lem set i ≡ true → i < n
set_low set n f i e = by_cases (dec_lt i n) (λ l. l) (λ l. absurd (true≢false (sym e ∙ right-above set n f i (omega arith))))

-- ---- a call that is not refused
module _ {t : List ℕ} {c : ℕ} {w q : List ℕ} {r : ℕ} {set before after : List ℕ} {number in# met : ℕ}
    (s : Searched t c w q r set before after number in# met) (done : number ≡ 0) where
  -- THE HOW-BYTES BEYOND n STAY
  pub radius-call-beyond : drop (n# w) after ≡ drop (n# w) before
  radius-call-beyond =
      let ms = veiled (is_in_lem set) (marks (from t c (circles# w) q) r (tree_of w)) in
      ap (drop (n# w)) (s.written done) ∙ drop_at (write ms (replicate (n# w) 0)) (drop (n# w) before) (n# w) (written-length ms (n# w))

  -- WHERE EACH ROW STANDS ONCE, THE HOW-BYTES ARE THOSE OF THE DESCENT OF THE INDEX'S TREE, BY ROW NUMBER
  pub radius-call-marks : Once w → after ≡ radius_how (from t c (circles# w) q) r (is_in_lem set) (n# w) (tree_of w) ++ drop (n# w) before
  radius-call-marks once =
      s.written done
      ∙ ap (λ (l : List ℕ). l ++ drop (n# w) before) (bytes-are (from t c (circles# w) q) r (is_in_lem set) w (fits t c w q set before (sym s.said ∙ done)).tested.shape once)

  -- WITHDRAWN ROWS NEVER COME BACK, on any index: the how-byte of one is 0 or 1
  pub radius-withdrawn-never : (i : ℕ) → is_in_lem set i ≡ true → get_or after i 0 ≤ 1
  radius-withdrawn-never i e =
      let ms = veiled (is_in_lem set) (marks (from t c (circles# w) q) r (tree_of w)) in
      let low : i < n# w = set_low set (n# w) (set-fits t c w q set (length before) (sym s.said ∙ done)) i e in
      subst (λ v. v ≤ 1)
      (sym (ap (λ l. get_or l i 0) (s.written done)
      ∙ get_or-append (write ms (replicate (n# w) 0)) (drop (n# w) before) 0 i (subst (λ n. i < n) (sym (written-length ms (n# w))) low)))
      (gone_never (from t c (circles# w) q) r (is_in_lem set) w i e)

  -- WITH NO ROW WITHDRAWN IT IS 01's SEARCH
  pub radius-none-withdrawn : ((i : ℕ) → is_in_lem set i ≡ false) → after ≡ write (marks (from t c (circles# w) q) r (tree_of w)) (replicate (n# w) 0) ++ drop (n# w) before
  radius-none-withdrawn f =
      s.written done ∙ ap (λ ms. write ms (replicate (n# w) 0) ++ drop (n# w) before) (veiled-none (is_in_lem set) f (marks (from t c (circles# w) q) r (tree_of w)))

-- ---- the same, on an index in which each row stands once
module _ {t : List ℕ} {c : ℕ} {w q : List ℕ} {r : ℕ} {set before after : List ℕ} {number in# met : ℕ}
    (s : Searched t c w q r set before after number in# met) (done : number ≡ 0) (once : Once w) where
  -- the how-bytes that are the rows'
  pub first-bytes : take (n# w) after ≡ radius_how (from t c (circles# w) q) r (is_in_lem set) (n# w) (tree_of w)
  first-bytes =
      ap (take (n# w)) (radius-call-marks s done once)
      ∙ take_at (radius_how (from t c (circles# w) q) r (is_in_lem set) (n# w) (tree_of w)) (drop (n# w) before) (n# w) (how_length (from t c (circles# w) q) r (is_in_lem set) w)

  -- each of them is the definition's
  byte_at : (i : ℕ) → i < n# w → get_or after i 0 ≡ get_or (radius_how (from t c (circles# w) q) r (is_in_lem set) (n# w) (tree_of w)) i 0
  byte_at i h =
      ap (λ l. get_or l i 0) (radius-call-marks s done once)
      ∙ get_or-append (radius_how (from t c (circles# w) q) r (is_in_lem set) (n# w) (tree_of w)) (drop (n# w) before) 0 i (subst (λ n. i < n) (sym (how_length (from t c (circles# w) q) r (is_in_lem set) w)) h)

-- ---- a call that is not refused, on an accepted index
module _ {t : List ℕ} {c : ℕ} {w q : List ℕ} {r : ℕ} {set before after : List ℕ} {number in# met : ℕ}
    (s : Searched t c w q r set before after number in# met) (done : number ≡ 0) (A : Accepted (between t c (circles# w)) w) where
  -- EXACT: A ROW IS MARKED IN EXACTLY IF IT IS NOT WITHDRAWN AND ITS DISTANCE FROM THE QUERY IS AT MOST r
  pub radius-call-exact : (i : ℕ) → i < n# w → (2 ≤ get_or after i 0) ↔ ((is_in_lem set i ≡ false) × (from t c (circles# w) q i ≤ r))
  radius-call-exact i h =
      subst (λ v. (2 ≤ v) ↔ ((is_in_lem set i ≡ false) × (from t c (circles# w) q i ≤ r))) (sym (byte_at s done (once-of (between t c (circles# w)) w A) i h))
      (radius-exact (between t c (circles# w)) w A (from t c (circles# w) q) (point t c w q set (length before) (sym s.said ∙ done)) r (is_in_lem set) i h)

  -- TWO TABLES: WHERE THE SECOND AGREES WITH THIS ONE IN EVERY ROW THAT WAS MEASURED, A SEARCH ON IT THAT IS NOT REFUSED GIVES THE SAME
  -- HOW-BYTES AND COUNTS, the same rows being withdrawn. Nothing is asked of the second table but that, and its call may be lent other bytes
  pub radius-call-two-tables : {t' before' after' : List ℕ} {number' in#' met' : ℕ} → Searched t' c w q r set before' after' number' in#' met' → number' ≡ 0
      → ((i : ℕ) → i < n# w → T (is_measured (get_or after i 0)) → row t c i ≡ row t' c i)
      → (take (n# w) after ≡ take (n# w) after') × (in# ≡ in#') × (met ≡ met')
  radius-call-two-tables {t'} s' done' agree =
      let once : Once w = once-of (between t c (circles# w)) w A in
      let e = first-bytes s done once
      ∙ radius-two-tables (between t c (circles# w)) w A (from t c (circles# w) q) (from t' c (circles# w) q) r (is_in_lem set)
      (λ i h m. same_row t t' c (circles# w) q i (agree i h (subst (λ v. T (is_measured v)) (sym (byte_at s done once i h)) m)))
      ∙ sym (first-bytes s' done' once) in (
        e,
        (s.counts done).0 ∙ ap inside e ∙ sym (s'.counts done').0,
        (s.counts done).1 ∙ ap measured e ∙ sym (s'.counts done').1,
      )

-- ---- two outcomes of one call
-- they have the same counts and how-bytes
abbrev pub Same : ℕ → ℕ → List ℕ → ℕ → ℕ → List ℕ → Type 0
Same i m a i' m' a' = (i ≡ i') × (m ≡ m') × (a ≡ a')

module _ {t : List ℕ} {c : ℕ} {w q : List ℕ} {r : ℕ} {set before a a' : List ℕ} {n i m n' i' m' : ℕ}
    (s : Searched t c w q r set before a n i m) (s' : Searched t c w q r set before a' n' i' m') where
  -- both have the same number
  one_number : n ≡ n'
  one_number = s.said ∙ sym s'.said

  -- NO SECOND OUTCOME FITS, on any index
  pub radius-only : (n ≡ n') × Same i m a i' m' a'
  radius-only = (one_number, go (ℕ_discrete n 0))
    where
      go : Dec (n ≡ 0) → Same i m a i' m' a'
      go (no k) =
          let f = s.refused k in
          let f' = s'.refused (λ z. k (one_number ∙ z)) in
          (f.0 ∙ sym f'.0, f.1 ∙ sym f'.1, f.2 ∙ sym f'.2)
      go (yes z) =
          let z' : n' ≡ 0 = sym one_number ∙ z in
          let e = s.written z ∙ sym (s'.written z') in (
            (s.counts z).0 ∙ ap (λ (l : List ℕ). inside (take (n# w) l)) e ∙ sym (s'.counts z').0,
            (s.counts z).1 ∙ ap (λ (l : List ℕ). measured (take (n# w) l)) e ∙ sym (s'.counts z').1,
            e,
          )

-- THE COUNTS ARE NO MORE THAN THE ROWS, so that 32 bits hold them
pub radius_small : {t : List ℕ} {c : ℕ} {w q : List ℕ} {r : ℕ} {set before after : List ℕ} {number in# met : ℕ}
    → Searched t c w q r set before after number in# met → (in# ≤ max_rows) × (met ≤ max_rows)
radius_small {t} {c} {w} {q} {r} {set} {before} {after} {number} {in#} {met} s = go (ℕ_discrete number 0)
  where
    go : Dec (number ≡ 0) → (in# ≤ max_rows) × (met ≤ max_rows)
    go (no k) = (omega (arith, (s.refused k).0), omega (arith, (s.refused k).1))
    go (yes z) =
        let few = (fits t c w q set before (sym s.said ∙ z)).tested.shape.whole.rows in (
          omega (arith, (s.counts z).0, tally_take (leb 2) (n# w) after),
          omega (arith, (s.counts z).1, tally_take is_measured (n# w) after),
        )
