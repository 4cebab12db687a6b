-- The theorems on the two calls: no second outcome fits, and 0 is exact. Assumes nothing.
use Prim.Native.Nat.{◌%◌, ◌*◌, ◌/◌, ◌<◌, ◌≤◌, min, suc, zero, ℕ}
use Rattle.build.proofs.Theorems.{build-headed, build-only}
use Rattle.finder.proofs.Indexed.{nearest-given}
use Rattle.finder.specs.Answers.{Alike, Closest, Within}
use Rattle.finder.specs.Calls.{Finds, Near, centres, leaf_rows}
use Rattle.joined_marks.proofs.Firsts.{first-at}
use Rattle.joined_marks.specs.Firsts.{first_of}
use Rattle.laws.proofs.Tests.{or_l, or_r}
use Rattle.laws.specs.Upto.{sum_to}
use Rattle.marking.specs.Written.{write}
use Rattle.measure.proofs.Metric.{query_point}
use Rattle.measure.proofs.OnCircle.{round_rows}
use Rattle.measure.specs.Table.{Rounded, between, from, off_circle_lem, row, rows_of}
use Rattle.nearest.proofs.Promises.{nearest-only}
use Rattle.nearest_refusals.proofs.Refusals.{not-refused}
use Rattle.nearest.specs.Calls.{Answered}
use Rattle.nearest_steps.specs.Asked.{NearestLent, asks, lends}
use Rattle.query_refusals.proofs.Why.{asked_well}
use Rattle.radius.proofs.How.{bytes-are}
use Rattle.rowset.specs.Sets.{is_in_lem, set_bad_lem}
use Rattle.several_queries.specs.Searched.{Asked, has_in, how_after, how_of, mark_of, measured_by, some_to}
use Rattle.tree.proofs.Accepted.{once-of}
use Rattle.tree.proofs.Theorems.{radius-exact}
use Rattle.tree.specs.Check.{Accepted}
use Rattle.tree.specs.Grove.{tree_of}
use Rattle.tree.specs.Radius.{marks as marks_of, veiled}
use Rattle.words.proofs.InShape.{in_shape}
use Rattle.words.specs.Words.{circles#, n#}
use borrow.Author.Tests.{le-leb, leb-true}
use lib.Dec.{T}
use lib.ListN.{drop, get_or, length, replicate, take}
use mathlib.Core.Bool.{Bool, ◌||◌, cond, false, true}
use mathlib.Core.List.{List, ◌++◌}
use mathlib.Core.Logic.{◌↔◌}
use mathlib.Core.Path.{◌∙◌, ◌≡◌, ap, ap₂, refl, subst, sym}
use native.Mathlib.Decide.{ℕ_discrete}
use native.Mathlib.Nat.{div-add-mod}
use native.Mathlib.Omega.{arith}

-- a whole number of rows
whole-rows : (long c : ℕ) → long % c ≡ 0 → long ≡ c * (long / c)
whole-rows long c e = omega (arith, div-add-mod long c)

-- ---- f j for some j below k
-- there is such a j
record Some (f : ℕ → Bool) (k : ℕ) : Type 0 where
  pub which : ℕ
  pub below : which < k
  pub passes : f which ≡ true

-- where the test says so
some-yes : (f : ℕ → Bool) (k : ℕ) → some_to f k ≡ true → Some f k
unfolding some_to
some-yes f zero e = absurd (subst T (sym e) tt)
some-yes f (suc k) e = go (some_to f k) refl e (some-yes f k)
  where
    go : (a : Bool) → some_to f k ≡ a → (a || f k) ≡ true → (some_to f k ≡ true → Some f k) → Some f (suc k)
    go true p e ih =
        let s = ih p in
        record { which = s.which; below = omega (arith, s.below); passes = s.passes }
    go false p e ih = record { which = k; below = omega arith; passes = e }

-- and wherever there is one
some_of : (f : ℕ → Bool) (k j : ℕ) → j < k → f j ≡ true → some_to f k ≡ true
unfolding some_to
some_of f zero j h e = absurd (omega arith)
some_of f (suc k) j h e = go (ℕ_discrete j k) (some_of f k j)
  where
    go : Dec (j ≡ k) → (j < k → f j ≡ true → some_to f k ≡ true) → (some_to f k || f k) ≡ true
    go (yes q) ih = or_r (some_to f k) (f k) (ap f (sym q) ∙ e)
    go (no q) ih = or_l (some_to f k) (f k) (ih (omega arith) e)

-- ---- marking
-- over an accepted index w, of a table and queries on their circles, a mark says that a row is not withdrawn and that a query is within r
module _ (t : List ℕ) (c o : ℕ) (w qs : List ℕ) (r : ℕ) (s : List ℕ) (E : circles# w ≡ o) (A : Accepted (between t c o) w) (R : Rounded t c o)
    (Q : Rounded qs c o) where
  -- the search for query j has row i in exactly then
  in-exact : (j i : ℕ) → i < n# w → (2 ≤ get_or (how_of t c w qs r s j) i 0) ↔ ((is_in_lem s i ≡ false) × (from t c o (row qs c j) i ≤ r))
  unfolding how_of
  in-exact j i h =
      subst (λ (l : List ℕ). (2 ≤ get_or l i 0) ↔ ((is_in_lem s i ≡ false) × (from t c o (row qs c j) i ≤ r)))
      (sym
      (ap (λ (u : ℕ). write (veiled (is_in_lem s) (marks_of (from t c u (row qs c j)) r (tree_of w))) (replicate (n# w) 0)) E
      ∙ bytes-are (from t c o (row qs c j)) r (is_in_lem s) w (in_shape w A.words A.shape) (once-of (between t c o) w A)))
      (radius-exact (between t c o) w A (from t c o (row qs c j)) (query_point t c o (row qs c j) R (Q j)) r (is_in_lem s) i h)

  -- so has the mark of k searches
  mark-exact : (k i : ℕ) → i < n# w → (mark_of t c w qs r s k i ≡ 1) ↔ ((is_in_lem s i ≡ false) × Within t c o qs r k i)
  unfolding mark_of
  mark-exact k i h = (λ e. near (some_to (has_in t c w qs r s i) k) refl e, λ x. marked x)
    where
      near : (b : Bool) → some_to (has_in t c w qs r s i) k ≡ b → cond {A = ℕ} b 1 0 ≡ 1 → (is_in_lem s i ≡ false) × Within t c o qs r k i
      near true p e =
          let m = some-yes (has_in t c w qs r s i) k p in
          let x = (in-exact m.which i h).0 (leb-true 2 (get_or (how_of t c w qs r s m.which) i 0) m.passes) in
          (x.0, record { query = m.which; there = m.below; near = x.1 })
      near false p e = absurd (omega arith)

      marked : (is_in_lem s i ≡ false) × Within t c o qs r k i → cond {A = ℕ} (some_to (has_in t c w qs r s i) k) 1 0 ≡ 1
      marked x =
          rw (some_of (has_in t c w qs r s i) k x.1.query x.1.there (le-leb 2 (get_or (how_of t c w qs r s x.1.query) i 0) ((in-exact x.1.query i h).1 (x.0, x.1.near))))
          refl

  -- a mark is 0 or 1
  mark-small : (k i : ℕ) → mark_of t c w qs r s k i ≤ 1
  unfolding mark_of
  mark-small k i = go (some_to (has_in t c w qs r s i) k)
    where
      go : (b : Bool) → cond {A = ℕ} b 1 0 ≤ 1
      go true = omega arith
      go false = omega arith

module _ {t : List ℕ} {c o : ℕ} {qs : List ℕ} {r : ℕ} {s room room' work work' how how' marks marks' : List ℕ} {number in# met : ℕ}
    (x : Near t c o qs r s room room' work work' how how' marks marks' number in# met) where
  -- where it is not refused, the build was not
  near-made : number ≡ 0 → x.made ≡ 0
  near-made z = go (ℕ_discrete x.made 0)
    where
      go : Dec (x.made ≡ 0) → x.made ≡ 0
      go (yes y) = y
      go (no k) = sym (x.unbuilt k) ∙ z

  -- ON 0 THE ROWS WITH THE MARK 1 ARE EXACTLY THOSE THAT ARE NOT WITHDRAWN AND ARE WITHIN r OF A QUERY, AND THE OTHERS HAVE 0
  pub near-exact : number ≡ 0 → Alike t c o qs r s marks'
  near-exact z =
      let w : List ℕ = take x.words room' in
      let A = x.built.accepted (near-made z) in
      let H = build-headed t c o 2 centres leaf_rows room work x.built (near-made z) in
      let n : n# w ≡ rows_of t c = H.1 in
      let a = asked_well (rows_of t c) c (length qs) (length how) (length marks) (off_circle_lem c o qs) (set_bad_lem s (rows_of t c)) (sym (x.said (near-made z)) ∙ z) in
      let R : Rounded t c o = round_rows t c o (whole-rows (length t) c H.0.whole) H.6 in
      let Q : Rounded qs c o = round_rows qs c o (whole-rows (length qs) c a.4) a.5 in
      let at : (i : ℕ) → i < rows_of t c → get_or marks' i 0 ≡ mark_of t c w qs r s (rows_of qs c) i
      = λ i h. ap (λ (l : List ℕ). get_or l i 0) (x.asked z).marked
      ∙ first-at (mark_of t c w qs r s (rows_of qs c)) (n# w) i (drop (n# w) marks) (subst (λ (k : ℕ). i < k) (sym n) h) in
      record {
        near = λ i h.
            subst (λ (v : ℕ). (v ≡ 1) ↔ ((is_in_lem s i ≡ false) × Within t c o qs r (rows_of qs c) i)) (sym (at i h))
            (mark-exact t c o w qs r s H.5 A R Q (rows_of qs c) i (subst (λ (k : ℕ). i < k) (sym n) h));
        far = λ i h. omega (arith, at i h, mark-small t c o w qs r s H.5 A R Q (rows_of qs c) i);
      }

-- two outcomes of one call
module _ {t : List ℕ} {c o : ℕ} {qs : List ℕ} {r : ℕ} {s room work how marks room₁ work₁ how₁ marks₁ room₂ work₂ how₂ marks₂ : List ℕ}
    {number₁ in₁ met₁ number₂ in₂ met₂ : ℕ} (a : Near t c o qs r s room room₁ work work₁ how how₁ marks marks₁ number₁ in₁ met₁)
    (b : Near t c o qs r s room room₂ work work₂ how how₂ marks marks₂ number₂ in₂ met₂) where
  -- they are the same
  abbrev pub SameNear : Type 0
  SameNear =
      (number₁ ≡ number₂) × (in₁ ≡ in₂) × (met₁ ≡ met₂) × (room₁ ≡ room₂) × (work₁ ≡ work₂) × (how₁ ≡ how₂) × (marks₁ ≡ marks₂)

  -- the searches leave no choice
  asked-only : (w v : List ℕ) → w ≡ v → Asked t c w qs r s (rows_of qs c) how how₁ marks marks₁ in₁ met₁
      → Asked t c v qs r s (rows_of qs c) how how₂ marks marks₂ in₂ met₂ → (in₁ ≡ in₂) × (met₁ ≡ met₂) × (how₁ ≡ how₂) × (marks₁ ≡ marks₂)
  asked-only w v e x y = (
    x.inside ∙ ap (λ (u : List ℕ). sum_to (mark_of t c u qs r s (rows_of qs c)) (n# u)) e ∙ sym y.inside,
    x.measures ∙ ap (λ (u : List ℕ). sum_to (measured_by t c u qs r s) (rows_of qs c)) e ∙ sym y.measures,
    x.bytes ∙ ap (λ (u : List ℕ). how_after t c u qs r s (rows_of qs c) how) e ∙ sym y.bytes,
    x.marked ∙ ap (λ (u : List ℕ). first_of (mark_of t c u qs r s (rows_of qs c)) (n# u) ++ drop (n# u) marks) e ∙ sym y.marked,
  )

  -- NO SECOND OUTCOME FITS: the build leaves no choice, and over what it built the searches leave none
  pub near-only : SameNear
  near-only =
      let one-build = build-only t c o 2 centres leaf_rows room work room₁ work₁ room₂ work₂ a.made a.words a.nodes b.made b.words b.nodes
      a.built b.built in
      let n = one (ℕ_discrete a.made 0) one-build.0 in
      let m = rest (ℕ_discrete number₁ 0) n (ap₂ take one-build.1 one-build.3) in (n, m.0, m.1, one-build.3, one-build.4, m.2, m.3)
    where
      one : Dec (a.made ≡ 0) → a.made ≡ b.made → number₁ ≡ number₂
      one (yes z) e = a.said z ∙ sym (b.said (sym e ∙ z))
      one (no k) e = a.unbuilt k ∙ e ∙ sym (b.unbuilt (λ z. k (e ∙ z)))

      rest : Dec (number₁ ≡ 0) → number₁ ≡ number₂ → take a.words room₁ ≡ take b.words room₂
          → (in₁ ≡ in₂) × (met₁ ≡ met₂) × (how₁ ≡ how₂) × (marks₁ ≡ marks₂)
      rest (yes z) n e = asked-only (take a.words room₁) (take b.words room₂) e (a.asked z) (b.asked (sym n ∙ z))
      rest (no k) n e =
          let f = a.refused k in
          let g = b.refused (λ z. k (n ∙ z)) in
          (f.0 ∙ sym g.0, f.1 ∙ sym g.1, f.2 ∙ sym g.2, f.3 ∙ sym g.3)

-- ---- finding
module _ {t : List ℕ} {c o : ℕ} {q : List ℕ} {w : ℕ} {s room room' work work' how how' rs rs' ds ds' : List ℕ} {number given met : ℕ}
    (b : Finds t c o q w s room room' work work' how how' rs rs' ds ds' number given met) where
  -- where it is not refused, the build was not
  finds-made : number ≡ 0 → b.made ≡ 0
  finds-made z = go (ℕ_discrete b.made 0)
    where
      go : Dec (b.made ≡ 0) → b.made ≡ 0
      go (yes y) = y
      go (no k) = sym (b.refused k).0 ∙ z

  -- ON 0 THE ANSWERS ARE THE NEAREST TO THE QUERY, OF THOSE THAT ARE NOT WITHDRAWN
  pub finds-exact : number ≡ 0 → Closest t c o q w s rs' ds' given
  finds-exact z =
      let y = finds-made z in
      let E = (build-headed t c o 2 centres leaf_rows room work b.built y).5 in
      let A = subst (λ (u : ℕ). Accepted (between t c u) (take b.words room')) (sym E) (b.built.accepted y) in
      subst (λ (u : ℕ). Closest t c u q w s rs' ds' given) E (nearest-given q s A (b.answered y) z)

-- two outcomes of one call
module _ {t : List ℕ} {c o : ℕ} {q : List ℕ} {w : ℕ} {s room work how rs ds room₁ work₁ how₁ rs₁ ds₁ room₂ work₂ how₂ rs₂ ds₂ : List ℕ}
    {number₁ given₁ met₁ number₂ given₂ met₂ : ℕ} (a : Finds t c o q w s room room₁ work work₁ how how₁ rs rs₁ ds ds₁ number₁ given₁ met₁)
    (b : Finds t c o q w s room room₂ work work₂ how how₂ rs rs₂ ds ds₂ number₂ given₂ met₂) where
  -- they are the same
  abbrev pub SameFinds : Type 0
  SameFinds =
      (number₁ ≡ number₂) × (given₁ ≡ given₂) × (met₁ ≡ met₂) × (room₁ ≡ room₂) × (work₁ ≡ work₂) × (how₁ ≡ how₂) × (rs₁ ≡ rs₂) × (ds₁ ≡ ds₂)

  -- NO SECOND OUTCOME FITS: the build leaves no choice, and over what it built the search leaves none
  pub finds-only : SameFinds
  finds-only =
      let one-build = build-only t c o 2 centres leaf_rows room work room₁ a.cleared room₂ b.cleared a.made a.words a.nodes
      b.made b.words b.nodes a.built b.built in
      go (ℕ_discrete a.made 0) one-build.0 (ap₂ take one-build.1 one-build.3) one-build.3 one-build.4
    where
      go : Dec (a.made ≡ 0) → a.made ≡ b.made → take a.words room₁ ≡ take b.words room₂ → room₁ ≡ room₂ → a.cleared ≡ b.cleared
          → SameFinds
      go (no k) e v p d =
          let f = a.refused k in
          let g = b.refused (λ z. k (e ∙ z)) in (
            f.0 ∙ e ∙ sym g.0,
            f.1 ∙ sym g.1,
            f.2 ∙ sym g.2,
            p,
            f.3 ∙ d ∙ sym g.3,
            f.4 ∙ sym g.4,
            f.5 ∙ sym g.5,
            f.6 ∙ sym g.6,
          )
      go (yes z) e v p d =
          let H = build-headed t c o 2 centres leaf_rows room work a.built z in
          let E : circles# (take a.words room₁) ≡ o = H.5 in
          let x₀ = subst
          (λ (u : List ℕ). Answered (asks t c u q w s) (min (length rs) (length ds)) (lends rs ds how b.cleared) (lends rs₂ ds₂ how₂ work₂) number₂ given₂ met₂)
          (sym v) (b.answered (sym e ∙ z)) in
          let x = subst
          (λ (u : List ℕ).
          Answered (asks t c (take a.words room₁) q w s) (min (length rs) (length ds)) (lends rs ds how u) (lends rs₂ ds₂ how₂ work₂) number₂ given₂ met₂)
          (sym d) x₀ in
          let n = nearest-only (a.answered z) x t
          (λ k.
          record {
            rows =
                sym
                (not-refused t c (take a.words room₁) q w s (min (length rs) (length ds)) (length how) (length a.cleared)
                (sym (a.answered z).said ∙ k)
                ).rows;
            round = subst (Rounded t c) (sym E) (round_rows t c o (whole-rows (length t) c H.0.whole) H.6);
            accepted = subst (λ (u : ℕ). Accepted (between t c u) (take a.words room₁)) (sym E) (a.built.accepted z);
            agree = λ j h m. refl;
          }) in
          let l = n.1.2 in (
            n.0,
            n.1.0,
            n.1.1,
            p,
            ap (λ (l : NearestLent). l.work) l,
            ap (λ (l : NearestLent). l.how) l,
            ap (λ (l : NearestLent). l.rows) l,
            ap (λ (l : NearestLent). l.distances) l,
          )
