-- The tree that the build grows is well made, and so its index is accepted. Assumes nothing.
use Prim.Native.Nat.{◌<◌, ◌≤◌, suc, zero, ℕ}
use Rattle.laws.proofs.Every.{every-all, every_append, every_map}
use Rattle.laws.proofs.Lists.{tally_length}
use Rattle.laws.proofs.Ranges.{range-every, range_length}
use Rattle.laws.proofs.Times.{every_same, range-times}
use Rattle.laws.specs.Every.{Every}
use Rattle.laws.specs.Lists.{head, range, tally}
use Rattle.limits.proofs.Ranges.{columns_are, shared}
use Rattle.limits.specs.Limits.{circles_ok_lem, columns_ok_lem, edition_ok_lem, max_depth, max_distance, max_rows, share_ok_lem}
use Rattle.measure.proofs.Metric.{between-most, metric}
use Rattle.measure.specs.Space.{Space}
use Rattle.measure.specs.Table.{Rounded, between, rows_of}
use Rattle.tree.proofs.Good.{Good, empty_accepted, encode-accepted}
use Rattle.tree.proofs.Grow.{grown-even, grown-fine, grown-full, grown-span, grown-tally}
use Rattle.tree.proofs.Grown.{grown-sound}
use Rattle.tree.specs.Build.{Run, build, grow, leaf_of, plant, reach, split}
use Rattle.tree.specs.Check.{Accepted}
use Rattle.tree.specs.Encode.{encode}
use Rattle.tree.specs.Grove.{Grove, bare, entries, fork, rows_in}
use lib.Dec.{eqb, leb}
use lib.ListN.{length, length-map}
use mathlib.Core.Bool.{Bool, cond, false, true}
use mathlib.Core.List.{List, [], ◌∷◌, foldr, map}
use mathlib.Core.Path.{◌∙◌, ◌≡◌, subst, sym}
use native.Mathlib.Nat.{add-zero, zero-add}
use native.Mathlib.Omega.{arith}

module _ (d : ℕ → ℕ → ℕ) (S : Space d) (D : (i j : ℕ) → d i j ≤ max_distance) (m l : ℕ) (m1 : 1 ≤ m) (ml : m ≤ l) where
  -- the stored distances are in range
  abbrev InRange : Grove → Type 0
  InRange g = Every (λ e. e.1 ≤ max_distance) (entries g)

  -- those of a leaf are
  leaf-dists : (run : List ℕ) (g : Grove) → InRange g → InRange (leaf_of d run g)
  leaf-dists run g h =
      every_append (λ e. e.1 ≤ max_distance) (map (λ i. (i, d (head run) i)) run) (entries g)
      (every_map (λ e. e.1 ≤ max_distance) (λ i. (i, d (head run) i)) run
      (every-all (λ i. d (head run) i ≤ max_distance) (λ i. D (head run) i) run)) h

  -- and those of a grown node
  pub grown-dists : (deep : ℕ) (run : List ℕ) (g : Grove) → InRange g → InRange (grow d m l deep run g)
  unfolding grow
  grown-dists zero run g h = leaf-dists run g h
  grown-dists (suc deep) run g h = go (λ q f k. grown-dists deep q f k) (leb (length run) l)
    where
      forest : ((run : List ℕ) (g : Grove) → InRange g → InRange (grow d m l deep run g)) → (gs : List (List ℕ))
          → InRange (foldr (grow d m l deep) bare gs)
      forest ih [] = tt
      forest ih (q ∷ gs) = ih q (foldr (grow d m l deep) bare gs) (forest ih gs)

      go : ((run : List ℕ) (g : Grove) → InRange g → InRange (grow d m l deep run g)) → (b : Bool)
          → InRange (cond b (leaf_of d run g) (fork (reach d run) (foldr (grow d m l deep) bare (split d m run)) g))
      go ih true = leaf-dists run g h
      go ih false =
          every_append (λ e. e.1 ≤ max_distance) (entries (foldr (grow d m l deep) bare (split d m run))) (entries g) (forest ih (split d m run)) h

  -- THE TREE OF ONE ROW OR MORE IS WELL MADE, AND HAS ALL OF THEM
  pub planted : (n : ℕ) → (length (entries (plant d m l (suc n))) ≡ suc n) × Good d m l (plant d m l (suc n))
  planted n =
      let run : List ℕ = range 0 (suc n) in
      let r : Run run = (omega (arith, range_length 0 (suc n)), λ i. range-times i 0 (suc n)) in
      let t : Grove = plant d m l (suc n) in
      let same : (f : ℕ → Bool) → tally f (rows_in t) ≡ tally f run = λ f. grown-tally d m l m1 ml max_depth f run bare r ∙ add-zero (tally f run) in
      let len : length (entries t) ≡ suc n =
      sym (length-map (entries t) (λ e. e.0)) ∙ sym (tally_length (rows_in t)) ∙ same (λ i. true) ∙ tally_length run ∙ range_length 0 (suc n) in
      let st = grown-sound d S.self m l m1 ml max_depth run bare r (tt, tt) in (
        len,
        record {
          one = grown-span d m l m1 ml max_depth run bare;
          full = grown-full d m l m1 ml max_depth run bare r tt;
          even = grown-even d m l m1 ml max_depth run bare tt;
          fine = grown-fine d m l m1 ml D max_depth run bare r tt;
          sound = st.0;
          tight = st.1;
          rows = every_same (λ i. i < length (entries t)) run (rows_in t) (λ i. same (eqb i))
              (range-every (λ i. i < length (entries t)) 0 (suc n) (λ i h. subst (λ k. k < length (entries t)) (sym (zero-add i)) (omega arith)));
          once = λ i. omega (arith, same (eqb i), range-times i 0 (suc n));
          dists = grown-dists max_depth run bare tt;
        },
      )

-- WHAT THE BUILD WRITES IS ACCEPTED
pub build-accepted : (T : List ℕ) (c o e m l : ℕ) → edition_ok_lem e ≡ true → columns_ok_lem c ≡ true → circles_ok_lem c o ≡ true → share_ok_lem m l ≡ true → rows_of T c ≤ max_rows → Every (λ v. v ≤ 65535) T → Rounded T c o
    → Accepted (between T c o) (build T c o e m l)
unfolding build
build-accepted T c o e m l he hc ho hs hn small round = go (rows_of T c) hn
  where
    go : (n : ℕ) → n ≤ max_rows → Accepted (between T c o) (encode e c o m l (plant (between T c o) m l n))
    go zero h = empty_accepted (between T c o) e c o m l he hc ho hs
    go (suc n) h =
        let s = shared m l hs in
        let p = planted (between T c o) (metric T c o round) (between-most T c o (columns_are c hc).1 small) m l (omega (arith, s.two)) s.leafy n in
        encode-accepted (between T c o) e c o m l (plant (between T c o) m l (suc n)) he hc ho hs (omega (arith, p.0)) p.1
