-- How many nodes there are: fewer than twice the rows. Assumes nothing.
use Prim.Native.Nat.{◌*◌, ◌+◌, ◌≤◌, suc, zero, ℕ}
use Rattle.growing.proofs.Items.{placed_long}
use Rattle.growing.proofs.Waiting.{able_run}
use Rattle.growing.specs.Levels.{placed}
use Rattle.laws.proofs.Ranges.{range_length}
use Rattle.laws.specs.Every.{Every}
use Rattle.laws.specs.Lists.{joined, range}
use Rattle.regrow.proofs.Rows.{all_more}
use Rattle.regrow.proofs.Trees.{next_fits}
use Rattle.regrow.specs.Pieces.{Fitting, Follow, Job, Piece, all_nodes, fresh, fresh_of, kept, next_level, parts, pending, piece}
use Rattle.split.proofs.Laid.{split-joined}
use Rattle.tree.proofs.Grow.{split-length}
use Rattle.tree.specs.Build.{split}
use borrow.Author.Tests.{eqb-false, leb-false}
use lib.Dec.{eqb, leb}
use lib.ListN.{length, length-append, length-map}
use mathlib.Core.Bool.{Bool, cond, false, true}
use mathlib.Core.List.{List, [], ◌++◌, ◌∷◌, map}
use mathlib.Core.Path.{◌≡◌, refl}
use native.Mathlib.Omega.{arith}

module _ (j : Job) (es : ℕ → List (ℕ × ℕ)) (many : ℕ) (m2 : 2 ≤ j.m) (ml : j.m ≤ j.limit) where
  -- how many rows some pieces have
  total : List Piece → ℕ
  total [] = 0
  total (q ∷ qs) = (pending j q).1 + total qs

  total-append : (xs ys : List Piece) → total (xs ++ ys) ≡ total xs + total ys
  unfolding total
  total-append [] ys = omega arith
  total-append (x ∷ xs) ys = omega (arith, total-append xs ys)

  -- pieces that follow each other
  follow-total : (s e : ℕ) (qs : List Piece) → Follow j s qs e → s + total qs ≡ e
  unfolding total
  follow-total s e [] f = omega (arith, f)
  follow-total s e (q ∷ qs) f = omega (arith, follow-total (s + (pending j q).1) e qs f.1)

  -- runs
  fresh-total : (s : ℕ) (rs : List (List ℕ)) → total (map (fresh_of j.d) (placed s rs)) ≡ length (joined rs)
  unfolding total
  fresh-total s [] = omega arith
  fresh-total s (r ∷ rs) = omega (arith, fresh-total (s + length r) rs, length-append r (joined rs))

  -- a piece with parts has two or more, and they have its rows
  part-few : (deep : ℕ) (q : Piece) → Fitting j es many (suc deep) q → 2 + 2 * total (parts j q) ≤ 2 * (pending j q).1 + length (parts j q)
  unfolding Fitting total
  part-few deep (kept o) h = go (eqb (j.copy o).2 0) refl
    where
      go : (b : Bool) → eqb (j.copy o).2 0 ≡ b
          → 2 + 2 * total (cond b [] (map (piece j) (range (j.copy o).2 j.m)))
          ≤ 2 * (j.copy o).1 + length (cond b [] (map (piece j) (range (j.copy o).2 j.m)))
      go true e = omega (arith, h.0)
      go false e =
          let k = h.2 (eqb-false (j.copy o).2 0 e) in
          let ps : List Piece = map (piece j) (range (j.copy o).2 j.m) in
          omega (
            arith,
            follow-total (j.copy o).0 ((j.copy o).0 + (j.copy o).1) ps k.1,
            length-map (range (j.copy o).2 j.m) (piece j),
            range_length (j.copy o).2 j.m,
          )
  part-few deep (fresh s R r) h = go (leb (length r) j.limit) refl
    where
      go : (b : Bool) → leb (length r) j.limit ≡ b
          → 2 + 2 * total (cond b [] (map (fresh_of j.d) (placed s (split j.d j.m r))))
          ≤ 2 * length r + length (cond b [] (map (fresh_of j.d) (placed s (split j.d j.m r))))
      go true e = omega (arith, h.0)
      go false e =
          let ks : List (List ℕ) = split j.d j.m r in
          omega (
            arith,
            fresh-total s ks,
            split-joined j.d j.m r (omega arith) (omega (arith, leb-false (length r) j.limit e)) (able_run j.limit r h e),
            length-map (placed s ks) (fresh_of j.d),
            placed_long s ks,
            split-length j.d j.m j.limit (omega arith) ml r,
          )

  -- so for a level
  level-few : (deep : ℕ) (qs : List Piece) → Every (Fitting j es many (suc deep)) qs
      → 2 * length qs + 2 * total (next_level j qs) ≤ 2 * total qs + length (next_level j qs)
  unfolding total
  level-few deep [] h = omega arith
  level-few deep (q ∷ qs) h =
      omega (
        arith,
        part-few deep q h.0,
        level-few deep qs h.1,
        total-append (parts j q) (next_level j qs),
        length-append (parts j q) (next_level j qs),
      )

  -- no piece is empty
  last-few : (qs : List Piece) → Every (Fitting j es many zero) qs → length qs ≤ total qs
  unfolding total Fitting
  last-few [] h = omega arith
  last-few (kept o ∷ qs) h = omega (arith, h.0.1, last-few qs h.1)
  last-few (fresh s R r ∷ qs) h = omega (arith, h.0.0, last-few qs h.1)

  -- THERE ARE FEWER NODES THAN TWICE THE ROWS
  all-few : (deep next : ℕ) (qs : List Piece) → Every (Fitting j es many deep) qs → length (all_nodes j deep next qs) + length qs ≤ 2 * total qs
  unfolding all_nodes
  all-few zero next qs h = omega (arith, length-map qs (pending j), last-few qs h)
  all-few (suc deep) next qs h =
      let later : List Piece = next_level j qs in
      omega (
        arith,
        all_more j deep next qs,
        all-few deep (next + length later) later (next_fits j es many (omega arith) ml deep qs h),
        level-few deep qs h,
      )

  -- from one piece on
  pub root-few : (deep next : ℕ) (q : Piece) → Fitting j es many deep q → length (all_nodes j deep next (q ∷ [])) + 1 ≤ 2 * (pending j q).1
  unfolding total
  root-few deep next q h = omega (arith, all-few deep next (q ∷ []) (h, tt))
