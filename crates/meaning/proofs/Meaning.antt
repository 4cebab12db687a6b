-- The full check accepts an index exactly where 01's conditions hold. Assumes nothing.
use Prim.Native.Nat.{◌+◌, ◌-◌, ◌<◌, ◌≤◌, max, min, suc, zero, ℕ}
use Rattle.laws.proofs.Empty.{any_false, any_none}
use Rattle.laws.proofs.Every.{every_map, every-unmap, greatest_le, greatest_under, lowest_le, lowest-over}
use Rattle.laws.proofs.Ranges.{at_every, every-at, every-range, range-every, range_length}
use Rattle.laws.proofs.Times.{times_every}
use Rattle.laws.specs.Every.{Every}
use Rattle.laws.specs.Lists.{greatest, least, lowest, range, rest, times}
use Rattle.tree.proofs.Accepted.{each-once, once-of, shape_of}
use Rattle.tree.proofs.Alike.{inner-is-nearest, radius-is}
use Rattle.tree.proofs.Faultless.{no-fault}
use Rattle.tree.proofs.NoFaults.{fits, no_faults}
use Rattle.meaning.proofs.Plainly.{plain-shape, plain-words, shape-plain, words-plain}
use Rattle.tree.proofs.Right.{Right}
use Rattle.tree.proofs.Rows.{once_to, rows-tree}
use Rattle.tree.specs.Check.{Accepted, again, nearest#}
use Rattle.meaning.specs.Conditions.{Conditions, InnerReach, Member, Nearest, Radius, Standing}
use Rattle.words.specs.Shape.{inner}
use Rattle.words.specs.Words.{nodes#, at, child#, count#, dist#, edition#, first#, inner#, kept, m#, n#, node_at_lem, radius#, row#, run#, start#}
use borrow.Author.Tests.{eqb-false, eqb-true, ne_eqb, not-false, not-true}
use lib.Dec.{eqb}
use lib.ListN.{length, length-map}
use mathlib.Core.Bool.{Bool, cond, false, not, true}
use mathlib.Core.List.{List, [], ◌∷◌, map}
use mathlib.Core.Logic.{◌↔◌, by_cases}
use mathlib.Core.Path.{◌∙◌, ◌≡◌, ap, refl, subst, sym}
use native.Mathlib.Decide.{dec_lt}
use native.Mathlib.Nat.{not-suc-le-zero}
use native.Mathlib.Omega.{arith}

-- ---- the greatest and the lowest of some numbers are among them
-- what each of some numbers has, the greatest has
greatest-has : (P : ℕ → Type 0) (xs : List ℕ) → 1 ≤ length xs → Every P xs → P (greatest xs)
greatest-has P [] h e = absurd (not-suc-le-zero h)
greatest-has P (x ∷ []) h e = subst P (omega arith) e.0
greatest-has P (x ∷ y ∷ xs) h e = go (greatest (y ∷ xs)) (greatest-has P (y ∷ xs) (omega arith) e.1)
  where
    go : (g : ℕ) → P g → P (max x g)
    go g p =
        by_cases (dec_lt x g)
        (λ l.
        let z : g ≡ max x g = omega arith in
        subst P z p)
        (λ l.
        let z : x ≡ max x g = omega arith in
        subst P z e.0)

-- so has the least
least-has : (P : ℕ → Type 0) (v : ℕ) (xs : List ℕ) → P v → Every P xs → P (least v xs)
least-has P v [] p e = p
least-has P v (x ∷ xs) p e = go (least v xs) (least-has P v xs p e.1)
  where
    go : (g : ℕ) → P g → P (min x g)
    go g q =
        by_cases (dec_lt x g)
        (λ l.
        let z : x ≡ min x g = omega arith in
        subst P z e.0)
        (λ l.
        let z : g ≡ min x g = omega arith in
        subst P z q)

-- and, where there is one, the lowest
lowest-has : (P : ℕ → Type 0) (xs : List ℕ) → 1 ≤ length xs → Every P xs → P (lowest xs)
lowest-has P [] h e = absurd (not-suc-le-zero h)
lowest-has P (x ∷ xs) h e = least-has P x xs e.0 e.1

-- ---- the members of a node
module _ (w : List ℕ) (k : ℕ) (P : ℕ → Type 0) where
  -- a fact of every position of a run is one of each member's
  member-has : Every P (run# w k) → (p : ℕ) → Member w k p → P p
  member-has e p h =
      let z : start# w k + (p - start# w k) ≡ p = omega (arith, h.0) in
      subst P z (every-range P (start# w k) (count# w k) (p - start# w k) e (omega (arith, h.0, h.1)))

  -- and the other way
  members-have : ((p : ℕ) → Member w k p → P p) → Every P (run# w k)
  members-have f = range-every P (start# w k) (count# w k) (λ i h. f (start# w k + i) (omega arith, omega arith))

  -- the positions behind the first
  rest-is : (s c : ℕ) → rest (range s c) ≡ range (suc s) (c - 1)
  rest-is s zero = refl
  rest-is s (suc c) =
      let z : c ≡ suc c - 1 = omega arith in
      ap (range (suc s)) z

  -- a fact of each member but the first
  others-have : ((p : ℕ) → Member w k p → start# w k < p → P p) → Every P (rest (run# w k))
  others-have f =
      subst (Every P) (sym (rest-is (start# w k) (count# w k)))
      (range-every P (suc (start# w k)) (count# w k - 1) (λ i h. f (suc (start# w k) + i) (omega arith, omega arith) (omega arith)))

  -- and the other way
  other-has : Every P (rest (run# w k)) → (p : ℕ) → Member w k p → start# w k < p → P p
  other-has e p h l =
      let z : suc (start# w k) + (p - suc (start# w k)) ≡ p = omega (arith, l) in
      subst P z (every-range P (suc (start# w k)) (count# w k - 1) (p - suc (start# w k))
      (subst (Every P) (rest-is (start# w k) (count# w k)) e) (omega (arith, h.1, l)))

-- an inner node's test
inner-some : (w : List ℕ) (k : ℕ) → inner w k ≡ true → 1 ≤ child# w k
inner-some w k e = let z = eqb-false (child# w k) 0 (not-true (eqb (child# w k) 0) e) in omega (arith, z)

-- and the other way
some-inner : (w : List ℕ) (k : ℕ) → 1 ≤ child# w k → inner w k ≡ true
some-inner w k h = ap not (ne_eqb (child# w k) 0 (λ z. omega arith))

module _ (d : ℕ → ℕ → ℕ) (w : List ℕ) where
  -- how far the row at position p is from node k's first
  abbrev far : ℕ → ℕ → ℕ
  far k p = d (first# w k) (row# w p)

  -- how many distances there are
  fars-length : (k : ℕ) → length (map (far k) (run# w k)) ≡ count# w k
  fars-length k = simp (length-map, range_length)

  -- and without the first's own
  others-length : (k : ℕ) → length (map (far k) (rest (run# w k))) ≡ count# w k - 1
  others-length k =
      ap (λ (ps : List ℕ). length (map (far k) ps)) (rest-is w k (λ p. Unit {0}) (start# w k) (count# w k)) ∙ simp (length-map, range_length)

  -- ---- one node's reaches, exact
  -- the radius is the greatest distance: none is farther, and one is as far
  radius-plain : (k : ℕ) → 1 ≤ count# w k → radius# w k ≡ greatest (map (far k) (run# w k)) → Radius d w k
  radius-plain k some e =
      greatest-has (λ v. radius# w k ≡ v → Radius d w k) (map (far k) (run# w k)) (omega (arith, fars-length k))
      (every_map (λ v. radius# w k ≡ v → Radius d w k) (far k) (run# w k) (members-have w k (λ p. radius# w k ≡ far k p → Radius d w k) one)) e
    where
      one : (p : ℕ) → Member w k p → radius# w k ≡ far k p → Radius d w k
      one p h q =
          record {
            within = member-has w k (λ p. far k p ≤ radius# w k) (subst (λ (r : ℕ). Every (λ p. far k p ≤ r) (run# w k)) (sym e)
                (every-unmap (λ v. v ≤ greatest (map (far k) (run# w k))) (far k) (run# w k) (greatest_le (map (far k) (run# w k)))));
            farthest = p;
            member = h;
            reached = omega (arith, q);
          }

  -- and the other way
  plain-radius : (k : ℕ) → Radius d w k → radius# w k ≡ greatest (map (far k) (run# w k))
  plain-radius k R =
      let g : ℕ = greatest (map (far k) (run# w k)) in
      let a : g ≤ radius# w k =
      greatest_under (radius# w k) (map (far k) (run# w k)) (every_map (λ v. v ≤ radius# w k) (far k) (run# w k)
      (members-have w k (λ p. far k p ≤ radius# w k) R.within)) in
      let b : far k R.farthest ≤ g =
      member-has w k (λ p. far k p ≤ g) (every-unmap (λ v. v ≤ g) (far k) (run# w k) (greatest_le (map (far k) (run# w k)))) R.farthest R.member in
      omega (arith, a, b, R.reached)

  -- the inner reach is the least distance but the first's own
  inner-plain : (k : ℕ) → inner# w k ≡ nearest# d w k → InnerReach d w k
  inner-plain k e =
      record {
        alone = λ q. e ∙ ap (λ (c : ℕ). lowest (map (far k) (rest (range (start# w k) c)))) q;
        within = other-has w k (λ p. inner# w k ≤ far k p) (subst (λ (r : ℕ). Every (λ p. r ≤ far k p) (rest (run# w k))) (sym e)
            (every-unmap (λ v. nearest# d w k ≤ v) (far k) (rest (run# w k)) (lowest_le (map (far k) (rest (run# w k))))));
        reached = λ q. lowest-has (λ v. inner# w k ≡ v → Nearest d w k) (map (far k) (rest (run# w k))) (omega (arith, others-length k, q))
            (every_map (λ v. inner# w k ≡ v → Nearest d w k) (far k) (rest (run# w k))
            (others-have w k (λ p. inner# w k ≡ far k p → Nearest d w k)
            (λ p h l r. record { nearest = p; member = h; other = l; reached = sym r }))) e;
      }

  -- and the other way
  plain-inner : (k : ℕ) → 1 ≤ count# w k → InnerReach d w k → inner# w k ≡ nearest# d w k
  plain-inner k some R = by_cases (dec_lt 1 (count# w k)) many alone
    where
      alone : (1 < count# w k → ⊥) → inner# w k ≡ nearest# d w k
      alone l =
          let one : count# w k ≡ 1 = omega arith in
          R.alone one ∙ sym (ap (λ (c : ℕ). lowest (map (far k) (rest (range (start# w k) c)))) one)

      many : 1 < count# w k → inner# w k ≡ nearest# d w k
      many l =
          let N = R.reached l in
          let a : inner# w k ≤ nearest# d w k =
          lowest-over (inner# w k) (map (far k) (rest (run# w k))) (omega (arith, others-length k, l))
          (every_map (λ v. inner# w k ≤ v) (far k) (rest (run# w k)) (others-have w k (λ p. inner# w k ≤ far k p) R.within)) in
          let b : nearest# d w k ≤ far k N.nearest =
          other-has w k (λ p. nearest# d w k ≤ far k p) (every-unmap (λ v. nearest# d w k ≤ v) (far k) (rest (run# w k))
          (lowest_le (map (far k) (rest (run# w k))))) N.nearest N.member N.other in
          omega (arith, a, b, N.reached)

  -- ---- rows
  -- no row number stands again: no two positions hold one row
  once-plain : ((p : ℕ) → p < n# w → again w p ≡ false) → (p q : ℕ) → p < q → q < n# w → row# w p ≡ row# w q → ⊥
  unfolding again
  once-plain f p q l h e =
      eqb-false (row# w q) (row# w p)
      (every-at (λ i. eqb (row# w q) (row# w i) ≡ false) q p (every-unmap (λ v. eqb (row# w q) v ≡ false) (row# w) (range 0 q)
      (any_false (eqb (row# w q)) (map (row# w) (range 0 q)) (f q h))) l) (sym e)

  -- and the other way
  plain-once : ((p q : ℕ) → p < n# w → q < n# w → row# w p ≡ row# w q → p ≡ q) → (p : ℕ) → p < n# w → again w p ≡ false
  unfolding again
  plain-once f p h =
      any_none (eqb (row# w p)) (map (row# w) (range 0 p)) (every_map (λ v. eqb (row# w p) v ≡ false) (row# w) (range 0 p)
      (at_every (λ q. eqb (row# w p) (row# w q) ≡ false) p
      (λ q l. ne_eqb (row# w p) (row# w q) (λ e. omega (arith, f p q h (omega arith) e, l)))))

  -- each row stands somewhere
  row-stands : Accepted d w → (i : ℕ) → i < n# w → Standing w i
  row-stands A i h =
      times_every (Standing w) (map (row# w) (range 0 (n# w)))
      (every_map (Standing w) (row# w) (range 0 (n# w)) (at_every (λ p. Standing w (row# w p)) (n# w)
      (λ p q. record { position = p; inside = q; is = refl }))) i
      (omega (arith, each-once d w A i h, ap (times i) (rows-tree w (shape_of d w A))))

  -- ---- both ways
  -- AN ACCEPTED INDEX MEETS THE CONDITIONS
  accepted-plain : Accepted d w → Conditions d w
  accepted-plain A =
      let S = shape_of d w A in
      let O = no_faults d w A.sound in
      let F = fits d w O in
      record {
        words = words-plain w A.words;
        shape = shape-plain w A.shape;
        there = row-stands A;
        once = λ p q hp hq e.
            by_cases (dec_lt p q) (λ l. absurd (once-plain (once-of d w A) p q l hq e))
            (λ l. by_cases (dec_lt q p) (λ u. absurd (once-plain (once-of d w A) q p u hp (sym e))) (λ u. omega arith));
        stored = λ k p h e u.
            let i : ℕ = p - start# w k in
            let z : start# w k + i ≡ p = omega (arith, u.0) in
            subst (λ p. dist# w p ≡ far k p) z (sym (F.dists k i h (ap (λ c. not (eqb c 0)) e) (omega (arith, u.0, u.1)) (omega (arith, u.1, (S.node k h).run))));
        radii = λ k h. radius-plain k (S.node k h).some (radius-is d w O k h);
        inners = λ two k h. inner-plain k (inner-is-nearest d w O two k h);
        close = λ k a b p h s qa qb u.
            let e = some-inner w k s in
            let K = (S.node k h).kids e in
            let j : ℕ = child# w k + a in
            let i : ℕ = p - start# w j in
            let z : start# w j + i ≡ p = omega (arith, u.0) in
            subst (λ p. d (first# w j) (row# w p) ≤ d (first# w (child# w k + b)) (row# w p)) z
            (F.near k a b i h e qa qb (omega (arith, u.0, u.1)) (omega (arith, (K.part a qa).0)) (omega (arith, u.1, (K.part a qa).1)));
      }

  -- a node of an index that meets them is right
  plain-right : Conditions d w → (k : ℕ) → k < nodes# w → Right d w k
  plain-right C k h =
      record {
        radius = plain-radius k (C.radii k h);
        inner-reach = by-edition (eqb (edition# w) 2) refl;
        dists = λ e. members-have w k (λ p. dist# w p ≡ far k p)
            (λ p u. C.stored k p h (eqb-true (child# w k) 0 (not-false (eqb (child# w k) 0) e)) u);
        near = λ e. range-every (λ j. Every (λ p. Every (λ i. d (first# w j) (row# w p) ≤ d (first# w i) (row# w p)) (range (child# w k) (m# w))) (run# w j))
            (child# w k) (m# w)
            (λ a qa. members-have w (child# w k + a)
            (λ p. Every (λ i. d (first# w (child# w k + a)) (row# w p) ≤ d (first# w i) (row# w p)) (range (child# w k) (m# w)))
            (λ p u. range-every (λ i. d (first# w (child# w k + a)) (row# w p) ≤ d (first# w i) (row# w p)) (child# w k) (m# w)
            (λ b qb. C.close k a b p h (inner-some w k e) qa qb u)));
      }
    where
      by-edition : (b : Bool) → eqb (edition# w) 2 ≡ b → inner# w k ≡ kept (edition# w) (nearest# d w k)
      by-edition true e =
          let two = eqb-true (edition# w) 2 e in
          plain-inner k (C.shape.node k h).some (C.inners two k h) ∙ sym (ap (λ (b : Bool). cond b (nearest# d w k) 0) e)
      by-edition false e = ap (λ (b : Bool). cond b (at w (node_at_lem w k + 4)) 0) e ∙ sym (ap (λ (b : Bool). cond b (nearest# d w k) 0) e)

  -- ONE THAT MEETS THEM IS ACCEPTED
  plain-accepted : Conditions d w → Accepted d w
  plain-accepted C =
      record {
        words = plain-words w C.words;
        shape = plain-shape w C.shape;
        sound = no-fault d w (once_to w (plain-once C.once) (n# w) (omega arith)) (at_every (Right d w) (nodes# w) (plain-right C));
      }

  -- ACCEPTED-MEANS: THE FULL CHECK ACCEPTS AN INDEX EXACTLY WHERE 01'S CONDITIONS HOLD
  pub accepted-means : Accepted d w ↔ Conditions d w
  accepted-means = (accepted-plain, plain-accepted)
