-- The rounds on the words of a run choose the centres of 01. Assumes nothing.
use Prim.Native.Nat.{◌*◌, ◌+◌, ◌-◌, ◌≤◌, suc, zero, ℕ}
use Rattle.laws.proofs.Joins.{each_append}
use Rattle.laws.specs.Lists.{each, head, rest, without}
use Rattle.rounds.proofs.Entries.{but_append, but_long, far_place}
use Rattle.rounds.specs.Entries.{ahead, ahead_of, all_but, far, far_in, near_all, next, others, own, rounds_of}
use Rattle.split.proofs.Closest.{held, near-held, nearness-closest}
use Rattle.split.specs.Runs.{laid}
use Rattle.tree.specs.Build.{choose, farther, farthest, nearness}
use borrow.Author.Tests.{eq-eqb, le-leb, le-ltb, leb-false, leb-true, ltb-false, ltb-true, ne_eqb}
use lib.Dec.{eqb, leb, ltb}
use lib.ListN.{get_or-append, drop, get_or, length, take, take-append-drop}
use lib.Seq.{length-take-le, take_at}
use mathlib.Core.Bool.{Bool, ◌&&◌, ◌||◌, cond, false, false≢true, true}
use mathlib.Core.List.{List, [], ◌++◌, ◌∷◌, append_assoc}
use mathlib.Core.Path.{◌∙◌, ◌≡◌, ap, ap₂, refl, sym}
use native.Mathlib.Nat.{not-suc-le-zero}
use native.Mathlib.Omega.{arith}

-- ---- the farthest
-- of rows i and k at the distances x and y, the one that is ahead is 01's farther
ahead_farther : (x y i k : ℕ) → cond (ahead i x k y) i k ≡ cond (ltb y x || (eqb y x && ltb i k)) i k
ahead_farther x y i k = go (ltb y x) (ltb x y) (leb i k) refl refl refl
  where
    tie : i ≤ k → (s : Bool) → ltb i k ≡ s → i ≡ cond s i k
    tie h true e = refl
    tie h false e = omega (arith, ltb-false i k e)

    go : (p q r : Bool) → ltb y x ≡ p → ltb x y ≡ q → leb i k ≡ r → cond (cond p true (cond q false r)) i k ≡ cond (p || (eqb y x && ltb i k)) i k
    go true q r e f g = refl
    go false true r e f g = rw (ne_eqb y x (λ z. omega (arith, ltb-true x y f)))
    go false false true e f g = rw (eq-eqb y x (omega (arith, ltb-false y x e, ltb-false x y f))) (tie (leb-true i k g) (ltb i k) refl)
    go false false false e f g =
        rw (eq-eqb y x (omega (arith, ltb-false y x e, ltb-false x y f)), le-ltb i k (omega (arith, leb-false i k g)))

-- a row that is not ahead of k is not k
ahead_other : (x : ℕ → ℕ) (i k : ℕ) → ahead i (x i) k (x k) ≡ false → eqb k i ≡ false
ahead_other x i k h = ne_eqb k i (λ z. false≢true (sym h ∙ same z))
  where
    same : k ≡ i → ahead i (x i) k (x k) ≡ true
    same z = rw (z, le-ltb (x i) (x i) (omega arith), le-leb i i (omega arith))

-- a number that is not the first is taken out behind it
without_other : (k i : ℕ) (l : List ℕ) → eqb k i ≡ false → without k (i ∷ l) ≡ i ∷ without k l
without_other k i l e = rw e refl

module _ (d : ℕ → ℕ → ℕ) where
  -- the entry at word b is that of the farthest of the rows is; the others are the entries of the other rows
  record FarHeld (cs is es : List ℕ) (b : ℕ) : Type 0 where
    row : get_or es b 0 ≡ farthest d cs is
    dist : get_or es (b + 1) 0 ≡ nearness d cs (farthest d cs is)
    left : all_but b es ≡ each (held d cs) (without (farthest d cs is) is)

  -- one row more in front
  far-more : (cs : List ℕ) (i j : ℕ) (is es : List ℕ) (b : ℕ) → es ≡ each (held d cs) (j ∷ is) → FarHeld cs (j ∷ is) es b
      → FarHeld cs (i ∷ j ∷ is) (held d cs i ++ es) (ahead_of i (nearness d cs i) es b)
  far-more cs i j is es b all behind = pick (ahead i (nearness d cs i) k (nearness d cs k)) refl
    where
      k : ℕ
      k = farthest d cs (j ∷ is)

      chosen : (s : Bool) → ahead i (nearness d cs i) k (nearness d cs k) ≡ s → farther d cs i k ≡ cond s i k
      chosen s e = sym (ahead_farther (nearness d cs i) (nearness d cs k) i k) ∙ ap (λ (s : Bool). cond s i k) e

      go : (s : Bool) → ahead i (nearness d cs i) k (nearness d cs k) ≡ s → FarHeld cs (i ∷ j ∷ is) (held d cs i ++ es) (cond s 0 (3 + b))
      go true e =
          let f : farther d cs i k ≡ i = chosen true e in
          record { row = sym f; dist = ap (nearness d cs) (sym f); left = rw (f, eq-eqb i i refl) all }
      go false e =
          let f : farther d cs i k ≡ k = chosen false e in
          let three : 3 + b ≡ suc (suc (suc b)) = omega arith in
          let four : suc (suc (suc b)) + 1 ≡ suc (suc (suc (b + 1))) = omega arith in
          let six : suc (suc (suc b)) + 3 ≡ suc (suc (suc (b + 3))) = omega arith in
          let whole : all_but (3 + b) (held d cs i ++ es) ≡ held d cs i ++ each (held d cs) (without k (j ∷ is)) =
          rw (three, six) (ap (λ (l : List ℕ). held d cs i ++ l) behind.left) in
          record {
            row = rw (f, three) behind.row;
            dist = rw (f, three, four) behind.dist;
            left = whole ∙ sym (ap (each (held d cs)) (ap (λ (x : ℕ). without x (i ∷ j ∷ is)) f ∙ without_other k i (j ∷ is) (ahead_other (nearness d cs) i k e)));
          }

      pick : (s : Bool) → ahead i (nearness d cs i) k (nearness d cs k) ≡ s
          → FarHeld cs (i ∷ j ∷ is) (held d cs i ++ es) (ahead_of i (nearness d cs i) es b)
      pick s e = rw (behind.row, behind.dist, e) (go s e)

  -- `far` finds the entry of the farthest row
  far-held : (cs is : List ℕ) → 1 ≤ length is → FarHeld cs is (each (held d cs) is) (far (each (held d cs) is))
  unfolding far
  far-held cs [] h = absurd (not-suc-le-zero h)
  far-held cs (i ∷ []) h = record { row = refl; dist = refl; left = rw (eq-eqb i i refl) }
  far-held cs (i ∷ j ∷ is) h =
      far-more cs i j is (each (held d cs) (j ∷ is)) (far (each (held d cs) (j ∷ is))) refl (far-held cs (j ∷ is) (omega arith))

  -- ---- the rounds choose the centres
  -- an entry has three words
  held_long : (cs is : List ℕ) → length (each (held d cs) is) ≡ 3 * length is
  held_long cs [] = refl
  held_long cs (i ∷ is) = omega (arith, held_long cs is)

  -- k rounds behind the centres' entries give what 01 chooses among the rows is; the rows ls behind them wait too
  rounds-held : (k a : ℕ) (cs is ls : List ℕ) (bound : ℕ) → k ≤ length is → bound ≡ 3 * length is
      → each own (a ∷ cs) ++ rounds_of d k bound (each (held d (a ∷ cs)) (is ++ ls))
      ≡ each own (choose d k (a ∷ cs) is).0 ++ each (held d (choose d k (a ∷ cs) is).0) ((choose d k (a ∷ cs) is).1 ++ ls)
  unfolding rounds_of others choose
  rounds-held zero a cs is ls bound h e = refl
  rounds-held (suc k) a cs is ls bound h e =
      let j : ℕ = farthest d (a ∷ cs) is in
      let es : List ℕ = each (held d (a ∷ cs)) is in
      let fs : List ℕ = each (held d (a ∷ cs)) ls in
      let ws : List ℕ = each (held d (a ∷ cs)) (is ++ ls) in
      let size : length es ≡ 3 * length is = held_long (a ∷ cs) is in
      let whole : ws ≡ es ++ fs = each_append (held d (a ∷ cs)) is ls in
      let place = far_place es (omega arith) (omega arith) in
      let f = far-held (a ∷ cs) is (omega arith) in
      let at : far_in bound ws ≡ far es = ap far (ap (take bound) whole ∙ take_at es fs bound (omega arith)) in
      let row : next bound ws ≡ j =
      ap₂ (λ (l : List ℕ) (b : ℕ). get_or l b 0) whole at ∙ get_or-append es fs 0 (far es) (omega (arith, place.0)) ∙ f.row in
      let left : all_but (far_in bound ws) ws ≡ each (held d (a ∷ cs)) (without j is ++ ls) =
      ap₂ all_but at whole ∙ but_append es fs (far es) place.0 ∙ ap (λ (l : List ℕ). l ++ fs) f.left
      ∙ sym (each_append (held d (a ∷ cs)) (without j is) ls) in
      let waiting : others d bound ws ≡ each (held d (a ∷ cs ++ j ∷ [])) (without j is ++ ls) =
      ap₂ (λ (x : ℕ) (l : List ℕ). near_all d x l) row left ∙ near-held d a cs j (without j is ++ ls) in
      let fewer : 3 * length (without j is) + 3 ≡ 3 * length is =
      ap (λ (n : ℕ). n + 3) (sym (ap length f.left ∙ held_long (a ∷ cs) (without j is))) ∙ but_long es (far es) place.0 ∙ size in
      let rest : List ℕ = rounds_of d k (bound - 3) (each (held d (a ∷ cs ++ j ∷ [])) (without j is ++ ls)) in
      ap₂ (λ (x : ℕ) (l : List ℕ). each own (a ∷ cs) ++ (own x ++ rounds_of d k (bound - 3) l)) row waiting
      ∙ sym (append_assoc (each own (a ∷ cs)) (own j) rest)
      ∙ ap (λ (l : List ℕ). l ++ rest) (sym (each_append own (a ∷ cs) (j ∷ [])))
      ∙ rounds-held k a (cs ++ j ∷ []) (without j is) ls (bound - 3) (omega arith) (omega arith)

  -- a run's entries, while its first is the only centre
  laid-held : (a : ℕ) (is : List ℕ) → each (λ i. i ∷ d a i ∷ a ∷ []) is ≡ each (held d (a ∷ [])) is
  laid-held a [] = refl
  laid-held a (i ∷ is) = ap₂ (λ (x : ℕ) (l : List ℕ). i ∷ x ∷ a ∷ l) (sym (nearness-closest d (a ∷ []) i (omega arith))) (laid-held a is)

  -- ---- a run after its rounds
  -- its m centres
  abbrev pub chosen : ℕ → List ℕ → List ℕ
  chosen m run = (choose d (m - 1) (head run ∷ []) (rest run)).0

  -- its other rows
  abbrev pub unchosen : ℕ → List ℕ → List ℕ
  unchosen m run = (choose d (m - 1) (head run ∷ []) (rest run)).1

  -- its words where the centres are among its first `early` rows: the centres in their order, then the other rows, each with its closest centre and
  -- the distance
  abbrev pub chosen_words : ℕ → ℕ → List ℕ → List ℕ
  chosen_words m early run =
      let cs = chosen m (take early run) in
      each own cs ++ each (held d cs) (unchosen m (take early run) ++ drop early run)

  -- THE ROUNDS ON A RUN'S WORDS: the centres of 01, and the rows that wait
  pub chosen-words : (m early : ℕ) (run : List ℕ) → 1 ≤ m → m ≤ early → early ≤ length run → d (head run) (head run) ≡ 0
      → take 3 (laid d run) ++ rounds_of d (m - 1) (3 * early - 3) (drop 3 (laid d run)) ≡ chosen_words m early run
  chosen-words m zero run h s l z = absurd (omega arith)
  chosen-words m (suc e) [] h s l z = absurd (omega arith)
  chosen-words m (suc e) (a ∷ is) h s l z =
      let size : length (take e is) ≡ e = length-take-le e is (omega arith) in
      rw (z, laid-held a is)
      (ap (λ (l : List ℕ). own a ++ rounds_of d (m - 1) (3 * suc e - 3) (each (held d (a ∷ [])) l)) (sym (take-append-drop e is))
      ∙ rounds-held (m - 1) a [] (take e is) (drop e is) (3 * suc e - 3) (omega arith) (omega arith))
