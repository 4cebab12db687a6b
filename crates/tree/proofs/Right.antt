-- The words of a tree that fits its table have no fault. Assumes nothing.
use Prim.Native.Nat.{◌+◌, ◌≤◌, suc, zero, ℕ}
use Rattle.laws.proofs.Every.{every_append, every_of, every-unmap}
use Rattle.laws.proofs.Lists.{map-map}
use Rattle.laws.proofs.Ranges.{every-range-append}
use Rattle.laws.proofs.Times.{lefts}
use Rattle.laws.specs.Every.{Every}
use Rattle.laws.specs.Lists.{greatest, head, lowest, range, rest}
use Rattle.tree.proofs.Encode.{Even, Holds, fork_inner, level-first, level-length, level-others, nodes-head, nodes-length, nodes_rest}
use Rattle.tree.proofs.Full.{Full, first-row}
use Rattle.tree.proofs.Grown.{Tight}
use Rattle.tree.proofs.Held.{At, at_dists, at_left, at_right, at_rows}
use Rattle.tree.proofs.Shaped.{Fine, below_fine, below_none}
use Rattle.tree.proofs.Sound.{Close, Sound}
use Rattle.tree.specs.Check.{nearest#}
use Rattle.tree.specs.Encode.{Node, below, broods, family, level_nodes, nodes, span, spans}
use Rattle.tree.specs.Grove.{Grove, Reach, bare, entries, first, firsts, fork, leaf, rows_in}
use Rattle.words.specs.Shape.{inner}
use Rattle.words.specs.Words.{child#, count#, dist#, edition#, first#, inner#, kept, m#, radius#, row#, run#, start#}
use lib.Dec.{T, eqb}
use lib.ListN.{length, length-map}
use mathlib.Core.Bool.{false, not, true}
use mathlib.Core.List.{List, [], ◌++◌, ◌∷◌, map}
use mathlib.Core.Path.{◌∙◌, ◌≡◌, ap, ap₂, refl, subst, sym}
use native.Mathlib.Nat.{add_assoc, add-zero, not-suc-le-zero}
use native.Mathlib.Omega.{arith}

-- all but the first, of a list changed one by one
pub rest_map : (f : ℕ → ℕ) (xs : List ℕ) → rest (map f xs) ≡ map f (rest xs)
rest_map f [] = refl
rest_map f (x ∷ xs) = refl

module _ (d : ℕ → ℕ → ℕ) (w : List ℕ) where
  -- each member of b nodes from number a on is as close to its own node's first as to any of their firsts
  abbrev pub NearAll : ℕ → ℕ → Type 0
  NearAll a b = Every (λ j. Every (λ p. Every (λ i. d (first# w j) (row# w p) ≤ d (first# w i) (row# w p)) (range a b)) (run# w j)) (range a b)

  -- one node k: exact radius and inner reach; a leaf's stored distances; an inner node's members each with its closest centre
  pub record Right (k : ℕ) : Type 0 where
    pub radius : radius# w k ≡ greatest (map (λ p. d (first# w k) (row# w p)) (run# w k))
    pub inner-reach : inner# w k ≡ kept (edition# w) (nearest# d w k)
    pub dists : inner w k ≡ false → Every (λ p. dist# w p ≡ d (first# w k) (row# w p)) (run# w k)
    pub near : inner w k ≡ true → NearAll (child# w k) (m# w)

  -- a node whose run holds the pairs es
  module _ (k s : ℕ) (es : List (ℕ × ℕ)) (hs : start# w k ≡ s) (hc : count# w k ≡ length es) (some : 1 ≤ length es) (at : At w s es) where
    -- its run
    run_is : run# w k ≡ range s (length es)
    run_is = ap₂ range hs hc

    -- the rows of its run
    rows_are : map (row# w) (run# w k) ≡ lefts es
    rows_are = ap (map (row# w)) run_is ∙ at_rows w s es at

    -- its first
    first-is : first# w k ≡ head (lefts es)
    first-is = ap (row# w) hs ∙ go es some at
      where
        go : (es : List (ℕ × ℕ)) → 1 ≤ length es → At w s es → row# w s ≡ head (lefts es)
        go [] q a = absurd (not-suc-le-zero q)
        go (e ∷ es) q a = a.0

    -- how far its members reach from its first
    greatest-is : (f : ℕ) → f ≡ first# w k → greatest (map (d f) (lefts es)) ≡ greatest (map (λ p. d (first# w k) (row# w p)) (run# w k))
    greatest-is f q = ap greatest (ap₂ (λ g rs. map (d g) rs) q (sym rows_are) ∙ sym (map-map (d (first# w k)) (row# w) (run# w k)))

    -- and how near the nearest but the first is
    lowest-is : (f : ℕ) → f ≡ first# w k → lowest (map (d f) (rest (lefts es))) ≡ nearest# d w k
    lowest-is f q =
        ap lowest (ap₂ (λ g rs. map (d g) (rest rs)) q (sym rows_are) ∙ ap (map (d (first# w k))) (rest_map (row# w) (run# w k))
        ∙ sym (map-map (d (first# w k)) (row# w) (rest (run# w k))))

  -- a fact of rows, at the positions that hold them
  every-rows : (P : ℕ → Type 0) (ps is : List ℕ) → map (row# w) ps ≡ is → Every P is → Every (λ p. P (row# w p)) ps
  every-rows P ps is e h = every-unmap P (row# w) ps (subst (Every P) (sym e) h)

  -- the centres of a family, and that its rows are closest to them
  family-firsts : (j nx s : ℕ) (g : Grove) → Full g → Holds w j (family nx s g) → At w s (entries g) → map (first# w) (range j (span g)) ≡ firsts g
  unfolding family
  family-firsts j nx s bare f h a = refl
  family-firsts j nx s (leaf R es g) f h a =
      ap₂ (λ x y. x ∷ y) (first-is j s es h.0 h.1 f.0 (at_left w s es (entries g) a))
      (family-firsts (suc j) nx (s + length es) g f.1 h.4 (at_right w s es (entries g) a))
  family-firsts j nx s (fork R ks g) f h a =
      let q = first-row ks f.1 f.0 in
      ap₂ (λ x y. x ∷ y) (first-is j s (entries ks) h.0 h.1 (omega (arith, q.0, length-map (entries ks) (λ e. e.0)))
      (at_left w s (entries ks) (entries g) a) ∙ q.1)
      (family-firsts (suc j) (nx + span ks) (s + length (entries ks)) g f.2 h.4 (at_right w s (entries ks) (entries g) a))

  -- each row of a family is as close to its own node's first as to any of the centres cs
  family-close : (cs : List ℕ) (j nx s : ℕ) (g : Grove) → Full g → Holds w j (family nx s g) → At w s (entries g) → Close d cs g
      → Every (λ k. Every (λ p. Every (λ c. d (first# w k) (row# w p) ≤ d c (row# w p)) cs) (run# w k)) (range j (span g))
  unfolding family
  family-close cs j nx s bare f h a c = tt
  family-close cs j nx s (leaf R es g) f h a c =
      let l = at_left w s es (entries g) a in (
        every-rows (λ i. Every (λ c. d (first# w j) i ≤ d c i) cs) (run# w j) (lefts es) (rows_are j s es h.0 h.1 f.0 l)
            (subst (λ z. Every (λ i. Every (λ c. d z i ≤ d c i) cs) (lefts es)) (sym (first-is j s es h.0 h.1 f.0 l)) c.0),
        family-close cs (suc j) nx (s + length es) g f.1 h.4 (at_right w s es (entries g) a) c.1,
      )
  family-close cs j nx s (fork R ks g) f h a c =
      let l = at_left w s (entries ks) (entries g) a in
      let q = first-row ks f.1 f.0 in
      let some : 1 ≤ length (entries ks) = omega (arith, q.0, length-map (entries ks) (λ e. e.0)) in (
        every-rows (λ i. Every (λ c. d (first# w j) i ≤ d c i) cs) (run# w j) (rows_in ks) (rows_are j s (entries ks) h.0 h.1 some l)
            (subst (λ z. Every (λ i. Every (λ c. d z i ≤ d c i) cs) (rows_in ks)) (sym (first-is j s (entries ks) h.0 h.1 some l ∙ q.1))
            c.0),
        family-close cs (suc j) (nx + span ks) (s + length (entries ks)) g f.2 h.4 (at_right w s (entries ks) (entries g) a) c.1,
      )

  -- families that stand from number j on
  abbrev Brood : ℕ → List (ℕ × Grove) → Type 0
  Brood j [] = Unit {0}
  Brood j (f ∷ fs) = ((nx : ℕ) × Holds w j (family nx f.0 f.1)) × Brood (j + span f.1) fs

  -- of two lists of families the first
  brood-left : (j : ℕ) (fs hs : List (ℕ × Grove)) → Brood j (fs ++ hs) → Brood j fs
  brood-left j [] hs u = tt
  brood-left j (f ∷ fs) hs u = (u.0, brood-left (j + span f.1) fs hs u.1)

  -- and behind it the second
  brood-right : (j : ℕ) (fs hs : List (ℕ × Grove)) → Brood j (fs ++ hs) → Brood (j + spans fs) hs
  brood-right j [] hs u = rw (add-zero j) u
  brood-right j (f ∷ fs) hs u = rw (← add_assoc j (span f.1) (spans fs)) (brood-right (j + span f.1) fs hs u.1)

  -- a level's families stand one after the other
  level-brood : (j nx : ℕ) (fs : List (ℕ × Grove)) → Holds w j (level_nodes nx fs) → Brood j fs
  level-brood j nx [] h = tt
  level-brood j nx (f ∷ fs) h =
      ((nx, level-first w j nx f fs h), level-brood (j + span f.1) (nx + spans (broods f.0 f.1)) fs (level-others w j nx f fs h))

  -- a family that is well made and whose pairs stand where it says
  pub record Made (s : ℕ) (g : Grove) : Type 0 where
    pub full : Full g
    pub held : At w s (entries g)
    pub sound : Sound d g
    pub tight : Tight d g
    pub even : Even (m# w) g

  -- what follows a leaf is well made
  made-after-leaf : {s : ℕ} {R : Reach} {es : List (ℕ × ℕ)} {g : Grove} → Made s (leaf R es g) → Made (s + length es) g
  made-after-leaf {s} {R} {es} {g} M =
      record {
        full = M.full.1;
        held = at_right w s es (entries g) M.held;
        sound = M.sound.2;
        tight = M.tight.1;
        even = M.even;
      }

  -- so are an inner node's children
  made-kids : {s : ℕ} {R : Reach} {ks g : Grove} → Made s (fork R ks g) → Made s ks
  made-kids {s} {R} {ks} {g} M =
      record {
        full = M.full.1;
        held = at_left w s (entries ks) (entries g) M.held;
        sound = M.sound.2;
        tight = M.tight.1;
        even = M.even.1;
      }

  -- and what follows it
  made-after-fork : {s : ℕ} {R : Reach} {ks g : Grove} → Made s (fork R ks g) → Made (s + length (entries ks)) g
  made-after-fork {s} {R} {ks} {g} M =
      record {
        full = M.full.2;
        held = at_right w s (entries ks) (entries g) M.held;
        sound = M.sound.3;
        tight = M.tight.2;
        even = M.even.2;
      }

  -- a node with no first child is not inner
  no-leaf : (k : ℕ) → child# w k ≡ 0 → inner w k ≡ true → ⊥
  no-leaf k e q = subst T (sym q ∙ ap (λ c. not (eqb c 0)) e) tt

  -- the members of an inner node's children, each with its closest centre
  near_of : (nx nx' s : ℕ) (ks : Grove) → Full ks → Holds w nx (family nx' s ks) → At w s (entries ks) → Close d (firsts ks) ks
      → NearAll nx (span ks)
  near_of nx nx' s ks f h a c =
      every_of (λ j. Every (λ p. Every (λ c. d (first# w j) (row# w p) ≤ d c (row# w p)) (map (first# w) (range nx (span ks)))) (run# w j))
      (λ j. Every (λ p. Every (λ i. d (first# w j) (row# w p) ≤ d (first# w i) (row# w p)) (range nx (span ks))) (run# w j))
      (λ j q. every_of (λ p. Every (λ c. d (first# w j) (row# w p) ≤ d c (row# w p)) (map (first# w) (range nx (span ks))))
      (λ p. Every (λ i. d (first# w j) (row# w p) ≤ d (first# w i) (row# w p)) (range nx (span ks)))
      (λ p v. every-unmap (λ c. d (first# w j) (row# w p) ≤ d c (row# w p)) (first# w) (range nx (span ks)) v) (run# w j) q)
      (range nx (span ks))
      (subst (λ cs. Every (λ j. Every (λ p. Every (λ c. d (first# w j) (row# w p) ≤ d c (row# w p)) cs) (run# w j)) (range nx (span ks)))
      (sym (family-firsts nx nx' s ks f h a))
      (family-close (firsts ks) nx nx' s ks f h a c))

  -- the nodes of a family are right
  family-right : (j nx s : ℕ) (g : Grove) → Holds w j (family nx s g) → Made s g → 1 ≤ nx → Brood nx (broods s g) → Every Right (range j (span g))
  unfolding family broods
  family-right j nx s bare h M n u = tt
  family-right j nx s (leaf R es g) h M n u =
      let l = at_left w s es (entries g) M.held in
      let fi = first-is j s es h.0 h.1 M.full.0 l in (
        record {
          radius = h.3.0 ∙ M.tight.0.0 ∙ greatest-is j s es h.0 h.1 M.full.0 l (head (lefts es)) (sym fi);
          inner-reach = h.3.1
              ∙ ap (kept (edition# w)) (M.tight.0.1 ∙ lowest-is j s es h.0 h.1 M.full.0 l (head (lefts es)) (sym fi));
          dists = λ e. subst (λ ps. Every (λ p. dist# w p ≡ d (first# w j) (row# w p)) ps) (sym (run_is j s es h.0 h.1 M.full.0 l))
              (at_dists (d (first# w j)) w s es l (subst (λ (z : ℕ). Every (λ (e : ℕ × ℕ). d z e.0 ≡ e.1) es) (sym fi) M.sound.0));
          near = λ e. absurd (no-leaf j h.2 e);
        },
        family-right (suc j) nx (s + length es) g h.4 (made-after-leaf M) n u,
      )
  family-right j nx s (fork R ks g) h M n u =
      let l = at_left w s (entries ks) (entries g) M.held in
      let q = first-row ks M.full.1 M.full.0 in
      let some : 1 ≤ length (entries ks) = omega (arith, q.0, length-map (entries ks) (λ e. e.0)) in
      let fi : first# w j ≡ first ks = first-is j s (entries ks) h.0 h.1 some l ∙ q.1 in
      let near = near_of nx u.0.0 s ks M.full.1 u.0.1 l M.sound.0 in (
        record {
          radius = h.3.0 ∙ M.tight.0.0 ∙ greatest-is j s (entries ks) h.0 h.1 some l (first ks) (sym fi);
          inner-reach = h.3.1
              ∙ ap (kept (edition# w)) (M.tight.0.1 ∙ lowest-is j s (entries ks) h.0 h.1 some l (first ks) (sym fi));
          dists = λ e. absurd (subst T (sym (fork_inner w j nx h.2 n) ∙ e) tt);
          near = λ e. subst (λ a. NearAll a (m# w)) (sym h.2) (subst (NearAll nx) M.even.0 near);
        },
        family-right (suc j) (nx + span ks) (s + length (entries ks)) g h.4 (made-after-fork M) (omega arith) u.1,
      )

  -- the families of the children are well made
  broods-made : (s : ℕ) (g : Grove) → Made s g → Every (λ f. Made f.0 f.1) (broods s g)
  unfolding broods
  broods-made s bare M = tt
  broods-made s (leaf R es g) M = broods-made (s + length es) g (made-after-leaf M)
  broods-made s (fork R ks g) M = (made-kids M, broods-made (s + length (entries ks)) g (made-after-fork M))

  -- so are all families of the next level
  below-made : (fs : List (ℕ × Grove)) → Every (λ f. Made f.0 f.1) fs → Every (λ f. Made f.0 f.1) (below fs)
  below-made [] h = tt
  below-made (f ∷ fs) h =
      every_append (λ f. Made f.0 f.1) (broods f.0 f.1) (below fs) (broods-made f.0 f.1 h.0) (below-made fs h.1)

  -- the nodes of a level are right
  level-right : (j nx : ℕ) (fs : List (ℕ × Grove)) → Holds w j (level_nodes nx fs) → Every (λ f. Made f.0 f.1) fs → 1 ≤ nx → Brood nx (below fs)
      → Every Right (range j (spans fs))
  level-right j nx [] h M n u = tt
  level-right j nx (f ∷ fs) h M n u =
      let bs = broods f.0 f.1 in
      every-range-append Right j (span f.1) (spans fs)
      (family-right j nx f.0 f.1 (level-first w j nx f fs h) M.0 n (brood-left nx bs (below fs) u))
      (level-right (j + span f.1) (nx + spans bs) fs (level-others w j nx f fs h) M.1 (omega arith) (brood-right nx bs (below fs) u))

  -- EVERY NODE IS RIGHT
  pub nodes-right : (l deep a nx : ℕ) (fs : List (ℕ × Grove)) → Holds w a (nodes deep nx fs) → Every (λ f. Made f.0 f.1) fs
      → Every (λ f. Fine l deep f.1) fs
      → nx ≡ a + spans fs → 1 ≤ nx → Every Right (range a (length (nodes deep nx fs)))
  unfolding nodes
  nodes-right l zero a nx fs h M fi e n =
      subst (λ k. Every Right (range a k)) (sym (level-length nx fs)) (level-right a nx fs h M n (subst (Brood nx) (sym (below_none l fs fi)) tt))
  nodes-right l (suc deep) a nx fs h M fi e n =
      let k : ℕ = nx + spans (below fs) in
      let L : List Node = nodes deep k (below fs) in
      let rs : Holds w nx L = subst (λ i. Holds w i L) (sym e) (nodes_rest w deep a nx fs h) in
      subst (λ k. Every Right (range a k)) (sym (nodes-length deep nx fs))
      (every-range-append Right a (spans fs) (length L)
      (level-right a nx fs (nodes-head w (suc deep) a nx fs h) M n (level-brood nx k (below fs) (nodes-head w deep nx k (below fs) rs)))
      (subst (λ i. Every Right (range i (length L))) e (nodes-right l deep nx k (below fs) rs (below-made fs M) (below_fine l deep fs fi) refl
      (omega arith))))
