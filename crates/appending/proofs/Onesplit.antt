-- A leaf that takes one row too many is split once: its parts are leaves, so that there are m nodes more. Assumes nothing.
use Prim.Native.Nat.{◌+◌, ◌<◌, ◌≤◌, suc, zero, ℕ}
use Rattle.appending.proofs.Lodge.{grow-leaf, lodge-plain, longer_length, ordered, ordered-length, ordered_tally, stays, with_last}
use Rattle.appending.proofs.Lowest.{lowest_there}
use Rattle.appending.proofs.Nodes.{Made, Once, made-after-fork, made-after-leaf, made-kids, once_after_fork, once_after_leaf, once_kids}
use Rattle.appending.specs.Append.{join, lodge, lowest_at}
use Rattle.laws.proofs.Every.{every_of}
use Rattle.laws.proofs.Lists.{tally_length}
use Rattle.laws.proofs.Times.{tally_lefts}
use Rattle.laws.specs.Every.{Every}
use Rattle.laws.specs.Lists.{joined}
use Rattle.limits.specs.Limits.{max_depth}
use Rattle.tree.proofs.Good.{nodes-size, size}
use Rattle.tree.proofs.Grow.{split-length, split_runs, split-tally}
use Rattle.tree.proofs.Shaped.{Fine}
use Rattle.tree.specs.Build.{Run, grow, leaf_of, reach, split}
use Rattle.tree.specs.Encode.{numbered, span}
use Rattle.tree.specs.Grove.{Grove, Reach, bare, entries, firsts, fork, leaf}
use borrow.Author.Tests.{le-leb, leb-false, lt-leb, ne_eqb}
use lib.Dec.{T, eqb, leb, leb→le}
use lib.ListN.{length, length-append, length-map}
use mathlib.Core.Bool.{Bool, ◌||◌, cond, false, or-false, or-true, true}
use mathlib.Core.List.{List, [], ◌∷◌, foldr, map}
use mathlib.Core.Path.{◌∙◌, ◌≡◌, ap, ap₂, refl, subst, sym}
use native.Mathlib.Nat.{add-zero, not-suc-le-zero}
use native.Mathlib.Omega.{arith}

-- ---- how long the parts of a run are
-- lists that are not empty are no more than their elements
count_parts : (gs : List (List ℕ)) → Every (λ q. 1 ≤ length q) gs → length gs ≤ length (joined gs)
count_parts [] h = omega arith
count_parts (q ∷ gs) h = omega (arith, count_parts gs h.1, length-append q (joined gs), h.0)

-- none of them has an element of another
parts-length : (gs : List (List ℕ)) → Every (λ q. 1 ≤ length q) gs → Every (λ q. length q + length gs ≤ length (joined gs) + 1) gs
parts-length [] h = tt
parts-length (q ∷ gs) h = (
  omega (arith, count_parts gs h.1, length-append q (joined gs)),
  every_of (λ p. length p + length gs ≤ length (joined gs) + 1) (λ p. length p + length (q ∷ gs) ≤ length (joined (q ∷ gs)) + 1)
      (λ p k. omega (arith, length-append q (joined gs), h.0)) gs (parts-length gs h.1),
)

module _ (d : ℕ → ℕ → ℕ) (m l : ℕ) (m2 : 2 ≤ m) (ml : m ≤ l) where
  -- m is not 0
  m1 : 1 ≤ m
  m1 = omega arith

  -- runs of at most l rows grow to their leaves
  forest-leaves : (deep : ℕ) (gs : List (List ℕ)) → Every (λ q. length q ≤ l) gs → foldr (grow d m l deep) bare gs ≡ foldr (leaf_of d) bare gs
  forest-leaves deep [] h = refl
  forest-leaves deep (q ∷ gs) h =
      sym (grow-leaf d m l 0 deep q (foldr (grow d m l deep) bare gs) (ap (λ (b : Bool). b || eqb deep 0) (le-leb (length q) l h.0)))
      ∙ ap (leaf_of d q) (forest-leaves deep gs h.1)

  -- the parts of a run of l + 1 rows have at most l
  pub split-short : (run : List ℕ) → Run run → length run ≡ l + 1 → Every (λ q. length q ≤ l) (split d m run)
  split-short run r e =
      let k : m ≤ length run = omega arith in
      let n : length (joined (split d m run)) ≡ length run =
      sym (tally_length (joined (split d m run))) ∙ split-tally d m l m1 ml (λ i. true) run r k ∙ tally_length run in
      every_of (λ q. length q + length (split d m run) ≤ length (joined (split d m run)) + 1) (λ q. length q ≤ l)
      (λ q h. omega (arith, split-length d m l m1 ml run)) (split d m run)
      (parts-length (split d m run) (every_of Run (λ q. 1 ≤ length q) (λ q h. h.0) (split d m run) (split_runs d m l m1 ml run r k)))

  -- A RUN OF l + 1 ROWS IS SPLIT ONCE
  pub grow-once : (deep : ℕ) (run : List ℕ) (g : Grove) → Run run → length run ≡ l + 1
      → grow d m l (suc deep) run g ≡ fork (reach d run) (foldr (leaf_of d) bare (split d m run)) g
  unfolding grow
  grow-once deep run g r e =
      let b : leb (length run) l ≡ false = many (length run) e in
      ap (λ (b : Bool). cond b (leaf_of d run g) (fork (reach d run) (foldr (grow d m l deep) bare (split d m run)) g)) b
      ∙ ap (λ (ks : Grove). fork (reach d run) ks g) (forest-leaves deep (split d m run) (split-short run r e))
    where
      many : (n : ℕ) → n ≡ l + 1 → leb n l ≡ false
      many n e = lt-leb n l (omega arith)

  -- how many nodes leaves side by side are
  leaves-size : (gs : List (List ℕ)) → size (foldr (leaf_of d) bare gs) ≡ length gs
  leaves-size [] = refl
  leaves-size (q ∷ gs) = omega (arith, leaves-size gs)

  module _ (z : ℕ) where
    -- none of the rows by which it is split stands there twice
    ordered-run : (R : Reach) (es : List (ℕ × ℕ)) (g : Grove) → Once z (leaf R es g) → Run (ordered z es)
    ordered-run R es g o =
        (omega (arith, ordered-length z es), λ i. omega (arith, o i, ordered_tally z (eqb i) es, tally_lefts (eqb i) es (entries g)))

    -- how many rows decide
    stays-count : (deep : ℕ) (es : List (ℕ × ℕ)) → stays d m l z deep es ≡ (leb (length es + 1) l || eqb deep 0)
    stays-count deep es = ap (λ (k : ℕ). leb k l || eqb deep 0) (longer_length z es)

    -- A LEAF OF l ROWS ABOVE DEPTH 24 THAT TAKES ONE MORE BECOMES AN INNER NODE OVER m LEAVES
    pub lodge-split : (deep : ℕ) (R : Reach) (es : List (ℕ × ℕ)) (g : Grove) → Made d m l (suc deep) (leaf R es g) → Once z (leaf R es g)
        → length es ≡ l → lodge d m l z (suc deep) R es g ≡ fork (reach d (ordered z es)) (foldr (leaf_of d) bare (split d m (ordered z es))) g
    lodge-split deep R es g M o e =
        let b : (leb (length es + 1) l || eqb (suc deep) 0) ≡ false =
        ap₂ (λ (x y : Bool). x || y) (lt-leb (length es + 1) l (omega arith)) (ne_eqb (suc deep) 0 (λ q. omega arith)) in
        lodge-plain d m l z M o
        ∙ ap (λ (b : Bool). cond b (with_last d m l z R es g) (grow d m l (suc deep) (ordered z es) g)) (stays-count (suc deep) es ∙ b)
        ∙ grow-once deep (ordered z es) g (ordered-run R es g o) (ordered-length z es ∙ ap (λ (n : ℕ). n + 1) e)

    -- ANY OTHER LEAF STAYS ONE
    pub lodge-stays : (deep : ℕ) (R : Reach) (es : List (ℕ × ℕ)) (g : Grove) → Made d m l deep (leaf R es g) → Once z (leaf R es g)
        → (leb (length es + 1) l || eqb deep 0) ≡ true → lodge d m l z deep R es g ≡ with_last d m l z R es g
    lodge-stays deep R es g M o e =
        lodge-plain d m l z M o
        ∙ ap (λ (b : Bool). cond b (with_last d m l z R es g) (grow d m l deep (ordered z es) g)) (stays-count deep es ∙ e)

    -- so many nodes more, by whether a leaf is split
    abbrev Size : Grove → Grove → Type 0
    Size g g' = (b : Bool) × (size g' ≡ size g + cond b m 0)

    -- the leaf
    lodge-size : (deep : ℕ) (R : Reach) (es : List (ℕ × ℕ)) (g : Grove) → Made d m l deep (leaf R es g) → Once z (leaf R es g)
        → Size (leaf R es g) (lodge d m l z deep R es g)
    lodge-size zero R es g M o =
        let b : (leb (length es + 1) l || true) ≡ true = or-true (leb (length es + 1) l) in
        (false, ap size (lodge-stays 0 R es g M o b) ∙ omega arith)
    lodge-size (suc deep) R es g M o = go (leb (length es + 1) l) refl
      where
        no : eqb (suc deep) 0 ≡ false
        no = ne_eqb (suc deep) 0 (λ q. omega arith)

        go : (b : Bool) → leb (length es + 1) l ≡ b → Size (leaf R es g) (lodge d m l z (suc deep) R es g)
        go true e = (false, ap size (lodge-stays (suc deep) R es g M o (ap (λ (b : Bool). b || eqb (suc deep) 0) e)) ∙ omega arith)
        go false e =
            let few : length es ≤ l =
            leb→le (length es) l (subst T (or-false (leb (length es) l)) (subst (λ (b : Bool). T (leb (length es) l || b)) no M.fine.2)) in
            let q : length es ≡ l = omega (arith, leb-false (length es + 1) l e) in (
              true,
              ap size (lodge-split deep R es g M o q)
                  ∙ omega (arith, leaves-size (split d m (ordered z es)), split-length d m l m1 ml (ordered z es)),
            )

    -- a node before it
    size-after : (a s s' : ℕ) → (b : Bool) × (s' ≡ s + cond b m 0) → (b : Bool) × (a + s' ≡ a + s + cond b m 0)
    size-after a s s' p = (p.0, omega (arith, p.1))

    -- NODES SIDE BY SIDE OF WHICH ONE TAKES THE ROW: m NODES MORE OR NONE
    pub join-size : (deep k : ℕ) (g : Grove) → Made d m l deep g → Once z g → k < span g → Size g (join d m l z deep k g)
    unfolding join
    join-size deep k bare M o h = absurd (not-suc-le-zero h)
    join-size deep zero (leaf R es g) M o h = lodge-size deep R es g M o
    join-size deep (suc k) (leaf R es g) M o h =
        size-after 1 (size g) (size (join d m l z deep k g)) (join-size deep k g (made-after-leaf M) (once_after_leaf z R es g o) (omega arith))
    join-size zero zero (fork R ks g) M o h = absurd M.fine
    join-size (suc deep) zero (fork R ks g) M o h =
        let xs : List ℕ = map (λ c. d c z) (firsts ks) in
        let n : length xs ≡ length (firsts ks) = length-map (firsts ks) (λ c. d c z) in
        let p = join-size deep (lowest_at xs) ks (made-kids M) (once_kids z R ks g o)
        (omega (arith, M.full.0, lowest_there xs (omega (arith, M.full.0)))) in
        (p.0, omega (arith, p.1))
    join-size zero (suc k) (fork R ks g) M o h = absurd M.fine
    join-size (suc deep) (suc k) (fork R ks g) M o h =
        size-after (1 + size ks) (size g) (size (join d m l z (suc deep) k g))
        (join-size (suc deep) k g (made-after-fork M) (once_after_fork z R ks g o) (omega arith))

-- all nodes of a tree are numbered
pub numbered-size : (l : ℕ) (t : Grove) → Fine l max_depth t → length (numbered t) ≡ size t
unfolding numbered
numbered-size l t fi = nodes-size l max_depth (span t) ((0, t) ∷ []) (fi, tt) ∙ add-zero (size t)
