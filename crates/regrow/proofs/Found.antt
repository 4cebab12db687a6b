-- An index in shape comes to each of its nodes once: the run of the node that is grown anew is due at the root, and no other. Assumes nothing.
use Prim.Native.Nat.{◌+◌, ◌-◌, ◌<◌, ◌≤◌, suc, zero, ℕ}
use Rattle.copies.specs.Copies.{copied}
use Rattle.moved_runs.specs.Runs.{new_child}
use Rattle.growing.specs.Levels.{Item}
use Rattle.laws.proofs.Joins.{each_append}
use Rattle.laws.proofs.Lists.{map-append}
use Rattle.laws.proofs.Ranges.{range_append, range-every}
use Rattle.laws.proofs.Tests.{and_l, and_r}
use Rattle.laws.specs.Every.{Every}
use Rattle.laws.specs.Lists.{each, range}
use Rattle.limits.specs.Limits.{max_depth, max_distance}
use Rattle.regrow.specs.Pieces.{Job, due, fresh, job_of, kept, piece}
use Rattle.words.proofs.Levels.{born-inner, born-le, born-leaf, inner-is}
use Rattle.words.proofs.Nodes.{closed, node_at, node_ok, not-orphan}
use Rattle.words.specs.Shape.{born, inner, level, node_ok_lem, tile, tree_fits_lem}
use Rattle.words.specs.Words.{nodes#, child#, count#, inner#, l#, m#, radius#, start#}
use borrow.Author.Tests.{eq-eqb, eqb-false, eqb-true, leb-true, lt-leb, ltb-false, ltb-true, ne_eqb}
use lib.Dec.{T, eqb, eqb→eq, leb, ltb}
use mathlib.Core.Bool.{Bool, ◌&&◌, ◌||◌, cond, false, true}
use mathlib.Core.List.{List, [], ◌++◌, ◌∷◌, append-nil, map}
use mathlib.Core.Path.{◌∙◌, ◌≡◌, ap, ap₂, refl, subst, sym}
use native.Mathlib.Nat.{add-zero}
use native.Mathlib.Omega.{arith}

-- a leaf above depth 24 has at most l rows
pub leaf_few : (w : List ℕ) → T (tree_fits_lem w) → (k : ℕ) → k < nodes# w → k < level w max_depth → child# w k ≡ 0 → count# w k ≤ l# w
unfolding node_ok_lem born
leaf_few w fits k h f z = go (leb (count# w k) (l# w)) refl (node_ok w fits k h)
  where
    go : (few : Bool) → leb (count# w k) (l# w) ≡ few
        → T (leb 1 (count# w k) && leb (radius# w k) max_distance && leb (inner# w k) max_distance
        && cond (few || leb (level w max_depth) k) (eqb (child# w k) 0)
        (eqb (child# w k) (born w k) && tile w (child# w k) (m# w) (start# w k) (start# w k + count# w k)))
        → count# w k ≤ l# w
    go true e q = leb-true (count# w k) (l# w) e
    go false e q =
        let A : Bool = leb 1 (count# w k) && leb (radius# w k) max_distance && leb (inner# w k) max_distance in
        let B : Bool = eqb (child# w k) (born w k) in
        let C : Bool = tile w (child# w k) (m# w) (start# w k) (start# w k + count# w k) in
        let r : T (A && (cond (false || leb (level w max_depth) k) (eqb (child# w k) 0) (B && C))) = q in
        let r' : T (A && (B && C)) =
        subst (λ (b : Bool). T (A && cond (false || b) (eqb (child# w k) 0) (B && C))) (lt-leb (level w max_depth) k f) r in
        absurd (omega (arith, eqb→eq (child# w k) (born w k) (and_l B C (and_r A (B && C) r')), born-le w 0 k (omega arith)))

module _ (t w : List ℕ) (v added limit : ℕ) (run : List ℕ) (fits : T (tree_fits_lem w)) (there : v < nodes# w) where
  -- the work at hand
  abbrev pub j : Job
  j = job_of t w v added limit run

  -- node v's run
  abbrev pub own : Item
  own = ((j.copy v).0, run)

  -- the children of node o
  abbrev pub kids : ℕ → List ℕ
  kids o = cond (eqb (child# w o) 0) [] (range (child# w o) (m# w))

  -- ---- the children of nodes that follow each other follow each other
  kids-range : (a k c : ℕ) → a + k ≤ nodes# w → born w (a + k) ≡ born w a + c → each kids (range a k) ≡ range (born w a) c
  kids-range a zero c h e =
      let z : c ≡ 0 = omega (arith, ap (born w) (add-zero a)) in
      rw z refl
  kids-range a (suc k) c h e = go (eqb (child# w a) 0) refl (λ x f. kids-range (suc a) k x (omega arith) f)
    where
      same : born w (suc a + k) ≡ born w (a + suc k)
      same = ap (born w) (omega arith)

      go : (b : Bool) → eqb (child# w a) 0 ≡ b
          → ((x : ℕ) → born w (suc a + k) ≡ born w (suc a) + x → each kids (range (suc a) k) ≡ range (born w (suc a)) x)
          → cond b [] (range (child# w a) (m# w)) ++ each kids (range (suc a) k) ≡ range (born w a) c
      go true q ih =
          let f : born w (suc a) ≡ born w a = born-leaf w a (eqb-true (child# w a) 0 q) in
          ih c (omega (arith, same, f)) ∙ ap (λ (i : ℕ). range i c) f
      go false q ih =
          let i : inner w a ≡ true = inner-is w a (eqb-false (child# w a) 0 q) in
          let f : born w (suc a) ≡ born w a + m# w = born-inner w a i in
          let first : child# w a ≡ born w a = (node_at w fits a (omega arith)).next i in
          let less : born w (suc a) ≤ born w (suc a + k) = born-le w (suc a) (suc a + k) (omega arith) in
          let z : c ≡ m# w + (c - m# w) = omega (arith, same, f) in
          ap₂ (λ (x y : List ℕ). x ++ y) (ap (λ (i : ℕ). range i (m# w)) first)
          (ih (c - m# w) (omega (arith, same, f)) ∙ ap (λ (i : ℕ). range i (c - m# w)) f)
          ∙ sym (ap (range (born w a)) z ∙ range_append (born w a) (m# w) (c - m# w))

  -- ---- what is due of some nodes
  abbrev pub dues : ℕ → List ℕ → List (ℕ × Item)
  dues deep ks = each (λ q. due j deep q) (map (piece j) ks)

  pub dues-append : (deep : ℕ) (xs ys : List ℕ) → dues deep (xs ++ ys) ≡ dues deep xs ++ dues deep ys
  dues-append deep xs ys =
      ap (each (λ q. due j deep q)) (map-append (piece j) xs ys) ∙ each_append (λ q. due j deep q) (map (piece j) xs) (map (piece j) ys)

  -- an old node's piece
  pub stays-kept : (o : ℕ) → (o ≡ v → ⊥) → piece j o ≡ kept o
  stays-kept o h = ap (λ (b : Bool). cond b (fresh (j.copy v).0 (j.copy v).3 run) (kept o)) (ne_eqb o v h)

  -- and its first child
  pub child-same : (o : ℕ) → (o ≡ v → ⊥) → (j.copy o).2 ≡ child# w o
  unfolding copied new_child
  child-same o h = rw (ne_eqb o v h) refl

  -- node v's
  pub own-piece : piece j v ≡ fresh (j.copy v).0 (j.copy v).3 run
  own-piece = ap (λ (b : Bool). cond b (fresh (j.copy v).0 (j.copy v).3 run) (kept v)) (eq-eqb v v refl)

  pub own-due : (deep : ℕ) → due j deep (piece j v) ≡ (deep, own) ∷ []
  unfolding due
  own-due zero = ap (due j 0) own-piece
  own-due (suc deep) = ap (due j (suc deep)) own-piece

  -- of nodes other than v, as much is due as of their children
  pub dues-down : (deep : ℕ) (ks : List ℕ) → Every (λ o. o ≡ v → ⊥) ks → dues (suc deep) ks ≡ dues deep (each kids ks)
  unfolding due
  dues-down deep [] h = refl
  dues-down deep (o ∷ ks) h =
      ap₂ (λ (a b : List (ℕ × Item)). a ++ b)
      (ap (due j (suc deep)) (stays-kept o h.0)
      ∙ ap (λ (i : ℕ). each (λ q. due j deep q) (cond (eqb i 0) [] (map (piece j) (range i (m# w))))) (child-same o h.0)
      ∙ go (eqb (child# w o) 0)) (dues-down deep ks h.1)
      ∙ sym (dues-append deep (kids o) (each kids ks))
    where
      go : (b : Bool)
          → each (λ q. due j deep q) (cond b [] (map (piece j) (range (child# w o) (m# w)))) ≡ dues deep (cond b [] (range (child# w o) (m# w)))
      go true = refl
      go false = refl

  -- with no level left nothing is
  dues-bottom : (ks : List ℕ) → Every (λ o. o ≡ v → ⊥) ks → dues 0 ks ≡ []
  unfolding due
  dues-bottom [] h = refl
  dues-bottom (o ∷ ks) h = ap₂ (λ (a b : List (ℕ × Item)). a ++ b) (ap (due j 0) (stays-kept o h.0)) (dues-bottom ks h.1)

  -- nodes from a on that are other than v
  after : (a k : ℕ) → v < a → Every (λ o. o ≡ v → ⊥) (range a k)
  after a k h = range-every (λ o. o ≡ v → ⊥) a k (λ i q e. absurd (omega arith))

  before : (a k : ℕ) → a + k ≤ v → Every (λ o. o ≡ v → ⊥) (range a k)
  before a k h = range-every (λ o. o ≡ v → ⊥) a k (λ i q e. absurd (omega arith))

  -- nothing is due of nodes behind v
  dues-past : (deep a k : ℕ) → v < a → a + k ≤ nodes# w → dues deep (range a k) ≡ []
  dues-past zero a k h f = dues-bottom (range a k) (after a k h)
  dues-past (suc deep) a zero h f = refl
  dues-past (suc deep) a (suc k) h f =
      let less : born w a ≤ born w (a + suc k) = born-le w a (a + suc k) (omega arith) in
      let last : born w (a + suc k) ≤ born w (nodes# w) = born-le w (a + suc k) (nodes# w) f in
      let c : ℕ = born w (a + suc k) - born w a in
      dues-down deep (range a (suc k)) (after a (suc k) h) ∙ ap (dues deep) (kids-range a (suc k) c f (omega arith))
      ∙ dues-past deep (born w a) c (omega (arith, not-orphan w fits a (omega arith))) (omega (arith, closed w fits (omega arith)))

  -- ---- a level
  -- nothing is due of nodes before v on its level
  dues-before : (deep a k : ℕ) → a + k ≤ v → v < born w a → dues deep (range a k) ≡ []
  dues-before zero a k h f = dues-bottom (range a k) (before a k h)
  dues-before (suc deep) a k h f =
      let less : born w a ≤ born w (a + k) = born-le w a (a + k) (omega arith) in
      let last : born w (a + k) ≤ born w (nodes# w) = born-le w (a + k) (nodes# w) (omega arith) in
      let c : ℕ = born w (a + k) - born w a in
      dues-down deep (range a k) (before a k h) ∙ ap (dues deep) (kids-range a k c (omega arith) (omega arith))
      ∙ dues-past deep (born w a) c f (omega (arith, closed w fits (omega arith)))

  -- v is on the level
  dues-here : (deep a k : ℕ) → a ≤ v → v < a + k → born w a ≡ a + k → a + k ≤ nodes# w → dues deep (range a k) ≡ (deep, own) ∷ []
  dues-here deep a k h f b n =
      let x : ℕ = v - a in
      let y : ℕ = a + k - suc v in
      let long : k ≡ x + suc y = omega arith in
      let at : a + x ≡ v = omega arith in
      let cut : range a k ≡ range a x ++ (v ∷ range (suc v) y) =
      ap (range a) long ∙ range_append a x (suc y) ∙ ap (λ (i : ℕ). range a x ++ range i (suc y)) at in
      ap (dues deep) cut ∙ dues-append deep (range a x) (v ∷ range (suc v) y)
      ∙ ap₂ (λ (p q : List (ℕ × Item)). p ++ q) (dues-before deep a x (omega arith) (omega arith))
      (ap₂ (λ (p q : List (ℕ × Item)). p ++ q) (own-due deep) (dues-past deep (suc v) y (omega arith) (omega arith)))

  -- from a level on, with `deep` levels below it, it is due once
  pub record Comes (ds : List (ℕ × Item)) : Type 0 where
    pub left : ℕ
    pub once : ds ≡ (left, own) ∷ []

  -- all nodes are born at depth 24
  all-born : (k : ℕ) → level w max_depth + k ≤ nodes# w → born w (level w max_depth + k) ≡ born w (level w max_depth)
  unfolding born
  all-born zero h = ap (born w) (add-zero (level w max_depth))
  all-born (suc k) h =
      let a : ℕ = level w max_depth + k in
      let s : level w max_depth + suc k ≡ suc a = omega arith in
      ap (born w) s ∙ go (eqb (child# w a) 0) refl (all-born k (omega arith))
    where
      go : (b : Bool) → eqb (child# w (level w max_depth + k)) 0 ≡ b → born w (level w max_depth + k) ≡ born w (level w max_depth)
          → born w (suc (level w max_depth + k)) ≡ born w (level w max_depth)
      go true e ih = born-leaf w (level w max_depth + k) (eqb-true (child# w (level w max_depth + k)) 0 e) ∙ ih
      go false e ih =
          absurd
          (omega (
            arith,
            (node_at w fits (level w max_depth + k) (omega arith)).shallow
                (inner-is w (level w max_depth + k) (eqb-false (child# w (level w max_depth + k)) 0 e)),
          ))

  -- a level starts among the nodes
  level-few : (p : ℕ) → level w p ≤ nodes# w
  unfolding level
  level-few zero = omega arith
  level-few (suc p) = omega (arith, born-le w (level w p) (nodes# w) (level-few p), closed w fits (omega arith))

  -- v is on the level from a on
  here : (deep a : ℕ) → a ≤ v → v < born w a → Comes (dues deep (range a (born w a - a)))
  here deep a h f =
      let few : born w a ≤ nodes# w = omega (arith, born-le w a (nodes# w) (omega arith), closed w fits (omega arith)) in
      record { left = deep; once = dues-here deep a (born w a - a) h (omega arith) (omega arith) (omega arith) }

  -- or on one below it
  comes : (deep p : ℕ) → p + deep ≡ max_depth → level w p ≤ v → Comes (dues deep (range (level w p) (born w (level w p) - level w p)))
  unfolding level
  comes zero p e h =
      let z : p ≡ max_depth = omega arith in
      let k : level w max_depth + (nodes# w - level w max_depth) ≡ nodes# w = omega (arith, ap (level w) z) in
      let all : born w (nodes# w) ≡ born w (level w max_depth) = ap (born w) (sym k) ∙ all-born (nodes# w - level w max_depth) (omega arith) in
      here 0 (level w p) h (omega (arith, all, ap (λ (i : ℕ). born w (level w i)) z, closed w fits (omega arith)))
  comes (suc deep) p e h = go (ltb v (born w (level w p))) refl (λ f. comes deep (suc p) (omega arith) f)
    where
      go : (b : Bool) → ltb v (born w (level w p)) ≡ b
          → (born w (level w p) ≤ v
          → Comes (dues deep (range (born w (level w p)) (born w (born w (level w p)) - born w (level w p)))))
          → Comes (dues (suc deep) (range (level w p) (born w (level w p) - level w p)))
      go true q ih = here (suc deep) (level w p) h (ltb-true v (born w (level w p)) q)
      go false q ih =
          let a : ℕ = level w p in
          let f : born w a ≤ v = ltb-false v (born w a) q in
          let up : a < born w a = not-orphan w fits a (omega arith) in
          let c : ℕ = born w a - a in
          let z : a + c ≡ born w a = omega arith in
          let x : ℕ = born w (born w a) - born w a in
          let more : born w (born w a) ≡ born w a + x = omega (arith, born-le w a (born w a) (omega arith)) in
          let r = ih f in
          record {
            left = r.left;
            once = dues-down deep (range a c) (before a c (omega arith))
                ∙ ap (dues deep) (kids-range a c x (omega arith) (ap (born w) z ∙ more)) ∙ r.once;
          }

  -- THE RUN IS DUE AT THE ROOT, ONCE
  pub root-due : Comes (due j max_depth (piece j 0))
  unfolding level born
  root-due =
      let r = comes max_depth 0 refl (omega arith) in
      record { left = r.left; once = sym (append-nil (due j max_depth (piece j 0))) ∙ r.once }
