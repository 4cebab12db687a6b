-- The positions of the tree that is grown anew: those of the old index before the run and behind it, and its leaves' members between.
-- Assumes nothing.
use Rattle.copies.specs.Copies.{new_reach}
use Rattle.moved_runs.specs.Runs.{end#}
use Prim.Native.Nat.{◌+◌, ◌-◌, ◌<◌, ◌≤◌, suc, zero, ℕ}
use Rattle.appending.specs.Append.{keep_own}
use Rattle.filling.proofs.Positions.{entries-leaves, pairs_of}
use Rattle.growing.specs.Levels.{Able, Item, leaves}
use Rattle.laws.proofs.Lists.{map-append}
use Rattle.laws.proofs.Ranges.{range_append}
use Rattle.laws.specs.Lists.{each, range}
use Rattle.leafward.specs.Changed.{changed_at}
use Rattle.limits.specs.Limits.{max_depth}
use Rattle.measure.specs.Table.{between}
use Rattle.regrow.proofs.Around.{D, J, due-holds, inner-kids, kept-due, kept-last, which}
use Rattle.regrow.proofs.Dues.{both-none}
use Rattle.regrow.proofs.Found.{own-due}
use Rattle.regrow.proofs.Trees.{keep-entries}
use Rattle.regrow.specs.Calls.{regrown_of}
use Rattle.regrow.specs.Pieces as pieces
use Rattle.regrow.specs.Pieces.{due, piece}
use Rattle.tree.specs.Build.{grow}
use Rattle.tree.specs.Grove.{Grove, Reach, bare, entries, fork, leaf, members#}
use Rattle.words.proofs.Levels.{inner-is}
use Rattle.words.proofs.Tiles.{tile-head, tile-le, tile-none, tile-part, tile-tail}
use Rattle.words.specs.InShape.{InShape}
use Rattle.words.specs.Shape.{inner, tile, tree_fits_lem}
use Rattle.words.specs.Words.{nodes#, c#, child#, circles#, count#, dist#, l#, m#, n#, row#, start#}
use borrow.Author.Tests.{eqb-false, eqb-true}
use lib.Dec.{T, eqb}
use lib.ListN.{length}
use mathlib.Core.Bool.{Bool, cond, false, not, true}
use mathlib.Core.List.{List, [], ◌++◌, ◌∷◌, append_assoc, append-nil, cons≢nil, foldr, map}
use mathlib.Core.Path.{◌∙◌, ◌≡◌, ap, ap₂, refl, sym}
use native.Mathlib.Omega.{arith}

-- the levels below the first run that is due
abbrev levels : List (ℕ × Item) → ℕ
levels [] = 0
levels (x ∷ xs) = x.0

-- k positions of an index from a on
abbrev pub held : List ℕ → ℕ → ℕ → List (ℕ × ℕ)
held w a k = map (λ p. (row# w p, dist# w p)) (range a k)

-- in two parts
mapped_append : {A : Type 0} (f : ℕ → A) (a b e : ℕ) → a ≤ b → b ≤ e → map f (range a (b - a)) ++ map f (range b (e - b)) ≡ map f (range a (e - a))
mapped_append f a b e h g =
    let y : a + (b - a) ≡ b = omega arith in
    let z : (b - a) + (e - b) ≡ e - a = omega arith in
    ap (λ (i : ℕ). map f (range a (b - a)) ++ map f (range i (e - b))) (sym y)
    ∙ sym (map-append f (range a (b - a)) (range (a + (b - a)) (e - b))) ∙ ap (map f) (sym (range_append a (b - a) (e - b)) ∙ ap (range a) z)

held_append : (w : List ℕ) (a b e : ℕ) → a ≤ b → b ≤ e → held w a (b - a) ++ held w b (e - b) ≡ held w a (e - a)
held_append w a b e h f = mapped_append (λ p. (row# w p, dist# w p)) a b e h f

-- none
held_none : (w : List ℕ) (a : ℕ) → held w a (a - a) ≡ []
held_none w a =
    let z : a - a ≡ 0 = omega arith in
    ap (held w a) z

module _ (t w : List ℕ) (v added limit : ℕ) (run : List ℕ) (fits : T (tree_fits_lem w)) (there : v < nodes# w) (S : InShape w)
    (long : length run ≡ count# w v + added) (good : Able limit run) (leafy : l# w ≤ limit) where
  -- the work at hand
  abbrev j : pieces.Job
  j = J t w v added limit run fits there S long good leafy

  -- what is due of some nodes
  abbrev dues : ℕ → List ℕ → List (ℕ × Item)
  dues deep ks = D t w v added limit run fits there S long good leafy deep ks

  -- how far each node reaches
  abbrev R : ℕ → Reach
  R = new_reach (between t (c# w) (circles# w)) w v added

  -- node v with `deep` levels below it, before the nodes g
  abbrev anew : ℕ → Grove → Grove
  anew deep g = keep_own (R v) (grow j.d j.m limit deep run g)

  -- node k's tree
  abbrev tree : ℕ → ℕ → Grove → Grove
  tree deep k g = changed_at w R v anew deep k g

  -- the trees of nodes side by side
  abbrev trees : ℕ → ℕ → ℕ → Grove
  trees deep i n = foldr (changed_at w R v anew deep) bare (range i n)

  -- ---- where nothing is due, the positions are as they were
  -- those of a node
  abbrev Old : ℕ → Type 0
  Old deep = (k : ℕ) (g : Grove) → k < nodes# w → due j deep (piece j k) ≡ [] → entries (tree deep k g) ≡ held w (start# w k) (count# w k) ++ entries g

  -- nodes whose runs tile a part
  old-all : (deep : ℕ) → Old deep
      → (i n s e : ℕ) → i + n ≤ nodes# w → T (tile w i n s e) → dues deep (range i n) ≡ []
      → entries (trees deep i n) ≡ held w s (e - s)
  old-all deep one i zero s e h f d =
      let z : e - s ≡ 0 = omega (arith, tile-none w i s e f) in
      sym (ap (held w s) z)
  old-all deep one i (suc n) s e h f d =
      let first : start# w i ≡ s = tile-head w i n s e f in
      let later = tile-tail w i n s e f in
      let b = both-none (due j deep (piece j i)) (dues deep (range (suc i) n)) d in
      let z : count# w i ≡ (s + count# w i) - s = omega arith in
      one i (trees deep (suc i) n) (omega arith) b.0
      ∙ ap₂ (λ (x y : List (ℕ × ℕ)). x ++ y) (ap₂ (held w) first z) (old-all deep one (suc i) n (s + count# w i) e (omega arith) later b.1)
      ∙ held_append w s (s + count# w i) e (omega arith) (tile-le w (suc i) n (s + count# w i) e later)

  -- one node
  old-one : (deep : ℕ) → Old deep
  unfolding changed_at
  old-one zero k g h d = go (eqb k v) refl
    where
      go : (b : Bool) → eqb k v ≡ b
          → entries (cond b (anew 0 g) (leaf (R k) (members# w k) g))
          ≡ held w (start# w k) (count# w k) ++ entries g
      go true e =
          absurd (cons≢nil (sym (own-due t w v added limit run fits there 0) ∙ ap (λ (o : ℕ). due j 0 (piece j o)) (sym (eqb-true k v e)) ∙ d))
      go false e = refl
  old-one (suc deep) k g h d = go (eqb k v) refl (λ o x y z. old-one deep o x y z)
    where
      go : (b : Bool) → eqb k v ≡ b → Old deep
          → entries (cond b (anew (suc deep) g)
          (cond (inner w k) (fork (R k) (trees deep (child# w k) (m# w)) g) (leaf (R k) (members# w k) g)))
          ≡ held w (start# w k) (count# w k) ++ entries g
      go true e ih =
          absurd
          (cons≢nil (sym (own-due t w v added limit run fits there (suc deep))
          ∙ ap (λ (o : ℕ). due j (suc deep) (piece j o)) (sym (eqb-true k v e)) ∙ d))
      go false e ih =
          by (eqb (child# w k) 0) refl
        where
          by : (b : Bool) → eqb (child# w k) 0 ≡ b
              → entries (cond (not b) (fork (R k) (trees deep (child# w k) (m# w)) g) (leaf (R k) (members# w k) g))
              ≡ held w (start# w k) (count# w k) ++ entries g
          by true z = refl
          by false z =
              let c : child# w k ≡ 0 → ⊥ = eqb-false (child# w k) 0 z in
              let kid = (S.node k h).kids (inner-is w k c) in
              let y : end# w k - start# w k ≡ count# w k = omega arith in
              let none : dues deep (range (child# w k) (m# w)) ≡ [] =
              sym (kept-due t w v added limit run fits there S long good leafy (0, (0, [])) deep k (eqb-false k v e)
              ∙ ap (dues deep) (inner-kids t w v added limit run fits there S long good leafy (0, (0, [])) k c)) ∙ d in
              ap (λ (x : List (ℕ × ℕ)). x ++ entries g)
              (old-all deep ih (child# w k) (m# w) (start# w k) (end# w k) kid.inside kid.tiled none ∙ ap (held w (start# w k)) y)

  -- ---- where the run is due, it stands between them
  module _ (left : ℕ) where
    -- what is due
    abbrev x : ℕ × Item
    x = (left, ((j.copy v).0, run))

    -- its leaves' members
    abbrev mid : List (ℕ × ℕ)
    mid = each (pairs_of j.d) (leaves j.d j.m limit left run)

    -- a node that comes to it
    abbrev Around : ℕ → Type 0
    Around deep = (k : ℕ) (g : Grove) → k < nodes# w → due j deep (piece j k) ≡ x ∷ []
        → entries (tree deep k g) ≡ held w (start# w k) (start# w v - start# w k) ++ (mid ++ (held w (end# w v) (end# w k - end# w v) ++ entries g))

    new-all : (deep : ℕ) → Around deep → (i n s e : ℕ) → i + n ≤ nodes# w → T (tile w i n s e) → dues deep (range i n) ≡ x ∷ []
        → entries (trees deep i n) ≡ held w s (start# w v - s) ++ (mid ++ held w (end# w v) (e - end# w v))
    new-all deep one i zero s e h f d = absurd (cons≢nil (sym d))
    new-all deep one i (suc n) s e h f d =
        go (due j deep (piece j i)) refl (λ z. new-all deep one (suc i) n (s + count# w i) e (omega arith) (tile-tail w i n s e f) z)
      where
        rest : Grove
        rest = trees deep (suc i) n

        first : start# w i ≡ s
        first = tile-head w i n s e f

        later : T (tile w (suc i) n (s + count# w i) e)
        later = tile-tail w i n s e f

        go : (ds : List (ℕ × Item)) → due j deep (piece j i) ≡ ds
            → (dues deep (range (suc i) n) ≡ x ∷ []
            → entries (trees deep (suc i) n)
            ≡ held w (s + count# w i) (start# w v - (s + count# w i)) ++ (mid ++ held w (end# w v) (e - end# w v)))
            → entries (tree deep i (trees deep (suc i) n))
            ≡ held w s (start# w v - s) ++ (mid ++ held w (end# w v) (e - end# w v))
        go [] q ih =
            let z : dues deep (range (suc i) n) ≡ x ∷ [] = sym (ap (λ (y : List (ℕ × Item)). y ++ dues deep (range (suc i) n)) q) ∙ d in
            let r = which t w v added limit run fits there S long good leafy x deep (suc i) n z in
            let p = tile-part w (suc i) n (s + count# w i) e r.i r.below later in
            let o = due-holds t w v added limit run fits there S long good leafy x deep (suc i + r.i) (omega (arith, r.below)) r.is in
            let c : count# w i ≡ (s + count# w i) - s = omega arith in
            let tail : List (ℕ × ℕ) = mid ++ held w (end# w v) (e - end# w v) in
            old-one deep i (trees deep (suc i) n) (omega arith) q
            ∙ ap₂ (λ (a b : List (ℕ × ℕ)). a ++ b) (ap₂ (held w) first c) (ih z)
            ∙ sym (append_assoc (held w s ((s + count# w i) - s)) (held w (s + count# w i) (start# w v - (s + count# w i))) tail)
            ∙ ap (λ (a : List (ℕ × ℕ)). a ++ tail) (held_append w s (s + count# w i) (start# w v) (omega arith) (omega (arith, p.0, o.0)))
        go (y ∷ ys) q ih =
            let rs : List (ℕ × Item) = dues deep (range (suc i) n) in
            let z : y ∷ (ys ++ rs) ≡ x ∷ [] = sym (ap (λ (y : List (ℕ × Item)). y ++ rs) q) ∙ d in
            let front : y ≡ x = cc in
            let none : ys ++ rs ≡ [] = cc in
            let b = both-none ys rs none in
            let is : due j deep (piece j i) ≡ x ∷ [] = q ∙ ap₂ (λ (p : ℕ × Item) (q : List (ℕ × Item)). p ∷ q) front b.0 in
            let o = due-holds t w v added limit run fits there S long good leafy x deep i (omega arith) is in
            let end : end# w i ≡ s + count# w i = omega (arith, first) in
            let old : entries (trees deep (suc i) n) ≡ held w (end# w i) (e - end# w i) =
            old-all deep (λ o x y z. old-one deep o x y z) (suc i) n (s + count# w i) e (omega arith) later b.1
            ∙ ap (λ (a : ℕ). held w a (e - a)) (sym end) in
            one i (trees deep (suc i) n) (omega arith) is
            ∙ ap₂ (λ (a : ℕ) (b : List (ℕ × ℕ)). held w a (start# w v - a) ++ (mid ++ (held w (end# w v) (end# w i - end# w v) ++ b))) first old
            ∙ ap (λ (b : List (ℕ × ℕ)). held w s (start# w v - s) ++ (mid ++ b))
            (held_append w (end# w v) (end# w i) e o.1 (omega (arith, end, tile-le w (suc i) n (s + count# w i) e later)))

    -- node v
    own-entries : (deep k : ℕ) (g : Grove) → k ≡ v → due j deep (piece j k) ≡ x ∷ []
        → entries (anew deep g)
        ≡ held w (start# w k) (start# w v - start# w k) ++ (mid ++ (held w (end# w v) (end# w k - end# w v) ++ entries g))
    own-entries deep k g e d =
        let z : (deep, ((j.copy v).0, run)) ∷ [] ≡ x ∷ [] =
        sym (own-due t w v added limit run fits there deep) ∙ ap (λ (o : ℕ). due j deep (piece j o)) (sym e) ∙ d in
        let same : deep ≡ left = ap levels z in
        keep-entries (R v) (grow j.d j.m limit deep run g) ∙ entries-leaves j.d j.m limit deep run g
        ∙ ap (λ (i : ℕ). each (pairs_of j.d) (leaves j.d j.m limit i run) ++ entries g) same
        ∙ sym (ap (λ (o : ℕ). held w (start# w o) (start# w v - start# w o) ++ (mid ++ (held w (end# w v) (end# w o - end# w v) ++ entries g))) e
        ∙ ap₂ (λ (a b : List (ℕ × ℕ)). a ++ (mid ++ (b ++ entries g))) (held_none w (start# w v)) (held_none w (end# w v)))

    new-one : (deep : ℕ) → Around deep
    unfolding changed_at
    new-one zero k g h d = go (eqb k v) refl
      where
        go : (b : Bool) → eqb k v ≡ b
            → entries (cond b (anew 0 g) (leaf (R k) (members# w k) g))
            ≡ held w (start# w k) (start# w v - start# w k) ++ (mid ++ (held w (end# w v) (end# w k - end# w v) ++ entries g))
        go true e = own-entries 0 k g (eqb-true k v e) d
        go false e = absurd (cons≢nil (sym d ∙ kept-last t w v added limit run fits there S long good leafy x k (eqb-false k v e)))
    new-one (suc deep) k g h d = go (eqb k v) refl (λ o x y z. new-one deep o x y z)
      where
        go : (b : Bool) → eqb k v ≡ b → Around deep
            → entries (cond b (anew (suc deep) g)
            (cond (inner w k) (fork (R k) (trees deep (child# w k) (m# w)) g) (leaf (R k) (members# w k) g)))
            ≡ held w (start# w k) (start# w v - start# w k) ++ (mid ++ (held w (end# w v) (end# w k - end# w v) ++ entries g))
        go true e ih = own-entries (suc deep) k g (eqb-true k v e) d
        go false e ih =
            by (eqb (child# w k) 0) refl
          where
            by : (b : Bool) → eqb (child# w k) 0 ≡ b
                → entries (cond (not b) (fork (R k) (trees deep (child# w k) (m# w)) g) (leaf (R k) (members# w k) g))
                ≡ held w (start# w k) (start# w v - start# w k) ++ (mid ++ (held w (end# w v) (end# w k - end# w v) ++ entries g))
            by true z =
                absurd
                (cons≢nil (sym d ∙ kept-due t w v added limit run fits there S long good leafy x deep k (eqb-false k v e)
                ∙ ap (λ (b : Bool). dues deep (cond b [] (range (child# w k) (m# w)))) z))
            by false z =
                let c : child# w k ≡ 0 → ⊥ = eqb-false (child# w k) 0 z in
                let kid = (S.node k h).kids (inner-is w k c) in
                let some : dues deep (range (child# w k) (m# w)) ≡ x ∷ [] =
                sym (kept-due t w v added limit run fits there S long good leafy x deep k (eqb-false k v e)
                ∙ ap (dues deep) (inner-kids t w v added limit run fits there S long good leafy x k c)) ∙ d in
                let A : List (ℕ × ℕ) = held w (start# w k) (start# w v - start# w k) in
                let B : List (ℕ × ℕ) = held w (end# w v) (end# w k - end# w v) in
                ap (λ (a : List (ℕ × ℕ)). a ++ entries g)
                (new-all deep ih (child# w k) (m# w) (start# w k) (end# w k) kid.inside kid.tiled some)
                ∙ append_assoc A (mid ++ B) (entries g) ∙ ap (λ (a : List (ℕ × ℕ)). A ++ a) (append_assoc mid B (entries g))

    -- THE POSITIONS: THE OLD ONES BEFORE THE RUN, ITS LEAVES' MEMBERS, AND THE OLD ONES BEHIND IT
    pub regrown-entries : due j max_depth (piece j 0) ≡ (left, ((j.copy v).0, run)) ∷ []
        → entries (regrown_of t w v added limit run)
        ≡ held w 0 (start# w v) ++ (each (pairs_of (between t (c# w) (circles# w))) (leaves (between t (c# w) (circles# w)) (m# w) limit left run)
        ++ held w (end# w v) (n# w - end# w v))
    unfolding regrown_of
    regrown-entries d =
        let r = S.root (omega (arith, there, S.whole.nodes)) in
        let a : start# w v - start# w 0 ≡ start# w v = omega (arith, r.start) in
        let b : end# w 0 - end# w v ≡ n# w - end# w v = omega (arith, r.start, r.count) in
        new-one max_depth 0 bare (omega (arith, there)) d
        ∙ ap₂ (λ (i k : ℕ). held w i k ++ (mid ++ (held w (end# w v) (end# w 0 - end# w v) ++ []))) r.start a
        ∙ ap (λ (k : ℕ). held w 0 (start# w v) ++ (mid ++ (held w (end# w v) k ++ []))) b
        ∙ ap (λ (y : List (ℕ × ℕ)). held w 0 (start# w v) ++ (mid ++ y)) (append-nil (held w (end# w v) (n# w - end# w v)))
