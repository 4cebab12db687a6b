-- The four ways that a piece is opened, told by its mark: a leaf that was marked, an old node, a leaf, a grown run. Assumes nothing.
use Prim.Native.Nat.{◌+◌, ◌-◌, ◌<◌, ◌≤◌, suc, zero, ℕ}
use Rattle.appending.specs.Append.{orderly}
use Rattle.growing.specs.Stages.{with_nodes}
use Rattle.lodging.specs.Standing.{new_rows}
use Rattle.measure.specs.Table.{between}
use Rattle.opening.proofs.Grown.{Ready, run-done, run-ready}
use Rattle.opening.proofs.Waited.{child-is, count-is, inside_is, mark-is, opens-done, own_is, space-is, start_is, stays-done}
use Rattle.opening.specs.Opened.{OldAsk, OldOpens, PieceOpened, Replaced, Waiting}
use Rattle.split.specs.Places.{child#, count#, node_at_lem, start#}
use Rattle.split.specs.Runs.{SplitAmong, Splittable, laid}
use Rattle.swelling.proofs.Parting.{centres, early, group_among, others, parts_is}
use Rattle.swelling.specs.Pieces.{Piece, grown, grown_from, kids_from, old, opens, settled}
use Rattle.swelling.specs.Swell.{parts}
use Rattle.tree.proofs.Centres.{chosen-length}
use Rattle.tree.specs.Encode.{Node}
use Rattle.tree.specs.Grove.{Reach}
use Rattle.laws.specs.Lists.{keep}
use Rattle.words.specs.Words as words
use Rattle.words.specs.Words.{c#, circles#, l#, m#}
use borrow.Author.Tests.{le-leb, leb-false, lt-leb}
use lib.Dec.{eqb, leb}
use lib.ListN.{length, length-map, set}
use mathlib.Core.Bool.{Bool, cond, false, not, true}
use mathlib.Core.List.{List, [], ◌++◌, ◌∷◌}
use mathlib.Core.Path.{◌∙◌, ◌≡◌, ap, refl, subst, sym}
use native.Mathlib.Omega.{arith}

-- ---- how many pieces
-- as many as old nodes side by side
pub kids_many : (d : ℕ → ℕ → ℕ) (w : List ℕ) (place : ℕ → ℕ) (zs : List ℕ) (s o k j : ℕ) → length (kids_from d w place zs s o k j) ≡ j
kids_many d w place zs s o k zero = refl
kids_many d w place zs s o k (suc j) = ap suc
    (kids_many d w place zs (s + (words.count# w o + length (keep (λ (z : ℕ). eqb (place z) k) zs))) (suc o) (suc k) j)

-- as many as runs
grown_many : (d : ℕ → ℕ → ℕ) (s : ℕ) (gs : List (List ℕ)) → length (grown_from d s gs) ≡ length gs
grown_many d s [] = refl
grown_many d s (q ∷ gs) = ap suc (grown_many d (s + length q) gs)

-- m of them
pub parts_many : (d : ℕ → ℕ → ℕ) (m l s : ℕ) (run : List ℕ) → 1 ≤ m → length (grown_from d s (parts d m l run)) ≡ m
parts_many d m l s run m1 =
    grown_many d s (parts d m l run) ∙ ap length (parts_is d m l run)
    ∙ length-map (centres d m l run) (group_among d m l (centres d m l run) (others d m l run)) ∙ chosen-length d m m1 (early d m l run)

-- a leaf of more than l rows has its mark
marked_large : (b : Bool) {mark : ℕ} → mark ≡ cond b 0 4294967295 → b ≡ false → mark ≡ 4294967295
marked_large true e h = absurd (subst (λ (x : Bool). cond x ℕ ⊥) h 0)
marked_large false e h = e

-- either mark of a leaf
marked_either : (b : Bool) {mark : ℕ} → mark ≡ cond b 0 4294967295 → (mark ≡ 4294967295 → ⊥) → (mark ≡ 0 → ⊥) → ⊥
marked_either true e f z = z e
marked_either false e f z = f e

-- one that has none has at most l rows
unmarked_small : (b : Bool) {mark : ℕ} → mark ≡ cond b 0 4294967295 → mark ≡ 0 → b ≡ true
unmarked_small true e z = refl
unmarked_small false e z = absurd (omega arith)

module _ {t w : List ℕ} {n deep : ℕ} {origin : List ℕ} {fore rear : List Node} {lead ws tail room work : List ℕ} {k made : ℕ} where
  -- ---- a leaf that was marked loses the mark
  pub path-marked : (q : Piece) → Waiting t w n deep q origin fore rear lead ws tail room work k made → {mark : ℕ} → mark ≡ child# room k
      → mark ≡ 4294967295 → {y : ℕ} → y ≡ 0 → (last : Bool)
      → PieceOpened t w n last q origin fore rear lead tail made (set room (node_at_lem k + 2) y) work made
  path-marked (settled s R es) g em e {y} z last =
      stays-done g refl last (child-is g y ∙ ap (λ (i : ℕ). with_nodes origin (fore ++ (s, length es, i, R) ∷ rear)) z)
  path-marked (grown s R run) g em e z last = absurd (omega (arith, mark-is g))
  path-marked (old s o zs) g em e z last =
      absurd (omega (arith, mark-is g, g.sound.0, g.task.shape.whole.nodes, g.task.shape.whole.rows))

  -- ---- an old node
  pub path-old : (q : Piece) → Waiting t w n deep q origin fore rear lead ws tail room work k made → {mark s count : ℕ} → s ≡ start# room k
      → count ≡ count# room k → mark ≡ child# room k → {i : ℕ} → i + 1 ≡ mark → (i + 1 ≡ 4294967295 → ⊥)
      → OldAsk t w n (set room (node_at_lem k + 2) made) work i s count made
  path-old (settled s R es) g es' ec em ei apart =
      absurd (marked_either (leb (length es) (l# w)) (em ∙ mark-is g) (λ e. apart (ei ∙ e)) (λ z. absurd (omega (arith, ei ∙ z))))
  path-old (grown s R run) g es ec em ei apart = absurd (omega (arith, mark-is g))
  path-old (old s o zs) g es ec em {i} ei apart =
      let eo : i ≡ o = omega (arith, mark-is g) in
      rw (eo, es, ec, start_is g, count-is g)
      record {
        zs = zs;
        task = g.task;
        there = g.sound.0;
        inner = g.sound.1;
        new = g.sound.3;
        size = refl;
        fits = inside_is g;
        rows = ap (new_rows w o) (own_is g) ∙ g.stands.1;
        halves = g.halves;
        nodes = space-is g refl made;
        small = (g.space refl).1;
      }

  pub path-old-done : (q : Piece) → Waiting t w n deep q origin fore rear lead ws tail room work k made → {mark s count : ℕ} → s ≡ start# room k
      → count ≡ count# room k → mark ≡ child# room k → {i : ℕ} → i + 1 ≡ mark → (i + 1 ≡ 4294967295 → ⊥) → {m : ℕ} → m ≡ m# w
      → {last : Bool} {room' work' : List ℕ}
      → OldOpens t w n last (set room (node_at_lem k + 2) made) work i s count made room' work'
      → PieceOpened t w n last q origin fore rear lead tail made room' work' (made + m)
  path-old-done (settled s R es) g es' ec em ei apart fan got =
      absurd (marked_either (leb (length es) (l# w)) (em ∙ mark-is g) (λ e. apart (ei ∙ e)) (λ z. absurd (omega (arith, ei ∙ z))))
  path-old-done (grown s R run) g es ec em ei apart fan got = absurd (omega (arith, mark-is g))
  path-old-done (old s o zs) g {mark} {s = s₁} {count} es ec em {i} ei apart {m} fan {last} {room'} {work'} got =
      let eo : i ≡ o = omega (arith, mark-is g) in
      let d : ℕ → ℕ → ℕ = between t (c# w) (circles# w) in
      let R : List ℕ = set room (node_at_lem k + 2) made in
      let got₁ : OldOpens t w n last R work o s₁ count made room' work' =
      subst (λ (j : ℕ). OldOpens t w n last R work j s₁ count made room' work') eo got in
      let got₂ : OldOpens t w n last R work o s count made room' work' =
      subst (λ (i : ℕ). OldOpens t w n last R work o i count made room' work') (es ∙ start_is g) got₁ in
      let got₃ : OldOpens t w n last R work o s (words.count# w o + length zs) made room' work' =
      subst (λ (i : ℕ). OldOpens t w n last R work o s i made room' work') (ec ∙ count-is g) got₂ in
      let done =
      opens-done g refl refl (kids_many d w _ zs s (words.child# w o) 0 (m# w)) {last = last} {room' = room'} {work' = work'}
      (got₃
      (record {
        zs = zs;
        task = g.task;
        there = g.sound.0;
        inner = g.sound.1;
        new = g.sound.3;
        size = refl;
        fits = inside_is g;
        rows = ap (new_rows w o) (own_is g) ∙ g.stands.1;
        halves = g.halves;
        nodes = space-is g refl made;
        small = (g.space refl).1;
      })) in
      subst (λ (i : ℕ). PieceOpened t w n last (old s o zs) origin fore rear lead tail made room' work' (made + i)) (sym fan) done

  -- ---- a leaf
  pub path-leaf : (q : Piece) → Waiting t w n deep q origin fore rear lead ws tail room work k made → {mark count l : ℕ}
      → count ≡ count# room k → mark ≡ child# room k → mark ≡ 0 → l ≡ l# w → count ≤ l → (last : Bool)
      → PieceOpened t w n last q origin fore rear lead tail made room work made
  path-leaf (settled s R es) g ec em none el few last =
      let b : leb (length es) (l# w) ≡ true = unmarked_small (leb (length es) (l# w)) (em ∙ mark-is g) none in
      stays-done g refl last
      (g.nodes ∙ ap (λ (x : Bool). with_nodes origin (fore ++ (s, length es, cond x 0 4294967295, R) ∷ rear)) b)
  path-leaf (grown s R run) g ec em none el few last =
      let b : leb (length run) (l# w) ≡ true = le-leb (length run) (l# w) (omega (arith, count-is g)) in
      stays-done g (ap not b) last (g.nodes ∙ ap (λ (x : Bool). with_nodes origin (fore ++ (s, length run, cond x 0 made, R) ∷ rear)) (sym b))
  path-leaf (old s o zs) g ec em none el few last = absurd (omega (arith, mark-is g))

  -- ---- a grown run
  -- what a split asks of it
  ready : (s : ℕ) (R : Reach) (run : List ℕ) → Waiting t w n deep (grown s R run) origin fore rear lead ws tail room work k made
      → leb (length run) (l# w) ≡ false → Ready t w n run (set room (node_at_lem k + 2) made) work s made
  ready s R run g b =
      record {
        task = g.task;
        good = g.sound.0;
        low = g.sound.1;
        large = leb-false (length run) (l# w) b;
        late = g.sound.2 (omega arith) (leb-false (length run) (l# w) b);
        inside = inside_is g;
        halves = g.halves;
        nodes = space-is g (ap not b) made;
        stands = own_is g ∙ g.stands ∙ ap (λ (x : Bool). laid (between t (c# w) (circles# w)) (cond x run (orderly run))) b;
      }

  pub path-run : (q : Piece) → Waiting t w n deep q origin fore rear lead ws tail room work k made → {mark s count l early c o m : ℕ}
      → s ≡ start# room k → count ≡ count# room k → mark ≡ child# room k → mark ≡ 0 → l ≡ l# w → l < count
      → c ≡ c# w → o ≡ circles# w → m ≡ m# w → early ≡ l + 1
      → Splittable t c o m n (set room (node_at_lem k + 2) made) work s count made × ((m ≤ early) × (early ≤ count))
  path-run (settled s R es) g es' ec em none el many e₁ e₂ e₃ e₄ =
      absurd (omega (
        arith,
        marked_large (leb (length es) (l# w)) (em ∙ mark-is g) (lt-leb (length es) (l# w) (omega (arith, count-is g))),
      ))
  path-run (grown s R run) g es ec em none el many e₁ e₂ e₃ e₄ =
      let b : leb (length run) (l# w) ≡ false = lt-leb (length run) (l# w) (omega (arith, count-is g)) in
      (rw (es, ec, e₁, e₂, e₃, start_is g, count-is g) (run-ready (ready s R run g b)), (omega (arith, g.task.shape.whole.leaf.0), omega arith))
  path-run (old s o zs) g es ec em none el many e₁ e₂ e₃ e₄ = absurd (omega (arith, mark-is g))

  pub path-run-done : (q : Piece) → Waiting t w n deep q origin fore rear lead ws tail room work k made → {mark s count l early c o m : ℕ}
      → s ≡ start# room k → count ≡ count# room k → mark ≡ child# room k → mark ≡ 0 → l ≡ l# w → l < count
      → c ≡ c# w → o ≡ circles# w → m ≡ m# w → early ≡ l + 1 → (last : Bool) {room' work' : List ℕ}
      → SplitAmong t c o m early n (set room (node_at_lem k + 2) made) work s count made room' work'
      → PieceOpened t w n last q origin fore rear lead tail made room' work' (made + m)
  path-run-done (settled s R es) g es' ec em none el many e₁ e₂ e₃ e₄ last got =
      absurd (omega (
        arith,
        marked_large (leb (length es) (l# w)) (em ∙ mark-is g) (lt-leb (length es) (l# w) (omega (arith, count-is g))),
      ))
  path-run-done (old s o zs) g es ec em none el many e₁ e₂ e₃ e₄ last got = absurd (omega (arith, mark-is g))
  path-run-done (grown s R run) g {mark} {s = s₁} {count} {l} {early} {c} {o} {m} es ec em none el many e₁ e₂ e₃ e₄ last {room'} {work'} got =
      let b : leb (length run) (l# w) ≡ false = lt-leb (length run) (l# w) (omega (arith, count-is g)) in
      let d : ℕ → ℕ → ℕ = between t (c# w) (circles# w) in
      let Q : List ℕ = set room (node_at_lem k + 2) made in
      let last_early : early ≡ l# w + 1 = e₄ ∙ ap (λ (i : ℕ). i + 1) el in
      let g₁ = subst (λ (i : ℕ). SplitAmong t c o m early n Q work i count made room' work') (es ∙ start_is g) got in
      let g₂ = subst (λ (i : ℕ). SplitAmong t c o m early n Q work s i made room' work') (ec ∙ count-is g) g₁ in
      let g₃ = subst (λ (i : ℕ). SplitAmong t i o m early n Q work s (length run) made room' work') e₁ g₂ in
      let g₄ = subst (λ (i : ℕ). SplitAmong t (c# w) i m early n Q work s (length run) made room' work') e₂ g₃ in
      let g₅ = subst (λ (i : ℕ). SplitAmong t (c# w) (circles# w) i early n Q work s (length run) made room' work') e₃ g₄ in
      let g₆ = subst (λ (i : ℕ). SplitAmong t (c# w) (circles# w) (m# w) i n Q work s (length run) made room' work') last_early g₅ in
      let ps : List Piece = grown_from d s (parts d (m# w) (l# w) run) in
      let same : ps ≡ opens d w (grown s R run) = ap (λ (x : Bool). cond x [] ps) (sym b) in
      let two : 2 ≤ m# w = g.task.shape.whole.fan.0 in
      let replaced : Replaced t w n last (opens d w (grown s R run)) Q work s (length run) made room' work' =
      subst (λ (x : List Piece). Replaced t w n last x Q work s (length run) made room' work') same (run-done (ready s R run g b) last g₆) in
      let done =
      opens-done g (ap not b) (ap (λ (x : Bool). (s, length run, cond x 0 made, R)) b)
      (ap length (sym same) ∙ parts_many d (m# w) (l# w) s run (omega arith)) {last = last} {room' = room'} {work' = work'} replaced in
      subst (λ (i : ℕ). PieceOpened t w n last (grown s R run) origin fore rear lead tail made room' work' (made + i)) (sym e₃) done
