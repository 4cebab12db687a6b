-- The tiles one level down: which are on the level, how many rows they have, where they start, and that they can be opened. Assumes nothing.
use Prim.Native.Nat.{◌+◌, ◌≤◌, suc, ℕ}
use Rattle.dealing.proofs.Children.{sizes_append}
use Rattle.dealing.specs.Pending.{size_of, sizes}
use Rattle.deepening.proofs.Sounding.{leaf_sound, opens-follow, opens-sizes, opens-sound}
use Rattle.deepening.proofs.Standing.{follow_append}
use Rattle.deepening.specs.Tiles.{Follow, Leafy, Tile, below, below_all, current, fresh, pieces}
use Rattle.laws.proofs.Every.{every_append}
use Rattle.laws.proofs.Lists.{map-append}
use Rattle.laws.specs.Every.{Every}
use Rattle.measure.specs.Table.{between}
use Rattle.opening.proofs.Waited.{leaf_opens}
use Rattle.opening.specs.Sound.{Sound, Task, opened, waits}
use Rattle.swelling.specs.Pieces.{Piece, open_all, opens, start_of}
use Rattle.words.specs.Words.{c#, circles#}
use lib.Dec.{T}
use lib.ListN.{length}
use mathlib.Core.Bool.{Bool, ◌&&◌, cond, false, true}
use mathlib.Core.List.{List, [], ◌++◌, ◌∷◌}
use mathlib.Core.Path.{◌∙◌, ◌≡◌, ap, ap₂, refl, subst, sym}
use native.Mathlib.Nat.{add-zero}
use native.Mathlib.Omega.{arith}

-- ---- two stretches of tiles
pub pieces_append : (xs ys : List Tile) → pieces (xs ++ ys) ≡ pieces xs ++ pieces ys
pieces_append xs ys = map-append (λ x. x.1) xs ys

pub current_append : (xs ys : List Tile) → current (xs ++ ys) ≡ current xs ++ current ys
current_append [] ys = refl
current_append (x ∷ xs) ys = go x.0 (current_append xs ys)
  where
    go : (b : Bool) → current (xs ++ ys) ≡ current xs ++ current ys
        → cond b (x.1 ∷ current (xs ++ ys)) (current (xs ++ ys)) ≡ cond b (x.1 ∷ current xs) (current xs) ++ current ys
    go true e = ap (λ (l : List Piece). x.1 ∷ l) e
    go false e = e

-- pieces of the level at hand are these
pub fresh-pieces : (qs : List Piece) → pieces (fresh qs) ≡ qs
fresh-pieces [] = refl
fresh-pieces (q ∷ qs) = ap (λ (l : List Piece). q ∷ l) (fresh-pieces qs)

fresh-current : (qs : List Piece) → current (fresh qs) ≡ qs
fresh-current [] = refl
fresh-current (q ∷ qs) = ap (λ (l : List Piece). q ∷ l) (fresh-current qs)

fresh_leafy : (w : List ℕ) (qs : List Piece) → Every (Leafy w) (fresh qs)
fresh_leafy w [] = tt
fresh_leafy w (q ∷ qs) = (λ e. absurd (subst T e tt), fresh_leafy w qs)

module _ (t w : List ℕ) where
  -- how far two rows are apart
  abbrev d : ℕ → ℕ → ℕ
  d = between t (c# w) (circles# w)

  -- a piece of the level leaves what it is opened into
  pub below-opened : (q : Piece) → pieces (below t w (true, q)) ≡ opened t w q
  below-opened q = go (waits w q)
    where
      go : (v : Bool) → pieces (cond v (fresh (opens d w q)) ((false, q) ∷ [])) ≡ cond v (opens d w q) (q ∷ [])
      go true = fresh-pieces (opens d w q)
      go false = refl

  -- on the level below is what the level is opened into
  pub below-current : (ts : List Tile) → current (below_all t w ts) ≡ open_all (between t (c# w) (circles# w)) w (current ts)
  below-current [] = refl
  below-current (x ∷ ts) =
      current_append (below t w x) (below_all t w ts) ∙ go x.0 (waits w x.1) refl (below-current ts)
    where
      go : (b v : Bool) → waits w x.1 ≡ v → current (below_all t w ts) ≡ open_all d w (current ts)
          → current (cond (b && v) (fresh (opens d w x.1)) ((false, x.1) ∷ [])) ++ current (below_all t w ts)
          ≡ open_all d w (cond b (x.1 ∷ current ts) (current ts))
      go true true e h = ap₂ (λ (l k : List Piece). l ++ k) (fresh-current (opens d w x.1)) h
      go true false e h = h ∙ ap (λ (l : List Piece). l ++ open_all d w (current ts)) (sym (leaf_opens d w x.1 e))
      go false true e h = h
      go false false e h = h

  -- tiles of levels above stay
  pub above-stay : (ts : List Tile) → Every (λ x. x.0 ≡ false) ts → below_all t w ts ≡ ts
  above-stay [] h = refl
  above-stay (x ∷ ts) h = go x.0 h.0 (above-stay ts h.1)
    where
      go : (b : Bool) → b ≡ false → below_all t w ts ≡ ts
          → cond (b && waits w x.1) (fresh (opens d w x.1)) ((false, x.1) ∷ []) ++ below_all t w ts ≡ (b, x.1) ∷ ts
      go true e k = absurd (subst T e tt)
      go false e k = ap (λ (l : List Tile). (false, x.1) ∷ l) k

  -- and are none of the level's
  pub above-none : (ts : List Tile) → Every (λ x. x.0 ≡ false) ts → current ts ≡ []
  above-none [] h = refl
  above-none (x ∷ ts) h = go x.0 h.0 (above-none ts h.1)
    where
      go : (b : Bool) → b ≡ false → current ts ≡ [] → cond b (x.1 ∷ current ts) (current ts) ≡ []
      go true e k = absurd (subst T e tt)
      go false e k = k

  -- where the level has a piece, the first is found among the tiles
  pub record Next (ts : List Tile) : Type 0 where
    pub front : List Tile
    pub q : Piece
    pub back : List Tile
    pub cut : ts ≡ front ++ (true, q) ∷ back
    pub above : Every (λ x. x.0 ≡ false) front

  pub next_of : (ts : List Tile) → 1 ≤ length (current ts) → Next ts
  next_of [] h = absurd (omega arith)
  next_of (x ∷ ts) h = go x.0 h (λ k. next_of ts k)
    where
      go : (b : Bool) → 1 ≤ length (cond b (x.1 ∷ current ts) (current ts)) → (1 ≤ length (current ts) → Next ts) → Next ((b, x.1) ∷ ts)
      go true h ih = record { front = []; q = x.1; back = ts; cut = refl; above = tt }
      go false h ih =
          let r = ih h in
          record {
            front = (false, x.1) ∷ r.front;
            q = r.q;
            back = r.back;
            cut = ap (λ (l : List Tile). (false, x.1) ∷ l) r.cut;
            above = (refl, r.above);
          }

-- where it has none, all are of levels above
pub none_left : (ts : List Tile) → length (current ts) ≡ 0 → Every (λ x. x.0 ≡ false) ts
none_left [] h = tt
none_left (x ∷ ts) h = go x.0 refl h (λ k. none_left ts k)
  where
    go : (b : Bool) → x.0 ≡ b → length (cond b (x.1 ∷ current ts) (current ts)) ≡ 0
        → (length (current ts) ≡ 0 → Every (λ x. x.0 ≡ false) ts) → (x.0 ≡ false) × Every (λ x. x.0 ≡ false) ts
    go true e h ih = absurd (omega arith)
    go false e h ih = (e, ih h)

-- tiles of levels above are leaves
pub above_leaves : (w : List ℕ) (ts : List Tile) → Every (λ x. x.0 ≡ false) ts → Every (Leafy w) ts → Every (λ q. waits w q ≡ false) (pieces ts)
above_leaves w [] h l = tt
above_leaves w (x ∷ ts) h l = (l.0 h.0, above_leaves w ts h.1 l.1)

module _ {t w : List ℕ} {n : ℕ} (task : Task t w n) (deep : ℕ) where
  -- how far two rows are apart
  abbrev D : ℕ → ℕ → ℕ
  D = between t (c# w) (circles# w)

  -- ---- one tile
  -- its rows are those of what it leaves
  tile-sizes : (x : Tile) → Sound t w n (suc deep) x.1 → sizes w (pieces (below t w x)) ≡ size_of w x.1
  tile-sizes x h = go x.0 (waits w x.1) refl
    where
      go : (b v : Bool) → waits w x.1 ≡ v
          → sizes w (pieces (cond (b && v) (fresh (opens D w x.1)) ((false, x.1) ∷ []))) ≡ size_of w x.1
      go true true e = ap (sizes w) (fresh-pieces (opens D w x.1)) ∙ opens-sizes task deep x.1 h e
      go true false e = add-zero (size_of w x.1)
      go false true e = add-zero (size_of w x.1)
      go false false e = add-zero (size_of w x.1)

  -- they start where it starts
  tile-follow : (x : Tile) → Follow w (start_of x.1) (pieces (below t w x))
  tile-follow x = go x.0 (waits w x.1)
    where
      go : (b v : Bool) → Follow w (start_of x.1) (pieces (cond (b && v) (fresh (opens D w x.1)) ((false, x.1) ∷ [])))
      go true true = subst (Follow w (start_of x.1)) (sym (fresh-pieces (opens D w x.1))) (opens-follow task x.1)
      go true false = (refl, tt)
      go false true = (refl, tt)
      go false false = (refl, tt)

  -- they can be opened
  tile-sound : (x : Tile) → Leafy w x → Sound t w n (suc deep) x.1 → Every (Sound t w n deep) (pieces (below t w x))
  tile-sound x l h = go x.0 (waits w x.1) refl refl
    where
      go : (b v : Bool) → x.0 ≡ b → waits w x.1 ≡ v
          → Every (Sound t w n deep) (pieces (cond (b && v) (fresh (opens D w x.1)) ((false, x.1) ∷ [])))
      go true true e f = subst (Every (Sound t w n deep)) (sym (fresh-pieces (opens D w x.1))) (opens-sound task deep x.1 h)
      go true false e f = (leaf_sound task (suc deep) deep x.1 f h, tt)
      go false true e f = (leaf_sound task (suc deep) deep x.1 (l e) h, tt)
      go false false e f = (leaf_sound task (suc deep) deep x.1 f h, tt)

  -- those of a level above are leaves
  tile-leafy : (x : Tile) → Leafy w x → Every (Leafy w) (below t w x)
  tile-leafy x l = go x.0 (waits w x.1) refl refl
    where
      go : (b v : Bool) → x.0 ≡ b → waits w x.1 ≡ v → Every (Leafy w) (cond (b && v) (fresh (opens D w x.1)) ((false, x.1) ∷ []))
      go true true e f = fresh_leafy w (opens D w x.1)
      go true false e f = (λ k. f, tt)
      go false true e f = (λ k. l e, tt)
      go false false e f = (λ k. f, tt)

  -- ---- ALL TILES
  pub below-sizes : (ts : List Tile) → Every (Sound t w n (suc deep)) (pieces ts) → sizes w (pieces (below_all t w ts)) ≡ sizes w (pieces ts)
  below-sizes [] h = refl
  below-sizes (x ∷ ts) h =
      ap (sizes w) (pieces_append (below t w x) (below_all t w ts)) ∙ sizes_append w (pieces (below t w x)) (pieces (below_all t w ts))
      ∙ ap₂ (λ (a b : ℕ). a + b) (tile-sizes x h.0) (below-sizes ts h.1)

  pub below-follow : (s : ℕ) (ts : List Tile) → Every (Sound t w n (suc deep)) (pieces ts) → Follow w s (pieces ts)
      → Follow w s (pieces (below_all t w ts))
  below-follow s [] h f = tt
  below-follow s (x ∷ ts) h f =
      subst (Follow w s) (sym (pieces_append (below t w x) (below_all t w ts)))
      (follow_append w s (pieces (below t w x)) (pieces (below_all t w ts))
      (subst (λ (i : ℕ). Follow w i (pieces (below t w x))) f.0 (tile-follow x))
      (subst (λ (i : ℕ). Follow w (s + i) (pieces (below_all t w ts))) (sym (tile-sizes x h.0))
      (below-follow (s + size_of w x.1) ts h.1 f.1)))

  pub below-sound : (ts : List Tile) → Every (Leafy w) ts → Every (Sound t w n (suc deep)) (pieces ts)
      → Every (Sound t w n deep) (pieces (below_all t w ts))
  below-sound [] l h = tt
  below-sound (x ∷ ts) l h =
      subst (Every (Sound t w n deep)) (sym (pieces_append (below t w x) (below_all t w ts)))
      (every_append (Sound t w n deep) (pieces (below t w x)) (pieces (below_all t w ts)) (tile-sound x l.0 h.0) (below-sound ts l.1 h.1))

  pub below-leafy : (ts : List Tile) → Every (Leafy w) ts → Every (Leafy w) (below_all t w ts)
  below-leafy [] l = tt
  below-leafy (x ∷ ts) l = every_append (Leafy w) (below t w x) (below_all t w ts) (tile-leafy x l.0) (below-leafy ts l.1)
