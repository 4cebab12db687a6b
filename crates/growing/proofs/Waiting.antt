-- The items that wait to be split: the next of them among the tiles, and those of the level below. Assumes nothing.
use Prim.Native.Nat.{◌+◌, ◌≤◌, ℕ}
use Rattle.growing.specs.Levels.{Able, Item, next_level, opened, parts, placed, waits}
use Rattle.laws.proofs.Every.{every_of}
use Rattle.laws.proofs.Joins.{keep_append}
use Rattle.laws.specs.Every.{Every}
use Rattle.laws.specs.Lists.{each, joined, keep}
use Rattle.split.proofs.Laid.{split-joined}
use Rattle.tree.specs.Build.{Run, split}
use borrow.Author.Tests.{leb-false}
use lib.Dec.{leb}
use lib.ListN.{length, length-append}
use mathlib.Core.Bool.{Bool, cond, false, not, true}
use mathlib.Core.List.{List, [], ◌++◌, ◌∷◌, cons≢nil}
use mathlib.Core.Path.{◌∙◌, ◌≡◌, ap, ap₂, refl, sym}
use native.Mathlib.Nat.{add-zero}
use native.Mathlib.Omega.{arith}

-- at most l rows
abbrev pub Small : ℕ → List ℕ → Type 0
Small l r = leb (length r) l ≡ true

-- two stretches of runs: the second starts behind the rows of the first
placed_append : (s : ℕ) (xs ys : List (List ℕ)) → placed s (xs ++ ys) ≡ placed s xs ++ placed (s + length (joined xs)) ys
placed_append s [] ys = rw add-zero
placed_append s (x ∷ xs) ys =
    let k : s + length x + length (joined xs) ≡ s + length (joined (x ∷ xs)) = omega (arith, length-append x (joined xs)) in
    ap (λ (qs : List Item). (s, x) ∷ qs) (placed_append (s + length x) xs ys ∙ ap (λ (j : ℕ). placed (s + length x) xs ++ placed j ys) k)

-- ---- the next tile that waits
-- item q is the first of the tiles ts, from position s on, that waits; the items qs are the others that wait
pub record Next (l s : ℕ) (ts : List (List ℕ)) (q : Item) (qs : List Item) : Type 0 where
  pub front : List (List ℕ)
  pub back : List (List ℕ)
  pub cut : ts ≡ front ++ q.1 ∷ back
  pub small : Every (Small l) front
  pub place : q.0 ≡ s + length (joined front)
  pub later : qs ≡ keep (waits l) (placed (s + length (joined front) + length q.1) back)

-- the first of the items that wait is found among the tiles
pub next-waiting : (l s : ℕ) (ts : List (List ℕ)) (q : Item) (qs : List Item) → q ∷ qs ≡ keep (waits l) (placed s ts) → Next l s ts q qs
next-waiting l s [] q qs e = absurd (cons≢nil e)
next-waiting l s (t ∷ ts) q qs e = go (leb (length t) l) refl (λ h. next-waiting l (s + length t) ts q qs h) e
  where
    go : (b : Bool) → leb (length t) l ≡ b → (q ∷ qs ≡ keep (waits l) (placed (s + length t) ts) → Next l (s + length t) ts q qs)
        → q ∷ qs ≡ cond (not b) ((s, t) ∷ keep (waits l) (placed (s + length t) ts)) (keep (waits l) (placed (s + length t) ts))
        → Next l s (t ∷ ts) q qs
    go true p ih e =
        let r = ih e in
        let k : s + length t + length (joined r.front) ≡ s + length (joined (t ∷ r.front)) = omega (arith, length-append t (joined r.front)) in
        record {
          front = t ∷ r.front;
          back = r.back;
          cut = ap (λ (x : List (List ℕ)). t ∷ x) r.cut;
          small = (p, r.small);
          place = r.place ∙ k;
          later = r.later ∙ ap (λ (j : ℕ). keep (waits l) (placed (j + length q.1) r.back)) k;
        }
    go false p ih e =
        let h : q ≡ (s, t) = cc in
        let more : qs ≡ keep (waits l) (placed (s + length t) ts) = cc in
        let z : s + 0 ≡ s = omega arith in
        record {
          front = [];
          back = ts;
          cut = ap (λ (x : Item). x.1 ∷ ts) (sym h);
          small = tt;
          place = ap (λ (x : Item). x.0) h ∙ sym z;
          later = more ∙ ap₂ (λ (j : ℕ) (x : Item). keep (waits l) (placed (j + length x.1) ts)) (sym z) (sym h);
        }

-- none waits: all are small
pub none-waiting : (l s : ℕ) (ts : List (List ℕ)) → [] ≡ keep (waits l) (placed s ts) → Every (Small l) ts
none-waiting l s [] e = tt
none-waiting l s (t ∷ ts) e = go (leb (length t) l) refl (λ h. none-waiting l (s + length t) ts h) e
  where
    go : (b : Bool) → leb (length t) l ≡ b → ([] ≡ keep (waits l) (placed (s + length t) ts) → Every (Small l) ts)
        → [] ≡ cond (not b) ((s, t) ∷ keep (waits l) (placed (s + length t) ts)) (keep (waits l) (placed (s + length t) ts))
        → Small l t × Every (Small l) ts
    go true p ih e = (p, ih e)
    go false p ih e = absurd (cons≢nil (sym e))

-- ---- runs that can be opened
-- a run can be
pub runs_able : (l : ℕ) (rs : List (List ℕ)) → Every Run rs → Every (Able l) rs
runs_able l rs h = every_of Run (Able l) (λ r f. (f.0, λ k. f.1)) rs h

-- where it has more than l rows, no row stands in it twice
pub able_run : (l : ℕ) (r : List ℕ) → Able l r → leb (length r) l ≡ false → Run r
able_run l r h e = (h.0, h.1 (leb-false (length r) l e))

-- ---- one level down
module _ (d : ℕ → ℕ → ℕ) (m l : ℕ) where
  -- small runs stay
  pub small-opened : (ts : List (List ℕ)) → Every (Small l) ts → each (opened d m l) ts ≡ ts
  small-opened [] h = refl
  small-opened (t ∷ ts) h = rw h.0 (ap (λ (x : List (List ℕ)). t ∷ x) (small-opened ts h.1))

  -- the parts of a level are those of the items that wait
  parts-waiting : (qs : List Item) → next_level d m l qs ≡ next_level d m l (keep (waits l) qs)
  parts-waiting [] = refl
  parts-waiting (q ∷ qs) = go (leb (length q.1) l) refl (parts-waiting qs)
    where
      go : (b : Bool) → leb (length q.1) l ≡ b → next_level d m l qs ≡ next_level d m l (keep (waits l) qs)
          → next_level d m l (q ∷ qs) ≡ next_level d m l (cond (not b) (q ∷ keep (waits l) qs) (keep (waits l) qs))
      go true e h = rw e h
      go false e h = ap (λ (x : List Item). parts d m l q ++ x) h

  module _ (m1 : 1 ≤ m) (ml : m ≤ l) where
    -- those of the level below that wait are the opened tiles that wait
    opened-waiting : (s : ℕ) (ts : List (List ℕ)) → Every (Able l) ts
        → keep (waits l) (next_level d m l (placed s ts)) ≡ keep (waits l) (placed s (each (opened d m l) ts))
    opened-waiting s [] h = refl
    opened-waiting s (t ∷ ts) h = go (leb (length t) l) refl (opened-waiting (s + length t) ts h.1)
      where
        go : (b : Bool) → leb (length t) l ≡ b
            → keep (waits l) (next_level d m l (placed (s + length t) ts)) ≡ keep (waits l) (placed (s + length t) (each (opened d m l) ts))
            → keep (waits l) (cond b [] (placed s (split d m t)) ++ next_level d m l (placed (s + length t) ts))
            ≡ keep (waits l) (placed s (cond b (t ∷ []) (split d m t) ++ each (opened d m l) ts))
        go true e h =
            let more : List Item = keep (waits l) (placed (s + length t) (each (opened d m l) ts)) in
            h ∙ sym (ap (λ (b : Bool). cond (not b) ((s, t) ∷ more) more) e)
        go false e h' =
            let k : s + length t ≡ s + length (joined (split d m t)) =
            ap (λ (j : ℕ). s + j) (sym (split-joined d m t m1 (omega (arith, leb-false (length t) l e)) (able_run l t h.0 e))) in
            keep_append (waits l) (placed s (split d m t)) (next_level d m l (placed (s + length t) ts))
            ∙ ap (λ (x : List Item). keep (waits l) (placed s (split d m t)) ++ x)
            (h' ∙ ap (λ (j : ℕ). keep (waits l) (placed j (each (opened d m l) ts))) k)
            ∙ sym (keep_append (waits l) (placed s (split d m t)) (placed (s + length (joined (split d m t))) (each (opened d m l) ts)))
            ∙ ap (keep (waits l)) (sym (placed_append s (split d m t) (each (opened d m l) ts)))

    -- WHERE THE ITEMS THAT WAIT ARE THE TILES THAT WAIT, SO ARE THEY ONE LEVEL DOWN
    pub next-waits : (s : ℕ) (qs : List Item) (ts : List (List ℕ)) → Every (Able l) ts → keep (waits l) qs ≡ keep (waits l) (placed s ts)
        → keep (waits l) (next_level d m l qs) ≡ keep (waits l) (placed s (each (opened d m l) ts))
    next-waits s qs ts h e =
        ap (keep (waits l)) (parts-waiting qs ∙ ap (next_level d m l) e ∙ sym (parts-waiting (placed s ts))) ∙ opened-waiting s ts h
