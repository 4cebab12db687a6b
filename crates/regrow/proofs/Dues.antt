-- The run that a level's pieces come to: until it is among them, and when it is. Assumes nothing.
use Prim.Native.Nat.{◌+◌, suc, zero, ℕ}
use Rattle.growing.specs.Levels as items
use Rattle.growing.specs.Levels.{Item, placed}
use Rattle.laws.proofs.Empty.{append-nil-l, append-nil-r}
use Rattle.laws.proofs.Joins.{each_append}
use Rattle.laws.specs.Lists.{each}
use Rattle.regrow.specs.Pieces.{Job, Piece, due, fresh, fresh_of, kept, next_level, parts, run_of, runs_of}
use Rattle.tree.specs.Build.{split}
use Rattle.tree.specs.Grove.{Reach}
use lib.Dec.{leb}
use lib.ListN.{length}
use mathlib.Core.Bool.{Bool, cond, false, true}
use mathlib.Core.List.{List, [], ◌++◌, ◌∷◌, cons≢nil, map}
use mathlib.Core.Logic.{◌⊎◌, inl, inr}
use mathlib.Core.Path.{◌∙◌, ◌≡◌, ap, ap₂, refl, sym}

-- a run that is due, with the levels below it
abbrev pub Due : Type 0
Due = ℕ × Item

-- two lists that are none together are none each
pub both-none : {A : Type 0} (xs ys : List A) → xs ++ ys ≡ [] → (xs ≡ []) × (ys ≡ [])
both-none xs ys e = (append-nil-l xs ys e, append-nil-r xs ys e)

module _ (j : Job) where
  -- a run is due at once
  due-fresh : (deep s : ℕ) (R : Reach) (r : List ℕ) → due j deep (fresh s R r) ≡ (deep, (s, r)) ∷ []
  unfolding due
  due-fresh zero s R r = refl
  due-fresh (suc deep) s R r = refl

  -- what the old nodes among the pieces come to
  abbrev pub kept_due : ℕ → Piece → List Due
  kept_due deep (kept o) = due j deep (kept o)
  kept_due deep (fresh s R r) = []

  -- where nothing is due, no run is among the pieces
  due-none : (deep : ℕ) (qs : List Piece) → each (λ q. due j deep q) qs ≡ [] → (runs_of qs ≡ []) × (each (kept_due deep) qs ≡ [])
  due-none deep [] e = (refl, refl)
  due-none deep (kept o ∷ qs) e =
      let b = both-none (due j deep (kept o)) (each (λ q. due j deep q) qs) e in
      let h = due-none deep qs b.1 in
      (h.0, ap₂ (λ (x y : List Due). x ++ y) b.0 h.1)
  due-none deep (fresh s R r ∷ qs) e =
      absurd (cons≢nil (sym (ap (λ (x : List Due). x ++ each (λ q. due j deep q) qs) (due-fresh deep s R r)) ∙ e))

  -- the run is among the pieces, and the old nodes come to no other
  pub record Reached (deep : ℕ) (x : Due) (qs : List Piece) : Type 0 where
    pub level : x.0 ≡ deep
    pub runs : runs_of qs ≡ x.1 ∷ []
    pub calm : each (kept_due deep) qs ≡ []

  -- where one run is due, it is among the pieces, or no run is
  pub due-one : (deep : ℕ) (x : Due) (qs : List Piece) → each (λ q. due j deep q) qs ≡ x ∷ [] → (runs_of qs ≡ []) ⊎ Reached deep x qs
  due-one deep x [] e = absurd (cons≢nil (sym e))
  due-one deep x (kept o ∷ qs) e = go (due j deep (kept o)) refl (λ h. due-one deep x qs h)
    where
      go : (ds : List Due) → due j deep (kept o) ≡ ds → (each (λ q. due j deep q) qs ≡ x ∷ [] → (runs_of qs ≡ []) ⊎ Reached deep x qs)
          → (runs_of (kept o ∷ qs) ≡ []) ⊎ Reached deep x (kept o ∷ qs)
      go [] d ih = more (ih (sym (ap (λ (y : List Due). y ++ each (λ q. due j deep q) qs) d) ∙ e))
        where
          more : (runs_of qs ≡ []) ⊎ Reached deep x qs → (runs_of (kept o ∷ qs) ≡ []) ⊎ Reached deep x (kept o ∷ qs)
          more (inl h) = inl h
          more (inr r) = inr (record { level = r.level; runs = r.runs; calm = ap₂ (λ (a b : List Due). a ++ b) d r.calm })
      go (y ∷ ys) d ih =
          let h : y ∷ (ys ++ each (λ q. due j deep q) qs) ≡ x ∷ [] = sym (ap (λ (y : List Due). y ++ each (λ q. due j deep q) qs) d) ∙ e in
          let none : ys ++ each (λ q. due j deep q) qs ≡ [] = cc in
          inl (due-none deep qs (both-none ys (each (λ q. due j deep q) qs) none).1).0
  due-one deep x (fresh s R r ∷ qs) e =
      let h : (deep, (s, r)) ∷ each (λ q. due j deep q) qs ≡ x ∷ [] =
      sym (ap (λ (y : List Due). y ++ each (λ q. due j deep q) qs) (due-fresh deep s R r)) ∙ e in
      let same : x ≡ (deep, (s, r)) = cc in
      let none : each (λ q. due j deep q) qs ≡ [] = cc in
      let rest = due-none deep qs none in
      inr
      (
      record {
        level = ap (λ (y : Due). y.0) same;
        runs = ap₂ (λ (a : Item) (b : List Item). a ∷ b) (ap (λ (y : Due). y.1) (sym same)) rest.0;
        calm = rest.1;
      }
      )

  -- where no run is among the pieces, as much is due of the level below
  pub due-down : (deep : ℕ) (qs : List Piece) → runs_of qs ≡ [] → each (λ q. due j (suc deep) q) qs ≡ each (λ q. due j deep q) (next_level j qs)
  unfolding due
  due-down deep [] e = refl
  due-down deep (kept o ∷ qs) e =
      ap (λ (x : List Due). each (λ q. due j deep q) (parts j (kept o)) ++ x) (due-down deep qs e)
      ∙ sym (each_append (λ q. due j deep q) (parts j (kept o)) (next_level j qs))
  due-down deep (fresh s R r ∷ qs) e = absurd (cons≢nil e)

  -- with no level left nothing is due of old nodes
  pub due-bottom : (qs : List Piece) → runs_of qs ≡ [] → each (λ q. due j zero q) qs ≡ []
  unfolding due
  due-bottom [] e = refl
  due-bottom (kept o ∷ qs) e = due-bottom qs e
  due-bottom (fresh s R r ∷ qs) e = absurd (cons≢nil e)

  -- ---- the level below, when the run is among the pieces
  -- runs' pieces are those runs
  fresh-runs : (qs : List Item) → runs_of (map (fresh_of j.d) qs) ≡ qs
  fresh-runs [] = refl
  fresh-runs (q ∷ qs) = ap (λ (x : List Item). q ∷ x) (fresh-runs qs)

  -- and come to nothing more
  fresh-calm : (deep : ℕ) (qs : List Item) → each (kept_due deep) (map (fresh_of j.d) qs) ≡ []
  fresh-calm deep [] = refl
  fresh-calm deep (q ∷ qs) = fresh-calm deep qs

  -- a run's parts are those of the build
  part-runs : (s : ℕ) (R : Reach) (r : List ℕ) → runs_of (parts j (fresh s R r)) ≡ items.parts j.d j.m j.limit (s, r)
  part-runs s R r = go (leb (length r) j.limit)
    where
      go : (b : Bool) → runs_of (cond b [] (map (fresh_of j.d) (placed s (split j.d j.m r)))) ≡ cond b [] (placed s (split j.d j.m r))
      go true = refl
      go false = fresh-runs (placed s (split j.d j.m r))

  part-calm : (deep s : ℕ) (R : Reach) (r : List ℕ) → each (kept_due deep) (parts j (fresh s R r)) ≡ []
  part-calm deep s R r = go (leb (length r) j.limit)
    where
      go : (b : Bool) → each (kept_due deep) (cond b [] (map (fresh_of j.d) (placed s (split j.d j.m r)))) ≡ []
      go true = refl
      go false = fresh-calm deep (placed s (split j.d j.m r))

  -- THE RUNS OF THE LEVEL BELOW ARE THOSE THAT THE BUILD HAS THERE, and the old nodes come to no other
  pub calm-down : (deep : ℕ) (qs : List Piece) → each (kept_due (suc deep)) qs ≡ []
      → (each (kept_due deep) (next_level j qs) ≡ []) × (runs_of (next_level j qs) ≡ items.next_level j.d j.m j.limit (runs_of qs))
  unfolding due
  calm-down deep [] e = (refl, refl)
  calm-down deep (kept o ∷ qs) e =
      let ps : List Piece = parts j (kept o) in
      let b = both-none (each (λ q. due j deep q) ps) (each (kept_due (suc deep)) qs) e in
      let n = due-none deep ps b.0 in
      let h = calm-down deep qs b.1 in (
        each_append (kept_due deep) ps (next_level j qs) ∙ ap₂ (λ (x y : List Due). x ++ y) n.1 h.0,
        each_append run_of ps (next_level j qs) ∙ ap₂ (λ (x y : List Item). x ++ y) n.0 h.1,
      )
  calm-down deep (fresh s R r ∷ qs) e =
      let ps : List Piece = parts j (fresh s R r) in
      let h = calm-down deep qs e in (
        each_append (kept_due deep) ps (next_level j qs) ∙ ap₂ (λ (x y : List Due). x ++ y) (part-calm deep s R r) h.0,
        each_append run_of ps (next_level j qs) ∙ ap₂ (λ (x y : List Item). x ++ y) (part-runs s R r) h.1,
      )
