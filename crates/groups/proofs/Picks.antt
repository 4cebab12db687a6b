-- Those of a run's entries that have one centre, written one after the other. Assumes nothing.
use Prim.Native.Nat.{◌%◌, ◌*◌, ◌+◌, ◌-◌, ◌<◌, ◌≤◌, max, ℕ}
use Rattle.groups.specs.Groups.{Picked, Picking, distances, narrowest, picked, size, widest}
use Rattle.laws.proofs.Lists.{lowest-last}
use Rattle.laws.proofs.Parts.{put_more}
use Rattle.laws.specs.Lists.{lower, lowest}
use Rattle.rounds.proofs.Parts.{read_front, stretch_three}
use Rattle.rounds.specs.Stretch.{stretch}
use borrow.Author.Tests.{eq-eqb, ne_eqb}
use borrow.Rule.Slice.PartMut.{mid_of, put_mid}
use lib.Dec.{eqb}
use lib.ListN.{drop, get_or, length, length-append, length-drop, take, take-append-drop}
use lib.Seq.{drop-drop, length-take-le, take-add, take_all}
use mathlib.Core.Bool.{Bool, cond, false, true}
use mathlib.Core.List.{List, [], ◌++◌, ◌∷◌, append_assoc, append-nil}
use mathlib.Core.Path.{◌∙◌, ◌≡◌, ap, ap₂, refl, sym}
use native.Mathlib.Omega.{arith}

-- three words each
pub picked-size : (a : ℕ) (es : List ℕ) → length (picked a es) ≡ 3 * size (picked a es)
unfolding picked size
picked-size a [] = refl
picked-size a (i ∷ []) = refl
picked-size a (i ∷ x ∷ []) = refl
picked-size a (i ∷ x ∷ b ∷ es) = go (eqb b a) (picked-size a es)
  where
    go : (s : Bool) → length (picked a es) ≡ 3 * size (picked a es)
        → length (cond s (i ∷ x ∷ a ∷ picked a es) (picked a es)) ≡ 3 * size (cond s (i ∷ x ∷ a ∷ picked a es) (picked a es))
    go true h = omega arith
    go false h = h

-- k entries and one more: it has the last distance
distances_more : (es : List ℕ) (k i x a : ℕ) → length es ≡ 3 * k
    → (distances (es ++ i ∷ x ∷ a ∷ []) ≡ distances es ++ x ∷ []) × (length (distances es) ≡ k)
unfolding distances
distances_more [] k i x a l = (refl, omega arith)
distances_more (j ∷ []) k i x a l = absurd (omega arith)
distances_more (j ∷ y ∷ []) k i x a l = absurd (omega arith)
distances_more (j ∷ y ∷ b ∷ es) k i x a l =
    let r = distances_more es (k - 1) i x a (omega arith) in
    (ap (λ (ds : List ℕ). y ∷ ds) r.0, omega (arith, r.1))

-- and may be the narrowest
narrowest_more : (es : List ℕ) (k i x a : ℕ) → length es ≡ 3 * k → narrowest (es ++ i ∷ x ∷ a ∷ []) ≡ lower (k + 1) (narrowest es) x
narrowest_more es k i x a l =
    let r = distances_more es k i x a l in
    ap lowest r.0 ∙ lowest-last (distances es) x ∙ ap (λ (j : ℕ). lower (j + 1) (narrowest es) x) r.1

-- those of centre a from lo to hi
abbrev pub picked_in : List ℕ → ℕ → ℕ → ℕ → List ℕ
picked_in w lo hi a = picked a (stretch w lo hi)

-- the entries before p are dealt with: `count` of centre a are written from word `to` on
pub record Picks (w₀ : List ℕ) (lo hi a to : ℕ) (w : List ℕ) (count radius inner p : ℕ) : Type 0 where
  pub asked : Picking w₀ lo hi a to
  pub over : p ≤ hi
  pub thirds : (hi - p) % 3 ≡ 0
  pub long : length w ≡ length w₀
  pub some : 3 * count ≤ length (picked_in w₀ lo hi a)
  pub left : drop (3 * count) (picked_in w₀ lo hi a) ≡ picked_in w₀ p hi a
  pub wrote : w ≡ (take to w₀ ++ take (3 * count) (picked_in w₀ lo hi a)) ++ drop (to + 3 * count) w₀
  pub far : max radius (widest (picked_in w₀ p hi a)) ≡ widest (picked_in w₀ lo hi a)
  pub near : inner ≡ narrowest (take (3 * count) (picked_in w₀ lo hi a))

-- none is written
pub picks_start : {w : List ℕ} {lo hi a to : ℕ} → Picking w lo hi a to → Picks w lo hi a to w 0 0 0 lo
unfolding distances
picks_start {w} {lo} {hi} {a} {to} asked =
    let z : to + 3 * 0 ≡ to = omega arith in
    record {
      asked = asked;
      over = asked.order;
      thirds = asked.thirds;
      long = refl;
      some = omega arith;
      left = refl;
      wrote = sym (ap₂ (λ (l : List ℕ) (k : ℕ). l ++ drop k w) (append-nil (take to w)) z ∙ take-append-drop to w);
      far = omega arith;
      near = refl;
    }

module _ {w₀ : List ℕ} {lo hi a to : ℕ} {w : List ℕ} {count radius inner p : ℕ} (inv : Picks w₀ lo hi a to w count radius inner p) where
  -- those that are to be written in all
  abbrev G : List ℕ
  G = picked_in w₀ lo hi a

  -- a word before hi is read as it was
  picks-read : (k : ℕ) → k < hi → get_or w k 0 ≡ get_or w₀ k 0
  picks-read k h =
      read_front w w₀ (take (3 * count) G ++ drop (to + 3 * count) w₀) to k (omega (arith, inv.asked.room))
      (inv.wrote ∙ append_assoc (take to w₀) (take (3 * count) G) (drop (to + 3 * count) w₀)) (omega (arith, inv.asked.before))

  -- the entry at p, and those behind it
  source : p < hi → stretch w₀ p hi ≡ get_or w₀ p 0 ∷ get_or w₀ (p + 1) 0 ∷ get_or w₀ (p + 2) 0 ∷ stretch w₀ (p + 3) hi
  source h = stretch_three w₀ p hi (omega (arith, inv.thirds)) (omega (arith, inv.asked.before, inv.asked.room))

  -- its centre is read as it was
  centre-read : p < hi → get_or w (p + 2) 0 ≡ get_or w₀ (p + 2) 0
  centre-read h = picks-read (p + 2) (omega (arith, inv.thirds))

  -- ---- it has another centre
  pub picks-skip : p < hi → (get_or w (p + 2) 0 ≡ a → ⊥) → Picks w₀ lo hi a to w count radius inner (p + 3)
  unfolding picked
  picks-skip h n =
      let s : picked_in w₀ p hi a ≡ picked_in w₀ (p + 3) hi a = rw (source h, ne_eqb (get_or w₀ (p + 2) 0) a (λ e. n (centre-read h ∙ e))) in
      let t : (hi - p) % 3 ≡ 0 = inv.thirds in
      record {
        asked = inv.asked;
        over = omega arith;
        thirds = omega arith;
        long = inv.long;
        some = inv.some;
        left = inv.left ∙ s;
        wrote = inv.wrote;
        far = ap (λ (l : List ℕ). max radius (widest l)) (sym s) ∙ inv.far;
        near = inv.near;
      }

  -- ---- it has centre a
  -- so that it is the next to be written
  taken : p < hi → get_or w (p + 2) 0 ≡ a → picked_in w₀ p hi a ≡ get_or w₀ p 0 ∷ get_or w₀ (p + 1) 0 ∷ a ∷ picked_in w₀ (p + 3) hi a
  unfolding picked
  taken h e = rw (source h, eq-eqb (get_or w₀ (p + 2) 0) a (sym (centre-read h) ∙ e))

  -- and `count` are not all
  picks_more : p < hi → get_or w (p + 2) 0 ≡ a → 3 * count + 3 ≤ length G
  picks_more h e = omega (arith, ap length (inv.left ∙ taken h e), length-drop (3 * count) G)

  -- there is room for it
  pub picks-fits : p < hi → get_or w (p + 2) 0 ≡ a → to + 3 * count + 3 ≤ length w
  picks-fits h e = omega (arith, picks_more h e, picked-size a (stretch w₀ lo hi), inv.asked.room, inv.long)

  -- its words
  abbrev entry : List ℕ
  entry = get_or w₀ p 0 ∷ get_or w₀ (p + 1) 0 ∷ a ∷ []

  -- the words before it
  abbrev front : List ℕ
  front = take to w₀ ++ take (3 * count) G

  -- they end where it goes
  front_long : length front ≡ to + 3 * count
  front_long =
      let before : length (take to w₀) ≡ to = length-take-le to w₀ (omega (arith, inv.asked.room)) in
      length-append (take to w₀) (take (3 * count) G) ∙ omega (arith, length-take-le (3 * count) G inv.some)

  -- it is put behind them
  picks-put : (ys : List ℕ) → p < hi → get_or w (p + 2) 0 ≡ a
      → ys ≡ get_or w p 0 ∷ get_or w (p + 1) 0 ∷ a ∷ drop 3 (mid_of (to + 3 * count) (length w - (to + 3 * count)) w)
      → put_mid (to + 3 * count) (length w - (to + 3 * count)) w ys ≡ (front ++ entry) ++ drop (to + 3 * count + 3) w₀
  picks-put ys h e f =
      let q : ℕ = to + 3 * count in
      let t : (hi - p) % 3 ≡ 0 = inv.thirds in
      let put : ys ≡ entry ++ drop 3 (mid_of q (length w - q) w) =
      f ∙ ap₂ (λ (y z : ℕ). y ∷ z ∷ a ∷ drop 3 (mid_of q (length w - q) w)) (picks-read p h) (picks-read (p + 1) (omega arith)) in
      put_more front entry w₀ w ys q 3 front_long (omega (arith, picks-fits h e)) inv.wrote put

  -- it is written
  pub picks-take : (ys : List ℕ) → p < hi → get_or w (p + 2) 0 ≡ a
      → ys ≡ get_or w p 0 ∷ get_or w (p + 1) 0 ∷ a ∷ drop 3 (mid_of (to + 3 * count) (length w - (to + 3 * count)) w)
      → Picks w₀ lo hi a to (put_mid (to + 3 * count) (length w - (to + 3 * count)) w ys) (count + 1) (max radius (get_or w (p + 1) 0))
      (lower (count + 1) inner (get_or w (p + 1) 0)) (p + 3)
  unfolding widest
  picks-take ys h e f =
      let q : ℕ = to + 3 * count in
      let put : put_mid q (length w - q) w ys ≡ (front ++ entry) ++ drop (q + 3) w₀ = picks-put ys h e f in
      let t : (hi - p) % 3 ≡ 0 = inv.thirds in
      let fits : q + 3 ≤ length w = picks-fits h e in
      let more : 3 * count + 3 ≤ length G = picks_more h e in
      let up : 3 * (count + 1) ≡ 3 * count + 3 = omega arith in
      let qup : to + 3 * (count + 1) ≡ q + 3 = omega arith in
      let rest : drop (3 * count) G ≡ entry ++ picked_in w₀ (p + 3) hi a = inv.left ∙ taken h e in
      let grown : take (3 * (count + 1)) G ≡ take (3 * count) G ++ entry =
      ap (λ (k : ℕ). take k G) up ∙ take-add (3 * count) 3 G ∙ ap (λ (l : List ℕ). take (3 * count) G ++ take 3 l) rest in
      let long : length (put_mid q (length w - q) w ys) ≡ length w₀ =
      ap length put
      ∙ omega (arith, length-append (front ++ entry) (drop (q + 3) w₀), length-append front entry, front_long, length-drop (q + 3) w₀, inv.long) in
      record {
        asked = inv.asked;
        over = omega arith;
        thirds = omega arith;
        long = long;
        some = omega arith;
        left = ap (λ (k : ℕ). drop k G) up ∙ sym (drop-drop 3 (3 * count) G) ∙ ap (drop 3) rest;
        wrote = put ∙ rw (grown, qup) (ap (λ (l : List ℕ). l ++ drop (q + 3) w₀) (append_assoc (take to w₀) (take (3 * count) G) entry));
        far = rw (picks-read (p + 1) (omega arith)) (widen ∙ ap (λ (l : List ℕ). max radius (widest l)) (sym (taken h e)) ∙ inv.far);
        near =
            ap₂ (lower (count + 1)) inv.near (picks-read (p + 1) (omega arith))
            ∙ sym (narrowest_more (take (3 * count) G) count (get_or w₀ p 0) (get_or w₀ (p + 1) 0) a (length-take-le (3 * count) G inv.some))
            ∙ ap narrowest (sym grown);
      }
    where
      widen : max (max radius (get_or w₀ (p + 1) 0)) (widest (picked_in w₀ (p + 3) hi a))
          ≡ max radius (max (get_or w₀ (p + 1) 0) (widest (picked_in w₀ (p + 3) hi a)))
      widen = omega arith

  -- ---- all are dealt with
  pub picks_done : hi ≤ p → Picked w₀ lo hi a to w count radius inner
  unfolding picked widest
  picks_done h =
      let z : hi - p ≡ 0 = omega arith in
      let none : stretch w₀ p hi ≡ [] = ap (λ (k : ℕ). take k (drop p w₀)) z in
      let out : drop (3 * count) G ≡ [] = inv.left ∙ ap (picked a) none in
      let some : 3 * count ≤ length G = inv.some in
      let all : length G ≡ 3 * count = omega (arith, ap length out, length-drop (3 * count) G) in
      let n : count ≡ size G = omega (arith, picked-size a (stretch w₀ lo hi)) in
      let whole : take (3 * count) G ≡ G = take_all (3 * count) G (omega arith) in
      record {
        words =
            inv.wrote ∙ append_assoc (take to w₀) (take (3 * count) G) (drop (to + 3 * count) w₀)
            ∙ ap₂ (λ (l : List ℕ) (k : ℕ). take to w₀ ++ (l ++ drop (to + 3 * k) w₀)) whole n;
        members = n;
        far = sym (ap (λ (l : List ℕ). max radius (widest (picked a l))) none ∙ omega arith) ∙ inv.far;
        near = inv.near ∙ ap narrowest whole;
      }
