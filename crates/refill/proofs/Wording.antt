-- The positions' words: copied, and put together from three parts. Assumes nothing.
use Rattle.moved_runs.specs.Runs.{end#}
use Prim.Native.Nat.{◌*◌, ◌+◌, ◌-◌, ◌<◌, ◌≤◌, suc, zero, ℕ}
use Rattle.laws.proofs.Parts.{put_more, store_more}
use Rattle.laws.specs.Lists.{each}
use Rattle.refill.proofs.Positions.{held}
use Rattle.refill.specs.Calls.{Pairing, pairs_then}
use Rattle.rounds.specs.Entries.{pairs_in}
use Rattle.rounds.specs.Stretch.{stretch}
use Rattle.tree.specs.Encode.{pair_words}
use Rattle.words.specs.InShape.{InShape}
use Rattle.words.specs.Words.{count#, dist#, n#, pair_at, row#, start#}
use borrow.Rule.Slice.PartMut.{mid_of, put_mid}
use lib.ListN.{drop, get_or, length, length-append, length-drop, set, take}
use lib.Seq.{drop-cons, length-take-le, take_all, take-suc}
use mathlib.Core.List.{List, [], ◌++◌, ◌∷◌, append_assoc}
use mathlib.Core.Path.{◌∙◌, ◌≡◌, ap, ap₂, refl, sym}
use native.Mathlib.Numerals.{add-one}
use native.Mathlib.Omega.{arith}

-- ---- the first words of a list, copied
pub copying_step : (from part₀ : List ℕ) {part : List ℕ} (i : ℕ) → i < length from → i < length part₀ → part ≡ take i from ++ drop i part₀
    → set part i (get_or from i 0) ≡ take (i + 1) from ++ drop (i + 1) part₀
copying_step from part₀ {part} i h f e =
    store_more (take i from) part₀ part i (get_or from i 0) (length-take-le i from (omega arith)) f e
    ∙ ap (λ (x : List ℕ). x ++ drop (i + 1) part₀) (sym (ap (λ (k : ℕ). take k from) (add-one i) ∙ take-suc from i 0 h))

pub copying_done : (from part₀ : List ℕ) {part : List ℕ} (i k : ℕ) → i ≡ k → part ≡ take i from ++ drop i part₀ → part ≡ take k from ++ drop k part₀
copying_done from part₀ i k z e = e ∙ ap (λ (n : ℕ). take n from ++ drop n part₀) z

-- ---- some positions of an index are so many of its words
pub held_words : (w : List ℕ) (k a : ℕ) → pair_at w (a + k) ≤ length w → each pair_words (held w a k) ≡ take (2 * k) (drop (pair_at w a) w)
held_words w zero a h = refl
held_words w (suc k) a h =
    let z : 2 * suc k ≡ suc (suc (2 * k)) = omega arith in
    let s : suc (suc (pair_at w a)) ≡ pair_at w (suc a) = omega arith in
    let first : drop (pair_at w a) w ≡ row# w a ∷ dist# w a ∷ drop (pair_at w (suc a)) w =
    drop-cons w (pair_at w a) 0 (omega arith)
    ∙ ap (λ (x : List ℕ). row# w a ∷ x) (drop-cons w (suc (pair_at w a)) 0 (omega arith)
    ∙ ap₂ (λ (i j : ℕ). get_or w i 0 ∷ drop j w) (sym (add-one (pair_at w a))) s) in
    ap (λ (x : List ℕ). row# w a ∷ dist# w a ∷ x) (held_words w k (suc a) (omega arith))
    ∙ sym (ap₂ take z first)

-- ---- put together
-- a part to the end
mid_all : (n : ℕ) (l : List ℕ) → mid_of n (length l - n) l ≡ drop n l
mid_all n l = take_all (length l - n) (drop n l) (omega (arith, length-drop n l))

-- is so long
pub mid_long : (n : ℕ) (l : List ℕ) → length (mid_of n (length l - n) l) ≡ length l - n
mid_long n l = ap length (mid_all n l) ∙ length-drop n l

-- two words of each entry's three
pairs_long : (c : ℕ) (x : List ℕ) → length x ≡ 3 * c → length (pairs_in x) ≡ 2 * c
unfolding pairs_in
pairs_long zero [] e = refl
pairs_long zero (y ∷ x) e = absurd (omega (arith, e))
pairs_long (suc c) [] e = absurd (omega (arith, e))
pairs_long (suc c) (a ∷ []) e = absurd (omega (arith, e))
pairs_long (suc c) (a ∷ b ∷ []) e = absurd (omega (arith, e))
pairs_long (suc c) (a ∷ b ∷ y ∷ x) e = omega (arith, pairs_long c x (omega (arith, e)))

module _ {w part work : List ℕ} {v added : ℕ} (S : InShape w) (h : Pairing w v added part work) {s count base e n0 : ℕ}
    (es : s ≡ start# w v) (ec : count ≡ count# w v + added) (eb : base ≡ pair_at w 0) (ee : e ≡ end# w v) (en : n0 ≡ n# w) where
  -- node v's run lies in the index
  lies : end# w v ≤ n# w
  lies = (S.node v h.there).run

  -- the three parts
  abbrev A : List ℕ
  A = take (2 * s) (drop base w)

  abbrev P : List ℕ
  P = pairs_in (take (3 * count) (drop (3 * s) work))

  abbrev B : List ℕ
  B = take (2 * (n0 - e)) (drop (base + 2 * e) w)

  a-long : length A ≡ 2 * s
  a-long = length-take-le (2 * s) (drop base w) (omega (arith, length-drop base w, S.whole.words, lies, es, eb))

  p-long : length P ≡ 2 * count
  p-long =
      pairs_long count (take (3 * count) (drop (3 * s) work))
      (length-take-le (3 * count) (drop (3 * s) work) (omega (arith, length-drop (3 * s) work, h.entries, lies, es, ec)))

  -- the words are those of the three parts
  parts_are : A ++ (P ++ B) ≡ pairs_then w v added work
  unfolding pairs_then
  parts_are =
      let k : 3 * count ≡ 3 * start# w v + 3 * (count# w v + added) - 3 * start# w v = omega arith in
      let a : base ≡ pair_at w 0 = omega (arith, eb) in
      let b : base + 2 * e ≡ pair_at w (end# w v) = omega (arith, eb, ee) in
      ap₂ (λ (x y : List ℕ). x ++ y) (ap₂ (λ (i j : ℕ). take (2 * i) (drop j w)) es a)
      (ap₂ (λ (x y : List ℕ). x ++ y) (ap₂ (λ (i j : ℕ). pairs_in (take i (drop (3 * j) work))) k es)
      (ap₂ (λ (i j : ℕ). take (2 * i) (drop j w)) (ap₂ ◌-◌ en ee) b))

  pub pairs-put : {part₁ part₂ ys zs : List ℕ} → part₁ ≡ take (2 * s) (mid_of base (length w - base) w) ++ drop (2 * s) part
      → ys ≡ pairs_in (stretch (mid_of (3 * s) (length work - 3 * s) work) 0 (3 * count))
      ++ drop (2 * count) (mid_of (2 * s) (length part₁ - 2 * s) part₁)
      → part₂ ≡ put_mid (2 * s) (length part₁ - 2 * s) part₁ ys
      → zs ≡ take (2 * (n0 - e)) (mid_of (base + 2 * e) (length w - (base + 2 * e)) w)
      ++ drop (2 * (n0 - e)) (mid_of (2 * (s + count)) (length part₂ - 2 * (s + count)) part₂)
      → length part₁ ≡ length part → length part₂ ≡ length part
      → put_mid (2 * (s + count)) (length part₂ - 2 * (s + count)) part₂ zs ≡ pairs_then w v added work ++ drop (2 * (n# w + added)) part
  pairs-put {part₁} {part₂} {ys} {zs} e1 e2 f e3 l1 l2 =
      let z : 3 * count - 0 ≡ 3 * count = omega arith in
      let one : part₁ ≡ A ++ drop (2 * s) part = e1 ∙ ap (λ (x : List ℕ). take (2 * s) x ++ drop (2 * s) part) (mid_all base w) in
      let new : pairs_in (stretch (mid_of (3 * s) (length work - 3 * s) work) 0 (3 * count)) ≡ P =
      ap₂ (λ (i : ℕ) (x : List ℕ). pairs_in (take i x)) z (mid_all (3 * s) work) in
      let two : part₂ ≡ (A ++ P) ++ drop (2 * s + 2 * count) part =
      f ∙ put_more A P part part₁ ys (2 * s) (2 * count) a-long (omega (arith, h.space, lies, es)) one
      (e2 ∙ ap (λ (x : List ℕ). x ++ drop (2 * count) (mid_of (2 * s) (length part₁ - 2 * s) part₁)) new) in
      let k : 2 * s + 2 * count ≡ 2 * (s + count) = omega arith in
      let last : 2 * (s + count) + 2 * (n0 - e) ≡ 2 * (n# w + added) = omega (arith, lies, es, ec, ee, en) in
      put_more (A ++ P) B part part₂ zs (2 * (s + count)) (2 * (n0 - e)) (length-append A P ∙ omega (arith, a-long, p-long))
      (omega (arith, h.space, lies, es, ec)) (two ∙ ap (λ (i : ℕ). (A ++ P) ++ drop i part) k)
      (e3 ∙ ap (λ (x : List ℕ). take (2 * (n0 - e)) x ++ drop (2 * (n0 - e)) (mid_of (2 * (s + count)) (length part₂ - 2 * (s + count)) part₂))
      (mid_all (base + 2 * e) w))
      ∙ ap₂ (λ (x : List ℕ) (i : ℕ). x ++ drop i part) (append_assoc A P B ∙ parts_are) last

  -- the last part fits
  pub tail-fits : (part₂ : List ℕ) → length part₂ ≡ length part
      → (2 * (n0 - e) ≤ length (mid_of (2 * (s + count)) (length part₂ - 2 * (s + count)) part₂))
      × (2 * (n0 - e) ≤ length (mid_of (base + 2 * e) (length w - (base + 2 * e)) w))
  tail-fits part₂ l = (
    omega (arith, mid_long (2 * (s + count)) part₂, l, h.space, lies, es, ec, ee, en),
    omega (arith, mid_long (base + 2 * e) w, S.whole.words, lies, eb, ee, en),
  )
