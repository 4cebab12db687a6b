-- The root: all rows in ascending order, in the workspace and as the first node. Assumes nothing.
use Prim.Native.Nat.{◌*◌, ◌+◌, ◌-◌, ◌<◌, ◌≤◌, max, suc, zero, ℕ}
use Rattle.growing.specs.Rooted.{Room, RootLaid, Rooted, entry_of0, root_item}
use Rattle.growing.specs.Levels.{leaf_node}
use Rattle.growing.specs.Stages.{Tiled}
use Rattle.laws.proofs.Lists.{map-append}
use Rattle.laws.proofs.Parts.{put_more}
use Rattle.laws.proofs.Ranges.{at_every, range_append, range_length}
use Rattle.laws.proofs.Times.{range-times}
use Rattle.laws.proofs.Upto.{most-next, most-none}
use Rattle.laws.specs.Lists.{each, greatest, lowest, range, rest}
use Rattle.laws.specs.Upto.{most_to}
use Rattle.measure.specs.Table.{between}
use Rattle.split.proofs.Laid.{laid-long}
use Rattle.split.specs.Runs.{laid}
use Rattle.tree.specs.Build.{Run, inner_reach, radius}
use Rattle.tree.specs.Encode.{node_words}
use borrow.Rule.Slice.PartMut.{mid_of, put_mid}
use lib.ListN.{drop, length, take, take-append-drop}
use lib.Seq.{length-take-le, take_at}
use mathlib.Core.List.{List, [], ◌++◌, ◌∷◌, append_assoc, append-nil, map}
use mathlib.Core.Path.{◌∙◌, ◌≡◌, ap, ap₂, refl, sym}
use native.Mathlib.Nat.{zero-add}
use native.Mathlib.Numerals.{add-one}
use native.Mathlib.Omega.{arith}

-- the root's run is not empty, and has no row twice
pub root_run : (n : ℕ) → 1 ≤ n → Run (range 0 n)
root_run n h = (omega (arith, range_length 0 n), λ i. range-times i 0 n)

-- ---- the radius is the greatest distance from row 0
-- one number more at the end
greatest-last : (xs : List ℕ) (x : ℕ) → greatest (xs ++ x ∷ []) ≡ max (greatest xs) x
greatest-last [] x = omega arith
greatest-last (y ∷ xs) x = omega (arith, greatest-last xs x)

-- of the numbers of a range, as a loop finds it
greatest-range : (f : ℕ → ℕ) (n : ℕ) → greatest (map f (range 0 n)) ≡ most_to f n
greatest-range f zero = sym (most-none f)
greatest-range f (suc n) =
    let up : suc n ≡ n + 1 = sym (add-one n) in
    ap (λ (k : ℕ). greatest (map f (range 0 k))) up ∙ ap (λ (x : List ℕ). greatest (map f x)) (range_append 0 n 1)
    ∙ ap greatest (map-append f (range 0 n) (range (0 + n) 1)) ∙ greatest-last (map f (range 0 n)) (f (0 + n))
    ∙ ap₂ max (greatest-range f n) (ap f (zero-add n)) ∙ sym (most-next f n) ∙ ap (most_to f) (sym up)

-- the root's first is row 0
root_radius : (d : ℕ → ℕ → ℕ) (n : ℕ) → 1 ≤ n → radius d (range 0 n) ≡ most_to (d 0) n
root_radius d zero h = absurd (omega arith)
root_radius d (suc n) h = greatest-range (d 0) (suc n)

-- and so it is for the inner reach
root_inner : (d : ℕ → ℕ → ℕ) (n : ℕ) → 1 ≤ n → inner_reach d (range 0 n) ≡ lowest (map (d 0) (rest (range 0 n)))
root_inner d zero h = absurd (omega arith)
root_inner d (suc n) h = refl

-- and the centre of all its entries
root_laid : (d : ℕ → ℕ → ℕ) (n : ℕ) → 1 ≤ n → laid d (range 0 n) ≡ each (entry_of0 d) (range 0 n)
root_laid d zero h = absurd (omega arith)
root_laid d (suc n) h = refl

module _ {t : List ℕ} {c m l n : ℕ} (o : ℕ) {room work : List ℕ} (asked : Room t c m l n room work) (some : 1 ≤ n) where
  -- how far two rows are apart
  abbrev d : ℕ → ℕ → ℕ
  d = between t c o

  -- the workspace is the root's run, and nothing else
  tiled : (work' : List ℕ) → length work' ≡ length work → work' ≡ each (entry_of0 (between t c o)) (range 0 n) ++ drop (3 * n) work
      → Tiled (between t c o) n work' (range 0 n ∷ [])
  tiled work' same e =
      let long : length (laid d (range 0 n)) ≡ 3 * n = laid-long d (range 0 n) ∙ ap (λ (k : ℕ). 3 * k) (range_length 0 n) in
      record {
        halves = omega (arith, asked.halves);
        words =
            ap (take (3 * n)) (e ∙ ap (λ (x : List ℕ). x ++ drop (3 * n) work) (sym (root_laid d n some)))
            ∙ take_at (laid d (range 0 n)) (drop (3 * n) work) (3 * n) long
            ∙ sym (append-nil (laid d (range 0 n)));
        runs = (root_run n some, tt);
        rows = (at_every (λ i. i < n) n (λ i h. h), tt);
        full = ap length (append-nil (range 0 n)) ∙ range_length 0 n;
      }

  -- THE ROOT STANDS
  pub root_stands : {r i : ℕ} {work' ys : List ℕ} → length work' ≡ length work → RootLaid (between t c o) n work work' r i
      → ys ≡ 0 ∷ n ∷ 0 ∷ r ∷ i ∷ drop 5 (mid_of 8 (length room - 8) room)
      → Rooted (between t c o) m l n room (put_mid 8 (length room - 8) room ys) work'
  root_stands {r} {i} {work'} {ys} same told put =
      let fits : 8 ≤ length room = omega (arith, asked.space) in
      let w : 0 ∷ n ∷ 0 ∷ r ∷ i ∷ [] ≡ node_words 2 (leaf_node d m l (root_item n)) =
      ap₂ (λ (x y : ℕ). 0 ∷ x ∷ 0 ∷ y ∷ i ∷ []) (sym (range_length 0 n)) (told.far ∙ sym (root_radius d n some))
      ∙ ap (λ (z : ℕ). 0 ∷ length (range 0 n) ∷ 0 ∷ radius d (range 0 n) ∷ z ∷ []) (told.near ∙ sym (root_inner d n some)) in
      record {
        nodes =
            put_more (take 8 room) (0 ∷ n ∷ 0 ∷ r ∷ i ∷ []) room room ys 8 5 (length-take-le 8 room fits) fits (sym (take-append-drop 8 room)) put
            ∙ append_assoc (take 8 room) (0 ∷ n ∷ 0 ∷ r ∷ i ∷ []) (drop 13 room) ∙ ap (λ (x : List ℕ). take 8 room ++ (x ++ drop 13 room)) w;
        space = omega (arith, asked.space);
        first = refl;
        last = refl;
        few = omega arith;
        tiled = tiled work' same told.words;
        wait = refl;
      }
