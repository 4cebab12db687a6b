-- Word 0 of the list counts the rows that are in, where the list has room for them. Assumes nothing.
use Prim.Native.Nat.{◌*◌, ◌+◌, ◌<◌, ◌≤◌, ℕ}
use Rattle.laws.specs.Lists.{tally}
use Rattle.marking.specs.Listed.{entered, listed, room_for, told, unmeasured}
use borrow.Author.Tests.{lt-ltb}
use lib.Dec.{eqb, leb}
use lib.ListN.{get_or, length, length-set, set}
use lib.Seq.{get_or-set_same}
use mathlib.Core.Bool.{Bool, cond, false, true}
use mathlib.Core.List.{List, [], ◌∷◌}
use mathlib.Core.Path.{◌∙◌, ◌≡◌, refl}
use native.Mathlib.Omega.{arith}

-- one entry more
entered_count : (d i : ℕ) (l : List ℕ) → get_or l 0 0 < room_for l → (get_or (entered d i l) 0 0 ≡ get_or l 0 0 + 1) × (length (entered d i l) ≡ length l)
unfolding entered
entered_count d i l h =
    let k : ℕ = get_or l 0 0 in
    let a : List ℕ = set (set l (2 * k + 1) d) (2 * k + 2) i in
    let long : length a ≡ length l = length-set (set l (2 * k + 1) d) (2 * k + 2) i ∙ length-set l (2 * k + 1) d in
    rw (lt-ltb k (room_for l) h) (get_or-set_same a 0 (k + 1) 0 (omega arith), length-set a 0 (k + 1) ∙ long)

-- AS MANY AS ARE IN: with room for all of them word 0 has grown by their number, and the list is as long as it was
pub told_count : (x : ℕ → ℕ) (ms : List (ℕ × ℕ)) (l : List ℕ) → get_or l 0 0 + tally (λ m. leb 2 m.1) ms ≤ room_for l
    → (get_or (told x ms l) 0 0 ≡ get_or l 0 0 + tally (λ m. leb 2 m.1) ms) × (length (told x ms l) ≡ length l)
unfolding told listed
told_count x [] l h = (omega arith, refl)
told_count x (m ∷ ms) l h = go (leb 2 m.1) h (λ l h. told_count x ms l h)
  where
    go : (b : Bool) → get_or l 0 0 + (cond b 1 0 + tally (λ m. leb 2 m.1) ms) ≤ room_for l
        → ((l : List ℕ) → get_or l 0 0 + tally (λ m. leb 2 m.1) ms ≤ room_for l
        → (get_or (told x ms l) 0 0 ≡ get_or l 0 0 + tally (λ m. leb 2 m.1) ms) × (length (told x ms l) ≡ length l))
        → (get_or (told x ms (cond b (entered (cond (eqb m.1 3) (x m.0) unmeasured) m.0 l) l)) 0 0
        ≡ get_or l 0 0 + (cond b 1 0 + tally (λ m. leb 2 m.1) ms))
        × (length (told x ms (cond b (entered (cond (eqb m.1 3) (x m.0) unmeasured) m.0 l) l)) ≡ length l)
    go false h f = let q = f l (omega arith) in (omega (arith, q.0), q.1)
    go true h f =
        let e : List ℕ = entered (cond (eqb m.1 3) (x m.0) unmeasured) m.0 l in
        let p = entered_count (cond (eqb m.1 3) (x m.0) unmeasured) m.0 l (omega arith) in
        let q = f e (omega (arith, p.0, p.1)) in
        (omega (arith, p.0, q.0), q.1 ∙ p.1)
