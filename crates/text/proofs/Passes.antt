-- The two passes over a text, one turn at a time: what has been counted, and what has been put. Assumes nothing.
use Prim.Native.Nat.{◌+◌, ◌<◌, ◌≤◌, ℕ}
use Rattle.text_reading.specs.Reading.{behind, ended, ended_by, found, numbers, parting, stepped}
use Rattle.text_reading.specs.declared.Place.TheVariants.{Inside, Line, Lost, Start}
use Rattle.text_reading.specs.declared.Place.{Place}
use lib.ListN.{drop, drop_of_length-le, get_or, length, length-append, length-drop, take}
use lib.Seq.{drop_at, drop-cons, drop-drop, length-take-le, take_at}
use mathlib.Core.Bool.{Bool, cond, false, true}
use mathlib.Core.List.{List, [], ◌++◌, append_assoc, append-nil}
use mathlib.Core.Path.{◌∙◌, ◌≡◌, ap, refl, sym}
use native.Mathlib.Numerals.{add-one}
use native.Mathlib.Omega.{arith}

-- ---- one byte more, and the end
-- the byte at place i
abbrev pub byte : List ℕ → ℕ → ℕ
byte t i = get_or t i 0

module _ (p : Place) (t : List ℕ) (i : ℕ) where
  -- from place i on, the reader passes one byte and stands at the next
  pub behind-next : i < length t → behind p (drop i t) ≡ behind (stepped p (byte t i)) (drop (i + 1) t)
  unfolding behind
  behind-next h = rw (drop-cons t i 0 h, add-one)

  -- and finds what ends there before all that ends further on
  pub found-next : i < length t → found p (drop i t) ≡ ended_by p (byte t i) ++ found (stepped p (byte t i)) (drop (i + 1) t)
  unfolding found
  found-next h = rw (drop-cons t i 0 h, add-one)

  -- behind the last byte the reader stands still
  pub behind-end : length t ≤ i → behind p (drop i t) ≡ p
  unfolding behind
  behind-end h = rw (drop_of_length-le t h)

  -- and finds what a newline would end
  pub found-end : length t ≤ i → found p (drop i t) ≡ ended_by p 10
  unfolding found ended_by parting
  found-end h = rw (drop_of_length-le t h)

-- at most one number ends at a byte
pub ended_few : (p : Place) (b : ℕ) {e : ℕ} → e ≡ length (ended_by p b) → e ≤ 1
unfolding ended_by
ended_few p b q = rw q (go (parting b) p)
  where
    go : (q : Bool) (p : Place) → length (cond q (ended p) []) ≤ 1
    go true Start = omega arith
    go true Line = omega arith
    go true (Inside v) = omega arith
    go true Lost = omega arith
    go false p = omega arith

-- ---- counting: the numbers passed, and the reader's place
pub record Counted (t : List ℕ) (p : Place) (count i : ℕ) : Type 0 where
  pub bound : i ≤ length t
  pub few : count ≤ i
  pub place : behind p (drop i t) ≡ behind Start t
  pub total : count + length (found p (drop i t)) ≡ length (numbers t)

-- before the first byte
pub counted_start : (t : List ℕ) → Counted t Start 0 0
counted_start t = record { bound = omega arith; few = omega arith; place = refl; total = omega arith }

module _ (t : List ℕ) (p : Place) (count i : ℕ) (h : Counted t p count i) where
  -- one byte more
  pub counted_step : (p' : Place) (e : ℕ) → i < length t → p' ≡ stepped p (byte t i) → e ≡ length (ended_by p (byte t i))
      → Counted t p' (count + e) (i + 1)
  counted_step p' e l q r =
      record {
        bound = omega arith;
        few = omega (arith, ended_few p (byte t i) r);
        place = rw q (sym (behind-next p t i l) ∙ h.place);
        total = rw (q, r) (omega (arith, h.total, simp length-append at (ap length (found-next p t i l))));
      }

  -- with what ends at the end of the text, all are counted
  pub counted-done : (e : ℕ) → length t ≤ i → e ≡ length (ended_by p 10) → (count + e ≡ length (numbers t)) × (p ≡ behind Start t)
  counted-done e l q = (omega (arith, h.total, ap length (found-end p t i l)), sym (behind-end p t i l) ∙ h.place)

-- ---- putting: what stands in the room
-- e is put at `at`, and the rest of the room is as it was
module _ (room room' e : List ℕ) (at at' : ℕ) (h : at + length e ≤ length room) (q : at' ≡ at + length e)
    (w : room' ≡ take at room ++ e ++ drop at' room) where
  -- what now stands in front of at' is as long as that
  front : length (take at room ++ e) ≡ at'
  front = rw q (length-append (take at room) e ∙ ap (λ (k : ℕ). k + length e) (length-take-le at room (omega arith)))

  -- it is what stood before `at`, and e
  put-taken : take at' room' ≡ take at room ++ e
  put-taken = rw w (take_at (take at room ++ e) (drop at' room) at' front)

  -- behind it the room is as it was
  put-kept : drop at' room' ≡ drop at' room
  put-kept = rw w (drop_at (take at room ++ e) (drop at' room) at' front)

  -- and as long as it was
  put-long : length room' ≡ length room
  put-long = ap length w ∙ length-append (take at room ++ e) (drop at' room) ∙ omega (arith, front, length-drop at' room)

-- the numbers passed stand at the front, and nothing has changed behind them
pub record Filled (t room₀ room : List ℕ) (p : Place) (at i : ℕ) : Type 0 where
  pub bound : i ≤ length t
  pub fits : at ≤ length room
  pub said : take at room ++ found p (drop i t) ≡ numbers t
  pub kept : drop at room ≡ drop at room₀
  pub long : length room ≡ length room₀

-- before the first byte
pub filled_start : (t room : List ℕ) → Filled t room room Start 0 0
filled_start t room = record { bound = omega arith; fits = omega arith; said = refl; kept = refl; long = refl }

module _ (t room₀ room : List ℕ) (p : Place) (at i : ℕ) (h : Filled t room₀ room p at i) (room-for-all : length (numbers t) ≤ length room₀) where
  -- what is found next fits, with all that is found after it
  room_for : (e r : List ℕ) → found p (drop i t) ≡ e ++ r → at + length e ≤ length room
  room_for e r q =
      omega (
        arith,
        simp length-append at (ap length h.said),
        simp length-append at (ap length q),
        length-take-le at room h.fits,
        h.long,
      )

  -- so there is room for what ends at the next byte
  pub room_next : i < length t → at + length (ended_by p (byte t i)) ≤ length room
  room_next l = room_for (ended_by p (byte t i)) (found (stepped p (byte t i)) (drop (i + 1) t)) (found-next p t i l)

  -- and for what ends at the end of the text
  pub room-end : length t ≤ i → at + length (ended_by p 10) ≤ length room
  room-end l = room_for (ended_by p 10) [] (found-end p t i l ∙ sym (append-nil (ended_by p 10)))

  -- what e leaves behind it is as it was from the start
  kept-beyond : (e : List ℕ) (at' : ℕ) → at' ≡ at + length e → drop at' room ≡ drop at' room₀
  kept-beyond e at' q = rw (q, ← drop-drop (length e) at room, ← drop-drop (length e) at room₀, h.kept)

  -- one byte more
  pub filled-step : (p' : Place) (room' : List ℕ) (at' : ℕ) → i < length t → p' ≡ stepped p (byte t i) → at' ≡ at + length (ended_by p (byte t i))
      → room' ≡ take at room ++ ended_by p (byte t i) ++ drop at' room → Filled t room₀ room' p' at' (i + 1)
  filled-step p' room' at' l q r w =
      let e = ended_by p (byte t i) in
      let f = room_next l in
      record {
        bound = omega arith;
        fits = omega (arith, put-long room room' e at at' f r w);
        said = rw (put-taken room room' e at at' f r w, q, append_assoc, ← found-next p t i l) h.said;
        kept = put-kept room room' e at at' f r w ∙ kept-beyond e at' r;
        long = put-long room room' e at at' f r w ∙ h.long;
      }

  -- with what ends at the end of the text, all are put
  pub filled-done : (room' : List ℕ) (at' : ℕ) → length t ≤ i → at' ≡ at + length (ended_by p 10)
      → room' ≡ take at room ++ ended_by p 10 ++ drop at' room
      → (room' ≡ numbers t ++ drop (length (numbers t)) room₀) × (length room' ≡ length room₀)
  filled-done room' at' l r w =
      let e = ended_by p 10 in
      let f = room-end l in
      let all : take at room ++ e ≡ numbers t = ap (λ (x : List ℕ). take at room ++ x) (sym (found-end p t i l)) ∙ h.said in
      let n : at' ≡ length (numbers t) = sym (front room room' e at at' f r w) ∙ ap length all in
      (w ∙ rw (all, kept-beyond e at' r, n), put-long room room' e at at' f r w ∙ h.long)
