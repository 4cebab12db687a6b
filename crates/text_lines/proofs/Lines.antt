-- Where lines stand. Assumes nothing.
use Prim.Native.Nat.{◌+◌, ◌-◌, ◌<◌, ◌≤◌, suc, zero, ℕ}
use Rattle.asking.specs.Pieces.{end_at}
use Rattle.laws.proofs.Parts.{store_more}
use Rattle.text_lines.specs.Lines.{body_end_lem, keeps, kept, line_start, line_starts, marked, next_line_lem}
use borrow.Author.Tests.{eq-eqb, le-leb, le-ltb, lt-leb, lt-ltb, ne_eqb}
use lib.Dec.{eqb, leb}
use lib.ListN.{drop, drop_of_length-le, get_or, length, length-append, length-set, set, take}
use lib.Pointwise.{pointwise}
use native.Mathlib.Decide.{ℕ_discrete}
use mathlib.Core.Bool.{Bool, ◌&&◌, and-false, and-true, false, true}
use mathlib.Core.List.{List, [], ◌++◌, ◌∷◌, append-nil}
use mathlib.Core.Path.{◌∙◌, ◌≡◌, ap, refl, sym}
use native.Mathlib.Numerals.{add-one}
use native.Mathlib.Omega.{arith}

-- ---- lines
-- equal either way round
eqb_turn : (a b : ℕ) → eqb a b ≡ eqb b a
eqb_turn a b = go (ℕ_discrete a b)
  where
    go : Dec (a ≡ b) → eqb a b ≡ eqb b a
    go (yes e) = eq-eqb a b e ∙ sym (eq-eqb b a (sym e))
    go (no n) = ne_eqb a b n ∙ sym (ne_eqb b a (λ e. n (sym e)))

module _ (t : List ℕ) where
  -- whether it begins with the mark
  pub start-told : pointwise eqb (239 ∷ 187 ∷ 191 ∷ []) (take 3 t) ≡ (leb 3 (length t) && marked t)
  unfolding marked
  start-told = go t
    where
      go : (t : List ℕ) → pointwise eqb (239 ∷ 187 ∷ 191 ∷ []) (take 3 t) ≡ (leb 3 (length t) && (eqb (get_or t 0 0) 239 && (eqb (get_or t 1 0) 187 && eqb (get_or t 2 0) 191)))
      go [] = refl
      go (x ∷ []) = and-false (eqb 239 x)
      go (x ∷ y ∷ []) = ap (λ (b : Bool). eqb 239 x && b) (and-false (eqb 187 y)) ∙ and-false (eqb 239 x)
      go (x ∷ y ∷ z ∷ r) =
          rw (le-leb 3 (length (x ∷ y ∷ z ∷ r)) (omega arith), eqb_turn 239 x, eqb_turn 187 y, eqb_turn 191 z)
          (ap (λ (b : Bool). eqb x 239 && (eqb y 187 && b)) (and-true (eqb z 191)))

  module _ (at : ℕ) (end : ℕ) (e : end ≡ end_at 10 t at) where
    -- an empty line
    pub body-none : end ≤ at → end ≡ body_end_lem t at
    unfolding body_end_lem
    body-none h = rw (← e, le-ltb at end h)

    -- before the carriage return
    pub body-return : at < end → get_or t (end - 1) 0 ≡ 13 → end - 1 ≡ body_end_lem t at
    unfolding body_end_lem
    body-return h r = rw (← e, lt-ltb at end h, eq-eqb (get_or t (end - 1) 0) 13 r)

    -- at the newline
    pub body-whole : at < end → (get_or t (end - 1) 0 ≡ 13 → ⊥) → end ≡ body_end_lem t at
    unfolding body_end_lem
    body-whole h r = rw (← e, lt-ltb at end h, ne_eqb (get_or t (end - 1) 0) 13 r)

    -- the next line, behind the newline
    pub next-behind : end < length t → end + 1 ≡ next_line_lem t at
    unfolding next_line_lem
    next-behind h = rw (← e, lt-ltb end (length t) h)

    -- there is none
    pub next-none : length t ≤ end → end ≡ next_line_lem t at
    unfolding next_line_lem
    next-none h = rw (← e, le-ltb end (length t) h)

-- ---- the places of lines
module _ (t : List ℕ) (from : ℕ) where
  -- there are n of them
  starts-long : (n : ℕ) → length (line_starts t from n) ≡ n
  unfolding line_starts
  starts-long zero = refl
  starts-long (suc n) = length-append (line_starts t from n) (line_start t from n ∷ []) ∙ rw (starts-long n) (omega arith)

  -- one more
  starts-next : (i : ℕ) → line_starts t from (i + 1) ≡ line_starts t from i ++ line_start t from i ∷ []
  unfolding line_starts
  starts-next i = rw add-one

  -- the first i stand in the room, and the next is known
  pub record Listing (room₀ room : List ℕ) (i at : ℕ) : Type 0 where
    pub content : room ≡ line_starts t from i ++ drop i room₀
    pub next : at ≡ line_start t from i
    pub inside : at ≤ length t
    pub long : length room ≡ length room₀

  module _ (room₀ : List ℕ) where
    -- none
    pub listing_start : from ≤ length t → Listing room₀ room₀ 0 from
    unfolding line_starts line_start
    listing_start h = record { content = refl; next = refl; inside = h; long = refl }

    -- one more
    pub listing-next : (room : List ℕ) (i at next : ℕ) → Listing room₀ room i at → i < length room₀ → next ≡ next_line_lem t at → next ≤ length t
        → Listing room₀ (set room i at) (i + 1) next
    unfolding line_starts line_start
    listing-next room i at next l h e b =
        record {
          content =
              store_more (line_starts t from i) room₀ room i at (starts-long i) h l.content
              ∙ ap (λ (x : ℕ). (line_starts t from i ++ x ∷ []) ++ drop (i + 1) room₀) l.next
              ∙ ap (λ (xs : List ℕ). xs ++ drop (i + 1) room₀) (sym (starts-next i));
          next = rw add-one (e ∙ ap (next_line_lem t) l.next);
          inside = b;
          long = rw (length-set room i at) l.long;
        }

    -- all that the room holds
    pub listing-all : (room : List ℕ) (i at : ℕ) → Listing room₀ room i at → i ≡ length room₀ → room ≡ line_starts t from (length room₀)
    listing-all room i at l e =
        l.content ∙ ap (λ (k : ℕ). line_starts t from k ++ drop k room₀) e
        ∙ ap (λ (xs : List ℕ). line_starts t from (length room₀) ++ xs) (drop_of_length-le room₀ (omega arith)) ∙ append-nil (line_starts t from (length room₀))

  module _ (room : List ℕ) (n : ℕ) where
    -- they are kept
    pub keeps-all : from ≤ length t → length t ≤ 4_294_967_295 → n ≤ length room
        → (true ≡ keeps t from (length room) n) × (kept t from room n ≡ line_starts t from n ++ drop n room)
    unfolding keeps kept
    keeps-all a b c = rw (le-leb from (length t) a, le-leb (length t) 4_294_967_295 b, le-leb n (length room) c) (refl, refl)

    -- the first is behind the text
    pub keeps-far : length t < from → (false ≡ keeps t from (length room) n) × (kept t from room n ≡ room)
    unfolding keeps kept
    keeps-far a = rw (lt-leb from (length t) a) (refl, refl)

    -- the text is too long
    pub keeps-long : from ≤ length t → 4_294_967_295 < length t → (false ≡ keeps t from (length room) n) × (kept t from room n ≡ room)
    unfolding keeps kept
    keeps-long a b = rw (le-leb from (length t) a, lt-leb (length t) 4_294_967_295 b) (refl, refl)

    -- the room is too short
    pub keeps-short : from ≤ length t → length t ≤ 4_294_967_295 → length room < n → (false ≡ keeps t from (length room) n) × (kept t from room n ≡ room)
    unfolding keeps kept
    keeps-short a b c = rw (le-leb from (length t) a, le-leb (length t) 4_294_967_295 b, lt-leb n (length room) c) (refl, refl)
