-- The pieces of a text that one byte parts: the items of a list, the words of the arguments. Assumes nothing.
use Rattle.std.specs.Prelude.{◌+◌, ◌-◌, ◌≤◌, min, suc, zero, ℕ, eqb, leb, drop, length, take, Bool, cond, false, true, List, [], ◌∷◌, Option, None, Some, ◌≡◌}
use Rattle.asking.specs.declared.pieces.Piece.{Piece}

-- how many bytes stand before the first that passes a test
unfoldable pub before : (ℕ → Bool) → List ℕ → ℕ
before f [] = 0
before f (x ∷ t) = cond (f x) 0 (suc (before f t))

-- where the first byte of t stands, from place `at` on, that passes a test; t's end where none does
unfoldable pub place_from : (ℕ → Bool) → List ℕ → ℕ → ℕ
place_from f t at = at + before f (drop at t)

-- the same for the byte b
abbrev pub end_at : ℕ → List ℕ → ℕ → ℕ
end_at b t at = place_from (λ (x : ℕ). eqb x b) t at

-- where piece i begins: behind the end of the piece before it
unfoldable pub begin_of : ℕ → List ℕ → ℕ → ℕ
begin_of b t zero = zero
begin_of b t (suc i) = suc (end_at b t (begin_of b t i))

-- the text has a piece i: it begins in the text, or right behind it
unfoldable pub has_piece : ℕ → List ℕ → ℕ → Bool
has_piece b t i = leb (begin_of b t i) (length t)

-- the bytes from `start` up to `end`
abbrev pub cut : List ℕ → ℕ → ℕ → List ℕ
cut t start end = take (end - start) (drop start t)

-- the bytes from `start` up to `end`, as far as the text has them
unfoldable pub part_of : List ℕ → ℕ → ℕ → List ℕ
part_of t start end = cut t (min start (min end (length t))) (min end (length t))

-- the bytes of piece i
unfoldable pub piece_of : ℕ → List ℕ → ℕ → List ℕ
piece_of b t i = cut t (begin_of b t i) (end_at b t (begin_of b t i))

-- p is piece i of the text
pub record Stands (b : ℕ) (t : List ℕ) (i : ℕ) (p : Piece) : Type 0 where
  pub has : has_piece b t i ≡ true
  pub starts : p.start ≡ begin_of b t i
  pub ends : p.end ≡ end_at b t p.start
  pub ordered : p.start ≤ p.end
  pub inside : p.end ≤ length t

-- piece i was looked for: there is none, or this is it
abbrev pub Found : (b : ℕ) (t : List ℕ) (i : ℕ) (found : Option Piece) → Type 0
Found b t i None = has_piece b t i ≡ false
Found b t i (Some p) = Stands b t i p
