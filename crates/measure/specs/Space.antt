-- What the theorems on an index ask of the distance, and nothing else: another distance is another instance. That no distance is
-- above 1,048,560 is no law here: only what writes an index needs it (`between-most`, proofs/Metric), and it asks for 16 bits. Assumes nothing.
use Rattle.std.specs.Prelude.{◌+◌, ◌≤◌, ℕ, ◌≡◌}

-- d is a distance between rows
pub record Space (d : ℕ → ℕ → ℕ) : Type 0 where
  pub self : (i : ℕ) → d i i ≡ 0
  pub swap : (i j : ℕ) → d i j ≡ d j i
  pub triangle : (i j k : ℕ) → d i k ≤ d i j + d j k

-- x is the distance of each row from one more point, the query
pub record Point (d : ℕ → ℕ → ℕ) (x : ℕ → ℕ) : Type 0 where
  pub up : (f i : ℕ) → x i ≤ x f + d f i
  pub down : (f i : ℕ) → x f ≤ x i + d f i
  pub across : (f i : ℕ) → d f i ≤ x f + x i
