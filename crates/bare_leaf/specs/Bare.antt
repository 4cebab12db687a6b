-- Where no set and no list is lent. A working notion, on which no promise rests. Assumes nothing.
use Rattle.std.specs.Prelude.{◌<◌, ℕ, Bool, true, ◌≡◌}

-- the test says that how-bytes are lent, and neither a set nor a list, of which these are the lengths
abbrev pub Bare : Bool → ℕ → ℕ → ℕ → Type 0
Bare b how withdrawn list = b ≡ true → (0 < how) × (withdrawn ≡ 0) × (list ≡ 0)
