-- A build with the numbers of a header is the header's. Assumes nothing.
use Prim.Native.Nat.{ℕ}
use Rattle.build.specs.Calls.{Builds}
use Rattle.words.specs.Words.{circles#, l#, m#}
use mathlib.Core.List.{List}
use mathlib.Core.Path.{◌≡◌}

-- what is built with m, l and the circles, read from the header, is what the header asks for
pub alike : (w : List ℕ) {T : List ℕ} {c : ℕ} {room work room' work' : List ℕ} {m l o number words nodes : ℕ} → m ≡ m# w → l ≡ l# w → o ≡ circles# w
    → Builds T c o 2 m l room work room' work' number words nodes
    → Builds T c (circles# w) 2 (m# w) (l# w) room work room' work' number words nodes
alike w p q r b = rw (p, q, r) at b
