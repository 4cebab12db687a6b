-- The last distance, as the code finds it. Assumes nothing.
use Prim.Native.Nat.{◌<◌, ◌≤◌, ℕ}
use Rattle.answers_held.specs.Answers.{distance_of, last_of}
use Rattle.index_space.specs.Items.{greatest_word}
use Rattle.queue.specs.Entry.{entry_at}
use borrow.Author.Tests.{le-ltb, lt-ltb}
use lib.Dec.{ltb}
use mathlib.Core.Bool.{Bool, cond, false, true}
use mathlib.Core.List.{List}
use mathlib.Core.Path.{◌∙◌, ◌≡◌, ap, sym}
use native.Mathlib.Omega.{arith}

-- where fewer than w are held it is the greatest number
pub last_room : (work : List ℕ) (b w k : ℕ) → k < w → greatest_word ≡ last_of work b w k
unfolding last_of
last_room work b w k h = sym (ap (λ (t : Bool). cond t greatest_word (distance_of (entry_at work b))) (lt-ltb k w h))

-- else it is that of the entry in front
pub last_full : (work : List ℕ) (b w k v d : ℕ) → w ≤ k → v ≡ entry_at work b → d ≡ distance_of v → d ≡ last_of work b w k
unfolding last_of
last_full work b w k v d h ev ed =
    ed ∙ ap distance_of ev ∙ sym (ap (λ (t : Bool). cond t greatest_word (distance_of (entry_at work b))) (le-ltb k w h))

-- it is a number of 32 bits
pub last_word : (work : List ℕ) (b w k : ℕ) → last_of work b w k ≤ greatest_word
unfolding last_of
last_word work b w k = go (ltb k w)
  where
    go : (t : Bool) → cond t greatest_word (distance_of (entry_at work b)) ≤ greatest_word
    go true = omega arith
    go false = omega arith
