-- An old node's run when rows have come to the end of node v's: what each test of the code says of it. Assumes nothing.
use Prim.Native.Nat.{◌+◌, ◌<◌, ◌≤◌, ℕ}
use Rattle.moved_runs.specs.Runs.{end#, holds, new_child, new_count, new_start}
use Rattle.words.specs.Words.{child#, count#, start#}
use borrow.Author.Tests.{eq-eqb, le-leb, lt-leb, ne_eqb}
use lib.Dec.{leb}
use mathlib.Core.Bool.{Bool, false, true}
use mathlib.Core.List.{List}
use mathlib.Core.Path.{◌∙◌, ◌≡◌, refl, sym}
use native.Mathlib.Omega.{arith}

module _ (w : List ℕ) (v k : ℕ) where
  -- ---- whether node k's run holds node v's
  -- it starts behind
  pub holds_not : {a b : ℕ} → a ≡ start# w v → b ≡ start# w k → a < b → false ≡ holds w v k
  unfolding holds
  holds_not ea eb h = rw (lt-leb (start# w k) (start# w v) (omega arith)) refl

  -- it does not
  pub holds-is : {a b e f : ℕ} → a ≡ start# w v → b ≡ start# w k → b ≤ a → e ≡ end# w v → f ≡ end# w k → leb e f ≡ holds w v k
  unfolding holds
  holds-is ea eb h ee ef = rw (ee, ef, le-leb (start# w k) (start# w v) (omega arith)) refl

  module _ (added : ℕ) where
    -- ---- its start
    -- behind node v's run
    pub start-moved : {s e : ℕ} → s ≡ start# w k → e ≡ end# w v → e ≤ s → s + added ≡ new_start w v added k
    unfolding new_start
    start-moved es ee h = rw (es, le-leb (end# w v) (start# w k) (omega arith)) refl

    -- not
    pub start-stays : {s e : ℕ} → s ≡ start# w k → e ≡ end# w v → s < e → s ≡ new_start w v added k
    unfolding new_start
    start-stays es ee h = rw (es, lt-leb (end# w v) (start# w k) (omega arith)) refl

    -- ---- its count
    pub count-more : {x : ℕ} {b : Bool} → x ≡ count# w k → b ≡ holds w v k → b ≡ true → x + added ≡ new_count w v added k
    unfolding new_count
    count-more ex eb h = rw (ex, sym eb ∙ h) refl

    pub count-stays : {x : ℕ} {b : Bool} → x ≡ count# w k → b ≡ holds w v k → b ≡ false → x ≡ new_count w v added k
    unfolding new_count
    count-stays ex eb h = rw (ex, sym eb ∙ h) refl

  -- ---- its first child
  pub child-none : k ≡ v → 0 ≡ new_child w v k
  unfolding new_child
  child-none e = rw (eq-eqb k v e) refl

  pub child-old : {x : ℕ} → (k ≡ v → ⊥) → x ≡ child# w k → x ≡ new_child w v k
  unfolding new_child
  child-old h e = rw (ne_eqb k v h) e
