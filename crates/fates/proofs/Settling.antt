-- What is known of a node by the fate that it was told. Assumes nothing.
use Prim.Native.Nat.{◌+◌, ℕ}
use Rattle.fates.specs.Settling.{Settled, fate_of_lem}
use Rattle.fates.specs.declared.Fate.TheVariants.{Closed, Opened, Swept}
use Rattle.fates.specs.declared.Fate.{Fate}
use Rattle.marking.specs.Listed.{Leaves, span}
use Rattle.marking.specs.Marks.{swept_at}
use Rattle.words.specs.Words.{count#, start#}
use borrow.Author.Tests.{le-ltb}
use lib.Dec.{leb, ltb}
use mathlib.Core.Bool.{Bool, cond, false, true}
use mathlib.Core.List.{List}
use mathlib.Core.Path.{◌≡◌, refl, subst, sym}
use native.Mathlib.Omega.{arith}

-- the root has the bound 0 and is not closed: it is not swept, so it is opened
pub root_opened : (d R r : ℕ) (v : Fate) → v ≡ fate_of_lem d R 0 r → (v ≡ Swept → ⊥) → Opened ≡ fate_of_lem d R 0 r
unfolding fate_of_lem
root_opened d R r v e p = go (leb (d + R) r) e
  where
    go : (b : Bool) → v ≡ cond b Swept (cond (ltb r 0) Closed Opened) → Opened ≡ cond b Swept (cond (ltb r 0) Closed Opened)
    go true q = absurd (p q)
    go false q = rw (le-ltb r 0 (omega arith)) refl

-- a node that was swept
pub swept_did : (gone : ℕ → Bool) (w : List ℕ) (k : ℕ) {h h' l l' : List ℕ} (v : Fate) → v ≡ Swept
    → Leaves gone (λ (i : ℕ). 0) (span (swept_at w) (start# w k + 1) (start# w k + count# w k)) h h' l l' → Settled gone w k v h h' l l'
swept_did gone w k {h} {h'} {l} {l'} v e s = subst (λ (v : Fate). Settled gone w k v h h' l l') (sym e) s

-- a node that is to be opened: nothing was stored
pub still-opened : (gone : ℕ → Bool) (w : List ℕ) (k : ℕ) {h h' l l' : List ℕ} (v : Fate) → v ≡ Opened → Settled gone w k v h h' l l' → (h' ≡ h) × (l' ≡ l)
still-opened gone w k {h} {h'} {l} {l'} v e s = subst (λ (v : Fate). Settled gone w k v h h' l l') e s

-- a node that was swept was not opened
pub not-opened-swept : (v : Fate) → v ≡ Swept → v ≡ Opened → ⊥
not-opened-swept v e o = cc
