-- What becomes of a node, and what is left where it is settled at once. A working notion, on which no promise rests. Assumes nothing.
use Rattle.std.specs.Prelude.{◌+◌, ℕ, leb, ltb, Bool, cond, List, ◌≡◌}
use Rattle.fates.specs.declared.Fate.TheVariants.{Closed, Opened, Swept}
use Rattle.fates.specs.declared.Fate.{Fate}
use Rattle.marking.specs.Listed.{Leaves, span}
use Rattle.marking.specs.Marks.{swept_at}
use Rattle.words.specs.Words.{count#, start#}

-- 01, Which rows are measured, Radius: a node whose first is at x, with the radius R and the bound b, in this order: x + R ≤ r, it is swept;
-- bound > r, it is closed; else opened
unfoldable pub fate_of_lem : ℕ → ℕ → ℕ → ℕ → Fate
fate_of_lem x R b r = cond (leb (x + R) r) Swept (cond (ltb r b) Closed Opened)

-- what is left once the fate of node k is known, those rows being gone: of these cases only the swept one stores, and it lists no distance
abbrev pub Settled : (ℕ → Bool) → List ℕ → ℕ → Fate → List ℕ → List ℕ → List ℕ → List ℕ → Type 0
Settled gone w k Swept h h' l l' = Leaves gone (λ (i : ℕ). 0) (span (swept_at w) (start# w k + 1) (start# w k + count# w k)) h h' l l'
Settled gone w k Closed h h' l l' = (h' ≡ h) × (l' ≡ l)
Settled gone w k Opened h h' l l' = (h' ≡ h) × (l' ≡ l)
