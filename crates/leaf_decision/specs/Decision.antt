-- The leaf decision, and what is marked in an opened leaf by the words of the index. A working notion, on which no promise rests. Assumes nothing.
use Rattle.std.specs.Prelude.{◌+◌, ℕ, leb, ltb, cond, List, [], ◌∷◌}
use Rattle.laws.specs.Lists.{gap}
use Rattle.leaf_decision.specs.declared.Verdict.TheVariants.{In, Measure, Out}
use Rattle.leaf_decision.specs.declared.Verdict.{Verdict}
use Rattle.tree.specs.Radius.{by_distance}
use Rattle.words.specs.Words.{dist#, row#}

-- 01, Which rows are measured, Radius: a row of an opened leaf whose first is at x, by its stored distance s
unfoldable pub decision : ℕ → ℕ → ℕ → Verdict
decision x s r = cond (ltb r (gap x s)) Out (cond (leb (x + s) r) In Measure)

-- the how-byte of each case; v is the one that measuring gives
abbrev pub verdict_byte : ℕ → Verdict → ℕ
verdict_byte v In = 2
verdict_byte v Out = 0
verdict_byte v Measure = v

module _ (x : ℕ → ℕ) (r : ℕ) (w : List ℕ) where
  -- a position of an opened leaf whose first is at xf
  unfoldable pub leaf_mark : ℕ → ℕ → ℕ
  leaf_mark xf p = verdict_byte (by_distance x r (row# w p)) (decision xf (dist# w p) r)

  -- the same, with its row
  abbrev pub leaf_at : ℕ → ℕ → List (ℕ × ℕ)
  leaf_at xf p = (row# w p, leaf_mark xf p) ∷ []
