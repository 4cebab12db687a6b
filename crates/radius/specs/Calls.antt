-- What the radius call promises, for every input. Assumes nothing.
use Rattle.std.specs.Prelude.{ℕ, drop, length, replicate, take, List, ◌++◌, ◌≡◌, Result, Ok, Err}
use Rattle.limits.specs.declared.refusal.Refusal.{Refusal}
use Rattle.measure.specs.Table.{from}
use Rattle.marking.specs.Written.{write}
use Rattle.radius.specs.declared.Found.{Found}
use Rattle.radius_refusals.specs.Numbers.{said_radius}
use Rattle.rowset.specs.Sets.{is_in_lem}
use Rattle.tree.specs.Grove.{tree_of}
use Rattle.tree.specs.Nearest.{measured}
use Rattle.tree.specs.Radius.{inside, marks, veiled}
use Rattle.words.specs.Words.{circles#, n#}

-- how many rows are in, and how many were measured: none where the call is refused
abbrev pub inside_of : Result Found Refusal → ℕ
inside_of (Ok found) = found.inside
inside_of (Err r) = 0

abbrev pub measured_of : Result Found Refusal → ℕ
measured_of (Ok found) = found.measured
measured_of (Err r) = 0

-- the table T of c columns, the index w, the query q, r and the set s of the rows withdrawn; the how-bytes before and after; the call's number, and its
-- two counts
pub record Searched (T : List ℕ) (c : ℕ) (w q : List ℕ) (r : ℕ) (s before after : List ℕ) (number in# met : ℕ) : Type 0 where
  -- 01, Numbers given back: 0, or the lowest that applies
  pub said : number ≡ (said_radius T c w q s (length before)).0
  -- a refusal has zero counts and changes nothing
  pub refused : (number ≡ 0 → ⊥) → (in# ≡ 0) × (met ≡ 0) × (after ≡ before)
  -- on every index in shape the how-bytes are the marks of the descent of its tree, as far as they are shown, written one after the other over n
  -- zeros; those beyond n stay
  pub written : number ≡ 0 → after ≡ write (veiled (is_in_lem s) (marks (from T c (circles# w) q) r (tree_of w))) (replicate (n# w) 0) ++ drop (n# w) before
  -- the counts are those of the how-bytes that stand there afterwards
  pub counts : number ≡ 0 → (in# ≡ inside (take (n# w) after)) × (met ≡ measured (take (n# w) after))
