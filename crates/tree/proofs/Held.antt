-- The positions from one on, by the pairs that they hold. Assumes nothing.
use Prim.Native.Nat.{◌+◌, suc, ℕ}
use Rattle.laws.proofs.Times.{lefts}
use Rattle.laws.specs.Every.{Every}
use Rattle.laws.specs.Lists.{each, range}
use Rattle.tree.proofs.Written.{at-behind}
use Rattle.tree.specs.Encode.{pair_words}
use Rattle.words.specs.Words.{at, dist#, pair_at, row#}
use lib.ListN.{length, length-append}
use mathlib.Core.List.{List, [], ◌++◌, ◌∷◌, append_assoc, map}
use mathlib.Core.Path.{◌∙◌, ◌≡◌, ap, ap₂, refl, sym}
use native.Mathlib.Nat.{add-suc, add-zero, suc-add}
use native.Mathlib.Omega.{arith}

-- the positions from s on hold these pairs
abbrev pub At : List ℕ → ℕ → List (ℕ × ℕ) → Type 0
At w s [] = Unit {0}
At w s (e ∷ es) = (row# w s ≡ e.0) × (dist# w s ≡ e.1) × At w (suc s) es

-- of two lists of pairs the first
pub at_left : (w : List ℕ) (s : ℕ) (es fs : List (ℕ × ℕ)) → At w s (es ++ fs) → At w s es
at_left w s [] fs h = tt
at_left w s (e ∷ es) fs h = (h.0, h.1, at_left w (suc s) es fs h.2)

-- and behind it the second
pub at_right : (w : List ℕ) (s : ℕ) (es fs : List (ℕ × ℕ)) → At w s (es ++ fs) → At w (s + length es) fs
at_right w s [] fs h = rw (add-zero s) h
at_right w s (e ∷ es) fs h = rw (add-suc s (length es), ← suc-add s (length es)) (at_right w (suc s) es fs h.2)

-- the rows at the positions are the pairs' rows
pub at_rows : (w : List ℕ) (s : ℕ) (es : List (ℕ × ℕ)) → At w s es → map (row# w) (range s (length es)) ≡ lefts es
at_rows w s [] h = refl
at_rows w s (e ∷ es) h = ap₂ (λ a b. a ∷ b) h.0 (at_rows w (suc s) es h.2)

-- where the pairs' distances are right, so are those stored
pub at_dists : (d : ℕ → ℕ) (w : List ℕ) (s : ℕ) (es : List (ℕ × ℕ)) → At w s es → Every (λ e. d e.0 ≡ e.1) es
    → Every (λ p. dist# w p ≡ d (row# w p)) (range s (length es))
at_dists d w s [] h k = tt
at_dists d w s (e ∷ es) h k = (h.1 ∙ sym k.0 ∙ ap d (sym h.0), at_dists d w (suc s) es h.2 k.1)

-- POSITION WORDS ARE READ BACK: behind the words `pre`, the pairs stand from position p on
pub read_at : (es : List (ℕ × ℕ)) (pre w : List ℕ) (p : ℕ) → pre ++ each pair_words es ≡ w → length pre ≡ pair_at w p → At w p es
read_at [] pre w p e l = tt
read_at (x ∷ es) pre w p e l =
    let ys : List ℕ = each pair_words (x ∷ es) in (
      ap (λ l. at l (pair_at w p)) (sym e) ∙ at-behind pre ys (pair_at w p) 0 (omega arith),
      ap (λ l. at l (pair_at w p + 1)) (sym e) ∙ at-behind pre ys (pair_at w p + 1) 1 (omega arith),
      read_at es (pre ++ pair_words x) w (suc p) (append_assoc pre (pair_words x) (each pair_words es) ∙ e)
          (omega (arith, length-append pre (pair_words x))),
    )
