-- What the code did is what the contract says: a search. Assumes nothing.
use Prim.Native.Nat.{ℕ}
use Rattle.limits.specs.Said.{Said}
use Rattle.measure.specs.Table.{from}
use Rattle.radius.proofs.How.{written_is}
use Rattle.radius.specs.Calls.{Searched}
use Rattle.buffers.specs.Wiped.{wiped}
use Rattle.marking.specs.Written.{write}
use Rattle.radius_refusals.specs.Numbers.{said_radius}
use Rattle.rowset.specs.Sets.{is_in_lem}
use Rattle.tree.specs.Grove.{tree_of}
use Rattle.tree.specs.Nearest.{measured}
use Rattle.tree.specs.Radius.{inside, marks, veiled}
use Rattle.words.specs.InShape.{InShape}
use Rattle.words.specs.Words.{circles#, n#}
use lib.ListN.{length, take}
use mathlib.Core.List.{List}
use mathlib.Core.Path.{◌∙◌, ◌≡◌, ap, refl, sym}

-- a call that says nothing has the number 0
pub none_said : {s : Said} → (0, 0, 0) ≡ s → s.0 ≡ 0
none_said e = sym (ap (λ (s : Said). s.0) e)

module _ (T : List ℕ) (c : ℕ) (w q : List ℕ) (r : ℕ) (s h : List ℕ) {number : ℕ} (said-is : number ≡ (said_radius T c w q s (length h)).0) where
  -- a search that wrote the tree's marks, as far as they are shown, on cleared how-bytes, and counted them
  pub done-is : {k i m : ℕ} (h' : List ℕ) → number ≡ 0 → InShape w → k ≡ n# w
      → h' ≡ write (veiled (is_in_lem s) (marks (from T c (circles# w) q) r (tree_of w))) (wiped (n# w) h)
      → i ≡ inside (take k h') → m ≡ measured (take k h') → Searched T c w q r s h h' 0 i m
  done-is h' z S k d i m =
      record {
        said = sym z ∙ said-is;
        refused = λ f. absurd (f refl);
        written = λ e. d ∙ written_is (from T c (circles# w) q) r (is_in_lem s) w S h;
        counts = λ e. (i ∙ ap (λ n. inside (take n h')) k, m ∙ ap (λ n. measured (take n h')) k);
      }
