-- One node is opened: what the two ways ask, and what they leave. Assumes nothing.
use Prim.Native.Nat.{◌+◌, ◌≤◌, ℕ}
use Rattle.copies.specs.Copies.{copied, with_copies}
use Rattle.growing.specs.Stages.{Openable, Opened}
use Rattle.measure.specs.Table.{between}
use Rattle.regrow.specs.Stages.{Openable', Opened'}
use Rattle.split.specs.Places.{child#, node_at_lem}
use Rattle.words.specs.Words.{nodes#, c#, circles#, m#, n#}
use lib.ListN.{length, length-set, set}
use mathlib.Core.List.{List}
use mathlib.Core.Path.{◌∙◌, ◌≡◌, ap, refl, sym}
use native.Mathlib.Omega.{arith}

module _ {t w : List ℕ} {v added limit : ℕ} {room work : List ℕ} {k made : ℕ} (asked : Openable' t w v added limit room work k made) {x m : ℕ}
    (child : x ≡ child# room k) (share : m ≡ m# w) where
  -- ---- it has no child
  module _ {c o r : ℕ} (none : x ≡ 0) (columns : c ≡ c# w) (circles : o ≡ circles# w) (rows : r ≡ n# w) where
    -- what the build asks
    pub splits-ready : Openable t c o m limit (r + added) room work k made
    splits-ready = rw (columns, circles, share, rows) (asked.splits (sym child ∙ none))

    -- what it leaves
    pub splits-done : {room' work' : List ℕ} {made' : ℕ} → Opened t c o m limit (r + added) room work k made room' work' made'
        → Opened' t w v added limit room work k made room' work' made'
    splits-done got = record { splits = λ h. rw (columns, circles, share, rows) at got; copies = λ h. absurd (h (sym child ∙ none)) }

  -- ---- it has one in the old index
  module _ (some : x ≡ 0 → ⊥) where
    -- the old nodes are there, and there is room for them
    pub copies-ready : (x + m# w ≤ nodes# w) × (made + m# w ≤ 2097152) × (node_at_lem (made + m# w) ≤ length (set room (node_at_lem k + 2) made))
    copies-ready =
        let h = asked.copies (λ e. some (child ∙ e)) in
        (omega (arith, h.0), omega (arith, h.2), omega (arith, h.1, length-set room (node_at_lem k + 2) made))

    -- they are copied
    pub copies-left : {room' : List ℕ}
        → room' ≡ with_copies (copied (between t (c# w) (circles# w)) w v added) x (m# w) (set room (node_at_lem k + 2) made) made
        → Opened' t w v added limit room work k made room' work (made + m)
    copies-left {room'} e =
        record {
          splits = λ h. absurd (some (child ∙ h));
          copies = λ h. (
            omega arith,
            refl,
            e ∙ ap (λ (o : ℕ). with_copies (copied (between t (c# w) (circles# w)) w v added) o (m# w) (set room (node_at_lem k + 2) made) made) child,
          );
        }
