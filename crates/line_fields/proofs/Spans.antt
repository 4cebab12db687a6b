-- Where fields stand. Assumes nothing.
use Prim.Native.Nat.{◌+◌, ◌-◌, ◌≤◌, ℕ}
use Rattle.asking.specs.Pieces.{place_from}
use Rattle.line_fields.specs.Fields.{span_from, span_of, stopping}
use mathlib.Core.Bool.{false, true}
use lib.ListN.{length}
use mathlib.Core.List.{List}
use mathlib.Core.Path.{◌∙◌, ◌≡◌, ap, subst}
use native.Mathlib.Numerals.{add-one}
use native.Mathlib.Omega.{arith}

module _ (l : List ℕ) where
  -- the first field
  pub span-first : (start end : ℕ) → start ≡ place_from (stopping false) l 0 → end ≡ place_from (stopping true) l start
      → (start ≡ (span_of l 0).0) × (end ≡ (span_of l 0).1)
  unfolding span_of span_from
  span-first start end s e = (s, e ∙ ap (place_from (stopping true) l) s)

  -- the next one
  pub span-next : (j at start end : ℕ) → at ≡ (span_of l j).1 → start ≡ place_from (stopping false) l at → end ≡ place_from (stopping true) l start
      → (start ≡ (span_of l (j + 1)).0) × (end ≡ (span_of l (j + 1)).1)
  unfolding span_of span_from
  span-next j at start end a s e = rw add-one (s ∙ ap (place_from (stopping false) l) a, e ∙ ap (place_from (stopping true) l) (s ∙ ap (place_from (stopping false) l) a))

-- of the fields the one before column `next` stands from `start` up to `end`
pub record Passing (l : List ℕ) (next start end : ℕ) : Type 0 where
  pub some : 1 ≤ next
  pub spot : (start ≡ (span_of l (next - 1)).0) × (end ≡ (span_of l (next - 1)).1)
  pub ordered : start ≤ end
  pub inside : end ≤ length l

module _ {l : List ℕ} where
  -- the first
  pub passing_start : {start end : ℕ} → start ≡ place_from (stopping false) l 0 → end ≡ place_from (stopping true) l start → start ≤ end → end ≤ length l
      → Passing l 1 start end
  passing_start s e o i = record { some = omega arith; spot = span-first l _ _ s e; ordered = o; inside = i }

  -- one more
  pub passing_next : {k at from start end : ℕ} → Passing l k from at → start ≡ place_from (stopping false) l at → end ≡ place_from (stopping true) l start
      → start ≤ end → end ≤ length l → Passing l (k + 1) start end
  passing_next {k} {start = start} {end} p s e o i =
      let j : k - 1 + 1 ≡ k + 1 - 1 = omega (arith, p.some) in
      record {
        some = omega arith;
        spot = subst (λ (x : ℕ). (start ≡ (span_of l x).0) × (end ≡ (span_of l x).1)) j (span-next l (k - 1) _ _ _ p.spot.1 s e);
        ordered = o;
        inside = i;
      }

  -- all before the column were passed
  pub passing_end : (column : ℕ) {k start end : ℕ} → Passing l k start end → k - 1 ≡ column - 1 → (start ≡ (span_of l (column - 1)).0) × (end ≡ (span_of l (column - 1)).1)
  passing_end column {start = start} {end} p e = subst (λ (x : ℕ). (start ≡ (span_of l x).0) × (end ≡ (span_of l x).1)) e p.spot
