-- A search undone by its list, and made again: the next one finds how-bytes that are 0, and gives what it would have given alone. Assumes nothing.
use Prim.Native.Nat.{ℕ}
use Rattle.buffers.specs.Wiped.{wiped}
use Rattle.index_space.specs.Fits.{IndexFits}
use Rattle.nearest_search.proofs.HowBytes.{near_length}
use Rattle.nearest_search.specs.Found.{FoundAnswers, Settled}
use Rattle.nearest_steps.specs.Asked.{NearestAsked, NearestLent, away, gone, rows_in}
use Rattle.rows_listed.proofs.Wiped.{wiped-zero}
use Rattle.rows_listed.specs.Listed.{Blank, Listed}
use Rattle.tree.specs.Grove.{tree_of}
use Rattle.tree.specs.Nearest.{answers, measured, near_how}
use lib.ListN.{drop, take}
use lib.Seq.{take_at}
use mathlib.Core.List.{List, ◌++◌, map}
use mathlib.Core.Path.{◌∙◌, ◌≡◌, ap, ap₂, sym}

-- WHAT IS UNMARKED IS BLANK: the next search can be made
pub undone_blank : (n : ℕ) (how work : List ℕ) (met : ℕ) (how' : List ℕ) → Listed n how work met → how' ≡ wiped n how → Blank n how'
undone_blank n how work met how' L e = wiped-zero how how' n L.bytes e

-- ---- two searches for the same
module _ (a : NearestAsked) (b b' c c' : NearestLent) (given met given₁ met₁ : ℕ) (F : FoundAnswers a b b' given met)
    (G : FoundAnswers a c c' given₁ met₁) (x' : ℕ → ℕ) (I : IndexFits a.index (gone a) a.wanted (away a) x') where
  -- each is settled
  S : Settled x' (gone a) a.index a.wanted b b' given
  S = F.found x' I

  T : Settled x' (gone a) a.index a.wanted c c' given₁
  T = G.found x' I

  -- the how-bytes of the definition
  abbrev near : List ℕ
  near = near_how x' (gone a) (rows_in a) (tree_of a.index) a.wanted

  -- the rows measured are those of the definition
  count : (l l' : List ℕ) → l' ≡ near ++ drop (rows_in a) l → measured (take (rows_in a) l') ≡ measured near
  count l l' e =
      ap (λ (l : List ℕ). measured (take (rows_in a) l)) e
      ∙ ap measured (take_at near (drop (rows_in a) l) (rows_in a) (near_length x' (gone a) (rows_in a) (tree_of a.index) a.wanted))

  -- THEY GIVE THE SAME, on an index that fits: counts, rows and distances, whatever the how-bytes and the workspaces held and are left with
  pub found-same : b.rows ≡ c.rows → b.distances ≡ c.distances
      → (given ≡ given₁) × (met ≡ met₁) × (b'.rows ≡ c'.rows) × (b'.distances ≡ c'.distances)
  found-same er ed =
      let e : given ≡ given₁ = S.count ∙ sym T.count in (
        e,
        F.counted ∙ count b.how b'.how S.bytes ∙ sym (count c.how c'.how T.bytes) ∙ sym G.counted,
        S.rows
            ∙ ap₂ (λ (k : ℕ) (l : List ℕ). map (λ a. a.0) (answers x' (gone a) (rows_in a) a.wanted) ++ drop k l) e er
            ∙ sym T.rows,
        S.distances
            ∙ ap₂ (λ (k : ℕ) (l : List ℕ). map (λ a. a.1) (answers x' (gone a) (rows_in a) a.wanted) ++ drop k l) e ed
            ∙ sym T.distances,
      )
