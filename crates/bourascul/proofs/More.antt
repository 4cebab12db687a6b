-- 02, R-13: asking for more, as theorems on what two calls give on one accepted index, with one query, whatever each is lent. Assumes nothing.
use Prim.Native.Nat.{◌<◌, ◌≤◌, min, ℕ}
use Rattle.answers.specs.Records.{made}
use Rattle.answers.specs.declared.Answer.{Answer}
use Rattle.audit.specs.Calls.{Checks}
use Rattle.bourascul.proofs.Demands.{answers-exact, nearest-exact, radius-exact}
use Rattle.bourascul.proofs.Firsts.{measured-still, same_first}
use Rattle.bourascul.specs.Recorded.{Recorded}
use Rattle.measure.specs.Table.{from}
use Rattle.nearest.specs.Calls.{Answered}
use Rattle.nearest_search.proofs.HowBytes.{near_length}
use Rattle.nearest_search.specs.Found.{Settled}
use Rattle.nearest_steps.specs.Asked.{NearestLent, asks}
use Rattle.radius.proofs.Cases.{radius_call_cases}
use Rattle.radius.specs.Calls.{Searched}
use Rattle.rowset.specs.Sets.{is_in_lem}
use Rattle.tree.specs.Build.{build}
use Rattle.tree.specs.Cases.{five}
use Rattle.tree.specs.Grove.{tree_of}
use Rattle.tree.specs.Nearest.{is_measured, near_how}
use Rattle.words.specs.Words.{circles#, n#}
use lib.Dec.{T}
use lib.ListN.{get_or-append, drop, get_or, length, take}
use mathlib.Core.Bool.{Bool}
use mathlib.Core.List.{List, [], ◌∷◌}
use mathlib.Core.Path.{◌∙◌, ◌≡◌, ap, subst, sym}
use native.Mathlib.Omega.{arith}

-- the how-byte of row i is the definition's
byte-is : {x : ℕ → ℕ} {gone : ℕ → Bool} {w : List ℕ} {wanted : ℕ} {lent lent' : NearestLent} {given : ℕ} → Settled x gone w wanted lent lent' given
    → (i : ℕ) → i < n# w → get_or lent'.how i 0 ≡ get_or (near_how x gone (n# w) (tree_of w) wanted) i 0
byte-is {x} {gone} {w} {wanted} {lent} Z i h =
    let bytes : List ℕ = near_how x gone (n# w) (tree_of w) wanted in
    ap (λ (l : List ℕ). get_or l i 0) Z.bytes
    ∙ get_or-append bytes (drop (n# w) lent.how) 0 i (subst (λ (n : ℕ). i < n) (sym (near_length x gone (n# w) (tree_of w) wanted)) h)

-- an index of which a check gave 0
module _ {t : List ℕ} {c : ℕ} {w work₀ work₁ : List ℕ} {place second : ℕ} (ok : Checks t c w work₀ work₁ 0 place second) where
  -- two nearest searches: fewer are wanted, and more; either may be more than there are rows
  module _ {q set : List ℕ} {few many room room₂ : ℕ} {lent lent' lent₂ lent₂' : NearestLent}
      {given met given₂ met₂ : ℕ} (s : Answered (asks t c w q few set) room lent lent' 0 given met)
      (s₂ : Answered (asks t c w q many set) room₂ lent₂ lent₂' 0 given₂ met₂) (more : few ≤ many) where
    -- THE FIRST TEN OF TWENTY ARE THE TEN: no fewer are given, and the first rows and distances are the same
    pub first-of-more : (given ≤ given₂) × (take given lent₂'.rows ≡ take given lent'.rows) × (take given lent₂'.distances ≡ take given lent'.distances)
    first-of-more =
        let Z = nearest-exact ok s in
        let Z₂ = nearest-exact ok s₂ in (
          omega (arith, Z.count, Z₂.count),
          same_first (from t c (circles# w) q) (is_in_lem set) (n# w) (λ a. a.0) few many given (drop given lent.rows) (drop given₂ lent₂.rows) more Z.count Z.rows Z₂.rows,
          same_first (from t c (circles# w) q) (is_in_lem set) (n# w) (λ a. a.1) few many given (drop given lent.distances) (drop given₂ lent₂.distances) more Z.count Z.distances Z₂.distances,
        )

    -- EVERY ROW MEASURED FOR TEN IS MEASURED FOR TWENTY
    pub measured-more : (i : ℕ) → i < n# w → T (is_measured (get_or lent'.how i 0)) → T (is_measured (get_or lent₂'.how i 0))
    measured-more i h m =
        subst (λ (v : ℕ). T (is_measured v)) (sym (byte-is (nearest-exact ok s₂) i h))
        (measured-still (from t c (circles# w) q) (is_in_lem set) (n# w) (tree_of w) few many i more h
        (subst (λ (v : ℕ). T (is_measured v)) (byte-is (nearest-exact ok s) i h) m))

  -- the same with records
  module _ {q set : List ℕ} {few many : ℕ} {as₀ as₁ as₂ as₃ : List Answer}
      {lent lent' lent₂ lent₂' : NearestLent} {given met given₂ met₂ : ℕ}
      (s : Recorded (asks t c w q few set) as₀ as₁ lent lent' 0 given met)
      (s₂ : Recorded (asks t c w q many set) as₂ as₃ lent₂ lent₂' 0 given₂ met₂) (more : few ≤ many) where
    -- THE FIRST TEN RECORDS OF TWENTY ARE THE TEN
    pub records-of-more : (given ≤ given₂) × (take given as₃ ≡ take given as₁) × (take given lent₂'.rows ≡ take given lent'.rows) × (take given lent₂'.distances ≡ take given lent'.distances)
    records-of-more =
        let F = first-of-more s.plain s₂.plain more in
        let same = same_first (from t c (circles# w) q) (is_in_lem set) (n# w) (λ a. made a.0 a.1) few many given (drop given as₀) (drop given₂ as₂) more
        (nearest-exact ok s.plain).count (answers-exact ok s) (answers-exact ok s₂) in
        (F.0, same, F.1, F.2)

    -- EVERY ROW MEASURED FOR TEN IS MEASURED FOR TWENTY
    pub records-measured-more : (i : ℕ) → i < n# w → T (is_measured (get_or lent'.how i 0)) → T (is_measured (get_or lent₂'.how i 0))
    records-measured-more = measured-more s.plain s₂.plain more

  -- A LARGER r NEVER LOSES A ROW
  pub none-lost : {q : List ℕ} {r r₂ : ℕ} {set before after before₂ after₂ : List ℕ} {in# met in₂ met₂ : ℕ} → Searched t c w q r set before after 0 in# met
      → Searched t c w q r₂ set before₂ after₂ 0 in₂ met₂ → r ≤ r₂ → (i : ℕ) → i < n# w → 2 ≤ get_or after i 0 → 2 ≤ get_or after₂ i 0
  none-lost s s₂ wider i h m =
      let e = (radius-exact ok s i h).0 m in
      (radius-exact ok s₂ i h).1 (e.0, omega (arith, e.1))

-- IT MAY MEASURE FEWER: on the five-row table with its built index, every search with query 0 and r 19 that is lent how-bytes enough measures 3 rows,
-- and with r 20 measures 1
pub wider_measures_fewer : {before after before₂ after₂ : List ℕ} {number in# met number₂ in₂ met₂ : ℕ} → 5 ≤ length before → 5 ≤ length before₂
    → Searched five 1 (build five 1 0 2 2 2) (0 ∷ []) 19 (0 ∷ []) before after number in# met
    → Searched five 1 (build five 1 0 2 2 2) (0 ∷ []) 20 (0 ∷ []) before₂ after₂ number₂ in₂ met₂ → (number ≡ 0) × (met ≡ 3) × (number₂ ≡ 0) × (met₂ ≡ 1)
wider_measures_fewer {before} {after} {before₂} {after₂} {number} {in#} {met} {number₂} {in₂} {met₂} h h₂ s s₂ =
    let a = radius_call_cases.4 before after number in# met h s in
    let b = radius_call_cases.1 before₂ after₂ number₂ in₂ met₂ h₂ s₂ in
    (a.0, a.3, b.0, b.3)
