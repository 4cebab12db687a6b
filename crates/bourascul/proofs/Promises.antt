-- What the contract of the call with records says, in 01's words: the records are exact on an accepted index, rest on the rows that are measured,
-- and no second outcome fits. Assumes nothing.
use Prim.Native.Nat.{◌<◌, min, ℕ}
use Rattle.answers.proofs.Records.{length-records, records-beyond, records-first, records_of}
use Rattle.answers.specs.Records.{made, records}
use Rattle.answers.specs.declared.Answer.{Answer}
use Rattle.bourascul.specs.Calls.{ReadsBlock}
use Rattle.bourascul.specs.Recorded.{Recorded}
use Rattle.card.proofs.Theorems.{read_only}
use Rattle.measure.specs.Table.{between, from, row}
use Rattle.nearest.proofs.Promises.{Same, nearest-exact, nearest-only, nearest-two-tables}
use Rattle.nearest.specs.Calls.{Serves}
use Rattle.nearest_search.specs.Found.{Settled}
use Rattle.nearest_steps.specs.Asked.{NearestAsked, NearestLent, asks, away, gone, rows_in}
use Rattle.tree.proofs.Answers.{answers_length}
use Rattle.tree.specs.Check.{Accepted}
use Rattle.tree.specs.Nearest.{answers, is_measured}
use Rattle.words.specs.Words.{circles#}
use lib.Dec.{T}
use lib.ListN.{drop, get_or, length, take}
use lib.Seq.{take_at}
use mathlib.Core.List.{List, ◌++◌, map}
use mathlib.Core.Path.{◌∙◌, ◌≡◌, ap, ap₂, refl, sym}
use native.Mathlib.Omega.{arith}

-- ---- one outcome
module _ {asked : NearestAsked} {as₀ as₁ : List Answer} {lent lent' : NearestLent} {number given met : ℕ}
    (s : Recorded asked as₀ as₁ lent lent' number given met) where
  -- A REFUSAL CHANGES NO RECORD
  pub refused-records : (number ≡ 0 → ⊥) → as₁ ≡ as₀
  refused-records k = s.recorded ∙ ap (λ (given : ℕ). records lent'.rows lent'.distances given ++ drop given as₀) (s.plain.refused k).0

  -- RECORDS BEYOND WHAT IS WRITTEN STAY
  pub records-stay : drop given as₁ ≡ drop given as₀
  records-stay = ap (drop given) s.recorded ∙ records-beyond lent'.rows lent'.distances as₀ given given (omega arith)

  -- the first of them are made of the numbers and distances that were handed out
  first-records : take given as₁ ≡ records (take given lent'.rows) (take given lent'.distances) given
  first-records =
      ap (take given) s.recorded ∙ take_at (records lent'.rows lent'.distances given) (drop given as₀) given (length-records lent'.rows lent'.distances given) ∙ records-first lent'.rows lent'.distances given

  -- the records are those of the rows and distances that the plain call settles
  settled-records : (x : ℕ → ℕ) → Settled x (gone asked) asked.index asked.wanted lent lent' given
      → as₁ ≡ map (λ a. made a.0 a.1) (answers x (gone asked) (rows_in asked) asked.wanted) ++ drop given as₀
  settled-records x Z =
      let A : List (ℕ × ℕ) = answers x (gone asked) (rows_in asked) asked.wanted in
      let long : given ≡ length A = Z.count ∙ sym (answers_length x (gone asked) (rows_in asked) asked.wanted) in
      s.recorded ∙ ap (λ (l : List Answer). l ++ drop given as₀)
      (records_of A lent'.rows lent'.distances (drop given lent.rows) (drop given lent.distances) given Z.rows Z.distances long)

  -- THE RECORDS ARE THE ANSWERS OF ANY TABLE THAT FITS THE INDEX AND WITH WHICH THE LENT ONE AGREES IN THE ROWS MEASURED
  pub answers-served : number ≡ 0 → (t' : List ℕ) → Serves asked t'
      → as₁ ≡ map (λ a. made a.0 a.1) (answers (from t' asked.columns (circles# asked.index) asked.query) (gone asked) (rows_in asked) asked.wanted) ++ drop given as₀
  answers-served z t' A = settled-records (from t' asked.columns (circles# asked.index) asked.query) (s.plain.found z t' A)

  module _ (done : number ≡ 0) (A : Accepted (between asked.table asked.columns (circles# asked.index)) asked.index) where
    -- EXACT: THE RECORDS ARE THE FIRST OF ALL ROWS BY DISTANCE, THEN ROW NUMBER, EACH WITH ITS DISTANCE, BEFORE WHAT STOOD BEYOND
    pub answers-exact : as₁ ≡ map (λ a. made a.0 a.1) (answers (away asked) (gone asked) (rows_in asked) asked.wanted) ++ drop given as₀
    answers-exact = settled-records (away asked) (nearest-exact s.plain done A)

-- ---- two outcomes, on two tables: the first accepted with the index, the second agreeing with it in every row that was measured
module _ {asked : NearestAsked} {t₂ : List ℕ} {as₀ as₁ bs₀ bs₁ : List Answer} {lent lent' lent₂ lent₂' : NearestLent} {number given met number₂ given₂ met₂ : ℕ}
    (s : Recorded asked as₀ as₁ lent lent' number given met)
    (s₂ : Recorded (asks t₂ asked.columns asked.index asked.query asked.wanted asked.withdrawn) bs₀ bs₁ lent₂ lent₂' number₂ given₂ met₂) where
  -- TWO TABLES: A SEARCH ON THE SECOND THAT IS NOT REFUSED GIVES THE SAME RECORDS
  pub answers-two-tables : number ≡ 0 → number₂ ≡ 0 → Accepted (between asked.table asked.columns (circles# asked.index)) asked.index
      → ((i : ℕ) → i < rows_in asked → T (is_measured (get_or lent'.how i 0)) → row asked.table asked.columns i ≡ row t₂ asked.columns i) → (given ≡ given₂) × (take given as₁ ≡ take given₂ bs₁)
  answers-two-tables z z₂ A agree =
      let E = nearest-two-tables s.plain z A s₂.plain z₂ agree in
      let r : take given lent'.rows ≡ take given₂ lent₂'.rows = E.2 ∙ ap (λ (k : ℕ). take k lent₂'.rows) E.0 in
      let d : take given lent'.distances ≡ take given₂ lent₂'.distances = E.3 ∙ ap (λ (k : ℕ). take k lent₂'.distances) E.0 in (
        E.0,
        first-records s ∙ ap₂ (λ (r d : List ℕ). records r d given) r d ∙ ap (records (take given₂ lent₂'.rows) (take given₂ lent₂'.distances)) E.0 ∙ sym (first-records s₂),
      )

-- ---- two outcomes of one call
module _ {asked : NearestAsked} {as₀ as₁ as₂ : List Answer} {lent lent₁ lent₂ : NearestLent} {number₁ given₁ met₁ number₂ given₂ met₂ : ℕ}
    (s₁ : Recorded asked as₀ as₁ lent lent₁ number₁ given₁ met₁)
    (s₂ : Recorded asked as₀ as₂ lent lent₂ number₂ given₂ met₂) where
  -- ON ANY INDEX THE RECORDS FOLLOW FROM THE NUMBERS AND DISTANCES HANDED OUT
  pub records-follow : given₁ ≡ given₂ → lent₁.rows ≡ lent₂.rows → lent₁.distances ≡ lent₂.distances → as₁ ≡ as₂
  records-follow g r d =
      s₁.recorded ∙ ap₂ (λ (r d : List ℕ). records r d given₁ ++ drop given₁ as₀) r d
      ∙ ap (λ (given : ℕ). records lent₂.rows lent₂.distances given ++ drop given as₀) g ∙ sym s₂.recorded

  -- NO SECOND OUTCOME FITS, where the call is refused or a table serves: everything lent is the same, the records too
  pub answers-only : (t' : List ℕ) → (number₁ ≡ 0 → Serves asked t') → (number₁ ≡ number₂) × Same s₁.plain s₂.plain × (as₁ ≡ as₂)
  answers-only t' serves =
      let E = nearest-only s₁.plain s₂.plain t' serves in
      (E.0, E.1, records-follow E.1.0 (ap (λ (l : NearestLent). l.rows) E.1.2) (ap (λ (l : NearestLent). l.distances) E.1.2))

-- ---- reading an image, with the number of a wrong block in 32 bits
-- NO SECOND OUTCOME FITS
pub read-block-only : {T : List ℕ} {c : ℕ} {i before a a' : List ℕ} {n n' p p' k k' : ℕ} → ReadsBlock T c i before a n p k → ReadsBlock T c i before a' n' p' k'
    → (n ≡ n') × (p ≡ p') × (k ≡ k') × (a ≡ a')
read-block-only x y =
    let e = read_only x.reads y.reads in
    (e.0, x.named ∙ ap (λ (b : ℕ). min b 4294967295) e.1 ∙ sym y.named, e.2, e.3)
