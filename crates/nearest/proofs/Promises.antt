-- What the contract of the nearest call says, in 01's words: it is exact on an accepted index, it measures the rows whose home bound is at most D,
-- it rests on the rows that it measures, and no second outcome fits. Assumes nothing.
use Prim.Native.Nat.{◌+◌, ◌<◌, ◌≤◌, suc, ℕ}
use Rattle.index_space.specs.Fits.{home_bound}
use Rattle.laws.proofs.Every.{every-both, every-keep, every_map, every_take, has_every}
use Rattle.laws.proofs.Lists.{tally_length, tally_take}
use Rattle.laws.proofs.Never.{never}
use Rattle.laws.proofs.Ranges.{at_every, range_length}
use Rattle.laws.proofs.Tests.{is_true, refute}
use Rattle.laws.specs.Every.{Every}
use Rattle.laws.specs.Lists.{has, keep, range, tally}
use Rattle.limits.specs.Limits.{max_rows}
use Rattle.limits.specs.declared.Asked.{Asked}
use Rattle.measure.proofs.Metric.{query_point}
use Rattle.measure.specs.Space.{Point}
use Rattle.measure.specs.Table.{Rounded, between, from, row, rows_of}
use Rattle.nearest_search.proofs.HowBytes.{near_length}
use Rattle.nearest_search.specs.Found.{Settled}
use Rattle.nearest_steps.specs.Asked.{NearestAsked, NearestLent, asks, away, gone, lends, rows_in}
use Rattle.nearest.proofs.Contract.{byte-measured, left_most, query_round}
use Rattle.nearest.proofs.Ranking.{answers-ranked, answers_remain}
use Rattle.nearest_refusals.proofs.Refusals.{not-refused, rooms}
use Rattle.nearest.specs.Calls.{Answered, Serves}
use Rattle.nearest_refusals.specs.Numbers.{nearest_asks}
use Rattle.nearest.specs.Ranked.{ahead}
use Rattle.refusals.proofs.Refusals.{Clear}
use Rattle.refusals.proofs.Tested.{clear-rounded}
use Rattle.tree.proofs.Answers.{answers_length, candidates-length, near-at, passes-all, passes-near}
use Rattle.tree.proofs.Sorted.{sort_every, sort_sorted, sorted_take, under_last}
use Rattle.tree.proofs.Theorems.{home_below}
use Rattle.tree.specs.Check.{Accepted}
use Rattle.tree.specs.Grove.{tree_of}
use Rattle.tree.specs.Nearest.{answers, candidates, is_measured, last_distance, measured, near_how, passes, remaining, sort}
use Rattle.words.specs.Words.{circles#}
use borrow.Author.Tests.{le-leb, le-ltb, leb-true}
use lib.Dec.{T, leb}
use lib.ListN.{get_or-append, drop, get_or, length, length-map, length-take, take}
use lib.Seq.{get_or-take, take_at}
use mathlib.Core.Bool.{Bool, ◌||◌, cond, false, not, true}
use mathlib.Core.List.{List, [], ◌++◌, ◌∷◌, map}
use mathlib.Core.Logic.{◌↔◌}
use mathlib.Core.Path.{◌∙◌, ◌≡◌, ap, ap₂, refl, subst, sym}
use native.Mathlib.Decide.{ℕ_discrete}
use native.Mathlib.Omega.{arith}

-- ---- answers and D
-- an answer's home bound is at most D
answer_near : (x hb : ℕ → ℕ) (gone : ℕ → Bool) (n wanted i : ℕ) → ((r : ℕ) → r < n → hb r ≤ x r)
    → has i (map (λ a. a.0) (answers x gone n wanted)) ≡ true
    → hb i ≤ last_distance (answers x gone n wanted)
unfolding answers
answer_near x hb gone n wanted i under e =
    let k : ℕ = wanted in
    let s : List (ℕ × ℕ) = sort (candidates x gone n) in
    has_every (λ i. hb i ≤ last_distance (take k s)) i (map (λ a. a.0) (take k s))
    (every_map (λ i. hb i ≤ last_distance (take k s)) (λ a. a.0) (take k s)
    (every-both (λ a. a.1 ≤ last_distance (take k s)) (λ a. hb a.0 ≤ a.1) (λ a. hb a.0 ≤ last_distance (take k s)) (λ a p q. omega arith)
    (take k s)
    (under_last (take k s) (sorted_take k s (sort_sorted (candidates x gone n))))
    (every_take (λ a. hb a.0 ≤ a.1) k s
    (sort_every (λ a. hb a.0 ≤ a.1) (candidates x gone n)
    (every_map (λ a. hb a.0 ≤ a.1) (λ i. (i, x i)) (keep (λ i. not (gone i)) (range 0 n))
    (every-keep (λ i. hb i ≤ x i) (λ i. not (gone i)) (range 0 n) (at_every (λ i. hb i ≤ x i) n under)))))))
    e

-- a bound that passes is at most D, where no more are wanted than remain
passes_only : (x : ℕ → ℕ) (gone : ℕ → Bool) (n wanted b : ℕ) → wanted ≤ remaining gone n → passes x gone n wanted b ≡ true
    → b ≤ last_distance (answers x gone n wanted)
unfolding passes
passes_only x gone n wanted b h e =
    leb-true b (last_distance (answers x gone n wanted))
    (sym (ap (λ (a : Bool). a || leb b (last_distance (answers x gone n wanted)))
    (le-ltb (length (candidates x gone n)) wanted (omega (arith, candidates-length x gone n)))) ∙ e)

-- ---- counts
-- a test that passes exactly where one number is at most another
test_is : (a : Bool) (m k : ℕ) → T a ↔ (m ≤ k) → a ≡ leb m k
test_is true m k e = sym (le-leb m k (e.0 tt))
test_is false m k e = go (leb m k) refl
  where
    go : (b : Bool) → leb m k ≡ b → false ≡ b
    go true q = absurd (e.1 (leb-true m k q))
    go false q = refl

-- how many of a list pass, by their places a, a + 1, ..
tally_rows : (f g : ℕ → Bool) (l : List ℕ) (a : ℕ) → ((i : ℕ) → i < length l → f (get_or l i 0) ≡ g (a + i)) → tally f l ≡ tally g (range a (length l))
tally_rows f g [] a h = refl
tally_rows f g (v ∷ l) a h =
    let first : a + 0 ≡ a = omega arith in
    let next : (i : ℕ) → a + suc i ≡ suc a + i = λ i. omega arith in
    ap₂ (λ (b : Bool) (k : ℕ). cond {A = ℕ} b 1 0 + k) (h 0 (omega arith) ∙ ap g first)
    (tally_rows f g l (suc a) (λ i p. h (suc i) (omega arith) ∙ ap g (next i)))

-- ---- a call that is not refused, where a table serves
module _ {asked : NearestAsked} {room : ℕ} {lent lent' : NearestLent} {number given met : ℕ} (s : Answered asked room lent lent' number given met)
    (done : number ≡ 0) where
  -- nothing refuses the call
  clear-is : Clear (nearest_asks asked.table asked.columns asked.query asked.wanted room (length lent.how) (length lent.work))
      asked.table
      asked.index asked.query
  clear-is =
      not-refused asked.table asked.columns asked.index asked.query asked.wanted asked.withdrawn room (length lent.how)
      (length lent.work) (sym s.said ∙ done)

  -- the table stands on the circles of the index
  rounded-is : Rounded asked.table asked.columns (circles# asked.index)
  rounded-is = clear-rounded asked.table asked.columns asks# asked.index asked.query refl refl clear-is
    where
      asks# : Asked
      asks# = nearest_asks asked.table asked.columns asked.query asked.wanted room (length lent.how) (length lent.work)

  -- and the query is a point of its space
  point-is : Point (between asked.table asked.columns (circles# asked.index)) (away asked)
  point-is =
      query_point asked.table asked.columns (circles# asked.index) asked.query rounded-is
      (query_round asked room lent (sym s.said ∙ done))

  -- the table has as many rows as the index
  rows_are : rows_of asked.table asked.columns ≡ rows_in asked
  rows_are = sym clear-is.rows

  module _ (x : ℕ → ℕ) (Z : Settled x (gone asked) asked.index asked.wanted lent lent' given) where
    -- as many are written as are given
    part_length : (f : ℕ × ℕ → ℕ) → length (map f (answers x (gone asked) (rows_in asked) asked.wanted)) ≡ given
    part_length f =
        length-map (answers x (gone asked) (rows_in asked) asked.wanted) f ∙ answers_length x (gone asked) (rows_in asked) asked.wanted
        ∙ sym Z.count

    -- the rows written are those of the answers
    first_rows : take given lent'.rows ≡ map (λ a. a.0) (answers x (gone asked) (rows_in asked) asked.wanted)
    first_rows =
        ap (take given) Z.rows
        ∙ take_at (map (λ a. a.0) (answers x (gone asked) (rows_in asked) asked.wanted)) (drop given lent.rows) given (part_length (λ a. a.0))

    -- and so are the distances
    first-distances : take given lent'.distances ≡ map (λ a. a.1) (answers x (gone asked) (rows_in asked) asked.wanted)
    first-distances =
        ap (take given) Z.distances
        ∙ take_at (map (λ a. a.1) (answers x (gone asked) (rows_in asked) asked.wanted)) (drop given lent.distances) given
        (part_length (λ a. a.1))

    -- the first n how-bytes are those of the definition
    first-bytes : take (rows_in asked) lent'.how ≡ near_how x (gone asked) (rows_in asked) (tree_of asked.index) asked.wanted
    first-bytes =
        ap (take (rows_in asked)) Z.bytes
        ∙ take_at (near_how x (gone asked) (rows_in asked) (tree_of asked.index) asked.wanted) (drop (rows_in asked) lent.how) (rows_in asked)
        (near_length x (gone asked) (rows_in asked) (tree_of asked.index) asked.wanted)

    -- the count is that of the definition's how-bytes 1 and 3
    pub count-is : met ≡ measured (near_how x (gone asked) (rows_in asked) (tree_of asked.index) asked.wanted)
    count-is = s.counted done ∙ ap measured first-bytes

    -- a row's how-byte is that of the definition
    byte_at : (i : ℕ) → i < rows_in asked → get_or lent'.how i 0 ≡ get_or
        (near_how x (gone asked) (rows_in asked) (tree_of asked.index) asked.wanted) i 0
    byte_at i h =
        ap (λ (l : List ℕ). get_or l i 0) Z.bytes
        ∙ get_or-append (near_how x (gone asked) (rows_in asked) (tree_of asked.index) asked.wanted) (drop (rows_in asked) lent.how) 0 i
        (subst (λ (n : ℕ). i < n) (sym (near_length x (gone asked) (rows_in asked) (tree_of asked.index) asked.wanted)) h)

-- ---- a call that is not refused, on any index in shape
-- what holds at each place holds of each
places_every : (P : ℕ → Type 0) (l : List ℕ) → ((j : ℕ) → j < length l → P (get_or l j 0)) → Every P l
places_every P [] h = tt
places_every P (r ∷ l) h = (h 0 (omega arith), places_every P l (λ j k. h (suc j) (omega arith)))

-- A WITHDRAWN ROW IS NO ANSWER, AND ITS HOW-BYTE IS 0 OR 1
pub withdrawn_never : {asked : NearestAsked} {room : ℕ} {lent lent' : NearestLent} {number given met : ℕ}
    → Answered asked room lent lent' number given met → number ≡ 0 → (i : ℕ) → i < rows_in asked → gone asked i ≡ true
    → (has i (take given lent'.rows) ≡ false) × (get_or lent'.how i 0 ≤ 1)
withdrawn_never {asked} {room} {lent} {lent'} {number} {given} {met} s done i h e =
    let Z = s.sound done in
    let rows : List ℕ = take given lent'.rows in
    let stay : Every (λ r. gone asked r ≡ false) rows =
    places_every (λ r. gone asked r ≡ false) rows
    (λ j l.
    let k : j < given = omega (arith, length-take given lent'.rows) in
    ap (gone asked) (get_or-take given lent'.rows j 0 k) ∙ Z.remain j k) in
    let none : has i rows ≡ true → ⊥ = λ t. never (sym (has_every (λ r. gone asked r ≡ false) i rows stay t) ∙ e) in (
      sym (refute (has i rows) (λ t. none (is_true (has i rows) t))),
      (Z.marks i h).1
          (λ three. none (is_true (has i rows) ((Z.marks i h).0.0 three))),
    )

-- ---- a call that is not refused, on an index that the full check accepts with its table
module _ {asked : NearestAsked} {room : ℕ} {lent lent' : NearestLent} {number given met : ℕ} (s : Answered asked room lent lent' number given met)
    (done : number ≡ 0) (A : Accepted (between asked.table asked.columns (circles# asked.index)) asked.index) where
  -- how far the query is from a row
  abbrev x : ℕ → ℕ
  x = away asked

  -- a row's home bound
  abbrev hb : ℕ → ℕ
  hb = home_bound asked.index (away asked)

  -- EXACT: THE ANSWERS ARE THE FIRST OF ALL ROWS THAT REMAIN BY DISTANCE, THEN ROW NUMBER, AS MANY AS ARE WANTED OR REMAIN, AND THE HOW-BYTES
  -- FOLLOW FROM HOME BOUNDS
  pub nearest-exact : Settled (away asked) (gone asked) asked.index asked.wanted lent lent' given
  nearest-exact = s.found done asked.table (record { rows = rows_are s done; round = rounded-is s done; accepted = A; agree = λ i h m. refl })

  -- MEASURED: A ROW'S HOW-BYTE IS 1 OR 3 EXACTLY IF ITS HOME BOUND IS AT MOST D
  pub nearest-measured : asked.wanted ≤ remaining (gone asked) (rows_in asked) → (i : ℕ) → i < rows_in asked
      → T (is_measured (get_or lent'.how i 0)) ↔ (home_bound asked.index (away asked) i ≤ last_distance
      (answers (away asked) (gone asked) (rows_in asked) asked.wanted))
  nearest-measured few i h =
      subst (λ (v : ℕ). T (is_measured v) ↔ (hb i ≤ last_distance (answers x (gone asked) (rows_in asked) asked.wanted)))
      (sym (byte_at s done x nearest-exact i h ∙ near-at x (gone asked) (rows_in asked) (tree_of asked.index) asked.wanted i h))
      (go (has i (map (λ a. a.0) (answers x (gone asked) (rows_in asked) asked.wanted)))
      (passes x (gone asked) (rows_in asked) asked.wanted (hb i)) refl refl)
    where
      go : (a b : Bool) → has i (map (λ a. a.0) (answers x (gone asked) (rows_in asked) asked.wanted)) ≡ a
          → passes x (gone asked) (rows_in asked) asked.wanted (hb i) ≡ b
          → T (is_measured (cond a 3 (cond b 1 0))) ↔ (hb i ≤ last_distance (answers x (gone asked) (rows_in asked) asked.wanted))
      go true b ea eb = (
        λ m. answer_near x hb (gone asked) (rows_in asked) asked.wanted i
            (λ r l. home_below (between asked.table asked.columns (circles# asked.index)) asked.index A x (point-is s done) r l) ea,
        λ m. tt,
      )
      go false true ea eb = (λ m. passes_only x (gone asked) (rows_in asked) asked.wanted (hb i) few eb, λ m. tt)
      go false false ea eb = (λ m. absurd m, λ m. subst T (sym (passes-near x (gone asked) (rows_in asked) asked.wanted (hb i) m) ∙ eb) tt)

  -- ALL ROWS IF FEWER REMAIN THAN ARE WANTED
  pub nearest-measured-all : remaining (gone asked) (rows_in asked) < asked.wanted → (i : ℕ) → i < rows_in asked
      → T (is_measured (get_or lent'.how i 0))
  nearest-measured-all more i h =
      subst (λ (v : ℕ). T (is_measured v)) (sym (byte_at s done x nearest-exact i h))
      (byte-measured x (gone asked) (rows_in asked) (tree_of asked.index) asked.wanted i h
      (passes-all x (gone asked) (rows_in asked) asked.wanted (hb i) more))

  -- IN HER WORDS: A ROW IS AMONG THE ANSWERS EXACTLY IF IT IS NOT WITHDRAWN AND FEWER THAN w OF THE ROWS THAT REMAIN COME BEFORE IT BY DISTANCE,
  -- THEN ROW NUMBER
  pub nearest-ranked : (i : ℕ) → i < rows_in asked
      → T (has i (take given lent'.rows)) ↔ ((gone asked i ≡ false) × (ahead (away asked) (gone asked) (rows_in asked) i < asked.wanted))
  nearest-ranked i h =
      subst (λ (l : List ℕ). T (has i l) ↔ ((gone asked i ≡ false) × (ahead x (gone asked) (rows_in asked) i < asked.wanted)))
      (sym (first_rows s done x nearest-exact)) (
        λ t.
            let stays = answers_remain x (gone asked) (rows_in asked) asked.wanted i
            (is_true (has i (map (λ a. a.0) (answers x (gone asked) (rows_in asked) asked.wanted))) t) in
            (stays, (answers-ranked x (gone asked) (rows_in asked) i h stays asked.wanted).0 t),
        λ p. (answers-ranked x (gone asked) (rows_in asked) i h p.0 asked.wanted).1 p.1,
      )

  -- the how-bytes of the definition, counted by a test that is theirs
  counted-by : (f : ℕ → Bool) → ((i : ℕ) → i < rows_in asked → is_measured (get_or lent'.how i 0) ≡ f i) → met ≡ tally f (range 0 (rows_in asked))
  counted-by f same =
      let Z = nearest-exact in
      let e = near_length x (gone asked) (rows_in asked) (tree_of asked.index) asked.wanted in
      let shift : (i : ℕ) → 0 + i ≡ i = λ i. omega arith in
      count-is s done x Z
      ∙ tally_rows is_measured f (near_how x (gone asked) (rows_in asked) (tree_of asked.index) asked.wanted) 0
      (λ i l. let h : i < rows_in asked = subst (λ (n : ℕ). i < n) e l in ap is_measured (sym (byte_at s done x Z i h)) ∙ same i h ∙ ap f (sym (shift i)))
      ∙ ap (λ (n : ℕ). tally f (range 0 n)) e

  -- THE COUNT IS THE NUMBER OF ROWS WHOSE HOME BOUND IS AT MOST D
  pub nearest-counted : asked.wanted ≤ remaining (gone asked) (rows_in asked)
      → met ≡ tally (λ i. leb (home_bound asked.index (away asked) i)
      (last_distance (answers (away asked) (gone asked) (rows_in asked) asked.wanted))) (range 0 (rows_in asked))
  nearest-counted few =
      counted-by (λ i. leb (hb i) (last_distance (answers x (gone asked) (rows_in asked) asked.wanted)))
      (λ i h. test_is (is_measured (get_or lent'.how i 0)) (hb i) (last_distance (answers x (gone asked) (rows_in asked) asked.wanted))
      (nearest-measured few i h))

  -- THE NUMBER OF ALL ROWS, IF FEWER REMAIN THAN ARE WANTED
  pub nearest-counted-all : remaining (gone asked) (rows_in asked) < asked.wanted → met ≡ rows_in asked
  nearest-counted-all more =
      counted-by (λ i. true) (λ i h. is_true (is_measured (get_or lent'.how i 0)) (nearest-measured-all more i h))
      ∙ tally_length (range 0 (rows_in asked)) ∙ range_length 0 (rows_in asked)

  -- TWO TABLES: WHERE A SECOND TABLE AGREES WITH THIS ONE IN EVERY ROW THAT WAS MEASURED, A SEARCH ON IT THAT IS NOT REFUSED GIVES THE SAME ANSWERS,
  -- HOW-BYTES AND COUNTS. The same rows are withdrawn in both; nothing else is asked of the second table, and its call may be lent other rooms
  pub nearest-two-tables : {t₂ : List ℕ} {lent₂ lent₂' : NearestLent} {room₂ number₂ given₂ met₂ : ℕ}
      → Answered (asks t₂ asked.columns asked.index asked.query asked.wanted asked.withdrawn) room₂ lent₂ lent₂' number₂ given₂ met₂
      → number₂ ≡ 0
      → ((i : ℕ) → i < rows_in asked → T (is_measured (get_or lent'.how i 0)) → row asked.table asked.columns i ≡ row t₂ asked.columns i)
      → (given ≡ given₂) × (met ≡ met₂) × (take given lent'.rows ≡ take given lent₂'.rows)
      × (take given lent'.distances ≡ take given lent₂'.distances) × (take (rows_in asked) lent'.how ≡ take (rows_in asked) lent₂'.how)
  nearest-two-tables {lent₂' = lent₂'} {given₂ = given₂} s₂ done₂ agree =
      let Z = nearest-exact in
      let Z₂ = s₂.found done₂ asked.table
      (record {
        rows = rows_are s done;
        round = rounded-is s done;
        accepted = A;
        agree = λ i h m. sym (agree i h (subst (λ (v : ℕ). T (is_measured v)) (sym (byte_at s done x Z i h)) m));
      }) in
      let one : given ≡ given₂ = Z.count ∙ sym Z₂.count in (
        one,
        count-is s done x Z ∙ sym (count-is s₂ done₂ x Z₂),
        first_rows s done x Z ∙ sym (first_rows s₂ done₂ x Z₂) ∙ ap (λ (k : ℕ). take k lent₂'.rows) (sym one),
        first-distances s done x Z ∙ sym (first-distances s₂ done₂ x Z₂) ∙ ap (λ (k : ℕ). take k lent₂'.distances) (sym one),
        first-bytes s done x Z ∙ sym (first-bytes s₂ done₂ x Z₂),
      )

-- ---- two outcomes of one call
-- what is lent is known by its parts
pub same_lent : (l m : NearestLent) → l.rows ≡ m.rows → l.distances ≡ m.distances → l.how ≡ m.how → l.work ≡ m.work → l ≡ m
same_lent l m e₁ e₂ e₃ e₄ =
    ap₂ (λ (r d : List ℕ). lends r d l.how l.work) e₁ e₂ ∙ ap₂ (λ (h k : List ℕ). lends m.rows m.distances h k) e₃ e₄

module _ {asked : NearestAsked} {room : ℕ} {lent lent₁ lent₂ : NearestLent} {number₁ given₁ met₁ number₂ given₂ met₂ : ℕ}
    (s₁ : Answered asked room lent lent₁ number₁ given₁ met₁) (s₂ : Answered asked room lent lent₂ number₂ given₂ met₂) where
  -- they have the same counts and buffers
  abbrev pub Same : Type 0
  Same = (given₁ ≡ given₂) × (met₁ ≡ met₂) × (lent₁ ≡ lent₂)

  -- they have the same number
  one_number : number₁ ≡ number₂
  one_number = s₁.said ∙ sym s₂.said

  -- WHAT IS SETTLED ON ANY INDEX: ALL OF A REFUSAL; ELSE THE NUMBER, THE WORKSPACE, WHAT LIES BEYOND, THE COUNT BY THE HOW-BYTES, AND HOW MANY
  -- ARE GIVEN
  pub nearest-open : (number₁ ≡ number₂) × ((number₁ ≡ 0 → ⊥) → Same)
      × (number₁ ≡ 0 → (lent₁.work ≡ lent₂.work) × (drop given₁ lent₁.rows ≡ drop given₁ lent₂.rows)
      × (drop given₁ lent₁.distances ≡ drop given₁ lent₂.distances) × (drop (rows_in asked) lent₁.how ≡ drop (rows_in asked) lent₂.how)
      × (take (rows_in asked) lent₁.how ≡ take (rows_in asked) lent₂.how → met₁ ≡ met₂) × (given₁ ≡ given₂))
  nearest-open = (
    one_number,
    λ k.
        let f = s₁.refused k in
        let g = s₂.refused (λ z. k (one_number ∙ z)) in
        (f.0 ∙ sym g.0, f.1 ∙ sym g.1, f.2 ∙ sym g.2),
    λ z.
        let y : number₂ ≡ 0 = sym one_number ∙ z in
        let one : given₁ ≡ given₂ = (s₁.sound z).count ∙ sym (s₂.sound y).count in
        let b = s₁.beyond z in
        let d = s₂.beyond y in (
          s₁.cleared z ∙ sym (s₂.cleared y),
          b.0 ∙ sym (subst (λ (k : ℕ). drop k lent₂.rows ≡ drop k lent.rows) (sym one) d.0),
          b.1 ∙ sym (subst (λ (k : ℕ). drop k lent₂.distances ≡ drop k lent.distances) (sym one) d.1),
          b.2 ∙ sym d.2,
          λ e. s₁.counted z ∙ ap measured e ∙ sym (s₂.counted y),
          one,
        ),
  )

  -- NO SECOND OUTCOME FITS, where the call is refused or a table serves
  pub nearest-only : (t' : List ℕ) → (number₁ ≡ 0 → Serves asked t') → (number₁ ≡ number₂) × Same
  nearest-only t' serves = go (ℕ_discrete number₁ 0)
    where
      go : Dec (number₁ ≡ 0) → (number₁ ≡ number₂) × Same
      go (no k) = (one_number, nearest-open.1 k)
      go (yes z) =
          let y : number₂ ≡ 0 = sym one_number ∙ z in
          let Z₁ = s₁.found z t' (serves z) in
          let Z₂ = s₂.found y t' (serves z) in
          let e = Z₁.bytes ∙ sym Z₂.bytes in
          let one : given₁ ≡ given₂ = (nearest-open.2 z).5 in
          let beyond : (f : ℕ × ℕ → ℕ) (l : List ℕ) → ℕ → List ℕ =
          λ f l k. map f (answers (from t' asked.columns (circles# asked.index) asked.query) (gone asked) (rows_in asked)
          asked.wanted) ++ drop k l in (
            one_number,
            (
              one,
              (nearest-open.2 z).4 (ap (take (rows_in asked)) e),
              same_lent lent₁ lent₂ (Z₁.rows ∙ ap (beyond (λ a. a.0) lent.rows) one ∙ sym Z₂.rows)
                  (Z₁.distances ∙ ap (beyond (λ a. a.1) lent.distances) one ∙ sym Z₂.distances) e (nearest-open.2 z).0,
            ),
          )

-- THE COUNTS ARE NO MORE THAN THE ROWS, so that 32 bits hold them, and there are no more answers than there is room for
pub nearest_small : {asked : NearestAsked} {room : ℕ} {lent lent' : NearestLent} {number given met : ℕ} → Answered asked room lent lent' number given met
    → (given ≤ max_rows) × (met ≤ max_rows) × (given ≤ room)
nearest_small {asked} {room} {lent} {lent'} {number} {given} {met} s = go (ℕ_discrete number 0)
  where
    go : Dec (number ≡ 0) → (given ≤ max_rows) × (met ≤ max_rows) × (given ≤ room)
    go (no k) = (omega (arith, (s.refused k).0), omega (arith, (s.refused k).1), omega (arith, (s.refused k).0))
    go (yes z) =
        let C = not-refused asked.table asked.columns asked.index asked.query asked.wanted asked.withdrawn room
        (length lent.how) (length lent.work) (sym s.said ∙ z) in
        let h = rooms (rows_of asked.table asked.columns) asked.wanted room (length lent.how) (length lent.work) C.numbers.room in
        let n = C.numbers.table.rows in (
          omega (arith, (s.sound z).count, left_most asked, n, C.rows),
          omega (arith, s.counted z, tally_take is_measured (rows_in asked) lent'.how, n, C.rows),
          omega (arith, (s.sound z).count, left_most asked, h.0, C.rows),
        )
