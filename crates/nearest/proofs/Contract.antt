-- What the code did is what the contract says: a refusal, and a search. Assumes nothing.
use Prim.Native.Nat.{◌<◌, ◌≤◌, min, ℕ}
use Rattle.index_space.proofs.Ranks.{all_pass}
use Rattle.index_space.specs.Fits.{IndexFits, home_bound}
use Rattle.laws.proofs.Lists.{tally_take}
use Rattle.laws.proofs.Maps.{map_same}
use Rattle.laws.proofs.Ranges.{at_every, range_length}
use Rattle.laws.specs.Lists.{has, look, range, tally, times}
use Rattle.measure.proofs.Metric.{query_point}
use Rattle.measure.proofs.OnCircle.{round_query}
use Rattle.measure.specs.Table.{Round, between, from, rows_of}
use Rattle.nearest_search.specs.Found.{FoundAnswers, FoundNearest, Searchable, Settled, SoundAnswers}
use Rattle.nearest_steps.specs.Asked.{NearestAsked, NearestLent, asks, away, due, gone, positions_left, rows_in}
use Rattle.nearest_refusals.proofs.Refusals.{not-refused, rooms}
use Rattle.nearest.specs.Calls.{Answered, Serves, said_of}
use Rattle.nearest_refusals.specs.Numbers.{nearest_asks}
use Rattle.refusals.proofs.Tested.{tested}
use Rattle.tree.proofs.Accepted.{each-once, shape_of}
use Rattle.tree.proofs.Answers.{candidates-length, near-at, passes-all, sort-length}
use Rattle.tree.proofs.Rows.{rows-tree}
use Rattle.tree.proofs.Theorems.{home_below, same_row}
use Rattle.tree.specs.Grove.{Grove, tree_of}
use Rattle.tree.specs.Homes.{homes}
use Rattle.tree.specs.Nearest.{answers, candidates, is_measured, near_how, passes, remaining, sort}
use Rattle.words.specs.Words.{circles#, n#, row#}
use borrow.Author.Tests.{eqb-false, eqb-true, not-false}
use lib.Dec.{T, eqb}
use lib.ListN.{drop, get_or, length, take}
use lib.Seq.{take_all}
use mathlib.Core.Bool.{Bool, cond, false, not, true}
use mathlib.Core.List.{List, ◌++◌, map}
use mathlib.Core.Logic.{◌≢◌}
use mathlib.Core.Path.{◌∙◌, ◌≡◌, ap, refl, subst, sym}
use native.Mathlib.Decide.{dec_lt}
use native.Mathlib.Omega.{arith}

-- no more pass than there are
tally_most : (f : ℕ → Bool) (l : List ℕ) → tally f l ≤ length l
tally_most f l = subst (λ (m : List ℕ). tally f m ≤ length l) (take_all (length l) l (omega arith)) (tally_take f (length l) l)

-- no more rows remain than there are
remaining-most : (gone : ℕ → Bool) (n : ℕ) → remaining gone n ≤ n
remaining-most gone n = omega (arith, tally_most (λ i. not (gone i)) (range 0 n), range_length 0 n)

-- ---- more wanted than there are rows is all of them
module _ (x : ℕ → ℕ) (gone : ℕ → Bool) (n wanted k : ℕ) (ek : k ≡ min wanted n) where
  -- no more remain than there are
  few : remaining gone n ≤ n
  few = remaining-most gone n

  -- as many are given where k are wanted
  same_count : (left : ℕ) → left ≤ n → min k left ≡ min wanted left
  same_count left h = omega arith

  -- and the answers are the same
  pub same-answers : answers x gone n k ≡ answers x gone n wanted
  unfolding answers
  same-answers = go (dec_lt n wanted)
    where
      all : List (ℕ × ℕ)
      all = sort (candidates x gone n)

      long : length all ≤ n
      long = omega (arith, sort-length (candidates x gone n), candidates-length x gone n, few)

      go : Dec (n < wanted) → take k all ≡ take wanted all
      go (yes h) = take_all k all (omega (arith, long)) ∙ sym (take_all wanted all (omega (arith, long)))
      go (no h) =
          let e : k ≡ wanted = omega arith in
          ap (λ (k : ℕ). take k all) e

  -- a bound that passes where k are wanted passes
  still-passes : (b : ℕ) → passes x gone n k b ≡ true → passes x gone n wanted b ≡ true
  still-passes b p = go (dec_lt n wanted)
    where
      go : Dec (n < wanted) → passes x gone n wanted b ≡ true
      go (yes h) = passes-all x gone n wanted b (omega (arith, few))
      go (no h) =
          let e : k ≡ wanted = omega arith in
          subst (λ (k : ℕ). passes x gone n k b ≡ true) e p

  -- and the how-bytes are the same, where no row is closer than its home bound
  same-near : (g : Grove) → ((i : ℕ) → i < n → look i (homes x g) ≤ x i) → near_how x gone n g k ≡ near_how x gone n g wanted
  unfolding near_how
  same-near g under =
      ap (λ (as' : List (ℕ × ℕ)). map (byte as' k) (range 0 n)) same-answers
      ∙ map_same (byte (answers x gone n wanted) k) (byte (answers x gone n wanted) wanted) (range 0 n)
      (at_every (λ i. byte (answers x gone n wanted) k i ≡ byte (answers x gone n wanted) wanted i) n
      (λ i h. ap (λ (b : Bool). cond {A = ℕ} (has i (map (λ a. a.0) (answers x gone n wanted))) 3 (cond b 1 0)) (one i h (dec_lt n wanted))))
    where
      -- the how-byte of row i, by the answers and the number wanted
      byte : List (ℕ × ℕ) → ℕ → ℕ → ℕ
      byte as' w i = cond (has i (map (λ a. a.0) as')) 3 (cond (passes x gone n w (look i (homes x g))) 1 0)

      one : (i : ℕ) → i < n → Dec (n < wanted) → passes x gone n k (look i (homes x g)) ≡ passes x gone n wanted (look i (homes x g))
      one i h (yes l) =
          let e : n ≡ k = omega arith in
          subst (λ (k : ℕ). passes x gone n k (look i (homes x g)) ≡ true) e (all_pass x gone n (look i (homes x g)) i h (under i h))
          ∙ sym (passes-all x gone n wanted (look i (homes x g)) (omega (arith, few)))
      one i h (no l) =
          let e : k ≡ wanted = omega arith in
          ap (λ (k : ℕ). passes x gone n k (look i (homes x g))) e

  -- answers that are sound for k are sound for as many as are wanted
  sound-wanted : {left : ℕ} {b' : NearestLent} {given : ℕ} → left ≤ n → SoundAnswers x gone n left k b' given
      → SoundAnswers x gone n left wanted b' given
  sound-wanted {left} h Z = record {
    count = Z.count ∙ same_count left h;
    own = Z.own;
    remain = Z.remain;
    order = Z.order;
    marks = Z.marks;
  }

-- ---- a table that serves is one that fits
-- the how-byte of a row whose home bound passes is 1 or 3
pub byte-measured : (x : ℕ → ℕ) (gone : ℕ → Bool) (n : ℕ) (g : Grove) (k i : ℕ) → i < n → passes x gone n k (look i (homes x g)) ≡ true
    → T (is_measured (get_or (near_how x gone n g k) i 0))
byte-measured x gone n g k i h p =
    subst (λ (v : ℕ). T (is_measured v)) (sym (near-at x gone n g k i h)) (go (has i (map (λ a. a.0) (answers x gone n k))))
  where
    go : (a : Bool) → T (is_measured (cond a 3 (cond (passes x gone n k (look i (homes x g))) 1 0)))
    go true = tt
    go false = rw p tt

module _ (a : NearestAsked) (t' : List ℕ) (k : ℕ) (ek : k ≡ due a) (A : Serves a t')
    (round : Round a.columns (circles# a.index) a.query) where
  -- how many rows there are
  abbrev n : ℕ
  n = rows_in a

  -- how far the query is from a row of the table that serves
  abbrev x' : ℕ → ℕ
  x' = from t' a.columns (circles# a.index) a.query

  -- no row of it is closer than its home bound
  below : (i : ℕ) → i < n → home_bound a.index x' i ≤ x' i
  below i h = home_below (between t' a.columns (circles# a.index)) a.index A.accepted x'
      (query_point t' a.columns (circles# a.index) a.query A.round round) i h

  -- the index fits its rows, with which the lent ones agree where it counts
  serves-fits : IndexFits a.index (gone a) k (away a) (from t' a.columns (circles# a.index) a.query)
  serves-fits = record {
    once = λ i h.
        ap (times i) (sym (rows-tree a.index (shape_of (between t' a.columns (circles# a.index)) a.index A.accepted)))
        ∙ each-once (between t' a.columns (circles# a.index)) a.index A.accepted i h;
    under = below;
    agree = λ r h p.
        same_row a.table t' a.columns (circles# a.index) a.query r
        (A.agree r h
        (byte-measured x' (gone a) n (tree_of a.index) a.wanted r h
        (still-passes x' (gone a) n a.wanted k ek (home_bound a.index x' r) p)));
  }

  -- answers and how-bytes that are settled for k are settled for as many as are wanted
  settled-wanted : (b b' : NearestLent) (given : ℕ) → Settled (from t' a.columns (circles# a.index) a.query) (gone a) a.index k b b' given
      → Settled (from t' a.columns (circles# a.index) a.query) (gone a) a.index a.wanted b b' given
  settled-wanted b b' given Z =
      let as₀ = same-answers x' (gone a) n a.wanted k ek in
      record {
        count = Z.count ∙ same_count x' (gone a) n a.wanted k ek (remaining (gone a) n) (remaining-most (gone a) n);
        rows = Z.rows ∙ ap (λ (as' : List (ℕ × ℕ)). map (λ a. a.0) as' ++ drop given b.rows) as₀;
        distances = Z.distances ∙ ap (λ (as' : List (ℕ × ℕ)). map (λ a. a.1) as' ++ drop given b.distances) as₀;
        bytes = Z.bytes ∙ ap (λ (l : List ℕ). l ++ drop n b.how) (same-near x' (gone a) n a.wanted k ek (tree_of a.index) below);
      }

-- ---- the call
-- no more positions hold a row that remains than there are
pub left_most : (a : NearestAsked) → positions_left a ≤ rows_in a
left_most a = omega (arith, tally_most (λ p. not (gone a (row# a.index p))) (range 0 (rows_in a)), range_length 0 (rows_in a))

-- what is asked where only k are wanted
abbrev pub but_for : NearestAsked → ℕ → NearestAsked
but_for a k = asks a.table a.columns a.index a.query k a.withdrawn

-- where nothing is refused, the index is tested, and what is lent fits it
pub fits : (a : NearestAsked) (room : ℕ) (b : NearestLent) → (room ≤ length b.rows) × (room ≤ length b.distances) → (k : ℕ) → k ≡ due a
    → said_of a room b ≡ 0 → Searchable (but_for a k) b
fits a room b fit k ek z =
    let t = a.table in
    let c = a.columns in
    let q = a.query in
    let C = not-refused t c a.index q a.wanted a.withdrawn room (length b.how) (length b.work) z in
    let same : rows_in a ≡ rows_of t c = C.rows in
    let h = rooms (rows_of t c) a.wanted room (length b.how) (length b.work) C.numbers.room in
    let some : a.wanted ≢ 0 = eqb-false a.wanted 0 C.numbers.some in
    record {
      tested = tested t c (nearest_asks t c q a.wanted room (length b.how) (length b.work)) a.index q refl refl C;
      query = eqb-true (length q) c (not-false (eqb (length q) c) C.numbers.like);
      few = (omega arith, λ l. omega (arith, some));
      rows = omega (arith, h.0, fit.0);
      distances = omega (arith, h.0, fit.1);
      bytes = omega (arith, h.1);
      words = omega (arith, h.2);
    }

-- and the query stands on the circles of the index
pub query_round : (a : NearestAsked) (room : ℕ) (b : NearestLent) → said_of a room b ≡ 0 → Round a.columns (circles# a.index) a.query
query_round a room b z =
    let C = not-refused a.table a.columns a.index a.query a.wanted a.withdrawn room (length b.how) (length b.work) z in
    let like : length a.query ≡ a.columns =
    eqb-true (length a.query) a.columns (not-false (eqb (length a.query) a.columns) C.numbers.like) in
    round_query a.query a.columns (circles# a.index) like C.query

module _ (a : NearestAsked) (b : NearestLent) {number room : ℕ} (fit : (room ≤ length b.rows) × (room ≤ length b.distances))
    (said-is : number ≡ said_of a room b) where
  -- A REFUSAL MEETS THE CONTRACT
  pub refused_is : (number ≡ 0 → ⊥) → Answered a room b b number 0 0
  refused_is h = record {
    said = said-is;
    refused = λ k. (refl, refl, refl);
    cleared = λ z. absurd (h z);
    beyond = λ z. absurd (h z);
    sound = λ z. absurd (h z);
    counted = λ z. absurd (h z);
    found = λ z. absurd (h z);
  }

  -- where nothing is refused, what is lent is what the search asks
  pub core-asks : (n k : ℕ) → number ≡ 0 → n ≡ rows_in a → k ≡ min a.wanted n → Searchable (but_for a k) b
  core-asks n k z en ek = fits a room b fit k (ek ∙ ap (λ (n : ℕ). min a.wanted n) en) (sym said-is ∙ z)

  -- A SEARCH MEETS THE CONTRACT
  pub done-is : (n k given given₀ met met₀ : ℕ) (b' : NearestLent) → number ≡ 0 → n ≡ rows_in a → k ≡ min a.wanted n
      → FoundNearest (but_for a k) b b' given₀ met₀ → given ≡ given₀ → met ≡ met₀ → Answered a room b b' 0 given met
  done-is n k given given₀ met met₀ b' z en ek₀ D₀ eg em =
      let w = a.index in
      let ek : k ≡ due a = ek₀ ∙ ap (λ (n : ℕ). min a.wanted n) en in
      let D = subst (λ (g : ℕ). FoundAnswers (but_for a k) b b' g met₀) (sym eg) D₀.gave in
      record {
        said = sym z ∙ said-is;
        refused = λ f. absurd (f refl);
        cleared = λ e. D₀.cleared;
        beyond = λ e. D.beyond;
        sound = λ e. sound-wanted (away a) (gone a) (n# w) a.wanted k ek (left_most a) D.sound;
        counted = λ e. em ∙ D.counted;
        found = λ e t' A.
            let round = query_round a room b (sym said-is ∙ z) in
            settled-wanted a t' k ek A round b b' given
            (D.found (from t' a.columns (circles# a.index) a.query) (serves-fits a t' k ek A round));
      }

-- the same with the room said in another way
pub room_is : {a : NearestAsked} {room room' : ℕ} {b b' : NearestLent} {number given met : ℕ} → room ≡ room' → Answered a room b b' number given met
    → Answered a room' b b' number given met
room_is {a} {room} {room'} {b} {b'} {number} {given} {met} e s = subst (λ (r : ℕ). Answered a r b b' number given met) e s
