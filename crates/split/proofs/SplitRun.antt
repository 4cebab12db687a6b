-- A run's words through the rounds, the sharing out and the copy back. Assumes nothing.
use Prim.Native.Nat.{◌*◌, ◌+◌, ◌-◌, ◌<◌, ◌≤◌, ℕ}
use Rattle.laws.specs.Lists.{each, head}
use Rattle.measure.proofs.Metric.{row_self}
use Rattle.measure.proofs.Rows.{row_ends}
use Rattle.measure.specs.Table.{between}
use Rattle.rounds.proofs.Parts.{stretch_front}
use Rattle.rounds.specs.Entries.{Entries, InTable, rounds_of}
use Rattle.rounds.specs.Stretch.{stretch}
use Rattle.split.proofs.Among.{among, among-all, among-is, among-long, among-words-long, other}
use Rattle.split.proofs.Held.{chosen-words, chosen_words}
use Rattle.split.proofs.Laid.{laid-long, under_entries}
use Rattle.split.proofs.SplitWords.{group-nodes, group-words}
use Rattle.split.specs.Places.{node_at_lem}
use Rattle.split.specs.Runs.{SplitAmong, Splittable, Splitted, laid, run_at, run_nodes, split_among}
use Rattle.split.specs.Shares.{Sharable, Shared, group_nodes, group_words}
use Rattle.tree.specs.Build.{split}
use borrow.Rule.Slice.PartMut.{mid_len, mid_of, Post-is, put_mid}
use lib.ListN.{drop, length, length-append, length-drop, take}
use lib.Seq.{drop_at, length-take-le, take-append-add, take-append-le, take_at, take-take}
use mathlib.Core.List.{List, ◌++◌, append_assoc}
use mathlib.Core.Path.{◌∙◌, ◌≡◌, ap, ap₂, subst, sym}
use native.Mathlib.Omega.{arith}

-- the words of the run of `count` positions from s on, as they are lent
abbrev pub run_part : List ℕ → ℕ → ℕ → List ℕ
run_part work s count = mid_of (3 * s) (3 * s + 3 * count - 3 * s) work

-- the workspace with other words in their place
abbrev pub with_part : List ℕ → ℕ → ℕ → List ℕ → List ℕ
with_part work s count ys = put_mid (3 * s) (3 * s + 3 * count - 3 * s) work ys

module _ {t : List ℕ} {c o m n : ℕ} {room work : List ℕ} {s count made : ℕ} (asked : Splittable t c o m n room work s count made)
    {early : ℕ} (some : m ≤ early) (within : early ≤ count) where
  -- how far two rows are apart
  abbrev d : ℕ → ℕ → ℕ
  d = between t c o

  -- the word where the run starts
  abbrev lo : ℕ
  lo = 3 * s

  -- and the one where it ends
  abbrev hi : ℕ
  hi = 3 * s + 3 * count

  -- its rows
  abbrev run : List ℕ
  run = run_at work s count

  -- ---- before the rounds
  -- it ends in the workspace
  reached : hi ≤ length work
  reached = omega (arith, asked.inside, asked.halves)

  -- three words a row
  part_long : length (run_part work s count) ≡ 3 * count
  part_long = mid_len lo hi work reached ∙ omega arith

  -- `count` rows
  run_long : length run ≡ count
  run_long = omega (arith, part_long, ap length asked.known, laid-long d run)

  -- the words before the run
  fore : length (take lo work) ≡ lo
  fore = length-take-le lo work (omega (arith, reached))

  -- a row below n is one of the table
  in_table : (i : ℕ) → i < n → InTable t c i
  in_table i h = omega (arith, row_ends c n i h, asked.table)

  -- there are `count` entries, all of rows of the table
  pub choose-ready : (length (run_part work s count) ≡ 3 * count) × Entries (InTable t c) (run_part work s count)
  choose-ready = (
    part_long,
    subst (Entries (InTable t c)) (sym asked.known)
        (under_entries (λ i. i < n) (InTable t c) in_table (d (head run)) (head run) run asked.rows),
  )

  -- ---- after the rounds
  module _ {ys : List ℕ} (long : length ys ≡ length (run_part work s count))
      (rounds : ys ≡ take 3 (run_part work s count) ++ rounds_of (between t c o) (m - 1) (3 * early - 3) (drop 3 (run_part work s count))) where
    -- the workspace then
    abbrev after : List ℕ
    after = with_part work s count ys

    -- the run has its centres at its front
    ys-are : ys ≡ chosen_words d m early run
    ys-are =
        rounds ∙ ap (λ (l : List ℕ). take 3 l ++ rounds_of d (m - 1) (3 * early - 3) (drop 3 l)) asked.known
        ∙ chosen-words d m early run asked.share some (omega (arith, run_long, within)) (row_self t c o (head run))

    -- three words a row still
    words_long : length (chosen_words d m early run) ≡ 3 * count
    words_long = ap length (sym ys-are) ∙ long ∙ part_long

    -- the workspace, cut before the run and behind it
    after-split : after ≡ take lo work ++ (ys ++ drop hi work)
    after-split = ap (λ (l : List ℕ). take lo work ++ (ys ++ l)) (Post-is lo hi work (omega arith))

    -- before the run it is as it was
    after-fore : take lo after ≡ take lo work
    after-fore = ap (take lo) after-split ∙ take_at (take lo work) (ys ++ drop hi work) lo fore

    -- the run has its words after the rounds
    after-here : drop lo after ≡ chosen_words d m early run ++ drop hi work
    after-here = ap (drop lo) after-split ∙ drop_at (take lo work) (ys ++ drop hi work) lo fore ∙ ap (λ (l : List ℕ). l ++ drop hi work) ys-are

    -- behind the run it is as it was
    after-back : drop hi after ≡ drop hi work
    after-back =
        ap (drop hi) (after-split ∙ sym (append_assoc (take lo work) ys (drop hi work)))
        ∙ drop_at (take lo work ++ ys) (drop hi work) hi
        (length-append (take lo work) ys ∙ omega (arith, fore, ap length ys-are, words_long))

    -- and as long as it was
    after-long : length after ≡ length work
    after-long =
        ap length after-split
        ∙ omega (
          arith,
          length-append (take lo work) (ys ++ drop hi work),
          length-append ys (drop hi work),
          fore,
          ap length ys-are,
          words_long,
          length-drop hi work,
          reached,
        )

    -- the groups are the children's runs
    groups-are : group_words after m s count ≡ each (laid d) (split_among d m early run)
    groups-are =
        group-words d (row_self t c o) after m s count (among d m early run) (other d m early run) (drop hi work) asked.share asked.centred
        (among-long d m early run asked.share some (omega (arith, run_long, within))) after-here words_long
        ∙ ap (each (laid d)) (sym (among-is d m early run))

    -- and their nodes those of the runs
    nodes_are : group_nodes after m s count ≡ run_nodes d s (split_among d m early run)
    nodes_are =
        group-nodes d (row_self t c o) after m s count (among d m early run) (other d m early run) (drop hi work) asked.share asked.centred
        (among-long d m early run asked.share some (omega (arith, run_long, within))) after-here words_long
        ∙ ap (run_nodes d s) (sym (among-is d m early run))

    -- and take as many words as the run
    groups-long : length (group_words after m s count) ≡ 3 * count
    groups-long =
        ap length groups-are
        ∙ among-words-long d m early run asked.share some (omega (arith, run_long, within)) (
          omega
              (arith, run_long, asked.share, asked.centred),
          asked.once,
        )
        ∙ ap (λ (k : ℕ). 3 * k) run_long

    -- they can be shared out
    pub share-ready : Sharable room (with_part work s count ys) n m s count made
    share-ready =
        record {
          few = asked.few;
          centred = asked.centred;
          inside = asked.inside;
          halves = omega (arith, after-long, asked.halves);
          tile = groups-long;
          nodes = asked.nodes;
        }

    -- ---- shared out to the second half, and copied back
    module _ {room' work₂ work₃ : List ℕ} (shared : Shared room (with_part work s count ys) n m s count made room' work₂)
        (copied : work₃ ≡ take (3 * s) work₂ ++ (stretch work₂ (3 * s + 3 * n) (3 * s + 3 * count + 3 * n) ++ drop (3 * s + 3 * count) work₂)) where
      -- where the groups go
      abbrev base : ℕ
      base = 3 * (n + s)

      -- their words
      abbrev G : List ℕ
      G = group_words after m s count

      -- there is room for them
      base-fits : base ≤ length after
      base-fits = omega (arith, after-long, asked.inside, asked.halves)

      -- what stands before the run is as it was
      second-fore : take lo work₂ ≡ take lo work
      second-fore =
          ap (take lo) shared.words
          ∙ take-append-le lo (take base after) (G ++ drop (base + 3 * count) after) (omega (arith, length-take-le base after base-fits))
          ∙ take-take lo base after (omega arith) ∙ after-fore

      -- the groups stand in the second half
      second-groups : stretch work₂ (3 * s + 3 * n) (3 * s + 3 * count + 3 * n) ≡ G
      second-groups =
          let at : 3 * s + 3 * n ≡ base = omega arith in
          let k : 3 * s + 3 * count + 3 * n - (3 * s + 3 * n) ≡ 3 * count = omega arith in
          ap₂ (λ (x y : ℕ). take x (drop y work₂)) k at
          ∙ ap (take (3 * count)) (ap (drop base) shared.words
          ∙ drop_at (take base after) (G ++ drop (base + 3 * count) after) base (length-take-le base after base-fits))
          ∙ take_at G (drop (base + 3 * count) after) (3 * count) groups-long

      -- what stands behind the run in the first half is as it was
      second_back : stretch work₂ hi (3 * n) ≡ stretch work hi (3 * n)
      second_back =
          stretch_front work₂ after (G ++ drop (base + 3 * count) after) hi (3 * n) base (omega arith) base-fits shared.words
          ∙ ap (take (3 * n - hi)) after-back

      -- the groups stand where the run stood
      third : work₃ ≡ (take lo work ++ G) ++ drop hi work₂
      third =
          copied ∙ ap₂ (λ (a b : List ℕ). a ++ (b ++ drop hi work₂)) second-fore second-groups ∙ sym (append_assoc (take lo work) G (drop hi work₂))

      -- the first half of the workspace then
      third-half : take (3 * n) work₃ ≡ take lo work ++ (G ++ stretch work hi (3 * n))
      third-half =
          let l : length (take lo work ++ G) ≡ hi = length-append (take lo work) G ∙ omega (arith, fore, groups-long) in
          let k : 3 * n ≡ length (take lo work ++ G) + (3 * n - hi) = omega (arith, asked.inside) in
          ap₂ take k third ∙ take-append-add (take lo work ++ G) (drop hi work₂) (3 * n - hi)
          ∙ append_assoc (take lo work) G (stretch work₂ hi (3 * n)) ∙ ap (λ (x : List ℕ). take lo work ++ (G ++ x)) second_back

      -- THE SPLIT OF ONE RUN
      pub split_done : SplitAmong t c o m early n room work s count made room' work₃
      split_done =
          record {
            words = third-half ∙ ap (λ (x : List ℕ). take lo work ++ (x ++ stretch work hi (3 * n))) groups-are;
            nodes = shared.nodes ∙ ap (λ (x : List ℕ). take (node_at_lem made) room ++ (x ++ drop (node_at_lem (made + m)) room)) nodes_are;
          }

-- WHERE ANY ROW MAY BECOME A CENTRE, THE RUNS ARE THOSE OF 01's SPLIT
pub split_all : {t : List ℕ} {c o m n : ℕ} {room work : List ℕ} {s count made : ℕ} → Splittable t c o m n room work s count made
    → {room' work' : List ℕ} → SplitAmong t c o m count n room work s count made room' work' → Splitted t c o m n room work s count made room' work'
split_all {t} {c} {o} {m} {n} {room} {work} {s} {count} {made} asked got =
    let run : List ℕ = run_at work s count in
    let same : split_among (between t c o) m count run ≡ split (between t c o) m run =
    among-all (between t c o) m count run (sym (run_long asked asked.centred (omega arith))) in
    record {
      words =
          got.words ∙ ap (λ (x : List (List ℕ)). take (3 * s) work ++ (each (laid (between t c o)) x ++ stretch work (3 * s + 3 * count)
          (3 * n))) same;
      nodes =
          got.nodes ∙ ap (λ (x : List (List ℕ)). take (node_at_lem made) room ++ (run_nodes (between t c o) s x ++ drop (node_at_lem (made + m)) room)) same;
    }
