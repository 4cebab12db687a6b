-- A run of the search, where items are left out: it goes on and ends as if they waited, since w measured rows that remain are closer than the bound
-- of each.
-- Assumes nothing.
use Prim.Native.Nat.{◌+◌, ◌-◌, ◌<◌, ◌≤◌, ℕ}
use Rattle.best_first.proofs.Keeps.{closer_le}
use Rattle.best_first.specs.Search.{Ended, both, found, step}
use Rattle.index_space.specs.Items.{IndexItem, bound_of, live_of, measured_by, opened_by, space_of}
use Rattle.index_space.specs.Run.{RunSoFar, RunToEnd}
use Rattle.laws.proofs.Bags.{total-append, total-none}
use Rattle.laws.specs.Bags.{SameBag, total}
use Rattle.words.specs.Words.{n#}
use mathlib.Core.Bool.{Bool}
use mathlib.Core.List.{List, ◌++◌, ◌∷◌}
use mathlib.Core.Path.{◌≡◌}
use native.Mathlib.Omega.{arith}

module _ (w : List ℕ) (gone : ℕ → Bool) (wanted : ℕ) (x : ℕ → ℕ) where
  -- how many rows of m that remain are closer than a bound
  abbrev nearer : (ℕ → ℕ) → ℕ → ℕ
  nearer m b = found (space_of w gone) x m b

  -- how many fewer than w are closer than an item's bound
  abbrev lack : (ℕ → ℕ) → IndexItem → ℕ
  lack m j = wanted - nearer m (bound_of j)

  -- no fewer are closer than a greater bound, of more rows
  nearer-up : (m m' : ℕ → ℕ) (b b' : ℕ) → ((r : ℕ) → m r ≤ m' r) → b ≤ b' → nearer m b ≤ nearer m' b'
  nearer-up m m' b b' h l = closer_le (n# w) (both m (live_of gone)) (both m' (live_of gone)) x b b' (λ r. omega (arith, h r)) l

  module _ (q : List IndexItem) (m : ℕ → ℕ) (R : RunSoFar w gone wanted x q m) (item : IndexItem) (others : List IndexItem)
      (bag : SameBag q (item ∷ others))
      (least : total (λ (j : IndexItem). bound_of item - bound_of j) others ≡ 0) where
    -- an item is taken of all, those left out among them
    pub all-bag : SameBag (q ++ R.left) (item ∷ (others ++ R.left))
    all-bag f = omega (arith, total-append f q R.left, total-append f others R.left, bag f)

    -- ---- a round: some of what it opens waits with the others, and the rest is left out
    module _ (due : nearer m (bound_of item) < wanted) (q' out : List IndexItem) (m' : ℕ → ℕ)
        (queued : (f : IndexItem → ℕ) → total f q' + total f out ≡ total f (opened_by w x item) + total f others)
        (marked : (r : ℕ) → m' r ≡ m r + measured_by w item r) where
      -- none left out has a lower bound than the item
      least-left : total (λ (j : IndexItem). bound_of item - bound_of j) R.left ≡ 0
      least-left =
          total-none (λ (j : IndexItem). bound_of item - bound_of j) (lack m) R.left
          (λ j z p. omega (arith, due, nearer-up m m (bound_of j) (bound_of item) (λ r. omega arith) (omega arith))) R.beyond

      -- w measured rows are closer than the bound of each that was left out, still
      still-left : total (lack m') R.left ≡ 0
      still-left =
          total-none (lack m') (lack m) R.left
          (λ j z p. omega (arith, nearer-up m m' (bound_of j) (bound_of j) (λ r. omega (arith, marked r)) (omega arith))) R.beyond

      -- A ROUND GOES ON, where w measured rows are closer than the bound of each that is left out
      pub leaves : Ended (space_of w gone) wanted x out m' → RunSoFar w gone wanted x q' m'
      leaves e = record {
        left = out ++ R.left;
        run = record {
          start = R.run.start;
          begun = R.run.begun;
          reached = step R.run.reached
              (record {
                item = item;
                others = others ++ R.left;
                taken = all-bag;
                least = omega (arith, total-append (λ (j : IndexItem). bound_of item - bound_of j) others R.left, least, least-left);
                due = due;
                queued = λ f. waits f;
                marked = marked;
              });
        };
        beyond = omega (arith, total-append (lack m') out R.left, e, still-left);
      }
        where
          waits : (f : IndexItem → ℕ) → total f (q' ++ (out ++ R.left)) ≡ total f (opened_by w x item ++ (others ++ R.left))
          waits f =
              omega (
                arith,
                total-append f q' (out ++ R.left),
                total-append f out R.left,
                total-append f (opened_by w x item) (others ++ R.left),
                total-append f others R.left,
                queued f,
              )

    -- THE END: w measured rows are closer than the bound of the first that waits
    pub leaves-off : wanted ≤ nearer m (bound_of item) → RunToEnd w gone wanted x m
    leaves-off far = record {
      waiting = q ++ R.left;
      run = R.run;
      ended = omega (
        arith,
        total-append (lack m) q R.left,
        bag (lack m),
        far,
        total-none (lack m) (λ (j : IndexItem). bound_of item - bound_of j) others
            (λ j z p. omega (arith, far, nearer-up m m (bound_of item) (bound_of j) (λ r. omega arith) (omega arith))) least,
        R.beyond,
      );
    }
