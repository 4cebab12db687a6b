-- The words of the whole index: header, nodes, positions. Assumes nothing.
use Rattle.moved_runs.specs.Runs.{end#}
use Prim.Native.Nat.{◌*◌, ◌+◌, ◌-◌, ◌≤◌, ℕ}
use Rattle.filling.proofs.Framed.{framed}
use Rattle.filling.proofs.Positions.{pairs-laid, pairs_of}
use Rattle.growing.proofs.Rooms.{room-long}
use Rattle.filling.proofs.Whole.{encode-words}
use Rattle.header_words.specs.Header.{header_of}
use Rattle.growing.specs.Levels.{Able, leaves}
use Rattle.laws.proofs.Joins.{each_append, part-two}
use Rattle.laws.proofs.Ranges.{range_length}
use Rattle.laws.specs.Lists.{each, head, joined, range}
use Rattle.measure.specs.Table.{between}
use Rattle.refill.proofs.Positions.{held, regrown-entries}
use Rattle.refill.proofs.Wording.{held_words}
use Rattle.refill.specs.Calls.{Refilled, pairs_then}
use Rattle.regrow.proofs.Around.{own-start}
use Rattle.regrow.specs.Calls.{Regrowable, Regrown, regrown_of}
use Rattle.rounds.specs.Entries.{pairs_in}
use Rattle.split.proofs.Laid.{runs-long}
use Rattle.rounds.specs.Stretch.{stretch}
use Rattle.split.specs.Places.{node_at_lem}
use Rattle.split.specs.Runs.{laid}
use Rattle.tree.specs.Encode.{Node, encode, node_words, numbered, pair_words}
use Rattle.tree.specs.Grove.{Grove, entries}
use Rattle.words.specs.Words.{c#, circles#, count#, dist#, l#, m#, n#, row#, start#}
use borrow.Rule.Slice.PartMut.{mid_of, put_mid}
use lib.ListN.{drop, length, length-append, length-drop, length-map, take}
use lib.Seq.{length-take-le}
use mathlib.Core.List.{List, [], ◌++◌, ◌∷◌, map}
use mathlib.Core.Path.{◌∙◌, ◌≡◌, ap, ap₂, refl, sym}
use native.Mathlib.Omega.{arith}

-- a leaf's members are as many as its rows
members_long : (d : ℕ → ℕ → ℕ) (ls : List (List ℕ)) → length (each (pairs_of d) ls) ≡ length (joined ls)
members_long d [] = refl
members_long d (r ∷ ls) =
    let f : ℕ → ℕ × ℕ = λ i. (i, d (head r) i) in
    omega (
      arith,
      length-append (pairs_of d r) (each (pairs_of d) ls),
      length-append r (joined ls),
      length-map r f,
      members_long d ls,
    )

-- so many positions
held_long : (w : List ℕ) (a k : ℕ) → length (held w a k) ≡ k
held_long w a k = length-map (range a k) (λ p. (row# w p, dist# w p)) ∙ range_length a k

module _ {t w : List ℕ} {v added limit : ℕ} {room work room₁ work₁ : List ℕ} {made : ℕ} (g : Regrowable t w v added limit room work)
    (r : Regrown t w v added limit g.run room work room₁ work₁ made) (same : length work₁ ≡ length work) where
  -- how many rows
  abbrev n : ℕ
  n = n# w + added

  abbrev d : ℕ → ℕ → ℕ
  d = between t (c# w) (circles# w)

  -- the tree
  abbrev tree : Grove
  tree = regrown_of t w v added limit g.run

  -- the run's leaves
  abbrev ls : List (List ℕ)
  ls = leaves d (m# w) limit r.left g.run

  -- the run can be opened
  able : Able limit g.run
  able = (omega (arith, g.count, (g.change.shape.node v g.change.there).some), g.once)

  -- node v's run lies in the index
  lies : end# w v ≤ n# w
  lies = (g.change.shape.node v g.change.there).run

  -- the words before the run and behind it
  fore-long : length (take (3 * start# w v) work) ≡ 3 * start# w v
  fore-long = length-take-le (3 * start# w v) work (omega (arith, g.halves, lies))

  rear-long : length (stretch work (3 * start# w v + 3 * length g.run) (3 * n)) ≡ 3 * n - (3 * start# w v + 3 * length g.run)
  rear-long =
      length-take-le (3 * n - (3 * start# w v + 3 * length g.run)) (drop (3 * start# w v + 3 * length g.run) work)
      (omega (arith, length-drop (3 * start# w v + 3 * length g.run) work, g.halves, lies, g.count))

  -- the leaves' words
  mid_long : length (each (laid d) ls) ≡ 3 * length g.run
  mid_long =
      let X : List ℕ = take (3 * start# w v) work in
      let Y : List ℕ = each (laid d) ls in
      let Z : List ℕ = stretch work (3 * start# w v + 3 * length g.run) (3 * n) in
      omega (
        arith,
        ap length r.entries,
        length-take-le (3 * n) work₁ (omega (arith, same, g.halves)),
        length-append X (Y ++ Z),
        length-append Y Z,
        fore-long,
        rear-long,
        lies,
        g.count,
      )

  -- they stand where the run stood
  middle : stretch work₁ (3 * start# w v) (3 * start# w v + 3 * (count# w v + added)) ≡ each (laid d) ls
  middle =
      let k : 3 * start# w v + 3 * (count# w v + added) - 3 * start# w v ≡ 3 * length g.run = omega (arith, g.count) in
      ap (λ (i : ℕ). take i (drop (3 * start# w v) work₁)) k
      ∙ part-two work₁ (take (3 * start# w v) work) (each (laid d) ls) (stretch work (3 * start# w v + 3 * length g.run) (3 * n)) (3 * n)
      (3 * start# w v) (3 * length g.run) r.entries fore-long mid_long

  -- the tree's positions
  entries-are : entries tree ≡ held w 0 (start# w v) ++ (each (pairs_of d) ls ++ held w (end# w v) (n# w - end# w v))
  entries-are =
      let S = g.change.shape in
      let at = own-start t w v added limit g.run g.tree g.change.there S g.count able g.change.leafy in
      regrown-entries t w v added limit g.run g.tree g.change.there S g.count able g.change.leafy r.left
      (r.level ∙ ap (λ (i : ℕ). (r.left, (i, g.run)) ∷ []) (sym at))

  -- n of them
  entries-long : length (entries tree) ≡ n
  entries-long =
      omega (
        arith,
        ap length entries-are,
        length-append (held w 0 (start# w v)) (each (pairs_of d) ls ++ held w (end# w v) (n# w - end# w v)),
        length-append (each (pairs_of d) ls) (held w (end# w v) (n# w - end# w v)),
        held_long w 0 (start# w v),
        held_long w (end# w v) (n# w - end# w v),
        members_long d ls,
        runs-long d ls,
        mid_long,
        lies,
        g.count,
      )

  -- their words are those that are put together
  words_are : pairs_then w v added work₁ ≡ each pair_words (entries tree)
  unfolding pairs_then
  words_are =
      let W = g.change.shape.whole.words in
      let A : List (ℕ × ℕ) = held w 0 (start# w v) in
      let M : List (ℕ × ℕ) = each (pairs_of d) ls in
      let B : List (ℕ × ℕ) = held w (end# w v) (n# w - end# w v) in
      ap₂ (λ (x y : List ℕ). x ++ y) (sym (held_words w (start# w v) 0 (omega (arith, W, lies))))
      (ap₂ (λ (x y : List ℕ). x ++ y) (ap pairs_in middle ∙ pairs-laid d ls)
      (sym (held_words w (n# w - end# w v) (end# w v) (omega (arith, W, lies)))))
      ∙ sym (ap (each pair_words) entries-are ∙ each_append pair_words A (M ++ B)
      ∙ ap (λ (x : List ℕ). each pair_words A ++ x) (each_append pair_words M B))

  -- ---- the header before the nodes, the positions behind them
  -- the header's words
  abbrev header : List ℕ
  header = header_of n (c# w) (circles# w) (m# w) (l# w) made

  -- header, nodes and positions are the words of 01
  front-are : header ++ (each (node_words 2) (numbered tree) ++ each pair_words (entries tree)) ≡ encode 2 (c# w) (circles# w) (m# w) (l# w) tree
  unfolding encode
  front-are =
      ap₂ (λ (i k : ℕ). header_of i (c# w) (circles# w) (m# w) (l# w) k ++ (each (node_words 2) (numbered tree) ++ each pair_words (entries tree)))
      (sym entries-long) r.count

  -- THE WHOLE INDEX STANDS IN THE ROOM
  pub refilled : {n0 c o m l : ℕ} {room₂ ys : List ℕ} → n0 ≡ n → c ≡ c# w → o ≡ circles# w → m ≡ m# w → l ≡ l# w
      → room₂ ≡ header_of n0 c o m l made ++ drop 8 room₁
      → ys ≡ pairs_then w v added work₁ ++ drop (2 * (n# w + added)) (mid_of (node_at_lem made) (length room₂ - node_at_lem made) room₂)
      → Refilled t w v added limit g.run room work (put_mid (node_at_lem made) (length room₂ - node_at_lem made) room₂ ys) work₁ made
  refilled {n0} {c} {o} {m} {l} {room₂} {ys} en ec eo em el e f =
      let ns : List Node = numbered tree in
      let kept : length room₁ ≡ length room =
      ap length r.nodes ∙ room-long room (omega (arith, g.space)) ns (omega (arith, r.count, r.few, g.space)) in
      let long : length room₂ ≡ length room =
      ap length e ∙ omega (arith, length-append (header_of n0 c o m l made) (drop 8 room₁), length-drop 8 room₁, kept, g.space) in
      let head : header_of n0 c o m l made ≡ header = rw (en, ec, eo, em, el) refl in
      let whole : node_at_lem made + 2 * n ≡ length (encode 2 (c# w) (circles# w) (m# w) (l# w) tree) =
      omega (arith, encode-words (c# w) (circles# w) (m# w) (l# w) tree, entries-long, r.count) in
      record {
        index =
            framed room ns made r.nodes r.count header refl (each pair_words (entries tree)) (2 * n)
            (omega (arith, g.space, r.few)) long (e ∙ ap (λ (x : List ℕ). x ++ drop 8 room₁) head) refl
            (f ∙ ap (λ (x : List ℕ). x ++ drop (2 * n) (mid_of (node_at_lem made) (length room₂ - node_at_lem made) room₂)) words_are)
            ∙ ap₂ (λ (x : List ℕ) (k : ℕ). x ++ drop k room) front-are whole;
        count = r.count;
        few = r.few;
        words = sym whole;
        long = same;
      }
