-- The next node of a level is opened: it stays a leaf, its old children are copied, or its run is split. Assumes nothing.
use Prim.Native.Nat.{◌+◌, ◌<◌, ◌≤◌, ℕ}
use Rattle.growing.proofs.Items.{placed_long}
use Rattle.growing.proofs.Rooms.{run-nodes}
use Rattle.growing.proofs.Tiles.{joined_append}
use Rattle.growing.proofs.Waiting.{Next, next-waiting, small-opened}
use Rattle.growing.specs.Levels.{Item, opened, placed, waits}
use Rattle.growing.specs.Stages.{Opened, Openable}
use Rattle.laws.proofs.Joins.{each_append}
use Rattle.laws.proofs.Ranges.{range_length}
use Rattle.laws.specs.Lists.{each, joined, keep, range}
use Rattle.measure.specs.Table.{between}
use Rattle.regrow.proofs.Halves.{Half, Levelling, child-is, count-is, gone, half-grows, half-stays, items_long, job, long, made-few, sound-is, start_is, two}
use Rattle.regrow.proofs.Paving.{kids-paved, paved-inside, paved-read, paved-rows, paved-run, paved-words}
use Rattle.regrow.proofs.Rows.{fresh-nodes, piece-nodes}
use Rattle.regrow.specs.Pieces.{Piece, Sound, fresh, fresh_of, kept, parts, pending, piece, runs_of}
use Rattle.regrow.specs.Stages.{Level, Openable', Opened', Paved}
use Rattle.split.proofs.Laid.{split-joined}
use Rattle.split.specs.Places.{child#, count#, node_at_lem, start#}
use Rattle.split.specs.Runs.{Splittable, Splitted, laid, run_at, run_nodes}
use Rattle.tree.proofs.Grow.{split-length}
use Rattle.tree.specs.Build.{split}
use Rattle.tree.specs.Encode.{Node, node_words}
use Rattle.tree.specs.Grove.{Reach}
use Rattle.words.specs.Words.{nodes#, c#, circles#, m#, n#}
use borrow.Author.Tests.{eqb-false, eqb-true, leb-false, leb-true, lt-leb, ne_eqb}
use lib.Dec.{eqb, leb}
use lib.ListN.{drop, length, length-map, set, take}
use mathlib.Core.Bool.{Bool, cond, false, not, true}
use mathlib.Core.List.{List, [], ◌++◌, ◌∷◌, append_assoc, append-nil, map}
use mathlib.Core.Path.{◌∙◌, ◌≡◌, ap, ap₂, refl, subst, sym}
use native.Mathlib.Omega.{arith}

module _ {t w : List ℕ} {v added limit : ℕ} {room₀ work₀ : List ℕ} {lo hi : ℕ} (g : Level t w v added limit room₀ work₀ lo hi) where
  -- how far two rows are apart
  abbrev d : ℕ → ℕ → ℕ
  d = between t (c# w) (circles# w)

  -- a node that is opened has a child
  one : 1 ≤ m# w
  one = omega (arith, two g)

  -- a run that is split has as many rows as centres
  leafy : m# w ≤ limit
  leafy = omega (arith, g.change.shape.whole.leaf.0, g.change.leafy)

  -- ---- an old node
  module _ {done : List Piece} {o : ℕ} {rest : List Piece} {past ahead : List (List ℕ)} {room work : List ℕ} {made k : ℕ}
      (half : Half g done (kept o ∷ rest) past ahead room work made k) where
    -- its first child in the old index
    abbrev x : ℕ
    x = ((job g).copy o).2

    -- a leaf has no more rows than the limit
    kept_small : child# room k ≡ 0 → count# room k ≤ limit
    unfolding Sound
    kept_small e = omega (arith, count-is g half, (sound-is g half).0 (sym (child-is g half) ∙ e))

    -- any other has m children among the old nodes
    kept-kids : (child# room k ≡ 0 → ⊥) → child# room k + m# w ≤ nodes# w
    unfolding Sound
    kept-kids h = omega (arith, child-is g half, ((sound-is g half).1 (λ e. h (child-is g half ∙ e))).0)

    -- which are its parts
    kept-parts : (child# room k ≡ 0 → ⊥) → parts (job g) (kept o) ≡ map (piece (job g)) (range x (m# w))
    kept-parts h = rw (ne_eqb x 0 (λ e. h (child-is g half ∙ e))) refl

    -- m of them
    kept-many : length (map (piece (job g)) (range x (m# w))) ≡ m# w
    kept-many = length-map (range x (m# w)) (piece (job g)) ∙ range_length x (m# w)

    -- there is room for them
    kept-few : (child# room k ≡ 0 → ⊥) → made + m# w ≤ g.most
    kept-few h = omega (arith, made-few g half, ap length (kept-parts h), kept-many)

    -- it is opened
    kept_step : {room' work' : List ℕ} {r : ℕ} → Opened' t w v added limit room work k made room' work' r → Levelling g room' work' r (k + 1)
    kept_step {room'} {work'} {r} got = go (eqb (child# room k) 0) refl
      where
        go : (b : Bool) → eqb (child# room k) 0 ≡ b → Levelling g room' work' r (k + 1)
        go true e =
            let z : child# room k ≡ 0 = eqb-true (child# room k) 0 e in
            let s = (got.splits z).stays (kept_small z) in
            let none : parts (job g) (kept o) ≡ [] =
            ap (λ (i : ℕ). cond (eqb i 0) [] (map (piece (job g)) (range x (m# w)))) (sym (child-is g half) ∙ z) in
            rw (s.0, s.1, s.2)
            record { done = done ++ kept o ∷ []; todo = rest; past = past; ahead = ahead; half = half-stays g half none half.wait }
        go false e =
            let h : child# room k ≡ 0 → ⊥ = eqb-false (child# room k) 0 e in
            let s = got.copies h in
            let kids : List Piece = map (piece (job g)) (range x (m# w)) in
            let room₁ : List ℕ = set room (node_at_lem k + 2) made in
            let new : map (job g).copy (range (child# room k) (m# w)) ≡ map (pending (job g)) kids =
            ap (λ (i : ℕ). map (job g).copy (range i (m# w))) (child-is g half) ∙ piece-nodes (job g) g.own x (m# w) in
            record {
              done = done ++ kept o ∷ [];
              todo = rest;
              past = past;
              ahead = ahead;
              half = half-grows g half kids (kept-parts h) (omega (arith, kept-many, one)) past ahead kept-many s.0
                  (s.2 ∙ ap (λ (y : List Node). take (node_at_lem made) room₁ ++ (each (node_words 2) y ++ drop (node_at_lem (made + m# w)) room₁)) new)
                  half.runs
                  (subst (λ (y : List ℕ). Paved d limit (n# w + added) g.base g.fore g.rear y (gone g past ++ ahead)) (sym s.1) half.paved)
                  half.wait;
            }

  -- ---- a run of the workspace
  module _ {done : List Piece} {s : ℕ} {R : Reach} {run : List ℕ} {rest : List Piece} {past ahead : List (List ℕ)} {room work : List ℕ} {made k : ℕ}
      (half : Half g done (fresh s R run ∷ rest) past ahead room work made k) where
    -- ---- it has more rows than the limit
    module _ (large : leb (length run) limit ≡ false) where
      -- as numbers
      large_is : limit < length run
      large_is = leb-false (length run) limit large

      -- it is the next tile that waits
      next : Next limit (g.base + length (joined (gone g past))) ahead (s, run) (keep (waits limit) (runs_of rest))
      next =
          let later : List Item = keep (waits limit) (runs_of rest) in
          next-waiting limit (g.base + length (joined (gone g past))) ahead (s, run) later
          (sym (ap (λ (b : Bool). cond (not b) ((s, run) ∷ later) later) large) ∙ half.wait)

      -- the tiles before it
      front : List (List ℕ)
      front = gone g past ++ next.front

      -- the tiles, cut before it and behind it
      tiles-cut : gone g past ++ ahead ≡ front ++ run ∷ next.back
      unfolding front
      tiles-cut =
          ap (λ (x : List (List ℕ)). gone g past ++ x) next.cut ∙ sym (append_assoc (gone g past) next.front (run ∷ next.back))

      -- so cut they pave the workspace
      paved-cut : Paved d limit (n# w + added) g.base g.fore g.rear work (front ++ run ∷ next.back)
      paved-cut = subst (Paved d limit (n# w + added) g.base g.fore g.rear work) tiles-cut half.paved

      -- it starts behind them
      start-at : start# room k ≡ g.base + length (joined front)
      unfolding front
      start-at = omega (arith, start_is g half, next.place, joined_append (gone g past) next.front)

      -- its children's runs
      kids : List (List ℕ)
      kids = split d (m# w) run

      -- m of them
      kids_many : length kids ≡ m# w
      unfolding kids
      kids_many = split-length d (m# w) limit one leafy run

      -- their pieces are its parts
      abbrev pieces : List Piece
      pieces = map (fresh_of d) (placed s (split d (m# w) run))

      fresh-parts : parts (job g) (fresh s R run) ≡ pieces
      fresh-parts = ap (λ (b : Bool). cond b [] (map (fresh_of d) (placed s (split d (m# w) run)))) large

      pieces-many : length pieces ≡ m# w
      unfolding kids
      pieces-many =
          length-map (placed s (split d (m# w) run)) (fresh_of d) ∙ placed_long s (split d (m# w) run) ∙ kids_many

      -- it can be split
      fresh-ready : Splittable t (c# w) (circles# w) (m# w) (n# w + added) room work (start# room k) (count# room k) made
      fresh-ready =
          let read = paved-read front run next.back paved-cut in
          rw (start-at, count-is g half)
          record {
            columns = g.change.shape.whole.columns.1;
            few = g.change.rows;
            table = g.change.table;
            share = one;
            centred = omega (arith, leafy, large_is);
            inside = paved-inside front run next.back paved-cut;
            halves = half.paved.halves;
            nodes = omega (arith, made-few g half, ap length fresh-parts, pieces-many, long g half, g.stage.space);
            known = paved-words front run next.back paved-cut ∙ ap (laid d) (sym read);
            rows = rw read (paved-rows front run next.back paved-cut);
            once = rw read (paved-run front run next.back paved-cut large).1;
          }

      -- ---- it is split
      module _ {room' work' : List ℕ} (same : length work' ≡ length work)
          (got : Splitted t (c# w) (circles# w) (m# w) (n# w + added) (set room (node_at_lem k + 2) made) work (start# room k) (count# room k) made room'
          work') where
        -- the run that is read is the tile
        read : run_at work (start# room k) (count# room k) ≡ run
        read = rw (start-at, count-is g half) (paved-read front run next.back paved-cut)

        -- the tiles that gave way by now
        past' : List (List ℕ)
        past' = past ++ (next.front ++ run ∷ [])

        -- and those that did not
        past-cut : g.tiles ≡ past' ++ next.back
        unfolding past'
        past-cut =
            half.runs ∙ ap (λ (x : List (List ℕ)). past ++ x) (next.cut ∙ sym (append_assoc next.front (run ∷ []) next.back))
            ∙ sym (append_assoc past (next.front ++ run ∷ []) next.back)

        -- they gave way to its children's runs, behind the tiles that were there
        opened-is : gone g past' ≡ front ++ kids
        unfolding past' front kids
        opened-is =
            each_append (opened d (m# w) limit) past (next.front ++ run ∷ [])
            ∙ ap (λ (x : List (List ℕ)). gone g past ++ x) (each_append (opened d (m# w) limit) next.front (run ∷ [])
            ∙ ap₂ (λ (x y : List (List ℕ)). x ++ y) (small-opened d (m# w) limit next.front next.small)
            (append-nil (opened d (m# w) limit run) ∙ ap (λ (b : Bool). cond b (run ∷ []) (split d (m# w) run)) large))
            ∙ sym (append_assoc (gone g past) next.front (split d (m# w) run))

        -- the tiles then
        tiles-is : gone g past' ++ next.back ≡ front ++ (kids ++ next.back)
        tiles-is = ap (λ (x : List (List ℕ)). x ++ next.back) opened-is ∙ append_assoc front kids next.back

        -- they pave the workspace
        paved' : Paved d limit (n# w + added) g.base g.fore g.rear work' (front ++ (kids ++ next.back))
        unfolding kids
        paved' =
            kids-paved front run next.back paved-cut large (m# w) one (omega (arith, leafy, large_is)) same
            (got.words ∙ rw (read, start-at, count-is g half) refl)

        -- the next run stands behind its rows
        next-at : g.base + length (joined (gone g past)) + length (joined next.front) + length run ≡ g.base + length (joined (gone g past'))
        unfolding front kids
        next-at =
            let rows : length (joined kids) ≡ length run =
            split-joined d (m# w) run one (omega (arith, leafy, large_is)) (paved-run front run next.back paved-cut large) in
            omega (
              arith,
              ap (λ (x : List (List ℕ)). length (joined x)) opened-is,
              joined_append front kids,
              joined_append (gone g past) next.front,
              rows,
            )

        -- its children's words are those of its parts
        words_are : run_nodes d (start# room k) (split d (m# w) (run_at work (start# room k) (count# room k)))
            ≡ each (node_words 2) (map (pending (job g)) pieces)
        words_are =
            ap₂ (λ (i : ℕ) (r : List ℕ). run_nodes d i (split d (m# w) r)) (start_is g half) read
            ∙ run-nodes d (m# w) limit s (split d (m# w) run)
            ∙ ap (each (node_words 2)) (fresh-nodes (job g) (m# w) limit (placed s (split d (m# w) run)))

        -- it is opened
        fresh-split : {r : ℕ} → r ≡ made + m# w → Half g (done ++ fresh s R run ∷ []) rest past' next.back room' work' r (k + 1)
        fresh-split e =
            let room₁ : List ℕ = set room (node_at_lem k + 2) made in
            half-grows g half pieces fresh-parts (omega (arith, pieces-many, one)) past' next.back pieces-many e
            (got.nodes ∙ ap (λ (y : List ℕ). take (node_at_lem made) room₁ ++ (y ++ drop (node_at_lem (made + m# w)) room₁)) words_are) past-cut
            (subst (Paved d limit (n# w + added) g.base g.fore g.rear work') (sym tiles-is) paved')
            (next.later ∙ ap (λ (i : ℕ). keep (waits limit) (placed i next.back)) next-at)

    -- ---- either way
    fresh_step : {room' work' : List ℕ} {r : ℕ} → length work' ≡ length work → Opened' t w v added limit room work k made room' work' r
        → Levelling g room' work' r (k + 1)
    fresh_step {room'} {work'} {r} same got' = go (leb (length run) limit) refl
      where
        got : Opened t (c# w) (circles# w) (m# w) limit (n# w + added) room work k made room' work' r
        got = got'.splits (child-is g half)

        go : (b : Bool) → leb (length run) limit ≡ b → Levelling g room' work' r (k + 1)
        go true e =
            let h = got.stays (omega (arith, count-is g half, leb-true (length run) limit e)) in
            let none : parts (job g) (fresh s R run) ≡ [] =
            ap (λ (b : Bool). cond b [] (map (fresh_of d) (placed s (split d (m# w) run)))) e in
            let later : List Item = keep (waits limit) (runs_of rest) in
            rw (h.0, h.1, h.2)
            record {
              done = done ++ fresh s R run ∷ [];
              todo = rest;
              past = past;
              ahead = ahead;
              half = half-stays g half none (sym (ap (λ (b : Bool). cond (not b) ((s, run) ∷ later) later) e) ∙ half.wait);
            }
        go false e =
            let h = got.splits (omega (arith, count-is g half, leb-false (length run) limit e)) in
            record {
              done = done ++ fresh s R run ∷ [];
              todo = rest;
              past = past' e same h.1;
              ahead = (next e).back;
              half = fresh-split e same h.1 h.0;
            }

  -- ---- any piece
  module _ {done rest : List Piece} {past ahead : List (List ℕ)} {room work : List ℕ} {made k : ℕ} where
    -- what splitting asks, where it has no child
    ready : (q : Piece) → Half g done (q ∷ rest) past ahead room work made k → child# room k ≡ 0 → limit < count# room k
        → Splittable t (c# w) (circles# w) (m# w) (n# w + added) room work (start# room k) (count# room k) made
    ready (kept o) half e h = absurd (omega (arith, kept_small half e))
    ready (fresh s R run) half e h = fresh-ready half (lt-leb (length run) limit (omega (arith, count-is g half)))

    -- what copying asks, where it has one
    copies : (q : Piece) → Half g done (q ∷ rest) past ahead room work made k → (child# room k ≡ 0 → ⊥)
        → (child# room k + m# w ≤ nodes# w) × (made + m# w ≤ g.most)
    copies (kept o) half h = (kept-kids half h, kept-few half h)
    copies (fresh s R run) half h = absurd (h (child-is g half))

    -- what opening it asks
    pub half-open : (q : Piece) → Half g done (q ∷ rest) past ahead room work made k → Openable' t w v added limit room work k made
    half-open q half =
        let old : k < made = omega (arith, half.count, half.here, items_long g half, g.stage.last) in
        let small : made ≤ 2097152 = omega (arith, made-few g half, g.stage.small) in
        let there : node_at_lem made ≤ length room = omega (arith, made-few g half, long g half, g.stage.space) in
        record {
          change = g.change;
          old = old;
          small = small;
          there = there;
          splits = λ e. record { old = old; small = small; centres = g.change.shape.whole.fan.1; there = there; ready = λ h. ready q half e h };
          copies = λ h.
              let s = copies q half h in (s.0, omega (arith, s.1, long g half, g.stage.space), omega (arith, s.1, g.stage.small));
        }

    -- what it leaves
    pub half_step : (q : Piece) → Half g done (q ∷ rest) past ahead room work made k → {room' work' : List ℕ} {r : ℕ} → length work' ≡ length work
        → Opened' t w v added limit room work k made room' work' r → Levelling g room' work' r (k + 1)
    half_step (kept o) half same got = kept_step half got
    half_step (fresh s R run) half same got = fresh_step half same got
