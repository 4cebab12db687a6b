-- The search, round by round: what a round keeps, and how it ends. Assumes nothing.
use Prim.Native.Nat.{◌*◌, ◌+◌, ◌-◌, ◌<◌, ◌≤◌, min, suc, ℕ}
use Rattle.answers_held.proofs.LastOf.{last_room}
use Rattle.answers_held.proofs.Stopping.{goes_on}
use Rattle.answers_held.specs.Answers.{BestHeld, last_of}
use Rattle.best_first.specs.Search.{Ended, found}
use Rattle.frontier.proofs.Beyond.{above, above-last, parts-above}
use Rattle.frontier.proofs.Reading.{item-bound}
use Rattle.frontier.specs.Waiting.{at_most, item_of, items}
use Rattle.frontier.specs.Workspace.{kept}
use Rattle.index_space.proofs.Exact.{taken-new}
use Rattle.index_space.proofs.Leaving.{all-bag, leaves, leaves-off}
use Rattle.index_space.specs.Fits.{IndexFits}
use Rattle.index_space.specs.Items.{IndexItem, bound_of, greatest_word, opened_by, space_of, weight}
use Rattle.index_space.specs.Run.{RunSoFar}
use Rattle.laws.proofs.Bags.{same_map, total-append, total_le, total-map, total-neither, total-none}
use Rattle.laws.specs.Bags.{SameBag, total}
use Rattle.measure.specs.Table.{from}
use Rattle.nearest_steps.proofs.Filling.{still-split}
use Rattle.nearest_steps.proofs.Staying.{held-stay, ready_on, since_then, since_work, stands-stay}
use Rattle.nearest_steps.proofs.Weights.{amiss-on, cost, opened-amiss, opened-cost, opened-weight, some_weight}
use Rattle.nearest_steps.specs.Asked.{asks, positions_left}
use Rattle.nearest_steps.specs.Rounds.{CanTake, SearchEnd, SearchState, Taken, amiss, still}
use Rattle.nearest_steps.specs.Standing.{Since, Stands, met_of}
use Rattle.queue.proofs.Queued.{entries-count}
use Rattle.queue.specs.Entry.{key_of}
use Rattle.queue.specs.Queue.{Popped, entries}
use Rattle.rows_listed.proofs.MetRows.{listed-front}
use Rattle.rows_listed.specs.Listed.{ListedTo}
use Rattle.rowset.specs.Sets.{is_in_lem}
use Rattle.words.specs.InShape.{InShape}
use Rattle.words.specs.Words.{at, circles#, edition#, n#}
use lib.ListN.{get_or}
use mathlib.Core.List.{List, ◌++◌, ◌∷◌}
use mathlib.Core.Logic.{◌↔◌}
use mathlib.Core.Path.{◌∙◌, ◌≡◌, ap, refl, subst, sym}
use native.Mathlib.Decide.{dec_lt}
use native.Mathlib.Omega.{arith}

module _ (t : List ℕ) (c : ℕ) (q w : List ℕ) (wanted : ℕ) (struck : List ℕ) (S : InShape w) where
  -- how far the query is from a row
  abbrev x : ℕ → ℕ
  x = from t c (circles# w) q

  -- A BOUND IS AT MOST THE LAST DISTANCE EXACTLY WHERE FEWER MEASURED ROWS ARE CLOSER THAN ARE WANTED
  due-at : (how work : List ℕ) (held b : ℕ) → Stands x (is_in_lem struck) (n# w) wanted how work held
      → BestHeld x (met_of (is_in_lem struck) how) (n# w) work (3 * n# w) wanted held
      → b ≤ greatest_word → (b ≤ last_of work (3 * n# w) wanted held) ↔ (found (space_of w (is_in_lem struck)) x (at how) b < wanted)
  due-at how work held b K H =
      goes_on x (met_of (is_in_lem struck) how) (n# w) work (3 * n# w) wanted held K.small K.queue H (λ r l. omega (arith, K.bits r l))
      (λ r l p. K.near r l (omega arith)) b K.wanted.0 K.most

  -- as many items wait as the frontier has entries
  items-count : (work : List ℕ) (len : ℕ) → total (λ (i : IndexItem). 1) (items w x work len) ≡ len
  items-count work len = total-map (λ (i : IndexItem). 1) (item_of w x) (entries work 0 len) ∙ entries-count work 0 len

  module _ (how work : List ℕ) (len held : ℕ) (St : SearchState (asks t c w q wanted struck) how work len held) where
    -- THERE IS ROOM: no more wait than there are positions
    state-room : len ≤ n# w
    state-room =
        omega (
          arith,
          items-count work len,
          total_le (λ (i : IndexItem). 1) (weight w) (amiss w x work) (items w x work len) (some_weight w S x work) St.sound,
          St.room,
        )

    -- how many positions hold a row that remains
    abbrev left : ℕ
    left = positions_left (asks t c w q wanted struck)

    -- as many are held as are wanted, or as positions hold a row that remains, where fewer are held only if no more do
    held_all : (held < wanted → left ≤ held) → held ≡ min wanted left
    held_all none = go (dec_lt held wanted)
      where
        go : Dec (held < wanted) → held ≡ min wanted left
        go (yes l) = omega (arith, none l, St.most)
        go (no l) = omega (arith, St.ready.stands.most, St.most)

    -- ---- an entry is taken out of the frontier
    module _ (work₁ : List ℕ) (v : ℕ) (P : Popped work work₁ 0 len v) (some : 0 < len) where
      -- the item that is taken
      abbrev item : IndexItem
      item = item_of w x v

      -- those that still wait
      abbrev others : List IndexItem
      others = items w x work₁ (len - 1)

      -- those that waited are the item and the others
      bag : SameBag (items w x work len) (item ∷ others)
      bag = same_map (item_of w x) (entries work 0 len) (v ∷ entries work₁ 0 (len - 1)) P.bag

      -- the words from 2n on stay
      beyond : (i : ℕ) → 2 * n# w ≤ i → get_or work₁ i 0 ≡ get_or work i 0
      beyond i h = P.outside.over i (omega (arith, state-room))

      -- what the search knows stays
      popped-stands : Stands x (is_in_lem struck) (n# w) wanted how work₁ held
      popped-stands = stands-stay (n# w) work work₁ (λ i lo hi. beyond i (omega arith)) P.outside.same x (is_in_lem struck) wanted how held
          St.ready.stands

      -- the best that were held are held
      popped-held : BestHeld x (met_of (is_in_lem struck) how) (n# w) work (3 * n# w) wanted held
          → BestHeld x (met_of (is_in_lem struck) how) (n# w) work₁ (3 * n# w) wanted held
      popped-held H = held-stay (n# w) work work₁ (λ i lo hi. beyond i (omega arith)) x (met_of (is_in_lem struck) how) wanted held
          (omega (arith, St.ready.stands.most, St.ready.stands.wanted)) H

      -- what lies beyond stays
      popped-since : (how₀ work₀ : List ℕ) → Since (n# w) how₀ how work₀ work → Since (n# w) how₀ how work₀ work₁
      popped-since how₀ work₀ since =
          since_then (n# w) how₀ how how work₀ work work₁ since
          (since_work (n# w) how work work₁ 0 (0 + (len + len)) (omega (arith, state-room)) P.outside)

      -- and the list of rows measured
      pub popped-listed : (n next : ℕ) → n ≡ n# w → ListedTo n how work next → ListedTo n how work₁ next
      popped-listed n next en L = listed-front n how work next L work₁ 0 (0 + (len + len)) (omega (arith, state-room)) P.outside

      -- no distance that was kept is lost
      popped-keeps : (r : ℕ) → r < n# w → kept work (n# w) r ≡ x r → kept work₁ (n# w) r ≡ x r
      popped-keeps r l e = beyond (2 * n# w + r) (omega arith) ∙ e

      -- the item is sound
      item-sound : amiss w x work₁ item ≡ 0
      item-sound = amiss-on w S x work work₁ popped-keeps item (omega (arith, bag (amiss w x work), St.sound))

      -- so are the others
      others-sound : total (amiss w x work₁) others ≡ 0
      others-sound =
          total-none (amiss w x work₁) (amiss w x work) others (λ i z p. omega (arith, amiss-on w S x work work₁ popped-keeps i z))
          (omega (arith, bag (amiss w x work), St.sound))

      -- THE ITEM CAN BE TAKEN
      pub takes : edition# w ≡ 2 → CanTake (asks t c w q wanted struck) how work₁ (len - 1) held (item_of w (from t c (circles# w) q) v)
      takes two = record {
        ready = ready_on t c (circles# w) q (is_in_lem struck) (n# w) wanted how how work work₁ held held St.ready popped-stands;
        room = record {
          shape = S;
          edition = two;
          rows = refl;
          queue = P.queue;
          fits = omega (
            arith,
            items-count work₁ (len - 1),
            total_le (λ (i : IndexItem). 1) (weight w) (amiss w x work₁) others (some_weight w S x work₁) others-sound,
            bag (weight w),
            St.room,
          );
          words = popped-stands.room;
        };
        sound = item-sound;
      }

      -- none of the others has a lower bound
      least : total (λ (j : IndexItem). bound_of item - bound_of j) others ≡ 0
      least =
          total-map (λ (j : IndexItem). bound_of item - bound_of j) (item_of w x) (entries work₁ 0 (len - 1))
          ∙ total-none (λ (e : ℕ). bound_of item - bound_of (item_of w x e)) (λ (e : ℕ). v - e) (entries work₁ 0 (len - 1))
          (λ e z p. lower v e (omega arith) (omega (arith, item-bound w x v, item-bound w x e))) P.least
        where
          lower : (a b : ℕ) → a ≤ b → key_of b < key_of a → ⊥
          lower a b h k = omega arith

      -- it is due exactly where its key is at most the last distance, as the code asks it
      due-is : (n d key : ℕ) → n ≡ n# w → d ≡ last_of work₁ (3 * n) wanted held → key ≡ key_of v → key ≤ greatest_word
          → BestHeld x (met_of (is_in_lem struck) how) (n# w) work (3 * n# w) wanted held → (key ≤ d)
          ↔ (found (space_of w (is_in_lem struck)) x (at how) (bound_of item) < wanted)
      due-is n d key en ed ek word H =
          let same : bound_of item ≡ key = item-bound w x v ∙ sym ek in
          let this : d ≡ last_of work₁ (3 * n# w) wanted held = ed ∙ ap (λ (n : ℕ). last_of work₁ (3 * n) wanted held) en in
          let g = due-at how work₁ held (bound_of item) popped-stands (popped-held H) (omega arith) in
          (λ h. g.0 (omega arith), λ h. omega (arith, g.1 h))

      -- ---- the item is taken
      module _ (how' work₂ : List ℕ) (len' held' : ℕ)
          (D : Taken w (from t c (circles# w) q) (is_in_lem struck) wanted how how' work₁ work₂ (len - 1) len' held held'
          (item_of w (from t c (circles# w) q) v)) where
        -- what it opens
        abbrev opened : List IndexItem
        opened = opened_by w x item

        -- the last distance by then
        abbrev last' : ℕ
        last' = last_of work₂ (3 * n# w) wanted held'

        -- what it opens and is left out: what lies beyond that distance
        abbrev out : List IndexItem
        out = above bound_of last' opened

        -- what waits and what is left out are what it opens and the others
        queued : (f : IndexItem → ℕ) → total f (items w x work₂ len') + total f out ≡ total f opened + total f others
        queued f = omega (arith, D.queued f, total-append f (at_most bound_of last' opened) others, parts-above bound_of last' f opened)

        -- what is left out lies beyond that distance, under bounds of 32 bits
        out-far : total (λ (j : IndexItem). (suc last' - bound_of j) + (bound_of j - greatest_word)) out ≡ 0
        out-far =
            total-neither (λ (j : IndexItem). suc last' - bound_of j) (λ (j : IndexItem). bound_of j - greatest_word) out (above-last bound_of last' opened)
            (omega (arith, D.small, parts-above bound_of last' (λ (j : IndexItem). bound_of j - greatest_word) opened))

        -- w measured rows are closer than the bound of what is left out
        out-beyond : BestHeld x (met_of (is_in_lem struck) how') (n# w) work₂ (3 * n# w) wanted held'
            → Ended (space_of w (is_in_lem struck)) wanted x out (at how')
        out-beyond H =
            total-none (λ (j : IndexItem). wanted - found (space_of w (is_in_lem struck)) x (at how') (bound_of j))
            (λ (j : IndexItem). (suc last' - bound_of j) + (bound_of j - greatest_word)) out
            (λ j z p. omega (arith, (due-at how' work₂ held' (bound_of j) D.grew.stands H (omega arith)).1 (omega arith))) out-far

        -- no more are held or wait than did
        most : held' + total (still w (is_in_lem struck)) (items w x work₂ len') ≤ left
        most =
            omega (
              arith,
              D.grew.most,
              St.most,
              bag (still w (is_in_lem struck)),
              still-split w S x (is_in_lem struck) work₁ item item-sound,
              queued (still w (is_in_lem struck)),
            )

        -- where fewer are held than are wanted, nothing is left out, and all are held or wait
        short : held' < wanted → left ≤ held' + total (still w (is_in_lem struck)) (items w x work₂ len')
        short l =
            let e = D.grew.more l in
            omega (
              arith,
              e,
              St.short (omega arith),
              bag (still w (is_in_lem struck)),
              still-split w S x (is_in_lem struck) work₁ item item-sound,
              queued (still w (is_in_lem struck)),
              total-none (still w (is_in_lem struck)) (λ (j : IndexItem). (suc last' - bound_of j) + (bound_of j - greatest_word)) out
                  (λ j z p. omega (arith, last_room work₂ (3 * n# w) wanted held' l)) out-far,
            )

        -- A ROUND: the state is kept
        pub round : 1 ≤ n# w → (n d key : ℕ) → n ≡ n# w → d ≡ last_of work₁ (3 * n) wanted held → key ≡ key_of v → key ≤ greatest_word → key ≤ d
            → SearchState (asks t c w q wanted struck) how' work₂ len' held'
        round filled n d key en ed ek word due = record {
          ready = ready_on t c (circles# w) q (is_in_lem struck) (n# w) wanted how how' work work₂ held held' St.ready D.grew.stands;
          queue = D.queue;
          sound = omega (
            arith,
            queued (amiss w x work₂),
            opened-amiss w S x work₁ work₂ item item-sound D.grew.keeps D.seen,
            total-none (amiss w x work₂) (amiss w x work₁) others
                (λ i z p. omega (arith, amiss-on w S x work₁ work₂ D.grew.keeps i z)) others-sound,
          );
          room = omega (arith, queued (weight w), opened-weight w S x work₁ item item-sound, bag (weight w), St.room);
          most = most;
          short = short;
          run = λ x' F. run x' F (St.run x' F).0 (St.run x' F).1;
        }
          where
            run : (x' : ℕ → ℕ) → IndexFits w (is_in_lem struck) wanted x x' → BestHeld x (met_of (is_in_lem struck) how) (n# w) work (3 * n# w) wanted held
                → RunSoFar w (is_in_lem struck) wanted x (items w x work len) (at how)
                → BestHeld x (met_of (is_in_lem struck) how') (n# w) work₂ (3 * n# w) wanted held'
                × RunSoFar w (is_in_lem struck) wanted x (items w x work₂ len') (at how')
            run x' F H R =
                let new = taken-new w S filled (is_in_lem struck) wanted St.ready.stands.wanted.0 x x' F (items w x work len ++ R.left) (at how)
                R.run item
                (others ++ R.left) (all-bag w (is_in_lem struck) wanted x (items w x work len) (at how) R item others bag least) in
                let b = D.grew.best (popped-held H) new in (
                  b.0,
                  leaves w (is_in_lem struck) wanted x (items w x work len) (at how) R item others bag least ((due-is n d key en ed ek word H).0 due)
                      (items w x work₂ len') out (at how') queued b.1 (out-beyond b.0),
                )

        -- and what lies beyond is as it was
        pub round-since : (how₀ work₀ : List ℕ) → Since (n# w) how₀ how work₀ work → Since (n# w) how₀ how' work₀ work₂
        round-since how₀ work₀ since =
            since_then (n# w) how₀ how how' work₀ work₁ work₂ (popped-since how₀ work₀ since) D.grew.since

        -- what is left costs less
        pub round-less : total (cost w) (items w x work₂ len') < total (cost w) (items w x work len)
        round-less = omega (arith, queued (cost w), opened-cost w S x work₁ item item-sound, bag (cost w))

      -- THE END: the first that waits is not due
      pub stops : (n d key : ℕ) → n ≡ n# w → d ≡ last_of work₁ (3 * n) wanted held → key ≡ key_of v → key ≤ greatest_word → d < key
          → (how₀ work₀ : List ℕ) → Since (n# w) how₀ how work₀ work → SearchEnd (asks t c w q wanted struck) how₀ how work₀ work₁ held
      stops n d key en ed ek word far how₀ work₀ since = record {
        stands = popped-stands;
        full = held_all (λ l. absurd (omega (arith, ed, last_room work₁ (3 * n) wanted held l)));
        since = popped-since how₀ work₀ since;
        ran = λ x' F.
            let z = St.run x' F in
            (popped-held z.0, leaves-off w (is_in_lem struck) wanted x (items w x work len) (at how) z.1 item others bag least (enough z.0));
      }
        where
          enough : BestHeld x (met_of (is_in_lem struck) how) (n# w) work (3 * n# w) wanted held
              → wanted ≤ found (space_of w (is_in_lem struck)) x (at how) (bound_of item)
          enough H = at_least (dec_lt (found (space_of w (is_in_lem struck)) x (at how) (bound_of item)) wanted)
            where
              at_least : Dec (found (space_of w (is_in_lem struck)) x (at how) (bound_of item) < wanted)
                  → wanted ≤ found (space_of w (is_in_lem struck)) x (at how) (bound_of item)
              at_least (yes h) = absurd (omega (arith, (due-is n d key en ed ek word H).1 h))
              at_least (no h) = omega arith

    -- THE END: nothing waits
    pub ends : (how₀ work₀ : List ℕ) → Since (n# w) how₀ how work₀ work → len ≡ 0 → SearchEnd (asks t c w q wanted struck) how₀ how work₀ work held
    ends how₀ work₀ since z = record {
      stands = St.ready.stands;
      full = held_all (λ l. omega (arith, St.short l, ap (λ (k : ℕ). total (still w (is_in_lem struck)) (items w x work k)) z));
      since = since;
      ran = λ x' F.
          let r = St.run x' F in (
            r.0,
            record {
              waiting = items w x work len ++ r.1.left;
              run = r.1.run;
              ended = subst (λ (k : ℕ). Ended (space_of w (is_in_lem struck)) wanted x (items w x work k ++ r.1.left) (at how)) (sym z) r.1.beyond;
            },
          );
    }
