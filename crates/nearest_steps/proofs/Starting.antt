-- How a search begins: the root waits, and its first is measured. Assumes nothing.
use Prim.Native.Nat.{◌*◌, ◌+◌, ◌-◌, ◌<◌, ◌≤◌, ℕ}
use Rattle.answers_held.proofs.Holding.{over-not}
use Rattle.answers_held.specs.Answers.{BestHeld, code, over}
use Rattle.best_first.specs.Search.{SearchReach, start}
use Rattle.frontier.proofs.Reading.{item-node}
use Rattle.frontier.specs.Waiting.{item_of, items}
use Rattle.frontier.specs.Workspace.{kept}
use Rattle.index_space.specs.Items.{IndexItem, left_of, live_of, root_of, space_of, weight}
use Rattle.index_space.specs.Run.{RunSoFar}
use Rattle.laws.proofs.Ones.{is_bit, is_self}
use Rattle.laws.proofs.Sums.{sum_below-zero}
use Rattle.laws.specs.Bags.{is, total}
use Rattle.laws.specs.Lists.{gap}
use Rattle.laws.specs.Upto.{sum_to}
use Rattle.limits.specs.Limits.{max_rows}
use Rattle.measure.specs.Table.{from}
use Rattle.nearest_steps.proofs.Filling.{root-row, still-root, sum_one}
use Rattle.nearest_steps.proofs.Staying.{centres-by, held-stay, ready_on, since_then, since_work, stands-stay}
use Rattle.nearest_steps.specs.Asked.{NearestAsked, asks, gone, positions_left, rows_in}
use Rattle.nearest_steps.specs.Rounds.{SearchStart, SearchState, amiss, still}
use Rattle.nearest_steps.specs.Standing.{GrewCentres, Ready, Since, Stands, met_of}
use Rattle.queue.proofs.Queued.{empty_queue}
use Rattle.queue.specs.Queue.{Pushed, entry}
use Rattle.rows_listed.proofs.MetRows.{blank_next, listed_blank}
use Rattle.rows_listed.specs.Listed.{Listed, ListedTo}
use Rattle.rowset.specs.Sets.{is_in_lem}
use Rattle.words.specs.InShape.{InShape}
use Rattle.words.specs.Words.{nodes#, at, circles#, first#, n#}
use lib.ListN.{get_or, length}
use mathlib.Core.List.{List, [], ◌++◌, ◌∷◌}
use mathlib.Core.Path.{◌∙◌, ◌≡◌, ap, refl, subst, sym}
use native.Mathlib.Omega.{arith}

-- before it begins a search can measure
pub blank_ready : (a : NearestAsked) (how work : List ℕ) → SearchStart a how work
    → Ready a.table a.columns (circles# a.index) a.query (gone a) (rows_in a) a.wanted how work 0
blank_ready a how work B = record { stands = B.stands; columns = B.tested.columns; table = B.tested.table; query = B.query }

-- and no row is listed
pub blank_listed : (a : NearestAsked) (how work : List ℕ) (n next : ℕ) → n ≡ rows_in a → next ≡ 5 * n → SearchStart a how work
    → ListedTo n how work next
blank_listed a how work n next en e B =
    blank_next n how work next e
    (subst (λ (n : ℕ). Listed n how work 0) (sym en)
    (listed_blank (rows_in a) how work B.stands.bytes B.stands.room B.stands.small B.blank))

module _ (t : List ℕ) (c : ℕ) (q w : List ℕ) (wanted : ℕ) (struck : List ℕ) where
  -- how far the query is from a row
  abbrev x : ℕ → ℕ
  x = from t c (circles# w) q

  -- before anything is measured
  pub begin-stands : n# w ≤ max_rows → (how work : List ℕ) → n# w ≤ length how → 6 * n# w ≤ length work → (1 ≤ wanted) × (wanted ≤ n# w)
      → ((r : ℕ) → r < n# w → at how r ≡ 0) → Stands (from t c (circles# w) q) (is_in_lem struck) (n# w) wanted how work 0
  begin-stands small how work hb wb ws z = record {
    queue = empty_queue work (3 * n# w) (omega arith);
    most = omega arith;
    own = refl;
    remain = refl;
    marked = refl;
    near = λ r h p. absurd (omega (arith, z r h));
    bits = λ r h. omega (arith, z r h);
    bytes = hb;
    room = wb;
    wanted = ws;
    small = small;
  }

  -- ---- the root's first, r, is measured, and the root is queued
  module _ (filled : 1 ≤ n# w) (how how₁ work work₁ work₂ : List ℕ) (held n r o : ℕ) (en : n ≡ n# w) (eo : o ≡ circles# w)
      (K₀ : GrewCentres (from t c o q) (is_in_lem struck) n wanted how how₁ work work₁ 0 held (λ (s : ℕ). is s r)) (P : Pushed work₁ work₂ 0 0 0) where
    -- what lies beyond stays from the start on, as long as it does from there on
    pub begins-since : (how₂ work₃ : List ℕ) → Since (n# w) how₁ how₂ work₂ work₃ → Since (n# w) how how₂ work work₃
    begins-since how₂ work₃ since =
        since_then (n# w) how how₁ how₂ work work₁ work₃ (subst (λ (n : ℕ). Since n how how₁ work work₁) en K₀.alone.grew.since)
        (since_then (n# w) how₁ how₁ how₂ work₁ work₂ work₃
        (since_work (n# w) how₁ work₁ work₂ 0 (0 + (0 + 0) + 2) (omega arith) P.outside) since)

    module _ (S : InShape w) (er : r ≡ first# w 0) (blank : (r : ℕ) → r < n# w → at how r ≡ 0) where
      -- the root's first is measured, said by the index alone
      K : GrewCentres x (is_in_lem struck) (n# w) wanted how how₁ work work₁ 0 held (λ (s : ℕ). is s (first# w 0))
      K =
          subst (λ (r : ℕ). GrewCentres x (is_in_lem struck) (n# w) wanted how how₁ work work₁ 0 held (λ (s : ℕ). is s r)) er
          (subst (λ (n : ℕ). GrewCentres x (is_in_lem struck) n wanted how how₁ work work₁ 0 held (λ (s : ℕ). is s r)) en
          (centres-by t c q w (is_in_lem struck) n wanted how how₁ work work₁ 0 held (λ (s : ℕ). is s r) o eo K₀))

      -- the words from 2n on stay as the root is queued
      beyond : (i : ℕ) → 2 * n# w ≤ i → get_or work₂ i 0 ≡ get_or work₁ i 0
      beyond i h = P.outside.over i (omega arith)

      -- what the search then knows
      after : Stands x (is_in_lem struck) (n# w) wanted how₁ work₂ held
      after = stands-stay (n# w) work₁ work₂ (λ i lo hi. beyond i (omega arith)) P.outside.same x (is_in_lem struck) wanted how₁ held
          K.alone.grew.stands

      -- the root alone waits
      one : items w x work₂ 1 ≡ root_of w x ∷ []
      one = ap (λ (e : ℕ). item_of w x e ∷ []) entry_zero ∙ ap (λ (i : IndexItem). i ∷ []) (item-node w x 0 0 (omega arith) (omega arith))
        where
          entry_zero : entry work₂ 0 0 ≡ 0
          entry_zero = omega (arith, P.bag (λ (e : ℕ). e))

      -- the root is sound
      root-sound : total (amiss w x work₂) (items w x work₂ 1) ≡ 0
      root-sound =
          ap (total (amiss w x work₂)) one
          ∙ none (nodes# w) (kept work₂ (n# w) (first# w 0)) (x (first# w 0)) (S.root filled).there
          (beyond (2 * n# w + first# w 0) (omega arith) ∙ K.seen (first# w 0) (root-row w S filled) (omega (arith, is_self (first# w 0))))
        where
          none : (N u v : ℕ) → 1 ≤ N → u ≡ v → (1 - N) + gap u v + 0 ≡ 0
          none N u v h e = omega arith

      -- no rows are measured, and none are held: they are the best
      none-held : BestHeld x (met_of (is_in_lem struck) how) (n# w) work (3 * n# w) wanted 0
      none-held = record {
        floor = 0;
        bag = λ f.
            sym (sum_below-zero (λ (r : ℕ). over x (met_of (is_in_lem struck) how) 0 r (f (code x (met_of (is_in_lem struck) how) r))) (n# w)
            (λ r l. over-not x (met_of (is_in_lem struck) how) 0 r (f (code x (met_of (is_in_lem struck) how) r)) (omega (arith, blank r l))));
        all = λ h. refl;
      }

      -- the best of the root's first is held, and the search runs
      runs : BestHeld x (met_of (is_in_lem struck) how₁) (n# w) work₂ (3 * n# w) wanted held
          × RunSoFar w (is_in_lem struck) wanted x (items w x work₂ 1) (at how₁)
      runs =
          let b = K.alone.grew.best none-held (λ r l. bit (at how r) (is r (first# w 0)) (blank r l) (is_bit r (first# w 0))) in (
            held-stay (n# w) work₁ work₂ (λ i lo hi. beyond i (omega arith)) x (met_of (is_in_lem struck) how₁) wanted held
                (omega (arith, K.alone.grew.stands.most, K.alone.grew.stands.wanted)) b.0,
            record {
              left = [];
              run = record {
                start = at how₁;
                begun = λ r l. omega (arith, b.1 r, blank r l);
                reached = subst (λ (l : List IndexItem). SearchReach (space_of w (is_in_lem struck)) wanted x (root_of w x ∷ []) (at how₁) (l ++ [])
                    (at how₁)) (sym one) start;
              };
              beyond = refl;
            },
          )
        where
          bit : (a b : ℕ) → a ≡ 0 → b ≤ 1 → a + b ≤ 1
          bit a b e h = omega arith

      -- THE SEARCH BEGINS: the root waits, and its first is measured
      pub begins-state : Ready t c (circles# w) q (is_in_lem struck) (n# w) wanted how work 0 → SearchState (asks t c w q wanted struck) how₁ work₂ 1 held
      begins-state R = record {
        ready = ready_on t c (circles# w) q (is_in_lem struck) (n# w) wanted how how₁ work work₂ 0 held R after;
        queue = P.queue;
        sound = root-sound;
        room = omega (arith, ap (total (weight w)) one, (S.root filled).count);
        most = omega (arith, K.alone.grew.most, first, all);
        short = λ l. omega (arith, K.alone.grew.more l, first, all);
        run = λ x' F. runs;
      }
        where
          first : sum_to (left_of (is_in_lem struck) (λ (s : ℕ). is s (first# w 0))) (n# w) ≡ live_of (is_in_lem struck) (first# w 0)
          first = sum_one (is_in_lem struck) (n# w) (first# w 0) (root-row w S filled)

          all : live_of (is_in_lem struck) (first# w 0) + total (still w (is_in_lem struck)) (items w x work₂ 1) ≡ positions_left (asks t c w q wanted struck)
          all =
              ap (λ (l : List IndexItem). live_of (is_in_lem struck) (first# w 0) + total (still w (is_in_lem struck)) l) one
              ∙ omega (arith, still-root w S filled x (is_in_lem struck))
