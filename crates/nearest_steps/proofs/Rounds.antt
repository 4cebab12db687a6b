-- Taking an item, as it changes the workspace: a position's row is measured, a leaf is opened. (An inner node: InnerNodes.) Assumes nothing.
use Prim.Native.Nat.{◌*◌, ◌+◌, ◌-◌, ◌<◌, ◌≤◌, suc, ℕ}
use Rattle.answers_held.specs.Answers.{last_of}
use Rattle.frontier.proofs.Reading.{item-place, node-read, opened, place_read}
use Rattle.frontier.specs.Waiting.{More, item_of, placed}
use Rattle.frontier.specs.Workspace.{kept}
use Rattle.index_space.specs.Items.{measured_by, measures_at, node, opened_by, opens_at, place, place_bound, place_of}
use Rattle.laws.specs.Bags.{is, total, upto}
use Rattle.laws.specs.Outside.{Outside}
use Rattle.measure.specs.Table.{from}
use Rattle.nearest_steps.proofs.Growing.{grew-front, grew_none}
use Rattle.nearest_steps.proofs.Staying.{front_alone, frontier_stays, grew_by, last_then, ready_at}
use Rattle.nearest_steps.specs.Asked.{asks}
use Rattle.nearest_steps.specs.Rounds.{CanTake, Taken}
use Rattle.nearest_steps.specs.Standing.{GrewAlone, Ready}
use Rattle.queue.specs.Entry.{id_of, key_of}
use Rattle.rowset.specs.Sets.{is_in_lem}
use Rattle.words.specs.InShape.{InShape}
use Rattle.words.specs.Words.{nodes#, at, child#, circles#, count#, first#, n#, row#, start#}
use mathlib.Core.List.{List, map}
use mathlib.Core.Path.{◌∙◌, ◌≡◌, ap, refl, subst, sym}
use native.Mathlib.Omega.{arith}

-- ---- by kinds of item
module _ (t : List ℕ) (c : ℕ) (q w : List ℕ) (wanted : ℕ) (struck : List ℕ) (how work : List ℕ) (len held : ℕ) where
  -- how far the query is from a row
  abbrev x : ℕ → ℕ
  x = from t c (circles# w) q

  -- A POSITION IS TAKEN: its row is measured
  taken-place : (p b : ℕ) → CanTake (asks t c w q wanted struck) how work len held (place p b) → (how' work' : List ℕ) (n held' r : ℕ) → n ≡ n# w
      → r ≡ row# w p → GrewAlone x (is_in_lem struck) n wanted how how' work work' held held' (λ (s : ℕ). is s r)
      → Taken w x (is_in_lem struck) wanted how how' work work' len len held held' (place p b)
  taken-place p b T how' work' n held' r en er K₀ =
      let K : GrewAlone x (is_in_lem struck) (n# w) wanted how how' work work' held held' (λ (s : ℕ). is s (row# w p)) =
      subst (λ (r : ℕ). GrewAlone x (is_in_lem struck) (n# w) wanted how how' work work' held held' (λ (s : ℕ). is s r)) er
      (subst (λ (n : ℕ). GrewAlone x (is_in_lem struck) n wanted how how' work work' held held' (λ (s : ℕ). is s r)) en K₀) in
      let f = frontier_stays (n# w) work work' len (omega (arith, T.room.fits)) K.front K.grew.since.words T.room.queue in
      record {
        grew = K.grew;
        seen = λ r l p. absurd (omega arith);
        queue = f.0;
        small = refl;
        queued = λ g. ap (λ (es : List ℕ). total g (map (item_of w x) es)) f.1;
      }

  module _ (k b : ℕ) (T : CanTake (asks t c w q wanted struck) how work len held (node k b (x (first# w k)))) where
    -- the node's first is at u
    abbrev u : ℕ
    u = x (first# w k)

    -- the index is in shape
    S : InShape w
    S = T.room.shape

    -- it is a node of the index
    pub node-there : k < nodes# w
    node-there = omega (arith, T.sound)

    -- the distance of its first is kept
    pub first-kept : kept work (n# w) (first# w k) ≡ from t c (circles# w) q (first# w k)
    first-kept = omega (arith, T.sound)

    -- the id of a node or a position is a number of 32 bits
    pub id-small : (i : ℕ) → i < 3 * n# w → i < 4294967296
    id-small i h = omega (arith, S.whole.rows)

    -- A LEAF IS TAKEN: its rows but the first wait, each under its own bound
    pub taken-leaf : child# w k ≡ 0 → (work' : List ℕ) (n last len' : ℕ) → n ≡ n# w → last ≡ last_of work (3 * n) wanted held
        → More work work' len (count# w k - 1) (λ (i : ℕ). placed w b (kept work n (first# w k)) (start# w k + suc i)) last len'
        → Taken w x (is_in_lem struck) wanted how how work work' len len' held held (node k b (x (first# w k)))
    taken-leaf z work' n last len' en el M₀ =
        let queued : ℕ → ℕ → ℕ = λ n i. placed w b (kept work n (first# w k)) (start# w k + suc i) in
        let g : ℕ → ℕ = queued (n# w) in
        let M : More work work' len (count# w k - 1) g last len' =
        subst (λ (n : ℕ). More work work' len (count# w k - 1) (queued n) last len') en M₀ in
        let O : Outside work work' 0 (2 * n# w) = front_alone (n# w) len (count# w k - 1) work work' (omega (arith, T.room.fits)) M.outside in
        let this : (i : ℕ) → i < count# w k - 1 → item_of w x (g i) ≡ place_of w k b u i =
        λ i l. item-place w x (place_bound w b (kept work (n# w) (first# w k)) (start# w k + suc i)) (start# w k + suc i)
        (id-small (2 * n# w + (start# w k + suc i)) (omega (arith, (S.node k node-there).run)))
        ∙ ap (λ (v : ℕ). place (start# w k + suc i) (place_bound w b v (start# w k + suc i))) first-kept in
        let leafy : upto (place_of w k b u) (count# w k - 1) ≡ opens_at w x (child# w k) k b u = ap (λ (q : ℕ). opens_at w x q k b u) (sym z) in
        let o = opened w x work work' len (count# w k - 1) g last len' (place_of w k b u) M this (last_of work' (3 * n# w) wanted held)
        (opened_by w x (node k b u)) (last_then w wanted work work' held last n (omega (arith, T.ready.stands.wanted)) en el O) leafy in
        record {
          grew = grew-front x (is_in_lem struck) (n# w) wanted how how work work work' held held (measured_by w (node k b u))
              (grew_none x (is_in_lem struck) (n# w) wanted how work held (measured_by w (node k b u)) (λ r. ap (λ (q : ℕ). measures_at w q r) z)
              T.ready.stands) O;
          seen = λ r l p. absurd (omega (arith, ap (λ (q : ℕ). measures_at w q r) z));
          queue = M.queue;
          small = o.0;
          queued = o.1;
        }

-- ---- by entries, as the code reads them
module _ (t : List ℕ) (c : ℕ) (q w : List ℕ) (wanted : ℕ) (struck : List ℕ) (how work : List ℕ) (len held e id n : ℕ) (en : n ≡ n# w)
    (ei : id ≡ id_of e)
    (T : CanTake (asks t c w q wanted struck) how work len held (item_of w (from t c (circles# w) q) e)) where
  -- ---- an entry with a node's id
  module _ (key : ℕ) (ek : key ≡ key_of e) (h : id < 2 * n) where
    -- its item is the node
    is-node : item_of w (from t c (circles# w) q) e ≡ node id key (from t c (circles# w) q (first# w id))
    is-node = node-read w (from t c (circles# w) q) e id key ei ek (omega arith)

    -- the node can be taken where the item can
    pub node-takes : CanTake (asks t c w q wanted struck) how work len held (node id key (from t c (circles# w) q (first# w id)))
    node-takes = subst (CanTake (asks t c w q wanted struck) how work len held) is-node T

    -- and where it is taken, the item is
    pub node-taken : (how' work' : List ℕ) (len' held' : ℕ)
        → Taken w (from t c (circles# w) q) (is_in_lem struck) wanted how how' work work' len len' held held'
        (node id key (from t c (circles# w) q (first# w id)))
        → Taken w (from t c (circles# w) q) (is_in_lem struck) wanted how how' work work' len len' held held' (item_of w (from t c (circles# w) q) e)
    node-taken how' work' len' held' D = subst (Taken w (from t c (circles# w) q) (is_in_lem struck) wanted how how' work work' len len' held held')
        (sym is-node) D

  -- ---- an entry with a position's id
  module _ (h : 2 * n ≤ id) where
    -- the position's number
    abbrev p : ℕ
    p = id - 2 * n

    -- its item is the position
    is-place : item_of w (from t c (circles# w) q) e ≡ place p (key_of e)
    is-place = place_read w (from t c (circles# w) q) e id ei (omega arith) ∙ ap (λ (n : ℕ). place (id - 2 * n) (key_of e)) (sym en)

    -- the position can be taken where the item can
    place-takes : CanTake (asks t c w q wanted struck) how work len held (place p (key_of e))
    place-takes = subst (CanTake (asks t c w q wanted struck) how work len held) is-place T

    -- it is a position of the index
    pub place_there : p < n# w
    place_there = omega (arith, place-takes.sound)

    -- its row can be measured
    pub place-row : (r o : ℕ) → r ≡ row# w p → o ≡ circles# w → Ready t c o q (is_in_lem struck) n wanted how work held × (r < n)
    place-row r o er eo = (
      ready_at t c q w (is_in_lem struck) wanted how work held n o en eo T.ready,
      omega
          (arith, (T.room.shape.place p place_there).row),
    )

    -- where it is measured, the item is taken
    pub place-taken : (how' work' : List ℕ) (held' r o : ℕ) → r ≡ row# w p → o ≡ circles# w
        → GrewAlone (from t c o q) (is_in_lem struck) n wanted how how' work work' held held' (λ (s : ℕ). is s r)
        → Taken w (from t c (circles# w) q) (is_in_lem struck) wanted how how' work work' len len held held' (item_of w (from t c (circles# w) q) e)
    place-taken how' work' held' r o er eo K =
        subst (Taken w (from t c (circles# w) q) (is_in_lem struck) wanted how how' work work' len len held held') (sym is-place)
        (taken-place t c q w wanted struck how work len held p (key_of e) place-takes how' work' n held' r en er
        (grew_by t c q w (is_in_lem struck) n wanted how how' work work' held held' (λ (s : ℕ). is s r) o eo K))
