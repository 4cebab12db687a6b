-- Taking an inner node, as it changes the workspace: its centres are measured, and its children wait. Assumes nothing.
use Prim.Native.Nat.{◌*◌, ◌+◌, ◌-◌, ◌<◌, ◌≤◌, suc, zero, ℕ}
use Rattle.answers_held.specs.Answers.{last_of}
use Rattle.frontier.proofs.Reading.{item-node, opened}
use Rattle.frontier.specs.Waiting.{FrontierRoom, More, at_most, item_of, items, least_kept, noded}
use Rattle.frontier.specs.Workspace.{kept}
use Rattle.index_space.proofs.Leasts.{least-same}
use Rattle.index_space.proofs.Opening.{inner-some, kid_in, kid-some, kids-count}
use Rattle.index_space.specs.Items.{bound_of, centre_at, child_of, measured_by, measures_at, nearest_at, node, opened_by, opens_at, weight}
use Rattle.laws.proofs.Ones.{is_self}
use Rattle.laws.proofs.Sums.{sum_below_le, sum_ones, sum_part}
use Rattle.laws.specs.Bags.{SameBag, is, upto}
use Rattle.laws.specs.Outside.{Outside}
use Rattle.measure.specs.Table.{from}
use Rattle.nearest_steps.proofs.Growing.{firsts_to, grew-as, grew-front}
use Rattle.nearest_steps.proofs.Rounds.{first-kept, id-small, node-there}
use Rattle.nearest_steps.proofs.Staying.{front_alone, frontier_stays, last_then, ready_at}
use Rattle.nearest_steps.proofs.Weights.{first-row}
use Rattle.nearest_steps.specs.Asked.{asks}
use Rattle.nearest_steps.specs.Rounds.{CanTake, Taken}
use Rattle.nearest_steps.specs.Standing.{GrewCentres, Ready}
use Rattle.queue.specs.Queue.{Queue, entries}
use Rattle.rowset.specs.Sets.{is_in_lem}
use Rattle.tree.specs.Grove.{reach#}
use Rattle.tree.specs.Homes.{child_bound_lem}
use Rattle.words.specs.InShape.{InShape}
use Rattle.words.specs.Shape.{inner}
use Rattle.words.specs.Words.{nodes#, at, child#, circles#, count#, first#, m#, n#, row#, start#}
use mathlib.Core.Bool.{true}
use mathlib.Core.List.{List, ◌++◌, map}
use mathlib.Core.Path.{◌∙◌, ◌≡◌, ap, ap₂, refl, subst, sym}
use native.Mathlib.Omega.{arith}

module _ (t : List ℕ) (c : ℕ) (q w : List ℕ) (wanted : ℕ) (struck : List ℕ) (how work : List ℕ) (len held k b : ℕ)
    (T : CanTake (asks t c w q wanted struck) how work len held (node k b (from t c (circles# w) q (first# w k)))) (some : 0 < child# w k) where
  -- how far the query is from a row
  abbrev x : ℕ → ℕ
  x = from t c (circles# w) q

  -- the node's first is at u
  abbrev u : ℕ
  u = x (first# w k)

  -- its first child's number
  abbrev a : ℕ
  a = child# w k

  -- the index is in shape
  S : InShape w
  S = T.room.shape

  -- it is a node of the index
  there : k < nodes# w
  there = node-there t c q w wanted struck how work len held k b T

  -- it is an inner node
  in# : inner w k ≡ true
  in# = inner-some w k some

  -- its children are nodes of the index
  kids_there : a + m# w ≤ nodes# w
  kids_there = ((S.node k there).kids in#).inside

  -- it has no more children than positions
  kids-fit : m# w ≤ weight w (node k b u)
  kids-fit =
      omega (
        arith,
        kids-count w S k there in#,
        sum_ones (m# w),
        sum_below_le (λ (j : ℕ). 1) (λ (j : ℕ). count# w (a + j)) (m# w) (kid-some w S k there in#),
      )

  -- its first child shares its first
  same_first : first# w (a + 0) ≡ first# w k
  same_first =
      let z : a + 0 ≡ a = omega arith in
      ap (row# w) (ap (start# w) z ∙ ((S.node k there).kids in#).same)

  -- it measures its centres but the first
  measures-are : (r : ℕ) → firsts_to w a (m# w - 1) r ≡ measured_by w (node k b u) r
  measures-are r = go (child# w k) some
    where
      go : (q : ℕ) → 0 < q → firsts_to w q (m# w - 1) r ≡ measures_at w q r
      go zero h = absurd (omega arith)
      go (suc q) h = refl

  -- it opens to its children
  opens-are : upto (child_of w x a b u) (m# w) ≡ opened_by w x (node k b u)
  opens-are = go (child# w k) some
    where
      go : (q : ℕ) → 0 < q → upto (child_of w x q b u) (m# w) ≡ opens_at w x q k b u
      go zero h = absurd (omega arith)
      go (suc q) h = refl

  -- the distance of a child's first is that of its row
  centre-is : (i : ℕ) → centre_at w x a u i ≡ x (first# w (a + i))
  centre-is zero = ap x (sym same_first)
  centre-is (suc i) = refl

  -- ---- its centres but the first are measured
  module _ (how' work₁ : List ℕ) (n e held' : ℕ) (en : n ≡ n# w) (ee : e ≡ a + m# w)
      (K₀ : GrewCentres x (is_in_lem struck) n wanted how how' work work₁ held held' (firsts_to w a (e - (a + 1)))) where
    -- they are one fewer than its children
    fewer : e - (a + 1) ≡ m# w - 1
    fewer = omega arith

    -- the same, said by the index alone
    K : GrewCentres x (is_in_lem struck) (n# w) wanted how how' work work₁ held held' (firsts_to w a (m# w - 1))
    K =
        subst (λ (m : ℕ). GrewCentres x (is_in_lem struck) (n# w) wanted how how' work work₁ held held' (firsts_to w a m)) fewer
        (subst (λ (n : ℕ). GrewCentres x (is_in_lem struck) n wanted how how' work work₁ held held' (firsts_to w a (e - (a + 1)))) en K₀)

    -- the distance of every centre is kept
    centre-kept : (i : ℕ) → i < m# w → kept work₁ (n# w) (first# w (a + i)) ≡ x (first# w (a + i))
    centre-kept zero l =
        subst (λ (r : ℕ). kept work₁ (n# w) r ≡ x r) (sym same_first)
        (K.alone.grew.keeps (first# w k) (first-row w S x k there) (first-kept t c q w wanted struck how work len held k b T))
    centre-kept (suc i) l =
        let r : ℕ = first# w (a + suc i) in
        K.seen r (first-row w S x (a + suc i) (kid_in w S k there in# (suc i) l))
        (omega (arith, sum_part (λ (j : ℕ). is r (first# w (a + suc j))) (m# w - 1) i (omega arith), is_self r))

    -- the frontier is as it was
    front : Queue work₁ 0 len × (entries work₁ 0 len ≡ entries work 0 len)
    front = frontier_stays (n# w) work work₁ len (omega (arith, T.room.fits)) K.alone.front K.alone.grew.since.words T.room.queue

    -- there is room for its children
    inner_room : FrontierRoom w work₁ n len (m# w)
    inner_room = record {
      shape = S;
      edition = T.room.edition;
      rows = en;
      queue = front.0;
      fits = omega (arith, T.room.fits, kids-fit);
      words = omega (arith, T.room.words, K.alone.grew.since.words);
    }

    -- ---- y is the least distance kept for a centre, and the children's entries are made with it
    module _ (y : ℕ) (ey : y ≡ least_kept w work₁ a (e - (a + 1))) where
      -- the least distance over the node's centres
      nearest-is : y ≡ nearest_at w x a u
      nearest-is =
          ey ∙ ap (least_kept w work₁ a) fewer
          ∙ least-same (λ (i : ℕ). kept work₁ (n# w) (first# w (a + i))) (centre_at w x a u) (m# w - 1)
          (λ i l. centre-kept i (omega (arith, S.whole.fan.0)) ∙ sym (centre-is i))

      -- the item of a child's entry is the child
      child-read : (i : ℕ) → i < m# w → item_of w x (noded w work₁ b y (a + i)) ≡ child_of w x a b u i
      child-read i l =
          let j : ℕ = a + i in
          item-node w x (child_bound_lem b y (kept work₁ (n# w) (first# w j)) (reach# w j)) j (omega (arith, kids_there, S.whole.nodes))
          (id-small t c q w wanted struck how work len held k b T j (omega (arith, kids_there, S.whole.nodes)))
          ∙ ap₂ (λ (v z : ℕ). node j (child_bound_lem b z v (reach# w j)) (x (first# w j))) (centre-kept i l ∙ sym (centre-is i)) nearest-is
          ∙ ap (λ (v : ℕ). node j (child_bound_lem b (nearest_at w x a u) (centre_at w x a u i) (reach# w j)) v) (sym (centre-is i))

      -- AN INNER NODE IS TAKEN: its centres are measured, and its children wait
      taken-inner : (work₂ : List ℕ) (kids last len' : ℕ) → kids ≡ m# w → last ≡ last_of work₁ (3 * n) wanted held'
          → More work₁ work₂ len kids (λ (i : ℕ). noded w work₁ b y (a + i)) last len'
          → Taken w x (is_in_lem struck) wanted how how' work work₂ len len' held held' (node k b (x (first# w k)))
      taken-inner work₂ kids last len' all el M₀ =
          let g : ℕ → ℕ = λ (i : ℕ). noded w work₁ b y (a + i) in
          let M : More work₁ work₂ len (m# w) g last len' = subst (λ (k : ℕ). More work₁ work₂ len k g last len') all M₀ in
          let O : Outside work₁ work₂ 0 (2 * n# w) =
          front_alone (n# w) len (m# w) work₁ work₂ (omega (arith, T.room.fits, kids-fit)) M.outside in
          let o = opened w x work₁ work₂ len (m# w) g last len' (child_of w x a b u) M child-read (last_of work₂ (3 * n# w) wanted held')
          (opened_by w x (node k b u)) (last_then w wanted work₁ work₂ held' last n (omega (arith, T.ready.stands.wanted)) en el O) opens-are in
          record {
            grew = grew-front x (is_in_lem struck) (n# w) wanted how how' work work₁ work₂ held held' (measured_by w (node k b u))
                (grew-as x (is_in_lem struck) (n# w) wanted how how' work work₁ held held' (firsts_to w a (m# w - 1))
                (measured_by w (node k b u)) measures-are K.alone.grew)
                O;
            seen = λ r l p. O.over (2 * n# w + r) (omega arith) ∙ K.seen r l (omega (arith, measures-are r));
            queue = M.queue;
            small = o.0;
            queued = subst
                (λ (es : List ℕ). SameBag (items w x work₂ len')
                (at_most bound_of (last_of work₂ (3 * n# w) wanted held') (opened_by w x (node k b u)) ++ map (item_of w x) es))
                front.1 o.1;
          }

  -- ---- the same, as the code holds the numbers: a is the first child's number, m how many there are
  -- what measuring the centres asks
  pub inner-asks : (n a m : ℕ) → n ≡ n# w → a ≡ child# w k → m ≡ m# w
      → Ready t c (circles# w) q (is_in_lem struck) n wanted how work held × (InShape w × (n ≡ n# w) × (a < a + m) × (a + m ≤ nodes# w))
  inner-asks n a m en ea em = (
    ready_at t c q w (is_in_lem struck) wanted how work held n (circles# w) en refl T.ready,
    (T.room.shape, en, omega (arith, T.room.shape.whole.fan.0), omega (arith, kids_there)),
  )

  -- what queueing the children asks
  pub inner-then : (how' work₁ : List ℕ) (n a m held' : ℕ) → n ≡ n# w → a ≡ child# w k → m ≡ m# w
      → GrewCentres (from t c (circles# w) q) (is_in_lem struck) n wanted how how' work work₁ held held' (firsts_to w a (a + m - (a + 1)))
      → FrontierRoom w work₁ n len (m# w)
  inner-then how' work₁ n a m held' en ea em =
      subst (λ (a : ℕ). GrewCentres x (is_in_lem struck) n wanted how how' work work₁ held held' (firsts_to w a (a + m - (a + 1)))
      → FrontierRoom w work₁ n len (m# w)) (sym ea)
      (λ K. inner_room how' work₁ n (child# w k + m) held' en (ap (λ (z : ℕ). child# w k + z) em) K)

  -- and what comes of it: the node is taken
  pub inner-done : (how' work₁ work₂ : List ℕ) (n a m kids y last len' held' : ℕ) → n ≡ n# w → a ≡ child# w k → m ≡ m# w → kids ≡ m# w
      → last ≡ last_of work₁ (3 * n) wanted held'
      → GrewCentres (from t c (circles# w) q) (is_in_lem struck) n wanted how how' work work₁ held held' (firsts_to w a (a + m - (a + 1)))
      → y ≡ least_kept w work₁ a (a + m - (a + 1)) → More work₁ work₂ len kids (λ (i : ℕ). noded w work₁ b y (a + i)) last len'
      → Taken w (from t c (circles# w) q) (is_in_lem struck) wanted how how' work work₂ len len' held held'
      (node k b (from t c (circles# w) q (first# w k)))
  inner-done how' work₁ work₂ n a m kids y last len' held' en ea em all el =
      subst
      (λ (a : ℕ). GrewCentres x (is_in_lem struck) n wanted how how' work work₁ held held' (firsts_to w a (a + m - (a + 1)))
      → y ≡ least_kept w work₁ a (a + m - (a + 1))
      → More work₁ work₂ len kids (λ (i : ℕ). noded w work₁ b y (a + i)) last len'
      → Taken w x (is_in_lem struck) wanted how how' work work₂ len len' held held' (node k b u)) (sym ea)
      (λ K ey M. taken-inner how' work₁ n (child# w k + m) held' en (ap (λ (z : ℕ). child# w k + z) em) K y ey work₂ kids last len' all el M)
