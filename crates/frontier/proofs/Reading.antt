-- Entries of the frontier read as items, and the items that wait when entries are queued. Assumes nothing.
use Prim.Native.Nat.{◌*◌, ◌+◌, ◌-◌, ◌<◌, ◌≤◌, ℕ}
use Rattle.frontier.proofs.Beyond.{parts_same}
use Rattle.frontier.specs.Waiting.{More, at_most, item_by_lem, item_of, items}
use Rattle.index_space.specs.Items.{IndexItem, bound_of, greatest_word, node, place}
use Rattle.laws.proofs.Bags.{total-append, total-map, total-upto}
use Rattle.laws.proofs.Sums.{sum_below-zero}
use Rattle.laws.specs.Bags.{SameBag, total, upto}
use Rattle.queue.proofs.Entries.{id_packed, key_packed}
use Rattle.queue.specs.Entry.{id_of, key_of, packed}
use Rattle.queue.specs.Queue.{entries}
use Rattle.words.specs.Words.{first#, n#}
use borrow.Author.Tests.{le-ltb, lt-ltb}
use lib.Dec.{ltb}
use mathlib.Core.Bool.{Bool, cond, false, true}
use mathlib.Core.List.{List, ◌++◌}
use mathlib.Core.Path.{◌∙◌, ◌≡◌, ap, ap₂, refl, subst, sym}
use native.Mathlib.Omega.{arith}

module _ (w : List ℕ) (x : ℕ → ℕ) where
  -- ---- reading an entry
  -- an id below 2n is a node's number
  as-node : (key id : ℕ) → id < 2 * n# w → item_by_lem w x key id ≡ node id key (x (first# w id))
  as-node key id h = ap (λ (b : Bool). cond b (node id key (x (first# w id))) (place (id - 2 * n# w) key)) (lt-ltb id (2 * n# w) h)

  -- any other is a position's, 2n on
  as_place : (key id : ℕ) → 2 * n# w ≤ id → item_by_lem w x key id ≡ place (id - 2 * n# w) key
  as_place key id h = ap (λ (b : Bool). cond b (node id key (x (first# w id))) (place (id - 2 * n# w) key)) (le-ltb id (2 * n# w) h)

  -- the item of an entry, by its key and its id
  item_by : (k i : ℕ) → i < 4294967296 → item_of w x (packed k i) ≡ item_by_lem w x k i
  unfolding item_of
  item_by k i h = ap₂ (item_by_lem w x) (key_packed k i h) (id_packed k i h)

  -- the item of a node's entry
  pub item-node : (k i : ℕ) → i < 2 * n# w → i < 4294967296 → item_of w x (packed k i) ≡ node i k (x (first# w i))
  item-node k i h l = item_by k i l ∙ as-node k i h

  -- the item of a position's entry
  pub item-place : (k p : ℕ) → 2 * n# w + p < 4294967296 → item_of w x (packed k (2 * n# w + p)) ≡ place p k
  item-place k p l =
      let i : ℕ = 2 * n# w + p in
      let e : i - 2 * n# w ≡ p = omega arith in
      item_by k i l ∙ as_place k i (omega arith) ∙ ap (λ (z : ℕ). place z k) e

  -- the item of an entry whose id the code reads: a node
  pub node-read : (e id key : ℕ) → id ≡ id_of e → key ≡ key_of e → id < 2 * n# w → item_of w x e ≡ node id key (x (first# w id))
  unfolding item_of
  node-read e id key ei ek h = ap₂ (item_by_lem w x) (sym ek) (sym ei) ∙ as-node key id h

  -- and a position
  pub place_read : (e id : ℕ) → id ≡ id_of e → 2 * n# w ≤ id → item_of w x e ≡ place (id - 2 * n# w) (key_of e)
  unfolding item_of
  place_read e id ei h = ap (item_by_lem w x (key_of e)) (sym ei) ∙ as_place (key_of e) id h

  -- an item's bound is its entry's key
  pub item-bound : (e : ℕ) → bound_of (item_of w x e) ≡ key_of e
  unfolding item_of
  item-bound e = go (ltb (id_of e) (2 * n# w))
    where
      go : (b : Bool) → bound_of (cond b (node (id_of e) (key_of e) (x (first# w (id_of e)))) (place (id_of e - 2 * n# w) (key_of e))) ≡ key_of e
      go true = refl
      go false = refl

  -- ---- items that wait besides, of k that are opened: these are known by their entries
  module _ (work work' : List ℕ) (len k : ℕ) (g : ℕ → ℕ) (last len' : ℕ) (f : ℕ → IndexItem) (M : More work work' len k g last len')
      (e : (i : ℕ) → i < k → item_of w x (g i) ≡ f i) where
    -- an entry's key is the bound of its item
    same-bound : (i : ℕ) → i < k → key_of (g i) ≡ bound_of (f i)
    same-bound i l = sym (item-bound (g i)) ∙ ap bound_of (e i l)

    -- the items that wait are those opened whose bound is at most the last distance, and those that waited
    added : SameBag (items w x work' len') (at_most bound_of last (upto f k) ++ items w x work len)
    added h =
        let v : ℕ → ℕ = λ (a : ℕ). h (item_of w x a) in
        omega (
          arith,
          total-map h (item_of w x) (entries work' 0 len'),
          total-map h (item_of w x) (entries work 0 len),
          M.bag v,
          total-append v (at_most key_of last (upto g k)) (entries work 0 len),
          total-append h (at_most bound_of last (upto f k)) (items w x work len),
          parts_same key_of v bound_of h last g f k (λ i l. (same-bound i l, ap h (e i l))),
        )

    -- the bounds of all that are opened are numbers of 32 bits
    small : total (λ (j : IndexItem). bound_of j - greatest_word) (upto f k) ≡ 0
    small =
        total-upto (λ (j : IndexItem). bound_of j - greatest_word) f k
        ∙ sum_below-zero (λ (i : ℕ). bound_of (f i) - greatest_word) k (λ i l. omega (arith, same-bound i l, M.keys i l))

    -- both, as `Taken` says them: where the last distance stays, and these are what an item opens
    pub opened : (last' : ℕ) (l : List IndexItem) → last ≡ last' → upto f k ≡ l
        → (total (λ (j : IndexItem). bound_of j - greatest_word) l ≡ 0) × SameBag (items w x work' len') (at_most bound_of last' l ++ items w x work len)
    opened last' l el ef = (
      subst (λ (l : List IndexItem). total (λ (j : IndexItem). bound_of j - greatest_word) l ≡ 0) ef small,
      subst (λ (l : List IndexItem). SameBag (items w x work' len') (at_most bound_of last' l ++ items w x work len)) ef
          (subst (λ (last : ℕ). SameBag (items w x work' len') (at_most bound_of last (upto f k) ++ items w x work len)) el added),
    )
