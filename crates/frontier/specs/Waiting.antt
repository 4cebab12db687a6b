-- The frontier in the workspace, as a queue of items. A working notion, on which no promise rests. Assumes nothing.
use Rattle.std.specs.Prelude.{◌*◌, ◌+◌, ◌-◌, ◌<◌, ◌≤◌, ℕ, leb, ltb, length, cond, List, ◌++◌, map, ◌≡◌}
use Rattle.frontier.specs.Workspace.{kept, work_words}
use Rattle.index_space.specs.Items.{IndexItem, greatest_word, least_to, node, place, place_bound}
use Rattle.laws.specs.Bags.{SameBag, upto}
use Rattle.laws.specs.Lists.{keep}
use Rattle.laws.specs.Outside.{Outside}
use Rattle.queue.specs.Entry.{id_of, key_of, packed}
use Rattle.queue.specs.Queue.{Queue, entries}
use Rattle.tree.specs.Grove.{reach#}
use Rattle.tree.specs.Homes.{child_bound_lem}
use Rattle.words.specs.InShape.{InShape}
use Rattle.words.specs.Words.{edition#, first#, n#}

-- ---- entries and items
-- the item of a key and an id: an id below 2n is a node's number, any other a position's, 2n on
abbrev pub item_by_lem : List ℕ → (ℕ → ℕ) → ℕ → ℕ → IndexItem
item_by_lem w x key id = cond (ltb id (2 * n# w)) (node id key (x (first# w id))) (place (id - 2 * n# w) key)

-- the item of an entry
unfoldable pub item_of : List ℕ → (ℕ → ℕ) → ℕ → IndexItem
item_of w x e = item_by_lem w x (key_of e) (id_of e)

-- the items that wait
abbrev pub items : List ℕ → (ℕ → ℕ) → List ℕ → ℕ → List IndexItem
items w x work len = map (item_of w x) (entries work 0 len)

-- the entry of position p of a leaf that has the bound b and its first at x
abbrev pub placed : List ℕ → ℕ → ℕ → ℕ → ℕ
placed w b x p = packed (place_bound w b x p) (2 * n# w + p)

-- the entry of node j, of a parent with the bound b and centres at y at least, by the distances that are kept
abbrev pub noded : List ℕ → List ℕ → ℕ → ℕ → ℕ → ℕ
noded w work b y j = packed (child_bound_lem b y (kept work (n# w) (first# w j)) (reach# w j)) j

-- of things with bounds, those whose bound is at most the last distance
abbrev pub at_most : {A : Type 0} → (A → ℕ) → ℕ → List A → List A
at_most bound last xs = keep (λ a. leb (bound a) last) xs

-- of k entries g 0, g 1, .. whose keys are numbers of 32 bits, those at most the last distance wait besides; the words behind the room for all are
-- as they were
pub record More (work work' : List ℕ) (len k : ℕ) (g : ℕ → ℕ) (last len' : ℕ) : Type 0 where
  pub queue : Queue work' 0 len'
  pub count : len' ≤ len + k
  pub keys : (i : ℕ) → i < k → key_of (g i) ≤ greatest_word
  pub bag : SameBag (entries work' 0 len') (at_most key_of last (upto g k) ++ entries work 0 len)
  pub outside : Outside work work' 0 (len + k + (len + k))

-- there is room to queue k more, on an index in shape and of edition 2 over n rows; no table is lent here
pub record FrontierRoom (w work : List ℕ) (n len k : ℕ) : Type 0 where
  pub shape : InShape w
  pub edition : edition# w ≡ 2
  pub rows : n ≡ n# w
  pub queue : Queue work 0 len
  pub fits : len + k ≤ n
  pub words : work_words n ≤ length work

-- the least of the distances kept for the firsts of the nodes a, a + 1, .. a + k
abbrev pub least_kept : List ℕ → List ℕ → ℕ → ℕ → ℕ
least_kept w work a k = least_to (λ (i : ℕ). kept work (n# w) (first# w (a + i))) k
