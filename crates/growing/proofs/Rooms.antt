-- The nodes' words in the room: reading one, giving it its first child, and adding its children. Assumes nothing.
use Prim.Native.Nat.{◌*◌, ◌+◌, ◌≤◌, ℕ}
use Rattle.growing.specs.Levels.{leaf_node, placed}
use Rattle.growing.specs.Stages.{with_nodes}
use Rattle.laws.proofs.Joins.{each_append}
use Rattle.laws.specs.Lists.{each}
use Rattle.split.specs.Places.{child#, count#, node_at_lem, start#}
use Rattle.split.specs.Runs.{run_nodes}
use Rattle.tree.proofs.Written.{each_words}
use Rattle.tree.specs.Build.{inner_reach, radius}
use Rattle.tree.specs.Encode.{Node, node_words}
use Rattle.tree.specs.Grove.{Reach}
use lib.ListN.{drop, get_or, length, length-append, length-drop, set, take}
use lib.Seq.{drop-append-add, drop-drop, get_or_at, length-take-le, set_at, take_at}
use mathlib.Core.List.{List, [], ◌++◌, ◌∷◌, append_assoc, map}
use mathlib.Core.Path.{◌∙◌, ◌≡◌, ap, ap₂, refl, sym}
use native.Mathlib.Omega.{arith}

-- the nodes of runs that follow each other are the leaf nodes of their items
pub run-nodes : (d : ℕ → ℕ → ℕ) (m l at : ℕ) (rs : List (List ℕ)) → run_nodes d at rs ≡ each (node_words 2) (map (leaf_node d m l) (placed at rs))
unfolding run_nodes
run-nodes d m l at [] = refl
run-nodes d m l at (r ∷ rs) = ap (λ (x : List ℕ). at ∷ length r ∷ 0 ∷ radius d r ∷ inner_reach d r ∷ x) (run-nodes d m l (at + length r) rs)

module _ (o : List ℕ) (eight : 8 ≤ length o) where
  -- header and nodes take 8 + 5 words a node
  front_long : (ns : List Node) → length (take 8 o ++ each (node_words 2) ns) ≡ node_at_lem (length ns)
  front_long ns =
      length-append (take 8 o) (each (node_words 2) ns) ∙ omega (arith, each_words 2 ns (omega arith, omega arith), length-take-le 8 o eight)

  -- the room is as long as it was
  pub room-long : (ns : List Node) → node_at_lem (length ns) ≤ length o → length (with_nodes o ns) ≡ length o
  room-long ns h =
      ap length (sym (append_assoc (take 8 o) (each (node_words 2) ns) (drop (node_at_lem (length ns)) o)))
      ∙ omega (
        arith,
        length-append (take 8 o ++ each (node_words 2) ns) (drop (node_at_lem (length ns)) o),
        front_long ns,
        length-drop (node_at_lem (length ns)) o,
      )

  module _ (ns : List Node) (s n x : ℕ) (r : Reach) (os : List Node) where
    -- the words before one node
    abbrev front : List ℕ
    front = take 8 o ++ each (node_words 2) ns

    -- and those behind it
    abbrev rear : List ℕ
    rear = each (node_words 2) os ++ drop (node_at_lem (length (ns ++ (s, n, x, r) ∷ os))) o

    -- the room, cut at one node, whatever its first child is
    cut : (y : ℕ) → with_nodes o (ns ++ (s, n, y, r) ∷ os) ≡ front ++ s ∷ n ∷ y ∷ r.outer ∷ r.inner ∷ rear
    cut y =
        let k : length (ns ++ (s, n, y, r) ∷ os) ≡ length (ns ++ (s, n, x, r) ∷ os) =
        length-append ns ((s, n, y, r) ∷ os) ∙ sym (length-append ns ((s, n, x, r) ∷ os)) in
        ap₂ (λ (z : List ℕ) (j : ℕ). take 8 o ++ (z ++ drop (node_at_lem j) o)) (each_append (node_words 2) ns ((s, n, y, r) ∷ os)) k
        ∙ ap (λ (z : List ℕ). take 8 o ++ z)
        (append_assoc (each (node_words 2) ns) (s ∷ n ∷ y ∷ r.outer ∷ r.inner ∷ each (node_words 2) os)
        (drop (node_at_lem (length (ns ++ (s, n, x, r) ∷ os))) o))
        ∙ sym (append_assoc (take 8 o) (each (node_words 2) ns) (s ∷ n ∷ y ∷ r.outer ∷ r.inner ∷ rear))

    -- its start is read
    pub read-start : start# (with_nodes o (ns ++ (s, n, x, r) ∷ os)) (length ns) ≡ s
    read-start =
        ap (λ (z : List ℕ). get_or z (node_at_lem (length ns)) 0) (cut x)
        ∙ get_or_at front s (n ∷ x ∷ r.outer ∷ r.inner ∷ rear) 0 (node_at_lem (length ns)) (front_long ns)

    -- its count is read
    pub read_count : count# (with_nodes o (ns ++ (s, n, x, r) ∷ os)) (length ns) ≡ n
    read_count =
        ap (λ (z : List ℕ). get_or z (node_at_lem (length ns) + 1) 0) (cut x ∙ sym (append_assoc front (s ∷ []) (n ∷ x ∷ r.outer ∷ r.inner ∷ rear)))
        ∙ get_or_at (front ++ s ∷ []) n (x ∷ r.outer ∷ r.inner ∷ rear) 0 (node_at_lem (length ns) + 1)
        (length-append front (s ∷ []) ∙ ap (λ (k : ℕ). k + 1) (front_long ns))

    -- its first child's number is read
    pub read-child : child# (with_nodes o (ns ++ (s, n, x, r) ∷ os)) (length ns) ≡ x
    read-child =
        ap (λ (z : List ℕ). get_or z (node_at_lem (length ns) + 2) 0) (cut x ∙ sym (append_assoc front (s ∷ n ∷ []) (x ∷ r.outer ∷ r.inner ∷ rear)))
        ∙ get_or_at (front ++ s ∷ n ∷ []) x (r.outer ∷ r.inner ∷ rear) 0 (node_at_lem (length ns) + 2)
        (length-append front (s ∷ n ∷ []) ∙ ap (λ (k : ℕ). k + 2) (front_long ns))

    -- its first child's number is written
    pub child-set : (y : ℕ) → set (with_nodes o (ns ++ (s, n, x, r) ∷ os)) (node_at_lem (length ns) + 2) y ≡ with_nodes o (ns ++ (s, n, y, r) ∷ os)
    child-set y =
        ap (λ (z : List ℕ). set z (node_at_lem (length ns) + 2) y) (cut x ∙ sym (append_assoc front (s ∷ n ∷ []) (x ∷ r.outer ∷ r.inner ∷ rear)))
        ∙ set_at (front ++ s ∷ n ∷ []) x (r.outer ∷ r.inner ∷ rear) y (node_at_lem (length ns) + 2)
        (length-append front (s ∷ n ∷ []) ∙ ap (λ (k : ℕ). k + 2) (front_long ns))
        ∙ append_assoc front (s ∷ n ∷ []) (y ∷ r.outer ∷ r.inner ∷ rear) ∙ sym (cut y)

  -- nodes are added behind those that are there
  pub nodes-added : (ns new : List Node) (made k : ℕ) {room room' : List ℕ} → length ns ≡ made → length new ≡ k → room ≡ with_nodes o ns
      → room' ≡ take (node_at_lem made) room ++ (each (node_words 2) new ++ drop (node_at_lem (made + k)) room)
      → room' ≡ with_nodes o (ns ++ new)
  nodes-added ns new made k {room} lm lk r e =
      let F : List ℕ = take 8 o ++ each (node_words 2) ns in
      let R : List ℕ = drop (node_at_lem (length ns)) o in
      let behind : List ℕ = drop (node_at_lem (length (ns ++ new))) o in
      let whole : room ≡ F ++ R = r ∙ sym (append_assoc (take 8 o) (each (node_words 2) ns) R) in
      let start : length F ≡ node_at_lem made = front_long ns ∙ ap (λ (j : ℕ). node_at_lem j) lm in
      let end : node_at_lem (made + k) ≡ length F + 5 * k = omega arith in
      let last : node_at_lem (length ns) + 5 * k ≡ node_at_lem (length (ns ++ new)) = omega (arith, length-append ns new) in
      let fore : take (node_at_lem made) room ≡ F = ap (take (node_at_lem made)) whole ∙ take_at F R (node_at_lem made) start in
      let rest : drop (node_at_lem (made + k)) room ≡ behind =
      ap₂ drop end whole ∙ drop-append-add F R (5 * k) ∙ drop-drop (5 * k) (node_at_lem (length ns)) o ∙ ap (λ (j : ℕ). drop j o) last in
      e ∙ ap₂ (λ (a b : List ℕ). a ++ (each (node_words 2) new ++ b)) fore rest
      ∙ append_assoc (take 8 o) (each (node_words 2) ns) (each (node_words 2) new ++ behind)
      ∙ ap (λ (x : List ℕ). take 8 o ++ x) (sym (append_assoc (each (node_words 2) ns) (each (node_words 2) new) behind)
      ∙ ap (λ (x : List ℕ). x ++ behind) (sym (each_append (node_words 2) ns new)))
