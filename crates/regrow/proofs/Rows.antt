-- The pieces of a level: their nodes and the pieces of the level below, for one piece more. Assumes nothing.
use Prim.Native.Nat.{◌+◌, ◌≤◌, suc, zero, ℕ}
use Rattle.growing.specs.Levels.{Item, leaf_node}
use Rattle.laws.proofs.Joins.{each_append}
use Rattle.laws.specs.Lists.{range}
use Rattle.regrow.specs.Pieces.{Job, Piece, all_nodes, fresh, fresh_of, kept, level_out_lem, next_level, with_kids, parts, pending, piece}
use Rattle.regrow.specs.Stages.{Own}
use Rattle.tree.specs.Encode.{Node}
use borrow.Author.Tests.{eqb-true}
use lib.Dec.{eqb}
use lib.ListN.{length, length-append, length-map}
use mathlib.Core.Bool.{Bool, cond, false, true}
use mathlib.Core.List.{List, [], ◌++◌, ◌∷◌, append-nil, map}
use mathlib.Core.Path.{◌∙◌, ◌≡◌, ap, ap₂, refl, sym}
use native.Mathlib.Nat.{add-zero}
use native.Mathlib.Omega.{arith}

-- a node whose pieces are known has their number
pub kids-some : (next : ℕ) (x : Node) (ks : List Piece) → 1 ≤ length ks → with_kids next x ks ≡ (x.0, x.1, next, x.3)
kids-some next x [] h = absurd (omega arith)
kids-some next x (k ∷ ks) h = refl

-- the words of runs' pieces while they wait are those of the build's items
pub fresh-nodes : (j : Job) (m l : ℕ) (qs : List Item) → map (leaf_node j.d m l) qs ≡ map (pending j) (map (fresh_of j.d) qs)
fresh-nodes j m l [] = refl
fresh-nodes j m l (q ∷ qs) = ap (λ (ns : List Node). leaf_node j.d m l q ∷ ns) (fresh-nodes j m l qs)

module _ (j : Job) where
  -- the words of an old node's piece while it waits are its copy
  pub piece-node : Own j → (o : ℕ) → pending j (piece j o) ≡ j.copy o
  piece-node own o = go (eqb o j.v) refl
    where
      go : (b : Bool) → eqb o j.v ≡ b → pending j (cond b (fresh (j.copy j.v).0 (j.copy j.v).3 j.run) (kept o)) ≡ j.copy o
      go true e = sym own ∙ ap j.copy (sym (eqb-true o j.v e))
      go false e = refl

  -- so for old nodes that follow each other
  pub piece-nodes : Own j → (o k : ℕ) → map j.copy (range o k) ≡ map (pending j) (map (piece j) (range o k))
  piece-nodes own o zero = refl
  piece-nodes own o (suc k) = ap₂ (λ (x : Node) (ns : List Node). x ∷ ns) (sym (piece-node own o)) (piece-nodes own (suc o) k)

  -- the last piece's parts stand last on the level below
  pub next_last : (done : List Piece) (q : Piece) → next_level j (done ++ q ∷ []) ≡ next_level j done ++ parts j q
  next_last done q = each_append (parts j) done (q ∷ []) ∙ ap (λ (x : List Piece). next_level j done ++ x) (append-nil (parts j q))

  -- as many nodes as pieces
  pub out_long : (next : ℕ) (qs : List Piece) → length (level_out_lem j next qs) ≡ length qs
  unfolding level_out_lem
  out_long next [] = refl
  out_long next (q ∷ qs) = ap suc (out_long (next + length (parts j q)) qs)

  -- of two stretches of pieces, the second numbers its children after the first's
  out_append : (next : ℕ) (ps qs : List Piece)
      → level_out_lem j next (ps ++ qs) ≡ level_out_lem j next ps ++ level_out_lem j (next + length (next_level j ps)) qs
  unfolding level_out_lem
  out_append next [] qs = rw add-zero
  out_append next (p ∷ ps) qs =
      let k : next + length (parts j p) + length (next_level j ps) ≡ next + length (parts j p ++ next_level j ps) =
      omega (arith, length-append (parts j p) (next_level j ps)) in
      ap (λ (ns : List Node). with_kids next (pending j p) (parts j p) ∷ ns)
      (out_append (next + length (parts j p)) ps qs
      ∙ ap (λ (i : ℕ). level_out_lem j (next + length (parts j p)) ps ++ level_out_lem j i qs) k)

  -- the last piece's node stands last
  pub out-last : (next : ℕ) (done : List Piece) (q : Piece)
      → level_out_lem j next (done ++ q ∷ []) ≡ level_out_lem j next done ++ with_kids (next + length (next_level j done)) (pending j q) (parts j q) ∷ []
  unfolding level_out_lem
  out-last next done q = out_append next done (q ∷ [])

  -- ---- there are at least as many nodes as those of a level
  pub all-some : (deep next : ℕ) (qs : List Piece) → length qs ≤ length (all_nodes j deep next qs)
  unfolding all_nodes
  all-some zero next qs = omega (arith, length-map qs (pending j))
  all-some (suc deep) next qs =
      let rest : List Node = all_nodes j deep (next + length (next_level j qs)) (next_level j qs) in
      omega (arith, length-append (level_out_lem j next qs) rest, out_long next qs)

  -- and of the one below it
  pub all_more : (deep next : ℕ) (qs : List Piece)
      → length (all_nodes j (suc deep) next qs) ≡ length qs + length (all_nodes j deep (next + length (next_level j qs)) (next_level j qs))
  unfolding all_nodes
  all_more deep next qs =
      let rest : List Node = all_nodes j deep (next + length (next_level j qs)) (next_level j qs) in
      length-append (level_out_lem j next qs) rest ∙ ap (λ (k : ℕ). k + length rest) (out_long next qs)
