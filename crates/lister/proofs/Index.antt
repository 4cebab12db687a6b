-- The index that the build leaves in the room: its nodes and positions are there to be printed. Assumes nothing.
use Prim.Native.Nat.{◌*◌, ◌+◌, ◌≤◌, ℕ}
use Rattle.build.specs.Calls.{Builds}
use Rattle.laws.specs.Lists.{each}
use Rattle.measure.specs.Table.{between, rows_of}
use Rattle.tree.proofs.Written.{each_words}
use Rattle.tree.specs.Build.{build, plant}
use Rattle.tree.specs.Encode.{encode, node_words, numbered, pair_words}
use Rattle.tree.specs.Grove.{Grove, entries}
use Rattle.words.specs.Words.{nodes#, width}
use lib.Dec.{eqb}
use lib.ListN.{drop, length, length-append}
use mathlib.Core.Bool.{cond}
use mathlib.Core.List.{List, ◌++◌}
use mathlib.Core.Path.{◌∙◌, ◌≡◌, ap}
use native.Mathlib.Omega.{arith}

-- an index has the words of all its nodes
encode-nodes : (c o m l : ℕ) (t : Grove) → 8 + width 2 * nodes# (encode 2 c o m l t) ≤ length (encode 2 c o m l t)
unfolding encode
encode-nodes c o m l t =
    omega (arith, length-append (each (node_words 2) (numbered t)) (each pair_words (entries t)), each_words 2 (numbered t) (omega arith, omega arith))

-- so has the one that a build writes
build-nodes : (T : List ℕ) (c o m l : ℕ) → 8 + width 2 * nodes# (build T c o 2 m l) ≤ length (build T c o 2 m l)
unfolding build
build-nodes T c o m l = encode-nodes c o m l (plant (between T c o) m l (rows_of T c))

-- on 0 the nodes' words end where the positions' words begin, and these end in the room
pub built_there : (T : List ℕ) (c o m l : ℕ) (room work room' work' : List ℕ) (number words nodes : ℕ)
    → Builds T c o 2 m l room work room' work' number words nodes → number ≡ 0 → (8 + width 2 * nodes ≤ words) × (words ≤ length room')
built_there T c o m l room work room' work' number words nodes b z =
    let w : List ℕ = build T c o 2 m l in
    let long : words ≡ length w = b.counted.0 ∙ ap (λ (x : ℕ). cond (eqb x 0) (length w) 0) z in
    let made : nodes ≡ nodes# w = b.counted.1 ∙ ap (λ (x : ℕ). cond (eqb x 0) (nodes# w) 0) z in
    let there : room' ≡ w ++ drop (length w) room = b.index ∙ ap (λ (x : ℕ). cond (eqb x 0) (w ++ drop (length w) room) room) z in
    (omega (arith, build-nodes T c o m l), omega (arith, simp length-append at (ap length there)))
