-- What the call promises: 01, Numbers given back, and The tree. Assumes nothing.
use Rattle.std.specs.Prelude.{◌*◌, ℕ, eqb, drop, length, replicate, take, cond, List, ◌++◌, ◌≡◌, Result, Ok, Err}
use Rattle.build.specs.declared.Built.{Built}
use Rattle.build_refusals.specs.Numbers.{said_build}
use Rattle.limits.specs.declared.refusal.Refusal.{Refusal}
use Rattle.measure.specs.Table.{between, rows_of}
use Rattle.tree.specs.Build.{build}
use Rattle.tree.specs.Check.{Accepted}
use Rattle.words.specs.Words.{nodes#}

-- how many words were written, and how many nodes they hold: none where the call is refused
abbrev pub words_of : Result Built Refusal → ℕ
words_of (Ok b) = b.words
words_of (Err r) = 0

abbrev pub nodes_of : Result Built Refusal → ℕ
nodes_of (Ok b) = b.nodes
nodes_of (Err r) = 0

-- For every input: the number is the first that applies. On 0 the index of 01 in edition 2 stands at the front of the room and the first 6n words
-- of the workspace are zero, both as they were beyond that, and the full check accepts the index; on a refusal both are as they were and the counts
-- are 0
pub record Builds (T : List ℕ) (c o e m l : ℕ) (room work room' work' : List ℕ) (number words nodes : ℕ) : Type 0 where
  pub said : number ≡ (said_build T c o e m l (length room) (length work)).0
  pub counted : (words ≡ cond (eqb number 0) (length (build T c o 2 m l)) 0) × (nodes ≡ cond (eqb number 0) (nodes# (build T c o 2 m l)) 0)
  pub index : room' ≡ cond (eqb number 0) (build T c o 2 m l ++ drop (length (build T c o 2 m l)) room) room
  pub cleared : work' ≡ cond (eqb number 0) (replicate (6 * rows_of T c) 0 ++ drop (6 * rows_of T c) work) work
  pub accepted : number ≡ 0 → Accepted (between T c o) (take words room')
