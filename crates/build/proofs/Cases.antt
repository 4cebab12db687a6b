-- The cases of 01 that are builds, of any call that meets its contract. Assumes nothing.
use Prim.Native.Nat.{◌*◌, ℕ}
use Rattle.build_refusals.specs.Numbers.{room_of, said_build}
use Rattle.build.specs.Cases.{Comes, empty_words, seven_words, sevens, table}
use Rattle.laws.specs.Every.{Every}
use Rattle.laws.specs.Lists.{range}
use Rattle.laws.specs.Upto.{sum_to}
use Rattle.limits.specs.Said.{number_faults}
use Rattle.measure.specs.Distance.{l1}
use Rattle.measure.specs.Table.{between, off_circle_lem, rows_of}
use Rattle.refusals.specs.Refused.{circle_faults}
use Rattle.tree.specs.Build.{build, choose, grow, split}
use Rattle.tree.specs.Cases.{five, five_words}
use Rattle.tree.specs.Encode.{broods, encode, family, level_nodes, nodes, numbered}
use Rattle.words.specs.Words.{nodes#, row#}
use borrow.Author.Tests.{le-ltb}
use lib.Dec.{eqb, ltb}
use lib.ListN.{drop, length, replicate}
use mathlib.Core.Bool.{Bool, cond, false, true}
use mathlib.Core.List.{List, [], ◌++◌, ◌∷◌, map}
use mathlib.Core.Path.{◌∙◌, ◌≡◌, ap, ap₂, refl}

-- a table whose words are known and whose rooms are long enough
comes : (T ws : List ℕ) → build T 1 0 2 2 2 ≡ ws → rows_of T 1 ≡ length T
    → ((room work : ℕ) → ltb room (room_of (length T)) ≡ false → ltb work (6 * length T) ≡ false → (said_build T 1 0 2 2 2 room work).0 ≡ 0)
    → Comes (T, ws)
comes T ws is n said room work room' work' number words count hr hw b =
    let z : number ≡ 0 =
    b.said ∙ said (length room) (length work) (le-ltb (length room) (room_of (length T)) hr) (le-ltb (length work) (6 * length T) hw) in
    let q : eqb number 0 ≡ true = ap (λ (k : ℕ). eqb k 0) z in
    record {
      done = z;
      long = b.counted.0 ∙ ap₂ (λ (p : Bool) (x : List ℕ). cond p (length x) 0) q is;
      many = b.counted.1 ∙ ap₂ (λ (p : Bool) (x : List ℕ). cond p (nodes# x) 0) q is;
      index = b.index ∙ ap₂ (λ (p : Bool) (x : List ℕ). cond p (x ++ drop (length x) room) room) q is;
      cleared = b.cleared ∙ ap₂ (λ (p : Bool) (k : ℕ). cond p (replicate (6 * k) 0 ++ drop (6 * k) work) work) q n;
    }

-- EVERY CALL ON A TABLE OF 01 LEAVES ITS WORDS: THE FIVE ROWS; FOUR EQUAL ROWS, IN THE ORDER 0 3 2 1 UNDER FIVE NODES; NO ROWS
pub build_cases : Every Comes table × (map (row# seven_words) (range 0 4) ≡ 0 ∷ 3 ∷ 2 ∷ 1 ∷ []) × (nodes# seven_words ≡ 5)
unfolding said_build number_faults circle_faults off_circle_lem sum_to l1 between family broods level_nodes nodes numbered encode choose split grow build
build_cases = (
  (
    comes five five_words refl refl (λ room work a b. rw (a, b)),
    (comes sevens seven_words refl refl (λ room work a b. rw (a, b)), (comes [] empty_words refl refl (λ room work a b. rw (a, b)), tt)),
  ),
  refl,
  refl,
)
