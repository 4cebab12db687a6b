-- What a search finds over the index that the build has just written, which the full check accepts. Assumes nothing.
use Prim.Native.Nat.{◌≤◌, min, ℕ}
use Rattle.build.specs.Calls.{Builds}
use Rattle.finder.specs.Answers.{Closest}
use Rattle.measure.specs.Table.{between, from, rows_of}
use Rattle.nearest.proofs.Promises.{nearest-exact}
use Rattle.nearest_refusals.proofs.Refusals.{not-refused}
use Rattle.nearest.specs.Calls.{Answered}
use Rattle.nearest_search.specs.Found.{Settled}
use Rattle.nearest_steps.specs.Asked.{asks, lends}
use Rattle.rowset.specs.Sets.{is_in_lem}
use Rattle.tree.proofs.Answers.{answers_length}
use Rattle.tree.specs.Build.{build}
use Rattle.tree.specs.Check.{Accepted}
use Rattle.tree.specs.Nearest.{answers, remaining}
use Rattle.words.specs.Words.{circles#, n#}
use lib.Dec.{eqb}
use lib.ListN.{drop, length, length-append, length-map, take}
use lib.Seq.{take_at}
use mathlib.Core.Bool.{cond}
use mathlib.Core.List.{List, ◌++◌, map}
use mathlib.Core.Path.{◌∙◌, ◌≡◌, ap, sym}
use native.Mathlib.Omega.{arith}

-- the words that the build counts stand in the room
pub words_there : {t : List ℕ} {c o e m l : ℕ} {room work room' work' : List ℕ} {number words nodes : ℕ}
    → Builds t c o e m l room work room' work' number words nodes → number ≡ 0 → words ≤ length room'
words_there {t} {c} {o} {e} {m} {l} {room} {words = words} b z =
    let w : List ℕ = build t c o 2 m l in
    let long : words ≡ length w = b.counted.0 ∙ ap (λ (x : ℕ). cond (eqb x 0) (length w) 0) z in
    let there = b.index ∙ ap (λ (x : ℕ). cond (eqb x 0) (w ++ drop (length w) room) room) z in
    omega (arith, simp length-append at (ap length there))

-- ---- over an accepted index w
module _ {t : List ℕ} {c : ℕ} (q : List ℕ) {w : List ℕ} (s : List ℕ) (a : Accepted (between t c (circles# w)) w) where
  -- a nearest search that is not refused
  module _ {rs rs' ds ds' how how' work work' : List ℕ} {wanted number given met : ℕ}
      (x : Answered (asks t c w q wanted s) (min (length rs) (length ds)) (lends rs ds how work) (lends rs' ds' how' work') number given met) (z : number ≡ 0) where
    -- settles its answers
    settled : Settled (from t c (circles# w) q) (is_in_lem s) w wanted (lends rs ds how work) (lends rs' ds' how' work') given
    settled = nearest-exact x z a

    -- and has as many rows in its index as in its table
    rows_are : n# w ≡ rows_of t c
    rows_are = (not-refused t c w q wanted s (min (length rs) (length ds)) (length how) (length work) (sym x.said ∙ z)).rows

    -- its rows, or its distances, are as many as are given
    part_length : (f : ℕ × ℕ → ℕ) → length (map f (answers (from t c (circles# w) q) (is_in_lem s) (n# w) wanted)) ≡ given
    part_length f =
        length-map (answers (from t c (circles# w) q) (is_in_lem s) (n# w) wanted) f
        ∙ answers_length (from t c (circles# w) q) (is_in_lem s) (n# w) wanted
        ∙ sym settled.count

    -- and stand at the front of their room
    first_part : (f : ℕ × ℕ → ℕ) (xs xs' : List ℕ) → xs' ≡ map f (answers (from t c (circles# w) q) (is_in_lem s) (n# w) wanted) ++ drop given xs
        → take given xs' ≡ map f (answers (from t c (circles# w) q) (is_in_lem s) (rows_of t c) wanted)
    first_part f xs xs' e =
        ap (take given) e
        ∙ take_at (map f (answers (from t c (circles# w) q) (is_in_lem s) (n# w) wanted)) (drop given xs) given (part_length f)
        ∙ ap (λ (k : ℕ). map f (answers (from t c (circles# w) q) (is_in_lem s) k wanted)) rows_are

    -- which has room for them
    same-long : (f : ℕ × ℕ → ℕ) (xs xs' : List ℕ) → xs' ≡ map f (answers (from t c (circles# w) q) (is_in_lem s) (n# w) wanted) ++ drop given xs
        → given ≤ length xs'
    same-long f xs xs' e = omega (arith, part_length f, simp length-append at (ap length e))

    -- the nearest search gives the nearest rows
    pub nearest-given : Closest t c (circles# w) q wanted s rs' ds' given
    nearest-given =
        record {
          few = (same-long (λ a. a.0) rs rs' settled.rows, same-long (λ a. a.1) ds ds' settled.distances);
          count = settled.count ∙ ap (λ (n : ℕ). min wanted (remaining (is_in_lem s) n)) rows_are;
          rows# = first_part (λ a. a.0) rs rs' settled.rows;
          distances# = first_part (λ a. a.1) ds ds' settled.distances;
        }
