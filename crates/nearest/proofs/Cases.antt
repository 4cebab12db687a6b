-- The nearest cases of 01, The five-row table, of the call. Assumes nothing.
use Prim.Native.Nat.{min, ℕ}
use Rattle.laws.proofs.Every.{every_of}
use Rattle.laws.specs.Every.{Every}
use Rattle.laws.specs.Upto.{sum_to}
use Rattle.limits.specs.Said.{number_faults, said, tabled}
use Rattle.measure.proofs.OnCircle.{plain_on, round_rows}
use Rattle.measure.specs.Distance.{l1}
use Rattle.measure.specs.Table.{between, from, off_circle_lem}
use Rattle.nearest.proofs.Promises.{count-is, nearest-exact}
use Rattle.nearest_refusals.proofs.Refusals.{taken, twenty}
use Rattle.nearest.specs.Cases.{Case, Gets, Twenty, asked, struck_out, wrong_sets}
use Rattle.refusals.proofs.Refusals.{clear}
use Rattle.refusals.specs.Refused.{call_faults, circle_faults}
use Rattle.rowset.specs.Sets.{bit_of, is_in_lem, set_bad_lem}
use Rattle.tree.proofs.Built.{build-accepted}
use Rattle.tree.specs.Build.{build, choose, grow, split}
use Rattle.tree.specs.Cases.{five, five_words}
use Rattle.tree.specs.Check.{Accepted}
use Rattle.tree.specs.Encode.{broods, encode, family, level_nodes, nodes, numbered}
use Rattle.tree.specs.Grove.{tree_at, tree_of}
use Rattle.tree.specs.Homes.{homes, homes_in}
use Rattle.tree.specs.Nearest.{answers, measured, near_how, passes, remaining}
use Rattle.words.specs.Index.{fit_faults}
use Rattle.words.specs.Shape.{born, level, node_ok_lem, shape_ok_lem, tile}
use Rattle.words.specs.Words.{card_ok_lem, header_ok_lem, whole_ok, words_ok_lem}
use lib.ListN.{drop, length}
use mathlib.Core.Bool.{false, true}
use mathlib.Core.List.{List, [], ◌++◌, ◌∷◌, map}
use mathlib.Core.Path.{◌∙◌, ◌≡◌, ap, ap₂, refl, subst, sym}
use native.Mathlib.Omega.{arith}

-- the build writes the index of the five-row table
built : build five 1 0 2 2 2 ≡ five_words
unfolding sum_to l1 between family broods level_nodes nodes numbered encode choose split grow build
built = refl

-- and so the full check accepts it
accepted : Accepted (between five 1 0) five_words
accepted =
    subst (Accepted (between five 1 0)) built
    (build-accepted five 1 0 2 2 2 refl refl refl refl (omega arith) (omega arith, (omega arith, (omega arith, (omega arith, (omega arith, tt)))))
    (round_rows five 1 0 refl (plain_on five 1)))

-- how far the query q is from a row
abbrev x : ℕ → ℕ → ℕ
x q = from five 1 0 (q ∷ [])

-- the definition gives what the case says
pub record Right (k : Case) : Type 0 where
  pub some : k.wanted ≡ 0 → ⊥
  pub right : set_bad_lem k.withdrawn 5 ≡ false
  pub count : min k.wanted (remaining (is_in_lem k.withdrawn) 5) ≡ length k.answers
  pub first : answers (x k.query) (is_in_lem k.withdrawn) 5 k.wanted ≡ k.answers
  pub near : near_how (x k.query) (is_in_lem k.withdrawn) 5 (tree_of five_words) k.wanted ≡ k.bytes
  pub met : measured k.bytes ≡ k.met

-- it does so in every case, by computation
right_all : Every Right asked
unfolding sum_to l1 from bit_of set_bad_lem answers tree_at tree_of homes_in homes passes near_how
right_all = (
  record { some = λ e. omega arith; right = refl; count = refl; first = refl; near = refl; met = refl },
  (
    record { some = λ e. omega arith; right = refl; count = refl; first = refl; near = refl; met = refl },
    (
      record { some = λ e. omega arith; right = refl; count = refl; first = refl; near = refl; met = refl },
      (
        record { some = λ e. omega arith; right = refl; count = refl; first = refl; near = refl; met = refl },
        (record { some = λ e. omega arith; right = refl; count = refl; first = refl; near = refl; met = refl }, tt),
      ),
    ),
  ),
)

-- and so where rows are withdrawn
right-struck : Every Right struck_out
unfolding sum_to l1 from bit_of set_bad_lem answers tree_at tree_of homes_in homes passes near_how
right-struck = (
  record { some = λ e. omega arith; right = refl; count = refl; first = refl; near = refl; met = refl },
  (
    record { some = λ e. omega arith; right = refl; count = refl; first = refl; near = refl; met = refl },
    (
      record { some = λ e. omega arith; right = refl; count = refl; first = refl; near = refl; met = refl },
      (record { some = λ e. omega arith; right = refl; count = refl; first = refl; near = refl; met = refl }, tt),
    ),
  ),
)

-- neither the table nor the index has a fault
none_wrong : (q : ℕ) → (said (call_faults (tabled 5 1) five five_words (q ∷ []))).0 ≡ 0
unfolding off_circle_lem circle_faults number_faults card_ok_lem header_ok_lem whole_ok words_ok_lem born level tile node_ok_lem shape_ok_lem fit_faults call_faults
none_wrong q = refl

-- where the definition gives it, so does every outcome of the call
gets : (k : Case) → Right k → Gets k
gets k R b b' number given met f g d e s =
    let n : number ≡ 0 =
    s.said
    ∙ sym (taken five 1 five_words (k.query ∷ []) k.wanted k.withdrawn (min (length b.rows) (length b.distances)) (length b.how)
    (length b.work) (clear (tabled 5 1) five five_words (k.query ∷ []) (none_wrong k.query)) (omega arith, d, e) refl R.some R.right) in
    let Z = nearest-exact s n accepted in
    let c : given ≡ length k.answers = Z.count ∙ R.count in (
      n,
      c,
      count-is s n (x k.query) Z ∙ ap measured R.near ∙ R.met,
      Z.rows ∙ ap₂ (λ (as' : List (ℕ × ℕ)) (m : ℕ). map (λ a. a.0) as' ++ drop m b.rows) R.first c,
      Z.distances ∙ ap₂ (λ (as' : List (ℕ × ℕ)) (m : ℕ). map (λ a. a.1) as' ++ drop m b.distances) R.first c,
      Z.bytes ∙ ap (λ (l : List ℕ). l ++ drop 5 b.how) R.near,
    )

-- EVERY CASE COMES OUT, WHATEVER THE CALL IS LENT
pub nearest_cases : Every Gets asked
nearest_cases = every_of Right Gets gets asked right_all

pub withdrawn_cases : Every Gets struck_out
withdrawn_cases = every_of Right Gets gets struck_out right-struck

-- ---- sets that are refused
-- they are by computation
wrong_all : Every (λ s. set_bad_lem s 5 ≡ true) wrong_sets
unfolding bit_of set_bad_lem
wrong_all = (refl, (refl, (refl, tt)))

-- EACH IS REFUSED WITH 20
pub twenty_cases : Every Twenty wrong_sets
twenty_cases =
    every_of (λ s. set_bad_lem s 5 ≡ true) Twenty
    (λ s wrong b b' number given met f g d e r.
    r.said
    ∙ sym (twenty five 1 five_words (9 ∷ []) 1 s (min (length b.rows) (length b.distances)) (length b.how) (length b.work)
    (clear (tabled 5 1) five five_words (9 ∷ []) (none_wrong 9)) (omega arith, d, e) refl (λ z. omega arith) wrong))
    wrong_sets wrong_all
