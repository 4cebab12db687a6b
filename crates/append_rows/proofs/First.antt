-- The rows that are put into an index: where it has none, the first row's index, built apart, takes the others. Assumes nothing.
use Prim.Native.Nat.{◌*◌, ◌+◌, ◌<◌, ◌≤◌, ℕ}
use Rattle.append.proofs.Growing.{grows-fits}
use Rattle.append.proofs.Outcomes.{Passed, built_appends}
use Rattle.append.specs.Calls.{Appends}
use Rattle.append_rows.proofs.Turning.{append-none, append-writes, rows-onward}
use Rattle.append_rows.specs.Putting.{Puttable}
use Rattle.appending.proofs.Appending.{append_header}
use Rattle.appending.proofs.Back.{tree-fits}
use Rattle.build.proofs.Outcomes.{small as sixteen}
use Rattle.build.specs.Calls.{Builds}
use Rattle.build_refusals.specs.Numbers.{room_of}
use Rattle.measure.proofs.OnCircle.{round_rows}
use Rattle.measure.specs.Table.{between, rows_of}
use Rattle.refilling.specs.Joining.{RowsJoin, RowsJoinable}
use Rattle.swelling.proofs.Turns.{Part, next, onward, step, then'}
use Rattle.swelling.specs.Rows.{appended_rows, first_rows_lem}
use Rattle.tree.proofs.Accepted.{shape_of}
use Rattle.tree.specs.Check.{Accepted, faults}
use Rattle.words.proofs.Headers.{words-whole}
use Rattle.words.proofs.InShape.{in_shape}
use Rattle.words.specs.InShape.{InShape}
use Rattle.words.specs.Shape.{shape_ok_lem}
use Rattle.words.specs.Words.{nodes#, circles#, l#, m#, n#, words_ok_lem}
use lib.ListN.{get_or-eq_default, drop, get_or, length, length-take, take}
use lib.Seq.{get_or-take}
use mathlib.Core.Bool.{true}
use mathlib.Core.List.{List, [], ◌++◌}
use mathlib.Core.Path.{◌∙◌, ◌≡◌, ap, subst, sym}
use native.Mathlib.Decide.{dec_lt}
use native.Mathlib.Nat.{mul-le-mul_left, mul-one}
use native.Mathlib.Omega.{arith}

-- an index without rows has no fault that a full check finds
no_rows : (d : ℕ → ℕ → ℕ) (w : List ℕ) → n# w ≡ 0 → nodes# w ≡ 0 → faults d w ≡ []
unfolding faults
no_rows d w e f = rw (e, f)

-- AN INDEX WITHOUT ROWS IS ACCEPTED WHERE IT IS IN SHAPE
pub none-accepted : (d : ℕ → ℕ → ℕ) (w : List ℕ) → words_ok_lem w ≡ true → shape_ok_lem w ≡ true → n# w ≡ 0 → Accepted d w
none-accepted d w whole shape e =
    let S : InShape w = in_shape w (words-whole w whole).1 shape in
    record { words = (words-whole w whole).1; shape = shape; sound = no_rows d w e (omega (arith, S.whole.nodes)) }

-- the numbers of a table's front have 16 bits where the table's have
narrow_part : (k : ℕ) (t : List ℕ) → ((i : ℕ) → get_or t i 0 ≤ 65535) → (i : ℕ) → get_or (take k t) i 0 ≤ 65535
narrow_part k t narrow i = go (dec_lt i k)
  where
    go : Dec (i < k) → get_or (take k t) i 0 ≤ 65535
    go (yes h) = rw (get_or-take k t i 0 h) (narrow i)
    go (no h) =
        let none : get_or (take k t) i 0 ≡ 0 = get_or-eq_default (take k t) 0 {n = i} (simp length-take (omega arith)) in
        rw none (omega arith)

module _ {t : List ℕ} {c : ℕ} {w room work : List ℕ} (J : Puttable t c w room work) where
  -- the index is in shape
  shape_is : InShape w
  shape_is = in_shape w (words-whole w J.whole).1 J.shape

  -- it has a header
  pub header_there : 8 ≤ length w
  header_there = omega (arith, shape_is.whole.words)

  -- there is a row in the table
  pub row-there : c ≤ length t
  row-there =
      let one : c * 1 ≤ c * rows_of t c = mul-le-mul_left c (omega (arith, J.several)) in
      omega (arith, mul-one c, J.rows)

  -- where it has a row, all of them can join it
  pub some-joinable : {k : ℕ} → k ≡ n# w → (k ≡ 0 → ⊥) → RowsJoinable t c w room work
  some-joinable e h =
      record {
        shape = shape_is;
        tree = tree-fits w J.shape;
        edition = (words-whole w J.whole).0;
        columns = J.columns;
        some = positive (n# w) (λ z. h (e ∙ z));
        more = J.more;
        few = J.few;
        table = omega (arith, J.rows);
        space = J.space;
        halves = J.halves;
      }
    where
      positive : (k : ℕ) → (k ≡ 0 → ⊥) → 1 ≤ k
      positive k h = omega arith

  -- it has none; the table's numbers have 16 bits
  module _ (e : n# w ≡ 0) (narrow : (i : ℕ) → get_or t i 0 ≤ 65535) where
    -- the full check accepts it with no row
    accepted : Accepted (between (first_rows_lem t c (n# w)) c (circles# w)) w
    accepted = none-accepted (between (first_rows_lem t c (n# w)) c (circles# w)) w J.whole J.shape e

    -- so that rows can be appended in turn
    pub part : Part t c w
    part =
        record {
          accepted = accepted;
          edition = (words-whole w J.whole).0;
          columns = J.columns;
          more = J.more;
          few = J.few;
          small = sixteen t narrow;
          round = round_rows t c (circles# w) J.rows J.on;
        }

    -- the table as far as its first row
    one-row : take c t ≡ next part
    one-row =
        let one : n# w + 1 ≡ 1 = omega arith in
        ap (λ (k : ℕ). take k t) (sym (ap (λ (k : ℕ). c * k) one ∙ mul-one c))

    -- one row more
    then_one : n# (then' part) ≡ 1
    then_one = (append_header (step part)).1 ∙ omega arith

    -- the index of the first row takes the others
    further : Part t c (then' part)
    further = onward part (omega (arith, J.several))

    -- the first row's index has been built
    module _ {first spare first' spare' : List ℕ} {number words nodes : ℕ} (space : 20 ≤ length first) (long : 6 ≤ length spare)
        (b : Builds (take c t) c (circles# w) 2 (m# w) (l# w) first spare first' spare' number words nodes) where
      -- the room that a row asks for
      enough : room_of (n# w + 1) ≤ length first
      enough = omega arith

      -- and the workspace
      lasting : 6 * (n# w + 1) ≤ length spare
      lasting = omega arith

      -- an append of the first row is not refused
      passed : Passed (next part) c w first spare
      passed = record { narrow = narrow_part (c * (n# w + 1)) t narrow; none = sym (append-none part enough lasting) }

      -- the build is that append
      appends : Appends (next part) c w first spare first' spare' number words nodes
      appends =
          built_appends passed e
          (subst (λ (U : List ℕ). Builds U c (circles# w) 2 (m# w) (l# w) first spare first' spare' number words nodes) one-row b)

      -- its words are those of the append
      pub made : take words first' ≡ then' part
      made = append-writes part appends enough lasting

      -- nothing refuses it
      pub first-built : number ≡ 0
      first-built = appends.said ∙ sym (append-none part enough lasting)

      -- its words stand in the room
      pub words_there : words ≤ length first'
      words_there = grows-fits appends first-built

      -- all other rows can join it
      pub first-joinable : RowsJoinable t c (take words first') room work
      first-joinable =
          subst (λ (v : List ℕ). RowsJoinable t c v room work) (sym made) (
          record {
            shape = shape_of _ (then' part) further.accepted;
            tree = tree-fits (then' part) further.accepted.shape;
            edition = further.edition;
            columns = further.columns;
            some = omega (arith, then_one);
            more = further.more;
            few = J.few;
            table = omega (arith, J.rows);
            space = J.space;
            halves = J.halves;
          }
          )

      -- AND THEN ALL ROWS HAVE JOINED THE INDEX THAT HAD NONE
      pub first-joined : {room' work' : List ℕ} {made' : ℕ} → RowsJoin t c (take words first') room work room' work' made'
          → RowsJoin t c w room work room' work' made'
      first-joined {made' = made'} R =
          let same : appended_rows t c (take words first') ≡ appended_rows t c w =
          ap (appended_rows t c) made ∙ rows-onward part (omega (arith, J.several)) in
          record {
            index = R.index ∙ ap (λ (x : List ℕ). x ++ drop (length x) room) same;
            count = R.count ∙ ap nodes# same;
            few = R.few;
            long = sym (ap length same) ∙ R.long;
            cleared = R.cleared;
          }
