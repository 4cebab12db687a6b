-- `refill::put_pairs` meets its contract: three parts, one behind the other.
-- Assumes nothing.
use Prim.Native.Nat.{◌*◌, ◌+◌, ◌-◌, ◌≤◌, ℕ}
use Rattle.refill.proofs.Wording.{mid_long, pairs-put, tail-fits}
use Rattle.refill.proofs.put_pairs.Statement.{statement}
use Rattle.refill.proofs.put_pairs.Tie as tie
use Rattle.words.specs.Words.{n#}
use borrow.Author.Rules.{rules}
use borrow.Rule.Slice.PartMut.{put_mid}
use lib.ListN.{length}
use mathlib.Core.Path.{◌≡◌, refl}
use native.Mathlib.Omega.{arith}

-- the start, once the place of the positions is read
abbrev start : tie.After-pair_at-base → tie.Start
start a = a.before.before.before.before.before.before

-- where node v's run starts, and how many rows it has now
abbrev from : tie.After-pair_at-base → ℕ
from a = a.node_start-s.result

abbrev many : tie.After-pair_at-base → ℕ
many a = a.node_count.result + (start a).args.added

-- the run lies in the words that are lent
lies : (a : tie.After-pair_at-base)
    → (a.pair_at-base.result + 2 * from a ≤ length (start a).args.index.now) × (2 * (from a + many a) ≤ length (start a).args.part.now)
    × (3 * (from a + many a) ≤ length (start a).args.work.now)
lies a =
    let s = start a in
    let run = (s.requires.0.node s.args.v s.requires.1.there).run in
    let first = a.node_start-s.ensures.0 in
    let count = a.node_count.ensures.0 in (
      omega (arith, run, first, a.pair_at-base.ensures, s.requires.0.whole.words),
      omega (arith, run, first, count, s.requires.1.space),
      omega (arith, run, first, count, s.requires.1.entries),
    )

-- it ends in the index
ends : (e : tie.After-node_end-end)
    → (e.pair_at-base.result + 2 * e.node_end-end.result ≤ length (start e.before.before.before.before.before.before.before.before.before.before.before).args.index.now)
    × (e.node_end-end.result ≤ n# (start e.before.before.before.before.before.before.before.before.before.before.before).args.index.now)
ends e =
    let a = e.before.before.before.before.before.before.before.before.before.before.before in
    let s = start a in
    let run = (s.requires.0.node s.args.v s.requires.1.there).run in
    (omega (arith, run, e.node_end-end.ensures, a.pair_at-base.ensures, s.requires.0.whole.words), omega (arith, run, e.node_end-end.ensures))

copy-words-requires : tie.Need-copy_words-requires
copy-words-requires c κs =
    let a = c.before.before in
    (omega (arith, (lies a).1), omega (arith, (lies a).0, mid_long a.pair_at-base.result (start a).args.index.now))

sub-put-positions : tie.Need-slice_bounds-put_positions-count
sub-put-positions c = omega (arith, (lies c.before.before.before.before.before).1)

part-put-positions-start : tie.Need-slice_bounds-put_positions-start
part-put-positions-start c = omega (arith, (lies c.before.before.before.before.before).1)

sub-put-positions-2 : tie.Need-slice_bounds-put_positions-count-2
sub-put-positions-2 c = omega (arith, (lies c.before.before.before.before.before.before).2)

part-put-positions-start-2 : tie.Need-slice_bounds-put_positions-start-2
part-put-positions-start-2 c = omega (arith, (lies c.before.before.before.before.before.before).2)

put-positions-requires : tie.Need-put_positions-requires
put-positions-requires c κs =
    let w = c in
    let a = w.before.before.before.before.before.before.before in (
      omega (arith, (lies a).1, mid_long (2 * from a) w.copy_words.new.part),
      omega (arith, (lies a).2, mid_long (3 * from a) (start a).args.work.now),
    )

sub-copy-words-2 : tie.Need-slice_bounds-copy_words-count-2
sub-copy-words-2 c = omega (arith, (lies c.before.before.before.before.before.before.before.before.before.before.before).1)

part-copy-words-start-2 : tie.Need-slice_bounds-copy_words-start-2
part-copy-words-start-2 c = omega (arith, (lies c.before.before.before.before.before.before.before.before.before.before.before).1)

sub-copy-words-3 : tie.Need-slice_bounds-copy_words-count-3
sub-copy-words-3 c = omega (arith, (ends c.before).0)

part-copy-words-start-3 : tie.Need-slice_bounds-copy_words-start-3
part-copy-words-start-3 c = omega (arith, (ends c.before).0)

sub-copy-words-4 : tie.Need-overflow_sub-rows
sub-copy-words-4 c = omega (arith, (ends c.before.before.before).1, c.rows.ensures.0)

copy-words-requires-2 : tie.Need-copy_words-requires-2
copy-words-requires-2 c κs =
    let e = c in
    let q = e in
    let w = q in
    let a = w.before.before.before.before.before.before.before.before.before.before.before.before.before.before in
    let s = start a in
    let p = w.copy_words.new.part in
    let ys = q.put_positions.new.part in
    let new = put_mid (2 * from a) (length p - 2 * from a) p ys in
    let l : length new ≡ length s.args.part.now = search rules in
    tail-fits s.requires.0 s.requires.1 {s = from a} {count = many a} {base = a.pair_at-base.result} a.node_start-s.ensures.0
    (omega (arith, a.node_count.ensures.0)) a.pair_at-base.ensures e.node_end-end.ensures c.rows.ensures.0 new l

returns : tie.Need-returns
returns c =
    let r = c in
    let e = r in
    let q = e in
    let w = q in
    let a = w.before.before.before.before.before.before.before.before.before.before.before.before.before.before.before.before.before in
    let s = start a in
    pairs-put s.requires.0 s.requires.1 a.node_start-s.ensures.0 (omega (arith, a.node_count.ensures.0))
    a.pair_at-base.ensures e.node_end-end.ensures r.rows.ensures.0 w.copy_words.ensures q.put_positions.ensures refl
    c.copy_words-2.ensures
    (search rules) (search rules)

pub put_pairs_spec : {M : Type 1} → statement M
put_pairs_spec =
    tie.close
    (tie.spec
    (λ c κs. search rules)
    (λ c κs. search rules)
    (λ c. search rules)
    (λ c κs. search rules)
    (λ c. search rules)
    (λ c. search rules)
    (λ c. search rules)
    (λ c. search rules)
    (λ c. search rules)
    copy-words-requires
    (λ c. search rules)
    (λ c. search rules)
    (λ c. search rules)
    sub-put-positions
    part-put-positions-start
    (λ c. search rules)
    (λ c. search rules)
    sub-put-positions-2
    part-put-positions-start-2
    (λ c. search rules)
    put-positions-requires
    (λ c κs. search rules)
    (λ c. search rules)
    (λ c. search rules)
    (λ c. search rules)
    (λ c. search rules)
    (λ c. search rules)
    sub-copy-words-2
    part-copy-words-start-2
    (λ c. search rules)
    (λ c. search rules)
    sub-copy-words-3
    part-copy-words-start-3
    (λ c. search rules)
    (λ c κs. search rules)
    sub-copy-words-4
    (λ c. search rules)
    copy-words-requires-2
    (λ c. search rules)
    returns)
