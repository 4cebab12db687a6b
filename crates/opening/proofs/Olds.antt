-- An old inner node is opened: its new rows are marked, dealt out to its children in the second half, and copied back to its place. Assumes nothing.
use Prim.Native.Nat.{◌*◌, ◌+◌, ◌-◌, ◌<◌, ◌≤◌, ℕ}
use Rattle.dealing.proofs.Marking.{marked_long}
use Rattle.dealing.specs.Dealt.{KidsAsk, KidsDeal, KidsDealt, kid_pieces}
use Rattle.dealing.specs.Marked.{Marks, marked}
use Rattle.laws.specs.Every.{Every}
use Rattle.limits.specs.Limits.{max_rows}
use Rattle.lodging.specs.Standing.{new_rows}
use Rattle.measure.specs.Table.{between}
use Rattle.opening.specs.Opened.{OldAsk, Replaced}
use Rattle.rounds.proofs.Parts.{stretch_front}
use Rattle.rounds.specs.Entries.{InTable}
use Rattle.rounds.specs.Stretch.{stretch}
use Rattle.split.proofs.Parted.{part-put}
use Rattle.split.specs.Runs.{rows}
use Rattle.words.specs.Words.{c#, circles#, count#, n#}
use borrow.Rule.Slice.PartMut.{mid_len, mid_of, put_mid}
use lib.ListN.{drop, length, length-append, length-drop, take, take-append-drop}
use lib.Seq.{drop_at, drop-drop, length-take-le, take-add, take-append-add, take-append-le, take_at, take-take}
use mathlib.Core.Bool.{Bool}
use mathlib.Core.List.{List, ◌++◌, append_assoc}
use mathlib.Core.Path.{◌∙◌, ◌≡◌, ap, ap₂, refl, subst, sym}
use native.Mathlib.Nat.{mul-le-mul_left}
use native.Mathlib.Omega.{arith}

-- some words, cut before a part and behind it
pub part_cut : (work : List ℕ) (lo hi : ℕ) → lo ≤ hi → work ≡ take lo work ++ (mid_of lo (hi - lo) work ++ drop hi work)
part_cut work lo hi h =
    let up : lo + (hi - lo) ≡ hi = omega arith in
    sym (take-append-drop lo work)
    ∙ ap (λ (x : List ℕ). take lo work ++ x)
    (sym (take-append-drop (hi - lo) (drop lo work))
    ∙ ap (λ (x : List ℕ). mid_of lo (hi - lo) work ++ x) (drop-drop (hi - lo) lo work ∙ ap (λ (i : ℕ). drop i work) up))

module _ {t w : List ℕ} {n : ℕ} {room work : List ℕ} {o s count made : ℕ} (g : OldAsk t w n room work o s count made) {own : ℕ}
    (counts : own ≡ count# w o) where
  -- how far two rows are apart
  abbrev d : ℕ → ℕ → ℕ
  d = between t (c# w) (circles# w)

  -- the words between which the new rows stand
  abbrev lo : ℕ
  lo = 3 * (s + own)

  abbrev hi : ℕ
  hi = 3 * (s + count)

  -- they are these
  abbrev E : List ℕ
  E = mid_of lo (hi - lo) work

  -- in the first half
  pub old-fits : (own ≤ count) × (3 * (s + count) ≤ 3 * n) × (3 * (s + count) ≤ length work) × (s + count ≤ max_rows)
  old-fits = (
    omega (arith, counts, g.size),
    omega (arith, g.fits),
    omega (arith, g.fits, g.halves),
    omega (arith, g.fits, g.task.few),
  )

  -- three words a row
  E-long : length E ≡ 3 * length g.zs
  E-long = mid_len lo hi work old-fits.2 ∙ omega (arith, counts, g.size)

  -- the new rows stand there
  E-rows : rows E ≡ g.zs
  unfolding new_rows
  E-rows =
      let X : List ℕ = drop (3 * s) work in
      let a : ℕ = 3 * count# w o in
      let b : ℕ = 3 * count - 3 * count# w o in
      let k : 3 * s + 3 * count - 3 * s ≡ a + b = omega (arith, g.size) in
      let at : 3 * s + a ≡ lo = omega (arith, counts) in
      let len : b ≡ hi - lo = omega (arith, counts) in
      let long : length (take a X) ≡ a = length-take-le a X (omega (arith, length-drop (3 * s) work, old-fits, g.size)) in
      sym (ap (λ (i : ℕ). rows (drop a (take i X))) k
      ∙ ap (λ (x : List ℕ). rows (drop a x)) (take-add a b X)
      ∙ ap rows (drop_at (take a X) (take b (drop a X)) a long
      ∙ ap (take b) (drop-drop a (3 * s) work ∙ ap (λ (i : ℕ). drop i work) at)
      ∙ ap (λ (i : ℕ). take i (drop lo work)) len))
      ∙ g.rows

  -- the table has the index's rows
  pub table-has : c# w * n# w ≤ length t
  table-has = omega (arith, g.task.table, mul-le-mul_left (c# w) g.task.more)

  -- they can be marked
  pub old-marks : {c : ℕ} → c ≡ c# w → Marks t c w o (mid_of (3 * (s + own)) (3 * (s + count) - 3 * (s + own)) work)
  old-marks e =
      rw e
      record {
        shape = g.task.shape;
        columns = refl;
        there = g.there;
        inner = g.inner;
        table = table-has;
        whole = omega (arith, E-long);
        known = subst (Every (λ z. InTable t (c# w) z)) (sym E-rows) g.new.there;
        few = subst (Every (λ z. z < max_rows)) (sym E-rows) g.new.few;
        short = omega (arith, E-long, g.size, old-fits);
      }

  -- ---- they are
  module _ {c : ℕ} (ec : c ≡ c# w) {part' : List ℕ}
      (marks : part' ≡ marked (between t c (circles# w)) w o (rows (mid_of (3 * (s + own)) (3 * (s + count) - 3 * (s + own)) work))) where
    -- the marked rows
    abbrev M : List ℕ
    M = marked d w o g.zs

    marks-are : part' ≡ M
    marks-are = marks ∙ ap₂ (λ (i : ℕ) (x : List ℕ). marked (between t i (circles# w)) w o x) ec E-rows

    -- as many words
    M-long : length M ≡ hi - lo
    M-long = marked_long d w o g.zs ∙ omega (arith, counts, g.size)

    -- the workspace then
    abbrev W₁ : List ℕ
    W₁ = put_mid (3 * (s + own)) (3 * (s + count) - 3 * (s + own)) work part'

    -- the words before it
    F-long : length (take lo work) ≡ lo
    F-long = length-take-le lo work (omega (arith, old-fits))

    -- cut
    first-cut : W₁ ≡ take lo work ++ (M ++ drop hi work)
    first-cut =
        part-put (take lo work) E (drop hi work) work lo hi (part_cut work lo hi (omega (arith, old-fits))) F-long
        (omega (arith, mid_len lo hi work old-fits.2, old-fits)) part'
        ∙ ap (λ (x : List ℕ). take lo work ++ (x ++ drop hi work)) marks-are

    -- as long as it was
    first_long : length W₁ ≡ length work
    first_long =
        ap length first-cut
        ∙ omega (
          arith,
          length-append (take lo work) (M ++ drop hi work),
          length-append M (drop hi work),
          F-long,
          M-long,
          length-drop hi work,
          old-fits,
        )

    -- what stands before the new rows is as it was
    first-fore : take (3 * s) W₁ ≡ take (3 * s) work
    first-fore =
        ap (take (3 * s)) first-cut ∙ take-append-le (3 * s) (take lo work) (M ++ drop hi work) (omega (arith, F-long))
        ∙ take-take (3 * s) lo work (omega arith)

    -- and what stands behind them
    first_back : drop hi W₁ ≡ drop hi work
    first_back =
        ap (drop hi) (first-cut ∙ sym (append_assoc (take lo work) M (drop hi work)))
        ∙ drop_at (take lo work ++ M) (drop hi work) hi (length-append (take lo work) M ∙ omega (arith, F-long, M-long, old-fits))

    -- they can be dealt out
    pub old-kids : KidsAsk t w o n (3 * (s + own)) (3 * (s + count)) room W₁ s made
    old-kids =
        record {
          zs = g.zs;
          deals =
              record {
                shape = g.task.shape;
                edition = g.task.edition;
                there = g.there;
                inner = g.inner;
                table = table-has;
                new = g.new;
                order = omega (arith, old-fits);
                half = old-fits.1;
                halves = omega (arith, first_long, g.halves);
                few = g.task.few;
                entries =
                    ap (take (hi - lo)) (ap (drop lo) first-cut ∙ drop_at (take lo work) (M ++ drop hi work) lo F-long)
                    ∙ take_at M (drop hi work) (hi - lo) M-long;
              };
          fits = omega (arith, g.fits, g.size);
          nodes = g.nodes;
          small = g.small;
        }

    -- ---- dealt out, and copied back
    module _ {last : Bool} {room' W₂ W₃ : List ℕ} {over : ℕ} (deal : KidsDeal t w o n (3 * (s + own)) (3 * (s + count)) last room
        (put_mid (3 * (s + own)) (3 * (s + count) - 3 * (s + own)) work part') s made room' W₂)
        (half : over ≡ 3 * n)
        (copied : W₃ ≡ take (3 * s) W₂ ++ (stretch W₂ (3 * s + over) (3 * (s + count) + over) ++ drop (3 * (s + count)) W₂)) where
      -- the children stand in the second half
      dealt : KidsDealt t w o n last g.zs room W₁ s made room' W₂
      unfolding old-kids
      dealt = deal old-kids

      -- their words
      abbrev P : List ℕ
      P = stretch W₂ (3 * (n + s)) (3 * (n + s) + 3 * (count# w o + length g.zs))

      -- as they are copied
      copied-part : stretch W₂ (3 * s + over) (3 * (s + count) + over) ≡ P
      copied-part =
          let at : 3 * s + over ≡ 3 * (n + s) = omega (arith, half) in
          let k : 3 * (s + count) + over - (3 * s + over) ≡ 3 * (n + s) + 3 * (count# w o + length g.zs) - 3 * (n + s) = omega (arith, g.size) in
          ap₂ (λ (i j : ℕ). take i (drop j W₂)) k at

      -- three words a row
      P-long : length P ≡ 3 * count
      P-long =
          mid_len (3 * (n + s)) (3 * (n + s) + 3 * (count# w o + length g.zs)) W₂
          (omega (arith, dealt.long, first_long, g.halves, g.fits, g.size))
          ∙ omega (arith, g.size)

      -- the first half but the node's part is as it was
      second-fore : take (3 * s) W₂ ≡ take (3 * s) work
      second-fore =
          sym (take-take (3 * s) (3 * n) W₂ (omega (arith, g.fits))) ∙ ap (take (3 * s)) dealt.before
          ∙ take-take (3 * s) (3 * n) W₁ (omega (arith, g.fits)) ∙ first-fore

      second_back : stretch W₂ hi (3 * n) ≡ stretch work hi (3 * n)
      second_back =
          stretch_front W₂ W₁ (drop (3 * n) W₂) hi (3 * n) (3 * n) (omega arith) (omega (arith, first_long, g.halves))
          (sym (take-append-drop (3 * n) W₂) ∙ ap (λ (x : List ℕ). x ++ drop (3 * n) W₂) dealt.before)
          ∙ ap (take (3 * n - hi)) first_back

      -- AN OLD INNER NODE IS OPENED
      pub old-done : Replaced t w n last (kid_pieces t w o g.zs s) room work s count made room' W₃
      old-done =
          let A : List ℕ = take (3 * s) work in
          let cut : W₃ ≡ (A ++ P) ++ drop hi W₂ =
          copied ∙ ap₂ (λ (x y : List ℕ). x ++ (y ++ drop hi W₂)) second-fore copied-part ∙ sym (append_assoc A P (drop hi W₂)) in
          let long : length (A ++ P) ≡ hi = length-append A P ∙ omega (arith, length-take-le (3 * s) work (omega (arith, old-fits)), P-long) in
          let k : 3 * n ≡ length (A ++ P) + (3 * n - hi) = omega (arith, long, old-fits) in
          let e : hi ≡ 3 * s + 3 * count = omega arith in
          record {
            nodes = dealt.nodes;
            part = P;
            stand = dealt.stand;
            words =
                ap₂ take k cut ∙ take-append-add (A ++ P) (drop hi W₂) (3 * n - hi) ∙ append_assoc A P (stretch W₂ hi (3 * n))
                ∙ ap (λ (x : List ℕ). A ++ (P ++ x)) (second_back ∙ ap (λ (i : ℕ). stretch work i (3 * n)) e);
          }
