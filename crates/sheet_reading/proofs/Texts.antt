-- A text, line by line: the mark at its start, the carriage returns, and the newlines. Assumes nothing.
use Prim.Native.Nat.{◌≤◌, ℕ}
use Rattle.sheet_reading.proofs.Closings.{closed-cases, decided-cases}
use Rattle.line_reading.proofs.LineRuns.{through}
use Rattle.sheet_reading.proofs.Runs.{next-read, next-stays, read-newline, read-other, read-return}
use Rattle.sheet_reading.specs.Closing.{accepted, closed, decided, end_trouble, failed, judged, onward, titles}
use Rattle.sheet_fields.specs.Fields.{cut, cut_at, cut_up}
use Rattle.line_reading.specs.InLine.{along, emptied, moved, settled}
use Rattle.sheet_fields.specs.Kinds.{kind_of, parting, quoting, signing}
use Rattle.sheet_reading.specs.Lines.{body, is_newline_lem, kinds, unmarked}
use Rattle.sheet_reading.specs.Reading.{begun, inside, mark_byte_lem, marking, next, read, released, run, unmarking}
use Rattle.sheet_reading.specs.declared.Reader.{Reader}
use Rattle.sheet_fields.specs.declared.Kind.TheVariants.{Other}
use Rattle.line_reading.specs.declared.Line.{Line}
use borrow.Author.Tests.{eq-eqb, eqb-false, eqb-true, ne_eqb}
use lib.Dec.{eqb}
use lib.ListN.{length}
use mathlib.Core.Bool.{Bool, cond, false, true}
use mathlib.Core.List.{List, [], ◌++◌, ◌∷◌, map}
use mathlib.Core.Path.{◌∙◌, ◌≡◌, ap, refl, subst, sym}

-- ---- carriage returns
-- a line with a carriage return that was held back, or none
abbrev freed : Bool → Line → Line
freed h l = cond h (along l Other) l

-- the line behind these bytes, none of which is a newline
unfoldable pub hold : Bool → Line → List ℕ → Line
hold h l [] = l
hold h l (b ∷ t) = cond (eqb b 13) (hold true (freed h l) t) (hold false (along (freed h l) (kind_of b)) t)

-- a byte that is no carriage return is not passed over
body_other : (b : ℕ) (t : List ℕ) → eqb b 13 ≡ false → body (b ∷ t) ≡ b ∷ body t
unfolding body
body_other b [] e = rw e
body_other b (c ∷ t) e = refl

-- one that is the last of a line is passed over, and any other is a byte as any other
pub hold_through : (t : List ℕ) (l : Line) → (hold false l t ≡ through l (kinds t)) × (hold true l t ≡ through l (kinds (13 ∷ t)))
unfolding hold through body kind_of parting quoting signing
hold_through [] l = (refl, refl)
hold_through (b ∷ t) l = (go l (eqb b 13) refl (hold_through t), go (along l Other) (eqb b 13) refl (hold_through t))
  where
    go : (l : Line) (q : Bool) → eqb b 13 ≡ q
        → ((l : Line) → (hold false l t ≡ through l (kinds t)) × (hold true l t ≡ through l (kinds (13 ∷ t))))
        → cond q (hold true l t) (hold false (along l (kind_of b)) t) ≡ through l (kinds (b ∷ t))
    go l true e i = (i l).1 ∙ ap (λ (x : ℕ). through l (kinds (x ∷ t))) (sym (eqb-true b 13 e))
    go l false e i = (i (along l (kind_of b))).0 ∙ ap (λ (x : List ℕ). through l (map kind_of x)) (sym (body_other b t e))

-- ---- lines
-- the reader behind the line l and its newline
unfoldable pub whole : Reader × List ℕ → List ℕ → Reader × List ℕ
whole s l = cond (eqb s.0.fault 0) (closed (inside s.0 s.0.mark false (hold s.0.held s.0.here l)) s.1) s

-- behind these lines
unfoldable pub wholes : Reader × List ℕ → List (List ℕ) → Reader × List ℕ
wholes s [] = s
wholes s (l ∷ ls) = wholes (whole s l) ls

-- behind a fault nothing changes
pub wholes_stay : (ls : List (List ℕ)) (s : Reader × List ℕ) → (s.0.fault ≡ 0 → ⊥) → wholes s ls ≡ s
unfolding wholes whole
wholes_stay [] s z = refl
wholes_stay (l ∷ ls) s z = rw (ne_eqb s.0.fault 0 z) (wholes_stay ls s z)

-- nor does it at a byte
pub run-stays : (t : List ℕ) (s : Reader × List ℕ) → (s.0.fault ≡ 0 → ⊥) → run s t ≡ s
unfolding run
run-stays [] s z = refl
run-stays (b ∷ t) s z = ap (λ (x : Reader × List ℕ). run x t) (next-stays s.0 s.1 b z) ∙ run-stays t s z

-- a newline leaves the mark behind
closed-mark : (r : Reader) (table : List ℕ) → (closed r table).0.mark ≡ r.mark
unfolding onward failed
closed-mark r table =
    closed-cases r table (λ (s : Reader × List ℕ). s.0.mark ≡ r.mark) (λ e. refl) (λ e z. refl)
    (λ e z.
    decided-cases r table (λ (s : Reader × List ℕ). s.0.mark ≡ r.mark) (settled r.here) (end_trouble r (settled r.here) (length table)) (λ n. refl) (λ n y. refl) (λ n y. refl))

-- whether a carriage return is held back does not matter there
closed_held : (r : Reader) (table : List ℕ) → closed (inside r r.mark false r.here) table ≡ closed r table
unfolding closed judged decided accepted failed onward end_trouble titles inside
closed_held r table = refl

-- without a fault
pub whole_fine : (r : Reader) (table l : List ℕ) → r.fault ≡ 0
    → whole (r, table) l ≡ closed (inside r r.mark false (hold r.held r.here l)) table
unfolding whole
whole_fine r table l z = rw (eq-eqb r.fault 0 z)

-- a newline
whole_end : (r : Reader) (table : List ℕ) → r.fault ≡ 0 → whole (r, table) [] ≡ closed r table
unfolding hold
whole_end r table z = whole_fine r table [] z ∙ closed_held r table

-- a carriage return in a line
hold_return : (h : Bool) (l : Line) (b : ℕ) (t : List ℕ) → eqb b 13 ≡ true → hold h l (b ∷ t) ≡ hold true (freed h l) t
unfolding hold
hold_return h l b t e = rw e

-- any other byte in a line
hold_other : (h : Bool) (l : Line) (b : ℕ) (t : List ℕ) → eqb b 13 ≡ false → hold h l (b ∷ t) ≡ hold false (along (freed h l) (kind_of b)) t
unfolding hold
hold_other h l b t e = rw e

-- one byte more in a line
module _ (r : Reader) (table : List ℕ) (b : ℕ) (z : r.fault ≡ 0) (m : 3 ≤ r.mark) (n : b ≡ 10 → ⊥) where
  -- the line goes on, and the mark stays behind
  inside-next : (t : List ℕ) → (whole (next (r, table) b) t ≡ whole (r, table) (b ∷ t)) × ((next (r, table) b).0.mark ≡ r.mark)
  unfolding inside released
  inside-next t = go (eqb b 13) refl
    where
      go : (q : Bool) → eqb b 13 ≡ q → (whole (next (r, table) b) t ≡ whole (r, table) (b ∷ t)) × ((next (r, table) b).0.mark ≡ r.mark)
      go true q =
          let e : next (r, table) b ≡ (inside r r.mark true (released r), table) =
          next-read r table b z m ∙ read-return r table b (released r) refl n (eqb-true b 13 q) in (
            ap (λ (x : Reader × List ℕ). whole x t) e
                ∙ whole_fine (inside r r.mark true (released r)) table t z
                ∙ sym (whole_fine r table (b ∷ t) z
                ∙ ap (λ (x : Line). closed (inside r r.mark false x) table) (hold_return r.held r.here b t q)),
            ap (λ (x : Reader × List ℕ). x.0.mark) e,
          )
      go false q =
          let e : next (r, table) b ≡ (inside r r.mark false (along (released r) (kind_of b)), table) =
          next-read r table b z m ∙ read-other r table b (released r) refl n (kind_of b) (along (released r) (kind_of b)) refl refl (eqb-false b 13 q) in (
            ap (λ (x : Reader × List ℕ). whole x t) e
                ∙ whole_fine (inside r r.mark false (along (released r) (kind_of b))) table t z
                ∙ sym (whole_fine r table (b ∷ t) z
                ∙ ap (λ (x : Line). closed (inside r r.mark false x) table) (hold_other r.held r.here b t q)),
            ap (λ (x : Reader × List ℕ). x.0.mark) e,
          )

-- a text that begins behind the mark is read line by line
pub lines-run : (t : List ℕ) (r : Reader) (table : List ℕ) → 3 ≤ r.mark → run (r, table) (t ++ 10 ∷ []) ≡ wholes (r, table) (cut_up is_newline_lem t)
unfolding run wholes cut
lines-run [] r table m = go (eqb r.fault 0) refl
  where
    go : (f : Bool) → eqb r.fault 0 ≡ f → next (r, table) 10 ≡ whole (r, table) []
    go true p =
        let z : r.fault ≡ 0 = eqb-true r.fault 0 p in
        next-read r table 10 z m ∙ read-newline r table 10 refl ∙ sym (whole_end r table z)
    go false p = let z : r.fault ≡ 0 → ⊥ = eqb-false r.fault 0 p in next-stays r table 10 z ∙ sym (wholes_stay ([] ∷ []) (r, table) z)
lines-run (b ∷ t) r table m = go (eqb r.fault 0) (eqb b 10) refl refl (lines-run t)
  where
    go : (f n : Bool) → eqb r.fault 0 ≡ f → eqb b 10 ≡ n
        → ((r : Reader) (table : List ℕ) → 3 ≤ r.mark → run (r, table) (t ++ 10 ∷ []) ≡ wholes (r, table) (cut_up is_newline_lem t))
        → run (next (r, table) b) (t ++ 10 ∷ [])
        ≡ wholes (r, table) ((cut_at n b (cut is_newline_lem t)).0 ∷ (cut_at n b (cut is_newline_lem t)).1)
    go true true p q i =
        let z : r.fault ≡ 0 = eqb-true r.fault 0 p in
        let e : next (r, table) b ≡ closed r table = next-read r table b z m ∙ read-newline r table b (eqb-true b 10 q) in
        let k : 3 ≤ (closed r table).0.mark = rw (closed-mark r table) m in
        ap (λ (x : Reader × List ℕ). run x (t ++ 10 ∷ [])) e
        ∙ i (closed r table).0 (closed r table).1 k
        ∙ ap (λ (x : Reader × List ℕ). wholes x (cut_up is_newline_lem t)) (sym (whole_end r table z))
    go true false p q i =
        let z : r.fault ≡ 0 = eqb-true r.fault 0 p in
        let e = inside-next r table b z m (eqb-false b 10 q) (cut is_newline_lem t).0 in
        i (next (r, table) b).0 (next (r, table) b).1 (rw e.1 m)
        ∙ ap (λ (x : Reader × List ℕ). wholes x (cut is_newline_lem t).1) e.0
    go false n p q i =
        let z : r.fault ≡ 0 → ⊥ = eqb-false r.fault 0 p in
        ap (λ (x : Reader × List ℕ). run x (t ++ 10 ∷ [])) (next-stays r table b z)
        ∙ run-stays (t ++ 10 ∷ []) (r, table) z
        ∙ sym (wholes_stay ((cut_at n b (cut is_newline_lem t)).0 ∷ (cut_at n b (cut is_newline_lem t)).1) (r, table) z)

-- ---- the mark
-- before the first byte of a text behind its mark
abbrev pub behind_mark : ℕ → Reader
behind_mark label = inside (begun label) 3 false (emptied label)

-- behind a byte or two that could have been the mark
abbrev almost : ℕ → Reader
almost label = inside (begun label) 3 false (along (emptied label) Other)

module _ (label : ℕ) (table : List ℕ) where
  -- the first byte is not the mark's
  first-other : (a : ℕ) → eqb a 239 ≡ false → next (begun label, table) a ≡ next (behind_mark label, table) a
  unfolding next marking mark_byte_lem unmarking begun inside
  first-other a e = rw e

  -- or it is
  first-mark : (a : ℕ) → eqb a 239 ≡ true → next (begun label, table) a ≡ (inside (begun label) 1 false (emptied label), table)
  unfolding next marking mark_byte_lem begun inside
  first-mark a e = rw e

  -- so is the second
  second-other : (b : ℕ) → eqb b 187 ≡ false → next (inside (begun label) 1 false (emptied label), table) b ≡ next (almost label, table) b
  unfolding next marking mark_byte_lem unmarking begun inside
  second-other b e = rw e

  -- or it is
  second-mark : (b : ℕ) → eqb b 187 ≡ true → next (inside (begun label) 1 false (emptied label), table) b ≡ (inside (begun label) 2 false (emptied label), table)
  unfolding next marking mark_byte_lem begun inside
  second-mark b e = rw e

  -- and the third
  third-other : (c : ℕ) → eqb c 191 ≡ false → next (inside (begun label) 2 false (emptied label), table) c ≡ next (almost label, table) c
  unfolding next marking mark_byte_lem unmarking begun inside
  third-other c e = rw e

  -- or it is
  third-mark : (c : ℕ) → eqb c 191 ≡ true → next (inside (begun label) 2 false (emptied label), table) c ≡ (behind_mark label, table)
  unfolding next marking mark_byte_lem begun inside
  third-mark c e = rw e

  -- the first byte of the mark is a byte of a field
  first_plain : (a : ℕ) → eqb a 239 ≡ true → next (behind_mark label, table) a ≡ (almost label, table)
  unfolding next read begun inside released kind_of parting quoting signing
  first_plain a e = subst (λ (x : ℕ). next (behind_mark label, table) x ≡ (almost label, table)) (sym (eqb-true a 239 e)) refl

  -- so is the second
  second_plain : (b : ℕ) → eqb b 187 ≡ true → next (almost label, table) b ≡ (almost label, table)
  unfolding next read begun inside released kind_of parting quoting signing moved emptied
  second_plain b e = subst (λ (x : ℕ). next (almost label, table) x ≡ (almost label, table)) (sym (eqb-true b 187 e)) refl

  -- a text whose first byte is not the mark's is read from there
  unmarked-first : (a : ℕ) (t : List ℕ) → eqb a 239 ≡ false → unmarked (a ∷ t) ≡ a ∷ t
  unfolding unmarked
  unmarked-first a [] e = refl
  unmarked-first a (b ∷ []) e = refl
  unmarked-first a (b ∷ c ∷ t) e = rw e

  -- or whose second
  unmarked-second : (a b : ℕ) (t : List ℕ) → eqb a 239 ≡ true → eqb b 187 ≡ false → unmarked (a ∷ b ∷ t) ≡ a ∷ b ∷ t
  unfolding unmarked
  unmarked-second a b [] d e = refl
  unmarked-second a b (c ∷ t) d e = rw (d, e)

  -- the text as it stands, behind a first byte of the mark
  plain-first : (a : ℕ) (t : List ℕ) → eqb a 239 ≡ true → run (behind_mark label, table) (a ∷ t) ≡ run (almost label, table) t
  unfolding run
  plain-first a t e = ap (λ (x : Reader × List ℕ). run x t) (first_plain a e)

  -- and behind a second
  plain_second : (a b : ℕ) (t : List ℕ) → eqb a 239 ≡ true → eqb b 187 ≡ true → run (behind_mark label, table) (a ∷ b ∷ t) ≡ run (almost label, table) t
  unfolding run
  plain_second a b t d e = plain-first a (b ∷ t) d ∙ ap (λ (x : Reader × List ℕ). run x t) (second_plain b e)

  -- behind two bytes of the mark
  third-run : (a b : ℕ) (t : List ℕ) → eqb a 239 ≡ true → eqb b 187 ≡ true
      → run (inside (begun label) 2 false (emptied label), table) (t ++ 10 ∷ []) ≡ run (behind_mark label, table) (unmarked (a ∷ b ∷ t) ++ 10 ∷ [])
  unfolding run unmarked
  third-run a b [] d e = third-other 10 refl ∙ sym (plain_second a b (10 ∷ []) d e)
  third-run a b (c ∷ t) d e = rw (d, e) (go (eqb c 191) refl)
    where
      go : (q : Bool) → eqb c 191 ≡ q
          → run (next (inside (begun label) 2 false (emptied label), table) c) (t ++ 10 ∷ []) ≡ run (behind_mark label, table) (cond q t (a ∷ b ∷ c ∷ t) ++ 10 ∷ [])
      go true f = ap (λ (x : Reader × List ℕ). run x (t ++ 10 ∷ [])) (third-mark c f)
      go false f =
          ap (λ (x : Reader × List ℕ). run x (t ++ 10 ∷ [])) (third-other c f) ∙ sym (plain_second a b (c ∷ (t ++ 10 ∷ [])) d e)

  -- behind one
  second_run : (a : ℕ) (t : List ℕ) → eqb a 239 ≡ true
      → run (inside (begun label) 1 false (emptied label), table) (t ++ 10 ∷ []) ≡ run (behind_mark label, table) (unmarked (a ∷ t) ++ 10 ∷ [])
  unfolding run unmarked
  second_run a [] d = second-other 10 refl ∙ sym (plain-first a (10 ∷ []) d)
  second_run a (b ∷ t) d = go (eqb b 187) refl
    where
      go : (q : Bool) → eqb b 187 ≡ q
          → run (next (inside (begun label) 1 false (emptied label), table) b) (t ++ 10 ∷ []) ≡ run (behind_mark label, table) (unmarked (a ∷ b ∷ t) ++ 10 ∷ [])
      go true f = ap (λ (x : Reader × List ℕ). run x (t ++ 10 ∷ [])) (second-mark b f) ∙ third-run a b t d f
      go false f =
          ap (λ (x : Reader × List ℕ). run x (t ++ 10 ∷ [])) (second-other b f)
          ∙ sym (ap (λ (x : List ℕ). run (behind_mark label, table) (x ++ 10 ∷ [])) (unmarked-second a b t d f) ∙ plain-first a (b ∷ (t ++ 10 ∷ [])) d)

  -- THE MARK IS PASSED OVER
  pub mark-run : (t : List ℕ) → run (begun label, table) (t ++ 10 ∷ []) ≡ run (behind_mark label, table) (unmarked t ++ 10 ∷ [])
  unfolding run unmarked
  mark-run [] = first-other 10 refl
  mark-run (a ∷ t) = go (eqb a 239) refl
    where
      go : (q : Bool) → eqb a 239 ≡ q → run (next (begun label, table) a) (t ++ 10 ∷ []) ≡ run (behind_mark label, table) (unmarked (a ∷ t) ++ 10 ∷ [])
      go true f = ap (λ (x : Reader × List ℕ). run x (t ++ 10 ∷ [])) (first-mark a f) ∙ second_run a t f
      go false f =
          ap (λ (x : Reader × List ℕ). run x (t ++ 10 ∷ [])) (first-other a f)
          ∙ sym (ap (λ (x : List ℕ). run (behind_mark label, table) (x ++ 10 ∷ [])) (unmarked-first a t f))
