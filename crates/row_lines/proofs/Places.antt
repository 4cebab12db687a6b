-- Where the lines of a text stand, and which of them are blank. Assumes nothing.
use Prim.Native.Nat.{◌+◌, ◌-◌, ◌<◌, ◌≤◌, suc, zero, ℕ}
use Rattle.asking.proofs.Parting.{end_behind, looking_end, looking_start}
use Rattle.asking.specs.Pieces.{end_at, part_of}
use Rattle.asking.specs.Worth.{worth}
use Rattle.laws.proofs.Empty.{any_none}
use Rattle.laws.proofs.First.{range_on}
use Rattle.laws.proofs.Ranges.{range-every}
use Rattle.laws.specs.Lists.{any, range}
use Rattle.text_lines.specs.Lines.{line_at, line_start, next_line_lem, text_start_lem}
use Rattle.row_lines.specs.Lines.{any_full, is_blank_lem, is_full, line_of, line_says, past_blanks_lem, place_of, word_end}
use Rattle.row_lines.specs.Rows.{row_trouble_lem}
use Rattle.std.specs.Prelude.{MatchOption, Option}
use borrow.Author.Tests.{eq-eqb, le-ltb, lt-ltb, ltb-false, ne_eqb}
use lib.Dec.{eqb, ltb}
use lib.ListN.{length}
use mathlib.Core.Bool.{Bool, ◌||◌, cond, false, not, true}
use mathlib.Core.List.{List}
use mathlib.Core.Path.{◌∙◌, ◌≡◌, ap, ap₂, refl, subst, sym}
use native.Mathlib.Decide.{ℕ_discrete}
use native.Mathlib.Numerals.{add-one}
use native.Mathlib.Omega.{arith}

-- ---- one line
-- it has nothing but blanks
pub blank_told : (l : List ℕ) (r : ℕ) → r ≡ past_blanks_lem l 0 → r ≤ length l → eqb r (length l) ≡ is_blank_lem l
unfolding is_blank_lem
blank_told l r e h = go (ℕ_discrete r (length l)) ∙ ap (λ (x : ℕ). not (ltb x (length l))) e
  where
    go : Dec (r ≡ length l) → eqb r (length l) ≡ not (ltb r (length l))
    go (yes q) = eq-eqb r (length l) q ∙ sym (ap not (le-ltb r (length l) (omega arith)))
    go (no q) = ne_eqb r (length l) q ∙ sym (ap not (lt-ltb r (length l) (omega (arith, q))))

-- more than one word
pub says_none : (l : List ℕ) (start end past : ℕ) → start ≡ past_blanks_lem l 0 → end ≡ end_at 32 l start → past ≡ past_blanks_lem l end → past < length l
    → 10_000_000 ≡ line_says l
unfolding line_says word_end
says_none l start end past s e p h =
    let q : past ≡ past_blanks_lem l (end_at 32 l (past_blanks_lem l 0)) = p ∙ ap (past_blanks_lem l) (e ∙ ap (end_at 32 l) s) in
    rw (lt-ltb (past_blanks_lem l (end_at 32 l (past_blanks_lem l 0))) (length l) (omega (arith, q))) refl

-- one word, or none
pub says_word : (l : List ℕ) (start end past : ℕ) → start ≡ past_blanks_lem l 0 → end ≡ end_at 32 l start → past ≡ past_blanks_lem l end → length l ≤ past
    → (w : List ℕ) → w ≡ part_of l start end → worth w ≡ line_says l
unfolding line_says word_end
says_word l start end past s e p h w a =
    let q : past ≡ past_blanks_lem l (end_at 32 l (past_blanks_lem l 0)) = p ∙ ap (past_blanks_lem l) (e ∙ ap (end_at 32 l) s) in
    rw (le-ltb (past_blanks_lem l (end_at 32 l (past_blanks_lem l 0))) (length l) (omega (arith, q)))
    (ap worth (a ∙ ap₂ (part_of l) s (e ∙ ap (end_at 32 l) s)))

-- a number that it says, or none, by the number of its only word
pub said_told : (o : Option ℕ) {v w : ℕ} → MatchOption o (10_000_000 ≡ v) (λ n. (n ≡ v) × (n < 10_000_000)) → v ≡ w
    → MatchOption o (10_000_000 ≡ w) (λ n. (n ≡ w) × (n < 10_000_000))
said_told o m e = subst (λ (x : ℕ). MatchOption o (10_000_000 ≡ x) (λ n. (n ≡ x) × (n < 10_000_000))) e m

-- its number is judged
module _ (n v : ℕ) where
  pub row-none : 10_000_000 ≤ v → 1 ≡ row_trouble_lem n v
  unfolding row_trouble_lem
  row-none h = rw (le-ltb v 10_000_000 h) refl

  pub row-beyond : v < 10_000_000 → n ≤ v → 2 ≡ row_trouble_lem n v
  unfolding row_trouble_lem
  row-beyond h g = rw (lt-ltb v 10_000_000 h, le-ltb v n g) refl

  pub row-right : v < 10_000_000 → v < n → 0 ≡ row_trouble_lem n v
  unfolding row_trouble_lem
  row-right h g = rw (lt-ltb v 10_000_000 h, lt-ltb v n g) refl

-- ---- places
module _ (t : List ℕ) where
  -- the first line
  pub place-first : {at : ℕ} → at ≡ text_start_lem t → at ≡ place_of t 0
  unfolding place_of line_start
  place-first e = e

  -- the next
  pub place-next : {at v : ℕ} (i : ℕ) → at ≡ place_of t i → v ≡ next_line_lem t at → v ≡ place_of t (i + 1)
  unfolding place_of line_start
  place-next i e f = f ∙ rw (add-one) (ap (next_line_lem t) e)

  -- which is farther on
  pub next-far : (at : ℕ) → at < length t → at < next_line_lem t at
  unfolding next_line_lem
  next-far at h = go (end_at 10 t at) (end_behind 10 t at)
    where
      go : (end : ℕ) → at ≤ end → at < cond (ltb end (length t)) (end + 1) end
      go end l = by (ltb end (length t)) refl
        where
          by : (b : Bool) → ltb end (length t) ≡ b → at < cond b (end + 1) end
          by true e = omega arith
          by false e = omega (arith, ltb-false end (length t) e)

  -- or at the end, where it stays
  next-end : next_line_lem t (length t) ≡ length t
  unfolding next_line_lem
  next-end =
      let e : length t ≡ end_at 10 t (length t) = looking_end _ t (length t) (length t) (looking_start _ t (length t) (omega arith)) (omega arith) in
      rw (← e, le-ltb (length t) (length t) (omega arith)) refl

  -- so there is no line behind the end
  place_end : (i d : ℕ) → place_of t i ≡ length t → place_of t (i + d) ≡ length t
  place_end i zero e = ap (place_of t) (omega arith) ∙ e
  place_end i (suc d) e =
      let p = place_end i d e in
      let s : i + suc d ≡ i + d + 1 = omega arith in
      ap (place_of t) s ∙ sym (place-next (i + d) (sym p) (sym next-end))

  -- ---- lines that are not blank
  -- the line at hand
  pub full-here : {at : ℕ} {l : List ℕ} {r : Bool} (i : ℕ) → at ≡ place_of t i → at < length t → l ≡ line_at t at → r ≡ is_blank_lem l → is_full t i ≡ not r
  unfolding is_full line_of
  full-here {at} {l} {r} i p h e b =
      rw (lt-ltb (place_of t i) (length t) (omega (arith, p))) (ap not (ap is_blank_lem (ap (line_at t) (sym p) ∙ sym e) ∙ sym b))

  -- behind the end there is none
  pub full-none : {i at : ℕ} → at ≡ place_of t i → length t ≤ at → at ≤ length t → (j : ℕ) → i ≤ j → is_full t j ≡ false
  unfolding is_full
  full-none {i} {at} p h g j l =
      let s : i + (j - i) ≡ j = omega arith in
      let e : place_of t j ≡ length t = ap (place_of t) (sym s) ∙ place_end i (j - i) (omega (arith, p)) in
      rw (e, le-ltb (length t) (length t) (omega arith)) refl

  -- ---- one of the lines from i on
  -- line i, or one behind it
  any-from : (i : ℕ) → i < length t → any_full t i ≡ (is_full t i || any_full t (i + 1))
  unfolding any_full
  any-from i h = ap (any (is_full t)) (range_on i (length t) h)

  pub any_here : (i : ℕ) → i < length t → is_full t i ≡ true → true ≡ any_full t i
  any_here i h e = sym (any-from i h ∙ rw e refl)

  pub any_next : (i : ℕ) → i < length t → is_full t i ≡ false → any_full t i ≡ any_full t (i + 1)
  any_next i h e = any-from i h ∙ rw e refl

  pub any-over : (i : ℕ) → ((j : ℕ) → i ≤ j → j < length t → is_full t j ≡ false) → any_full t i ≡ false
  unfolding any_full
  any-over i h = any_none (is_full t) (range i (length t - i)) (range-every (λ j. is_full t j ≡ false) i (length t - i) (λ j l. h (i + j) (omega arith) (omega arith)))

-- ---- the lines gone through
-- less of the text is left behind a line
pub less : (t : List ℕ) {at v : ℕ} → v ≡ next_line_lem t at → at < length t → length t - v < length t - at
less t {at} e h = omega (arith, e, next-far t at h)

-- at a line from i on, and all between are blank
pub record Going (t : List ℕ) (i at : ℕ) : Type 0 where
  pub line : ℕ
  pub place : at ≡ place_of t line
  pub low : line ≤ at
  pub inside : at ≤ length t
  pub same : any_full t i ≡ any_full t line

module _ {t : List ℕ} {i : ℕ} where
  pub going_start : {at : ℕ} → at ≡ place_of t i → at ≤ length t → i ≤ at → Going t i at
  going_start p h l = record { line = i; place = p; low = l; inside = h; same = refl }

  module _ {at : ℕ} (G : Going t i at) (h : at < length t) {l : List ℕ} {r : Bool} (e : l ≡ line_at t at) (b : r ≡ is_blank_lem l) where
    pub going_next : {v : ℕ} → r ≡ true → v ≡ next_line_lem t at → v ≤ length t → Going t i v
    going_next {v} z n g =
        let far = next-far t at h in
        record {
          line = G.line + 1;
          place = place-next t G.line G.place n;
          low = omega (arith, G.low, far, n);
          inside = g;
          same = G.same ∙ any_next t G.line (omega (arith, G.low)) (full-here t G.line G.place h e b ∙ ap not z);
        }

    pub going-full : r ≡ false → true ≡ any_full t i
    going-full z = any_here t G.line (omega (arith, G.low)) (full-here t G.line G.place h e b ∙ ap not z) ∙ sym G.same

  pub going_end : {at : ℕ} → Going t i at → length t ≤ at → false ≡ any_full t i
  going_end {at} G h = sym (G.same ∙ any-over t G.line (λ j l m. full-none t G.place h G.inside j l))
