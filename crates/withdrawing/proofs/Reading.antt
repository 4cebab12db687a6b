-- The lines of a text read one after the other, and what is left at each return. Assumes nothing.
use Prim.Native.Nat.{◌+◌, ◌-◌, ◌<◌, ◌≤◌, min, suc, zero, ℕ}
use Rattle.column_products.proofs.Firsts.{first-here, first-none, first_on}
use Rattle.column_products.specs.Chosen.{first_to}
use Rattle.laws.proofs.Empty.{any_false}
use Rattle.laws.proofs.First.{any-more}
use Rattle.laws.proofs.Ranges.{every-range}
use Rattle.laws.specs.Lists.{any, range}
use Rattle.text_lines.specs.Lines.{line_at, next_line_lem, text_start_lem}
use Rattle.orders.proofs.Calls.{carried_keep}
use Rattle.orders.proofs.Outcomes.{none_said}
use Rattle.orders.specs.Orders.{Orders, done, next, striking}
use Rattle.rowset.proofs.Refused.{right-has}
use Rattle.rowset.proofs.Rows.{in_struck, struck-length}
use Rattle.rowset.specs.Sets.{is_in_lem, set_bad_lem, struck, words_for_lem}
use Rattle.row_lines.proofs.Places.{any-over, full-here, full-none, next-far, place-first, place-next}
use Rattle.row_lines.specs.Lines.{any_full, is_blank_lem, is_full, line_of, line_says, place_of}
use Rattle.row_lines.specs.Rows.{code_of, row_trouble_lem}
use Rattle.row_lines.specs.declared.LineFault.TheVariants.{Blank, NoRow, NotANumber}
use Rattle.row_lines.specs.declared.LineFault.{LineFault}
use Rattle.withdrawing.specs.Withdrawn.{Withdraws, is_said_lem, line_trouble, says_row, set_words, wrong_line}
use borrow.Author.Tests.{eq-eqb, le-ltb, lt-ltb, ltb-true, ne_eqb}
use lib.Dec.{T, eqb, ltb}
use lib.ListN.{drop, length, take}
use lib.Seq.{length-take-le, take_at}
use mathlib.Core.Bool.{Bool, ◌||◌, cond, false, not, or_assoc, or-false, or-true, true}
use mathlib.Core.List.{List, ◌++◌}
use mathlib.Core.Path.{◌∙◌, ◌≡◌, ap, refl, subst, sym}
use native.Mathlib.Decide.{ℕ_discrete}
use native.Mathlib.Nat.{zero-add}
use native.Mathlib.Numerals.{add-one}
use native.Mathlib.Omega.{arith}

-- ---- one line
module _ (n : ℕ) (t : List ℕ) where
  -- something is wrong with line i
  abbrev bad : ℕ → Bool
  bad i = not (eqb (line_trouble n t i) 0)

  -- a line that is not blank is judged by its number
  pub trouble-full : {v : ℕ} (i : ℕ) → is_full t i ≡ true → v ≡ line_says (line_of t i) → row_trouble_lem n v ≡ line_trouble n t i
  unfolding line_trouble
  trouble-full i f e = rw (f, e) refl

  -- a blank one by those below it
  pub trouble-blank : (i : ℕ) → is_full t i ≡ false → line_trouble n t i ≡ cond (any_full t i) 3 0
  unfolding line_trouble
  trouble-blank i f = rw f refl

  -- what the line at hand says
  pub line-says : {at v : ℕ} {l : List ℕ} (i : ℕ) → at ≡ place_of t i → l ≡ line_at t at → v ≡ line_says l → v ≡ line_says (line_of t i)
  unfolding line_of
  line-says i p e h = h ∙ ap line_says (e ∙ ap (line_at t) p)

-- one line more
said-next : (t : List ℕ) (i r : ℕ) → is_said_lem t (i + 1) r ≡ (is_said_lem t i r || says_row t r i)
unfolding is_said_lem
said-next t i r = any-more (says_row t r) 0 i ∙ ap (λ (x : ℕ). any (says_row t r) (range 0 i) || says_row t r x) (zero-add i)

says_full : (t : List ℕ) (i r : ℕ) {v : ℕ} → is_full t i ≡ true → v ≡ line_says (line_of t i) → says_row t r i ≡ eqb v r
unfolding says_row
says_full t i r f e = rw (f, ← e) refl

says_blank : (t : List ℕ) (i r : ℕ) → is_full t i ≡ false → says_row t r i ≡ false
unfolding says_row
says_blank t i r f = rw f refl

-- ---- one row more
-- a row that is struck
struck-by : {s s' : List ℕ} {n v k : ℕ} → set_bad_lem s n ≡ false → v < n → Orders s s' n (striking v) k → s' ≡ struck s v
struck-by {s} {s'} {n} {v} {k} b h o =
    let z : k ≡ 0 = o.said ∙ sym (none_said s n v b h) in
    o.set ∙ ap (λ (x : Bool). cond x (struck s v) s) (eq-eqb k 0 z)

struck_long : {s s' : List ℕ} {n v k : ℕ} → set_bad_lem s n ≡ false → v < n → Orders s s' n (striking v) k → length s' ≡ length s
struck_long {s} {v = v} b h o = ap length (struck-by b h o) ∙ struck-length s v

-- the rows that are in the set then
struck_in : {s s' : List ℕ} {n v k : ℕ} → set_bad_lem s n ≡ false → v < n → Orders s s' n (striking v) k → (r : ℕ) → is_in_lem s' r ≡ (is_in_lem s r || eqb v r)
struck_in {s} {s'} {n} {v} {k} b h o r =
    ap (λ (x : List ℕ). is_in_lem x r) (struck-by b h o) ∙ in_struck s v r (right-has s n b v h) ∙ go (ℕ_discrete r v)
  where
    go : Dec (r ≡ v) → cond (eqb r v) true (is_in_lem s r) ≡ (is_in_lem s r || eqb v r)
    go (yes q) = rw (eq-eqb r v q, eq-eqb v r (sym q)) (sym (or-true (is_in_lem s r)))
    go (no q) = rw (ne_eqb r v q, ne_eqb v r (λ e. q (sym e))) (sym (or-false (is_in_lem s r)))

struck-right : {s s' : List ℕ} {n v k : ℕ} → set_bad_lem s n ≡ false → Orders s s' n (striking v) k → set_bad_lem s' n ≡ false
struck-right b o = carried_keep (next o done) ∙ b

-- a number with which nothing is wrong is a row
pub row_below : (n v : ℕ) → row_trouble_lem n v ≡ 0 → v < n
unfolding row_trouble_lem
row_below n v e = go (ltb v 10_000_000) (ltb v n) refl e
  where
    go : (a b : Bool) → ltb v n ≡ b → ◌≡◌ {A = ℕ} (cond a (cond b 0 2) 1) 0 → v < n
    go true true p e = ltb-true v n p
    go true false p e = absurd (omega (arith, e))
    go false b p e = absurd (omega (arith, e))

-- where no line is full, this one is not
none_of : (t : List ℕ) (i j : ℕ) → i ≤ j → j < length t → any_full t i ≡ false → is_full t j ≡ false
unfolding any_full
none_of t i j l m e =
    let s : i + (j - i) ≡ j = omega arith in
    subst (λ (x : ℕ). is_full t x ≡ false) s (every-range (λ x. is_full t x ≡ false) i (length t - i) (j - i) (any_false (is_full t) (range i (length t - i)) e) (omega arith))

-- ---- the lines so far
pub record Reading (t : List ℕ) (n : ℕ) (s₀ s : List ℕ) (at i : ℕ) : Type 0 where
  pub place : at ≡ place_of t i
  pub low : i ≤ at
  pub inside : at ≤ length t
  pub right₀ : set_bad_lem s₀ n ≡ false
  pub right : set_bad_lem s n ≡ false
  pub long : length s ≡ length s₀
  pub lines : first_to (bad n t) i ≡ i
  pub rows : (r : ℕ) → is_in_lem s r ≡ (is_in_lem s₀ r || is_said_lem t i r)

-- before the first
pub reading_start : {t : List ℕ} {n : ℕ} {s : List ℕ} {at : ℕ} → set_bad_lem s n ≡ false → at ≡ text_start_lem t → at ≤ length t → Reading t n s s at 0
unfolding is_said_lem
reading_start {t} {n} {s} b e h =
    record {
      place = place-first t e;
      low = omega arith;
      inside = h;
      right₀ = b;
      right = b;
      long = refl;
      lines = first-none (bad n t);
      rows = λ r. sym (or-false (is_in_lem s r));
    }

-- a fault of a line is something
pub code_of-some : (f : LineFault) → code_of f ≡ 0 → ⊥
code_of-some NotANumber z = omega arith
code_of-some NoRow z = omega arith
code_of-some Blank z = omega arith

-- a set that is right is not wrong
not-both : {a : Bool} {A : Type 0} → a ≡ false → a ≡ true → A
not-both e f = absurd (subst T (sym f ∙ e) tt)

-- a set at the front of a room
pub least-words : (n m : ℕ) {k v : ℕ} → k ≡ min v m → v ≡ words_for_lem n → k ≡ min (words_for_lem n) m
least-words n m e f = e ∙ ap (λ (x : ℕ). min x m) f

pub withdrew_in : {t : List ℕ} {n : ℕ} (room room' : List ℕ) {part : List ℕ} {k w l : ℕ} → k ≡ set_words n room → Withdraws t n (take k room) part w l
    → room' ≡ part ++ drop k room → Withdraws t n (take (set_words n room) room) (take (set_words n room) room') w l
withdrew_in {t} {n} room room' {part} {k} {w} {l} e x f =
    let long : length part ≡ k = x.long ∙ length-take-le k room (omega (arith, e)) in
    let out : part ≡ take k room' = sym (ap (take k) f ∙ take_at part (drop k room) k long) in
    subst (λ (y : ℕ). Withdraws t n (take y room) (take y room') w l) e (subst (λ (y : List ℕ). Withdraws t n (take k room) y w l) out x)

-- and one that is wrong is left
pub withdrew_not : {t : List ℕ} {n : ℕ} {s : List ℕ} {b : Bool} → b ≡ set_bad_lem s n → b ≡ true → Withdraws t n s s 20 0
withdrew_not e z =
    let bad = sym e ∙ z in
    record {
      unset = λ x. (refl, refl, refl);
      said = λ x. not-both x bad;
      where# = λ x. not-both x bad;
      rows = λ x. not-both x bad;
      right = λ x. x;
      long = refl;
    }

module _ {t : List ℕ} {n : ℕ} {s₀ s : List ℕ} {at i : ℕ} (R : Reading t n s₀ s at i) where
  -- what is left where line i is the first that is wrong
  wrong-here : {w : ℕ} → i < length t → w ≡ line_trouble n t i → (w ≡ 0 → ⊥) → Withdraws t n s₀ s w (i + 1)
  unfolding wrong_line
  wrong-here {w} h e z =
      let b : bad n t i ≡ true = ap not (ne_eqb (line_trouble n t i) 0 (λ q. z (e ∙ q))) in
      let f : first_to (bad n t) (length t) ≡ i = first-here (bad n t) (length t) R.lines b h in
      record {
        unset = λ x. not-both R.right₀ x;
        said = λ x. rw (f, lt-ltb i (length t) h) e;
        where# = λ x. rw (f, lt-ltb i (length t) h) (add-one i);
        rows = λ x r. rw f (R.rows r);
        right = λ x. R.right;
        long = R.long;
      }

  -- and where none is: no line from here on is full
  all_right : ((j : ℕ) → i ≤ j → j < length t → is_full t j ≡ false) → (d : ℕ) → i + d ≤ length t → first_to (bad n t) (i + d) ≡ i + d
  all_right h zero l = let e : i + zero ≡ i = omega arith in ap (first_to (bad n t)) e ∙ R.lines ∙ sym e
  all_right h (suc d) l =
      let e : i + suc d ≡ i + d + 1 = omega arith in
      let none : line_trouble n t (i + d) ≡ 0 =
      trouble-blank n t (i + d) (h (i + d) (omega arith) (omega arith)) ∙ ap (λ (b : Bool). cond b 3 0) (any-over t (i + d) (λ j m k. h j (omega arith) k)) in
      ap (first_to (bad n t)) e ∙ first_on (bad n t) (all_right h d (omega arith)) (ap (λ (x : ℕ). not (eqb x 0)) none) ∙ sym e

  all_said : ((j : ℕ) → i ≤ j → j < length t → is_full t j ≡ false) → (d r : ℕ) → i + d ≤ length t → is_said_lem t (i + d) r ≡ is_said_lem t i r
  all_said h zero r l = ap (λ (x : ℕ). is_said_lem t x r) (omega arith)
  all_said h (suc d) r l =
      let e : i + suc d ≡ i + d + 1 = omega arith in
      ap (λ (x : ℕ). is_said_lem t x r) e ∙ said-next t (i + d) r ∙ rw (says_blank t (i + d) r (h (i + d) (omega arith) (omega arith)))
      (or-false (is_said_lem t (i + d) r) ∙ all_said h d r (omega arith))

  none_wrong : ((j : ℕ) → i ≤ j → j < length t → is_full t j ≡ false) → i ≤ length t → Withdraws t n s₀ s 0 0
  unfolding wrong_line
  none_wrong h g =
      let e : i + (length t - i) ≡ length t = omega arith in
      let f : first_to (bad n t) (length t) ≡ length t = ap (first_to (bad n t)) (sym e) ∙ all_right h (length t - i) (omega arith) ∙ e in
      record {
        unset = λ x. not-both R.right₀ x;
        said = λ x. rw (f, le-ltb (length t) (length t) (omega arith)) refl;
        where# = λ x. rw (f, le-ltb (length t) (length t) (omega arith)) refl;
        rows = λ x r. R.rows r ∙ ap (λ (b : Bool). is_in_lem s₀ r || b) (sym (all_said h (length t - i) r (omega arith)) ∙ ap (λ (y : ℕ). is_said_lem t y r) (e ∙ sym f));
        right = λ x. R.right;
        long = R.long;
      }

  -- the end
  pub reading-end : length t ≤ at → Withdraws t n s₀ s 0 0
  reading-end h = none_wrong (λ j l m. full-none t R.place h R.inside j l) (omega (arith, R.low, R.inside))

  module _ (h : at < length t) {l : List ℕ} {r : Bool} (e : l ≡ line_at t at) (b : r ≡ is_blank_lem l) where
    -- a blank line above one that is not
    pub reading-blank : {f : Bool} → r ≡ true → f ≡ any_full t i → f ≡ true → Withdraws t n s₀ s 3 (i + 1)
    reading-blank z q y =
        let blank = full-here t i R.place h e b ∙ ap not z in
        wrong-here (omega (arith, R.low)) (sym (trouble-blank n t i blank ∙ ap (λ (x : Bool). cond x 3 0) (sym q ∙ y))) (λ x. absurd (omega (arith, x)))

    -- blank lines alone
    pub reading-rest : {f : Bool} → r ≡ true → f ≡ any_full t i → f ≡ false → Withdraws t n s₀ s 0 0
    unfolding any_full
    reading-rest z q y = none_wrong (λ j l m. none_of t i j l m (sym q ∙ y)) (omega (arith, R.low))

    module _ (z : r ≡ false) {v w : ℕ} (u : v ≡ line_says l) (x : w ≡ row_trouble_lem n v) where
      full : is_full t i ≡ true
      full = full-here t i R.place h e b ∙ ap not z

      says : v ≡ line_says (line_of t i)
      says = line-says n t i R.place e u

      -- a number that is no row
      pub reading-wrong : (w ≡ 0 → ⊥) → Withdraws t n s₀ s w (i + 1)
      reading-wrong y = wrong-here (omega (arith, R.low)) (x ∙ trouble-full n t i full says) y

      -- a row more
      pub reading-next : {s' : List ℕ} {k at' : ℕ} → w ≡ 0 → Orders s s' n (striking v) k → at' ≡ next_line_lem t at → at' ≤ length t → Reading t n s₀ s' at' (i + 1)
      reading-next {s'} {k} {at'} y o p g =
          let far = next-far t at h in
          record {
            place = place-next t i R.place p;
            low = omega (arith, R.low, far, p);
            inside = g;
            right₀ = R.right₀;
            right = struck-right R.right o;
            long = struck_long R.right (row_below n v (sym x ∙ y)) o ∙ R.long;
            lines = first_on (bad n t) R.lines (ap (λ (q : ℕ). not (eqb q 0)) (sym (trouble-full n t i full says) ∙ sym x ∙ y));
            rows = λ q.
                struck_in R.right (row_below n v (sym x ∙ y)) o q ∙ ap (λ (c : Bool). c || eqb v q) (R.rows q) ∙ or_assoc (is_in_lem s₀ q) (is_said_lem t i q) (eqb v q)
                ∙ ap (λ (c : Bool). is_in_lem s₀ q || c) (ap (λ (c : Bool). is_said_lem t i q || c) (sym (says_full t i q full says)) ∙ sym (said-next t i q));
          }
