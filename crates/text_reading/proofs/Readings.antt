-- A readable text is read as the numbers it says, and no other text is read. Assumes nothing.
use Prim.Native.Nat.{◌*◌, ◌+◌, ◌≤◌, ℕ}
use Rattle.limits.proofs.Ranges.{both-within}
use Rattle.limits.specs.Limits.{within}
use Rattle.text_reading.proofs.Answers.{ends-well, read_some}
use Rattle.text_reading.proofs.Bytes.{Byte, Opens, at_start, begun-digit, begun-other, begun_parted, digit-ends-none, grown-fits, grown_or_lost, is_digit, is_newline, is_other, is_space, kind, onward-digit, onward_newline, onward-other, onward_parted, open_step, parted_ends}
use Rattle.laws.proofs.Never.{never}
use Rattle.text_reading.specs.Reading.{behind, ended_by, ends, found, numbers, onward, readable, stepped}
use Rattle.text_reading.specs.Text.{Decimal, Parts, Readable, Says, digit, followed, last, last_line, more, newline, space}
use Rattle.text_reading.specs.declared.Place.TheVariants.{Inside, Lost, Start}
use Rattle.text_reading.specs.declared.Place.{Place}
use lib.ListN.{length}
use mathlib.Core.Bool.{false, true}
use mathlib.Core.List.{List, [], ◌++◌, ◌∷◌, append_assoc, append-nil}
use mathlib.Core.Logic.{⊎_elim}
use mathlib.Core.Path.{◌∙◌, ◌≡◌, ap, refl, sym}
use native.Mathlib.Omega.{arith}

-- ---- one byte more
-- to read t from p is to read t' from p'
record Leads (p : Place) (t : List ℕ) (p' : Place) (t' : List ℕ) : Type 0 where
  place : behind p t ≡ behind p' t'
  found : found p t ≡ found p' t'

-- a byte at which no number ends
byte-leads : (p p' : Place) (b : ℕ) (t : List ℕ) → stepped p b ≡ p' → ended_by p b ≡ [] → Leads p (b ∷ t) p' t
unfolding behind found
byte-leads p p' b t q e = record { place = rw q; found = rw (e, q) }

-- the digits of a number, where one may start
decimal_leads : {n : ℕ} {ds : List ℕ} (p : Place) → Opens p → Decimal n ds → n ≤ 65_535 → (t : List ℕ) → Leads p (ds ++ t) (Inside n) t
decimal_leads p o (digit {d} h) l t = byte-leads p (Inside d) (48 + d) t (open_step (48 + d) o ∙ begun-digit d h) (digit-ends-none d h p)
decimal_leads p o (followed {n} {d} {ds} x s h) l t =
    let front : Leads p (ds ++ (48 + d) ∷ t) (Inside n) ((48 + d) ∷ t) = decimal_leads p o x (omega arith) ((48 + d) ∷ t) in
    let back : Leads (Inside n) ((48 + d) ∷ t) (Inside (10 * n + d)) t =
    byte-leads (Inside n) (Inside (10 * n + d)) (48 + d) t (onward-digit d h n ∙ grown-fits n d s l) (digit-ends-none d h (Inside n)) in
    record {
      place = rw append_assoc (front.place ∙ back.place);
      found = rw append_assoc (front.found ∙ back.found);
    }

-- a byte that parts, behind a number: the number is found
parted_found : (n b : ℕ) → Parts b → (t : List ℕ) → found (Inside n) (b ∷ t) ≡ n ∷ found (onward n b) t
unfolding found
parted_found n b x t = rw (parted_ends (Inside n) x)

-- ---- what is said is read
-- a text that says numbers, where one may start, ends well and has these found
said_read : {t ns : List ℕ} (p : Place) → Opens p → Says t ns → (ends (behind p t) ≡ true) × (found p t ≡ ns)
unfolding behind found
said_read p o (last {n} {ds} x l) =
    let h : Leads p (ds ++ []) (Inside n) [] = decimal_leads p o x l [] in
    (rw (append-nil ds) at (ap ends h.place), rw (append-nil ds) at h.found)
said_read p o (last_line {n} {ds} x l) =
    let h : Leads p (ds ++ 10 ∷ []) (Inside n) (10 ∷ []) = decimal_leads p o x l (10 ∷ []) in (
      ap ends h.place ∙ ap ends (onward_newline n),
      h.found ∙ parted_found n 10 newline [] ∙ ap (λ (q : Place). n ∷ found q []) (onward_newline n),
    )
said_read p o (more {n} {b} {ds} {t} {ns} x l s y) =
    let h : Leads p (ds ++ b ∷ t) (Inside n) (b ∷ t) = decimal_leads p o x l (b ∷ t) in
    let r = said_read (onward n b) (onward_parted n s) y in
    (ap ends h.place ∙ r.0, h.found ∙ parted_found n b s t ∙ ap (λ (ks : List ℕ). n ∷ ks) r.1)

-- A TEXT THAT SAYS 3 TO 1,027 NUMBERS IS READ, AND AS THESE
pub reads_what_is-said : (t ns : List ℕ) → Readable t ns → (readable t ≡ true) × (numbers t ≡ ns)
unfolding readable
reads_what_is-said t ns h =
    let r = said_read Start at_start h.says in (
      rw r.0 (ap (λ (ks : List ℕ). within 3 1_027 (length ks)) r.1 ∙ both-within 3 1_027 (length ns) h.enough h.few),
      r.1,
    )

-- ---- what is read is said
-- a reader that is lost stays lost
lost_stays : (t : List ℕ) → ends (behind Lost t) ≡ false
unfolding behind
lost_stays [] = refl
lost_stays (b ∷ t) = lost_stays t

-- a text at which the reader is lost does not end well
lost : {A : Type 0} (p : Place) (t : List ℕ) → p ≡ Lost → ends (behind p t) ≡ true → A
lost p t q e = never (sym (ap (λ (x : Place). ends (behind x t)) q ∙ lost_stays t) ∙ e)

-- inside a number with the digits ds, the rest of the text goes on with it
abbrev GoesOn : List ℕ → Type 0
GoesOn t = (v : ℕ) (ds : List ℕ) → Decimal v ds → v ≤ 65_535 → ends (behind (Inside v) t) ≡ true → Says (ds ++ t) (found (Inside v) t)

-- where a number may start, it starts with the first byte
starts : (p : Place) {b : ℕ} (t : List ℕ) → Opens p → Byte b → GoesOn t → ends (behind p (b ∷ t)) ≡ true
    → Says (b ∷ t) (found p (b ∷ t))
unfolding behind
starts p t o (is_digit {d} h) goes e =
    let l : Leads p ((48 + d) ∷ t) (Inside d) t =
    byte-leads p (Inside d) (48 + d) t (open_step (48 + d) o ∙ begun-digit d h) (digit-ends-none d h p) in
    rw l.found (goes d ((48 + d) ∷ []) (digit h) (omega arith) (sym (ap ends l.place) ∙ e))
starts p t o is_space goes e = lost (stepped p 32) t (open_step 32 o ∙ begun_parted space) e
starts p t o is_newline goes e = lost (stepped p 10) t (open_step 10 o ∙ begun_parted newline) e
starts p t o (is_other {b} x y z) goes e = lost (stepped p b) t (open_step b o ∙ begun-other b x y z) e

module _ (v : ℕ) (ds : List ℕ) (x : Decimal v ds) (l : v ≤ 65_535) where
  -- inside a number, one byte more: a digit goes behind it, and a byte that parts leaves the rest of the text
  byte_more : {b : ℕ} (t : List ℕ) → Byte b → GoesOn t
      → (Parts b → ends (behind (onward v b) t) ≡ true → Says (ds ++ b ∷ t) (v ∷ found (onward v b) t))
      → ends (behind (Inside v) (b ∷ t)) ≡ true → Says (ds ++ b ∷ t) (found (Inside v) (b ∷ t))
  unfolding behind
  byte_more t (is_digit {d} h) goes parted e =
      ⊎_elim
      (λ (f : (1 ≤ v) × (10 * v + d ≤ 65_535)).
      let g : Leads (Inside v) ((48 + d) ∷ t) (Inside (10 * v + d)) t =
      byte-leads (Inside v) (Inside (10 * v + d)) (48 + d) t (onward-digit d h v ∙ grown-fits v d f.0 f.1) (digit-ends-none d h (Inside v)) in
      rw g.found (rw append_assoc at (goes (10 * v + d) (ds ++ (48 + d) ∷ []) (followed x f.0 h) f.1 (sym (ap ends g.place) ∙ e))))
      (λ f. lost (onward v (48 + d)) t (onward-digit d h v ∙ f) e)
      (grown_or_lost v d)
  byte_more t is_space goes parted e = rw (parted_found v 32 space t) (parted space e)
  byte_more t is_newline goes parted e = rw (parted_found v 10 newline t) (parted newline e)
  byte_more t (is_other {b} p q r) goes parted e = lost (onward v b) t (onward-other b p q r v) e

  -- a text that ends with the byte that parts: only a newline may be last
  ends-parted : {b : ℕ} → Parts b → ends (behind (onward v b) []) ≡ true → Says (ds ++ b ∷ []) (v ∷ found (onward v b) [])
  unfolding behind found onward
  ends-parted space e = never e
  ends-parted newline e = last_line x l

-- any rest of a text goes on so
goes_on : (t : List ℕ) → GoesOn t
unfolding found
goes_on [] v ds x l e = rw append-nil (last x l)
goes_on (b ∷ []) v ds x l e = byte_more v ds x l [] (kind b) (goes_on []) (ends-parted v ds x l) e
goes_on (b ∷ b' ∷ t) v ds x l e =
    byte_more v ds x l (b' ∷ t) (kind b) (goes_on (b' ∷ t))
    (λ s q. more x l s (starts (onward v b) t (onward_parted v s) (kind b') (goes_on t) q))
    e

-- a text that ends well from the front says what is found
read-said : (t : List ℕ) → ends (behind Start t) ≡ true → Says t (found Start t)
unfolding behind
read-said [] e = never e
read-said (b ∷ t) e = starts Start t at_start (kind b) (goes_on t) e

-- A TEXT THAT IS READ SAYS THE NUMBERS THAT ARE READ, 3 TO 1,027
pub said_what_is-read : (t : List ℕ) → readable t ≡ true → Readable t (numbers t)
said_what_is-read t e = record { says = read-said t (ends-well t e); enough = (read_some t e).0; few = (read_some t e).1 }

-- A TEXT IS READABLE IN ONE WAY AT MOST
pub one_reading : (t ns ns' : List ℕ) → Readable t ns → Readable t ns' → ns ≡ ns'
one_reading t ns ns' h g = sym (reads_what_is-said t ns h).1 ∙ (reads_what_is-said t ns' g).1
