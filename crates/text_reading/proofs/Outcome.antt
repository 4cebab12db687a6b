-- The outcomes of the reading: what each number says of the text, and that no second outcome fits. Assumes nothing.
use Prim.Native.Nat.{◌<◌, ◌≤◌, ℕ}
use Rattle.laws.proofs.Never.{never}
use Rattle.text_reading.proofs.Answers.{done, refused-room, refused-text}
use Rattle.text_reading.proofs.Readings.{reads_what_is-said, said_what_is-read}
use Rattle.text_reading.proofs.Said.{five-said, not-read, zero-said}
use Rattle.text_reading.specs.Calls.{Reads}
use Rattle.text_reading.specs.Reading.{numbers, readable}
use Rattle.text_reading.specs.Text.{Readable, ReadInto, TooMany}
use lib.Dec.{eqb}
use lib.ListN.{drop, length, length-append, take}
use lib.Seq.{take_at}
use mathlib.Core.Bool.{Bool, cond, false, true}
use mathlib.Core.List.{List, ◌++◌}
use mathlib.Core.Logic.{◌↔◌}
use mathlib.Core.Path.{◌∙◌, ◌≡◌, ap, refl, subst, sym}
use native.Mathlib.Omega.{arith}

-- NO SECOND NUMBER, COUNT OR ROOM FITS
pub read_only : (t room r s : List ℕ) (a b j k : ℕ) → Reads t room r a j → Reads t room s b k → (a ≡ b) × (j ≡ k) × (r ≡ s)
read_only t room r s a b j k h g =
    let e : a ≡ b = h.said ∙ sym g.said in (
      e,
      h.counted ∙ ap (λ (x : ℕ). cond (eqb x 0) (length (numbers t)) 0) e ∙ sym g.counted,
      h.filled ∙ ap (λ (x : ℕ). cond (eqb x 0) (numbers t ++ drop (length (numbers t)) room) room) e ∙ sym g.filled,
    )

module _ (t room room' : List ℕ) (number count : ℕ) (h : Reads t room room' number count) where
  -- ON 0 THE TEXT SAYS WHAT STANDS AT THE FRONT OF THE ROOM
  pub zero-reads : number ≡ 0 → (Readable t (take count room')) × (count ≤ length room')
  zero-reads z =
      let ok = zero-said t (length room) (sym h.said ∙ z) in
      let k : count ≡ length (numbers t) = h.counted ∙ ap (λ (x : ℕ). cond (eqb x 0) (length (numbers t)) 0) z in
      let w : room' ≡ numbers t ++ drop (length (numbers t)) room =
      h.filled ∙ ap (λ (x : ℕ). cond (eqb x 0) (numbers t ++ drop (length (numbers t)) room) room) z in (
        rw (w, k, take_at (numbers t) (drop (length (numbers t)) room) (length (numbers t)) refl) (said_what_is-read t ok.0),
        omega (arith, k, simp length-append at (ap length w)),
      )

  -- ON 18 THE TEXT IS READABLE AS NO NUMBERS
  pub refused-unreadable : number ≡ 18 → (ns : List ℕ) → Readable t ns → ⊥
  refused-unreadable z ns g =
      never (sym (not-read t (length room) (sym h.said ∙ z)) ∙ (reads_what_is-said t ns g).0)

  -- ---- EACH NUMBER, EXACTLY WHEN IT IS GIVEN
  -- 18: THE TEXT IS READABLE AS NO NUMBERS
  pub given-18 : (number ≡ 18) ↔ ((ns : List ℕ) → Readable t ns → ⊥)
  given-18 = (refused-unreadable, λ f. go f (readable t) refl)
    where
      go : ((ns : List ℕ) → Readable t ns → ⊥) → (b : Bool) → readable t ≡ b → number ≡ 18
      go f true e = absurd (f (numbers t) (said_what_is-read t e))
      go f false e = h.said ∙ sym (refused-text t room e).said

  -- 5: IT IS READABLE, AS MORE NUMBERS THAN THE ROOM HAS PLACES
  pub given-5 : (number ≡ 5) ↔ TooMany t (length room)
  given-5 = (
    λ z.
        let ok = five-said t (length room) (sym h.said ∙ z) in
        record { ns = numbers t; readable = said_what_is-read t ok.0; more = ok.1 },
    λ m.
        let r = reads_what_is-said t m.ns m.readable in
        h.said ∙ sym (refused-room t room r.0 (subst (λ (ns : List ℕ). length room < length ns) (sym r.1) m.more)).said,
  )

  -- 0: IT IS READABLE, AS NUMBERS THAT FIT; THESE STAND AT THE FRONT OF THE ROOM, WHICH IS AS IT WAS BEHIND THEM
  pub given-0 : (number ≡ 0) ↔ ReadInto t room room' count
  given-0 = (
    λ z.
        let ok = zero-said t (length room) (sym h.said ∙ z) in
        record {
          ns = numbers t;
          readable = said_what_is-read t ok.0;
          fit = ok.1;
          counted = h.counted ∙ ap (λ (x : ℕ). cond (eqb x 0) (length (numbers t)) 0) z;
          filled = h.filled ∙ ap (λ (x : ℕ). cond (eqb x 0) (numbers t ++ drop (length (numbers t)) room) room) z;
        },
    λ m.
        let r = reads_what_is-said t m.ns m.readable in
        h.said
        ∙ sym (done t room (numbers t ++ drop (length (numbers t)) room) (length (numbers t)) r.0
        (subst (λ (ns : List ℕ). length ns ≤ length room) (sym r.1) m.fit) refl refl).said,
  )
