-- Laws of marks that are left: written to the how-bytes, and the rows in listed. Assumes nothing.
use Prim.Native.Nat.{◌%◌, ◌*◌, ◌+◌, ◌-◌, ◌<◌, ◌≤◌, suc, zero, ℕ}
use Rattle.laws.proofs.Joins.{each_append}
use Rattle.laws.proofs.Ranges.{range_append}
use Rattle.laws.specs.Lists.{each, range}
use Rattle.limits.specs.Limits.{max_distance}
use Rattle.marking.proofs.Written.{marked-same, shown_append}
use Rattle.marking.specs.Listed.{Leaves, entered, listed, room_for, span, told, unmeasured}
use Rattle.marking.specs.Written.{byte, marked, write}
use Rattle.measure.specs.Distance.{capped}
use Rattle.tree.proofs.Veiled.{veiled-append}
use Rattle.tree.specs.Radius.{by_distance, shown, veiled}
use borrow.Author.Tests.{le-ltb, leb-false, leb-true, lt-leb, lt-ltb, ne_eqb}
use lib.Dec.{eqb, leb}
use lib.ListN.{get_or, length, set}
use mathlib.Core.Bool.{Bool, cond, false, true}
use mathlib.Core.List.{List, [], ◌++◌, ◌∷◌, append-nil}
use mathlib.Core.Path.{◌∙◌, ◌≡◌, ap, refl, subst, sym}
use native.Mathlib.Omega.{arith}

-- ---- a store beyond the end changes nothing
pub set_beyond : (h : List ℕ) (i v : ℕ) → length h ≤ i → h ≡ set h i v
set_beyond [] i v l = refl
set_beyond (y ∷ h) zero v l = absurd (omega arith)
set_beyond (y ∷ h) (suc i) v l = ap (λ t. y ∷ t) (set_beyond h i v (omega arith))

-- ---- one entry
module _ (d i : ℕ) (l : List ℕ) {k : ℕ} (count : k ≡ get_or l 0 0) where
  -- there is room
  pub enter-in : k < room_for l → {l' : List ℕ} → l' ≡ set (set (set l (2 * k + 1) d) (2 * k + 2) i) 0 (k + 1) → l' ≡ entered d i l
  unfolding entered
  enter-in less e =
      let q : get_or l 0 0 < room_for l = omega arith in
      e ∙ ap (λ (k : ℕ). set (set (set l (2 * k + 1) d) (2 * k + 2) i) 0 (k + 1)) count ∙ sym (rw (lt-ltb (get_or l 0 0) (room_for l) q))

  -- there is none
  pub enter-out : room_for l ≤ k → l ≡ entered d i l
  unfolding entered
  enter-out more =
      let q : room_for l ≤ get_or l 0 0 = omega arith in
      rw (le-ltb (get_or l 0 0) (room_for l) q)

-- only a measured row's distance is listed
same-listed : (x y : ℕ → ℕ) (i v : ℕ) (l : List ℕ) → (v ≡ 3 → ⊥) → listed x (i, v) l ≡ listed y (i, v) l
unfolding listed
same-listed x y i v l n = rw (ne_eqb v 3 n) refl

-- ---- many
-- marks after marks
pub told_append : (x : ℕ → ℕ) (ms ns : List (ℕ × ℕ)) (l : List ℕ) → told x (ms ++ ns) l ≡ told x ns (told x ms l)
unfolding told
told_append x [] ns l = refl
told_append x (m ∷ ms) ns l = told_append x ms ns (listed x m l)

module _ (gone : ℕ → Bool) (x : ℕ → ℕ) where
  -- no mark
  pub leaves_none : {h l : List ℕ} → Leaves gone x [] h h l l
  unfolding write told
  leaves_none = record { bytes = refl; rows = refl }

  -- marks after marks
  pub leaves-then : (ms ns : List (ℕ × ℕ)) {h h₁ h₂ l l₁ l₂ : List ℕ} → Leaves gone x ms h h₁ l l₁ → Leaves gone x ns h₁ h₂ l₁ l₂
      → Leaves gone x (ms ++ ns) h h₂ l l₂
  leaves-then ms ns {h} {h₁} {h₂} {l} {l₁} {l₂} a b =
      record {
        bytes = b.bytes ∙ ap (write (veiled gone ns)) a.bytes ∙ sym (shown_append gone ms ns h);
        rows =
            b.rows ∙ ap (told x (veiled gone ns)) a.rows
            ∙ sym (ap (λ t. told x t l) (veiled-append gone ms ns) ∙ told_append x (veiled gone ms) (veiled gone ns) l);
      }

  -- the same marks
  pub leaves-as : {ms ns : List (ℕ × ℕ)} {h h₁ l l₁ : List ℕ} → ms ≡ ns → Leaves gone x ms h h₁ l l₁ → Leaves gone x ns h h₁ l l₁
  leaves-as {ms} {ns} {h} {h₁} {l} {l₁} e a =
      record { bytes = a.bytes ∙ ap (λ t. write (veiled gone t) h) e; rows = a.rows ∙ ap (λ t. told x (veiled gone t) l) e }

  -- the same how-bytes and list
  pub leaves-same : {ms : List (ℕ × ℕ)} {h h₁ l l₁ : List ℕ} → h₁ ≡ h → l₁ ≡ l → Leaves gone x ms h h l l → Leaves gone x ms h h₁ l l₁
  leaves-same e q a = record { bytes = e ∙ a.bytes; rows = q ∙ a.rows }

  -- from the same how-bytes and list
  pub leaves-from : {ms : List (ℕ × ℕ)} {h h₁ h₂ l l₁ l₂ : List ℕ} → h₁ ≡ h → l₁ ≡ l → Leaves gone x ms h₁ h₂ l₁ l₂ → Leaves gone x ms h h₂ l l₂
  leaves-from {ms} {h} {h₁} {h₂} {l} {l₁} {l₂} e q a =
      record { bytes = a.bytes ∙ ap (write (veiled gone ms)) e; rows = a.rows ∙ ap (told x (veiled gone ms)) q }

  -- ---- a loop that leaves f lo, f (lo + 1), ..: before its first turn, after one more, and at its end
  -- before its first turn
  pub span_none : (f : ℕ → List (ℕ × ℕ)) (lo i : ℕ) {h l : List ℕ} → i ≡ lo → Leaves gone x (span f lo i) h h l l
  unfolding span
  span_none f lo i e = let z : i - lo ≡ 0 = omega arith in rw z leaves_none

  module _ (f : ℕ → List (ℕ × ℕ)) (lo i : ℕ) {h h₁ l l₁ : List ℕ} where
    -- after one more
    pub span-next : {h₂ l₂ : List ℕ} → lo ≤ i → Leaves gone x (span f lo i) h h₁ l l₁ → Leaves gone x (f i) h₁ h₂ l₁ l₂
        → Leaves gone x (span f lo (i + 1)) h h₂ l l₂
    unfolding span
    span-next q a b =
        let e : i + 1 - lo ≡ (i - lo) + 1 = omega arith in
        let s : lo + (i - lo) ≡ i = omega arith in
        leaves-as
        (sym (ap (λ n. each f (range lo n)) e ∙ ap (each f) (range_append lo (i - lo) 1)
        ∙ each_append f (range lo (i - lo)) (range (lo + (i - lo)) 1) ∙ ap (λ t. each f (range lo (i - lo)) ++ t) (append-nil (f (lo + (i - lo))) ∙ ap f s)))
        (leaves-then (span f lo i) (f i) a b)

    -- at its end
    pub span-end : {hi : ℕ} → i ≡ hi → Leaves gone x (span f lo i) h h₁ l l₁ → Leaves gone x (span f lo hi) h h₁ l l₁
    span-end e a = leaves-as (ap (span f lo) e) a

-- ---- one row: what the code leaves for it, by what the set says of it
module _ (gone : ℕ → Bool) (x : ℕ → ℕ) (i : ℕ) {h l : List ℕ} where
  -- one mark as far as it is shown
  one : (v : ℕ) {h₁ l₁ : List ℕ} → h₁ ≡ byte i (shown gone (i, v)).1 h → l₁ ≡ listed x (shown gone (i, v)) l → Leaves gone x ((i, v) ∷ []) h h₁ l l₁
  unfolding write told
  one v a b = record { bytes = a; rows = b }

  -- a row that is out unmeasured: nothing
  pub leaves-out : Leaves gone x ((i, 0) ∷ []) h h l l
  unfolding byte listed
  leaves-out = one 0 (go (gone i)) (no (gone i))
    where
      go : (b : Bool) → h ≡ byte i (cond b (0 % 2) 0) h
      go true = refl
      go false = refl

      no : (b : Bool) → l ≡ listed x (i, cond b (0 % 2) 0) l
      no true = refl
      no false = refl

  -- a row that is out measured
  pub leaves-far : {h₁ : List ℕ} → h₁ ≡ set h i 1 → Leaves gone x ((i, 1) ∷ []) h h₁ l l
  unfolding byte listed
  leaves-far e = one 1 (e ∙ go (gone i)) (no (gone i))
    where
      go : (b : Bool) → set h i 1 ≡ byte i (cond b (1 % 2) 1) h
      go true = refl
      go false = refl

      no : (b : Bool) → l ≡ listed x (i, cond b (1 % 2) 1) l
      no true = refl
      no false = refl

  module _ {b : Bool} (said : b ≡ gone i) where
    -- a row in unmeasured
    pub leaves_in : b ≡ false → {h₁ l₁ : List ℕ} → h₁ ≡ set h i 2 → l₁ ≡ entered unmeasured i l → Leaves gone x ((i, 2) ∷ []) h h₁ l l₁
    unfolding byte listed
    leaves_in e p q = one 2 (rw (sym said ∙ e) p) (rw (sym said ∙ e) q)

    -- one that is withdrawn is as one that is out unmeasured
    pub leaves-gone : b ≡ true → Leaves gone x ((i, 2) ∷ []) h h l l
    unfolding byte listed
    leaves-gone e = one 2 (rw (sym said ∙ e) refl) (rw (sym said ∙ e) refl)

    -- a row in measured
    pub leaves-near : b ≡ false → {h₁ l₁ : List ℕ} → h₁ ≡ set h i 3 → l₁ ≡ entered (x i) i l → Leaves gone x ((i, 3) ∷ []) h h₁ l l₁
    unfolding byte listed
    leaves-near e p q = one 3 (rw (sym said ∙ e) p) (rw (sym said ∙ e) q)

    -- one that is withdrawn is as one that is out measured
    pub leaves-hidden : b ≡ true → {h₁ : List ℕ} → h₁ ≡ set h i 1 → Leaves gone x ((i, 3) ∷ []) h h₁ l l
    unfolding byte listed
    leaves-hidden e p = one 3 (rw (sym said ∙ e) p) (rw (sym said ∙ e) refl)

-- ---- a measured row, of which measuring gave the number d
module _ (gone : ℕ → Bool) (x : ℕ → ℕ) (r i : ℕ) {d : ℕ} {h h₁ l l₁ : List ℕ} where
  -- it is its distance
  pub leaves-full : d ≡ x i → Leaves gone (λ (j : ℕ). d) ((i, cond (leb d r) 3 1) ∷ []) h h₁ l l₁ → Leaves gone x ((i, by_distance x r i) ∷ []) h h₁ l l₁
  unfolding told listed
  leaves-full e a =
      record {
        bytes = a.bytes ∙ ap (λ (d : ℕ). write (veiled gone ((i, cond (leb d r) 3 1) ∷ [])) h) e;
        rows = a.rows ∙ ap (λ (d : ℕ). told (λ (j : ℕ). d) (veiled gone ((i, cond (leb d r) 3 1) ∷ [])) l) e;
      }

  -- it is that under the ceiling r
  pub leaves_to : d ≡ capped r (x i) → x i ≤ max_distance → Leaves gone (λ (j : ℕ). d) ((i, cond (leb d r) 3 1) ∷ []) h h₁ l l₁
      → Leaves gone x ((i, by_distance x r i) ∷ []) h h₁ l l₁
  unfolding told listed
  leaves_to e m a = go (leb (x i) r) refl
    where
      -- a row that is out is not listed, whatever its distance
      none : (y : ℕ → ℕ) → told y (veiled gone ((i, 1) ∷ [])) l ≡ l
      none y = no (gone i)
        where
          no : (b : Bool) → listed y (i, cond b (1 % 2) 1) l ≡ l
          no true = refl
          no false = refl

      go : (b : Bool) → leb (x i) r ≡ b → Leaves gone x ((i, by_distance x r i) ∷ []) h h₁ l l₁
      go true q = leaves-full (omega (arith, leb-true (x i) r q)) a
      go false q =
          let far : leb d r ≡ false = lt-leb d r (omega (arith, leb-false (x i) r q)) in
          leaves-as gone x (ap (λ b. (i, cond b 3 1) ∷ []) (sym q))
          (record {
            bytes = a.bytes ∙ ap (λ b. write (veiled gone ((i, cond b 3 1) ∷ [])) h) far;
            rows =
                a.rows ∙ ap (λ b. told (λ (j : ℕ). d) (veiled gone ((i, cond b 3 1) ∷ [])) l) far ∙ none (λ (j : ℕ). d) ∙ sym (none x);
          })

-- ---- rows that are swept are listed as unmeasured, whatever their distances
pub told-swept : (gone : ℕ → Bool) (x y : ℕ → ℕ) (f : ℕ → ℕ) (ps : List ℕ) (l : List ℕ)
    → told x (veiled gone (each (λ p. (f p, 2) ∷ []) ps)) l ≡ told y (veiled gone (each (λ p. (f p, 2) ∷ []) ps)) l
unfolding told
told-swept gone x y f [] l = refl
told-swept gone x y f (p ∷ ps) l =
    ap (told x (veiled gone (each (λ p. (f p, 2) ∷ []) ps))) (go (gone (f p))) ∙ told-swept gone x y f ps (listed y (shown gone (f p, 2)) l)
  where
    go : (b : Bool) → listed x (f p, cond b (2 % 2) 2) l ≡ listed y (f p, cond b (2 % 2) 2) l
    go true = same-listed x y (f p) 0 l (λ e. absurd (omega arith))
    go false = same-listed x y (f p) 2 l (λ e. absurd (omega arith))

-- ---- where no list is lent nothing is listed
pub told-bare : (x : ℕ → ℕ) (ms : List (ℕ × ℕ)) (l : List ℕ) → length l ≡ 0 → l ≡ told x ms l
unfolding told listed entered
told-bare x [] [] e = refl
told-bare x (m ∷ ms) [] e = told-bare x ms [] refl ∙ ap (told x ms) (go (leb 2 m.1))
  where
    go : (b : Bool) → [] ≡ cond b (entered (cond (eqb m.1 3) (x m.0) unmeasured) m.0 []) []
    go true = refl
    go false = refl
told-bare x ms (y ∷ l) e = absurd (omega arith)

-- what is written one after the other is what is left of a span
pub marked-is : (gone : ℕ → Bool) (f : ℕ → List (ℕ × ℕ)) (lo hi : ℕ) (h : List ℕ) → marked gone f lo hi h ≡ write (veiled gone (span f lo hi)) h
unfolding marked span
marked-is gone f lo hi h = refl

-- where no row is gone and no list is lent, what is written is all that is left
pub leaves_bare : (gone : ℕ → Bool) (x : ℕ → ℕ) (f : ℕ → List (ℕ × ℕ)) (lo hi : ℕ) (h : List ℕ) {h₁ l : List ℕ} → ((i : ℕ) → gone i ≡ false)
    → length l ≡ 0 → h₁ ≡ marked (λ (i : ℕ). false) f lo hi h → Leaves gone x (span f lo hi) h h₁ l l
leaves_bare gone x f lo hi h {h₁} {l} none bare e =
    record {
      bytes = e ∙ marked-same (λ (i : ℕ). false) gone (λ i. sym (none i)) f lo hi h ∙ marked-is gone f lo hi h;
      rows = told-bare x (veiled gone (span f lo hi)) l bare;
    }

-- marks by the distances of a set of circles that the code has read
pub leaves_by : (gone : ℕ → Bool) (x : ℕ → ℕ → ℕ) (f : (ℕ → ℕ) → List (ℕ × ℕ)) {o o' : ℕ} {h h₁ l l₁ : List ℕ} → o ≡ o'
    → Leaves gone (x o) (f (x o)) h h₁ l l₁ → Leaves gone (x o') (f (x o')) h h₁ l l₁
leaves_by gone x f {o} {o'} {h} {h₁} {l} {l₁} e a = subst (λ (o : ℕ). Leaves gone (x o) (f (x o)) h h₁ l l₁) e a
