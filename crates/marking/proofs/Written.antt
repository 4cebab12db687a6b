-- Laws of marks that are written one after the other. Assumes nothing.
use Prim.Native.Nat.{◌+◌, ◌-◌, ◌≤◌, suc, zero, ℕ}
use Rattle.laws.proofs.Joins.{each_append}
use Rattle.laws.proofs.Ranges.{range_append}
use Rattle.laws.specs.Lists.{each, range}
use Rattle.marking.specs.Written.{byte, mark, marked, write}
use Rattle.tree.proofs.Veiled.{veiled-append, veiled-same}
use Rattle.tree.specs.Radius.{veiled}
use lib.ListN.{length, length-set, set}
use mathlib.Core.Bool.{Bool, false, true}
use mathlib.Core.List.{List, [], ◌++◌, ◌∷◌, append-nil}
use mathlib.Core.Path.{◌∙◌, ◌≡◌, ap, refl, sym}
use native.Mathlib.Omega.{arith}

-- ---- one byte: what the code stores for row i, by what the set says of it
module _ (gone : ℕ → Bool) (i : ℕ) (h : List ℕ) {b : Bool} (told : b ≡ gone i) where
  -- a row in unmeasured
  pub mark-in : b ≡ false → set h i 2 ≡ mark gone i 2 h
  unfolding mark byte
  mark-in e = rw (sym told ∙ e)

  -- one that is withdrawn is as one that is out unmeasured: nothing is stored
  pub mark-gone : b ≡ true → h ≡ mark gone i 2 h
  unfolding mark byte
  mark-gone e = rw (sym told ∙ e)

-- a mark keeps the length
pub byte-length : (i v : ℕ) (h : List ℕ) → length (byte i v h) ≡ length h
unfolding byte
byte-length i zero h = refl
byte-length i (suc v) h = length-set h i (suc v)

-- ---- many
-- marks after marks
pub write_append : (xs ys : List (ℕ × ℕ)) (h : List ℕ) → write (xs ++ ys) h ≡ write ys (write xs h)
unfolding write
write_append [] ys h = refl
write_append (m ∷ xs) ys h = write_append xs ys (byte m.0 m.1 h)

-- marks keep the length
pub write-length : (ms : List (ℕ × ℕ)) (h : List ℕ) → length (write ms h) ≡ length h
unfolding write
write-length [] h = refl
write-length (m ∷ ms) h = write-length ms (byte m.0 m.1 h) ∙ byte-length m.0 m.1 h

-- one mark
pub write_one : (gone : ℕ → Bool) (i v : ℕ) (h : List ℕ) → mark gone i v h ≡ write (veiled gone ((i, v) ∷ [])) h
unfolding write mark
write_one gone i v h = refl

-- one mark where no row is gone
pub write-plain : (i v : ℕ) (h : List ℕ) → byte i v h ≡ write (veiled (λ (j : ℕ). false) ((i, v) ∷ [])) h
unfolding write
write-plain i v h = refl

-- marks after marks, as far as they are shown
pub shown_append : (gone : ℕ → Bool) (xs ys : List (ℕ × ℕ)) (h : List ℕ)
    → write (veiled gone (xs ++ ys)) h ≡ write (veiled gone ys) (write (veiled gone xs) h)
shown_append gone xs ys h = ap (λ l. write l h) (veiled-append gone xs ys) ∙ write_append (veiled gone xs) (veiled gone ys) h

-- ---- a loop that marks f lo, f (lo + 1), ..: before its first turn, after one more, and at its end
module _ (gone : ℕ → Bool) (f : ℕ → List (ℕ × ℕ)) (lo i : ℕ) (h : List ℕ) where
  -- before its first turn
  pub marked-none : i ≡ lo → h ≡ marked gone f lo i h
  unfolding marked write
  marked-none e = let z : i - lo ≡ 0 = omega arith in rw z

  -- after one more
  pub marked_next : {x y : List ℕ} → lo ≤ i → x ≡ marked gone f lo i h → y ≡ write (veiled gone (f i)) x → y ≡ marked gone f lo (i + 1) h
  unfolding marked
  marked_next l p q =
      let e : i + 1 - lo ≡ (i - lo) + 1 = omega arith in
      let a : lo + (i - lo) ≡ i = omega arith in
      let shows : List (ℕ × ℕ) → List ℕ = λ ms. write (veiled gone ms) h in
      q ∙ ap (write (veiled gone (f i))) p
      ∙ sym (ap (λ n. shows (each f (range lo n))) e ∙ ap (λ l. shows (each f l)) (range_append lo (i - lo) 1)
      ∙ ap shows (each_append f (range lo (i - lo)) (range (lo + (i - lo)) 1) ∙ ap (λ l. each f (range lo (i - lo)) ++ l) (append-nil (f (lo + (i - lo))) ∙ ap f a))
      ∙ shown_append gone (each f (range lo (i - lo))) (f i) h)

  -- at its end
  pub marked-end : {hi : ℕ} {x : List ℕ} → i ≡ hi → x ≡ marked gone f lo i h → x ≡ marked gone f lo hi h
  marked-end e p = p ∙ ap (λ n. marked gone f lo n h) e

-- the marks follow from which rows are gone alone
pub marked-same : (gone gone' : ℕ → Bool) → ((i : ℕ) → gone i ≡ gone' i) → (f : ℕ → List (ℕ × ℕ)) (lo hi : ℕ) (h : List ℕ)
    → marked gone f lo hi h ≡ marked gone' f lo hi h
unfolding marked
marked-same gone gone' e f lo hi h = ap (λ ms. write ms h) (veiled-same gone gone' e (each f (range lo (hi - lo))))

-- where no how-byte is lent none is written
write-bare : (ms : List (ℕ × ℕ)) → [] ≡ write ms []
unfolding write byte
write-bare [] = refl
write-bare ((i, zero) ∷ ms) = write-bare ms
write-bare ((i, suc v) ∷ ms) = write-bare ms

pub marked-bare : (gone : ℕ → Bool) (f : ℕ → List (ℕ × ℕ)) (lo hi : ℕ) (h : List ℕ) → length h ≡ 0 → h ≡ marked gone f lo hi h
unfolding marked
marked-bare gone f lo hi [] e = write-bare (veiled gone (each f (range lo (hi - lo))))
marked-bare gone f lo hi (x ∷ h) e = absurd (omega arith)
