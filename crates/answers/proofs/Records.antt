-- Laws of the records of answers: how a list of them grows, and that those of plain answers are the plain answers. Assumes nothing.
use Prim.Native.Nat.{◌+◌, ◌-◌, ◌<◌, ◌≤◌, suc, zero, ℕ}
use Rattle.answers.specs.Records.{made, records}
use Rattle.answers.specs.declared.Answer.{Answer}
use Rattle.laws.proofs.Lists.{map-append}
use Rattle.laws.proofs.Maps.{map_same}
use Rattle.laws.proofs.Ranges.{at_every, range_append, range_length}
use Rattle.laws.specs.Lists.{range}
use lib.ListN.{drop, get_or, length, length-append, length-drop, length-map, set, take}
use lib.Seq.{drop-append-add, drop-cons, drop-drop, get_or-take, set_at}
use mathlib.Core.List.{List, [], ◌++◌, ◌∷◌, append_assoc, map}
use mathlib.Core.Path.{◌∙◌, ◌≡◌, ap, ap₂, refl, sym}
use native.Mathlib.Nat.{zero-add}
use native.Mathlib.Numerals.{add-one}
use native.Mathlib.Omega.{arith}

-- ---- one record more
module _ (rs ds : List ℕ) where
  -- the record of answer i
  abbrev at : ℕ → Answer
  at i = made (get_or rs i 0) (get_or ds i 0)

  -- k records are k long
  pub length-records : (k : ℕ) → length (records rs ds k) ≡ k
  length-records k = length-map (range 0 k) at ∙ range_length 0 k

  -- the next record stands behind those before it
  records-next : (k : ℕ) → records rs ds (suc k) ≡ records rs ds k ++ (at k ∷ [])
  records-next k =
      ap (λ (j : ℕ). records rs ds j) (sym (add-one k)) ∙ ap (map at) (range_append 0 k 1) ∙ map-append at (range 0 k) (range (0 + k) 1)
      ∙ ap (λ (j : ℕ). records rs ds k ++ (at j ∷ [])) (zero-add k)

  -- storing record k behind the first k makes k + 1 of them
  pub records-store : (as₀ : List Answer) (k : ℕ) → k < length as₀ → set (records rs ds k ++ drop k as₀) k (at k) ≡ records rs ds (suc k) ++ drop (suc k) as₀
  records-store as₀ k h =
      ap (λ (l : List Answer). set (records rs ds k ++ l) k (at k)) (drop-cons as₀ k (at k) h)
      ∙ set_at (records rs ds k) (get_or as₀ k (at k)) (drop (suc k) as₀) (at k) k (length-records k)
      ∙ sym (append_assoc (records rs ds k) (at k ∷ []) (drop (suc k) as₀)) ∙ ap (λ (l : List Answer). l ++ drop (suc k) as₀) (sym (records-next k))

  -- records put in place of as many change no length
  pub length-stored : (as₀ : List Answer) (k : ℕ) → k ≤ length as₀ → length (records rs ds k ++ drop k as₀) ≡ length as₀
  length-stored as₀ k h =
      length-append (records rs ds k) (drop k as₀) ∙ ap (λ (j : ℕ). j + length (drop k as₀)) (length-records k) ∙ omega (arith, length-drop k as₀)

  -- and what stood beyond them stays
  pub records-beyond : (as₀ : List Answer) (k m : ℕ) → k ≤ m → drop m (records rs ds k ++ drop k as₀) ≡ drop m as₀
  records-beyond as₀ k m h =
      let e : k + (m - k) ≡ m = omega arith in
      let f : length (records rs ds k) + (m - k) ≡ m = omega (arith, length-records k) in
      ap (λ (j : ℕ). drop j (records rs ds k ++ drop k as₀)) (sym f) ∙ drop-append-add (records rs ds k) (drop k as₀) (m - k)
      ∙ drop-drop (m - k) k as₀ ∙ ap (λ (j : ℕ). drop j as₀) e

  -- they are made of the first k of both lists
  pub records-first : (k : ℕ) → records rs ds k ≡ records (take k rs) (take k ds) k
  records-first k =
      let first : ℕ → Answer = λ i. made (get_or (take k rs) i 0) (get_or (take k ds) i 0) in
      map_same at first (range 0 k) (at_every (λ i. at i ≡ first i) k (λ i h. ap₂ made (sym (get_or-take k rs i 0 h)) (sym (get_or-take k ds i 0 h))))

-- ---- the records of plain answers
shift : {A : Type 0} (f : ℕ → A) (a k : ℕ) → map f (range (suc a) k) ≡ map (λ i. f (suc i)) (range a k)
shift f a zero = refl
shift f a (suc k) = ap (λ l. f (suc a) ∷ l) (shift f (suc a) k)

-- the records of answers that stand in front of two slices are those answers
both : (l : List (ℕ × ℕ)) (s z : List ℕ) → records (map (λ a. a.0) l ++ s) (map (λ a. a.1) l ++ z) (length l) ≡ map (λ a. made a.0 a.1) l
both [] s z = refl
both (a ∷ l) s z =
    ap (λ (m : List Answer). made a.0 a.1 ∷ m)
    (shift (at (map (λ a. a.0) (a ∷ l) ++ s) (map (λ a. a.1) (a ∷ l) ++ z)) 0 (length l) ∙ both l s z)

-- WHERE TWO SLICES BEGIN WITH THE NUMBERS AND DISTANCES OF SOME ANSWERS, THE RECORDS ARE THOSE ANSWERS
pub records_of : (l : List (ℕ × ℕ)) (rs ds s z : List ℕ) (k : ℕ) → rs ≡ map (λ a. a.0) l ++ s → ds ≡ map (λ a. a.1) l ++ z → k ≡ length l
    → records rs ds k ≡ map (λ a. made a.0 a.1) l
records_of l rs ds s z k er ed ek =
    ap (λ (rs : List ℕ). records rs ds k) er ∙ ap (λ (ds : List ℕ). records (map (λ a. a.0) l ++ s) ds k) ed
    ∙ ap (λ (k : ℕ). records (map (λ a. a.0) l ++ s) (map (λ a. a.1) l ++ z) k) ek ∙ both l s z
