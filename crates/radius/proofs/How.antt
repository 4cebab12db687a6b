-- The how-bytes that a search writes: those of the definition where each row stands once, and on any index none beyond n. Assumes nothing.
use Prim.Native.Nat.{◌+◌, ◌<◌, ◌≤◌, suc, zero, ℕ}
use Rattle.laws.proofs.Every.{every_of}
use Rattle.laws.specs.Every.{Every}
use Rattle.laws.proofs.Ranges.{range_length}
use Rattle.laws.proofs.Times.{lefts, times_every}
use Rattle.laws.specs.Lists.{look, times}
use Rattle.marking.proofs.Written.{byte-length, write-length}
use Rattle.radius.specs.Once.{Once}
use Rattle.buffers.specs.Wiped.{wiped}
use Rattle.marking.specs.Written.{byte, write}
use Rattle.tree.proofs.Marks.{how_at, marks-rows}
use Rattle.tree.proofs.Rows.{full-tree, rows-low, rows-once}
use Rattle.tree.proofs.Veiled.{look-veiled, veiled-never, veiled-rows}
use Rattle.tree.specs.Grove.{rows_in, tree_of}
use Rattle.tree.specs.Radius.{marks, radius_how, veiled}
use Rattle.words.specs.InShape.{InShape}
use Rattle.words.specs.Words.{n#}
use borrow.Author.Tests.{eqb-false, eqb-true}
use lib.Dec.{eqb}
use lib.ListN.{drop, get_or, get_or-replicate, length, length-map, length-replicate, replicate, set}
use lib.Seq.{ext_get_or, get_or-set_other, get_or-set_same, set-append_left}
use mathlib.Core.Bool.{Bool, cond, false, true}
use mathlib.Core.List.{List, [], ◌++◌, ◌∷◌}
use mathlib.Core.Path.{◌∙◌, ◌≡◌, ap, refl, subst, sym}
use native.Mathlib.Decide.{ℕ_discrete}
use native.Mathlib.Omega.{arith}

-- ---- lists
-- a list of numbers of which each is at most b, with one more of these put into it
set-most : (h : List ℕ) (i v j b : ℕ) → get_or h j 0 ≤ b → v ≤ b → get_or (set h i v) j 0 ≤ b
set-most [] i v j b l k = l
set-most (y ∷ h) zero v zero b l k = k
set-most (y ∷ h) zero v (suc j) b l k = l
set-most (y ∷ h) (suc i) v zero b l k = l
set-most (y ∷ h) (suc i) v (suc j) b l k = set-most h i v j b l k

-- zeros are at most 1
zeros : (n i : ℕ) → get_or (replicate {A = ℕ} n 0) i 0 ≤ 1
zeros zero i = omega arith
zeros (suc n) zero = omega arith
zeros (suc n) (suc i) = zeros n i

-- ---- one byte
-- the row's byte is the one written, where 0 stood
byte-same : (i v : ℕ) (h : List ℕ) → i < length h → get_or h i 0 ≡ 0 → get_or (byte i v h) i 0 ≡ v
unfolding byte
byte-same i zero h l z = z
byte-same i (suc v) h l z = get_or-set_same h i (suc v) 0 l

-- another row keeps its byte
byte_other : (i j v : ℕ) (h : List ℕ) → (j ≡ i → ⊥) → get_or (byte i v h) j 0 ≡ get_or h j 0
unfolding byte
byte_other i j zero h ne = refl
byte_other i j (suc v) h ne = get_or-set_other h i j (suc v) 0 ne

-- a row's byte is at most b, where it was and the one written is
byte-most : (i v : ℕ) (h : List ℕ) (j b : ℕ) → get_or h j 0 ≤ b → v ≤ b → get_or (byte i v h) j 0 ≤ b
unfolding byte
byte-most i zero h j b l k = l
byte-most i (suc v) h j b l k = set-most h i (suc v) j b l k

-- a row in front leaves what is behind alone
byte_left : (i v : ℕ) (z h : List ℕ) → i < length z → byte i v (z ++ h) ≡ byte i v z ++ h
unfolding byte
byte_left i zero z h l = refl
byte_left i (suc v) z h l = set-append_left z h i (suc v) l

-- ---- a row that no mark names keeps its byte
-- the rows that none of the marks names
write_other : (ms : List (ℕ × ℕ)) (h : List ℕ) (i : ℕ) → times i (lefts ms) ≡ 0 → get_or (write ms h) i 0 ≡ get_or h i 0
unfolding write
write_other [] h i e = refl
write_other (m ∷ ms) h i e = go (λ h q. write_other ms h i q) (eqb i m.0) refl e
  where
    go : ((h : List ℕ) → times i (lefts ms) ≡ 0 → get_or (write ms h) i 0 ≡ get_or h i 0)
        → (b : Bool) → eqb i m.0 ≡ b → cond b 1 0 + times i (lefts ms) ≡ 0 → get_or (write ms (byte m.0 m.1 h)) i 0 ≡ get_or h i 0
    go f true q e = absurd (omega arith)
    go f false q e = f (byte m.0 m.1 h) (omega arith) ∙ byte_other m.0 i m.1 h (eqb-false i m.0 q)

-- one that at most one mark names has that mark's, where 0 stood
write-look : (ms : List (ℕ × ℕ)) (h : List ℕ) (i : ℕ) → times i (lefts ms) ≤ 1 → i < length h → get_or h i 0 ≡ 0 → get_or (write ms h) i 0 ≡ look i ms
unfolding write
write-look [] h i o l z = z
write-look (m ∷ ms) h i o l z = go (λ h o l z. write-look ms h i o l z) (eqb i m.0) refl o
  where
    go : ((h : List ℕ) → times i (lefts ms) ≤ 1 → i < length h → get_or h i 0 ≡ 0 → get_or (write ms h) i 0 ≡ look i ms)
        → (b : Bool) → eqb i m.0 ≡ b → cond b 1 0 + times i (lefts ms) ≤ 1
        → get_or (write ms (byte m.0 m.1 h)) i 0 ≡ cond b m.1 (look i ms)
    go f true q o =
        write_other ms (byte m.0 m.1 h) i (omega arith)
        ∙ subst (λ (j : ℕ). get_or (byte j m.1 h) i 0 ≡ m.1) (eqb-true i m.0 q) (byte-same i m.1 h l z)
    go f false q o =
        f (byte m.0 m.1 h) (omega arith) (subst (λ (n : ℕ). i < n) (sym (byte-length m.0 m.1 h)) l)
        (byte_other m.0 i m.1 h (eqb-false i m.0 q) ∙ z)

-- ---- what lies beyond the marked rows stays
-- marks of rows in front leave what is behind alone
write_left : (ms : List (ℕ × ℕ)) (z h : List ℕ) → Every (λ m. m.0 < length z) ms → write ms (z ++ h) ≡ write ms z ++ h
unfolding write
write_left [] z h k = refl
write_left (m ∷ ms) z h k =
    ap (write ms) (byte_left m.0 m.1 z h k.0)
    ∙ write_left ms (byte m.0 m.1 z) h (subst (λ (n : ℕ). Every (λ m. m.0 < n) ms) (sym (byte-length m.0 m.1 z)) k.1)

-- a fact of every row that stands in a list of marks
every_times : (P : ℕ → Type 0) (ms : List (ℕ × ℕ)) → ((i : ℕ) → 1 ≤ times i (lefts ms) → P i) → Every (λ m. P m.0) ms
every_times P [] f = tt
every_times P (m ∷ ms) f = (f m.0 (here (eqb m.0 m.0) refl), every_times P ms (λ i k. f i (omega arith)))
  where
    here : (b : Bool) → eqb m.0 m.0 ≡ b → 1 ≤ cond b 1 0 + times m.0 (lefts ms)
    here true e = omega arith
    here false e = absurd (eqb-false m.0 m.0 e refl)

-- marks written over n zeros are n bytes
pub written-length : (ms : List (ℕ × ℕ)) (n : ℕ) → length (write ms (replicate n 0)) ≡ n
written-length ms n = write-length ms (replicate n 0) ∙ length-replicate n 0

-- ---- what no mark gives, no row gets
-- a row whose marks are all at most b keeps a how-byte of at most b
pub write-most : (ms : List (ℕ × ℕ)) (h : List ℕ) (i b : ℕ) → Every (λ m. m.0 ≡ i → m.1 ≤ b) ms → get_or h i 0 ≤ b → get_or (write ms h) i 0 ≤ b
unfolding write
write-most [] h i b k l = l
write-most (m ∷ ms) h i b k l = write-most ms (byte m.0 m.1 h) i b k.1 (go (ℕ_discrete m.0 i))
  where
    go : Dec (m.0 ≡ i) → get_or (byte m.0 m.1 h) i 0 ≤ b
    go (no ne) = subst (λ v. v ≤ b) (sym (byte_other m.0 i m.1 h (λ e. ne (sym e)))) l
    go (yes e) = byte-most m.0 m.1 h i b l (k.0 e)

-- there is a how-byte for each row
pub how_length : (x : ℕ → ℕ) (r : ℕ) (gone : ℕ → Bool) (w : List ℕ) → length (radius_how x r gone (n# w) (tree_of w)) ≡ n# w
unfolding radius_how
how_length x r gone w = simp (length-map, range_length)

module _ (x : ℕ → ℕ) (r : ℕ) (gone : ℕ → Bool) (w : List ℕ) (S : InShape w) where
  -- the marks as far as they are shown
  abbrev ms : List (ℕ × ℕ)
  ms = veiled gone (marks x r (tree_of w))

  -- they are of the tree's rows
  rows : (i : ℕ) → times i (lefts ms) ≡ times i (rows_in (tree_of w))
  rows i = ap (times i) (veiled-rows gone (marks x r (tree_of w))) ∙ marks-rows x r i (tree_of w) (full-tree w S)

  -- only rows below n are marked
  marks-low : Every (λ m. m.0 < n# w) ms
  marks-low =
      every_times (λ i. i < n# w) ms
      (λ i k. times_every (λ i. i < n# w) (rows_in (tree_of w)) (rows-low w S) i (subst (λ (n : ℕ). 1 ≤ n) (rows i) k))

  -- the first n bytes
  abbrev bytes : List ℕ
  bytes = write ms (replicate (n# w) 0)

  -- NO BYTE BEYOND n IS WRITTEN, WHATEVER ROWS THE INDEX NAMES
  pub written_is : (h : List ℕ) → write ms (wiped (n# w) h) ≡ bytes ++ drop (n# w) h
  written_is h =
      write_left ms (replicate (n# w) 0) (drop (n# w) h)
      (subst (λ (n : ℕ). Every (λ m. m.0 < n) ms) (sym (length-replicate (n# w) 0)) marks-low)

  -- WHERE EACH ROW STANDS ONCE THE HOW-BYTES ARE THOSE OF THE DEFINITION
  pub bytes-are : Once w → bytes ≡ radius_how x r gone (n# w) (tree_of w)
  bytes-are o =
      ext_get_or 0 bytes (radius_how x r gone (n# w) (tree_of w)) (written-length ms (n# w) ∙ sym (how_length x r gone w))
      (λ i l.
      let low : i < n# w = subst (λ (n : ℕ). i < n) (written-length ms (n# w)) l in
      write-look ms (replicate (n# w) 0) i (omega (arith, rows i, rows-once w S o i))
      (subst (λ (n : ℕ). i < n) (sym (length-replicate (n# w) 0)) low) (get_or-replicate (n# w) i 0 0 low)
      ∙ look-veiled gone i (marks x r (tree_of w)) ∙ sym (how_at x r gone (n# w) (tree_of w) i low))

-- A ROW THAT IS GONE IS NEVER IN, WHATEVER ROWS THE INDEX NAMES AND HOWEVER OFTEN
pub gone_never : (x : ℕ → ℕ) (r : ℕ) (gone : ℕ → Bool) (w : List ℕ) (i : ℕ) → gone i ≡ true
    → get_or (write (veiled gone (marks x r (tree_of w))) (replicate (n# w) 0)) i 0 ≤ 1
gone_never x r gone w i e =
    let ms = marks x r (tree_of w) in
    write-most (veiled gone ms) (replicate (n# w) 0) i 1
    (every_of (λ m. gone m.0 ≡ true → m.1 ≤ 1) (λ m. m.0 ≡ i → m.1 ≤ 1) (λ m f q. f (ap gone q ∙ e)) (veiled gone ms) (veiled-never gone ms))
    (zeros (n# w) i)
