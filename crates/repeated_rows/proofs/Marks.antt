-- The pass for 10: a row's mark says whether it stood at a lower position. Assumes nothing.
use Prim.Native.Nat.{◌+◌, ◌<◌, ◌≤◌, ℕ}
use Rattle.repeated_rows.specs.Zeros.{Clear}
use Rattle.laws.proofs.First.{any-more, search-on, search-start, search-stop}
use Rattle.laws.specs.First.{First}
use Rattle.laws.specs.Lists.{any, has, range}
use Rattle.tree.specs.Check.{again}
use Rattle.words.specs.InShape.{InShape}
use Rattle.words.specs.Words.{n#, row#}
use borrow.Author.Tests.{eqb-false, eqb-true, ne_eqb}
use lib.Dec.{eqb}
use lib.ListN.{drop, get_or, length, length-set, set}
use lib.Seq.{drop-set-lt, get_or-set_other, get_or-set_same}
use mathlib.Core.Bool.{Bool, ◌||◌, false, not, or-false, or-true, true}
use mathlib.Core.List.{List, [], ◌∷◌, map}
use mathlib.Core.Path.{◌∙◌, ◌≡◌, ap, refl, sym}
use native.Mathlib.Nat.{zero-add}
use native.Mathlib.Omega.{arith}

-- word i is not zero
abbrev marked : List ℕ → ℕ → Bool
marked work i = not (eqb (get_or work i 0) 0)

-- the rows at the positions below p
abbrev rows_to : List ℕ → ℕ → List ℕ
rows_to w p = map (row# w) (range 0 p)

-- at position p: marked are just the rows at the positions below it, none of them again, and the words past the first n are as they were
pub record Marks (w work₀ work : List ℕ) (p : ℕ) : Type 0 where
  pub to : p ≤ n# w
  pub long : n# w ≤ length work
  pub same : length work ≡ length work₀
  pub rest : drop (n# w) work ≡ drop (n# w) work₀
  pub marks : (i : ℕ) → i < n# w → marked work i ≡ has i (rows_to w p)
  pub once : First (again w) 0 p p

-- a test of a mapped list is one of the list itself
any_map : (f : ℕ → Bool) (g : ℕ → ℕ) (xs : List ℕ) → any f (map g xs) ≡ any (λ x. f (g x)) xs
any_map f g [] = refl
any_map f g (x ∷ xs) = ap (λ b. f (g x) || b) (any_map f g xs)

-- one position more: the rows below p + 1 are those below p and the one at p
has_more : (w : List ℕ) (i p : ℕ) → has i (rows_to w (p + 1)) ≡ (has i (rows_to w p) || eqb i (row# w p))
has_more w i p =
    any_map (eqb i) (row# w) (range 0 (p + 1)) ∙ any-more (λ q. eqb i (row# w q)) 0 p
    ∙ ap (λ b. b || eqb i (row# w (0 + p))) (sym (any_map (eqb i) (row# w) (range 0 p)))
    ∙ ap (λ q. has i (rows_to w p) || eqb i (row# w q)) (zero-add p)

-- with the mark of the row at p set, marked are just the rows below p + 1
mark_more : (w work : List ℕ) (p : ℕ) → row# w p < length work → (i : ℕ) → marked work i ≡ has i (rows_to w p)
    → marked (set work (row# w p) 1) i ≡ has i (rows_to w (p + 1))
mark_more w work p h i e = rw (has_more w i p) (go (eqb i (row# w p)) refl)
  where
    go : (b : Bool) → eqb i (row# w p) ≡ b → marked (set work (row# w p) 1) i ≡ (has i (rows_to w p) || b)
    go true q = rw (eqb-true i (row# w p) q, get_or-set_same work (row# w p) 1 0 h) (sym (or-true (has (row# w p) (rows_to w p))))
    go false q = rw (get_or-set_other work (row# w p) i 1 0 (eqb-false i (row# w p) q)) (e ∙ sym (or-false (has i (rows_to w p))))

-- a clear workspace has no marks, and no position was passed
pub marks_start : (w work : List ℕ) → Clear (n# w) work → Marks w work work 0
marks_start w work C =
    record {
      to = omega arith;
      long = C.long;
      same = refl;
      rest = refl;
      marks = λ i h. ap (λ (v : ℕ). not (eqb v 0)) (C.zeros i h);
      once = search-start (again w) 0;
    }

-- the row at position p, read as r
module _ {w work₀ work : List ℕ} {p : ℕ} (S : InShape w) (M : Marks w work₀ work p) (h : p < n# w) {r : ℕ} (e : r ≡ row# w p) where
  -- THE MARK SAYS WHETHER THE ROW STOOD BEFORE
  again-is : again w p ≡ marked work r
  unfolding again
  again-is = sym (M.marks (row# w p) (S.place p h).row) ∙ ap (λ (i : ℕ). marked work i) (sym e)

  -- it has a mark's place in the workspace
  pub row-marked : r < length work
  row-marked = omega (arith, M.long, (S.place p h).row)

  -- it has no mark: it gets one, and the search goes on
  pub marks-more : get_or work r 0 ≡ 0 → Marks w work₀ (set work r 1) (p + 1)
  marks-more z =
      let l : length (set work r 1) ≡ length work = simp length-set in
      record {
        to = omega arith;
        long = omega (arith, M.long);
        same = l ∙ M.same;
        rest = drop-set-lt (n# w) work r 1 (omega (arith, (S.place p h).row)) ∙ M.rest;
        marks = λ i q. rw e (mark_more w work p (omega (arith, row-marked)) i (M.marks i q));
        once = search-on (again w) 0 p M.once (again-is ∙ ap (λ (v : ℕ). not (eqb v 0)) z);
      }

  -- it has a mark: p is the lowest position with a row number again
  pub marks-found : (get_or work r 0 ≡ 0 → ⊥) → First (again w) 0 (n# w) p
  marks-found z = search-stop (again w) 0 (n# w) p M.once h (again-is ∙ ap not (ne_eqb (get_or work r 0) 0 z))
