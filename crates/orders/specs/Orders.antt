-- Striking and restoring: 02, R-12. Assumes nothing.
use Rattle.std.specs.Prelude.{ℕ, eqb, leb, Bool, cond, false, true, List, [], ◌++◌, ◌∷◌, ◌≡◌}
use Rattle.laws.specs.Every.{Every}
use Rattle.limits.specs.Said.{Said, fault, said}
use Rattle.rowset.specs.Sets.{Narrow, restored, set_bad_lem, struck}

-- what a foreman orders of one row: that it be withdrawn, or that it be so no longer. A value, so that one contract and one set of laws serve both
-- calls, and lists of orders can be spoken of
pub data Order : Type 0 where
  striking : ℕ → Order
  restoring : ℕ → Order

-- the row that an order names
abbrev pub row_of : Order → ℕ
row_of (striking r) = r
row_of (restoring r) = r

-- whether the order wants it withdrawn
abbrev pub wants : Order → Bool
wants (striking r) = true
wants (restoring r) = false

-- the order names row i
abbrev pub names : ℕ → Order → Bool
names i o = eqb i (row_of o)

-- the set after an order
abbrev pub ordered : List ℕ → Order → List ℕ
ordered s (striking r) = struck s r
ordered s (restoring r) = restored s r

-- the set after orders, one behind the other
abbrev pub after : List ℕ → List Order → List ℕ
after s [] = s
after s (o ∷ os) = after (ordered s o) os

-- whether row i is withdrawn after orders, b being whether it was so before: the last order that names it decides
abbrev pub standing : ℕ → List Order → Bool → Bool
standing i [] b = b
standing i (o ∷ os) b = standing i os (cond (names i o) (wants o) b)

-- two lists of orders that decide the same of every row
abbrev pub Alike : List Order → List Order → Type 0
Alike os ps = (i : ℕ) (b : Bool) → standing i os b ≡ standing i ps b

-- ---- two offices
-- two lists of orders mixed into one, in which the orders of each keep their sequence
pub data Mixed : List Order → List Order → List Order → Type 0 where
  over : Mixed [] [] []
  first : {o : Order} {xs ys os : List Order} → Mixed xs ys os → Mixed (o ∷ xs) ys (o ∷ os)
  second : {o : Order} {xs ys os : List Order} → Mixed xs ys os → Mixed xs (o ∷ ys) (o ∷ os)

-- two orders that want the same where they name one row
abbrev pub Agree : Order → Order → Type 0
Agree o p = row_of o ≡ row_of p → wants o ≡ wants p

-- every order of the one office agrees with every order of the other
abbrev pub Agreed : List Order → List Order → Type 0
Agreed xs ys = Every (λ p. Every (λ o. Agree o p) xs) ys

-- ---- the calls
-- an order on row r of a set of n rows: 20, then 26 for row n or above
unfoldable pub said_order : List ℕ → ℕ → ℕ → Said
said_order s n r = said (fault 20 (set_bad_lem s n) ++ fault 26 (leb n r))

-- For every input: the number is the lowest that applies. On 0 the set is as the order leaves it; on a refusal it is as it was
pub record Orders (s s' : List ℕ) (n : ℕ) (o : Order) (number : ℕ) : Type 0 where
  pub said : number ≡ (said_order s n (row_of o)).0
  pub set : s' ≡ cond (eqb number 0) (ordered s o) s
  -- the words have 32 bits, as every lent set's have: the laws on outcomes rest on it
  pub narrow : Narrow s

-- Orders carried out one behind the other, each by a call on what the last one left, whatever number the call gave
pub data Carried (n : ℕ) : List ℕ → List Order → List ℕ → Type 0 where
  done : {s : List ℕ} → Carried n s [] s
  next : {s s' t : List ℕ} {o : Order} {os : List Order} {number : ℕ} → Orders s s' n o number → Carried n s' os t → Carried n s (o ∷ os) t
