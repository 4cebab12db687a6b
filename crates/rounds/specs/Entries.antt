-- A run in the workspace, an entry of three words for each member, and what the rounds do to the words: 01, The tree, centres. A working notion, on
-- which no promise rests. Assumes nothing.
use Rattle.std.specs.Prelude.{◌*◌, ◌+◌, ◌-◌, ◌≤◌, suc, zero, ℕ, leb, ltb, drop, get_or, length, take, Bool, cond, false, true, List, [], ◌++◌, ◌∷◌}

-- whole entries (row, least distance to the centres so far, the centre that is so close), and P holds of each row
unfoldable pub Entries : (ℕ → Type 0) → List ℕ → Type 0
Entries P [] = Unit {0}
Entries P (i ∷ []) = ⊥
Entries P (i ∷ x ∷ []) = ⊥
Entries P (i ∷ x ∷ a ∷ es) = P i × Entries P es

-- row i lies in a table of c columns
abbrev pub InTable : List ℕ → ℕ → ℕ → Type 0
InTable t c i = c * i + c ≤ length t

-- of each entry the row and the distance
unfoldable pub pairs_in : List ℕ → List ℕ
pairs_in [] = []
pairs_in (i ∷ []) = []
pairs_in (i ∷ x ∷ []) = []
pairs_in (i ∷ x ∷ a ∷ es) = i ∷ x ∷ pairs_in es

-- the entry of a row that is a centre
abbrev pub own : ℕ → List ℕ
own a = a ∷ 0 ∷ a ∷ []

-- an entry, now that j is a centre: a tie stays with the earlier one
abbrev pub near_one : (ℕ → ℕ → ℕ) → ℕ → ℕ → ℕ → ℕ → List ℕ
near_one d j i x a = i ∷ cond (ltb (d j i) x) (d j i) x ∷ cond (ltb (d j i) x) j a ∷ []

-- every entry, now that j is a centre
unfoldable pub near_all : (ℕ → ℕ → ℕ) → ℕ → List ℕ → List ℕ
near_all d j [] = []
near_all d j (i ∷ []) = []
near_all d j (i ∷ x ∷ []) = []
near_all d j (i ∷ x ∷ a ∷ es) = near_one d j i x a ++ near_all d j es

-- row i at distance x is chosen before row k at distance y
abbrev pub ahead : ℕ → ℕ → ℕ → ℕ → Bool
ahead i x k y = cond (ltb y x) true (cond (ltb x y) false (leb i k))

-- of an entry and a later one, which stands b words behind the first's end, where the one stands that is chosen first
abbrev pub ahead_of : ℕ → ℕ → List ℕ → ℕ → ℕ
ahead_of i x es b = cond (ahead i x (get_or es b 0) (get_or es (b + 1) 0)) 0 (3 + b)

-- where the entry stands that is chosen next
unfoldable pub far : List ℕ → ℕ
far [] = 0
far (i ∷ []) = 0
far (i ∷ x ∷ []) = 0
far (i ∷ x ∷ a ∷ []) = 0
far (i ∷ x ∷ a ∷ e ∷ es) = ahead_of i x (e ∷ es) (far (e ∷ es))

-- the same where only the first `bound` words may be chosen from
abbrev pub far_in : ℕ → List ℕ → ℕ
far_in bound es = far (take bound es)

-- the row that is chosen next
abbrev pub next : ℕ → List ℕ → ℕ
next bound es = get_or es (far_in bound es) 0

-- all entries but the one at word b
abbrev pub all_but : ℕ → List ℕ → List ℕ
all_but b es = take b es ++ drop (b + 3) es

-- the entries that wait after one round: all of them learn, those behind `bound` too
unfoldable pub others : (ℕ → ℕ → ℕ) → ℕ → List ℕ → List ℕ
others d bound es = near_all d (next bound es) (all_but (far_in bound es) es)

-- one round: the chosen entry in front, the others behind it in their order
abbrev pub round_of : (ℕ → ℕ → ℕ) → ℕ → List ℕ → List ℕ
round_of d bound es = own (next bound es) ++ others d bound es

-- k rounds, each on what the one before left
unfoldable pub rounds_of : (ℕ → ℕ → ℕ) → ℕ → ℕ → List ℕ → List ℕ
rounds_of d zero bound es = es
rounds_of d (suc k) bound es = own (next bound es) ++ rounds_of d k (bound - 3) (others d bound es)
