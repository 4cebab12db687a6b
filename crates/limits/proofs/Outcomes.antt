-- What a call says, read back: an error is never 0, is the first of several lists' faults, and no second outcome says the same. Assumes nothing.
use Rattle.std.specs.Prelude.{Result}
use Rattle.limits.proofs.Faults.{Numbered, says_first, says-next}
use Rattle.limits.specs.Refusal.{outcome, said_by}
use Rattle.limits.specs.Said.{Said, said}
use Rattle.limits.specs.declared.refusal.Refusal.TheVariants.{Columns, Parameters, Ragged, Rows, Room, Query, NoneWanted, OtherTable, Shape, RowAgain, StoredDistance, Reach, Stray, Blocks, CheckWord, Header, Rest, Text, OffCircle, Set, NoRow}
use Rattle.limits.specs.declared.refusal.Refusal.{Refusal}
use lib.Dec.{eqb}
use mathlib.Core.Bool.{cond}
use mathlib.Core.List.{List, ◌++◌}
use mathlib.Core.Path.{◌∙◌, ◌≡◌, ap, refl, sym}
use native.Mathlib.Omega.{arith}

-- the refusal that a number and places say
abbrev pub refusal_said : Said → Refusal
refusal_said (n, p, q) =
    cond (eqb n 1) Columns
    (cond (eqb n 2) Parameters
    (cond (eqb n 3) Ragged
    (cond (eqb n 4) Rows
    (cond (eqb n 5) Room
    (cond (eqb n 6) Query
    (cond (eqb n 7) NoneWanted
    (cond (eqb n 8) OtherTable
    (cond (eqb n 9) Shape
    (cond (eqb n 10) (RowAgain p)
    (cond (eqb n 11) (StoredDistance p)
    (cond (eqb n 12) (Reach p)
    (cond (eqb n 13) (Stray p q)
    (cond (eqb n 14) Blocks
    (cond (eqb n 15) (CheckWord p)
    (cond (eqb n 16) Header
    (cond (eqb n 17) Rest
    (cond (eqb n 18) Text
    (cond (eqb n 19) OffCircle
    (cond (eqb n 20) Set
    NoRow)))))))))))))))))))

-- what a refusal says is read back as itself
pub refusal_said-said_by : (r : Refusal) → refusal_said (said_by r) ≡ r
refusal_said-said_by Columns = refl
refusal_said-said_by Parameters = refl
refusal_said-said_by Ragged = refl
refusal_said-said_by Rows = refl
refusal_said-said_by Room = refl
refusal_said-said_by Query = refl
refusal_said-said_by NoneWanted = refl
refusal_said-said_by OtherTable = refl
refusal_said-said_by Shape = refl
refusal_said-said_by (RowAgain p) = refl
refusal_said-said_by (StoredDistance p) = refl
refusal_said-said_by (Reach k) = refl
refusal_said-said_by (Stray k p) = refl
refusal_said-said_by Blocks = refl
refusal_said-said_by (CheckWord b) = refl
refusal_said-said_by Header = refl
refusal_said-said_by Rest = refl
refusal_said-said_by Text = refl
refusal_said-said_by OffCircle = refl
refusal_said-said_by Set = refl
refusal_said-said_by NoRow = refl

-- NO SECOND REFUSAL SAYS THE SAME
pub refusal-only : (r s : Refusal) → said_by r ≡ said_by s → r ≡ s
refusal-only r s e = sym (refusal_said-said_by r) ∙ ap refusal_said e ∙ refusal_said-said_by s

-- a refusal's number is not 0, which means none
pub said_by-some : (r : Refusal) → (said_by r).0 ≡ 0 → ⊥
said_by-some Columns z = omega arith
said_by-some Parameters z = omega arith
said_by-some Ragged z = omega arith
said_by-some Rows z = omega arith
said_by-some Room z = omega arith
said_by-some Query z = omega arith
said_by-some NoneWanted z = omega arith
said_by-some OtherTable z = omega arith
said_by-some Shape z = omega arith
said_by-some (RowAgain p) z = omega arith
said_by-some (StoredDistance p) z = omega arith
said_by-some (Reach k) z = omega arith
said_by-some (Stray k p) z = omega arith
said_by-some Blocks z = omega arith
said_by-some (CheckWord b) z = omega arith
said_by-some Header z = omega arith
said_by-some Rest z = omega arith
said_by-some Text z = omega arith
said_by-some OffCircle z = omega arith
said_by-some Set z = omega arith
said_by-some NoRow z = omega arith

-- of two lists of faults, the refusal that the first says is said by both together
pub refused_first : (r : Refusal) (fs gs : List Said) → said_by r ≡ said fs → said_by r ≡ said (fs ++ gs)
refused_first r fs gs e = e ∙ says_first fs gs (λ z. said_by-some r (ap (λ (s : Said). s.0) e ∙ z))

-- where the first says nothing, both together say what the second does
pub passed_next : {A : Type 0} (r : Result A Refusal) (fs gs : List Said) → Numbered fs → (0, 0, 0) ≡ said fs → outcome r ≡ said gs → outcome r ≡ said (fs ++ gs)
passed_next r fs gs k z e = e ∙ says-next fs gs k (sym (ap (λ (s : Said). s.0) z))
