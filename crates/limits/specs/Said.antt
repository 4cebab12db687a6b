-- What a call says: 01, Numbers given back. Assumes nothing.
use Rattle.std.specs.Prelude.{◌%◌, ◌/◌, ℕ, eqb, ltb, Bool, cond, false, not, List, [], ◌++◌, ◌∷◌}
use Rattle.limits.specs.Limits.{columns_ok_lem, max_rows}
use Rattle.limits.specs.declared.Asked.{Asked}

-- a number and two places
abbrev pub Said : Type 0
Said = ℕ × ℕ × ℕ

-- of the faults, listed with the lowest number and place first, the first; 0 where there is none. With a list "of several, the lowest" needs no other
-- words, and all is total: 0 columns have their answer too
abbrev pub said : List Said → Said
said [] = (0, 0, 0)
said (f ∷ fs) = f

-- the fault numbered k, which names no place, where the test says so
abbrev pub fault : ℕ → Bool → List Said
fault k b = cond b ((k, 0, 0) ∷ []) []

-- every refusal that numbers decide: 1 the columns, 2 m, l, the circles or the edition, 3 and 4 the table's length, 5 a lent room, 6 the query's
-- length, 7 none wanted
unfoldable pub number_faults : Asked → List Said
number_faults a =
    fault 1 (not (columns_ok_lem a.columns))
    ++ (fault 2 a.unfit
    ++ (fault 3 (not (eqb (a.length % a.columns) 0))
    ++ (fault 4 (ltb max_rows (a.length / a.columns))
    ++ (fault 5 a.short
    ++ (fault 6 a.unlike
    ++ fault 7 a.none)))))

-- what a call asks that has the table's parts alone: 1, 3 and 4
abbrev pub tabled : ℕ → ℕ → Asked
tabled length c = record { length = length; columns = c; unfit = false; short = false; unlike = false; none = false }
