-- The call's outcomes: a refusal, and the index. Assumes nothing.
use Prim.Native.Nat.{◌*◌, ◌+◌, ◌≤◌, suc, ℕ}
use Rattle.std.specs.Prelude.{Option, Some, None, is_some}
use Rattle.build_refusals.proofs.Refusals.{Clear, clear, clear_round, unfit_refused}
use Rattle.build_refusals.specs.Numbers.{build_faults, said_build}
use Rattle.build.specs.Calls.{Builds}
use Rattle.filling.proofs.Whole.{encode-long}
use Rattle.filling.specs.Filled.{Filled}
use Rattle.growing.specs.Rooted.{Room}
use Rattle.growing.specs.Stages.{Fit}
use Rattle.laws.specs.Every.{Every}
use Rattle.limits.proofs.Numbers.{sized_columns}
use Rattle.limits.proofs.Ranges.{shared}
use Rattle.limits.proofs.Told.{refused_is, taken_is}
use Rattle.limits.specs.Chosen.{choice_ok, chosen, told}
use Rattle.limits.specs.Limits.{max_rows}
use Rattle.limits.specs.Said.{Said, said}
use Rattle.limits.specs.declared.Params.{Params}
use Rattle.measure.specs.Table.{between, rows_of}
use Rattle.split.specs.Places.{node_at_lem}
use Rattle.tree.proofs.Built.{build-accepted}
use Rattle.tree.specs.Build.{build}
use Rattle.tree.specs.Check.{Accepted}
use Rattle.tree.specs.Encode.{encode}
use borrow.Author.Tests.{ne_eqb}
use lib.Dec.{T as IsSo, eqb}
use lib.ListN.{drop, get_or, length, take}
use lib.Seq.{length-take-le, take_at}
use mathlib.Core.Bool.{Bool, false, not, true}
use mathlib.Core.List.{List, [], ◌++◌, ◌∷◌}
use mathlib.Core.Logic.{◌≢◌}
use mathlib.Core.Path.{◌∙◌, ◌≡◌, ap, ap₂, refl, subst, sym}

-- ---- the constructor's answer, and what the test is told of it
-- what is unfit is what the constructor refuses
pub unfit_is : (r : Option Params) (b : Bool) (c m l o e : ℕ) → is_some r ≡ not b → told r ≡ chosen c m l o e → b ≡ not (choice_ok c m l o e)
unfit_is (Some p) true c m l o e s t = absurd (subst IsSo s tt)
unfit_is (Some p) false c m l o e s t = ap not (sym (taken_is p c m l o e t).0)
unfit_is None true c m l o e s t = ap not (sym (refused_is c m l o e t))
unfit_is None false c m l o e s t = absurd (subst IsSo (sym s) tt)

-- so that what the test says is what the call says
pub said_is : (T : List ℕ) (c o e m l room work : ℕ) {b : Bool} {v : Said} → b ≡ not (choice_ok c m l o e)
    → v ≡ said (build_faults T c o b room work) → v ≡ said_build T c o e m l room work
unfolding said_build
said_is T c o e m l room work q h = h ∙ ap (λ b. said (build_faults T c o b room work)) q

-- and the test does not pass where the constructor refuses
pub unfit_passed : (T : List ℕ) (c o room work : ℕ) (b : Bool) → false ≡ not b → ◌≡◌ {A = Said} (0, 0, 0) (said (build_faults T c o b room work)) → ⊥
unfit_passed T c o room work true s e = unfit_refused T c o room work (ap (λ (v : Said). v.0) e) refl
unfit_passed T c o room work false s e = absurd (subst IsSo (sym s) tt)

-- ---- a refusal
-- both rooms are as they were, and the counts are 0: the contract is met
pub refused_builds : {T : List ℕ} {c o e m l : ℕ} {room work : List ℕ} {number : ℕ}
    → number ≡ (said_build T c o e m l (length room) (length work)).0 → number ≢ 0 → Builds T c o e m l room work room work number 0 0
refused_builds {number = number} q h =
    let f : eqb number 0 ≡ false = ne_eqb number 0 h in
    record {
      said = q;
      counted = (rw f, rw f);
      index = rw f;
      cleared = rw f;
      accepted = λ z. absurd (h z);
    }

-- ---- the index
-- numbers of 16 bits, by place and as a fact of the list
pub small : (T : List ℕ) → ((i : ℕ) → get_or T i 0 ≤ 65535) → Every (λ v. v ≤ 65535) T
small [] h = tt
small (x ∷ T) h = (h 0, small T (λ i. h (suc i)))

-- nothing is refused, and p holds what was asked for
pub record Passed (T : List ℕ) (c o e m l : ℕ) (room work : List ℕ) (p : Params) : Type 0 where
  pub none : (said_build T c o e m l (length room) (length work)).0 ≡ 0
  pub m_is : p.centres ≡ m
  pub l_is : p.leaf ≡ l
  pub o_is : p.circles ≡ o

-- that is so where the constructor took them and the test passed
pub passed_of : (T : List ℕ) (c o e m l : ℕ) (room work : List ℕ) (b : Bool) {r : Option Params} {p : Params} → r ≡ Some p → is_some r ≡ not b
    → told r ≡ chosen c m l o e → ◌≡◌ {A = Said} (0, 0, 0) (said (build_faults T c o b (length room) (length work)))
    → Passed T c o e m l room work p
passed_of T c o e m l room work b {r} {p} i s t z =
    let took = taken_is p c m l o e (ap told (sym i) ∙ t) in
    record {
      none = sym (ap (λ (v : Said). v.0) (said_is T c o e m l (length room) (length work) (unfit_is r b c m l o e s t) z));
      m_is = took.1;
      l_is = took.2;
      o_is = took.3;
    }

module _ {T : List ℕ} {c o e m l : ℕ} {room work : List ℕ} {p : Params} (passed : Passed T c o e m l room work p) where
  -- every test is passed
  cleared : Clear T c o e m l (length room) (length work)
  cleared = clear T c o e m l (length room) (length work) passed.none

  -- there is a column
  pub columns_some : 1 ≤ c
  columns_some = cleared.table.some

  -- few enough rows
  pub rows-most : rows_of T c ≤ max_rows
  rows-most = cleared.table.rows

  -- the part of the workspace that is used
  pub work_long : 6 * rows_of T c ≤ length work
  work_long = cleared.words

  -- as it is lent
  pub part_long : length (take (6 * rows_of T c) work) ≡ 6 * rows_of T c
  part_long = length-take-le (6 * rows_of T c) work work_long

  -- the numbers are in range
  pub built_fit : Fit T c m l (rows_of T c)
  built_fit =
      let t = cleared.table in
      let s = shared m l cleared.share in
      record { columns = t.few; rows = t.rows; table = t.inside; two = s.two; most = s.most; leafy = s.leafy; leaf = s.leaf }

  -- what filling asks
  pub built_room : Room T c p.centres p.leaf (rows_of T c) room (take (6 * rows_of T c) work)
  built_room = rw (passed.m_is, passed.l_is) record { fit = built_fit; space = cleared.space; halves = part_long }

  -- the full check accepts the words of a table of 16-bit numbers
  words-accepted : ((i : ℕ) → get_or T i 0 ≤ 65535) → {room' : List ℕ} {words : ℕ} → words ≡ length (build T c o 2 m l)
      → room' ≡ build T c o 2 m l ++ drop (length (build T c o 2 m l)) room → Accepted (between T c o) (take words room')
  words-accepted narrow long index =
      let B : List ℕ = build T c o 2 m l in
      let t = cleared.table in
      subst (Accepted (between T c o)) (sym (ap₂ take long index ∙ take_at B (drop (length B) room) (length B) refl))
      (build-accepted T c o 2 m l refl (sized_columns (length T) c t) cleared.circles cleared.share t.rows (small T narrow)
      (clear_round T c o e m l (length room) (length work) cleared))

  -- the index is filled in: the contract is met
  pub built_builds : {room' part' work' : List ℕ} {nodes words made : ℕ} → ((i : ℕ) → get_or T i 0 ≤ 65535)
      → Filled T c p.circles p.centres p.leaf (rows_of T c) room room' part' nodes
      → work' ≡ part' ++ drop (6 * rows_of T c) work → (words ≡ node_at_lem nodes + 2 * rows_of T c) × (made ≡ nodes)
      → Builds T c o e m l room work room' work' 0 words made
  unfolding build encode
  built_builds {room'} {part'} {work'} {nodes} {words = words} narrow filled h w =
      let got : Filled T c o m l (rows_of T c) room room' part' nodes = rw (passed.m_is, passed.l_is, passed.o_is) at filled in
      let long : words ≡ length (build T c o 2 m l) = w.0 ∙ sym (encode-long built_fit o got.count) in
      rw w.1 record {
        said = sym passed.none;
        counted = (long, got.count);
        index = got.index;
        cleared = h ∙ ap (λ (x : List ℕ). x ++ drop (6 * rows_of T c) work) got.cleared;
        accepted = λ z. words-accepted narrow long got.index;
      }
