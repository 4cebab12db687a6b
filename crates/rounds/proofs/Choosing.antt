-- One round, and one round after the other. Assumes nothing.
use Prim.Native.Nat.{◌%◌, ◌*◌, ◌+◌, ◌-◌, ◌<◌, ◌≤◌, suc, ℕ}
use Rattle.rounds.proofs.Entries.{but_entries, entries_front, others-entries}
use Rattle.rounds.proofs.Parts.{mid_end, put_end}
use Rattle.rounds.specs.Entries.{Entries, all_but, far_in, near_all, next, others, own, round_of, rounds_of}
use borrow.Rule.Slice.PartMut.{mid_of, put_mid}
use lib.ListN.{drop, get_or, length, length-append, length-drop, take, take-append-drop}
use lib.Seq.{drop_at, length-take-le, take_at}
use mathlib.Core.List.{List, ◌++◌, ◌∷◌, append_assoc}
use mathlib.Core.Path.{◌∙◌, ◌≡◌, ap, ap₂, refl, subst, sym}
use native.Mathlib.Omega.{arith}

-- ---- a round: the entry at b is shifted over, and row j is put in front
module _ (es : List ℕ) (b : ℕ) {j : ℕ} {shift put : List ℕ} (long : 3 ≤ length es) (row : j ≡ get_or es b 0)
    (shifted : shift ≡ take 3 es ++ all_but b es) (fronted : put ≡ j ∷ 0 ∷ j ∷ drop 3 shift) where
  -- the others stand behind it
  round-rest : drop 3 put ≡ all_but b es
  round-rest = ap (drop 3) fronted ∙ ap (drop 3) shifted ∙ drop_at (take 3 es) (all_but b es) 3 (length-take-le 3 es long)

  -- they are entries still, and row j has P
  pub round-requires : (P : ℕ → Type 0) → Entries P es → b % 3 ≡ 0 → b + 3 ≤ length es → Entries P (mid_of 3 (length put - 3) put) × P j
  round-requires P e place fits =
      let r = but_entries P es b e place fits in
      (subst (Entries P) (sym (mid_end 3 put ∙ round-rest)) r.0, subst P (sym row) r.1)

  -- they have learnt of it, and the round is done
  pub round-done : (d : ℕ → ℕ → ℕ) (bound : ℕ) (near : List ℕ) → b ≡ far_in bound es → near ≡ near_all d j (mid_of 3 (length put - 3) put)
      → put_mid 3 (length put - 3) put near ≡ round_of d bound es
  unfolding others
  round-done d bound near at n =
      let chosen : j ≡ next bound es = row ∙ ap (λ (k : ℕ). get_or es k 0) at in
      put_end 3 put near ∙ ap₂ (λ (a b : List ℕ). take 3 a ++ b) fronted (n ∙ ap (near_all d j) (mid_end 3 put ∙ round-rest)) ∙ rw (← chosen, ← at)

-- ---- the rounds
-- r centres are at the front
pub record Choosing (P : ℕ → Type 0) (d : ℕ → ℕ → ℕ) (m early : ℕ) (run₀ run : List ℕ) (r : ℕ) : Type 0 where
  pub low : 1 ≤ r
  pub high : r ≤ m
  pub some : m ≤ early
  pub room : 3 * early ≤ length run
  pub long : length run ≡ length run₀
  pub left : Entries P (drop (3 * r) run)
  pub whole : take (3 * r) run ++ rounds_of d (m - r) (3 * early - 3 * r) (drop (3 * r) run)
      ≡ take 3 run₀ ++ rounds_of d (m - 1) (3 * early - 3) (drop 3 run₀)

-- the run's first is the first centre
pub choosing_start : (P : ℕ → Type 0) (d : ℕ → ℕ → ℕ) (m early : ℕ) (run : List ℕ) → 1 ≤ m → m ≤ early → 3 * early ≤ length run → Entries P run
    → Choosing P d m early run run 1
choosing_start P d m early run h s l e =
    record { low = omega arith; high = h; some = s; room = l; long = refl; left = (entries_front P run e (omega arith)).after; whole = refl }

module _ {P : ℕ → Type 0} {d : ℕ → ℕ → ℕ} {m early : ℕ} {run₀ run : List ℕ} {r : ℕ} (inv : Choosing P d m early run₀ run r) where
  -- how many words of those that wait may be chosen from
  abbrev bound : ℕ
  bound = 3 * early - 3 * r

  -- whole entries, one or more
  bounded : r < m → (3 ≤ bound) × (bound ≤ length (drop (3 * r) run)) × (bound % 3 ≡ 0)
  bounded h =
      let s : m ≤ early = inv.some in
      let thrice : bound ≡ 3 * (early - r) = omega arith in
      (omega arith, omega (arith, length-drop (3 * r) run, inv.room), rw thrice (omega arith))

  -- there is an entry to choose, and all that wait are entries
  pub choosing-requires : r < m → Entries P (mid_of (3 * r) (length run - 3 * r) run) × (3 ≤ 3 * early - 3 * r)
      × (3 * early - 3 * r ≤ length (mid_of (3 * r) (length run - 3 * r) run)) × ((3 * early - 3 * r) % 3 ≡ 0)
  choosing-requires h = rw (mid_end (3 * r) run) (inv.left, (bounded h).0, (bounded h).1, (bounded h).2)

  -- one centre more is chosen
  pub choosing-step : (new : List ℕ) → r < m → new ≡ round_of d (3 * early - 3 * r) (mid_of (3 * r) (length run - 3 * r) run)
      → Choosing P d m early run₀ (put_mid (3 * r) (length run - 3 * r) run new) (r + 1)
  unfolding rounds_of
  choosing-step new h e =
      let at : ℕ = 3 * r in
      let es : List ℕ = drop at run in
      let rest : List ℕ = others d bound es in
      let front : List ℕ = take at run ++ own (next bound es) in
      let room : 3 * early ≤ length run = inv.room in
      let some : m ≤ early = inv.some in
      let o = others-entries P d bound es inv.left (bounded h).0 (bounded h).1 (bounded h).2 in
      let split : put_mid at (length run - at) run new ≡ front ++ rest =
      put_end at run new ∙ ap (λ (a : List ℕ). take at run ++ a) (e ∙ ap (round_of d bound) (mid_end at run))
      ∙ sym (append_assoc (take at run) (own (next bound es)) rest) in
      let size : length front ≡ 3 * (r + 1) =
      omega (arith, length-append (take at run) (own (next bound es)), length-take-le at run (omega arith)) in
      let fore : take (3 * (r + 1)) (put_mid at (length run - at) run new) ≡ front =
      ap (take (3 * (r + 1))) split ∙ take_at front rest (3 * (r + 1)) size in
      let back : drop (3 * (r + 1)) (put_mid at (length run - at) run new) ≡ rest =
      ap (drop (3 * (r + 1))) split ∙ drop_at front rest (3 * (r + 1)) size in
      let total : length (put_mid at (length run - at) run new) ≡ length run =
      ap length split ∙ omega (arith, length-append front rest, o.1, length-drop at run) in
      let less : m - r ≡ suc (m - (r + 1)) = omega arith in
      let fewer : 3 * early - 3 * (r + 1) ≡ bound - 3 = omega arith in
      record {
        low = omega arith;
        high = omega arith;
        some = some;
        room = omega (arith, total);
        long = total ∙ inv.long;
        left = subst (Entries P) (sym back) o.0;
        whole =
            ap₂ (λ (a b : List ℕ). a ++ rounds_of d (m - (r + 1)) (3 * early - 3 * (r + 1)) b) fore back
            ∙ append_assoc (take at run) (own (next bound es)) (rounds_of d (m - (r + 1)) (3 * early - 3 * (r + 1)) rest)
            ∙ ap (λ (k : ℕ). take at run ++ (own (next bound es) ++ rounds_of d (m - (r + 1)) k rest)) fewer
            ∙ ap (λ (k : ℕ). take at run ++ rounds_of d k bound es) (sym less)
            ∙ inv.whole;
      }

  -- all m centres are at the front
  pub choosing_done : m ≤ r → run ≡ take 3 run₀ ++ rounds_of d (m - 1) (3 * early - 3) (drop 3 run₀)
  unfolding rounds_of
  choosing_done h =
      let z : m - r ≡ 0 = omega arith in
      sym (take-append-drop (3 * r) run) ∙ ap (λ (k : ℕ). take (3 * r) run ++ rounds_of d k bound (drop (3 * r) run)) (sym z) ∙ inv.whole
